use Rattle.std.proofs.Common.{ap, ◌∙◌}
use Rattle.std.proofs.lemmas.Result.{IfOk-weaker}
use Rattle.jl_meaning.specs.builtins.Elements.{has_index}
use Rattle.jl_lib_array.proofs.Exchanged.{lower_there, none_there, upper_there}
use Rattle.jl_lib_array.proofs.reversing.step_reverse_upper.Goals as goal

pub returns-then-has_high-clause-refines : goal.returns-then-has_high-clause-refines
returns-then-has_high-clause-refines c =
    IfOk-weaker _ _ _ (λ a refines. upper_there _ _ _ c.args.reversing c.args.low c.args.high _ _
    c.in_ok-has_low.ensures
    (c.in_ok-has_high.ensures ∙ ap (has_index c.args.state.now.store c.args.reversing.object) c.upper_of.ensures)
    c.if-has_high.true _ c.value_if-low.ensures refines) c.put_then.ensures.refines

pub returns-then-has_low-clause-refines : goal.returns-then-has_low-clause-refines
returns-then-has_low-clause-refines c =
    IfOk-weaker _ _ _ (λ a refines. lower_there _ _ _ c.args.reversing c.args.low c.args.high _ _
    c.in_ok-has_low.ensures
    (c.in_ok-has_high.ensures ∙ ap (has_index c.args.state.now.store c.args.reversing.object) c.upper_of.ensures)
    c.if-has_high.false c.if-has_low.true refines) c.move_to_upper.ensures.refines

pub returns-clause-refines : goal.returns-clause-refines
returns-clause-refines c =
    IfOk-weaker _ _ _ (λ a refines. none_there _ _ _ c.args.reversing c.args.low c.args.high _ _ c.in_ok-has_low.ensures
    (c.in_ok-has_high.ensures ∙ ap (has_index c.args.state.now.store c.args.reversing.object) c.upper_of.ensures)
    c.if-has_high.false c.if-has_low.false c.in_ok-turn_after.field-0 c.in_ok-turn_after.ensures.turn refines)
    c.begin_turn.ensures.refines
