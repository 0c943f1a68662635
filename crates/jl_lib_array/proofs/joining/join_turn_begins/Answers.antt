use Rattle.std.proofs.Common.{refl}
use Rattle.std.proofs.lemmas.Result.{IfOk-weaker}
use Rattle.jl_lib_array.proofs.Joined.{joins_end, joins_spent, joins_take}
use Rattle.jl_lib_array.proofs.joining.join_turn_begins.Goals as goal

pub returns-then-joining-eq0-clause-refines : goal.returns-then-joining-eq0-clause-refines
returns-then-joining-eq0-clause-refines c =
    IfOk-weaker _ _ _ (λ a refines. joins_end c.args.state.now _ c.args.joining c.args.line _ _ c.if-joining-eq0.true
    c.items.ensures (refines c.args.state.now)) c.give_text.ensures.refines

pub returns-then-not-spend-clause-refines : goal.returns-then-not-spend-clause-refines
returns-then-not-spend-clause-refines c =
    joins_spent c.args.state.now _ c.args.joining c.args.line c.if-joining-eq0.false (c.if-not-spend.ensures.same refl)
    (c.if-not-spend.ensures.ran_out refl)

pub returns-clause-refines : goal.returns-clause-refines
returns-clause-refines c =
    IfOk-weaker _ _ _ (λ a refines. joins_take c.args.state.now _ c.args.joining c.args.line _ _ _
    c.if-joining-eq0.false
    (c.if-not-spend.ensures.took refl) c.in_ok-k.ensures refines) c.join_one.ensures.refines
