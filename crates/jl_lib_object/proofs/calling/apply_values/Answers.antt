use Rattle.std.proofs.Common.{refl, sym, ◌∙◌}
use Rattle.std.proofs.lemmas.Result.{IfOk-weaker}
use Rattle.jl_state.proofs.Acts.{works_act}
use Rattle.jl_builtin.proofs.Calls.{calls_now}
use Rattle.jl_lib_object.proofs.Applications.{has_arguments, no_arguments}
use Rattle.jl_lib_object.proofs.Ends.{goes_on, throws_on}
use Rattle.jl_lib_object.proofs.calling.apply_values.Goals as goal

pub returns-in-Throws-clause-refines : goal.returns-in-Throws-clause-refines
returns-in-Throws-clause-refines c =
    has_arguments _ _ _ _ _ _ (sym c.is_nothing.ensures ∙ c.if-is_nothing.false)
    (throws_on _ _ _ _ _ c.in_ok-thrown.ensures _ c.in-Throws.is)

pub returns-then-is_nothing-clause-refines : goal.returns-then-is_nothing-clause-refines
returns-then-is_nothing-clause-refines c =
    works_act _ _ _ _ c.call.ensures _ (no_arguments _ _ _ _ _ _ (sym c.is_nothing.ensures ∙ c.if-is_nothing.true)
    (calls_now _ _ _ _ _ _ refl c.new.ensures))

pub returns-in-Gives-clause-refines : goal.returns-in-Gives-clause-refines
returns-in-Gives-clause-refines c =
    IfOk-weaker _ _ _ (λ a refines. has_arguments c.args.function c.args.this c.args.state.now _ _ _
    (sym c.is_nothing.ensures ∙ c.if-is_nothing.false)
    (goes_on c.args.state.now _ _ _ _ c.in_ok-thrown.ensures _ _ _ c.in-Gives.is refines)) c.get_length.ensures.refines
