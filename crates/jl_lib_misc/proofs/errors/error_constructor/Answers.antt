use Rattle.std.proofs.Common.{ap, sym, ◌∙◌}
use Rattle.std.proofs.lemmas.Result.{IfOk-weaker}
use Rattle.std.specs.Prelude.{slice_index_or}
use Rattle.jl_value.specs.declared.value.Value.TheVariants as value
use Rattle.jl_state.specs.Words.{call_of}
use Rattle.jl_lib_misc.proofs.Messages.{constructs_with, constructs_without}
use Rattle.jl_lib_misc.proofs.errors.error_constructor.Goals as goal

pub returns-then-is_undefined-clause-refines : goal.returns-then-is_undefined-clause-refines
returns-then-is_undefined-clause-refines c =
    IfOk-weaker _ _ _ (λ a refines. constructs_without _ c.args.proto (call_of c.args.call.now) _ _ _
    (c.in_ok-message.ensures ∙ ap (λ l. slice_index_or l 0 value.Undefined) c.items.ensures)
    (sym c.is_undefined.ensures ∙ c.if-is_undefined.true) refines) c.give_error.ensures.refines

pub returns-clause-refines : goal.returns-clause-refines
returns-clause-refines c =
    IfOk-weaker _ _ _ (λ a refines. constructs_with _ c.args.proto (call_of c.args.call.now) _ _ _
    (c.in_ok-message.ensures ∙ ap (λ l. slice_index_or l 0 value.Undefined) c.items.ensures)
    (sym c.is_undefined.ensures ∙ c.if-is_undefined.false) refines) c.wait_for_string.ensures.refines
