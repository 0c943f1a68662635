use Rattle.std.proofs.Common.{◌∙◌, ap, sym}
use Rattle.std.proofs.lemmas.Result.{IfOk-weaker}
use Rattle.jl_progress.specs.ArrayCalls.{argument_of}
use Rattle.jl_state.specs.Words.{call_of}
use Rattle.jl_lib_array.proofs.Starts.{sorts, sorts_not}
use Rattle.jl_lib_array.proofs.sorting.array_sort.Goals as goal

pub returns-then-not-is_undefined-clause-refines : goal.returns-then-not-is_undefined-clause-refines
returns-then-not-is_undefined-clause-refines c =
    sorts_not _ (call_of c.args.call) _ _ _ (c.in_ok-comparator.ensures ∙ ap (λ l. argument_of l 0) c.items.ensures)
    (sym c.is_undefined.ensures ∙ c.if-not-is_undefined.true) (c.unsupported.ensures.refines c.args.state.now)

pub returns-clause-refines : goal.returns-clause-refines
returns-clause-refines c =
    IfOk-weaker _ _ _ (λ a refines. sorts _ (call_of c.args.call) _ _ _ (c.in_ok-comparator.ensures ∙ ap
    (λ l. argument_of l 0) c.items.ensures) (sym c.is_undefined.ensures ∙ c.if-not-is_undefined.false) refines)
    c.begin_with_length.ensures.refines
