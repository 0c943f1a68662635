use Rattle.std.proofs.Common.{ap, ◌∙◌}
use Rattle.std.proofs.lemmas.Result.{IfOk-weaker}
use Rattle.jl_progress.specs.ArrayCalls.{argument_of}
use Rattle.jl_lib_array.proofs.Slices.{converts_start}
use Rattle.jl_lib_array.proofs.slicing.slice.Goals as goal

pub returns-clause-refines : goal.returns-clause-refines
returns-clause-refines c =
    IfOk-weaker _ _ _ (λ a refines. converts_start _ _ c.args.object c.args.array c.args.length c.args.args.now _ _ _ _
    (c.in_ok-start.ensures ∙ ap (λ l. argument_of l 0) c.items.ensures)
    (c.in_ok-end.ensures ∙ ap (λ l. argument_of l 1) c.items-2.ensures) c.in_ok-push_builtin.ensures.waits refines)
    c.to_primitive.ensures.refines
