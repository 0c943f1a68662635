use Rattle.std.proofs.lemmas.Result.{IfOk-weaker}
use Rattle.jl_lib_array.proofs.Read.{reads_primitive}
use Rattle.jl_lib_array.proofs.sorting.step_sort_primitive.Goals as goal

pub returns-clause-refines : goal.returns-clause-refines
returns-clause-refines c =
    IfOk-weaker _ _ _ (λ a refines. reads_primitive _ _ _ c.args.reading c.args.read _ c.args.element c.args.p.now _
    c.in_ok-text.ensures c.in_ok-push.ensures.ok refines) c.begin_turn.ensures.refines
