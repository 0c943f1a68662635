use Rattle.std.proofs.lemmas.Result.{IfOk-weaker}
use Rattle.jl_lib_array.proofs.Read.{reads_missing, reads_there}
use Rattle.jl_lib_array.proofs.sorting.read_element.Goals as goal

pub returns-then-branch-clause-refines : goal.returns-then-branch-clause-refines
returns-then-branch-clause-refines c =
    IfOk-weaker _ _ _ (λ a refines. reads_there _ _ _ c.args.reading c.args.read c.args.index _
    c.in_ok-has_index.ensures
    c.if-branch.true refines) c.get_for.ensures.refines

pub returns-clause-refines : goal.returns-clause-refines
returns-clause-refines c =
    IfOk-weaker _ _ _ (λ a refines. reads_missing _ _ _ c.args.reading c.args.read c.args.index _
    c.in_ok-has_index.ensures c.if-branch.false refines) c.begin_turn.ensures.refines
