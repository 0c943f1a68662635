use Rattle.std.proofs.lemmas.Result.{IfOk-weaker}
use Rattle.jl_lib_array.proofs.Walks.{length_is_for}
use Rattle.jl_lib_array.proofs.walk_lengths.with_length.Goals as goal

pub returns-in-Slice-clause-refines : goal.returns-in-Slice-clause-refines
returns-in-Slice-clause-refines c =
    IfOk-weaker _ _ _ (λ a refines. length_is_for _ _ _ c.args.purpose _ c.args.object c.args.args.now c.args.length
    c.in-Slice.is refines) c.slice.ensures.refines

pub returns-in-Search-clause-refines : goal.returns-in-Search-clause-refines
returns-in-Search-clause-refines c =
    IfOk-weaker _ _ _ (λ a refines. length_is_for _ _ _ c.args.purpose _ c.args.object c.args.args.now c.args.length
    c.in-Search.is refines) c.search.ensures.refines

pub returns-in-Walk-clause-refines : goal.returns-in-Walk-clause-refines
returns-in-Walk-clause-refines c =
    IfOk-weaker _ _ _ (λ a refines. length_is_for _ _ _ c.args.purpose _ c.args.object c.args.args.now c.args.length
    c.in-Walk.is refines) c.begin_walk.ensures.refines
