use Rattle.std.proofs.lemmas.Result.{IfOk-weaker}
use Rattle.jl_progress.specs.ArrayCalls.{walk_of}
use Rattle.jl_lib_array.proofs.Walks.{reduces, walk_is_for}
use Rattle.jl_lib_array.proofs.walking.begin_task.Goals as goal

pub returns-in-Any-clause-refines : goal.returns-in-Any-clause-refines
returns-in-Any-clause-refines c =
    IfOk-weaker _ _ _ (λ a refines. walk_is_for _ _ _ c.args.purpose _ (walk_of c.args.walk) c.args.args.now c.in-Any.is
    refines) c.go_on_walking.ensures.refines

pub returns-in-ForEach-clause-refines : goal.returns-in-ForEach-clause-refines
returns-in-ForEach-clause-refines c =
    IfOk-weaker _ _ _ (λ a refines. walk_is_for _ _ _ c.args.purpose _ (walk_of c.args.walk) c.args.args.now
    c.in-ForEach.is refines) c.go_on_walking-in-ForEach.ensures.refines

pub returns-in-Map-clause-refines : goal.returns-in-Map-clause-refines
returns-in-Map-clause-refines c =
    IfOk-weaker _ _ _ (λ a refines. walk_is_for _ _ _ c.args.purpose _ (walk_of c.args.walk) c.args.args.now c.in-Map.is
    refines) c.begin_map.ensures.refines

pub returns-in-Filter-clause-refines : goal.returns-in-Filter-clause-refines
returns-in-Filter-clause-refines c =
    IfOk-weaker _ _ _ (λ a refines. walk_is_for _ _ _ c.args.purpose _ (walk_of c.args.walk) c.args.args.now
    c.in-Filter.is refines) c.begin_filter.ensures.refines

pub returns-in_ok-so_far-in-Reduce-clause-refines : goal.returns-in_ok-so_far-in-Reduce-clause-refines
returns-in_ok-so_far-in-Reduce-clause-refines c =
    IfOk-weaker _ _ _ (λ a refines. reduces _ _ _ c.args.purpose _ (walk_of c.args.walk) c.args.args.now _ _
    c.in-Reduce.is c.in_ok-so_far-in-Reduce.ensures c.first_place-at.ensures refines)
    c.go_on_walking-in-Reduce.ensures.refines
