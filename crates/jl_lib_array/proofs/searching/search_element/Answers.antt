use Rattle.std.proofs.Common.{refl}
use Rattle.std.proofs.lemmas.Result.{IfOk-weaker}
use Rattle.jl_progress.specs.ArrayCalls.{search_with}
use Rattle.jl_progress.specs.declared.array_call.ArrayCallProgress.TheVariants as array_call
use Rattle.jl_progress.specs.declared.progress.Progress.TheVariants as progress
use Rattle.jl_builtin.proofs.Waits.{element_missing, element_waits}
use Rattle.jl_lib_array.proofs.Searches.{search_misses}
use Rattle.jl_lib_array.proofs.searching.search_element.Goals as goal

pub returns-then-not-there-clause-refines : goal.returns-then-not-there-clause-refines
returns-then-not-there-clause-refines c =
    IfOk-weaker _ _ _ (λ a refines. element_missing c.args.state.now c.args.object c.args.index _ (search_with
    c.args.direction c.args.object c.args.length c.args.sought c.args.index) _ _ c.in_ok-there.ensures
    c.if-not-there.true (search_misses _ c.args.direction c.args.object c.args.length c.args.sought c.args.index _ _ _
    c.in_ok-at.ensures refines)) c.go_on_searching.ensures.refines

pub returns-clause-refines : goal.returns-clause-refines
returns-clause-refines c =
    IfOk-weaker _ _ _ (λ a refines. element_waits _ _ (progress.ArrayCall (array_call.SearchElement c.args.object
    c.args.length c.args.sought c.args.direction c.args.index)) c.args.object c.args.index _ (search_with
    c.args.direction c.args.object c.args.length c.args.sought c.args.index) _ _ c.in_ok-there.ensures
    c.if-not-there.false (λ v. refl) c.in_ok-push_builtin.ensures.waits refines) c.get_index.ensures.refines
