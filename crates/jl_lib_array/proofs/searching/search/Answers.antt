use Rattle.std.proofs.Common.{ap, refl, sym, ◌∙◌}
use Rattle.std.proofs.lemmas.Result.{IfOk-weaker}
use Rattle.jl_progress.specs.ArrayCalls.{argument_of, place_from, search_from}
use Rattle.jl_progress.specs.declared.array_call.ArrayCallProgress.TheVariants as array_call
use Rattle.jl_progress.specs.declared.progress.Progress.TheVariants as progress
use Rattle.jl_builtin.proofs.Waits.{integer_waits}
use Rattle.jl_lib_array.proofs.Searches.{nothing_to_search, searches_all, searches_from}
use Rattle.jl_lib_array.proofs.searching.search.Goals as goal

pub returns-then-length-eq0-clause-refines : goal.returns-then-length-eq0-clause-refines
returns-then-length-eq0-clause-refines c =
    nothing_to_search _ c.args.direction c.args.object c.args.length c.args.args.now _ c.if-length-eq0.true
    c.in_ok-index_or_none.ensures

pub returns-in_default-clause-refines : goal.returns-in_default-clause-refines
returns-in_default-clause-refines c =
    IfOk-weaker _ _ _ (λ a refines. searches_all _ c.args.direction c.args.object c.args.length c.args.args.now _ _ _ _
    c.if-length-eq0.false (sym c.in_ok-from.ensures ∙ c.in_default.is)
    (c.in_ok-sought.ensures ∙ ap (λ l. argument_of l 0) c.items.ensures) c.first_place-at.ensures refines)
    c.go_on_searching.ensures.refines

pub returns-clause-refines : goal.returns-clause-refines
returns-clause-refines c =
    IfOk-weaker _ _ _ (λ a refines. searches_from _ c.args.direction c.args.object c.args.length c.args.args.now _ _ _ _
    c.if-length-eq0.false (sym c.in_ok-from.ensures ∙ c.in-Some.is)
    (c.in_ok-sought.ensures ∙ ap (λ l. argument_of l 0) c.items.ensures) (integer_waits _ _ (progress.ArrayCall
    (array_call.SearchFrom c.args.object c.args.length c.in_ok-sought.sought c.args.direction)) (λ z. search_from
    c.args.direction c.args.object c.args.length c.in_ok-sought.sought (place_from c.args.direction z c.args.length))
    c.in-Some.from _ _ (λ w. refl) c.in_ok-push_builtin.ensures.waits refines)) c.to_primitive.ensures.refines
