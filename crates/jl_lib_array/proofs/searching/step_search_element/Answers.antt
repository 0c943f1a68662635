use Rattle.std.proofs.lemmas.Result.{IfOk-weaker}
use Rattle.jl_lib_array.proofs.Searches.{search_found, search_passes}
use Rattle.jl_lib_array.proofs.searching.step_search_element.Goals as goal

pub returns-then-strict_equal-clause-refines : goal.returns-then-strict_equal-clause-refines
returns-then-strict_equal-clause-refines c =
    search_found _ c.args.direction c.args.object c.args.length c.args.sought c.args.index c.args.v.now _ _
    c.strict_equal.ensures c.if-strict_equal.true c.in_ok-index_or_none.ensures

pub returns-clause-refines : goal.returns-clause-refines
returns-clause-refines c =
    IfOk-weaker _ _ _ (λ a refines. search_passes _ c.args.direction c.args.object c.args.length c.args.sought
    c.args.index _ c.args.v.now _ _ _ c.strict_equal.ensures c.if-strict_equal.false c.in_ok-at.ensures refines)
    c.go_on_searching.ensures.refines
