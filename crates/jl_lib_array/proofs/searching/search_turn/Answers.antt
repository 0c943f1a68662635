use Rattle.std.proofs.Common.{refl, sym, ◌∙◌}
use Rattle.std.proofs.lemmas.Result.{IfOk-weaker}
use Rattle.jl_lib_array.proofs.Searches.{search_goes_on, search_over, search_spent}
use Rattle.jl_lib_array.proofs.searching.search_turn.Goals as goal

pub returns-in_default-clause-refines : goal.returns-in_default-clause-refines
returns-in_default-clause-refines c =
    search_over _ c.args.direction c.args.object c.args.length c.args.sought c.args.at _
    (sym c.index_at.ensures ∙ c.in_default.is) c.in_ok-index_or_none.ensures

pub returns-then-not-spend-clause-refines : goal.returns-then-not-spend-clause-refines
returns-then-not-spend-clause-refines c =
    search_spent _ _ c.args.direction c.args.object c.args.length c.args.sought c.args.at _
    (sym c.index_at.ensures ∙ c.in-Some.is) (c.if-not-spend.ensures.same refl) (c.if-not-spend.ensures.ran_out refl)

pub returns-clause-refines : goal.returns-clause-refines
returns-clause-refines c =
    IfOk-weaker _ _ _ (λ a refines. search_goes_on _ _ c.args.direction c.args.object c.args.length c.args.sought
    c.args.at _ _ _ (sym c.index_at.ensures ∙ c.in-Some.is) (c.if-not-spend.ensures.took refl) refines)
    c.search_element.ensures.refines
