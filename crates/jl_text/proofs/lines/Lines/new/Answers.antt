use Rattle.std.proofs.Common.{◌≡◌, ◌∷◌, ◌++◌, List, ℕ, append-nil, sym, ◌∙◌, ap, subst, length, drop_of_length-le}
use Rattle.jl_text.specs.Places.{starts_after, IsLineTable}
use Rattle.jl_text.proofs.PlacesLemmas.{line_table-IsLineTable}
use Rattle.jl_text.proofs.lines.Lines.new.Goals as goal

pub invariant_of-result : goal.invariant_of-result
invariant_of-result c =
    let none = drop_of_length-le c.args.units.now c.loop-at-test.false in
    let made : c.loop-at.starts.items ≡ 0 ∷ starts_after 0 c.args.units.now =
    sym (append-nil c.loop-at.starts.items) ∙ ap (λ us. c.loop-at.starts.items ++ starts_after c.loop-at.at us)
    (sym none) ∙ c.loop-at.invariant in
    let P : List ℕ → Type 0 = λ starts. IsLineTable starts (length c.args.units.now) in
    subst P (sym made) (line_table-IsLineTable c.args.units.now c.requires)
