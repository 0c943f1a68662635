-- A fact after a space, and then others: what reading the first and then the others tells.
use Rattle.std.proofs.Common.{◌≡◌, ℕ, List, ◌∷◌, ◌++◌, true, sym, ap, ◌∙◌, drop}
use Rattle.jl_record.specs.Parts.{is_at_end}
use Rattle.jl_record.specs.Reading.{IsFirst, NoneIsFirst, IsKnown, AreOfNone, after_space}

module _ {A B : Type 0} (IsA : A → Type 0) (first : A → List ℕ) (AreB : B → Type 0) (others : B → List ℕ)
    (units rest : List ℕ) (space : units ≡ 32 ∷ rest) (ended : (b : B) → is_at_end (others b) ≡ true) where
  rest_is : (a : A) (b : B) → units ≡ after_space (first a) (others b) → rest ≡ first a ++ others b
  rest_is a b e = ap (λ us. drop 1 us) (sym space ∙ e)

  pub no_fact : NoneIsFirst IsA first rest → (it : A × B) → IsA it.0 × AreB it.1
      → units ≡ after_space (first it.0) (others it.1) → ⊥
  no_fact none it is e = none it.0 (others it.1) is.0 (ended it.1) (rest_is it.0 it.1 e)

  pub no_others : (a : A) (left : List ℕ) → IsKnown IsA first → IsFirst IsA first rest a left
      → AreOfNone AreB others left → (it : A × B) → IsA it.0 × AreB it.1
      → units ≡ after_space (first it.0) (others it.1) → ⊥
  no_others a left known here none it is e =
      none it.1 is.1 (known a it.0 left (others it.1) here.is is.0 here.end (ended it.1)
      (sym here.marked ∙ rest_is it.0 it.1 e)).1
