-- The item at an index of a list, and those after it.
use Rattle.std.proofs.Common.{◌≡◌, ◌∷◌, [], drop, subst, List, None, Option, Some, ℕ}
use Rattle.std.specs.Prelude.{MatchOption}

-- what was found in a list from an index on: an item and the next index, or nothing
abbrev pub FoundFrom : {A : Type 0} (from : ℕ) → List A → Option (A × ℕ) → Type 0
FoundFrom from l found = MatchOption found (drop from l ≡ []) (λ r. drop from l ≡ r.0 ∷ drop r.1 l)

pub none_from : {A : Type 0} (from : ℕ) (l items : List A) (found : Option (A × ℕ)) → l ≡ items
    → FoundFrom from l found → found ≡ None → drop from items ≡ []
none_from {A} from l items found same there is =
    subst (λ k. drop from k ≡ []) same (subst (λ (o : Option (A × ℕ)). FoundFrom from l o) is there)

pub some_from : {A : Type 0} (from next : ℕ) (l items : List A) (x : A) (found : Option (A × ℕ)) → l ≡ items
    → FoundFrom from l found → found ≡ Some (x, next) → drop from items ≡ x ∷ drop next items
some_from {A} from next l items x found same there is =
    subst (λ k. drop from k ≡ x ∷ drop next k) same (subst (λ (o : Option (A × ℕ)). FoundFrom from l o) is there)
