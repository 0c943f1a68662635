-- Facts of each of many boxes, one after another.
use Rattle.std.proofs.Common.{◌≡◌, ◌∙◌, ℕ, List, [], ◌∷◌, All, ap, arith}
use Rattle.std.proofs.lemmas.List.Elements.{All-cons}

pub data Each {X : Type 0} (P : X → Type 0) : List X → Type 0 where
  none : Each P []
  more : {x : X} {xs : List X} → P x → Each P xs → Each P (x ∷ xs)

pub each_all : {X : Type 0} {P : X → Type 0} {xs : List X} → Each P xs → All P xs
each_all none = λ k d lt. absurd (omega arith)
each_all {P = P} (more {x = x} {xs = xs} p rest) = All-cons P x xs p (each_all rest)

pub cons_is : {a b : ℕ} {xs ys : List ℕ} → a ≡ b → xs ≡ ys → a ∷ xs ≡ b ∷ ys
cons_is {b = b} {xs = xs} e f = ap (λ x. x ∷ xs) e ∙ ap (λ zs. b ∷ zs) f
