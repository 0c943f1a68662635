-- Few units in an array.
use Rattle.std.proofs.Common.{◌≡◌, ℕ, ◌+◌, List, ◌++◌, length, take, refl, ap, sym, ◌∙◌}
use Rattle.std.proofs.lemmas.List.{take_at, append_assoc, length-append}

-- an array whose first items were set to those of a, and then the next ones to those of b
two_fronts : (a b x y : List ℕ) → take (length a + length b) (take (length a) (a ++ x) ++ (b ++ y)) ≡ a ++ b
two_fronts a b x y =
    ap (λ front. take (length a + length b) (front ++ (b ++ y))) (take_at a x (length a) refl)
    ∙ ap (take (length a + length b)) (sym (append_assoc a b y))
    ∙ take_at (a ++ b) y (length a + length b) (length-append a b)

pub both_set : (a b c d x y : List ℕ) → c ≡ a → d ≡ b
    → take (length a + length b) (take (length a) (c ++ x) ++ (d ++ y)) ≡ a ++ b
both_set a b c d x y is was = rw is (rw was (two_fronts a b x y))
