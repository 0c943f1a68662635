-- Lemmas on bytes that are told, and on counts.
use Rattle.std.proofs.Common.{◌≤◌, ℕ, ◌+◌, ◌-◌, List, ◌++◌, length, take, drop, Option, None, Some, sym, ap, ◌∙◌}
use Rattle.std.proofs.Common.{append_assoc, inl, inr, arith, subst}
use Rattle.std.proofs.Math.Nat.{eq-or-lt_of_le}
use Rattle.std.proofs.Math.Seq.{take-add}
use Rattle.std.proofs.lemmas.List.{take_rest}
use Rattle.jl_port.specs.Bytes.{with_front, with_end, Takes, Grows}
use Rattle.jl_port.specs.Count.{HasRisen}

-- two takes, one after the other
pub Takes-trans : (a b c : Option (List ℕ)) (xs ys : List ℕ) → Takes a b xs → Takes b c ys → Takes a c (xs ++ ys)
Takes-trans a b None xs ys p q = p ∙ ap (with_front xs) q
Takes-trans a b (Some zs) xs ys p q = p ∙ ap (with_front xs) q ∙ ap Some (sym (append_assoc xs ys zs))

-- two writes, one after the other
pub Grows-trans : (a b c : Option (List ℕ)) (xs ys : List ℕ) → Grows a b xs → Grows b c ys → Grows a c (xs ++ ys)
Grows-trans None b c xs ys p q = q ∙ ap (λ s. with_end s ys) p
Grows-trans (Some zs) b c xs ys p q = q ∙ ap (λ s. with_end s ys) p ∙ ap Some (append_assoc zs xs ys)

-- the front of a list, and then the front of what comes after it, is a longer front
pub Grows-next : (a b c : Option (List ℕ)) (xs : List ℕ) (i n : ℕ) → Grows a b (take i xs)
    → Grows b c (take n (take (length xs - i) (drop i xs))) → Grows a c (take (i + n) xs)
Grows-next a b c xs i n p q =
    subst (Grows a c) (ap (λ l. take i xs ++ take n l) (take_rest xs i) ∙ sym (take-add i n xs))
    (Grows-trans a b c _ _ p q)

-- a count that never falls and rose in a part has risen in the whole
pub HasRisen-part : (a b c d : ℕ) → a ≤ b → b ≤ c → c ≤ d → HasRisen b c → HasRisen a d
HasRisen-part a b c d p q r (inl grew) = inl (omega arith)
HasRisen-part a b c d p q r (inr stands) =
    elim (eq-or-lt_of_le r) [ inl same ↦ inr (sym same ∙ stands) | inr more ↦ inl (omega arith) ]
