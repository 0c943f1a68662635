-- What is left of a list from an index on.
use Rattle.std.proofs.Common.{◌≡◌, ◌+◌, ◌∷◌, [], List, None, Some, ℕ, drop, suc, zero, ap, refl, sym, ◌∙◌}
use Rattle.std.proofs.Common.{◌<◌, ◌≤◌, ◌++◌, add-one, arith, append_assoc, drop-cons, get_or, length, map, subst}
use Rattle.std.proofs.lemmas.Option.{get_or_from_slice_get, slice_get-get_or, slice_get_within}
use Rattle.std.specs.List.{slice_get}

pub dropped_next : {A : Type 0} (l : List A) (k : ℕ) (x : A) → slice_get l k ≡ Some x
    → drop k l ≡ x ∷ drop (k + 1) l
dropped_next l k x is =
    drop-cons l k x (slice_get_within l k x is)
    ∙ ap (λ y. y ∷ drop (suc k) l) (get_or_from_slice_get l k x x is)
    ∙ ap (λ n. x ∷ drop n l) (sym (add-one k))

pub dropped_here : {A : Type 0} (l : List A) (k : ℕ) (x : A) → k < length l → x ≡ get_or l k x
    → drop k l ≡ x ∷ drop (k + 1) l
dropped_here l k x within is =
    drop-cons l k x within
    ∙ ap (λ y. y ∷ drop (suc k) l) (sym is)
    ∙ ap (λ n. x ∷ drop n l) (sym (add-one k))

pub dropped_none : {A : Type 0} (l : List A) (k : ℕ) → slice_get l k ≡ None → drop k l ≡ []
dropped_none [] zero is = refl
dropped_none [] (suc k) is = refl
dropped_none (x ∷ l) zero is = absurd (let differ = is in cc)
dropped_none (x ∷ l) (suc k) is = dropped_none l k is

pub pushed : {A B : Type 0} (f : A → B) (l : List A) (x : A) → map f (l ++ x ∷ []) ≡ map f l ++ f x ∷ []
pushed f [] x = refl
pushed f (y ∷ l) x = ap (λ m. f y ∷ m) (pushed f l x)

-- one more of them is there, and one less is left
pub mapped_more : {A B : Type 0} (f : A → B) (m : List B) (i : ℕ) (all more l items : List A) (x : A)
    → map f all ++ map f (drop i l) ≡ m → items ≡ l → i < length items → x ≡ get_or items i x → more ≡ all ++ x ∷ []
    → map f more ++ map f (drop (i + 1) l) ≡ m
mapped_more f m i all more l items x before same within is grown =
    ap (λ k. map f k ++ map f (drop (i + 1) l)) grown
    ∙ ap (λ k. k ++ map f (drop (i + 1) l)) (pushed f all x)
    ∙ append_assoc (map f all) (f x ∷ []) (map f (drop (i + 1) l))
    ∙ ap (λ n. map f all ++ f x ∷ map f (drop (i + 1) n)) (sym same)
    ∙ ap (λ k. map f all ++ map f k) (sym (dropped_here items i x within is))
    ∙ ap (λ n. map f all ++ map f (drop i n)) same
    ∙ before

pub found_at : {A : Type 0} (l items : List A) (k : ℕ) (x : A) → items ≡ l → k < length items → x ≡ get_or items k x
    → slice_get l k ≡ Some x
found_at l items k x same within is =
    subst (λ m. slice_get m k ≡ Some x) same (slice_get-get_or items k x within ∙ ap Some (sym is))

pub dropped_beyond : {A : Type 0} (l : List A) (k : ℕ) → length l ≤ k → drop k l ≡ []
dropped_beyond [] zero short = refl
dropped_beyond [] (suc k) short = refl
dropped_beyond (x ∷ l) zero short = absurd (omega (arith, short))
dropped_beyond (x ∷ l) (suc k) short = dropped_beyond l k (omega (arith, short))
