-- What the boxes of a crowd keep while one after another is told of one more operation.
use Rattle.std.proofs.Common.{◌≡◌, ◌<◌, ◌≤◌, ℕ, zero, suc, ◌+◌, Bool, true, false, List, [], ◌∷◌, ◌++◌, length, map}
use Rattle.std.proofs.Common.{All, take, drop, refl, sym, ap, subst, ◌∙◌, arith, append-nil}
use Rattle.std.specs.Prelude.{◌||◌, Result, Ok, Err, OnErr}
use Rattle.std.proofs.Math.ListN.{drop_of_length-le, set, get_or}
use Rattle.std.proofs.Math.Seq.{take-length, map-set_same}
use Rattle.std.proofs.lemmas.List.{length-set}
use Rattle.std.specs.List.{list_any}
use Rattle.jl_op.specs.Operations.{Operation}
use Rattle.jl_analysis.specs.Summary.{Kept, summary}

-- a box has heard of an operation
pub record Told {X : Type 0} (rule : X → ℕ) (refused : X → Bool) (kept : X → Kept) (operation : Operation)
    (old new : X) : Type 0 where
  pub same_rule : rule new ≡ rule old
  pub ready : refused old ≡ false
  pub still_ready : refused new ≡ false
  pub summed : (told : List Operation) → kept old ≡ summary (rule old) told
      → kept new ≡ summary (rule old) (told ++ operation ∷ [])

-- the first n of the boxes are as T says, and the others are as they were
pub data Heard {X : Type 0} (T : X → X → Type 0) : List X → List X → ℕ → Type 0 where
  same : (xs : List X) → Heard T xs xs 0
  more : {x y : X} {xs ys : List X} {n : ℕ} → T x y → Heard T xs ys n → Heard T (x ∷ xs) (y ∷ ys) (suc n)

-- a list that is written back over another of its length
written : {X : Type 0} (n : ℕ) (xs ys : List X) → n ≡ length xs → length ys ≡ length xs
    → take n (ys ++ drop (length ys) xs) ≡ ys
written n xs ys e f =
    ap (λ zs. take n (ys ++ zs)) (drop_of_length-le xs (omega arith)) ∙ ap (take n) (append-nil ys)
    ∙ ap (λ m. take m ys) (e ∙ sym f) ∙ take-length ys

any_at : {X : Type 0} (test : X → Bool) (xs : List X) (n : ℕ) (x : X) → n < length xs → test x ≡ true
    → list_any test (set xs n x) ≡ true
any_at test [] n x l e = absurd (omega arith)
any_at test (y ∷ ys) zero x l e = ap (λ b. b || list_any test ys) e
any_at test (y ∷ ys) (suc n) x l e = or_true (test y) (any_at test ys n x (omega arith) e)
  where
    or_true : (a : Bool) {b : Bool} → b ≡ true → (a || b) ≡ true
    or_true true e = refl
    or_true false e = e

pub on_err : {T E P : Type 0} (r : Result T E) → P → OnErr r P
on_err (Ok v) p = tt
on_err (Err e) p = p

module _ {X : Type 0} {T : X → X → Type 0} where
  pub heard_none : {xs ys : List X} → ys ≡ xs → Heard T xs ys 0
  heard_none {xs} e = subst (λ zs. Heard T xs zs 0) (sym e) (same xs)

  heard_next : {xs ys : List X} {n : ℕ} → Heard T xs ys n → (d y : X) → n < length ys → T (get_or ys n d) y
      → Heard T xs (set ys n y) (suc n)
  heard_next (same []) d y l t = absurd (omega arith)
  heard_next (same (z ∷ zs)) d y l t = more t (same zs)
  heard_next (more s h) d y l t = more s (heard_next h d y (omega arith) t)

  -- one more box
  pub heard_one_more : {xs ys : List X} {n : ℕ} → Heard T xs ys n → (d y : X) → n < length ys → T (get_or ys n d) y
      → Heard T xs (set ys n y) (n + 1)
  heard_one_more {xs} {ys} {n} h d y l t =
      let next : suc n ≡ n + 1 = omega arith in
      subst (λ m. Heard T xs (set ys n y) m) next (heard_next h d y l t)

  heard_length : {xs ys : List X} {n : ℕ} → Heard T xs ys n → length ys ≡ length xs
  heard_length (same xs) = refl
  heard_length (more t h) = ap suc (heard_length h)

  heard_map : {Y : Type 0} (f : X → Y) → ((x y : X) → T x y → f y ≡ f x) → {xs ys : List X} {n : ℕ} → Heard T xs ys n
      → map f ys ≡ map f xs
  heard_map f keeps (same xs) = refl
  heard_map f keeps (more {x} {y} {xs} {ys} t h) =
      ap (λ z. z ∷ map f ys) (keeps x y t) ∙ ap (λ zs. f x ∷ zs) (heard_map f keeps h)

  -- what T keeps, after the boxes are written back
  pub maps_stay : {Y : Type 0} (f : X → Y) → ((x y : X) → T x y → f y ≡ f x) → {xs ys : List X} {n : ℕ}
      → Heard T xs ys n → (len : ℕ) → len ≡ length xs
      → map f (take len (ys ++ drop (length ys) xs)) ≡ map f xs
  maps_stay f keeps {xs} {ys} h len e = ap (map f) (written len xs ys e (heard_length h)) ∙ heard_map f keeps h

  -- the same where one more box was changed
  pub maps_stay_at : {Y : Type 0} (f : X → Y) → ((x y : X) → T x y → f y ≡ f x) → {xs ys : List X} {n : ℕ}
      → Heard T xs ys n → (len : ℕ) → len ≡ length xs
      → (y d : X) → f y ≡ f (get_or ys n d) → map f (take len (set ys n y ++ drop (length (set ys n y)) xs)) ≡ map f xs
  maps_stay_at f keeps {xs} {ys} {n} h len e y d g =
      ap (map f) (written len xs (set ys n y) e (length-set ys n y ∙ heard_length h)) ∙ map-set_same f ys n y d g
      ∙ heard_map f keeps h

  -- one box passes a test, and so the boxes do once they are written back
  pub any_passes : (test : X → Bool) {xs ys : List X} {n : ℕ} → Heard T xs ys n → (len : ℕ) → len ≡ length xs → (y : X)
      → n < length ys → test y ≡ true
      → list_any test (take len (set ys n y ++ drop (length (set ys n y)) xs)) ≡ true
  any_passes test {xs} {ys} {n} h len e y l p =
      ap (list_any test) (written len xs (set ys n y) e (length-set ys n y ∙ heard_length h)) ∙ any_at test ys n y l p

  pub none_before : (test : X → Bool) → ((x y : X) → T x y → test x ≡ false) → {xs ys : List X} {n : ℕ}
      → Heard T xs ys n → length xs ≤ n
      → list_any test xs ≡ false
  none_before test fails (same []) l = refl
  none_before test fails (same (x ∷ xs)) l = absurd (omega arith)
  none_before test fails (more {x} {y} {xs} t h) l =
      ap (λ b. b || list_any test xs) (fails x y t) ∙ none_before test fails h (omega arith)

  none_now : (test : X → Bool) → ((x y : X) → T x y → test y ≡ false) → {xs ys : List X} {n : ℕ} → Heard T xs ys n
      → length xs ≤ n → list_any test ys ≡ false
  none_now test fails (same []) l = refl
  none_now test fails (same (x ∷ xs)) l = absurd (omega arith)
  none_now test fails (more {x} {y} {xs} {ys} t h) l =
      ap (λ b. b || list_any test ys) (fails x y t) ∙ none_now test fails h (omega arith)

  pub none_after : (test : X → Bool) → ((x y : X) → T x y → test y ≡ false) → {xs ys : List X} {n : ℕ} → Heard T xs ys n
      → length xs ≤ n → (len : ℕ) → len ≡ length xs
      → list_any test (take len (ys ++ drop (length ys) xs)) ≡ false
  none_after test fails {xs} {ys} h l len e =
      ap (list_any test) (written len xs ys e (heard_length h)) ∙ none_now test fails h l

  all_now : {P Q : X → Type 0} → ((x y : X) → T x y → P x → Q y) → {xs ys : List X} {n : ℕ} → Heard T xs ys n
      → length xs ≤ n → All P xs → All Q ys
  all_now keeps (same []) l a k d b = absurd (omega arith)
  all_now keeps (same (x ∷ xs)) l a k d b = absurd (omega arith)
  all_now keeps (more t h) l a zero d b = keeps _ _ t (a zero d (omega arith))
  all_now keeps (more t h) l a (suc k) d b =
      all_now keeps h (omega arith) (λ j e c. a (suc j) e (omega arith)) k d (omega arith)

-- the boxes keep a summary of one more operation, once they are written back
pub summed_after : {X : Type 0} {rule : X → ℕ} {refused : X → Bool} {kept : X → Kept} {operation : Operation}
    {xs ys : List X} {n : ℕ}
    → Heard (Told rule refused kept operation) xs ys n → length xs ≤ n → (len : ℕ) → len ≡ length xs
    → (told : List Operation)
    → All (λ x. kept x ≡ summary (rule x) told) xs
    → All (λ y. kept y ≡ summary (rule y) (told ++ operation ∷ [])) (take len (ys ++ drop (length ys) xs))
summed_after {rule = rule} {kept = kept} {operation = operation} {xs} {ys} h l len e told a =
    subst (λ zs. All (λ y. kept y ≡ summary (rule y) (told ++ operation ∷ [])) zs)
    (sym (written len xs ys e (heard_length h)))
    (all_now (λ x y t is. t.summed told is ∙ ap (λ r. summary r (told ++ operation ∷ [])) (sym t.same_rule)) h l a)
