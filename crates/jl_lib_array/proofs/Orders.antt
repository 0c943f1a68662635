-- The order in which `sort` puts elements.
use Rattle.std.proofs.Common.{◌≡◌, ◌∙◌, ◌++◌, ◌∷◌, [], ap, cond, drop, length, refl, suc, sym, subst, take}
use Rattle.std.proofs.Common.{false, true, Bool, List, None, Option, Some, ℕ}
use mathlib.Core.Path.{fun_ext}
use Rattle.std.specs.Prelude.{if◌then◌else◌}
use Rattle.std.specs.Cmp.{IsStrictWeakOrder}
use Rattle.std.specs.Cmp.Lexicographic.{slice_cmp}
use Rattle.std.specs.List.{filter, refill}
use Rattle.std.specs.List.Sorted.{ties, IsSortedBy, IsStableBy}
use Rattle.std.specs.Ordering.{is_lt, nat_cmp}
use Rattle.std.proofs.lemmas.Cmp.{nat_list_cmp_total}
use Rattle.std.proofs.lemmas.List.Sorted.{ranks_by}
use Rattle.jl_meaning.specs.builtins.ArrayChanges.{comes_before, insert_in_order, sort_by_keys, KeyedValue}
use Rattle.jl_lib_array.proofs.Stable.{no_tie, none_chain, stably, InOrder, NoneBefore}

-- keys as lists that stand in the order of lists
abbrev listed : Option (List ℕ) → List ℕ
listed None = 1 ∷ []
listed (Some a) = 0 ∷ a

before_listed : (a b : Option (List ℕ)) → is_lt (slice_cmp nat_cmp (listed a) (listed b)) ≡ comes_before a b
before_listed None None = refl
before_listed None (Some b) = refl
before_listed (Some a) None = refl
before_listed (Some a) (Some b) = refl

abbrev pub before : KeyedValue → KeyedValue → Bool
before x y = comes_before x.0 y.0

pub ranks : IsStrictWeakOrder before
ranks =
    subst (λ (t : KeyedValue → KeyedValue → Bool). IsStrictWeakOrder t)
    (fun_ext (λ (x : KeyedValue). fun_ext (λ (y : KeyedValue). before_listed x.0 y.0)))
    (ranks_by nat_list_cmp_total (λ (x : KeyedValue). listed x.0))

-- an element put into a list that is in order

none_inserted : (x y : KeyedValue) (l : List KeyedValue) → before x y ≡ false → NoneBefore before y l
    → NoneBefore before y (insert_in_order x l)
none_inserted x y [] after none = (after, tt)
none_inserted x y (z ∷ l) after none = by (none_inserted x y l after none.1) (before z x)
  where
    by : NoneBefore before y (insert_in_order x l) → (b : Bool)
        → NoneBefore before y (if b then z ∷ insert_in_order x l else x ∷ z ∷ l)
    by later true = (none.0, later)
    by later false = (after, none)

order_inserted : (x : KeyedValue) (l : List KeyedValue) → InOrder before l → InOrder before (insert_in_order x l)
order_inserted x [] ordered = (tt, tt)
order_inserted x (y ∷ l) ordered = by (order_inserted x l ordered.1) (before y x) refl
  where
    by : InOrder before (insert_in_order x l) → (b : Bool) → before y x ≡ b
        → InOrder before (if b then y ∷ insert_in_order x l else x ∷ y ∷ l)
    by later true is = (none_inserted x y l (ranks.one_way y x is) ordered.0, later)
    by later false is = ((is, none_chain before ranks x y l is ordered.0), ordered)

kept_inserted : (w x : KeyedValue) (l : List KeyedValue)
    → filter (ties before w) (insert_in_order x l) ≡ filter (ties before w) (x ∷ l)
kept_inserted w x [] = refl
kept_inserted w x (y ∷ l) = by (kept_inserted w x l) (before y x) refl
  where
    kept : List KeyedValue
    kept = filter (ties before w) l

    swapped : (with_x with_y : Bool) → ties before w x ≡ with_x → ties before w y ≡ with_y → before y x ≡ true
        → cond with_y (y ∷ cond with_x (x ∷ kept) kept) (cond with_x (x ∷ kept) kept)
        ≡ cond with_x (x ∷ cond with_y (y ∷ kept) kept) (cond with_y (y ∷ kept) kept)
    swapped true true e f first = absurd (let differ = sym first ∙ no_tie before ranks w x y e f in cc)
    swapped true false e f first = refl
    swapped false with_y e f first = refl

    by : filter (ties before w) (insert_in_order x l) ≡ filter (ties before w) (x ∷ l) → (b : Bool)
        → before y x ≡ b
        → filter (ties before w) (if b then y ∷ insert_in_order x l else x ∷ y ∷ l)
        ≡ filter (ties before w) (x ∷ y ∷ l)
    by later true is =
        ap (λ k. cond (ties before w y) (y ∷ k) k) later
        ∙ swapped (ties before w x) (ties before w y) refl refl is
    by later false is = refl

-- the definition's sort

sorted_in_order : (l : List KeyedValue) → InOrder before (sort_by_keys l)
sorted_in_order [] = tt
sorted_in_order (x ∷ l) = order_inserted x (sort_by_keys l) (sorted_in_order l)

sorted_kept : (l : List KeyedValue) (w : KeyedValue)
    → filter (ties before w) (sort_by_keys l) ≡ filter (ties before w) l
sorted_kept [] w = refl
sorted_kept (x ∷ l) w =
    kept_inserted w x (sort_by_keys l) ∙ ap (λ k. cond (ties before w x) (x ∷ k) k) (sorted_kept l w)

-- a stable sort by the same order gives the same
pub sorts_alike : (xs ys : List KeyedValue) → IsSortedBy before ys → IsStableBy before xs ys → ys ≡ sort_by_keys xs
sorts_alike xs ys sorted stable =
    stably before ranks xs ys (sort_by_keys xs) sorted stable (sorted_in_order xs) (sorted_kept xs)

-- as many elements come back as were lent

inserted_length : (x : KeyedValue) (l : List KeyedValue) → length (insert_in_order x l) ≡ suc (length l)
inserted_length x [] = refl
inserted_length x (y ∷ l) = by (inserted_length x l) (before y x)
  where
    by : length (insert_in_order x l) ≡ suc (length l) → (b : Bool)
        → length (if b then y ∷ insert_in_order x l else x ∷ y ∷ l) ≡ suc (suc (length l))
    by longer true = ap suc longer
    by longer false = refl

sorted_length : (l : List KeyedValue) → length (sort_by_keys l) ≡ length l
sorted_length [] = refl
sorted_length (x ∷ l) = inserted_length x (sort_by_keys l) ∙ ap suc (sorted_length l)

front : (l rest : List KeyedValue) → take (length l) (l ++ rest) ≡ l
front [] rest = refl
front (x ∷ l) rest = ap (λ k. x ∷ k) (front l rest)

pub sorts_in_place : (l lent after : List KeyedValue) → lent ≡ l → after ≡ sort_by_keys lent
    → refill (length l) l after ≡ sort_by_keys l
sorts_in_place l lent after same sorted =
    let changed : after ≡ sort_by_keys l = sorted ∙ ap sort_by_keys same in
    ap (λ n. take n (after ++ drop (length after) l)) (sym (sorted_length l) ∙ ap length (sym changed))
    ∙ front after (drop (length after) l)
    ∙ changed
