-- Lists of values at the front of units.
use Rattle.std.proofs.Common.{◌≡◌, ℕ, ◌+◌, ◌<◌, ◌≤◌, ◌^◌, List, [], ◌∷◌, ◌++◌, true, length, sym, ap, ◌∙◌}
use Rattle.std.proofs.Common.{arith, append_assoc, append-nil, drop}
use Rattle.std.proofs.Common.{Bor, Option, Some, None}
use Rattle.std.specs.Prelude.{MatchOption}
use Rattle.std.specs.Fmt.{decimal}
use Rattle.std.specs.List.{AllByRecursion}
use Rattle.jl_value.specs.declared.value.Seen.{Seen}
use Rattle.jl_record.specs.Facts.{a_value, some_values, seen_mark, seen_marks, IsSeen}
use Rattle.jl_record.specs.Parts.{is_at_end}
use Rattle.jl_record.specs.Reading.{IsFirst, NoneIsFirst, Takes, Fails}
use Rattle.jl_record.proofs.Marks.{one_fact, one_decimal, at_end_marks}
use Rattle.jl_record.proofs.Peeling.{all_append}

-- a number of values
abbrev pub AreValues : (count : ℕ) → List Seen → Type 0
AreValues count seen = (length seen ≡ count) × AllByRecursion IsSeen seen

-- these have been read, and these units are left
pub record SoFar (units : List ℕ) (items : List Seen) (rest : List ℕ) : Type 0 where
  pub are : AllByRecursion IsSeen items
  pub end : is_at_end rest ≡ true
  pub marked : units ≡ seen_marks items ++ rest

-- what is left of a longer list is marked by what is left
peel : (all items : List Seen) (left rest : List ℕ) → AllByRecursion IsSeen all → AllByRecursion IsSeen items
    → is_at_end left ≡ true → is_at_end rest ≡ true → length items ≤ length all
    → seen_marks items ++ rest ≡ seen_marks all ++ left
    → (more : List Seen) × AllByRecursion IsSeen more × (length all ≡ length items + length more)
    × (rest ≡ seen_marks more ++ left)
peel all [] left rest p q s t l e = (all, p, omega arith, e)
peel [] (b ∷ items) left rest p q s t l e = absurd (omega arith)
peel (a ∷ all) (b ∷ items) left rest p q s t l e =
    let tails : (seen_mark b ++ seen_marks items) ++ rest ≡ (seen_mark a ++ seen_marks all) ++ left =
    ap (λ us. drop 1 us) e in
    let first = one_fact a_value b a (seen_marks items ++ rest) (seen_marks all ++ left) q.0 p.0
    (at_end_marks items rest t) (at_end_marks all left s)
    (sym (append_assoc (seen_mark b) (seen_marks items) rest) ∙ tails
    ∙ append_assoc (seen_mark a) (seen_marks all) left) in
    let more = peel all items left rest p.1 q.1 s t (omega arith) first.1 in
    (more.0, more.1, omega (arith, more.2), more.3)

-- the next of them, where there is one
pub record HasNext (rest left : List ℕ) : Type 0 where
  pub value : Seen
  pub more : List Seen
  pub is : IsSeen value
  pub marked : rest ≡ 32 ∷ (seen_mark value ++ (seen_marks more ++ left))

has_next : (more : List Seen) (rest left : List ℕ) → AllByRecursion IsSeen more → 0 < length more
    → rest ≡ seen_marks more ++ left → HasNext rest left
has_next [] rest left p l f = absurd (omega arith)
has_next (a ∷ more) rest left p l f = record {
  value = a;
  more = more;
  is = p.0;
  marked = f ∙ ap (λ us. 32 ∷ us) (append_assoc (seen_mark a) (seen_marks more) left);
}

module _ (units : List ℕ) (count : ℕ) (items : List Seen) (rest : List ℕ) (so_far : SoFar units items rest) where
  next : length items < count → (all : List Seen) (left : List ℕ) → AreValues count all → is_at_end left ≡ true
      → units ≡ seen_marks all ++ left → HasNext rest left
  next fewer all left are end e =
      let p = peel all items left rest are.1 so_far.are end so_far.end (omega (arith, are.0)) (sym so_far.marked ∙ e) in
      has_next p.0 rest left p.1 (omega (arith, p.2, are.0)) p.3

  pub no_space : length items < count → ((more : List ℕ) → rest ≡ 32 ∷ more → ⊥)
      → NoneIsFirst (AreValues count) seen_marks units
  no_space fewer none all left are end e = none _ (next fewer all left are end e).marked

  pub no_value : length items < count → (front : List ℕ) → rest ≡ 32 ∷ front → Fails a_value front
      → NoneIsFirst (AreValues count) seen_marks units
  no_value fewer front space none all left are end e =
      let n = next fewer all left are end e in
      none n.value (seen_marks n.more ++ left) n.is (at_end_marks n.more left end)
      (ap (λ us. drop 1 us) (sym space ∙ n.marked))

  pub one_more : (front : List ℕ) (a : Seen) (after : List ℕ) → rest ≡ 32 ∷ front → Takes a_value front a after
      → SoFar units (items ++ a ∷ []) after
  one_more front a after space takes = record {
    are = all_append IsSeen items (a ∷ []) so_far.are (takes.is, tt);
    end = takes.end;
    marked = so_far.marked ∙ ap (λ us. seen_marks items ++ us) (space ∙ ap (λ us. 32 ∷ us) takes.marked)
        ∙ pushed items a after;
  }
    where
      pushed : (items : List Seen) (a : Seen) (after : List ℕ)
          → seen_marks items ++ 32 ∷ (seen_mark a ++ after) ≡ seen_marks (items ++ a ∷ []) ++ after
      pushed [] a after = ap (λ us. 32 ∷ us) (ap (λ us. us ++ after) (sym (append-nil (seen_mark a))))
      pushed (b ∷ items) a after =
          ap (λ us. 32 ∷ us)
          (append_assoc (seen_mark b) (seen_marks items) (32 ∷ (seen_mark a ++ after))
          ∙ ap (λ us. seen_mark b ++ us) (pushed items a after)
          ∙ sym (append_assoc (seen_mark b) (seen_marks (items ++ a ∷ [])) after))

pub counted : (units : List ℕ) (count : ℕ) (items : List Seen) (rest : List ℕ) → SoFar units items rest
    → length items ≡ count → IsFirst (AreValues count) seen_marks units items rest
counted units count items rest so_far all = record {
  is = (all, so_far.are);
  end = so_far.end;
  marked = so_far.marked;
}

-- ---- after their number

module _ (units rest : List ℕ) (count : ℕ)
    (number : (count < 2 ^ 64) × (is_at_end rest ≡ true) × (units ≡ decimal count ++ rest)) where
  pub no_values : NoneIsFirst (AreValues count) seen_marks rest → Fails some_values units
  no_values none seen left are end e =
      let known = one_decimal count (length seen) rest (seen_marks seen ++ left) number.0 are.0 number.1
      (at_end_marks seen left end)
      (sym number.2 ∙ e ∙ append_assoc (decimal (length seen)) (seen_marks seen) left) in
      none seen left (sym known.0, are.1) end known.1

  pub values_taken : (seen : List Seen) (left : List ℕ) → IsFirst (AreValues count) seen_marks rest seen left
      → Takes some_values units seen left
  values_taken seen left here = record {
    is = (omega (arith, here.is.0, number.0), here.is.1);
    end = here.end;
    marked = number.2 ∙ ap (λ us. decimal count ++ us) here.marked
        ∙ ap (λ n. decimal n ++ (seen_marks seen ++ left)) (sym here.is.0)
        ∙ sym (append_assoc (decimal (length seen)) (seen_marks seen) left);
  }

pub no_number : (units : List ℕ)
    → ((n : ℕ) (rest : List ℕ) → n < 2 ^ 64 → is_at_end rest ≡ true → units ≡ decimal n ++ rest → ⊥)
    → Fails some_values units
no_number units none seen left are end e =
    none (length seen) (seen_marks seen ++ left) are.0 (at_end_marks seen left end)
    (e ∙ append_assoc (decimal (length seen)) (seen_marks seen) left)

-- what reading the values after their number tells
pub of_counted : (units rest : List ℕ) (count : ℕ)
    → (count < 2 ^ 64) × (is_at_end rest ≡ true) × (units ≡ decimal count ++ rest)
    → (found : Option (List Seen × Bor (List ℕ)))
    → MatchOption found (NoneIsFirst (AreValues count) seen_marks rest)
    (λ x. IsFirst (AreValues count) seen_marks rest x.0 x.1.now)
    → MatchOption found (Fails some_values units) (λ x. Takes some_values units x.0 x.1.now)
of_counted units rest count number None h = no_values units rest count number h
of_counted units rest count number (Some x) h = values_taken units rest count number x.0 x.1.now h
