-- A text that is made of two bounded ones.
use Rattle.std.proofs.Common.{◌≡◌, ℕ, ◌+◌, ◌<◌, ◌≤◌, ◌^◌, true, false, List, [], ◌∷◌, ◌++◌, length, map}
use Rattle.std.proofs.Common.{take, drop, Result, Ok, Err, refl, sym, ap, ◌∙◌, arith, subst}
use Rattle.std.proofs.lemmas.List.{length-append}
use Rattle.std.specs.Prelude.{codes}
use Rattle.jl_op.specs.Operations.{Operation}
use Rattle.jl_report.specs.Off.{Pair}
use Rattle.jl_report.specs.Reports.{saturate_u64}
use Rattle.jl_text.specs.Encoding.{bytes_of}
use Rattle.jl_record.specs.declared.bounded.Bounded.{Bounded}
use Rattle.jl_record.specs.declared.refusal.RecordRefusal.{RecordRefusal}
use Rattle.jl_record.specs.declared.refusal.RecordRefusal.TheVariants as refusals
use Rattle.jl_record.specs.Bounded.{HoldsAs, Holds}
use Rattle.jl_record.specs.Fronts.{operations_so_far}
use Rattle.jl_record.specs.Lines.{with_ends}
use Rattle.jl_record.specs.Recording.{OnTooLong}
use Rattle.jl_record.specs.Records.{Row, operation_line, text_of}
use Rattle.jl_record.proofs.Bytes.{lf_more, plain_more}
use Rattle.jl_record.proofs.RecordText.{text_split, head_ends, few_operations}

pub holds_passed : (text : Bounded) (units : List ℕ) → text.passed ≡ true → Holds text units
    → text.limit < length (bytes_of units)
holds_passed text units e h = subst (λ b. HoldsAs b text.limit text.bytes.items units) e h

pub holds_kept : (text : Bounded) (units : List ℕ) → text.passed ≡ false → Holds text units
    → (text.bytes.items ≡ bytes_of units) × (length text.bytes.items ≤ text.limit)
holds_kept text units e h = subst (λ b. HoldsAs b text.limit text.bytes.items units) e h

drop_front : (some others : List ℕ) → drop (length some) (some ++ others) ≡ others
drop_front [] others = refl
drop_front (a ∷ some) others = drop_front some others

take_front : (some others : List ℕ) → take (length some) (some ++ others) ≡ some
take_front [] others = refl
take_front (a ∷ some) others = ap (λ l. a ∷ l) (take_front some others)

pub rotated : (xs front back : List ℕ) (n : ℕ) → xs ≡ back ++ front → n ≡ length back
    → drop n xs ++ take n xs ≡ front ++ back
rotated xs front back n is left =
    ap (λ k. drop k xs ++ take k xs) left ∙ ap (λ l. drop (length back) l ++ take (length back) l) is
    ∙ ap (λ l. l ++ take (length back) (back ++ front)) (drop_front back front)
    ∙ ap (λ l. front ++ l) (take_front back front)

module _ (head tail : Bounded) (same : tail.limit ≡ head.limit) (us vs : List ℕ) where
  sizes : length (bytes_of ((us ++ 10 ∷ []) ++ vs)) ≡ length (bytes_of (us ++ 10 ∷ [])) + length (bytes_of vs)
  sizes = ap length (lf_more us vs) ∙ length-append (bytes_of (us ++ 10 ∷ [])) (bytes_of vs)

  pub head_passed : head.passed ≡ true → Holds head (us ++ 10 ∷ [])
      → head.limit < length (bytes_of ((us ++ 10 ∷ []) ++ vs))
  head_passed e h = omega (arith, sizes, holds_passed head (us ++ 10 ∷ []) e h)

  pub tail_passed : tail.passed ≡ true → Holds tail vs → head.limit < length (bytes_of ((us ++ 10 ∷ []) ++ vs))
  tail_passed e h = omega (arith, sizes, same, holds_passed tail vs e h)

  pub both_over : head.passed ≡ false → tail.passed ≡ false → Holds head (us ++ 10 ∷ []) → Holds tail vs
      → head.limit < length head.bytes.items + length tail.bytes.items
      → head.limit < length (bytes_of ((us ++ 10 ∷ []) ++ vs))
  both_over e f h g over =
      let first = ap length (holds_kept head (us ++ 10 ∷ []) e h).0 in
      let second = ap length (holds_kept tail vs f g).0 in
      omega (arith, sizes, first, second, over)

  pub joined : head.passed ≡ false → tail.passed ≡ false → Holds head (us ++ 10 ∷ []) → Holds tail vs
      → head.bytes.items ++ tail.bytes.items ≡ bytes_of ((us ++ 10 ∷ []) ++ vs)
  joined e f h g =
      ap (λ l. l ++ tail.bytes.items) (holds_kept head (us ++ 10 ∷ []) e h).0
      ∙ ap (λ l. bytes_of (us ++ 10 ∷ []) ++ l) (holds_kept tail vs f g).0 ∙ sym (lf_more us vs)

-- ---- a run

-- the lines of operations, and the last line
abbrev pub tail_units : List Operation → List ℕ
tail_units operations = with_ends (map operation_line operations) ++ codes "end\n"

module _ (rows : List Row) (off : List Pair) (operations : List Operation) where
  whole_sizes : (us : List ℕ) → with_ends (operations_so_far rows off (length operations) []) ≡ us ++ 10 ∷ []
      → length (bytes_of (tail_units operations))
      ≤ length (bytes_of (text_of (record { rows = rows; off = off; operations = operations })))
  whole_sizes us e =
      let split = ap length (ap bytes_of (text_split rows off operations ∙ ap (λ h. h ++ tail_units operations) e)
      ∙ lf_more us (tail_units operations)) in
      omega (arith, split, length-append (bytes_of (us ++ 10 ∷ [])) (bytes_of (tail_units operations)))

  pub tail_within : length (bytes_of (tail_units operations))
      ≤ length (bytes_of (text_of (record { rows = rows; off = off; operations = operations })))
  tail_within = let h = head_ends rows off (length operations) in whole_sizes h.0 h.1

  pub head_units : ℕ → List ℕ
  head_units count = (head_ends rows off count).0

  pub head_is : (count : ℕ) → with_ends (operations_so_far rows off count []) ≡ head_units count ++ 10 ∷ []
  unfolding head_units
  head_is count = (head_ends rows off count).1

  pub whole : (count : ℕ) → count ≡ length operations
      → (head_units count ++ 10 ∷ []) ++ tail_units operations
      ≡ text_of (record { rows = rows; off = off; operations = operations })
  whole count e =
      ap (λ h. h ++ tail_units operations) (sym (head_is count))
      ∙ ap (λ n. with_ends (operations_so_far rows off n []) ++ tail_units operations) e
      ∙ sym (text_split rows off operations)

-- the number of operations, where their bytes are kept
pub count_is : (tail : Bounded) (count : ℕ) (operations : List Operation) → tail.passed ≡ false
    → Holds tail (tail_units operations) → count ≡ saturate_u64 (length operations)
    → length tail.bytes.items < 2 ^ 64 → count ≡ length operations
count_is tail count operations e h is small =
    let kept = ap length (holds_kept tail (tail_units operations) e h).0 in
    let last = ap length (plain_more (with_ends (map operation_line operations)) (codes "end\n") refl) in
    omega (
      arith,
      kept,
      last,
      length-append (bytes_of (with_ends (map operation_line operations))) (codes "end\n"),
      few_operations operations,
      is,
      small,
    )

pub on_too_long_weaker : {T : Type 0} {P Q : Type 0} (r : Result T RecordRefusal) → (P → Q) → OnTooLong r P
    → OnTooLong r Q
on_too_long_weaker (Ok x) f h = tt
on_too_long_weaker (Err refusals.TooLong) f h = f h
on_too_long_weaker (Err refusals.NoMemory) f h = tt
