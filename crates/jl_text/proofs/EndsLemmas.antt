-- Where one list stands in another, by the units at their places.
use Rattle.std.proofs.Common.{◌≡◌, ℕ, ◌+◌, ◌-◌, ◌<◌, ◌≤◌, List, length, drop, get_or, sym, ap, ◌∙◌, arith}
use Rattle.std.proofs.Common.{length-take, length-drop, Option, Some, None, min}
use Rattle.std.specs.Prelude.{slice_range}
use Rattle.std.proofs.lemmas.List.{get_or-take, get_or-drop, ext_get_or}
use Rattle.jl_text.specs.Search.{StandsAt, IsFirstPlace, IsLastPlace}
use Rattle.jl_text.specs.inner.Seeking.{Agrees, IsLeastPlace}

module _ (units part : List ℕ) where
  unit_of_range : (at k : ℕ) → k < length part
      → get_or (slice_range units at (at + length part)) k 0 ≡ get_or units (at + k) 0
  unit_of_range at k inside = get_or-take (at + length part - at) (drop at units) k 0 (omega (arith, inside))
      ∙ get_or-drop at units k 0

  unit_of : (at : ℕ) → StandsAt units part at → (k : ℕ) → k < length part → get_or units (at + k) 0 ≡ get_or part k 0
  unit_of at stands k inside = sym (unit_of_range at k inside) ∙ ap (λ xs. get_or xs k 0) stands.1

  stands_by_units : (at : ℕ) → at + length part ≤ length units
      → ((k : ℕ) → k < length part → get_or units (at + k) 0 ≡ get_or part k 0) → StandsAt units part at
  stands_by_units at room same =
      let count : length (slice_range units at (at + length part)) ≡ length part =
      length-take (at + length part - at) (drop at units) ∙ omega (arith, length-drop at units, room) in (
        room,
        ext_get_or 0 _ part count (λ k inside. let small : k < length part = omega (arith, inside, count) in
            unit_of_range at k small ∙ same k small),
      )

  -- counted from the front
  pub first_by_units : (from : ℕ) (place : Option ℕ)
      → IsLeastPlace (λ k. get_or units k 0) (λ k. get_or part k 0) (length units) (length part) from place
      → IsFirstPlace units part from place
  first_by_units from None none = λ k low stands. none k low stands.0 (λ i some inside. unit_of k stands i inside)
  first_by_units from (Some at) is = (
    is.2.0,
    stands_by_units at is.0 (λ k inside. is.1 k (omega arith) inside),
    λ k low high stands. is.2.1 k low high (λ i some inside. unit_of k stands i inside),
  )

  -- counted from the back
  back_to_front : (k at : ℕ) → k + at + length part ≡ length units → StandsAt units part at
      → Agrees (λ i. get_or units (length units - 1 - i) 0) (λ i. get_or part (length part - 1 - i) 0) k 0 (length part)
  back_to_front k at sum stands i some inside =
      ap (λ n. get_or units n 0) {x = length units - 1 - (k + i)} {y = at + (length part - 1 - i)}
      (omega (arith, sum, inside))
      ∙ unit_of at stands (length part - 1 - i) (omega (arith, inside))

  front_to_back : (k at : ℕ) → k + at + length part ≡ length units
      → Agrees (λ i. get_or units (length units - 1 - i) 0) (λ i. get_or part (length part - 1 - i) 0) k 0 (length part)
      → StandsAt units part at
  front_to_back k at sum same = stands_by_units at (omega (arith, sum)) (λ i inside.
      ap (λ n. get_or units n 0) {x = at + i} {y = length units - 1 - (k + (length part - 1 - i))}
      (omega (arith, sum, inside))
      ∙ same (length part - 1 - i) (omega arith) (omega (arith, inside))
      ∙ ap (λ n. get_or part n 0) {x = length part - 1 - (length part - 1 - i)} {y = i} (omega (arith, inside)))

  -- comparisons of slices
  module _ (at : ℕ) (fits : at + length part ≤ length units) where
    pub front_of_range : slice_range units at (at + length part) ≡ part
        → Agrees (λ i. get_or units i 0) (λ i. get_or part i 0) at 0 (length part)
    front_of_range same k low inside = unit_of at (fits, same) k inside

    pub range_of_front : Agrees (λ i. get_or units i 0) (λ i. get_or part i 0) at 0 (length part)
        → slice_range units at (at + length part) ≡ part
    range_of_front same = (stands_by_units at fits (λ k inside. same k (omega arith) inside)).1

    from_end : length units - at ≡ length units - at - length part + length part
    from_end = omega (arith, fits)

    pub back_of_range : slice_range units (length units - at - length part) (length units - at) ≡ part
        → Agrees (λ i. get_or units (length units - 1 - i) 0) (λ i. get_or part (length part - 1 - i) 0)
        at 0 (length part)
    back_of_range same = back_to_front at (length units - at - length part) (omega (arith, fits))
        (omega (arith, fits), ap (slice_range units (length units - at - length part)) (sym from_end) ∙ same)

    pub range_of_back : Agrees (λ i. get_or units (length units - 1 - i) 0) (λ i. get_or part (length part - 1 - i) 0)
        at 0 (length part) → slice_range units (length units - at - length part) (length units - at) ≡ part
    range_of_back same = ap (slice_range units (length units - at - length part)) from_end
        ∙ (front_to_back at (length units - at - length part) (omega (arith, fits)) same).1

  module _ (from start : ℕ) (fits : length part ≤ length units)
      (begins : start + min from (length units - length part) ≡ length units - length part) where
    abbrev pub Backwards : Option ℕ → Type 0
    Backwards = IsLeastPlace (λ k. get_or units (length units - 1 - k) 0) (λ k. get_or part (length part - 1 - k) 0)
        (length units) (length part) start

    pub last_by_none : Backwards None → IsLastPlace units part from None
    last_by_none none = λ k low stands.
        let behind = length units - length part - k in
        none behind (omega (arith, begins, low, stands.0, fits)) (omega (arith, stands.0, fits))
        (back_to_front behind k (omega (arith, stands.0, fits)) stands)

    pub last_by_units : (at : ℕ) → Backwards (Some at)
        → IsLastPlace units part from (Some (length units - length part - at))
    last_by_units at is = (
      omega (arith, begins, is.2.0, is.0, fits),
      front_to_back at (length units - length part - at) (omega (arith, is.0, fits)) is.1,
      λ k low high stands.
          let behind = length units - length part - k in
          is.2.1 behind (omega (arith, begins, low, stands.0, fits)) (omega (arith, high, stands.0, fits, is.0))
          (back_to_front behind k (omega (arith, stands.0, fits)) stands),
    )
