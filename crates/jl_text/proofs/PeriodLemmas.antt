-- Periods of a greatest suffix, and what they say of the places at which it stands.
use Rattle.std.proofs.Common.{◌≡◌, ℕ, ◌+◌, ◌-◌, ◌%◌, ◌<◌, ◌≤◌, inl, inr, Option, Some, None, sym, ap, ◌∙◌, arith}
use Rattle.std.proofs.lemmas.Bool.{cases_lt}
use Rattle.std.proofs.Math.Nat.{mod-eq-sub-mod, mod-le}
use Rattle.jl_text.specs.inner.Seeking.{Agrees, HasNone, Repeats, IsGreatest, IsPeriod, IsLeastPlace}

module _ (part : ℕ → ℕ) (start : ℕ) where
  -- before any unit
  pub IsGreatest-none : IsGreatest part start start
  IsGreatest-none = record { greatest = λ later k low high agree. omega (arith, low, high) }

  pub IsPeriod-none : IsPeriod part start start 1
  IsPeriod-none = record {
    some = omega arith;
    within = omega arith;
    first = omega arith;
    short = λ h. omega (arith, h);
    repeats = λ k low high. omega (arith, low, high);
    least = λ q low high r. omega (arith, low, high);
  }

module _ (part : ℕ → ℕ) (start end p : ℕ) where
  Repeats-to : Repeats part start end p → (j k : ℕ) → start ≤ k → j ≡ k + p → j < end → part j ≡ part k
  Repeats-to repeats j k low same high = ap part same ∙ repeats k low (omega (arith, same, high))

  -- the unit at `end` continues the period
  pub IsPeriod-kept : IsPeriod part start end p → (start < end → part end ≡ part (end - p))
      → IsPeriod part start (end + 1) p
  IsPeriod-kept is same = record {
    some = is.some;
    within = omega (arith, is.within);
    first = omega (arith, is.first);
    short = λ h. omega (arith, is.first);
    repeats = λ k low high. elim (cases_lt (k + p) end) [
      | inl before ↦ is.repeats k low before
      | inr last ↦ let here : start < end = omega (arith, is.some, low, high, last) in
          ap part {x = k + p} {y = end} (omega (arith, high, last)) ∙ same here
          ∙ ap part {x = end - p} {y = k} (omega (arith, high, last))
    ];
    least = is.least;
  }

  -- a greatest suffix falls where its period ends
  pub falls : IsPeriod part start end p → IsGreatest part start (end + 1) → start < end → part end ≤ part (end - p)
  falls is greatest here =
      let short = is.short here in
      let fall = greatest.greatest (start + p) (end - (start + p)) (omega (arith, is.some)) (omega (arith, short))
      (λ i low. Repeats-to is.repeats (start + p + i) (start + i) (omega arith) (omega arith)
      (omega (arith, low, short)))
      in omega (
        arith,
        fall,
        ap part {x = start + p + (end - (start + p))} {y = end} (omega (arith, short)),
        ap part {x = start + (end - (start + p))} {y = end - p} (omega (arith, short)),
      )

  module _ (q : ℕ) (some : 0 < q) (again : Repeats part start (end + 1) q) where
    no_less : IsPeriod part start end p → start < end → q < p → ⊥
    no_less is here less = is.least q some less (λ k low high. again k low (omega (arith, high, is.short here)))

    no_more : IsPeriod part start end p → IsGreatest part start (end + 1) → start < end → part end < part (end - p)
        → p < q → start + q ≤ end → ⊥
    no_more is greatest here fall more within =
        let k = end - (start + q) in
        let rise = greatest.greatest (start + q - p) k (omega (arith, more)) (omega (arith, within, is.some, more))
        (λ i low. sym (Repeats-to is.repeats (start + q + i) (start + q - p + i) (omega (arith, more))
        (omega (arith, more)) (omega (arith, low, within)))
        ∙ ap part {x = start + q + i} {y = start + i + q} (omega arith)
        ∙ again (start + i) (omega arith) (omega (arith, low, within))) in
        let there : part (end - q + q) ≡ part (end - q) =
        again (end - q) (omega (arith, within)) (omega (arith, within)) in
        omega (
          arith,
          rise,
          there,
          fall,
          ap part {x = start + q - p + k} {y = end - p} (omega (arith, within, more)),
          ap part {x = start + k} {y = end - q} (omega (arith, within)),
          ap part {x = end - q + q} {y = end} (omega (arith, within)),
        )

  -- the unit at `end` ends the period
  pub IsPeriod-whole : IsPeriod part start end p → IsGreatest part start (end + 1) → start < end
      → (part end ≡ part (end - p) → ⊥) → IsPeriod part start (end + 1) (end + 1 - start)
  IsPeriod-whole is greatest here other = record {
    some = omega (arith, here);
    within = omega (arith, here);
    first = omega (arith, here);
    short = λ h. omega (arith, h);
    repeats = λ k low high. omega (arith, low, high);
    least = λ q some less r.
        let again : Repeats part start (end + 1) q = λ k low high. r k low (omega (arith, high, here)) in
        let fall : part end < part (end - p) = omega (arith, falls is greatest here, other) in
        elim (cases_lt q p) [
          | inl fewer ↦ no_less q some again is here fewer
          | inr more ↦ elim (cases_lt p q) [
            | inl further ↦ no_more q some again is greatest here fall further (omega (arith, less, here))
            | inr no_further ↦ other (
                ap part {x = end} {y = end - p + q} (omega (arith, more, no_further, is.short here))
                ∙ again (end - p) (omega (arith, is.short here)) (omega (arith, more, no_further, is.short here))
                ∙ ap part {x = end - p} {y = end - p} (omega arith)
                )
          ]
        ];
  }

  -- the unit at `end` is no greater than the period has it
  pub IsGreatest-kept : IsPeriod part start end p → IsGreatest part start end
      → (start < end → part end ≤ part (end - p)) → IsGreatest part start (end + 1)
  IsGreatest-kept is known fall = record {
    greatest = λ later k low high agree. elim (cases_lt (later + k) end) [
      | inl before ↦ known.greatest later k low before agree
      | inr last ↦ at_end is known (fall (omega (arith, low, high, is.within))) later k low
          (omega (arith, high, last)) agree
    ];
  } where
    at_end : IsPeriod part start end p → IsGreatest part start end → part end ≤ part (end - p)
        → (later k : ℕ) → start < later → later + k ≡ end
        → ((i : ℕ) → i < k → part (later + i) ≡ part (start + i)) → part (later + k) ≤ part (start + k)
    at_end is known fall later k low last agree = elim (cases_lt (later - start) p) [
      | inl fewer ↦ absurd (is.least (later - start) (omega (arith, low)) fewer (λ j from before.
          let inside : j + (later - start) < end = omega (arith, before, is.short (omega (arith, low, last)), low) in
          ap part {x = j + (later - start)} {y = later + (j - start)} (omega (arith, low, from))
          ∙ agree (j - start) (omega (arith, inside, low, last, from))
          ∙ ap part {x = start + (j - start)} {y = j} (omega (arith, from))))
      | inr more ↦ elim (cases_lt p (later - start)) [
        | inl further ↦
            let there = known.greatest (later - p) k (omega (arith, further)) (omega (arith, further, last, is.some))
            (λ i small. sym (Repeats-to is.repeats (later + i) (later - p + i) (omega (arith, further))
            (omega (arith, further)) (omega (arith, small, last))) ∙ agree i small) in
            omega (
              arith,
              there,
              fall,
              ap part {x = later + k} {y = end} last,
              ap part {x = later - p + k} {y = end - p} (omega (arith, last, further)),
            )
        | inr no_further ↦ omega (
          arith,
          fall,
          ap part {x = later + k} {y = end} last,
          ap part {x = start + k} {y = end - p} (omega (arith, last, more, no_further, low)),
        )
      ]
    ]

  -- what is read of a further period is no longer than the rest
  pub rest_of_periods : IsPeriod part start end p → start < end → (end - start) % p + p ≤ end - start
  rest_of_periods is here =
      let room : p ≤ end - start = omega (arith, is.short here) in
      omega (arith, mod-eq-sub-mod {n = end - start} {m = p} room, mod-le (end - start - p) p, room)

  -- the period of what is left of the units after one of their periods
  pub IsPeriod-shift : IsPeriod part start end p → start + p + p ≤ end → IsPeriod part start (end - p) p
  IsPeriod-shift is room = record {
    some = is.some;
    within = omega (arith, room);
    first = omega (arith, room);
    short = λ h. omega (arith, room);
    repeats = λ k low high. is.repeats k low (omega (arith, high));
    least = is.least;
  }

-- where a period stands, the suffix stands at no place less than the period further on
module _ (units part : ℕ → ℕ) (at start end p : ℕ) where
  pub none_between : IsPeriod part start end p → Agrees units part at start end → (size k : ℕ) → end ≤ size → at < k
      → k < at + p → Agrees units part k 0 size → ⊥
  none_between is here size k within after before there =
      let short = is.short (omega (arith, is.first, after, before)) in
      is.least (k - at) (omega (arith, after)) (omega (arith, after, before)) (λ j low high.
      sym (here (j + (k - at)) (omega (arith, low)) (omega (arith, high, short)))
      ∙ ap units {x = at + (j + (k - at))} {y = k + j} (omega (arith, after))
      ∙ there j (omega arith) (omega (arith, high, short, within)))

  -- a period further on, what stood still stands
  pub Agrees-shift : IsPeriod part start end p → Agrees units part at start end
      → Agrees units part (at + p) start (end - p)
  Agrees-shift is here k low high =
      ap units {x = at + p + k} {y = at + (k + p)} (omega arith)
      ∙ here (k + p) (omega (arith, low)) (omega (arith, high))
      ∙ is.repeats k low (omega (arith, high))

-- what is known of a place that is left
module _ (units part : ℕ → ℕ) (at start end size : ℕ) where
  pub not_at : end ≤ size → (end < size → units (at + end) ≡ part end → ⊥)
      → (end ≡ size → Agrees units part at 0 start → ⊥) → start ≤ end → Agrees units part at 0 size → ⊥
  not_at within next whole after there = elim (cases_lt end size) [
    | inl inside ↦ next inside (there end (omega arith) inside)
    | inr all ↦ whole (omega (arith, within, all)) (λ k low high. there k low (omega (arith, high, after, within)))
  ]

  pub none_before : (from p : ℕ) → IsPeriod part start end p → Agrees units part at start end → end ≤ size
      → (Agrees units part at 0 size → ⊥) → HasNone units part size from at → HasNone units part size from (at + p)
  none_before from p is here within not earlier = (
    omega (arith, earlier.0),
    λ k low high there. elim (cases_lt k at) [
      | inl before ↦ earlier.1 k low before there
      | inr after ↦ elim (cases_lt at k) [
        | inl behind ↦ none_between units part at start end p is here size k within behind high there
        | inr same ↦ not (moved_to at k (omega (arith, after, same)) there)
      ]
    ],
  ) where
    moved_to : (to k : ℕ) → k ≡ to → Agrees units part k 0 size → Agrees units part to 0 size
    moved_to to k same there i some fits =
        ap units {x = to + i} {y = k + i} (omega (arith, same)) ∙ there i some fits

-- one place after another
module _ (units part : ℕ → ℕ) (size from at : ℕ) where
  pub HasNone-next : HasNone units part size from at → (Agrees units part at 0 size → ⊥)
      → HasNone units part size from (at + 1)
  HasNone-next earlier not = (
    omega (arith, earlier.0),
    λ k low high there. elim (cases_lt k at) [
      | inl before ↦ earlier.1 k low before there
      | inr after ↦ not (λ i some fits. ap units {x = at + i} {y = k + i} (omega (arith, after, high))
          ∙ there i some fits)
    ],
  )

  pub IsLeastPlace-later : (count : ℕ) (place : Option ℕ) → HasNone units part size from at
      → IsLeastPlace units part count size at place → IsLeastPlace units part count size from place
  IsLeastPlace-later count None earlier none = λ k low fits there. elim (cases_lt k at) [
    | inl before ↦ earlier.1 k low before there
    | inr after ↦ none k after fits there
  ]
  IsLeastPlace-later count (Some found) earlier is = (
    is.0,
    is.1,
    (
      omega (arith, earlier.0, is.2.0),
      λ k low high there. elim (cases_lt k at) [
        | inl before ↦ earlier.1 k low before there
        | inr after ↦ is.2.1 k after high there
      ],
    ),
  )
