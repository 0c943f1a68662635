-- Where one list stands in another.
use Rattle.std.proofs.Common.{◌≡◌, ℕ, zero, suc, ◌+◌, ◌-◌, ◌<◌, ◌≤◌, inl, inr, List, [], ◌∷◌, ◌++◌, Bool, true, false}
use Rattle.std.proofs.Common.{◌&&◌, cond, refl, sym, ap, ◌∙◌, length, take, drop, get_or, Option, Some, None}
use Rattle.std.proofs.Common.{add-one, add-suc, arith, length-append, length-drop, drop-cons, nat_eq, nat_le}
use Rattle.std.proofs.lemmas.List.{take-append-drop}
use Rattle.std.proofs.Math.Seq.{take-append_seam, drop-length}
use Rattle.std.proofs.lemmas.Slice.Eq.{starts_is}
use Rattle.std.proofs.lemmas.Bool.Decides.{Decides-eqb, eqb_tells}
use Rattle.std.proofs.lemmas.Bool.{cases_lt, le-leb, lt-leb, leb-true}
use Rattle.std.proofs.str.Laws.{both}
use Rattle.std.specs.List.{starts_with}
use Rattle.jl_text.specs.Search.{StandsAt, place_in, first_place, place_below, last_place, IsFirstPlace, IsLastPlace}

-- a test that can't be true is false
pub false_unless : (b : Bool) → (b ≡ true → ⊥) → b ≡ false
false_unless true h = absurd (h refl)
false_unless false h = refl

none_unless : (b : Bool) (place : Option ℕ) → (b ≡ true → place ≡ None) → cond b place None ≡ None
none_unless true place h = h refl
none_unless false place h = refl

module _ (units part : List ℕ) (at : ℕ) where
  pub StandsAt-from_test : at ≤ length units → starts_with nat_eq (drop at units) part ≡ true → StandsAt units part at
  StandsAt-from_test within test =
      let split = (starts_is Decides-eqb (drop at units) part _ refl).0 test in
      let count : length (drop at units) ≡ length part + length (drop (length part) (drop at units)) =
      ap length split ∙ length-append part _ in
      let room : at + length part ≤ length units = omega (arith, count, length-drop at units) in
      let span : at + length part - at ≡ length part = omega arith in
      (room, rw span (ap (take (length part)) split ∙ take-append_seam part _))

  pub test-StandsAt : StandsAt units part at → starts_with nat_eq (drop at units) part ≡ true
  test-StandsAt stands =
      let span : at + length part - at ≡ length part = omega arith in
      let front : take (length part) (drop at units) ≡ part = rw span at stands.1 in
      (starts_is Decides-eqb (drop at units) part _ refl).1 (drop (length part) (drop at units))
      (sym (take-append-drop (length part) (drop at units)) ∙ ap (λ xs. xs ++ drop (length part) (drop at units)) front)

  pub not-StandsAt : starts_with nat_eq (drop at units) part ≡ false → StandsAt units part at → ⊥
  not-StandsAt test stands = let other = test-StandsAt stands in cc

starts_with-short : (units part : List ℕ) → length units < length part → starts_with nat_eq units part ≡ false
starts_with-short units part short = false_unless _ (λ test.
    let split = (starts_is Decides-eqb units part _ refl).0 test in
    let count : length units ≡ length part + length (drop (length part) units) =
    ap length split ∙ length-append part _ in omega arith)

place_in-short : (units part : List ℕ) (at : ℕ) → length units < length part → place_in units part at ≡ None
place_in-short [] part at short = ap (λ t. cond t (Some at) None) (starts_with-short [] part short)
place_in-short (u ∷ us) part at short =
    ap (λ t. cond t (Some at) (place_in us part (at + 1))) (starts_with-short (u ∷ us) part short)
    ∙ place_in-short us part (at + 1) (omega arith)

place_in-step : (part : List ℕ) (at u : ℕ) (units us : List ℕ) → units ≡ u ∷ us →
    place_in units part at ≡ cond (starts_with nat_eq units part) (Some at) (place_in us part (at + 1))
place_in-step part at u units us split = rw split refl

module _ (units part : List ℕ) (at : ℕ) where
  pub first_place-past : length units < at + length part → first_place units part at ≡ None
  first_place-past past = none_unless (nat_le at (length units)) _ (λ test.
      let within : at ≤ length units = leb-true _ _ test in
      place_in-short (drop at units) part at (omega (arith, length-drop at units)))

  pub first_place-step : at ≤ length units →
      first_place units part at ≡ cond (starts_with nat_eq (drop at units) part) (Some at)
      (first_place units part (at + 1))
  first_place-step within =
      let here = le-leb at (length units) within in
      elim (eqb_tells at (length units)) [
        | inl end ↦ rw (here, lt-leb (at + 1) (length units) (omega (arith, end.1)), end.1, drop-length units) refl
        | inr before ↦ let inside : at < length units = omega (arith, before.1) in
            let split : drop at units ≡ get_or units at 0 ∷ drop (at + 1) units =
            drop-cons units at 0 inside ∙ ap (λ n. get_or units at 0 ∷ drop n units) (sym (add-one at)) in
            rw (here, le-leb (at + 1) (length units) (omega arith)) (place_in-step part at _ _ _ split)
      ]

module _ (units part : List ℕ) where
  -- from a place on where it stands at none of the next d
  first_place-skips : (from d : ℕ) → ((k : ℕ) → from ≤ k → k < from + d → StandsAt units part k → ⊥)
      → first_place units part from ≡ first_place units part (from + d)
  first_place-skips from zero none = ap (first_place units part) {x = from} {y = from + 0} (omega arith)
  first_place-skips from (suc d) none =
      let on : first_place units part from ≡ first_place units part (from + 1) = elim (cases_lt (length units) from) [
        | inl past ↦ first_place-past units part from (omega (arith, past))
            ∙ sym (first_place-past units part (from + 1) (omega (arith, past)))
        | inr within ↦ first_place-step units part from within
            ∙ ap (λ t. cond t (Some from) (first_place units part (from + 1))) (false_unless _ (λ test.
            none from (omega arith) (omega arith) (StandsAt-from_test units part from within test)))
      ] in
      on ∙ first_place-skips (from + 1) d (λ k low high. none k (omega (arith, low)) (omega (arith, high)))
      ∙ ap (first_place units part) {x = from + 1 + d} {y = from + suc d} (omega arith)

  pub first_place-is : (from : ℕ) (place : Option ℕ) → IsFirstPlace units part from place
      → place ≡ first_place units part from
  first_place-is from None none =
      sym (first_place-skips from (length units + 1) (λ k low high. none k low)
      ∙ first_place-past units part (from + (length units + 1)) (omega arith))
  first_place-is from (Some at) is =
      let within : at ≤ length units = omega (arith, is.1.0) in
      sym (first_place-skips from (at - from) (λ k low high. is.2 k low (omega (arith, high, is.0)))
      ∙ ap (first_place units part) {x = from + (at - from)} {y = at} (omega (arith, is.0))
      ∙ first_place-step units part at within
      ∙ ap (λ t. cond t (Some at) (first_place units part (at + 1))) (test-StandsAt units part at is.1))

  -- down to a place where it stands at none of the next d
  place_below-skips : (n d : ℕ) → ((k : ℕ) → n ≤ k → k < n + d → StandsAt units part k → ⊥)
      → place_below units part (n + d) ≡ place_below units part n
  place_below-skips n zero none = ap (place_below units part) {x = n + 0} {y = n} (omega arith)
  place_below-skips n (suc d) none =
      let test : (nat_le (n + d) (length units) && starts_with nat_eq (drop (n + d) units) part) ≡ false =
      false_unless _ (λ is. let parts = both _ _ is in none (n + d) (omega arith) (omega arith)
      (StandsAt-from_test units part (n + d) (leb-true _ _ parts.0) parts.1)) in
      rw (add-suc n d, test) (place_below-skips n d (λ k low high. none k low (omega (arith, high))))

  place_below-here : (at : ℕ) → StandsAt units part at → place_below units part (at + 1) ≡ Some at
  place_below-here at stands =
      rw (add-one at, le-leb at (length units) (omega (arith, stands.0)), test-StandsAt units part at stands) refl

  pub last_place-is : (from : ℕ) (place : Option ℕ) → IsLastPlace units part from place
      → place ≡ last_place units part from
  last_place-is from None none =
      sym (ap (place_below units part) {x = from + 1} {y = 0 + (from + 1)} (omega arith)
      ∙ place_below-skips 0 (from + 1) (λ k low high. none k (omega (arith, high))))
  last_place-is from (Some at) is =
      sym (ap (place_below units part) {x = from + 1} {y = at + 1 + (from - at)} (omega (arith, is.0))
      ∙ place_below-skips (at + 1) (from - at) (λ k low high. is.2 k (omega (arith, high, is.0)) (omega (arith, low)))
      ∙ place_below-here at is.1)
