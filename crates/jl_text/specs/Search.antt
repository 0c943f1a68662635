-- Where one text stands in another.
use Rattle.std.specs.Prelude.{◌≡◌, ℕ, zero, suc, ◌+◌, ◌<◌, ◌≤◌, ◌&&◌, nat_eq, nat_le, List, [], ◌∷◌, length, drop}
use Rattle.std.specs.Prelude.{slice_range, Option, None, Some, MatchOption, if◌then◌else◌}
use Rattle.std.specs.List.{starts_with}

-- `part` stands in `units` at the place `at`
abbrev pub StandsAt : List ℕ → List ℕ → ℕ → Type 0
StandsAt units part at = (at + length part ≤ length units) × (slice_range units at (at + length part) ≡ part)

-- the least place at which `part` stands in these units, if the first of them is at `at`
abbrev pub place_in : List ℕ → List ℕ → ℕ → Option ℕ
place_in [] part at = if starts_with nat_eq [] part then Some at else None
place_in (u ∷ us) part at = if starts_with nat_eq (u ∷ us) part then Some at else place_in us part (at + 1)

-- the least place at or after `from` at which `part` stands in `units`
abbrev pub first_place : List ℕ → List ℕ → ℕ → Option ℕ
first_place units part from = if nat_le from (length units) then place_in (drop from units) part from else None

-- the greatest place below n at which `part` stands in `units`
abbrev pub place_below : List ℕ → List ℕ → ℕ → Option ℕ
place_below units part zero = None
place_below units part (suc n) =
    if nat_le n (length units) && starts_with nat_eq (drop n units) part then Some n else place_below units part n

-- the greatest place at or before `from` at which `part` stands in `units`
abbrev pub last_place : List ℕ → List ℕ → ℕ → Option ℕ
last_place units part from = place_below units part (from + 1)

-- the place, if there is one, is the least from `from` on
abbrev pub IsFirstPlace : List ℕ → List ℕ → ℕ → Option ℕ → Type 0
IsFirstPlace units part from place = MatchOption place ((k : ℕ) → from ≤ k → ¬ (StandsAt units part k))
    (λ at. (from ≤ at) × StandsAt units part at × ((k : ℕ) → from ≤ k → k < at → ¬ (StandsAt units part k)))

-- the place, if there is one, is the greatest up to `from`
abbrev pub IsLastPlace : List ℕ → List ℕ → ℕ → Option ℕ → Type 0
IsLastPlace units part from place = MatchOption place ((k : ℕ) → k ≤ from → ¬ (StandsAt units part k))
    (λ at. (at ≤ from) × StandsAt units part at × ((k : ℕ) → k ≤ from → at < k → ¬ (StandsAt units part k)))
