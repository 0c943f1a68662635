-- What is known of a part while it is sought. Units are a function of their places.
use Rattle.std.specs.Prelude.{◌≡◌, ℕ, ◌+◌, ◌<◌, ◌≤◌, Option, MatchOption}

-- the units behind `at` are those of `part` from the place `low` to the one before `high`
abbrev pub Agrees : (units part : ℕ → ℕ) → (at low high : ℕ) → Type 0
Agrees units part at low high = (k : ℕ) → low ≤ k → k < high → units (at + k) ≡ part k

-- the units from `start` to the one before `end` are repeated after p of them
abbrev pub Repeats : (part : ℕ → ℕ) → (start end p : ℕ) → Type 0
Repeats part start end p = (k : ℕ) → start ≤ k → k + p < end → part (k + p) ≡ part k

-- of the units before `end`, those from no later place on are greater than those from `start` on
pub record IsGreatest (part : ℕ → ℕ) (start end : ℕ) : Type 0 where
  pub greatest : (later k : ℕ) → start < later → later + k < end
      → ((i : ℕ) → i < k → part (later + i) ≡ part (start + i)) → part (later + k) ≤ part (start + k)

-- p is the least period of the units from `start` to the one before `end`, or 1 where there are none
pub record IsPeriod (part : ℕ → ℕ) (start end p : ℕ) : Type 0 where
  pub some : 0 < p
  pub within : start ≤ end
  pub first : start + p ≤ end + 1
  pub short : start < end → start + p ≤ end
  pub repeats : Repeats part start end p
  pub least : (q : ℕ) → 0 < q → q < p → ¬ (Repeats part start (start + p) q)

-- `part` stands at no place from `from` to the one before `to`
abbrev pub HasNone : (units part : ℕ → ℕ) → (size from to : ℕ) → Type 0
HasNone units part size from to = (from ≤ to) × ((k : ℕ) → from ≤ k → k < to → ¬ (Agrees units part k 0 size))

-- the place is the least from `from` on at which `part`, of so many units, stands in `count` units
abbrev pub IsLeast : (units part : ℕ → ℕ) → (count size from at : ℕ) → Type 0
IsLeast units part count size from at =
    (at + size ≤ count) × Agrees units part at 0 size × HasNone units part size from at

-- the place, if there is one, is the least, and there is one if the part stands anywhere from `from` on
abbrev pub IsLeastPlace : (units part : ℕ → ℕ) → (count size from : ℕ) → Option ℕ → Type 0
IsLeastPlace units part count size from place =
    MatchOption place ((k : ℕ) → from ≤ k → k + size ≤ count → ¬ (Agrees units part k 0 size))
    (IsLeast units part count size from)
