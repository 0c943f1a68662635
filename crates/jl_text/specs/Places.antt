-- Lines and columns of the places in a source. Both count from 1, and a column counts units.
use Rattle.std.specs.Prelude.{◌≡◌, ℕ, zero, suc, ◌+◌, ◌-◌, ◌<◌, ◌≤◌, Bool, not, ◌||◌, ◌==◌, nat_le, List, [], ◌∷◌}
use Rattle.std.specs.Prelude.{length, slice_index, count_by, if◌then◌else◌}
use Rattle.std.specs.List.Sorted.{IsNonDecreasing}

-- a line ends with the unit u, which `next` follows: LF, CR, U+2028 or U+2029 (7.3), and CR LF, which is one
-- terminator, ends it with its LF
abbrev pub ends_line : ℕ → ℕ → Bool
ends_line u next = if u == 0x0D then not (next == 0x0A) else (u == 0x0A || (u == 0x2028 || u == 0x2029))

-- the line and the column of the place `at` in these units, if the first of them is at the line and the column given
abbrev pub position_from : ℕ → ℕ → List ℕ → ℕ → ℕ × ℕ
position_from line column [] at = (line, column)
position_from line column (u ∷ us) zero = (line, column)
position_from line column (u ∷ us) (suc at) = if ends_line u (slice_index us 0) then position_from (line + 1) 1 us at
    else position_from line (column + 1) us at

-- the line and the column of the place `at` in a source
abbrev pub position_of : List ℕ → ℕ → ℕ × ℕ
position_of units at = position_from 1 1 units at

-- what is kept of a source: the places at which its lines start, and the place at its end
pub record LineTable : Type 0 where
  pub starts : List ℕ
  pub end : ℕ

-- the places behind the units that end a line, if the first of these units is at `at`
abbrev pub starts_after : ℕ → List ℕ → List ℕ
starts_after at [] = []
starts_after at (u ∷ us) = if ends_line u (slice_index us 0) then (at + 1) ∷ starts_after (at + 1) us
    else starts_after (at + 1) us

abbrev pub line_table : List ℕ → LineTable
line_table units = record { starts = 0 ∷ starts_after 0 units; end = length units }

-- how many lines start at or before a place
abbrev pub line_at : List ℕ → ℕ → ℕ
line_at starts at = count_by (λ start. nat_le start at) starts

-- the line of a place is the last that starts at or before it
abbrev pub line_col : LineTable → ℕ → ℕ × ℕ
line_col table at = let line = line_at table.starts at in (line, at - slice_index table.starts (line - 1) + 1)

-- what each table keeps
pub record IsLineTable (starts : List ℕ) (end : ℕ) : Type 0 where
  pub first : slice_index starts 0 ≡ 0
  pub some : 0 < length starts
  pub rising : IsNonDecreasing starts
  pub few : length starts ≤ end + 1
  pub short : end < 4294967295
