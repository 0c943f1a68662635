-- What holds of each mappings text.
use Rattle.std.specs.Prelude.{◌≡◌, ℕ, ◌<◌, ◌≤◌, ◌⊎◌, List, All, length}
use Rattle.jl_srcmap.specs.Mappings.{Reads, IsBadAt}
use Rattle.jl_srcmap.specs.Numbers.{Digits, below_limit, digits_of}
use Rattle.jl_srcmap.specs.Segments.{AreInOrder, fields}
use Rattle.jl_srcmap.specs.Written.{mappings_text}
use Rattle.jl_srcmap.specs.declared.segment.Segment.{Segment}

-- it is read in one way at most
abbrev pub ReadingsAreUnique : Type 0
ReadingsAreUnique = (text : List ℕ) (ss rs : List Segment) → Reads text ss → Reads text rs → ss ≡ rs

-- it is read, or a first piece of it is no segment
abbrev pub ReadOrBad : Type 0
ReadOrBad = (text : List ℕ) → ((ss : List Segment) × Reads text ss) ⊎ ((at : ℕ) × IsBadAt text at)

-- and never both
abbrev pub NeverBoth : Type 0
NeverBoth = (text : List ℕ) (ss : List Segment) (at : ℕ) → Reads text ss → ¬ (IsBadAt text at)

-- there is one such place
abbrev pub BadPlaceIsUnique : Type 0
BadPlaceIsUnique = (text : List ℕ) (i j : ℕ) → IsBadAt text i → IsBadAt text j → i ≡ j

-- all numbers of a segment are below 2^32
pub record IsSmall (s : Segment) : Type 0 where
  pub line : below_limit s.line
  pub fields : All below_limit (fields s)

-- what was written for segments whose lines don't fall is read as these
abbrev pub WrittenReadsBack : Type 0
WrittenReadsBack = (ss : List Segment) → All IsSmall ss → AreInOrder 0 ss → Reads (mappings_text ss) ss

-- a quantity that seven digits hold is made by those that are written for it, and by no fewer
pub record AreFewest (digits : List ℕ) (n : ℕ) : Type 0 where
  pub make : Digits (digits_of n) n
  pub fewest : length (digits_of n) ≤ length digits

abbrev pub DigitsAreFewest : Type 0
DigitsAreFewest = (digits : List ℕ) (n : ℕ) → Digits digits n → n < 34359738368 → AreFewest digits n
