-- The mappings of a source map (Source Map revision 3, "Proposed Format"): groups joined by `;`, one for each line of
-- the generated text. A group is empty or segments joined by `,`.
use Rattle.std.specs.Prelude.{◌≡◌, ℕ, ◌+◌, ◌==◌, List, [], ◌∷◌, ◌++◌, map, if◌then◌else◌}
use Rattle.jl_srcmap.specs.Numbers.{Quantities, AllMove, sums_after, below_limit}
use Rattle.jl_srcmap.specs.Segments.{fields}
use Rattle.jl_srcmap.specs.declared.segment.Segment.{Segment}

-- a part of a text, and the place at which it begins
pub record Part : Type 0 where
  pub at : ℕ
  pub text : List ℕ

-- c stands in front of the first part, at `at`
abbrev pub with_first : ℕ → ℕ → List Part → List Part
with_first at c [] = []
with_first at c (part ∷ parts) = record { at = at; text = c ∷ part.text } ∷ parts

-- the parts of a text between its separators, if the text begins at `at`
abbrev pub parts : (separator at : ℕ) → List ℕ → List Part
parts separator at [] = record { at = at; text = [] } ∷ []
parts separator at (c ∷ cs) = if c == separator then record { at = at; text = [] } ∷ parts separator (at + 1) cs
    else with_first at c (parts separator (at + 1) cs)

-- `;` and `,`
abbrev pub semicolon : ℕ
semicolon = 59

abbrev pub comma : ℕ
comma = 44

-- what stands for a segment: a part of a group, with the line of the group
pub record Piece : Type 0 where
  pub line : ℕ
  pub at : ℕ
  pub text : List ℕ

abbrev pub piece_on : ℕ → Part → Piece
piece_on line part = record { line = line; at = part.at; text = part.text }

-- the pieces of the group at a place; an empty one has none
abbrev pub pieces_of_group : (line at : ℕ) → List ℕ → List Piece
pieces_of_group line at [] = []
pieces_of_group line at (c ∷ cs) = map (piece_on line) (parts comma at (c ∷ cs))

-- the pieces of these groups, of which the first is the one of a line
abbrev pub pieces_of_groups : ℕ → List Part → List Piece
pieces_of_groups line [] = []
pieces_of_groups line (group ∷ groups) =
    pieces_of_group line group.at group.text ++ pieces_of_groups (line + 1) groups

abbrev pub pieces_of : List ℕ → List Piece
pieces_of text = pieces_of_groups 0 (parts semicolon 0 text)

-- how far a text has been read: the line of the last segment, and the running sums
pub record Running : Type 0 where
  pub line : ℕ
  pub sums : List ℕ

-- generated column, source, original line, original column and name begin at 0
abbrev pub start : Running
start = record { line = 0; sums = 0 ∷ 0 ∷ 0 ∷ 0 ∷ 0 ∷ [] }

-- the first sum, that of the generated column, begins anew
abbrev pub without_column : List ℕ → List ℕ
without_column [] = []
without_column (column ∷ sums) = 0 ∷ sums

-- the sums before a segment on a line: the column begins anew in each group, and the others run through the whole text
abbrev pub sums_on : ℕ → Running → List ℕ
sums_on line running = if line == running.line then running.sums else without_column running.sums

abbrev pub after : Running → Segment → Running
after running s = record { line = s.line; sums = sums_after (sums_on s.line running) (fields s) }

-- the piece is this segment: its quantities lead from the sums to the segment's fields
pub record IsSegment (running : Running) (piece : Piece) (s : Segment) : Type 0 where
  pub quantities : List ℕ
  pub digits : Quantities piece.text quantities
  pub line : s.line ≡ piece.line
  pub few_lines : below_limit piece.line
  pub moves : AllMove quantities (sums_on piece.line running) (fields s)

-- the pieces are these segments
pub data AreSegments : Running → List Piece → List Segment → Type 0 where
  none : {running : Running} → AreSegments running [] []
  one : {running : Running} {piece : Piece} {pieces : List Piece} {s : Segment} {ss : List Segment} →
      IsSegment running piece s → AreSegments (after running s) pieces ss →
      AreSegments running (piece ∷ pieces) (s ∷ ss)

-- the text is read as these segments
abbrev pub Reads : List ℕ → List Segment → Type 0
Reads text ss = AreSegments start (pieces_of text) ss

-- how far the text has been read after these segments
abbrev pub after_all : Running → List Segment → Running
after_all running [] = running
after_all running (s ∷ ss) = after_all (after running s) ss

-- `at` is the place of the first piece that is no segment
pub record IsBadAt (text : List ℕ) (at : ℕ) : Type 0 where
  pub before : List Piece
  pub piece : Piece
  pub rest : List Piece
  pub segments : List Segment
  pub is : pieces_of text ≡ before ++ piece ∷ rest
  pub read : AreSegments start before segments
  pub there : at ≡ piece.at
  pub bad : (s : Segment) → ¬ (IsSegment (after_all start segments) piece s)
