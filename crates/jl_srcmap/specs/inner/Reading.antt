-- Reading a mappings text step by step, as plain functions. Lemmas tie them to the definitions of mappings; no public
-- clause stands on them.
use Rattle.std.specs.Prelude.{◌≡◌, ℕ, ◌+◌, drop, length, nat_le, nat_lt, List, [], ◌∷◌, ◌++◌, Option, Some, None}
use Rattle.std.specs.Prelude.{option_and_then, option_map, if◌then◌else◌}
use Rattle.jl_srcmap.specs.Mappings.{Part, Piece, Running, after, parts, sums_on}
use Rattle.jl_srcmap.specs.inner.Fields.{fields_in}
use Rattle.jl_srcmap.specs.declared.read.Reader.{Reader}
use Rattle.jl_srcmap.specs.declared.refusal.MapRefusal.{MapRefusal}
use Rattle.jl_srcmap.specs.declared.refusal.MapRefusal.TheVariants as refusals
use Rattle.jl_srcmap.specs.declared.running.Running.{Running as Kept}
use Rattle.jl_srcmap.specs.declared.segment.Origin.{Origin}
use Rattle.jl_srcmap.specs.declared.segment.Segment.{Segment}

-- the origin with these fields, and the segment
abbrev pub origin_with : List ℕ → Option Origin
origin_with (b ∷ c ∷ d ∷ []) = Some (record { source = b; line = c; column = d; name = None })
origin_with (b ∷ c ∷ d ∷ e ∷ []) = Some (record { source = b; line = c; column = d; name = Some e })
origin_with _ = None

abbrev pub with_origin : (line column : ℕ) → Origin → Segment
with_origin line column o = record { line = line; column = column; origin = Some o }

abbrev pub segment_with : ℕ → List ℕ → Option Segment
segment_with line [] = None
segment_with line (a ∷ []) = Some (record { line = line; column = a; origin = None })
segment_with line (a ∷ b ∷ fs) = option_map (with_origin line a) (origin_with (b ∷ fs))

unfoldable pub segment_in : (line : ℕ) → (sums text : List ℕ) → Option Segment
segment_in line sums text =
    if nat_lt line 4294967296 then option_and_then (segment_with line) (fields_in sums text) else None

-- how far a text has been read: with these segments, or up to a piece that is none
pub data Progress : Type 0 where
  going : Running → List Segment → Progress
  bad : ℕ → Progress

abbrev pub with_segment : Running → List Segment → ℕ → Option Segment → Progress
with_segment running done at None = bad at
with_segment running done at (Some s) = going (after running s) (done ++ s ∷ [])

abbrev pub read_piece : Progress → Piece → Progress
read_piece (bad at) piece = bad at
read_piece (going running done) piece =
    with_segment running done piece.at (segment_in piece.line (sums_on piece.line running) piece.text)

unfoldable pub read_pieces : Progress → List Piece → Progress
read_pieces progress [] = progress
read_pieces progress (piece ∷ pieces) = read_pieces (read_piece progress piece) pieces

-- what the code keeps
abbrev pub kept : Kept → Running
kept r = record { line = r.line; sums = r.column ∷ r.source ∷ r.original_line ∷ r.original_column ∷ r.name ∷ [] }

abbrev pub progress : Reader → Progress
progress reader = going (kept reader.running) reader.segments.items

-- why reading stops
abbrev pub IsStopped : MapRefusal → Progress → Type 0
IsStopped (refusals.BadSegment at) p = p ≡ bad at
IsStopped refusals.NoMemory p = Unit {0}
IsStopped refusals.MapJson p = ⊥
IsStopped refusals.MapShape p = ⊥

-- the parts of a text from a place of it on, if the text begins at `at`; past its end there are none
abbrev pub parts_from : (separator at : ℕ) → List ℕ → (from : ℕ) → List Part
parts_from separator at text from =
    if nat_le from (length text) then parts separator (at + from) (drop from text) else []

abbrev pub piece_at : (line at : ℕ) → List ℕ → Piece
piece_at line at text = record { line = line; at = at; text = text }

abbrev pub part_at : (at : ℕ) → List ℕ → Part
part_at at text = record { at = at; text = text }
