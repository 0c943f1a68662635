-- The segments of a source map: places of the generated text, each with the place that it comes from. Lines and columns
-- count from 0.
use Rattle.std.specs.Prelude.{ℕ, ◌+◌, ◌≤◌, List, [], ◌∷◌, ◌++◌, codes, Option, Some, None}
use Rattle.std.specs.Fmt.{decimal}
use Rattle.jl_srcmap.specs.declared.segment.Origin.{Origin}
use Rattle.jl_srcmap.specs.declared.segment.Segment.{Segment}

-- the fields of a segment in the order in which a mappings text has them: generated column, source, original line,
-- original column, name
abbrev pub name_field : Option ℕ → List ℕ
name_field None = []
name_field (Some name) = name ∷ []

abbrev pub origin_fields : Option Origin → List ℕ
origin_fields None = []
origin_fields (Some o) = o.source ∷ o.line ∷ o.column ∷ name_field o.name

abbrev pub fields : Segment → List ℕ
fields s = s.column ∷ origin_fields s.origin

-- no segment stands on an earlier line than the one before it, and the first on no line before this
abbrev pub AreInOrder : ℕ → List Segment → Type 0
AreInOrder line [] = Unit {0}
AreInOrder line (s ∷ ss) = (line ≤ s.line) × AreInOrder s.line ss

-- a place as `LINE:COLUMN`, which count from 1 there
abbrev pub place_text : ℕ → ℕ → List ℕ
place_text line column = decimal (line + 1) ++ (codes ":" ++ decimal (column + 1))

abbrev pub name_text : Option ℕ → List ℕ
name_text None = []
name_text (Some name) = codes " " ++ decimal name

abbrev pub origin_text : Option Origin → List ℕ
origin_text None = []
origin_text (Some o) =
    codes " " ++ (decimal o.source ++ (codes " " ++ (place_text o.line o.column ++ name_text o.name)))

-- `LINE:COLUMN`, and for a segment with an origin its source, its place there and its name
abbrev pub segment_line : Segment → List ℕ
segment_line s = place_text s.line s.column ++ origin_text s.origin
