-- The mappings text that is written for segments: each quantity with the fewest digits, and nothing after the last
-- segment.
use Rattle.std.specs.Prelude.{ℕ, ◌-◌, ◌==◌, List, [], ◌∷◌, ◌++◌, replicate, if◌then◌else◌}
use Rattle.jl_srcmap.specs.Mappings.{Running, start, sums_on, after, semicolon, comma}
use Rattle.jl_srcmap.specs.Numbers.{differences}
use Rattle.jl_srcmap.specs.Segments.{fields}
use Rattle.jl_srcmap.specs.declared.segment.Segment.{Segment}

-- a segment after another text
abbrev pub segment_text : Running → Segment → List ℕ
segment_text running s = differences (sums_on s.line running) (fields s)

-- what stands between two segments on these lines: a comma, or a semicolon for each line
abbrev pub between : ℕ → ℕ → List ℕ
between line next = if next == line then comma ∷ [] else replicate (next - line) semicolon

-- segments that follow another
abbrev pub following : Running → List Segment → List ℕ
following running [] = []
following running (s ∷ ss) = between running.line s.line ++ (segment_text running s ++ following (after running s) ss)

abbrev pub mappings_text : List Segment → List ℕ
mappings_text [] = []
mappings_text (s ∷ ss) = replicate s.line semicolon ++ (segment_text start s ++ following (after start s) ss)
