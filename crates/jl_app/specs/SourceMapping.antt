-- What `srcmap` and `unmap` answer: the source map of a woven script, and the segments of a source map.
use Rattle.std.specs.Prelude.{ℕ, List, [], ◌∷◌, ◌++◌, codes}
use Rattle.std.specs.Fmt.{decimal}
use Rattle.jl_ast.specs.Tree.{Program}
use Rattle.jl_op.specs.Chosen.{every_kind}
use Rattle.jl_op.specs.IdMap.{id_map}
use Rattle.jl_srcmap.specs.Hooks.{segments_of}
use Rattle.jl_srcmap.specs.Segments.{segment_line}
use Rattle.jl_srcmap.specs.SourceMap.{HasSegments, IsRefusal, source_map_text}
use Rattle.jl_srcmap.specs.Written.{mappings_text}
use Rattle.jl_srcmap.specs.declared.refusal.MapRefusal.TheVariants as refusals
use Rattle.jl_srcmap.specs.declared.segment.Segment.{Segment}
use Rattle.jl_text.specs.Places.{line_table}
use Rattle.jl_text.specs.declared.span.Span.{Span}
use Rattle.jl_token.specs.Tokens.{Tokens}
use Rattle.jl_token.specs.declared.token.Token.{Token}
use Rattle.jl_app.specs.Due.{Due, refused_only, text_only}
use Rattle.jl_app.specs.Forms.{most_map_bytes}
use Rattle.jl_app.specs.Refusals.{refusal_words}
use Rattle.jl_app.specs.Texts.{IsNoText, IsTextWithin}
use Rattle.jl_app.specs.WovenText.{woven_text}
use Rattle.jl_app.specs.declared.refusal.Refusal.{Refusal}
use Rattle.jl_app.specs.declared.status.Status.TheVariants as status

-- the segments of the text that `instrument` writes, which has these tokens
abbrev pub woven_segments : (units : List ℕ) → Program Span → List Token → List Segment
woven_segments units p tokens =
    segments_of (line_table (woven_text every_kind p)) (id_map p) (line_table units) tokens

-- what `srcmap` answers to a source of these units that is read as the program p: the source map of what `instrument`
-- answers to it
pub data IsMappedBack (units : List ℕ) (p : Program Span) : Due → Type 0 where
  mapped_back : (tokens : List Token) → Tokens (woven_text every_kind p) tokens
      → IsMappedBack units p (text_only status.Clean (source_map_text (mappings_text (woven_segments units p tokens))))

-- a line for each segment
abbrev pub segment_lines : List Segment → List ℕ
segment_lines [] = []
segment_lines (s ∷ ss) = (segment_line s ++ 10 ∷ []) ++ segment_lines ss

-- What `unmap` answers to these bytes: the segments of the source map that they are, or the first cause why there are
-- none.
pub data IsUnmapped (bytes : List ℕ) : Due → Type 0 where
  no_text : (cause : Refusal) → IsNoText most_map_bytes bytes cause
      → IsUnmapped bytes (refused_only (refusal_words cause))
  no_json : IsTextWithin most_map_bytes bytes → IsRefusal bytes refusals.MapJson
      → IsUnmapped bytes (refused_only (codes "MapJson"))
  no_map : IsTextWithin most_map_bytes bytes → IsRefusal bytes refusals.MapShape
      → IsUnmapped bytes (refused_only (codes "MapShape"))
  -- a piece of the mappings is no segment; the first such begins at this byte of them
  no_segment : (at : ℕ) → IsTextWithin most_map_bytes bytes → IsRefusal bytes (refusals.BadSegment at)
      → IsUnmapped bytes (refused_only (codes "MapText at " ++ decimal at))
  listed_segments : (ss : List Segment) → IsTextWithin most_map_bytes bytes → HasSegments bytes ss
      → IsUnmapped bytes (text_only status.Clean (segment_lines ss))
