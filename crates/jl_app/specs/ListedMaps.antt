-- `unmap` after `srcmap`: what it lists are the segments that `srcmap` wrote.
use Rattle.std.specs.Prelude.{◌≡◌, ℕ, ◌≤◌, List, length}
use Rattle.jl_ast.specs.Tree.{Program}
use Rattle.jl_op.specs.Chosen.{every_kind}
use Rattle.jl_srcmap.specs.declared.segment.Segment.{Segment}
use Rattle.jl_text.specs.Encoding.{units_of}
use Rattle.jl_text.specs.declared.span.Span.{Span}
use Rattle.jl_token.specs.Tokens.{Tokens}
use Rattle.jl_token.specs.declared.token.Token.{Token}
use Rattle.jl_app.specs.Accepting.{IsAccepted}
use Rattle.jl_app.specs.Due.{Due, text_only}
use Rattle.jl_app.specs.Forms.{most_map_bytes}
use Rattle.jl_app.specs.SourceMapping.{IsMappedBack, IsUnmapped, segment_lines, woven_segments}
use Rattle.jl_app.specs.WovenText.{woven_text}
use Rattle.jl_app.specs.declared.status.Status.TheVariants as status

-- to `unmap` of these bytes the lines of these segments are due, and nothing else
pub record IsListedAs (bytes : List ℕ) (ss : List Segment) : Type 0 where
  pub due : IsUnmapped bytes (text_only status.Clean (segment_lines ss))
  pub only : (other : Due) → IsUnmapped bytes other → other ≡ text_only status.Clean (segment_lines ss)

-- So it is of what `srcmap` answers to each accepted script, if that is no longer than what `unmap` reads: its segments
-- are those of the text that `instrument` writes, which has these tokens.
abbrev pub SourceMapsAreListed : Type 0
SourceMapsAreListed =
    (bytes : List ℕ) (p : Program Span) (due : Due) (tokens : List Token) → IsAccepted bytes p
    → IsMappedBack (units_of bytes) p due → Tokens (woven_text every_kind p) tokens
    → length due.bytes ≤ most_map_bytes → IsListedAs due.bytes (woven_segments (units_of bytes) p tokens)
