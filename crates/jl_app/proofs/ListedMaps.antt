-- The source map of an accepted script is listed as the segments that were written.
use Rattle.std.proofs.Common.{◌∙◌, ◌<◌, ◌≤◌, ◌+◌, ◌-◌, All, List, [], ◌∷◌, ◌++◌, Option, None, Some, ap, arith}
use Rattle.std.proofs.Common.{length, map, refl, sym, subst, zero, suc, ℕ}
use Rattle.std.proofs.lemmas.List.{append-nil, drop_all}
use Rattle.std.proofs.lemmas.List.Elements.{All-cons, All-head, All-nil, All-tail}
use Rattle.std.proofs.lemmas.List.Sums.{count_by-le-length}
use Rattle.std.proofs.lemmas.Fmt.{decimal_digit}
use Rattle.std.proofs.lemmas.Str.{IsUtf8-append, IsUtf8-from_ascii}
use Rattle.std.specs.Prelude.{codes, nat_le, slice_get, slice_index}
use Rattle.std.specs.Str.{IsUtf8}
use Rattle.jl_ast.specs.Tree.{Program}
use Rattle.jl_op.specs.Chosen.{every_kind}
use Rattle.jl_op.specs.IdMap.{id_map}
use Rattle.jl_op.specs.Map.{BeginsIn, MapRow}
use Rattle.jl_grammar.specs.Program.{Reads}
use Rattle.json.proofs.Printed.Utf8.{IsUtf8-are_ascii, IsUtf8-quoted}
use Rattle.json.specs.Print.{quoted}
use Rattle.jl_srcmap.proofs.Ascii.{mappings_ascii}
use Rattle.jl_srcmap.proofs.Calls.{made_in_order}
use Rattle.jl_srcmap.proofs.MapText.{is_map}
use Rattle.jl_srcmap.specs.Hooks.{HookCall, begin_of, call_segment, hook_calls, hook_number, row_begin, segments_of}
use Rattle.jl_srcmap.specs.Hooks.{with_call}
use Rattle.jl_srcmap.specs.Laws.{BadPlaceIsUnique, IsSmall, NeverBoth, ReadingsAreUnique, WrittenReadsBack}
use Rattle.jl_srcmap.specs.Numbers.{below_limit}
use Rattle.jl_srcmap.specs.Segments.{AreInOrder}
use Rattle.jl_srcmap.specs.SourceMap.{source_map, source_map_text}
use Rattle.jl_srcmap.specs.Written.{mappings_text}
use Rattle.jl_srcmap.specs.declared.segment.Segment.{Segment}
use Rattle.serde_json.proofs.OnLiterals.{serde_json_on_literals}
use Rattle.serde_json.specs.Written.{compact_text}
use Rattle.jl_text.proofs.PlacesLemmas.{line_table-IsLineTable}
use Rattle.jl_text.specs.Encoding.{units_of}
use Rattle.jl_text.specs.Places.{LineTable, line_at, line_col, line_table}
use Rattle.jl_text.specs.declared.span.Span.{Span}
use Rattle.jl_token.proofs.Whole.{tokens_are_unique}
use Rattle.jl_token.specs.Tokens.{InOrder, SpansAreInOrder, Tokens}
use Rattle.jl_token.specs.declared.token.Token.{Token}
use Rattle.jl_app.specs.Accepting.{IsAccepted}
use Rattle.jl_app.specs.Due.{Due, text_only}
use Rattle.jl_app.specs.Forms.{most_map_bytes}
use Rattle.jl_app.specs.ListedMaps.{IsListedAs}
use Rattle.jl_app.specs.SourceMapping.{listed_segments, mapped_back, segment_lines, woven_segments, IsMappedBack}
use Rattle.jl_app.specs.SourceMapping.{IsUnmapped}
use Rattle.jl_app.specs.WovenText.{woven_text}
use Rattle.jl_app.specs.declared.form.Form.TheVariants as forms
use Rattle.jl_app.specs.declared.status.Status.TheVariants as status
use Rattle.jl_app.proofs.MappedBack.{begin_within}
use Rattle.jl_app.proofs.OneText.{one_unmapped}
use Rattle.jl_app.proofs.Sizes.{few_units_of}

-- ---- the numbers of the segments are below 2^32

-- a text of few units has few lines, and few columns on each
place_small : (units : List ℕ) (at : ℕ) → length units < 4294967295 → at ≤ length units
    → below_limit ((line_col (line_table units) at).0 - 1) × below_limit ((line_col (line_table units) at).1 - 1)
place_small units at few within =
    let starts = (line_table units).starts in
    let lines = count_by-le-length (λ start. nat_le start at) starts in
    let most = (line_table-IsLineTable units few).few in (
      omega (arith, lines, most, few),
      column (slice_index starts (line_at starts at - 1)),
    )
  where
    column : (start : ℕ) → below_limit (at - start + 1 - 1)
    column start = omega (arith, few, within)

-- the part of the script that a hook tells of begins in the script
begins_within : (lines : LineTable) (rows : List MapRow) (i : ℕ) → All (BeginsIn lines) rows
    → row_begin (slice_get rows i) ≤ lines.end
begins_within lines [] i begin = omega arith
begins_within lines (row ∷ rows) zero begin = All-head (BeginsIn lines) row rows begin
begins_within lines (row ∷ rows) (suc i) begin =
    begins_within lines rows i (All-tail (BeginsIn lines) row rows begin)

call_small : (woven units : List ℕ) (rows : List MapRow) (call : HookCall) → length woven < 4294967295
    → length units < 4294967295 → All (BeginsIn (line_table units)) rows → call.at ≤ length woven
    → IsSmall (call_segment (line_table woven) rows (line_table units) call)
call_small woven units rows call short few begins within =
    let begin = begin_of rows call.number in
    let generated = line_col (line_table woven) call.at in
    let original = line_col (line_table units) begin in
    let here = place_small woven call.at short within in
    let there = place_small units begin few (begins_within (line_table units) rows (call.number - 1) begins) in
    record {
      line = here.0;
      fields = All-cons below_limit (generated.1 - 1) (0 ∷ (original.0 - 1) ∷ (original.1 - 1) ∷ []) here.1
          (All-cons below_limit 0 ((original.0 - 1) ∷ (original.1 - 1) ∷ []) (omega arith)
          (All-cons below_limit (original.0 - 1) ((original.1 - 1) ∷ []) there.0
          (All-cons below_limit (original.1 - 1) [] there.1 (All-nil below_limit))));
    }

all_small : (woven units : List ℕ) (rows : List MapRow) (ts : List Token) → length woven < 4294967295
    → length units < 4294967295 → All (BeginsIn (line_table units)) rows
    → All (λ (t : Token). t.span.from ≤ length woven) ts
    → All IsSmall (segments_of (line_table woven) rows (line_table units) ts)
all_small woven units rows [] short few begins within = All-nil IsSmall
all_small woven units rows (t ∷ ts) short few begins within =
    by (hook_number (t ∷ ts)) (All-head (λ (t : Token). t.span.from ≤ length woven) t ts within)
    (all_small woven units rows ts short few begins (All-tail (λ (t : Token). t.span.from ≤ length woven) t ts within))
  where
    segment : HookCall → Segment
    segment = call_segment (line_table woven) rows (line_table units)

    by : (o : Option ℕ) → t.span.from ≤ length woven → All IsSmall (map segment (hook_calls ts))
        → All IsSmall (map segment (with_call t.span.from o (hook_calls ts)))
    by None here others = others
    by (Some n) here others =
        All-cons IsSmall (segment (record { at = t.span.from; number = n })) (map segment (hook_calls ts))
        (call_small woven units rows (record { at = t.span.from; number = n }) short few begins here) others

-- ---- and their lines don't fall

in_order : (woven : List ℕ) (units : List ℕ) (rows : List MapRow) (ts : List Token) → InOrder 0 (length woven) ts
    → AreInOrder 0 (segments_of (line_table woven) rows (line_table units) ts)
in_order woven units rows ts o =
    let ss = segments_of (line_table woven) rows (line_table units) ts in
    made_in_order (line_table woven) rows (line_table units) ts (length ts) ss (omega arith)
    (ap (λ us. ss ++ segments_of (line_table woven) rows (line_table units) us) (drop_all (length ts) ts (omega arith))
    ∙ append-nil ss)
    0 (length woven) o

-- ---- the bytes are JSON in UTF-8

-- what follows the mappings text, up to the version
abbrev rest : List ℕ → List ℕ
rest version = codes ",\"names\":[],\"sources\":[\"script.js\"],\"version\":" ++ version

json_text : (m : List ℕ) → IsUtf8 m → IsUtf8 (compact_text (source_map m))
unfolding serde_json_on_literals
json_text m utf8 =
    subst (λ digits. IsUtf8 (codes "{\"mappings\":" ++ (quoted m ++ rest (digits ++ 125 ∷ []))))
    (sym (decimal_digit 3 (omega arith)))
    (IsUtf8-append (codes "{\"mappings\":") (quoted m ++ rest (codes "3}"))
    (IsUtf8-are_ascii (codes "{\"mappings\":") refl)
    (IsUtf8-append (quoted m) (rest (codes "3}")) (IsUtf8-quoted m utf8) (IsUtf8-are_ascii (rest (codes "3}")) refl)))

-- ---- together

abbrev pub RowsLieInText : Type 0
RowsLieInText =
    (text : List ℕ) (ts : List Token) (limit : ℕ) (p : Program Span) → Tokens text ts → Reads ts limit p
    → All (BeginsIn (line_table text)) (id_map p)

abbrev map_of : List Segment → List ℕ
map_of ss = source_map_text (mappings_text ss)

module _ (written : WrittenReadsBack) (readings : ReadingsAreUnique) (never : NeverBoth) (bad : BadPlaceIsUnique) where
  listed : (ss : List Segment) → All IsSmall ss → AreInOrder 0 ss → length (map_of ss) ≤ most_map_bytes
      → IsListedAs (map_of ss) ss
  listed ss small ordered short =
      let m = mappings_text ss in
      let utf8 = json_text m (IsUtf8-from_ascii m (mappings_ascii ss)) in
      let is = is_map (source_map_text m) (compact_text (source_map m)) m refl refl utf8 in
      let due : IsUnmapped (map_of ss) (text_only status.Clean (segment_lines ss)) =
      listed_segments ss (record { short = short; decoded = is.json.utf8 })
      (record { mappings = m; map = is; read = written ss small ordered }) in
      record {
        due = due;
        only = λ other is. one_unmapped readings never bad (map_of ss) other _ is due;
      }

  pub maps_listed : SpansAreInOrder → RowsLieInText → (bytes : List ℕ) (p : Program Span) (due : Due)
      (tokens : List Token)
      → IsAccepted bytes p → length (woven_text every_kind p) < 4294967295 → IsMappedBack (units_of bytes) p due
      → Tokens (woven_text every_kind p) tokens → length due.bytes ≤ most_map_bytes
      → IsListedAs due.bytes (woven_segments (units_of bytes) p tokens)
  maps_listed spans rows_lie bytes p _ tokens is few (mapped_back found has) lexed short =
      let woven = woven_text every_kind p in
      let units = units_of bytes in
      let ordered = spans woven found has in
      let segments = woven_segments units p found in
      let small = all_small woven units (id_map p) found few (few_units_of forms.Script bytes is.decoded is.short)
      (rows_lie units is.tokens 200 p is.lexed is.read) (begin_within 0 (length woven) found ordered) in
      subst (λ ts. IsListedAs (map_of segments) (woven_segments units p ts))
      (tokens_are_unique woven found tokens has lexed)
      (listed segments small (in_order woven units (id_map p) found ordered) short)
