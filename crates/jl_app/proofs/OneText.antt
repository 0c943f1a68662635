-- What is due to a source map, or to the text of a stored run, is one answer.
use Rattle.std.proofs.Common.{◌≡◌, ◌∙◌, ℕ, List, Some, None, ap, arith, refl, subst, sym}
use Rattle.std.specs.Fmt.{decimal}
use Rattle.std.specs.Prelude.{◌++◌, codes}
use Rattle.jl_command.specs.Asked.{is_among}
use Rattle.jl_record.specs.Records.{OneBadLine, OneRecord, Stored}
use Rattle.jl_report.proofs.OneReport.{one_report}
use Rattle.jl_report.specs.Reports as reports
use Rattle.jl_srcmap.specs.Laws.{BadPlaceIsUnique, NeverBoth, ReadingsAreUnique}
use Rattle.jl_srcmap.specs.Mappings.{IsBadAt, Reads}
use Rattle.jl_srcmap.specs.SourceMap.{HasSegments, IsJson, IsMap, IsRefusal, mappings_in}
use Rattle.jl_srcmap.specs.declared.refusal.MapRefusal.TheVariants as refusals
use Rattle.jl_srcmap.specs.declared.segment.Segment.{Segment}
use Rattle.serde_json.specs.Data.{Data}
use Rattle.jl_text.specs.Encoding.{units_of}
use Rattle.jl_app.specs.Due.{Due, refused_only, text_only}
use Rattle.jl_app.specs.Forms.{most_map_bytes, most_record_bytes}
use Rattle.jl_app.specs.Refusals.{refusal_words}
use Rattle.jl_app.specs.Replaying.{no_record, not_text, places_of, replay_due, reported, IsReplayed, IsReportOf}
use Rattle.jl_app.specs.Reporting.{Lines}
use Rattle.jl_app.specs.SourceMapping.{listed_segments, no_json, no_map, no_segment, no_text, segment_lines, IsUnmapped}
use Rattle.jl_app.specs.Texts.{longer, undecoded, IsNoText, IsTextWithin}
use Rattle.jl_app.specs.declared.refusal.Refusal.{Refusal}
use Rattle.jl_app.specs.declared.status.Status.TheVariants as status

some_same : {A : Type 0} {a b : A} → Some a ≡ Some b → a ≡ b
some_same e = cc

-- bytes that are no text are so for one cause
one_cause : (most : ℕ) (bytes : List ℕ) (c d : Refusal) → IsNoText most bytes c → IsNoText most bytes d → c ≡ d
one_cause most bytes _ _ (longer more) (longer too) = refl
one_cause most bytes _ _ (longer more) (undecoded few bad) = absurd (omega (arith, more, few))
one_cause most bytes _ _ (undecoded few bad) (longer more) = absurd (omega (arith, more, few))
one_cause most bytes _ _ (undecoded few bad) (undecoded less worse) = refl

pub never_text : (most : ℕ) (bytes : List ℕ) (c : Refusal) → IsNoText most bytes c → IsTextWithin most bytes → ⊥
never_text most bytes _ (longer more) is = omega (arith, more, is.short)
never_text most bytes _ (undecoded few bad) is = bad is.decoded

same_words : {c d : Refusal} → c ≡ d → refused_only (refusal_words c) ≡ refused_only (refusal_words d)
same_words is = ap (λ c. refused_only (refusal_words c)) is

-- SOURCE MAPS
same_value : (bytes : List ℕ) (d e : Data) → IsJson bytes d → IsJson bytes e → d ≡ e
same_value bytes d e a b = some_same (sym a.read ∙ b.read)

same_mappings : (bytes m n : List ℕ) → IsMap bytes m → IsMap bytes n → m ≡ n
same_mappings bytes m n a b =
    some_same (sym a.text ∙ ap mappings_in (same_value bytes a.value b.value a.json b.json) ∙ b.text)

never_shapeless : (bytes m : List ℕ) (d : Data) → IsMap bytes m → IsJson bytes d → mappings_in d ≡ None → ⊥
never_shapeless bytes m d a json none =
    let some : Some m ≡ None = sym a.text ∙ ap mappings_in (same_value bytes a.value d a.json json) ∙ none in
    absurd (cc)

module _ (readings : ReadingsAreUnique) (never : NeverBoth) (bad : BadPlaceIsUnique) (bytes : List ℕ) where
  one_segments : (ss rs : List Segment) → HasSegments bytes ss → HasSegments bytes rs → ss ≡ rs
  one_segments ss rs a b =
      readings b.mappings ss rs
      (subst (λ m. Reads m ss) (same_mappings bytes a.mappings b.mappings a.map b.map) a.read) b.read

  one_place : (i j : ℕ) → IsRefusal bytes (refusals.BadSegment i) → IsRefusal bytes (refusals.BadSegment j) → i ≡ j
  one_place i j a b =
      bad b.0 i j (subst (λ m. IsBadAt m i) (same_mappings bytes a.0 b.0 a.1 b.1) a.2) b.2

  never_bad : (ss : List Segment) (i : ℕ) → HasSegments bytes ss → IsRefusal bytes (refusals.BadSegment i) → ⊥
  never_bad ss i a b =
      never b.0 ss i (subst (λ m. Reads m ss) (same_mappings bytes a.mappings b.0 a.map b.1) a.read) b.2

  pub one_unmapped : (d e : Due) → IsUnmapped bytes d → IsUnmapped bytes e → d ≡ e
  one_unmapped _ _ (no_text c a) (no_text d b) = same_words (one_cause most_map_bytes bytes c d a b)
  one_unmapped _ e (no_text c a) (no_json is b) = absurd (never_text most_map_bytes bytes c a is)
  one_unmapped _ e (no_text c a) (no_map is b) = absurd (never_text most_map_bytes bytes c a is)
  one_unmapped _ e (no_text c a) (no_segment at is b) = absurd (never_text most_map_bytes bytes c a is)
  one_unmapped _ e (no_text c a) (listed_segments ss is b) = absurd (never_text most_map_bytes bytes c a is)
  one_unmapped d _ (no_json is b) (no_text c a) = absurd (never_text most_map_bytes bytes c a is)
  one_unmapped _ _ (no_json is a) (no_json too b) = refl
  one_unmapped _ _ (no_json is a) (no_map too b) = absurd (a b.0 b.1)
  one_unmapped _ _ (no_json is a) (no_segment at too b) = absurd (a b.1.value b.1.json)
  one_unmapped _ _ (no_json is a) (listed_segments ss too b) = absurd (a b.map.value b.map.json)
  one_unmapped d _ (no_map is b) (no_text c a) = absurd (never_text most_map_bytes bytes c a is)
  one_unmapped _ _ (no_map is a) (no_json too b) = absurd (b a.0 a.1)
  one_unmapped _ _ (no_map is a) (no_map too b) = refl
  one_unmapped _ _ (no_map is a) (no_segment at too b) = absurd (never_shapeless bytes b.0 a.0 b.1 a.1 a.2)
  one_unmapped _ _ (no_map is a) (listed_segments ss too b) =
      absurd (never_shapeless bytes b.mappings a.0 b.map a.1 a.2)
  one_unmapped d _ (no_segment at is b) (no_text c a) = absurd (never_text most_map_bytes bytes c a is)
  one_unmapped _ _ (no_segment at is a) (no_json too b) = absurd (b a.1.value a.1.json)
  one_unmapped _ _ (no_segment at is a) (no_map too b) = absurd (never_shapeless bytes a.0 b.0 a.1 b.1 b.2)
  one_unmapped _ _ (no_segment i is a) (no_segment j too b) =
      ap (λ n. refused_only (codes "MapText at " ++ decimal n)) (one_place i j a b)
  one_unmapped _ _ (no_segment at is a) (listed_segments ss too b) = absurd (never_bad ss at b a)
  one_unmapped d _ (listed_segments ss is b) (no_text c a) = absurd (never_text most_map_bytes bytes c a is)
  one_unmapped _ _ (listed_segments ss is a) (no_json too b) = absurd (b a.map.value a.map.json)
  one_unmapped _ _ (listed_segments ss is a) (no_map too b) =
      absurd (never_shapeless bytes a.mappings b.0 a.map b.1 b.2)
  one_unmapped _ _ (listed_segments ss is a) (no_segment at too b) = absurd (never_bad ss at a b)
  one_unmapped _ _ (listed_segments ss is a) (listed_segments rs too b) =
      ap (λ l. text_only status.Clean (segment_lines l)) (one_segments ss rs a b)

-- STORED RUNS
module _ (one : OneRecord) (one_line : OneBadLine) (chosen bytes : List ℕ) where
  same_lines : (s r : Stored) (ls ks : Lines) → s ≡ r → IsReportOf s chosen ls → IsReportOf r chosen ks → ls ≡ ks
  same_lines s r ls ks is a b =
      one_report (reports.is_shown (is_among chosen) r.off) (reports.hits_at (places_of r.rows) r.operations) ls ks
      (subst (λ (x : Stored). IsReportOf x chosen ls) is a) b

  pub one_replayed : (d e : Due) → IsReplayed chosen bytes d → IsReplayed chosen bytes e → d ≡ e
  one_replayed _ _ (not_text c a) (not_text d b) = same_words (one_cause most_record_bytes bytes c d a b)
  one_replayed _ e (not_text c a) (no_record n is b) = absurd (never_text most_record_bytes bytes c a is)
  one_replayed _ e (not_text c a) (reported s ls is stored text b) =
      absurd (never_text most_record_bytes bytes c a is)
  one_replayed d _ (no_record n is b) (not_text c a) = absurd (never_text most_record_bytes bytes c a is)
  one_replayed _ _ (no_record m is a) (no_record n too b) =
      ap (λ n. refused_only (codes "Record at line " ++ decimal n)) (one_line (units_of bytes) m n a.line b.line)
  one_replayed _ _ (no_record n is a) (reported s ls too stored text b) = absurd (a.none s stored text)
  one_replayed d _ (reported s ls is stored text b) (not_text c a) =
      absurd (never_text most_record_bytes bytes c a is)
  one_replayed _ _ (reported s ls is stored text a) (no_record n too b) = absurd (b.none s stored text)
  one_replayed _ _ (reported s ls is stored text a) (reported r ks too kept words b) =
      let same = one s r stored kept (text ∙ sym words) in
      ap (λ (x : Stored). replay_due x.operations ls) same
      ∙ ap (λ l. replay_due r.operations l) (same_lines s r ls ks same a b)
