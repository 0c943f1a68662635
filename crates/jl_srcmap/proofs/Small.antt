-- Segments whose numbers are below 2^32.
use Rattle.std.proofs.Common.{◌≡◌, ℕ, ◌<◌, ◌≤◌, ◌+◌, List, [], ◌∷◌, ◌++◌, All, length, take, drop, get_or, ap, sym}
use Rattle.std.proofs.Common.{subst, ◌∙◌, arith, append_assoc, suc}
use Rattle.std.proofs.Common.{Result, Ok, Err, Option, Some, None}
use Rattle.std.specs.declared.alloc.AllocError.{AllocError}
use Rattle.std.specs.Prelude.{OnOk}
use Rattle.std.proofs.Math.Seq.{drop-cons}
use Rattle.std.proofs.lemmas.List.{append-nil, drop_all, take_all}
use Rattle.std.proofs.lemmas.List.Elements.{All-cons, All-nil}
use Rattle.jl_srcmap.specs.Laws.{IsSmall}
use Rattle.jl_srcmap.specs.Mappings.{Reads, Running, after}
use Rattle.jl_srcmap.specs.Mappings as mappings
use Rattle.jl_srcmap.specs.Numbers.{below_limit}
use Rattle.jl_srcmap.specs.Segments.{AreInOrder, name_field, origin_fields}
use Rattle.jl_srcmap.specs.Written.{between, following, mappings_text, segment_text}
use Rattle.jl_srcmap.specs.declared.segment.Origin.{Origin}
use Rattle.jl_srcmap.specs.declared.segment.Segment.{Segment}
use Rattle.jl_srcmap.proofs.Back.{written_reads_back}

small_fields : (s : Segment) (o : Option Origin) → s.origin ≡ o → below_limit s.line → below_limit s.column
    → All below_limit (origin_fields o) → IsSmall s
small_fields s o e line column others = record {
  line = line;
  fields = All-cons below_limit s.column (origin_fields s.origin) column
      (subst (λ p. All below_limit (origin_fields p)) (sym e) others);
}

pub alone_small : (s : Segment) → s.origin ≡ None → below_limit s.line → below_limit s.column → IsSmall s
alone_small s e line column = small_fields s None e line column (All-nil below_limit)

pub placed_small : {X : Type 0} (r : Result X AllocError) (s : Segment) (o : Origin) → s.origin ≡ Some o
    → below_limit s.line → below_limit s.column → OnOk r (All below_limit (origin_fields (Some o))) → OnOk r (IsSmall s)
placed_small (Ok x) s o e line column others = small_fields s (Some o) e line column others
placed_small (Err x) s o e line column others = tt

pub origin_small : (o : Origin) → o.name ≡ None → below_limit o.source → below_limit o.line → below_limit o.column
    → All below_limit (origin_fields (Some o))
origin_small o e source line column =
    subst (λ n. All below_limit (o.source ∷ o.line ∷ o.column ∷ name_field n)) (sym e)
    (All-cons below_limit o.source (o.line ∷ o.column ∷ []) source
    (All-cons below_limit o.line (o.column ∷ []) line
    (All-cons below_limit o.column [] column (All-nil below_limit))))

pub named_small : {X : Type 0} (r : Result X AllocError) (o : Origin) (n : ℕ) → o.name ≡ Some n → below_limit o.source
    → below_limit o.line → below_limit o.column → below_limit n → OnOk r (All below_limit (origin_fields (Some o)))
named_small (Ok x) o n e source line column name =
    subst (λ m. All below_limit (o.source ∷ o.line ∷ o.column ∷ name_field m)) (sym e)
    (All-cons below_limit o.source (o.line ∷ o.column ∷ n ∷ []) source
    (All-cons below_limit o.line (o.column ∷ n ∷ []) line
    (All-cons below_limit o.column (n ∷ []) column
    (All-cons below_limit n [] name (All-nil below_limit)))))
named_small (Err x) o n e source line column name = tt

-- ---- what the writer has written

pub nothing_written : (text : List ℕ) (ss : List Segment) → text ≡ [] → length ss ≡ 0 → Reads text ss
nothing_written text [] e l = subst (λ t. Reads t []) (sym e) mappings.none
nothing_written text (s ∷ ss) e l = absurd (omega arith)

pub whole_written : (text : List ℕ) (ss others : List Segment) (r : Running) (n : ℕ)
    → mappings_text ss ≡ text ++ following r (drop n others) → length others ≤ n → text ≡ mappings_text ss
whole_written text ss others r n e l =
    sym (e ∙ ap (λ l. text ++ following r l) (drop_all n others l) ∙ append-nil text)

pub all_written : (text : List ℕ) (ss : List Segment) (first : Segment) (others : List Segment) (r : Running) (n : ℕ)
    → ss ≡ first ∷ others → mappings_text ss ≡ text ++ following r (drop n others) → length others ≤ n → IsSmall first
    → All IsSmall (take n others) → AreInOrder 0 ss → Reads text ss
all_written text ss first others r n is e l small smalls o =
    let whole : mappings_text ss ≡ text = sym (whole_written text ss others r n e l) in
    let all : All IsSmall (first ∷ others) =
    All-cons IsSmall first others small (subst (All IsSmall) (take_all n others l) smalls) in
    subst (λ t. Reads t ss) whole (written_reads_back ss (subst (All IsSmall) (sym is) all) o)

pub next_written : (whole text between_text next_text : List ℕ) (others : List Segment) (n : ℕ) (d : Segment)
    (r next : Running) → n < length others → whole ≡ text ++ following r (drop n others)
    → between_text ≡ text ++ between r.line (get_or others n d).line
    → next_text ≡ between_text ++ segment_text r (get_or others n d) → next ≡ after r (get_or others n d)
    → whole ≡ next_text ++ following next (drop (n + 1) others)
next_written whole text between_text next_text others n d r next l e f g h =
    let s = get_or others n d in
    let later = following (after r s) (drop (n + 1) others) in
    let suc_is : suc n ≡ n + 1 = omega arith in
    e ∙ ap (λ ss. text ++ following r ss) (drop-cons others n d l ∙ ap (λ m. s ∷ drop m others) suc_is)
    ∙ sym (append_assoc text (between r.line s.line) (segment_text r s ++ later))
    ∙ ap (λ t. t ++ (segment_text r s ++ later)) (sym f)
    ∙ sym (append_assoc between_text (segment_text r s) later)
    ∙ ap (λ t. t ++ later) (sym g)
    ∙ ap (λ q. next_text ++ following q (drop (n + 1) others)) (sym h)
