-- The text of a run that is recorded, part by part.
use Rattle.std.proofs.Common.{◌≡◌, ℕ, zero, suc, ◌+◌, ◌-◌, ◌<◌, ◌≤◌, List, [], ◌∷◌, ◌++◌, length, map, take, get_or}
use Rattle.std.proofs.Common.{refl, sym, ap}
use Rattle.std.proofs.Common.{◌∙◌, arith, append_assoc, Option, Some, None, subst}
use Rattle.std.proofs.Math.Seq.{take-suc}
use Rattle.std.proofs.lemmas.List.{length-append, map-append}
use Rattle.std.proofs.lemmas.Option.{slice_get_within, get_or_from_slice_get}
use Rattle.std.specs.Prelude.{slice_get, option_map, codes}
use Rattle.jl_op.specs.declared.kind.OpKind.{OpKind}
use Rattle.jl_op.specs.Map.{MapRow}
use Rattle.jl_op.specs.Operations.{Operation}
use Rattle.jl_report.specs.Off.{Pair}
use Rattle.jl_text.specs.declared.span.Span.{Span}
use Rattle.jl_text.specs.Encoding.{bytes_of}
use Rattle.jl_text.specs.Places.{LineTable, line_col}
use Rattle.jl_record.specs.declared.bounded.Bounded.{Bounded}
use Rattle.jl_record.specs.Bounded.{Appends}
use Rattle.jl_record.specs.Fronts.{operations_so_far}
use Rattle.jl_record.specs.Lines.{with_ends}
use Rattle.jl_record.specs.Recording.{rows_of}
use Rattle.jl_record.specs.Records.{Row, row_line, off_line, operation_line, count_line, first_line, last_line}
use Rattle.jl_record.specs.Records.{lines_of, text_of}
use Rattle.jl_record.proofs.Bytes.{lf_more, ends_in_lf}
use Rattle.jl_record.proofs.Holding.{appends_both}
use Rattle.jl_record.proofs.Lines.{ends_append}

-- ---- lists of lines that grow

-- the lines of items, and that of one more
pub one_line_more : {A : Type 0} (line : A → List ℕ) (items : List A) (a : A)
    → with_ends (map line items) ++ (line a ++ 10 ∷ []) ≡ with_ends (map line (items ++ a ∷ []))
one_line_more line items a =
    sym (ends_append (map line items) (line a ∷ [])) ∙ ap with_ends (sym (map-append line items (a ∷ [])))

take_next : {A : Type 0} (items : List A) (i : ℕ) (a : A) → a ≡ get_or items i a → i < length items
    → take i items ++ a ∷ [] ≡ take (i + 1) items
take_next items i a item below =
    let next : suc i ≡ i + 1 = omega arith in
    ap (λ x. take i items ++ x ∷ []) item ∙ sym (take-suc items i a below) ∙ ap (λ j. take j items) next

pub appends_item : {A : Type 0} (line : A → List ℕ) (items : List A) (i : ℕ) (a : A) (old mid new : Bounded)
    → a ≡ get_or items i a → i < length items → Appends old mid (with_ends (map line (take i items)))
    → Appends mid new (line a ++ 10 ∷ []) → Appends old new (with_ends (map line (take (i + 1) items)))
appends_item line items i a old mid new item below p q =
    subst (Appends old new)
    (one_line_more line (take i items) a ∙ ap (λ l. with_ends (map line l)) (take_next items i a item below))
    (appends_both old mid new (with_ends (map line (take i items))) (line a ++ 10 ∷ []) p q)

pub appends_next : {A : Type 0} (line : A → List ℕ) (items : List A) (i : ℕ) (a : A) (old mid new : Bounded)
    → slice_get items i ≡ Some a → Appends old mid (with_ends (map line (take i items)))
    → Appends mid new (line a ++ 10 ∷ []) → Appends old new (with_ends (map line (take (i + 1) items)))
appends_next line items i a old mid new here p q =
    appends_item line items i a old mid new (sym (get_or_from_slice_get items i a a here))
    (slice_get_within items i a here) p q

pub there : {A : Type 0} (items : List A) (i : ℕ) (d : A) → i < length items
    → slice_get items i ≡ Some (get_or items i d)
there [] i d h = absurd (omega arith)
there (a ∷ items) zero d h = refl
there (a ∷ items) (suc i) d h = there items i d (omega arith)

pub take_all : {A : Type 0} (n : ℕ) (items : List A) → length items ≤ n → take n items ≡ items
take_all zero [] h = refl
take_all (suc n) [] h = refl
take_all zero (a ∷ items) h = absurd (omega arith)
take_all (suc n) (a ∷ items) h = ap (λ l. a ∷ l) (take_all n items (omega arith))

-- ---- rows

abbrev pub row_at : LineTable → MapRow → Row
row_at lines row = let place = line_col lines row.1.from in (row.0, place.0, place.1)

pub known_row : (o : Option MapRow) (kind : OpKind) (span : Span) → option_map (λ row. row.0) o ≡ Some kind
    → option_map (λ row. row.1) o ≡ Some span → o ≡ Some (kind, span)
known_row None kind span e f = absurd (cc)
known_row (Some row) kind span e f =
    let first : row.0 ≡ kind = cc in
    let second : row.1 ≡ span = cc in
    ap (λ k. Some (k, row.1)) first ∙ ap (λ s. Some (kind, s)) second

pub rows_lines : (lines : LineTable) (rows : List MapRow)
    → map (λ row. row_line (row_at lines row)) rows ≡ map row_line (rows_of lines rows)
rows_lines lines [] = refl
rows_lines lines (row ∷ rows) = ap (λ ls. row_line (row_at lines row) ∷ ls) (rows_lines lines rows)

-- one row more, of which the kind and the part of the source are known
pub appends_row : (lines : LineTable) (rows : List MapRow) (i : ℕ) (kind : OpKind) (span : Span) (place : ℕ × ℕ)
    (old mid new : Bounded)
    → option_map (λ row. row.0) (slice_get rows (i + 1 - 1)) ≡ Some kind
    → option_map (λ row. row.1) (slice_get rows (i + 1 - 1)) ≡ Some span → place ≡ line_col lines span.from
    → Appends old mid (with_ends (map (λ row. row_line (row_at lines row)) (take i rows)))
    → Appends mid new (row_line (kind, place.0, place.1) ++ 10 ∷ [])
    → Appends old new (with_ends (map (λ row. row_line (row_at lines row)) (take (i + 1) rows)))
appends_row lines rows i kind span place old mid new is_kind is_span is_place p q =
    let index : i + 1 - 1 ≡ i = omega arith in
    appends_next (λ row. row_line (row_at lines row)) rows i (kind, span) old mid new
    (ap (slice_get rows) (sym index) ∙ known_row (slice_get rows (i + 1 - 1)) kind span is_kind is_span) p
    (subst (λ (at : ℕ × ℕ). Appends mid new (row_line (kind, at.0, at.1) ++ 10 ∷ [])) is_place q)

-- ---- the lines before those of operations

pub head_text : (rows : List Row) (off : List Pair) (count : ℕ)
    → (first_line ++ 10 ∷ []) ++ ((count_line (codes "rows") (length rows) ++ 10 ∷ [])
    ++ (with_ends (map row_line rows) ++ ((count_line (codes "off") (length off) ++ 10 ∷ [])
    ++ (with_ends (map off_line off) ++ (count_line (codes "ops") count ++ 10 ∷ [])))))
    ≡ with_ends (operations_so_far rows off count [])
head_text rows off count =
    append_assoc first_line (10 ∷ []) _
    ∙ ap (λ us. first_line ++ 10 ∷ us)
    (append_assoc (count_line (codes "rows") (length rows)) (10 ∷ []) _
    ∙ ap (λ us. count_line (codes "rows") (length rows) ++ 10 ∷ us)
    (ap (λ us. with_ends (map row_line rows) ++ us)
    (append_assoc (count_line (codes "off") (length off)) (10 ∷ []) _
    ∙ ap (λ us. count_line (codes "off") (length off) ++ 10 ∷ us)
    (sym (ends_append (map off_line off) (count_line (codes "ops") count ∷ []))))
    ∙ sym (ends_append (map row_line rows) _)))

pub appends_head : (a b c d e f g : Bounded) (rows : List Row) (off pairs : List Pair) (n m count : ℕ)
    → n ≡ length rows → m ≡ length pairs → pairs ≡ off
    → Appends a b (first_line ++ 10 ∷ [])
    → Appends b c (count_line (codes "rows") n ++ 10 ∷ [])
    → Appends c d (with_ends (map row_line rows))
    → Appends d e (count_line (codes "off") m ++ 10 ∷ [])
    → Appends e f (with_ends (map off_line pairs))
    → Appends f g (count_line (codes "ops") count ++ 10 ∷ [])
    → Appends a g (with_ends (operations_so_far rows off count []))
appends_head a b c d e f g rows off pairs n m count is_n is_m is_off p q r s t u =
    subst (Appends a g)
    (ap (λ k. (first_line ++ 10 ∷ []) ++ ((count_line (codes "rows") k ++ 10 ∷ [])
    ++ (with_ends (map row_line rows) ++ ((count_line (codes "off") m ++ 10 ∷ [])
    ++ (with_ends (map off_line pairs) ++ (count_line (codes "ops") count ++ 10 ∷ [])))))) is_n
    ∙ ap (λ k. (first_line ++ 10 ∷ []) ++ ((count_line (codes "rows") (length rows) ++ 10 ∷ [])
    ++ (with_ends (map row_line rows) ++ ((count_line (codes "off") k ++ 10 ∷ [])
    ++ (with_ends (map off_line pairs) ++ (count_line (codes "ops") count ++ 10 ∷ [])))))) is_m
    ∙ head_text rows pairs count ∙ ap (λ l. with_ends (operations_so_far rows l count [])) is_off)
    (appends_both a b g _ _ p (appends_both b c g _ _ q (appends_both c d g _ _ r (appends_both d e g _ _ s
    (appends_both e f g _ _ t u)))))

-- ---- the whole

lines_split : (rows : List Row) (off : List Pair) (operations : List Operation)
    → lines_of (record { rows = rows; off = off; operations = operations })
    ≡ operations_so_far rows off (length operations) [] ++ (map operation_line operations ++ last_line ∷ [])
lines_split rows off operations =
    let rest = map operation_line operations ++ last_line ∷ [] in
    let ops = count_line (codes "ops") (length operations) in
    ap (λ ls. first_line ∷ count_line (codes "rows") (length rows) ∷ ls)
    (ap (λ ls. map row_line rows ++ count_line (codes "off") (length off) ∷ ls)
    (sym (append_assoc (map off_line off) (ops ∷ []) rest))
    ∙ sym (append_assoc (map row_line rows) (count_line (codes "off") (length off) ∷
    (map off_line off ++ ops ∷ [])) rest))

pub text_split : (rows : List Row) (off : List Pair) (operations : List Operation)
    → text_of (record { rows = rows; off = off; operations = operations })
    ≡ with_ends (operations_so_far rows off (length operations) [])
    ++ (with_ends (map operation_line operations) ++ codes "end\n")
text_split rows off operations =
    ap with_ends (lines_split rows off operations)
    ∙ ends_append (operations_so_far rows off (length operations) []) (map operation_line operations ++ last_line ∷ [])
    ∙ ap (λ us. with_ends (operations_so_far rows off (length operations) []) ++ us)
    (ends_append (map operation_line operations) (last_line ∷ []))

last_part : (a b c d e f last : List ℕ)
    → a ++ (b ++ (c ++ (d ++ (e ++ (f ++ last))))) ≡ (a ++ (b ++ (c ++ (d ++ (e ++ f))))) ++ last
last_part a b c d e f last =
    ap (λ us. a ++ (b ++ (c ++ (d ++ us)))) (sym (append_assoc e f last))
    ∙ ap (λ us. a ++ (b ++ (c ++ us))) (sym (append_assoc d (e ++ f) last))
    ∙ ap (λ us. a ++ (b ++ us)) (sym (append_assoc c (d ++ (e ++ f)) last))
    ∙ ap (λ us. a ++ us) (sym (append_assoc b (c ++ (d ++ (e ++ f))) last))
    ∙ sym (append_assoc a (b ++ (c ++ (d ++ (e ++ f)))) last)

-- the lines before those of operations end in an LF
pub head_ends : (rows : List Row) (off : List Pair) (count : ℕ)
    → (us : List ℕ) × (with_ends (operations_so_far rows off count []) ≡ us ++ 10 ∷ [])
head_ends rows off count = (
  (first_line ++ 10 ∷ []) ++ ((count_line (codes "rows") (length rows) ++ 10 ∷ [])
      ++ (with_ends (map row_line rows) ++ ((count_line (codes "off") (length off) ++ 10 ∷ [])
      ++ (with_ends (map off_line off) ++ count_line (codes "ops") count)))),
  sym (head_text rows off count)
      ∙ last_part (first_line ++ 10 ∷ []) (count_line (codes "rows") (length rows) ++ 10 ∷ [])
      (with_ends (map row_line rows)) (count_line (codes "off") (length off) ++ 10 ∷ []) (with_ends (map off_line off))
      (count_line (codes "ops") count) (10 ∷ []),
)

-- there are no more operations than bytes
pub few_operations : (operations : List Operation)
    → length operations ≤ length (bytes_of (with_ends (map operation_line operations)))
few_operations [] = omega arith
few_operations (o ∷ operations) =
    let more = few_operations operations in
    let line = ends_in_lf (operation_line o) in
    let split = ap bytes_of (sym (append_assoc (operation_line o) (10 ∷ []) (with_ends
    (map operation_line operations))))
    ∙ lf_more (operation_line o) (with_ends (map operation_line operations)) in
    omega (
      arith,
      ap length split,
      length-append (bytes_of (operation_line o ++ 10 ∷ [])) (bytes_of (with_ends (map operation_line operations))),
    )
