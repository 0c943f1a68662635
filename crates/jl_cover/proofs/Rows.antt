-- How what is found of the rows of a map grows by a row.
use Rattle.std.proofs.Common.{◌≡◌, ℕ, zero, suc, ◌+◌, ◌-◌, ◌<◌, ◌&&◌, Bool, List, [], ◌∷◌, ◌++◌, length, get_or, take}
use Rattle.std.proofs.Common.{refl}
use Rattle.std.proofs.Common.{Option, None, Some, slice_get, sym, ap, ◌∙◌, arith, add-one, append-nil, length-take}
use Rattle.std.proofs.Math.Seq.{take-suc}
use Rattle.std.proofs.lemmas.List.Concat.{flat_map-append}
use Rattle.std.proofs.lemmas.List.Sums.{fold-append}
use Rattle.std.specs.BTreeMap.{insert_entry}
use Rattle.std.specs.List.{enumerate_from}
use Rattle.std.specs.Prelude.{cond, count_by, is_none, option_map, ◌==◌}
use Rattle.jl_op.specs.declared.kind.OpKind.{OpKind}
use Rattle.jl_op.specs.Kinds.{number_of}
use Rattle.jl_op.specs.Map.{MapRow}
use Rattle.jl_text.specs.declared.span.Span.{Span}
use Rattle.jl_text.specs.Places.{LineTable, line_col}
use Rattle.jl_cover.specs.declared.missed.Gap.{Gap}
use Rattle.jl_cover.specs.Coverage.{Key, Lacks, by_place, covered_count, gaps_of, in_order, is_kind, numbered, placed}
use Rattle.jl_cover.specs.Coverage.{row_count}

abbrev pub one_if : Bool → ℕ
one_if b = cond b 1 0

-- one more row has the next id
numbered-push : (first id : ℕ) (rows : List MapRow) (row : MapRow) → id ≡ first + length rows
    → enumerate_from first (rows ++ row ∷ []) ≡ enumerate_from first rows ++ (id, row) ∷ []
numbered-push first id [] row is = ap (λ n. (n, row) ∷ []) (let same : first ≡ id = omega arith in same)
numbered-push first id (x ∷ rows) row is =
    ap (λ l. (first, x) ∷ l) (numbered-push (first + 1) id rows row (omega arith))

row_there : (rows : List MapRow) (at : ℕ) → at < length rows → (row : MapRow) × (slice_get rows at ≡ Some row)
row_there [] at within = absurd (omega arith)
row_there (x ∷ rows) zero within = (x, refl)
row_there (x ∷ rows) (suc at) within = row_there rows at (omega arith)

get_or_there : (rows : List MapRow) (at : ℕ) (row d : MapRow) → slice_get rows at ≡ Some row → get_or rows at d ≡ row
get_or_there [] at row d is = absurd (cc)
get_or_there (x ∷ rows) zero row d is = cc
get_or_there (x ∷ rows) (suc at) row d is = get_or_there rows at row d is

-- what a row says, where it is known
part_of : {X : Type 0} (part : MapRow → X) (rows : List MapRow) (at : ℕ) (row : MapRow) (x : X)
    → slice_get rows at ≡ Some row → option_map part (slice_get rows (at + 1 - 1)) ≡ Some x → part row ≡ x
part_of part rows at row x here is =
    let same : at + 1 - 1 ≡ at = omega arith in
    let both : Some (part row) ≡ Some x =
    sym (ap (option_map part) here) ∙ sym (ap (λ n. option_map part (slice_get rows n)) same) ∙ is in cc

one_more : (rows : List MapRow) (at : ℕ) (row : MapRow) → at < length rows → slice_get rows at ≡ Some row
    → numbered (take (at + 1) rows) ≡ numbered (take at rows) ++ (at + 1, row) ∷ []
one_more rows at row within here =
    ap (λ n. numbered (take n rows)) (add-one at)
    ∙ ap numbered (take-suc rows at row within)
    ∙ ap (λ x. numbered (take at rows ++ x ∷ [])) (get_or_there rows at row row here)
    ∙ numbered-push 1 (at + 1) (take at rows) row (omega (arith, length-take {A = MapRow}))

count-push : (p : ℕ × MapRow → Bool) (rows : List MapRow) (at : ℕ) (row : MapRow) (b : Bool) → at < length rows
    → slice_get rows at ≡ Some row → b ≡ p (at + 1, row)
    → count_by p (numbered (take (at + 1) rows)) ≡ count_by p (numbered (take at rows)) + one_if b
count-push p rows at row b within here is =
    ap (count_by p) (one_more rows at row within here)
    ∙ fold-append _ 0 (numbered (take at rows)) ((at + 1, row) ∷ [])
    ∙ ap (λ x. count_by p (numbered (take at rows)) + one_if x) (sym is)

-- one more row is counted, or not
pub one_more_counted : (rows : List MapRow) (at : ℕ) (kind wanted : OpKind) (b : Bool) → at < length rows
    → option_map (λ row. row.0) (slice_get rows (at + 1 - 1)) ≡ Some kind
    → b ≡ (number_of kind == number_of wanted)
    → row_count (take (at + 1) rows) wanted ≡ row_count (take at rows) wanted + one_if b
one_more_counted rows at kind wanted b within kinds is =
    let there = row_there rows at within in
    let same = part_of (λ row. row.0) rows at there.0 kind there.1 kinds in
    count-push (is_kind wanted) rows at there.0 b within there.1
    (is ∙ ap (λ k. number_of k == number_of wanted) (sym same))

pub one_more_covered : (rows : List MapRow) (lacks : Lacks) (at : ℕ) (kind wanted : OpKind) (b : Bool)
    → at < length rows
    → option_map (λ row. row.0) (slice_get rows (at + 1 - 1)) ≡ Some kind
    → b ≡ (number_of kind == number_of wanted && is_none (lacks (at + 1) kind))
    → covered_count (take (at + 1) rows) lacks wanted ≡ covered_count (take at rows) lacks wanted + one_if b
one_more_covered rows lacks at kind wanted b within kinds is =
    let there = row_there rows at within in
    let same = part_of (λ row. row.0) rows at there.0 kind there.1 kinds in
    count-push (λ row. is_kind wanted row && is_none (lacks row.0 row.1.0)) rows at there.0 b within there.1
    (is ∙ ap (λ k. number_of k == number_of wanted && is_none (lacks (at + 1) k)) (sym same))

-- the gap of one more row goes to its place in the order
gaps-push : (lines : LineTable) (lacks : Lacks) (rows : List MapRow) (at : ℕ) (row : MapRow) (found : Option Gap)
    → at < length rows → slice_get rows at ≡ Some row → lacks (at + 1) row.0 ≡ found
    → gaps_of lines lacks (numbered (take (at + 1) rows))
    ≡ gaps_of lines lacks (numbered (take at rows)) ++ placed lines (at + 1, row) found
gaps-push lines lacks rows at row found within here is =
    ap (gaps_of lines lacks) (one_more rows at row within here)
    ∙ flat_map-append _ (numbered (take at rows)) ((at + 1, row) ∷ [])
    ∙ ap (λ l. gaps_of lines lacks (numbered (take at rows)) ++ l)
    (append-nil (placed lines (at + 1, row) (lacks (at + 1) row.0)) ∙ ap (placed lines (at + 1, row)) is)

pub without_gap : (lines : LineTable) (lacks : Lacks) (rows : List MapRow) (at : ℕ) (kind : OpKind)
    (before : List (Key × Gap)) → at < length rows
    → option_map (λ row. row.0) (slice_get rows (at + 1 - 1)) ≡ Some kind → lacks (at + 1) kind ≡ None
    → before ≡ in_order (gaps_of lines lacks (numbered (take at rows)))
    → before ≡ in_order (gaps_of lines lacks (numbered (take (at + 1) rows)))
without_gap lines lacks rows at kind before within kinds none so_far =
    let there = row_there rows at within in
    let same = part_of (λ row. row.0) rows at there.0 kind there.1 kinds in
    so_far ∙ ap in_order (sym (gaps-push lines lacks rows at there.0 None within there.1
    (ap (lacks (at + 1)) same ∙ none)
    ∙ append-nil (gaps_of lines lacks (numbered (take at rows)))))

pub with_gap : (lines : LineTable) (lacks : Lacks) (rows : List MapRow) (at : ℕ) (kind : OpKind) (span : Span)
    (found : Gap) (place : ℕ × ℕ) (before after : List (Key × Gap)) → at < length rows
    → option_map (λ row. row.0) (slice_get rows (at + 1 - 1)) ≡ Some kind
    → option_map (λ row. row.1) (slice_get rows (at + 1 - 1)) ≡ Some span
    → lacks (at + 1) kind ≡ Some found → place ≡ line_col lines span.from
    → before ≡ in_order (gaps_of lines lacks (numbered (take at rows)))
    → after ≡ insert_entry by_place before (place.0, place.1, at + 1) found
    → after ≡ in_order (gaps_of lines lacks (numbered (take (at + 1) rows)))
with_gap lines lacks rows at kind span found place before after within kinds spans some is so_far grown =
    let there = row_there rows at within in
    let same = part_of (λ row. row.0) rows at there.0 kind there.1 kinds in
    let where_is : line_col lines there.0.1.from ≡ place =
    ap (λ s. line_col lines s.from) (part_of (λ row. row.1) rows at there.0 span there.1 spans) ∙ sym is in
    grown ∙ ap (λ es. insert_entry by_place es (place.0, place.1, at + 1) found) so_far
    ∙ ap (λ (p : ℕ × ℕ). insert_entry by_place (in_order (gaps_of lines lacks (numbered (take at rows))))
    (p.0, p.1, at + 1) found) (sym where_is)
    ∙ sym (ap in_order (gaps-push lines lacks rows at there.0 (Some found) within there.1
    (ap (lacks (at + 1)) same ∙ some))
    ∙ fold-append _ [] (gaps_of lines lacks (numbered (take at rows))) (placed lines (at + 1, there.0) (Some found)))
