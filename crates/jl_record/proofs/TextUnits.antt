-- The text of a stored run is units of whole characters: ASCII, but for what stands between quotes.
use Rattle.std.proofs.Common.{◌≡◌, ℕ, zero, suc, ◌+◌, ◌/◌, ◌%◌, ◌<◌, ◌^◌, Bool, true, false, List, [], ◌∷◌, ◌++◌}
use Rattle.std.proofs.Common.{None, Some, ap, append-nil, arith, length, map, negsuc, pos, refl, subst, sym, ◌∙◌}
use Rattle.std.proofs.Common.{is_some, not}
use Rattle.std.proofs.lemmas.Bool.{lt-ltb, ltb-true}
use Rattle.std.proofs.lemmas.Fmt.{decimal_by_steps}
use Rattle.std.proofs.lemmas.Str.{utf16_chars-nil}
use Rattle.std.specs.Char.Utf16.{has_unpaired_surrogate}
use Rattle.std.specs.Fmt.{decimal}
use Rattle.std.specs.List.{AllByRecursion, list_any}
use Rattle.std.specs.Prelude.{codes, nat_lt, unwrap_or}
use Rattle.jl_analysis.specs.Rules.{name_at}
use Rattle.jl_num.specs.Digits.{digit_code, digits_within, number_text}
use Rattle.jl_num.specs.Number.{Number}
use Rattle.jl_op.specs.Kinds.{kind_name, kind_of}
use Rattle.jl_op.specs.Operations.{Operation}
use Rattle.jl_op.specs.Trace.{binary_sign, unary_sign}
use Rattle.jl_op.specs.declared.callee.Callee.{Callee}
use Rattle.jl_op.specs.declared.callee.Callee.TheVariants as callees
use Rattle.jl_op.specs.declared.found.Found.{Found}
use Rattle.jl_op.specs.declared.found.Found.TheVariants as founds
use Rattle.jl_report.specs.Off.{Pair}
use Rattle.jl_value.specs.Builtins.{name_of}
use Rattle.jl_value.specs.Texts.{class_name}
use Rattle.jl_value.specs.declared.object.Class.{Class}
use Rattle.jl_value.specs.declared.value.Seen.{Seen}
use Rattle.jl_value.specs.declared.value.Value.{Value}
use Rattle.jl_value.specs.declared.value.Value.TheVariants as values
use Rattle.jl_record.specs.Facts.{AreFacts, Fact, Facts, IsCallee, IsFact, IsSeen, IsSeenAs, Sort, a_binary, a_callee}
use Rattle.jl_record.specs.Facts.{a_count, a_found, a_number, a_text, a_truth, a_unary, a_value, an_object, some_values}
use Rattle.jl_record.specs.Facts.{callee_mark, found_mark, mark, marks, seen_mark, seen_marks, truth_mark, value_mark}
use Rattle.jl_record.specs.Lines.{with_ends}
use Rattle.jl_record.specs.Operations.{facts_of, sorts_of}
use Rattle.jl_record.specs.Plain.{is_plain}
use Rattle.jl_record.specs.Records.{IsOff, IsOperation, IsRow, IsStored, Row, Stored, counted, first_line}
use Rattle.jl_record.specs.Records.{last_line, lines_of, off_line, operation_line, row_line, text_of}
use Rattle.jl_record.proofs.Numbers.{text_of_neg, text_of_pos}
use Rattle.jl_record.proofs.OneOperation.{row_stands}
use Rattle.jl_record.proofs.Peeling.{all_append}
use Rattle.jl_record.proofs.PlainNames.{class_is_plain, kind_is_plain, rule_is_plain}
use Rattle.jl_record.proofs.QuotedUnits.{AreWhole, ascii, joined, low, none, quote_is_whole}
use Rattle.jl_record.proofs.RuleNames.{rule_has_name}
use Rattle.jl_record.proofs.SignReads.{binary_is_text, builtin_is_text, unary_is_text}

-- ---- words and numbers

word_is_whole : (us : List ℕ) → is_plain us ≡ true → AreWhole us
word_is_whole [] h = none
word_is_whole (u ∷ us) h = ascii (u ∷ us) h

-- after a unit of ASCII
after : (u : ℕ) (a b : List ℕ) → u < 128 → AreWhole a → AreWhole b → AreWhole (a ++ u ∷ b)
after u a b h p q = joined a (u ∷ b) p (low u b (omega arith) q)

decimal_is_whole : (n : ℕ) → n < 2 ^ 64 → AreWhole (decimal n)
decimal_is_whole =
    decimal_by_steps (λ n ds. AreWhole ds) (λ d h. low (48 + d) [] (omega arith) none)
    (λ n ds h p. joined ds ((48 + n % 10) ∷ []) p (low (48 + n % 10) [] (omega arith) none))

digit_is_whole : (d : ℕ) → d < 10 → AreWhole (digit_code d ∷ [])
digit_is_whole d h = rw (lt-ltb d 10 h) (low (48 + d) [] (omega arith) none)

more_digits : (places n : ℕ) (b : Bool) → nat_lt n 10 ≡ b → AreWhole (digits_within 10 places (n / 10))
    → AreWhole (elim b [
      | true ↦ digit_code n ∷ []
      | false ↦ digits_within 10 places (n / 10) ++ digit_code (n % 10) ∷ []
    ])
more_digits places n true e p = digit_is_whole n (ltb-true n 10 e)
more_digits places n false e p =
    joined (digits_within 10 places (n / 10)) (digit_code (n % 10) ∷ []) p (digit_is_whole (n % 10) (omega arith))

digits_are_whole : (places n : ℕ) → AreWhole (digits_within 10 places n)
digits_are_whole zero n = none
digits_are_whole (suc places) n = more_digits places n (nat_lt n 10) refl (digits_are_whole places (n / 10))

number_is_whole : (a : Number) → AreWhole (number_text a 10)
number_is_whole None = ascii (78 ∷ 97 ∷ 78 ∷ []) refl
number_is_whole (Some (pos n)) = subst AreWhole (sym (text_of_pos n)) (digits_are_whole (n + 1) n)
number_is_whole (Some (negsuc n)) =
    subst AreWhole (sym (text_of_neg n)) (low 45 _ (omega arith) (digits_are_whole (suc n + 1) (suc n)))

-- ---- facts

truth_is_whole : (b : Bool) → AreWhole (truth_mark b)
truth_is_whole true = ascii (truth_mark true) refl
truth_is_whole false = ascii (truth_mark false) refl

value_is_whole : (v : Value) (c : Class) → IsSeenAs v c → AreWhole (value_mark v c)
value_is_whole values.Undefined c h = ascii (codes "u") refl
value_is_whole values.Null c h = ascii (codes "z") refl
value_is_whole (values.Bool b) c h = truth_is_whole b
value_is_whole (values.Num a) c h = low 110 (number_text a 10) (omega arith) (number_is_whole a)
value_is_whole (values.Text us) c h = quote_is_whole us h.1.1
value_is_whole (values.Obj place) c h =
    low 111 _ (omega arith) (after 58 (decimal place.0) (class_name c) (omega arith) (decimal_is_whole place.0 h)
    (word_is_whole (class_name c) (class_is_plain c)))

seen_are_whole : (seen : List Seen) → AllByRecursion IsSeen seen → AreWhole (seen_marks seen)
seen_are_whole [] h = none
seen_are_whole (a ∷ seen) h =
    low 32 _ (omega arith) (joined (seen_mark a) (seen_marks seen) (value_is_whole a.value a.class h.0)
    (seen_are_whole seen h.1))

found_is_whole : (found : Found) → AreWhole (found_mark found)
found_is_whole founds.Absent = ascii (codes "absent") refl
found_is_whole founds.OwnPlain = ascii (codes "own-plain") refl
found_is_whole founds.OwnAccessor = ascii (codes "own-accessor") refl
found_is_whole founds.ChainPlain = ascii (codes "chain-plain") refl
found_is_whole founds.ChainAccessor = ascii (codes "chain-accessor") refl

callee_is_whole : (callee : Callee) → IsCallee callee → AreWhole (callee_mark callee)
callee_is_whole (callees.Script f n b) h =
    low 115 _ (omega arith) (low 32 _ (omega arith)
    (after 32 (decimal f) (decimal n ++ 32 ∷ truth_mark b) (omega arith)
    (decimal_is_whole f (let p = h.0 in omega arith))
    (after 32 (decimal n) (truth_mark b) (omega arith) (decimal_is_whole n (let p = h.1 in omega arith))
    (truth_is_whole b))))
callee_is_whole (callees.Native i) h =
    low 98 _ (omega arith) (low 32 _ (omega arith) (quote_is_whole (name_of i) (builtin_is_text i).1))

mark_is_whole : (sort : Sort) (a : Fact sort) → IsFact sort a → AreWhole (mark sort a)
mark_is_whole a_value a h = value_is_whole a.value a.class h
mark_is_whole a_text a h = quote_is_whole a h.1
mark_is_whole a_truth a h = truth_is_whole a
mark_is_whole a_number a h = decimal_is_whole a (omega arith)
mark_is_whole a_count a h = decimal_is_whole a h
mark_is_whole an_object a h = decimal_is_whole a.0 h
mark_is_whole a_found a h = found_is_whole a
mark_is_whole a_callee a h = callee_is_whole a h
mark_is_whole a_binary a h = quote_is_whole (binary_sign a) (binary_is_text a).1
mark_is_whole a_unary a h = quote_is_whole (unary_sign a) (unary_is_text a).1
mark_is_whole some_values a h =
    joined (decimal (length a)) (seen_marks a) (decimal_is_whole (length a) h.0) (seen_are_whole a h.1)

marks_are_whole : (sorts : List Sort) (f : Facts sorts) → AreFacts sorts f → AreWhole (marks sorts f)
marks_are_whole [] f h = none
marks_are_whole (sort ∷ sorts) f h =
    low 32 _ (omega arith) (joined (mark sort f.0) (marks sorts f.1) (mark_is_whole sort f.0 h.0)
    (marks_are_whole sorts f.1 h.1))

-- ---- lines

row_is_whole : (row : Row) → IsRow row → AreWhole (row_line row)
row_is_whole row h =
    after 32 (kind_name row.0) (decimal row.1 ++ 58 ∷ decimal row.2) (omega arith)
    (word_is_whole (kind_name row.0) (kind_is_plain row.0))
    (after 58 (decimal row.1) (decimal row.2) (omega arith) (decimal_is_whole row.1 (let p = h.0.1 in omega arith))
    (decimal_is_whole row.2 (let p = h.1.1 in omega arith)))

off_is_whole : (p : Pair) → IsOff p → AreWhole (off_line p)
off_is_whole p h =
    let name = unwrap_or (name_at p.1) [] in
    after 32 (decimal p.0) name (omega arith) (decimal_is_whole p.0 (let a = h.0.1 in omega arith))
    (word_is_whole name (rule_is_plain p.1 name h.1 (sym (rule_has_name p.1 h.1))))

operation_is_whole : (rows : List Row) → length rows < 2 ^ 32 → (operation : Operation) → IsOperation rows operation
    → AreWhole (operation_line operation)
operation_is_whole rows few operation h =
    let kind = kind_of operation.1 in
    let stands = row_stands rows operation.0.0 kind h.0 in
    after 32 (decimal operation.0.0) (kind_name kind ++ marks (sorts_of kind) (facts_of operation.1)) (omega arith)
    (decimal_is_whole operation.0.0 (omega arith))
    (joined (kind_name kind) (marks (sorts_of kind) (facts_of operation.1))
    (word_is_whole (kind_name kind) (kind_is_plain kind)) (marks_are_whole (sorts_of kind) (facts_of operation.1) h.1))

-- ---- the text

lines_are_whole : {A : Type 0} (Is : A → Type 0) (line : A → List ℕ) → ((a : A) → Is a → AreWhole (line a))
    → (all : List A) → AllByRecursion Is all → AllByRecursion AreWhole (map line all)
lines_are_whole Is line each [] p = tt
lines_are_whole Is line each (a ∷ all) p = (each a p.0, lines_are_whole Is line each all p.1)

counted_are_whole : {A : Type 0} (Is : A → Type 0) (line : A → List ℕ) → ((a : A) → Is a → AreWhole (line a))
    → (word : List ℕ) → AreWhole word → (all : List A) → AllByRecursion Is all → length all < 2 ^ 64
    → (rest : List (List ℕ)) → AllByRecursion AreWhole rest → AllByRecursion AreWhole (counted word line all rest)
counted_are_whole Is line each word w all p few rest q = (
  after 32 word (decimal (length all)) (omega arith) w (decimal_is_whole (length all) few),
  all_append AreWhole (map line all) rest (lines_are_whole Is line each all p) q,
)

ends_are_whole : (lines : List (List ℕ)) → AllByRecursion AreWhole lines → AreWhole (with_ends lines)
ends_are_whole [] p = none
ends_are_whole (line ∷ lines) p = after 10 line (with_ends lines) (omega arith) p.0 (ends_are_whole lines p.1)

pub text_is_whole : (r : Stored) → IsStored r → AreWhole (text_of r)
text_is_whole r h =
    let few : length r.rows < 2 ^ 32 = h.few_rows in
    let few_rows : length r.rows < 2 ^ 64 = omega arith in
    let operations = counted_are_whole (IsOperation r.rows) operation_line (operation_is_whole r.rows few)
    (codes "ops") (ascii (codes "ops") refl) r.operations h.operations h.few_operations (last_line ∷ [])
    (ascii last_line refl, tt) in
    let off = counted_are_whole IsOff off_line off_is_whole (codes "off") (ascii (codes "off") refl) r.off h.off
    h.few_off _ operations in
    let rows = counted_are_whole IsRow row_line row_is_whole (codes "rows") (ascii (codes "rows") refl) r.rows h.rows
    few_rows _ off in
    ends_are_whole (lines_of r) (ascii first_line refl, rows)

pub paired : (us : List ℕ) → AreWhole us → has_unpaired_surrogate us ≡ false
paired us p =
    ap has_unpaired_surrogate (sym (append-nil us)) ∙ p.before []
    ∙ ap (list_any (λ o. not (is_some o))) utf16_chars-nil
