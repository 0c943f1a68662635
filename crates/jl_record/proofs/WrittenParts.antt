-- How numbers, and values in a row, are written part by part.
use Rattle.std.proofs.Common.{◌≡◌, ℕ, suc, ◌+◌, ◌<◌, ◌^◌, List, [], ◌∷◌, ◌++◌, length, take, get_or, refl, sym, ap, ◌∙◌}
use Rattle.std.proofs.Common.{arith, append_assoc, append-nil, ℤ, pos, true, false, Some, subst}
use Rattle.std.proofs.Math.Seq.{take-suc}
use Rattle.std.specs.Fmt.{decimal}
use Rattle.std.specs.Prelude.{Bool, codes, unsigned_abs, int_lt, if◌then◌else◌}
use Rattle.jl_num.specs.Digits.{digits_of, number_text}
use Rattle.jl_op.specs.declared.callee.Callee.{Callee}
use Rattle.jl_op.specs.declared.callee.Callee.TheVariants as callees
use Rattle.jl_op.specs.declared.op.Op.{Op}
use Rattle.jl_op.specs.Kinds.{kind_of}
use Rattle.jl_value.specs.declared.value.Seen.{Seen}
use Rattle.jl_record.specs.declared.bounded.Bounded.{Bounded}
use Rattle.jl_record.specs.Bounded.{Holds, Appends}
use Rattle.jl_record.specs.Facts.{callee_mark, seen_mark, seen_marks, marks, truth_mark}
use Rattle.jl_record.specs.Operations.{sorts_of, facts_of}
use Rattle.jl_record.specs.Reading.{after_space}
use Rattle.jl_record.proofs.Holding.{appends_both}
use Rattle.jl_record.proofs.ValueParts.{decimal_is_digits}

pub below_zero_text : (z : ℤ) → int_lt z (pos 0) ≡ true → unsigned_abs z < 2 ^ 64
    → number_text (Some z) 10 ≡ 45 ∷ decimal (unsigned_abs z)
below_zero_text z h small =
    ap (λ b. (if b then 45 ∷ [] else []) ++ digits_of 10 (unsigned_abs z)) h
    ∙ ap (λ ds. 45 ∷ ds) (sym (decimal_is_digits (unsigned_abs z) small))

pub from_zero_text : (z : ℤ) → int_lt z (pos 0) ≡ false → unsigned_abs z < 2 ^ 64
    → number_text (Some z) 10 ≡ decimal (unsigned_abs z)
from_zero_text z h small =
    ap (λ b. (if b then 45 ∷ [] else []) ++ digits_of 10 (unsigned_abs z)) h
    ∙ sym (decimal_is_digits (unsigned_abs z) small)

marks_append : (some others : List Seen) → seen_marks (some ++ others) ≡ seen_marks some ++ seen_marks others
marks_append [] others = refl
marks_append (a ∷ some) others =
    ap (λ us. 32 ∷ (seen_mark a ++ us)) (marks_append some others)
    ∙ ap (λ us. 32 ∷ us) (sym (append_assoc (seen_mark a) (seen_marks some) (seen_marks others)))

next_marks : (seen : List Seen) (i : ℕ) (value : Seen) → value ≡ get_or seen i value → i < length seen
    → seen_marks (take i seen) ++ 32 ∷ seen_mark value ≡ seen_marks (take (i + 1) seen)
next_marks seen i value item below =
    let next : suc i ≡ i + 1 = omega arith in
    ap (λ us. seen_marks (take i seen) ++ 32 ∷ us) (sym (append-nil (seen_mark value)))
    ∙ ap (λ v. seen_marks (take i seen) ++ seen_marks (v ∷ [])) item
    ∙ sym (marks_append (take i seen) (get_or seen i value ∷ []))
    ∙ ap seen_marks (sym (take-suc seen i value below))
    ∙ ap (λ j. seen_marks (take j seen)) next

pub one_more_value : (a b c d : Bounded) (seen : List Seen) (i : ℕ) (value : Seen) → value ≡ get_or seen i value
    → i < length seen → Appends a b (seen_marks (take i seen)) → Appends b c (32 ∷ []) → Appends c d (seen_mark value)
    → Appends a d (seen_marks (take (i + 1) seen))
one_more_value a b c d seen i value item below p q r =
    subst (Appends a d) (next_marks seen i value item below)
    (appends_both a b d (seen_marks (take i seen)) (32 ∷ seen_mark value) p
    (appends_both b c d (32 ∷ []) (seen_mark value) q r))

-- a function of the script that is called
pub appends_script : {callee : Callee} (a b c d e f g : Bounded) (function params : ℕ) (mentions : Bool)
    → callee ≡ callees.Script function params mentions → Appends a b (codes "s ") → Appends b c (decimal function)
    → Appends c d (codes " ") → Appends d e (decimal params) → Appends e f (codes " ")
    → Appends f g (truth_mark mentions) → Appends a g (callee_mark callee)
appends_script a b c d e f g function params mentions is p q r s t u =
    let truth = truth_mark mentions in
    let last = codes " " ++ truth in
    let rest = codes " " ++ (decimal params ++ last) in
    subst (λ callee. Appends a g (callee_mark callee)) (sym is)
    (appends_both a b g (codes "s ") (decimal function ++ rest) p
    (appends_both b c g (decimal function) rest q
    (appends_both c d g (codes " ") (decimal params ++ last) r
    (appends_both d e g (decimal params) last s
    (appends_both e f g (codes " ") truth t u)))))

-- a fact after a space, and then others
pub appends_fact : (a b c d : Bounded) (fact others : List ℕ) → Appends a b (32 ∷ []) → Appends b c fact
    → Appends c d others → Appends a d (after_space fact others)
appends_fact a b c d fact others p q r =
    appends_both a b d (32 ∷ []) (fact ++ others) p (appends_both b c d fact others q r)

-- the facts of an operation that is known
pub appends_facts : (old new : Bounded) {op known : Op} → op ≡ known
    → Appends old new (marks (sorts_of (kind_of known)) (facts_of known))
    → Appends old new (marks (sorts_of (kind_of op)) (facts_of op))
appends_facts old new is h = subst (λ o. Appends old new (marks (sorts_of (kind_of o)) (facts_of o))) (sym is) h

pub appends_nothing : (a : Bounded) → Appends a a []
appends_nothing a = record { holds = λ units h. subst (Holds a) (sym (append-nil units)) h }
