-- What typeof-text remembers: the codes of the last operation but one and of the last, which decide whether it hits.
use Rattle.std.proofs.Common.{◌≡◌, ℕ, Bool, true, false, List, [], ◌∷◌, ◌++◌, ◌&&◌, ◌==◌, if◌then◌else◌}
use Rattle.std.proofs.Common.{refl, sym, ap, ◌∙◌, append_assoc, append-nil}
use Rattle.std.specs.Prelude.{fold, reverse}
use Rattle.std.proofs.Math.Bool.{and_comm}
use Rattle.std.proofs.lemmas.List.{reverse-append}
use Rattle.std.proofs.lemmas.List.Sums.{fold_push}
use Rattle.jl_op.specs.declared.op.Op.{Op}
use Rattle.jl_op.specs.declared.op.Op.TheVariants as ops
use Rattle.jl_analysis.specs.Memories.{Memory, typeof_code, no_last_two, last_two}
use Rattle.jl_analysis.specs.Rules.{hit, memory_of, rules}
use Rattle.jl_analysis.specs.TypeRules.{begins_odd, is_equality, is_typeof, is_odd_type_name, typeof_text}
use Rattle.jl_rules_type.specs.Sides.{compares}

-- of operations, the last one first: the code of the last one, and 0 where there is none
abbrev pub last_code : List Op → ℕ
last_code [] = 0
last_code (x ∷ before) = typeof_code x

-- the code of the last but one
abbrev pub earlier_code : List Op → ℕ
earlier_code [] = 0
earlier_code (x ∷ before) = last_code before

-- both, as a memory
abbrev pub codes_of : List Op → Memory
codes_of newest_first = (earlier_code newest_first, last_code newest_first) ∷ []

-- operations that come after others move the codes on to their own
folded : (told before : List Op) → fold last_two (codes_of before) told ≡ codes_of (reverse told ++ before)
folded [] before = refl
folded (x ∷ told) before =
    folded told (x ∷ before)
    ∙ ap codes_of (sym (append_assoc (reverse told) (x ∷ []) before))
    ∙ ap (λ l. codes_of (l ++ before)) (sym (reverse-append (x ∷ []) told))

-- these two codes are what the rule remembers
pub remembered : (told : List Op) → memory_of 9 told ≡ codes_of (reverse told)
unfolding memory_of rules
remembered told = folded told [] ∙ ap codes_of (append-nil (reverse told))

-- a code is 1 exactly for a `typeof`, and 2 for a literal text that is odd, since nothing is both
code_one : (a b : Bool) → ((if a then 1 else (if b then 2 else 0)) == 1) ≡ a
code_one true b = refl
code_one false true = refl
code_one false false = refl

code_two : (a b : Bool) → (b ≡ true → a ≡ false) → ((if a then 1 else (if b then 2 else 0)) == 2) ≡ b
code_two true true never_both = cc (never_both refl)
code_two true false never_both = refl
code_two false true never_both = refl
code_two false false never_both = refl

-- no operation is both
never_both : (op : Op) → is_odd_type_name op ≡ true → is_typeof op ≡ false
never_both (ops.Literal value) odd = refl
never_both _ odd = cc

-- the two codes tell a `typeof` and then an odd literal
begins : (newest_first : List Op)
    → begins_odd newest_first ≡ (earlier_code newest_first == 1 && last_code newest_first == 2)
begins [] = refl
begins (x ∷ []) = refl
begins (x ∷ y ∷ before) =
    let earlier = code_one (is_typeof y) (is_odd_type_name y) in
    let last = code_two (is_typeof x) (is_odd_type_name x) (never_both x) in
    and_comm (is_odd_type_name x) (is_typeof y)
    ∙ ap (λ b. b && is_odd_type_name x) (sym earlier) ∙ ap (λ b. typeof_code y == 1 && b) (sym last)

-- the operation compares after what is remembered
abbrev hits_by : Memory → Op → Bool
hits_by [] op = false
hits_by (x ∷ rest) op = compares op x.0 x.1

-- the codes of what was told decide whether the rule hits
by_codes : (told : List Op) (op : Op) → hits_by (codes_of (reverse told)) op ≡ typeof_text told op
by_codes told (ops.Binary op left right given) = ap (λ b. is_equality op && b) (sym (begins (reverse told)))
by_codes told _ = refl

-- what is remembered decides whether the rule hits
pub decided : (told : List Op) (op : Op) → hits_by (memory_of 9 told) op ≡ hit 9 told op
unfolding hit rules
decided told op = ap (λ m. hits_by m op) (remembered told) ∙ by_codes told op

-- so the rule hits where the operation compares after the two codes
pub hits_so : (told : List Op) (op : Op) (earlier last : ℕ) (hits : Bool)
    → (earlier, last) ∷ [] ≡ memory_of 9 told → hits ≡ compares op earlier last → hits ≡ hit 9 told op
hits_so told op earlier last hits memory is = is ∙ ap (λ m. hits_by m op) memory ∙ decided told op

-- and the last code takes the place of the earlier one
pub remembers_one_more : (told : List Op) (op : Op) (earlier last next : ℕ)
    → (earlier, last) ∷ [] ≡ memory_of 9 told → next ≡ typeof_code op
    → (last, next) ∷ [] ≡ memory_of 9 (told ++ op ∷ [])
unfolding memory_of rules
remembers_one_more told op earlier last next memory is =
    ap (λ n. (last, n) ∷ []) is ∙ ap (λ m. last_two m op) memory
    ∙ sym (fold_push last_two no_last_two told op)
