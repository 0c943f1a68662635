-- A set of kinds grows by those that a rule looks at.
use Rattle.std.proofs.Common.{◌≡◌, ℕ, zero, suc, ◌+◌, ◌-◌, ◌≤◌, ◌<◌, Bool, true, false, List, [], ◌∷◌, ◌++◌, length}
use Rattle.std.proofs.Common.{map}
use Rattle.std.proofs.Common.{Option, None, Some, slice_get, refl, sym, ap, ◌∙◌, arith, take, get_or}
use Rattle.std.specs.Prelude.{option_map, nat_eq, ◌||◌, ◌&&◌, ◌≢◌, ◌==◌}
use Rattle.std.specs.List.{list_any}
use Rattle.std.proofs.lemmas.List.Folds.{list_any-append, list_any_more}
use Rattle.std.proofs.lemmas.Option.{slice_get-map}
use Rattle.jl_op.specs.declared.kind.OpKind.{OpKind}
use Rattle.jl_op.specs.Kinds.{number_of}
use Rattle.jl_op.proofs.KindsListed.{one_kind}
use Rattle.jl_analysis.specs.Rules.{RuleRow, rules, numbers, rule_at, is_one_of, looks_at, needed_by}

or_false : (a : Bool) → (a || false) ≡ a
or_false true = refl
or_false false = refl

or_true : (a : Bool) → (a || true) ≡ true
or_true true = refl
or_true false = refl

-- a set with one more kind
pub with_one : (old new : OpKind → Bool) (kind : OpKind) → new kind ≡ true
    → ((other : OpKind) → other ≢ kind → new other ≡ old other) → (other : OpKind)
    → new other ≡ (old other || number_of kind == number_of other)
with_one old new kind here others other = by_number (nat_eq (number_of kind) (number_of other)) refl
  where
    by_number : (b : Bool) → nat_eq (number_of kind) (number_of other) ≡ b → new other ≡ (old other || b)
    by_number true e =
        let number : number_of kind ≡ number_of other = grind arith in
        ap new (sym (one_kind kind other number)) ∙ here ∙ sym (or_true (old other))
    by_number false e =
        others other (λ same. differs (ap number_of same)) ∙ sym (or_false (old other))
      where
        differs : number_of other ≡ number_of kind → ⊥
        differs f = grind arith

or_assoc : (a b c : Bool) → ((a || b) || c) ≡ (a || (b || c))
or_assoc true b c = refl
or_assoc false b c = refl

-- a set that has the first kinds has one more
pub one_more_kind : (first old new : OpKind → Bool) (more : List OpKind) (index : ℕ) (d : OpKind)
    → index < length more → new (get_or more index d) ≡ true
    → ((other : OpKind) → other ≢ get_or more index d → new other ≡ old other)
    → ((other : OpKind) → old other ≡ (first other || is_one_of (take index more) other))
    → (other : OpKind) → new other ≡ (first other || is_one_of (take (index + 1) more) other)
one_more_kind first old new more index d within here others so_far other =
    let kind = get_or more index d in
    with_one old new kind here others other
    ∙ ap (λ b. b || number_of kind == number_of other) (so_far other)
    ∙ or_assoc (first other) (is_one_of (take index more) other) (number_of kind == number_of other)
    ∙ ap (λ b. first other || b) (sym (list_any_more (λ k. number_of k == number_of other) more index d within))

-- what the table has for a rule
pub needed_at : (rule : ℕ) (found : List OpKind) → 1 ≤ rule
    → slice_get (map (λ row. row.needs) rules) (rule - 1) ≡ Some found → found ≡ needed_by (rule_at rule)
needed_at zero found h e = absurd (omega arith)
needed_at (suc index) found h e =
    let before : index ≡ suc index - 1 = omega arith in
    from_row (slice_get rules index)
    (sym (slice_get-map (λ row. row.needs) rules index) ∙ ap (slice_get (map (λ row. row.needs) rules)) before ∙ e)
  where
    from_row : (o : Option RuleRow) → option_map (λ row. row.needs) o ≡ Some found → found ≡ needed_by o
    from_row None e = absurd (cc)
    from_row (Some row) e = cc

-- one more number in a row
numbers-push : (first count : ℕ) → numbers first (suc count) ≡ numbers first count ++ (first + count) ∷ []
numbers-push first zero = let same : first ≡ first + 0 = omega arith in ap (λ n. n ∷ []) same
numbers-push first (suc count) =
    let same : first + 1 + count ≡ first + suc count = omega arith in
    ap (λ l. first ∷ l) (numbers-push (first + 1) count ∙ ap (λ n. numbers (first + 1) count ++ n ∷ []) same)

-- the rules below this number
abbrev pub rules_below : ℕ → List ℕ
rules_below rule = numbers 1 (rule - 1)

any_next : (p : ℕ → Bool) (rule : ℕ) → 1 ≤ rule
    → list_any p (rules_below (rule + 1)) ≡ (list_any p (rules_below rule) || p rule)
any_next p rule h =
    let count : rule + 1 - 1 ≡ suc (rule - 1) = omega arith in
    let last : 1 + (rule - 1) ≡ rule = omega arith in
    ap (λ n. list_any p (numbers 1 n)) count
    ∙ ap (list_any p) (numbers-push 1 (rule - 1))
    ∙ list_any-append p (rules_below rule) ((1 + (rule - 1)) ∷ [])
    ∙ ap (λ b. list_any p (rules_below rule) || b) (or_false (p (1 + (rule - 1))) ∙ ap p last)

-- the kinds of a chosen rule are put in
pub one_rule_taken : (chosen : ℕ → Bool) (old new : OpKind → Bool) (rule : ℕ) (kind : OpKind) → 1 ≤ rule
    → chosen rule ≡ true
    → old kind ≡ list_any (λ r. chosen r && looks_at r kind) (rules_below rule)
    → new kind ≡ (old kind || is_one_of (needed_by (rule_at rule)) kind)
    → new kind ≡ list_any (λ r. chosen r && looks_at r kind) (rules_below (rule + 1))
unfolding looks_at
one_rule_taken chosen old new rule kind h is so_far grown =
    grown ∙ ap (λ b. b || looks_at rule kind) so_far
    ∙ ap (λ b. list_any (λ r. chosen r && looks_at r kind) (rules_below rule) || (b && looks_at rule kind)) (sym is)
    ∙ sym (any_next (λ r. chosen r && looks_at r kind) rule h)

pub one_rule_passed : (chosen : ℕ → Bool) (old : OpKind → Bool) (rule : ℕ) (kind : OpKind) → 1 ≤ rule
    → chosen rule ≡ false
    → old kind ≡ list_any (λ r. chosen r && looks_at r kind) (rules_below rule)
    → old kind ≡ list_any (λ r. chosen r && looks_at r kind) (rules_below (rule + 1))
one_rule_passed chosen old rule kind h is so_far =
    so_far ∙ sym (or_false (list_any (λ r. chosen r && looks_at r kind) (rules_below rule)))
    ∙ ap (λ b. list_any (λ r. chosen r && looks_at r kind) (rules_below rule) || (b && looks_at rule kind)) (sym is)
    ∙ sym (any_next (λ r. chosen r && looks_at r kind) rule h)
