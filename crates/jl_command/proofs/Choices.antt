-- Choices of rules, as the words name them.
use Rattle.std.proofs.Common.{◌≡◌, ◌∙◌, ◌≤◌, ◌<◌, ◌+◌, ℕ, zero, suc, Bool, true, false, ◌||◌, ◌==◌, List, [], ◌∷◌}
use Rattle.std.proofs.Common.{◌++◌, Option, Some, None, arith, length, refl, sym, ap, subst}
use Rattle.std.specs.Prelude.{if◌then◌else◌, option_and_then}
use Rattle.std.specs.List.{All, after_first, before_first, position_or_len, slice_split}
use Rattle.std.proofs.lemmas.Bool.Decides.{nat_tests}
use Rattle.std.proofs.lemmas.List.Splits.{slice_split_first, slice_split_none}
use Rattle.std.proofs.lemmas.List.Sums.{fails_before_first}
use Rattle.jl_analysis.specs.Chosen.{is_chosen}
use Rattle.jl_analysis.specs.Rules.{IsRule, all_rules, numbers, rule_count, rule_with}
use Rattle.jl_analysis.specs.declared.rule_set.RuleSet.{RuleSet}
use Rattle.jl_command.specs.Asked.{is_among, with_names, with_rule}
use Rattle.jl_command.specs.Meant.{IsChoice}
use Rattle.jl_command.specs.inner.Optional.{BothOrNeither}
use Rattle.jl_command.proofs.Optional.{both, neither}

or_false : (b : Bool) → (b || false) ≡ b
or_false true = refl
or_false false = refl

or_true : (b : Bool) → (b || true) ≡ true
or_true true = refl
or_true false = refl

or_assoc : (a b c : Bool) → (a || (b || c)) ≡ ((a || b) || c)
or_assoc true b c = refl
or_assoc false b c = refl

among_more : (chosen : List ℕ) (rule other : ℕ)
    → is_among (chosen ++ rule ∷ []) other ≡ (is_among chosen other || (rule == other))
among_more [] rule other = or_false (rule == other)
among_more (r ∷ chosen) rule other =
    ap (λ b. (r == other) || b) (among_more chosen rule other)
    ∙ or_assoc (r == other) (is_among chosen other) (rule == other)

-- a set with one more
one_more_chosen : (before after : RuleSet) (chosen : List ℕ) (rule : ℕ) → IsChoice before chosen
    → is_chosen after rule ≡ true
    → ((other : ℕ) → (other ≡ rule → ⊥) → is_chosen after other ≡ is_chosen before other)
    → IsChoice after (chosen ++ rule ∷ [])
one_more_chosen before after chosen rule choice this others other is =
    by_test (rule == other) refl ∙ sym (among_more chosen rule other)
  where
    by_test : (b : Bool) → (rule == other) ≡ b → is_chosen after other ≡ (is_among chosen other || (rule == other))
    by_test true e =
        let same : rule ≡ other = grind (arith, nat_tests) in
        ap (is_chosen after) (sym same) ∙ this
        ∙ sym (ap (λ b. is_among chosen other || b) e ∙ or_true (is_among chosen other))
    by_test false e =
        let apart : other ≡ rule → ⊥ = λ same. grind (arith, nat_tests) in
        others other apart ∙ choice other is
        ∙ sym (ap (λ b. is_among chosen other || b) e ∙ or_false (is_among chosen other))

-- no rule, a rule that is there already, and one that is not
pub no_rule : (r : Option RuleSet) (chosen : List ℕ) (o : Option ℕ) → r ≡ None → o ≡ None
    → BothOrNeither IsChoice r (with_rule chosen o)
no_rule r chosen o none lacks =
    subst (λ x. BothOrNeither IsChoice x (with_rule chosen o)) (sym none)
    (subst (λ p. BothOrNeither IsChoice None (with_rule chosen p)) (sym lacks) tt)

pub there_already : (set : RuleSet) (chosen : List ℕ) (rule : ℕ) (o : Option ℕ) → o ≡ Some rule → IsChoice set chosen
    → IsRule rule → is_chosen set rule ≡ true → BothOrNeither IsChoice None (with_rule chosen o)
there_already set chosen rule o found choice is there =
    subst (λ x. BothOrNeither IsChoice None x) (sym (ap (with_rule chosen) found
    ∙ ap (λ b. if b then None else Some (chosen ++ rule ∷ [])) (sym (choice rule is) ∙ there))) tt

pub not_there : (before after : RuleSet) (chosen : List ℕ) (rule : ℕ) (o : Option ℕ) → o ≡ Some rule
    → IsChoice before chosen → IsRule rule → is_chosen before rule ≡ false → is_chosen after rule ≡ true
    → ((other : ℕ) → (other ≡ rule → ⊥) → is_chosen after other ≡ is_chosen before other)
    → BothOrNeither IsChoice (Some after) (with_rule chosen o)
not_there before after chosen rule o found choice is missing this others =
    subst (λ x. BothOrNeither IsChoice (Some after) x) (sym (ap (with_rule chosen) found
    ∙ ap (λ b. if b then None else Some (chosen ++ rule ∷ [])) (sym (choice rule is) ∙ missing)))
    (one_more_chosen before after chosen rule choice this others)

-- a set of all
among_numbers : (first count rule : ℕ) → first ≤ rule → rule < first + count
    → is_among (numbers first count) rule ≡ true
among_numbers first zero rule low high = absurd (omega arith)
among_numbers first (suc count) rule low high =
    by_test (first == rule) refl (λ later. among_numbers (first + 1) count rule later (omega arith))
  where
    by_test : (b : Bool) → (first == rule) ≡ b
        → (first + 1 ≤ rule → is_among (numbers (first + 1) count) rule ≡ true)
        → ((first == rule) || is_among (numbers (first + 1) count) rule) ≡ true
    by_test true e more = ap (λ b. b || is_among (numbers (first + 1) count) rule) e
    by_test false e more =
        let later : first + 1 ≤ rule = grind (arith, nat_tests) in
        ap (λ b. b || is_among (numbers (first + 1) count) rule) e ∙ more later

pub all_chosen : (set : RuleSet) → ((rule : ℕ) → IsRule rule → is_chosen set rule ≡ true) → IsChoice set all_rules
all_chosen set all rule is = all rule is ∙ sym (among_numbers 1 rule_count rule is.0 (omega (arith, is.1)))

-- the names of a text: the first, and those that follow the first comma
names_turn : (chosen text front back : List ℕ) → front ≡ before_first (λ b. b == 44) text
    → back ≡ after_first (λ b. b == 44) text → position_or_len (λ b. b == 44) text < length text
    → with_names chosen (slice_split (λ b. b == 44) text)
    ≡ option_and_then (λ more. with_names more (slice_split (λ b. b == 44) back)) (with_rule chosen (rule_with front))
names_turn chosen text front back is rest within =
    ap (with_names chosen) (slice_split_first (λ b. b == 44) text 0 within
    ∙ ap (λ f. f ∷ slice_split (λ b. b == 44) (after_first (λ b. b == 44) text)) (sym is)
    ∙ ap (λ l. front ∷ slice_split (λ b. b == 44) l) (sym rest))

-- so the text names no rules where its first name is refused
pub refused_turn : (r : Option RuleSet) (chosen text front back : List ℕ) → front ≡ before_first (λ b. b == 44) text
    → back ≡ after_first (λ b. b == 44) text → position_or_len (λ b. b == 44) text < length text
    → r ≡ None → BothOrNeither IsChoice None (with_rule chosen (rule_with front))
    → BothOrNeither IsChoice r (with_names chosen (slice_split (λ b. b == 44) text))
refused_turn r chosen text front back is rest within none refused =
    subst (λ x. BothOrNeither IsChoice x (with_names chosen (slice_split (λ b. b == 44) text))) (sym none)
    (subst (λ o. BothOrNeither IsChoice None o) (sym (names_turn chosen text front back is rest within
    ∙ ap (option_and_then (λ more. with_names more (slice_split (λ b. b == 44) back))) (neither IsChoice _ refused)))
    tt)

-- and those of the rest otherwise
pub taken_turn : (r : Option RuleSet) (set : RuleSet) (chosen text front back : List ℕ)
    → front ≡ before_first (λ b. b == 44) text → back ≡ after_first (λ b. b == 44) text
    → position_or_len (λ b. b == 44) text < length text
    → BothOrNeither IsChoice (Some set) (with_rule chosen (rule_with front))
    → ((more : List ℕ) → IsChoice set more
    → BothOrNeither IsChoice r (with_names more (slice_split (λ b. b == 44) back)))
    → BothOrNeither IsChoice r (with_names chosen (slice_split (λ b. b == 44) text))
taken_turn r set chosen text front back is rest within taken later =
    let one = both IsChoice set _ taken in
    subst (λ o. BothOrNeither IsChoice r o) (sym (names_turn chosen text front back is rest within
    ∙ ap (option_and_then (λ more. with_names more (slice_split (λ b. b == 44) back))) one.1)) (later one.0 one.2)

only_one : (o : Option (List ℕ)) → option_and_then (λ more. with_names more []) o ≡ o
only_one None = refl
only_one (Some chosen) = refl

-- a text without commas is one name
pub last_turn : (r : Option RuleSet) (chosen text : List ℕ) → position_or_len (λ b. b == 44) text ≡ length text
    → BothOrNeither IsChoice r (with_rule chosen (rule_with text))
    → BothOrNeither IsChoice r (with_names chosen (slice_split (λ b. b == 44) text))
last_turn r chosen text none one =
    subst (λ o. BothOrNeither IsChoice r o)
    (sym (ap (with_names chosen) (slice_split_none (λ b. b == 44) text (whole text none))
    ∙ only_one (with_rule chosen (rule_with text)))) one
  where
    whole : (xs : List ℕ) → position_or_len (λ b. b == 44) xs ≡ length xs → All (λ x. (x == 44) ≡ false) xs
    whole xs e = λ k d within. fails_before_first (λ x. x == 44) xs k d (omega (arith, e))
