-- What comments switch off are rules.
use Rattle.std.proofs.Common.{◌≡◌, ◌∙◌, ◌+◌, ◌++◌, ◌≤◌, ◌<◌, ◌==◌, ℕ, All, Bool, true, false, List, [], ◌∷◌, Option}
use Rattle.std.proofs.Common.{None}
use Rattle.std.proofs.Common.{Some, ap, arith, cond, length, map, refl, subst, sym, if◌then◌else◌}
use Rattle.std.proofs.lemmas.Map.Views.{All-insert_key}
use Rattle.std.specs.BTreeSet.{insert_key}
use Rattle.std.specs.Prelude.{codes}
use Rattle.std.specs.List.{flat_map, position_from, slice_range, slice_split}
use Rattle.std.specs.Str.{bytes_eq}
use Rattle.jl_analysis.proofs.RuleNames.{rule_names}
use Rattle.jl_analysis.specs.Rules.{IsRule, rule_with, rules}
use Rattle.jl_text.specs.Places.{position_of}
use Rattle.jl_report.specs.Off.{Pair, after, by_line, off_by, pairs_named, pairs_of, pairs_of_text, pairs_with}
use Rattle.jl_report.specs.Off.{rules_in}
use Rattle.jl_report.specs.Off.{rules_with, with_each_rule, with_pairs, without_last_spaces}
use Rattle.jl_token.specs.declared.token.Comment.{Comment}

some_same : {A : Type 0} {a b : A} → Some a ≡ Some b → a ≡ b
some_same e = cc

-- a place in a list
place_in : (test : List ℕ → Bool) (first : ℕ) (names : List (List ℕ)) (at : ℕ)
    → position_from test first names ≡ Some at → (first ≤ at) × (at < first + length names)
place_in test first [] at e = absurd (cc)
place_in test first (x ∷ names) at e = by_test (test x) refl (place_in test (first + 1) names at)
  where
    by_test : (b : Bool) → test x ≡ b
        → (position_from test (first + 1) names ≡ Some at → (first + 1 ≤ at) × (at < (first + 1) + length names))
        → (first ≤ at) × (at < first + length (x ∷ names))
    by_test true is later =
        let here : Some first ≡ Some at =
        sym (ap (λ b. cond b (Some first) (position_from test (first + 1) names)) is) ∙ e in
        let same : first ≡ at = some_same here in
        (omega (arith, same), omega (arith, same))
    by_test false is later =
        let found = later (sym (ap (λ b. cond b (Some first) (position_from test (first + 1) names)) is) ∙ e) in
        (omega (arith, found.0), omega (arith, found.1))

how_many : length rule_names ≡ 20
unfolding rules
how_many = refl

is_rule : (name : List ℕ) (rule : ℕ) → rule_with name ≡ Some rule → IsRule rule
is_rule name rule e =
    let found = place_in (bytes_eq name) 1 rule_names rule e in
    let last = found.1 in
    let all = how_many in
    (found.0, omega (arith, last, all))

abbrev AreRules : List ℕ → Type 0
AreRules [] = Unit {0}
AreRules (rule ∷ rules) = IsRule rule × AreRules rules

abbrev AreOfRules : List Pair → Type 0
AreOfRules [] = Unit {0}
AreOfRules (pair ∷ pairs) = IsRule pair.1 × AreOfRules pairs

with_each : (o : Option ℕ) (p : Option (List ℕ)) (rs : List ℕ) → ((r : ℕ) → o ≡ Some r → IsRule r)
    → ((more : List ℕ) → p ≡ Some more → AreRules more) → with_each_rule o p ≡ Some rs → AreRules rs
with_each (Some r) (Some more) rs one all e = subst AreRules (some_same e) (one r refl, all more refl)
with_each (Some r) None rs one all e = absurd (cc)
with_each None p rs one all e = absurd (cc)

named : (names : List (List ℕ)) (rs : List ℕ) → rules_with names ≡ Some rs → AreRules rs
named [] rs e = subst AreRules (some_same e) tt
named (name ∷ names) rs e =
    with_each (rule_with name) (rules_with names) rs (λ r is. is_rule name r is) (λ more is. named names more is) e

paired : (line : ℕ) (rs : List ℕ) → AreRules rs → AreOfRules (map (λ rule. (line, rule)) rs)
paired line [] are = tt
paired line (r ∷ rs) are = (are.0, paired line rs are.1)

of_option : (line : ℕ) (o : Option (List ℕ)) → ((rs : List ℕ) → o ≡ Some rs → AreRules rs)
    → AreOfRules (pairs_with line o)
of_option line None all = tt
of_option line (Some rs) all = paired line rs (all rs refl)

of_names : (line : ℕ) (o : Option (List ℕ)) → AreOfRules (pairs_named line o)
of_names line None = tt
of_names line (Some us) =
    of_option line (rules_in us)
    (λ rs is. named (slice_split (λ u. u == 44) (without_last_spaces us)) rs is)

both : (some more : List Pair) → AreOfRules some → AreOfRules more → AreOfRules (some ++ more)
both [] more a b = b
both (pair ∷ some) more a b = (a.0, both some more a.1 b)

of_test : (b : Bool) (pairs : List Pair) → AreOfRules pairs → AreOfRules (if b then pairs else [])
of_test true pairs are = are
of_test false pairs are = tt

of_text : (line : ℕ) (us : List ℕ) → AreOfRules (pairs_of_text line us)
of_text line us =
    both (pairs_named line (after (codes " jlint-off ") us))
    (pairs_named (line + 1) (after (codes " jlint-off-next ") us))
    (of_names line (after (codes " jlint-off ") us)) (of_names (line + 1) (after (codes " jlint-off-next ") us))

of_comment : (source : List ℕ) (c : Comment) → AreOfRules (pairs_of source c)
of_comment source c =
    of_test c.to_line_end
    (pairs_of_text (position_of source c.span.from).0 (slice_range source (c.span.from + 2) c.span.to))
    (of_text (position_of source c.span.from).0 (slice_range source (c.span.from + 2) c.span.to))

of_comments : (source : List ℕ) (cs : List Comment) → AreOfRules (flat_map (pairs_of source) cs)
of_comments source [] = tt
of_comments source (c ∷ cs) =
    both (pairs_of source c) (flat_map (pairs_of source) cs) (of_comment source c) (of_comments source cs)

inserted : (pairs more : List Pair) → All (λ pair. IsRule pair.1) pairs → AreOfRules more
    → All (λ pair. IsRule pair.1) (with_pairs pairs more)
inserted pairs [] are b = are
inserted pairs (pair ∷ more) are b =
    inserted (insert_key by_line pairs pair) more
    (All-insert_key by_line pair (λ (p : Pair). IsRule p.1) pairs are b.0) b.1

pub off_are_rules : (source : List ℕ) (comments : List Comment) → All (λ pair. IsRule pair.1) (off_by source comments)
off_are_rules source comments =
    inserted [] (flat_map (pairs_of source) comments) (λ k d within. absurd (omega (arith, within)))
    (of_comments source comments)
