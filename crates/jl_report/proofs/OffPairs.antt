-- What comments switch off is rules, for lines that count from 1.
use Rattle.std.proofs.Common.{◌≡◌, ℕ, zero, suc, ◌==◌, ◌+◌, ◌<◌, ◌≤◌, Bool, true, false, cond, List, [], ◌∷◌, length}
use Rattle.std.proofs.Common.{Option, None, Some, refl, arith, All, if◌then◌else◌}
use Rattle.std.proofs.lemmas.List.Elements.{All-nil, All-cons, All-append, All-head, All-tail, All-map}
use Rattle.std.proofs.lemmas.Map.Views.{All-insert_key}
use Rattle.std.specs.BTreeSet.{insert_key}
use Rattle.std.specs.List.{flat_map, position_from, slice_range, slice_split}
use Rattle.std.specs.Prelude.{codes, slice_index}
use Rattle.std.specs.Str.{bytes_eq}
use Rattle.jl_text.specs.Places.{ends_line, position_of, position_from as walked}
use Rattle.jl_token.specs.declared.token.Comment.{Comment}
use Rattle.jl_analysis.proofs.RuleNames.{rule_names}
use Rattle.jl_analysis.specs.Rules.{rules, rule_with, IsRule, rule_count}
use Rattle.jl_report.specs.Laws.{OffNamesRules}
use Rattle.jl_report.specs.Off.{Pair, by_line, with_pairs, with_each_rule, rules_with, rules_in, pairs_with}
use Rattle.jl_report.specs.Off.{pairs_named}
use Rattle.jl_report.specs.Off.{after, pairs_of_text, pairs_of, off_by, without_last_spaces}

-- a pair of a line and a rule
record IsPair (pair : Pair) : Type 0 where
  rule : IsRule pair.1
  line : 1 ≤ pair.0

found_within : (name : List ℕ) (names : List (List ℕ)) (first rule : ℕ)
    → position_from (bytes_eq name) first names ≡ Some rule
    → (first ≤ rule) × (rule < first + length names)
found_within name [] first rule e = absurd (let h : None ≡ Some rule = e in cc)
found_within name (x ∷ names) first rule e = by (bytes_eq name x) e (found_within name names (first + 1) rule) where
  by : (b : Bool) → cond b (Some first) (position_from (bytes_eq name) (first + 1) names) ≡ Some rule
      → (position_from (bytes_eq name) (first + 1) names ≡ Some rule
      → (first + 1 ≤ rule) × (rule < first + 1 + length names))
      → (first ≤ rule) × (rule < first + length (x ∷ names))
  by true f h = let same : first ≡ rule = cc in (omega (arith, same), omega (arith, same))
  by false f h = let w = h f in (omega (arith, w.0), omega (arith, w.1))

all_rules_named : length rule_names ≡ rule_count
unfolding rules
all_rules_named = refl

named_is_rule : (name : List ℕ) (rule : ℕ) → rule_with name ≡ Some rule → IsRule rule
named_is_rule name rule e =
    let w = found_within name rule_names 1 rule e in (w.0, omega (arith, w.1, all_rules_named))

abbrev AreRules : Option (List ℕ) → Type 0
AreRules None = Unit {0}
AreRules (Some named) = All IsRule named

each_rule : (first : Option ℕ) (more : Option (List ℕ)) → ((rule : ℕ) → first ≡ Some rule → IsRule rule)
    → AreRules more → AreRules (with_each_rule first more)
each_rule None more h g = tt
each_rule (Some rule) None h g = tt
each_rule (Some rule) (Some named) h g = All-cons IsRule rule named (h rule refl) g

rules_are : (names : List (List ℕ)) → AreRules (rules_with names)
rules_are [] = All-nil IsRule
rules_are (name ∷ names) = each_rule (rule_with name) (rules_with names) (named_is_rule name) (rules_are names)

line_pairs : (line : ℕ) (named : Option (List ℕ)) → 1 ≤ line → AreRules named → All IsPair (pairs_with line named)
line_pairs line None h all = All-nil IsPair
line_pairs line (Some named) h all =
    All-map IsPair (λ rule. (line, rule)) named (λ i d below. record { rule = all i d below; line = h })

named_pairs : (line : ℕ) (text : Option (List ℕ)) → 1 ≤ line → All IsPair (pairs_named line text)
named_pairs line None h = All-nil IsPair
named_pairs line (Some us) h =
    line_pairs line (rules_in us) h (rules_are (slice_split (λ u. u == 44) (without_last_spaces us)))

text_pairs : (line : ℕ) (us : List ℕ) → 1 ≤ line → All IsPair (pairs_of_text line us)
text_pairs line us h =
    All-append IsPair (pairs_named line (after (codes " jlint-off ") us))
    (pairs_named (line + 1) (after (codes " jlint-off-next ") us)) (named_pairs line (after (codes " jlint-off ") us) h)
    (named_pairs (line + 1) (after (codes " jlint-off-next ") us) (omega arith))

-- lines count from 1
walked_from : (line column : ℕ) (us : List ℕ) (at : ℕ) → line ≤ (walked line column us at).0
walked_from line column [] at = omega arith
walked_from line column (u ∷ us) zero = omega arith
walked_from line column (u ∷ us) (suc at) =
    by (ends_line u (slice_index us 0)) (walked_from (line + 1) 1 us at) (walked_from line (column + 1) us at) where
      by : (b : Bool) → line + 1 ≤ (walked (line + 1) 1 us at).0 → line ≤ (walked line (column + 1) us at).0
          → line ≤ (if b then walked (line + 1) 1 us at else walked line (column + 1) us at).0
      by true h g = omega (arith, h)
      by false h g = g

comment_pairs : (source : List ℕ) (c : Comment) → All IsPair (pairs_of source c)
comment_pairs source c = by c.to_line_end where
  by : (b : Bool) → All IsPair (if b
      then pairs_of_text (position_of source c.span.from).0 (slice_range source (c.span.from + 2) c.span.to) else [])
  by true = text_pairs (position_of source c.span.from).0 (slice_range source (c.span.from + 2) c.span.to)
      (walked_from 1 1 source c.span.from)
  by false = All-nil IsPair

all_pairs : (source : List ℕ) (comments : List Comment) → All IsPair (flat_map (pairs_of source) comments)
all_pairs source [] = All-nil IsPair
all_pairs source (c ∷ comments) =
    All-append IsPair (pairs_of source c) (flat_map (pairs_of source) comments) (comment_pairs source c)
    (all_pairs source comments)

kept_pairs : (pairs more : List Pair) → All IsPair pairs → All IsPair more → All IsPair (with_pairs pairs more)
kept_pairs pairs [] h g = h
kept_pairs pairs (pair ∷ more) h g =
    kept_pairs (insert_key by_line pairs pair) more
    (All-insert_key by_line pair IsPair pairs h (All-head IsPair pair more g)) (All-tail IsPair pair more g)

off_pairs : (source : List ℕ) (comments : List Comment) → All IsPair (off_by source comments)
off_pairs source comments =
    kept_pairs [] (flat_map (pairs_of source) comments) (All-nil IsPair) (all_pairs source comments)

pub off_names_rules : OffNamesRules
off_names_rules source comments = (
  λ i d below. (off_pairs source comments i d below).rule,
  λ i d below. (off_pairs source comments i d below).line,
)
