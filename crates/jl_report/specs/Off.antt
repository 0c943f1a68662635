-- Comments of a source that switch rules off: `// jlint-off NAMES` does so for the line on which the comment begins,
-- and `// jlint-off-next NAMES` for the line after it. NAMES are names of rules with commas between them; spaces may
-- follow. Units stand here by their numbers: 32 is a space, 44 a comma.
use Rattle.std.specs.Prelude.{ℕ, ◌+◌, Bool, ◌&&◌, ◌==◌, List, [], ◌∷◌, ◌++◌, Option, None, Some}
use Rattle.std.specs.Prelude.{map, fold, codes, if◌then◌else◌}
use Rattle.std.specs.List.{list_all, list_any, slice_split, slice_range, flat_map}
use Rattle.std.specs.Ordering.{nat_cmp, ordering_then}
use Rattle.std.specs.declared.cmp.Ordering.{Ordering}
use Rattle.std.specs.BTreeSet.{insert_key}
use Rattle.jl_text.specs.Places.{position_of}
use Rattle.jl_token.specs.declared.token.Comment.{Comment}
use Rattle.jl_analysis.specs.Rules.{rule_with}

-- a line and the number of a rule
abbrev pub Pair : Type 0
Pair = ℕ × ℕ

-- the rule is switched off for the line, where these pairs are
abbrev pub is_off : List Pair → (line rule : ℕ) → Bool
is_off pairs line rule = list_any (λ pair. pair.0 == line && pair.1 == rule) pairs

-- what pairs are ordered by: the line, and then the rule
abbrev pub by_line : Pair → Pair → Ordering
by_line a b = ordering_then (nat_cmp a.0 b.0) (nat_cmp a.1 b.1)

-- pairs that are in order, and more of them, each once
abbrev pub with_pairs : List Pair → (more : List Pair) → List Pair
with_pairs pairs more = fold (insert_key by_line) pairs more

-- a text without the spaces at its end
abbrev pub without_last_spaces : List ℕ → List ℕ
without_last_spaces [] = []
without_last_spaces (u ∷ us) =
    if list_all (λ v. v == 32) (u ∷ us) then [] else u ∷ without_last_spaces us

-- one more rule, if all are rules
abbrev pub with_each_rule : Option ℕ → Option (List ℕ) → Option (List ℕ)
with_each_rule (Some rule) (Some more) = Some (rule ∷ more)
with_each_rule _ _ = None

-- the numbers of the rules with these names, if each is the name of one
abbrev pub rules_with : (names : List (List ℕ)) → Option (List ℕ)
rules_with [] = Some []
rules_with (name ∷ names) = with_each_rule (rule_with name) (rules_with names)

-- the rules that a text names: what stands between its commas is the name of a rule each time, but for spaces at the
-- end
abbrev pub rules_in : List ℕ → Option (List ℕ)
rules_in us = rules_with (slice_split (λ u. u == 44) (without_last_spaces us))

-- what follows a word, where a text begins with it
abbrev pub after : (word : List ℕ) → List ℕ → Option (List ℕ)
after [] us = Some us
after (w ∷ ws) [] = None
after (w ∷ ws) (u ∷ us) = if u == w then after ws us else None

-- pairs of a line with rules, where there are some
abbrev pub pairs_with : (line : ℕ) → Option (List ℕ) → List Pair
pairs_with line None = []
pairs_with line (Some named) = map (λ rule. (line, rule)) named

-- pairs of a line with the rules that a text names, where there is one
abbrev pub pairs_named : (line : ℕ) → Option (List ℕ) → List Pair
pairs_named line None = []
pairs_named line (Some us) = pairs_with line (rules_in us)

-- the pairs that a comment gives which begins on a line, by its text, which is what follows its `//`; no text begins
-- with both words
abbrev pub pairs_of_text : (line : ℕ) → List ℕ → List Pair
pairs_of_text line us =
    pairs_named line (after (codes " jlint-off ") us) ++ pairs_named (line + 1) (after (codes " jlint-off-next ") us)

-- the pairs that a comment of a source gives; one between `/*` and `*/` gives none
abbrev pub pairs_of : (source : List ℕ) → Comment → List Pair
pairs_of source c =
    if c.to_line_end
    then pairs_of_text (position_of source c.span.from).0 (slice_range source (c.span.from + 2) c.span.to)
    else []

-- what the comments of a source switch off
abbrev pub off_by : (source : List ℕ) → List Comment → List Pair
off_by source comments = with_pairs [] (flat_map (pairs_of source) comments)
