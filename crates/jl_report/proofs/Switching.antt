-- Steps of reading what comments switch off, over plain lists.
use Rattle.std.proofs.Common.{◌≡◌, ℕ, zero, suc, ◌+◌, ◌-◌, ◌<◌, ◌≤◌, Bool, true, false, ◌&&◌, ◌==◌, cond, List, []}
use Rattle.std.proofs.Common.{◌∷◌, ◌++◌}
use Rattle.std.proofs.Common.{length, take, drop, get_or, Option, None, Some, option_map, if◌then◌else◌}
use Rattle.std.proofs.Common.{refl, sym, ap, ◌∙◌, subst, arith, append_assoc}
use Rattle.std.specs.Prelude.{slice_get, slice_index, nat_lt, not, position}
use Rattle.std.specs.List.{list_all, flat_map, position_from, position_or_len, slice_split, onto_first}
use Rattle.std.specs.Str.{bytes_eq}
use Rattle.std.proofs.Math.Seq.{drop-cons, take-suc}
use Rattle.std.proofs.lemmas.Bool.Decides.{nat_tests}
use Rattle.std.proofs.lemmas.List.Splits.{slice_split_first}
use Rattle.std.proofs.lemmas.List.Sums.{fold-append}
use Rattle.std.proofs.lemmas.Option.{slice_get_within, get_or_from_slice_get}
use Rattle.jl_text.specs.Places.{ends_line, position_from as walked, position_of}
use Rattle.jl_token.specs.declared.token.Comment.{Comment}
use Rattle.jl_token.specs.Tokens.{CommentsInOrder}
use Rattle.jl_analysis.specs.Rules.{rules, rule_count, name_at}
use Rattle.jl_analysis.proofs.RuleNames.{rule_names, named}
use Rattle.jl_report.specs.Off.{Pair, with_pairs, without_last_spaces, with_each_rule}
use Rattle.jl_report.specs.Off.{after, pairs_of}

-- a word that a text begins with is the text where nothing follows it
abbrev pub is_end : Option (List ℕ) → Bool
is_end None = false
is_end (Some []) = true
is_end (Some (u ∷ us)) = false

pub spelled : (word us : List ℕ) → is_end (after word us) ≡ bytes_eq us word
spelled [] [] = refl
spelled [] (u ∷ us) = refl
spelled (w ∷ ws) [] = refl
spelled (w ∷ ws) (u ∷ us) = by (u == w) (spelled ws us) where
  by : (b : Bool) → is_end (after ws us) ≡ bytes_eq us ws → is_end (if b then after ws us else None)
      ≡ (b && bytes_eq us ws)
  by true e = e
  by false e = refl

pub none_left : (us : List ℕ) → (length us == 0) ≡ is_end (Some us)
none_left [] = refl
none_left (u ∷ us) = grind (arith, nat_tests)

-- names of rules from one on
pub rule_turn : (name x : List ℕ) (rule : ℕ) → 1 ≤ rule → Some x ≡ name_at rule
    → position_from (bytes_eq name) rule (drop (rule - 1) rule_names)
    ≡ cond (bytes_eq name x) (Some rule) (position_from (bytes_eq name) (rule + 1) (drop (rule + 1 - 1) rule_names))
rule_turn name x rule h e =
    let at : slice_get rule_names (rule - 1) ≡ Some x = sym (named rule h) ∙ sym e in
    let within = slice_get_within rule_names (rule - 1) x at in
    let next : suc (rule - 1) ≡ rule + 1 - 1 = omega (arith, h) in
    ap (position_from (bytes_eq name) rule) (drop-cons rule_names (rule - 1) x within
    ∙ ap (λ y. y ∷ drop (suc (rule - 1)) rule_names) (get_or_from_slice_get rule_names (rule - 1) x x at))
    ∙ ap (λ n. cond (bytes_eq name x) (Some rule) (position_from (bytes_eq name) (rule + 1) (drop n rule_names))) next

pub rule_end : (name : List ℕ) (n : ℕ) → position_from (bytes_eq name) n (drop rule_count rule_names) ≡ None
unfolding rules
rule_end name n = refl

-- some rules, and then those that more names tell
abbrev pub with_rules : List ℕ → Option (List ℕ) → Option (List ℕ)
with_rules first more = option_map (λ l. first ++ l) more

pub next_rule : (first : List ℕ) (rule : ℕ) (more : Option (List ℕ))
    → with_rules first (with_each_rule (Some rule) more) ≡ with_rules (first ++ rule ∷ []) more
next_rule first rule None = refl
next_rule first rule (Some l) = ap Some (sym (append_assoc first (rule ∷ []) l))

-- the parts between commas
cut_by : (xs : List ℕ) (at : ℕ) (b : Bool) → nat_lt (position_or_len (λ u. u == 44) xs) (length xs) ≡ b
    → Some at ≡ cond b (Some (position_or_len (λ u. u == 44) xs)) None
    → (at < length xs) × (slice_split (λ u. u == 44) xs ≡ take at xs ∷ slice_split (λ u. u == 44) (drop (at + 1) xs))
cut_by xs at true e p =
    let here : at ≡ position_or_len (λ u. u == 44) xs = cc in
    let within : position_or_len (λ u. u == 44) xs < length xs = grind (arith, nat_tests) in (
      subst (λ n. n < length xs) (sym here) within,
      slice_split_first (λ u. u == 44) xs 0 within
          ∙ ap (λ n. take n xs ∷ slice_split (λ u. u == 44) (drop (n + 1) xs)) (sym here),
    )
cut_by xs at false e p = absurd (apart p) where
  apart : Some at ≡ None → ⊥
  apart q = cc

uncut : (xs : List ℕ) → length xs ≤ position_or_len (λ u. u == 44) xs → slice_split (λ u. u == 44) xs ≡ xs ∷ []
uncut [] h = refl
uncut (x ∷ xs) h = by (x == 44) refl h (uncut xs) where
  by : (b : Bool) → (x == 44) ≡ b → suc (length xs) ≤ cond (not b) (1 + position_or_len (λ u. u == 44) xs) 0
      → (length xs ≤ position_or_len (λ u. u == 44) xs → slice_split (λ u. u == 44) xs ≡ xs ∷ [])
      → cond b ([] ∷ slice_split (λ u. u == 44) xs) (onto_first x (slice_split (λ u. u == 44) xs)) ≡ (x ∷ xs) ∷ []
  by true e g more = absurd (omega (arith, g))
  by false e g more = ap (onto_first x) (more (omega (arith, g)))

uncut_by : (xs : List ℕ) (b : Bool) → nat_lt (position_or_len (λ u. u == 44) xs) (length xs) ≡ b
    → None ≡ cond b (Some (position_or_len (λ u. u == 44) xs)) None → slice_split (λ u. u == 44) xs ≡ xs ∷ []
uncut_by xs true e p = absurd (apart p) where
  apart : None ≡ Some (position_or_len (λ u. u == 44) xs) → ⊥
  apart q = cc
uncut_by xs false e p = uncut xs (grind (arith, nat_tests))

pub first_part : (xs : List ℕ) (at : ℕ) → Some at ≡ position (λ u. u == 44) xs
    → slice_split (λ u. u == 44) xs ≡ take at xs ∷ slice_split (λ u. u == 44) (drop (at + 1) xs)
first_part xs at e = (cut_by xs at _ refl e).1

pub one_part : (xs : List ℕ) → None ≡ position (λ u. u == 44) xs → slice_split (λ u. u == 44) xs ≡ xs ∷ []
one_part xs e = uncut_by xs _ refl e

-- spaces at the end
all_more : (us : List ℕ) → list_all (λ v. v == 32) (us ++ 32 ∷ []) ≡ list_all (λ v. v == 32) us
all_more [] = refl
all_more (u ∷ us) = ap (λ b. (u == 32) && b) (all_more us)

not_all : (u : ℕ) (us : List ℕ) → (u == 32) ≡ false → list_all (λ v. v == 32) (us ++ u ∷ []) ≡ false
not_all u [] h = ap (λ b. b && true) h
not_all u (v ∷ us) h = by (v == 32) (not_all u us h) where
  by : (b : Bool) → list_all (λ v. v == 32) (us ++ u ∷ []) ≡ false → (b && list_all (λ v. v == 32) (us ++ u ∷ []))
      ≡ false
  by true e = e
  by false e = refl

pub one_space_less : (us : List ℕ) → without_last_spaces (us ++ 32 ∷ []) ≡ without_last_spaces us
one_space_less [] = refl
one_space_less (u ∷ us) =
    ap (λ b. if (u == 32) && b then [] else u ∷ without_last_spaces (us ++ 32 ∷ [])) (all_more us)
    ∙ ap (λ l. if (u == 32) && list_all (λ v. v == 32) us then [] else u ∷ l) (one_space_less us)

pub no_space : (u : ℕ) (us : List ℕ) → (u == 32) ≡ false → without_last_spaces (us ++ u ∷ []) ≡ us ++ u ∷ []
no_space u [] h = ap (λ b. if b && true then [] else u ∷ []) h
no_space u (v ∷ us) h =
    ap (λ b. if b then [] else v ∷ without_last_spaces (us ++ u ∷ [])) (not_all u (v ∷ us) h)
    ∙ ap (λ l. v ∷ l) (no_space u us h)

pub two_parts : (pairs a b : List Pair) → with_pairs (with_pairs pairs a) b ≡ with_pairs pairs (a ++ b)
two_parts pairs a b = sym (fold-append _ pairs a b)

-- a text up to a unit, and the text before that unit
up_to : (us : List ℕ) (end : ℕ) → 0 < end → end ≤ length us → take end us ≡ take (end - 1) us ++ get_or us (end - 1) 0
    ∷ []
up_to us zero h l = absurd (omega (arith, h))
up_to us (suc n) h l = ap (λ k. take (suc k) us) same ∙ take-suc us (suc n - 1) 0 (omega (arith, l)) where
  same : n ≡ suc n - 1
  same = omega arith

pub space_there : (us : List ℕ) (end : ℕ) → 0 < end → end ≤ length us → get_or us (end - 1) 0 ≡ 32
    → without_last_spaces (take end us) ≡ without_last_spaces (take (end - 1) us)
space_there us end h l e =
    ap without_last_spaces (up_to us end h l ∙ ap (λ u. take (end - 1) us ++ u ∷ []) e)
    ∙ one_space_less (take (end - 1) us)

is_other : (u : ℕ) → (u ≡ 32 → ⊥) → (u == 32) ≡ false
is_other u h = grind (arith, nat_tests)

pub no_space_there : (us : List ℕ) (end : ℕ) → 0 < end → end ≤ length us → (get_or us (end - 1) 0 ≡ 32 → ⊥)
    → without_last_spaces (take end us) ≡ take end us
no_space_there us end h l e =
    ap without_last_spaces (up_to us end h l)
    ∙ no_space (get_or us (end - 1) 0) (take (end - 1) us) (is_other (get_or us (end - 1) 0) e)
    ∙ sym (up_to us end h l)

-- a turn of a loop over comments
pub comment_turn : (source : List ℕ) (comments : List Comment) (i : ℕ) (c : Comment) (off now all : List Pair)
    → c ≡ get_or comments i c → i < length comments
    → with_pairs off (flat_map (pairs_of source) (drop i comments)) ≡ all → now ≡ with_pairs off (pairs_of source c)
    → with_pairs now (flat_map (pairs_of source) (drop (i + 1) comments)) ≡ all
comment_turn source comments i c off now all item below before next =
    let k : suc i ≡ i + 1 = omega arith in
    let rest : drop i comments ≡ c ∷ drop (i + 1) comments =
    drop-cons comments i c below ∙ ap (λ y. y ∷ drop (suc i) comments) (sym item) ∙ ap (λ n. c ∷ drop n comments) k in
    ap (λ p. with_pairs p (flat_map (pairs_of source) (drop (i + 1) comments))) next
    ∙ two_parts off (pairs_of source c) (flat_map (pairs_of source) (drop (i + 1) comments))
    ∙ ap (λ l. with_pairs off (flat_map (pairs_of source) l)) (sym rest) ∙ before

-- where the comments of a text stand
in_order_ends : (low high : ℕ) (cs : List Comment) → CommentsInOrder low high cs → low ≤ high
in_order_ends low high [] h = h
in_order_ends low high (c ∷ cs) h = let e = in_order_ends c.span.to high cs h.2 in omega (arith, h.0, h.1, e)

pub comment_within : (low high : ℕ) (cs : List Comment) (i : ℕ) (d : Comment) → CommentsInOrder low high cs
    → i < length cs → ((get_or cs i d).span.from + 2 ≤ (get_or cs i d).span.to) × ((get_or cs i d).span.to ≤ high)
comment_within low high [] i d h l = absurd (omega (arith, l))
comment_within low high (c ∷ cs) zero d h l = (h.1, in_order_ends c.span.to high cs h.2)
comment_within low high (c ∷ cs) (suc i) d h l = comment_within c.span.to high cs i d h.2 (omega (arith, l))

-- a line has a place at least
walked_line : (line column : ℕ) (us : List ℕ) (at : ℕ) → (walked line column us at).0 ≤ line + at
walked_line line column [] at = omega arith
walked_line line column (u ∷ us) zero = omega arith
walked_line line column (u ∷ us) (suc at) =
    by (ends_line u (slice_index us 0)) (walked_line (line + 1) 1 us at) (walked_line line (column + 1) us at) where
      by : (b : Bool) → (walked (line + 1) 1 us at).0 ≤ line + 1 + at → (walked line (column + 1) us at).0 ≤ line + at
          → (if b then walked (line + 1) 1 us at else walked line (column + 1) us at).0 ≤ line + suc at
      by true h g = omega (arith, h)
      by false h g = omega (arith, g)

pub line_within : (units : List ℕ) (at : ℕ) → (position_of units at).0 ≤ at + 1
line_within units at = omega (arith, walked_line 1 1 units at)
