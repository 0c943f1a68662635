-- What comments switch off are pairs in order, each of a line that is not too high.
use Rattle.std.proofs.Common.{◌≡◌, ◌∙◌, ◌+◌, ◌≤◌, ◌<◌, ◌^◌, ℕ, zero, suc, All, Bool, true, false, List, [], ◌∷◌, Option}
use Rattle.std.proofs.Common.{None, Some, ap, arith, length, refl, if◌then◌else◌}
use Rattle.std.proofs.lemmas.Cmp.{nat_cmp_total, on_total, then_total}
use Rattle.std.proofs.lemmas.List.Elements.{All-append, All-head, All-map, All-nil, All-tail}
use Rattle.std.proofs.lemmas.Map.Views.{All-insert_key}
use Rattle.std.specs.BTreeSet.{insert_key}
use Rattle.std.specs.Cmp.{IsTotalOrder}
use Rattle.std.specs.List.{AllByRecursion, flat_map, slice_range}
use Rattle.std.specs.List.Sorted.{IsStrictlySortedBy}
use Rattle.std.specs.Ordering.{match_ordering, ordering_reverse}
use Rattle.std.specs.Prelude.{codes, slice_index}
use Rattle.std.specs.declared.cmp.Ordering.{Ordering}
use Rattle.std.specs.declared.cmp.Ordering.TheVariants.{Less, Equal, Greater}
use Rattle.jl_record.proofs.Ranks.{rising, rising_fits}
use Rattle.jl_record.specs.Records.{IsOff}
use Rattle.jl_report.specs.Laws.{OffNamesRules}
use Rattle.jl_report.specs.Off.{Pair, after, by_line, off_by, pairs_named, pairs_of, pairs_of_text, pairs_with}
use Rattle.jl_report.specs.Off.{rules_in, with_pairs}
use Rattle.jl_text.specs.Places.{ends_line, position_from, position_of}
use Rattle.jl_token.specs.declared.token.Comment.{Comment}

-- ---- in order

module _ {K : Type 0} (R : K → K → Ordering) (total : IsTotalOrder R) where
  above_more : (y k : K) (ks : List K) → R y k ≡ Less → AllByRecursion (λ z. R y z ≡ Less) ks
      → AllByRecursion (λ z. R y z ≡ Less) (insert_key R ks k)
  above_more y k [] e h = (e, tt)
  above_more y k (x ∷ xs) e h = by (R k x) (above_more y k xs e h.1)
    where
      by : (r : Ordering) → AllByRecursion (λ z. R y z ≡ Less) (insert_key R xs k)
          → AllByRecursion (λ z. R y z ≡ Less)
          (match_ordering r (k ∷ x ∷ xs) (x ∷ xs) (x ∷ insert_key R xs k))
      by Less g = (e, h)
      by Equal g = h
      by Greater g = (h.0, g)

  above_all : (k x : K) (xs : List K) → R k x ≡ Less → AllByRecursion (λ z. R x z ≡ Less) xs
      → AllByRecursion (λ z. R k z ≡ Less) xs
  above_all k x [] e h = tt
  above_all k x (z ∷ xs) e h = (total.trans k x z e h.0, above_all k x xs e h.1)

  inserted : (k : K) (ks : List K) → IsStrictlySortedBy R ks → IsStrictlySortedBy R (insert_key R ks k)
  unfolding IsStrictlySortedBy
  inserted k [] h = (tt, tt)
  inserted k (x ∷ xs) h = by (R k x) refl (inserted k xs h.1)
    where
      by : (r : Ordering) → R k x ≡ r → IsStrictlySortedBy R (insert_key R xs k)
          → IsStrictlySortedBy R (match_ordering r (k ∷ x ∷ xs) (x ∷ xs) (x ∷ insert_key R xs k))
      by Less e g = ((e, above_all k x xs e h.0), h)
      by Equal e g = h
      by Greater e g = (above_more x k xs (total.antisymm x k ∙ ap ordering_reverse e) h.0, g)

by_line_total : IsTotalOrder by_line
by_line_total = then_total (on_total (λ (p : Pair). p.0) nat_cmp_total) (on_total (λ (p : Pair). p.1) nat_cmp_total)

nothing_in_order : IsStrictlySortedBy by_line []
unfolding IsStrictlySortedBy
nothing_in_order = tt

all_inserted : (pairs more : List Pair) → IsStrictlySortedBy by_line pairs
    → IsStrictlySortedBy by_line (with_pairs pairs more)
all_inserted pairs [] h = h
all_inserted pairs (pair ∷ more) h =
    all_inserted (insert_key by_line pairs pair) more (inserted by_line by_line_total pair pairs h)

pub off_in_order : (source : List ℕ) (comments : List Comment) → IsStrictlySortedBy by_line (off_by source comments)
off_in_order source comments = all_inserted [] (flat_map (pairs_of source) comments) nothing_in_order

-- ---- on lines that there are, or on the one after

module _ (most : ℕ) where
  abbrev OnLine : Pair → Type 0
  OnLine pair = pair.0 ≤ most

  with_rules : (line : ℕ) (named : Option (List ℕ)) → line ≤ most → All OnLine (pairs_with line named)
  with_rules line None h = All-nil OnLine
  with_rules line (Some named) h = All-map OnLine (λ rule. (line, rule)) named (λ i d below. h)

  of_names : (line : ℕ) (text : Option (List ℕ)) → line ≤ most → All OnLine (pairs_named line text)
  of_names line None h = All-nil OnLine
  of_names line (Some us) h = with_rules line (rules_in us) h

  of_text : (line : ℕ) (us : List ℕ) → line + 1 ≤ most → All OnLine (pairs_of_text line us)
  of_text line us h =
      All-append OnLine (pairs_named line (after (codes " jlint-off ") us))
      (pairs_named (line + 1) (after (codes " jlint-off-next ") us))
      (of_names line (after (codes " jlint-off ") us) (omega arith))
      (of_names (line + 1) (after (codes " jlint-off-next ") us) h)

  kept : (pairs more : List Pair) → All OnLine pairs → All OnLine more → All OnLine (with_pairs pairs more)
  kept pairs [] h g = h
  kept pairs (pair ∷ more) h g =
      kept (insert_key by_line pairs pair) more
      (All-insert_key by_line pair OnLine pairs h (All-head OnLine pair more g)) (All-tail OnLine pair more g)

walked : (line column : ℕ) (us : List ℕ) (at : ℕ) → (position_from line column us at).0 ≤ line + length us
walked line column [] at = omega arith
walked line column (u ∷ us) zero = omega arith
walked line column (u ∷ us) (suc at) =
    by (ends_line u (slice_index us 0)) (walked (line + 1) 1 us at) (walked line (column + 1) us at)
  where
    by : (b : Bool) → (position_from (line + 1) 1 us at).0 ≤ line + 1 + length us
        → (position_from line (column + 1) us at).0 ≤ line + length us
        → (if b then position_from (line + 1) 1 us at else position_from line (column + 1) us at).0
        ≤ line + length (u ∷ us)
    by true h g = omega (arith, h)
    by false h g = omega (arith, g)

abbrev last_line : List ℕ → ℕ
last_line source = length source + 2

of_comment : (source : List ℕ) (c : Comment) → All (OnLine (last_line source)) (pairs_of source c)
of_comment source c = by c.to_line_end
  where
    by : (b : Bool) → All (OnLine (last_line source)) (if b
        then pairs_of_text (position_of source c.span.from).0 (slice_range source (c.span.from + 2) c.span.to) else [])
    by true =
        let line = walked 1 1 source c.span.from in
        of_text (last_line source) (position_of source c.span.from).0
        (slice_range source (c.span.from + 2) c.span.to) (omega (arith, line))
    by false = All-nil (OnLine (last_line source))

of_comments : (source : List ℕ) (comments : List Comment)
    → All (OnLine (last_line source)) (flat_map (pairs_of source) comments)
of_comments source [] = All-nil (OnLine (last_line source))
of_comments source (c ∷ comments) =
    All-append (OnLine (last_line source)) (pairs_of source c) (flat_map (pairs_of source) comments)
    (of_comment source c) (of_comments source comments)

on_lines : (source : List ℕ) (comments : List Comment) → All (OnLine (last_line source)) (off_by source comments)
on_lines source comments =
    kept (last_line source) [] (flat_map (pairs_of source) comments) (All-nil (OnLine (last_line source)))
    (of_comments source comments)

-- ---- so they can be stored

pub each : {X : Type 0} (P : X → Type 0) (xs : List X) → All P xs → AllByRecursion P xs
each P [] h = tt
each P (x ∷ xs) h = (All-head P x xs h, each P xs (All-tail P x xs h))

pub off_are_stored : OffNamesRules → (source : List ℕ) (comments : List Comment) → length source < 4294967290
    → AllByRecursion IsOff (off_by source comments)
off_are_stored names source comments short =
    let are = names source comments in
    each IsOff (off_by source comments)
    (λ i d below. (
      (are.1 i d below, let line = on_lines source comments i d below in omega (arith, line, short)),
      are.0 i d below,
    ))

pub few_off : OffNamesRules → (source : List ℕ) (comments : List Comment) → length source < 4294967290
    → length (off_by source comments) < 2 ^ 64
few_off names source comments short =
    let are = off_are_stored names source comments short in
    let fits = rising_fits 20 (off_by source comments) are
    (rising (off_by source comments) are (off_in_order source comments)) (omega arith) in
    omega (arith, fits)
