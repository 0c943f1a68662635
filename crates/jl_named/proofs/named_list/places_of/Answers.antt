use Rattle.std.proofs.Common.{◌≡◌, ◌∙◌, ap, sym, ℕ, ◌+◌, ◌-◌, List, Some, cond, drop, arith}
use Rattle.std.specs.BTreeMap.{get, is_at}
use Rattle.std.specs.Cmp.Lexicographic.{slice_cmp}
use Rattle.std.specs.List.{position_from}
use Rattle.std.specs.Ordering.{nat_cmp}
use Rattle.jl_named.specs.declared.named_list.Named.{Named}
use Rattle.jl_named.specs.Named.{has_name}
use Rattle.jl_named.proofs.KeptLemmas.{placed_before}
use Rattle.jl_named.proofs.named_list.places_of.Goals as goal

pub loop-at-preserved : goal.loop-at-preserved
loop-at-preserved g c =
    let xs = c.args.entries.now in
    let at = c.loop-at.at - 1 in
    let next : c.loop-at.at ≡ at + 1 = omega (arith, c.loop-at-test.true) in
    let placed : (q : List ℕ) → get (slice_cmp nat_cmp) c.loop-at.places q
    ≡ position_from (has_name q) (at + 1) (drop (at + 1) xs) =
    λ q. c.loop-at.invariant.1 q ∙ ap (λ n. position_from (has_name q) n (drop n xs)) next in
    let updates : (q : List ℕ) → get (slice_cmp nat_cmp) c.insert.new.self q
    ≡ cond (is_at (slice_cmp nat_cmp c.index-entries-at.result.name) q) (Some at)
    (get (slice_cmp nat_cmp) c.loop-at.places q) =
    λ q. c.in_ok-insert.ensures.updates.0 q
    ∙ ap (λ n. cond (is_at (slice_cmp nat_cmp n) q) (Some at) (get (slice_cmp nat_cmp) c.loop-at.places q))
    (c.in_ok-share.ensures ∙ ap (λ (x : Named g.row.T.Denot). x.name) (sym c.index-entries-at.is)) in (
      omega (arith, c.loop-at.invariant.0),
      placed_before xs at c.index-entries-at.result c.loop-at.places c.insert.new.self
          (omega (arith, c.loop-at.invariant.0, c.loop-at-test.true)) c.index-entries-at.is placed updates,
    )
