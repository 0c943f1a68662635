use Rattle.std.proofs.Common.{◌∙◌, ap, ◌≤◌, Some, cond, length, arith}
use Rattle.std.specs.BTreeMap.{get, is_at}
use Rattle.std.specs.Cmp.Lexicographic.{slice_cmp}
use Rattle.std.specs.Ordering.{nat_cmp}
use Rattle.jl_named.specs.inner.Placed.{ArePlacesOf}
use Rattle.jl_named.proofs.KeptLemmas.{pushed}
use Rattle.jl_named.proofs.named_list.note_place.Goals.{then-count-eq-FEW+in_ok-places, else-count-eq-FEW}
use Rattle.jl_named.proofs.named_list.note_place.Goals as goal

pub returns-then-count-lt-FEW-clause-ok : goal.returns-then-count-lt-FEW-clause-ok
returns-then-count-lt-FEW-clause-ok g c = λ item.
    pushed c.args.entries.now (record { name = c.args.name.now; item = item }) c.args.places.now c.args.places.now
    c.requires.kept c.requires.new
    (λ many. absurd (omega (arith, many, c.if-count-lt-FEW.true)))

pub returns-clause-ok : goal.returns-clause-ok
returns-clause-ok g c =
    let xs = c.args.entries.now in
    let placed : 8 ≤ length xs → ArePlacesOf xs c.if-count-eq-FEW.places =
    λ many. elim c.if-count-eq-FEW.branch [
      | then-count-eq-FEW+in_ok-places w ↦ rw w.places-is w.in_ok-places.ensures
      | else-count-eq-FEW w ↦
          rw w.places-is (c.requires.kept.placed (omega (arith, many, w.if-count-eq-FEW.false)))
    ] in
    λ item. pushed xs (record { name = c.args.name.now; item = item }) c.insert.new.self c.args.places.now
    c.requires.kept c.requires.new
    (λ many q. c.in_ok-insert.ensures.updates.0 q
    ∙ ap (λ n. cond (is_at (slice_cmp nat_cmp n) q) (Some (length xs))
    (get (slice_cmp nat_cmp) c.if-count-eq-FEW.places q)) c.in_ok-share.ensures
    ∙ ap (cond (is_at (slice_cmp nat_cmp c.args.name.now) q) (Some (length xs))) (placed many q))
