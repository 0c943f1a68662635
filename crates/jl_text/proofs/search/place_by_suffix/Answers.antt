use Rattle.std.proofs.Common.{◌≡◌, ◌+◌, ◌≤◌, Bool, true, false, ◌↔◌, sym, ◌∙◌, arith}
use Rattle.jl_text.proofs.PeriodLemmas.{IsPeriod-none, IsPeriod-shift, Agrees-shift, none_before, not_at}
use Rattle.jl_text.proofs.search.place_by_suffix.Goals as goal
use Rattle.jl_text.proofs.search.place_by_suffix.Goals.{else-end-len-via-then-end-len+else-at}
use Rattle.jl_text.proofs.search.place_by_suffix.Goals.{else-end-len-via-else-end-len}
use Rattle.jl_text.proofs.search.place_by_suffix.Goals.{else-end-len-2-via-then-end-len-2+else-stands_before}
use Rattle.jl_text.proofs.search.place_by_suffix.Goals.{else-end-len-2-via-else-end-len-2}

refuted : {P : Type 0} → (b : Bool) → b ≡ false → (b ≡ true) ↔ P → P → ⊥
refuted b test tells holds = let yes = tells.1 holds in cc

pub loop-at-preserved-then-end-start : goal.loop-at-preserved-then-end-start
loop-at-preserved-then-end-start g c =
    let known = c.loop-at.invariant in
    let not = not_at (g.U.Units.unit c.args.units) (g.U.Units.unit c.args.part) c.loop-at.at
    c.greatest_suffix-start.result c.loop-at.end (g.U.Units.size c.args.part) known.0
    (λ inside same. elim c.else-end-len.branch [
      | else-end-len-via-then-end-len+else-at w ↦ w.if-at.false (w.at.ensures ∙ same ∙ sym w.at-then-end-len.ensures)
      | else-end-len-via-else-end-len w ↦ omega (arith, inside, w.if-end-len.false, c.len-in-loop-at.ensures)
    ])
    (λ all whole. elim c.else-end-len-2.branch [
      | else-end-len-2-via-then-end-len-2+else-stands_before w ↦
          refuted _ w.if-stands_before.false w.stands_before.ensures whole
      | else-end-len-2-via-else-end-len-2 w ↦ w.if-end-len-2.false (all ∙ sym c.len-else-end-len.ensures)
    ]) known.1.within in
    let room : c.loop-at.at + g.U.Units.size c.args.part ≤ g.U.Units.size c.args.units =
    omega (arith, c.loop-at-test.true, c.len.ensures, c.len-2.ensures, c.requires.fits) in (
      c.greatest_suffix-start.ensures.within,
      IsPeriod-none _ _,
      λ k low high. omega (arith, low, high),
      none_before (g.U.Units.unit c.args.units) (g.U.Units.unit c.args.part) _ _ _ _ _ _ known.1 known.2 known.0 not
          known.3,
    )

pub loop-at-preserved : goal.loop-at-preserved
loop-at-preserved g c =
    let known = c.loop-at.invariant in
    let not = not_at (g.U.Units.unit c.args.units) (g.U.Units.unit c.args.part) c.loop-at.at
    c.greatest_suffix-start.result c.loop-at.end (g.U.Units.size c.args.part) known.0
    (λ inside same. elim c.else-end-len.branch [
      | else-end-len-via-then-end-len+else-at w ↦ w.if-at.false (w.at.ensures ∙ same ∙ sym w.at-then-end-len.ensures)
      | else-end-len-via-else-end-len w ↦ omega (arith, inside, w.if-end-len.false, c.len-in-loop-at.ensures)
    ])
    (λ all whole. elim c.else-end-len-2.branch [
      | else-end-len-2-via-then-end-len-2+else-stands_before w ↦
          refuted _ w.if-stands_before.false w.stands_before.ensures whole
      | else-end-len-2-via-else-end-len-2 w ↦ w.if-end-len-2.false (all ∙ sym c.len-else-end-len.ensures)
    ]) known.1.within in
    let room : c.loop-at.at + g.U.Units.size c.args.part ≤ g.U.Units.size c.args.units =
    omega (arith, c.loop-at-test.true, c.len.ensures, c.len-2.ensures, c.requires.fits) in (
      omega (arith, known.0),
      IsPeriod-shift _ _ _ _ known.1 (omega (arith, c.if-end-start.false, known.1.some)),
      Agrees-shift (g.U.Units.unit c.args.units) (g.U.Units.unit c.args.part) _ _ _ _ known.1 known.2,
      none_before (g.U.Units.unit c.args.units) (g.U.Units.unit c.args.part) _ _ _ _ _ _ known.1 known.2 known.0 not
          known.3,
    )
