use Rattle.std.proofs.Common.{◌≡◌, ◌<◌, length, ap, arith}
use Rattle.jl_cover.specs.inner.Observed.{lacks_by}
use Rattle.jl_cover.proofs.Rows.{one_if, one_more_covered}
use Rattle.jl_cover.proofs.cover.Cover.covered.Goals as goal
use Rattle.jl_cover.proofs.cover.Cover.covered.Goals.{then-is_covered, else-is_covered}

pub loop-before-preserved : goal.loop-before-preserved
loop-before-preserved c =
    let within : c.loop-before.before < length c.args.map.now =
    omega (arith, c.loop-before-test.true, c.len-before-end.ensures) in
    let step = one_more_covered c.args.map.now (lacks_by c.args.self.now) c.loop-before.before c.kind_of.result
    c.args.kind c.is_covered.result within c.kind_of.ensures c.is_covered.ensures in
    let so_far = c.loop-before.invariant.counted in
    elim c.if-is_covered.branch [
      | then-is_covered w ↦
          let one : one_if c.is_covered.result ≡ 1 = ap one_if w.if-is_covered.true in
          record { counted = omega (arith, step, one, so_far, w.count-is); bounded = omega arith }
      | else-is_covered w ↦
          let none : one_if c.is_covered.result ≡ 0 = ap one_if w.if-is_covered.false in
          record { counted = omega (arith, step, none, so_far, w.count-is); bounded = omega arith }
    ]
