use Rattle.std.proofs.Common.{◌≡◌, ◌<◌, length, ap, arith}
use Rattle.jl_cover.proofs.Rows.{one_if, one_more_counted}
use Rattle.jl_cover.proofs.cover.rows_of.Goals as goal
use Rattle.jl_cover.proofs.cover.rows_of.Goals.{then-is_of, else-is_of}

pub loop-before-preserved : goal.loop-before-preserved
loop-before-preserved c =
    let within : c.loop-before.before < length c.args.map.now =
    omega (arith, c.loop-before-test.true, c.len-before-end.ensures) in
    let step = one_more_counted c.args.map.now c.loop-before.before c.kind_of.result c.args.kind c.is_of.result
    within c.kind_of.ensures c.is_of.ensures in
    let so_far = c.loop-before.invariant.counted in
    elim c.if-is_of.branch [
      | then-is_of w ↦
          let one : one_if c.is_of.result ≡ 1 = ap one_if w.if-is_of.true in
          record { counted = omega (arith, step, one, so_far, w.count-is); bounded = omega arith }
      | else-is_of w ↦
          let none : one_if c.is_of.result ≡ 0 = ap one_if w.if-is_of.false in
          record { counted = omega (arith, step, none, so_far, w.count-is); bounded = omega arith }
    ]
