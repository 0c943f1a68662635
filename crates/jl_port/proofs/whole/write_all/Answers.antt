use Rattle.std.proofs.Common.{rules, arith}
use Rattle.std.proofs.lemmas.List.{places}
use Rattle.jl_port.proofs.Told.{Grows-next}
use Rattle.jl_port.proofs.whole.write_all.Goals as goal

pub loop-count-preserved : goal.loop-count-preserved
loop-count-preserved g c = record {
  within = search (rules, places, c.in-Ok.ensures.fits);
  front = Grows-next _ _ _ c.args.bytes.now c.loop-count.count c.in-Ok.n c.loop-count.invariant.front
      c.in-Ok.ensures.bytes;
  never_falls = omega (arith, c.in-Ok.ensures.never_falls);
  writes = omega (arith, c.in-Ok.ensures.one_call, c.in-Ok.ensures.some);
}
