use Rattle.std.proofs.Common.{◌≤◌, ◌+◌, length, ◌++◌, take, arith}
use Rattle.std.proofs.lemmas.Grind.{common_steps}
use Rattle.jl_port.proofs.Told.{Takes-trans}
use Rattle.jl_port.proofs.whole.read_all.Goals as goal

pub returns-in_err-extend_from_slice-clause-lost : goal.returns-in_err-extend_from_slice-clause-lost
returns-in_err-extend_from_slice-clause-lost g c =
    let fits : c.in_ok-n.n ≤ length c.read.new.buf = c.in_ok-n.ensures.fits in
    let room : length c.read.new.buf + length c.loop-buffer.bytes.items ≤ c.args.limit + 1 =
    grind (arith, common_steps, c.read.auto.buf, c.loop-buffer.bytes.ok.0) in (
      c.loop-buffer.bytes.items ++ take c.in_ok-n.n c.read.new.buf,
      grind (arith, common_steps, fits, room),
      Takes-trans _ _ _ _ _ c.loop-buffer.invariant.taken c.in_ok-n.ensures.bytes,
    )
