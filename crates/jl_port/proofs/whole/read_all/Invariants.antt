use Rattle.std.proofs.Common.{◌+◌, ◌-◌, ◌≤◌, vec_len}
use Rattle.jl_port.specs.Bytes.{Takes}
use Rattle.jl_port.proofs.whole.read_all.Given as goal

abbrev pub invariant-loop-buffer : goal.invariant-loop-buffer
invariant-loop-buffer g l = record {
  within : vec_len l.bytes ≤ l.limit + 1;
  taken : Takes (g.S.Source.left l.initial.source) (g.S.Source.left l.source) l.bytes.items;
  never_falls : g.S.Source.faults l.initial.source ≤ g.S.Source.faults l.source;
  reads : g.S.Source.calls l.source ≤ g.S.Source.calls l.initial.source + vec_len l.bytes;
}

abbrev pub decreases-loop-buffer : goal.decreases-loop-buffer
decreases-loop-buffer g l = l.limit + 1 - vec_len l.bytes
