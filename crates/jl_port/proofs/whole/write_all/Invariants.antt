use Rattle.std.proofs.Common.{length, ◌-◌, ◌+◌, ◌≤◌, take}
use Rattle.jl_port.specs.Bytes.{Grows}
use Rattle.jl_port.proofs.whole.write_all.Given as goal

abbrev pub invariant-loop-count : goal.invariant-loop-count
invariant-loop-count g l = record {
  within : l.count ≤ length l.bytes;
  front : Grows (g.K.Sink.written l.initial.sink) (g.K.Sink.written l.sink) (take l.count l.bytes);
  never_falls : g.K.Sink.faults l.initial.sink ≤ g.K.Sink.faults l.sink;
  writes : g.K.Sink.calls l.sink ≤ g.K.Sink.calls l.initial.sink + l.count;
}

abbrev pub decreases-loop-count : goal.decreases-loop-count
decreases-loop-count g l = length l.bytes - l.count
