use Rattle.std.proofs.Common.{◌≡◌, ◌++◌, All, drop, take}
use Rattle.jl_srcmap.specs.Laws.{IsSmall}
use Rattle.jl_srcmap.specs.Written.{following, mappings_text}
use Rattle.jl_srcmap.specs.inner.Reading.{kept}
use Rattle.jl_srcmap.proofs.write.write_mappings.Given as goal

abbrev pub invariant-loop-segment : goal.invariant-loop-segment
invariant-loop-segment l = record {
  written : mappings_text l.segments ≡ l.text.items ++ following (kept l.running) (drop l.segment-index l.others);
  small : All IsSmall (take l.segment-index l.others);
}
