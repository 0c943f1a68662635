use Rattle.std.proofs.Common.{◌≡◌, ◌≤◌, take}
use Rattle.jl_cover.specs.Coverage.{covered_count}
use Rattle.jl_cover.specs.inner.Observed.{lacks_by}
use Rattle.jl_cover.proofs.cover.Cover.covered.Given as goal

abbrev pub invariant-loop-before : goal.invariant-loop-before
invariant-loop-before l = record {
  counted : l.count ≡ covered_count (take l.before l.map) (lacks_by l.self) l.kind;
  bounded : l.count ≤ l.before;
}
