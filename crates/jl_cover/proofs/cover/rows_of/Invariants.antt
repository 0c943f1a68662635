use Rattle.std.proofs.Common.{◌≡◌, ◌≤◌, take}
use Rattle.jl_cover.specs.Coverage.{row_count}
use Rattle.jl_cover.proofs.cover.rows_of.Given as goal

abbrev pub invariant-loop-before : goal.invariant-loop-before
invariant-loop-before l = record {
  counted : l.count ≡ row_count (take l.before l.map) l.kind;
  bounded : l.count ≤ l.before;
}
