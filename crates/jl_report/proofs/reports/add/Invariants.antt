use Rattle.std.proofs.Common.{◌≡◌, ◌+◌, ◌==◌, if◌then◌else◌, take}
use Rattle.jl_report.specs.inner.Collected.{number_in, HasHits, AreOfRules}
use Rattle.jl_report.specs.Reports.{Key, saturate_u64, total_at}
use Rattle.jl_report.proofs.reports.add.Given as goal

abbrev pub invariant-loop-id : goal.invariant-loop-id
invariant-loop-id l = record {
  some : HasHits l.hits;
  rules : AreOfRules l.hits;
  numbers : (k : Key) → number_in l.hits k
      ≡ saturate_u64 (number_in l.fn.hits k
      + (if l.rule == k.2 then total_at l.places (take l.id-index l.found) (k.0, k.1) else 0));
}
