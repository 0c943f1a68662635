use Rattle.std.proofs.Common.{◌≡◌, if◌then◌else◌, take}
use Rattle.jl_analysis.specs.Chosen.{is_chosen}
use Rattle.jl_analysis.specs.contracts.crowd.CrowdFindings.TheImpl.{ghosts}
use Rattle.jl_report.specs.inner.Collected.{number_in, HasHits, AreOfRules}
use Rattle.jl_report.specs.Reports.{Key, saturate_u64, found_at}
use Rattle.jl_report.proofs.reports.report_at.Given as goal

abbrev pub invariant-loop-place : goal.invariant-loop-place
invariant-loop-place g l = record {
  some : HasHits l.hits;
  rules : AreOfRules l.hits;
  numbers : (k : Key) → number_in l.hits k
      ≡ (if is_chosen l.chosen k.2
      then saturate_u64 (found_at l.places (take l.place ((ghosts g.dyn-1).findings l.fn.crowd)) k.2 (k.0, k.1))
      else 0);
}
