use Rattle.std.proofs.Common.{drop}
use Rattle.std.specs.List.{flat_map, list_all}
use Rattle.std.specs.Prelude.{IsTrue}
use Rattle.jl_realm.specs.inner.Steps.{after_all, changes_of, step_fits}
use Rattle.jl_realm.proofs.Taken.{Left}
use Rattle.jl_realm.proofs.initial.take_all.Given as goal

abbrev pub invariant-loop-step : goal.invariant-loop-step
invariant-loop-step l = record {
  fit : IsTrue (list_all step_fits (drop l.step-index l.steps));
  left :
      Left (changes_of l.builtins) (after_all (flat_map (changes_of l.builtins) l.steps) l.fn.store)
      (drop l.step-index l.steps) l.store;
}
