use Rattle.std.proofs.Common.{◌≡◌, drop}
use Rattle.jl_meaning.specs.ArgumentsObject.{add_elements}
use Rattle.jl_store.specs.Changes.{HasNames}
use Rattle.jl_store.specs.inner.Arguments.{names_with}
use Rattle.jl_store.proofs.Loops.{Leaves}
use Rattle.jl_store.proofs.store.Store.add_elements.Given as goal

abbrev pub invariant-loop-index : goal.invariant-loop-index
invariant-loop-index l = record {
  left : Leaves (add_elements l.id 0 l.args) l.fn.self (add_elements l.id l.index (drop l.index l.args)) l.self;
  names : HasNames l.self l.id (names_with l.index);
  rest : l.self.environments ≡ l.fn.self.environments;
}
