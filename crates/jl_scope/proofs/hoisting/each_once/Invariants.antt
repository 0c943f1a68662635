use Rattle.std.proofs.Common.{◌≡◌, [], drop, map}
use Rattle.jl_scope.specs.Names.{with_names}
use Rattle.jl_scope.specs.NameSets.{SameNames}
use Rattle.jl_scope.proofs.hoisting.each_once.Given as goal

abbrev pub invariant-loop-name : goal.invariant-loop-name
invariant-loop-name l = record {
  same : SameNames l.seen l.texts.items;
  rest : with_names l.texts.items (map (λ n. n.now) (drop l.name-index l.names))
      ≡ with_names [] (map (λ n. n.now) l.names);
}
