use Rattle.std.proofs.Common.{◌≡◌, drop, map}
use Rattle.jl_scope.specs.Scope.{bind}
use Rattle.jl_scope.proofs.scope.bind.Given as goal

abbrev pub invariant-loop-name : goal.invariant-loop-name
invariant-loop-name l =
    bind (map (λ n. n.now) l.all.items) (map (λ n. n.now) (drop l.name-index l.names))
    ≡ bind (map (λ n. n.now) l.bound) (map (λ n. n.now) l.names)
