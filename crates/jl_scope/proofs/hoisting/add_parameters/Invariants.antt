use Rattle.std.proofs.Common.{◌≡◌, ◌++◌, drop, map}
use Rattle.jl_ast.specs.View.{view_ident}
use Rattle.jl_scope.proofs.hoisting.add_parameters.Given as goal

abbrev pub invariant-loop-p : goal.invariant-loop-p
invariant-loop-p l =
    map (λ n. n.now) l.names.items ++ map (λ x. x.text) (map view_ident (drop l.p-index l.params))
    ≡ map (λ n. n.now) l.initial.names.items ++ map (λ x. x.text) (map view_ident l.params)
