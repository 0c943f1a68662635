use Rattle.std.proofs.Common.{drop, map}
use Rattle.jl_ast.specs.declared.tree.Ident.{Ident}
use Rattle.jl_meaning.specs.DeclarationBinding.{bind_parameters}
use Rattle.jl_store.proofs.Loops.{Leaves}
use Rattle.jl_store.proofs.store.Store.bind_parameters.Given as goal

abbrev pub invariant-loop-param : goal.invariant-loop-param
invariant-loop-param l =
    Leaves (bind_parameters l.env (map (λ (x : Ident). x.text) l.params) l.fn.args) l.fn.self
    (bind_parameters l.env (map (λ (x : Ident). x.text) (drop l.param-index l.params)) l.rest) l.self
