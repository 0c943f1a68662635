use Rattle.std.proofs.Common.{◌≡◌, ◌++◌, drop, map}
use Rattle.jl_ast.specs.View.{view_ident}
use Rattle.jl_print.specs.CanonicalTokens.{further_names}
use Rattle.jl_print.proofs.name_lists.add_further_names.Given as goal

abbrev pub invariant-loop-name : goal.invariant-loop-name
invariant-loop-name l =
    l.out ++ further_names (map view_ident (drop l.name-index l.names))
    ≡ l.initial.out ++ further_names (map view_ident l.names)
