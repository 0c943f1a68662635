use Rattle.std.proofs.Common.{◌≡◌, drop}
use Rattle.jl_ast.specs.View.{view_functions}
use Rattle.jl_scope.specs.Hoisting.{function_names}
use Rattle.jl_scope.specs.Names.{among, arguments_name}
use Rattle.jl_scope.proofs.mentions.declares_arguments.Given as goal

abbrev pub invariant-loop-f : goal.invariant-loop-f
invariant-loop-f l =
    among arguments_name (function_names (view_functions (drop l.f-index l.functions)))
    ≡ among arguments_name (function_names (view_functions l.functions))
