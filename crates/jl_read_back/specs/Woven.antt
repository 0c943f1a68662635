-- Woven programs, wherever their nodes stand.
use Rattle.std.specs.Prelude.{◌≡◌}
use Rattle.jl_ast.specs.Spans.{without_spans}
use Rattle.jl_ast.specs.Tree.{Program}
use Rattle.jl_op.specs.Chosen.{Kinds}
use Rattle.jl_simulation.specs.Weaving.{woven_program}

-- q is the woven program of p, with places
abbrev pub IsWoven : {S T : Type 0} → Kinds → Program S → Program T → Type 0
IsWoven chosen p q = without_spans q ≡ woven_program chosen p
