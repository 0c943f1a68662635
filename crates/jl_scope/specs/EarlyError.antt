-- The first thing that is wrong with a program.
pub use Rattle.jl_scope.specs.Kinds.{EarlyError, early, left_out, reserved_name}
use Rattle.std.specs.Prelude.{◌≡◌, Option, None, Some, Result, Ok, Err}
use Rattle.jl_text.specs.declared.span.Span.{Span}
use Rattle.jl_ast.specs.Tree.{Program}
use Rattle.jl_scope.specs.declared.refusal.ScopeRefusal.{ScopeRefusal}
use Rattle.jl_scope.specs.declared.refusal.ScopeRefusal.TheVariants as refusals
use Rattle.jl_scope.specs.Kinds.{first}
use Rattle.jl_scope.specs.EarlyErrors.{early_errors_of}

-- the first thing that is wrong with a program, if anything is
abbrev pub first_early_error : Program Span → Option EarlyError
first_early_error p = first (early_errors_of p)

-- what `check` answers
abbrev pub Tells : Result (Unit {0}) ScopeRefusal → Option EarlyError → Type 0
Tells (Ok _) early_error = early_error ≡ None
Tells (Err (refusals.Early rule span)) early_error = early_error ≡ Some (early rule span)
Tells (Err (refusals.LeftOut name span)) early_error = early_error ≡ Some (left_out name span)
Tells (Err (refusals.ReservedName span)) early_error = early_error ≡ Some (reserved_name span)
Tells (Err refusals.NoMemory) early_error = Unit {0}
