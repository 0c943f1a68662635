-- What can be wrong with the woven script: the name of the hooks, and nothing else.
use Rattle.std.specs.Prelude.{◌≡◌, List, [], ◌∷◌, None, Option, Some}
use Rattle.jl_ast.specs.Tree.{Program}
use Rattle.jl_op.specs.Chosen.{Kinds}
use Rattle.jl_scope.specs.EarlyErrors.{early_errors_of}
use Rattle.jl_scope.specs.Kinds.{early, first, left_out, reserved_name, EarlyError}
use Rattle.jl_text.specs.declared.span.Span.{Span}
use Rattle.jl_read_back.specs.Woven.{IsWoven}

-- no rule is broken, and no left-out name is mentioned that nothing binds
pub data AreReservedNames : List EarlyError → Type 0 where
  none : AreReservedNames []
  one_more : {at : Span} {l : List EarlyError} → AreReservedNames l → AreReservedNames (reserved_name at ∷ l)

-- what is woven of a program without early errors
abbrev pub WovenKeepsRules : Type 0
WovenKeepsRules =
    (chosen : Kinds) (p q : Program Span) → early_errors_of p ≡ [] → IsWoven chosen p q
    → AreReservedNames (early_errors_of q)

-- nothing, or the name of the hooks
abbrev pub IsReservedName : Option EarlyError → Type 0
IsReservedName None = Unit {0}
IsReservedName (Some (early rule at)) = ⊥
IsReservedName (Some (left_out x at)) = ⊥
IsReservedName (Some (reserved_name at)) = Unit {0}

-- so what is found first, which is what `check` of jl_scope tells, is the name of the hooks, if anything is found
abbrev pub FirstIsReservedName : Type 0
FirstIsReservedName =
    (chosen : Kinds) (p q : Program Span) → early_errors_of p ≡ [] → IsWoven chosen p q
    → IsReservedName (first (early_errors_of q))
