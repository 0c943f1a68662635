-- Steps of the proof: what the values of the code stand for. No public contract cites these.
use Rattle.std.specs.Prelude.{◌≡◌, List, ◌++◌, map}
use denote.Ref.{Bor}
use Rattle.jl_ast.specs.Tree.{Text}
use Rattle.jl_scope.specs.declared.found.Finding.{Finding}
use Rattle.jl_scope.specs.declared.found.Finding.TheVariants as finding
use Rattle.jl_scope.specs.declared.scope.Label.{Label}
use Rattle.jl_scope.specs.declared.scope.Scope.{Scope}
use Rattle.jl_scope.specs.Kinds.{EarlyError, early, left_out, reserved_name}
use Rattle.jl_scope.specs.declared.keys.Keys.{Keys}
use Rattle.jl_scope.specs.Scope as around
use Rattle.jl_scope.specs.EarlyErrors as literal

abbrev pub early_error_of : Finding → EarlyError
early_error_of (finding.Early rule at) = early rule at
early_error_of (finding.LeftOut x at) = left_out x.now at
early_error_of (finding.ReservedName at) = reserved_name at

abbrev pub label_of : Label → around.Label
label_of l = record { name = l.name.now; of_loop = l.of_loop }

abbrev pub scope_of : Scope → around.Scope
scope_of s = record {
  strict = s.strict;
  in_function = s.in_function;
  in_loop = s.in_loop;
  can_break = s.can_break;
  labels = map label_of s.labels.now;
  bound = map (λ n. n.now) s.bound.now;
}

abbrev pub keys_of : Keys → literal.Keys
keys_of keys = record { values = keys.values; getters = keys.getters; setters = keys.setters }

-- what a walk has found grows by these names, in their order
abbrev pub Adds : List Text → List (Bor Text) → List (Bor Text) → Type 0
Adds more old new = map (λ n. n.now) new ≡ map (λ n. n.now) old ++ more
