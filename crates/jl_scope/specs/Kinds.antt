-- What can be wrong with a program, and which of several such things comes first.
use Rattle.std.specs.Prelude.{Bool, true, false, ◌&&◌, ◌||◌, List, [], ◌∷◌, Option, None, Some, nat_eq, nat_lt}
use Rattle.std.specs.Prelude.{if◌then◌else◌}
use Rattle.jl_text.specs.declared.span.Span.{Span}
use Rattle.jl_ast.specs.Tree.{Text}
use Rattle.jl_scope.specs.declared.rules.EarlyRule.{EarlyRule}
use Rattle.jl_scope.specs.Rules.{rule_number}

pub data EarlyError : Type 0 where
  -- an early rule is broken
  early : EarlyRule → Span → EarlyError
  -- a name of the global object that scripts here don't have is mentioned, and nothing binds it
  left_out : Text → Span → EarlyError
  -- the name of the object with the hooks is an identifier or a label
  reserved_name : Span → EarlyError

-- Early rules come before left-out names, and these before the name of the hooks. Within a kind the place decides,
-- which is where the part begins, and then the number of the rule.
abbrev pub comes_before : EarlyError → EarlyError → Bool
comes_before (early r s) (early q t) =
    nat_lt s.from t.from || (nat_eq s.from t.from && nat_lt (rule_number r) (rule_number q))
comes_before (early r s) (left_out y t) = true
comes_before (early r s) (reserved_name t) = true
comes_before (left_out x s) (early q t) = false
comes_before (left_out x s) (left_out y t) = nat_lt s.from t.from
comes_before (left_out x s) (reserved_name t) = true
comes_before (reserved_name s) (early q t) = false
comes_before (reserved_name s) (left_out y t) = false
comes_before (reserved_name s) (reserved_name t) = nat_lt s.from t.from

-- the one that comes first of one that was found, if any was, and another; the found one where neither comes before
abbrev pub sooner : Option EarlyError → EarlyError → Option EarlyError
sooner None b = Some b
sooner (Some a) b = if comes_before b a then Some b else Some a

-- the one that comes first of one that was found, if any was, and those of a list
abbrev pub first_from : Option EarlyError → List EarlyError → Option EarlyError
first_from a [] = a
first_from a (b ∷ l) = first_from (sooner a b) l

-- the first early error of a list, and the earliest in the list where several could be
abbrev pub first : List EarlyError → Option EarlyError
first l = first_from None l
