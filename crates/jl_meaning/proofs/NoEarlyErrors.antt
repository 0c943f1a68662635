-- What follows where a script has no early errors.
use Rattle.std.proofs.Common.{◌≡◌, List, [], ◌∷◌, ◌++◌, Bool, true, false, refl}
use Rattle.std.specs.Prelude.{if◌then◌else◌}
use Rattle.jl_text.specs.declared.span.Span.{Span}
use Rattle.jl_ast.specs.Tree.{Text}
use Rattle.jl_scope.specs.EarlyErrors.{for_in_early_errors, identifier_early_errors, read_early_errors}
use Rattle.jl_scope.specs.EarlyErrors.{target_early_errors, written_early_errors}
use Rattle.jl_scope.specs.Scope.{Scope}
use Rattle.jl_meaning.specs.forms.Names.{is_hooks}

-- both lists are empty
pub none : {A : Type 0} (a b : List A) → (a ++ b) ≡ [] → (a ≡ []) × (b ≡ [])
none [] b e = (refl, e)
none (x ∷ a) b e = cc

pub is_false : {A : Type 0} (b : Bool) (x : A) → (if b then x ∷ [] else []) ≡ [] → b ≡ false
is_false true x e = cc
is_false false x e = refl

-- no name is that of the object with the hooks

module _ (s : Scope) (x : Text) (at : Span) where
  pub identifier : identifier_early_errors s x at ≡ [] → is_hooks x ≡ false
  unfolding identifier_early_errors
  identifier e = is_false (is_hooks x) _ (none _ _ e).1

  pub written : written_early_errors s x at ≡ [] → is_hooks x ≡ false
  unfolding written_early_errors
  written e = identifier (none _ _ e).1

  pub read : read_early_errors s x at ≡ [] → is_hooks x ≡ false
  unfolding read_early_errors
  read e = identifier (none _ _ e).1

  pub target : target_early_errors s x at ≡ [] → is_hooks x ≡ false
  unfolding target_early_errors
  target e = written (none _ _ e).1

  pub for_in : (is_var : Bool) → for_in_early_errors s is_var x at ≡ [] → is_hooks x ≡ false
  for_in true e = written e
  for_in false e = target e
