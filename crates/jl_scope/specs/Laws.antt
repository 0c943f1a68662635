-- What the definitions come to.
use Rattle.std.specs.Prelude.{◌≡◌, ◌⊎◌, ◌||◌, true, false, List, [], ◌∷◌, Option, None, Some}
use Rattle.jl_ast.specs.Tree.{Text}
use Rattle.jl_scope.specs.Kinds.{EarlyError, comes_before, first}
use Rattle.jl_scope.specs.Names.{among}
use Rattle.jl_scope.specs.Scope.{bind, is_left_out}

abbrev pub IsOneOf : EarlyError → List EarlyError → Type 0
IsOneOf b [] = ⊥
IsOneOf b (c ∷ l) = (b ≡ c) ⊎ IsOneOf b l

abbrev pub NoneComesBefore : EarlyError → List EarlyError → Type 0
NoneComesBefore b [] = Unit {0}
NoneComesBefore b (c ∷ l) = (comes_before c b ≡ false) × NoneComesBefore b l

abbrev pub IsFirst : List EarlyError → Option EarlyError → Type 0
IsFirst l None = l ≡ []
IsFirst l (Some b) = IsOneOf b l × NoneComesBefore b l

-- the first of a list is one of it, and none of it comes before
abbrev pub FirstComesFirst : Type 0
FirstComesFirst = (l : List EarlyError) → IsFirst l (first l)

-- a left-out name is bound where it was bound already, or is one of the names that are bound as well
abbrev pub BindBinds : Type 0
BindBinds = (bound names : List Text) (x : Text) → is_left_out x ≡ true →
    among x (bind bound names) ≡ (among x bound || among x names)
