-- What a set of names keeps of a list of them.
use Rattle.std.specs.Prelude.{◌≡◌, List}
use Rattle.jl_ast.specs.Tree.{Text}
use Rattle.jl_scope.specs.Names.{among}
use Rattle.jl_scope.specs.EarlyErrors.{Keys}

-- the same names are in both lists
abbrev pub SameNames : List Text → List Text → Type 0
SameNames a b = (x : Text) → among x a ≡ among x b

-- the same keys of each kind
pub record SameKeys (a b : Keys) : Type 0 where
  pub values : SameNames a.values b.values
  pub getters : SameNames a.getters b.getters
  pub setters : SameNames a.setters b.setters
