-- The row of an operation in the map of a script.
use Rattle.std.specs.Prelude.{◌≡◌, ◌+◌, slice_get, Some, ℕ}
use Rattle.jl_ast.specs.Tree.{Program}
use Rattle.jl_op.specs.IdMap.{id_map}
use Rattle.jl_op.specs.Kinds.{kind_of}
use Rattle.jl_op.specs.Operations.{Operation}

-- The map of the program has a row for the operation: the one that its id names, of which the first has the id 1. The
-- row is of the operation's kind, and says where it stands.
pub record HasRow {S : Type 0} (p : Program S) (o : Operation) : Type 0 where
  pub before : ℕ
  pub place : S
  pub id : o.0.0 ≡ before + 1
  pub row : slice_get (id_map p) before ≡ Some (kind_of o.1, place)
