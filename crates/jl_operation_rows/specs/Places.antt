-- The rows and the nodes of operations, in two programs that are the same but for their places.
use Rattle.std.specs.Prelude.{◌≡◌, ◌+◌, length, slice_get, List, Some, ℕ}
use Rattle.jl_ast.specs.Tree.{Program}
use Rattle.jl_op.specs.IdMap.{id_map, operation_ids}
use Rattle.jl_op.specs.Kinds.{kind_of}
use Rattle.jl_op.specs.Operations.{Operation}

-- the lists are as long, and what stands at the same index is related
pub record OneByOne {X Y : Type 0} (IsRelated : X → Y → Type 0) (l : List X) (m : List Y) : Type 0 where
  pub as_many : length m ≡ length l
  pub each : (k : ℕ) (x : X) (y : Y) → slice_get l k ≡ Some x → slice_get m k ≡ Some y → IsRelated x y

-- One operation, as two runs perform it, each with the number that its own program has for it: both numbers stand in
-- the same row, and that row is of the operation's kind.
pub record SameRow (p q : Program ℕ) (a b : Operation) : Type 0 where
  pub operation : b.1 ≡ a.1
  pub row : ℕ
  pub first : slice_get (operation_ids p) row ≡ Some (kind_of a.1, a.0.0)
  pub second : slice_get (operation_ids q) row ≡ Some (kind_of a.1, b.0.0)

-- Which operation it is: the first, the second or the third that a node does, or the test of an expression, by which a
-- node decides.
pub data Origin (S : Type 0) : Type 0 where
  first_of : (node : S) → Origin S
  second_of : (node : S) → Origin S
  third_of : (node : S) → Origin S
  test_of : (node tested : S) → Origin S

-- the place that the map shows: that of the node, and of a test that of the tested expression
abbrev pub shown : {S : Type 0} → Origin S → S
shown (first_of node) = node
shown (second_of node) = node
shown (third_of node) = node
shown (test_of node tested) = tested

-- the number of the operation, which is counted from the number of its node
abbrev pub counted_from : {S : Type 0} → (number : S → ℕ) → Origin S → ℕ
counted_from number (first_of node) = number node
counted_from number (second_of node) = number node + 1
counted_from number (third_of node) = number node + 2
counted_from number (test_of node tested) = number node

-- One operation, as it is performed with its id, and as it is performed where each node has this number as its place:
-- the row that its id names, of which the first has the id 1, is of its kind and shows the node that performs it.
pub record PerformedAt {S : Type 0} (p : Program S) (number : S → ℕ) (a b : Operation) : Type 0 where
  pub operation : b.1 ≡ a.1
  pub before : ℕ
  pub origin : Origin S
  pub id : a.0.0 ≡ before + 1
  pub row : slice_get (id_map p) before ≡ Some (kind_of a.1, shown origin)
  pub counted : b.0.0 ≡ counted_from number origin
