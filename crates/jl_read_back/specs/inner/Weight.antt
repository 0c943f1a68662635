-- How many units a tree was read of, at least. A name, a key and a string count what they are long. A form counts one
-- for its own tokens, where it has any; but `++` and `--`, and what computes and assigns, count two, and a function
-- four: the brackets round its parameters and its body. `heavy` is what a number that is no unit counts more
-- (`specs/inner/Bytes`).
use Rattle.std.specs.Prelude.{ℕ, ◌+◌, ◌-◌, max, Bool, true, false, List, [], ◌∷◌, Option, Some, None}
use Rattle.jl_ast.specs.declared.ops.BinOp.{BinOp}
use Rattle.jl_ast.specs.Tree.{Ident, Sort, Text, Tree, Forest, OptionalTree, name, string, function_expression, dot}
use Rattle.jl_ast.specs.Tree.{update, assign, to_name, to_dot, filled, value, getter, setter, function, body}
use Rattle.jl_ast.specs.Tree.{expression, for_in, continue, break, labelled, nothing, init_expression, declarator}
use Rattle.jl_ast.specs.Tree.{catch}
use Rattle.jl_ast.specs.Fold.{Fold, fold, fold_forest, fold_optional}
use Rattle.jl_read_back.specs.inner.Bytes.{text_weight}

-- `=`, and an operator before it
abbrev pub assigning_weight : Option BinOp → ℕ
assigning_weight None = 1
assigning_weight (Some o) = 2

-- a body is strict by a directive of its own
abbrev pub directive_weight : Bool → ℕ
directive_weight true = 1
directive_weight false = 0

module _ (heavy : ℕ) where
  -- a name has a unit at least, and so has a string, with its quotes
  abbrev pub name_weight : Text → ℕ
  name_weight t = max 1 (text_weight heavy t)

  -- a key that is a number may have sixteen digits, and be written in one unit
  abbrev pub key_weight : Text → ℕ
  key_weight t = 1 + (text_weight heavy t - 16)

  abbrev pub optional_name_weight : {S : Type 0} → Option (Ident S) → ℕ
  optional_name_weight None = 0
  optional_name_weight (Some x) = name_weight x.text

  abbrev pub names_weight : {S : Type 0} → List (Ident S) → ℕ
  names_weight [] = 0
  names_weight (x ∷ xs) = name_weight x.text + names_weight xs

  -- a part with the weight of its own parts
  abbrev pub weight_with : {S : Type 0} {x : Sort} → Tree S x → ℕ → ℕ
  weight_with (name a s) n = name_weight a
  weight_with (string a s) n = name_weight a
  weight_with (function_expression a s) n = n
  weight_with (dot a b s) n = n + name_weight b + 1
  weight_with (update up prefix a s) n = n + 2
  weight_with (assign a b c s) n = n + assigning_weight a
  weight_with (to_name a) n = name_weight a.text
  weight_with (to_dot a b s) n = n + name_weight b + 1
  weight_with (filled a) n = n
  weight_with (value a b) n = key_weight a.text + n + 1
  weight_with (getter a b) n = key_weight a.text + n + 1
  weight_with (setter a b) n = key_weight a.text + n + 1
  weight_with (function m a params b s) n = optional_name_weight a + names_weight params + n + 4
  weight_with (body strict a b) n = directive_weight strict + n
  weight_with (expression a s) n = n
  weight_with (for_in is_var a b c s) n = name_weight a.text + n + 1
  weight_with (continue a s) n = optional_name_weight a + 1
  weight_with (break a s) n = optional_name_weight a + 1
  weight_with (labelled a b s) n = name_weight a.text + n + 1
  weight_with nothing n = 0
  weight_with (init_expression a) n = n
  weight_with (declarator a b) n = name_weight a.text + n
  weight_with (catch a b) n = name_weight a.text + n + 1
  weight_with t n = n + 1

  abbrev pub tree_weights : {S : Type 0} → Fold S ℕ
  tree_weights = record { none = 0; both = λ m n. m + n; at_node = weight_with }

  abbrev pub weight : {S : Type 0} {x : Sort} → Tree S x → ℕ
  weight t = fold tree_weights t

  abbrev pub weights : {S : Type 0} {x : Sort} → Forest S x → ℕ
  weights t = fold_forest tree_weights t

  abbrev pub optional_weight : {S : Type 0} {x : Sort} → OptionalTree S x → ℕ
  optional_weight t = fold_optional tree_weights t
