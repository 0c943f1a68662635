-- Whether a name is mentioned: as an expression, as what is assigned to, in the head of a `for-in`, or where a
-- variable, a function or the parameter of a `catch` is declared. Keys, names after a dot and labels are no mentions,
-- and what functions hold is not looked at.
use Rattle.std.specs.Prelude.{Bool, false, ◌||◌}
use Rattle.jl_ast.specs.Tree.{Text, Sort, Tree, Forest, OptionalTree, name, array, object, dot, index, call, new, unary}
use Rattle.jl_ast.specs.Tree.{update, binary, and, or, conditional, assign, comma, to_name, to_dot, to_index, filled}
use Rattle.jl_ast.specs.Tree.{value, body, var, expression, block, if_else, do_while, while, for, for_in, return}
use Rattle.jl_ast.specs.Tree.{labelled, switch, throw, try, init_expression, init_var, declarator, case, branch_of}
use Rattle.jl_ast.specs.Tree.{catch, end, more, absent, present}
use Rattle.jl_scope.specs.Names.{same_text, among}
use Rattle.jl_scope.specs.Hoisting.{function_names}

abbrev mutual
  pub mentions : {S : Type 0} → Text → {x : Sort} → Tree S x → Bool
  mentions x (name y at) = same_text x y
  mentions x (array l at) = forest_mentions x l
  mentions x (object l at) = forest_mentions x l
  mentions x (dot o k at) = mentions x o
  mentions x (index o k at) = mentions x o || mentions x k
  mentions x (call f l at) = mentions x f || forest_mentions x l
  mentions x (new f l at) = mentions x f || forest_mentions x l
  mentions x (unary o e at) = mentions x e
  mentions x (update up prefix t at) = mentions x t
  mentions x (binary o a b at) = mentions x a || mentions x b
  mentions x (and a b at) = mentions x a || mentions x b
  mentions x (or a b at) = mentions x a || mentions x b
  mentions x (conditional a b c at) = mentions x a || mentions x b || mentions x c
  mentions x (assign o t e at) = mentions x t || mentions x e
  mentions x (comma a b at) = mentions x a || mentions x b
  mentions x (to_name y) = same_text x y.text
  mentions x (to_dot o k at) = mentions x o
  mentions x (to_index o k at) = mentions x o || mentions x k
  mentions x (filled e) = mentions x e
  mentions x (value k e) = mentions x e
  mentions x (body strict fs l) = among x (function_names fs) || forest_mentions x l
  mentions x (var l at) = forest_mentions x l
  mentions x (expression e at) = mentions x e
  mentions x (block l at) = forest_mentions x l
  mentions x (if_else c a b at) = mentions x c || forest_mentions x a || optional_mentions x b
  mentions x (do_while l c at) = forest_mentions x l || mentions x c
  mentions x (while c l at) = mentions x c || forest_mentions x l
  mentions x (for i c u l at) = mentions x i || optional_mentions x c || optional_mentions x u || forest_mentions x l
  mentions x (for_in is_var y o l at) = same_text x y.text || mentions x o || forest_mentions x l
  mentions x (return e at) = optional_mentions x e
  mentions x (labelled y t at) = mentions x t
  mentions x (switch e l at) = mentions x e || forest_mentions x l
  mentions x (throw e at) = mentions x e
  mentions x (try l h f at) = forest_mentions x l || optional_mentions x h || optional_mentions x f
  mentions x (init_expression e) = mentions x e
  mentions x (init_var l) = forest_mentions x l
  mentions x (declarator y e) = same_text x y.text || optional_mentions x e
  mentions x (case e l) = optional_mentions x e || forest_mentions x l
  mentions x (branch_of l) = forest_mentions x l
  mentions x (catch y l) = same_text x y.text || forest_mentions x l
  mentions x _ = false

  pub forest_mentions : {S : Type 0} → Text → {x : Sort} → Forest S x → Bool
  forest_mentions x end = false
  forest_mentions x (more t l) = mentions x t || forest_mentions x l

  pub optional_mentions : {S : Type 0} → Text → {x : Sort} → OptionalTree S x → Bool
  optional_mentions x absent = false
  optional_mentions x (present t) = mentions x t
