-- What a body declares and mentions doesn't depend on the places of its nodes.
use Rattle.std.proofs.Common.{◌≡◌, ◌||◌, [], ◌++◌, Option, Some, None, option_map, refl, ap, ap₂}
use Rattle.jl_ast.specs.Spans.{ident, map_forest, map_optional, map_tree}
use Rattle.jl_ast.specs.Tree.{absent, and, array, assign, binary, block, body, branch_of, call, case}
use Rattle.jl_ast.specs.Tree.{catch, comma, conditional, declarator, do_while, dot, end}
use Rattle.jl_ast.specs.Tree.{expression, filled, for, for_in, function}
use Rattle.jl_ast.specs.Tree.{if_else, index, init_expression, init_var, labelled, more, name, new}
use Rattle.jl_ast.specs.Tree.{object, or, present, return, switch, throw, to_dot}
use Rattle.jl_ast.specs.Tree.{to_index, to_name, try, unary, update, value, var, while, Forest, Ident, OptionalTree}
use Rattle.jl_ast.specs.Tree.{Sort, Tree}
use Rattle.jl_ast.specs.Tree.{code, func, Text}
use Rattle.jl_scope.specs.Hoisting.{declared_in, declared_in_forest, declared_in_optional, function_names, name_texts}
use Rattle.jl_scope.specs.Hoisting.{variables}
use Rattle.jl_scope.specs.Mentions.{forest_mentions, mentions, optional_mentions}
use Rattle.jl_scope.specs.Names.{among, with_names}

module _ {S T : Type 0} (f : S → T) where
  mutual
    declared_same : {x : Sort} (t : Tree S x) → declared_in (map_tree f t) ≡ declared_in t
    declared_same (body strict fs l) = declared_forest l
    declared_same (var l at) = declared_forest l
    declared_same (block l at) = declared_forest l
    declared_same (if_else c a b at) = ap₂ ◌++◌ (declared_forest a) (declared_optional b)
    declared_same (do_while l c at) = declared_forest l
    declared_same (while c l at) = declared_forest l
    declared_same (for i c u l at) = ap₂ ◌++◌ (declared_same i) (declared_forest l)
    declared_same (for_in is_var x o l at) = ap₂ ◌++◌ refl (declared_forest l)
    declared_same (labelled x t at) = declared_same t
    declared_same (switch e l at) = declared_forest l
    declared_same (try l h g at) = ap₂ ◌++◌ (ap₂ ◌++◌ (declared_forest l) (declared_optional h)) (declared_optional g)
    declared_same (init_var l) = declared_forest l
    declared_same (declarator x e) = refl
    declared_same (case e l) = declared_forest l
    declared_same (branch_of l) = declared_forest l
    declared_same (catch x l) = declared_forest l
    declared_same _ = refl

    declared_forest : {x : Sort} (l : Forest S x) → declared_in_forest (map_forest f l) ≡ declared_in_forest l
    declared_forest end = refl
    declared_forest (more t l) = ap₂ ◌++◌ (declared_same t) (declared_forest l)

    declared_optional : {x : Sort} (o : OptionalTree S x) → declared_in_optional (map_optional f o)
        ≡ declared_in_optional o
    declared_optional absent = refl
    declared_optional (present t) = declared_same t

  pub variables_same : (b : Tree S code) → variables (map_tree f b) ≡ variables b
  variables_same b = ap (with_names []) (declared_same b)

  texts_same : (x : Option (Ident S)) → name_texts (option_map (ident f) x) ≡ name_texts x
  texts_same None = refl
  texts_same (Some x) = refl

  names_same : (l : Forest S func) → function_names (map_forest f l) ≡ function_names l
  names_same end = refl
  names_same (more (function m x params b s) l) = ap₂ ◌++◌ (texts_same x) (names_same l)

  module _ (x : Text) where
    mutual
      pub mentions_same : {y : Sort} (t : Tree S y) → mentions x (map_tree f t) ≡ mentions x t
      mentions_same (name y at) = refl
      mentions_same (array l at) = mentions_forest l
      mentions_same (object l at) = mentions_forest l
      mentions_same (dot o k at) = mentions_same o
      mentions_same (index o k at) = ap₂ ◌||◌ (mentions_same o) (mentions_same k)
      mentions_same (call e l at) = ap₂ ◌||◌ (mentions_same e) (mentions_forest l)
      mentions_same (new e l at) = ap₂ ◌||◌ (mentions_same e) (mentions_forest l)
      mentions_same (unary o e at) = mentions_same e
      mentions_same (update up prefix t at) = mentions_same t
      mentions_same (binary o a b at) = ap₂ ◌||◌ (mentions_same a) (mentions_same b)
      mentions_same (and a b at) = ap₂ ◌||◌ (mentions_same a) (mentions_same b)
      mentions_same (or a b at) = ap₂ ◌||◌ (mentions_same a) (mentions_same b)
      mentions_same (conditional a b c at) = ap₂ ◌||◌ (ap₂ ◌||◌ (mentions_same a) (mentions_same b)) (mentions_same c)
      mentions_same (assign o t e at) = ap₂ ◌||◌ (mentions_same t) (mentions_same e)
      mentions_same (comma a b at) = ap₂ ◌||◌ (mentions_same a) (mentions_same b)
      mentions_same (to_name y) = refl
      mentions_same (to_dot o k at) = mentions_same o
      mentions_same (to_index o k at) = ap₂ ◌||◌ (mentions_same o) (mentions_same k)
      mentions_same (filled e) = mentions_same e
      mentions_same (value k e) = mentions_same e
      mentions_same (body strict fs l) = ap₂ ◌||◌ (ap (among x) (names_same fs)) (mentions_forest l)
      mentions_same (var l at) = mentions_forest l
      mentions_same (expression e at) = mentions_same e
      mentions_same (block l at) = mentions_forest l
      mentions_same (if_else c a b at) = ap₂ ◌||◌ (ap₂ ◌||◌ (mentions_same c) (mentions_forest a)) (mentions_optional b)
      mentions_same (do_while l c at) = ap₂ ◌||◌ (mentions_forest l) (mentions_same c)
      mentions_same (while c l at) = ap₂ ◌||◌ (mentions_same c) (mentions_forest l)
      mentions_same (for i c u l at) = ap₂ ◌||◌
          (ap₂ ◌||◌ (ap₂ ◌||◌ (mentions_same i) (mentions_optional c)) (mentions_optional u)) (mentions_forest l)
      mentions_same (for_in is_var y o l at) = ap₂ ◌||◌ (ap₂ ◌||◌ refl (mentions_same o)) (mentions_forest l)
      mentions_same (return e at) = mentions_optional e
      mentions_same (labelled y t at) = mentions_same t
      mentions_same (switch e l at) = ap₂ ◌||◌ (mentions_same e) (mentions_forest l)
      mentions_same (throw e at) = mentions_same e
      mentions_same (try l h g at) = ap₂ ◌||◌ (ap₂ ◌||◌ (mentions_forest l) (mentions_optional h)) (mentions_optional g)
      mentions_same (init_expression e) = mentions_same e
      mentions_same (init_var l) = mentions_forest l
      mentions_same (declarator y e) = ap₂ ◌||◌ refl (mentions_optional e)
      mentions_same (case e l) = ap₂ ◌||◌ (mentions_optional e) (mentions_forest l)
      mentions_same (branch_of l) = mentions_forest l
      mentions_same (catch y l) = ap₂ ◌||◌ refl (mentions_forest l)
      mentions_same _ = refl

      mentions_forest : {y : Sort} (l : Forest S y) → forest_mentions x (map_forest f l) ≡ forest_mentions x l
      mentions_forest end = refl
      mentions_forest (more t l) = ap₂ ◌||◌ (mentions_same t) (mentions_forest l)

      mentions_optional : {y : Sort} (o : OptionalTree S y) → optional_mentions x (map_optional f o)
          ≡ optional_mentions x o
      mentions_optional absent = refl
      mentions_optional (present t) = mentions_same t
