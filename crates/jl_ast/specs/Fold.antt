-- A value that is made of a tree from its leaves up, as its height or the list of its functions.
use Rattle.jl_ast.specs.Tree.{Sort, Tree, Forest, OptionalTree, this, name, number, string, boolean, null, array}
use Rattle.jl_ast.specs.Tree.{object, function_expression, dot, index, call, new, unary, update, binary, and, or}
use Rattle.jl_ast.specs.Tree.{conditional, assign, comma, to_name, to_dot, to_index, hole, filled, value, getter}
use Rattle.jl_ast.specs.Tree.{setter, function, body, var, empty, expression, block, if_else, do_while, while, for}
use Rattle.jl_ast.specs.Tree.{for_in, continue, break, return, labelled, switch, throw, try, debugger, nothing}
use Rattle.jl_ast.specs.Tree.{init_expression, init_var, declarator, case, branch_of, catch, end, more, absent}
use Rattle.jl_ast.specs.Tree.{present}

-- what a node makes of the values of its parts, which are joined in the order of the text
pub record Fold (S M : Type 0) : Type 0 where
  -- the value of no parts
  pub none : M
  pub both : M → M → M
  pub at_node : {x : Sort} → Tree S x → M → M

module _ {S M : Type 0} (F : Fold S M) where
  open F use {none, both, at_node}

  abbrev mutual
    pub fold : {x : Sort} → Tree S x → M
    fold (this s) = at_node (this s) none
    fold (name a s) = at_node (name a s) none
    fold (number a s) = at_node (number a s) none
    fold (string a s) = at_node (string a s) none
    fold (boolean a s) = at_node (boolean a s) none
    fold (null s) = at_node (null s) none
    fold (array a s) = at_node (array a s) (fold_forest a)
    fold (object a s) = at_node (object a s) (fold_forest a)
    fold (function_expression a s) = at_node (function_expression a s) (fold a)
    fold (dot a b s) = at_node (dot a b s) (fold a)
    fold (index a b s) = at_node (index a b s) (both (fold a) (fold b))
    fold (call a b s) = at_node (call a b s) (both (fold a) (fold_forest b))
    fold (new a b s) = at_node (new a b s) (both (fold a) (fold_forest b))
    fold (unary a b s) = at_node (unary a b s) (fold b)
    fold (update up prefix a s) = at_node (update up prefix a s) (fold a)
    fold (binary a b c s) = at_node (binary a b c s) (both (fold b) (fold c))
    fold (and a b s) = at_node (and a b s) (both (fold a) (fold b))
    fold (or a b s) = at_node (or a b s) (both (fold a) (fold b))
    fold (conditional a b c s) = at_node (conditional a b c s) (both (both (fold a) (fold b)) (fold c))
    fold (assign a b c s) = at_node (assign a b c s) (both (fold b) (fold c))
    fold (comma a b s) = at_node (comma a b s) (both (fold a) (fold b))
    fold (to_name a) = at_node (to_name a) none
    fold (to_dot a b s) = at_node (to_dot a b s) (fold a)
    fold (to_index a b s) = at_node (to_index a b s) (both (fold a) (fold b))
    fold hole = at_node hole none
    fold (filled a) = at_node (filled a) (fold a)
    fold (value a b) = at_node (value a b) (fold b)
    fold (getter a b) = at_node (getter a b) (fold b)
    fold (setter a b) = at_node (setter a b) (fold b)
    fold (function m a params b s) = at_node (function m a params b s) (fold b)
    fold (body strict a b) = at_node (body strict a b) (both (fold_forest a) (fold_forest b))
    fold (var a s) = at_node (var a s) (fold_forest a)
    fold (empty s) = at_node (empty s) none
    fold (expression a s) = at_node (expression a s) (fold a)
    fold (block a s) = at_node (block a s) (fold_forest a)
    fold (if_else a b c s) = at_node (if_else a b c s) (both (both (fold a) (fold_forest b)) (fold_optional c))
    fold (do_while a b s) = at_node (do_while a b s) (both (fold_forest a) (fold b))
    fold (while a b s) = at_node (while a b s) (both (fold a) (fold_forest b))
    fold (for a b c d s) = at_node (for a b c d s)
        (both (both (both (fold a) (fold_optional b)) (fold_optional c)) (fold_forest d))
    fold (for_in is_var a b c s) = at_node (for_in is_var a b c s) (both (fold b) (fold_forest c))
    fold (continue a s) = at_node (continue a s) none
    fold (break a s) = at_node (break a s) none
    fold (return a s) = at_node (return a s) (fold_optional a)
    fold (labelled a b s) = at_node (labelled a b s) (fold b)
    fold (switch a b s) = at_node (switch a b s) (both (fold a) (fold_forest b))
    fold (throw a s) = at_node (throw a s) (fold a)
    fold (try a b c s) = at_node (try a b c s) (both (both (fold_forest a) (fold_optional b)) (fold_optional c))
    fold (debugger s) = at_node (debugger s) none
    fold nothing = at_node nothing none
    fold (init_expression a) = at_node (init_expression a) (fold a)
    fold (init_var a) = at_node (init_var a) (fold_forest a)
    fold (declarator a b) = at_node (declarator a b) (fold_optional b)
    fold (case a b) = at_node (case a b) (both (fold_optional a) (fold_forest b))
    fold (branch_of a) = at_node (branch_of a) (fold_forest a)
    fold (catch a b) = at_node (catch a b) (fold_forest b)

    pub fold_forest : {x : Sort} → Forest S x → M
    fold_forest end = none
    fold_forest (more a b) = both (fold a) (fold_forest b)

    pub fold_optional : {x : Sort} → OptionalTree S x → M
    fold_optional absent = none
    fold_optional (present a) = fold a
