-- The same tree with its places renamed, and without places.
use Rattle.std.specs.Prelude.{map, option_map}
use Rattle.jl_ast.specs.Tree.{Ident, Program, Sort, expr, Tree, Forest, OptionalTree, this, name}
use Rattle.jl_ast.specs.Tree.{number}
use Rattle.jl_ast.specs.Tree.{string, boolean, null, array, object, function_expression, dot, index, call, new}
use Rattle.jl_ast.specs.Tree.{unary, update, binary, and, or, conditional, assign, comma, to_name, to_dot, to_index}
use Rattle.jl_ast.specs.Tree.{hole, filled, value, getter, setter, function, body, var, empty, expression, block}
use Rattle.jl_ast.specs.Tree.{if_else, do_while, while, for, for_in, continue, break, return, labelled, switch, throw}
use Rattle.jl_ast.specs.Tree.{try, debugger, nothing, init_expression, init_var, declarator, case, branch_of, catch}
use Rattle.jl_ast.specs.Tree.{end, more, absent, present}

abbrev pub ident : {S T : Type 0} → (S → T) → Ident S → Ident T
ident f x = record { text = x.text; at = f x.at }

module _ {S T : Type 0} (f : S → T) where
  abbrev mutual
    pub map_tree : {x : Sort} → Tree S x → Tree T x
    map_tree (this s) = this (f s)
    map_tree (name a s) = name a (f s)
    map_tree (number a s) = number a (f s)
    map_tree (string a s) = string a (f s)
    map_tree (boolean a s) = boolean a (f s)
    map_tree (null s) = null (f s)
    map_tree (array a s) = array (map_forest a) (f s)
    map_tree (object a s) = object (map_forest a) (f s)
    map_tree (function_expression a s) = function_expression (map_tree a) (f s)
    map_tree (dot a b s) = dot (map_tree a) b (f s)
    map_tree (index a b s) = index (map_tree a) (map_tree b) (f s)
    map_tree (call a b s) = call (map_tree a) (map_forest b) (f s)
    map_tree (new a b s) = new (map_tree a) (map_forest b) (f s)
    map_tree (unary a b s) = unary a (map_tree b) (f s)
    map_tree (update up prefix a s) = update up prefix (map_tree a) (f s)
    map_tree (binary a b c s) = binary a (map_tree b) (map_tree c) (f s)
    map_tree (and a b s) = and (map_tree a) (map_tree b) (f s)
    map_tree (or a b s) = or (map_tree a) (map_tree b) (f s)
    map_tree (conditional a b c s) = conditional (map_tree a) (map_tree b) (map_tree c) (f s)
    map_tree (assign a b c s) = assign a (map_tree b) (map_tree c) (f s)
    map_tree (comma a b s) = comma (map_tree a) (map_tree b) (f s)
    map_tree (to_name a) = to_name (ident f a)
    map_tree (to_dot a b s) = to_dot (map_tree a) b (f s)
    map_tree (to_index a b s) = to_index (map_tree a) (map_tree b) (f s)
    map_tree hole = hole
    map_tree (filled a) = filled (map_tree a)
    map_tree (value a b) = value (ident f a) (map_tree b)
    map_tree (getter a b) = getter (ident f a) (map_tree b)
    map_tree (setter a b) = setter (ident f a) (map_tree b)
    map_tree (function m a params b s) = function m (option_map (ident f) a) (map (ident f) params) (map_tree b) (f s)
    map_tree (body strict a b) = body strict (map_forest a) (map_forest b)
    map_tree (var a s) = var (map_forest a) (f s)
    map_tree (empty s) = empty (f s)
    map_tree (expression a s) = expression (map_tree a) (f s)
    map_tree (block a s) = block (map_forest a) (f s)
    map_tree (if_else a b c s) = if_else (map_tree a) (map_forest b) (map_optional c) (f s)
    map_tree (do_while a b s) = do_while (map_forest a) (map_tree b) (f s)
    map_tree (while a b s) = while (map_tree a) (map_forest b) (f s)
    map_tree (for a b c d s) = for (map_tree a) (map_optional b) (map_optional c) (map_forest d) (f s)
    map_tree (for_in is_var a b c s) = for_in is_var (ident f a) (map_tree b) (map_forest c) (f s)
    map_tree (continue a s) = continue (option_map (ident f) a) (f s)
    map_tree (break a s) = break (option_map (ident f) a) (f s)
    map_tree (return a s) = return (map_optional a) (f s)
    map_tree (labelled a b s) = labelled (ident f a) (map_tree b) (f s)
    map_tree (switch a b s) = switch (map_tree a) (map_forest b) (f s)
    map_tree (throw a s) = throw (map_tree a) (f s)
    map_tree (try a b c s) = try (map_forest a) (map_optional b) (map_optional c) (f s)
    map_tree (debugger s) = debugger (f s)
    map_tree nothing = nothing
    map_tree (init_expression a) = init_expression (map_tree a)
    map_tree (init_var a) = init_var (map_forest a)
    map_tree (declarator a b) = declarator (ident f a) (map_optional b)
    map_tree (case a b) = case (map_optional a) (map_forest b)
    map_tree (branch_of a) = branch_of (map_forest a)
    map_tree (catch a b) = catch (ident f a) (map_forest b)

    pub map_forest : {x : Sort} → Forest S x → Forest T x
    map_forest end = end
    map_forest (more a b) = more (map_tree a) (map_forest b)

    pub map_optional : {x : Sort} → OptionalTree S x → OptionalTree T x
    map_optional absent = absent
    map_optional (present a) = present (map_tree a)

abbrev pub map_spans : {S T : Type 0} → (S → T) → Program S → Program T
map_spans f p = record { body = map_tree f p.body; at = f p.at }

-- a program without its places: programs that are equal up to spans have the same
abbrev pub without_spans : {S : Type 0} → Program S → Program (Unit {0})
without_spans p = map_spans (λ s. tt) p

abbrev pub tree_without_spans : {S : Type 0} {x : Sort} → Tree S x → Tree (Unit {0}) x
tree_without_spans t = map_tree (λ s. tt) t

-- where an expression stands
abbrev pub place : {S : Type 0} → Tree S expr → S
place (this s) = s
place (name a s) = s
place (number a s) = s
place (string a s) = s
place (boolean a s) = s
place (null s) = s
place (array a s) = s
place (object a s) = s
place (function_expression a s) = s
place (dot a b s) = s
place (index a b s) = s
place (call a b s) = s
place (new a b s) = s
place (unary a b s) = s
place (update up prefix a s) = s
place (binary a b c s) = s
place (and a b s) = s
place (or a b s) = s
place (conditional a b c s) = s
place (assign a b c s) = s
place (comma a b s) = s
