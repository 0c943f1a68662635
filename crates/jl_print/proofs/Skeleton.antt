-- A tree without its places and with no numbers: what the printer writes of it.
use Rattle.std.proofs.Common.{◌≡◌, ℕ, ◌+◌, refl}
use Rattle.std.specs.Prelude.{map, option_map}
use Rattle.jl_ast.specs.Tree.{Sort, Tree, Forest, OptionalTree, Ident, this, name, number, string, boolean, null}
use Rattle.jl_ast.specs.Tree.{array, object, function_expression, dot, index, call, new, unary, update, binary, and}
use Rattle.jl_ast.specs.Tree.{or, conditional, assign, comma, to_name, to_dot, to_index, hole, filled, value}
use Rattle.jl_ast.specs.Tree.{getter, setter, function, body, var, empty, expression, block, if_else, do_while, while}
use Rattle.jl_ast.specs.Tree.{for, for_in, continue, break, return, labelled, switch, throw, try, debugger, nothing}
use Rattle.jl_ast.specs.Tree.{init_expression, init_var, declarator, case, branch_of, catch, end, more, absent}
use Rattle.jl_ast.specs.Tree.{present}
use Rattle.jl_ast.specs.Spans.{map_tree, map_forest, map_optional}
use Rattle.jl_ast.specs.Numbering.{functions_in, functions_in_forest, functions_in_optional, numbered_tree}
use Rattle.jl_ast.specs.Numbering.{numbered_forest}
use Rattle.jl_ast.specs.Numbering.{numbered_optional}

abbrev pub no_place : {S : Type 0} → S → Unit {0}
no_place s = tt

abbrev pub named : {S : Type 0} → Ident S → Ident (Unit {0})
named x = record { text = x.text; at = tt }

abbrev mutual
  pub skeleton : {S : Type 0} {x : Sort} → Tree S x → Tree (Unit {0}) x
  skeleton (this s) = this tt
  skeleton (name a s) = name a tt
  skeleton (number a s) = number a tt
  skeleton (string a s) = string a tt
  skeleton (boolean a s) = boolean a tt
  skeleton (null s) = null tt
  skeleton (array a s) = array (skeleton_forest a) tt
  skeleton (object a s) = object (skeleton_forest a) tt
  skeleton (function_expression a s) = function_expression (skeleton a) tt
  skeleton (dot a b s) = dot (skeleton a) b tt
  skeleton (index a b s) = index (skeleton a) (skeleton b) tt
  skeleton (call a b s) = call (skeleton a) (skeleton_forest b) tt
  skeleton (new a b s) = new (skeleton a) (skeleton_forest b) tt
  skeleton (unary a b s) = unary a (skeleton b) tt
  skeleton (update up prefix a s) = update up prefix (skeleton a) tt
  skeleton (binary a b c s) = binary a (skeleton b) (skeleton c) tt
  skeleton (and a b s) = and (skeleton a) (skeleton b) tt
  skeleton (or a b s) = or (skeleton a) (skeleton b) tt
  skeleton (conditional a b c s) = conditional (skeleton a) (skeleton b) (skeleton c) tt
  skeleton (assign a b c s) = assign a (skeleton b) (skeleton c) tt
  skeleton (comma a b s) = comma (skeleton a) (skeleton b) tt
  skeleton (to_name a) = to_name (named a)
  skeleton (to_dot a b s) = to_dot (skeleton a) b tt
  skeleton (to_index a b s) = to_index (skeleton a) (skeleton b) tt
  skeleton hole = hole
  skeleton (filled a) = filled (skeleton a)
  skeleton (value a b) = value (named a) (skeleton b)
  skeleton (getter a b) = getter (named a) (skeleton b)
  skeleton (setter a b) = setter (named a) (skeleton b)
  skeleton (function m a params b s) = function 0 (option_map named a) (map named params) (skeleton b) tt
  skeleton (body strict a b) = body strict (skeleton_forest a) (skeleton_forest b)
  skeleton (var a s) = var (skeleton_forest a) tt
  skeleton (empty s) = empty tt
  skeleton (expression a s) = expression (skeleton a) tt
  skeleton (block a s) = block (skeleton_forest a) tt
  skeleton (if_else a b c s) = if_else (skeleton a) (skeleton_forest b) (skeleton_optional c) tt
  skeleton (do_while a b s) = do_while (skeleton_forest a) (skeleton b) tt
  skeleton (while a b s) = while (skeleton a) (skeleton_forest b) tt
  skeleton (for a b c d s) = for (skeleton a) (skeleton_optional b) (skeleton_optional c) (skeleton_forest d) tt
  skeleton (for_in is_var a b c s) = for_in is_var (named a) (skeleton b) (skeleton_forest c) tt
  skeleton (continue a s) = continue (option_map named a) tt
  skeleton (break a s) = break (option_map named a) tt
  skeleton (return a s) = return (skeleton_optional a) tt
  skeleton (labelled a b s) = labelled (named a) (skeleton b) tt
  skeleton (switch a b s) = switch (skeleton a) (skeleton_forest b) tt
  skeleton (throw a s) = throw (skeleton a) tt
  skeleton (try a b c s) = try (skeleton_forest a) (skeleton_optional b) (skeleton_optional c) tt
  skeleton (debugger s) = debugger tt
  skeleton nothing = nothing
  skeleton (init_expression a) = init_expression (skeleton a)
  skeleton (init_var a) = init_var (skeleton_forest a)
  skeleton (declarator a b) = declarator (named a) (skeleton_optional b)
  skeleton (case a b) = case (skeleton_optional a) (skeleton_forest b)
  skeleton (branch_of a) = branch_of (skeleton_forest a)
  skeleton (catch a b) = catch (named a) (skeleton_forest b)

  pub skeleton_forest : {S : Type 0} {x : Sort} → Forest S x → Forest (Unit {0}) x
  skeleton_forest end = end
  skeleton_forest (more a b) = more (skeleton a) (skeleton_forest b)

  pub skeleton_optional : {S : Type 0} {x : Sort} → OptionalTree S x → OptionalTree (Unit {0}) x
  skeleton_optional absent = absent
  skeleton_optional (present a) = present (skeleton a)

-- numbering takes away what numbers there were
module _ {S : Type 0} where
  mutual
    as_many : {x : Sort} (t : Tree S x) → functions_in (skeleton t) ≡ functions_in (map_tree no_place t)
    as_many (this s) = refl
    as_many (name a s) = refl
    as_many (number a s) = refl
    as_many (string a s) = refl
    as_many (boolean a s) = refl
    as_many (null s) = refl
    as_many (array a s) = cc (as_many_forest a)
    as_many (object a s) = cc (as_many_forest a)
    as_many (function_expression a s) = cc (as_many a)
    as_many (dot a b s) = cc (as_many a)
    as_many (index a b s) = cc (as_many a, as_many b)
    as_many (call a b s) = cc (as_many a, as_many_forest b)
    as_many (new a b s) = cc (as_many a, as_many_forest b)
    as_many (unary a b s) = cc (as_many b)
    as_many (update up prefix a s) = cc (as_many a)
    as_many (binary a b c s) = cc (as_many b, as_many c)
    as_many (and a b s) = cc (as_many a, as_many b)
    as_many (or a b s) = cc (as_many a, as_many b)
    as_many (conditional a b c s) = cc (as_many a, as_many b, as_many c)
    as_many (assign a b c s) = cc (as_many b, as_many c)
    as_many (comma a b s) = cc (as_many a, as_many b)
    as_many (to_name a) = refl
    as_many (to_dot a b s) = cc (as_many a)
    as_many (to_index a b s) = cc (as_many a, as_many b)
    as_many hole = refl
    as_many (filled a) = cc (as_many a)
    as_many (value a b) = cc (as_many b)
    as_many (getter a b) = cc (as_many b)
    as_many (setter a b) = cc (as_many b)
    as_many (function m a params b s) = cc (as_many b)
    as_many (body strict a b) = cc (as_many_forest a, as_many_forest b)
    as_many (var a s) = cc (as_many_forest a)
    as_many (empty s) = refl
    as_many (expression a s) = cc (as_many a)
    as_many (block a s) = cc (as_many_forest a)
    as_many (if_else a b c s) = cc (as_many a, as_many_forest b, as_many_optional c)
    as_many (do_while a b s) = cc (as_many_forest a, as_many b)
    as_many (while a b s) = cc (as_many a, as_many_forest b)
    as_many (for a b c d s) = cc (as_many a, as_many_optional b, as_many_optional c, as_many_forest d)
    as_many (for_in is_var a b c s) = cc (as_many b, as_many_forest c)
    as_many (continue a s) = refl
    as_many (break a s) = refl
    as_many (return a s) = cc (as_many_optional a)
    as_many (labelled a b s) = cc (as_many b)
    as_many (switch a b s) = cc (as_many a, as_many_forest b)
    as_many (throw a s) = cc (as_many a)
    as_many (try a b c s) = cc (as_many_forest a, as_many_optional b, as_many_optional c)
    as_many (debugger s) = refl
    as_many nothing = refl
    as_many (init_expression a) = cc (as_many a)
    as_many (init_var a) = cc (as_many_forest a)
    as_many (declarator a b) = cc (as_many_optional b)
    as_many (case a b) = cc (as_many_optional a, as_many_forest b)
    as_many (branch_of a) = cc (as_many_forest a)
    as_many (catch a b) = cc (as_many_forest b)

    as_many_forest : {x : Sort} (t : Forest S x) → functions_in_forest (skeleton_forest t)
        ≡ functions_in_forest (map_forest no_place t)
    as_many_forest end = refl
    as_many_forest (more a b) = cc (as_many a, as_many_forest b)

    as_many_optional : {x : Sort} (t : OptionalTree S x)
        → functions_in_optional (skeleton_optional t) ≡ functions_in_optional (map_optional no_place t)
    as_many_optional absent = refl
    as_many_optional (present a) = cc (as_many a)

  mutual
    pub same_numbers : {x : Sort} (n : ℕ) (t : Tree S x)
        → numbered_tree n (skeleton t) ≡ numbered_tree n (map_tree no_place t)
    same_numbers n (this s) = refl
    same_numbers n (name a s) = refl
    same_numbers n (number a s) = refl
    same_numbers n (string a s) = refl
    same_numbers n (boolean a s) = refl
    same_numbers n (null s) = refl
    same_numbers n (array a s) = cc (same_numbers_forest n a)
    same_numbers n (object a s) = cc (same_numbers_forest n a)
    same_numbers n (function_expression a s) = cc (same_numbers n a)
    same_numbers n (dot a b s) = cc (same_numbers n a)
    same_numbers n (index a b s) = cc (same_numbers n a, same_numbers (n + functions_in (skeleton a)) b, as_many a)
    same_numbers n (call a b s) =
        cc (same_numbers n a, same_numbers_forest (n + functions_in (skeleton a)) b, as_many a)
    same_numbers n (new a b s) = cc (same_numbers n a, same_numbers_forest (n + functions_in (skeleton a)) b, as_many a)
    same_numbers n (unary a b s) = cc (same_numbers n b)
    same_numbers n (update up prefix a s) = cc (same_numbers n a)
    same_numbers n (binary a b c s) = cc (same_numbers n b, same_numbers (n + functions_in (skeleton b)) c, as_many b)
    same_numbers n (and a b s) = cc (same_numbers n a, same_numbers (n + functions_in (skeleton a)) b, as_many a)
    same_numbers n (or a b s) = cc (same_numbers n a, same_numbers (n + functions_in (skeleton a)) b, as_many a)
    same_numbers n (conditional a b c s) =
        cc (
          same_numbers n a,
          same_numbers (n + functions_in (skeleton a)) b,
          same_numbers (n + functions_in (skeleton a) + functions_in (skeleton b)) c,
          as_many a,
          as_many b,
        )
    same_numbers n (assign a b c s) = cc (same_numbers n b, same_numbers (n + functions_in (skeleton b)) c, as_many b)
    same_numbers n (comma a b s) = cc (same_numbers n a, same_numbers (n + functions_in (skeleton a)) b, as_many a)
    same_numbers n (to_name a) = refl
    same_numbers n (to_dot a b s) = cc (same_numbers n a)
    same_numbers n (to_index a b s) = cc (same_numbers n a, same_numbers (n + functions_in (skeleton a)) b, as_many a)
    same_numbers n hole = refl
    same_numbers n (filled a) = cc (same_numbers n a)
    same_numbers n (value a b) = cc (same_numbers n b)
    same_numbers n (getter a b) = cc (same_numbers n b)
    same_numbers n (setter a b) = cc (same_numbers n b)
    same_numbers n (function m a params b s) = cc (same_numbers (n + 1) b)
    same_numbers n (body strict a b) =
        cc (
          same_numbers_forest n a,
          same_numbers_forest (n + functions_in_forest (skeleton_forest a)) b,
          as_many_forest a,
        )
    same_numbers n (var a s) = cc (same_numbers_forest n a)
    same_numbers n (empty s) = refl
    same_numbers n (expression a s) = cc (same_numbers n a)
    same_numbers n (block a s) = cc (same_numbers_forest n a)
    same_numbers n (if_else a b c s) =
        cc (
          same_numbers n a,
          same_numbers_forest (n + functions_in (skeleton a)) b,
          same_numbers_optional (n + functions_in (skeleton a) + functions_in_forest (skeleton_forest b)) c,
          as_many a,
          as_many_forest b,
        )
    same_numbers n (do_while a b s) =
        cc (same_numbers_forest n a, same_numbers (n + functions_in_forest (skeleton_forest a)) b, as_many_forest a)
    same_numbers n (while a b s) =
        cc (same_numbers n a, same_numbers_forest (n + functions_in (skeleton a)) b, as_many a)
    same_numbers n (for a b c d s) =
        cc (
          same_numbers n a,
          same_numbers_optional (n + functions_in (skeleton a)) b,
          same_numbers_optional (n + functions_in (skeleton a) + functions_in_optional (skeleton_optional b)) c,
          same_numbers_forest (n + functions_in (skeleton a) + functions_in_optional (skeleton_optional b)
              + functions_in_optional (skeleton_optional c)) d,
          as_many a,
          as_many_optional b,
          as_many_optional c,
        )
    same_numbers n (for_in is_var a b c s) =
        cc (same_numbers n b, same_numbers_forest (n + functions_in (skeleton b)) c, as_many b)
    same_numbers n (continue a s) = refl
    same_numbers n (break a s) = refl
    same_numbers n (return a s) = cc (same_numbers_optional n a)
    same_numbers n (labelled a b s) = cc (same_numbers n b)
    same_numbers n (switch a b s) =
        cc (same_numbers n a, same_numbers_forest (n + functions_in (skeleton a)) b, as_many a)
    same_numbers n (throw a s) = cc (same_numbers n a)
    same_numbers n (try a b c s) =
        cc (
          same_numbers_forest n a,
          same_numbers_optional (n + functions_in_forest (skeleton_forest a)) b,
          same_numbers_optional (n + functions_in_forest (skeleton_forest a)
              + functions_in_optional (skeleton_optional b)) c,
          as_many_optional b,
          as_many_forest a,
        )
    same_numbers n (debugger s) = refl
    same_numbers n nothing = refl
    same_numbers n (init_expression a) = cc (same_numbers n a)
    same_numbers n (init_var a) = cc (same_numbers_forest n a)
    same_numbers n (declarator a b) = cc (same_numbers_optional n b)
    same_numbers n (case a b) =
        cc (
          same_numbers_optional n a,
          same_numbers_forest (n + functions_in_optional (skeleton_optional a)) b,
          as_many_optional a,
        )
    same_numbers n (branch_of a) = cc (same_numbers_forest n a)
    same_numbers n (catch a b) = cc (same_numbers_forest n b)

    pub same_numbers_forest : {x : Sort} (n : ℕ) (t : Forest S x)
        → numbered_forest n (skeleton_forest t) ≡ numbered_forest n (map_forest no_place t)
    same_numbers_forest n end = refl
    same_numbers_forest n (more a b) =
        cc (same_numbers n a, same_numbers_forest (n + functions_in (skeleton a)) b, as_many a)

    pub same_numbers_optional : {x : Sort} (n : ℕ) (t : OptionalTree S x)
        → numbered_optional n (skeleton_optional t) ≡ numbered_optional n (map_optional no_place t)
    same_numbers_optional n absent = refl
    same_numbers_optional n (present a) = cc (same_numbers n a)
