-- The functions of a numbered tree have its numbers in turn.
use Rattle.std.proofs.Common.{◌≡◌, ℕ, ◌+◌, suc, zero, List, ◌∷◌, ◌++◌, map, refl, ap, arith}
use Rattle.std.specs.List.{range_with_len}
use Rattle.std.proofs.lemmas.List.{map-append}
use Rattle.jl_ast.specs.Tree.{Sort, func, Tree, Forest, OptionalTree, this, name, number, string, boolean, null, array}
use Rattle.jl_ast.specs.Tree.{object, function_expression, dot, index, call, new, unary, update, binary, and, or}
use Rattle.jl_ast.specs.Tree.{conditional, assign, comma, to_name, to_dot, to_index, hole, filled, value, getter}
use Rattle.jl_ast.specs.Tree.{setter, function, body, var, empty, expression, block, if_else, do_while, while, for}
use Rattle.jl_ast.specs.Tree.{for_in, continue, break, return, labelled, switch, throw, try, debugger, nothing}
use Rattle.jl_ast.specs.Tree.{init_expression, init_var, declarator, case, branch_of, catch, end, more, absent}
use Rattle.jl_ast.specs.Tree.{present}
use Rattle.jl_ast.specs.Numbering.{functions_in, functions_in_forest, functions_in_optional, numbered_tree}
use Rattle.jl_ast.specs.Numbering.{numbered_forest, numbered_optional}
use Rattle.jl_ast.specs.Table.{functions_of, functions_of_forest, functions_of_optional, number_of}

pub range-append : (n a b m : ℕ) → n + a ≡ m → range_with_len n a ++ range_with_len m b ≡ range_with_len n (a + b)
range-append n zero b m e = cc (let h : n ≡ m = omega arith in h, let h : 0 + b ≡ b = omega arith in h)
range-append n (suc a) b m e =
    let s : suc a + b ≡ suc (a + b) = omega arith in
    cc (s, range-append (n + 1) a b m (omega arith))

range-suc : (n a : ℕ) → range_with_len n (a + 1) ≡ n ∷ range_with_len (n + 1) a
range-suc n a = let s : a + 1 ≡ suc a = omega arith in ap (range_with_len n) s

two : {S : Type 0} (xs ys : List (Tree S func)) (n a m b : ℕ) → n + a ≡ m →
    map number_of xs ≡ range_with_len n a → map number_of ys ≡ range_with_len m b →
    map number_of (xs ++ ys) ≡ range_with_len n (a + b)
two xs ys n a m b e l r = cc (map-append number_of xs ys, l, r, range-append n a b m e)

first : {S : Type 0} (t : Tree S func) (ys : List (Tree S func)) (n a : ℕ) → number_of t ≡ n →
    map number_of ys ≡ range_with_len (n + 1) a → map number_of (t ∷ ys) ≡ range_with_len n (a + 1)
first t ys n a e r = cc (e, r, range-suc n a)

mutual
  pub counted : {S : Type 0} {x : Sort} (n : ℕ) (t : Tree S x) →
      map number_of (functions_of (numbered_tree n t)) ≡ range_with_len n (functions_in t)
  counted n (this s) = refl
  counted n (name a s) = refl
  counted n (number a s) = refl
  counted n (string a s) = refl
  counted n (boolean a s) = refl
  counted n (null s) = refl
  counted n (array a s) = counted_forest n a
  counted n (object a s) = counted_forest n a
  counted n (function_expression a s) = counted n a
  counted n (dot a b s) = counted n a
  counted n (index a b s) = two _ _ _ _ _ _ (omega arith) (counted n a) (counted (n + functions_in a) b)
  counted n (call a b s) = two _ _ _ _ _ _ (omega arith) (counted n a) (counted_forest (n + functions_in a) b)
  counted n (new a b s) = two _ _ _ _ _ _ (omega arith) (counted n a) (counted_forest (n + functions_in a) b)
  counted n (unary a b s) = counted n b
  counted n (update up prefix a s) = counted n a
  counted n (binary a b c s) = two _ _ _ _ _ _ (omega arith) (counted n b) (counted (n + functions_in b) c)
  counted n (and a b s) = two _ _ _ _ _ _ (omega arith) (counted n a) (counted (n + functions_in a) b)
  counted n (or a b s) = two _ _ _ _ _ _ (omega arith) (counted n a) (counted (n + functions_in a) b)
  counted n (conditional a b c s) = two _ _ _ _ _ _ (omega arith)
      (two _ _ _ _ _ _ (omega arith) (counted n a) (counted (n + functions_in a) b))
      (counted (n + functions_in a + functions_in b) c)
  counted n (assign a b c s) = two _ _ _ _ _ _ (omega arith) (counted n b) (counted (n + functions_in b) c)
  counted n (comma a b s) = two _ _ _ _ _ _ (omega arith) (counted n a) (counted (n + functions_in a) b)
  counted n (to_name a) = refl
  counted n (to_dot a b s) = counted n a
  counted n (to_index a b s) = two _ _ _ _ _ _ (omega arith) (counted n a) (counted (n + functions_in a) b)
  counted n hole = refl
  counted n (filled a) = counted n a
  counted n (value a b) = counted n b
  counted n (getter a b) = counted n b
  counted n (setter a b) = counted n b
  counted n (function m a params b s) = first (function n a params (numbered_tree (n + 1) b) s) _ n
      (functions_in b) refl (counted (n + 1) b)
  counted n (body strict a b) = two _ _ _ _ _ _ (omega arith) (counted_forest n a)
      (counted_forest (n + functions_in_forest a) b)
  counted n (var a s) = counted_forest n a
  counted n (empty s) = refl
  counted n (expression a s) = counted n a
  counted n (block a s) = counted_forest n a
  counted n (if_else a b c s) = two _ _ _ _ _ _ (omega arith)
      (two _ _ _ _ _ _ (omega arith) (counted n a) (counted_forest (n + functions_in a) b))
      (counted_optional (n + functions_in a + functions_in_forest b) c)
  counted n (do_while a b s) = two _ _ _ _ _ _ (omega arith) (counted_forest n a)
      (counted (n + functions_in_forest a) b)
  counted n (while a b s) = two _ _ _ _ _ _ (omega arith) (counted n a) (counted_forest (n + functions_in a) b)
  counted n (for a b c d s) = two _ _ _ _ _ _ (omega arith)
      (two _ _ _ _ _ _ (omega arith) (two _ _ _ _ _ _ (omega arith) (counted n a)
      (counted_optional (n + functions_in a) b)) (counted_optional (n + functions_in a + functions_in_optional b) c))
      (counted_forest (n + functions_in a + functions_in_optional b + functions_in_optional c) d)
  counted n (for_in is_var a b c s) = two _ _ _ _ _ _ (omega arith) (counted n b)
      (counted_forest (n + functions_in b) c)
  counted n (continue a s) = refl
  counted n (break a s) = refl
  counted n (return a s) = counted_optional n a
  counted n (labelled a b s) = counted n b
  counted n (switch a b s) = two _ _ _ _ _ _ (omega arith) (counted n a) (counted_forest (n + functions_in a) b)
  counted n (throw a s) = counted n a
  counted n (try a b c s) = two _ _ _ _ _ _ (omega arith)
      (two _ _ _ _ _ _ (omega arith) (counted_forest n a) (counted_optional (n + functions_in_forest a) b))
      (counted_optional (n + functions_in_forest a + functions_in_optional b) c)
  counted n (debugger s) = refl
  counted n nothing = refl
  counted n (init_expression a) = counted n a
  counted n (init_var a) = counted_forest n a
  counted n (declarator a b) = counted_optional n b
  counted n (case a b) = two _ _ _ _ _ _ (omega arith) (counted_optional n a)
      (counted_forest (n + functions_in_optional a) b)
  counted n (branch_of a) = counted_forest n a
  counted n (catch a b) = counted_forest n b

  pub counted_forest : {S : Type 0} {x : Sort} (n : ℕ) (t : Forest S x) →
      map number_of (functions_of_forest (numbered_forest n t)) ≡ range_with_len n (functions_in_forest t)
  counted_forest n end = refl
  counted_forest n (more a b) = two _ _ _ _ _ _ (omega arith) (counted n a) (counted_forest (n + functions_in a) b)

  pub counted_optional : {S : Type 0} {x : Sort} (n : ℕ) (t : OptionalTree S x) →
      map number_of (functions_of_optional (numbered_optional n t)) ≡ range_with_len n (functions_in_optional t)
  counted_optional n absent = refl
  counted_optional n (present a) = counted n a
