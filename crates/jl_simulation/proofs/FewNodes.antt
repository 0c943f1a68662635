-- A tree takes at most four ids for each of its nodes.
use Rattle.std.proofs.Common.{ℕ, ◌+◌, ◌*◌, ◌≤◌, Option, Some, None, arith}
use Rattle.jl_ast.specs.declared.ops.BinOp.{BinOp}
use Rattle.jl_ast.specs.declared.ops.UnOp.{UnOp}
use Rattle.jl_ast.specs.declared.ops.UnOp.TheVariants as un
use Rattle.jl_ast.specs.Tree.{Sort, expr, func, handler, Tree, Forest, OptionalTree, this, name, number, string}
use Rattle.jl_ast.specs.Tree.{boolean}
use Rattle.jl_ast.specs.Tree.{null, array, object, function_expression, dot, index, call, new, unary, update, binary}
use Rattle.jl_ast.specs.Tree.{and, or, conditional, assign, comma, to_name, to_dot, to_index, hole, filled, value}
use Rattle.jl_ast.specs.Tree.{getter, setter, function, body, var, empty, expression, block, if_else, do_while, while}
use Rattle.jl_ast.specs.Tree.{for, for_in, continue, break, return, labelled, switch, throw, try, debugger, nothing}
use Rattle.jl_ast.specs.Tree.{init_expression, init_var, declarator, case, branch_of, catch, end, more, absent, present}
use Rattle.jl_op.specs.Ids.{id_count, forest_id_count, optional_id_count, unary_id_count, assignment_id_count}
use Rattle.jl_op.specs.Ids.{one_if_present}
use Rattle.jl_grammar.specs.Nodes.{nodes, nodes_forest, nodes_optional}

-- how many ids an expression, a function or a `catch` has to spare
abbrev slack : Sort → ℕ
slack expr = 1
slack func = 2
slack handler = 1
slack x = 0

unary_bound : {S : Type 0} (o : UnOp) (e : Tree S expr) (n : ℕ) → unary_id_count o e n ≤ 1 + n
unary_bound un.Minus e n = omega arith
unary_bound un.Plus e n = omega arith
unary_bound un.Not e n = omega arith
unary_bound un.Tilde e n = omega arith
unary_bound un.Typeof (this s) n = omega arith
unary_bound un.Typeof (name x s) n = omega arith
unary_bound un.Typeof (number m s) n = omega arith
unary_bound un.Typeof (string t s) n = omega arith
unary_bound un.Typeof (boolean b s) n = omega arith
unary_bound un.Typeof (null s) n = omega arith
unary_bound un.Typeof (array l s) n = omega arith
unary_bound un.Typeof (object l s) n = omega arith
unary_bound un.Typeof (function_expression f s) n = omega arith
unary_bound un.Typeof (dot o k s) n = omega arith
unary_bound un.Typeof (index o k s) n = omega arith
unary_bound un.Typeof (call f l s) n = omega arith
unary_bound un.Typeof (new f l s) n = omega arith
unary_bound un.Typeof (unary un.Minus e s) n = omega arith
unary_bound un.Typeof (unary un.Plus e s) n = omega arith
unary_bound un.Typeof (unary un.Not e s) n = omega arith
unary_bound un.Typeof (unary un.Tilde e s) n = omega arith
unary_bound un.Typeof (unary un.Typeof e s) n = omega arith
unary_bound un.Typeof (unary un.Void e s) n = omega arith
unary_bound un.Typeof (unary un.Delete e s) n = omega arith
unary_bound un.Typeof (update up prefix t s) n = omega arith
unary_bound un.Typeof (binary o a b s) n = omega arith
unary_bound un.Typeof (and a b s) n = omega arith
unary_bound un.Typeof (or a b s) n = omega arith
unary_bound un.Typeof (conditional a b c s) n = omega arith
unary_bound un.Typeof (assign o t e s) n = omega arith
unary_bound un.Typeof (comma a b s) n = omega arith
unary_bound un.Void e n = omega arith
unary_bound un.Delete (this s) n = omega arith
unary_bound un.Delete (name x s) n = omega arith
unary_bound un.Delete (number m s) n = omega arith
unary_bound un.Delete (string t s) n = omega arith
unary_bound un.Delete (boolean b s) n = omega arith
unary_bound un.Delete (null s) n = omega arith
unary_bound un.Delete (array l s) n = omega arith
unary_bound un.Delete (object l s) n = omega arith
unary_bound un.Delete (function_expression f s) n = omega arith
unary_bound un.Delete (dot o k s) n = omega arith
unary_bound un.Delete (index o k s) n = omega arith
unary_bound un.Delete (call f l s) n = omega arith
unary_bound un.Delete (new f l s) n = omega arith
unary_bound un.Delete (unary un.Minus e s) n = omega arith
unary_bound un.Delete (unary un.Plus e s) n = omega arith
unary_bound un.Delete (unary un.Not e s) n = omega arith
unary_bound un.Delete (unary un.Tilde e s) n = omega arith
unary_bound un.Delete (unary un.Typeof e s) n = omega arith
unary_bound un.Delete (unary un.Void e s) n = omega arith
unary_bound un.Delete (unary un.Delete e s) n = omega arith
unary_bound un.Delete (update up prefix t s) n = omega arith
unary_bound un.Delete (binary o a b s) n = omega arith
unary_bound un.Delete (and a b s) n = omega arith
unary_bound un.Delete (or a b s) n = omega arith
unary_bound un.Delete (conditional a b c s) n = omega arith
unary_bound un.Delete (assign o t e s) n = omega arith
unary_bound un.Delete (comma a b s) n = omega arith

assignment_bound : (o : Option BinOp) → assignment_id_count o ≤ 3
assignment_bound None = omega arith
assignment_bound (Some o) = omega arith

mutual
  pub few : {S : Type 0} {x : Sort} (t : Tree S x) → id_count t + slack x ≤ 4 * nodes t
  few (this s) = omega arith
  few (name a s) = omega arith
  few (number a s) = omega arith
  few (string a s) = omega arith
  few (boolean a s) = omega arith
  few (null s) = omega arith
  few (array a s) = let h0 = forest_few a in omega arith
  few (object a s) = let h0 = forest_few a in omega arith
  few (function_expression a s) = let h0 = few a in omega arith
  few (dot a b s) = let h0 = few a in omega arith
  few (index a b s) = let h0 = few a in let h1 = few b in omega arith
  few (call a b s) = let h0 = few a in let h1 = forest_few b in omega arith
  few (new a b s) = let h0 = few a in let h1 = forest_few b in omega arith
  few (unary a b s) = let h0 = few b in let h1 = unary_bound a b (id_count b) in omega arith
  few (update up prefix a s) = let h0 = few a in omega arith
  few (binary a b c s) = let h0 = few b in let h1 = few c in omega arith
  few (and a b s) = let h0 = few a in let h1 = few b in omega arith
  few (or a b s) = let h0 = few a in let h1 = few b in omega arith
  few (conditional a b c s) = let h0 = few a in let h1 = few b in let h2 = few c in omega arith
  few (assign a b c s) = let h0 = few b in let h1 = few c in let h2 = assignment_bound a in omega arith
  few (comma a b s) = let h0 = few a in let h1 = few b in omega arith
  few (to_name a) = omega arith
  few (to_dot a b s) = let h0 = few a in omega arith
  few (to_index a b s) = let h0 = few a in let h1 = few b in omega arith
  few hole = omega arith
  few (filled a) = let h0 = few a in omega arith
  few (value a b) = let h0 = few b in omega arith
  few (getter a b) = let h0 = few b in omega arith
  few (setter a b) = let h0 = few b in omega arith
  few (function m a params b s) = let h0 = few b in omega arith
  few (body strict a b) = let h0 = forest_few a in let h1 = forest_few b in omega arith
  few (var a s) = let h0 = forest_few a in omega arith
  few (empty s) = omega arith
  few (expression a s) = let h0 = few a in omega arith
  few (block a s) = let h0 = forest_few a in omega arith
  few (if_else a b c s) = let h0 = few a in let h1 = forest_few b in let h2 = optional_few c in omega arith
  few (do_while a b s) = let h0 = forest_few a in let h1 = few b in omega arith
  few (while a b s) = let h0 = few a in let h1 = forest_few b in omega arith
  few
      (for a b c d s) = let h0 = few a in let h1 = optional_few c in let h2 = forest_few d in let h3 = test_few b in
      omega arith
  few (for_in is_var a b c s) = let h0 = few b in let h1 = forest_few c in omega arith
  few (continue a s) = omega arith
  few (break a s) = omega arith
  few (return a s) = let h0 = test_few a in omega arith
  few (labelled a b s) = let h0 = few b in omega arith
  few (switch a b s) = let h0 = few a in let h1 = forest_few b in omega arith
  few (throw a s) = let h0 = few a in omega arith
  few (try a b c s) = let h0 = forest_few a in let h1 = optional_few c in let h2 = handler_few b in omega arith
  few (debugger s) = omega arith
  few nothing = omega arith
  few (init_expression a) = let h0 = few a in omega arith
  few (init_var a) = let h0 = forest_few a in omega arith
  few (declarator a b) = let h0 = test_few b in omega arith
  few (case a b) = let h0 = optional_few a in let h1 = forest_few b in omega arith
  few (branch_of a) = let h0 = forest_few a in omega arith
  few (catch a b) = let h0 = forest_few b in omega arith

  pub forest_few : {S : Type 0} {x : Sort} (l : Forest S x) → forest_id_count l ≤ 4 * nodes_forest l
  forest_few end = omega arith
  forest_few (more t l) = let h0 = few t in let h1 = forest_few l in omega arith

  pub optional_few : {S : Type 0} {x : Sort} (o : OptionalTree S x) → optional_id_count o ≤ 4 * nodes_optional o
  optional_few absent = omega arith
  optional_few (present t) = let h0 = few t in omega arith

  test_few : {S : Type 0} (o : OptionalTree S expr) → one_if_present o + optional_id_count o ≤ 4 * nodes_optional o
  test_few absent = omega arith
  test_few (present t) = let h0 = few t in omega arith

  handler_few : {S : Type 0} (o : OptionalTree S handler) →
      one_if_present o + optional_id_count o ≤ 4 * nodes_optional o
  handler_few absent = omega arith
  handler_few (present t) = let h0 = few t in omega arith
