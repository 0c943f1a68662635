-- The ids of the operations of a script: how many each node takes, and which. Those of a node come before those of
-- its parts, which follow in the order of the text, a body's functions before its statements. This is the one
-- definition that counts: what a script does, how it is rewritten and what the map says all read the ids off the
-- places of nodes.
use Rattle.std.specs.Prelude.{map, option_map, ◌+◌, None, Option, Some, ℕ}
use Rattle.jl_ast.specs.Tree.{absent, and, array, assign, binary, block, body, boolean, branch_of, break, call, case}
use Rattle.jl_ast.specs.Tree.{catch, comma, conditional, continue, debugger, declarator, do_while, dot, empty, end}
use Rattle.jl_ast.specs.Tree.{expr, expression, filled, for, for_in, function, function_expression, getter, handler}
use Rattle.jl_ast.specs.Tree.{hole, if_else, index, init_expression, init_var, labelled, more, name, new, nothing}
use Rattle.jl_ast.specs.Tree.{null, number, object, or, present, return, setter, string, switch, this, throw, to_dot}
use Rattle.jl_ast.specs.Tree.{to_index, to_name, try, unary, update, value, var, while, Forest, Ident, OptionalTree}
use Rattle.jl_ast.specs.Tree.{Program, Sort, Tree}
use Rattle.jl_ast.specs.declared.ops.BinOp.{BinOp}
use Rattle.jl_ast.specs.declared.ops.UnOp.{UnOp}
use Rattle.jl_ast.specs.declared.ops.UnOp.TheVariants.{Delete, Typeof}

-- those of an operator whose operand has so many: none where it deletes, but the member's own, and none for a name
-- that isn't read (11.4.1, 11.4.3)
abbrev pub unary_id_count : {S : Type 0} → UnOp → Tree S expr → ℕ → ℕ
unary_id_count Delete (name x s) n = 0
unary_id_count Delete e n = n
unary_id_count Typeof (name x s) n = 1
unary_id_count op e n = 1 + n

-- those of an assignment: a plain one writes, and any other reads and computes before that
abbrev pub assignment_id_count : Option BinOp → ℕ
assignment_id_count None = 1
assignment_id_count (Some op) = 3

-- one for a test, an initialiser or a handler, where it is there
abbrev pub one_if_present : {S : Type 0} {x : Sort} → OptionalTree S x → ℕ
one_if_present absent = 0
one_if_present (present t) = 1

abbrev mutual
  pub id_count : {S : Type 0} {x : Sort} → Tree S x → ℕ
  id_count (this s) = 0
  id_count (name x s) = 1
  id_count (number n s) = 1
  id_count (string t s) = 1
  id_count (boolean b s) = 1
  id_count (null s) = 1
  id_count (array l s) = 1 + forest_id_count l
  id_count (object l s) = 1 + forest_id_count l
  id_count (function_expression f s) = 1 + id_count f
  id_count (dot o k s) = 1 + id_count o
  id_count (index o k s) = 1 + id_count o + id_count k
  id_count (call f l s) = 2 + id_count f + forest_id_count l
  id_count (new f l s) = 2 + id_count f + forest_id_count l
  id_count (unary o e s) = unary_id_count o e (id_count e)
  id_count (update up prefix t s) = 3 + id_count t
  id_count (binary o a b s) = 1 + id_count a + id_count b
  id_count (and a b s) = 1 + id_count a + id_count b
  id_count (or a b s) = 1 + id_count a + id_count b
  id_count (conditional a b c s) = 1 + id_count a + id_count b + id_count c
  id_count (assign o t e s) = assignment_id_count o + id_count t + id_count e
  id_count (comma a b s) = id_count a + id_count b
  id_count (to_name x) = 0
  id_count (to_dot o k s) = id_count o
  id_count (to_index o k s) = id_count o + id_count k
  id_count hole = 0
  id_count (filled e) = id_count e
  id_count (value k e) = id_count e
  id_count (getter k f) = id_count f
  id_count (setter k f) = id_count f
  id_count (function m x params b s) = 2 + id_count b
  id_count (body strict fs l) = forest_id_count fs + forest_id_count l
  id_count (var l s) = forest_id_count l
  id_count (empty s) = 0
  id_count (expression e s) = id_count e
  id_count (block l s) = forest_id_count l
  id_count (if_else c a b s) = 1 + id_count c + forest_id_count a + optional_id_count b
  id_count (do_while l c s) = 1 + forest_id_count l + id_count c
  id_count (while c l s) = 1 + id_count c + forest_id_count l
  id_count (for i c u l s) =
      one_if_present c + id_count i + optional_id_count c + optional_id_count u + forest_id_count l
  id_count (for_in is_var x o l s) = 1 + id_count o + forest_id_count l
  id_count (continue x s) = 0
  id_count (break x s) = 0
  id_count (return e s) = one_if_present e + optional_id_count e
  id_count (labelled x t s) = id_count t
  id_count (switch e l s) = id_count e + forest_id_count l
  id_count (throw e s) = 1 + id_count e
  id_count (try l h f s) = one_if_present h + forest_id_count l + optional_id_count h + optional_id_count f
  id_count (debugger s) = 0
  id_count nothing = 0
  id_count (init_expression e) = id_count e
  id_count (init_var l) = forest_id_count l
  id_count (declarator x e) = one_if_present e + optional_id_count e
  id_count (case e l) = optional_id_count e + forest_id_count l
  id_count (branch_of l) = forest_id_count l
  id_count (catch x l) = forest_id_count l

  pub forest_id_count : {S : Type 0} {x : Sort} → Forest S x → ℕ
  forest_id_count end = 0
  forest_id_count (more t l) = id_count t + forest_id_count l

  pub optional_id_count : {S : Type 0} {x : Sort} → OptionalTree S x → ℕ
  optional_id_count absent = 0
  optional_id_count (present t) = id_count t

abbrev pub ident_with_id : {S : Type 0} → Ident S → ℕ → Ident ℕ
ident_with_id x n = record { text = x.text; at = n }

-- how many ids a callee takes before those of its call
abbrev pub member_ids : {S : Type 0} → Tree S expr → ℕ
member_ids (dot o k s) = 1
member_ids (index o k s) = 1
member_ids f = 0

abbrev mutual
  -- the tree with the ids from n on; a node that has none has the next as its place
  pub with_ids : {S : Type 0} {x : Sort} → (n : ℕ) → Tree S x → Tree ℕ x
  with_ids n (this s) = this n
  with_ids n (name x s) = name x n
  with_ids n (number m s) = number m n
  with_ids n (string t s) = string t n
  with_ids n (boolean b s) = boolean b n
  with_ids n (null s) = null n
  with_ids n (array l s) = array (forest_with_ids (n + 1) l) n
  with_ids n (object l s) = object (forest_with_ids (n + 1) l) n
  with_ids n (function_expression f s) = function_expression (with_ids (n + 1) f) n
  with_ids n (dot o k s) = dot (with_ids (n + 1) o) k n
  with_ids n (index o k s) = index (with_ids (n + 1) o) (with_ids (n + 1 + id_count o) k) n
  with_ids n (call f l s) =
      call (callee_with_ids n f (with_ids (n + 2) f)) (forest_with_ids (n + 2 + id_count f) l) (n + member_ids f)
  with_ids n (new f l s) = new (with_ids (n + 2) f) (forest_with_ids (n + 2 + id_count f) l) n
  -- the member that is deleted has no id of its own
  with_ids n (unary Delete e s) = unary Delete (with_ids n e) n
  with_ids n (unary o e s) = unary o (with_ids (n + 1) e) n
  with_ids n (update up prefix t s) = update up prefix (with_ids (n + 3) t) n
  with_ids n (binary o a b s) = binary o (with_ids (n + 1) a) (with_ids (n + 1 + id_count a) b) n
  with_ids n (and a b s) = and (with_ids (n + 1) a) (with_ids (n + 1 + id_count a) b) n
  with_ids n (or a b s) = or (with_ids (n + 1) a) (with_ids (n + 1 + id_count a) b) n
  with_ids n (conditional a b c s) =
      conditional (with_ids (n + 1) a) (with_ids (n + 1 + id_count a) b) (with_ids
      (n + 1 + id_count a + id_count b) c) n
  with_ids n (assign o t e s) =
      assign o (with_ids (n + assignment_id_count o) t) (with_ids (n + assignment_id_count o + id_count t) e) n
  with_ids n (comma a b s) = comma (with_ids n a) (with_ids (n + id_count a) b) n
  with_ids n (to_name x) = to_name (ident_with_id x n)
  with_ids n (to_dot o k s) = to_dot (with_ids n o) k n
  with_ids n (to_index o k s) = to_index (with_ids n o) (with_ids (n + id_count o) k) n
  with_ids n hole = hole
  with_ids n (filled e) = filled (with_ids n e)
  with_ids n (value k e) = value (ident_with_id k n) (with_ids n e)
  with_ids n (getter k f) = getter (ident_with_id k n) (with_ids n f)
  with_ids n (setter k f) = setter (ident_with_id k n) (with_ids n f)
  with_ids n (function m x params b s) =
      function m (option_map (λ y. ident_with_id y n) x) (map (λ y. ident_with_id y n) params) (with_ids (n + 2) b) n
  with_ids n (body strict fs l) = body strict (forest_with_ids n fs) (forest_with_ids (n + forest_id_count fs) l)
  with_ids n (var l s) = var (forest_with_ids n l) n
  with_ids n (empty s) = empty n
  with_ids n (expression e s) = expression (with_ids n e) n
  with_ids n (block l s) = block (forest_with_ids n l) n
  with_ids n (if_else e a b s) = if_else (with_ids (n + 1) e) (forest_with_ids (n + 1 + id_count e) a)
      (optional_with_ids (n + 1 + id_count e + forest_id_count a) b) n
  with_ids n (do_while l e s) = do_while (forest_with_ids (n + 1) l) (with_ids (n + 1 + forest_id_count l) e) n
  with_ids n (while e l s) = while (with_ids (n + 1) e) (forest_with_ids (n + 1 + id_count e) l) n
  with_ids n (for i e u l s) =
      let first = n + one_if_present e in
      for (with_ids first i) (optional_with_ids (first + id_count i) e) (optional_with_ids
      (first + id_count i + optional_id_count e) u)
      (forest_with_ids (first + id_count i + optional_id_count e + optional_id_count u) l) n
  with_ids n (for_in is_var x o l s) =
      for_in is_var (ident_with_id x n) (with_ids (n + 1) o) (forest_with_ids (n + 1 + id_count o) l) n
  with_ids n (continue x s) = continue (option_map (λ y. ident_with_id y n) x) n
  with_ids n (break x s) = break (option_map (λ y. ident_with_id y n) x) n
  with_ids n (return e s) = return (optional_with_ids (n + one_if_present e) e) n
  with_ids n (labelled x t s) = labelled (ident_with_id x n) (with_ids n t) n
  with_ids n (switch e l s) = switch (with_ids n e) (forest_with_ids (n + id_count e) l) n
  with_ids n (throw e s) = throw (with_ids (n + 1) e) n
  -- the name that is caught has the id that comes before those of the block
  with_ids n (try l h f s) =
      let first = n + one_if_present h in
      try (forest_with_ids first l) (handler_with_ids n (first + forest_id_count l) h)
      (optional_with_ids (first + forest_id_count l + optional_id_count h) f) n
  with_ids n (debugger s) = debugger n
  with_ids n nothing = nothing
  with_ids n (init_expression e) = init_expression (with_ids n e)
  with_ids n (init_var l) = init_var (forest_with_ids n l)
  with_ids n (declarator x e) = declarator (ident_with_id x n) (optional_with_ids (n + one_if_present e) e)
  with_ids n (case e l) = case (optional_with_ids n e) (forest_with_ids (n + optional_id_count e) l)
  with_ids n (branch_of l) = branch_of (forest_with_ids n l)
  with_ids n (catch x l) = catch (ident_with_id x n) (forest_with_ids n l)

  -- the callee of a call that takes its ids from n on: a member has its own before the two of the call
  pub callee_with_ids : {S : Type 0} → (n : ℕ) → Tree S expr → (itself : Tree ℕ expr) → Tree ℕ expr
  callee_with_ids n (dot o k s) itself = dot (with_ids (n + 3) o) k n
  callee_with_ids n (index o k s) itself = index (with_ids (n + 3) o) (with_ids (n + 3 + id_count o) k) n
  callee_with_ids n f itself = itself

  pub handler_with_ids : {S : Type 0} → (id n : ℕ) → OptionalTree S handler → OptionalTree ℕ handler
  handler_with_ids id n absent = absent
  handler_with_ids id n (present (catch x l)) = present (catch (ident_with_id x id) (forest_with_ids n l))

  pub forest_with_ids : {S : Type 0} {x : Sort} → (n : ℕ) → Forest S x → Forest ℕ x
  forest_with_ids n end = end
  forest_with_ids n (more t l) = more (with_ids n t) (forest_with_ids (n + id_count t) l)

  pub optional_with_ids : {S : Type 0} {x : Sort} → (n : ℕ) → OptionalTree S x → OptionalTree ℕ x
  optional_with_ids n absent = absent
  optional_with_ids n (present t) = present (with_ids n t)

-- a program takes the ids 1 and 2 before its parts take theirs
abbrev pub program_with_ids : {S : Type 0} → Program S → Program ℕ
program_with_ids p = record { body = with_ids 3 p.body; at = 1 }
