-- What the ids of a script stand for, in the order in which they are taken.
use Rattle.std.specs.Prelude.{[], map, ◌++◌, ◌+◌, ◌∷◌, List, None, Option, Some, ℕ}
use Rattle.jl_ast.specs.Spans.{place}
use Rattle.jl_ast.specs.Tree.{absent, and, array, assign, binary, block, body, boolean, branch_of, break, call, case}
use Rattle.jl_ast.specs.Tree.{catch, comma, conditional, continue, debugger, declarator, do_while, dot, empty, end}
use Rattle.jl_ast.specs.Tree.{expr, expression, filled, for, for_in, function, function_expression, getter, hole}
use Rattle.jl_ast.specs.Tree.{if_else, index, init_expression, init_var, labelled, more, name, new, nothing, null}
use Rattle.jl_ast.specs.Tree.{number, object, or, present, return, setter, string, switch, target, this, throw}
use Rattle.jl_ast.specs.Tree.{to_dot, to_index, to_name, try, unary, update, value, var, while, Forest, OptionalTree}
use Rattle.jl_ast.specs.Tree.{Program, Sort, Tree}
use Rattle.jl_ast.specs.declared.ops.BinOp.{BinOp}
use Rattle.jl_ast.specs.declared.ops.UnOp.{UnOp}
use Rattle.jl_ast.specs.declared.ops.UnOp.TheVariants.{Delete, Typeof}
use Rattle.jl_op.specs.declared.kind.OpKind.{OpKind}
use Rattle.jl_op.specs.declared.kind.OpKind.TheVariants as kind

-- the kind of an operation, and what is said of it
abbrev pub MapEntry : Type 0 → Type 0
MapEntry T = OpKind × T

abbrev pub MapEntries : Type 0 → Type 0
MapEntries T = List (MapEntry T)

-- the kinds of entries, and the ids where these are said
abbrev pub kinds_in : {T : Type 0} → MapEntries T → List OpKind
kinds_in l = map (λ e. e.0) l

abbrev pub ids_in : MapEntries ℕ → List ℕ
ids_in l = map (λ e. e.1) l

-- What is said of an operation: of the one with this number, from 0, that the node at a place does; and of a test, by
-- the places of the node whose test it is and of the tested expression.
pub record Saying (S T : Type 0) : Type 0 where
  pub of_node : S → ℕ → T
  pub of_test : (node tested : S) → T

-- the place of the node, and of a test that of the tested expression
abbrev pub place_of : {S : Type 0} → Saying S S
place_of = record { of_node = λ s i. s; of_test = λ s e. e }

-- the id, where the place of a node is the first of its ids
abbrev pub id_of : Saying ℕ ℕ
id_of = record { of_node = λ s i. s + i; of_test = λ s e. s }

-- these entries after the first of the others
abbrev pub insert_second : {T : Type 0} → MapEntries T → MapEntries T → MapEntries T
insert_second l [] = l
insert_second l (r ∷ rs) = r ∷ l ++ rs

abbrev pub without_first : {T : Type 0} → MapEntries T → MapEntries T
without_first [] = []
without_first (r ∷ rs) = rs

module _ {S T : Type 0} (say : Saying S T) where
  -- a call or a construction
  abbrev pub invoke_entries : S → MapEntries T
  invoke_entries at = (kind.InvokePre, say.of_node at 0) ∷ (kind.InvokePost, say.of_node at 1) ∷ []

  -- a call whose callee has these entries: a member's own entry comes before those of the call
  abbrev pub call_entries : Tree S expr → S → (itself : MapEntries T) → MapEntries T
  call_entries (dot o k s) at itself = insert_second (invoke_entries at) itself
  call_entries (index o k s) at itself = insert_second (invoke_entries at) itself
  call_entries f at itself = invoke_entries at ++ itself

  -- an operator whose operand has these entries
  abbrev pub unary_entries : UnOp → Tree S expr → S → (itself : MapEntries T) → MapEntries T
  unary_entries Delete (name x s) at itself = []
  unary_entries Delete (dot o k s) at itself = (kind.DeleteField, say.of_node at 0) ∷ without_first itself
  unary_entries Delete (index o k s) at itself = (kind.DeleteField, say.of_node at 0) ∷ without_first itself
  unary_entries Delete e at itself = itself
  unary_entries Typeof (name x s) at itself = (kind.TypeofName, say.of_node at 0) ∷ []
  unary_entries o e at itself = (kind.Unary, say.of_node at 0) ∷ itself

  -- what reads, computes by an operation of this kind, and writes
  abbrev pub compute_entries : Tree S target → OpKind → S → MapEntries T
  compute_entries (to_name x) computes at =
      (kind.Read, say.of_node at 0) ∷ (computes, say.of_node at 1) ∷ (kind.Write, say.of_node at 2) ∷ []
  compute_entries t computes at =
      (kind.GetField, say.of_node at 0) ∷ (computes, say.of_node at 1) ∷ (kind.PutField, say.of_node at 2) ∷ []

  abbrev pub assign_entries : Option BinOp → Tree S target → S → MapEntries T
  assign_entries None (to_name x) at = (kind.Write, say.of_node at 0) ∷ []
  assign_entries None t at = (kind.PutField, say.of_node at 0) ∷ []
  assign_entries (Some o) t at = compute_entries t kind.Binary at

  -- a test that decides
  abbrev pub test_entry : S → Tree S expr → MapEntry T
  test_entry at e = (kind.Conditional, say.of_test at (place e))

  abbrev pub optional_test_entries : S → OptionalTree S expr → MapEntries T
  optional_test_entries at absent = []
  optional_test_entries at (present e) = test_entry at e ∷ []

  abbrev mutual
    pub entries : {x : Sort} → Tree S x → MapEntries T
    entries (this s) = []
    entries (name x s) = (kind.Read, say.of_node s 0) ∷ []
    entries (number n s) = (kind.Literal, say.of_node s 0) ∷ []
    entries (string t s) = (kind.Literal, say.of_node s 0) ∷ []
    entries (boolean b s) = (kind.Literal, say.of_node s 0) ∷ []
    entries (null s) = (kind.Literal, say.of_node s 0) ∷ []
    entries (array l s) = (kind.ArrayLiteral, say.of_node s 0) ∷ forest_entries l
    entries (object l s) = (kind.ObjectLiteral, say.of_node s 0) ∷ forest_entries l
    entries (function_expression f s) = (kind.FunctionLiteral, say.of_node s 0) ∷ entries f
    entries (dot o k s) = (kind.GetField, say.of_node s 0) ∷ entries o
    entries (index o k s) = (kind.GetField, say.of_node s 0) ∷ entries o ++ entries k
    entries (call f l s) = call_entries f s (entries f) ++ forest_entries l
    entries (new f l s) = invoke_entries s ++ entries f ++ forest_entries l
    entries (unary o e s) = unary_entries o e s (entries e)
    entries (update up prefix t s) = compute_entries t kind.Unary s ++ entries t
    entries (binary o a b s) = (kind.Binary, say.of_node s 0) ∷ entries a ++ entries b
    entries (and a b s) = test_entry s a ∷ entries a ++ entries b
    entries (or a b s) = test_entry s a ∷ entries a ++ entries b
    entries (conditional a b c s) = test_entry s a ∷ entries a ++ entries b ++ entries c
    entries (assign o t e s) = assign_entries o t s ++ entries t ++ entries e
    entries (comma a b s) = entries a ++ entries b
    entries (to_name x) = []
    entries (to_dot o k s) = entries o
    entries (to_index o k s) = entries o ++ entries k
    entries hole = []
    entries (filled e) = entries e
    entries (value k e) = entries e
    entries (getter k f) = entries f
    entries (setter k f) = entries f
    entries (function m x params b s) = (kind.FunctionEnter, say.of_node s 0) ∷ (kind.FunctionExit, say.of_node s 1)
        ∷ entries b
    entries (body strict fs l) = forest_entries fs ++ forest_entries l
    entries (var l s) = forest_entries l
    entries (empty s) = []
    entries (expression e s) = entries e
    entries (block l s) = forest_entries l
    entries (if_else e a b s) = test_entry s e ∷ entries e ++ forest_entries a ++ optional_entries b
    entries (do_while l e s) = test_entry s e ∷ forest_entries l ++ entries e
    entries (while e l s) = test_entry s e ∷ entries e ++ forest_entries l
    entries (for i e u l s) =
        optional_test_entries s e ++ entries i ++ optional_entries e ++ optional_entries u ++ forest_entries l
    entries (for_in is_var x o l s) = (kind.ForIn, say.of_node s 0) ∷ entries o ++ forest_entries l
    entries (continue x s) = []
    entries (break x s) = []
    entries (return absent s) = []
    entries (return (present e) s) = (kind.Return, say.of_node s 0) ∷ entries e
    entries (labelled x t s) = entries t
    entries (switch e l s) = entries e ++ forest_entries l
    entries (throw e s) = (kind.Throw, say.of_node s 0) ∷ entries e
    entries (try l absent f s) = forest_entries l ++ optional_entries f
    entries (try l (present (catch x h)) f s) = (kind.Catch, say.of_node x.at 0)
        ∷ forest_entries l ++ forest_entries h ++ optional_entries f
    entries (debugger s) = []
    entries nothing = []
    entries (init_expression e) = entries e
    entries (init_var l) = forest_entries l
    entries (declarator x absent) = []
    entries (declarator x (present e)) = (kind.Write, say.of_node x.at 0) ∷ entries e
    entries (case e l) = optional_entries e ++ forest_entries l
    entries (branch_of l) = forest_entries l
    entries (catch x l) = forest_entries l

    pub forest_entries : {x : Sort} → Forest S x → MapEntries T
    forest_entries end = []
    forest_entries (more t l) = entries t ++ forest_entries l

    pub optional_entries : {x : Sort} → OptionalTree S x → MapEntries T
    optional_entries absent = []
    optional_entries (present t) = entries t

  -- those of a program, which takes the first two ids
  abbrev pub program_entries : Program S → MapEntries T
  program_entries p =
      (kind.ScriptEnter, say.of_node p.at 0) ∷ (kind.ScriptExit, say.of_node p.at 1) ∷ entries p.body

-- the map of a script: the entry with the id i stands at i - 1
abbrev pub id_map : {S : Type 0} → Program S → MapEntries S
id_map p = program_entries place_of p

-- the operations of a program that has its ids, each with its id
abbrev pub operation_ids : Program ℕ → MapEntries ℕ
operation_ids p = program_entries id_of p
