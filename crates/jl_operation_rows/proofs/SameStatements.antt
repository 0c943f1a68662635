-- Statements and turns of loops do the same with other places, but for the ids of what they perform.
use Rattle.std.proofs.Common.{◌≡◌, ℕ, ◌+◌, List, [], ◌∷◌, Option, Some, None, zero, suc, refl, ap}
use Rattle.std.specs.Option.{option_or}
use Rattle.std.specs.Prelude.{option_map}
use Rattle.jl_ast.specs.Spans.{map_forest, map_optional, map_tree}
use Rattle.jl_ast.specs.Tree as tree
use Rattle.jl_ast.specs.Tree.{Forest, OptionalTree, Text, Tree}
use Rattle.jl_scope.specs.Names.{among}
use Rattle.jl_value.specs.Tests.{is_nothing}
use Rattle.jl_value.specs.declared.ending.Completion.{Completion}
use Rattle.jl_value.specs.declared.ending.Completion.TheVariants as completion
use Rattle.jl_value.specs.declared.value.Value.{Value}
use Rattle.jl_value.specs.declared.value.Value.TheVariants as value
use Rattle.jl_heap.specs.Objects.{Name}
use Rattle.jl_heap.specs.declared.inner.Inner.{Inner}
use Rattle.jl_meaning.specs.Conversions.{to_object}
use Rattle.jl_meaning.specs.FunctionObjects.{callee_of, FunctionTable}
use Rattle.jl_meaning.specs.Parts.{do_loop, for_in_loop, for_loop, while_loop, Context, Loop, Part, Stmt, Stmts, Turn}
use Rattle.jl_meaning.specs.Parts.{Visit}
use Rattle.jl_meaning.specs.References.{put_name}
use Rattle.jl_meaning.specs.Statements.{execute, execute_all, execute_branch, execute_from, handle, select, test_loop}
use Rattle.jl_meaning.specs.Statements.{turn, update_loop}
use Rattle.jl_meaning.specs.forms.Jumps.{after_labelled, return_value, throw_value}
use Rattle.jl_meaning.specs.forms.Loops.{after_body, begin_loop, visit_all, visit_first, visit_next, visits_left}
use Rattle.jl_meaning.specs.forms.Loops.{visits_of}
use Rattle.jl_meaning.specs.forms.Simple.{begin_for, declare, declare_all}
use Rattle.jl_meaning.specs.forms.Switch.{after_switch, default_of}
use Rattle.jl_meaning.specs.forms.Try.{begin_catch, unless_abrupt}
use Rattle.jl_operation_rows.proofs.Pairs.{begins, changes, ends, looks, steps}
use Rattle.jl_operation_rows.proofs.Renaming.{algorithm, at_first, at_place, bind, ending, map_loop, map_turn, perform}
use Rattle.jl_operation_rows.proofs.Renaming.{pick}
use Rattle.jl_operation_rows.proofs.Renaming.{same_turn, second_is, sequence, then_same, value_then, Renaming, Same}
use Rattle.jl_operation_rows.proofs.Renaming.{Twin}
use Rattle.jl_operation_rows.proofs.SameExpressions.{evaluate_same}
use Rattle.jl_operation_rows.proofs.SameForms.{assign_same, decide_by_same, decide_same, unless_same}

-- LOOPS AND JUMPS
module _ {r : Renaming} where
  after_same : (labels : List Text) {next next' : Part Completion} → Same r next next' → (how : Completion)
      → Same r (after_body labels next how) (after_body labels next' how)
  after_same labels x completion.Normal = x
  after_same labels x (completion.Continue None) = x
  after_same labels x (completion.Continue (Some l)) = pick (among l labels) x ends
  after_same labels x (completion.Break None) = ends
  after_same labels x (completion.Break (Some l)) = ends
  after_same labels x (completion.Return v) = ends
  after_same labels x (completion.Throw v) = ends

  return_same : {i j : ℕ} → Twin r i j → (v : Value) → Same r (return_value i v) (return_value j v)
  unfolding return_value
  return_same h v = perform h ends

  throw_same : {i j : ℕ} → Twin r i j → (v : Value) → Same r (throw_value i v) (throw_value j v)
  unfolding throw_value
  throw_same h v = perform h ends

  catch_same : {i j : ℕ} → Twin r i j → (env : ℕ) (x : Name) (v : Value)
      → Same r (begin_catch i env x v) (begin_catch j env x v)
  unfolding begin_catch
  catch_same h env x v = looks (λ s. changes (changes (perform h ends)))

module _ (r : Renaming) where
  loop_same : (l : Loop) (c : Context) (labels : List Text) (s : ℕ)
      → Same r (begin_loop (map_loop r.from l) c labels (r.from s)) (begin_loop (map_loop r.to l) c labels (r.to s))
  loop_same l c labels s =
      begins (same_turn (record { loop = l; context = c; labels = labels; id = s })) (λ end. ends)

  first_same : (x : Text) (l : Stmts) (c : Context) (labels : List Text) (s : ℕ) (visits : List Visit)
      → Same r (visit_first x (map_forest r.from l) c labels (r.from s) visits)
      (visit_first x (map_forest r.to l) c labels (r.to s) visits)
  first_same x l c labels s [] = ends
  first_same x l c labels s (v ∷ rest) = loop_same (for_in_loop x v.name rest l) c labels s

  visit_same : (x : Text) (l : Stmts) (c : Context) (labels : List Text) (s : ℕ) (visits : List Visit)
      → Same r (visit_next x (map_forest r.from l) c labels (r.from s) visits)
      (visit_next x (map_forest r.to l) c labels (r.to s) visits)
  unfolding visit_next
  visit_same x l c labels s visits =
      looks (λ store. first_same x l c labels s (visits_left store.heap visits))

  visit_all_same : (x : Text) (l : Stmts) (c : Context) (labels : List Text) (s : ℕ) (v : Value)
      → Same r (visit_all x (map_forest r.from l) c labels (r.from s) v)
      (visit_all x (map_forest r.to l) c labels (r.to s) v)
  unfolding visit_all
  visit_all_same x l c labels s v =
      pick (is_nothing v) ends (value_then (algorithm (to_object v)) (λ object.
      looks (λ store. visit_same x l c labels s (visits_of store.heap object.0))))

  default_same : (l : Forest ℕ tree.clause) → default_of (map_forest r.from l) ≡ default_of (map_forest r.to l)
  default_same tree.end = refl
  default_same (tree.more (tree.case tree.absent b) l) = refl
  default_same (tree.more (tree.case (tree.present e) b) l) = ap (option_map suc) (default_same l)

module _ (r : Renaming) (table table' : FunctionTable)
    (same : (i : Inner) → callee_of table i ≡ callee_of table' i) where
  abbrev old : {x : tree.Sort} → Tree ℕ x → Tree ℕ x
  old t = map_tree r.from t

  abbrev new : {x : tree.Sort} → Tree ℕ x → Tree ℕ x
  new t = map_tree r.to t

  abbrev olds : {x : tree.Sort} → Forest ℕ x → Forest ℕ x
  olds l = map_forest r.from l

  abbrev news : {x : tree.Sort} → Forest ℕ x → Forest ℕ x
  news l = map_forest r.to l

  declarator_same : (d : Tree ℕ tree.decl) (c : Context) → Same r (declare table (old d) c) (declare table' (new d) c)
  declarator_same (tree.declarator x tree.absent) c = ends
  declarator_same (tree.declarator x (tree.present e)) c =
      bind (assign_same (at_first r x.at) c x.text (evaluate_same r table table' same e c)) (λ v. ends)

  declare_same : (l : Forest ℕ tree.decl) (c : Context)
      → Same r (declare_all table (olds l) c) (declare_all table' (news l) c)
  declare_same tree.end c = ends
  declare_same (tree.more d l) c = bind (declarator_same d c) (λ done. declare_same l c)

  begin_same : (i : Tree ℕ tree.init) (c : Context) → Same r (begin_for table (old i) c) (begin_for table' (new i) c)
  begin_same tree.nothing c = ends
  begin_same (tree.init_expression e) c = bind (evaluate_same r table table' same e c) (λ v. ends)
  begin_same (tree.init_var l) c = declare_same l c

  -- which case a `switch` selects
  select_same : (k : ℕ) (l : Forest ℕ tree.clause) (v : Value) (c : Context)
      → Same r (select table k (olds l) v c) (select table' k (news l) v c)
  select_same k tree.end v c = ends
  select_same k (tree.more (tree.case tree.absent b) l) v c = select_same (k + 1) l v c
  select_same k (tree.more (tree.case (tree.present e) b) l) v c =
      bind (bind (evaluate_same r table table' same e c) (λ w. ends)) (λ selected.
      pick selected ends (select_same (k + 1) l v c))

  mutual
    pub execute_same : (a : Stmt) (labels : List Text) (c : Context)
        → Same r (execute table (old a) labels c) (execute table' (new a) labels c)
    execute_same (tree.var l s) labels c = steps (value_then (declare_same l c) (λ done. ends))
    execute_same (tree.empty s) labels c = steps ends
    execute_same (tree.expression e s) labels c =
        steps (value_then (evaluate_same r table table' same e c) (λ v. ends))
    execute_same (tree.block l s) labels c = steps (execute_all_same l c)
    execute_same (tree.if_else e a b s) labels c =
        steps (value_then (evaluate_same r table table' same e c) (λ v.
        value_then (decide_same (at_place r s) v) (λ truth. pick truth (execute_all_same a c) (branch_same b c))))
    execute_same (tree.do_while l e s) labels c = steps (loop_same r (do_loop l e) c labels s)
    execute_same (tree.while e l s) labels c = steps (loop_same r (while_loop e l) c labels s)
    execute_same (tree.for i e u l s) labels c =
        steps (value_then (begin_same i c) (λ done. loop_same r (for_loop e u l) c labels s))
    execute_same (tree.for_in is_var x o l s) labels c =
        steps (value_then (evaluate_same r table table' same o c) (λ v.
        perform (at_first r s) (visit_all_same r x.text l c labels s v)))
    execute_same (tree.continue None s) labels c = steps ends
    execute_same (tree.continue (Some x) s) labels c = steps ends
    execute_same (tree.break None s) labels c = steps ends
    execute_same (tree.break (Some x) s) labels c = steps ends
    execute_same (tree.return tree.absent s) labels c = steps ends
    execute_same (tree.return (tree.present e) s) labels c =
        steps (value_then (evaluate_same r table table' same e c) (λ v. return_same (at_first r s) v))
    execute_same (tree.throw e s) labels c =
        steps (value_then (evaluate_same r table table' same e c) (λ v. throw_same (at_first r s) v))
    execute_same (tree.labelled x t s) labels c =
        steps (ending (after_labelled x.text) (execute_same t (x.text ∷ labels) c))
    execute_same (tree.switch e l s) labels c =
        steps (value_then (evaluate_same r table table' same e c) (λ v.
        value_then (select_same 0 l v c) (λ selected.
        ending after_switch (second_is
        (ap (λ k. execute_from table' (option_or selected k) (news l) c) (default_same r l))
        (from_same (option_or selected (default_of (olds l))) l c)))))
    execute_same (tree.try l h f s) labels c =
        steps (then_same (execute_all_same l c) (λ tried. then_same (handle_same h tried c) (λ handled.
        ending (unless_abrupt handled) (branch_same f c))))
    execute_same (tree.debugger s) labels c = steps ends

    pub execute_all_same : (l : Stmts) (c : Context)
        → Same r (execute_all table (olds l) c) (execute_all table' (news l) c)
    execute_all_same tree.end c = ends
    execute_all_same (tree.more t l) c = sequence (execute_same t [] c) (execute_all_same l c)

    branch_same : (o : OptionalTree ℕ tree.branch) (c : Context)
        → Same r (execute_branch table (map_optional r.from o) c) (execute_branch table' (map_optional r.to o) c)
    branch_same tree.absent c = ends
    branch_same (tree.present (tree.branch_of l)) c = execute_all_same l c

    handle_same : (h : OptionalTree ℕ tree.handler) (tried : Completion) (c : Context)
        → Same r (handle table (map_optional r.from h) tried c) (handle table' (map_optional r.to h) tried c)
    handle_same (tree.present (tree.catch x l)) (completion.Throw v) c =
        value_then (catch_same (at_first r x.at) c.env x.text v) (λ inside.
        execute_all_same l (record c { env = inside }))
    handle_same tree.absent tried c = ends
    handle_same (tree.present (tree.catch x l)) completion.Normal c = ends
    handle_same (tree.present (tree.catch x l)) (completion.Return v) c = ends
    handle_same (tree.present (tree.catch x l)) (completion.Break y) c = ends
    handle_same (tree.present (tree.catch x l)) (completion.Continue y) c = ends

    from_same : (k : Option ℕ) (l : Forest ℕ tree.clause) (c : Context)
        → Same r (execute_from table k (olds l) c) (execute_from table' k (news l) c)
    from_same None tree.end c = ends
    from_same None (tree.more t l) c = ends
    from_same (Some k) tree.end c = ends
    from_same (Some zero) (tree.more (tree.case e b) l) c =
        sequence (execute_all_same b c) (from_same (Some 0) l c)
    from_same (Some (suc k)) (tree.more (tree.case e b) l) c = from_same (Some k) l c

  -- TURNS
  test_same : (e : OptionalTree ℕ tree.expr) (s : ℕ) (c : Context)
      → Same r (test_loop table (map_optional r.from e) (r.from s) c)
      (test_loop table' (map_optional r.to e) (r.to s) c)
  test_same tree.absent s c = ends
  test_same (tree.present e) s c = decide_by_same (at_place r s) (evaluate_same r table table' same e c)

  update_same : (u : OptionalTree ℕ tree.expr) (c : Context)
      → Same r (update_loop table (map_optional r.from u) c) (update_loop table' (map_optional r.to u) c)
  update_same tree.absent c = ends
  update_same (tree.present e) c = value_then (evaluate_same r table table' same e c) (λ v. ends)

  abbrev turn_with : Loop → Context → (labels : List Text) → (s : ℕ) → Turn
  turn_with l c labels s = record { loop = l; context = c; labels = labels; id = s }

  turn_of_same : (l : Loop) (c : Context) (labels : List Text) (s : ℕ)
      → Same r (turn table (map_turn r.from (turn_with l c labels s)))
      (turn table' (map_turn r.to (turn_with l c labels s)))
  turn_of_same (do_loop l e) c labels s =
      then_same (execute_all_same l c) (after_same labels
      (value_then (test_same (tree.present e) s c) (λ truth.
      pick truth (loop_same r (do_loop l e) c labels s) ends)))
  turn_of_same (while_loop e l) c labels s =
      value_then (test_same (tree.present e) s c) (λ truth. pick truth
      (then_same (execute_all_same l c) (after_same labels (loop_same r (while_loop e l) c labels s))) ends)
  turn_of_same (for_loop e u l) c labels s =
      value_then (test_same e s c) (λ truth. pick truth
      (then_same (execute_all_same l c) (after_same labels
      (sequence (update_same u c) (loop_same r (for_loop e u l) c labels s)))) ends)
  turn_of_same (for_in_loop x y rest l) c labels s =
      value_then (unless_same x (algorithm (put_name c.strict c.env x (value.Text y)))) (λ done.
      then_same (execute_all_same l c) (after_same labels (visit_same r x l c labels s rest)))

  pub turn_same : (t : Turn) → Same r (turn table (map_turn r.from t)) (turn table' (map_turn r.to t))
  turn_same t = turn_of_same t.loop t.context t.labels t.id
