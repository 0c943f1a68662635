-- Statements perform the operations of their rows.
use Rattle.std.proofs.Common.{ℕ, ◌+◌, ◌++◌, List, [], ◌∷◌, Option, Some, None, zero, suc, true}
use Rattle.std.specs.Option.{option_or}
use Rattle.jl_ast.specs.Tree as tree
use Rattle.jl_ast.specs.Tree.{Forest, OptionalTree, Text, Tree}
use Rattle.jl_value.specs.declared.ending.Completion.{Completion}
use Rattle.jl_value.specs.declared.ending.Completion.TheVariants as completion
use Rattle.jl_value.specs.declared.value.Value.{Value}
use Rattle.jl_value.specs.declared.value.Value.TheVariants as value
use Rattle.jl_conv.specs.Comparisons.{strictly_equal}
use Rattle.jl_op.specs.IdMap.{optional_test_entries, MapEntry}
use Rattle.jl_op.specs.declared.kind.OpKind.TheVariants as kind
use Rattle.jl_meaning.specs.FunctionObjects.{FunctionTable}
use Rattle.jl_meaning.specs.Parts.{do_loop, for_in_loop, for_loop, while_loop, Context, Loop, Stmt, Stmts, Turn}
use Rattle.jl_meaning.specs.References.{put_name}
use Rattle.jl_meaning.specs.Statements.{execute, execute_all, execute_branch, execute_from, handle, select, test_loop}
use Rattle.jl_meaning.specs.Statements.{turn, update_loop}
use Rattle.jl_meaning.specs.forms.Jumps.{after_labelled}
use Rattle.jl_meaning.specs.forms.Simple.{begin_for, declare, declare_all}
use Rattle.jl_meaning.specs.forms.Switch.{after_switch, default_of}
use Rattle.jl_meaning.specs.forms.Try.{unless_abrupt}
use Rattle.jl_operation_rows.proofs.Expressions.{evaluate_told}
use Rattle.jl_operation_rows.proofs.Forms.{assign_told, decide_by_told, decide_told, unless_told}
use Rattle.jl_operation_rows.proofs.Loops.{after_told, catch_told, loop_told, return_told, throw_told, visit_all_told}
use Rattle.jl_operation_rows.proofs.Loops.{visit_told}
use Rattle.jl_operation_rows.proofs.Relation.{algorithm, bind, by_id, ended, ending, in_a_row, ok, perform_told, pick}
use Rattle.jl_operation_rows.proofs.Relation.{sequence}
use Rattle.jl_operation_rows.proofs.Relation.{step_told, value_then, AllRows, LoopRows, Rows, RowsIfPresent, TestRows}
use Rattle.jl_operation_rows.proofs.Relation.{Told}
use Rattle.jl_operation_rows.proofs.Seeing.{one_seen}
use Rattle.jl_operation_rows.proofs.Splitting.{of, of_all, of_any, split}

module _ (IsRow : MapEntry ℕ → Type 0) (table : FunctionTable) where
  declarator_told : (d : Tree ℕ tree.decl) → Rows IsRow d → (c : Context) → Told IsRow (declare table d c)
  declarator_told (tree.declarator x tree.absent) h c = ok tt
  declarator_told (tree.declarator x (tree.present e)) h c =
      bind (assign_told x.at c x.text h.0 (evaluate_told IsRow table e h.1 c)) (λ v. ok tt)

  declare_told : (l : Forest ℕ tree.decl) → AllRows IsRow l → (c : Context) → Told IsRow (declare_all table l c)
  declare_told tree.end h c = ok tt
  declare_told (tree.more d l) h c =
      let r = split IsRow (of d) (of_all l) h in bind (declarator_told d r.0 c) (λ done. declare_told l r.1 c)

  begin_told : (i : Tree ℕ tree.init) → Rows IsRow i → (c : Context) → Told IsRow (begin_for table i c)
  begin_told tree.nothing h c = ok tt
  begin_told (tree.init_expression e) h c = bind (evaluate_told IsRow table e h c) (λ v. ok tt)
  begin_told (tree.init_var l) h c = declare_told l h c

  -- which case a `switch` selects
  select_told : (k : ℕ) (l : Forest ℕ tree.clause) → AllRows IsRow l → (v : Value) (c : Context)
      → Told IsRow (select table k l v c)
  select_told k tree.end h v c = ok None
  select_told k (tree.more (tree.case tree.absent b) l) h v c =
      select_told (k + 1) l (split IsRow (of_all b) (of_all l) h).1 v c
  select_told k (tree.more (tree.case (tree.present e) b) l) h v c =
      let r = split IsRow (of e ++ of_all b) (of_all l) h in
      let q = split IsRow (of e) (of_all b) r.0 in
      bind (bind (evaluate_told IsRow table e q.0 c) (λ w. ok (strictly_equal v w))) (λ selected.
      pick selected (ok (Some k)) (select_told (k + 1) l r.1 v c))

  -- the rows of a `catch`
  abbrev HandlerRows : Tree ℕ tree.handler → Type 0
  HandlerRows (tree.catch x l) = IsRow (kind.Catch, x.at) × AllRows IsRow l

  mutual
    pub execute_told : (t : Stmt) (own : List Text) → Rows IsRow t → (c : Context)
        → Told IsRow (execute table t own c)
    execute_told (tree.var l id) own h c =
        step_told (value_then (declare_told l h c) (λ done. ended completion.Normal))
    execute_told (tree.empty id) own h c = step_told (ended completion.Normal)
    execute_told (tree.expression e id) own h c =
        step_told (value_then (evaluate_told IsRow table e h c) (λ v. ended completion.Normal))
    execute_told (tree.block l id) own h c = step_told (execute_all_told l h c)
    execute_told (tree.if_else e l b id) own h c =
        let r = split IsRow (of e ++ of_all l) (of_any b) h.1 in
        let q = split IsRow (of e) (of_all l) r.0 in
        step_told (value_then (evaluate_told IsRow table e q.0 c) (λ v. value_then (decide_told id v h.0) (λ truth.
        pick truth (execute_all_told l q.1 c) (branch_told b r.1 c))))
    execute_told (tree.do_while l e id) own h c =
        let r = split IsRow (of_all l) (of e) h.1 in step_told (loop_told (do_loop l e) c own id (h.0, r.0, r.1))
    execute_told (tree.while e l id) own h c =
        let r = split IsRow (of e) (of_all l) h.1 in step_told (loop_told (while_loop e l) c own id (h.0, r.1, r.0))
    execute_told (tree.for i e u l id) own h c =
        let t = optional_test_entries by_id id e in
        let r = split IsRow (t ++ of i ++ of_any e ++ of_any u) (of_all l) h in
        let q = split IsRow (t ++ of i ++ of_any e) (of_any u) r.0 in
        let n = split IsRow (t ++ of i) (of_any e) q.0 in
        let m = split IsRow t (of i) n.0 in
        step_told (value_then (begin_told i m.1 c) (λ done.
        loop_told (for_loop e u l) c own id (m.0, r.1, n.1, q.1)))
    execute_told (tree.for_in is_var x o l id) own h c =
        let r = split IsRow (of o) (of_all l) h.1 in
        step_told (value_then (evaluate_told IsRow table o r.0 c) (λ v.
        perform_told (λ s. (h.0, one_seen s.heap v)) (visit_all_told x.text l c own id v r.1)))
    execute_told (tree.continue x id) own h c = step_told (ended _)
    execute_told (tree.break x id) own h c = step_told (ended _)
    execute_told (tree.return tree.absent id) own h c = step_told (ended _)
    execute_told (tree.return (tree.present e) id) own h c =
        step_told (value_then (evaluate_told IsRow table e h.1 c) (λ v. return_told id v h.0))
    execute_told (tree.throw e id) own h c =
        step_told (value_then (evaluate_told IsRow table e h.1 c) (λ v. throw_told id v h.0))
    execute_told (tree.labelled x t id) own h c =
        step_told (ending (after_labelled x.text) (execute_told t (x.text ∷ own) h c))
    execute_told (tree.switch e l id) own h c =
        let r = split IsRow (of e) (of_all l) h in
        step_told (value_then (evaluate_told IsRow table e r.0 c) (λ v.
        value_then (select_told 0 l r.1 v c) (λ selected.
        ending after_switch (from_told (option_or selected (default_of l)) l r.1 c))))
    execute_told (tree.try l tree.absent f id) own h c =
        let r = split IsRow (of_all l) (of_any f) h in
        step_told (in_a_row (execute_all_told l r.0 c) (λ tried.
        in_a_row (ended tried) (λ handled. ending (unless_abrupt handled) (branch_told f r.1 c))))
    execute_told (tree.try l (tree.present (tree.catch x b)) f id) own h c =
        let r = split IsRow (of_all l ++ of_all b) (of_any f) h.1 in
        let q = split IsRow (of_all l) (of_all b) r.0 in
        step_told (in_a_row (execute_all_told l q.0 c) (λ tried.
        in_a_row (caught (tree.catch x b) (h.0, q.1) tried c) (λ handled.
        ending (unless_abrupt handled) (branch_told f r.1 c))))
    execute_told (tree.debugger id) own h c = step_told (ended completion.Normal)

    pub execute_all_told : (l : Stmts) → AllRows IsRow l → (c : Context) → Told IsRow (execute_all table l c)
    execute_all_told tree.end h c = ended completion.Normal
    execute_all_told (tree.more t l) h c =
        let r = split IsRow (of t) (of_all l) h in sequence (execute_told t [] r.0 c) (execute_all_told l r.1 c)

    branch_told : (b : OptionalTree ℕ tree.branch) → RowsIfPresent IsRow b → (c : Context)
        → Told IsRow (execute_branch table b c)
    branch_told tree.absent h c = ended completion.Normal
    branch_told (tree.present (tree.branch_of l)) h c = execute_all_told l h c

    caught : (b : Tree ℕ tree.handler) → HandlerRows b → (tried : Completion) (c : Context)
        → Told IsRow (handle table (tree.present b) tried c)
    caught (tree.catch x l) h (completion.Throw v) c =
        value_then (catch_told x.at c.env x.text v h.0) (λ inside. execute_all_told l h.1 (record c { env = inside }))
    caught (tree.catch x l) h completion.Normal c = ended _
    caught (tree.catch x l) h (completion.Return v) c = ended _
    caught (tree.catch x l) h (completion.Break y) c = ended _
    caught (tree.catch x l) h (completion.Continue y) c = ended _

    from_told : (k : Option ℕ) (l : Forest ℕ tree.clause) → AllRows IsRow l → (c : Context)
        → Told IsRow (execute_from table k l c)
    from_told None tree.end h c = ended completion.Normal
    from_told None (tree.more t l) h c = ended completion.Normal
    from_told (Some k) tree.end h c = ended completion.Normal
    from_told (Some zero) (tree.more (tree.case e b) l) h c =
        let r = split IsRow (of_any e ++ of_all b) (of_all l) h in
        let q = split IsRow (of_any e) (of_all b) r.0 in
        sequence (execute_all_told b q.1 c) (from_told (Some 0) l r.1 c)
    from_told (Some (suc k)) (tree.more (tree.case e b) l) h c =
        from_told (Some k) l (split IsRow (of_any e ++ of_all b) (of_all l) h).1 c

  -- TURNS
  test_told : (e : OptionalTree ℕ tree.expr) (id : ℕ) → TestRows IsRow id e → RowsIfPresent IsRow e → (c : Context)
      → Told IsRow (test_loop table e id c)
  test_told tree.absent id h r c = ok true
  test_told (tree.present e) id h r c = decide_by_told id h.0 (evaluate_told IsRow table e r c)

  update_told : (u : OptionalTree ℕ tree.expr) → RowsIfPresent IsRow u → (c : Context)
      → Told IsRow (update_loop table u c)
  update_told tree.absent h c = ended completion.Normal
  update_told (tree.present e) h c =
      value_then (evaluate_told IsRow table e h c) (λ v. ended completion.Normal)

  turn_with : (l : Loop) (c : Context) (own : List Text) (id : ℕ) → LoopRows IsRow l id
      → Told IsRow (turn table (record { loop = l; context = c; labels = own; id = id }))
  turn_with (do_loop l e) c own id h =
      in_a_row (execute_all_told l h.1 c) (after_told own
      (value_then (test_told (tree.present e) id (h.0, tt) h.2 c) (λ truth.
      pick truth (loop_told (do_loop l e) c own id h) (ended completion.Normal))))
  turn_with (while_loop e l) c own id h =
      value_then (test_told (tree.present e) id (h.0, tt) h.2 c) (λ truth. pick truth
      (in_a_row (execute_all_told l h.1 c) (after_told own (loop_told (while_loop e l) c own id h)))
      (ended completion.Normal))
  turn_with (for_loop e u l) c own id h =
      value_then (test_told e id h.0 h.2 c) (λ truth. pick truth
      (in_a_row (execute_all_told l h.1 c) (after_told own
      (sequence (update_told u h.3 c) (loop_told (for_loop e u l) c own id h)))) (ended completion.Normal))
  turn_with (for_in_loop x y rest l) c own id h =
      value_then (unless_told x (algorithm (put_name c.strict c.env x (value.Text y)))) (λ done.
      in_a_row (execute_all_told l h c) (after_told own (visit_told x l c own id rest h)))

  pub turn_told : (t : Turn) → LoopRows IsRow t.loop t.id → Told IsRow (turn table t)
  turn_told t h = turn_with t.loop t.context t.labels t.id h
