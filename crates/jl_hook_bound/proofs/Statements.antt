-- Statements pay for what hooks emit in them.
use Rattle.std.proofs.Common.{ℕ, ◌+◌, List, [], ◌∷◌, Option, Some, None, zero, suc, true}
use Rattle.std.specs.Option.{option_or}
use Rattle.jl_ast.specs.Tree as tree
use Rattle.jl_ast.specs.Tree.{Forest, OptionalTree, Text, Tree}
use Rattle.jl_value.specs.declared.ending.Completion.{Completion}
use Rattle.jl_value.specs.declared.ending.Completion.TheVariants as completion
use Rattle.jl_value.specs.declared.value.Value.{Value}
use Rattle.jl_value.specs.declared.value.Value.TheVariants as value
use Rattle.jl_conv.specs.Comparisons.{strictly_equal}
use Rattle.jl_meaning.specs.FunctionObjects.{FunctionTable}
use Rattle.jl_meaning.specs.Parts.{do_loop, for_in_loop, for_loop, while_loop, Context, Loop, Stmt, Stmts, Turn}
use Rattle.jl_meaning.specs.References.{put_name}
use Rattle.jl_meaning.specs.Statements.{execute, execute_all, execute_branch, execute_from, handle, select, test_loop}
use Rattle.jl_meaning.specs.Statements.{turn, turn_of, update_loop}
use Rattle.jl_meaning.specs.forms.Jumps.{after_labelled}
use Rattle.jl_meaning.specs.forms.Simple.{begin_for, declare, declare_all}
use Rattle.jl_meaning.specs.forms.Switch.{after_switch, default_of}
use Rattle.jl_meaning.specs.forms.Try.{unless_abrupt}
use Rattle.jl_hook_bound.proofs.Expressions.{evaluate_earns}
use Rattle.jl_hook_bound.proofs.Forms.{assign_free, decide_by_free, decide_free, unless_free}
use Rattle.jl_hook_bound.proofs.Loops.{after_free, catch_free, loop_free, return_free, throw_free, visit_all_free, visit_free}
use Rattle.jl_hook_bound.proofs.Relation.{algorithm, bind, ended, ending, free, in_a_row, ok, perform_paid, pick, sequence}
use Rattle.jl_hook_bound.proofs.Relation.{step_free, value_then, Paid}

module _ (table : FunctionTable) where
  declarator_free : (l : Tree ℕ tree.decl) (c : Context) → Paid 0 0 (declare table l c)
  declarator_free (tree.declarator x tree.absent) c = ok tt
  declarator_free (tree.declarator x (tree.present e)) c =
      bind (assign_free x.at c x.text (free (evaluate_earns table e c))) (λ v. ok tt)

  declare_free : (l : Forest ℕ tree.decl) (c : Context) → Paid 0 0 (declare_all table l c)
  declare_free tree.end c = ok tt
  declare_free (tree.more d l) c = bind (declarator_free d c) (λ done. declare_free l c)

  begin_free : (i : Tree ℕ tree.init) (c : Context) → Paid 0 0 (begin_for table i c)
  begin_free tree.nothing c = ok tt
  begin_free (tree.init_expression e) c = bind (free (evaluate_earns table e c)) (λ v. ok tt)
  begin_free (tree.init_var l) c = declare_free l c

  -- which case a `switch` selects
  select_free : (k : ℕ) (l : Forest ℕ tree.clause) (v : Value) (c : Context) → Paid 0 0 (select table k l v c)
  select_free k tree.end v c = ok None
  select_free k (tree.more (tree.case tree.absent b) l) v c = select_free (k + 1) l v c
  select_free k (tree.more (tree.case (tree.present e) b) l) v c =
      bind (bind (free (evaluate_earns table e c)) (λ w. ok (strictly_equal v w))) (λ selected.
      pick selected (ok (Some k)) (select_free (k + 1) l v c))

  mutual
    pub execute_free : (t : Stmt) (own : List Text) (c : Context) → Paid 0 0 (execute table t own c)
    execute_free (tree.var l id) own c = step_free (value_then (declare_free l c) (λ done. ended completion.Normal))
    execute_free (tree.empty id) own c = step_free (ended completion.Normal)
    execute_free (tree.expression e id) own c =
        step_free (value_then (free (evaluate_earns table e c)) (λ v. ended completion.Normal))
    execute_free (tree.block l id) own c = step_free (execute_all_free l c)
    execute_free (tree.if_else e l b id) own c =
        step_free (value_then (free (evaluate_earns table e c)) (λ v. value_then (decide_free id v) (λ truth.
        pick truth (execute_all_free l c) (branch_free b c))))
    execute_free (tree.do_while l e id) own c = step_free (loop_free (do_loop l e) c own id)
    execute_free (tree.while e l id) own c = step_free (loop_free (while_loop e l) c own id)
    execute_free (tree.for i e u l id) own c =
        step_free (value_then (begin_free i c) (λ done. loop_free (for_loop e u l) c own id))
    execute_free (tree.for_in is_var x o l id) own c =
        step_free (value_then (free (evaluate_earns table o c)) (λ v.
        perform_paid (visit_all_free x.text l c own id v)))
    execute_free (tree.continue x id) own c = step_free (ended _)
    execute_free (tree.break x id) own c = step_free (ended _)
    execute_free (tree.return tree.absent id) own c = step_free (ended _)
    execute_free (tree.return (tree.present e) id) own c =
        step_free (value_then (free (evaluate_earns table e c)) (λ v. return_free id v))
    execute_free (tree.throw e id) own c =
        step_free (value_then (free (evaluate_earns table e c)) (λ v. throw_free id v))
    execute_free (tree.labelled x t id) own c =
        step_free (ending (after_labelled x.text) (execute_free t (x.text ∷ own) c))
    execute_free (tree.switch e l id) own c =
        step_free (value_then (free (evaluate_earns table e c)) (λ v.
        value_then (select_free 0 l v c) (λ selected.
        ending after_switch (from_free (option_or selected (default_of l)) l c))))
    execute_free (tree.try l b f id) own c =
        step_free (in_a_row (execute_all_free l c) (λ tried.
        in_a_row (handle_free b tried c) (λ handled.
        ending (unless_abrupt handled) (branch_free f c))))
    execute_free (tree.debugger id) own c = step_free (ended completion.Normal)

    pub execute_all_free : (l : Stmts) (c : Context) → Paid 0 0 (execute_all table l c)
    execute_all_free tree.end c = ended completion.Normal
    execute_all_free (tree.more t l) c = sequence (execute_free t [] c) (execute_all_free l c)

    branch_free : (b : OptionalTree ℕ tree.branch) (c : Context) → Paid 0 0 (execute_branch table b c)
    branch_free tree.absent c = ended completion.Normal
    branch_free (tree.present (tree.branch_of l)) c = execute_all_free l c

    handle_free : (b : OptionalTree ℕ tree.handler) (tried : Completion) (c : Context)
        → Paid 0 0 (handle table b tried c)
    handle_free (tree.present (tree.catch x l)) (completion.Throw v) c =
        value_then (catch_free x.at c.env x.text v) (λ inside. execute_all_free l (record c { env = inside }))
    handle_free b tried c = ended tried

    from_free : (k : Option ℕ) (l : Forest ℕ tree.clause) (c : Context) → Paid 0 0 (execute_from table k l c)
    from_free None tree.end c = ended completion.Normal
    from_free None (tree.more t l) c = ended completion.Normal
    from_free (Some k) tree.end c = ended completion.Normal
    from_free (Some zero) (tree.more (tree.case e b) l) c = sequence (execute_all_free b c) (from_free (Some 0) l c)
    from_free (Some (suc k)) (tree.more (tree.case e b) l) c = from_free (Some k) l c

  -- TURNS
  test_free : (e : OptionalTree ℕ tree.expr) (id : ℕ) (c : Context) → Paid 0 0 (test_loop table e id c)
  test_free tree.absent id c = ok true
  test_free (tree.present e) id c = decide_by_free id (free (evaluate_earns table e c))

  update_free : (u : OptionalTree ℕ tree.expr) (c : Context) → Paid 0 0 (update_loop table u c)
  update_free tree.absent c = ended completion.Normal
  update_free (tree.present e) c = value_then (free (evaluate_earns table e c)) (λ v. ended completion.Normal)

  turn_of_free : (l : Loop) (t : Turn) → Paid 0 0 (turn_of table l t)
  turn_of_free (do_loop l e) t =
      in_a_row (execute_all_free l t.context) (after_free t.labels
      (value_then (test_free (tree.present e) t.id t.context) (λ truth.
      pick truth (loop_free t.loop t.context t.labels t.id) (ended completion.Normal))))
  turn_of_free (while_loop e l) t =
      value_then (test_free (tree.present e) t.id t.context) (λ truth. pick truth
      (in_a_row (execute_all_free l t.context)
      (after_free t.labels (loop_free t.loop t.context t.labels t.id))) (ended completion.Normal))
  turn_of_free (for_loop e u l) t =
      value_then (test_free e t.id t.context) (λ truth. pick truth
      (in_a_row (execute_all_free l t.context) (after_free t.labels
      (sequence (update_free u t.context) (loop_free t.loop t.context t.labels t.id)))) (ended completion.Normal))
  turn_of_free (for_in_loop x y rest l) t =
      value_then (unless_free x (algorithm (put_name t.context.strict t.context.env x (value.Text y)))) (λ done.
      in_a_row (execute_all_free l t.context)
      (after_free t.labels (visit_free x l t.context t.labels t.id rest)))

  pub turn_free : (t : Turn) → Paid 0 0 (turn table t)
  turn_free t = turn_of_free t.loop t
