-- Sound statements whose jumps fit complete only as what stands round them allows, and fail by no Misuse.
use Rattle.std.proofs.Common.{ℕ, ◌+◌, List, [], ◌∷◌, Option, Some, None, zero, suc}
use Rattle.std.specs.Option.{option_or}
use Rattle.jl_ast.specs.Tree as tree
use Rattle.jl_ast.specs.Tree.{Forest, OptionalTree, Text, Tree}
use Rattle.jl_value.specs.declared.ending.Completion.{Completion}
use Rattle.jl_value.specs.declared.ending.Completion.TheVariants as completion
use Rattle.jl_value.specs.declared.value.Value.{Value}
use Rattle.jl_conv.specs.Comparisons.{strictly_equal}
use Rattle.jl_meaning.specs.FunctionObjects.{FunctionTable}
use Rattle.jl_meaning.specs.Parts.{do_loop, for_loop, while_loop, Context, Stmt, Stmts}
use Rattle.jl_meaning.specs.Statements.{execute, execute_all, execute_branch, execute_from, handle, select}
use Rattle.jl_meaning.specs.forms.Jumps.{after_labelled}
use Rattle.jl_meaning.specs.forms.Simple.{begin_for, declare, declare_all}
use Rattle.jl_meaning.specs.forms.Switch.{after_switch, default_of}
use Rattle.jl_meaning.specs.forms.Try.{unless_abrupt}
use Rattle.jl_safety.specs.inner.Jumps.{in_a_switch, under_label, AllJumpsFit, Around, BranchFits, ClausesFit}
use Rattle.jl_safety.specs.inner.Jumps.{HandlerFits, JumpsFit, MayComplete}
use Rattle.jl_safety.specs.inner.Sound.{AreSound, IsSound, IsSoundIfPresent}
use Rattle.jl_safety.proofs.Expressions.{evaluate_safe}
use Rattle.jl_safety.proofs.Forms.{assign_safe, decide_safe}
use Rattle.jl_safety.proofs.Loops.{catch_safe, finally_leaves, label_takes, loop_safe, return_safe, switch_takes}
use Rattle.jl_safety.proofs.Loops.{throw_safe, visit_all_safe}
use Rattle.jl_safety.proofs.Relation.{bind, completed, completion_then, ending, normally, ok, perform_completes}
use Rattle.jl_safety.proofs.Relation.{pick_completes, pick_safe, sequence, step_completes, value_then, Completes, Safe}

module _ (table : FunctionTable) where
  declarator_safe : (d : Tree ℕ tree.decl) → IsSound d → (c : Context) → Safe (declare table d c)
  declarator_safe (tree.declarator x tree.absent) h c = ok tt
  declarator_safe (tree.declarator x (tree.present e)) h c =
      bind (assign_safe x.at c x.text h.0 (evaluate_safe table e h.1 c)) (λ v. ok tt)

  declare_safe : (l : Forest ℕ tree.decl) → AreSound l → (c : Context) → Safe (declare_all table l c)
  declare_safe tree.end h c = ok tt
  declare_safe (tree.more d l) h c = bind (declarator_safe d h.0 c) (λ done. declare_safe l h.1 c)

  begin_safe : (i : Tree ℕ tree.init) → IsSound i → (c : Context) → Safe (begin_for table i c)
  begin_safe tree.nothing h c = ok tt
  begin_safe (tree.init_expression e) h c = bind (evaluate_safe table e h c) (λ v. ok tt)
  begin_safe (tree.init_var l) h c = declare_safe l h c

  -- which case a `switch` selects
  select_safe : (k : ℕ) (l : Forest ℕ tree.clause) → AreSound l → (v : Value) (c : Context)
      → Safe (select table k l v c)
  select_safe k tree.end h v c = ok None
  select_safe k (tree.more (tree.case tree.absent b) l) h v c = select_safe (k + 1) l h.1 v c
  select_safe k (tree.more (tree.case (tree.present e) b) l) h v c =
      bind (bind (evaluate_safe table e h.0.0 c) (λ w. ok (strictly_equal v w))) (λ selected.
      pick_safe selected (ok (Some k)) (select_safe (k + 1) l h.1 v c))

  mutual
    pub execute_safe : (t : Stmt) (a : Around) (own : List Text) → IsSound t → JumpsFit a own t → (c : Context)
        → Completes a (execute table t own c)
    execute_safe (tree.var l id) a own h j c = step_completes (value_then (declare_safe l h c) (λ done. normally))
    execute_safe (tree.empty id) a own h j c = step_completes normally
    execute_safe (tree.expression e id) a own h j c =
        step_completes (value_then (evaluate_safe table e h c) (λ v. normally))
    execute_safe (tree.block l id) a own h j c = step_completes (execute_all_safe l a h j c)
    execute_safe (tree.if_else e l b id) a own h j c =
        step_completes (value_then (evaluate_safe table e h.0 c) (λ v. value_then (decide_safe id v) (λ truth.
        pick_completes truth (execute_all_safe l a h.1 j.0 c) (branch_safe b a h.2 j.1 c))))
    execute_safe (tree.do_while l e id) a own h j c =
        step_completes (loop_safe a (do_loop l e) c own id (j, h.0, h.1))
    execute_safe (tree.while e l id) a own h j c =
        step_completes (loop_safe a (while_loop e l) c own id (j, h.1, h.0))
    execute_safe (tree.for i e u l id) a own h j c =
        step_completes (value_then (begin_safe i h.0 c) (λ done.
        loop_safe a (for_loop e u l) c own id (j, h.3, h.1, h.2)))
    execute_safe (tree.for_in is_var x o l id) a own h j c =
        step_completes (value_then (evaluate_safe table o h.1 c) (λ v.
        perform_completes (visit_all_safe a x.text l c own id v (j, h.2, h.0))))
    execute_safe (tree.continue None id) a own h j c = step_completes (completed j)
    execute_safe (tree.continue (Some x) id) a own h j c = step_completes (completed j)
    execute_safe (tree.break None id) a own h j c = step_completes (completed j)
    execute_safe (tree.break (Some x) id) a own h j c = step_completes (completed j)
    execute_safe (tree.return tree.absent id) a own h j c = step_completes (completed j)
    execute_safe (tree.return (tree.present e) id) a own h j c =
        step_completes (value_then (evaluate_safe table e h c) (λ v. return_safe id v j))
    execute_safe (tree.throw e id) a own h j c =
        step_completes (value_then (evaluate_safe table e h c) (λ v. throw_safe id v))
    execute_safe (tree.labelled x t id) a own h j c =
        step_completes (ending (after_labelled x.text)
        (execute_safe t (under_label x.text a) (x.text ∷ own) h j c) (label_takes a x.text))
    execute_safe (tree.switch e l id) a own h j c =
        step_completes (value_then (evaluate_safe table e h.0 c) (λ v.
        value_then (select_safe 0 l h.1 v c) (λ selected.
        ending after_switch (from_safe (option_or selected (default_of l)) l (in_a_switch a) h.1 j c)
        (switch_takes a))))
    execute_safe (tree.try l b f id) a own h j c =
        step_completes (completion_then (execute_all_safe l a h.0 j.0 c) (λ tried t.
        completion_then (handle_safe b a h.1 j.1 tried t c) (λ handled e.
        ending (unless_abrupt handled) (branch_safe f a h.2 j.2 c) (finally_leaves a handled e))))
    execute_safe (tree.debugger id) a own h j c = step_completes normally

    pub execute_all_safe : (l : Stmts) (a : Around) → AreSound l → AllJumpsFit a l → (c : Context)
        → Completes a (execute_all table l c)
    execute_all_safe tree.end a h j c = normally
    execute_all_safe (tree.more t l) a h j c =
        sequence (execute_safe t a [] h.0 j.0 c) (execute_all_safe l a h.1 j.1 c)

    branch_safe : (b : OptionalTree ℕ tree.branch) (a : Around) → IsSoundIfPresent b → BranchFits a b → (c : Context)
        → Completes a (execute_branch table b c)
    branch_safe tree.absent a h j c = normally
    branch_safe (tree.present (tree.branch_of l)) a h j c = execute_all_safe l a h j c

    handle_safe : (b : OptionalTree ℕ tree.handler) (a : Around) → IsSoundIfPresent b → HandlerFits a b
        → (tried : Completion) → MayComplete a tried → (c : Context) → Completes a (handle table b tried c)
    handle_safe (tree.present (tree.catch x l)) a h j (completion.Throw v) e c =
        value_then (catch_safe x.at c.env x.text v) (λ inside. execute_all_safe l a h j (record c { env = inside }))
    handle_safe b a h j tried e c = completed e

    from_safe : (k : Option ℕ) (l : Forest ℕ tree.clause) (a : Around) → AreSound l → ClausesFit a l → (c : Context)
        → Completes a (execute_from table k l c)
    from_safe None tree.end a h j c = normally
    from_safe None (tree.more t l) a h j c = normally
    from_safe (Some k) tree.end a h j c = normally
    from_safe (Some zero) (tree.more (tree.case e b) l) a h j c =
        sequence (execute_all_safe b a h.0.1 j.0 c) (from_safe (Some 0) l a h.1 j.1 c)
    from_safe (Some (suc k)) (tree.more (tree.case e b) l) a h j c = from_safe (Some k) l a h.1 j.1 c
