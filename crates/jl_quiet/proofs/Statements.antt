-- Statements do the same with no ids, but for what they perform.
use Rattle.std.proofs.Common.{◌≡◌, ℕ, ◌+◌, List, [], ◌∷◌, Option, Some, None, zero, suc, refl, sym, ap, ap₂}
use Rattle.std.specs.Option.{option_or}
use Rattle.std.specs.Prelude.{option_map}
use Rattle.jl_ast.specs.Tree as tree
use Rattle.jl_ast.specs.Tree.{Forest, OptionalTree, Text, Tree}
use Rattle.jl_ast.proofs.Congruences.{ap₃}
use Rattle.jl_value.specs.Tests.{is_nothing}
use Rattle.jl_value.specs.declared.ending.Completion.{Completion}
use Rattle.jl_value.specs.declared.ending.Completion.TheVariants as completion
use Rattle.jl_value.specs.declared.value.Value.{Value}
use Rattle.jl_heap.specs.Objects.{Name}
use Rattle.jl_heap.specs.declared.inner.Inner.{Inner}
use Rattle.jl_effects.specs.Effects.{Begin, End}
use Rattle.jl_meaning.specs.Completions.{normal}
use Rattle.jl_meaning.specs.Conversions.{to_object}
use Rattle.jl_meaning.specs.FunctionObjects.{callee_of, FunctionTable}
use Rattle.jl_meaning.specs.Parts.{do_loop, for_in_loop, for_loop, give, lift, while_loop, Context, Loop}
use Rattle.jl_meaning.specs.Parts.{Stmt, Stmts, TurnOf, Visit}
use Rattle.jl_meaning.specs.Statements.{execute, execute_all, execute_branch, execute_from, handle, select}
use Rattle.jl_meaning.specs.forms.Jumps.{after_labelled, return_value, throw_value}
use Rattle.jl_meaning.specs.forms.Loops.{begin_loop, visit_all, visit_first, visit_next, visits_left, visits_of}
use Rattle.jl_meaning.specs.forms.Simple.{begin_for, declare, declare_all}
use Rattle.jl_meaning.specs.forms.Switch.{after_switch, default_of}
use Rattle.jl_meaning.specs.forms.Try.{begin_catch, unless_abrupt}
use Rattle.jl_quiet.proofs.Bare.{bare_map, bare_map_forest, bare_map_optional, bare, bare_forest, bare_optional}
use Rattle.jl_quiet.proofs.Expressions.{evaluate_alike}
use Rattle.jl_quiet.proofs.Forms.{assign_name_alike, decide_alike}
use Rattle.jl_quiet.proofs.Relation.{bare_loop, bind, ending_alike, then_alike, itself, look_alike, perform_alike}
use Rattle.jl_quiet.proofs.Relation.{pick, second_is, sequence}
use Rattle.jl_quiet.proofs.Relation.{step_alike, value_alike, Alike}

-- LOOPS
loop_again : (l : Loop) → bare_loop (bare_loop l) ≡ bare_loop l
loop_again (do_loop l e) = ap₂ (λ p q. do_loop p q) (bare_map_forest (λ s. 0) l) (bare_map (λ s. 0) e)
loop_again (while_loop e l) = ap₂ (λ p q. while_loop p q) (bare_map (λ s. 0) e) (bare_map_forest (λ s. 0) l)
loop_again (for_loop e u l) =
    ap₃ (λ p q r. for_loop p q r) (bare_map_optional (λ s. 0) e) (bare_map_optional (λ s. 0) u)
    (bare_map_forest (λ s. 0) l)
loop_again (for_in_loop x y rest l) = ap (λ p. for_in_loop x y rest p) (bare_map_forest (λ s. 0) l)

pub loop_alike : (l : Loop) (c : Context) (labels : List Text) (id id' : ℕ)
    → Alike (begin_loop l c labels id) (begin_loop (bare_loop l) c labels id')
loop_alike l c labels id id' = record {
  same = ap (λ m. Begin (TurnOf (record { loop = m; context = c; labels = labels; id = 0 })) End) (sym (loop_again l));
}

first_alike : (x : Text) (l : Stmts) (c : Context) (labels : List Text) (id id' : ℕ) (visits : List Visit)
    → Alike (visit_first x l c labels id visits) (visit_first x (bare_forest l) c labels id' visits)
first_alike x l c labels id id' [] = record { same = refl }
first_alike x l c labels id id' (v ∷ rest) = loop_alike (for_in_loop x v.name rest l) c labels id id'

pub visit_alike : (x : Text) (l : Stmts) (c : Context) (labels : List Text) (id id' : ℕ) (visits : List Visit)
    → Alike (visit_next x l c labels id visits) (visit_next x (bare_forest l) c labels id' visits)
unfolding visit_next
visit_alike x l c labels id id' visits = look_alike (λ s. first_alike x l c labels id id' (visits_left s.heap visits))

visit_all_alike : (x : Text) (l : Stmts) (c : Context) (labels : List Text) (id id' : ℕ) (v : Value)
    → Alike (visit_all x l c labels id v) (visit_all x (bare_forest l) c labels id' v)
unfolding visit_all
visit_all_alike x l c labels id id' v =
    pick (is_nothing v) (itself normal) (value_alike (itself (lift (to_object v))) (λ object.
    look_alike (λ s. visit_alike x l c labels id id' (visits_of s.heap object.0))))

-- OTHER FORMS
return_alike : (id id' : ℕ) (v : Value) → Alike (return_value id v) (return_value id' v)
unfolding return_value
return_alike id id' v = record { same = refl }

throw_alike : (id id' : ℕ) (v : Value) → Alike (throw_value id v) (throw_value id' v)
unfolding throw_value
throw_alike id id' v = record { same = refl }

catch_alike : (id id' env : ℕ) (x : Name) (v : Value) → Alike (begin_catch id env x v) (begin_catch id' env x v)
unfolding begin_catch
catch_alike id id' env x v = record { same = refl }

default_same : (l : Forest ℕ tree.clause) → default_of l ≡ default_of (bare_forest l)
default_same tree.end = refl
default_same (tree.more (tree.case tree.absent b) l) = refl
default_same (tree.more (tree.case (tree.present e) b) l) = ap (option_map suc) (default_same l)

module _ (table table' : FunctionTable) (same : (i : Inner) → callee_of table i ≡ callee_of table' i) where
  declarator_alike : (d : Tree ℕ tree.decl) (c : Context) → Alike (declare table d c) (declare table' (bare d) c)
  declarator_alike (tree.declarator x tree.absent) c = record { same = refl }
  declarator_alike (tree.declarator x (tree.present e)) c =
      bind (assign_name_alike x.at 0 c x.text (evaluate_alike table table' same e c)) (λ v. record { same = refl })

  declare_alike : (l : Forest ℕ tree.decl) (c : Context)
      → Alike (declare_all table l c) (declare_all table' (bare_forest l) c)
  declare_alike tree.end c = record { same = refl }
  declare_alike (tree.more d l) c = bind (declarator_alike d c) (λ done. declare_alike l c)

  begin_alike : (i : Tree ℕ tree.init) (c : Context) → Alike (begin_for table i c) (begin_for table' (bare i) c)
  begin_alike tree.nothing c = record { same = refl }
  begin_alike (tree.init_expression e) c =
      bind (evaluate_alike table table' same e c) (λ v. record { same = refl })
  begin_alike (tree.init_var l) c = declare_alike l c

  -- which case a `switch` selects
  select_alike : (k : ℕ) (l : Forest ℕ tree.clause) (v : Value) (c : Context)
      → Alike (select table k l v c) (select table' k (bare_forest l) v c)
  select_alike k tree.end v c = record { same = refl }
  select_alike k (tree.more (tree.case tree.absent b) l) v c = select_alike (k + 1) l v c
  select_alike k (tree.more (tree.case (tree.present e) b) l) v c =
      bind (bind (evaluate_alike table table' same e c) (λ w. record { same = refl })) (λ selected.
      pick selected (itself (give (Some k))) (select_alike (k + 1) l v c))

  mutual
    pub execute_alike : (a : Stmt) (labels : List Text) (c : Context)
        → Alike (execute table a labels c) (execute table' (bare a) labels c)
    execute_alike (tree.var l s) labels c = step_alike (value_alike (declare_alike l c) (λ done. itself normal))
    execute_alike (tree.empty s) labels c = record { same = refl }
    execute_alike (tree.expression e s) labels c =
        step_alike (value_alike (evaluate_alike table table' same e c) (λ v. itself normal))
    execute_alike (tree.block l s) labels c = step_alike (execute_all_alike l c)
    execute_alike (tree.if_else e a b s) labels c =
        step_alike (value_alike (evaluate_alike table table' same e c) (λ v. value_alike (decide_alike s 0 v) (λ truth.
        pick truth (execute_all_alike a c) (branch_alike b c))))
    execute_alike (tree.do_while l e s) labels c = step_alike (loop_alike (do_loop l e) c labels s 0)
    execute_alike (tree.while e l s) labels c = step_alike (loop_alike (while_loop e l) c labels s 0)
    execute_alike (tree.for i e u l s) labels c =
        step_alike (value_alike (begin_alike i c) (λ done. loop_alike (for_loop e u l) c labels s 0))
    execute_alike (tree.for_in is_var x o l s) labels c =
        step_alike (value_alike (evaluate_alike table table' same o c)
        (λ v. perform_alike (visit_all_alike x.text l c labels s 0 v)))
    execute_alike (tree.continue None s) labels c = record { same = refl }
    execute_alike (tree.continue (Some x) s) labels c = record { same = refl }
    execute_alike (tree.break None s) labels c = record { same = refl }
    execute_alike (tree.break (Some x) s) labels c = record { same = refl }
    execute_alike (tree.return tree.absent s) labels c = record { same = refl }
    execute_alike (tree.return (tree.present e) s) labels c =
        step_alike (value_alike (evaluate_alike table table' same e c) (λ v. return_alike s 0 v))
    execute_alike (tree.throw e s) labels c =
        step_alike (value_alike (evaluate_alike table table' same e c) (λ v. throw_alike s 0 v))
    execute_alike (tree.labelled x t s) labels c =
        step_alike (ending_alike (after_labelled x.text) (execute_alike t (x.text ∷ labels) c))
    execute_alike (tree.switch e l s) labels c =
        step_alike (value_alike (evaluate_alike table table' same e c)
        (λ v. value_alike (select_alike 0 l v c) (λ selected.
        ending_alike after_switch (second_is
        (ap (λ k. execute_from table' (option_or selected k) (bare_forest l) c) (default_same l))
        (from_alike (option_or selected (default_of l)) l c)))))
    execute_alike (tree.try l h f s) labels c =
        step_alike (then_alike (execute_all_alike l c) (λ tried. then_alike (handle_alike h tried c) (λ handled.
        ending_alike (unless_abrupt handled) (branch_alike f c))))
    execute_alike (tree.debugger s) labels c = record { same = refl }

    pub execute_all_alike : (l : Stmts) (c : Context)
        → Alike (execute_all table l c) (execute_all table' (bare_forest l) c)
    execute_all_alike tree.end c = record { same = refl }
    execute_all_alike (tree.more t l) c = sequence (execute_alike t [] c) (execute_all_alike l c)

    branch_alike : (o : OptionalTree ℕ tree.branch) (c : Context)
        → Alike (execute_branch table o c) (execute_branch table' (bare_optional o) c)
    branch_alike tree.absent c = record { same = refl }
    branch_alike (tree.present (tree.branch_of l)) c = execute_all_alike l c

    handle_alike : (h : OptionalTree ℕ tree.handler) (tried : Completion) (c : Context)
        → Alike (handle table h tried c) (handle table' (bare_optional h) tried c)
    handle_alike (tree.present (tree.catch x l)) (completion.Throw v) c =
        value_alike (catch_alike x.at 0 c.env x.text v) (λ inside. execute_all_alike l (record c { env = inside }))
    handle_alike _ tried c = record { same = refl }

    from_alike : (k : Option ℕ) (l : Forest ℕ tree.clause) (c : Context)
        → Alike (execute_from table k l c) (execute_from table' k (bare_forest l) c)
    from_alike None tree.end c = record { same = refl }
    from_alike None (tree.more t l) c = record { same = refl }
    from_alike (Some k) tree.end c = record { same = refl }
    from_alike (Some zero) (tree.more (tree.case e b) l) c =
        sequence (execute_all_alike b c) (from_alike (Some 0) l c)
    from_alike (Some (suc k)) (tree.more (tree.case e b) l) c = from_alike (Some k) l c
