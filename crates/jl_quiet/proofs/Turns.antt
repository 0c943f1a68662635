-- Turns of loops do the same with no ids, but for what they perform.
use Rattle.std.proofs.Common.{◌≡◌, ℕ, List, Some, None, refl}
use Rattle.jl_ast.specs.Tree as tree
use Rattle.jl_ast.specs.Tree.{OptionalTree, Text}
use Rattle.jl_scope.specs.Names.{among}
use Rattle.jl_value.specs.declared.ending.Completion.{Completion}
use Rattle.jl_value.specs.declared.ending.Completion.TheVariants as completion
use Rattle.jl_value.specs.declared.value.Value.TheVariants as value
use Rattle.jl_heap.specs.declared.inner.Inner.{Inner}
use Rattle.jl_meaning.specs.Completions.{normal}
use Rattle.jl_meaning.specs.FunctionObjects.{callee_of, FunctionTable}
use Rattle.jl_meaning.specs.Parts.{do_loop, for_in_loop, for_loop, lift, while_loop, Context, Loop, Part, Turn}
use Rattle.jl_meaning.specs.References.{put_name}
use Rattle.jl_meaning.specs.Statements.{test_loop, turn, update_loop}
use Rattle.jl_meaning.specs.forms.Loops.{after_body}
use Rattle.jl_meaning.specs.forms.Names.{unless_hooks}
use Rattle.jl_quiet.proofs.Bare.{bare_optional}
use Rattle.jl_quiet.proofs.Expressions.{evaluate_alike}
use Rattle.jl_quiet.proofs.Forms.{decide_by_alike}
use Rattle.jl_quiet.proofs.Relation.{bare_loop, bare_turn, then_alike, itself, pick, sequence, value_alike, Alike}
use Rattle.jl_quiet.proofs.Statements.{execute_all_alike, loop_alike, visit_alike}

after_alike : (labels : List Text) {next next' : Part Completion} → Alike next next' → (how : Completion)
    → Alike (after_body labels next how) (after_body labels next' how)
after_alike labels x completion.Normal = x
after_alike labels x (completion.Continue None) = x
after_alike labels x (completion.Continue (Some l)) = pick (among l labels) x (record { same = refl })
after_alike labels x (completion.Break None) = record { same = refl }
after_alike labels x (completion.Break (Some l)) = record { same = refl }
after_alike labels x (completion.Return v) = record { same = refl }
after_alike labels x (completion.Throw v) = record { same = refl }

abbrev turn_with : Loop → Context → (labels : List Text) → (id : ℕ) → Turn
turn_with l c labels id = record { loop = l; context = c; labels = labels; id = id }

module _ (table table' : FunctionTable) (same : (i : Inner) → callee_of table i ≡ callee_of table' i) where
  test_alike : (e : OptionalTree ℕ tree.expr) (id : ℕ) (c : Context)
      → Alike (test_loop table e id c) (test_loop table' (bare_optional e) 0 c)
  test_alike tree.absent id c = record { same = refl }
  test_alike (tree.present e) id c = decide_by_alike id 0 (evaluate_alike table table' same e c)

  update_alike : (u : OptionalTree ℕ tree.expr) (c : Context)
      → Alike (update_loop table u c) (update_loop table' (bare_optional u) c)
  update_alike tree.absent c = record { same = refl }
  update_alike (tree.present e) c = value_alike (evaluate_alike table table' same e c) (λ v. itself normal)

  turn_of_alike : (l : Loop) (c : Context) (labels : List Text) (id : ℕ)
      → Alike (turn table (turn_with l c labels id)) (turn table' (turn_with (bare_loop l) c labels 0))
  turn_of_alike (do_loop l e) c labels id =
      then_alike (execute_all_alike table table' same l c) (λ how. after_alike labels
      (value_alike (test_alike (tree.present e) id c) (λ truth.
      pick truth (loop_alike (do_loop l e) c labels id 0) (itself normal))) how)
  turn_of_alike (while_loop e l) c labels id =
      value_alike (test_alike (tree.present e) id c) (λ truth. pick truth
      (then_alike (execute_all_alike table table' same l c) (λ how.
      after_alike labels (loop_alike (while_loop e l) c labels id 0) how)) (itself normal))
  turn_of_alike (for_loop e u l) c labels id =
      value_alike (test_alike e id c) (λ truth. pick truth
      (then_alike (execute_all_alike table table' same l c) (λ how. after_alike labels
      (sequence (update_alike u c) (loop_alike (for_loop e u l) c labels id 0)) how)) (itself normal))
  turn_of_alike (for_in_loop x y rest l) c labels id =
      value_alike (itself (unless_hooks x (lift (put_name c.strict c.env x (value.Text y))))) (λ done.
      then_alike (execute_all_alike table table' same l c) (λ how.
      after_alike labels (visit_alike x l c labels id 0 rest) how))

  pub turn_alike : (t : Turn) → Alike (turn table t) (turn table' (bare_turn t))
  turn_alike t = turn_of_alike t.loop t.context t.labels t.id
