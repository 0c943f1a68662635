-- Turns of sound loops fail by no Misuse, and complete only as what stands round the loop allows.
use Rattle.std.proofs.Common.{ℕ, List, true}
use Rattle.jl_ast.specs.Tree as tree
use Rattle.jl_ast.specs.Tree.{OptionalTree, Text}
use Rattle.jl_value.specs.declared.value.Value.TheVariants as value
use Rattle.jl_meaning.specs.FunctionObjects.{FunctionTable}
use Rattle.jl_meaning.specs.Parts.{do_loop, for_in_loop, for_loop, while_loop, Context, Loop, Turn}
use Rattle.jl_meaning.specs.References.{put_name}
use Rattle.jl_meaning.specs.Statements.{test_loop, turn, update_loop}
use Rattle.jl_safety.specs.inner.Jumps.{in_a_loop, Around}
use Rattle.jl_safety.specs.inner.Sound.{IsSoundIfPresent}
use Rattle.jl_safety.proofs.Expressions.{evaluate_safe}
use Rattle.jl_safety.proofs.Forms.{decide_by_safe, unless_safe}
use Rattle.jl_safety.proofs.Loops.{after_safe, loop_safe, visit_safe}
use Rattle.jl_safety.proofs.Relation.{algorithm, completion_then, normally, ok, pick_completes, sequence, value_then}
use Rattle.jl_safety.proofs.Relation.{Completes, LoopIsSound, Safe}
use Rattle.jl_safety.proofs.Statements.{execute_all_safe}

abbrev turn_with : Loop → Context → (labels : List Text) → (id : ℕ) → Turn
turn_with l c labels id = record { loop = l; context = c; labels = labels; id = id }

module _ (table : FunctionTable) where
  test_safe : (e : OptionalTree ℕ tree.expr) → IsSoundIfPresent e → (id : ℕ) (c : Context)
      → Safe (test_loop table e id c)
  test_safe tree.absent h id c = ok true
  test_safe (tree.present e) h id c = decide_by_safe id (evaluate_safe table e h c)

  update_safe : {a : Around} (u : OptionalTree ℕ tree.expr) → IsSoundIfPresent u → (c : Context)
      → Completes a (update_loop table u c)
  update_safe tree.absent h c = normally
  update_safe (tree.present e) h c = value_then (evaluate_safe table e h c) (λ v. normally)

  turn_of_safe : (a : Around) (l : Loop) (c : Context) (own : List Text) (id : ℕ) → LoopIsSound a own l
      → Completes a (turn table (turn_with l c own id))
  turn_of_safe a (do_loop l e) c own id h =
      completion_then (execute_all_safe table l (in_a_loop own a) h.1 h.0 c) (after_safe a own
      (value_then (test_safe (tree.present e) h.2 id c) (λ truth.
      pick_completes truth (loop_safe a (do_loop l e) c own id h) normally)))
  turn_of_safe a (while_loop e l) c own id h =
      value_then (test_safe (tree.present e) h.2 id c) (λ truth. pick_completes truth
      (completion_then (execute_all_safe table l (in_a_loop own a) h.1 h.0 c)
      (after_safe a own (loop_safe a (while_loop e l) c own id h))) normally)
  turn_of_safe a (for_loop e u l) c own id h =
      value_then (test_safe e h.2 id c) (λ truth. pick_completes truth
      (completion_then (execute_all_safe table l (in_a_loop own a) h.1 h.0 c) (after_safe a own
      (sequence (update_safe u h.3 c) (loop_safe a (for_loop e u l) c own id h)))) normally)
  turn_of_safe a (for_in_loop x y rest l) c own id h =
      value_then (unless_safe x h.2 (algorithm (put_name c.strict c.env x (value.Text y)))) (λ done.
      completion_then (execute_all_safe table l (in_a_loop own a) h.1 h.0 c)
      (after_safe a own (visit_safe a x l c own id rest h)))

  pub turn_safe : (a : Around) (t : Turn) → LoopIsSound a t.labels t.loop → Completes a (turn table t)
  turn_safe a t h = turn_of_safe a t.loop t.context t.labels t.id h
