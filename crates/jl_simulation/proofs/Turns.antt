-- The turns of loops match the turns of the woven loops.
use Rattle.std.proofs.Common.{◌≡◌, ℕ, ◌≤◌, List, false, sym, subst₂, arith}
use Rattle.jl_ast.specs.Tree as tree
use Rattle.jl_ast.specs.Tree.{OptionalTree, Text}
use Rattle.jl_value.specs.declared.ending.Completion.{Completion}
use Rattle.jl_value.specs.declared.ending.Completion.TheVariants as completion
use Rattle.jl_value.specs.declared.value.Value.TheVariants as value
use Rattle.jl_heap.specs.declared.inner.Inner.{Inner}
use Rattle.jl_op.specs.Chosen.{Kinds}
use Rattle.jl_op.specs.Ids.{forest_with_ids, optional_with_ids}
use Rattle.jl_effects.specs.Effects.{and_then}
use Rattle.jl_effects.specs.Matching.{begins, ends, spare}
use Rattle.jl_meaning.specs.Completions.{if_normal, on_given, then_do}
use Rattle.jl_meaning.specs.FunctionObjects.{callee_of, FunctionTable}
use Rattle.jl_meaning.specs.Parts.{do_loop, for_in_loop, for_loop, lift, while_loop, Context, Loop, Part, Stmts, Turn}
use Rattle.jl_meaning.specs.Parts.{TurnOf}
use Rattle.jl_meaning.specs.References.{put_name}
use Rattle.jl_meaning.specs.Statements.{execute_all, test_loop, turn, update_loop}
use Rattle.jl_meaning.specs.Store.{Store}
use Rattle.jl_meaning.specs.forms.Loops.{after_body, begin_turn}
use Rattle.jl_meaning.specs.forms.Names.{is_hooks, unless_hooks}
use Rattle.jl_simulation.specs.Weaving.{woven_forest, woven_optional, woven_test}
use Rattle.jl_simulation.specs.inner.Fit.{AllFit, FitsIfPresent, HasId, LoopFits}
use Rattle.jl_simulation.proofs.Completions.{valued}
use Rattle.jl_simulation.proofs.Expressions.{evaluate_match}
use Rattle.jl_simulation.proofs.Loops.{body_match, visit_match}
use Rattle.jl_simulation.proofs.Names.{no_hooks}
use Rattle.jl_simulation.proofs.Relation.{algorithm, done, even, fewer, followed, pick, turn_with, turns, woven_loop}
use Rattle.jl_simulation.proofs.Relation.{AreJobs}
use Rattle.jl_simulation.proofs.Relation.{Matched, StatementMatch}
use Rattle.jl_simulation.proofs.Statements.{execute_all_match, tested_match}

module _ (chosen : Kinds) (table table' : FunctionTable)
    (same : (i : Inner) → callee_of table i ≡ callee_of table' i) where
  -- the test of a loop, if it has one
  test_match : (e : OptionalTree ℕ tree.expr) → FitsIfPresent e → (id : ℕ) → HasId e id → (id' j : ℕ) (c : Context)
      (s : Store)
      → Matched chosen s 31 3 (test_loop table e id c)
      (test_loop table' (optional_with_ids j (woven_test chosen id e)) id' c)
  test_match tree.absent p id h id' j c s = ends (omega arith)
  test_match (tree.present e) p id h id' j c s =
      spare {c = 1} (omega arith) (tested_match chosen table table' same e p id h id' j c s 0)

  update_match : (u : OptionalTree ℕ tree.expr) → FitsIfPresent u → (j : ℕ) (c : Context)
      → StatementMatch chosen (update_loop table u c)
      (update_loop table' (optional_with_ids j (woven_optional chosen u)) c)
  update_match tree.absent p j c = record { at = λ s d. done }
  update_match (tree.present e) p j c = record {
    at = λ s d. valued (omega arith) ((even (evaluate_match chosen table table' same e p j c)).at s d) (λ v t. done);
  }

  -- the body of a `for`, and then its update and the next turn
  for_to : (u : OptionalTree ℕ tree.expr) → FitsIfPresent u → (l : Stmts) → AllFit l → (c : Context)
      (labels : List Text) (j k : ℕ) (again again' : Turn) → AreJobs chosen (TurnOf again) (TurnOf again')
      → (t : Store) (d : ℕ)
      → Matched chosen t d 0
      (and_then (execute_all table l c) (after_body labels (then_do (update_loop table u c) (begin_turn again))))
      (and_then (execute_all table' (forest_with_ids k (woven_forest chosen l)) c)
      (after_body labels (then_do (update_loop table' (optional_with_ids j (woven_optional chosen u)) c)
      (begin_turn again'))))
  for_to u p l q c labels j k again again' pair t d =
      followed ((execute_all_match chosen table table' same l q k c).at t d) (λ z t. body_match labels (omega arith) z t
      (followed ((update_match u p j c).at t d) on))
    where
      on : (z : Completion) (t : Store)
          → Matched chosen t d 0 (if_normal (begin_turn again) z) (if_normal (begin_turn again') z)
      on completion.Normal t = begins pair (λ z t. ends (omega arith))
      on (completion.Return v) t = ends (omega arith)
      on (completion.Throw v) t = ends (omega arith)
      on (completion.Break x) t = ends (omega arith)
      on (completion.Continue x) t = ends (omega arith)

  -- the name of a `for-in` is put
  put_to : (x : Text) → is_hooks x ≡ false → (c : Context) (y : Text) {k k' : Unit {0} → Part Completion} {s : Store}
      {n d : ℕ} → d ≤ n → ((u : Unit {0}) (t : Store) → Matched chosen t n d (k u) (k' u))
      → Matched chosen s n d
      (and_then (unless_hooks x (lift (put_name c.strict c.env x (value.Text y)))) (on_given k))
      (and_then (unless_hooks x (lift (put_name c.strict c.env x (value.Text y)))) (on_given k'))
  put_to x h c y {k} {k'} {s} {n} {d} le f =
      subst₂ (λ p q. Matched chosen s n d (and_then p (on_given k)) (and_then q (on_given k')))
      (sym (no_hooks x h (lift (put_name c.strict c.env x (value.Text y)))))
      (sym (no_hooks x h (lift (put_name c.strict c.env x (value.Text y)))))
      (valued le (algorithm (put_name c.strict c.env x (value.Text y))) f)

  pub turn_match : (l : Loop) (c : Context) (labels : List Text) (id : ℕ) (p : LoopFits l id) (id' j k m : ℕ)
      (s : Store)
      → Matched chosen s 31 0 (turn table (turn_with l c labels id))
      (turn table' (turn_with (woven_loop chosen id j k m l) c labels id'))
  turn_match (do_loop l e) c labels id p id' j k m s =
      followed ((execute_all_match chosen table table' same l p.0 j c).at s 31) (λ z t. body_match labels
      (omega arith) z t
      (valued (omega arith) (test_match (tree.present e) p.1 id p.2 id' k c t) (λ b t. pick b
      (begins (turns (do_loop l e) c labels id p id' j k m) (λ z t. ends (omega arith))) (ends (omega arith)))))
  turn_match (while_loop e l) c labels id p id' j k m s =
      valued (omega arith) (test_match (tree.present e) p.0 id p.2 id' j c s) (λ b t. pick b
      (followed ((execute_all_match chosen table table' same l p.1 k c).at t 3) (λ z t. body_match labels
      (omega arith) z t
      (begins (turns (while_loop e l) c labels id p id' j k m) (λ z t. ends (omega arith))))) (ends (omega arith)))
  turn_match (for_loop e u l) c labels id p id' j k m s =
      valued (omega arith) (test_match e p.0 id p.3 id' j c s) (λ b t. pick b
      (for_to u p.1 l p.2 c labels k m _ _ (turns (for_loop e u l) c labels id p id' j k m) t 3) (ends (omega arith)))
  turn_match (for_in_loop x y rest l) c labels id p id' j k m s =
      put_to x p.0 c y (omega arith) (λ u t. followed ((execute_all_match chosen table table' same l p.1 j c).at t 31)
      (λ z t. body_match labels (omega arith) z t
      (fewer (omega arith) ((visit_match chosen x p.0 l p.1 c labels id id' j rest).at t 31))))
