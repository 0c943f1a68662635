-- What is done with an element, and with what the function gives for it.
use Rattle.std.proofs.Common.{◌≡◌, ◌++◌, ◌∙◌, ◌∷◌, [], ap, append_assoc, codes, false, refl, subst, sym, true, ℕ}
use Rattle.std.proofs.Common.{Bool, List, None, Option, Some}
use Rattle.std.specs.Prelude.{not}
use Rattle.jl_value.specs.declared.error_kind.ErrorKind.TheVariants.{TypeError}
use Rattle.jl_value.specs.declared.object.ObjId.{ObjId}
use Rattle.jl_value.specs.declared.value.Value.{Value}
use Rattle.jl_value.specs.declared.value.Value.TheVariants as value
use Rattle.jl_meaning.specs.Errors.{throw_error}
use Rattle.jl_meaning.specs.FunctionObjects.{whole}
use Rattle.jl_meaning.specs.Parts.{call, ◌>>=◌}
use Rattle.jl_meaning.specs.builtins.ArrayCallbacks.{called_with, give_combined, Walk}
use Rattle.jl_progress.specs.ArrayCalls.{next_place, task_after, task_with, turns, walk_of}
use Rattle.jl_progress.specs.declared.array_call.ArrayCallProgress.TheVariants as array_call
use Rattle.jl_progress.specs.declared.array_call.Direction.{Direction}
use Rattle.jl_progress.specs.declared.array_call.Task.{Task}
use Rattle.jl_progress.specs.declared.array_call.Task.TheVariants as task
use Rattle.jl_progress.specs.declared.array_call.Walk as kept
use Rattle.jl_progress.specs.declared.progress.Progress.TheVariants as progress
use Rattle.jl_state.specs.Rest.{RefinesAlgorithm}
use Rattle.jl_state.specs.Steps.{AlgorithmWaits}
use Rattle.jl_state.specs.declared.act.Act.{Act}
use Rattle.jl_state.specs.declared.act.Act.TheVariants as act
use Rattle.jl_state.specs.declared.algorithm_frame.AlgorithmFrame.TheVariants as algorithm
use Rattle.jl_state.specs.declared.state.State.{State}
use Rattle.jl_builtin.proofs.Calls.{calls_now}
use Rattle.jl_lib_array.specs.inner.Tasks.{task_end}
use Rattle.jl_lib_array.proofs.TaskTurns.{asks_for, combines_with, AsksFirst}

-- a task that is known, and a place

module _ (s : State) (w : Walk) (u : State) (a : Act) where
  pub task_is : (t r : Task) (k : ℕ) (v : Option Value) → t ≡ r → RefinesAlgorithm s (task_with r w k v) u a
      → RefinesAlgorithm s (task_with t w k v) u a
  task_is t r k v is refines = subst (λ q. RefinesAlgorithm s (task_with q w k v) u a) (sym is) refines

  pub after_is : (t r : Task) (k : ℕ) (v answer : Value) → t ≡ r → RefinesAlgorithm s (task_after r w k v answer) u a
      → RefinesAlgorithm s (task_after t w k v answer) u a
  after_is t r k v answer is refines = subst (λ q. RefinesAlgorithm s (task_after q w k v answer) u a) (sym is) refines

  pub place_is : (t : Task) (at k : ℕ) → at ≡ k → RefinesAlgorithm s (turns t w at) u a
      → RefinesAlgorithm s (turns t w k) u a
  place_is t at k is refines = subst (λ n. RefinesAlgorithm s (turns t w n) u a) is refines

  pub filter_place : (array : ObjId) (next to at k : ℕ) → next ≡ to → at ≡ k
      → RefinesAlgorithm s (turns (task.Filter array next) w at) u a
      → RefinesAlgorithm s (turns (task.Filter array to) w k) u a
  filter_place array next to at k is place refines =
      place_is (task.Filter array to) at k place
      (subst (λ n. RefinesAlgorithm s (turns (task.Filter array n) w at) u a) is refines)

  pub asks_task : (t r : Task) (k : ℕ) (v : Value) → t ≡ r → AsksFirst r
      → RefinesAlgorithm s (called_with w k v >>= task_after r w k v) u a
      → RefinesAlgorithm s (task_with t w k (Some v)) u a
  asks_task t r k v is first refines = task_is t r k (Some v) is (asks_for s w u a r k v first refines)

  -- the first element is what there is so far
  pub first_combines : (so_far : Option Value) (d : Direction) (k : ℕ) (v : Value) → so_far ≡ None
      → RefinesAlgorithm s (turns (task.Reduce (Some v) d) w (next_place d k)) u a
      → RefinesAlgorithm s (task_with (task.Reduce so_far d) w k (Some v)) u a
  first_combines so_far d k v none refines =
      subst (λ (o : Option Value). RefinesAlgorithm s (task_with (task.Reduce o d) w k (Some v)) u a) (sym none) refines

-- no turn is left

pub any_over : (s : State) (t : Task) (wanted : Bool) → t ≡ task.Any wanted
    → RefinesAlgorithm s (task_end t) s (act.Give (value.Bool (not wanted)))
any_over s t wanted is =
    subst (λ q. RefinesAlgorithm s (task_end q) s (act.Give (value.Bool (not wanted)))) (sym is) (by wanted)
  where
    by : (b : Bool) → RefinesAlgorithm s (task_end (task.Any b)) s (act.Give (value.Bool (not b)))
    by true = record { is = λ kept told. refl }
    by false = record { is = λ kept told. refl }

module _ (s : State) (t : Task) (so_far : Option Value) (d : Direction) (u : State) (a : Act)
    (is : t ≡ task.Reduce so_far d) where
  pub reduced : RefinesAlgorithm s (give_combined so_far) u a → RefinesAlgorithm s (task_end t) u a
  reduced refines = subst (λ q. RefinesAlgorithm s (task_end q) u a) (sym is) refines

  pub nothing_reduced : (message : List ℕ) → so_far ≡ None → message ≡ codes "empty array"
      → RefinesAlgorithm s (throw_error TypeError message) u a → RefinesAlgorithm s (task_end t) u a
  nothing_reduced message none said refines =
      reduced (subst (λ (o : Option Value). RefinesAlgorithm s (give_combined o) u a) (sym none)
      (subst (λ m. RefinesAlgorithm s (throw_error TypeError m) u a) said refines))

-- the function is called

-- for an element
pub asks_now : (s u : State) (w : kept.Walk) (t : Task) (k : ℕ) (v element this : Value) (args : List Value)
    → element ≡ v → this ≡ w.this → args ≡ v ∷ whole k ∷ value.Obj w.object ∷ []
    → AlgorithmWaits s (algorithm.Builtin (progress.ArrayCall (array_call.Answer w t k element))) u
    → RefinesAlgorithm s (called_with (walk_of w) k v >>= task_after t (walk_of w) k v) u
    (act.Call (record { callee = w.function; this = this; args = args; by_new = false }))
asks_now s u w t k v element this args same this_is args_are waits =
    let made : Act = act.Call (record { callee = w.function; this = this; args = args; by_new = false }) in
    subst (λ e. RefinesAlgorithm s (called_with (walk_of w) k v >>= task_after t (walk_of w) k e) u made) same
    (waits.works (called_with (walk_of w) k v) u made
    (calls_now u w.function this w.this args (v ∷ whole k ∷ value.Obj w.object ∷ []) this_is args_are))

-- for what there is so far and an element
pub combines_now : (s u : State) (w : kept.Walk) (so_far v : Value) (d : Direction) (k : ℕ) (args : List Value)
    → args ≡ so_far ∷ v ∷ whole k ∷ value.Obj w.object ∷ []
    → AlgorithmWaits s (algorithm.Builtin (progress.ArrayCall
    (array_call.Answer w (task.Reduce None d) k value.Undefined))) u
    → RefinesAlgorithm s (task_with (task.Reduce (Some so_far) d) (walk_of w) k (Some v)) u
    (act.Call (record { callee = w.function; this = value.Undefined; args = args; by_new = false }))
combines_now s u w so_far v d k args args_are waits =
    let made : Act = act.Call (record { callee = w.function; this = value.Undefined; args = args; by_new = false }) in
    combines_with s (walk_of w) u made so_far v d k value.Undefined
    (waits.works (call w.function value.Undefined (so_far ∷ v ∷ whole k ∷ value.Obj w.object ∷ [])) u made
    (calls_now u w.function value.Undefined value.Undefined args (so_far ∷ v ∷ whole k ∷ value.Obj w.object ∷ []) refl
    args_are))

-- arguments, one after another
pub three_more : (args one two three : List Value) (v n m o : Value) → one ≡ args ++ v ∷ [] → two ≡ one ++ n ∷ []
    → three ≡ two ++ o ∷ [] → n ≡ m → three ≡ args ++ v ∷ m ∷ o ∷ []
three_more args one two three v n m o first second third is =
    third ∙ ap (λ l. l ++ o ∷ []) (second ∙ ap (λ l. l ++ n ∷ []) first) ∙ together
    ∙ ap (λ x. args ++ v ∷ x ∷ o ∷ []) is
  where
    together : ((args ++ v ∷ []) ++ n ∷ []) ++ o ∷ [] ≡ args ++ v ∷ n ∷ o ∷ []
    together = simp append_assoc
