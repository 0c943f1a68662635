-- Tasks of walks through elements, turn by turn.
use Rattle.std.proofs.Common.{◌≡◌, ◌+◌, ◌-◌, ◌∙◌, ◌∷◌, [], ap, false, refl, subst, suc, sym, true, zero, ℕ}
use Rattle.std.proofs.Common.{Bool, None, Option, Some}
use Rattle.std.specs.Prelude.{if◌then◌else◌, is_some, not}
use Rattle.jl_value.specs.declared.object.ObjId.{ObjId}
use Rattle.jl_value.specs.declared.value.Value.{Value}
use Rattle.jl_value.specs.declared.value.Value.TheVariants as value
use Rattle.jl_conv.specs.Conversions.{truth_of}
use Rattle.jl_effects.specs.Effects.{Step}
use Rattle.jl_meaning.specs.FunctionObjects.{whole}
use Rattle.jl_meaning.specs.Parts.{call, give, ◌>>=◌, Algorithm}
use Rattle.jl_meaning.specs.Relations.{give_truth}
use Rattle.jl_meaning.specs.builtins.Arguments.{give_object}
use Rattle.jl_meaning.specs.builtins.ArrayCallbacks.{add_chosen, ask_turn, asked_if, called_with, choose}
use Rattle.jl_meaning.specs.builtins.ArrayCallbacks.{combine, ends_at, filter_turn, for_each_turn, give_combined}
use Rattle.jl_meaning.specs.builtins.ArrayCallbacks.{map_turn}
use Rattle.jl_meaning.specs.builtins.ArrayCallbacks.{reduce_turn, Walk}
use Rattle.jl_meaning.specs.builtins.Elements.{add_if, add_index, element}
use Rattle.jl_meaning.specs.builtins.Turns.{first_upward, or_next, upward}
use Rattle.jl_progress.specs.ArrayCalls.{any_truth, any_with, next_place, task_after, task_with, turns}
use Rattle.jl_progress.specs.declared.array_call.Direction.{Direction}
use Rattle.jl_progress.specs.declared.array_call.Direction.TheVariants as direction
use Rattle.jl_progress.specs.declared.array_call.Task.{Task}
use Rattle.jl_progress.specs.declared.array_call.Task.TheVariants as task
use Rattle.jl_state.specs.Rest.{RefinesAlgorithm}
use Rattle.jl_state.specs.Steps.{RanOut, Took}
use Rattle.jl_state.specs.declared.act.Act.{Act}
use Rattle.jl_state.specs.declared.act.Act.TheVariants as act
use Rattle.jl_state.specs.declared.state.State.{State}
use Rattle.jl_meaning.proofs.Binds.{bind_assoc}
use Rattle.jl_lib_array.specs.inner.Places.{direction_of, index_at}
use Rattle.jl_lib_array.specs.inner.Tasks.{task_end}
use Rattle.jl_lib_array.proofs.PlaceTurns.{downward_turn, first_upward_over, first_upward_turn, upward_over}
use Rattle.jl_lib_array.proofs.PlaceTurns.{upward_turn}

-- no turn is left

over : (t : Task) (w : Walk) (at : ℕ) → index_at (direction_of t) at w.length ≡ None → task_end t ≡ turns t w at
over (task.Any wanted) w at none =
    sym (first_upward_over (ask_turn wanted w) (λ found. give_truth (any_truth wanted (is_some found)))
    w.length at none)
over task.ForEach w at none =
    sym (upward_over (for_each_turn w) (λ _. give value.Undefined) w.length at tt none)
over (task.Map a) w at none = sym (upward_over (map_turn w a) (λ _. give_object a) w.length at tt none)
over (task.Filter a to) w at none = sym (upward_over (filter_turn w a) (λ _. give_object a) w.length at to none)
over (task.Reduce so_far direction.Up) w at none =
    sym (upward_over (reduce_turn w) give_combined w.length at so_far none)
over (task.Reduce so_far direction.Down) w zero none = refl
over (task.Reduce so_far direction.Down) w (suc k) none = absurd (let differ = none in cc)

-- a turn begins

begins : (t : Task) (w : Walk) (at k : ℕ) → index_at (direction_of t) at w.length ≡ Some k
    → Step (element w.object k >>= task_with t w k) ≡ turns t w at
begins (task.Any wanted) w at k is =
    sym (first_upward_turn (ask_turn wanted w) last w.length at k is
    ∙ ap Step (bind_assoc (element w.object k >>= asked_if w k) (λ answer. give (ends_at wanted answer))
    (λ found. or_next (first_upward (ask_turn wanted w) (w.length - (k + 1)) (k + 1)) found >>= last)
    ∙ bind_assoc (element w.object k) (asked_if w k) (any_with wanted w k)))
  where
    last : Option (Unit {0}) → Algorithm Value
    last found = give_truth (any_truth wanted (is_some found))
begins task.ForEach w at k is =
    sym (upward_turn (for_each_turn w) (λ _. give value.Undefined) w.length at k tt is
    ∙ ap Step (bind_assoc (element w.object k >>= asked_if w k) (λ answer. give tt)
    (λ b. upward (for_each_turn w) (w.length - (k + 1)) (k + 1) b >>= λ _. give value.Undefined)
    ∙ bind_assoc (element w.object k) (asked_if w k) (λ _. turns task.ForEach w (k + 1))))
begins (task.Map a) w at k is =
    sym (upward_turn (map_turn w a) (λ _. give_object a) w.length at k tt is
    ∙ ap Step (bind_assoc (element w.object k >>= asked_if w k) (add_if a k)
    (λ b. upward (map_turn w a) (w.length - (k + 1)) (k + 1) b >>= λ _. give_object a)
    ∙ bind_assoc (element w.object k) (asked_if w k)
    (λ answer. add_if a k answer >>= λ _. turns (task.Map a) w (k + 1))))
begins (task.Filter a to) w at k is =
    sym (upward_turn (filter_turn w a) (λ _. give_object a) w.length at k to is
    ∙ ap Step (bind_assoc (element w.object k) (choose w a k to) (λ next. turns (task.Filter a next) w (k + 1))))
begins (task.Reduce so_far direction.Up) w at k is =
    sym (upward_turn (reduce_turn w) give_combined w.length at k so_far is
    ∙ ap Step (bind_assoc (element w.object k) (combine w k so_far)
    (λ last. turns (task.Reduce last direction.Up) w (k + 1))))
begins (task.Reduce so_far direction.Down) w zero k is = absurd (let differ = is in cc)
begins (task.Reduce so_far direction.Down) w (suc n) k is =
    let same : n ≡ k = (let e = is in cc) in subst goal same here
  where
    goal : ℕ → Type 0
    goal m = Step (element w.object m >>= task_with (task.Reduce so_far direction.Down) w m)
        ≡ turns (task.Reduce so_far direction.Down) w (suc n)

    here : goal n
    here =
        sym (downward_turn (reduce_turn w) give_combined n so_far
        ∙ ap Step (bind_assoc (element w.object n) (combine w n so_far)
        (λ last. turns (task.Reduce last direction.Down) w n)))

-- no element is there

passed : (t : Task) (w : Walk) (k : ℕ) → turns t w (next_place (direction_of t) k) ≡ task_with t w k None
passed (task.Any wanted) w k = refl
passed task.ForEach w k = refl
passed (task.Map a) w k = refl
passed (task.Filter a to) w k = refl
passed (task.Reduce None d) w k = refl
passed (task.Reduce (Some v) d) w k = refl

-- the function is called for an element

abbrev pub AsksFirst : Task → Type 0
AsksFirst (task.Reduce so_far d) = ⊥
AsksFirst t = Unit {0}

asks : (t : Task) (w : Walk) (k : ℕ) (v : Value) → AsksFirst t
    → (called_with w k v >>= task_after t w k v) ≡ task_with t w k (Some v)
asks (task.Any wanted) w k v first =
    sym (bind_assoc (called_with w k v) (λ answer. give (Some answer)) (any_with wanted w k))
asks task.ForEach w k v first =
    sym (bind_assoc (called_with w k v) (λ answer. give (Some answer)) (λ _. turns task.ForEach w (k + 1)))
asks (task.Map a) w k v first =
    sym (bind_assoc (called_with w k v) (λ answer. give (Some answer))
    (λ answer. add_if a k answer >>= λ _. turns (task.Map a) w (k + 1)))
asks (task.Filter a to) w k v first =
    sym (bind_assoc (called_with w k v) (λ answer. add_chosen (truth_of answer) a to v)
    (λ next. turns (task.Filter a next) w (k + 1)))
asks (task.Reduce so_far d) w k v first = absurd first

-- what is there so far, and an element
combines : (so_far v : Value) (d : Direction) (w : Walk) (k : ℕ) (e : Value)
    → (call w.function value.Undefined (so_far ∷ v ∷ whole k ∷ value.Obj w.object ∷ [])
    >>= task_after (task.Reduce None d) w k e)
    ≡ task_with (task.Reduce (Some so_far) d) w k (Some v)
combines so_far v d w k e =
    sym (bind_assoc (call w.function value.Undefined (so_far ∷ v ∷ whole k ∷ value.Obj w.object ∷ []))
    (λ next. give (Some next)) (λ last. turns (task.Reduce last d) w (next_place d k)))

-- an answer that is wanted, and any other

abbrev any_for : (wanted ends : Bool) → Walk → ℕ → Algorithm Value
any_for wanted ends w k =
    or_next (first_upward (ask_turn wanted w) (w.length - (k + 1)) (k + 1)) (if ends then Some tt else None)
    >>= λ found. give_truth (any_truth wanted (is_some found))

is_wanted : (wanted b : Bool) → b ≡ wanted → (if wanted then b else not b) ≡ true
is_wanted true b is = is
is_wanted false b is = ap not is

is_other : (wanted b : Bool) → (b ≡ wanted → ⊥) → (if wanted then b else not b) ≡ false
is_other true true differs = absurd (differs refl)
is_other true false differs = refl
is_other false true differs = refl
is_other false false differs = absurd (differs refl)

wanted_truth : (wanted : Bool) → any_truth wanted true ≡ wanted
wanted_truth true = refl
wanted_truth false = refl

-- the same of states

module _ (s : State) (w : Walk) (u : State) (a : Act) where
  pub task_over : (t : Task) (d : Direction) (at : ℕ) → d ≡ direction_of t → index_at d at w.length ≡ None
      → RefinesAlgorithm s (task_end t) u a → RefinesAlgorithm s (turns t w at) u a
  task_over t d at is none refines =
      subst (λ p. RefinesAlgorithm s p u a) (over t w at (subst (λ e. index_at e at w.length ≡ None) is none)) refines

  pub turn_begins : (t : Task) (d : Direction) (at k : ℕ) (v : State) → d ≡ direction_of t
      → index_at d at w.length ≡ Some k → Took s v → RefinesAlgorithm v (element w.object k >>= task_with t w k) u a
      → RefinesAlgorithm s (turns t w at) u a
  turn_begins t d at k v is there took refines =
      subst (λ p. RefinesAlgorithm s p u a) (begins t w at k (subst (λ e. index_at e at w.length ≡ Some k) is there))
      (took.works (element w.object k >>= task_with t w k) u a refines)

  pub element_passed : (t : Task) (d : Direction) (at k : ℕ) → d ≡ direction_of t → at ≡ next_place d k
      → RefinesAlgorithm s (turns t w at) u a → RefinesAlgorithm s (task_with t w k None) u a
  element_passed t d at k is place refines =
      subst (λ p. RefinesAlgorithm s p u a) (passed t w k)
      (subst (λ e. RefinesAlgorithm s (turns t w (next_place e k)) u a) is
      (subst (λ n. RefinesAlgorithm s (turns t w n) u a) place refines))

  pub asks_for : (t : Task) (k : ℕ) (v : Value) → AsksFirst t
      → RefinesAlgorithm s (called_with w k v >>= task_after t w k v) u a
      → RefinesAlgorithm s (task_with t w k (Some v)) u a
  asks_for t k v first refines = subst (λ p. RefinesAlgorithm s p u a) (asks t w k v first) refines

  pub combines_with : (so_far v : Value) (d : Direction) (k : ℕ) (e : Value)
      → RefinesAlgorithm s (call w.function value.Undefined (so_far ∷ v ∷ whole k ∷ value.Obj w.object ∷ [])
      >>= task_after (task.Reduce None d) w k e) u a
      → RefinesAlgorithm s (task_with (task.Reduce (Some so_far) d) w k (Some v)) u a
  combines_with so_far v d k e refines = subst (λ p. RefinesAlgorithm s p u a) (combines so_far v d w k e) refines

  pub any_passed : (wanted : Bool) (k at : ℕ) (v : Value) (b : Bool) → b ≡ truth_of v → (b ≡ wanted → ⊥) → at ≡ k + 1
      → RefinesAlgorithm s (turns (task.Any wanted) w at) u a → RefinesAlgorithm s (any_with wanted w k (Some v)) u a
  any_passed wanted k at v b is differs place refines =
      subst (λ c. RefinesAlgorithm s (any_for wanted (if wanted then c else not c) w k) u a) is
      (subst (λ c. RefinesAlgorithm s (any_for wanted c w k) u a) (sym (is_other wanted b differs))
      (subst (λ n. RefinesAlgorithm s (turns (task.Any wanted) w n) u a) place refines))

  pub element_added : (a' : ObjId) (to k : ℕ) (v answer : Value) (b : Bool) → b ≡ truth_of answer → b ≡ true
      → RefinesAlgorithm s (add_index a' to v >>= λ _. turns (task.Filter a' (to + 1)) w (k + 1)) u a
      → RefinesAlgorithm s (task_after (task.Filter a' to) w k v answer) u a
  element_added a' to k v answer b is so refines =
      subst (λ c. RefinesAlgorithm s (add_chosen c a' to v >>= λ next. turns (task.Filter a' next) w (k + 1)) u a)
      (sym so ∙ is)
      (subst (λ p. RefinesAlgorithm s p u a)
      (sym (bind_assoc (add_index a' to v) (λ _. give (to + 1))
      (λ next. turns (task.Filter a' next) w (k + 1)))) refines)

  pub element_left : (a' : ObjId) (to k at : ℕ) (v answer : Value) (b : Bool) → b ≡ truth_of answer → b ≡ false
      → at ≡ k + 1 → RefinesAlgorithm s (turns (task.Filter a' to) w at) u a
      → RefinesAlgorithm s (task_after (task.Filter a' to) w k v answer) u a
  element_left a' to k at v answer b is so place refines =
      subst (λ c. RefinesAlgorithm s (add_chosen c a' to v >>= λ next. turns (task.Filter a' next) w (k + 1)) u a)
      (sym so ∙ is)
      (subst (λ n. RefinesAlgorithm s (turns (task.Filter a' to) w n) u a) place refines)

pub turn_spent : (s v : State) (w : Walk) (t : Task) (d : Direction) (at k : ℕ) → d ≡ direction_of t
    → index_at d at w.length ≡ Some k → v ≡ s → RanOut s → RefinesAlgorithm s (turns t w at) v act.Spent
turn_spent s v w t d at k is there same ran =
    subst (λ (x : State). RefinesAlgorithm s (turns t w at) x act.Spent) (sym same)
    (subst (λ p. RefinesAlgorithm s p s act.Spent)
    (begins t w at k (subst (λ e. index_at e at w.length ≡ Some k) is there))
    (ran.works (element w.object k >>= task_with t w k)))

pub any_ends : (s : State) (w : Walk) (wanted : Bool) (k : ℕ) (v : Value) (b : Bool) → b ≡ truth_of v → b ≡ wanted
    → RefinesAlgorithm s (any_with wanted w k (Some v)) s (act.Give (value.Bool wanted))
any_ends s w wanted k v b is so =
    subst (λ c. RefinesAlgorithm s (any_for wanted (if wanted then c else not c) w k) s
    (act.Give (value.Bool wanted))) is
    (subst (λ c. RefinesAlgorithm s (any_for wanted c w k) s (act.Give (value.Bool wanted)))
    (sym (is_wanted wanted b so))
    (subst (λ c. RefinesAlgorithm s (give_truth c) s (act.Give (value.Bool wanted))) (sym (wanted_truth wanted))
    (record { is = λ kept told. refl })))
