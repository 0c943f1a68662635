-- Elements that are copied to a new array, one a turn.
use Rattle.std.proofs.Common.{◌≡◌, ◌+◌, ◌-◌, false, subst, true, Bool, ℕ}
use Rattle.jl_value.specs.declared.value.Value.{Value}
use Rattle.jl_meaning.specs.Parts.{◌>>=◌, Algorithm}
use Rattle.jl_meaning.specs.builtins.Elements.{add_if, add_index, copy_element, get_index, has_index}
use Rattle.jl_progress.specs.Arrays.{after_copying, array_after, copy_others}
use Rattle.jl_progress.specs.declared.array.AfterCopying.{AfterCopying}
use Rattle.jl_progress.specs.declared.array.ArrayProgress.TheVariants as array
use Rattle.jl_progress.specs.declared.array.Copying.{Copying}
use Rattle.jl_state.specs.Rest.{RefinesAlgorithm}
use Rattle.jl_state.specs.Steps.{RanOut, Took}
use Rattle.jl_state.specs.declared.act.Act.{Act}
use Rattle.jl_state.specs.declared.act.Act.TheVariants as act
use Rattle.jl_state.specs.declared.state.State.{State}
use Rattle.jl_lib_array.proofs.Found.{element_missing, element_there}
use Rattle.jl_lib_array.proofs.Turns.{upward_ends, upward_spent, upward_takes}

module _ (s u : State) (a : Act) (c : Copying) (next : AfterCopying) where
  abbrev turn : ℕ → Unit {0} → Algorithm (Unit {0})
  turn k _ = copy_element c.object (c.start + k) c.array (c.first + k)

  abbrev then_next : Unit {0} → Algorithm Value
  then_next _ = after_copying c.array next

  abbrev others : (left k : ℕ) → Algorithm Value
  others left k = copy_others c left k >>= then_next

  pub copies_end : c.left ≡ 0 → RefinesAlgorithm s (after_copying c.array next) u a
      → RefinesAlgorithm s (others c.left c.k) u a
  copies_end none refines = upward_ends s u a turn then_next c.left c.k tt none refines

  pub copies_take : (t : State) → (c.left ≡ 0 → ⊥) → Took s t
      → RefinesAlgorithm t (copy_element c.object (c.start + c.k) c.array (c.first + c.k)
      >>= λ _. others (c.left - 1) (c.k + 1)) u a
      → RefinesAlgorithm s (others c.left c.k) u a
  copies_take t some took refines = upward_takes s u a turn then_next t c.left c.k tt some took refines

  -- an element that is there is got
  pub copies_there : (i : ℕ) (b : Bool) → i ≡ c.start + c.k → b ≡ has_index s.store c.object i → b ≡ true
      → RefinesAlgorithm s (get_index c.object i >>= array_after (array.CopyElement c next)) u a
      → RefinesAlgorithm s (copy_element c.object (c.start + c.k) c.array (c.first + c.k) >>= λ _. others c.left
      (c.k + 1)) u a
  copies_there i b is found there refines =
      subst (λ j. RefinesAlgorithm s (copy_element c.object j c.array (c.first + c.k) >>= λ _. others c.left
      (c.k + 1)) u a) is
      (element_there s u a c.object i (add_if c.array (c.first + c.k)) (λ _. others c.left (c.k + 1)) b found there
      refines)

  -- and one that isn't is passed over
  pub copies_missing : (i k : ℕ) (b : Bool) → i ≡ c.start + c.k → b ≡ has_index s.store c.object i → b ≡ false
      → k ≡ c.k + 1 → RefinesAlgorithm s (others c.left k) u a
      → RefinesAlgorithm s (copy_element c.object (c.start + c.k) c.array (c.first + c.k) >>= λ _. others c.left
      (c.k + 1)) u a
  copies_missing i k b is found missing more refines =
      subst (λ j. RefinesAlgorithm s (copy_element c.object j c.array (c.first + c.k) >>= λ _. others c.left
      (c.k + 1)) u a) is
      (element_missing s u a c.object i (add_if c.array (c.first + c.k)) (λ _. others c.left (c.k + 1)) b found missing
      (subst (λ j. RefinesAlgorithm s (others c.left j) u a) more refines))

  -- the element is added
  pub copies_element : (i k : ℕ) (v : Value) → i ≡ c.first + c.k → k ≡ c.k + 1
      → RefinesAlgorithm s (add_index c.array i v >>= λ _. others c.left k) u a
      → RefinesAlgorithm s (array_after (array.CopyElement c next) v) u a
  copies_element i k v is more refines =
      subst (λ j. RefinesAlgorithm s (add_index c.array j v >>= λ _. others c.left (c.k + 1)) u a) is
      (subst (λ j. RefinesAlgorithm s (add_index c.array i v >>= λ _. others c.left j) u a) more refines)

pub copies_spent : (s u : State) (c : Copying) (next : AfterCopying) → (c.left ≡ 0 → ⊥) → u ≡ s → RanOut s
    → RefinesAlgorithm s (copy_others c c.left c.k >>= λ _. after_copying c.array next) u act.Spent
copies_spent s u c next some same spent =
    upward_spent s u act.Spent (λ k _. copy_element c.object (c.start + k) c.array (c.first + k))
    (λ _. after_copying c.array next) c.left c.k tt some same spent
