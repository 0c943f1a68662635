-- `concat`: items that are appended.
use Rattle.std.proofs.Common.{◌≡◌, ◌∙◌, ◌+◌, ◌++◌, ◌∷◌, [], ap, drop, false, subst, sym, true, Bool}
use Rattle.std.proofs.Common.{List, ℕ}
use mathlib.Core.Path.{fun_ext}
use Rattle.jl_value.specs.declared.object.ObjId.{ObjId}
use Rattle.jl_value.specs.declared.value.Value.{Value}
use Rattle.jl_value.specs.declared.value.Value.TheVariants as value
use Rattle.jl_heap.specs.Define.{count_of, length_name}
use Rattle.jl_effects.specs.Running.{Ends}
use Rattle.jl_meaning.specs.Getting.{get}
use Rattle.jl_meaning.specs.Parts.{give, gives, ◌>>=◌, Algorithm}
use Rattle.jl_meaning.specs.builtins.Arguments.{give_object}
use Rattle.jl_meaning.specs.builtins.Array.{append, append_all, append_array, is_array_value}
use Rattle.jl_meaning.specs.builtins.Elements.{add_index, copy}
use Rattle.jl_meaning.specs.forms.Literals.{new_array}
use Rattle.jl_store.specs.BigStep.{BigStep}
use Rattle.jl_progress.specs.Arrays.{after_copying, array_after}
use Rattle.jl_progress.specs.declared.array.AfterCopying.TheVariants as copied
use Rattle.jl_progress.specs.declared.array.ArrayProgress.TheVariants as array
use Rattle.jl_state.specs.Rest.{RefinesAlgorithm}
use Rattle.jl_state.specs.declared.act.Act.{Act}
use Rattle.jl_state.specs.declared.state.State.{State}
use Rattle.jl_state.proofs.Stores.{works_comes, IsStored}
use Rattle.jl_meaning.proofs.Binds.{bind_assoc}
use Rattle.jl_state.proofs.Chains.{works_assoc}
use Rattle.jl_lib_array.specs.inner.Functions.{concat_on}

module _ (s t : State) (a : Act) (o : ObjId) (n : ℕ) (v : Value) (items : List Value) (from : ℕ) where
  abbrev others : ℕ → Algorithm Value
  others m = append_all o m (drop from items) >>= λ _. give_object o

  looked : (b : Bool) → b ≡ is_array_value s.store.heap v → RefinesAlgorithm s (append_array b o n v >>= others) t a
      → RefinesAlgorithm s (append o n v >>= others) t a
  looked b is refines =
      let found = subst (λ c. RefinesAlgorithm s
      (append_array c o n v >>= others) t a) is refines in record { is = found.is }

  -- an item that is no array is an element
  pub appends_value : (after : ℕ) → is_array_value s.store.heap v ≡ false → after ≡ n + 1
      → RefinesAlgorithm s (add_index o n v >>= λ _. others after) t a
      → RefinesAlgorithm s (append o n v >>= others) t a
  appends_value after no_array more refines =
      looked false (sym no_array) (works_assoc s (add_index o n v) (λ _. give (n + 1)) others t a
      (subst (λ m. RefinesAlgorithm s (add_index o n v >>= λ _. others m) t a) more refines))

  -- of an array the length is got, and then its elements are copied
  pub appends_elements : (e : ObjId) → v ≡ value.Obj e → is_array_value s.store.heap v ≡ true
      → RefinesAlgorithm s (get (value.Obj e) length_name >>= array_after (array.ConcatLength o n e items from)) t a
      → RefinesAlgorithm s (append o n v >>= others) t a
  appends_elements e is an_array refines =
      looked true (sym an_array)
      (subst (λ w. RefinesAlgorithm s (append_array true o n w >>= others) t a) (sym is)
      (subst (λ p. RefinesAlgorithm s p t a) (sym apart) refines))
    where
      copied_then : Value → Algorithm ℕ
      copied_then l = copy e 0 o (count_of l) n >>= λ _. give (n + count_of l)

      apart : (get (value.Obj e) length_name >>= copied_then >>= others)
          ≡ (get (value.Obj e) length_name >>= λ l. copy e 0 o (count_of l) n >>= λ _. others (n + count_of l))
      apart =
          bind_assoc (get (value.Obj e) length_name) copied_then others
          ∙ ap (λ (f : Value → Algorithm Value). get (value.Obj e) length_name >>= f)
          (fun_ext (λ l. bind_assoc (copy e 0 o (count_of l) n) (λ _. give (n + count_of l)) others))

-- a new array is made, to which the object and the arguments are appended
pub concats : (s t u : State) (a : Act) (o id : ObjId) (args items first : List Value) → IsStored s t
    → BigStep new_array s.store t.store (Ends (gives id)) → first ≡ value.Obj o ∷ [] → items ≡ first ++ args
    → RefinesAlgorithm t (append_all id 0 (drop 0 items) >>= λ _. give_object id) u a
    → RefinesAlgorithm s (concat_on o args) u a
concats s t u a o id args items first stored comes begins are refines =
    works_comes s t stored new_array id
    (λ array. append_all array 0 (value.Obj o ∷ args) >>= λ _. give_object array) u a comes
    (subst (λ (l : List Value). RefinesAlgorithm t (append_all id 0 (l ++ args) >>= λ _. give_object id) u a) begins
    (subst (λ (l : List Value). RefinesAlgorithm t (append_all id 0 l >>= λ _. give_object id) u a) are refines))

-- its elements are copied
pub copies_items : (s t : State) (a : Act) (o e : ObjId) (n left after from : ℕ) (items : List Value) (v : Value)
    → left ≡ count_of v → after ≡ n + left
    → RefinesAlgorithm s (copy e 0 o left n >>= λ _. after_copying o (copied.Concat after items from)) t a
    → RefinesAlgorithm s (array_after (array.ConcatLength o n e items from) v) t a
copies_items s t a o e n left after from items v is more refines =
    subst (λ m. RefinesAlgorithm s (copy e 0 o m n >>= λ _. after_copying o (copied.Concat (n + m) items from)) t a) is
    (subst (λ m. RefinesAlgorithm s (copy e 0 o left n >>= λ _. after_copying o
    (copied.Concat m items from)) t a) more refines)
