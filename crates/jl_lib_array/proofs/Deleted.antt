-- Elements that are deleted, one a turn.
use Rattle.std.proofs.Common.{◌≡◌, ◌+◌, ◌-◌, refl, subst, ℕ}
use Rattle.jl_value.specs.declared.object.ObjId.{ObjId}
use Rattle.jl_value.specs.declared.value.Value.{Value}
use Rattle.jl_value.specs.declared.value.Value.TheVariants as value
use Rattle.jl_meaning.specs.Parts.{◌>>=◌, Algorithm}
use Rattle.jl_meaning.specs.builtins.Arguments.{give_object}
use Rattle.jl_meaning.specs.builtins.Elements.{delete_index}
use Rattle.jl_progress.specs.Arrays.{array_after, delete_end, length_spliced, put_items}
use Rattle.jl_progress.specs.declared.array.ArrayProgress.TheVariants as array
use Rattle.jl_progress.specs.declared.array.Splicing.{Splicing}
use Rattle.jl_state.specs.Rest.{RefinesAlgorithm}
use Rattle.jl_state.specs.Steps.{RanOut, Took}
use Rattle.jl_state.specs.declared.act.Act.{Act}
use Rattle.jl_state.specs.declared.act.Act.TheVariants as act
use Rattle.jl_state.specs.declared.state.State.{State}
use Rattle.jl_lib_array.proofs.Turns.{downward_ends, downward_spent, downward_takes, upward_ends, upward_spent}
use Rattle.jl_lib_array.proofs.Turns.{upward_takes}

-- up from an index, and then the object is given
module _ (s u : State) (a : Act) (o : ObjId) (index left : ℕ) where
  abbrev turn_up : ℕ → Unit {0} → Algorithm (Unit {0})
  turn_up k _ = delete_index o k

  abbrev given : Unit {0} → Algorithm Value
  given _ = give_object o

  abbrev deletions : (index left : ℕ) → Algorithm Value
  deletions i n = array_after (array.DeleteUp o i n) value.Undefined

  pub deletes_up_end : left ≡ 0 → RefinesAlgorithm s (deletions index left) s (act.Give (value.Obj o))
  deletes_up_end none =
      upward_ends s s (act.Give (value.Obj o)) turn_up given left index tt none (record { is = λ kept told. refl })

  pub deletes_up_spent : (left ≡ 0 → ⊥) → u ≡ s → RanOut s → RefinesAlgorithm s (deletions index left) u act.Spent
  deletes_up_spent some same spent = upward_spent s u a turn_up given left index tt some same spent

  pub deletes_up_take : (t : State) (after : ℕ) → (left ≡ 0 → ⊥) → Took s t → after ≡ index + 1
      → RefinesAlgorithm t (delete_index o index >>= λ _. deletions after (left - 1)) u a
      → RefinesAlgorithm s (deletions index left) u a
  deletes_up_take t after some took more refines =
      upward_takes s u a turn_up given t left index tt some took
      (subst (λ i. RefinesAlgorithm t (delete_index o index >>= λ _. deletions i (left - 1)) u a) more refines)

-- down to the new end of an object that is spliced
module _ (s u : State) (a : Act) (x : Splicing) (left : ℕ) where
  abbrev turn_down : ℕ → Unit {0} → Algorithm (Unit {0})
  turn_down k _ = delete_index x.object (length_spliced x + k)

  abbrev then_items : Unit {0} → Algorithm Value
  then_items _ = put_items x

  pub deletes_down_end : left ≡ 0 → RefinesAlgorithm s (put_items x) u a → RefinesAlgorithm s (delete_end x left) u a
  deletes_down_end none refines = downward_ends s u a turn_down then_items left tt none refines

  pub deletes_down_spent : (left ≡ 0 → ⊥) → u ≡ s → RanOut s → RefinesAlgorithm s (delete_end x left) u act.Spent
  deletes_down_spent some same spent = downward_spent s u a turn_down then_items left tt some same spent

  pub deletes_down_take : (t : State) (end index : ℕ) → (left ≡ 0 → ⊥) → Took s t → end ≡ length_spliced x
      → index ≡ end + (left - 1) → RefinesAlgorithm t (delete_index x.object index >>= λ _. delete_end x (left - 1)) u a
      → RefinesAlgorithm s (delete_end x left) u a
  deletes_down_take t end index some took is_end is refines =
      downward_takes s u a turn_down then_items t left tt some took
      (subst (λ i. RefinesAlgorithm t (delete_index x.object (i + (left - 1)) >>= λ _. delete_end x
      (left - 1)) u a) is_end
      (subst (λ i. RefinesAlgorithm t (delete_index x.object i >>= λ _. delete_end x (left - 1)) u a) is refines))
