-- `sort`: elements that are read, each with the string that it is compared by.
use Rattle.std.proofs.Common.{◌≡◌, ◌∙◌, ◌+◌, ◌-◌, ◌++◌, ◌∷◌, [], ap, false, map, subst, sym, true, Bool, List, None}
use Rattle.std.proofs.Common.{Option, Some, ℕ}
use Rattle.jl_value.specs.Tests.{is_undefined}
use Rattle.jl_value.specs.declared.value.Value.{Value}
use Rattle.jl_value.specs.declared.value.Value.TheVariants as value
use Rattle.jl_conv.specs.Conversions.{text_of_value}
use Rattle.jl_meaning.specs.Conversions.{string_hint, to_primitive, to_string}
use Rattle.jl_meaning.specs.Parts.{give, ◌>>=◌, Algorithm}
use Rattle.jl_meaning.specs.builtins.ArrayChanges.{key_of, read_turn, sort_by_keys, with_element, KeyedValue}
use Rattle.jl_meaning.specs.builtins.Elements.{get_index, has_index}
use Rattle.jl_progress.specs.Arrays.{array_after, put_others, sort_others}
use Rattle.jl_progress.specs.declared.array.AfterPutting.TheVariants as put
use Rattle.jl_progress.specs.declared.array.ArrayProgress.TheVariants as array
use Rattle.jl_progress.specs.declared.array.Reading.{Reading}
use Rattle.jl_state.specs.Rest.{RefinesAlgorithm}
use Rattle.jl_state.specs.Steps.{RanOut, Took}
use Rattle.jl_state.specs.declared.act.Act.{Act}
use Rattle.jl_state.specs.declared.act.Act.TheVariants as act
use Rattle.jl_state.specs.declared.state.State.{State}
use Rattle.jl_meaning.proofs.Binds.{bind_assoc}
use Rattle.jl_builtin.proofs.Conversions.{string_converts}
use Rattle.jl_lib_array.proofs.Found.{element_missing, element_there}
use Rattle.jl_lib_array.proofs.Turns.{upward_ends, upward_spent, upward_takes}

key_there : (v : Value) (k : Option (List ℕ) → Algorithm Value) → is_undefined v ≡ false
    → (to_string v >>= λ x. k (Some x)) ≡ (key_of v >>= k)
key_there value.Undefined k e = absurd (let differ = e in cc)
key_there value.Null k e = sym (bind_assoc (to_string value.Null) (λ x. give (Some x)) k)
key_there (value.Bool b) k e = sym (bind_assoc (to_string (value.Bool b)) (λ x. give (Some x)) k)
key_there (value.Num n) k e = sym (bind_assoc (to_string (value.Num n)) (λ x. give (Some x)) k)
key_there (value.Text x) k e = sym (bind_assoc (to_string (value.Text x)) (λ x. give (Some x)) k)
key_there (value.Obj id) k e = sym (bind_assoc (to_string (value.Obj id)) (λ x. give (Some x)) k)

module _ (s t : State) (a : Act) (r : Reading) (read : List KeyedValue) (v : Value) where
  abbrev with_key : Option (List ℕ) → Algorithm (List KeyedValue)
  with_key key = give (read ++ (key, v) ∷ [])

  -- the element is converted, which isn't undefined
  pub reads_string : (element : Value) → element ≡ v → is_undefined v ≡ false
      → RefinesAlgorithm s (to_primitive string_hint v >>= array_after (array.SortPrimitive r read element)) t a
      → RefinesAlgorithm s (array_after (array.SortElement r read) v) t a
  reads_string element same there refines =
      subst (λ p. RefinesAlgorithm s p t a)
      (string_converts v (λ x. sort_others r (read ++ (Some x, v) ∷ []))
      ∙ key_there v (λ key. sort_others r (read ++ (key, v) ∷ [])) there
      ∙ sym (bind_assoc (key_of v) with_key (sort_others r)))
      (subst (λ w. RefinesAlgorithm s (to_primitive string_hint v >>= array_after
      (array.SortPrimitive r read w)) t a) same refines)

-- its string has been read
pub reads_primitive : (s t : State) (a : Act) (r : Reading) (read longer : List KeyedValue) (v p : Value)
    (text : List ℕ) → text ≡ text_of_value p → longer ≡ read ++ (Some text, v) ∷ []
    → RefinesAlgorithm s (sort_others r longer) t a
    → RefinesAlgorithm s (array_after (array.SortPrimitive r read v) p) t a
reads_primitive s t a r read longer v p text text_is is refines =
    subst (λ (l : List KeyedValue). RefinesAlgorithm s (sort_others r l) t a)
    (is ∙ ap (λ (x : List ℕ). read ++ (Some x, v) ∷ []) text_is) refines

-- undefined has none
pub reads_undefined : (s t : State) (a : Act) (r : Reading) (read longer : List KeyedValue) (v : Value)
    → is_undefined v ≡ true → longer ≡ read ++ (None, v) ∷ [] → RefinesAlgorithm s (sort_others r longer) t a
    → RefinesAlgorithm s (array_after (array.SortElement r read) v) t a
reads_undefined s t a r read longer value.Undefined none is refines =
    subst (λ (l : List KeyedValue). RefinesAlgorithm s (sort_others r l) t a) is refines
reads_undefined s t a r read longer value.Null e is refines = absurd (let differ = e in cc)
reads_undefined s t a r read longer (value.Bool b) e is refines = absurd (let differ = e in cc)
reads_undefined s t a r read longer (value.Num n) e is refines = absurd (let differ = e in cc)
reads_undefined s t a r read longer (value.Text x) e is refines = absurd (let differ = e in cc)
reads_undefined s t a r read longer (value.Obj id) e is refines = absurd (let differ = e in cc)

-- turns in which an element is read

module _ (s u : State) (a : Act) (r : Reading) (read : List KeyedValue) where
  abbrev then_put : List KeyedValue → Algorithm Value
  then_put l = put_others r.object 0 (map (λ (x : KeyedValue). x.1) (sort_by_keys l)) (put.Sort r.length)

  pub reads_end : r.left ≡ 0 → RefinesAlgorithm s (then_put read) u a → RefinesAlgorithm s (sort_others r read) u a
  reads_end none refines = upward_ends s u a (read_turn r.object) then_put r.left r.k read none refines

  pub reads_spent : (r.left ≡ 0 → ⊥) → u ≡ s → RanOut s → RefinesAlgorithm s (sort_others r read) u act.Spent
  reads_spent some same spent = upward_spent s u a (read_turn r.object) then_put r.left r.k read some same spent

  pub reads_take : (t : State) (k : ℕ) → (r.left ≡ 0 → ⊥) → Took s t → k ≡ r.k + 1
      → RefinesAlgorithm t (read_turn r.object r.k read >>= sort_others (record r { left = r.left - 1; k = k })) u a
      → RefinesAlgorithm s (sort_others r read) u a
  reads_take t k some took more refines =
      upward_takes s u a (read_turn r.object) then_put t r.left r.k read some took
      (subst (λ i. RefinesAlgorithm t (read_turn r.object r.k read >>= sort_others
      (record r { left = r.left - 1; k = i })) u a)
      more refines)

  pub reads_there : (i : ℕ) (b : Bool) → b ≡ has_index s.store r.object i → b ≡ true
      → RefinesAlgorithm s (get_index r.object i >>= array_after (array.SortElement r read)) u a
      → RefinesAlgorithm s (read_turn r.object i read >>= sort_others r) u a
  reads_there i b found there refines =
      element_there s u a r.object i (with_element read) (sort_others r) b found there refines

  pub reads_missing : (i : ℕ) (b : Bool) → b ≡ has_index s.store r.object i → b ≡ false
      → RefinesAlgorithm s (sort_others r read) u a
      → RefinesAlgorithm s (read_turn r.object i read >>= sort_others r) u a
  reads_missing i b found missing refines =
      element_missing s u a r.object i (with_element read) (sort_others r) b found missing refines

  -- what was read is sorted, and then its values are put
  pub sorts : (sorted : List KeyedValue) (values : List Value) → sorted ≡ sort_by_keys read
      → values ≡ map (λ (x : KeyedValue). x.1) sorted
      → RefinesAlgorithm s (put_others r.object 0 values (put.Sort r.length)) u a
      → RefinesAlgorithm s (then_put read) u a
  sorts sorted values in_order are refines =
      subst (λ (l : List KeyedValue). RefinesAlgorithm s (put_others r.object 0 (map (λ (x : KeyedValue). x.1) l)
      (put.Sort r.length)) u a) in_order
      (subst (λ (l : List Value). RefinesAlgorithm s (put_others r.object 0 l (put.Sort r.length)) u a) are refines)
