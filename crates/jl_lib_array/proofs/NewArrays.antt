-- Arrays that are made.
use Rattle.std.proofs.Common.{◌≡◌, ◌<◌, ◌+◌, ◌∙◌, ◌∷◌, [], ap, arith, codes, drop, false, get_or, length, pos, refl}
use Rattle.std.proofs.Common.{subst, suc, sym}
use Rattle.std.proofs.Common.{add-one, drop-cons, true, Bool, List, None, Option, Some, ℕ}
use Rattle.std.specs.Prelude.{if◌then◌else◌}
use Rattle.jl_num.specs.Bits.{uint32_of}
use Rattle.jl_num.specs.Number.{Number}
use Rattle.jl_value.specs.Same.{same_number}
use Rattle.jl_value.specs.declared.error_kind.ErrorKind.TheVariants.{RangeError}
use Rattle.jl_value.specs.declared.object.ObjId.{ObjId}
use Rattle.jl_value.specs.declared.value.Value.{Value}
use Rattle.jl_value.specs.declared.value.Value.TheVariants as value
use Rattle.jl_heap.specs.Define.{length_name}
use Rattle.jl_heap.specs.Objects.{Name}
use Rattle.jl_heap.specs.declared.property.Change.{Change}
use Rattle.jl_effects.specs.Running.{Ends, Fails}
use Rattle.jl_meaning.specs.Defining.{define_own_property, value_change}
use Rattle.jl_meaning.specs.Errors.{throw_error}
use Rattle.jl_meaning.specs.Parts.{give, gives, throws, ◌>>=◌, Algorithm, Call}
use Rattle.jl_meaning.specs.Relations.{give_truth}
use Rattle.jl_meaning.specs.Store.{Store}
use Rattle.jl_meaning.specs.builtins.Array.{add_all, array_by, array_is_array, array_of_one, array_of_values}
use Rattle.jl_meaning.specs.builtins.Array.{is_array_value}
use Rattle.jl_meaning.specs.builtins.Arguments.{argument, give_object}
use Rattle.jl_meaning.specs.builtins.Elements.{add_index, array_of_length}
use Rattle.jl_meaning.specs.forms.Literals.{new_array}
use Rattle.jl_store.specs.Answers.{fault_seen, finish_of}
use Rattle.jl_store.specs.BigStep.{BigStep}
use Rattle.jl_store.specs.declared.answer.AlgorithmFault.{AlgorithmFault}
use Rattle.jl_store.specs.declared.answer.Finished.{Finished}
use Rattle.jl_store.specs.declared.answer.Finished.TheVariants as ended
use Rattle.jl_store.proofs.Chains.{comes_failed, comes_on, comes_thrown}
use Rattle.jl_store.proofs.PropertyChanges.{puts_length}
use Rattle.jl_store.proofs.Loops.{all_done, next_done, next_failed, next_thrown, none_left, Leaves}
use Rattle.jl_store.proofs.Steps.{comes_to}
use Rattle.jl_state.specs.Rest.{RefinesAlgorithm}
use Rattle.jl_state.specs.declared.act.Act.{Act}
use Rattle.jl_state.specs.declared.act.Act.TheVariants as act
use Rattle.jl_state.specs.declared.state.State.{State}
use Rattle.jl_state.proofs.Steps.{looks}
use Rattle.jl_algorithm.proofs.Throwing.{works_left_out}
use Rattle.jl_lib_array.specs.inner.Arrays.{number_in, only_number}

-- an argument that is a number, alone

number_alone : (args : List Value) (n : Number) → only_number args ≡ Some n → array_of_one (value.Num n) ≡ array_by args
number_alone [] n is = absurd (let differ = is in cc)
number_alone (value.Num m ∷ []) n is =
    let same : n ≡ m = (let e = is in cc) in ap (λ k. array_of_one (value.Num k)) same
number_alone (value.Undefined ∷ []) n is = absurd (let differ = is in cc)
number_alone (value.Null ∷ []) n is = absurd (let differ = is in cc)
number_alone (value.Bool b ∷ []) n is = absurd (let differ = is in cc)
number_alone (value.Text x ∷ []) n is = absurd (let differ = is in cc)
number_alone (value.Obj id ∷ []) n is = absurd (let differ = is in cc)
number_alone (v ∷ w ∷ vs) n is = absurd (let differ = is in cc)

no_number : (args : List Value) → only_number args ≡ None → array_of_values args ≡ array_by args
no_number [] is = refl
no_number (value.Num m ∷ []) is = absurd (let differ = is in cc)
no_number (value.Undefined ∷ []) is = refl
no_number (value.Null ∷ []) is = refl
no_number (value.Bool b ∷ []) is = refl
no_number (value.Text x ∷ []) is = refl
no_number (value.Obj id ∷ []) is = refl
no_number (v ∷ w ∷ vs) is = refl

-- the only argument, and others

pub alone : (args : List Value) (v : Value) (o : Option Number) → length args ≡ 1 → v ≡ get_or args 0 v
    → o ≡ number_in v → o ≡ only_number args
alone [] v o one is there = absurd (let differ = one in cc)
alone (w ∷ []) v o one is there = there ∙ ap number_in is
alone (w ∷ x ∷ vs) v o one is there = absurd (omega (arith, one))

pub not_alone : (args : List Value) → (length args ≡ 1 → ⊥) → None ≡ only_number args
not_alone [] differs = refl
not_alone (v ∷ []) differs = absurd (differs refl)
not_alone (v ∷ w ∷ vs) differs = refl

pub constructs_length : (s : State) (args : List Value) (o : Option Number) (n : Number) (t : State) (a : Act)
    → o ≡ only_number args → o ≡ Some n → RefinesAlgorithm s (array_of_one (value.Num n)) t a
    → RefinesAlgorithm s (array_by args) t a
constructs_length s args o n t a is some refines =
    subst (λ p. RefinesAlgorithm s p t a) (number_alone args n (sym is ∙ some)) refines

pub constructs_values : (s : State) (args : List Value) (o : Option Number) (t : State) (a : Act)
    → o ≡ only_number args → o ≡ None → RefinesAlgorithm s (array_of_values args) t a
    → RefinesAlgorithm s (array_by args) t a
constructs_values s args o t a is none refines = subst (λ p. RefinesAlgorithm s p t a)
    (no_number args (sym is ∙ none)) refines

-- an array of a length

abbrev of_length : (fits : Bool) → Number → Algorithm Value
of_length fits n =
    (if fits then give (value.Num n) else throw_error RangeError (codes "bad array length"))
    >>= λ length. array_of_length length >>= λ a. give (value.Obj a)

module _ (s : State) (n : Number) (b : Bool) (is : b ≡ same_number (Some (pos (uint32_of n))) n) where
  pub fits_length : (t : State) (a : Act) → b ≡ true
      → RefinesAlgorithm s (array_of_length (value.Num n) >>= give_object) t a
      → RefinesAlgorithm s (array_of_one (value.Num n)) t a
  fits_length t a so refines = subst (λ c. RefinesAlgorithm s (of_length c n) t a) (sym so ∙ is) refines

  pub bad_length : (t : State) (a : Act) → b ≡ false
      → RefinesAlgorithm s (throw_error RangeError (codes "bad array length")) t a
      → RefinesAlgorithm s (array_of_one (value.Num n)) t a
  bad_length t a so refines =
      subst (λ c. RefinesAlgorithm s (of_length c n) t a) (sym so ∙ is)
      (works_left_out s RangeError (codes "bad array length")
      (λ length. array_of_length length >>= λ a. give (value.Obj a)) t a refines)

-- whether a value is an array
pub tests_array : (s : State) (c : Call) (v : Value) (b : Bool) → v ≡ argument c 0 → b ≡ is_array_value s.store.heap v
    → RefinesAlgorithm s (array_is_array c) s (act.Give (value.Bool b))
tests_array s c v b is truth =
    looks s (λ store. give_truth (is_array_value store.heap (argument c 0))) (give_truth b) s (act.Give (value.Bool b))
    (ap give_truth (truth ∙ ap (is_array_value s.store.heap) is)) (record { is = λ kept told. refl })

-- an array gets its length
module _ (from made to : Store) (a : ObjId) (n : Number) (x : Name) (change : Change)
    (new : BigStep new_array from made (Ends (gives a))) (name_is : x ≡ codes "length")
    (change_is : change ≡ value_change (value.Num n)) (answer : Finished Bool)
    (comes : BigStep (define_own_property a x change) made to (finish_of answer)) where
  abbrev length_put : Algorithm Bool
  length_put = define_own_property a length_name (value_change (value.Num n))

  puts : (end : Finished Bool) → answer ≡ end → BigStep length_put made to (finish_of end)
  puts end is =
      puts_length a x (value.Num n) (value.Num n) change made to answer end name_is refl change_is is comes

  abbrev with_length : ObjId → Algorithm ObjId
  with_length id = define_own_property id length_name (value_change (value.Num n)) >>= λ _. give id

  pub length_given : (done : Bool) → answer ≡ ended.Gives done
      → BigStep (array_of_length (value.Num n)) from to (Ends (gives a))
  length_given done is = comes_on with_length new (comes_on (λ _. give a) (puts (ended.Gives done) is) comes_to)

  pub length_thrown : (v : Value) → answer ≡ ended.Throws v
      → BigStep (array_of_length (value.Num n)) from to (Ends (throws v))
  length_thrown v is = comes_on with_length new (comes_thrown (λ _. give a) (puts (ended.Throws v) is))

  pub length_failed : (f : AlgorithmFault) → answer ≡ ended.Fails f
      → BigStep (array_of_length (value.Num n)) from to (Fails (fault_seen f))
  length_failed f is = comes_on with_length new (comes_failed (λ _. give a) (puts (ended.Fails f) is))

-- elements, one after another
module _ {s t u : Store} (a : ObjId) (i : ℕ) (values : List Value) (v : Value)
    (before : Leaves (add_all a 0 values) s (add_all a i (drop i values)) t) (within : i < length values)
    (item : Value) (there : item ≡ get_or values i item) (shared : v ≡ item) (answer : Finished (Unit {0}))
    (comes : BigStep (add_index a i v) t u (finish_of answer)) where
  is : v ≡ get_or values i v
  is = subst (λ w. w ≡ get_or values i w) (sym shared) there

  split : drop i values ≡ v ∷ drop (i + 1) values
  split =
      drop-cons values i v within ∙ ap (λ w. w ∷ drop (suc i) values) (sym is)
      ∙ ap (λ k. v ∷ drop k values) (sym (add-one i))

  left : Leaves (add_all a 0 values) s (add_index a i v >>= λ _. add_all a (i + 1) (drop (i + 1) values)) t
  left = subst (λ l. Leaves (add_all a 0 values) s (add_all a i l) t) split before

  so : (end : Finished (Unit {0})) → answer ≡ end → BigStep (add_index a i v) t u (finish_of end)
  so end same = subst (λ (f : Finished (Unit {0})). BigStep (add_index a i v) t u (finish_of f)) same comes

  pub element_done : answer ≡ ended.Gives tt
      → Leaves (add_all a 0 values) s (add_all a (i + 1) (drop (i + 1) values)) u
  element_done same = next_done left (so (ended.Gives tt) same)

  pub element_thrown : (w : Value) → answer ≡ ended.Throws w → BigStep (add_all a 0 values) s u (Ends (throws w))
  element_thrown w same = next_thrown (add_all a (i + 1) (drop (i + 1) values)) left (so (ended.Throws w) same)

  pub element_failed : (f : AlgorithmFault) → answer ≡ ended.Fails f
      → BigStep (add_all a 0 values) s u (Fails (fault_seen f))
  element_failed f same = next_failed (add_all a (i + 1) (drop (i + 1) values)) left (so (ended.Fails f) same)

pub elements_done : {s t : Store} (a : ObjId) (i : ℕ) (values : List Value) → length values ≡ i
    → Leaves (add_all a 0 values) s (add_all a i (drop i values)) t → BigStep (add_all a 0 values) s t (Ends (gives tt))
elements_done {s} {t} a i values over before =
    all_done (subst (λ l. Leaves (add_all a 0 values) s (add_all a i l) t) (none_left values i over) before)
