-- Elements and lengths of array literals, as properties.
use Rattle.std.proofs.Common.{◌≡◌, ℕ, Bool, codes, refl, sym, subst}
use Rattle.std.specs.Prelude.{Option}
use Rattle.jl_value.specs.declared.ending.Completion.TheVariants as completion
use Rattle.jl_value.specs.declared.ending.Fault.{Fault}
use Rattle.jl_value.specs.declared.object.ObjId.{ObjId}
use Rattle.jl_value.specs.declared.value.Value.{Value}
use Rattle.jl_value.specs.declared.value.Value.TheVariants as value
use Rattle.jl_heap.specs.Define.{length_name, IsOneKind}
use Rattle.jl_heap.specs.Objects.{Name, Objects}
use Rattle.jl_heap.specs.declared.property.Change.{Change}
use Rattle.jl_effects.specs.Running.{Finish}
use Rattle.jl_meaning.specs.Defining.{define_own_property, plain_change, value_change}
use Rattle.jl_meaning.specs.FunctionObjects.{whole}
use Rattle.jl_meaning.specs.Parts.{fault_of, Part}
use Rattle.jl_meaning.specs.Parts as parts
use Rattle.jl_meaning.specs.Store.{Store}
use Rattle.jl_meaning.specs.forms.Literals.{accessor_change, end_array, index_name, literal_of, of_array, put_element}
use Rattle.jl_store.specs.Answers.{fault_seen, finish_of}
use Rattle.jl_store.specs.BigStep.{BigStep}
use Rattle.jl_store.specs.Defining.{LengthIsPrimitive}
use Rattle.jl_store.specs.declared.answer.AlgorithmFault.{AlgorithmFault}
use Rattle.jl_store.specs.declared.answer.Finished.{Finished}
use Rattle.jl_store.specs.declared.answer.Finished.TheVariants as ended
use Rattle.jl_store.proofs.PropertyChanges.{primitive_given, puts_length}
use Rattle.jl_state.specs.Rest.{RefinesExpression}
use Rattle.jl_state.specs.declared.act.Act.{Act}
use Rattle.jl_state.specs.declared.act.Act.TheVariants as act
use Rattle.jl_state.specs.declared.state.State.{State}
use Rattle.jl_state.proofs.Stores.{gives_comes, gives_failed, gives_thrown, IsStored}

pub one_kind_accessor : (get set : Option (Option ObjId)) (change : Change) → change ≡ accessor_change get set
    → IsOneKind change
one_kind_accessor get set change is = subst IsOneKind (sym is) refl

-- a length is no object
pub primitive_length : (heap : Objects) (address n : ℕ) (x : Name) (w : Value) (change : Change) → w ≡ whole n
    → change ≡ value_change w → LengthIsPrimitive heap address x change
primitive_length heap address n x w change = primitive_given heap address x (whole n) w change refl

-- an element is put
pub puts_element : (array : ObjId) (index : ℕ) (v : Value) (x : Name) (change : Change) (from to : Store)
    (end : Finish parts.AlgorithmFault (parts.Answer Bool)) → x ≡ index_name index → change ≡ plain_change v
    → BigStep (define_own_property array x change) from to end → BigStep (put_element array index v) from to end
unfolding put_element
puts_element array index v x change from to end name_is change_is comes =
    subst (λ y. BigStep (define_own_property array y (plain_change v)) from to end) name_is
    (subst (λ c. BigStep (define_own_property array x c) from to end) change_is comes)

-- an array that has been filled gets its length
module _ (s t : State) (stored : IsStored s t) (array : ObjId) (n : ℕ) (x : Name) (w : Value) (change : Change)
    (name_is : x ≡ codes "length") (w_is : w ≡ whole n) (change_is : change ≡ value_change w) (answer : Finished Bool)
    (comes : BigStep (define_own_property array x change) s.store t.store (finish_of answer)) where
  abbrev length_put : parts.Algorithm Bool
  length_put = define_own_property array length_name (value_change (whole n))

  abbrev then_given : Bool → Part (parts.Answer Value)
  then_given _ = literal_of of_array 0 (value.Obj array)

  puts : (end : Finished Bool) → answer ≡ end → BigStep length_put s.store t.store (finish_of end)
  puts end is =
      puts_length array x (whole n) w change s.store t.store answer end name_is w_is change_is is comes

  pub length_given : (done : Bool) (u : State) (a : Act) → answer ≡ ended.Gives done
      → RefinesExpression t (literal_of of_array 0 (value.Obj array)) u a
      → RefinesExpression s (end_array 0 array n) u a
  unfolding end_array
  length_given done u a is refines =
      gives_comes s t stored length_put done then_given u a (puts (ended.Gives done) is) refines

  pub length_thrown : (v : Value) → answer ≡ ended.Throws v
      → RefinesExpression s (end_array 0 array n) t (act.Complete (completion.Throw v))
  unfolding end_array
  length_thrown v is = gives_thrown s t stored length_put v then_given (puts (ended.Throws v) is)

  pub length_failed : (f : AlgorithmFault) (g : Fault) → answer ≡ ended.Fails f → g ≡ fault_of (fault_seen f)
      → RefinesExpression s (end_array 0 array n) t (act.Fault g)
  unfolding end_array
  length_failed f g is fault_is =
      subst (λ h. RefinesExpression s (end_array 0 array n) t (act.Fault h)) (sym fault_is)
      (gives_failed s t stored length_put (fault_seen f) then_given (puts (ended.Fails f) is))
