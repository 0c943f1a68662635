-- What is asked for when an array is filled: elements, and then its length.
use Rattle.std.proofs.Common.{◌≡◌, ◌∙◌, ℕ, Bool, codes, false, refl, sym, ap, subst}
use Rattle.std.specs.Option.{option_map_or}
use Rattle.std.specs.Str.{bytes_eq}
use Rattle.jl_value.specs.Tests.{is_object}
use Rattle.jl_value.specs.declared.object.ObjId.{ObjId}
use Rattle.jl_value.specs.declared.value.Value.{Value}
use Rattle.jl_heap.specs.Define.{length_name, IsOneKind}
use Rattle.jl_heap.specs.Objects.{Name, Objects}
use Rattle.jl_heap.specs.declared.property.Change.{Change}
use Rattle.jl_meaning.specs.Defining.{define_own_property, plain_change, value_change}
use Rattle.jl_meaning.specs.Store.{Store}
use Rattle.jl_meaning.specs.forms.Literals.{index_name}
use Rattle.jl_store.specs.Answers.{finish_of}
use Rattle.jl_store.specs.BigStep.{BigStep}
use Rattle.jl_store.specs.Defining.{LengthIsPrimitive}
use Rattle.jl_store.specs.declared.answer.Finished.{Finished}
use Rattle.jl_store.proofs.IndexNames.{no_length}

-- changes of one kind

pub one_kind_plain : (v : Value) (change : Change) → change ≡ plain_change v → IsOneKind change
one_kind_plain v change is = subst IsOneKind (sym is) refl

pub one_kind_value : (v : Value) (change : Change) → change ≡ value_change v → IsOneKind change
one_kind_value v change is = subst IsOneKind (sym is) refl

-- an element is no length, and a length is no object

pub no_length_given : (heap : Objects) (address : ℕ) (index : ℕ) (x : Name) (change : Change) → x ≡ index_name index
    → LengthIsPrimitive heap address x change
no_length_given heap address index x change is array_there same =
    let differ = ap (λ (y : Name). bytes_eq y length_name) is ∙ no_length index in
    absurd (let no = sym same ∙ differ in cc)

pub primitive_given : (heap : Objects) (address : ℕ) (x : Name) (v w : Value) (change : Change) → is_object v ≡ false
    → w ≡ v → change ≡ value_change w → LengthIsPrimitive heap address x change
primitive_given heap address x v w change primitive w_is is array_there same =
    ap (λ (c : Change). option_map_or is_object c.value false) is ∙ ap is_object w_is ∙ primitive

-- an array gets its length

length_is : length_name ≡ codes "length"
unfolding length_name
length_is = refl

pub puts_length : (array : ObjId) (x : Name) (v w : Value) (change : Change) (from to : Store)
    (answer end : Finished Bool) → x ≡ codes "length" → w ≡ v → change ≡ value_change w → answer ≡ end
    → BigStep (define_own_property array x change) from to (finish_of answer)
    → BigStep (define_own_property array length_name (value_change v)) from to (finish_of end)
puts_length array x v w change from to answer end name_is w_is change_is is comes =
    subst (λ (f : Finished Bool). BigStep (define_own_property array length_name (value_change v)) from to
    (finish_of f))
    is (subst (λ y. BigStep (define_own_property array y (value_change v)) from to (finish_of answer))
    (name_is ∙ sym length_is)
    (subst (λ m. BigStep (define_own_property array x (value_change m)) from to (finish_of answer)) w_is
    (subst (λ c. BigStep (define_own_property array x c) from to (finish_of answer)) change_is comes)))

pub ruleset elements = (no_length_given, one_kind_plain)
