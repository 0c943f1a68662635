-- What the definitions give on small heaps, reckoned by the steps of the standard.
use Rattle.std.proofs.Common.{◌≡◌, ℕ, Bool, true, false, [], ◌∷◌, refl}
use Rattle.std.specs.Prelude.{None, Some, codes, pos}
use Rattle.jl_value.specs.declared.object.Class.TheVariants as class
use Rattle.jl_value.specs.declared.value.Value.{Value}
use Rattle.jl_value.specs.declared.value.Value.TheVariants as value
use Rattle.jl_value.specs.Indices.{index_of}
use Rattle.jl_heap.specs.Define.{define_own_property, length_name}
use Rattle.jl_heap.specs.NewObject.{with_new_object}
use Rattle.jl_heap.specs.Objects.{Objects, names_of, own}
use Rattle.jl_heap.specs.Property.{new_property, property_after}
use Rattle.jl_heap.specs.declared.inner.Inner.TheVariants.{Nothing}
use Rattle.jl_heap.specs.declared.property.Change.{Change}
use Rattle.jl_heap.specs.declared.property.Defined.{Defined}
use Rattle.jl_heap.specs.declared.property.Defined.TheVariants.{Rejected}
use Rattle.jl_heap.specs.declared.property.Prop.{Prop}
use Rattle.jl_heap.specs.declared.property.Prop.TheVariants.{Plain, Accessor}

abbrev number : ℕ → Value
number n = value.Num (Some (pos n))

-- nothing is asked
abbrev nothing : Change
nothing = record { value = None; writable = None; get = None; set = None; enumerable = None; configurable = None }

abbrev plain : ℕ → Bool → Bool → Bool → Prop
plain n writable enumerable configurable = Plain (number n) writable enumerable configurable

-- what isn't given is undefined or false, and a getter makes an accessor
new_plain : new_property (record nothing { value = Some (number 1) }) ≡ Plain (number 1) false false false
new_plain = refl

new_accessor : new_property (record nothing { get = Some None }) ≡ Accessor None None false false
new_accessor = refl

-- a property that isn't configurable doesn't become enumerable or configurable, and writable to not writable is allowed
enumerable_asked : property_after (plain 1 true false false) (record nothing { enumerable = Some true }) ≡ None
enumerable_asked = refl

configurable_asked : property_after (plain 1 true false false) (record nothing { configurable = Some true }) ≡ None
configurable_asked = refl

writable_given_up : property_after (plain 1 true false false) (record nothing { writable = Some false })
    ≡ Some (plain 1 false false false)
writable_given_up = refl

value_written : property_after (plain 1 true false false) (record nothing { value = Some (number 2) })
    ≡ Some (plain 2 true false false)
value_written = refl

value_refused : property_after (plain 1 false false false) (record nothing { value = Some (number 2) }) ≡ None
value_refused = refl

-- a configurable one turns into an accessor, and keeps whether it can be seen
turned_over : property_after (plain 1 false true true) (record nothing { set = Some None })
    ≡ Some (Accessor None None true true)
turned_over = refl

-- an array with one element at index 0, and then another at 2
abbrev empty : Objects
empty = (with_new_object (record { objects = []; next = 0 }) class.Array None Nothing)

abbrev element : Change
element = record {
  value = Some (number 5);
  writable = Some true;
  get = None;
  set = None;
  enumerable = Some true;
  configurable = Some true;
}

abbrev one : Objects
one = (define_own_property empty 0 (codes "0") element).0

abbrev two : Objects
two = (define_own_property one 0 (codes "2") element).0

names_two : names_of two 0 ≡ ((codes "length", 0) ∷ (codes "0", 1) ∷ (codes "2", 2) ∷ [])
unfolding length_name index_of
names_two = refl

length_two : own two 0 (codes "length") ≡ Some (plain 3 true false false)
unfolding length_name index_of
length_two = refl

-- a smaller length deletes the element past it
abbrev shorter : Objects × Defined
shorter = define_own_property two 0 (codes "length") (record nothing { value = Some (number 1) })

names_shorter : names_of shorter.0 0 ≡ ((codes "length", 0) ∷ (codes "0", 1) ∷ [])
unfolding length_name index_of
names_shorter = refl

-- one that can't be deleted stops it, and what was asked is rejected
abbrev read_only : Objects × Defined
read_only = define_own_property (define_own_property two 0 (codes "0") (record nothing { configurable = Some false })).0
    0 (codes "length") (record nothing { value = Some (number 0) })

stops : read_only.1 ≡ Rejected
unfolding length_name index_of
stops = refl

length_stops : own read_only.0 0 (codes "length") ≡ Some (plain 1 true false false)
unfolding length_name index_of
length_stops = refl
