-- What a change keeps: an object that is there stays there, and the operation of a literal that has made it stays.
use Rattle.std.proofs.Common.{◌≡◌, ◌∙◌, ℕ, zero, suc, ◌<◌, ◌≤◌, List, [], ◌∷◌, length, Bool, true, false, Option}
use Rattle.std.proofs.Common.{Some, None, refl, ap, arith, length-append}
use Rattle.std.specs.Prelude.{if◌then◌else◌, slice_index_or, slice_set}
use Rattle.std.proofs.lemmas.List.{get_or_append_left, length-set}
use Rattle.std.proofs.Math.Seq.{get_or-append_seam}
use Rattle.jl_props.specs.declared.entries.Entry.{Entry}
use Rattle.jl_value.specs.declared.object.Class.{Class}
use Rattle.jl_value.specs.declared.object.Class.TheVariants as class
use Rattle.jl_value.specs.declared.object.ObjId.{ObjId}
use Rattle.jl_value.specs.declared.value.Value.{Value}
use Rattle.jl_value.specs.declared.value.Value.TheVariants as value
use Rattle.jl_value.specs.Indices.{index_of}
use Rattle.jl_heap.specs.Define.{grow_length, define_array_element, define_array_length, define_on, define_ordinary}
use Rattle.jl_heap.specs.Define.{define_own_property, defined_at, defined_shorter, shortened_to, store_property}
use Rattle.jl_heap.specs.Define.{is_array, length_name, with_length, with_new_property}
use Rattle.jl_heap.specs.Headers.{unmapped_inside}
use Rattle.jl_heap.specs.NewObject.{proto_there, with_bare_object, with_new_object}
use Rattle.jl_heap.specs.Objects.{absent_object, deleted_if, object_at, own, own_or_unit, with_object}
use Rattle.jl_heap.specs.Objects.{with_properties, Name, Object, Objects}
use Rattle.jl_heap.specs.Property.{is_configurable, is_same, property_after}
use Rattle.jl_heap.specs.declared.inner.Inner.{Inner}
use Rattle.jl_heap.specs.declared.inner.Inner.TheVariants as inner
use Rattle.jl_heap.specs.declared.property.Change.{Change}
use Rattle.jl_heap.specs.declared.property.Defined.{Defined}
use Rattle.jl_heap.specs.declared.property.Defined.TheVariants.{Done, Rejected}
use Rattle.jl_heap.specs.declared.property.Prop.{Prop}
use Rattle.jl_op.specs.declared.op.Op.{Op}
use Rattle.jl_meaning.specs.Changes.{apply, DefineProperty, DeleteProperty, NewBinding, NewEnvironment, NewObject}
use Rattle.jl_meaning.specs.Changes.{NewProperty, PreventExtensions, SetBinding, StoreChange, UnmapIndex}
use Rattle.jl_meaning.specs.Store.{Store}
use Rattle.jl_meaning.specs.forms.Literals.{literal_op, object_literal}

-- the operation of a literal that has made this object
abbrev made_by : ObjId → Object → Option Op
made_by id o = object_literal id o.class o.inner

-- the first objects are among the second
pub record Stays (h g : Objects) : Type 0 where
  pub no_fewer : length h.objects ≤ length g.objects
  pub same : (id : ObjId) → id.0 < length h.objects → literal_op g (value.Obj id) ≡ literal_op h (value.Obj id)

stays_same : (h : Objects) → Stays h h
stays_same h = record { no_fewer = omega arith; same = λ id there. refl }

stays_then : {h g f : Objects} → Stays h g → Stays g f → Stays h f
stays_then x y = record {
  no_fewer = let a = x.no_fewer in let b = y.no_fewer in omega arith;
  same = λ id there. y.same id (let a = x.no_fewer in omega arith) ∙ x.same id there;
}

stays_if : {h : Objects} (b : Bool) {g f : Objects} → Stays h g → Stays h f → Stays h (if b then g else f)
stays_if true x y = x
stays_if false x y = y

-- the same for the objects after a change that may be rejected
first_if : {h : Objects} {A : Type 0} (b : Bool) (p q : Objects × A) → Stays h p.0 → Stays h q.0
    → Stays h (if b then p else q).0
first_if true p q x y = x
first_if false p q x y = y

-- ONE OBJECT IN THE PLACE OF ANOTHER
set_same : (l : List Object) (n : ℕ) (o : Object) (id : ObjId)
    → made_by id o ≡ made_by id (slice_index_or l n absent_object) → (k : ℕ)
    → made_by id (slice_index_or (slice_set l n o) k absent_object) ≡ made_by id (slice_index_or l k absent_object)
set_same [] n o id e k = refl
set_same (a ∷ l) zero o id e zero = e
set_same (a ∷ l) zero o id e (suc k) = refl
set_same (a ∷ l) (suc n) o id e zero = refl
set_same (a ∷ l) (suc n) o id e (suc k) = set_same l n o id e k

stays_put : (h : Objects) (place : ℕ) (o : Object) → ((id : ObjId) → made_by id o ≡ made_by id (object_at h place))
    → Stays h (with_object h place o)
stays_put h place o e = record {
  no_fewer = let n = length-set h.objects place o in omega (arith, n);
  same = λ id there. set_same h.objects place o id (e id) id.0;
}

properties_stay : (h : Objects) (place : ℕ) (l : List (Entry Prop)) → Stays h (with_properties h place l)
properties_stay h place l = stays_put h place (record (object_at h place) { properties = l }) (λ id. refl)

counter_stays : (h : Objects) (n : ℕ) → Stays h (record h { next = n })
counter_stays h n = record { no_fewer = omega arith; same = λ id there. refl }

new_property_stays : (h : Objects) (place : ℕ) (x : Name) (p : Prop) → Stays h (with_new_property h place x p)
new_property_stays h place x p = stays_then (counter_stays h _) (properties_stay (record h { next = _ }) place _)

-- PROPERTIES THAT ARE DEFINED
stored_stays : (h : Objects) (place : ℕ) (x : Name) (p : Option Prop) → Stays h (store_property h place x p).0
stored_stays h place x None = stays_same h
stored_stays h place x (Some p) = properties_stay h place _

on_stays : (h : Objects) (place : ℕ) (x : Name) (change : Change) (p : Option Prop)
    → Stays h (define_on h place x change p).0
on_stays h place x change None =
    first_if (object_at h place).extensible _ _ (new_property_stays h place x _) (stays_same h)
on_stays h place x change (Some p) =
    first_if (is_same p change) _ _ (stays_same h) (stored_stays h place x (property_after p change))

ordinary_stays : (h : Objects) (place : ℕ) (x : Name) (change : Change) → Stays h (define_ordinary h place x change).0
ordinary_stays h place x change = on_stays h place x change (own_or_unit h place x)

length_stays : (h : Objects) (place n : ℕ) (p : Option Prop) → Stays h (with_length h place n p)
length_stays h place n None = stays_same h
length_stays h place n (Some p) = properties_stay h place _

counted_stays : {h : Objects} (place index : ℕ) (length : Option Prop) (p : Objects × Defined) → Stays h p.0
    → Stays h (grow_length place index length p).0
counted_stays place index length (g, Rejected) y = y
counted_stays place index length (g, Done) y = stays_if _ (stays_then y (length_stays g place _ length)) y

element_stays : (h : Objects) (place : ℕ) (x : Name) (index : ℕ) (change : Change) (length : Option Prop)
    → Stays h (define_array_element h place x index change length).0
element_stays h place x index change length =
    first_if _ _ _ (stays_same h) (counted_stays place index length _ (ordinary_stays h place x change))

shortened_stays : (h : Objects) (place low high : ℕ) (stays : Bool) (p : Option Prop)
    → Stays h (shortened_to h place low high stays p).0
shortened_stays h place low high stays None = stays_same h
shortened_stays h place low high stays (Some p) = properties_stay h place _

shorter_stays : (h : Objects) (place : ℕ) (change : Change) (low : ℕ) (p : Option Prop)
    → Stays h (defined_shorter h place change low p).0
shorter_stays h place change low None = stays_same h
shorter_stays h place change low (Some p) = first_if _ _ _ (shortened_stays h place low _ _ _) (stays_same h)

array_length_stays : (h : Objects) (place : ℕ) (change : Change) (v : Option Value) (length : Option Prop)
    → Stays h (define_array_length h place change v length).0
array_length_stays h place change None length = ordinary_stays h place length_name change
array_length_stays h place change (Some v) length =
    first_if _ _ _ (ordinary_stays h place length_name change) (shorter_stays h place change _ length)

at_stays : (h : Objects) (place : ℕ) (x : Name) (change : Change) (index : Option ℕ)
    → Stays h (defined_at h place x change index).0
at_stays h place x change None = ordinary_stays h place x change
at_stays h place x change (Some index) = element_stays h place x index change (own h place length_name)

defined_stays : (h : Objects) (place : ℕ) (x : Name) (change : Change)
    → Stays h (define_own_property h place x change).0
defined_stays h place x change =
    first_if (is_array (object_at h place).class) _ _
    (first_if _ _ _ (array_length_stays h place change change.value (own h place length_name))
    (at_stays h place x change (index_of x)))
    (ordinary_stays h place x change)

-- OTHER CHANGES
deleted_stays : (h : Objects) (place : ℕ) (x : Name) (p : Option Prop) → Stays h (deleted_if h place x p).0
deleted_stays h place x None = stays_same h
deleted_stays h place x (Some p) = first_if (is_configurable p) _ _ (properties_stay h place _) (stays_same h)

unmapped_same : (id : ObjId) (kind : Class) (i : Inner) (index : ℕ)
    → object_literal id kind (unmapped_inside i index) ≡ object_literal id kind i
unmapped_same id class.Function (inner.Mapped env names) index = refl
unmapped_same id class.Function i index = refl
unmapped_same id kind i index = refl

-- one object more
abbrev made_object : Objects → Class → Option ObjId → Inner → Object
made_object h kind proto i = record {
  class = kind;
  proto = proto_there h proto;
  extensible = true;
  inner = i;
  properties = [];
}

bare_stays : (h : Objects) (kind : Class) (proto : Option ObjId) (i : Inner)
    → Stays h (with_bare_object h kind proto i)
bare_stays h kind proto i = record {
  no_fewer = let n = length-append h.objects (made_object h kind proto i ∷ []) in omega (arith, n);
  same = λ id there.
      ap (λ o. made_by id o)
      (get_or_append_left h.objects (made_object h kind proto i ∷ []) absent_object id.0 there);
}

new_stays : (h : Objects) (kind : Class) (proto : Option ObjId) (i : Inner)
    → Stays h (with_new_object h kind proto i)
new_stays h kind proto i =
    stays_if (is_array kind)
    (stays_then (bare_stays h kind proto i) (new_property_stays (with_bare_object h kind proto i) _ _ _))
    (bare_stays h kind proto i)

-- OBJECTS THAT ARE MADE
-- an object is there that a literal with this operation has made
pub record IsMade (id : ObjId) (made : Op) (h : Objects) : Type 0 where
  pub there : id.0 < length h.objects
  pub is : literal_op h (value.Obj id) ≡ Some made

pub still_made : {id : ObjId} {made : Op} {h g : Objects} → IsMade id made h → Stays h g → IsMade id made g
still_made {id = id} m x = record {
  there = let small = m.there in let more = x.no_fewer in omega arith;
  is = x.same id m.there ∙ m.is;
}

made_if : {id : ObjId} {made : Op} (b : Bool) {g f : Objects} → IsMade id made g → IsMade id made f
    → IsMade id made (if b then g else f)
made_if true x y = x
made_if false x y = y

abbrev pub next_id : Objects → ObjId
next_id h = record { 0 = length h.objects }

bare_made : (h : Objects) (kind : Class) (proto : Option ObjId) (i : Inner) (made : Op)
    → object_literal (next_id h) kind i ≡ Some made → IsMade (next_id h) made (with_bare_object h kind proto i)
bare_made h kind proto i made e = record {
  there = let n = length-append h.objects (made_object h kind proto i ∷ []) in omega (arith, n);
  is = ap (λ o. made_by (next_id h) o) (get_or-append_seam h.objects (made_object h kind proto i) [] absent_object) ∙ e;
}

pub new_made : (h : Objects) (kind : Class) (proto : Option ObjId) (i : Inner) (made : Op)
    → object_literal (next_id h) kind i ≡ Some made → IsMade (next_id h) made (with_new_object h kind proto i)
new_made h kind proto i made e =
    made_if (is_array kind)
    (still_made (bare_made h kind proto i made e) (new_property_stays (with_bare_object h kind proto i) _ _ _))
    (bare_made h kind proto i made e)

-- STORES
pub record Keeps (s t : Store) : Type 0 where
  pub heap : Stays s.heap t.heap

pub keeps_same : (s : Store) → Keeps s s
keeps_same s = record { heap = stays_same s.heap }

pub keeps_then : (s t u : Store) → Keeps s t → Keeps t u → Keeps s u
keeps_then s t u x y = record { heap = stays_then x.heap y.heap }

pub keeps_change : (c : StoreChange) (s : Store) → Keeps s (apply c s)
keeps_change (NewObject kind proto i) s = record { heap = new_stays s.heap kind proto i }
keeps_change (NewProperty id x p) s = record { heap = new_property_stays s.heap id.0 x p }
keeps_change (DefineProperty id x change) s = record { heap = defined_stays s.heap id.0 x change }
keeps_change (DeleteProperty id x) s = record { heap = deleted_stays s.heap id.0 x (own_or_unit s.heap id.0 x) }
keeps_change (PreventExtensions id) s = record { heap = stays_put s.heap id.0 _ (λ id. refl) }
keeps_change (UnmapIndex id index) s = record {
  heap = stays_put s.heap id.0 _ (λ id'. unmapped_same id' _ (object_at s.heap id.0).inner index);
}
keeps_change (NewEnvironment outer) s = record { heap = stays_same s.heap }
keeps_change (NewBinding env b) s = record { heap = stays_same s.heap }
keeps_change (SetBinding env x v) s = record { heap = stays_same s.heap }
