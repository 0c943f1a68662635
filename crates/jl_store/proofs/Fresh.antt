-- The names of properties of objects that are being made.
use Rattle.std.proofs.Common.{◌≡◌, ◌≢◌, ℕ, ◌+◌, Bool, true, false, List, [], ◌∷◌, ◌++◌}
use Rattle.std.proofs.Common.{length, refl, ap, sym, ◌∙◌, subst, arith}
use Rattle.std.proofs.Math.ListN.{get_or-append}
use Rattle.std.proofs.Math.Seq.{get_or-append_seam}
use Rattle.std.proofs.lemmas.List.{get_or-set_other, get_or-set_same, length-set}
use Rattle.std.specs.Prelude.{if◌then◌else◌, is_some, map, option_map, IsNone, IsTrue, None, Option, Some}
use Rattle.std.specs.Str.{bytes_eq}
use Rattle.jl_props.specs.Entries.{entry_named, with_new}
use Rattle.jl_props.specs.declared.entries.Entry.{Entry}
use Rattle.jl_value.specs.declared.object.Class.{Class}
use Rattle.jl_value.specs.declared.object.ObjId.{ObjId}
use Rattle.jl_heap.specs.Define.{is_array, with_new_property}
use Rattle.jl_heap.specs.NewObject.{proto_there, with_bare_object, with_new_object}
use Rattle.jl_heap.specs.Objects.{absent_object, object_at, Name, Object, Objects}
use Rattle.jl_heap.specs.declared.inner.Inner.{Inner}
use Rattle.jl_heap.specs.declared.property.Prop.{Prop}
use Rattle.jl_meaning.specs.Changes.{NewObject, NewProperty}
use Rattle.jl_meaning.specs.Store.{next_object, Store}
use Rattle.jl_store.specs.Changes.{after, HasNames, IsFree}

abbrev names_of : List (Entry Prop) → List Name
names_of es = map (λ (e : Entry Prop). e.name) es

-- the object that is added
abbrev last : Objects → Class → Option ObjId → Inner → Object
last heap kind proto inner = record {
  class = kind;
  proto = proto_there heap proto;
  extensible = true;
  inner = inner;
  properties = [];
}

-- none of these names is this one
abbrev pub lacks : List Name → Name → Bool
lacks [] x = true
lacks (y ∷ ys) x = if bytes_eq y x then false else lacks ys x

none_step : (x : Name) (e : Entry Prop) (es : List (Entry Prop)) (same : Bool) → bytes_eq e.name x ≡ same
    → IsTrue (lacks (names_of (e ∷ es)) x) → (IsTrue (lacks (names_of es) x) → entry_named x es ≡ None)
    → entry_named x (e ∷ es) ≡ None
none_step x e es true same free rest = let no : false ≡ true = rw same at free in cc
none_step x e es false same free rest = rw same (rest (rw same at free))

none_named : (x : Name) (es : List (Entry Prop)) → IsTrue (lacks (names_of es) x) → entry_named x es ≡ None
none_named x [] free = refl
none_named x (e ∷ es) free = none_step x e es (bytes_eq e.name x) refl free (λ more. none_named x es more)

-- a name that no property has is free
pub is_free : {s : Store} {id : ObjId} {names : List Name} (x : Name) {y : Name} → x ≡ y → HasNames s id names
    → IsTrue (lacks names y) → IsFree s id x
is_free {s} {id} {names} x {y} is has free =
    let named : IsTrue (lacks (names_of (object_at s.heap id.0).properties) y) =
    subst (λ ns. IsTrue (lacks ns y)) (sym has.named) free in
    let none : entry_named x (object_at s.heap id.0).properties ≡ None =
    subst (λ z. entry_named z (object_at s.heap id.0).properties ≡ None) (sym is)
    (none_named y (object_at s.heap id.0).properties named) in
    record { there = has.there; free = ap (λ o. is_some (option_map (λ (e : Entry Prop). e.item) o)) none }

pub is_apart : {s : Store} {id other : ObjId} {names : List Name} → HasNames s id names → other ≡ next_object s
    → other.0 ≢ id.0
is_apart {s} {id} {other} has is same = omega (arith, has.there, same, ap (λ (o : ObjId). o.0) is)

-- an object that is no array is made without properties
plain_object : (heap : Objects) (kind : Class) (proto : Option ObjId) (inner : Inner) → is_array kind ≡ false
    → with_new_object heap kind proto inner ≡ with_bare_object heap kind proto inner
plain_object heap kind proto inner plain = rw plain refl

longer : {A : Type 0} (xs : List A) (x : A) → length (xs ++ x ∷ []) ≡ length xs + 1
longer [] x = refl
longer (y ∷ ys) x = omega (arith, longer ys x)

pub names_new : (s t : Store) (id : ObjId) (kind : Class) (proto : Option ObjId) (inner : Inner) → id ≡ next_object s
    → t ≡ after (NewObject kind proto inner) s → is_array kind ≡ false → HasNames t id []
unfolding after
names_new s t id kind proto inner is made plain =
    let heap : t.heap ≡ with_bare_object s.heap kind proto inner =
    ap (λ (u : Store). u.heap) made ∙ plain_object s.heap kind proto inner plain in
    let at : HasNames (record t { heap = with_bare_object s.heap kind proto inner }) (next_object s) [] = record {
      there = omega (arith, longer s.heap.objects (last s.heap kind proto inner));
      named =
          ap (λ (o : Object). names_of o.properties)
          (get_or-append_seam s.heap.objects (last s.heap kind proto inner) [] absent_object);
    } in
    subst (λ (i : ObjId). HasNames t i []) (sym is)
    (subst (λ (h : Objects). HasNames (record t { heap = h }) (next_object s) []) (sym heap) at)

pub names_beside_new : {s : Store} {id : ObjId} {names : List Name} (t : Store) (kind : Class) (proto : Option ObjId)
    (inner : Inner) → t ≡ after (NewObject kind proto inner) s → is_array kind ≡ false → HasNames s id names
    → HasNames t id names
unfolding after
names_beside_new {s} {id} {names} t kind proto inner made plain has =
    let heap : t.heap ≡ with_bare_object s.heap kind proto inner =
    ap (λ (u : Store). u.heap) made ∙ plain_object s.heap kind proto inner plain in
    let at : HasNames (record t { heap = with_bare_object s.heap kind proto inner }) id names = record {
      there = omega (arith, has.there, longer s.heap.objects (last s.heap kind proto inner));
      named =
          ap (λ (o : Object). names_of o.properties)
          (get_or-append s.heap.objects (last s.heap kind proto inner ∷ []) absent_object id.0 has.there)
          ∙ has.named;
    } in
    subst (λ (h : Objects). HasNames (record t { heap = h }) id names) (sym heap) at

names_with_new : (es : List (Entry Prop)) (x : Name) (serial : ℕ) (p : Prop)
    → names_of (with_new es x serial p) ≡ names_of es ++ x ∷ []
names_with_new [] x serial p = refl
names_with_new (e ∷ es) x serial p = ap (λ l. e.name ∷ l) (names_with_new es x serial p)

changed_object : Objects → ℕ → Name → Prop → Object
changed_object heap place x p =
    record (object_at heap place) { properties = with_new (object_at heap place).properties x heap.next p }

names_with : {s : Store} {id : ObjId} {names : List Name} (t : Store) (x : Name) (p : Prop)
    → t ≡ after (NewProperty id x p) s → HasNames s id names → HasNames t id (names ++ x ∷ [])
unfolding after changed_object
names_with {s} {id} {names} t x p made has =
    let changed = changed_object s.heap id.0 x p in
    let at : HasNames (record s { heap = with_new_property s.heap id.0 x p }) id (names ++ x ∷ []) = record {
      there = omega (arith, has.there, length-set s.heap.objects id.0 changed);
      named =
          ap (λ (o : Object). names_of o.properties)
          (get_or-set_same s.heap.objects id.0 changed absent_object has.there)
          ∙ names_with_new (object_at s.heap id.0).properties x s.heap.next p
          ∙ ap (λ ns. ns ++ x ∷ []) has.named;
    } in
    subst (λ (u : Store). HasNames u id (names ++ x ∷ [])) (sym made) at

pub names_added : {s : Store} {id : ObjId} {names : List Name} {y : Name} (t : Store) (x : Name) (p : Prop) → x ≡ y
    → t ≡ after (NewProperty id x p) s → HasNames s id names → HasNames t id (names ++ y ∷ [])
names_added {s} {id} {names} t x p is made has =
    subst (λ z. HasNames t id (names ++ z ∷ [])) is (names_with t x p made has)

pub names_beside_added : {s : Store} {id : ObjId} {names : List Name} (t : Store) (other : ObjId) (x : Name) (p : Prop)
    → t ≡ after (NewProperty other x p) s → other.0 ≢ id.0 → HasNames s id names → HasNames t id names
unfolding after changed_object
names_beside_added {s} {id} {names} t other x p made differ has =
    let changed = changed_object s.heap other.0 x p in
    let at : HasNames (record s { heap = with_new_property s.heap other.0 x p }) id names = record {
      there = omega (arith, has.there, length-set s.heap.objects other.0 changed);
      named =
          ap (λ (o : Object). names_of o.properties)
          (get_or-set_other s.heap.objects other.0 id.0 changed absent_object (λ same. differ (sym same)))
          ∙ has.named;
    } in
    subst (λ (u : Store). HasNames u id names) (sym made) at

stays_by : (x y : Name) (e : Entry Prop) (es : List (Entry Prop)) (serial : ℕ) (p : Prop) (same : Bool)
    → bytes_eq e.name y ≡ same → entry_named y (e ∷ es) ≡ None
    → (entry_named y es ≡ None → entry_named y (with_new es x serial p) ≡ None)
    → entry_named y (with_new (e ∷ es) x serial p) ≡ None
stays_by x y e es serial p true same none rest = let found : Some e ≡ None = rw same at none in cc
stays_by x y e es serial p false same none rest = rw same (rest (rw same at none))

name_stays : (x y : Name) (es : List (Entry Prop)) (serial : ℕ) (p : Prop) → bytes_eq x y ≡ false
    → entry_named y es ≡ None → entry_named y (with_new es x serial p) ≡ None
name_stays x y [] serial p differ none = rw differ refl
name_stays x y (e ∷ es) serial p differ none =
    stays_by x y e es serial p (bytes_eq e.name y) refl none (λ more. name_stays x y es serial p differ more)

nothing_named : (o : Option (Entry Prop)) → IsNone (option_map (λ (e : Entry Prop). e.item) o) → o ≡ None
nothing_named None none = refl
nothing_named (Some e) none = absurd (cc)

-- another name stays free
pub still_free : {s : Store} {id : ObjId} {x' y : Name} (t : Store) (x y' : Name) (p : Prop) → x ≡ x' → y' ≡ y
    → t ≡ after (NewProperty id x p) s → bytes_eq x' y ≡ false → IsFree s id y → IsFree t id y'
unfolding after changed_object
still_free {s} {id} {x'} {y} t x y' p x_is y_is made differ free =
    let changed = changed_object s.heap id.0 x p in
    let none = nothing_named (entry_named y (object_at s.heap id.0).properties) free.free in
    let at : IsFree (record s { heap = with_new_property s.heap id.0 x p }) id y = record {
      there = omega (arith, free.there, length-set s.heap.objects id.0 changed);
      free =
          ap (λ o. is_some (option_map (λ (e : Entry Prop). e.item) o))
          (ap (λ (o : Object). entry_named y o.properties)
          (get_or-set_same s.heap.objects id.0 changed absent_object free.there)
          ∙ name_stays x y (object_at s.heap id.0).properties s.heap.next p (ap (λ z. bytes_eq z y) x_is ∙ differ)
          none);
    } in
    subst (λ z. IsFree t id z) (sym y_is) (subst (λ (u : Store). IsFree u id y) (sym made) at)
