-- What the changes by which objects are made come to.
use Rattle.std.proofs.Common.{◌≡◌, ◌∙◌, ℕ, ◌+◌, ◌<◌, Bool, true, false, not, ◌&&◌, List, [], ◌∷◌, ◌++◌, length}
use Rattle.std.proofs.Common.{append-nil, append_assoc, arith, ap, ap₂, get_or, refl, sym}
use Rattle.std.proofs.Math.ListN.{set}
use Rattle.std.proofs.Math.Seq.{get_or-append_seam}
use Rattle.std.proofs.lemmas.Bool.Decides.{nat_tests}
use Rattle.std.specs.List.{list_all}
use Rattle.std.specs.Prelude.{if◌then◌else◌, map, nat_lt, None, Option, Some}
use Rattle.jl_props.specs.declared.entries.Entry.{Entry}
use Rattle.jl_props.specs.Entries.{with_new}
use Rattle.jl_value.specs.declared.object.Class.{Class}
use Rattle.jl_value.specs.declared.object.ObjId.{ObjId}
use Rattle.jl_heap.specs.Define.{is_array, length_name, with_new_property}
use Rattle.jl_heap.specs.NewObject.{first_length, proto_there}
use Rattle.jl_heap.specs.Objects.{absent_object, Name, Object, Objects}
use Rattle.jl_heap.specs.declared.inner.Inner.{Inner}
use Rattle.jl_heap.specs.declared.property.Prop.{Prop}
use Rattle.jl_meaning.specs.Changes.{NewObject, NewProperty, PreventExtensions, StoreChange}
use Rattle.jl_meaning.specs.Realm.{count_properties, entries_from, objects_from, InitialObject}
use Rattle.jl_meaning.specs.Store.{Environment, Store}
use Rattle.jl_store.specs.Changes.{after, HasNames, IsFree}
use Rattle.jl_store.proofs.Fresh.{is_free, lacks, names_added}
use Rattle.jl_realm.specs.inner.Steps.{all_ready, after_all, is_ready}

-- the changes that make an object at a place, with its properties

abbrev pub address : ℕ → ObjId
address n = record { 0 = n }

abbrev pub added : ℕ → List (Name × Prop) → List StoreChange
added k [] = []
added k ((x, p) ∷ ps) = NewProperty (address k) x p ∷ added k ps

abbrev pub closing : (extensible : Bool) → ℕ → List StoreChange
closing true k = []
closing false k = PreventExtensions (address k) ∷ []

-- an array is made with its length
abbrev pub first_of : (array : Bool) → List (Name × Prop)
first_of true = (length_name, first_length) ∷ []
first_of false = []

abbrev pub later : (array : Bool) → List (Name × Prop) → List (Name × Prop)
later true (p ∷ ps) = ps
later _ ps = ps

abbrev pub changes_for : ℕ → InitialObject → List StoreChange
changes_for k o =
    NewObject o.class o.proto o.inner ∷ (added k (later (is_array o.class) o.properties) ++ closing o.extensible k)

abbrev pub changes_from : ℕ → List InitialObject → List StoreChange
changes_from k [] = []
changes_from k (o ∷ l) = changes_for k o ++ changes_from (k + 1) l

-- what is then there

abbrev pub proto_in : ℕ → Option ObjId → Option ObjId
proto_in k None = None
proto_in k (Some p) = if nat_lt p.0 k then Some p else None

abbrev pub seen_at : ℕ → InitialObject → InitialObject
seen_at k o = record {
  class = o.class;
  proto = proto_in k o.proto;
  extensible = o.extensible;
  inner = o.inner;
  properties = first_of (is_array o.class) ++ later (is_array o.class) o.properties;
}

abbrev pub seen_from : ℕ → List InitialObject → List InitialObject
seen_from k [] = []
seen_from k (o ∷ l) = seen_at k o ∷ seen_from (k + 1) l

-- an object that is being made
abbrev made : Class → Option ObjId → Bool → Inner → List (Entry Prop) → Object
made kind proto extensible i entries = record {
  class = kind;
  proto = proto;
  extensible = extensible;
  inner = i;
  properties = entries;
}

-- that object, once it is made
abbrev object_of : (serial : ℕ) → InitialObject → Object
object_of n o = made o.class o.proto o.extensible o.inner (entries_from n o.properties)

pub after_all-append : (a b : List StoreChange) (s : Store) → after_all (a ++ b) s ≡ after_all b (after_all a s)
after_all-append [] b s = refl
after_all-append (c ∷ a) b s = after_all-append a b (after c s)

longer : {A : Type 0} (xs : List A) (x : A) → length (xs ++ x ∷ []) ≡ length xs + 1
longer [] x = refl
longer (y ∷ ys) x = omega (arith, longer ys x)

module _ (env : List Environment) where
  -- these objects, and another one last
  abbrev pub at : List Object → (next : ℕ) → Store
  at xs n = record { heap = record { objects = xs; next = n }; environments = env }

  abbrev ends_with : List Object → Object → (next : ℕ) → Store
  ends_with xs y n = at (xs ++ y ∷ []) n

  set_last : {A : Type 0} (xs : List A) (y z : A) → set (xs ++ y ∷ []) (length xs) z ≡ xs ++ z ∷ []
  set_last [] y z = refl
  set_last (x ∷ xs) y z = ap (λ l. x ∷ l) (set_last xs y z)

  abbrev with_last_set : List Object → Object → (Object → Object) → (next : ℕ) → Store
  with_last_set xs y f n = at (set (xs ++ y ∷ []) (length xs) (f (get_or (xs ++ y ∷ []) (length xs) absent_object))) n

  last_set : (xs : List Object) (y : Object) (f : Object → Object) (n : ℕ)
      → with_last_set xs y f n ≡ ends_with xs (f y) n
  last_set xs y f n =
      ap (λ (o : Object). at (set (xs ++ y ∷ []) (length xs) (f o)) n) (get_or-append_seam xs y [] absent_object)
      ∙ ap (λ l. at l n) (set_last xs y (f y))

  module _ (kind : Class) (proto : Option ObjId) (i : Inner) where
    abbrev with_entries : List Object → List (Entry Prop) → (next : ℕ) → Store
    with_entries xs es n = ends_with xs (made kind proto true i es) n

    one_added : (xs : List Object) (es : List (Entry Prop)) (n : ℕ) (x : Name) (p : Prop)
        → after (NewProperty (address (length xs)) x p) (with_entries xs es n)
        ≡ with_entries xs (with_new es x n p) (n + 1)
    unfolding after
    one_added xs es n x p =
        last_set xs (made kind proto true i es) (λ o. record o { properties = with_new o.properties x n p }) (n + 1)

    all_added : (ps : List (Name × Prop)) (xs : List Object) (es : List (Entry Prop)) (n : ℕ)
        → after_all (added (length xs) ps) (with_entries xs es n)
        ≡ with_entries xs (es ++ entries_from n ps) (n + length ps)
    all_added [] xs es n = ap₂ (with_entries xs) (sym (append-nil es)) (omega arith)
    all_added ((x, p) ∷ ps) xs es n =
        ap (after_all (added (length xs) ps)) (one_added xs es n x p)
        ∙ all_added ps xs (with_new es x n p) (n + 1)
        ∙ ap₂ (with_entries xs) (append_assoc es _ (entries_from (n + 1) ps)) (omega arith)

    closed : (extensible : Bool) (xs : List Object) (es : List (Entry Prop)) (n : ℕ)
        → after_all (closing extensible (length xs)) (with_entries xs es n)
        ≡ ends_with xs (made kind proto extensible i es) n
    unfolding after
    closed true xs es n = refl
    closed false xs es n = last_set xs (made kind proto true i es) (λ o. record o { extensible = false }) n

    abbrev after_new : (array : Bool) → List Object → (next : ℕ) → Store
    after_new array xs n =
        let bare : Objects = record { objects = xs ++ made kind proto true i [] ∷ []; next = n } in
        record {
          heap = if array then with_new_property bare (length xs) length_name first_length else bare;
          environments = env;
        }

    new_if : (array : Bool) (xs : List Object) (n : ℕ)
        → after_new array xs n ≡ with_entries xs (entries_from n (first_of array)) (n + length (first_of array))
    unfolding after
    new_if true xs n = one_added xs [] n length_name first_length
    new_if false xs n = ap (with_entries xs []) (omega arith)

  proto_is : (xs : List Object) (n : ℕ) (proto : Option ObjId)
      → proto_there (record { objects = xs; next = n }) proto ≡ proto_in (length xs) proto
  proto_is xs n None = refl
  proto_is xs n (Some p) = refl

  entries_split : (array : Bool) (ps : List (Name × Prop)) (n : ℕ)
      → entries_from n (first_of array) ++ entries_from (n + length (first_of array)) ps
      ≡ entries_from n (first_of array ++ ps)
  entries_split true ps n = refl
  entries_split false ps n =
      let same : n + 0 ≡ n = omega arith in
      ap (λ m. entries_from m ps) same

  count_split : (array : Bool) (ps : List (Name × Prop)) (n : ℕ)
      → n + length (first_of array) + length ps ≡ n + length (first_of array ++ ps)
  count_split true ps n = omega arith
  count_split false ps n = omega arith

  new_is : (kind : Class) (proto : Option ObjId) (i : Inner) (xs : List Object) (n : ℕ)
      → after (NewObject kind proto i) (at xs n) ≡ after_new kind (proto_in (length xs) proto) i (is_array kind) xs n
  unfolding after
  new_is kind proto i xs n = ap (λ q. after_new kind q i (is_array kind) xs n) (proto_is xs n proto)

  one_made : (o : InitialObject) (xs : List Object) (n : ℕ)
      → after_all (changes_for (length xs) o) (at xs n)
      ≡ at (xs ++ objects_from n (seen_at (length xs) o ∷ [])) (n + length (seen_at (length xs) o).properties)
  one_made o xs n =
      let k = length xs in
      let array = is_array o.class in
      let q = proto_in k o.proto in
      let ps = later array o.properties in
      ap (after_all (added k ps ++ closing o.extensible k))
      (new_is o.class o.proto o.inner xs n ∙ new_if o.class q o.inner array xs n)
      ∙ after_all-append (added k ps) (closing o.extensible k) _
      ∙ ap (after_all (closing o.extensible k))
      (all_added o.class q o.inner ps xs (entries_from n (first_of array)) (n + length (first_of array)))
      ∙ closed o.class q o.inner o.extensible xs _ _
      ∙ ap₂ (λ (es : List (Entry Prop)) (m : ℕ). ends_with xs (made o.class q o.extensible o.inner es) m)
      (entries_split array ps n) (count_split array ps n)

  pub all_made : (l : List InitialObject) (xs : List Object) (n : ℕ)
      → after_all (changes_from (length xs) l) (at xs n)
      ≡ at (xs ++ objects_from n (seen_from (length xs) l)) (n + count_properties (seen_from (length xs) l))
  all_made [] xs n = ap₂ at (sym (append-nil xs)) (omega arith)
  all_made (o ∷ l) xs n =
      let k = length xs in
      let seen = seen_at k o in
      let ys = xs ++ objects_from n (seen ∷ []) in
      let m = n + length seen.properties in
      let after_it = longer xs (object_of n seen) in
      after_all-append (changes_for k o) (changes_from (k + 1) l) (at xs n)
      ∙ ap (after_all (changes_from (k + 1) l)) (one_made o xs n)
      ∙ ap (λ j. after_all (changes_from j l) (at ys m)) (sym after_it)
      ∙ all_made l ys m
      ∙ ap (λ j. at (ys ++ objects_from m (seen_from j l)) (m + count_properties (seen_from j l))) after_it
      ∙ ap₂ at (append_assoc xs _ (objects_from m (seen_from (k + 1) l))) (omega arith)

-- Names that are new.

abbrev fresh : List Name → List (Name × Prop) → Bool
fresh names [] = true
fresh names ((x, p) ∷ ps) = lacks names x && fresh (names ++ x ∷ []) ps

abbrev names_in : List (Name × Prop) → List Name
names_in [] = []
names_in ((x, p) ∷ ps) = x ∷ names_in ps

abbrev pub is_fresh : InitialObject → Bool
is_fresh o = fresh (names_in (first_of (is_array o.class))) (later (is_array o.class) o.properties)

both : (a b : Bool) → a ≡ true → b ≡ true → (a && b) ≡ true
both true b first second = second
both false b first second = first

pub apart : (a b : Bool) → (a && b) ≡ true → (a ≡ true) × (b ≡ true)
apart true b is = (refl, is)
apart false b is = let no : false ≡ true = is in absurd (cc)

is_less : (a b : ℕ) → a < b → nat_lt a b ≡ true
is_less a b below = grind (arith, nat_tests)

pub ready-append : (a b : List StoreChange) (s : Store)
    → all_ready (a ++ b) s ≡ (all_ready a s && all_ready b (after_all a s))
ready-append [] b s = refl
ready-append (c ∷ a) b s =
    ap (λ more. is_ready c s && more) (ready-append a b (after c s))
    ∙ grouped (is_ready c s) (all_ready a (after c s)) (all_ready b (after_all a (after c s)))
  where
    grouped : (x y z : Bool) → (x && (y && z)) ≡ ((x && y) && z)
    grouped true y z = refl
    grouped false y z = refl

ready_added : (ps : List (Name × Prop)) (s : Store) (k : ℕ) (names : List Name) → HasNames s (address k) names
    → fresh names ps ≡ true → all_ready (added k ps) s ≡ true
ready_added [] s k names has new = refl
ready_added ((x, p) ∷ ps) s k names has new =
    let parts = apart (lacks names x) (fresh (names ++ x ∷ []) ps) new in
    let free : IsFree s (address k) x = is_free x refl has parts.0 in
    let next : HasNames (after (NewProperty (address k) x p) s) (address k) (names ++ x ∷ []) =
    names_added (after (NewProperty (address k) x p) s) x p refl refl has in
    both (is_ready (NewProperty (address k) x p) s) _
    (both (nat_lt k (length s.heap.objects)) _ (is_less k (length s.heap.objects) free.there) (ap not free.free))
    (ready_added ps (after (NewProperty (address k) x p) s) k (names ++ x ∷ []) next parts.1)

ready_closing : (extensible : Bool) (k : ℕ) (s : Store) → all_ready (closing extensible k) s ≡ true
ready_closing true k s = refl
ready_closing false k s = refl

module _ (env : List Environment) where
  first_names : (array : Bool) (n : ℕ)
      → map (λ (e : Entry Prop). e.name) (entries_from n (first_of array)) ≡ names_in (first_of array)
  first_names true n = refl
  first_names false n = refl

  names_begin : (kind : Class) (q : Option ObjId) (i : Inner) (array : Bool) (xs : List Object) (n : ℕ)
      → HasNames (with_entries env kind q i xs (entries_from n (first_of array)) (n + length (first_of array)))
      (address (length xs)) (names_in (first_of array))
  names_begin kind q i array xs n =
      let y = made kind q true i (entries_from n (first_of array)) in
      record {
        there = omega (arith, longer xs y);
        named =
            ap (λ (o : Object). map (λ (e : Entry Prop). e.name) o.properties)
            (get_or-append_seam xs y [] absent_object)
            ∙ first_names array n;
      }

  one_ready : (o : InitialObject) (xs : List Object) (n : ℕ) → is_fresh o ≡ true
      → all_ready (changes_for (length xs) o) (at env xs n) ≡ true
  one_ready o xs n new =
      let k = length xs in
      let array = is_array o.class in
      let q = proto_in k o.proto in
      let ps = later array o.properties in
      let begin =
      with_entries env o.class q o.inner xs (entries_from n (first_of array)) (n + length (first_of array)) in
      let made_so = new_is env o.class o.proto o.inner xs n ∙ new_if env o.class q o.inner array xs n in
      ap (all_ready (added k ps ++ closing o.extensible k)) made_so
      ∙ ready-append (added k ps) (closing o.extensible k) begin
      ∙ both _ _ (ready_added ps begin k (names_in (first_of array)) (names_begin o.class q o.inner array xs n) new)
      (ready_closing o.extensible k _)

  pub made_ready : (l : List InitialObject) (xs : List Object) (n : ℕ) → list_all is_fresh l ≡ true
      → all_ready (changes_from (length xs) l) (at env xs n) ≡ true
  made_ready [] xs n new = refl
  made_ready (o ∷ l) xs n new =
      let k = length xs in
      let parts = apart (is_fresh o) (list_all is_fresh l) new in
      let seen = seen_at k o in
      let ys = xs ++ objects_from n (seen ∷ []) in
      let m = n + length seen.properties in
      let rest : all_ready (changes_from (k + 1) l) (after_all (changes_for k o) (at env xs n)) ≡ true =
      ap (all_ready (changes_from (k + 1) l)) (one_made env o xs n)
      ∙ ap (λ j. all_ready (changes_from j l) (at env ys m)) (sym (longer xs (object_of n seen)))
      ∙ made_ready l ys m parts.1 in
      ready-append (changes_for k o) (changes_from (k + 1) l) (at env xs n)
      ∙ both _ _ (one_ready o xs n parts.0) rest
