-- The names of own properties, as lists and in arrays (15.2.3.4, 15.2.3.14).
use Rattle.std.proofs.Common.{◌≡◌, ◌<◌, ◌++◌, ◌+◌, ◌∷◌, ◌∙◌, [], append_assoc, ap, arith, drop, false, get_or, length}
use Rattle.std.proofs.Common.{append-nil, map, refl, subst, sym, take, true, Bool, List, None, Some, ℕ}
use Rattle.std.proofs.lemmas.List.Elements.{filter_more}
use Rattle.std.proofs.lemmas.List.FromFn.{map-range_with_len_more}
use Rattle.std.specs.Prelude.{filter}
use mathlib.Core.Bool.{cond}
use Rattle.std.proofs.lemmas.List.{map-append, map_more}
use Rattle.std.specs.List.{range_with_len}
use Rattle.jl_value.specs.declared.object.ObjId.{ObjId}
use Rattle.jl_value.specs.declared.value.Value.{Value}
use Rattle.jl_props.specs.declared.entries.Entry.{Entry}
use Rattle.jl_heap.specs.Objects.{names_of, object_at, units_of, Name}
use Rattle.jl_heap.specs.declared.property.Prop.{Prop}
use Rattle.jl_effects.specs.Running.{Ends}
use Rattle.jl_meaning.specs.Parts.{gives, ◌>>=◌, Visit}
use Rattle.jl_meaning.specs.Store.{Store}
use Rattle.jl_meaning.specs.builtins.Arguments.{give_object}
use Rattle.jl_meaning.specs.builtins.Descriptors.{own_names}
use Rattle.jl_meaning.specs.builtins.Elements.{add_in_turns}
use Rattle.jl_meaning.specs.builtins.Object.{array_of_names}
use Rattle.jl_meaning.specs.forms.Literals.{index_name, new_array}
use Rattle.jl_store.specs.BigStep.{BigStep}
use Rattle.jl_state.specs.Rest.{RefinesAlgorithm}
use Rattle.jl_state.specs.declared.act.Act.{Act}
use Rattle.jl_state.specs.declared.state.State.{State}
use Rattle.jl_state.proofs.Stores.{works_comes}
use Rattle.jl_lib_object.specs.inner.Names.{name_of_entry, text_value}

-- the names of the units, and those that are stored

abbrev name_of_visit : Visit → Name
name_of_visit v = v.name

abbrev unit_visit : (holder : ℕ) → ℕ → Visit
unit_visit holder i = record { holder = holder; name = index_name i; serial = None }

abbrev stored_visit : (holder : ℕ) → Entry Prop → Visit
stored_visit holder e = record { holder = holder; name = e.name; serial = Some e.serial }

names_of_units : (holder : ℕ) (l : List ℕ) → map name_of_visit (map (unit_visit holder) l) ≡ map index_name l
names_of_units holder [] = refl
names_of_units holder (i ∷ l) = ap (λ n. index_name i ∷ n) (names_of_units holder l)

names_stored : (holder : ℕ) (l : List (Entry Prop))
    → map name_of_visit (map (stored_visit holder) l)
    ≡ map name_of_entry (map (λ e. (e.name, e.serial)) l)
names_stored holder [] = refl
names_stored holder (e ∷ l) = ap (λ n. e.name ∷ n) (names_stored holder l)

pub own_names_are : (store : Store) (place count : ℕ) (units names : List Name) (stored : List (Name × ℕ))
    → units ≡ map index_name (range_with_len 0 count)
    → count ≡ length (units_of (object_at store.heap place).class (object_at store.heap place).inner)
    → stored ≡ names_of store.heap place → names ≡ units ++ map name_of_entry stored → names ≡ own_names store place
own_names_are store place count units names stored units_are counted found is =
    let object = object_at store.heap place in
    let visits = λ (n : ℕ). map (unit_visit place) (range_with_len 0 n) in
    is
    ∙ ap (λ l. l ++ map name_of_entry stored) units_are
    ∙ ap (λ n. map index_name (range_with_len 0 n) ++ map name_of_entry stored) counted
    ∙ ap (λ l. map index_name (range_with_len 0 (length (units_of object.class object.inner))) ++ map name_of_entry l)
    found
    ∙ ap (λ l. l ++ map name_of_entry (names_of store.heap place))
    (sym (names_of_units place (range_with_len 0 (length (units_of object.class object.inner)))))
    ∙ ap (λ l. map name_of_visit (visits (length (units_of object.class object.inner))) ++ l)
    (sym (names_stored place object.properties))
    ∙ sym (map-append name_of_visit (visits (length (units_of object.class object.inner)))
    (map (stored_visit place) object.properties))

-- an array of names is filled
pub fills_names : (s : State) (x : Store) (array : ObjId) (names : List Name) (values : List Value) (t : State)
    (a : Act) → values ≡ map text_value names → BigStep new_array s.store x (Ends (gives array))
    → RefinesAlgorithm (record s { store = x }) (add_in_turns array 0 (drop 0 values) >>= λ _. give_object array) t a
    → RefinesAlgorithm s (array_of_names names) t a
fills_names s x array names values t a is comes refines =
    subst (λ l. RefinesAlgorithm s (new_array >>= λ id. add_in_turns id 0 l >>= λ _. give_object id) t a) is
    (works_comes s (record s { store = x }) refl new_array array
    (λ id. add_in_turns id 0 values >>= λ _. give_object id)
    t a comes refines)

-- lists that grow by one

pub units_more : (i : ℕ) (names more : List Name) (name : Name) → names ≡ map index_name (range_with_len 0 i)
    → name ≡ index_name i → more ≡ names ++ name ∷ [] → more ≡ map index_name (range_with_len 0 (i + 1))
units_more i names more name is same grown =
    grown
    ∙ ap (λ l. l ++ name ∷ []) is
    ∙ ap (λ n. map index_name (range_with_len 0 i) ++ n ∷ []) same
    ∙ sym (map-range_with_len_more index_name 0 i i (omega arith))

pub stored_more : (before l more : List Name) (stored : List (Name × ℕ)) (i : ℕ) (e : Name × ℕ) (name : Name)
    → l ≡ before ++ map name_of_entry (take i stored) → i < length stored → e ≡ get_or stored i e → name ≡ e.0
    → more ≡ l ++ name ∷ [] → more ≡ before ++ map name_of_entry (take (i + 1) stored)
stored_more before l more stored i e name is within here same grown =
    grown
    ∙ ap (λ m. m ++ name ∷ []) is
    ∙ append_assoc before (map name_of_entry (take i stored)) (name ∷ [])
    ∙ ap (λ n. before ++ (map name_of_entry (take i stored) ++ n ∷ [])) (same ∙ ap name_of_entry here)
    ∙ ap (λ m. before ++ m) (sym (map_more name_of_entry stored i e within))

pub values_more : (l more : List Value) (names : List Name) (i : ℕ) (x copy : Name)
    → l ≡ map text_value (take i names) → i < length names → x ≡ get_or names i x → copy ≡ x
    → more ≡ l ++ text_value copy ∷ [] → more ≡ map text_value (take (i + 1) names)
values_more l more names i x copy is within here same grown =
    grown
    ∙ ap (λ m. m ++ text_value copy ∷ []) is
    ∙ ap (λ y. map text_value (take i names) ++ text_value y ∷ []) (same ∙ here)
    ∙ sym (map_more text_value names i x within)

pub kept_more : (p : Name → Bool) (l more all : List Name) (i : ℕ) (x copy : Name) (b : Bool)
    → l ≡ filter p (take i all) → i < length all → x ≡ get_or all i x → b ≡ p x → b ≡ true → copy ≡ x
    → more ≡ l ++ copy ∷ [] → more ≡ filter p (take (i + 1) all)
kept_more p l more all i x copy b is within here tests passes same grown =
    grown
    ∙ ap (λ m. m ++ copy ∷ []) is
    ∙ ap (λ y. filter p (take i all) ++ y ∷ []) (same ∙ here)
    ∙ ap (λ (c : Bool). filter p (take i all) ++ cond c (get_or all i x ∷ []) [])
    (sym passes ∙ tests ∙ ap p here)
    ∙ sym (filter_more p all i x within)

pub passed_more : (p : Name → Bool) (l all : List Name) (i : ℕ) (x : Name) (b : Bool)
    → l ≡ filter p (take i all) → i < length all → x ≡ get_or all i x → b ≡ p x → b ≡ false
    → l ≡ filter p (take (i + 1) all)
passed_more p l all i x b is within here tests fails =
    is
    ∙ sym (append-nil (filter p (take i all)))
    ∙ ap (λ (c : Bool). filter p (take i all) ++ cond c (get_or all i x ∷ []) []) (sym fails ∙ tests ∙ ap p here)
    ∙ sym (filter_more p all i x within)
