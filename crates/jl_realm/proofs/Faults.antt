-- Declarations of a program end by no fault, and a put after one meets no accessor.
use Rattle.std.proofs.Common.{◌≡◌, Bool, true, false, List, [], ◌∷◌, refl, ap, subst, sym, ◌&&◌}
use Rattle.std.specs.Option.{option_map}
use Rattle.std.specs.Prelude.{codes, if◌then◌else◌, IsTrue, None, Option, Some}
use Rattle.std.specs.Str.{bytes_eq}
use Rattle.jl_value.specs.declared.object.Class.{Class}
use Rattle.jl_value.specs.declared.value.Value.{Value}
use Rattle.jl_effects.specs.Effects.{Begin, Change, Emit, End, Fail, Look, Perform, Print, Step}
use Rattle.jl_effects.specs.Running.{Ends, Fails, Finish}
use Rattle.jl_heap.specs.Define.{is_array, is_writable, length_name}
use Rattle.jl_heap.specs.Define as heaps
use Rattle.jl_heap.specs.Objects.{own, Name}
use Rattle.jl_heap.specs.declared.inner.Inner.{Inner}
use Rattle.jl_heap.specs.declared.property.Prop.{Prop}
use Rattle.jl_heap.specs.declared.property.Prop.TheVariants.{Accessor, Plain}
use Rattle.jl_meaning.specs.Changes.{DefineProperty}
use Rattle.jl_meaning.specs.DeclarationBinding.{can_be_made_anew, can_be_taken_over, create_global}
use Rattle.jl_meaning.specs.DeclarationBinding.{declare_global_variables, prepare_global}
use Rattle.jl_meaning.specs.Defining.{define_own_property, define_with_number, is_done, update_mapping_if, with_length}
use Rattle.jl_meaning.specs.Errors.{require, throw_error}
use Rattle.jl_meaning.specs.Intrinsics.{global_object}
use Rattle.jl_meaning.specs.Parts.{give, gives, throws, ◌>>=◌, Algorithm, AlgorithmFault, Answer}
use Rattle.jl_meaning.specs.Properties.{get_own_property, get_property, has_property, holding, inherited_property}
use Rattle.jl_meaning.specs.Properties.{own_or_inherited, parameter_at, parameter_value, Property}
use Rattle.jl_meaning.specs.Store.{Store}
use Rattle.jl_store.specs.Answers.{fault_seen, finish_of}
use Rattle.jl_store.specs.Changes.{after}
use Rattle.jl_store.specs.BigStep.{refines, BigStep}
use Rattle.jl_store.specs.declared.answer.Finished.{Finished}
use Rattle.jl_store.specs.declared.answer.Finished.TheVariants as ended
use Rattle.jl_realm.specs.Global.{is_no_accessor, is_no_fault, HasGlobalObject}
use Rattle.jl_realm.proofs.Created.{created, created_writable, own_alone}
use Rattle.jl_realm.proofs.Ordinary.{global_stays}

abbrev EndOf : Type 0 → Type 0
EndOf A = Finish AlgorithmFault (Answer A)

abbrev Nothing : Type 0
Nothing = Unit {0}

abbrev required : Bool → Algorithm Nothing
required done = require done (codes "cannot define")

required_fails : (b : Bool) (s t : Store) (f : AlgorithmFault) → refines (required b) s t (Fails f) → ⊥
unfolding throw_error
required_fails true s t f first = let differ = first.0 in cc
required_fails false s t f first = let differ = first.0 in cc

-- what is required holds where nothing is thrown
required_gives : (b : Bool) (s t : Store) → refines (required b) s t (Ends (gives tt)) → (b ≡ true) × (s ≡ t)
unfolding throw_error
required_gives true s t first = (refl, first.1)
required_gives false s t first = absurd (let differ = first.0 in cc)

-- what is left of a declaration once its property is defined
abbrev left : (done : Bool) → Name → Algorithm Nothing
left done x = update_mapping_if done global_object x created None >>= required

abbrev is_defined : Store → Name → Bool
is_defined s x = is_done (heaps.define_own_property s.heap global_object.0 x created).1

created_leads : (x : Name) (s t : Store) (e : EndOf Nothing) → HasGlobalObject s → refines (create_global x) s t e
    → refines (left (is_defined s x) x) (after (DefineProperty global_object x created) s) t e
unfolding define_own_property
created_leads x s t e has first =
    let P = λ (k : Class).
    refines ((with_length (is_array k && bytes_eq x length_name) created created.value
    >>= (λ c. define_with_number global_object x c)) >>= required) s t e in
    let Q = λ (i : Inner).
    refines (update_mapping_if (is_defined s x) global_object x created (parameter_at i x) >>= required)
    (after (DefineProperty global_object x created) s) t e in
    let ordinary = subst P has.ordinary.class first in
    subst Q has.ordinary.inner ordinary

left_fails : (done : Bool) (x : Name) (s t : Store) (f : AlgorithmFault) → refines (left done x) s t (Fails f) → ⊥
left_fails true x s t f first = required_fails true s t f first
left_fails false x s t f first = required_fails false s t f first

left_gives : (done : Bool) (x : Name) (s t : Store) → refines (left done x) s t (Ends (gives tt))
    → (done ≡ true) × (s ≡ t)
left_gives true x s t first = required_gives true s t first
left_gives false x s t first = required_gives false s t first

create_fails : (x : Name) (s t : Store) (f : AlgorithmFault) → HasGlobalObject s
    → refines (create_global x) s t (Fails f)
    → ⊥
create_fails x s t f has first = left_fails (is_defined s x) x _ t f (created_leads x s t (Fails f) has first)

create_gives : (x : Name) (s t : Store) → HasGlobalObject s → refines (create_global x) s t (Ends (gives tt))
    → is_writable (own t.heap global_object.0 x) ≡ true
unfolding after
create_gives x s t has first =
    let ends = left_gives (is_defined s x) x _ t (created_leads x s t (Ends (gives tt)) has first) in
    subst (λ (u : Store). is_writable (own u.heap global_object.0 x) ≡ true) ends.1
    (created_writable s.heap global_object.0 x has.ordinary ends.0)

prepare_fails : (x : Name) (property : Option Property) (s t : Store) (f : AlgorithmFault) → HasGlobalObject s
    → refines (prepare_global x property) s t (Fails f) → ⊥
prepare_fails x property s t f has first = by (can_be_made_anew property) first
  where
    by : (anew : Bool)
        → refines (if anew then create_global x else required (can_be_taken_over property)) s t (Fails f) → ⊥
    by true first = create_fails x s t f has first
    by false first = required_fails (can_be_taken_over property) s t f first

-- an own property that can be written is no accessor
own_writable : (o : Option Prop) (v : Option Value) (inherited : Option Prop) → is_writable o ≡ true
    → is_no_accessor (own_or_inherited (option_map (holding v) o) inherited) ≡ true
own_writable None v inherited writable = let no : false ≡ true = writable in cc
own_writable (Some (Accessor get set e c)) v inherited writable = let no : false ≡ true = writable in cc
own_writable (Some (Plain w writes e c)) None inherited writable = refl
own_writable (Some (Plain w writes e c)) (Some v) inherited writable = refl

taken_over : (p : Option Property) → can_be_taken_over p ≡ true → is_no_accessor p ≡ true
taken_over None taken = refl
taken_over (Some (is_own, Plain v w e c)) taken = refl
taken_over (Some (is_own, Accessor get set e c)) taken = taken

created_no_accessor : (x : Name) (s t : Store) → HasGlobalObject s → refines (create_global x) s t (Ends (gives tt))
    → is_no_accessor (get_property t global_object.0 x) ≡ true
unfolding get_property get_own_property
created_no_accessor x s t has first =
    let comes : BigStep (create_global x) s t (Ends (gives tt)) = record { refines = first } in
    let stays : HasGlobalObject t = global_stays comes has in
    let writes = own_writable (own t.heap global_object.0 x) (parameter_value t global_object.0 x)
    (inherited_property t global_object.0 x) (create_gives x s t has first) in
    subst (λ (o : Option Prop). is_no_accessor
    (own_or_inherited (option_map (holding (parameter_value t global_object.0 x)) o)
    (inherited_property t global_object.0 x)) ≡ true) (sym (own_alone t.heap global_object.0 x stays.ordinary)) writes

-- a property that was made ready for a function is no accessor
pub prepared_no_accessor : (x : Name) {s t : Store} → HasGlobalObject s
    → BigStep (prepare_global x (get_property s global_object.0 x)) s t (Ends (gives tt))
    → is_no_accessor (get_property t global_object.0 x) ≡ true
prepared_no_accessor x {s} {t} has comes = by (can_be_made_anew property) comes.refines
  where
    property : Option Property
    property = get_property s global_object.0 x

    by : (anew : Bool)
        → refines (if anew then create_global x else required (can_be_taken_over property)) s t (Ends (gives tt))
        → is_no_accessor (get_property t global_object.0 x) ≡ true
    by true first = created_no_accessor x s t has first
    by false first =
        let ends = required_gives (can_be_taken_over property) s t first in
        subst (λ (u : Store). is_no_accessor (get_property u global_object.0 x) ≡ true) ends.1
        (taken_over property ends.0)

-- where one algorithm after another fails, one of the two fails
fails_in : {A B : Type 0} (p : Algorithm A) (k : A → Algorithm B) (s t : Store) (f : AlgorithmFault)
    → refines (p >>= k) s t (Fails f) → (refines p s t (Fails f) → ⊥)
    → ((u : Store) (a : A) → refines p s u (Ends (gives a)) → refines (k a) u t (Fails f) → ⊥) → ⊥
fails_in (End (gives a)) k s t f first here rest = rest s a (refl, refl) first
fails_in (End (throws v)) k s t f first here rest = let differ = first.0 in cc
fails_in (Fail g) k s t f first here rest =
    let same = first.0 in
    let is : g ≡ f = cc in
    here (ap Fails is, first.1)
fails_in (Step p) k s t f first here rest = first
fails_in (Look p) k s t f first here rest = fails_in (p s) k s t f first here rest
fails_in (Change c p) k s t f first here rest = fails_in p k (after c s) t f first here rest
fails_in (Begin job p) k s t f first here rest = first
fails_in (Print line p) k s t f first here rest = first
fails_in (Perform o p) k s t f first here rest = absurd o
fails_in (Emit o p) k s t f first here rest = absurd o

variables_fail : (xs : List Name) (s t : Store) (f : AlgorithmFault) → HasGlobalObject s
    → refines (declare_global_variables xs) s t (Fails f) → ⊥
variables_fail [] s t f has first = let differ = first.0 in cc
variables_fail (x ∷ xs) s t f has first =
    fails_in make (λ _. declare_global_variables xs) s t f first (by (has_property s global_object.0 x))
    (λ u a gave rest.
    let comes : BigStep make s u (Ends (gives a)) = record { refines = gave } in
    variables_fail xs u t f (global_stays comes has) rest)
  where
    make : Algorithm Nothing
    make = if has_property s global_object.0 x then give tt else create_global x

    by : (there : Bool) → refines (if there then give tt else create_global x) s t (Fails f) → ⊥
    by true first = let differ = first.0 in cc
    by false first = create_fails x s t f has first

without_faults : {A : Type 0} (p : Algorithm A) (s t : Store) (end : Finished A)
    → ((f : AlgorithmFault) → refines p s t (Fails f) → ⊥) → refines p s t (finish_of end) → IsTrue (is_no_fault end)
without_faults p s t (ended.Gives a) never first = refl
without_faults p s t (ended.Throws v) never first = refl
without_faults p s t (ended.Fails f) never first = absurd (never (fault_seen f) first)

pub prepare_without_fault : (x : Name) (property : Option Property) {s t : Store} (end : Finished Nothing)
    → HasGlobalObject s → BigStep (prepare_global x property) s t (finish_of end) → IsTrue (is_no_fault end)
prepare_without_fault x property {s} {t} end has comes =
    without_faults (prepare_global x property) s t end (λ f. prepare_fails x property s t f has) comes.refines

pub variables_without_fault : (xs : List Name) {s t : Store} (end : Finished Nothing) → HasGlobalObject s
    → BigStep (declare_global_variables xs) s t (finish_of end) → IsTrue (is_no_fault end)
variables_without_fault xs {s} {t} end has comes =
    without_faults (declare_global_variables xs) s t end (λ f. variables_fail xs s t f has) comes.refines
