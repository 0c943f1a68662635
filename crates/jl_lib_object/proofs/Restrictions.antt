-- Properties that are sealed or frozen, and tested, one a turn (15.2.3.8 to 15.2.3.12).
use Rattle.std.proofs.Common.{◌≡◌, ◌∙◌, ◌∷◌, [], ap, refl, subst, sym, false, true, Bool, List, None, Option, Some}
use Rattle.std.specs.Option.{option_map_or}
use Rattle.std.specs.Prelude.{not, ◌&&◌}
use Rattle.jl_value.specs.declared.object.ObjId.{ObjId}
use Rattle.jl_value.specs.declared.value.Value.{Value}
use Rattle.jl_value.specs.declared.value.Value.TheVariants as value
use Rattle.jl_heap.specs.Objects.{object_at, Name}
use Rattle.jl_heap.specs.Property.{is_configurable}
use Rattle.jl_heap.specs.Define.{is_writable}
use Rattle.jl_heap.specs.declared.property.Change.{Change}
use Rattle.jl_heap.specs.declared.property.Prop.{Prop}
use Rattle.jl_heap.specs.declared.property.Prop.TheVariants.{Accessor, Plain}
use Rattle.jl_effects.specs.Effects.{Step}
use Rattle.jl_meaning.specs.Changes.{PreventExtensions}
use Rattle.jl_meaning.specs.Defining.{define_own_property}
use Rattle.jl_meaning.specs.Parts.{give, ◌>>=◌, Algorithm}
use Rattle.jl_meaning.specs.Properties.{get_own_property}
use Rattle.jl_meaning.specs.Store.{Store}
use Rattle.jl_meaning.specs.builtins.Arguments.{give_object}
use Rattle.jl_meaning.specs.builtins.Descriptors.{change_of}
use Rattle.jl_meaning.specs.builtins.Object.{forbid_extensions, redefine, redefine_if}
use Rattle.jl_meaning.specs.builtins.Turns.{each}
use Rattle.jl_progress.specs.Objects.{is_restricted_property, restricted_property}
use Rattle.jl_progress.specs.declared.object.Integrity.{Integrity}
use Rattle.jl_progress.specs.declared.object.Integrity.TheVariants as integrity
use Rattle.jl_store.specs.Changes.{after}
use Rattle.jl_store.proofs.Steps.{comes_by}
use Rattle.jl_state.specs.AlgorithmFrames.{after_define}
use Rattle.jl_state.specs.Rest.{RefinesAlgorithm}
use Rattle.jl_state.specs.declared.act.Act.{Act}
use Rattle.jl_state.specs.declared.act.Act.TheVariants as act
use Rattle.jl_state.specs.declared.algorithm_frame.AfterDefine.TheVariants.{Builtin}
use Rattle.jl_state.specs.declared.state.State.{State}
use Rattle.jl_state.proofs.Stores.{works_comes}
use Rattle.jl_meaning.proofs.Binds.{bind_assoc}
use Rattle.jl_lib_object.specs.inner.Parts.{restrict_and_give, stays_writable, test_and_give, test_one}
use Rattle.jl_lib_object.proofs.Definitions.{defines}

-- what becomes of a property

pub restricted_plain : (level : Integrity) (p : Prop) (v : Value) (writable stays enumerable configurable : Bool)
    → p ≡ Plain v writable enumerable configurable → stays ≡ stays_writable level writable
    → Plain v stays enumerable false ≡ restricted_property level p
restricted_plain integrity.Sealed p v writable stays enumerable configurable is stays_so =
    ap (λ b. Plain v b enumerable false) stays_so ∙ ap (restricted_property integrity.Sealed) (sym is)
restricted_plain integrity.Frozen p v writable stays enumerable configurable is stays_so =
    ap (λ b. Plain v b enumerable false) stays_so ∙ ap (restricted_property integrity.Frozen) (sym is)

pub restricted_accessor : (level : Integrity) (p : Prop) (getter setter : Option ObjId) (enumerable configurable : Bool)
    → p ≡ Accessor getter setter enumerable configurable
    → Accessor getter setter enumerable false ≡ restricted_property level p
restricted_accessor integrity.Sealed p getter setter enumerable configurable is =
    ap (restricted_property integrity.Sealed) (sym is)
restricted_accessor integrity.Frozen p getter setter enumerable configurable is =
    ap (restricted_property integrity.Frozen) (sym is)

-- whether a property is sealed or frozen

pub sealed_told : (level : Integrity) (p : Prop) (configurable : Bool) → level ≡ integrity.Sealed
    → configurable ≡ is_configurable p → not configurable ≡ is_restricted_property level p
sealed_told level p configurable is told = ap not told ∙ ap (λ l. is_restricted_property l p) (sym is)

frozen_is : (p : Prop) → (not (is_writable (Some p)) && not (is_configurable p))
    ≡ is_restricted_property integrity.Frozen p
frozen_is (Plain v writable enumerable configurable) = refl
frozen_is (Accessor getter setter enumerable configurable) = refl

pub frozen_told : (level : Integrity) (p : Prop) (writable configurable fixed : Bool) → level ≡ integrity.Frozen
    → fixed ≡ (not writable && not configurable) → writable ≡ is_writable (Some p) → configurable ≡ is_configurable p
    → fixed ≡ is_restricted_property level p
frozen_told level p writable configurable fixed is told w c =
    told
    ∙ ap (λ b. not b && not configurable) w
    ∙ ap (λ b. not (is_writable (Some p)) && not b) c
    ∙ frozen_is p
    ∙ ap (λ l. is_restricted_property l p) (sym is)

-- a property is redefined

pub redefines : (s : State) (level : Integrity) (id : ObjId) (x : Name) (found : Option Prop) (p : Prop)
    (q : Prop) (change : Change) (t : State) (a : Act) → found ≡ get_own_property s.store id.0 x → found ≡ Some p
    → q ≡ restricted_property level p → change ≡ change_of q
    → RefinesAlgorithm s (define_own_property id x change >>= after_define (Builtin value.Undefined)) t a
    → RefinesAlgorithm s (redefine (restricted_property level) id x >>= λ _. give value.Undefined) t a
redefines s level id x found p q change t a is there q_is change_is refines = record {
  is = (subst (λ o. RefinesAlgorithm s (redefine_if (restricted_property level) id x o >>=
      λ _. give value.Undefined) t a)
      (sym there ∙ is)
      (subst (λ r. RefinesAlgorithm s (redefine_if (λ _. r) id x (Some p) >>= λ _. give value.Undefined) t a) q_is
      (defines s id x (change_of q) value.Undefined t a
      (subst (λ c. RefinesAlgorithm s (define_own_property id x c >>= after_define
      (Builtin value.Undefined)) t a) change_is
      refines)))).is;
}

pub redefines_none : (s : State) (level : Integrity) (id : ObjId) (x : Name) (found : Option Prop)
    → found ≡ get_own_property s.store id.0 x → found ≡ None
    → RefinesAlgorithm s (redefine (restricted_property level) id x >>= λ _. give value.Undefined) s
    (act.Give value.Undefined)
redefines_none s level id x found is gone = record {
  is = (subst (λ o. RefinesAlgorithm s (redefine_if (restricted_property level) id x o >>= λ _. give value.Undefined) s
      (act.Give value.Undefined)) (sym gone ∙ is) (record { is = λ kept told. refl })).is;
}

-- no more properties may be added
pub forbids : (s : State) (x : Store) (id : ObjId) → x ≡ after (PreventExtensions id) s.store
    → RefinesAlgorithm s (forbid_extensions id >>= λ _. give_object id) (record s { store = x })
    (act.Give (value.Obj id))
forbids s x id is =
    works_comes s (record s { store = x }) refl (forbid_extensions id) tt (λ _. give_object id)
    (record s { store = x }) (act.Give (value.Obj id)) (comes_by (PreventExtensions id) is)
    (record { is = λ kept told. refl })

pub restricted_all : (s : State) (x : Store) (level : Integrity) (id : ObjId) (names : List Name) → names ≡ []
    → x ≡ after (PreventExtensions id) s.store
    → RefinesAlgorithm s (restrict_and_give level id names) (record s { store = x }) (act.Give (value.Obj id))
restricted_all s x level id names none is =
    subst (λ l. RefinesAlgorithm s (restrict_and_give level id l) (record s { store = x }) (act.Give (value.Obj id)))
    (sym none)
    (forbids s x id is)

pub restricts_next : (s : State) (level : Integrity) (id : ObjId) (left : List Name) (x : Name) (rest : List Name)
    (t : State) (a : Act) → left ≡ x ∷ rest
    → RefinesAlgorithm s (Step (redefine (restricted_property level) id x >>= λ _. restrict_and_give level id rest)) t a
    → RefinesAlgorithm s (restrict_and_give level id left) t a
restricts_next s level id left x rest t a is refines =
    subst (λ l. RefinesAlgorithm s (restrict_and_give level id l) t a) (sym is)
    (subst (λ (p : Algorithm Value). RefinesAlgorithm s (Step p) t a)
    (sym (bind_assoc (redefine (restricted_property level) id x)
    (λ _. each (redefine (restricted_property level) id) rest)
    (λ _. forbid_extensions id >>= λ _. give_object id))) refines)

-- properties are tested

pub tested_all : (s : State) (level : Integrity) (id : ObjId) (holds : Bool) (names : List Name) (b : Bool)
    → names ≡ [] → b ≡ (holds && not (object_at s.store.heap id.0).extensible)
    → RefinesAlgorithm s (test_and_give level id holds names) s (act.Give (value.Bool b))
tested_all s level id holds names b none is =
    subst (λ l. RefinesAlgorithm s (test_and_give level id holds l) s (act.Give (value.Bool b))) (sym none)
    (subst (λ c. RefinesAlgorithm s (test_and_give level id holds []) s (act.Give (value.Bool c))) (sym is)
    (record { is = λ kept told. refl }))

pub tests_next : (s : State) (level : Integrity) (id : ObjId) (holds : Bool) (left : List Name) (x : Name)
    (rest : List Name) (t : State) (a : Act) → left ≡ x ∷ rest
    → RefinesAlgorithm s (Step (test_one level id holds x rest)) t a
    → RefinesAlgorithm s (test_and_give level id holds left) t a
tests_next s level id holds left x rest t a is refines =
    subst (λ l. RefinesAlgorithm s (test_and_give level id holds l) t a) (sym is) refines

-- a turn that tests a property
pub tests_one : (s : State) (level : Integrity) (id : ObjId) (holds kept both : Bool) (x : Name) (names : List Name)
    (t : State) (a : Act)
    → kept ≡ option_map_or (is_restricted_property level) (get_own_property s.store id.0 x) true
    → both ≡ (holds && kept) → RefinesAlgorithm s (test_and_give level id both names) t a
    → RefinesAlgorithm s (test_one level id holds x names) t a
tests_one s level id holds kept both x names t a kept_is both_is refines = record {
  is = (subst (λ k. RefinesAlgorithm s (test_and_give level id (holds && k) names) t a) kept_is
      (subst (λ b. RefinesAlgorithm s (test_and_give level id b names) t a) both_is refines)).is;
}
