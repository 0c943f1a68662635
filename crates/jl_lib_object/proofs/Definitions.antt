-- Properties that are defined, one after another (15.2.3.5 to 15.2.3.7).
use Rattle.std.proofs.Common.{◌≡◌, ◌∙◌, ◌++◌, ◌∷◌, [], ap, codes, drop, false, refl, subst, sym, true, List, ℕ}
use mathlib.Core.Path.{fun_ext}
use Rattle.jl_value.specs.Tests.{is_undefined}
use Rattle.jl_value.specs.declared.ending.Completion.TheVariants as completion
use Rattle.jl_value.specs.declared.error_kind.ErrorKind.TheVariants.{TypeError}
use Rattle.jl_value.specs.declared.object.ObjId.{ObjId}
use Rattle.jl_value.specs.declared.value.Value.{Value}
use Rattle.jl_value.specs.declared.value.Value.TheVariants as value
use Rattle.jl_heap.specs.Objects.{Name}
use Rattle.jl_heap.specs.declared.property.Change.{Change}
use Rattle.jl_effects.specs.Effects.{Step}
use Rattle.jl_effects.specs.Running.{Ends}
use Rattle.jl_meaning.specs.Conversions.{to_object}
use Rattle.jl_meaning.specs.Defining.{define_own_property}
use Rattle.jl_meaning.specs.Errors.{require}
use Rattle.jl_meaning.specs.Getting.{get}
use Rattle.jl_meaning.specs.Parts.{give, look, throws, ◌>>=◌, Algorithm}
use Rattle.jl_meaning.specs.Store.{Store}
use Rattle.jl_meaning.specs.builtins.Arguments.{define_or_throw, give_object, unless_undefined}
use Rattle.jl_meaning.specs.builtins.Descriptors.{enumerable_names, to_property_descriptor}
use Rattle.jl_meaning.specs.builtins.Object.{changes_of, define_all, define_each, need_prototype}
use Rattle.jl_progress.specs.Objects.{after_descriptor}
use Rattle.jl_progress.specs.declared.object.DescriptorUse.{DescriptorUse}
use Rattle.jl_progress.specs.declared.object.DescriptorUse.TheVariants as use_of
use Rattle.jl_progress.specs.declared.object.ObjectProgress.TheVariants as object
use Rattle.jl_progress.specs.declared.progress.Progress.TheVariants as progress
use Rattle.jl_store.specs.Answers.{ends_with, MakesError}
use Rattle.jl_store.specs.BigStep.{BigStep}
use Rattle.jl_store.specs.declared.answer.Answer.{Answer}
use Rattle.jl_store.specs.declared.answer.Answer.TheVariants.{Gives, Throws}
use Rattle.jl_store.proofs.Chains.{error_comes}
use Rattle.jl_state.specs.AlgorithmFrames.{after_define}
use Rattle.jl_state.specs.Rest.{RefinesAlgorithm}
use Rattle.jl_state.specs.Steps.{AlgorithmWaits}
use Rattle.jl_state.specs.declared.act.Act.{Act}
use Rattle.jl_state.specs.declared.act.Act.TheVariants as act
use Rattle.jl_state.specs.declared.algorithm_frame.AlgorithmFrame.TheVariants as algorithm
use Rattle.jl_state.specs.declared.algorithm_frame.AfterDefine.TheVariants.{Builtin}
use Rattle.jl_state.specs.declared.state.State.{State}
use Rattle.jl_meaning.proofs.Binds.{bind_assoc}
use Rattle.jl_state.proofs.Chains.{works_assoc}
use Rattle.jl_lib_object.specs.inner.Parts.{define_and_give, read_descriptor}
use Rattle.jl_lib_object.proofs.Ends.{goes_on, throws_on}

-- a value that is given after an algorithm doesn't count where what follows is the same
pub uncounted : (s : State) (p : Algorithm (Unit {0})) (v : Value) (q : Algorithm Value) (t : State) (a : Act)
    → RefinesAlgorithm s (p >>= (λ _. give v) >>= λ _. q) t a → RefinesAlgorithm s (p >>= λ _. q) t a
uncounted s p v q t a refines = subst (λ r. RefinesAlgorithm s r t a) (bind_assoc p (λ _. give v) (λ _. q)) refines

-- a property that is defined by a builtin, and then a value given
pub defines : (s : State) (id : ObjId) (x : Name) (change : Change) (v : Value) (t : State) (a : Act)
    → RefinesAlgorithm s (define_own_property id x change >>= after_define (Builtin v)) t a
    → RefinesAlgorithm s (define_or_throw id x change >>= λ _. give v) t a
defines s id x change v t a refines =
    works_assoc s (define_own_property id x change) (λ done. require done (codes "cannot define")) (λ _. give v) t a
    refines

-- or then something else done
pub defines_then : (s : State) (id : ObjId) (x : Name) (change : Change) (v : Value) (q : Algorithm Value) (t : State)
    (a : Act) → RefinesAlgorithm s (define_own_property id x change >>= after_define (Builtin v) >>= λ _. q) t a
    → RefinesAlgorithm s (define_or_throw id x change >>= λ _. q) t a
defines_then s id x change v q t a refines =
    uncounted s (define_or_throw id x change) v q t a
    (subst (λ (p : Algorithm Value). RefinesAlgorithm s (p >>= λ _. q) t a)
    (sym (bind_assoc (define_own_property id x change) (λ done. require done (codes "cannot define")) (λ _. give v)))
    refines)

-- the same of a name and its change
pub defines_named : (s : State) (id : ObjId) (named : Name × Change) (x : Name) (change : Change) (v : Value)
    (q : Algorithm Value) (t : State) (a : Act) → x ≡ named.0 → change ≡ named.1
    → RefinesAlgorithm s (define_own_property id x change >>= after_define (Builtin v) >>= λ _. q) t a
    → RefinesAlgorithm s (define_or_throw id named.0 named.1 >>= λ _. q) t a
defines_named s id named x change v q t a x_is change_is refines =
    subst (λ y. RefinesAlgorithm s (define_or_throw id y named.1 >>= λ _. q) t a) x_is
    (subst (λ c. RefinesAlgorithm s (define_or_throw id x c >>= λ _. q) t a) change_is
    (defines_then s id x change v q t a refines))

-- what a descriptor was read for

pub uses_one : (s : State) (purpose : DescriptorUse) (id : ObjId) (x : Name) (change : Change) (t : State) (a : Act)
    → purpose ≡ use_of.One id x
    → RefinesAlgorithm s (define_own_property id x change >>= after_define (Builtin (value.Obj id))) t a
    → RefinesAlgorithm s (after_descriptor purpose change) t a
uses_one s purpose id x change t a is refines =
    subst (λ p. RefinesAlgorithm s (after_descriptor p change) t a) (sym is)
    (defines s id x change (value.Obj id) t a refines)

pub uses_next : (s : State) (purpose : DescriptorUse) (id d : ObjId) (changes longer : List (Name × Change)) (x : Name)
    (named : Name × Change) (names : List Name) (from : ℕ) (change : Change) (t : State) (a : Act)
    → purpose ≡ use_of.Next id d changes x names from → named ≡ (x, change) → longer ≡ changes ++ named ∷ []
    → RefinesAlgorithm s (changes_of d longer (drop from names) >>= define_and_give id) t a
    → RefinesAlgorithm s (after_descriptor purpose change) t a
uses_next s purpose id d changes longer x named names from change t a is named_is longer_is refines =
    subst (λ p. RefinesAlgorithm s (after_descriptor p change) t a) (sym is)
    (subst (λ n. RefinesAlgorithm s (changes_of d (changes ++ n ∷ [])
    (drop from names) >>= define_and_give id) t a) named_is
    (subst (λ l. RefinesAlgorithm s (changes_of d l (drop from names) >>= define_and_give id) t a) longer_is refines))

-- the changes that descriptors describe

pub changes_end : (s : State) (id d : ObjId) (changes : List (Name × Change)) (names : List Name) (t : State) (a : Act)
    → names ≡ [] → RefinesAlgorithm s (define_and_give id changes) t a
    → RefinesAlgorithm s (changes_of d changes names >>= define_and_give id) t a
changes_end s id d changes names t a none refines =
    subst (λ l. RefinesAlgorithm s (changes_of d changes l >>= define_and_give id) t a) (sym none) refines

pub changes_next : (s : State) (id d : ObjId) (changes : List (Name × Change)) (left : List Name) (x : Name)
    (names : List Name) (from : ℕ) (t : State) (a : Act) → left ≡ x ∷ drop from names
    → RefinesAlgorithm s (Step (read_descriptor id d changes x names from)) t a
    → RefinesAlgorithm s (changes_of d changes left >>= define_and_give id) t a
changes_next s id d changes left x names from t a is refines =
    subst (λ l. RefinesAlgorithm s (changes_of d changes l >>= define_and_give id) t a) (sym is)
    (subst (λ (p : Algorithm Value). RefinesAlgorithm s (Step p) t a) (sym same) refines)
  where
    more : Change → Algorithm (List (Name × Change))
    more change = changes_of d (changes ++ (x, change) ∷ []) (drop from names)

    described : Value → Algorithm (List (Name × Change))
    described v = to_property_descriptor v >>= more

    same : (get (value.Obj d) x >>= described >>= define_and_give id) ≡ read_descriptor id d changes x names from
    same =
        bind_assoc (get (value.Obj d) x) described (define_and_give id)
        ∙ ap (λ (k : Value → Algorithm Value). get (value.Obj d) x >>= k)
        (fun_ext (λ v. bind_assoc (to_property_descriptor v) more (define_and_give id)))

-- a descriptor that is got
pub gets_descriptor : (s u : State) (id d : ObjId) (changes : List (Name × Change)) (x key : Name) (names : List Name)
    (from : ℕ) (t : State) (a : Act) → key ≡ x
    → AlgorithmWaits s (algorithm.Builtin (progress.Object (object.Descriptor id d changes x names from))) u
    → RefinesAlgorithm u (get (value.Obj d) key) t a
    → RefinesAlgorithm s (read_descriptor id d changes x names from) t a
gets_descriptor s u id d changes x key names from t a same waits refines =
    waits.works (get (value.Obj d) x) t a (subst (λ y. RefinesAlgorithm u (get (value.Obj d) y) t a) same refines)

-- the properties that are defined

pub defined_all : (s : State) (id : ObjId) (changes : List (Name × Change)) → changes ≡ []
    → RefinesAlgorithm s (define_and_give id changes) s (act.Give (value.Obj id))
defined_all s id changes none =
    subst (λ l. RefinesAlgorithm s (define_and_give id l) s (act.Give (value.Obj id))) (sym none)
    (record { is = λ kept told. refl })

pub defined_next : (s : State) (id : ObjId) (left : List (Name × Change)) (named : Name × Change)
    (changes : List (Name × Change)) (from : ℕ) (t : State) (a : Act) → left ≡ named ∷ drop from changes
    → RefinesAlgorithm s (define_or_throw id named.0 named.1 >>= λ _. define_and_give id (drop from changes)) t a
    → RefinesAlgorithm s (define_and_give id left) t a
defined_next s id left (x, change) changes from t a is refines =
    subst (λ l. RefinesAlgorithm s (define_and_give id l) t a) (sym is)
    (works_assoc s (define_or_throw id x change) (λ _. define_each id (drop from changes)) (λ _. give_object id) t a
    refines)

-- an object of descriptors

module _ (s : State) (x : Store) (id : ObjId) (v : Value) (answer : Answer ObjId)
    (comes : BigStep (to_object v) s.store x (ends_with answer)) where
  abbrev defined : ObjId → Algorithm (Unit {0})
  defined d = look >>= λ store. changes_of d [] (enumerable_names store d.0) >>= λ changes. define_each id changes

  apart : (to_object v >>= λ d. defined d >>= λ _. give_object id) ≡ (define_all id v >>= λ _. give_object id)
  apart = sym (bind_assoc (to_object v) defined (λ _. give_object id))

  pub all_read : (d : ObjId) (t : State) (a : Act) → answer ≡ Gives d
      → RefinesAlgorithm (record s { store = x }) (changes_of d [] (enumerable_names x d.0) >>= define_and_give id) t a
      → RefinesAlgorithm s (define_all id v >>= λ _. give_object id) t a
  all_read d t a is refines =
      subst (λ p. RefinesAlgorithm s p t a) apart
      (goes_on s x (to_object v) (λ e. defined e >>= λ _. give_object id) answer comes d t a is
      (record {
        is = (works_assoc (record s { store = x }) (changes_of d [] (enumerable_names x d.0))
            (λ changes. define_each id changes) (λ _. give_object id) t a refines).is;
      }))

  pub all_thrown : (w : Value) → answer ≡ Throws w
      → RefinesAlgorithm s (define_all id v >>= λ _. give_object id) (record s { store = x })
      (act.Complete (completion.Throw w))
  all_thrown w is =
      subst (λ p. RefinesAlgorithm s p (record s { store = x }) (act.Complete (completion.Throw w))) apart
      (throws_on s x (to_object v) (λ e. defined e >>= λ _. give_object id) answer comes w is)

-- one that may not be given

pub none_given : (s : State) (id : ObjId) (v : Value) → is_undefined v ≡ true
    → RefinesAlgorithm s (unless_undefined tt (define_all id) v >>= λ _. give_object id) s (act.Give (value.Obj id))
none_given s id value.Undefined is = record { is = λ kept told. refl }
none_given s id value.Null is = absurd (let differ = is in cc)
none_given s id (value.Bool b) is = absurd (let differ = is in cc)
none_given s id (value.Num n) is = absurd (let differ = is in cc)
none_given s id (value.Text y) is = absurd (let differ = is in cc)
none_given s id (value.Obj o) is = absurd (let differ = is in cc)

pub some_given : (s : State) (id : ObjId) (v : Value) (t : State) (a : Act) → is_undefined v ≡ false
    → RefinesAlgorithm s (define_all id v >>= λ _. give_object id) t a
    → RefinesAlgorithm s (unless_undefined tt (define_all id) v >>= λ _. give_object id) t a
some_given s id value.Undefined t a is refines = absurd (let differ = is in cc)
some_given s id value.Null t a is refines = refines
some_given s id (value.Bool b) t a is refines = refines
some_given s id (value.Num n) t a is refines = refines
some_given s id (value.Text y) t a is refines = refines
some_given s id (value.Obj o) t a is refines = refines

-- a value that is no prototype
pub no_prototype : (s t : Store) (v thrown : Value) → ((id : ObjId) → v ≡ value.Obj id → ⊥) → (v ≡ value.Null → ⊥)
    → MakesError TypeError (codes "not an object") s t thrown → BigStep (need_prototype v) s t (Ends (throws thrown))
no_prototype s t value.Undefined thrown no_object no_null makes = error_comes makes
no_prototype s t value.Null thrown no_object no_null makes = absurd (no_null refl)
no_prototype s t (value.Bool b) thrown no_object no_null makes = error_comes makes
no_prototype s t (value.Num n) thrown no_object no_null makes = error_comes makes
no_prototype s t (value.Text x) thrown no_object no_null makes = error_comes makes
no_prototype s t (value.Obj id) thrown no_object no_null makes = absurd (no_object id refl)
