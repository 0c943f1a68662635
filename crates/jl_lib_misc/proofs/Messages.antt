-- Names and messages of errors, which may be missing.
use Rattle.std.proofs.Common.{◌≡◌, [], codes, refl, subst, sym, false, true, List, None, Option, Some, ℕ}
use Rattle.jl_value.specs.Tests.{is_undefined}
use Rattle.jl_value.specs.declared.error_kind.ErrorKind.TheVariants.{TypeError}
use Rattle.jl_value.specs.declared.object.ObjId.{ObjId}
use Rattle.jl_value.specs.declared.value.Value.{Value}
use Rattle.jl_value.specs.declared.value.Value.TheVariants as value
use Rattle.jl_effects.specs.Running.{Ends}
use Rattle.jl_meaning.specs.Conversions.{string_hint, to_primitive, to_string}
use Rattle.jl_meaning.specs.Errors.{throw_type_error}
use Rattle.jl_meaning.specs.Getting.{get}
use Rattle.jl_meaning.specs.Parts.{give, gives, ◌>>=◌, Algorithm}
use Rattle.jl_meaning.specs.Parts as parts
use Rattle.jl_meaning.specs.Store.{Store}
use Rattle.jl_meaning.specs.builtins.Arguments.{argument, give_object, need_object}
use Rattle.jl_meaning.specs.builtins.Error.{error_constructor, error_to_string, message_given, name_and_message}
use Rattle.jl_meaning.specs.builtins.Error.{new_error}
use Rattle.jl_store.specs.BigStep.{BigStep}
use Rattle.jl_progress.specs.Errors.{error_after}
use Rattle.jl_progress.specs.Progress.{progress_after}
use Rattle.jl_progress.specs.declared.error.ErrorProgress.TheVariants as error
use Rattle.jl_progress.specs.declared.progress.Progress.TheVariants as progress
use Rattle.jl_state.specs.Rest.{RefinesAlgorithm}
use Rattle.jl_state.specs.declared.act.Act.{Act}
use Rattle.jl_state.specs.declared.act.Act.TheVariants as act
use Rattle.jl_state.specs.declared.state.State.{State}
use Rattle.jl_state.proofs.Stores.{works_comes}
use Rattle.jl_meaning.proofs.Binds.{bind_assoc}
use Rattle.jl_algorithm.proofs.Throwing.{works_left_out}
use Rattle.jl_builtin.proofs.Conversions.{as_string, missing, there}

-- the error that was made is given
pub gives_error : (s : State) (x : Store) (proto id : ObjId) (message : Option (List ℕ))
    → BigStep (new_error proto message) s.store x (Ends (gives id))
    → RefinesAlgorithm s (new_error proto message >>= give_object) (record s { store = x }) (act.Give (value.Obj id))
gives_error s x proto id message comes =
    works_comes s (record s { store = x }) refl (new_error proto message) id give_object (record s { store = x })
    (act.Give (value.Obj id)) comes (record { is = λ kept told. refl })

-- a value that is there is converted

message_there : (v : Value) (k : Option (List ℕ) → Algorithm Value) → is_undefined v ≡ false
    → (to_string v >>= λ units. k (Some units)) ≡ (message_given v >>= k)
message_there value.Undefined k e = absurd (let differ = e in cc)
message_there value.Null k e = sym (bind_assoc (to_string value.Null) (λ units. give (Some units)) k)
message_there (value.Bool b) k e = sym (bind_assoc (to_string (value.Bool b)) (λ units. give (Some units)) k)
message_there (value.Num n) k e = sym (bind_assoc (to_string (value.Num n)) (λ units. give (Some units)) k)
message_there (value.Text x) k e = sym (bind_assoc (to_string (value.Text x)) (λ units. give (Some units)) k)
message_there (value.Obj id) k e = sym (bind_assoc (to_string (value.Obj id)) (λ units. give (Some units)) k)

pub constructs_with : (s : State) (proto : ObjId) (c : parts.Call) (v : Value) (t : State) (a : Act)
    → v ≡ argument c 0 → is_undefined v ≡ false
    → RefinesAlgorithm s (to_primitive string_hint v >>= progress_after (progress.Error (error.NewMessage proto))) t a
    → RefinesAlgorithm s (error_constructor proto c) t a
constructs_with s proto c v t a is given refines =
    subst (λ w. RefinesAlgorithm s (message_given w >>= k) t a) is
    (subst (λ p. RefinesAlgorithm s p t a) (message_there v k given)
    (as_string s t a v (progress_after (progress.Error (error.NewMessage proto))) (λ units. k (Some units)) (λ p. refl)
    refines))
  where
    k : Option (List ℕ) → Algorithm Value
    k m = new_error proto m >>= give_object

pub constructs_without : (s : State) (proto : ObjId) (c : parts.Call) (v : Value) (t : State) (a : Act)
    → v ≡ argument c 0 → is_undefined v ≡ true → RefinesAlgorithm s (new_error proto None >>= give_object) t a
    → RefinesAlgorithm s (error_constructor proto c) t a
constructs_without s proto c v t a is none refines =
    subst (λ w. RefinesAlgorithm s (message_given w >>= k) t a) is
    (missing s t a None (λ w. to_string w >>= λ units. give (Some units)) v k none refines)
  where
    k : Option (List ℕ) → Algorithm Value
    k m = new_error proto m >>= give_object

-- Error.prototype.toString

pub no_error_object : (s : State) (c : parts.Call) (t : State) (a : Act) → ((id : ObjId) → c.this ≡ value.Obj id → ⊥)
    → RefinesAlgorithm s (throw_type_error (codes "not an object")) t a → RefinesAlgorithm s (error_to_string c) t a
no_error_object s c t a none refines = by c.this none
  where
    k : ObjId → Algorithm Value
    k id = get (value.Obj id) (codes "name") >>= error_after (error.Name id)

    thrown : RefinesAlgorithm s (throw_type_error (codes "not an object") >>= k) t a
    thrown = works_left_out s TypeError (codes "not an object") k t a refines

    by : (v : Value) → ((id : ObjId) → v ≡ value.Obj id → ⊥) → RefinesAlgorithm s (need_object v >>= k) t a
    by (value.Obj id) differs = absurd (differs id refl)
    by v differs = thrown

abbrev pub message_of : ObjId → List ℕ → Algorithm Value
message_of object name = get (value.Obj object) (codes "message") >>= error_after (error.Message name)

pub name_missing : (s : State) (object : ObjId) (v : Value) (name : List ℕ) (t : State) (a : Act)
    → is_undefined v ≡ true → name ≡ codes "Error" → RefinesAlgorithm s (message_of object name) t a
    → RefinesAlgorithm s (error_after (error.Name object) v) t a
name_missing s object v name t a none is refines =
    missing s t a (codes "Error") to_string v (message_of object) none
    (subst (λ x. RefinesAlgorithm s (message_of object x) t a) is refines)

pub name_waits : (s : State) (object : ObjId) (v : Value) (t : State) (a : Act) → is_undefined v ≡ false
    → RefinesAlgorithm s (to_primitive string_hint v >>= progress_after
    (progress.Error (error.NamePrimitive object))) t a
    → RefinesAlgorithm s (error_after (error.Name object) v) t a
name_waits s object v t a given refines =
    there s t a (codes "Error") to_string v (message_of object) given
    (as_string s t a v (progress_after (progress.Error (error.NamePrimitive object))) (message_of object) (λ p. refl)
    refines)

pub message_missing : (s : State) (name : List ℕ) (v : Value) (message : List ℕ) (t : State) (a : Act)
    → is_undefined v ≡ true → message ≡ [] → RefinesAlgorithm s (name_and_message name message) t a
    → RefinesAlgorithm s (error_after (error.Message name) v) t a
message_missing s name v message t a none is refines =
    missing s t a [] to_string v (name_and_message name) none
    (subst (λ x. RefinesAlgorithm s (name_and_message name x) t a) is refines)

pub message_waits : (s : State) (name : List ℕ) (v : Value) (t : State) (a : Act) → is_undefined v ≡ false
    → RefinesAlgorithm s (to_primitive string_hint v >>= progress_after
    (progress.Error (error.MessagePrimitive name))) t a
    → RefinesAlgorithm s (error_after (error.Message name) v) t a
message_waits s name v t a given refines =
    there s t a [] to_string v (name_and_message name) given
    (as_string s t a v (progress_after (progress.Error (error.MessagePrimitive name))) (name_and_message name)
    (λ p. refl) refines)
