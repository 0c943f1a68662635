-- The fields of a property descriptor, one after another (8.10.5).
use Rattle.std.proofs.Common.{◌≡◌, ◌∙◌, ap, codes, false, refl, subst, sym, true, Bool, None, Option, Some}
use Rattle.std.specs.Prelude.{if◌then◌else◌, not, option_map, ◌&&◌}
use mathlib.Core.Path.{fun_ext}
use Rattle.jl_value.specs.Tests.{is_undefined}
use Rattle.jl_value.specs.declared.ending.Completion.TheVariants as completion
use Rattle.jl_value.specs.declared.error_kind.ErrorKind.TheVariants.{TypeError}
use Rattle.jl_value.specs.declared.object.ObjId.{ObjId}
use Rattle.jl_value.specs.declared.value.Value.{Value}
use Rattle.jl_value.specs.declared.value.Value.TheVariants as value
use Rattle.jl_conv.specs.Conversions.{truth_of}
use Rattle.jl_heap.specs.Define.{IsOneKind}
use Rattle.jl_heap.specs.Objects.{Name}
use Rattle.jl_heap.specs.Property.{is_accessor, is_data, no_change}
use Rattle.jl_heap.specs.declared.property.Change.{Change}
use Rattle.jl_effects.specs.Running.{Ends, Finish}
use Rattle.jl_meaning.specs.Errors.{throw_type_error}
use Rattle.jl_meaning.specs.Getting.{get}
use Rattle.jl_meaning.specs.Parts.{give, gives, ◌>>=◌, Algorithm, AlgorithmFault}
use Rattle.jl_meaning.specs.Parts as parts
use Rattle.jl_meaning.specs.Properties.{has_property}
use Rattle.jl_meaning.specs.Store.{Store}
use Rattle.jl_meaning.specs.builtins.Arguments.{need_function, need_object}
use Rattle.jl_meaning.specs.builtins.Descriptors.{accessor_field, accessor_of, field, get_if, of_one_kind}
use Rattle.jl_meaning.specs.builtins.Descriptors.{to_property_descriptor, truth_field}
use Rattle.jl_progress.specs.Objects.{after_descriptor, change_from_configurable, change_from_enumerable}
use Rattle.jl_progress.specs.Objects.{change_from_get}
use Rattle.jl_progress.specs.Objects.{change_from_set, change_from_value, change_from_writable, object_after}
use Rattle.jl_progress.specs.declared.object.DescriptorField.{DescriptorField}
use Rattle.jl_progress.specs.declared.object.DescriptorField.TheVariants as field_of
use Rattle.jl_progress.specs.declared.object.DescriptorUse.{DescriptorUse}
use Rattle.jl_progress.specs.declared.object.ObjectProgress.TheVariants as object
use Rattle.jl_store.specs.Answers.{ends_with}
use Rattle.jl_store.specs.BigStep.{BigStep}
use Rattle.jl_store.specs.declared.answer.Answer.{Answer}
use Rattle.jl_store.specs.declared.answer.Answer.TheVariants.{Gives, Throws}
use Rattle.jl_store.proofs.Steps.{comes_to}
use Rattle.jl_state.specs.Rest.{RefinesAlgorithm}
use Rattle.jl_state.specs.declared.act.Act.{Act}
use Rattle.jl_state.specs.declared.act.Act.TheVariants as act
use Rattle.jl_state.specs.declared.state.State.{State}
use Rattle.jl_meaning.proofs.Binds.{bind_assoc}
use Rattle.jl_algorithm.proofs.Throwing.{works_left_out}
use Rattle.jl_lib_object.specs.inner.Fields.{change_from, field_name, function_or_undefined, next_field, with_field}
use Rattle.jl_lib_object.specs.inner.Fields.{without_field}
use Rattle.jl_lib_object.proofs.Ends.{goes_on, throws_on}

-- one field, and what is done with it

module _ (s : State) (d : ObjId) (x : Name) (r : Option Value → Algorithm Value) (t : State) (a : Act) (has : Bool)
    (is : has ≡ has_property s.store d.0 x) where
  skips_field : has ≡ false → RefinesAlgorithm s (r None) t a → RefinesAlgorithm s (field d x >>= r) t a
  skips_field none refines =
      record { is = (subst (λ b. RefinesAlgorithm s (get_if b d x >>= r) t a) (sym none ∙ is) refines).is }

  gets_field : (k : Value → Algorithm Value) → ((v : Value) → k v ≡ r (Some v)) → has ≡ true
      → RefinesAlgorithm s (get (value.Obj d) x >>= k) t a → RefinesAlgorithm s (field d x >>= r) t a
  gets_field k same there refines = record {
    is = (subst (λ b. RefinesAlgorithm s (get_if b d x >>= r) t a) (sym there ∙ is)
        (subst (λ q. RefinesAlgorithm s q t a)
        (ap (λ (g : Value → Algorithm Value). get (value.Obj d) x >>= g) (fun_ext same)
        ∙ sym (bind_assoc (get (value.Obj d) x) (λ v. give (Some v)) r)) refines)).is;
  }

-- the continuations of fields

module _ (d : ObjId) (x : Name) (r : Option Value → Algorithm Value) (k : Change → Algorithm Value) where
  truth_is : (q : Option Bool → Algorithm Change)
      → ((v : Option Value) → r v ≡ (q (option_map truth_of v) >>= k))
      → (field d x >>= r) ≡ (truth_field d x >>= q >>= k)
  truth_is q same =
      ap (λ (g : Option Value → Algorithm Value). field d x >>= g) (fun_ext same)
      ∙ sym (bind_assoc (field d x) (λ v. give (option_map truth_of v)) (λ e. q e >>= k))
      ∙ sym (bind_assoc (truth_field d x) q k)

  plain_is : (q : Option Value → Algorithm Change) → ((v : Option Value) → r v ≡ (q v >>= k))
      → (field d x >>= r) ≡ (field d x >>= q >>= k)
  plain_is q same =
      ap (λ (g : Option Value → Algorithm Value). field d x >>= g) (fun_ext same) ∙ sym (bind_assoc (field d x) q k)

  accessor_is : (q : Option (Option ObjId) → Algorithm Change)
      → ((v : Option Value) → r v ≡ (accessor_of v >>= λ f. q f >>= k))
      → (field d x >>= r) ≡ (accessor_field d x >>= q >>= k)
  accessor_is q same =
      ap (λ (g : Option Value → Algorithm Value). field d x >>= g) (fun_ext same)
      ∙ sym (bind_assoc (field d x) (λ v. accessor_of v) (λ f. q f >>= k))
      ∙ sym (bind_assoc (accessor_field d x) q k)

-- a getter or a setter that is there

accessor_there : (v : Value) → (function_or_undefined v >>= λ f. give (Some f)) ≡ accessor_of (Some v)
accessor_there value.Undefined = refl
accessor_there value.Null = bind_assoc (need_function value.Null) (λ f. give (Some f)) (λ f. give (Some f))
accessor_there (value.Bool b) = bind_assoc (need_function (value.Bool b)) (λ f. give (Some f)) (λ f. give (Some f))
accessor_there (value.Num n) = bind_assoc (need_function (value.Num n)) (λ f. give (Some f)) (λ f. give (Some f))
accessor_there (value.Text x) = bind_assoc (need_function (value.Text x)) (λ f. give (Some f)) (λ f. give (Some f))
accessor_there (value.Obj id) = bind_assoc (need_function (value.Obj id)) (λ f. give (Some f)) (λ f. give (Some f))

accessor_given : (v : Value) (c : Option ObjId → Change) (l : Change → Algorithm Value)
    (h : Option (Option ObjId) → Algorithm Value) → ((f : Option ObjId) → l (c f) ≡ h (Some f))
    → (function_or_undefined v >>= (λ f. give (c f)) >>= l) ≡ (accessor_of (Some v) >>= h)
accessor_given v c l h same =
    bind_assoc (function_or_undefined v) (λ f. give (c f)) l
    ∙ ap (λ (g : Option ObjId → Algorithm Value). function_or_undefined v >>= g) (fun_ext same)
    ∙ sym (bind_assoc (function_or_undefined v) (λ f. give (Some f)) h)
    ∙ ap (λ (p : Algorithm (Option (Option ObjId))). p >>= h) (accessor_there v)

-- all fields

module _ (d : ObjId) (change : Change) (purpose : DescriptorUse) where
  abbrev later : Option DescriptorField → Change → Algorithm Value
  later next c = change_from next d c >>= after_descriptor purpose

  abbrev given_field : DescriptorField → Option Value → Algorithm Value
  given_field which None = later (next_field which) (without_field which change)
  given_field which (Some v) = with_field which v change >>= later (next_field which)

  truth_given : (which : DescriptorField) (q : Option Bool → Algorithm Change)
      → given_field which None ≡ (q None >>= after_descriptor purpose)
      → ((v : Value) → given_field which (Some v) ≡ (q (Some (truth_of v)) >>= after_descriptor purpose))
      → (v : Option Value) → given_field which v ≡ (q (option_map truth_of v) >>= after_descriptor purpose)
  truth_given which q none some None = none
  truth_given which q none some (Some v) = some v

  value_given : (v : Option Value) → given_field field_of.Value v
      ≡ (change_from_writable d (record change { value = v }) >>= after_descriptor purpose)
  value_given None = refl
  value_given (Some v) = refl

  getter_given : (v : Option Value) → given_field field_of.Get v
      ≡ (accessor_of v >>= λ f. change_from_set d (record change { get = f }) >>= after_descriptor purpose)
  getter_given None = refl
  getter_given (Some v) =
      accessor_given v (λ f. record change { get = Some f }) (later (Some field_of.Set))
      (λ f. change_from_set d (record change { get = f }) >>= after_descriptor purpose) (λ f. refl)

  setter_given : (v : Option Value) → given_field field_of.Set v
      ≡ (accessor_of v >>= λ f. of_one_kind (record change { set = f }) >>= after_descriptor purpose)
  setter_given None = refl
  setter_given (Some v) =
      accessor_given v (λ f. record change { set = Some f }) (later None)
      (λ f. of_one_kind (record change { set = f }) >>= after_descriptor purpose) (λ f. refl)

  fields_are : (which : DescriptorField)
      → (field d (field_name which) >>= given_field which) ≡ later (Some which) change
  fields_are field_of.Enumerable =
      truth_is d (field_name field_of.Enumerable) (given_field field_of.Enumerable) (after_descriptor purpose)
      (λ e. change_from_configurable d (record change { enumerable = e }))
      (truth_given field_of.Enumerable (λ e. change_from_configurable d (record change { enumerable = e })) refl
      (λ v. refl))
  fields_are field_of.Configurable =
      truth_is d (field_name field_of.Configurable) (given_field field_of.Configurable) (after_descriptor purpose)
      (λ e. change_from_value d (record change { configurable = e }))
      (truth_given field_of.Configurable (λ e. change_from_value d (record change { configurable = e })) refl
      (λ v. refl))
  fields_are field_of.Value =
      plain_is d (field_name field_of.Value) (given_field field_of.Value) (after_descriptor purpose)
      (λ v. change_from_writable d (record change { value = v })) value_given
  fields_are field_of.Writable =
      truth_is d (field_name field_of.Writable) (given_field field_of.Writable) (after_descriptor purpose)
      (λ e. change_from_get d (record change { writable = e }))
      (truth_given field_of.Writable (λ e. change_from_get d (record change { writable = e })) refl (λ v. refl))
  fields_are field_of.Get =
      accessor_is d (field_name field_of.Get) (given_field field_of.Get) (after_descriptor purpose)
      (λ f. change_from_set d (record change { get = f })) getter_given
  fields_are field_of.Set =
      accessor_is d (field_name field_of.Set) (given_field field_of.Set) (after_descriptor purpose)
      (λ f. of_one_kind (record change { set = f })) setter_given

  -- a field that was got
  after_is : (which : DescriptorField) (v : Value)
      → object_after (object.Field which d change purpose) v ≡ given_field which (Some v)
  after_is field_of.Enumerable v = refl
  after_is field_of.Configurable v = refl
  after_is field_of.Value v = refl
  after_is field_of.Writable v = refl
  after_is field_of.Get v =
      bind_assoc (accessor_of (Some v)) (λ f. change_from_set d (record change { get = f })) (after_descriptor purpose)
      ∙ sym (getter_given (Some v))
  after_is field_of.Set v =
      bind_assoc (accessor_of (Some v)) (λ f. of_one_kind (record change { set = f })) (after_descriptor purpose)
      ∙ sym (setter_given (Some v))

  -- a field that is there is got
  pub field_there : (s : State) (which : DescriptorField) (next : Option DescriptorField) (has : Bool) (t : State)
      (a : Act) → next ≡ Some which → has ≡ has_property s.store d.0 (field_name which) → has ≡ true
      → RefinesAlgorithm s (get (value.Obj d) (field_name which) >>= object_after
      (object.Field which d change purpose)) t a
      → RefinesAlgorithm s (later next change) t a
  field_there s which next has t a here is there refines =
      subst (λ n. RefinesAlgorithm s (later n change) t a) (sym here)
      (subst (λ p. RefinesAlgorithm s p t a) (fields_are which)
      (gets_field s d (field_name which) (given_field which) t a has is
      (object_after (object.Field which d change purpose)) (after_is which) there refines))

  -- and one that isn't is passed over
  pub field_absent : (s : State) (which : DescriptorField) (next following : Option DescriptorField) (has : Bool)
      (less : Change) (t : State) (a : Act) → next ≡ Some which
      → has ≡ has_property s.store d.0 (field_name which) → has ≡ false → less ≡ without_field which change
      → following ≡ next_field which → RefinesAlgorithm s (later following less) t a
      → RefinesAlgorithm s (later next change) t a
  field_absent s which next following has less t a here is absent less_is following_is refines =
      subst (λ n. RefinesAlgorithm s (later n change) t a) (sym here)
      (subst (λ p. RefinesAlgorithm s p t a) (fields_are which)
      (skips_field s d (field_name which) (given_field which) t a has is absent
      (subst (λ n. RefinesAlgorithm s (later n (without_field which change)) t a) following_is
      (subst (λ c. RefinesAlgorithm s (later following c) t a) less_is refines))))

  -- what follows a field that was got
  pub field_got : (s : State) (which : DescriptorField) (v : Value) (t : State) (a : Act)
      → RefinesAlgorithm s (with_field which v change >>= later (next_field which)) t a
      → RefinesAlgorithm s (object_after (object.Field which d change purpose) v) t a
  field_got s which v t a refines = subst (λ p. RefinesAlgorithm s p t a) (sym (after_is which v)) refines

-- the first field, of a value that is an object

module _ (s : State) (x : Store) (v : Value) (purpose : DescriptorUse) (answer : Answer ObjId)
    (comes : BigStep (need_object v) s.store x (ends_with answer)) where
  abbrev from_first : ObjId → Algorithm Value
  from_first d = change_from (Some field_of.Enumerable) d no_change >>= after_descriptor purpose

  from_first_is : (need_object v >>= from_first) ≡ (to_property_descriptor v >>= after_descriptor purpose)
  from_first_is =
      sym (bind_assoc (need_object v) (λ d. change_from_enumerable d no_change) (after_descriptor purpose))

  pub first_read : (d : ObjId) (none : Change) (t : State) (a : Act) → answer ≡ Gives d → none ≡ no_change
      → RefinesAlgorithm (record s { store = x }) (later d none purpose (Some field_of.Enumerable) none) t a
      → RefinesAlgorithm s (to_property_descriptor v >>= after_descriptor purpose) t a
  first_read d none t a is none_is refines =
      subst (λ p. RefinesAlgorithm s p t a) from_first_is
      (goes_on s x (need_object v) from_first answer comes d t a is
      (subst (λ c. RefinesAlgorithm (record s { store = x })
      (later d c purpose (Some field_of.Enumerable) c) t a) none_is refines))

  pub first_thrown : (w : Value) → answer ≡ Throws w
      → RefinesAlgorithm s (to_property_descriptor v >>= after_descriptor purpose) (record s { store = x })
      (act.Complete (completion.Throw w))
  first_thrown w is =
      subst (λ p. RefinesAlgorithm s p (record s { store = x }) (act.Complete (completion.Throw w))) from_first_is
      (throws_on s x (need_object v) from_first answer comes w is)

-- the field after one
pub next_read : (s : State) (which : DescriptorField) (next : Option DescriptorField) (d : ObjId) (change : Change)
    (purpose : DescriptorUse) (t : State) (a : Act) → next ≡ next_field which
    → RefinesAlgorithm s (change_from next d change >>= after_descriptor purpose) t a
    → RefinesAlgorithm s (change_from (next_field which) d change >>= after_descriptor purpose) t a
next_read s which next d change purpose t a is refines =
    subst (λ n. RefinesAlgorithm s (change_from n d change >>= after_descriptor purpose) t a) is refines

-- a value that may be undefined

pub undefined_read : (s : Store) (v : Value) → is_undefined v ≡ true
    → BigStep (function_or_undefined v) s s (Ends (gives None))
undefined_read s value.Undefined is = comes_to
undefined_read s value.Null is = absurd (let differ = is in cc)
undefined_read s (value.Bool b) is = absurd (let differ = is in cc)
undefined_read s (value.Num n) is = absurd (let differ = is in cc)
undefined_read s (value.Text x) is = absurd (let differ = is in cc)
undefined_read s (value.Obj id) is = absurd (let differ = is in cc)

pub function_read : (s t : Store) (v : Value) (e : Finish AlgorithmFault (parts.Answer (Option ObjId)))
    → is_undefined v ≡ false → BigStep (need_function v >>= λ f. give (Some f)) s t e
    → BigStep (function_or_undefined v) s t e
function_read s t value.Undefined e is comes = absurd (let differ = is in cc)
function_read s t value.Null e is comes = comes
function_read s t (value.Bool b) e is comes = comes
function_read s t (value.Num n) e is comes = comes
function_read s t (value.Text x) e is comes = comes
function_read s t (value.Obj id) e is comes = comes

-- a change with a field that is there

module _ (s : Store) (which : DescriptorField) (v : Value) (change : Change) (b : Bool) where
  pub enumerable_given : which ≡ field_of.Enumerable → b ≡ truth_of v
      → BigStep (with_field which v change) s s (Ends (gives (record change { enumerable = Some b })))
  enumerable_given is told =
      subst (λ w. BigStep (with_field w v change) s s (Ends (gives (record change { enumerable = Some b })))) (sym is)
      (subst (λ c. BigStep (with_field field_of.Enumerable v change) s s
      (Ends (gives (record change { enumerable = Some c })))) (sym told) comes_to)

  pub configurable_given : which ≡ field_of.Configurable → b ≡ truth_of v
      → BigStep (with_field which v change) s s (Ends (gives (record change { configurable = Some b })))
  configurable_given is told =
      subst (λ w. BigStep (with_field w v change) s s (Ends (gives (record change { configurable = Some b })))) (sym is)
      (subst (λ c. BigStep (with_field field_of.Configurable v change) s s
      (Ends (gives (record change { configurable = Some c })))) (sym told) comes_to)

  pub writable_given : which ≡ field_of.Writable → b ≡ truth_of v
      → BigStep (with_field which v change) s s (Ends (gives (record change { writable = Some b })))
  writable_given is told =
      subst (λ w. BigStep (with_field w v change) s s (Ends (gives (record change { writable = Some b })))) (sym is)
      (subst (λ c. BigStep (with_field field_of.Writable v change) s s
      (Ends (gives (record change { writable = Some c })))) (sym told) comes_to)

pub value_got : (s : Store) (which : DescriptorField) (v : Value) (change : Change) → which ≡ field_of.Value
    → BigStep (with_field which v change) s s (Ends (gives (record change { value = Some v })))
value_got s which v change is =
    subst (λ w. BigStep (with_field w v change) s s (Ends (gives (record change { value = Some v })))) (sym is) comes_to

-- no field is left
pub none_left : (s : State) (next : Option DescriptorField) (d : ObjId) (change : Change) (purpose : DescriptorUse)
    (t : State) (a : Act) → next ≡ None → RefinesAlgorithm s (of_one_kind change >>= after_descriptor purpose) t a
    → RefinesAlgorithm s (change_from next d change >>= after_descriptor purpose) t a
none_left s next d change purpose t a none refines =
    subst (λ n. RefinesAlgorithm s (change_from n d change >>= after_descriptor purpose) t a) (sym none) refines

-- a change of one kind, and one that is not
pub one_kind : (s : State) (change : Change) (purpose : DescriptorUse) (t : State) (a : Act)
    → (is_data change && is_accessor change) ≡ false → RefinesAlgorithm s (after_descriptor purpose change) t a
    → RefinesAlgorithm s (of_one_kind change >>= after_descriptor purpose) t a
one_kind s change purpose t a is refines =
    subst (λ b. RefinesAlgorithm s ((if b then throw_type_error (codes "bad descriptor") else give change)
    >>= after_descriptor purpose) t a) (sym is) refines

pub two_kinds : (s : State) (change : Change) (purpose : DescriptorUse) (t : State) (a : Act)
    → (is_data change && is_accessor change) ≡ true → RefinesAlgorithm s (throw_type_error (codes "bad descriptor")) t a
    → RefinesAlgorithm s (of_one_kind change >>= after_descriptor purpose) t a
two_kinds s change purpose t a is refines =
    subst (λ b. RefinesAlgorithm s ((if b then throw_type_error (codes "bad descriptor") else give change)
    >>= after_descriptor purpose) t a) (sym is)
    (works_left_out s TypeError (codes "bad descriptor") (after_descriptor purpose) t a refines)

pub one_kind_is : (change : Change) → (is_data change && is_accessor change) ≡ false → IsOneKind change
one_kind_is change is = ap not is
