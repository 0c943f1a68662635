-- Operations of other kinds make nothing and use nothing, so they change no row.
use Rattle.std.proofs.Common.{◌≡◌, ◌&&◌, ◌||◌, ℕ, zero, suc, Bool, true, false, List, [], ◌∷◌, ◌++◌, Option, None, Some}
use Rattle.std.proofs.Common.{append-nil, ap, if◌then◌else◌, refl, sym, ◌∙◌}
use Rattle.std.proofs.lemmas.List.Elements.{filter-append}
use Rattle.std.specs.List.{list_any}
use Rattle.std.specs.Prelude.{filter, nat_eq, option_map}
use Rattle.jl_op.specs.declared.kind.OpKind.{OpKind}
use Rattle.jl_op.specs.declared.op.Op.{Op}
use Rattle.jl_op.specs.declared.op.Op.TheVariants as ops
use Rattle.jl_op.specs.Kinds.{kind_of}
use Rattle.jl_op.specs.Operations.{Operation}
use Rattle.jl_profile.specs.Births.{Made, begins_new, births_after, born_at, born_of}
use Rattle.jl_profile.specs.Births.{is_made_after, is_profiled, is_the, keyed_births, made_after, made_by}
use Rattle.jl_profile.specs.Births.{makes, new_began, new_ends, rows_of, used_after, used_by, uses}
use Rattle.jl_profile.specs.Laws.{KindsAreEnough}

-- an operation that the profile has no eye for
record IsIdle (op : Op) : Type 0 where
  makes_none : (by_new : Bool) → made_by by_new op ≡ None
  uses_none : used_by op ≡ None
  begins_none : begins_new op ≡ false

idle : (op : Op) → is_profiled (kind_of op) ≡ false → IsIdle op
idle (ops.ArrayLiteral obj) h = absurd (cc)
idle (ops.ObjectLiteral obj) h = absurd (cc)
idle (ops.FunctionLiteral obj function) h = absurd (cc)
idle (ops.GetField base name value found) h = absurd (cc)
idle (ops.PutField base name value found) h = absurd (cc)
idle (ops.DeleteField base name deleted) h = absurd (cc)
idle (ops.InvokePre callee target this args by_new) h = absurd (cc)
idle (ops.InvokePost callee given) h = absurd (cc)
idle (ops.ForIn object) h = absurd (cc)
idle _ h = record { makes_none = λ by_new. refl; uses_none = refl; begins_none = refl }

is_false_if : (b : Bool) → (b ≡ true → ⊥) → b ≡ false
is_false_if true never = absurd (never refl)
is_false_if false never = refl

module _ (kept : OpKind → Bool) (holds : (kind : OpKind) → is_profiled kind ≡ true → kept kind ≡ true) where
  abbrev is_kept : Operation → Bool
  is_kept o = kept (kind_of o.1)

  abbrev those : List Operation → List Operation
  those observed = filter is_kept observed

  left_out : (o : Operation) → is_kept o ≡ false → IsIdle o.1
  left_out o h =
      idle o.1 (is_false_if (is_profiled (kind_of o.1)) (λ is. let both = sym (holds (kind_of o.1) is) ∙ h in cc))

  one_kept : (before : List Operation) (o : Operation) → is_kept o ≡ true
      → those before ++ o ∷ [] ≡ those (before ++ o ∷ [])
  one_kept before o h =
      ap (λ b. those before ++ (if b then o ∷ [] else [])) (sym h) ∙ sym (filter-append is_kept before (o ∷ []))

  one_left : (before : List Operation) (o : Operation) → is_kept o ≡ false
      → those before ≡ those (before ++ o ∷ [])
  one_left before o h =
      sym (append-nil (those before))
      ∙ ap (λ b. those before ++ (if b then o ∷ [] else [])) (sym h) ∙ sym (filter-append is_kept before (o ∷ []))

  any_kept : (p : Operation → Bool) → ((o : Operation) → is_kept o ≡ false → p o ≡ false)
      → (observed : List Operation) → list_any p (those observed) ≡ list_any p observed
  any_kept p passes [] = refl
  any_kept p passes (o ∷ observed) = by (is_kept o) refl (any_kept p passes observed)
    where
      by : (b : Bool) → is_kept o ≡ b → list_any p (those observed) ≡ list_any p observed
          → list_any p (if b then o ∷ those observed else those observed) ≡ (p o || list_any p observed)
      by true h rest = ap (λ b. p o || b) rest
      by false h rest = rest ∙ ap (λ b. b || list_any p observed) (sym (passes o h))

  same_began : (before : List Operation) (id : ℕ) → new_began (those before) id ≡ new_began before id
  same_began before id =
      any_kept (λ o. begins_new o.1 && nat_eq id o.0.0)
      (λ o h. ap (λ b. b && nat_eq id o.0.0) (left_out o h).begins_none) before

  same_ends : (before : List Operation) (id : ℕ) → new_ends (those before) id ≡ new_ends before id
  same_ends before zero = refl
  same_ends before (suc id) = same_began before id

  same_made : (before : List Operation) (o : Operation) → made_after (those before) o ≡ made_after before o
  same_made before o = ap (λ b. made_by b o.1) (same_ends before o.0.0)

  none_made : (before : List Operation) (o : Operation) → is_kept o ≡ false → made_after before o ≡ None
  none_made before o h = (left_out o h).makes_none (new_ends before o.0.0)

  same_makes : (before : List Operation) (object : ℕ) (o : Operation)
      → makes (those before) object o ≡ makes before object o
  same_makes before object o = ap (λ m. is_the object (option_map (λ it. it.1) m)) (same_made before o)

  none_makes : (before : List Operation) (object : ℕ) (o : Operation) → is_kept o ≡ false
      → makes before object o ≡ false
  none_makes before object o h = ap (λ m. is_the object (option_map (λ it. it.1) m)) (none_made before o h)

  made_kept : (before observed : List Operation) (object : ℕ)
      → is_made_after (those before) (those observed) object ≡ is_made_after before observed object
  made_kept before [] object = refl
  made_kept before (o ∷ observed) object = by (is_kept o) refl (made_kept (before ++ o ∷ []) observed object)
    where
      by : (b : Bool) → is_kept o ≡ b
          → is_made_after (those (before ++ o ∷ [])) (those observed) object
          ≡ is_made_after (before ++ o ∷ []) observed object
          → is_made_after (those before) (if b then o ∷ those observed else those observed) object
          ≡ (makes before object o || is_made_after (before ++ o ∷ []) observed object)
      by true h rest = λ j.
          same_makes before object o j
          || (ap (λ l. is_made_after l (those observed) object) (one_kept before o h) ∙ rest) j
      by false h rest =
          ap (λ l. is_made_after l (those observed) object) (one_left before o h) ∙ rest
          ∙ ap (λ b. b || is_made_after (before ++ o ∷ []) observed object) (sym (none_makes before object o h))

  same_born : (before : List Operation) (o : Operation) → born_at (those before) o ≡ born_at before o
  same_born before o = ap (λ m. born_of m (those before) o) (same_made before o) ∙ by (made_after before o)
    where
      by : (m : Option Made) → born_of m (those before) o ≡ born_of m before o
      by None = refl
      by (Some made) =
          ap (λ b. if b then [] else (made.1, record { id = o.0; way = made.0 }) ∷ []) (made_kept [] before made.1)

  births_kept : (before observed : List Operation)
      → births_after (those before) (those observed) ≡ births_after before observed
  births_kept before [] = refl
  births_kept before (o ∷ observed) = by (is_kept o) refl (births_kept (before ++ o ∷ []) observed)
    where
      by : (b : Bool) → is_kept o ≡ b
          → births_after (those (before ++ o ∷ [])) (those observed) ≡ births_after (before ++ o ∷ []) observed
          → births_after (those before) (if b then o ∷ those observed else those observed)
          ≡ born_at before o ++ births_after (before ++ o ∷ []) observed
      by true h rest = λ j.
          same_born before o j ++ (ap (λ l. births_after l (those observed)) (one_kept before o h) ∙ rest) j
      by false h rest =
          ap (λ l. births_after l (those observed)) (one_left before o h) ∙ rest
          ∙ ap (λ m. born_of m before o ++ births_after (before ++ o ∷ []) observed) (sym (none_made before o h))

  used_kept : (before observed : List Operation) (object : ℕ)
      → used_after (those before) (those observed) object ≡ used_after before observed object
  used_kept before [] object = refl
  used_kept before (o ∷ observed) object = by (is_kept o) refl (used_kept (before ++ o ∷ []) observed object)
    where
      uses_kept : list_any (uses object) (those observed) ≡ list_any (uses object) observed
      uses_kept = any_kept (uses object) (λ x h. ap (is_the object) (left_out x h).uses_none) observed

      by : (b : Bool) → is_kept o ≡ b
          → used_after (those (before ++ o ∷ [])) (those observed) object
          ≡ used_after (before ++ o ∷ []) observed object
          → used_after (those before) (if b then o ∷ those observed else those observed) object
          ≡ (if makes before object o then list_any (uses object) observed
          else used_after (before ++ o ∷ []) observed object)
      by true h rest = λ j.
          if same_makes before object o j then uses_kept j
          else (ap (λ l. used_after l (those observed) object) (one_kept before o h) ∙ rest) j
      by false h rest =
          ap (λ l. used_after l (those observed) object) (one_left before o h) ∙ rest
          ∙ ap (λ b. if b then list_any (uses object) observed else used_after (before ++ o ∷ []) observed object)
          (sym (none_makes before object o h))

pub kinds_enough : KindsAreEnough
kinds_enough kept holds lines rows observed = λ j.
    rows_of (λ object. used_kept kept holds [] observed object j)
    (keyed_births lines rows (births_kept kept holds [] observed j))
