-- indexOf and lastIndexOf: where they begin, and their turns.
use Rattle.std.proofs.Common.{◌≡◌, ◌+◌, ◌-◌, ◌∙◌, ap, arith, false, refl, subst, suc, sym, true, zero}
use Rattle.std.proofs.Common.{Bool, List, None, Option, Some, ℕ}
use Rattle.std.specs.Prelude.{if◌then◌else◌, slice_get}
use Rattle.jl_value.specs.declared.object.ObjId.{ObjId}
use Rattle.jl_value.specs.declared.value.Value.{Value}
use Rattle.jl_conv.specs.Comparisons.{strictly_equal}
use Rattle.jl_effects.specs.Effects.{Step}
use Rattle.jl_meaning.specs.Conversions.{to_integer}
use Rattle.jl_meaning.specs.Parts.{give, ◌>>=◌, Algorithm}
use Rattle.jl_meaning.specs.builtins.Array.{integer_or, match_index, match_turn}
use Rattle.jl_meaning.specs.builtins.Elements.{element, index_or_none}
use Rattle.jl_meaning.specs.builtins.Turns.{first_downward, first_upward, or_next}
use Rattle.jl_progress.specs.ArrayCalls.{argument_of, first_place, found_from, next_place, place_from, search}
use Rattle.jl_progress.specs.ArrayCalls.{search_from}
use Rattle.jl_progress.specs.ArrayCalls.{search_with, usual_from}
use Rattle.jl_progress.specs.declared.array_call.Direction.{Direction}
use Rattle.jl_progress.specs.declared.array_call.Direction.TheVariants as direction
use Rattle.jl_state.specs.Rest.{RefinesAlgorithm}
use Rattle.jl_state.specs.Steps.{RanOut, Took}
use Rattle.jl_state.specs.declared.act.Act.{Act}
use Rattle.jl_state.specs.declared.act.Act.TheVariants as act
use Rattle.jl_state.specs.declared.state.State.{State}
use Rattle.jl_meaning.proofs.Binds.{bind_assoc}
use Rattle.jl_lib_array.specs.inner.Places.{index_at}
use Rattle.jl_lib_array.proofs.PlaceTurns.{first_downward_turn, first_upward_over, first_upward_turn}

-- how a search begins

pub nothing_to_search : (s : State) (d : Direction) (o : ObjId) (length : ℕ) (args : List Value) (v : Value)
    → length ≡ 0 → v ≡ index_or_none None → RefinesAlgorithm s (search d o length args) s (act.Give v)
nothing_to_search s d o length args v none is =
    subst (λ n. RefinesAlgorithm s (search d o n args) s (act.Give v)) (sym none)
    (subst (λ w. RefinesAlgorithm s (give w) s (act.Give v)) is (record { is = λ kept told. refl }))

usual_place : (d : Direction) (n : ℕ) → place_from d (usual_from d (suc n)) (suc n) ≡ first_place d (suc n)
usual_place direction.Up n = omega arith
usual_place direction.Down n = omega arith

pub searches_all : (s : State) (d : Direction) (o : ObjId) (length : ℕ) (args : List Value) (x : Value) (at : ℕ)
    (t : State) (a : Act) → (length ≡ 0 → ⊥) → slice_get args 1 ≡ None → x ≡ argument_of args 0
    → at ≡ first_place d length → RefinesAlgorithm s (search_from d o length x at) t a
    → RefinesAlgorithm s (search d o length args) t a
searches_all s d o zero args x at t a some none is place refines = absurd (some refl)
searches_all s d o (suc n) args x at t a some none is place refines = with (slice_get args 1) none
  where
    from_start : RefinesAlgorithm s (search_from d o (suc n) (argument_of args 0)
        (place_from d (usual_from d (suc n)) (suc n))) t a
    from_start =
        subst (λ k. RefinesAlgorithm s (search_from d o (suc n) (argument_of args 0) k) t a)
        (place ∙ sym (usual_place d n))
        (subst (λ y. RefinesAlgorithm s (search_from d o (suc n) y at) t a) is refines)

    with : (v : Option Value) → v ≡ None
        → RefinesAlgorithm s (integer_or (usual_from d (suc n)) v >>= λ z.
        search_from d o (suc n) (argument_of args 0) (place_from d z (suc n))) t a
    with None e = from_start
    with (Some v) e = absurd (let differ = e in cc)

pub searches_from : (s : State) (d : Direction) (o : ObjId) (length : ℕ) (args : List Value) (x v : Value)
    (t : State) (a : Act) → (length ≡ 0 → ⊥) → slice_get args 1 ≡ Some v → x ≡ argument_of args 0
    → RefinesAlgorithm s (to_integer v >>= λ z. search_from d o length x (place_from d z length)) t a
    → RefinesAlgorithm s (search d o length args) t a
searches_from s d o zero args x v t a some there is refines = absurd (some refl)
searches_from s d o (suc n) args x v t a some there is refines =
    subst (λ (w : Option Value). RefinesAlgorithm s (integer_or (usual_from d (suc n)) w >>= λ z.
    search_from d o (suc n) (argument_of args 0) (place_from d z (suc n))) t a) (sym there)
    (subst (λ y. RefinesAlgorithm s (to_integer v >>= λ z. search_from d o (suc n) y
    (place_from d z (suc n))) t a) is refines)

-- turns

abbrev last : Option ℕ → Algorithm Value
last found = give (index_or_none found)

pub search_over : (s : State) (d : Direction) (o : ObjId) (length : ℕ) (x : Value) (at : ℕ) (v : Value)
    → index_at d at length ≡ None → v ≡ index_or_none None
    → RefinesAlgorithm s (search_from d o length x at) s (act.Give v)
search_over s d o length x at v none is =
    subst (λ p. RefinesAlgorithm s p s (act.Give v)) (sym (over d at none))
    (subst (λ w. RefinesAlgorithm s (give w) s (act.Give v)) is (record { is = λ kept told. refl }))
  where
    over : (d : Direction) (at : ℕ) → index_at d at length ≡ None
        → search_from d o length x at ≡ give (index_or_none None)
    over direction.Up at none = first_upward_over (match_turn o x) last length at none
    over direction.Down zero none = refl
    over direction.Down (suc k) none = absurd (let differ = none in cc)

pub search_begins : (d : Direction) (o : ObjId) (length : ℕ) (x : Value) (at k : ℕ) → index_at d at length ≡ Some k
    → Step (element o k >>= search_with d o length x k) ≡ search_from d o length x at
search_begins direction.Up o length x at k is =
    sym (first_upward_turn (match_turn o x) last length at k is
    ∙ ap Step (bind_assoc (element o k) (λ v. give (match_index x k v))
    (λ found. or_next (first_upward (match_turn o x) (length - (k + 1)) (k + 1)) found >>= last)))
search_begins direction.Down o length x zero k is = absurd (let differ = is in cc)
search_begins direction.Down o length x (suc n) k is = let same : n ≡ k = (let e = is in cc) in subst goal same here
  where
    goal : ℕ → Type 0
    goal m = Step (element o m >>= search_with direction.Down o length x m)
        ≡ search_from direction.Down o length x (suc n)

    here : goal n
    here =
        sym (first_downward_turn (match_turn o x) last n
        ∙ ap Step (bind_assoc (element o n) (λ v. give (match_index x n v))
        (λ found. or_next (first_downward (match_turn o x) n) found >>= last)))

-- an element that is the value, and any other

pub search_found : (s : State) (d : Direction) (o : ObjId) (length : ℕ) (x : Value) (k : ℕ) (v w : Value) (b : Bool)
    → b ≡ strictly_equal x v → b ≡ true → w ≡ index_or_none (Some k)
    → RefinesAlgorithm s (search_with d o length x k (Some v)) s (act.Give w)
search_found s d o length x k v w b is so gives =
    subst (λ (c : Bool). RefinesAlgorithm s
    (or_next (found_from d o length x (next_place d k)) (if c then Some k else None)
    >>= last) s (act.Give w)) (sym so ∙ is)
    (subst (λ y. RefinesAlgorithm s (give y) s (act.Give w)) gives (record { is = λ kept told. refl }))

pub search_passes : (s : State) (d : Direction) (o : ObjId) (length : ℕ) (x : Value) (k at : ℕ) (v : Value) (b : Bool)
    (t : State) (a : Act) → b ≡ strictly_equal x v → b ≡ false → at ≡ next_place d k
    → RefinesAlgorithm s (search_from d o length x at) t a
    → RefinesAlgorithm s (search_with d o length x k (Some v)) t a
search_passes s d o length x k at v b t a is so place refines =
    subst (λ (c : Bool). RefinesAlgorithm s
    (or_next (found_from d o length x (next_place d k)) (if c then Some k else None)
    >>= last) t a) (sym so ∙ is)
    (subst (λ n. RefinesAlgorithm s (search_from d o length x n) t a) place refines)

-- the same of states

pub search_goes_on : (s t : State) (d : Direction) (o : ObjId) (length : ℕ) (x : Value) (at k : ℕ) (u : State) (a : Act)
    → index_at d at length ≡ Some k → Took s t → RefinesAlgorithm t (element o k >>= search_with d o length x k) u a
    → RefinesAlgorithm s (search_from d o length x at) u a
search_goes_on s t d o length x at k u a is took refines =
    subst (λ p. RefinesAlgorithm s p u a) (search_begins d o length x at k is)
    (took.works (element o k >>= search_with d o length x k) u a refines)

pub search_spent : (s t : State) (d : Direction) (o : ObjId) (length : ℕ) (x : Value) (at k : ℕ)
    → index_at d at length ≡ Some k → t ≡ s → RanOut s → RefinesAlgorithm s (search_from d o length x at) t act.Spent
search_spent s t d o length x at k is same ran =
    subst (λ (v : State). RefinesAlgorithm s (search_from d o length x at) v act.Spent) (sym same)
    (subst (λ p. RefinesAlgorithm s p s act.Spent) (search_begins d o length x at k is)
    (ran.works (element o k >>= search_with d o length x k)))

pub search_misses : (s : State) (d : Direction) (o : ObjId) (length : ℕ) (x : Value) (k at : ℕ) (t : State) (a : Act)
    → at ≡ next_place d k → RefinesAlgorithm s (search_from d o length x at) t a
    → RefinesAlgorithm s (search_with d o length x k None) t a
search_misses s d o length x k at t a place refines = subst
    (λ n. RefinesAlgorithm s (search_from d o length x n) t a) place refines
