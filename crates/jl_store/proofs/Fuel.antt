-- Look-ups along prototypes, environments and targets: greater bounds than there are make no difference.
use Rattle.std.proofs.Common.{◌≡◌, refl, sym, ap, ◌∙◌, ℕ, zero, suc, ◌<◌, ◌≤◌, Bool, List, Option, Some, None, arith}
use Rattle.std.proofs.lemmas.Bool.{lt-ltb, ltb-true, ne_eqb}
use Rattle.std.specs.Prelude.{false, if◌then◌else◌, nat_lt, true, ◌==◌, ◌||◌, ◌≢◌, IfSome}
use Rattle.std.specs.Option.{option_and_then, option_map_or, option_or}
use Rattle.jl_value.specs.declared.object.ObjId.{ObjId}
use Rattle.jl_value.specs.declared.value.Value.{Value}
use Rattle.jl_heap.specs.Chain.{ProtosAreOlder}
use Rattle.jl_heap.specs.Objects.{object_at, Objects}
use Rattle.jl_meaning.specs.Properties.{get_own_property, property_within}
use Rattle.jl_heap.specs.declared.inner.Inner.{Inner}
use Rattle.jl_heap.specs.declared.inner.Inner.TheVariants as inner
use Rattle.jl_meaning.specs.Relations.{is_prototype_within, target_inside, target_within}
use Rattle.jl_store.specs.Environments.{OutersAreBefore}
use Rattle.jl_meaning.specs.References.{global_reference, in_environment, reference_from, reference_within, Reference}
use Rattle.jl_meaning.specs.Store.{environment_at, has_binding, Store}
use Rattle.jl_heap.specs.declared.property.Prop.{Prop}
use Rattle.jl_heap.proofs.ChainLemmas.{along, or_none}

abbrev Before : ℕ → Option ObjId → Type 0
Before place proto = IfSome proto (λ p. p.0 < place)

-- an object at address 0 has no prototype
alone : {A : Type 0} (o : Option A) (f : ObjId → Option A) (place : ℕ) (proto : Option ObjId) → place ≤ 0
    → Before place proto
    → option_or o (option_and_then f proto) ≡ o
alone o f place None bottom none = or_none o
alone o f place (Some p) bottom below = absurd (omega (arith, below, bottom))

properties_agree : (s : Store) → ProtosAreOlder s.heap → (x : List ℕ) (m n place : ℕ) → place ≤ m → place ≤ n
    → property_within m s place x ≡ property_within n s place x
properties_agree s older x zero zero place low high = refl
properties_agree s older x zero (suc n) place low high = sym (alone _ _ place _ low (older place))
properties_agree s older x (suc m) zero place low high = alone _ _ place _ high (older place)
properties_agree s older x (suc m) (suc n) place low high =
    along _ _ _ place _ (older place) (λ p below. properties_agree s older x m n p.0 (omega arith) (omega arith))

-- the nearest property is the own one, or else the nearest one of the prototype
property_by : (s : Store) → ProtosAreOlder s.heap → (x : List ℕ) (place : ℕ)
    → property_within place s place x
    ≡ option_or (get_own_property s place x)
    (option_and_then (λ proto. property_within proto.0 s proto.0 x) (object_at s.heap place).proto)
property_by s older x zero = sym (alone _ _ 0 _ (omega arith) (older 0))
property_by s older x (suc q) =
    along _ _ _ (suc q) _ (older (suc q)) (λ p below. properties_agree s older x q p.0 p.0 (omega arith) (omega arith))

pub found_here : (s : Store) → ProtosAreOlder s.heap → (x : List ℕ) (place : ℕ) (p : Prop)
    → get_own_property s place x ≡ Some p → property_within place s place x ≡ Some p
found_here s older x place p e =
    property_by s older x place
    ∙ ap (λ o. option_or o (option_and_then (λ proto. property_within proto.0 s proto.0 x)
    (object_at s.heap place).proto)) e

pub found_further : (s : Store) → ProtosAreOlder s.heap → (x : List ℕ) (place : ℕ) (proto : Option ObjId)
    → get_own_property s place x ≡ None → (object_at s.heap place).proto ≡ proto
    → property_within place s place x ≡ option_and_then (λ p. property_within p.0 s p.0 x) proto
found_further s older x place proto none there =
    property_by s older x place
    ∙ ap (λ o. option_or o (option_and_then (λ p. property_within p.0 s p.0 x) (object_at s.heap place).proto)) none
    ∙ ap (option_and_then (λ p. property_within p.0 s p.0 x)) there

-- prototypes of one object

none_among : (f : ObjId → Bool) (place : ℕ) (proto : Option ObjId) → place ≤ 0 → Before place proto
    → false ≡ option_map_or f proto false
none_among f place None bottom none = refl
none_among f place (Some p) bottom below = absurd (omega (arith, below, bottom))

same_among : (f g : ObjId → Bool) (place : ℕ) (proto : Option ObjId) → Before place proto
    → ((p : ObjId) → p.0 < place → f p ≡ g p) → option_map_or f proto false ≡ option_map_or g proto false
same_among f g place None below same = refl
same_among f g place (Some p) below same = same p below

prototypes_agree : (heap : Objects) → ProtosAreOlder heap → (q m n place : ℕ) → place ≤ m → place ≤ n
    → is_prototype_within m heap q place ≡ is_prototype_within n heap q place
prototypes_agree heap older q zero zero place low high = refl
prototypes_agree heap older q zero (suc n) place low high = none_among _ place _ low (older place)
prototypes_agree heap older q (suc m) zero place low high = sym (none_among _ place _ high (older place))
prototypes_agree heap older q (suc m) (suc n) place low high =
    same_among _ _ place _ (older place) (λ p below.
    ap (λ b. p.0 == q || b) (prototypes_agree heap older q m n p.0 (omega arith) (omega arith)))

pub prototypes_by : (heap : Objects) → ProtosAreOlder heap → (q place : ℕ)
    → is_prototype_within place heap q place
    ≡ option_map_or (λ p. p.0 == q || is_prototype_within p.0 heap q p.0) (object_at heap place).proto false
prototypes_by heap older q zero = none_among _ 0 _ (omega arith) (older 0)
prototypes_by heap older q (suc n) =
    same_among _ _ (suc n) _ (older (suc n)) (λ p below.
    ap (λ b. p.0 == q || b) (prototypes_agree heap older q n p.0 p.0 (omega arith) (omega arith)))

-- targets of a function

test_agrees : {A : Type 0} (a b c : A) (test : Bool) → (test ≡ true → a ≡ b)
    → (if test then a else c) ≡ (if test then b else c)
test_agrees a b c true same = same refl
test_agrees a b c false same = refl

inside_agrees : (g h : ObjId → Option ObjId) (f : ObjId) (i : Inner) → ((t : ObjId) → t.0 < f.0 → g t ≡ h t)
    → target_inside g f i ≡ target_inside h f i
inside_agrees g h f (inner.Bound target this args) same =
    test_agrees (g target) (h target) None (nat_lt target.0 f.0) (λ is. same target (ltb-true target.0 f.0 is))
inside_agrees g h f inner.Nothing same = refl
inside_agrees g h f (inner.Wrapped v) same = refl
inside_agrees g h f (inner.Script number env) same = refl
inside_agrees g h f (inner.Native builtin) same = refl
inside_agrees g h f (inner.Mapped env names) same = refl

targets_agree : (heap : Objects) (m n : ℕ) (f : ObjId) → f.0 ≤ m → f.0 ≤ n
    → target_within m heap f ≡ target_within n heap f
targets_agree heap zero zero f low high = refl
targets_agree heap zero (suc n) f low high = inside_agrees _ _ f _ (λ t below. absurd (omega (arith, below, low)))
targets_agree heap (suc m) zero f low high = inside_agrees _ _ f _ (λ t below. absurd (omega (arith, below, high)))
targets_agree heap (suc m) (suc n) f low high =
    inside_agrees _ _ f _ (λ t below. targets_agree heap m n t (omega arith) (omega arith))

target_from : (heap : Objects) (n : ℕ) (f : ObjId) → f.0 ≤ n
    → target_within n heap f ≡ target_inside (λ t. target_within t.0 heap t) f (object_at heap f.0).inner
target_from heap zero f low = inside_agrees _ _ f _ (λ t below. absurd (omega (arith, below, low)))
target_from heap (suc n) f low =
    inside_agrees _ _ f _ (λ t below. targets_agree heap n t.0 t (omega arith) (omega arith))

pub target_by : (heap : Objects) (f : ObjId) (i : Inner) → (object_at heap f.0).inner ≡ i
    → target_within f.0 heap f ≡ target_inside (λ t. target_within t.0 heap t) f i
target_by heap f i is =
    target_from heap f.0 f (omega arith) ∙ ap (target_inside (λ t. target_within t.0 heap t) f) is

pub target_goes_on : (heap : Objects) (f target : ObjId) (i : Inner) → nat_lt target.0 f.0 ≡ true
    → target_within f.0 heap f ≡ (if nat_lt target.0 f.0 then target_within target.0 heap target else None)
    → target_within f.0 heap f ≡ target_within target.0 heap target
target_goes_on heap f target i is by = by ∙ ap (λ b. if b then target_within target.0 heap target else None) is

-- references from an environment on

abbrev OuterBefore : ℕ → Option ℕ → Type 0
OuterBefore env outer = IfSome outer (λ o. o < env)

no_outer : (f : ℕ → Reference) (d : Reference) (env : ℕ) (outer : Option ℕ) → env ≤ 0 → OuterBefore env outer
    → d ≡ option_map_or f outer d
no_outer f d env None bottom none = refl
no_outer f d env (Some o) bottom below = absurd (omega (arith, below, bottom))

same_outer : (f g : ℕ → Reference) (d : Reference) (env : ℕ) (outer : Option ℕ) → OuterBefore env outer
    → ((o : ℕ) → o < env → f o ≡ g o) → option_map_or f outer d ≡ option_map_or g outer d
same_outer f g d env None below same = refl
same_outer f g d env (Some o) below same = same o below

references_agree : (s : Store) → OutersAreBefore s.environments → (x : List ℕ) (m n env : ℕ) → env ≤ m → env ≤ n
    → reference_within m s env x ≡ reference_within n s env x
references_agree s before x zero zero env low high = refl
references_agree s before x zero (suc n) env low high =
    ap (reference_from s env x) (no_outer _ _ env _ low (before env))
references_agree s before x (suc m) zero env low high =
    ap (reference_from s env x) (sym (no_outer _ _ env _ high (before env)))
references_agree s before x (suc m) (suc n) env low high =
    ap (reference_from s env x)
    (same_outer _ _ _ env _ (before env) (λ o below. references_agree s before x m n o (omega arith) (omega arith)))

pub reference_by : (s : Store) → OutersAreBefore s.environments → (x : List ℕ) (env : ℕ)
    → reference_within env s env x
    ≡ reference_from s env x
    (option_map_or (λ outer. reference_within outer s outer x) (environment_at s env).outer (global_reference s x))
reference_by s before x zero = ap (reference_from s 0 x) (no_outer _ _ 0 _ (omega arith) (before 0))
reference_by s before x (suc n) =
    ap (reference_from s (suc n) x)
    (same_outer _ _ _ (suc n) _ (before (suc n))
    (λ o below. references_agree s before x n o o (omega arith) (omega arith)))

-- steps of the loops

pub prototype_goes_on : (heap : Objects) → ProtosAreOlder heap → (q place : ℕ) (p : ObjId)
    → (object_at heap place).proto ≡ Some p → p.0 ≢ q
    → is_prototype_within p.0 heap q p.0 ≡ is_prototype_within place heap q place
prototype_goes_on heap older q place p there differ =
    sym (prototypes_by heap older q place
    ∙ ap (λ o. option_map_or (λ p. p.0 == q || is_prototype_within p.0 heap q p.0) o false) there
    ∙ ap (λ b. b || is_prototype_within p.0 heap q p.0) (ne_eqb p.0 q differ))

pub bound_goes_on : (heap : Objects) (f target : ObjId) (this : Value) (args : List Value)
    → (object_at heap f.0).inner ≡ inner.Bound target this args → target.0 < f.0
    → target_within target.0 heap target ≡ target_within f.0 heap f
bound_goes_on heap f target this args is below =
    sym (target_by heap f (inner.Bound target this args) is
    ∙ ap (λ b. if b then target_within target.0 heap target else None) (lt-ltb target.0 f.0 below))

pub environment_goes_on : (s : Store) → OutersAreBefore s.environments → (x : List ℕ) (env outer : ℕ)
    → has_binding s env x ≡ false → (environment_at s env).outer ≡ Some outer
    → reference_within outer s outer x ≡ reference_within env s env x
environment_goes_on s before x env outer unbound there =
    sym (reference_by s before x env
    ∙ ap (λ b. if b then in_environment env else option_map_or (λ o. reference_within o s o x)
    (environment_at s env).outer (global_reference s x)) unbound
    ∙ ap (λ o. option_map_or (λ o. reference_within o s o x) o (global_reference s x)) there)

pub environment_here : (s : Store) → OutersAreBefore s.environments → (x : List ℕ) (env : ℕ)
    → has_binding s env x ≡ true → in_environment env ≡ reference_within env s env x
environment_here s before x env bound =
    sym (reference_by s before x env
    ∙ ap (λ b. if b then in_environment env else option_map_or (λ o. reference_within o s o x)
    (environment_at s env).outer (global_reference s x)) bound)
