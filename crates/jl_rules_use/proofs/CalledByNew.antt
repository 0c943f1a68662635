-- What late-prototype remembers are the callees that were called by `new`.
use Rattle.std.proofs.Common.{◌≡◌, ℕ, Bool, true, false, ◌||◌, ◌&&◌, nat_eq, List, [], ◌∷◌, ◌++◌, map, refl, sym}
use Rattle.std.proofs.Common.{ap, ◌∙◌, if◌then◌else◌}
use Rattle.std.proofs.Math.Bool.{or_assoc, or-false}
use Rattle.std.proofs.lemmas.Bool.{eqb-true}
use Rattle.std.proofs.lemmas.List.{map-append}
use Rattle.std.proofs.lemmas.List.Folds.{list_any-append}
use Rattle.std.proofs.lemmas.List.Sums.{fold-append}
use Rattle.std.specs.Prelude.{fold, ◌==◌}
use Rattle.std.specs.List.{list_any}
use Rattle.indexmap.specs.IndexSet.{insert_key}
use Rattle.jl_op.specs.declared.op.Op.{Op}
use Rattle.jl_op.specs.declared.op.Op.TheVariants as ops
use Rattle.jl_value.specs.declared.value.Value.{Value}
use Rattle.jl_value.specs.declared.value.Value.TheVariants as values
use Rattle.jl_analysis.specs.Memories.{Memory, noted_once, called_by_new}
use Rattle.jl_analysis.specs.Rules.{rules, hit, memory_of}
use Rattle.jl_analysis.specs.UseRules.{makes_by, is_prototype_of_function}
use Rattle.jl_analysis.specs.Values.{is_object_at}
use Rattle.jl_rules_use.specs.inner.Remembered.{was_called, sets_late}

-- the place is remembered
abbrev has : ℕ → Memory → Bool
has place memory = list_any (λ x. place == x.0) memory

-- what is remembered as a set of places
abbrev pub places : List ℕ → Memory
places keys = map (λ place. (place, 0)) keys

-- a place is remembered where it is in the set
pub has-places : (place : ℕ) (keys : List ℕ) → list_any (nat_eq place) keys ≡ has place (places keys)
has-places place [] = refl
has-places place (key ∷ keys) = ap (λ b. nat_eq place key || b) (has-places place keys)

-- and a new one goes last
pub places-insert_key : (keys : List ℕ) (place : ℕ)
    → places (insert_key nat_eq keys place) ≡ noted_once (places keys) place
places-insert_key keys place = by (list_any (nat_eq place) keys) (has-places place keys)
  where
    by : (b : Bool) → b ≡ has place (places keys)
        → places (if b then keys else keys ++ place ∷ []) ≡ noted_once (places keys) place
    by true e = ap (λ b. if b then places keys else places keys ++ (place, 0) ∷ []) e
    by false e =
        map-append (λ place. (place, 0)) keys (place ∷ [])
        ∙ ap (λ b. if b then places keys else places keys ++ (place, 0) ∷ []) e

pub ruleset as_places = (has-places, places-insert_key)

-- the operation calls this place by `new`
abbrev calls_by_new : ℕ → Op → Bool
calls_by_new place op = makes_by (values.Obj (record { 0 = place })) op

-- nothing is new where a place is noted that is remembered
nothing_new : (memory : Memory) (place callee : ℕ) (same : Bool) → has callee memory ≡ true → (place == callee) ≡ same
    → has place memory ≡ (has place memory || same)
nothing_new memory place callee false known e = sym (or-false (has place memory))
nothing_new memory place callee true known e =
    let there : has place memory ≡ true = ap (λ p. has p memory) (eqb-true place callee e) ∙ known in
    there ∙ ap (λ b. b || true) (sym there)

-- what is remembered once a place is noted
has-noted_once : (memory : Memory) (place callee : ℕ)
    → has place (noted_once memory callee) ≡ (has place memory || (place == callee))
has-noted_once memory place callee = by (has callee memory) refl
  where
    by : (b : Bool) → has callee memory ≡ b
        → has place (if b then memory else memory ++ (callee, 0) ∷ []) ≡ (has place memory || (place == callee))
    by true known = nothing_new memory place callee (place == callee) known refl
    by false unknown =
        list_any-append (λ x. place == x.0) memory ((callee, 0) ∷ [])
        ∙ ap (λ b. has place memory || b) (or-false (place == callee))

has-called_by_new : (memory : Memory) (place : ℕ) (op : Op)
    → has place (called_by_new memory op) ≡ (has place memory || calls_by_new place op)
has-called_by_new memory place (ops.InvokePre callee target this args true) = has-noted_once memory place callee.0
has-called_by_new memory place _ = sym (or-false (has place memory))

-- from any memory on
called_on : (told : List Op) (memory : Memory) (place : ℕ)
    → has place (fold called_by_new memory told) ≡ (has place memory || list_any (calls_by_new place) told)
called_on [] memory place = sym (or-false (has place memory))
called_on (op ∷ told) memory place =
    called_on told (called_by_new memory op) place
    ∙ ap (λ b. b || list_any (calls_by_new place) told) (has-called_by_new memory place op)
    ∙ or_assoc (has place memory) (calls_by_new place op) (list_any (calls_by_new place) told)

-- the rule remembers the places that were called by `new`
pub called_all : (told : List Op) (place : ℕ)
    → list_any (λ x. place == x.0) (memory_of 15 told) ≡ list_any (calls_by_new place) told
unfolding rules memory_of
called_all told place = called_on told [] place

-- what is no object is not called
makes_by-none : (value : Value) → ((place : ℕ) → is_object_at value place ≡ false) → (op : Op)
    → false ≡ makes_by value op
makes_by-none value none (ops.InvokePre callee target this args true) = sym (none callee.0)
makes_by-none value none _ = refl

list_any-none : (value : Value) → ((place : ℕ) → is_object_at value place ≡ false) → (told : List Op)
    → false ≡ list_any (makes_by value) told
list_any-none value none [] = refl
list_any-none value none (op ∷ told) =
    list_any-none value none told ∙ ap (λ b. b || list_any (makes_by value) told) (makes_by-none value none op)

was_called-all : (told : List Op) (value : Value)
    → was_called (memory_of 15 told) value ≡ list_any (makes_by value) told
was_called-all told (values.Obj id) = called_all told id.0
was_called-all told value = list_any-none value (λ place. refl) told

-- where the rule hits, by what it remembers
pub late_as_remembered : (told : List Op) (op : Op) (memory : Memory) → memory ≡ memory_of 15 told
    → sets_late memory op ≡ hit 15 told op
unfolding rules hit
late_as_remembered told (ops.PutField base name value found) memory is =
    ap (λ b. is_prototype_of_function base name && b)
    (ap (λ m. was_called m base.value) is ∙ was_called-all told base.value)
late_as_remembered told _ memory is = refl

-- what it remembers after one more operation
pub called_more : (told : List Op) (op : Op) (memory later : Memory) → memory ≡ memory_of 15 told
    → later ≡ called_by_new memory op → later ≡ memory_of 15 (told ++ op ∷ [])
unfolding rules memory_of
called_more told op memory later is later_is =
    later_is ∙ ap (λ m. called_by_new m op) is ∙ sym (fold-append called_by_new [] told (op ∷ []))

pub ruleset remembering = (late_as_remembered, called_more)
