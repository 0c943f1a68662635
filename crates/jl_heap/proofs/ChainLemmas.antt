-- Prototypes are older, and so a look-up along them ends.
use Rattle.std.proofs.Common.{◌≡◌, refl, sym, ap, ◌∙◌, subst, ℕ, zero, suc, ◌<◌, ◌≤◌, List, Option, Some, None, arith}
use Rattle.std.specs.Prelude.{IsTrue, IfSome, slice_get}
use Rattle.std.specs.Option.{option_and_then, option_map, option_or}
use Rattle.std.proofs.lemmas.Bool.{ltb-true}
use Rattle.jl_value.specs.declared.object.ObjId.{ObjId}
use Rattle.jl_heap.specs.Chain.{ProtosAreOlder}
use Rattle.jl_heap.specs.Inside.{objects_inside, is_older, is_in_order, IsKept}
use Rattle.jl_heap.specs.Objects.{Object, Objects, object_at, own, find, find_within}
use Rattle.jl_heap.specs.declared.header.Header.{Header}
use Rattle.jl_heap.specs.declared.heap.Heap.TheInside.{Inside}
use Rattle.jl_heap.proofs.InsideLemmas.{object_at-there, object_at-past}

abbrev Before : ℕ → Option ObjId → Type 0
Before place proto = IfSome proto (λ p. p.0 < place)

before : (place : ℕ) (proto : Option ObjId) → IsTrue (is_older place proto) → Before place proto
before place None older = tt
before place (Some p) older = ltb-true p.0 place older

older_by : (a : Inside) (place : ℕ) (found : Option Header) → slice_get a.headers place ≡ found
    → IsTrue (is_in_order place found) → Before place (object_at (objects_inside a) place).proto
older_by a place None e older = subst (λ (o : Object). Before place o.proto) (sym (object_at-past a place e)) tt
older_by a place (Some h) e older =
    subst (λ (o : Object). Before place o.proto) (sym (object_at-there a place h e)) (before place h.proto older)

pub protos_are_older : (a : Inside) (heap : Objects) → IsKept a → objects_inside a ≡ heap → ProtosAreOlder heap
protos_are_older a heap kept seen =
    subst ProtosAreOlder seen (λ place. older_by a place (slice_get a.headers place) refl (kept.older place))

pub or_none : {A : Type 0} (o : Option A) → option_or o None ≡ o
or_none None = refl
or_none (Some x) = refl

-- an object at place 0 has no prototype
alone : {A : Type 0} (o : Option A) (f : ObjId → Option A) (proto : Option ObjId) → Before 0 proto
    → option_or o (option_and_then f proto) ≡ o
alone o f None none = or_none o
alone o f (Some p) below = absurd (omega (arith, below))

pub along : {A : Type 0} (o : Option A) (f g : ObjId → Option A) (place : ℕ) (proto : Option ObjId) → Before place proto
    → ((p : ObjId) → p.0 < place → f p ≡ g p) → option_or o (option_and_then f proto)
    ≡ option_or o (option_and_then g proto)
along o f g place None below same = refl
along o f g place (Some p) below same = ap (option_or o) (same p below)

-- more prototypes than there are make no difference
bounds_agree : (heap : Objects) → ProtosAreOlder heap → (name : List ℕ) (m n place : ℕ) → place ≤ m → place ≤ n
    → find_within m heap place name ≡ find_within n heap place name
bounds_agree heap older name zero zero place low high = refl
bounds_agree heap older name zero (suc n) place low high =
    sym (alone _ _ _ (subst (λ k. Before k (object_at heap place).proto) (omega arith) (older place)))
bounds_agree heap older name (suc m) zero place low high =
    alone _ _ _ (subst (λ k. Before k (object_at heap place).proto) (omega arith) (older place))
bounds_agree heap older name (suc m) (suc n) place low high =
    along _ _ _ place _ (older place) (λ p below. bounds_agree heap older name m n p.0 (omega arith) (omega arith))

-- the nearest property is the own one, or else the nearest one of the prototype
pub find_on : (heap : Objects) → ProtosAreOlder heap → (name : List ℕ) (place : ℕ)
    → find heap place name
    ≡ option_or (option_map (λ p. (place, p)) (own heap place name))
    (option_and_then (λ proto. find heap proto.0 name) (object_at heap place).proto)
find_on heap older name zero = sym (alone _ _ _ (older 0))
find_on heap older name (suc q) =
    along _ _ _ (suc q) _ (older (suc q))
    (λ p below. bounds_agree heap older name q p.0 p.0 (omega arith) (omega arith))

pub find_goes_on : (heap : Objects) → ProtosAreOlder heap → (name : List ℕ) (place : ℕ) (proto : ObjId)
    → own heap place name ≡ None → (object_at heap place).proto ≡ Some proto → find heap place name
    ≡ find heap proto.0 name
find_goes_on heap older name place proto none there =
    find_on heap older name place
    ∙ ap (λ o. option_or (option_map (λ p. (place, p)) o)
    (option_and_then (λ p. find heap p.0 name) (object_at heap place).proto)) none
    ∙ ap (option_and_then (λ p. find heap p.0 name)) there
