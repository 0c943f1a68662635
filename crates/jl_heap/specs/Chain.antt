-- Prototypes along a chain (8.6.2).
use Rattle.std.specs.Prelude.{◌≡◌, ℕ, ◌<◌, IfSome}
use Rattle.std.specs.Option.{option_and_then, option_map, option_or}
use Rattle.jl_heap.specs.Objects.{Name, Objects, object_at, own, find}

-- the prototype of each object stands at a smaller place
abbrev pub ProtosAreOlder : Objects → Type 0
ProtosAreOlder heap = (place : ℕ) → IfSome (object_at heap place).proto (λ proto. proto.0 < place)

-- the nearest property is the own one, or else the nearest one of the prototype (8.12.2)
abbrev pub FindFollowsPrototypes : Type 0
FindFollowsPrototypes =
    (heap : Objects) → ProtosAreOlder heap → (place : ℕ) (name : Name)
    → find heap place name
    ≡ option_or (option_map (λ p. (place, p)) (own heap place name))
    (option_and_then (λ proto. find heap proto.0 name) (object_at heap place).proto)
