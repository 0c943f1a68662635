-- Optional values of which both are there or neither is.
use Rattle.std.proofs.Common.{◌≡◌, Option, Some, None, refl}
use Rattle.jl_command.specs.inner.Optional.{BothOrNeither}

-- there is none where the other is none
pub neither : {S T : Type 0} (relation : S → T → Type 0) (o : Option T) → BothOrNeither relation None o → o ≡ None
neither relation None m = refl
neither relation (Some t) m = absurd m

-- and one where the other is one
pub both : {S T : Type 0} (relation : S → T → Type 0) (s : S) (o : Option T) → BothOrNeither relation (Some s) o
    → (t : T) × (o ≡ Some t) × relation s t
both relation s None m = absurd m
both relation s (Some t) m = (t, refl, m)
