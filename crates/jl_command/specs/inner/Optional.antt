-- What is related so, where there may be nothing.
use Rattle.std.specs.Prelude.{Option, Some, None}

-- either both are there, and are related so, or neither is
abbrev pub BothOrNeither : {S T : Type 0} → (S → T → Type 0) → Option S → Option T → Type 0
BothOrNeither relation None None = Unit {0}
BothOrNeither relation (Some s) (Some t) = relation s t
BothOrNeither relation _ _ = ⊥
