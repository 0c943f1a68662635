-- How operations come into the trace: the script performs them, or hooks emit them. A form and its hook do the same
-- but for this, so that what they share is written once, with how it is noted as an argument.
use Rattle.std.specs.Prelude.{None, Option, Some, ℕ}
use Rattle.jl_value.specs.declared.ending.Fault.TheVariants.{Misuse}
use Rattle.jl_value.specs.declared.value.Seen.{Seen}
use Rattle.jl_value.specs.declared.value.Value.{Value}
use Rattle.jl_heap.specs.Describe.{seen_of}
use Rattle.jl_heap.specs.Objects.{Objects}
use Rattle.jl_op.specs.Operations.{Operation}
use Rattle.jl_op.specs.declared.op.Op.{Op}
use Rattle.jl_effects.specs.Effects.{Emit, Fail, Look, Perform}
use Rattle.jl_meaning.specs.Parts.{give, ◌>>=◌, Answer, Part}

abbrev pub Noting : Type 0
Noting = Operation → Part (Answer (Unit {0}))

-- the script performs it
abbrev pub performs : Noting
performs o = Perform o (give tt)

-- a hook emits it
abbrev pub emits : Noting
emits o = Emit o (give tt)

-- an operation with an id, by what is seen of values as the objects are now
abbrev pub note : Noting → (id : ℕ) → (Objects → Op) → Part (Answer (Unit {0}))
note how id f = Look (λ store. how (record { 0 = id }, f store.heap))

-- an operation on one value
abbrev pub note_value : Noting → (id : ℕ) → (Seen → Op) → Value → Part (Answer (Unit {0}))
note_value how id f v = note how id (λ heap. f (seen_of heap v))

-- an operation, after which the value is given, or the fault Misuse where there is none
abbrev pub note_or_misuse : Noting → (id : ℕ) → Value → Option Op → Part (Answer Value)
note_or_misuse how id v None = Fail Misuse
note_or_misuse how id v (Some o) = do
  _ ← how (record { 0 = id }, o)
  give v
