-- How statements follow one another (8.9, clause 12).
use Rattle.jl_value.specs.declared.ending.Completion.{Completion}
use Rattle.jl_value.specs.declared.ending.Completion.TheVariants as completion
use Rattle.jl_effects.specs.Effects.{and_then, End}
use Rattle.jl_meaning.specs.Parts.{gives, throws, Answer, Part}

-- what is given is gone on with, and what is thrown ends the statement
abbrev pub on_given : {A : Type 0} → (A → Part Completion) → Answer A → Part Completion
on_given k (gives a) = k a
on_given k (throws v) = End (completion.Throw v)

infixl 1 ◌>>=◌
abbrev pub ◌>>=◌ : {A : Type 0} → Part (Answer A) → (A → Part Completion) → Part Completion
p >>= k = and_then p (on_given k)

abbrev pub normal : Part Completion
normal = End completion.Normal

-- after a normal completion the next part follows, and any other is the completion of both (12.1)
abbrev pub if_normal : (next : Part Completion) → Completion → Part Completion
if_normal next completion.Normal = next
if_normal next how = End how

abbrev pub then_do : Part Completion → Part Completion → Part Completion
then_do p q = and_then p (if_normal q)

-- a part whose completion becomes another
abbrev pub ends_as : (Completion → Completion) → Part Completion → Part Completion
ends_as f p = and_then p (λ how. End (f how))
