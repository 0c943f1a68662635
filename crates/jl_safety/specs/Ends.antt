-- How the runs of programs end.
use Rattle.jl_value.specs.declared.ending.Completion.TheVariants as completion
use Rattle.jl_effects.specs.Running.{Ends, Fails, Over, Spent}
use Rattle.jl_meaning.specs.Mean.{Run}

-- a run that has come to the end of its program completed normally, or threw
abbrev pub EndsOrThrows : Run → Type 0
EndsOrThrows (Over (Ends completion.Normal) left w) = Unit {0}
EndsOrThrows (Over (Ends (completion.Throw v)) left w) = Unit {0}
EndsOrThrows (Over (Ends _) left w) = ⊥
EndsOrThrows (Over (Fails f) left w) = Unit {0}
EndsOrThrows (Spent w) = Unit {0}
