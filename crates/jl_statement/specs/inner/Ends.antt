-- How a loop ends after its body, or goes on (12.6).
use Rattle.std.specs.Prelude.{None, Option, Some}
use Rattle.jl_value.specs.declared.ending.Completion.{Completion}
use Rattle.jl_effects.specs.Effects.{End}
use Rattle.jl_meaning.specs.Parts.{Part}

-- it completes so, or goes on
abbrev pub ends_or : (next : Part Completion) → Option Completion → Part Completion
ends_or next None = next
ends_or next (Some how) = End how
