-- Which script a command is about, and which commands report.
use Rattle.std.specs.Prelude.{◌≡◌, ℕ, List}
use Rattle.jl_command.specs.Asked.{Asked, lint, replay, soak}
use Rattle.jl_soak.specs.Script.{script_of}
use Rattle.jl_app.specs.Forms.{ReadsSource}

-- The script that a command is about: what the source holds, or what `soak` makes.
pub data IsScriptFor (held : List ℕ) : Asked → (bytes : List ℕ) → Type 0 where
  -- the source holds it
  in_source : (a : Asked) (bytes : List ℕ) → ReadsSource a → held ≡ bytes → IsScriptFor held a bytes
  -- it is made, of this many functions
  made : (number budget : ℕ) (chosen : List ℕ) → IsScriptFor held (soak number budget chosen) (script_of number)

-- The command reports of a script's run with this budget, by the rules with these numbers.
pub data Reports : Asked → (budget : ℕ) → (chosen : List ℕ) → Type 0 where
  lints : (budget : ℕ) (chosen : List ℕ) → Reports (lint budget chosen) budget chosen
  soaks : (number budget : ℕ) (chosen : List ℕ) → Reports (soak number budget chosen) budget chosen

-- The command reports, so that the crowd is told of operations.
abbrev pub IsReporting : Asked → Type 0
IsReporting (lint budget chosen) = Unit {0}
IsReporting (soak number budget chosen) = Unit {0}
IsReporting (replay chosen) = Unit {0}
IsReporting _ = ⊥
