-- The text that `instrument` writes stands alone: `exec` answers to it what `trace` answers to the script.
use Rattle.std.specs.Prelude.{ℕ, List}
use Rattle.jl_ast.specs.Tree.{Program}
use Rattle.jl_command.specs.Asked.{exec, trace}
use Rattle.jl_text.specs.declared.span.Span.{Span}
use Rattle.jl_app.specs.Accepting.{IsAccepted}
use Rattle.jl_app.specs.Answers.{IsAnswered, instrument_due}
use Rattle.jl_app.specs.Due.{Due, OnShelf}
use Rattle.jl_app.specs.WovenRuns.{woven_budget}

-- a shelf that is as it was, with these texts
abbrev pub same_shelf : (handed lent : List ℕ) → OnShelf
same_shelf handed lent = record { handed = handed; lent = lent; same = Unit {0} }

-- These bytes are read as the script p. What is due to `exec` on the bytes that `instrument` writes of it is due to
-- `trace` on the script, where `exec` has the steps of the woven script; and what is due to `trace` is due to `exec`.
pub record StandsAlone (bytes : List ℕ) (p : Program Span) : Type 0 where
  pub as_trace : (budget : ℕ) (handed lent : List ℕ) (due : Due)
      → IsAnswered (exec (woven_budget budget)) (instrument_due p).bytes (same_shelf handed lent) due
      → IsAnswered (trace budget) bytes (same_shelf handed lent) due
  pub as_exec : (budget : ℕ) (handed lent : List ℕ) (due : Due)
      → IsAnswered (trace budget) bytes (same_shelf handed lent) due
      → IsAnswered (exec (woven_budget budget)) (instrument_due p).bytes (same_shelf handed lent) due

-- so it is of every accepted script
abbrev pub TextStandsAlone : Type 0
TextStandsAlone = (bytes : List ℕ) (p : Program Span) → IsAccepted bytes p → StandsAlone bytes p
