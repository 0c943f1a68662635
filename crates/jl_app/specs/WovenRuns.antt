-- The runs of woven scripts.
use Rattle.std.specs.Prelude.{ℕ, ◌+◌, ◌*◌}
use Rattle.jl_ast.specs.Tree.{Program}
use Rattle.jl_meaning.specs.Mean.{mean, Run}
use Rattle.jl_op.specs.Chosen.{Kinds}
use Rattle.jl_simulation.specs.Weaving.{woven_program}
use Rattle.jl_text.specs.declared.span.Span.{Span}

-- the steps of the woven script's run, where the script's own run has this many
abbrev pub woven_budget : (budget : ℕ) → ℕ
woven_budget budget = 32 * budget + 64

-- What a program means, whose hooks tell of operations of these kinds alone. Runs have words of their own, since the
-- steps of a contract may be a numeral, of which no run is to be unfolded.
unfoldable pub hooked_run : {S : Type 0} → Kinds → Program S → (steps : ℕ) → Run
hooked_run kinds p n = mean kinds p n

-- what the script that is woven for these kinds means
unfoldable pub woven_run : Kinds → Program Span → (steps : ℕ) → Run
woven_run kinds p n = mean kinds (woven_program kinds p) n
