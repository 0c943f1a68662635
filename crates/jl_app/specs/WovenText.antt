-- The text of the woven script.
use Rattle.std.specs.Prelude.{ℕ, List}
use Rattle.jl_analysis.specs.Rules.{is_needed}
use Rattle.jl_ast.specs.Tree.{Program}
use Rattle.jl_op.specs.Chosen.{Kinds}
use Rattle.jl_print.specs.Layout.{text_of}
use Rattle.jl_simulation.specs.Weaving.{woven_program}
use Rattle.jl_text.specs.declared.span.Span.{Span}
use Rattle.jl_command.specs.Asked.{is_among}

-- the canonical text of the script in which each operation of these kinds is a call of a hook, in UTF-16 units
abbrev pub woven_text : Kinds → Program Span → List ℕ
woven_text kinds p = text_of (woven_program kinds p)

-- the kinds of operations that the rules with these numbers look at
abbrev pub kinds_of : (chosen : List ℕ) → Kinds
kinds_of chosen = is_needed (is_among chosen)
