-- What one program does, another does too, and tells of it by its hooks.
use Rattle.jl_text.specs.declared.span.Span.{Span}
use Rattle.jl_ast.specs.Tree.{Program}
use Rattle.jl_op.specs.Chosen.{is_kept, Kinds}
use Rattle.jl_effects.specs.Matching.{Simulates}
use Rattle.jl_meaning.specs.Mean.{mean}

-- q simulates p, with any number of steps: its hooks emit those operations of p whose kinds are chosen
abbrev pub IsSimulatedBy : Kinds → (p q : Program Span) → Type 0
IsSimulatedBy chosen p q = Simulates (is_kept chosen) (λ n. mean chosen p n) (λ n. mean chosen q n)
