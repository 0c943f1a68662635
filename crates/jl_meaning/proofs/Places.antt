-- What a program means doesn't depend on where its nodes stand.
use Rattle.std.proofs.Common.{◌≡◌, ◌∙◌, ℕ, ap, sym}
use Rattle.jl_ast.specs.Spans.{without_spans}
use Rattle.jl_ast.specs.Tree.{Program}
use Rattle.jl_op.proofs.WithoutPlaces.{same_program}
use Rattle.jl_op.specs.Chosen.{Kinds}
use Rattle.jl_op.specs.Ids.{program_with_ids}
use Rattle.jl_meaning.specs.Mean.{mean, run_of}

pub same_mean : {S : Type 0} (kinds : Kinds) (p q : Program S) → without_spans p ≡ without_spans q → (n : ℕ) →
    mean kinds p n ≡ mean kinds q n
same_mean kinds p q e n =
    ap (λ r. run_of kinds r n) (sym (same_program p) ∙ ap (λ r. program_with_ids r) e ∙ same_program q)
