-- What the laws say of the woven program, said of one with places.
use Rattle.std.proofs.Common.{◌≡◌, ◌∙◌, ap, arith, sym, subst, ◌+◌, ◌*◌, ◌<◌, List, [], length, ℕ}
use Rattle.jl_text.specs.declared.span.Span.{Span}
use Rattle.jl_token.specs.declared.token.Token.{Token}
use Rattle.jl_ast.specs.Height.{program_height}
use Rattle.jl_ast.specs.Tree.{Program}
use Rattle.jl_scope.specs.EarlyErrors.{early_errors_of}
use Rattle.jl_grammar.specs.Program.{Reads}
use Rattle.jl_print.specs.Laws.{PrintedReadsBack, TextIsPaired}
use Rattle.jl_print.specs.WellFormed.{IsWellFormed}
use Rattle.jl_op.proofs.WithoutPlaces.{same_program}
use Rattle.jl_op.specs.Chosen.{is_kept, Kinds}
use Rattle.jl_op.specs.Ids.{program_with_ids}
use Rattle.jl_effects.specs.Matching.{Simulates}
use Rattle.jl_meaning.specs.Mean.{mean, run_of}
use Rattle.jl_simulation.specs.Plain.{HasFewIds}
use Rattle.jl_simulation.specs.Simulation.{WovenSimulates}
use Rattle.jl_simulation.specs.Weaving.{woven_program}
use Rattle.jl_read_back.specs.EarlyErrors.{AreReservedNames, WovenKeepsRules}
use Rattle.jl_read_back.specs.Laws.{ReadsBackWithin, WovenHeight, WovenIsWellFormed}
use Rattle.jl_read_back.specs.Woven.{IsWoven}
use Rattle.jl_weave.specs.Accepted.{IsAccepted}
use Rattle.jl_weave.specs.Simulated.{IsSimulatedBy}

-- ids don't depend on places, and neither does what a program means
pub simulated : ((chosen : Kinds) (ts : List Token) (limit : ℕ) (p : Program Span) → Reads ts limit p
    → early_errors_of p ≡ [] → length ts < 1073741823 → WovenSimulates chosen p) → (chosen : Kinds)
    (p q : Program Span) → IsWoven chosen p q → IsAccepted p → IsSimulatedBy chosen p q
simulated law chosen p q e accepted =
    let same : program_with_ids (woven_program chosen p) ≡ program_with_ids q =
    ap (λ r. program_with_ids r) (sym e) ∙ same_program q in
    let P : Program ℕ → Type 0 = λ r. Simulates (is_kept chosen) (λ n. mean chosen p n) (λ n. run_of chosen r n) in
    subst P same (law chosen accepted.tokens accepted.levels p accepted.read accepted.sound accepted.few)

-- it breaks no rule
pub kept : WovenKeepsRules → (chosen : Kinds) (p q : Program Span) → IsWoven chosen p q → early_errors_of p ≡ []
    → AreReservedNames (early_errors_of q)
kept law chosen p q e none = law chosen p q none e

-- the canonical text of the woven program reads back
pub back : WovenIsWellFormed Span Span → WovenHeight Span Span → PrintedReadsBack → TextIsPaired → (chosen : Kinds)
    (p q : Program Span) → HasFewIds p → IsWoven chosen p q → IsWellFormed p
    → ReadsBackWithin (3 * program_height p + 4) q
back formed low printed paired chosen p q few e w =
    let v = formed chosen p q w (omega arith) e in
    record { back = printed q (3 * program_height p + 4) v (low chosen p q e); paired = paired q v }
