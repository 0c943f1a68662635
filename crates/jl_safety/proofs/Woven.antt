-- A run that is over as another one is fails by no other fault.
use Rattle.std.proofs.Common.{◌≡◌, ℕ, [], Bool, sym, subst}
use Rattle.jl_text.specs.declared.span.Span.{Span}
use Rattle.jl_ast.specs.Tree.{Program}
use Rattle.jl_scope.specs.EarlyErrors.{early_errors_of}
use Rattle.jl_op.specs.Chosen.{is_kept, Kinds}
use Rattle.jl_effects.specs.Keeping.{FailsAllowed}
use Rattle.jl_effects.specs.Matching.{Alike}
use Rattle.jl_effects.specs.Running.{Ends, Fails, IsOver, Outcome, Over, Spent}
use Rattle.jl_meaning.specs.Mean.{mean, IsNoMisuse}
use Rattle.jl_simulation.specs.Simulation.{WovenSimulates}
use Rattle.jl_simulation.specs.Weaving.{woven_program}
use Rattle.jl_safety.proofs.Programs.{accepted_never_misuses}

fails_alike : {S F O A : Type 0} (kept : O → Bool) (IsAllowed : F → Type 0) (v r : Outcome S F O A)
    → (IsOver r → Alike kept v r) → FailsAllowed IsAllowed v → FailsAllowed IsAllowed r
fails_alike kept IsAllowed v (Over (Ends a) left w) x h = tt
fails_alike kept IsAllowed v (Spent w) x h = tt
fails_alike kept IsAllowed (Over (Ends a) m u) (Over (Fails f) left w) x h =
    subst (λ end. FailsAllowed IsAllowed (Over end left w)) (sym (x tt).0) tt
fails_alike kept IsAllowed (Over (Fails g) m u) (Over (Fails f) left w) x h =
    subst (λ end. FailsAllowed IsAllowed (Over end left w)) (sym (x tt).0) h
fails_alike kept IsAllowed (Spent u) (Over (Fails f) left w) x h = absurd (x tt)

-- the run of a woven script is over as that of the script is
pub woven_never_misuses : (chosen : Kinds) (p : Program Span) → WovenSimulates chosen p → early_errors_of p ≡ []
    → (n : ℕ) → FailsAllowed IsNoMisuse (mean chosen (woven_program chosen p) n)
woven_never_misuses chosen p simulates none n =
    fails_alike (is_kept chosen) IsNoMisuse (mean chosen p n) (mean chosen (woven_program chosen p) n)
    (simulates.leads n) (accepted_never_misuses chosen p none n)
