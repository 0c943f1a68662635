-- No run of an accepted script, or of its woven one, is ended by the fault Misuse.
use Rattle.std.proofs.Common.{◌≡◌, ◌<◌, [], ℕ, List, length, subst, sym}
use Rattle.jl_ast.specs.Tree.{Program}
use Rattle.jl_command.specs.Asked.{Asked, check, cover, exec, instrument, lint, map_of_ids, objects, print}
use Rattle.jl_command.specs.Asked.{record_of_run, replay, run, soak, srcmap, trace, unmap}
use Rattle.jl_cover.specs.Coverage.{is_covered}
use Rattle.jl_effects.specs.Keeping.{FailsAllowed}
use Rattle.jl_effects.specs.Running.{Ends, Fails, Over, Spent}
use Rattle.jl_grammar.specs.Program.{Reads}
use Rattle.jl_meaning.specs.Mean.{IsNoMisuse, mean, Run}
use Rattle.jl_op.specs.Chosen.{every_kind, Kinds}
use Rattle.jl_profile.specs.Births.{is_profiled}
use Rattle.jl_safety.specs.Ends.{EndsOrThrows}
use Rattle.jl_scope.specs.EarlyErrors.{early_errors_of}
use Rattle.jl_simulation.specs.Weaving.{woven_program}
use Rattle.jl_text.specs.declared.span.Span.{Span}
use Rattle.jl_token.specs.declared.token.Token.{Token}
use Rattle.jl_value.specs.declared.ending.Completion.TheVariants as completion
use Rattle.jl_value.specs.declared.ending.Fault.TheVariants.{Misuse}
use Rattle.jl_app.specs.Accepting.{IsAccepted}
use Rattle.jl_app.specs.WovenRuns.{woven_budget, woven_run}
use Rattle.jl_app.specs.Misuse.{AcceptedScriptsRunWithoutMisuse, EndsWithoutMisuse, ReportsWithoutMisuse}
use Rattle.jl_app.specs.Misuse.{RunsWithoutMisuse}
use Rattle.jl_app.specs.OwnRuns.{own_run}
use Rattle.jl_app.specs.WovenText.{kinds_of}
use Rattle.jl_app.specs.inner.Woven.{IsWovenWell}
use Rattle.jl_app.proofs.Legal.{nothing_wrong}
use Rattle.jl_app.proofs.OwnRun.{same_run}
use Rattle.jl_app.proofs.Sizes.{few_accepted_tokens}

-- a run that is ended by no Misuse is told so: it has not completed as no program does
without : (r : Run) → FailsAllowed IsNoMisuse r → EndsOrThrows r → EndsWithoutMisuse r
without (Over (Ends completion.Normal) left w) h e is = cc
without (Over (Ends (completion.Throw v)) left w) h e is = cc
without (Over (Ends _) left w) h e is = absurd e
without (Over (Fails f) left w) h e is = let same : f ≡ Misuse = cc in h same
without (Spent w) h e is = cc

-- what the laws say of what programs mean, said of the runs that answers are made of
module _ (p : Program Span) where
  own : ((chosen : Kinds) (n : ℕ) → FailsAllowed IsNoMisuse (mean chosen p n))
      → ((chosen : Kinds) (n : ℕ) → EndsOrThrows (mean chosen p n)) → (n : ℕ) → EndsWithoutMisuse (own_run p n)
  unfolding own_run
  own safe ends n = without (mean every_kind p n) (safe every_kind n) (ends every_kind n)

  woven : ((chosen : Kinds) (n : ℕ) → FailsAllowed IsNoMisuse (mean chosen (woven_program chosen p) n))
      → ((chosen : Kinds) (w : Program (Unit {0})) (n : ℕ) → EndsOrThrows (mean chosen w n))
      → (kinds : Kinds) (n : ℕ) → EndsWithoutMisuse (woven_run kinds p n)
  unfolding woven_run
  woven safe ends kinds n =
      let w = woven_program kinds p in without (mean kinds w n) (safe kinds n) (ends kinds w n)

pub without_misuse : ((chosen : Kinds) (p : Program Span) → early_errors_of p ≡ [] → (n : ℕ)
    → FailsAllowed IsNoMisuse (mean chosen p n))
    → ((chosen : Kinds) (ts : List Token) (limit : ℕ) (p : Program Span) → Reads ts limit p
    → early_errors_of p ≡ [] → length ts < 1073741823 → (n : ℕ)
    → FailsAllowed IsNoMisuse (mean chosen (woven_program chosen p) n))
    → ((chosen : Kinds) (p : Program Span) (n : ℕ) → EndsOrThrows (mean chosen p n))
    → ((chosen : Kinds) (w : Program (Unit {0})) (n : ℕ) → EndsOrThrows (mean chosen w n))
    → ((kinds : Kinds) (bytes : List ℕ) (p : Program Span) → IsAccepted bytes p → IsWovenWell kinds p)
    → AcceptedScriptsRunWithoutMisuse
without_misuse safe woven_safe ends woven_ends well a bytes p is = by_command a
  where
    legal : early_errors_of p ≡ []
    legal = nothing_wrong bytes p is

    all_woven : (chosen : Kinds) (n : ℕ) → FailsAllowed IsNoMisuse (mean chosen (woven_program chosen p) n)
    all_woven chosen n = woven_safe chosen is.tokens 200 p is.read legal (few_accepted_tokens bytes p is) n

    reporting : (budget : ℕ) (chosen : List ℕ) → ReportsWithoutMisuse budget chosen p
    reporting budget chosen = λ q read.
        subst (λ (r : Run). EndsWithoutMisuse r)
        (sym (same_run (kinds_of chosen) p q (woven_budget budget)
        ((well (kinds_of chosen) bytes p is).back.same q read)))
        (woven p all_woven woven_ends (kinds_of chosen) (woven_budget budget))

    by_command : (a : Asked) → RunsWithoutMisuse a p
    by_command (lint budget chosen) = reporting budget chosen
    by_command (run budget) = own p (λ chosen n. safe chosen p legal n) (λ chosen n. ends chosen p n) budget
    by_command (record_of_run budget) = woven p all_woven woven_ends every_kind (woven_budget budget)
    by_command (objects budget) = woven p all_woven woven_ends is_profiled (woven_budget budget)
    by_command (cover budget) = woven p all_woven woven_ends is_covered (woven_budget budget)
    by_command srcmap = tt
    by_command unmap = tt
    by_command (replay chosen) = tt
    by_command (trace budget) = woven p all_woven woven_ends every_kind (woven_budget budget)
    by_command check = tt
    by_command print = tt
    by_command instrument = tt
    by_command map_of_ids = tt
    by_command (exec budget) = tt
    by_command (soak number budget chosen) = reporting budget chosen
