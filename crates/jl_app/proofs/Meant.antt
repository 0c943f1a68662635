-- The machine's run of a program is what the program means: of what the script itself performs the machine keeps
-- nothing, and nothing is said of that where a run is told.
use Rattle.std.proofs.Common.{◌≡◌, ◌∙◌, ◌++◌, ℕ, List, ap, length, refl, subst, sym}
use Rattle.jl_ast.specs.Tree.{Program}
use Rattle.jl_effects.specs.Running.{Ends, Fails, Finish, Over, RunState, Spent, state_of as world_of, steps_taken}
use Rattle.jl_effects.specs.Traces.{with_state, without_operations}
use Rattle.jl_machine.specs.Runs.{ending_of, hooked_mean, IsRun}
use Rattle.jl_machine.specs.declared.ending.Run.{Run}
use Rattle.jl_meaning.specs.Mean as mean
use Rattle.jl_meaning.specs.Store.{Store}
use Rattle.jl_op.specs.Chosen.{Kinds}
use Rattle.jl_op.specs.Operations.{Operation}
use Rattle.jl_quiet.specs.QuietMean.{QuietMeans, quiet_mean}
use Rattle.jl_text.specs.declared.span.Span.{Span}
use Rattle.jl_value.specs.declared.ending.Completion.{Completion}
use Rattle.jl_value.specs.declared.ending.Completion.TheVariants as completion
use Rattle.jl_value.specs.declared.ending.Fault.{Fault}
use Rattle.jl_app.specs.WovenRuns.{hooked_run}

abbrev pub World : Type 0
World = RunState Store Operation

pub same_finish : (e : Finish Fault Completion) (m n : ℕ) (v w : World)
    → ending_of (Over e m v) ≡ ending_of (Over e n w)
same_finish (Ends completion.Normal) m n v w = refl
same_finish (Ends (completion.Throw x)) m n v w = refl
same_finish (Ends _) m n v w = refl
same_finish (Fails f) m n v w = refl

-- a run, but for what the script itself performs
abbrev quiet : mean.Run → mean.Run
quiet r = with_state without_operations r

quiet_ending : (r : mean.Run) → ending_of (quiet r) ≡ ending_of r
quiet_ending (Over e n w) = same_finish e n n (without_operations w) w
quiet_ending (Spent w) = refl

quiet_steps : (n : ℕ) (r : mean.Run) → steps_taken n (quiet r) ≡ steps_taken n r
quiet_steps n (Over e k w) = refl
quiet_steps n (Spent w) = refl

quiet_world : (r : mean.Run) → world_of (quiet r) ≡ without_operations (world_of r)
quiet_world (Over e k w) = refl
quiet_world (Spent w) = refl

module _ {O : Type 0} (stands_for : O → List Operation → Type 0) (before : List Operation) (n : ℕ) (a : Run) (o : O)
  where
    of_quiet : (r : mean.Run) → IsRun stands_for before n (quiet r) a o → IsRun stands_for before n r a o
    of_quiet r is =
        let world = quiet_world r in
        record {
          outcome = is.outcome ∙ quiet_ending r;
          output = is.output ∙ ap (λ (w : World). w.output) world;
          store = is.store ∙ ap (λ (w : World). w.store) world;
          steps = is.steps ∙ quiet_steps n r;
          hooks = is.hooks ∙ ap (λ (w : World). length w.hooks) world;
          told = subst (λ (w : World). stands_for o (before ++ w.hooks)) world is.told;
        }

    pub is_meant : (kinds : Kinds) (p : Program Span) → quiet_mean kinds p n ≡ hooked_mean kinds p n
        → QuietMeans kinds p → IsRun stands_for before n (hooked_mean kinds p n) a o
        → IsRun stands_for before n (hooked_run kinds p n) a o
    unfolding hooked_run
    is_meant kinds p machine means is =
        of_quiet (mean.mean kinds p n)
        (subst (λ (r : mean.Run). IsRun stands_for before n r a o) (sym machine ∙ sym (means n)) is)
