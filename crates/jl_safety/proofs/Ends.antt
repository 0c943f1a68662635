-- No program completes otherwise than normally or by what it throws: what follows its statements sees to that.
use Rattle.std.proofs.Common.{ℕ, subst, sym}
use Rattle.jl_ast.specs.Tree.{Program}
use Rattle.jl_value.specs.declared.ending.Completion.{Completion}
use Rattle.jl_value.specs.declared.ending.Completion.TheVariants as completion
use Rattle.jl_value.specs.declared.ending.Fault.{Fault}
use Rattle.jl_op.specs.Chosen.{is_kept, Kinds}
use Rattle.jl_op.specs.Ids.{program_with_ids}
use Rattle.jl_op.specs.Operations.{Operation}
use Rattle.jl_op.specs.declared.op.Op.TheVariants as op
use Rattle.jl_effects.specs.Effects.{and_then}
use Rattle.jl_effects.specs.Running.{keeping, nothing_done, outcome_then, run, Ends, Fails, Outcome, Over, Recorded}
use Rattle.jl_effects.specs.Running.{RunState, Spent}
use Rattle.jl_effects.specs.Traces.{quietly}
use Rattle.jl_effects.proofs.Chains.{run-and_then}
use Rattle.jl_meaning.specs.Completions.{on_given, ◌>>=◌}
use Rattle.jl_meaning.specs.DeclarationBinding.{declare_program}
use Rattle.jl_meaning.specs.FunctionTable.{function_table}
use Rattle.jl_meaning.specs.Jobs.{job}
use Rattle.jl_meaning.specs.Mean.{end_of, global_context, language, mean, run_program, script, Run}
use Rattle.jl_meaning.specs.Noting.{note, performs}
use Rattle.jl_meaning.specs.Parts.{gives, lift, throws, Answer, Job, Part}
use Rattle.jl_meaning.specs.Realm.{realm}
use Rattle.jl_meaning.specs.Store.{Store}
use Rattle.jl_quiet.specs.QuietMean.{quiet_mean, without_ids}
use Rattle.jl_safety.specs.Ends.{EndsOrThrows}

module _ (recorded : Recorded Operation) (jobs : Job → Part Completion) where
  abbrev Start : Type 0
  Start = RunState Store Operation

  abbrev run_here : ℕ → Part Completion → Start → Run
  run_here n p w = run language recorded jobs n p w

  then_ends : {A : Type 0} (p : Part A) (k : A → Part Completion) (n : ℕ) (w : Start)
      → ((a : A) (m : ℕ) (v : Start) → EndsOrThrows (run_here m (k a) v))
      → EndsOrThrows (run_here n (and_then p k) w)
  then_ends {A = A} p k n w f =
      subst EndsOrThrows (sym (run-and_then language recorded jobs k n p w)) (on (run language recorded jobs n p w))
    where
      on : (x : Outcome Store Fault Operation A) → EndsOrThrows (outcome_then x (λ a m v. run_here m (k a) v))
      on (Over (Ends a) m v) = f a m v
      on (Over (Fails e) m v) = tt
      on (Spent v) = tt

  last_ends : (how : Completion) (n : ℕ) (w : Start) → EndsOrThrows (run_here n (end_of how) w)
  last_ends completion.Normal n w = tt
  last_ends (completion.Throw v) n w = tt
  last_ends (completion.Return v) n w = tt
  last_ends (completion.Break x) n w = tt
  last_ends (completion.Continue x) n w = tt

  pub script_ends : (p : Program ℕ) (n : ℕ) (w : Start) → EndsOrThrows (run_here n (script p) w)
  script_ends p n w = then_ends (lift (declare_program p.body (global_context p))) (on_given begun) n w on
    where
      begun : Unit {0} → Part Completion
      begun u = do
        _ ← note performs p.at (λ heap. op.ScriptEnter)
        and_then (run_program p) end_of

      on : (r : Answer (Unit {0})) (m : ℕ) (v : Start) → EndsOrThrows (run_here m (on_given begun r) v)
      on (gives u) m v = then_ends (run_program p) end_of m _ last_ends
      on (throws x) m v = tt

pub program_ends : {S : Type 0} (chosen : Kinds) (p : Program S) (n : ℕ) → EndsOrThrows (mean chosen p n)
program_ends chosen p n =
    let q = program_with_ids p in
    script_ends (keeping (is_kept chosen)) (job (function_table q)) q n (nothing_done realm)

pub program_ends_quietly : {S : Type 0} (chosen : Kinds) (p : Program S) (n : ℕ)
    → EndsOrThrows (quiet_mean chosen p n)
program_ends_quietly chosen p n =
    let q = without_ids p in
    script_ends (quietly (is_kept chosen)) (job (function_table q)) q n (nothing_done realm)
