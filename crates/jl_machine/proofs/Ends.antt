-- How runs are answered.
use Rattle.std.proofs.Common.{◌≡◌, ◌<◌, ◌≤◌, ◌^◌, [], false, refl, sym, ◌∙◌, ap, arith, length, subst, Bool, List, ℕ}
use Rattle.std.proofs.lemmas.List.{append-nil}
use Rattle.jl_text.specs.declared.span.Span.{Span}
use Rattle.jl_ast.specs.Tree.{Program}
use Rattle.jl_scope.specs.Hoisting.{strict_in}
use Rattle.jl_value.specs.declared.ending.Outcome.{Outcome as Ending}
use Rattle.jl_value.specs.declared.ending.Outcome.TheVariants as ending
use Rattle.jl_op.specs.Chosen.{Kinds}
use Rattle.jl_op.specs.KindSets.{is_member}
use Rattle.jl_op.specs.Operations.{Operation}
use Rattle.jl_op.specs.declared.kind_set.KindSet.{KindSet}
use Rattle.jl_effects.specs.Running.{state_of, steps_taken, Over, Spent}
use Rattle.jl_meaning.specs.Mean.{Run as BigStep-to}
use Rattle.jl_quiet.specs.QuietMean.{quiet_mean}
use Rattle.jl_state.specs.Rest.{behaviour_after, run_state, RefinesStatement}
use Rattle.jl_state.specs.Trees.{plain}
use Rattle.jl_state.specs.Words.{context_of, table_of}
use Rattle.jl_state.specs.declared.act.Act.{Act}
use Rattle.jl_state.specs.declared.frame.Here.{Here}
use Rattle.jl_state.specs.declared.state.State.{State}
use Rattle.jl_store.specs.Plain.{code_in}
use Rattle.jl_machine.specs.inner.Going.{kept_by, over, StepRefines, Reaches, HasObserved}
use Rattle.jl_machine.specs.Runs.{hooked_mean, steps_of, IsRun}
use Rattle.jl_machine.specs.inner.Starts.{program_body, IsStart}
use Rattle.jl_machine.specs.declared.ending.Next.TheVariants as next
use Rattle.jl_machine.specs.declared.ending.Run.{Run}
use Rattle.jl_machine.proofs.Meanings.{begins, strict_plain}

-- hooks tell of no more operations than a run takes steps, so that they can be counted
taken_of : (n : ℕ) (r : BigStep-to) → steps_taken n r ≤ n
taken_of n (Over e left w) = omega arith
taken_of n (Spent w) = omega arith

pub few_hooks : ((chosen : Kinds) (p : Program Span) (n : ℕ)
    → length (state_of (quiet_mean chosen p n)).hooks ≤ steps_taken n (quiet_mean chosen p n))
    → (chosen : Kinds) (p : Program Span) (n : ℕ) → n < 2 ^ 64
    → length (state_of (hooked_mean chosen p n)).hooks < 2 ^ 64
unfolding hooked_mean
few_hooks law chosen p n most =
    let hooks = law chosen p n in let taken = taken_of n (quiet_mean chosen p n) in omega arith

module _ {O : Type 0} (stands_for : O → List Operation → Type 0) (before : List Operation) (budget : ℕ) where
  abbrev pub answer_of : Ending → State → (count steps : ℕ) → Run
  answer_of end t count steps = record {
    outcome = end;
    output = t.output;
    store = t.store;
    steps = steps;
    hooks = count;
  }

  is_over : (end : Ending) (t : State) (told : List Operation) (o : O) (count : ℕ)
      → HasObserved stands_for before told o count
      → length (state_of (over end t.left (run_state told t))).hooks < 2 ^ 64
      → IsRun stands_for before budget (over end t.left (run_state told t))
      (answer_of end t count (steps_of end budget t.left)) o
  is_over ending.Normal t told o count heard few = record {
    outcome = refl;
    output = refl;
    store = refl;
    steps = refl;
    hooks = heard.counted few;
    told = heard.heard;
  }
  is_over (ending.Thrown v) t told o count heard few = record {
    outcome = refl;
    output = refl;
    store = refl;
    steps = refl;
    hooks = heard.counted few;
    told = heard.heard;
  }
  is_over (ending.Fault f) t told o count heard few = record {
    outcome = refl;
    output = refl;
    store = refl;
    steps = refl;
    hooks = heard.counted few;
    told = heard.heard;
  }
  is_over ending.Spent t told o count heard few = record {
    outcome = refl;
    output = refl;
    store = refl;
    steps = refl;
    hooks = heard.counted few;
    told = heard.heard;
  }

  is_run : (kinds : KindSet) (end : Ending) (t : State) (o : O) (count : ℕ) (r : BigStep-to)
      → Reaches stands_for kinds before o count t (next.Over end) r → length (state_of r).hooks < 2 ^ 64
      → IsRun stands_for before budget r (answer_of end t count (steps_of end budget t.left)) o
  is_run kinds end t o count r goes few =
      subst (λ x. IsRun stands_for before budget x (answer_of end t count (steps_of end budget t.left)) o) goes.same
      (is_over end t goes.told o count goes.heard
      (subst (λ (x : BigStep-to). length (state_of x).hooks < 2 ^ 64) (sym goes.same) few))

  -- a run that goes on from an act to its end
  ran : (kinds : KindSet) (end : Ending) (s t : State) (a : Act) (o o' : O) (count : ℕ) (r : BigStep-to)
      → StepRefines stands_for kinds o 0 s a o' count t (next.Over end) → behaviour_after (kept_by kinds) [] s a ≡ r
      → stands_for o before → length (state_of r).hooks < 2 ^ 64
      → IsRun stands_for before budget r (answer_of end t count (steps_of end budget t.left)) o'
  ran kinds end s t a o o' count r goes same stands few =
      let nothing : HasObserved stands_for before [] o 0 = record {
        heard = subst (stands_for o) (sym (append-nil before)) stands;
        counted = λ few. refl;
      } in
      let to = goes.by before [] nothing in
      is_run kinds end t o' count r (record { told = to.told; heard = to.heard; same = to.same ∙ same }) few

  -- a run of a program
  pub runs : (kinds : KindSet) (p : Program Span) (strict : Bool) (s t u : State) (a : Act) (end : Ending) (o o' : O)
      (count steps : ℕ) → IsStart p budget s → strict ≡ strict_in false p.body
      → RefinesStatement s (program_body (table_of s.functions) (plain p.body) (code_in 0 strict)
      (context_of s.calls (record { env = 0; strict = strict }))) t a
      → StepRefines stands_for kinds o 0 t a o' count u (next.Over end) → steps ≡ steps_of end budget u.left
      → stands_for o before → length (state_of (hooked_mean (is_member kinds) p budget)).hooks < 2 ^ 64
      → IsRun stands_for before budget (hooked_mean (is_member kinds) p budget) (answer_of end u count steps) o'
  runs kinds p strict s t u a end o o' count steps start is refines goes counted stands few =
      let here_of : Bool → Here = λ b. record { env = 0; strict = b } in
      let same = refines.is (kept_by kinds) []
      ∙ begins (is_member kinds) p budget (here_of strict) s start (ap here_of (is ∙ sym (strict_plain p.body))) in
      subst (λ n. IsRun stands_for before budget (hooked_mean (is_member kinds) p budget) (answer_of end u count n) o')
      (sym counted)
      (ran kinds end t u a o o' count (hooked_mean (is_member kinds) p budget) goes same stands few)
