-- What is answered of a run that simulates another is about that other run.
use Rattle.std.proofs.Common.{◌≡◌, ℕ, ◌+◌, ◌*◌, ◌-◌, ◌≤◌, ◌⊎◌, inl, inr, ◌++◌, Bool, List, length, refl, sym, ap}
use Rattle.std.proofs.Common.{◌∙◌, subst, arith}
use Rattle.jl_analysis.specs.Laws.{NeededIsEnough}
use Rattle.jl_ast.specs.Tree.{Program}
use Rattle.jl_effects.specs.Growing.{IsLonger}
use Rattle.jl_effects.specs.Matching.{Alike, IsWithin, SameSeen, Simulates, step_bound}
use Rattle.jl_effects.specs.Running.{IsOver, Over, Spent, state_of as world_of, steps_taken}
use Rattle.jl_machine.specs.Runs.{ending_of}
use Rattle.jl_meaning.specs.Mean as mean
use Rattle.jl_meaning.specs.Store.{Store}
use Rattle.jl_op.specs.Chosen.{is_kept}
use Rattle.jl_op.specs.IdMap.{id_map}
use Rattle.jl_op.specs.Operations.{Operation}
use Rattle.jl_port.specs.Bytes.{Grows}
use Rattle.jl_text.specs.declared.span.Span.{Span}
use Rattle.jl_value.specs.declared.ending.Outcome.TheVariants as ending
use Rattle.jl_app.specs.Linting.{IsReported, end_line, lint_bytes, lint_status}
use Rattle.jl_app.specs.Endings.{Call}
use Rattle.jl_app.specs.Headline.{IsAbout, IsAboutBeginning, kept_of}
use Rattle.jl_app.specs.OwnRuns.{uncaught_line}
use Rattle.jl_app.specs.Reporting.{Lines, lines_text}
use Rattle.jl_app.specs.WovenText.{kinds_of}
use Rattle.jl_app.proofs.Meant.{same_finish, World}
use Rattle.jl_app.proofs.Reported.{all_reported}

-- runs that are alike

module _ (kept : Operation → Bool) where
  pub alike_ending : (own other : mean.Run) → Alike kept own other → ending_of other ≡ ending_of own
  alike_ending (Over e m v) (Over f n w) a = ap (λ x. ending_of (Over x n w)) a.0 ∙ same_finish e n m w v
  alike_ending (Over e m v) (Spent w) a = absurd a
  alike_ending (Spent v) r a = absurd a

  pub alike_seen : (own other : mean.Run) → Alike kept own other → SameSeen kept (world_of own) (world_of other)
  alike_seen (Over e m v) (Over f n w) a = a.1
  alike_seen (Over e m v) (Spent w) a = absurd a
  alike_seen (Spent v) r a = absurd a

  pub alike_over : (own other : mean.Run) → Alike kept own other → IsOver own × IsOver other
  alike_over (Over e m v) (Over f n w) a = (tt, tt)
  alike_over (Over e m v) (Spent w) a = absurd a
  alike_over (Spent v) r a = absurd a

-- the bytes of the answer
same_bytes : (own r : mean.Run) (lines : Lines) (steps count : ℕ) → (world_of r).output ≡ (world_of own).output
    → (world_of r).store ≡ (world_of own).store → ending_of r ≡ ending_of own
    → lint_bytes r lines steps count ≡ lint_bytes own lines steps count
same_bytes own r lines steps count out store end =
    ap (λ o. o ++ (lines_text lines ++ (uncaught_line (world_of r).store.heap (ending_of r)
    ++ end_line (ending_of r) steps count (length lines)))) out
    ∙ ap (λ (s : Store). (world_of own).output ++ (lines_text lines ++ (uncaught_line s.heap (ending_of r)
    ++ end_line (ending_of r) steps count (length lines)))) store
    ∙ ap (λ e. (world_of own).output ++ (lines_text lines ++ (uncaught_line (world_of own).store.heap e
    ++ end_line e steps count (length lines)))) end

-- more steps than a run needs are not taken
pub same_steps : (n d : ℕ) (r longer : mean.Run) → IsOver r → IsLonger d r longer
    → steps_taken (n + d) longer ≡ steps_taken n r
same_steps n d (Over e left w) longer over is =
    ap (steps_taken (n + d)) is ∙ (let same : (n + d) - (left + d) ≡ n - left = omega arith in same)
same_steps n d (Spent w) longer over is = absurd over

-- the report of the operations that are kept is that of all
reported : NeededIsEnough → (units : List ℕ) (p : Program Span) (chosen : List ℕ) (operations : List Operation)
    (lines : Lines) (count : ℕ)
    → IsReported units p chosen (kept_of chosen operations) (kept_of chosen operations) lines count
    → IsReported units p chosen (kept_of chosen operations) operations lines count
reported enough units p chosen operations lines count is = record {
  counted = is.counted;
  report = all_reported enough units (id_map p) chosen operations lines is.report;
}

module _ (enough : NeededIsEnough) (call : Call) (units : List ℕ) (p : Program Span) (chosen : List ℕ) where
  abbrev kept : Operation → Bool
  kept = is_kept (kinds_of chosen)

  -- what is answered of a run that is alike, and took so many steps
  about : (n steps : ℕ) (own other : mean.Run) (lines : Lines) (count : ℕ) → Alike kept own other
      → IsReported units p chosen (world_of other).hooks (world_of other).hooks lines count
      → Grows call.written.0 call.written.1 (lint_bytes other lines steps count)
      → call.crowd.told (world_of other).hooks → steps_taken n own ≤ steps → steps ≤ 32 * steps_taken n own + 64
      → IsAbout call units p chosen n own other (lint_status (ending_of other) lines)
  about n steps own other lines count alike report grows knows low high =
      let seen = alike_seen kept own other alike in
      let end : ending_of other ≡ ending_of own = alike_ending kept own other alike in
      let hooks : (world_of other).hooks ≡ kept_of chosen (world_of own).operations = seen.hooks in
      record {
        over = (alike_over kept own other alike).0;
        alike = alike;
        lines = lines;
        steps = steps;
        count = count;
        report = reported enough units p chosen (world_of own).operations lines count
            (subst (λ ops. IsReported units p chosen ops ops lines count) hooks report);
        status = ap (λ e. lint_status e lines) end;
        written = subst (λ bytes. Grows call.written.0 call.written.1 bytes)
            (same_bytes own other lines steps count seen.output seen.store end) grows;
        no_fewer = low;
        not_many_more = high;
        told = subst (λ ops. call.crowd.told ops) hooks knows;
      }

  module _ (first second : ℕ → mean.Run) (simulates : Simulates kept first second) (most : ℕ)
      (lines : Lines) (count : ℕ)
      (report : IsReported units p chosen (world_of (second most)).hooks (world_of (second most)).hooks lines count)
      (grows : Grows call.written.0 call.written.1
      (lint_bytes (second most) lines (steps_taken most (second most)) count))
      (knows : call.crowd.told (world_of (second most)).hooks) where
    -- the first run is over within fewer steps
    pub about_own : (n d : ℕ) → most ≡ step_bound n → most ≡ n + d → IsLonger d (first n) (first (n + d))
        → IsOver (first n)
        → IsAbout call units p chosen n (first n) (second most) (lint_status (ending_of (second most)) lines)
    about_own n d enough_steps more longer over =
        let alike : Alike kept (first n) (second most) =
        subst (λ m. Alike kept (first n) (second m)) (sym enough_steps) (simulates.follows n over) in
        let ended = (alike_over kept (first n) (second most) alike).1 in
        let taken : steps_taken most (first most) ≡ steps_taken n (first n) =
        ap (λ m. steps_taken m (first m)) more ∙ same_steps n d (first n) (first (n + d)) over longer in
        let low = simulates.no_fewer most ended in
        let high = simulates.not_many_more most ended in
        about n (steps_taken most (second most)) (first n) (second most) lines count alike report grows knows
        (omega arith) (omega arith)

    -- the second one is over
    about_most : IsOver (second most)
        → IsAbout call units p chosen most (first most) (second most) (lint_status (ending_of (second most)) lines)
    about_most ended =
        let alike = simulates.leads most ended in
        let low = simulates.no_fewer most ended in
        let high = simulates.not_many_more most ended in
        about most (steps_taken most (second most)) (first most) (second most) lines count alike report grows knows
        (omega arith) (omega arith)

    -- the second one is spent
    about_beginning : (w : World) → second most ≡ Spent w
        → IsAboutBeginning call units p chosen most (first most) (second most)
        (lint_status (ending_of (second most)) lines)
    about_beginning w is =
        record {
          spent = λ over. subst (λ (r : mean.Run). IsOver r) is over;
          within = subst (λ (r : mean.Run). IsWithin kept (world_of (first most)) (world_of r)) (sym is)
              (simulates.within most w is);
          lines = lines;
          count = count;
          report = report;
          status = ap (λ (r : mean.Run). lint_status (ending_of r) lines) is;
          written = subst (λ (r : mean.Run). Grows call.written.0 call.written.1
              ((world_of r).output ++ (lines_text lines ++ end_line ending.Spent most count (length lines))))
              (sym is) (subst (λ (r : mean.Run). Grows call.written.0 call.written.1
              (lint_bytes r lines (steps_taken most r) count)) is grows);
          told = knows;
        }

    -- one of the two
    abbrev AboutMost : Type 0
    AboutMost =
        IsAbout call units p chosen most (first most) (second most) (lint_status (ending_of (second most)) lines)
        ⊎ IsAboutBeginning call units p chosen most (first most) (second most)
        (lint_status (ending_of (second most)) lines)

    pub about_script : AboutMost
    about_script = go (second most) refl
      where
        go : (r : mean.Run) → second most ≡ r → AboutMost
        go (Over e left w) is = inl (about_most (subst (λ (x : mean.Run). IsOver x) (sym is) tt))
        go (Spent w) is = inr (about_beginning w is)
