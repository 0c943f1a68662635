-- What is told of the operations that the hooks of a woven script tell of is told of those of the script's own run.
use Rattle.std.proofs.Common.{◌≡◌, ◌∙◌, ◌*◌, ◌+◌, ◌++◌, ◌≤◌, ℕ, All, List, [], ◌∷◌, ap, arith, filter}
use Rattle.std.proofs.Common.{option_map, refl, slice_get, subst, sym}
use Rattle.std.specs.Prelude.{codes}
use Rattle.jl_ast.specs.Tree.{Program}
use Rattle.jl_command.specs.Asked.{Asked}
use Rattle.jl_cover.specs.Coverage.{is_covered, missed_in, totals_in}
use Rattle.jl_cover.specs.Laws.{HasRowOfKind, KindsAreEnough as CoveredKindsAreEnough}
use Rattle.jl_cover.specs.declared.missed.Missed.{Missed}
use Rattle.jl_cover.specs.declared.totals.Totals.{Totals}
use Rattle.jl_effects.specs.Matching.{Alike}
use Rattle.jl_effects.specs.Running.{IsOver, state_of as world_of, steps_taken}
use Rattle.jl_machine.specs.Runs.{ending_of}
use Rattle.jl_meaning.specs.Mean as mean
use Rattle.jl_meaning.specs.Store.{Store}
use Rattle.jl_op.specs.Chosen.{every_kind, is_kept, Kinds}
use Rattle.jl_op.specs.IdMap.{id_map}
use Rattle.jl_op.specs.KindSets.{of_kinds}
use Rattle.jl_op.specs.Map.{MapRow}
use Rattle.jl_op.specs.Operations.{Operation}
use Rattle.jl_operation_rows.specs.Rows.{HasRow}
use Rattle.jl_profile.specs.Births.{births_in, is_profiled}
use Rattle.jl_profile.specs.Laws.{KindsAreEnough as ProfiledKindsAreEnough}
use Rattle.jl_profile.specs.declared.births.Births.{Births}
use Rattle.jl_text.specs.Places.{line_table}
use Rattle.jl_text.specs.declared.span.Span.{Span}
use Rattle.jl_app.specs.Covering.{cover_bytes, cover_line, missed_lines}
use Rattle.jl_app.specs.Accepting.{IsAccepted}
use Rattle.jl_app.specs.Due.{Due, refused_only, text_only}
use Rattle.jl_app.specs.WovenRuns.{woven_run}
use Rattle.jl_app.specs.OwnRuns.{ending_status, own_run, uncaught_line}
use Rattle.jl_app.specs.Profiling.{births_lines, objects_bytes, objects_line}
use Rattle.jl_app.specs.Recording.{record_bytes, recorded, too_long_record, IsRecorded}
use Rattle.jl_app.specs.Telling.{IsToldOf, Tells, covers, kinds_told, profiles, records}
use Rattle.jl_app.specs.WovenRuns.{woven_budget}
use Rattle.jl_app.specs.inner.Woven.{IsWovenWell}
use Rattle.jl_app.proofs.AboutRuns.{alike_ending, alike_over, alike_seen, same_steps}

-- the operations of these kinds
kept_are : (kinds : Kinds) (operations : List Operation)
    → filter (is_kept kinds) operations ≡ of_kinds kinds operations
unfolding is_kept
kept_are kinds operations = refl

pub all_kept : (operations : List Operation) → filter (is_kept every_kind) operations ≡ operations
unfolding is_kept
all_kept [] = refl
all_kept (o ∷ operations) = ap (λ os. o ∷ os) (all_kept operations)

-- The run of the script that is woven for these kinds, where the script's own run is over.
module _ (kinds : Kinds) (p : Program Span) (well : IsWovenWell kinds p) (n : ℕ) (over : IsOver (own_run p n)) where
  abbrev own : mean.Run
  own = own_run p n

  abbrev woven : mean.Run
  woven = woven_run kinds p (woven_budget n)

  alike : Alike (is_kept kinds) own woven
  alike = well.simulates.follows n over

  pub same_ending : ending_of woven ≡ ending_of own
  same_ending = alike_ending (is_kept kinds) own woven alike

  pub same_store : (world_of woven).store ≡ (world_of own).store
  same_store = (alike_seen (is_kept kinds) own woven alike).store

  pub same_hooks : (world_of woven).hooks ≡ filter (is_kept kinds) (world_of own).operations
  same_hooks = (alike_seen (is_kept kinds) own woven alike).hooks

  own_taken : steps_taken (woven_budget n) (own_run p (woven_budget n)) ≡ steps_taken n own
  own_taken =
      let more : woven_budget n ≡ n + (31 * n + 64) = omega arith in
      ap (λ m. steps_taken m (own_run p m)) more
      ∙ same_steps n (31 * n + 64) own (own_run p (n + (31 * n + 64))) over (well.longer n (31 * n + 64))

  ended : IsOver woven
  ended = (alike_over (is_kept kinds) own woven alike).1

  pub no_fewer : steps_taken n own ≤ steps_taken (woven_budget n) woven
  no_fewer =
      let few = well.simulates.no_fewer (woven_budget n) ended in
      let taken = own_taken in
      omega (arith, few, taken)

  pub not_many_more : steps_taken (woven_budget n) woven ≤ 32 * steps_taken n own + 64
  not_many_more =
      let many = well.simulates.not_many_more (woven_budget n) ended in
      let taken = own_taken in
      omega (arith, many, taken)

-- the kinds of the rows of operations
has_kind : (p : Program Span) (o : Operation) → HasRow p o → HasRowOfKind (id_map p) o
has_kind p o has before is =
    let same : has.before ≡ before = omega (arith, is, has.id) in
    ap (option_map (λ (r : MapRow). r.0)) (ap (slice_get (id_map p)) (sym same) ∙ has.row)

-- What a command answers to a run depends on how it ended, on its heap and on what it tells of.
module _ (units : List ℕ) (p : Program Span) (own woven : mean.Run) (steps : ℕ)
    (end : ending_of woven ≡ ending_of own) (store : (world_of woven).store ≡ (world_of own).store) where
  uncaught : uncaught_line (world_of woven).store.heap (ending_of woven)
      ≡ uncaught_line (world_of own).store.heap (ending_of own)
  uncaught =
      ap (λ (s : Store). uncaught_line s.heap (ending_of woven)) store
      ∙ ap (λ e. uncaught_line (world_of own).store.heap e) end

  same_objects : (rows births : List Births) → rows ≡ births
      → text_only (ending_status (ending_of woven)) (objects_bytes woven steps rows)
      ≡ text_only (ending_status (ending_of own)) (objects_bytes own steps births)
  same_objects rows births is =
      ap (λ e. text_only (ending_status e) (objects_bytes woven steps rows)) end
      ∙ ap (λ l. text_only (ending_status (ending_of own)) (objects_bytes woven steps l)) is
      ∙ ap (λ l. text_only (ending_status (ending_of own))
      (births_lines births ++ (l ++ objects_line (ending_of woven) steps births))) uncaught
      ∙ ap (λ e. text_only (ending_status (ending_of own))
      (births_lines births ++ (uncaught_line (world_of own).store.heap (ending_of own)
      ++ objects_line e steps births))) end

  same_cover : (gaps missed : List Missed) (some all : Totals) → gaps ≡ missed → some ≡ all
      → text_only (ending_status (ending_of woven)) (cover_bytes woven steps gaps some)
      ≡ text_only (ending_status (ending_of own)) (cover_bytes own steps missed all)
  same_cover gaps missed some all is too =
      ap (λ e. text_only (ending_status e) (cover_bytes woven steps gaps some)) end
      ∙ ap (λ l. text_only (ending_status (ending_of own)) (cover_bytes woven steps l some)) is
      ∙ ap (λ t. text_only (ending_status (ending_of own)) (cover_bytes woven steps missed t)) too
      ∙ ap (λ l. text_only (ending_status (ending_of own))
      (missed_lines missed ++ (l ++ cover_line (ending_of woven) steps all))) uncaught
      ∙ ap (λ e. text_only (ending_status (ending_of own))
      (missed_lines missed ++ (uncaught_line (world_of own).store.heap (ending_of own)
      ++ cover_line e steps all))) end

  same_recorded : (hooks operations : List Operation) → hooks ≡ operations → (due : Due)
      → IsRecorded units p woven hooks due → IsRecorded units p own operations due
  same_recorded hooks operations is _ (recorded comments are stored few) =
      subst (λ ops. IsRecorded units p own ops
      (text_only (ending_status (ending_of woven)) (record_bytes units p comments hooks))) is
      (subst (λ e. IsRecorded units p own hooks
      (text_only (ending_status e) (record_bytes units p comments hooks))) (sym end) (recorded comments are stored few))
  same_recorded hooks operations is _ (too_long_record comments are many) =
      subst (λ ops. IsRecorded units p own ops (refused_only (codes "RecordTooLong"))) is
      (too_long_record comments are many)

-- what is known of the commands that tell of operations
pub record Laws : Type 0 where
  pub well : (kinds : Kinds) (p : Program Span) (bytes : List ℕ) → IsAccepted bytes p → IsWovenWell kinds p
  pub rows : (p : Program Span) (n : ℕ) → All (HasRow p) (world_of (mean.mean every_kind p n)).operations
  pub profiled : ProfiledKindsAreEnough
  pub covered : CoveredKindsAreEnough

own_rows : Laws → (p : Program Span) (n : ℕ) → All (HasRowOfKind (id_map p)) (world_of (own_run p n)).operations
unfolding own_run
own_rows laws p n = λ k d within. has_kind p _ (laws.rows p n k d within)

pub told_of_own : Laws → (units bytes : List ℕ) (p : Program Span) → IsAccepted bytes p → (a : Asked) (n : ℕ)
    → Tells a n → IsOver (own_run p n) → (steps : ℕ) (due : Due)
    → IsToldOf a units p (woven_run (kinds_told a) p (woven_budget n))
    (world_of (woven_run (kinds_told a) p (woven_budget n))).hooks steps due
    → IsToldOf a units p (own_run p n) (world_of (own_run p n)).operations steps due
told_of_own laws units bytes p is _ _ (records n) over steps due told =
    let well = laws.well every_kind p bytes is in
    let own = own_run p n in
    let woven = woven_run every_kind p (woven_budget n) in
    same_recorded units p own woven steps (same_ending every_kind p well n over) (same_store every_kind p well n over)
    (world_of woven).hooks (world_of own).operations
    (same_hooks every_kind p well n over ∙ all_kept (world_of own).operations) due told
told_of_own laws units bytes p is _ _ (profiles n) over steps due told =
    let well = laws.well is_profiled p bytes is in
    let own = own_run p n in
    let woven = woven_run is_profiled p (woven_budget n) in
    let lines = line_table units in
    let rows = id_map p in
    told ∙ same_objects units p own woven steps (same_ending is_profiled p well n over)
    (same_store is_profiled p well n over) (births_in lines rows (world_of woven).hooks)
    (births_in lines rows (world_of own).operations)
    (ap (births_in lines rows) (same_hooks is_profiled p well n over ∙ kept_are is_profiled (world_of own).operations)
    ∙ laws.profiled is_profiled (λ kind looked. looked) lines rows (world_of own).operations)
told_of_own laws units bytes p is _ _ (covers n) over steps due told =
    let well = laws.well is_covered p bytes is in
    let own = own_run p n in
    let woven = woven_run is_covered p (woven_budget n) in
    let lines = line_table units in
    let rows = id_map p in
    let kept = same_hooks is_covered p well n over ∙ kept_are is_covered (world_of own).operations in
    let enough = laws.covered is_covered (λ kind looked. looked) lines rows (world_of own).operations
    (own_rows laws p n) in
    told ∙ same_cover units p own woven steps (same_ending is_covered p well n over)
    (same_store is_covered p well n over) (missed_in lines rows (world_of woven).hooks)
    (missed_in lines rows (world_of own).operations) (totals_in rows (world_of woven).hooks)
    (totals_in rows (world_of own).operations)
    (ap (missed_in lines rows) kept ∙ enough.0) (ap (totals_in rows) kept ∙ enough.1)
