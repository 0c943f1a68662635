-- What `run` and `lint` answer to the same bytes.
use Rattle.std.proofs.Common.{◌≡◌, ◌∙◌, ℕ, zero, suc, ◌+◌, ◌*◌, ◌<◌, ◌≤◌, Bool, true, false, ◌||◌, ◌&&◌, ◌==◌}
use Rattle.std.proofs.Common.{List, [], ◌∷◌, Some, add-one, ap, arith, length, refl, subst, sym}
use Rattle.std.specs.List.{filter}
use Rattle.std.specs.Prelude.{unwrap_or}
use Rattle.std.proofs.lemmas.Bool.Decides.{nat_tests}
use Rattle.std.proofs.lemmas.Map.Views.{any-filter_same}
use Rattle.jl_analysis.specs.Chosen.{is_chosen}
use Rattle.jl_analysis.specs.Laws.{NeededIsEnough}
use Rattle.jl_analysis.specs.Rules.{all_rules, name_at, numbers, rule_count}
use Rattle.jl_analysis.specs.declared.rule_set.RuleSet.{RuleSet}
use Rattle.jl_ast.specs.Tree.{Program}
use Rattle.jl_command.specs.Asked.{is_among, lint, run}
use Rattle.jl_command.specs.Meant.{IsChoice}
use Rattle.jl_effects.specs.Running.{IsOver, Over, Spent, state_of as world_of, steps_taken}
use Rattle.jl_heap.specs.Describe.{description_of}
use Rattle.jl_heap.specs.Objects.{Objects}
use Rattle.jl_machine.specs.Runs.{ending_of}
use Rattle.jl_meaning.specs.Mean as mean
use Rattle.jl_op.specs.Chosen.{Kinds}
use Rattle.jl_text.specs.Encoding.{bytes_of, units_of}
use Rattle.jl_text.specs.declared.span.Span.{Span}
use Rattle.jl_value.specs.declared.ending.Outcome.{Outcome as Ending}
use Rattle.jl_value.specs.declared.ending.Outcome.TheVariants as ending
use Rattle.jl_app.specs.Accepting.{IsAccepted, IsRead, OneReading}
use Rattle.jl_app.specs.Answers.{IsAnswered, IsDueTo, IsExecuted, accepted, answered_to, answered_to_made, ended}
use Rattle.jl_app.specs.Answers.{execute_due, refused, replayed, unmapped}
use Rattle.jl_app.specs.Due.{Due, OnShelf}
use Rattle.jl_app.specs.Endings.{Call}
use Rattle.jl_app.specs.Headline.{IsAbout}
use Rattle.jl_app.specs.Linting.{IsLinted, IsReported, lint_due, lint_status, ran, unread}
use Rattle.jl_app.specs.OwnRuns.{ending_status, ending_text, own_run, uncaught_line}
use Rattle.jl_app.specs.ReadBack.{IsReadBack}
use Rattle.jl_app.specs.Refusals.{IsRefused, NeverBoth}
use Rattle.jl_app.specs.Reporting.{Lines, lines_text}
use Rattle.jl_app.specs.RunAndLint.{HasEnded, IsReport, IsThrown, SameStatus, ShowsSame, more, none, nothing, reported}
use Rattle.jl_app.specs.RunAndLint.{same, uncaught}
use Rattle.jl_app.specs.WovenRuns.{hooked_run, woven_budget, woven_run}
use Rattle.jl_app.specs.WovenText.{kinds_of, woven_text}
use Rattle.jl_app.specs.declared.answer.Answer.{Answer}
use Rattle.jl_app.specs.declared.form.Form.TheVariants as forms
use Rattle.jl_app.specs.declared.status.Status.TheVariants as status
use Rattle.jl_app.specs.inner.Woven.{IsWovenWell}
use Rattle.jl_app.proofs.AboutRuns.{about_own}
use Rattle.jl_app.proofs.OwnRun.{same_run}

some_same : {A : Type 0} {a b : A} → Some a ≡ Some b → a ≡ b
some_same e = cc

-- Each set of rules is a choice of rules by their numbers.

among_numbers : (first count rule : ℕ) → first ≤ rule → rule < first + count
    → is_among (numbers first count) rule ≡ true
among_numbers first zero rule low high = absurd (omega arith)
among_numbers first (suc count) rule low high =
    by_test (first == rule) refl (λ later. among_numbers (first + 1) count rule later (omega arith))
  where
    by_test : (b : Bool) → (first == rule) ≡ b
        → (first + 1 ≤ rule → is_among (numbers (first + 1) count) rule ≡ true)
        → ((first == rule) || is_among (numbers (first + 1) count) rule) ≡ true
    by_test true e rest = ap (λ b. b || is_among (numbers (first + 1) count) rule) e
    by_test false e rest =
        let later : first + 1 ≤ rule = grind (arith, nat_tests) in
        ap (λ b. b || is_among (numbers (first + 1) count) rule) e ∙ rest later

and_true : (a b : Bool) → b ≡ true → a ≡ (a && b)
and_true true b is = sym is
and_true false b is = refl

pub choice_of : RuleSet → List ℕ
choice_of set = filter (is_chosen set) all_rules

pub is_choice : (set : RuleSet) → IsChoice set (choice_of set)
unfolding choice_of
is_choice set rule is =
    and_true (is_chosen set rule) (is_among all_rules rule)
    (among_numbers 1 rule_count rule is.0 (omega (arith, is.1)))
    ∙ sym (any-filter_same (λ r. r == rule) (is_chosen set) (is_chosen set rule)
    (λ k found. ap (is_chosen set) (let e : k ≡ rule = grind (arith, nat_tests) in e)) all_rules)

-- What `run` answers.

ended_over : (r : mean.Run) → HasEnded (ending_status (ending_of r)) → IsOver r
ended_over (Over e k w) is = tt
ended_over (Spent w) is = absurd is

executed_is : (p : Program Span) (budget : ℕ) (due : Due) → IsExecuted p budget due
    → due ≡ execute_due (own_run p budget) budget
executed_is p budget _ ended = refl

-- the bytes are accepted as a program whose own run is over, and the answer is that of this run
pub record IsRunOf (bytes : List ℕ) (budget : ℕ) (due : Due) : Type 0 where
  pub program : Program Span
  pub accepts : IsAccepted bytes program
  pub over : IsOver (own_run program budget)
  pub is : due ≡ execute_due (own_run program budget) budget

run_of : (bytes : List ℕ) (budget : ℕ) (due : Due) (p : Program Span) → HasEnded due.status → IsAccepted bytes p
    → IsExecuted p budget due → IsRunOf bytes budget due
run_of bytes budget due p has is executed =
    let same : due ≡ execute_due (own_run p budget) budget = executed_is p budget due executed in
    record {
      program = p;
      accepts = is;
      over = ended_over (own_run p budget) (subst (λ (d : Due). HasEnded d.status) same has);
      is = same;
    }

answered_run : (bytes : List ℕ) (budget : ℕ) (shelf : OnShelf) (due : Due) → HasEnded due.status
    → IsAnswered (run budget) bytes shelf due → IsRunOf bytes budget due
answered_run bytes budget shelf _ has (refused form cause reads why kept) = absurd has
answered_run bytes budget shelf due has (unmapped other x kept) = absurd (cc)
answered_run bytes budget shelf due has (replayed rules other x kept) = absurd (cc)
answered_run bytes budget shelf due has (accepted form p reads read responds) =
    run_of bytes budget due p has (subst (λ f. IsRead f bytes p) (sym (some_same reads)) read) responds.1

pub due_run : (bytes : List ℕ) (budget : ℕ) (shelf : OnShelf) (due : Due) → HasEnded due.status
    → IsDueTo (run budget) bytes shelf due → IsRunOf bytes budget due
due_run bytes budget shelf due has (answered_to reads answered) = answered_run bytes budget shelf due has answered
due_run bytes budget shelf due has (answered_to_made n b c made answered) = absurd (cc)

-- What `lint` answers to the same bytes.

call_of : List ℕ → Call
call_of bytes = record {
  words = [];
  held = [];
  read_faults = (0, 0);
  written = (Some [], Some bytes);
  write_faults = (0, 0);
  shelf = record { handed = []; lent = []; same = Unit {0} };
  crowd = record { same = Unit {0}; told = λ told. Unit {0} };
}

module _ (enough : NeededIsEnough) (never : NeverBoth) (one : OneReading) (bytes : List ℕ) (p : Program Span)
    (budget : ℕ) (chosen : List ℕ) (well : IsWovenWell (kinds_of chosen) p) (is_p : IsAccepted bytes p)
    (over : IsOver (own_run p budget)) where
  abbrev woven : mean.Run
  woven = woven_run (kinds_of chosen) p (woven_budget budget)

  abbrev About : Due → Type 0
  About due = IsAbout (call_of due.bytes) (units_of bytes) p chosen budget (own_run p budget) woven due.status

  abbrev Told : mean.Run → Lines → ℕ → Type 0
  Told r lines count =
      IsReported (units_of bytes) p chosen (world_of r).hooks (world_of r).hooks lines count
      → About (lint_due r (woven_budget budget) lines count)

  told : (lines : Lines) (count : ℕ) → Told woven lines count
  unfolding call_of
  told lines count report =
      about_own enough (call_of (lint_due woven (woven_budget budget) lines count).bytes) (units_of bytes) p chosen
      (own_run p) (woven_run (kinds_of chosen) p) well.simulates (woven_budget budget) lines count report refl tt
      budget (31 * budget + 64) refl (omega arith) (well.longer budget (31 * budget + 64)) over

  linted : (due : Due) (lent : List ℕ) → lent ≡ woven_text (kinds_of chosen) p
      → IsLinted (units_of bytes) p budget chosen lent due → About due
  linted _ lent is (unread no_program) =
      absurd (no_program well.back.program (subst (λ t. IsReadBack t well.back.program) (sym is) well.back.read))
  linted _ lent is (ran q lines count read report) =
      let back = subst (λ t. IsReadBack t q) is read in
      let is_woven : hooked_run (kinds_of chosen) q (woven_budget budget) ≡ woven =
      same_run (kinds_of chosen) p q (woven_budget budget) (well.back.same q back) in
      subst (λ (r : mean.Run). Told r lines count) (sym is_woven) (told lines count) report

  answered_lint : (shelf : OnShelf) (due : Due) → shelf.lent ≡ shelf.handed
      → IsAnswered (lint budget chosen) bytes shelf due → About due
  answered_lint shelf _ lent (refused form cause reads why kept) =
      absurd (never forms.Script bytes p cause is_p (subst (λ f. IsRefused f bytes cause) (sym (some_same reads)) why))
  answered_lint shelf due lent (unmapped other x kept) = absurd (cc)
  answered_lint shelf due lent (replayed rules other x kept) = absurd (cc)
  answered_lint shelf due lent (accepted form q reads read responds) =
      let program = one forms.Script bytes q p (subst (λ f. IsRead f bytes q) (sym (some_same reads)) read) is_p in
      linted due shelf.lent (lent ∙ responds.0 ∙ ap (woven_text (kinds_of chosen)) program)
      (subst (λ x. IsLinted (units_of bytes) x budget chosen shelf.lent due) program responds.1)

  due_lint : (shelf : OnShelf) (due : Due) → shelf.lent ≡ shelf.handed
      → IsDueTo (lint budget chosen) bytes shelf due → About due
  due_lint shelf due lent (answered_to reads answered) = answered_lint shelf due lent answered
  due_lint shelf due lent (answered_to_made n b c made answered) = absurd (cc)

-- What both show.

is_report : (lines : Lines) → IsReport (lines_text lines) (length lines)
is_report [] = none
is_report (x ∷ lines) =
    subst (λ n. IsReport (lines_text (x ∷ lines)) n) (add-one (length lines))
    (more x.line x.column (unwrap_or (name_at x.rule) []) x.count (is_report lines))

is_thrown : (heap : Objects) (end : Ending) → IsThrown (uncaught_line heap end)
is_thrown heap ending.Normal = nothing
is_thrown heap (ending.Thrown v) = uncaught (bytes_of (description_of heap v))
is_thrown heap (ending.Fault f) = nothing
is_thrown heap ending.Spent = nothing

same_status : (end : Ending) (lines : Lines) → SameStatus (ending_status end) (lint_status end lines) (length lines)
same_status ending.Normal [] = same status.Clean 0
same_status ending.Normal (x ∷ lines) =
    subst (λ n. SameStatus status.Clean status.Reports n) (add-one (length lines)) (reported (length lines))
same_status (ending.Thrown v) lines = same status.Thrown (length lines)
same_status (ending.Fault f) lines = same status.Fault (length lines)
same_status ending.Spent lines = same status.Spent (length lines)

shown : (first second : Answer) (units : List ℕ) (p : Program Span) (chosen : List ℕ) (budget : ℕ)
    (own other : mean.Run) (due : Due) → first.status ≡ ending_status (ending_of own)
    → first.bytes.items ≡ (execute_due own budget).bytes → second.status ≡ due.status
    → second.bytes.items ≡ due.bytes → IsAbout (call_of due.bytes) units p chosen budget own other due.status
    → ShowsSame first second
unfolding call_of
shown first second units p chosen budget own other due first_status first_bytes second_status second_bytes about =
    record {
      output = (world_of own).output;
      report = lines_text about.lines;
      thrown = uncaught_line (world_of own).store.heap (ending_of own);
      end = ending_text (ending_of own);
      run_steps = steps_taken budget own;
      lint_steps = about.steps;
      hooks = about.count;
      reports = length about.lines;
      is_report = is_report about.lines;
      is_thrown = is_thrown (world_of own).store.heap (ending_of own);
      run_bytes = first_bytes;
      lint_bytes = second_bytes ∙ some_same about.written;
      no_fewer = about.no_fewer;
      not_many_more = about.not_many_more;
      status = subst (λ s. SameStatus s second.status (length about.lines)) (sym first_status)
          (subst (λ s. SameStatus (ending_status (ending_of own)) s (length about.lines))
          (sym (second_status ∙ about.status)) (same_status (ending_of own) about.lines));
    }

pub shows_same : (first second : Answer) (enough : NeededIsEnough) (never : NeverBoth) (one : OneReading)
    (well : (kinds : Kinds) (bytes : List ℕ) (p : Program Span) → IsAccepted bytes p → IsWovenWell kinds p)
    (bytes : List ℕ) (budget : ℕ) (chosen : List ℕ) (run_shelf lint_shelf : OnShelf) (run_due lint_due : Due)
    → IsDueTo (run budget) bytes run_shelf run_due → first.status ≡ run_due.status
    → first.bytes.items ≡ run_due.bytes → lint_shelf.lent ≡ lint_shelf.handed
    → IsDueTo (lint budget chosen) bytes lint_shelf lint_due → second.status ≡ lint_due.status
    → second.bytes.items ≡ lint_due.bytes → HasEnded first.status → ShowsSame first second
shows_same first second enough never one well bytes budget chosen run_shelf lint_shelf run_due lint_due ran_due
    run_status run_bytes lent linted_due lint_status_is lint_bytes_are has =
    let of_run = due_run bytes budget run_shelf run_due (subst HasEnded run_status has) ran_due in
    shown first second (units_of bytes) of_run.program chosen budget (own_run of_run.program budget) _ lint_due
    (run_status ∙ ap (λ (d : Due). d.status) of_run.is) (run_bytes ∙ ap (λ (d : Due). d.bytes) of_run.is)
    lint_status_is lint_bytes_are
    (due_lint enough never one bytes of_run.program budget chosen
    (well (kinds_of chosen) bytes of_run.program of_run.accepts) of_run.accepts of_run.over lint_shelf lint_due lent
    linted_due)
