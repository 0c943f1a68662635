-- The answer of `lint` is about the script's own run.
use Rattle.std.proofs.Common.{◌≡◌, ◌∙◌, ◌*◌, ◌+◌, ◌⊎◌, ℕ, List, Some, ap, refl, sym, subst, arith}
use Rattle.jl_analysis.specs.Laws.{NeededIsEnough}
use Rattle.jl_ast.specs.Tree.{Program}
use Rattle.jl_effects.specs.Running.{IsOver, state_of as world_of, steps_taken}
use Rattle.jl_machine.specs.Runs.{ending_of}
use Rattle.jl_meaning.specs.Mean as mean
use Rattle.jl_port.specs.Bytes.{Grows}
use Rattle.jl_text.specs.Encoding.{units_of}
use Rattle.jl_text.specs.declared.span.Span.{Span}
use Rattle.jl_app.specs.Accepting.{IsAccepted, IsRead, OneReading}
use Rattle.jl_app.specs.Answers.{IsAnswered, accepted, refused, replayed, unmapped}
use Rattle.jl_app.specs.Due.{Due, IsTold}
use Rattle.jl_app.specs.Linting.{IsLinted, IsReported, lint_bytes, lint_status, ran, unread}
use Rattle.jl_app.specs.WovenRuns.{hooked_run, woven_budget, woven_run}
use Rattle.jl_app.specs.OwnRuns.{own_run}
use Rattle.jl_command.specs.Asked.{Asked, request, lint}
use Rattle.jl_app.specs.Endings.{Call, EndsWith, HasAnswered, answered, no_memory, read_failed, write_failed}
use Rattle.jl_app.specs.Headline.{IsAbout, IsAboutBeginning, IsAboutScript}
use Rattle.jl_app.specs.ReadBack.{IsReadBack}
use Rattle.jl_app.specs.Refusals.{IsRefused, NeverBoth}
use Rattle.jl_app.specs.Reporting.{Lines}
use Rattle.jl_app.specs.Scripts.{IsScriptFor, Reports}
use Rattle.jl_app.specs.WovenText.{kinds_of, woven_text}
use Rattle.jl_app.specs.declared.form.Form.TheVariants as forms
use Rattle.jl_app.specs.declared.status.Status.{Status}
use Rattle.jl_app.specs.inner.Woven.{IsWovenWell}
use Rattle.jl_app.proofs.AboutRuns.{about_own, about_script}
use Rattle.jl_app.proofs.OwnRun.{same_run}
use Rattle.jl_app.proofs.Scripts.{due_to_script}

some_same : {A : Type 0} {a b : A} → Some a ≡ Some b → a ≡ b
some_same e = cc

-- What holds of the answer to the run of the woven script holds of what `lint` answers.
module _ (call : Call) (p : Program Span) (budget : ℕ) (chosen : List ℕ) (well : IsWovenWell (kinds_of chosen) p)
    (units : List ℕ) (Says : Status → Type 0) where
  abbrev steps : ℕ
  steps = woven_budget budget

  abbrev Holds : mean.Run → Lines → ℕ → Type 0
  Holds r lines count =
      IsReported units p chosen (world_of r).hooks (world_of r).hooks lines count
      → Grows call.written.0 call.written.1 (lint_bytes r lines (steps_taken steps r) count)
      → call.crowd.told (world_of r).hooks → Says (lint_status (ending_of r) lines)

  abbrev HoldsOfMeaning : Type 0
  HoldsOfMeaning = (lines : Lines) (count : ℕ) → Holds (woven_run (kinds_of chosen) p steps) lines count

  linted_says : (due : Due) → HoldsOfMeaning → call.shelf.lent ≡ woven_text (kinds_of chosen) p
      → IsLinted units p budget chosen call.shelf.lent due → Grows call.written.0 call.written.1 due.bytes
      → IsTold call.crowd due.told → Says due.status
  linted_says _ says lent (unread none) grows knows =
      absurd (none well.back.program (subst (λ t. IsReadBack t well.back.program) (sym lent) well.back.read))
  linted_says _ says lent (ran q lines count read report) grows knows =
      let back = subst (λ t. IsReadBack t q) lent read in
      let is : hooked_run (kinds_of chosen) q steps ≡ woven_run (kinds_of chosen) p steps =
      same_run (kinds_of chosen) p q steps (well.back.same q back) in
      subst (λ (r : mean.Run). Holds r lines count) (sym is) (says lines count) report grows knows

  answer_says : (one : OneReading) (never : NeverBoth) (bytes : List ℕ) (due : Due) → IsAccepted bytes p
      → units_of bytes ≡ units → HoldsOfMeaning → call.shelf.lent ≡ call.shelf.handed
      → IsAnswered (lint budget chosen) bytes call.shelf due → Grows call.written.0 call.written.1 due.bytes
      → IsTold call.crowd due.told → Says due.status
  answer_says one never bytes _ is same says lent (refused form cause reads why kept) grows knows =
      absurd (never forms.Script bytes p cause is (subst (λ f. IsRefused f bytes cause) (sym (some_same reads)) why))
  answer_says one never bytes due is same says lent (unmapped other x kept) grows knows = absurd (cc)
  answer_says one never bytes due is same says lent (replayed rules other x kept) grows knows = absurd (cc)
  answer_says one never bytes due is same says lent (accepted form q reads a responds) grows knows =
      let program = one forms.Script bytes q p (subst (λ f. IsRead f bytes q) (sym (some_same reads)) a) is in
      linted_says due says (lent ∙ responds.0 ∙ ap (woven_text (kinds_of chosen)) program)
      (subst (λ us. IsLinted us p budget chosen call.shelf.lent due) same
      (subst (λ x. IsLinted (units_of bytes) x budget chosen call.shelf.lent due) program responds.1)) grows knows

  says_so : {answer : Status} → (one : OneReading) (never : NeverBoth) → EndsWith call answer → (a : Asked)
      (bytes : List ℕ) → request call.words ≡ Some a → Reports a budget chosen → IsScriptFor call.held a bytes
      → IsAccepted bytes p → call.shelf.lent ≡ call.shelf.handed → HasAnswered answer → units_of bytes ≡ units
      → HoldsOfMeaning → Says answer
  says_so one never (answered due answer grows knows) a bytes words reports script is lent answers same says =
      answer_says one never bytes due is same says lent
      (due_to_script a bytes budget chosen due words reports script answer) grows knows
  says_so one never (write_failed due n is2 risen less grows knows) a bytes words reports script is lent answers same
      says = absurd answers
  says_so one never (read_failed a2 words2 reads risen same2 kept knows) a bytes words reports script is lent answers
      same says = absurd answers
  says_so one never (no_memory same2) a bytes words reports script is lent answers same says = absurd answers

-- the shelf lends the text of the woven script
module _ (call : Call) (p : Program Span) (budget : ℕ) (chosen : List ℕ) where
  answer_lends : (one : OneReading) (never : NeverBoth) (bytes : List ℕ) (due : Due) → IsAccepted bytes p
      → call.shelf.lent ≡ call.shelf.handed → IsAnswered (lint budget chosen) bytes call.shelf due
      → call.shelf.lent ≡ woven_text (kinds_of chosen) p
  answer_lends one never bytes _ is lent (refused form cause reads why kept) =
      absurd (never forms.Script bytes p cause is (subst (λ f. IsRefused f bytes cause) (sym (some_same reads)) why))
  answer_lends one never bytes due is lent (unmapped other x kept) = absurd (cc)
  answer_lends one never bytes due is lent (replayed rules other x kept) = absurd (cc)
  answer_lends one never bytes due is lent (accepted form q reads a responds) =
      lent ∙ responds.0 ∙ ap (woven_text (kinds_of chosen))
      (one forms.Script bytes q p (subst (λ f. IsRead f bytes q) (sym (some_same reads)) a) is)

  lends : {answer : Status} → (one : OneReading) (never : NeverBoth) → EndsWith call answer → (a : Asked)
      (bytes : List ℕ) → request call.words ≡ Some a → Reports a budget chosen → IsScriptFor call.held a bytes
      → IsAccepted bytes p → call.shelf.lent ≡ call.shelf.handed → HasAnswered answer
      → call.shelf.lent ≡ woven_text (kinds_of chosen) p
  lends one never (answered due answer grows knows) a bytes words reports script is lent answers =
      answer_lends one never bytes due is lent
      (due_to_script a bytes budget chosen due words reports script answer)
  lends one never (write_failed due n is2 risen less grows knows) a bytes words reports script is lent answers =
      absurd answers
  lends one never (read_failed a2 words2 reads risen same2 kept knows) a bytes words reports script is lent answers =
      absurd answers
  lends one never (no_memory same2) a bytes words reports script is lent answers = absurd answers

module _ {call : Call} {answer : Status} (enough : NeededIsEnough) (one : OneReading) (never : NeverBoth)
    (ends : EndsWith call answer) (a : Asked) (bytes : List ℕ) (p : Program Span) (budget : ℕ) (chosen : List ℕ)
    (well : IsWovenWell (kinds_of chosen) p) (words : request call.words ≡ Some a) (reports : Reports a budget chosen)
    (script : IsScriptFor call.held a bytes) (is : IsAccepted bytes p) (lent : call.shelf.lent ≡ call.shelf.handed)
    (answers : HasAnswered answer) where
  abbrev about : Program Span → ℕ → Status → Type 0
  about p n s =
      IsAbout call (units_of bytes) p chosen n (own_run p n) (woven_run (kinds_of chosen) p (woven_budget budget)) s

  abbrev about_some : Program Span → Status → Type 0
  about_some p s =
      about p (woven_budget budget) s
      ⊎ IsAboutBeginning call (units_of bytes) p chosen (woven_budget budget) (own_run p (woven_budget budget))
      (woven_run (kinds_of chosen) p (woven_budget budget)) s

  in_time : IsOver (own_run p budget) → about p budget answer
  in_time over =
      says_so call p budget chosen well (units_of bytes) (about p budget) one never ends a bytes words reports script is
      lent answers refl
      (λ lines count report grows knows.
      about_own enough call (units_of bytes) p chosen (own_run p)
      (woven_run (kinds_of chosen) p) well.simulates (woven_budget budget) lines count report grows knows budget
      (31 * budget + 64) refl (omega arith) (well.longer budget (31 * budget + 64)) over)

  in_any_case : about_some p answer
  in_any_case =
      says_so call p budget chosen well (units_of bytes) (about_some p) one never ends a bytes words reports script is
      lent answers refl
      (λ lines count report grows knows.
      about_script enough call (units_of bytes) p chosen (own_run p)
      (woven_run (kinds_of chosen) p) well.simulates (woven_budget budget) lines count report grows knows)

  text : call.shelf.lent ≡ woven_text (kinds_of chosen) p
  text = lends call p budget chosen one never ends a bytes words reports script is lent answers

  pub headline : IsAboutScript call (units_of bytes) p budget chosen answer
  headline = record {
    program = well.back.program;
    read = subst (λ units. IsReadBack units well.back.program) (sym text) well.back.read;
    ran = same_run (kinds_of chosen) p well.back.program (woven_budget budget)
        (well.back.same well.back.program well.back.read);
    in_time = in_time;
    in_any_case = in_any_case;
  }
