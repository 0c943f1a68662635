-- How a call ends says of an accepted script's own run what is promised.
use Rattle.std.proofs.Common.{◌≡◌, ◌∙◌, ℕ, List, Some, ap, refl, subst, sym}
use Rattle.jl_analysis.specs.Laws.{NeededIsEnough}
use Rattle.jl_ast.specs.Tree.{Program}
use Rattle.jl_command.specs.Asked.{Asked, request}
use Rattle.jl_effects.specs.Running.{IsOver, state_of as world_of, steps_taken}
use Rattle.jl_text.specs.Encoding.{units_of}
use Rattle.jl_text.specs.declared.span.Span.{Span}
use Rattle.jl_app.specs.Accepting.{IsAccepted, IsRead, OneReading}
use Rattle.jl_app.specs.Answers.{IsAnswered, IsDue, Responds, accepted, refused, replayed, unmapped}
use Rattle.jl_app.specs.Due.{Due, OnShelf}
use Rattle.jl_app.specs.Endings.{Call, EndsWith, HasAnswered, answered, no_memory, read_failed, write_failed}
use Rattle.jl_app.specs.Forms.{form_of, ReadsSource}
use Rattle.jl_app.specs.Headline.{Concludes, IsAboutOperations}
use Rattle.jl_app.specs.OwnRuns.{own_run}
use Rattle.jl_app.specs.Refusals.{IsRefused, NeverBoth}
use Rattle.jl_app.specs.Telling.{IsToldOf, IsToldOfWoven, Tells, covers, kinds_told, profiles, records}
use Rattle.jl_app.specs.WovenRuns.{woven_budget, woven_run}
use Rattle.jl_app.specs.WovenText.{kinds_of}
use Rattle.jl_app.specs.declared.form.Form.TheVariants as forms
use Rattle.jl_app.specs.declared.status.Status.{Status}
use Rattle.jl_app.proofs.Headline.{headline}
use Rattle.jl_app.proofs.OwnOperations.{Laws, no_fewer, not_many_more, told_of_own}
use Rattle.jl_app.proofs.Scripts.{of_source}

some_same : {A : Type 0} {a b : A} → Some a ≡ Some b → a ≡ b
some_same e = cc

-- a command that tells of operations reads a script
told_form : (a : Asked) (budget : ℕ) → Tells a budget → ReadsSource a × (form_of a ≡ Some forms.Script)
told_form _ _ (records budget) = (tt, refl)
told_form _ _ (profiles budget) = (tt, refl)
told_form _ _ (covers budget) = (tt, refl)

responds_told : (a : Asked) (units : List ℕ) (p : Program Span) (shelf : OnShelf) (budget : ℕ) (due : Due)
    → Tells a budget → Responds a units p shelf due → IsToldOfWoven a units p budget due
responds_told _ units p shelf _ due (records budget) responds = responds.1
responds_told _ units p shelf _ due (profiles budget) responds = responds.1
responds_told _ units p shelf _ due (covers budget) responds = responds.1

module _ (one : OneReading) (never : NeverBoth) where
  answered_told : (a : Asked) (bytes : List ℕ) (p : Program Span) (shelf : OnShelf) (budget : ℕ) (due : Due)
      → Tells a budget → IsAccepted bytes p → IsAnswered a bytes shelf due
      → IsToldOfWoven a (units_of bytes) p budget due
  answered_told a bytes p shelf budget _ tells is (refused form cause reads why kept) =
      absurd (never forms.Script bytes p cause is
      (subst (λ f. IsRefused f bytes cause) (sym (some_same (sym (told_form a budget tells).1 ∙ reads))) why))
  answered_told a bytes p shelf budget due tells is (accepted form q reads read responds) =
      let script = subst (λ f. IsRead f bytes q) (sym (some_same (sym (told_form a budget tells).1 ∙ reads))) read in
      subst (λ x. IsToldOfWoven a (units_of bytes) x budget due) (one forms.Script bytes q p script is)
      (responds_told a (units_of bytes) q shelf budget due tells responds)
  answered_told a bytes p shelf budget due tells is (unmapped other x kept) =
      let none = sym (ap form_of other) ∙ (told_form a budget tells).1 in absurd (cc)
  answered_told a bytes p shelf budget due tells is (replayed chosen other x kept) =
      let none = sym (ap form_of other) ∙ (told_form a budget tells).1 in absurd (cc)

abbrev told_steps : Asked → Program Span → (budget : ℕ) → ℕ
told_steps a p budget = steps_taken (woven_budget budget) (woven_run (kinds_told a) p (woven_budget budget))

module _ (one : OneReading) (never : NeverBoth) (words : List (List ℕ)) (held : List ℕ) (shelf : OnShelf) (a : Asked)
    (p : Program Span) (budget : ℕ) (is_asked : request words ≡ Some a) (tells : Tells a budget)
    (is : IsAccepted held p) where
  told_woven : (due : Due) → IsDue words held shelf due
      → IsToldOf a (units_of held) p (woven_run (kinds_told a) p (woven_budget budget))
      (world_of (woven_run (kinds_told a) p (woven_budget budget))).hooks (told_steps a p budget) due
  told_woven due due_is =
      answered_told one never a held p shelf budget due tells is
      (of_source a due is_asked (told_form a budget tells).0 due_is)

module _ {call : Call} (laws : Laws) (one : OneReading) (never : NeverBoth) (a : Asked)
    (p : Program Span) (budget : ℕ) (words : request call.words ≡ Some a) (tells : Tells a budget)
    (is : IsAccepted call.held p) (over : IsOver (own_run p budget)) where
  about_operations : (answer : Status) → EndsWith call answer → HasAnswered answer
      → IsAboutOperations call a (units_of call.held) p budget (own_run p budget) answer
  about_operations _ (answered due due_is grows knows) answers = record {
    steps = told_steps a p budget;
    due = due;
    tells = told_of_own laws (units_of call.held) call.held p is a budget tells over (told_steps a p budget) due
        (told_woven one never call.words call.held call.shelf a p budget words tells is due due_is);
    status = refl;
    written = grows;
    no_fewer = no_fewer (kinds_told a) p (laws.well (kinds_told a) p call.held is) budget over;
    not_many_more = not_many_more (kinds_told a) p (laws.well (kinds_told a) p call.held is) budget over;
  }
  about_operations _ (write_failed due n is2 risen less grows knows) answers = absurd answers
  about_operations _ (read_failed a2 words2 reads risen same2 kept knows) answers = absurd answers
  about_operations _ (no_memory same2) answers = absurd answers

pub concludes : {call : Call} {answer : Status} → NeededIsEnough → OneReading → NeverBoth → Laws
    → EndsWith call answer → Concludes call answer
concludes {call} {answer} enough one never laws ends = record {
  ends = ends;
  headline = λ a script p budget chosen words reports is_script is lent answers.
      headline enough one never ends a script p budget chosen (laws.well (kinds_of chosen) p script is) words reports
      is_script is lent answers;
  operations = λ a p budget words tells is answers over.
      about_operations laws one never a p budget words tells is over answer ends answers;
}
