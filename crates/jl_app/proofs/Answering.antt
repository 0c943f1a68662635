-- From what the functions of the commands answer to what is due.
use Rattle.std.proofs.Common.{◌≡◌, ◌∙◌, ◌≤◌, ℕ, List, ap, refl, subst, sym}
use Rattle.std.specs.Prelude.{Result, Ok, Err, IfOk, IfSome, OnOk, Some}
use Rattle.jl_analysis.specs.declared.rule_set.RuleSet.{RuleSet}
use Rattle.jl_ast.specs.Tree.{Program}
use Rattle.jl_command.specs.Asked.{Asked, check, cover, exec, instrument, lint, map_of_ids, most_budget, most_functions}
use Rattle.jl_command.specs.Asked.{objects, print, record_of_run, replay, run, soak, srcmap, trace, unmap}
use Rattle.jl_command.specs.Meant.{IsChoice, Means, means_check, means_cover, means_exec, means_instrument, means_lint}
use Rattle.jl_command.specs.Meant.{means_map, means_objects, means_print, means_record, means_replay, means_run}
use Rattle.jl_command.specs.Meant.{means_soak, means_srcmap, means_trace, means_unmap}
use Rattle.jl_command.specs.declared.command.Command.{Command}
use Rattle.jl_command.specs.declared.command.Command.TheVariants as commands
use Rattle.jl_text.specs.Encoding.{units_of}
use Rattle.jl_text.specs.declared.span.Span.{Span}
use Rattle.jl_app.specs.Accepting.{IsRead}
use Rattle.jl_app.specs.Answers.{IsAnswered, Responds, accepted}
use Rattle.jl_app.specs.Due.{Due, IsGiven, IsTold, OnCrowd, OnShelf}
use Rattle.jl_app.specs.Forms.{form_of, form_of_command, most_read, most_read_by}
use Rattle.jl_app.specs.Linting.{IsLinted}
use Rattle.jl_app.specs.declared.answer.Answer.{Answer}
use Rattle.jl_app.specs.declared.form.Form.{Form}
use Rattle.jl_app.specs.declared.form.Form.TheVariants as forms
use Rattle.jl_app.specs.inner.Said.{IsSaid}

-- what holds of the value and what holds beside it
pub both_ok : {T E K : Type 0} (r : Result T E) (P Q : T → Type 0) → ((x : T) → P x → K → Q x) → IfOk r P
    → OnOk r K → IfOk r Q
both_ok (Ok x) P Q f p k = f x p k
both_ok (Err e) P Q f p k = tt

-- the answer of a command that is this one
pub answers : {bytes : List ℕ} {shelf : OnShelf} {due : Due} (a b : Asked) (form : Form) (p : Program Span) → a ≡ b
    → form_of a ≡ Some form → IsRead form bytes p → Responds b (units_of bytes) p shelf due
    → IsAnswered a bytes shelf due
answers {bytes} {shelf} {due} a b form p same is read responds =
    accepted form p is read (subst (λ x. Responds x (units_of bytes) p shelf due) (sym same) responds)

-- what the crowd is told nothing of
pub given_said : {crowd : OnCrowd} {given : Answer} {due : Due} → crowd.same → IsSaid given due
    → IsGiven crowd given due
given_said {crowd} same said = record {
  status = said.answer.status;
  bytes = said.answer.bytes;
  told = subst (λ t. IsTold crowd t) (sym said.untold) same;
}

-- a script of the same bytes
pub same_script : {a : Asked} {shelf : OnShelf} {due : Due} (bytes same : List ℕ) → bytes ≡ same
    → IsAnswered a bytes shelf due → IsAnswered a same shelf due
same_script {a} {shelf} {due} bytes same is answered = subst (λ script. IsAnswered a script shelf due) is answered

-- a source of the same units
pub same_source : {p : Program Span} {budget : ℕ} {chosen lent : List ℕ} {due : Due} (units same : List ℕ)
    → units ≡ same → IsLinted units p budget chosen lent due → IsLinted same p budget chosen lent due
same_source {p} {budget} {chosen} {lent} {due} units same is linted =
    subst (λ us. IsLinted us p budget chosen lent due) is linted

-- what a command reads is what it is asked to read
pub same_form : (c : Command) (a : Asked) → Means c a → form_of_command c ≡ form_of a
same_form _ _ (means_lint budget set chosen few choice) = refl
same_form _ _ (means_run budget few) = refl
same_form _ _ means_check = refl
same_form _ _ means_print = refl
same_form _ _ means_instrument = refl
same_form _ _ means_map = refl
same_form _ _ means_srcmap = refl
same_form _ _ means_unmap = refl
same_form _ _ (means_trace budget few) = refl
same_form _ _ (means_exec budget few) = refl
same_form _ _ (means_record budget few) = refl
same_form _ _ (means_replay set chosen choice) = refl
same_form _ _ (means_objects budget few) = refl
same_form _ _ (means_cover budget few) = refl
same_form _ _ (means_soak number budget set chosen least few choice) = refl

pub same_most : (c : Command) (a : Asked) → Means c a → most_read_by c ≡ most_read a
same_most _ _ (means_lint budget set chosen few choice) = refl
same_most _ _ (means_run budget few) = refl
same_most _ _ means_check = refl
same_most _ _ means_print = refl
same_most _ _ means_instrument = refl
same_most _ _ means_map = refl
same_most _ _ means_srcmap = refl
same_most _ _ means_unmap = refl
same_most _ _ (means_trace budget few) = refl
same_most _ _ (means_exec budget few) = refl
same_most _ _ (means_record budget few) = refl
same_most _ _ (means_replay set chosen choice) = refl
same_most _ _ (means_objects budget few) = refl
same_most _ _ (means_cover budget few) = refl
same_most _ _ (means_soak number budget set chosen least few choice) = refl

-- the form that the code takes is that of each command that it means
pub form_for : (c : Command) (one a : Asked) (form got : Form) → Means c one → form_of one ≡ Some form
    → IfSome (form_of_command c) (λ f. got ≡ f) → Means c a → form_of a ≡ Some got
form_for c one a form got means is given other =
    let of_code = same_form c one means ∙ is in
    sym (same_form c a other) ∙ of_code ∙ ap Some (sym (subst (λ o. IfSome o (λ f. got ≡ f)) of_code given))

-- What a command is asked as, by what it is.

pub asked_lint : {budget : ℕ} {set : RuleSet} (a : Asked) → Means (commands.Lint budget set) a
    → (chosen : List ℕ) × (a ≡ lint budget chosen) × (budget ≤ most_budget) × IsChoice set chosen
asked_lint _ (means_lint budget set chosen few choice) = (chosen, refl, few, choice)

-- what is not asked to lint is no such command
pub not_lint : (c : Command) (a : Asked) (budget : ℕ) (chosen : List ℕ) → Means c a → Means c (lint budget chosen)
    → ((most : ℕ) (rules : List ℕ) → a ≡ lint most rules → ⊥) → ⊥
not_lint _ a _ _ means (means_lint budget set chosen few choice) other =
    let is = asked_lint a means in other budget is.0 is.1

pub asked_run : {budget : ℕ} (a : Asked) → Means (commands.Run budget) a → a ≡ run budget
asked_run _ (means_run budget few) = refl

pub asked_check : (a : Asked) → Means commands.Check a → a ≡ check
asked_check _ means_check = refl

pub asked_print : (a : Asked) → Means commands.Print a → a ≡ print
asked_print _ means_print = refl

pub asked_instrument : (a : Asked) → Means commands.Instrument a → a ≡ instrument
asked_instrument _ means_instrument = refl

pub asked_map : (a : Asked) → Means commands.Map a → a ≡ map_of_ids
asked_map _ means_map = refl

pub asked_srcmap : (a : Asked) → Means commands.Srcmap a → a ≡ srcmap
asked_srcmap _ means_srcmap = refl

pub asked_unmap : (c : Command) (a : Asked) → Means c a → c ≡ commands.Unmap → a ≡ unmap
asked_unmap c a means is = by_command a (subst (λ x. Means x a) is means)
  where
    by_command : (b : Asked) → Means commands.Unmap b → b ≡ unmap
    by_command _ means_unmap = refl

pub asked_record : {budget : ℕ} (a : Asked) → Means (commands.Record budget) a
    → (a ≡ record_of_run budget) × (budget ≤ most_budget)
asked_record _ (means_record budget few) = (refl, few)

pub asked_objects : {budget : ℕ} (a : Asked) → Means (commands.Objects budget) a
    → (a ≡ objects budget) × (budget ≤ most_budget)
asked_objects _ (means_objects budget few) = (refl, few)

pub asked_cover : {budget : ℕ} (a : Asked) → Means (commands.Cover budget) a
    → (a ≡ cover budget) × (budget ≤ most_budget)
asked_cover _ (means_cover budget few) = (refl, few)

pub asked_replay : {set : RuleSet} (c : Command) (a : Asked) → Means c a → c ≡ commands.Replay set
    → (chosen : List ℕ) × (a ≡ replay chosen) × IsChoice set chosen
asked_replay {set} c a means is = by_command a (subst (λ x. Means x a) is means)
  where
    by_command : (b : Asked) → Means (commands.Replay set) b
        → (chosen : List ℕ) × (b ≡ replay chosen) × IsChoice set chosen
    by_command _ (means_replay set chosen choice) = (chosen, refl, choice)

pub asked_trace : {budget : ℕ} (a : Asked) → Means (commands.Trace budget) a
    → (a ≡ trace budget) × (budget ≤ most_budget)
asked_trace _ (means_trace budget few) = (refl, few)

pub asked_exec : {budget : ℕ} (a : Asked) → Means (commands.Exec budget) a → a ≡ exec budget
asked_exec _ (means_exec budget few) = refl

means_to_soak : {number budget : ℕ} {set : RuleSet} (a : Asked) → Means (commands.Soak number budget set) a
    → (chosen : List ℕ) × (a ≡ soak number budget chosen) × (number ≤ most_functions) × (budget ≤ most_budget)
    × IsChoice set chosen
means_to_soak _ (means_soak number budget set chosen few_functions few choice) =
    (chosen, refl, few_functions, few, choice)

pub asked_soak : {number budget : ℕ} {set : RuleSet} (c : Command) (a : Asked) → Means c a
    → c ≡ commands.Soak number budget set
    → (chosen : List ℕ) × (a ≡ soak number budget chosen) × (number ≤ most_functions) × (budget ≤ most_budget)
    × IsChoice set chosen
asked_soak c a means is = means_to_soak a (subst (λ x. Means x a) is means)

-- a command that is none of these three reads a program
pub reads_program : (c : Command) (a : Asked) → Means c a
    → ((number budget : ℕ) (set : RuleSet) → c ≡ commands.Soak number budget set → ⊥) → (c ≡ commands.Unmap → ⊥)
    → ((set : RuleSet) → c ≡ commands.Replay set → ⊥) → (form : Form) × (form_of a ≡ Some form)
reads_program _ _ (means_lint budget set chosen few choice) other no_unmap no_replay = (forms.Script, refl)
reads_program _ _ (means_run budget few) other no_unmap no_replay = (forms.Script, refl)
reads_program _ _ means_check other no_unmap no_replay = (forms.Script, refl)
reads_program _ _ means_print other no_unmap no_replay = (forms.Script, refl)
reads_program _ _ means_instrument other no_unmap no_replay = (forms.Script, refl)
reads_program _ _ means_map other no_unmap no_replay = (forms.Script, refl)
reads_program _ _ means_srcmap other no_unmap no_replay = (forms.Script, refl)
reads_program _ _ means_unmap other no_unmap no_replay = absurd (no_unmap refl)
reads_program _ _ (means_trace budget few) other no_unmap no_replay = (forms.Script, refl)
reads_program _ _ (means_exec budget few) other no_unmap no_replay = (forms.WovenText, refl)
reads_program _ _ (means_record budget few) other no_unmap no_replay = (forms.Script, refl)
reads_program _ _ (means_replay set chosen choice) other no_unmap no_replay = absurd (no_replay set refl)
reads_program _ _ (means_objects budget few) other no_unmap no_replay = (forms.Script, refl)
reads_program _ _ (means_cover budget few) other no_unmap no_replay = (forms.Script, refl)
reads_program _ _ (means_soak number budget set chosen least few choice) other no_unmap no_replay = absurd
    (other number budget set refl)

-- and one that reads a program is none of them
pub never_soak : {number budget : ℕ} {set : RuleSet} (a : Asked) (form : Form) → form_of a ≡ Some form
    → Means (commands.Soak number budget set) a → ⊥
never_soak _ form is (means_soak number budget set chosen few_functions few choice) = absurd (cc)

pub never_unmap : (a : Asked) (form : Form) → form_of a ≡ Some form → Means commands.Unmap a → ⊥
never_unmap _ form is means_unmap = absurd (cc)

pub never_replay : {set : RuleSet} (a : Asked) (form : Form) → form_of a ≡ Some form → Means (commands.Replay set) a → ⊥
never_replay _ form is (means_replay set chosen choice) = absurd (cc)

-- what holds whatever the value is
pub always_ok : {T E K : Type 0} (r : Result T E) → K → OnOk r K
always_ok (Ok x) k = k
always_ok (Err e) k = tt

-- two things that hold of the value
pub both_hold : {T E : Type 0} (r : Result T E) (P Q R : T → Type 0) → ((x : T) → P x → Q x → R x) → IfOk r P
    → IfOk r Q → IfOk r R
both_hold (Ok x) P Q R f p q = f x p q
both_hold (Err e) P Q R f p q = tt
