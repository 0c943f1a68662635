-- How much of the source is read, and what is due to more.
use Rattle.std.proofs.Common.{◌≡◌, ◌∙◌, ◌<◌, ◌≤◌, ◌^◌, ℕ, List, Option, Some, None, ap, arith, length, refl, subst, sym}
use Rattle.std.specs.Prelude.{IfSome, codes, option_and_then}
use Rattle.jl_command.specs.Asked.{Asked, check, cover, exec, instrument, lint, map_of_ids, objects, print}
use Rattle.jl_command.specs.Asked.{record_of_run}
use Rattle.jl_command.specs.Asked.{replay, request, run, soak, srcmap, trace, unmap}
use Rattle.jl_app.specs.Answers.{IsAnswered, IsDue, IsDueTo, answered_to, answered_to_made, bad_words, due_to, refused}
use Rattle.jl_app.specs.Answers.{replayed, unmapped}
use Rattle.jl_app.specs.Due.{Due, OnShelf, refused_only}
use Rattle.jl_app.specs.Forms.{ReadsSource, form_of, most_bytes, most_read, most_read_for}
use Rattle.jl_app.specs.Refusals.{too_long}
use Rattle.jl_app.specs.Replaying.{not_text}
use Rattle.jl_app.specs.SourceMapping.{no_text}
use Rattle.jl_app.specs.Texts.{longer}
use Rattle.jl_app.specs.declared.form.Form.{Form}
use Rattle.jl_app.specs.declared.form.Form.TheVariants as forms
use Rattle.jl_app.specs.declared.refusal.Refusal.TheVariants.{TooLong}

some_same : {A : Type 0} {a b : A} → Some a ≡ Some b → a ≡ b
some_same e = cc

-- it is never so much that a count of it wouldn't fit
few_read : (a : Asked) → IfSome (most_read a) (λ most. most < 2 ^ 63)
few_read (lint budget chosen) = omega arith
few_read (run budget) = omega arith
few_read check = omega arith
few_read print = omega arith
few_read instrument = omega arith
few_read map_of_ids = omega arith
few_read srcmap = omega arith
few_read unmap = omega arith
few_read (trace budget) = omega arith
few_read (exec budget) = omega arith
few_read (record_of_run budget) = omega arith
few_read (replay chosen) = omega arith
few_read (objects budget) = omega arith
few_read (cover budget) = omega arith
few_read (soak number budget chosen) = tt

pub few_read_for : (words : List (List ℕ)) (most : ℕ) → Some most ≡ most_read_for words → most < 2 ^ 63
few_read_for words most is = by_request (request words) is
  where
    by_request : (o : Option Asked) → Some most ≡ option_and_then most_read o → most < 2 ^ 63
    by_request None is = absurd (cc)
    by_request (Some a) is = subst (λ o. IfSome o (λ n. n < 2 ^ 63)) (sym is) (few_read a)

-- a command reads the source, or as much as nothing
pub reads_of_most : (a : Asked) (most : ℕ) → most_read a ≡ Some most → ReadsSource a
reads_of_most (lint budget chosen) most is = tt
reads_of_most (run budget) most is = tt
reads_of_most check most is = tt
reads_of_most print most is = tt
reads_of_most instrument most is = tt
reads_of_most map_of_ids most is = tt
reads_of_most srcmap most is = tt
reads_of_most unmap most is = tt
reads_of_most (trace budget) most is = tt
reads_of_most (exec budget) most is = tt
reads_of_most (record_of_run budget) most is = tt
reads_of_most (replay chosen) most is = tt
reads_of_most (objects budget) most is = tt
reads_of_most (cover budget) most is = tt
reads_of_most (soak number budget chosen) most is = absurd (cc)

pub reads_some : (a : Asked) → ReadsSource a → most_read a ≡ None → ⊥
reads_some (lint budget chosen) reads is = absurd (cc)
reads_some (run budget) reads is = absurd (cc)
reads_some check reads is = absurd (cc)
reads_some print reads is = absurd (cc)
reads_some instrument reads is = absurd (cc)
reads_some map_of_ids reads is = absurd (cc)
reads_some srcmap reads is = absurd (cc)
reads_some unmap reads is = absurd (cc)
reads_some (trace budget) reads is = absurd (cc)
reads_some (exec budget) reads is = absurd (cc)
reads_some (record_of_run budget) reads is = absurd (cc)
reads_some (replay chosen) reads is = absurd (cc)
reads_some (objects budget) reads is = absurd (cc)
reads_some (cover budget) reads is = absurd (cc)
reads_some (soak number budget chosen) reads is = reads

-- a command that reads a program reads as many bytes as that may have
pub most_of_form : (a : Asked) (form : Form) → form_of a ≡ Some form → most_read a ≡ Some (most_bytes form)
most_of_form (lint budget chosen) form is = ap (λ f. Some (most_bytes f)) (some_same is)
most_of_form (run budget) form is = ap (λ f. Some (most_bytes f)) (some_same is)
most_of_form check form is = ap (λ f. Some (most_bytes f)) (some_same is)
most_of_form print form is = ap (λ f. Some (most_bytes f)) (some_same is)
most_of_form instrument form is = ap (λ f. Some (most_bytes f)) (some_same is)
most_of_form map_of_ids form is = ap (λ f. Some (most_bytes f)) (some_same is)
most_of_form srcmap form is = ap (λ f. Some (most_bytes f)) (some_same is)
most_of_form unmap form is = absurd (cc)
most_of_form (trace budget) form is = ap (λ f. Some (most_bytes f)) (some_same is)
most_of_form (exec budget) form is = ap (λ f. Some (most_bytes f)) (some_same is)
most_of_form (record_of_run budget) form is = ap (λ f. Some (most_bytes f)) (some_same is)
most_of_form (replay chosen) form is = absurd (cc)
most_of_form (objects budget) form is = ap (λ f. Some (most_bytes f)) (some_same is)
most_of_form (cover budget) form is = ap (λ f. Some (most_bytes f)) (some_same is)
most_of_form (soak number budget chosen) form is = absurd (cc)

module _ {bytes : List ℕ} {shelf : OnShelf} (same : shelf.same) where
  -- a script, or a woven text, of more bytes
  long_program : (a : Asked) (form : Form) (most : ℕ) → form_of a ≡ Some form → Some (most_bytes form) ≡ Some most
      → most < length bytes → IsAnswered a bytes shelf (refused_only (codes "TooLong"))
  long_program a form most is bound more =
      refused form TooLong is (too_long (subst (λ n. n < length bytes) (sym (some_same bound)) more)) same

  -- what is due to more bytes than the command reads
  long_answer : (a : Asked) (most : ℕ) → most_read a ≡ Some most → most < length bytes
      → IsAnswered a bytes shelf (refused_only (codes "TooLong"))
  long_answer (lint budget chosen) most is more = long_program _ forms.Script most refl is more
  long_answer (run budget) most is more = long_program _ forms.Script most refl is more
  long_answer check most is more = long_program _ forms.Script most refl is more
  long_answer print most is more = long_program _ forms.Script most refl is more
  long_answer instrument most is more = long_program _ forms.Script most refl is more
  long_answer map_of_ids most is more = long_program _ forms.Script most refl is more
  long_answer srcmap most is more = long_program _ forms.Script most refl is more
  long_answer unmap most is more = unmapped refl
      (no_text TooLong (longer (subst (λ n. n < length bytes) (sym (some_same is)) more))) same
  long_answer (trace budget) most is more = long_program _ forms.Script most refl is more
  long_answer (exec budget) most is more = long_program _ forms.WovenText most refl is more
  long_answer (record_of_run budget) most is more = long_program _ forms.Script most refl is more
  long_answer (replay chosen) most is more = replayed chosen refl
      (not_text TooLong (longer (subst (λ n. n < length bytes) (sym (some_same is)) more))) same
  long_answer (objects budget) most is more = long_program _ forms.Script most refl is more
  long_answer (cover budget) most is more = long_program _ forms.Script most refl is more
  long_answer (soak number budget chosen) most is more = absurd (cc)

  pub long_due_to : (a : Asked) (most : ℕ) → most_read a ≡ Some most → most < length bytes
      → IsDueTo a bytes shelf (refused_only (codes "TooLong"))
  long_due_to a most is more = answered_to (reads_of_most a most is) (long_answer a most is more)

  pub long_due : (words : List (List ℕ)) (most : ℕ) → Some most ≡ most_read_for words → most < length bytes
      → IsDue words bytes shelf (refused_only (codes "TooLong"))
  long_due words most is more = by_request (request words) refl is
    where
      by_request : (o : Option Asked) → request words ≡ o → Some most ≡ option_and_then most_read o
          → IsDue words bytes shelf (refused_only (codes "TooLong"))
      by_request None e is = absurd (cc)
      by_request (Some a) e is = due_to a e (long_due_to a most (sym is) more)

-- what is due to words by which nothing is read, whatever the source holds
pub any_bytes : {words : List (List ℕ)} {shelf : OnShelf} {due : Due} (read bytes : List ℕ)
    → None ≡ most_read_for words → IsDue words read shelf due → IsDue words bytes shelf due
any_bytes read bytes none (bad_words bad same) = bad_words bad same
any_bytes read bytes none (due_to a is (answered_to reads answered)) =
    absurd (reads_some a reads (sym (none ∙ ap (λ o. option_and_then most_read o) is)))
any_bytes read bytes none (due_to a is (answered_to_made number budget chosen made answered)) =
    due_to a is (answered_to_made number budget chosen made answered)

-- the words of a command that reads
pub words_read : (words : List (List ℕ)) (most : ℕ) → Some most ≡ most_read_for words
    → (a : Asked) × (request words ≡ Some a) × ReadsSource a
words_read words most is = by_request (request words) refl is
  where
    by_request : (o : Option Asked) → request words ≡ o → Some most ≡ option_and_then most_read o
        → (a : Asked) × (request words ≡ Some a) × ReadsSource a
    by_request None e is = absurd (cc)
    by_request (Some a) e is = (a, e, reads_of_most a most (sym is))

-- a command that reads a program reads the source
pub reads_form : (a : Asked) (form : Form) → form_of a ≡ Some form → ReadsSource a
reads_form a form is = reads_of_most a (most_bytes form) (most_of_form a form is)

-- bytes of a script are no more than a command reads that reports of one
pub within_most : (a : Asked) {budget : ℕ} {chosen : List ℕ} (n : ℕ) → a ≡ lint budget chosen
    → n ≤ most_bytes forms.Script → IfSome (most_read a) (λ most. n ≤ most)
within_most a n is few = subst (λ (x : Asked). IfSome (most_read x) (λ most. n ≤ most)) (sym is) few
