-- What is due has a status of its own: none of those of a failure to read or to write, or of memory.
use Rattle.std.proofs.Common.{◌≡◌, ℕ, List, [], ◌∷◌, ap, refl, subst, sym, ◌∙◌}
use Rattle.jl_ast.specs.Tree.{Program}
use Rattle.jl_command.specs.Asked.{Asked, check, cover, exec, instrument, lint, map_of_ids, objects, print}
use Rattle.jl_command.specs.Asked.{record_of_run}
use Rattle.jl_command.specs.Asked.{replay, run, soak, srcmap, trace, unmap}
use Rattle.jl_machine.specs.Runs.{ending_of}
use Rattle.jl_meaning.specs.Mean as mean
use Rattle.jl_op.specs.Operations.{Operation}
use Rattle.jl_text.specs.declared.span.Span.{Span}
use Rattle.jl_value.specs.declared.ending.Outcome.{Outcome as Ending}
use Rattle.jl_value.specs.declared.ending.Outcome.TheVariants as ending
use Rattle.jl_app.specs.Answers.{accepted, answered_to, answered_to_made, bad_words, counted, due_to, ended}
use Rattle.jl_app.specs.Answers.{ended_alone}
use Rattle.jl_app.specs.Answers.{ended_woven, listed, refused, replayed, text, unmapped, written, IsAnswered, IsChecked}
use Rattle.jl_app.specs.Answers.{IsDue, IsDueTo, IsExecuted, IsInstrumented, IsMapped, IsPrinted, IsTraced}
use Rattle.jl_app.specs.Answers.{IsTracedAlone, Responds}
use Rattle.jl_app.specs.Due.{Due, OnShelf}
use Rattle.jl_app.specs.Endings.{HasAnswered}
use Rattle.jl_app.specs.Linting.{lint_status, ran, unread, IsLinted}
use Rattle.jl_app.specs.OwnRuns.{ending_status}
use Rattle.jl_app.specs.Recording.{recorded, too_long_record, IsRecorded}
use Rattle.jl_app.specs.Replaying.{no_record, not_text, replay_status, reported, IsReplayed}
use Rattle.jl_app.specs.Reporting.{Lines}
use Rattle.jl_app.specs.SourceMapping.{listed_segments, mapped_back, no_json, no_map, no_segment, no_text, IsMappedBack}
use Rattle.jl_app.specs.SourceMapping.{IsUnmapped}
use Rattle.jl_app.specs.declared.status.Status.{Status}

lint_answers : (end : Ending) (lines : Lines) → HasAnswered (lint_status end lines)
lint_answers ending.Normal [] = tt
lint_answers ending.Normal (line ∷ lines) = tt
lint_answers (ending.Thrown v) lines = tt
lint_answers (ending.Fault f) lines = tt
lint_answers ending.Spent lines = tt

run_answers : (end : Ending) → HasAnswered (ending_status end)
run_answers ending.Normal = tt
run_answers (ending.Thrown v) = tt
run_answers (ending.Fault f) = tt
run_answers ending.Spent = tt

module _ (units : List ℕ) (p : Program Span) where
  linted : (budget : ℕ) (chosen lent : List ℕ) (d : Due) → IsLinted units p budget chosen lent d → HasAnswered d.status
  linted budget chosen lent _ (unread none) = tt
  linted budget chosen lent _ (ran q lines hooks read is) = lint_answers _ lines

  checked : (d : Due) → IsChecked p d → HasAnswered d.status
  checked _ counted = tt

  printed : (d : Due) → IsPrinted p d → HasAnswered d.status
  printed _ written = tt

  instrumented : (d : Due) → IsInstrumented p d → HasAnswered d.status
  instrumented _ text = tt

  mapped : (d : Due) → IsMapped units p d → HasAnswered d.status
  mapped _ listed = tt

  executed : (budget : ℕ) (d : Due) → IsExecuted p budget d → HasAnswered d.status
  executed budget _ ended = run_answers _

  traced : (budget : ℕ) (d : Due) → IsTraced p budget d → HasAnswered d.status
  traced budget _ ended_woven = run_answers _

  alone : (budget : ℕ) (d : Due) → IsTracedAlone p budget d → HasAnswered d.status
  alone budget _ ended_alone = run_answers _

  mapped_back_answers : (d : Due) → IsMappedBack units p d → HasAnswered d.status
  mapped_back_answers _ (mapped_back tokens lexed) = tt

  recorded_answers : (r : mean.Run) (operations : List Operation) (d : Due) → IsRecorded units p r operations d
      → HasAnswered d.status
  recorded_answers r operations _ (recorded comments are stored few) = run_answers _
  recorded_answers r operations _ (too_long_record comments are many) = tt

  told_answers : (r : mean.Run) (d told : Due) → d ≡ told → told.status ≡ ending_status (ending_of r)
      → HasAnswered d.status
  told_answers r d told is status =
      subst HasAnswered (sym (ap (λ (x : Due). x.status) is ∙ status)) (run_answers (ending_of r))

  responds_answers : (a : Asked) (shelf : OnShelf) (d : Due) → Responds a units p shelf d → HasAnswered d.status
  responds_answers (lint budget chosen) shelf d x = linted budget chosen shelf.lent d x.1
  responds_answers check shelf d x = checked d x.1
  responds_answers print shelf d x = printed d x.1
  responds_answers instrument shelf d x = instrumented d x.1
  responds_answers map_of_ids shelf d x = mapped d x.1
  responds_answers srcmap shelf d x = mapped_back_answers d x.1
  responds_answers (record_of_run budget) shelf d x = recorded_answers _ _ d x.1
  responds_answers (objects budget) shelf d x = told_answers _ d _ x.1 refl
  responds_answers (cover budget) shelf d x = told_answers _ d _ x.1 refl
  responds_answers (run budget) shelf d x = executed budget d x.1
  responds_answers (trace budget) shelf d x = traced budget d x.1
  responds_answers (exec budget) shelf d x = alone budget d x.1
  responds_answers (soak number budget chosen) shelf d x = absurd x
  responds_answers unmap shelf d x = absurd x
  responds_answers (replay chosen) shelf d x = absurd x

unmapped_answers : (bytes : List ℕ) (d : Due) → IsUnmapped bytes d → HasAnswered d.status
unmapped_answers bytes _ (no_text cause is) = tt
unmapped_answers bytes _ (no_json is refusal) = tt
unmapped_answers bytes _ (no_map is refusal) = tt
unmapped_answers bytes _ (no_segment at is refusal) = tt
unmapped_answers bytes _ (listed_segments ss is has) = tt

replay_answers : (lines : Lines) → HasAnswered (replay_status lines)
replay_answers [] = tt
replay_answers (line ∷ lines) = tt

replayed_answers : (chosen bytes : List ℕ) (d : Due) → IsReplayed chosen bytes d → HasAnswered d.status
replayed_answers chosen bytes _ (not_text cause is) = tt
replayed_answers chosen bytes _ (no_record n is refusal) = tt
replayed_answers chosen bytes _ (reported stored lines is of words report) = replay_answers lines

answered_answers : (a : Asked) (bytes : List ℕ) (shelf : OnShelf) (d : Due) → IsAnswered a bytes shelf d
    → HasAnswered d.status
answered_answers a bytes shelf _ (refused form c reads why same) = tt
answered_answers a bytes shelf d (accepted form p reads read responds) = responds_answers _ p a shelf d responds
answered_answers a bytes shelf d (unmapped is x same) = unmapped_answers bytes d x
answered_answers a bytes shelf d (replayed chosen is x same) = replayed_answers chosen bytes d x

due_to_answers : (a : Asked) (bytes : List ℕ) (shelf : OnShelf) (d : Due) → IsDueTo a bytes shelf d
    → HasAnswered d.status
due_to_answers a bytes shelf d (answered_to reads x) = answered_answers a bytes shelf d x
due_to_answers a bytes shelf d (answered_to_made n b c is x) = answered_answers (lint b c) _ shelf d x

is_due_answers : (words : List (List ℕ)) (bytes : List ℕ) (shelf : OnShelf) (d : Due)
    → IsDue words bytes shelf d → HasAnswered d.status
is_due_answers words bytes shelf _ (bad_words none same) = tt
is_due_answers words bytes shelf d (due_to a is x) = due_to_answers a bytes shelf d x

pub due_answers : {words : List (List ℕ)} {bytes : List ℕ} {shelf : OnShelf} (s : Status) (d : Due)
    → s ≡ d.status → IsDue words bytes shelf d → HasAnswered s
due_answers {words = words} {bytes = bytes} {shelf = shelf} s d same is =
    subst HasAnswered (sym same) (is_due_answers words bytes shelf d is)
