-- What is due to a list of words, and to a script.
use Rattle.std.specs.Prelude.{◌≡◌, ℕ, List, ◌++◌, Some, None, codes, length}
use Rattle.std.specs.Fmt.{decimal}
use Rattle.jl_ast.specs.Table.{table}
use Rattle.jl_ast.specs.Tree.{Program}
use Rattle.jl_command.specs.Asked.{Asked, check, cover, exec, instrument, lint, map_of_ids, objects, print}
use Rattle.jl_command.specs.Asked.{record_of_run, replay, request, run, soak, srcmap, trace, unmap}
use Rattle.jl_effects.specs.Running.{state_of as world_of, steps_taken}
use Rattle.jl_machine.specs.Runs.{ending_of}
use Rattle.jl_meaning.specs.Mean as mean
use Rattle.jl_op.specs.Chosen.{every_kind}
use Rattle.jl_op.specs.IdMap.{id_map}
use Rattle.jl_op.specs.Map.{map_lines}
use Rattle.jl_print.specs.Layout.{text_of}
use Rattle.jl_soak.specs.Script.{script_of}
use Rattle.jl_text.specs.Encoding.{bytes_of, units_of}
use Rattle.jl_text.specs.Places.{line_table}
use Rattle.jl_text.specs.declared.span.Span.{Span}
use Rattle.jl_app.specs.Accepting.{IsRead}
use Rattle.jl_app.specs.Due.{Due, OnShelf, line_only, refused_only, text_only}
use Rattle.jl_app.specs.Forms.{ReadsSource, form_of}
use Rattle.jl_app.specs.Linting.{IsLinted}
use Rattle.jl_app.specs.OwnRuns.{ending_status, own_run, steps_line, uncaught_line}
use Rattle.jl_app.specs.Refusals.{IsRefused, refusal_words}
use Rattle.jl_app.specs.Replaying.{IsReplayed}
use Rattle.jl_app.specs.SourceMapping.{IsMappedBack, IsUnmapped}
use Rattle.jl_app.specs.Telling.{IsToldOfWoven, told_run}
use Rattle.jl_app.specs.Tracing.{hooks_line, trace_lines}
use Rattle.jl_app.specs.WovenRuns.{woven_budget}
use Rattle.jl_app.specs.WovenText.{kinds_of, woven_text}
use Rattle.jl_app.specs.declared.form.Form.{Form}
use Rattle.jl_app.specs.declared.refusal.Refusal.{Refusal}
use Rattle.jl_app.specs.declared.status.Status.TheVariants as status

-- the line that counts a program's functions
abbrev pub functions_line : Program Span → Due
functions_line p = line_only status.Clean (codes "accepted functions=" ++ decimal (length (table p)))

-- what `check` answers to it
pub data IsChecked (p : Program Span) : Due → Type 0 where
  counted : IsChecked p (functions_line p)

-- a program's canonical text, in UTF-8
abbrev pub canonical_text : Program Span → Due
canonical_text p = text_only status.Clean (bytes_of (text_of p))

-- what `print` answers to it
pub data IsPrinted (p : Program Span) : Due → Type 0 where
  written : IsPrinted p (canonical_text p)

-- the text of the program that is woven for operations of all kinds, in UTF-8
abbrev pub instrument_due : Program Span → Due
instrument_due p = text_only status.Clean (bytes_of (woven_text every_kind p))

-- what `instrument` answers to it
pub data IsInstrumented (p : Program Span) : Due → Type 0 where
  text : IsInstrumented p (instrument_due p)

-- the lines of the map of a program that a source of these units is read as
abbrev pub listed_map : (units : List ℕ) → Program Span → Due
listed_map units p = text_only status.Clean (map_lines (line_table units) (id_map p))

-- what `map` answers to it
pub data IsMapped (units : List ℕ) (p : Program Span) : Due → Type 0 where
  listed : IsMapped units p (listed_map units p)

-- what a program printed that ran as it stands with this budget, what it threw, and the last line
abbrev pub execute_due : mean.Run → (steps : ℕ) → Due
execute_due r steps = text_only (ending_status (ending_of r))
    ((world_of r).output ++ (uncaught_line (world_of r).store.heap (ending_of r)
    ++ steps_line (ending_of r) (steps_taken steps r)))

-- what `run` answers to it with this budget
pub data IsExecuted (p : Program Span) (budget : ℕ) : Due → Type 0 where
  ended : IsExecuted p budget (execute_due (own_run p budget) budget)

-- the operations that the hooks of a run with this budget told of, what it threw, and the last line
abbrev pub trace_due : mean.Run → (steps : ℕ) → Due
trace_due r steps = text_only (ending_status (ending_of r))
    (trace_lines (world_of r).hooks ++ (uncaught_line (world_of r).store.heap (ending_of r)
    ++ hooks_line (ending_of r) (steps_taken steps r) (length (world_of r).hooks)))

-- what `trace` answers to it with this budget: the run of the woven script
pub data IsTraced (p : Program Span) (budget : ℕ) : Due → Type 0 where
  ended_woven : IsTraced p budget (trace_due (told_run every_kind p budget) (woven_budget budget))

-- what `exec` answers to a woven text that is read as the program q, with this budget: its run as it stands
pub data IsTracedAlone (q : Program Span) (budget : ℕ) : Due → Type 0 where
  ended_alone : IsTracedAlone q budget (trace_due (own_run q budget) budget)

-- What a command answers to a source of these units that is read as this program. `lint` hands the shelf the text of
-- the script that is woven for the kinds that its rules look at; no other command touches it.
abbrev pub Responds : Asked → (units : List ℕ) → Program Span → OnShelf → Due → Type 0
Responds (lint budget chosen) units p shelf due =
    (shelf.handed ≡ woven_text (kinds_of chosen) p) × IsLinted units p budget chosen shelf.lent due
Responds check units p shelf due = shelf.same × IsChecked p due
Responds print units p shelf due = shelf.same × IsPrinted p due
Responds instrument units p shelf due = shelf.same × IsInstrumented p due
Responds map_of_ids units p shelf due = shelf.same × IsMapped units p due
Responds srcmap units p shelf due = shelf.same × IsMappedBack units p due
Responds (run budget) units p shelf due = shelf.same × IsExecuted p budget due
Responds (exec budget) units p shelf due = shelf.same × IsTracedAlone p budget due
Responds (trace budget) units p shelf due = shelf.same × IsTraced p budget due
Responds (record_of_run budget) units p shelf due = shelf.same × IsToldOfWoven (record_of_run budget) units p budget due
Responds (objects budget) units p shelf due = shelf.same × IsToldOfWoven (objects budget) units p budget due
Responds (cover budget) units p shelf due = shelf.same × IsToldOfWoven (cover budget) units p budget due
-- these read no program
Responds (soak number budget chosen) units p shelf due = ⊥
Responds unmap units p shelf due = ⊥
Responds (replay chosen) units p shelf due = ⊥

-- what a command answers to these bytes: those of a program are refused or accepted, and others are read as the command
-- says
pub data IsAnswered (a : Asked) (bytes : List ℕ) (shelf : OnShelf) : Due → Type 0 where
  refused : (form : Form) (cause : Refusal) → form_of a ≡ Some form → IsRefused form bytes cause → shelf.same
      → IsAnswered a bytes shelf (refused_only (refusal_words cause))
  accepted : {due : Due} (form : Form) (p : Program Span) → form_of a ≡ Some form → IsRead form bytes p
      → Responds a (units_of bytes) p shelf due → IsAnswered a bytes shelf due
  unmapped : {due : Due} → a ≡ unmap → IsUnmapped bytes due → shelf.same → IsAnswered a bytes shelf due
  replayed : {due : Due} (chosen : List ℕ) → a ≡ replay chosen → IsReplayed chosen bytes due → shelf.same
      → IsAnswered a bytes shelf due

-- what is due to a command, where the source holds these bytes
pub data IsDueTo (a : Asked) (bytes : List ℕ) (shelf : OnShelf) : Due → Type 0 where
  answered_to : {due : Due} → ReadsSource a → IsAnswered a bytes shelf due → IsDueTo a bytes shelf due
  -- `soak` answers what `lint` does to the script of this many functions
  answered_to_made : {due : Due} (number budget : ℕ) (chosen : List ℕ) → a ≡ soak number budget chosen
      → IsAnswered (lint budget chosen) (script_of number) shelf due → IsDueTo a bytes shelf due

-- what is due to these words
pub data IsDue (words : List (List ℕ)) (bytes : List ℕ) (shelf : OnShelf) : Due → Type 0 where
  bad_words : request words ≡ None → shelf.same
      → IsDue words bytes shelf (line_only status.BadWords (codes "bad words"))
  due_to : {due : Due} (a : Asked) → request words ≡ Some a → IsDueTo a bytes shelf due → IsDue words bytes shelf due
