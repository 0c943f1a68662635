-- What the examples show of runs. These are tests, since equations between texts are quickly computed, and such
-- between stores or operations are not.
use Rattle.std.specs.Prelude.{ℕ, ◌∷◌, [], List, ◌++◌, codes, Bool, false, ◌&&◌, ◌==◌, ◌-◌, filter, map, length}
use Rattle.std.specs.Prelude.{slice_get, if◌then◌else◌}
use Rattle.std.specs.List.{list_all}
use Rattle.std.specs.Option.{option_map_or}
use Rattle.std.specs.Fmt.{decimal}
use Rattle.std.specs.Str.{bytes_eq}
use Rattle.jl_text.specs.Encoding.{bytes_of}
use Rattle.jl_ast.specs.Tree.{Program}
use Rattle.jl_value.specs.Faults.{fault_text}
use Rattle.jl_value.specs.declared.ending.Completion.TheVariants as completion
use Rattle.jl_heap.specs.Describe.{description_of}
use Rattle.jl_op.specs.Chosen.{every_kind, is_kept, Kinds}
use Rattle.jl_op.specs.IdMap.{id_map}
use Rattle.jl_op.specs.Kinds.{kind_of, kind_name}
use Rattle.jl_op.specs.Operations.{Operation}
use Rattle.jl_op.specs.Trace.{op_line}
use Rattle.jl_op.specs.declared.kind.OpKind.{OpKind}
use Rattle.jl_effects.specs.Matching.{step_bound}
use Rattle.jl_effects.specs.Running.{Over, Spent, Ends, Fails, state_of, steps_taken}
use Rattle.jl_meaning.specs.Mean.{mean, Run}
use Rattle.jl_simulation.specs.Weaving.{woven_program}

-- a line, and those after it
abbrev pub line : List ℕ → List ℕ → List ℕ
line t rest = t ++ 10 ∷ rest

-- the lines of a trace
abbrev pub trace_lines : List Operation → List ℕ
trace_lines [] = []
trace_lines (o ∷ os) = line (op_line o.0 o.1) (trace_lines os)

-- the line of an uncaught throw
abbrev pub uncaught_line : Run → List ℕ
uncaught_line (Over (Ends (completion.Throw v)) left w) =
    line (codes "uncaught " ++ bytes_of (description_of w.store.heap v)) []
uncaught_line _ = []

abbrev pub ending : Run → List ℕ
ending (Over (Ends completion.Normal) left w) = codes "jlint: normal"
ending (Over (Ends (completion.Throw v)) left w) = codes "jlint: thrown"
ending (Over (Ends how) left w) = codes "?"
ending (Over (Fails f) left w) = codes "jlint: fault " ++ fault_text f
ending (Spent w) = codes "jlint: spent"

abbrev pub with_steps : (budget : ℕ) → Run → List ℕ → List ℕ
with_steps budget r text = text ++ codes " steps=" ++ decimal (steps_taken budget r)

abbrev pub with_hooks : Run → List ℕ → List ℕ
with_hooks r text = text ++ codes " hooks=" ++ decimal (length (state_of r).hooks)

-- these lines; a `'` stands for a quotation mark
abbrev pub quote_mark : ℕ → ℕ
quote_mark unit = if unit == 39 then 34 else unit

abbrev pub text_of : List (List ℕ) → List ℕ
text_of [] = []
text_of (t ∷ l) = line (map quote_mark t) (text_of l)

-- the output, the line of an uncaught throw, and the last line
abbrev pub answer : Run → (last : List ℕ) → List ℕ
answer r last = (state_of r).output ++ uncaught_line r ++ line last []

-- the operation is of the kind that the map has for its id
abbrev pub is_in_map : List (OpKind × Unit {0}) → Operation → Bool
is_in_map entries o =
    option_map_or (λ (r : OpKind × Unit {0}). bytes_eq (kind_name r.0) (kind_name (kind_of o.1)))
    (slice_get entries (o.0.0 - 1)) false

-- the operations of the chosen kinds
abbrev pub kept_operations : Kinds → Run → List Operation
kept_operations chosen r = filter (is_kept chosen) (state_of r).operations

-- the woven run prints and ends like the script's own, its hooks emit the operations of the own run in order, ids
-- included, as far as they are of the chosen kinds, and each operation stands in the map
abbrev pub are_alike : Kinds → Program (Unit {0}) → (own woven : Run) → Bool
are_alike chosen p own woven =
    bytes_eq (answer own (ending own)) (answer woven (ending woven))
    && (bytes_eq (trace_lines (kept_operations chosen own)) (trace_lines (state_of woven).hooks)
    && list_all (is_in_map (id_map p)) (state_of own).operations)

abbrev pub budget : ℕ
budget = 5000

abbrev pub own_run : Program (Unit {0}) → Run
own_run p = mean every_kind p budget

abbrev pub woven_run : Kinds → Program (Unit {0}) → Run
woven_run chosen p = mean chosen (woven_program chosen p) (step_bound budget)

-- the script's own run answers this, and its woven run is alike
abbrev pub runs : Program (Unit {0}) → List (List ℕ) → Bool
runs p text =
    let own = own_run p in
    bytes_eq (answer own (with_steps budget own (ending own))) (text_of text)
    && are_alike every_kind p own (woven_run every_kind p)

-- the same, but for the number of steps
abbrev pub prints : Program (Unit {0}) → List (List ℕ) → Bool
prints p text =
    let own = own_run p in
    bytes_eq (answer own (ending own)) (text_of text) && are_alike every_kind p own (woven_run every_kind p)

-- with so many steps the script's own run answers this
abbrev pub answers : (steps : ℕ) → Program (Unit {0}) → List (List ℕ) → Bool
answers n p text =
    let own = mean every_kind p n in bytes_eq (answer own (with_steps n own (ending own))) (text_of text)

-- what a run with so many steps answers, with the number of its hooks
abbrev pub hooked_answer : (steps : ℕ) → Run → List ℕ
hooked_answer n r = answer r (with_hooks r (with_steps n r (ending r)))

-- the woven run for these kinds answers this, and is alike
abbrev pub weaves : Kinds → Program (Unit {0}) → List (List ℕ) → Bool
weaves chosen p text =
    let woven = woven_run chosen p in
    bytes_eq (hooked_answer (step_bound budget) woven) (text_of text) && are_alike chosen p (own_run p) woven

-- the lines of the hooks of a run with so many steps, and then its last line
abbrev pub trace_of : (steps : ℕ) → Run → List ℕ
trace_of n r = trace_lines (state_of r).hooks ++ uncaught_line r ++ line (with_hooks r (with_steps n r (ending r))) []

-- the hooks of the woven script emit this
abbrev pub traces : Program (Unit {0}) → List (List ℕ) → Bool
traces p text = bytes_eq (trace_of (step_bound budget) (woven_run every_kind p)) (text_of text)

-- the hooks of a script that calls them by itself emit this, with so many steps
abbrev pub executes : (steps : ℕ) → Program (Unit {0}) → List (List ℕ) → Bool
executes n p text = bytes_eq (trace_of n (mean every_kind p n)) (text_of text)

-- the last line of its run
abbrev pub ends_with : Program (Unit {0}) → List (List ℕ) → Bool
ends_with p text =
    let r = own_run p in bytes_eq (line (with_hooks r (with_steps budget r (ending r))) []) (text_of text)
