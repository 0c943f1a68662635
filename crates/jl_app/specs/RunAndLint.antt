-- That `lint` shows of a script what `run` shows of it. This is a statement on two answers as bytes: it needs no
-- definition of the language, only how a line is written.
use Rattle.std.specs.Prelude.{◌≡◌, ℕ, ◌+◌, ◌*◌, ◌≤◌, List, [], ◌∷◌, ◌++◌, codes}
use Rattle.std.specs.Fmt.{decimal}
use Rattle.jl_app.specs.declared.answer.Answer.{Answer}
use Rattle.jl_app.specs.declared.status.Status.{Status}
use Rattle.jl_app.specs.declared.status.Status.TheVariants as status

-- the last line of `run`: `jlint: END steps=S`
abbrev pub run_end : (end : List ℕ) → (steps : ℕ) → List ℕ
run_end end steps = codes "jlint: " ++ (end ++ (codes " steps=" ++ (decimal steps ++ 10 ∷ [])))

-- the last line of `lint`: `jlint: END steps=T hooks=H reports=R`
abbrev pub lint_end : (end : List ℕ) → (steps hooks reports : ℕ) → List ℕ
lint_end end steps hooks reports =
    codes "jlint: " ++ (end ++ (codes " steps=" ++ (decimal steps ++ (codes " hooks=" ++ (decimal hooks
    ++ (codes " reports=" ++ (decimal reports ++ 10 ∷ [])))))))

-- a line of a report: `LINE:COLUMN RULE COUNT`
abbrev pub report_line : (line column : ℕ) → (rule : List ℕ) → (count : ℕ) → List ℕ
report_line line column rule count =
    decimal line ++ (codes ":" ++ (decimal column ++ (codes " " ++ (rule ++ (codes " " ++ decimal count)))))

-- the text is a report of this many lines, each of which ends with LF
pub data IsReport : (text : List ℕ) → (lines : ℕ) → Type 0 where
  none : IsReport [] 0
  more : (line column : ℕ) (rule : List ℕ) (count : ℕ) {text : List ℕ} {lines : ℕ} → IsReport text lines
      → IsReport ((report_line line column rule count ++ 10 ∷ []) ++ text) (lines + 1)

-- the text is the line for an uncaught throw, or empty
pub data IsThrown : List ℕ → Type 0 where
  nothing : IsThrown []
  uncaught : (what : List ℕ) → IsThrown (codes "uncaught " ++ (what ++ 10 ∷ []))

-- the statuses are equal, except that a run that ended normally and has a report is Clean for `run`, and Reports for
-- `lint`
pub data SameStatus : (run lint : Status) → (reports : ℕ) → Type 0 where
  same : (s : Status) (reports : ℕ) → SameStatus s s reports
  reported : (reports : ℕ) → SameStatus status.Clean status.Reports (reports + 1)

-- The answer of `lint` is the answer of `run` with a report: the script printed the same, threw the same and ended in
-- the same words, after no fewer steps, and at most 32 times as many and 64 more.
pub record ShowsSame (run lint : Answer) : Type 0 where
  pub output : List ℕ
  pub report : List ℕ
  pub thrown : List ℕ
  pub end : List ℕ
  pub run_steps : ℕ
  pub lint_steps : ℕ
  pub hooks : ℕ
  pub reports : ℕ
  pub is_report : IsReport report reports
  pub is_thrown : IsThrown thrown
  pub run_bytes : run.bytes.items ≡ output ++ (thrown ++ run_end end run_steps)
  pub lint_bytes : lint.bytes.items ≡ output ++ (report ++ (thrown ++ lint_end end lint_steps hooks reports))
  pub no_fewer : run_steps ≤ lint_steps
  pub not_many_more : lint_steps ≤ 32 * run_steps + 64
  pub status : SameStatus run.status lint.status reports

-- the status of `run` says that the bytes were accepted, and that the run ended within the budget
abbrev pub HasEnded : Status → Type 0
HasEnded status.Refused = ⊥
HasEnded status.Spent = ⊥
HasEnded _ = Unit {0}
