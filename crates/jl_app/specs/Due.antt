-- What is due to a call: a status, and bytes.
use Rattle.std.specs.Prelude.{◌≡◌, ℕ, List, [], ◌∷◌, ◌++◌, Option, Some, None, codes}
use Rattle.jl_op.specs.Operations.{Operation}
use Rattle.jl_app.specs.declared.answer.Answer.{Answer}
use Rattle.jl_app.specs.declared.status.Status.{Status}
use Rattle.jl_app.specs.declared.status.Status.TheVariants as status

-- a status, the bytes that are written with it, and the operations that the crowd observes; where there is no run of
-- which it is to report, it stays as it was
pub record Due : Type 0 where
  pub status : Status
  pub bytes : List ℕ
  pub told : Option (List Operation)

-- what became of a shelf: the text that it was handed last, and the one that it lends, once the command is over; and
-- that it is as it was
pub record OnShelf : Type 1 where
  pub handed : List ℕ
  pub lent : List ℕ
  pub same : Type 0

-- what became of the crowd: that it is as it was, and the lists of operations whose summary each of its checkers has
pub record OnCrowd : Type 1 where
  pub same : Type 0
  pub told : List Operation → Type 0

-- the crowd has the summary of these operations, or is as it was
abbrev pub IsTold : OnCrowd → Option (List Operation) → Type 0
IsTold crowd (Some operations) = crowd.told operations
IsTold crowd None = crowd.same

-- the answer is this due
pub record IsGiven (crowd : OnCrowd) (given : Answer) (due : Due) : Type 0 where
  pub status : given.status ≡ due.status
  pub bytes : given.bytes.items ≡ due.bytes
  pub told : IsTold crowd due.told

-- the answer without a run: these bytes
abbrev pub text_only : Status → List ℕ → Due
text_only status bytes = record { status = status; bytes = bytes; told = None }

-- the answer without a run: a line
abbrev pub line_only : Status → List ℕ → Due
line_only status text = text_only status (codes "jlint: " ++ (text ++ 10 ∷ []))

-- the answer to a script, or another text, that is refused, with these words of the refusal
abbrev pub refused_only : List ℕ → Due
refused_only text = line_only status.Refused (codes "refused " ++ text)
