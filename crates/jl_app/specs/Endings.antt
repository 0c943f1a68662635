-- How a command ends.
use Rattle.std.specs.Prelude.{◌≡◌, ℕ, ◌<◌, List, Option, Some, length, take}
use Rattle.jl_port.specs.Bytes.{Grows}
use Rattle.jl_port.specs.Count.{HasRisen}
use Rattle.jl_app.specs.declared.status.Status.{Status}
use Rattle.jl_app.specs.declared.status.Status.TheVariants as status
use Rattle.jl_command.specs.Asked.{Asked, request}
use Rattle.jl_app.specs.Forms.{ReadsSource}
use Rattle.jl_app.specs.Answers.{IsDue}
use Rattle.jl_app.specs.Due.{Due, IsTold, OnCrowd, OnShelf}

-- what a call was given, and what it left: its words; the bytes that the source held, and its faults before and after;
-- what the sink was given, where it tells, and its faults, before and after; and what became of the shelf and the crowd
pub record Call : Type 1 where
  pub words : List (List ℕ)
  pub held : List ℕ
  pub read_faults : ℕ × ℕ
  pub written : Option (List ℕ) × Option (List ℕ)
  pub write_faults : ℕ × ℕ
  pub shelf : OnShelf
  pub crowd : OnCrowd

-- A command ends in one of four ways, each with the statuses that go with it.
pub data EndsWith (call : Call) : Status → Type 0 where
  -- what is due was written, and the crowd observed the operations that are reported, or is as it was
  answered : (due : Due) → IsDue call.words call.held call.shelf due
      → Grows call.written.0 call.written.1 due.bytes → IsTold call.crowd due.told → EndsWith call due.status
  -- the sink failed, and a proper prefix of what is due was written
  write_failed : (due : Due) (n : ℕ) → IsDue call.words call.held call.shelf due
      → HasRisen call.write_faults.0 call.write_faults.1 → n < length due.bytes
      → Grows call.written.0 call.written.1 (take n due.bytes) → IsTold call.crowd due.told
      → EndsWith call status.WriteFault
  -- the source failed, and nothing was written
  read_failed : (a : Asked) → request call.words ≡ Some a → ReadsSource a
      → HasRisen call.read_faults.0 call.read_faults.1 → call.written.1 ≡ call.written.0 → call.shelf.same
      → call.crowd.same → EndsWith call status.ReadFault
  -- memory was wanted, and nothing was written
  no_memory : call.written.1 ≡ call.written.0 → EndsWith call status.NoMemory

-- the command was neither kept from reading nor from writing, nor did it want memory
abbrev pub HasAnswered : Status → Type 0
HasAnswered status.ReadFault = ⊥
HasAnswered status.WriteFault = ⊥
HasAnswered status.NoMemory = ⊥
HasAnswered _ = Unit {0}
