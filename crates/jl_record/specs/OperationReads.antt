-- What reading the facts of an operation of a known kind answers.
use Rattle.std.specs.Prelude.{◌≡◌, ℕ, List, Option, MatchOption}
use Rattle.jl_op.specs.declared.kind.OpKind.{OpKind}
use Rattle.jl_op.specs.declared.op.Op.{Op}
use Rattle.jl_op.specs.Kinds.{kind_of}
use Rattle.jl_record.specs.Facts.{Facts, AreFacts, marks}
use Rattle.jl_record.specs.Operations.{IsStorable, sorts_of, facts_of}

-- no facts of this kind have these units as their marks
abbrev pub NoFacts : (kind : OpKind) → (units : List ℕ) → Type 0
NoFacts kind units = (f : Facts (sorts_of kind)) → AreFacts (sorts_of kind) f → units ≡ marks (sorts_of kind) f → ⊥

-- its kind is this, its facts are facts of the kind, and the units are their marks
pub record IsWritten (kind : OpKind) (units : List ℕ) (op : Op) : Type 0 where
  pub same : kind_of op ≡ kind
  pub facts : IsStorable op
  pub marked : units ≡ marks (sorts_of (kind_of op)) (facts_of op)

-- the operation of this kind whose facts the units are, where there is one
abbrev pub IsReadAs : (kind : OpKind) → (units : List ℕ) → Option Op → Type 0
IsReadAs kind units found = MatchOption found (NoFacts kind units) (IsWritten kind units)
