-- Bytes that a source has left and bytes that a sink was given, where they are told. Those that are
-- told stay told in a call, and those that are not stay untold.
use Rattle.std.specs.Prelude.{◌≡◌, ℕ, ◌≤◌, List, [], ◌++◌, length, Option, None, Some, IfSome}

-- told bytes, with these in front
abbrev pub with_front : List ℕ → Option (List ℕ) → Option (List ℕ)
with_front front None = None
with_front front (Some bytes) = Some (front ++ bytes)

-- told bytes, with these at the end
abbrev pub with_end : Option (List ℕ) → List ℕ → Option (List ℕ)
with_end None more = None
with_end (Some bytes) more = Some (bytes ++ more)

-- what was left is these bytes, and then what is left now
abbrev pub Takes : Option (List ℕ) → Option (List ℕ) → List ℕ → Type 0
Takes old new taken = old ≡ with_front taken new

-- what is written now is what was written, and then these bytes
abbrev pub Grows : Option (List ℕ) → Option (List ℕ) → List ℕ → Type 0
Grows old new more = new ≡ with_end old more

-- nothing is left, where that is told
abbrev pub IsAtEnd : Option (List ℕ) → Type 0
IsAtEnd left = IfSome left (λ bytes. bytes ≡ [])

-- n bytes were taken
abbrev pub TakesCount : Option (List ℕ) → Option (List ℕ) → ℕ → Type 0
TakesCount old new n = (taken : List ℕ) × (length taken ≡ n) × Takes old new taken

-- at most n bytes were taken
abbrev pub TakesAtMost : Option (List ℕ) → Option (List ℕ) → ℕ → Type 0
TakesAtMost old new n = (taken : List ℕ) × (length taken ≤ n) × Takes old new taken
