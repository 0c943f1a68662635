-- What a function of the lexer answers, in the words of the plain scanner. No public clause stands on it.
use Rattle.std.specs.Prelude.{◌≡◌, ◌<◌, ◌≤◌, ℕ, List, drop, length, Result, Ok, Err}
use Rattle.jl_token.specs.Elements.{Element, White, LineEnd, LineComment, BlockComment, Word}
use Rattle.jl_token.specs.inner.Scanner.{Outcome, found, bad}
use Rattle.jl_lex.specs.declared.element.Element.{Element as Read}
use Rattle.jl_lex.specs.declared.element.Element.TheVariants as read
use Rattle.jl_lex.specs.declared.element.Stop.{Stop}
use Rattle.jl_lex.specs.declared.element.Stop.TheVariants as stops

-- the input element that the code's one stands for
abbrev pub element_of : Read → Element
element_of read.White = White
element_of read.LineEnd = LineEnd
element_of read.LineComment = LineComment
element_of (read.BlockComment l) = BlockComment l
element_of (read.Word k) = Word k

-- an element and the place after it, or the fault, that the scanner finds
abbrev pub IsFound : List ℕ → ℕ → Result (Read × ℕ) Stop → Outcome → Type 0
IsFound units i (Ok x) o = (o ≡ found (element_of x.0) (drop x.1 units)) × (i < x.1) × (x.1 ≤ length units)
IsFound units i (Err (stops.Bad k)) o = o ≡ bad k
IsFound units i (Err stops.NoMemory) o = Unit {0}

-- the same, where what follows begins where a caller says
abbrev pub IsNamed : List ℕ → ℕ → Result (Read × ℕ) Stop → Outcome → Type 0
IsNamed units end (Ok x) o = (o ≡ found (element_of x.0) (drop x.1 units)) × (x.1 ≡ end)
IsNamed units end (Err (stops.Bad k)) o = o ≡ bad k
IsNamed units end (Err stops.NoMemory) o = Unit {0}

-- the same, where the element began before the place
abbrev pub IsFrom : List ℕ → ℕ → Result (Read × ℕ) Stop → Outcome → Type 0
IsFrom units low (Ok x) o = (o ≡ found (element_of x.0) (drop x.1 units)) × (low ≤ x.1) × (x.1 ≤ length units)
IsFrom units low (Err (stops.Bad k)) o = o ≡ bad k
IsFrom units low (Err stops.NoMemory) o = Unit {0}
