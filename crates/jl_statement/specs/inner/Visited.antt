-- What a `for-in` may visit, as it is gathered (12.6.4).
use Rattle.std.specs.Borrow.{Bor}
use Rattle.std.specs.Prelude.{[], ◌∷◌, ◌≡◌, map, List, None, Option, Some, ℕ}
use Rattle.jl_ast.specs.declared.tree.Stmt.{Stmt}
use Rattle.jl_heap.specs.Objects.{Name, Objects}
use Rattle.jl_meaning.specs.Parts as parts
use Rattle.jl_meaning.specs.forms.Literals.{index_name}
use Rattle.jl_meaning.specs.forms.Loops.{visits_left}
use Rattle.jl_state.specs.Turns.{visits_seen}
use Rattle.jl_state.specs.Words.{visit_of}
use Rattle.jl_state.specs.declared.statement_frame.Loop.{Loop}
use Rattle.jl_state.specs.declared.statement_frame.Loop.TheVariants as loop
use Rattle.jl_state.specs.declared.statement_frame.Visit.{Visit}
use Rattle.jl_state.specs.declared.statement_frame.Visits.{Visits}

abbrev pub all_seen : List Visit → List parts.Visit
all_seen visits = map visit_of visits

-- a unit of a String object, by its index
abbrev pub unit_visit : (holder : ℕ) → ℕ → parts.Visit
unit_visit holder i = record { holder = holder; name = index_name i; serial = None }

-- a property that is stored, by its name and its serial
abbrev pub property_visit : (holder : ℕ) → Name × ℕ → parts.Visit
property_visit holder n = record { holder = holder; name = n.0; serial = Some n.1 }

-- the name that is visited next of these, and what is left then
abbrev pub IsNext : List parts.Visit → Option Name → Visits → Type 0
IsNext l None rest = l ≡ []
IsNext l (Some name) rest = (v : parts.Visit) × (v.name ≡ name) × (l ≡ v ∷ visits_seen rest)

-- the visits of a `for-in`; another loop has none
abbrev pub visits_in : Loop → List parts.Visit
visits_in (loop.Do l e) = []
visits_in (loop.While e l) = []
visits_in (loop.For e u l) = []
visits_in (loop.ForIn x visits l) = visits_seen visits

-- the variable of the loop k and the name that it gets next, with which k becomes j
abbrev pub IsNextName : Objects → Loop → Option (Bor (List ℕ) × Name) → Loop → Type 0
IsNextName heap k None j = visits_left heap (visits_in k) ≡ []
IsNextName heap k (Some n) j =
    (visits : Visits) × (rest : Visits) × (l : Bor (List Stmt))
    × (k ≡ loop.ForIn n.0 visits l)
    × (j ≡ loop.ForIn n.0 rest l)
    × IsNext (visits_left heap (visits_seen visits)) (Some n.1) rest
