-- Places of a source as they are told: lines and columns, both from 1, columns in UTF-16 units.
use Rattle.std.specs.Prelude.{ℕ, List, [], ◌∷◌, ◌++◌}
use Rattle.std.specs.Fmt.{decimal}
use Rattle.jl_text.specs.Places.{position_of}
use Rattle.jl_app.specs.declared.position.Position.{Position}

-- the line and the column of the place `at` in a source of these units
abbrev pub position : (units : List ℕ) → (at : ℕ) → Position
position units at = record { line = (position_of units at).0; column = (position_of units at).1 }

-- `LINE:COLUMN`
abbrev pub position_text : Position → List ℕ
position_text p = decimal p.line ++ (58 ∷ [] ++ decimal p.column)
