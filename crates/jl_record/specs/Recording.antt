-- The run that is recorded, and its text as bytes.
use Rattle.std.specs.Prelude.{ℕ, List, map, Result, Ok, Err}
use Rattle.jl_op.specs.Map.{MapRow}
use Rattle.jl_op.specs.Operations.{Operation}
use Rattle.jl_report.specs.Off.{Pair}
use Rattle.jl_text.specs.Encoding.{bytes_of}
use Rattle.jl_text.specs.Places.{LineTable, line_col}
use Rattle.jl_record.specs.declared.refusal.RecordRefusal.{RecordRefusal}
use Rattle.jl_record.specs.declared.refusal.RecordRefusal.TheVariants as refusals
use Rattle.jl_record.specs.Records.{Row, Stored, text_of}

-- the rows of a map, each with the place at which its part of the source begins
abbrev pub rows_of : LineTable → List MapRow → List Row
rows_of lines rows = map (λ row. let place = line_col lines row.1.from in (row.0, place.0, place.1)) rows

-- a run with these operations, where its map, the lines of the source and what is switched off are these
abbrev pub run_of : LineTable → List MapRow → List Pair → List Operation → Stored
run_of lines rows off operations = record { rows = rows_of lines rows; off = off; operations = operations }

-- the text of a stored run in UTF-8
abbrev pub bytes_of_run : Stored → List ℕ
bytes_of_run r = bytes_of (text_of r)

-- what holds where the text is refused as too long
abbrev pub OnTooLong : {T : Type 0} → Result T RecordRefusal → Type 0 → Type 0
OnTooLong (Ok x) P = Unit {0}
OnTooLong (Err refusals.TooLong) P = P
OnTooLong (Err refusals.NoMemory) P = Unit {0}
