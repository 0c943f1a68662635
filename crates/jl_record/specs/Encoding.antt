-- What the bytes of a stored run are read as.
use Rattle.std.specs.Prelude.{◌≡◌}
use Rattle.std.specs.Str.{IsUtf8}
use Rattle.jl_text.specs.Encoding.{units_of}
use Rattle.jl_record.specs.Recording.{bytes_of_run}
use Rattle.jl_record.specs.Records.{IsStored, Stored, text_of}

-- they are UTF-8, and their units are the text of the run
pub record IsReadAsText (r : Stored) : Type 0 where
  pub decoded : IsUtf8 (bytes_of_run r)
  pub same : units_of (bytes_of_run r) ≡ text_of r

-- so it is with every stored run
abbrev pub RecordsComeBack : Type 0
RecordsComeBack = (r : Stored) → IsStored r → IsReadAsText r
