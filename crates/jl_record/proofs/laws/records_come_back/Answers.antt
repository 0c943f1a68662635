use Rattle.jl_record.specs.Records.{text_of}
use Rattle.jl_record.proofs.BytesOfUnits.{bytes_are_utf8}
use Rattle.jl_record.proofs.TextUnits.{paired, text_is_whole}
use Rattle.jl_record.proofs.laws.records_come_back.Goals as goal

pub returns : goal.returns
returns c = λ r is.
    let whole = text_is_whole r is in
    record {
      decoded = bytes_are_utf8 (text_of r) whole.small;
      same = c.units_come_back.ensures (text_of r) whole.small (paired (text_of r) whole);
    }
