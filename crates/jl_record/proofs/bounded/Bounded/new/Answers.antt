use Rattle.std.proofs.Common.{◌∙◌, sym, ap, length, arith}
use Rattle.jl_record.proofs.Bytes.{nothing}
use Rattle.jl_record.proofs.bounded.Bounded.new.Goals as goal

pub returns-clause-holds : goal.returns-clause-holds
returns-clause-holds c =
    (c.new.ensures.items ∙ sym nothing, let none = ap length c.new.ensures.items in omega arith)
