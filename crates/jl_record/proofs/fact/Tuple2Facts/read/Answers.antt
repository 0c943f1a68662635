use Rattle.jl_record.proofs.FactRows.{no_fact, no_others}
use Rattle.jl_record.proofs.fact.Tuple2Facts.read.Goals as goal

pub returns-in_default-2 : goal.returns-in_default-2
returns-in_default-2 g c =
    no_fact g.A.Fact.is g.A.Fact.written g.B.Facts.are g.B.Facts.written c.args.units.now c.in-Some.rest.now
    c.in-Some.ensures c.ended.ensures (rw c.in_default-2.is at c.in_ok-fact.ensures)

pub returns-in_default-3 : goal.returns-in_default-3
returns-in_default-3 g c =
    no_others g.A.Fact.is g.A.Fact.written g.B.Facts.are g.B.Facts.written c.args.units.now c.in-Some.rest.now
    c.in-Some.ensures c.ended.ensures c.in-Some-2.fact c.in-Some-2.rest.now c.known.ensures
    (rw c.in-Some-2.is at c.in_ok-fact.ensures) (rw c.in_default-3.is at c.in_ok-others.ensures)
