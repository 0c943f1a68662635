use Rattle.jl_record.proofs.Storable.{both_on_ok}
use Rattle.jl_record.proofs.written_lines.Tuple2RefLent.write.Goals as goal

pub returns-clause-facts : goal.returns-clause-facts
returns-clause-facts g c =
    both_on_ok (g.B.Lent.are c.args.self.1) _ (g.A.Fact.values c.args.self.0.now) (g.B.Lent.values c.args.self.1)
    c.in_ok-write.ensures.fact c.write-2.ensures.facts
