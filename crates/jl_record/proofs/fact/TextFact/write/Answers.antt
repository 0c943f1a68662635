use Rattle.std.proofs.Common.{◌<◌, ◌^◌, [], All, subst}
use Rattle.jl_record.specs.Facts.{IsText}
use Rattle.jl_record.proofs.Storable.{on_ok_fact}
use Rattle.jl_record.proofs.fact.TextFact.write.Goals as goal

pub returns-clause-fact : goal.returns-clause-fact
returns-clause-fact c =
    let small = subst (λ us. All (λ u. u < 2 ^ 16) us) c.units.ensures.same c.quoted.ensures.small in
    let is : IsText c.args.self.now = (c.units.ensures.short, small) in
    on_ok_fact _ [] is
