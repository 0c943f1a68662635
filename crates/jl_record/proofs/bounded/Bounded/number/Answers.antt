use Rattle.std.proofs.lemmas.Result.{on_ok_weaker}
use Rattle.jl_record.proofs.Holding.{appends_number}
use Rattle.jl_record.proofs.bounded.Bounded.number.Goals as goal

pub returns-clause-holds : goal.returns-clause-holds
returns-clause-holds c =
    on_ok_weaker _
    (λ h. appends_number _ _ c.args.number c.ranges.number.fits
    (λ units more e. h units more (rw c.as_bytes.ensures.value (rw c.format.ensures.text e))))
    c.append.ensures.holds
