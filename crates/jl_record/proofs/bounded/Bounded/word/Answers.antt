use Rattle.std.proofs.lemmas.Result.{on_ok_weaker}
use Rattle.jl_record.proofs.Holding.{appends_plain}
use Rattle.jl_record.proofs.bounded.Bounded.word.Goals as goal

pub returns-clause-holds : goal.returns-clause-holds
returns-clause-holds c =
    on_ok_weaker _
    (λ h. appends_plain _ _ c.args.word.now c.requires
    (λ units more e. h units more (rw c.as_bytes.ensures.value e)))
    c.append.ensures.holds
