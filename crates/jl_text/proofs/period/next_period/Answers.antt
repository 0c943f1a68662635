use Rattle.std.proofs.Common.{sym, ◌∙◌, arith}
use Rattle.jl_text.proofs.PeriodLemmas.{IsPeriod-whole}
use Rattle.jl_text.proofs.period.next_period.Goals as goal

pub returns : goal.returns
returns g c = IsPeriod-whole _ _ _ _ c.requires.before c.requires.greatest
    (omega (arith, c.requires.before.within, c.if-end-start.false))
    (λ same. c.if-at.false (c.at.ensures ∙ same ∙ sym c.at-else-end-start.ensures))
