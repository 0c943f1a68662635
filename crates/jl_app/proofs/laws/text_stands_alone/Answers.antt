use Rattle.jl_op.specs.Chosen.{every_kind}
use Rattle.jl_app.proofs.StandsAlone.{stands_alone}
use Rattle.jl_app.proofs.laws.text_stands_alone.Goals as goal

pub returns : goal.returns
returns c = λ bytes p is.
    stands_alone c.one_reading.ensures c.never_both.ensures c.units_come_back.ensures bytes p is
    (c.scripts_are_woven_well.ensures every_kind bytes p is).back
