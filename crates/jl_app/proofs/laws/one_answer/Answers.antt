use Rattle.jl_app.proofs.OneAnswer.{one_due}
use Rattle.jl_app.proofs.laws.one_answer.Goals as goal

pub returns : goal.returns
returns g c = λ words bytes handed lent d e x y.
    one_due c.readings_are_unique.ensures c.never_both.ensures c.bad_place_is_unique.ensures c.one_record.ensures
    c.one_bad_line.ensures words bytes _ d e x y
