use Rattle.std.proofs.lemmas.Result.{IfOk-weaker}
use Rattle.jl_record.proofs.ListReads.{no_number, of_counted}
use Rattle.jl_record.proofs.value_lists.values_front.Goals as goal

pub returns-in_default : goal.returns-in_default
returns-in_default c = no_number c.args.units.now c.in_default.ensures

pub returns : goal.returns
returns c =
    IfOk-weaker _ _ _ (of_counted c.args.units.now c.in-Some.rest.now c.in-Some.count c.in-Some.ensures)
    c.counted_values.ensures
