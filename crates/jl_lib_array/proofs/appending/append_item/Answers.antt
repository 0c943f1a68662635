use Rattle.std.proofs.lemmas.Result.{IfOk-weaker}
use Rattle.jl_lib_array.proofs.Appended.{appends_elements, appends_value}
use Rattle.jl_lib_array.proofs.appending.append_item.Goals as goal

pub returns-in-Some-clause-refines : goal.returns-in-Some-clause-refines
returns-in-Some-clause-refines c =
    IfOk-weaker _ _ _ (λ a refines. appends_elements c.args.state.now _ _ c.args.array c.args.next c.args.v c.args.items
    c.args.from c.in-Some.item c.in-Some.ensures.0 c.in-Some.ensures.1 refines) c.get_length.ensures.refines

pub returns-clause-refines : goal.returns-clause-refines
returns-clause-refines c =
    IfOk-weaker _ _ _ (λ a refines. appends_value c.args.state.now _ _ c.args.array c.args.next c.args.v c.args.items
    c.args.from _ c.in_default.ensures c.in_ok-after.ensures refines) c.add_then.ensures.refines
