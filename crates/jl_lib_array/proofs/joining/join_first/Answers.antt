use Rattle.std.proofs.lemmas.Result.{IfOk-weaker}
use Rattle.jl_lib_array.proofs.Joined.{joins_first}
use Rattle.jl_lib_array.proofs.joining.join_first.Goals as goal

pub returns-clause-refines : goal.returns-clause-refines
returns-clause-refines c =
    IfOk-weaker _ _ _ (λ a refines. joins_first c.args.state.now _ _ c.args.joining c.args.first _ _ _ c.new.ensures
    c.units.ensures.same c.in_ok-line.ensures c.units.ensures.short refines) c.begin_turn.ensures.refines
