use Rattle.std.proofs.lemmas.Result.{IfOk-weaker}
use Rattle.jl_realm.proofs.GlobalSteps.{put_comes}
use Rattle.jl_realm.proofs.declaring.put_global.Goals as goal

pub returns : goal.returns
returns c =
    IfOk-weaker _ _ _ (λ a is. put_comes c.args.throwing c.args.name.now c.args.v c.in_ok-done.ensures c.is_met.ensures
    is) c.require.ensures
