use Rattle.jl_state.proofs.Acts.{gives_act}
use Rattle.jl_call.proofs.Told.{makes_call}
use Rattle.jl_call.proofs.telling.make_call.Goals as goal

pub returns-clause-refines : goal.returns-clause-refines
returns-clause-refines c =
    gives_act _ _ _ _ c.call.ensures _ (makes_call _ _ c.args.id c.post.result c.args.call c.post.ensures
    c.in_ok-push_value.ensures.waits)
