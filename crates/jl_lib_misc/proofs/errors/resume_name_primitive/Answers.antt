use Rattle.std.proofs.Common.{subst}
use Rattle.std.proofs.lemmas.Result.{IfOk-weaker}
use Rattle.jl_state.specs.Rest.{RefinesAlgorithm}
use Rattle.jl_lib_misc.proofs.Messages.{message_of}
use Rattle.jl_lib_misc.proofs.errors.resume_name_primitive.Goals as goal

pub returns-clause-refines : goal.returns-clause-refines
returns-clause-refines c =
    IfOk-weaker _ _ _ (λ a refines. subst (λ x. RefinesAlgorithm c.args.state.now (message_of c.args.object x)
    c.get_message.new.state a) c.in_ok-name.ensures refines) c.get_message.ensures.refines
