use Rattle.jl_store.proofs.Chains.{error_comes}
use Rattle.jl_builtin.proofs.Needs.{no_object}
use Rattle.jl_builtin.proofs.arguments.need_object.Goals as goal

pub returns-in_default : goal.returns-in_default
returns-in_default c = no_object _ _ _ c.args.v.now c.in_default.not-Obj (error_comes c.in_ok-thrown.ensures)
