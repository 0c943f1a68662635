use Rattle.std.proofs.Common.{refl}
use Rattle.std.proofs.lemmas.Result.{IfOk-weaker}
use Rattle.jl_lib_array.proofs.Starts.{splices}
use Rattle.jl_lib_array.proofs.splicing.splice_into_new.Goals as goal

pub returns-clause-refines : goal.returns-clause-refines
returns-clause-refines c =
    IfOk-weaker _ _ _ (λ a refines. splices c.args.state.now
    (record c.args.state.now { store = c.new_array.new.self }) _
    _ c.args.object _ c.args.args refl c.in_ok-array.ensures refines) c.get_length.ensures.refines
