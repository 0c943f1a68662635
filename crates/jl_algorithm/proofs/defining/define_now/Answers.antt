use Rattle.std.proofs.Common.{refl}
use Rattle.std.proofs.lemmas.Result.{IfOk-weaker}
use Rattle.jl_meaning.specs.Defining.{define_with_number}
use Rattle.jl_state.proofs.Stores.{works_comes}
use Rattle.jl_state.specs.AlgorithmFrames.{after_define}
use Rattle.jl_algorithm.proofs.defining.define_now.Goals as goal

pub returns-clause-refines : goal.returns-clause-refines
returns-clause-refines c =
    IfOk-weaker _ _ _ (λ a refines.
    works_comes c.args.state.now (record c.args.state.now { store = c.define_with_number.new.self }) refl
    (define_with_number c.args.id c.args.name.now c.args.change) c.in_ok-done.done (after_define c.args.purpose) _ _
    c.in_ok-done.ensures refines) c.after_define.ensures.refines
