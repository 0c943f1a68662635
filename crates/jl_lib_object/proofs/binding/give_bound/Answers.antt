use Rattle.std.proofs.Common.{refl}
use Rattle.jl_meaning.specs.builtins.Arguments.{give_object}
use Rattle.jl_meaning.specs.builtins.Function.{create_bound}
use Rattle.jl_state.proofs.Stores.{works_comes}
use Rattle.jl_lib_object.proofs.Ends.{gives_now}
use Rattle.jl_lib_object.proofs.binding.give_bound.Goals as goal

pub returns-clause-refines : goal.returns-clause-refines
returns-clause-refines c =
    works_comes c.args.state.now (record c.args.state.now { store = c.create_bound.new.store }) refl
    (create_bound c.args.target c.args.this c.args.args) c.in_ok-id.id give_object _ _ c.in_ok-id.ensures
    (gives_now _ _)
