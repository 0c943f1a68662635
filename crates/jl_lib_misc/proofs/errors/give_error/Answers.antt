use Rattle.jl_lib_misc.proofs.Messages.{gives_error}
use Rattle.jl_lib_misc.proofs.errors.give_error.Goals as goal

pub returns-clause-refines : goal.returns-clause-refines
returns-clause-refines c =
    gives_error c.args.state.now c.new_error.new.store c.args.proto c.in_ok-id.id c.args.message c.in_ok-id.ensures
