use Rattle.jl_lib_misc.proofs.Objects.{gives_object}
use Rattle.jl_lib_misc.proofs.numbers.value_or_object.Goals as goal

pub returns-clause-refines : goal.returns-clause-refines
returns-clause-refines c =
    gives_object c.args.state.now c.new_wrapper.new.self c.args.by_new c.args.class c.args.proto c.args.v
    c.in_ok-id.id c.if-not-by_new.false c.in_ok-id.ensures
