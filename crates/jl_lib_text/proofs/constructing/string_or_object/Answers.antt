use Rattle.jl_lib_text.proofs.Objects.{gives_object}
use Rattle.jl_lib_text.proofs.constructing.string_or_object.Goals as goal

pub returns-clause-refines : goal.returns-clause-refines
returns-clause-refines c =
    gives_object c.args.state.now c.new_string_object.new.self c.args.by_new c.args.units c.in_ok-id.id
    c.if-not-by_new.false c.in_ok-id.ensures
