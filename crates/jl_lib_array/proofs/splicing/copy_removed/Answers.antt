use Rattle.jl_lib_array.proofs.splicing.copy_removed.Goals as goal

pub returns-clause-refines : goal.returns-clause-refines
returns-clause-refines c =
    c.begin_turn.ensures.refines
