use Rattle.jl_print.proofs.operator_words.add_operator.Goals as goal

pub returns-in-InstanceOf : goal.returns-in-InstanceOf
returns-in-InstanceOf c = rw c.in-InstanceOf.is c.word.ensures
