use Rattle.std.proofs.Common.{rules}
use Rattle.jl_literal.proofs.Made.{object_given}
use Rattle.jl_literal.proofs.literals.give_object.Goals as goal

pub returns-in_default : goal.returns-in_default
returns-in_default c = record {
  refines = λ s same. object_given s _ c.args.object _ c.class_of.ensures c.in_default.not-Array
      c.in_default.not-Function
      same;
  low = search rules;
}
