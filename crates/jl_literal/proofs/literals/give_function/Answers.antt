use Rattle.std.proofs.Common.{ap, sym, ◌∙◌}
use Rattle.jl_meaning.specs.FunctionObjects.{script_number}
use Rattle.jl_literal.proofs.Made.{function_given, no_function_given}
use Rattle.jl_literal.proofs.literals.give_function.Goals as goal

pub returns-in-Some : goal.returns-in-Some
returns-in-Some c = record {
  refines = λ s same. function_given s _ c.args.object _ _ c.class_of.ensures c.in-Function.is
      (sym (c.script_number.ensures ∙ ap script_number c.inner_of.ensures) ∙ c.in-Some.is) same;
}

pub returns-in_default : goal.returns-in_default
returns-in_default c = record {
  refines = λ s same. no_function_given s _ c.args.object _ c.class_of.ensures c.in_default.not-Function same;
}
