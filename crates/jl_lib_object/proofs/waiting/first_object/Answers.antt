use Rattle.std.proofs.Common.{subst}
use Rattle.jl_meaning.specs.builtins.Arguments.{need_object}
use Rattle.jl_store.specs.Answers.{ends_with}
use Rattle.jl_store.specs.BigStep.{BigStep}
use Rattle.jl_lib_object.proofs.waiting.first_object.Goals as goal

pub returns : goal.returns
returns c =
    subst (λ v. BigStep (need_object v) c.args.store.now c.need_object.new.store (ends_with c.in_ok-answer.answer))
    c.in_ok-v.ensures c.in_ok-answer.ensures
