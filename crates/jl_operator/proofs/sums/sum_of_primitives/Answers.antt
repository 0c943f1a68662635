use Rattle.std.proofs.lemmas.Result.{IfOk-weaker}
use Rattle.jl_meaning.specs.Operators.{sum_of_primitives}
use Rattle.jl_state.specs.Rest.{RefinesAlgorithm}
use Rattle.jl_state.specs.declared.act.Act.{Act}
use Rattle.jl_state.specs.declared.state.State.{State}
use Rattle.jl_operator.specs.inner.Sums.{text_of_texts}
use Rattle.jl_operator.proofs.Additions.{adds_numbers, adds_texts}
use Rattle.jl_operator.proofs.sums.sum_of_primitives.Goals as goal

pub returns-in_ok-back-clause-refines : goal.returns-in_ok-back-clause-refines
returns-in_ok-back-clause-refines c =
    IfOk-weaker _ (λ (a : Act). (s : State)
    → RefinesAlgorithm s (text_of_texts c.in_ok-front.front c.in_ok-back.back) s a)
    (λ (a : Act). (s : State) → RefinesAlgorithm s (sum_of_primitives c.args.x.now c.args.y.now) s a)
    (λ a refines s. adds_texts c.args.x.now c.args.y.now _ _ s _ c.if-are_texts.ensures c.in_ok-front.ensures
    c.in_ok-back.ensures (refines s)) c.concatenate.ensures.refines

pub returns-else-are_texts-clause-refines : goal.returns-else-are_texts-clause-refines
returns-else-are_texts-clause-refines c = λ s.
    adds_numbers c.args.x.now c.args.y.now s _ c.if-are_texts.ensures (c.sum_of_numbers.ensures.refines s)
