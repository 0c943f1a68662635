use Rattle.jl_token.proofs.Whole.{spans_are_in_order}
use Rattle.jl_token.proofs.laws.spans_are_in_order.Goals as goal

pub returns : goal.returns
returns c = spans_are_in_order
