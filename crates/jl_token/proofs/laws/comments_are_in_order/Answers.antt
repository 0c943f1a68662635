use Rattle.jl_token.proofs.CommentLaws.{comments_are_in_order}
use Rattle.jl_token.proofs.laws.comments_are_in_order.Goals as goal

pub returns : goal.returns
returns c = comments_are_in_order
