use Rattle.jl_token.proofs.CommentLaws.{comments_are_unique}
use Rattle.jl_token.proofs.laws.comments_are_unique.Goals as goal

pub returns : goal.returns
returns c = comments_are_unique
