use Rattle.jl_token.proofs.CommentLaws.{comments_where_tokens}
use Rattle.jl_token.proofs.laws.comments_where_tokens.Goals as goal

pub returns : goal.returns
returns c = comments_where_tokens
