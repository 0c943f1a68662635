use Rattle.jl_lex.proofs.Reading.{only_these_comments, only_there_comments}
use Rattle.jl_lex.proofs.comment_list.comments.Goals as goal

pub returns-clause-only_these : goal.returns-clause-only_these
returns-clause-only_these c =
    only_these_comments c.args.units.now c.comments_of.result c.comments_of.ensures.comments
    c.comments_of.ensures.refused

pub returns-clause-only_there : goal.returns-clause-only_there
returns-clause-only_there c =
    only_there_comments c.args.units.now c.comments_of.result c.comments_of.ensures.comments
    c.comments_of.ensures.refused
