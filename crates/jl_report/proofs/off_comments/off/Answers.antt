use Rattle.std.proofs.Common.{length, false}
use Rattle.jl_token.specs.declared.token.Comment.{Comment}
use Rattle.jl_token.proofs.CommentLaws.{comments_are_in_order}
use Rattle.jl_report.proofs.Switching.{comment_within}
use Rattle.jl_report.proofs.off_comments.off.Goals as goal

nothing : Comment
nothing = record { span = record { from = 0; to = 0 }; to_line_end = false }

pub add_comment-requires-clause-begins : goal.add_comment-requires-clause-begins
unfolding nothing
add_comment-requires-clause-begins c =
    (comment_within 0 (length c.args.units.now) c.args.comments.now c.loop-comment.comment-index nothing
    (comments_are_in_order c.args.units.now c.args.comments.now c.requires.comments) c.loop-comment-test.true).0

pub add_comment-requires-clause-ends : goal.add_comment-requires-clause-ends
unfolding nothing
add_comment-requires-clause-ends c =
    (comment_within 0 (length c.args.units.now) c.args.comments.now c.loop-comment.comment-index nothing
    (comments_are_in_order c.args.units.now c.args.comments.now c.requires.comments) c.loop-comment-test.true).1
