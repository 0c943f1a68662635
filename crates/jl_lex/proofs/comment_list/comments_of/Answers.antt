use Rattle.std.proofs.Common.{◌+◌, drop}
use Rattle.jl_token.specs.Tokens.{comments_among}
use Rattle.jl_lex.specs.inner.Answers.{element_of}
use Rattle.jl_lex.proofs.Reading.{read_more, comments_end, read_refused}
use Rattle.jl_lex.proofs.comment_list.comments_of.Goals as goal

pub loop-unit-preserved : goal.loop-unit-preserved
loop-unit-preserved c =
    let f = c.in-Ok.ensures in
    record {
      read = read_more comments_among comments_among c.loop-unit.comments.items c.args.units.now comments_among
          c.add_comment.new.comments.items c.loop-unit.at c.in-Ok.end (element_of c.in-Ok.element) f.0
          c.loop-unit.invariant.within f.2 c.in_ok-add_comment-in-Ok.ensures c.loop-unit.invariant.read;
      within = f.2;
    }

pub returns-in-Err-clause-refused : goal.returns-in-Err-clause-refused
returns-in-Err-clause-refused c =
    read_refused comments_among comments_among c.loop-unit.comments.items c.args.units.now c.loop-unit.at c.in-Some.unit
    (c.loop-unit.at + 1) c.in-Err.stop c.refusal.result c.in-Some.ensures.0 c.loop-unit.invariant.within
    c.in-Err.ensures c.refusal.ensures c.loop-unit.invariant.read

pub returns-clause-comments : goal.returns-clause-comments
returns-clause-comments c =
    comments_end c.args.units.now (drop c.loop-unit.at c.args.units.now) c.loop-unit.comments.items c.in_default.ensures
    c.loop-unit.invariant.read
