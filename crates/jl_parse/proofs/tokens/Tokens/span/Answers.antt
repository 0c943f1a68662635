use Rattle.jl_parse.proofs.Places.{span_none, span_some}
use Rattle.jl_parse.proofs.tokens.Tokens.span.Goals as goal

pub returns-then-to-eq0 : goal.returns-then-to-eq0
returns-then-to-eq0 c = span_none _ _ _ _ c.if-to-eq0.true c.start-start.ensures

pub returns-else-to-eq0 : goal.returns-else-to-eq0
returns-else-to-eq0 c = span_some _ _ _ _ _ c.if-to-eq0.false c.start-start.ensures c.end.ensures
