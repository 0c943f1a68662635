use Rattle.jl_parse.proofs.Places.{line_in, line_past}
use Rattle.jl_parse.proofs.tokens.Tokens.line_before.Goals as goal

pub returns-in-Some : goal.returns-in-Some
returns-in-Some c = let h = c.in-Some.ensures.lookup in let e = line_in _ _ _ h.3.0 h.1 in cc (e, c.self.view_is)

pub returns-in-None : goal.returns-in-None
returns-in-None c = let e = line_past _ _ c.in-None.ensures.lookup.3 in cc (e, c.self.view_is)
