use Rattle.jl_parse.proofs.Places.{number_in, number_past}
use Rattle.jl_parse.proofs.tokens.Tokens.number.Goals as goal

pub returns-in-Some : goal.returns-in-Some
returns-in-Some c =
    let h = c.in-Some.ensures.lookup in
    let e = number_in _ _ _ h.3.0 h.1 in cc (e, c.self.view_is, c.number_of.ensures)

pub returns-in-None : goal.returns-in-None
returns-in-None c = let e = number_past _ _ c.in-None.ensures.lookup.3 in cc (e, c.self.view_is)
