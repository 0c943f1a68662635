use Rattle.jl_parse.proofs.Places.{count_in, count_past}
use Rattle.jl_parse.proofs.tokens.Tokens.open_brackets.Goals as goal

pub returns-in-Some : goal.returns-in-Some
returns-in-Some c =
    let h = c.in-Some.ensures.lookup in
    count_in _ _ _ _ (cc (c.self.view_is, c.self.invariant.1.0, c.deref.ensures.value)) h.3.0 h.1

pub returns-in-None : goal.returns-in-None
returns-in-None c =
    count_past _ _ _ _ (cc (c.self.view_is, c.self.invariant.1.0, c.deref.ensures.value)) c.in-None.ensures.lookup.3
    (cc (c.self.view_is, c.self.invariant.1.1))
