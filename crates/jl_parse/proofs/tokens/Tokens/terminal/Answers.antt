use Rattle.jl_parse.proofs.Places.{terminal_in, terminal_past}
use Rattle.jl_parse.proofs.tokens.Tokens.terminal.Goals as goal

pub returns-in-Some : goal.returns-in-Some
returns-in-Some c =
    let h = c.in-Some.ensures.lookup in
    terminal_in _ _ _ _ (cc (c.self.view_is, c.self.invariant.0, c.deref.ensures.value)) h.3.0 h.1

pub returns-in-None : goal.returns-in-None
returns-in-None c =
    terminal_past _ _ _ (cc (c.self.view_is, c.self.invariant.0, c.deref.ensures.value)) c.in-None.ensures.lookup.3
