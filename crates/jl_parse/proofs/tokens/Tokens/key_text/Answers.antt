use Rattle.jl_parse.proofs.Places.{key_in, key_past, if_ok_same}
use Rattle.jl_parse.proofs.tokens.Tokens.key_text.Goals as goal

pub returns-in-Some : goal.returns-in-Some
returns-in-Some c =
    let h = c.in-Some.ensures.lookup in
    let e = key_in _ _ _ h.3.0 h.1 in if_ok_same _ _ _ (cc (e, c.self.view_is)) c.key_of.ensures

pub returns-in-None : goal.returns-in-None
returns-in-None c =
    let e = key_past _ _ c.in-None.ensures.lookup.3 in
    if_ok_same _ _ _ (cc (e, c.self.view_is)) c.short_text.ensures
