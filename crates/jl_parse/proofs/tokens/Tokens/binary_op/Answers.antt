use Rattle.std.proofs.Common.{ap}
use Rattle.jl_grammar.specs.Operators.{binary_operator}
use Rattle.jl_parse.proofs.Places.{kind_in, kind_past}
use Rattle.jl_parse.proofs.tokens.Tokens.binary_op.Goals as goal

pub returns-in-Some : goal.returns-in-Some
returns-in-Some c =
    let h = c.in-Some.ensures.lookup in
    let e = ap binary_operator (kind_in _ _ _ h.3.0 h.1) in cc (e, c.self.view_is, c.binary_op.ensures)

pub returns-in-None : goal.returns-in-None
returns-in-None c = let e = ap binary_operator (kind_past _ _ c.in-None.ensures.lookup.3) in cc (e, c.self.view_is)
