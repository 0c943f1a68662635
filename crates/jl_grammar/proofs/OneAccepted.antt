-- At most one program is accepted.
use Rattle.std.proofs.Common.{subst}
use Rattle.jl_text.specs.Encoding.{units_of}
use Rattle.jl_token.proofs.Whole.{tokens_are_unique}
use Rattle.jl_grammar.specs.Accepted.{OneAccepted}
use Rattle.jl_grammar.specs.Program.{Reads}
use Rattle.jl_grammar.proofs.One.{one_reading}

pub one_accepted : OneAccepted
one_accepted is_legal bytes p q a b =
    let e = tokens_are_unique (units_of bytes) a.tokens b.tokens a.lexed b.lexed in
    one_reading b.tokens 200 p q (subst (λ ts. Reads ts 200 p) e a.read) b.read
