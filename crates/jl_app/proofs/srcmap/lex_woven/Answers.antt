use Rattle.jl_app.proofs.srcmap.lex_woven.Goals as goal

pub unreachable-requires : goal.unreachable-requires
unreachable-requires c =
    let only = rw c.in-Err-BadInput.field-0-is at c.in-Err-BadInput.ensures.only_these in
    let e = only c.requires.lexed.0 c.requires.lexed.1 in absurd (cc)
