use Rattle.jl_app.proofs.read_back.lex_text.Goals as goal

pub returns-in-Err-BadInput-clause-only : goal.returns-in-Err-BadInput-clause-only
returns-in-Err-BadInput-clause-only c = λ ts lexed.
    let only = rw c.in-Err-BadInput.field-0-is at c.in-Err-BadInput.ensures.only_these in
    let e = only ts lexed in absurd (cc)
