use Rattle.jl_app.proofs.read_back.parse_tokens.Goals as goal

pub returns-in-Err-Unreadable-clause-only : goal.returns-in-Err-Unreadable-clause-only
returns-in-Err-Unreadable-clause-only c = λ p read.
    let only = rw c.in-Err-Unreadable.field-0-is at c.in-Err-Unreadable.ensures.only in
    let e = only p read in absurd (cc)
