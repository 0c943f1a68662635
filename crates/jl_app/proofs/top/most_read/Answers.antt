use Rattle.std.proofs.Common.{◌∙◌, ap, sym, Err}
use Rattle.std.specs.Prelude.{option_and_then}
use Rattle.jl_app.specs.Forms.{most_read}
use Rattle.jl_app.proofs.Answering.{same_most}
use Rattle.jl_app.proofs.top.most_read.Goals as goal

pub returns-in-Ok : goal.returns-in-Ok
returns-in-Ok c =
    let asked = c.in-Ok.ensures.asked in
    c.most_read_by.ensures ∙ same_most c.in-Ok.command asked.0 asked.2
    ∙ sym (ap (λ o. option_and_then most_read o) asked.1)

pub returns-in-Err-BadWords : goal.returns-in-Err-BadWords
returns-in-Err-BadWords c =
    sym (ap (λ o. option_and_then most_read o) (c.in-Err-BadWords.ensures.bad (ap Err c.in-Err-BadWords.field-0-is)))
