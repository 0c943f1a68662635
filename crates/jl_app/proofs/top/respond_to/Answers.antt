use Rattle.std.proofs.Common.{◌∙◌, ◌≤◌, length, subst, sym}
use Rattle.std.specs.Prelude.{IfSome}
use Rattle.jl_app.proofs.Answering.{same_most}
use Rattle.jl_app.proofs.top.respond_to.Goals as goal

pub respond_up_to-requires-clause-most : goal.respond_up_to-requires-clause-most
respond_up_to-requires-clause-most g c = λ a means.
    sym (same_most c.args.command a means) ∙ sym c.most_read_by.ensures ∙ c.in-Some.is

pub respond_within-requires-clause-small : goal.respond_within-requires-clause-small
respond_within-requires-clause-small g c = λ a means.
    subst (λ o. IfSome o (λ most. length c.args.bytes.now ≤ most))
    (sym (sym (same_most c.args.command a means) ∙ sym c.most_read_by.ensures ∙ c.in-None.is)) tt
