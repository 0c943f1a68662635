use Rattle.std.proofs.Common.{◌≤◌, length, refl, subst, sym}
use Rattle.std.proofs.lemmas.Result.{IfOk-weaker}
use Rattle.std.specs.Prelude.{IfSome, codes}
use Rattle.jl_app.specs.Due.{refused_only}
use Rattle.jl_app.proofs.Reading.{long_due_to}
use Rattle.jl_app.proofs.top.respond_up_to.Goals as goal

pub respond_within-requires-clause-small : goal.respond_within-requires-clause-small
respond_within-requires-clause-small g c = λ a means.
    subst (λ o. IfSome o (λ most. length c.args.bytes.now ≤ most)) (sym (c.requires.most a means))
    c.if-most-bytes.false

pub returns-then-most-bytes-clause-due : goal.returns-then-most-bytes-clause-due
returns-then-most-bytes-clause-due g c = λ a means.
    IfOk-weaker c.too_long.result _ _
    (λ given answered. (
      refused_only (codes "TooLong"),
      long_due_to refl a c.args.most (c.requires.most a means) c.if-most-bytes.true,
      record { status = answered.status; bytes = answered.bytes; told = refl },
    ))
    c.too_long.ensures
