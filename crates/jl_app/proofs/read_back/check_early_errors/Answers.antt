use Rattle.std.proofs.Common.{◌≡◌, ◌∙◌, ap, false, sym, true}
use Rattle.jl_app.specs.ReadBack.{may_run}
use Rattle.jl_app.proofs.read_back.check_early_errors.Goals as goal

pub returns-in-Ok-clause-sound : goal.returns-in-Ok-clause-sound
returns-in-Ok-clause-sound c = ap may_run c.in-Ok.ensures

pub returns-in-Err-ReservedName-clause-sound : goal.returns-in-Err-ReservedName-clause-sound
returns-in-Err-ReservedName-clause-sound c =
    let found = rw c.in-Err-ReservedName.field-0-is at c.in-Err-ReservedName.ensures in ap may_run found

pub returns-in-Err-Early-clause-only : goal.returns-in-Err-Early-clause-only
returns-in-Err-Early-clause-only c = λ sound.
    let found = rw c.in-Err-Early.field-0-is at c.in-Err-Early.ensures in
    let both : false ≡ true = sym (ap may_run found) ∙ sound in absurd (cc)

pub returns-in-Err-LeftOut-clause-only : goal.returns-in-Err-LeftOut-clause-only
returns-in-Err-LeftOut-clause-only c = λ sound.
    let found = rw c.in-Err-LeftOut.field-0-is at c.in-Err-LeftOut.ensures in
    let both : false ≡ true = sym (ap may_run found) ∙ sound in absurd (cc)
