use Rattle.std.proofs.Common.{◌∙◌, ap, sym}
use Rattle.jl_app.specs.Forms.{is_sound}
use Rattle.jl_app.proofs.Refusing.{early_at, left_out_at, hooks_name_at}
use Rattle.jl_app.proofs.accept.check_early_errors.Goals as goal

pub returns-in-Ok-clause-sound : goal.returns-in-Ok-clause-sound
returns-in-Ok-clause-sound c = ap (is_sound c.args.form) c.in-Ok.ensures

pub returns-then-may_name_hooks-clause-sound : goal.returns-then-may_name_hooks-clause-sound
returns-then-may_name_hooks-clause-sound c =
    let found = rw c.in-Err-ReservedName.field-0-is at c.in-Err-ReservedName.ensures in
    ap (is_sound c.args.form) found ∙ (sym c.may_name_hooks.ensures ∙ c.if-may_name_hooks.true)

pub returns-in-Err-Early-clause-refused : goal.returns-in-Err-Early-clause-refused
returns-in-Err-Early-clause-refused c = λ bytes read same.
    let broken = rw c.in-Err-Early.field-0-is at c.in-Err-Early.ensures in
    early_at c.args.form bytes _ _ c.in-Err-Early.rule c.in-Err-Early.span _ read same broken c.position-at.ensures

pub returns-in-Err-LeftOut-clause-refused : goal.returns-in-Err-LeftOut-clause-refused
returns-in-Err-LeftOut-clause-refused c = λ bytes read same.
    let broken = rw c.in-Err-LeftOut.field-0-is at c.in-Err-LeftOut.ensures in
    left_out_at c.args.form bytes _ _ c.in-Err-LeftOut.name c.in-Err-LeftOut.span _ read same broken
    c.position-at-in-Err-LeftOut.ensures

pub returns-else-may_name_hooks-clause-refused : goal.returns-else-may_name_hooks-clause-refused
returns-else-may_name_hooks-clause-refused c = λ bytes read same.
    let broken = rw c.in-Err-ReservedName.field-0-is at c.in-Err-ReservedName.ensures in
    hooks_name_at c.args.form bytes _ _ c.in-Err-ReservedName.span _
    (sym c.may_name_hooks.ensures ∙ c.if-may_name_hooks.false) read same broken
    c.position-at-in-Err-ReservedName.ensures
