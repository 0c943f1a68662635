use Rattle.std.proofs.Common.{◌∙◌}
use Rattle.jl_record.proofs.SignReads.{no_native_text, no_native}
use Rattle.jl_record.proofs.signs.native_before.Goals as goal

pub returns-in_default-2 : goal.returns-in_default-2
returns-in_default-2 c =
    no_native_text c.args.rest.now c.in-Some.quoted.now c.in-Some.ensures
    (rw c.in_default-2.is at c.in_ok-name.ensures)

pub returns-in_default-builtin_named : goal.returns-in_default-builtin_named
returns-in_default-builtin_named c =
    let found = rw c.in-Some-2.is at c.in_ok-name.ensures in
    let none = c.in_default-builtin_named.ensures in
    no_native c.args.rest.now c.in-Some.quoted.now c.in-Some-2.name c.in-Some-2.rest.now c.in-Some.ensures found
    (λ b e. none b (c.units.ensures.same ∙ e))
