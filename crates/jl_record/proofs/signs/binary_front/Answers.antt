use Rattle.std.proofs.Common.{◌∙◌}
use Rattle.jl_op.specs.Trace.{binary_sign}
use Rattle.jl_record.specs.Named.{all_binary}
use Rattle.jl_record.proofs.SignReads.{no_name, binary_listed}
use Rattle.jl_record.proofs.signs.binary_front.Goals as goal

pub returns-in_default-among : goal.returns-in_default-among
returns-in_default-among c =
    let found = rw c.in-Some.is at c.in_ok-sign.ensures in
    let none = c.in_default-among.ensures in
    no_name binary_sign c.args.units.now all_binary binary_listed c.in-Some.sign c.in-Some.rest.now found
    (λ at op here e. none at op here (c.units.ensures.same ∙ e))
