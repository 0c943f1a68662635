use Rattle.std.proofs.Common.{◌∙◌}
use Rattle.jl_op.specs.Trace.{unary_sign}
use Rattle.jl_record.specs.Named.{all_unary}
use Rattle.jl_record.proofs.SignReads.{no_name, unary_listed}
use Rattle.jl_record.proofs.signs.unary_front.Goals as goal

pub returns-in_default-among : goal.returns-in_default-among
returns-in_default-among c =
    let found = rw c.in-Some.is at c.in_ok-sign.ensures in
    let none = c.in_default-among.ensures in
    no_name unary_sign c.args.units.now all_unary unary_listed c.in-Some.sign c.in-Some.rest.now found
    (λ at op here e. none at op here (c.units.ensures.same ∙ e))
