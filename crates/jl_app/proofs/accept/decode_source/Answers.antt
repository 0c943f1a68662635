use Rattle.std.proofs.Common.{refl, sym, subst, ap, length, arith}
use Rattle.jl_app.specs.declared.refusal.Refusal.TheVariants.{NotUtf8}
use Rattle.jl_app.specs.Refusals.{IsRefused, not_utf8}
use Rattle.jl_app.proofs.Sizes.{few_units_of}
use Rattle.jl_app.proofs.accept.decode_source.Goals as goal

pub new-requires : goal.new-requires
new-requires c =
    omega (
      arith,
      few_units_of c.args.form c.args.bytes.now c.in-Ok.ensures.made.0 c.requires,
      ap length c.in-Ok.ensures.made.1,
    )

pub returns-in-Err-NotUtf8-clause-refused : goal.returns-in-Err-NotUtf8-clause-refused
returns-in-Err-NotUtf8-clause-refused c =
    let told = rw c.in-Err-NotUtf8.field-0-is at c.in-Err-NotUtf8.ensures.not_utf8 in
    let is = (told c.in-Err-NotUtf8.at).0 refl in
    rw c.in-Err-NotUtf8.field-0-is
    (subst (λ n. IsRefused c.args.form c.args.bytes.now (NotUtf8 n)) (sym is.1) (not_utf8 c.requires is.0))
