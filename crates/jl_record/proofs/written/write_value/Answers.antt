use Rattle.std.proofs.Common.{◌<◌, ◌^◌, All, subst}
use Rattle.jl_record.proofs.Storable.{is_seen, on_ok_now}
use Rattle.jl_record.proofs.written.write_value.Goals as goal

pub returns-in-Undefined-clause-fact : goal.returns-in-Undefined-clause-fact
returns-in-Undefined-clause-fact c = on_ok_now _ (is_seen c.args.seen.now c.in-Undefined.is tt)

pub returns-in-Null-clause-fact : goal.returns-in-Null-clause-fact
returns-in-Null-clause-fact c = on_ok_now _ (is_seen c.args.seen.now c.in-Null.is tt)

pub returns-in-Bool-clause-fact : goal.returns-in-Bool-clause-fact
returns-in-Bool-clause-fact c = on_ok_now _ (is_seen c.args.seen.now c.in-Bool.is tt)

pub returns-in_ok-word-in-Num-clause-fact : goal.returns-in_ok-word-in-Num-clause-fact
returns-in_ok-word-in-Num-clause-fact c =
    on_ok_now _ (is_seen c.args.seen.now c.in-Num.is c.write_number.ensures.number)

pub returns-in-Text-clause-fact : goal.returns-in-Text-clause-fact
returns-in-Text-clause-fact c =
    let small = subst (λ us. All (λ u. u < 2 ^ 16) us) c.units.ensures.same c.quoted.ensures.small in
    on_ok_now _ (is_seen c.args.seen.now c.in-Text.is (c.units.ensures.short, small))

pub returns-in_ok-word-in-Obj-2-clause-fact : goal.returns-in_ok-word-in-Obj-2-clause-fact
returns-in_ok-word-in-Obj-2-clause-fact c = on_ok_now _ (is_seen c.args.seen.now c.in-Obj.is c.write_place.ensures.fits)
