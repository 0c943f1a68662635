use Rattle.std.proofs.Common.{subst, sym}
use Rattle.std.proofs.lemmas.Result.{on_ok_weaker}
use Rattle.jl_record.specs.Facts.{IsCallee}
use Rattle.jl_record.proofs.Storable.{on_ok_now}
use Rattle.jl_record.proofs.WrittenParts.{appends_script}
use Rattle.jl_record.proofs.written.write_callee.Goals as goal

pub returns-in_ok-word-in-Script-3-clause-holds : goal.returns-in_ok-word-in-Script-3-clause-holds
returns-in_ok-word-in-Script-3-clause-holds c =
    let called = c.in-Script in
    on_ok_weaker _
    (appends_script _ _ _ _ _ _ _ called.function called.params called.mentions called.is
    c.in_ok-word-in-Script.ensures.holds c.in_ok-write_small-in-Script.ensures.holds
    c.in_ok-word-in-Script-2.ensures.holds c.in_ok-write_small-in-Script-2.ensures.holds
    c.in_ok-word-in-Script-3.ensures.holds)
    c.write_truth.ensures.holds

pub returns-in_ok-word-in-Script-3-clause-fact : goal.returns-in_ok-word-in-Script-3-clause-fact
returns-in_ok-word-in-Script-3-clause-fact c =
    on_ok_now _
    (subst (λ x. IsCallee x) (sym c.in-Script.is) (c.write_small.ensures.fits, c.write_small-in-Script.ensures.fits))
