use Rattle.std.proofs.Common.{◌≡◌, ◌++◌, ap, sym, ◌∙◌}
use Rattle.std.proofs.lemmas.Result.{on_ok_weaker}
use Rattle.jl_text.specs.Encoding.{bytes_of}
use Rattle.jl_text.specs.Quoted.{quote}
use Rattle.jl_record.proofs.Holding.{appends_quote}
use Rattle.jl_record.proofs.bounded.Bounded.quoted.Goals as goal

pub returns-clause-holds : goal.returns-clause-holds
returns-clause-holds c =
    let same : c.deref-2.result.now ≡ bytes_of (quote c.args.units.now) =
    c.deref-2.ensures.value ∙ c.in_ok-bytes.ensures ∙ ap bytes_of (c.deref.ensures.value ∙ c.in_ok-quoted.ensures) in
    on_ok_weaker _
    (λ h. appends_quote _ _ c.args.units.now
    (λ units more e. h units more (e ∙ ap (λ b. bytes_of units ++ b) (sym same))))
    c.append.ensures.holds
