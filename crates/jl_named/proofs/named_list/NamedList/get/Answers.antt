use Rattle.std.proofs.Common.{◌≡◌, sym, ap, ◌∙◌, ◌<◌, length}
use Rattle.std.specs.Option.{option_copied}
use Rattle.std.proofs.Math.ListN.{get_or}
use Rattle.std.proofs.lemmas.Bool.{false≢true}
use Rattle.jl_named.proofs.KeptLemmas.{found}
use Rattle.jl_named.proofs.PlaceLemmas.{missing, stands}
use Rattle.jl_named.proofs.named_list.NamedList.get.Goals as goal

pub returns-in_err-at-clause-value : goal.returns-in_err-at-clause-value
returns-in_err-at-clause-value g c =
    ap option_copied c.from_residual.ensures
    ∙ sym (missing c.args.name.now c.args.self.now (sym c.in_err-at.ensures.value))

pub returns-in_err-entry-clause-value : goal.returns-in_err-entry-clause-value
returns-in_err-entry-clause-value g c =
    let s = stands c.args.name.now c.args.self.now c.in_ok-at.at (sym c.in_ok-at.ensures.value) in
    let items : c.deref.result.now ≡ c.args.self.now = c.deref.ensures.value ∙ c.self.view_is in
    let within : c.in_ok-at.at < length c.deref.result.now = rw items s.within in
    absurd (false≢true (c.in_err-entry.ensures.lookup.2 within))

pub returns-clause-value : goal.returns-clause-value
returns-clause-value g c =
    let items : c.deref.result.now ≡ c.args.self.now = c.deref.ensures.value ∙ c.self.view_is in
    found c.args.name.now c.args.self.now c.in_ok-at.at c.in_ok-entry.entry.now (sym c.in_ok-at.ensures.value)
    (c.in_ok-entry.ensures.lookup.1 ∙ ap (λ l. get_or l c.in_ok-at.at c.in_ok-entry.entry.now) items)
