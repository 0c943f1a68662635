use Rattle.std.proofs.Common.{sym, refl, arith}
use Rattle.std.proofs.lemmas.Bool.{false≢true}
use Rattle.jl_named.proofs.KeptLemmas.{ends_alike, found, written}
use Rattle.jl_named.proofs.PlaceLemmas.{missing, stands}
use Rattle.jl_named.proofs.named_list.NamedList.get_mut.Goals as goal

pub returns-in_err-at : goal.returns-in_err-at
returns-in_err-at g c =
    rw (← c.self.view_is) (rw c.from_residual.ensures (
      refl,
      record {
        comes_back = tt;
        value = sym (missing c.args.name.now c.self.inside.entries.items (sym c.in_err-at.ensures.value));
        kept = c.self.invariant.apart;
      },
    ))

pub returns-in_err-entry : goal.returns-in_err-entry
returns-in_err-entry g c =
    let s = stands c.args.name.now c.self.inside.entries.items c.in_ok-at.at (sym c.in_ok-at.ensures.value) in
    absurd (false≢true (c.in_err-entry.ensures.variant.1 (omega (arith, s.within))))

pub invariant_of-self-lent : goal.invariant_of-self-lent
invariant_of-self-lent g c =
    λ w. (written c.args.name.now c.self.inside.entries.items c.self.inside.places c.in_ok-at.at
    c.in_ok-entry.entry.now w c.self.invariant (sym c.in_ok-at.ensures.value)
    c.in_ok-entry.ensures.value).1

pub returns : goal.returns
returns g c =
    let xs = c.self.inside.entries.items in
    let at = c.in_ok-at.at in
    let made = λ (w : g.row.T.Denot). (written c.args.name.now xs c.self.inside.places at c.in_ok-entry.entry.now w
    c.self.invariant (sym c.in_ok-at.ensures.value) c.in_ok-entry.ensures.value).0 in
    rw (← c.self.view_is) (
      ends_alike made,
      record {
        comes_back = tt;
        value = found c.args.name.now xs at c.in_ok-entry.entry.now (sym c.in_ok-at.ensures.value)
            c.in_ok-entry.ensures.value;
        kept = c.self.invariant.apart;
      },
    )
