use Rattle.std.proofs.Common.{◌≡◌, ◌∙◌, ◌++◌, ap, sym, nat_eq, false, rules}
use Rattle.indexmap.proofs.CallerLemmas.{insert_entry-new}
use Rattle.jl_profile.specs.Births.{made_by}
use Rattle.jl_profile.proofs.Observing.{borne-new, known, none_if}
use Rattle.jl_profile.proofs.profile.note_birth.Goals as goal

pub returns-in_ok-insert : goal.returns-in_ok-insert
returns-in_ok-insert c =
    let other : c.contains_key.result ≡ false = search rules in
    let unknown : known c.args.born.now.entries c.in-Some.object ≡ false = sym c.contains_key.ensures ∙ other in
    c.in_ok-insert.ensures.entries
    ∙ insert_entry-new nat_eq c.args.born.now c.in-Some.object _ (none_if _ unknown)
    ∙ ap (λ l. c.args.born.now.entries ++ l) (sym (borne-new _ (c.in-Some.way, c.in-Some.object)
    c.args.born.now.entries c.args.id
    (sym (ap (λ b. made_by b c.args.op.now) c.new_ends.ensures) ∙ sym c.made_by.ensures ∙ c.in-Some.is) unknown))
