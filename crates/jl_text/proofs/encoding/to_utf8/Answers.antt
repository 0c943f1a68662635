use Rattle.std.proofs.Common.{sym, ◌∙◌}
use Rattle.jl_text.proofs.AsciiLemmas.{ascii_bytes}
use Rattle.jl_text.proofs.encoding.to_utf8.Goals as goal

pub returns-then-has_ascii_alone : goal.returns-then-has_ascii_alone
returns-then-has_ascii_alone c =
    let plain = ascii_bytes c.args.units.now (sym c.has_ascii_alone.ensures ∙ c.if-has_ascii_alone.true) in
    rw plain c.narrowed.ensures
