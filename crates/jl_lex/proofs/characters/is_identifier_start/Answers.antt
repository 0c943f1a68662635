use Rattle.std.proofs.Common.{◌∙◌, sym}
use Rattle.jl_lex.proofs.Ascii.{ascii_starts}
use Rattle.jl_lex.proofs.characters.is_identifier_start.Goals as goal

pub returns-then-unit-lt-ASCII : goal.returns-then-unit-lt-ASCII
returns-then-unit-lt-ASCII c = c.is_ascii_start.ensures ∙ sym (ascii_starts c.args.unit c.if-unit-lt-ASCII.true)
