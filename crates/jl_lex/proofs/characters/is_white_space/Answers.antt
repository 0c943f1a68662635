use Rattle.std.proofs.Common.{◌∙◌, sym}
use Rattle.jl_lex.proofs.Ascii.{ascii_spaces}
use Rattle.jl_lex.proofs.characters.is_white_space.Goals as goal

pub returns-then-unit-lt-ASCII : goal.returns-then-unit-lt-ASCII
returns-then-unit-lt-ASCII c = c.is_ascii_space.ensures ∙ sym (ascii_spaces c.args.unit c.if-unit-lt-ASCII.true)
