use Rattle.std.proofs.Common.{◌+◌, drop, arith}
use Rattle.jl_lex.proofs.LexLoops.{word_string, word_number, word_name, word_found, word_none, from_from, from_found}
use Rattle.jl_lex.proofs.lexer.word_at.Goals as goal

pub returns-then-is_quote : goal.returns-then-is_quote
returns-then-is_quote c =
    from_found c.args.units.now (c.args.at + 1) (c.args.at + 1) c.string.result _ _
    (word_string c.args.unit (drop (c.args.at + 1) c.args.units.now) c.if-is_quote.ensures) (omega arith)
    c.string.ensures

pub returns-then-begins_number : goal.returns-then-begins_number
returns-then-begins_number c =
    from_from c.args.units.now (c.args.at + 1) (c.args.at + 1) c.number.result _ _
    (word_number c.args.unit (drop (c.args.at + 1) c.args.units.now) c.if-is_quote.ensures c.if-begins_number.ensures)
    (omega arith) c.number.ensures

pub returns-then-begins_name : goal.returns-then-begins_name
returns-then-begins_name c =
    from_found c.args.units.now (c.args.at + 1) c.args.at c.name.result _ _
    (word_name c.args.unit (drop (c.args.at + 1) c.args.units.now) (drop c.args.at c.args.units.now) c.requires.unit
    c.if-is_quote.ensures c.if-begins_number.ensures c.if-begins_name.ensures) (omega arith) c.name.ensures

pub returns-in-Some : goal.returns-in-Some
returns-in-Some c = let f = c.in-Some.ensures.found in let p = c.in-Some.ensures.places in (
  word_found c.args.unit (drop (c.args.at + 1) c.args.units.now) (drop c.args.at c.args.units.now)
      (drop c.in-Some.end c.args.units.now) c.in-Some.punct c.requires.unit c.if-is_quote.ensures
      c.if-begins_number.ensures c.if-begins_name.ensures f,
  p.0,
  p.1,
)

pub returns-in-None : goal.returns-in-None
returns-in-None c = word_none c.args.unit (drop (c.args.at + 1) c.args.units.now) (drop c.args.at c.args.units.now)
    c.requires.unit c.if-is_quote.ensures c.if-begins_number.ensures c.if-begins_name.ensures c.in-None.ensures.found
