use Rattle.std.proofs.Common.{◌≡◌, ℕ, List, ◌+◌, drop, ap, sym, ◌∙◌, arith}
use Rattle.std.proofs.lemmas.List.{drop-drop}
use Rattle.jl_token.specs.Characters.{is_on_line}
use Rattle.jl_token.specs.inner.Scanner.{many, one_unit, before_close, block_end}
use Rattle.jl_lex.proofs.LexLoops.{scan_white, scan_line, scan_comment, scan_block, scan_other, from_from}
use Rattle.jl_lex.proofs.lexer.element_at.Goals as goal

two_more : (us : List ℕ) (i : ℕ) → drop 1 (drop (i + 1) us) ≡ drop (i + 2) us
two_more us i = drop-drop 1 (i + 1) us ∙ (let q : i + 1 + 1 ≡ i + 2 = omega arith in ap (λ k. drop k us) q)

pub returns-then-is_white_space : goal.returns-then-is_white_space
returns-then-is_white_space c = (
  scan_white c.args.unit (drop (c.args.at + 1) c.args.units.now) (drop c.args.at c.args.units.now) c.requires.unit
      c.if-is_white_space.ensures,
  omega arith,
  omega (arith, c.requires.within),
)

pub returns-then-is_line_terminator : goal.returns-then-is_line_terminator
returns-then-is_line_terminator c = let e = c.line_terminator_end.ensures in (
  scan_line c.args.unit (drop (c.args.at + 1) c.args.units.now) (drop c.args.at c.args.units.now) c.requires.unit
      (drop c.line_terminator_end.result c.args.units.now) c.if-is_white_space.ensures c.if-is_line_terminator.ensures
      e.rest,
  e.later,
  e.within,
)

pub returns-then-are_units : goal.returns-then-are_units
returns-then-are_units c = let e = c.line_end.ensures in (
  scan_comment c.args.unit (drop (c.args.at + 1) c.args.units.now) (drop c.args.at c.args.units.now) c.requires.unit
      (drop c.line_end.result c.args.units.now) c.if-is_white_space.ensures c.if-is_line_terminator.ensures
      c.if-are_units.ensures (e.rest
      ∙ ap (λ (x : List ℕ). (many (one_unit is_on_line) x).1) (sym (two_more c.args.units.now c.args.at))),
  omega (arith, e.later),
  e.within,
)

pub returns-in-Some : goal.returns-in-Some
returns-in-Some c = let f = c.in-Some.ensures.found in let w = c.in-Some.ensures.within in (
  scan_block c.args.unit (drop (c.args.at + 1) c.args.units.now) (drop c.args.at c.args.units.now) c.requires.unit
      c.if-is_white_space.ensures c.if-is_line_terminator.ensures c.if-are_units.ensures c.if-are_units-2.ensures
      ∙ (ap (λ (x : List ℕ). block_end (many before_close x)) (two_more c.args.units.now c.args.at) ∙ f),
  omega (arith, w.0),
  w.1,
)

pub returns-in-None : goal.returns-in-None
returns-in-None c =
    scan_block c.args.unit (drop (c.args.at + 1) c.args.units.now) (drop c.args.at c.args.units.now) c.requires.unit
    c.if-is_white_space.ensures c.if-is_line_terminator.ensures c.if-are_units.ensures c.if-are_units-2.ensures
    ∙ (ap (λ (x : List ℕ). block_end (many before_close x)) (two_more c.args.units.now c.args.at)
    ∙ c.in-None.ensures.found)

pub returns : goal.returns
returns c = from_from c.args.units.now (c.args.at + 1) (c.args.at + 1) c.word_at.result _ _
    (scan_other c.args.unit (drop (c.args.at + 1) c.args.units.now) (drop c.args.at c.args.units.now) c.requires.unit
    c.if-is_white_space.ensures c.if-is_line_terminator.ensures c.if-are_units.ensures c.if-are_units-2.ensures)
    (omega arith) c.word_at.ensures
