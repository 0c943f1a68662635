use Rattle.std.proofs.Common.{◌∷◌, ◌/◌, ◌++◌, [], ◌∙◌, ap, arith}
use Rattle.jl_srcmap.specs.Numbers.{digits_of}
use Rattle.jl_srcmap.proofs.Digits.{digits_end, digits_turn}
use Rattle.jl_srcmap.proofs.quantity.push_quantity.Goals as goal

pub loop-left-preserved : goal.loop-left-preserved
loop-left-preserved c =
    let fits = c.loop-left.invariant.fits in
    let left = c.loop-left.left in
    record {
      fits = omega arith;
      written = ap (λ l. l ++ digits_of (left / 32)) (c.in_ok-push.ensures.items
          ∙ ap (λ d. c.loop-left.text.items ++ d ∷ []) c.digit_of.ensures)
          ∙ digits_turn c.loop-left.text.items left fits (omega arith)
          ∙ c.loop-left.invariant.written;
    }

pub returns : goal.returns
returns c =
    c.in_ok-push-2.ensures.items
    ∙ ap (λ d. c.loop-left.text.items ++ d ∷ []) c.digit_of-2.ensures
    ∙ digits_end c.loop-left.text.items c.loop-left.left (omega arith)
    ∙ c.loop-left.invariant.written
