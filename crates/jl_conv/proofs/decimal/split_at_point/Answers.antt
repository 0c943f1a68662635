use Rattle.std.proofs.Common.{◌∙◌, rules, tests, sym, ap, ◌+◌, take, drop, length, arith}
use Rattle.std.proofs.lemmas.Iterator.{YieldsList-from_slice}
use Rattle.std.proofs.lemmas.Iterator.Search.{position_from_yields_List}
use Rattle.std.proofs.lemmas.List.{take_rest, take_all, drop_all}
use Rattle.jl_conv.specs.Numerals.{is_point}
use Rattle.jl_conv.proofs.Splits.{found, not_found}
use Rattle.jl_conv.proofs.decimal.split_at_point.Goals as goal

pub returns-in-Some : goal.returns-in-Some
returns-in-Some c =
    let units = c.args.units.now in
    let at = c.in-Some.at in
    let e = position_from_yields_List is_point _ _ c.position.result c.position.ensures.ran
    (YieldsList-from_slice units cc)
    (λ x b q k. search (rules, tests)) in
    let f = found is_point units at (sym e ∙ c.in-Some.is) in
    record {
      before = ap (λ n. take n units) (sym f.0);
      after = take_rest units (at + 1) ∙ ap (λ n. drop (n + 1) units) (sym f.0);
    }

pub returns-in-None : goal.returns-in-None
returns-in-None c =
    let units = c.args.units.now in
    let e = position_from_yields_List is_point _ _ c.position.result c.position.ensures.ran
    (YieldsList-from_slice units cc)
    (λ x b q k. search (rules, tests)) in
    let f = not_found is_point units (sym e ∙ c.in-None.is) in
    record {
      before = sym (take_all _ units (omega arith));
      after = take_rest units (length units) ∙ drop_all (length units) units (omega arith)
          ∙ sym (drop_all _ units (omega arith));
    }
