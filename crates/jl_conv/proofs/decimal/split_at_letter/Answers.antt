use Rattle.std.proofs.Common.{◌∙◌, rules, tests, sym, ap, ◌+◌, take, drop, arith}
use Rattle.std.proofs.lemmas.Iterator.{YieldsList-from_slice}
use Rattle.std.proofs.lemmas.Iterator.Search.{position_from_yields_List}
use Rattle.std.proofs.lemmas.List.{take_rest, take_all}
use Rattle.jl_conv.specs.Numerals.{is_exponent_letter}
use Rattle.jl_conv.proofs.Splits.{found, not_found, some_passes, none_passes}
use Rattle.jl_conv.proofs.decimal.split_at_letter.Goals as goal

pub returns-in-Some : goal.returns-in-Some
returns-in-Some c =
    let units = c.args.units.now in
    let at = c.in-Some.at in
    let e = position_from_yields_List is_exponent_letter _ _ c.position.result c.position.ensures.ran
    (YieldsList-from_slice units cc) (λ x b q k. search (rules, tests)) in
    let f = found is_exponent_letter units at (sym e ∙ c.in-Some.is) in
    let is = f.0 in
    let inside = f.1 in
    record {
      before = ap (λ n. take n units) (sym f.0);
      after = (
        some_passes is_exponent_letter units (omega arith),
        take_rest units (at + 1)
            ∙ ap (λ n. drop (n + 1) units) (sym f.0),
      );
    }

pub returns-in-None : goal.returns-in-None
returns-in-None c =
    let units = c.args.units.now in
    let e = position_from_yields_List is_exponent_letter _ _ c.position.result c.position.ensures.ran
    (YieldsList-from_slice units cc) (λ x b q k. search (rules, tests)) in
    let f = not_found is_exponent_letter units (sym e ∙ c.in-None.is) in
    record {
      before = sym (take_all _ units (omega arith));
      after = none_passes is_exponent_letter units f;
    }
