use Rattle.std.proofs.Common.{◌≡◌, ℕ, List, drop, length, ◌+◌, sym, ap, ◌∙◌, subst, Some, None, get_or, refl, arith}
use Rattle.std.proofs.lemmas.List.{drop_more, drop_all}
use Rattle.jl_token.specs.inner.Scanner.{strip, first_punctuator}
use Rattle.jl_token.specs.declared.punct.Punct.{Punct}
use Rattle.jl_token.specs.declared.punct.Punct.TheVariants.{LeftBrace}
use Rattle.jl_lex.proofs.Loops.{table_more, table_found, table_end}
use Rattle.jl_token.proofs.Whole.{nonempty}
use Rattle.jl_token.specs.Punctuators.{punctuator_units}
use Rattle.jl_lex.proofs.punctuators.longest_punctuator.Goals as goal

pub returns-then-stands_at-clause-found : goal.returns-then-stands_at-clause-found
returns-then-stands_at-clause-found c =
    let us = drop c.args.at c.args.units.now in
    let ps = c.all-all.result.now in
    let i = c.loop-punct.punct-index in
    let p = get_or ps i LeftBrace in
    let rest = drop (c.args.at + length c.text-text.result.now) c.args.units.now in
    sym c.loop-punct.invariant
    ∙ (ap (λ (x : List Punct). first_punctuator x us) (drop_more ps i LeftBrace c.loop-punct-test.true)
    ∙ table_found p (drop (i + 1) ps) us rest (subst (λ (w : List ℕ). strip w us ≡ Some rest) c.text-text.ensures
    c.if-stands_at.ensures.text))

pub loop-punct-preserved : goal.loop-punct-preserved
loop-punct-preserved c =
    let us = drop c.args.at c.args.units.now in
    let ps = c.all-all.result.now in
    let i = c.loop-punct.punct-index in
    let p = get_or ps i LeftBrace in
    sym (table_more p (drop (i + 1) ps) us
    (subst (λ (w : List ℕ). strip w us ≡ None) c.text-text.ensures c.if-stands_at.ensures.text))
    ∙ (sym (ap (λ (x : List Punct). first_punctuator x us) (drop_more ps i LeftBrace c.loop-punct-test.true))
    ∙ c.loop-punct.invariant)

pub returns-clause-found : goal.returns-clause-found
returns-clause-found c =
    let us = drop c.args.at c.args.units.now in
    sym c.loop-punct.invariant
    ∙ (ap (λ (x : List Punct). first_punctuator x us)
    (drop_all c.loop-punct.punct-index c.all-all.result.now c.loop-punct-test.false) ∙ table_end us)

pub returns-then-stands_at-clause-places : goal.returns-then-stands_at-clause-places
returns-then-stands_at-clause-places c =
    let p = get_or c.all-all.result.now c.loop-punct.punct-index LeftBrace in
    let n = nonempty p (punctuator_units p) refl in
    let l = ap length c.text-text.ensures in
    (omega arith, c.if-stands_at.ensures.within refl)
