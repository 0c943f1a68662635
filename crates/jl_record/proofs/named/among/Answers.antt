use Rattle.std.proofs.Common.{◌≡◌, ◌<◌, ℕ, zero, suc, List, [], ◌∷◌, Some, get_or, length, sym, ap, ◌∙◌, arith, inl}
use Rattle.std.proofs.Common.{inr}
use Rattle.std.specs.Prelude.{slice_get}
use Rattle.std.proofs.lemmas.Bool.{cases_lt}
use Rattle.std.proofs.lemmas.Option.{slice_get_within}
use Rattle.jl_record.proofs.Cutting.{not_spelled}
use Rattle.jl_record.proofs.named.among.Goals as goal

item_at : {A : Type 0} (xs : List A) (i : ℕ) (x d : A) → slice_get xs i ≡ Some x → get_or xs i d ≡ x
item_at [] i x d e = absurd cc
item_at (y ∷ xs) zero x d e = cc
item_at (y ∷ xs) (suc i) x d e = item_at xs i x d e

pub loop-it-preserved : goal.loop-it-preserved
loop-it-preserved g c = λ at it low here e. elim (cases_lt at c.loop-it.it-index) [
  | inl before ↦ c.loop-it.invariant at it before here e
  | inr from ↦ (
      let same : at ≡ c.loop-it.it-index = omega arith in
      let item : c.it-item.result ≡ it =
      c.it-item.is ∙ item_at c.args.table.now c.loop-it.it-index it c.it-item.result
      (ap (slice_get c.args.table.now) (sym same) ∙ here) in
      let word = c.as_bytes.ensures in
      not_spelled c.args.name.now c.as_bytes.result.now c.if-is_spelled.ensures
      (e ∙ ap g.T.Named.name (sym item) ∙ sym c.spelling.ensures.value ∙ sym word.value))
]

pub returns : goal.returns
returns g c = λ at it here e.
    let within : at < length c.args.table.now = slice_get_within c.args.table.now at it here in
    let all = c.loop-it-test.false in
    c.loop-it.invariant at it (omega arith) here e
