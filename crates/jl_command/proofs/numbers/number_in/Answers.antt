use Rattle.std.proofs.Common.{◌≡◌, rules, subst, true}
use Rattle.std.specs.Prelude.{IfErr, IfOk, Some}
use Rattle.jl_command.specs.Asked.{is_number, number_in}
use Rattle.jl_command.proofs.Digits.{is_number_in, no_refusal}
use Rattle.jl_command.proofs.numbers.number_in.Goals as goal

pub returns-in-Ok : goal.returns-in-Ok
returns-in-Ok c =
    let is : is_number c.args.text.now ≡ true = search rules in
    subst (λ r. IfOk r (λ n. Some n ≡ number_in c.args.text.now)) c.in-Ok.is
    (is_number_in c.args.text.now c.parse.result c.parse.ensures.value.0 is)

pub returns-in-Err : goal.returns-in-Err
returns-in-Err c =
    let is : is_number c.args.text.now ≡ true = search rules in
    absurd (subst (λ r. IfErr r (λ e. ⊥)) c.in-Err.is
    (no_refusal c.args.text.now c.parse.result c.parse.ensures.value.0 is))
