use Rattle.std.proofs.Common.{◌≤◌, ◌∙◌, rules, length, subst, sym}
use Rattle.jl_num.specs.Number.{IsNumber}
use Rattle.jl_conv.proofs.Digits.{number_short}
use Rattle.jl_conv.proofs.conversions.number_to_text.Goals as goal

pub text_of-requires : goal.text_of-requires
text_of-requires c =
    let inside : IsNumber c.args.number = search rules in
    subst (λ ds. length ds ≤ 1048576) (sym (c.as_slice.ensures.value ∙ c.in_ok-digits.ensures))
    (number_short c.args.number inside)
