use Rattle.std.proofs.Common.{◌∷◌, ◌+◌, ◌==◌, take, ap, sym, ◌∙◌}
use Rattle.std.specs.List.{slice_split}
use Rattle.std.proofs.lemmas.List.{take_rest}
use Rattle.jl_report.proofs.Switching.{first_part, one_part}
use Rattle.jl_report.proofs.off_comments.split_at_comma.Goals as goal

pub returns-in-Some-clause-parts : goal.returns-in-Some-clause-parts
returns-in-Some-clause-parts c =
    let text = c.args.text.now in
    first_part text c.in-Some.end (c.in-Some.ensures.value)
    ∙ ap (λ l. take c.in-Some.end text ∷ slice_split (λ u. u == 44) l) (sym (take_rest text (c.in-Some.end + 1)))

pub returns-in-None-clause-parts : goal.returns-in-None-clause-parts
returns-in-None-clause-parts c = one_part c.args.text.now c.in-None.ensures.value
