use Rattle.std.proofs.Common.{◌∙◌, Err, ap, sym}
use Rattle.clap.specs.Words.{fault_of, found_of, is_simple, is_simple_and_free, matches_of}
use Rattle.jl_command.specs.Asked.{texts}
use Rattle.jl_command.specs.Meant.{Means}
use Rattle.jl_command.specs.declared.words.WordsRefusal.TheVariants.{BadWords}
use Rattle.jl_command.proofs.Optional.{both, neither}
use Rattle.jl_command.proofs.WordLemmas.{line_is_free, line_is_simple, matched_is, no_kinds, refused_for, refused_is}
use Rattle.jl_command.proofs.words.parse_words.Goals as goal

pub returns-in-Some-clause-asked : goal.returns-in-Some-clause-asked
returns-in-Some-clause-asked c =
    let line = c.in_ok-command_line.ensures in
    let words = texts c.args.words.now in
    let taken = c.in-Ok.ensures.kinds (ap is_simple_and_free line ∙ line_is_free) in
    let rows = (c.in-Ok.ensures.matches (ap is_simple line ∙ line_is_simple)).0 in
    let is = matched_is words (found_of c.in-Ok.matches) (sym (ap (λ l. fault_of l words) line) ∙ taken)
    (rows ∙ ap (λ l. matches_of l words) line) in
    let asked = both Means c.in-Some.command _ c.in-Some.ensures in
    (asked.0, is ∙ asked.1, asked.2)

pub returns-clause-bad : goal.returns-clause-bad
returns-clause-bad c = λ bad.
    let line = c.in_ok-command_line.ensures in
    let words = texts c.args.words.now in
    let taken = c.in-Ok.ensures.kinds (ap is_simple_and_free line ∙ line_is_free) in
    let rows = (c.in-Ok.ensures.matches (ap is_simple line ∙ line_is_simple)).0 in
    matched_is words (found_of c.in-Ok.matches) (sym (ap (λ l. fault_of l words) line) ∙ taken)
    (rows ∙ ap (λ l. matches_of l words) line)
    ∙ neither Means _ c.in-None.ensures

pub returns-in-Err-clause-bad : goal.returns-in-Err-clause-bad
returns-in-Err-clause-bad c = λ bad.
    let line = c.in_ok-command_line.ensures in
    let words = texts c.args.words.now in
    let kinds = c.in-Err.ensures.kinds (ap is_simple_and_free line ∙ line_is_free) in
    let other = c.refusal.ensures (refused_for (Err c.refusal.result) BadWords bad) in
    refused_is words (λ none. no_kinds _ c.in-Err.error kinds (ap (λ l. fault_of l words) line ∙ none)
    (λ memory. other (c.kind.ensures ∙ memory)))
