-- What the words of the command line ask for.
use Rattle.std.proofs.Common.{◌≡◌, ◌∙◌, true, List, [], ◌∷◌, Option, None}
use Rattle.std.proofs.Common.{refl, sym, ap, ap₂, codes, subst, inl, inr}
use Rattle.std.specs.Prelude.{IfErr, IsErrOf, Result, if◌then◌else◌, option_and_then}
use Rattle.clap.proofs.OnLiterals.{clap_on_literals}
use Rattle.clap.proofs.WalkLemmas.{first_value-rows}
use Rattle.clap.specs.Words.{App, HasKind, IsAmong, Kinds, kind_of}
use Rattle.clap.specs.Words.{fault_of, first_of, first_value, is_simple, is_simple_and_free, matches_of, rows_of}
use Rattle.clap.specs.Words.{with_rule}
use Rattle.clap.specs.declared.error.Error.{Error}
use Rattle.clap.specs.declared.error.kind.ErrorKind.TheVariants as kind
use Rattle.clap.specs.declared.parser.matches.Found.{Found}
use Rattle.jl_command.specs.Asked.{Asked, request, asked_by_name, asked_with}
use Rattle.jl_command.specs.CommandLine.{Text, command_argument, command_line, is_fault, is_refused}
use Rattle.jl_command.specs.CommandLine.{option_argument, value_of, without_flags}
use Rattle.jl_command.specs.declared.command.Command.{Command}
use Rattle.jl_command.specs.declared.words.WordsRefusal.{WordsRefusal}

-- the line that is made is the command line
pub made_line : (line : App)
    → line ≡ with_rule (with_rule (with_rule (with_rule without_flags command_argument)
    (option_argument (codes "budget"))) (option_argument (codes "rules"))) (option_argument (codes "number"))
    → line ≡ command_line
unfolding command_line
made_line line is = is

-- of which clap's contracts say all
pub line_is_simple : is_simple command_line ≡ true
unfolding command_line clap_on_literals
line_is_simple = refl

pub line_is_free : is_simple_and_free command_line ≡ true
unfolding command_line clap_on_literals
line_is_free = refl

-- words with these kinds of faults
abbrev asked_if : (words : List Text) → Kinds → Option Asked
asked_if words kinds = if is_fault kinds then None else asked_with (λ id. value_of id words)

asked_is : (words : List Text) → request words ≡ asked_if words (fault_of command_line words)
unfolding request is_refused
asked_is words = refl

-- the command with these values
abbrev asked_for : (budget rules number name : Option Text) → Option Asked
asked_for budget rules number name = option_and_then (λ n. asked_by_name n budget rules number) name

-- the same values ask for the same
same_values : (f g : Text → Option Text) → ((id : Text) → f id ≡ g id) → asked_with f ≡ asked_with g
same_values f g same =
    ap (asked_for (f (codes "budget")) (f (codes "rules")) (f (codes "number"))) (same (codes "command"))
    ∙ ap₂ (λ budget rules. asked_for budget rules (f (codes "number")) (g (codes "command")))
    (same (codes "budget")) (same (codes "rules"))
    ∙ ap (λ number. asked_for (g (codes "budget")) (g (codes "rules")) number (g (codes "command")))
    (same (codes "number"))

-- words that clap takes ask for what was matched
pub matched_is : (words : List Text) (found : Found) → fault_of command_line words ≡ []
    → rows_of found ≡ matches_of command_line words → request words ≡ asked_with (first_value found)
unfolding value_of
matched_is words found taken rows =
    asked_is words ∙ ap (asked_if words) taken ∙ same_values (λ id. value_of id words) (first_value found)
    (λ id. sym (first_value-rows found id ∙ ap (λ rs. first_of id rs) rows))

-- words that clap refuses ask for nothing
pub refused_is : (words : List Text) → (fault_of command_line words ≡ [] → ⊥) → request words ≡ None
refused_is words some = asked_is words ∙ by_kinds (fault_of command_line words) some
  where
    by_kinds : (kinds : Kinds) → (kinds ≡ [] → ⊥) → asked_if words kinds ≡ None
    by_kinds [] some = absurd (some refl)
    by_kinds (one ∷ more) some = refl

-- an error has a kind that the words give, where it is not want of memory
pub no_kinds : (kinds : Kinds) (e : Error) → HasKind kinds e → kinds ≡ [] → (kind_of e ≡ kind.OutOfMemory → ⊥) → ⊥
no_kinds kinds e (inl memory) none other = other memory
no_kinds kinds e (inr among) none other = subst (λ ks. IsAmong (kind_of e) ks) none among

-- of an error that is this one
pub refused_for : (r : Result Command WordsRefusal) (cause : WordsRefusal) → IsErrOf r cause → IfErr r (λ e. e ≡ cause)
refused_for r cause is = subst (λ x. IfErr x (λ e. e ≡ cause)) (sym is) refl
