-- What some words ask for, and some that ask for nothing, as the definitions give it.
use Rattle.std.proofs.Common.{◌≡◌, [], ◌∷◌, Some, None, codes, refl}
use Rattle.clap.proofs.OnLiterals.{clap_on_literals}
use Rattle.jl_analysis.specs.Rules.{all_rules, rules}
use Rattle.jl_command.specs.Asked.{cover, request, check, exec, lint, record_of_run, replay, run, soak, unmap}
use Rattle.jl_command.specs.CommandLine.{command_line, is_refused, value_of}

plain_check : request (codes "check" ∷ []) ≡ Some check
unfolding request is_refused value_of command_line clap_on_literals
plain_check = refl

plain_lint : request (codes "lint" ∷ []) ≡ Some (lint 1000000 all_rules)
unfolding request is_refused value_of command_line clap_on_literals
plain_lint = refl

value_in_the_word : request (codes "--budget=7" ∷ codes "exec" ∷ []) ≡ Some (exec 7)
unfolding request is_refused value_of command_line clap_on_literals
value_in_the_word = refl

ten_digits : request (codes "run" ∷ codes "--budget" ∷ codes "0000000005" ∷ []) ≡ Some (run 5)
unfolding request is_refused value_of command_line clap_on_literals
ten_digits = refl

greatest_budget : request (codes "run" ∷ codes "--budget" ∷ codes "1000000000" ∷ []) ≡ Some (run 1000000000)
unfolding request is_refused value_of command_line clap_on_literals
greatest_budget = refl

three_options : request (codes "soak" ∷ codes "--number" ∷ codes "8000" ∷ codes "--budget" ∷ codes "0"
    ∷ codes "--rules" ∷ codes "no-radix,nan-made" ∷ []) ≡ Some (soak 8000 0 (19 ∷ 1 ∷ []))
unfolding request is_refused value_of command_line clap_on_literals rules
three_options = refl

no_words : request [] ≡ None
unfolding request is_refused value_of command_line clap_on_literals
no_words = refl

two_commands : request (codes "lint" ∷ codes "run" ∷ []) ≡ None
unfolding request is_refused value_of command_line clap_on_literals
two_commands = refl

map_is_read : request (codes "unmap" ∷ []) ≡ Some unmap
unfolding request is_refused value_of command_line clap_on_literals
map_is_read = refl

record_with_a_budget : request (codes "record" ∷ codes "--budget=7" ∷ []) ≡ Some (record_of_run 7)
unfolding request is_refused value_of command_line clap_on_literals
record_with_a_budget = refl

cover_without_a_budget : request (codes "cover" ∷ []) ≡ Some (cover 1000000)
unfolding request is_refused value_of command_line clap_on_literals
cover_without_a_budget = refl

replay_with_rules : request (codes "replay" ∷ codes "--rules" ∷ codes "no-radix,nan-made" ∷ [])
    ≡ Some (replay (19 ∷ 1 ∷ []))
unfolding request is_refused value_of command_line clap_on_literals rules
replay_with_rules = refl

replay_has_no_budget : request (codes "replay" ∷ codes "--budget" ∷ codes "5" ∷ []) ≡ None
unfolding request is_refused value_of command_line clap_on_literals
replay_has_no_budget = refl

source_map_has_no_budget : request (codes "srcmap" ∷ codes "--budget" ∷ codes "5" ∷ []) ≡ None
unfolding request is_refused value_of command_line clap_on_literals
source_map_has_no_budget = refl

record_has_no_rules : request (codes "record" ∷ codes "--rules" ∷ codes "nan-made" ∷ []) ≡ None
unfolding request is_refused value_of command_line clap_on_literals rules
record_has_no_rules = refl

no_flag_for_help : request (codes "--help" ∷ []) ≡ None
unfolding request is_refused value_of command_line clap_on_literals
no_flag_for_help = refl

no_flag_for_version : request (codes "lint" ∷ codes "-V" ∷ []) ≡ None
unfolding request is_refused value_of command_line clap_on_literals
no_flag_for_version = refl

cut_option : request (codes "lint" ∷ codes "--bud" ∷ codes "5" ∷ []) ≡ None
unfolding request is_refused value_of command_line clap_on_literals
cut_option = refl

option_twice : request (codes "run" ∷ codes "--budget" ∷ codes "1" ∷ codes "--budget" ∷ codes "2" ∷ []) ≡ None
unfolding request is_refused value_of command_line clap_on_literals
option_twice = refl

option_without_value : request (codes "run" ∷ codes "--budget" ∷ []) ≡ None
unfolding request is_refused value_of command_line clap_on_literals
option_without_value = refl

option_of_another_command : request (codes "check" ∷ codes "--budget" ∷ codes "5" ∷ []) ≡ None
unfolding request is_refused value_of command_line clap_on_literals
option_of_another_command = refl

no_such_rule : request (codes "lint" ∷ codes "--rules" ∷ codes "nan" ∷ []) ≡ None
unfolding request is_refused value_of command_line clap_on_literals rules
no_such_rule = refl

rule_twice : request (codes "lint" ∷ codes "--rules" ∷ codes "nan-made,nan-made" ∷ []) ≡ None
unfolding request is_refused value_of command_line clap_on_literals rules
rule_twice = refl

budget_below_zero : request (codes "lint" ∷ codes "--budget" ∷ codes "-1" ∷ []) ≡ None
unfolding request is_refused value_of command_line clap_on_literals
budget_below_zero = refl

budget_too_great : request (codes "lint" ∷ codes "--budget" ∷ codes "1000000001" ∷ []) ≡ None
unfolding request is_refused value_of command_line clap_on_literals
budget_too_great = refl

eleven_digits : request (codes "run" ∷ codes "--budget" ∷ codes "00000000005" ∷ []) ≡ None
unfolding request is_refused value_of command_line clap_on_literals
eleven_digits = refl

soak_without_number : request (codes "soak" ∷ []) ≡ None
unfolding request is_refused value_of command_line clap_on_literals
soak_without_number = refl

number_too_great : request (codes "soak" ∷ codes "--number" ∷ codes "8001" ∷ []) ≡ None
unfolding request is_refused value_of command_line clap_on_literals
number_too_great = refl
