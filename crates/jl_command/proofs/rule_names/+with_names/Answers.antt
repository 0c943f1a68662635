use Rattle.std.proofs.Common.{arith}
use Rattle.jl_command.proofs.Choices.{last_turn, refused_turn, taken_turn}
use Rattle.jl_command.proofs.rule_names.+with_names.Goals as goal

pub returns-in_err-with_name-in-Some : goal.returns-in_err-with_name-in-Some
returns-in_err-with_name-in-Some t c = λ chosen choice.
    let cut = c.in-Some.ensures.byte (omega arith) (λ w o f. f) in
    refused_turn c.from_residual.result chosen c.args.names.now c.in-Some.name.now c.in-Some.more.now cut.0 cut.1 cut.2
    c.from_residual.ensures (c.in_err-with_name-in-Some.ensures chosen choice)

pub returns-in_ok-with_name-in-Some : goal.returns-in_ok-with_name-in-Some
returns-in_ok-with_name-in-Some t c = λ chosen choice.
    let cut = c.in-Some.ensures.byte (omega arith) (λ w o f. f) in
    taken_turn c.with_names.result c.in_ok-with_name-in-Some.field-0 chosen c.args.names.now c.in-Some.name.now
    c.in-Some.more.now cut.0 cut.1 cut.2 (c.in_ok-with_name-in-Some.ensures chosen choice) c.with_names.ensures

pub returns-in-None : goal.returns-in-None
returns-in-None t c = λ chosen choice.
    let whole = c.in-None.ensures.byte (omega arith) (λ w o f. f) in
    last_turn c.with_name-in-None.result chosen c.args.names.now whole (c.with_name-in-None.ensures chosen choice)
