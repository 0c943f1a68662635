use Rattle.std.proofs.Common.{rules}
use Rattle.std.proofs.lemmas.Bool.{MatchBool-at_false, MatchBool-at_true}
use Rattle.jl_record.proofs.OperationReads.{no_id, no_space, no_kind, no_row, no_facts, has_row_within}
use Rattle.jl_record.proofs.line_facts.operation_of.Goals as goal

pub returns-in_default : goal.returns-in_default
returns-in_default c = no_id c.args.rows.now c.requires.few c.args.line.now c.in_default.ensures

pub returns-in_default-after_space : goal.returns-in_default-after_space
returns-in_default-after_space c =
    no_space c.args.rows.now c.requires.few c.args.line.now c.in-Some.id c.in-Some.rest.now c.in-Some.ensures
    c.in_default-after_space.ensures

pub returns-in_default-kind_front : goal.returns-in_default-kind_front
returns-in_default-kind_front c =
    no_kind c.args.rows.now c.requires.few c.args.line.now c.in-Some.id c.in-Some.rest.now c.in-Some.ensures
    c.in-Some-after_space.front.now c.in-Some-after_space.ensures c.in_default-kind_front.ensures

pub returns-then-not-has_row : goal.returns-then-not-has_row
returns-then-not-has_row c =
    no_row c.args.rows.now c.requires.few c.args.line.now c.in-Some.id c.in-Some.rest.now c.in-Some.ensures
    c.in-Some-after_space.front.now c.in-Some-after_space.ensures c.in-Some-kind_front.kind
    c.in-Some-kind_front.facts.now c.in-Some-kind_front.ensures
    (MatchBool-at_false _ _ c.if-not-has_row.true c.has_row.ensures)

pub returns-in_default-2 : goal.returns-in_default-2
returns-in_default-2 c =
    no_facts c.args.rows.now c.requires.few c.args.line.now c.in-Some.id c.in-Some.rest.now c.in-Some.ensures
    c.in-Some-after_space.front.now c.in-Some-after_space.ensures c.in-Some-kind_front.kind
    c.in-Some-kind_front.facts.now c.in-Some-kind_front.ensures (rw c.in_default-2.is at c.in_ok-op.ensures)

pub overflow_cast-result : goal.overflow_cast-result
overflow_cast-result c =
    let small = has_row_within c.args.rows.now c.requires.few c.args.line.now c.in-Some.id c.in-Some.rest.now c.in-Some.ensures
    c.in-Some-after_space.front.now c.in-Some-after_space.ensures c.in-Some-kind_front.kind
    c.in-Some-kind_front.facts.now c.in-Some-kind_front.ensures
    (MatchBool-at_true _ _ c.if-not-has_row.false c.has_row.ensures) in
    search rules
