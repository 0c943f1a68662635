use Rattle.std.proofs.Common.{◌≡◌, ◌-◌, Some, get_or, sym, ap, ◌∙◌}
use denote.Enum.Bare.{differs_true, differs_false}
use Rattle.jl_op.specs.contracts.kind.OpKind.{the_type}
use Rattle.jl_op.specs.declared.kind.OpKind.{OpKind}
use Rattle.jl_op.specs.declared.kind.OpKind.TheVariants as kinds
use Rattle.jl_record.specs.Records.{Row}
use Rattle.jl_record.proofs.OperationReads.{row_kind}
use Rattle.jl_record.proofs.line_facts.has_row.Goals as goal

no_row : Row
no_row = (kinds.ScriptEnter, 0, 0)

some_same : {a b : OpKind} → Some a ≡ Some b → a ≡ b
some_same e = cc

pub returns-then-ne : goal.returns-then-ne
unfolding no_row
returns-then-ne c = λ e.
    differs_true the_type (get_or c.args.rows.now (c.args.id - 1) no_row).0 c.args.kind (sym c.if-ne.ensures)
    (some_same (sym (row_kind c.args.rows.now c.args.id no_row c.if-id-eq0.false c.if-id-rows.false) ∙ e))

pub returns : goal.returns
unfolding no_row
returns c =
    row_kind c.args.rows.now c.args.id no_row c.if-id-eq0.false c.if-id-rows.false
    ∙ ap (λ k. Some k)
    (differs_false the_type _ (get_or c.args.rows.now (c.args.id - 1) no_row).0 c.args.kind (sym c.if-ne.ensures))
