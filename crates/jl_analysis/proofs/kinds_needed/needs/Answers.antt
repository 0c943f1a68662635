use Rattle.std.proofs.Common.{◌≡◌, ◌∙◌, ap, sym, arith}
use Rattle.std.specs.Prelude.{◌&&◌, ◌||◌}
use Rattle.std.specs.List.{list_any}
use Rattle.jl_op.specs.KindSets.{is_member}
use Rattle.jl_analysis.specs.Chosen.{is_chosen}
use Rattle.jl_analysis.specs.Rules.{is_one_of, looks_at}
use Rattle.jl_analysis.proofs.KindsAdded.{rules_below, one_rule_taken, one_rule_passed}
use Rattle.jl_analysis.proofs.kinds_needed.needs.Goals as goal
use Rattle.jl_analysis.proofs.kinds_needed.needs.Goals.{then-has, else-has}

pub loop-rule-preserved : goal.loop-rule-preserved
loop-rule-preserved c = λ kind.
    let chosen = is_chosen c.args.rules in
    elim c.if-has.branch [
      | then-has w ↦
          ap (λ s. is_member s kind) w.kinds-is
          ∙ one_rule_taken chosen (is_member c.loop-rule.kinds) (is_member w.with_all-kinds.result) c.loop-rule.rule
          kind (omega arith) (sym c.has.ensures ∙ w.if-has.true) (c.loop-rule.invariant kind)
          (w.with_all-kinds.ensures kind ∙ ap (λ l. is_member c.loop-rule.kinds kind || is_one_of l kind)
          w.needed_by.ensures)
      | else-has w ↦
          ap (λ s. is_member s kind) w.kinds-is
          ∙ one_rule_passed chosen (is_member c.loop-rule.kinds) c.loop-rule.rule kind (omega arith)
          (sym c.has.ensures ∙ w.if-has.false) (c.loop-rule.invariant kind)
    ]

pub returns : goal.returns
returns c = λ kind.
    let at_end : c.loop-rule.rule ≡ 21 = omega arith in
    c.loop-rule.invariant kind
    ∙ ap (λ r. list_any (λ rule. is_chosen c.args.rules rule && looks_at rule kind) (rules_below r)) at_end
