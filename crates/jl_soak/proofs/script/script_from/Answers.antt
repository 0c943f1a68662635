use Rattle.std.proofs.Common.{◌∙◌}
use Rattle.jl_soak.proofs.Lines.{without_lines, is_short, is_whole, one_more}
use Rattle.jl_soak.proofs.script.script_from.Goals as goal

pub loop-before-init : goal.loop-before-init
loop-before-init c = c.in_ok-text.ensures.items ∙ without_lines

pub loop-before-preserved : goal.loop-before-preserved
loop-before-preserved c =
    c.in_ok-extend_from_slice.ensures.items
    ∙ one_more c.loop-before.text.items c.as_bytes.result.now c.loop-before.before c.loop-before.invariant
    (c.as_bytes.ensures.value ∙ c.in_ok-lines.ensures)

pub returns-clause-text : goal.returns-clause-text
returns-clause-text c =
    c.in_ok-extend_from_slice-2.ensures.items
    ∙ is_whole c.loop-before.text.items c.loop-before.before c.args.number c.loop-before-test.false
    c.loop-before.auto.before-end c.loop-before.invariant

pub returns-clause-size : goal.returns-clause-size
returns-clause-size c =
    is_short c.extend_from_slice-2.new.self.items c.args.number c.requires (returns-clause-text c)
