use Rattle.std.proofs.lemmas.Result.{IfOk-weaker}
use Rattle.jl_ast.specs.View.{view}
use Rattle.jl_op.specs.KindSets.{is_member}
use Rattle.jl_weave.proofs.Promises.{back, kept, simulated}
use Rattle.jl_weave.proofs.weave.Goals as goal

pub returns-clause-simulates : goal.returns-clause-simulates
returns-clause-simulates c =
    let p = view c.args.program.now in
    IfOk-weaker _ _ _ (λ made woven. simulated c.accepted_scripts_simulate.ensures (is_member c.args.kinds) p
    (view made) woven)
    c.weave_program.ensures

pub returns-clause-low : goal.returns-clause-low
returns-clause-low c =
    let p = view c.args.program.now in
    IfOk-weaker _ _ _ (λ made woven. c.woven_height.ensures (is_member c.args.kinds) p (view made) woven)
    c.weave_program.ensures

pub returns-clause-back : goal.returns-clause-back
returns-clause-back c =
    let p = view c.args.program.now in
    IfOk-weaker _ _ _ (λ made woven. back c.woven_is_well_formed.ensures c.woven_height.ensures
    c.printed_reads_back.ensures c.text_is_paired.ensures (is_member c.args.kinds) p (view made) c.requires woven)
    c.weave_program.ensures

pub returns-clause-rules : goal.returns-clause-rules
returns-clause-rules c =
    let p = view c.args.program.now in
    IfOk-weaker _ _ _ (λ made woven. kept c.woven_keeps_rules.ensures.rules (is_member c.args.kinds) p (view made)
    woven)
    c.weave_program.ensures
