use Rattle.std.proofs.Common.{arith}
use Rattle.jl_op.specs.Chosen.{every_kind}
use Rattle.jl_app.proofs.ListedMaps.{maps_listed}
use Rattle.jl_app.proofs.laws.source_maps_are_listed.Goals as goal

pub returns : goal.returns
returns c = λ bytes p due tokens is mapped lexed short.
    let few = (c.scripts_are_woven_well.ensures every_kind bytes p is).back.read.short in
    maps_listed c.written_reads_back.ensures c.readings_are_unique.ensures c.never_both.ensures
    c.bad_place_is_unique.ensures c.spans_are_in_order.ensures c.rows_lie_in_the_text.ensures.begins bytes p due tokens
    is (omega (arith, few)) mapped lexed short
