use Rattle.std.proofs.Common.{true, false, arith}
use Rattle.jl_heap.proofs.Puts.{array_within}
use Rattle.jl_heap.proofs.Shortened.{shortened_is, there_after}
use Rattle.jl_heap.proofs.heap.Heap.shorten.Goals as goal

pub replace-requires : goal.replace-requires
replace-requires c =
    there_after c.args.self.now c.entries_outside.new.self c.args.id.0 c.args.low c.args.high
    c.reachable_length-end.result
    (array_within c.args.self.now c.args.id.0 c.requires.array) c.elements.ensures.in_order
    c.in_ok-names.names c.in_ok-names.ensures.covers _ c.items.ensures c.reachable_length-end.ensures _
    c.items-2.ensures c.entries_outside.ensures
    c.args.name.now c.requires.named c.requires.there

pub returns-then-end-low-clause-ok : goal.returns-then-end-low-clause-ok
returns-then-end-low-clause-ok c =
    shortened_is c.args.self.now c.entries_outside.new.self c.args.id.0 c.args.low c.args.high
    c.reachable_length-end.result
    (array_within c.args.self.now c.args.id.0 c.requires.array) c.elements.ensures.in_order
    c.in_ok-names.names c.in_ok-names.ensures.covers _ c.items.ensures c.reachable_length-end.ensures _
    c.items-2.ensures c.entries_outside.ensures
    c.replace.new.self c.args.name.now c.args.length.now c.with_count.result c.args.stays_writable true c.requires.named
    c.with_count.ensures c.replace.ensures (grind arith)

pub returns-clause-ok : goal.returns-clause-ok
returns-clause-ok c =
    shortened_is c.args.self.now c.entries_outside.new.self c.args.id.0 c.args.low c.args.high
    c.reachable_length-end.result
    (array_within c.args.self.now c.args.id.0 c.requires.array) c.elements.ensures.in_order
    c.in_ok-names.names c.in_ok-names.ensures.covers _ c.items.ensures c.reachable_length-end.ensures _
    c.items-2.ensures c.entries_outside.ensures
    c.replace.new.self c.args.name.now c.args.length.now c.with_count.result c.args.stays_writable false
    c.requires.named
    c.with_count.ensures c.replace.ensures (grind arith)
