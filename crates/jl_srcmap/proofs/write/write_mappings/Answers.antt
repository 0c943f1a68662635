use Rattle.std.proofs.Common.{◌≡◌, ◌∷◌, arith, rules}
use Rattle.std.proofs.lemmas.List.Elements.{All-more}
use Rattle.jl_srcmap.specs.Laws.{IsSmall}
use Rattle.jl_srcmap.specs.Written.{mappings_text}
use Rattle.jl_srcmap.specs.inner.Reading.{kept}
use Rattle.jl_srcmap.proofs.Ascii.{nothing_ascii, text_ascii}
use Rattle.jl_srcmap.proofs.Small.{all_written, whole_written, next_written, nothing_written}
use Rattle.jl_srcmap.proofs.write.write_mappings.Goals as goal

pub returns-in_default-clause-reads_back : goal.returns-in_default-clause-reads_back
returns-in_default-clause-reads_back c =
    nothing_written c.new-text.result.items c.args.segments.now c.new-text.ensures.items c.in_default.ensures.cases

pub loop-segment-preserved : goal.loop-segment-preserved
loop-segment-preserved c =
    let l = c.loop-segment in
    let others = c.in-Some.others.now in
    record {
      written = next_written (mappings_text c.args.segments.now) l.text.items c.push_between.new.text.items
          c.push_segment-in-loop-segment.new.text.items others l.segment-index _ (kept l.running)
          (kept c.after-running-in-loop-segment.result)
          (omega arith) l.invariant.written c.in_ok-push_between.ensures c.in_ok-push_segment-2.ensures.text
          c.after-running-in-loop-segment.ensures;
      small = All-more IsSmall others l.segment-index _ (omega arith) l.invariant.small
          c.in_ok-push_segment-2.ensures.small;
    }

pub returns-clause-reads_back : goal.returns-clause-reads_back
returns-clause-reads_back c =
    let l = c.loop-segment in
    let is : c.args.segments.now ≡ c.in-Some.first.now ∷ c.in-Some.others.now = search rules in
    all_written l.text.items c.args.segments.now c.in-Some.first.now c.in-Some.others.now (kept l.running)
    l.segment-index is l.invariant.written (omega arith) c.in_ok-push_segment.ensures.small l.invariant.small c.requires

pub returns-in_default-clause-ascii : goal.returns-in_default-clause-ascii
returns-in_default-clause-ascii c = nothing_ascii c.new-text.result.items c.new-text.ensures.items

pub returns-clause-ascii : goal.returns-clause-ascii
returns-clause-ascii c =
    let l = c.loop-segment in
    text_ascii l.text.items c.args.segments.now
    (whole_written l.text.items c.args.segments.now c.in-Some.others.now (kept l.running) l.segment-index
    l.invariant.written (omega arith))
