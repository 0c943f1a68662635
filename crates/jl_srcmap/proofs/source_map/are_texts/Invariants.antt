use Rattle.std.proofs.Common.{◌≡◌, length}
use Rattle.serde_json.specs.View.{items_view}
use Rattle.jl_srcmap.specs.SourceMap.{all_are, is_text}
use Rattle.jl_srcmap.proofs.source_map.are_texts.Given as goal

abbrev pub invariant-loop-values : goal.invariant-loop-values
invariant-loop-values l = all_are is_text (items_view l.values) ≡ all_are is_text (items_view l.fn.values)

abbrev pub decreases-loop-values : goal.decreases-loop-values
decreases-loop-values l = length l.values
