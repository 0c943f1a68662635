use Rattle.std.proofs.Common.{sym, ◌∙◌, length, refl}
use Rattle.std.proofs.lemmas.List.{length-map}
use Rattle.std.proofs.lemmas.Result.{on_ok_weaker}
use Rattle.jl_record.specs.Recording.{rows_of}
use Rattle.jl_record.proofs.RecordText.{row_at, appends_head}
use Rattle.jl_record.proofs.written_lines.write_head.Goals as goal

pub returns-clause-holds : goal.returns-clause-holds
returns-clause-holds c =
    let rows = rows_of c.args.lines.now c.args.rows.now in
    on_ok_weaker _
    (λ h. appends_head _ _ _ _ _ _ _ rows c.args.off.now c.pairs-pairs.result.now c.from.result
    (length c.pairs-pairs.result.now)
    c.args.count (c.from.ensures ∙ c.len.ensures ∙ sym (length-map c.args.rows.now (row_at c.args.lines.now))) refl
    c.pairs-pairs.ensures.value c.in_ok-word.ensures.holds c.in_ok-write_count.ensures.holds
    c.in_ok-write_rows.ensures.holds c.in_ok-write_count-2.ensures.holds c.in_ok-write_pairs.ensures.holds h)
    c.write_count-3.ensures.holds
