use Rattle.std.proofs.Common.{◌≡◌, ◌∙◌, ◌≤◌, All, length, subst, sym}
use Rattle.std.proofs.lemmas.Result.{IfOk-weaker}
use Rattle.jl_ast.specs.View.{view}
use Rattle.jl_op.specs.IdMap.{id_map}
use Rattle.jl_srcmap.specs.Hooks.{segments_of}
use Rattle.jl_text.specs.Places.{LineTable, line_table}
use Rattle.jl_token.proofs.Whole.{tokens_are_unique}
use Rattle.jl_token.specs.declared.token.Token.{Token}
use Rattle.jl_app.proofs.MappedBack.{begin_within, same_segments}
use Rattle.jl_app.proofs.srcmap.woven_segments.Goals as goal

pub origins-requires-clause-tokens : goal.origins-requires-clause-tokens
origins-requires-clause-tokens c =
    let units = c.args.text.now in
    let tokens = c.in_ok-tokens.tokens in
    subst (λ (woven : LineTable). All (λ (t : Token). t.span.from ≤ woven.end) c.items.result.now)
    (sym c.in_ok-woven.ensures)
    (subst (λ ts. All (λ (t : Token). t.span.from ≤ length units) ts) (sym c.items.ensures)
    (begin_within 0 (length units) tokens (c.spans_are_in_order.ensures units tokens c.in_ok-tokens.ensures)))

pub returns-clause-are : goal.returns-clause-are
returns-clause-are c = λ tokens lexed.
    let text = c.args.text.now in
    let units = c.args.accepted.now.source in
    let rows = id_map (view c.args.accepted.now.program) in
    let found = c.items.ensures
    ∙ tokens_are_unique text c.in_ok-tokens.tokens tokens c.in_ok-tokens.ensures lexed in
    let same : segments_of c.in_ok-woven.woven c.in_ok-map.map c.lines.result.now c.items.result.now
    ≡ segments_of (line_table text) rows (line_table units) tokens =
    same_segments c.in_ok-woven.ensures c.in_ok-map.ensures.rows c.lines.ensures found in
    IfOk-weaker c.origins.result _
    (λ segments. segments.items ≡ segments_of (line_table text) rows (line_table units) tokens)
    (λ segments is. is ∙ same) c.origins.ensures.are
