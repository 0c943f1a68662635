use Rattle.std.proofs.Common.{◌∙◌, ap, arith, length, refl, subst, sym}
use Rattle.jl_ast.specs.View.{view}
use Rattle.jl_op.specs.Chosen.{every_kind}
use Rattle.jl_op.specs.IdMap.{id_map}
use Rattle.jl_srcmap.specs.Hooks.{segments_of}
use Rattle.jl_srcmap.specs.SourceMap.{source_map_text}
use Rattle.jl_srcmap.specs.Written.{mappings_text}
use Rattle.jl_text.specs.Places.{line_table}
use Rattle.jl_token.specs.Tokens.{Tokens}
use Rattle.jl_app.specs.SourceMapping.{mapped_back}
use Rattle.jl_app.proofs.WovenTexts.{of_kinds_text}
use Rattle.jl_app.proofs.srcmap.srcmap.Goals as goal

pub woven_segments-requires-clause-lexed : goal.woven_segments-requires-clause-lexed
woven_segments-requires-clause-lexed c =
    let p = view c.args.accepted.now.program in
    let text = c.deref.ensures.value ∙ c.in_ok-text.ensures ∙ of_kinds_text c.all.result every_kind c.all.ensures p in
    let well = c.scripts_are_woven_well.ensures every_kind c.requires.accepted.0 p c.requires.accepted.1 in
    let read = well.back.read in
    (read.tokens, subst (λ us. Tokens us read.tokens) (sym text) read.lexed)

pub woven_segments-requires-clause-short : goal.woven_segments-requires-clause-short
woven_segments-requires-clause-short c =
    let p = view c.args.accepted.now.program in
    let text = c.deref.ensures.value ∙ c.in_ok-text.ensures ∙ of_kinds_text c.all.result every_kind c.all.ensures p in
    let well = c.scripts_are_woven_well.ensures every_kind c.requires.accepted.0 p c.requires.accepted.1 in
    omega (arith, ap length text, well.back.read.short)

pub returns : goal.returns
returns c =
    let units = c.args.accepted.now.source in
    let p = view c.args.accepted.now.program in
    let text = c.deref.ensures.value ∙ c.in_ok-text.ensures ∙ of_kinds_text c.all.result every_kind c.all.ensures p in
    let well = c.scripts_are_woven_well.ensures every_kind c.requires.accepted.0 p c.requires.accepted.1 in
    let read = well.back.read in
    let tokens = read.tokens in
    let segments = c.in_ok-segments.ensures.are tokens (subst (λ us. Tokens us tokens) (sym text) read.lexed)
    ∙ ap (λ us. segments_of (line_table us) (id_map p) (line_table units) tokens) text in
    let mappings = c.deref-3.ensures.value ∙ c.in_ok-mappings.ensures.text
    ∙ ap mappings_text (c.deref-2.ensures.value ∙ segments) in (
      _,
      mapped_back tokens read.lexed,
      record {
        answer = record {
          status = refl;
          bytes = c.in_ok-write_json.ensures.text ∙ ap source_map_text mappings;
        };
        untold = refl;
      },
    )
