use Rattle.std.proofs.Common.{◌∙◌, ap, refl}
use Rattle.std.proofs.lemmas.Result.{IfOk-weaker}
use Rattle.std.specs.Fmt.{decimal}
use Rattle.std.specs.Prelude.{◌++◌, codes}
use Rattle.jl_app.specs.Due.{refused_only, text_only}
use Rattle.jl_app.specs.SourceMapping.{listed_segments, no_json, no_map, no_segment, segment_lines}
use Rattle.jl_app.specs.declared.status.Status.TheVariants.{Clean}
use Rattle.jl_app.proofs.unmap.list_segments.Goals as goal

pub returns-in_ok-segment_lines-in-Ok : goal.returns-in_ok-segment_lines-in-Ok
returns-in_ok-segment_lines-in-Ok c = (
  text_only Clean (segment_lines c.in-Ok.segments.items),
  listed_segments c.in-Ok.segments.items c.requires c.in-Ok.ensures.read,
  record {
    answer = record {
      status = refl;
      bytes = c.in_ok-segment_lines-in-Ok.ensures ∙ ap segment_lines c.deref.ensures.value;
    };
    untold = refl;
  },
)

pub returns-in-Err-MapJson : goal.returns-in-Err-MapJson
returns-in-Err-MapJson c =
    let why = rw c.in-Err-MapJson.field-0-is at c.in-Err-MapJson.ensures.refused in
    IfOk-weaker c.line_only.result _ _
    (λ given answered. (
      refused_only (codes "MapJson"),
      no_json c.requires why,
      record { answer = record { status = answered.0; bytes = answered.1 }; untold = refl },
    ))
    c.line_only.ensures

pub returns-in-Err-MapShape : goal.returns-in-Err-MapShape
returns-in-Err-MapShape c =
    let why = rw c.in-Err-MapShape.field-0-is at c.in-Err-MapShape.ensures.refused in
    IfOk-weaker c.line_only-in-Err-MapShape.result _ _
    (λ given answered. (
      refused_only (codes "MapShape"),
      no_map c.requires why,
      record { answer = record { status = answered.0; bytes = answered.1 }; untold = refl },
    ))
    c.line_only-in-Err-MapShape.ensures

pub returns-in-Err-BadSegment : goal.returns-in-Err-BadSegment
returns-in-Err-BadSegment c =
    let why = rw c.in-Err-BadSegment.field-0-is at c.in-Err-BadSegment.ensures.refused in
    IfOk-weaker c.bad_segment.result _ _
    (λ given answered. (
      refused_only (codes "MapText at " ++ decimal c.in-Err-BadSegment.at),
      no_segment c.in-Err-BadSegment.at c.requires why,
      record { answer = answered; untold = refl },
    ))
    c.bad_segment.ensures
