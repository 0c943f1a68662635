use Rattle.std.proofs.Common.{refl, subst, sym}
use Rattle.std.proofs.lemmas.Result.{IfOk-weaker}
use Rattle.std.specs.Str.Lossy.{utf8_valid_len}
use Rattle.jl_app.specs.Due.{refused_only}
use Rattle.jl_app.specs.Refusals.{refusal_words}
use Rattle.jl_app.specs.SourceMapping.{no_text, IsUnmapped}
use Rattle.jl_app.specs.Texts.{undecoded}
use Rattle.jl_app.specs.declared.refusal.Refusal.TheVariants.{NotUtf8}
use Rattle.jl_app.proofs.unmap.unmap.Goals as goal

pub list_segments-requires : goal.list_segments-requires
list_segments-requires c = record { short = c.requires; decoded = c.in-None.ensures }

pub returns-in-Some : goal.returns-in-Some
returns-in-Some c =
    let is = c.in-Some.ensures in
    let bytes = c.args.bytes.now in
    IfOk-weaker c.refusal_answer.result _ _
    (λ given answered. (
      refused_only (refusal_words (NotUtf8 c.in-Some.at)),
      subst (λ n. IsUnmapped bytes (refused_only (refusal_words (NotUtf8 n)))) (sym is.1)
          (no_text (NotUtf8 (utf8_valid_len bytes)) (undecoded c.requires is.0)),
      record { answer = record { status = answered.0; bytes = answered.1 }; untold = refl },
    ))
    c.refusal_answer.ensures
