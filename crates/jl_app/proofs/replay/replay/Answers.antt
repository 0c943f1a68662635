use Rattle.std.proofs.Common.{◌∙◌, refl, subst, sym}
use Rattle.std.proofs.lemmas.Result.{IfOk-weaker}
use Rattle.std.specs.Str.Lossy.{utf8_valid_len}
use Rattle.jl_app.specs.Due.{refused_only}
use Rattle.jl_app.specs.Refusals.{refusal_words}
use Rattle.jl_app.specs.Replaying.{not_text, IsReplayed}
use Rattle.jl_app.specs.Texts.{undecoded}
use Rattle.jl_app.specs.declared.refusal.Refusal.TheVariants.{NotUtf8}
use Rattle.jl_app.proofs.replay.replay.Goals as goal

pub returns-in-Ok-clause-due : goal.returns-in-Ok-clause-due
returns-in-Ok-clause-due g c = λ chosen choice.
    c.replay_units.ensures.due chosen c.args.bytes.now choice
    (record { short = c.requires.short; decoded = c.in-Ok.ensures.made.0 })
    (c.deref.ensures.value ∙ c.in-Ok.ensures.made.1)

pub returns-in-Err-NotUtf8-clause-due : goal.returns-in-Err-NotUtf8-clause-due
returns-in-Err-NotUtf8-clause-due g c = λ chosen choice.
    let told = rw c.in-Err-NotUtf8.field-0-is at c.in-Err-NotUtf8.ensures.not_utf8 in
    let is = (told c.in-Err-NotUtf8.at).0 refl in
    let said = rw c.in-Err-NotUtf8.field-0-is at c.refusal_answer.ensures in
    let bytes = c.args.bytes.now in
    IfOk-weaker c.refusal_answer.result _ _
    (λ given answered. (
      refused_only (refusal_words (NotUtf8 c.in-Err-NotUtf8.at)),
      subst (λ n. IsReplayed chosen bytes (refused_only (refusal_words (NotUtf8 n)))) (sym is.1)
          (not_text (NotUtf8 (utf8_valid_len bytes)) (undecoded c.requires.short is.0)),
      record { status = answered.0; bytes = answered.1; told = refl },
    )) said
