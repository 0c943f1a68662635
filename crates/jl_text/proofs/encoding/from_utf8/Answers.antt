use Rattle.std.proofs.Common.{[], ◌∷◌, ap, sym, ◌∙◌, append-nil}
use Rattle.std.proofs.lemmas.Iterator.{YieldsList-from_chars}
use Rattle.std.proofs.lemmas.Iterator.Consumers.{YieldsList-end}
use Rattle.std.proofs.lemmas.List.{map-id}
use Rattle.std.specs.Char.Escape.{encode_utf16}
use Rattle.jl_text.specs.Encoding.{encode_utf16_all, units_of}
use Rattle.jl_text.proofs.AsciiLemmas.{ascii_units}
use Rattle.jl_text.proofs.EncodingLemmas.{encode_utf16_all-append}
use Rattle.jl_text.proofs.encoding.from_utf8.Goals as goal

pub loop-c-preserved : goal.loop-c-preserved
loop-c-preserved c =
    let split = encode_utf16_all-append c.loop-c.yielded (c.in-Some.c ∷ []) in
    let last = append-nil (encode_utf16 c.in-Some.c) in
    let sent = c.in_ok-push_character.ensures in cc

pub returns-clause-made : goal.returns-clause-made
returns-clause-made c =
    let valid = c.in-Ok.ensures.cases in
    let all = (YieldsList-end
    (YieldsList-from_chars c.in-Ok.text.now
    (rw valid.0 valid.1) cc) c.loop-c.yielded _ c.loop-c.yielded_by _ _ c.in-None.is c.next.ensures.steps).0 in
    let read = sym (map-id c.loop-c.yielded) ∙ all in
    (valid.1, c.loop-c.invariant ∙ ap encode_utf16_all read ∙ ap units_of valid.0)

pub returns-then-is_ascii-clause-made : goal.returns-then-is_ascii-clause-made
returns-then-is_ascii-clause-made c =
    let plain = ascii_units c.args.bytes.now (sym c.is_ascii.ensures ∙ c.if-is_ascii.true) in
    (c.in-Ok.ensures.cases.1, c.in_ok-widened.ensures ∙ sym plain)
