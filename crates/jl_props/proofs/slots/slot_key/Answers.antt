use Rattle.std.proofs.Common.{ap, ◌∙◌, sym, length, refl, arith}
use Rattle.std.proofs.lemmas.Option.{slice_get_read}
use Rattle.slab.specs.Slab.{get}
use Rattle.jl_props.specs.inner.Linked.{key_in}
use Rattle.jl_props.proofs.FoundLemmas.{first_found, last_found, none_found_of_two}
use Rattle.jl_props.proofs.slots.slot_key.Goals as goal

pub returns-then-is_named : goal.returns-then-is_named
returns-then-is_named g c =
    let objects = c.args.objects.now in
    let object = c.in_ok-object.object.now in
    let is = slice_get_read objects (length objects) c.args.obj object refl c.in_ok-object.ensures.lookup.3.0
    c.in_ok-object.ensures.lookup.1 in
    first_found (get c.args.slots.now) objects c.args.obj object c.args.name.now c.requires is
    (sym c.is_named.ensures ∙ c.if-is_named.true)

pub returns-then-is_named-2 : goal.returns-then-is_named-2
returns-then-is_named-2 g c =
    let objects = c.args.objects.now in
    let object = c.in_ok-object.object.now in
    let is = slice_get_read objects (length objects) c.args.obj object refl c.in_ok-object.ensures.lookup.3.0
    c.in_ok-object.ensures.lookup.1 in
    last_found (get c.args.slots.now) objects c.args.obj object c.args.name.now c.requires is
    (sym c.is_named-2.ensures ∙ c.if-is_named-2.true)

pub returns-then-len-le2 : goal.returns-then-len-le2
returns-then-len-le2 g c =
    let objects = c.args.objects.now in
    let object = c.in_ok-object.object.now in
    let is = slice_get_read objects (length objects) c.args.obj object refl c.in_ok-object.ensures.lookup.3.0
    c.in_ok-object.ensures.lookup.1 in
    none_found_of_two (get c.args.slots.now) objects c.args.obj object c.args.name.now c.requires is
    (omega (arith, c.len.ensures.len, c.if-len-le2.true)) (sym c.is_named.ensures ∙ c.if-is_named.false)
    (sym c.is_named-2.ensures ∙ c.if-is_named-2.false)

pub returns : goal.returns
returns g c =
    let objects = c.args.objects.now in
    let object = c.in_ok-object.object.now in
    let is = slice_get_read objects (length objects) c.args.obj object refl c.in_ok-object.ensures.lookup.3.0
    c.in_ok-object.ensures.lookup.1 in
    c.copied.ensures ∙ c.get-2.ensures.value ∙ ap (λ o. key_in o c.args.name.now) (sym is)
