use Rattle.std.proofs.Common.{◌∷◌, ◌++◌, ◌+◌, [], ap, arith, drop, length, map, slice_range, sym, ◌∙◌}
use Rattle.jl_meaning.specs.builtins.String.{pieces_from}
use Rattle.jl_value.specs.declared.value.Value.TheVariants as value
use Rattle.jl_lib_text.proofs.Pieces.{end_piece, next_piece}
use Rattle.jl_lib_text.proofs.splitting.pieces_between.Goals as goal

pub overflow_add-start : goal.overflow_add-start
overflow_add-start c =
    let inside = c.in-Some.ensures.least.1.0 in
    omega (arith, inside, c.units-end.ensures.short, ap length c.units.ensures.same)

pub loop-place-preserved : goal.loop-place-preserved
loop-place-preserved c =
    let units = c.args.units.now in
    let separator = c.args.separator.now in
    let inside = c.in-Some.ensures.least.1.0 in
    let length_is = ap length c.units.ensures.same in
    record {
      within = omega (arith, inside, length_is);
      rest =
          ap (λ l. l ++ map (λ part. value.Text part)
          (pieces_from separator 0 [] (drop (c.in-Some.place + length c.units.result.now) units)))
          (c.in_ok-push.ensures.ok ∙ ap (λ t. c.loop-place.list ++ value.Text t ∷ []) c.in_ok-slice.ensures)
          ∙ ap (λ n. (c.loop-place.list ++ value.Text (slice_range units c.loop-place.start c.in-Some.place) ∷ [])
          ++ map (λ part. value.Text part) (pieces_from separator 0 [] (drop (c.in-Some.place + n) units))) length_is
          ∙ next_piece (λ part. value.Text part) c.loop-place.list _ separator units c.loop-place.start c.in-Some.place
          c.requires c.loop-place.invariant.within (sym c.find.ensures.value ∙ c.in-Some.is)
          c.loop-place.invariant.rest;
    }

pub returns : goal.returns
returns c =
    let units = c.args.units.now in
    c.in_ok-push-2.ensures.ok
    ∙ ap (λ t. c.loop-place.list ++ value.Text t ∷ []) (c.in_ok-slice-2.ensures
    ∙ ap (λ n. slice_range units c.loop-place.start n) (ap length c.units-end.ensures.same))
    ∙ end_piece (λ part. value.Text part) c.loop-place.list _ c.args.separator.now units c.loop-place.start
    c.requires c.loop-place.invariant.within (sym c.find.ensures.value ∙ c.in_default.is) c.loop-place.invariant.rest
