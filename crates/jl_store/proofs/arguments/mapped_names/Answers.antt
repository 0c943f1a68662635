use Rattle.std.proofs.Common.{◌≡◌, ◌∙◌, ◌-◌, ◌<◌, ◌≤◌, ◌++◌, suc, arith, drop, length, subst}
use Rattle.jl_meaning.specs.ArgumentsObject.{mapped_names}
use Rattle.jl_scope.specs.NameSets.{SameNames}
use Rattle.jl_store.specs.Plain.{names_of}
use Rattle.jl_store.specs.inner.Arguments.{no_mappings}
use Rattle.jl_store.proofs.MappedNames.{mapped_new, mapped_old, same_before, within_mapped}
use Rattle.jl_store.proofs.arguments.mapped_names.Goals as goal

pub set-requires : goal.set-requires
set-requires c =
    let room : c.loop-at.at ≤ length c.loop-at.names = within_mapped _ _ _ c.loop-at.invariant.mapped in
    omega (arith, room, c.loop-at-test.true)

pub loop-at-preserved-then-branch : goal.loop-at-preserved-then-branch
loop-at-preserved-then-branch c =
    let k = c.loop-at.at - 1 in
    let next : c.loop-at.at ≡ suc (c.loop-at.at - 1) = omega (arith, c.loop-at-test.true) in
    let within : c.loop-at.at - 1 < length c.args.params.now =
    omega (arith, c.loop-at-test.true, c.loop-at.invariant.within) in
    let mapped =
    subst (λ n. c.loop-at.names ≡ no_mappings n ++ mapped_names (names_of (drop n c.args.params.now))) next
    c.loop-at.invariant.mapped in
    let same = subst (λ n. SameNames c.loop-at.later (names_of (drop n c.args.params.now))) next
    c.loop-at.invariant.same in
    record {
      mapped =
          c.set.ensures
          ∙ mapped_new k c.args.params.now c.index-params-at.result c.loop-at.names c.loop-at.later _ _ within
          c.index-params-at.is mapped same c.units.ensures.same c.in_ok-insert.ensures.added _ c.in_ok-share.ensures
          c.if-branch.true;
      same =
          same_before k c.args.params.now c.index-params-at.result c.loop-at.names c.loop-at.later _ _ within
          c.index-params-at.is mapped same c.units.ensures.same c.in_ok-insert.ensures.added _
          c.in_ok-insert.ensures.names;
      within = omega (arith, within);
    }

pub loop-at-preserved : goal.loop-at-preserved
loop-at-preserved c =
    let k = c.loop-at.at - 1 in
    let next : c.loop-at.at ≡ suc (c.loop-at.at - 1) = omega (arith, c.loop-at-test.true) in
    let within : c.loop-at.at - 1 < length c.args.params.now =
    omega (arith, c.loop-at-test.true, c.loop-at.invariant.within) in
    let mapped =
    subst (λ n. c.loop-at.names ≡ no_mappings n ++ mapped_names (names_of (drop n c.args.params.now))) next
    c.loop-at.invariant.mapped in
    let same = subst (λ n. SameNames c.loop-at.later (names_of (drop n c.args.params.now))) next
    c.loop-at.invariant.same in
    record {
      mapped =
          mapped_old k c.args.params.now c.index-params-at.result c.loop-at.names c.loop-at.later _ _ within
          c.index-params-at.is mapped same c.units.ensures.same c.in_ok-insert.ensures.added c.if-branch.false;
      same =
          same_before k c.args.params.now c.index-params-at.result c.loop-at.names c.loop-at.later _ _ within
          c.index-params-at.is mapped same c.units.ensures.same c.in_ok-insert.ensures.added _
          c.in_ok-insert.ensures.names;
      within = omega (arith, within);
    }
