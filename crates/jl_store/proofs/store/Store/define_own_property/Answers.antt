use Rattle.std.proofs.Common.{◌∙◌, ap, subst, sym}
use Rattle.std.specs.Option.{option_copied}
use Rattle.jl_store.specs.Defining.{IsLengthOf}
use Rattle.jl_store.proofs.Lengths.{fails_length, gives_length, is_bare, throws_length}
use Rattle.jl_store.proofs.store.Store.define_own_property.Goals as goal

pub returns-in-Gives : goal.returns-in-Gives
returns-in-Gives c =
    let given = sym c.length_given.ensures ∙ ap option_copied c.in-Some.is in
    let bare = is_bare c.args.id c.args.name.now c.args.change c.in-Some.value.now c.args.self.now.heap given
    c.requires.primitive in
    gives_length c.args.id c.args.name.now c.args.change c.in-Some.value.now c.args.self.now given bare
    c.to_length.new.self c.define_with_number-in-Gives.new.self c.in-Gives.number
    c.in_ok-define_with_number-in-Gives.field-0
    (subst (λ end. IsLengthOf c.in-Some.value.now c.args.self.now c.to_length.new.self end) c.in-Gives.is
    c.in_ok-number.ensures)
    c.in_ok-define_with_number-in-Gives.ensures

pub returns-in-Throws : goal.returns-in-Throws
returns-in-Throws c =
    let given = sym c.length_given.ensures ∙ ap option_copied c.in-Some.is in
    let bare = is_bare c.args.id c.args.name.now c.args.change c.in-Some.value.now c.args.self.now.heap given
    c.requires.primitive in
    throws_length c.args.id c.args.name.now c.args.change c.in-Some.value.now c.args.self.now given bare
    c.to_length.new.self c.to_length.new.self c.in-Throws.thrown
    (subst (λ end. IsLengthOf c.in-Some.value.now c.args.self.now c.to_length.new.self end) c.in-Throws.is
    c.in_ok-number.ensures)

pub returns : goal.returns
returns c =
    let given = sym c.length_given.ensures ∙ ap option_copied c.in-Some.is in
    let bare = is_bare c.args.id c.args.name.now c.args.change c.in-Some.value.now c.args.self.now.heap given
    c.requires.primitive in
    fails_length c.args.id c.args.name.now c.args.change c.in-Some.value.now c.args.self.now given bare
    c.to_length.new.self c.to_length.new.self c.in-Fails.fault
    (subst (λ end. IsLengthOf c.in-Some.value.now c.args.self.now c.to_length.new.self end) c.in-Fails.is
    c.in_ok-number.ensures)
