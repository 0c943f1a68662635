use Rattle.std.proofs.Common.{◌∙◌, subst, sym}
use Rattle.std.specs.Prelude.{IsSome}
use Rattle.std.specs.Option.{option_copied}
use Rattle.jl_heap.proofs.Plainly.{array-define_ordinary, index_below, there-define_ordinary, there_if}
use Rattle.jl_heap.proofs.heap.Heap.define_element.Goals as goal

pub longer_length-longer-requires : goal.longer_length-longer-requires
longer_length-longer-requires c = index_below c.args.name.now c.args.index c.requires.element

pub set_length-requires-clause-array : goal.set_length-requires-clause-array
set_length-requires-clause-array c =
    array-define_ordinary c.args.self.now _ _ _ _ _ c.in_ok-answer.ensures.ok c.requires.array

pub set_length-requires-clause-there : goal.set_length-requires-clause-there
set_length-requires-clause-there c =
    there-define_ordinary c.args.self.now _ _ _ _ _ _ c.in_ok-answer.ensures.ok c.requires.element
    (subst (λ o. IsSome o) c.length-length.ensures
    (there_if _ _ (option_copied c.length-length.result) _ (sym c.longer_length-longer.ensures ∙ c.in-Done-Some.is-1)))
