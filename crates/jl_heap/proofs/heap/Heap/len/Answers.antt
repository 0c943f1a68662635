use Rattle.std.proofs.Common.{◌∙◌, ap, length, sym}
use Rattle.jl_props.specs.Store.{entries_of}
use Rattle.jl_heap.specs.Objects.{Objects}
use Rattle.jl_heap.proofs.Seen.{length-objects_of}
use Rattle.jl_heap.proofs.heap.Heap.len.Goals as goal

pub returns : goal.returns
returns c =
    c.len.ensures ∙ sym (length-objects_of c.self.inside.headers (entries_of c.self.inside.properties))
    ∙ ap (λ (h : Objects). length h.objects) c.self.view_is
