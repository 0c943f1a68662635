use Rattle.std.proofs.Common.{◌∙◌, ℕ, ap, get_or, refl}
use Rattle.std.proofs.Math.ListN.{set}
use Rattle.jl_heap.specs.Headers.{unmapped_inside}
use Rattle.jl_heap.specs.Objects.{Object}
use Rattle.jl_heap.specs.declared.header.Header.{Header}
use Rattle.jl_heap.proofs.HeaderSteps.{come_back, kept_changed, no_header, seen_changed}
use Rattle.jl_heap.proofs.heap.Heap.unmap.Goals as goal

abbrev change : ℕ → Header → Header
change index h = record h { inner = unmapped_inside h.inner index }

pub invariant_of-self : goal.invariant_of-self
invariant_of-self c =
    kept_changed c.self.inside c.args.id.0 (change c.args.index) (λ h. refl) (λ h. refl) _
    (come_back c.self.inside.headers c.items_mut.result.now c.unmap_at.new.headers c.args.id.0 _
    c.items_mut.ensures.value
    (c.unmap_at.ensures no_header)
    ∙ ap (λ l. set c.self.inside.headers c.args.id.0 (change c.args.index (get_or l c.args.id.0 no_header)))
    c.items_mut.ensures.value)
    c.self.invariant

pub returns : goal.returns
returns c =
    seen_changed c.self.inside c.args.id.0 (change c.args.index) (λ h. refl) (λ h. refl) _
    (come_back c.self.inside.headers c.items_mut.result.now c.unmap_at.new.headers c.args.id.0 _
    c.items_mut.ensures.value
    (c.unmap_at.ensures no_header)
    ∙ ap (λ l. set c.self.inside.headers c.args.id.0 (change c.args.index (get_or l c.args.id.0 no_header)))
    c.items_mut.ensures.value)
    c.args.self.now (λ (o : Object). record o { inner = unmapped_inside o.inner c.args.index }) c.self.view_is
    (λ h es. refl)
