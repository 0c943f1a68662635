use Rattle.std.proofs.Common.{◌∙◌, ap, false, get_or, refl}
use Rattle.std.proofs.Math.ListN.{set}
use Rattle.jl_heap.specs.Objects.{Object}
use Rattle.jl_heap.specs.declared.header.Header.{Header}
use Rattle.jl_heap.proofs.HeaderSteps.{come_back, kept_changed, no_header, seen_changed}
use Rattle.jl_heap.proofs.heap.Heap.prevent_extensions.Goals as goal

abbrev change : Header → Header
change h = record h { extensible = false }

pub invariant_of-self : goal.invariant_of-self
invariant_of-self c =
    kept_changed c.self.inside c.args.id.0 change (λ h. refl) (λ h. refl) _
    (come_back c.self.inside.headers c.items_mut.result.now c.prevent_at.new.headers c.args.id.0 _
    c.items_mut.ensures.value
    (c.prevent_at.ensures no_header)
    ∙ ap (λ l. set c.self.inside.headers c.args.id.0 (change (get_or l c.args.id.0 no_header)))
    c.items_mut.ensures.value)
    c.self.invariant

pub returns : goal.returns
returns c =
    seen_changed c.self.inside c.args.id.0 change (λ h. refl) (λ h. refl) _
    (come_back c.self.inside.headers c.items_mut.result.now c.prevent_at.new.headers c.args.id.0 _
    c.items_mut.ensures.value
    (c.prevent_at.ensures no_header)
    ∙ ap (λ l. set c.self.inside.headers c.args.id.0 (change (get_or l c.args.id.0 no_header)))
    c.items_mut.ensures.value)
    c.args.self.now (λ (o : Object). record o { extensible = false }) c.self.view_is (λ h es. refl)
