use Rattle.std.proofs.Common.{length, subst, sym, ◌∙◌, ap}
use Rattle.std.specs.Prelude.{IsTrue}
use Rattle.jl_props.specs.Store.{entries_of}
use Rattle.jl_heap.specs.Inside.{is_older}
use Rattle.jl_heap.specs.Objects.{Objects}
use Rattle.jl_heap.proofs.Pushed.{kept_pushed, seen_pushed}
use Rattle.jl_heap.proofs.Seen.{length-objects_of}
use Rattle.jl_heap.proofs.heap.Heap.push_plain.Goals as goal

pub invariant_of-self : goal.invariant_of-self
invariant_of-self c =
    let places = ap (λ (h : Objects). length h.objects) (sym c.self.view_is)
    ∙ length-objects_of c.self.inside.headers (entries_of c.self.inside.properties) in
    kept_pushed c.self.inside c.args.header c.self.invariant
    (subst (λ n. IsTrue (is_older n c.args.header.proto)) places c.requires.older)
    c.push.result c.push.new.self c.requires.no_array c.push.ensures.ok c.push.ensures.err

pub returns-clause-ok : goal.returns-clause-ok
returns-clause-ok c =
    seen_pushed c.self.inside c.args.header c.self.invariant _ c.self.view_is c.push.result c.push.new.self
    c.push.ensures.ok
