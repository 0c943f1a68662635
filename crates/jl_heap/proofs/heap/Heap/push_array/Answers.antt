use Rattle.std.proofs.Common.{◌≡◌, ◌+◌, [], ◌∷◌, ◌++◌, length, subst, sym, ◌∙◌, ap}
use Rattle.std.specs.Prelude.{IsTrue, Some}
use Rattle.jl_props.specs.Entries.{with_new}
use Rattle.jl_props.specs.Store.{Changes, entries_of}
use Rattle.jl_heap.specs.Define.{length_name, with_new_property}
use Rattle.jl_heap.specs.Inside.{is_older, objects_inside}
use Rattle.jl_heap.specs.Objects.{Objects}
use Rattle.jl_heap.specs.View.{object_of}
use Rattle.jl_heap.proofs.Pushed.{kept_array, kept_back, popped, seen_array, seen_back}
use Rattle.jl_heap.proofs.Seen.{length-objects_of}
use Rattle.jl_heap.proofs.heap.Heap.push_array.Goals as goal

pub invariant_of-self-in-Ok : goal.invariant_of-self-in-Ok
invariant_of-self-in-Ok c =
    let a = c.self.inside in
    let places = ap (λ (h : Objects). length h.objects) (sym c.self.view_is)
    ∙ length-objects_of a.headers (entries_of a.properties) in
    kept_array a c.args.header c.self.invariant
    (subst (λ n. IsTrue (is_older n c.args.header.proto)) places c.requires.older)
    c.push.new.self c.put_new.new.self _ _ c.in_ok-spare.spare c.in_ok-push.ensures.ok
    (subst (λ k. Changes a.properties c.put_new.new.self k
    (with_new (entries_of a.properties k) c.in_ok-name.name a.properties.next c.first_length.result)
    (a.properties.next + 1))
    c.len-place.ensures c.in-Ok.ensures.made)
    (c.in_ok-spare.ensures ∙ c.in_ok-name.ensures)

pub returns-in-Ok-clause-ok : goal.returns-in-Ok-clause-ok
returns-in-Ok-clause-ok c =
    let a = c.self.inside in
    subst (λ item. objects_inside (record a {
      headers = c.push.new.self;
      properties = c.put_new.new.self;
      length_name = Some c.in_ok-spare.spare;
    })
    ≡ with_new_property (record c.args.self.now {
      objects = c.args.self.now.objects ++ object_of c.args.header []
          ∷ [];
    })
    (length c.args.self.now.objects) length_name item)
    c.first_length.ensures
    (seen_array a c.args.header c.self.invariant c.args.self.now c.self.view_is c.push.new.self c.put_new.new.self
    c.in_ok-name.name
    c.first_length.result (Some c.in_ok-spare.spare) c.in_ok-push.ensures.ok c.in_ok-name.ensures
    (subst (λ k. Changes a.properties c.put_new.new.self k
    (with_new (entries_of a.properties k) c.in_ok-name.name a.properties.next c.first_length.result)
    (a.properties.next + 1))
    c.len-place.ensures c.in-Ok.ensures.made))

pub invariant_of-self-in-Err-1 : goal.invariant_of-self-in-Err-1
invariant_of-self-in-Err-1 c =
    kept_back c.self.inside c.pop.new.self c.put_new.new.self c.self.invariant
    (popped c.self.inside.headers c.push.new.self c.pop.new.self c.args.header c.pop.result c.in_ok-push.ensures.ok
    c.pop.ensures)
    c.in-Err.ensures.err

pub returns-in-Err-clause-err : goal.returns-in-Err-clause-err
returns-in-Err-clause-err c =
    seen_back c.self.inside c.args.self.now c.pop.new.self c.put_new.new.self c.self.view_is
    (popped c.self.inside.headers c.push.new.self c.pop.new.self c.args.header c.pop.result c.in_ok-push.ensures.ok
    c.pop.ensures)
    c.in-Err.ensures.err
