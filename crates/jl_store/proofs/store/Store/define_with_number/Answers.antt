use Rattle.jl_store.proofs.Defined.{done_comes}
use Rattle.jl_store.proofs.store.Store.define_with_number.Goals as goal

pub returns-in-Done : goal.returns-in-Done
returns-in-Done c =
    done_comes c.args.id _ c.args.change c.args.self.now c.define_property.new.self _ _ c.in_ok-define_property.field-0
    c.in_ok-define_property.ensures.made c.in_ok-define_property.ensures.answer c.in-Done.is c.in_ok-remapping.ensures
    c.remap_if.ensures
