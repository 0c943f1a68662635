use Rattle.std.proofs.Common.{◌∙◌, ap}
use Rattle.jl_scope.specs.Names.{among}
use Rattle.jl_scope.proofs.NameLists.{among_keys}
use Rattle.jl_scope.proofs.name_set.NameSet.contains.Goals as goal

pub returns : goal.returns
returns c = c.contains.ensures ∙ among_keys c.args.name.now c.self.inside.names.keys
    ∙ ap (among c.args.name.now) c.self.view_is
