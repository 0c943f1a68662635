use Rattle.std.proofs.Common.{◌≡◌, ◌∙◌, ap, length, sym, take}
use Rattle.std.proofs.lemmas.List.{take-map}
use Rattle.jl_ast.specs.declared.tree.Ident.{Ident}
use Rattle.jl_heap.specs.declared.inner.Inner.TheVariants.{Mapped}
use Rattle.jl_meaning.specs.ArgumentsObject.{mapped_names, mapping}
use Rattle.jl_store.specs.Plain.{names_of}
use Rattle.jl_store.proofs.arguments.mapping.Goals as goal

pub returns : goal.returns
returns c =
    let names : c.in_ok-names.names ≡ mapped_names (take (length c.args.args.now) (names_of c.args.params.now)) =
    c.in_ok-names.ensures
    ∙ ap (λ l. mapped_names (names_of l)) c.first_ones.ensures
    ∙ ap mapped_names (sym (take-map (λ (x : Ident). x.text) _ c.args.params.now)) in
    ap (Mapped c.args.env) names ∙ ap (λ b. mapping b c.args.env (names_of c.args.params.now) c.args.args.now)
    (sym c.if-strict.false)
