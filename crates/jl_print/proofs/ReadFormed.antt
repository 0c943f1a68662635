-- Programs that are read are well formed.
use Rattle.std.proofs.Common.{ℕ, ◌+◌, Bool, true, false, ap, sym, subst, [], ◌∷◌}
use Rattle.std.specs.Prelude.{Some, None}
use Rattle.jl_ast.specs.Numbering.{functions_in, numbered_tree}
use Rattle.jl_ast.specs.Numbering.{numbered_forest, numbered_optional}
use Rattle.jl_ast.specs.Tree.{Program, Sort, Tree, Forest, OptionalTree}
use Rattle.jl_ast.specs.Tree as tree
use Rattle.jl_grammar.specs.Program.{last_end}
use Rattle.jl_print.specs.Laws.{ReadIsWellFormed}
use Rattle.jl_print.specs.WellFormed.{WellFormed, AllWellFormed, OptionalWellFormed, HasOneDefault, IsSome, AreNamed}
use Rattle.jl_print.specs.WellFormed.{IsGetter, IsSetter, IsEither, IsWellFormed}
use Rattle.jl_print.proofs.Formed.{body_formed}
use Rattle.jl_print.proofs.Lexical.{lexical}
use Rattle.jl_print.proofs.Renumbered.{again}

some_numbered : {S : Type 0} {x : Sort} (n : ℕ) (r : Forest S x) → IsSome r → IsSome (numbered_forest n r)
some_numbered n tree.end w = w
some_numbered n (tree.more t r) w = w

either_numbered : {S : Type 0} {x y : Sort} (n m : ℕ) (a : OptionalTree S x) (b : OptionalTree S y) → IsEither a b
    → IsEither (numbered_optional n a) (numbered_optional m b)
either_numbered n m tree.absent tree.absent w = w
either_numbered n m tree.absent (tree.present b) w = w
either_numbered n m (tree.present a) tree.absent w = w
either_numbered n m (tree.present a) (tree.present b) w = w

default_numbered : {S : Type 0} (fresh : Bool) (n : ℕ) (r : Forest S tree.clause) → HasOneDefault fresh r
    → HasOneDefault fresh (numbered_forest n r)
default_numbered fresh n tree.end w = w
default_numbered fresh n (tree.more (tree.case (tree.present a) ws) r) w = default_numbered fresh _ r w
default_numbered true n (tree.more (tree.case tree.absent ws) r) w = default_numbered false _ r w
default_numbered false n (tree.more (tree.case tree.absent ws) r) w = w

named_numbered : {S : Type 0} (n : ℕ) (r : Forest S tree.func) → AreNamed r → AreNamed (numbered_forest n r)
named_numbered n tree.end w = w
named_numbered n (tree.more (tree.function m None ps c s) r) w = w
named_numbered n (tree.more (tree.function m (Some x) ps c s) r) w =
    named_numbered (n + functions_in (tree.function m (Some x) ps c s)) r w

getter_numbered : {S : Type 0} (n : ℕ) (f : Tree S tree.func) → IsGetter f → IsGetter (numbered_tree n f)
getter_numbered n (tree.function m None [] c s) w = w
getter_numbered n (tree.function m None (p ∷ ps) c s) w = w
getter_numbered n (tree.function m (Some x) ps c s) w = w

setter_numbered : {S : Type 0} (n : ℕ) (f : Tree S tree.func) → IsSetter f → IsSetter (numbered_tree n f)
setter_numbered n (tree.function m None [] c s) w = w
setter_numbered n (tree.function m None (p ∷ []) c s) w = w
setter_numbered n (tree.function m None (p ∷ q ∷ ps) c s) w = w
setter_numbered n (tree.function m (Some x) ps c s) w = w

module _ {S : Type 0} where
  mutual
    numbered_formed : {x : Sort} (n : ℕ) (t : Tree S x) → WellFormed t → WellFormed (numbered_tree n t)
    numbered_formed n (tree.this s) w = w
    numbered_formed n (tree.name a s) w = w
    numbered_formed n (tree.number a s) w = w
    numbered_formed n (tree.string a s) w = w
    numbered_formed n (tree.boolean a s) w = w
    numbered_formed n (tree.null s) w = w
    numbered_formed n (tree.array a s) w = all_formed _ a w
    numbered_formed n (tree.object a s) w = all_formed _ a w
    numbered_formed n (tree.function_expression a s) w = numbered_formed _ a w
    numbered_formed n (tree.dot a b s) w = (numbered_formed _ a w.0, w.1)
    numbered_formed n (tree.index a b s) w = (numbered_formed _ a w.0, numbered_formed _ b w.1)
    numbered_formed n (tree.call a b s) w = (numbered_formed _ a w.0, all_formed _ b w.1)
    numbered_formed n (tree.new a b s) w = (numbered_formed _ a w.0, all_formed _ b w.1)
    numbered_formed n (tree.unary a b s) w = numbered_formed _ b w
    numbered_formed n (tree.update up prefix a s) w = numbered_formed _ a w
    numbered_formed n (tree.binary a b c s) w = (numbered_formed _ b w.0, numbered_formed _ c w.1)
    numbered_formed n (tree.and a b s) w = (numbered_formed _ a w.0, numbered_formed _ b w.1)
    numbered_formed n (tree.or a b s) w = (numbered_formed _ a w.0, numbered_formed _ b w.1)
    numbered_formed n (tree.conditional a b c s) w =
        (numbered_formed _ a w.0, numbered_formed _ b w.1, numbered_formed _ c w.2)
    numbered_formed n (tree.assign a b c s) w = (w.0, numbered_formed _ b w.1, numbered_formed _ c w.2)
    numbered_formed n (tree.comma a b s) w = (numbered_formed _ a w.0, numbered_formed _ b w.1)
    numbered_formed n (tree.to_name a) w = w
    numbered_formed n (tree.to_dot a b s) w = (numbered_formed _ a w.0, w.1)
    numbered_formed n (tree.to_index a b s) w = (numbered_formed _ a w.0, numbered_formed _ b w.1)
    numbered_formed n tree.hole w = w
    numbered_formed n (tree.filled a) w = numbered_formed _ a w
    numbered_formed n (tree.value a b) w = (w.0, numbered_formed _ b w.1)
    numbered_formed n (tree.getter a b) w = (w.0, getter_numbered _ b w.1, numbered_formed _ b w.2)
    numbered_formed n (tree.setter a b) w = (w.0, setter_numbered _ b w.1, numbered_formed _ b w.2)
    numbered_formed n (tree.function m a params b s) w = (w.0, w.1, numbered_formed _ b w.2)
    numbered_formed n (tree.body strict a b) w = (named_numbered _ a w.0, all_formed _ a w.1, all_formed _ b w.2)
    numbered_formed n (tree.var a s) w = (some_numbered _ a w.0, all_formed _ a w.1)
    numbered_formed n (tree.empty s) w = w
    numbered_formed n (tree.expression a s) w = numbered_formed _ a w
    numbered_formed n (tree.block a s) w = all_formed _ a w
    numbered_formed n (tree.if_else a b c s) w = (numbered_formed _ a w.0, all_formed _ b w.1, optional_formed _ c w.2)
    numbered_formed n (tree.do_while a b s) w = (all_formed _ a w.0, numbered_formed _ b w.1)
    numbered_formed n (tree.while a b s) w = (numbered_formed _ a w.0, all_formed _ b w.1)
    numbered_formed n (tree.for a b c d s) w =
        (numbered_formed _ a w.0, optional_formed _ b w.1, optional_formed _ c w.2, all_formed _ d w.3)
    numbered_formed n (tree.for_in is_var a b c s) w = (w.0, numbered_formed _ b w.1, all_formed _ c w.2)
    numbered_formed n (tree.continue a s) w = w
    numbered_formed n (tree.break a s) w = w
    numbered_formed n (tree.return a s) w = optional_formed _ a w
    numbered_formed n (tree.labelled a b s) w = (w.0, numbered_formed _ b w.1)
    numbered_formed n (tree.switch a b s) w =
        (numbered_formed _ a w.0, default_numbered true _ b w.1, all_formed _ b w.2)
    numbered_formed n (tree.throw a s) w = numbered_formed _ a w
    numbered_formed n (tree.try a b c s) w =
        (all_formed _ a w.0, either_numbered _ _ b c w.1, optional_formed _ b w.2, optional_formed _ c w.3)
    numbered_formed n (tree.debugger s) w = w
    numbered_formed n tree.nothing w = w
    numbered_formed n (tree.init_expression a) w = numbered_formed _ a w
    numbered_formed n (tree.init_var a) w = (some_numbered _ a w.0, all_formed _ a w.1)
    numbered_formed n (tree.declarator a b) w = (w.0, optional_formed _ b w.1)
    numbered_formed n (tree.case a b) w = (optional_formed _ a w.0, all_formed _ b w.1)
    numbered_formed n (tree.branch_of a) w = all_formed _ a w
    numbered_formed n (tree.catch a b) w = (w.0, all_formed _ b w.1)

    all_formed : {x : Sort} (n : ℕ) (t : Forest S x) → AllWellFormed t → AllWellFormed (numbered_forest n t)
    all_formed n tree.end w = w
    all_formed n (tree.more a b) w = (numbered_formed _ a w.0, all_formed _ b w.1)

    optional_formed : {x : Sort} (n : ℕ) (t : OptionalTree S x) → OptionalWellFormed t
        → OptionalWellFormed (numbered_optional n t)
    optional_formed n tree.absent w = w
    optional_formed n (tree.present a) w = numbered_formed _ a w

pub read_is_well_formed : ReadIsWellFormed
read_is_well_formed text ts limit p h r =
    let w = numbered_formed 0 r.code (body_formed (lexical text ts h) r.whole) in
    subst IsWellFormed (sym r.is) (record {
      body = w;
      numbers = ap (λ c. record { body = c; at = record { from = 0; to = last_end ts } }) (again 0 0 r.code);
    })
