-- A function of the code of which each part is woven.
use Rattle.std.proofs.Common.{◌≡◌, ◌∙◌, ap, ap₂, map, option_map, refl, ℕ, ◌+◌, List, [], ◌∷◌, None, Option, Some}
use Rattle.jl_ast.specs.Tree as tree
use Rattle.jl_ast.specs.View.{view_function, view_functions, view_ident, view_statements}
use Rattle.jl_ast.specs.declared.tree.Body.{out-Body}
use Rattle.jl_ast.specs.declared.tree.Function.{out-Function, Function}
use Rattle.jl_ast.specs.declared.tree.Ident.{Ident}
use Rattle.jl_ast.specs.declared.tree.Stmt.{Stmt}
use Rattle.jl_ast.proofs.Views.{body_is, function_is}
use Rattle.jl_op.specs.Chosen.{Kinds}
use Rattle.jl_op.specs.Ids.{forest_id_count}
use Rattle.jl_weave.specs.inner.Bare.{bare_function, bare_functions, bare_ident, bare_statements, without_place}
use Rattle.jl_weave.specs.inner.Forms.{entry_form, left_form}
use Rattle.jl_weave.specs.inner.Woven.{woven_after_at, woven_all_at}
use Rattle.jl_weave.proofs.Bodies.{function_woven}
use Rattle.jl_weave.proofs.Parts.{all_from, placed}
use Rattle.jl_weave.proofs.Weaves.{Weaves}

name_unplaced : (x : Option Ident) → option_map bare_ident x ≡ option_map without_place (option_map view_ident x)
name_unplaced None = refl
name_unplaced (Some x) = refl

names_unplaced : (l : List Ident) → map bare_ident l ≡ map without_place (map view_ident l)
names_unplaced [] = refl
names_unplaced (x ∷ l) = ap (λ r. bare_ident x ∷ r) (names_unplaced l)

pub function_walked : (chosen : Kinds) (f made : Function) (name : Option Ident) (params : List Ident)
    (fs fs' : List Function) (l first l' whole : List Stmt) (id from n p next : ℕ) → id ≡ n → from ≡ n + 2 →
    name ≡ (out-Function f).name → params ≡ (out-Function f).params →
    fs ≡ (out-Body (out-Function f).body).functions → l ≡ (out-Body (out-Function f).body).statements →
    bare_functions fs' ≡ woven_all_at chosen from (view_functions fs) →
    p ≡ from + forest_id_count (view_functions fs) → bare_statements first ≡ entry_form chosen id →
    bare_statements l' ≡ woven_after_at chosen (bare_statements first) p (view_statements l) →
    next ≡ p + forest_id_count (view_statements l) →
    bare_statements whole ≡ left_form chosen id (bare_statements l') →
    bare_function made ≡ tree.function (out-Function f).number (option_map bare_ident name) (map bare_ident params)
    (tree.body (out-Body (out-Function f).body).strict (bare_functions fs') (bare_statements whole)) tt →
    Weaves chosen (view_function f) n (bare_function made) next
function_walked chosen f made name params fs fs' l first l' whole id from n p next i j name_is params_are fs_are l_is
    w c g u d h m =
    let o = out-Function f in let b = out-Body o.body in
    let seen : view_function f ≡ tree.function o.number (option_map view_ident o.name) (map view_ident o.params)
    (tree.body b.strict (view_functions b.functions) (view_statements b.statements)) o.span =
    function_is f
    ∙ ap (λ x. tree.function o.number (option_map view_ident o.name) (map view_ident o.params) x o.span)
    (body_is o.body) in
    placed chosen seen
    (function_woven chosen o.number (option_map view_ident o.name) (map view_ident o.params) b.strict
    (view_functions b.functions) (view_statements b.statements) o.span
    (all_from chosen j (record {
      is = w ∙ ap (λ l. woven_all_at chosen from (view_functions l)) fs_are;
      counted = c ∙ ap (λ l. from + forest_id_count (view_functions l)) fs_are;
    }))
    (g ∙ ap (entry_form chosen) i)
    (record {
      is = u ∙ ap (λ l. woven_after_at chosen (bare_statements first) p (view_statements l)) l_is;
      counted = d ∙ ap (λ l. p + forest_id_count (view_statements l)) l_is;
    })
    (h ∙ ap (λ id. left_form chosen id (bare_statements l')) i)
    (m ∙ ap₂ (λ x y. tree.function o.number x y (tree.body b.strict (bare_functions fs') (bare_statements whole)) tt)
    (ap (option_map bare_ident) name_is ∙ name_unplaced o.name)
    (ap (map bare_ident) params_are ∙ names_unplaced o.params)))
