-- Calls of hooks break no rule, and parts that are woven stand in the same scope. All nodes stand at one place.
use Rattle.std.proofs.Common.{◌≡◌, ◌∙◌, codes, ℕ, ◌+◌, Bool, true, false, List, [], ◌∷◌, Option, Some, None}
use Rattle.std.proofs.Common.{map, option_map, refl, ap₂, subst, sym}
use Rattle.std.specs.Prelude.{if◌then◌else◌}
use Rattle.jl_ast.specs.Spans.{ident, map_forest, map_tree}
use Rattle.jl_ast.specs.Tree as tree
use Rattle.jl_ast.specs.Tree.{Forest, Ident, OptionalTree, Sort, Text, Tree}
use Rattle.jl_ast.specs.declared.ops.UnOp.TheVariants as un
use Rattle.jl_op.specs.Chosen.{Kinds}
use Rattle.jl_op.specs.Ids.{forest_with_ids, id_count, ident_with_id}
use Rattle.jl_op.specs.Ids.{with_ids}
use Rattle.jl_op.specs.declared.kind.OpKind.TheVariants as kind
use Rattle.jl_scope.specs.EarlyErrors.{early_errors, forest_early_errors, literal_early_errors, name_early_errors}
use Rattle.jl_scope.specs.EarlyErrors.{parameter_early_errors, read_early_errors}
use Rattle.jl_scope.specs.EarlyErrors.{with_key, Keys}
use Rattle.jl_scope.specs.Names.{with_name}
use Rattle.jl_scope.specs.Scope.{bind, in_function_of, in_program, is_loop}
use Rattle.jl_scope.specs.Scope.{Scope}
use Rattle.jl_simulation.specs.HookCalls.{and_last, before_update, begin_and_end, catch_and_go_on, enter_and_leave}
use Rattle.jl_simulation.specs.HookCalls.{hook, hook_1, hook_2, hook_of_1, hook_statement, no_exprs, string_of}
use Rattle.jl_simulation.specs.HookCalls.{without_id, Expr, Exprs, Stmts, Woven}
use Rattle.jl_simulation.specs.Weaving.{calls, weave, woven_body, woven_callee, woven_code}
use Rattle.jl_simulation.specs.Weaving.{woven_delete, woven_forest, woven_typeof}
use Rattle.jl_simulation.proofs.Shapes.{IsNoMember}
use Rattle.jl_text.specs.declared.span.Span.{Span}
use Rattle.jl_read_back.specs.EarlyErrors.{none, AreReservedNames}
use Rattle.jl_read_back.proofs.Declared.{body_strict, function_bound, program_bound, program_strict}
use Rattle.jl_read_back.proofs.EarlyPlaces.{bound_in_function, bound_same, strict_same}
use Rattle.jl_read_back.proofs.Forms.{callee_is, delete_is, typeof_is, IsNoName}
use Rattle.jl_read_back.proofs.NoNames.{no_name}
use Rattle.jl_read_back.proofs.Rules as rule
use Rattle.jl_read_back.proofs.Rules.{both, first, getters, hooks_read, no_delete, no_name_deleted, second, setters}
use Rattle.jl_read_back.proofs.Rules.{values, SameKey}

module _ (at : Span) where
  abbrev pub spanned : {x : Sort} → Woven x → Tree Span x
  spanned t = map_tree (λ u. at) t

  abbrev pub all_spanned : {x : Sort} → Forest (Unit {0}) x → Forest Span x
  all_spanned l = map_forest (λ u. at) l

  abbrev pub Clear : {x : Sort} → Scope → Woven x → Type 0
  Clear s t = AreReservedNames (early_errors s (spanned t))

  abbrev pub AllClear : {x : Sort} → Scope → Forest (Unit {0}) x → Type 0
  AllClear s l = AreReservedNames (forest_early_errors s (all_spanned l))

  -- a call of a hook is as what it is told
  pub told : (s : Scope) (h : Text) (id : ℕ) (l : Exprs) → AllClear s l → Clear s (hook h id l)
  told s h id l w = both (hooks_read s at) w

  pub told_1 : (s : Scope) (h : Text) (id : ℕ) (e : Expr) → Clear s e → Clear s (hook_1 h id e)
  told_1 s h id e w = told s h id (tree.more e tree.end) (both w none)

  pub told_2 : (s : Scope) (h : Text) (id : ℕ) (a b : Expr) → Clear s a → Clear s b → Clear s (hook_2 h id a b)
  told_2 s h id a b v w = told s h id (tree.more a (tree.more b tree.end)) (both v (both w none))

  pub told_of_1 : (s : Scope) (h : Text) (id : ℕ) (t : Text) (e : Expr) → Clear s e → Clear s (hook_of_1 h id t e)
  told_of_1 s h id t e w = told s h id (tree.more (string_of t) (tree.more e tree.end)) (both w none)

  pub told_of_2 : (s : Scope) (h : Text) (id : ℕ) (t : Text) (a b : Expr) → Clear s a → Clear s b
      → Clear s (hook h id (tree.more (string_of t) (tree.more a (tree.more b tree.end))))
  told_of_2 s h id t a b v w =
      told s h id (tree.more (string_of t) (tree.more a (tree.more b tree.end))) (both v (both w none))

  -- by a hook, or as it stands
  pub either : (s : Scope) (b : Bool) (t u : Expr) → Clear s t → Clear s u → Clear s (if b then t else u)
  either s true t u v w = v
  either s false t u v w = w

  pub hooked : (s : Scope) (b : Bool) (h : Text) (id : ℕ) (e : Expr) → Clear s e
      → Clear s (if b then hook_1 h id e else e)
  hooked s true h id e w = told_1 s h id e w
  hooked s false h id e w = w

  pub written : (s : Scope) (b : Bool) (h : Text) (id : ℕ) (t : Text) (e : Expr) → Clear s e
      → Clear s (if b then hook_of_1 h id t e else e)
  written s true h id t e w = told_of_1 s h id t e w
  written s false h id t e w = w

  -- the number before an update
  pub updated : (s : Scope) (up prefix : Bool) (e : Expr) → Clear s e → Clear s (before_update up prefix e)
  updated s up true e w = w
  updated s true false e w = both w none
  updated s false false e w = both w none

  -- statements of a function, of a `catch` and of a program
  statement : (s : Scope) (h : Text) (id : ℕ) → Clear s (hook_statement (hook h id no_exprs))
  statement s h id = told s h id no_exprs none

  pub entered : (s : Scope) (b : Bool) (id : ℕ) (l : Stmts) → AllClear s l
      → AllClear s (if b then enter_and_leave id l else l)
  entered s true id l w =
      both (both (both (both (statement s (codes "E") id) w) none)
      (both (statement s (codes "L") (id + 1)) none)) none
  entered s false id l w = w

  pub caught : (s : Scope) (b : Bool) (id : ℕ) (x : Text) (l : Stmts) → AreReservedNames (read_early_errors s x at)
      → AllClear s l → AllClear s (if b then catch_and_go_on id x l else l)
  caught s true id x l v w = both (told_of_1 s (codes "H") id x (tree.name x tt) v) w
  caught s false id x l v w = w

  one_more : (s : Scope) (l : Stmts) (h : Text) (id : ℕ) → AllClear s l
      → AllClear s (and_last l (hook_statement (hook h id no_exprs)))
  one_more s tree.end h id w = both (statement s h id) none
  one_more s (tree.more t l) h id w = both (first _ _ w) (one_more s l h id (second _ _ w))

  pub begun : (s : Scope) (b : Bool) (id : ℕ) (l : Stmts) → AllClear s l
      → AllClear s (if b then begin_and_end id l else l)
  begun s true id l w = both (statement s (codes "S") id) (one_more s l (codes "X") (id + 1) w)
  begun s false id l w = w

  pub function_name : (s : Scope) (x : Option (Ident Span)) (j : ℕ) → AreReservedNames (name_early_errors s x)
      → AreReservedNames (name_early_errors s (option_map (ident (λ u. at)) (option_map without_id (option_map
      (λ y. ident_with_id y j) x))))
  function_name s None j w = none
  function_name s (Some x) j w = rule.written s x.text x.at at w

  pub parameters : (s : Scope) (before : List Text) (l : List (Ident Span)) (j : ℕ)
      → AreReservedNames (parameter_early_errors s before l)
      → AreReservedNames (parameter_early_errors s before (map (ident (λ u. at)) (map without_id (map
      (λ y. ident_with_id y j) l))))
  parameters s before [] j w = none
  parameters s before (x ∷ l) j w =
      both (both (rule.again _ _ x.at at (first _ _ (first _ _ w)))
      (rule.written s x.text x.at at (second _ _ (first _ _ w))))
      (parameters s (with_name before x.text) l j (second _ _ w))

  module _ (chosen : Kinds) where
    key_same : (t : Tree Span tree.entry) (j : ℕ) → SameKey t (spanned (weave chosen (with_ids j t)))
    key_same (tree.value k e) j = values k _ e (spanned (weave chosen (with_ids j e))) refl
    key_same (tree.getter k g) j = getters k _ g (spanned (weave chosen (with_ids j g))) refl
    key_same (tree.setter k g) j = setters k _ g (spanned (weave chosen (with_ids j g))) refl

    pub entries : (s : Scope) (k : Keys) (l : Forest Span tree.entry) (j : ℕ)
        → AreReservedNames (literal_early_errors s k l)
        → AreReservedNames (literal_early_errors s k (all_spanned (woven_forest chosen (forest_with_ids j l))))
    entries s k tree.end j w = none
    entries s k (tree.more t l) j w =
        both (rule.keys s k t (spanned (weave chosen (with_ids j t))) (key_same t j) (first _ _ w))
        (subst (λ m. AreReservedNames (literal_early_errors s m (all_spanned (woven_forest chosen (forest_with_ids
        (j + id_count t) l))))) (rule.next_keys k t (spanned (weave chosen (with_ids j t))) (key_same t j))
        (entries s (with_key k t) l (j + id_count t) (second _ _ w)))

    pub called : (s : Scope) (n id : ℕ) (f : Tree Span tree.expr) → IsNoMember f → (w : Expr) → Clear s w
        → Clear s (woven_callee chosen (with_ids n f) w id)
    called s n id f is w v =
        subst (λ e. Clear s e) (sym (callee_is chosen n id f is w)) (hooked s (calls chosen) (codes "F") id w v)

    pub typed : (s : Scope) (n id : ℕ) (e : Tree Span tree.expr) → IsNoName e → (w : Expr) → Clear s w
        → Clear s (woven_typeof chosen id (with_ids n e) w)
    typed s n id e is w v =
        subst (λ e. Clear s e) (sym (typeof_is chosen n id e is w))
        (either s (chosen kind.Unary) _ _ (told_of_1 s (codes "U") id (codes "typeof") w v)
        (both (no_delete s un.Typeof (spanned w) at refl) v))

    pub deleted : (s : Scope) (n id : ℕ) (e : Tree Span tree.expr) → IsNoName e → IsNoMember e
        → Clear s (weave chosen (with_ids n e)) → Clear s (woven_delete chosen (with_ids n e)
        (weave chosen (with_ids n e)) id)
    deleted s n id e is not v =
        subst (λ e. Clear s e) (sym (delete_is chosen n id e is not (weave chosen (with_ids n e))))
        (both (no_name_deleted s un.Delete (spanned (weave chosen (with_ids n e))) at
        (no_name chosen at e is not n)) v)

    pub loop_same : (t : Tree Span tree.stmt) (j : ℕ) → is_loop (spanned (weave chosen (with_ids j t))) ≡ is_loop t
    loop_same (tree.labelled x t s) j = loop_same t j
    loop_same (tree.return tree.absent s) j = refl
    loop_same (tree.return (tree.present e) s) j = refl
    loop_same _ j = refl

    pub scope_same : (s : Scope) (x : Option (Ident Span)) (ps : List (Ident Span)) (b : Tree Span tree.code) (j : ℕ)
        → in_function_of s (option_map (ident (λ u. at))
        (option_map without_id (option_map (λ y. ident_with_id y j) x)))
        (map (ident (λ u. at)) (map without_id (map (λ y. ident_with_id y j) ps)))
        (spanned (woven_body chosen j (with_ids (j + 2) b))) ≡ in_function_of s x ps b
    scope_same s x ps b j =
        ap₂ (λ strict names. record {
          strict = strict;
          in_function = true;
          in_loop = false;
          can_break = false;
          labels = [];
          bound = bind s.bound names;
        })
        (strict_same (λ u. at) s.strict (woven_body chosen j (with_ids (j + 2) b))
        ∙ body_strict chosen s.strict b (j + 2) j)
        (bound_in_function (λ u. at) (option_map without_id (option_map (λ y. ident_with_id y j) x))
        (map without_id (map (λ y. ident_with_id y j) ps)) (woven_body chosen j (with_ids (j + 2) b))
        ∙ function_bound chosen x ps b j (j + 2) j)

    pub program_scope : (b : Tree Span tree.code)
        → in_program (spanned (woven_code chosen 1 (with_ids 3 b))) ≡ in_program b
    program_scope b =
        ap₂ (λ strict names. record {
          strict = strict;
          in_function = false;
          in_loop = false;
          can_break = false;
          labels = [];
          bound = bind [] names;
        })
        (strict_same (λ u. at) false (woven_code chosen 1 (with_ids 3 b)) ∙ program_strict chosen false b)
        (bound_same (λ u. at) (woven_code chosen 1 (with_ids 3 b)) ∙ program_bound chosen b)
