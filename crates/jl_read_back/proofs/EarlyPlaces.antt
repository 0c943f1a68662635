-- What is wrong with a program is so wherever its nodes stand, a line for each form.
use Rattle.std.proofs.Common.{◌≡◌, ◌∙◌, Bool, true, false, List, [], ◌∷◌, ◌++◌, map, Option, Some, None, option_map}
use Rattle.std.proofs.Common.{refl, ap, ap₂, subst}
use Rattle.jl_ast.specs.Spans.{ident, map_forest, map_optional, map_tree}
use Rattle.jl_ast.specs.Tree as tree
use Rattle.jl_ast.specs.Tree.{is_name, Forest, Ident, OptionalTree, Sort, Text, Tree}
use Rattle.jl_scope.specs.EarlyErrors.{early_errors, forest_early_errors, literal_early_errors}
use Rattle.jl_scope.specs.EarlyErrors.{name_early_errors, no_keys, optional_early_errors, parameter_early_errors}
use Rattle.jl_scope.specs.EarlyErrors.{with_key, Keys}
use Rattle.jl_scope.specs.Hoisting.{bound_by_body, bound_by_function, declared_in, declared_in_forest}
use Rattle.jl_scope.specs.Hoisting.{declared_in_optional, function_names, name_texts, strict_in}
use Rattle.jl_scope.specs.Names.{with_name}
use Rattle.jl_scope.specs.Scope.{bind, in_a_loop, in_a_switch, in_catch, in_function_of, in_program, is_loop}
use Rattle.jl_scope.specs.Scope.{under_label, Scope}
use Rattle.jl_text.specs.declared.span.Span.{Span}
use Rattle.jl_read_back.specs.EarlyErrors.{none, AreReservedNames}
use Rattle.jl_read_back.proofs.Rules as rule
use Rattle.jl_read_back.proofs.Rules.{both, first, getters, setters, values, second, SameKey}

module _ {S T : Type 0} (f : S → T) where
  -- what is declared
  mutual
    declared : {x : Sort} (t : Tree S x) → declared_in (map_tree f t) ≡ declared_in t
    declared (tree.body strict fs l) = declared_all l
    declared (tree.var l at) = declared_all l
    declared (tree.block l at) = declared_all l
    declared (tree.if_else c a b at) = ap₂ (λ p q. p ++ q) (declared_all a) (declared_if_there b)
    declared (tree.do_while l c at) = declared_all l
    declared (tree.while c l at) = declared_all l
    declared (tree.for i c u l at) = ap₂ (λ p q. p ++ q) (declared i) (declared_all l)
    declared (tree.for_in true x o l at) = ap (λ p. x.text ∷ p) (declared_all l)
    declared (tree.for_in false x o l at) = declared_all l
    declared (tree.labelled x t at) = declared t
    declared (tree.switch e l at) = declared_all l
    declared (tree.try l h g at) =
        ap₂ (λ p q. p ++ q) (ap₂ (λ p q. p ++ q) (declared_all l) (declared_if_there h)) (declared_if_there g)
    declared (tree.init_var l) = declared_all l
    declared (tree.declarator x e) = refl
    declared (tree.case e l) = declared_all l
    declared (tree.branch_of l) = declared_all l
    declared (tree.catch x l) = declared_all l
    declared _ = refl

    declared_all : {x : Sort} (l : Forest S x) → declared_in_forest (map_forest f l) ≡ declared_in_forest l
    declared_all tree.end = refl
    declared_all (tree.more t l) = ap₂ (λ p q. p ++ q) (declared t) (declared_all l)

    declared_if_there : {x : Sort} (o : OptionalTree S x)
        → declared_in_optional (map_optional f o) ≡ declared_in_optional o
    declared_if_there tree.absent = refl
    declared_if_there (tree.present t) = declared t

  named : (x : Option (Ident S)) → name_texts (option_map (ident f) x) ≡ name_texts x
  named None = refl
  named (Some x) = refl

  functions_named : (l : Forest S tree.func) → function_names (map_forest f l) ≡ function_names l
  functions_named tree.end = refl
  functions_named (tree.more (tree.function n x ps b at) l) =
      ap₂ (λ p q. p ++ q) (named x) (functions_named l)

  pub bound_same : (b : Tree S tree.code) → bound_by_body (map_tree f b) ≡ bound_by_body b
  bound_same (tree.body strict fs l) = ap₂ (λ p q. p ++ q) (functions_named fs) (declared_all l)

  pub strict_same : (outer : Bool) (b : Tree S tree.code) → strict_in outer (map_tree f b) ≡ strict_in outer b
  strict_same outer (tree.body strict fs l) = refl

  parameters_same : (l : List (Ident S))
      → map (λ (x : Ident T). x.text) (map (ident f) l) ≡ map (λ (x : Ident S). x.text) l
  parameters_same [] = refl
  parameters_same (x ∷ l) = ap (λ m. x.text ∷ m) (parameters_same l)

  pub bound_in_function : (x : Option (Ident S)) (ps : List (Ident S)) (b : Tree S tree.code)
      → bound_by_function (option_map (ident f) x) (map (ident f) ps) (map_tree f b) ≡ bound_by_function x ps b
  bound_in_function x ps b =
      ap₂ (λ p q. p ++ q) (ap₂ (λ p q. p ++ q) (named x) (parameters_same ps)) (bound_same b)

module _ (at : Span) where
  abbrev nowhere : Span → Unit {0}
  nowhere s = tt

  abbrev there : Unit {0} → Span
  there u = at

  -- a tree with its nodes at one place
  abbrev gathered : {x : Sort} → Tree Span x → Tree Span x
  gathered t = map_tree there (map_tree nowhere t)

  abbrev all_gathered : {x : Sort} → Forest Span x → Forest Span x
  all_gathered l = map_forest there (map_forest nowhere l)

  abbrev optional_gathered : {x : Sort} → OptionalTree Span x → OptionalTree Span x
  optional_gathered o = map_optional there (map_optional nowhere o)

  abbrev gathered_name : Option (Ident Span) → Option (Ident Span)
  gathered_name x = option_map (ident there) (option_map (ident nowhere) x)

  abbrev gathered_names : List (Ident Span) → List (Ident Span)
  gathered_names l = map (ident there) (map (ident nowhere) l)

  scope_same : (s : Scope) (x : Option (Ident Span)) (ps : List (Ident Span)) (b : Tree Span tree.code)
      → in_function_of s (gathered_name x) (gathered_names ps) (gathered b) ≡ in_function_of s x ps b
  scope_same s x ps b =
      ap₂ (λ strict names. record {
        strict = strict;
        in_function = true;
        in_loop = false;
        can_break = false;
        labels = [];
        bound = bind s.bound names;
      }) (strict_same there s.strict (map_tree nowhere b) ∙ strict_same nowhere s.strict b)
      (bound_in_function there (option_map (ident nowhere) x) (map (ident nowhere) ps) (map_tree nowhere b)
      ∙ bound_in_function nowhere x ps b)

  pub program_scope : (b : Tree Span tree.code) → in_program (gathered b) ≡ in_program b
  program_scope b =
      ap₂ (λ strict names. record {
        strict = strict;
        in_function = false;
        in_loop = false;
        can_break = false;
        labels = [];
        bound = bind [] names;
      }) (strict_same there false (map_tree nowhere b) ∙ strict_same nowhere false b)
      (bound_same there (map_tree nowhere b) ∙ bound_same nowhere b)

  loop_same : (t : Tree Span tree.stmt) → is_loop (gathered t) ≡ is_loop t
  loop_same (tree.labelled x t to) = loop_same t
  loop_same _ = refl

  name_same : (e : Tree Span tree.expr) → is_name (gathered e) ≡ is_name e
  name_same (tree.name x to) = refl
  name_same _ = refl

  function_name : (s : Scope) (x : Option (Ident Span)) → AreReservedNames (name_early_errors s (gathered_name x))
      → AreReservedNames (name_early_errors s x)
  function_name s None w = none
  function_name s (Some x) w = rule.written s x.text at x.at w

  parameters : (s : Scope) (before : List Text) (l : List (Ident Span))
      → AreReservedNames (parameter_early_errors s before (gathered_names l))
      → AreReservedNames (parameter_early_errors s before l)
  parameters s before [] w = none
  parameters s before (x ∷ l) w =
      both (both (rule.again _ _ at x.at (first _ _ (first _ _ w)))
      (rule.written s x.text at x.at (second _ _ (first _ _ w))))
      (parameters s (with_name before x.text) l (second _ _ w))

  key_same : (t : Tree Span tree.entry) → SameKey (gathered t) t
  key_same (tree.value k e) = values (ident there (ident nowhere k)) k (gathered e) e refl
  key_same (tree.getter k g) = getters (ident there (ident nowhere k)) k (gathered g) g refl
  key_same (tree.setter k g) = setters (ident there (ident nowhere k)) k (gathered g) g refl

  entries : (s : Scope) (k : Keys) (l : Forest Span tree.entry)
      → AreReservedNames (literal_early_errors s k (all_gathered l)) → AreReservedNames (literal_early_errors s k l)
  entries s k tree.end w = none
  entries s k (tree.more t l) w =
      both (rule.keys s k (gathered t) t (key_same t) (first _ _ w))
      (entries s (with_key k t) l
      (subst (λ m. AreReservedNames (literal_early_errors s m (all_gathered l)))
      (rule.next_keys k (gathered t) t (key_same t)) (second _ _ w)))

  mutual
    pub moved_back : {x : Sort} (s : Scope) (t : Tree Span x) → AreReservedNames (early_errors s (gathered t))
        → AreReservedNames (early_errors s t)
    moved_back s (tree.name x to) w = rule.read s x at to w
    moved_back s (tree.array l to) w = all_back s l w
    moved_back s (tree.object l to) w = both (entries s no_keys l (first _ _ w)) (all_back s l (second _ _ w))
    moved_back s (tree.function_expression g to) w = moved_back s g w
    moved_back s (tree.dot a k to) w = moved_back s a w
    moved_back s (tree.index a b to) w = both (moved_back s a (first _ _ w)) (moved_back s b (second _ _ w))
    moved_back s (tree.call a l to) w = both (moved_back s a (first _ _ w)) (all_back s l (second _ _ w))
    moved_back s (tree.new a l to) w = both (moved_back s a (first _ _ w)) (all_back s l (second _ _ w))
    moved_back s (tree.unary o e to) w =
        both (rule.deletes s o (gathered e) e at to (name_same e) (first _ _ w))
        (moved_back s e (second _ _ w))
    moved_back s (tree.update up prefix t to) w = moved_back s t w
    moved_back s (tree.binary o a b to) w = both (moved_back s a (first _ _ w)) (moved_back s b (second _ _ w))
    moved_back s (tree.and a b to) w = both (moved_back s a (first _ _ w)) (moved_back s b (second _ _ w))
    moved_back s (tree.or a b to) w = both (moved_back s a (first _ _ w)) (moved_back s b (second _ _ w))
    moved_back s (tree.conditional a b c to) w =
        both (both (moved_back s a (first _ _ (first _ _ w)))
        (moved_back s b (second _ _ (first _ _ w)))) (moved_back s c (second _ _ w))
    moved_back s (tree.assign o t e to) w = both (moved_back s t (first _ _ w)) (moved_back s e (second _ _ w))
    moved_back s (tree.comma a b to) w = both (moved_back s a (first _ _ w)) (moved_back s b (second _ _ w))
    moved_back s (tree.to_name x) w = rule.target s x.text at x.at w
    moved_back s (tree.to_dot a k to) w = moved_back s a w
    moved_back s (tree.to_index a b to) w = both (moved_back s a (first _ _ w)) (moved_back s b (second _ _ w))
    moved_back s (tree.filled e) w = moved_back s e w
    moved_back s (tree.value k e) w = moved_back s e w
    moved_back s (tree.getter k g) w = moved_back s g w
    moved_back s (tree.setter k g) w = moved_back s g w
    moved_back s (tree.function n x ps b to) w =
        let v = subst (λ r. AreReservedNames ((name_early_errors r (gathered_name x)
        ++ parameter_early_errors r [] (gathered_names ps)) ++ early_errors r (gathered b))) (scope_same s x ps b) w in
        both (both (function_name (in_function_of s x ps b) x (first _ _ (first _ _ v)))
        (parameters (in_function_of s x ps b) [] ps (second _ _ (first _ _ v))))
        (moved_back (in_function_of s x ps b) b (second _ _ v))
    moved_back s (tree.body strict fs l) w = both (all_back s fs (first _ _ w)) (all_back s l (second _ _ w))
    moved_back s (tree.var l to) w = all_back s l w
    moved_back s (tree.expression e to) w = moved_back s e w
    moved_back s (tree.block l to) w = all_back s l w
    moved_back s (tree.if_else c a b to) w =
        both (both (moved_back s c (first _ _ (first _ _ w)))
        (all_back s a (second _ _ (first _ _ w)))) (optional_back s b (second _ _ w))
    moved_back s (tree.do_while l c to) w =
        both (all_back (in_a_loop s) l (first _ _ w)) (moved_back s c (second _ _ w))
    moved_back s (tree.while c l to) w =
        both (moved_back s c (first _ _ w)) (all_back (in_a_loop s) l (second _ _ w))
    moved_back s (tree.for i c u l to) w =
        both (both (both (moved_back s i (first _ _ (first _ _ (first _ _ w))))
        (optional_back s c (second _ _ (first _ _ (first _ _ w)))))
        (optional_back s u (second _ _ (first _ _ w)))) (all_back (in_a_loop s) l (second _ _ w))
    moved_back s (tree.for_in is_var x o l to) w =
        both (both (rule.for_in s x.text at x.at is_var (first _ _ (first _ _ w)))
        (moved_back s o (second _ _ (first _ _ w)))) (all_back (in_a_loop s) l (second _ _ w))
    moved_back s (tree.continue None to) w = rule.continues s at to w
    moved_back s (tree.continue (Some x) to) w = rule.continues_to s (ident there (ident nowhere x)) x at to refl w
    moved_back s (tree.break None to) w = rule.breaks s at to w
    moved_back s (tree.break (Some x) to) w = rule.breaks_to s (ident there (ident nowhere x)) x at to refl w
    moved_back s (tree.return e to) w =
        both (rule.returns s at to (first _ _ w)) (optional_back s e (second _ _ w))
    moved_back s (tree.labelled x t to) w =
        both (rule.label s x.text at x.at (first _ _ w))
        (moved_back (under_label s x.text (is_loop t)) t
        (subst (λ b. AreReservedNames (early_errors (under_label s x.text b) (gathered t))) (loop_same t)
        (second _ _ w)))
    moved_back s (tree.switch e l to) w =
        both (moved_back s e (first _ _ w)) (all_back (in_a_switch s) l (second _ _ w))
    moved_back s (tree.throw e to) w = moved_back s e w
    moved_back s (tree.try l h g to) w =
        both (both (all_back s l (first _ _ (first _ _ w)))
        (optional_back s h (second _ _ (first _ _ w)))) (optional_back s g (second _ _ w))
    moved_back s (tree.init_expression e) w = moved_back s e w
    moved_back s (tree.init_var l) w = all_back s l w
    moved_back s (tree.declarator x e) w =
        both (rule.written s x.text at x.at (first _ _ w)) (optional_back s e (second _ _ w))
    moved_back s (tree.case e l) w = both (optional_back s e (first _ _ w)) (all_back s l (second _ _ w))
    moved_back s (tree.branch_of l) w = all_back s l w
    moved_back s (tree.catch x l) w =
        both (rule.written s x.text at x.at (first _ _ w))
        (all_back (in_catch s x.text) l (second _ _ w))
    moved_back s _ w = none

    all_back : {x : Sort} (s : Scope) (l : Forest Span x) → AreReservedNames (forest_early_errors s (all_gathered l))
        → AreReservedNames (forest_early_errors s l)
    all_back s tree.end w = none
    all_back s (tree.more t l) w = both (moved_back s t (first _ _ w)) (all_back s l (second _ _ w))

    optional_back : {x : Sort} (s : Scope) (o : OptionalTree Span x)
        → AreReservedNames (optional_early_errors s (optional_gathered o))
        → AreReservedNames (optional_early_errors s o)
    optional_back s tree.absent w = none
    optional_back s (tree.present t) w = moved_back s t w
