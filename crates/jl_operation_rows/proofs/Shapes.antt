-- A tree is its shape with a number at each place, where these numbers are renamed to its places. So trees that are the
-- same but for their places are one tree, with its places renamed in two ways.
use Rattle.std.proofs.Common.{◌≡◌, ◌∙◌, ℕ, zero, suc, List, [], ◌∷◌, map, option_map, refl, ap, ap₂, Option, Some, None}
use Rattle.jl_ast.specs.Spans.{ident, map_forest, map_optional, map_spans, map_tree, tree_without_spans, without_spans}
use Rattle.jl_ast.specs.Tree.{absent, and, array, assign, binary, block, body, boolean, branch_of, break, call, case}
use Rattle.jl_ast.specs.Tree.{catch, comma, conditional, continue, debugger, declarator, do_while, dot, empty, end}
use Rattle.jl_ast.specs.Tree.{expression, filled, for, for_in, function, function_expression, getter, hole, if_else}
use Rattle.jl_ast.specs.Tree.{index, init_expression, init_var, labelled, more, name, new, nothing, null, number}
use Rattle.jl_ast.specs.Tree.{object, or, present, return, setter, string, switch, this, throw, to_dot, to_index}
use Rattle.jl_ast.specs.Tree.{to_name, try, unary, update, value, var, while, Forest, Ident, OptionalTree, Program}
use Rattle.jl_ast.specs.Tree.{Sort, Tree}

-- NUMBERS IN TWO PARTS
abbrev twice : ℕ → ℕ
twice zero = zero
twice (suc n) = suc (suc (twice n))

-- the even ones, and the odd ones
abbrev evens : (ℕ → ℕ) → ℕ → ℕ
evens c j = c (twice j)

abbrev odds : (ℕ → ℕ) → ℕ → ℕ
odds c j = c (suc (twice j))

abbrev either : {X : Type 0} → (ℕ → X) → (ℕ → X) → ℕ → X
either a b zero = a zero
either a b (suc zero) = b zero
either a b (suc (suc n)) = either (λ j. a (suc j)) (λ j. b (suc j)) n

at_even : {X : Type 0} (a b : ℕ → X) (j : ℕ) → either a b (twice j) ≡ a j
at_even a b zero = refl
at_even a b (suc j) = at_even (λ j. a (suc j)) (λ j. b (suc j)) j

at_odd : {X : Type 0} (a b : ℕ → X) (j : ℕ) → either a b (suc (twice j)) ≡ b j
at_odd a b zero = refl
at_odd a b (suc j) = at_odd (λ j. a (suc j)) (λ j. b (suc j)) j

-- SHAPES WITH NUMBERS
-- Each part has numbers of its own among those of its node: the parts before the last have the even ones of what is
-- left by those before, and the last has the rest.
abbrev ident_numbered : {S : Type 0} → (ℕ → ℕ) → Ident S → Ident ℕ
ident_numbered c x = record { text = x.text; at = c 0 }

abbrev idents_numbered : {S : Type 0} → (ℕ → ℕ) → List (Ident S) → List (Ident ℕ)
idents_numbered c [] = []
idents_numbered c (x ∷ l) = ident_numbered (evens c) x ∷ idents_numbered (odds c) l

module _ {S : Type 0} where
  abbrev mutual
    pub numbered : {x : Sort} → (c : ℕ → ℕ) → Tree S x → Tree ℕ x
    numbered c (this s) = this (c 0)
    numbered c (name a s) = name a (c 0)
    numbered c (number a s) = number a (c 0)
    numbered c (string a s) = string a (c 0)
    numbered c (boolean a s) = boolean a (c 0)
    numbered c (null s) = null (c 0)
    numbered c (array a s) = array (all_numbered (evens c) a) (odds c 0)
    numbered c (object a s) = object (all_numbered (evens c) a) (odds c 0)
    numbered c (function_expression a s) = function_expression (numbered (evens c) a) (odds c 0)
    numbered c (dot a b s) = dot (numbered (evens c) a) b (odds c 0)
    numbered c (index a b s) = index (numbered (evens c) a) (numbered (evens (odds c)) b) (odds (odds c) 0)
    numbered c (call a b s) = call (numbered (evens c) a) (all_numbered (evens (odds c)) b) (odds (odds c) 0)
    numbered c (new a b s) = new (numbered (evens c) a) (all_numbered (evens (odds c)) b) (odds (odds c) 0)
    numbered c (unary o a s) = unary o (numbered (evens c) a) (odds c 0)
    numbered c (update up prefix a s) = update up prefix (numbered (evens c) a) (odds c 0)
    numbered c (binary o a b s) = binary o (numbered (evens c) a) (numbered (evens (odds c)) b) (odds (odds c) 0)
    numbered c (and a b s) = and (numbered (evens c) a) (numbered (evens (odds c)) b) (odds (odds c) 0)
    numbered c (or a b s) = or (numbered (evens c) a) (numbered (evens (odds c)) b) (odds (odds c) 0)
    numbered c (conditional a b d s) =
        conditional (numbered (evens c) a) (numbered (evens (odds c)) b) (numbered (evens (odds (odds c))) d)
        (odds (odds (odds c)) 0)
    numbered c (assign o a b s) = assign o (numbered (evens c) a) (numbered (evens (odds c)) b) (odds (odds c) 0)
    numbered c (comma a b s) = comma (numbered (evens c) a) (numbered (evens (odds c)) b) (odds (odds c) 0)
    numbered c (to_name a) = to_name (ident_numbered c a)
    numbered c (to_dot a b s) = to_dot (numbered (evens c) a) b (odds c 0)
    numbered c (to_index a b s) = to_index (numbered (evens c) a) (numbered (evens (odds c)) b) (odds (odds c) 0)
    numbered c hole = hole
    numbered c (filled a) = filled (numbered c a)
    numbered c (value a b) = value (ident_numbered (evens c) a) (numbered (odds c) b)
    numbered c (getter a b) = getter (ident_numbered (evens c) a) (numbered (odds c) b)
    numbered c (setter a b) = setter (ident_numbered (evens c) a) (numbered (odds c) b)
    numbered c (function m a params b s) =
        function m (option_map (ident_numbered (evens c)) a) (idents_numbered (evens (odds c)) params)
        (numbered (evens (odds (odds c))) b) (odds (odds (odds c)) 0)
    numbered c (body strict a b) = body strict (all_numbered (evens c) a) (all_numbered (odds c) b)
    numbered c (var a s) = var (all_numbered (evens c) a) (odds c 0)
    numbered c (empty s) = empty (c 0)
    numbered c (expression a s) = expression (numbered (evens c) a) (odds c 0)
    numbered c (block a s) = block (all_numbered (evens c) a) (odds c 0)
    numbered c (if_else a b d s) =
        if_else (numbered (evens c) a) (all_numbered (evens (odds c)) b) (any_numbered (evens (odds (odds c))) d)
        (odds (odds (odds c)) 0)
    numbered c (do_while a b s) = do_while (all_numbered (evens c) a) (numbered (evens (odds c)) b) (odds (odds c) 0)
    numbered c (while a b s) = while (numbered (evens c) a) (all_numbered (evens (odds c)) b) (odds (odds c) 0)
    numbered c (for a b d l s) =
        for (numbered (evens c) a) (any_numbered (evens (odds c)) b) (any_numbered (evens (odds (odds c))) d)
        (all_numbered (evens (odds (odds (odds c)))) l) (odds (odds (odds (odds c))) 0)
    numbered c (for_in is_var a b d s) =
        for_in is_var (ident_numbered (evens c) a) (numbered (evens (odds c)) b)
        (all_numbered (evens (odds (odds c))) d) (odds (odds (odds c)) 0)
    numbered c (continue a s) = continue (option_map (ident_numbered (evens c)) a) (odds c 0)
    numbered c (break a s) = break (option_map (ident_numbered (evens c)) a) (odds c 0)
    numbered c (return a s) = return (any_numbered (evens c) a) (odds c 0)
    numbered c (labelled a b s) =
        labelled (ident_numbered (evens c) a) (numbered (evens (odds c)) b) (odds (odds c) 0)
    numbered c (switch a b s) = switch (numbered (evens c) a) (all_numbered (evens (odds c)) b) (odds (odds c) 0)
    numbered c (throw a s) = throw (numbered (evens c) a) (odds c 0)
    numbered c (try a b d s) =
        try (all_numbered (evens c) a) (any_numbered (evens (odds c)) b) (any_numbered (evens (odds (odds c))) d)
        (odds (odds (odds c)) 0)
    numbered c (debugger s) = debugger (c 0)
    numbered c nothing = nothing
    numbered c (init_expression a) = init_expression (numbered c a)
    numbered c (init_var a) = init_var (all_numbered c a)
    numbered c (declarator a b) = declarator (ident_numbered (evens c) a) (any_numbered (odds c) b)
    numbered c (case a b) = case (any_numbered (evens c) a) (all_numbered (odds c) b)
    numbered c (branch_of a) = branch_of (all_numbered c a)
    numbered c (catch a b) = catch (ident_numbered (evens c) a) (all_numbered (odds c) b)

    all_numbered : {x : Sort} → (c : ℕ → ℕ) → Forest S x → Forest ℕ x
    all_numbered c end = end
    all_numbered c (more a b) = more (numbered (evens c) a) (all_numbered (odds c) b)

    any_numbered : {x : Sort} → (c : ℕ → ℕ) → OptionalTree S x → OptionalTree ℕ x
    any_numbered c absent = absent
    any_numbered c (present a) = present (numbered c a)

-- THE PLACES OF A TREE
-- What is built of numbers, when these are renamed to what stands at them, is this.
record Built {S X : Type 0} (build : (ℕ → ℕ) → (ℕ → S) → X) (x : X) : Type 0 where
  at : ℕ → S
  same : (c : ℕ → ℕ) (f : ℕ → S) → ((j : ℕ) → f (c j) ≡ at j) → build c f ≡ x

module _ {S : Type 0} (some : S) where
  alone : {X : Type 0} (x : X) → Built {S = S} (λ c f. x) x
  alone x = record { at = λ j. some; same = λ c f h. refl }

  spot : (s : S) → Built (λ c f. f (c 0)) s
  spot s = record { at = λ j. s; same = λ c f h. h 0 }

  one : {X Y : Type 0} {b : (ℕ → ℕ) → (ℕ → S) → X} {x : X} (make : X → Y) → Built b x
      → Built (λ c f. make (b c f)) (make x)
  one make p = record { at = p.at; same = λ c f h. ap make (p.same c f h) }

  two : {X Y Z : Type 0} {b : (ℕ → ℕ) → (ℕ → S) → X} {d : (ℕ → ℕ) → (ℕ → S) → Y} {x : X} {y : Y}
      (make : X → Y → Z) → Built b x → Built d y → Built (λ c f. make (b (evens c) f) (d (odds c) f)) (make x y)
  two make p q = record {
    at = either p.at q.at;
    same = λ c f h. ap₂ make (p.same (evens c) f (λ j. h (twice j) ∙ at_even p.at q.at j))
        (q.same (odds c) f (λ j. h (suc (twice j)) ∙ at_odd p.at q.at j));
  }

  three : {X Y Z W : Type 0} {b : (ℕ → ℕ) → (ℕ → S) → X} {d : (ℕ → ℕ) → (ℕ → S) → Y}
      {e : (ℕ → ℕ) → (ℕ → S) → Z} {x : X} {y : Y} {z : Z} (make : X → Y → Z → W) → Built b x → Built d y → Built e z
      → Built (λ c f. make (b (evens c) f) (d (evens (odds c)) f) (e (odds (odds c)) f)) (make x y z)
  three {Y = Y} {Z = Z} make p q r = two (λ x (l : Y × Z). make x l.0 l.1) p (two (λ y z. (y, z)) q r)

  four : {X Y Z W V : Type 0} {b : (ℕ → ℕ) → (ℕ → S) → X} {d : (ℕ → ℕ) → (ℕ → S) → Y}
      {e : (ℕ → ℕ) → (ℕ → S) → Z} {g : (ℕ → ℕ) → (ℕ → S) → W} {x : X} {y : Y} {z : Z} {w : W}
      (make : X → Y → Z → W → V) → Built b x → Built d y → Built e z → Built g w
      → Built (λ c f. make (b (evens c) f) (d (evens (odds c)) f) (e (evens (odds (odds c))) f)
      (g (odds (odds (odds c))) f)) (make x y z w)
  four {Y = Y} {Z = Z} {W = W} make p q r s =
      two (λ x (l : Y × Z × W). make x l.0 l.1 l.2) p (three (λ y z w. (y, z, w)) q r s)

  five : {X Y Z W V U : Type 0} {b : (ℕ → ℕ) → (ℕ → S) → X} {d : (ℕ → ℕ) → (ℕ → S) → Y}
      {e : (ℕ → ℕ) → (ℕ → S) → Z} {g : (ℕ → ℕ) → (ℕ → S) → W} {k : (ℕ → ℕ) → (ℕ → S) → V} {x : X} {y : Y} {z : Z}
      {w : W} {v : V} (make : X → Y → Z → W → V → U) → Built b x → Built d y → Built e z → Built g w → Built k v
      → Built (λ c f. make (b (evens c) f) (d (evens (odds c)) f) (e (evens (odds (odds c))) f)
      (g (evens (odds (odds (odds c)))) f) (k (odds (odds (odds (odds c)))) f)) (make x y z w v)
  five {Y = Y} {Z = Z} {W = W} {V = V} make p q r s t =
      two (λ x (l : Y × Z × W × V). make x l.0 l.1 l.2 l.3) p (four (λ y z w v. (y, z, w, v)) q r s t)

  -- names
  built_name : (x : Ident S) → Built (λ c f. ident f (ident_numbered c x)) x
  built_name x = one (λ (s : S). record { text = x.text; at = s }) (spot x.at)

  built_any : (x : Option (Ident S))
      → Built (λ c f. option_map (ident f) (option_map (ident_numbered c) (option_map (ident (λ s. tt {0})) x))) x
  built_any None = alone None
  built_any (Some x) = one (λ (y : Ident S). Some y) (built_name x)

  built_all : (l : List (Ident S))
      → Built (λ c f. map (ident f) (idents_numbered c (map (ident (λ s. tt {0})) l))) l
  built_all [] = alone []
  built_all (x ∷ l) = two (λ (y : Ident S) m. y ∷ m) (built_name x) (built_all l)

  mutual
    built_tree : {x : Sort} (t : Tree S x) → Built (λ c f. map_tree f (numbered c (tree_without_spans t))) t
    built_tree (this s) = one (λ p. this p) (spot s)
    built_tree (name a s) = one (λ p. name a p) (spot s)
    built_tree (number a s) = one (λ p. number a p) (spot s)
    built_tree (string a s) = one (λ p. string a p) (spot s)
    built_tree (boolean a s) = one (λ p. boolean a p) (spot s)
    built_tree (null s) = one (λ p. null p) (spot s)
    built_tree (array a s) = two (λ p q. array p q) (built_forest a) (spot s)
    built_tree (object a s) = two (λ p q. object p q) (built_forest a) (spot s)
    built_tree (function_expression a s) = two (λ p q. function_expression p q) (built_tree a) (spot s)
    built_tree (dot a b s) = two (λ p q. dot p b q) (built_tree a) (spot s)
    built_tree (index a b s) = three (λ p q r. index p q r) (built_tree a) (built_tree b) (spot s)
    built_tree (call a b s) = three (λ p q r. call p q r) (built_tree a) (built_forest b) (spot s)
    built_tree (new a b s) = three (λ p q r. new p q r) (built_tree a) (built_forest b) (spot s)
    built_tree (unary o a s) = two (λ p q. unary o p q) (built_tree a) (spot s)
    built_tree (update up prefix a s) = two (λ p q. update up prefix p q) (built_tree a) (spot s)
    built_tree (binary o a b s) = three (λ p q r. binary o p q r) (built_tree a) (built_tree b) (spot s)
    built_tree (and a b s) = three (λ p q r. and p q r) (built_tree a) (built_tree b) (spot s)
    built_tree (or a b s) = three (λ p q r. or p q r) (built_tree a) (built_tree b) (spot s)
    built_tree (conditional a b d s) =
        four (λ p q r u. conditional p q r u) (built_tree a) (built_tree b) (built_tree d) (spot s)
    built_tree (assign o a b s) = three (λ p q r. assign o p q r) (built_tree a) (built_tree b) (spot s)
    built_tree (comma a b s) = three (λ p q r. comma p q r) (built_tree a) (built_tree b) (spot s)
    built_tree (to_name a) = one (λ p. to_name p) (built_name a)
    built_tree (to_dot a b s) = two (λ p q. to_dot p b q) (built_tree a) (spot s)
    built_tree (to_index a b s) = three (λ p q r. to_index p q r) (built_tree a) (built_tree b) (spot s)
    built_tree hole = alone hole
    built_tree (filled a) = one (λ p. filled p) (built_tree a)
    built_tree (value a b) = two (λ p q. value p q) (built_name a) (built_tree b)
    built_tree (getter a b) = two (λ p q. getter p q) (built_name a) (built_tree b)
    built_tree (setter a b) = two (λ p q. setter p q) (built_name a) (built_tree b)
    built_tree (function m a params b s) =
        four (λ p q r u. function m p q r u) (built_any a) (built_all params) (built_tree b) (spot s)
    built_tree (body strict a b) = two (λ p q. body strict p q) (built_forest a) (built_forest b)
    built_tree (var a s) = two (λ p q. var p q) (built_forest a) (spot s)
    built_tree (empty s) = one (λ p. empty p) (spot s)
    built_tree (expression a s) = two (λ p q. expression p q) (built_tree a) (spot s)
    built_tree (block a s) = two (λ p q. block p q) (built_forest a) (spot s)
    built_tree (if_else a b d s) =
        four (λ p q r u. if_else p q r u) (built_tree a) (built_forest b) (built_optional d) (spot s)
    built_tree (do_while a b s) = three (λ p q r. do_while p q r) (built_forest a) (built_tree b) (spot s)
    built_tree (while a b s) = three (λ p q r. while p q r) (built_tree a) (built_forest b) (spot s)
    built_tree (for a b d l s) =
        five (λ p q r u v. for p q r u v) (built_tree a) (built_optional b) (built_optional d) (built_forest l) (spot s)
    built_tree (for_in is_var a b d s) =
        four (λ p q r u. for_in is_var p q r u) (built_name a) (built_tree b) (built_forest d) (spot s)
    built_tree (continue a s) = two (λ p q. continue p q) (built_any a) (spot s)
    built_tree (break a s) = two (λ p q. break p q) (built_any a) (spot s)
    built_tree (return a s) = two (λ p q. return p q) (built_optional a) (spot s)
    built_tree (labelled a b s) = three (λ p q r. labelled p q r) (built_name a) (built_tree b) (spot s)
    built_tree (switch a b s) = three (λ p q r. switch p q r) (built_tree a) (built_forest b) (spot s)
    built_tree (throw a s) = two (λ p q. throw p q) (built_tree a) (spot s)
    built_tree (try a b d s) =
        four (λ p q r u. try p q r u) (built_forest a) (built_optional b) (built_optional d) (spot s)
    built_tree (debugger s) = one (λ p. debugger p) (spot s)
    built_tree nothing = alone nothing
    built_tree (init_expression a) = one (λ p. init_expression p) (built_tree a)
    built_tree (init_var a) = one (λ p. init_var p) (built_forest a)
    built_tree (declarator a b) = two (λ p q. declarator p q) (built_name a) (built_optional b)
    built_tree (case a b) = two (λ p q. case p q) (built_optional a) (built_forest b)
    built_tree (branch_of a) = one (λ p. branch_of p) (built_forest a)
    built_tree (catch a b) = two (λ p q. catch p q) (built_name a) (built_forest b)

    built_forest : {x : Sort} (l : Forest S x)
        → Built (λ c f. map_forest f (all_numbered c (map_forest (λ s. tt {0}) l))) l
    built_forest end = alone end
    built_forest (more a b) = two (λ p q. more p q) (built_tree a) (built_forest b)

    built_optional : {x : Sort} (o : OptionalTree S x)
        → Built (λ c f. map_optional f (any_numbered c (map_optional (λ s. tt {0}) o))) o
    built_optional absent = alone absent
    built_optional (present a) = one (λ p. present p) (built_tree a)

-- a program of this shape, in which each place is a number of its own
abbrev pub program_numbered : {S : Type 0} → Program S → Program ℕ
program_numbered p =
    record { body = numbered (evens (λ (j : ℕ). j)) p.body; at = odds (λ (j : ℕ). j) 0 }

-- what the places of a program are for these numbers
pub record Places {S : Type 0} (p : Program S) : Type 0 where
  pub at : ℕ → S
  pub same : map_spans at (program_numbered (without_spans p)) ≡ p

pub places : {S : Type 0} (p : Program S) → Places p
places {S} p =
    let built = two p.at (λ (b : Tree S _) (s : S). record { body = b; at = s }) (built_tree p.at p.body)
    (spot p.at p.at) in
    record { at = built.at; same = built.same (λ j. j) built.at (λ j. refl) }
