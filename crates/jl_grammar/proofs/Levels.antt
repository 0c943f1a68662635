-- Heights of what is read, and what is read with a level more.
use Rattle.std.proofs.Common.{◌≡◌, ℕ, zero, suc, ◌+◌, ◌≤◌, ◌<◌, max, Bool, true, false, not, ◌&&◌, ap, ◌∙◌, refl}
use Rattle.std.proofs.Common.{arith}
use Rattle.std.specs.Prelude.{List, Option, Some, None, ◌-◌, nat_le, if◌then◌else◌}
use Rattle.std.proofs.lemmas.Bool.{le-leb}
use Rattle.jl_ast.specs.Height.{height}
use Rattle.jl_ast.specs.declared.ops.BinOp.{BinOp}
use Rattle.jl_ast.specs.Tree.{Ident, Tree}
use Rattle.jl_ast.specs.Tree as tree
use Rattle.jl_text.specs.declared.span.Span.{Span}
use Rattle.jl_token.specs.declared.token.Token.{Token}
use Rattle.jl_grammar.specs.declared.word.Word.TheVariants as words
use Rattle.jl_grammar.specs.Brackets.{open_brackets}
use Rattle.jl_grammar.specs.Next.{keyword, is_question, is_comma, updates_at, target_of}
use Rattle.jl_grammar.specs.Operators.{InfixOperator, plain, both, either, infix_node, continues, assigns, updates}
use Rattle.jl_grammar.specs.Reads.{Expr, Stmt, Code, AssignsAt, IsTarget}
use Rattle.jl_grammar.specs.Reader.{Read, Deeper, expression_at, assignment_at, unary_at, binary_at}
use Rattle.jl_grammar.specs.ReaderLevels.{deeper}
use Rattle.jl_grammar.specs.Reader.{conditional_at, left_at, statement_at, rest_at}
use Rattle.jl_grammar.specs.Tokens.{At, terminal_at, line_at}
use Rattle.jl_grammar.proofs.Expressions.{no_postfix_step, no_prefix_step, binary_step, binary_stop}
use Rattle.jl_grammar.proofs.Expressions.{no_question_step, no_assign_step, expression_step, comma_stop}
use Rattle.jl_grammar.proofs.Starts.{begins_left, left_is_no_prefix, left_is_no_update, assign_updates_not}
use Rattle.jl_grammar.proofs.Starts.{assign_is_no_question, assign_joins_not}

pub function_pos : (t : Tree Span tree.func) → 1 ≤ height t
function_pos (tree.function n x ps c s) = omega arith

pub height_pos : (t : Expr) → 1 ≤ height t
height_pos (tree.function_expression t s) = function_pos t
height_pos (tree.name x s) = omega arith
height_pos _ = omega arith

pub statement_pos : (t : Stmt) → 1 ≤ height t
statement_pos (tree.empty s) = omega arith
statement_pos _ = omega arith

pub joined_height : (op : InfixOperator) (a b : Expr) (s : Span) → height (infix_node op a b s)
    ≡ max (height a) (height b) + 1
joined_height (plain op) a b s = refl
joined_height both a b s = refl
joined_height either a b s = refl

-- an expression that may be assigned to is no higher than one more than the target
pub target_height : (t : Expr) (g : Tree Span tree.target) → IsTarget t g → height t ≤ height g + 1
target_height t g h = of_target t g h.is
  where
    same : (a b : Tree Span tree.target) → Some a ≡ Some b → height a ≡ height b
    same a b e = cc

    of_target : (t : Expr) (g : Tree Span tree.target) → target_of t ≡ Some g → height t ≤ height g + 1
    of_target (tree.name x s) g e = omega arith
    of_target (tree.dot a x s) g e = let q = same (tree.to_dot a x s) g e in omega arith
    of_target (tree.index a b s) g e = let q = same (tree.to_index a b s) g e in omega arith
    of_target _ g e = cc

-- a left-hand side before an assignment operator is a whole conditional expression
pub left_conditional : (ts : List Token) (d : Deeper) (no_in : Bool) (n i j : ℕ) (t : Expr) (op : Option BinOp)
    → begins_left (terminal_at ts i) ≡ true → left_at ts d true n i ≡ Some (t, j) → AssignsAt ts j op
    → conditional_at ts d no_in n i ≡ Some (t, j)
left_conditional ts d no_in n i j t op b h e =
    let u : updates_at ts j ≡ false =
    ap (λ x. x && not (line_at ts j)) (assign_updates_not (terminal_at ts j) op e.is) in
    let p = no_prefix_step ts d n i j t (left_is_no_prefix (terminal_at ts i) b)
    (left_is_no_update (terminal_at ts i) b)
    (no_postfix_step ts d n i j t h u) in
    no_question_step ts d no_in n i j t (binary_step ts d no_in n 10 i j t p
    ∙ binary_stop ts d no_in n 10 i j t (assign_joins_not no_in (terminal_at ts j) op e.is))
    (assign_is_no_question (terminal_at ts j) op e.is)

-- a left-hand side before an `in` that is no operator is a whole expression
pub left_expression : (ts : List Token) (d : Deeper) (n i j : ℕ) (t : Expr) → begins_left (terminal_at ts i) ≡ true
    → left_at ts d true n i ≡ Some (t, j) → At ts j (keyword words.In) → expression_at ts d true n i ≡ Some (t, j)
left_expression ts d n i j t b h e =
    let u : updates_at ts j ≡ false = ap (λ k. updates k && not (line_at ts j)) e.is in
    let p = no_prefix_step ts d n i j t (left_is_no_prefix (terminal_at ts i) b)
    (left_is_no_update (terminal_at ts i) b)
    (no_postfix_step ts d n i j t h u) in
    let q = no_question_step ts d true n i j t (binary_step ts d true n 10 i j t p
    ∙ binary_stop ts d true n 10 i j t (ap (continues true 10) e.is)) (ap is_question e.is) in
    expression_step ts d true n i j t (no_assign_step ts d true n i j t q (ap assigns e.is))
    ∙ comma_stop ts d true n i j t (ap is_comma e.is)

-- the room for a node, by what is left
pub room_is : (ts : List Token) (b f i : ℕ) → (deeper ts b f).room i ≡ f - (b - open_brackets ts i)
unfolding deeper
room_is ts b zero i = omega arith
room_is ts b (suc f) i = refl

entering : {A : Type 0} (n : ℕ) (o r : Read A) → 1 ≤ n → o ≡ r → (if nat_le 1 n then o else None) ≡ r
entering n o r l e = rw (le-leb 1 n l) e

pub deeper_expression : (ts : List Token) (b f : ℕ) (no_in : Bool) (i : ℕ) (r : Read Expr) → b - open_brackets ts i < f
    → ((g : ℕ) → f ≡ suc g → expression_at ts (deeper ts b g) no_in g i ≡ r) → (deeper ts b f).expression no_in i ≡ r
unfolding deeper
deeper_expression ts b zero no_in i r p h = absurd (omega arith)
deeper_expression ts b (suc g) no_in i r p h = entering (suc g - (b - open_brackets ts i)) _ r (omega arith) (h g refl)

pub deeper_assignment : (ts : List Token) (b f : ℕ) (no_in : Bool) (i : ℕ) (r : Read Expr) → b - open_brackets ts i < f
    → ((g : ℕ) → f ≡ suc g → assignment_at ts (deeper ts b g) no_in g i ≡ r) → (deeper ts b f).assignment no_in i ≡ r
unfolding deeper
deeper_assignment ts b zero no_in i r p h = absurd (omega arith)
deeper_assignment ts b (suc g) no_in i r p h = entering (suc g - (b - open_brackets ts i)) _ r (omega arith) (h g refl)

pub deeper_unary : (ts : List Token) (b f i : ℕ) (r : Read Expr) → b - open_brackets ts i < f
    → ((g : ℕ) → f ≡ suc g → unary_at ts (deeper ts b g) g i ≡ r) → (deeper ts b f).unary i ≡ r
unfolding deeper
deeper_unary ts b zero i r p h = absurd (omega arith)
deeper_unary ts b (suc g) i r p h = entering (suc g - (b - open_brackets ts i)) _ r (omega arith) (h g refl)

pub deeper_binary : (ts : List Token) (b f : ℕ) (no_in : Bool) (m i : ℕ) (r : Read Expr) → b - open_brackets ts i < f
    → ((g : ℕ) → f ≡ suc g → binary_at ts (deeper ts b g) no_in g m i ≡ r) → (deeper ts b f).binary no_in m i ≡ r
unfolding deeper
deeper_binary ts b zero no_in m i r p h = absurd (omega arith)
deeper_binary ts b (suc g) no_in m i r p h = entering (suc g - (b - open_brackets ts i)) _ r (omega arith) (h g refl)

pub deeper_member : (ts : List Token) (b f i : ℕ) (r : Read Expr) → b - open_brackets ts i < f
    → ((g : ℕ) → f ≡ suc g → left_at ts (deeper ts b g) false g i ≡ r) → (deeper ts b f).member i ≡ r
unfolding deeper
deeper_member ts b zero i r p h = absurd (omega arith)
deeper_member ts b (suc g) i r p h = entering (suc g - (b - open_brackets ts i)) _ r (omega arith) (h g refl)

pub deeper_statement : (ts : List Token) (b f i : ℕ) (r : Read Stmt) → b - open_brackets ts i < f
    → ((g : ℕ) → f ≡ suc g → statement_at ts (deeper ts b g) i ≡ r) → (deeper ts b f).statement i ≡ r
unfolding deeper
deeper_statement ts b zero i r p h = absurd (omega arith)
deeper_statement ts b (suc g) i r p h = entering (suc g - (b - open_brackets ts i)) _ r (omega arith) (h g refl)

pub deeper_rest : (ts : List Token) (b f i : ℕ) (r : Read (List (Ident Span) × Code)) → b - open_brackets ts i < f
    → ((g : ℕ) → f ≡ suc g → rest_at ts (deeper ts b g) i ≡ r) → (deeper ts b f).rest i ≡ r
unfolding deeper
deeper_rest ts b zero i r p h = absurd (omega arith)
deeper_rest ts b (suc g) i r p h = entering (suc g - (b - open_brackets ts i)) _ r (omega arith) (h g refl)
