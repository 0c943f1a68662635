-- How lists are written one part at a time, and what a list of tokens begins with.
use Rattle.std.proofs.Common.{◌≡◌, ℕ, Bool, true, false, List, [], ◌∷◌, ◌++◌, append_assoc, append-nil, refl, sym}
use Rattle.std.proofs.Common.{ap, ◌∙◌, Option, Some, None, length, nat_eq, arith}
use Rattle.std.proofs.Common.{suc, add-one, ◌+◌, ◌<◌, drop, drop-cons, length-drop, get_or, option_map}
use Rattle.std.specs.Prelude.{not, codes, if◌then◌else◌}
use Rattle.jl_ast.specs.Tree as tree
use Rattle.jl_ast.specs.Tree.{Ident, Text, Tree, Forest, OptionalTree}
use Rattle.jl_ast.specs.View.{item, view_declarators, view_expression, view_ident, view_items, view_optional}
use Rattle.jl_ast.specs.declared.tree.Expr.{Expr}
use Rattle.jl_ast.specs.declared.tree.Ident as declared
use Rattle.jl_ast.specs.declared.ops.BinOp.{BinOp}
use Rattle.jl_ast.specs.declared.ops.UnOp.{UnOp}
use Rattle.jl_ast.specs.declared.ops.UnOp.TheVariants as prefixes
use Rattle.jl_token.specs.declared.token.TokenKind.{TokenKind}
use Rattle.jl_grammar.specs.Next.{bars_expression}
use Rattle.jl_grammar.specs.Terminals.{terminal_of}
use Rattle.jl_grammar.specs.Words.{same_text, word_of}
use Rattle.jl_grammar.specs.declared.terminal.Terminal.TheVariants as terminals
use Rattle.jl_grammar.specs.declared.word.Word.{Word}
use Rattle.jl_print.specs.inner.Kinds.{after_name, assigning, case_head, comma_unless, initializer, item_with_comma}
use Rattle.jl_print.specs.Pieces.{in_parens_unless, key, name, punct, prefix_operator, update_operator}
use Rattle.jl_print.specs.Precedence.{fits, is_in}
use Rattle.jl_print.specs.CanonicalTokens.{tokens_of_node, tokens_of_arguments, further_arguments, tokens_of_entries}
use Rattle.jl_print.specs.CanonicalTokens.{further}
use Rattle.jl_print.specs.CanonicalTokens.{tokens_of_declarators, begins_otherwise, tokens_of_items, tokens_of_all}
use Rattle.jl_print.specs.CanonicalTokens.{colon}

-- what is left to write of a list, of which the next part is the first or not
abbrev pub arguments_from : {S : Type 0} → Bool → Forest S tree.expr → List TokenKind
arguments_from true r = tokens_of_arguments r
arguments_from false r = further_arguments r

abbrev pub entries_from : {S : Type 0} → Bool → Forest S tree.entry → List TokenKind
entries_from true r = tokens_of_entries r
entries_from false r = further r

abbrev pub declarators_from : {S : Type 0} → Bool → Forest S tree.decl → List TokenKind
declarators_from true r = tokens_of_declarators r
declarators_from false r = further r

pub next_argument : {S : Type 0} (o : List TokenKind) (first : Bool) (t : Tree S tree.expr) (r : Forest S tree.expr) →
    ((o ++ comma_unless first) ++ in_parens_unless (fits t 13) (tokens_of_node t)) ++ arguments_from false r
    ≡ o ++ arguments_from first (tree.more t r)
unfolding tokens_of_node
next_argument o true t r = simp (append-nil, append_assoc)
next_argument o false t r = simp append_assoc

pub next_entry : {S : Type 0} (o : List TokenKind) (first : Bool) (t : Tree S tree.entry) (r : Forest S tree.entry) →
    ((o ++ comma_unless first) ++ tokens_of_node t) ++ entries_from false r ≡ o ++ entries_from first (tree.more t r)
unfolding tokens_of_node
next_entry o true t r = simp (append-nil, append_assoc)
next_entry o false t r = simp append_assoc

pub next_declarator : {S : Type 0} (o : List TokenKind) (first : Bool) (x : Ident S) (m : OptionalTree S tree.expr)
    (r : Forest S tree.decl) →
    ((o ++ comma_unless first) ++ (name x.text ∷ initializer m)) ++ declarators_from false r
    ≡ o ++ declarators_from first (tree.more (tree.declarator x m) r)
unfolding tokens_of_node
next_declarator o true x tree.absent r = simp (append-nil, append_assoc)
next_declarator o true x (tree.present a) r = simp (append-nil, append_assoc)
next_declarator o false x tree.absent r = simp append_assoc
next_declarator o false x (tree.present a) r = simp append_assoc

next_item : (o : List TokenKind) (e : Option Expr) (l : List (Option Expr)) (left : ℕ) → left ≡ length l →
    (o ++ item_with_comma (item (option_map view_expression e)) (nat_eq left 0)) ++ tokens_of_items (view_items l)
    ≡ o ++ tokens_of_items (view_items (e ∷ l))
unfolding tokens_of_node
next_item o None [] left h = append-nil _
next_item o None (x ∷ l) left h = append_assoc o _ _
next_item o (Some e) [] left h = rw h (simp append-nil)
next_item o (Some e) (x ∷ l) left h =
    let q : nat_eq left 0 ≡ false = grind (arith, h) in
    rw q (simp append_assoc)

-- the element e with the number i of a list, of which `left` come after it
pub item_at : (o : List TokenKind) (l : List (Option Expr)) (i left : ℕ) (e : Option Expr) → e ≡ get_or l i e →
    left + (i + 1) ≡ length l →
    (o ++ item_with_comma (item (option_map view_expression e)) (nat_eq left 0))
    ++ tokens_of_items (view_items (drop (i + 1) l)) ≡ o ++ tokens_of_items (view_items (drop i l))
item_at o l i left e w h =
    rw (add-one i) (next_item o e (drop (suc i) l) left (omega (arith, length-drop (suc i) l, h))
    ∙ ap (λ x. o ++ tokens_of_items (view_items x))
    (ap (λ y. y ∷ drop (suc i) l) w ∙ sym (drop-cons l i e (omega (arith, h)))))

-- the declarator d with the number i of a list
pub declarator_at : (o : List TokenKind) (first : Bool) (l : List (declared.Ident × Option Expr)) (i : ℕ)
    (d : declared.Ident × Option Expr) → d ≡ get_or l i d → i < length l →
    ((o ++ comma_unless first) ++ (name d.0.text ∷ initializer (view_optional d.1)))
    ++ declarators_from false (view_declarators (drop (i + 1) l))
    ≡ o ++ declarators_from first (view_declarators (drop i l))
declarator_at o first l i d w h =
    rw (add-one i) (next_declarator o first (view_ident d.0) (view_optional d.1) (view_declarators (drop (suc i) l))
    ∙ ap (λ x. o ++ declarators_from first (view_declarators x))
    (ap (λ y. y ∷ drop (suc i) l) w ∙ sym (drop-cons l i d h)))

-- what a node is written as, by its parts
pub assign_parts : {S : Type 0} (op : Option BinOp) (g : Tree S tree.target) (a : Tree S tree.expr) (s : S) →
    tokens_of_node (tree.assign op g a s)
    ≡ tokens_of_node g ++ (punct (assigning op) ∷ in_parens_unless (fits a 13) (tokens_of_node a))
unfolding tokens_of_node
assign_parts None g a s = refl
assign_parts (Some op) g a s = refl

pub case_parts : {S : Type 0} (m : OptionalTree S tree.expr) (ws : Forest S tree.stmt) →
    tokens_of_node (tree.case m ws) ≡ case_head m ++ tokens_of_all ws
unfolding tokens_of_node
case_parts tree.absent ws = refl
case_parts (tree.present a) ws =
    ap (λ l. name (codes "case") ∷ l) (sym (append_assoc (tokens_of_node a) (colon ∷ []) (tokens_of_all ws)))

pub getter_parts : {S : Type 0} (k : Ident S) (f : Tree S tree.func) →
    tokens_of_node (tree.getter k f) ≡ name (codes "get") ∷ key k.text ∷ after_name f
unfolding tokens_of_node
getter_parts k (tree.function n x ps c s) = refl

pub setter_parts : {S : Type 0} (k : Ident S) (f : Tree S tree.func) →
    tokens_of_node (tree.setter k f) ≡ name (codes "set") ∷ key k.text ∷ after_name f
unfolding tokens_of_node
setter_parts k (tree.function n x ps c s) = refl

pub ruleset nodes_by_parts = (
  assign_parts,
  case_parts,
  getter_parts,
  setter_parts,
)

-- a list of tokens that is not empty
pub record Begins (ks : List TokenKind) : Type 0 where
  pub first : TokenKind
  pub rest : List TokenKind
  pub is : ks ≡ first ∷ rest

begins : (k : TokenKind) (ks : List TokenKind) → Begins (k ∷ ks)
begins k ks = record { first = k; rest = ks; is = refl }

longer : (ks ls : List TokenKind) → Begins ks → Begins (ks ++ ls)
longer ks ls b = record { first = b.first; rest = b.rest ++ ls; is = ap (λ l. l ++ ls) b.is }

fitted_begins : (fits : Bool) (ks : List TokenKind) → Begins ks → Begins (in_parens_unless fits ks)
fitted_begins true ks b = b
fitted_begins false ks b = begins _ _

mutual
  unfolding tokens_of_node

  expression_begins : {S : Type 0} (t : Tree S tree.expr) → Begins (tokens_of_node t)
  expression_begins (tree.this s) = begins _ _
  expression_begins (tree.name t s) = begins _ _
  expression_begins (tree.number n s) = begins _ _
  expression_begins (tree.string t s) = begins _ _
  expression_begins (tree.boolean true s) = begins _ _
  expression_begins (tree.boolean false s) = begins _ _
  expression_begins (tree.null s) = begins _ _
  expression_begins (tree.array a s) = begins _ _
  expression_begins (tree.object a s) = begins _ _
  expression_begins (tree.function_expression (tree.function n x ps c u) s) = begins _ _
  expression_begins (tree.dot a t s) = longer _ _ (fitted_begins (fits a 0) _ (expression_begins a))
  expression_begins (tree.index a b s) = longer _ _ (fitted_begins (fits a 0) _ (expression_begins a))
  expression_begins (tree.call a b s) = longer _ _ (fitted_begins (fits a 0) _ (expression_begins a))
  expression_begins (tree.new a b s) = begins _ _
  expression_begins (tree.unary op a s) = begins _ _
  expression_begins (tree.update up true g s) = begins _ _
  expression_begins (tree.update up false g s) = longer _ _ (target_begins g)
  expression_begins (tree.binary op a b s) =
      fitted_begins (not (is_in op)) _ (longer _ _ (fitted_begins _ _ (expression_begins a)))
  expression_begins (tree.and a b s) = longer _ _ (fitted_begins (fits a 11) _ (expression_begins a))
  expression_begins (tree.or a b s) = longer _ _ (fitted_begins (fits a 12) _ (expression_begins a))
  expression_begins (tree.conditional a b c s) = longer _ _ (fitted_begins (fits a 12) _ (expression_begins a))
  expression_begins (tree.assign None g a s) = longer _ _ (target_begins g)
  expression_begins (tree.assign (Some op) g a s) = longer _ _ (target_begins g)
  expression_begins (tree.comma a b s) = longer _ _ (expression_begins a)

  target_begins : {S : Type 0} (g : Tree S tree.target) → Begins (tokens_of_node g)
  target_begins (tree.to_name x) = begins _ _
  target_begins (tree.to_dot a t s) = longer _ _ (fitted_begins (fits a 0) _ (expression_begins a))
  target_begins (tree.to_index a b s) = longer _ _ (fitted_begins (fits a 0) _ (expression_begins a))

same_begin : (ks ls : List TokenKind) → Begins ks → begins_otherwise (ks ++ ls) ≡ begins_otherwise ks
same_begin ks ls b = ap (λ l. begins_otherwise (l ++ ls)) b.is ∙ sym (ap begins_otherwise b.is)

pub expression_first : {S : Type 0} (t : Tree S tree.expr) (ls : List TokenKind) →
    begins_otherwise (tokens_of_node t ++ ls) ≡ begins_otherwise (tokens_of_node t)
expression_first t ls = same_begin _ ls (expression_begins t)

pub operand_first : {S : Type 0} (t : Tree S tree.expr) (fits : Bool) (ls : List TokenKind) →
    begins_otherwise (in_parens_unless fits (tokens_of_node t) ++ ls)
    ≡ begins_otherwise (in_parens_unless fits (tokens_of_node t))
operand_first t fits ls = same_begin _ ls (fitted_begins fits _ (expression_begins t))

pub target_first : {S : Type 0} (g : Tree S tree.target) (ls : List TokenKind) →
    begins_otherwise (tokens_of_node g ++ ls) ≡ begins_otherwise (tokens_of_node g)
target_first g ls = same_begin _ ls (target_begins g)

pub prefix_first : (op : UnOp) (ls : List TokenKind) → begins_otherwise (prefix_operator op ∷ ls) ≡ false
prefix_first prefixes.Minus ls = refl
prefix_first prefixes.Plus ls = refl
prefix_first prefixes.Not ls = refl
prefix_first prefixes.Tilde ls = refl
prefix_first prefixes.Typeof ls = refl
prefix_first prefixes.Void ls = refl
prefix_first prefixes.Delete ls = refl

pub update_first : (up : Bool) (ls : List TokenKind) → begins_otherwise (update_operator up ∷ ls) ≡ false
update_first true ls = refl
update_first false ls = refl

pub word_bars : (t : Text) (w : Word) → word_of t ≡ Some w →
    bars_expression (terminals.Word w) ≡ bars_expression (terminal_of (name t))
word_bars t w e = rw e refl

pub no_word_bars : (t : Text) → word_of t ≡ None → false ≡ bars_expression (terminal_of (name t))
no_word_bars t e = rw e (unreserved (same_text (codes "get") t) (same_text (codes "set") t))
  where
    unreserved : (get set : Bool) → false ≡ bars_expression
        (if get then terminals.Get else if set then terminals.Set else terminals.Identifier)
    unreserved true set = refl
    unreserved false true = refl
    unreserved false false = refl

pub ruleset beginnings = (
  expression_first,
  operand_first,
  target_first,
  prefix_first,
  update_first,
)
