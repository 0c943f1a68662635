-- The parts of trees that are read again, and what joins them.
use Rattle.std.proofs.Common.{◌≡◌, ℕ, suc, pred, ◌-◌, ◌≤◌, Bool, true, false, not, ◌&&◌, ◌||◌, refl, ap, ap₂}
use Rattle.std.proofs.Common.{sym, ◌∙◌, subst, List, [], ◌∷◌, ◌++◌, arith}
use Rattle.std.specs.Prelude.{Some, None, codes, map, if◌then◌else◌}
use Rattle.jl_ast.specs.declared.ops.BinOp.{BinOp}
use Rattle.jl_ast.specs.declared.ops.BinOp.TheVariants as ops
use Rattle.jl_ast.specs.Tree.{Ident, Sort, Tree, Forest, OptionalTree, Text, is_name}
use Rattle.jl_ast.specs.Tree as tree
use Rattle.jl_text.specs.declared.span.Span.{Span}
use Rattle.jl_token.specs.declared.punct.Punct.TheVariants as puncts
use Rattle.jl_token.specs.declared.token.Token.{Token}
use Rattle.jl_token.specs.declared.token.TokenKind.{TokenKind}
use Rattle.jl_grammar.specs.declared.terminal.Terminal.{Terminal}
use Rattle.jl_grammar.specs.declared.terminal.Terminal.TheVariants as terminals
use Rattle.jl_grammar.specs.Next.{open_paren}
use Rattle.jl_grammar.specs.Next.{semicolon, is_comma, is_colon, is_equals, ends_list}
use Rattle.jl_grammar.specs.Next.{is_string as is_string_token, is_directive, continues_at, keyword}
use Rattle.jl_grammar.specs.declared.word.Word.TheVariants as words
use Rattle.jl_grammar.specs.Laws.{IsAlone}
use Rattle.jl_grammar.proofs.Directives.{directives_are_alone}
use Rattle.jl_grammar.specs.Next.{bars_expression, continues_left}
use Rattle.jl_grammar.specs.Operators.{InfixOperator, plain, infix_node, infix_precedence, level, continues, updates}
use Rattle.jl_grammar.specs.Reads as reads
use Rattle.jl_grammar.specs.Reads.{Expr, Exprs, Stmt, Stmts, Code, IsTarget, ReadsPrimary, ReadsUnary, ReadsLeft}
use Rattle.jl_grammar.specs.Reads.{ReadsArguments, ReadsArgumentList, ReadsItems, ReadsEntries, ReadsEntry, ReadsRest}
use Rattle.jl_grammar.specs.Reads.{ReadsBody, BeginsLeft, BeginsBinary, ReadsAssignment, ReadsDeclaration}
use Rattle.jl_grammar.specs.Reads.{ReadsDeclarations, ReadsBlock, ReadsStatement, ReadsStatements, ReadsHead}
use Rattle.jl_grammar.specs.Reads.{ReadsInit, ReadsOptional, ReadsClauses, ReadsCatch, ReadsElements, there}
use Rattle.jl_grammar.proofs.Progress.{expression_goes}
use Rattle.jl_grammar.specs.Tokens.{At, terminal_at, line_at, text_at, strict_at, span}
use Rattle.jl_print.specs.Layout.{ends_line}
use Rattle.jl_print.specs.Pieces.{name, punct, string, operator}
use Rattle.jl_print.specs.Pieces.{in_parens, in_parens_unless, within_braces}
use Rattle.jl_print.specs.Precedence.{precedence_of, fits, is_in, operator_precedence}
use Rattle.jl_print.specs.WellFormed.{WellFormed, AreIdentifiers}
use Rattle.jl_print.specs.CanonicalTokens.{tokens_of_node, further_arguments, further}
use Rattle.jl_print.specs.CanonicalTokens.{items_after, parameters, tokens_of_all}
use Rattle.jl_print.specs.CanonicalTokens.{begins_otherwise, is_string}
use Rattle.jl_print.proofs.Fronts.{Front, of_left, of_binary}
use Rattle.jl_print.proofs.Fronts.{to_binary, to_expression, as_loose, Quiet, quiet_less}
use Rattle.jl_print.proofs.Fronts.{quiet_stop, stops}
use Rattle.jl_print.proofs.Following.{begins_so, no_label}
use Rattle.jl_print.proofs.Names.{back_parameters}
use Rattle.jl_print.proofs.Operators.{InfixOperatorToken, binary_token, in_token, quiet_infix_operator, joins_at}
use Rattle.jl_print.proofs.Places.{Back, Alone, BackWhole, whole, BackPrimary, enclosed, bracketed, in_place}
use Rattle.jl_print.proofs.Skeleton.{skeleton, skeleton_forest, skeleton_optional, named}
use Rattle.jl_print.proofs.Spells.{Spelled, Spells, parts, line_after, line_append, at, identifier}
use Rattle.jl_print.proofs.Spells.{name_text, strict_spelled}

pub as_unary : {ts : List Token} {no_in : Bool} {i j : ℕ} {t : Expr} → Front ts no_in i t j 2 → ReadsUnary ts i t j
as_unary f = of_operand (to_binary 0 (omega arith) f)
  where
    of_operand : {ts : List Token} {no_in : Bool} {i j : ℕ} {t : Expr} → BeginsBinary ts no_in 0 i t j
        → ReadsUnary ts i t j
    of_operand (reads.operand r) = r

pub of_unary : {ts : List Token} {no_in : Bool} {i j : ℕ} {t : Expr} → ReadsUnary ts i t j → Front ts no_in i t j 2
of_unary r = of_binary (omega arith) (reads.operand r)

-- a primary expression, of any rank that is asked for
pub of_primary : {ts : List Token} {no_in : Bool} {i j : ℕ} {t : Expr} → ReadsPrimary ts i t j → Front ts no_in i t j 0
of_primary p = of_left (reads.primary p)

-- two operands and what joins them
pub infix_operator_back : {ts : List Token} (no_in : Bool) (l : ℕ) → l ≤ 9 → (o : InfixOperator)
    → infix_precedence o ≡ suc l → (k : TokenKind)
    → InfixOperatorToken no_in k o → (a b : Expr) → Alone ts a → Alone ts b → (i j : ℕ) (line : Bool)
    → Spells ts i line (in_parens_unless (fits a (suc (suc (suc l)))) (tokens_of_node a) ++
    (k ∷ in_parens_unless (fits b (suc (suc l))) (tokens_of_node b))) j → Quiet no_in (suc (suc (suc l))) ts j
    → (same : (x y : Expr) (s u : Span) → skeleton x ≡ skeleton a → skeleton y ≡ skeleton b
    → skeleton (infix_node o x y s) ≡ skeleton (infix_node o a b u)) → (u : Span)
    → Back ts no_in (suc (suc (suc l))) i (infix_node o a b u) j
infix_operator_back {ts} no_in l top o e k t a b back_a back_b i j line s q same u =
    let p = parts ts i line (in_parens_unless (fits a (suc (suc (suc l)))) (tokens_of_node a))
    (k ∷ in_parens_unless (fits b (suc (suc l))) (tokens_of_node b)) j s in
    let x = in_place a (suc (suc (suc l))) (omega arith) back_a no_in i p.middle line p.first
    (quiet_infix_operator l top p.second.0 t e) in
    let y = in_place b (suc (suc l)) (omega arith) back_b no_in (suc p.middle) j (ends_line k) p.second.1
    (quiet_less (suc (suc l)) (suc (suc (suc l))) (omega arith) q) in
    let r = to_binary (suc l) (omega arith) x.is in
    let c : (suc (suc (suc l)) - 3) ≡ l = omega arith in
    let z = reads.whole_binary (to_binary l (omega arith) y.is)
    (subst (λ n. continues no_in n (terminal_at ts j) ≡ false) c q.operator) in
    record {
      tree = infix_node o x.tree y.tree (span ts i j);
      same = same x.tree y.tree (span ts i j) u x.same y.same;
      is = of_binary (omega arith) (reads.an_infix_operator r (joins_at p.second.0 t) e z);
    }

pub same_binary : (op : BinOp) (a b x y : Expr) (s u : Span) → skeleton x ≡ skeleton a → skeleton y ≡ skeleton b
    → skeleton (tree.binary op x y s) ≡ skeleton (tree.binary op a b u)
same_binary op a b x y s u h g = ap₂ (λ x y. tree.binary op x y tt) h g

-- how loose an operator is, counted from the tightest
pub record Loose (op : BinOp) : Type 0 where
  pub l : ℕ
  pub top : l ≤ 9
  pub loose : infix_precedence (plain op) ≡ suc l
  pub rank : operator_precedence op ≡ suc (suc (suc l))
  pub right : pred (operator_precedence op) ≡ suc (suc l)

pub loose_of : (op : BinOp) → Loose op
loose_of op =
    let h = low (level op) (bounds op) in
    record { l = 8 - level op; top = omega arith; loose = h; rank = omega (arith, h); right = omega (arith, h) }
  where
    bounds : (op : BinOp) → (1 ≤ level op) × (level op ≤ 8)
    bounds ops.Mul = (omega arith, omega arith)
    bounds _ = (omega arith, omega arith)

    low : (n : ℕ) → (1 ≤ n) × (n ≤ 8) → 9 - n ≡ suc (8 - n)
    low n h = let a = h.0 in let b = h.1 in omega arith

-- an operator and its operands, which are spelled without brackets round them
pub operands_back : {ts : List Token} (no_in : Bool) (op : BinOp) → InfixOperatorToken no_in (operator op) (plain op)
    → (a b : Expr)
    → Alone ts a → Alone ts b → (s : Span) (i j : ℕ) (line : Bool)
    → Spells ts i line (in_parens_unless (fits a (operator_precedence op)) (tokens_of_node a) ++
    (operator op ∷ in_parens_unless (fits b (pred (operator_precedence op))) (tokens_of_node b))) j
    → Quiet no_in (operator_precedence op) ts j
    → Back ts no_in (operator_precedence op) i (tree.binary op a b s) j
operands_back {ts} no_in op t a b back_a back_b s i j line h q =
    let e = loose_of op in
    subst (λ r. Back ts no_in r i (tree.binary op a b s) j) (sym e.rank)
    (infix_operator_back no_in e.l e.top (plain op) e.loose (operator op) t a b back_a back_b i j line
    (subst (λ r. Spells ts i line (in_parens_unless (fits a (suc (suc (suc e.l)))) (tokens_of_node a) ++
    (operator op ∷ in_parens_unless (fits b r) (tokens_of_node b))) j) e.right
    (subst (λ r. Spells ts i line (in_parens_unless (fits a r) (tokens_of_node a) ++
    (operator op ∷ in_parens_unless (fits b (pred (operator_precedence op))) (tokens_of_node b))) j) e.rank h))
    (subst (λ r. Quiet no_in r ts j) e.rank q) (λ x y s u. same_binary op a b x y s u) s)

pub binary_back : {ts : List Token} (no_in : Bool) (op : BinOp) (a b : Expr) → Alone ts a → Alone ts b → (s : Span)
    (i j : ℕ) (line : Bool) → Spells ts i line
    (in_parens_unless (not (is_in op)) (in_parens_unless (fits a (operator_precedence op)) (tokens_of_node a) ++
    (operator op ∷ in_parens_unless (fits b (pred (operator_precedence op))) (tokens_of_node b)))) j
    → Quiet no_in (precedence_of (tree.binary op a b s)) ts j
    → Back ts no_in (precedence_of (tree.binary op a b s)) i (tree.binary op a b s) j
binary_back {ts} no_in op a b back_a back_b s i j line = go (is_in op) refl
  where
    ks : List TokenKind
    ks = in_parens_unless (fits a (operator_precedence op)) (tokens_of_node a) ++
        (operator op ∷ in_parens_unless (fits b (pred (operator_precedence op))) (tokens_of_node b))

    is_the_in : (op : BinOp) → is_in op ≡ true → InfixOperatorToken false (operator op) (plain op)
    is_the_in ops.In h = in_token
    is_the_in _ h = cc

    inside : is_in op ≡ true → (i j : ℕ) (line : Bool) → Spells ts i line ks j → stops (terminal_at ts j) ≡ true
        → is_comma (terminal_at ts j) ≡ false → BackWhole ts false i (tree.binary op a b s) j
    inside e i j line h g c =
        let x = operands_back false op (is_the_in op e) a b back_a back_b s i j line h
        (quiet_stop false (operator_precedence op) g) in
        let r = loose_of op in
        let f = as_loose (operator_precedence op) 14 (omega (arith, r.rank, r.top)) (omega arith) x.is
        (quiet_stop false 14 g) in
        record { tree = x.tree; same = x.same; is = reads.whole_expression (to_expression f) c }

    go : (x : Bool) → is_in op ≡ x → Spells ts i line (in_parens_unless (not x) ks) j
        → Quiet no_in (if x then 0 else operator_precedence op) ts j
        → Back ts no_in (if x then 0 else operator_precedence op) i (tree.binary op a b s) j
    go true e h q =
        let p = enclosed (tree.binary op a b s) ks (inside e) i j line h in
        record { tree = p.tree; same = p.same; is = of_primary p.is }
    go false e h q = operands_back no_in op (binary_token no_in op e) a b back_a back_b s i j line h q

-- the callee of `new`: a name, or an expression in brackets
pub callee : {ts : List Token} (a : Expr) → WellFormed a → Alone ts a → (i j : ℕ) (line : Bool)
    → Spells ts i line (if is_name a then tokens_of_node a else in_parens (tokens_of_node a)) j → BackPrimary ts i a j
unfolding tokens_of_node
callee {ts} (tree.name t s) w alone i j line h =
    let u = tree.name (text_at ts i) (span ts i (suc i)) in
    record {
      tree = u;
      same = ap (λ x. tree.name x tt) (name_text h.0);
      is = subst (λ x. ReadsPrimary ts i u x) h.1 (reads.a_name (identifier w h.0));
    }
callee a w alone i j line h = bracketed a alone i j line h

pub record BackTarget (ts : List Token) (i : ℕ) (g : Tree Span tree.target) (j : ℕ) : Type 0 where
  pub value : Expr
  pub target : Tree Span tree.target
  pub same : skeleton target ≡ skeleton g
  pub is_target : IsTarget value target
  pub is : ReadsLeft ts true i value j

pub record BackArguments (ts : List Token) (i : ℕ) (us : Exprs) (j : ℕ) : Type 0 where
  pub trees : Exprs
  pub same : skeleton_forest trees ≡ skeleton_forest us
  pub is : ReadsArguments ts i trees j

-- an argument that is read, and those after it
pub record BackArgumentList (ts : List Token) (i : ℕ) (u : Expr) (us : Exprs) (j : ℕ) : Type 0 where
  pub trees : Exprs
  pub same : skeleton_forest trees ≡ skeleton_forest us
  pub is : ReadsArgumentList ts i (tree.more u trees) j

pub record BackItems (ts : List Token) (i : ℕ) (us : Forest Span tree.item) (j : ℕ) : Type 0 where
  pub items : Forest Span tree.item
  pub same : skeleton_forest items ≡ skeleton_forest us
  pub is : ReadsItems ts i items j

pub record BackEntry (ts : List Token) (i : ℕ) (e : Tree Span tree.entry) (j : ℕ) : Type 0 where
  pub entry : Tree Span tree.entry
  pub same : skeleton entry ≡ skeleton e
  pub is : ReadsEntry ts i entry j

pub record BackEntries (ts : List Token) (i : ℕ) (us : Forest Span tree.entry) (j : ℕ) : Type 0 where
  pub entries : Forest Span tree.entry
  pub same : skeleton_forest entries ≡ skeleton_forest us
  pub is : ReadsEntries ts i entries j

pub record BackFurtherEntries (ts : List Token) (i : ℕ) (u : Tree Span tree.entry) (us : Forest Span tree.entry)
    (j : ℕ) : Type 0 where
  pub entries : Forest Span tree.entry
  pub same : skeleton_forest entries ≡ skeleton_forest us
  pub is : ReadsEntries ts i (tree.more u entries) j

pub record BackRest (ts : List Token) (i : ℕ) (ps : List (Ident Span)) (c : Code) (j : ℕ) : Type 0 where
  pub names : List (Ident Span)
  pub code : Code
  pub same_names : map named names ≡ map named ps
  pub same : skeleton code ≡ skeleton c
  pub is : ReadsRest ts i names code j

pub record BackBody (ts : List Token) (i : ℕ) (c : Code) (j : ℕ) : Type 0 where
  pub code : Code
  pub same : skeleton code ≡ skeleton c
  pub is : ReadsBody ts i code j

-- a function body that is written in braces is read again
abbrev pub BodyAlone : List Token → Code → Type 0
BodyAlone ts c = (i j : ℕ) (line : Bool) → Spells ts i line (tokens_of_node c) j → ends_list (terminal_at ts j) ≡ true
    → BackBody ts i c j

pub rest_back : {ts : List Token} (ps : List (Ident Span)) (c : Code) → AreIdentifiers ps → BodyAlone ts c → (i j : ℕ)
    (line : Bool) → Spells ts i line (parameters ps ++ within_braces (tokens_of_node c)) j → BackRest ts i ps c j
rest_back {ts} ps c w body i j line h =
    let p = parts ts i line (parameters ps) (within_braces (tokens_of_node c)) j h in
    let x = back_parameters ts ps w i p.middle line p.first in
    let r = parts ts (suc p.middle) true (tokens_of_node c) (punct puncts.RightBrace ∷ []) j p.second.1 in
    let e = at r.second.0 in
    let y = body (suc p.middle) r.middle true r.first (ap ends_list e.is) in
    record {
      names = x.names;
      code = y.code;
      same_names = x.same;
      same = y.same;
      is = subst (λ n. ReadsRest ts i x.names y.code n) r.second.1
          (reads.a_rest (opens i p.middle line ps p.first) x.is (at p.second.0) y.is e);
    }
  where
    opens : (i m : ℕ) (line : Bool) (ps : List (Ident Span)) → Spells ts i line (parameters ps) m → At ts i open_paren
    opens i m line [] s = at s.0
    opens i m line (p ∷ ps) s = at s.0

pub quiet_question : {ts : List Token} {j : ℕ} {no_in line : Bool} → Spelled ts j line (punct puncts.Question)
    → Quiet no_in 12 ts j
quiet_question {ts} {j} {no_in} s = record {
  left = λ g. ap (continues_left true) (at s).is;
  update = λ g. ap (λ k. updates k && not (line_at ts j)) (at s).is;
  operator = ap (continues no_in 9) (at s).is;
  question = λ g. absurd (omega arith);
  assigns = λ g. absurd (omega arith);
}

pub same_conditional : (x a y b z c : Expr) → skeleton x ≡ skeleton a → skeleton y ≡ skeleton b
    → skeleton z ≡ skeleton c
    → tree.conditional (skeleton x) (skeleton y) (skeleton z) tt
    ≡ tree.conditional (skeleton a) (skeleton b) (skeleton c) tt
same_conditional x a y b z c h g k = cc

pub target_up_to : {ts : List Token} {i m j : ℕ} {g : Tree Span tree.target} → BackTarget ts i g m → m ≡ j
    → BackTarget ts i g j
target_up_to {ts} {i} {m} {j} {g} b e = subst (λ x. BackTarget ts i g x) e b

pub no_names : (names : List (Ident Span)) → map named names ≡ [] → names ≡ []
no_names [] e = refl
no_names (p ∷ ps) e = cc

pub record OneName (names : List (Ident Span)) (p : Ident Span) : Type 0 where
  pub name : Ident Span
  pub same : named name ≡ named p
  pub is : names ≡ name ∷ []

pub one_name : (names : List (Ident Span)) (p : Ident Span) → map named names ≡ named p ∷ [] → OneName names p
one_name [] p e = absurd (cc)
one_name (x ∷ []) p e = record { name = x; same = cc; is = refl }
one_name (x ∷ y ∷ ps) p e = absurd (cc)

pub same_setter : (k l p q : Ident Span) (c d : Code) → named k ≡ named l → named p ≡ named q → skeleton c ≡ skeleton d
    → tree.setter (named k) (tree.function 0 None (named p ∷ []) (skeleton c) tt)
    ≡ tree.setter (named l) (tree.function 0 None (named q ∷ []) (skeleton d) tt)
same_setter k l p q c d h g e = cc

pub record BackDeclaration (ts : List Token) (no_in : Bool) (i : ℕ) (d : Tree Span tree.decl) (j : ℕ) : Type 0 where
  pub declaration : Tree Span tree.decl
  pub same : skeleton declaration ≡ skeleton d
  pub is : ReadsDeclaration ts no_in i declaration j

pub record BackDeclarations (ts : List Token) (no_in : Bool) (i : ℕ) (ds : Forest Span tree.decl) (j : ℕ) : Type 0 where
  pub declarations : Forest Span tree.decl
  pub same : skeleton_forest declarations ≡ skeleton_forest ds
  pub is : ReadsDeclarations ts no_in i declarations j

pub record BackFurtherDeclarations (ts : List Token) (no_in : Bool) (i : ℕ) (u : Tree Span tree.decl)
    (us : Forest Span tree.decl) (j : ℕ) : Type 0 where
  pub declarations : Forest Span tree.decl
  pub same : skeleton_forest declarations ≡ skeleton_forest us
  pub is : ReadsDeclarations ts no_in i (tree.more u declarations) j

pub record BackBlock (ts : List Token) (i : ℕ) (ws : Stmts) (j : ℕ) : Type 0 where
  pub statements : Stmts
  pub same : skeleton_forest statements ≡ skeleton_forest ws
  pub is : ReadsBlock ts i statements j

pub record BackStatements (ts : List Token) (i : ℕ) (ws : Stmts) (j : ℕ) : Type 0 where
  pub statements : Stmts
  pub same : skeleton_forest statements ≡ skeleton_forest ws
  pub is : ReadsStatements ts i statements j

-- what stands after an element of a list, up to a token that ends expressions, is a comma or that token
module _ (ts : List Token) where
  pub arguments_stop : (r : Exprs) (m j : ℕ) (line : Bool) → Spells ts m line (further_arguments r) j
      → stops (terminal_at ts j) ≡ true → stops (terminal_at ts m) ≡ true
  unfolding tokens_of_node
  arguments_stop tree.end m j line h c = subst (λ n. stops (terminal_at ts n) ≡ true) (sym h) c
  arguments_stop (tree.more t r) m j line h c = ap stops (at h.0).is

  pub further_stop : {x : Sort} (r : Forest Span x) (m j : ℕ) (line : Bool) → Spells ts m line (further r) j
      → stops (terminal_at ts j) ≡ true → stops (terminal_at ts m) ≡ true
  unfolding tokens_of_node
  further_stop tree.end m j line h c = subst (λ n. stops (terminal_at ts n) ≡ true) (sym h) c
  further_stop (tree.more t r) m j line h c = ap stops (at h.0).is

  pub items_stop : (t : Expr) (r : Forest Span tree.item) (m j : ℕ) (line : Bool)
      → Spells ts m line (items_after (tree.filled t) r) j → stops (terminal_at ts j) ≡ true → stops (terminal_at ts m)
      ≡ true
  unfolding tokens_of_node
  items_stop t tree.end m j line h c = subst (λ n. stops (terminal_at ts n) ≡ true) (sym h) c
  items_stop t (tree.more u r) m j line h c = ap stops (at h.0).is

pub no_equals : (k : Terminal) → stops k ≡ true → is_equals k ≡ false
no_equals (terminals.Punct puncts.Assign) h = cc
no_equals _ h = refl

pub record BackHead (ts : List Token) (i : ℕ) (t : Expr) (j : ℕ) : Type 0 where
  pub value : Expr
  pub same : skeleton value ≡ skeleton t
  pub is : ReadsHead ts i value j

pub record BackInit (ts : List Token) (i : ℕ) (t : Tree Span tree.init) (j : ℕ) : Type 0 where
  pub init : Tree Span tree.init
  pub same : skeleton init ≡ skeleton t
  pub is : ReadsInit ts i init j

pub record BackOptional (ts : List Token) (k : Terminal) (i : ℕ) (t : OptionalTree Span tree.expr) (j : ℕ) : Type
    0 where
  pub optional : OptionalTree Span tree.expr
  pub same : skeleton_optional optional ≡ skeleton_optional t
  pub is : ReadsOptional ts k i optional j

pub record BackStatement (ts : List Token) (i : ℕ) (w : Stmt) (j : ℕ) : Type 0 where
  pub statement : Stmt
  pub same : skeleton statement ≡ skeleton w
  pub is : ReadsStatement ts i statement j

pub record BackHandler (ts : List Token) (i : ℕ) (t : Tree Span tree.handler) (j : ℕ) : Type 0 where
  pub handler : Tree Span tree.handler
  pub same : skeleton handler ≡ skeleton t
  pub is : ReadsCatch ts i handler j

pub record BackClauses (ts : List Token) (fresh : Bool) (i : ℕ) (cs : Forest Span tree.clause) (j : ℕ) : Type 0 where
  pub clauses : Forest Span tree.clause
  pub same : skeleton_forest clauses ≡ skeleton_forest cs
  pub is : ReadsClauses ts fresh i clauses j

pub record BackElements (ts : List Token) (i : ℕ) (fs : Forest Span tree.func) (ws : Stmts) (j : ℕ) : Type 0 where
  pub functions : Forest Span tree.func
  pub statements : Stmts
  pub same_functions : skeleton_forest functions ≡ skeleton_forest fs
  pub same : skeleton_forest statements ≡ skeleton_forest ws
  pub is : ReadsElements ts i functions statements j
  pub opens : is_directive ts i ≡ false

pub statement_up_to : {ts : List Token} {i m j : ℕ} {w : Stmt} → BackStatement ts i w m → m ≡ j → BackStatement ts i w j
statement_up_to {ts} {i} {m} {j} {w} b e = subst (λ x. BackStatement ts i w x) e b

pub head_back : {ts : List Token} (t : Expr) → Alone ts t → (i j : ℕ) (line : Bool)
    → Spells ts i line (in_parens (tokens_of_node t)) j → BackHead ts i t j
head_back {ts} t alone i j line h =
    let p = parts ts (suc i) false (tokens_of_node t) (punct puncts.RightParen ∷ []) j h.1 in
    let c = at p.second.0 in
    let x = whole t alone false (suc i) p.middle false p.first (ap stops c.is) (ap is_comma c.is) in
    record {
      value = x.tree;
      same = x.same;
      is = subst (λ n. ReadsHead ts i x.tree n) p.second.1 (reads.a_head (at h.0) x.is c);
    }

pub same_case : (x a : Expr) (y b : Stmts) (z c : Forest Span tree.clause) → skeleton x ≡ skeleton a
    → skeleton_forest y ≡ skeleton_forest b → skeleton_forest z ≡ skeleton_forest c
    → tree.more (tree.case (tree.present (skeleton x)) (skeleton_forest y)) (skeleton_forest z)
    ≡ tree.more (tree.case (tree.present (skeleton a)) (skeleton_forest b)) (skeleton_forest c)
same_case x a y b z c h g e = cc

pub same_when : (x a : Expr) (y b z c : Stmts) → skeleton x ≡ skeleton a → skeleton_forest y ≡ skeleton_forest b
    → skeleton_forest z ≡ skeleton_forest c
    → tree.if_else (skeleton x) (skeleton_forest y) (tree.present (tree.branch_of (skeleton_forest z))) tt
    ≡ tree.if_else (skeleton a) (skeleton_forest b) (tree.present (tree.branch_of (skeleton_forest c))) tt
same_when x a y b z c h g e = cc

pub same_for : (x a : Tree Span tree.init) (y b z c : OptionalTree Span tree.expr) (u d : Stmts)
    → skeleton x ≡ skeleton a
    → skeleton_optional y ≡ skeleton_optional b → skeleton_optional z ≡ skeleton_optional c
    → skeleton_forest u ≡ skeleton_forest d
    → tree.for (skeleton x) (skeleton_optional y) (skeleton_optional z) (skeleton_forest u) tt
    ≡ tree.for (skeleton a) (skeleton_optional b) (skeleton_optional c) (skeleton_forest d) tt
same_for x a y b z c u d h g e f = cc

pub same_for_in : (is_var : Bool) (k l : Ident Span) (x a : Expr) (y b : Stmts) → named k ≡ named l
    → skeleton x ≡ skeleton a → skeleton_forest y ≡ skeleton_forest b
    → tree.for_in is_var (named k) (skeleton x) (skeleton_forest y) tt
    ≡ tree.for_in is_var (named l) (skeleton a) (skeleton_forest b) tt
same_for_in is_var k l x a y b h g e = cc

pub same_try : (y b : Stmts) (x a : Tree Span tree.handler) (z c : Stmts) → skeleton_forest y ≡ skeleton_forest b
    → skeleton x ≡ skeleton a → skeleton_forest z ≡ skeleton_forest c
    → tree.try (skeleton_forest y) (tree.present (skeleton x)) (tree.present (tree.branch_of (skeleton_forest z))) tt
    ≡ tree.try (skeleton_forest b) (tree.present (skeleton a)) (tree.present (tree.branch_of (skeleton_forest c))) tt
same_try y b x a z c h g e = cc

-- an expression statement: in brackets where it would be read otherwise
pub expression_statement : {ts : List Token} (a : Expr) → Alone ts a → (s : Span) (i j : ℕ) (line : Bool)
    → Spells ts i line (in_parens_unless (not (begins_otherwise (tokens_of_node a) || is_string a)) (tokens_of_node a)
    ++
    punct puncts.Semicolon ∷ []) j → BackStatement ts i (tree.expression a s) j
expression_statement {ts} a alone s i j line h = go (begins_otherwise (tokens_of_node a)) (is_string a) refl h
  where
    in_brackets : Spells ts i line (in_parens (tokens_of_node a) ++ punct puncts.Semicolon ∷ []) j
        → BackStatement ts i (tree.expression a s) j
    in_brackets h =
        let p = parts ts i line (in_parens (tokens_of_node a)) (punct puncts.Semicolon ∷ []) j h in
        let k = at p.second.0 in
        let c = at p.first.0 in
        let x = bracketed a alone i p.middle line p.first in
        let f = as_loose 0 14 (omega arith) (omega arith) (of_primary x.is) (quiet_stop false 14 (ap stops k.is)) in
        let e = reads.whole_expression (to_expression f) (ap is_comma k.is) in
        statement_up_to (record {
          statement = tree.expression x.tree (span ts i (suc p.middle));
          same = ap (λ x. tree.expression x tt) x.same;
          is = reads.an_expression (ap bars_expression c.is) (no_label e (ap is_colon k.is)) e (there k);
        }) p.second.1

    go : (b c : Bool) → begins_otherwise (tokens_of_node a) ≡ b
        → Spells ts i line (in_parens_unless (not (b || c)) (tokens_of_node a) ++ punct puncts.Semicolon ∷ []) j
        → BackStatement ts i (tree.expression a s) j
    go false false e h =
        let p = parts ts i line (tokens_of_node a) (punct puncts.Semicolon ∷ []) j h in
        let k = at p.second.0 in
        let x = whole a alone false i p.middle line p.first (ap stops k.is) (ap is_comma k.is) in
        statement_up_to (record {
          statement = tree.expression x.tree (span ts i (suc p.middle));
          same = ap (λ x. tree.expression x tt) x.same;
          is = reads.an_expression (begins_so ts line (tokens_of_node a) p.first (expression_goes x.is) e)
              (no_label x.is (ap is_colon k.is)) x.is (there k);
        }) p.second.1
    go true c e h = in_brackets h
    go false true e h = in_brackets h

-- statements in braces
abbrev pub StatementsAlone : List Token → Stmts → Type 0
StatementsAlone ts ws = (i j : ℕ) (line : Bool) → Spells ts i line (tokens_of_all ws) j → ends_list (terminal_at ts j)
    ≡ true
    → BackStatements ts i ws j

pub block_back : {ts : List Token} (ws : Stmts) → StatementsAlone ts ws → (i j : ℕ) (line : Bool)
    → Spells ts i line (within_braces (tokens_of_all ws)) j → BackBlock ts i ws j
block_back {ts} ws alone i j line h =
    let p = parts ts (suc i) true (tokens_of_all ws) (punct puncts.RightBrace ∷ []) j h.1 in
    let e = at p.second.0 in
    let x = alone (suc i) p.middle true p.first (ap ends_list e.is) in
    record {
      statements = x.statements;
      same = x.same;
      is = subst (λ n. ReadsBlock ts i x.statements n) p.second.1 (reads.in_braces (at h.0) x.is e);
    }

pub same_declaration : (k l : Ident Span) (ps qs : List (Ident Span)) (c d : Code) (fs gs : Forest Span tree.func)
    → named k ≡ named l → map named ps ≡ map named qs → skeleton c ≡ skeleton d
    → skeleton_forest fs ≡ skeleton_forest gs
    → tree.more (tree.function 0 (Some (named k)) (map named ps) (skeleton c) tt) (skeleton_forest fs)
    ≡ tree.more (tree.function 0 (Some (named l)) (map named qs) (skeleton d) tt) (skeleton_forest gs)
same_declaration k l ps qs c d fs gs h g e f = cc

-- Where no directive stands: where a list ends, before a function, and before a statement, since a string alone is
-- written in brackets.
pub end_is_no_string : (k : Terminal) → ends_list k ≡ true → is_string_token k ≡ false
end_is_no_string terminals.Str h = cc
end_is_no_string _ h = refl

pub no_directive_at_end : (ts : List Token) (i : ℕ) → ends_list (terminal_at ts i) ≡ true → is_directive ts i ≡ false
no_directive_at_end ts i e = ap (λ b. b && not (continues_at ts (suc i))) (end_is_no_string (terminal_at ts i) e)

pub no_directive_at_function : (ts : List Token) (i : ℕ) → At ts i (keyword words.Function) → is_directive ts i ≡ false
no_directive_at_function ts i a = ap (λ k. is_string_token k && not (continues_at ts (suc i))) a.is

pub not_both : (k : Terminal) → k ≡ terminals.Str → k ≡ terminals.Punct puncts.LeftParen → ⊥
not_both k h g = differ (sym h ∙ g)
  where
    differ : terminals.Str ≡ terminals.Punct puncts.LeftParen → ⊥
    differ e = cc

pub string_in_brackets : {ts : List Token} (w : Stmt) (i m : ℕ) (line : Bool) → Spells ts i line (tokens_of_node w) m
    → (t : Text) → skeleton w ≡ tree.expression (tree.string t tt) tt → At ts i terminals.Str → ⊥
unfolding tokens_of_node
string_in_brackets {ts} (tree.expression (tree.string u r) s) i m line h t e a =
    not_both (terminal_at ts i) a.is (at h.0).is
string_in_brackets (tree.expression (tree.this r) s) i m line h t e a = cc
string_in_brackets (tree.expression (tree.name u r) s) i m line h t e a = cc
string_in_brackets (tree.expression _ s) i m line h t e a = cc
string_in_brackets _ i m line h t e a = cc

pub no_directive_before : {ts : List Token} (w : Stmt) (i m : ℕ) (line : Bool) → Spells ts i line (tokens_of_node w) m
    → BackStatement ts i w m → is_directive ts i ≡ false
no_directive_before {ts} w i m line h x = go (is_directive ts i) refl
  where
    alone : IsAlone ts i x.statement m → ⊥
    alone a = string_in_brackets w i m line h (text_at ts i) (sym x.same ∙ ap skeleton a.is) a.string

    go : (b : Bool) → is_directive ts i ≡ b → is_directive ts i ≡ false
    go false e = e
    go true e = absurd (alone ((directives_are_alone ts i x.statement m x.is).0 e))

pub stops_directive : {ts : List Token} {i : ℕ} → At ts i semicolon → continues_at ts i ≡ false
stops_directive a = rw a.is refl

pub is_strict : {ts : List Token} {i : ℕ} {line : Bool} → Spelled ts i line (string (codes "use strict"))
    → (strict_at ts i || false) ≡ true
is_strict {ts} {i} s = ap (λ b. b || false) (strict_spelled ts i (string (codes "use strict")) s.kind)

pub line_of_target : (g : Tree Span tree.target) (line : Bool) → line_after line (tokens_of_node g) ≡ false
unfolding tokens_of_node
line_of_target (tree.to_name x) line = refl
line_of_target (tree.to_dot a t s) line =
    line_append line (in_parens_unless (fits a 0) (tokens_of_node a)) (punct puncts.Dot ∷ name t ∷ [])
line_of_target (tree.to_index a b s) line =
    line_append line (in_parens_unless (fits a 0) (tokens_of_node a))
    (punct puncts.LeftBracket ∷ (tokens_of_node b ++ punct puncts.RightBracket ∷ [])) ∙
    line_append false (tokens_of_node b) (punct puncts.RightBracket ∷ [])
