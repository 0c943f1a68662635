-- A turn of each loop that reads a list of parts, in the words of its code.
use Rattle.std.proofs.Common.{◌≡◌, ◌≢◌, ℕ, zero, suc, ◌-◌, Bool, true, false, ◌&&◌, ◌||◌, refl, arith}
use Rattle.std.proofs.Common.{ap, ◌∙◌, sym, map, List, [], ◌∷◌, ◌++◌, length, append_assoc as list_assoc}
use Rattle.std.specs.Prelude.{Option, Some, None, if◌then◌else◌}
use Rattle.jl_text.specs.declared.span.Span.{Span}
use Rattle.jl_token.specs.declared.token.Token.{Token}
use Rattle.jl_ast.specs.declared.tree.Case.{Case as CodeCase}
use Rattle.jl_ast.specs.declared.tree.Entry.{Entry as CodeEntry}
use Rattle.jl_ast.specs.declared.tree.Expr.{Expr as CodeExpr}
use Rattle.jl_ast.specs.declared.tree.Function.{Function as CodeFunction}
use Rattle.jl_ast.specs.declared.tree.Ident.{Ident as CodeIdent}
use Rattle.jl_ast.specs.declared.tree.Stmt.{Stmt as CodeStmt}
use Rattle.jl_ast.specs.Tree.{Ident, Tree, Forest}
use Rattle.jl_ast.specs.Tree as tree
use Rattle.jl_ast.specs.View.{view_case, view_cases, view_declarator, view_declarators, view_entries, view_entry}
use Rattle.jl_ast.specs.View.{view_function, view_functions, view_ident, view_statement, view_statements}
use Rattle.jl_grammar.specs.Next.{ends_list, is_colon, is_comma, is_directive, is_identifier, is_key}
use Rattle.jl_grammar.specs.Reader.{◌>>=◌, Deeper, Read, body_from, clauses_from, declaration_at, declarations_from}
use Rattle.jl_grammar.specs.Reader.{elements_from, entries_from, entry_at, getter_by, is_case, is_close_brace}
use Rattle.jl_grammar.specs.Reader.{is_close_paren, is_default, is_function, names_from, setter_by, statements_from}
use Rattle.jl_grammar.specs.Reader.{accessor_at, succeed, ends_at, node, rest_at, with_directive}
use Rattle.jl_grammar.specs.Reads.{Code, Stmt, Stmts}
use Rattle.jl_grammar.specs.Tokens.{ident_at, key_ident_at, terminal_at, span, strict_at}
use Rattle.jl_parse.specs.inner.Steps.{append, clause_of, declaration_of, with_elements}
use Rattle.jl_parse.proofs.Rows.{append_assoc, append_end, made_none, made_on, made_some, regroup, then_on, with_end}
use Rattle.jl_parse.proofs.Rows.{with_forest}

pub statements_push : (l : List CodeStmt) (e : CodeStmt)
    → view_statements (l ++ (e ∷ [])) ≡ append (view_statements l) (tree.more (view_statement e) tree.end)
statements_push [] e = refl
statements_push (x ∷ l) e = ap (tree.more (view_statement x)) (statements_push l e)

pub functions_push : (l : List CodeFunction) (e : CodeFunction)
    → view_functions (l ++ (e ∷ [])) ≡ append (view_functions l) (tree.more (view_function e) tree.end)
functions_push [] e = refl
functions_push (x ∷ l) e = ap (tree.more (view_function x)) (functions_push l e)

pub entries_push : (l : List CodeEntry) (e : CodeEntry)
    → view_entries (l ++ (e ∷ [])) ≡ append (view_entries l) (tree.more (view_entry e) tree.end)
entries_push [] e = refl
entries_push (x ∷ l) e = ap (tree.more (view_entry x)) (entries_push l e)

pub cases_push : (l : List CodeCase) (e : CodeCase)
    → view_cases (l ++ (e ∷ [])) ≡ append (view_cases l) (tree.more (view_case e) tree.end)
cases_push [] e = refl
cases_push (x ∷ l) e = ap (tree.more (view_case x)) (cases_push l e)

pub declarators_push : (l : List (CodeIdent × Option CodeExpr)) (e : CodeIdent × Option CodeExpr)
    → view_declarators (l ++ (e ∷ [])) ≡ append (view_declarators l) (tree.more (view_declarator e) tree.end)
declarators_push [] e = refl
declarators_push (x ∷ l) e = ap (tree.more (view_declarator x)) (declarators_push l e)

pub idents_push : (l : List CodeIdent) (e : CodeIdent)
    → map view_ident (l ++ (e ∷ [])) ≡ map view_ident l ++ (view_ident e ∷ [])
idents_push [] e = refl
idents_push (x ∷ l) e = ap (λ r. view_ident x ∷ r) (idents_push l e)

-- what is read after a list of names
abbrev pub with_list : List (Ident Span) → Read (List (Ident Span)) → Read (List (Ident Span))
with_list a None = None
with_list a (Some r) = Some (a ++ r.0, r.1)

pub with_nil : (o : Read (List (Ident Span))) → with_list [] o ≡ o
with_nil None = refl
with_nil (Some r) = refl

relist : (a : List (Ident Span)) (t : Ident Span) (o : Read (List (Ident Span)))
    → with_list a (o >>= λ r. Some (t ∷ r.0, r.1)) ≡ with_list (a ++ (t ∷ [])) o
relist a t None = refl
relist a t (Some r) = ap (λ (b : List (Ident Span)). Some (b, r.1)) (sym (list_assoc a (t ∷ []) r.0))

-- what is read of a body after directives, of which one makes it strict
abbrev pub with_body : Bool → Read Code → Read Code
with_body strict None = None
with_body strict (Some r) = Some (with_directive strict r.0, r.1)

is_alone : (c : Code) → with_directive false c ≡ c
is_alone (tree.body s fs us) = refl

pub with_no_body : (o : Read Code) → with_body false o ≡ o
with_no_body None = refl
with_no_body (Some r) = ap (λ (c : Code). Some (c, r.1)) (is_alone r.0)

if_then : {A B C : Type 0} (b : Bool) (o : Read A) (f : A → ℕ → B) (go : B → ℕ → Option C)
    → (if b then (o >>= λ x. go (f x.0 x.1) x.1) else None)
    ≡ then_on (if b then (o >>= λ x. Some (f x.0 x.1, x.1)) else None) go
if_then false o f go = refl
if_then true None f go = refl
if_then true (Some x) f go = refl

then_if : {A B C D : Type 0} (o : Read D) (b : ℕ → Bool) (s : ℕ → Read A) (f : D → A → ℕ → B) (go : B → ℕ → Option C)
    → (o >>= λ t. if b t.1 then (s t.1 >>= λ x. go (f t.0 x.0 x.1) x.1) else None)
    ≡ then_on (o >>= λ t. if b t.1 then (s t.1 >>= λ x. Some (f t.0 x.0 x.1, x.1)) else None) go
then_if None b s f go = refl
then_if (Some t) b s f go = if_then (b t.1) (s t.1) (f t.0) go

if_made : {A C : Type 0} {x : tree.Sort} (b : Bool) (o : Read A) (most : ℕ) (f : A → ℕ → Tree Span x)
    (go : Tree Span x → ℕ → Option C)
    → (if b then (o >>= λ x. node most (f x.0 x.1) x.1 go) else None)
    ≡ then_on (if b then (o >>= λ x. node most (f x.0 x.1) x.1 succeed) else None) go
if_made false o most f go = refl
if_made true None most f go = refl
if_made true (Some x) most f go = made_on most (f x.0 x.1) x.1 go

append_ends : (strict : Bool) (fs : Forest Span tree.func) (ws : Stmts)
    → tree.body strict (append fs tree.end) (append ws tree.end) ≡ tree.body strict fs ws
append_ends strict fs ws =
    ap (λ (a : Forest Span tree.func). tree.body strict a (append ws tree.end)) (append_end fs)
    ∙ ap (λ (a : Stmts). tree.body strict fs a) (append_end ws)

after_function : (strict : Bool) (fs : Forest Span tree.func) (ws : Stmts) (f : Tree Span tree.func)
    (o : Read (Forest Span tree.func × Stmts))
    → with_elements strict fs ws (o >>= λ r. Some ((tree.more f r.0.0, r.0.1), r.1))
    ≡ with_elements strict (append fs (tree.more f tree.end)) ws o
after_function strict fs ws f None = refl
after_function strict fs ws f (Some r) =
    ap (λ (a : Forest Span tree.func). Some (tree.body strict a (append ws r.0.1), r.1))
    (sym (append_assoc fs (tree.more f tree.end) r.0.0))

after_statement : (strict : Bool) (fs : Forest Span tree.func) (ws : Stmts) (w : Stmt)
    (o : Read (Forest Span tree.func × Stmts))
    → with_elements strict fs ws (o >>= λ r. Some ((r.0.0, tree.more w r.0.1), r.1))
    ≡ with_elements strict fs (append ws (tree.more w tree.end)) o
after_statement strict fs ws w None = refl
after_statement strict fs ws w (Some r) =
    ap (λ (a : Stmts). Some (tree.body strict (append fs r.0.0) a, r.1))
    (sym (append_assoc ws (tree.more w tree.end) r.0.1))

or_assoc : (a b c : Bool) → (a || (b || c)) ≡ ((a || b) || c)
or_assoc true b c = refl
or_assoc false b c = refl

both_directives : (s strict : Bool) (c : Code)
    → with_directive s (with_directive strict c) ≡ with_directive (s || strict) c
both_directives s strict (tree.body b fs us) = ap (λ (x : Bool). tree.body x fs us) (or_assoc s strict b)

after_directive : (s strict : Bool) (o : Read Code)
    → with_body s (o >>= λ r. Some (with_directive strict r.0, r.1)) ≡ with_body (s || strict) o
after_directive s strict None = refl
after_directive s strict (Some r) = ap (λ (c : Code). Some (c, r.1)) (both_directives s strict r.0)

or_false : (s : Bool) → (s || false) ≡ s
or_false true = refl
or_false false = refl

no_directives : (s : Bool) (o : Read (Forest Span tree.func × Stmts))
    → with_body s (o >>= λ x. Some (tree.body false x.0.0 x.0.1, x.1)) ≡ with_elements s tree.end tree.end o
no_directives s None = refl
no_directives s (Some r) = ap (λ (b : Bool). Some (tree.body b r.0.0 r.0.1, r.1)) (or_false s)

module _ (ts : List Token) (d : Deeper) where
  -- statements

  pub statements_stop : (ls : Stmts) (n i : ℕ) → ends_list (terminal_at ts i) ≡ true
      → with_forest ls (statements_from ts d n i) ≡ Some (ls, i)
  unfolding statements_from
  statements_stop ls zero i e = rw (e, statements_from) (ap (λ (a : Stmts). Some (a, i)) (append_end ls))
  statements_stop ls (suc n) i e = rw (e, statements_from) (ap (λ (a : Stmts). Some (a, i)) (append_end ls))

  pub statements_none : (ls : Stmts) (n i : ℕ) → n ≡ 0 → ends_list (terminal_at ts i) ≡ false
      → with_forest ls (statements_from ts d n i) ≡ None
  unfolding statements_from
  statements_none ls zero i q e = rw (e, statements_from)
  statements_none ls (suc n) i q e = absurd (omega arith)

  pub statements_fails : (ls : Stmts) (n i : ℕ) → ends_list (terminal_at ts i) ≡ false → d.statement i ≡ None
      → with_forest ls (statements_from ts d n i) ≡ None
  unfolding statements_from
  statements_fails ls zero i e q = rw (e, statements_from)
  statements_fails ls (suc n) i e q = rw (e, q, statements_from)

  pub statements_more : (ls : Stmts) (n i : ℕ) (w : Stmt) (j : ℕ) → n ≢ 0 → ends_list (terminal_at ts i) ≡ false
      → d.statement i ≡ Some (w, j)
      → with_forest ls (statements_from ts d n i)
      ≡ with_forest (append ls (tree.more w tree.end)) (statements_from ts d (n - 1) j)
  unfolding statements_from
  statements_more ls zero i w j h e q = absurd (h refl)
  statements_more ls (suc n) i w j h e q =
      let g : suc n - 1 ≡ n = omega arith in rw (g, e, q, statements_from) (regroup ls w (statements_from ts d n j))

  -- variables

  pub declarations_none : (no_in : Bool) (ls : Forest Span tree.decl) (n i : ℕ) → n ≡ 0
      → with_forest ls (declarations_from ts d no_in n i) ≡ None
  unfolding declarations_from
  declarations_none no_in ls zero i q = refl
  declarations_none no_in ls (suc n) i q = absurd (omega arith)

  pub declarations_fails : (no_in : Bool) (ls : Forest Span tree.decl) (n i : ℕ) → declaration_at ts d no_in i ≡ None
      → with_forest ls (declarations_from ts d no_in n i) ≡ None
  unfolding declarations_from
  declarations_fails no_in ls zero i q = refl
  declarations_fails no_in ls (suc n) i q = rw (q, declarations_from)

  pub declarations_last : (no_in : Bool) (ls : Forest Span tree.decl) (n i : ℕ) (t : Tree Span tree.decl) (j : ℕ)
      → n ≢ 0
      → declaration_at ts d no_in i ≡ Some (t, j) → is_comma (terminal_at ts j) ≡ false
      → with_forest ls (declarations_from ts d no_in n i) ≡ Some (append ls (tree.more t tree.end), j)
  unfolding declarations_from
  declarations_last no_in ls zero i t j h q e = absurd (h refl)
  declarations_last no_in ls (suc n) i t j h q e = rw (q, e, declarations_from)

  pub declarations_more : (no_in : Bool) (ls : Forest Span tree.decl) (n i : ℕ) (t : Tree Span tree.decl) (j : ℕ)
      → n ≢ 0
      → declaration_at ts d no_in i ≡ Some (t, j) → is_comma (terminal_at ts j) ≡ true
      → with_forest ls (declarations_from ts d no_in n i)
      ≡ with_forest (append ls (tree.more t tree.end)) (declarations_from ts d no_in (n - 1) (suc j))
  unfolding declarations_from
  declarations_more no_in ls zero i t j h q e = absurd (h refl)
  declarations_more no_in ls (suc n) i t j h q e =
      let g : suc n - 1 ≡ n = omega arith in
      rw (g, q, e, declarations_from) (regroup ls t (declarations_from ts d no_in n (suc j)))

  -- the clauses of a switch

  abbrev after_clause : ℕ → Bool → Tree Span tree.clause → ℕ → Read (Forest Span tree.clause)
  after_clause n fresh c j = clauses_from ts d n fresh j >>= λ r. Some (tree.more c r.0, r.1)

  clauses_turn : (n : ℕ) (fresh : Bool) (i : ℕ) → is_close_brace (terminal_at ts i) ≡ false
      → clauses_from ts d (suc n) fresh i
      ≡ then_on (clause_of ts d fresh i) (after_clause n (fresh && is_case (terminal_at ts i)))
  unfolding clauses_from clause_of
  clauses_turn n fresh i h = turn fresh (is_case (terminal_at ts i)) refl
    where
      turn : (fresh : Bool) (b : Bool) → is_case (terminal_at ts i) ≡ b → clauses_from ts d (suc n) fresh i
          ≡ then_on (clause_of ts d fresh i) (after_clause n (fresh && is_case (terminal_at ts i)))
      turn false true e =
          rw (h, e, clauses_from, clause_of) (then_if (d.expression false (suc i)) (λ j. is_colon (terminal_at ts j))
          (λ j. statements_from ts d (length ts) (suc j)) (λ t x j. tree.case (tree.present t) x)
          (after_clause n false))
      turn true true e =
          rw (h, e, clauses_from, clause_of) (then_if (d.expression false (suc i)) (λ j. is_colon (terminal_at ts j))
          (λ j. statements_from ts d (length ts) (suc j)) (λ t x j. tree.case (tree.present t) x) (after_clause n true))
      turn false false e =
          rw (h, e, clauses_from, clause_of)
          (if_then (is_default (terminal_at ts i) && (false && is_colon (terminal_at ts (suc i))))
          (statements_from ts d (length ts) (suc (suc i))) (λ x j. tree.case tree.absent x) (after_clause n false))
      turn true false e =
          rw (h, e, clauses_from, clause_of)
          (if_then (is_default (terminal_at ts i) && (true && is_colon (terminal_at ts (suc i))))
          (statements_from ts d (length ts) (suc (suc i))) (λ x j. tree.case tree.absent x) (after_clause n false))

  pub clauses_stop : (ls : Forest Span tree.clause) (n : ℕ) (fresh : Bool) (i : ℕ) → is_close_brace (terminal_at ts i)
      ≡ true
      → with_forest ls (clauses_from ts d n fresh i) ≡ Some (ls, i)
  unfolding clauses_from
  clauses_stop ls zero fresh i e =
      rw (e, clauses_from) (ap (λ (a : Forest Span tree.clause). Some (a, i)) (append_end ls))
  clauses_stop ls (suc n) fresh i e =
      rw (e, clauses_from) (ap (λ (a : Forest Span tree.clause). Some (a, i)) (append_end ls))

  pub clauses_none : (ls : Forest Span tree.clause) (n : ℕ) (fresh : Bool) (i : ℕ) → n ≡ 0
      → is_close_brace (terminal_at ts i) ≡ false → with_forest ls (clauses_from ts d n fresh i) ≡ None
  unfolding clauses_from
  clauses_none ls zero fresh i q e = rw (e, clauses_from)
  clauses_none ls (suc n) fresh i q e = absurd (omega arith)

  pub clauses_fails : (ls : Forest Span tree.clause) (n : ℕ) (fresh : Bool) (i : ℕ) → n ≢ 0
      → is_close_brace (terminal_at ts i) ≡ false → clause_of ts d fresh i ≡ None
      → with_forest ls (clauses_from ts d n fresh i) ≡ None
  clauses_fails ls zero fresh i h e q = absurd (h refl)
  clauses_fails ls (suc n) fresh i h e q =
      ap (with_forest ls) (clauses_turn n fresh i e
      ∙ ap (λ o. then_on o (after_clause n (fresh && is_case (terminal_at ts i)))) q)

  pub clauses_more : (ls : Forest Span tree.clause) (n : ℕ) (fresh : Bool) (i : ℕ) (c : Tree Span tree.clause) (j : ℕ)
      → n ≢ 0 → is_close_brace (terminal_at ts i) ≡ false → clause_of ts d fresh i ≡ Some (c, j)
      → with_forest ls (clauses_from ts d n fresh i)
      ≡ with_forest (append ls (tree.more c tree.end))
      (clauses_from ts d (n - 1) (fresh && is_case (terminal_at ts i)) j)
  clauses_more ls zero fresh i c j h e q = absurd (h refl)
  clauses_more ls (suc n) fresh i c j h e q =
      let g : suc n - 1 ≡ n = omega arith in
      rw g (ap (with_forest ls) (clauses_turn n fresh i e
      ∙ ap (λ o. then_on o (after_clause n (fresh && is_case (terminal_at ts i)))) q)
      ∙ regroup ls c (clauses_from ts d n (fresh && is_case (terminal_at ts i)) j))

  -- the properties of an object

  pub entries_close : (ls : Forest Span tree.entry) (n i : ℕ) → is_close_brace (terminal_at ts i) ≡ true
      → with_forest ls (entries_from ts d n i) ≡ Some (ls, suc i)
  unfolding entries_from
  entries_close ls zero i e =
      rw (e, entries_from) (ap (λ (a : Forest Span tree.entry). Some (a, suc i)) (append_end ls))
  entries_close ls (suc n) i e =
      rw (e, entries_from) (ap (λ (a : Forest Span tree.entry). Some (a, suc i)) (append_end ls))

  pub entries_none : (ls : Forest Span tree.entry) (n i : ℕ) → n ≡ 0 → is_close_brace (terminal_at ts i) ≡ false
      → with_forest ls (entries_from ts d n i) ≡ None
  unfolding entries_from
  entries_none ls zero i q e = rw (e, entries_from)
  entries_none ls (suc n) i q e = absurd (omega arith)

  pub entries_fails : (ls : Forest Span tree.entry) (n i : ℕ) → is_close_brace (terminal_at ts i) ≡ false
      → entry_at ts d i ≡ None → with_forest ls (entries_from ts d n i) ≡ None
  unfolding entries_from
  entries_fails ls zero i f q = rw (f, entries_from)
  entries_fails ls (suc n) i f q = rw (f, q, entries_from)

  pub entries_last : (ls : Forest Span tree.entry) (n i : ℕ) (t : Tree Span tree.entry) (j : ℕ) → n ≢ 0
      → is_close_brace (terminal_at ts i) ≡ false → entry_at ts d i ≡ Some (t, j) → is_close_brace (terminal_at ts j)
      ≡ true
      → with_forest ls (entries_from ts d n i) ≡ Some (append ls (tree.more t tree.end), suc j)
  unfolding entries_from
  entries_last ls zero i t j h f q g = absurd (h refl)
  entries_last ls (suc n) i t j h f q g = rw (f, q, g, entries_from)

  pub entries_more : (ls : Forest Span tree.entry) (n i : ℕ) (t : Tree Span tree.entry) (j : ℕ) → n ≢ 0
      → is_close_brace (terminal_at ts i) ≡ false → entry_at ts d i ≡ Some (t, j) → is_close_brace (terminal_at ts j)
      ≡ false
      → is_comma (terminal_at ts j) ≡ true
      → with_forest ls (entries_from ts d n i)
      ≡ with_forest (append ls (tree.more t tree.end)) (entries_from ts d (n - 1) (suc j))
  unfolding entries_from
  entries_more ls zero i t j h f q c k = absurd (h refl)
  entries_more ls (suc n) i t j h f q c k =
      let g : suc n - 1 ≡ n = omega arith in
      rw (g, f, q, c, k, entries_from) (regroup ls t (entries_from ts d n (suc j)))

  pub entries_end : (ls : Forest Span tree.entry) (n i : ℕ) (t : Tree Span tree.entry) (j : ℕ)
      → is_close_brace (terminal_at ts i) ≡ false → entry_at ts d i ≡ Some (t, j) → is_close_brace (terminal_at ts j)
      ≡ false
      → is_comma (terminal_at ts j) ≡ false → with_forest ls (entries_from ts d n i) ≡ None
  unfolding entries_from
  entries_end ls zero i t j f q c k = rw (f, entries_from)
  entries_end ls (suc n) i t j f q c k = rw (f, q, c, k, entries_from)

  -- the elements of a body

  pub elements_stop : (s : Bool) (fs : Forest Span tree.func) (ws : Stmts) (n i : ℕ) → ends_list (terminal_at ts i)
      ≡ true
      → with_elements s fs ws (elements_from ts d n i) ≡ Some (tree.body s fs ws, i)
  unfolding elements_from
  elements_stop s fs ws zero i e = rw (e, elements_from) (ap (λ (c : Code). Some (c, i)) (append_ends s fs ws))
  elements_stop s fs ws (suc n) i e = rw (e, elements_from) (ap (λ (c : Code). Some (c, i)) (append_ends s fs ws))

  pub elements_none : (s : Bool) (fs : Forest Span tree.func) (ws : Stmts) (n i : ℕ) → n ≡ 0
      → ends_list (terminal_at ts i) ≡ false → with_elements s fs ws (elements_from ts d n i) ≡ None
  unfolding elements_from
  elements_none s fs ws zero i q e = rw (e, elements_from)
  elements_none s fs ws (suc n) i q e = absurd (omega arith)

  abbrev after_declaration : ℕ → Tree Span tree.func → ℕ → Read (Forest Span tree.func × Stmts)
  after_declaration n f j = elements_from ts d n j >>= λ r. Some ((tree.more f r.0.0, r.0.1), r.1)

  function_turn : (n i : ℕ) → ends_list (terminal_at ts i) ≡ false → is_function (terminal_at ts i) ≡ true
      → elements_from ts d (suc n) i ≡ then_on (declaration_of ts d i) (after_declaration n)
  unfolding elements_from
  function_turn n i h e =
      rw (h, e, elements_from) (if_made (is_identifier (terminal_at ts (suc i))) (d.rest (suc (suc i))) (d.room i)
      (λ x j. tree.function 0 (Some (ident_at ts (suc i))) x.0 x.1 (span ts i j)) (after_declaration n))

  pub elements_no_function : (s : Bool) (fs : Forest Span tree.func) (ws : Stmts) (n i : ℕ) → n ≢ 0
      → ends_list (terminal_at ts i) ≡ false → is_function (terminal_at ts i) ≡ true → declaration_of ts d i ≡ None
      → with_elements s fs ws (elements_from ts d n i) ≡ None
  elements_no_function s fs ws zero i h e f q = absurd (h refl)
  elements_no_function s fs ws (suc n) i h e f q =
      ap (with_elements s fs ws) (function_turn n i e f ∙ ap (λ o. then_on o (after_declaration n)) q)

  pub elements_function : (s : Bool) (fs : Forest Span tree.func) (ws : Stmts) (n i : ℕ) (t : Tree Span tree.func)
      (j : ℕ)
      → n ≢ 0 → ends_list (terminal_at ts i) ≡ false → is_function (terminal_at ts i) ≡ true
      → declaration_of ts d i ≡ Some (t, j)
      → with_elements s fs ws (elements_from ts d n i)
      ≡ with_elements s (append fs (tree.more t tree.end)) ws (elements_from ts d (n - 1) j)
  elements_function s fs ws zero i t j h e f q = absurd (h refl)
  elements_function s fs ws (suc n) i t j h e f q =
      let g : suc n - 1 ≡ n = omega arith in
      rw g (ap (with_elements s fs ws) (function_turn n i e f ∙ ap (λ o. then_on o (after_declaration n)) q)
      ∙ after_function s fs ws t (elements_from ts d n j))

  pub elements_no_statement : (s : Bool) (fs : Forest Span tree.func) (ws : Stmts) (n i : ℕ)
      → ends_list (terminal_at ts i) ≡ false → is_function (terminal_at ts i) ≡ false → d.statement i ≡ None
      → with_elements s fs ws (elements_from ts d n i) ≡ None
  unfolding elements_from
  elements_no_statement s fs ws zero i e f q = rw (e, elements_from)
  elements_no_statement s fs ws (suc n) i e f q = rw (e, f, q, elements_from)

  pub elements_statement : (s : Bool) (fs : Forest Span tree.func) (ws : Stmts) (n i : ℕ) (w : Stmt) (j : ℕ) → n ≢ 0
      → ends_list (terminal_at ts i) ≡ false → is_function (terminal_at ts i) ≡ false → d.statement i ≡ Some (w, j)
      → with_elements s fs ws (elements_from ts d n i)
      ≡ with_elements s fs (append ws (tree.more w tree.end)) (elements_from ts d (n - 1) j)
  unfolding elements_from
  elements_statement s fs ws zero i w j h e f q = absurd (h refl)
  elements_statement s fs ws (suc n) i w j h e f q =
      let g : suc n - 1 ≡ n = omega arith in
      rw (g, e, f, q, elements_from) (after_statement s fs ws w (elements_from ts d n j))

  -- directives

  pub body_ends : (s : Bool) (n i : ℕ) → is_directive ts i ≡ false
      → with_body s (body_from ts d n i) ≡ with_elements s tree.end tree.end (elements_from ts d (length ts) i)
  unfolding body_from
  body_ends s zero i h = rw (h, body_from) (no_directives s (elements_from ts d (length ts) i))
  body_ends s (suc n) i h = rw (h, body_from) (no_directives s (elements_from ts d (length ts) i))

  pub body_none : (s : Bool) (n i : ℕ) → n ≡ 0 → is_directive ts i ≡ true → with_body s (body_from ts d n i) ≡ None
  unfolding body_from
  body_none s zero i q h = rw (h, body_from)
  body_none s (suc n) i q h = absurd (omega arith)

  pub body_fails : (s : Bool) (n i : ℕ) → is_directive ts i ≡ true → ends_at ts (suc i) ≡ None
      → with_body s (body_from ts d n i) ≡ None
  unfolding body_from
  body_fails s zero i h q = rw (h, body_from)
  body_fails s (suc n) i h q = rw (h, q, body_from)

  pub body_more : (s : Bool) (n i j : ℕ) → n ≢ 0 → is_directive ts i ≡ true → ends_at ts (suc i) ≡ Some j
      → with_body s (body_from ts d n i) ≡ with_body (s || strict_at ts i) (body_from ts d (n - 1) j)
  unfolding body_from
  body_more s zero i j h e q = absurd (h refl)
  body_more s (suc n) i j h e q =
      let g : suc n - 1 ≡ n = omega arith in
      rw (g, e, q, body_from) (after_directive s (strict_at ts i) (body_from ts d n j))

  -- accessors

  pub accessor_read : (by : ℕ → List (Ident Span) → Code → ℕ → Read (Tree Span tree.entry)) (i : ℕ)
      (ps : List (Ident Span)) (c : Code) (j : ℕ) → is_colon (terminal_at ts (suc i)) ≡ false
      → is_key (terminal_at ts (suc i)) ≡ true → rest_at ts d (suc (suc i)) ≡ Some ((ps, c), j)
      → accessor_at ts d by i ≡ by i ps c j
  unfolding accessor_at
  accessor_read by i ps c j e f g = rw (accessor_at, e, f, g) refl

  pub getter_one : (i : ℕ) (ps : List CodeIdent) (c : Code) (j : ℕ) (f : Tree Span tree.func) (k : ℕ) → length ps ≡ 0
      → node (d.room i) (tree.function 0 None (map view_ident ps) c (span ts i j)) j succeed ≡ Some (f, k)
      → getter_by ts d i (map view_ident ps) c j ≡ Some (tree.getter (key_ident_at ts (suc i)) f, k)
  unfolding getter_by
  getter_one i [] c j f k h e = made_some (d.room i) _ j _ f k e
  getter_one i (p ∷ ps) c j f k h e = absurd (omega arith)

  pub getter_high : (i : ℕ) (ps : List CodeIdent) (c : Code) (j : ℕ)
      → node (d.room i) (tree.function 0 None (map view_ident ps) c (span ts i j)) j succeed ≡ None
      → getter_by ts d i (map view_ident ps) c j ≡ None
  unfolding getter_by
  getter_high i [] c j e = made_none (d.room i) _ j _ e
  getter_high i (p ∷ ps) c j e = refl

  pub getter_none : (i : ℕ) (ps : List CodeIdent) (c : Code) (j : ℕ) → length ps ≢ 0
      → getter_by ts d i (map view_ident ps) c j ≡ None
  unfolding getter_by
  getter_none i [] c j h = absurd (h refl)
  getter_none i (p ∷ ps) c j h = refl

  pub setter_one : (i : ℕ) (ps : List CodeIdent) (c : Code) (j : ℕ) (f : Tree Span tree.func) (k : ℕ) → length ps ≡ 1
      → node (d.room i) (tree.function 0 None (map view_ident ps) c (span ts i j)) j succeed ≡ Some (f, k)
      → setter_by ts d i (map view_ident ps) c j ≡ Some (tree.setter (key_ident_at ts (suc i)) f, k)
  unfolding setter_by
  setter_one i [] c j f k h e = absurd (omega arith)
  setter_one i (p ∷ []) c j f k h e = made_some (d.room i) _ j _ f k e
  setter_one i (p ∷ q ∷ ps) c j f k h e = absurd (omega arith)

  pub setter_high : (i : ℕ) (ps : List CodeIdent) (c : Code) (j : ℕ)
      → node (d.room i) (tree.function 0 None (map view_ident ps) c (span ts i j)) j succeed ≡ None
      → setter_by ts d i (map view_ident ps) c j ≡ None
  unfolding setter_by
  setter_high i [] c j e = refl
  setter_high i (p ∷ []) c j e = made_none (d.room i) _ j _ e
  setter_high i (p ∷ q ∷ ps) c j e = refl

  pub setter_none : (i : ℕ) (ps : List CodeIdent) (c : Code) (j : ℕ) → length ps ≢ 1
      → setter_by ts d i (map view_ident ps) c j ≡ None
  unfolding setter_by
  setter_none i [] c j h = refl
  setter_none i (p ∷ []) c j h = absurd (h refl)
  setter_none i (p ∷ q ∷ ps) c j h = refl

-- parameters

module _ (ts : List Token) where
  pub names_none : (xs : List (Ident Span)) (n i : ℕ) → n ≡ 0 → with_list xs (names_from ts n i) ≡ None
  unfolding names_from
  names_none xs zero i e = refl
  names_none xs (suc n) i e = absurd (omega arith)

  pub names_other : (xs : List (Ident Span)) (n i : ℕ) → is_identifier (terminal_at ts i) ≡ false
      → with_list xs (names_from ts n i) ≡ None
  unfolding names_from
  names_other xs zero i e = refl
  names_other xs (suc n) i e = rw (e, names_from)

  pub names_last : (xs : List (Ident Span)) (n i : ℕ) → n ≢ 0 → is_identifier (terminal_at ts i) ≡ true
      → is_close_paren (terminal_at ts (suc i)) ≡ true
      → with_list xs (names_from ts n i) ≡ Some (xs ++ (ident_at ts i ∷ []), suc (suc i))
  unfolding names_from
  names_last xs zero i h e c = absurd (h refl)
  names_last xs (suc n) i h e c = rw (e, c, names_from)

  pub names_more : (xs : List (Ident Span)) (n i : ℕ) → n ≢ 0 → is_identifier (terminal_at ts i) ≡ true
      → is_close_paren (terminal_at ts (suc i)) ≡ false → is_comma (terminal_at ts (suc i)) ≡ true
      → with_list xs (names_from ts n i)
      ≡ with_list (xs ++ (ident_at ts i ∷ [])) (names_from ts (n - 1) (suc (suc i)))
  unfolding names_from
  names_more xs zero i h e c k = absurd (h refl)
  names_more xs (suc n) i h e c k =
      let g : suc n - 1 ≡ n = omega arith in
      rw (g, e, c, k, names_from) (relist xs (ident_at ts i) (names_from ts n (suc (suc i))))

  pub names_stuck : (xs : List (Ident Span)) (n i : ℕ) → is_identifier (terminal_at ts i) ≡ true
      → is_close_paren (terminal_at ts (suc i)) ≡ false → is_comma (terminal_at ts (suc i)) ≡ false
      → with_list xs (names_from ts n i) ≡ None
  unfolding names_from
  names_stuck xs zero i e c k = refl
  names_stuck xs (suc n) i e c k = rw (e, c, k, names_from)

pub ruleset statements_loop =
    (with_end, statements_push, statements_stop, statements_none, statements_fails, statements_more)

pub ruleset declarations_loop = (
  with_end,
  declarators_push,
  declarations_none,
  declarations_fails,
  declarations_last,
  declarations_more,
)

pub ruleset clauses_loop = (with_end, cases_push, clauses_stop, clauses_none, clauses_fails, clauses_more)

pub ruleset entries_loop = (
  with_end,
  entries_push,
  entries_close,
  entries_none,
  entries_fails,
  entries_last,
  entries_more,
  entries_end,
)

pub ruleset elements_loop = (
  functions_push,
  statements_push,
  elements_stop,
  elements_none,
  elements_no_function,
  elements_function,
  elements_no_statement,
  elements_statement,
)

pub ruleset body_loop = (with_no_body, body_ends, body_none, body_fails, body_more)

pub ruleset parameters_loop = (with_nil, idents_push, names_none, names_other, names_last, names_more, names_stuck)

pub ruleset getters = (getter_one, getter_high, getter_none)

pub ruleset setters = (setter_one, setter_high, setter_none)
