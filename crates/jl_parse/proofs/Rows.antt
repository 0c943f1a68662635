-- Rows after forests.
use Rattle.std.proofs.Common.{◌≡◌, ◌∙◌, ℕ, suc, Bool, true, false, ap, refl, sym}
use Rattle.std.specs.Prelude.{Option, Some, None, nat_le, if◌then◌else◌}
use Rattle.jl_ast.specs.Height.{height}
use Rattle.jl_text.specs.declared.span.Span.{Span}
use Rattle.jl_ast.specs.Tree.{Tree, Forest}
use Rattle.jl_ast.specs.Tree as tree
use Rattle.jl_grammar.specs.Reader.{Read, ◌>>=◌, succeed, node}
use Rattle.jl_parse.specs.inner.Steps.{append}

abbrev pub with_forest : {x : tree.Sort} → Forest Span x → Read (Forest Span x) → Read (Forest Span x)
with_forest a None = None
with_forest a (Some r) = Some (append a r.0, r.1)

pub append_end : {x : tree.Sort} (a : Forest Span x) → append a tree.end ≡ a
append_end tree.end = refl
append_end (tree.more t a) = ap (tree.more t) (append_end a)

pub append_assoc : {x : tree.Sort} (a b c : Forest Span x) → append (append a b) c ≡ append a (append b c)
append_assoc tree.end b c = refl
append_assoc (tree.more t a) b c = ap (tree.more t) (append_assoc a b c)

pub with_end : {x : tree.Sort} (o : Read (Forest Span x)) → with_forest tree.end o ≡ o
with_end None = refl
with_end (Some r) = refl

pub regroup : {x : tree.Sort} (a : Forest Span x) (t : Tree Span x) (o : Read (Forest Span x))
    → with_forest a (o >>= λ r. Some (tree.more t r.0, r.1)) ≡ with_forest (append a (tree.more t tree.end)) o
regroup a t None = refl
regroup a t (Some r) = ap (λ b. Some (b, r.1)) (sym (append_assoc a (tree.more t tree.end) r.0))

-- what comes after a part
abbrev pub then_on : {A B : Type 0} → Read A → (A → ℕ → Option B) → Option B
then_on None go = None
then_on (Some x) go = go x.0 x.1

if_on : {A B : Type 0} (b : Bool) (t : A) (j : ℕ) (go : A → ℕ → Option B)
    → (if b then go t j else None) ≡ then_on (if b then succeed t j else None) go
if_on true t j go = refl
if_on false t j go = refl

-- a node first, and then what comes after it
pub made_on : {x : tree.Sort} {B : Type 0} (most : ℕ) (t : Tree Span x) (j : ℕ) (go : Tree Span x → ℕ → Option B)
    → node most t j go ≡ then_on (node most t j succeed) go
unfolding node
made_on most t j go = if_on (nat_le (height t) (suc most)) t j go

pub made_some : {x : tree.Sort} {B : Type 0} (most : ℕ) (t : Tree Span x) (j : ℕ) (go : Tree Span x → ℕ → Option B)
    (u : Tree Span x) (k : ℕ) → node most t j succeed ≡ Some (u, k) → node most t j go ≡ go u k
made_some most t j go u k h = made_on most t j go ∙ ap (λ o. then_on o go) h

pub made_none : {x : tree.Sort} {B : Type 0} (most : ℕ) (t : Tree Span x) (j : ℕ) (go : Tree Span x → ℕ → Option B)
    → node most t j succeed ≡ None → node most t j go ≡ None
made_none most t j go h = made_on most t j go ∙ ap (λ o. then_on o go) h
