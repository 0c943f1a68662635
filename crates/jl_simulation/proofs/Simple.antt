-- Declarators of variables.
use Rattle.std.proofs.Common.{◌≡◌, ℕ, suc, false, sym, subst₂, arith}
use Rattle.jl_value.specs.declared.ending.Completion.{Completion}
use Rattle.jl_value.specs.declared.value.Value.{Value}
use Rattle.jl_heap.specs.Objects.{Name}
use Rattle.jl_op.specs.Chosen.{Kinds}
use Rattle.jl_op.specs.declared.kind.OpKind.TheVariants as kind
use Rattle.jl_effects.specs.Effects.{Step, and_then}
use Rattle.jl_effects.specs.Matching.{both, spare}
use Rattle.jl_meaning.specs.Completions.{on_given}
use Rattle.jl_meaning.specs.Parts.{Answer, Context, Part, ◌>>=◌, give}
use Rattle.jl_meaning.specs.Store.{Store}
use Rattle.jl_meaning.specs.forms.Names.{assign_name, is_hooks}
use Rattle.jl_simulation.proofs.Completions.{valued}
use Rattle.jl_simulation.proofs.Names.{assign_as_is, assign_to, assigning, no_hooks, tell_write}
use Rattle.jl_simulation.proofs.Relation.{Matched, bind, done, ExpressionMatch, StatementMatch}

-- Declarators: the hook's first step comes before the expression's own, which pays it back.
pub record DeclarationMatch (chosen : Kinds) (p q : Part (Answer (Unit {0}))) : Type 0 where
  pub at : (s : Store) (c : ℕ) → Matched chosen s (suc c) (suc c) p q

-- a declarator with an initialiser
abbrev declaring : (id : ℕ) → Context → Name → Part (Answer Value) → Part (Answer (Unit {0}))
declaring id c x e = assign_name id c x e >>= (λ _. give tt)

module _ {chosen : Kinds} where
  pub nothing_declared : DeclarationMatch chosen (give tt) (give tt)
  nothing_declared = record { at = λ s c. done }

  pub declared_then : {p p' q q' : Part (Answer (Unit {0}))} → DeclarationMatch chosen p p'
      → DeclarationMatch chosen q q' → DeclarationMatch chosen (p >>= (λ _. q)) (p' >>= (λ _. q'))
  declared_then x y = record { at = λ s c. bind (omega arith) (x.at s c) (λ u t. y.at t c) }

  -- what is declared, and then a statement
  pub declared_first : {p p' : Part (Answer (Unit {0}))} {q q' : Part Completion} → DeclarationMatch chosen p p'
      → StatementMatch chosen q q'
      → StatementMatch chosen (Step (and_then p (on_given (λ _. q)))) (Step (and_then p' (on_given (λ _. q'))))
  declared_first x y = record {
    at = λ s c. both (spare {c = suc c} (omega arith)
        (valued (omega arith) (x.at s c) (λ u t. spare (omega arith) (y.at t c))));
  }

  pub declared_told : (x : Name) (c : Context) (id id' : ℕ) → is_hooks x ≡ false → {e e' : Part (Answer Value)}
      → ExpressionMatch chosen e e'
      → DeclarationMatch chosen (declaring id c x e) (declaring id' c x (Step (e' >>= tell_write id c x)))
  declared_told x c id id' h {e} {e'} y =
      subst₂ (λ p q. DeclarationMatch chosen (p >>= (λ _. give tt)) (q >>= (λ _. give tt)))
      (sym (no_hooks x h (assigning id c x e)))
      (sym (no_hooks x h (assigning id' c x (Step (e' >>= tell_write id c x)))))
      (record { at = λ s d. bind (omega arith) (assign_to x c id id' y (omega arith)) (λ v t. done) })

  pub declared_silent : (x : Name) (c : Context) (id id' : ℕ) → is_hooks x ≡ false → chosen kind.Write ≡ false
      → {e e' : Part (Answer Value)} → ExpressionMatch chosen e e'
      → DeclarationMatch chosen (declaring id c x e) (declaring id' c x e')
  declared_silent x c id id' h w {e} {e'} y =
      subst₂ (λ p q. DeclarationMatch chosen (p >>= (λ _. give tt)) (q >>= (λ _. give tt)))
      (sym (no_hooks x h (assigning id c x e))) (sym (no_hooks x h (assigning id' c x e')))
      (record { at = λ s d. bind (omega arith) (assign_as_is x c id id' w y (omega arith)) (λ v t. done) })
