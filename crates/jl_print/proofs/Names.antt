-- Names and parameters that are written are read again.
use Rattle.std.proofs.Common.{◌≡◌, ℕ, suc, Bool, false, refl, ap, ap₂, subst, List, [], ◌∷◌, ◌++◌}
use Rattle.std.specs.Prelude.{map}
use Rattle.jl_ast.specs.Tree.{Ident}
use Rattle.jl_text.specs.declared.span.Span.{Span}
use Rattle.jl_token.specs.declared.token.Token.{Token}
use Rattle.jl_grammar.specs.Reads.{ReadsNames, last_name, more_names, ReadsParameters, no_parameters}
use Rattle.jl_grammar.specs.Reads as reads
use Rattle.jl_grammar.specs.Tokens.{ident_at, key_ident_at}
use Rattle.jl_print.specs.Pieces.{name, key}
use Rattle.jl_print.specs.CanonicalTokens.{further_names, parameters, close_paren}
use Rattle.jl_print.specs.WellFormed.{AreIdentifiers}
use Rattle.jl_print.proofs.Skeleton.{named}
use Rattle.jl_print.proofs.Spells.{Spelled, Spells, at, identifier, name_text, key_text}

pub same_name : {ts : List Token} {i : ℕ} {line : Bool} (x : Ident Span) → Spelled ts i line (name x.text)
    → named (ident_at ts i) ≡ named x
same_name x s = ap (λ t. record { text = t; at = tt }) (name_text s)

pub same_key : {ts : List Token} {i : ℕ} {line : Bool} (x : Ident Span) → Spelled ts i line (key x.text)
    → named (key_ident_at ts i) ≡ named x
same_key x s = ap (λ t. record { text = t; at = tt }) (key_text x.text s)

record BackNames (ts : List Token) (i : ℕ) (ps : List (Ident Span)) (j : ℕ) : Type 0 where
  names : List (Ident Span)
  same : map named names ≡ map named ps
  is : ReadsNames ts i names j

back_names : (ts : List Token) (p : Ident Span) (ps : List (Ident Span)) → AreIdentifiers (p ∷ ps) → (i j : ℕ)
    (line : Bool) → Spells ts i line (name p.text ∷ (further_names ps ++ close_paren ∷ [])) j
    → BackNames ts i (p ∷ ps) j
back_names ts p [] w i j line s = record {
  names = ident_at ts i ∷ [];
  same = ap (λ x. x ∷ []) (same_name p s.0);
  is = subst (λ x. ReadsNames ts i (ident_at ts i ∷ []) x) s.1.1 (last_name (identifier w.0 s.0) (at s.1.0));
}
back_names ts p (q ∷ ps) w i j line s =
    let b = back_names ts q ps w.1 (suc (suc i)) j false s.1.1 in
    record {
      names = ident_at ts i ∷ b.names;
      same = ap₂ (λ x y. x ∷ y) (same_name p s.0) b.same;
      is = more_names (identifier w.0 s.0) (at s.1.0) b.is;
    }

pub record BackParameters (ts : List Token) (i : ℕ) (ps : List (Ident Span)) (j : ℕ) : Type 0 where
  pub names : List (Ident Span)
  pub same : map named names ≡ map named ps
  pub is : ReadsParameters ts (suc i) names j

pub back_parameters : (ts : List Token) (ps : List (Ident Span)) → AreIdentifiers ps → (i j : ℕ) (line : Bool)
    → Spells ts i line (parameters ps) j → BackParameters ts i ps j
back_parameters ts [] w i j line s = record {
  names = [];
  same = refl;
  is = subst (λ x. ReadsParameters ts (suc i) [] x) s.1.1 (no_parameters (at s.1.0));
}
back_parameters ts (p ∷ ps) w i j line s =
    let b = back_names ts p ps w (suc i) j false s.1 in
    record { names = b.names; same = b.same; is = reads.parameters b.is }
