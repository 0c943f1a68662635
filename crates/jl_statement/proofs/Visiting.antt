-- Turns of a `for-in` (12.6.4).
use Rattle.std.proofs.Common.{◌≡◌, ◌-◌, ◌∷◌, [], Bool, List, None, Option, Some, ℕ, false, if◌then◌else◌, true}
use Rattle.std.proofs.Common.{ap, refl, subst, sym, ◌∙◌}
use mathlib.Core.Path.{fun_ext}
use Rattle.std.specs.Borrow.{Bor}
use Rattle.jl_ast.specs.View.{view_statements}
use Rattle.jl_ast.specs.declared.tree.Stmt.{Stmt}
use Rattle.jl_value.specs.Tests.{is_nothing}
use Rattle.jl_value.specs.declared.ending.Completion.{Completion}
use Rattle.jl_value.specs.declared.ending.Completion.TheVariants as completion
use Rattle.jl_value.specs.declared.ending.Fault.TheVariants.{Misuse}
use Rattle.jl_value.specs.declared.object.ObjId.{ObjId}
use Rattle.jl_value.specs.declared.value.Value.{Value}
use Rattle.jl_value.specs.declared.value.Value.TheVariants as value
use Rattle.jl_effects.specs.Effects.{and_then, Begin, End, Fail, Look}
use Rattle.jl_effects.proofs.Chains.{and_then-assoc, row-and_then}
use Rattle.jl_heap.specs.Objects.{Name}
use Rattle.jl_meaning.specs.Completions.{normal, on_given}
use Rattle.jl_meaning.specs.Conversions.{to_object}
use Rattle.jl_meaning.specs.Parts.{fault_of, for_in_loop, give, continue_with, gives, lift, throws, ◌>>=◌}
use Rattle.jl_meaning.specs.Parts.{Algorithm, Answer, CallOf, Context, Part, Stmts, Turn, TurnOf, Visit}
use Rattle.jl_meaning.specs.References.{put_name}
use Rattle.jl_meaning.specs.Statements.{turn}
use Rattle.jl_meaning.specs.forms.Loops.{begin_loop, visit_all, visit_first, visit_next, visits_left, visits_of}
use Rattle.jl_meaning.specs.forms.Names.{is_hooks, unless_hooks}
use Rattle.jl_store.specs.Answers.{ends_with}
use Rattle.jl_store.specs.BigStep.{BigStep}
use Rattle.jl_store.specs.declared.answer.Answer.{Answer as Answered}
use Rattle.jl_store.specs.declared.answer.Answer.TheVariants.{Gives, Throws}
use Rattle.jl_meaning.specs.Jobs.{job}
use Rattle.jl_state.specs.Rest.{RefinesStatement}
use Rattle.jl_state.specs.StatementFrames.{loop_body, statement_after}
use Rattle.jl_state.specs.Steps.{RanOut, Took}
use Rattle.jl_state.specs.Trees.{plain_forest}
use Rattle.jl_state.specs.Turns.{labels_seen, visits_seen}
use Rattle.jl_state.specs.Words.{context_of, table_of}
use Rattle.jl_state.specs.declared.act.Act.{Act}
use Rattle.jl_state.specs.declared.act.Act.TheVariants as act
use Rattle.jl_state.specs.declared.calls.Call.{Call}
use Rattle.jl_state.specs.declared.frame.Here.{Here}
use Rattle.jl_state.specs.declared.statement_frame.Loop.{Loop}
use Rattle.jl_state.specs.declared.statement_frame.Loop.TheVariants as loop
use Rattle.jl_state.specs.declared.statement_frame.LoopTurn.{LoopTurn}
use Rattle.jl_state.specs.declared.statement_frame.StatementFrame.TheVariants as statement
use Rattle.jl_state.specs.declared.statement_frame.Visit.{Visit as Gathered}
use Rattle.jl_state.specs.declared.state.State.{State}
use Rattle.jl_state.proofs.Steps.{begins_turn}
use Rattle.jl_state.proofs.Stores.{completes_comes, completes_thrown, IsStored}
use Rattle.jl_state.specs.declared.statement_frame.Visits.{Visits}
use Rattle.jl_statement.specs.inner.Turns.{visit_in, visit_on}
use Rattle.jl_statement.specs.inner.Visited.{all_seen, visits_in, IsNextName}

-- the name of the hooks is no variable
pub no_hooks : {A : Type 0} (s : State) (x : Name) (p : Part (Answer A)) (k : A → Part Completion)
    → true ≡ is_hooks x → RefinesStatement s (and_then (unless_hooks x p) (on_given k)) s (act.Fault Misuse)
no_hooks s x p k is =
    subst (λ b. RefinesStatement s (and_then (if b then Fail Misuse else p) (on_given k)) s (act.Fault Misuse)) is
    (record { is = λ kept told. refl })

pub unless_hooked : {A : Type 0} (s : State) (x : Name) (p : Part (Answer A)) (k : A → Part Completion) (t : State)
    (a : Act) → false ≡ is_hooks x → RefinesStatement s (and_then p (on_given k)) t a
    → RefinesStatement s (and_then (unless_hooks x p) (on_given k)) t a
unless_hooked s x p k t a is refines =
    subst (λ b. RefinesStatement s (and_then (if b then Fail Misuse else p) (on_given k)) t a) is refines

-- a value that is given after an algorithm doesn't count
pub uncounted : (s : State) (p : Algorithm (Unit {0})) (v : Value) (q : Part Completion) (t : State) (a : Act)
    → RefinesStatement s (and_then (lift (p >>= λ _. give v)) (on_given (λ _. q))) t a
    → RefinesStatement s (and_then (lift p) (on_given (λ _. q))) t a
uncounted s p v q t a refines = subst (λ r. RefinesStatement s r t a) same refines
  where
    each : (b : Answer (Unit {0})) → and_then (lift (continue_with (λ _. give v) b)) (on_given (λ _. q))
        ≡ on_given (λ _. q) b
    each (gives u) = refl
    each (throws w) = refl

    same : and_then (lift (p >>= λ _. give v)) (on_given (λ _. q)) ≡ and_then (lift p) (on_given (λ _. q))
    same =
        ap (λ r. and_then r (on_given (λ _. q))) (row-and_then CallOf fault_of p (continue_with (λ _. give v)))
        ∙ and_then-assoc (lift p) (λ b. lift (continue_with (λ _. give v) b)) (on_given (λ _. q))
        ∙ ap (and_then (lift p)) (fun_ext each)

-- nothing is left to visit
pub visits_none : (s : State) (x : Name) (l : Stmts) (c : Context) (labels : List Name) (visits : List Visit)
    → visits_left s.store.heap visits ≡ []
    → RefinesStatement s (visit_next x l c labels 0 visits) s (act.Complete completion.Normal)
unfolding visit_next
visits_none s x l c labels visits is = record {
  is = (subst (λ m. RefinesStatement s (visit_first x l c labels 0 m) s (act.Complete completion.Normal)) (sym is)
      (record { is = λ kept told. refl })).is;
}

-- or this is
pub visits_some : (s : State) (x : Name) (l : Stmts) (c : Context) (labels : List Name) (visits : List Visit)
    (v : Visit) (rest : List Visit) (name : Name) (t : State) (a : Act) → v.name ≡ name
    → visits_left s.store.heap visits ≡ v ∷ rest
    → RefinesStatement s (begin_loop (for_in_loop x name rest l) c labels 0) t a
    → RefinesStatement s (visit_next x l c labels 0 visits) t a
unfolding visit_next
visits_some s x l c labels visits v rest name t a named is refines = record {
  is = (subst (λ m. RefinesStatement s (visit_first x l c labels 0 m) t a) (sym is)
      (subst (λ n. RefinesStatement s (begin_loop (for_in_loop x n rest l) c labels 0) t a) (sym named) refines)).is;
}

-- a turn takes a step
visit_turns : (s t : State) (x : Name) (name : Name) (visits : Visits) (l : List Stmt) (here : Here)
    (labels : List Name) (u : State) (a : Act) → Took s t → t ≡ record s { left = s.left - 1 }
    → RefinesStatement t (turn (table_of t.functions) (record {
      loop = for_in_loop x name (visits_seen visits) (plain_forest (view_statements l));
      context = context_of t.calls here;
      labels = labels;
      id = 0;
    })) u a
    → RefinesStatement s (begin_loop (for_in_loop x name (visits_seen visits) (plain_forest (view_statements l)))
    (context_of s.calls here) labels 0) u a
visit_turns s t x name visits l here labels u a took is refines =
    let of : List Call → Turn = λ calls. record {
      loop = for_in_loop x name (visits_seen visits) (plain_forest (view_statements l));
      context = context_of calls here;
      labels = labels;
      id = 0;
    } in
    begins_turn s (of s.calls) u a (took.completes (job (table_of s.functions) (TurnOf (of s.calls))) u a
    (subst (λ c. RefinesStatement t (turn (table_of s.functions) (of c)) u a) (ap (λ (v : State). v.calls) is)
    (subst (λ f. RefinesStatement t (turn (table_of f) (of t.calls)) u a) (ap (λ (v : State). v.functions) is)
    refines)))

visit_spent : (s t : State) (turn : Turn) → RanOut s → t ≡ s
    → RefinesStatement s (Begin (TurnOf turn) End) t act.Spent
visit_spent s t turn none is =
    subst (λ u. RefinesStatement s (Begin (TurnOf turn) End) u act.Spent) (sym is)
    (begins_turn s turn s act.Spent (none.completes (job (table_of s.functions) (TurnOf turn))))

-- a loop has nothing left to visit
nothing_on : (s : State) (c : Context) (labels : List Name) (k : Loop) → visits_left s.store.heap (visits_in k) ≡ []
    → RefinesStatement s (visit_in c labels k) s (act.Complete completion.Normal)
nothing_on s c labels (loop.Do l e) is = record { is = λ kept told. refl }
nothing_on s c labels (loop.While e l) is = record { is = λ kept told. refl }
nothing_on s c labels (loop.For e u l) is = record { is = λ kept told. refl }
nothing_on s c labels (loop.ForIn x visits l) is =
    visits_none s x.now (plain_forest (view_statements l.now)) c labels (visits_seen visits) is

-- by what was found in the turn that is read as `seen`, whose loop is k then

module _ (s : State) (turn seen : LoopTurn) (found : Option (Bor (List ℕ) × Name)) (k : Loop) where
  pub visited_none : seen ≡ turn → IsNextName s.store.heap seen.kind found k → found ≡ None
      → RefinesStatement s (visit_on s.calls turn) s (act.Complete completion.Normal)
  visited_none same is none =
      subst (λ w. RefinesStatement s (visit_on s.calls w) s (act.Complete completion.Normal)) same
      (nothing_on s (context_of s.calls seen.here) (labels_seen seen.labels) seen.kind
      (subst (λ n. IsNextName s.store.heap seen.kind n k) none is))

  visited : (x : Bor (List ℕ)) (name : Name) (u : State) (a : Act) → seen ≡ turn
      → IsNextName s.store.heap seen.kind found k → found ≡ Some (x, name)
      → ((rest : Visits) (l : Bor (List Stmt)) → k ≡ loop.ForIn x rest l
      → RefinesStatement s (begin_loop (for_in_loop x.now name (visits_seen rest)
      (plain_forest (view_statements l.now))) (context_of s.calls seen.here) (labels_seen seen.labels) 0) u a)
      → RefinesStatement s (visit_on s.calls turn) u a
  visited x name u a same is some begins =
      let first = subst (λ n. IsNextName s.store.heap seen.kind n k) some is in
      let c = context_of s.calls seen.here in
      let labels = labels_seen seen.labels in
      subst (λ w. RefinesStatement s (visit_on s.calls w) u a) same
      (subst (λ j. RefinesStatement s (visit_in c labels j) u a) (sym first.3)
      (visits_some s x.now (plain_forest (view_statements first.2.now)) c labels (visits_seen first.0) first.5.0
      (visits_seen first.1) name u a first.5.1 first.5.2 (begins first.1 first.2 first.4)))

  pub visited_spent : (x : Bor (List ℕ)) (name : Name) (t : State) → seen ≡ turn
      → IsNextName s.store.heap seen.kind found k → found ≡ Some (x, name) → RanOut s → t ≡ s
      → RefinesStatement s (visit_on s.calls turn) t act.Spent
  visited_spent x name t same is some none left =
      visited x name t act.Spent same is some (λ rest l of. visit_spent s t _ none left)

  -- a turn takes a step, and the variable gets the name
  pub visited_some : (x : Bor (List ℕ)) (name : Name) (t u : State) (a : Act) → seen ≡ turn
      → IsNextName s.store.heap seen.kind found k → found ≡ Some (x, name) → Took s t
      → t ≡ record s { left = s.left - 1 }
      → RefinesStatement t (and_then (unless_hooks x.now (lift (put_name seen.here.strict seen.here.env x.now
      (value.Text name)))) (on_given (λ _. loop_body (table_of t.functions) t.calls (record seen { kind = k })))) u a
      → RefinesStatement s (visit_on s.calls turn) u a
  visited_some x name t u a same is some took left refines =
      visited x name u a same is some (λ rest l of.
      visit_turns s t x.now name rest l.now seen.here (labels_seen seen.labels) u a took left
      (subst (λ j. RefinesStatement t (and_then (unless_hooks x.now (lift (put_name seen.here.strict seen.here.env x.now
      (value.Text name)))) (on_given (λ _. loop_body (table_of t.functions) t.calls (record seen { kind = j })))) u a)
      of refines))

-- the first turn of a `for-in`, whose visits are put in a box
pub visits_first : (s : State) (turn : LoopTurn) (x : Bor (List ℕ)) (visits : Visits) (gathered : List Gathered)
    (l : Bor (List Stmt)) (here : Here) (labels : List (Bor (List ℕ))) (all : List Visit) (t : State) (a : Act)
    → turn ≡ record { kind = loop.ForIn x visits l; here = here; labels = labels }
    → visits ≡ record { visits = gathered; from = 0 } → all_seen gathered ≡ all
    → RefinesStatement s (visit_on s.calls turn) t a
    → RefinesStatement s (visit_next x.now (plain_forest (view_statements l.now)) (context_of s.calls here)
    (labels_seen labels) 0 all) t a
visits_first s turn x visits gathered l here labels all t a is boxed seen refines =
    let from = λ (m : List Visit). RefinesStatement s (visit_next x.now (plain_forest (view_statements l.now))
    (context_of s.calls here) (labels_seen labels) 0 m) t a in
    subst from seen (subst (λ v. from (visits_seen v)) boxed
    (subst (λ w. RefinesStatement s (visit_on s.calls w) t a) is refines))

-- an object, and none

module _ (s : State) (x : Bor (List ℕ)) (l : Bor (List Stmt)) (here : Here) (labels : List (Bor (List ℕ))) (v : Value)
  where
    abbrev for_in_value : Part Completion
    for_in_value = statement_after (table_of s.functions) s.calls (statement.ForInObject x l here labels) v

    abbrev visits_from : Context → ObjId → Part Completion
    visits_from c o = Look (λ store. visit_next x.now (plain_forest (view_statements l.now)) c (labels_seen labels) 0
        (visits_of store.heap o.0))

    of_value : (b : Bool) (t : State) (a : Act) → b ≡ is_nothing v
        → RefinesStatement s (if b then normal
        else and_then (lift (to_object v)) (on_given (visits_from (context_of s.calls here)))) t a
        → RefinesStatement s for_in_value t a
    unfolding visit_all
    of_value b t a is refines = record {
      is = (subst (λ c. RefinesStatement s (if c then normal
          else and_then (lift (to_object v)) (on_given (visits_from (context_of s.calls here)))) t a) is refines).is;
    }

    pub visits_nothing : true ≡ is_nothing v → RefinesStatement s for_in_value s (act.Complete completion.Normal)
    visits_nothing is = of_value true s (act.Complete completion.Normal) is (record { is = λ kept told. refl })

    pub visits_object : (t : State) (answer : Answered ObjId) (o : ObjId) (u : State) (a : Act)
        → false ≡ is_nothing v → IsStored s t → BigStep (to_object v) s.store t.store (ends_with answer)
        → answer ≡ Gives o
        → RefinesStatement t (visit_next x.now (plain_forest (view_statements l.now)) (context_of t.calls here)
        (labels_seen labels) 0 (visits_of t.store.heap o.0)) u a
        → RefinesStatement s for_in_value u a
    visits_object t answer o u a is stored comes continue_with refines =
        of_value false u a is
        (completes_comes s t stored (to_object v) o (visits_from (context_of s.calls here)) u a
        (subst (λ b. BigStep (to_object v) s.store t.store (ends_with b)) continue_with comes)
        (subst (λ c. RefinesStatement t (visits_from (context_of c here) o) u a) (ap (λ (w : State). w.calls) stored)
        (record { is = refines.is })))

    pub visits_thrown : (t : State) (answer : Answered ObjId) (w : Value) → false ≡ is_nothing v → IsStored s t
        → BigStep (to_object v) s.store t.store (ends_with answer) → answer ≡ Throws w
        → RefinesStatement s for_in_value t (act.Complete (completion.Throw w))
    visits_thrown t answer w is stored comes thrown =
        of_value false t (act.Complete (completion.Throw w)) is
        (completes_thrown s t stored (to_object v) w (visits_from (context_of s.calls here))
        (subst (λ b. BigStep (to_object v) s.store t.store (ends_with b)) thrown comes))
