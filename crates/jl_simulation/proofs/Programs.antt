-- The woven program simulates the program.
use Rattle.std.proofs.Common.{◌≡◌, ℕ, ◌+◌, Bool, false, [], ◌++◌, codes, refl, sym, ap, ◌∙◌, subst, subst₂, arith}
use Rattle.std.specs.Prelude.{if◌then◌else◌, ◌||◌}
use Rattle.jl_ast.specs.Tree as tree
use Rattle.jl_ast.specs.Tree.{Forest, Program}
use Rattle.jl_scope.specs.Hoisting.{declared_in, declared_in_forest}
use Rattle.jl_scope.specs.Names.{with_names}
use Rattle.jl_value.specs.declared.ending.Completion.{Completion}
use Rattle.jl_value.specs.declared.ending.Completion.TheVariants as completion
use Rattle.jl_value.specs.declared.value.Value.{Value}
use Rattle.jl_heap.specs.declared.inner.Inner.{Inner}
use Rattle.jl_op.specs.Chosen.{is_kept, Kinds}
use Rattle.jl_op.specs.Ids.{forest_id_count, forest_with_ids, id_count, program_with_ids, with_ids}
use Rattle.jl_op.specs.declared.kind.OpKind.TheVariants as kind
use Rattle.jl_op.specs.declared.op.Op.TheVariants as op
use Rattle.jl_effects.specs.Effects.{and_then, End, Step}
use Rattle.jl_effects.specs.Matching.{ends, extra, fails, looks, own, peeks, told, Simulates}
use Rattle.jl_effects.proofs.Chains.{and_then-assoc}
use Rattle.jl_effects.proofs.Simulation.{simulates}
use Rattle.jl_meaning.specs.Completions.{if_normal, normal, on_given, then_do}
use Rattle.jl_meaning.specs.DeclarationBinding.{declare_program}
use Rattle.jl_meaning.specs.FunctionObjects.{callee_of, FunctionTable}
use Rattle.jl_meaning.specs.FunctionTable.{forest_functions, function_table, functions_in}
use Rattle.jl_meaning.specs.Jobs.{job}
use Rattle.jl_meaning.specs.Mean.{end_of, global_context, language, run_of, script}
use Rattle.jl_meaning.specs.Noting.{note, performs}
use Rattle.jl_meaning.specs.Parts.{lift, Algorithm, Answer, Code, Context, Part, Stmts}
use Rattle.jl_meaning.specs.Realm.{realm}
use Rattle.jl_meaning.specs.Statements.{execute, execute_all}
use Rattle.jl_meaning.specs.Store.{Store}
use Rattle.jl_meaning.specs.forms.HookCalls.{enters_script, exits_script}
use Rattle.jl_meaning.specs.forms.Hooks.{enter_hook}
use Rattle.jl_simulation.specs.HookCalls as weaving
use Rattle.jl_simulation.specs.HookCalls.{and_last, begin_and_end, hook, hook_statement}
use Rattle.jl_simulation.specs.Plain.{HasFewIds, IsPlain}
use Rattle.jl_simulation.specs.Simulation.{WovenSimulates}
use Rattle.jl_simulation.specs.Weaving.{weave, woven_forest, woven_of, woven_program}
use Rattle.jl_simulation.specs.inner.Fit.{AllFit, Fits}
use Rattle.jl_simulation.proofs.Chosen.{first_not, second_not, split}
use Rattle.jl_simulation.proofs.Completions.{valued}
use Rattle.jl_simulation.proofs.Declarations.{program_same}
use Rattle.jl_simulation.proofs.Fitting.{fits}
use Rattle.jl_simulation.proofs.HookCalls.{hook_plain_0}
use Rattle.jl_simulation.proofs.HookNames.{form_S, form_X}
use Rattle.jl_simulation.proofs.Jobs.{jobs_match}
use Rattle.jl_simulation.proofs.Mentions.{declared_forest}
use Rattle.jl_simulation.proofs.Recording.{simulates_keeping}
use Rattle.jl_simulation.proofs.Relation.{algorithm, alone, followed, quiet, AreJobs, Matched}
use Rattle.jl_simulation.proofs.Statements.{execute_all_match, execute_match}
use Rattle.jl_simulation.proofs.Tables.{callees_same, forests_match, table_append, TableMatch}

-- J$.S(1); and J$.X(2);
abbrev statement_S : weaving.Stmt
statement_S = hook_statement (hook (codes "S") 1 tree.end)

abbrev statement_X : weaving.Stmt
statement_X = hook_statement (hook (codes "X") 2 tree.end)

last_functions : (strict : Bool) (j : ℕ) (m : weaving.Stmts)
    → forest_functions strict (forest_with_ids j (and_last m statement_X)) ≡ forest_functions strict
    (forest_with_ids j m)
last_functions strict j tree.end = refl
last_functions strict j (tree.more t l) =
    ap (◌++◌ (functions_in strict (with_ids j t))) (last_functions strict (j + id_count t) l)

last_declared : (j : ℕ) (m : weaving.Stmts)
    → declared_in_forest (forest_with_ids j (and_last m statement_X)) ≡ declared_in_forest (forest_with_ids j m)
last_declared j tree.end = refl
last_declared j (tree.more t l) = ap (◌++◌ (declared_in (with_ids j t))) (last_declared (j + id_count t) l)

-- a program that has its ids, and the woven one with its own
abbrev pub program_of : Code → Program ℕ
program_of b = record { body = b; at = 1 }

abbrev pub woven_program_of : Kinds → Code → Program ℕ
woven_program_of chosen b = program_with_ids (woven_of chosen (program_of b))

-- how a program ends
abbrev exits : Part Completion
exits = and_then (note performs 2 (λ heap. op.ScriptExit)) (on_given (λ _. normal))

module _ (chosen : Kinds) where
  -- the statements of the woven program
  abbrev all_of : Bool → Stmts → weaving.Stmts
  all_of which l = if which then begin_and_end 1 (woven_forest chosen l) else woven_forest chosen l

  abbrev tells_script : Bool
  tells_script = chosen kind.ScriptEnter || chosen kind.ScriptExit

  -- the table of the woven program is the woven table
  program_table : (b : Code) → Fits b
      → TableMatch chosen (function_table (program_of b)) (function_table (woven_program_of chosen b))
  unfolding function_table
  program_table (tree.body st fs l) p =
      let n : ℕ = 3 + forest_id_count (woven_forest chosen fs) in
      let j : ℕ = n + id_count statement_S in
      table_append (forests_match chosen st fs p.0 3)
      (split tells_script
      (λ which. TableMatch chosen (forest_functions st l) (forest_functions st (forest_with_ids n (all_of which l))))
      (subst (TableMatch chosen (forest_functions st l)) (sym (last_functions st j (woven_forest chosen l)))
      (forests_match chosen st l p.1 j)) (λ e. forests_match chosen st l p.1 n))

  end_to : (z : Completion) (t : Store) (c : ℕ) → Matched chosen t c 0 (end_of z) (end_of z)
  end_to completion.Normal t c = ends (omega arith)
  end_to (completion.Throw v) t c = ends (omega arith)
  end_to (completion.Return v) t c = fails
  end_to (completion.Break x) t c = fails
  end_to (completion.Continue x) t c = fails

  -- the second's own ScriptExit
  exit_alone : (z : Completion) (t : Store) (c : ℕ) → Matched chosen t c 0 (End z) (if_normal exits z)
  exit_alone completion.Normal t c = peeks (own (ends (omega arith)))
  exit_alone (completion.Return v) t c = ends (omega arith)
  exit_alone (completion.Throw v) t c = ends (omega arith)
  exit_alone (completion.Break x) t c = ends (omega arith)
  exit_alone (completion.Continue x) t c = ends (omega arith)

  -- one that is not chosen
  exit_silent : chosen kind.ScriptExit ≡ false → (z : Completion) (t : Store) (c : ℕ)
      → Matched chosen t c 0 (if_normal exits z) (if_normal exits z)
  exit_silent e completion.Normal t c = looks (peeks (quiet e (own (ends (omega arith)))))
  exit_silent e (completion.Return v) t c = ends (omega arith)
  exit_silent e (completion.Throw v) t c = ends (omega arith)
  exit_silent e (completion.Break x) t c = ends (omega arith)
  exit_silent e (completion.Continue x) t c = ends (omega arith)

  -- statements, and one more in the second alone
  last_to : (table table' : FunctionTable) → ((i : Inner) → callee_of table i ≡ callee_of table' i) → (l : Stmts)
      → AllFit l → (last : weaving.Stmt) (j : ℕ) (c : Context) (p : Part Completion) (d : ℕ)
      → ((j : ℕ) (t : Store) → Matched chosen t d 0 p (execute_all table' (forest_with_ids j
      (tree.more last tree.end)) c))
      → (s : Store)
      → Matched chosen s d 0 (then_do (execute_all table l c) p)
      (execute_all table' (forest_with_ids j (and_last (woven_forest chosen l) last)) c)
  last_to table table' same tree.end h last j c p d f s = f j s
  last_to table table' same (tree.more a l) h last j c p d f s =
      let m : ℕ = j + id_count (weave chosen a) in
      let r : (t : Store) → Matched chosen t d 0 (then_do (execute_all table l c) p)
      (execute_all table' (forest_with_ids m (and_last (woven_forest chosen l) last)) c) =
      last_to table table' same l h.1 last m c p d f in
      subst (λ q. Matched chosen s d 0 q
      (execute_all table' (forest_with_ids j (and_last (woven_forest chosen (tree.more a l)) last)) c))
      (sym (and_then-assoc (execute table a [] c) (if_normal (execute_all table l c)) (if_normal p)))
      (followed ((execute_match chosen table table' same a h.0 [] j c).at s d)
      (on (execute_all table l c) (execute_all table' (forest_with_ids m (and_last (woven_forest chosen l) last)) c) r))
    where
      on : (x y : Part Completion) → ((t : Store) → Matched chosen t d 0 (then_do x p) y) → (z : Completion) (t : Store)
          → Matched chosen t d 0 (and_then (if_normal x z) (if_normal p)) (if_normal y z)
      on x y r completion.Normal t = r t
      on x y r (completion.Return v) t = ends (omega arith)
      on x y r (completion.Throw v) t = ends (omega arith)
      on x y r (completion.Break l) t = ends (omega arith)
      on x y r (completion.Continue l) t = ends (omega arith)

  -- what the woven program does, by what it declares and what its statements do
  abbrev woven_script : Algorithm (Unit {0}) → Part Completion → Part Completion
  woven_script d p =
      and_then (lift d) (on_given (λ _. and_then (note performs 1 (λ heap. op.ScriptEnter)) (on_given (λ _.
      and_then (then_do p exits) end_of))))

  -- a program and its woven one, with 64 steps to spare
  script_match : (b : Code) → Fits b → (s : Store)
      → Matched chosen s 64 0 (script (program_of b)) (script (woven_program_of chosen b))
  unfolding enter_hook
  script_match (tree.body st fs l) p s =
      let b : Code = tree.body st fs l in
      let c : Context = global_context (program_of b) in
      let table : FunctionTable = function_table (program_of b) in
      let table' : FunctionTable = function_table (woven_program_of chosen b) in
      let same : (i : Inner) → callee_of table i ≡ callee_of table' i = callees_same (program_table b p) in
      let n : ℕ = 3 + forest_id_count (woven_forest chosen fs) in
      let j : ℕ = n + id_count statement_S in
      let fs' : Forest ℕ tree.func = forest_with_ids 3 (woven_forest chosen fs) in
      let all : weaving.Stmts = and_last (woven_forest chosen l) statement_X in
      let one_first : Part (Answer Value) → Part Completion = λ q.
      then_do (Step (and_then q (on_given (λ _. normal)))) (execute_all table' (forest_with_ids j all) c) in
      let exit_told : (j : ℕ) (t : Store)
      → Matched chosen t 61 0 exits (execute_all table' (forest_with_ids j (tree.more statement_X tree.end)) c) =
      λ j t. subst (λ q. Matched chosen t 61 0 exits (then_do (Step (and_then q (on_given (λ _. normal)))) normal))
      (sym (hook_plain_0 table' c (codes "X") exits_script form_X 2 (omega arith) j))
      (looks (extra (extra (extra (told (ends (omega arith))))))) in
      split tells_script (λ which. Matched chosen s 64 0 (script (program_of b))
      (woven_script (declare_program (tree.body st fs' (forest_with_ids n (all_of which l))) c)
      (execute_all table' (forest_with_ids n (all_of which l)) c)))
      (subst₂ (λ d q. Matched chosen s 64 0 (script (program_of b)) (woven_script d (one_first q)))
      (program_same chosen st fs l (forest_with_ids n (tree.more statement_S all)) 3 c
      (ap (with_names []) (sym (last_declared j (woven_forest chosen l) ∙ declared_forest chosen l j))))
      (sym (hook_plain_0 table' c (codes "S") enters_script form_S 1 (omega arith) n))
      (valued {d = 64} (omega arith) (algorithm (declare_program b c)) (λ u t.
      looks (peeks (own (extra (extra (extra (told (followed
      (alone (last_to table table' same l p.1 statement_X j c exits 61 exit_told t) (λ z t. exit_alone z t 0))
      (λ z t. end_to z t 0)))))))))))
      (λ e. subst (λ d. Matched chosen s 64 0 (script (program_of b))
      (woven_script d (execute_all table' (forest_with_ids n (woven_forest chosen l)) c)))
      (program_same chosen st fs l (forest_with_ids n (woven_forest chosen l)) 3 c
      (ap (with_names []) (sym (declared_forest chosen l n))))
      (valued {d = 64} (omega arith) (algorithm (declare_program b c)) (λ u t.
      looks (peeks (quiet (first_not (chosen kind.ScriptEnter) (chosen kind.ScriptExit) e) (own (followed
      (followed ((execute_all_match chosen table table' same l p.1 n c).at t 64)
      (λ z t. exit_silent (second_not (chosen kind.ScriptEnter) (chosen kind.ScriptExit) e) z t 64))
      (λ z t. end_to z t 0))))))))

  code_simulates : (b : Code) → Fits b
      → Simulates (is_kept chosen) (λ n. run_of chosen (program_of b) n) (λ n. run_of chosen
      (woven_program_of chosen b) n)
  unfolding language
  code_simulates b p =
      let table : FunctionTable = function_table (program_of b) in
      let table' : FunctionTable = function_table (woven_program_of chosen b) in
      simulates_keeping language (is_kept chosen) (job table) (script (program_of b)) realm
      (λ n. run_of chosen (woven_program_of chosen b) n)
      (simulates language (is_kept chosen) (AreJobs chosen) (job table) (job table')
      (jobs_match chosen table table' (program_table b p)) realm (script (program_of b))
      (script (woven_program_of chosen b)) (script_match b p realm))

  pub woven_simulates : {S : Type 0} (p : Program S) → IsPlain p.body → HasFewIds p → WovenSimulates chosen p
  unfolding woven_program
  woven_simulates p plain few = code_simulates (with_ids 3 p.body) (fits p.body plain 3 (omega arith))
