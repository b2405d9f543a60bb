-- More depth keeps a value.
use Rattle.std.proofs.Common.{◌≡◌, ℕ, zero, suc, ◌≤◌, pos, Bool, true, false, List, [], ◌∷◌, ◌++◌, map, Option, Some, None, refl, subst, arith, if◌then◌else◌}
use Rattle.gib_types.specs.declared.table.Ty.{Ty}
use Rattle.gib_types.specs.Table.{Table, fields_at}
use Rattle.gib_types.specs.Tree.{Datum, whole, con, data_of}
use Rattle.gib_syntax.specs.Tree.{Expression, Arguments, Arms, Var, Num, Bit, Paren, Op, Call, Make, Let, Par, If, Case, Tuple, LetSeveral, ParSeveral, NoArgument, Argument, LastArm, NextArm, FunctionTree, ProgramTree}
use Rattle.gib_syntax.specs.Declarations.{number_of, constructor_named, function_named, table_of_program, type_of_name}
use Rattle.gib_syntax.specs.Meaning.{Outcome, Gives, Stops, Environment, value_in, bind, bind_results, tuple, with_value, with_values, with_fields, is_scalar, at_fields, number_in, is_true, is_made_by, parts, outcome, made, choose, eval, eval_all, eval_arms, names_of, of_function, calls, run}

-- where the first outcome is a value, the second is the same
abbrev pub Keeps : Outcome → Outcome → Type 0
Keeps (Gives v) s = s ≡ Gives v
Keeps (Stops why) s = Unit {0}

abbrev pub AllKeep : List Outcome → List Outcome → Type 0
AllKeep [] [] = Unit {0}
AllKeep [] (s ∷ ss) = ⊥
AllKeep (r ∷ rs) [] = ⊥
AllKeep (r ∷ rs) (s ∷ ss) = Keeps r s × AllKeep rs ss

same_keeps : (r : Outcome) → Keeps r r
same_keeps (Gives v) = refl
same_keeps (Stops why) = tt {0}

with_value_keeps : (r s : Outcome) (go went : Datum → Outcome) → Keeps r s → ((v : Datum) → Keeps (go v) (went v)) → Keeps (with_value r go) (with_value s went)
with_value_keeps (Gives v) s go went h k = rw h (k v)
with_value_keeps (Stops why) s go went h k = tt {0}

with_values_keeps : (rs ss : List Outcome) (go went : List Datum → Outcome) → AllKeep rs ss → ((vs : List Datum) → Keeps (go vs) (went vs)) → Keeps (with_values rs go) (with_values ss went)
with_values_keeps [] [] go went h k = k []
with_values_keeps [] (s ∷ ss) go went h k = absurd h
with_values_keeps (r ∷ rs) [] go went h k = absurd h
with_values_keeps (Stops why ∷ rs) (s ∷ ss) go went h k = tt {0}
with_values_keeps (Gives v ∷ rs) (s ∷ ss) go went h k = rw h.0 (with_values_keeps rs ss (λ vs. go (v ∷ vs)) (λ vs. went (v ∷ vs)) h.1 (λ vs. k (v ∷ vs)))

append_keep : (rs ss us vs : List Outcome) → AllKeep rs ss → AllKeep us vs → AllKeep (rs ++ us) (ss ++ vs)
append_keep [] [] us vs h k = k
append_keep [] (s ∷ ss) us vs h k = absurd h
append_keep (r ∷ rs) [] us vs h k = absurd h
append_keep (r ∷ rs) (s ∷ ss) us vs h k = (h.0, append_keep rs ss us vs h.1 k)

take_keep : (b : Bool) (r s : Outcome) (rs ss : List Outcome) → Keeps r s → AllKeep rs ss → AllKeep (if b then r ∷ rs else rs) (if b then s ∷ ss else ss)
take_keep true r s rs ss h k = (h, k)
take_keep false r s rs ss h k = k

leave_keep : (b : Bool) (r s : Outcome) (rs ss : List Outcome) → Keeps r s → AllKeep rs ss → AllKeep (if b then rs else r ∷ rs) (if b then ss else s ∷ ss)
leave_keep true r s rs ss h k = k
leave_keep false r s rs ss h k = (h, k)

fields_keep : (b : Bool) (ts : List Ty) (rs ss : List Outcome) → AllKeep rs ss → AllKeep (at_fields b ts rs) (at_fields b ts ss)
fields_keep b [] rs ss h = tt {0}
fields_keep b (t ∷ ts) [] [] h = tt {0}
fields_keep b (t ∷ ts) [] (s ∷ ss) h = absurd h
fields_keep b (t ∷ ts) (r ∷ rs) [] h = absurd h
fields_keep true (t ∷ ts) (r ∷ rs) (s ∷ ss) h = take_keep (is_scalar t) r s (at_fields true ts rs) (at_fields true ts ss) h.0 (fields_keep true ts rs ss h.1)
fields_keep false (t ∷ ts) (r ∷ rs) (s ∷ ss) h = leave_keep (is_scalar t) r s (at_fields false ts rs) (at_fields false ts ss) h.0 (fields_keep false ts rs ss h.1)

with_fields_keeps : (ts : List Ty) (rs ss : List Outcome) (go : List Datum → Outcome) → AllKeep rs ss → Keeps (with_fields ts rs go) (with_fields ts ss go)
with_fields_keeps ts rs ss go h =
    with_values_keeps
    (at_fields true ts rs ++ at_fields false ts rs)
    (at_fields true ts ss ++ at_fields false ts ss)
    (λ _. with_values rs go) (λ _. with_values ss go)
    (append_keep (at_fields true ts rs) (at_fields true ts ss) (at_fields false ts rs) (at_fields false ts ss)
    (fields_keep true ts rs ss h) (fields_keep false ts rs ss h))
    (λ _. with_values_keeps rs ss go go h (λ vs. same_keeps (go vs)))

made_keeps : (table : Table) (found : Option ℕ) (rs ss : List Outcome) → AllKeep rs ss → Keeps (made table found rs) (made table found ss)
made_keeps table None rs ss h = refl
made_keeps table (Some c) rs ss h = with_fields_keeps (fields_at table c) rs ss (λ vs. Gives (con c (data_of vs))) h

choose_keeps : (b : Bool) (r s u w : Outcome) → Keeps r u → Keeps s w → Keeps (choose b r s) (choose b u w)
choose_keeps true r s u w h k = h
choose_keeps false r s u w h k = k

-- where a call is a value by the first, it is the same by the second
abbrev pub CallsKeep : (ℕ → List Datum → Outcome) → (ℕ → List Datum → Outcome) → Type 0
CallsKeep call more_call = (f : ℕ) (vs : List Datum) → Keeps (call f vs) (more_call f vs)

mutual
  eval_keeps : (table : Table) (call more_call : ℕ → List Datum → Outcome) → CallsKeep call more_call → (e : Expression) (env : Environment) → Keeps (eval table call e env) (eval table more_call e env)
  eval_keeps table call more_call h (Var x) env = refl
  eval_keeps table call more_call h (Num p n) env = refl
  eval_keeps table call more_call h (Bit p b) env = refl
  eval_keeps table call more_call h (Paren p e) env = eval_keeps table call more_call h e env
  eval_keeps table call more_call h (Op p f a b) env =
      with_value_keeps (eval table call a env) (eval table more_call a env) _ _ (eval_keeps table call more_call h a env)
      (λ x. with_value_keeps (eval table call b env) (eval table more_call b env) _ _ (eval_keeps table call more_call h b env) (λ y. same_keeps (outcome f (number_in x) (number_in y))))
  eval_keeps table call more_call h (Call f xs) env =
      with_values_keeps (eval_all table call xs env) (eval_all table more_call xs env) (call (number_of f)) (more_call (number_of f))
      (all_keep table call more_call h xs env) (λ vs. h (number_of f) vs)
  eval_keeps table call more_call h (Make k xs) env =
      made_keeps table (constructor_named table (number_of k)) (eval_all table call xs env) (eval_all table more_call xs env) (all_keep table call more_call h xs env)
  eval_keeps table call more_call h (Let p x a b) env =
      with_value_keeps (eval table call a env) (eval table more_call a env) _ _ (eval_keeps table call more_call h a env)
      (λ v. eval_keeps table call more_call h b ((number_of x, v) ∷ env))
  eval_keeps table call more_call h (Par p x a y b c) env =
      with_value_keeps (eval table call a env) (eval table more_call a env) _ _ (eval_keeps table call more_call h a env)
      (λ v. with_value_keeps (eval table call b env) (eval table more_call b env) _ _ (eval_keeps table call more_call h b env)
      (λ w. eval_keeps table call more_call h c ((number_of y, w) ∷ (number_of x, v) ∷ env)))
  eval_keeps table call more_call h (If p a b c) env =
      with_value_keeps (eval table call a env) (eval table more_call a env) _ _ (eval_keeps table call more_call h a env)
      (λ v. choose_keeps (is_true v) (eval table call b env) (eval table call c env) (eval table more_call b env) (eval table more_call c env)
      (eval_keeps table call more_call h b env) (eval_keeps table call more_call h c env))
  eval_keeps table call more_call h (Case p x arms) env = arms_keep table call more_call h arms (value_in env (number_of x)) env
  eval_keeps table call more_call h (Tuple p as' xs) env =
      with_fields_keeps (map (type_of_name table.types) as') (eval_all table call xs env) (eval_all table more_call xs env) (λ vs. Gives (tuple vs)) (all_keep table call more_call h xs env)
  eval_keeps table call more_call h (LetSeveral p qs a b) env =
      with_value_keeps (eval table call a env) (eval table more_call a env) _ _ (eval_keeps table call more_call h a env)
      (λ v. eval_keeps table call more_call h b (bind_results (names_of qs) v env))
  eval_keeps table call more_call h (ParSeveral p qs a rs b c) env =
      with_value_keeps (eval table call a env) (eval table more_call a env) _ _ (eval_keeps table call more_call h a env)
      (λ v. with_value_keeps (eval table call b env) (eval table more_call b env) _ _ (eval_keeps table call more_call h b env)
      (λ w. eval_keeps table call more_call h c (bind_results (names_of rs) w (bind_results (names_of qs) v env))))

  arms_keep : (table : Table) (call more_call : ℕ → List Datum → Outcome) → CallsKeep call more_call → (arms : Arms) (v : Datum) (env : Environment) → Keeps (eval_arms table call arms v env) (eval_arms table more_call arms v env)
  arms_keep table call more_call h (LastArm k xs e) v env =
      choose_keeps (is_made_by (constructor_named table (number_of k)) v) _ (Gives (whole (pos 0))) _ (Gives (whole (pos 0)))
      (eval_keeps table call more_call h e (bind xs (parts v) env)) refl
  arms_keep table call more_call h (NextArm k xs e arms) v env =
      choose_keeps (is_made_by (constructor_named table (number_of k)) v) _ _ _ _
      (eval_keeps table call more_call h e (bind xs (parts v) env)) (arms_keep table call more_call h arms v env)

  all_keep : (table : Table) (call more_call : ℕ → List Datum → Outcome) → CallsKeep call more_call → (xs : Arguments) (env : Environment) → AllKeep (eval_all table call xs env) (eval_all table more_call xs env)
  all_keep table call more_call h NoArgument env = tt {0}
  all_keep table call more_call h (Argument a xs) env = (eval_keeps table call more_call h a env, all_keep table call more_call h xs env)

function_keeps : (found : Option FunctionTree) (go went : FunctionTree → Outcome) → ((g : FunctionTree) → Keeps (go g) (went g)) → Keeps (of_function found go) (of_function found went)
function_keeps None go went h = refl
function_keeps (Some g) go went h = h g

pub calls_keep : (p : ProgramTree) (m n : ℕ) → m ≤ n → CallsKeep (calls p m) (calls p n)
calls_keep p zero n le f vs = tt {0}
calls_keep p (suc m) zero le f vs = absurd (omega arith)
calls_keep p (suc m) (suc n) le f vs =
    function_keeps (function_named p.functions f) _ _
    (λ g. eval_keeps (table_of_program p) (calls p m) (calls p n) (calls_keep p m n (omega arith)) g.body (bind (names_of g.parameters) vs []))

kept : (r s : Outcome) (v : Datum) → r ≡ Gives v → Keeps r s → s ≡ Gives v
kept r s v e h = let P : Outcome → Type 0 = λ u. Keeps u s in subst P e h

pub run_keeps : (p : ProgramTree) (m n : ℕ) (v result : Datum) → m ≤ n → run p m v ≡ Gives result → run p n v ≡ Gives result
run_keeps p m n v result le e =
    kept (run p m v) (run p n v) result e
    (eval_keeps (table_of_program p) (calls p m) (calls p n) (calls_keep p m n le) p.main.body ((number_of p.main.parameter.name, v) ∷ []))
