-- Each construct in each place.
use Rattle.std.proofs.Common.{◌≡◌, ℕ, suc, ◌+◌, ◌≤◌, Bool, true, false, List, [], ◌∷◌, ◌++◌, map, length, refl, sym, ap, ◌∙◌, subst, arith}
use Rattle.gib_base.specs.declared.name.Name.{Name}
use Rattle.gib_types.specs.declared.table.Ty.{Ty}
use Rattle.gib_types.specs.declared.table.Ty.TheVariants.{Whole, Truth, Tree}
use Rattle.gib_types.specs.declared.table.ConId.{ConId}
use Rattle.gib_types.specs.Table.{Table, fields_at}
use Rattle.gib_types.specs.Tree.{Datum, con, data_of}
use Rattle.gib_syntax.specs.declared.tree.Ident.{Ident}
use Rattle.gib_types.specs.declared.operator.Operator.{Operator}
use Rattle.gib_syntax.specs.Results as results
use Rattle.gib_syntax.specs.Results.{Results}
use Rattle.gib_syntax.specs.Declarations.{number_of}
use Rattle.gib_syntax.specs.Meaning.{Outcome, Gives, Stops, Environment, with_value, at_fields, with_fields, number_in, is_true, outcome, choose}
use Rattle.gib_core.specs.declared.atom.Atom.{Atom}
use Rattle.gib_core.specs.declared.atom.Kind.TheVariants.{Scalar}
use Rattle.gib_core.specs.Tree.{Term, Write, CallTerm, Give, IfTerm, Bind, Past, One, Prim, On, var, variables_from, prepend}
use Rattle.gib_core.specs.Meaning.{Calls, value, merge, Reached, Went, from_there, and_on, having, mean, run_all}
use Rattle.gib_core.specs.Inferring.{Scope, slot, Several, ToLine, ToAtom, Code, boxed, given, of_line, of_atom, result_of, plain_line, of_plain, several, operation_atom, call_line, call_atom, call_side, scalar_call, call_code, further_types, pointed_fields, as_atoms, make_line, let_line, if_line}
use Rattle.gib_core.proofs.Agreeing.{env_of, IsBelow, AllBelow, EachBelow, Keeps, Together, also, gather, with_all, each_of, Agree, came, halted, Collects, got, missed, Lines, Atoms, Manys, Good, AllGood}
use Rattle.gib_core.proofs.Envs.{value_in-here, keeps_same, keeps_bind, keeps_more, keeps_less, below_less, all_below_less, each_below_less, value-keeps, values-keep, env_of-keeps, run_all-append, mean-prepend, agree_then, gives_then, with_value-Gives, collects_then, gives_all}
use Rattle.gib_core.proofs.Lining.{prepend-append}
use Rattle.gib_infer.proofs.Together.{fields_merged}

module _ (tb : Table) (call : Calls) where
  -- a bound side
  boxed_agree : (n : ℕ) (env : Environment) (o : Outcome) → Agree n (var n) env o (and_on (having o (λ v. Went ((n, v) ∷ env))) (run_all tb call []))
  boxed_agree n env (Gives v) = came (value_in-here n v env) (keeps_bind n n v env (omega arith))
  boxed_agree n env (Stops why) = halted

  pub boxed_good : (line : ToLine) (sc : Scope) (n : ℕ) (env : Environment) (o : Outcome) → Lines tb call (n + 1) (line sc (n + 1)) env o → Atoms tb call n (boxed line sc n) env o
  boxed_good line sc n env o h = record {
    grows = (let g = h.grows in omega arith);
    below = (let g = h.grows in omega arith);
    agree = rw h.gives (boxed_agree n env o);
  }

  pub given_good : (atom : ToAtom) (sc : Scope) (n : ℕ) (env : Environment) (o : Outcome) → Atoms tb call n (atom sc n) env o → Lines tb call n (given atom sc n) env o
  given_good atom sc n env o h = record {
    grows = h.grows;
    gives = mean-prepend tb call (atom sc n).binds (Give (atom sc n).atom) env ∙ gives_then (mean tb call (Give (atom sc n).atom)) Gives h.agree (λ v new e k. ap Gives e) ∙ with_value-Gives o;
  }

  pub line_good : (line : ToLine) (f : Environment → Outcome) (sc : Scope) → ((n : ℕ) (env : Environment) → AllBelow n sc → Lines tb call n (line sc n) env (f (env_of sc env))) → Good tb call (of_line line) f sc
  line_good line f sc h = record {
    line = h;
    side = h;
    atom = λ n env b. boxed_good line sc n env (f (env_of sc env)) (h (n + 1) env (all_below_less n (n + 1) sc (omega arith) b));
    bound = λ n env b. boxed_good line sc n env (f (env_of sc env)) (h (n + 1) env (all_below_less n (n + 1) sc (omega arith) b));
  }

  pub atom_good : (atom : ToAtom) (f : Environment → Outcome) (sc : Scope) → ((n : ℕ) (env : Environment) → AllBelow n sc → Atoms tb call n (atom sc n) env (f (env_of sc env))) → Good tb call (of_atom atom) f sc
  atom_good atom f sc h = record {
    line = λ n env b. given_good atom sc n env (f (env_of sc env)) (h n env b);
    side = λ n env b. given_good atom sc n env (f (env_of sc env)) (h n env b);
    atom = h;
    bound = h;
  }

  result_mean : (ty : Ty) (a : Atom) (env : Environment) → mean tb call (result_of ty a) env ≡ Gives (value env a)
  result_mean Whole a env = refl
  result_mean Truth a env = refl
  result_mean (Tree id) a env = refl

  plain_lined : (ty : Scope → Ty) (atom : Scope → Atom) (sc : Scope) (n : ℕ) (env : Environment) (o : Outcome) → Gives (value env (atom sc)) ≡ o → Lines tb call n (plain_line ty atom sc n) env o
  plain_lined ty atom sc n env o e = record { grows = omega arith; gives = result_mean (ty sc) (atom sc) env ∙ e }

  plain_agree : (n : ℕ) (a : Atom) (env : Environment) (o : Outcome) → Gives (value env a) ≡ o → Agree n a env o (Went env)
  plain_agree n a env o e = subst (λ (p : Outcome). Agree n a env p (Went env)) e (came refl (keeps_same n env))

  pub plain_good : (ty : Scope → Ty) (atom : Scope → Atom) (f : Environment → Outcome) (sc : Scope) → ((n : ℕ) → AllBelow n sc → IsBelow n (atom sc)) → ((env : Environment) → Gives (value env (atom sc)) ≡ f (env_of sc env)) → Good tb call (of_plain ty atom) f sc
  plain_good ty atom f sc b e = record {
    line = λ n env h. plain_lined ty atom sc n env (f (env_of sc env)) (e env);
    side = λ n env h. plain_lined ty atom sc n env (f (env_of sc env)) (e env);
    atom = λ n env h. record { grows = omega arith; below = b n h; agree = plain_agree n (atom sc) env (f (env_of sc env)) (e env) };
    bound = λ n env h. boxed_good (plain_line ty atom) sc n env (f (env_of sc env)) (plain_lined ty atom sc (n + 1) env (f (env_of sc env)) (e env));
  }

  -- an operation
  prim_agree : (n : ℕ) (env : Environment) (o : Outcome) → Agree n (var n) env o (and_on (having o (λ v. Went ((n, v) ∷ env))) (run_all tb call []))
  prim_agree n env o = boxed_agree n env o

  pub operation_good : (op : Operator) (left right : ToAtom) (f g : Environment → Outcome) (sc : Scope) → ((n : ℕ) (env : Environment) → AllBelow n sc → Atoms tb call n (left sc n) env (f (env_of sc env))) → ((n : ℕ) (env : Environment) → AllBelow n sc → Atoms tb call n (right sc n) env (g (env_of sc env))) → (n : ℕ) (env : Environment) → AllBelow n sc → Atoms tb call n (operation_atom op left right sc n) env (with_value (f (env_of sc env)) (λ v. with_value (g (env_of sc env)) (λ w. outcome op (number_in v) (number_in w))))
  operation_good op left right f g sc hf hg n env b =
      let a = left sc n in
      let l = hf n env b in
      let c = right sc a.fresh in
      let up = l.grows in
      let b' : AllBelow a.fresh sc = all_below_less n a.fresh sc l.grows b in
      let up' = (hg a.fresh env b').grows in
      let prim = Prim (record { 0 = c.fresh }) op a.atom c.atom in
      record {
        grows = omega arith;
        below = omega arith;
        agree = rw run_all-append (agree_then (run_all tb call (c.binds ++ prim ∷ [])) (λ v. with_value (g (env_of sc env)) (λ w. outcome op (number_in v) (number_in w))) l.agree
            (λ v e1 is1 k1.
            let r = hg a.fresh e1 b' in
            let same : g (env_of sc e1) ≡ g (env_of sc env) = ap g (env_of-keeps sc k1 b) in
            rw (run_all-append, sym same) (agree_then (run_all tb call (prim ∷ [])) (λ w. outcome op (number_in v) (number_in w)) r.agree
            (λ w e2 is2 k2. rw (value-keeps a.atom k2 l.below, is1, is2) (prim_agree c.fresh e2 (outcome op (number_in v) (number_in w))))
            up'))
            up);
      }

  -- arguments
  cons_collects : {n m : ℕ} {a : Atom} {xs : List Atom} {env mid : Environment} {v : Datum} {p : Together} {r : Reached} → value mid a ≡ v → Keeps n env mid → IsBelow m a → n ≤ m → Collects m xs mid p r → Collects n (a ∷ xs) env (also (Gives v) p) r
  cons_collects {a = a} e k b le (got {vs} {new} es k2) = got (λ i. (value-keeps a k2 b ∙ e) i ∷ es i) (keeps_more k k2 le)
  cons_collects e k b le missed = missed

  also_collects : {n m : ℕ} {a : Atom} {xs : List Atom} {env : Environment} {o : Outcome} {r : Reached} (go : Environment → Reached) (p : Together) → Agree n a env o r → IsBelow m a → n ≤ m → ((new : Environment) → Keeps n env new → Collects m xs new p (go new)) → Collects n (a ∷ xs) env (also o p) (and_on r go)
  also_collects go p (came {v} {new} e k) b le h = cons_collects e k b le (h new k)
  also_collects go p halted b le h = missed

  pub several_good : (cs : List Code) (fs : List (Environment → Outcome)) (sc : Scope) → AllGood tb call cs fs sc → (n : ℕ) (env : Environment) → AllBelow n sc → Manys tb call n (several cs sc n) env (gather (each_of fs (env_of sc env)))
  several_good [] [] sc h n env b = record { grows = omega arith; below = tt; agree = got refl (keeps_same n env) }
  several_good [] (f ∷ fs) sc h n env b = absurd h
  several_good (c ∷ cs) [] sc h n env b = absurd h
  several_good (c ∷ cs) (f ∷ fs) sc h n env b =
      let a = c.atom sc n in
      let l = h.0.atom n env b in
      let b' : AllBelow a.fresh sc = all_below_less n a.fresh sc l.grows b in
      let r = several cs sc a.fresh in
      let rest = several_good cs fs sc h.1 a.fresh env b' in
      let up = l.grows in
      let up' = rest.grows in
      record {
        grows = omega arith;
        below = (below_less a.fresh r.fresh a.atom up' l.below, rest.below);
        agree = rw run_all-append (also_collects (run_all tb call r.binds) (gather (each_of fs (env_of sc env))) l.agree l.below up
            (λ new k.
            let same : gather (each_of fs (env_of sc new)) ≡ gather (each_of fs (env_of sc env)) = ap (λ e. gather (each_of fs e)) (env_of-keeps sc k b) in
            subst (λ (p : Together). Collects a.fresh r.atoms new p (run_all tb call r.binds new)) same (several_good cs fs sc h.1 a.fresh new b').agree));
      }

  -- calls
  pub call_line_good : (ty : Ty) (f : Name) (r : Several) (p : Together) (n : ℕ) (env : Environment) → Manys tb call n r env p → Lines tb call n (call_line ty f r) env (with_all p (call f.0))
  call_line_good ty f r p n env h = record {
    grows = h.grows;
    gives = mean-prepend tb call r.binds (CallTerm f r.atoms) env ∙ gives_all (mean tb call (CallTerm f r.atoms)) (call f.0) h.agree (λ vs new e k. ap (call f.0) e);
  }

  pub call_atom_good : (ty : Ty) (f : Name) (r : Several) (p : Together) (n : ℕ) (env : Environment) → Manys tb call n r env p → Atoms tb call n (call_atom ty f r) env (with_all p (call f.0))
  call_atom_good ty f r p n env h =
      let up = h.grows in
      let one = One (On Scalar (record { 0 = r.fresh }) ty (CallTerm f r.atoms)) in
      record {
        grows = omega arith;
        below = omega arith;
        agree = rw run_all-append (collects_then (run_all tb call (one ∷ [])) (call f.0) h.agree (λ vs new e k. rw e (boxed_agree r.fresh new (call f.0 vs))) up);
      }

  no_binds_mean : (f : Name) (r : Several) (p : Together) (n : ℕ) (env : Environment) → Collects n r.atoms env p (Went env) → mean tb call (CallTerm f r.atoms) env ≡ with_all p (call f.0)
  no_binds_mean f r p n env (got {vs} e k) = ap (call f.0) e

  pub call_side_good : (ty : Ty) (f : Name) (r : Several) (p : Together) (n : ℕ) (env : Environment) (bs : List Bind) → r.binds ≡ bs → Manys tb call n r env p → Lines tb call n (call_side ty f r bs) env (with_all p (call f.0))
  call_side_good ty f r p n env [] e h = record {
    grows = h.grows;
    gives = no_binds_mean f r p n env (subst (λ (b : List Bind). Collects n r.atoms env p (run_all tb call b env)) e h.agree);
  }
  call_side_good ty f r p n env (b ∷ bs) e h = given_good (λ sc n. call_atom ty f r) [] n env (with_all p (call f.0)) (call_atom_good ty f r p n env h)

  region_good : (ty : Ty) (f : Name) (cs : List Code) (fs : List (Environment → Outcome)) (sc : Scope) → AllGood tb call cs fs sc
      → Good tb call (of_line (λ sc n. call_line ty f (several cs sc n))) (λ env. with_all (gather (each_of fs env)) (call f.0)) sc
  region_good ty f cs fs sc h = line_good (λ sc n. call_line ty f (several cs sc n)) (λ env. with_all (gather (each_of fs env)) (call f.0)) sc
      (λ n env b. call_line_good ty f (several cs sc n) (gather (each_of fs (env_of sc env))) n env (several_good cs fs sc h n env b))

  scalar_good : (ty : Ty) (f : Name) (cs : List Code) (fs : List (Environment → Outcome)) (sc : Scope) → AllGood tb call cs fs sc → Good tb call (scalar_call ty f cs) (λ env. with_all (gather (each_of fs env)) (call f.0)) sc
  scalar_good ty f cs fs sc h =
      let g = atom_good (λ sc n. call_atom ty f (several cs sc n)) (λ env. with_all (gather (each_of fs env)) (call f.0)) sc (λ n env b. call_atom_good ty f (several cs sc n) (gather (each_of fs (env_of sc env))) n env (several_good cs fs sc h n env b)) in
      record {
        line = g.line;
        side = λ n env b. call_side_good ty f (several cs sc n) (gather (each_of fs (env_of sc env))) n env (several cs sc n).binds refl (several_good cs fs sc h n env b);
        atom = g.atom;
        bound = g.bound;
      }

  pub call_good : (given : Results Ty) (f : Name) (cs : List Code) (fs : List (Environment → Outcome)) (sc : Scope) → AllGood tb call cs fs sc → Good tb call (call_code given f cs) (λ env. with_all (gather (each_of fs env)) (call f.0)) sc
  call_good (results.One (Tree id)) f cs fs sc h = region_good (Tree id) f cs fs sc h
  call_good (results.One Whole) f cs fs sc h = scalar_good Whole f cs fs sc h
  call_good (results.One Truth) f cs fs sc h = scalar_good Truth f cs fs sc h
  call_good (results.Several types) f cs fs sc h = region_good Whole f cs fs sc h

  -- constructors
  pub record Pointed (x : ℕ) (types : List Ty) (xs : List Atom) (env : Environment) : Type 0 where
    pub new : Environment
    pub runs : run_all tb call (pointed_fields x types xs) env ≡ Went new
    pub values : map (value new) (as_atoms (variables_from x xs)) ≡ map (value env) xs
    pub keeps : Keeps x env new

  pointed_fields_run : (x : ℕ) (types : List Ty) (xs : List Atom) (env : Environment) → EachBelow x xs → Pointed x types xs env
  pointed_fields_run x types [] env b = record { new = env; runs = refl; values = refl; keeps = keeps_same x env }
  pointed_fields_run x types (a ∷ xs) env b =
      let e1 : Environment = (x, value env a) ∷ env in
      let k1 : Keeps x env e1 = keeps_bind x x (value env a) env (omega arith) in
      let r = pointed_fields_run (x + 1) (further_types types) xs e1 (each_below_less x (x + 1) xs (omega arith) b.1) in
      record {
        new = r.new;
        runs = r.runs;
        values = (λ i. (r.keeps.same x (omega arith) ∙ value_in-here x (value env a) env) i ∷ (r.values ∙ values-keep xs k1 b.1) i);
        keeps = keeps_more k1 r.keeps (omega arith);
      }

  pub each_of-select : (kind : Bool) (types : List Ty) (fs : List (Environment → Outcome)) (env : Environment) → at_fields kind types (each_of fs env) ≡ each_of (at_fields kind types fs) env
  each_of-select kind [] fs env = refl
  each_of-select kind (t ∷ types) [] env = refl
  each_of-select true (Whole ∷ types) (f ∷ fs) env = ap (λ os. f env ∷ os) (each_of-select true types fs env)
  each_of-select true (Truth ∷ types) (f ∷ fs) env = ap (λ os. f env ∷ os) (each_of-select true types fs env)
  each_of-select true (Tree t ∷ types) (f ∷ fs) env = each_of-select true types fs env
  each_of-select false (Whole ∷ types) (f ∷ fs) env = each_of-select false types fs env
  each_of-select false (Truth ∷ types) (f ∷ fs) env = each_of-select false types fs env
  each_of-select false (Tree t ∷ types) (f ∷ fs) env = ap (λ os. f env ∷ os) (each_of-select false types fs env)

  pub select_good : (kind : Bool) (types : List Ty) (cs : List Code) (fs : List (Environment → Outcome)) (sc : Scope) → AllGood tb call cs fs sc → AllGood tb call (at_fields kind types cs) (at_fields kind types fs) sc
  select_good kind [] cs fs sc h = tt
  select_good kind (t ∷ types) [] [] sc h = tt
  select_good kind (t ∷ types) [] (f ∷ fs) sc h = absurd h
  select_good kind (t ∷ types) (c ∷ cs) [] sc h = absurd h
  select_good true (Whole ∷ types) (c ∷ cs) (f ∷ fs) sc h = (h.0, select_good true types cs fs sc h.1)
  select_good true (Truth ∷ types) (c ∷ cs) (f ∷ fs) sc h = (h.0, select_good true types cs fs sc h.1)
  select_good true (Tree t ∷ types) (c ∷ cs) (f ∷ fs) sc h = select_good true types cs fs sc h.1
  select_good false (Whole ∷ types) (c ∷ cs) (f ∷ fs) sc h = select_good false types cs fs sc h.1
  select_good false (Truth ∷ types) (c ∷ cs) (f ∷ fs) sc h = select_good false types cs fs sc h.1
  select_good false (Tree t ∷ types) (c ∷ cs) (f ∷ fs) sc h = (h.0, select_good false types cs fs sc h.1)

  -- the head, its fields, and the write
  abbrev pub tail_of : ConId → List Ty → Several → Several → List Bind
  tail_of k types ss ps = Past (record { 0 = ps.fresh }) k ∷ pointed_fields (ps.fresh + 1) types ps.atoms

  abbrev pub write_of : ConId → Several → Several → Term
  write_of k ss ps = Write (record { 0 = ps.fresh }) k ss.atoms (as_atoms (variables_from (ps.fresh + 1) ps.atoms))

  tail_mean : (k : ConId) (types : List Ty) (ss ps : Several) (env : Environment) (vs ws : List Datum) → EachBelow ps.fresh ss.atoms → EachBelow ps.fresh ps.atoms → map (value env) ss.atoms ≡ vs → map (value env) ps.atoms ≡ ws → mean tb call (prepend (tail_of k types ss ps) (write_of k ss ps)) env ≡ Gives (con k.0 (data_of (merge (fields_at tb k.0) vs ws)))
  tail_mean k types ss ps env vs ws bs bp es ep =
      let h = ps.fresh in
      let r = pointed_fields_run (h + 1) types ps.atoms env (each_below_less h (h + 1) ps.atoms (omega arith) bp) in
      let scalars : map (value r.new) ss.atoms ≡ vs = values-keep ss.atoms (keeps_less r.keeps (omega arith)) bs ∙ es in
      let fields : map (value r.new) (as_atoms (variables_from (h + 1) ps.atoms)) ≡ ws = r.values ∙ ep in
      mean-prepend tb call (pointed_fields (h + 1) types ps.atoms) (write_of k ss ps) env
      ∙ ap (λ z. from_there z (mean tb call (write_of k ss ps))) r.runs
      ∙ (λ i. Gives (con k.0 (data_of (merge (fields_at tb k.0) (scalars i) (fields i)))))

  pub each_length : (fs : List (Environment → Outcome)) (env : Environment) → length (each_of fs env) ≡ length fs
  each_length [] env = refl
  each_length (f ∷ fs) env = ap suc (each_length fs env)

  pub make_good : (k : ConId) (cs : List Code) (fs : List (Environment → Outcome)) (sc : Scope) → length fs ≡ length (fields_at tb k.0) → AllGood tb call cs fs sc → (n : ℕ) (env : Environment) → AllBelow n sc → Lines tb call n (make_line tb k cs sc n) env (with_fields (fields_at tb k.0) (each_of fs (env_of sc env)) (λ vs. Gives (con k.0 (data_of vs))))
  make_good k cs fs sc long h n env b =
      let flags = fields_at tb k.0 in
      let types = at_fields false flags flags in
      let ss = several (at_fields true flags cs) sc n in
      let s = several_good (at_fields true flags cs) (at_fields true flags fs) sc (select_good true flags cs fs sc h) n env b in
      let b' : AllBelow ss.fresh sc = all_below_less n ss.fresh sc s.grows b in
      let ps = several (at_fields false flags cs) sc ss.fresh in
      let good = select_good false flags cs fs sc h in
      let up = s.grows in
      let up' = (several_good (at_fields false flags cs) (at_fields false flags fs) sc good ss.fresh env b').grows in
      let below = (several_good (at_fields false flags cs) (at_fields false flags fs) sc good ss.fresh env b').below in
      let go : List Datum → Outcome = λ vs. Gives (con k.0 (data_of vs)) in
      let e = env_of sc env in
      let ends = prepend (tail_of k types ss ps) (write_of k ss ps) in
      record {
        grows = omega arith;
        gives =
            ap (λ t. mean tb call t env) (prepend-append ss.binds (ps.binds ++ tail_of k types ss ps) (write_of k ss ps) ∙ ap (prepend ss.binds) (prepend-append ps.binds (tail_of k types ss ps) (write_of k ss ps)))
            ∙ mean-prepend tb call ss.binds (prepend ps.binds ends) env
            ∙ gives_all (mean tb call (prepend ps.binds ends)) (λ vs. with_all (gather (each_of (at_fields false flags fs) e)) (λ ws. go (merge flags vs ws))) s.agree
            (λ vs e1 is1 k1.
            let r = several_good (at_fields false flags cs) (at_fields false flags fs) sc good ss.fresh e1 b' in
            let same : gather (each_of (at_fields false flags fs) (env_of sc e1)) ≡ gather (each_of (at_fields false flags fs) e) = ap (λ z. gather (each_of (at_fields false flags fs) z)) (env_of-keeps sc k1 b) in
            mean-prepend tb call ps.binds ends e1
            ∙ gives_all (mean tb call ends) (λ ws. go (merge flags vs ws)) r.agree (λ ws e2 is2 k2. tail_mean k types ss ps e2 vs ws (each_below_less ss.fresh ps.fresh ss.atoms up' s.below) below (values-keep ss.atoms k2 s.below ∙ is1) is2)
            ∙ ap (λ q. with_all q (λ ws. go (merge flags vs ws))) same)
            ∙ sym (λ i. with_all (gather (each_of-select true flags fs e i)) (λ vs. with_all (gather (each_of-select false flags fs e i)) (λ ws. go (merge flags vs ws))))
            ∙ sym (fields_merged flags (each_of fs e) go (each_length fs e ∙ long));
      }

  -- a `let`
  pub let_good : (x : Ident) (bound : ToAtom) (body : ToLine) (f g : Environment → Outcome) (sc : Scope) → ((n : ℕ) (env : Environment) → AllBelow n sc → Atoms tb call n (bound sc n) env (f (env_of sc env))) → ((at : Atom) (s1 : Ty) (n : ℕ) (env : Environment) → AllBelow n (slot x at s1 ∷ sc) → Lines tb call n (body (slot x at s1 ∷ sc) n) env (g (env_of (slot x at s1 ∷ sc) env))) → (n : ℕ) (env : Environment) → AllBelow n sc → Lines tb call n (let_line x bound body sc n) env (with_value (f (env_of sc env)) (λ v. g ((number_of x, v) ∷ env_of sc env)))
  let_good x bound body f g sc ha hb n env b =
      let l = bound sc n in
      let s = ha n env b in
      let sc' : Scope = slot x l.atom l.ty ∷ sc in
      let b' : AllBelow l.fresh sc' = (s.below, all_below_less n l.fresh sc s.grows b) in
      let up = s.grows in
      let up' = (hb l.atom l.ty l.fresh env b').grows in
      record {
        grows = omega arith;
        gives =
            mean-prepend tb call l.binds (body sc' l.fresh).term env
            ∙ gives_then (mean tb call (body sc' l.fresh).term) (λ v. g ((number_of x, v) ∷ env_of sc env)) s.agree
            (λ v new is k. (hb l.atom l.ty l.fresh new b').gives ∙ (λ i. g ((number_of x, is i) ∷ env_of-keeps sc k b i)));
      }

  -- an `if`
  pub if_good : (test : ToAtom) (left right : ToLine) (t f g : Environment → Outcome) (sc : Scope) → ((n : ℕ) (env : Environment) → AllBelow n sc → Atoms tb call n (test sc n) env (t (env_of sc env))) → ((n : ℕ) (env : Environment) → AllBelow n sc → Lines tb call n (left sc n) env (f (env_of sc env))) → ((n : ℕ) (env : Environment) → AllBelow n sc → Lines tb call n (right sc n) env (g (env_of sc env))) → (n : ℕ) (env : Environment) → AllBelow n sc → Lines tb call n (if_line test left right sc n) env (with_value (t (env_of sc env)) (λ v. choose (is_true v) (f (env_of sc env)) (g (env_of sc env))))
  if_good test left right t f g sc ht hf hg n env b =
      let a = test sc n in
      let s = ht n env b in
      let up = s.grows in
      let b1 : AllBelow a.fresh sc = all_below_less n a.fresh sc up b in
      let l = left sc a.fresh in
      let up1 = (hf a.fresh env b1).grows in
      let b2 : AllBelow l.fresh sc = all_below_less n l.fresh sc (omega arith) b in
      let up2 = (hg l.fresh env b2).grows in
      let r = right sc l.fresh in
      let e = env_of sc env in
      record {
        grows = omega arith;
        gives = mean-prepend tb call a.binds (IfTerm a.atom l.term r.term) env
            ∙ gives_then (mean tb call (IfTerm a.atom l.term r.term)) (λ v. choose (is_true v) (f e) (g e)) s.agree
            (λ v new is k.
            let same = env_of-keeps sc k b in
            (λ i. choose (is_true (is i)) (((hf a.fresh new b1).gives ∙ ap f same) i) (((hg l.fresh new b2).gives ∙ ap g same) i)));
      }
