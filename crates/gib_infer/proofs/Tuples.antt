-- Several parts in each place: a tuple means its parts, and names that are bound to an expression have them.
use Rattle.std.proofs.Common.{◌≡◌, ℕ, ◌+◌, ◌≤◌, true, false, List, [], ◌∷◌, length, refl, sym, ap, ◌∙◌, subst, arith}
use Rattle.std.specs.Prelude.{pos}
use Rattle.gib_types.specs.declared.table.Ty.{Ty}
use Rattle.gib_types.specs.Table.{Table}
use Rattle.gib_types.specs.Tree.{Datum, whole}
use Rattle.gib_syntax.specs.declared.tree.Ident.{Ident}
use Rattle.gib_syntax.specs.Declarations.{number_of}
use Rattle.gib_syntax.specs.Typing as typing
use Rattle.gib_syntax.specs.Meaning.{Outcome, Gives, Stops, Environment, bind_results, with_value, with_values, at_fields, with_fields as by_fields, parts, tuple}
use Rattle.gib_core.specs.Tree.{Tuple, Side, One, Both, var, variables_from}
use Rattle.gib_core.specs.Meaning as core
use Rattle.gib_core.specs.Meaning.{Calls, merge, Went, from_there, having, bind_side, mean, mean_side, mean_parts, run}
use Rattle.gib_core.specs.Inferring.{Scope, slot, with_fields, ToLine, Code, several, Parted, part_lines, tuple_line, Bounded, bound_side, several_line, sides_line}
use Rattle.gib_core.proofs.Agreeing.{env_of, AreSame, AllBelow, Hides, Keeps, gather, with_all, each_of, Lines, Good, AllGood}
use Rattle.gib_core.proofs.Envs.{value_in-here, same_refl, same_trans, keeps_same, keeps_bind, keeps_more, all_below_less, env_of-keeps, mean-prepend, gives_all}
use Rattle.gib_infer.proofs.Together.{values_all, fields_merged}
use Rattle.gib_infer.proofs.Places.{several_good, select_good, each_of-select, each_length}
use Rattle.gib_infer.proofs.Same.{results_same, hides_all, fields_below, fields_same}

-- Values for several variables keep those below them.
fields_keep : {A : Type 0} (n : ℕ) (xs : List A) (vs : List Datum) (env : Environment) → Keeps n env (core.bind (variables_from n xs) vs env)
fields_keep n [] vs env = keeps_same n env
fields_keep n (x ∷ xs) [] env = keeps_more (keeps_bind n n (whole (pos 0)) env (omega arith)) (fields_keep (n + 1) xs [] ((n, whole (pos 0)) ∷ env)) (omega arith)
fields_keep n (x ∷ xs) (v ∷ vs) env = keeps_more (keeps_bind n n v env (omega arith)) (fields_keep (n + 1) xs vs ((n, v) ∷ env)) (omega arith)

module _ (tb : Table) (call : Calls) where
  -- Tuples.

  -- Packed parts mean these outcomes.
  pub record PartsGood (n : ℕ) (ps : Parted) (env : Environment) (os : List Outcome) : Type 0 where
    pub grows : n ≤ ps.fresh
    pub gives : mean_parts tb call ps.parts env ≡ os

  parts_good : (cs : List Code) (fs : List (Environment → Outcome)) (sc : Scope) → AllGood tb call cs fs sc → (n : ℕ) (env : Environment) → AllBelow n sc → PartsGood n (part_lines cs sc n) env (each_of fs (env_of sc env))
  parts_good [] [] sc h n env b = record { grows = omega arith; gives = refl }
  parts_good [] (f ∷ fs) sc h n env b = absurd h
  parts_good (c ∷ cs) [] sc h n env b = absurd h
  parts_good (c ∷ cs) (f ∷ fs) sc h n env b =
      let l = h.0.line n env b in
      let up = l.grows in
      let m = (c.line sc n).fresh in
      let rest = parts_good cs fs sc h.1 m env (all_below_less n m sc up b) in
      let up' = rest.grows in
      record { grows = omega arith; gives = (λ i. l.gives i ∷ rest.gives i) }

  pub tuple_good : (types : List Ty) (cs : List Code) (fs : List (Environment → Outcome)) (sc : Scope) → length fs ≡ length types → AllGood tb call cs fs sc → (n : ℕ) (env : Environment) → AllBelow n sc
      → Lines tb call n (tuple_line types cs sc n) env (by_fields types (each_of fs (env_of sc env)) (λ vs. Gives (tuple vs)))
  tuple_good types cs fs sc long h n env b =
      let ss = several (at_fields true types cs) sc n in
      let s = several_good tb call (at_fields true types cs) (at_fields true types fs) sc (select_good tb call true types cs fs sc h) n env b in
      let b' : AllBelow ss.fresh sc = all_below_less n ss.fresh sc s.grows b in
      let packed = at_fields false types fs in
      let good = select_good tb call false types cs fs sc h in
      let ps = part_lines (at_fields false types cs) sc ss.fresh in
      let up = s.grows in
      let up' = (parts_good (at_fields false types cs) packed sc good ss.fresh env b').grows in
      let go : List Datum → Outcome = λ vs. Gives (tuple vs) in
      let e = env_of sc env in
      record {
        grows = omega arith;
        gives =
            mean-prepend tb call ss.binds (Tuple types ss.atoms ps.parts) env
            ∙ gives_all (mean tb call (Tuple types ss.atoms ps.parts)) (λ vs. with_all (gather (each_of packed e)) (λ ws. go (merge types vs ws))) s.agree
            (λ vs new is k.
            let p = parts_good (at_fields false types cs) packed sc good ss.fresh new b' in
            let same : gather (each_of packed (env_of sc new)) ≡ gather (each_of packed e) = ap (λ z. gather (each_of packed z)) (env_of-keeps sc k b) in
            (λ i. with_values (p.gives i) (λ ws. go (merge types (is i) ws)))
            ∙ values_all (each_of packed (env_of sc new)) (λ ws. go (merge types vs ws))
            ∙ ap (λ q. with_all q (λ ws. go (merge types vs ws))) same)
            ∙ sym (λ i. with_all (gather (each_of-select tb call true types fs e i)) (λ vs. with_all (gather (each_of-select tb call false types fs e i)) (λ ws. go (merge types vs ws))))
            ∙ sym (fields_merged types (each_of fs e) go (each_length tb call fs e ∙ long));
      }

  -- Names that are bound to an expression.

  -- What names are bound to means this outcome, and behind it they have its parts.
  pub record BoundGood (inner : typing.Scope) (xs : List Ident) (n : ℕ) (b : Bounded) (sc : Scope) (env : Environment) (o : Outcome) : Type 0 where
    pub grows : n ≤ b.fresh
    pub below : AllBelow b.fresh b.scope
    pub hides : Hides inner b.scope
    pub gives : mean_side tb call b.side env ≡ o
    pub same : (v : Datum) (e : Environment) → AreSame (env_of b.scope (bind_side b.side v e)) (bind_results xs v (env_of sc e))

  -- One name has the value.
  one_same : (x : Ident) (n : ℕ) (ty : Ty) (sc : Scope) (v : Datum) (e : Environment) → AllBelow n sc → AreSame (env_of (slot x (var n) ty ∷ sc) ((n, v) ∷ e)) ((number_of x, v) ∷ env_of sc e)
  one_same x n ty sc v e b =
      subst (AreSame (env_of (slot x (var n) ty ∷ sc) ((n, v) ∷ e)))
      (λ i. (number_of x, value_in-here n v e i) ∷ env_of-keeps sc (keeps_bind n n v e (omega arith)) b i) (same_refl (env_of (slot x (var n) ty ∷ sc) ((n, v) ∷ e)))

  bound_good : (known inner : typing.Scope) (xs : List Ident) (types : List Ty) (c : Code) (f : Environment → Outcome) (sc : Scope) → Good tb call c f sc
      → (n : ℕ) (env : Environment) → AllBelow n sc → (outer : Scope) → typing.BindsAll known xs types inner → Hides known outer → AllBelow n outer
      → BoundGood inner xs n (bound_side xs types c sc n outer) outer env (f (env_of sc env))
  bound_good known inner [] types c f sc h n env b outer binds hides below =
      let l = h.line (n + 0) env (all_below_less n (n + 0) sc (omega arith) b) in
      let up = l.grows in
      let m = (c.line sc (n + 0)).fresh in
      record {
        grows = omega arith;
        below = all_below_less n m outer (omega arith) below;
        hides = hides_all [] types known inner outer binds hides types n;
        gives = l.gives;
        same = λ v e. same_refl (env_of outer e);
      }
  bound_good known inner (x ∷ []) types c f sc h n env b outer binds hides below =
      let l = h.side (n + 1) env (all_below_less n (n + 1) sc (omega arith) b) in
      let up = l.grows in
      let r = c.side sc (n + 1) in
      record {
        grows = omega arith;
        below = (omega arith, all_below_less n r.fresh outer (omega arith) below);
        hides = hides_all (x ∷ []) types known inner outer binds hides (r.ty ∷ []) n;
        gives = l.gives;
        same = λ v e. one_same x n r.ty outer v e below;
      }
  bound_good known inner (x ∷ y ∷ xs) types c f sc h n env b outer binds hides below =
      let names : List Ident = x ∷ y ∷ xs in
      let start = n + length names in
      let l = h.line start env (all_below_less n start sc (omega arith) b) in
      let up = l.grows in
      let m = (c.line sc start).fresh in
      record {
        grows = omega arith;
        below = all_below_less start m (with_fields names types n outer) up (fields_below n start names types outer refl below);
        hides = hides_all names types known inner outer binds hides types n;
        gives = l.gives;
        same = λ v e. fields_same names types known inner outer binds hides types n (parts v) e below;
      }

  one_gives : (side : Side) (env : Environment) (o : Outcome) (go : Environment → Outcome) (k : Datum → Outcome) → mean_side tb call side env ≡ o → ((v : Datum) → go (bind_side side v env) ≡ k v)
      → from_there (run tb call (One side) env) go ≡ with_value o k
  one_gives side env o go k e h = ap (λ z. from_there (having z (λ v. Went (bind_side side v env))) go) e ∙ ends o
    where
      ends : (o : Outcome) → from_there (having o (λ v. Went (bind_side side v env))) go ≡ with_value o k
      ends (Gives v) = h v
      ends (Stops why) = refl

  both_give : (l r : Side) (env : Environment) (o p : Outcome) (go : Environment → Outcome) (k : Datum → Datum → Outcome) → mean_side tb call l env ≡ o → mean_side tb call r env ≡ p
      → ((v w : Datum) → go (bind_side r w (bind_side l v env)) ≡ k v w) → from_there (run tb call (Both false l r) env) go ≡ with_value o (λ v. with_value p (λ w. k v w))
  both_give l r env o p go k e f h = (λ i. from_there (having (e i) (λ v. having (f i) (λ w. Went (bind_side r w (bind_side l v env))))) go) ∙ ends o p
    where
      ends : (o p : Outcome) → from_there (having o (λ v. having p (λ w. Went (bind_side r w (bind_side l v env))))) go ≡ with_value o (λ v. with_value p (λ w. k v w))
      ends (Gives v) (Gives w) = h v w
      ends (Gives v) (Stops why) = refl
      ends (Stops why) p = refl

  -- What stands behind names means this, wherever they are bound, and this depends on the values of names alone.
  pub record BodyGood (inner : typing.Scope) (body : ToLine) (f : Environment → Outcome) : Type 0 where
    pub same : (env other : Environment) → AreSame env other → f env ≡ f other
    pub lines : (sc : Scope) → Hides inner sc → (n : ℕ) (env : Environment) → AllBelow n sc → Lines tb call n (body sc n) env (f (env_of sc env))

  pub several_line_good : (known inner : typing.Scope) (xs : List Ident) (types : List Ty) (c : Code) (body : ToLine) (f g : Environment → Outcome) (sc : Scope) → typing.BindsAll known xs types inner → Hides known sc
      → Good tb call c f sc → BodyGood inner body g → (n : ℕ) (env : Environment) → AllBelow n sc
      → Lines tb call n (several_line xs types c body sc n) env (with_value (f (env_of sc env)) (λ v. g (bind_results xs v (env_of sc env))))
  several_line_good known inner xs types c body f g sc binds hides hc hb n env b =
      let l = bound_side xs types c sc n sc in
      let s = bound_good known inner xs types c f sc hc n env b sc binds hides b in
      let up = s.grows in
      let up' = (hb.lines l.scope s.hides l.fresh env s.below).grows in
      record {
        grows = omega arith;
        gives = one_gives l.side env (f (env_of sc env)) (mean tb call (body l.scope l.fresh).term) (λ v. g (bind_results xs v (env_of sc env))) s.gives
            (λ v.
            let e = bind_side l.side v env in
            (hb.lines l.scope s.hides l.fresh e s.below).gives ∙ hb.same (env_of l.scope e) (bind_results xs v (env_of sc env)) (s.same v env));
      }

  pub sides_line_good : (known middle inner : typing.Scope) (xs : List Ident) (types : List Ty) (c : Code) (ys : List Ident) (other : List Ty) (d : Code) (body : ToLine) (f g h : Environment → Outcome) (sc : Scope)
      → typing.BindsAll known xs types middle → typing.BindsAll middle ys other inner → Hides known sc → Good tb call c f sc → Good tb call d g sc → BodyGood inner body h
      → (n : ℕ) (env : Environment) → AllBelow n sc
      → Lines tb call n (sides_line xs types c ys other d body sc n) env (with_value (f (env_of sc env)) (λ v. with_value (g (env_of sc env)) (λ w. h (bind_results ys w (bind_results xs v (env_of sc env))))))
  sides_line_good known middle inner xs types c ys other d body f g h sc binds binds' hides hc hd hb n env b =
      let l = bound_side xs types c sc n sc in
      let s = bound_good known middle xs types c f sc hc n env b sc binds hides b in
      let up = s.grows in
      let r = bound_side ys other d sc l.fresh l.scope in
      let q = bound_good middle inner ys other d g sc hd l.fresh env (all_below_less n l.fresh sc up b) l.scope binds' s.hides s.below in
      let up' = q.grows in
      let up'' = (hb.lines r.scope q.hides r.fresh env q.below).grows in
      let e = env_of sc env in
      record {
        grows = omega arith;
        gives = both_give l.side r.side env (f e) (g e) (mean tb call (body r.scope r.fresh).term) (λ v w. h (bind_results ys w (bind_results xs v e))) s.gives q.gives
            (λ v w.
            let e1 = bind_side l.side v env in
            let e2 = bind_side r.side w e1 in
            let first = bind_results ys w (env_of l.scope e1) in
            let last = bind_results ys w (bind_results xs v e) in
            (hb.lines r.scope q.hides r.fresh e2 q.below).gives
            ∙ hb.same (env_of r.scope e2) last (same_trans (env_of r.scope e2) first last (q.same w e1) (results_same ys w (env_of l.scope e1) (bind_results xs v e) (s.same v env))));
      }
