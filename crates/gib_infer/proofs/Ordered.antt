-- What an expression becomes is ordered: its variables are bound in rising order, and used behind where they are bound.
use Rattle.std.proofs.Common.{◌≡◌, ℕ, suc, ◌+◌, ◌≤◌, Bool, true, false, ◌==◌, if◌then◌else◌, List, [], ◌∷◌, ◌++◌, map, length, Option, Some, None, refl, sym, ap, ◌∙◌, subst, arith}
use Rattle.std.specs.Prelude.{pos}
use Rattle.std.specs.List.{AllByRecursion}
use Rattle.std.proofs.lemmas.Bool.{eqb-true}
use Rattle.std.proofs.lemmas.List.{length-map}
use Rattle.std.proofs.lemmas.Option.{same_Some}
use Rattle.gib_base.specs.declared.name.Name.{Name}
use Rattle.gib_types.specs.declared.table.Ty.{Ty}
use Rattle.gib_types.specs.declared.table.Ty.TheVariants.{Whole, Truth, Tree}
use Rattle.gib_types.specs.declared.table.ConId.{ConId}
use Rattle.gib_types.specs.Table.{fields_at, owner_at, name_at, scalar_types, tree_types}
use Rattle.gib_syntax.specs.declared.tree.Ident.{Ident}
use Rattle.gib_types.specs.declared.operator.Operator.{Operator}
use Rattle.gib_syntax.specs.declared.tree.Parameter.{Parameter}
use Rattle.gib_syntax.specs.declared.tree.TypeName.{TypeName}
use Rattle.gib_syntax.specs.declared.tree.TypeName.TheVariants as written
use Rattle.gib_syntax.specs.Results as results
use Rattle.gib_syntax.specs.Results.{Results, as_results}
use Rattle.gib_syntax.specs.Tree as source
use Rattle.gib_syntax.specs.Tree.{Expression, Arguments, Arms, Var, Num, Bit, Paren, Op, Call, Make, Let, Par, If, Case, LetSeveral, ParSeveral, NoArgument, Argument, LastArm, NextArm}
use Rattle.gib_syntax.specs.Declarations.{number_of, constructor_named, function_named, place_of, next_place, tree_type, type_or, type_of_name}
use Rattle.gib_syntax.specs.Typing as typing
use Rattle.gib_syntax.specs.Typing.{Globals, Has, HaveAll, HaveArms, parameter_types, names_of, types_of}
use Rattle.gib_syntax.specs.Meaning.{at_fields}
use Rattle.gib_core.specs.declared.atom.Atom.{Atom}
use Rattle.gib_core.specs.declared.atom.Atom.TheVariants as atomic
use Rattle.gib_core.specs.declared.atom.Kind.TheVariants.{Scalar}
use Rattle.gib_core.specs.Tree.{Term, Write, CallTerm, Give, IfTerm, Tuple, PartTerms, NoPart, PartThen, parts_count, Bind, Past, One, Prim, On, Branches, NoBranch, BranchThen, variables_from, prepend}
use Rattle.gib_core.specs.Erasing.{declared_name}
use Rattle.gib_core.specs.Inferring.{Scope, slot, Lined, Atomed, Several, ToLine, ToAtom, Code, boxed, of_line, of_atom, result_of, plain_line, of_plain, several, operation_atom, call_line, call_atom, call_side, scalar_call, call_code, further_types, pointed_fields, as_atoms, make_from, make_line, let_line, if_line, Parted, part_lines, tuple_line, Bounded, bound_side, several_line, sides_line, ArmCode, with_fields, Branched, arm_for, branch_of, branches_of, constructors_of, first_constructor, case_line, atom_at, type_at, con_or, con_named, gives_type, infer, infer_all, infer_arms, infer_body}
use Rattle.gib_core.specs.Ordered.{IsFit, AreFit, behind_fields, behind_variables, next_of, IsFound, IsTypeFound, IsOrdered, BindOrdered, SideOrdered, PartsOrdered, BranchesOrdered}
use Rattle.gib_core.proofs.Erases.{fit_more, fields_ordered, fields_behind}
use Rattle.gib_infer.proofs.Fits.{ScopeFits, all_fit_more, scope_more, at_fit, fields_fit, variables_length, named_at}

module _ (g : Globals) where
  -- Bindings from a number on, to another one.
  abbrev pub Rises : ℕ → List Bind → ℕ → Type 0
  Rises n [] m = n ≡ m
  Rises n (b ∷ bs) m = BindOrdered g.table n b × ((k : ℕ) × (next_of n b ≤ k) × Rises k bs m)

  ordered_prepend : (n m : ℕ) (bs : List Bind) (t : Term) → Rises n bs m → IsOrdered g.table m t → IsOrdered g.table n (prepend bs t)
  ordered_prepend n m [] t e h = subst (λ (k : ℕ). IsOrdered g.table k t) (sym e) h
  ordered_prepend n m (b ∷ bs) t e h = (e.0, (e.1.0, e.1.1, ordered_prepend e.1.0 m bs t e.1.2 h))

  rises_append : (n k m : ℕ) (xs ys : List Bind) → Rises n xs k → Rises k ys m → Rises n (xs ++ ys) m
  rises_append n k m [] ys e h = subst (λ (j : ℕ). Rises j ys m) (sym e) h
  rises_append n k m (b ∷ xs) ys e h = (e.0, (e.1.0, e.1.1, rises_append e.1.0 k m xs ys e.1.2 h))

  -- What an expression becomes is ordered.

  pub record LineOrdered (n : ℕ) (l : Lined) : Type 0 where
    pub grows : n ≤ l.fresh
    pub term : IsOrdered g.table n l.term

  pub record AtomOrdered (n : ℕ) (x : Atomed) : Type 0 where
    pub grows : n ≤ x.fresh
    pub fit : IsFit x.fresh x.atom
    pub rises : Rises n x.binds x.fresh

  pub record SeveralOrdered (n : ℕ) (s : Several) : Type 0 where
    pub grows : n ≤ s.fresh
    pub fit : AreFit s.fresh s.atoms
    pub rises : Rises n s.binds s.fresh

  pub record CodeOrdered (c : Code) (sc : Scope) : Type 0 where
    pub line : (n : ℕ) → ScopeFits n sc → LineOrdered n (c.line sc n)
    pub side : (n : ℕ) → ScopeFits n sc → LineOrdered n (c.side sc n)
    pub atom : (n : ℕ) → ScopeFits n sc → AtomOrdered n (c.atom sc n)
    pub bound : (n : ℕ) → ScopeFits n sc → AtomOrdered n (c.bound sc n)

  abbrev pub AllCodes : List Code → Scope → Type 0
  AllCodes [] sc = Unit {0}
  AllCodes (c ∷ cs) sc = CodeOrdered c sc × AllCodes cs sc

  boxed_ordered : (line : ToLine) (sc : Scope) (n : ℕ) → LineOrdered (n + 1) (line sc (n + 1)) → AtomOrdered n (boxed line sc n)
  boxed_ordered line sc n h =
      let g = h.grows in
      record { grows = omega arith; fit = omega arith; rises = ((omega arith, h.term), ((line sc (n + 1)).fresh, g, refl)) }

  given_ordered : (n : ℕ) (x : Atomed) → AtomOrdered n x → IsOrdered g.table n (prepend x.binds (Give x.atom))
  given_ordered n x h = ordered_prepend n x.fresh x.binds (Give x.atom) h.rises h.fit

  line_code : (line : ToLine) (sc : Scope) → ((n : ℕ) → ScopeFits n sc → LineOrdered n (line sc n)) → CodeOrdered (of_line line) sc
  line_code line sc h = record {
    line = h;
    side = h;
    atom = λ n s. boxed_ordered line sc n (h (n + 1) (scope_more n (n + 1) sc (omega arith) s));
    bound = λ n s. boxed_ordered line sc n (h (n + 1) (scope_more n (n + 1) sc (omega arith) s));
  }

  atom_code : (atom : ToAtom) (sc : Scope) → ((n : ℕ) → ScopeFits n sc → AtomOrdered n (atom sc n)) → CodeOrdered (of_atom atom) sc
  atom_code atom sc h = record {
    line = λ n s. record { grows = (h n s).grows; term = given_ordered n (atom sc n) (h n s) };
    side = λ n s. record { grows = (h n s).grows; term = given_ordered n (atom sc n) (h n s) };
    atom = h;
    bound = h;
  }

  result_ordered : (ty : Ty) (a : Atom) (n : ℕ) → IsFit n a → IsOrdered g.table n (result_of ty a)
  result_ordered Whole a n h = h
  result_ordered Truth a n h = h
  result_ordered (Tree t) a n h = h

  plain_code : (ty : Scope → Ty) (atom : Scope → Atom) (sc : Scope) → ((n : ℕ) → ScopeFits n sc → IsFit n (atom sc)) → CodeOrdered (of_plain ty atom) sc
  plain_code ty atom sc h = record {
    line = λ n s. record { grows = omega arith; term = result_ordered (ty sc) (atom sc) n (h n s) };
    side = λ n s. record { grows = omega arith; term = result_ordered (ty sc) (atom sc) n (h n s) };
    atom = λ n s. record { grows = omega arith; fit = h n s; rises = refl };
    bound = λ n s. boxed_ordered (plain_line ty atom) sc n (record { grows = omega arith; term = result_ordered (ty sc) (atom sc) (n + 1) (fit_more n (n + 1) (atom sc) (omega arith) (h n s)) });
  }

  pub several_ordered : (cs : List Code) (sc : Scope) → AllCodes cs sc → (n : ℕ) → ScopeFits n sc → SeveralOrdered n (several cs sc n)
  several_ordered [] sc h n s = record { grows = omega arith; fit = tt; rises = refl }
  several_ordered (c ∷ cs) sc h n s =
      let x = c.atom sc n in
      let a = h.0.atom n s in
      let r = several cs sc x.fresh in
      let rest = several_ordered cs sc h.1 x.fresh (scope_more n x.fresh sc a.grows s) in
      let up = a.grows in
      let up' = rest.grows in
      record {
        grows = omega arith;
        fit = (fit_more x.fresh r.fresh x.atom up' a.fit, rest.fit);
        rises = rises_append n x.fresh r.fresh x.binds r.binds a.rises rest.rises;
      }

  operation_ordered : (f : Operator) (left right : ToAtom) (sc : Scope) → ((n : ℕ) → ScopeFits n sc → AtomOrdered n (left sc n)) → ((n : ℕ) → ScopeFits n sc → AtomOrdered n (right sc n))
      → (n : ℕ) → ScopeFits n sc → AtomOrdered n (operation_atom f left right sc n)
  operation_ordered f left right sc hl hr n s =
      let x = left sc n in
      let a = hl n s in
      let y = right sc x.fresh in
      let b = hr x.fresh (scope_more n x.fresh sc a.grows s) in
      let up = a.grows in
      let up' = b.grows in
      let prim = Prim (record { 0 = y.fresh }) f x.atom y.atom in
      let last : Rises y.fresh (prim ∷ []) (y.fresh + 1) = ((omega arith, fit_more x.fresh y.fresh x.atom up' a.fit, b.fit), (y.fresh + 1, omega arith, refl)) in
      record {
        grows = omega arith;
        fit = omega arith;
        rises = rises_append n x.fresh (y.fresh + 1) x.binds (y.binds ++ prim ∷ []) a.rises (rises_append x.fresh y.fresh (y.fresh + 1) y.binds (prim ∷ []) b.rises last);
      }

  call_line_ordered : (ty : Ty) (f : Name) (r : Several) (n : ℕ) → SeveralOrdered n r → LineOrdered n (call_line ty f r)
  call_line_ordered ty f r n h = record { grows = h.grows; term = ordered_prepend n r.fresh r.binds (CallTerm f r.atoms) h.rises h.fit }

  call_atom_ordered : (ty : Ty) (f : Name) (r : Several) (n : ℕ) → SeveralOrdered n r → AtomOrdered n (call_atom ty f r)
  call_atom_ordered ty f r n h =
      let up = h.grows in
      let one = One (On Scalar (record { 0 = r.fresh }) ty (CallTerm f r.atoms)) in
      let last : Rises r.fresh (one ∷ []) (r.fresh + 1) = ((omega arith, all_fit_more r.fresh (r.fresh + 1) r.atoms (omega arith) h.fit), (r.fresh + 1, omega arith, refl)) in
      record { grows = omega arith; fit = omega arith; rises = rises_append n r.fresh (r.fresh + 1) r.binds (one ∷ []) h.rises last }

  call_side_ordered : (ty : Ty) (f : Name) (r : Several) (n : ℕ) (bs : List Bind) → r.binds ≡ bs → SeveralOrdered n r → LineOrdered n (call_side ty f r bs)
  call_side_ordered ty f r n [] e h =
      let same : n ≡ r.fresh = subst (λ (b : List Bind). Rises n b r.fresh) e h.rises in
      record { grows = h.grows; term = subst (λ (k : ℕ). AreFit k r.atoms) (sym same) h.fit }
  call_side_ordered ty f r n (b ∷ bs) e h =
      let a = call_atom_ordered ty f r n h in
      record { grows = a.grows; term = given_ordered n (call_atom ty f r) a }

  scalar_code : (ty : Ty) (f : Name) (cs : List Code) (sc : Scope) → AllCodes cs sc → CodeOrdered (scalar_call ty f cs) sc
  scalar_code ty f cs sc h =
      let c = atom_code (λ sc n. call_atom ty f (several cs sc n)) sc (λ n s. call_atom_ordered ty f (several cs sc n) n (several_ordered cs sc h n s)) in
      record { line = c.line; side = λ n s. call_side_ordered ty f (several cs sc n) n (several cs sc n).binds refl (several_ordered cs sc h n s); atom = c.atom; bound = c.bound }

  call_ordered : (given : Results Ty) (f : Name) (cs : List Code) (sc : Scope) → AllCodes cs sc → CodeOrdered (call_code given f cs) sc
  call_ordered (results.One (Tree t)) f cs sc h = line_code (λ sc n. call_line (Tree t) f (several cs sc n)) sc (λ n s. call_line_ordered (Tree t) f (several cs sc n) n (several_ordered cs sc h n s))
  call_ordered (results.One Whole) f cs sc h = scalar_code Whole f cs sc h
  call_ordered (results.One Truth) f cs sc h = scalar_code Truth f cs sc h
  call_ordered (results.Several tys) f cs sc h = line_code (λ sc n. call_line Whole f (several cs sc n)) sc (λ n s. call_line_ordered Whole f (several cs sc n) n (several_ordered cs sc h n s))

  pointed_ordered : (n m : ℕ) (types : List Ty) (xs : List Atom) → m ≡ n + length xs → AreFit n xs → Rises n (pointed_fields n types xs) m
  pointed_ordered n m types [] e h = omega arith
  pointed_ordered n m types (x ∷ xs) e h =
      ((omega arith, fit_more n (n + 1) x (omega arith) h.0), (n + 1, omega arith, pointed_ordered (n + 1) m (further_types types) xs (omega arith) (all_fit_more n (n + 1) xs (omega arith) h.1)))

  variables_fit : {A : Type 0} (n m : ℕ) (xs : List A) → n + length xs ≤ m → AreFit m (as_atoms (variables_from n xs))
  variables_fit n m [] le = tt
  variables_fit n m (x ∷ xs) le = (omega arith, variables_fit (n + 1) m xs (omega arith))

  make_ordered : (ty : Ty) (k : ConId) (types : List Ty) (ss ps : Several) (n : ℕ) → IsFound g.table k → SeveralOrdered n ss → SeveralOrdered ss.fresh ps → LineOrdered n (make_from ty k types ss ps)
  make_ordered ty k types ss ps n found hs hp =
      let up = hs.grows in
      let up' = hp.grows in
      let h = ps.fresh in
      let m = h + 1 + length ps.atoms in
      let fields = pointed_fields (h + 1) types ps.atoms in
      let past = Past (record { 0 = h }) k in
      let last : Rises h (past ∷ fields) m = (tt, (h + 1, omega arith, pointed_ordered (h + 1) m types ps.atoms refl (all_fit_more h (h + 1) ps.atoms (omega arith) hp.fit))) in
      record {
        grows = omega arith;
        term = ordered_prepend n m (ss.binds ++ (ps.binds ++ past ∷ fields)) (Write (record { 0 = h }) k ss.atoms (as_atoms (variables_from (h + 1) ps.atoms)))
            (rises_append n ss.fresh m ss.binds (ps.binds ++ past ∷ fields) hs.rises (rises_append ss.fresh h m ps.binds (past ∷ fields) hp.rises last))
            (found, all_fit_more ss.fresh m ss.atoms (omega arith) hs.fit, variables_fit (h + 1) m ps.atoms (omega arith));
      }

  select_codes : (kind : Bool) (types : List Ty) (cs : List Code) (sc : Scope) → AllCodes cs sc → AllCodes (at_fields kind types cs) sc
  select_codes kind [] cs sc h = tt
  select_codes kind (t ∷ types) [] sc h = tt
  select_codes true (Whole ∷ types) (c ∷ cs) sc h = (h.0, select_codes true types cs sc h.1)
  select_codes true (Truth ∷ types) (c ∷ cs) sc h = (h.0, select_codes true types cs sc h.1)
  select_codes true (Tree t ∷ types) (c ∷ cs) sc h = select_codes true types cs sc h.1
  select_codes false (Whole ∷ types) (c ∷ cs) sc h = select_codes false types cs sc h.1
  select_codes false (Truth ∷ types) (c ∷ cs) sc h = select_codes false types cs sc h.1
  select_codes false (Tree t ∷ types) (c ∷ cs) sc h = (h.0, select_codes false types cs sc h.1)

  make_line_ordered : (k : ConId) (cs : List Code) (sc : Scope) → IsFound g.table k → AllCodes cs sc → (n : ℕ) → ScopeFits n sc → LineOrdered n (make_line g.table k cs sc n)
  make_line_ordered k cs sc found h n s =
      let types = fields_at g.table k.0 in
      let ss = several (at_fields true types cs) sc n in
      let hs = several_ordered (at_fields true types cs) sc (select_codes true types cs sc h) n s in
      let ps = several (at_fields false types cs) sc ss.fresh in
      let hp = several_ordered (at_fields false types cs) sc (select_codes false types cs sc h) ss.fresh (scope_more n ss.fresh sc hs.grows s) in
      make_ordered (Tree (record { 0 = owner_at g.table k.0 })) k (at_fields false types types) ss ps n found hs hp

  let_ordered : (x : Ident) (bound : ToAtom) (body : ToLine) (sc : Scope) → ((n : ℕ) → ScopeFits n sc → AtomOrdered n (bound sc n))
      → ((at : Atom) (ty : Ty) (n : ℕ) → ScopeFits n (slot x at ty ∷ sc) → LineOrdered n (body (slot x at ty ∷ sc) n)) → (n : ℕ) → ScopeFits n sc → LineOrdered n (let_line x bound body sc n)
  let_ordered x bound body sc ha hb n s =
      let l = bound sc n in
      let a = ha n s in
      let r = hb l.atom l.ty l.fresh (a.fit, scope_more n l.fresh sc a.grows s) in
      let up = a.grows in
      let up' = r.grows in
      record { grows = omega arith; term = ordered_prepend n l.fresh l.binds (body (slot x l.atom l.ty ∷ sc) l.fresh).term a.rises r.term }

  if_ordered : (test : ToAtom) (left right : ToLine) (sc : Scope) → ((n : ℕ) → ScopeFits n sc → AtomOrdered n (test sc n)) → ((n : ℕ) → ScopeFits n sc → LineOrdered n (left sc n)) → ((n : ℕ) → ScopeFits n sc → LineOrdered n (right sc n))
      → (n : ℕ) → ScopeFits n sc → LineOrdered n (if_line test left right sc n)
  if_ordered test left right sc ht hl hr n s =
      let x = test sc n in
      let a = ht n s in
      let up = a.grows in
      let l = left sc x.fresh in
      let b = hl x.fresh (scope_more n x.fresh sc up s) in
      let up1 = b.grows in
      let r = right sc l.fresh in
      let c = hr l.fresh (scope_more n l.fresh sc (omega arith) s) in
      let up2 = c.grows in
      record {
        grows = omega arith;
        term = ordered_prepend n x.fresh x.binds (IfTerm x.atom l.term r.term) a.rises (a.fit, (x.fresh, omega arith, b.term), (l.fresh, up1, c.term));
      }

  abbrev AllArms : List ArmCode → Scope → Type 0
  AllArms [] sc = Unit {0}
  AllArms (a ∷ as') sc = (IsFound g.table (record { 0 = a.con }) × ((types : List Ty) (n : ℕ) → CodeOrdered a.code (with_fields a.names types n sc))) × AllArms as' sc

  abbrev ArmFor : ℕ → Option ArmCode → Scope → Type 0
  ArmFor k None sc = Unit {0}
  ArmFor k (Some a) sc = IsFound g.table (record { 0 = k }) × ((types : List Ty) (n : ℕ) → CodeOrdered a.code (with_fields a.names types n sc))

  arm_found : (as' : List ArmCode) (sc : Scope) (k : ℕ) → AllArms as' sc → ArmFor k (arm_for as' k) sc
  arm_found [] sc k h = tt
  arm_found (a ∷ as') sc k h = here (a.con == k) (eqb-true a.con k) (arm_found as' sc k h.1)
    where
      here : (b : Bool) → (b ≡ true → a.con ≡ k) → ArmFor k (arm_for as' k) sc → ArmFor k (if b then Some a else arm_for as' k) sc
      here true is e = (subst (λ (j : ℕ). IsFound g.table (record { 0 = j })) (is refl) h.0.0, h.0.1)
      here false is e = e

  pub record BranchedOrdered (n : ℕ) (b : Branched) : Type 0 where
    pub grows : n ≤ b.fresh
    pub branches : BranchesOrdered g.table n b.branches

  branches_less : (n m : ℕ) (bs : Branches) → n ≤ m → BranchesOrdered g.table m bs → BranchesOrdered g.table n bs
  branches_less n m NoBranch le h = tt
  branches_less n m (BranchThen k xs t rest) le h = ((h.0.0, omega (arith, h.0.1), h.0.2, h.0.3, h.0.4), branches_less n m rest le h.1)

  branches_ordered : (ks : List ℕ) (as' : List ArmCode) (sc : Scope) → AllArms as' sc → (n : ℕ) → ScopeFits n sc → BranchedOrdered n (branches_of g.table ks as' sc n)
  branches_ordered [] as' sc h n s = record { grows = omega arith; branches = tt }
  branches_ordered (k ∷ ks) as' sc h n s = go (arm_for as' k) (arm_found as' sc k h) (λ m f. branches_ordered ks as' sc h m f)
    where
      go : (o : Option ArmCode) → ArmFor k o sc → ((m : ℕ) → ScopeFits m sc → BranchedOrdered m (branches_of g.table ks as' sc m)) → BranchedOrdered n (branch_of g.table k o sc n (λ m. branches_of g.table ks as' sc m))
      go None e next = next n s
      go (Some a) e next =
          let sc' = with_fields a.names (fields_at g.table k) n sc in
          let start = n + length a.names in
          let l = a.code.line sc' start in
          let b = (e.1 (fields_at g.table k) n).line start (fields_fit n start a.names (fields_at g.table k) sc refl s) in
          let up = b.grows in
          let rest = next l.fresh (scope_more n l.fresh sc (omega arith) s) in
          let up' = rest.grows in
          record {
            grows = omega arith;
            branches = ((n, omega arith, fields_ordered n a.names, e.0, (start, fields_behind n a.names, b.term)), branches_less n l.fresh (branches_of g.table ks as' sc l.fresh).branches (omega arith) rest.branches);
          }

  case_ordered : (x : Ident) (as' : List ArmCode) (sc : Scope) → AllArms as' sc → (n : ℕ) → ScopeFits n sc → LineOrdered n (case_line g.table x as' sc n)
  case_ordered x as' sc h n s =
      let b = branches_ordered (constructors_of g.table (owner_at g.table (first_constructor as'))) as' sc h n s in
      record { grows = b.grows; term = (at_fit n sc (number_of x) s, b.branches) }

  -- a declared constructor is found by its name
  found_here : (k : Ident) → (c : ℕ) → constructor_named g.table (number_of k) ≡ Some c → IsFound g.table (record { 0 = con_named g k })
  found_here k c e =
      let named : con_named g k ≡ c = ap con_or e in
      let name : name_at g.table c ≡ number_of k = named_at g.table (number_of k) c e in
      subst (λ (j : ℕ). constructor_named g.table (name_at g.table j) ≡ Some j) (sym named) (ap (constructor_named g.table) name ∙ e)

  -- Several parts.

  several_long : (cs : List Code) (sc : Scope) (n : ℕ) → length (several cs sc n).atoms ≡ length cs
  several_long [] sc n = refl
  several_long (c ∷ cs) sc n = ap suc (several_long cs sc (c.atom sc n).fresh)

  pub parts_long : (cs : List Code) (sc : Scope) (n : ℕ) → parts_count (part_lines cs sc n).parts ≡ length cs
  parts_long [] sc n = refl
  parts_long (c ∷ cs) sc n = ap suc (parts_long cs sc (c.line sc n).fresh)

  scalars_long : (types : List Ty) (cs : List Code) → length cs ≡ length types → length (at_fields true types cs) ≡ length (scalar_types types)
  scalars_long [] [] e = refl
  scalars_long [] (c ∷ cs) e = absurd (omega (arith, e))
  scalars_long (t ∷ types) [] e = absurd (omega (arith, e))
  scalars_long (Whole ∷ types) (c ∷ cs) e = ap suc (scalars_long types cs (omega (arith, e)))
  scalars_long (Truth ∷ types) (c ∷ cs) e = ap suc (scalars_long types cs (omega (arith, e)))
  scalars_long (Tree t ∷ types) (c ∷ cs) e = scalars_long types cs (omega (arith, e))

  trees_long : (types : List Ty) (cs : List Code) → length cs ≡ length types → length (at_fields false types cs) ≡ length (tree_types types)
  trees_long [] [] e = refl
  trees_long [] (c ∷ cs) e = absurd (omega (arith, e))
  trees_long (t ∷ types) [] e = absurd (omega (arith, e))
  trees_long (Whole ∷ types) (c ∷ cs) e = trees_long types cs (omega (arith, e))
  trees_long (Truth ∷ types) (c ∷ cs) e = trees_long types cs (omega (arith, e))
  trees_long (Tree t ∷ types) (c ∷ cs) e = ap suc (trees_long types cs (omega (arith, e)))

  arguments_long : (xs : Arguments) (known : typing.Scope) (types : List Ty) → HaveAll g known xs types → length (infer_all g xs) ≡ length types
  arguments_long NoArgument known [] h = refl
  arguments_long NoArgument known (t ∷ types) h = absurd h
  arguments_long (Argument e xs) known [] h = absurd h
  arguments_long (Argument e xs) known (t ∷ types) h = ap suc (arguments_long xs known types h.1)

  pub record PartedOrdered (n : ℕ) (ps : Parted) : Type 0 where
    pub grows : n ≤ ps.fresh
    pub parts : PartsOrdered g.table n ps.parts

  parts_less : (n m : ℕ) (ps : PartTerms) → n ≤ m → PartsOrdered g.table m ps → PartsOrdered g.table n ps
  parts_less n m NoPart le h = tt
  parts_less n m (PartThen t ps) le h = ((h.0.0, omega (arith, le, h.0.1), h.0.2), parts_less n m ps le h.1)

  parts_ordered : (cs : List Code) (sc : Scope) → AllCodes cs sc → (n : ℕ) → ScopeFits n sc → PartedOrdered n (part_lines cs sc n)
  parts_ordered [] sc h n s = record { grows = omega arith; parts = tt }
  parts_ordered (c ∷ cs) sc h n s =
      let l = c.line sc n in
      let a = h.0.line n s in
      let up = a.grows in
      let r = parts_ordered cs sc h.1 l.fresh (scope_more n l.fresh sc up s) in
      let up' = r.grows in
      record { grows = omega arith; parts = ((n, omega arith, a.term), parts_less n l.fresh (part_lines cs sc l.fresh).parts up r.parts) }

  tuple_ordered : (types : List Ty) (cs : List Code) (sc : Scope) → AllByRecursion (IsTypeFound g.table) types → length cs ≡ length types → AllCodes cs sc → (n : ℕ) → ScopeFits n sc → LineOrdered n (tuple_line types cs sc n)
  tuple_ordered types cs sc found long h n s =
      let ss = several (at_fields true types cs) sc n in
      let hs = several_ordered (at_fields true types cs) sc (select_codes true types cs sc h) n s in
      let up = hs.grows in
      let ps = part_lines (at_fields false types cs) sc ss.fresh in
      let hp = parts_ordered (at_fields false types cs) sc (select_codes false types cs sc h) ss.fresh (scope_more n ss.fresh sc up s) in
      let up' = hp.grows in
      record {
        grows = omega arith;
        term = ordered_prepend n ss.fresh ss.binds (Tuple types ss.atoms ps.parts) hs.rises
            (hs.fit, hp.parts, (found, several_long (at_fields true types cs) sc n ∙ scalars_long types cs long, parts_long (at_fields false types cs) sc ss.fresh ∙ trees_long types cs long));
      }

  -- Sides of several variables.

  same_long : (qs : List Parameter) → length (names_of qs) ≡ length (types_of g.table.types qs)
  same_long qs = length-map qs (λ (q : Parameter). q.name) ∙ sym (length-map qs (λ (q : Parameter). type_of_name g.table.types q.ty))

  some_names : (qs : List Parameter) → 1 ≤ length qs → 1 ≤ length (names_of qs)
  some_names qs h = let e = length-map qs (λ (q : Parameter). q.name) in omega (arith, h, e)

  behind_from : {A : Type 0} (n : ℕ) (xs : List A) → behind_fields n (variables_from n xs) ≡ n + length xs
  behind_from n [] = omega arith
  behind_from n (x ∷ xs) = let h = behind_from (n + 1) xs in omega (arith, h)

  behind_less : {A : Type 0} (j n : ℕ) (xs : List A) → j ≤ n → behind_fields j (variables_from n xs) ≤ n + length xs
  behind_less j n [] le = omega (arith, le)
  behind_less j n (x ∷ xs) le = let h = behind_less (n + 1) (n + 1) xs (omega arith) in omega (arith, h)

  -- A side from a number on, or an earlier one, and the names behind it.
  pub record BoundOrdered (n : ℕ) (b : Bounded) : Type 0 where
    pub side : SideOrdered g.table n b.side
    pub behind : (j : ℕ) → j ≤ n → behind_variables j b.side ≤ b.fresh
    pub grows : n ≤ b.fresh
    pub scope : ScopeFits b.fresh b.scope

  bound_ordered : (xs : List Ident) (types : List Ty) (c : Code) (sc : Scope) → 1 ≤ length xs → length xs ≡ length types → CodeOrdered c sc → (n : ℕ) → ScopeFits n sc → (inner : Scope) → ScopeFits n inner
      → BoundOrdered n (bound_side xs types c sc n inner)
  bound_ordered [] types c sc some long h n s inner i = absurd (omega (arith, some))
  bound_ordered (x ∷ []) types c sc some long h n s inner i =
      let l = c.side sc (n + 1) in
      let a = h.side (n + 1) (scope_more n (n + 1) sc (omega arith) s) in
      let up = a.grows in
      record { side = (omega arith, a.term); behind = λ j le. up; grows = omega arith; scope = (omega arith, scope_more n l.fresh inner (omega arith) i) }
  bound_ordered (x ∷ y ∷ xs) types c sc some long h n s inner i =
      let names : List Ident = x ∷ y ∷ xs in
      let start = n + length names in
      let l = c.line sc start in
      let a = h.line start (scope_more n start sc (omega arith) s) in
      let up = a.grows in
      record {
        side = (fields_ordered n names, subst (λ (k : ℕ). IsOrdered g.table k l.term) (sym (behind_from n names)) a.term, tt, variables_length n names ∙ long);
        behind = λ j le. (let b = behind_less j n names le in omega (arith, b, up));
        grows = omega arith;
        scope = scope_more start l.fresh (with_fields names types n inner) up (fields_fit n start names types inner refl i);
      }

  several_line_ordered : (xs : List Ident) (types : List Ty) (c : Code) (body : ToLine) (sc : Scope) → 1 ≤ length xs → length xs ≡ length types → CodeOrdered c sc
      → ((sc' : Scope) (n : ℕ) → ScopeFits n sc' → LineOrdered n (body sc' n)) → (n : ℕ) → ScopeFits n sc → LineOrdered n (several_line xs types c body sc n)
  several_line_ordered xs types c body sc some long hc hb n s =
      let l = bound_side xs types c sc n sc in
      let a = bound_ordered xs types c sc some long hc n s sc s in
      let up = a.grows in
      let r = hb l.scope l.fresh a.scope in
      let up' = r.grows in
      record { grows = omega arith; term = (a.side, (l.fresh, a.behind n (omega arith), r.term)) }

  sides_line_ordered : (xs : List Ident) (types : List Ty) (c : Code) (ys : List Ident) (other : List Ty) (d : Code) (body : ToLine) (sc : Scope) → 1 ≤ length xs → length xs ≡ length types
      → 1 ≤ length ys → length ys ≡ length other → CodeOrdered c sc → CodeOrdered d sc
      → ((sc' : Scope) (n : ℕ) → ScopeFits n sc' → LineOrdered n (body sc' n)) → (n : ℕ) → ScopeFits n sc → LineOrdered n (sides_line xs types c ys other d body sc n)
  sides_line_ordered xs types c ys other d body sc some long some' long' hc hd hb n s =
      let l = bound_side xs types c sc n sc in
      let a = bound_ordered xs types c sc some long hc n s sc s in
      let up = a.grows in
      let r = bound_side ys other d sc l.fresh l.scope in
      let b = bound_ordered ys other d sc some' long' hd l.fresh (scope_more n l.fresh sc up s) l.scope a.scope in
      let up' = b.grows in
      let t = hb r.scope r.fresh b.scope in
      let up'' = t.grows in
      let first = a.behind n (omega arith) in
      record { grows = omega arith; term = ((a.side, (l.fresh, first, b.side)), (r.fresh, b.behind (behind_variables n l.side) first, t.term)) }

  -- a declared type is found by its name
  name_found : (types : List ℕ) (x i : ℕ) → place_of types x ≡ Some i → declared_name types i ≡ x
  name_found [] x i e = absurd cc
  name_found (y ∷ ys) x i e = go (y == x) (eqb-true y x) (place_of ys x) (name_found ys x) e
    where
      go : (b : Bool) → (b ≡ true → y ≡ x) → (o : Option ℕ) → ((j : ℕ) → o ≡ Some j → declared_name ys j ≡ x) → (if b then Some 0 else next_place o) ≡ Some i → declared_name (y ∷ ys) i ≡ x
      go true is o further f = subst (λ j. declared_name (y ∷ ys) j ≡ x) (same_Some 0 i f) (is refl)
      go false is None further f = absurd cc
      go false is (Some j) further f = subst (λ k. declared_name (y ∷ ys) k ≡ x) (same_Some (suc j) i f) (further j refl)

  type_found : (a : TypeName) → IsTypeFound g.table (type_of_name g.table.types a)
  type_found (written.Whole p) = refl
  type_found (written.Truth p) = refl
  type_found (written.Declared x) = go (place_of g.table.types (number_of x)) refl
    where
      go : (o : Option ℕ) → place_of g.table.types (number_of x) ≡ o → IsTypeFound g.table (type_or (tree_type o))
      go None e = refl
      go (Some i) e = ap (λ o. type_or (tree_type o)) (ap (place_of g.table.types) (name_found g.table.types (number_of x) i e) ∙ e)

  types_found : (as' : List TypeName) → AllByRecursion (IsTypeFound g.table) (map (type_of_name g.table.types) as')
  types_found [] = tt
  types_found (a ∷ as') = (type_found a, types_found as')

  mutual
    pub ordered : (e : Expression) (known : typing.Scope) (given : Results Ty) (sc : Scope) → Has g known e given → CodeOrdered (infer g e) sc
    ordered (Var x) known given sc h = plain_code (λ sc. type_at sc (number_of x)) (λ sc. atom_at sc (number_of x)) sc (λ n s. at_fit n sc (number_of x) s)
    ordered (Num p m) known given sc h = plain_code (λ sc. Whole) (λ sc. atomic.Whole (pos m)) sc (λ n s. refl)
    ordered (Bit p b) known given sc h = plain_code (λ sc. Truth) (λ sc. atomic.Truth b) sc (λ n s. tt)
    ordered (Paren p e) known given sc h = ordered e known given sc h
    ordered (Op p f d e) known given sc h =
        atom_code (operation_atom f (infer g d).atom (infer g e).atom) sc (operation_ordered f (infer g d).atom (infer g e).atom sc (ordered d known (results.One Whole) sc h.1).atom (ordered e known (results.One Whole) sc h.2).atom)
    ordered (Call f xs) known given sc h = call_ordered (gives_type g.table (function_named g.functions (number_of f))) f.name (infer_all g xs) sc (all_ordered xs known (parameter_types g.table h.0) sc h.3)
    ordered (Make k xs) known given sc h =
        line_code (make_line g.table (record { 0 = con_named g k }) (infer_all g xs)) sc
        (make_line_ordered (record { 0 = con_named g k }) (infer_all g xs) sc (found_here k h.0 h.1) (all_ordered xs known (fields_at g.table h.0) sc h.3))
    ordered (Let p x d e) known given sc h =
        line_code (let_line x (infer g d).bound (infer g e).line) sc
        (let_ordered x (infer g d).bound (infer g e).line sc (ordered d known (results.One h.0) sc h.1).bound (λ at t. (ordered e (typing.bound x h.0 known) given (slot x at t ∷ sc) h.3).line))
    ordered (Par p x d y e f) known given sc h =
        let xs : List Ident = x ∷ [] in
        let ys : List Ident = y ∷ [] in
        line_code (sides_line xs (h.0 ∷ []) (infer g d) ys (h.1 ∷ []) (infer g e) (infer g f).line) sc
        (sides_line_ordered xs (h.0 ∷ []) (infer g d) ys (h.1 ∷ []) (infer g e) (infer g f).line sc (omega arith) refl (omega arith) refl (ordered d known (results.One h.0) sc h.2)
        (ordered e known (results.One h.1) sc h.3) (λ sc'. (ordered f (typing.bound y h.1 (typing.bound x h.0 known)) given sc' h.6).line))
    ordered (If p c d e) known given sc h =
        line_code (if_line (infer g c).atom (infer g d).line (infer g e).line) sc
        (if_ordered (infer g c).atom (infer g d).line (infer g e).line sc (ordered c known (results.One Truth) sc h.0).atom (ordered d known given sc h.1).line (ordered e known given sc h.2).line)
    ordered (Case p x arms) known given sc h = line_code (case_line g.table x (infer_arms g arms)) sc (case_ordered x (infer_arms g arms) sc (arms_ordered arms known given sc h.3))
    ordered (source.Tuple p as' xs) known given sc h =
        let types = map (type_of_name g.table.types) as' in
        line_code (tuple_line types (infer_all g xs)) sc
        (tuple_ordered types (infer_all g xs) sc (types_found as') (arguments_long xs known types h.2) (all_ordered xs known types sc h.2))
    ordered (LetSeveral p qs d f) known given sc h =
        let types = types_of g.table.types qs in
        line_code (several_line (names_of qs) types (infer g d) (infer g f).line) sc
        (several_line_ordered (names_of qs) types (infer g d) (infer g f).line sc (some_names qs h.1.0) (same_long qs) (ordered d known (as_results types) sc h.2) (λ sc'. (ordered f h.0 given sc' h.4).line))
    ordered (ParSeveral p qs d rs e f) known given sc h =
        let types = types_of g.table.types qs in
        let other = types_of g.table.types rs in
        line_code (sides_line (names_of qs) types (infer g d) (names_of rs) other (infer g e) (infer g f).line) sc
        (sides_line_ordered (names_of qs) types (infer g d) (names_of rs) other (infer g e) (infer g f).line sc (some_names qs h.2.0) (same_long qs) (some_names rs h.3.0) (same_long rs)
        (ordered d known (as_results types) sc h.4) (ordered e known (as_results other) sc h.5)
        (λ sc'. (ordered f h.1 given sc' h.8).line))

    all_ordered : (xs : Arguments) (known : typing.Scope) (types : List Ty) (sc : Scope) → HaveAll g known xs types → AllCodes (infer_all g xs) sc
    all_ordered NoArgument known types sc h = tt
    all_ordered (Argument e xs) known [] sc h = absurd h
    all_ordered (Argument e xs) known (t ∷ types) sc h = (ordered e known (results.One t) sc h.0, all_ordered xs known types sc h.1)

    arms_ordered : (arms : Arms) (known : typing.Scope) (given : Results Ty) (sc : Scope) → HaveArms g known arms given → AllArms (infer_arms g arms) sc
    arms_ordered (LastArm k xs e) known given sc h = ((found_here k h.0 h.2, λ types n. ordered e h.1 given (with_fields xs types n sc) h.4), tt)
    arms_ordered (NextArm k xs e arms) known given sc h = ((found_here k h.0.0 h.0.2, λ types n. ordered e h.0.1 given (with_fields xs types n sc) h.0.4), arms_ordered arms known given sc h.1)

  -- A body is ordered behind its parameters.
  pub body_ordered : (names : List Ident) (types : List Ty) (e : Expression) (known : typing.Scope) (given : Results Ty) → Has g known e given → IsOrdered g.table (length names) (infer_body g names types e)
  body_ordered names types e known given h = ((ordered e known given (with_fields names types 0 []) h).line (length names) (fields_fit 0 (length names) names types [] (omega arith) tt)).term
