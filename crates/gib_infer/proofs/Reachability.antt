-- What a typed program becomes breaks no rule, where each field in scope counts as reached.
use Rattle.std.proofs.Common.{◌≡◌, ℕ, zero, suc, ◌+◌, ◌<◌, ◌≤◌, Bool, true, false, ◌==◌, ◌&&◌, if◌then◌else◌, List, [], ◌∷◌, ◌++◌, map, length, Option, Some, None, refl, sym, ap, ◌∙◌, subst, arith, inl, inr}
use Rattle.std.specs.Prelude.{pos, slice_get}
use Rattle.std.specs.List.{AllByRecursion}
use Rattle.std.proofs.lemmas.Bool.{cases_lt, eqb-true, eq-eqb, lt-ltb}
use Rattle.std.proofs.lemmas.Option.{same_Some, slice_get-get_or}
use Rattle.std.proofs.lemmas.List.{length-map}
use Rattle.gib_types.specs.declared.table.Ty.{Ty}
use Rattle.gib_types.specs.declared.table.Ty.TheVariants.{Whole, Truth, Tree}
use Rattle.gib_types.specs.declared.table.ConId.{ConId}
use Rattle.gib_types.specs.Table.{Row, Table, IsTable, IsTyBelow, name_at, name_of, owner_at, fields_at, first_at, count_at}
use Rattle.gib_types.proofs.Owners.{together, tag_there, tag_back}
use Rattle.gib_syntax.specs.declared.tree.Ident.{Ident}
use Rattle.gib_types.specs.declared.operator.Operator.{Operator}
use Rattle.gib_types.specs.declared.operator.Operator.TheVariants as o
use Rattle.gib_syntax.specs.declared.tree.Parameter.{Parameter}
use Rattle.gib_syntax.specs.declared.tree.TypeName.{TypeName}
use Rattle.gib_syntax.specs.Results as results
use Rattle.gib_syntax.specs.Results.{Results, as_results}
use Rattle.gib_syntax.specs.Tree as source
use Rattle.gib_syntax.specs.Tree.{Expression, Arguments, Arms, Var, Num, Bit, Paren, Op, Call, Make, Let, Par, If, Case, LetSeveral, ParSeveral, NoArgument, Argument, LastArm, NextArm, FunctionTree, ProgramTree}
use Rattle.gib_syntax.specs.Declarations.{number_of, place_of, next_place, constructor_names, constructor_named, function_named, table_of_program, type_of_name}
use Rattle.gib_syntax.specs.Typing as typing
use Rattle.gib_syntax.specs.Typing.{Globals, globals_of, Has, HaveAll, HaveArms, Covers, arm_names, BindsAll, AreVariables, parameter_types, types_of, result_types, one_type, IsTypedHere, IsTypedProgram}
use Rattle.gib_types.specs.Operators.{operator_type}
use Rattle.gib_syntax.specs.Meaning.{names_of}
use Rattle.gib_core.specs.declared.atom.Variable.{Variable}
use Rattle.gib_core.specs.declared.atom.Atom.{Atom}
use Rattle.gib_core.specs.declared.atom.Atom.TheVariants as atomic
use Rattle.gib_core.specs.declared.scope.Bound.{Bound}
use Rattle.gib_core.specs.Tree.{variables_from, FunctionTerm, CoreTree}
use Rattle.gib_core.specs.Meaning.{function_at}
use Rattle.gib_core.specs.Inferring.{Scope, slot, Code, atom_at, type_at, of_line, of_atom, call_code, operation_atom, make_line, let_line, if_line, case_line, tuple_line, several_line, sides_line, ArmCode, with_fields, branches_of, arm_for, numbers_from, constructors_of, first_constructor, con_or, con_named, gives_type, infer, infer_all, infer_arms, infer_body, infer_function, infer_program}
use Rattle.gib_core.specs.declared.scope.Known.{Known}
use Rattle.gib_core.specs.Met.{known, reached, Body, opening, with_parameters}
use Rattle.gib_core.specs.Rules.{type_bound, bound_too, is_reached, bind_fields, is_declared, are_declared, bind_parameters, before_body}
use Rattle.gib_core.specs.Reachable.{as_reached, IsReachable, AreReachable}
use Rattle.gib_infer.proofs.Fits.{named_at, fields_fit}
use Rattle.gib_infer.proofs.Ordered.{CodeOrdered, ordered}
use Rattle.gib_infer.proofs.Whole.{named_listed}
use Rattle.gib_infer.proofs.Meanings.{listed}
use Rattle.gib_infer.proofs.Ready.{Ready, NamesTyped, CodeBuilt, AllBuilt}
use Rattle.gib_infer.proofs.Makes.{line_built, atom_built, plain_built, operation_ok, call_built, make_built}
use Rattle.gib_infer.proofs.Branching.{names_typed_bound, names_typed_fields, names_fields, let_ok, let_type, if_ok}
use Rattle.gib_infer.proofs.Severals.{NamesBound, tuple_ok, several_line_ok, several_line_type, sides_line_ok, sides_line_type}
use Rattle.gib_infer.proofs.Rising.{rising_variables, fields_outside, more_reached, reached_here, fields_can, binds_length}
use Rattle.gib_infer.proofs.TypesKnown.{name_below}
use Rattle.gib_infer.proofs.Choosing.{ArmBuilt, Taken, AllTaken, branches_type, case_ok}
use Rattle.gib_check.proofs.Different.{place_within}
use Rattle.gib_core.proofs.BuiltFacts.{operator_scalar}

-- Constructors and arms.

same_name : (table : Table) (c k : ℕ) → IsTable table → c < length table.rows → k < length table.rows → name_at table c ≡ name_at table k → c ≡ k
same_name table c k is lt lt' e = go (slice_get table.rows c) (slice_get table.rows k) refl refl e
  where
    none : Row
    none = record { name = 0; owner = 0; fields = [] }

    go : (o p : Option Row) → slice_get table.rows c ≡ o → slice_get table.rows k ≡ p → name_of o ≡ name_of p → c ≡ k
    go None p eo ep f = absurd (let at = slice_get-get_or table.rows c none lt in cc)
    go (Some row) None eo ep f = absurd (let at = slice_get-get_or table.rows k none lt' in cc)
    go (Some row) (Some other) eo ep f = is.names_differ c k row other eo ep f

-- One of the arms is that of the constructor.
abbrev has_arm : List ArmCode → ℕ → Bool
has_arm [] k = false
has_arm (arm ∷ arms) k = if arm.con == k then true else has_arm arms k

-- Parameters.

parameters_same : (n : ℕ) (xs : List Ident) (types : List Ty) (bound : List Bound) → length types ≡ length xs → bind_parameters n types bound ≡ bind_fields (variables_from n xs) types bound
parameters_same n [] [] bound e = refl
parameters_same n [] (t ∷ types) bound e = absurd cc
parameters_same n (x ∷ xs) [] bound e = absurd cc
parameters_same n (x ∷ xs) (t ∷ types) bound e =
    let next : suc n ≡ n + 1 = omega arith in
    parameters_same (suc n) xs types (bound_too (record { 0 = n }) t bound) (omega (arith, e))
    ∙ ap (λ m. bind_fields (variables_from m xs) types (bound_too (record { 0 = n }) t bound)) next

parameters_keep : (n : ℕ) (types : List Ty) (ks : List Known) (y : Variable) → is_reached (known (map as_reached ks) y) ≡ true → is_reached (known (map as_reached (with_parameters n types ks)) y) ≡ true
parameters_keep n [] ks y h = h
parameters_keep n (t ∷ types) ks y h = parameters_keep (suc n) types (reached (record { 0 = n }) ∷ ks) y (more_reached (reached (record { 0 = n })) ks y h)

parameters_reach : (types : List Ty) (n : ℕ) (ks : List Known) (y : Variable) → n ≤ y.0 → y.0 < n + length types → is_reached (known (map as_reached (with_parameters n types ks)) y) ≡ true
parameters_reach [] n ks y lo hi = absurd (omega arith)
parameters_reach (t ∷ types) n ks y lo hi =
    let ks' : List Known = reached (record { 0 = n }) ∷ ks in
    elim (cases_lt n y.0) [
      | inl lt ↦ parameters_reach types (suc n) ks' y (omega arith) (omega arith)
      | inr ge ↦ parameters_keep (suc n) types ks' y (reached_here (reached (record { 0 = n })) ks y (let same : n ≡ y.0 = omega arith in same))
    ]

module _ (core : CoreTree) (functions : List FunctionTree) (is : IsTable core.table) where
  abbrev g : Globals
  g = record { table = core.table; functions = functions }

  abbrev Built : Code → Results Ty → typing.Scope → Scope → Type 0
  Built c given outer sc = CodeBuilt core functions c given outer sc

  abbrev EachBuilt : List ArmCode → Results Ty → typing.Scope → Scope → Type 0
  EachBuilt [] given outer sc = Unit {0}
  EachBuilt (arm ∷ arms) given outer sc = ArmBuilt core functions arm.con arm given outer sc × EachBuilt arms given outer sc

  taken : (arms : List ArmCode) (k : ℕ) (given : Results Ty) (outer : typing.Scope) (sc : Scope) → has_arm arms k ≡ true → EachBuilt arms given outer sc → Taken core functions k (arm_for arms k) given outer sc
  taken [] k given outer sc has h = absurd cc
  taken (arm ∷ arms) k given outer sc has h = go (arm.con == k) (eqb-true arm.con k) has (λ e. taken arms k given outer sc e h.1)
    where
      go : (c : Bool) → (c ≡ true → arm.con ≡ k) → (if c then true else has_arm arms k) ≡ true → (has_arm arms k ≡ true → Taken core functions k (arm_for arms k) given outer sc)
          → Taken core functions k (if c then Some arm else arm_for arms k) given outer sc
      go true same e more = subst (λ (j : ℕ). ArmBuilt core functions j arm given outer sc) (same refl) h.0
      go false same e more = more e

  taken_from : (n count : ℕ) (arms : List ArmCode) (given : Results Ty) (outer : typing.Scope) (sc : Scope) → ((k : ℕ) → n ≤ k → k < n + count → has_arm arms k ≡ true) → EachBuilt arms given outer sc
      → AllTaken core functions (numbers_from n count) arms given outer sc
  taken_from n zero arms given outer sc has h = tt
  taken_from n (suc count) arms given outer sc has h = (taken arms n given outer sc (has n (omega arith) (omega arith)) h, taken_from (suc n) count arms given outer sc (λ k lo hi. has k (omega arith) (omega arith)) h)

  -- The name is that of a constructor of the type.
  abbrev NamedHere : ℕ → ℕ → Type 0
  NamedHere ty x = (c : ℕ) × (constructor_named core.table x ≡ Some c) × (owner_at core.table c ≡ ty)

  -- Each arm's constructor is one of the type.
  abbrev Own : ℕ → Arms → Type 0
  Own ty arms = AllByRecursion (NamedHere ty) (arm_names arms)

  named_within : (x c : ℕ) → constructor_named core.table x ≡ Some c → c < length core.table.rows
  named_within x c e = let at = place_within (constructor_names core.table) x c e in let l = length-map core.table.rows (λ (r : Row). r.name) in omega arith

  -- The constructor that is named is k, where their names are the same.
  con_is : (j : Ident) (k ty : ℕ) → NamedHere ty (number_of j) → k < length core.table.rows → number_of j ≡ name_at core.table k → con_named g j ≡ k
  con_is j k ty own lt e =
      let named : con_named g j ≡ own.0 = ap con_or own.1 in
      named ∙ same_name core.table own.0 k is (named_within (number_of j) own.0 own.1) lt (named_at core.table (number_of j) own.0 own.1 ∙ e)

  arm_there : (arms : Arms) (ty k i : ℕ) → Own ty arms → k < length core.table.rows → place_of (arm_names arms) (name_at core.table k) ≡ Some i → has_arm (infer_arms g arms) k ≡ true
  arm_there (LastArm j xs e) ty k i own lt is_at = go (number_of j == name_at core.table k) (eqb-true (number_of j) (name_at core.table k)) is_at
    where
      go : (c : Bool) → (c ≡ true → number_of j ≡ name_at core.table k) → (if c then Some 0 else next_place (place_of [] (name_at core.table k))) ≡ Some i → has_arm (infer_arms g (LastArm j xs e)) k ≡ true
      go true same f = ap (λ (c : Bool). if c then true else false) (eq-eqb (con_named g j) k (con_is j k ty own.0 lt (same refl)))
      go false same f = absurd cc
  arm_there (NextArm j xs e arms) ty k i own lt is_at =
      go (number_of j == name_at core.table k) (place_of (arm_names arms) (name_at core.table k)) (eqb-true (number_of j) (name_at core.table k)) (λ l f. arm_there arms ty k l own.1 lt f) is_at
    where
      more : (c : Bool) → has_arm (infer_arms g arms) k ≡ true → (if c then true else has_arm (infer_arms g arms) k) ≡ true
      more true f = refl
      more false f = f

      go : (c : Bool) (o : Option ℕ) → (c ≡ true → number_of j ≡ name_at core.table k) → ((l : ℕ) → o ≡ Some l → has_arm (infer_arms g arms) k ≡ true) → (if c then Some 0 else next_place o) ≡ Some i
          → has_arm (infer_arms g (NextArm j xs e arms)) k ≡ true
      go true o same rest f = ap (λ (c : Bool). if c then true else has_arm (infer_arms g arms) k) (eq-eqb (con_named g j) k (con_is j k ty own.0 lt (same refl)))
      go false None same rest f = absurd cc
      go false (Some l) same rest f = more (con_named g j == k) (rest l refl)

  first_own : (arms : Arms) (ty : ℕ) → Own ty arms → owner_at core.table (first_constructor (infer_arms g arms)) ≡ ty
  first_own (LastArm k xs e) ty own = ap (owner_at core.table) (ap con_or own.0.1) ∙ own.0.2
  first_own (NextArm k xs e arms) ty own = ap (owner_at core.table) (ap con_or own.0.1) ∙ own.0.2

  first_listed : (arms : Arms) (ty : ℕ) → Own ty arms → listed (constructors_of core.table (owner_at core.table (first_constructor (infer_arms g arms)))) (first_constructor (infer_arms g arms)) ≡ true
  first_listed (LastArm k xs e) ty own = named_listed core.table (number_of k) (con_named g k) is (own.0.1 ∙ ap Some (sym (ap con_or own.0.1)))
  first_listed (NextArm k xs e arms) ty own = named_listed core.table (number_of k) (con_named g k) is (own.0.1 ∙ ap Some (sym (ap con_or own.0.1)))

  all_taken : (arms : Arms) (t : ℕ) (given : Results Ty) (outer : typing.Scope) (sc : Scope) → Covers core.table t (arm_names arms) → EachBuilt (infer_arms g arms) given outer sc
      → AllTaken core functions (constructors_of core.table t) (infer_arms g arms) given outer sc
  all_taken arms t given outer sc covers h = taken_from (first_at core.table t) (count_at core.table t) (infer_arms g arms) given outer sc (λ k lo hi. has k lo hi) h
    where
      has : (k : ℕ) → first_at core.table t ≤ k → k < first_at core.table t + count_at core.table t → has_arm (infer_arms g arms) k ≡ true
      has k lo hi =
          let at = (together core.table t k is).1 (lo, hi) in
          let found = covers.each k at in
          arm_there arms t k found.0 covers.own (tag_back core.table t k k at).1 found.1

  -- Branches of constructors, where there is one.
  some_type : (ks : List ℕ) (c : ℕ) (arms : List ArmCode) (given : Results Ty) (outer : typing.Scope) (sc : Scope) → listed ks c ≡ true → AllTaken core functions ks arms given outer sc → (n : ℕ) → (branches_of core.table ks arms sc n).ty ≡ one_type given
  some_type [] c arms given outer sc e h n = absurd cc
  some_type (k ∷ ks) c arms given outer sc e h n = branches_type core functions k ks arms given outer sc h n

  case_type : (x : Ident) (arms : Arms) (t : ℕ) (given : Results Ty) (outer : typing.Scope) (sc : Scope) → Covers core.table t (arm_names arms) → EachBuilt (infer_arms g arms) given outer sc
      → (n : ℕ) → (case_line core.table x (infer_arms g arms) sc n).ty ≡ one_type given
  case_type x arms t given outer sc covers h n =
      let all = all_taken arms t given outer sc covers h in
      let own = first_own arms t covers.own in
      some_type (constructors_of core.table (owner_at core.table (first_constructor (infer_arms g arms)))) (first_constructor (infer_arms g arms)) (infer_arms g arms) given outer sc (first_listed arms t covers.own)
      (subst (λ (z : ℕ). AllTaken core functions (constructors_of core.table z) (infer_arms g arms) given outer sc) (sym own) all) n

  -- Parts of expressions.

  fields_named : (k : Ident) (xs : List Ident) (outer : typing.Scope) (c : ℕ) (inner : typing.Scope) → constructor_named core.table (number_of k) ≡ Some c → BindsAll outer xs (fields_at core.table c) inner
      → BindsAll outer xs (fields_at core.table (con_named g k)) inner
  fields_named k xs outer c inner e h = subst (λ (z : ℕ). BindsAll outer xs (fields_at core.table z) inner) (sym (ap con_or e)) h

  abbrev call_of : Ident → List Code → Code
  call_of f xs = call_code (gives_type core.table (function_named functions (number_of f))) f.name xs

  operation_built : (f : Operator) (c d : Code) (given : Results Ty) (outer : typing.Scope) (sc : Scope) → given ≡ results.One (operator_type f) → CodeOrdered g (of_atom (operation_atom f c.atom d.atom)) sc
      → Built c (results.One Whole) outer sc → Built d (results.One Whole) outer sc → Built (of_atom (operation_atom f c.atom d.atom)) given outer sc
  operation_built f c d given outer sc same order hc hd =
      subst (λ (z : Results Ty). Built (of_atom (operation_atom f c.atom d.atom)) z outer sc) (sym same)
      (atom_built core functions (operation_atom f c.atom d.atom) (operator_type f) outer sc order (operator_scalar f) (λ n. refl)
      (operation_ok core functions f c.atom d.atom outer sc hc.order.atom hd.order.atom hc.atom hd.atom))

  make_here : (k : Ident) (cs : List Code) (c : ℕ) (given : Results Ty) (outer : typing.Scope) (sc : Scope) → CodeOrdered g (of_line (make_line core.table (record { 0 = con_named g k }) cs)) sc
      → constructor_named core.table (number_of k) ≡ Some c → given ≡ results.One (Tree (record { 0 = owner_at core.table c })) → AllBuilt core functions cs (fields_at core.table (con_named g k)) outer sc
      → Built (of_line (make_line core.table (record { 0 = con_named g k }) cs)) given outer sc
  make_here k cs c given outer sc order e same all =
      let named : con_named g k ≡ c = ap con_or e in
      let at : ConId = record { 0 = con_named g k } in
      let within : con_named g k < length core.table.rows = named_within (number_of k) (con_named g k) (e ∙ ap Some (sym named)) in
      subst (λ (z : Results Ty). Built (of_line (make_line core.table at cs)) z outer sc) (ap (λ z. results.One (Tree (record { 0 = owner_at core.table z }))) named ∙ sym same)
      (make_built core functions at cs outer sc order (tag_there core.table (con_named g k) within) all)

  -- The types that are written are declared, or scalars.
  written_declared : (as' : List TypeName) → are_declared core.table (map (type_of_name core.table.types) as') ≡ true
  written_declared [] = refl
  written_declared (a ∷ as') = (λ i. one (type_of_name core.table.types a) (name_below core.table.types a) i && written_declared as' i)
    where
      one : (t : Ty) → IsTyBelow (length core.table.types) t → is_declared core.table t ≡ true
      one Whole h = refl
      one Truth h = refl
      one (Tree t) h = lt-ltb t.0 (length core.table.types) h

  names_bound : (qs : List Parameter) (known inner outer : typing.Scope) (c : Code) (sc : Scope) → AreVariables core.table.types qs → BindsAll known (names_of qs) (types_of core.table.types qs) inner
      → Built c (as_results (types_of core.table.types qs)) outer sc → NamesBound core functions known inner (names_of qs) (types_of core.table.types qs) c outer sc
  names_bound qs known inner outer c sc vars binds code =
      let long = length-map qs (λ (q : Parameter). q.name) in
      let some = vars.0 in
      let few = vars.1 in
      record { some = omega (arith, long, some); few = omega (arith, long, few); long = binds_length (names_of qs) (types_of core.table.types qs) known inner binds; binds = binds; code = code }

  -- Each function is there.
  module _ (there : (f : ℕ) (h : FunctionTree) → function_named functions f ≡ Some h → function_at core.functions f ≡ Some (infer_function g h)) where
    call_here : (f : Ident) (xs : List Code) (h : FunctionTree) (given : Results Ty) (outer : typing.Scope) (sc : Scope) → CodeOrdered g (call_of f xs) sc → function_named functions (number_of f) ≡ Some h
        → given ≡ result_types core.table h → AllBuilt core functions xs (parameter_types core.table h) outer sc → Built (call_of f xs) given outer sc
    call_here f xs h given outer sc order named same all =
        let own : gives_type core.table (function_named functions (number_of f)) ≡ result_types core.table h = ap (gives_type core.table) named in
        subst (λ (z : Results Ty). Built (call_of f xs) z outer sc) (own ∙ sym same)
        (call_built core functions (gives_type core.table (function_named functions (number_of f))) f.name (infer_function g h) xs outer sc order (there (number_of f) h named) (sym own) all)

    mutual
      -- What an expression becomes breaks no rule.
      pub built : (e : Expression) (outer : typing.Scope) (given : Results Ty) (sc : Scope) → Has g outer e given → NamesTyped outer sc → Built (infer g e) given outer sc
      built (Var x) outer given sc h names =
          subst (λ (z : Results Ty). Built (infer g (Var x)) z outer sc) (sym h.1)
          (plain_built core functions (λ sc. type_at sc (number_of x)) (λ sc. atom_at sc (number_of x)) h.0 outer sc (ordered g (Var x) outer given sc h) (names.types (number_of x) h.0 h.2) (λ n m s b ready. ready.names (number_of x) h.0 h.2))
      built (Num p n) outer given sc h names =
          subst (λ (z : Results Ty). Built (infer g (Num p n)) z outer sc) (sym h)
          (plain_built core functions (λ sc. Whole) (λ sc. atomic.Whole (pos n)) Whole outer sc (ordered g (Num p n) outer given sc h) refl (λ n m s b ready. record { usable = refl; of_type = refl; other = refl }))
      built (Bit p t) outer given sc h names =
          subst (λ (z : Results Ty). Built (infer g (Bit p t)) z outer sc) (sym h)
          (plain_built core functions (λ sc. Truth) (λ sc. atomic.Truth t) Truth outer sc (ordered g (Bit p t) outer given sc h) refl (λ n m s b ready. record { usable = refl; of_type = refl; other = refl }))
      built (Paren p e) outer given sc h names = built e outer given sc h names
      built (Op p f d e) outer given sc h names =
          operation_built f (infer g d) (infer g e) given outer sc h.0 (ordered g (Op p f d e) outer given sc h) (built d outer (results.One Whole) sc h.1 names) (built e outer (results.One Whole) sc h.2 names)
      built (Call f xs) outer given sc h names = call_here f (infer_all g xs) h.0 given outer sc (ordered g (Call f xs) outer given sc h) h.1 h.2 (all_built xs outer (parameter_types core.table h.0) sc h.3 names)
      built (Make k xs) outer given sc h names =
          let types : HaveAll g outer xs (fields_at core.table (con_named g k)) = subst (λ (z : ℕ). HaveAll g outer xs (fields_at core.table z)) (sym (ap con_or h.1)) h.3 in
          make_here k (infer_all g xs) h.0 given outer sc (ordered g (Make k xs) outer given sc h) h.1 h.2 (all_built xs outer (fields_at core.table (con_named g k)) sc types names)
      built (Let p x d e) outer given sc h names =
          let first = built d outer (results.One h.0) sc h.1 names in
          let rest = λ (at : Atom) (t' : Ty) (same : t' ≡ h.0). built e (typing.bound x h.0 outer) given (slot x at t' ∷ sc) h.3 (names_typed_bound x h.0 t' at outer sc same names) in
          line_built core functions (let_line x (infer g d).bound (infer g e).line) given outer sc (ordered g (Let p x d e) outer given sc h)
          (let_type core functions x (infer g d) (infer g e) h.0 given outer sc first rest) (let_ok core functions x (infer g d) (infer g e) h.0 given outer sc first rest)
      built (Par p x d y e f) outer given sc h names =
          let xs : List Ident = x ∷ [] in
          let ys : List Ident = y ∷ [] in
          let middle = typing.bound x h.0 outer in
          let inner = typing.bound y h.1 middle in
          let left : NamesBound core functions outer middle xs (h.0 ∷ []) (infer g d) outer sc = record { some = omega arith; few = omega arith; long = refl; binds = (h.4, refl); code = built d outer (results.One h.0) sc h.2 names } in
          let right : NamesBound core functions middle inner ys (h.1 ∷ []) (infer g e) outer sc = record { some = omega arith; few = omega arith; long = refl; binds = (h.5, refl); code = built e outer (results.One h.1) sc h.3 names } in
          let rest = λ (j k : ℕ). built f inner given (with_fields ys (h.1 ∷ []) k (with_fields xs (h.0 ∷ []) j sc)) h.6
          (names_typed_fields ys (h.1 ∷ []) middle inner (with_fields xs (h.0 ∷ []) j sc) k (h.5, refl) (names_typed_fields xs (h.0 ∷ []) outer middle sc j (h.4, refl) names)) in
          line_built core functions (sides_line xs (h.0 ∷ []) (infer g d) ys (h.1 ∷ []) (infer g e) (infer g f).line) given outer sc (ordered g (Par p x d y e f) outer given sc h)
          (sides_line_type core functions xs ys (h.0 ∷ []) (h.1 ∷ []) (infer g d) (infer g e) (infer g f) given outer middle inner sc left right rest)
          (sides_line_ok core functions xs ys (h.0 ∷ []) (h.1 ∷ []) (infer g d) (infer g e) (infer g f) given outer middle inner sc left right rest)
      built (If p c d e) outer given sc h names =
          let left = built d outer given sc h.1 names in
          line_built core functions (if_line (infer g c).atom (infer g d).line (infer g e).line) given outer sc (ordered g (If p c d e) outer given sc h)
          (λ n. left.line_type ((infer g c).atom sc n).fresh) (if_ok core functions (infer g c) (infer g d) (infer g e) given outer sc (built c outer (results.One Truth) sc h.0 names) left (built e outer given sc h.2 names))
      built (Case p x arms) outer given sc h names =
          let each = arms_built arms outer given sc h.3 names in
          line_built core functions (case_line core.table x (infer_arms g arms)) given outer sc (ordered g (Case p x arms) outer given sc h) (case_type x arms h.0.0 given outer sc h.2 each)
          (case_ok core functions x (infer_arms g arms) h.0 given outer sc h.1 (first_own arms h.0.0 h.2.own) (all_taken arms h.0.0 given outer sc h.2 each))
      built (source.Tuple p as' xs) outer given sc h names =
          let types = map (type_of_name core.table.types) as' in
          subst (λ (z : Results Ty). Built (infer g (source.Tuple p as' xs)) z outer sc) (sym h.0)
          (line_built core functions (tuple_line types (infer_all g xs)) (results.Several types) outer sc (ordered g (source.Tuple p as' xs) outer given sc h) (λ n. refl)
          (tuple_ok core functions types (infer_all g xs) outer sc (written_declared as') (all_built xs outer types sc h.2 names)))
      built (LetSeveral p qs d f) outer given sc h names =
          let xs = names_of qs in
          let types = types_of core.table.types qs in
          let bound = names_bound qs outer h.0 outer (infer g d) sc h.1 h.3 (built d outer (as_results types) sc h.2 names) in
          let rest = λ (k : ℕ). built f h.0 given (with_fields xs types k sc) h.4 (names_typed_fields xs types outer h.0 sc k h.3 names) in
          line_built core functions (several_line xs types (infer g d) (infer g f).line) given outer sc (ordered g (LetSeveral p qs d f) outer given sc h)
          (several_line_type core functions xs types (infer g d) (infer g f) given outer h.0 sc bound rest) (several_line_ok core functions xs types (infer g d) (infer g f) given outer h.0 sc bound rest)
      built (ParSeveral p qs d rs e f) outer given sc h names =
          let xs = names_of qs in
          let ys = names_of rs in
          let types = types_of core.table.types qs in
          let other = types_of core.table.types rs in
          let left = names_bound qs outer h.0 outer (infer g d) sc h.2 h.6 (built d outer (as_results types) sc h.4 names) in
          let right = names_bound rs h.0 h.1 outer (infer g e) sc h.3 h.7 (built e outer (as_results other) sc h.5 names) in
          let rest = λ (j k : ℕ). built f h.1 given (with_fields ys other k (with_fields xs types j sc)) h.8
          (names_typed_fields ys other h.0 h.1 (with_fields xs types j sc) k h.7 (names_typed_fields xs types outer h.0 sc j h.6 names)) in
          line_built core functions (sides_line xs types (infer g d) ys other (infer g e) (infer g f).line) given outer sc (ordered g (ParSeveral p qs d rs e f) outer given sc h)
          (sides_line_type core functions xs ys types other (infer g d) (infer g e) (infer g f) given outer h.0 h.1 sc left right rest)
          (sides_line_ok core functions xs ys types other (infer g d) (infer g e) (infer g f) given outer h.0 h.1 sc left right rest)

      pub all_built : (xs : Arguments) (outer : typing.Scope) (types : List Ty) (sc : Scope) → HaveAll g outer xs types → NamesTyped outer sc → AllBuilt core functions (infer_all g xs) types outer sc
      all_built NoArgument outer [] sc h names = tt
      all_built NoArgument outer (t ∷ types) sc h names = absurd h
      all_built (Argument e xs) outer [] sc h names = absurd h
      all_built (Argument e xs) outer (t ∷ types) sc h names = (built e outer (results.One t) sc h.0 names, all_built xs outer types sc h.1 names)

      pub arms_built : (arms : Arms) (outer : typing.Scope) (given : Results Ty) (sc : Scope) → HaveArms g outer arms given → NamesTyped outer sc → EachBuilt (infer_arms g arms) given outer sc
      arms_built (LastArm k xs e) outer given sc h names =
          let binds = fields_named k xs outer h.0 h.1 h.2 h.3 in
          (record { inner = h.1; binds = binds; code = λ n. built e h.1 given (with_fields xs (fields_at core.table (con_named g k)) n sc) h.4 (names_typed_fields xs (fields_at core.table (con_named g k)) outer h.1 sc n binds names) }, tt)
      arms_built (NextArm k xs e arms) outer given sc h names =
          let binds = fields_named k xs outer h.0.0 h.0.1 h.0.2 h.0.3 in (
            record { inner = h.0.1; binds = binds; code = λ n. built e h.0.1 given (with_fields xs (fields_at core.table (con_named g k)) n sc) h.0.4 (names_typed_fields xs (fields_at core.table (con_named g k)) outer h.0.1 sc n binds names) },
            arms_built arms outer given sc h.1 names,
          )

    -- A body whose parameters have these names and types.
    pub body_reachable : (names : List Ident) (types : List Ty) (inner : typing.Scope) (e : Expression) (given : Results Ty) → BindsAll [] names types inner → Has g inner e given
        → IsReachable core (record { parameters = types; result = given; term = infer_body g names types e })
    body_reachable names types inner e given binds h =
        let body : Body = record { parameters = types; result = given; term = infer_body g names types e } in
        let s = opening body in
        let b = before_body body in
        let n = length names in
        let sc = with_fields names types 0 [] in
        let long = binds_length names types [] inner binds in
        let code = built e inner given sc h (names_typed_fields names types [] inner [] 0 binds (record { types = λ x t f. absurd cc })) in
        let same = parameters_same 0 names types [] long in
        let of : (y : Variable) → type_bound b.bound y ≡ type_bound (bind_fields (variables_from 0 names) types []) y = λ y. ap (λ z. type_bound z y) same in
        let can = fields_can names types 0 s b [] long (λ y lo hi. parameters_reach types 0 [] y lo (omega (arith, long, hi))) (λ y lo hi. of y) (λ y lo hi. refl) in
        let l = (infer g e).line sc n in
        let ready : Ready n l.fresh inner sc s b = record {
          names = names_fields names types [] inner [] 0 s b binds can (λ y t f. absurd cc);
          fits = fields_fit 0 n names types [] (omega arith) tt;
          new = λ y lo hi. of y ∙ fields_outside 0 n (variables_from 0 names) types [] y (rising_variables 0 n names (omega arith)) (λ z l u f. omega arith);
          uncased = λ y lo. refl;
          apart = λ y lo hi. refl;
        } in
        (code.line n l.fresh s b ready (omega arith) (record { destination = refl; due = refl })).clean.reachable

-- Each body of a program.

abbrev body_of : FunctionTerm → Body
body_of f = record { parameters = f.parameters; result = f.result; term = f.body }

function_there : (g : Globals) (fs : List FunctionTree) (f : ℕ) (h : FunctionTree) → function_named fs f ≡ Some h → function_at (map (infer_function g) fs) f ≡ Some (infer_function g h)
function_there g [] f h e = absurd cc
function_there g (k ∷ fs) f h e = go (number_of k.name == f) e (function_there g fs f h)
  where
    go : (c : Bool) → (if c then Some k else function_named fs f) ≡ Some h → (function_named fs f ≡ Some h → function_at (map (infer_function g) fs) f ≡ Some (infer_function g h))
        → (if c then Some (infer_function g k) else function_at (map (infer_function g) fs) f) ≡ Some (infer_function g h)
    go true e more = ap (λ z. Some (infer_function g z)) (same_Some k h e)
    go false e more = more e

all_bodies : (core : CoreTree) (g : Globals) (fs : List FunctionTree) (last : Body) → ((h : FunctionTree) → IsTypedHere g h → IsReachable core (body_of (infer_function g h))) → AllByRecursion (IsTypedHere g) fs → IsReachable core last
    → AllByRecursion (IsReachable core) (map body_of (map (infer_function g) fs) ++ last ∷ [])
all_bodies core g [] last each typed h = (h, tt)
all_bodies core g (f ∷ fs) last each typed h = (each f typed.0, all_bodies core g fs last each typed.1 h)

-- What a typed program becomes breaks no rule.
pub infer_reachable : (p : ProgramTree) → IsTable (table_of_program p) → IsTypedProgram p → AreReachable (infer_program p)
infer_reachable p is typed =
    let core = infer_program p in
    let g = globals_of p in
    let parameter = type_of_name g.table.types p.main.parameter.ty in
    let result = results.One (type_of_name g.table.types p.main.result) in
    let there = function_there g p.functions in
    let last = body_reachable core p.functions is there (p.main.parameter.name ∷ []) (parameter ∷ []) typed.main.scope p.main.body result typed.main.bound typed.main.typed in
    all_bodies core g p.functions (record { parameters = parameter ∷ []; result = result; term = core.main.body })
    (λ h t. body_reachable core p.functions is there (names_of h.parameters) (parameter_types g.table h) t.scope h.body (result_types g.table h) t.bound t.typed)
    typed.functions last
