-- A program without type parameters means what it means as one that may have some.
use Rattle.std.proofs.Common.{◌≡◌, ℕ, zero, suc, pos, Bool, true, false, if◌then◌else◌, List, [], ◌∷◌, ◌++◌, map, Option, Some, None, refl, sym, ap, ◌∙◌}
use Rattle.std.specs.Prelude.{slice_get}
use Rattle.std.specs.List.{AllByRecursion}
use Rattle.gib_types.specs.declared.table.Ty.{Ty}
use Rattle.gib_types.specs.Table.{Row, fields_of, fields_at, is_scalar, at_fields}
use Rattle.gib_types.specs.Tree.{Datum, whole, con, data_of}
use Rattle.gib_syntax.specs.declared.tree.Ident.{Ident}
use Rattle.gib_syntax.specs.declared.tree.TypeName.{TypeName}
use Rattle.gib_syntax.specs.declared.tree.TypeName.TheVariants as ty
use Rattle.gib_syntax.specs.declared.tree.Parameter.{Parameter}
use Rattle.gib_syntax.specs.Tree.{Expression, Arguments, Arms, Var, Num, Bit, Paren, Op, Call, Make, Let, Par, If, Case, Tuple, LetSeveral, ParSeveral, NoArgument, Argument, LastArm, NextArm, ConstructorTree, DataTree, ProgramTree}
use Rattle.gib_syntax.specs.Declarations.{number_of, place_of, type_names, type_of_name, type_or, tree_type, row_in, rows_from, table_of_program, constructor_names, constructor_named}
use Rattle.gib_syntax.specs.Typing.{IsKnown, HasKnownFields, HasKnownConstructors, IsTypedProgram}
use Rattle.gib_syntax.specs.Meaning.{Outcome, Gives, Stops, Environment, value_in, bind, bind_results, with_value, with_values, is_true, is_made_by, parts, made, choose, eval, eval_all, eval_arms, names_of, calls}
use Rattle.gib_syntax.specs.Forms.{Forms, NoForm, Meant, formed, assign}
use Rattle.gib_syntax.specs.GenericTree.{GenericRow, row_of, rows_of, globals_of_generic, place_named}
use Rattle.gib_types.specs.Form.{form_or}
use Rattle.gib_syntax.specs.GenericTyping.{FormScope, form_in}
use Rattle.gib_syntax.specs.Inferred.{arguments_of, forms_named, bind_forms, bound_forms}
use Rattle.gib_syntax.specs.Single.{IsSingle, AreSingle, HasSingle}
use Rattle.gib_syntax.specs.GenericMeaning.{kind_of, kinds_at, made_at, meant, meant_all, meant_arms, generic_names}
use Rattle.gib_syntax.specs.Plain.{written_of, as_generic, all_as_generic, arms_as_generic, generic_constructor, generic_data, generic_parameter, generic_of}
use Rattle.gib_mono.proofs.Tables.{map_both}

-- Which fields are scalars

abbrev pub SameKinds : List Ty → List Ty → Type 0
SameKinds [] [] = Unit {0}
SameKinds [] (u ∷ us) = ⊥
SameKinds (t ∷ ts) [] = ⊥
SameKinds (t ∷ ts) (u ∷ us) = (is_scalar t ≡ is_scalar u) × SameKinds ts us

pub fields_same : (b : Bool) (ts us : List Ty) (rs : List Outcome) → SameKinds ts us → at_fields b ts rs ≡ at_fields b us rs
fields_same b [] [] rs h = refl
fields_same b [] (u ∷ us) rs h = absurd h
fields_same b (t ∷ ts) [] rs h = absurd h
fields_same b (t ∷ ts) (u ∷ us) [] h = refl
fields_same true (t ∷ ts) (u ∷ us) (r ∷ rs) h =
    ap (λ (x : Bool). if x then r ∷ at_fields true ts rs else at_fields true ts rs) h.0 ∙ ap (λ (qs : List Outcome). if is_scalar u then r ∷ qs else qs) (fields_same true ts us rs h.1)
fields_same false (t ∷ ts) (u ∷ us) (r ∷ rs) h =
    ap (λ (x : Bool). if x then at_fields false ts rs else r ∷ at_fields false ts rs) h.0 ∙ ap (λ (qs : List Outcome). if is_scalar u then qs else r ∷ qs) (fields_same false ts us rs h.1)

known_kind : (types : List ℕ) (x : Ident) (p : Option ℕ) → (t : Ty) × (tree_type p ≡ Some t) → false ≡ is_scalar (type_or (tree_type p))
known_kind types x None h = absurd (nothing h.0 h.1) where
  nothing : (t : Ty) → tree_type None ≡ Some t → ⊥
  nothing t e = cc
known_kind types x (Some n) h = refl

pub kind_same : (types : List ℕ) (m : Meant) (a : TypeName) → IsKnown types a → is_scalar (kind_of (formed m (written_of a))) ≡ is_scalar (type_of_name types a)
kind_same types m (ty.Whole p) h = refl
kind_same types m (ty.Truth p) h = refl
kind_same types m (ty.Declared x) h = known_kind types x (place_of types (number_of x)) h

pub kinds_same : (types : List ℕ) (m : Meant) (as' : List TypeName) → AllByRecursion (IsKnown types) as' → SameKinds (map kind_of (map (formed m) (map written_of as'))) (map (type_of_name types) as')
kinds_same types m [] h = tt {0}
kinds_same types m (a ∷ as') h = (kind_same types m a h.0, kinds_same types m as' h.1)

abbrev SameRows : List GenericRow → List Row → Type 0
SameRows rows others = (c : ℕ) (ts : Forms) → SameKinds (kinds_at (slice_get rows c) ts) (fields_of (slice_get others c))

front_same : (types : List ℕ) (owner : ℕ) (d : DataTree) (cs : List ConstructorTree) (rows : List GenericRow) (others : List Row) → AllByRecursion (HasKnownFields types) cs → SameRows rows others →
    SameRows (map (row_of (generic_data d)) (map generic_constructor cs) ++ rows) (map (row_in types owner) cs ++ others)
front_same types owner d [] rows others known h c ts = h c ts
front_same types owner d (k ∷ cs) rows others known h zero ts = kinds_same types (assign [] ts) k.fields known.0.1
front_same types owner d (k ∷ cs) rows others known h (suc c) ts = front_same types owner d cs rows others known.1 h c ts

pub rows_same : (types : List ℕ) (owner : ℕ) (ds : List DataTree) → AllByRecursion (HasKnownConstructors types) ds → SameRows (rows_of (map generic_data ds)) (rows_from types owner ds)
rows_same types owner [] known c ts = tt {0}
rows_same types owner (d ∷ ds) known c ts = front_same types owner d d.constructors (rows_of (map generic_data ds)) (rows_from types (suc owner) ds) known.0 (rows_same types (suc owner) ds known.1) c ts

-- Names

row_names : (types : List ℕ) (owner : ℕ) (d : DataTree) (cs : List ConstructorTree) → map (λ (r : GenericRow). r.name) (map (row_of (generic_data d)) (map generic_constructor cs)) ≡ map (λ (r : Row). r.name) (map (row_in types owner) cs)
row_names types owner d [] = refl
row_names types owner d (k ∷ cs) = ap (λ (ns : List ℕ). number_of k.name ∷ ns) (row_names types owner d cs)

names_same : (types : List ℕ) (owner : ℕ) (ds : List DataTree) → map (λ (r : GenericRow). r.name) (rows_of (map generic_data ds)) ≡ map (λ (r : Row). r.name) (rows_from types owner ds)
names_same types owner [] = refl
names_same types owner (d ∷ ds) =
    map_both GenericRow ℕ (λ (r : GenericRow). r.name) (map (row_of (generic_data d)) (map generic_constructor d.constructors)) (rows_of (map generic_data ds))
    ∙ ap (λ (ns : List ℕ). ns ++ map (λ (r : GenericRow). r.name) (rows_of (map generic_data ds))) (row_names types owner d d.constructors)
    ∙ ap (λ (ns : List ℕ). map (λ (r : Row). r.name) (map (row_in types owner) d.constructors) ++ ns) (names_same types (suc owner) ds)
    ∙ sym (map_both Row ℕ (λ (r : Row). r.name) (map (row_in types owner) d.constructors) (rows_from types (suc owner) ds))

pub place_same : (p : ProgramTree) (k : ℕ) → place_named (rows_of (map generic_data p.datas)) k ≡ constructor_named (table_of_program p) k
place_same p k = ap (λ (ns : List ℕ). place_of ns k) (names_same (type_names p) 0 p.datas)

pub made_same : (p : ProgramTree) → IsTypedProgram p → (o : Option ℕ) (rs : List Outcome) → made_at (rows_of (map generic_data p.datas)) o NoForm rs ≡ made (table_of_program p) o rs
made_same p typed None rs = refl
made_same p typed (Some c) rs =
    let h = rows_same (type_names p) 0 p.datas typed.fields c NoForm in
    let kinds = kinds_at (slice_get (rows_of (map generic_data p.datas)) c) NoForm in
    let fields = fields_at (table_of_program p) c in
    let go : List Datum → Outcome = λ vs. Gives (con c (data_of vs)) in
    ap (λ (qs : List Outcome). with_values (qs ++ at_fields false kinds rs) (λ _. with_values rs go)) (fields_same true kinds fields rs h)
    ∙ ap (λ (qs : List Outcome). with_values (at_fields true fields rs ++ qs) (λ _. with_values rs go)) (fields_same false kinds fields rs h)

-- Expressions

pub value_goes : (r q : Outcome) (go went : Datum → Outcome) → r ≡ q → ((v : Datum) → go v ≡ went v) → with_value r go ≡ with_value q went
value_goes (Gives v) q go went e h = h v ∙ ap (λ (u : Outcome). with_value u went) e
value_goes (Stops why) q go went e h = ap (λ (u : Outcome). with_value u went) e

pub values_go : (rs : List Outcome) (go went : List Datum → Outcome) → ((vs : List Datum) → go vs ≡ went vs) → with_values rs go ≡ with_values rs went
values_go [] go went h = h []
values_go (Gives v ∷ rs) go went h = values_go rs (λ vs. go (v ∷ vs)) (λ vs. went (v ∷ vs)) (λ vs. h (v ∷ vs))
values_go (Stops why ∷ rs) go went h = refl

pub choice_same : (b : Bool) (r s q u : Outcome) → r ≡ q → s ≡ u → choose b r s ≡ choose b q u
choice_same true r s q u e f = e
choice_same false r s q u e f = f

-- calls without types mean what calls mean
abbrev pub SameCalls : (ℕ → Forms → List Datum → Outcome) → (ℕ → List Datum → Outcome) → Type 0
SameCalls calls call = (x : ℕ) (vs : List Datum) → calls x NoForm vs ≡ call x vs

mutual
  pub same_meant : (p : ProgramTree) → IsTypedProgram p → (calls' : ℕ → Forms → List Datum → Outcome) (call : ℕ → List Datum → Outcome) → SameCalls calls' call → (m : Meant) (scope : FormScope) (e : Expression) (env : Environment) → IsSingle (as_generic e) →
      meant (globals_of_generic (generic_of p)) calls' m scope (as_generic e) env ≡ eval (table_of_program p) call e env
  same_meant p typed calls' call same m scope (Var x) env single = refl
  same_meant p typed calls' call same m scope (Num q n) env single = refl
  same_meant p typed calls' call same m scope (Bit q b) env single = refl
  same_meant p typed calls' call same m scope (Paren q e) env single = same_meant p typed calls' call same m scope e env single
  same_meant p typed calls' call same m scope (Op q f a b) env single =
      value_goes _ _ _ _ (same_meant p typed calls' call same m scope a env single.0) (λ x. value_goes _ _ _ _ (same_meant p typed calls' call same m scope b env single.1) (λ y. refl))
  same_meant p typed calls' call same m scope (Call f xs) env single =
      ap (λ (rs : List Outcome). with_values rs (calls' (number_of f) NoForm)) (all_same_meant p typed calls' call same m scope xs env single)
      ∙ values_go (eval_all (table_of_program p) call xs env) (calls' (number_of f) NoForm) (call (number_of f)) (same (number_of f))
  same_meant p typed calls' call same m scope (Make k xs) env single =
      ap (λ (rs : List Outcome). made_at (rows_of (map generic_data p.datas)) (place_named (rows_of (map generic_data p.datas)) (number_of k)) NoForm rs) (all_same_meant p typed calls' call same m scope xs env single)
      ∙ ap (λ (o : Option ℕ). made_at (rows_of (map generic_data p.datas)) o NoForm (eval_all (table_of_program p) call xs env)) (place_same p (number_of k))
      ∙ made_same p typed (constructor_named (table_of_program p) (number_of k)) (eval_all (table_of_program p) call xs env)
  same_meant p typed calls' call same m scope (Let q x a b) env single =
      value_goes _ _ _ _ (same_meant p typed calls' call same m scope a env single.1)
      (λ v. same_meant p typed calls' call same m (bind_forms (x ∷ []) (bound_forms (globals_of_generic (generic_of p)) m scope (as_generic a)) scope) b (bind_results (x ∷ []) v env) single.2)
  same_meant p typed calls' call same m scope (Par q x a y b c) env single =
      let g = globals_of_generic (generic_of p) in
      let inner = bind_forms (y ∷ []) (bound_forms g m scope (as_generic b)) (bind_forms (x ∷ []) (bound_forms g m scope (as_generic a)) scope) in
      value_goes _ _ _ _ (same_meant p typed calls' call same m scope a env single.2)
      (λ v. value_goes _ _ _ _ (same_meant p typed calls' call same m scope b env single.3)
      (λ w. same_meant p typed calls' call same m inner c (bind_results (y ∷ []) w (bind_results (x ∷ []) v env)) single.4))
  same_meant p typed calls' call same m scope (If q a b c) env single =
      value_goes _ _ _ _ (same_meant p typed calls' call same m scope a env single.0)
      (λ v. choice_same (is_true v) _ _ _ _ (same_meant p typed calls' call same m scope b env single.1) (same_meant p typed calls' call same m scope c env single.2))
  same_meant p typed calls' call same m scope (Case q x arms) env single =
      arms_same_meant p typed calls' call same m scope (arguments_of (form_or (form_in scope (number_of x)))) arms (value_in env (number_of x)) env single
  same_meant p typed calls' call same m scope (Tuple q as' xs) env single = absurd single
  same_meant p typed calls' call same m scope (LetSeveral q qs a b) env single =
      value_goes _ _ _ _ (same_meant p typed calls' call same m scope a env single.1)
      (λ v. same_meant p typed calls' call same m (bind_forms (names_of qs) (bound_forms (globals_of_generic (generic_of p)) m scope (as_generic a)) scope) b (bind_results (names_of qs) v env) single.2)
  same_meant p typed calls' call same m scope (ParSeveral q qs a rs b c) env single =
      let g = globals_of_generic (generic_of p) in
      let inner = bind_forms (names_of rs) (bound_forms g m scope (as_generic b)) (bind_forms (names_of qs) (bound_forms g m scope (as_generic a)) scope) in
      value_goes _ _ _ _ (same_meant p typed calls' call same m scope a env single.2)
      (λ v. value_goes _ _ _ _ (same_meant p typed calls' call same m scope b env single.3)
      (λ w. same_meant p typed calls' call same m inner c (bind_results (names_of rs) w (bind_results (names_of qs) v env)) single.4))

  all_same_meant : (p : ProgramTree) → IsTypedProgram p → (calls' : ℕ → Forms → List Datum → Outcome) (call : ℕ → List Datum → Outcome) → SameCalls calls' call → (m : Meant) (scope : FormScope) (xs : Arguments) (env : Environment) → AreSingle (all_as_generic xs) →
      meant_all (globals_of_generic (generic_of p)) calls' m scope (all_as_generic xs) env ≡ eval_all (table_of_program p) call xs env
  all_same_meant p typed calls' call same m scope NoArgument env single = refl
  all_same_meant p typed calls' call same m scope (Argument a xs) env single =
      ap (λ (r : Outcome). r ∷ meant_all (globals_of_generic (generic_of p)) calls' m scope (all_as_generic xs) env) (same_meant p typed calls' call same m scope a env single.0)
      ∙ ap (λ (rs : List Outcome). eval (table_of_program p) call a env ∷ rs) (all_same_meant p typed calls' call same m scope xs env single.1)

  arms_same_meant : (p : ProgramTree) → IsTypedProgram p → (calls' : ℕ → Forms → List Datum → Outcome) (call : ℕ → List Datum → Outcome) → SameCalls calls' call → (m : Meant) (scope : FormScope) (ts : Forms) (arms : Arms) (v : Datum) (env : Environment) → HasSingle (arms_as_generic arms) →
      meant_arms (globals_of_generic (generic_of p)) calls' m scope ts (arms_as_generic arms) v env ≡ eval_arms (table_of_program p) call arms v env
  arms_same_meant p typed calls' call same m scope ts (LastArm k xs e) v env single =
      let g = globals_of_generic (generic_of p) in
      let inner = bind_forms xs (forms_named g.rows (place_named g.rows (number_of k)) ts) scope in
      ap (λ (o : Option ℕ). choose (is_made_by o v) (meant g calls' m inner (as_generic e) (bind xs (parts v) env)) (Gives (whole (pos 0)))) (place_same p (number_of k))
      ∙ choice_same (is_made_by (constructor_named (table_of_program p) (number_of k)) v) _ _ _ _ (same_meant p typed calls' call same m inner e (bind xs (parts v) env) single) refl
  arms_same_meant p typed calls' call same m scope ts (NextArm k xs e arms) v env single =
      let g = globals_of_generic (generic_of p) in
      let inner = bind_forms xs (forms_named g.rows (place_named g.rows (number_of k)) ts) scope in
      ap (λ (o : Option ℕ). choose (is_made_by o v) (meant g calls' m inner (as_generic e) (bind xs (parts v) env)) (meant_arms g calls' m scope ts (arms_as_generic arms) v env)) (place_same p (number_of k))
      ∙ choice_same (is_made_by (constructor_named (table_of_program p) (number_of k)) v) _ _ _ _ (same_meant p typed calls' call same m inner e (bind xs (parts v) env) single.0) (arms_same_meant p typed calls' call same m scope ts arms v env single.1)

-- Programs

pub parameter_names : (qs : List Parameter) → generic_names (map generic_parameter qs) ≡ names_of qs
parameter_names [] = refl
parameter_names (q ∷ qs) = ap (λ (xs : List Ident). q.name ∷ xs) (parameter_names qs)

-- The names of constructors.
pub same_names : (p : ProgramTree) → map (λ (r : GenericRow). r.name) (rows_of (generic_of p).datas) ≡ constructor_names (table_of_program p)
same_names p = names_same (type_names p) 0 p.datas
