-- A typed program without type parameters is its own copy, but that the types of its parts stand in the copy where the parts do.
use Rattle.std.proofs.Common.{◌≡◌, ℕ, zero, suc, Bool, true, false, ◌==◌, if◌then◌else◌, ◌+◌, List, [], ◌∷◌, ◌++◌, map, Option, Some, None, refl, sym, ap, ap₂, ◌∙◌, subst, arith}
use Rattle.std.specs.Prelude.{slice_get}
use Rattle.std.specs.List.{AllByRecursion}
use Rattle.std.proofs.lemmas.Option.{same_Some}
use Rattle.gib_base.specs.declared.Span.{Span}
use Rattle.gib_types.specs.declared.table.Ty.{Ty}
use Rattle.gib_types.specs.declared.table.Ty.TheVariants.{Whole, Truth, Tree}
use Rattle.gib_types.specs.Table.{Row, fields_of, fields_at, owner_of, owner_at}
use Rattle.gib_types.specs.Form.{form_or}
use Rattle.gib_syntax.specs.declared.tree.Ident.{Ident}
use Rattle.gib_syntax.specs.declared.tree.TypeName.{TypeName}
use Rattle.gib_syntax.specs.declared.tree.TypeName.TheVariants as ty
use Rattle.gib_syntax.specs.declared.tree.Parameter.{Parameter}
use Rattle.gib_types.specs.declared.operator.Operator.{Operator}
use Rattle.gib_syntax.specs.Tree.{Expression, Arguments, Arms, Var, Num, Bit, Paren, Op, Call, Make, Let, Par, If, Case, Tuple, LetSeveral, ParSeveral, NoArgument, Argument, LastArm, NextArm, ConstructorTree, DataTree, FunctionTree, MainTree, ProgramTree}
use Rattle.gib_syntax.specs.Declarations.{number_of, place_of, type_names, type_of_name, type_or, tree_type, row_in, rows_from, table_of_program, constructor_names, constructor_named, function_named}
use Rattle.gib_syntax.specs.Results.{Results, One, Several, map_results, as_results, list_results}
use Rattle.gib_syntax.specs.Typing.{Globals, globals_of, Scope, IsNew, type_in, bound, BindsAll, names_of, types_of, parameter_types, result_types, IsKnown, HasKnownType, HasKnownFields, HasKnownConstructors, AreKnown, Has, HaveAll, HaveArms, IsTypedHere, IsTypedProgram}
use Rattle.gib_types.specs.Operators.{operator_type}
use Rattle.gib_syntax.specs.Forms.{Form, Forms, WholeForm, TruthForm, DataForm, NoForm, Meant, formed, assign}
use Rattle.gib_syntax.specs.GenericTree.{GenericParameterTree, GenericRow, row_of, rows_of, globals_of_generic, place_named, generic_named}
use Rattle.gib_syntax.specs.GenericTyping.{FormScope, form_in, form_bound, operator_form}
use Rattle.gib_syntax.proofs.Operators.{either_scalar}
use Rattle.gib_syntax.specs.Inferred.{one_form, arguments_of, forms_at, forms_named, owner_at_row, owner_named, bind_forms, results_at, results_of, forms_of_all, results_of_arms, bound_forms}
use Rattle.gib_syntax.specs.Plain.{written_of, as_generic, all_as_generic, arms_as_generic, generic_constructor, generic_data, generic_parameter, generic_function, generic_main, generic_of}
use Rattle.gib_syntax.proofs.Soundness.{place_found, place_within}
use Rattle.gib_mono.specs.Bindings.{only_name, let_of, par_of}
use Rattle.gib_mono.specs.Copying.{Naming, IsPlainNaming, renamed, name_of_form, copy_written, copy_variables, copy_parameter, copy_function, copy_main, parameter_scope, copy, copy_all, copy_arms}
use Rattle.gib_mono.specs.Placed.{written_at, placed_variable, placed, all_placed, arms_placed, placed_function, placed_program}
use Rattle.gib_mono.specs.Walk.{FunctionCopy, function_copies, plain_datas, plain_functions, plain_copies, copied_program}
use Rattle.gib_mono.proofs.Here.{map_found}
use Rattle.gib_mono.proofs.OwnCopy.{datas_own, map_own, parameter_own, results_own, written_own}
use Rattle.gib_mono.proofs.OwnMeaning.{parameter_names, place_same}

-- A type with arguments is this type, where the declared types have these names.
abbrev pub Fits : List ℕ → Form → Ty → Type 0
Fits types f Whole = f ≡ WholeForm
Fits types f Truth = f ≡ TruthForm
Fits types f (Tree i) = (n : ℕ) × (f ≡ DataForm n NoForm) × (place_of types n ≡ Some i.0)

abbrev pub Fit : List ℕ → List Form → List Ty → Type 0
Fit types [] [] = Unit {0}
Fit types [] (t ∷ ts) = ⊥
Fit types (f ∷ fs) [] = ⊥
Fit types (f ∷ fs) (t ∷ ts) = Fits types f t × Fit types fs ts

abbrev pub ResultsFit : List ℕ → Results Form → Results Ty → Type 0
ResultsFit types (One f) (One t) = Fits types f t
ResultsFit types (One f) (Several ts) = ⊥
ResultsFit types (Several fs) (One t) = ⊥
ResultsFit types (Several fs) (Several ts) = Fit types fs ts

abbrev pub ScopeFits : List ℕ → Scope → FormScope → Type 0
ScopeFits types scope forms = (x : ℕ) (t : Ty) → type_in scope x ≡ Some t → Fits types (form_or (form_in forms x)) t

-- Written types

no_type : (t : Ty) → tree_type None ≡ Some t → ⊥
no_type t e = cc

known_fits : (types : List ℕ) (n : ℕ) (p : Option ℕ) → place_of types n ≡ p → (t : Ty) × (tree_type p ≡ Some t) → Fits types (DataForm n NoForm) (type_or (tree_type p))
known_fits types n None e h = absurd (no_type h.0 h.1)
known_fits types n (Some i) e h = (n, refl, e)

written_fits : (types : List ℕ) (m : Meant) (a : TypeName) → IsKnown types a → Fits types (formed m (written_of a)) (type_of_name types a)
written_fits types m (ty.Whole p) h = refl
written_fits types m (ty.Truth p) h = refl
written_fits types m (ty.Declared x) h = known_fits types (number_of x) (place_of types (number_of x)) refl h

all_fit : (types : List ℕ) (m : Meant) (as' : List TypeName) → AllByRecursion (IsKnown types) as' → Fit types (map (formed m) (map written_of as')) (map (type_of_name types) as')
all_fit types m [] h = tt {0}
all_fit types m (a ∷ as') h = (written_fits types m a h.0, all_fit types m as' h.1)

known_name : (types : List ℕ) (nm : Naming) → IsPlainNaming nm → (p : Span) (f : Form) (x : Ident) (i : Option ℕ) → place_of types (number_of x) ≡ i → (t : Ty) × (tree_type i ≡ Some t) → Fits types f (type_or (tree_type i)) →
    name_of_form nm p f ≡ written_at p (ty.Declared x)
known_name types nm plain p f x None e known h = absurd (no_type known.0 known.1)
known_name types nm plain p f x (Some i) e known h =
    let same = same_Some h.0 (number_of x) (sym (place_within types h.0 i h.2) ∙ place_within types (number_of x) i e) in
    ap (name_of_form nm p) h.1 ∙ ap (λ (k : ℕ). let y : Ident = record { name = record { 0 = k }; span = p } in ty.Declared y) (plain.types h.0 ∙ same)

fits_name : (types : List ℕ) (nm : Naming) → IsPlainNaming nm → (p : Span) (f : Form) (a : TypeName) → IsKnown types a → Fits types f (type_of_name types a) → name_of_form nm p f ≡ written_at p a
fits_name types nm plain p f (ty.Whole q) known h = ap (name_of_form nm p) h
fits_name types nm plain p f (ty.Truth q) known h = ap (name_of_form nm p) h
fits_name types nm plain p f (ty.Declared x) known h = known_name types nm plain p f x (place_of types (number_of x)) refl known h

fit_names : (types : List ℕ) (nm : Naming) → IsPlainNaming nm → (p : Span) (fs : List Form) (as' : List TypeName) → AllByRecursion (IsKnown types) as' → Fit types fs (map (type_of_name types) as') → map (name_of_form nm p) fs ≡ map (written_at p) as'
fit_names types nm plain p [] [] known h = refl
fit_names types nm plain p [] (a ∷ as') known h = absurd h
fit_names types nm plain p (f ∷ fs) [] known h = absurd h
fit_names types nm plain p (f ∷ fs) (a ∷ as') known h =
    ap (λ (b : TypeName). b ∷ map (name_of_form nm p) fs) (fits_name types nm plain p f a known.0 h.0) ∙ ap (λ (bs : List TypeName). written_at p a ∷ bs) (fit_names types nm plain p fs as' known.1 h.1)

fit_variables : (types : List ℕ) (nm : Naming) → IsPlainNaming nm → (fs : List Form) (qs : List Parameter) → AllByRecursion (HasKnownType types) qs → Fit types fs (types_of types qs) → copy_variables nm (names_of qs) fs ≡ map placed_variable qs
fit_variables types nm plain [] [] known h = refl
fit_variables types nm plain [] (q ∷ qs) known h = absurd h
fit_variables types nm plain (f ∷ fs) [] known h = absurd h
fit_variables types nm plain (f ∷ fs) (q ∷ qs) known h =
    ap (λ (a : TypeName). let v : Parameter = record { name = q.name; ty = a } in v ∷ copy_variables nm (names_of qs) fs) (fits_name types nm plain q.name.span f q.ty known.0 h.0)
    ∙ ap (λ (vs : List Parameter). placed_variable q ∷ vs) (fit_variables types nm plain fs qs known.1 h.1)

-- Scopes

one_fits : (types : List ℕ) (r : Results Form) (t : Ty) → ResultsFit types r (One t) → Fits types (one_form r) t
one_fits types (One f) t h = h
one_fits types (Several fs) t h = absurd h

listed_fit : (types : List ℕ) (r : Results Form) (ts : List Ty) → ResultsFit types r (as_results ts) → Fit types (list_results r) ts
listed_fit types (One f) [] h = absurd h
listed_fit types (One f) (t ∷ []) h = (h, tt {0})
listed_fit types (One f) (t ∷ u ∷ us) h = absurd h
listed_fit types (Several fs) [] h = h
listed_fit types (Several fs) (t ∷ []) h = absurd h
listed_fit types (Several fs) (t ∷ u ∷ us) h = h

bound_fits : (types : List ℕ) (scope : Scope) (forms : FormScope) (x : Ident) (f : Form) (t : Ty) → ScopeFits types scope forms → Fits types f t → ScopeFits types (bound x t scope) (form_bound x f forms)
bound_fits types scope forms x f t h k y u e = step (number_of x == y) e where
  step : (b : Bool) → (if b then Some t else type_in scope y) ≡ Some u → Fits types (form_or (if b then Some f else form_in forms y)) u
  step true e = subst (λ (w : Ty). Fits types f w) (same_Some t u e) k
  step false e = h y u e

binds_fit : (types : List ℕ) (xs : List Ident) (ts : List Ty) (fs : List Form) (scope inner : Scope) (forms : FormScope) → BindsAll scope xs ts inner → Fit types fs ts → ScopeFits types scope forms → ScopeFits types inner (bind_forms xs fs forms)
binds_fit types [] [] fs scope inner forms b k h = subst (λ (s : Scope). ScopeFits types s forms) (sym b) h
binds_fit types [] (t ∷ ts) fs scope inner forms b k h = absurd b
binds_fit types (x ∷ xs) [] fs scope inner forms b k h = absurd b
binds_fit types (x ∷ xs) (t ∷ ts) [] scope inner forms b k h = absurd k
binds_fit types (x ∷ xs) (t ∷ ts) (f ∷ fs) scope inner forms b k h = binds_fit types xs ts fs (bound x t scope) inner (form_bound x f forms) b.1 k.1 (bound_fits types scope forms x f t h k.0)

nothing_fits : (types : List ℕ) → ScopeFits types [] []
nothing_fits types x t e = absurd cc

parameters_fit : (types : List ℕ) (m : Meant) (qs : List Parameter) → AllByRecursion (HasKnownType types) qs → Fit types (map (λ (q : GenericParameterTree). formed m q.ty) (map generic_parameter qs)) (types_of types qs)
parameters_fit types m [] h = tt {0}
parameters_fit types m (q ∷ qs) h = (written_fits types m q.ty h.0, parameters_fit types m qs h.1)

scope_fits : (types : List ℕ) (m : Meant) (qs : List Parameter) (scope : Scope) → AllByRecursion (HasKnownType types) qs → BindsAll [] (names_of qs) (types_of types qs) scope → ScopeFits types scope (parameter_scope m (map generic_parameter qs))
scope_fits types m qs scope known b =
    let forms = map (λ (q : GenericParameterTree). formed m q.ty) (map generic_parameter qs) in
    subst (λ (xs : List Ident). ScopeFits types scope (bind_forms xs forms [])) (sym (parameter_names qs))
    (binds_fit types (names_of qs) (types_of types qs) forms [] scope [] b (parameters_fit types m qs known) (nothing_fits types))

no_arguments : (types : List ℕ) (f : Form) (t : Ty) → Fits types f t → arguments_of f ≡ NoForm
no_arguments types f Whole h = ap arguments_of h
no_arguments types f Truth h = ap arguments_of h
no_arguments types f (Tree i) h = ap arguments_of h.1

-- What bodies may name

abbrev RowsFit : List ℕ → List GenericRow → List Row → Type 0
RowsFit types rows others = (c : ℕ) (ts : Forms) → Fit types (forms_at (slice_get rows c) ts) (fields_of (slice_get others c))

front_fits : (types : List ℕ) (owner : ℕ) (d : DataTree) (cs : List ConstructorTree) (rows : List GenericRow) (others : List Row) → AllByRecursion (HasKnownFields types) cs → RowsFit types rows others →
    RowsFit types (map (row_of (generic_data d)) (map generic_constructor cs) ++ rows) (map (row_in types owner) cs ++ others)
front_fits types owner d [] rows others known h c ts = h c ts
front_fits types owner d (k ∷ cs) rows others known h zero ts = all_fit types (assign [] ts) k.fields known.0.1
front_fits types owner d (k ∷ cs) rows others known h (suc c) ts = front_fits types owner d cs rows others known.1 h c ts

rows_fit : (types : List ℕ) (owner : ℕ) (ds : List DataTree) → AllByRecursion (HasKnownConstructors types) ds → RowsFit types (rows_of (map generic_data ds)) (rows_from types owner ds)
rows_fit types owner [] known c ts = tt {0}
rows_fit types owner (d ∷ ds) known c ts = front_fits types owner d d.constructors (rows_of (map generic_data ds)) (rows_from types (suc owner) ds) known.0 (rows_fit types (suc owner) ds known.1) c ts

arm_fits : (p : ProgramTree) → IsTypedProgram p → (k : ℕ) (ts : Forms) (c : ℕ) → constructor_named (table_of_program p) k ≡ Some c →
    Fit (type_names p) (forms_named (rows_of (map generic_data p.datas)) (place_named (rows_of (map generic_data p.datas)) k) ts) (fields_at (table_of_program p) c)
arm_fits p typed k ts c e =
    let rows = rows_of (map generic_data p.datas) in
    subst (λ (i : Option ℕ). Fit (type_names p) (forms_named rows i ts) (fields_at (table_of_program p) c)) (sym (place_same p k ∙ e)) (rows_fit (type_names p) 0 p.datas typed.fields c ts)

abbrev OwnersFit : List ℕ → List GenericRow → List Row → Type 0
OwnersFit types rows others = (c : ℕ) (row : Row) → slice_get others c ≡ Some row → place_of types (owner_at_row (slice_get rows c)) ≡ Some row.owner

front_owners : (types : List ℕ) (owner : ℕ) (d : DataTree) → place_of types (number_of d.name) ≡ Some owner → (cs : List ConstructorTree) (rows : List GenericRow) (others : List Row) → OwnersFit types rows others →
    OwnersFit types (map (row_of (generic_data d)) (map generic_constructor cs) ++ rows) (map (row_in types owner) cs ++ others)
front_owners types owner d place [] rows others h c row e = h c row e
front_owners types owner d place (k ∷ cs) rows others h zero row e = place ∙ ap (λ (r : Row). Some r.owner) (same_Some (row_in types owner k) row e)
front_owners types owner d place (k ∷ cs) rows others h (suc c) row e = front_owners types owner d place cs rows others h c row e

owners_fit : (types : List ℕ) (owner : ℕ) (ds : List DataTree) → ((i n : ℕ) → slice_get (map (λ (d : DataTree). number_of d.name) ds) i ≡ Some n → place_of types n ≡ Some (i + owner)) → OwnersFit types (rows_of (map generic_data ds)) (rows_from types owner ds)
owners_fit types owner [] at c row e = absurd cc
owners_fit types owner (d ∷ ds) at c row e =
    front_owners types owner d (at 0 (number_of d.name) refl ∙ ap Some (omega arith)) d.constructors (rows_of (map generic_data ds)) (rows_from types (suc owner) ds)
    (owners_fit types (suc owner) ds (λ i n f. at (suc i) n f ∙ ap Some (omega arith))) c row e

owner_fits : (p : ProgramTree) → IsTypedProgram p → (k c : ℕ) → constructor_named (table_of_program p) k ≡ Some c →
    place_of (type_names p) (owner_named (rows_of (map generic_data p.datas)) (place_named (rows_of (map generic_data p.datas)) k)) ≡ Some (owner_at (table_of_program p) c)
owner_fits p typed k c e =
    let rows = rows_of (map generic_data p.datas) in
    let types = type_names p in
    let found = map_found Row ℕ (λ (r : Row). r.name) (rows_from types 0 p.datas) c k (place_within (constructor_names (table_of_program p)) k c e) in
    ap (λ (i : Option ℕ). place_of types (owner_named rows i)) (place_same p k ∙ e)
    ∙ owners_fit types 0 p.datas (λ i n f. place_found types n i typed.types_differ f ∙ ap Some (omega arith)) c found.0 found.1
    ∙ ap Some (sym (ap owner_of found.1))

known_fit : (types : List ℕ) (m : Meant) (r : Results TypeName) → AreKnown types r → ResultsFit types (map_results (formed m) (map_results written_of r)) (map_results (type_of_name types) r)
known_fit types m (One a) h = written_fits types m a h
known_fit types m (Several as') h = all_fit types m as' h.1

named_fits : (g : Globals) (fs : List FunctionTree) → AllByRecursion (IsTypedHere g) fs → (x : ℕ) (h : FunctionTree) → function_named fs x ≡ Some h → (ts : Forms) → ResultsFit g.table.types (results_at (generic_named (map generic_function fs) x) ts) (result_types g.table h)
named_fits g [] typed x h e ts = absurd cc
named_fits g (f ∷ fs) typed x h e ts = step (number_of f.name == x) e (named_fits g fs typed.1 x h) where
  step : (b : Bool) → (if b then Some f else function_named fs x) ≡ Some h → (function_named fs x ≡ Some h → (us : Forms) → ResultsFit g.table.types (results_at (generic_named (map generic_function fs) x) us) (result_types g.table h)) →
      ResultsFit g.table.types (results_at (if b then Some (generic_function f) else generic_named (map generic_function fs) x) ts) (result_types g.table h)
  step true e go = subst (λ (u : FunctionTree). ResultsFit g.table.types (results_at (Some (generic_function f)) ts) (result_types g.table u)) (same_Some f h e) (known_fit g.table.types (assign [] ts) f.result (typed.0).known_result)
  step false e go = go e ts

operator_fits : (types : List ℕ) (f : Operator) → Fits types (operator_form f) (operator_type f)
operator_fits types f = either_scalar (λ g u. Fits types g u) refl refl f

-- the name of what gives one thing
one_bound_fits : (types : List ℕ) (scope : Scope) (forms : FormScope) (x : Ident) (r : Results Form) (t : Ty) → ScopeFits types scope forms → IsNew scope x → ResultsFit types r (One t) →
    ScopeFits types (bound x t scope) (bind_forms (x ∷ []) (list_results r) forms)
one_bound_fits types scope forms x r t same new h = binds_fit types (x ∷ []) (t ∷ []) (list_results r) scope (bound x t scope) forms (new, refl) (listed_fit types r (t ∷ []) h) same

-- What expressions give

mutual
  results_fit : (p : ProgramTree) → IsTypedProgram p → (m : Meant) (scope : Scope) (forms : FormScope) (e : Expression) (r : Results Ty) → ScopeFits (type_names p) scope forms → Has (globals_of p) scope e r →
      ResultsFit (type_names p) (results_of (globals_of_generic (generic_of p)) m forms (as_generic e)) r
  results_fit p typed m scope forms (Var x) r same h =
      subst (λ (u : Results Ty). ResultsFit (type_names p) (One (form_or (form_in forms (number_of x)))) u) (sym h.1) (same (number_of x) h.0 h.2)
  results_fit p typed m scope forms (Num q n) r same h = subst (λ (u : Results Ty). ResultsFit (type_names p) (One WholeForm) u) (sym h) refl
  results_fit p typed m scope forms (Bit q b) r same h = subst (λ (u : Results Ty). ResultsFit (type_names p) (One TruthForm) u) (sym h) refl
  results_fit p typed m scope forms (Paren q e) r same h = results_fit p typed m scope forms e r same h
  results_fit p typed m scope forms (Op q f a b) r same h = subst (λ (u : Results Ty). ResultsFit (type_names p) (One (operator_form f)) u) (sym h.0) (operator_fits (type_names p) f)
  results_fit p typed m scope forms (Call f xs) r same h =
      subst (λ (u : Results Ty). ResultsFit (type_names p) (results_of (globals_of_generic (generic_of p)) m forms (as_generic (Call f xs))) u) (sym h.2) (named_fits (globals_of p) p.functions typed.functions (number_of f) h.0 h.1 NoForm)
  results_fit p typed m scope forms (Make k xs) r same h =
      subst (λ (u : Results Ty). ResultsFit (type_names p) (results_of (globals_of_generic (generic_of p)) m forms (as_generic (Make k xs))) u) (sym h.2)
      (owner_named (rows_of (map generic_data p.datas)) (place_named (rows_of (map generic_data p.datas)) (number_of k)), refl, owner_fits p typed (number_of k) h.0 h.1)
  results_fit p typed m scope forms (Let q x a b) r same h =
      let rs = results_of (globals_of_generic (generic_of p)) m forms (as_generic a) in
      results_fit p typed m (bound x h.0 scope) (bind_forms (x ∷ []) (list_results rs) forms) b r (one_bound_fits (type_names p) scope forms x rs h.0 same h.2 (results_fit p typed m scope forms a (One h.0) same h.1)) h.3
  results_fit p typed m scope forms (Par q x a y b c) r same h =
      let rs = results_of (globals_of_generic (generic_of p)) m forms (as_generic a) in
      let ss = results_of (globals_of_generic (generic_of p)) m forms (as_generic b) in
      let middle = bind_forms (x ∷ []) (list_results rs) forms in
      results_fit p typed m (bound y h.1 (bound x h.0 scope)) (bind_forms (y ∷ []) (list_results ss) middle) c r
      (one_bound_fits (type_names p) (bound x h.0 scope) middle y ss h.1 (one_bound_fits (type_names p) scope forms x rs h.0 same h.4 (results_fit p typed m scope forms a (One h.0) same h.2)) h.5
      (results_fit p typed m scope forms b (One h.1) same h.3)) h.6
  results_fit p typed m scope forms (If q a b c) r same h = results_fit p typed m scope forms b r same h.1
  results_fit p typed m scope forms (Case q x arms) r same h = arms_fit p typed m scope forms (arguments_of (form_or (form_in forms (number_of x)))) arms r same h.3
  results_fit p typed m scope forms (Tuple q as' xs) r same h =
      subst (λ (u : Results Ty). ResultsFit (type_names p) (results_of (globals_of_generic (generic_of p)) m forms (as_generic (Tuple q as' xs))) u) (sym h.0)
      (arguments_fit p typed m scope forms xs (map (type_of_name (type_names p)) as') same h.2)
  results_fit p typed m scope forms (LetSeveral q qs a b) r same h =
      results_fit p typed m h.0 (bind_forms (names_of qs) (bound_forms (globals_of_generic (generic_of p)) m forms (as_generic a)) forms) b r (binds_fit (type_names p) (names_of qs) (types_of (type_names p) qs) (bound_forms (globals_of_generic (generic_of p)) m forms (as_generic a)) scope h.0 forms h.3 (listed_fit (type_names p) (results_of (globals_of_generic (generic_of p)) m forms (as_generic a)) (types_of (type_names p) qs) (results_fit p typed m scope forms a (as_results (types_of (type_names p) qs)) same h.2)) same) h.4
  results_fit p typed m scope forms (ParSeveral q qs a rs b c) r same h =
      let g = globals_of_generic (generic_of p) in
      let middle = bind_forms (names_of qs) (bound_forms g m forms (as_generic a)) forms in
      results_fit p typed m h.1 (bind_forms (names_of rs) (bound_forms g m forms (as_generic b)) middle) c r
      (binds_fit (type_names p) (names_of rs) (types_of (type_names p) rs) (bound_forms (globals_of_generic (generic_of p)) m forms (as_generic b)) h.0 h.1 middle h.7 (listed_fit (type_names p) (results_of (globals_of_generic (generic_of p)) m forms (as_generic b)) (types_of (type_names p) rs) (results_fit p typed m scope forms b (as_results (types_of (type_names p) rs)) same h.5)) (binds_fit (type_names p) (names_of qs) (types_of (type_names p) qs) (bound_forms (globals_of_generic (generic_of p)) m forms (as_generic a)) scope h.0 forms h.6 (listed_fit (type_names p) (results_of (globals_of_generic (generic_of p)) m forms (as_generic a)) (types_of (type_names p) qs) (results_fit p typed m scope forms a (as_results (types_of (type_names p) qs)) same h.4)) same)) h.8

  arguments_fit : (p : ProgramTree) → IsTypedProgram p → (m : Meant) (scope : Scope) (forms : FormScope) (xs : Arguments) (ts : List Ty) → ScopeFits (type_names p) scope forms → HaveAll (globals_of p) scope xs ts →
      Fit (type_names p) (forms_of_all (globals_of_generic (generic_of p)) m forms (all_as_generic xs)) ts
  arguments_fit p typed m scope forms NoArgument [] same h = tt {0}
  arguments_fit p typed m scope forms NoArgument (t ∷ ts) same h = absurd h
  arguments_fit p typed m scope forms (Argument a xs) [] same h = absurd h
  arguments_fit p typed m scope forms (Argument a xs) (t ∷ ts) same h = (one_fits (type_names p) (results_of (globals_of_generic (generic_of p)) m forms (as_generic a)) t (results_fit p typed m scope forms a (One t) same h.0), arguments_fit p typed m scope forms xs ts same h.1)

  arms_fit : (p : ProgramTree) → IsTypedProgram p → (m : Meant) (scope : Scope) (forms : FormScope) (ts : Forms) (arms : Arms) (r : Results Ty) → ScopeFits (type_names p) scope forms → HaveArms (globals_of p) scope arms r →
      ResultsFit (type_names p) (results_of_arms (globals_of_generic (generic_of p)) m forms ts (arms_as_generic arms)) r
  arms_fit p typed m scope forms ts (LastArm k xs e) r same h =
      let rows = rows_of (map generic_data p.datas) in
      let fs = forms_named rows (place_named rows (number_of k)) ts in
      results_fit p typed m h.1 (bind_forms xs fs forms) e r (binds_fit (type_names p) xs (fields_at (table_of_program p) h.0) fs scope h.1 forms h.3 (arm_fits p typed (number_of k) ts h.0 h.2) same) h.4
  arms_fit p typed m scope forms ts (NextArm k xs e arms) r same h =
      let rows = rows_of (map generic_data p.datas) in
      let fs = forms_named rows (place_named rows (number_of k)) ts in
      let a = h.0 in
      results_fit p typed m a.1 (bind_forms xs fs forms) e r (binds_fit (type_names p) xs (fields_at (table_of_program p) a.0) fs scope a.1 forms a.3 (arm_fits p typed (number_of k) ts a.0 a.2) same) a.4

-- names bound to parts, in another scope
sides_fit : (p : ProgramTree) → IsTypedProgram p → (m : Meant) (scope : Scope) (forms : FormScope) (middle inner : Scope) (others : FormScope) (qs : List Parameter) (a : Expression) → ScopeFits (type_names p) scope forms →
    ScopeFits (type_names p) middle others → Has (globals_of p) scope a (as_results (types_of (type_names p) qs)) → BindsAll middle (names_of qs) (types_of (type_names p) qs) inner →
    ScopeFits (type_names p) inner (bind_forms (names_of qs) (bound_forms (globals_of_generic (generic_of p)) m forms (as_generic a)) others)
sides_fit p typed m scope forms middle inner others qs a same rest h b =
    let ts = types_of (type_names p) qs in
    let r = results_of (globals_of_generic (generic_of p)) m forms (as_generic a) in
    binds_fit (type_names p) (names_of qs) ts (list_results r) middle inner others b (listed_fit (type_names p) r ts (results_fit p typed m scope forms a (as_results ts) same h)) rest

-- names bound to parts
several_fit : (p : ProgramTree) → IsTypedProgram p → (m : Meant) (scope : Scope) (forms : FormScope) (inner : Scope) (qs : List Parameter) (a : Expression) → ScopeFits (type_names p) scope forms →
    Has (globals_of p) scope a (as_results (types_of (type_names p) qs)) → BindsAll scope (names_of qs) (types_of (type_names p) qs) inner →
    ScopeFits (type_names p) inner (bind_forms (names_of qs) (bound_forms (globals_of_generic (generic_of p)) m forms (as_generic a)) forms)
several_fit p typed m scope forms inner qs a same h b = sides_fit p typed m scope forms scope inner forms qs a same same h b

-- The variables of a binding

variables_placed : (p : ProgramTree) → IsTypedProgram p → (nm : Naming) → IsPlainNaming nm → (m : Meant) (scope : Scope) (forms : FormScope) (qs : List Parameter) (a : Expression) → ScopeFits (type_names p) scope forms →
    AllByRecursion (HasKnownType (type_names p)) qs → Has (globals_of p) scope a (as_results (types_of (type_names p) qs)) → copy_variables nm (names_of qs) (bound_forms (globals_of_generic (generic_of p)) m forms (as_generic a)) ≡ map placed_variable qs
variables_placed p typed nm plain m scope forms qs a fits known h =
    let ts = types_of (type_names p) qs in
    let r = results_of (globals_of_generic (generic_of p)) m forms (as_generic a) in
    fit_variables (type_names p) nm plain (list_results r) qs known (listed_fit (type_names p) r ts (results_fit p typed m scope forms a (as_results ts) fits h))

-- The copy of an expression

mutual
  copy_placed : (p : ProgramTree) → IsTypedProgram p → (nm : Naming) → IsPlainNaming nm → (m : Meant) (scope : Scope) (forms : FormScope) (e : Expression) (r : Results Ty) → ScopeFits (type_names p) scope forms → Has (globals_of p) scope e r →
      copy (globals_of_generic (generic_of p)) nm m forms (as_generic e) ≡ placed e
  copy_placed p typed nm plain m scope forms (Var x) r fits h = refl
  copy_placed p typed nm plain m scope forms (Num q n) r fits h = refl
  copy_placed p typed nm plain m scope forms (Bit q b) r fits h = refl
  copy_placed p typed nm plain m scope forms (Paren q e) r fits h = ap (Paren q) (copy_placed p typed nm plain m scope forms e r fits h)
  copy_placed p typed nm plain m scope forms (Op q f a b) r fits h =
      ap (λ (u : Expression). Op q f u (copy (globals_of_generic (generic_of p)) nm m forms (as_generic b))) (copy_placed p typed nm plain m scope forms a (One Whole) fits h.1)
      ∙ ap (Op q f (placed a)) (copy_placed p typed nm plain m scope forms b (One Whole) fits h.2)
  copy_placed p typed nm plain m scope forms (Call f xs) r fits h =
      ap (λ (n : ℕ). Call (renamed f n) (copy_all (globals_of_generic (generic_of p)) nm m forms (all_as_generic xs))) (plain.functions (number_of f)) ∙ ap (Call f) (all_copy_placed p typed nm plain m scope forms xs (parameter_types (table_of_program p) h.0) fits h.3)
  copy_placed p typed nm plain m scope forms (Make k xs) r fits h =
      ap (λ (n : ℕ). Make (renamed k n) (copy_all (globals_of_generic (generic_of p)) nm m forms (all_as_generic xs))) (plain.constructors (number_of k)) ∙ ap (Make k) (all_copy_placed p typed nm plain m scope forms xs (fields_at (table_of_program p) h.0) fits h.3)
  copy_placed p typed nm plain m scope forms (Let q x a b) r fits h =
      let rs = results_of (globals_of_generic (generic_of p)) m forms (as_generic a) in
      ap₂ (Let q x) (copy_placed p typed nm plain m scope forms a (One h.0) fits h.1)
      (copy_placed p typed nm plain m (bound x h.0 scope) (bind_forms (x ∷ []) (list_results rs) forms) b r
      (one_bound_fits (type_names p) scope forms x rs h.0 fits h.2 (results_fit p typed m scope forms a (One h.0) fits h.1)) h.3)
  copy_placed p typed nm plain m scope forms (Par q x a y b c) r fits h =
      let g = globals_of_generic (generic_of p) in
      let rs = results_of g m forms (as_generic a) in
      let ss = results_of g m forms (as_generic b) in
      let middle = bind_forms (x ∷ []) (list_results rs) forms in
      let inner = bind_forms (y ∷ []) (list_results ss) middle in
      ap (λ (u : Expression). Par q x u y (copy g nm m forms (as_generic b)) (copy g nm m inner (as_generic c))) (copy_placed p typed nm plain m scope forms a (One h.0) fits h.2)
      ∙ ap₂ (Par q x (placed a) y) (copy_placed p typed nm plain m scope forms b (One h.1) fits h.3)
      (copy_placed p typed nm plain m (bound y h.1 (bound x h.0 scope)) inner c r
      (one_bound_fits (type_names p) (bound x h.0 scope) middle y ss h.1 (one_bound_fits (type_names p) scope forms x rs h.0 fits h.4 (results_fit p typed m scope forms a (One h.0) fits h.2)) h.5
      (results_fit p typed m scope forms b (One h.1) fits h.3)) h.6)
  copy_placed p typed nm plain m scope forms (If q a b c) r fits h =
      let g = globals_of_generic (generic_of p) in
      ap (λ (u : Expression). If q u (copy g nm m forms (as_generic b)) (copy g nm m forms (as_generic c))) (copy_placed p typed nm plain m scope forms a (One Truth) fits h.0)
      ∙ ap (λ (u : Expression). If q (placed a) u (copy g nm m forms (as_generic c))) (copy_placed p typed nm plain m scope forms b r fits h.1) ∙ ap (If q (placed a) (placed b)) (copy_placed p typed nm plain m scope forms c r fits h.2)
  copy_placed p typed nm plain m scope forms (Case q x arms) r fits h =
      ap (λ (ts : Forms). Case q x (copy_arms (globals_of_generic (generic_of p)) nm m forms ts (arms_as_generic arms)))
      (no_arguments (type_names p) (form_or (form_in forms (number_of x))) (Tree h.0) (fits (number_of x) (Tree h.0) h.1))
      ∙ ap (Case q x) (arms_copy_placed p typed nm plain m scope forms arms r fits h.3)
  copy_placed p typed nm plain m scope forms (Tuple q as' xs) r fits h =
      let g = globals_of_generic (generic_of p) in
      let fs = forms_of_all g m forms (all_as_generic xs) in
      ap (λ (bs : List TypeName). Tuple q bs (copy_all g nm m forms (all_as_generic xs))) (fit_names (type_names p) nm plain q fs as' h.1 (arguments_fit p typed m scope forms xs (map (type_of_name (type_names p)) as') fits h.2))
      ∙ ap (Tuple q (map (written_at q) as')) (all_copy_placed p typed nm plain m scope forms xs (map (type_of_name (type_names p)) as') fits h.2)
  copy_placed p typed nm plain m scope forms (LetSeveral q qs a b) r fits h =
      let g = globals_of_generic (generic_of p) in
      let inner = bind_forms (names_of qs) (bound_forms g m forms (as_generic a)) forms in
      ap (λ (vs : List Parameter). let_of q (only_name (names_of qs)) vs (copy g nm m forms (as_generic a)) (copy g nm m inner (as_generic b))) (variables_placed p typed nm plain m scope forms qs a fits h.1.2 h.2)
      ∙ ap (λ (u : Expression). let_of q (only_name (names_of qs)) (map placed_variable qs) u (copy g nm m inner (as_generic b))) (copy_placed p typed nm plain m scope forms a (as_results (types_of (type_names p) qs)) fits h.2)
      ∙ ap (let_of q (only_name (names_of qs)) (map placed_variable qs) (placed a)) (copy_placed p typed nm plain m h.0 inner b r (several_fit p typed m scope forms h.0 qs a fits h.2 h.3) h.4)
  copy_placed p typed nm plain m scope forms (ParSeveral q qs a rs b c) r fits h =
      let g = globals_of_generic (generic_of p) in
      let middle = bind_forms (names_of qs) (bound_forms g m forms (as_generic a)) forms in
      let inner = bind_forms (names_of rs) (bound_forms g m forms (as_generic b)) middle in
      let xs = only_name (names_of qs) in
      let ys = only_name (names_of rs) in
      let vs = map placed_variable qs in
      let ws = map placed_variable rs in
      ap (λ (us : List Parameter). par_of q xs us (copy g nm m forms (as_generic a)) ys (copy_variables nm (names_of rs) (bound_forms g m forms (as_generic b))) (copy g nm m forms (as_generic b)) (copy g nm m inner (as_generic c)))
      (variables_placed p typed nm plain m scope forms qs a fits h.2.2 h.4)
      ∙ ap (λ (u : Expression). par_of q xs vs u ys (copy_variables nm (names_of rs) (bound_forms g m forms (as_generic b))) (copy g nm m forms (as_generic b)) (copy g nm m inner (as_generic c))) (copy_placed p typed nm plain m scope forms a (as_results (types_of (type_names p) qs)) fits h.4)
      ∙ ap (λ (us : List Parameter). par_of q xs vs (placed a) ys us (copy g nm m forms (as_generic b)) (copy g nm m inner (as_generic c))) (variables_placed p typed nm plain m scope forms rs b fits h.3.2 h.5)
      ∙ ap (λ (u : Expression). par_of q xs vs (placed a) ys ws u (copy g nm m inner (as_generic c))) (copy_placed p typed nm plain m scope forms b (as_results (types_of (type_names p) rs)) fits h.5)
      ∙ ap (par_of q xs vs (placed a) ys ws (placed b)) (copy_placed p typed nm plain m h.1 inner c r (sides_fit p typed m scope forms h.0 h.1 middle rs b fits (several_fit p typed m scope forms h.0 qs a fits h.4 h.6) h.5 h.7) h.8)

  all_copy_placed : (p : ProgramTree) → IsTypedProgram p → (nm : Naming) → IsPlainNaming nm → (m : Meant) (scope : Scope) (forms : FormScope) (xs : Arguments) (ts : List Ty) → ScopeFits (type_names p) scope forms → HaveAll (globals_of p) scope xs ts →
      copy_all (globals_of_generic (generic_of p)) nm m forms (all_as_generic xs) ≡ all_placed xs
  all_copy_placed p typed nm plain m scope forms NoArgument ts fits h = refl
  all_copy_placed p typed nm plain m scope forms (Argument a xs) [] fits h = absurd h
  all_copy_placed p typed nm plain m scope forms (Argument a xs) (t ∷ ts) fits h =
      ap (λ (u : Expression). Argument u (copy_all (globals_of_generic (generic_of p)) nm m forms (all_as_generic xs))) (copy_placed p typed nm plain m scope forms a (One t) fits h.0)
      ∙ ap (Argument (placed a)) (all_copy_placed p typed nm plain m scope forms xs ts fits h.1)

  arms_copy_placed : (p : ProgramTree) → IsTypedProgram p → (nm : Naming) → IsPlainNaming nm → (m : Meant) (scope : Scope) (forms : FormScope) (arms : Arms) (r : Results Ty) → ScopeFits (type_names p) scope forms → HaveArms (globals_of p) scope arms r →
      copy_arms (globals_of_generic (generic_of p)) nm m forms NoForm (arms_as_generic arms) ≡ arms_placed arms
  arms_copy_placed p typed nm plain m scope forms (LastArm k xs e) r fits h =
      let g = globals_of_generic (generic_of p) in
      let fs = forms_named g.rows (place_named g.rows (number_of k)) NoForm in
      ap (λ (n : ℕ). LastArm (renamed k n) xs (copy g nm m (bind_forms xs fs forms) (as_generic e))) (plain.constructors (number_of k))
      ∙ ap (LastArm k xs) (copy_placed p typed nm plain m h.1 (bind_forms xs fs forms) e r (binds_fit (type_names p) xs (fields_at (table_of_program p) h.0) fs scope h.1 forms h.3 (arm_fits p typed (number_of k) NoForm h.0 h.2) fits) h.4)
  arms_copy_placed p typed nm plain m scope forms (NextArm k xs e arms) r fits h =
      let g = globals_of_generic (generic_of p) in
      let fs = forms_named g.rows (place_named g.rows (number_of k)) NoForm in
      let a = h.0 in
      ap (λ (n : ℕ). NextArm (renamed k n) xs (copy g nm m (bind_forms xs fs forms) (as_generic e)) (copy_arms g nm m forms NoForm (arms_as_generic arms))) (plain.constructors (number_of k))
      ∙ ap (λ (u : Expression). NextArm k xs u (copy_arms g nm m forms NoForm (arms_as_generic arms)))
      (copy_placed p typed nm plain m a.1 (bind_forms xs fs forms) e r (binds_fit (type_names p) xs (fields_at (table_of_program p) a.0) fs scope a.1 forms a.3 (arm_fits p typed (number_of k) NoForm a.0 a.2) fits) a.4)
      ∙ ap (NextArm k xs (placed e)) (arms_copy_placed p typed nm plain m scope forms arms r fits h.1)

-- Programs

function_placed : (p : ProgramTree) → IsTypedProgram p → (nm : Naming) → IsPlainNaming nm → (f : FunctionTree) → IsTypedHere (globals_of p) f → copy_function (globals_of_generic (generic_of p)) nm (generic_function f) NoForm ≡ placed_function f
function_placed p typed nm plain f h =
    let g = globals_of_generic (generic_of p) in
    let m = assign [] NoForm in
    let scope = parameter_scope m (map generic_parameter f.parameters) in
    ap (λ (n : ℕ). let t : FunctionTree = record { name = renamed f.name n; parameters = map (copy_parameter nm m) (map generic_parameter f.parameters); result = map_results (copy_written nm m) (map_results written_of f.result); body = copy g nm m scope (as_generic f.body) } in t) (plain.functions (number_of f.name))
    ∙ ap (λ (qs : List Parameter). let t : FunctionTree = record { name = f.name; parameters = qs; result = map_results (copy_written nm m) (map_results written_of f.result); body = copy g nm m scope (as_generic f.body) } in t)
    (map_own Parameter GenericParameterTree generic_parameter (copy_parameter nm m) (parameter_own nm plain m) f.parameters)
    ∙ ap (λ (a : Results TypeName). let t : FunctionTree = record { name = f.name; parameters = f.parameters; result = a; body = copy g nm m scope (as_generic f.body) } in t) (results_own nm plain m f.result)
    ∙ ap (λ (e : Expression). let t : FunctionTree = record { name = f.name; parameters = f.parameters; result = f.result; body = e } in t)
    (copy_placed p typed nm plain m h.scope scope f.body (map_results (type_of_name (type_names p)) f.result) (scope_fits (type_names p) m f.parameters h.scope h.known h.bound) h.typed)

main_placed : (p : ProgramTree) → IsTypedProgram p → (nm : Naming) → IsPlainNaming nm → copy_main (globals_of_generic (generic_of p)) nm (generic_main p.main) ≡ (placed_program p).main
main_placed p typed nm plain =
    let f = p.main in
    let h = typed.main in
    let g = globals_of_generic (generic_of p) in
    let m = assign [] NoForm in
    let scope = parameter_scope m (map generic_parameter (f.parameter ∷ [])) in
    ap (λ (q : Parameter). let t : MainTree = record { parameter = q; result = copy_written nm m (written_of f.result); body = copy g nm m scope (as_generic f.body) } in t) (parameter_own nm plain m f.parameter)
    ∙ ap (λ (a : TypeName). let t : MainTree = record { parameter = f.parameter; result = a; body = copy g nm m scope (as_generic f.body) } in t) (written_own nm plain m f.result)
    ∙ ap (λ (e : Expression). let t : MainTree = record { parameter = f.parameter; result = f.result; body = e } in t)
    (copy_placed p typed nm plain m h.scope scope f.body (One (type_of_name (type_names p) f.result)) (scope_fits (type_names p) m (f.parameter ∷ []) h.scope h.known h.bound) h.typed)

functions_placed : (p : ProgramTree) → IsTypedProgram p → (nm : Naming) → IsPlainNaming nm → (ds : List DataTree) (fs : List FunctionTree) → AllByRecursion (IsTypedHere (globals_of p)) fs →
    map (λ (c : FunctionCopy). copy_function (globals_of_generic (generic_of p)) nm c.function c.types) (function_copies (plain_datas (map generic_data ds) ++ plain_functions (map generic_function fs))) ≡ map placed_function fs
functions_placed p typed nm plain [] [] h = refl
functions_placed p typed nm plain [] (f ∷ fs) h =
    ap (λ (u : FunctionTree). u ∷ map (λ (c : FunctionCopy). copy_function (globals_of_generic (generic_of p)) nm c.function c.types) (function_copies (plain_functions (map generic_function fs)))) (function_placed p typed nm plain f h.0)
    ∙ ap (λ (us : List FunctionTree). placed_function f ∷ us) (functions_placed p typed nm plain [] fs h.1)
functions_placed p typed nm plain (d ∷ ds) fs h = functions_placed p typed nm plain ds fs h

pub own_placed : (p : ProgramTree) (nm : Naming) → IsPlainNaming nm → IsTypedProgram p → copied_program (generic_of p) nm (plain_copies (generic_of p)) ≡ placed_program p
own_placed p nm plain typed =
    let g = globals_of_generic (generic_of p) in
    let found = plain_copies (generic_of p) in
    ap (λ (ds : List DataTree). let t : ProgramTree = record { datas = ds; functions = map (λ (c : FunctionCopy). copy_function g nm c.function c.types) (function_copies found); main = copy_main g nm (generic_main p.main) } in t) (datas_own nm plain p.datas p.functions)
    ∙ ap (λ (fs : List FunctionTree). let t : ProgramTree = record { datas = p.datas; functions = fs; main = copy_main g nm (generic_main p.main) } in t) (functions_placed p typed nm plain p.datas p.functions typed.functions)
    ∙ ap (λ (f : MainTree). let t : ProgramTree = record { datas = p.datas; functions = map placed_function p.functions; main = f } in t) (main_placed p typed nm plain)
