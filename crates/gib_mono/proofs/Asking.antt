-- Where all uses are answered, types are here and uses are asked for.
use Rattle.std.proofs.Common.{◌≡◌, ℕ, suc, Bool, true, false, ◌==◌, ◌&&◌, ◌||◌, if◌then◌else◌, List, [], ◌∷◌, ◌++◌, map, Option, Some, refl, ap, ◌∙◌, subst}
use Rattle.std.specs.Prelude.{slice_get}
use Rattle.std.specs.List.{AllByRecursion}
use Rattle.std.proofs.lemmas.Bool.{eqb-true, and_parts}
use Rattle.gib_syntax.specs.declared.tree.Ident.{Ident}
use Rattle.gib_syntax.specs.Declarations.{number_of}
use Rattle.gib_syntax.specs.Typing.{Globals}
use Rattle.gib_syntax.specs.Results.{Results, One, Several, map_results, as_results, list_results}
use Rattle.gib_syntax.specs.Forms.{WrittenType, WrittenTypes, WholeAt, TruthAt, VariableAt, DataAt, NoType, MoreTypes, Form, Forms, WholeForm, TruthForm, NoForm, MoreForms, Meant, formed, formed_all, assign}
use Rattle.gib_syntax.specs.GenericTree.{GenericExpression, GenericArguments, GenericArms, GenericVar, GenericNum, GenericBit, GenericParen, GenericOp, GenericCall, GenericMake, GenericLet, GenericPar, GenericIf, GenericCase, GenericTuple, GenericNoArgument, GenericArgument, GenericLastArm, GenericNextArm, GenericConstructorTree, GenericDataTree, GenericParameterTree, GenericFunctionTree, GenericRow, GenericGlobals, place_named, generic_named, data_named}
use Rattle.gib_syntax.specs.GenericTyping.{FormScope, IsKnownType, AreKnownTypes, AreKnownResults, HasForm, HaveForms, ArmsHaveForm, field_forms, parameter_forms, HasKnownForm, HasKnownGenericFields}
use Rattle.gib_mono.specs.Copying.{Naming, owner_named}
use Rattle.gib_mono.specs.Copied.{Item, IsItem, IsHere, AreHere, Setting, IsAsked, AreAsked, ArmsAsked}
use Rattle.gib_types.specs.SameForm.{same_forms}
use Rattle.gib_mono.specs.Walk.{Ask, Copy, DataOf, FunctionOf, is_found, written_asks, results_asks, writtens_asks, types_asks, asks, all_asks, arm_asks, constructor_asks, data_asked, function_asked, type_items, function_items}
use Rattle.gib_mono.specs.Closed.{IsThere, AreAnswered}
use Rattle.gib_mono.proofs.Scopes.{owner_is}
use Rattle.gib_types.proofs.SameForms.{same_forms_are}
use Rattle.gib_mono.proofs.Closing.{data_has_name, function_has_name}
use Rattle.gib_mono.proofs.Copies.{answered_split}

-- Items

item_next : (items : List Item) (i : Item) (x : ℕ) (ts : Forms) → IsItem items x ts → IsItem (i ∷ items) x ts
item_next items i x ts h = (suc h.0, h.1)

pub type_item : (found : List Copy) (d : GenericDataTree) (ts : Forms) → is_found found (DataOf d ts) ≡ true → IsItem (type_items found) (number_of d.name) ts
type_item [] d ts h = absurd cc
type_item (DataOf e us ∷ cs) d ts h = step ((number_of e.name == number_of d.name) && same_forms us ts) refl (λ k. type_item cs d ts k) h where
  step : (b : Bool) → ((number_of e.name == number_of d.name) && same_forms us ts) ≡ b → (is_found cs (DataOf d ts) ≡ true → IsItem (type_items cs) (number_of d.name) ts) → (b || is_found cs (DataOf d ts)) ≡ true → IsItem (record { name = number_of e.name; types = us } ∷ type_items cs) (number_of d.name) ts
  step true is go h =
      let both = and_parts (number_of e.name == number_of d.name) (same_forms us ts) is in
      (0, ap (λ (n : ℕ). Some (record { name = n; types = us })) (eqb-true (number_of e.name) (number_of d.name) both.0) ∙ ap (λ (vs : Forms). Some (record { name = number_of d.name; types = vs })) (same_forms_are us ts both.1))
  step false is go h = item_next (type_items cs) (record { name = number_of e.name; types = us }) (number_of d.name) ts (go h)
type_item (FunctionOf f us ∷ cs) d ts h = type_item cs d ts h

pub function_item : (found : List Copy) (f : GenericFunctionTree) (ts : Forms) → is_found found (FunctionOf f ts) ≡ true → IsItem (function_items found) (number_of f.name) ts
function_item [] f ts h = absurd cc
function_item (DataOf e us ∷ cs) f ts h = function_item cs f ts h
function_item (FunctionOf e us ∷ cs) f ts h = step ((number_of e.name == number_of f.name) && same_forms us ts) refl (λ k. function_item cs f ts k) h where
  step : (b : Bool) → ((number_of e.name == number_of f.name) && same_forms us ts) ≡ b → (is_found cs (FunctionOf f ts) ≡ true → IsItem (function_items cs) (number_of f.name) ts) → (b || is_found cs (FunctionOf f ts)) ≡ true → IsItem (record { name = number_of e.name; types = us } ∷ function_items cs) (number_of f.name) ts
  step true is go h =
      let both = and_parts (number_of e.name == number_of f.name) (same_forms us ts) is in
      (0, ap (λ (n : ℕ). Some (record { name = n; types = us })) (eqb-true (number_of e.name) (number_of f.name) both.0) ∙ ap (λ (vs : Forms). Some (record { name = number_of f.name; types = vs })) (same_forms_are us ts both.1))
  step false is go h = item_next (function_items cs) (record { name = number_of e.name; types = us }) (number_of f.name) ts (go h)

-- what was asked for by a name that is declared
data_answered : (found : List Copy) (o : Option GenericDataTree) (d : GenericDataTree) (x : ℕ) (ts : Forms) → o ≡ Some d → number_of d.name ≡ x → IsThere found (data_asked o ts) → IsItem (type_items found) x ts
data_answered found o d x ts e is h =
    subst (λ (n : ℕ). IsItem (type_items found) n ts) is (type_item found d ts (subst (λ (u : Option GenericDataTree). IsThere found (data_asked u ts)) e h))

function_answered : (found : List Copy) (o : Option GenericFunctionTree) (f : GenericFunctionTree) (x : ℕ) (ts : Forms) → o ≡ Some f → number_of f.name ≡ x → IsThere found (function_asked o ts) → IsItem (function_items found) x ts
function_answered found o f x ts e is h =
    subst (λ (n : ℕ). IsItem (function_items found) n ts) is (function_item found f ts (subst (λ (u : Option GenericFunctionTree). IsThere found (function_asked u ts)) e h))

-- WrittenType types

-- what stands for each type variable is here
abbrev pub MeantHere : List Item → Meant → Type 0
MeantHere items m = (x : ℕ) → IsHere items (m x)

pub assign_here : (items : List Item) (vs : List Ident) (ts : Forms) → AreHere items ts → MeantHere items (assign vs ts)
assign_here items [] ts h x = tt {0}
assign_here items (v ∷ vs) NoForm h x = tt {0}
assign_here items (v ∷ vs) (MoreForms t ts) h x = step (number_of v == x) (assign_here items vs ts h.1 x) where
  step : (b : Bool) → IsHere items (assign vs ts x) → IsHere items (if b then t else assign vs ts x)
  step true rest = h.0
  step false rest = rest

mutual
  pub written_here : (g : GenericGlobals) (found : List Copy) (vars : List ℕ) (m : Meant) → MeantHere (type_items found) m → (w : WrittenType) → IsKnownType g.datas vars w → AreAnswered g found (written_asks m w) → IsHere (type_items found) (formed m w)
  written_here g found vars m here (WholeAt p) known h = tt {0}
  written_here g found vars m here (TruthAt p) known h = tt {0}
  written_here g found vars m here (VariableAt x) known h = here (number_of x)
  written_here g found vars m here (DataAt p x ws) known h = (
    data_answered found (data_named g.datas (number_of x)) known.0 (number_of x) (formed_all m ws) known.1 (data_has_name g.datas (number_of x) known.0 known.1) h.0.1,
    writtens_here g found vars m here ws known.3 h.1,
  )

  pub writtens_here : (g : GenericGlobals) (found : List Copy) (vars : List ℕ) (m : Meant) → MeantHere (type_items found) m → (ws : WrittenTypes) → AreKnownTypes g.datas vars ws → AreAnswered g found (writtens_asks m ws) → AreHere (type_items found) (formed_all m ws)
  writtens_here g found vars m here NoType known h = tt {0}
  writtens_here g found vars m here (MoreTypes w ws) known h =
      let both = answered_split g found (written_asks m w) (writtens_asks m ws) h in
      (written_here g found vars m here w known.0 both.0, writtens_here g found vars m here ws known.1 both.1)

-- the types of uses are here
abbrev pub AskHere : List Item → Ask → Type 0
AskHere items a = AreHere items a.types

abbrev pub AllAskHere : List Item → List Ask → Type 0
AllAskHere items as' = AllByRecursion (AskHere items) as'

pub here_both : (items : List Item) (xs ys : List Ask) → AllAskHere items xs → AllAskHere items ys → AllAskHere items (xs ++ ys)
here_both items [] ys h k = k
here_both items (x ∷ xs) ys h k = (h.0, here_both items xs ys h.1 k)

mutual
  pub written_uses : (g : GenericGlobals) (found : List Copy) (vars : List ℕ) (m : Meant) → MeantHere (type_items found) m → (w : WrittenType) → IsKnownType g.datas vars w → AreAnswered g found (written_asks m w) → AllAskHere (type_items found) (written_asks m w)
  written_uses g found vars m here (WholeAt p) known h = tt {0}
  written_uses g found vars m here (TruthAt p) known h = tt {0}
  written_uses g found vars m here (VariableAt x) known h = tt {0}
  written_uses g found vars m here (DataAt p x ws) known h = (writtens_here g found vars m here ws known.3 h.1, writtens_uses g found vars m here ws known.3 h.1)

  pub writtens_uses : (g : GenericGlobals) (found : List Copy) (vars : List ℕ) (m : Meant) → MeantHere (type_items found) m → (ws : WrittenTypes) → AreKnownTypes g.datas vars ws → AreAnswered g found (writtens_asks m ws) → AllAskHere (type_items found) (writtens_asks m ws)
  writtens_uses g found vars m here NoType known h = tt {0}
  writtens_uses g found vars m here (MoreTypes w ws) known h =
      let both = answered_split g found (written_asks m w) (writtens_asks m ws) h in
      here_both (type_items found) (written_asks m w) (writtens_asks m ws) (written_uses g found vars m here w known.0 both.0) (writtens_uses g found vars m here ws known.1 both.1)

-- Expressions

-- what the walk found, as a setting
abbrev pub found_setting : GenericGlobals → Naming → Globals → (ℕ → ℕ) → List Copy → Setting
found_setting g nm to base found = record { from = g; naming = nm; to = to; base = base; types = type_items found; functions = function_items found }

-- the type of a constructor's row is declared
abbrev pub RowsDeclared : GenericGlobals → Type 0
RowsDeclared g = (c : ℕ) (row : GenericRow) → slice_get g.rows c ≡ Some row → (d : GenericDataTree) × (data_named g.datas row.owner ≡ Some d)

mutual
  pub uses_asked : (g : GenericGlobals) (nm : Naming) (to : Globals) (base : ℕ → ℕ) (found : List Copy) → RowsDeclared g → (vars : List ℕ) (m : Meant) → MeantHere (type_items found) m → (e : GenericExpression) (ty : Results Form) (scope : FormScope) →
      HasForm g vars m scope e ty → AreAnswered g found (asks g.rows m e) → IsAsked (found_setting g nm to base found) m e × AllAskHere (type_items found) (asks g.rows m e)
  uses_asked g nm to base found rows vars m here (GenericVar x) ty scope h k = (tt {0}, tt {0})
  uses_asked g nm to base found rows vars m here (GenericNum p n) ty scope h k = (tt {0}, tt {0})
  uses_asked g nm to base found rows vars m here (GenericBit p b) ty scope h k = (tt {0}, tt {0})
  uses_asked g nm to base found rows vars m here (GenericParen p e) ty scope h k = uses_asked g nm to base found rows vars m here e ty scope h k
  uses_asked g nm to base found rows vars m here (GenericOp p f a b) ty scope h k =
      let both = answered_split g found (asks g.rows m a) (asks g.rows m b) k in
      let x = uses_asked g nm to base found rows vars m here a (One WholeForm) scope h.1 both.0 in
      let y = uses_asked g nm to base found rows vars m here b (One WholeForm) scope h.2 both.1 in
      ((x.0, y.0), here_both (type_items found) (asks g.rows m a) (asks g.rows m b) x.1 y.1)
  uses_asked g nm to base found rows vars m here (GenericCall f ws xs) ty scope h k =
      let both = answered_split g found (writtens_asks m ws) (all_asks g.rows m xs) k.1 in
      let y = all_uses_asked g nm to base found rows vars m here xs (parameter_forms h.0 (formed_all m ws)) scope h.5 both.1 in
      let types = writtens_here g found vars m here ws h.3 both.0 in (
        (function_answered found (generic_named g.functions (number_of f)) h.0 (number_of f) (formed_all m ws) h.1 (function_has_name g.functions (number_of f) h.0 h.1) k.0.1, types, y.0),
        (types, here_both (type_items found) (writtens_asks m ws) (all_asks g.rows m xs) (writtens_uses g found vars m here ws h.3 both.0) y.1),
      )
  uses_asked g nm to base found rows vars m here (GenericMake c ws xs) ty scope h k =
      let both = answered_split g found (writtens_asks m ws) (all_asks g.rows m xs) k.1 in
      let y = all_uses_asked g nm to base found rows vars m here xs (field_forms h.1 (formed_all m ws)) scope h.7 both.1 in
      let types = writtens_here g found vars m here ws h.5 both.0 in
      let d = rows h.0 h.1 h.3 in
      let owner = owner_is g.rows (place_named g.rows (number_of c)) h.0 h.1 h.2 h.3 in
      let own = ap (data_named g.datas) owner ∙ d.1 in (
        (
          data_answered found (data_named g.datas (owner_named g.rows (place_named g.rows (number_of c)))) d.0 (owner_named g.rows (place_named g.rows (number_of c))) (formed_all m ws) own
              (data_has_name g.datas (owner_named g.rows (place_named g.rows (number_of c))) d.0 own) k.0.1,
          types,
          y.0,
        ),
        (types, here_both (type_items found) (writtens_asks m ws) (all_asks g.rows m xs) (writtens_uses g found vars m here ws h.5 both.0) y.1),
      )
  uses_asked g nm to base found rows vars m here (GenericLet p xs a b) ty scope h k =
      let both = answered_split g found (asks g.rows m a) (asks g.rows m b) k in
      let u = uses_asked g nm to base found rows vars m here a (as_results h.0) scope h.3 both.0 in
      let v = uses_asked g nm to base found rows vars m here b ty h.1 h.5 both.1 in
      ((u.0, v.0), here_both (type_items found) (asks g.rows m a) (asks g.rows m b) u.1 v.1)
  uses_asked g nm to base found rows vars m here (GenericPar p xs a ys b c) ty scope h k =
      let both = answered_split g found (asks g.rows m a) (asks g.rows m b ++ asks g.rows m c) k in
      let last = answered_split g found (asks g.rows m b) (asks g.rows m c) both.1 in
      let u = uses_asked g nm to base found rows vars m here a (as_results h.0) scope h.6 both.0 in
      let v = uses_asked g nm to base found rows vars m here b (as_results h.1) scope h.7 last.0 in
      let w = uses_asked g nm to base found rows vars m here c ty h.3 h.10 last.1 in
      ((u.0, v.0, w.0), here_both (type_items found) (asks g.rows m a) (asks g.rows m b ++ asks g.rows m c) u.1 (here_both (type_items found) (asks g.rows m b) (asks g.rows m c) v.1 w.1))
  uses_asked g nm to base found rows vars m here (GenericIf p a b c) ty scope h k =
      let both = answered_split g found (asks g.rows m a) (asks g.rows m b ++ asks g.rows m c) k in
      let last = answered_split g found (asks g.rows m b) (asks g.rows m c) both.1 in
      let u = uses_asked g nm to base found rows vars m here a (One TruthForm) scope h.0 both.0 in
      let v = uses_asked g nm to base found rows vars m here b ty scope h.1 last.0 in
      let w = uses_asked g nm to base found rows vars m here c ty scope h.2 last.1 in
      ((u.0, v.0, w.0), here_both (type_items found) (asks g.rows m a) (asks g.rows m b ++ asks g.rows m c) u.1 (here_both (type_items found) (asks g.rows m b) (asks g.rows m c) v.1 w.1))
  uses_asked g nm to base found rows vars m here (GenericCase p x arms) ty scope h k = arms_uses_asked g nm to base found rows vars m here arms ty scope h.0 h.1 h.4 k
  uses_asked g nm to base found rows vars m here (GenericTuple p xs) ty scope h k = all_uses_asked g nm to base found rows vars m here xs h.0 scope h.2 k

  all_uses_asked : (g : GenericGlobals) (nm : Naming) (to : Globals) (base : ℕ → ℕ) (found : List Copy) → RowsDeclared g → (vars : List ℕ) (m : Meant) → MeantHere (type_items found) m → (xs : GenericArguments) (fs : List Form) (scope : FormScope) →
      HaveForms g vars m scope xs fs → AreAnswered g found (all_asks g.rows m xs) → AreAsked (found_setting g nm to base found) m xs × AllAskHere (type_items found) (all_asks g.rows m xs)
  all_uses_asked g nm to base found rows vars m here GenericNoArgument fs scope h k = (tt {0}, tt {0})
  all_uses_asked g nm to base found rows vars m here (GenericArgument a xs) [] scope h k = absurd h
  all_uses_asked g nm to base found rows vars m here (GenericArgument a xs) (f ∷ fs) scope h k =
      let both = answered_split g found (asks g.rows m a) (all_asks g.rows m xs) k in
      let u = uses_asked g nm to base found rows vars m here a (One f) scope h.0 both.0 in
      let v = all_uses_asked g nm to base found rows vars m here xs fs scope h.1 both.1 in
      ((u.0, v.0), here_both (type_items found) (asks g.rows m a) (all_asks g.rows m xs) u.1 v.1)

  arms_uses_asked : (g : GenericGlobals) (nm : Naming) (to : Globals) (base : ℕ → ℕ) (found : List Copy) → RowsDeclared g → (vars : List ℕ) (m : Meant) → MeantHere (type_items found) m → (arms : GenericArms) (ty : Results Form) (scope : FormScope) (t : ℕ) (ts : Forms) →
      ArmsHaveForm g vars m scope t ts arms ty → AreAnswered g found (arm_asks g.rows m arms) → ArmsAsked (found_setting g nm to base found) m arms × AllAskHere (type_items found) (arm_asks g.rows m arms)
  arms_uses_asked g nm to base found rows vars m here (GenericLastArm c xs e) ty scope t ts h k = uses_asked g nm to base found rows vars m here e ty h.2 h.7 k
  arms_uses_asked g nm to base found rows vars m here (GenericNextArm c xs e arms) ty scope t ts h k =
      let both = answered_split g found (asks g.rows m e) (arm_asks g.rows m arms) k in
      let u = uses_asked g nm to base found rows vars m here e ty h.0.2 h.0.7 both.0 in
      let v = arms_uses_asked g nm to base found rows vars m here arms ty scope t ts h.1 both.1 in
      ((u.0, v.0), here_both (type_items found) (asks g.rows m e) (arm_asks g.rows m arms) u.1 v.1)

-- Declarations

pub types_here : (g : GenericGlobals) (found : List Copy) (vars : List ℕ) (m : Meant) → MeantHere (type_items found) m → (ws : List WrittenType) → AllByRecursion (IsKnownType g.datas vars) ws → AreAnswered g found (types_asks m ws) →
    AllByRecursion (IsHere (type_items found)) (map (formed m) ws) × AllAskHere (type_items found) (types_asks m ws)
types_here g found vars m here [] known h = (tt {0}, tt {0})
types_here g found vars m here (w ∷ ws) known h =
    let both = answered_split g found (written_asks m w) (types_asks m ws) h in
    let rest = types_here g found vars m here ws known.1 both.1 in
    ((written_here g found vars m here w known.0 both.0, rest.0), here_both (type_items found) (written_asks m w) (types_asks m ws) (written_uses g found vars m here w known.0 both.0) rest.1)

pub results_types_here : (g : GenericGlobals) (found : List Copy) (vars : List ℕ) (m : Meant) → MeantHere (type_items found) m → (r : Results WrittenType) → AreKnownResults g.datas vars r → AreAnswered g found (results_asks m r) →
    AllByRecursion (IsHere (type_items found)) (list_results (map_results (formed m) r)) × AllAskHere (type_items found) (results_asks m r)
results_types_here g found vars m here (One w) known h = ((written_here g found vars m here w known h, tt {0}), written_uses g found vars m here w known h)
results_types_here g found vars m here (Several ws) known h = types_here g found vars m here ws known.1 h

pub constructors_here : (g : GenericGlobals) (found : List Copy) (vars : List ℕ) (m : Meant) → MeantHere (type_items found) m → (cs : List GenericConstructorTree) → AllByRecursion (HasKnownGenericFields g.datas vars) cs → AreAnswered g found (constructor_asks m cs) →
    AllByRecursion (λ (c : GenericConstructorTree). AllByRecursion (IsHere (type_items found)) (map (formed m) c.fields)) cs × AllAskHere (type_items found) (constructor_asks m cs)
constructors_here g found vars m here [] known h = (tt {0}, tt {0})
constructors_here g found vars m here (c ∷ cs) known h =
    let both = answered_split g found (types_asks m c.fields) (constructor_asks m cs) h in
    let first = types_here g found vars m here c.fields known.0.1 both.0 in
    let rest = constructors_here g found vars m here cs known.1 both.1 in
    ((first.0, rest.0), here_both (type_items found) (types_asks m c.fields) (constructor_asks m cs) first.1 rest.1)

pub parameters_known : (datas : List GenericDataTree) (vars : List ℕ) (qs : List GenericParameterTree) → AllByRecursion (HasKnownForm datas vars) qs → AllByRecursion (IsKnownType datas vars) (map (λ (q : GenericParameterTree). q.ty) qs)
parameters_known datas vars [] h = tt {0}
parameters_known datas vars (q ∷ qs) h = (h.0, parameters_known datas vars qs h.1)

pub parameter_forms_are : (m : Meant) (qs : List GenericParameterTree) → map (formed m) (map (λ (q : GenericParameterTree). q.ty) qs) ≡ map (λ (q : GenericParameterTree). formed m q.ty) qs
parameter_forms_are m [] = refl
parameter_forms_are m (q ∷ qs) = ap (λ (fs : List Form). formed m q.ty ∷ fs) (parameter_forms_are m qs)
