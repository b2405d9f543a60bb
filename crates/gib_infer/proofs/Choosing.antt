-- A `case` breaks no rule: its arms are those of the type, their variables are new and rise, and each arm's fields can be
-- used.
use Rattle.std.proofs.Common.{◌≡◌, ℕ, ◌+◌, ◌<◌, ◌≤◌, true, false, ◌&&◌, ◌||◌, List, [], ◌∷◌, map, length, Option, Some, None, refl, sym, ap, ◌∙◌, subst, arith, inl, inr}
use Rattle.std.proofs.lemmas.Bool.{cases_lt, eq-eqb, ne_eqb}
use Rattle.gib_types.specs.declared.table.Ty.{Ty}
use Rattle.gib_types.specs.declared.table.Ty.TheVariants.{Whole, Truth, Tree}
use Rattle.gib_types.specs.declared.table.TyId.{TyId}
use Rattle.gib_types.specs.declared.table.ConId.{ConId}
use Rattle.gib_types.specs.Table.{Table, fields_at, owner_at}
use Rattle.gib_syntax.specs.declared.tree.Ident.{Ident}
use Rattle.gib_syntax.specs.Declarations.{number_of}
use Rattle.gib_syntax.specs.Tree.{FunctionTree}
use Rattle.gib_syntax.specs.Results.{Results}
use Rattle.gib_syntax.specs.Typing as typing
use Rattle.gib_syntax.specs.Typing.{one_type}
use Rattle.gib_core.specs.declared.atom.Variable.{Variable}
use Rattle.gib_core.specs.declared.atom.Atom.{Atom}
use Rattle.gib_core.specs.declared.atom.Atom.TheVariants as atomic
use Rattle.gib_core.specs.declared.scope.Bound.{Bound}
use Rattle.gib_core.specs.Tree.{CaseTerm, variables_from, CoreTree}
use Rattle.gib_core.specs.Inferring.{Scope, first_type, further_types, case_line, ArmCode, with_fields, Branched, arm_for, branch_of, branches_of, constructors_of, first_constructor, atom_at}
use Rattle.gib_core.specs.declared.scope.Known.{Known}
use Rattle.gib_core.specs.Met.{Setting, CaseLine, known, field, packed_before, with_arm, in_arm, arms_of, met, met_branches}
use Rattle.gib_core.specs.Rules.{Before, is_among, is_other, type_bound, type_of, is_reached, are_arms, bind_fields, bind_arms, any_bound, arm_variables, least, rules, cases_on, next, next_all}
use Rattle.gib_core.specs.Reachable.{as_reached, all_reached}
use Rattle.gib_core.specs.Ordered.{IsFit}
use Rattle.gib_core.proofs.Erases.{fit_more}
use Rattle.gib_infer.proofs.Fits.{ScopeFits, scope_more, at_fit, fields_fit, variables_length}
use Rattle.gib_infer.proofs.Ready.{CanUse, Ready, PlaceFor, Clean, clean_nothing, clean_then, LineOk, CodeBuilt}
use Rattle.gib_infer.proofs.Branching.{names_fields, type_of_below}
use Rattle.gib_infer.proofs.Rising.{Rising, rising_append, rising_front, rising_back, rising_variables, Outside, fields_outside, fields_over, none_bound, more_reached, reached_here, fields_can, binds_length, can_kept}
use Rattle.gib_core.proofs.Cased.{field_named}

arms_outside : (table : Table) (n m : ℕ) (arms : List (ConId × List Variable)) (bound : List Bound) (y : Variable) → Rising n (arm_variables arms) m → Outside n m y → type_bound (bind_arms table arms bound) y ≡ type_bound bound y
arms_outside table n m [] bound y h out = refl
arms_outside table n m (arm ∷ arms) bound y h out =
    arms_outside table n m arms (bind_fields arm.1 (fields_at table arm.0.0) bound) y (rising_back n m arm.1 (arm_variables arms) h) out
    ∙ fields_outside n m arm.1 (fields_at table arm.0.0) bound y (rising_front n m arm.1 (arm_variables arms) h) out

arms_over : (table : Table) (arms : List (ConId × List Variable)) (bound other : List Bound) (y : Variable) → type_bound bound y ≡ type_bound other y → type_bound (bind_arms table arms bound) y ≡ type_bound (bind_arms table arms other) y
arms_over table [] bound other y e = e
arms_over table (arm ∷ arms) bound other y e =
    arms_over table arms (bind_fields arm.1 (fields_at table arm.0.0) bound) (bind_fields arm.1 (fields_at table arm.0.0) other) y (fields_over arm.1 (fields_at table arm.0.0) bound other y e)

-- The scope of an arm.

arm_keeps : (k : ConId) (xs : List Variable) (types : List Ty) (before : Option Variable) (ks : List Known) (y : Variable) → is_reached (known (map as_reached ks) y) ≡ true
    → is_reached (known (map as_reached (with_arm k xs types before ks)) y) ≡ true
arm_keeps k [] types before ks y h = h
arm_keeps k (x ∷ xs) types before ks y h =
    arm_keeps k xs (further_types types) (packed_before x (first_type types) before) (field k x (first_type types) before ∷ ks) y (more_reached (field k x (first_type types) before) ks y h)

arm_reaches : (k : ConId) (xs : List Ident) (n : ℕ) (types : List Ty) (before : Option Variable) (ks : List Known) (y : Variable) → n ≤ y.0 → y.0 < n + length xs
    → is_reached (known (map as_reached (with_arm k (variables_from n xs) types before ks)) y) ≡ true
arm_reaches k [] n types before ks y lo hi = absurd (omega arith)
arm_reaches k (x ∷ xs) n types before ks y lo hi =
    let v : Variable = record { 0 = n } in
    let t = first_type types in
    let ks' : List Known = field k v t before ∷ ks in
    elim (cases_lt n y.0) [
      | inl lt ↦ arm_reaches k xs (n + 1) (further_types types) (packed_before v t before) ks' y (omega arith) (omega arith)
      | inr ge ↦ arm_keeps k (variables_from (n + 1) xs) (further_types types) (packed_before v t before) ks' y (reached_here (field k v t before) ks y (ap (λ (z : Variable). z.0) (field_named k v t before) ∙ (let same : n ≡ y.0 = omega arith in same)))
    ]

in_arm_can : (table : Table) (s : Setting) (b : Before) (k : ConId) (xs : List Variable) (x : Atom) (ty : Ty) → CanUse s b x ty → CanUse (in_arm table s k xs) b x ty
in_arm_can table s b k xs x ty h = can_kept s (in_arm table s k xs) b b x ty (arm_keeps k xs (fields_at table k.0) None s.scope) refl refl h

cased_after : (n : ℕ) (x : Atom) (arms : List (ConId × List Variable)) (cased : List Variable) (y : Variable) → IsFit n x → n ≤ y.0 → is_among (cases_on (CaseLine x arms) cased) y ≡ is_among cased y
cased_after n (atomic.Variable x) arms cased y fit le = ap (λ c. c || is_among cased y) (ne_eqb x.0 y.0 (λ e. omega (arith, fit, e)))
cased_after n (atomic.Whole z) arms cased y fit le = refl
cased_after n (atomic.Truth t) arms cased y fit le = refl

-- What is asked of the place where arms are compiled: of the variables from n up to m those of these arms are bound, and
-- no other.
pub record Entered (n m : ℕ) (outer : typing.Scope) (sc : Scope) (s : Setting) (b : Before) (table : Table) (arms : List (ConId × List Variable)) : Type 0 where
  pub names : (x : ℕ) (ty : Ty) → typing.type_in outer x ≡ Some ty → CanUse s b (atom_at sc x) ty
  pub fits : ScopeFits n sc
  pub bound : (y : Variable) → n ≤ y.0 → y.0 < m → type_bound b.bound y ≡ type_bound (bind_arms table arms []) y
  pub uncased : (y : Variable) → n ≤ y.0 → is_among b.cased y ≡ false
  pub apart : (y : Variable) → n ≤ y.0 → y.0 < m → is_among s.others y ≡ false

module _ (core : CoreTree) (functions : List FunctionTree) where
  -- An arm of the constructor k: its fields' names come into scope, and its code breaks no rule.
  pub record ArmBuilt (k : ℕ) (arm : ArmCode) (given : Results Ty) (outer : typing.Scope) (sc : Scope) : Type 0 where
    pub inner : typing.Scope
    pub binds : typing.BindsAll outer arm.names (fields_at core.table k) inner
    pub code : (n : ℕ) → CodeBuilt core functions arm.code given inner (with_fields arm.names (fields_at core.table k) n sc)

  -- There is an arm.
  abbrev pub Taken : ℕ → Option ArmCode → Results Ty → typing.Scope → Scope → Type 0
  Taken k None given outer sc = ⊥
  Taken k (Some arm) given outer sc = ArmBuilt k arm given outer sc

  -- There is an arm for each of these constructors.
  abbrev pub AllTaken : List ℕ → List ArmCode → Results Ty → typing.Scope → Scope → Type 0
  AllTaken [] arms given outer sc = Unit {0}
  AllTaken (k ∷ ks) arms given outer sc = Taken k (arm_for arms k) given outer sc × AllTaken ks arms given outer sc

  -- Branches that are those of these constructors, with rising variables.
  record Shaped (ks : List ℕ) (n : ℕ) (r : Branched) : Type 0 where
    grows : n ≤ r.fresh
    rising : Rising n (arm_variables (arms_of r.branches)) r.fresh
    arms : are_arms core.table ks (arms_of r.branches) ≡ true

  shaped : (ks : List ℕ) (arms : List ArmCode) (given : Results Ty) (outer : typing.Scope) (sc : Scope) → AllTaken ks arms given outer sc → (n : ℕ) → ScopeFits n sc → Shaped ks n (branches_of core.table ks arms sc n)
  shaped [] arms given outer sc h n fits = record { grows = omega arith; rising = omega arith; arms = refl }
  shaped (k ∷ ks) arms given outer sc h n fits = go (arm_for arms k) h.0 (λ m f. shaped ks arms given outer sc h.1 m f)
    where
      go : (o : Option ArmCode) → Taken k o given outer sc → ((m : ℕ) → ScopeFits m sc → Shaped ks m (branches_of core.table ks arms sc m)) → Shaped (k ∷ ks) n (branch_of core.table k o sc n (λ m. branches_of core.table ks arms sc m))
      go None e further = absurd e
      go (Some arm) e further =
          let types = fields_at core.table k in
          let start = n + length arm.names in
          let l = arm.code.line (with_fields arm.names types n sc) start in
          let o = (e.code n).order.line start (fields_fit n start arm.names types sc refl fits) in
          let up = o.grows in
          let r = branches_of core.table ks arms sc l.fresh in
          let rest = further l.fresh (scope_more n l.fresh sc (omega arith) fits) in
          let up' = rest.grows in
          let long : length types ≡ length (variables_from n arm.names) = binds_length arm.names types outer e.inner e.binds ∙ sym (variables_length n arm.names) in
          record {
            grows = omega arith;
            rising = rising_append n start l.fresh r.fresh (variables_from n arm.names) (arm_variables (arms_of r.branches)) (rising_variables n start arm.names (omega arith)) up rest.rising;
            arms = λ i. (eq-eqb k k refl i && eq-eqb (length types) (length (variables_from n arm.names)) long i) && rest.arms i;
          }

  -- The type of branches is that of the first one.
  pub branches_type : (k : ℕ) (ks : List ℕ) (arms : List ArmCode) (given : Results Ty) (outer : typing.Scope) (sc : Scope) → AllTaken (k ∷ ks) arms given outer sc → (n : ℕ) → (branches_of core.table (k ∷ ks) arms sc n).ty ≡ one_type given
  branches_type k ks arms given outer sc h n = go (arm_for arms k) h.0
    where
      go : (o : Option ArmCode) → Taken k o given outer sc → (branch_of core.table k o sc n (λ m. branches_of core.table ks arms sc m)).ty ≡ one_type given
      go None e = absurd e
      go (Some arm) e = (e.code n).line_type (n + length arm.names)

  branches_clean : (ks : List ℕ) (arms : List ArmCode) (given : Results Ty) (outer : typing.Scope) (sc : Scope) → AllTaken ks arms given outer sc → (n m : ℕ) (s : Setting) (b : Before)
      → Entered n m outer sc s b core.table (arms_of (branches_of core.table ks arms sc n).branches) → (branches_of core.table ks arms sc n).fresh ≤ m → PlaceFor given s
      → Clean core n (branches_of core.table ks arms sc n).fresh b (met_branches core.table s (branches_of core.table ks arms sc n).branches)
  branches_clean [] arms given outer sc h n m s b entered le place = clean_nothing core n b
  branches_clean (k ∷ ks) arms given outer sc h n m s b entered le place =
      go (arm_for arms k) h.0 (λ j c. branches_clean ks arms given outer sc h.1 j m s c) entered le
    where
      go : (o : Option ArmCode) → Taken k o given outer sc
          → ((j : ℕ) (c : Before) → Entered j m outer sc s c core.table (arms_of (branches_of core.table ks arms sc j).branches) → (branches_of core.table ks arms sc j).fresh ≤ m → PlaceFor given s
          → Clean core j (branches_of core.table ks arms sc j).fresh c (met_branches core.table s (branches_of core.table ks arms sc j).branches))
          → Entered n m outer sc s b core.table (arms_of (branch_of core.table k o sc n (λ j. branches_of core.table ks arms sc j)).branches)
          → (branch_of core.table k o sc n (λ j. branches_of core.table ks arms sc j)).fresh ≤ m
          → Clean core n (branch_of core.table k o sc n (λ j. branches_of core.table ks arms sc j)).fresh b (met_branches core.table s (branch_of core.table k o sc n (λ j. branches_of core.table ks arms sc j)).branches)
      go None e further here le = absurd e
      go (Some arm) e further here le =
          let types = fields_at core.table k in
          let xs = variables_from n arm.names in
          let start = n + length arm.names in
          let sc' = with_fields arm.names types n sc in
          let l = arm.code.line sc' start in
          let fit = fields_fit n start arm.names types sc refl here.fits in
          let code = e.code n in
          let o = code.order.line start fit in
          let up = o.grows in
          let r = branches_of core.table ks arms sc l.fresh in
          let sh = shaped ks arms given outer sc h.1 l.fresh (scope_more n l.fresh sc (omega arith) here.fits) in
          let up' = sh.grows in
          let rises = rising_variables n start arm.names (omega arith) in
          let own : (y : Variable) → n ≤ y.0 → y.0 < l.fresh → type_bound b.bound y ≡ type_bound (bind_fields xs types []) y =
          λ y lo hi. here.bound y lo (omega arith) ∙ arms_outside core.table l.fresh r.fresh (arms_of r.branches) (bind_fields xs types []) y sh.rising (λ z l u f. omega arith) in
          let inside = in_arm core.table s (record { 0 = k }) xs in
          let can = fields_can arm.names types n inside b [] (binds_length arm.names types outer e.inner e.binds) (arm_reaches (record { 0 = k }) arm.names n types None s.scope) (λ y lo hi. own y lo (omega arith)) (λ y lo hi. here.apart y lo (omega arith)) in
          let ready : Ready start l.fresh e.inner sc' inside b = record {
            names = names_fields arm.names types outer e.inner sc n inside b e.binds can (λ y t f. in_arm_can core.table s b (record { 0 = k }) xs (atom_at sc y) t (here.names y t f));
            fits = fit;
            new = λ y lo hi. own y (omega arith) hi ∙ fields_outside n start xs types [] y rises (λ z l u f. omega arith);
            uncased = λ y lo. here.uncased y (omega arith);
            apart = λ y lo hi. here.apart y (omega arith) (omega arith);
          } in
          let p = code.line start l.fresh inside b ready (omega arith) (record { destination = place.destination; due = place.due }) in
          let lines = met core.table inside l.term in
          let c = next_all core.table b lines in
          let next_entered : Entered l.fresh m outer sc s c core.table (arms_of r.branches) = record {
            names = λ y t f. can_kept s s b c (atom_at sc y) t (λ z e. e) refl (type_of_below core start l.fresh b lines (atom_at sc y) p.clean (fit_more n start (atom_at sc y) (omega arith) (at_fit n sc y here.fits))) (here.names y t f);
            fits = scope_more n l.fresh sc (omega arith) here.fits;
            bound = λ y lo hi. p.clean.above y lo ∙ here.bound y (omega arith) hi ∙ arms_over core.table (arms_of r.branches) (bind_fields xs types []) [] y (fields_outside n start xs types [] y rises (λ z l u f. omega arith));
            uncased = λ y lo. p.clean.uncased y lo ∙ here.uncased y (omega arith);
            apart = λ y lo hi. here.apart y (omega arith) hi;
          } in
          let q = further l.fresh c next_entered le place in
          let first : Clean core n l.fresh b lines = record { reachable = p.clean.reachable; below = λ y lt. p.clean.below y (omega arith); above = p.clean.above; uncased = p.clean.uncased } in
          clean_then core n l.fresh l.fresh r.fresh b lines (met_branches core.table s r.branches) first q (omega arith) up'

  case_least : (s : Setting) (b : Before) (x : Atom) (t : TyId) (arms : List (ConId × List Variable)) → CanUse s b x (Tree t) → are_arms core.table (constructors_of core.table t.0) arms ≡ true → any_bound (arm_variables arms) [] b.bound ≡ false
      → least (rules core b (all_reached s) (CaseLine x arms)) ≡ None
  case_least s b x t arms h full new = let other : is_other (all_reached s) x ≡ false = h.other in rw (other, h.usable, h.of_type, full, new) refl

  type_of_cased : (n m : ℕ) (arms : List (ConId × List Variable)) (b : Before) (x y : Atom) → IsFit n y → Rising n (arm_variables arms) m → type_of (next core.table b (CaseLine x arms)) y ≡ type_of b y
  type_of_cased n m arms b x (atomic.Variable y) fit rising = arms_outside core.table n m arms b.bound y rising (λ z l u f. omega (arith, fit, l, f))
  type_of_cased n m arms b x (atomic.Whole z) fit rising = refl
  type_of_cased n m arms b x (atomic.Truth t) fit rising = refl

  case_over : (ks : List ℕ) (x : ℕ) (arms : List ArmCode) (t : TyId) (given : Results Ty) (outer : typing.Scope) (sc : Scope) → typing.type_in outer x ≡ Some (Tree t) → ks ≡ constructors_of core.table t.0
      → AllTaken ks arms given outer sc → (n m : ℕ) (s : Setting) (b : Before) → Ready n m outer sc s b → (branches_of core.table ks arms sc n).fresh ≤ m → PlaceFor given s
      → Clean core n (branches_of core.table ks arms sc n).fresh b (met core.table s (CaseTerm (atom_at sc x) (branches_of core.table ks arms sc n).branches))
  case_over ks x arms t given outer sc is same h n m s b ready le place =
      let y = atom_at sc x in
      let fit = at_fit n sc x ready.fits in
      let can = ready.names x (Tree t) is in
      let r = branches_of core.table ks arms sc n in
      let sh = shaped ks arms given outer sc h n ready.fits in
      let all = arms_of r.branches in
      let c = next core.table b (CaseLine y all) in
      let full : are_arms core.table (constructors_of core.table t.0) all ≡ true = subst (λ (z : List ℕ). are_arms core.table z all ≡ true) same sh.arms in
      let new = none_bound n r.fresh (arm_variables all) [] b.bound sh.rising (λ z lo hi. ready.new z lo (omega arith)) (λ z lo. refl) in
      let entered : Entered n m outer sc s c core.table all = record {
        names = λ z u e. can_kept s s b c (atom_at sc z) u (λ w f. f) refl (type_of_cased n r.fresh all b y (atom_at sc z) (at_fit n sc z ready.fits) sh.rising) (ready.names z u e);
        fits = ready.fits;
        bound = λ z lo hi. arms_over core.table all b.bound [] z (ready.new z lo hi);
        uncased = λ z lo. cased_after n y all b.cased z fit lo ∙ ready.uncased z lo;
        apart = ready.apart;
      } in
      let q = branches_clean ks arms given outer sc h n m s c entered le place in
      let up = sh.grows in
      record {
        reachable = (case_least s b y t all can full new, q.reachable);
        below = λ z lt. q.below z lt ∙ arms_outside core.table n r.fresh all b.bound z sh.rising (λ w l u f. omega arith);
        above = λ z lo. q.above z lo ∙ arms_outside core.table n r.fresh all b.bound z sh.rising (λ w l u f. omega arith);
        uncased = λ z lo. q.uncased z lo ∙ cased_after n y all b.cased z fit (omega arith);
      }

  -- A `case`, where each constructor of the type has an arm.
  pub case_ok : (x : Ident) (arms : List ArmCode) (t : TyId) (given : Results Ty) (outer : typing.Scope) (sc : Scope) → typing.type_in outer (number_of x) ≡ Some (Tree t) → owner_at core.table (first_constructor arms) ≡ t.0
      → AllTaken (constructors_of core.table t.0) arms given outer sc → LineOk core (case_line core.table x arms) given outer sc
  case_ok x arms t given outer sc is own h n m s b ready le place =
      let ks = constructors_of core.table (owner_at core.table (first_constructor arms)) in
      let same : ks ≡ constructors_of core.table t.0 = ap (constructors_of core.table) own in
      record { clean = case_over ks (number_of x) arms t given outer sc is same (subst (λ (z : List ℕ). AllTaken z arms given outer sc) (sym same) h) n m s b ready le place }
