-- How a run is laid, one step after another.
use Rattle.std.proofs.Common.{◌≡◌, Bool, true, false, not, ◌||◌, ◌==◌, if◌then◌else◌, List, [], ◌∷◌, ◌++◌, map, Option, Some, None, refl, sym, ap, ◌∙◌, subst}
use Rattle.std.proofs.lemmas.Bool.{eqb-true, and_parts, not-true, or_parts, or_from}
use Rattle.std.proofs.lemmas.List.{append_assoc}
use Rattle.gib_types.specs.declared.table.Ty.{Ty}
use Rattle.gib_core.specs.declared.atom.Variable.{Variable}
use Rattle.gib_core.specs.declared.atom.Atom.{Atom}
use Rattle.gib_core.specs.declared.atom.Atom.TheVariants as a
use Rattle.gib_core.specs.declared.atom.Kind.TheVariants.{Here, Region, Scalar}
use Rattle.gib_core.specs.Tree.{Term, Bind, Past, One, Both, Prim, Reach, Side, On, Several, variables_of}
use Rattle.gib_core.specs.Reaching.{is_variable}
use Rattle.gib_core.specs.Rules.{is_among}
use Rattle.gib_place.specs.declared.field.Field.{Field}
use Rattle.gib_place.specs.Placing.{pointing, Cut, before_cut, cut_at, bound_in, is_one, are_there, are_none, PlacedSide, place_at, place_side, PlacedBind, place_one, place_right, place_too, place_both, place_bind, Laid, lay_bind, lay}
use Rattle.gib_core.proofs.Along.{differ_back, among_append}

abbrev pub variables : List Field → List Variable
variables fs = map (λ (f : Field). f.variable) fs

pub is_that : (x : Variable) (y : Atom) → is_variable x y ≡ true → y ≡ a.Variable x
is_that x (a.Variable y) e = λ i. a.Variable (record { 0 = eqb-true y.0 x.0 e i })
is_that x (a.Whole z) e = absurd cc
is_that x (a.Truth b) e = absurd cc

-- The bindings of a run and the fields of its head, whose room was put yet or not, and what they are laid out as: bindings, and the
-- variables that stand for the fields.
module _ (once : Variable → Bool) (room : Bind) where
  pub data Lays : Bool → List Bind → List Field → List Bind → List Variable → Type 0 where
    ends : Lays true [] [] [] []
    opens : {bs : List Bind} {fs : List Field} {cs : List Bind} {xs : List Variable} → Lays true bs fs cs xs → Lays false bs fs (room ∷ cs) xs
    puts : {bs : List Bind} {f : Field} {fs : List Field} {cs : List Bind} {xs : List Variable} → is_one (bound_in bs) f.target ≡ false → Lays true bs fs cs xs → Lays true bs (f ∷ fs) (pointing f ∷ cs) (f.variable ∷ xs)
    stays : {o : Bool} {b : Bind} {bs : List Bind} {fs : List Field} {cs : List Bind} {xs : List Variable} → Lays o bs fs cs xs → Lays o (b ∷ bs) fs (b ∷ cs) xs
    one : {x : Variable} {ty : Ty} {t : Term} {bs : List Bind} {f : Field} {fs : List Field} {cs : List Bind} {xs : List Variable} → once x ≡ true → f.target ≡ a.Variable x → Lays true bs fs cs xs
        → Lays true (One (On Region x ty t) ∷ bs) (f ∷ fs) (One (On Here x ty t) ∷ cs) (x ∷ xs)
    left : {fork : Bool} {x : Variable} {ty : Ty} {t : Term} {r : Side} {bs : List Bind} {f : Field} {fs : List Field} {cs : List Bind} {xs : List Variable} → once x ≡ true → f.target ≡ a.Variable x → Lays true bs fs cs xs
        → Lays true (Both fork (On Region x ty t) r ∷ bs) (f ∷ fs) (Both fork (On Here x ty t) r ∷ cs) (x ∷ xs)
    right : {fork : Bool} {l : Side} {y : Variable} {uy : Ty} {u : Term} {bs : List Bind} {f : Field} {fs : List Field} {cs : List Bind} {xs : List Variable} → once y ≡ true → f.target ≡ a.Variable y → Lays true bs fs cs xs
        → Lays true (Both fork l (On Region y uy u) ∷ bs) (f ∷ fs) (Both fork l (On Here y uy u) ∷ cs) (y ∷ xs)
    both : {fork : Bool} {x : Variable} {ty : Ty} {t : Term} {y : Variable} {uy : Ty} {u : Term} {bs : List Bind} {f g : Field} {fs : List Field} {cs : List Bind} {xs : List Variable} → once x ≡ true → f.target ≡ a.Variable x → once y ≡ true → g.target ≡ a.Variable y
        → Lays true bs fs cs xs → Lays true (Both fork (On Region x ty t) (On Region y uy u) ∷ bs) (f ∷ g ∷ fs) (Both fork (On Here x ty t) (On Here y uy u) ∷ cs) (x ∷ y ∷ xs)

  -- Fields cut at the one that points to a variable.
  data Cuts (x : Variable) : List Field → List Field → List Field → Type 0 where
    here : {f : Field} {fs : List Field} → f.target ≡ a.Variable x → Cuts x (f ∷ fs) [] fs
    there : {f : Field} {fs pre post : List Field} → is_variable x f.target ≡ false → Cuts x fs pre post → Cuts x (f ∷ fs) (f ∷ pre) post

  abbrev IsCut : Variable → List Field → Option Cut → Type 0
  IsCut x fs None = Unit {0}
  IsCut x fs (Some c) = Cuts x fs c.before c.behind

  more_cut : (x : Variable) (f : Field) (fs : List Field) (c : Option Cut) → is_variable x f.target ≡ false → IsCut x fs c → IsCut x (f ∷ fs) (before_cut f c)
  more_cut x f fs None e h = tt
  more_cut x f fs (Some c) e h = there e h

  is_cut : (x : Variable) (fs : List Field) → IsCut x fs (cut_at x fs)
  is_cut x [] = tt
  is_cut x (f ∷ fs) = go (is_variable x f.target) refl (is_cut x fs)
    where
      go : (b : Bool) → is_variable x f.target ≡ b → IsCut x fs (cut_at x fs) → IsCut x (f ∷ fs) (if b then Some (record { before = []; behind = fs }) else before_cut f (cut_at x fs))
      go true e h = here (is_that x f.target e)
      go false e h = more_cut x f fs (cut_at x fs) e h

  -- The fields before the one that is placed are put.
  all_put : {x : Variable} {fields pre post : List Field} → Cuts x fields pre post → (late : List Variable) (bs cs : List Bind) (xs : List Variable)
      → ((y : Atom) → is_variable x y ≡ false → is_one late y ≡ false → is_one (bound_in bs) y ≡ false)
      → are_there late pre ≡ true
      → ((f : Field) → f.target ≡ a.Variable x → Lays true bs (f ∷ post) cs xs)
      → Lays true bs fields (map pointing pre ++ cs) (variables pre ++ xs)
  all_put (here {f = f} e) late bs cs xs out may base = base f e
  all_put (there {f = f} {pre = pre} e h) late bs cs xs out may base =
      let m = and_parts (not (is_one late f.target)) (are_there late pre) may in
      puts (out f.target e (not-true (is_one late f.target) m.0)) (all_put h late bs cs xs out m.1 base)

  -- A side that is placed.
  abbrev IsPlacedSide : (List Field → Bool) → Side → List Field → Option PlacedSide → Type 0
  IsPlacedSide may s fields None = Unit {0}
  IsPlacedSide may (On Region x ty t) fields (Some p) = (once x ≡ true) × (may p.before ≡ true) × (p.side ≡ On Here x ty t) × Cuts x fields p.before p.left
  IsPlacedSide may (On Here x ty t) fields (Some p) = ⊥
  IsPlacedSide may (On Scalar x ty t) fields (Some p) = ⊥
  IsPlacedSide may (Several xs tys t) fields (Some p) = ⊥

  at_placed : (may : List Field → Bool) (x : Variable) (ty : Ty) (t : Term) (fields : List Field) (c : Option Cut) → once x ≡ true → IsCut x fields c → IsPlacedSide may (On Region x ty t) fields (place_at may x ty t c)
  at_placed may x ty t fields None o h = tt
  at_placed may x ty t fields (Some c) o h = go (may c.before) refl
    where
      go : (b : Bool) → may c.before ≡ b → IsPlacedSide may (On Region x ty t) fields (if b then Some (record { before = c.before; side = On Here x ty t; left = c.behind }) else None)
      go true e = (o, e, refl, h)
      go false e = tt

  is_placed : (may : List Field → Bool) (s : Side) (fields : List Field) → IsPlacedSide may s fields (place_side once may s fields)
  is_placed may (On Here x ty t) fields = tt
  is_placed may (On Scalar x ty t) fields = tt
  is_placed may (Several xs tys t) fields = tt
  is_placed may (On Region x ty t) fields = go (once x) refl
    where
      go : (b : Bool) → once x ≡ b → IsPlacedSide may (On Region x ty t) fields (if b then place_at may x ty t (cut_at x fields) else None)
      go true e = at_placed may x ty t fields (cut_at x fields) e (is_cut x fields)
      go false e = tt

  -- A binding that is placed.
  abbrev IsPlacedBind : List Bind → Bind → List Field → Option PlacedBind → Type 0
  IsPlacedBind bs b fields None = Unit {0}
  IsPlacedBind bs b fields (Some p) = (cs : List Bind) (xs : List Variable) → Lays true bs p.left cs xs → Lays true (b ∷ bs) fields (map pointing p.before ++ p.bind ∷ cs) (variables p.before ++ (p.standing ++ xs))

  out_one : (x : Variable) (late : List Variable) (y : Atom) → is_variable x y ≡ false → is_one late y ≡ false → is_one (x ∷ late) y ≡ false
  out_one x late (a.Variable y) e h = ap (λ b. b || is_among late y) (differ_back y x e) ∙ h
  out_one x late (a.Whole z) e h = refl
  out_one x late (a.Truth b) e h = refl

  out_swap : (x : Variable) (zs late : List Variable) (y : Atom) → is_one (x ∷ (zs ++ late)) y ≡ false → is_one (zs ++ (x ∷ late)) y ≡ false
  out_swap x zs late (a.Variable y) e =
      let p = or_parts (x.0 == y.0) (is_among (zs ++ late) y) e in
      let q = or_parts (is_among zs y) (is_among late y) (sym (among_append zs late y) ∙ p.1) in
      among_append zs (x ∷ late) y ∙ or_from (is_among zs y) (is_among (x ∷ late) y) q.0 (or_from (x.0 == y.0) (is_among late y) p.0 q.1)
  out_swap x zs late (a.Whole w) e = refl
  out_swap x zs late (a.Truth b) e = refl

  one_placed : (bs : List Bind) (s : Side) (fields : List Field) (p : Option PlacedSide) → IsPlacedSide (are_there (bound_in bs)) s fields p → IsPlacedBind bs (One s) fields (place_one p)
  one_placed bs s fields None h = tt
  one_placed bs (Several vs tys t) fields (Some p) h = absurd h
  one_placed bs (On Here x ty t) fields (Some p) h = absurd h
  one_placed bs (On Scalar x ty t) fields (Some p) h = absurd h
  one_placed bs (On Region x ty t) fields (Some p) h = λ cs xs l.
      all_put h.3 (bound_in bs) (One (On Region x ty t) ∷ bs) (One p.side ∷ cs) (variables_of p.side ++ xs) (out_one x (bound_in bs)) h.1
      (λ f e. subst (λ (s : Side). Lays true (One (On Region x ty t) ∷ bs) (f ∷ p.left) (One s ∷ cs) (variables_of s ++ xs)) (sym h.2) (one h.0 e l))

  right_placed : (bs : List Bind) (fork : Bool) (l r : Side) (fields : List Field) (q : Option PlacedSide) → IsPlacedSide (are_there (variables_of l ++ bound_in bs)) r fields q → IsPlacedBind bs (Both fork l r) fields (place_right fork l q)
  right_placed bs fork l r fields None h = tt
  right_placed bs fork l (Several vs tys t) fields (Some p) h = absurd h
  right_placed bs fork l (On Here x ty t) fields (Some p) h = absurd h
  right_placed bs fork l (On Scalar x ty t) fields (Some p) h = absurd h
  right_placed bs fork l (On Region y uy u) fields (Some q) h = λ cs xs k.
      all_put h.3 (variables_of l ++ bound_in bs) (Both fork l (On Region y uy u) ∷ bs) (Both fork l q.side ∷ cs) (variables_of q.side ++ xs)
      (λ z e o. ap (λ zs. is_one zs z) (append_assoc (variables_of l) (y ∷ []) (bound_in bs)) ∙ out_swap y (variables_of l) (bound_in bs) z (out_one y (variables_of l ++ bound_in bs) z e o)) h.1
      (λ f e. subst (λ (s : Side). Lays true (Both fork l (On Region y uy u) ∷ bs) (f ∷ q.left) (Both fork l s ∷ cs) (variables_of s ++ xs)) (sym h.2) (right h.0 e k))

  -- The first field is cut at.
  first_cut : {y : Variable} {fields pre post : List Field} → Cuts y fields pre post → are_none pre ≡ true → (P : List Field → Type 0) → ((g : Field) → g.target ≡ a.Variable y → P (g ∷ post)) → P fields
  first_cut (here {f = g} e) m P h = h g e
  first_cut (there e c) m P h = absurd cc

  too_placed : (bs : List Bind) (fork : Bool) (x : Variable) (ty : Ty) (t : Term) (r : Side) (fields : List Field) (p : PlacedSide)
      → IsPlacedSide (are_there (variables_of r ++ bound_in bs)) (On Region x ty t) fields (Some p)
      → (q : Option PlacedSide) → IsPlacedSide are_none r p.left q
      → IsPlacedBind bs (Both fork (On Region x ty t) r) fields (Some (place_too fork r p q))
  too_placed bs fork x ty t r fields p h None k = λ cs xs l.
      all_put h.3 (variables_of r ++ bound_in bs) (Both fork (On Region x ty t) r ∷ bs) (Both fork p.side r ∷ cs) (variables_of p.side ++ xs) (out_one x (variables_of r ++ bound_in bs)) h.1
      (λ f e. subst (λ (s : Side). Lays true (Both fork (On Region x ty t) r ∷ bs) (f ∷ p.left) (Both fork s r ∷ cs) (variables_of s ++ xs)) (sym h.2) (left h.0 e l))
  too_placed bs fork x ty t (On Here y uy u) fields p h (Some q) k = absurd k
  too_placed bs fork x ty t (Several vs tys u) fields p h (Some q) k = absurd k
  too_placed bs fork x ty t (On Scalar y uy u) fields p h (Some q) k = absurd k
  too_placed bs fork x ty t (On Region y uy u) fields p h (Some q) k = λ cs xs l.
      all_put h.3 (y ∷ bound_in bs) (Both fork (On Region x ty t) (On Region y uy u) ∷ bs) (Both fork p.side q.side ∷ cs) ((variables_of p.side ++ variables_of q.side) ++ xs) (out_one x (y ∷ bound_in bs)) h.1
      (λ f e. first_cut k.3 k.1 (λ (fs : List Field). Lays true (Both fork (On Region x ty t) (On Region y uy u) ∷ bs) (f ∷ fs) (Both fork p.side q.side ∷ cs) ((variables_of p.side ++ variables_of q.side) ++ xs))
      (λ g d. subst (λ (s : Side). Lays true (Both fork (On Region x ty t) (On Region y uy u) ∷ bs) (f ∷ g ∷ q.left) (Both fork s q.side ∷ cs) ((variables_of s ++ variables_of q.side) ++ xs)) (sym h.2)
      (subst (λ (s : Side). Lays true (Both fork (On Region x ty t) (On Region y uy u) ∷ bs) (f ∷ g ∷ q.left) (Both fork (On Here x ty t) s ∷ cs) ((x ∷ variables_of s) ++ xs)) (sym k.2) (both h.0 e k.0 d l))))

  both_placed : (bs : List Bind) (fork : Bool) (l r : Side) (fields : List Field) (p : Option PlacedSide) → IsPlacedSide (are_there (variables_of r ++ bound_in bs)) l fields p → IsPlacedBind bs (Both fork l r) fields (place_both once (bound_in bs) fork l r fields p)
  both_placed bs fork l r fields None h = right_placed bs fork l r fields (place_side once (are_there (variables_of l ++ bound_in bs)) r fields) (is_placed (are_there (variables_of l ++ bound_in bs)) r fields)
  both_placed bs fork (On Here x ty t) r fields (Some p) h = absurd h
  both_placed bs fork (On Scalar x ty t) r fields (Some p) h = absurd h
  both_placed bs fork (Several vs tys t) r fields (Some p) h = absurd h
  both_placed bs fork (On Region x ty t) r fields (Some p) h = too_placed bs fork x ty t r fields p h (place_side once are_none r p.left) (is_placed are_none r p.left)

  is_placed_bind : (bs : List Bind) (b : Bind) (fields : List Field) → IsPlacedBind bs b fields (place_bind once (bound_in bs) b fields)
  is_placed_bind bs (Past h k) fields = tt
  is_placed_bind bs (One s) fields = one_placed bs s fields (place_side once (are_there (bound_in bs)) s fields) (is_placed (are_there (bound_in bs)) s fields)
  is_placed_bind bs (Both fork l r) fields = both_placed bs fork l r fields (place_side once (are_there (variables_of r ++ bound_in bs)) l fields) (is_placed (are_there (variables_of r ++ bound_in bs)) l fields)
  is_placed_bind bs (Prim x f y z) fields = tt
  is_placed_bind bs (Reach y by) fields = tt

  -- A run is laid so.
  abbrev rooms : Bool → List Bind
  rooms true = []
  rooms false = room ∷ []

  none_is : (y : Atom) → is_one [] y ≡ false
  none_is (a.Variable y) = refl
  none_is (a.Whole z) = refl
  none_is (a.Truth b) = refl

  pub fields_lay : (fs : List Field) → Lays true [] fs (map pointing fs) (variables fs)
  fields_lay [] = ends
  fields_lay (f ∷ fs) = puts (none_is f.target) (fields_lay fs)

  after_room : (o : Bool) (bs : List Bind) (fs : List Field) (cs : List Bind) (xs : List Variable) → Lays true bs fs cs xs → Lays o bs fs (rooms o ++ cs) xs
  after_room true bs fs cs xs l = l
  after_room false bs fs cs xs l = opens l

  further_lay : (o : Bool) (b : Bind) (bs : List Bind) (fs : List Field) (p : Option PlacedBind) (further : List Bind → List Field → Laid) → IsPlacedBind bs b fs p
      → ((o' : Bool) (gs : List Field) → Lays o' bs gs (further (rooms o') gs).binds (further (rooms o') gs).standing)
      → Lays o (b ∷ bs) fs (lay_bind (rooms o) b fs p further).binds (lay_bind (rooms o) b fs p further).standing
  further_lay o b bs fs None further h more = stays (more o fs)
  further_lay o b bs fs (Some p) further h more =
      let l = further [] p.left in
      subst (λ (ys : List Variable). Lays o (b ∷ bs) fs ((rooms o ++ (map pointing p.before ++ p.bind ∷ [])) ++ l.binds) ys) (sym (append_assoc (variables p.before) p.standing l.standing))
      (subst (λ (ds : List Bind). Lays o (b ∷ bs) fs ds (variables p.before ++ (p.standing ++ l.standing)))
      (sym (append_assoc (rooms o) (map pointing p.before ++ p.bind ∷ []) l.binds ∙ ap (λ ds. rooms o ++ ds) (append_assoc (map pointing p.before) (p.bind ∷ []) l.binds)))
      (after_room o (b ∷ bs) fs (map pointing p.before ++ p.bind ∷ l.binds) (variables p.before ++ (p.standing ++ l.standing)) (h l.binds l.standing (more true p.left))))

  pub lay_lays : (bs : List Bind) (o : Bool) (fs : List Field) → Lays o bs fs (lay once bs (rooms o) fs).binds (lay once bs (rooms o) fs).standing
  lay_lays [] o fs = after_room o [] fs (map pointing fs) (variables fs) (fields_lay fs)
  lay_lays (b ∷ bs) o fs = further_lay o b bs fs (place_bind once (bound_in bs) b fs) (λ rest left. lay once bs rest left) (is_placed_bind bs b fs) (λ o' gs. lay_lays bs o' gs)
