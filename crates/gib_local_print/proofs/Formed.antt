-- A core of the form that fits, in which no several parts are bound or given, has a text's form.
use Rattle.std.proofs.Common.{◌≡◌, ℕ, ◌+◌, ◌==◌, Bool, true, false, ◌||◌, if◌then◌else◌, List, [], ◌∷◌, ◌++◌, length, map, None, refl, sym, ap, ◌∙◌}
use Rattle.std.specs.List.{AllByRecursion}
use Rattle.std.proofs.lemmas.Bool.{eqb-true, both_ways}
use Rattle.gib_base.specs.declared.name.Name.{Name}
use Rattle.gib_types.specs.declared.table.Ty.{Ty}
use Rattle.gib_types.specs.declared.table.Ty.TheVariants.{Whole, Truth, Tree}
use Rattle.gib_types.specs.Table.{fields_at, scalar_types, is_scalar}
use Rattle.gib_types.specs.Operators.{operator_type}
use Rattle.gib_syntax.specs.Results as results
use Rattle.gib_core.specs.declared.atom.Variable.{Variable}
use Rattle.gib_core.specs.declared.atom.Atom.{Atom}
use Rattle.gib_core.specs.declared.atom.Atom.TheVariants as a
use Rattle.gib_core.specs.declared.atom.Kind.TheVariants as kind
use Rattle.gib_core.specs.declared.atom.Access.TheVariants as by
use Rattle.gib_core.specs.Tree as t
use Rattle.gib_core.specs.Tree.{Term, Side, Branches, FunctionTerm, CoreTree, var, is_variable}
use Rattle.gib_core.specs.Met.{Body}
use Rattle.gib_core.specs.Numbering.{binders}
use Rattle.gib_core.specs.Reaching.{has_variable, uses}
use Rattle.gib_core.specs.Walk.{Each, EachInSide, EachInBranches}
use Rattle.gib_core.specs.Ending.{Within, within_par, within_main, within_function}
use Rattle.gib_core.specs.Fits.{Sort, Scalar, Held, Placed, AtHead, Field, Scope, Dest, Nowhere, Empty, Open, InParts, AtomFits, AtomsFit, put, packed_due, more, by_call, loosen, cased, bound_scope, arm_scope, dest_of, body_scope, Line, Needs, Inner, AtEnd, none_of, new_line, tell_line, arm_line, side_tells, CallFits, Fits, SideFits, BranchesFit, OwnFits, EachFits, AllFit}
use Rattle.gib_core.proofs.Fine.{anywhere, side_alone}
use Rattle.gib_local.specs.Building.{is_flat}
use Rattle.gib_local_print.specs.HasShape.{IsWrite, IsFilled, HasShape, SideShape, HasShapes, AreShaped}
use Rattle.gib_local_print.specs.HasForm.{FillsNext, IsFilledSo, HasForm, SideForm, BranchesForm, AreFormed, IsSingleEntry, AreSingle}
use Rattle.gib_core.proofs.Facts.{Test, holds, fails, test}

-- ---- a packed variable is no scalar field

NoScalar : Sort → Type 0
NoScalar i = (ty : Ty) → i ≡ Scalar ty → ⊥

choose_no : (b : Bool) (i j : Sort) → NoScalar i → NoScalar j → NoScalar (if b then i else j)
choose_no true i j h k = h
choose_no false i j h k = k

placed_no : (s : ℕ) → NoScalar (Placed s)
unfolding NoScalar
placed_no s ty e = absurd cc

field_no : (i : Sort) (s z x k p : ℕ) → i ≡ Field s z x k p → NoScalar i
unfolding NoScalar
field_no i s z x k p e ty f = (let g : Field s z x k p ≡ Scalar ty = sym e ∙ f in absurd cc)

apart : (sc : Scope) (y x : Variable) (ty : Ty) → NoScalar (sc y.0) → sc x.0 ≡ Scalar ty → Test (x.0 == y.0) → x.0 == y.0 ≡ false
unfolding NoScalar
apart sc y x ty off f (holds e) = absurd (off ty (ap sc (sym (eqb-true x.0 y.0 e)) ∙ f))
apart sc y x ty off f (fails e) = e

not_variable : (sc : Scope) (y : Variable) (x : Atom) (ty : Ty) → NoScalar (sc y.0) → is_scalar ty ≡ true → AtomFits sc x ty → is_variable y x ≡ false
not_variable sc y (a.Whole z) ty off s f = refl
not_variable sc y (a.Truth b) ty off s f = refl
not_variable sc y (a.Variable x) Whole off s f = apart sc y x Whole off f (test (x.0 == y.0))
not_variable sc y (a.Variable x) Truth off s f = apart sc y x Truth off f (test (x.0 == y.0))
not_variable sc y (a.Variable x) (Tree q) off s f = absurd cc

neither : (b c : Bool) → b ≡ false → c ≡ false → b || c ≡ false
neither false c e f = f
neither true c e f = absurd cc

none_uses : (sc : Scope) (y : Variable) → NoScalar (sc y.0) → (ts : List Ty) (ss : List Atom) → AtomsFit sc ss (scalar_types ts) → has_variable y ss ≡ false
none_uses sc y off [] [] f = refl
none_uses sc y off [] (x ∷ ss) f = absurd f
none_uses sc y off (Whole ∷ ts) [] f = refl
none_uses sc y off (Truth ∷ ts) [] f = refl
none_uses sc y off (Whole ∷ ts) (x ∷ ss) f = neither (is_variable y x) (has_variable y ss) (not_variable sc y x Whole off refl f.0) (none_uses sc y off ts ss f.1)
none_uses sc y off (Truth ∷ ts) (x ∷ ss) f = neither (is_variable y x) (has_variable y ss) (not_variable sc y x Truth off refl f.0) (none_uses sc y off ts ss f.1)
none_uses sc y off (Tree q ∷ ts) [] f = refl
none_uses sc y off (Tree q ∷ ts) (x ∷ ss) f = none_uses sc y off ts (x ∷ ss) f

standing : Dest → List ℕ
standing (Nowhere ty) = []
standing (Empty s) = []
standing (Open s h k xs dues) = xs
standing (InParts tys) = []

none_stand : (s h k s' h' k' : ℕ) (dues xs : List ℕ) → Open s h k [] dues ≡ Open s' h' k' xs [] → xs ≡ []
unfolding standing
none_stand s h k s' h' k' dues xs e = sym (ap standing e)

none_named : (y : Variable) (ps : List Atom) (xs : List ℕ) → ps ≡ map var xs → xs ≡ [] → has_variable y ps ≡ false
none_named y ps xs e q = ap (has_variable y) (e ∙ ap (λ (l : List ℕ). map var l) q)

-- What follows from a binding.
record Goes (P : Scope → Dest → Line → Type 0) : Type 0 where
  scope : Scope
  dest : Dest
  line : Line
  rest : P scope dest line

side_on : (core : CoreTree) (w : Within) (s : Side) (sc : Scope) (d : Dest) (ln : Line) (P : Scope → Dest → Line → Type 0) → SideFits core w s sc d ln P → Goes P
side_on core w (t.On kind.Here x ty u) sc d ln P f = record { scope = put (loosen (cased u) sc) x.0 (Placed f.0); dest = more d x.0; line = tell_line (side_tells w core u) ln; rest = f.5 }
side_on core w (t.On kind.Region x ty u) sc d ln P f = record { scope = put (loosen (cased u) sc) x.0 (Placed f.0); dest = d; line = tell_line (side_tells w core u) ln; rest = f.4 }
side_on core w (t.On kind.Scalar x ty u) sc d ln P f = record { scope = put (loosen (cased u) sc) x.0 (Scalar ty); dest = d; line = tell_line (side_tells w core u) ln; rest = f.3 }
side_on core w (t.Several xs tys u) sc d ln P f = record { scope = bound_scope tys xs (loosen (cased u) sc); dest = d; line = tell_line none_of ln; rest = f.3 }

module _ (core : CoreTree) where
  -- A variable that is no scalar is not used where a head is filled behind reaches, of which no packed field stands.
  unused : (rest : Term) (ns : Needs) (sc : Scope) (s h k : ℕ) (dues : List ℕ) (ln : Line) (y : Variable) → FillsNext rest → Fits core ns rest sc (Open s h k [] dues) ln → NoScalar (sc y.0) → uses rest y ≡ false
  unused (t.Write g j ss ps) ns sc s h k dues ln y w f off =
      neither (has_variable y ss) (has_variable y ps) (none_uses sc y off (fields_at core.table j.0) ss f.4) (none_named y ps f.1 f.3 (none_stand s h k f.0 g.0 j.0 dues f.1 f.2))
  unused (t.Then (t.Reach z by.Offset) u) ns sc s h k dues ln y w f off =
      unused u ns (put sc z.0 (Placed f.0)) s h k dues ln y w.1 f.7 (choose_no (y.0 == z.0) (Placed f.0) (sc y.0) (placed_no f.0) off)
  unused (t.Then (t.Reach z (by.Skip q)) u) ns sc s h k dues ln y w f off =
      unused u ns (put sc z.0 (Placed f.0)) s h k dues ln y w.1 f.7 (choose_no (y.0 == z.0) (Placed f.0) (sc y.0) (placed_no f.0) off)
  unused (t.Then (t.Reach z (by.End q)) u) ns sc s h k dues ln y w f off =
      unused u ns (put sc z.0 (Placed f.0)) s h k dues ln y w.1 f.7 (choose_no (y.0 == z.0) (Placed f.0) (sc y.0) (placed_no f.0) off)
  unused (t.Then (t.Past g j) u) ns sc s h k dues ln y w f off = absurd w
  unused (t.Then (t.One x) u) ns sc s h k dues ln y w f off = absurd w
  unused (t.Then (t.Both b l r) u) ns sc s h k dues ln y w f off = absurd w
  unused (t.Then (t.Prim x o p q) u) ns sc s h k dues ln y w f off = absurd w
  unused (t.Point x) ns sc s h k dues ln y w f off = absurd w
  unused (t.CallTerm g xs) ns sc s h k dues ln y w f off = absurd w
  unused (t.Give x) ns sc s h k dues ln y w f off = absurd w
  unused (t.CaseTerm x bs) ns sc s h k dues ln y w f off = absurd w
  unused (t.IfTerm x u v) ns sc s h k dues ln y w f off = absurd w
  unused (t.Tuple tys ss ps) ns sc s h k dues ln y w f off = absurd w

  -- So no field is reached there.
  fills : (rest : Term) (ns : Needs) (sc : Scope) (s h k : ℕ) (dues : List ℕ) (ln : Line) → FillsNext rest → Fits core ns rest sc (Open s h k [] dues) ln → IsWrite rest
  fills (t.Write g j ss ps) ns sc s h k dues ln w f = tt
  fills (t.Then (t.Reach y by.Offset) u) ns sc s h k dues ln w f =
      absurd (both_ways (uses u y) (unused u ns (put sc y.0 (Placed f.0)) s h k dues ln y w.1 f.7 (choose_no (y.0 == y.0) (Placed f.0) (sc y.0) (placed_no f.0) (field_no (sc y.0) f.0 f.1 f.2 f.3 f.4 f.5))) w.0)
  fills (t.Then (t.Reach y (by.Skip q)) u) ns sc s h k dues ln w f =
      absurd (both_ways (uses u y) (unused u ns (put sc y.0 (Placed f.0)) s h k dues ln y w.1 f.7 (choose_no (y.0 == y.0) (Placed f.0) (sc y.0) (placed_no f.0) (field_no (sc y.0) f.0 q.0 f.1 f.2 f.3 f.5))) w.0)
  fills (t.Then (t.Reach y (by.End q)) u) ns sc s h k dues ln w f =
      absurd (both_ways (uses u y) (unused u ns (put sc y.0 (Placed f.0)) s h k dues ln y w.1 f.7 (choose_no (y.0 == y.0) (Placed f.0) (sc y.0) (placed_no f.0) (field_no (sc y.0) f.0 q.0 f.1 f.2 f.3 f.5))) w.0)
  fills (t.Then (t.Past g j) u) ns sc s h k dues ln w f = absurd w
  fills (t.Then (t.One x) u) ns sc s h k dues ln w f = absurd w
  fills (t.Then (t.Both b l r) u) ns sc s h k dues ln w f = absurd w
  fills (t.Then (t.Prim x o p q) u) ns sc s h k dues ln w f = absurd w
  fills (t.Point x) ns sc s h k dues ln w f = absurd w
  fills (t.CallTerm g xs) ns sc s h k dues ln w f = absurd w
  fills (t.Give x) ns sc s h k dues ln w f = absurd w
  fills (t.CaseTerm x bs) ns sc s h k dues ln w f = absurd w
  fills (t.IfTerm x u v) ns sc s h k dues ln w f = absurd w
  fills (t.Tuple tys ss ps) ns sc s h k dues ln w f = absurd w

  filled : (b : Bool) (rest : Term) (ns : Needs) (sc : Scope) (s h k : ℕ) (dues : List ℕ) (ln : Line) → IsFilledSo FillsNext b rest → Fits core ns rest sc (Open s h k [] dues) ln → IsFilled b rest
  filled false rest ns sc s h k dues ln w f = tt
  filled true rest ns sc s h k dues ln w f = fills rest ns sc s h k dues ln w f

  shaped_call : (u : Term) (A : Type 0) (B : Name → List Atom → Type 0) → (A → HasShape core.table u) → by_call u A B → HasShape core.table u
  shaped_call (t.Then b u) A B go h = go h
  shaped_call (t.Write x k ss ps) A B go h = go h
  shaped_call (t.Point x) A B go h = go h
  shaped_call (t.CallTerm f xs) A B go h = tt
  shaped_call (t.Give x) A B go h = go h
  shaped_call (t.CaseTerm x bs) A B go h = go h
  shaped_call (t.IfTerm x u v) A B go h = go h
  shaped_call (t.Tuple tys ss ps) A B go h = go h

  mutual
    term_shaped : (u : Term) (ns : Needs) (sc : Scope) (d : Dest) (ln : Line) → Fits core ns u sc d ln → HasForm FillsNext core.table u → Each IsSingleEntry u → HasShape core.table u
    term_shaped (t.Then (t.Past h k) rest) ns sc d ln f e o =
        let dues = packed_due (fields_at core.table k.0) in
        (filled (is_flat core.table k) rest ns (put sc h.0 Held) f.0 h.0 k.0 dues ln e.0 f.4, term_shaped rest ns (put sc h.0 Held) (Open f.0 h.0 k.0 [] dues) ln f.4 e.1 o.1)
    term_shaped (t.Then (t.One s) rest) ns sc d ln f e o =
        let r = side_on core ln.within s sc d ln (λ sc' d' ln'. Fits core ns rest sc' d' ln') f in
        (side_shaped s ln.within sc d ln (side_alone core ln.within s sc d ln (λ sc' d' ln'. Fits core ns rest sc' d' ln') f) e.0 o.0, term_shaped rest ns r.scope r.dest r.line r.rest e.1 o.1)
    term_shaped (t.Then (t.Both true l r) rest) ns sc d ln f e o = (let off : true ≡ false = e.0.0 in absurd cc)
    term_shaped (t.Then (t.Both false l r) rest) ns sc d ln f e o =
        let w = within_par ln.within in
        let p = side_on core w l sc d ln (λ sc' d' ln'. SideFits core w r sc' d' ln' (λ sc' d' ln'. Fits core ns rest sc' d' ln')) f.1 in
        let q = side_on core w r p.scope p.dest p.line (λ sc' d' ln'. Fits core ns rest sc' d' ln') p.rest in (
          (
            refl,
            side_shaped l w sc d ln (side_alone core w l sc d ln (λ sc' d' ln'. SideFits core w r sc' d' ln' (λ sc' d' ln'. Fits core ns rest sc' d' ln')) f.1) e.0.1 o.0.1.0,
            side_shaped r w p.scope p.dest p.line (side_alone core w r p.scope p.dest p.line (λ sc' d' ln'. Fits core ns rest sc' d' ln') p.rest) e.0.2 o.0.1.1,
          ),
          term_shaped rest ns q.scope q.dest q.line q.rest e.1 o.1,
        )
    term_shaped (t.Then (t.Prim x g y z) rest) ns sc d ln f e o = (tt, term_shaped rest ns (put sc x.0 (Scalar (operator_type g))) d ln f.3 e.1 o.1)
    term_shaped (t.Then (t.Reach y by.Offset) rest) ns sc d ln f e o = (tt, term_shaped rest ns (put sc y.0 (Placed f.0)) d ln f.7 e.1 o.1)
    term_shaped (t.Then (t.Reach y (by.Skip z)) rest) ns sc d ln f e o = (tt, term_shaped rest ns (put sc y.0 (Placed f.0)) d ln f.7 e.1 o.1)
    term_shaped (t.Then (t.Reach y (by.End z)) rest) ns sc d ln f e o = (tt, term_shaped rest ns (put sc y.0 (Placed f.0)) d ln f.7 e.1 o.1)
    term_shaped (t.Write h k ss ps) ns sc d ln f e o = tt
    term_shaped (t.Point x) ns sc d ln f e o = tt
    term_shaped (t.CallTerm g xs) ns sc d ln f e o = tt
    term_shaped (t.Give x) ns sc d ln f e o = tt
    term_shaped (t.CaseTerm x bs) ns sc d ln f e o = (e.0, branches_shaped bs ns f.1.variable.0 (put sc f.1.variable.0 (AtHead f.0)) d ln f.3 e.1 o.1)
    term_shaped (t.IfTerm x u v) ns sc d ln f e o = (term_shaped u ns sc d ln f.1 e.0 o.1.0, term_shaped v ns sc d ln f.2 e.1 o.1.1)
    term_shaped (t.Tuple tys ss ps) ns sc d ln f e o = absurd o.0

    side_shaped : (s : Side) (w : Within) (sc : Scope) (d : Dest) (ln : Line) → SideFits core w s sc d ln anywhere → SideForm FillsNext core.table s → EachInSide IsSingleEntry s → SideShape core.table s
    side_shaped (t.On kind.Here x ty u) w sc d ln f e o = term_shaped u (Inner (side_tells w core u)) (put sc x.0 Held) (Empty f.0) (new_line w) f.4 e o.1
    side_shaped (t.On kind.Region x ty u) w sc d ln f e o = term_shaped u (Inner (side_tells w core u)) (put sc x.0 Held) (Empty f.0) (new_line w) f.3 e o.1
    side_shaped (t.On kind.Scalar x ty u) w sc d ln f e o =
        let ns = Inner (side_tells w core u) in
        shaped_call u (Fits core ns u sc (Nowhere ty) (new_line w)) (λ g xs. CallFits core sc g xs (results.One ty)) (λ h. term_shaped u ns sc (Nowhere ty) (new_line w) h e o.1) f.2
    side_shaped (t.Several xs tys u) w sc d ln f e o = absurd o.0

    branches_shaped : (bs : Branches) (ns : Needs) (x : ℕ) (sc : Scope) (d : Dest) (ln : Line) → BranchesFit core ns bs x sc d ln → BranchesForm FillsNext core.table bs → EachInBranches IsSingleEntry bs → HasShapes core.table bs
    branches_shaped t.NoBranch ns x sc d ln f e o = tt
    branches_shaped (t.BranchThen k ys u bs) ns x sc d ln f e o =
        (term_shaped u ns (arm_scope x k.0 1 None (fields_at core.table k.0) ys sc) d (arm_line core x k ys u ln) f.1 e.0 o.1.0, branches_shaped bs ns x sc d ln f.2 e.1 o.1.1)

abbrev body_of : FunctionTerm → Body
body_of f = record { parameters = f.parameters; result = f.result; term = f.body }

bodies_shaped : (core : CoreTree) (fs : List FunctionTerm) (m : Body) → HasShape core.table m.term → AllByRecursion (λ (g : FunctionTerm). OwnFits core g (length g.parameters + length (binders g.body))) fs
    → AllByRecursion (λ (b : Body). HasForm FillsNext core.table b.term) (map body_of fs ++ m ∷ []) → AllByRecursion (λ (b : Body). Each IsSingleEntry b.term) (map body_of fs ++ m ∷ [])
    → AllByRecursion (λ (b : Body). HasShape core.table b.term) (map body_of fs ++ m ∷ [])
bodies_shaped core [] m h f e o = (h, tt)
bodies_shaped core (g ∷ fs) m h f e o =
    (term_shaped core g.body (AtEnd none_of) (body_scope (length g.parameters + length (binders g.body)) g.parameters) (dest_of g.result) (new_line (within_function core g)) f.0.fits e.0 o.0, bodies_shaped core fs m h f.1 e.1 o.1)

pub last_so : (P : Body → Type 0) (bs : List Body) (b : Body) → AllByRecursion P (bs ++ b ∷ []) → P b
last_so P [] b h = h.0
last_so P (c ∷ bs) b h = last_so P bs b h.1

-- A whole core.
pub formed_shaped : (core : CoreTree) → EachFits core → AllFit core → AreFormed core → AreSingle core → AreShaped core
formed_shaped core each all e o =
    let ty = core.main.parameter in
    let m : Body = record { parameters = ty ∷ []; result = results.One core.main.result; term = core.main.body } in
    let fs : List Body = map body_of core.functions in
    let main : HasShape core.table m.term =
    term_shaped core core.main.body (AtEnd none_of) (body_scope (1 + length (binders core.main.body)) (ty ∷ [])) (dest_of (results.One core.main.result)) (new_line (within_main core)) all.main.fits
    (last_so (λ (b : Body). HasForm FillsNext core.table b.term) fs m e.bodies) (last_so (λ (b : Body). Each IsSingleEntry b.term) fs m o.bodies) in
    record { bodies = bodies_shaped core core.functions m main each e.bodies o.bodies; parameters = e.parameters; single = o.results }
