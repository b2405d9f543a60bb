-- What an expression becomes breaks no rule, where its parts break none: each construct that binds no names and has no branches.
use Rattle.std.proofs.Common.{◌≡◌, ℕ, suc, ◌+◌, ◌<◌, ◌≤◌, Bool, true, false, not, ◌&&◌, ◌==◌, ◌||◌, List, [], ◌∷◌, ◌++◌, length, get_or, Some, None, refl, sym, ap, ◌∙◌, subst, arith, append_assoc, append-nil, length-append}
use Rattle.std.specs.Prelude.{nat_lt}
use Rattle.std.proofs.Math.Seq.{get_or-append_seam}
use Rattle.std.proofs.lemmas.Bool.{eq-eqb, lt-ltb}
use Rattle.gib_base.specs.declared.name.Name.{Name}
use Rattle.gib_types.specs.declared.table.Ty.{Ty}
use Rattle.gib_types.specs.declared.table.Ty.TheVariants.{Whole, Truth, Tree}
use Rattle.gib_types.specs.declared.table.ConId.{ConId}
use Rattle.gib_types.specs.declared.table.TyId.{TyId}
use Rattle.gib_types.specs.Table.{fields_at, owner_at, con_at, scalar_types, tree_types}
use Rattle.gib_types.specs.declared.operator.Operator.{Operator}
use Rattle.gib_syntax.specs.Meaning.{is_scalar, at_fields}
use Rattle.gib_syntax.specs.Tree.{FunctionTree}
use Rattle.gib_syntax.specs.Typing as typing
use Rattle.gib_syntax.specs.Results as results
use Rattle.gib_syntax.specs.Results.{Results}
use Rattle.gib_syntax.specs.Typing.{Globals, one_type}
use Rattle.gib_types.specs.Operators.{operator_type}
use Rattle.gib_core.specs.declared.atom.Variable.{Variable}
use Rattle.gib_core.specs.declared.atom.Atom.{Atom}
use Rattle.gib_core.specs.declared.atom.Kind.TheVariants.{Here}
use Rattle.gib_core.specs.Tree.{Term, Write, Point, CallTerm, Give, Bind, Past, One, Prim, On, var, variables_from, prepend, FunctionTerm, CoreTree}
use Rattle.gib_core.specs.Meaning.{function_at}
use Rattle.gib_core.specs.Inferring.{Scope, Several, ToLine, ToAtom, Code, kind_of, boxed, given, of_line, of_atom, result_of, plain_line, of_plain, several, operation_atom, call_line, call_atom, call_side, scalar_call, call_code, pointed_fields, as_atoms, make_line}
use Rattle.gib_core.specs.Met.{Setting, Line, PastLine, SideLine, PrimLine, WriteLine, PointLine, CallLine, GiveLine, Empty, Open, at, in_side, behind, met, packed_types, field_due, result_place, stands_too}
use Rattle.gib_core.specs.Rules.{Before, same_type, is_nowhere, is_empty, has_room, is_among, type_bound, is_type, has_type, have_types, all_usable, is_other, any_other, is_there, is_of_type, any_cased, further, may_write, are_scalars, same_types, is_packed, gives_packed, result_fits, call_fits, rules, least, type_made, next}
use Rattle.gib_core.specs.Reachable.{all_reached}
use Rattle.gib_core.specs.Ordered.{AreFit}
use Rattle.gib_infer.proofs.Fits.{ScopeFits, all_fit_more, scope_more, variables_length}
use Rattle.gib_infer.proofs.Ordered.{CodeOrdered, LineOrdered, AtomOrdered, SeveralOrdered, AllCodes, several_ordered}
use Rattle.gib_infer.proofs.Ready.{CanUse, CanUseAll, Alike, alike_same, alike_more, use_all_alike, Ready, PlaceFor, behind_all-append, met-prepend, Clean, clean_then, Runs, runs_nothing, runs_then, then_all, then_all-append, line_then, ready_behind, LineBuilt, SeveralBuilt, LineOk, SideOk, AtomOk, CodeBuilt, AllBuilt}
use Rattle.gib_infer.proofs.Sides.{same_type-refl, bound_past, bound_here, not_bound, alike_scope, alike_bound, can_bound, alike_inside, ready_inside, place_inside, whole_inside, side_runs, side_can}
use Rattle.gib_core.proofs.Lining.{prepend-append}
use Rattle.gib_core.proofs.Along.{behind_all, met_all, own_atoms}

-- No rule of a few is broken.

pub least_two : (j k : ℕ) {x y : Bool} → x ≡ false → y ≡ false → least ((j, x) ∷ (k, y) ∷ []) ≡ None
least_two j k e f = λ i. least ((j, e i) ∷ (k, f i) ∷ [])

pub least_three : (j k l : ℕ) {x y z : Bool} → x ≡ false → y ≡ false → z ≡ false → least ((j, x) ∷ (k, y) ∷ (l, z) ∷ []) ≡ None
least_three j k l e f g = λ i. least ((j, e i) ∷ (k, f i) ∷ (l, g i) ∷ [])

pub least_four : (j k l m : ℕ) {x y z w : Bool} → x ≡ false → y ≡ false → z ≡ false → w ≡ false → least ((j, x) ∷ (k, y) ∷ (l, z) ∷ (m, w) ∷ []) ≡ None
least_four j k l m e f g h = λ i. least ((j, e i) ∷ (k, f i) ∷ (l, g i) ∷ (m, h i) ∷ [])

-- What can be used keeps the rules on atoms.

pub can_have : (s : Setting) (b : Before) (x : Atom) (ty due : Ty) → CanUse s b x ty → due ≡ ty → has_type b x due ≡ true
can_have s b x ty due h e = ap (λ o. is_type o due) h.of_type ∙ ap (same_type ty) e ∙ same_type-refl ty

pub all_apart : (s : Setting) (b : Before) (xs : List Atom) (ts : List Ty) → CanUseAll s b xs ts → any_other (all_reached s) xs ≡ false
all_apart s b [] [] h = refl
all_apart s b [] (t ∷ ts) h = absurd h
all_apart s b (x ∷ xs) [] h = absurd h
all_apart s b (x ∷ xs) (t ∷ ts) h = let e : is_other (all_reached s) x ≡ false = h.0.other in (λ i. e i || all_apart s b xs ts h.1 i)

pub all_can : (s : Setting) (b : Before) (xs : List Atom) (ts : List Ty) → CanUseAll s b xs ts → all_usable (all_reached s) xs ≡ true
all_can s b [] [] h = refl
all_can s b [] (t ∷ ts) h = absurd h
all_can s b (x ∷ xs) [] h = absurd h
all_can s b (x ∷ xs) (t ∷ ts) h = (λ i. h.0.usable i && all_can s b xs ts h.1 i)

pub all_have : (s : Setting) (b : Before) (xs : List Atom) (ts : List Ty) → CanUseAll s b xs ts → have_types b xs ts ≡ true
all_have s b [] [] h = refl
all_have s b [] (t ∷ ts) h = absurd h
all_have s b (x ∷ xs) [] h = absurd h
all_have s b (x ∷ xs) (t ∷ ts) h = let e = can_have s b x t t h.0 refl in (λ i. e i && all_have s b xs ts h.1 i)

pub all_append : (s : Setting) (b : Before) (xs ys : List Atom) (ts us : List Ty) → CanUseAll s b xs ts → CanUseAll s b ys us → CanUseAll s b (xs ++ ys) (ts ++ us)
all_append s b [] ys [] us p q = q
all_append s b [] ys (t ∷ ts) us p q = absurd p
all_append s b (x ∷ xs) ys [] us p q = absurd p
all_append s b (x ∷ xs) ys (t ∷ ts) us p q = (p.0, all_append s b xs ys ts us p.1 q)

all_long : (s : Setting) (b : Before) (xs : List Atom) (ts : List Ty) → CanUseAll s b xs ts → length xs ≡ length ts
all_long s b [] [] h = refl
all_long s b [] (t ∷ ts) h = absurd h
all_long s b (x ∷ xs) [] h = absurd h
all_long s b (x ∷ xs) (t ∷ ts) h = ap suc (all_long s b xs ts h.1)

-- The place of a value.

nowhere : (ty : Ty) → is_scalar ty ≡ true → is_nowhere (result_place (results.One ty)) ≡ true
nowhere Whole e = refl
nowhere Truth e = refl
nowhere (Tree t) e = absurd cc

pub place_same : (given : Results Ty) (s new : Setting) → new.destination ≡ s.destination → new.due ≡ s.due → PlaceFor given s → PlaceFor given new
place_same given s new e f h = record { destination = e ∙ h.destination; due = f ∙ h.due }

module _ (core : CoreTree) where
  -- A line that binds nothing and is on no variable.
  pub end_clean : (n k : ℕ) (s : Setting) (b : Before) (line : Line) → least (rules core b (all_reached s) line) ≡ None → next core.table b line ≡ b → Clean core n k b (at s line ∷ [])
  end_clean n k s b line e same = record {
    reachable = (e, tt);
    below = λ x h. ap (λ (z : Before). type_bound z.bound x) same;
    above = λ x h. ap (λ (z : Before). type_bound z.bound x) same;
    uncased = λ x h. ap (λ (z : Before). is_among z.cased x) same;
  }

  -- What holds behind bindings, and then more bindings.
  pub behind_both : (P : Setting → Before → Type 0) (s : Setting) (b : Before) (xs ys : List Bind)
      → P (behind_all (behind_all s xs) ys) (then_all core (behind_all s xs) (then_all core s b xs) ys) → P (behind_all s (xs ++ ys)) (then_all core s b (xs ++ ys))
  behind_both P s b xs ys h =
      subst (λ (z : Setting). P z (then_all core s b (xs ++ ys))) (sym (behind_all-append s xs ys))
      (subst (P (behind_all (behind_all s xs) ys)) (sym (then_all-append core s b xs ys)) h)

  -- Results.

  pub give_clean : (n k : ℕ) (s : Setting) (b : Before) (x : Atom) (ty : Ty) → is_scalar ty ≡ true → PlaceFor (results.One ty) s → CanUse s b x ty → Clean core n k b (met core.table s (Give x))
  give_clean n k s b x ty scalar place h =
      let there : is_nowhere s.destination ≡ true = ap is_nowhere place.destination ∙ nowhere ty scalar in
      let typed = can_have s b x ty s.due h place.due in
      let other : is_other (all_reached s) x ≡ false = h.other in
      end_clean n k s b (GiveLine x) (least_three 4 8 9 other (ap not h.usable) (λ i. not (there i && typed i))) refl

  pub point_least : (s : Setting) (b : Before) (x : Atom) (ty : Ty) → s.destination ≡ Empty → s.due ≡ ty → CanUse s b x ty → least (rules core b (all_reached s) (PointLine x)) ≡ None
  point_least s b x ty e due h =
      let typed = can_have s b x ty s.due h due in
      let other : is_other (all_reached s) x ≡ false = h.other in
      least_four 4 6 8 9 other (ap (λ d. not (is_empty d)) e) (ap not h.usable) (ap not typed)

  pub result_clean : (ty : Ty) (n k : ℕ) (s : Setting) (b : Before) (x : Atom) → PlaceFor (results.One ty) s → CanUse s b x ty → Clean core n k b (met core.table s (result_of ty x))
  result_clean Whole n k s b x place h = give_clean n k s b x Whole refl place h
  result_clean Truth n k s b x place h = give_clean n k s b x Truth refl place h
  result_clean (Tree t) n k s b x place h = end_clean n k s b (PointLine x) (point_least s b x (Tree t) place.destination place.due h) refl

  module _ (functions : List FunctionTree) where
    abbrev globals : Globals
    globals = record { table = core.table; functions = functions }

    -- A line that is bound to a variable.
    pub boxed_ok : (line : ToLine) (ty : Ty) (known : typing.Scope) (sc : Scope) → ((n : ℕ) → ScopeFits n sc → LineOrdered globals n (line sc n)) → ((n : ℕ) → (line sc n).ty ≡ ty)
        → SideOk core line ty known sc → AtomOk core (boxed line) ty known sc
    boxed_ok line ty known sc order typed ok n m s b ready le =
        let l = line sc (n + 1) in
        let e : l.ty ≡ ty = typed (n + 1) in
        let inner = in_side core.table s (kind_of l.ty) l.ty in
        let head = next core.table b (SideLine (kind_of l.ty) (record { 0 = n }) l.ty) in
        let up = (order (n + 1) (scope_more n (n + 1) sc (omega arith) ready.fits)).grows in
        let built = ok (n + 1) m inner head (ready_inside core n m l.ty known sc s b ready) le (subst (λ (t : Ty). PlaceFor (results.One t) inner) e (place_inside core s l.ty)) (whole_inside core s l.ty ∙ ap is_scalar e) in
        record {
          runs = side_runs core n m l.fresh l.ty l.term known sc s b ready (omega arith) (omega arith) built.clean;
          can = subst (CanUse (behind_all s (boxed line sc n).binds) (then_all core s b (boxed line sc n).binds) (var n)) e
              (side_can core n l.fresh l.ty l.term s b (ready.apart (record { 0 = n }) (omega arith) (omega arith)) built.clean);
        }

    -- A scalar that is given.
    pub given_ok : (atom : ToAtom) (ty : Ty) (known : typing.Scope) (sc : Scope) → ((n : ℕ) → ScopeFits n sc → AtomOrdered globals n (atom sc n)) → is_scalar ty ≡ true
        → AtomOk core atom ty known sc → LineOk core (given atom) (results.One ty) known sc
    given_ok atom ty known sc order scalar ok n m s b ready le place =
        let x = atom sc n in
        let h = ok n m s b ready le in
        let s1 = behind_all s x.binds in
        let b1 = then_all core s b x.binds in
        record {
          clean = line_then core n x.fresh x.fresh s b x.binds (Give x.atom) h.runs
              (give_clean x.fresh x.fresh s1 b1 x.atom ty scalar (place_same (results.One ty) s s1 h.runs.destination h.runs.due place) h.can) (order n ready.fits).grows (omega arith);
        }

    pub line_built : (line : ToLine) (given : Results Ty) (known : typing.Scope) (sc : Scope) → CodeOrdered globals (of_line line) sc → ((n : ℕ) → (line sc n).ty ≡ one_type given) → LineOk core line given known sc
        → CodeBuilt core functions (of_line line) given known sc
    line_built line (results.One ty) known sc order typed ok =
        let box = boxed_ok line ty known sc order.line typed (λ n m s b ready le place whole. ok n m s b ready le place) in
        record {
          order = order;
          line_type = typed;
          side_type = typed;
          atom_type = λ n. typed (n + 1);
          bound_type = λ n. typed (n + 1);
          line = ok;
          side = λ n m s b ready le place whole. ok n m s b ready le place;
          atom = box;
          bound = box;
        }
    line_built line (results.Several types) known sc order typed ok = record {
      order = order;
      line_type = typed;
      side_type = typed;
      atom_type = λ n. typed (n + 1);
      bound_type = λ n. typed (n + 1);
      line = ok;
      side = tt;
      atom = tt;
      bound = tt;
    }

    pub atom_built : (atom : ToAtom) (ty : Ty) (known : typing.Scope) (sc : Scope) → CodeOrdered globals (of_atom atom) sc → is_scalar ty ≡ true → ((n : ℕ) → (atom sc n).ty ≡ ty) → AtomOk core atom ty known sc
        → CodeBuilt core functions (of_atom atom) (results.One ty) known sc
    atom_built atom ty known sc order scalar typed ok =
        let line = given_ok atom ty known sc order.atom scalar ok in
        record {
          order = order;
          line_type = typed;
          side_type = typed;
          atom_type = typed;
          bound_type = typed;
          line = line;
          side = λ n m s b ready le place whole. line n m s b ready le place;
          atom = ok;
          bound = ok;
        }

    -- A variable or literal.
    pub plain_built : (type_in : Scope → Ty) (atom_in : Scope → Atom) (ty : Ty) (known : typing.Scope) (sc : Scope) → CodeOrdered globals (of_plain type_in atom_in) sc → type_in sc ≡ ty
        → ((n m : ℕ) (s : Setting) (b : Before) → Ready n m known sc s b → CanUse s b (atom_in sc) ty) → CodeBuilt core functions (of_plain type_in atom_in) (results.One ty) known sc
    plain_built type_in atom_in ty known sc order typed can =
        let line : LineOk core (plain_line type_in atom_in) (results.One ty) known sc =
        λ n m s b ready le place. record { clean = subst (λ (t : Ty). Clean core n n b (met core.table s (result_of t (atom_in sc)))) (sym typed) (result_clean ty n n s b (atom_in sc) place (can n m s b ready)) } in
        let side : SideOk core (plain_line type_in atom_in) ty known sc = λ n m s b ready le place whole. line n m s b ready le place in
        record {
          order = order;
          line_type = λ n. typed;
          side_type = λ n. typed;
          atom_type = λ n. typed;
          bound_type = λ n. typed;
          line = line;
          side = side;
          atom = λ n m s b ready le. record { runs = runs_nothing core n s b; can = can n m s b ready };
          bound = boxed_ok (plain_line type_in atom_in) ty known sc order.line (λ n. typed) side;
        }

    -- An operation.

    prim_least : (f : Operator) (z : Variable) (x y : Atom) (s : Setting) (b : Before) → CanUse s b x Whole → CanUse s b y Whole → type_bound b.bound z ≡ None → least (rules core b (all_reached s) (PrimLine z f x y)) ≡ None
    prim_least f z x y s b h k new =
        let both : CanUseAll s b (x ∷ y ∷ []) (Whole ∷ Whole ∷ []) = (h, (k, tt)) in
        let usable = all_can s b (x ∷ y ∷ []) (Whole ∷ Whole ∷ []) both in
        let fresh = not_bound b.bound z new in
        least_three 4 8 9 (all_apart s b (x ∷ y ∷ []) (Whole ∷ Whole ∷ []) both) (λ i. fresh i || not (usable i)) (ap not (all_have s b (x ∷ y ∷ []) (Whole ∷ Whole ∷ []) both))

    prim_runs : (n : ℕ) (f : Operator) (x y : Atom) (s : Setting) (b : Before) → CanUse s b x Whole → CanUse s b y Whole → type_bound b.bound (record { 0 = n }) ≡ None
        → Runs core n (n + 1) s b (Prim (record { 0 = n }) f x y ∷ [])
    prim_runs n f x y s b h k new =
        let z : Variable = record { 0 = n } in
        let bind = Prim z f x y in
        let after = next core.table b (PrimLine z f x y) in
        record {
          clean = record {
            reachable = (prim_least f z x y s b h k new, tt);
            below = λ v lt. bound_past b.bound z v (operator_type f) (λ e. omega (arith, lt, e));
            above = λ v le. bound_past b.bound z v (operator_type f) (λ e. omega (arith, le, e));
            uncased = λ v le. refl;
          };
          alike = alike_bound n z s (behind s bind) b after (omega arith) refl refl (λ v lt. bound_past b.bound z v (operator_type f) (λ e. omega (arith, lt, e)));
          others = refl;
          destination = refl;
          due = refl;
        }

    pub operation_ok : (f : Operator) (left right : ToAtom) (known : typing.Scope) (sc : Scope) → ((n : ℕ) → ScopeFits n sc → AtomOrdered globals n (left sc n)) → ((n : ℕ) → ScopeFits n sc → AtomOrdered globals n (right sc n))
        → AtomOk core left Whole known sc → AtomOk core right Whole known sc → AtomOk core (operation_atom f left right) (operator_type f) known sc
    operation_ok f left right known sc order order' ok ok' n m s b ready le =
        let x = left sc n in
        let h = order n ready.fits in
        let up = h.grows in
        let y = right sc x.fresh in
        let h' = order' x.fresh (scope_more n x.fresh sc up ready.fits) in
        let up' = h'.grows in
        let p = ok n m s b ready (omega (arith, up', le)) in
        let s1 = behind_all s x.binds in
        let b1 = then_all core s b x.binds in
        let ready1 = ready_behind core n x.fresh m known sc s b x.binds ready p.runs up in
        let q = ok' x.fresh m s1 b1 ready1 (omega (arith, le)) in
        let s2 = behind_all s1 y.binds in
        let b2 = then_all core s1 b1 y.binds in
        let ready2 = ready_behind core x.fresh y.fresh m known sc s1 b1 y.binds ready1 q.runs up' in
        let z : Variable = record { 0 = y.fresh } in
        let bind = Prim z f x.atom y.atom in
        let after = next core.table b2 (PrimLine z f x.atom y.atom) in
        let last = prim_runs y.fresh f x.atom y.atom s2 b2 (q.runs.alike.can x.atom Whole h.fit p.can) q.can (ready2.new z (omega arith) (omega (arith, le))) in
        let can = can_bound z (operator_type f) s2 (behind s2 bind) after refl refl (ready2.apart z (omega arith) (omega (arith, le))) (bound_here b2.bound z z (operator_type f) refl) in
        record {
          runs = runs_then core n x.fresh (y.fresh + 1) s b x.binds (y.binds ++ bind ∷ []) p.runs
              (runs_then core x.fresh y.fresh (y.fresh + 1) s1 b1 y.binds (bind ∷ []) q.runs last up' (omega arith)) up (omega (arith, up'));
          can = behind_both (λ z' a. CanUse z' a (var y.fresh) (operator_type f)) s b x.binds (y.binds ++ bind ∷ [])
              (behind_both (λ z' a. CanUse z' a (var y.fresh) (operator_type f)) s1 b1 y.binds (bind ∷ []) can);
        }

    -- Arguments, one after another.

    pub codes_ordered : (cs : List Code) (ts : List Ty) (known : typing.Scope) (sc : Scope) → AllBuilt core functions cs ts known sc → AllCodes globals cs sc
    codes_ordered [] [] known sc h = tt
    codes_ordered [] (t ∷ ts) known sc h = absurd h
    codes_ordered (c ∷ cs) [] known sc h = absurd h
    codes_ordered (c ∷ cs) (t ∷ ts) known sc h = (h.0.order, codes_ordered cs ts known sc h.1)

    pub several_fits : (cs : List Code) (ts : List Ty) (known : typing.Scope) (sc : Scope) → AllBuilt core functions cs ts known sc → (n : ℕ) → ScopeFits n sc → SeveralOrdered globals n (several cs sc n)
    several_fits cs ts known sc h n f = several_ordered globals cs sc (codes_ordered cs ts known sc h) n f

    pub several_ok : (cs : List Code) (ts : List Ty) (known : typing.Scope) (sc : Scope) → AllBuilt core functions cs ts known sc → (n m : ℕ) (s : Setting) (b : Before) → Ready n m known sc s b
        → (several cs sc n).fresh ≤ m → SeveralBuilt core n (several cs sc n) ts s b
    several_ok [] [] known sc h n m s b ready le = record { runs = runs_nothing core n s b; can = tt }
    several_ok [] (t ∷ ts) known sc h n m s b ready le = absurd h
    several_ok (c ∷ cs) [] known sc h n m s b ready le = absurd h
    several_ok (c ∷ cs) (t ∷ ts) known sc h n m s b ready le =
        let x = c.atom sc n in
        let o = h.0.order.atom n ready.fits in
        let up = o.grows in
        let up' = (several_fits cs ts known sc h.1 x.fresh (scope_more n x.fresh sc up ready.fits)).grows in
        let p = h.0.atom n m s b ready (omega (arith, up', le)) in
        let s1 = behind_all s x.binds in
        let b1 = then_all core s b x.binds in
        let r = several cs sc x.fresh in
        let q = several_ok cs ts known sc h.1 x.fresh m s1 b1 (ready_behind core n x.fresh m known sc s b x.binds ready p.runs up) le in
        record {
          runs = runs_then core n x.fresh r.fresh s b x.binds r.binds p.runs q.runs up up';
          can = behind_both (λ z a. CanUseAll z a (x.atom ∷ r.atoms) (t ∷ ts)) s b x.binds r.binds (q.runs.alike.can x.atom t o.fit p.can, q.can);
        }

    -- Calls.

    packed_place : (given : Results Ty) → (is_packed given && not (is_empty (result_place given))) ≡ false
    packed_place (results.One Whole) = refl
    packed_place (results.One Truth) = refl
    packed_place (results.One (Tree t)) = refl
    packed_place (results.Several types) = refl

    pub same_types-refl : (types : List Ty) → same_types types types ≡ true
    same_types-refl [] = refl
    same_types-refl (t ∷ types) = (λ i. same_type-refl t i && same_types-refl types i)

    -- A result fits the place of such a one; a scalar where a scalar's whole term is due.
    abbrev Fitting : Bool → Results Ty → Type 0
    Fitting whole given = result_fits (result_place given) (one_type given) whole given ≡ true

    scalar_fits : (ty : Ty) (whole : Bool) → whole ≡ true → Fitting whole (results.One ty)
    scalar_fits ty whole e = (λ i. same_type-refl ty i && (not (is_scalar ty) || e i)) ∙ or_true (not (is_scalar ty))
      where
        or_true : (b : Bool) → (b || true) ≡ true
        or_true true = refl
        or_true false = refl

    tree_fits : (t : TyId) (whole : Bool) → Fitting whole (results.One (Tree t))
    tree_fits t whole = (λ i. same_type-refl (Tree t) i && true)

    parts_fit : (types : List Ty) (whole : Bool) → Fitting whole (results.Several types)
    parts_fit types whole = same_types-refl types

    -- A call of a function that is there, with arguments of the types of its parameters.
    call_least : (f : Name) (fn : FunctionTerm) (xs : List Atom) (given : Results Ty) (s : Setting) (b : Before) → function_at core.functions f.0 ≡ Some fn → fn.result ≡ given → PlaceFor given s → Fitting s.whole given
        → CanUseAll s b xs fn.parameters → least (rules core b (all_reached s) (CallLine f xs)) ≡ None
    call_least f fn xs given s b there result place fits h =
        let packed : (gives_packed (function_at core.functions f.0) && not (is_empty s.destination)) ≡ false =
        (λ i. gives_packed (there i) && not (is_empty (place.destination i))) ∙ ap (λ g. is_packed g && not (is_empty (result_place given))) result ∙ packed_place given in
        let types = all_have s b xs fn.parameters h in
        let here : result_fits s.destination s.due s.whole fn.result ≡ true = (λ i. result_fits (place.destination i) (place.due i) s.whole (result i)) ∙ fits in
        let fit : call_fits b (all_reached s) xs (function_at core.functions f.0) ≡ true = ap (call_fits b (all_reached s) xs) there ∙ (λ i. types i && here i) in
        least_four 4 6 8 9 (all_apart s b xs fn.parameters h) packed (ap not (all_can s b xs fn.parameters h)) (ap not fit)

    call_clean : (n k : ℕ) (f : Name) (fn : FunctionTerm) (xs : List Atom) (given : Results Ty) (s : Setting) (b : Before) → function_at core.functions f.0 ≡ Some fn → fn.result ≡ given → PlaceFor given s → Fitting s.whole given
        → CanUseAll s b xs fn.parameters → Clean core n k b (met core.table s (CallTerm f xs))
    call_clean n k f fn xs given s b there result place fits h = end_clean n k s b (CallLine f xs) (call_least f fn xs given s b there result place fits h) refl

    -- A call in result place, of a function that gives no scalar.
    call_line_ok : (f : Name) (fn : FunctionTerm) (cs : List Code) (ty : Ty) (given : Results Ty) (known : typing.Scope) (sc : Scope) → function_at core.functions f.0 ≡ Some fn → fn.result ≡ given
        → ((whole : Bool) → Fitting whole given) → AllBuilt core functions cs fn.parameters known sc → LineOk core (λ sc n. call_line ty f (several cs sc n)) given known sc
    call_line_ok f fn cs ty given known sc there result fits h n m s b ready le place =
        let r = several cs sc n in
        let up = (several_fits cs fn.parameters known sc h n ready.fits).grows in
        let q = several_ok cs fn.parameters known sc h n m s b ready le in
        let s1 = behind_all s r.binds in
        let b1 = then_all core s b r.binds in
        record {
          clean = line_then core n r.fresh r.fresh s b r.binds (CallTerm f r.atoms) q.runs
              (call_clean r.fresh r.fresh f fn r.atoms given s1 b1 there result (place_same given s s1 q.runs.destination q.runs.due place) (fits s1.whole) q.can) up (omega arith);
        }

    -- A scalar call that is bound.
    abbrev bound_call : Ty → Name → List Code → ToAtom
    bound_call ty f cs sc n =
        let r = several cs sc n in
        record { fresh = r.fresh + 1; binds = r.binds ++ One (On (kind_of ty) (record { 0 = r.fresh }) ty (CallTerm f r.atoms)) ∷ []; atom = var r.fresh; ty = ty }

    bound_call_ok : (f : Name) (fn : FunctionTerm) (cs : List Code) (ty : Ty) (known : typing.Scope) (sc : Scope) → function_at core.functions f.0 ≡ Some fn → fn.result ≡ results.One ty → is_scalar ty ≡ true
        → AllBuilt core functions cs fn.parameters known sc → AtomOk core (bound_call ty f cs) ty known sc
    bound_call_ok f fn cs ty known sc there result scalar h n m s b ready le =
        let r = several cs sc n in
        let o = several_fits cs fn.parameters known sc h n ready.fits in
        let up = o.grows in
        let q = several_ok cs fn.parameters known sc h n m s b ready (omega (arith, le)) in
        let s1 = behind_all s r.binds in
        let b1 = then_all core s b r.binds in
        let ready1 = ready_behind core n r.fresh m known sc s b r.binds ready q.runs up in
        let call = CallTerm f r.atoms in
        let bind = One (On (kind_of ty) (record { 0 = r.fresh }) ty call) in
        let inner = in_side core.table s1 (kind_of ty) ty in
        let head = next core.table b1 (SideLine (kind_of ty) (record { 0 = r.fresh }) ty) in
        let clean = call_clean (r.fresh + 1) (r.fresh + 1) f fn r.atoms (results.One ty) inner head there result (place_inside core s1 ty) (scalar_fits ty inner.whole (whole_inside core s1 ty ∙ scalar))
        (use_all_alike r.atoms fn.parameters (alike_inside core r.fresh ty s1 b1) o.fit q.can) in
        let runs = side_runs core r.fresh m (r.fresh + 1) ty call known sc s1 b1 ready1 (omega (arith, le)) (omega arith) clean in
        let can = side_can core r.fresh (r.fresh + 1) ty call s1 b1 (ready1.apart (record { 0 = r.fresh }) (omega arith) (omega (arith, le))) clean in
        record {
          runs = runs_then core n r.fresh (r.fresh + 1) s b r.binds (bind ∷ []) q.runs runs up (omega arith);
          can = behind_both (λ z a. CanUse z a (var r.fresh) ty) s b r.binds (bind ∷ []) can;
        }

    -- A scalar call that is a side.
    call_side_ok : (f : Name) (fn : FunctionTerm) (cs : List Code) (ty : Ty) (known : typing.Scope) (sc : Scope) → function_at core.functions f.0 ≡ Some fn → fn.result ≡ results.One ty → is_scalar ty ≡ true
        → AllBuilt core functions cs fn.parameters known sc → LineOk core (given (λ sc n. call_atom ty f (several cs sc n))) (results.One ty) known sc
        → SideOk core (λ sc n. call_side ty f (several cs sc n) (several cs sc n).binds) ty known sc
    call_side_ok f fn cs ty known sc there result scalar h line n m s b ready le place whole = go (several cs sc n).binds refl le
      where
        go : (bs : List Bind) → (several cs sc n).binds ≡ bs → (call_side ty f (several cs sc n) bs).fresh ≤ m → LineBuilt core n (call_side ty f (several cs sc n) bs) s b
        go [] e le =
            let r = several cs sc n in
            let q = several_ok cs fn.parameters known sc h n m s b ready le in
            let can : CanUseAll s b r.atoms fn.parameters = subst (λ (z : List Bind). CanUseAll (behind_all s z) (then_all core s b z) r.atoms fn.parameters) e q.can in
            record { clean = call_clean n r.fresh f fn r.atoms (results.One ty) s b there result place (scalar_fits ty s.whole (whole ∙ scalar)) can }
        go (x ∷ bs) e le = record { clean = (line n m s b ready le place).clean }

    scalar_built : (f : Name) (fn : FunctionTerm) (cs : List Code) (ty : Ty) (known : typing.Scope) (sc : Scope) → CodeOrdered globals (scalar_call ty f cs) sc → function_at core.functions f.0 ≡ Some fn → fn.result ≡ results.One ty → is_scalar ty ≡ true
        → AllBuilt core functions cs fn.parameters known sc → AtomOk core (λ sc n. call_atom ty f (several cs sc n)) ty known sc → CodeBuilt core functions (scalar_call ty f cs) (results.One ty) known sc
    scalar_built f fn cs ty known sc order there result scalar h ok =
        let line = given_ok (λ sc n. call_atom ty f (several cs sc n)) ty known sc order.atom scalar ok in
        record {
          order = order;
          line_type = λ n. refl;
          side_type = λ n. typed (several cs sc n) (several cs sc n).binds;
          atom_type = λ n. refl;
          bound_type = λ n. refl;
          line = line;
          side = call_side_ok f fn cs ty known sc there result scalar h line;
          atom = ok;
          bound = ok;
        }
      where
        typed : (r : Several) (bs : List Bind) → (call_side ty f r bs).ty ≡ ty
        typed r [] = refl
        typed r (x ∷ bs) = refl

    -- A call of a function that is there.
    pub call_built : (given : Results Ty) (f : Name) (fn : FunctionTerm) (cs : List Code) (known : typing.Scope) (sc : Scope) → CodeOrdered globals (call_code given f cs) sc → function_at core.functions f.0 ≡ Some fn → fn.result ≡ given
        → AllBuilt core functions cs fn.parameters known sc → CodeBuilt core functions (call_code given f cs) given known sc
    call_built (results.One Whole) f fn cs known sc order there result h = scalar_built f fn cs Whole known sc order there result refl h (bound_call_ok f fn cs Whole known sc there result refl h)
    call_built (results.One Truth) f fn cs known sc order there result h = scalar_built f fn cs Truth known sc order there result refl h (bound_call_ok f fn cs Truth known sc there result refl h)
    call_built (results.One (Tree t)) f fn cs known sc order there result h =
        line_built (λ sc n. call_line (Tree t) f (several cs sc n)) (results.One (Tree t)) known sc order (λ n. refl) (call_line_ok f fn cs (Tree t) (results.One (Tree t)) known sc there result (tree_fits t) h)
    call_built (results.Several types) f fn cs known sc order there result h =
        line_built (λ sc n. call_line Whole f (several cs sc n)) (results.Several types) known sc order (λ n. refl) (call_line_ok f fn cs Whole (results.Several types) known sc there result (parts_fit types) h)

    -- A constructor.

    -- Packed fields that stand, one after another, behind those that stood.
    record Stood (h : Variable) (k : ConId) (n : ℕ) (standing : List Variable) (xs : List Atom) (ts : List Ty) (s : Setting) (b : Before) : Type 0 where
      pub clean : Clean core n (n + length xs) b (met_all core.table s (pointed_fields n ts xs))
      pub cased : (then_all core s b (pointed_fields n ts xs)).cased ≡ b.cased
      pub destination : (behind_all s (pointed_fields n ts xs)).destination ≡ Open h k (standing ++ variables_from n xs)
      pub alike : Alike n s (behind_all s (pointed_fields n ts xs)) b (then_all core s b (pointed_fields n ts xs))
      pub can : CanUseAll (behind_all s (pointed_fields n ts xs)) (then_all core s b (pointed_fields n ts xs)) (as_atoms (variables_from n xs)) ts

    room : (k : ConId) (standing : List Variable) (earlier ts : List Ty) (t : Ty) → packed_types core.table k ≡ earlier ++ t ∷ ts → length earlier ≡ length standing
        → nat_lt (length standing) (length (packed_types core.table k)) ≡ true
    room k standing earlier ts t e long =
        let all = ap length e ∙ length-append earlier (t ∷ ts) in
        lt-ltb (length standing) (length (packed_types core.table k)) (omega arith)

    due_here : (k : ConId) (standing : List Variable) (earlier ts : List Ty) (t : Ty) → packed_types core.table k ≡ earlier ++ t ∷ ts → length earlier ≡ length standing
        → get_or (packed_types core.table k) (length standing) Whole ≡ t
    due_here k standing earlier ts t e long = (λ i. get_or (e i) (sym long i) Whole) ∙ get_or-append_seam earlier t ts Whole

    here_least : (x : Variable) (t : Ty) (s : Setting) (b : Before) → has_room core.table s.destination ≡ true → field_due core.table s.destination ≡ t → type_bound b.bound x ≡ None
        → least (rules core b (all_reached s) (SideLine Here x t)) ≡ None
    here_least x t s b has due new =
        let same : same_type t (field_due core.table s.destination) ≡ true = ap (same_type t) due ∙ same_type-refl t in
        least_three 2 8 9 (ap not has) (not_bound b.bound x new) (ap not same)

    fields_stand : (h : Variable) (k : ConId) (n : ℕ) (standing : List Variable) (earlier ts : List Ty) (xs : List Atom) (s : Setting) (b : Before) → s.destination ≡ Open h k standing
        → packed_types core.table k ≡ earlier ++ ts → length earlier ≡ length standing → CanUseAll s b xs ts → AreFit n xs
        → ((x : Variable) → n ≤ x.0 → x.0 < n + length xs → type_bound b.bound x ≡ None) → ((x : Variable) → n ≤ x.0 → x.0 < n + length xs → is_among s.others x ≡ false)
        → Stood h k n standing xs ts s b
    fields_stand h k n standing earlier [] [] s b place types long can fit new apart = record {
      clean = record { reachable = tt; below = λ x lo. refl; above = λ x hi. refl; uncased = λ x hi. refl };
      cased = refl;
      destination = place ∙ ap (Open h k) (sym (append-nil standing));
      alike = alike_same n s b;
      can = tt;
    }
    fields_stand h k n standing earlier (t ∷ ts) [] s b place types long can fit new apart = absurd can
    fields_stand h k n standing earlier [] (x ∷ xs) s b place types long can fit new apart = absurd can
    fields_stand h k n standing earlier (t ∷ ts) (x ∷ xs) s b place types long can fit new apart =
        let v : Variable = record { 0 = n } in
        let side = On Here v t (Point x) in
        let s1 = behind s (One side) in
        let inner = in_side core.table s Here t in
        let b1 = next core.table b (SideLine Here v t) in
        let has : has_room core.table s.destination ≡ true = ap (has_room core.table) place ∙ room k standing earlier ts t types long in
        let due : field_due core.table s.destination ≡ t = ap (field_due core.table) place ∙ due_here k standing earlier ts t types long in
        let apart_here : is_among s.others v ≡ false = apart v (omega arith) (omega arith) in
        let first = here_least v t s b has due (new v (omega arith) (omega arith)) in
        let past : (y : Variable) → (n ≡ y.0 → ⊥) → type_bound b1.bound y ≡ type_bound b.bound y = λ y ne. bound_past b.bound v y t ne in
        let like : Alike n s inner b b1 = alike_scope n s inner b b1 refl (λ y lt. refl) (λ y lt. past y (λ z. omega (arith, lt, z))) in
        let second = point_least inner b1 x t refl due (like.can x t fit.0 can.0) in
        let out : Alike n s s1 b b1 = alike_bound n v s s1 b b1 (omega arith) refl refl (λ y lt. past y (λ z. omega (arith, lt, z))) in
        let place' : s1.destination ≡ Open h k (standing ++ v ∷ []) = ap (stands_too Here v) place in
        let e1 = length-append earlier (t ∷ []) in
        let e2 = length-append standing (v ∷ []) in
        let r = fields_stand h k (n + 1) (standing ++ v ∷ []) (earlier ++ t ∷ []) ts xs s1 b1 place' (types ∙ sym (append_assoc earlier (t ∷ []) ts)) (omega arith)
        (use_all_alike xs ts out fit.1 can.1) (all_fit_more n (n + 1) xs (omega arith) fit.1)
        (λ y lo hi. past y (λ z. omega (arith, lo, z)) ∙ new y (omega (arith, lo)) (omega (arith, hi))) (λ y lo hi. apart y (omega (arith, lo)) (omega (arith, hi))) in
        let mine = can_bound v t s s1 b1 refl refl apart_here (bound_here b.bound v v t refl) in
        record {
          clean = record {
            reachable = (first, (second, r.clean.reachable));
            below = λ y lo. r.clean.below y (omega (arith, lo)) ∙ past y (λ z. omega (arith, lo, z));
            above = λ y hi. r.clean.above y (omega (arith, hi)) ∙ past y (λ z. omega (arith, hi, z));
            uncased = λ y hi. r.clean.uncased y (omega (arith, hi));
          };
          cased = r.cased;
          destination = r.destination ∙ ap (Open h k) (append_assoc standing (v ∷ []) (variables_from (n + 1) xs));
          alike = alike_more out r.alike (omega arith);
          can = (r.alike.can (var n) t (omega arith) mine, r.can);
        }

    -- The write.

    none_cased : {A : Type 0} (cased : List Variable) (n : ℕ) (xs : List A) → ((x : Variable) → n ≤ x.0 → is_among cased x ≡ false) → any_cased cased (variables_from n xs) ≡ false
    none_cased cased n [] h = refl
    none_cased cased n (x ∷ xs) h = let e = h (record { 0 = n }) (omega arith) in (λ i. e i || none_cased cased (n + 1) xs (λ y lo. h y (omega (arith, lo))) i)

    further_cased : {A : Type 0} (cased : List Variable) (n : ℕ) (xs : List A) → ((x : Variable) → n ≤ x.0 → is_among cased x ≡ false) → any_cased cased (further (variables_from n xs)) ≡ false
    further_cased cased n [] h = refl
    further_cased cased n (x ∷ xs) h = none_cased cased (n + 1) xs (λ y lo. h y (omega (arith, lo)))

    write_least : (h : Variable) (k : ConId) (n : ℕ) (ss ps : List Atom) (ts : List Ty) (s : Setting) (b : Before) → s.destination ≡ Open h k (variables_from n ps) → length ps ≡ length (packed_types core.table k)
        → ((x : Variable) → n ≤ x.0 → is_among b.cased x ≡ false) → CanUseAll s b ss (scalar_types (fields_at core.table k.0)) → CanUseAll s b (as_atoms (variables_from n ps)) ts
        → least (rules core b (all_reached s) (WriteLine h k ss (as_atoms (variables_from n ps)))) ≡ None
    write_least h k n ss ps ts s b place long uncased can_scalars can_packed =
        let vs = variables_from n ps in
        let us = scalar_types (fields_at core.table k.0) in
        let all = all_append s b ss (as_atoms vs) us ts can_scalars can_packed in
        let lengths : (length vs == length (packed_types core.table k)) ≡ true = eq-eqb (length vs) (length (packed_types core.table k)) (variables_length n ps ∙ long) in
        let heads : (h.0 == h.0 && k.0 == k.0) ≡ true = (λ i. eq-eqb h.0 h.0 refl i && eq-eqb k.0 k.0 refl i) in
        let never = further_cased b.cased n ps uncased in
        let may : may_write core.table b s.destination h k (as_atoms vs) ≡ true =
        ap (λ d. may_write core.table b d h k (as_atoms vs)) place ∙ (λ i. heads i && ((lengths i && own_atoms vs i) && not (never i))) in
        let scalars : are_scalars core.table b s.destination ss ≡ true = ap (λ d. are_scalars core.table b d ss) place ∙ all_have s b ss us can_scalars in
        least_four 4 5 8 9 (all_apart s b (ss ++ as_atoms vs) (us ++ ts) all) (ap not may) (ap not (all_can s b (ss ++ as_atoms vs) (us ++ ts) all)) (ap not scalars)

    -- The head of a constructor, and its fields.

    past_least : (h : Variable) (k : ConId) (s : Setting) (b : Before) → con_at core.table (owner_at core.table k.0) k.0 ≡ Some k.0 → PlaceFor (results.One (type_made core.table k)) s → type_bound b.bound h ≡ None
        → least (rules core b (all_reached s) (PastLine h k)) ≡ None
    past_least h k s b there place new =
        let right : (is_empty s.destination && is_of_type core.table k s.due) ≡ true = (λ i. is_empty (place.destination i) && is_of_type core.table k (place.due i)) ∙ ap is_there there in
        least_two 1 8 (ap not right) (not_bound b.bound h new)

    pub tree_fields : (ts : List Ty) → at_fields false ts ts ≡ tree_types ts
    tree_fields [] = refl
    tree_fields (Whole ∷ ts) = tree_fields ts
    tree_fields (Truth ∷ ts) = tree_fields ts
    tree_fields (Tree t ∷ ts) = ap (λ us. Tree t ∷ us) (tree_fields ts)

    pub scalar_fields : (ts : List Ty) → at_fields true ts ts ≡ scalar_types ts
    scalar_fields [] = refl
    scalar_fields (Whole ∷ ts) = ap (λ us. Whole ∷ us) (scalar_fields ts)
    scalar_fields (Truth ∷ ts) = ap (λ us. Truth ∷ us) (scalar_fields ts)
    scalar_fields (Tree t ∷ ts) = scalar_fields ts

    pub built_fields : (kind : Bool) (cs : List Code) (ts : List Ty) (known : typing.Scope) (sc : Scope) → AllBuilt core functions cs ts known sc → AllBuilt core functions (at_fields kind ts cs) (at_fields kind ts ts) known sc
    built_fields kind [] [] known sc h = tt
    built_fields kind [] (t ∷ ts) known sc h = absurd h
    built_fields kind (c ∷ cs) [] known sc h = absurd h
    built_fields true (c ∷ cs) (Whole ∷ ts) known sc h = (h.0, built_fields true cs ts known sc h.1)
    built_fields true (c ∷ cs) (Truth ∷ ts) known sc h = (h.0, built_fields true cs ts known sc h.1)
    built_fields true (c ∷ cs) (Tree t ∷ ts) known sc h = built_fields true cs ts known sc h.1
    built_fields false (c ∷ cs) (Whole ∷ ts) known sc h = built_fields false cs ts known sc h.1
    built_fields false (c ∷ cs) (Truth ∷ ts) known sc h = built_fields false cs ts known sc h.1
    built_fields false (c ∷ cs) (Tree t ∷ ts) known sc h = (h.0, built_fields false cs ts known sc h.1)

    -- Behind its arguments: room for the head, its packed fields, the head.
    make_clean : (k : ConId) (h m : ℕ) (ss ps : List Atom) (s : Setting) (b : Before) → con_at core.table (owner_at core.table k.0) k.0 ≡ Some k.0 → PlaceFor (results.One (type_made core.table k)) s
        → CanUseAll s b ss (scalar_types (fields_at core.table k.0)) → CanUseAll s b ps (packed_types core.table k) → AreFit h ss → AreFit h ps
        → ((x : Variable) → h ≤ x.0 → x.0 < m → type_bound b.bound x ≡ None) → ((x : Variable) → h ≤ x.0 → is_among b.cased x ≡ false) → ((x : Variable) → h ≤ x.0 → x.0 < m → is_among s.others x ≡ false)
        → h + 1 + length ps ≤ m
        → Clean core h (h + 1 + length ps) b (met core.table s (prepend (Past (record { 0 = h }) k ∷ pointed_fields (h + 1) (packed_types core.table k) ps) (Write (record { 0 = h }) k ss (as_atoms (variables_from (h + 1) ps)))))
    make_clean k h m ss ps s b there place can_scalars can_packed fit_scalars fit_packed new uncased apart le =
        let head : Variable = record { 0 = h } in
        let n = h + 1 in
        let ts = packed_types core.table k in
        let us = scalar_types (fields_at core.table k.0) in
        let s1 = behind s (Past head k) in
        let b1 = next core.table b (PastLine head k) in
        let made = type_made core.table k in
        let past : (y : Variable) → (h ≡ y.0 → ⊥) → type_bound b1.bound y ≡ type_bound b.bound y = λ y ne. bound_past b.bound head y made ne in
        let like : Alike h s s1 b b1 = alike_scope h s s1 b b1 refl (λ y lt. refl) (λ y lt. past y (λ z. omega (arith, lt, z))) in
        let binds = pointed_fields n ts ps in
        let r = fields_stand head k n [] [] ts ps s1 b1 refl refl refl (use_all_alike ps ts like fit_packed can_packed) (all_fit_more h n ps (omega arith) fit_packed)
        (λ y lo hi. past y (λ z. omega (arith, lo, z)) ∙ new y (omega (arith, lo)) (omega (arith, hi, le))) (λ y lo hi. apart y (omega (arith, lo)) (omega (arith, hi, le))) in
        let s2 = behind_all s1 binds in
        let b2 = then_all core s1 b1 binds in
        let end = Write head k ss (as_atoms (variables_from n ps)) in
        let write = write_least head k n ss ps ts s2 b2 r.destination (all_long s b ps ts can_packed) (λ x lo. ap (λ z. is_among z x) r.cased ∙ uncased x (omega (arith, lo)))
        (use_all_alike ss us (alike_more like r.alike (omega arith)) fit_scalars can_scalars) r.can in
        let last = end_clean (n + length ps) (n + length ps) s2 b2 (WriteLine head k ss (as_atoms (variables_from n ps))) write refl in
        let rest : Clean core n (n + length ps) b1 (met core.table s1 (prepend binds end)) =
        subst (Clean core n (n + length ps) b1) (sym (met-prepend core.table s1 binds end))
        (clean_then core n (n + length ps) (n + length ps) (n + length ps) b1 (met_all core.table s1 binds) (met core.table s2 end) r.clean last (omega arith) (omega arith)) in
        record {
          reachable = (past_least head k s b there place (new head (omega arith) (omega (arith, le))), rest.reachable);
          below = λ y lo. rest.below y (omega (arith, lo)) ∙ past y (λ z. omega (arith, lo, z));
          above = λ y hi. rest.above y hi ∙ past y (λ z. omega (arith, hi, z));
          uncased = λ y hi. rest.uncased y hi;
        }

    pub make_line_ok : (k : ConId) (cs : List Code) (known : typing.Scope) (sc : Scope) → con_at core.table (owner_at core.table k.0) k.0 ≡ Some k.0 → AllBuilt core functions cs (fields_at core.table k.0) known sc
        → LineOk core (make_line core.table k cs) (results.One (type_made core.table k)) known sc
    make_line_ok k cs known sc there built n m s b ready le place =
        let types = fields_at core.table k.0 in
        let scalars = built_fields true cs types known sc built in
        let packed = built_fields false cs types known sc built in
        let ts = at_fields true types types in
        let us = at_fields false types types in
        let ss = several (at_fields true types cs) sc n in
        let o = several_fits (at_fields true types cs) ts known sc scalars n ready.fits in
        let up = o.grows in
        let ps = several (at_fields false types cs) sc ss.fresh in
        let o' = several_fits (at_fields false types cs) us known sc packed ss.fresh (scope_more n ss.fresh sc up ready.fits) in
        let up' = o'.grows in
        let p = several_ok (at_fields true types cs) ts known sc scalars n m s b ready (omega (arith, up', le)) in
        let s1 = behind_all s ss.binds in
        let b1 = then_all core s b ss.binds in
        let ready1 = ready_behind core n ss.fresh m known sc s b ss.binds ready p.runs up in
        let q = several_ok (at_fields false types cs) us known sc packed ss.fresh m s1 b1 ready1 (omega (arith, le)) in
        let s2 = behind_all s1 ps.binds in
        let b2 = then_all core s1 b1 ps.binds in
        let ready2 = ready_behind core ss.fresh ps.fresh m known sc s1 b1 ps.binds ready1 q.runs up' in
        let h = ps.fresh in
        let place2 = place_same (results.One (type_made core.table k)) s s2 (q.runs.destination ∙ p.runs.destination) (q.runs.due ∙ p.runs.due) place in
        let can_scalars : CanUseAll s2 b2 ss.atoms (scalar_types types) = subst (CanUseAll s2 b2 ss.atoms) (scalar_fields types) (use_all_alike ss.atoms ts q.runs.alike o.fit p.can) in
        let can_packed : CanUseAll s2 b2 ps.atoms (tree_types types) = subst (CanUseAll s2 b2 ps.atoms) (tree_fields types) q.can in
        let fields = λ (zs : List Ty). Past (record { 0 = h }) k ∷ pointed_fields (h + 1) zs ps.atoms in
        let end = Write (record { 0 = h }) k ss.atoms (as_atoms (variables_from (h + 1) ps.atoms)) in
        let last = make_clean k h m ss.atoms ps.atoms s2 b2 there place2 can_scalars can_packed (all_fit_more ss.fresh h ss.atoms up' o.fit) o'.fit ready2.new ready2.uncased ready2.apart le in
        let last' : Clean core h (h + 1 + length ps.atoms) b2 (met core.table s2 (prepend (fields us) end)) =
        subst (λ (zs : List Ty). Clean core h (h + 1 + length ps.atoms) b2 (met core.table s2 (prepend (fields zs) end))) (sym (tree_fields types)) last in
        let rest = line_then core ss.fresh h (h + 1 + length ps.atoms) s1 b1 ps.binds (prepend (fields us) end) q.runs last' up' (omega arith) in
        let all = line_then core n ss.fresh (h + 1 + length ps.atoms) s b ss.binds (prepend ps.binds (prepend (fields us) end)) p.runs rest up (omega (arith, up')) in
        let same : prepend (ss.binds ++ (ps.binds ++ fields us)) end ≡ prepend ss.binds (prepend ps.binds (prepend (fields us) end)) =
        prepend-append ss.binds (ps.binds ++ fields us) end ∙ ap (prepend ss.binds) (prepend-append ps.binds (fields us) end) in
        record { clean = subst (λ (t : Term). Clean core n (h + 1 + length ps.atoms) b (met core.table s t)) (sym same) all }

    -- A constructor that is there.
    pub make_built : (k : ConId) (cs : List Code) (known : typing.Scope) (sc : Scope) → CodeOrdered globals (of_line (make_line core.table k cs)) sc → con_at core.table (owner_at core.table k.0) k.0 ≡ Some k.0
        → AllBuilt core functions cs (fields_at core.table k.0) known sc → CodeBuilt core functions (of_line (make_line core.table k cs)) (results.One (type_made core.table k)) known sc
    make_built k cs known sc order there built = line_built (make_line core.table k cs) (results.One (type_made core.table k)) known sc order (λ n. refl) (make_line_ok k cs known sc there built)
