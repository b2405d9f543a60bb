-- The text of each term makes that term.
use Rattle.std.proofs.Common.{◌≡◌, ℕ, ◌+◌, ◌≤◌, ◌==◌, Bool, true, false, not, ◌&&◌, List, [], ◌∷◌, map, Option, Ok, refl, sym, ap, ◌∙◌, arith}
use Rattle.gib_base.specs.declared.name.Name.{Name}
use Rattle.gib_types.specs.declared.table.Ty.{Ty}
use Rattle.gib_types.specs.declared.table.ConId.{ConId}
use Rattle.gib_types.specs.Table.{fields_at, merge}
use Rattle.gib_syntax.specs.declared.tree.Ident.{Ident}
use Rattle.gib_types.specs.declared.operator.Operator.{Operator}
use Rattle.gib_types.specs.Operators.{operator_type}
use Rattle.gib_core.specs.declared.atom.Variable.{Variable}
use Rattle.gib_core.specs.declared.atom.Atom.{Atom}
use Rattle.gib_core.specs.declared.atom.Atom.TheVariants as a
use Rattle.gib_core.specs.declared.atom.Access.{Access}
use Rattle.gib_core.specs.Tree.{Term, Then, Write, Point, CallTerm, Give, CaseTerm, IfTerm, Tuple, Past, Prim, Reach}
use Rattle.gib_core.specs.Met.{Destination, Nowhere, Empty, Open, InParts}
use Rattle.gib_core.specs.Rules.{is_nowhere}
use Rattle.gib_core.proofs.Facts.{itself}
use Rattle.gib_local_parse.specs.Tree.{Line, In, Made, NewPlace, PrimIn, ReachIn}
use Rattle.gib_local_parse.specs.declared.tree.Mark.{Mark}
use Rattle.gib_local_parse.specs.declared.tree.Location.TheVariants.{Plus}
use Rattle.gib_local.specs.Building.{Placed, PlaceName, Around, Termed, Stepped, Program, if_due, meant, variable, atom, is_place, aims, is_flat, is_open_at, write, make, call, may_open, opened, build}
use Rattle.gib_local.specs.declared.place.Place.{Place}
use Rattle.gib_local.specs.declared.place.Place.TheVariants.{AtFirst}
use Rattle.gib_local.specs.declared.place.Meant.{Meant}
use Rattle.gib_local.specs.declared.place.Meant.TheVariants.{IsPlace}
use Rattle.gib_local_print.specs.Printing.{Naming, Apart, nowhere, ident, mark, named, atom_name, operand, type_text, con_text, way, call_mark, open_text, text_of}
use Rattle.gib_local_print.specs.HasText.{HasAtom, HasFields, HasText, OpensText}
use Rattle.gib_local_print.proofs.World.{place_itself, meant_here, fields_back, all_merged, con_back, scope_names, world, passed, variable_back, atom_back, atoms_back, named_back, access_back}
use Rattle.gib_local_print.proofs.Ready.{step, Stands, Extends, extends_location}
use Rattle.gib_local_print.proofs.Back.{text_up, Clear, clear_part, Backs, standing_past, below_more}

module _ (p : Program) (nm : Naming) (ok : Apart nm) where
  -- The destination is named where it is due.
  aimed : (xs : List ℕ) (ps : List PlaceName) (d : Destination) (q : Place) (at n : ℕ) (go : Placed Termed) → Stands nm xs ps d q at n → is_nowhere d ≡ false → aims (world nm xs ps d q) (mark nm at) go ≡ go
  aimed xs ps d q at n go st e =
      ap (λ b. if_due (not b) 0 (if_due (is_place q (meant ps (nm.location at))) 0 go)) e
      ∙ (ap (λ (o : Option Meant). if_due (is_place q o) 0 go) (st.here e)
      ∙ ap (λ b. if_due b 0 go) (place_itself q))

  -- ---- ends

  pub point_back : (x : Atom) → Backs p nm ok (Point x)
  point_back x xs ps d q at n m u st c h =
      aimed xs ps d q at n (Ok (record { term = Point (a.Variable (variable (world nm xs ps d q) (atom_name nm x))); passed = passed n u })) st h.1
      ∙ (λ i. Ok (record { term = Point (named_back nm ok xs ps d q x h.2 i); passed = passed (h.0 i) u }))

  pub give_back : (x : Atom) → Backs p nm ok (Give x)
  give_back x xs ps d q at n m u st c h = λ i. Ok (record { term = Give (atom_back nm ok xs ps d q x h.1 i); passed = passed (h.0 i) u })

  call_by : (f : Name) (ys zs : List Atom) (xs : List ℕ) (ps : List PlaceName) (d : Destination) (q : Place) (at n : ℕ) (u : List ℕ) → Stands nm xs ps d q at n → ys ≡ zs
      → call (is_nowhere d) (world nm xs ps d q) (passed n u) (ident f.0) ys (call_mark nm d at) ≡ Ok (record { term = CallTerm f zs; passed = passed n u })
  call_by f ys zs xs ps Nowhere q at n u st e = ap (λ l. Ok (record { term = CallTerm f l; passed = passed n u })) e
  call_by f ys zs xs ps Empty q at n u st e =
      aimed xs ps Empty q at n (Ok (record { term = CallTerm f ys; passed = passed n u })) st refl ∙ ap (λ l. Ok (record { term = CallTerm f l; passed = passed n u })) e
  call_by f ys zs xs ps (InParts ts) q at n u st e =
      aimed xs ps (InParts ts) q at n (Ok (record { term = CallTerm f ys; passed = passed n u })) st refl ∙ ap (λ l. Ok (record { term = CallTerm f l; passed = passed n u })) e
  call_by f ys zs xs ps (Open g k s) q at n u st e =
      aimed xs ps (Open g k s) q at n (Ok (record { term = CallTerm f ys; passed = passed n u })) st refl ∙ ap (λ l. Ok (record { term = CallTerm f l; passed = passed n u })) e

  pub call_back : (f : Name) (ys : List Atom) → Backs p nm ok (CallTerm f ys)
  call_back f ys xs ps d q at n m u st c h =
      let w : Around = world nm xs ps d q in
      let args : List Atom = map (atom w) (map (operand nm) ys) in
      ap (λ b. call b w (passed n u) (ident f.0) args (call_mark nm d at)) h.1
      ∙ (call_by f args ys xs ps d q at n u st (atoms_back nm ok xs ps d q ys h.2)
      ∙ ap (λ k. Ok (record { term = CallTerm f ys; passed = passed k u })) h.0)

  -- The arguments of a constructor, in declared order, are its scalars and its packed values.
  filled : (k : ConId) (ss zs : List Atom) (xs : List ℕ) (ps : List PlaceName) (d : Destination) (q : Place) (h : Variable) → HasFields p.table xs k ss zs
      → write p.table h k (map (atom (world nm xs ps d q)) (map (operand nm) (merge (fields_at p.table k.0) ss zs))) ≡ Write h k ss zs
  filled k ss zs xs ps d q h f =
      let ts : List Ty = fields_at p.table k.0 in
      let back = fields_back ts ss zs f.scalars f.trees in
      ap (λ l. write p.table h k l) (atoms_back nm ok xs ps d q (merge ts ss zs) (all_merged (HasAtom xs) ts ss zs f.scalar_atoms f.tree_atoms))
      ∙ (λ i. Write h k (back.0 i) (back.1 i))

  pub write_back : (h : Variable) (k : ConId) (ss zs : List Atom) → Backs p nm ok (Write h k ss zs)
  write_back h k ss zs xs ps Nowhere q at n m u st c t = absurd t.2
  write_back h k ss zs xs ps Empty q at n m u st c t = absurd t.2
  write_back h k ss zs xs ps (InParts ts) q at n m u st c t = absurd t.2
  write_back h k ss zs xs ps (Open g j s) q at n m u st c t =
      let w : Around = world nm xs ps (Open g j s) q in
      let args : List Atom = map (atom w) (map (operand nm) (merge (fields_at p.table k.0) ss zs)) in
      let mk : Mark = mark nm at in
      let out : Placed Termed = Ok (record { term = write p.table g k args; passed = passed n u }) in
      ap (λ (i : ConId). make (is_flat p.table i) p.table w (passed n u) i mk args) (con_back p.table k t.3.found)
      ∙ (ap (λ b. make b p.table w (passed n u) k mk args) t.1
      ∙ (aimed xs ps (Open g j s) q at n (if_due (is_open_at k (Open g j s)) 0 out) st refl
      ∙ (ap (λ b. if_due b 0 out) (ap (λ (i : ConId). i.0 == k.0) t.2.1 ∙ itself k.0)
      ∙ (ap (λ l. Ok (record { term = l; passed = passed n u })) (filled k ss zs xs ps (Open g j s) q g t.3)
      ∙ (λ i. Ok (record { term = Write (t.2.0 i) k ss zs; passed = passed (t.0 i) u }))))))

  -- ---- heads

  flat_back : (h : Variable) (k : ConId) (g : Variable) (j : ConId) (ss zs : List Atom) (xs : List ℕ) (ps : List PlaceName) (d : Destination) (q : Place) (at n m : ℕ) (u : List ℕ) → Stands nm xs ps d q at n
      → is_flat p.table k ≡ true → OpensText p h k (Write g j ss zs) xs d n m ⊥ true
      → build p (Made (con_text p.table j) (mark nm at) (map (operand nm) (merge (fields_at p.table j.0) ss zs))) (world nm xs ps d q) (passed n u)
      ≡ Ok (record { term = Then (Past h k) (Write g j ss zs); passed = passed m u })
  flat_back h k g j ss zs xs ps d q at n m u st flat t =
      let w : Around = world nm xs ps d q in
      let mk : Mark = mark nm at in
      let x : Variable = record { 0 = n } in
      let args : ConId → List Atom = λ i. map (atom w) (map (operand nm) (merge (fields_at p.table i.0) ss zs)) in
      let same : j ≡ k = t.3.1 in
      let f : HasFields p.table xs k ss zs = t.3.2 in
      ap (λ (i : ConId). build p (Made (con_text p.table i) mk (map (operand nm) (merge (fields_at p.table i.0) ss zs))) w (passed n u)) same
      ∙ (ap (λ (i : ConId). make (is_flat p.table i) p.table w (passed n u) i mk (args k)) (con_back p.table k f.found)
      ∙ (ap (λ b. make b p.table w (passed n u) k mk (args k)) flat
      ∙ (aimed xs ps d q at n (Ok (record { term = Then (Past x k) (write p.table x k (args k)); passed = passed (n + 1) u })) st t.2
      ∙ (ap (λ l. Ok (record { term = Then (Past x k) l; passed = passed (n + 1) u })) (filled k ss zs xs ps d q x f)
      ∙ (λ i. Ok (record { term = Then (Past (record { 0 = sym t.0 i }) k) (Write ((ap (λ y. record { 0 = y }) (sym t.0) ∙ sym t.3.0) i) (sym same i) ss zs); passed = passed (sym t.1 i) u }))))))

  open_back : (h : Variable) (k : ConId) (rest : Term) → Backs p nm ok rest → (xs : List ℕ) (ps : List PlaceName) (d : Destination) (q : Place) (at n m : ℕ) (u : List ℕ) → Stands nm xs ps d q at n → Clear nm u n m
      → is_flat p.table k ≡ false → OpensText p h k rest xs d n m (HasText p rest xs (Open h k []) (n + 1) m) false
      → build p (In nowhere (NewPlace (ident (nm.location h.0)) (Plus (ident (nm.location at)) (con_text p.table k))) (text_of nm p.table rest (Open h k []) at)) (world nm xs ps d q) (passed n u)
      ≡ Ok (record { term = Then (Past h k) rest; passed = passed m u })
  open_back h k rest back xs ps Nowhere q at n m u st c flat t = (let e : Nowhere ≡ Empty = t.1 in absurd cc)
  open_back h k rest back xs ps (InParts ts) q at n m u st c flat t = (let e : InParts ts ≡ Empty = t.1 in absurd cc)
  open_back h k rest back xs ps (Open g j s) q at n m u st c flat t = (let e : Open g j s ≡ Empty = t.1 in absurd cc)
  open_back h k rest back xs ps Empty q at n m u st c flat t =
      let w : Around = world nm xs ps Empty q in
      let l : Ident = ident (nm.location h.0) in
      let r : Ident = ident (nm.location at) in
      let line : Line = text_of nm p.table rest (Open h k []) at in
      let e : h.0 ≡ n = t.0 in
      let new : List PlaceName = (nm.location h.0, IsPlace (AtFirst h.0)) ∷ ps in
      let place : is_place q (meant ps (nm.location at)) ≡ true = ap (λ (o : Option Meant). is_place q o) (st.here refl) ∙ place_itself q in
      let may : may_open p.table w r k ≡ true = λ i. ((place i) && not (flat i)) in
      let up : n + 1 ≤ m = text_up p rest xs (Open h k []) (n + 1) m t.3 in
      let on : Extends nm n ps new = extends_location nm ok n h.0 (IsPlace (AtFirst h.0)) ps (omega (arith, e)) in
      let s : Stepped = record { binds = Past h k ∷ []; around = world nm xs new (Open h k []) q; passed = passed (n + 1) u } in
      let stands : Stands nm xs new (Open h k []) q at (n + 1) = record {
        here = λ f. on.same at st.below ∙ st.here refl;
        below = (let lt = st.below in omega (arith, lt));
        head = meant_here (nm.location h.0) (IsPlace (AtFirst h.0)) ps;
        head_below = omega (arith, e);
        standing = tt;
      } in
      step p (NewPlace l (Plus r (con_text p.table k))) line w (passed n u) s rest (passed m u)
      (ap (λ (i : ConId). if_due (may_open p.table w r i) 0 (Ok (opened w (passed n u) l i))) (con_back p.table k t.2)
      ∙ (ap (λ b. if_due b 0 (Ok (opened w (passed n u) l k))) may
      ∙ (λ i. Ok (record {
        binds = Past (record { 0 = sym e i }) k ∷ [];
        around = world nm xs ((nm.location h.0, IsPlace (AtFirst (sym e i))) ∷ ps) (Open (record { 0 = sym e i }) k []) q;
        passed = passed (n + 1) u;
      }))))
      (back xs new (Open h k []) q at (n + 1) m u stands (clear_part nm u n m (n + 1) m (omega arith) (omega arith) c) t.3)

  past_by : (f : Bool) (h : Variable) (k : ConId) (rest : Term) → Backs p nm ok rest → (xs : List ℕ) (ps : List PlaceName) (d : Destination) (q : Place) (at n m : ℕ) (u : List ℕ) → Stands nm xs ps d q at n → Clear nm u n m
      → is_flat p.table k ≡ f → OpensText p h k rest xs d n m (HasText p rest xs (Open h k []) (n + 1) m) f
      → build p (open_text f nm at h (con_text p.table k) (text_of nm p.table rest (Open h k []) at)) (world nm xs ps d q) (passed n u) ≡ Ok (record { term = Then (Past h k) rest; passed = passed m u })
  past_by false h k rest back xs ps d q at n m u st c e t = open_back h k rest back xs ps d q at n m u st c e t
  past_by true h k (Write g j ss zs) back xs ps d q at n m u st c e t = flat_back h k g j ss zs xs ps d q at n m u st e (t.0, t.1, t.2, t.3)
  past_by true h k (Then b r) back xs ps d q at n m u st c e t = absurd t.3
  past_by true h k (Point x) back xs ps d q at n m u st c e t = absurd t.3
  past_by true h k (CallTerm f ys) back xs ps d q at n m u st c e t = absurd t.3
  past_by true h k (Give x) back xs ps d q at n m u st c e t = absurd t.3
  past_by true h k (CaseTerm x bs) back xs ps d q at n m u st c e t = absurd t.3
  past_by true h k (IfTerm x r s) back xs ps d q at n m u st c e t = absurd t.3
  past_by true h k (Tuple ts ss zs) back xs ps d q at n m u st c e t = absurd t.3

  pub past_back : (h : Variable) (k : ConId) (rest : Term) → Backs p nm ok rest → Backs p nm ok (Then (Past h k) rest)
  past_back h k rest back xs ps d q at n m u st c t = past_by (is_flat p.table k) h k rest back xs ps d q at n m u st c refl t

  -- ---- operations and fields

  pub prim_back : (x : Variable) (f : Operator) (y z : Atom) (rest : Term) → Backs p nm ok rest → Backs p nm ok (Then (Prim x f y z) rest)
  prim_back x f y z rest back xs ps d q at n m u st c t =
      let w : Around = world nm xs ps d q in
      let e : x.0 ≡ n = t.0 in
      let s : Stepped = record { binds = Prim x f y z ∷ []; around = world nm (x.0 ∷ xs) ps d q; passed = passed (n + 1) u } in
      let stands : Stands nm (x.0 ∷ xs) ps d q at (n + 1) = record { here = st.here; below = (let lt = st.below in omega (arith, lt)); head = st.head; head_below = below_more n (n + 1) d (omega arith) st.head_below; standing = standing_past x.0 xs d st.standing } in
      step p (PrimIn (named nm x) (type_text p.table (operator_type f)) (operand nm y) f (operand nm z)) (text_of nm p.table rest d at) w (passed n u) s rest (passed m u)
      (λ i. Ok (record {
        binds = Prim (record { 0 = sym e i }) f (atom_back nm ok xs ps d q y t.1 i) (atom_back nm ok xs ps d q z t.2 i) ∷ [];
        around = record w { variables = (nm.variable x.0, sym e i) ∷ scope_names nm xs };
        passed = passed (n + 1) u;
      }))
      (back (x.0 ∷ xs) ps d q at (n + 1) m u stands (clear_part nm u n m (n + 1) m (omega arith) (omega arith) c) t.3)

  pub reach_back : (y : Variable) (by : Access) (rest : Term) → Backs p nm ok rest → Backs p nm ok (Then (Reach y by) rest)
  reach_back y by rest back xs ps d q at n m u st c t =
      let w : Around = world nm xs ps d q in
      step p (ReachIn (named nm y) (way nm by)) (text_of nm p.table rest d at) w (passed n u) (record { binds = Reach y by ∷ []; around = w; passed = passed n u }) rest (passed m u)
      (λ i. Ok (record { binds = Reach (variable_back nm ok xs ps d q y t.0 i) (access_back nm ok xs ps d q by t.1 i) ∷ []; around = w; passed = passed n u }))
      (back xs ps d q at n m u st c t.2)
