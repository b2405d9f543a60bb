-- The text of each core that has one makes that core.
use Rattle.std.proofs.Common.{◌≡◌, ℕ, suc, ◌+◌, ◌≤◌, Bool, true, false, if◌then◌else◌, List, [], ◌∷◌, map, length, Option, Some, None, Ok, refl, sym, ap, ◌∙◌, subst, arith}
use Rattle.std.specs.List.{AllByRecursion}
use Rattle.gib_types.specs.declared.table.Ty.{Ty}
use Rattle.gib_types.specs.declared.table.ConId.{ConId}
use Rattle.gib_types.specs.Table.{Table, is_scalar}
use Rattle.gib_syntax.specs.declared.tree.Ident.{Ident}
use Rattle.gib_syntax.specs.Results as results
use Rattle.gib_syntax.specs.Results.{Results}
use Rattle.gib_core.specs.declared.atom.Variable.{Variable}
use Rattle.gib_core.specs.declared.atom.Atom.{Atom}
use Rattle.gib_core.specs.declared.atom.Atom.TheVariants as a
use Rattle.gib_core.specs.declared.atom.Kind.{Kind}
use Rattle.gib_core.specs.declared.atom.Kind.TheVariants.{Here, Region, Scalar}
use Rattle.gib_core.specs.Tree.{Term, Then, Write, Point, CallTerm, Give, CaseTerm, IfTerm, Tuple, Past, One, Both, Prim, Reach, On, Several, Branches, NoBranch, BranchThen, variables_from}
use Rattle.gib_core.specs.Met.{Destination, Empty, stands_too, with_field}
use Rattle.gib_core.specs.Rules.{is_nowhere}
use Rattle.gib_core.specs.Ordered.{IsFound}
use Rattle.gib_core.proofs.Facts.{itself}
use Rattle.gib_local_parse.specs.Tree.{Line, In, ParIn, Bound, Arms}
use Rattle.gib_local.specs.Building.{Placed, PlaceName, Around, Termed, Branched, Stepped, Sided, Program, and_then, if_due, meant, variable_at, variable, atom, con, next_place, is_there, is_last, between, with_variables, numbered_on, build, build_binding, build_bound, build_arms}
use Rattle.gib_local.specs.declared.place.Place.{Place}
use Rattle.gib_local.specs.declared.place.Place.TheVariants.{AtResult, AtNext}
use Rattle.gib_local.specs.declared.place.Meant.TheVariants.{IsPlace}
use Rattle.gib_local_print.specs.Printing.{Naming, Apart, nowhere, ident, named, atom_name, operand, type_text, result_text, con_text, before, side_number, place_number, side_place, are_fields, par_text, arms_or, text_of, side_text, branches_text}
use Rattle.gib_local_print.specs.HasText.{MayStand, IsWritten, IsBranch, scope_from, HasText, HasBranches}
use Rattle.gib_local_print.proofs.World.{meant_here, con_back, scope_names, world, passed, atom_back, named_back}
use Rattle.gib_local_print.proofs.Ready.{step, field_place, next_is, HeadNamed, HeadBelow, StandInScope, Stands, Extends, extends_same, IsReady, places_before, unused_before, before_back, ready, before_extends}
use Rattle.gib_local_print.proofs.Back.{text_up, branches_up, Clear, clear_part, clear_more, stands_on, number_below, may_kept, ready_at, ready_over, ready_with, room_open, side_back, one_back, Backs, standing_past, below_more, head_as}
use Rattle.gib_syntax.specs.Tree.{DataTree}
use Rattle.gib_syntax.specs.Declarations.{type_of_name}
use Rattle.gib_syntax.specs.declared.tree.Parameter.{Parameter}
use Rattle.gib_types.specs.declared.table.Ty.TheVariants.{Whole as WholeTy, Truth as TruthTy, Tree as TreeTy}
use Rattle.gib_core.specs.Tree.{FunctionTerm, CoreTree}
use Rattle.gib_core.specs.Met.{result_place}
use Rattle.gib_local_parse.specs.Tree.{LocalTree}
use Rattle.gib_local.specs.Building.{build_body, build_functions, build_core, body, opening, types_of}
use Rattle.gib_local_print.specs.Printing.{function_text, parameters_text, result_mark, results_mark, local_of}
use Rattle.gib_local_print.specs.HasText.{HasBody, HasResult, HasCore, program_of, with_ends}
use Rattle.gib_local_print.proofs.Whole.{point_back, give_back, call_back, write_back, past_back, prim_back, reach_back}

module _ (p : Program) (nm : Naming) (ok : Apart nm) where
  -- ---- two sides

  both_apart : (i j : Kind) (x y : Variable) (t s : Ty) (l r rest : Term) → are_fields i j ≡ false → Backs p nm ok l → Backs p nm ok r → Backs p nm ok rest
      → (xs : List ℕ) (ps : List PlaceName) (d : Destination) (q : Place) (at n m : ℕ) (u : List ℕ) → Stands nm xs ps d q at n → Clear nm u n m → HasText p (Then (Both false (On i x t l) (On j y s r)) rest) xs d n m
      → build p (par_text false nm d i x.0 j y.0 (side_text nm p.table (On i x t l)) (side_text nm p.table (On j y s r)) (text_of nm p.table rest (stands_too j y (stands_too i x d)) at)) (world nm xs ps d q) (passed n u)
      ≡ Ok (record { term = Then (Both false (On i x t l) (On j y s r)) rest; passed = passed m u })
  both_apart i j x y t s l r rest apart back_l back_r back xs ps d q at n m u st c h =
      let a : ℕ = h.1.0 in
      let hl = h.1.1 in
      let b : ℕ = h.1.2.0 in
      let hr = h.1.2.1 in
      let d1 : Destination = stands_too i x d in
      let d2 : Destination = stands_too j y d1 in
      let up1 : n + 1 ≤ a = text_up p l xs (side_place i) (n + 1) a hl.3 in
      let up2 : a + 1 ≤ b = text_up p r xs (side_place j) (a + 1) b hr.3 in
      let up3 : b ≤ m = text_up p rest (y.0 ∷ x.0 ∷ xs) d2 b m h.1.2.2 in
      let ex : x.0 ≡ n = hl.0 in
      let ey : y.0 ≡ a = hr.0 in
      let may : MayStand p.table d j s = may_kept p.table i j x d s apart hr.1 in
      let one : List PlaceName = places_before nm d i x.0 ps in
      let two : List PlaceName = places_before nm d j y.0 one in
      let u1 : List ℕ = unused_before nm i x.0 u in
      let u2 : List ℕ = unused_before nm j y.0 u1 in
      let w : List ℕ = unused_before nm j y.0 u in
      let nl : ℕ = side_number d i x.0 in
      let nr : ℕ = side_number d j y.0 in
      let lel : nl ≤ x.0 = number_below d i n x.0 st.head_below (omega (arith, ex)) in
      let ler : nr ≤ y.0 = number_below d j n y.0 st.head_below (omega (arith, ey, up1)) in
      let on1 : Extends nm n ps one = before_extends nm ok d i n x.0 ps (omega (arith, ex)) in
      let on2 : Extends nm y.0 one two = before_extends nm ok d j y.0 y.0 one (omega arith) in
      let on2n : Extends nm n one two = before_extends nm ok d j n y.0 one (omega (arith, ey, up1)) in
      let head1 : HeadNamed nm one d = head_as nm n ps one d on1 st.head_below st.head in
      let ready_l : IsReady nm p.table two d i nl u2 w =
      ready_with nm ok p.table two d i j nl y.0 u1 u (omega (arith, lel, ex, ey, up1))
      (ready_over nm p.table one two d i nl y.0 u1 u on2 (omega (arith, lel, ex, ey, up1)) (ready nm p.table d i t x.0 ps u hl.1 st.head (c x.0 (omega (arith, ex)) (omega (arith, ex, up1, up2, up3))))) in
      let ready_r : IsReady nm p.table two d1 j nr w u =
      ready_at nm p.table two i j x d nr w u apart (ready nm p.table d j s y.0 one u may head1 (c y.0 (omega (arith, ey, up1)) (omega (arith, ey, up2, up3)))) in
      let clear_l : Clear nm w (x.0 + 1) a = λ k lo hi. clear_more nm ok j u n y.0 (clear_part nm u n m n y.0 (omega arith) (omega (arith, ey, up2, up3)) c) k (omega (arith, ex, lo)) (omega (arith, ey, hi)) in
      let made_l = side_back p nm ok i x t l nl xs two d q u2 w a back_l ready_l lel clear_l hl.1 hl.2 (subst (λ k. HasText p l xs (side_place i) (k + 1) a) (sym ex) hl.3) in
      let made_r = side_back p nm ok j y s r nr xs two d1 q w u b back_r ready_r ler (clear_part nm u n m (y.0 + 1) b (omega (arith, ey, up1)) up3 c) hr.1 hr.2 (subst (λ k. HasText p r xs (side_place j) (k + 1) b) (sym ey) hr.3) in
      let after : Around = world nm (y.0 ∷ x.0 ∷ xs) two d2 q in
      let line : Line = text_of nm p.table rest d2 at in
      let bl : Bound = side_text nm p.table (On i x t l) nl in
      let br : Bound = side_text nm p.table (On j y s r) nr in
      let g : Around = world nm xs two d q in
      let out : ℕ → Sided → Sided → Placed Stepped = λ k sl sr. Ok (record { binds = Both false sl.side sr.side ∷ []; around = record g { variables = (nm.variable y.0, k) ∷ scope_names nm (x.0 ∷ xs); destination = sr.destination }; passed = sr.passed }) in
      let made_r' : build_bound p br (world nm xs two d1 q) (passed a w) ≡ Ok (record { side = On j y s r; destination = d2; passed = passed b u }) =
      ap (λ k. build_bound p br (world nm xs two d1 q) (passed k w)) (sym ey) ∙ made_r in
      let binding : build_binding p (ParIn bl None br) g (passed x.0 u2) ≡ Ok (record { binds = Both false (On i x t l) (On j y s r) ∷ []; around = after; passed = passed b u }) =
      ap (λ (z : Placed Sided). and_then z (λ sl. and_then (between p.table g (named nm x) x.0 sl.destination None) (λ k. and_then (build_bound p br k sl.passed) (λ sr. out sl.passed.fresh sl sr)))) made_l
      ∙ (ap (λ (z : Placed Sided). and_then z (λ sr. out a (record { side = On i x t l; destination = d1; passed = passed a w }) sr)) made_r'
      ∙ ap (λ k. Ok (record { binds = Both false (On i x t l) (On j y s r) ∷ []; around = record g { variables = (nm.variable y.0, k) ∷ scope_names nm (x.0 ∷ xs); destination = d2 }; passed = passed b u })) (sym ey)) in
      let stands1 = stands_on nm i x xs ps one d q at n n on1 (omega arith) st in
      let stands2 : Stands nm (y.0 ∷ x.0 ∷ xs) two d2 q at b = stands_on nm j y (x.0 ∷ xs) one two d1 q at n b on2n (omega (arith, up1, up2)) stands1 in
      before_back p nm ok d i t x.0 (before nm d j y.0 (In nowhere (ParIn bl None br) line)) xs ps q n u hl.1 st.standing
      ∙ (before_back p nm ok d j s y.0 (In nowhere (ParIn bl None br) line) xs one q n u1 may st.standing
      ∙ (ap (λ k. build p (In nowhere (ParIn bl None br) line) g (passed k u2)) (sym ex)
      ∙ step p (ParIn bl None br) line g (passed x.0 u2) (record { binds = Both false (On i x t l) (On j y s r) ∷ []; around = after; passed = passed b u }) rest (passed m u) binding
      (back (y.0 ∷ x.0 ∷ xs) two d2 q at b m u stands2 (clear_part nm u n m b m (omega (arith, up1, up2)) (omega arith) c) h.1.2.2)))

  both_fields : (x y : Variable) (t s : Ty) (l r rest : Term) → Backs p nm ok l → Backs p nm ok r → Backs p nm ok rest
      → (xs : List ℕ) (ps : List PlaceName) (d : Destination) (q : Place) (at n m : ℕ) (u : List ℕ) → Stands nm xs ps d q at n → Clear nm u n m → HasText p (Then (Both false (On Here x t l) (On Here y s r)) rest) xs d n m
      → build p (par_text true nm d Here x.0 Here y.0 (side_text nm p.table (On Here x t l)) (side_text nm p.table (On Here y s r)) (text_of nm p.table rest (with_field y (with_field x d)) at)) (world nm xs ps d q) (passed n u)
      ≡ Ok (record { term = Then (Both false (On Here x t l) (On Here y s r)) rest; passed = passed m u })
  both_fields x y t s l r rest back_l back_r back xs ps d q at n m u st c h =
      let a : ℕ = h.1.0 in
      let hl = h.1.1 in
      let b : ℕ = h.1.2.0 in
      let hr = h.1.2.1 in
      let d1 : Destination = with_field x d in
      let d2 : Destination = with_field y d1 in
      let up1 : n + 1 ≤ a = text_up p l xs Empty (n + 1) a hl.3 in
      let up2 : a + 1 ≤ b = text_up p r xs Empty (a + 1) b hr.3 in
      let up3 : b ≤ m = text_up p rest (y.0 ∷ x.0 ∷ xs) d2 b m h.1.2.2 in
      let ex : x.0 ≡ n = hl.0 in
      let ey : y.0 ≡ a = hr.0 in
      let one : List PlaceName = places_before nm d Here x.0 ps in
      let two : List PlaceName = (nm.location y.0, IsPlace (AtNext x.0)) ∷ one in
      let nl : ℕ = place_number d x.0 in
      let lel : nl ≤ x.0 = number_below d Here n x.0 st.head_below (omega (arith, ex)) in
      let on1 : Extends nm n ps one = before_extends nm ok d Here n x.0 ps (omega (arith, ex)) in
      let there : field_place d1 ≡ AtNext x.0 = room_open p.table x d hr.1.0 in
      let ready_l : IsReady nm p.table one d Here nl u u = ready nm p.table d Here t x.0 ps u hl.1 st.head (c x.0 (omega (arith, ex)) (omega (arith, ex, up1, up2, up3))) in
      let named_r : meant two (nm.location y.0) ≡ Some (IsPlace (field_place d1)) = meant_here (nm.location y.0) (IsPlace (AtNext x.0)) one ∙ ap (λ (k : Place). Some (IsPlace k)) (sym there) in
      let ready_r : IsReady nm p.table two d1 Here y.0 u u = (named_r, hr.1.0, refl) in
      let made_l = side_back p nm ok Here x t l nl xs one d q u u a back_l ready_l lel (clear_part nm u n m (x.0 + 1) a (omega (arith, ex)) (omega (arith, up2, up3)) c) hl.1 hl.2 (subst (λ k. HasText p l xs Empty (k + 1) a) (sym ex) hl.3) in
      let made_r = side_back p nm ok Here y s r y.0 xs two d1 q u u b back_r ready_r (omega arith) (clear_part nm u n m (y.0 + 1) b (omega (arith, ey, up1)) up3 c) hr.1 hr.2 (subst (λ k. HasText p r xs Empty (k + 1) b) (sym ey) hr.3) in
      let after : Around = world nm (y.0 ∷ x.0 ∷ xs) one d2 q in
      let line : Line = text_of nm p.table rest d2 at in
      let bl : Bound = side_text nm p.table (On Here x t l) nl in
      let br : Bound = side_text nm p.table (On Here y s r) y.0 in
      let g : Around = world nm xs one d q in
      let mid : Option (Ident × Ident) = Some (ident (nm.location y.0), ident (nm.variable x.0)) in
      let out : ℕ → Sided → Sided → Placed Stepped = λ k sl sr. Ok (record { binds = Both false sl.side sr.side ∷ []; around = record g { variables = (nm.variable y.0, k) ∷ scope_names nm (x.0 ∷ xs); destination = sr.destination }; passed = sr.passed }) in
      let made_r' : build_bound p br (world nm xs two d1 q) (passed a u) ≡ Ok (record { side = On Here y s r; destination = d2; passed = passed b u }) =
      ap (λ k. build_bound p br (world nm xs two d1 q) (passed k u)) (sym ey) ∙ made_r in
      let inner : ℕ = variable_at (scope_names nm (x.0 ∷ xs)) (nm.variable x.0) in
      let found : inner ≡ x.0 = ap (λ b. if b then x.0 else variable_at (scope_names nm xs) (nm.variable x.0)) (itself (nm.variable x.0)) in
      let next : next_place p.table d1 ≡ Some (AtNext x.0) = next_is p.table d1 hr.1.0 ∙ ap (λ (k : Place). Some k) there in
      let last : is_last p.table d1 x ≡ true = ap (λ (o : Option Place). is_there o (AtNext x.0)) next ∙ itself x.0 in
      let grown : ℕ → Around = λ k. record g { destination = d1; places = (nm.location y.0, IsPlace (AtNext k)) ∷ one } in
      let between_is : between p.table g (named nm x) x.0 d1 mid ≡ Ok (world nm xs two d1 q) =
      ap (λ k. if_due (is_last p.table d1 (record { 0 = k })) 0 (Ok (grown k))) found ∙ ap (λ b. if_due b 0 (Ok (grown x.0))) last in
      let binding : build_binding p (ParIn bl mid br) g (passed x.0 u) ≡ Ok (record { binds = Both false (On Here x t l) (On Here y s r) ∷ []; around = after; passed = passed b u }) =
      ap (λ (z : Placed Sided). and_then z (λ sl. and_then (between p.table g (named nm x) x.0 sl.destination mid) (λ k. and_then (build_bound p br k sl.passed) (λ sr. out sl.passed.fresh sl sr)))) made_l
      ∙ (ap (λ (z : Placed Around). and_then z (λ k. and_then (build_bound p br k (passed a u)) (λ sr. out a (record { side = On Here x t l; destination = d1; passed = passed a u }) sr))) between_is
      ∙ (ap (λ (z : Placed Sided). and_then z (λ sr. out a (record { side = On Here x t l; destination = d1; passed = passed a u }) sr)) made_r'
      ∙ ap (λ k. Ok (record { binds = Both false (On Here x t l) (On Here y s r) ∷ []; around = record g { variables = (nm.variable y.0, k) ∷ scope_names nm (x.0 ∷ xs); destination = d2 }; passed = passed b u })) (sym ey))) in
      let stands1 = stands_on nm Here x xs ps one d q at n n on1 (omega arith) st in
      let stands2 : Stands nm (y.0 ∷ x.0 ∷ xs) one d2 q at b = stands_on nm Here y (x.0 ∷ xs) one one d1 q at n b (extends_same nm n one) (omega (arith, up1, up2)) stands1 in
      before_back p nm ok d Here t x.0 (In nowhere (ParIn bl mid br) line) xs ps q n u hl.1 st.standing
      ∙ (ap (λ k. build p (In nowhere (ParIn bl mid br) line) g (passed k u)) (sym ex)
      ∙ step p (ParIn bl mid br) line g (passed x.0 u) (record { binds = Both false (On Here x t l) (On Here y s r) ∷ []; around = after; passed = passed b u }) rest (passed m u) binding
      (back (y.0 ∷ x.0 ∷ xs) one d2 q at b m u stands2 (clear_part nm u n m b m (omega (arith, up1, up2)) (omega arith) c) h.1.2.2))

  both_by : (i j : Kind) (x y : Variable) (t s : Ty) (l r rest : Term) → Backs p nm ok l → Backs p nm ok r → Backs p nm ok rest → Backs p nm ok (Then (Both false (On i x t l) (On j y s r)) rest)
  both_by Here Here x y t s l r rest bl br b xs ps d q at n m u st c h = both_fields x y t s l r rest bl br b xs ps d q at n m u st c h
  both_by Here Region x y t s l r rest bl br b xs ps d q at n m u st c h = both_apart Here Region x y t s l r rest refl bl br b xs ps d q at n m u st c h
  both_by Here Scalar x y t s l r rest bl br b xs ps d q at n m u st c h = both_apart Here Scalar x y t s l r rest refl bl br b xs ps d q at n m u st c h
  both_by Region j x y t s l r rest bl br b xs ps d q at n m u st c h = both_apart Region j x y t s l r rest refl bl br b xs ps d q at n m u st c h
  both_by Scalar j x y t s l r rest bl br b xs ps d q at n m u st c h = both_apart Scalar j x y t s l r rest refl bl br b xs ps d q at n m u st c h

  -- A mark is none of the text's: a text makes none.
  both_back : (fork : Bool) (i j : Kind) (x y : Variable) (t s : Ty) (l r rest : Term) → Backs p nm ok l → Backs p nm ok r → Backs p nm ok rest → Backs p nm ok (Then (Both fork (On i x t l) (On j y s r)) rest)
  both_back false i j x y t s l r rest bl br b xs ps d q at n m u st c h = both_by i j x y t s l r rest bl br b xs ps d q at n m u st c h
  both_back true i j x y t s l r rest bl br b xs ps d q at n m u st c h = (let e : true ≡ false = h.0 in absurd cc)

  -- ---- branches

  -- The text of branches makes them.
  abbrev BackBranches : Branches → Type 0
  BackBranches bs = (xs : List ℕ) (ps : List PlaceName) (d : Destination) (q : Place) (at n m : ℕ) (u : List ℕ) → Stands nm xs ps d q at n → Clear nm u n m → IsBranch bs → HasBranches p bs xs d n m
      → build_arms p (arms_or (branches_text nm p.table bs d at)) (world nm xs ps d q) (passed n u) ≡ Ok (record { branches = bs; passed = passed m u })

  case_back : (x : Atom) (bs : Branches) → BackBranches bs → Backs p nm ok (CaseTerm x bs)
  case_back x bs back xs ps d q at n m u st c h =
      let w : Around = world nm xs ps d q in
      ap (λ (z : Placed Branched). and_then z (λ r. Ok (record { term = CaseTerm (a.Variable (variable w (atom_name nm x))) r.branches; passed = r.passed }))) (back xs ps d q at n m u st c h.1 h.2)
      ∙ (λ i. Ok (record { term = CaseTerm (named_back nm ok xs ps d q x h.0 i) bs; passed = passed m u }))

  stands_more : (xs : List ℕ) (ps : List PlaceName) (d : Destination) (q : Place) (at n k : ℕ) → n ≤ k → Stands nm xs ps d q at n → Stands nm xs ps d q at k
  stands_more xs ps d q at n k le st = record { here = st.here; below = (let lt = st.below in omega (arith, lt, le)); head = st.head; head_below = below_more n k d le st.head_below; standing = st.standing }

  if_back : (x : Atom) (t r : Term) → Backs p nm ok t → Backs p nm ok r → Backs p nm ok (IfTerm x t r)
  if_back x t r back_t back_r xs ps d q at n m u st c h =
      let w : Around = world nm xs ps d q in
      let k : ℕ = h.1.0 in
      let le1 : n ≤ k = text_up p t xs d n k h.1.1 in
      let le2 : k ≤ m = text_up p r xs d k m h.1.2 in
      let two : Line = text_of nm p.table r d at in
      ap (λ (z : Placed Termed). and_then z (λ o. and_then (build p two w o.passed) (λ e. Ok (record { term = IfTerm (atom w (operand nm x)) o.term e.term; passed = e.passed }))))
      (back_t xs ps d q at n k u st (clear_part nm u n m n k (omega arith) le2 c) h.1.1)
      ∙ (ap (λ (z : Placed Termed). and_then z (λ e. Ok (record { term = IfTerm (atom w (operand nm x)) t e.term; passed = e.passed })))
      (back_r xs ps d q at k m u (stands_more xs ps d q at n k le1 st) (clear_part nm u n m k m le1 (omega arith) c) h.1.2)
      ∙ (λ i. Ok (record { term = IfTerm (atom_back nm ok xs ps d q x h.0 i) t r; passed = passed m u })))

  -- The variables of an arm come into scope.
  scope_names_from : (n : ℕ) (ys : List Variable) (xs : List ℕ) → ys ≡ variables_from n ys → with_variables n (map (named nm) ys) (scope_names nm xs) ≡ scope_names nm (scope_from n ys xs)
  scope_names_from n [] xs e = refl
  scope_names_from n (y ∷ ys) xs e =
      let first : y.0 ≡ n = ap (λ (l : List Variable). number_or l) e in
      let rest : ys ≡ variables_from (n + 1) ys = ap (λ (l : List Variable). tail l) e in
      ap (λ k. with_variables (n + 1) (map (named nm) ys) ((nm.variable k, n) ∷ scope_names nm xs)) first
      ∙ scope_names_from (n + 1) ys (n ∷ xs) rest
    where
      number_or : List Variable → ℕ
      number_or [] = n
      number_or (z ∷ zs) = z.0

      tail : List Variable → List Variable
      tail [] = []
      tail (z ∷ zs) = zs

  length_names : (ys : List Variable) → length (map (named nm) ys) ≡ length ys
  length_names [] = refl
  length_names (y ∷ ys) = ap suc (length_names ys)

  variables_names : (n : ℕ) (ys : List Variable) → variables_from n (map (named nm) ys) ≡ variables_from n ys
  variables_names n [] = refl
  variables_names n (y ∷ ys) = ap (λ (l : List Variable). record { 0 = n } ∷ l) (variables_names (n + 1) ys)

  standing_from : {A : Type 0} (n : ℕ) (ys : List A) (xs : List ℕ) (d : Destination) → StandInScope xs d → StandInScope (scope_from n ys xs) d
  standing_from n [] xs d h = h
  standing_from n (y ∷ ys) xs d h = standing_from (n + 1) ys (n ∷ xs) d (standing_past n xs d h)

  arm_line : (t : Term) → Backs p nm ok t → (ys : List Variable) (xs : List ℕ) (ps : List PlaceName) (d : Destination) (q : Place) (at n j m : ℕ) (u : List ℕ) → Stands nm xs ps d q at n → Clear nm u n m → j ≤ m
      → ys ≡ variables_from n ys → HasText p t (scope_from n ys xs) d (n + length ys) j
      → build p (text_of nm p.table t d at) (record (world nm xs ps d q) { variables = with_variables n (map (named nm) ys) (scope_names nm xs) }) (numbered_on (length (map (named nm) ys)) (passed n u)) ≡ Ok (record { term = t; passed = passed j u })
  arm_line t back ys xs ps d q at n j m u st c le e h =
      let line : Line = text_of nm p.table t d at in
      let k : ℕ = n + length ys in
      (λ i. build p line (record { variables = scope_names_from n ys xs e i; places = ps; destination = d; at = q }) (passed (n + length_names ys i) u))
      ∙ back (scope_from n ys xs) ps d q at k j u
      (record { here = st.here; below = (let lt = st.below in omega (arith, lt)); head = st.head; head_below = below_more n k d (omega arith) st.head_below; standing = standing_from n ys xs d st.standing })
      (clear_part nm u n m k j (omega arith) le c) h

  branch_back : (k : ConId) (ys : List Variable) (t : Term) (bs : Branches) → Backs p nm ok t → BackBranches bs → BackBranches (BranchThen k ys t bs)
  branch_back k ys t NoBranch back more xs ps d q at n m u st c b h =
      let names : List Ident = map (named nm) ys in
      ap (λ (z : Placed Termed). and_then z (λ r. Ok (record { branches = BranchThen (con p.table (con_text p.table k)) (variables_from n names) r.term NoBranch; passed = r.passed })))
      (arm_line t back ys xs ps d q at n h.2.0 m u st c (let e : h.2.0 ≡ m = h.2.2 in omega (arith, e)) h.0 h.2.1)
      ∙ (λ i. Ok (record { branches = BranchThen (con_back p.table k h.1 i) ((variables_names n ys ∙ sym h.0) i) t NoBranch; passed = passed (h.2.2 i) u }))
  branch_back k ys t (BranchThen k2 ys2 t2 bs) back more xs ps d q at n m u st c b h =
      let names : List Ident = map (named nm) ys in
      let j : ℕ = h.2.0 in
      let up : j ≤ m = branches_up p (BranchThen k2 ys2 t2 bs) xs d j m h.2.2 in
      let on : n + length ys ≤ j = text_up p t (scope_from n ys xs) d (n + length ys) j h.2.1 in
      let w : Around = world nm xs ps d q in
      let arms : Arms = arms_or (branches_text nm p.table (BranchThen k2 ys2 t2 bs) d at) in
      ap (λ (z : Placed Termed). and_then z (λ r. and_then (build_arms p arms w r.passed) (λ o. Ok (record { branches = BranchThen (con p.table (con_text p.table k)) (variables_from n names) r.term o.branches; passed = o.passed }))))
      (arm_line t back ys xs ps d q at n j m u st c up h.0 h.2.1)
      ∙ (ap (λ (z : Placed Branched). and_then z (λ o. Ok (record { branches = BranchThen (con p.table (con_text p.table k)) (variables_from n names) t o.branches; passed = o.passed })))
      (more xs ps d q at j m u (stands_more xs ps d q at n j (omega (arith, on)) st) (clear_part nm u n m j m (omega (arith, on)) (omega arith) c) tt h.2.2)
      ∙ (λ i. Ok (record { branches = BranchThen (con_back p.table k h.1 i) ((variables_names n ys ∙ sym h.0) i) t (BranchThen k2 ys2 t2 bs); passed = passed m u })))

  mutual
    pub back : (t : Term) → Backs p nm ok t
    back (Then (Past h k) rest) = past_back p nm ok h k rest (back rest)
    back (Then (One (On kind x t u)) rest) = one_back p nm ok kind x t u rest (back u) (back rest)
    back (Then (Both fork (On i x t l) (On j y s r)) rest) = both_back fork i j x y t s l r rest (back l) (back r) (back rest)
    back (Then (One (Several ys ts u)) rest) = λ xs ps d q at n m u st c h. absurd h.1
    back (Then (Both fork (On i x t l) (Several ys ts r)) rest) = λ xs ps d q at n m u st c h. absurd h.1.2.1
    back (Then (Both fork (Several ys ts l) r) rest) = λ xs ps d q at n m u st c h. absurd h.1.1
    back (Then (Prim x f y z) rest) = prim_back p nm ok x f y z rest (back rest)
    back (Then (Reach y by) rest) = reach_back p nm ok y by rest (back rest)
    back (Write h k ss ps) = write_back p nm ok h k ss ps
    back (Point x) = point_back p nm ok x
    back (CallTerm f ys) = call_back p nm ok f ys
    back (Give x) = give_back p nm ok x
    back (CaseTerm x bs) = case_back x bs (branches_back bs)
    back (IfTerm x t u) = if_back x t u (back t) (back u)
    back (Tuple ts ss zs) = λ xs ps d q at n m u st c h. absurd h

    branches_back : (bs : Branches) → BackBranches bs
    branches_back NoBranch = λ xs ps d q at n m u st c b h. absurd b
    branches_back (BranchThen k ys t bs) = branch_back k ys t bs (back t) (branches_back bs)

  -- ---- bodies

  parameter_names : (n : ℕ) (ts : List Ty) (xs : List ℕ) → with_variables n (map (λ (q : Parameter). q.name) (parameters_text nm p.table n ts)) (scope_names nm xs) ≡ scope_names nm (scope_from n ts xs)
  parameter_names n [] xs = refl
  parameter_names n (t ∷ ts) xs = parameter_names (n + 1) ts (n ∷ xs)

  parameter_count : (n : ℕ) (ts : List Ty) → length (parameters_text nm p.table n ts) ≡ length ts
  parameter_count n [] = refl
  parameter_count n (t ∷ ts) = ap suc (parameter_count (n + 1) ts)

  parameter_types : (n : ℕ) (ts : List Ty) → AllByRecursion (IsWritten p.table) ts → types_of p.table.types (parameters_text nm p.table n ts) ≡ ts
  parameter_types n [] h = refl
  parameter_types n (t ∷ ts) h = λ i. h.0 i ∷ parameter_types (n + 1) ts h.1 i

  line_back : (ts : List Ty) (t : Ty) (u : Term) (ps : List PlaceName) (h : HasBody p ts t u) → (is_nowhere (result_place (results.One t)) ≡ false → meant ps (nm.location 0) ≡ Some (IsPlace AtResult))
      → build p (text_of nm p.table u (result_place (results.One t)) 0) (opening (parameters_text nm p.table 0 ts) ps t) (passed (length (parameters_text nm p.table 0 ts)) []) ≡ Ok (record { term = u; passed = passed h.next [] })
  line_back ts t u ps h here =
      let d : Destination = result_place (results.One t) in
      (λ i. build p (text_of nm p.table u d 0) (record { variables = parameter_names 0 ts [] i; places = ps; destination = d; at = AtResult }) (passed (parameter_count 0 ts i) []))
      ∙ back u (scope_from 0 ts []) ps d AtResult 0 (length ts) h.next [] (record { here = here; below = h.some; head = none_open t; head_below = none_below t; standing = none_stand t }) (λ j lo hi. refl) h.term
    where
      none_open : (t : Ty) → HeadNamed nm ps (result_place (results.One t))
      none_open WholeTy = tt
      none_open TruthTy = tt
      none_open (TreeTy i) = tt

      none_below : (t : Ty) → HeadBelow (length ts) (result_place (results.One t))
      none_below WholeTy = tt
      none_below TruthTy = tt
      none_below (TreeTy i) = tt

      none_stand : (t : Ty) → StandInScope (scope_from 0 ts []) (result_place (results.One t))
      none_stand WholeTy = tt
      none_stand TruthTy = tt
      none_stand (TreeTy i) = tt

  body_by : (t : Ty) (ts : List Ty) (u : Term) (h : HasBody p ts t u)
      → body (is_scalar t) p (parameters_text nm p.table 0 ts) (type_text p.table t) t (result_mark nm t) (text_of nm p.table u (result_place (results.One t)) 0) ≡ Ok (record { term = u; passed = passed h.next [] })
  body_by WholeTy ts u h = line_back ts WholeTy u [] h (λ e. absurd cc)
  body_by TruthTy ts u h = line_back ts TruthTy u [] h (λ e. absurd cc)
  body_by (TreeTy i) ts u h = line_back ts (TreeTy i) u ((nm.location 0, IsPlace AtResult) ∷ []) h (λ e. meant_here (nm.location 0) (IsPlace AtResult) [])

  body_back : (t : Ty) (ts : List Ty) (u : Term) (h : HasBody p ts t u)
      → build_body p (parameters_text nm p.table 0 ts) (type_text p.table t) (result_mark nm t) (text_of nm p.table u (result_place (results.One t)) 0) ≡ Ok (record { term = u; passed = passed h.next [] })
  body_back t ts u h =
      let qs : List Parameter = parameters_text nm p.table 0 ts in
      ap (λ (s : Ty). body (is_scalar s) p qs (type_text p.table t) s (result_mark nm t) (text_of nm p.table u (result_place (results.One t)) 0)) h.result_written ∙ body_by t ts u h

  -- What a function gives is one thing, of a type that is written by its name.
  single_back : (r : Results Ty) (ts : List Ty) (u : Term) → HasResult p ts r u → results.One (type_of_name p.table.types (result_text p.table r)) ≡ r
  single_back (results.One t) ts u h = ap results.One h.result_written
  single_back (results.Several rs) ts u h = absurd h

  parameters_back : (r : Results Ty) (ts : List Ty) (u : Term) → HasResult p ts r u → types_of p.table.types (parameters_text nm p.table 0 ts) ≡ ts
  parameters_back (results.One t) ts u h = parameter_types 0 ts h.parameters_written
  parameters_back (results.Several rs) ts u h = absurd h

  -- Goes on behind the body of a function.
  result_back : {A : Type 0} (r : Results Ty) (ts : List Ty) (u : Term) (go : Term → Placed A) → HasResult p ts r u
      → and_then (build_body p (parameters_text nm p.table 0 ts) (result_text p.table r) (results_mark nm r) (text_of nm p.table u (result_place r) 0)) (λ (s : Termed). go s.term) ≡ go u
  result_back (results.One t) ts u go h = ap (λ (z : Placed Termed). and_then z (λ (s : Termed). go s.term)) (body_back t ts u h)
  result_back (results.Several rs) ts u go h = absurd h

  functions_back : (fs : List FunctionTerm) → AllByRecursion (λ (f : FunctionTerm). HasResult p f.parameters f.result f.body) fs → build_functions p (map (function_text nm p.table) fs) ≡ Ok fs
  functions_back [] h = refl
  functions_back (f ∷ fs) h =
      let qs : List Parameter = parameters_text nm p.table 0 f.parameters in
      let make : List Ty → Results Ty → Term → FunctionTerm = λ ts t u. record { name = f.name; parameters = ts; result = t; body = u } in
      let one : Results Ty = results.One (type_of_name p.table.types (result_text p.table f.result)) in
      result_back f.result f.parameters f.body (λ u. and_then (build_functions p (map (function_text nm p.table) fs)) (λ rest. Ok (make (types_of p.table.types qs) one u ∷ rest))) h.0
      ∙ (ap (λ (z : Placed (List FunctionTerm)). and_then z (λ rest. Ok (make (types_of p.table.types qs) one f.body ∷ rest))) (functions_back fs h.1)
      ∙ (λ i. Ok (make (parameters_back f.result f.parameters f.body h.0 i) (single_back f.result f.parameters f.body h.0 i) f.body ∷ fs)))

offsets_back : (tb : Table) (ks : List ConId) → AllByRecursion (IsFound tb) ks → map (con tb) (map (con_text tb) ks) ≡ ks
offsets_back tb [] h = refl
offsets_back tb (k ∷ ks) h = λ i. con_back tb k h.0 i ∷ offsets_back tb ks h.1 i

-- The text of a core makes that core.
pub core_back : (nm : Naming) (datas : List DataTree) (core : CoreTree) → Apart nm → HasCore nm datas core → build_core (local_of nm datas core) ≡ Ok (with_ends core)
unfolding build_core
core_back nm datas core ok h =
    let t : LocalTree = local_of nm datas core in
    let p : Program = program_of nm core in
    let tb : Table = core.table in
    let made : Program → List FunctionTerm → Term → CoreTree = λ p fs u. record {
      table = p.table;
      functions = fs;
      main = record { parameter = type_of_name p.table.types t.main.parameter.ty; result = type_of_name p.table.types t.main.result; body = u };
      offsets = map (con p.table) t.offsets;
      marked = true;
    } in
    let go : Program → Placed CoreTree = λ p.
    and_then (build_functions p t.functions) (λ fs. and_then (build_body p (t.main.parameter ∷ []) t.main.result t.main.place t.main.body) (λ m. Ok (made p fs m.term))) in
    ap (λ (s : Table). go (record { table = s; functions = t.functions })) h.table
    ∙ (ap (λ (z : Placed (List FunctionTerm)). and_then z (λ fs. and_then (build_body p (t.main.parameter ∷ []) t.main.result t.main.place t.main.body) (λ m. Ok (made p fs m.term)))) (functions_back p nm ok core.functions h.functions)
    ∙ (ap (λ (z : Placed Termed). and_then z (λ m. Ok (made p core.functions m.term))) (body_back p nm ok core.main.result (core.main.parameter ∷ []) core.main.body h.main)
    ∙ (λ i. Ok (record {
      table = tb;
      functions = core.functions;
      main = record { parameter = h.main.parameters_written.0 i; result = h.main.result_written i; body = core.main.body };
      offsets = offsets_back tb core.offsets h.offsets i;
      marked = true;
    }))))
