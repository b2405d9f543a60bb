-- The text of a core makes that core.
use Rattle.std.proofs.Common.{◌≡◌, ℕ, ◌+◌, ◌<◌, ◌≤◌, Bool, true, false, if◌then◌else◌, List, [], ◌∷◌, ◌++◌, length, Option, Some, None, Ok, refl, sym, ap, ◌∙◌, subst, arith}
use Rattle.std.specs.List.{AllByRecursion}
use Rattle.gib_types.specs.declared.table.Ty.{Ty}
use Rattle.gib_types.specs.declared.table.ConId.{ConId}
use Rattle.gib_types.specs.Table.{Table, is_scalar}
use Rattle.gib_syntax.specs.declared.tree.Ident.{Ident}
use Rattle.gib_syntax.specs.declared.tree.TypeName.{TypeName}
use Rattle.gib_syntax.specs.Declarations.{type_of_name}
use Rattle.gib_core.specs.declared.atom.Variable.{Variable}
use Rattle.gib_core.specs.declared.atom.Kind.{Kind}
use Rattle.gib_core.specs.declared.atom.Kind.TheVariants.{Here, Region, Scalar}
use Rattle.gib_core.specs.Tree.{Term, Then, Write, Point, CallTerm, Give, CaseTerm, IfTerm, Tuple, Past, One, Both, Prim, Reach, On, Several, Branches, NoBranch, BranchThen}
use Rattle.gib_core.specs.Met.{Destination, Nowhere, Empty, Open, InParts, stands_too, with_field}
use Rattle.gib_core.specs.Rules.{has_room, is_nowhere}
use Rattle.gib_core.proofs.Facts.{itself}
use Rattle.gib_local_parse.specs.Tree.{Line, In, LetIn, Bound, Be}
use Rattle.gib_local_parse.specs.declared.tree.Mark.{Mark}
use Rattle.gib_local.specs.Building.{Placed, PlaceName, Around, Passed, Termed, Sided, Program, and_then, meant, is_in, next_place, kind_for, kind_at, used_too, is_flat, sided, put_at, bind, build, build_binding, build_bound}
use Rattle.gib_local.specs.declared.place.Place.{Place}
use Rattle.gib_local.specs.declared.place.Place.TheVariants.{AtStart, AtFirst, AtNext}
use Rattle.gib_local.specs.declared.place.Meant.{Meant}
use Rattle.gib_local.specs.declared.place.Meant.TheVariants.{IsPlace}
use Rattle.gib_local_print.specs.Printing.{Naming, Apart, nowhere, mark, named, type_text, side_number, side_place, are_fields, text_of, side_text}
use Rattle.gib_local_print.specs.HasText.{MayStand, IsWritten, scope_from, HasText, OpensText, HasBranches}
use Rattle.gib_local_print.proofs.World.{in_past, in_other, without_past, scope_names, world, passed}
use Rattle.gib_local_print.proofs.Ready.{step, field_place, field_kind, field_used, behind_end, HeadNamed, HeadBelow, StandInScope, Stands, Extends, IsReady, places_before, unused_before, before_back, ready, before_extends}

-- ---- numbers go up

module _ (p : Program) where
  opens_up : (h : Variable) (k : ConId) (rest : Term) (xs : List ℕ) (d : Destination) (n m : ℕ) (More : Type 0) (f : Bool) → (More → n + 1 ≤ m) → OpensText p h k rest xs d n m More f → n ≤ m
  opens_up h k rest xs d n m More true up t = (let e : m ≡ n + 1 = t.1 in omega (arith, e))
  opens_up h k rest xs d n m More false up t = (let le : n + 1 ≤ m = up t.3 in omega (arith, le))

  mutual
    pub text_up : (t : Term) (xs : List ℕ) (d : Destination) (n m : ℕ) → HasText p t xs d n m → n ≤ m
    text_up (Then (Past h k) rest) xs d n m t = opens_up h k rest xs d n m (HasText p rest xs (Open h k []) (n + 1) m) (is_flat p.table k) (text_up rest xs (Open h k []) (n + 1) m) t
    text_up (Then (One (On kind x ty u)) rest) xs d n m t =
        let one = text_up u xs (side_place kind) (n + 1) t.0 t.1.3 in
        let two = text_up rest (x.0 ∷ xs) (stands_too kind x d) t.0 m t.2 in
        omega (arith, one, two)
    text_up (Then (Both fork (On i x ty u) (On j y s w)) rest) xs d n m t =
        let a = t.1.0 in
        let b = t.1.2.0 in
        let one = text_up u xs (side_place i) (n + 1) a t.1.1.3 in
        let two = text_up w xs (side_place j) (a + 1) b t.1.2.1.3 in
        let three = text_up rest (y.0 ∷ x.0 ∷ xs) (stands_too j y (stands_too i x d)) b m t.1.2.2 in
        omega (arith, one, two, three)
    text_up (Then (One (Several ys ts u)) rest) xs d n m t = absurd t.1
    text_up (Then (Both fork (On i x ty u) (Several ys ts w)) rest) xs d n m t = absurd t.1.2.1
    text_up (Then (Both fork (Several ys ts u) r) rest) xs d n m t = absurd t.1.1
    text_up (Then (Prim x f y z) rest) xs d n m t = (let le = text_up rest (x.0 ∷ xs) d (n + 1) m t.3 in omega (arith, le))
    text_up (Then (Reach y by) rest) xs d n m t = text_up rest xs d n m t.2
    text_up (Write h k ss ps) xs d n m t = (let e : n ≡ m = t.0 in omega (arith, e))
    text_up (Point x) xs d n m t = (let e : n ≡ m = t.0 in omega (arith, e))
    text_up (CallTerm f ys) xs d n m t = (let e : n ≡ m = t.0 in omega (arith, e))
    text_up (Give x) xs d n m t = (let e : n ≡ m = t.0 in omega (arith, e))
    text_up (CaseTerm x bs) xs d n m t = branches_up bs xs d n m t.2
    text_up (IfTerm x u v) xs d n m t = (let one = text_up u xs d n t.1.0 t.1.1 in let two = text_up v xs d t.1.0 m t.1.2 in omega (arith, one, two))
    text_up (Tuple ts ss ps) xs d n m t = absurd t

    pub branches_up : (bs : Branches) (xs : List ℕ) (d : Destination) (n m : ℕ) → HasBranches p bs xs d n m → n ≤ m
    branches_up NoBranch xs d n m t = (let e : n ≡ m = t in omega (arith, e))
    branches_up (BranchThen k ys t bs) xs d n m h =
        let j = h.2.0 in
        let one = text_up t (scope_from n ys xs) d (n + length ys) j h.2.1 in
        let two = branches_up bs xs d j m h.2.2 in
        omega (arith, one, two)

-- ---- regions that are not used yet

-- None of them is named by one of these numbers.
abbrev pub Clear : Naming → List ℕ → ℕ → ℕ → Type 0
Clear nm u n m = (j : ℕ) → n ≤ j → j < m → is_in u (nm.region j) ≡ false

pub clear_part : (nm : Naming) (u : List ℕ) (n m a b : ℕ) → n ≤ a → b ≤ m → Clear nm u n m → Clear nm u a b
clear_part nm u n m a b le ge c = λ j lo hi. c j (omega (arith, le, lo)) (omega (arith, ge, hi))

pub clear_more : (nm : Naming) → Apart nm → (kind : Kind) (u : List ℕ) (n y : ℕ) → Clear nm u n y → Clear nm (unused_before nm kind y u) n y
clear_more nm ok Here u n y c = c
clear_more nm ok Region u n y c = λ j lo hi. in_other (nm.region y) (nm.region j) u (λ e. let same : y ≡ j = ok.regions y j e in absurd (omega (arith, same, hi))) ∙ c j lo hi
clear_more nm ok Scalar u n y c = c

-- ---- what stands behind a side

nowhere_kept : (kind : Kind) (x : Variable) (d : Destination) → is_nowhere (stands_too kind x d) ≡ is_nowhere d
nowhere_kept Here x Nowhere = refl
nowhere_kept Here x Empty = refl
nowhere_kept Here x (InParts ts) = refl
nowhere_kept Here x (Open h k st) = refl
nowhere_kept Region x d = refl
nowhere_kept Scalar x d = refl

pub head_as : (nm : Naming) (n : ℕ) (ps new : List PlaceName) (d : Destination) → Extends nm n ps new → HeadBelow n d → HeadNamed nm ps d → HeadNamed nm new d
head_as nm n ps new Nowhere e b h = tt
head_as nm n ps new Empty e b h = tt
head_as nm n ps new (InParts ts) e b h = tt
head_as nm n ps new (Open g c st) e b h = e.same g.0 b ∙ h

head_kept : (nm : Naming) (kind : Kind) (x : Variable) (ps : List PlaceName) (d : Destination) → HeadNamed nm ps d → HeadNamed nm ps (stands_too kind x d)
head_kept nm Here x ps Nowhere h = tt
head_kept nm Here x ps Empty h = tt
head_kept nm Here x ps (InParts ts) h = tt
head_kept nm Here x ps (Open g c st) h = h
head_kept nm Region x ps d h = h
head_kept nm Scalar x ps d h = h

pub below_more : (n k : ℕ) (d : Destination) → n ≤ k → HeadBelow n d → HeadBelow k d
below_more n k Nowhere le h = tt
below_more n k Empty le h = tt
below_more n k (InParts ts) le h = tt
below_more n k (Open g c st) le h = omega (arith, le, h)

below_kept : (n : ℕ) (kind : Kind) (x : Variable) (d : Destination) → HeadBelow n d → HeadBelow n (stands_too kind x d)
below_kept n Here x Nowhere h = tt
below_kept n Here x Empty h = tt
below_kept n Here x (InParts ts) h = tt
below_kept n Here x (Open g c st) h = h
below_kept n Region x d h = h
below_kept n Scalar x d h = h

all_in_past : (x : ℕ) (xs : List ℕ) (ys : List Variable) → AllByRecursion (λ (y : Variable). is_in xs y.0 ≡ true) ys → AllByRecursion (λ (y : Variable). is_in (x ∷ xs) y.0 ≡ true) ys
all_in_past x xs [] h = tt
all_in_past x xs (y ∷ ys) h = (in_past x y.0 xs h.0, all_in_past x xs ys h.1)

all_in_end : (xs : List ℕ) (ys : List Variable) (x : Variable) → AllByRecursion (λ (y : Variable). is_in xs y.0 ≡ true) ys → is_in xs x.0 ≡ true → AllByRecursion (λ (y : Variable). is_in xs y.0 ≡ true) (ys ++ x ∷ [])
all_in_end xs [] x h e = (e, tt)
all_in_end xs (y ∷ ys) x h e = (h.0, all_in_end xs ys x h.1 e)

pub standing_past : (x : ℕ) (xs : List ℕ) (d : Destination) → StandInScope xs d → StandInScope (x ∷ xs) d
standing_past x xs Nowhere h = tt
standing_past x xs Empty h = tt
standing_past x xs (InParts ts) h = tt
standing_past x xs (Open g c st) h = all_in_past x xs st h

standing_kept : (kind : Kind) (x : Variable) (xs : List ℕ) (d : Destination) → StandInScope xs d → StandInScope (x.0 ∷ xs) (stands_too kind x d)
standing_kept Here x xs Nowhere h = tt
standing_kept Here x xs Empty h = tt
standing_kept Here x xs (InParts ts) h = tt
standing_kept Here x xs (Open g c st) h = all_in_end (x.0 ∷ xs) st x (all_in_past x.0 xs st h) (ap (λ b. if b then true else is_in xs x.0) (itself x.0))
standing_kept Region x xs d h = standing_past x.0 xs d h
standing_kept Scalar x xs d h = standing_past x.0 xs d h

pub stands_on : (nm : Naming) (kind : Kind) (x : Variable) (xs : List ℕ) (ps new : List PlaceName) (d : Destination) (q : Place) (at n k : ℕ) → Extends nm n ps new → n ≤ k → Stands nm xs ps d q at n
    → Stands nm (x.0 ∷ xs) new (stands_too kind x d) q at k
stands_on nm kind x xs ps new d q at n k e le h = record {
  here = λ f. e.same at h.below ∙ h.here (sym (nowhere_kept kind x d) ∙ f);
  below = (let lt = h.below in omega (arith, lt, le));
  head = head_kept nm kind x new d (head_as nm n ps new d e h.head_below h.head);
  head_below = below_kept k kind x d (below_more n k d le h.head_below);
  standing = standing_kept kind x xs d h.standing;
}

pub number_below : (d : Destination) (kind : Kind) (n x : ℕ) → HeadBelow n d → n ≤ x → side_number d kind x ≤ x
number_below Nowhere Here n x h le = omega arith
number_below Empty Here n x h le = omega arith
number_below (InParts ts) Here n x h le = omega arith
number_below (Open g c []) Here n x h le = omega (arith, h, le)
number_below (Open g c (y ∷ ys)) Here n x h le = omega arith
number_below d Region n x h le = omega arith
number_below d Scalar n x h le = omega arith

-- ---- one side or two

pub may_kept : (tb : Table) (i j : Kind) (x : Variable) (d : Destination) (t : Ty) → are_fields i j ≡ false → MayStand tb (stands_too i x d) j t → MayStand tb d j t
may_kept tb Here Here x d t e h = absurd cc
may_kept tb Here Region x d t e h = h
may_kept tb Here Scalar x d t e h = h
may_kept tb Region j x d t e h = h
may_kept tb Scalar j x d t e h = h

pub ready_at : (nm : Naming) (tb : Table) (ps : List PlaceName) (i j : Kind) (x : Variable) (d : Destination) (n : ℕ) (u w : List ℕ) → are_fields i j ≡ false → IsReady nm tb ps d j n u w → IsReady nm tb ps (stands_too i x d) j n u w
ready_at nm tb ps Here Here x d n u w e h = absurd cc
ready_at nm tb ps Here Region x d n u w e h = h
ready_at nm tb ps Here Scalar x d n u w e h = h
ready_at nm tb ps Region j x d n u w e h = h
ready_at nm tb ps Scalar j x d n u w e h = h

pub ready_over : (nm : Naming) (tb : Table) (ps new : List PlaceName) (d : Destination) (kind : Kind) (n y : ℕ) (u w : List ℕ) → Extends nm y ps new → n < y → IsReady nm tb ps d kind n u w → IsReady nm tb new d kind n u w
ready_over nm tb ps new d Here n y u w e lt h = (e.same n lt ∙ h.0, h.1, h.2)
ready_over nm tb ps new d Region n y u w e lt h = (e.same n lt ∙ h.0, h.1, h.2)
ready_over nm tb ps new d Scalar n y u w e lt h = h

pub ready_with : (nm : Naming) → Apart nm → (tb : Table) (ps : List PlaceName) (d : Destination) (kind j : Kind) (n y : ℕ) (u w : List ℕ) → n < y → IsReady nm tb ps d kind n u w
    → IsReady nm tb ps d kind n (unused_before nm j y u) (unused_before nm j y w)
ready_with nm ok tb ps d kind Here n y u w lt h = h
ready_with nm ok tb ps d Here Region n y u w lt h = (h.0, h.1, ap (λ l. nm.region y ∷ l) h.2)
ready_with nm ok tb ps d Region Region n y u w lt h = (
  h.0,
  in_past (nm.region y) (nm.region n) u h.1,
  without_past (nm.region n) (nm.region y) u (λ e. let same : y ≡ n = ok.regions y n e in absurd (omega (arith, same, lt))) ∙ ap (λ l. nm.region y ∷ l) h.2,
)
ready_with nm ok tb ps d Scalar Region n y u w lt h = ap (λ l. nm.region y ∷ l) h
ready_with nm ok tb ps d kind Scalar n y u w lt h = h

pub room_open : (tb : Table) (x : Variable) (d : Destination) → has_room tb (with_field x d) ≡ true → field_place (with_field x d) ≡ AtNext x.0
room_open tb x Nowhere e = absurd cc
room_open tb x Empty e = absurd cc
room_open tb x (InParts ts) e = absurd cc
room_open tb x (Open g c st) e = behind_end (AtFirst g.0) st x

module _ (p : Program) (nm : Naming) (ok : Apart nm) where
  -- The text of the term makes the term.
  abbrev pub Backs : Term → Type 0
  Backs t = (xs : List ℕ) (ps : List PlaceName) (d : Destination) (q : Place) (at n m : ℕ) (u : List ℕ) → Stands nm xs ps d q at n → Clear nm u n m → HasText p t xs d n m
      → build p (text_of nm p.table t d at) (world nm xs ps d q) (passed n u) ≡ Ok (record { term = t; passed = passed m u })

  placed_back : (kind : Kind) (line : Line) (x : Variable) (t : Ty) (u : Term) (w : TypeName) (mk : Mark) (xs : List ℕ) (ps : List PlaceName) (d : Destination) (q there : Place) (un used : List ℕ) (m : ℕ)
      → type_of_name p.table.types w ≡ t → is_scalar t ≡ false → meant ps mk.name.name.0 ≡ Some (IsPlace there) → kind_for (next_place p.table d) un there ≡ Some kind → used_too there un ≡ used
      → build p line (world nm xs ps Empty there) (passed (x.0 + 1) used) ≡ Ok (record { term = u; passed = passed m used })
      → build_bound p (Be (named nm x) w (Some mk) line) (world nm xs ps d q) (passed x.0 un) ≡ Ok (record { side = On kind x t u; destination = stands_too kind x d; passed = passed m used })
  placed_back kind line x t u w mk xs ps d q there un used m e1 e2 e3 e4 e5 e6 =
      let h : Around = world nm xs ps d q in
      let v : Passed = passed x.0 un in
      let y : Ident = named nm x in
      let next : Option Place = next_place p.table d in
      let ends : Placed Termed → Placed Sided = λ z. and_then z (λ r. Ok (sided h kind y x.0 t r)) in
      ap (λ (s : Ty). bind (is_scalar s) p.table (build p line) h v y w s (Some mk)) e1
      ∙ (ap (λ (b : Bool). bind b p.table (build p line) h v y w t (Some mk)) e2
      ∙ (ap (λ (o : Option Meant). put_at (build p line) h v y t mk o (kind_at next un o)) e3
      ∙ (ap (λ (k : Option Kind). put_at (build p line) h v y t mk (Some (IsPlace there)) k) e4
      ∙ (ap (λ (l : List ℕ). ends (build p line (world nm xs ps Empty there) (passed (x.0 + 1) l))) e5
      ∙ ap ends e6))))

  inner_stands : (xs : List ℕ) (ps : List PlaceName) (there : Place) (n k : ℕ) → meant ps (nm.location n) ≡ Some (IsPlace there) → n < k → Stands nm xs ps Empty there n k
  inner_stands xs ps there n k e lt = record { here = λ f. e; below = lt; head = tt; head_below = tt; standing = tt }

  pub side_back : (kind : Kind) (x : Variable) (t : Ty) (u : Term) (num : ℕ) (xs : List ℕ) (ps : List PlaceName) (d : Destination) (q : Place) (un used : List ℕ) (m : ℕ)
      → Backs u → IsReady nm p.table ps d kind num un used → num ≤ x.0 → Clear nm used (x.0 + 1) m
      → MayStand p.table d kind t → IsWritten p.table t → HasText p u xs (side_place kind) (x.0 + 1) m
      → build_bound p (side_text nm p.table (On kind x t u) num) (world nm xs ps d q) (passed x.0 un) ≡ Ok (record { side = On kind x t u; destination = stands_too kind x d; passed = passed m used })
  side_back Here x t u num xs ps d q un used m back r le c may w h =
      placed_back Here (text_of nm p.table u Empty num) x t u (type_text p.table t) (mark nm num) xs ps d q (field_place d) un used m w may.1 r.0 (field_kind p.table d un r.1) (field_used d un ∙ r.2)
      (back xs ps Empty (field_place d) num (x.0 + 1) m used (inner_stands xs ps (field_place d) num (x.0 + 1) r.0 (omega (arith, le))) c h)
  side_back Region x t u num xs ps d q un used m back r le c may w h =
      let there : Place = AtStart (nm.region num) in
      placed_back Region (text_of nm p.table u Empty num) x t u (type_text p.table t) (mark nm num) xs ps d q there un used m w may r.0 (ap (λ b. if b then Some Region else None) r.1) r.2
      (back xs ps Empty there num (x.0 + 1) m used (inner_stands xs ps there num (x.0 + 1) r.0 (omega (arith, le))) c h)
  side_back Scalar x t u num xs ps d q un used m back r le c may w h =
      let line : Line = text_of nm p.table u Nowhere num in
      let g : Around = world nm xs ps d q in
      let y : Ident = named nm x in
      let ends : Placed Termed → Placed Sided = λ z. and_then z (λ r. Ok (sided g Scalar y x.0 t r)) in
      let stands : Stands nm xs ps Nowhere q num (x.0 + 1) = record { here = λ f. absurd cc; below = omega (arith, le); head = tt; head_below = tt; standing = tt } in
      ap (λ (s : Ty). bind (is_scalar s) p.table (build p line) g (passed x.0 un) y (type_text p.table t) s None) w
      ∙ (ap (λ (b : Bool). bind b p.table (build p line) g (passed x.0 un) y (type_text p.table t) t None) may
      ∙ (ap (λ (l : List ℕ). ends (build p line (world nm xs ps Nowhere q) (passed (x.0 + 1) l))) r
      ∙ ap ends (back xs ps Nowhere q num (x.0 + 1) m used stands c h)))

  pub one_back : (kind : Kind) (x : Variable) (t : Ty) (u rest : Term) → Backs u → Backs rest → Backs (Then (One (On kind x t u)) rest)
  one_back kind x t u rest back more xs ps d q at n m un st c h =
      let k : ℕ = h.0 in
      let up : n + 1 ≤ k = text_up p u xs (side_place kind) (n + 1) k h.1.3 in
      let on : k ≤ m = text_up p rest (x.0 ∷ xs) (stands_too kind x d) k m h.2 in
      let new : List PlaceName = places_before nm d kind x.0 ps in
      let w : List ℕ = unused_before nm kind x.0 un in
      let num : ℕ = side_number d kind x.0 in
      let e : x.0 ≡ n = h.1.0 in
      let le : n ≤ x.0 = omega (arith, e) in
      let made = side_back kind x t u num xs new d q w un k back
      (ready nm p.table d kind t x.0 ps un h.1.1 st.head (c x.0 le (omega (arith, e, up, on)))) (number_below d kind n x.0 st.head_below le)
      (clear_part nm un n m (x.0 + 1) k (omega (arith, e)) on c) h.1.1 h.1.2 (subst (λ j. HasText p u xs (side_place kind) (j + 1) k) (sym e) h.1.3) in
      let after : Around = world nm (x.0 ∷ xs) new (stands_too kind x d) q in
      let line : Line = text_of nm p.table rest (stands_too kind x d) at in
      let bound : Bound = side_text nm p.table (On kind x t u) num in
      let binding : build_binding p (LetIn bound) (world nm xs new d q) (passed x.0 w) ≡ Ok (record { binds = One (On kind x t u) ∷ []; around = after; passed = passed k un }) =
      ap (λ (z : Placed Sided). and_then z (λ s. Ok (record { binds = One s.side ∷ []; around = record (world nm xs new d q) { variables = scope_names nm (x.0 ∷ xs); destination = s.destination }; passed = s.passed }))) made in
      before_back p nm ok d kind t x.0 (In nowhere (LetIn bound) line) xs ps q n un h.1.1 st.standing
      ∙ (ap (λ j. build p (In nowhere (LetIn bound) line) (world nm xs new d q) (passed j w)) (sym e)
      ∙ step p (LetIn bound) line (world nm xs new d q) (passed x.0 w) (record { binds = One (On kind x t u) ∷ []; around = after; passed = passed k un }) rest (passed m un) binding
      (more (x.0 ∷ xs) new (stands_too kind x d) q at k m un (stands_on nm kind x xs ps new d q at n k (before_extends nm ok d kind n x.0 ps le) (omega (arith, up)) st) (clear_part nm un n m k m (omega (arith, up)) (omega arith) c) h.2))
