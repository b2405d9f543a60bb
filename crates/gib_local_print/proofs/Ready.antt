-- What stands before a side in a printed text, and how its location is found there.
use Rattle.std.proofs.Common.{◌≡◌, ℕ, ◌<◌, ◌≤◌, true, false, if◌then◌else◌, List, [], ◌∷◌, ◌++◌, Option, Some, None, Ok, refl, sym, ap, ◌∙◌, arith}
use Rattle.std.specs.List.{AllByRecursion}
use Rattle.gib_types.specs.declared.table.Ty.{Ty}
use Rattle.gib_types.specs.Table.{Table}
use Rattle.gib_core.specs.declared.atom.Variable.{Variable}
use Rattle.gib_core.specs.declared.atom.Kind.{Kind}
use Rattle.gib_core.specs.declared.atom.Kind.TheVariants.{Here, Region, Scalar}
use Rattle.gib_core.specs.Met.{Destination, Nowhere, Empty, Open, InParts}
use Rattle.gib_core.specs.Rules.{has_room, is_nowhere}
use Rattle.gib_core.specs.Tree.{Term, prepend}
use Rattle.gib_syntax.specs.declared.tree.Ident.{Ident}
use Rattle.gib_core.proofs.Facts.{itself}
use Rattle.gib_local_parse.specs.Tree.{Line, In, Binding, NewRegion, NewPlace}
use Rattle.gib_local_parse.specs.declared.tree.Location.TheVariants.{Start, After}
use Rattle.gib_local.specs.Building.{Placed, PlaceName, Around, Passed, Termed, Stepped, Program, and_then, if_due, meant, variable, is_region, is_in, without, behind_last, next_place, is_there, is_last, kind_for, used_too, named_too, build, build_binding}
use Rattle.gib_local.specs.declared.place.Place.{Place}
use Rattle.gib_local.specs.declared.place.Place.TheVariants.{AtResult, AtStart, AtFirst, AtNext}
use Rattle.gib_local.specs.declared.place.Meant.{Meant}
use Rattle.gib_local.specs.declared.place.Meant.TheVariants.{IsRegion, IsPlace}
use Rattle.gib_local_print.specs.Printing.{Naming, Apart, nowhere, ident, named, place_number, last_of, before_field, before, side_number}
use Rattle.gib_local_print.specs.HasText.{MayStand}
use Rattle.gib_local_print.proofs.World.{bind_ok, meant_here, meant_past, in_here, without_here, world, passed, variable_back}

-- ---- lines that bind nothing, and lines that do

pub step : (p : Program) (b : Binding) (rest : Line) (h : Around) (v : Passed) (s : Stepped) (t : Term) (q : Passed)
    → build_binding p b h v ≡ Ok s → build p rest s.around s.passed ≡ Ok (record { term = t; passed = q })
    → build p (In nowhere b rest) h v ≡ Ok (record { term = prepend s.binds t; passed = q })
step p b rest h v s t q e g =
    ap (λ (z : Placed Stepped). and_then z (λ r. and_then (build p rest r.around r.passed) (λ t. Ok (record t { term = prepend r.binds t.term })))) e
    ∙ ap (λ (z : Placed Termed). and_then z (λ t. Ok (record t { term = prepend s.binds t.term }))) g

-- A line that only gives a name.
pub passing : (p : Program) (b : Binding) (rest : Line) (h g : Around) (v w : Passed)
    → build_binding p b h v ≡ Ok (record { binds = []; around = g; passed = w })
    → build p (In nowhere b rest) h v ≡ build p rest g w
passing p b rest h g v w e =
    ap (λ (z : Placed Stepped). and_then z (λ r. and_then (build p rest r.around r.passed) (λ t. Ok (record t { term = prepend r.binds t.term })))) e
    ∙ bind_ok (build p rest g w)

-- ---- the location of the next field

-- It is no start of a region.
abbrev NoStart : Place → Type 0
NoStart AtResult = Unit {0}
NoStart (AtStart r) = ⊥
NoStart (AtFirst h) = Unit {0}
NoStart (AtNext x) = Unit {0}

no_start : (q : Place) (xs : List Variable) → NoStart q → NoStart (behind_last q xs)
no_start q [] h = h
no_start q (x ∷ xs) h = no_start (AtNext x.0) xs tt

kind_same : (q : Place) (u : List ℕ) → NoStart q → kind_for (Some q) u q ≡ Some Here
kind_same AtResult u h = refl
kind_same (AtStart r) u h = absurd h
kind_same (AtFirst x) u h = ap (λ b. if b then Some Here else None) (itself x)
kind_same (AtNext x) u h = ap (λ b. if b then Some Here else None) (itself x)

used_same : (q : Place) (u : List ℕ) → NoStart q → used_too q u ≡ u
used_same AtResult u h = refl
used_same (AtStart r) u h = absurd h
used_same (AtFirst x) u h = refl
used_same (AtNext x) u h = refl

-- The location of the next field of an open head.
abbrev pub field_place : Destination → Place
field_place Nowhere = AtResult
field_place Empty = AtResult
field_place (InParts ts) = AtResult
field_place (Open h k st) = behind_last (AtFirst h.0) st

pub next_is : (tb : Table) (d : Destination) → has_room tb d ≡ true → next_place tb d ≡ Some (field_place d)
next_is tb Nowhere e = absurd cc
next_is tb Empty e = absurd cc
next_is tb (InParts ts) e = absurd cc
next_is tb (Open h k st) e = ap (λ b. if b then Some (behind_last (AtFirst h.0) st) else None) e

field_no_start : (d : Destination) → NoStart (field_place d)
field_no_start Nowhere = tt
field_no_start Empty = tt
field_no_start (InParts ts) = tt
field_no_start (Open h k st) = no_start (AtFirst h.0) st tt

pub field_kind : (tb : Table) (d : Destination) (u : List ℕ) → has_room tb d ≡ true → kind_for (next_place tb d) u (field_place d) ≡ Some Here
field_kind tb d u e = ap (λ o. kind_for o u (field_place d)) (next_is tb d e) ∙ kind_same (field_place d) u (field_no_start d)

pub field_used : (d : Destination) (u : List ℕ) → used_too (field_place d) u ≡ u
field_used d u = used_same (field_place d) u (field_no_start d)

pub behind_more : (q : Place) (y : Variable) (ys : List Variable) → behind_last q (y ∷ ys) ≡ AtNext (last_of y ys).0
behind_more q y [] = refl
behind_more q y (z ∷ zs) = behind_more (AtNext y.0) z zs

pub behind_end : (q : Place) (xs : List Variable) (x : Variable) → behind_last q (xs ++ x ∷ []) ≡ AtNext x.0
behind_end q [] x = refl
behind_end q (y ∷ ys) x = behind_end (AtNext y.0) ys x

-- ---- what is known of names

-- The head of an open destination has a name for the place behind it.
abbrev pub HeadNamed : Naming → List PlaceName → Destination → Type 0
HeadNamed nm ps Nowhere = Unit {0}
HeadNamed nm ps Empty = Unit {0}
HeadNamed nm ps (InParts ts) = Unit {0}
HeadNamed nm ps (Open g c st) = meant ps (nm.location g.0) ≡ Some (IsPlace (AtFirst g.0))

-- The head is one of the first variables.
abbrev pub HeadBelow : ℕ → Destination → Type 0
HeadBelow n Nowhere = Unit {0}
HeadBelow n Empty = Unit {0}
HeadBelow n (InParts ts) = Unit {0}
HeadBelow n (Open g c st) = g.0 < n

-- The fields that stand are in scope.
abbrev pub StandInScope : List ℕ → Destination → Type 0
StandInScope xs Nowhere = Unit {0}
StandInScope xs Empty = Unit {0}
StandInScope xs (InParts ts) = Unit {0}
StandInScope xs (Open g c st) = AllByRecursion (λ (y : Variable). is_in xs y.0 ≡ true) st

-- The destination has a name, and its fields stand.
pub record Stands (nm : Naming) (xs : List ℕ) (ps : List PlaceName) (d : Destination) (q : Place) (at n : ℕ) : Type 0 where
  pub here : is_nowhere d ≡ false → meant ps (nm.location at) ≡ Some (IsPlace q)
  pub below : at < n
  pub head : HeadNamed nm ps d
  pub head_below : HeadBelow n d
  pub standing : StandInScope xs d

-- Names of places below a number are as before.
pub record Extends (nm : Naming) (n : ℕ) (old new : List PlaceName) : Type 0 where
  pub same : (j : ℕ) → j < n → meant new (nm.location j) ≡ meant old (nm.location j)

pub extends_same : (nm : Naming) (n : ℕ) (ps : List PlaceName) → Extends nm n ps ps
extends_same nm n ps = record { same = λ j lt. refl }

pub extends_on : (nm : Naming) (n : ℕ) (a b c : List PlaceName) → Extends nm n a b → Extends nm n b c → Extends nm n a c
extends_on nm n a b c f g = record { same = λ j lt. g.same j lt ∙ f.same j lt }

pub extends_location : (nm : Naming) → Apart nm → (n x : ℕ) (m : Meant) (ps : List PlaceName) → n ≤ x → Extends nm n ps ((nm.location x, m) ∷ ps)
extends_location nm ok n x m ps le = record { same = λ j lt. meant_past (nm.location x) (nm.location j) m ps (λ e. let same : x ≡ j = ok.locations x j e in absurd (omega (arith, le, lt, same))) }

pub extends_region : (nm : Naming) → Apart nm → (n x : ℕ) (m : Meant) (ps : List PlaceName) → Extends nm n ps ((nm.region x, m) ∷ ps)
extends_region nm ok n x m ps = record { same = λ j lt. meant_past (nm.region x) (nm.location j) m ps (λ e. absurd (ok.apart j x (sym e))) }

-- The location of a side is found by its name, at a destination; these are the unused regions before and behind.
abbrev pub IsReady : Naming → Table → List PlaceName → Destination → Kind → ℕ → List ℕ → List ℕ → Type 0
IsReady nm tb ps d Here n u w = (meant ps (nm.location n) ≡ Some (IsPlace (field_place d))) × (has_room tb d ≡ true) × (u ≡ w)
IsReady nm tb ps d Region n u w = (meant ps (nm.location n) ≡ Some (IsPlace (AtStart (nm.region n)))) × (is_in u (nm.region n) ≡ true) × (without (nm.region n) u ≡ w)
IsReady nm tb ps d Scalar n u w = u ≡ w

-- The names of places behind what stands before a side.
abbrev field_named : Naming → Destination → ℕ → List PlaceName → List PlaceName
field_named nm Nowhere x ps = ps
field_named nm Empty x ps = ps
field_named nm (InParts ts) x ps = ps
field_named nm (Open g c []) x ps = ps
field_named nm (Open g c (y ∷ ys)) x ps = (nm.location x, IsPlace (AtNext (last_of y ys).0)) ∷ ps

abbrev pub places_before : Naming → Destination → Kind → ℕ → List PlaceName → List PlaceName
places_before nm d Here x ps = field_named nm d x ps
places_before nm d Region x ps = (nm.location x, IsPlace (AtStart (nm.region x))) ∷ (nm.region x, IsRegion) ∷ ps
places_before nm d Scalar x ps = ps

-- The regions that are not used there.
abbrev pub unused_before : Naming → Kind → ℕ → List ℕ → List ℕ
unused_before nm Here x u = u
unused_before nm Region x u = nm.region x ∷ u
unused_before nm Scalar x u = u

last_in_scope : (xs : List ℕ) (y : Variable) (ys : List Variable) → AllByRecursion (λ (y : Variable). is_in xs y.0 ≡ true) (y ∷ ys) → is_in xs (last_of y ys).0 ≡ true
last_in_scope xs y [] h = h.0
last_in_scope xs y (z ∷ zs) h = last_in_scope xs z zs h.1

module _ (p : Program) (nm : Naming) (ok : Apart nm) where
  field_before : (d : Destination) (x : ℕ) (rest : Line) (xs : List ℕ) (ps : List PlaceName) (q : Place) (v : Passed) → has_room p.table d ≡ true → StandInScope xs d
      → build p (before_field nm d x rest) (world nm xs ps d q) v ≡ build p rest (world nm xs (field_named nm d x ps) d q) v
  field_before Nowhere x rest xs ps q v r s = refl
  field_before Empty x rest xs ps q v r s = refl
  field_before (InParts ts) x rest xs ps q v r s = refl
  field_before (Open g c []) x rest xs ps q v r s = refl
  field_before (Open g c (y ∷ ys)) x rest xs ps q v r s =
      let d : Destination = Open g c (y ∷ ys) in
      let h : Around = world nm xs ps d q in
      let z : Variable = last_of y ys in
      let l : Ident = ident (nm.location x) in
      let back : variable h (named nm z) ≡ z = variable_back nm ok xs ps d q z (last_in_scope xs y ys s) in
      let next : next_place p.table d ≡ Some (AtNext z.0) = next_is p.table d r ∙ ap (λ (k : Place). Some k) (behind_more (AtFirst g.0) y ys) in
      let last : is_last p.table d z ≡ true = ap (λ (o : Option Place). is_there o (AtNext z.0)) next ∙ itself z.0 in
      passing p (NewPlace l (After (named nm z))) rest h (world nm xs ((nm.location x, IsPlace (AtNext z.0)) ∷ ps) d q) v v
      (ap (λ (y : Variable). if_due (is_last p.table d y) 0 (Ok (named_too h v l (AtNext y.0)))) back
      ∙ ap (λ b. if_due b 0 (Ok (named_too h v l (AtNext z.0)))) last)

  -- What stands before a side gives it its names.
  pub before_back : (d : Destination) (kind : Kind) (t : Ty) (x : ℕ) (rest : Line) (xs : List ℕ) (ps : List PlaceName) (q : Place) (n : ℕ) (u : List ℕ) → MayStand p.table d kind t → StandInScope xs d
      → build p (before nm d kind x rest) (world nm xs ps d q) (passed n u) ≡ build p rest (world nm xs (places_before nm d kind x ps) d q) (passed n (unused_before nm kind x u))
  before_back d Here t x rest xs ps q n u may s = field_before d x rest xs ps q (passed n u) may.0 s
  before_back d Region t x rest xs ps q n u may s =
      let r : Ident = ident (nm.region x) in
      let l : Ident = ident (nm.location x) in
      let one : List PlaceName = (nm.region x, IsRegion) ∷ ps in
      let two : List PlaceName = (nm.location x, IsPlace (AtStart (nm.region x))) ∷ one in
      let w : Passed = passed n (nm.region x ∷ u) in
      passing p (NewRegion r) (In nowhere (NewPlace l (Start r)) rest) (world nm xs ps d q) (world nm xs one d q) (passed n u) w refl
      ∙ passing p (NewPlace l (Start r)) rest (world nm xs one d q) (world nm xs two d q) w w
      (ap (λ (o : Option Meant). if_due (is_region o) 0 (Ok (named_too (world nm xs one d q) w l (AtStart (nm.region x))))) (meant_here (nm.region x) IsRegion ps))
  before_back d Scalar t x rest xs ps q n u may s = refl

field_ready : (nm : Naming) (tb : Table) (d : Destination) (x : ℕ) (ps : List PlaceName) → has_room tb d ≡ true → HeadNamed nm ps d
    → meant (field_named nm d x ps) (nm.location (place_number d x)) ≡ Some (IsPlace (field_place d))
field_ready nm tb Nowhere x ps r h = absurd cc
field_ready nm tb Empty x ps r h = absurd cc
field_ready nm tb (InParts ts) x ps r h = absurd cc
field_ready nm tb (Open g c []) x ps r h = h
field_ready nm tb (Open g c (y ∷ ys)) x ps r h = meant_here (nm.location x) (IsPlace (AtNext (last_of y ys).0)) ps ∙ ap (λ (k : Place). Some (IsPlace k)) (sym (behind_more (AtFirst g.0) y ys))

-- A side is ready behind what stands before it.
pub ready : (nm : Naming) (tb : Table) (d : Destination) (kind : Kind) (t : Ty) (x : ℕ) (ps : List PlaceName) (u : List ℕ) → MayStand tb d kind t → HeadNamed nm ps d → is_in u (nm.region x) ≡ false
    → IsReady nm tb (places_before nm d kind x ps) d kind (side_number d kind x) (unused_before nm kind x u) u
ready nm tb d Here t x ps u may h f = (field_ready nm tb d x ps may.0 h, may.0, refl)
ready nm tb d Region t x ps u may h f =
    (meant_here (nm.location x) (IsPlace (AtStart (nm.region x))) ((nm.region x, IsRegion) ∷ ps), in_here (nm.region x) u, without_here (nm.region x) u f)
ready nm tb d Scalar t x ps u may h f = refl

field_extends : (nm : Naming) → Apart nm → (d : Destination) (n x : ℕ) (ps : List PlaceName) → n ≤ x → Extends nm n ps (field_named nm d x ps)
field_extends nm ok Nowhere n x ps le = extends_same nm n ps
field_extends nm ok Empty n x ps le = extends_same nm n ps
field_extends nm ok (InParts ts) n x ps le = extends_same nm n ps
field_extends nm ok (Open g c []) n x ps le = extends_same nm n ps
field_extends nm ok (Open g c (y ∷ ys)) n x ps le = extends_location nm ok n x (IsPlace (AtNext (last_of y ys).0)) ps le

pub before_extends : (nm : Naming) → Apart nm → (d : Destination) (kind : Kind) (n x : ℕ) (ps : List PlaceName) → n ≤ x → Extends nm n ps (places_before nm d kind x ps)
before_extends nm ok d Here n x ps le = field_extends nm ok d n x ps le
before_extends nm ok d Region n x ps le =
    let one : List PlaceName = (nm.region x, IsRegion) ∷ ps in
    extends_on nm n ps one ((nm.location x, IsPlace (AtStart (nm.region x))) ∷ one) (extends_region nm ok n x IsRegion ps) (extends_location nm ok n x (IsPlace (AtStart (nm.region x))) one le)
before_extends nm ok d Scalar n x ps le = extends_same nm n ps
