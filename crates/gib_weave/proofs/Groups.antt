-- Groups of regions.
use Rattle.std.proofs.Common.{◌≡◌, ℕ, List, [], ◌∷◌, ◌∙◌}
use Rattle.gib_types.specs.declared.table.Ty.{Ty}
use Rattle.gib_types.specs.declared.table.Ty.TheVariants.{Whole, Truth, Tree}
use Rattle.gib_types.specs.Layout.{LaidOut}
use Rattle.gib_types.specs.Tree.{Datum}
use Rattle.gib_mem.specs.Memory.{Store, Grows}
use Rattle.gib_packed.proofs.Grow as g
use Rattle.gib_syntax.specs.Results as results
use Rattle.gib_core.specs.Fits.{Dest, Nowhere, Empty, Open, InParts, IsDue, Scope, Held, dest_of, more, packed_due}
use Rattle.gib_machine.specs.State.{Slots, Open as OpenRegion}
use Rattle.gib_weave.specs.EndWords.{both}
use Rattle.gib_weave.specs.Groups.{Holds, Group, Starts}
use Rattle.gib_weave.specs.Continuing.{AreHeld}
use Rattle.gib_core.specs.declared.atom.Variable.{Variable}
use Rattle.gib_core.specs.Low.{packed_slots}

pub Holds-grows : {s r : Store} (laid : LaidOut) (ts : List ℕ) (vs : List Datum) (rs : List OpenRegion) → Grows s r → Holds laid s ts vs rs → Holds laid r ts vs rs
Holds-grows laid [] vs rs g h = tt
Holds-grows laid (t ∷ ts) [] rs g h = (h.0, Holds-grows laid ts [] rs g h.1)
Holds-grows laid (t ∷ ts) (v ∷ vs) rs g' h = (g.Dec-grows g' h.0, Holds-grows laid ts vs rs g' h.1)

pub Group-grows : {s r : Store} (laid : LaidOut) (d : Dest) (vs : List Datum) (rs : List OpenRegion) → Grows s r → Group laid s d vs rs → Group laid r d vs rs
Group-grows laid (Nowhere ty) vs rs g h = tt
Group-grows laid (Empty t) vs rs g h = tt
Group-grows laid (Open t x k xs dues) vs rs g h = tt
Group-grows laid (InParts tys) vs rs g h = (h.0, Holds-grows laid (packed_due tys) vs rs g h.1)

pub group_more : (laid : LaidOut) (s : Store) (d : Dest) (x t : ℕ) (vs : List Datum) (rs : List OpenRegion) → IsDue d t → Group laid s (more d x) vs rs
group_more laid s (Nowhere ty) x t vs rs o = absurd o
group_more laid s (Empty u) x t vs rs o = absurd o
group_more laid s (Open u h k xs []) x t vs rs o = absurd o
group_more laid s (Open u h k xs (q ∷ dues)) x t vs rs o = tt
group_more laid s (InParts tys) x t vs rs o = absurd o

pub result_group : (laid : LaidOut) (s : Store) (ty : Ty) (vs : List Datum) (rs : List OpenRegion) → Group laid s (dest_of (results.One ty)) vs rs
result_group laid s Whole vs rs = tt
result_group laid s Truth vs rs = tt
result_group laid s (Tree t) vs rs = tt

-- The slots of held variables are as they were.
abbrev pub AreSame : Slots → Slots → List ℕ → Type 0
AreSame sl sl' [] = Unit {0}
AreSame sl sl' (x ∷ xs) = (both sl' x ≡ both sl x) × AreSame sl sl' xs

pub same_held : (sl sl' : Slots) (sc : Scope) (tys : List Ty) (xs : List Variable) → ((y : ℕ) → sc y ≡ Held → both sl' y ≡ both sl y) → AreHeld sc xs → AreSame sl sl' (packed_slots tys xs)
same_held sl sl' sc [] xs f h = tt
same_held sl sl' sc (ty ∷ tys) [] f h = tt
same_held sl sl' sc (Whole ∷ tys) (x ∷ xs) f h = same_held sl sl' sc tys xs f h.1
same_held sl sl' sc (Truth ∷ tys) (x ∷ xs) f h = same_held sl sl' sc tys xs f h.1
same_held sl sl' sc (Tree t ∷ tys) (x ∷ xs) f h = (f x.0 h.0, same_held sl sl' sc tys xs f h.1)

pub held_held : (sc sc' : Scope) (xs : List Variable) → ((y : ℕ) → sc y ≡ Held → sc' y ≡ Held) → AreHeld sc xs → AreHeld sc' xs
held_held sc sc' [] f h = tt
held_held sc sc' (x ∷ xs) f h = (f x.0 h.0, held_held sc sc' xs f h.1)

pub starts_same : (sl sl' : Slots) (xs : List ℕ) (rs : List OpenRegion) → AreSame sl sl' xs → Starts sl xs rs → Starts sl' xs rs
starts_same sl sl' [] rs m h = tt
starts_same sl sl' (x ∷ xs) rs m h = (m.0 ∙ h.0, starts_same sl sl' xs rs m.1 h.1)
