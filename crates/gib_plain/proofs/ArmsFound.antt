-- The arm at the place of a constructor.
use Rattle.std.proofs.Common.{◌≡◌, ℕ, Bool, true, false, cond, List, [], ◌∷◌, map, Option, Some, None, slice_get, refl, sym, ◌∙◌, subst}
use Rattle.std.specs.Prelude.{MatchOption, IfSome, is_some}
use Rattle.std.proofs.Common.{Bor, ltb, length, get_or}
use Rattle.std.proofs.lemmas.Bool.{ltb-true, ltb-false}
use Rattle.std.proofs.lemmas.Option.{slice_get_past, slice_get_read}
use Rattle.gib_types.specs.Table.{Table}
use Rattle.gib_syntax.specs.declared.exprs.Arm.{Arm}
use Rattle.gib_syntax.specs.Declarations.{number_of, next_place, constructor_named}
use Rattle.gib_check.specs.ArmPlaces.{is_number, place_named, arm_name}
use Rattle.gib_plain.specs.Running.{arm_of}

-- What a place among arms says of the arm.
abbrev At : List Arm → Option ℕ → Option Arm → Type 0
At arms None a = a ≡ None
At arms (Some i) a = a ≡ slice_get arms i

at_more : (b : Bool) (arm : Arm) (arms : List Arm) (o : Option ℕ) (a : Option Arm) → At arms o a → At (arm ∷ arms) (cond b (Some 0) (next_place o)) (cond b (Some arm) a)
at_more true arm arms o a h = refl
at_more false arm arms None a h = h
at_more false arm arms (Some i) a h = h

at_all : (table : Table) (arms : List Arm) (con : ℕ) → At arms (place_named table (map arm_name arms) con) (arm_of table arms con)
at_all table [] con = refl
at_all table (arm ∷ arms) con = at_more (is_number (constructor_named table (number_of arm.constructor)) con) arm arms (place_named table (map arm_name arms) con) (arm_of table arms con) (at_all table arms con)

pub arm_there : (table : Table) (arms : List Arm) (con i : ℕ) (o : Option ℕ) → o ≡ place_named table (map arm_name arms) con → o ≡ Some i → arm_of table arms con ≡ slice_get arms i
arm_there table arms con i o e s = subst (λ z. At arms z (arm_of table arms con)) (sym e ∙ s) (at_all table arms con)

pub arm_nowhere : (table : Table) (arms : List Arm) (con : ℕ) (o : Option ℕ) → o ≡ place_named table (map arm_name arms) con → o ≡ None → arm_of table arms con ≡ None
arm_nowhere table arms con o e s = subst (λ z. At arms z (arm_of table arms con)) (sym e ∙ s) (at_all table arms con)

-- What is got at a place is what stands there.
pub got : (arms : List Arm) (i : ℕ) (found : Option (Bor Arm)) (a : Option Arm) → is_some found ≡ ltb i (length arms) → IfSome found (λ arm. arm.now ≡ get_or arms i arm.now) → a ≡ slice_get arms i → MatchOption found (a ≡ None) (λ arm. a ≡ Some arm.now)
got arms i None a s g e = e ∙ slice_get_past arms i (ltb-false i (length arms) (sym s))
got arms i (Some arm) a s g e = e ∙ slice_get_read arms (length arms) i arm.now refl (ltb-true i (length arms) (sym s)) g
