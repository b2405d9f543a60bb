-- Printed texts as tokens, in the groups in which they are put.
use Rattle.std.specs.Prelude.{ℕ, Bool, true, false, List, [], ◌∷◌, map, Some, None}
use Rattle.gib_base.specs.declared.token.Sign.TheVariants as s
use Rattle.gib_base.specs.declared.token.Token.{Token}
use Rattle.gib_types.specs.Table.{Table}
use Rattle.gib_syntax.specs.declared.tree.Ident.{Ident}
use Rattle.gib_types.specs.Operators.{operator_type}
use Rattle.gib_syntax.specs.Results as results
use Rattle.gib_core.specs.declared.atom.Variable.{Variable}
use Rattle.gib_core.specs.declared.atom.Kind.{Kind}
use Rattle.gib_core.specs.declared.atom.Kind.TheVariants.{Here, Region, Scalar}
use Rattle.gib_core.specs.declared.node.Branch.{Branch}
use Rattle.gib_core.specs.Tree.{Term, Bind, Past, One, Both, Prim, Reach, On, Several, MainTerm}
use Rattle.gib_core.specs.Met.{Destination, Nowhere, Empty, Open, InParts, result_place}
use Rattle.gib_local_parse.specs.Tree.{Binding, NewRegion, NewPlace, LetIn, ParIn, PrimIn, ReachIn, Bound, MainText}
use Rattle.gib_local_parse.specs.declared.tree.Location.TheVariants.{Start, Plus, After}
use Rattle.gib_local.specs.Building.{is_flat}
use Rattle.gib_local_print.specs.Printing.{Naming, no_name, ident, named, operand, type_text, con_text, way, last_of, side_number, are_fields, behind_bind, side_text, text_of, result_mark}
use Rattle.gib_local_parse.specs.Grammar.{sign, upper, spell_binding, spell_names, spell_line}

-- A binding before the rest of its line.
abbrev pub put_in : Binding → List Token → List Token
put_in b rest = spell_binding b (sign s.In ∷ rest)

-- The name of the location of a field that is not the first.
abbrev pub put_field : Naming → Destination → ℕ → List Token → List Token
put_field nm Nowhere x rest = rest
put_field nm Empty x rest = rest
put_field nm (InParts ts) x rest = rest
put_field nm (Open h k []) x rest = rest
put_field nm (Open h k (y ∷ ys)) x rest = put_in (NewPlace (ident (nm.location x)) (After (named nm (last_of y ys)))) rest

-- What stands before a variable's binding.
abbrev pub put_before : Naming → Destination → Kind → ℕ → List Token → List Token
put_before nm d Here x rest = put_field nm d x rest
put_before nm d Region x rest = put_in (NewRegion (ident (nm.region x))) (put_in (NewPlace (ident (nm.location x)) (Start (ident (nm.region x)))) rest)
put_before nm d Scalar x rest = rest

-- The room of a head.
abbrev pub put_room : Bool → Naming → ℕ → Variable → Ident → List Token → List Token
put_room true nm at h k rest = rest
put_room false nm at h k rest = put_in (NewPlace (ident (nm.location h.0)) (Plus (ident (nm.location at)) k)) rest

-- Several variables.
abbrev pub put_no_text : Naming → ℕ → List Token → List Token
put_no_text nm at rest = put_room false nm at (record { 0 = 0 }) no_name rest

-- Two sides.
abbrev pub put_sides : Bool → Naming → Destination → Kind → ℕ → Kind → ℕ → (ℕ → Bound) → (ℕ → Bound) → List Token → List Token
put_sides true nm d k x j y l r rest = put_before nm d k x (put_in (ParIn (l (side_number d k x)) (Some (ident (nm.location y), ident (nm.variable x))) (r y)) rest)
put_sides false nm d k x j y l r rest = put_before nm d k x (put_before nm d j y (put_in (ParIn (l (side_number d k x)) None (r (side_number d j y))) rest))

-- A binding of a core.
abbrev pub put_bind : Naming → Table → Bind → Destination → ℕ → List Token → List Token
put_bind nm tb (Past h k) d at rest = put_room (is_flat tb k) nm at h (con_text tb k) rest
put_bind nm tb (One (On k x t u)) d at rest = put_before nm d k x.0 (put_in (LetIn (side_text nm tb (On k x t u) (side_number d k x.0))) rest)
put_bind nm tb (One (Several xs ts u)) d at rest = put_no_text nm at rest
put_bind nm tb (Both fork (On k x t u) (On j y s w)) d at rest = put_sides (are_fields k j) nm d k x.0 j y.0 (side_text nm tb (On k x t u)) (side_text nm tb (On j y s w)) rest
put_bind nm tb (Both fork (On k x t u) (Several ys ts w)) d at rest = put_no_text nm at rest
put_bind nm tb (Both fork (Several xs ts u) r) d at rest = put_no_text nm at rest
put_bind nm tb (Prim x f y z) d at rest = put_in (PrimIn (named nm x) (type_text tb (operator_type f)) (operand nm y) f (operand nm z)) rest
put_bind nm tb (Reach y by) d at rest = put_in (ReachIn (named nm y) (way nm by)) rest

-- The destination before each of some bindings.
abbrev pub before_each : Destination → List Bind → List Destination
before_each d [] = []
before_each d (b ∷ bs) = d ∷ before_each (behind_bind d b) bs

-- The destination behind all of them.
abbrev pub behind_all : Destination → List Bind → Destination
behind_all d [] = d
behind_all d (b ∷ bs) = behind_all (behind_bind d b) bs

-- Bindings of a core, each with the destination before it.
abbrev pub put_binds : Naming → Table → List Bind → List Destination → ℕ → List Token → List Token
put_binds nm tb [] ds at rest = rest
put_binds nm tb (b ∷ bs) [] at rest = rest
put_binds nm tb (b ∷ bs) (d ∷ ds) at rest = put_bind nm tb b d at (put_binds nm tb bs ds at rest)

-- A branch of a case, where numbers have these terms.
abbrev pub put_branch : Naming → Table → (ℕ → Term) → Branch → Destination → ℕ → List Token → List Token
put_branch nm tb f branch d at rest =
    upper (con_text tb branch.constructor) ∷ spell_names (map (named nm) branch.variables.items) (sign s.Arrow ∷ spell_line (text_of nm tb (f branch.term.0) d at) rest)

-- Further branches, each behind a semicolon.
abbrev pub put_further : Naming → Table → (ℕ → Term) → List Branch → Destination → ℕ → List Token → List Token
put_further nm tb f [] d at rest = rest
put_further nm tb f (branch ∷ branches) d at rest = sign s.Semicolon ∷ put_branch nm tb f branch d at (put_further nm tb f branches d at rest)

-- Main.
abbrev pub main_text : Naming → Table → MainTerm → MainText
main_text nm tb m = record {
  parameter = record { name = ident (nm.variable 0); ty = type_text tb m.parameter };
  result = type_text tb m.result;
  place = result_mark nm m.result;
  body = text_of nm tb m.body (result_place (results.One m.result)) 0;
}
