-- Terms of one form, which differ in what is nested in them alone.
use Rattle.std.proofs.Common.{◌≡◌, List, refl}
use Rattle.gib_base.specs.declared.name.Name.{Name}
use Rattle.gib_types.specs.declared.table.Ty.{Ty}
use Rattle.gib_core.specs.declared.atom.Atom.{Atom}
use Rattle.gib_core.specs.declared.atom.Variable.{Variable}
use Rattle.gib_core.specs.declared.atom.Kind.{Kind}
use Rattle.gib_core.specs.declared.atom.Kind.TheVariants.{Here, Region, Scalar}
use Rattle.gib_core.specs.declared.atom.Ended.{Ended}
use Rattle.gib_core.specs.Tree.{Term, Then, CaseTerm, IfTerm, Tuple, PartTerms, Bind, Branches}
use Rattle.gib_core.specs.Erasing.{left_out}
use Rattle.gib_core.specs.Met.{call_too}
use Rattle.gib_core.specs.Ending.{tells}

-- Lines of bindings, cases on one atom, conditions on one atom, tuples of the same scalars, and ends that are the same.
pub data Alike : Term → Term → Type 0 where
  Lines : {b c : Bind} {t u : Term} → Alike (Then b t) (Then c u)
  Cases : {x : Atom} {bs cs : Branches} → Alike (CaseTerm x bs) (CaseTerm x cs)
  Ifs : {x : Atom} {t u t' u' : Term} → Alike (IfTerm x t u) (IfTerm x t' u')
  Tuples : {tys : List Ty} {ss : List Atom} {ps qs : PartTerms} → Alike (Tuple tys ss ps) (Tuple tys ss qs)
  Same : {t : Term} → Alike t t

-- The value that a side points to is the same.
pub alike_left : {t u : Term} (kind : Kind) → Alike t u → left_out kind t ≡ left_out kind u
alike_left Here Lines = refl
alike_left Region Lines = refl
alike_left Scalar Lines = refl
alike_left Here Cases = refl
alike_left Region Cases = refl
alike_left Scalar Cases = refl
alike_left Here Ifs = refl
alike_left Region Ifs = refl
alike_left Scalar Ifs = refl
alike_left Here Tuples = refl
alike_left Region Tuples = refl
alike_left Scalar Tuples = refl
alike_left kind Same = refl

-- A call stands before what follows, or none.
pub alike_call : {t u : Term} → Alike t u → (cs : List (Name × List Atom)) → call_too t cs ≡ call_too u cs
alike_call Lines cs = refl
alike_call Cases cs = refl
alike_call Ifs cs = refl
alike_call Tuples cs = refl
alike_call Same cs = refl

-- The same ends are told.
pub alike_tells : {t u : Term} → Alike t u → (es : List Ended) (z : Variable) → tells es t z ≡ tells es u z
alike_tells Lines es z = refl
alike_tells Cases es z = refl
alike_tells Ifs es z = refl
alike_tells Tuples es z = refl
alike_tells Same es z = refl
