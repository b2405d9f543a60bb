-- The text of a value is read.
use Rattle.std.proofs.Common.{◌≡◌, ℕ, List, Err, refl, sym, ◌∙◌}
use Rattle.gib_types.specs.declared.table.Ty.{Ty}
use Rattle.gib_types.specs.Table.{Table}
use Rattle.gib_types.specs.Tree.{Datum}
use Rattle.gib_value.specs.declared.fault.TextFault.{TextFault}
use Rattle.gib_value.specs.declared.fault.TextFault.TheVariants.{Memory, At}
use Rattle.gib_value.specs.Reading.{IsTextOf, ReadsTo}
use Rattle.gib_value.proofs.Agree.{Known, not_refused}
use Rattle.gib_value.proofs.OneText.{one_text}

pub ok_complete : (table : Table) (names : List (List ℕ)) → Known table names → (t : Ty) (bytes : List ℕ) (found v : Datum) → IsTextOf table names t found bytes → IsTextOf table names t v bytes → found ≡ v
ok_complete table names known t bytes found v a b = one_text table names known t found v a.typed b.typed (sym a.is ∙ b.is)

pub err_complete : (table : Table) (names : List (List ℕ)) → Known table names → (t : Ty) (bytes : List ℕ) (e : TextFault) (v : Datum) → ReadsTo table names t bytes (Err e) → IsTextOf table names t v bytes → e ≡ Memory
err_complete table names known t bytes Memory v r is = refl
err_complete table names known t bytes (At place) v r is = absurd (not_refused table names known t v bytes place is r)
