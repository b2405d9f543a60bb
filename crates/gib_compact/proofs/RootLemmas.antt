-- The packed form of what stands for a root.
use Rattle.std.proofs.Common.{◌≡◌, ℕ, [], ◌∷◌, refl, sym, ap, subst}
use Rattle.std.specs.Int.{w64, cast_signed, cast_unsigned}
use Rattle.std.proofs.lemmas.Int.{to_z-of_z}
use Rattle.std.specs.Prelude.{ℤ, Bool}
use Rattle.gib_types.specs.declared.table.Ty.{Ty}
use Rattle.gib_types.specs.Layout.{LaidOut}
use Rattle.gib_types.specs.Tree.{Datum}
use Rattle.gib_mem.specs.Memory.{Store}
use Rattle.gib_file.specs.Packed.{tree, packed, number, bit}
use Rattle.gib_packed.specs.Decoding.{Dec, redirect, indirect, head}
use Rattle.gib_packed.specs.declared.root.Root.{Root}
use Rattle.gib_packed.specs.declared.root.Root.TheVariants.{Whole, Truth, At}
use Rattle.gib_packed.specs.Stands.{Stands, a_whole, a_truth, a_tree}

-- what stands in memory is a constructor
pub Dec-packed : {laid : LaidOut} {s : Store} {a t z : ℕ} {v : Datum} → Dec laid s a t v z → packed v ≡ tree v
Dec-packed (redirect p d) = Dec-packed d
Dec-packed (indirect p d e) = Dec-packed d
Dec-packed (head k o h ds) = refl

pub root_whole : {laid : LaidOut} {s : Store} {root : Root} {ty : Ty} {v : Datum} {z : ℤ} → root ≡ Whole z → Stands laid s root ty v → packed v ≡ number (cast_signed w64 (cast_unsigned w64 z))
root_whole {laid = laid} {s = s} {ty = ty} {v = v} {z = z} e st = go (subst (λ (r : Root). Stands laid s r ty v) e st)
  where
    go : {ty : Ty} {v : Datum} → Stands laid s (Whole z) ty v → packed v ≡ number (cast_signed w64 (cast_unsigned w64 z))
    go (a_whole f) = ap number (sym (to_z-of_z w64 z f))

pub root_truth : {laid : LaidOut} {s : Store} {root : Root} {ty : Ty} {v : Datum} {b : Bool} → root ≡ Truth b → Stands laid s root ty v → packed v ≡ bit b ∷ []
root_truth {laid = laid} {s = s} {ty = ty} {v = v} {b = b} e st = go (subst (λ (r : Root). Stands laid s r ty v) e st)
  where
    go : {ty : Ty} {v : Datum} → Stands laid s (Truth b) ty v → packed v ≡ bit b ∷ []
    go a_truth = refl

pub record InMemory (laid : LaidOut) (s : Store) (a : ℕ) (v : Datum) : Type 0 where
  pub t : ℕ
  pub end : ℕ
  pub stands : Dec laid s a t v end
  pub bytes : packed v ≡ tree v

pub root_tree : {laid : LaidOut} {s : Store} {root : Root} {ty : Ty} {v : Datum} {a : ℕ} → root ≡ At a → Stands laid s root ty v → InMemory laid s a v
root_tree {laid = laid} {s = s} {ty = ty} {v = v} {a = a} e st = go (subst (λ (r : Root). Stands laid s r ty v) e st)
  where
    go : {ty : Ty} {v : Datum} → Stands laid s (At a) ty v → InMemory laid s a v
    go (a_tree {t = t} d) = record { t = _; end = _; stands = d; bytes = Dec-packed d }
