-- What stands depends on which constructors have offsets, and on nothing else of the list that says so.
use Rattle.std.proofs.Common.{◌≡◌, ℕ, ◌+◌, List, ◌∷◌, ◌++◌, Bool, subst}
use Rattle.gib_types.specs.declared.table.Ty.{Ty}
use Rattle.gib_types.specs.Table.{fields_at}
use Rattle.gib_types.specs.Layout.{LaidOut, layout_of, is_among}
use Rattle.gib_types.specs.Tree.{Datum, Data}
use Rattle.gib_mem.specs.Memory.{Store, Holds}
use Rattle.gib_packed.specs.Head.{offset_bytes}
use Rattle.gib_packed.specs.Scalars.{scalars}
use Rattle.gib_packed.specs.Decoding.{Dec, redirect, indirect, head, Decs, done, whole_field, truth_field, tree_field}

abbrev with_others : LaidOut → List ℕ → LaidOut
with_others laid others = record { table = laid.table; with_offsets = others }

mutual
  pub Dec-set : {laid : LaidOut} {s : Store} {a t z : ℕ} {v : Datum} (others : List ℕ) → ((k : ℕ) → is_among laid.with_offsets k ≡ is_among others k) → Dec laid s a t v z → Dec (with_others laid others) s a t v z
  Dec-set others f (redirect p d) = redirect p (Dec-set others f d)
  Dec-set others f (indirect p d e) = indirect p (Dec-set others f d) e
  Dec-set {laid = laid} {s = s} {a = a} {z = z} others f (head {k = k} {vs = vs} {places = ps} b o h ds) =
      head b o (subst (λ (x : Bool). Holds s a (k ∷ (offset_bytes x ps ++ scalars vs))) (f k) h)
      (subst (λ (x : Bool). Decs (with_others laid others) s (a + (layout_of x (fields_at laid.table k)).head) (fields_at laid.table k) vs ps z) (f k) (Decs-set others f ds))

  pub Decs-set : {laid : LaidOut} {s : Store} {a z : ℕ} {ts : List Ty} {vs : Data} {ps : List ℕ} (others : List ℕ) → ((k : ℕ) → is_among laid.with_offsets k ≡ is_among others k) → Decs laid s a ts vs ps z → Decs (with_others laid others) s a ts vs ps z
  Decs-set others f done = done
  Decs-set others f (whole_field b ds) = whole_field b (Decs-set others f ds)
  Decs-set others f (truth_field ds) = truth_field (Decs-set others f ds)
  Decs-set others f (tree_field d ds) = tree_field (Dec-set others f d) (Decs-set others f ds)
