-- What stands has its type, and one head is where redirects and indirections lead.
use Rattle.std.proofs.Common.{◌≡◌, ℕ, List, refl, sym, subst, arith}
use Rattle.gib_types.specs.declared.table.Ty.{Ty}
use Rattle.gib_types.specs.declared.table.Ty.TheVariants.{Tree}
use Rattle.gib_types.specs.Layout.{LaidOut}
use Rattle.gib_types.specs.Tree.{Datum, Data, HasType, HaveTypes}
use Rattle.gib_mem.specs.Memory.{Store}
use Rattle.gib_packed.specs.Decoding.{Dec, redirect, indirect, head, Decs, done, whole_field, truth_field, tree_field}
use Rattle.gib_packed.specs.Reaching.{Leads, here, on}
use Rattle.gib_packed.specs.declared.root.Root.{Root}
use Rattle.gib_packed.specs.Stands.{Stands, a_whole, a_truth, a_tree}
use Rattle.gib_packed.proofs.HoldsLemmas.{Holds-first, same_byte, Points-same}

mutual
  pub Dec-typed : {laid : LaidOut} {s : Store} {a t z : ℕ} {v : Datum} → Dec laid s a t v z → HasType laid.table v (Tree (record { 0 = t }))
  Dec-typed (redirect p d) = Dec-typed d
  Dec-typed (indirect p d e) = Dec-typed d
  Dec-typed (head k o h ds) = (o, Decs-typed ds)

  pub Decs-typed : {laid : LaidOut} {s : Store} {a z : ℕ} {ts : List Ty} {vs : Data} {places : List ℕ} → Decs laid s a ts vs places z → HaveTypes laid.table vs ts
  Decs-typed done = tt {0}
  Decs-typed (whole_field f ds) = (f, Decs-typed ds)
  Decs-typed (truth_field ds) = (tt {0}, Decs-typed ds)
  Decs-typed (tree_field d ds) = (Dec-typed d, Decs-typed ds)

pub Stands-typed : {laid : LaidOut} {s : Store} {root : Root} {ty : Ty} {v : Datum} → Stands laid s root ty v → HasType laid.table v ty
Stands-typed (a_whole f) = f
Stands-typed a_truth = tt {0}
Stands-typed (a_tree d) = Dec-typed d

pub Leads-same : {s : Store} {a g h : ℕ} → Leads s a g → Leads s a h → g ≡ h
Leads-same (here e lt) (here f le) = refl
Leads-same {s = s} {a = a} (here e lt) (on p le l) = let tag = same_byte s a _ _ e (Holds-first p.bytes) in absurd (omega arith)
Leads-same {s = s} {a = a} (on p le l) (here e lt) = let tag = same_byte s a _ _ e (Holds-first p.bytes) in absurd (omega arith)
Leads-same {s = s} {h = h} (on p le l) (on q lt m) = let point = Points-same p q in Leads-same l (subst (λ (x : ℕ). Leads s x h) (sym point.target) m)
