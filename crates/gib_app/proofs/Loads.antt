-- A value that was loaded into a memory of its own, or was not.
use Rattle.std.proofs.Common.{◌≡◌, ◌∙◌, ℕ, ◌≤◌, List, Err, IsErrOf, ap, subst, subst₂, arith}
use Rattle.gib_types.specs.Layout.{LaidOut}
use Rattle.gib_types.specs.Loaded.{Loaded}
use Rattle.gib_types.specs.Tree.{Datum}
use Rattle.gib_mem.specs.Memory.{Memory, IsBounded}
use Rattle.gib_mem.specs.Plain.{nothing}
use Rattle.gib_packed.specs.declared.root.Root.{Root}
use Rattle.gib_file.specs.Packed.{Packed}
use Rattle.gib_file.specs.Surveyed.{Surveyed}
use Rattle.gib_core.specs.LoweredParts.{LoweredParts}
use Rattle.gib_core.specs.Parts.{core_of}
use Rattle.gib_load.specs.Holding.{Holding}
use Rattle.gib_load.specs.Placement.{Placement, placed_in}
use Rattle.gib_load.specs.Refusal.{Refused, Spent}
use Rattle.gib_app.specs.Workers.{IsLoaded, IsOver}
use Rattle.gib_app.proofs.Roots.{packed_in, placed_limit, refused_limit, start_of}

-- A fault is the same, whatever was to be answered.
pub same_fault : {A B E : Type 0} (f g : E) → IsErrOf {T = A} (Err f) g → IsErrOf {T = B} (Err f) g
same_fault f g e = let is : f ≡ g = cc in ap (λ x. Err x) is

module _ (l : LoweredParts) (laid : LaidOut) (s : Surveyed) (chunks : ℕ) (m0 m1 : Memory) (same : laid ≡ l.code.laid) (table : s.table ≡ l.code.laid.table) (empty : m0 ≡ nothing chunks) where
  -- by the layouts of the code, from a memory in which nothing is drawn
  placed_here : (v : Datum) (p : Placement) → p ≡ placed_in laid m0 v → p ≡ placed_in l.code.laid (nothing chunks) v
  placed_here v p is = subst₂ (λ (x : LaidOut) (m : Memory). p ≡ placed_in x m v) same empty is

  pub input_loaded : (place : Root) (tails : List ℕ) → s.ty ≡ (core_of l.core).main.parameter → IsBounded m1
      → ((v : Datum) → Packed laid.table s.ty v s.bytes → record { memory = m1; root = place; tails = tails } ≡ placed_in laid m0 v)
      → ((v : Datum) → Packed laid.table s.ty v s.bytes → Holding laid s.ty v (record { memory = m1; root = place; tails = tails }))
      → (v : Datum) → Packed s.table s.ty v s.bytes → IsLoaded l chunks v m1 place tails
  input_loaded place tails ty bounded placed holds v p =
      let q = packed_in l laid s v same table p in
      let is = placed_here v (record { memory = m1; root = place; tails = tails }) (placed v q) in
      let limit : m1.limit ≡ chunks = ap (λ (x : Placement). x.memory.limit) is ∙ placed_limit l.code.laid (nothing chunks) v in
      let drawn : m1.drawn ≡ (placed_in l.code.laid (nothing chunks) v).memory.drawn = ap (λ (x : Placement). x.memory.drawn) is in
      let order = bounded.order in
      record { placed = is; few = omega (arith, limit, drawn, order); start = start_of l laid s.ty v m1 place tails same ty (holds v q) }

  pub input_limit : (place : Root) (tails : List ℕ) → ((v : Datum) → Packed laid.table s.ty v s.bytes → record { memory = m1; root = place; tails = tails } ≡ placed_in laid m0 v)
      → (v : Datum) → Packed s.table s.ty v s.bytes → m1.limit ≡ chunks
  input_limit place tails placed v p =
      let is = placed_here v (record { memory = m1; root = place; tails = tails }) (placed v (packed_in l laid s v same table p)) in
      ap (λ (x : Placement). x.memory.limit) is ∙ placed_limit l.code.laid (nothing chunks) v

  pub input_over : ((x : LaidOut) (m m' : Memory) (v : Datum) → Refused x m v m' → (placed_in x m v).memory.drawn ≤ m.limit → ⊥)
      → ((v : Datum) → Packed laid.table s.ty v s.bytes → Refused laid m0 v m1) → ((v : Datum) → Packed laid.table s.ty v s.bytes → Spent v m1)
      → (v : Datum) → Packed s.table s.ty v s.bytes → IsOver l.code.laid chunks v
  input_over law refused spent v p =
      let q = packed_in l laid s v same table p in
      let there = subst₂ (λ (x : LaidOut) (m : Memory). Refused x m v m1) same empty (refused v q) in
      let limit : m1.limit ≡ chunks = refused_limit l.code.laid (nothing chunks) m1 v there in
      record { many = law l.code.laid (nothing chunks) m1 v there; needs = subst (λ (n : ℕ). Loaded n v) limit (spent v q).loaded }
