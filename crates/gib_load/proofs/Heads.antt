-- The heads of a value: their bytes and types, and where they go.
use Rattle.std.proofs.Common.{◌≡◌, ℕ, List, [], ◌∷◌, ◌++◌, length, refl, sym, ap, ◌∙◌, arith, append_assoc, length-append, true, false, Some}
use Rattle.gib_types.specs.declared.table.Ty.{Ty}
use Rattle.gib_types.specs.declared.table.Ty.TheVariants as ty
use Rattle.gib_types.specs.Table.{Table, con_at, fields_at}
use Rattle.gib_types.specs.Layout.{LaidOut, scalar_size}
use Rattle.gib_types.specs.Tree.{Datum, whole, truth, con, Data, none, more, HasType, HaveTypes, constructors, all_constructors}
use Rattle.gib_file.specs.Packed.{tree, trees, scalar as scalar_in_file, scalars as scalars_in_file}
use Rattle.gib_packed.specs.Scalars.{scalar, scalars}
use Rattle.gib_load.specs.Preorder.{Head, heads, all_heads}
use Rattle.gib_load.specs.Placement.{Open, place_head, place_heads}
pub use Rattle.gib_load.specs.Rest.{bytes_of, IsHead, AreHeads, no_heads, one_head}

-- the scalars of a head are those of the file
scalar-same : (v : Datum) → scalar_in_file v ≡ scalar v
scalar-same (whole z) = refl
scalar-same (truth true) = refl
scalar-same (truth false) = refl
scalar-same (con k vs) = refl

scalars-same : (vs : Data) → scalars_in_file vs ≡ scalars vs
scalars-same none = refl
scalars-same (more v vs) = ap (λ (l : List ℕ). l ++ scalars_in_file vs) (scalar-same v) ∙ ap (λ (l : List ℕ). scalar v ++ l) (scalars-same vs)

bytes-append : (hs gs : List Head) → bytes_of (hs ++ gs) ≡ bytes_of hs ++ bytes_of gs
bytes-append [] gs = refl
bytes-append (h ∷ hs) gs = ap (λ (l : List ℕ). (h.tag ∷ scalars h.fields) ++ l) (bytes-append hs gs) ∙ sym (append_assoc (h.tag ∷ scalars h.fields) (bytes_of hs) (bytes_of gs))

-- a value in a file is its heads' bytes
mutual
  pub tree-bytes : (v : Datum) → tree v ≡ bytes_of (heads v)
  tree-bytes (whole z) = refl
  tree-bytes (truth b) = refl
  tree-bytes (con k vs) = ap (λ (l : List ℕ). k ∷ (l ++ trees vs)) (scalars-same vs) ∙ ap (λ (l : List ℕ). k ∷ (scalars vs ++ l)) (trees-bytes vs)

  trees-bytes : (vs : Data) → trees vs ≡ bytes_of (all_heads vs)
  trees-bytes none = refl
  trees-bytes (more v vs) = ap (λ (l : List ℕ). l ++ trees vs) (tree-bytes v) ∙ ap (λ (l : List ℕ). bytes_of (heads v) ++ l) (trees-bytes vs) ∙ sym (bytes-append (heads v) (all_heads vs))

heads-append : {table : Table} {hs gs : List Head} → AreHeads table hs → AreHeads table gs → AreHeads table (hs ++ gs)
heads-append no_heads b = b
heads-append (one_head h a) b = one_head h (heads-append a b)

mutual
  pub heads-typed : (table : Table) (v : Datum) (t : Ty) → HasType table v t → AreHeads table (heads v)
  heads-typed table (whole z) t h = no_heads
  heads-typed table (truth b) t h = no_heads
  heads-typed table (con k vs) ty.Whole h = absurd h
  heads-typed table (con k vs) ty.Truth h = absurd h
  heads-typed table (con k vs) (ty.Tree t) h = one_head (record { owner = t.0; owned = h.0; typed = h.1 }) (all_heads-typed table vs (fields_at table k) h.1)

  all_heads-typed : (table : Table) (vs : Data) (ts : List Ty) → HaveTypes table vs ts → AreHeads table (all_heads vs)
  all_heads-typed table none ts h = no_heads
  all_heads-typed table (more v vs) [] h = absurd h
  all_heads-typed table (more v vs) (t ∷ ts) h = heads-append (heads-typed table v t h.0) (all_heads-typed table vs ts h.1)

-- a value has as many heads as constructors
mutual
  pub heads-count : (v : Datum) → length (heads v) ≡ constructors v
  heads-count (whole z) = refl
  heads-count (truth b) = refl
  heads-count (con k vs) = omega (arith, all_heads-count vs)

  all_heads-count : (vs : Data) → length (all_heads vs) ≡ all_constructors vs
  all_heads-count none = refl
  all_heads-count (more v vs) = let a = heads-count v in let b = all_heads-count vs in let l = length-append (heads v) (all_heads vs) in omega (arith, a, b, l)

-- the scalars of typed fields are as long as their types say
pub scalars-length : (table : Table) (vs : Data) (ts : List Ty) → HaveTypes table vs ts → length (scalars vs) ≡ scalar_size ts
scalars-length table none [] h = refl
scalars-length table none (t ∷ ts) h = absurd h
scalars-length table (more v vs) [] h = absurd h
scalars-length table (more (whole z) vs) (ty.Whole ∷ ts) h = omega (arith, scalars-length table vs ts h.1)
scalars-length table (more (truth b) vs) (ty.Truth ∷ ts) h = omega (arith, scalars-length table vs ts h.1)
scalars-length table (more (con k ws) vs) (ty.Tree t ∷ ts) h = scalars-length table vs ts h.1
scalars-length table (more (whole z) vs) (ty.Truth ∷ ts) h = absurd h.0
scalars-length table (more (whole z) vs) (ty.Tree t ∷ ts) h = absurd h.0
scalars-length table (more (truth b) vs) (ty.Whole ∷ ts) h = absurd h.0
scalars-length table (more (truth b) vs) (ty.Tree t ∷ ts) h = absurd h.0
scalars-length table (more (con k ws) vs) (ty.Whole ∷ ts) h = absurd h.0
scalars-length table (more (con k ws) vs) (ty.Truth ∷ ts) h = absurd h.0

-- heads one after another
pub place-append : (laid : LaidOut) (r : Open) (hs gs : List Head) → place_heads laid r (hs ++ gs) ≡ place_heads laid (place_heads laid r hs) gs
place-append laid r [] gs = refl
place-append laid r (h ∷ hs) gs = place-append laid (place_head laid r h) hs gs
