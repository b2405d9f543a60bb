-- The stack of what is still to be written.
use Rattle.std.proofs.Common.{◌≡◌, ℕ, ◌+◌, ◌<◌, List, [], ◌∷◌, ◌++◌, length, map, take, drop, refl, sym, ap, subst, ◌∙◌, arith, append_assoc}
use Rattle.std.specs.List.{AllByRecursion}
use Rattle.gib_types.specs.declared.table.Ty.{Ty}
use Rattle.gib_types.specs.declared.table.Ty.TheVariants as ty
use Rattle.gib_types.specs.Table.{Table, fields_at}
use Rattle.gib_types.specs.Tree.{Datum, whole, truth, con, Data, none, more, data_of, HasType, HaveTypes}
use Rattle.gib_types.proofs.Owners.{con_at-owned, owned_within}
use Rattle.gib_types.specs.declared.table.ConId.{ConId}
use Rattle.gib_value.specs.declared.node.Node.{Node}
use Rattle.gib_value.specs.declared.node.Node.TheVariants as n
use Rattle.gib_value.specs.declared.write.Due.{Due}
use Rattle.gib_value.specs.declared.write.Due.TheVariants.{Field, Close}
use Rattle.gib_value.specs.Heap.{value_of, IsWithin}
use Rattle.gib_value.specs.Text.{con_text, spell, spell_fields}
use Rattle.gib_value.specs.Tags.{HasTags, HaveTags}
use Rattle.gib_value.specs.Writing.{due_text, IsDue, size, sizes, due_size}
use Rattle.gib_value.proofs.HeapLemmas.{All-append}

pub record Writes (table : Table) (names : List (List ℕ)) (heap : List Datum) (all : List ℕ) (due : List Due) (out : List ℕ) : Type 0 where
  pub fine : AllByRecursion (IsDue (length table.rows) heap) due
  pub same : out ++ due_text table names heap due ≡ all

-- ---- the fields of a constructor

fields_text : (table : Table) (names : List (List ℕ)) (heap : List Datum) (ns : List Node) (due : List Due)
    → due_text table names heap (map Field ns ++ Close ∷ due) ≡ spell_fields table names (data_of (map (value_of heap) ns)) (due_text table names heap due)
fields_text table names heap [] due = refl
fields_text table names heap (n ∷ ns) due = ap (λ (l : List ℕ). 32 ∷ spell table names (value_of heap n) l) (fields_text table names heap ns due)

pub con_text_is : (table : Table) (names : List (List ℕ)) (heap vs : List Datum) (k : ℕ) (fs : List Node) (old new : List Due) (out : List ℕ)
    → map (value_of heap) fs ≡ vs → 0 < length fs → new ≡ map Field fs ++ Close ∷ old
    → ((out ++ 40 ∷ []) ++ con_text table names k) ++ due_text table names heap new ≡ out ++ spell table names (con k (data_of vs)) (due_text table names heap old)
con_text_is table names heap vs k [] old new out e lt is = absurd (omega arith)
con_text_is table names heap vs k (n ∷ ns) old new out e lt is =
    let rest = due_text table names heap old in
    let name = con_text table names k in
    ap (λ (l : List Due). ((out ++ 40 ∷ []) ++ name) ++ due_text table names heap l) is
    ∙ ap (λ (l : List ℕ). ((out ++ 40 ∷ []) ++ name) ++ l) (fields_text table names heap (n ∷ ns) old)
    ∙ append_assoc (out ++ 40 ∷ []) name (spell_fields table names (data_of (map (value_of heap) (n ∷ ns))) rest)
    ∙ append_assoc out (40 ∷ []) (name ++ spell_fields table names (data_of (map (value_of heap) (n ∷ ns))) rest)
    ∙ ap (λ (l : List Datum). out ++ spell table names (con k (data_of l)) rest) e

fields_due : (n : ℕ) (heap : List Datum) (ns : List Node) → AllByRecursion (IsWithin (length heap)) ns → HaveTags n (data_of (map (value_of heap) ns)) → AllByRecursion (IsDue n heap) (map Field ns)
fields_due n heap [] h t = tt
fields_due n heap (x ∷ ns) h t = ((h.0, t.0), fields_due n heap ns h.1 t.1)

pub con_due : (n : ℕ) (heap vs : List Datum) (fs : List Node) (old new : List Due) → map (value_of heap) fs ≡ vs → AllByRecursion (IsWithin (length heap)) fs
    → HaveTags n (data_of vs) → AllByRecursion (IsDue n heap) old → new ≡ map Field fs ++ Close ∷ old → AllByRecursion (IsDue n heap) new
con_due n heap vs fs old new e h t rest is =
    subst (λ (l : List Due). AllByRecursion (IsDue n heap) l) (sym is)
    (All-append (IsDue n heap) (map Field fs) (Close ∷ old) (fields_due n heap fs h (subst (λ (l : List Datum). HaveTags n (data_of l)) (sym e) t)) (tt, rest))

fields_size : (heap : List Datum) (ns : List Node) (due : List Due) → due_size heap (map Field ns ++ Close ∷ due) ≡ sizes (data_of (map (value_of heap) ns)) + (1 + due_size heap due)
fields_size heap [] due = omega arith
fields_size heap (n ∷ ns) due = omega (arith, fields_size heap ns due)

pub con_less : (heap vs : List Datum) (k : ℕ) (fs : List Node) (old new : List Due) → map (value_of heap) fs ≡ vs → new ≡ map Field fs ++ Close ∷ old
    → due_size heap new < size (con k (data_of vs)) + due_size heap old
con_less heap vs k fs old new e is =
    omega (arith, ap (due_size heap) is, fields_size heap fs old, ap (λ (l : List Datum). sizes (data_of l)) e)

-- ---- a constructor without fields

pub bare_text : (table : Table) (names : List (List ℕ)) (vs : List Datum) (k : ℕ) (out rest : List ℕ) → vs ≡ []
    → (out ++ con_text table names k) ++ rest ≡ out ++ spell table names (con k (data_of vs)) rest
bare_text table names vs k out rest e =
    append_assoc out (con_text table names k) rest ∙ ap (λ (l : List Datum). out ++ spell table names (con k (data_of l)) rest) (sym e)

-- ---- the values of a type have its constructors

mutual
  pub HasTags-typed : (table : Table) (v : Datum) (t : Ty) → HasType table v t → HasTags (length table.rows) v
  HasTags-typed table (whole z) t h = tt
  HasTags-typed table (truth b) t h = tt
  HasTags-typed table (con k vs) ty.Whole h = absurd h
  HasTags-typed table (con k vs) ty.Truth h = absurd h
  HasTags-typed table (con k vs) (ty.Tree t) h = (owned_within table.rows t.0 k (con_at-owned table t.0 k k h.0).1, HaveTags-typed table vs (fields_at table k) h.1)

  HaveTags-typed : (table : Table) (vs : Data) (ts : List Ty) → HaveTypes table vs ts → HaveTags (length table.rows) vs
  HaveTags-typed table none ts h = tt
  HaveTags-typed table (more v vs) [] h = absurd h
  HaveTags-typed table (more v vs) (t ∷ ts) h = (HasTags-typed table v t h.0, HaveTags-typed table vs ts h.1)

-- ---- the same of a node

pub record Wrote (table : Table) (names : List (List ℕ)) (heap : List Datum) (node : Node) (old new : List Due) (out after : List ℕ) : Type 0 where
  pub same : after ++ due_text table names heap new ≡ out ++ spell table names (value_of heap node) (due_text table names heap old)
  pub fine : AllByRecursion (IsDue (length table.rows) heap) new
  pub less : due_size heap new < size (value_of heap node) + due_size heap old

pub wrote_con : (table : Table) (names : List (List ℕ)) (heap : List Datum) (node : Node) (k : ConId) (count first : ℕ) (fs : List Node) (old new : List Due) (out after : List ℕ)
    → node ≡ n.Con k count first → HasTags (length table.rows) (value_of heap node) → AllByRecursion (IsDue (length table.rows) heap) old
    → map (value_of heap) fs ≡ take count (drop first heap) → AllByRecursion (IsWithin (length heap)) fs → length fs ≡ count → (count ≡ 0 → ⊥)
    → after ≡ (out ++ 40 ∷ []) ++ con_text table names k.0 → new ≡ map Field fs ++ Close ∷ old
    → Wrote table names heap node old new out after
wrote_con table names heap node k count first fs old new out after is tags rest values within long some text_is due_is =
    let vs = take count (drop first heap) in
    let own : HasTags (length table.rows) (con k.0 (data_of vs)) = subst (λ (x : Node). HasTags (length table.rows) (value_of heap x)) is tags in
    record {
      same = ap (λ (l : List ℕ). l ++ due_text table names heap new) text_is
          ∙ con_text_is table names heap vs k.0 fs old new out values (omega arith) due_is
          ∙ ap (λ (x : Node). out ++ spell table names (value_of heap x) (due_text table names heap old)) (sym is);
      fine = con_due (length table.rows) heap vs fs old new values within own.1 rest due_is;
      less = subst (λ (x : Node). due_size heap new < size (value_of heap x) + due_size heap old) (sym is) (con_less heap vs k.0 fs old new values due_is);
    }
