-- A constructor is made at the end of a heap.
use Rattle.std.proofs.Common.{◌≡◌, ℕ, ◌+◌, ◌≤◌, List, [], ◌++◌, length, take, drop, map, Result, Ok, Err, sym, ap, subst, ◌∙◌, arith, append-nil, length-append, IfOk, OnErr, MatchResult}
use Rattle.std.specs.List.{AllByRecursion}
use Rattle.std.proofs.lemmas.List.{length-map, drop_at}
use Rattle.std.proofs.Math.Seq.{take-length}
use Rattle.gib_types.specs.declared.table.ConId.{ConId}
use Rattle.gib_types.specs.Tree.{Datum, con, data_of}
use Rattle.gib_value.specs.declared.node.Node.{Node}
use Rattle.gib_value.specs.declared.node.Node.TheVariants as node
use Rattle.gib_value.specs.Heap.{value_of, heap_of, IsWithin, AreWithin}
use Rattle.gib_value.proofs.HeapLemmas.{heap_of-append, length-heap_of, AreWithin-more, fields-values, fields-within}

pub record Makes {E : Type 0} (k : ConId) (heap : List Datum) (fs new : List Node) (r : Result Node E) : Type 0 where
  pub invariant : AreWithin 0 new
  pub kept : (later : List Datum) × (heap_of new ≡ heap ++ later)
  pub within : IfOk r (λ n. IsWithin (length (heap_of new)) n)
  pub made : IfOk r (λ n. value_of (heap_of new) n ≡ con k.0 (data_of (map (value_of heap) fs)))
  pub refused : OnErr r (heap_of new ≡ heap)

makes_here : {E : Type 0} (k : ConId) (old fs new : List Node) (r : Result Node E) → AreWithin 0 old → AllByRecursion (IsWithin (length (heap_of old))) fs
    → MatchResult r (λ n. (new ≡ old ++ fs) × (n ≡ node.Con k (length fs) (length old))) (λ _. new ≡ old) → Makes k (heap_of old) fs new r
makes_here {E} k old fs new (Ok n) h inside m =
    let heap = heap_of old in
    let vs = map (value_of heap) fs in
    let here : AllByRecursion (IsWithin (length old)) fs = subst (λ (i : ℕ). AllByRecursion (IsWithin i) fs) (length-heap_of old) inside in
    let grown : heap_of new ≡ heap ++ vs = ap heap_of m.0 ∙ heap_of-append old fs here in
    let len : length vs ≡ length fs = length-map fs (value_of heap) in
    record {
      invariant = subst (λ (l : List Node). AreWithin 0 l) (sym m.0) (AreWithin-more old fs h here);
      kept = (vs, grown);
      within = subst (λ (x : Node). IsWithin (length (heap_of new)) x) (sym m.1) (let bound : length old + length fs ≤ length (heap_of new) = omega (arith, length-heap_of new, ap length m.0, length-append old fs) in bound);
      made = ap (value_of (heap_of new)) m.1 ∙ ap (λ (l : List Datum). con k.0 (data_of (take (length fs) (drop (length old) l)))) grown
          ∙ ap (λ (l : List Datum). con k.0 (data_of (take (length fs) l))) (drop_at heap vs (length old) (length-heap_of old))
          ∙ ap (λ (i : ℕ). con k.0 (data_of (take i vs))) (sym len) ∙ ap (λ (l : List Datum). con k.0 (data_of l)) (take-length vs);
      refused = tt;
    }
makes_here {E} k old fs new (Err e) h inside m = record {
  invariant = subst (λ (l : List Node). AreWithin 0 l) (sym m) h;
  kept = ([], ap heap_of m ∙ sym (append-nil (heap_of old)));
  within = tt;
  made = tt;
  refused = ap heap_of m;
}

-- the same where the old heap is known by its values
pub makes : {E : Type 0} (k : ConId) (heap : List Datum) (old fs new : List Node) (r : Result Node E) → heap_of old ≡ heap → AreWithin 0 old → AllByRecursion (IsWithin (length heap)) fs
    → MatchResult r (λ n. (new ≡ old ++ fs) × (n ≡ node.Con k (length fs) (length old))) (λ _. new ≡ old) → Makes k heap fs new r
makes k heap old fs new r e h inside m =
    subst (λ (l : List Datum). Makes k l fs new r) e (makes_here k old fs new r h (subst (λ (l : List Datum). AllByRecursion (IsWithin (length l)) fs) (sym e) inside) m)

-- fields that are looked up
pub fields_seen : (heap : List Datum) (ns found : List Node) (first count : ℕ) → heap_of ns ≡ heap → AreWithin 0 ns → found ≡ take count (drop first ns)
    → (map (value_of heap) found ≡ take count (drop first heap)) × AllByRecursion (IsWithin (length heap)) found
fields_seen heap ns found first count e h is =
    subst (λ (l : List Datum). (map (value_of l) found ≡ take count (drop first l)) × AllByRecursion (IsWithin (length l)) found) e (
      ap (map (value_of (heap_of ns))) is ∙ sym (fields-values ns first count h),
      subst (λ (i : ℕ). AllByRecursion (IsWithin i) found) (sym (length-heap_of ns)) (subst (λ (l : List Node). AllByRecursion (IsWithin (length ns)) l) (sym is) (fields-within ns first count h)),
    )
