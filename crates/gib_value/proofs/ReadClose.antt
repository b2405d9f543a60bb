-- A constructor takes the last values.
use Rattle.std.proofs.Common.{◌≡◌, ℕ, ◌-◌, ◌≤◌, List, [], ◌∷◌, ◌++◌, length, take, drop, map, sym, ap, ◌∙◌, arith}
use Rattle.std.specs.List.{AllByRecursion}
use Rattle.std.proofs.lemmas.List.{map-append, take-map, drop-map, length-map}
use Rattle.std.proofs.lemmas.List.{length-append}
use Rattle.gib_types.specs.Tree.{Datum, con, data_of}
use Rattle.gib_value.specs.declared.node.Node.{Node}
use Rattle.gib_value.specs.Heap.{value_of, IsWithin}
use Rattle.gib_value.specs.Reading.{closed}
use Rattle.gib_value.proofs.HeapLemmas.{values-more, All-take, All-append, AllWithin-later}

pub close_values : (heap new : List Datum) (done fields : List Node) (k base count : ℕ) (node : Node) → (later : List Datum) × (new ≡ heap ++ later)
    → AllByRecursion (IsWithin (length heap)) done → fields ≡ drop base done → base ≡ length done - count
    → value_of new node ≡ con k (data_of (map (value_of heap) fields))
    → map (value_of new) (take base done ++ node ∷ []) ≡ closed k count (map (value_of heap) done)
close_values heap new done fields k base count node (later, is) held from at made =
    let f = value_of heap in
    let front = take base done in
    let long : base ≡ length (map f done) - count = at ∙ ap (λ (n : ℕ). n - count) (sym (length-map done f)) in
    map-append (value_of new) front (node ∷ [])
    ∙ ap (λ (l : List Datum). map (value_of l) front ++ value_of new node ∷ []) is
    ∙ ap (λ (l : List Datum). l ++ value_of new node ∷ []) (values-more heap later front (All-take (IsWithin (length heap)) base done held))
    ∙ ap (λ (v : Datum). map f front ++ v ∷ []) (made ∙ ap (λ (l : List Node). con k (data_of (map f l))) from)
    ∙ ap (λ (l : List Datum). l ++ con k (data_of (map f (drop base done))) ∷ []) (sym (take-map f base done))
    ∙ ap (λ (l : List Datum). take base (map f done) ++ con k (data_of l) ∷ []) (sym (drop-map f base done))
    ∙ ap (λ (n : ℕ). take n (map f done) ++ con k (data_of (drop n (map f done))) ∷ []) long

pub close_held : (heap new : List Datum) (done : List Node) (base : ℕ) (node : Node) → (later : List Datum) × (new ≡ heap ++ later)
    → AllByRecursion (IsWithin (length heap)) done → IsWithin (length new) node → AllByRecursion (IsWithin (length new)) (take base done ++ node ∷ [])
close_held heap new done base node (later, is) held own =
    let le : length heap ≤ length new = omega (arith, ap length is, length-append heap later) in
    All-append (IsWithin (length new)) (take base done) (node ∷ []) (AllWithin-later (length heap) (length new) (take base done) le (All-take (IsWithin (length heap)) base done held)) (own, tt)

pub closed_items : (new : List Datum) (items cut kept : List Node) (node : Node) → items ≡ cut ++ node ∷ [] → cut ≡ kept → map (value_of new) items ≡ map (value_of new) (kept ++ node ∷ [])
closed_items new items cut kept node e f = ap (map (value_of new)) (e ∙ ap (λ (l : List Node). l ++ node ∷ []) f)
