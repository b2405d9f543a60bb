-- Nodes at the end of a vector leave the values of those before them.
use Rattle.std.proofs.Common.{◌≡◌, ℕ, zero, suc, ◌+◌, ◌≤◌, List, [], ◌∷◌, ◌++◌, length, take, drop, map, refl, sym, ap, subst, ◌∙◌, arith, append_assoc, append-nil, length-append}
use Rattle.std.specs.List.{AllByRecursion}
use Rattle.std.proofs.lemmas.List.{take-map, drop-map, length-drop, take-append-le, drop-append-le}
use Rattle.gib_types.specs.Tree.{Datum, con, data_of}
use Rattle.gib_value.specs.declared.node.Node.{Node}
use Rattle.gib_value.specs.declared.node.Node.TheVariants as node
use Rattle.gib_value.specs.Heap.{value_of, grow, heap_of, IsWithin, AreWithin}

-- ---- nodes

take_front : (first count : ℕ) (heap later : List Datum) → first + count ≤ length heap → take count (drop first (heap ++ later)) ≡ take count (drop first heap)
take_front first count heap later h =
    ap (λ (l : List Datum). take count l) (drop-append-le first heap later (omega arith))
    ∙ take-append-le count (drop first heap) later (omega (arith, length-drop first heap))

pub value_of-more : (heap later : List Datum) (n : Node) → IsWithin (length heap) n → value_of (heap ++ later) n ≡ value_of heap n
value_of-more heap later (node.Whole z) h = refl
value_of-more heap later (node.Truth b) h = refl
value_of-more heap later (node.Con k count first) h = ap (λ (l : List Datum). con k.0 (data_of l)) (take_front first count heap later h)

pub values-more : (heap later : List Datum) (ns : List Node) → AllByRecursion (IsWithin (length heap)) ns → map (value_of (heap ++ later)) ns ≡ map (value_of heap) ns
values-more heap later [] h = refl
values-more heap later (n ∷ ns) h = ap (λ (v : Datum). v ∷ map (value_of (heap ++ later)) ns) (value_of-more heap later n h.0) ∙ ap (λ (vs : List Datum). value_of heap n ∷ vs) (values-more heap later ns h.1)

-- nodes whose fields stand in the heap
grow-fields : (heap done : List Datum) (ns : List Node) → AllByRecursion (IsWithin (length heap)) ns → grow (heap ++ done) ns ≡ (heap ++ done) ++ map (value_of heap) ns
grow-fields heap done [] h = sym (append-nil (heap ++ done))
grow-fields heap done (n ∷ ns) h =
    let v = value_of heap n in
    ap (λ (u : Datum). grow ((heap ++ done) ++ u ∷ []) ns) (value_of-more heap done n h.0)
    ∙ ap (λ (l : List Datum). grow l ns) (append_assoc heap done (v ∷ []))
    ∙ grow-fields heap (done ++ v ∷ []) ns h.1
    ∙ ap (λ (l : List Datum). l ++ map (value_of heap) ns) (sym (append_assoc heap done (v ∷ [])))
    ∙ append_assoc (heap ++ done) (v ∷ []) (map (value_of heap) ns)

grow-append : (heap : List Datum) (a b : List Node) → grow heap (a ++ b) ≡ grow (grow heap a) b
grow-append heap [] b = refl
grow-append heap (n ∷ a) b = grow-append (heap ++ value_of heap n ∷ []) a b

length-grow : (heap : List Datum) (ns : List Node) → length (grow heap ns) ≡ length heap + length ns
length-grow heap [] = omega arith
length-grow heap (n ∷ ns) = omega (arith, length-grow (heap ++ value_of heap n ∷ []) ns, length-append heap (value_of heap n ∷ []))

pub length-heap_of : (ns : List Node) → length (heap_of ns) ≡ length ns
length-heap_of ns = omega (arith, length-grow [] ns)

pub heap_of-append : (ns fs : List Node) → AllByRecursion (IsWithin (length ns)) fs → heap_of (ns ++ fs) ≡ heap_of ns ++ map (value_of (heap_of ns)) fs
heap_of-append ns fs h =
    let heap = heap_of ns in
    let within : AllByRecursion (IsWithin (length heap)) fs = subst (λ (n : ℕ). AllByRecursion (IsWithin n) fs) (sym (length-heap_of ns)) h in
    grow-append [] ns fs ∙ ap (λ (l : List Datum). grow l fs) (sym (append-nil heap)) ∙ grow-fields heap [] fs within ∙ ap (λ (l : List Datum). l ++ map (value_of heap) fs) (append-nil heap)

-- ---- places

pub IsWithin-later : (m n : ℕ) (x : Node) → m ≤ n → IsWithin m x → IsWithin n x
IsWithin-later m n (node.Whole z) le h = tt
IsWithin-later m n (node.Truth b) le h = tt
IsWithin-later m n (node.Con k count first) le h = omega arith

pub AllWithin-later : (m n : ℕ) (xs : List Node) → m ≤ n → AllByRecursion (IsWithin m) xs → AllByRecursion (IsWithin n) xs
AllWithin-later m n [] le h = tt
AllWithin-later m n (x ∷ xs) le h = (IsWithin-later m n x le h.0, AllWithin-later m n xs le h.1)

AreWithin-from_all : (at : ℕ) (xs : List Node) → AllByRecursion (IsWithin at) xs → AreWithin at xs
AreWithin-from_all at [] h = tt
AreWithin-from_all at (x ∷ xs) h = (h.0, AreWithin-from_all (at + 1) xs (AllWithin-later at (at + 1) xs (omega arith) h.1))

AreWithin-append : (at end : ℕ) (xs ys : List Node) → end ≡ at + length xs → AreWithin at xs → AllByRecursion (IsWithin end) ys → AreWithin at (xs ++ ys)
AreWithin-append at end [] ys e h k = AreWithin-from_all at ys (let same : end ≡ at = omega arith in subst (λ (n : ℕ). AllByRecursion (IsWithin n) ys) same k)
AreWithin-append at end (x ∷ xs) ys e h k = (h.0, AreWithin-append (at + 1) end xs ys (omega arith) h.1 k)

pub AreWithin-more : (xs ys : List Node) → AreWithin 0 xs → AllByRecursion (IsWithin (length xs)) ys → AreWithin 0 (xs ++ ys)
AreWithin-more xs ys h k = AreWithin-append 0 (length xs) xs ys (omega arith) h k

pub All-take : {A : Type 0} (P : A → Type 0) (n : ℕ) (xs : List A) → AllByRecursion P xs → AllByRecursion P (take n xs)
All-take P zero xs h = tt
All-take P (suc n) [] h = tt
All-take P (suc n) (x ∷ xs) h = (h.0, All-take P n xs h.1)

pub All-drop : {A : Type 0} (P : A → Type 0) (n : ℕ) (xs : List A) → AllByRecursion P xs → AllByRecursion P (drop n xs)
All-drop P zero xs h = h
All-drop P (suc n) [] h = tt
All-drop P (suc n) (x ∷ xs) h = All-drop P n xs h.1

pub All-append : {A : Type 0} (P : A → Type 0) (xs ys : List A) → AllByRecursion P xs → AllByRecursion P ys → AllByRecursion P (xs ++ ys)
All-append P [] ys h k = k
All-append P (x ∷ xs) ys h k = (h.0, All-append P xs ys h.1 k)

-- ---- each node's value, by its place

-- what is grown begins with the heap
record Grown (heap : List Datum) (ns : List Node) : Type 0 where
  later : List Datum
  is : grow heap ns ≡ heap ++ later
  each : later ≡ map (value_of (grow heap ns)) ns

grown : (heap : List Datum) (ns : List Node) → AreWithin (length heap) ns → Grown heap ns
grown heap [] h = record { later = []; is = sym (append-nil heap); each = refl }
grown heap (n ∷ ns) h =
    let v = value_of heap n in
    let rest : AreWithin (length (heap ++ v ∷ [])) ns = subst (λ (m : ℕ). AreWithin m ns) (sym (length-append heap (v ∷ []))) h.1 in
    let g = grown (heap ++ v ∷ []) ns rest in
    let whole_is : grow heap (n ∷ ns) ≡ heap ++ (v ∷ g.later) = g.is ∙ append_assoc heap (v ∷ []) g.later in
    let same : value_of (grow heap (n ∷ ns)) n ≡ v = ap (λ (l : List Datum). value_of l n) whole_is ∙ value_of-more heap (v ∷ g.later) n h.0 in
    record {
      later = v ∷ g.later;
      is = whole_is;
      each = ap (λ (u : Datum). u ∷ g.later) (sym same) ∙ ap (λ (l : List Datum). value_of (grow heap (n ∷ ns)) n ∷ l) g.each;
    }

pub heap_of-map : (ns : List Node) → AreWithin 0 ns → heap_of ns ≡ map (value_of (heap_of ns)) ns
heap_of-map ns h = let g = grown [] ns h in g.is ∙ g.each

-- the fields of a node
pub fields-values : (ns : List Node) (first count : ℕ) → AreWithin 0 ns → take count (drop first (heap_of ns)) ≡ map (value_of (heap_of ns)) (take count (drop first ns))
fields-values ns first count h =
    let f = value_of (heap_of ns) in
    ap (λ (l : List Datum). take count (drop first l)) (heap_of-map ns h) ∙ ap (λ (l : List Datum). take count l) (drop-map f first ns) ∙ take-map f count (drop first ns)

AreWithin-all : (at end : ℕ) (ns : List Node) → at + length ns ≤ end → AreWithin at ns → AllByRecursion (IsWithin end) ns
AreWithin-all at end [] le h = tt
AreWithin-all at end (n ∷ ns) le h = (IsWithin-later at end n (omega arith) h.0, AreWithin-all (at + 1) end ns (omega arith) h.1)

pub fields-within : (ns : List Node) (first count : ℕ) → AreWithin 0 ns → AllByRecursion (IsWithin (length ns)) (take count (drop first ns))
fields-within ns first count h = All-take (IsWithin (length ns)) count (drop first ns) (All-drop (IsWithin (length ns)) first ns (AreWithin-all 0 (length ns) ns (omega arith) h))
