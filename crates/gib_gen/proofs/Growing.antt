-- The bytes of trees that grow from a number.
use Rattle.std.proofs.Common.{◌≡◌, ℕ, suc, List, [], ◌∷◌, ◌++◌, refl, sym, ap, ◌∙◌, append_assoc}
use Rattle.std.proofs.lemmas.List.{append-nil}
use Rattle.gib_types.specs.Bytes.{scalar}
use Rattle.gib_file.specs.Packed.{tree, packed}
use Rattle.gib_gen.specs.Made.{grown, packed_tree}
use Rattle.gib_gen.specs.NumberTree.{NumberTree, Leaf, Node, value_of}

no_scalar : (t : NumberTree) → scalar (value_of t) ≡ []
no_scalar (Leaf z) = refl
no_scalar (Node l r) = refl

all_tree : (t : NumberTree) → packed (value_of t) ≡ tree (value_of t)
all_tree (Leaf z) = refl
all_tree (Node l r) = refl

-- A node's bytes: its tag, and the bytes of both its trees.
pub node_bytes : (left right : NumberTree) → packed_tree (Node left right) ≡ 1 ∷ (packed_tree left ++ packed_tree right)
node_bytes left right =
    (λ i. 1 ∷ ((no_scalar left i ++ (no_scalar right i ++ [])) ++ (sym (all_tree left) i ++ (sym (all_tree right) i ++ []))))
    ∙ ap (λ (l : List ℕ). 1 ∷ (packed_tree left ++ l)) (append-nil (packed_tree right))

-- A node's trees grow one behind the other.
pub node_last : (levels below x middle last : ℕ) → levels ≡ suc below → middle ≡ (grown below x).last → last ≡ (grown below middle).last → last ≡ (grown levels x).last
node_last levels below x middle last e m l = l ∙ ap (λ (y : ℕ). (grown below y).last) m ∙ ap (λ (n : ℕ). (grown n x).last) (sym e)

-- A tag and the bytes of two trees are those of the node.
pub node_written : (levels below x middle : ℕ) (old tag left all : List ℕ) → levels ≡ suc below → middle ≡ (grown below x).last → tag ≡ old ++ 1 ∷ []
    → left ≡ tag ++ packed_tree (grown below x).tree → all ≡ left ++ packed_tree (grown below middle).tree → all ≡ old ++ packed_tree (grown levels x).tree
node_written levels below x middle old tag left all e m a b c =
    let first = packed_tree (grown below x).tree in
    let second = packed_tree (grown below (grown below x).last).tree in
    c ∙ (λ i. b i ++ packed_tree (grown below (m i)).tree) ∙ ap (λ (l : List ℕ). (l ++ first) ++ second) a
    ∙ append_assoc (old ++ 1 ∷ []) first second ∙ append_assoc old (1 ∷ []) (first ++ second)
    ∙ ap (λ (l : List ℕ). old ++ l) (sym (node_bytes (grown below x).tree (grown below (grown below x).last).tree))
    ∙ ap (λ (n : ℕ). old ++ packed_tree (grown n x).tree) (sym e)
