-- What the made program means on a tree.
use Rattle.std.proofs.Common.{◌≡◌, ℕ, zero, suc, ◌^◌, ◌<◌, ◌≤◌, [], ◌∷◌, refl, ap, arith, ⊎_elim}
use Rattle.std.proofs.Math.Nat.{pow-suc}
use Rattle.std.proofs.str.Laws.{order}
use Rattle.gib_types.specs.Tree.{con, none, more}
use Rattle.gib_syntax.specs.Spelling.{Places}
use Rattle.gib_syntax.specs.Meaning.{Outcome, Gives, Stops, Deep, with_value, calls}
use Rattle.gib_gen.specs.Made.{grown}
use Rattle.gib_gen.specs.NumberTree.{NumberTree, Leaf, Node, value_of, leaves, height, worked}
use Rattle.gib_gen.proofs.Program.{program}

-- what becomes of the outcomes of a node's trees
abbrev joined : Outcome → Outcome → Outcome
joined a b = with_value a (λ v. with_value b (λ w. Gives (con 1 (more v (more w none)))))

module _ (at : Places) (k : ℕ) where
  pub works : (t : NumberTree) (depth : ℕ) → height t < depth → calls (program at k) depth 3 (value_of t ∷ []) ≡ Gives (value_of (worked k t))
  works t zero lt = absurd (omega arith)
  works (Leaf z) (suc depth) lt = refl
  works (Node l r) (suc depth) lt =
      let left = works l depth (omega (arith, lt)) in
      let right = works r depth (omega (arith, lt)) in
      λ i. joined (left i) (right i)

  pub is_deep : (t : NumberTree) (depth : ℕ) → depth ≤ height t → calls (program at k) depth 3 (value_of t ∷ []) ≡ Stops Deep
  is_deep t zero le = refl
  is_deep (Leaf z) (suc depth) le = absurd (omega arith)
  is_deep (Node l r) (suc depth) le = ⊎_elim
      (λ (lt : height l < depth). (λ i. joined (works l depth lt i) (is_deep r depth (omega (arith, le, lt)) i)))
      (λ (less : depth ≤ height l). ap (λ (o : Outcome). joined o (calls (program at k) depth 3 (value_of r ∷ []))) (is_deep l depth less))
      (order (height l) depth)

-- A full tree has its levels, and twice as many leaves with each.
pub full_height : (levels x : ℕ) → height (grown levels x).tree ≡ levels
full_height zero x = refl
full_height (suc levels) x = omega (arith, full_height levels x, full_height levels (grown levels x).last)

pub full_leaves : (levels x : ℕ) → leaves (grown levels x).tree ≡ 2 ^ levels
full_leaves zero x = refl
full_leaves (suc levels) x = omega (arith, pow-suc 2 levels, full_leaves levels x, full_leaves levels (grown levels x).last)

-- What is made of a tree has as many leaves.
pub worked_leaves : (k : ℕ) (t : NumberTree) → leaves (worked k t) ≡ leaves t
worked_leaves k (Leaf z) = refl
worked_leaves k (Node l r) = omega (arith, worked_leaves k l, worked_leaves k r)
