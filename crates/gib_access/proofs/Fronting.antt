-- Reaches in front of an arm's term.
use Rattle.std.proofs.Common.{◌≡◌, ℕ, ◌+◌, ◌<◌, ◌≤◌, Bool, false, ◌||◌, cond, List, [], ◌∷◌, ◌++◌, length, drop, get_or, refl, sym, ap, ◌∙◌, subst, arith}
use Rattle.std.proofs.lemmas.List.{append-nil, drop_more}
use Rattle.std.specs.List.{list_any}
use Rattle.gib_types.specs.declared.table.Ty.{Ty}
use Rattle.gib_syntax.specs.Meaning.{at_fields}
use Rattle.gib_core.specs.declared.atom.Access.{Access}
use Rattle.gib_core.specs.declared.atom.Access.TheVariants.{Skip}
use Rattle.gib_core.specs.declared.atom.Variable.{Variable}
use Rattle.gib_core.specs.declared.node.Binding.TheVariants as b
use Rattle.gib_core.specs.declared.node.Node.{Node}
use Rattle.gib_core.specs.declared.node.Node.TheVariants as n
use Rattle.gib_core.specs.declared.node.TermId.{TermId}
use Rattle.gib_core.specs.Tree.{Then, Bind, Reach}
use Rattle.gib_core.specs.Arena.{Makes}
use Rattle.gib_access.specs.Used.{before_at, skips_by}
use Rattle.gib_access.specs.Made.{Fronts}
use Rattle.gib_core.proofs.Fronting.{grows_more, grows_none}

-- Nothing is left.
pub selected : {A : Type 0} (types : List Ty) (left done all : List A) → length left < 1 → done ++ at_fields false types left ≡ all → done ≡ all
selected [] left done all lt e = sym (append-nil done) ∙ e
selected (t ∷ ts) [] done all lt e = sym (append-nil done) ∙ e
selected (t ∷ ts) (x ∷ xs) done all lt e = absurd (omega (arith, lt))

pub fronts_none : (old : List Node) (body : TermId) → body.0 < length old → Fronts old old body body []
fronts_none old body lt = record { grows = grows_none old; inside = lt; is = refl }

pub fronts_more : (old mid new : List Node) (t u body : TermId) (y : Variable) (by : Access) (bs : List Bind) → Fronts old mid t body bs → Makes mid new u.0 (n.Then (b.Reach y by) t) → Fronts old new u body (Reach y by ∷ bs)
fronts_more old mid new t u body y by bs h p = record {
  grows = grows_more old mid new h.grows p.grows;
  inside = p.inside;
  is = p.term ∙ ap (Then (Reach y by)) h.is;
}

skip-none : (used : Variable → Bool) (z : Variable) (ys : List Variable) → list_any used ys ≡ false → skips_by used z ys ≡ []
skip-none used z [] e = refl
skip-none used z (y ∷ ys) e = ap (λ b. cond b (Reach y (Skip z) ∷ skips_by used y ys) []) e

any-more : (used : Variable → Bool) (ys : List Variable) (i : ℕ) (d : Variable) → i < length ys → used (get_or ys i d) ≡ false → list_any used (drop (i + 1) ys) ≡ false → list_any used (drop i ys) ≡ false
any-more used ys i d lt e h = ap (list_any used) (drop_more ys i d lt) ∙ ap (λ b. b || list_any used (drop (i + 1) ys)) e ∙ h

-- A field that is not used, with none behind it that is.
pub skips_stay : (used : Variable → Bool) (old now : List Node) (t body : TermId) (z : Variable) (ys : List Variable) (j i : ℕ) (d : Variable) (was wanted : Bool) → j ≡ i + 1 → j ≤ length ys → used (get_or ys i d) ≡ false → was ≡ false → was ≡ list_any used (drop j ys) → wanted ≡ false → Fronts old now t body (skips_by used (before_at z ys j) (drop j ys)) → (wanted ≡ list_any used (drop i ys)) × Fronts old now t body (skips_by used (before_at z ys i) (drop i ys))
skips_stay used old now t body z ys j i d was wanted ej le e ew h en f =
    let behind : list_any used (drop j ys) ≡ false = sym h ∙ ew in
    let none : list_any used (drop i ys) ≡ false = any-more used ys i d (omega (arith, ej, le)) e (subst (λ k. list_any used (drop k ys) ≡ false) ej behind) in
    (en ∙ sym none, subst (λ bs. Fronts old now t body bs) (skip-none used (before_at z ys j) (drop j ys) behind ∙ sym (skip-none used (before_at z ys i) (drop i ys) none)) f)
