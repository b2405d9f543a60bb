-- The arms of a copied case are those of the copied type.
use Rattle.std.proofs.Common.{◌≡◌, ℕ, Bool, true, false, ◌==◌, if◌then◌else◌, List, [], ◌∷◌, map, Option, Some, None, refl, sym, ap, ◌∙◌, subst}
use Rattle.std.specs.Prelude.{slice_get}
use Rattle.std.specs.Option.{option_map}
use Rattle.std.specs.List.{AllByRecursion}
use Rattle.std.proofs.lemmas.Option.{same_Some, slice_get-map}
use Rattle.std.proofs.lemmas.Bool.{eqb-true, eq-eqb}
use Rattle.gib_types.specs.declared.table.Ty.{Ty}
use Rattle.gib_types.specs.declared.table.Ty.TheVariants.{Whole, Truth, Tree}
use Rattle.gib_types.specs.Table.{Row, Table, con_at, owner_at, name_of, name_at}
use Rattle.gib_syntax.specs.Declarations.{number_of, place_of, next_place, AreDifferent, constructor_names, constructor_named}
use Rattle.gib_syntax.specs.Typing.{Covers, arm_names}
use Rattle.gib_syntax.proofs.Soundness.{place_within}
use Rattle.gib_syntax.specs.Forms.{Forms, DataForm, Meant}
use Rattle.gib_syntax.specs.GenericTree.{GenericArms, GenericLastArm, GenericNextArm, GenericRow, GenericGlobals}
use Rattle.gib_syntax.specs.GenericTyping.{FormScope, generic_arm_names, CoversType}
use Rattle.gib_mono.specs.Copying.{Naming, copy_arms}
use Rattle.gib_mono.specs.Copied.{IsItem, Setting, plain, IsCopyOf, IsCopied}
use Rattle.gib_check.proofs.Steps.{IsOwn}

-- a constructor of this type has its copy
pub own_copy : (s : Setting) (t : ℕ) (ts : Forms) (k : ℕ) → IsCopied s → IsItem s.types t ts → (own : IsOwn s.from.rows t k) → (d : ℕ) × IsCopyOf s own.0 own.1 ts k d
own_copy s t ts k copied item own = copied.constructors k own.0 own.1 ts own.2 own.3 (subst (λ (n : ℕ). IsItem s.types n ts) (sym own.4) item)

-- copies of different constructors have different names
pub names_apart : (s : Setting) (t : ℕ) (ts : Forms) (k l : ℕ) → IsCopied s → IsItem s.types t ts → IsOwn s.from.rows t k → IsOwn s.from.rows t l →
    s.naming.constructors k ts ≡ s.naming.constructors l ts → k ≡ l
names_apart s t ts k l copied item a b e =
    let c = own_copy s t ts k copied item a in
    let d = own_copy s t ts l copied item b in
    let same : c.0 ≡ d.0 = same_Some c.0 d.0 (sym c.1.named ∙ ap (constructor_named s.to.table) e ∙ d.1.named) in
    let base : a.0 ≡ b.0 = sym c.1.shown ∙ ap s.base same ∙ d.1.shown in
    same_Some k l
    (sym (place_within (map (λ (r : GenericRow). r.name) s.from.rows) k a.0 a.2)
    ∙ ap (slice_get (map (λ (r : GenericRow). r.name) s.from.rows)) base
    ∙ place_within (map (λ (r : GenericRow). r.name) s.from.rows) l b.0 b.2)

arm_names_are : (g : GenericGlobals) (nm : Naming) (m : Meant) (scope : FormScope) (ts : Forms) (arms : GenericArms) → arm_names (copy_arms g nm m scope ts arms) ≡ map (λ (k : ℕ). nm.constructors k ts) (generic_arm_names arms)
arm_names_are g nm m scope ts (GenericLastArm k xs e) = refl
arm_names_are g nm m scope ts (GenericNextArm k xs e arms) = ap (λ (ns : List ℕ). nm.constructors (number_of k) ts ∷ ns) (arm_names_are g nm m scope ts arms)

pub not_true : false ≡ true → ⊥
not_true e = cc

-- where a name stands among names, its copy stands among theirs
found_step : (b d : Bool) (p q : Option ℕ) (i : ℕ) → (b ≡ true → d ≡ true) → (d ≡ true → b ≡ true) → ((j : ℕ) → p ≡ Some j → q ≡ Some j) → (if b then Some 0 else next_place p) ≡ Some i → (if d then Some 0 else next_place q) ≡ Some i
found_step true true p q i go back k e = e
found_step true false p q i go back k e = absurd (not_true (go refl))
found_step false true p q i go back k e = absurd (not_true (back refl))
found_step false false None q i go back k e = absurd cc
found_step false false (Some j) q i go back k e = ap next_place (k j refl) ∙ e

place_copied : (s : Setting) (t : ℕ) (ts : Forms) (ks : List ℕ) (k i : ℕ) → IsCopied s → IsItem s.types t ts → AllByRecursion (IsOwn s.from.rows t) ks → IsOwn s.from.rows t k →
    place_of ks k ≡ Some i → place_of (map (λ (n : ℕ). s.naming.constructors n ts) ks) (s.naming.constructors k ts) ≡ Some i
place_copied s t ts [] k i copied item all own e = absurd cc
place_copied s t ts (l ∷ ks) k i copied item all own e =
    found_step (l == k) (s.naming.constructors l ts == s.naming.constructors k ts) (place_of ks k) (place_of (map (λ (n : ℕ). s.naming.constructors n ts) ks) (s.naming.constructors k ts)) i
    (λ h. eq-eqb (s.naming.constructors l ts) (s.naming.constructors k ts) (ap (λ (n : ℕ). s.naming.constructors n ts) (eqb-true l k h)))
    (λ h. eq-eqb l k (names_apart s t ts l k copied item all.0 own (eqb-true (s.naming.constructors l ts) (s.naming.constructors k ts) h)))
    (λ j h. place_copied s t ts ks k j copied item all.1 own h)
    e

absent_step : (b d : Bool) (p q : Option ℕ) → (d ≡ true → b ≡ true) → (p ≡ None → q ≡ None) → (if b then Some 0 else next_place p) ≡ None → (if d then Some 0 else next_place q) ≡ None
absent_step true d p q back k e = absurd cc
absent_step false true p q back k e = absurd (not_true (back refl))
absent_step false false None q back k e = ap next_place (k refl)
absent_step false false (Some j) q back k e = absurd cc

absent_copied : (s : Setting) (t : ℕ) (ts : Forms) (ks : List ℕ) (k : ℕ) → IsCopied s → IsItem s.types t ts → AllByRecursion (IsOwn s.from.rows t) ks → IsOwn s.from.rows t k →
    place_of ks k ≡ None → place_of (map (λ (n : ℕ). s.naming.constructors n ts) ks) (s.naming.constructors k ts) ≡ None
absent_copied s t ts [] k copied item all own e = refl
absent_copied s t ts (l ∷ ks) k copied item all own e =
    absent_step (l == k) (s.naming.constructors l ts == s.naming.constructors k ts) (place_of ks k) (place_of (map (λ (n : ℕ). s.naming.constructors n ts) ks) (s.naming.constructors k ts))
    (λ h. eq-eqb l k (names_apart s t ts l k copied item all.0 own (eqb-true (s.naming.constructors l ts) (s.naming.constructors k ts) h)))
    (absent_copied s t ts ks k copied item all.1 own)
    e

different_copied : (s : Setting) (t : ℕ) (ts : Forms) (ks : List ℕ) → IsCopied s → IsItem s.types t ts → AllByRecursion (IsOwn s.from.rows t) ks → AreDifferent ks → AreDifferent (map (λ (n : ℕ). s.naming.constructors n ts) ks)
different_copied s t ts [] copied item all h = tt {0}
different_copied s t ts (k ∷ ks) copied item all h = (absent_copied s t ts ks k copied item all.1 all.0 h.0, different_copied s t ts ks copied item all.1 h.1)

pub same_tree : (i j : ℕ) → Tree (record { 0 = i }) ≡ Tree (record { 0 = j }) → i ≡ j
same_tree i j e = ap (λ (t : Ty). tree_number t) e where
  tree_number : Ty → ℕ
  tree_number Whole = 0
  tree_number Truth = 0
  tree_number (Tree t) = t.0

own_plain : (s : Setting) (t : ℕ) (ts : Forms) (i : ℕ) (ks : List ℕ) → IsCopied s → IsItem s.types t ts → plain s (DataForm t ts) ≡ Tree (record { 0 = i }) → AllByRecursion (IsOwn s.from.rows t) ks →
    AllByRecursion (λ (k : ℕ). (c : ℕ) × (constructor_named s.to.table k ≡ Some c) × (owner_at s.to.table c ≡ i)) (map (λ (n : ℕ). s.naming.constructors n ts) ks)
own_plain s t ts i [] copied item is all = tt {0}
own_plain s t ts i (k ∷ ks) copied item is all =
    let d = own_copy s t ts k copied item all.0 in
    ((d.0, d.1.named, same_tree (owner_at s.to.table d.0) i (d.1.owner ∙ ap (λ (n : ℕ). plain s (DataForm n ts)) (all.0).4 ∙ is)), own_plain s t ts i ks copied item is all.1)

name_read : (r : Option Row) (x : ℕ) → option_map (λ (row : Row). row.name) r ≡ Some x → name_of r ≡ x
name_read None x e = absurd cc
name_read (Some row) x e = same_Some row.name x e

-- a constructor that is found by a name has it
pub name_found : (table : Table) (x d : ℕ) → constructor_named table x ≡ Some d → name_at table d ≡ x
name_found table x d e = name_read (slice_get table.rows d) x (sym (slice_get-map (λ (row : Row). row.name) table.rows d) ∙ place_within (constructor_names table) x d e)

each_plain : (s : Setting) (t : ℕ) (ts : Forms) (i : ℕ) (ks : List ℕ) → IsCopied s → IsItem s.types t ts → plain s (DataForm t ts) ≡ Tree (record { 0 = i }) → CoversType s.from.rows t ks →
    (d : ℕ) → con_at s.to.table i d ≡ Some d → (j : ℕ) × (place_of (map (λ (n : ℕ). s.naming.constructors n ts) ks) (name_at s.to.table d) ≡ Some j)
each_plain s t ts i ks copied item is covers d there =
    let o = copied.only t ts i d item is there in
    let j = covers.each o.1 o.2 o.4 o.5 in
    let at : place_of ks o.0 ≡ Some j.0 = subst (λ (n : ℕ). place_of ks n ≡ Some j.0) o.6 j.1 in (
      j.0,
      subst (λ (n : ℕ). place_of (map (λ (n : ℕ). s.naming.constructors n ts) ks) n ≡ Some j.0) (sym (name_found s.to.table (s.naming.constructors o.0 ts) d o.7))
          (place_copied s t ts ks o.0 j.0 copied item covers.own (o.1, o.2, o.3, o.4, o.5) at),
    )

pub covers_plain : (s : Setting) (t : ℕ) (ts : Forms) (i : ℕ) (m : Meant) (scope : FormScope) (arms : GenericArms) → IsCopied s → IsItem s.types t ts → plain s (DataForm t ts) ≡ Tree (record { 0 = i }) →
    CoversType s.from.rows t (generic_arm_names arms) → Covers s.to.table i (arm_names (copy_arms s.from s.naming m scope ts arms))
covers_plain s t ts i m scope arms copied item is covers =
    subst (λ (ks : List ℕ). Covers s.to.table i ks) (sym (arm_names_are s.from s.naming m scope ts arms))
    (record {
      own = own_plain s t ts i (generic_arm_names arms) copied item is covers.own;
      each = each_plain s t ts i (generic_arm_names arms) copied item is covers;
      once = different_copied s t ts (generic_arm_names arms) copied item covers.own covers.once;
    })
