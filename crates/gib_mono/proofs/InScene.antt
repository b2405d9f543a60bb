-- More types leave what a context says.
use Rattle.std.proofs.Common.{◌≡◌, ℕ, zero, suc, ◌+◌, ◌-◌, ◌<◌, ◌≤◌, ◌==◌, Bool, true, false, if◌then◌else◌, List, [], ◌∷◌, ◌++◌, length, map, take, slice_get, slice_index_or, Some, None, Result, Ok, Err, refl, sym, ap, ap₂, ◌∙◌, arith, subst}
use Rattle.std.specs.Prelude.{IfOk, OnOk, OnErr}
use Rattle.std.specs.Global.{Vec}
use Rattle.std.proofs.lemmas.Bool.{eqb-true, eq-eqb}
use Rattle.gib_types.specs.declared.types.TypeId.{TypeId}
use Rattle.gib_types.specs.declared.types.TypeNode.{TypeNode}
use Rattle.gib_types.specs.Form.{Form, Meant, WholeForm, form_or}
use Rattle.gib_types.specs.Types.{form_at, forms_at, forms_of, AreBelow, AreOnce, GrowsTo}
use Rattle.gib_syntax.specs.declared.tree.Ident.{Ident}
use Rattle.gib_syntax.specs.declared.written.Word.{Word}
use Rattle.gib_syntax.specs.Forms.{assign}
use Rattle.gib_syntax.specs.GenericTyping.{FormScope, form_in}
use Rattle.gib_mono.specs.declared.scene.InScope.{InScope}
use Rattle.gib_mono.specs.declared.entries.Entry.{Entry}
use Rattle.gib_mono.specs.declared.reading.Reading.{Reading}
use Rattle.gib_mono.specs.Copied.{Item}
use Rattle.gib_mono.specs.Entries.{item_of, AreEntriesBelow, with_key, place_in}
use Rattle.gib_mono.specs.Naming.{number_with, entry_place}
use Rattle.gib_mono.specs.Scenes.{Scenery, AreInScopeBelow, IsScenery, forms, meaning, scope_onto, scope_in, names_in, Keeps, MakesIn, NamesIn, ReadsIn}
use Rattle.gib_mono.specs.Reading.{HasRead}
use Rattle.gib_mono.proofs.Read.{forms_grow, form_grows, grows_none, grows_on}
use Rattle.gib_mono.proofs.Entered.{with_item, with_below, place_item}
use Rattle.gib_check.proofs.Growing.{many, below_more}

pub scope_grows : (old new : List TypeNode) (bs : List InScope) (scope : FormScope) → GrowsTo (forms_of old) (forms_of new) → AreInScopeBelow (length old) bs → scope_onto (forms_of new) bs scope ≡ scope_onto (forms_of old) bs scope
scope_grows old new [] scope g h = refl
scope_grows old new (b ∷ bs) scope g h =
    ap (λ f. scope_onto (forms_of new) bs ((b.name, f) ∷ scope)) (form_grows old new b.ty g h.0) ∙ scope_grows old new bs ((b.name, form_at (forms_of old) b.ty.0) ∷ scope) g h.1

names_grow : (old new : List TypeNode) (es : List Entry) → GrowsTo (forms_of old) (forms_of new) → AreEntriesBelow (length old) es → map (item_of (forms_of new)) es ≡ map (item_of (forms_of old)) es
names_grow old new [] g h = refl
names_grow old new (e ∷ es) g h = ap₂ (λ (i : Item) (is : List Item). i ∷ is) (ap (λ ts. record { name = e.name; types = ts }) (forms_grow old new e.types.items g h.0)) (names_grow old new es g h.1)

scope_more : (b c : ℕ) (bs : List InScope) → b ≤ c → AreInScopeBelow b bs → AreInScopeBelow c bs
scope_more b c [] l h = tt
scope_more b c (x ∷ bs) l h = ((let k = h.0 in omega (arith, k, l)), scope_more b c bs l h.1)

entries_more : (b c : ℕ) (es : List Entry) → b ≤ c → AreEntriesBelow b es → AreEntriesBelow c es
entries_more b c [] l h = tt
entries_more b c (e ∷ es) l h = (below_more b c e.types.items l h.0, entries_more b c es l h.1)

-- with these types in place of those before
abbrev pub with_types : Scenery → List TypeNode → Scenery
with_types k ns = record { types = ns; variables = k.variables; meant = k.meant; scope = k.scope; entries = k.entries }

pub known_more : (k : Scenery) (ns : List TypeNode) → IsScenery k → length k.types ≤ length ns → IsScenery (with_types k ns)
known_more k ns h l = record {
  meant = below_more (length k.types) (length ns) k.meant l h.meant;
  scope = scope_more (length k.types) (length ns) k.scope l h.scope;
  entries = entries_more (length k.types) (length ns) k.entries l h.entries;
}

pub keeps_more : (k : Scenery) (ns : List TypeNode) → IsScenery k → GrowsTo (forms_of k.types) (forms_of ns) → length k.types ≤ length ns → Keeps k (with_types k ns)
keeps_more k ns h g l = record {
  grows = g;
  longer = l;
  meaning = ap (assign k.variables) (forms_grow k.types ns k.meant g h.meant);
  scope = scope_grows k.types ns k.scope [] g h.scope;
  names = names_grow k.types ns k.entries g h.entries;
  kept = refl;
}

pub keeps_same : (k : Scenery) → Keeps k k
keeps_same k = record { grows = grows_none (forms_of k.types); longer = omega arith; meaning = refl; scope = refl; names = refl; kept = refl }

pub keeps_on : (a b c : Scenery) → Keeps a b → Keeps b c → Keeps a c
keeps_on a b c h k = record {
  grows = grows_on a.types b.types c.types h.grows k.grows;
  longer = (let l = h.longer in let m = k.longer in omega (arith, l, m));
  meaning = k.meaning ∙ h.meaning;
  scope = k.scope ∙ h.scope;
  names = k.names ∙ h.names;
  kept = k.kept ∙ h.kept;
}

pub reads_here : (k : Scenery) (ns : List TypeNode) (n : Meant) (words : List Word) (r : Reading) → IsScenery k → HasRead k.types ns n words r → ReadsIn k (with_types k ns) n words r
reads_here k ns n words r h read = record { keeps = keeps_more k ns h read.grows read.longer; below = read.below; types = read.types; places = read.places; uses = read.uses }

pub makes_here : (k : Scenery) (ns : List TypeNode) (id : TypeId) (f : Form) → IsScenery k → GrowsTo (forms_of k.types) (forms_of ns) → length k.types ≤ length ns → id.0 < length ns → form_at (forms_of ns) id.0 ≡ f → MakesIn k (with_types k ns) id f
makes_here k ns id f h g l b e = record { keeps = keeps_more k ns h g l; below = b; form = e }

-- the newest variable of a name

onto_last : (fs : List Form) (bs : List InScope) (b : InScope) (scope : FormScope) → scope_onto fs (bs ++ b ∷ []) scope ≡ (b.name, form_at fs b.ty.0) ∷ scope_onto fs bs scope
onto_last fs [] b scope = refl
onto_last fs (x ∷ bs) b scope = onto_last fs bs b ((x.name, form_at fs x.ty.0) ∷ scope)

pub scope_last : (fs : List Form) (bs : List InScope) (b : InScope) → scope_onto fs (bs ++ b ∷ []) [] ≡ (b.name, form_at fs b.ty.0) ∷ scope_onto fs bs []
scope_last fs bs b = onto_last fs bs b []

-- the same, where the parts of a scene are named apart from it

pub reads_view : (inside k : Scenery) (ns : List TypeNode) (m : List Form → Meant) (words : List Word) (r : Reading) → inside ≡ k → IsScenery inside → HasRead inside.types ns (m (forms_of inside.types)) words r → ReadsIn k (with_types inside ns) (m (forms k)) words r
reads_view inside k ns m words r e h read = subst (λ q. ReadsIn q (with_types inside ns) (m (forms q)) words r) e (reads_here inside ns (m (forms_of inside.types)) words r h read)

pub makes_view : (inside k : Scenery) (ns : List TypeNode) (id : TypeId) (f : List Form → Form) → inside ≡ k → IsScenery inside → GrowsTo (forms_of inside.types) (forms_of ns) → length inside.types ≤ length ns → id.0 < length ns
    → slice_get (forms_of ns) id.0 ≡ Some (f (forms_of inside.types)) → MakesIn k (with_types inside ns) id (f (forms k))
makes_view inside k ns id f e h g l b form = subst (λ q. MakesIn q (with_types inside ns) id (f (forms q))) e (makes_here inside ns id (f (forms_of inside.types)) h g l b (ap form_or form))

-- a variable's type, where it has one, and where it has none
pub variable_view : (inside k : Scenery) (bs : List InScope) (id : TypeId) (x : ℕ) → inside ≡ k → IsScenery inside → bs ≡ inside.scope → ((n : ℕ) → AreInScopeBelow n bs → id.0 < n) → ((fs : List Form) → form_in (scope_onto fs bs []) x ≡ Some (form_at fs id.0)) → MakesIn k k id (form_or (form_in (scope_in k) x))
variable_view inside k bs id x e h s below form = subst (λ q. MakesIn q q id (form_or (form_in (scope_in q) x))) e (record {
  keeps = keeps_same inside;
  below = below (length inside.types) (subst (AreInScopeBelow (length inside.types)) (sym s) h.scope);
  form = sym (ap form_or (ap (λ l. form_in (scope_onto (forms inside) l []) x) (sym s) ∙ form (forms inside)));
})

pub no_variable : {E : Type 0} (inside k : Scenery) (bs : List InScope) (ns : List TypeNode) (x : ℕ) (r : Result TypeId E) → inside ≡ k → IsScenery inside → GrowsTo (forms_of inside.types) (forms_of ns) → length inside.types ≤ length ns → IfOk r (λ id. id.0 < length ns)
    → IfOk r (λ id. slice_get (forms_of ns) id.0 ≡ Some WholeForm) → bs ≡ inside.scope → ((fs : List Form) → form_in (scope_onto fs bs []) x ≡ None) → IfOk r (λ id. MakesIn k (with_types inside ns) id (form_or (form_in (scope_in k) x)))
no_variable inside k bs ns x (Ok id) e h g l b form s none =
    subst (λ q. MakesIn q (with_types inside ns) id (form_or (form_in (scope_in q) x))) e
    (makes_here inside ns id (form_or (form_in (scope_in inside) x)) h g l b (ap form_or form ∙ sym (ap form_or (ap (λ l. form_in (scope_onto (forms inside) l []) x) (sym s) ∙ none (forms inside)))))
no_variable inside k bs ns x (Err u) e h g l b form s none = tt

pub last_at : {A : Type 0} (d : A) (xs : List A) (n m : ℕ) → m ≡ n - 1 → 0 < n → n ≤ length xs → take n xs ≡ take m xs ++ slice_index_or xs m d ∷ []
last_at d xs zero m e p l = absurd (omega (arith, p))
last_at d [] (suc n) m e p l = absurd (omega (arith, l))
last_at d (y ∷ xs) (suc zero) zero e p l = refl
last_at d (y ∷ xs) (suc zero) (suc m) e p l = absurd (omega (arith, e))
last_at d (y ∷ xs) (suc (suc n)) zero e p l = absurd (omega (arith, e))
last_at d (y ∷ xs) (suc (suc n)) (suc m) e p l = ap (λ z. y ∷ z) (last_at d xs (suc n) m (omega (arith, e)) (omega arith) (omega (arith, l)))

-- the search for the newest one

differs : (a b : ℕ) → (a ≡ b → ⊥) → (a == b) ≡ false
differs a b n = by (a == b) refl where
  by : (t : Bool) → (a == b) ≡ t → t ≡ false
  by true e = absurd (n (eqb-true a b e))
  by false e = refl

pub not_last : (fs : List Form) (bs before : List InScope) (b : InScope) (x : ℕ) → bs ≡ before ++ b ∷ [] → (b.name ≡ x → ⊥) → form_in (scope_onto fs before []) x ≡ form_in (scope_onto fs bs []) x
not_last fs bs before b x e n =
    sym (ap (λ l. form_in (scope_onto fs l []) x) e ∙ ap (λ s. form_in s x) (scope_last fs before b) ∙ ap (λ t. if t then Some (form_at fs b.ty.0) else form_in (scope_onto fs before []) x) (differs b.name x n))

pub is_last : (fs : List Form) (bs before : List InScope) (b : InScope) (x : ℕ) → bs ≡ before ++ b ∷ [] → b.name ≡ x → form_in (scope_onto fs bs []) x ≡ Some (form_at fs b.ty.0)
is_last fs bs before b x e n =
    ap (λ l. form_in (scope_onto fs l []) x) e ∙ ap (λ s. form_in s x) (scope_last fs before b) ∙ ap (λ t. if t then Some (form_at fs b.ty.0) else form_in (scope_onto fs before []) x) (eq-eqb b.name x n)

pub below_at : (n : ℕ) (bs before : List InScope) (b : InScope) → bs ≡ before ++ b ∷ [] → AreInScopeBelow n bs → b.ty.0 < n
below_at n bs before b e h = last before (subst (AreInScopeBelow n) e h) where
  last : (xs : List InScope) → AreInScopeBelow n (xs ++ b ∷ []) → b.ty.0 < n
  last [] h = h.0
  last (x ∷ xs) h = last xs h.1

pub below_front : (n m : ℕ) (bs : List InScope) → AreInScopeBelow n bs → AreInScopeBelow n (take m bs)
below_front n zero bs h = tt
below_front n (suc m) [] h = tt
below_front n (suc m) (b ∷ bs) h = (h.0, below_front n m bs h.1)

-- names of copies

pub either : {A E : Type 0} {P Q : Type 0} (C : Type 0) (r : Result A E) → OnOk r P → OnErr r Q → (P → C) → (Q → C) → C
either C (Ok a) h k f g = f h
either C (Err e) h k f g = g k

pub entries_put : (k : Scenery) (es : List Entry) (e : Entry) → IsScenery k → AreBelow (length k.types) e.types.items → es ≡ with_key k.entries e → AreEntriesBelow (length k.types) es
entries_put k es e h b is = subst (AreEntriesBelow (length k.types)) (sym is) (with_below (length k.types) k.entries e h.entries b)

-- with these names in place of those before
abbrev pub with_names : Scenery → List Entry → Scenery
with_names k es = record { types = k.types; variables = k.variables; meant = k.meant; scope = k.scope; entries = es }

pub names_put : (inside k : Scenery) (es : List Entry) (e : Entry) → inside ≡ k → IsScenery inside → AreOnce (forms_of inside.types) → AreBelow (length k.types) e.types.items → es ≡ with_key inside.entries e → NamesIn k (with_names inside es) e.name (forms_at (forms k) e.types.items)
names_put inside k es e same h once at is = subst (λ q. NamesIn q (with_names inside es) e.name (forms_at (forms q) e.types.items)) same (record {
  types_same = refl;
  names = ap (map (item_of (forms inside))) is ∙ with_item (forms inside) once inside.entries e (entries_many h.entries) (many_below b);
}) where
  b : AreBelow (length inside.types) e.types.items
  b = subst (λ (q : Scenery). AreBelow (length q.types) e.types.items) (sym same) at

  eq : length (forms_of inside.types) ≡ length inside.types
  eq = many inside.types

  entries_many : AreEntriesBelow (length inside.types) inside.entries → AreEntriesBelow (length (forms_of inside.types)) inside.entries
  entries_many q = subst (λ n. AreEntriesBelow n inside.entries) (sym eq) q

  many_below : AreBelow (length inside.types) e.types.items → AreBelow (length (forms_of inside.types)) e.types.items
  many_below q = subst (λ n. AreBelow n e.types.items) (sym eq) q

pub own_number : (base : ℕ) (names : List Item) (x : ℕ) (fs : List Form) (is : List TypeId) → length is ≡ 0 → x ≡ number_with base names x (forms_at fs is)
own_number base names x fs [] e = refl
own_number base names x fs (i ∷ is) e = absurd (omega (arith, e))

numbered_at : (base : ℕ) (names : List Item) (x : ℕ) (fs : List Form) (is : List TypeId) (n : ℕ) → 0 < length is → n ≡ base + entry_place names x (forms_at fs is) → n ≡ number_with base names x (forms_at fs is)
numbered_at base names x fs [] n l e = absurd (omega (arith, l))
numbered_at base names x fs (i ∷ is) n l e = e

pub numbered_place : (k : Scenery) (base : ℕ) (e : Entry) (n place : ℕ) → IsScenery k → AreOnce (forms k) → AreBelow (length k.types) e.types.items → 0 < length e.types.items → place ≡ place_in k.entries e → n ≡ base + place
    → n ≡ number_with base (names_in k) e.name (forms_at (forms k) e.types.items)
numbered_place k base e n place h once b l p s =
    let eq = many k.types in
    let at = place_item (forms k) once k.entries e (subst (λ m. AreEntriesBelow m k.entries) (sym eq) h.entries) (subst (λ m. AreBelow m e.types.items) (sym eq) b) in
    numbered_at base (names_in k) e.name (forms k) e.types.items n l (s ∙ ap (λ m. base + m) (p ∙ at))

pub made_ok : {E : Type 0} (inside k : Scenery) (ns : List TypeNode) (f : List Form → Form) (r : Result TypeId E) → inside ≡ k → IsScenery inside → GrowsTo (forms_of inside.types) (forms_of ns) → length inside.types ≤ length ns → IfOk r (λ id. id.0 < length ns)
    → IfOk r (λ id. slice_get (forms_of ns) id.0 ≡ Some (f (forms_of inside.types))) → IfOk r (λ id. MakesIn k (with_types inside ns) id (f (forms k)))
made_ok inside k ns f (Ok id) e h g l b form = makes_view inside k ns id f e h g l b form
made_ok inside k ns f (Err x) e h g l b form = tt

pub read_ok : {E : Type 0} (inside k : Scenery) (ns : List TypeNode) (vs : List Ident) (ms : List TypeId) (words : List Word) (r : Result Reading E) → inside ≡ k → IsScenery inside → vs ≡ inside.variables → ms ≡ inside.meant
    → IfOk r (HasRead inside.types ns (assign vs (forms_at (forms_of inside.types) ms)) words) → IfOk r (ReadsIn k (with_types inside ns) (meaning k) words)
read_ok inside k ns vs ms words (Ok r) e h v m read =
    subst (λ q. ReadsIn q (with_types inside ns) (meaning q) words r) e
    (reads_here inside ns (meaning inside) words r h (subst (λ q. HasRead inside.types ns (assign q (forms_at (forms_of inside.types) inside.meant)) words r) v (subst (λ q. HasRead inside.types ns (assign vs (forms_at (forms_of inside.types) q)) words r) m read)))
read_ok inside k ns vs ms words (Err x) e h v m read = tt

pub number_view : (inside k : Scenery) (base x : ℕ) (types : Vec TypeId) (n place : ℕ) → inside ≡ k → IsScenery inside → AreOnce (forms inside) → AreBelow (length k.types) types.items → 0 < length types.items → place ≡ place_in inside.entries (record { name = x; types = types }) → n ≡ base + place
    → n ≡ number_with base (names_in k) x (forms_at (forms k) types.items)
number_view inside k base x types n place e h once b l p s =
    subst (λ (q : Scenery). AreBelow (length q.types) types.items → n ≡ number_with base (names_in q) x (forms_at (forms q) types.items)) e (λ c. numbered_place inside base (record { name = x; types = types }) n place h once c l p s) b
