-- Names of copies, in their order.
use Rattle.std.proofs.Common.{◌≡◌, ℕ, zero, suc, ◌<◌, List, [], ◌∷◌, ◌++◌, length, map, slice_get, Option, Some, None, refl, sym, ap, ap₂, ◌∙◌, arith, subst, append-nil, append_assoc}
use Rattle.std.specs.Global.{Vec}
use Rattle.std.proofs.lemmas.Option.{same_Some}
use Rattle.gib_types.specs.declared.types.TypeId.{TypeId}
use Rattle.gib_types.specs.Form.{Form, Forms}
use Rattle.gib_types.specs.Types.{forms_at, forms_of, AreBelow}
use Rattle.gib_syntax.specs.declared.written.Word.{Word}
use Rattle.gib_syntax.specs.declared.program.GenericConstructor.{GenericConstructor}
use Rattle.gib_syntax.specs.declared.program.GenericData.{GenericData}
use Rattle.gib_syntax.specs.declared.program.GenericFunction.{GenericFunction}
use Rattle.gib_syntax.specs.Declarations.{number_of}
use Rattle.gib_syntax.specs.GenericParts.{GenericParts, constructor_in, data_in, function_in}
use Rattle.gib_syntax.specs.GenericTree.{GenericConstructorTree, GenericDataTree, GenericFunctionTree, GenericGlobals}
use Rattle.gib_mono.specs.declared.copier.Copier.{Copier}
use Rattle.gib_mono.specs.declared.found.CopyKey.{CopyKey}
use Rattle.gib_mono.specs.declared.found.CopyKey.TheVariants as k
use Rattle.gib_mono.specs.Copied.{Item}
use Rattle.gib_mono.specs.Declaring.{copies_with, copies_from, IsKeyInside, AreKeysInside, own_entry, Enters}
use Rattle.gib_mono.specs.Found.{copy_from, KeyBelow, AreCopies}
use Rattle.gib_mono.specs.Naming.{entry, copy_entries, listed_entries, with_entry, with_entries}
use Rattle.gib_mono.specs.Scenes.{Scenery, forms, names_in, NamesIn}
use Rattle.gib_mono.specs.Sources.{globals_in}
use Rattle.gib_mono.specs.Walk.{Copy, DataOf, FunctionOf, data_asked, function_asked}
use Rattle.gib_check.proofs.RowRules.{get_map}
use Rattle.gib_mono.proofs.Baring.{with_more}

-- one name

abbrev pub with_scene : Copier → Scenery → Copier
with_scene s k = record { alloc = s.alloc; scene = k; parts = s.parts; base = s.base; exprs = s.exprs }

pub name_put : (s : Copier) (k : Scenery) (x : ℕ) (ids us : List TypeId) → us ≡ ids → NamesIn s.scene k x (forms_at (forms s.scene) us) → Enters s (with_scene s k) (with_entry (names_in s.scene) (entry x (forms_at (forms s.scene) ids)))
name_put s k x ids us e h = record { types = h.types_same; names = h.names ∙ ap (λ l. with_entry (names_in s.scene) (entry x (forms_at (forms s.scene) l))) e; base = refl; exprs = refl }

pub enters_on : (a b c : Copier) (xs : List Item) (f : List Item → List Form → List Item) → Enters a b xs → Enters b c (f (names_in b.scene) (forms b.scene)) → Enters a c (f xs (forms a.scene))
enters_on a b c xs f h k = record {
  types = k.types ∙ h.types;
  names = k.names ∙ ap₂ f h.names (ap forms_of h.types);
  base = k.base ∙ h.base;
  exprs = k.exprs ∙ h.exprs;
}

pub still_below : (a b : Copier) (xs : List Item) (ids us : List TypeId) → Enters a b xs → us ≡ ids → AreBelow (length a.scene.types) ids → AreBelow (length b.scene.types) us
still_below a b xs ids us h e l = subst (λ ns. AreBelow (length ns) us) (sym h.types) (subst (AreBelow (length a.scene.types)) (sym e) l)

-- several

pub record NamedSoFar (old now : Copier) (left whole : List Item) : Type 0 where
  pub types : now.scene.types ≡ old.scene.types
  pub base : now.base ≡ old.base
  pub exprs : now.exprs ≡ old.exprs
  pub is : with_entries (names_in now.scene) left ≡ whole

pub named_start : (s : Copier) (left : List Item) → NamedSoFar s s left (with_entries (names_in s.scene) left)
named_start s left = record { types = refl; base = refl; exprs = refl; is = refl }

pub named_end : (old now : Copier) (left whole : List Item) → left ≡ [] → NamedSoFar old now left whole → Enters old now whole
named_end old now left whole e h = record { types = h.types; names = ap (with_entries (names_in now.scene)) (sym e) ∙ h.is; base = h.base; exprs = h.exprs }

pub constructors_named : (old now new : Copier) (ids : List TypeId) (rest after : List GenericConstructor) (c : GenericConstructor) (whole : List Item) → rest ≡ c ∷ after → NamedSoFar old now (map (own_entry (forms_at (forms old.scene) ids)) rest) whole
    → Enters now new (with_entry (names_in now.scene) (entry (number_of c.name) (forms_at (forms now.scene) ids))) → NamedSoFar old new (map (own_entry (forms_at (forms old.scene) ids)) after) whole
constructors_named old now new ids rest after c whole e h one =
    let ts = forms_at (forms old.scene) ids in
    record {
      types = one.types ∙ h.types;
      base = one.base ∙ h.base;
      exprs = one.exprs ∙ h.exprs;
      is = ap (λ l. with_entries l (map (own_entry ts) after)) (one.names ∙ ap (λ ns. with_entry (names_in now.scene) (entry (number_of c.name) (forms_at (forms_of ns) ids))) h.types)
          ∙ ap (λ l. with_entries (names_in now.scene) (map (own_entry ts) l)) (sym e) ∙ h.is;
    }

pub constructors_over : (old now : Copier) (ids : List TypeId) (rest : List GenericConstructor) (whole : List Item) → rest ≡ [] → NamedSoFar old now (map (own_entry (forms_at (forms old.scene) ids)) rest) whole → Enters old now whole
constructors_over old now ids rest whole e h = named_end old now (map (own_entry (forms_at (forms old.scene) ids)) rest) whole (ap (map (own_entry (forms_at (forms old.scene) ids))) e) h

pub so_far_below : (old now : Copier) (left whole : List Item) (ids : List TypeId) → NamedSoFar old now left whole → AreBelow (length old.scene.types) ids → AreBelow (length now.scene.types) ids
so_far_below old now left whole ids h l = subst (λ ns. AreBelow (length ns) ids) (sym h.types) l

-- a copy's names

own_names : (words : List Word) (ts : Forms) (cs : List GenericConstructor) → map (own_entry ts) cs ≡ map (λ (k : GenericConstructorTree). entry (number_of k.name) ts) (map (constructor_in words) cs)
own_names words ts [] = refl
own_names words ts (c ∷ cs) = ap (λ l. entry (number_of c.name) ts ∷ l) (own_names words ts cs)

pub data_named : (p : GenericParts) (s0 s1 s2 : Copier) (place : ℕ) (decl : GenericData) (d : GenericDataTree) (cs : List GenericConstructor) (ids : List TypeId) → slice_get (globals_in p).datas place ≡ Some d → slice_get p.datas place ≡ Some decl → cs ≡ decl.constructors.items
    → Enters s0 s1 (with_entry (names_in s0.scene) (entry (number_of decl.name) (forms_at (forms s0.scene) ids))) → Enters s1 s2 (with_entries (names_in s1.scene) (map (own_entry (forms_at (forms s1.scene) ids)) cs))
    → Enters s0 s2 (with_entries (names_in s0.scene) (copy_entries (DataOf d (forms_at (forms s0.scene) ids))))
data_named p s0 s1 s2 place decl d cs ids there at e h k =
    let ts = forms_at (forms s0.scene) ids in
    let is : data_in p.exprs.words decl ≡ d = same_Some (data_in p.exprs.words decl) d (sym (get_map (data_in p.exprs.words) p.datas place decl at) ∙ there) in
    let all = enters_on s0 s1 s2 (with_entry (names_in s0.scene) (entry (number_of decl.name) ts)) (λ l fs. with_entries l (map (own_entry (forms_at fs ids)) cs)) h k in
    record {
      types = all.types;
      names = all.names ∙ ap (λ l. with_entries (with_entry (names_in s0.scene) (entry (number_of decl.name) ts)) l) (ap (map (own_entry ts)) e ∙ own_names p.exprs.words ts decl.constructors.items)
          ∙ ap (λ (x : GenericDataTree). with_entries (names_in s0.scene) (copy_entries (DataOf x ts))) is;
      base = all.base;
      exprs = all.exprs;
    }

pub function_named : (p : GenericParts) (s0 s1 : Copier) (place : ℕ) (decl : GenericFunction) (f : GenericFunctionTree) (ids : List TypeId) → slice_get (globals_in p).functions place ≡ Some f → slice_get p.functions place ≡ Some decl
    → Enters s0 s1 (with_entry (names_in s0.scene) (entry (number_of decl.name) (forms_at (forms s0.scene) ids))) → Enters s0 s1 (with_entries (names_in s0.scene) (copy_entries (FunctionOf f (forms_at (forms s0.scene) ids))))
function_named p s0 s1 place decl f ids there at h =
    let is : function_in p.exprs decl ≡ f = same_Some (function_in p.exprs decl) f (sym (get_map (function_in p.exprs) p.functions place decl at) ∙ there) in
    subst (λ (x : GenericFunctionTree). Enters s0 s1 (with_entries (names_in s0.scene) (copy_entries (FunctionOf x (forms_at (forms s0.scene) ids))))) is h

-- keys

pub get_inside : {A : Type 0} (xs : List A) (i : ℕ) → i < length xs → (x : A) × (slice_get xs i ≡ Some x)
get_inside [] i l = absurd (omega (arith, l))
get_inside (x ∷ xs) zero l = (x, refl)
get_inside (x ∷ xs) (suc i) l = get_inside xs i (omega (arith, l))

pub data_key : (g : GenericGlobals) (fs : List Form) (i : ℕ) (ids : List TypeId) (key : CopyKey) (d : GenericDataTree) → slice_get g.datas i ≡ Some d → copy_from g fs key ≡ data_asked (slice_get g.datas i) (forms_at fs ids) → copies_from g fs (key ∷ []) ≡ DataOf d (forms_at fs ids) ∷ []
data_key g fs i ids key d e h = ap (λ o. copies_with o []) (h ∙ ap (λ o. data_asked o (forms_at fs ids)) e)

pub function_key : (g : GenericGlobals) (fs : List Form) (i : ℕ) (ids : List TypeId) (key : CopyKey) (f : GenericFunctionTree) → slice_get g.functions i ≡ Some f → copy_from g fs key ≡ function_asked (slice_get g.functions i) (forms_at fs ids)
    → copies_from g fs (key ∷ []) ≡ FunctionOf f (forms_at fs ids) ∷ []
function_key g fs i ids key f e h = ap (λ o. copies_with o []) (h ∙ ap (λ o. function_asked o (forms_at fs ids)) e)

pub one_listed : (items : List Item) (c : Copy) → with_entries items (copy_entries c) ≡ with_entries items (listed_entries (c ∷ []))
one_listed items c = ap (with_entries items) (sym (append-nil (copy_entries c)))

listed_first : (g : GenericGlobals) (fs : List Form) (key : CopyKey) (keys : List CopyKey) → listed_entries (copies_from g fs (key ∷ [])) ++ listed_entries (copies_from g fs keys) ≡ listed_entries (copies_from g fs (key ∷ keys))
listed_first g fs key keys = by (copy_from g fs key) where
  by : (o : Option Copy) → listed_entries (copies_with o []) ++ listed_entries (copies_from g fs keys) ≡ listed_entries (copies_with o (copies_from g fs keys))
  by None = refl
  by (Some c) = append_assoc (copy_entries c) [] (listed_entries (copies_from g fs keys))

pub record KeysNamed (g : GenericGlobals) (old now : Copier) (rest : List CopyKey) (whole : List Item) : Type 0 where
  pub inside : AreKeysInside g (length old.scene.types) rest
  pub named : NamedSoFar old now (listed_entries (copies_from g (forms old.scene) rest)) whole

pub keys_start : (g : GenericGlobals) (s : Copier) (keys : List CopyKey) → AreKeysInside g (length s.scene.types) keys → KeysNamed g s s keys (with_entries (names_in s.scene) (listed_entries (copies_from g (forms s.scene) keys)))
keys_start g s keys h = record { inside = h; named = named_start s (listed_entries (copies_from g (forms s.scene) keys)) }

pub keys_next : (g : GenericGlobals) (old now new : Copier) (rest after : List CopyKey) (key : CopyKey) (whole : List Item) → rest ≡ key ∷ after → KeysNamed g old now rest whole
    → Enters now new (with_entries (names_in now.scene) (listed_entries (copies_from g (forms now.scene) (key ∷ [])))) → KeysNamed g old new after whole
keys_next g old now new rest after key whole e h one =
    let here = subst (AreKeysInside g (length old.scene.types)) e h.inside in
    record {
      inside = here.1;
      named = record {
        types = one.types ∙ h.named.types;
        base = one.base ∙ h.named.base;
        exprs = one.exprs ∙ h.named.exprs;
        is = ap (λ l. with_entries l (listed_entries (copies_from g (forms old.scene) after))) (one.names ∙ ap (λ ns. with_entries (names_in now.scene) (listed_entries (copies_from g (forms_of ns) (key ∷ [])))) h.named.types)
            ∙ sym (with_more (names_in now.scene) (listed_entries (copies_from g (forms old.scene) (key ∷ []))) (listed_entries (copies_from g (forms old.scene) after)))
            ∙ ap (with_entries (names_in now.scene)) (listed_first g (forms old.scene) key after) ∙ ap (λ l. with_entries (names_in now.scene) (listed_entries (copies_from g (forms old.scene) l))) (sym e) ∙ h.named.is;
      };
    }

pub key_inside : (g : GenericGlobals) (old now : Copier) (rest after : List CopyKey) (key : CopyKey) (whole : List Item) → rest ≡ key ∷ after → KeysNamed g old now rest whole → IsKeyInside g (length now.scene.types) key
key_inside g old now rest after key whole e h = subst (λ ns. IsKeyInside g (length ns) key) (sym h.named.types) (subst (AreKeysInside g (length old.scene.types)) e h.inside).0

pub keys_over : (g : GenericGlobals) (old now : Copier) (rest : List CopyKey) (whole : List Item) → rest ≡ [] → KeysNamed g old now rest whole → Enters old now whole
keys_over g old now rest whole e h = named_end old now (listed_entries (copies_from g (forms old.scene) rest)) whole (ap (λ l. listed_entries (copies_from g (forms old.scene) l)) e) h.named

-- keys of copies

inside_data : (g : GenericGlobals) (i : ℕ) (o : Option GenericDataTree) (ts : Forms) (c : Copy) → slice_get g.datas i ≡ o → data_asked o ts ≡ Some c → i < length g.datas
inside_data g i None ts c e h = absurd cc
inside_data g i (Some d) ts c e h = below g.datas i d e where
  below : {A : Type 0} (xs : List A) (j : ℕ) (x : A) → slice_get xs j ≡ Some x → j < length xs
  below [] j x q = absurd cc
  below (y ∷ xs) zero x q = omega arith
  below (y ∷ xs) (suc j) x q = let l = below xs j x q in omega (arith, l)

inside_function : (g : GenericGlobals) (i : ℕ) (o : Option GenericFunctionTree) (ts : Forms) (c : Copy) → slice_get g.functions i ≡ o → function_asked o ts ≡ Some c → i < length g.functions
inside_function g i None ts c e h = absurd cc
inside_function g i (Some d) ts c e h = below g.functions i d e where
  below : {A : Type 0} (xs : List A) (j : ℕ) (x : A) → slice_get xs j ≡ Some x → j < length xs
  below [] j x q = absurd cc
  below (y ∷ xs) zero x q = omega arith
  below (y ∷ xs) (suc j) x q = let l = below xs j x q in omega (arith, l)

one_inside : (g : GenericGlobals) (fs : List Form) (key : CopyKey) (c : Copy) → copy_from g fs key ≡ Some c → KeyBelow (length fs) key → IsKeyInside g (length fs) key
one_inside g fs (k.Data i is) c e b = (inside_data g i (slice_get g.datas i) (forms_at fs is.items) c refl e, b)
one_inside g fs (k.Function i is) c e b = (inside_function g i (slice_get g.functions i) (forms_at fs is.items) c refl e, b)

pub keys_inside : (g : GenericGlobals) (fs : List Form) (keys : List CopyKey) (found : List Copy) → AreCopies g fs keys found → AreKeysInside g (length fs) keys
keys_inside g fs [] [] h = tt
keys_inside g fs [] (c ∷ cs) h = absurd h
keys_inside g fs (key ∷ keys) [] h = absurd h
keys_inside g fs (key ∷ keys) (c ∷ cs) h = (one_inside g fs key c h.0 h.1, keys_inside g fs keys cs h.2)

pub keys_copies : (g : GenericGlobals) (fs : List Form) (keys : List CopyKey) (found : List Copy) → AreCopies g fs keys found → copies_from g fs keys ≡ found
keys_copies g fs [] [] h = refl
keys_copies g fs [] (c ∷ cs) h = absurd h
keys_copies g fs (key ∷ keys) [] h = absurd h
keys_copies g fs (key ∷ keys) (c ∷ cs) h = ap₂ copies_with h.0 (keys_copies g fs keys cs h.2)

-- the declaration of a key

pub record KeyOfData (g : GenericGlobals) (fs : List Form) (i : ℕ) (us : List TypeId) (key : CopyKey) : Type 0 where
  pub decl : GenericDataTree
  pub there : slice_get g.datas i ≡ Some decl
  pub is : copies_from g fs (key ∷ []) ≡ DataOf decl (forms_at fs us) ∷ []

pub key_of_data : (g : GenericGlobals) (fs : List Form) (n i : ℕ) (types : Vec TypeId) (us : List TypeId) (key : CopyKey) → key ≡ k.Data i types → us ≡ types.items → IsKeyInside g n key → KeyOfData g fs i us key
key_of_data g fs n i types us key e f h =
    let there = get_inside g.datas i (subst (IsKeyInside g n) e h).0 in
    record { decl = there.0; there = there.1; is = data_key g fs i us key there.0 there.1 (ap (copy_from g fs) e ∙ ap (λ l. data_asked (slice_get g.datas i) (forms_at fs l)) (sym f)) }

pub record KeyOfFunction (g : GenericGlobals) (fs : List Form) (i : ℕ) (us : List TypeId) (key : CopyKey) : Type 0 where
  pub decl : GenericFunctionTree
  pub there : slice_get g.functions i ≡ Some decl
  pub is : copies_from g fs (key ∷ []) ≡ FunctionOf decl (forms_at fs us) ∷ []

pub key_of_function : (g : GenericGlobals) (fs : List Form) (n i : ℕ) (types : Vec TypeId) (us : List TypeId) (key : CopyKey) → key ≡ k.Function i types → us ≡ types.items → IsKeyInside g n key → KeyOfFunction g fs i us key
key_of_function g fs n i types us key e f h =
    let there = get_inside g.functions i (subst (IsKeyInside g n) e h).0 in
    record { decl = there.0; there = there.1; is = function_key g fs i us key there.0 there.1 (ap (copy_from g fs) e ∙ ap (λ l. function_asked (slice_get g.functions i) (forms_at fs l)) (sym f)) }

pub data_listed : (g : GenericGlobals) (s0 s1 : Copier) (i : ℕ) (us : List TypeId) (key : CopyKey) (h : KeyOfData g (forms s0.scene) i us key) → Enters s0 s1 (with_entries (names_in s0.scene) (copy_entries (DataOf h.decl (forms_at (forms s0.scene) us))))
    → Enters s0 s1 (with_entries (names_in s0.scene) (listed_entries (copies_from g (forms s0.scene) (key ∷ []))))
data_listed g s0 s1 i us key h e = subst (Enters s0 s1) (one_listed (names_in s0.scene) (DataOf h.decl (forms_at (forms s0.scene) us)) ∙ ap (λ cs. with_entries (names_in s0.scene) (listed_entries cs)) (sym h.is)) e

pub function_listed : (g : GenericGlobals) (s0 s1 : Copier) (i : ℕ) (us : List TypeId) (key : CopyKey) (h : KeyOfFunction g (forms s0.scene) i us key) → Enters s0 s1 (with_entries (names_in s0.scene) (copy_entries (FunctionOf h.decl (forms_at (forms s0.scene) us))))
    → Enters s0 s1 (with_entries (names_in s0.scene) (listed_entries (copies_from g (forms s0.scene) (key ∷ []))))
function_listed g s0 s1 i us key h e = subst (Enters s0 s1) (one_listed (names_in s0.scene) (FunctionOf h.decl (forms_at (forms s0.scene) us)) ∙ ap (λ cs. with_entries (names_in s0.scene) (listed_entries cs)) (sym h.is)) e
