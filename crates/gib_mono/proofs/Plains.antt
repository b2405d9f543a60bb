-- Plain declarations are the first copies.
use Rattle.std.proofs.Common.{◌≡◌, ℕ, zero, suc, ◌+◌, ◌<◌, ◌≤◌, Bool, true, false, ◌||◌, ◌==◌, nat_lt, List, [], ◌∷◌, ◌++◌, length, drop, Option, Some, None, slice_get, refl, sym, ap, ◌∙◌, arith, subst, append_assoc, append-nil}
use Rattle.std.specs.Prelude.{Ok}
use Rattle.std.proofs.lemmas.Bool.{ltb-true, eqb-true, eq-eqb, and_from, and_parts, both_ways, or_parts}
use borrow.Author.Tests.{lt-ltb}
use Rattle.gib_base.specs.declared.Span.{Span}
use Rattle.gib_syntax.specs.declared.tree.Ident.{Ident}
use Rattle.gib_types.specs.Form.{NoForm}
use Rattle.gib_types.specs.Types.{AreOnce}
use Rattle.gib_mono.specs.declared.found.CopyKey.{CopyKey}
use Rattle.gib_mono.specs.Found.{AreDeclarations, KeyBelow, copy_from, IsFound}
use Rattle.gib_syntax.specs.GenericTree.{GenericGlobals, GenericDataTree, GenericFunctionTree, GenericProgramTree, GenericRow, globals_of_generic}
use Rattle.gib_mono.specs.declared.search.Search.{Search}
use Rattle.gib_mono.specs.Walk.{Ask, Copy, DataOf, FunctionOf, same_copy, is_found, constructors_in, functions_in, are_few, add_few, add_new, copy_asks, copies_asks, plain_data, plain_datas, plain_function, plain_functions, plain_copies, main_asks, add_asks, with_found, walk}
use Rattle.gib_mono.specs.Closed.{AreApart, IsGood}
use Rattle.gib_mono.specs.Contexts.{forms}
use Rattle.gib_mono.specs.Searching.{Reached, IsAt, AddsKey, Walked, AsksAll}
use Rattle.gib_mono.proofs.Closing.{copy_turned}
use Rattle.gib_mono.proofs.Finding.{all_both, same_length}
use Rattle.gib_mono.proofs.Seeking.{asks_nothing}
use Rattle.gib_mono.proofs.Named.{get_inside}

-- one that stands apart from those behind it is not found before it

both_false : (a b : Bool) → a ≡ false → b ≡ false → (a || b) ≡ false
both_false true b e f = absurd cc
both_false false b e f = f

later_other : (b c : Copy) (bs rest : List Copy) → is_found (bs ++ c ∷ rest) b ≡ false → same_copy c b ≡ false
later_other b c [] rest h = (or_parts (same_copy c b) (is_found rest b) h).0
later_other b c (x ∷ bs) rest h = later_other b c bs rest (or_parts (same_copy x b) (is_found (bs ++ c ∷ rest) b) h).1

turned_false : (b c : Copy) → same_copy c b ≡ false → same_copy b c ≡ false
turned_false b c h = by (same_copy b c) refl where
  by : (t : Bool) → same_copy b c ≡ t → t ≡ false
  by true e = absurd (both_ways (same_copy c b) h (copy_turned b c e))
  by false e = refl

new_behind : (done rest : List Copy) (c : Copy) → AreApart (done ++ c ∷ rest) → is_found done c ≡ false
new_behind [] rest c h = refl
new_behind (b ∷ done) rest c h = both_false (same_copy b c) (is_found done c) (turned_false b c (later_other b c done rest h.0)) (new_behind done rest c h.1)

-- fewer than few are few

constructors_fewer : (done rest : List Copy) (c : Copy) → constructors_in (done ++ c ∷ []) ≤ constructors_in (done ++ c ∷ rest)
constructors_fewer [] rest (DataOf d ts) = omega arith
constructors_fewer [] rest (FunctionOf f ts) = omega arith
constructors_fewer (DataOf d ts ∷ done) rest c = let l = constructors_fewer done rest c in omega (arith, l)
constructors_fewer (FunctionOf f ts ∷ done) rest c = constructors_fewer done rest c

functions_fewer : (done rest : List Copy) (c : Copy) → functions_in (done ++ c ∷ []) ≤ functions_in (done ++ c ∷ rest)
functions_fewer [] rest (DataOf d ts) = omega arith
functions_fewer [] rest (FunctionOf f ts) = omega arith
functions_fewer (DataOf d ts ∷ done) rest c = functions_fewer done rest c
functions_fewer (FunctionOf f ts ∷ done) rest c = let l = functions_fewer done rest c in omega (arith, l)

few_before : (done rest : List Copy) (c : Copy) → are_few (done ++ c ∷ rest) ≡ true → are_few (done ++ c ∷ []) ≡ true
few_before done rest c h =
    let both = and_parts (nat_lt (constructors_in (done ++ c ∷ rest)) 201) (nat_lt (functions_in (done ++ c ∷ rest)) 1001) h in
    let a = ltb-true (constructors_in (done ++ c ∷ rest)) 201 both.0 in
    let b = ltb-true (functions_in (done ++ c ∷ rest)) 1001 both.1 in
    let l = constructors_fewer done rest c in
    let m = functions_fewer done rest c in
    and_from (nat_lt (constructors_in (done ++ c ∷ [])) 201) (nat_lt (functions_in (done ++ c ∷ [])) 1001) (lt-ltb (constructors_in (done ++ c ∷ [])) 201 (omega (arith, a, l))) (lt-ltb (functions_in (done ++ c ∷ [])) 1001 (omega (arith, b, m)))

pub plain_added : (g : GenericGlobals) (done rest : List Copy) (c : Copy) (span : Span) → IsGood g (done ++ c ∷ rest) → add_new done c span (is_found done c) ≡ Ok (done ++ c ∷ [])
plain_added g done rest c span h = ap (add_new done c span) (new_behind done rest c h.apart) ∙ ap (add_few done c span) (few_before done rest c h.few)

-- so far

pub record PlainSoFar (g : GenericGlobals) (all : List Copy) (s : Search) (rest : List Copy) : Type 0 where
  pub before : List Copy
  pub at : IsAt g s (Ok before)
  pub whole : before ++ rest ≡ all

pub still_open : (g : GenericGlobals) (s : Search) (found : List Copy) → IsAt g s (Ok found) → s.limit ≡ None
still_open g s found at = by s.limit at where
  by : (limit : Option Span) → Reached g (forms s.context) s.found limit (Ok found) → limit ≡ None
  by None h = refl
  by (Some span) h = absurd cc

drop_next : {A : Type 0} (xs : List A) (i : ℕ) (x : A) → slice_get xs i ≡ Some x → drop i xs ≡ x ∷ drop (i + 1) xs
drop_next [] i x e = absurd cc
drop_next (y ∷ xs) zero x e = let f : y ≡ x = (let h = e in cc) in ap (λ z. z ∷ xs) f
drop_next (y ∷ xs) (suc i) x e = let f : suc (i + 1) ≡ suc i + 1 = omega arith in drop_next xs i x e ∙ ap (λ n. x ∷ drop n (y ∷ xs)) f

pub drop_all : {A : Type 0} (xs : List A) (i : ℕ) → length xs ≤ i → drop i xs ≡ []
drop_all [] zero l = refl
drop_all [] (suc i) l = refl
drop_all (x ∷ xs) zero l = absurd (omega (arith, l))
drop_all (x ∷ xs) (suc i) l = drop_all xs i (omega (arith, l))

-- types

data_first : (d : GenericDataTree) (vs : List Ident) (xs : List Copy) → plain_data d vs xs ≡ plain_data d vs [] ++ xs
data_first d [] xs = refl
data_first d (v ∷ vs) xs = refl

abbrev pub types_left : List GenericDataTree → ℕ → List Copy → List Copy
types_left ds i fs = plain_datas (drop i ds) ++ fs

types_step : (ds : List GenericDataTree) (i : ℕ) (d : GenericDataTree) (fs : List Copy) → slice_get ds i ≡ Some d → types_left ds i fs ≡ plain_data d d.variables [] ++ types_left ds (i + 1) fs
types_step ds i d fs e =
    ap (λ l. plain_datas l ++ fs) (drop_next ds i d e) ∙ ap (λ l. l ++ fs) (data_first d d.variables (plain_datas (drop (i + 1) ds))) ∙ append_assoc (plain_data d d.variables []) (plain_datas (drop (i + 1) ds)) fs

pub types_next : (g : GenericGlobals) (all : List Copy) (now new : Search) (ds : List GenericDataTree) (i : ℕ) (fs : List Copy) → IsGood g all → i < length ds → PlainSoFar g all now (types_left ds i fs)
    → ((d : GenericDataTree) (done rest : List Copy) → slice_get ds i ≡ Some d → IsGood g (done ++ plain_data d d.variables rest) → IsAt g now (Ok done) → IsAt g new (Ok (done ++ plain_data d d.variables []))) → PlainSoFar g all new (types_left ds (i + 1) fs)
types_next g all now new ds i fs good l h step =
    let d = get_inside ds i l in
    let left = types_step ds i d.0 fs d.1 in
    let whole : h.before ++ plain_data d.0 (d.0).variables (types_left ds (i + 1) fs) ≡ all = ap (λ l. h.before ++ l) (data_first d.0 (d.0).variables (types_left ds (i + 1) fs) ∙ sym left) ∙ h.whole in
    record {
      before = h.before ++ plain_data d.0 (d.0).variables [];
      at = step d.0 h.before (types_left ds (i + 1) fs) d.1 (subst (IsGood g) (sym whole) good) h.at;
      whole = append_assoc h.before (plain_data d.0 (d.0).variables []) (types_left ds (i + 1) fs) ∙ ap (λ l. h.before ++ l) (sym left) ∙ h.whole;
    }

-- functions

function_first : (f : GenericFunctionTree) (vs : List Ident) (xs : List Copy) → plain_function f vs xs ≡ plain_function f vs [] ++ xs
function_first f [] xs = refl
function_first f (v ∷ vs) xs = refl

abbrev pub functions_left : List GenericFunctionTree → ℕ → List Copy
functions_left fs i = plain_functions (drop i fs)

functions_step : (fs : List GenericFunctionTree) (i : ℕ) (f : GenericFunctionTree) → slice_get fs i ≡ Some f → functions_left fs i ≡ plain_function f f.variables [] ++ functions_left fs (i + 1)
functions_step fs i f e = ap plain_functions (drop_next fs i f e) ∙ function_first f f.variables (plain_functions (drop (i + 1) fs))

pub functions_next : (g : GenericGlobals) (all : List Copy) (now new : Search) (fs : List GenericFunctionTree) (i : ℕ) → IsGood g all → i < length fs → PlainSoFar g all now (functions_left fs i)
    → ((f : GenericFunctionTree) (done rest : List Copy) → slice_get fs i ≡ Some f → IsGood g (done ++ plain_function f f.variables rest) → IsAt g now (Ok done) → IsAt g new (Ok (done ++ plain_function f f.variables []))) → PlainSoFar g all new (functions_left fs (i + 1))
functions_next g all now new fs i good l h step =
    let f = get_inside fs i l in
    let left = functions_step fs i f.0 f.1 in
    let whole : h.before ++ plain_function f.0 (f.0).variables (functions_left fs (i + 1)) ≡ all = ap (λ l. h.before ++ l) (function_first f.0 (f.0).variables (functions_left fs (i + 1)) ∙ sym left) ∙ h.whole in
    record {
      before = h.before ++ plain_function f.0 (f.0).variables [];
      at = step f.0 h.before (functions_left fs (i + 1)) f.1 (subst (IsGood g) (sym whole) good) h.at;
      whole = append_assoc h.before (plain_function f.0 (f.0).variables []) (functions_left fs (i + 1)) ∙ ap (λ l. h.before ++ l) (sym left) ∙ h.whole;
    }

pub types_done : (g : GenericGlobals) (all : List Copy) (s : Search) (ds : List GenericDataTree) (i : ℕ) (fs : List GenericFunctionTree) → length ds ≤ i → PlainSoFar g all s (types_left ds i (plain_functions fs)) → PlainSoFar g all s (functions_left fs 0)
types_done g all s ds i fs l h = record { before = h.before; at = h.at; whole = ap (λ q. h.before ++ (plain_datas q ++ plain_functions fs)) (sym (drop_all ds i l)) ∙ h.whole }

pub functions_done : (g : GenericGlobals) (all : List Copy) (s : Search) (fs : List GenericFunctionTree) (i : ℕ) → length fs ≤ i → PlainSoFar g all s (functions_left fs i) → IsAt g s (Ok all)
functions_done g all s fs i l h = subst (λ q. IsAt g s (Ok q)) (sym (append-nil h.before) ∙ ap (λ q. h.before ++ plain_functions q) (sym (drop_all fs i l)) ∙ h.whole) h.at

-- what plain declarations ask for

asks_split : (rows : List GenericRow) (xs ys : List Copy) → copies_asks rows (xs ++ ys) ≡ copies_asks rows xs ++ copies_asks rows ys
asks_split rows [] ys = refl
asks_split rows (x ∷ xs) ys = ap (λ l. copy_asks rows x ++ l) (asks_split rows xs ys) ∙ sym (append_assoc (copy_asks rows x) (copies_asks rows xs) (copies_asks rows ys))

pub record AskedPlain (g : GenericGlobals) (old now : Search) (all left : List Copy) : Type 0 where
  pub before : List Copy
  pub asks : AsksAll g old now (copies_asks g.rows before)
  pub whole : before ++ left ≡ all

pub asked_none : (g : GenericGlobals) (old : Search) (all : List Copy) → AskedPlain g old old all all
asked_none g old all = record { before = []; asks = record { on = λ r at. subst (IsAt g old) (asks_nothing g r) at }; whole = refl }

asked_more : (g : GenericGlobals) (old now new : Search) (all left xs rest : List Copy) → AskedPlain g old now all left → left ≡ xs ++ rest → AsksAll g now new (copies_asks g.rows xs) → AskedPlain g old new all rest
asked_more g old now new all left xs rest h e a = record {
  before = h.before ++ xs;
  asks = subst (AsksAll g old new) (sym (asks_split g.rows h.before xs)) (all_both g old now new (copies_asks g.rows h.before) (copies_asks g.rows xs) h.asks a);
  whole = append_assoc h.before xs rest ∙ ap (λ l. h.before ++ l) (sym e) ∙ h.whole;
}

pub asked_type : (g : GenericGlobals) (old now new : Search) (all : List Copy) (ds : List GenericDataTree) (i : ℕ) (fs : List Copy) → i < length ds → AskedPlain g old now all (types_left ds i fs)
    → ((d : GenericDataTree) → slice_get ds i ≡ Some d → AsksAll g now new (copies_asks g.rows (plain_data d d.variables []))) → AskedPlain g old new all (types_left ds (i + 1) fs)
asked_type g old now new all ds i fs l h step =
    let d = get_inside ds i l in
    asked_more g old now new all (types_left ds i fs) (plain_data d.0 (d.0).variables []) (types_left ds (i + 1) fs) h (types_step ds i d.0 fs d.1) (step d.0 d.1)

pub asked_function : (g : GenericGlobals) (old now new : Search) (all : List Copy) (fs : List GenericFunctionTree) (i : ℕ) → i < length fs → AskedPlain g old now all (functions_left fs i)
    → ((f : GenericFunctionTree) → slice_get fs i ≡ Some f → AsksAll g now new (copies_asks g.rows (plain_function f f.variables []))) → AskedPlain g old new all (functions_left fs (i + 1))
asked_function g old now new all fs i l h step =
    let f = get_inside fs i l in
    asked_more g old now new all (functions_left fs i) (plain_function f.0 (f.0).variables []) (functions_left fs (i + 1)) h (functions_step fs i f.0 f.1) (step f.0 f.1)

pub types_asked : (g : GenericGlobals) (old now : Search) (all : List Copy) (ds : List GenericDataTree) (i : ℕ) (fs : List GenericFunctionTree) → length ds ≤ i → AskedPlain g old now all (types_left ds i (plain_functions fs)) → AskedPlain g old now all (functions_left fs 0)
types_asked g old now all ds i fs l h = record { before = h.before; asks = h.asks; whole = ap (λ q. h.before ++ (plain_datas q ++ plain_functions fs)) (sym (drop_all ds i l)) ∙ h.whole }

pub functions_asked : (g : GenericGlobals) (old now : Search) (all : List Copy) (fs : List GenericFunctionTree) (i : ℕ) → length fs ≤ i → AskedPlain g old now all (functions_left fs i) → AsksAll g old now (copies_asks g.rows all)
functions_asked g old now all fs i l h = subst (λ q. AsksAll g old now (copies_asks g.rows q)) (sym (append-nil h.before) ∙ ap (λ q. h.before ++ plain_functions q) (sym (drop_all fs i l)) ∙ h.whole) h.asks

-- one plain declaration

pub empty_items : {A : Type 0} (n : ℕ) (xs : List A) → n ≡ length xs → (n == 0) ≡ true → xs ≡ []
empty_items n [] e h = refl
empty_items n (x ∷ xs) e h = let m = eqb-true n 0 h in absurd (omega (arith, e, m))

pub some_items : {A : Type 0} (n : ℕ) (xs : List A) → n ≡ length xs → (n == 0) ≡ false → xs ≡ [] → ⊥
some_items n xs e h f =
    let m : n ≡ 0 = e ∙ ap length f in
    both_ways (n == 0) h (eq-eqb n 0 m)

pub at_found : (g : GenericGlobals) (s : Search) (found : List Copy) → IsAt g s (Ok found) → IsFound g (forms s.context) s.found found
at_found g s found at = by s.limit at where
  by : (limit : Option Span) → Reached g (forms s.context) s.found limit (Ok found) → IsFound g (forms s.context) s.found found
  by None h = let e : h.0 ≡ found = (let q = h.1 in cc) in subst (IsFound g (forms s.context) s.found) e h.2
  by (Some span) h = absurd cc

pub data_skipped : (g : GenericGlobals) (s : Search) (d : GenericDataTree) (done : List Copy) → (d.variables ≡ [] → ⊥) → IsAt g s (Ok done) → IsAt g s (Ok (done ++ plain_data d d.variables []))
data_skipped g s d done not_empty at = by d.variables not_empty where
  by : (vs : List Ident) → (vs ≡ [] → ⊥) → IsAt g s (Ok (done ++ plain_data d vs []))
  by [] h = absurd (h refl)
  by (v ∷ vs) h = subst (λ l. IsAt g s (Ok l)) (sym (append-nil done)) at

pub data_added : (g : GenericGlobals) (old new : Search) (key : CopyKey) (constructors : ℕ) (span : Span) (d : GenericDataTree) (done rest : List Copy) → AreDeclarations g → AreOnce (forms old.context) → KeyBelow (length (forms old.context)) key
    → copy_from g (forms old.context) key ≡ Some (DataOf d NoForm) → d.variables ≡ [] → length d.constructors + 0 ≡ constructors → IsGood g (done ++ plain_data d d.variables rest) → IsAt g old (Ok done) → AddsKey old new key constructors span
    → IsAt g new (Ok (done ++ plain_data d d.variables []))
data_added g old new key constructors span d done rest decls once below is empty count good at adds =
    subst (λ vs. IsAt g new (Ok (done ++ plain_data d vs []))) (sym empty)
    (subst (IsAt g new) (plain_added g done rest (DataOf d NoForm) span (subst (λ vs. IsGood g (done ++ plain_data d vs rest)) empty good))
    (adds.added g done (DataOf d NoForm) decls once below is count (at_found g old done at)))

pub function_skipped : (g : GenericGlobals) (s : Search) (f : GenericFunctionTree) (done : List Copy) → (f.variables ≡ [] → ⊥) → IsAt g s (Ok done) → IsAt g s (Ok (done ++ plain_function f f.variables []))
function_skipped g s f done not_empty at = by f.variables not_empty where
  by : (vs : List Ident) → (vs ≡ [] → ⊥) → IsAt g s (Ok (done ++ plain_function f vs []))
  by [] h = absurd (h refl)
  by (v ∷ vs) h = subst (λ l. IsAt g s (Ok l)) (sym (append-nil done)) at

pub function_added : (g : GenericGlobals) (old new : Search) (key : CopyKey) (span : Span) (f : GenericFunctionTree) (done rest : List Copy) → AreDeclarations g → AreOnce (forms old.context) → KeyBelow (length (forms old.context)) key
    → copy_from g (forms old.context) key ≡ Some (FunctionOf f NoForm) → f.variables ≡ [] → IsGood g (done ++ plain_function f f.variables rest) → IsAt g old (Ok done) → AddsKey old new key 0 span
    → IsAt g new (Ok (done ++ plain_function f f.variables []))
function_added g old new key span f done rest decls once below is empty good at adds =
    subst (λ vs. IsAt g new (Ok (done ++ plain_function f vs []))) (sym empty)
    (subst (IsAt g new) (plain_added g done rest (FunctionOf f NoForm) span (subst (λ vs. IsGood g (done ++ plain_function f vs rest)) empty good))
    (adds.added g done (FunctionOf f NoForm) decls once below is refl (at_found g old done at)))

-- what a plain declaration asks for

pub data_asks_none : (g : GenericGlobals) (s : Search) (d : GenericDataTree) → (d.variables ≡ [] → ⊥) → AsksAll g s s (copies_asks g.rows (plain_data d d.variables []))
data_asks_none g s d not_empty = by d.variables not_empty where
  by : (vs : List Ident) → (vs ≡ [] → ⊥) → AsksAll g s s (copies_asks g.rows (plain_data d vs []))
  by [] h = absurd (h refl)
  by (v ∷ vs) h = record { on = λ r at. subst (IsAt g s) (asks_nothing g r) at }

pub data_asks_all : (g : GenericGlobals) (old new : Search) (d : GenericDataTree) → d.variables ≡ [] → AsksAll g old new (copy_asks g.rows (DataOf d NoForm)) → AsksAll g old new (copies_asks g.rows (plain_data d d.variables []))
data_asks_all g old new d empty a = subst (λ vs. AsksAll g old new (copies_asks g.rows (plain_data d vs []))) (sym empty) (subst (AsksAll g old new) (sym (append-nil (copy_asks g.rows (DataOf d NoForm)))) a)

pub function_asks_none : (g : GenericGlobals) (s : Search) (f : GenericFunctionTree) → (f.variables ≡ [] → ⊥) → AsksAll g s s (copies_asks g.rows (plain_function f f.variables []))
function_asks_none g s f not_empty = by f.variables not_empty where
  by : (vs : List Ident) → (vs ≡ [] → ⊥) → AsksAll g s s (copies_asks g.rows (plain_function f vs []))
  by [] h = absurd (h refl)
  by (v ∷ vs) h = record { on = λ r at. subst (IsAt g s) (asks_nothing g r) at }

pub function_asks_all : (g : GenericGlobals) (old new : Search) (f : GenericFunctionTree) → f.variables ≡ [] → AsksAll g old new (copy_asks g.rows (FunctionOf f NoForm)) → AsksAll g old new (copies_asks g.rows (plain_function f f.variables []))
function_asks_all g old new f empty a = subst (λ vs. AsksAll g old new (copies_asks g.rows (plain_function f vs []))) (sym empty) (subst (AsksAll g old new) (sym (append-nil (copy_asks g.rows (FunctionOf f NoForm)))) a)

-- all uses of plain declarations and main
pub plain_asked : (g : GenericGlobals) (old mid new : Search) (plain : List Copy) (mains : List Ask) → AsksAll g old mid (copies_asks g.rows plain) → AsksAll g mid new mains → AsksAll g old new (copies_asks g.rows plain ++ mains)
plain_asked g old mid new plain mains a b = all_both g old mid new (copies_asks g.rows plain) mains a b

-- the walk begins
pub walk_begins : (p : GenericProgramTree) (n : ℕ) (old new : Search) → IsAt (globals_of_generic p) old (Ok (plain_copies p)) → n ≡ length old.found.keys → AsksAll (globals_of_generic p) old new (copies_asks (globals_of_generic p).rows (plain_copies p) ++ main_asks p) → Walked p n new n
walk_begins p n old new at many a =
    let kept = at_found (globals_of_generic p) old (plain_copies p) at in
    let e : n ≡ length (plain_copies p) = many ∙ same_length (globals_of_generic p) (forms old.context) old.found.keys (plain_copies p) kept.copies in
    record {
      result = add_asks (globals_of_generic p) (plain_copies p) (copies_asks (globals_of_generic p).rows (plain_copies p) ++ main_asks p);
      at = a.on (Ok (plain_copies p)) at;
      fuel = 1201;
      enough = refl;
      is = ap (λ k. with_found (add_asks (globals_of_generic p) (plain_copies p) (copies_asks (globals_of_generic p).rows (plain_copies p) ++ main_asks p)) (λ found. walk 1201 (globals_of_generic p) found k)) (sym e);
    }
