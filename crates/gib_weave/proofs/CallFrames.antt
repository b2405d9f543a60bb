-- The frame of a call: what its slots hold, and the line of its body.
use Rattle.std.proofs.Common.{◌≡◌, ℕ, zero, suc, ℤ, pos, ◌+◌, ◌<◌, ◌≤◌, ◌==◌, FitsSigned, Bool, true, false, not, List, [], ◌∷◌, map, Some, length, refl, sym, ap, subst, ◌∙◌, arith, get_or}
use Rattle.std.specs.Int.{w64, cast_signed}
use Rattle.std.proofs.lemmas.Int.{to_z-of_z}
use Rattle.std.proofs.lemmas.Bool.{true≢false, false≢true}
use Rattle.std.proofs.lemmas.Option.{none-some, same_Some}
use Rattle.std.proofs.Math.Nat.{zero-add}
use Rattle.gib_types.specs.declared.table.Ty.{Ty}
use Rattle.gib_types.specs.declared.table.Ty.TheVariants.{Whole, Truth, Tree}
use Rattle.gib_types.specs.Layout.{LaidOut}
use Rattle.gib_types.specs.Tree.{Datum, whole, truth}
use Rattle.gib_syntax.specs.Meaning.{is_scalar, value_in, Environment, Outcome, Gives}
use Rattle.gib_mem.specs.Memory.{Store}
use Rattle.gib_packed.specs.Scalars.{bit}
use Rattle.gib_core.specs.declared.atom.Variable.{Variable}
use Rattle.gib_core.specs.declared.atom.Atom.{Atom}
use Rattle.gib_core.specs.declared.atom.Atom.TheVariants as a
use Rattle.gib_core.specs.Tree.{variables_from}
use Rattle.gib_core.specs.Meaning.{value, bind}
use Rattle.gib_code.specs.Instruction as i
use Rattle.gib_core.specs.Low.{operand, operands}
use Rattle.gib_machine.specs.State.{Slots, slot, word, words, frame_words, end_at, frame}
use Rattle.gib_machine.specs.Machine.{answer_of}
use Rattle.gib_core.specs.Fits.{InParts, new_line, Empty, Open, Sort, Outside, Absent, Scalar, Held, Placed, Loose, AtHead, Field, has_slot, tree_type, AtomFits, AtomsFit, Dest, Nowhere, param_sort, body_scope}
use Rattle.gib_packed.specs.Reaching.{there}
use Rattle.gib_weave.specs.Environment.{AreGiven, givens, Ctx, IsScalar, StandsAt, Has, HasAll, IsDest}
use Rattle.gib_weave.specs.EndWords.{EndWord, HasEnd}
use Rattle.gib_syntax.specs.Results as results
use Rattle.gib_weave.specs.Sound.{IsAnswer}
use Rattle.gib_weave.proofs.Move.{bound-same, bound-other}
use Rattle.gib_weave.proofs.Scalars.{scalar_word}
use Rattle.gib_core.specs.Ending.{Within}
use Rattle.gib_machine.proofs.Windows.{words_long}

-- a tree's slot
has_tree : (laid : LaidOut) (s : Store) (c : Ctx) (so : Sort) (t w : ℕ) (v : Datum) (at hd : ℕ) → tree_type so ≡ Some t → Has laid s c so w v at hd → StandsAt laid s t w v
has_tree laid s c Outside t w v at hd e h = absurd (none-some _ e)
has_tree laid s c Absent t w v at hd e h = absurd (none-some _ e)
has_tree laid s c (Scalar ty) t w v at hd e h = absurd (none-some _ e)
has_tree laid s c Held t w v at hd e h = absurd (none-some _ e)
has_tree laid s c (Placed u) t w v at hd e h = subst (λ (q : ℕ). StandsAt laid s q w v) (same_Some _ _ e) (subst (λ (z : ℕ). StandsAt laid s u z v) (sym h.same) h.stands)
has_tree laid s c (Loose u) t w v at hd e h = subst (λ (q : ℕ). StandsAt laid s q w v) (same_Some _ _ e) h
has_tree laid s c (AtHead u) t w v at hd e h = subst (λ (q : ℕ). StandsAt laid s q w v) (same_Some _ _ e) (subst (λ (z : ℕ). StandsAt laid s u z v) (sym h.same) h.stands)
has_tree laid s c (Field u z x k p) t w v at hd e h = absurd (none-some _ e)

pub tree_of : (laid : LaidOut) (s : Store) (sl : Slots) (c : Ctx) (x t : ℕ) → HasAll laid s sl c → tree_type (c.scope x) ≡ Some t → StandsAt laid s t (slot sl x) (value_in c.env x)
tree_of laid s sl c x t h e = has_tree laid s c (c.scope x) t (slot sl x) (value_in c.env x) (c.pl x) (c.hd x) e (h.has x)

-- Answers.

pub scalar_answer : (laid : LaidOut) (s : Store) (ty : Ty) (w : ℕ) (v : Datum) (owed : Outcome) → IsScalar ty w v → Gives v ≡ owed → IsAnswer laid s (results.One ty) owed (answer_of ty w)
scalar_answer laid s Whole w v owed h e = (refl, subst (λ (z : ℤ). FitsSigned w64 z) (sym (ap (cast_signed w64) h.3 ∙ to_z-of_z w64 h.0 h.2)) h.2, sym e ∙ ap Gives h.1 ∙ ap (λ (z : ℤ). Gives (whole z)) (sym (ap (cast_signed w64) h.3 ∙ to_z-of_z w64 h.0 h.2)))
scalar_answer laid s Truth w v owed h e = (refl, sym e ∙ ap Gives h.1 ∙ ap (λ (b : Bool). Gives (truth b)) (sym (ap (λ (q : ℕ). not (q == 0)) h.2 ∙ back h.0)))
  where
    back : (b : Bool) → not (bit b == 0) ≡ b
    back false = refl
    back true = refl
scalar_answer laid s (Tree t) w v owed h e = absurd h

pub packed_scalar : (t : ℕ) (ty : Ty) → is_scalar ty ≡ true → Tree (record { 0 = t }) ≡ ty → ⊥
packed_scalar t ty h e = true≢false (sym h ∙ sym (ap is_scalar e))

-- The frame of a call.

pub no_slot : (n : ℕ) (ps : List Ty) (y : ℕ) → has_slot (body_scope n ps y) ≡ true → y < n
no_slot zero ps y h = absurd (true≢false (sym h))
no_slot (suc n) [] zero h = omega arith
no_slot (suc n) [] (suc y) h = let i = no_slot n [] y h in omega (arith, i)
no_slot (suc n) (p ∷ ps) zero h = omega arith
no_slot (suc n) (p ∷ ps) (suc y) h = let i = no_slot n ps y h in omega (arith, i)

pub nothing_bound : (laid : LaidOut) (s : Store) (c : Ctx) (n y w at hd : ℕ) (v : Datum) → Has laid s c (body_scope n [] y) w v at hd
nothing_bound laid s c zero y w at hd v = tt
nothing_bound laid s c (suc n) zero w at hd v = tt
nothing_bound laid s c (suc n) (suc y) w at hd v = nothing_bound laid s c n y w at hd v

-- later parameters leave earlier variables
bind_before : (ps : List Ty) (vs : List Datum) (m : ℕ) (env : Environment) (y : ℕ) → y < m → value_in (bind (variables_from m ps) vs env) y ≡ value_in env y
bind_before [] vs m env y h = refl
bind_before (p ∷ ps) [] m env y h = bind_before ps [] (m + 1) ((m, whole (pos 0)) ∷ env) y (omega arith) ∙ bound-other env m (whole (pos 0)) y (λ e. absurd (omega arith))
bind_before (p ∷ ps) (v ∷ vs) m env y h = bind_before ps vs (m + 1) ((m, v) ∷ env) y (omega arith) ∙ bound-other env m v y (λ e. absurd (omega arith))

param_has : (laid : LaidOut) (s : Store) (sl : Slots) (c c' : Ctx) (x : Atom) (p : Ty) → HasAll laid s sl c → AtomFits c.scope x p → Has laid s c' (param_sort p) (word sl (operand x)) (value c.env x) (word sl (operand x)) 0
param_has laid s sl c c' x Whole h e = scalar_word laid s sl c x Whole refl h e
param_has laid s sl c c' x Truth h e = scalar_word laid s sl c x Truth refl h e
param_has laid s sl c c' (a.Variable x) (Tree t) h e = record { same = refl; stands = tree_of laid s sl c x.0 t.0 h e }
param_has laid s sl c c' (a.Whole z) (Tree t) h e = absurd e
param_has laid s sl c c' (a.Truth b) (Tree t) h e = absurd e

arguments_have : (laid : LaidOut) (s : Store) (sl : Slots) (c c' : Ctx) → HasAll laid s sl c → (n : ℕ) (ps : List Ty) (xs : List Atom) (m : ℕ) (env : Environment) (y : ℕ) → AtomsFit c.scope xs ps
    → Has laid s c' (body_scope n ps y) (slot (frame n (words sl (operands xs))) y) (value_in (bind (variables_from m ps) (map (value c.env) xs) env) (m + y)) (slot (frame n (words sl (operands xs))) y) 0
arguments_have laid s sl c c' h zero ps xs m env y e = tt
arguments_have laid s sl c c' h (suc n) [] xs m env y e = nothing_bound laid s c' (suc n) y _ _ 0 _
arguments_have laid s sl c c' h (suc n) (p ∷ ps) [] m env y e = absurd e
arguments_have laid s sl c c' h (suc n) (p ∷ ps) (x ∷ xs) m env zero e =
    let z : m + 0 ≡ m = omega arith in
    let v : value_in (bind (variables_from (m + 1) ps) (map (value c.env) xs) ((m, value c.env x) ∷ env)) (m + 0) ≡ value c.env x =
    ap (value_in (bind (variables_from (m + 1) ps) (map (value c.env) xs) ((m, value c.env x) ∷ env))) z
    ∙ bind_before ps (map (value c.env) xs) (m + 1) ((m, value c.env x) ∷ env) m (omega arith) ∙ bound-same env m (value c.env x) in
    subst (λ (q : Datum). Has laid s c' (param_sort p) (word sl (operand x)) q (word sl (operand x)) 0) (sym v) (param_has laid s sl c c' x p h e.0)
arguments_have laid s sl c c' h (suc n) (p ∷ ps) (x ∷ xs) m env (suc y) e =
    let z : (m + 1) + y ≡ m + suc y = omega arith in
    subst (λ (q : ℕ). Has laid s c' (body_scope n ps y) (slot (frame n (words sl (operands xs))) y) (value_in (bind (variables_from (m + 1) ps) (map (value c.env) xs) ((m, value c.env x) ∷ env)) q) (slot (frame n (words sl (operands xs))) y) 0) z
    (arguments_have laid s sl c c' h n ps xs (m + 1) ((m, value c.env x) ∷ env) y e.1)

-- the line of a body
abbrev pub body_line : Within → ℕ → List Ty → List Datum → Slots → Dest → ℕ → Ctx
body_line wi n ps vs ws d a = record { scope = body_scope n ps; env = bind (variables_from 0 ps) vs []; pl = λ y. slot ws y; hd = λ y. 0; dest = d; front = a; head = 0; line = new_line wi }

pub IsDest-vars : (laid : LaidOut) (s : Store) (sl sl' : Slots) (c : Ctx) (cur : ℕ) (d : Dest) → sl'.vars ≡ sl.vars → IsDest laid s sl c d cur → IsDest laid s sl' c d cur
IsDest-vars laid s sl sl' c cur (Nowhere ty) e h = tt
IsDest-vars laid s sl sl' c cur (Empty t) e h = h
IsDest-vars laid s sl sl' c cur (InParts tys) e h = tt
IsDest-vars laid s sl sl' c cur (Open t x k xs dues) e h = record { con = h.con; slot = ap (λ (q : List ℕ). get_or q x 0) e ∙ h.slot; sort = h.sort; leads = h.leads; types = h.types; all = h.all; fields = h.fields }

-- no end is known in a new frame
no_end : (n y : ℕ) → get_or (frame_words n []) y 0 ≡ 0
no_end zero y = refl
no_end (suc n) zero = refl
no_end (suc n) (suc y) = no_end n y

fresh_end : (laid : LaidOut) (s : Store) (t w e : ℕ) (v : Datum) → e ≡ 0 → EndWord laid s t w w e v
fresh_end laid s t w e v h = record { near = λ q. there; ends = λ q. absurd (omega (arith, q, h)) }

pub sort_end : (laid : LaidOut) (s : Store) (n : ℕ) (ps : List Ty) (y w e : ℕ) (v : Datum) → e ≡ 0 → HasEnd laid s (body_scope n ps y) w e v w
sort_end laid s zero ps y w e v h = tt
sort_end laid s (suc n) [] zero w e v h = tt
sort_end laid s (suc n) [] (suc y) w e v h = sort_end laid s n [] y w e v h
sort_end laid s (suc n) (Whole ∷ ps) zero w e v h = tt
sort_end laid s (suc n) (Truth ∷ ps) zero w e v h = tt
sort_end laid s (suc n) (Tree t ∷ ps) zero w e v h = fresh_end laid s t.0 w e v h
sort_end laid s (suc n) (p ∷ ps) (suc y) w e v h = sort_end laid s n ps y w e v h

pub body_end : (laid : LaidOut) (s : Store) (n : ℕ) (ps : List Ty) (y : ℕ) (ws : List ℕ) (v : Datum) → HasEnd laid s (body_scope n ps y) (slot (frame n ws) y) (end_at (frame n ws) y) v (slot (frame n ws) y)
body_end laid s n ps y ws v = sort_end laid s n ps y (slot (frame n ws) y) (end_at (frame n ws) y) v (no_end n y)

-- the body's line knows what it was given
givens_from : (n m : ℕ) (ps : List Ty) (ws : List ℕ) (vs : List Datum) (env : Environment) (c : Ctx) → length ps ≤ n → ((y : ℕ) → c.scope (m + y) ≡ body_scope n ps y) → ((y : ℕ) → c.pl (m + y) ≡ get_or (frame_words n ws) y 0) → ((y : ℕ) → value_in c.env (m + y) ≡ value_in (bind (variables_from m ps) vs env) (m + y)) → AreGiven c m (givens ps ws vs)
givens_from n m [] ws vs env c le sc pl en = tt
givens_from n m (p ∷ ps) [] vs env c le sc pl en = tt
givens_from n m (p ∷ ps) (w ∷ ws) [] env c le sc pl en = tt
givens_from zero m (p ∷ ps) (w ∷ ws) (v ∷ vs) env c le sc pl en = absurd (omega (arith, le))
givens_from (suc n) m (p ∷ ps) (w ∷ ws) (v ∷ vs) env c le sc pl en = by_type p (λ q. sc q) (givens_from n (suc m) ps ws vs ((m, v) ∷ env) c (omega (arith, le)) (λ y. ap c.scope (shift y) ∙ sc (suc y)) (λ y. ap c.pl (shift y) ∙ pl (suc y)) (λ y. ap (value_in c.env) (shift y) ∙ en (suc y) ∙ sym (later y)))
  where
    shift : (y : ℕ) → suc m + y ≡ m + suc y
    shift y = omega arith

    one_up : m + 1 ≡ suc m
    one_up = omega arith

    later : (y : ℕ) → value_in (bind (variables_from (suc m) ps) vs ((m, v) ∷ env)) (suc m + y) ≡ value_in (bind (variables_from (m + 1) ps) vs ((m, v) ∷ env)) (m + suc y)
    later y = ap (λ (q : ℕ). value_in (bind (variables_from q ps) vs ((m, v) ∷ env)) (suc m + y)) (sym one_up) ∙ ap (value_in (bind (variables_from (m + 1) ps) vs ((m, v) ∷ env))) (shift y)

    here : m + 0 ≡ m
    here = omega arith

    worth : value_in c.env m ≡ v
    worth = ap (value_in c.env) (sym here) ∙ en 0 ∙ ap (value_in (bind (variables_from (m + 1) ps) vs ((m, v) ∷ env))) here ∙ bind_before ps vs (m + 1) ((m, v) ∷ env) m (omega arith) ∙ bound-same env m v

    by_type : (q : Ty) → ((y : ℕ) → c.scope (m + y) ≡ body_scope (suc n) (q ∷ ps) y) → AreGiven c (suc m) (givens ps ws vs) → AreGiven c m (givens (q ∷ ps) (w ∷ ws) (v ∷ vs))
    by_type Whole s r = r
    by_type Truth s r = r
    by_type (Tree t) s r = (ap (λ (z : ℕ). tree_type (c.scope z)) (sym here) ∙ ap tree_type (s 0), ap c.pl (sym here) ∙ pl 0, worth, r)

pub body_given : (wi : Within) (n : ℕ) (ps : List Ty) (ws : List ℕ) (vs : List Datum) (d : Dest) (a : ℕ) → length ps ≤ n → AreGiven (body_line wi n ps vs (frame n ws) d a) 0 (givens ps ws vs)
body_given wi n ps ws vs d a le = givens_from n 0 ps ws vs [] (body_line wi n ps vs (frame n ws) d a) le (λ y. ap (body_scope n ps) (zero-add y)) (λ y. ap (slot (frame n ws)) (zero-add y)) (λ y. refl)

pub body_vars : (wi : Within) (laid : LaidOut) (s : Store) (sl : Slots) (c : Ctx) (n : ℕ) (ps : List Ty) (xs : List Atom) (d : Dest) (a : ℕ) → HasAll laid s sl c → AtomsFit c.scope xs ps
    → HasAll laid s (frame n (words sl (operands xs))) (body_line wi n ps (map (value c.env) xs) (frame n (words sl (operands xs))) d a)
body_vars wi laid s sl c n ps xs d a h e = record {
  has = λ y. let z : 0 + y ≡ y = omega arith in
      subst (λ (q : ℕ). Has laid s (body_line wi n ps (map (value c.env) xs) (frame n (words sl (operands xs))) d a) (body_scope n ps y) (slot (frame n (words sl (operands xs))) y) (value_in (bind (variables_from 0 ps) (map (value c.env) xs) []) q) (slot (frame n (words sl (operands xs))) y) 0) z
      (arguments_have laid s sl c (body_line wi n ps (map (value c.env) xs) (frame n (words sl (operands xs))) d a) h n ps xs 0 [] y e);
  wide = λ y g. subst (λ (q : ℕ). y < q) (sym (words_long n (words sl (operands xs)))) (no_slot n ps y g);
  ends = λ y. body_end laid s n ps y (words sl (operands xs)) _;
  even = words_long n [] ∙ sym (words_long n (words sl (operands xs)));
  told = λ q e. absurd (false≢true e);
  closes = tt;
}
