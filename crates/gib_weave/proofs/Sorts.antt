-- The sorts of variables.
use Rattle.std.proofs.Common.{◌≡◌, ℕ, Bool, true, false, cond, List, [], ◌∷◌, ◌-◌, suc, Option, None, Some, refl, sym, ap, subst, ◌∙◌}
use Rattle.std.proofs.lemmas.Bool.{true≢false}
use Rattle.gib_types.specs.Tree.{Datum}
use Rattle.gib_syntax.specs.Meaning.{Environment, value_in}
use Rattle.gib_core.specs.Tree.{Term, CoreTree}
use Rattle.gib_code.specs.Program.{CodeTree}
use Rattle.gib_core.specs.Ending.{Within}
use Rattle.gib_core.specs.Low.{End, Field as StoredField, field_of}
use Rattle.gib_core.specs.Fits.{put, Sort, Outside, Absent, Scalar, Held, Placed, Loose, AtHead, Field, Scope, is_there, tree_type, loosen_one, loosen}
use Rattle.gib_weave.specs.Environment.{Given, AreGiven, Ctx}
use Rattle.gib_weave.specs.Continuing.{Rest, Plain, Part, Meet, Leave, Last, Fills, KSide, KLast, RestCode, Kont, KEnd, KHere, KRegion, KScalar, KCall, KCallScalar, KPart, KSeveral, Goes, Under, AllUnder, Agrees, IsCode}
use Rattle.gib_weave.proofs.Groups.{held_held}
use Rattle.gib_weave.proofs.Basics.{by_test}
use Rattle.gib_weave.proofs.Move.{Keeps, bound-other, goes-there, keeps_var, other, tree_there, with_var}

-- Sorts within a line.

pub goes-refl : (o : Sort) → Goes o o
goes-refl Outside = tt
goes-refl Absent = tt
goes-refl (Scalar ty) = refl
goes-refl Held = refl
goes-refl (Placed t) = refl
goes-refl (Loose t) = refl
goes-refl (AtHead t) = refl
goes-refl (Field t z x k p) = refl

goes-tree : (i j : Sort) (t : ℕ) → tree_type i ≡ Some t → Goes i j → tree_type j ≡ Some t
goes-tree Outside j t h g = absurd cc
goes-tree Absent j t h g = absurd cc
goes-tree (Scalar ty) j t h g = absurd cc
goes-tree Held j t h g = absurd cc
goes-tree (Placed u) j t h g = g ∙ h
goes-tree (Loose u) j t h g = g ∙ h
goes-tree (AtHead u) j t h g = ap tree_type g ∙ h
goes-tree (Field u z x k p) j t h g = absurd cc

pub goes-goes : (o i j : Sort) → Goes o i → Goes i j → Goes o j
goes-goes Outside i j g h = tt
goes-goes Absent i j g h = tt
goes-goes (Scalar ty) i j g h = subst (λ (z : Sort). Goes z j) g h
goes-goes Held i j g h = subst (λ (z : Sort). Goes z j) g h
goes-goes (Placed t) i j g h = goes-tree i j t g h
goes-goes (Loose t) i j g h = goes-tree i j t g h
goes-goes (AtHead t) i j g h = subst (λ (z : Sort). Goes z j) g h
goes-goes (Field t z x k p) i j g h = goes-there i j h g

pub goes-absent : (o i : Sort) → is_there o ≡ false → Goes o i
goes-absent Outside i h = tt
goes-absent Absent i h = tt
goes-absent (Scalar ty) i h = absurd (true≢false h)
goes-absent Held i h = absurd (true≢false h)
goes-absent (Placed t) i h = absurd (true≢false h)
goes-absent (Loose t) i h = absurd (true≢false h)
goes-absent (AtHead t) i h = absurd (true≢false h)
goes-absent (Field t z x k p) i h = absurd (true≢false h)

pub under_goes : {o : Ctx} {sc sc' : Scope} {env env' : Environment} → ((y : ℕ) → Goes (sc y) (sc' y)) → ((y : ℕ) → is_there (sc y) ≡ true → value_in env' y ≡ value_in env y) → Under o sc env → Under o sc' env'
under_goes {o} {sc} {sc'} g e u = record {
  sorts = λ y. goes-goes (o.scope y) (sc y) (sc' y) (u.sorts y) (g y);
  same = λ y h. e y (goes-there (o.scope y) (sc y) (u.sorts y) h) ∙ u.same y h;
}

pub all_under_goes : (sc sc' : Scope) (env env' : Environment) (k : Kont) → ((y : ℕ) → Goes (sc y) (sc' y)) → ((y : ℕ) → is_there (sc y) ≡ true → value_in env' y ≡ value_in env y) → AllUnder sc env k → AllUnder sc' env' k
all_under_goes sc sc' env env' (KEnd ty) g e u = tt
all_under_goes sc sc' env env' (KSide b) g e u = tt
all_under_goes sc sc' env env' (KLast l0 y0 s0) g e u = subst (λ (z : Sort). Goes z (sc' y0)) u (g y0)
all_under_goes sc sc' env env' (KHere l x s t c k) g e u = (subst (λ (z : Sort). Goes z (sc' x)) u.0 (g x), under_goes g e u.1, all_under_goes sc sc' env env' k g e u.2)
all_under_goes sc sc' env env' (KRegion l x s t c k) g e u = (subst (λ (z : Sort). Goes z (sc' x)) u.0 (g x), under_goes g e u.1, all_under_goes sc sc' env env' k g e u.2)
all_under_goes sc sc' env env' (KScalar l x ty t c k) g e u = (under_goes g e u.0, all_under_goes sc sc' env env' k g e u.1)
all_under_goes sc sc' env env' (KCall gs wc k) g e u = tt
all_under_goes sc sc' env env' (KCallScalar x ty gs t c k) g e u = tt
all_under_goes sc sc' env env' (KPart l i t tys ss vs ps c k) g e u = (under_goes g e u.0, all_under_goes sc sc' env env' k g e u.1)
all_under_goes sc sc' env env' (KSeveral l xs tys t c k) g e u = (held_held sc sc' xs (λ y h. subst (λ (z : Sort). Goes z (sc' y)) h (g y)) u.0, under_goes g e u.1, all_under_goes sc sc' env env' k g e u.2)

pub goes_new : (sc : Scope) (x : ℕ) (so : Sort) → sc x ≡ Absent → (y : ℕ) → Goes (sc y) (put sc x so y)
goes_new sc x so n y = by_test y x (λ b. Goes (sc y) (cond b so (sc y))) (λ e. goes-absent (sc y) so (ap (λ z. is_there (sc z)) e ∙ ap is_there n)) (λ e. goes-refl (sc y))

pub all_under_bind : (sc : Scope) (env : Environment) (k : Kont) (x : ℕ) (so : Sort) (v : Datum) → sc x ≡ Absent → AllUnder sc env k → AllUnder (put sc x so) ((x, v) ∷ env) k
all_under_bind sc env k x so v n u = all_under_goes sc (put sc x so) env ((x, v) ∷ env) k (goes_new sc x so n) (λ y t. bound-other env x v y (other sc y x t n)) u

-- Where fields are stored.

abbrev pub is_field : Sort → Bool
is_field Outside = false
is_field Absent = false
is_field (Scalar ty) = false
is_field Held = false
is_field (Placed t) = false
is_field (Loose t) = false
is_field (AtHead t) = false
is_field (Field t z x k p) = true

pub agrees_put : (fs : List StoredField) (sc : Scope) (x : ℕ) (so : Sort) → is_field so ≡ false → Agrees fs sc → Agrees fs (put sc x so)
agrees_put fs sc x so n h = record { agrees = λ y t z o k p. by_test y x (λ b. cond b so (sc y) ≡ Field t z o k p → ((field_of fs y).tree ≡ o) × ((field_of fs y).place ≡ p)) (λ e f. absurd (true≢false (sym (ap is_field f) ∙ n))) (λ e f. h.agrees y t z o k p f) }

loosen_field : (b : Bool) (so : Sort) (t z x k p : ℕ) → loosen_one b so ≡ Field t z x k p → so ≡ Field t z x k p
loosen_field false so t z x k p e = e
loosen_field true Outside t z x k p e = absurd (true≢false (sym (ap is_field e)))
loosen_field true Absent t z x k p e = absurd (true≢false (sym (ap is_field e)))
loosen_field true (Scalar ty) t z x k p e = absurd (true≢false (sym (ap is_field e)))
loosen_field true Held t z x k p e = absurd (true≢false (sym (ap is_field e)))
loosen_field true (Placed u) t z x k p e = absurd (true≢false (sym (ap is_field e)))
loosen_field true (Loose u) t z x k p e = absurd (true≢false (sym (ap is_field e)))
loosen_field true (AtHead u) t z x k p e = absurd (true≢false (sym (ap is_field e)))
loosen_field true (Field u z' x' k' p') t z x k p e = e

pub agrees_loosen : (fs : List StoredField) (sc : Scope) (m : ℕ → Bool) → Agrees fs sc → Agrees fs (loosen m sc)
agrees_loosen fs sc m h = record { agrees = λ y t z o k p e. h.agrees y t z o k p (loosen_field (m y) (sc y) t z o k p e) }

pub code_put : {core : CoreTree} {code : CodeTree} {w : Within} {sc : Scope} {at : ℕ} {u : Term} {e : End} (x : ℕ) (so : Sort) → is_field so ≡ false → IsCode core code w sc at u e → IsCode core code w (put sc x so) at u e
code_put {sc = sc} x so n l = record { fields = l.fields; until = l.until; low = l.low; agree = agrees_put l.fields sc x so n l.agree }

pub code_loosen : {core : CoreTree} {code : CodeTree} {w : Within} {sc : Scope} {at : ℕ} {u : Term} {e : End} (m : ℕ → Bool) → IsCode core code w sc at u e → IsCode core code w (loosen m sc) at u e
code_loosen {sc = sc} m l = record { fields = l.fields; until = l.until; low = l.low; agree = agrees_loosen l.fields sc m l.agree }

-- The same of what is next in a line.

pub rest_code_put : (core : CoreTree) (code : CodeTree) (w : Within) (sc : Scope) (at : ℕ) (u : Rest) (e : End) (x : ℕ) (so : Sort) → is_field so ≡ false → RestCode core code w sc at u e → RestCode core code w (put sc x so) at u e
rest_code_put core code w sc at (Plain u) e x so n l = code_put x so n l
rest_code_put core code w sc at (Part wi s r) e x so n l = (l.0, l.1, l.2, agrees_put l.0 sc x so n l.3, rest_code_put core code w sc l.1 r e x so n l.4)
rest_code_put core code w sc at (Meet p s u) e x so n l = record { fields = l.fields; until = l.until; join = l.join; side = l.side; back = l.back; next = code_put x so n l.next; agree = agrees_put l.fields sc x so n l.agree; label = l.label; kind = l.kind; variables = l.variables }
rest_code_put core code w sc at (Leave p u) e x so n l = (l.0, code_put x so n l.1)
rest_code_put core code w sc at (Last b) e x so n l = l
rest_code_put core code w sc at (Fills i tys ss vs ps) e x so n l = record { fields = l.fields; behind = l.behind; parts = l.parts; until = l.until; gives = l.gives; agree = agrees_put l.fields sc x so n l.agree }

pub rest_code_loosen : (core : CoreTree) (code : CodeTree) (w : Within) (sc : Scope) (at : ℕ) (u : Rest) (e : End) (m : ℕ → Bool) → RestCode core code w sc at u e → RestCode core code w (loosen m sc) at u e
rest_code_loosen core code w sc at (Plain u) e m l = code_loosen m l
rest_code_loosen core code w sc at (Part wi s r) e m l = (l.0, l.1, l.2, agrees_loosen l.0 sc m l.3, rest_code_loosen core code w sc l.1 r e m l.4)
rest_code_loosen core code w sc at (Meet p s u) e m l = record { fields = l.fields; until = l.until; join = l.join; side = l.side; back = l.back; next = code_loosen m l.next; agree = agrees_loosen l.fields sc m l.agree; label = l.label; kind = l.kind; variables = l.variables }
rest_code_loosen core code w sc at (Leave p u) e m l = (l.0, code_loosen m l.1)
rest_code_loosen core code w sc at (Last b) e m l = l
rest_code_loosen core code w sc at (Fills i tys ss vs ps) e m l = record { fields = l.fields; behind = l.behind; parts = l.parts; until = l.until; gives = l.gives; agree = agrees_loosen l.fields sc m l.agree }

-- What a frame was given.

goes_tree : (o i : Sort) (t : ℕ) → Goes o i → tree_type o ≡ Some t → tree_type i ≡ Some t
goes_tree Outside i t g h = absurd cc
goes_tree Absent i t g h = absurd cc
goes_tree (Scalar ty) i t g h = absurd cc
goes_tree Held i t g h = absurd cc
goes_tree (Placed u) i t g h = g ∙ h
goes_tree (Loose u) i t g h = g ∙ h
goes_tree (AtHead u) i t g h = ap tree_type g ∙ h
goes_tree (Field u z x k p) i t g h = absurd cc

-- lines that know more know them too: a variable bound, reached, or cased
pub given_keeps : (c c' : Ctx) (j : ℕ) (gs : List (Option Given)) → Keeps c c' → ((y : ℕ) → Goes (c.scope y) (c'.scope y)) → AreGiven c j gs → AreGiven c' j gs
given_keeps c c' j [] k go g = tt
given_keeps c c' j (None ∷ gs) k go g = given_keeps c c' (suc j) gs k go g
given_keeps c c' j (Some x ∷ gs) k go g =
    let th = tree_there (c.scope j) x.t g.0 in
    (goes_tree (c.scope j) (c'.scope j) x.t (go j) g.0, k.places j th ∙ g.1, k.values j th ∙ g.2, given_keeps c c' (suc j) gs k go g.3)

pub given_bind : (c : Ctx) (x : ℕ) (so : Sort) (v : Datum) (at : ℕ) (gs : List (Option Given)) → c.scope x ≡ Absent → AreGiven c 0 gs → AreGiven (with_var c x so v at) 0 gs
given_bind c x so v at gs n g = given_keeps c (with_var c x so v at) 0 gs (keeps_var c x so v at n) (goes_new c.scope x so n) g
