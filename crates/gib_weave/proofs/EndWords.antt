-- The end words of a frame are right.
use Rattle.std.proofs.Common.{◌≡◌, ℕ, zero, suc, ◌+◌, ◌<◌, List, [], ◌∷◌, length, get_or, slice_set, refl, sym, ap, subst, ◌∙◌, arith}
use Rattle.std.proofs.lemmas.List.{get_or-set_same}
use Rattle.gib_types.specs.Layout.{LaidOut}
use Rattle.gib_types.specs.Tree.{Datum}
use Rattle.gib_syntax.specs.Meaning.{value_in}
use Rattle.gib_mem.specs.Memory.{Store}
use Rattle.gib_packed.specs.Decoding as d
use Rattle.gib_packed.specs.Decoding.{Points, Dec}
use Rattle.gib_packed.specs.Reaching.{Turns, there, turn}
use Rattle.gib_packed.proofs.Unique.{Dec-same}
use Rattle.gib_machine.specs.State.{tell}
use Rattle.gib_weave.specs.Environment.{Ctx, IsField}
use Rattle.gib_weave.specs.EndWords.{EndWord}

-- past redirects
pub turns_dec : {laid : LaidOut} {s : Store} {a b t z : ℕ} {v : Datum} → Turns s a b → Dec laid s b t v z → Dec laid s a t v z
turns_dec there e = e
turns_dec (turn p l) e = d.redirect p (turns_dec l e)

-- One redirect more.
pub turns_on : {s : Store} {a b c : ℕ} → Turns s a b → Points s b 255 c → Turns s a c
turns_on there p = turn p there
turns_on (turn q l) p = turn q (turns_on l p)

-- An end is told that the value at the slot has: the step of `got`, `over` and `leafend`.
pub told_end : {laid : LaidOut} {s : Store} {t pl w z : ℕ} {v : Datum} (e : ℕ) → EndWord laid s t pl w e v → 0 < z → Dec laid s w t v z → EndWord laid s t pl w (tell e z) v
told_end zero h p dec = record { near = λ q. absurd (omega (arith, p, q)); ends = λ i. turns_dec (h.near refl) dec }
told_end (suc e) h p dec = h

pub told_kept : (e z : ℕ) → 0 < e → 0 < tell e z
told_kept zero z p = absurd (omega (arith, p))
told_kept (suc e) z p = p

-- A switch goes past a redirect.
pub turned_end : {laid : LaidOut} {s : Store} {t pl a b e : ℕ} {v : Datum} → EndWord laid s t pl a e v → Points s a 255 b → EndWord laid s t pl b e v
turned_end h p = record { near = λ q. turns_on (h.near q) p; ends = h.ends }

-- A switch goes past an indirection: the first one tells the end.
pub passed_end : {laid : LaidOut} {s : Store} {t pl a b y : ℕ} {v : Datum} (e : ℕ) → EndWord laid s t pl a e v → Points s a 254 b → Dec laid s b t v y → EndWord laid s t pl b (tell e (a + 9)) v
passed_end {a = a} zero h p dec = record { near = λ q. absurd (omega (arith, q)); ends = λ i. turns_dec (h.near refl) (d.indirect p dec refl) }
passed_end (suc e) h p dec = record { near = λ q. absurd (omega (arith, q)); ends = h.ends }

-- The field behind z stands where z ends: `end y z`.
pub end_is_place : {laid : LaidOut} {s : Store} {c : Ctx} {t z x k p tz wz e at : ℕ} {v : Datum} → IsField laid s c t z x k p v at → EndWord laid s tz (c.pl z) wz e (value_in c.env z) → 0 < e → e ≡ at
end_is_place f h p = (Dec-same (h.ends p) f.before).end

-- Words set twice, and as they are.
pub set_twice : (l : List ℕ) (x a b : ℕ) → slice_set (slice_set l x a) x b ≡ slice_set l x b
set_twice [] x a b = refl
set_twice (y ∷ ys) zero a b = refl
set_twice (y ∷ ys) (suc x) a b = ap (λ (q : List ℕ). y ∷ q) (set_twice ys x a b)

pub set_own : (l : List ℕ) (x : ℕ) → slice_set l x (get_or l x 0) ≡ l
set_own [] x = refl
set_own (y ∷ ys) zero = refl
set_own (y ∷ ys) (suc x) = ap (λ (q : List ℕ). y ∷ q) (set_own ys x)

-- A switch has come from start to a: what it told of where the variable x ends.
pub record Walked (laid : LaidOut) (s : Store) (t start a : ℕ) (v : Datum) (old new : List ℕ) (x : ℕ) : Type 0 where
  pub last : ℕ
  pub told : new ≡ slice_set old x last
  pub keeps : (pl : ℕ) → EndWord laid s t pl start (get_or old x 0) v → EndWord laid s t pl a last v
  pub stays : 0 < get_or old x 0 → 0 < last

pub no_walk : {laid : LaidOut} {s : Store} {t a : ℕ} {v : Datum} (es : List ℕ) (x : ℕ) → Walked laid s t a a v es es x
no_walk es x = record { last = get_or es x 0; told = sym (set_own es x); keeps = λ pl h. h; stays = λ p. p }

pub walk_redirect : {laid : LaidOut} {s : Store} {t a b h x : ℕ} {v : Datum} {old new : List ℕ} → Points s a 255 b → Walked laid s t b h v old new x → Walked laid s t a h v old new x
walk_redirect p w = record { last = w.last; told = w.told; keeps = λ pl e. w.keeps pl (turned_end e p); stays = w.stays }

pub walk_indirect : {laid : LaidOut} {s : Store} {t a b y h x : ℕ} {v : Datum} {old new : List ℕ} → x < length old → Points s a 254 b → Dec laid s b t v y → Walked laid s t b h v (slice_set old x (tell (get_or old x 0) (a + 9))) new x → Walked laid s t a h v old new x
walk_indirect {laid} {s} {t} {a} {b} {y} {h} {x} {v} {old} {new} lt p dec w = record {
  last = w.last;
  told = w.told ∙ set_twice old x (tell (get_or old x 0) (a + 9)) w.last;
  keeps = λ pl e. w.keeps pl (subst (λ (q : ℕ). EndWord laid s t pl b q v) (sym (get_or-set_same old x (tell (get_or old x 0) (a + 9)) 0 lt)) (passed_end (get_or old x 0) e p dec));
  stays = λ h. w.stays (subst (λ (q : ℕ). 0 < q) (sym (get_or-set_same old x (tell (get_or old x 0) (a + 9)) 0 lt)) (told_kept (get_or old x 0) (a + 9) h));
}
