-- Things of one kind that stand in an arena, as far as they were read.
use Rattle.std.proofs.Common.{◌≡◌, Bool, true, false, List, [], ◌∷◌, ◌++◌, map, Result, Ok, Err, IfOk, refl, ap, subst, sym}
use Rattle.std.specs.List.{AllByRecursion}
use Rattle.gib_base.specs.declared.token.Token.{Token}
use Rattle.gib_syntax.specs.GenericArena.{Arena, Grows}
use Rattle.gib_reads.specs.declared.stop.Stop.{Stop}
use Rattle.gib_parse.specs.Reading.{Read, Reader, then_at, next_is, many}
use Rattle.gib_parse.specs.Parsing.{Fails, Gives, AllStand, Takes, Stays, with_front}
use Rattle.gib_reads.proofs.Tools.{done}
use Rattle.gib_reads.proofs.Many.{Shrinks}
use Rattle.gib_reads.proofs.SoFar.{SoFar, front_none, all_read, one_fails}
use Rattle.gib_reads.proofs.PartsSoFar.{PartsSoFar, parts_more}
use Rattle.gib_parse.proofs.PartsSoFar.{grows_none, grows_more}

pub shrinks_of : {A : Type 0} (p : Reader A) → Takes p → Shrinks p
shrinks_of p takes ts = record { by = λ a rest e. takes ts rest a e }

module _ {A B : Type 0} (Inside : Arena → B → Type 0) (make : Arena → B → A) (starts : Token → Bool) (p : Reader A) where
  -- These were read, and stand here; what was there stays.
  pub record ItemsSoFar (old new : Arena) (all : Read (List A)) (rest : List Token) (bs : List B) : Type 0 where
    pub grows : Grows old new
    pub inside : AllByRecursion (Inside new) bs
    pub read : SoFar all starts p rest (map (make new) bs)

  pub items_start : (a : Arena) (tokens : List Token) (bs : List B) → AllByRecursion (Inside a) bs
      → ItemsSoFar a a (with_front (map (make a) bs) (many starts p tokens)) tokens bs
  items_start a tokens bs h = record { grows = grows_none a; inside = h; read = record { read = refl } }

  pub items_more : Takes p → Stays Inside make → (old new newer : Arena) (all : Read (List A)) (rest after : List Token) (bs : List B) (b : B)
      → ItemsSoFar old new all rest bs → next_is starts rest ≡ true → Grows new newer → Inside newer b → p rest ≡ done (make newer b) after
      → ItemsSoFar old newer all after (bs ++ b ∷ [])
  items_more takes stays old new newer all rest after bs b so e g i r =
      let before : PartsSoFar grows_more Inside make stays old new all starts p rest bs = record { grows = so.grows; inside = so.inside; read = so.read } in
      let behind = parts_more grows_more Inside make stays old new newer all starts p (shrinks_of p takes) rest after bs b before e g i r in
      record { grows = behind.grows; inside = behind.inside; read = behind.read }

  pub items_done : (old new : Arena) (all : Read (List A)) (rest : List Token) (bs : List B) → ItemsSoFar old new all rest bs
      → next_is starts rest ≡ false → all ≡ done (map (make new) bs) rest
  items_done old new all rest bs so e = all_read all starts p rest (map (make new) bs) so.read e

  pub items_stand : (old new : Arena) (all : Read (List A)) (rest : List Token) (bs : List B) → ItemsSoFar old new all rest bs → AllStand Inside old new bs
  items_stand old new all rest bs so = record { grows = so.grows; inside = so.inside }

  pub items_fail : Takes p → (old new : Arena) (all : Read (List A)) (rest : List Token) (bs : List B) (e : Stop) → ItemsSoFar old new all rest bs
      → next_is starts rest ≡ true → Fails e (p rest) → Fails e all
  items_fail takes old new all rest bs e so t f = one_fails all starts p (shrinks_of p takes) rest (map (make new) bs) e so.read t f

-- Behind nothing stands what is read.
pub without_front : {A X : Type 0} (view : X → List A × List Token) (result : Result X Stop) (r : Read (List A)) → Gives view result (with_front [] r) → Gives view result r
without_front {A = A} {X = X} view result r h = subst (λ (x : Read (List A)). Gives view result x) (front_none r) h

-- One was read, and then the others.
pub behind_first : {A X : Type 0} (view : X → List A × List Token) (result : Result X Stop) (first : Reader A) (starts : Token → Bool) (p : Reader A)
    (tokens rest : List Token) (a : A) → first tokens ≡ done a rest → Gives view result (with_front (a ∷ []) (many starts p rest))
    → Gives view result (then_at (first tokens) (λ a ts. then_at (many starts p ts) (λ more ts. Ok (a ∷ more, ts))))
behind_first {A = A} view result first starts p tokens rest a e h =
    subst (λ (x : Read (List A)). Gives view result x)
    (ap (λ (x : Read A). then_at x (λ a ts. then_at (many starts p ts) (λ more ts. Ok (a ∷ more, ts)))) (sym e)) h

-- What stands behind something that was read was read behind it.
pub all_after : {B X : Type 0} (Inside : Arena → B → Type 0) (items : X → List B) (a b c : Arena) (r : Result X Stop) → Grows a b
    → IfOk r (λ x. AllStand Inside b c (items x)) → IfOk r (λ x. AllStand Inside a c (items x))
all_after Inside items a b c (Ok x) g h = record { grows = grows_more a b c g h.grows; inside = h.inside }
all_after Inside items a b c (Err e) g h = tt
