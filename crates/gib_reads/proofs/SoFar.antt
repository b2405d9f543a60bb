-- Things read one after another, as far as a loop has come.
use Rattle.std.proofs.Common.{◌≡◌, ◌<◌, Bool, true, false, List, [], ◌∷◌, ◌++◌, length, Ok, Err, refl, sym, ap, ◌∙◌, append_assoc}
use Rattle.std.proofs.lemmas.List.{append-nil}
use Rattle.gib_base.specs.declared.token.Token.{Token}
use Rattle.gib_reads.specs.declared.stop.Stop.{Stop}
use Rattle.gib_reads.specs.declared.stop.Stop.TheVariants as stop
use Rattle.gib_reads.specs.Readers.{Read, Reader, then_at, next_is, many_step, many}
use Rattle.gib_reads.specs.Answers.{Fails, with_front}
use Rattle.gib_reads.proofs.Tools.{done}
use Rattle.gib_reads.proofs.Many.{Shrinks, many_none, many_is}

-- Of all that is to be read these were read, and the rest comes next.
pub record SoFar {A : Type 0} (all : Read (List A)) (starts : Token → Bool) (p : Reader A) (rest : List Token) (front : List A) : Type 0 where
  pub read : all ≡ with_front front (many starts p rest)

pub front_none : {A : Type 0} (r : Read (List A)) → with_front [] r ≡ r
front_none (Ok x) = refl
front_none (Err f) = refl

pub none_yet : {A : Type 0} (starts : Token → Bool) (p : Reader A) (tokens : List Token) → SoFar (many starts p tokens) starts p tokens []
none_yet starts p tokens = record { read = sym (front_none (many starts p tokens)) }

-- One, and then as many as begin.
abbrev pub one_and_more : {A : Type 0} → Reader A → (Token → Bool) → Reader A → Reader (List A)
one_and_more first starts p tokens = then_at (first tokens) (λ a ts. then_at (many starts p ts) (λ xs ts. Ok (a ∷ xs, ts)))

pub first_one : {A : Type 0} (first : Reader A) (starts : Token → Bool) (p : Reader A) (tokens rest : List Token) (a : A)
    → first tokens ≡ done a rest → SoFar (one_and_more first starts p tokens) starts p rest (a ∷ [])
first_one {A = A} first starts p tokens rest a e =
    record { read = ap (λ (x : Read A). then_at x (λ a ts. then_at (many starts p ts) (λ xs ts. Ok (a ∷ xs, ts)))) e }

pub first_fails : {A : Type 0} (first : Reader A) (starts : Token → Bool) (p : Reader A) (tokens : List Token) (e : Stop) → Fails e (first tokens)
    → Fails e (one_and_more first starts p tokens)
first_fails first starts p tokens stop.Memory f = tt
first_fails {A = A} first starts p tokens (stop.At k) f = ap (λ (x : Read A). then_at x (λ a ts. then_at (many starts p ts) (λ xs ts. Ok (a ∷ xs, ts)))) f
first_fails {A = A} first starts p tokens (stop.Nested k) f = ap (λ (x : Read A). then_at x (λ a ts. then_at (many starts p ts) (λ xs ts. Ok (a ∷ xs, ts)))) f

front_more : {A : Type 0} (front : List A) (a : A) (r : Read (List A))
    → with_front front (then_at r (λ xs ts. Ok (a ∷ xs, ts))) ≡ with_front (front ++ a ∷ []) r
front_more {A = A} front a (Ok x) = ap (λ (xs : List A). done xs x.1) (sym (append_assoc front (a ∷ []) x.0))
front_more front a (Err f) = refl

goes_on : {A : Type 0} (starts : Token → Bool) (p : Reader A) → Shrinks p → (rest : List Token) → next_is starts rest ≡ true
    → many starts p rest ≡ one_and_more p starts p rest
goes_on starts p sh rest e = many_is starts p sh rest ∙ ap (λ v. many_step v p (many starts p) rest) e

pub one_more : {A : Type 0} (all : Read (List A)) (starts : Token → Bool) (p : Reader A) → Shrinks p
    → (rest after : List Token) (front : List A) (a : A) → SoFar all starts p rest front → next_is starts rest ≡ true → p rest ≡ done a after
    → SoFar all starts p after (front ++ a ∷ [])
one_more {A = A} all starts p sh rest after front a so e r =
    record {
      read = so.read ∙ ap (with_front front) (goes_on starts p sh rest e ∙ (first_one p starts p rest after a r).read)
          ∙ front_more front a (many starts p after);
    }

pub all_read : {A : Type 0} (all : Read (List A)) (starts : Token → Bool) (p : Reader A) (rest : List Token) (front : List A)
    → SoFar all starts p rest front → next_is starts rest ≡ false → all ≡ done front rest
all_read {A = A} all starts p rest front so e =
    so.read ∙ ap (with_front front) (many_none starts p rest e) ∙ ap (λ (xs : List A). done xs rest) (append-nil front)

pub one_fails : {A : Type 0} (all : Read (List A)) (starts : Token → Bool) (p : Reader A) → Shrinks p
    → (rest : List Token) (front : List A) (e : Stop) → SoFar all starts p rest front → next_is starts rest ≡ true → Fails e (p rest) → Fails e all
one_fails all starts p sh rest front stop.Memory so t f = tt
one_fails {A = A} all starts p sh rest front (stop.At k) so t f =
    so.read ∙ ap (with_front front) (goes_on starts p sh rest t ∙ first_fails p starts p rest (stop.At k) f)
one_fails {A = A} all starts p sh rest front (stop.Nested k) so t f =
    so.read ∙ ap (with_front front) (goes_on starts p sh rest t ∙ first_fails p starts p rest (stop.Nested k) f)

-- The measure of such a loop.
pub shorter : {A : Type 0} (p : Reader A) → Shrinks p → (rest after : List Token) (a : A) → p rest ≡ done a after → length after < length rest
shorter p sh rest after a e = (sh rest).by a after e
