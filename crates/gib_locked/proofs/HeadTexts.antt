-- The line of what a weave was started with, and its text.
use Rattle.std.proofs.Common.{true≢false, ◌≡◌, ℕ, ◌<◌, ◌^◌, List, ◌∷◌, ◌++◌, true, false, ◌&&◌, sym, refl, ap, ◌∙◌, subst, arith}
use Rattle.std.specs.Prelude.{codes, nat_le}
use Rattle.std.specs.Fmt.{decimal}
use Rattle.std.proofs.lemmas.Fmt.{decimal_injective}
use Rattle.std.proofs.lemmas.Bool.Decides.{nat_tests}
use Rattle.std.proofs.lemmas.Bool.{and_parts}
use Rattle.gib_locked.specs.Cuts.{IsCut, lacks}
use Rattle.gib_locked.specs.Limits.{are_settings}
use Rattle.gib_locked.specs.JournalText.{access_text, settings_text}
use Rattle.gib_locked.specs.declared.settings.Settings.{Settings}
use Rattle.gib_locked.proofs.LineTexts.{halves, has_lacks, number_lacks}

-- A word, a number, and the rest.
abbrev pub named : List ℕ → ℕ → List ℕ → List ℕ
named word n rest = word ++ 32 ∷ (decimal n ++ 32 ∷ rest)

pub no_space : (text word : List ℕ) (n : ℕ) (rest : List ℕ) → lacks 32 text ≡ true → text ≡ named word n rest → ⊥
no_space text word n rest h is = has_lacks 32 word (decimal n ++ 32 ∷ rest) (subst (λ xs. lacks 32 xs ≡ true) is h)

pub word_first : (text front behind word : List ℕ) (n : ℕ) (rest : List ℕ) → lacks 32 word ≡ true → IsCut 32 text front behind → text ≡ named word n rest → (front ≡ word) × (behind ≡ decimal n ++ 32 ∷ rest)
word_first text front behind word n rest h c is = halves 32 front word behind (decimal n ++ 32 ∷ rest) c.without h (sym c.text_is ∙ is)

pub no_second : (text front behind word : List ℕ) (n : ℕ) (rest : List ℕ) → lacks 32 word ≡ true → IsCut 32 text front behind → lacks 32 behind ≡ true → text ≡ named word n rest → ⊥
no_second text front behind word n rest h c none is = has_lacks 32 (decimal n) rest (subst (λ xs. lacks 32 xs ≡ true) (word_first text front behind word n rest h c is).1 none)

pub number_second : (text front behind digits rest' word : List ℕ) (n : ℕ) (rest : List ℕ) → lacks 32 word ≡ true → IsCut 32 text front behind → IsCut 32 behind digits rest' → n < 2 ^ 64 → text ≡ named word n rest → digits ≡ decimal n
number_second text front behind digits rest' word n rest h c d small is =
    (halves 32 digits (decimal n) rest' rest d.without (number_lacks 32 n (omega arith) small) (sym d.text_is ∙ (word_first text front behind word n rest h c is).1)).0

-- One word with one number and one rest.
pub named_is_one : (word : List ℕ) (n m : ℕ) (r q : List ℕ) → lacks 32 word ≡ true → n < 2 ^ 64 → m < 2 ^ 64 → named word n r ≡ named word m q → (n ≡ m) × (r ≡ q)
named_is_one word n m r q h f g e =
    let a = halves 32 word word (decimal n ++ 32 ∷ r) (decimal m ++ 32 ∷ q) h h e in
    let b = halves 32 (decimal n) (decimal m) r q (number_lacks 32 n (omega arith) f) (number_lacks 32 m (omega arith) g) a.1 in
    (decimal_injective n m f g b.0, b.1)

-- The numbers are small.
pub record AreSmall (s : Settings) : Type 0 where
  pub depth : s.depth < 2 ^ 64
  pub chunks : s.chunks < 2 ^ 64
  pub fork : s.fork < 2 ^ 64

pub are_small : (s : Settings) → AreSmall s
are_small s =
    let d = s.depth in let c = s.chunks in let f = s.fork in
    let h1 = (and_parts (nat_le 1 d) (nat_le d 1000000 && (nat_le 16 c && (nat_le c 65536 && nat_le f 64))) s.within).1 in
    let h2 = (and_parts (nat_le d 1000000) (nat_le 16 c && (nat_le c 65536 && nat_le f 64)) h1).1 in
    let h3 = (and_parts (nat_le 16 c) (nat_le c 65536 && nat_le f 64) h2).1 in
    let a : nat_le s.depth 1000000 ≡ true = (and_parts (nat_le d 1000000) (nat_le 16 c && (nat_le c 65536 && nat_le f 64)) h1).0 in
    let b : nat_le s.chunks 65536 ≡ true = (and_parts (nat_le c 65536) (nat_le f 64) h3).0 in
    let e : nat_le s.fork 64 ≡ true = (and_parts (nat_le c 65536) (nat_le f 64) h3).1 in
    record { depth = grind (arith, nat_tests); chunks = grind (arith, nat_tests); fork = grind (arith, nat_tests) }

-- What is behind the first number, behind the second, and behind the third.
abbrev pub behind_two : Settings → List ℕ
behind_two s = codes "fork " ++ (decimal s.fork ++ 32 ∷ access_text s.access)

abbrev pub behind_one : Settings → List ℕ
behind_one s = codes "chunks " ++ (decimal s.chunks ++ (codes " fork " ++ (decimal s.fork ++ 32 ∷ access_text s.access)))

pub first_is : (text rest : List ℕ) (n : ℕ) (s : Settings) → n < 2 ^ 64 → text ≡ named (codes "depth") n rest → text ≡ settings_text s → (n ≡ s.depth) × (rest ≡ behind_one s)
first_is text rest n s small is e = named_is_one (codes "depth") n s.depth rest (behind_one s) refl small (are_small s).depth (sym is ∙ e)

pub second_is : (text rest more : List ℕ) (n m : ℕ) (s : Settings) → n < 2 ^ 64 → m < 2 ^ 64 → text ≡ named (codes "depth") n rest → rest ≡ named (codes "chunks") m more → text ≡ settings_text s → (m ≡ s.chunks) × (more ≡ behind_two s)
second_is text rest more n m s small few is has e = named_is_one (codes "chunks") m s.chunks more (behind_two s) refl few (are_small s).chunks (sym has ∙ (first_is text rest n s small is e).1)

pub third_is : (text rest more last : List ℕ) (n m k : ℕ) (s : Settings) → n < 2 ^ 64 → m < 2 ^ 64 → k < 2 ^ 64 → text ≡ named (codes "depth") n rest → rest ≡ named (codes "chunks") m more → more ≡ named (codes "fork") k last → text ≡ settings_text s → (k ≡ s.fork) × (last ≡ access_text s.access)
third_is text rest more last n m k s small few low is has holds e = named_is_one (codes "fork") k s.fork last (access_text s.access) refl low (are_small s).fork (sym holds ∙ (second_is text rest more n m s small few is has e).1)

pub not_within : (n m k : ℕ) (s : Settings) → n ≡ s.depth → m ≡ s.chunks → k ≡ s.fork → are_settings n m k ≡ false → ⊥
not_within n m k s a b c h = true≢false (sym s.within ∙ (ap (λ x. are_settings x s.chunks s.fork) (sym a) ∙ (ap (λ x. are_settings n x s.fork) (sym b) ∙ (ap (λ x. are_settings n m x) (sym c) ∙ h))))
