-- Files in memory, when those of a name are left out and a new one is put at the end.
use Rattle.std.proofs.Common.{◌≡◌, ℕ, List, [], ◌∷◌, ◌++◌, Option, Some, None, Bool, true, false, not, refl, sym, ap, ◌∙◌, Vec, String, string_bytes, bytes_eq, if◌then◌else◌, cond}
use Rattle.std.specs.declared.alloc.Global.{Global}
use Rattle.std.proofs.lemmas.Slice.Eq.{bytes_eq-Decides}
use Rattle.gib_edge.specs.Files.{held, others}

abbrev File : Type 0
File = String Global × Vec ℕ Global

abbrev Bytes : Type 0
Bytes = Option (List ℕ)

-- the first file stays or is left out
held-head : (other : List ℕ) (b : Bool) (file : File) (rest last : List File) → held (cond (not b) (file ∷ rest) rest ++ last) other ≡ cond b (held (rest ++ last) other) (cond (bytes_eq (string_bytes file.0) other) (Some file.1.items) (held (rest ++ last) other))
held-head other true file rest last = refl
held-head other false file rest last = refl

-- whether a file has the name (b), the name is the one that is asked for (c), and the file has that one (d)
choose : (b c d : Bool) (new first rest now : Bytes) → (b ≡ true → d ≡ c) → (c ≡ true → d ≡ true → b ≡ true) → now ≡ cond c new rest → cond b now (cond d first now) ≡ cond c new (cond d first rest)
choose true true d new first rest now same both e = e
choose true false true new first rest now same both e = absurd (true-false (same refl))
  where
    true-false : true ≡ false → ⊥
    true-false h = cc
choose true false false new first rest now same both e = e
choose false true true new first rest now same both e = absurd (false-true (both refl refl))
  where
    false-true : false ≡ true → ⊥
    false-true h = cc
choose false true false new first rest now same both e = e
choose false false true new first rest now same both e = refl
choose false false false new first rest now same both e = e

-- a file in the place of those of its name
pub held-others : (name other : List ℕ) (files : List File) (file : File) → string_bytes file.0 ≡ name → held (others name files ++ file ∷ []) other ≡ (if bytes_eq name other then Some file.1.items else held files other)
held-others name other [] file e = ap (λ n. cond (bytes_eq n other) (Some file.1.items) None) e
held-others name other (first ∷ files) file e =
    let b : Bool = bytes_eq (string_bytes first.0) name in
    let step : held (cond (not b) (first ∷ others name files) (others name files) ++ file ∷ []) other ≡ cond b (held (others name files ++ file ∷ []) other) (cond (bytes_eq (string_bytes first.0) other) (Some first.1.items) (held (others name files ++ file ∷ []) other)) = held-head other b first (others name files) (file ∷ []) in
    step ∙ choose b (bytes_eq name other) (bytes_eq (string_bytes first.0) other) (Some file.1.items) (Some first.1.items) (held files other) (held (others name files ++ file ∷ []) other)
    (λ h. ap (λ n. bytes_eq n other) ((bytes_eq-Decides (string_bytes first.0) name).0 h))
    (λ h k. (bytes_eq-Decides (string_bytes first.0) name).1 ((bytes_eq-Decides (string_bytes first.0) other).0 k ∙ sym ((bytes_eq-Decides name other).0 h)))
    (held-others name other files file e)

-- the same, by the steps of the call that does it
pub held-stored : (name bytes : List ℕ) (old room gone new : List File) (file : File) → room ≡ old → gone ≡ others name room → new ≡ gone ++ file ∷ [] → string_bytes file.0 ≡ name → file.1.items ≡ bytes → (other : List ℕ) → held new other ≡ (if bytes_eq name other then Some bytes else held old other)
held-stored name bytes old room gone new file same left put named filled other =
    let e : new ≡ others name old ++ file ∷ [] = put ∙ ap (λ fs. fs ++ file ∷ []) (left ∙ ap (λ fs. others name fs) same) in
    ap (λ fs. held fs other) e ∙ held-others name other old file named ∙ ap (λ bs. cond (bytes_eq name other) (Some bs) (held old other)) filled

same_either : (c : Bool) → None ≡ cond c None (let nothing : Bytes = None in nothing)
same_either true = refl
same_either false = refl

left-head : (other : List ℕ) (b : Bool) (file : File) (rest : List File) → held (cond (not b) (file ∷ rest) rest) other ≡ cond b (held rest other) (cond (bytes_eq (string_bytes file.0) other) (Some file.1.items) (held rest other))
left-head other true file rest = refl
left-head other false file rest = refl

-- what the files of other names hold
pub held-left : (name other : List ℕ) (files : List File) → held (others name files) other ≡ (if bytes_eq name other then None else held files other)
held-left name other [] = same_either (bytes_eq name other)
held-left name other (first ∷ files) =
    let b : Bool = bytes_eq (string_bytes first.0) name in
    let step : held (cond (not b) (first ∷ others name files) (others name files)) other ≡ cond b (held (others name files) other) (cond (bytes_eq (string_bytes first.0) other) (Some first.1.items) (held (others name files) other)) = left-head other b first (others name files) in
    step ∙ choose b (bytes_eq name other) (bytes_eq (string_bytes first.0) other) None (Some first.1.items) (held files other) (held (others name files) other)
    (λ h. ap (λ n. bytes_eq n other) ((bytes_eq-Decides (string_bytes first.0) name).0 h))
    (λ h k. (bytes_eq-Decides (string_bytes first.0) name).1 ((bytes_eq-Decides (string_bytes first.0) other).0 k ∙ sym ((bytes_eq-Decides name other).0 h)))
    (held-left name other files)
