-- A text that is no name of the source is no short text.
use Rattle.std.proofs.Common.{◌≡◌, ℕ, zero, suc, ◌<◌, List, [], ◌∷◌, ◌++◌, length, map, true, false, Option, Some, None, slice_get, sym, ap, ◌∙◌, IfNone}
use Rattle.std.specs.List.{AllByRecursion}
use Rattle.std.proofs.lemmas.Option.{slice_get-get_or, unwrap_or-slice_get}
use Rattle.gib_base.specs.Names.{holds}
use Rattle.gib_base.specs.declared.texts.Copied.{Copied}
use Rattle.gib_base.specs.Texts.{short_of, AreOfSource}
use Rattle.gib_base.proofs.Held.{holds_at}

pub none_gives : {A : Type 0} (o : Option A) (P Q : Type 0) → (P → Q) → IfNone o P → IfNone o Q
none_gives None P Q go h = go h
none_gives (Some x) P Q go h = h

-- a name with types has the text of one of the source
origin_held : (names : List (List ℕ)) (c : Copied) (text : List ℕ) → c.origin.0 < length names → short_of names c ≡ text → slice_get names c.origin.0 ≡ Some text
origin_held names c text lt is =
    slice_get-get_or names c.origin.0 [] lt ∙ ap Some (sym (unwrap_or-slice_get names c.origin.0 [])) ∙ ap Some is

copy_holds : (names : List (List ℕ)) (copies : List Copied) (text : List ℕ) → AreOfSource (length names) copies → (i : ℕ) → slice_get (map (short_of names) copies) i ≡ Some text → holds names text ≡ true
copy_holds names [] text known i e = absurd cc
copy_holds names (c ∷ copies) text known zero e = holds_at names text c.origin.0 (origin_held names c text known.0.0 (let f = e in cc))
copy_holds names (c ∷ copies) text known (suc i) e = copy_holds names copies text known.1 i e

both_hold : (all names more : List (List ℕ)) (text : List ℕ) → ((i : ℕ) → slice_get more i ≡ Some text → holds all text ≡ true) → ((i : ℕ) → slice_get names i ≡ Some text → holds all text ≡ true)
    → (i : ℕ) → slice_get (names ++ more) i ≡ Some text → holds all text ≡ true
both_hold all [] more text behind front i e = behind i e
both_hold all (n ∷ names) more text behind front zero e = front zero e
both_hold all (n ∷ names) more text behind front (suc i) e = both_hold all names more text behind (λ j. front (suc j)) i e

pub found_nowhere : (names : List (List ℕ)) (copies : List Copied) (text : List ℕ) → AreOfSource (length names) copies → holds names text ≡ false
    → (short : List (List ℕ)) → short ≡ names ++ map (short_of names) copies → (number : ℕ) → slice_get short number ≡ Some text → ⊥
found_nowhere names copies text known none short is number e =
    let yes = both_hold names names (map (short_of names) copies) text (copy_holds names copies text known) (holds_at names text) number (ap (λ l. slice_get l number) (sym is) ∙ e) in cc
