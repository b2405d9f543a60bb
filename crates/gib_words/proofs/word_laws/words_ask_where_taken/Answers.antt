use Rattle.std.proofs.Common.{◌≡◌, ℕ, List, [], ◌∷◌, is_some, refl}
use Rattle.gib_words.specs.Words.{asked, taken}
use Rattle.gib_words.proofs.Forms.{asks_where_taken}
use Rattle.gib_words.proofs.word_laws.words_ask_where_taken.Goals as goal

cases : (words : List (List ℕ)) → is_some (asked words) ≡ taken words
cases [] = refl
cases (program ∷ []) = refl
cases (program ∷ word ∷ further) = asks_where_taken (program ∷ word ∷ further)

pub returns : goal.returns
returns c = cases
