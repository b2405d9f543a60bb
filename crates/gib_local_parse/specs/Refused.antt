-- Where tokens that are no text are refused.
use Rattle.std.specs.Prelude.{◌≡◌, ℕ, zero, suc, ◌-◌, List, [], ◌++◌, length, take, Ok, Err}
use Rattle.gib_base.specs.declared.token.Token.{Token}
use Rattle.gib_syntax.specs.Spelling.{Places}
use Rattle.gib_reads.specs.Readers.{Read, left_of}
use Rattle.gib_local_parse.specs.Tree.{LocalTree}
use Rattle.gib_local_parse.specs.Texts.{spell_text}
use Rattle.gib_local_parse.specs.PlacedTexts.{TextIn}

-- The tokens of no text of so many levels begin with the tokens up to and including the one from which so many are left, wherever they
-- stand; where none are left: the tokens are no such text's.
abbrev pub BlamesIn : ℕ → List Token → ℕ → Type 0
BlamesIn n tokens zero = (at : Places) (x : LocalTree) → TextIn n at x [] → spell_text x [] ≡ tokens → ⊥
BlamesIn n tokens (suc k) =
    (at : Places) (x : LocalTree) (more : List Token) → TextIn n at x [] → spell_text x [] ≡ take (length tokens - k) tokens ++ more → ⊥

-- So it is with texts of 200 levels.
abbrev pub Blames : List Token → ℕ → Type 0
Blames tokens left = BlamesIn 200 tokens left

-- Some text's tokens begin with the tokens before the one from which so many are left, in however many levels.
pub record Begun (tokens : List Token) (left : ℕ) : Type 0 where
  pub levels : ℕ
  pub at : Places
  pub tree : LocalTree
  pub more : List Token
  pub placed : TextIn levels at tree []
  pub spelled : spell_text tree [] ≡ take (length tokens - left) tokens ++ more

-- The first token such that no text's tokens, in however many levels, begin with the tokens up to and including it, is the one from which
-- so many are left; with none left, tokens are missing.
pub record IsFirstBlamed (tokens : List Token) (left : ℕ) : Type 0 where
  pub blamed : (levels : ℕ) → BlamesIn levels tokens left
  pub first : Begun tokens left

-- How many tokens are left behind what was read, or from a fault on.
abbrev pub left_behind : {A : Type 0} → Read A → ℕ
left_behind (Ok x) = length x.1
left_behind (Err fault) = left_of fault
