-- How a fork ends.
use Rattle.std.specs.Prelude.{◌≡◌, ℕ, ◌+◌, List, [], ◌∷◌, ◌++◌, ◌⊎◌}
use Rattle.gib_arena.specs.declared.view.View.{View}
use Rattle.gib_arena.specs.Bytes.{share}
use Rattle.gib_arena.specs.Cells.{cells_of}
use Rattle.gib_frame.specs.declared.due.Due.{Due}
use Rattle.gib_frame.specs.Answers.{ArePaid}
use Rattle.gib_pool.specs.Turn.{Tells}
use Rattle.gib_pool.specs.declared.back.Back.{Back}
use Rattle.gib_pool.specs.declared.back.Back.TheVariants.{Take, Answer, Full}

-- The latest fork that was pushed and not popped.
abbrev pub IsLatest : List Due → Due → Type 0
IsLatest mine e = (older : List Due) × (mine ≡ older ++ e ∷ [])

-- The pass u joined the side's and became v. The fork was popped, or given back by who had stolen it, and nothing was drawn for it; or
-- answered in what the pass knows, and what was drawn for it is paid for; so it is where all chunks were seen drawn. Of the forks that
-- were pushed so many newest ones may still be there.
abbrev pub IsBack : Due → (u v : View) → List Due → List Due → ℕ → ℕ → Back → Type 0
IsBack e u v old new here here' Take = (share v.holding ≡ share u.holding) × (((here ≡ here' + 1) × (old ≡ new ++ e ∷ [])) ⊎ ((here' ≡ 0) × (new ≡ old)))
IsBack e u v old new here here' (Answer a) = (drew : ℕ) × (here' ≡ 0) × (new ≡ old) × (share v.holding ≡ share u.holding + drew) × Tells e drew (cells_of v.holding) a
IsBack e u v old new here here' Full = (drew : ℕ) × (here' ≡ 0) × (new ≡ old) × (share v.holding ≡ share u.holding + drew) × (v.holding.seen ≡ v.branch.limit) × ArePaid e drew
