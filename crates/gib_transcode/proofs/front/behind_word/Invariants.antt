use Rattle.std.proofs.Common.{◌≡◌, ◌≤◌, ◌++◌, ℕ, List, length}
use Rattle.gib_transcode.proofs.front.behind_word.Given as goal

abbrev pub invariant-bytes : goal.invariant-bytes
invariant-bytes l = (length l.rest ≤ length l.fn.text) × ((behind : List ℕ) → l.rest ≡ l.left ++ behind → l.fn.text ≡ l.fn.word ++ behind)

abbrev pub decreases-bytes : goal.decreases-bytes
decreases-bytes l = length l.left
