-- The names of a text are all different.
use Rattle.std.proofs.Common.{◌≡◌, ℕ, ◌≤◌, List, [], ◌∷◌, ◌++◌, length, Bool, true, false, if◌then◌else◌, Some, None, refl, sym, ap, subst, arith, length-append}
use Rattle.std.specs.Prelude.{fold}
use Rattle.std.specs.List.{flat_map}
use Rattle.gib_base.specs.Names.{holds, with_name, AreNames}
use Rattle.gib_base.specs.Lexed.{Lexed, IsLexed, parts_of, name_at}
use Rattle.gib_base.proofs.Held.{AreNames-push}
use Rattle.gib_lex.proofs.Numbers.{length-fold}

with_one : (names : List (List ℕ)) (text : List ℕ) (b : Bool) → holds names text ≡ b → AreNames names → length (if b then names else names ++ text ∷ []) ≤ 65535 → AreNames (if b then names else names ++ text ∷ [])
with_one names text true e h le = h
with_one names text false e h le = AreNames-push names text h e (omega (arith, le, length-append names (text ∷ [])))

all_different : (names texts : List (List ℕ)) → AreNames names → length (fold with_name names texts) ≤ 65535 → AreNames (fold with_name names texts)
all_different names [] h le = h
all_different names (text ∷ texts) h le =
    all_different (with_name names text) texts (with_one names text (holds names text) refl h (omega (arith, le, length-fold (with_name names text) texts))) le

no_names : AreNames []
no_names = record { differ = λ i j text e f. absurd (let no : None ≡ Some text = e in cc); few = omega arith }

pub lexed_names : (text : List ℕ) (l : Lexed) → IsLexed text l → length l.names ≤ 65535 → AreNames l.names
lexed_names text l h le =
    let texts = flat_map name_at (parts_of text 0 h.lengths) in
    subst AreNames (sym h.names) (all_different [] texts no_names (omega (arith, le, ap length h.names)))
