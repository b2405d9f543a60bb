-- A text with a bracket in it is no name.
use Rattle.std.proofs.Common.{◌≡◌, ◌∙◌, refl, ap, ℕ, Bool, true, false, ◌&&◌, List, [], ◌∷◌, ◌++◌, not, nat_lt, if◌then◌else◌}
use Rattle.std.specs.List.{list_all}
use Rattle.std.specs.Char.{is_ascii_alphabetic}
use Rattle.gib_base.specs.Piece.{is_name_byte}
use Rattle.gib_local_print.specs.LocatedText.{is_word, is_name}

and_false : (x : Bool) → (x && false) ≡ false
and_false true = refl
and_false false = refl

bytes_false : (w rest : List ℕ) → list_all is_name_byte (w ++ 91 ∷ rest) ≡ false
bytes_false [] rest = refl
bytes_false (b ∷ w) rest = ap (λ (t : Bool). is_name_byte b && t) (bytes_false w rest) ∙ and_false (is_name_byte b)

third_false : (x y z : Bool) → (x && y && false && z) ≡ false
third_false true true z = refl
third_false true false z = refl
third_false false y z = refl

pub bracket_is_no_name : (upper : Bool) (w rest : List ℕ) → is_name upper (w ++ 91 ∷ rest) ≡ false
bracket_is_no_name upper [] rest = refl
bracket_is_no_name upper (b ∷ w) rest =
    ap (λ (t : Bool). is_ascii_alphabetic b && (if nat_lt b 91 then upper else not upper) && t && not (is_word (b ∷ (w ++ 91 ∷ rest)))) (bytes_false w rest)
    ∙ third_false (is_ascii_alphabetic b) (if nat_lt b 91 then upper else not upper) (not (is_word (b ∷ (w ++ 91 ∷ rest))))
