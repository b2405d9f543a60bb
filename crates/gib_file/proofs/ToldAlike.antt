-- What is told of types determines their description, and the description tells it.
use Rattle.std.proofs.Common.{◌≡◌, ℕ, List, [], ◌∷◌, ◌++◌, length, Option, Some, None, refl, sym, ap, ap₂, ◌∙◌}
use Rattle.std.specs.Prelude.{codes}
use Rattle.gib_types.specs.declared.table.Ty.{Ty}
use Rattle.gib_types.specs.Table.{Table, IsTyBelow}
use Rattle.gib_file.specs.Describing.{Describes, Differs, differ_at, type_word}
use Rattle.gib_file.specs.Named.{AreNamed}
use Rattle.gib_file.specs.Told.{ToldType, told_types, AreToldAlike}
use Rattle.gib_file.proofs.DifferLemmas.{same_bytes}
use Rattle.gib_file.proofs.SchemaText.{lines_text}
use Rattle.gib_file.proofs.SchemaOf.{lines_are}
use Rattle.gib_file.proofs.SameTypes.{same_told}

abbrev description : List ℕ → List ToldType → List ℕ
description w ls = (codes "main " ++ (w ++ 10 ∷ [])) ++ lines_text ls

is_description : (table : Table) (names : List (List ℕ)) (ty : Ty) (a : List ℕ) (d : Describes table names ty a) → a ≡ description (type_word table names ty) (told_types table names 0 d.marks)
is_description table names ty a d = d.is ∙ ap (λ (l : List ℕ). (codes "main " ++ (type_word table names ty ++ 10 ∷ [])) ++ l) (lines_are table names 0 d.marks)

some_place : (o : Option ℕ) → (o ≡ None → ⊥) → (at : ℕ) × (o ≡ Some at)
some_place None h = absurd (h refl)
some_place (Some i) h = (i, refl)

module _ (table other : Table) (names others : List (List ℕ)) (ty of : Ty) (a b : List ℕ) (d : Describes table names ty a) (e : Describes other others of b) where
  pub alike_same : AreToldAlike d e → a ≡ b
  alike_same h = is_description table names ty a d ∙ ap₂ description h.0 h.1 ∙ sym (is_description other others of b e)

  module _ (h : AreNamed table names) (k : AreNamed other others) (lt : IsTyBelow (length table.types) ty) (lu : IsTyBelow (length other.types) of) where
    pub same_alike : a ≡ b → AreToldAlike d e
    same_alike same = same_told table other names others ty of a b h k lt lu d e same

    pub other_refused : (AreToldAlike d e → ⊥) → (at : ℕ) × Differs table names ty (Some b) at
    other_refused apart =
        let place = some_place (differ_at b a) (λ none'. apart (same_alike (sym (same_bytes b a none')))) in
        (place.0, (a, d, place.1))
