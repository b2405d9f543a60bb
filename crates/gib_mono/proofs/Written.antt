-- The types of parts and of variables for parts, as the copy writes them.
use Rattle.std.proofs.Common.{◌≡◌, ℕ, List, [], ◌∷◌, ◌++◌, length, map, refl, sym, ap, ap₂, ◌∙◌, subst, append_assoc}
use Rattle.std.proofs.lemmas.List.{append-nil}
use Rattle.gib_base.specs.declared.Span.{Span}
use Rattle.gib_types.specs.declared.types.TypeId.{TypeId}
use Rattle.gib_types.specs.Types.{form_at, AreBelow}
use Rattle.gib_syntax.specs.declared.tree.Ident.{Ident}
use Rattle.gib_syntax.specs.declared.tree.Parameter.{Parameter}
use Rattle.gib_syntax.specs.declared.tree.TypeName.{TypeName}
use Rattle.gib_syntax.specs.declared.tree.TypeName.TheVariants as ty
use Rattle.gib_mono.specs.declared.copier.Copier.{Copier}
use Rattle.gib_mono.specs.Copying.{copy_variables, name_of_form}
use Rattle.gib_mono.specs.Made.{naming}
use Rattle.gib_mono.specs.Reading.{listed}
use Rattle.gib_mono.specs.Scenes.{forms}

-- types, all at one place
pub record NamesWritten (s : Copier) (p : Span) (names : List TypeName) (rest all : List TypeId) : Type 0 where
  pub below : AreBelow (length s.scene.types) rest
  pub are : names ++ map (name_of_form (naming s) p) (listed (forms s.scene) rest) ≡ map (name_of_form (naming s) p) (listed (forms s.scene) all)

pub names_start : (s : Copier) (p : Span) (names : List TypeName) (all : List TypeId) → names ≡ [] → AreBelow (length s.scene.types) all → NamesWritten s p names all all
names_start s p names all e h = rw e (record { below = h; are = refl })

pub first_below : (b : ℕ) (rest after : List TypeId) (t : TypeId) → rest ≡ t ∷ after → AreBelow b rest → AreBelow b (t ∷ after)
first_below b rest after t e h = subst (AreBelow b) e h

pub names_next : (s : Copier) (p : Span) (names more : List TypeName) (rest after all : List TypeId) (t : TypeId) (name : TypeName) → rest ≡ t ∷ after → NamesWritten s p names rest all → name ≡ name_of_form (naming s) p (form_at (forms s.scene) t.0) → more ≡ names ++ name ∷ []
    → NamesWritten s p more after all
names_next s p names more rest after all t name e h is m = record {
  below = (first_below (length s.scene.types) rest after t e h.below).1;
  are = ap (λ l. l ++ map (name_of_form (naming s) p) (listed (forms s.scene) after)) (m ∙ ap (λ u. names ++ u ∷ []) is)
      ∙ append_assoc names (name_of_form (naming s) p (form_at (forms s.scene) t.0) ∷ []) (map (name_of_form (naming s) p) (listed (forms s.scene) after))
      ∙ ap (λ l. names ++ map (name_of_form (naming s) p) (listed (forms s.scene) l)) (sym e) ∙ h.are;
}

pub names_end : (s : Copier) (p : Span) (names : List TypeName) (rest all : List TypeId) → rest ≡ [] → NamesWritten s p names rest all → names ≡ map (name_of_form (naming s) p) (listed (forms s.scene) all)
names_end s p names rest all e h = sym (append-nil names) ∙ ap (λ l. names ++ map (name_of_form (naming s) p) (listed (forms s.scene) l)) (sym e) ∙ h.are

-- variables, each with its type
pub record VariablesWritten (s : Copier) (qs : List Parameter) (rest : List Ident) (left : List TypeId) (all : List Ident) (types : List TypeId) : Type 0 where
  pub below : AreBelow (length s.scene.types) left
  pub are : qs ++ copy_variables (naming s) rest (listed (forms s.scene) left) ≡ copy_variables (naming s) all (listed (forms s.scene) types)

pub variables_start : (s : Copier) (qs : List Parameter) (all : List Ident) (types : List TypeId) → qs ≡ [] → AreBelow (length s.scene.types) types → VariablesWritten s qs all types all types
variables_start s qs all types e h = rw e (record { below = h; are = refl })

pub variables_next : (s : Copier) (qs more : List Parameter) (rest after : List Ident) (left further : List TypeId) (all : List Ident) (types : List TypeId) (x : Ident) (t : TypeId) (name : TypeName) → rest ≡ x ∷ after → left ≡ t ∷ further
    → VariablesWritten s qs rest left all types → name ≡ name_of_form (naming s) x.span (form_at (forms s.scene) t.0) → more ≡ qs ++ record { name = x; ty = name } ∷ [] → VariablesWritten s more after further all types
variables_next s qs more rest after left further all types x t name e f h is m =
    let q : Parameter = record { name = x; ty = name_of_form (naming s) x.span (form_at (forms s.scene) t.0) } in
    record {
      below = (first_below (length s.scene.types) left further t f h.below).1;
      are = ap (λ l. l ++ copy_variables (naming s) after (listed (forms s.scene) further)) (m ∙ ap (λ (a : TypeName). let v : Parameter = record { name = x; ty = a } in qs ++ v ∷ []) is)
          ∙ append_assoc qs (q ∷ []) (copy_variables (naming s) after (listed (forms s.scene) further))
          ∙ ap₂ (λ (l : List Ident) (r : List TypeId). qs ++ copy_variables (naming s) l (listed (forms s.scene) r)) (sym e) (sym f) ∙ h.are;
    }

pub variables_over : (s : Copier) (qs more : List Parameter) (rest after : List Ident) (left : List TypeId) (all : List Ident) (types : List TypeId) (x : Ident) → rest ≡ x ∷ after → left ≡ []
    → VariablesWritten s qs rest left all types → more ≡ qs ++ record { name = x; ty = ty.Whole x.span } ∷ [] → VariablesWritten s more after left all types
variables_over s qs more rest after left all types x e f h m =
    let q : Parameter = record { name = x; ty = ty.Whole x.span } in
    record {
      below = h.below;
      are = ap₂ (λ (l : List Parameter) (r : List TypeId). l ++ copy_variables (naming s) after (listed (forms s.scene) r)) m f
          ∙ append_assoc qs (q ∷ []) (copy_variables (naming s) after [])
          ∙ ap₂ (λ (l : List Ident) (r : List TypeId). qs ++ copy_variables (naming s) l (listed (forms s.scene) r)) (sym e) (sym f) ∙ h.are;
    }

pub variables_end : (s : Copier) (qs : List Parameter) (rest : List Ident) (left : List TypeId) (all : List Ident) (types : List TypeId) → rest ≡ [] → VariablesWritten s qs rest left all types → qs ≡ copy_variables (naming s) all (listed (forms s.scene) types)
variables_end s qs rest left all types e h = sym (append-nil qs) ∙ ap (λ (l : List Ident). qs ++ copy_variables (naming s) l (listed (forms s.scene) left)) (sym e) ∙ h.are
