-- The names of types with types in brackets: each is a name, and no two types have one.
use Rattle.std.proofs.Common.{◌≡◌, ◌∙◌, refl, ℕ, suc, ◌<◌, List, [], ◌∷◌, ◌++◌, length, Some, subst, sym, ap, ap₂, inl, inr, append_assoc, append-nil, arith, codes}
use Rattle.gib_base.specs.Names.{AreNames}
use Rattle.gib_value.specs.Reading.{IsWord}
use Rattle.gib_types.specs.Form.{Form, Forms, WholeForm, TruthForm, VariableForm, DataForm, NoForm, MoreForms}
use Rattle.gib_file.specs.Named.{GoesOn, IsName, IsTypeName}
use Rattle.gib_file.proofs.Words.{Ends, AreNameBytes, first_of, rest_of, word_bytes, goes_out, goes_in, one_word, one_name}
use Rattle.gib_mono.specs.Showing.{source_text, long_text, form_text, further_text}
use Rattle.gib_mono.proofs.Showing.{some_text}

-- A declared type's name is a word, and neither `Int` nor `Bool`.
pub record IsTypeWord (names : List (List ℕ)) (x : ℕ) : Type 0 where
  pub below : x < length names
  pub word : IsWord (source_text names x)
  pub not_whole : source_text names x ≡ codes "Int" → ⊥
  pub not_truth : source_text names x ≡ codes "Bool" → ⊥

module _ (names : List (List ℕ)) where
  -- a type has no variable, and its declared types have names
  abbrev mutual
    pub IsKnown : Form → Type 0
    IsKnown WholeForm = Unit {0}
    IsKnown TruthForm = Unit {0}
    IsKnown (VariableForm x) = ⊥
    IsKnown (DataForm t ts) = IsTypeWord names t × AreKnown ts

    pub AreKnown : Forms → Type 0
    AreKnown NoForm = Unit {0}
    AreKnown (MoreForms f fs) = IsKnown f × AreKnown fs

  -- what stands behind a name: nothing, or types in brackets
  abbrev tail_text : Forms → List ℕ
  tail_text NoForm = []
  tail_text (MoreForms t ts) = 91 ∷ (form_text names t ++ further_text names ts)

  pub long_is : (x : ℕ) (ts : Forms) → long_text names x ts ≡ source_text names x ++ tail_text ts
  long_is x NoForm = sym (append-nil (source_text names x))
  long_is x (MoreForms t ts) = refl

  data_is : (x : ℕ) (ts : Forms) → form_text names (DataForm x ts) ≡ source_text names x ++ tail_text ts
  data_is x NoForm = sym (append-nil (source_text names x))
  data_is x (MoreForms t ts) = refl

  pub long_form : (x : ℕ) (ts : Forms) → long_text names x ts ≡ form_text names (DataForm x ts)
  long_form x ts = long_is x ts ∙ sym (data_is x ts)

  abbrev bytes_of : (x : ℕ) → IsTypeWord names x → AreNameBytes (source_text names x)
  bytes_of x h = word_bytes (source_text names x) h.word

  -- ---- each bracket is closed

  mutual
    form_goes : (n : ℕ) (f : Form) (r : List ℕ) → IsKnown f → GoesOn (suc n) r → GoesOn (suc n) (form_text names f ++ r)
    form_goes n WholeForm r h k = k
    form_goes n TruthForm r h k = k
    form_goes n (VariableForm x) r h k = absurd h
    form_goes n (DataForm t NoForm) r h k = goes_in n (source_text names t) r (bytes_of t h.0) k
    form_goes n (DataForm t (MoreForms u us)) r h k =
        let inner : GoesOn (suc (suc n)) ((form_text names u ++ further_text names us) ++ r) =
        subst (GoesOn (suc (suc n))) (sym (append_assoc (form_text names u) (further_text names us) r)) (form_goes (suc n) u (further_text names us ++ r) h.1.0 (further_goes (suc n) us r h.1.1 k)) in
        subst (GoesOn (suc n)) (sym (append_assoc (source_text names t) (91 ∷ (form_text names u ++ further_text names us)) r))
        (goes_in n (source_text names t) (91 ∷ ((form_text names u ++ further_text names us) ++ r)) (bytes_of t h.0) inner)

    further_goes : (n : ℕ) (fs : Forms) (r : List ℕ) → AreKnown fs → GoesOn n r → GoesOn (suc n) (further_text names fs ++ r)
    further_goes n NoForm r h k = k
    further_goes n (MoreForms f fs) r h k =
        subst (GoesOn (suc n)) (sym (append_assoc (form_text names f) (further_text names fs) r)) (form_goes n f (further_text names fs ++ r) h.0 (further_goes n fs r h.1 k))

  tail_goes : (ts : Forms) → AreKnown ts → GoesOn 0 (tail_text ts)
  tail_goes NoForm h = tt
  tail_goes (MoreForms u us) h =
      inr (refl, form_goes 0 u (further_text names us) h.0 (subst (GoesOn 1) (append-nil (further_text names us)) (further_goes 0 us [] h.1 tt)))

  form_ends : (f : Form) → IsKnown f → GoesOn 0 (form_text names f)
  form_ends WholeForm h = inl (refl, inl (refl, inl (refl, tt)))
  form_ends TruthForm h = inl (refl, inl (refl, inl (refl, inl (refl, tt))))
  form_ends (VariableForm x) h = absurd h
  form_ends (DataForm t ts) h = subst (GoesOn 0) (sym (data_is t ts)) (goes_out (source_text names t) (tail_text ts) (bytes_of t h.0) (tail_goes ts h.1))

  name_before : (w r : List ℕ) → IsWord w → GoesOn 0 r → IsName (w ++ r)
  name_before [] r h k = absurd h
  name_before (b ∷ w) r h k = let bytes = word_bytes (b ∷ w) h in (bytes.0, goes_out w r bytes.1 k)

  -- a word with types is a name
  pub long_named : (x : ℕ) (ts : Forms) → IsWord (source_text names x) → AreKnown ts → IsName (long_text names x ts)
  long_named x ts word h = subst IsName (sym (long_is x ts)) (name_before (source_text names x) (tail_text ts) word (tail_goes ts h))

  -- ---- a text is that of one type

  tail_ends : (ts : Forms) → Ends (tail_text ts)
  tail_ends NoForm = tt
  tail_ends (MoreForms t ts) = refl

  -- the name of a declared type is neither `Int` nor `Bool`, with types or without
  not_word : (w : List ℕ) → AreNameBytes w → (x : ℕ) (ts : Forms) → IsTypeWord names x → (source_text names x ≡ w → ⊥) → form_text names (DataForm x ts) ≡ w → ⊥
  not_word w bytes x ts h not e =
      not (one_word (source_text names x) w (tail_text ts) [] (bytes_of x h) bytes (tail_ends ts) tt (sym (data_is x ts) ∙ e ∙ sym (append-nil w))).0

  not_whole : (x : ℕ) (ts : Forms) → IsTypeWord names x → form_text names (DataForm x ts) ≡ codes "Int" → ⊥
  not_whole x ts h = not_word (codes "Int") (refl, (refl, (refl, tt))) x ts h h.not_whole

  not_truth : (x : ℕ) (ts : Forms) → IsTypeWord names x → form_text names (DataForm x ts) ≡ codes "Bool" → ⊥
  not_truth x ts h = not_word (codes "Bool") (refl, (refl, (refl, (refl, tt)))) x ts h h.not_truth

  pub type_named : (x : ℕ) (ts : Forms) → IsTypeWord names x → AreKnown ts → IsTypeName (long_text names x ts)
  type_named x ts h known = record {
    named = long_named x ts h.word known;
    not_whole = λ e. not_whole x ts h (sym (long_form x ts) ∙ e);
    not_truth = λ e. not_truth x ts h (sym (long_form x ts) ∙ e);
  }

  whole_apart : codes "Int" ≡ codes "Bool" → ⊥
  whole_apart e = let no : 3 ≡ 4 = ap length e in omega (arith, no)

  byte_apart : (a b : ℕ) (x y : List ℕ) → (a ≡ b → ⊥) → a ∷ x ≡ b ∷ y → ⊥
  byte_apart a b x y not e = not (ap (first_of 0) e)

  further_ends : (fs : Forms) → Rattle.gib_file.proofs.Words.Stops (further_text names fs)
  further_ends NoForm = refl
  further_ends (MoreForms f fs) = refl

  -- the first of types in brackets is cut off in one way
  first_cut : (f g : Form) (fs gs : Forms) → IsKnown f → IsKnown g → form_text names f ++ further_text names fs ≡ form_text names g ++ further_text names gs
      → (form_text names f ≡ form_text names g) × (further_text names fs ≡ further_text names gs)
  first_cut f g fs gs h k e = one_name (form_text names f) (form_text names g) (further_text names fs) (further_text names gs) (form_ends f h) (form_ends g k) (further_ends fs) (further_ends gs) e

  module _ (differ : AreNames names) where
    -- so is a declared type's name
    data_cut : (x y : ℕ) (ts us : Forms) → IsTypeWord names x → IsTypeWord names y → form_text names (DataForm x ts) ≡ form_text names (DataForm y us) → (x ≡ y) × (tail_text ts ≡ tail_text us)
    data_cut x y ts us h k e =
        let cut = one_word (source_text names x) (source_text names y) (tail_text ts) (tail_text us) (bytes_of x h) (bytes_of y k) (tail_ends ts) (tail_ends us) (sym (data_is x ts) ∙ e ∙ data_is y us) in
        (differ.differ x y (source_text names x) (some_text names x h.below) (some_text names y k.below ∙ ap Some (sym cut.0)), cut.1)

    mutual
      pub one_form : (f g : Form) → IsKnown f → IsKnown g → form_text names f ≡ form_text names g → f ≡ g
      one_form WholeForm WholeForm h k e = refl
      one_form WholeForm TruthForm h k e = absurd (whole_apart e)
      one_form WholeForm (VariableForm y) h k e = absurd k
      one_form WholeForm (DataForm y us) h k e = absurd (not_whole y us k.0 (sym e))
      one_form TruthForm WholeForm h k e = absurd (whole_apart (sym e))
      one_form TruthForm TruthForm h k e = refl
      one_form TruthForm (VariableForm y) h k e = absurd k
      one_form TruthForm (DataForm y us) h k e = absurd (not_truth y us k.0 (sym e))
      one_form (VariableForm x) g h k e = absurd h
      one_form (DataForm x ts) WholeForm h k e = absurd (not_whole x ts h.0 e)
      one_form (DataForm x ts) TruthForm h k e = absurd (not_truth x ts h.0 e)
      one_form (DataForm x ts) (VariableForm y) h k e = absurd k
      one_form (DataForm x ts) (DataForm y us) h k e = let cut = data_cut x y ts us h.0 k.0 e in ap₂ DataForm cut.0 (one_tail ts us h.1 k.1 cut.1)

      one_tail : (ts us : Forms) → AreKnown ts → AreKnown us → tail_text ts ≡ tail_text us → ts ≡ us
      one_tail NoForm NoForm h k e = refl
      one_tail NoForm (MoreForms u us) h k e = absurd (let same : [] ≡ 91 ∷ (form_text names u ++ further_text names us) = e in cc)
      one_tail (MoreForms t ts) NoForm h k e = absurd (let same : 91 ∷ (form_text names t ++ further_text names ts) ≡ [] = e in cc)
      one_tail (MoreForms t ts) (MoreForms u us) h k e =
          let cut = first_cut t u ts us h.0 k.0 (ap rest_of e) in
          ap₂ MoreForms (one_form t u h.0 k.0 cut.0) (one_further ts us h.1 k.1 cut.1)

      one_further : (ts us : Forms) → AreKnown ts → AreKnown us → further_text names ts ≡ further_text names us → ts ≡ us
      one_further NoForm NoForm h k e = refl
      one_further NoForm (MoreForms u us) h k e = absurd (byte_apart 93 32 [] (form_text names u ++ further_text names us) (λ no. omega (arith, no)) e)
      one_further (MoreForms t ts) NoForm h k e = absurd (byte_apart 32 93 (form_text names t ++ further_text names ts) [] (λ no. omega (arith, no)) e)
      one_further (MoreForms t ts) (MoreForms u us) h k e =
          let cut = first_cut t u ts us h.0 k.0 (ap rest_of e) in
          ap₂ MoreForms (one_form t u h.0 k.0 cut.0) (one_further ts us h.1 k.1 cut.1)

    -- the text of a name with types is that of one
    pub one_long : (x y : ℕ) (ts us : Forms) → IsTypeWord names x → IsTypeWord names y → AreKnown ts → AreKnown us → long_text names x ts ≡ long_text names y us → DataForm x ts ≡ DataForm y us
    one_long x y ts us h k f g e = one_form (DataForm x ts) (DataForm y us) (h, f) (k, g) (sym (long_form x ts) ∙ e ∙ long_form y us)
