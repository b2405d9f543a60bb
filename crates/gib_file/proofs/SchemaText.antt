-- A description as lines, and that no two lists of lines have one text.
use Rattle.std.proofs.Common.{◌≡◌, ℕ, ◌<◌, ◌^◌, Bool, true, false, List, [], ◌∷◌, ◌++◌, refl, sym, ap, ◌∙◌, arith, append_assoc}
use Rattle.std.specs.Prelude.{codes}
use Rattle.std.specs.Fmt.{decimal}
use Rattle.std.proofs.lemmas.Fmt.{decimal_injective}
use Rattle.gib_file.specs.Named.{IsName}
use Rattle.gib_file.specs.Told.{ToldCon, ToldType}
use Rattle.gib_file.proofs.Words.{Stops, first_of, rest_of, one_name, name_bytes, not_name, decimal_bytes}

-- ---- texts

abbrev pub fields_text : List (List ℕ) → List ℕ
fields_text [] = []
fields_text (w ∷ ws) = 32 ∷ (w ++ fields_text ws)

abbrev pub con_line : ToldCon → List ℕ
con_line c = c.name ++ 58 ∷ (decimal c.tag ++ fields_text c.fields)

abbrev pub more_text : List ToldCon → List ℕ
more_text [] = []
more_text (c ∷ cs) = codes " | " ++ (con_line c ++ more_text cs)

abbrev pub cons_text : List ToldCon → List ℕ
cons_text [] = []
cons_text (c ∷ cs) = con_line c ++ more_text cs

abbrev pub line_text : ToldType → List ℕ
line_text l = codes "data " ++ (l.name ++ (codes " = " ++ (cons_text l.cons ++ 10 ∷ [])))

abbrev pub lines_text : List ToldType → List ℕ
lines_text [] = []
lines_text (l ∷ ls) = line_text l ++ lines_text ls

-- ---- what is written

abbrev pub AreTexts : List (List ℕ) → Type 0
AreTexts [] = Unit {0}
AreTexts (w ∷ ws) = IsName w × AreTexts ws

pub record IsCon (c : ToldCon) : Type 0 where
  pub named : IsName c.name
  pub short : c.tag < 2 ^ 64
  pub typed : AreTexts c.fields

abbrev pub AreCons : List ToldCon → Type 0
AreCons [] = Unit {0}
AreCons (c ∷ cs) = IsCon c × AreCons cs

pub record IsLine (l : ToldType) : Type 0 where
  pub named : IsName l.name
  pub made : AreCons l.cons

abbrev pub AreLines : List ToldType → Type 0
AreLines [] = Unit {0}
AreLines (l ∷ ls) = IsLine l × AreLines ls

-- ---- the text determines what is written

-- behind fields the line ends, or a bar and a further constructor follow
abbrev behind : Bool → List ℕ → List ℕ
behind true r = 10 ∷ r
behind false r = 32 ∷ 124 ∷ r

fields_stop : (ws : List (List ℕ)) (p : Bool) (r : List ℕ) → Stops (fields_text ws ++ behind p r)
fields_stop [] true r = refl
fields_stop [] false r = refl
fields_stop (w ∷ ws) p r = refl

no_field : (p : Bool) (r w ws s : List ℕ) → IsName w → behind p r ≡ 32 ∷ ((w ++ ws) ++ s) → ⊥
no_field true r w ws s h e = let no : 10 ≡ 32 = ap (first_of 0) e in omega (arith, no)
no_field false r w ws s h e = not_name 124 r w (ws ++ s) h refl (ap rest_of e ∙ append_assoc w ws s)

one_fields : (ws vs : List (List ℕ)) (p q : Bool) (r s : List ℕ) → AreTexts ws → AreTexts vs → fields_text ws ++ behind p r ≡ fields_text vs ++ behind q s → (ws ≡ vs) × (behind p r ≡ behind q s)
one_fields [] [] p q r s f g e = (refl, e)
one_fields [] (v ∷ vs) p q r s f g e = absurd (no_field p r v (fields_text vs) (behind q s) g.0 e)
one_fields (w ∷ ws) [] p q r s f g e = absurd (no_field q s w (fields_text ws) (behind p r) f.0 (sym e))
one_fields (w ∷ ws) (v ∷ vs) p q r s f g e =
    let cut = one_name w v (fields_text ws ++ behind p r) (fields_text vs ++ behind q s) (name_bytes w f.0) (name_bytes v g.0) (fields_stop ws p r) (fields_stop vs q s)
    (sym (append_assoc w (fields_text ws) (behind p r)) ∙ ap rest_of e ∙ append_assoc v (fields_text vs) (behind q s)) in
    let rest = one_fields ws vs p q r s f.1 g.1 cut.1 in
    (ap (λ (x : List ℕ). x ∷ ws) cut.0 ∙ ap (λ (x : List (List ℕ)). v ∷ x) rest.0, rest.1)

-- a constructor's text with what stands behind it
con_behind : (c : ToldCon) (r : List ℕ) → con_line c ++ r ≡ c.name ++ 58 ∷ (decimal c.tag ++ (fields_text c.fields ++ r))
con_behind c r = append_assoc c.name (58 ∷ (decimal c.tag ++ fields_text c.fields)) r ∙ ap (λ (l : List ℕ). c.name ++ 58 ∷ l) (append_assoc (decimal c.tag) (fields_text c.fields) r)

one_con : (c d : ToldCon) (p q : Bool) (r s : List ℕ) → IsCon c → IsCon d → con_line c ++ behind p r ≡ con_line d ++ behind q s → (c ≡ d) × (behind p r ≡ behind q s)
one_con c d p q r s f g e =
    let name = one_name c.name d.name (58 ∷ (decimal c.tag ++ (fields_text c.fields ++ behind p r))) (58 ∷ (decimal d.tag ++ (fields_text d.fields ++ behind q s)))
    (name_bytes c.name f.named) (name_bytes d.name g.named) refl refl (sym (con_behind c (behind p r)) ∙ e ∙ con_behind d (behind q s)) in
    let tag = one_name (decimal c.tag) (decimal d.tag) (fields_text c.fields ++ behind p r) (fields_text d.fields ++ behind q s)
    (decimal_bytes c.tag f.short) (decimal_bytes d.tag g.short) (fields_stop c.fields p r) (fields_stop d.fields q s) (ap rest_of name.1) in
    let number = decimal_injective c.tag d.tag f.short g.short tag.0 in
    let fields = one_fields c.fields d.fields p q r s f.typed g.typed tag.1 in
    (λ i. record { name = name.0 i; tag = number i; fields = fields.0 i }, fields.1)

-- where the further constructors and the line's end begin
record Behind (r : List ℕ) : Type 0 where
  last : Bool
  rest : List ℕ
  is : r ≡ behind last rest

more_behind : (cs : List ToldCon) (r : List ℕ) → Behind (more_text cs ++ 10 ∷ r)
more_behind [] r = record { last = true; rest = r; is = refl }
more_behind (c ∷ cs) r = record { last = false; rest = 32 ∷ ((con_line c ++ more_text cs) ++ 10 ∷ r); is = refl }

-- a constructor and the further ones
first_con : (c d : ToldCon) (cs ds : List ToldCon) (r s : List ℕ) → IsCon c → IsCon d → (con_line c ++ more_text cs) ++ 10 ∷ r ≡ (con_line d ++ more_text ds) ++ 10 ∷ s
    → (c ≡ d) × (more_text cs ++ 10 ∷ r ≡ more_text ds ++ 10 ∷ s)
first_con c d cs ds r s f g e =
    let x = more_behind cs r in
    let y = more_behind ds s in
    let one = one_con c d x.last y.last x.rest y.rest f g
    (ap (λ (l : List ℕ). con_line c ++ l) (sym x.is) ∙ sym (append_assoc (con_line c) (more_text cs) (10 ∷ r)) ∙ e ∙ append_assoc (con_line d) (more_text ds) (10 ∷ s) ∙ ap (λ (l : List ℕ). con_line d ++ l) y.is) in
    (one.0, x.is ∙ one.1 ∙ sym y.is)

no_more : (r s : List ℕ) → 10 ∷ r ≡ 32 ∷ s → ⊥
no_more r s e = let no : 10 ≡ 32 = ap (first_of 0) e in omega (arith, no)

one_more : (cs ds : List ToldCon) (r s : List ℕ) → AreCons cs → AreCons ds → more_text cs ++ 10 ∷ r ≡ more_text ds ++ 10 ∷ s → (cs ≡ ds) × (r ≡ s)
one_more [] [] r s f g e = (refl, ap rest_of e)
one_more [] (d ∷ ds) r s f g e = absurd (no_more r (124 ∷ 32 ∷ ((con_line d ++ more_text ds) ++ 10 ∷ s)) e)
one_more (c ∷ cs) [] r s f g e = absurd (no_more s (124 ∷ 32 ∷ ((con_line c ++ more_text cs) ++ 10 ∷ r)) (sym e))
one_more (c ∷ cs) (d ∷ ds) r s f g e =
    let one = first_con c d cs ds r s f.0 g.0 (ap (λ (l : List ℕ). rest_of (rest_of (rest_of l))) e) in
    let rest = one_more cs ds r s f.1 g.1 one.1 in
    (ap (λ (x : ToldCon). x ∷ cs) one.0 ∙ ap (λ (x : List ToldCon). d ∷ x) rest.0, rest.1)

no_con : (d : ToldCon) (ds : List ToldCon) (r s : List ℕ) → IsCon d → 10 ∷ r ≡ (con_line d ++ more_text ds) ++ 10 ∷ s → ⊥
no_con d ds r s g e =
    not_name 10 r d.name (58 ∷ (decimal d.tag ++ (fields_text d.fields ++ (more_text ds ++ 10 ∷ s)))) g.named refl
    (e ∙ append_assoc (con_line d) (more_text ds) (10 ∷ s) ∙ con_behind d (more_text ds ++ 10 ∷ s))

one_cons : (cs ds : List ToldCon) (r s : List ℕ) → AreCons cs → AreCons ds → cons_text cs ++ 10 ∷ r ≡ cons_text ds ++ 10 ∷ s → (cs ≡ ds) × (r ≡ s)
one_cons [] [] r s f g e = (refl, ap rest_of e)
one_cons [] (d ∷ ds) r s f g e = absurd (no_con d ds r s g.0 e)
one_cons (c ∷ cs) [] r s f g e = absurd (no_con c cs s r f.0 (sym e))
one_cons (c ∷ cs) (d ∷ ds) r s f g e =
    let one = first_con c d cs ds r s f.0 g.0 e in
    let rest = one_more cs ds r s f.1 g.1 one.1 in
    (ap (λ (x : ToldCon). x ∷ cs) one.0 ∙ ap (λ (x : List ToldCon). d ∷ x) rest.0, rest.1)

-- a line's text behind its first word, with what stands behind the line
abbrev named_text : ToldType → List ℕ
named_text l = l.name ++ 32 ∷ 61 ∷ 32 ∷ (cons_text l.cons ++ 10 ∷ [])

line_behind : (l : ToldType) (r : List ℕ) → named_text l ++ r ≡ l.name ++ 32 ∷ 61 ∷ 32 ∷ (cons_text l.cons ++ 10 ∷ r)
line_behind l r = append_assoc l.name (32 ∷ 61 ∷ 32 ∷ (cons_text l.cons ++ 10 ∷ [])) r ∙ ap (λ (x : List ℕ). l.name ++ 32 ∷ 61 ∷ 32 ∷ x) (append_assoc (cons_text l.cons) (10 ∷ []) r)

abbrev behind_five : List ℕ → List ℕ
behind_five l = rest_of (rest_of (rest_of (rest_of (rest_of l))))

one_line : (l m : ToldType) (r s : List ℕ) → IsLine l → IsLine m → line_text l ++ r ≡ line_text m ++ s → (l ≡ m) × (r ≡ s)
one_line l m r s f g e =
    let name = one_name l.name m.name (32 ∷ 61 ∷ 32 ∷ (cons_text l.cons ++ 10 ∷ r)) (32 ∷ 61 ∷ 32 ∷ (cons_text m.cons ++ 10 ∷ s))
    (name_bytes l.name f.named) (name_bytes m.name g.named) refl refl (sym (line_behind l r) ∙ ap behind_five e ∙ line_behind m s) in
    let cons = one_cons l.cons m.cons r s f.made g.made (ap (λ (x : List ℕ). rest_of (rest_of (rest_of x))) name.1) in
    (λ i. record { name = name.0 i; cons = cons.0 i }, cons.1)

empty_apart : (x : ℕ) (xs : List ℕ) → [] ≡ x ∷ xs → ⊥
empty_apart x xs e = cc

pub one_lines : (ls ms : List ToldType) → AreLines ls → AreLines ms → lines_text ls ≡ lines_text ms → ls ≡ ms
one_lines [] [] f g e = refl
one_lines [] (m ∷ ms) f g e = absurd (empty_apart 100 _ e)
one_lines (l ∷ ls) [] f g e = absurd (empty_apart 100 _ (sym e))
one_lines (l ∷ ls) (m ∷ ms) f g e =
    let one = one_line l m (lines_text ls) (lines_text ms) f.0 g.0 e in
    ap (λ (x : ToldType). x ∷ ls) one.0 ∙ ap (λ (x : List ToldType). m ∷ x) (one_lines ls ms f.1 g.1 one.1)

-- the text of a description determines its first word and its lines
pub one_schema : (w v : List ℕ) (ls ms : List ToldType) → IsName w → IsName v → AreLines ls → AreLines ms
    → (codes "main " ++ (w ++ 10 ∷ [])) ++ lines_text ls ≡ (codes "main " ++ (v ++ 10 ∷ [])) ++ lines_text ms → (w ≡ v) × (ls ≡ ms)
one_schema w v ls ms f g h k e =
    let word = one_name w v (10 ∷ lines_text ls) (10 ∷ lines_text ms) (name_bytes w f) (name_bytes v g) refl refl
    (sym (append_assoc w (10 ∷ []) (lines_text ls)) ∙ ap behind_five e ∙ append_assoc v (10 ∷ []) (lines_text ms)) in
    (word.0, one_lines ls ms h k (ap rest_of word.1))
