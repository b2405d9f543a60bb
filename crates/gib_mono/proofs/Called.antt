-- What copies are called, as it is written.
use Rattle.std.proofs.Common.{◌≡◌, ℕ, ◌<◌, suc, List, [], ◌∷◌, ◌++◌, length, map, Some, refl, sym, ap, ap₂, ◌∙◌, subst, append_assoc, append-nil}
use Rattle.std.specs.Prelude.{slice_get}
use Rattle.std.specs.Global.{Vec}
use Rattle.gib_base.specs.declared.texts.Copied.{Copied}
use Rattle.gib_base.specs.declared.texts.TextPiece.{TextPiece}
use Rattle.gib_base.specs.Texts.{piece_text, pieces_text, short_of, long_of, IsBracketed, AreOfSource}
use Rattle.gib_types.specs.declared.types.TypeId.{TypeId}
use Rattle.gib_types.specs.declared.types.TypeNode.{TypeNode}
use Rattle.gib_types.specs.declared.types.TypeNode.TheVariants as t
use Rattle.gib_types.specs.Form.{Form, Forms, WholeForm, TruthForm, VariableForm, DataForm, NoForm, MoreForms, form_or}
use Rattle.gib_types.specs.Types.{form_at, forms_at, form_from}
use Rattle.gib_mono.specs.declared.entries.Entry.{Entry}
use Rattle.gib_mono.specs.Entries.{item_of, AreEntriesBelow}
use Rattle.gib_mono.specs.Naming.{AreItemsBelow}
use Rattle.gib_mono.specs.Pieces.{form_pieces, types_pieces, further_pieces}
use Rattle.gib_mono.specs.Showing.{source_text, form_text, further_text, long_text, short_name, long_name}

-- a declared type is written as its name with its arguments
pub data_pieces : (fs : List Form) (id : ℕ) (n : TypeNode) (x : ℕ) (is : Vec TypeId) → slice_get fs id ≡ Some (form_from fs n) → n ≡ t.Data x is → form_pieces (form_at fs id) ≡ form_pieces (DataForm x (forms_at fs is.items))
data_pieces fs id n x is e f = ap form_pieces (ap form_or e ∙ ap (form_from fs) f)

-- pieces are texts
module _ (names : List (List ℕ)) where
  both_texts : (ps qs : List TextPiece) → pieces_text names (ps ++ qs) ≡ pieces_text names ps ++ pieces_text names qs
  both_texts [] qs = refl
  both_texts (p ∷ ps) qs = ap (λ (l : List ℕ). piece_text names p ++ l) (both_texts ps qs) ∙ sym (append_assoc (piece_text names p) (pieces_text names ps) (pieces_text names qs))

  mutual
    form_is : (f : Form) → pieces_text names (form_pieces f) ≡ form_text names f
    form_is WholeForm = refl
    form_is TruthForm = refl
    form_is (VariableForm x) = refl
    form_is (DataForm t NoForm) = append-nil (source_text names t)
    form_is (DataForm t (MoreForms u us)) = ap (λ (l : List ℕ). source_text names t ++ 91 ∷ l) (both_texts (form_pieces u) (further_pieces us) ∙ ap₂ (λ (a b : List ℕ). a ++ b) (form_is u) (further_is us))

    further_is : (fs : Forms) → pieces_text names (further_pieces fs) ≡ further_text names fs
    further_is NoForm = refl
    further_is (MoreForms f fs) = ap (λ (l : List ℕ). 32 ∷ l) (both_texts (form_pieces f) (further_pieces fs) ∙ ap₂ (λ (a b : List ℕ). a ++ b) (form_is f) (further_is fs))

  long_is : (x : ℕ) (ts : Forms) → source_text names x ++ pieces_text names (types_pieces ts) ≡ long_text names x ts
  long_is x NoForm = append-nil (source_text names x)
  long_is x (MoreForms t ts) = form_is (DataForm x (MoreForms t ts))

  called_long : (c : Copied) (x : ℕ) (ts : Forms) → c.origin.0 ≡ x → c.types.items ≡ types_pieces ts → long_of names c ≡ long_text names x ts
  called_long c x ts origin types =
      ap₂ (λ (y : ℕ) (ps : List TextPiece). source_text names y ++ pieces_text names ps) origin types ∙ long_is x ts

bracketed : (ts : Forms) → IsBracketed (types_pieces ts)
bracketed NoForm = tt
bracketed (MoreForms t ts) = refl

-- names that are listed, and those that are left
pub record Listed (names : List (List ℕ)) (fs : List Form) (count : ℕ) (list : List Copied) (rest all : List Entry) : Type 0 where
  pub short : map (short_of names) list ++ map (short_name names) (map (item_of fs) rest) ≡ map (short_name names) (map (item_of fs) all)
  pub long : map (long_of names) list ++ map (long_name names) (map (item_of fs) rest) ≡ map (long_name names) (map (item_of fs) all)
  pub source : AreOfSource (length names) list
  pub below : AreEntriesBelow count rest
  pub held : AreItemsBelow (length names) (map (item_of fs) rest)

moved : (A B : Type 0) (f : A → List B) (xs : List A) (ys : List (List B)) (x : A) (y : List B) → f x ≡ y → map f xs ++ y ∷ ys ≡ map f (xs ++ x ∷ []) ++ ys
moved A B f [] ys x y e = ap (λ (z : List B). z ∷ ys) (sym e)
moved A B f (a ∷ xs) ys x y e = ap (λ (zs : List (List B)). f a ∷ zs) (moved A B f xs ys x y e)

source_last : (count : ℕ) (list : List Copied) (c : Copied) → AreOfSource count list → (c.origin.0 < count) × IsBracketed c.types.items → AreOfSource count (list ++ c ∷ [])
source_last count [] c h lt = (lt, tt {0})
source_last count (d ∷ list) c h lt = (h.0, source_last count list c h.1 lt)

pub listed_more : (names : List (List ℕ)) (fs : List Form) (count : ℕ) (list next : List Copied) (e : Entry) (rest after all : List Entry) (c : Copied) → Listed names fs count list rest all → rest ≡ e ∷ after → next ≡ list ++ c ∷ [] →
    c.origin.0 ≡ e.name → c.types.items ≡ types_pieces (forms_at fs e.types.items) → Listed names fs count next after all
listed_more names fs count list next e rest after all c l r n origin types =
    let h : Listed names fs count list (e ∷ after) all = subst (λ (x : List Entry). Listed names fs count list x all) r l in
    let new : Listed names fs count (list ++ c ∷ []) after all = record {
      short = sym (moved Copied ℕ (short_of names) list (map (short_name names) (map (item_of fs) after)) c (short_name names (item_of fs e)) (ap (λ (x : ℕ). Rattle.std.specs.Prelude.unwrap_or (slice_get names x) []) origin)) ∙ h.short;
      long = sym (moved Copied ℕ (long_of names) list (map (long_name names) (map (item_of fs) after)) c (long_name names (item_of fs e)) (called_long names c e.name (forms_at fs e.types.items) origin types)) ∙ h.long;
      source = source_last (length names) list c h.source (subst (λ (x : ℕ). x < length names) (sym origin) (h.held 0 (item_of fs e) refl), subst IsBracketed (sym types) (bracketed (forms_at fs e.types.items)));
      below = h.below.1;
      held = λ n i f. h.held (suc n) i f;
    } in
    subst (λ (x : List Copied). Listed names fs count x after all) (sym n) new
