-- Values in pieces.
use Rattle.std.proofs.Common.{◌≡◌, ℕ, ◌+◌, ◌-◌, ◌<◌, List, [], ◌∷◌, ◌++◌, length, take, drop, get_or, refl, sym, ap, subst, ◌∙◌, arith, append_assoc, append-nil}
use Rattle.std.proofs.lemmas.List.{drop_more, take-append-drop}
use Rattle.std.proofs.Math.Seq.{drop-length}
use Rattle.gib_types.specs.Layout.{LaidOut, head_size, packed_at}
use Rattle.gib_types.specs.Tree.{Datum}
use Rattle.gib_mem.specs.Memory.{Store, Grows, byte}
use Rattle.gib_file.specs.Packed.{tree}
use Rattle.gib_packed.specs.Decoding.{Dec}
use Rattle.gib_packed.specs.Reaching.{Leads}
use Rattle.gib_packed.proofs.HoldsLemmas.{Holds-same, same_byte}
use Rattle.gib_packed.proofs.Grow.{Dec-grows, Holds-grows}
use Rattle.gib_packed.proofs.Unique.{Dec-same}
use Rattle.gib_compact.specs.declared.piece.Piece.{Piece}
use Rattle.gib_compact.specs.declared.piece.Piece.TheVariants as p
use Rattle.gib_compact.specs.declared.walk.Head.{Head}
use Rattle.gib_compact.specs.Left.{Left, over, IsHead}
use Rattle.gib_compact.specs.Cut.{IsPiece, a_head, a_part, Cut, none, more, Adds}
use Rattle.gib_compact.proofs.LeftLemmas.{next_value, left_nothing, head_opens, leads_tag}

-- ---- a cut is of one list of bytes

pub IsPiece-same : {laid : LaidOut} {s : Store} {piece : Piece} {xs ys : List ℕ} → IsPiece laid s piece xs → IsPiece laid s piece ys → xs ≡ ys
IsPiece-same (a_head {h = h} i) (a_head j) = ap (λ (x : List ℕ). h.con.0 ∷ x) (Holds-same i.holds j.holds (i.long ∙ sym j.long))
IsPiece-same (a_part d) (a_part e) = ap tree (Dec-same d e).value

pub Cut-same : {laid : LaidOut} {s : Store} {ps : List Piece} {xs ys : List ℕ} → Cut laid s ps xs → Cut laid s ps ys → xs ≡ ys
Cut-same none none = refl
Cut-same (more {bytes = x} {rest = xs} i c) (more {bytes = y} {rest = ys} j d) = ap (λ (b : List ℕ). b ++ xs) (IsPiece-same i j) ∙ ap (λ (b : List ℕ). y ++ b) (Cut-same c d)

pub Cut-append : {laid : LaidOut} {s : Store} {ps qs : List Piece} {xs ys : List ℕ} → Cut laid s ps xs → Cut laid s qs ys → Cut laid s (ps ++ qs) (xs ++ ys)
Cut-append none d = d
Cut-append {laid = laid} {s = s} {ys = ys} (more {piece = piece} {pieces = ps} {bytes = x} {rest = xs} i c) d = subst (Cut laid s _) (sym (append_assoc x xs ys)) (more i (Cut-append c d))

-- the bytes of the first pieces, and of the others
pub record Halves (laid : LaidOut) (s : Store) (ps qs : List Piece) (all : List ℕ) : Type 0 where
  pub xs : List ℕ
  pub ys : List ℕ
  pub first : Cut laid s ps xs
  pub second : Cut laid s qs ys
  pub whole : xs ++ ys ≡ all

pub Cut-halves : {laid : LaidOut} {s : Store} (ps qs : List Piece) {all : List ℕ} → Cut laid s (ps ++ qs) all → Halves laid s ps qs all
Cut-halves [] qs {all = all} c = record { xs = []; ys = all; first = none; second = c; whole = refl }
Cut-halves (piece ∷ ps) qs (more {bytes = x} i c) =
    let r = Cut-halves ps qs c in
    record { xs = x ++ r.xs; ys = r.ys; first = more i r.first; second = r.second; whole = append_assoc x r.xs r.ys ∙ ap (λ (b : List ℕ). x ++ b) r.whole }

-- ---- pieces that are added

pub adds_none : {laid : LaidOut} {s : Store} (old : List Piece) → Adds laid s old old []
adds_none old = record { added = []; cut = none; is = sym (append-nil old) }

pub adds_one : {laid : LaidOut} {s : Store} (old new : List Piece) (piece : Piece) (bytes : List ℕ) → IsPiece laid s piece bytes → new ≡ old ++ piece ∷ [] → Adds laid s old new bytes
adds_one {laid = laid} {s = s} old new piece bytes i e = record { added = piece ∷ []; cut = subst (Cut laid s (piece ∷ [])) (append-nil bytes) (more i none); is = e }

pub adds_more : {laid : LaidOut} {s : Store} {old mid new : List Piece} {xs ys : List ℕ} → Adds laid s old mid xs → Adds laid s mid new ys → Adds laid s old new (xs ++ ys)
adds_more {old = old} {xs = xs} {ys = ys} a b = record {
  added = a.added ++ b.added;
  cut = Cut-append a.cut b.cut;
  is = b.is ∙ ap (λ (x : List Piece). x ++ b.added) a.is ∙ append_assoc old a.added b.added;
}

-- ---- the fields of a head

-- Some of them were added, and so many are left.
pub record Adding (laid : LaidOut) (s : Store) (at left : ℕ) (old new : List Piece) (all : List ℕ) : Type 0 where
  pub front : List ℕ
  pub rest : List ℕ
  pub adds : Adds laid s old new front
  pub due : Left laid s at left [] rest
  pub whole : front ++ rest ≡ all

pub adding_start : {laid : LaidOut} {s : Store} (at left : ℕ) (old : List Piece) (all : List ℕ) → Left laid s at left [] all → Adding laid s at left old old all
adding_start at left old all l = record { front = []; rest = all; adds = adds_none old; due = l; whole = refl }

pub record AddsOne (laid : LaidOut) (s : Store) (at left : ℕ) (old now : List Piece) (all : List ℕ) : Type 0 where
  pub t : ℕ
  pub v : Datum
  pub end : ℕ
  pub rest : List ℕ
  pub stands : Dec laid s at t v end
  pub due : Left laid s end (left - 1) [] rest
  pub goes : (place : ℕ) (new : List Piece) → new ≡ now ++ p.Part at ∷ [] → Left laid s place (left - 1) [] rest → Adding laid s place (left - 1) old new all

pub adding_next : {laid : LaidOut} {s : Store} {at left : ℕ} {old now : List Piece} {all : List ℕ} → 0 < left → Adding laid s at left old now all → AddsOne laid s at left old now all
adding_next {at = at} {old = old} {now = now} some a =
    let r = next_value some a.due in
    record {
      t = r.t;
      v = r.v;
      end = r.end;
      rest = r.later;
      stands = r.stands;
      due = r.left;
      goes = λ place new e l. record {
        front = a.front ++ tree r.v;
        rest = r.later;
        adds = adds_more a.adds (adds_one now new (p.Part at) (tree r.v) (a_part r.stands) e);
        due = l;
        whole = append_assoc a.front (tree r.v) r.later ∙ ap (λ (b : List ℕ). a.front ++ b) (sym r.whole) ∙ a.whole;
      };
    }

pub adding_end : {laid : LaidOut} {s : Store} {at : ℕ} {old new : List Piece} {all : List ℕ} → Adding laid s at 0 old new all → Adds laid s old new all
adding_end {laid = laid} {s = s} {old = old} {new = new} a = subst (Adds laid s old new) (sym (append-nil a.front) ∙ ap (λ (b : List ℕ). a.front ++ b) (sym (left_nothing a.due)) ∙ a.whole) a.adds

pub adding_over : {laid : LaidOut} {s : Store} {at left : ℕ} {old new : List Piece} {all : List ℕ} → left ≡ 0 → Adding laid s at left old new all → Adds laid s old new all
adding_over {laid = laid} {s = s} {at = at} {old = old} {new = new} {all = all} e a = adding_end (subst (λ (x : ℕ). Adding laid s at x old new all) e a)

-- ---- a value as its head and its fields

pub record HeadCut (laid : LaidOut) (s : Store) (h k : ℕ) (v : Datum) : Type 0 where
  pub scalars : List ℕ
  pub later : List ℕ
  pub is : IsHead laid s h k scalars
  pub due : Left laid s (h + head_size laid k) (packed_at laid k) [] later
  pub whole : k ∷ (scalars ++ later) ≡ tree v

pub head_cut : {laid : LaidOut} {s : Store} {a h t z : ℕ} {v : Datum} (k : ℕ) → Leads s a h → Dec laid s h t v z → s h ≡ byte k → HeadCut laid s h k v
head_cut {laid = laid} {s = s} {h = h} {v = v} k leads d tag =
    let other = leads_tag leads in
    let e = same_byte s h other.0 k other.1 tag in
    let o = head_opens {n = 0} {bs = []} {rest = []} k d tag (omega (arith, e, other.2)) over in
    let n : packed_at laid k + 0 ≡ packed_at laid k = omega arith in
    record {
      scalars = o.scalars;
      later = o.later;
      is = o.is;
      due = subst (λ (x : ℕ). Left laid s (h + head_size laid k) x [] o.later) n o.left;
      whole = sym o.whole ∙ append-nil (tree v);
    }

-- the head was added, and then its fields
pub adds_head : {laid : LaidOut} {s : Store} (old mid : List Piece) {new : List Piece} (head : Head) {v : Datum} → (c : HeadCut laid s head.at head.con.0 v) → mid ≡ old ++ p.Head head ∷ [] → Adds laid s mid new c.later → Adds laid s old new (tree v)
adds_head {laid = laid} {s = s} old mid {new = new} head c e a =
    subst (Adds laid s old new) c.whole (adds_more (adds_one old mid (p.Head head) (head.con.0 ∷ c.scalars) (a_head c.is) e) a)

-- ---- pieces that are opened

-- So many were opened, and the others are left.
pub record Refined (laid : LaidOut) (s : Store) (out left : List Piece) (all : List ℕ) : Type 0 where
  pub front : List ℕ
  pub rest : List ℕ
  pub done : Cut laid s out front
  pub due : Cut laid s left rest
  pub whole : front ++ rest ≡ all

pub refined_start : {laid : LaidOut} {s : Store} (left : List Piece) (all : List ℕ) → Cut laid s left all → Refined laid s [] left all
refined_start left all c = record { front = []; rest = all; done = none; due = c; whole = refl }

pub record RefinesOne (laid : LaidOut) (s : Store) (out : List Piece) (piece : Piece) (left : List Piece) (all : List ℕ) : Type 0 where
  pub bytes : List ℕ
  pub is : IsPiece laid s piece bytes
  pub goes : (new : List Piece) → Adds laid s out new bytes → Refined laid s new left all

pub refined_next : {laid : LaidOut} {s : Store} {out left : List Piece} {piece : Piece} {all : List ℕ} → Refined laid s out (piece ∷ left) all → RefinesOne laid s out piece left all
refined_next {laid = laid} {s = s} {out = out} {left = left} {piece = piece} {all = all} r = go r.due r.whole
  where
    go : {rest : List ℕ} → Cut laid s (piece ∷ left) rest → r.front ++ rest ≡ all → RefinesOne laid s out piece left all
    go (more {bytes = x} {rest = rest} i c) e = record {
      bytes = x;
      is = i;
      goes = λ new a. record {
        front = r.front ++ x;
        rest = rest;
        done = subst (λ (l : List Piece). Cut laid s l (r.front ++ x)) (sym a.is) (Cut-append r.done a.cut);
        due = c;
        whole = append_assoc r.front x rest ∙ e;
      };
    }

pub refined_end : {laid : LaidOut} {s : Store} {out left : List Piece} {all : List ℕ} → left ≡ [] → Refined laid s out left all → Cut laid s out all
refined_end {laid = laid} {s = s} {out = out} {all = all} e r = go (subst (λ (l : List Piece). Cut laid s l r.rest) e r.due) r.whole
  where
    go : {rest : List ℕ} → Cut laid s [] rest → r.front ++ rest ≡ all → Cut laid s out all
    go none f = subst (Cut laid s out) (sym (append-nil r.front) ∙ f) r.done

-- a value is one part
pub one_part : {laid : LaidOut} {s : Store} {a t z : ℕ} {v : Datum} → Dec laid s a t v z → Cut laid s (p.Part a ∷ []) (tree v)
one_part {laid = laid} {s = s} {a = a} {v = v} d = subst (Cut laid s (p.Part a ∷ [])) (append-nil (tree v)) (more (a_part d) none)

pub part_stands : {laid : LaidOut} {s : Store} {piece : Piece} {a : ℕ} {bytes : List ℕ} → piece ≡ p.Part a → IsPiece laid s piece bytes → (t : ℕ) × (v : Datum) × (z : ℕ) × Dec laid s a t v z × (bytes ≡ tree v)
part_stands {laid = laid} {s = s} {a = a} {bytes = bytes} e i = go (subst (λ (x : Piece). IsPiece laid s x bytes) e i)
  where
    go : {ys : List ℕ} → IsPiece laid s (p.Part a) ys → (t : ℕ) × (v : Datum) × (z : ℕ) × Dec laid s a t v z × (ys ≡ tree v)
    go (a_part {t = t} {z = z} {v = v} d) = (t, v, z, d, refl)

pub head_stands : {laid : LaidOut} {s : Store} {piece : Piece} {h : Head} {bytes : List ℕ} → piece ≡ p.Head h → IsPiece laid s piece bytes → (scalars : List ℕ) × IsHead laid s h.at h.con.0 scalars × (bytes ≡ h.con.0 ∷ scalars)
head_stands {laid = laid} {s = s} {h = h} {bytes = bytes} e i = go (subst (λ (x : Piece). IsPiece laid s x bytes) e i)
  where
    go : {ys : List ℕ} → IsPiece laid s (p.Head h) ys → (scalars : List ℕ) × IsHead laid s h.at h.con.0 scalars × (ys ≡ h.con.0 ∷ scalars)
    go (a_head {scalars = scalars} i) = (scalars, i, refl)

-- the piece with a number
pub refined_at : {laid : LaidOut} {s : Store} {out : List Piece} {all : List ℕ} (ps : List Piece) (i : ℕ) (d : Piece) → i < length ps → Refined laid s out (drop i ps) all → RefinesOne laid s out (get_or ps i d) (drop (i + 1) ps) all
refined_at {laid = laid} {s = s} {out = out} {all = all} ps i d lt r = refined_next (subst (λ (x : List Piece). Refined laid s out x all) (drop_more ps i d lt) r)

pub refined_over : {laid : LaidOut} {s : Store} {out : List Piece} {all : List ℕ} (ps : List Piece) (i : ℕ) → i ≡ length ps → Refined laid s out (drop i ps) all → Cut laid s out all
refined_over ps i e r = refined_end (ap (λ (n : ℕ). drop n ps) e ∙ drop-length ps) r

-- ---- a cut stays as more is known

pub IsPiece-grows : {laid : LaidOut} {s r : Store} {piece : Piece} {bytes : List ℕ} → Grows s r → IsPiece laid s piece bytes → IsPiece laid r piece bytes
IsPiece-grows g (a_head {h = h} i) = a_head (record { tag = g.kept h.at h.con.0 i.tag; small = i.small; known = i.known; holds = Holds-grows g i.holds; long = i.long; small_bytes = i.small_bytes })
IsPiece-grows g (a_part d) = a_part (Dec-grows g d)

pub Cut-grows : {laid : LaidOut} {s r : Store} {ps : List Piece} {bytes : List ℕ} → Grows s r → Cut laid s ps bytes → Cut laid r ps bytes
Cut-grows g none = none
Cut-grows g (more i c) = more (IsPiece-grows g i) (Cut-grows g c)

pub Cut-split : {laid : LaidOut} {s : Store} {all : List ℕ} (n : ℕ) (ps : List Piece) → Cut laid s ps all → Halves laid s (take n ps) (drop n ps) all
Cut-split {laid = laid} {s = s} {all = all} n ps c = Cut-halves (take n ps) (drop n ps) (subst (λ (x : List Piece). Cut laid s x all) (sym (take-append-drop n ps)) c)
