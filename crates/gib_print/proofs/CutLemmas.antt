-- Texts in items.
use Rattle.std.proofs.Common.{◌≡◌, ℕ, ◌+◌, ◌<◌, List, [], ◌∷◌, ◌++◌, length, take, drop, get_or, refl, sym, ap, subst, ◌∙◌, append_assoc, append-nil, Some}
use Rattle.std.specs.Prelude.{Option}
use Rattle.std.proofs.lemmas.List.{drop_more, take-append-drop}
use Rattle.std.proofs.Math.Seq.{drop-length}
use Rattle.gib_types.specs.declared.table.ConId.{ConId}
use Rattle.gib_types.specs.Layout.{LaidOut}
use Rattle.gib_types.specs.Tree.{Datum}
use Rattle.gib_mem.specs.Memory.{Store, Grows}
use Rattle.gib_edge.specs.Views.{SinkView}
use Rattle.gib_value.specs.Text.{text}
use Rattle.gib_packed.specs.Decoding.{Dec}
use Rattle.gib_packed.proofs.Grow.{Dec-grows}
use Rattle.gib_print.specs.Cut.{IsItem, a_first, a_turn, a_part, a_line, Cut, none, more, Comes}
use Rattle.gib_print.specs.Framing.{works, Opened, Turn, printed_text, IsPrintable}
use Rattle.gib_print.specs.Piece.{piece_text}
use Rattle.gib_print.specs.Sending.{Sent}
use Rattle.gib_print.specs.Waiting.{IsPut}
use Rattle.gib_print.specs.Working.{Left}
use Rattle.gib_print.specs.declared.frame.Frame.{Frame}
use Rattle.gib_print.specs.declared.item.Item.{Item}
use Rattle.gib_print.specs.declared.item.Item.TheVariants as i
use Rattle.gib_print.specs.declared.piece.Piece.TheVariants as p
use Rattle.gib_print.specs.declared.turn.Printed.{Printed}
use Rattle.gib_print.proofs.FrameLemmas.{first_left, turn_left, turn_known}
use Rattle.gib_print.proofs.WaitingLemmas.{put_start, put_all_of}
use Rattle.gib_print.proofs.PlanLemmas.{left_nothing}

-- ---- what an item is

pub first_is : {laid : LaidOut} {names : List (List ℕ)} {s : Store} {item : Item} {con : ConId} {bytes : List ℕ} → item ≡ i.First con → IsItem laid names s item bytes → (con.0 < length laid.table.rows) × (bytes ≡ piece_text laid.table names (p.First con))
first_is {laid = laid} {names = names} {s = s} {con = con} {bytes = bytes} e is = go (subst (λ (x : Item). IsItem laid names s x bytes) e is)
  where
    go : {ys : List ℕ} → IsItem laid names s (i.First con) ys → (con.0 < length laid.table.rows) × (ys ≡ piece_text laid.table names (p.First con))
    go (a_first lt) = (lt, refl)

pub turn_is : {laid : LaidOut} {names : List (List ℕ)} {s : Store} {item : Item} {printed : Printed} {bytes : List ℕ} → item ≡ i.Turn printed → IsItem laid names s item bytes → IsPrintable laid.table printed × (bytes ≡ printed_text laid.table names printed)
turn_is {laid = laid} {names = names} {s = s} {printed = printed} {bytes = bytes} e is = go (subst (λ (x : Item). IsItem laid names s x bytes) e is)
  where
    go : {ys : List ℕ} → IsItem laid names s (i.Turn printed) ys → IsPrintable laid.table printed × (ys ≡ printed_text laid.table names printed)
    go (a_turn known) = (known, refl)

pub part_is : {laid : LaidOut} {names : List (List ℕ)} {s : Store} {item : Item} {a : ℕ} {bytes : List ℕ} → item ≡ i.Part a → IsItem laid names s item bytes → (t : ℕ) × (v : Datum) × (z : ℕ) × Dec laid s a t v z × (bytes ≡ 32 ∷ text laid.table names v)
part_is {laid = laid} {names = names} {s = s} {a = a} {bytes = bytes} e is = go (subst (λ (x : Item). IsItem laid names s x bytes) e is)
  where
    go : {ys : List ℕ} → IsItem laid names s (i.Part a) ys → (t : ℕ) × (v : Datum) × (z : ℕ) × Dec laid s a t v z × (ys ≡ 32 ∷ text laid.table names v)
    go (a_part {t = t} {z = z} {v = v} d) = (t, v, z, d, refl)

pub line_is : {laid : LaidOut} {names : List (List ℕ)} {s : Store} {item : Item} {bytes : List ℕ} → item ≡ i.Line → IsItem laid names s item bytes → bytes ≡ 10 ∷ []
line_is {laid = laid} {names = names} {s = s} {bytes = bytes} e is = go (subst (λ (x : Item). IsItem laid names s x bytes) e is)
  where
    go : {ys : List ℕ} → IsItem laid names s i.Line ys → ys ≡ 10 ∷ []
    go a_line = refl

pub comes_turn : {laid : LaidOut} {names : List (List ℕ)} {s : Store} {fs gs : List Frame} {a b : ℕ} {printed : Printed} {rest : List ℕ} → Turn laid s fs a printed gs b → Left laid names s (works laid.table fs) a rest → Comes laid names s (i.Turn printed) gs b rest
comes_turn {laid = laid} {names = names} {printed = printed} t l =
    let r = turn_left t l in
    record { bytes = printed_text laid.table names printed; later = r.later; is = a_turn (turn_known t); left = r.left; whole = r.whole }

-- the same bytes
pub sent_as : {a b : SinkView} {old new xs ys : List ℕ} → ys ≡ xs → Sent a b old new xs → Sent a b old new ys
sent_as {a = a} {b = b} {old = old} {new = new} e sent = subst (λ (x : List ℕ). Sent a b old new x) (sym e) sent

-- ---- items are added

cut_added : {laid : LaidOut} {names : List (List ℕ)} {s : Store} {items : List Item} {xs ys : List ℕ} {item : Item} → Cut laid names s items xs → IsItem laid names s item ys → Cut laid names s (items ++ item ∷ []) (xs ++ ys)
cut_added {laid = laid} {names = names} {s = s} {ys = ys} {item = item} none is = subst (Cut laid names s (item ∷ [])) (append-nil ys) (more is none)
cut_added {laid = laid} {names = names} {s = s} {ys = ys} {item = item} (more {item = first} {items = items} {bytes = x} {rest = xs} j c) is =
    subst (Cut laid names s (first ∷ (items ++ item ∷ []))) (sym (append_assoc x xs ys)) (more j (cut_added c is))

-- a front of the text is cut, and the rest of it is left
pub record Cutting (laid : LaidOut) (names : List (List ℕ)) (s : Store) (items : List Item) (fs : List Frame) (b : ℕ) (all : List ℕ) : Type 0 where
  pub front : List ℕ
  pub rest : List ℕ
  pub done : Cut laid names s items front
  pub left : Left laid names s (works laid.table fs) b rest
  pub whole : front ++ rest ≡ all

pub cutting_start : {laid : LaidOut} {s : Store} {at b t z : ℕ} {v : Datum} {frame : Frame} (names : List (List ℕ)) → Opened laid s at frame b → Dec laid s at t v z → Cutting laid names s (i.First frame.con ∷ []) (frame ∷ []) b (text laid.table names v)
cutting_start {laid = laid} {s = s} {frame = frame} names o d =
    let l = first_left names o d in
    let bytes = piece_text laid.table names (p.First frame.con) in
    record {
      front = bytes;
      rest = l.later;
      done = subst (Cut laid names s (i.First frame.con ∷ [])) (append-nil bytes) (more (a_first o.known) none);
      left = l.left;
      whole = l.whole;
    }

-- the same items and frames, as the code keeps them
pub cutting_at : {laid : LaidOut} {names : List (List ℕ)} {s : Store} {items new : List Item} {fs gs : List Frame} {b : ℕ} {all : List ℕ} → new ≡ items → gs ≡ fs → Cutting laid names s items fs b all → Cutting laid names s new gs b all
cutting_at {laid = laid} {names = names} {s = s} {new = new} {fs = fs} {b = b} {all = all} e f k =
    subst (λ (x : List Frame). Cutting laid names s new x b all) (sym f) (subst (λ (x : List Item). Cutting laid names s x fs b all) (sym e) k)

pub cutting_next : {laid : LaidOut} {names : List (List ℕ)} {s : Store} {items new : List Item} {item : Item} {fs gs : List Frame} {b c : ℕ} {all : List ℕ} → (k : Cutting laid names s items fs b all) → Comes laid names s item gs c k.rest → new ≡ items ++ item ∷ [] → Cutting laid names s new gs c all
cutting_next {laid = laid} {names = names} {s = s} {gs = gs} {c = c} {all = all} k n e = subst (λ (x : List Item). Cutting laid names s x gs c all) (sym e) (record {
  front = k.front ++ n.bytes;
  rest = n.later;
  done = cut_added k.done n.is;
  left = n.left;
  whole = append_assoc k.front n.bytes n.later ∙ ap (λ (x : List ℕ). k.front ++ x) n.whole ∙ k.whole;
})

pub cutting_end : {laid : LaidOut} {names : List (List ℕ)} {s : Store} {items new : List Item} {fs : List Frame} {b : ℕ} {all : List ℕ} → Cutting laid names s items fs b all → fs ≡ [] → new ≡ items ++ i.Line ∷ [] → Cut laid names s new (all ++ 10 ∷ [])
cutting_end {laid = laid} {names = names} {s = s} {items = items} {b = b} {all = all} k over e =
    let nothing = left_nothing (subst (λ (x : List Frame). Left laid names s (works laid.table x) b k.rest) over k.left) in
    let same : k.front ≡ all = sym (append-nil k.front) ∙ ap (λ (x : List ℕ). k.front ++ x) (sym nothing) ∙ k.whole in
    subst (λ (x : List Item). Cut laid names s x (all ++ 10 ∷ [])) (sym e) (subst (λ (x : List ℕ). Cut laid names s (items ++ i.Line ∷ []) (x ++ 10 ∷ [])) same (cut_added k.done a_line))

-- ---- items, one behind another

-- the bytes of the first items were put, or wait to be put, and the others are due
pub record Puts (laid : LaidOut) (names : List (List ℕ)) (s : Store) (due : List Item) (all : List ℕ) (taken : Option (List ℕ)) (waiting : List ℕ) : Type 0 where
  pub front : List ℕ
  pub rest : List ℕ
  pub cut : Cut laid names s due rest
  pub whole : front ++ rest ≡ all
  pub put : IsPut (Some []) taken waiting front

pub puts_start : {laid : LaidOut} {names : List (List ℕ)} {s : Store} {items : List Item} {all taken waiting : List ℕ} → taken ≡ [] → waiting ≡ [] → Cut laid names s items all → Puts laid names s items all (Some taken) waiting
puts_start {all = all} {taken = taken} {waiting = waiting} empty nothing c = record {
  front = [];
  rest = all;
  cut = c;
  whole = refl;
  put = subst (λ (x : List ℕ). IsPut (Some []) (Some x) waiting []) (sym empty) (put_start (Some []) waiting nothing);
}

pub record PutsOne (laid : LaidOut) (names : List (List ℕ)) (s : Store) (item : Item) (due : List Item) (all : List ℕ) (before : SinkView) (old : List ℕ) : Type 0 where
  pub bytes : List ℕ
  pub is : IsItem laid names s item bytes
  pub goes : {now : SinkView} {new : List ℕ} → Sent before now old new bytes → Puts laid names s due all now.taken new

pub puts_next : {laid : LaidOut} {names : List (List ℕ)} {s : Store} {all : List ℕ} {before : SinkView} {old : List ℕ} (items : List Item) (n : ℕ) (d : Item) → n < length items → Puts laid names s (drop n items) all before.taken old
    → PutsOne laid names s (get_or items n d) (drop (n + 1) items) all before old
puts_next {laid = laid} {names = names} {s = s} {all = all} {before = before} {old = old} items n d lt k = go (subst (λ (x : List Item). Cut laid names s x k.rest) (drop_more items n d lt) k.cut) k.whole
  where
    go : {rest : List ℕ} → Cut laid names s (get_or items n d ∷ drop (n + 1) items) rest → k.front ++ rest ≡ all → PutsOne laid names s (get_or items n d) (drop (n + 1) items) all before old
    go (more {bytes = x} {rest = rest} is c) e = record {
      bytes = x;
      is = is;
      goes = λ sent. record { front = k.front ++ x; rest = rest; cut = c; whole = append_assoc k.front x rest ∙ e; put = sent.puts (Some []) k.front k.put };
    }

pub puts_end : {laid : LaidOut} {names : List (List ℕ)} {s : Store} {all : List ℕ} {taken : Option (List ℕ)} {waiting : List ℕ} (items : List Item) (n : ℕ) → n ≡ length items → Puts laid names s (drop n items) all taken waiting → IsPut (Some []) taken waiting all
puts_end {laid = laid} {names = names} {s = s} {all = all} {taken = taken} {waiting = waiting} items n e k = go (subst (λ (x : List Item). Cut laid names s x k.rest) (ap (λ (m : ℕ). drop m items) e ∙ drop-length items) k.cut) k.whole
  where
    go : {rest : List ℕ} → Cut laid names s [] rest → k.front ++ rest ≡ all → IsPut (Some []) taken waiting all
    go none f = subst (IsPut (Some []) taken waiting) (sym (append-nil k.front) ∙ f) k.put

-- all was put from nothing on
pub put_whole : {taken all : List ℕ} → IsPut (Some []) (Some taken) [] all → taken ≡ all
put_whole {taken = taken} {all = all} h = let same : Some taken ≡ Some all = put_all_of (Some []) (Some taken) all h in cc

-- ---- items are dealt, and stay as more is known

IsItem-grows : {laid : LaidOut} {names : List (List ℕ)} {s r : Store} {item : Item} {bytes : List ℕ} → Grows s r → IsItem laid names s item bytes → IsItem laid names r item bytes
IsItem-grows g (a_first lt) = a_first lt
IsItem-grows g (a_turn known) = a_turn known
IsItem-grows g (a_part d) = a_part (Dec-grows g d)
IsItem-grows g a_line = a_line

pub Cut-grows : {laid : LaidOut} {names : List (List ℕ)} {s r : Store} {items : List Item} {bytes : List ℕ} → Grows s r → Cut laid names s items bytes → Cut laid names r items bytes
Cut-grows g none = none
Cut-grows g (more is c) = more (IsItem-grows g is) (Cut-grows g c)

-- the bytes of the first items, and of the others
pub record Halves (laid : LaidOut) (names : List (List ℕ)) (s : Store) (first second : List Item) (all : List ℕ) : Type 0 where
  pub xs : List ℕ
  pub ys : List ℕ
  pub front : Cut laid names s first xs
  pub back : Cut laid names s second ys
  pub whole : xs ++ ys ≡ all

halves : {laid : LaidOut} {names : List (List ℕ)} {s : Store} (first second : List Item) {all : List ℕ} → Cut laid names s (first ++ second) all → Halves laid names s first second all
halves [] second {all = all} c = record { xs = []; ys = all; front = none; back = c; whole = refl }
halves (item ∷ first) second (more {bytes = x} is c) =
    let r = halves first second c in
    record { xs = x ++ r.xs; ys = r.ys; front = more is r.front; back = r.back; whole = append_assoc x r.xs r.ys ∙ ap (λ (b : List ℕ). x ++ b) r.whole }

pub Cut-split : {laid : LaidOut} {names : List (List ℕ)} {s : Store} {all : List ℕ} (n : ℕ) (items : List Item) → Cut laid names s items all → Halves laid names s (take n items) (drop n items) all
Cut-split {laid = laid} {names = names} {s = s} {all = all} n items c = halves (take n items) (drop n items) (subst (λ (x : List Item). Cut laid names s x all) (sym (take-append-drop n items)) c)
