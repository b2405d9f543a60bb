-- Pieces, one after another.
use Rattle.std.proofs.Common.{◌≡◌, ℕ, ◌+◌, ◌<◌, ◌≤◌, List, [], ◌∷◌, ◌++◌, length, drop, get_or, refl, sym, ap, subst, ◌∙◌, arith, append_assoc, append-nil, length-append}
use Rattle.std.proofs.lemmas.List.{drop_more}
use Rattle.std.proofs.Math.Seq.{drop-length}
use Rattle.gib_types.specs.Layout.{LaidOut}
use Rattle.gib_mem.specs.Memory.{Store}
use Rattle.gib_compact.specs.declared.piece.Piece.{Piece}
use Rattle.gib_compact.specs.Cut.{IsPiece, Cut, none, more}

-- The bytes of so many pieces are the front, and the others are left.
pub record Passed (laid : LaidOut) (s : Store) (ps : List Piece) (i : ℕ) (front all : List ℕ) : Type 0 where
  pub rest : List ℕ
  pub due : Cut laid s (drop i ps) rest
  pub whole : front ++ rest ≡ all

pub passed_start : {laid : LaidOut} {s : Store} (ps : List Piece) (all : List ℕ) → Cut laid s ps all → Passed laid s ps 0 [] all
passed_start ps all c = record { rest = all; due = c; whole = refl }

pub record PassesOne (laid : LaidOut) (s : Store) (ps : List Piece) (i : ℕ) (d : Piece) (front all : List ℕ) : Type 0 where
  pub bytes : List ℕ
  pub is : IsPiece laid s (get_or ps i d) bytes
  pub goes : Passed laid s ps (i + 1) (front ++ bytes) all
  pub few : length front + length bytes ≤ length all

pub passes_one : {laid : LaidOut} {s : Store} (ps : List Piece) (i : ℕ) (d : Piece) (front all : List ℕ) → i < length ps → Passed laid s ps i front all → PassesOne laid s ps i d front all
passes_one {laid = laid} {s = s} ps i d front all lt p = go (subst (λ (x : List Piece). Cut laid s x p.rest) (drop_more ps i d lt) p.due) p.whole
  where
    go : {rest : List ℕ} → Cut laid s (get_or ps i d ∷ drop (i + 1) ps) rest → front ++ rest ≡ all → PassesOne laid s ps i d front all
    go (more {bytes = x} {rest = rest} piece c) e = record {
      bytes = x;
      is = piece;
      goes = record { rest = rest; due = c; whole = append_assoc front x rest ∙ e };
      few = omega (arith, length-append front (x ++ rest), length-append x rest, ap length e);
    }

pub passed_all : {laid : LaidOut} {s : Store} {i : ℕ} {front all : List ℕ} (ps : List Piece) → i ≡ length ps → Passed laid s ps i front all → front ≡ all
passed_all {laid = laid} {s = s} {front = front} {all = all} ps e p = go (subst (λ (x : List Piece). Cut laid s x p.rest) (ap (λ (n : ℕ). drop n ps) e ∙ drop-length ps) p.due) p.whole
  where
    go : {rest : List ℕ} → Cut laid s [] rest → front ++ rest ≡ all → front ≡ all
    go none f = sym (append-nil front) ∙ f

-- So many bytes were passed.
pub record PassedCount (laid : LaidOut) (s : Store) (ps : List Piece) (i count : ℕ) (all : List ℕ) : Type 0 where
  pub front : List ℕ
  pub long : length front ≡ count
  pub passed : Passed laid s ps i front all

-- The bytes of so many pieces were written behind what was there.
pub record Wrote (laid : LaidOut) (s : Store) (ps : List Piece) (i : ℕ) (old new all : List ℕ) : Type 0 where
  pub front : List ℕ
  pub is : new ≡ old ++ front
  pub passed : Passed laid s ps i front all

pub wrote_start : {laid : LaidOut} {s : Store} (ps : List Piece) (old all : List ℕ) → Cut laid s ps all → Wrote laid s ps 0 old old all
wrote_start ps old all c = record { front = []; is = sym (append-nil old); passed = passed_start ps all c }
