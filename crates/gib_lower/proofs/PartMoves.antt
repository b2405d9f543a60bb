-- What moves several parts, and how many variables they are.
use Rattle.std.proofs.Common.{◌≡◌, ℕ, zero, suc, ◌+◌, ◌<◌, Bool, true, false, List, [], ◌∷◌, ◌++◌, length, map, drop, Some, None, slice_get, refl, sym, ap, ◌∙◌, arith}
use Rattle.std.proofs.Math.Bool.{beq}
use Rattle.std.proofs.lemmas.List.{append_assoc, append-nil, drop_more}
use Rattle.gib_types.specs.declared.table.Ty.{Ty}
use Rattle.gib_types.specs.declared.table.Ty.TheVariants as ty
use Rattle.gib_types.specs.Table.{at_fields, is_scalar, numbers_from}
use Rattle.gib_code.specs.declared.instruction.Operand.{Operand}
use Rattle.gib_code.specs.Instruction as i
use Rattle.gib_code.specs.Instruction.{Instruction}
use Rattle.gib_core.specs.declared.atom.Variable.{Variable}
use Rattle.gib_core.specs.declared.node.TermId.{TermId}
use Rattle.gib_core.specs.Tree.{Term, Tuple, CoreTree, parts_count, variables_from}
use Rattle.gib_core.specs.Arena.{parts_from}
use Rattle.gib_core.specs.Ending.{Within}
use Rattle.gib_core.specs.declared.atom.Atom.{Atom}
use Rattle.gib_core.specs.Low.{Field, End, Over, ending, call_ending, operands, moves, giving_parts, takes_parts, done_all}
use Rattle.gib_lower.specs.Ends.{end_of, part_slots}
use Rattle.gib_lower.specs.declared.ending.Ending.{Ending as Kept}
use Rattle.gib_lower.specs.declared.ending.Ending.TheVariants as k
use Rattle.gib_lower.specs.Lowering.{lowered, lowered_parts}

-- The slots of the scalar variables, or of the packed ones, of these types from a slot on.
abbrev pub slots_from : Bool → ℕ → List Ty → List ℕ
slots_from scalars n ts = map (λ (x : Variable). x.0) (at_fields scalars ts (variables_from n ts))

taken : (scalars : Bool) (n : ℕ) (t : Ty) (ts : List Ty) → beq (is_scalar t) scalars ≡ true → slots_from scalars n (t ∷ ts) ≡ n ∷ slots_from scalars (n + 1) ts
taken true n ty.Whole ts e = refl
taken true n ty.Truth ts e = refl
taken true n (ty.Tree k) ts e = absurd cc
taken false n ty.Whole ts e = absurd cc
taken false n ty.Truth ts e = absurd cc
taken false n (ty.Tree k) ts e = refl

passed : (scalars : Bool) (n : ℕ) (t : Ty) (ts : List Ty) → beq (is_scalar t) scalars ≡ false → slots_from scalars n (t ∷ ts) ≡ slots_from scalars (n + 1) ts
passed true n ty.Whole ts h = absurd cc
passed true n ty.Truth ts h = absurd cc
passed true n (ty.Tree k) ts h = refl
passed false n ty.Whole ts h = refl
passed false n ty.Truth ts h = refl
passed false n (ty.Tree k) ts h = absurd cc

there : (ts : List Ty) (k : ℕ) (t : Ty) → slice_get ts k ≡ Some t → drop k ts ≡ t ∷ drop (suc k) ts
there [] k t e = absurd cc
there (u ∷ ts) zero t e = let f : u ≡ t = (let g = e in cc) in ap (λ z. z ∷ ts) f
there (u ∷ ts) (suc k) t e = there ts k t e

past : (ts : List Ty) (k : ℕ) → slice_get ts k ≡ None → drop k ts ≡ []
past [] zero e = refl
past [] (suc k) e = refl
past (u ∷ ts) zero e = absurd cc
past (u ∷ ts) (suc k) e = past ts k e

-- One more type.
pub slot_taken : (scalars : Bool) (ts : List Ty) (t : Ty) (k next n m : ℕ) (old new all : List ℕ) → slice_get ts k ≡ Some t → beq (is_scalar t) scalars ≡ true → next ≡ k + 1 → m ≡ n + 1
    → new ≡ old ++ n ∷ [] → old ++ slots_from scalars n (drop k ts) ≡ all → new ++ slots_from scalars m (drop next ts) ≡ all
slot_taken scalars ts t k next n m old new all at is e f g h =
    let a : next ≡ suc k = omega (arith, e) in
    let rest = slots_from scalars (n + 1) (drop (suc k) ts) in
    ap (λ l. l ++ slots_from scalars m (drop next ts)) g
    ∙ ap (λ q. (old ++ n ∷ []) ++ slots_from scalars m (drop q ts)) a
    ∙ ap (λ q. (old ++ n ∷ []) ++ slots_from scalars q (drop (suc k) ts)) f
    ∙ append_assoc old (n ∷ []) rest
    ∙ ap (λ l. old ++ l) (sym (ap (slots_from scalars n) (there ts k t at) ∙ taken scalars n t (drop (suc k) ts) is))
    ∙ h

pub slot_passed : (scalars : Bool) (ts : List Ty) (t : Ty) (k next n m : ℕ) (old all : List ℕ) → slice_get ts k ≡ Some t → beq (is_scalar t) scalars ≡ false → next ≡ k + 1 → m ≡ n + 1
    → old ++ slots_from scalars n (drop k ts) ≡ all → old ++ slots_from scalars m (drop next ts) ≡ all
slot_passed scalars ts t k next n m old all at is e f h =
    let a : next ≡ suc k = omega (arith, e) in
    ap (λ q. old ++ slots_from scalars m (drop q ts)) a
    ∙ ap (λ q. old ++ slots_from scalars q (drop (suc k) ts)) f
    ∙ ap (λ l. old ++ l) (sym (ap (slots_from scalars n) (there ts k t at) ∙ passed scalars n t (drop (suc k) ts) is))
    ∙ h

pub slots_end : (scalars : Bool) (ts : List Ty) (k n : ℕ) (now all : List ℕ) → slice_get ts k ≡ None → now ++ slots_from scalars n (drop k ts) ≡ all → now ≡ all
slots_end scalars ts k n now all e h = sym (append-nil now) ∙ ap (λ l. now ++ slots_from scalars n l) (sym (past ts k e)) ∙ h

-- Scalar parts are moved, or taken behind a call, before the last instruction.
pub moved_before : (ds slots : List ℕ) (ss : List Operand) (x : Instruction) (old mid new moved : List Instruction) → mid ≡ x ∷ old → slots ≡ ds → moved ≡ moves slots ss → new ≡ moved ++ mid → new ≡ (moves ds ss ++ x ∷ []) ++ old
moved_before ds slots ss x old mid new moved e d f g =
    g ∙ ap (λ l. l ++ mid) f ∙ ap (λ l. moves l ss ++ mid) d ∙ ap (λ l. moves ds ss ++ l) e ∙ sym (append_assoc (moves ds ss) (x ∷ []) old)

pub taken_before : (kept : Kept) (os : List Over) (slots : List ℕ) (old mid new took : List Instruction) → mid ≡ ending (end_of kept os) ++ old → slots ≡ part_slots kept → took ≡ takes_parts 0 slots
    → new ≡ took ++ mid → new ≡ call_ending (end_of kept os) ++ old
taken_before kept os slots old mid new took e d f g =
    g ∙ ap (λ l. l ++ mid) (f ∙ ap (takes_parts 0) d) ∙ ap (λ l. takes_parts 0 (part_slots kept) ++ l) e ∙ by_end kept
  where
    by_end : (what : Kept) → takes_parts 0 (part_slots what) ++ (ending (end_of what os) ++ old) ≡ call_ending (end_of what os) ++ old
    by_end k.Returns = refl
    by_end (k.To l s) = refl
    by_end (k.ToParts l x tys) = sym (append_assoc (takes_parts 0 (part_slots (k.ToParts l x tys))) (i.Jump l ∷ []) old)

-- One more region is finished, in front of what is there.
pub done_next : (xs : List ℕ) (k : ℕ) (old new all : List Instruction) → k < length xs → done_all (drop k xs) ++ old ≡ all → new ≡ i.Done ∷ old → done_all (drop (k + 1) xs) ++ new ≡ all
done_next xs k old new all lt h e =
    let rest = drop (k + 1) xs in
    ap (λ l. done_all rest ++ l) e ∙ done_behind rest old ∙ sym (ap (λ l. done_all l ++ old) (drop_more xs k 0 lt)) ∙ h
  where
    done_behind : (ys : List ℕ) (l : List Instruction) → done_all ys ++ i.Done ∷ l ≡ i.Done ∷ (done_all ys ++ l)
    done_behind [] l = refl
    done_behind (y ∷ ys) l = ap (λ m. i.Done ∷ m) (done_behind ys l)

-- As many parts as there are numbers.
parts_long : (f : ℕ → Term) (ts : List TermId) → parts_count (parts_from f ts) ≡ length ts
parts_long f [] = refl
parts_long f (t ∷ ts) = ap suc (parts_long f ts)

-- The code of a tuple, whose parts were numbers.
pub tuple_code : (core : CoreTree) (w : Within) (fs : List Field) (f : ℕ → Term) (tys : List Ty) (scalars ss : List Atom) (parts ps : List TermId) (e : End) (old given : List Instruction) (t : Term) → t ≡ Tuple tys ss (parts_from f ps)
    → scalars ≡ ss → parts ≡ ps → given ≡ giving_parts (operands scalars) e ++ old → lowered_parts core w fs 0 (length parts) (parts_from f parts) given ≡ lowered core w fs t e old
tuple_code core w fs f tys scalars ss parts ps e old given t is same_scalars same_parts gives =
    ap (λ (l : List TermId). lowered_parts core w fs 0 (length l) (parts_from f l) given) same_parts
    ∙ ap (λ n. lowered_parts core w fs 0 n (parts_from f ps) given) (sym (parts_long f ps))
    ∙ ap (λ l. lowered_parts core w fs 0 (parts_count (parts_from f ps)) (parts_from f ps) l) (gives ∙ ap (λ (l : List Atom). giving_parts (operands l) e ++ old) same_scalars)
    ∙ sym (ap (λ (u : Term). lowered core w fs u e old) is)

-- As many variables as types.
pub variables_long : (n : ℕ) (ts : List Ty) (bs : List ℕ) → length (map (λ (x : Variable). x.0) (variables_from n ts) ++ bs) ≡ length ts + length bs
variables_long n [] bs = omega arith
variables_long n (t ∷ ts) bs = let h = variables_long (n + 1) ts bs in omega (arith, h)

-- The slots of variables one behind another.
pub slots_numbered : (n : ℕ) (ts : List Ty) (k : ℕ) → k ≡ length ts → numbers_from n k ≡ map (λ (x : Variable). x.0) (variables_from n ts)
slots_numbered n [] k e = ap (numbers_from n) e
slots_numbered n (t ∷ ts) k e =
    let s : suc n ≡ n + 1 = omega arith in
    ap (numbers_from n) e ∙ ap (λ l. n ∷ l) (ap (λ m. numbers_from m (length ts)) s ∙ slots_numbered (n + 1) ts (length ts) refl)
