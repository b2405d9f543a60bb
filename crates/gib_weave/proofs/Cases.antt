-- A tree is looked at, and its fields are bound.
use Rattle.std.proofs.Common.{◌≡◌, ℕ, ◌+◌, ◌<◌, ◌≤◌, ◌^◌, ◌%◌, Bool, true, ◌||◌, cond, List, [], ◌∷◌, ◌++◌, length, Option, Some, None, refl, sym, ap, subst, ◌∙◌, arith}
use Rattle.std.specs.Int.{w64, cast_unsigned}
use Rattle.std.proofs.Math.Facts.{Fits-of_z, Fits-lt-pow}
use Rattle.std.proofs.lemmas.Bool.{true≢false, or_left, or_right}
use Rattle.gib_types.specs.declared.table.Ty.{Ty}
use Rattle.gib_types.specs.declared.table.Ty.TheVariants.{Whole, Truth, Tree}
use Rattle.gib_types.specs.Table.{fields_at}
use Rattle.gib_types.specs.Layout.{LaidOut, is_among, head_size, packed_count}
use Rattle.gib_types.specs.Tree.{Datum, whole, truth, con, Data, more, list_of}
use Rattle.gib_types.specs.Tree as tree
use Rattle.gib_syntax.specs.Meaning.{Environment, value_in, Outcome, choose}
use Rattle.gib_mem.specs.Memory.{Store, byte, Holds}
use Rattle.gib_packed.specs.Scalars.{bit, scalars, number}
use Rattle.gib_packed.specs.Head.{address, addresses, offset_bytes}
use Rattle.gib_packed.specs.Decoding as d
use Rattle.gib_packed.specs.Decoding.{Dec, Decs}
use Rattle.gib_packed.proofs.HeadLemmas.{Dec-no_scalar}
use Rattle.gib_core.specs.declared.atom.Variable.{Variable}
use Rattle.gib_core.specs.Tree.{Term, Branches, CoreTree}
use Rattle.gib_core.specs.Meaning.{bind, core_calls, mean_branches}
use Rattle.gib_code.specs.declared.instruction.Arm.{Arm}
use Rattle.gib_code.specs.Instruction.{Instruction}
use Rattle.gib_code.specs.Instruction as i
use Rattle.gib_code.specs.Program.{CodeTree, AreAt, none, one_more}
use Rattle.gib_core.specs.Low.{arm_end, LeafAt, Low, LowArms, no_arm, arm, End, laid_of, field_of, Field as StoredField, further_fields, with_fields, scalar_reads, first_reach, arm_opening}
use Rattle.gib_machine.specs.State.{end_at, Slots, slot, set, Frame, Open as OpenRegion, State}
use Rattle.gib_machine.specs.Machine.{label_of}
use Rattle.gib_weave.specs.EndWords.{WithEnd, both, EndWord}
use Rattle.gib_core.specs.Cost.{Cost, cost_branches, call_costs, choose_cost}
use Rattle.gib_core.specs.Ending.{Within, last_packed}
use Rattle.gib_core.specs.Fits.{Needs, Line as FitsLine, arm_line, put, Sort, Absent, Scalar, Held, Placed, AtHead, Field, Scope, is_there, Dest, Fits, BranchesFit, cased, branches_cased, has_branch, AreNew, arm_scope}
use Rattle.gib_weave.specs.Environment.{Ctx}
use Rattle.gib_weave.specs.Continuing.{Kont, nest, branches_nest, Agrees}
use Rattle.gib_weave.specs.Owing.{costs, Owed, means}
use Rattle.gib_weave.specs.Paying.{Share}
use Rattle.gib_weave.specs.Places.{Owned}
use Rattle.gib_weave.specs.Sound.{Safe, moves}
use Rattle.gib_weave.proofs.Basics.{by_test, put-same, put-other, set-same, set-other, set-length, end-other, ends-length, both-same}
use Rattle.gib_weave.proofs.Move.{Keeps, keeps_var, with_var, bound-same}
use Rattle.gib_weave.proofs.Sorts.{agrees_put}
use Rattle.gib_weave.proofs.Readings.{get_one}
use Rattle.gib_weave.proofs.Numbers.{reads_number}
use Rattle.gib_weave.proofs.Ends.{first_at, rest_at, held_end, at_rest, step_is, silently}
use Rattle.gib_weave.proofs.Arms.{Line, line_var}
use Rattle.gib_packed.proofs.StoredLemmas.{Holds-front, Holds-behind}
use Rattle.gib_packed.proofs.HoldsLemmas.{Holds-rest, Holds-first}

-- Bytes one list behind another.

-- Code in two parts.
pub record Parts (code : CodeTree) (a : ℕ) (is js : List Instruction) (z : ℕ) : Type 0 where
  pub middle : ℕ
  pub left : AreAt code a is middle
  pub right : AreAt code middle js z

pub parts : {code : CodeTree} (a : ℕ) (is js : List Instruction) (z : ℕ) → AreAt code a (is ++ js) z → Parts code a is js z
parts a [] js z h = record { middle = a; left = none; right = h }
parts a (i ∷ is) js z (one_more e h) = let p = parts (a + 1) is js z h in record { middle = p.middle; left = one_more e p.left; right = p.right }

-- The slots of fields.

abbrev pub word_of : Datum → ℕ
word_of (whole z) = cast_unsigned w64 z
word_of (truth b) = bit b
word_of (con k vs) = 0

abbrev pub scalar_slots : List Ty → List Variable → Data → Slots → Slots
scalar_slots [] ys vs sl = sl
scalar_slots (ty ∷ ts) [] vs sl = sl
scalar_slots (ty ∷ ts) (y ∷ ys) tree.none sl = sl
scalar_slots (Whole ∷ ts) (y ∷ ys) (more v vs) sl = scalar_slots ts ys vs (set sl y.0 (word_of v))
scalar_slots (Truth ∷ ts) (y ∷ ys) (more v vs) sl = scalar_slots ts ys vs (set sl y.0 (word_of v))
scalar_slots (Tree t ∷ ts) (y ∷ ys) (more v vs) sl = scalar_slots ts ys vs sl

abbrev pub first_slots : ℕ → List Ty → List Variable → Slots → Slots
first_slots w [] ys sl = sl
first_slots w (ty ∷ ts) [] sl = sl
first_slots w (Whole ∷ ts) (y ∷ ys) sl = first_slots w ts ys sl
first_slots w (Truth ∷ ts) (y ∷ ys) sl = first_slots w ts ys sl
first_slots w (Tree t ∷ ts) (y ∷ ys) sl = set sl y.0 w

-- a bound variable is none of these
next_bound : (sc : Scope) (y q : ℕ) → (sc q ≡ Absent → ⊥) → put sc y Held q ≡ Absent → ⊥
next_bound sc y q n = by_test q y (λ b. cond b Held (sc q) ≡ Absent → ⊥) (λ e h. absurd cc) (λ e h. n h)

not_this : (sc : Scope) (y q : ℕ) → sc y ≡ Absent → (sc q ≡ Absent → ⊥) → q ≡ y → ⊥
not_this sc y q a n e = n (ap sc e ∙ a)

held_now : (sc : Scope) (y : ℕ) → put sc y Held y ≡ Absent → ⊥
held_now sc y h = no (sym (put-same sc y Held) ∙ h)
  where
    no : Held ≡ Absent → ⊥
    no e = absurd cc

pub scalar_kept : (sc : Scope) (ts : List Ty) (ys : List Variable) (vs : Data) (sl : Slots) (q : ℕ) → AreNew sc ts ys → (sc q ≡ Absent → ⊥) → slot (scalar_slots ts ys vs sl) q ≡ slot sl q
scalar_kept sc [] ys vs sl q n nb = refl
scalar_kept sc (ty ∷ ts) [] vs sl q n nb = refl
scalar_kept sc (ty ∷ ts) (y ∷ ys) tree.none sl q n nb = refl
scalar_kept sc (Whole ∷ ts) (y ∷ ys) (more v vs) sl q n nb = scalar_kept (put sc y.0 Held) ts ys vs (set sl y.0 (word_of v)) q n.1 (next_bound sc y.0 q nb) ∙ set-other sl y.0 q (word_of v) (not_this sc y.0 q n.0 nb)
scalar_kept sc (Truth ∷ ts) (y ∷ ys) (more v vs) sl q n nb = scalar_kept (put sc y.0 Held) ts ys vs (set sl y.0 (word_of v)) q n.1 (next_bound sc y.0 q nb) ∙ set-other sl y.0 q (word_of v) (not_this sc y.0 q n.0 nb)
scalar_kept sc (Tree t ∷ ts) (y ∷ ys) (more v vs) sl q n nb = scalar_kept (put sc y.0 Held) ts ys vs sl q n.1 (next_bound sc y.0 q nb)

pub scalar_ends : (sc : Scope) (ts : List Ty) (ys : List Variable) (vs : Data) (sl : Slots) (q : ℕ) → AreNew sc ts ys → (sc q ≡ Absent → ⊥) → end_at (scalar_slots ts ys vs sl) q ≡ end_at sl q
scalar_ends sc [] ys vs sl q n nb = refl
scalar_ends sc (ty ∷ ts) [] vs sl q n nb = refl
scalar_ends sc (ty ∷ ts) (y ∷ ys) tree.none sl q n nb = refl
scalar_ends sc (Whole ∷ ts) (y ∷ ys) (more v vs) sl q n nb = scalar_ends (put sc y.0 Held) ts ys vs (set sl y.0 (word_of v)) q n.1 (next_bound sc y.0 q nb) ∙ end-other sl y.0 q (word_of v) 0 (not_this sc y.0 q n.0 nb)
scalar_ends sc (Truth ∷ ts) (y ∷ ys) (more v vs) sl q n nb = scalar_ends (put sc y.0 Held) ts ys vs (set sl y.0 (word_of v)) q n.1 (next_bound sc y.0 q nb) ∙ end-other sl y.0 q (word_of v) 0 (not_this sc y.0 q n.0 nb)
scalar_ends sc (Tree t ∷ ts) (y ∷ ys) (more v vs) sl q n nb = scalar_ends (put sc y.0 Held) ts ys vs sl q n.1 (next_bound sc y.0 q nb)

pub first_ends : (sc : Scope) (w : ℕ) (ts : List Ty) (ys : List Variable) (sl : Slots) (q : ℕ) → AreNew sc ts ys → (sc q ≡ Absent → ⊥) → end_at (first_slots w ts ys sl) q ≡ end_at sl q
first_ends sc w [] ys sl q n nb = refl
first_ends sc w (ty ∷ ts) [] sl q n nb = refl
first_ends sc w (Whole ∷ ts) (y ∷ ys) sl q n nb = first_ends (put sc y.0 Held) w ts ys sl q n.1 (next_bound sc y.0 q nb)
first_ends sc w (Truth ∷ ts) (y ∷ ys) sl q n nb = first_ends (put sc y.0 Held) w ts ys sl q n.1 (next_bound sc y.0 q nb)
first_ends sc w (Tree t ∷ ts) (y ∷ ys) sl q n nb = end-other sl y.0 q w 0 (not_this sc y.0 q n.0 nb)

pub scalar_even : (ts : List Ty) (ys : List Variable) (vs : Data) (sl : Slots) → length (scalar_slots ts ys vs sl).ends ≡ length sl.ends
scalar_even [] ys vs sl = refl
scalar_even (ty ∷ ts) [] vs sl = refl
scalar_even (ty ∷ ts) (y ∷ ys) tree.none sl = refl
scalar_even (Whole ∷ ts) (y ∷ ys) (more v vs) sl = scalar_even ts ys vs (set sl y.0 (word_of v)) ∙ ends-length sl y.0 (word_of v) 0
scalar_even (Truth ∷ ts) (y ∷ ys) (more v vs) sl = scalar_even ts ys vs (set sl y.0 (word_of v)) ∙ ends-length sl y.0 (word_of v) 0
scalar_even (Tree t ∷ ts) (y ∷ ys) (more v vs) sl = scalar_even ts ys vs sl

pub first_even : (w : ℕ) (ts : List Ty) (ys : List Variable) (sl : Slots) → length (first_slots w ts ys sl).ends ≡ length sl.ends
first_even w [] ys sl = refl
first_even w (ty ∷ ts) [] sl = refl
first_even w (Whole ∷ ts) (y ∷ ys) sl = first_even w ts ys sl
first_even w (Truth ∷ ts) (y ∷ ys) sl = first_even w ts ys sl
first_even w (Tree t ∷ ts) (y ∷ ys) sl = ends-length sl y.0 w 0

pub first_kept : (sc : Scope) (w : ℕ) (ts : List Ty) (ys : List Variable) (sl : Slots) (q : ℕ) → AreNew sc ts ys → (sc q ≡ Absent → ⊥) → slot (first_slots w ts ys sl) q ≡ slot sl q
first_kept sc w [] ys sl q n nb = refl
first_kept sc w (ty ∷ ts) [] sl q n nb = refl
first_kept sc w (Whole ∷ ts) (y ∷ ys) sl q n nb = first_kept (put sc y.0 Held) w ts ys sl q n.1 (next_bound sc y.0 q nb)
first_kept sc w (Truth ∷ ts) (y ∷ ys) sl q n nb = first_kept (put sc y.0 Held) w ts ys sl q n.1 (next_bound sc y.0 q nb)
first_kept sc w (Tree t ∷ ts) (y ∷ ys) sl q n nb = set-other sl y.0 q w (not_this sc y.0 q n.0 nb)

pub scalar_long : (ts : List Ty) (ys : List Variable) (vs : Data) (sl : Slots) → length (scalar_slots ts ys vs sl).vars ≡ length sl.vars
scalar_long [] ys vs sl = refl
scalar_long (ty ∷ ts) [] vs sl = refl
scalar_long (ty ∷ ts) (y ∷ ys) tree.none sl = refl
scalar_long (Whole ∷ ts) (y ∷ ys) (more v vs) sl = scalar_long ts ys vs (set sl y.0 (word_of v)) ∙ set-length sl y.0 (word_of v)
scalar_long (Truth ∷ ts) (y ∷ ys) (more v vs) sl = scalar_long ts ys vs (set sl y.0 (word_of v)) ∙ set-length sl y.0 (word_of v)
scalar_long (Tree t ∷ ts) (y ∷ ys) (more v vs) sl = scalar_long ts ys vs sl

pub first_long : (w : ℕ) (ts : List Ty) (ys : List Variable) (sl : Slots) → length (first_slots w ts ys sl).vars ≡ length sl.vars
first_long w [] ys sl = refl
first_long w (ty ∷ ts) [] sl = refl
first_long w (Whole ∷ ts) (y ∷ ys) sl = first_long w ts ys sl
first_long w (Truth ∷ ts) (y ∷ ys) sl = first_long w ts ys sl
first_long w (Tree t ∷ ts) (y ∷ ys) sl = set-length sl y.0 w

-- the slots are those of the fields; the first packed one, which stands before none, is at w
abbrev pub SlotsFit : Slots → ℕ → Option ℕ → List Ty → List Variable → Data → Type 0
SlotsFit F w before [] ys vs = Unit {0}
SlotsFit F w before (ty ∷ ts) [] vs = Unit {0}
SlotsFit F w before (ty ∷ ts) (y ∷ ys) tree.none = Unit {0}
SlotsFit F w before (Whole ∷ ts) (y ∷ ys) (more v vs) = (slot F y.0 ≡ word_of v) × SlotsFit F w before ts ys vs
SlotsFit F w before (Truth ∷ ts) (y ∷ ys) (more v vs) = (slot F y.0 ≡ word_of v) × SlotsFit F w before ts ys vs
SlotsFit F w None (Tree t ∷ ts) (y ∷ ys) (more v vs) = (both F y.0 ≡ record { word = w; last = 0 }) × SlotsFit F w (Some y.0) ts ys vs
SlotsFit F w (Some z) (Tree t ∷ ts) (y ∷ ys) (more v vs) = SlotsFit F w (Some y.0) ts ys vs

still_absent : (sc : Scope) (y q : ℕ) → put sc y Held q ≡ Absent → (q ≡ y → ⊥) × (sc q ≡ Absent)
still_absent sc y q = by_test q y (λ b. cond b Held (sc q) ≡ Absent → (q ≡ y → ⊥) × (sc q ≡ Absent)) (λ e h. absurd cc) (λ e h. (e, h))

-- behind the first packed field
fit_behind : (sc : Scope) (w z : ℕ) (ts : List Ty) (ys : List Variable) (vs : Data) (sl : Slots) → AreNew sc ts ys → ((q : ℕ) → sc q ≡ Absent → q < length sl.vars) → SlotsFit (scalar_slots ts ys vs sl) w (Some z) ts ys vs
fit_behind sc w z [] ys vs sl n lt = tt
fit_behind sc w z (ty ∷ ts) [] vs sl n lt = tt
fit_behind sc w z (ty ∷ ts) (y ∷ ys) tree.none sl n lt = tt
fit_behind sc w z (Whole ∷ ts) (y ∷ ys) (more v vs) sl n lt = (
  scalar_kept (put sc y.0 Held) ts ys vs (set sl y.0 (word_of v)) y.0 n.1 (held_now sc y.0) ∙ set-same sl y.0 (word_of v) (lt y.0 n.0),
  fit_behind (put sc y.0 Held) w z ts ys vs (set sl y.0 (word_of v)) n.1 (λ q a. subst (λ (m : ℕ). q < m) (sym (set-length sl y.0 (word_of v))) (lt q (still_absent sc y.0 q a).1)),
)
fit_behind sc w z (Truth ∷ ts) (y ∷ ys) (more v vs) sl n lt = (
  scalar_kept (put sc y.0 Held) ts ys vs (set sl y.0 (word_of v)) y.0 n.1 (held_now sc y.0) ∙ set-same sl y.0 (word_of v) (lt y.0 n.0),
  fit_behind (put sc y.0 Held) w z ts ys vs (set sl y.0 (word_of v)) n.1 (λ q a. subst (λ (m : ℕ). q < m) (sym (set-length sl y.0 (word_of v))) (lt q (still_absent sc y.0 q a).1)),
)
fit_behind sc w z (Tree t ∷ ts) (y ∷ ys) (more v vs) sl n lt = fit_behind (put sc y.0 Held) w y.0 ts ys vs sl n.1 (λ q a. lt q (still_absent sc y.0 q a).1)

-- other slots with the same words at the fields
fit_same : (sc : Scope) (F G : Slots) (w z : ℕ) (ts : List Ty) (ys : List Variable) (vs : Data) → AreNew sc ts ys → ((q : ℕ) → sc q ≡ Absent → slot G q ≡ slot F q) → SlotsFit F w (Some z) ts ys vs → SlotsFit G w (Some z) ts ys vs
fit_same sc F G w z [] ys vs n e f = tt
fit_same sc F G w z (ty ∷ ts) [] vs n e f = tt
fit_same sc F G w z (ty ∷ ts) (y ∷ ys) tree.none n e f = tt
fit_same sc F G w z (Whole ∷ ts) (y ∷ ys) (more v vs) n e f = (e y.0 n.0 ∙ f.0, fit_same (put sc y.0 Held) F G w z ts ys vs n.1 (λ q a. e q (still_absent sc y.0 q a).1) f.1)
fit_same sc F G w z (Truth ∷ ts) (y ∷ ys) (more v vs) n e f = (e y.0 n.0 ∙ f.0, fit_same (put sc y.0 Held) F G w z ts ys vs n.1 (λ q a. e q (still_absent sc y.0 q a).1) f.1)
fit_same sc F G w z (Tree t ∷ ts) (y ∷ ys) (more v vs) n e f = fit_same (put sc y.0 Held) F G w y.0 ts ys vs n.1 (λ q a. e q (still_absent sc y.0 q a).1) f

pub slots_fit : (sc : Scope) (w : ℕ) (ts : List Ty) (ys : List Variable) (vs : Data) (sl : Slots) → AreNew sc ts ys → ((q : ℕ) → sc q ≡ Absent → q < length sl.vars) → length sl.ends ≡ length sl.vars → SlotsFit (first_slots w ts ys (scalar_slots ts ys vs sl)) w None ts ys vs
slots_fit sc w [] ys vs sl n lt ev = tt
slots_fit sc w (ty ∷ ts) [] vs sl n lt ev = tt
slots_fit sc w (ty ∷ ts) (y ∷ ys) tree.none sl n lt ev = tt
slots_fit sc w (Whole ∷ ts) (y ∷ ys) (more v vs) sl n lt ev = (
  first_kept (put sc y.0 Held) w ts ys (scalar_slots ts ys vs (set sl y.0 (word_of v))) y.0 n.1 (held_now sc y.0)
      ∙ scalar_kept (put sc y.0 Held) ts ys vs (set sl y.0 (word_of v)) y.0 n.1 (held_now sc y.0) ∙ set-same sl y.0 (word_of v) (lt y.0 n.0),
  slots_fit (put sc y.0 Held) w ts ys vs (set sl y.0 (word_of v)) n.1 (λ q a. subst (λ (m : ℕ). q < m) (sym (set-length sl y.0 (word_of v))) (lt q (still_absent sc y.0 q a).1)) (ends-length sl y.0 (word_of v) 0 ∙ ev ∙ sym (set-length sl y.0 (word_of v))),
)
slots_fit sc w (Truth ∷ ts) (y ∷ ys) (more v vs) sl n lt ev = (
  first_kept (put sc y.0 Held) w ts ys (scalar_slots ts ys vs (set sl y.0 (word_of v))) y.0 n.1 (held_now sc y.0)
      ∙ scalar_kept (put sc y.0 Held) ts ys vs (set sl y.0 (word_of v)) y.0 n.1 (held_now sc y.0) ∙ set-same sl y.0 (word_of v) (lt y.0 n.0),
  slots_fit (put sc y.0 Held) w ts ys vs (set sl y.0 (word_of v)) n.1 (λ q a. subst (λ (m : ℕ). q < m) (sym (set-length sl y.0 (word_of v))) (lt q (still_absent sc y.0 q a).1)) (ends-length sl y.0 (word_of v) 0 ∙ ev ∙ sym (set-length sl y.0 (word_of v))),
)
slots_fit sc w (Tree t ∷ ts) (y ∷ ys) (more v vs) sl n lt ev =
    let G = scalar_slots ts ys vs sl in (
      both-same G y.0 w (subst (λ (m : ℕ). y.0 < m) (sym (scalar_long ts ys vs sl)) (lt y.0 n.0)) (scalar_even ts ys vs sl ∙ ev ∙ sym (scalar_long ts ys vs sl)),
      fit_same (put sc y.0 Held) G (set G y.0 w) w y.0 ts ys vs n.1 (λ q a. set-other G y.0 q w (still_absent sc y.0 q a).0)
          (fit_behind (put sc y.0 Held) w y.0 ts ys vs sl n.1 (λ q a. lt q (still_absent sc y.0 q a).1)),
    )

-- What an arm begins with runs.

module _ (core : CoreTree) (code : CodeTree) (owed : Owed) (own : Owned) (sh : Share) (s : Store) (m : State) (x a l : ℕ) where
  stay : {ip : ℕ} {sl : Slots} → AreAt code ip [] l → Safe core code owed own sh s (at_rest m l sl) → Safe core code owed own sh s (at_rest m ip sl)
  stay none g = g

  pub run_scalars : (sc : Scope) (ts : List Ty) (ys : List Variable) (vs : Data) (places : List ℕ) (b z p ip : ℕ) (sl : Slots)
      → AreNew sc ts ys → (sc x ≡ Absent → ⊥) → Decs code.laid s b ts vs places z → Holds s (a + p) (scalars vs) → slot sl x ≡ a → AreAt code ip (scalar_reads x p ts ys) l
      → Safe core code owed own sh s (at_rest m l (scalar_slots ts ys vs sl)) → Safe core code owed own sh s (at_rest m ip sl)
  run_scalars sc _ ys _ _ b z p ip sl nw nb d.done h e ar g = stay ar g
  run_scalars sc _ [] _ _ b z p ip sl nw nb (d.whole_field fits ds) h e at g = absurd nw
  run_scalars sc _ (y ∷ ys) _ _ b z p ip sl nw nb (d.whole_field {i = int} {ts = ts} {vs = vs} {places = places} fits ds) h e at g =
      let w = cast_unsigned w64 int in
      let sl' = set sl y.0 w in
      let q : a + p + length (number int) ≡ a + (p + 8) = omega arith in
      let rest = run_scalars (put sc y.0 Held) ts ys vs places b z (p + 8) (ip + 1) sl' nw.1 (next_bound sc y.0 x nb) ds (subst (λ (r : ℕ). Holds s r (scalars vs)) q (Holds-behind (a + p) (number int) (scalars vs) h)) (set-other sl y.0 x w (not_this sc y.0 x nw.0 nb) ∙ e) (rest_at at) g in
      moves (reads_number core code owed own sh s w (Fits-lt-pow (Fits-of_z fits)) (at_rest m ip sl) y.0 (slot sl x + p) (subst (λ (r : ℕ). Holds s (r + p) (number int)) (sym e) (Holds-front (a + p) (number int) (scalars vs) h))
      (step_is code (at_rest m ip sl) (i.Whole y.0 x p) refl (first_at at)) rest)
  run_scalars sc _ [] _ _ b z p ip sl nw nb (d.truth_field ds) h e at g = absurd nw
  run_scalars sc _ (y ∷ ys) _ _ b z p ip sl nw nb (d.truth_field {b = bool} {ts = ts} {vs = vs} {places = places} ds) h e at g =
      let w = bit bool in
      let sl' = set sl y.0 w in
      let q : a + p + 1 ≡ a + (p + 1) = omega arith in
      let rest = run_scalars (put sc y.0 Held) ts ys vs places b z (p + 1) (ip + 1) sl' nw.1 (next_bound sc y.0 x nb) ds (subst (λ (r : ℕ). Holds s r (scalars vs)) q (Holds-rest h)) (set-other sl y.0 x w (not_this sc y.0 x nw.0 nb) ∙ e) (rest_at at) g in
      moves (get_one core code owed own sh (step_is code (at_rest m ip sl) (i.Truth y.0 x p) refl (first_at at)) (subst (λ (r : ℕ). s (r + p) ≡ byte w) (sym e) (Holds-first h)) rest)
  run_scalars sc _ [] _ _ b z p ip sl nw nb (d.tree_field dec ds) h e at g = absurd nw
  run_scalars sc _ (y ∷ ys) _ _ b z p ip sl nw nb (d.tree_field {y = mid} {t = t} {v = v} {ts = ts} {vs = vs} {places = places} dec ds) h e at g =
      run_scalars (put sc y.0 Held) ts ys vs places mid z p ip sl nw.1 (next_bound sc y.0 x nb) ds (subst (λ (r : List ℕ). Holds s (a + p) (r ++ scalars vs)) (Dec-no_scalar dec) h) e at g

  pub run_first : (head : ℕ) (ts : List Ty) (ys : List Variable) (ip : ℕ) (sl : Slots) → a + head < 2 ^ 64 → slot sl x ≡ a → AreAt code ip (first_reach x head ts ys) l
      → Safe core code owed own sh s (at_rest m l (first_slots (a + head) ts ys sl)) → Safe core code owed own sh s (at_rest m ip sl)
  run_first head [] ys ip sl sm e ar g = stay ar g
  run_first head (u ∷ ts) [] ip sl sm e ar g = stay ar g
  run_first head (Whole ∷ ts) (y ∷ ys) ip sl sm e at g = run_first head ts ys ip sl sm e at g
  run_first head (Truth ∷ ts) (y ∷ ys) ip sl sm e at g = run_first head ts ys ip sl sm e at g
  run_first head (Tree t ∷ ts) (y ∷ ys) ip sl sm e ar g =
      let f = first_at ar in
      let q : (a + head) % 2 ^ 64 ≡ a + head = omega (arith, sm) in
      silently {m = at_rest m ip sl} {m' = at_rest m (ip + 1) (set sl y.0 ((slot sl x + head) % 2 ^ 64))} refl f refl
      (subst (λ (q : ℕ). Safe core code owed own sh s (at_rest m (ip + 1) (set sl y.0 ((q + head) % 2 ^ 64)))) (sym e)
      (subst (λ (r : ℕ). Safe core code owed own sh s (at_rest m (ip + 1) (set sl y.0 r))) (sym q) (stay (rest_at ar) g)))

-- The fields come into the line.

-- what is known of the packed field before
abbrev pub BeforeIs : LaidOut → Store → Ctx → ℕ → ℕ → Option ℕ → Type 0
BeforeIs laid s c at w None = w ≡ at
BeforeIs laid s c at w (Some z) = (is_there (c.scope z) ≡ true) × ((t : ℕ) × Dec laid s (c.pl z) t (value_in c.env z) at)

before_keeps : (laid : LaidOut) (s : Store) (c c' : Ctx) (at w : ℕ) (o : Option ℕ) → Keeps c c' → BeforeIs laid s c at w o → BeforeIs laid s c' at w o
before_keeps laid s c c' at w None k h = h
before_keeps laid s c c' at w (Some z) k h =
    (k.there z h.0, (h.1.0, subst (λ (q : ℕ). Dec laid s q h.1.0 (value_in c'.env z) at) (sym (k.places z h.0)) (subst (λ (q : Datum). Dec laid s (c.pl z) h.1.0 q at) (sym (k.values z h.0)) h.1.1)))

abbrev pub var_of : Option ℕ → Option Variable
var_of None = None
var_of (Some z) = Some (record { 0 = z })

abbrev pub number_of_var : Option Variable → Option ℕ
number_of_var None = None
number_of_var (Some y) = Some y.0

pub same_var : (o : Option ℕ) → number_of_var (var_of o) ≡ o
same_var None = refl
same_var (Some z) = refl

-- the addresses that are stored from here on
abbrev pub stored_due : Option ℕ → List ℕ → List ℕ
stored_due None places = offset_bytes true places
stored_due (Some z) places = addresses places

now_absent : (sc : Scope) (c : Ctx) (y : ℕ) (so : Sort) (v : Datum) (at : ℕ) → ((q : ℕ) → sc q ≡ Absent → c.scope q ≡ Absent) → (q : ℕ) → put sc y Held q ≡ Absent → (with_var c y so v at).scope q ≡ Absent
now_absent sc c y so v at h q = by_test q y (λ b. cond b Held (sc q) ≡ Absent → cond b so (c.scope q) ≡ Absent) (λ e g. absurd cc) (λ e g. h q g)

module _ (core : CoreTree) (code : CodeTree) (own : Owned) (s : Store) (F : Slots) (fs : List Frame) (rs : List OpenRegion) (tls : List ℕ) (kt : Kont) (m : ℕ → Bool) (x k o w : ℕ) where
  pub record ArmLine (dest : Dest) (sc : Scope) (env : Environment) (v : Datum) (ln : FitsLine) (hx z : ℕ) (lst : Option ℕ) : Type 0 where
    pub ctx : Ctx
    pub head : ctx.scope x ≡ AtHead o
    pub worth : value_in ctx.env x ≡ v
    pub scope : ctx.scope ≡ sc
    pub values : ctx.env ≡ env
    pub goal : ctx.dest ≡ dest
    pub line : Line core code own s F fs rs tls ctx kt m
    pub ends : ctx.line ≡ ln
    pub place : ctx.hd x ≡ hx
    pub last : BeforeIs code.laid s ctx z w lst

  worth_is : {dest : Dest} {sc : Scope} {env : Environment} {v v' : Datum} {ln : FitsLine} {hx z : ℕ} {lst : Option ℕ} → v ≡ v' → ArmLine dest sc env v ln hx z lst → ArmLine dest sc env v' ln hx z lst
  worth_is e r = record { ctx = r.ctx; head = r.head; worth = r.worth ∙ e; scope = r.scope; values = r.values; goal = r.goal; line = r.line; ends = r.ends; place = r.place; last = r.last }

  pub extend : (ts : List Ty) (ys : List Variable) (vs : Data) (places : List ℕ) (at z p : ℕ) (before : Option ℕ) (c : Ctx) (sc : Scope)
      → AreNew sc ts ys → ((q : ℕ) → sc q ≡ Absent → c.scope q ≡ Absent) → Decs code.laid s at ts vs places z → SlotsFit F w before ts ys vs → BeforeIs code.laid s c at w before
      → (is_among code.laid.with_offsets k ≡ true → Holds s (c.hd x + p) (stored_due before places)) → c.scope x ≡ AtHead o → Line core code own s F fs rs tls c kt m
      → ArmLine c.dest (arm_scope x k p before ts ys c.scope) (bind ys (list_of vs) c.env) (value_in c.env x) c.line (c.hd x) z (number_of_var (last_packed (var_of before) ts ys))
  extend _ [] _ _ at z p before c sc nw ab d.done sf bi st hx l = record { ctx = c; head = hx; worth = refl; scope = refl; values = refl; goal = refl; line = l; ends = refl; place = refl; last = subst (BeforeIs code.laid s c at w) (sym (same_var before)) bi }
  extend _ (y ∷ ys) _ _ at z p before c sc nw ab d.done sf bi st hx l = absurd nw
  extend _ [] _ _ at z p before c sc nw ab (d.whole_field fits ds) sf bi st hx l = absurd nw
  extend _ (y ∷ ys) _ _ at z p before c sc nw ab (d.whole_field {i = int} {ts = ts} {vs = vs} {places = places} fits ds) sf bi st hx l =
      let new = ab y.0 nw.0 in
      let c1 = with_var c y.0 (Scalar Whole) (whole int) 0 in
      let ke = keeps_var c y.0 (Scalar Whole) (whole int) 0 new in
      let l1 = line_var y.0 (Scalar Whole) (whole int) 0 l new (int, refl, fits, sf.0) tt in
      worth_is (ke.values x (ap is_there hx)) (extend ts ys vs places at z p before c1 (put sc y.0 Held) nw.1 (now_absent sc c y.0 (Scalar Whole) (whole int) 0 ab) ds sf.1 (before_keeps code.laid s c c1 at w before ke bi) st (ke.at_head x o hx) l1)
  extend _ [] _ _ at z p before c sc nw ab (d.truth_field ds) sf bi st hx l = absurd nw
  extend _ (y ∷ ys) _ _ at z p before c sc nw ab (d.truth_field {b = bool} {ts = ts} {vs = vs} {places = places} ds) sf bi st hx l =
      let new = ab y.0 nw.0 in
      let c1 = with_var c y.0 (Scalar Truth) (truth bool) 0 in
      let ke = keeps_var c y.0 (Scalar Truth) (truth bool) 0 new in
      let l1 = line_var y.0 (Scalar Truth) (truth bool) 0 l new (bool, refl, sf.0) tt in
      worth_is (ke.values x (ap is_there hx)) (extend ts ys vs places at z p before c1 (put sc y.0 Held) nw.1 (now_absent sc c y.0 (Scalar Truth) (truth bool) 0 ab) ds sf.1 (before_keeps code.laid s c c1 at w before ke bi) st (ke.at_head x o hx) l1)
  extend _ [] _ _ at z p before c sc nw ab (d.tree_field dec ds) sf bi st hx l = absurd nw
  extend _ (y ∷ ys) _ _ at z p None c sc nw ab (d.tree_field {y = mid} {t = t} {v = v} {ts = ts} {vs = vs} {places = places} dec ds) sf bi st hx l =
      let new = ab y.0 nw.0 in
      let so = Placed t.0 in
      let c1 = with_var c y.0 so v at in
      let ke = keeps_var c y.0 so v at new in
      let l1 = line_var y.0 so v at l new (record { same = ap (λ (b : WithEnd). b.word) sf.0 ∙ bi; stands = record { end = mid; dec = dec } }) (subst (λ (q : ℕ). EndWord code.laid s t.0 q (slot F y.0) (end_at F y.0) v) bi (held_end F y.0 sf.0)) in
      let bf : BeforeIs code.laid s c1 mid w (Some y.0) = (ap is_there (put-same c.scope y.0 so), (t.0, subst (λ (q : ℕ). Dec code.laid s q t.0 (value_in c1.env y.0) mid) (sym (put-same c.pl y.0 at)) (subst (λ (q : Datum). Dec code.laid s at t.0 q mid) (sym (bound-same c.env y.0 v)) dec))) in
      worth_is (ke.values x (ap is_there hx)) (extend ts ys vs places mid z p (Some y.0) c1 (put sc y.0 Held) nw.1 (now_absent sc c y.0 so v at ab) ds sf.1 bf st (ke.at_head x o hx) l1)
  extend _ (y ∷ ys) _ _ at z p (Some b) c sc nw ab (d.tree_field {y = mid} {t = t} {v = v} {ts = ts} {vs = vs} {places = places} dec ds) sf bi st hx l =
      let new = ab y.0 nw.0 in
      let so = Field t.0 b x k p in
      let c1 = with_var c y.0 so v at in
      let ke = keeps_var c y.0 so v at new in
      let b1 = before_keeps code.laid s c c1 at w (Some b) ke bi in
      let l1 = line_var y.0 so v at l new (record {
        there = b1.0;
        owner_type = o;
        owner = ke.at_head x o hx;
        type_before = b1.1.0;
        before = b1.1.1;
        stored = λ e. Holds-front (c.hd x + p) (address at) (addresses places) (st e);
        stands = record { end = mid; dec = dec };
      }) tt in
      let bf : BeforeIs code.laid s c1 mid w (Some y.0) = (ap is_there (put-same c.scope y.0 so), (t.0, subst (λ (q : ℕ). Dec code.laid s q t.0 (value_in c1.env y.0) mid) (sym (put-same c.pl y.0 at)) (subst (λ (q : Datum). Dec code.laid s at t.0 q mid) (sym (bound-same c.env y.0 v)) dec))) in
      let q : c.hd x + p + length (address at) ≡ c.hd x + (p + 8) = omega arith in
      worth_is (ke.values x (ap is_there hx)) (extend ts ys vs places mid z (p + 8) (Some y.0) c1 (put sc y.0 Held) nw.1 (now_absent sc c y.0 so v at ab) ds sf bf
      (λ e. subst (λ (r : ℕ). Holds s r (addresses places)) q (Holds-behind (c.hd x + p) (address at) (addresses places) (st e))) (ke.at_head x o hx) l1)

-- Where the code reads fields.

agrees_field : (fs : List StoredField) (sc : Scope) (y t z x k p : ℕ) → Agrees fs sc → Agrees (record { variable = y; tree = x; place = p } ∷ fs) (put sc y (Field t z x k p))
agrees_field fs sc y t z x k p h = record { agrees = λ q t' z' x' k' p' e. go q t' z' x' k' p' e }
  where
    same : (t z x k p t' z' x' k' p' : ℕ) → ◌≡◌ {A = Sort} (Field t z x k p) (Field t' z' x' k' p') → (x ≡ x') × (p ≡ p')
    same t z x k p t' z' x' k' p' e = (cc, cc)

    go : (q t' z' x' k' p' : ℕ) → put sc y (Field t z x k p) q ≡ Field t' z' x' k' p' → ((field_of (record { variable = y; tree = x; place = p } ∷ fs) q).tree ≡ x') × ((field_of (record { variable = y; tree = x; place = p } ∷ fs) q).place ≡ p')
    go q t' z' x' k' p' e = by_test y q (λ b. ((cond b (record { variable = y; tree = x; place = p }) (field_of fs q)).tree ≡ x') × ((cond b (record { variable = y; tree = x; place = p }) (field_of fs q)).place ≡ p'))
        (λ f. same t z x k p t' z' x' k' p' (sym (put-same sc y (Field t z x k p)) ∙ ap (put sc y (Field t z x k p)) f ∙ e))
        (λ f. h.agrees q t' z' x' k' p' (sym (put-other sc y q (Field t z x k p) (λ g. f (sym g))) ∙ e))

agrees_further : (x k p z : ℕ) (ts : List Ty) (ys : List Variable) (fs : List StoredField) (sc : Scope) → Agrees fs sc → Agrees (further_fields x p ts ys fs) (arm_scope x k p (Some z) ts ys sc)
agrees_further x k p z [] ys fs sc h = h
agrees_further x k p z (u ∷ ts) [] fs sc h = h
agrees_further x k p z (Whole ∷ ts) (y ∷ ys) fs sc h = agrees_further x k p z ts ys fs (put sc y.0 (Scalar Whole)) (agrees_put fs sc y.0 (Scalar Whole) refl h)
agrees_further x k p z (Truth ∷ ts) (y ∷ ys) fs sc h = agrees_further x k p z ts ys fs (put sc y.0 (Scalar Truth)) (agrees_put fs sc y.0 (Scalar Truth) refl h)
agrees_further x k p z (Tree t ∷ ts) (y ∷ ys) fs sc h = agrees_further x k (p + 8) y.0 ts ys (record { variable = y.0; tree = x; place = p } ∷ fs) (put sc y.0 (Field t.0 z x k p)) (agrees_field fs sc y.0 t.0 z x k p h)

pub agrees_arm : (x k : ℕ) (ts : List Ty) (ys : List Variable) (fs : List StoredField) (sc : Scope) → Agrees fs sc → Agrees (with_fields x ts ys fs) (arm_scope x k 1 None ts ys sc)
agrees_arm x k [] ys fs sc h = h
agrees_arm x k (u ∷ ts) [] fs sc h = h
agrees_arm x k (Whole ∷ ts) (y ∷ ys) fs sc h = agrees_arm x k ts ys fs (put sc y.0 (Scalar Whole)) (agrees_put fs sc y.0 (Scalar Whole) refl h)
agrees_arm x k (Truth ∷ ts) (y ∷ ys) fs sc h = agrees_arm x k ts ys fs (put sc y.0 (Scalar Truth)) (agrees_put fs sc y.0 (Scalar Truth) refl h)
agrees_arm x k (Tree t ∷ ts) (y ∷ ys) fs sc h = agrees_further x k 1 y.0 ts ys fs (put sc y.0 (Placed t.0)) (agrees_put fs sc y.0 (Placed t.0) refl h)

-- The arm of a constructor.

pub record FoundArm (core : CoreTree) (code : CodeTree) (w : Within) (ns : Needs) (ln : FitsLine) (fs : List StoredField) (x : ℕ) (e : End) (sc : Scope) (dest : Dest) (n : ℕ) (vs : Data) (env : Environment) (cs : ℕ → Bool) (top : ℕ) (k label : ℕ) (o : Outcome) (lv : ℕ) (price : Cost) : Type 0 where
  -- no more regions than in any branch
  pub variables : List Variable
  pub term : Term
  pub start : ℕ
  pub until : ℕ
  pub opening : AreAt code label (arm_opening (laid_of core) x k variables) start
  pub after : ℕ
  pub leaf : LeafAt code w.ends x (head_size (laid_of core) k) (packed_count (fields_at core.table k)) start after
  pub low : Low core code w (with_fields x (fields_at core.table k) variables fs) after term (arm_end w core x (record { 0 = k }) variables term e) until
  pub new : AreNew sc (fields_at core.table k) variables
  pub fits : Fits core ns term (arm_scope x k 1 None (fields_at core.table k) variables sc) dest (arm_line core x (record { 0 = k }) variables term ln)
  pub calm : (y : ℕ) → cased term y ≡ true → cs y ≡ true
  pub nests : nest term ≤ top
  pub meaning : o ≡ means core n term (bind variables (list_of vs) env)
  pub cost : price ≡ costs core n lv term (bind variables (list_of vs) env)

module _ (core : CoreTree) (code : CodeTree) (w : Within) (ns : Needs) (ln : FitsLine) (fs : List StoredField) (x : ℕ) (e : End) (sc : Scope) (dest : Dest) (n lv : ℕ) (vs : Data) (env : Environment) (cs : ℕ → Bool) (top k : ℕ) where
  pub find : (at z : ℕ) (bs : Branches) (arms : List Arm) → LowArms core code w fs x at arms bs e z → BranchesFit core ns bs x sc dest ln → has_branch bs k ≡ true → ((y : ℕ) → branches_cased bs y ≡ true → cs y ≡ true) → branches_nest bs ≤ top
      → FoundArm core code w ns ln fs x e sc dest n vs env cs top k (label_of arms k) (mean_branches core.table (core_calls core n) bs (con k vs) env) lv (cost_branches core.table (core_calls core n) (call_costs core n) lv bs (con k vs) env)
  find at z _ _ no_arm f h cl ne = absurd (true≢false (sym h))
  find at z _ _ (arm {m = m} {n = n'} {l = l} {c = c} {ys = ys} {u = u} {bs = bs} {arms = arms} op lf lo rest) f h cl ne =
      by_test c.0 k (λ b. (b || has_branch bs k) ≡ true → FoundArm core code w ns ln fs x e sc dest n vs env cs top k (cond b at (label_of arms k)) (choose b (means core n u (bind ys (list_of vs) env)) (mean_branches core.table (core_calls core n) bs (con k vs) env)) lv (choose_cost b (costs core n lv u (bind ys (list_of vs) env)) (cost_branches core.table (core_calls core n) (call_costs core n) lv bs (con k vs) env)))
      (λ q g. subst (λ (j : ℕ). FoundArm core code w ns ln fs x e sc dest n vs env cs top j at (means core n u (bind ys (list_of vs) env)) lv (costs core n lv u (bind ys (list_of vs) env))) q (record {
        variables = ys;
        term = u;
        start = m;
        until = l;
        opening = op;
        after = n';
        leaf = lf;
        low = lo;
        new = f.0;
        fits = f.1;
        calm = λ y r. cl y (or_left (cased u y) (branches_cased bs y) r);
        nests = omega (arith, ne);
        meaning = refl;
        cost = refl;
      }))
      (λ q g. find l z bs arms rest f.2 g (λ y r. cl y (or_right (cased u y) (branches_cased bs y) r)) (omega (arith, ne)))
      h

-- fields of which none is packed end where they begin
pub no_tree_end : {laid : LaidOut} {s : Store} {a z : ℕ} {ts : List Ty} {vs : Data} {places : List ℕ} → packed_count ts ≡ 0 → Decs laid s a ts vs places z → z ≡ a
no_tree_end h d.done = refl
no_tree_end h (d.whole_field f ds) = no_tree_end h ds
no_tree_end h (d.truth_field ds) = no_tree_end h ds
no_tree_end h (d.tree_field dec ds) = absurd (omega (arith, h))
