-- What a run makes, with its image and without.
use Rattle.gib_base.specs.Texts.{TextsView}
use Rattle.std.proofs.Common.{◌≡◌, ◌∙◌, refl, ap, ℕ, zero, suc, ◌+◌, ◌*◌, ◌≤◌, arith, length, length-append, List, [], ◌∷◌, ◌++◌, Option, Some, None, Bool, true, false, Result, Ok, Err, IfErr, subst, sym}
use Rattle.gib_types.specs.declared.table.Ty.{Ty}
use Rattle.gib_types.specs.Layout.{LaidOut}
use Rattle.gib_types.specs.Tree.{Datum}
use Rattle.std.specs.Int.{w64, to_le_bytes}
use Rattle.gib_mem.specs.Memory.{Memory, Store, look_of, IsBounded}
use Rattle.gib_value.specs.Text.{AreHeld}
use Rattle.gib_packed.specs.Stands.{Stands}
use Rattle.gib_packed.specs.declared.root.Root.{Root}
use Rattle.gib_packed.specs.declared.root.Root.TheVariants.{Whole, Truth, At}
use Rattle.gib_print.specs.Image.{shown, header, answer_of, image_of, chunk_count, IsImageOf}
use Rattle.gib_syntax.specs.Tree.{ProgramTree}
use Rattle.gib_syntax.specs.Declarations.{output_type}
use Rattle.gib_app.specs.declared.made.End.{End as KeptEnd}
use Rattle.gib_app.specs.declared.made.End.TheVariants as ends
use Rattle.gib_app.specs.declared.made.Valued.{Valued}
use Rattle.gib_words.specs.declared.plan.Options.{Options}
use Rattle.gib_app.specs.Cores.{layouts_asked}
use Rattle.gib_app.specs.Imaging.{IsShownWith}
use Rattle.gib_app.specs.Jobs.{RunsLocated, MakesImage, Runs}
use Rattle.gib_app.specs.Kept.{EndsBy}
use Rattle.gib_app.specs.MachineRun.{IsMeantBy, StandsMeant}
use Rattle.gib_app.specs.Replaying.{IsImageFile}
use Rattle.gib_app.specs.Running.{Program, text_line}
use Rattle.gib_app.specs.declared.stop.Stop.{Stop}
use Rattle.gib_app.specs.declared.stop.Stop.TheVariants.{Memory as NoMemory}
use Rattle.gib_app.specs.Stops.{IsRunStop}

-- The law that the image of a memory is one of the value that stands there.
abbrev pub WrittenIsRead : Type 0
WrittenIsRead = (laid : LaidOut) (m : Memory) (place : Root) (ty : Ty) (v : Datum) → IsBounded m → m.drawn ≤ 65536 → Stands laid m.cells place ty v → IsImageOf laid ty (image_of m place) v

pub image_stands : WrittenIsRead → (laid : LaidOut) (m : Memory) (place : Root) (bytes : List ℕ) → IsBounded m → m.drawn ≤ 65536 → bytes ≡ image_of m place
    → (ty : Ty) (v : Datum) → Stands laid m.cells place ty v → IsImageOf laid ty bytes v
image_stands law laid m place bytes bounded few is ty v stands = subst (λ (l : List ℕ). IsImageOf laid ty l v) (sym is) (law laid m place ty v bounded few stands)

pub file_shown : (laid : LaidOut) (m : Memory) (place : Root) (bytes : List ℕ) (ty : Ty) (v : Datum) → bytes ≡ image_of m place → IsImageOf laid ty bytes v → IsImageOf laid ty (image_of m place) v
file_shown laid m place bytes ty v is h = subst (λ (l : List ℕ). IsImageOf laid ty l v) is h

-- How long the image of a memory is.

shown_long : (s : Store) (n : ℕ) → length (shown s n) ≡ n
shown_long s zero = refl
shown_long s (suc n) = omega (arith, length-append (shown s n) (look_of (s n) ∷ []), shown_long s n)

answer_long : (place : Root) → length (answer_of place) ≡ 8
answer_long (Whole z) = refl
answer_long (Truth b) = refl
answer_long (At a) = refl

image_long : (m : Memory) (place : Root) → length (image_of m place) ≡ 24 + 4096 * m.drawn
image_long m place =
    omega (
      arith,
      length-append (header place m.drawn) (shown m.cells (4096 * m.drawn)),
      length-append (answer_of place) (to_le_bytes w64 m.drawn),
      answer_long place,
      shown_long m.cells (4096 * m.drawn),
    )

-- It has as many chunks as are drawn, and these are no more than there may be.
pub image_few : (laid : LaidOut) (m : Memory) (place : Root) (bytes : List ℕ) → IsBounded m → bytes ≡ image_of m place → (ty : Ty) (v : Datum) → IsImageOf laid ty bytes v → chunk_count bytes ≤ m.limit
image_few laid m place bytes bounded is ty v image =
    let long = image.formed.long in
    let size = image_long m place in
    let same = ap length is in
    let order = bounded.order in
    omega (arith, long, size, same, order)

-- The image of the memory that a run leaves, where one is asked for.
pub image_made : {names : TextsView} (b : Bool) (p : ProgramTree) (o : Options) (input : List ℕ) (laid : LaidOut) (m : Memory) (place : Root) (s : StandsMeant p names o.depth input laid m.cells place)
    → IsBounded m → laid ≡ layouts_asked o p → m.limit ≤ o.chunks → (file : Option (List ℕ)) → IsImageFile b laid (output_type p) m place s.result file
    → MakesImage b p names o input file
image_made false p o input laid m place s bounded same limit file h = h
image_made true p o input laid m place s bounded same limit None h = let other : None ≡ Some (image_of m place) = h.0 in absurd cc
image_made true p o input laid m place s bounded same limit (Some bytes) h =
    let is : bytes ≡ image_of m place = let e = h.0 in cc in
    let image : IsImageOf laid (output_type p) bytes s.result = subst (λ (l : List ℕ). IsImageOf laid (output_type p) l s.result) (sym is) h.1 in
    record {
      value = s.value;
      result = s.result;
      is_input = s.is_input;
      means = s.means;
      image = subst (λ (l : LaidOut). IsImageOf l (output_type p) bytes s.result) same image;
      few = let drawn = image_few laid m place bytes bounded is (output_type p) s.result image in omega (arith, drawn, limit);
    }

-- A text, and an image where one is asked for, end a run.
pub shown_runs : (p : ProgramTree) (names : TextsView) (o : Options) (input : List ℕ) (laid : LaidOut) (m : Memory) (place : Root) (s : StandsMeant p names o.depth input laid m.cells place)
    → IsBounded m → laid ≡ layouts_asked o p → m.limit ≤ o.chunks → (b : Bool) → o.image ≡ b → (file : Option (List ℕ)) (e : KeptEnd) → IsShownWith b laid m place p names s.result file e → EndsBy file e (Runs p names o input)
shown_runs p names o input laid m place s bounded same limit b asked file (ends.Prints text) h =
    let M : Bool → Type 0 = λ x. MakesImage x p names o input file in (
      subst M (sym asked) (image_made b p o input laid m place s bounded same limit file h.0),
      record { value = s.value; result = s.result; is_input = s.is_input; means = s.means; is_text = h.1 },
    )
shown_runs p names o input laid m place s bounded same limit b asked file (ends.Value value) h = absurd h
shown_runs p names o input laid m place s bounded same limit b asked file (ends.NoValue reason) h = absurd h

-- A value in region memory ends one that is not.
pub value_ends : (p : ProgramTree) (o : Options) (input : List ℕ) (value : Valued) → AreHeld value.ran.lowered.code.laid.table value.names.short → o.image ≡ false
    → IsMeantBy p value.names o.depth input value.ran → EndsBy None (ends.Value value) (Runs p value.names o input)
value_ends p o input value held off s =
    let M : Bool → Type 0 = λ b. MakesImage b p value.names o input None in (
      refl,
      text_line p value.names s.result,
      record { program = p; depth = o.depth; input = input; stands = s; held = held; is_text = refl },
      (subst M (sym off) refl, record { value = s.value; result = s.result; is_input = s.is_input; means = s.means; is_text = refl }),
    )

-- The same of a core that is written out.
pub located_ends : (p : Program) (o : Options) (input : List ℕ) (value : Valued) → AreHeld value.ran.lowered.code.laid.table value.names.short
    → IsMeantBy p.tree value.names o.depth input value.ran → EndsBy None (ends.Value value) (RunsLocated p value.names o input)
located_ends p o input value held s = (
  refl,
  text_line p.tree value.names s.result,
  record { program = p.tree; depth = o.depth; input = input; stands = s; held = held; is_text = refl },
  (refl, record { value = s.value; result = s.result; is_input = s.is_input; means = s.means; is_text = refl }),
)

-- Want of memory is free to stop a run.
pub memory_stops : {T : Type 0} (r : Result T Stop) (p : ProgramTree) (names : TextsView) (input : List ℕ) → IfErr r (λ stop. stop ≡ NoMemory) → IfErr r (IsRunStop p names input)
memory_stops (Ok x) p names input h = tt {0}
memory_stops (Err stop) p names input h = subst (IsRunStop p names input) (sym h) (tt {0})

-- A buffer that held nothing holds what it took.
pub text_kept : (old new got text : List ℕ) → old ≡ [] → Some new ≡ Some (old ++ text) → got ≡ new → got ≡ text
text_kept old new got text e put g =
    let is : new ≡ old ++ text = cc in
    g ∙ is ∙ ap (λ (l : List ℕ). l ++ text) e

-- What stands in a memory stands in the same one.
abbrev pub stands_again : {names : TextsView} (p : ProgramTree) (depth : ℕ) (input : List ℕ) (laid other : LaidOut) (m n : Memory) (place spot : Root) → other ≡ laid → n ≡ m → spot ≡ place
    → StandsMeant p names depth input laid m.cells place → StandsMeant p names depth input other n.cells spot
stands_again p depth input laid other m n place spot e f g s =
    let one = subst (λ (l : LaidOut). Stands l m.cells place (output_type p) s.result) (sym e) s.stands in
    let two = subst (λ (x : Memory). Stands other x.cells place (output_type p) s.result) (sym f) one in
    record {
      value = s.value;
      result = s.result;
      is_input = s.is_input;
      means = s.means;
      table = ap (λ (l : LaidOut). l.table) e ∙ s.table;
      stands = subst (λ (r : Root). Stands other n.cells r (output_type p) s.result) (sym g) two;
    }

-- What is printed of a memory is what is printed of the same memory.
pub text_moved : (p : ProgramTree) (depth : ℕ) (input : List ℕ) (names : TextsView) (text : List ℕ) (laid other : LaidOut) (m n : Memory) (place spot : Root) → other ≡ laid → n ≡ m → spot ≡ place
    → ((q : ProgramTree) (d : ℕ) (i : List ℕ) (s : StandsMeant q names d i other n.cells spot) → text ≡ text_line q names s.result)
    → (s : StandsMeant p names depth input laid m.cells place) → text ≡ text_line p names s.result
text_moved p depth input names text laid other m n place spot e f g printed s = printed p depth input (stands_again p depth input laid other m n place spot e f g s)
