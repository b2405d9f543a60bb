-- That what a run makes comes from the region memory that it left.
use Rattle.gib_base.specs.Texts.{TextsView}
use Rattle.std.proofs.Common.{◌≡◌, ◌∙◌, ◌≤◌, arith, refl, ap, ℕ, List, Option, None, Bool, Result, Ok, Err, IfOk, sym, subst, subst₂}
use Rattle.std.specs.Prelude.{⊤}
use Rattle.gib_types.specs.Layout.{LaidOut}
use Rattle.gib_arena.specs.Sole.{sole_memory, sole_bounded}
use Rattle.gib_code.specs.Program.{CodeTree}
use Rattle.gib_core.specs.LoweredParts.{LoweredParts}
use Rattle.gib_lower.specs.Lowering.{lower_program}
use Rattle.gib_syntax.specs.Tree.{ProgramTree}
use Rattle.gib_syntax.specs.Declarations.{output_type}
use Rattle.gib_app.specs.declared.made.End.{End as KeptEnd}
use Rattle.gib_app.specs.declared.made.End.TheVariants as ends
use Rattle.gib_app.specs.declared.made.Made.{Made}
use Rattle.gib_app.specs.declared.made.Reason.{Reason}
use Rattle.gib_app.specs.declared.made.Reason.TheVariants as reason
use Rattle.gib_app.specs.declared.made.Valued.{Valued}
use Rattle.gib_words.specs.declared.plan.Job.{Job}
use Rattle.gib_words.specs.declared.plan.Job.TheVariants.{Run, Plain, Check, Core, Code, Pack, Show, Gen, Trace, Replay, Local}
use Rattle.gib_words.specs.declared.plan.Options.{Options}
use Rattle.gib_app.specs.declared.stop.Stop.{Stop}
use Rattle.gib_app.specs.Cores.{core_asked, layouts_asked}
use Rattle.gib_app.specs.Imaging.{IsShownWith}
use Rattle.gib_app.specs.Jobs.{run_forks}
use Rattle.gib_app.specs.Kept.{StandsAgain, file_of, packed_of}
use Rattle.gib_app.specs.MachineRun.{IsMeantBy, LacksValue}
use Rattle.gib_app.specs.Remains.{IsLeft, ComesOfMemory, ComesOfRun, SumsMemory}
use Rattle.gib_app.specs.Rows.{row}
use Rattle.gib_app.specs.Running.{Program}
use Rattle.gib_app.specs.Replaying.{IsImageFile}
use Rattle.gib_app.proofs.Imaged.{stands_again}
use Rattle.gib_app.proofs.PackedRuns.{stands_named}

-- ---- What stands by the layouts of the code stands by those of the program, and the other way round

abbrev pub laid_left : (p : ProgramTree) (names : TextsView) (o : Options) (input : List ℕ) (value : Valued) → IsLeft p names o input value → value.ran.lowered.code.laid ≡ layouts_asked o p
laid_left p names o input value left = ap (λ (c : CodeTree). c.laid) left.code

abbrev pub stands_left : (p : ProgramTree) (names : TextsView) (o : Options) (input : List ℕ) (value : Valued) → IsLeft p names o input value
    → IsMeantBy p names o.depth input value.ran
stands_left p names o input value left =
    let m = sole_memory value.ran.memory in
    stands_again {names = names} p o.depth input (layouts_asked o p) value.ran.lowered.code.laid m m value.ran.root value.ran.root (laid_left p names o input value left) refl refl left.remains.stands

-- What a run leaves that stands by the layouts of its code.
pub is_left : (p : ProgramTree) (names : TextsView) (o : Options) (input : List ℕ) (value : Valued) → value.ran.lowered.code ≡ lower_program (core_asked o p)
    → (sole_memory value.ran.memory).limit ≤ o.chunks → IsMeantBy p names o.depth input value.ran → IsLeft p names o input value
is_left p names o input value code limit s =
    let m = sole_memory value.ran.memory in
    let laid = value.ran.lowered.code.laid in
    record {
      code = code;
      remains = record {
        stands = stands_again {names = names} p o.depth input laid (layouts_asked o p) m m value.ran.root value.ran.root (sym (ap (λ (c : CodeTree). c.laid) code)) refl refl s;
        bounded = sole_bounded value.ran.memory;
        limit = limit;
      };
    }

-- It is left with the value that comes back from packing.
pub left_again : (p : ProgramTree) (o : Options) (input : List ℕ) (old new : Valued) → StandsAgain old new → IsLeft p old.names o input old → IsLeft p new.names o input new
left_again p o input old new again left =
    is_left p new.names o input new (ap (λ (l : LoweredParts). l.code) again.lowered ∙ left.code) (let same = again.limit in let most = left.remains.limit in omega (arith, same, most))
    (stands_named p o.depth input old new again (stands_left p old.names o input old left))

-- ---- What is made of such a memory

module _ (p : ProgramTree) (names : TextsView) (o : Options) (input : List ℕ) (value : Valued) (left : IsLeft p names o input value) where
  imaged_here : (b : Bool) → o.image ≡ b → (file : Option (List ℕ)) → IsImageFile b value.ran.lowered.code.laid (output_type p) (sole_memory value.ran.memory) value.ran.root left.remains.stands.result file
      → IsImageFile o.image (layouts_asked o p) (output_type p) (sole_memory value.ran.memory) value.ran.root left.remains.stands.result file
  imaged_here b asked file h =
      let P : Bool → LaidOut → Type 0 = λ x l. IsImageFile x l (output_type p) (sole_memory value.ran.memory) value.ran.root left.remains.stands.result file in
      subst₂ P (sym asked) (laid_left p names o input value left) h

  pub shown_here : (b : Bool) → o.image ≡ b → (file : Option (List ℕ)) (e : KeptEnd)
      → IsShownWith b value.ran.lowered.code.laid (sole_memory value.ran.memory) value.ran.root p names left.remains.stands.result file e → ComesOfMemory p names o input file e
  shown_here b asked file (ends.Prints text) h = record {
    memory = sole_memory value.ran.memory;
    place = value.ran.root;
    remains = left.remains;
    is_text = h.1;
    is_file = imaged_here b asked file h.0;
  }
  shown_here b asked file (ends.Value other) h = absurd h
  shown_here b asked file (ends.NoValue reason) h = absurd h

  pub long_here : (file : Option (List ℕ)) (e : KeptEnd) → IsImageFile o.image value.ran.lowered.code.laid (output_type p) (sole_memory value.ran.memory) value.ran.root left.remains.stands.result file
      → e ≡ ends.NoValue reason.Long → ComesOfMemory p names o input file e
  long_here file e h is =
      let there : ComesOfMemory p names o input file (ends.NoValue reason.Long) = record {
        memory = sole_memory value.ran.memory;
        place = value.ran.root;
        remains = left.remains;
        is_file = imaged_here o.image refl file h;
      } in
      subst (ComesOfMemory p names o input file) (sym is) there

-- ---- What is made of the value that comes back from packing

module _ (p : ProgramTree) (o : Options) (input : List ℕ) (old new : Valued) (again : StandsAgain old new) (left : IsLeft p new.names o input new) where
  comes_named : (file : Option (List ℕ)) (e : KeptEnd) → ComesOfMemory p new.names o input file e → ComesOfMemory p old.names o input file e
  comes_named file e h = subst (λ (ns : TextsView). ComesOfMemory p ns o input file e) again.names h

  pub packed_comes : (r : Result Made Stop)
      → IfOk r (λ made. IsShownWith o.image new.ran.lowered.code.laid (sole_memory new.ran.memory) new.ran.root p new.names left.remains.stands.result (file_of made) made.end)
      → IfOk r (λ made. ComesOfMemory p old.names o input (file_of made) made.end)
  packed_comes (Ok made) h = comes_named (file_of made) made.end (shown_here p new.names o input new left o.image refl (file_of made) made.end h)
  packed_comes (Err stop) h = tt {0}

  pub long_comes : (r : Result Made Stop)
      → IfOk r (λ made. IsImageFile o.image new.ran.lowered.code.laid (output_type p) (sole_memory new.ran.memory) new.ran.root left.remains.stands.result (file_of made))
      → IfOk r (λ made. (made.end ≡ ends.NoValue reason.Long) × (packed_of made ≡ None))
      → IfOk r (λ made. ComesOfMemory p old.names o input (file_of made) made.end)
  long_comes (Ok made) h is = comes_named (file_of made) made.end (long_here p new.names o input new left (file_of made) made.end h is.0)
  long_comes (Err stop) h is = tt {0}

-- ---- What is made without a packed file

-- Of a job that makes no value in region memory nothing is said.
of_none : (r : Result Made Stop) → IfOk r (λ made. ⊤)
of_none (Ok made) = tt {0}
of_none (Err stop) = tt {0}

-- A job beside `run`, whose source leaves the places to the passes.
pub comes_beside : (job : Job) (p : Program) (names : TextsView) (o : Options) (input : List ℕ) (r : Result Made Stop)
    → (job ≡ Run → ⊥) → (job ≡ Local → ⊥) → (job ≡ Gen → IfOk r (λ made. SumsMemory p.tree names o input made.end))
    → IfOk r (λ made. ComesOfRun (row job) p names o input (file_of made) made.end)
comes_beside Run p names o input r other here h = absurd (other refl)
comes_beside Plain p names o input r other here h = of_none r
comes_beside Check p names o input r other here h = of_none r
comes_beside Core p names o input r other here h = of_none r
comes_beside Code p names o input r other here h = of_none r
comes_beside Pack p names o input r other here h = of_none r
comes_beside Show p names o input r other here h = of_none r
comes_beside Gen p names o input r other here h = h refl
comes_beside Trace p names o input r other here h = of_none r
comes_beside Replay p names o input r other here h = of_none r
comes_beside Local p names o input r other here h = absurd (here refl)

-- Without a value nothing comes from there, where not for the length of its packed file.
pub lacks_comes : (p : ProgramTree) (names : TextsView) (o : Options) (input : List ℕ) (file : Option (List ℕ)) (why : Reason) → LacksValue p names o (run_forks o) input why
    → ComesOfMemory p names o input file (ends.NoValue why)
lacks_comes p names o input file (reason.Meant why) h = tt {0}
lacks_comes p names o input file reason.Full h = tt {0}
lacks_comes p names o input file reason.Long h = absurd h
