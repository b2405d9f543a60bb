-- The machine that is made for main is the root's.
use Rattle.std.proofs.Common.{◌≡◌, ℕ, Bool, cond, List, [], ◌∷◌, length, Option, Some, refl, sym, ap, ◌∙◌}
use Rattle.std.proofs.lemmas.Bool.{eq-eqb}
use Rattle.gib_types.specs.declared.table.Ty.{Ty}
use Rattle.gib_types.specs.declared.table.Ty.TheVariants.{Whole, Truth, Tree}
use Rattle.gib_core.specs.Low.{LowFunctions, IsLowered}
use Rattle.gib_core.specs.Low as low
use Rattle.gib_core.specs.Tree.{CoreTree, FunctionTerm}
use Rattle.gib_code.specs.declared.instruction.AnswerType.{AnswerType}
use Rattle.gib_code.specs.declared.instruction.AnswerType.TheVariants as of
use Rattle.gib_code.specs.declared.instruction.Entry.{Entry}
use Rattle.gib_code.specs.Program.{CodeTree}
use Rattle.gib_machine.specs.State.{State, Doing, Ready, Opening, eight, frame, whole_room, widest}
use Rattle.gib_machine.specs.Machine.{start_at, slots_at}
use Rattle.gib_machine.specs.Starting.{main_entry, started, started_by, started_by_fork, entry_start, fork_to, is_packed}
use Rattle.gib_machine.specs.Stepping.{with_tails}
use Rattle.gib_weave.specs.Starting.{first_doing, root_start}

-- Main's entry is the last one.
record IsLast (core : CoreTree) (es : List Entry) (n : ℕ) : Type 0 where
  pub entry : Entry
  pub last : main_entry es ≡ Some entry
  pub start : start_at es n ≡ entry.start
  pub slots : slots_at es n ≡ entry.slots
  pub result : entry.result ≡ of.One core.main.result

further : (e : Entry) (es : List Entry) (x : Entry) → main_entry es ≡ Some x → main_entry (e ∷ es) ≡ Some x
further e [] x h = absurd cc
further e (e' ∷ es) x h = h

is_last : (core : CoreTree) (code : CodeTree) (a : ℕ) (gs : List FunctionTerm) (es : List Entry) → LowFunctions core code a gs es → IsLast core es (length gs)
is_last core code a _ _ (low.main {e = e} nm rs st sl lo) = record { entry = e; last = refl; start = refl; slots = refl; result = rs }
is_last core code a _ _ (low.function {z = z} {gs = gs} {e = e} {es = es} nm rs st sl lo later) =
    let h = is_last core code z gs es later in
    record { entry = h.entry; last = further e es h.entry h.last; start = h.start; slots = h.slots; result = h.result }

first_same : (u : Ty) → cond (is_packed (of.One u)) Opening Ready ≡ first_doing u
first_same Whole = refl
first_same Truth = refl
first_same (Tree t) = refl

abbrev made_with : CoreTree → CodeTree → (w depth level : ℕ) → List ℕ → (ip slots : ℕ) → AnswerType → Doing → State
made_with core code w depth level tails ip slots result d = record {
  ip = ip;
  words = frame slots (w ∷ []);
  frames = [];
  depth = depth;
  level = level;
  pars = [];
  side = [];
  regions = [];
  tails = tails;
  room = whole_room code depth;
  width = widest code.functions;
  gave = [];
  result = result;
  parts = eight [];
  doing = d;
}

pub made_root : (core : CoreTree) (code : CodeTree) (w depth level : ℕ) (tails : List ℕ) → IsLowered core code
    → with_tails (started code (start_at code.functions (length core.functions)) (w ∷ []) depth level) tails ≡ root_start core code w depth level tails
made_root core code w depth level tails lo =
    let h = is_last core code 0 core.functions code.functions lo.functions in
    let a = start_at code.functions (length core.functions) in
    let e = h.entry in
    let same : started_by code a (w ∷ []) depth level (Some e) ≡ entry_start code e (w ∷ []) depth level =
    ap (λ (b : Bool). cond b (entry_start code e (w ∷ []) depth level) (started_by_fork code a (w ∷ []) depth level (fork_to code.instructions a))) (eq-eqb e.start a (sym h.start)) in
    ap (λ (o : Option Entry). with_tails (started_by code a (w ∷ []) depth level o) tails) h.last
    ∙ ap (λ (s : State). with_tails s tails) same
    ∙ ap (λ (n : ℕ). made_with core code w depth level tails n e.slots e.result (cond (is_packed e.result) Opening Ready)) (sym h.start)
    ∙ ap (λ (n : ℕ). made_with core code w depth level tails a n e.result (cond (is_packed e.result) Opening Ready)) (sym h.slots)
    ∙ ap (λ (u : AnswerType). made_with core code w depth level tails a (slots_at code.functions (length core.functions)) u (cond (is_packed u) Opening Ready)) h.result
    ∙ ap (λ (d : Doing). made_with core code w depth level tails a (slots_at code.functions (length core.functions)) (of.One core.main.result) d) (first_same core.main.result)
