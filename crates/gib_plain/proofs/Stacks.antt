-- The two stacks of a machine, and what its frames see of them.
use Rattle.std.proofs.Common.{◌≡◌, ℕ, ◌+◌, ◌≤◌, List, [], ◌∷◌, ◌++◌, length, take, drop, map, refl, sym, ap, ◌∙◌, arith}
use Rattle.std.specs.List.{AllByRecursion}
use Rattle.std.proofs.lemmas.List.{take-take}
use Rattle.gib_types.specs.Tree.{Datum}
use Rattle.gib_value.specs.declared.node.Node.{Node}
use Rattle.gib_value.specs.declared.node.Node.TheVariants as node
use Rattle.gib_value.specs.Heap.{value_of, IsWithin}
use Rattle.gib_syntax.specs.declared.tree.Ident.{Ident}
use Rattle.gib_syntax.specs.Declarations.{number_of}
use Rattle.gib_syntax.specs.Meaning.{Environment, bind}
use Rattle.gib_plain.specs.declared.stack.Binding.{Binding}
use Rattle.gib_plain.specs.declared.machine.Frame.{Frame}
use Rattle.gib_plain.specs.Running.{Waiting}
use Rattle.gib_plain.specs.Stacks.{cut, env_over, env_of, bindings_of, IsBound}
use Rattle.gib_plain.specs.Machines.{waiting, all_waiting, Nest}
use Rattle.gib_value.proofs.HeapLemmas.{All-take, All-drop, value_of-more, values-more, IsWithin-later}

-- ---- nodes where the heap grows

pub AllBound-later : (m n : ℕ) (xs : List Binding) → m ≤ n → AllByRecursion (IsBound m) xs → AllByRecursion (IsBound n) xs
AllBound-later m n [] le h = tt
AllBound-later m n (x ∷ xs) le h = (IsWithin-later m n x.value le h.0, AllBound-later m n xs le h.1)

-- ---- variables

pub env_over-append : (heap : List Datum) (xs ys : List Binding) (env : Environment) → env_over heap (xs ++ ys) env ≡ env_over heap ys (env_over heap xs env)
env_over-append heap [] ys env = refl
env_over-append heap (x ∷ xs) ys env = env_over-append heap xs ys ((x.name.0, value_of heap x.value) ∷ env)

pub env_over-more : (heap later : List Datum) (bs : List Binding) (env : Environment) → AllByRecursion (IsBound (length heap)) bs → env_over (heap ++ later) bs env ≡ env_over heap bs env
env_over-more heap later [] env h = refl
env_over-more heap later (b ∷ bs) env h =
    ap (λ (v : Datum). env_over (heap ++ later) bs ((b.name.0, v) ∷ env)) (value_of-more heap later b.value h.0)
    ∙ env_over-more heap later bs ((b.name.0, value_of heap b.value) ∷ env) h.1

pub env_over-bindings : (heap : List Datum) (xs : List Ident) (ws : List Node) (env : Environment) → env_over heap (bindings_of xs ws) env ≡ bind xs (map (value_of heap) ws) env
env_over-bindings heap [] ws env = refl
env_over-bindings heap (x ∷ xs) [] env = refl
env_over-bindings heap (x ∷ xs) (w ∷ ws) env = env_over-bindings heap xs ws ((number_of x, value_of heap w) ∷ env)

pub bindings-within : (n : ℕ) (xs : List Ident) (ws : List Node) → AllByRecursion (IsWithin n) ws → AllByRecursion (IsBound n) (bindings_of xs ws)
bindings-within n [] ws h = tt
bindings-within n (x ∷ xs) [] h = tt
bindings-within n (x ∷ xs) (w ∷ ws) h = (h.0, bindings-within n xs ws h.1)

-- ---- frames

pub nest_le : (v t : ℕ) (fs : List Frame) (a b : ℕ) → Nest v t fs a b → (v ≤ a) × (t ≤ b)
nest_le v t [] a b n = n
nest_le v t (f ∷ fs) a b n = let r = nest_le f.vars_len f.temps_len fs a b n.4 in (omega arith, omega arith)

pub nest_more : (v t : ℕ) (fs : List Frame) (a b a' b' : ℕ) → Nest v t fs a b → a ≤ a' → b ≤ b' → Nest v t fs a' b'
nest_more v t [] a b a' b' n p q = (omega arith, omega arith)
nest_more v t (f ∷ fs) a b a' b' n p q = (n.0, n.1, n.2, n.3, nest_more f.vars_len f.temps_len fs a b a' b' n.4 p q)

pub nest_push : (v t : ℕ) (fs : List Frame) (f : Frame) (a b : ℕ) → Nest v t fs f.vars_len f.start → f.base ≤ f.vars_len → f.start ≤ f.temps_len → f.vars_len ≤ a → f.temps_len ≤ b → Nest v t (fs ++ f ∷ []) a b
nest_push v t [] f a b n base start va tb = (n.0, base, n.1, start, (va, tb))
nest_push v t (g ∷ fs) f a b n base start va tb = (n.0, n.1, n.2, n.3, nest_push g.vars_len g.temps_len fs f a b n.4 base start va tb)

-- what is known of the newest frame, and of those below it
pub record Popped (v t : ℕ) (fs : List Frame) (f : Frame) (a b : ℕ) : Type 0 where
  pub below : Nest v t fs f.vars_len f.start
  pub base : f.base ≤ f.vars_len
  pub start : f.start ≤ f.temps_len
  pub vars : f.vars_len ≤ a
  pub temps : f.temps_len ≤ b

pub nest_pop : (v t : ℕ) (fs : List Frame) (f : Frame) (a b : ℕ) → Nest v t (fs ++ f ∷ []) a b → Popped v t fs f a b
nest_pop v t [] f a b n = record { below = (n.0, n.2); base = n.1; start = n.3; vars = n.4.0; temps = n.4.1 }
nest_pop v t (g ∷ fs) f a b n =
    let r = nest_pop g.vars_len g.temps_len fs f a b n.4 in
    record { below = (n.0, n.1, n.2, n.3, r.below); base = r.base; start = r.start; vars = r.vars; temps = r.temps }

pub cut_same : {X : Type 0} (xs ys : List X) (from to n : ℕ) → to ≤ n → take n xs ≡ take n ys → cut xs from to ≡ cut ys from to
cut_same xs ys from to n le e =
    ap (drop from) (sym (take-take to n xs le) ∙ ap (take to) e ∙ take-take to n ys le)

waiting_same : (heap heap' : List Datum) (xs ys : List Binding) (us ws : List Node) (f : Frame) → env_of heap (cut xs f.base f.vars_len) ≡ env_of heap' (cut ys f.base f.vars_len) → map (value_of heap) (cut us f.start f.temps_len) ≡ map (value_of heap') (cut ws f.start f.temps_len) → waiting heap xs us f ≡ waiting heap' ys ws f
waiting_same heap heap' xs ys us ws f p q =
    let W : Environment → List Datum → Waiting = λ es ds. record { left = f.left; env = es; finished = ds; id = f.id.0 } in
    ap (λ (es : Environment). W es (map (value_of heap) (cut us f.start f.temps_len))) p ∙ ap (W (env_of heap' (cut ys f.base f.vars_len))) q

-- frames see only what lies below the ends
pub frames_same : (heap : List Datum) (xs ys : List Binding) (us ws : List Node) (v t : ℕ) (fs : List Frame) (a b : ℕ) → Nest v t fs a b → take a xs ≡ take a ys → take b us ≡ take b ws → all_waiting heap xs us fs ≡ all_waiting heap ys ws fs
frames_same heap xs ys us ws v t [] a b n p q = refl
frames_same heap xs ys us ws v t (f ∷ fs) a b n p q =
    let le = nest_le f.vars_len f.temps_len fs a b n.4 in
    let w = waiting_same heap heap xs ys us ws f (ap (env_of heap) (cut_same xs ys f.base f.vars_len a le.0 p)) (ap (map (value_of heap)) (cut_same us ws f.start f.temps_len b le.1 q)) in
    ap (λ (x : Waiting). x ∷ all_waiting heap xs us fs) w
    ∙ ap (λ (r : List Waiting). waiting heap ys ws f ∷ r) (frames_same heap xs ys us ws f.vars_len f.temps_len fs a b n.4 p q)

-- more values in the heap change nothing
pub frames_grown : (heap later : List Datum) (xs : List Binding) (us : List Node) (fs : List Frame) → AllByRecursion (IsBound (length heap)) xs → AllByRecursion (IsWithin (length heap)) us → all_waiting (heap ++ later) xs us fs ≡ all_waiting heap xs us fs
frames_grown heap later xs us [] p q = refl
frames_grown heap later xs us (f ∷ fs) p q =
    let w = waiting_same (heap ++ later) heap xs xs us us f (env_over-more heap later (cut xs f.base f.vars_len) [] (All-drop (IsBound (length heap)) f.base (take f.vars_len xs) (All-take (IsBound (length heap)) f.vars_len xs p))) (values-more heap later (cut us f.start f.temps_len) (All-drop (IsWithin (length heap)) f.start (take f.temps_len us) (All-take (IsWithin (length heap)) f.temps_len us q))) in
    ap (λ (x : Waiting). x ∷ all_waiting (heap ++ later) xs us fs) w
    ∙ ap (λ (r : List Waiting). waiting heap xs us f ∷ r) (frames_grown heap later xs us fs p q)
