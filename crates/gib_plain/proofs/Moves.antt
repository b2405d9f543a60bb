-- The machine's moves on its stacks and frames.
use Rattle.std.proofs.Common.{◌≡◌, ℕ, zero, suc, ◌+◌, ◌-◌, ◌<◌, ◌≤◌, List, [], ◌∷◌, ◌++◌, length, take, drop, map, refl, sym, ap, subst, ◌∙◌, arith, length-append, length-take, append_assoc, append-nil, get_or, false, cond, Result, Ok, Err}
use Rattle.std.specs.List.{AllByRecursion}
use Rattle.std.specs.Prelude.{is_ok, is_err}
use Rattle.std.proofs.lemmas.List.{take-take, take-append-le, map-append, drop-append-le, same_from_push, take_all, take_more, drop_more, drop_all, length-drop, length-map}
use Rattle.gib_types.specs.Tree.{Datum, data_of, list_of}
use Rattle.gib_value.specs.declared.node.Node.{Node}
use Rattle.gib_value.specs.Heap.{value_of, IsWithin}
use Rattle.gib_syntax.specs.declared.tree.Ident.{Ident}
use Rattle.gib_syntax.specs.declared.tree.Parameter.{Parameter}
use Rattle.gib_syntax.specs.Meaning.{Environment, bind, bind_results, names_of, parts}
use Rattle.gib_plain.specs.declared.stack.Binding.{Binding}
use Rattle.gib_plain.specs.declared.machine.Frame.{Frame}
use Rattle.gib_plain.specs.Running.{Waiting, Doing, State, with_done}
use Rattle.gib_plain.specs.Stacks.{cut, env_of, env_over, bindings_of, Adds, IsBound}
use Rattle.gib_plain.specs.Machines.{waiting, all_waiting, Nest, Held}
use Rattle.gib_plain.proofs.Stacks.{AllBound-later, bindings-within, env_over-append, env_over-more, env_over-bindings, nest_more, nest_push, nest_pop, Popped, frames_same, frames_grown}
use Rattle.gib_value.proofs.HeapLemmas.{All-append, All-take, All-drop, AllWithin-later}

pub held_push : (h : List Datum) (vars : List Binding) (temps : List Node) (fs : List Frame) (base : ℕ) (f : Frame) → Held h vars temps fs base → Nest 0 0 fs f.vars_len f.start → f.base ≤ f.vars_len → f.start ≤ f.temps_len → f.vars_len ≤ length vars → f.temps_len ≤ length temps → Held h vars temps (fs ++ f ∷ []) base
held_push h vars temps fs base f held n b a v t = record { vars_within = held.vars_within; temps_within = held.temps_within; base_in = held.base_in; nest = nest_push 0 0 fs f (length vars) (length temps) n b a v t }

pub held_wait : (h : List Datum) (vars : List Binding) (temps : List Node) (fs : List Frame) (base : ℕ) (f : Frame) → Held h vars temps fs base → f.base ≡ base → f.vars_len ≡ length vars → f.start ≡ length temps → f.temps_len ≡ length temps → Held h vars temps (fs ++ f ∷ []) base
held_wait h vars temps fs base f held b v a t =
    held_push h vars temps fs base f held (nest_more 0 0 fs (length vars) (length temps) f.vars_len f.start held.nest (omega arith) (omega arith)) (omega (arith, held.base_in)) (omega arith) (omega arith) (omega arith)

pub popped : (h : List Datum) (vars : List Binding) (temps : List Node) (fs : List Frame) (f : Frame) (base : ℕ) → Held h vars temps (fs ++ f ∷ []) base → Popped 0 0 fs f (length vars) (length temps)
popped h vars temps fs f base held = nest_pop 0 0 fs f (length vars) (length temps) held.nest

pub held_pop : (h : List Datum) (vars : List Binding) (temps : List Node) (fs : List Frame) (f : Frame) (base : ℕ) → Held h vars temps (fs ++ f ∷ []) base → Held h vars temps fs base
held_pop h vars temps fs f base held =
    let p = popped h vars temps fs f base held in
    record { vars_within = held.vars_within; temps_within = held.temps_within; base_in = held.base_in; nest = nest_more 0 0 fs f.vars_len f.start (length vars) (length temps) p.below p.vars (omega (arith, p.start, p.temps)) }

-- back to the frame's variables and parts
pub held_back : (h : List Datum) (vars : List Binding) (temps : List Node) (fs : List Frame) (f : Frame) (base : ℕ) → Held h vars temps (fs ++ f ∷ []) base → Held h (take f.vars_len vars) (take f.temps_len temps) fs f.base
held_back h vars temps fs f base held =
    let p = popped h vars temps fs f base held in
    let lv = length-take f.vars_len vars in
    let lt = length-take f.temps_len temps in
    record {
      vars_within = All-take (IsBound (length h)) f.vars_len vars held.vars_within;
      temps_within = All-take (IsWithin (length h)) f.temps_len temps held.temps_within;
      base_in = omega (arith, lv, p.base, p.vars);
      nest = nest_more 0 0 fs f.vars_len f.start (length (take f.vars_len vars)) (length (take f.temps_len temps)) p.below (omega (arith, lv, p.vars)) (omega (arith, lt, p.start, p.temps));
    }

pub held_taken : (h : List Datum) (vars : List Binding) (temps : List Node) (fs : List Frame) (f : Frame) (base : ℕ) (w : Node) (n : ℕ) → Held h vars temps (fs ++ f ∷ []) base → IsWithin (length h) w → n ≡ f.temps_len + 1 → Held h (take f.vars_len vars) (take f.temps_len temps ++ w ∷ []) (fs ++ record f { temps_len = n } ∷ []) f.base
held_taken h vars temps fs f base w n held fit e =
    let p = popped h vars temps fs f base held in
    let b = held_back h vars temps fs f base held in
    let lv = length-take f.vars_len vars in
    let lt = length-take f.temps_len temps in
    let la = length-append (take f.temps_len temps) (w ∷ []) in
    record {
      vars_within = b.vars_within;
      temps_within = All-append (IsWithin (length h)) (take f.temps_len temps) (w ∷ []) b.temps_within (fit, tt);
      base_in = b.base_in;
      nest = nest_push 0 0 fs (record f { temps_len = n }) (length (take f.vars_len vars)) (length (take f.temps_len temps ++ w ∷ [])) p.below p.base (omega (arith, p.start, e)) (omega (arith, lv, p.vars)) (omega (arith, lt, la, e, p.temps));
    }

pub within_parts : (h : List Datum) (vars : List Binding) (temps : List Node) (fs : List Frame) (f : Frame) (base : ℕ) → Held h vars temps (fs ++ f ∷ []) base → AllByRecursion (IsWithin (length h)) (cut temps f.start f.temps_len)
within_parts h vars temps fs f base held = All-drop (IsWithin (length h)) f.start (take f.temps_len temps) (All-take (IsWithin (length h)) f.temps_len temps held.temps_within)

-- the parts become variables
pub held_bind : (h : List Datum) (vars more : List Binding) (temps : List Node) (fs : List Frame) (f : Frame) (base base' : ℕ) → Held h vars temps (fs ++ f ∷ []) base → AllByRecursion (IsBound (length h)) more → base' ≤ length vars → Held h (vars ++ more) (take f.start temps) fs base'
held_bind h vars more temps fs f base base' held fit le =
    let p = popped h vars temps fs f base held in
    let lt = length-take f.start temps in
    let la = length-append vars more in
    record {
      vars_within = All-append (IsBound (length h)) vars more held.vars_within fit;
      temps_within = All-take (IsWithin (length h)) f.start temps held.temps_within;
      base_in = omega (arith, la, le);
      nest = nest_more 0 0 fs f.vars_len f.start (length (vars ++ more)) (length (take f.start temps)) p.below (omega (arith, la, p.vars)) (omega (arith, lt, p.start, p.temps));
    }

-- the parts are done with
pub held_drop : (h : List Datum) (vars : List Binding) (temps : List Node) (fs : List Frame) (f : Frame) (base : ℕ) → Held h vars temps (fs ++ f ∷ []) base → Held h vars (take f.start temps) fs base
held_drop h vars temps fs f base held =
    let p = popped h vars temps fs f base held in
    let lt = length-take f.start temps in
    record {
      vars_within = held.vars_within;
      temps_within = All-take (IsWithin (length h)) f.start temps held.temps_within;
      base_in = held.base_in;
      nest = nest_more 0 0 fs f.vars_len f.start (length vars) (length (take f.start temps)) p.below p.vars (omega (arith, lt, p.start, p.temps));
    }

pub held_more : (h : List Datum) (vars more : List Binding) (temps : List Node) (fs : List Frame) (base : ℕ) → Held h vars temps fs base → AllByRecursion (IsBound (length h)) more → Held h (vars ++ more) temps fs base
held_more h vars more temps fs base held fit =
    let la = length-append vars more in
    record {
      vars_within = All-append (IsBound (length h)) vars more held.vars_within fit;
      temps_within = held.temps_within;
      base_in = omega (arith, la, held.base_in);
      nest = nest_more 0 0 fs (length vars) (length temps) (length (vars ++ more)) (length temps) held.nest (omega (arith, la)) (omega arith);
    }

pub held_grown : (h later : List Datum) (vars : List Binding) (temps : List Node) (fs : List Frame) (base : ℕ) → Held h vars temps fs base → Held (h ++ later) vars temps fs base
held_grown h later vars temps fs base held =
    let le : length h ≤ length (h ++ later) = omega (arith, length-append h later) in
    record {
      vars_within = AllBound-later (length h) (length (h ++ later)) vars le held.vars_within;
      temps_within = AllWithin-later (length h) (length (h ++ later)) temps le held.temps_within;
      base_in = held.base_in;
      nest = held.nest;
    }

-- ---- what the frames show

pub frames_popped : (h : List Datum) (vars : List Binding) (temps : List Node) (fs : List Frame) (f : Frame) (shown : List Waiting) (a : Waiting) → all_waiting h vars temps (fs ++ f ∷ []) ≡ shown ++ a ∷ [] → (all_waiting h vars temps fs ≡ shown) × (waiting h vars temps f ≡ a)
frames_popped h vars temps fs f shown a e =
    same_from_push (all_waiting h vars temps fs) shown (waiting h vars temps f) a (sym (map-append (waiting h vars temps) fs (f ∷ [])) ∙ e)

-- the frames below the newest one see the same after it
pub below_same : (h : List Datum) (vars vars' : List Binding) (temps temps' : List Node) (fs : List Frame) (f : Frame) (base : ℕ) → Held h vars temps (fs ++ f ∷ []) base → take f.vars_len vars' ≡ take f.vars_len vars → take f.start temps' ≡ take f.start temps → all_waiting h vars' temps' fs ≡ all_waiting h vars temps fs
below_same h vars vars' temps temps' fs f base held p q =
    frames_same h vars' vars temps' temps 0 0 fs f.vars_len f.start ((popped h vars temps fs f base held).below) p q

pub taken : (h : List Datum) (vars : List Binding) (temps : List Node) (fs : List Frame) (f : Frame) (base : ℕ) (w : Node) (n : ℕ) (shown : List Waiting) (a : Waiting) → Held h vars temps (fs ++ f ∷ []) base → n ≡ f.temps_len + 1 → all_waiting h vars temps (fs ++ f ∷ []) ≡ shown ++ a ∷ [] → all_waiting h (take f.vars_len vars) (take f.temps_len temps ++ w ∷ []) (fs ++ record f { temps_len = n } ∷ []) ≡ shown ++ with_done a (value_of h w) ∷ []
taken h vars temps fs f base w n shown a held en e =
    let p = popped h vars temps fs f base held in
    let r = frames_popped h vars temps fs f shown a e in
    let vars' = take f.vars_len vars in
    let temps' = take f.temps_len temps ++ w ∷ [] in
    let lt = length-take f.temps_len temps in
    let la = length-append (take f.temps_len temps) (w ∷ []) in
    let same : all_waiting h vars' temps' fs ≡ all_waiting h vars temps fs =
    below_same h vars vars' temps temps' fs f base held (take-take f.vars_len f.vars_len vars (omega arith)) (take-append-le f.start (take f.temps_len temps) (w ∷ []) (omega (arith, lt, p.start, p.temps)) ∙ take-take f.start f.temps_len temps p.start) in
    let ev : cut vars' f.base f.vars_len ≡ cut vars f.base f.vars_len = ap (drop f.base) (take-take f.vars_len f.vars_len vars (omega arith)) in
    let dn : cut temps' f.start n ≡ cut temps f.start f.temps_len ++ w ∷ [] = ap (drop f.start) (take_all n temps' (omega (arith, la, lt, en, p.temps))) ∙ drop-append-le f.start (take f.temps_len temps) (w ∷ []) (omega (arith, lt, p.start, p.temps)) in
    let new : waiting h vars' temps' (record f { temps_len = n }) ≡ with_done (waiting h vars temps f) (value_of h w) =
    ap (λ (es : List Binding). record { left = f.left; env = env_of h es; finished = map (value_of h) (cut temps' f.start n); id = f.id.0 }) ev
    ∙ ap (λ (ds : List Datum). record { left = f.left; env = env_of h (cut vars f.base f.vars_len); finished = ds; id = f.id.0 }) (ap (map (value_of h)) dn ∙ map-append (value_of h) (cut temps f.start f.temps_len) (w ∷ [])) in
    map-append (waiting h vars' temps') fs (record f { temps_len = n } ∷ [])
    ∙ ap (λ xs. xs ++ waiting h vars' temps' (record f { temps_len = n }) ∷ []) (same ∙ r.0)
    ∙ ap (λ x. shown ++ x ∷ []) (new ∙ ap (λ x. with_done x (value_of h w)) r.1)

-- the frames below where the parts became variables, or are done with
pub bound : (h : List Datum) (vars more : List Binding) (temps : List Node) (fs : List Frame) (f : Frame) (base : ℕ) (shown : List Waiting) (a : Waiting) → Held h vars temps (fs ++ f ∷ []) base → all_waiting h vars temps (fs ++ f ∷ []) ≡ shown ++ a ∷ [] → all_waiting h (vars ++ more) (take f.start temps) fs ≡ shown
bound h vars more temps fs f base shown a held e =
    let p = popped h vars temps fs f base held in
    below_same h vars (vars ++ more) temps (take f.start temps) fs f base held (take-append-le f.vars_len vars more p.vars) (take-take f.start f.start temps (omega arith))
    ∙ (frames_popped h vars temps fs f shown a e).0

pub dropped : (h : List Datum) (vars : List Binding) (temps : List Node) (fs : List Frame) (f : Frame) (base : ℕ) (shown : List Waiting) (a : Waiting) → Held h vars temps (fs ++ f ∷ []) base → all_waiting h vars temps (fs ++ f ∷ []) ≡ shown ++ a ∷ [] → all_waiting h vars (take f.start temps) fs ≡ shown
dropped h vars temps fs f base shown a held e =
    below_same h vars vars temps (take f.start temps) fs f base held refl (take-take f.start f.start temps (omega arith))
    ∙ (frames_popped h vars temps fs f shown a e).0

pub more_vars : (h : List Datum) (vars more : List Binding) (temps : List Node) (fs : List Frame) (base : ℕ) → Held h vars temps fs base → all_waiting h (vars ++ more) temps fs ≡ all_waiting h vars temps fs
more_vars h vars more temps fs base held =
    frames_same h (vars ++ more) vars temps temps 0 0 fs (length vars) (length temps) held.nest (take-append-le (length vars) vars more (omega arith)) refl

-- variables bound over those in scope
pub env_bound : (h : List Datum) (vars : List Binding) (xs : List Ident) (ws : List Node) (base : ℕ) → base ≤ length vars → env_of h (drop base (vars ++ bindings_of xs ws)) ≡ bind xs (map (value_of h) ws) (env_of h (drop base vars))
env_bound h vars xs ws base le =
    ap (env_of h) (drop-append-le base vars (bindings_of xs ws) le)
    ∙ env_over-append h (drop base vars) (bindings_of xs ws) []
    ∙ env_over-bindings h xs ws (env_of h (drop base vars))

-- so of those that something was said of
pub env_added : (h : List Datum) (vars added : List Binding) (base : ℕ) (change : Environment → Environment) → base ≤ length vars → ((env : Environment) → env_over h added env ≡ change env) → env_of h (drop base (vars ++ added)) ≡ change (env_of h (drop base vars))
env_added h vars added base change le same =
    ap (env_of h) (drop-append-le base vars added le)
    ∙ env_over-append h (drop base vars) added []
    ∙ same (env_of h (drop base vars))

pub state_eq : (fs fs' : List Waiting) (l l' : ℕ) (e e' : Environment) (d d' : Doing) → fs ≡ fs' → l ≡ l' → e ≡ e' → d ≡ d' → (let s : State = record { frames = fs; left = l; env = e; doing = d } in s) ≡ record { frames = fs'; left = l'; env = e'; doing = d' }
state_eq fs fs' l l' e e' d d' q r s t = cc

-- with the frames as the code has them
pub held_at : (h : List Datum) (vars : List Binding) (temps : List Node) (frames fs : List Frame) (f : Frame) (base : ℕ) → frames ≡ fs ++ f ∷ [] → Held h vars temps frames base → Held h vars temps (fs ++ f ∷ []) base
held_at h vars temps frames fs f base e held = subst (λ fr. Held h vars temps fr base) e held

pub seen_at : (h : List Datum) (vars : List Binding) (temps : List Node) (frames fs : List Frame) (f : Frame) (seen : List Waiting) → frames ≡ fs ++ f ∷ [] → all_waiting h vars temps frames ≡ seen → all_waiting h vars temps (fs ++ f ∷ []) ≡ seen
seen_at h vars temps frames fs f seen e q = subst (λ fr. all_waiting h vars temps fr ≡ seen) e q

-- how many parts of a frame are done
pub done_len : (h : List Datum) (vars : List Binding) (temps : List Node) (fs : List Frame) (f : Frame) (base : ℕ) → Held h vars temps (fs ++ f ∷ []) base → length (map (value_of h) (cut temps f.start f.temps_len)) ≡ f.temps_len - f.start
done_len h vars temps fs f base held =
    let p = popped h vars temps fs f base held in
    length-map (cut temps f.start f.temps_len) (value_of h) ∙ length-drop f.start (take f.temps_len temps) ∙ ap (λ n. n - f.start) (let e : length (take f.temps_len temps) ≡ f.temps_len = omega (arith, length-take f.temps_len temps, p.temps) in e)

-- the stacks show the same with more values in the heap
pub grown : (h h' later : List Datum) (vars : List Binding) (temps : List Node) (fs : List Frame) (base : ℕ) → h' ≡ h ++ later → Held h vars temps fs base → Held h' vars temps fs base × (all_waiting h' vars temps fs ≡ all_waiting h vars temps fs) × (env_of h' (drop base vars) ≡ env_of h (drop base vars))
grown h h' later vars temps fs base e held =
    let all : Held (h ++ later) vars temps fs base × (all_waiting (h ++ later) vars temps fs ≡ all_waiting h vars temps fs) × (env_of (h ++ later) (drop base vars) ≡ env_of h (drop base vars)) = (
      held_grown h later vars temps fs base held,
      frames_grown h later vars temps fs held.vars_within held.temps_within,
      env_over-more h later (drop base vars) [] (All-drop (IsBound (length h)) base vars held.vars_within),
    ) in
    subst (λ (k : List Datum). Held k vars temps fs base × (all_waiting k vars temps fs ≡ all_waiting h vars temps fs) × (env_of k (drop base vars) ≡ env_of h (drop base vars))) (sym e) all

-- ---- bindings, one by one

pub last_at : (xs : List Frame) (n : ℕ) (x : Frame) → n ≡ length xs → (n ≡ 0 → ⊥) → x ≡ get_or xs (n - 1) x → xs ≡ take (n - 1) xs ++ x ∷ []
last_at xs n x e some is =
    let k = n - 1 in
    let up : k + 1 ≡ length xs = omega arith in
    sym (take_all (k + 1) xs (omega arith)) ∙ take_more xs k x (omega arith) ∙ ap (λ (y : Frame). take k xs ++ y ∷ []) (sym is)

bindings-none : (xs : List Ident) → bindings_of xs [] ≡ []
bindings-none [] = refl
bindings-none (x ∷ xs) = refl

pub bound_all : (vars all : List Binding) (xs : List Ident) (ws : List Node) (i : ℕ) → length ws ≤ i → vars ++ bindings_of (drop i xs) (drop i ws) ≡ all → vars ≡ all
bound_all vars all xs ws i le e =
    sym (append-nil vars) ∙ ap (λ (bs : List Binding). vars ++ bs) (sym (ap (bindings_of (drop i xs)) (drop_all i ws le) ∙ bindings-none (drop i xs))) ∙ e

pub names-at : (ps : List Parameter) (i : ℕ) (d : Parameter) → i < length ps → drop i (names_of ps) ≡ (get_or ps i d).name ∷ drop (i + 1) (names_of ps)
names-at [] i d lt = absurd (omega arith)
names-at (p ∷ ps) zero d lt = ap (λ (n : ℕ). p.name ∷ drop n (names_of (p ∷ ps))) (let e : suc zero ≡ zero + 1 = omega arith in e)
names-at (p ∷ ps) (suc i) d lt =
    names-at ps i d (omega arith) ∙ ap (λ (n : ℕ). (get_or ps i d).name ∷ drop n (names_of (p ∷ ps))) (let e : suc (i + 1) ≡ suc i + 1 = omega arith in e)

pub pushed : {T E : Type 0} (new old : List Binding) (b : Binding) (r : Result T E) → new ≡ cond (is_ok r) (old ++ b ∷ []) old → is_err r ≡ false → new ≡ old ++ b ∷ []
pushed new old b (Ok t) e h = e
pushed new old b (Err x) e h = absurd (cc)

pub bound_one : (new vars all : List Binding) (ps : List Parameter) (ws : List Node) (i : ℕ) (d : Parameter) (e : Node) → new ≡ vars ++ record { name = (get_or ps i d).name.name; value = get_or ws i e } ∷ [] → i < length ps → i < length ws → vars ++ bindings_of (drop i (names_of ps)) (drop i ws) ≡ all → new ++ bindings_of (drop (i + 1) (names_of ps)) (drop (i + 1) ws) ≡ all
bound_one new vars all ps ws i d e en lp lw is =
    let b : Binding = record { name = (get_or ps i d).name.name; value = get_or ws i e } in
    let rest = bindings_of (drop (i + 1) (names_of ps)) (drop (i + 1) ws) in
    let both : bindings_of (drop i (names_of ps)) (drop i ws) ≡ b ∷ rest =
    ap (λ (ys : List Ident). bindings_of ys (drop i ws)) (names-at ps i d lp) ∙ ap (bindings_of ((get_or ps i d).name ∷ drop (i + 1) (names_of ps))) (drop_more ws i e lw) in
    ap (λ (bs : List Binding). bs ++ rest) en ∙ append_assoc vars (b ∷ []) rest ∙ ap (λ (bs : List Binding). vars ++ bs) (sym both) ∙ is

pub kept_front : (new vars old : List Binding) (b : Binding) (n : ℕ) → new ≡ vars ++ b ∷ [] → n ≤ length vars → take n vars ≡ old → take n new ≡ old
kept_front new vars old b n en le e = ap (take n) en ∙ take-append-le n vars (b ∷ []) le ∙ e

pub bind-none : (xs : List Ident) (env : Environment) → bind xs [] env ≡ env
bind-none [] env = refl
bind-none (x ∷ xs) env = refl

pub list-data : (vs : List Datum) → list_of (data_of vs) ≡ vs
list-data [] = refl
list-data (v ∷ vs) = ap (λ (ws : List Datum). v ∷ ws) (list-data vs)

-- ---- bindings of what an expression gives

pub adds_none : (h : List Datum) (vars : List Binding) (change : Environment → Environment) → ((env : Environment) → env ≡ change env) → (added : List Binding) × (vars ≡ vars ++ added) × AllByRecursion (IsBound (length h)) added × ((env : Environment) → env_over h added env ≡ change env) × Unit {0}
adds_none h vars change same = ([], sym (append-nil vars), tt, same, tt)

pub adds_bindings : {T E : Type 0} (r : Result T E) (h : List Datum) (old new : List Binding) (xs : List Ident) (ws : List Node) (change : Environment → Environment) → new ≡ cond (is_ok r) (old ++ bindings_of xs ws) old → AllByRecursion (IsWithin (length h)) ws → ((env : Environment) → bind xs (map (value_of h) ws) env ≡ change env) → Adds r h old new change
adds_bindings (Ok t) h old new xs ws change e all same = (bindings_of xs ws, e, bindings-within (length h) xs ws all, λ env. env_over-bindings h xs ws env ∙ same env, tt)
adds_bindings (Err x) h old new xs ws change e all same = ([], e ∙ sym (append-nil old), tt, tt, refl)

pub adds_same : {T E : Type 0} (r : Result T E) (h : List Datum) (old new : List Binding) (change other : Environment → Environment) → ((env : Environment) → change env ≡ other env) → Adds r h old new change → Adds r h old new other
adds_same (Ok t) h old new change other same a = (a.0, a.1, a.2, λ env. a.3 env ∙ same env, tt)
adds_same (Err x) h old new change other same a = a

pub adds_both : (old mid new a b : List Binding) → mid ≡ old ++ a → new ≡ mid ++ b → new ≡ old ++ (a ++ b)
adds_both old mid new a b e f = f ∙ ap (λ (xs : List Binding). xs ++ b) e ∙ append_assoc old a b

-- one name takes the value, any other number of them its parts
pub one_bound : (ps : List Parameter) (v : Datum) (env : Environment) → length ps ≡ 1 → bind (names_of ps) (v ∷ []) env ≡ bind_results (names_of ps) v env
one_bound [] v env e = absurd (omega (arith, e))
one_bound (p ∷ []) v env e = refl
one_bound (p ∷ q ∷ ps) v env e = absurd (omega (arith, e))

pub parts_bound : (ps : List Parameter) (v : Datum) (env : Environment) → (length ps ≡ 1 → ⊥) → bind (names_of ps) (parts v) env ≡ bind_results (names_of ps) v env
parts_bound [] v env no_one = refl
parts_bound (p ∷ []) v env no_one = absurd (no_one refl)
parts_bound (p ∷ q ∷ ps) v env no_one = refl
