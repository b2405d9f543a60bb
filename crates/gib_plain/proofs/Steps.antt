-- Each step owes what was owed, and leaves less work.
use Rattle.std.proofs.Common.{◌≡◌, ℕ, suc, ◌+◌, ◌-◌, ◌≤◌, Bool, true, false, cond, eqb, List, [], ◌∷◌, ◌++◌, Option, Some, None, Result, Ok, Err, length, drop, refl, sym, ap, subst, ◌∙◌, arith, pos}
use Rattle.std.specs.Prelude.{OnOk, IfOk, MatchOption}
use Rattle.gib_types.specs.Tree.{Datum, whole, truth, con}
use Rattle.gib_syntax.specs.declared.exprs.Arm.{Arm}
use Rattle.gib_syntax.specs.declared.tree.Ident.{Ident}
use Rattle.gib_syntax.specs.Tree.{Expression, Case, FunctionTree}
use Rattle.gib_base.specs.declared.Span.{Span}
use Rattle.gib_syntax.specs.Arena.{arms_from, case_from, tree_of, ArmsBelow}
use Rattle.gib_syntax.specs.declared.tree.MainDecl.{MainDecl}
use Rattle.gib_syntax.specs.Parts.{Parts, program_of}
use Rattle.gib_syntax.specs.Declarations.{number_of, constructor_named, function_named, table_of_program}
use Rattle.gib_syntax.specs.Meaning.{Reason, Outcome, Gives, Stops, Deep, Environment, value_in, bind, choose, is_made_by, parts, eval_arms, calls, names_of, of_function, run}
use Rattle.gib_plain.specs.Running.{Waiting, Doing, Entering, Leaving, Ended, doing_for, State, Code, Around, at, code_of, gives, means_in, finish, finished, finish_cost, finished_cost, complete, complete_cost, first_parts, left_parts, after, after_cost, with_done, resume, owes, cost, cost_arms, call_cost, function_cost, pick, stack_cost, work, Comes, Goes, frame_at, is_empty, is_over, is_number, arm_of, IsScalar, IsMadeBy}
use Rattle.gib_plain.proofs.Runs.{resume-snoc, stack_cost-snoc, resume-stops, stack_cost-stops, complete-next, complete_cost-next, complete-all, complete_cost-all, IsBegun, begin-mean, begin-cost}

pub on_ok : {T E : Type 0} {X Y : Type 0} (r : Result T E) → (Y → X) → OnOk r Y → OnOk r X
on_ok (Ok t) f y = f y
on_ok (Err e) f y = tt

pub if_ok : {T E : Type 0} {X Y : T → Type 0} (r : Result T E) → ((t : T) → Y t → X t) → IfOk r Y → IfOk r X
if_ok (Ok t) f y = f t y
if_ok (Err e) f y = tt

-- where an option is one of its cases
pub match_some : {A : Type 0} (N : Type 0) (P : A → Type 0) (o : Option A) (x : A) → MatchOption o N P → o ≡ Some x → P x
match_some N P o x h e = subst (λ p. MatchOption p N P) e h

pub match_none : {A : Type 0} (N : Type 0) (P : A → Type 0) (o : Option A) → MatchOption o N P → o ≡ None → N
match_none N P o h e = subst (λ p. MatchOption p N P) e h

-- ---- what came

pub came_entering : (c : Code) (s : State) (frames : List Waiting) (n : ℕ) (env : Environment) (i : ℕ) (o : Outcome) (k : ℕ) → s ≡ record { frames = frames; left = n; env = env; doing = Entering i } → gives c n (c.tree i) env ≡ o → cost (at c n) (c.tree i) env ≤ k → Comes c s (resume c frames o) (stack_cost c frames o + k)
came_entering c s frames n env i o k is e le =
    subst (λ t. Comes c t (resume c frames o) (stack_cost c frames o + k)) (sym is) (record { same = ap (resume c frames) e; within = omega (arith, ap (stack_cost c frames) e) })

pub came_leaving : (c : Code) (s : State) (frames : List Waiting) (n : ℕ) (env : Environment) (v : Datum) (o : Outcome) (k : ℕ) → s ≡ record { frames = frames; left = n; env = env; doing = Leaving v } → Gives v ≡ o → Comes c s (resume c frames o) (stack_cost c frames o + k)
came_leaving c s frames n env v o k is e =
    subst (λ t. Comes c t (resume c frames o) (stack_cost c frames o + k)) (sym is) (record { same = ap (resume c frames) e; within = omega (arith, ap (stack_cost c frames) e) })

pub came_ended : (c : Code) (s : State) (frames fs : List Waiting) (n : ℕ) (env : Environment) (why : Reason) (k : ℕ) → s ≡ record { frames = frames; left = n; env = env; doing = Ended why } → Comes c s (resume c fs (Stops why)) k
came_ended c s frames fs n env why k is =
    subst (λ t. Comes c t (resume c fs (Stops why)) k) (sym is) (record { same = resume-stops c frames why ∙ sym (resume-stops c fs why); within = omega (arith, stack_cost-stops c frames why) })

-- the next part of a frame
pub came_next : (c : Code) (s : State) (fs : List Waiting) (f : Waiting) (n : ℕ) (env : Environment) (i : ℕ) → s ≡ record { frames = fs ++ f ∷ []; left = n; env = env; doing = Entering i } → n ≡ f.left → env ≡ f.env → left_parts c f ≡ c.tree i ∷ drop (length f.finished + 1) (first_parts (table_of_program c.program) (c.tree f.id)) → Comes c s (resume c fs (complete c f)) (stack_cost c fs (complete c f) + complete_cost c f)
came_next c s fs f n env i is el ee ei =
    let e : Expression = c.tree i in
    let o : gives c n e env ≡ gives c f.left e f.env = ap (λ m. gives c m e env) el ∙ ap (gives c f.left e) ee in
    let k : cost (at c n) e env ≡ cost (at c f.left) e f.env = ap (λ m. cost (at c m) e env) el ∙ ap (cost (at c f.left) e) ee in
    let all = complete-next c f e ei in
    let less = complete_cost-next c f e ei in
    let owed : resume c (fs ++ f ∷ []) (gives c n e env) ≡ resume c fs (complete c f) = resume-snoc c fs f (gives c n e env) ∙ ap (λ q. resume c fs (after c f q)) o ∙ ap (resume c fs) (sym all) in
    let costs : stack_cost c (fs ++ f ∷ []) (gives c n e env) ≡ stack_cost c fs (complete c f) + after_cost c f (gives c f.left e f.env) = stack_cost-snoc c fs f (gives c n e env) ∙ ap (λ q. stack_cost c fs (after c f q) + after_cost c f q) o ∙ ap (λ q. stack_cost c fs q + after_cost c f (gives c f.left e f.env)) (sym all) in
    subst (λ t. Comes c t (resume c fs (complete c f)) (stack_cost c fs (complete c f) + complete_cost c f)) (sym is) (record { same = owed; within = omega (arith, costs, k, less) })

-- a run from its start to its end
pub run_whole : (p : Parts) (m : MainDecl) (depth : ℕ) (v : Datum) (o : Outcome) (start last : State) → o ≡ owes (code_of p) last → owes (code_of p) last ≡ owes (code_of p) start → start ≡ record { frames = []; left = depth; env = (m.parameter.name.name.0, v) ∷ []; doing = Entering m.body.0 } → m ≡ p.main → o ≡ run (program_of p) depth v
run_whole p m depth v o start last told same begins main =
    told ∙ same ∙ ap (owes (code_of p)) begins ∙ ap (λ (d : MainDecl). gives (code_of p) depth (tree_of p.exprs d.body.0) ((d.parameter.name.name.0, v) ∷ [])) main

-- a frame whose parts are all done
pub came_all : (c : Code) (s : State) (fs : List Waiting) (f : Waiting) → left_parts c f ≡ [] → Comes c s (resume c fs (finished c f f.finished)) (stack_cost c fs (finished c f f.finished) + finished_cost c f f.finished) → Comes c s (resume c fs (complete c f)) (stack_cost c fs (complete c f) + complete_cost c f)
came_all c s fs f e comes =
    let all = complete-all c f e in
    record {
      same = comes.same ∙ ap (resume c fs) (sym all);
      within = omega (arith, comes.within, ap (stack_cost c fs) all, complete_cost-all c f e);
    }

-- it gives a value
pub came_value : (c : Code) (s : State) (fs : List Waiting) (f : Waiting) (E : Expression) (n : ℕ) (env : Environment) (v : Datum) → s ≡ record { frames = fs; left = n; env = env; doing = Leaving v } → c.tree f.id ≡ E → finish (at c f.left) E f.env f.finished ≡ Gives v → Comes c s (resume c fs (finished c f f.finished)) (stack_cost c fs (finished c f f.finished) + finished_cost c f f.finished)
came_value c s fs f E n env v is tree e =
    came_leaving c s fs n env v (finished c f f.finished) (finished_cost c f f.finished) is (sym e ∙ ap (λ t. finish (at c f.left) t f.env f.finished) (sym tree))

-- it gives a value, or none
pub came_outcome : (c : Code) (s : State) (fs : List Waiting) (f : Waiting) (E : Expression) (n : ℕ) (env : Environment) (o : Outcome) → s ≡ record { frames = fs; left = n; env = env; doing = doing_for o } → c.tree f.id ≡ E → finish (at c f.left) E f.env f.finished ≡ o → Comes c s (resume c fs (finished c f f.finished)) (stack_cost c fs (finished c f f.finished) + finished_cost c f f.finished)
came_outcome c s fs f E n env (Gives v) is tree e = came_value c s fs f E n env v is tree e
came_outcome c s fs f E n env (Stops why) is tree e =
    let o : finished c f f.finished ≡ Stops why = ap (λ t. finish (at c f.left) t f.env f.finished) tree ∙ e in
    let k = finished_cost c f f.finished in
    subst (λ q. Comes c s (resume c fs q) (stack_cost c fs q + k)) (sym o) (came_ended c s fs fs n env why (stack_cost c fs (Stops why) + k) is)

-- a body comes next
pub came_body : (c : Code) (s : State) (fs : List Waiting) (f : Waiting) (E : Expression) (n : ℕ) (env : Environment) (i : ℕ) → s ≡ record { frames = fs; left = n; env = env; doing = Entering i } → c.tree f.id ≡ E → finish (at c f.left) E f.env f.finished ≡ gives c n (c.tree i) env → cost (at c n) (c.tree i) env ≤ finish_cost (at c f.left) E f.env f.finished → Comes c s (resume c fs (finished c f f.finished)) (stack_cost c fs (finished c f f.finished) + finished_cost c f f.finished)
came_body c s fs f E n env i is tree e le =
    came_entering c s fs n env i (finished c f f.finished) (finished_cost c f f.finished) is
    (sym e ∙ ap (λ t. finish (at c f.left) t f.env f.finished) (sym tree))
    (omega (arith, le, ap (λ t. finish_cost (at c f.left) t f.env f.finished) tree))

-- a call: its body comes next
pub came_call : (c : Code) (s : State) (fs : List Waiting) (f : Waiting) (E : Expression) (name n i : ℕ) (g : FunctionTree) → s ≡ record { frames = fs; left = n - 1; env = bind (names_of g.parameters) f.finished []; doing = Entering i } → c.tree f.id ≡ E → ((a : Around) (env : Environment) (vs : List Datum) → finish a E env vs ≡ a.call name vs) → ((a : Around) (env : Environment) (vs : List Datum) → finish_cost a E env vs ≡ a.steps name vs) → n ≡ f.left → (n ≡ 0 → ⊥) → function_named c.program.functions name ≡ Some g → g.body ≡ c.tree i → Comes c s (resume c fs (finished c f f.finished)) (stack_cost c fs (finished c f f.finished) + finished_cost c f f.finished)
came_call c s fs f E name n i g is tree call steps el some found body =
    let up : suc (n - 1) ≡ f.left = omega arith in
    let env = bind (names_of g.parameters) f.finished [] in
    let o : calls c.program (suc (n - 1)) name f.finished ≡ gives c (n - 1) (c.tree i) env =
    ap (λ h. of_function h (λ (k : FunctionTree). means_in (at c (n - 1)) k.body (bind (names_of k.parameters) f.finished []))) found ∙ ap (λ t. gives c (n - 1) t env) body in
    let k : call_cost c.program (suc (n - 1)) name f.finished ≡ cost (at c (n - 1)) (c.tree i) env =
    ap (λ h. function_cost h (λ (k : FunctionTree). cost (at c (n - 1)) k.body (bind (names_of k.parameters) f.finished []))) found ∙ ap (λ t. cost (at c (n - 1)) t env) body in
    came_body c s fs f E (n - 1) env i is tree
    (call (at c f.left) f.env f.finished ∙ ap (λ m. calls c.program m name f.finished) (sym up) ∙ o)
    (omega (arith, steps (at c f.left) f.env f.finished, ap (λ m. call_cost c.program m name f.finished) up, k))

-- a call of no function
pub came_nowhere : (c : Code) (s : State) (fs : List Waiting) (f : Waiting) (E : Expression) (name n : ℕ) (env : Environment) → s ≡ record { frames = fs; left = n; env = env; doing = Leaving (whole (pos 0)) } → c.tree f.id ≡ E → ((a : Around) (env : Environment) (vs : List Datum) → finish a E env vs ≡ a.call name vs) → n ≡ f.left → (n ≡ 0 → ⊥) → function_named c.program.functions name ≡ None → Comes c s (resume c fs (finished c f f.finished)) (stack_cost c fs (finished c f f.finished) + finished_cost c f f.finished)
came_nowhere c s fs f E name n env is tree call el some found =
    let up : suc (n - 1) ≡ f.left = omega arith in
    came_value c s fs f E n env (whole (pos 0)) is tree
    (call (at c f.left) f.env f.finished ∙ ap (λ m. calls c.program m name f.finished) (sym up)
    ∙ ap (λ h. of_function h (λ (k : FunctionTree). means_in (at c (n - 1)) k.body (bind (names_of k.parameters) f.finished []))) found)

-- a call that is too deep
pub came_too_deep : (c : Code) (s : State) (frames fs : List Waiting) (f : Waiting) (E : Expression) (name n : ℕ) (env : Environment) → s ≡ record { frames = frames; left = n; env = env; doing = Ended Deep } → c.tree f.id ≡ E → ((a : Around) (env : Environment) (vs : List Datum) → finish a E env vs ≡ a.call name vs) → f.left ≡ 0 → Comes c s (resume c fs (finished c f f.finished)) (stack_cost c fs (finished c f f.finished) + finished_cost c f f.finished)
came_too_deep c s frames fs f E name n env is tree call z =
    let o : finished c f f.finished ≡ Stops Deep = ap (λ t. finish (at c f.left) t f.env f.finished) tree ∙ call (at c f.left) f.env f.finished ∙ ap (λ m. calls c.program m name f.finished) z in
    let k = finished_cost c f f.finished in
    subst (λ q. Comes c s (resume c fs q) (stack_cost c fs q + k)) (sym o) (came_ended c s frames fs n env Deep (stack_cost c fs (Stops Deep) + k) is)

-- ---- whole steps

owes_entering : (c : Code) (s : State) (i : ℕ) → s.doing ≡ Entering i → owes c s ≡ resume c s.frames (gives c s.left (c.tree i) s.env)
owes_entering c s i e = ap (λ (d : Doing). owes c (record s { doing = d })) e

work_entering : (c : Code) (s : State) (i : ℕ) → s.doing ≡ Entering i → work c s ≡ stack_cost c s.frames (gives c s.left (c.tree i) s.env) + cost (at c s.left) (c.tree i) s.env
work_entering c s i e = ap (λ (d : Doing). work c (record s { doing = d })) e

pub goes_entering : (c : Code) (old new : State) (i : ℕ) (o : Outcome) (k : ℕ) → old.doing ≡ Entering i → gives c old.left (c.tree i) old.env ≡ o → k + 1 ≤ cost (at c old.left) (c.tree i) old.env → Comes c new (resume c old.frames o) (stack_cost c old.frames o + k) → Goes c old new
goes_entering c old new i o k e is le comes = record {
  same = comes.same ∙ ap (resume c old.frames) (sym is) ∙ sym (owes_entering c old i e);
  less = omega (arith, comes.within, work_entering c old i e, ap (stack_cost c old.frames) is);
}

owes_leaving : (c : Code) (s : State) (v : Datum) → s.doing ≡ Leaving v → owes c s ≡ resume c s.frames (Gives v)
owes_leaving c s v e = ap (λ (d : Doing). owes c (record s { doing = d })) e

work_leaving : (c : Code) (s : State) (v : Datum) → s.doing ≡ Leaving v → work c s ≡ stack_cost c s.frames (Gives v) + 0
work_leaving c s v e = ap (λ (d : Doing). work c (record s { doing = d })) e

pub goes_leaving : (c : Code) (old new : State) (v : Datum) (fs : List Waiting) (f : Waiting) → old.doing ≡ Leaving v → old.frames ≡ fs ++ f ∷ [] → Comes c new (resume c fs (complete c (with_done f v))) (stack_cost c fs (complete c (with_done f v)) + complete_cost c (with_done f v)) → Goes c old new
goes_leaving c old new v fs f e frames comes =
    let owed : owes c old ≡ resume c fs (complete c (with_done f v)) = owes_leaving c old v e ∙ ap (λ gs. resume c gs (Gives v)) frames ∙ resume-snoc c fs f (Gives v) in
    let costs : work c old ≡ stack_cost c fs (complete c (with_done f v)) + (1 + complete_cost c (with_done f v)) + 0 = work_leaving c old v e ∙ ap (λ gs. stack_cost c gs (Gives v) + 0) frames ∙ ap (λ n. n + 0) (stack_cost-snoc c fs f (Gives v)) in
    record { same = comes.same ∙ sym owed; less = omega (arith, comes.within, costs) }

-- an expression that begins with its parts
pub goes_begin : (c : Code) (old new : State) (i : ℕ) (E : Expression) → old.doing ≡ Entering i → c.tree i ≡ E → IsBegun (at c old.left) E → Comes c new (resume c old.frames (complete c (frame_at old i))) (stack_cost c old.frames (complete c (frame_at old i)) + complete_cost c (frame_at old i)) → Goes c old new
goes_begin c old new i E here tree begun comes =
    let a = at c old.left in
    let b : IsBegun a (c.tree i) = subst (IsBegun a) (sym tree) begun in
    goes_entering c old new i (complete c (frame_at old i)) (complete_cost c (frame_at old i)) here (begin-mean a (c.tree i) old.env b) (omega (arith, begin-cost a (c.tree i) old.env b)) comes

-- an expression that is a value at once
pub goes_value : (c : Code) (old new : State) (i : ℕ) (E : Expression) (v : Datum) → old.doing ≡ Entering i → c.tree i ≡ E → means_in (at c old.left) E old.env ≡ Gives v → 1 ≤ cost (at c old.left) E old.env → new ≡ record old { doing = Leaving v } → Goes c old new
goes_value c old new i E v here tree e le is =
    goes_entering c old new i (Gives v) 0 here (ap (λ t. gives c old.left t old.env) tree ∙ e) (omega (arith, le, ap (λ t. cost (at c old.left) t old.env) tree)) (came_leaving c new old.frames old.left old.env v (Gives v) 0 is refl)

-- an expression that is another one, with these variables
pub goes_on : (c : Code) (old new : State) (i j : ℕ) (E : Expression) (env : Environment) → old.doing ≡ Entering i → c.tree i ≡ E → means_in (at c old.left) E old.env ≡ gives c old.left (c.tree j) env → cost (at c old.left) (c.tree j) env + 1 ≤ cost (at c old.left) E old.env → new ≡ record old { env = env; doing = Entering j } → Goes c old new
goes_on c old new i j E env here tree e le is =
    goes_entering c old new i (gives c old.left (c.tree j) env) (cost (at c old.left) (c.tree j) env) here (ap (λ t. gives c old.left t old.env) tree ∙ e) (omega (arith, le, ap (λ t. cost (at c old.left) t old.env) tree)) (came_entering c new old.frames old.left env j _ _ is refl (omega arith))

-- ---- cases

abbrev arms_give : Code → Around → List Arm → Datum → Environment → Outcome
arms_give c a [] v env = Gives (whole (pos 0))
arms_give c a (arm ∷ arms) v env = choose (is_made_by (constructor_named a.table (number_of arm.constructor)) v) (means_in a (c.tree arm.body.0) (bind arm.variables.items (parts v) env)) (arms_give c a arms v env)

abbrev arms_cost : Code → Around → List Arm → Datum → Environment → ℕ
arms_cost c a [] v env = 0
arms_cost c a (arm ∷ arms) v env = pick (is_made_by (constructor_named a.table (number_of arm.constructor)) v) (cost a (c.tree arm.body.0) (bind arm.variables.items (parts v) env)) (arms_cost c a arms v env)

arms-mean : (c : Code) (a : Around) (arm : Arm) (arms : List Arm) (v : Datum) (env : Environment) → eval_arms a.table a.call (arms_from c.tree arm arms) v env ≡ arms_give c a (arm ∷ arms) v env
arms-mean c a arm [] v env = refl
arms-mean c a arm (next ∷ arms) v env = ap (choose (is_made_by (constructor_named a.table (number_of arm.constructor)) v) (means_in a (c.tree arm.body.0) (bind arm.variables.items (parts v) env))) (arms-mean c a next arms v env)

arms-steps : (c : Code) (a : Around) (arm : Arm) (arms : List Arm) (v : Datum) (env : Environment) → cost_arms a (arms_from c.tree arm arms) v env ≡ arms_cost c a (arm ∷ arms) v env
arms-steps c a arm [] v env = refl
arms-steps c a arm (next ∷ arms) v env = ap (pick (is_made_by (constructor_named a.table (number_of arm.constructor)) v) (cost a (c.tree arm.body.0) (bind arm.variables.items (parts v) env))) (arms-steps c a next arms v env)

-- a value that no constructor made
scalar_no : (o : Option ℕ) (v : Datum) → IsScalar v → is_made_by o v ≡ false
scalar_no None v h = refl
scalar_no (Some k) (whole z) h = refl
scalar_no (Some k) (truth b) h = refl
scalar_no (Some k) (con d vs) h = absurd h

made_number : (o : Option ℕ) (k : ℕ) (v : Datum) → IsMadeBy k v → is_made_by o v ≡ is_number o k
made_number None k v h = refl
made_number (Some j) k (whole z) h = absurd h
made_number (Some j) k (truth b) h = absurd h
made_number (Some j) k (con d vs) h = ap (eqb j) h

scalar_arms : (c : Code) (a : Around) (arms : List Arm) (v : Datum) (env : Environment) → IsScalar v → arms_give c a arms v env ≡ Gives (whole (pos 0))
scalar_arms c a [] v env h = refl
scalar_arms c a (arm ∷ arms) v env h =
    ap (λ b. choose b (means_in a (c.tree arm.body.0) (bind arm.variables.items (parts v) env)) (arms_give c a arms v env)) (scalar_no (constructor_named a.table (number_of arm.constructor)) v h)
    ∙ scalar_arms c a arms v env h

-- what the first arm of the constructor gives, and costs
abbrev found_gives : Code → Around → Option Arm → Datum → Environment → Outcome
found_gives c a None v env = Gives (whole (pos 0))
found_gives c a (Some arm) v env = means_in a (c.tree arm.body.0) (bind arm.variables.items (parts v) env)

abbrev found_cost : Code → Around → Option Arm → Datum → Environment → ℕ
found_cost c a None v env = 0
found_cost c a (Some arm) v env = cost a (c.tree arm.body.0) (bind arm.variables.items (parts v) env)

chosen : (c : Code) (a : Around) (arm : Arm) (o : Option Arm) (other : Outcome) (v : Datum) (env : Environment) (b : Bool) → other ≡ found_gives c a o v env → choose b (means_in a (c.tree arm.body.0) (bind arm.variables.items (parts v) env)) other ≡ found_gives c a (cond b (Some arm) o) v env
chosen c a arm o other v env true e = refl
chosen c a arm o other v env false e = e

picked : (c : Code) (a : Around) (arm : Arm) (o : Option Arm) (other : ℕ) (v : Datum) (env : Environment) (b : Bool) → other ≡ found_cost c a o v env → pick b (cost a (c.tree arm.body.0) (bind arm.variables.items (parts v) env)) other ≡ found_cost c a (cond b (Some arm) o) v env
picked c a arm o other v env true e = refl
picked c a arm o other v env false e = e

found-mean : (c : Code) (a : Around) (arms : List Arm) (k : ℕ) (v : Datum) (env : Environment) → IsMadeBy k v → arms_give c a arms v env ≡ found_gives c a (arm_of a.table arms k) v env
found-mean c a [] k v env h = refl
found-mean c a (arm ∷ arms) k v env h =
    ap (λ b. choose b (means_in a (c.tree arm.body.0) (bind arm.variables.items (parts v) env)) (arms_give c a arms v env)) (made_number (constructor_named a.table (number_of arm.constructor)) k v h)
    ∙ chosen c a arm (arm_of a.table arms k) (arms_give c a arms v env) v env (is_number (constructor_named a.table (number_of arm.constructor)) k) (found-mean c a arms k v env h)

found-steps : (c : Code) (a : Around) (arms : List Arm) (k : ℕ) (v : Datum) (env : Environment) → IsMadeBy k v → arms_cost c a arms v env ≡ found_cost c a (arm_of a.table arms k) v env
found-steps c a [] k v env h = refl
found-steps c a (arm ∷ arms) k v env h =
    ap (λ b. pick b (cost a (c.tree arm.body.0) (bind arm.variables.items (parts v) env)) (arms_cost c a arms v env)) (made_number (constructor_named a.table (number_of arm.constructor)) k v h)
    ∙ picked c a arm (arm_of a.table arms k) (arms_cost c a arms v env) v env (is_number (constructor_named a.table (number_of arm.constructor)) k) (found-steps c a arms k v env h)

-- Cases as steps.

pub goes_scalar : (c : Code) (old new : State) (i : ℕ) (span : Span) (x : Ident) (arms : List Arm) → old.doing ≡ Entering i → c.tree i ≡ case_from c.tree arms (Case span x) → ArmsBelow arms i → IsScalar (value_in old.env (number_of x)) → new ≡ record old { doing = Leaving (whole (pos 0)) } → Goes c old new
goes_scalar c old new i span x [] here tree below h is = absurd below
goes_scalar c old new i span x (arm ∷ arms) here tree below h is =
    let a = at c old.left in
    let v = value_in old.env (number_of x) in
    goes_value c old new i (Case span x (arms_from c.tree arm arms)) (whole (pos 0)) here tree (arms-mean c a arm arms v old.env ∙ scalar_arms c a (arm ∷ arms) v old.env h) (omega arith) is

pub goes_no_arm : (c : Code) (old new : State) (i k : ℕ) (span : Span) (x : Ident) (arms : List Arm) → old.doing ≡ Entering i → c.tree i ≡ case_from c.tree arms (Case span x) → ArmsBelow arms i → IsMadeBy k (value_in old.env (number_of x)) → arm_of (table_of_program c.program) arms k ≡ None → new ≡ record old { doing = Leaving (whole (pos 0)) } → Goes c old new
goes_no_arm c old new i k span x [] here tree below h found is = absurd below
goes_no_arm c old new i k span x (arm ∷ arms) here tree below h found is =
    let a = at c old.left in
    let v = value_in old.env (number_of x) in
    goes_value c old new i (Case span x (arms_from c.tree arm arms)) (whole (pos 0)) here tree (arms-mean c a arm arms v old.env ∙ found-mean c a (arm ∷ arms) k v old.env h ∙ ap (λ o. found_gives c a o v old.env) found) (omega arith) is

pub goes_arm : (c : Code) (old new : State) (i k : ℕ) (span : Span) (x : Ident) (arms : List Arm) (chosen' : Arm) → old.doing ≡ Entering i → c.tree i ≡ case_from c.tree arms (Case span x) → ArmsBelow arms i → IsMadeBy k (value_in old.env (number_of x)) → arm_of (table_of_program c.program) arms k ≡ Some chosen' → new ≡ record old { env = bind chosen'.variables.items (parts (value_in old.env (number_of x))) old.env; doing = Entering chosen'.body.0 } → Goes c old new
goes_arm c old new i k span x [] chosen' here tree below h found is = absurd below
goes_arm c old new i k span x (arm ∷ arms) chosen' here tree below h found is =
    let a = at c old.left in
    let v = value_in old.env (number_of x) in
    let steps = arms-steps c a arm arms v old.env ∙ found-steps c a (arm ∷ arms) k v old.env h ∙ ap (λ o. found_cost c a o v old.env) found in
    goes_on c old new i chosen'.body.0 (Case span x (arms_from c.tree arm arms)) (bind chosen'.variables.items (parts v) old.env) here tree
    (arms-mean c a arm arms v old.env ∙ found-mean c a (arm ∷ arms) k v old.env h ∙ ap (λ o. found_gives c a o v old.env) found)
    (omega (arith, steps)) is

-- ---- the newest frame

pub newest : (fs : List Waiting) → is_empty fs ≡ false → (gs : List Waiting) × (g : Waiting) × (fs ≡ gs ++ g ∷ [])
newest [] e = absurd (cc)
newest (f ∷ []) e = ([], f, refl)
newest (f ∷ (g ∷ fs)) e = let r = newest (g ∷ fs) refl in (f ∷ r.0, r.1, ap (λ hs. f ∷ hs) r.2)

running : (b : Bool) (d : Doing) (v : Datum) → d ≡ Leaving v → (elim d [ Entering i ↦ false | Leaving w ↦ b | Ended why ↦ true ]) ≡ false → b ≡ false
running b d v e f = ap (λ (k : Doing). elim k [ Entering i ↦ false | Leaving w ↦ b | Ended why ↦ true ]) (sym e) ∙ f

pub has_frames : (s : State) (v : Datum) → s.doing ≡ Leaving v → is_over s ≡ false → is_empty s.frames ≡ false
has_frames s v e f = running (is_empty s.frames) s.doing v e f

pub owes_ended : (c : Code) (s : State) (why : Reason) → s.doing ≡ Ended why → Stops why ≡ owes c s
owes_ended c s why e = sym (ap (λ (d : Doing). owes c (record s { doing = d })) e ∙ resume-stops c s.frames why)
