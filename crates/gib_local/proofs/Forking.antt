-- The arms of a case, one after another.
use Rattle.std.proofs.Common.{◌≡◌, ℕ, ◌+◌, ◌-◌, ◌<◌, ◌≤◌, List, [], ◌∷◌, ◌++◌, length, take, drop, Some, Ok, Err, refl, sym, ap, ◌∙◌, subst, arith}
use Rattle.std.specs.List.{AllByRecursion}
use Rattle.std.proofs.lemmas.List.{nil_from_length}
use Rattle.std.proofs.Math.Seq.{take-length}
use Rattle.gib_types.specs.declared.table.ConId.{ConId}
use Rattle.gib_core.specs.declared.atom.Variable.{Variable}
use Rattle.gib_core.specs.declared.node.Branch.{Branch}
use Rattle.gib_core.specs.Arena.{IsBranchBelow, term_of, branches_from}
use Rattle.gib_core.specs.Tree.{Term, Branches, NoBranch, BranchThen, variables_from}
use Rattle.gib_core.proofs.Fronting.{branches_below_more, branches_below_push, branches_same, grows_none}
use Rattle.gib_local.specs.declared.builder.Builder.{Builder}
use Rattle.gib_local.specs.declared.destination.Goal.{Goal}
use Rattle.gib_local.specs.declared.build_fault.BuildFault.{BuildFault}
use Rattle.gib_local.specs.declared.build_fault.BuildFault.TheVariants as f
use Rattle.gib_local_parse.specs.declared.lines.LineArm.{LineArm}
use Rattle.gib_local_parse.specs.Tree.{Line, LastArm}
use Rattle.gib_local_parse.specs.LineArena.{IsArmBelow, ArmsBelow, arms_from}
use Rattle.gib_local_parse.specs.ReadingTerms.{arms_text}
use Rattle.gib_local.specs.Building.{Around, Passed, Placed, Program, Termed, Branched, and_then, build, build_arms, con, numbered_on, with_variables}
use Rattle.gib_local.specs.Builds.{around_of, passed_of, Fails, Stays, Forks}
use Rattle.gib_local.proofs.Adding.{given, stays_on}

-- Branches, and then others.
abbrev pub join : Branches → Branches → Branches
join NoBranch rest = rest
join (BranchThen k xs t branches) rest = BranchThen k xs t (join branches rest)

-- Branches before those that others make.
abbrev pub joined : Branches → Placed Branched → Placed Branched
joined bs (Ok q) = Ok (record { branches = join bs q.branches; passed = q.passed })
joined bs (Err p) = Err p

-- What the arms that are left make.
abbrev pub arms_left : Program → (ℕ → Line) → List LineArm → Around → Passed → Placed Branched
arms_left p g [] h v = Ok (record { branches = NoBranch; passed = v })
arms_left p g (arm ∷ arms) h v = build_arms p (arms_from g arm arms) h v

-- Some arms were built; with those that are left they are all.
pub record ArmsSoFar (p : Program) (g : ℕ → Line) (id : ℕ) (old now : Builder) (goal : Goal) (arms rest : List LineArm) (bs : List Branch) : Type 0 where
  pub stays : Stays old now
  pub inside : AllByRecursion (IsBranchBelow (length now.terms)) bs
  pub below : AllByRecursion (IsArmBelow id) rest
  pub is : build_arms p (arms_text g arms) (around_of old goal) (passed_of old) ≡ joined (branches_from (term_of now.terms) bs) (arms_left p g rest (around_of old goal) (passed_of now))

joined_none : (r : Placed Branched) → joined NoBranch r ≡ r
joined_none (Ok q) = refl
joined_none (Err p) = refl

join_join : (ds bs cs : Branches) → join ds (join bs cs) ≡ join (join ds bs) cs
join_join NoBranch bs cs = refl
join_join (BranchThen k xs t ds) bs cs = ap (BranchThen k xs t) (join_join ds bs cs)

joined_joined : (ds bs : Branches) (r : Placed Branched) → joined ds (joined bs r) ≡ joined (join ds bs) r
joined_joined ds bs (Ok q) = ap (λ b. Ok (record { branches = b; passed = q.passed })) (join_join ds bs q.branches)
joined_joined ds bs (Err p) = refl

join_none : (ds : Branches) → join ds NoBranch ≡ ds
join_none NoBranch = refl
join_none (BranchThen k xs t ds) = ap (BranchThen k xs t) (join_none ds)

branches_last : (g : ℕ → Term) (bs : List Branch) (b : Branch) → branches_from g (bs ++ b ∷ []) ≡ join (branches_from g bs) (branches_from g (b ∷ []))
branches_last g [] b = refl
branches_last g (a ∷ bs) b = ap (BranchThen a.constructor a.variables.items (g a.term.0)) (branches_last g bs b)

pub arms_begin : (p : Program) (g : ℕ → Line) (id : ℕ) (old : Builder) (goal : Goal) (arms : List LineArm) (bs : List Branch) → ArmsBelow arms id → bs ≡ [] → ArmsSoFar p g id old old goal arms arms bs
arms_begin p g id old goal [] bs h e = absurd h
arms_begin p g id old goal (arm ∷ arms) bs h e = subst (λ l. ArmsSoFar p g id old old goal (arm ∷ arms) (arm ∷ arms) l) (sym e) (record {
  stays = record { grows = grows_none old.terms; variables = refl; places = refl };
  inside = tt;
  below = h;
  is = sym (joined_none (build_arms p (arms_from g arm arms) (around_of old goal) (passed_of old)));
})

-- An arm with others behind it, where it is known what it makes alone.
abbrev pub alone : ConId → List Variable → Termed → Placed Branched
alone k xs r = Ok (record { branches = BranchThen k xs r.term NoBranch; passed = r.passed })

abbrev rest_of : ConId → List Variable → Term → Branched → Placed Branched
rest_of k xs t q = Ok (record { branches = BranchThen k xs t q.branches; passed = q.passed })

abbrev before : (Passed → Placed Branched) → ConId → List Variable → Termed → Placed Branched
before go k xs r = and_then (go r.passed) (rest_of k xs r.term)

branched_is : (q r : Branched) → given q ≡ given r → q ≡ r
branched_is q r e = cc

arm_before : (r : Termed) (k : ConId) (xs : List Variable) (x : Placed Branched) → and_then x (rest_of k xs r.term) ≡ joined (BranchThen k xs r.term NoBranch) x
arm_before r k xs (Ok q) = refl
arm_before r k xs (Err p) = refl

next_arm : (x : Placed Termed) (k : ConId) (xs : List Variable) (go : Passed → Placed Branched) (q : Branched) → and_then x (alone k xs) ≡ Ok q → and_then x (before go k xs) ≡ joined q.branches (go q.passed)
next_arm (Ok r) k xs go q e =
    arm_before r k xs (go r.passed) ∙ ap (λ (b : Branched). joined b.branches (go b.passed)) (branched_is (record { branches = BranchThen k xs r.term NoBranch; passed = r.passed }) q e)
next_arm (Err p) k xs go q e = absurd cc

last_arm : (x : Placed Termed) (k : ConId) (xs : List Variable) (q : Branched) → and_then x (alone k xs) ≡ Ok q → and_then x (alone k xs) ≡ joined q.branches (Ok (record { branches = NoBranch; passed = q.passed }))
last_arm (Ok r) k xs q e = ap (λ (b : Branched). joined b.branches (Ok (record { branches = NoBranch; passed = b.passed }))) (branched_is (record { branches = BranchThen k xs r.term NoBranch; passed = r.passed }) q e)
last_arm (Err p) k xs q e = absurd cc

one_left : (p : Program) (g : ℕ → Line) (arm : LineArm) (after : List LineArm) (h : Around) (v : Passed) (q : Branched) → build_arms p (LastArm arm.constructor arm.variables.items (g arm.line.0)) h v ≡ Ok q → arms_left p g (arm ∷ after) h v ≡ joined q.branches (arms_left p g after h q.passed)
one_left p g arm [] h v q e =
    last_arm (build p (g arm.line.0) (record h { variables = with_variables v.fresh arm.variables.items h.variables }) (numbered_on (length arm.variables.items) v)) (con p.table arm.constructor) (variables_from v.fresh arm.variables.items) q e
one_left p g arm (next ∷ after) h v q e =
    next_arm (build p (g arm.line.0) (record h { variables = with_variables v.fresh arm.variables.items h.variables }) (numbered_on (length arm.variables.items) v)) (con p.table arm.constructor) (variables_from v.fresh arm.variables.items)
    (λ w. build_arms p (arms_from g next after) h w) q e

-- What is met is the same as at the start.
same_around : (old now : Builder) (goal : Goal) → Stays old now → around_of now goal ≡ around_of old goal
same_around old now goal s = (λ i. record { variables = s.variables i; places = s.places i; destination = Rattle.gib_local.specs.Builds.destination_of goal.destination; at = goal.at })

front_is : (arm d : LineArm) (rest : List LineArm) → 1 ≤ length rest → arm ≡ Rattle.std.proofs.Common.get_or rest 0 d → rest ≡ arm ∷ take (length rest - 1) (drop 1 rest)
front_is arm d [] le e = absurd (omega (arith, le))
front_is arm d (a ∷ rest) le e = (λ i. sym e i ∷ rest) ∙ ap (λ l. arm ∷ l) (sym ((let n : length (a ∷ rest) - 1 ≡ length rest = omega arith in ap (λ k. take k rest) n) ∙ take-length rest))

pub arms_next : (p : Program) (g : ℕ → Line) (id : ℕ) (old now new : Builder) (goal : Goal) (arms rest : List LineArm) (arm : LineArm) (bs more : List Branch) (b : Branch) → 1 ≤ length rest → arm ≡ Rattle.std.proofs.Common.get_or rest 0 arm → ArmsSoFar p g id old now goal arms rest bs
    → Forks now new (b ∷ []) (build_arms p (LastArm arm.constructor arm.variables.items (g arm.line.0)) (around_of now goal) (passed_of now)) → more ≡ bs ++ b ∷ [] → ArmsSoFar p g id old new goal arms (take (length rest - 1) (drop 1 rest)) more
arms_next p g id old now new goal arms rest arm bs more b le at h k m =
    let after = take (length rest - 1) (drop 1 rest) in
    let split : rest ≡ arm ∷ after = front_is arm arm rest le at in
    let one : build_arms p (LastArm arm.constructor arm.variables.items (g arm.line.0)) (around_of old goal) (passed_of now) ≡ Ok (record { branches = branches_from (term_of new.terms) (b ∷ []); passed = passed_of new }) =
    ap (λ z. build_arms p (LastArm arm.constructor arm.variables.items (g arm.line.0)) z (passed_of now)) (sym (same_around old now goal h.stays)) ∙ k.is in
    subst (λ l. ArmsSoFar p g id old new goal arms after l) (sym m) (record {
      stays = stays_on old now new h.stays k.stays;
      inside = branches_below_push (length new.terms) bs b (branches_below_more (length now.terms) (length new.terms) bs k.stays.grows.longer h.inside) k.inside.0;
      below = (subst (λ l. AllByRecursion (IsArmBelow id) l) split h.below).1;
      is =
          h.is
          ∙ ap (λ l. joined (branches_from (term_of now.terms) bs) (arms_left p g l (around_of old goal) (passed_of now))) split
          ∙ ap (joined (branches_from (term_of now.terms) bs)) (one_left p g arm after (around_of old goal) (passed_of now) (record { branches = branches_from (term_of new.terms) (b ∷ []); passed = passed_of new }) one)
          ∙ joined_joined (branches_from (term_of now.terms) bs) (branches_from (term_of new.terms) (b ∷ [])) (arms_left p g after (around_of old goal) (passed_of new))
          ∙ ap (λ z. joined z (arms_left p g after (around_of old goal) (passed_of new)))
          (ap (λ z. join z (branches_from (term_of new.terms) (b ∷ []))) (sym (branches_same now.terms new.terms bs k.stays.grows h.inside)) ∙ sym (branches_last (term_of new.terms) bs b));
    })

next_fails : (x : Placed Termed) (k : ConId) (xs : List Variable) (go : Passed → Placed Branched) (p : ℕ) → and_then x (alone k xs) ≡ Err p → and_then x (before go k xs) ≡ Err p
next_fails (Ok r) k xs go p e = absurd cc
next_fails (Err q) k xs go p e = ap (λ n. Err n) (let l : q ≡ p = cc in l)

left_fails : (p : Program) (g : ℕ → Line) (arm : LineArm) (after : List LineArm) (h : Around) (v : Passed) (n : ℕ) → build_arms p (LastArm arm.constructor arm.variables.items (g arm.line.0)) h v ≡ Err n → arms_left p g (arm ∷ after) h v ≡ Err n
left_fails p g arm [] h v n e = e
left_fails p g arm (next ∷ after) h v n e =
    next_fails (build p (g arm.line.0) (record h { variables = with_variables v.fresh arm.variables.items h.variables }) (numbered_on (length arm.variables.items) v)) (con p.table arm.constructor) (variables_from v.fresh arm.variables.items)
    (λ w. build_arms p (arms_from g next after) h w) n e

pub arms_fail : (p : Program) (g : ℕ → Line) (id : ℕ) (e : BuildFault) (old now : Builder) (goal : Goal) (arms rest : List LineArm) (arm : LineArm) (bs : List Branch) → 1 ≤ length rest → arm ≡ Rattle.std.proofs.Common.get_or rest 0 arm → ArmsSoFar p g id old now goal arms rest bs
    → Fails e (build_arms p (LastArm arm.constructor arm.variables.items (g arm.line.0)) (around_of now goal) (passed_of now)) → Fails e (build_arms p (arms_text g arms) (around_of old goal) (passed_of old))
arms_fail p g id f.Memory old now goal arms rest arm bs le at h k = tt
arms_fail p g id (f.Place n) old now goal arms rest arm bs le at h k =
    let after = take (length rest - 1) (drop 1 rest) in
    let split : rest ≡ arm ∷ after = front_is arm arm rest le at in
    h.is
    ∙ ap (λ l. joined (branches_from (term_of now.terms) bs) (arms_left p g l (around_of old goal) (passed_of now))) split
    ∙ ap (joined (branches_from (term_of now.terms) bs))
    (left_fails p g arm after (around_of old goal) (passed_of now) n (ap (λ z. build_arms p (LastArm arm.constructor arm.variables.items (g arm.line.0)) z (passed_of now)) (sym (same_around old now goal h.stays)) ∙ k))

pub arms_end : (p : Program) (g : ℕ → Line) (id : ℕ) (old now : Builder) (goal : Goal) (arms rest : List LineArm) (bs : List Branch) → length rest < 1 → ArmsSoFar p g id old now goal arms rest bs → Forks old now bs (build_arms p (arms_text g arms) (around_of old goal) (passed_of old))
arms_end p g id old now goal arms rest bs lt h = record {
  is =
      h.is
      ∙ ap (λ l. joined (branches_from (term_of now.terms) bs) (arms_left p g l (around_of old goal) (passed_of now))) (nil_from_length rest (omega (arith, lt)))
      ∙ ap (λ z. Ok (record { branches = z; passed = passed_of now })) (join_none (branches_from (term_of now.terms) bs));
  stays = h.stays;
  inside = h.inside;
}

-- The next arm has a smaller number.
pub arm_here : (n : ℕ) (rest : List LineArm) (arm : LineArm) → 1 ≤ length rest → arm ≡ Rattle.std.proofs.Common.get_or rest 0 arm → AllByRecursion (IsArmBelow n) rest → IsArmBelow n arm
arm_here n [] arm le at h = absurd (omega (arith, le))
arm_here n (a ∷ rest) arm le at h = subst (IsArmBelow n) (sym at) h.0
