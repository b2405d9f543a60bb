-- A `case`, whose arms come into the declared order.
use Rattle.std.proofs.Common.{◌≡◌, ℕ, ◌+◌, ◌≤◌, Bool, true, false, ◌==◌, if◌then◌else◌, List, [], ◌∷◌, length, Option, Some, None, refl, sym, ap, ◌∙◌, subst, arith}
use Rattle.std.specs.Prelude.{pos}
use Rattle.std.proofs.lemmas.Bool.{eqb-true}
use Rattle.gib_types.specs.declared.table.Ty.{Ty}
use Rattle.gib_types.specs.Table.{Table, fields_at}
use Rattle.gib_types.specs.Tree.{Data, Datum, whole, truth, con, list_of}
use Rattle.gib_syntax.specs.declared.tree.Ident.{Ident}
use Rattle.gib_syntax.specs.Meaning.{Outcome, Gives, Environment, bind, choose, is_made_by, parts}
use Rattle.gib_core.specs.declared.atom.Variable.{Variable}
use Rattle.gib_core.specs.Tree.{Term, Branches, NoBranch, BranchThen, variables_from}
use Rattle.gib_core.specs.Meaning as core
use Rattle.gib_core.specs.Meaning.{Calls, mean, mean_branches}
use Rattle.gib_core.specs.Inferring.{Scope, Lined, ArmCode, with_fields, arm_for, branch_of, branches_of}
use Rattle.gib_core.proofs.Agreeing.{env_of, AreSame, AllBelow, Lines, Good}
use Rattle.gib_core.proofs.Envs.{all_below_less}
use Rattle.gib_infer.proofs.Same.{fields_below}

-- An arm of the source: its constructor, the names of its fields, and its meaning.
pub record Choice : Type 0 where
  pub con : ℕ
  pub names : List Ident
  pub body : Environment → Outcome

abbrev pub take_choice : List Choice → ℕ → List Datum → Environment → Outcome
take_choice [] k vs env = Gives (whole (pos 0))
take_choice (b ∷ bs) k vs env = choose (b.con == k) (b.body (bind b.names vs env)) (take_choice bs k vs env)

abbrev pub choose_on : Datum → List Choice → Environment → Outcome
choose_on (whole z) bs env = Gives (whole (pos 0))
choose_on (truth b) bs env = Gives (whole (pos 0))
choose_on (con k vs) bs env = take_choice bs k (list_of vs) env

-- A number is in the list.
abbrev pub listed : List ℕ → ℕ → Bool
listed [] k = false
listed (j ∷ js) k = if j == k then true else listed js k

module _ (tb : Table) (call : Calls) where
  pub record ArmGood (sc : Scope) (a : ArmCode) (b : Choice) : Type 0 where
    pub con : a.con ≡ b.con
    pub code : (types : List Ty) (n : ℕ) → Good tb call a.code b.body (with_fields a.names types n sc)
    pub fields : (types : List Ty) (n : ℕ) (vs : List Datum) (env : Environment) → AllBelow n sc
        → AreSame (env_of (with_fields a.names types n sc) (core.bind (variables_from n a.names) vs env)) (bind b.names vs (env_of sc env))
    pub same : (env other : Environment) → AreSame env other → b.body env ≡ b.body other

  abbrev pub AllArms : Scope → List ArmCode → List Choice → Type 0
  AllArms sc [] [] = Unit {0}
  AllArms sc [] (b ∷ bs) = ⊥
  AllArms sc (a ∷ as') [] = ⊥
  AllArms sc (a ∷ as') (b ∷ bs) = ArmGood sc a b × AllArms sc as' bs

  abbrev pub choice_for : List Choice → ℕ → Option Choice
  choice_for [] k = None
  choice_for (b ∷ bs) k = if b.con == k then Some b else choice_for bs k

  abbrev pub take_one : Option Choice → List Datum → Environment → Outcome
  take_one None vs env = Gives (whole (pos 0))
  take_one (Some b) vs env = b.body (bind b.names vs env)

  take_choice-one : (bs : List Choice) (k : ℕ) (vs : List Datum) (env : Environment) → take_choice bs k vs env ≡ take_one (choice_for bs k) vs env
  take_choice-one [] k vs env = refl
  take_choice-one (b ∷ bs) k vs env = go (b.con == k) (take_choice-one bs k vs env)
    where
      go : (t : Bool) → take_choice bs k vs env ≡ take_one (choice_for bs k) vs env → choose t (b.body (bind b.names vs env)) (take_choice bs k vs env) ≡ take_one (if t then Some b else choice_for bs k) vs env
      go true e = refl
      go false e = e

  pub data Matches (sc : Scope) : Option ArmCode → Option Choice → Type 0 where
    neither : Matches sc None None
    both : {a : ArmCode} {b : Choice} → ArmGood sc a b → Matches sc (Some a) (Some b)

  same_for : (sc : Scope) (as' : List ArmCode) (bs : List Choice) (k : ℕ) → AllArms sc as' bs → Matches sc (arm_for as' k) (choice_for bs k)
  same_for sc [] [] k h = neither
  same_for sc [] (b ∷ bs) k h = absurd h
  same_for sc (a ∷ as') [] k h = absurd h
  same_for sc (a ∷ as') (b ∷ bs) k h = subst (λ (c : ℕ). Matches sc (if c == k then Some a else arm_for as' k) (if b.con == k then Some b else choice_for bs k)) (sym h.0.con) (go (b.con == k) (same_for sc as' bs k h.1))
    where
      go : (t : Bool) → Matches sc (arm_for as' k) (choice_for bs k) → Matches sc (if t then Some a else arm_for as' k) (if t then Some b else choice_for bs k)
      go true e = both h.0
      go false e = e

  alt_other : (j k : ℕ) (xs : List Variable) (t : Term) (rest : Branches) (vs : Data) (env : Environment) (o : Outcome) → (j == k) ≡ false → mean_branches tb call rest (con k vs) env ≡ o → mean_branches tb call (BranchThen (record { 0 = j }) xs t rest) (con k vs) env ≡ o
  alt_other j k xs t rest vs env o e h = ap (λ z. choose z (mean tb call t (core.bind xs (list_of vs) env)) (mean_branches tb call rest (con k vs) env)) e ∙ h

  alt_this : (j k : ℕ) (xs : List Variable) (t : Term) (rest : Branches) (vs : Data) (env : Environment) → (j == k) ≡ true → mean_branches tb call (BranchThen (record { 0 = j }) xs t rest) (con k vs) env ≡ mean tb call t (core.bind xs (list_of vs) env)
  alt_this j k xs t rest vs env e = ap (λ z. choose z (mean tb call t (core.bind xs (list_of vs) env)) (mean_branches tb call rest (con k vs) env)) e

  -- the line of an arm
  arm_lined : (a : ArmCode) (b : Choice) (types : List Ty) (sc : Scope) (n : ℕ) (vs : List Datum) (env : Environment) → ArmGood sc a b → AllBelow n sc → Lines tb call (n + length a.names) (a.code.line (with_fields a.names types n sc) (n + length a.names)) (core.bind (variables_from n a.names) vs env) (b.body (bind b.names vs (env_of sc env)))
  arm_lined a b types sc n vs env h below =
      let sc' = with_fields a.names types n sc in
      let inner = core.bind (variables_from n a.names) vs env in
      let l = (h.code types n).line (n + length a.names) inner (fields_below n (n + length a.names) a.names types sc refl below) in
      record {
        grows = l.grows;
        gives = l.gives ∙ h.same (env_of sc' inner) (bind b.names vs (env_of sc env)) (h.fields types n vs env below);
      }

  pub alts_grow : (ks : List ℕ) (as' : List ArmCode) (bs : List Choice) (sc : Scope) (n : ℕ) → AllArms sc as' bs → AllBelow n sc → n ≤ (branches_of tb ks as' sc n).fresh
  alts_grow [] as' bs sc n h below = omega arith
  alts_grow (j ∷ ks) as' bs sc n h below = go (arm_for as' j) (choice_for bs j) (same_for sc as' bs j h) (λ m le. alts_grow ks as' bs sc m h (all_below_less n m sc le below))
    where
      go : (o : Option ArmCode) (p : Option Choice) → Matches sc o p → ((m : ℕ) → n ≤ m → m ≤ (branches_of tb ks as' sc m).fresh) → n ≤ (branch_of tb j o sc n (λ m. branches_of tb ks as' sc m)).fresh
      go None None neither next = next n (omega arith)
      go None (Some b) q next = elim q [ ]
      go (Some a) None q next = elim q [ ]
      go (Some a) (Some b) (both g) next =
          let up = (arm_lined a b (fields_at tb j) sc n [] [] g below).grows in
          let m = (a.code.line (with_fields a.names (fields_at tb j) n sc) (n + length a.names)).fresh in
          let up' = next m (omega arith) in
          omega arith

  -- what is given for k, where o is the arm for j and the rest gives this too unless j is k
  branch_of_gives : (ks : List ℕ) (as' : List ArmCode) (sc : Scope) (n j k : ℕ) (vs : Data) (env : Environment) (o : Option ArmCode) (p : Option Choice) (out : Outcome) → AllBelow n sc → Matches sc o p → ((j == k) ≡ true → take_one p (list_of vs) (env_of sc env) ≡ out) → (Matches sc None p → (m : ℕ) → n ≤ m → mean_branches tb call (branches_of tb ks as' sc m).branches (con k vs) env ≡ out) → ((j == k) ≡ false → (m : ℕ) → n ≤ m → mean_branches tb call (branches_of tb ks as' sc m).branches (con k vs) env ≡ out) → mean_branches tb call (branch_of tb j o sc n (λ m. branches_of tb ks as' sc m)).branches (con k vs) env ≡ out
  branch_of_gives ks as' sc n j k vs env None None out below neither here none next = none neither n (omega arith)
  branch_of_gives ks as' sc n j k vs env None (Some b) out below q here none next = elim q [ ]
  branch_of_gives ks as' sc n j k vs env (Some a) None out below q here none next = elim q [ ]
  branch_of_gives ks as' sc n j k vs env (Some a) (Some b) out below (both g) here none next = go (j == k) refl
    where
      l : Lined
      l = a.code.line (with_fields a.names (fields_at tb j) n sc) (n + length a.names)

      lines : Lines tb call (n + length a.names) l (core.bind (variables_from n a.names) (list_of vs) env) (b.body (bind b.names (list_of vs) (env_of sc env)))
      lines = arm_lined a b (fields_at tb j) sc n (list_of vs) env g below

      go : (t : Bool) → (j == k) ≡ t → mean_branches tb call (BranchThen (record { 0 = j }) (variables_from n a.names) l.term (branches_of tb ks as' sc l.fresh).branches) (con k vs) env ≡ out
      go true e = alt_this j k (variables_from n a.names) l.term (branches_of tb ks as' sc l.fresh).branches vs env e ∙ lines.gives ∙ here e
      go false e = let up = lines.grows in alt_other j k (variables_from n a.names) l.term (branches_of tb ks as' sc l.fresh).branches vs env out e (next e l.fresh (omega arith))

  -- no arm for k
  pub none_gives : (ks : List ℕ) (as' : List ArmCode) (bs : List Choice) (sc : Scope) (n k : ℕ) (vs : Data) (env : Environment) → AllArms sc as' bs → choice_for bs k ≡ None → AllBelow n sc → mean_branches tb call (branches_of tb ks as' sc n).branches (con k vs) env ≡ Gives (whole (pos 0))
  none_gives [] as' bs sc n k vs env h none below = refl
  none_gives (j ∷ ks) as' bs sc n k vs env h none below =
      let next = λ (m : ℕ) (le : n ≤ m). none_gives ks as' bs sc m k vs env h none (all_below_less n m sc le below) in
      branch_of_gives ks as' sc n j k vs env (arm_for as' j) (choice_for bs j) (Gives (whole (pos 0))) below (same_for sc as' bs j h) (λ e. ap (λ p. take_one p (list_of vs) (env_of sc env)) (ap (choice_for bs) (eqb-true j k e) ∙ none)) (λ q. next) (λ e. next)

  is_some : {sc : Scope} {b : Choice} → Matches sc None (Some b) → ⊥
  is_some q = elim q [ ]

  -- the arm for k
  pub some_gives : (ks : List ℕ) (as' : List ArmCode) (bs : List Choice) (sc : Scope) (n k : ℕ) (vs : Data) (env : Environment) (b : Choice) → AllArms sc as' bs → choice_for bs k ≡ Some b → listed ks k ≡ true → AllBelow n sc → mean_branches tb call (branches_of tb ks as' sc n).branches (con k vs) env ≡ b.body (bind b.names (list_of vs) (env_of sc env))
  some_gives [] as' bs sc n k vs env b h is has below = absurd cc
  some_gives (j ∷ ks) as' bs sc n k vs env b h is has below =
      let rest = λ (e : (j == k) ≡ false) (m : ℕ) (le : n ≤ m). some_gives ks as' bs sc m k vs env b h is (sym (ap (λ t. if t then true else listed ks k) e) ∙ has) (all_below_less n m sc le below) in
      branch_of_gives ks as' sc n j k vs env (arm_for as' j) (choice_for bs j) (b.body (bind b.names (list_of vs) (env_of sc env))) below (same_for sc as' bs j h)
      (λ e. ap (λ p. take_one p (list_of vs) (env_of sc env)) (ap (choice_for bs) (eqb-true j k e) ∙ is))
      (go (j == k) refl rest)
      rest
    where
      Out : ℕ → Type 0
      Out m = mean_branches tb call (branches_of tb ks as' sc m).branches (con k vs) env ≡ b.body (bind b.names (list_of vs) (env_of sc env))

      go : (t : Bool) → (j == k) ≡ t → ((j == k) ≡ false → (m : ℕ) → n ≤ m → Out m) → Matches sc None (choice_for bs j) → (m : ℕ) → n ≤ m → Out m
      go true e rest q m le = absurd (is_some (subst (Matches sc None) (ap (choice_for bs) (eqb-true j k e) ∙ is) q))
      go false e rest q m le = rest e m le

  scalar_branches : (bs : Branches) (v : Datum) (env : Environment) → ((k : ℕ) → is_made_by (Some k) v ≡ false) → mean_branches tb call bs v env ≡ Gives (whole (pos 0))
  scalar_branches NoBranch v env h = refl
  scalar_branches (BranchThen k xs t rest) v env h = ap (λ z. choose z (mean tb call t (core.bind xs (parts v) env)) (mean_branches tb call rest v env)) (h k.0) ∙ scalar_branches rest v env h

  -- the whole `case`, for a list of constructors that has each arm's
  pub case_gives : (ks : List ℕ) (as' : List ArmCode) (bs : List Choice) (sc : Scope) (n : ℕ) (env : Environment) (v : Datum) → AllArms sc as' bs → ((k : ℕ) (b : Choice) → choice_for bs k ≡ Some b → listed ks k ≡ true) → AllBelow n sc → mean_branches tb call (branches_of tb ks as' sc n).branches v env ≡ choose_on v bs (env_of sc env)
  case_gives ks as' bs sc n env (whole z) h has below = scalar_branches (branches_of tb ks as' sc n).branches (whole z) env (λ k. refl)
  case_gives ks as' bs sc n env (truth b) h has below = scalar_branches (branches_of tb ks as' sc n).branches (truth b) env (λ k. refl)
  case_gives ks as' bs sc n env (con k vs) h has below = go (choice_for bs k) refl ∙ sym (take_choice-one bs k (list_of vs) (env_of sc env))
    where
      go : (p : Option Choice) → choice_for bs k ≡ p → mean_branches tb call (branches_of tb ks as' sc n).branches (con k vs) env ≡ take_one (choice_for bs k) (list_of vs) (env_of sc env)
      go None e = none_gives ks as' bs sc n k vs env h e below ∙ sym (ap (λ p. take_one p (list_of vs) (env_of sc env)) e)
      go (Some b) e = some_gives ks as' bs sc n k vs env b h e (has k b e) below ∙ sym (ap (λ p. take_one p (list_of vs) (env_of sc env)) e)
