-- Environments of the source and of the core.
use Rattle.std.proofs.Common.{◌≡◌, ℕ, ◌≤◌, Bool, true, false, ◌==◌, if◌then◌else◌, List, [], ◌∷◌, ◌++◌, map, refl, sym, ap, ◌∙◌, arith}
use Rattle.std.proofs.lemmas.Bool.{eq-eqb, ne_eqb, eqb-true}
use Rattle.gib_types.specs.Table.{Table}
use Rattle.gib_types.specs.Tree.{Datum}
use Rattle.gib_syntax.specs.Meaning.{Outcome, Gives, Stops, Environment, value_in, with_value}
use Rattle.gib_core.specs.declared.atom.Atom.{Atom}
use Rattle.gib_core.specs.declared.atom.Atom.TheVariants as atomic
use Rattle.gib_core.specs.Tree.{Term, Bind, prepend}
use Rattle.gib_core.specs.Meaning.{Calls, value, Reached, Went, Halted, from_there, and_on, mean, run, run_all}
use Rattle.gib_core.specs.Inferring.{Scope, atom_at}
use Rattle.gib_core.proofs.Agreeing.{env_of, AreSame, IsBelow, AllBelow, EachBelow, Keeps, Together, with_all, Agree, came, halted, Collects, got, missed}

pub value_in-here : (x : ℕ) (v : Datum) (env : Environment) → value_in ((x, v) ∷ env) x ≡ v
value_in-here x v env = ap (λ b. if b then v else value_in env x) (eq-eqb x x refl)

pub value_in-past : (x y : ℕ) (v : Datum) (env : Environment) → (x ≡ y → ⊥) → value_in ((x, v) ∷ env) y ≡ value_in env y
value_in-past x y v env ne = ap (λ b. if b then v else value_in env y) (ne_eqb x y ne)

-- Environments in which each variable has the same value.

pub same_refl : (env : Environment) → AreSame env env
same_refl env x = refl

pub same_sym : (env other : Environment) → AreSame env other → AreSame other env
same_sym env other h x = sym (h x)

pub same_trans : (a b c : Environment) → AreSame a b → AreSame b c → AreSame a c
same_trans a b c h k x = h x ∙ k x

pub same_more : (x : ℕ) (v : Datum) (env other : Environment) → AreSame env other → AreSame ((x, v) ∷ env) ((x, v) ∷ other)
same_more x v env other h y = ap (λ w. if x == y then v else w) (h y)

pub same_less : (x : ℕ) (v : Datum) (env : Environment) → value_in env x ≡ v → AreSame ((x, v) ∷ env) env
same_less x v env e y = go (x == y) (eqb-true x y)
  where
    go : (b : Bool) → (b ≡ true → x ≡ y) → (if b then v else value_in env y) ≡ value_in env y
    go true is = sym e ∙ ap (value_in env) (is refl)
    go false is = refl

-- Variables below a number.

pub keeps_same : (n : ℕ) (env : Environment) → Keeps n env env
keeps_same n env = record { same = λ x lt. refl }

pub keeps_bind : (n x : ℕ) (v : Datum) (env : Environment) → n ≤ x → Keeps n env ((x, v) ∷ env)
keeps_bind n x v env le = record { same = λ y lt. value_in-past x y v env (λ e. omega arith) }

pub keeps_more : {n m : ℕ} {a b c : Environment} → Keeps n a b → Keeps m b c → n ≤ m → Keeps n a c
keeps_more p q le = record { same = λ x lt. q.same x (omega arith) ∙ p.same x lt }

pub keeps_less : {n m : ℕ} {a b : Environment} → Keeps m a b → n ≤ m → Keeps n a b
keeps_less p le = record { same = λ x lt. p.same x (omega arith) }

pub below_less : (n m : ℕ) (a : Atom) → n ≤ m → IsBelow n a → IsBelow m a
below_less n m (atomic.Variable x) le h = omega arith
below_less n m (atomic.Whole z) le h = tt
below_less n m (atomic.Truth b) le h = tt

pub all_below_less : (n m : ℕ) (sc : Scope) → n ≤ m → AllBelow n sc → AllBelow m sc
all_below_less n m [] le h = tt
all_below_less n m (s ∷ sc) le h = (below_less n m s.atom le h.0, all_below_less n m sc le h.1)

pub each_below_less : (n m : ℕ) (xs : List Atom) → n ≤ m → EachBelow n xs → EachBelow m xs
each_below_less n m [] le h = tt
each_below_less n m (a ∷ xs) le h = (below_less n m a le h.0, each_below_less n m xs le h.1)

pub value-keeps : {n : ℕ} {old new : Environment} (a : Atom) → Keeps n old new → IsBelow n a → value new a ≡ value old a
value-keeps (atomic.Variable x) k h = k.same x.0 h
value-keeps (atomic.Whole z) k h = refl
value-keeps (atomic.Truth b) k h = refl

pub values-keep : {n : ℕ} {old new : Environment} (xs : List Atom) → Keeps n old new → EachBelow n xs → map (value new) xs ≡ map (value old) xs
values-keep [] k h = refl
values-keep (a ∷ xs) k h = (λ i. value-keeps a k h.0 i ∷ values-keep xs k h.1 i)

pub env_of-keeps : {n : ℕ} {old new : Environment} (sc : Scope) → Keeps n old new → AllBelow n sc → env_of sc new ≡ env_of sc old
env_of-keeps [] k h = refl
env_of-keeps (s ∷ sc) k h = (λ i. (s.name.0, value-keeps s.atom k h.0 i) ∷ env_of-keeps sc k h.1 i)

pub value_in-env_of : (sc : Scope) (env : Environment) (x : ℕ) → value_in (env_of sc env) x ≡ value env (atom_at sc x)
value_in-env_of [] env x = refl
value_in-env_of (s ∷ sc) env x = here (s.name.0 == x) (value_in-env_of sc env x)
  where
    here : (b : Bool) → value_in (env_of sc env) x ≡ value env (atom_at sc x) → (if b then value env s.atom else value_in (env_of sc env) x) ≡ value env (if b then s.atom else atom_at sc x)
    here true e = refl
    here false e = e

pub at_below : (n : ℕ) (sc : Scope) (x : ℕ) → AllBelow n sc → IsBelow n (atom_at sc x)
at_below n [] x h = tt
at_below n (s ∷ sc) x h = here (s.name.0 == x) (at_below n sc x h.1)
  where
    here : (b : Bool) → IsBelow n (atom_at sc x) → IsBelow n (if b then s.atom else atom_at sc x)
    here true e = h.0
    here false e = e

-- Bindings, one after another.

pub and_on-and_on : (r : Reached) (f g : Environment → Reached) → and_on (and_on r f) g ≡ and_on r (λ e. and_on (f e) g)
and_on-and_on (Went env) f g = refl
and_on-and_on (Halted why) f g = refl

pub from_there-and_on : (r : Reached) (f : Environment → Reached) (g : Environment → Outcome) → from_there (and_on r f) g ≡ from_there r (λ e. from_there (f e) g)
from_there-and_on (Went env) f g = refl
from_there-and_on (Halted why) f g = refl

module _ (tb : Table) (call : Calls) where
  pub run_all-append : (xs ys : List Bind) (env : Environment) → run_all tb call (xs ++ ys) env ≡ and_on (run_all tb call xs env) (run_all tb call ys)
  run_all-append [] ys env = refl
  run_all-append (b ∷ xs) ys env =
      ap (and_on (run tb call b env)) (λ i e. run_all-append xs ys e i)
      ∙ sym (and_on-and_on (run tb call b env) (run_all tb call xs) (run_all tb call ys))

  pub mean-prepend : (bs : List Bind) (t : Term) (env : Environment) → mean tb call (prepend bs t) env ≡ from_there (run_all tb call bs env) (mean tb call t)
  mean-prepend [] t env = refl
  mean-prepend (b ∷ bs) t env =
      ap (from_there (run tb call b env)) (λ i e. mean-prepend bs t e i)
      ∙ sym (from_there-and_on (run tb call b env) (run_all tb call bs) (mean tb call t))

-- Steps of an agreement.

pub agree_less : {n m : ℕ} {a : Atom} {env : Environment} {o : Outcome} {r : Reached} → Agree m a env o r → n ≤ m → Agree n a env o r
agree_less (came e k) le = came e (keeps_less k le)
agree_less halted le = halted

pub agree_back : {n m : ℕ} {a : Atom} {env mid : Environment} {o : Outcome} {r : Reached} → Keeps n env mid → Agree m a mid o r → n ≤ m → Agree n a env o r
agree_back p (came e k) le = came e (keeps_more p k le)
agree_back p halted le = halted

pub agree_then : {n m : ℕ} {a b : Atom} {env : Environment} {o : Outcome} {r : Reached} (go : Environment → Reached) (k : Datum → Outcome) → Agree n a env o r → ((v : Datum) (new : Environment) → value new a ≡ v → Keeps n env new → Agree m b new (k v) (go new)) → n ≤ m → Agree n b env (with_value o k) (and_on r go)
agree_then go k (came {v} {new} e p) h le = agree_back p (h v new e p) le
agree_then go k halted h le = halted

pub gives_then : {n : ℕ} {a : Atom} {env : Environment} {o : Outcome} {r : Reached} (go : Environment → Outcome) (k : Datum → Outcome) → Agree n a env o r → ((v : Datum) (new : Environment) → value new a ≡ v → Keeps n env new → go new ≡ k v) → from_there r go ≡ with_value o k
gives_then go k (came {v} {new} e p) h = h v new e p
gives_then go k halted h = refl

pub with_value-Gives : (o : Outcome) → with_value o Gives ≡ o
with_value-Gives (Gives v) = refl
with_value-Gives (Stops why) = refl

pub collects_then : {n m : ℕ} {xs : List Atom} {b : Atom} {env : Environment} {p : Together} {r : Reached} (go : Environment → Reached) (k : List Datum → Outcome) → Collects n xs env p r → ((vs : List Datum) (new : Environment) → map (value new) xs ≡ vs → Keeps n env new → Agree m b new (k vs) (go new)) → n ≤ m → Agree n b env (with_all p k) (and_on r go)
collects_then go k (got {vs} {new} e p) h le = agree_back p (h vs new e p) le
collects_then go k missed h le = halted

pub gives_all : {n : ℕ} {xs : List Atom} {env : Environment} {p : Together} {r : Reached} (go : Environment → Outcome) (k : List Datum → Outcome) → Collects n xs env p r → ((vs : List Datum) (new : Environment) → map (value new) xs ≡ vs → Keeps n env new → go new ≡ k vs) → from_there r go ≡ with_all p k
gives_all go k (got {vs} {new} e p) h = h vs new e p
gives_all go k missed h = refl
