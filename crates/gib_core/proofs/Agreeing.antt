-- When what a source expression became means what the expression means.
use Rattle.std.specs.Prelude.{◌≡◌, ℕ, ◌<◌, ◌≤◌, pos, List, [], ◌∷◌, map, None}
use Rattle.gib_types.specs.Table.{Table}
use Rattle.gib_types.specs.Tree.{Datum, whole}
use Rattle.gib_syntax.specs.Typing as typing
use Rattle.gib_syntax.specs.Meaning.{Reason, Outcome, Gives, Stops, Environment, value_in}
use Rattle.gib_core.specs.declared.atom.Atom.{Atom}
use Rattle.gib_core.specs.declared.atom.Atom.TheVariants as a
use Rattle.gib_core.specs.Meaning.{Calls, value, Reached, Went, Halted, mean, run_all}
use Rattle.gib_core.specs.Inferring.{Scope, Lined, Atomed, Several, Code}

-- The source's environment, read off the core's.
abbrev pub env_of : Scope → Environment → Environment
env_of [] env = []
env_of (s ∷ scope) env = (s.name.0, value env s.atom) ∷ env_of scope env

-- Environments in which each variable has the same value.
abbrev pub AreSame : Environment → Environment → Type 0
AreSame env other = (x : ℕ) → value_in env x ≡ value_in other x

-- The variables in use are below a number.
abbrev pub IsBelow : ℕ → Atom → Type 0
IsBelow n (a.Variable x) = x.0 < n
IsBelow n (a.Whole z) = Unit {0}
IsBelow n (a.Truth b) = Unit {0}

abbrev pub AllBelow : ℕ → Scope → Type 0
AllBelow n [] = Unit {0}
AllBelow n (s ∷ scope) = IsBelow n s.atom × AllBelow n scope

abbrev pub EachBelow : ℕ → List Atom → Type 0
EachBelow n [] = Unit {0}
EachBelow n (x ∷ xs) = IsBelow n x × EachBelow n xs

-- A name that typing does not know has no value.
pub record Hides (known : typing.Scope) (scope : Scope) : Type 0 where
  pub zero : (x : ℕ) → typing.type_in known x ≡ None → (env : Environment) → value_in (env_of scope env) x ≡ whole (pos 0)

-- The variables below a number are as they were.
pub record Keeps (n : ℕ) (old new : Environment) : Type 0 where
  pub same : (x : ℕ) → x < n → value_in new x ≡ value_in old x

-- Outcomes of several parts: all values, or the first reason why one has none.
pub data Together : Type 0 where
  All : List Datum → Together
  Lost : Reason → Together

abbrev pub also : Outcome → Together → Together
also (Stops why) rest = Lost why
also (Gives v) (Lost why) = Lost why
also (Gives v) (All vs) = All (v ∷ vs)

abbrev pub gather : List Outcome → Together
gather [] = All []
gather (o ∷ os) = also o (gather os)

abbrev pub with_all : Together → (List Datum → Outcome) → Outcome
with_all (Lost why) go = Stops why
with_all (All vs) go = go vs

-- What each of these means.
abbrev pub each_of : List (Environment → Outcome) → Environment → List Outcome
each_of [] env = []
each_of (f ∷ fs) env = f env ∷ each_of fs env

-- Bindings came to an environment in which the atom has the value, or stopped for the same reason.
pub data Agree (n : ℕ) (atom : Atom) (env : Environment) : Outcome → Reached → Type 0 where
  came : {v : Datum} {new : Environment} → value new atom ≡ v → Keeps n env new → Agree n atom env (Gives v) (Went new)
  halted : {why : Reason} → Agree n atom env (Stops why) (Halted why)

pub data Collects (n : ℕ) (atoms : List Atom) (env : Environment) : Together → Reached → Type 0 where
  got : {vs : List Datum} {new : Environment} → map (value new) atoms ≡ vs → Keeps n env new → Collects n atoms env (All vs) (Went new)
  missed : {why : Reason} → Collects n atoms env (Lost why) (Halted why)

pub record Lines (table : Table) (call : Calls) (n : ℕ) (l : Lined) (env : Environment) (o : Outcome) : Type 0 where
  pub grows : n ≤ l.fresh
  pub gives : mean table call l.term env ≡ o

pub record Atoms (table : Table) (call : Calls) (n : ℕ) (x : Atomed) (env : Environment) (o : Outcome) : Type 0 where
  pub grows : n ≤ x.fresh
  pub below : IsBelow x.fresh x.atom
  pub agree : Agree n x.atom env o (run_all table call x.binds env)

pub record Manys (table : Table) (call : Calls) (n : ℕ) (s : Several) (env : Environment) (p : Together) : Type 0 where
  pub grows : n ≤ s.fresh
  pub below : EachBelow s.fresh s.atoms
  pub agree : Collects n s.atoms env p (run_all table call s.binds env)

-- In each place the code does what f says.
pub record Good (table : Table) (call : Calls) (c : Code) (f : Environment → Outcome) (scope : Scope) : Type 0 where
  pub line : (n : ℕ) (env : Environment) → AllBelow n scope → Lines table call n (c.line scope n) env (f (env_of scope env))
  pub side : (n : ℕ) (env : Environment) → AllBelow n scope → Lines table call n (c.side scope n) env (f (env_of scope env))
  pub atom : (n : ℕ) (env : Environment) → AllBelow n scope → Atoms table call n (c.atom scope n) env (f (env_of scope env))
  pub bound : (n : ℕ) (env : Environment) → AllBelow n scope → Atoms table call n (c.bound scope n) env (f (env_of scope env))

abbrev pub AllGood : Table → Calls → List Code → List (Environment → Outcome) → Scope → Type 0
AllGood table call [] [] scope = Unit {0}
AllGood table call [] (f ∷ fs) scope = ⊥
AllGood table call (c ∷ cs) [] scope = ⊥
AllGood table call (c ∷ cs) (f ∷ fs) scope = Good table call c f scope × AllGood table call cs fs scope
