-- What is asked where an expression is compiled, and what is left behind it, so that no rule is broken.
use Rattle.std.proofs.Common.{◌≡◌, ℕ, ◌<◌, ◌≤◌, true, false, List, [], ◌∷◌, ◌++◌, Some, None, refl, sym, ap, ◌∙◌, subst, arith, append_assoc}
use Rattle.gib_types.specs.declared.table.Ty.{Ty}
use Rattle.gib_types.specs.Table.{Table}
use Rattle.gib_syntax.specs.Meaning.{is_scalar}
use Rattle.gib_syntax.specs.Results as results
use Rattle.gib_syntax.specs.Results.{Results}
use Rattle.gib_syntax.specs.Tree.{FunctionTree}
use Rattle.gib_syntax.specs.Typing as typing
use Rattle.gib_syntax.specs.Typing.{one_type}
use Rattle.gib_core.specs.declared.atom.Variable.{Variable}
use Rattle.gib_core.specs.declared.atom.Atom.{Atom}
use Rattle.gib_core.specs.Tree.{Term, Bind, prepend, CoreTree}
use Rattle.gib_core.specs.Inferring.{Scope, Lined, Atomed, Several, ToLine, ToAtom, Code, atom_at, type_at}
use Rattle.gib_core.specs.Met.{Setting, Met, behind, met, met_bind, result_place}
use Rattle.gib_core.specs.Rules.{Before, is_among, type_bound, type_of, is_usable, is_other, next_all}
use Rattle.gib_core.specs.Reachable.{all_reached, LinesAreReachable}
use Rattle.gib_core.specs.Ordered.{IsFit, AreFit}
use Rattle.gib_core.proofs.Erases.{fit_more}
use Rattle.gib_infer.proofs.Fits.{ScopeFits, scope_more, at_fit}
use Rattle.gib_infer.proofs.Ordered.{CodeOrdered}
use Rattle.gib_core.proofs.Along.{next_append, behind_all, met_all, reachable_append}

-- Lists of bindings.

pub behind_all-append : (s : Setting) (xs ys : List Bind) → behind_all s (xs ++ ys) ≡ behind_all (behind_all s xs) ys
behind_all-append s [] ys = refl
behind_all-append s (x ∷ xs) ys = behind_all-append (behind s x) xs ys

pub met_all-append : (table : Table) (s : Setting) (xs ys : List Bind) → met_all table s (xs ++ ys) ≡ met_all table s xs ++ met_all table (behind_all s xs) ys
met_all-append table s [] ys = refl
met_all-append table s (x ∷ xs) ys = ap (λ z. met_bind table s x ++ z) (met_all-append table (behind s x) xs ys) ∙ sym (append_assoc (met_bind table s x) (met_all table (behind s x) xs) (met_all table (behind_all (behind s x) xs) ys))

pub met-prepend : (table : Table) (s : Setting) (bs : List Bind) (t : Term) → met table s (prepend bs t) ≡ met_all table s bs ++ met table (behind_all s bs) t
met-prepend table s [] t = refl
met-prepend table s (x ∷ bs) t = ap (λ z. met_bind table s x ++ z) (met-prepend table (behind s x) bs t) ∙ sym (append_assoc (met_bind table s x) (met_all table (behind s x) bs) (met table (behind_all (behind s x) bs) t))

-- An atom that may be used, of a type.
pub record CanUse (s : Setting) (b : Before) (x : Atom) (ty : Ty) : Type 0 where
  pub usable : is_usable (all_reached s) x ≡ true
  pub of_type : type_of b x ≡ Some ty
  pub other : is_other s x ≡ false

-- Atoms may be used, of these types, as many as there are.
abbrev pub CanUseAll : Setting → Before → List Atom → List Ty → Type 0
CanUseAll s b [] [] = Unit {0}
CanUseAll s b [] (t ∷ ts) = ⊥
CanUseAll s b (x ∷ xs) [] = ⊥
CanUseAll s b (x ∷ xs) (t ∷ ts) = CanUse s b x t × CanUseAll s b xs ts

-- What may be used below n may be used later on.
pub record Alike (n : ℕ) (s new : Setting) (b after : Before) : Type 0 where
  pub can : (x : Atom) (ty : Ty) → IsFit n x → CanUse s b x ty → CanUse new after x ty

pub alike_same : (n : ℕ) (s : Setting) (b : Before) → Alike n s s b b
alike_same n s b = record { can = λ x ty f h. h }

pub alike_more : {n m : ℕ} {s mid new : Setting} {b then after : Before} → Alike n s mid b then → Alike m mid new then after → n ≤ m → Alike n s new b after
alike_more {n} {m} p q le = record { can = λ x ty f h. q.can x ty (fit_more n m x le f) (p.can x ty f h) }

pub use_all_alike : {n : ℕ} {s new : Setting} {b after : Before} (xs : List Atom) (ts : List Ty) → Alike n s new b after → AreFit n xs → CanUseAll s b xs ts → CanUseAll new after xs ts
use_all_alike [] [] k f h = tt
use_all_alike [] (t ∷ ts) k f h = absurd h
use_all_alike (x ∷ xs) [] k f h = absurd h
use_all_alike (x ∷ xs) (t ∷ ts) k f h = (k.can x t f.0 h.0, use_all_alike xs ts k f.1 h.1)

-- What is asked of the place where an expression is compiled: names have their types and may be used; variables from n
-- up to m are new, and not those of other sides; from n on none was cased.
pub record Ready (n m : ℕ) (known : typing.Scope) (sc : Scope) (s : Setting) (b : Before) : Type 0 where
  pub names : (x : ℕ) (ty : Ty) → typing.type_in known x ≡ Some ty → CanUse s b (atom_at sc x) ty
  pub fits : ScopeFits n sc
  pub new : (x : Variable) → n ≤ x.0 → x.0 < m → type_bound b.bound x ≡ None
  pub uncased : (x : Variable) → n ≤ x.0 → is_among b.cased x ≡ false
  pub apart : (x : Variable) → n ≤ x.0 → x.0 < m → is_among s.others x ≡ false

pub ready_less : {n m k : ℕ} {known : typing.Scope} {sc : Scope} {s : Setting} {b : Before} → Ready n m known sc s b → k ≤ m → Ready n k known sc s b
ready_less r le = record {
  names = r.names;
  fits = r.fits;
  new = λ x lo hi. r.new x lo (omega (arith, le, hi));
  uncased = r.uncased;
  apart = λ x lo hi. r.apart x lo (omega (arith, le, hi));
}

-- Where the value of a type is put, or the parts of several types are.
pub record PlaceFor (given : Results Ty) (s : Setting) : Type 0 where
  pub destination : s.destination ≡ result_place given
  pub due : s.due ≡ one_type given

-- What holds for the type of one thing; of several parts nothing is asked.
abbrev pub OfOne : (Ty → Type 0) → Results Ty → Type 0
OfOne P (results.One ty) = P ty
OfOne P (results.Several types) = Unit {0}

-- The names in scope have the types that typing gives them.
pub record NamesTyped (known : typing.Scope) (sc : Scope) : Type 0 where
  pub types : (x : ℕ) (ty : Ty) → typing.type_in known x ≡ Some ty → type_at sc x ≡ ty

module _ (core : CoreTree) where
  -- Lines break no rule, and bind variables from n up to k alone; from k on none was cased that was not before.
  pub record Clean (n k : ℕ) (b : Before) (ms : List Met) : Type 0 where
    pub reachable : LinesAreReachable core b ms
    pub below : (x : Variable) → x.0 < n → type_bound (next_all core.table b ms).bound x ≡ type_bound b.bound x
    pub above : (x : Variable) → k ≤ x.0 → type_bound (next_all core.table b ms).bound x ≡ type_bound b.bound x
    pub uncased : (x : Variable) → k ≤ x.0 → is_among (next_all core.table b ms).cased x ≡ is_among b.cased x

  pub clean_nothing : (n : ℕ) (b : Before) → Clean n n b []
  clean_nothing n b = record { reachable = tt; below = λ x h. refl; above = λ x h. refl; uncased = λ x h. refl }

  pub clean_then : (n k l m : ℕ) (b : Before) (xs ys : List Met) → Clean n k b xs → Clean l m (next_all core.table b xs) ys → n ≤ l → k ≤ m → Clean n m b (xs ++ ys)
  clean_then n k l m b xs ys p q lo hi = record {
    reachable = reachable_append core b xs ys p.reachable q.reachable;
    below = λ x h. ap (λ (z : Before). type_bound z.bound x) (next_append core.table b xs ys) ∙ q.below x (omega (arith, lo, h)) ∙ p.below x h;
    above = λ x h. ap (λ (z : Before). type_bound z.bound x) (next_append core.table b xs ys) ∙ q.above x h ∙ p.above x (omega (arith, hi, h));
    uncased = λ x h. ap (λ (z : Before). is_among z.cased x) (next_append core.table b xs ys) ∙ q.uncased x h ∙ p.uncased x (omega (arith, hi, h));
  }

  -- What stands before, behind bindings.
  abbrev pub then_all : Setting → Before → List Bind → Before
  then_all s b bs = next_all core.table b (met_all core.table s bs)

  -- Bindings that break no rule: what was usable stays so, and the destination is the same behind them.
  pub record Runs (n k : ℕ) (s : Setting) (b : Before) (bs : List Bind) : Type 0 where
    pub clean : Clean n k b (met_all core.table s bs)
    pub alike : Alike n s (behind_all s bs) b (then_all s b bs)
    pub others : (behind_all s bs).others ≡ s.others
    pub destination : (behind_all s bs).destination ≡ s.destination
    pub due : (behind_all s bs).due ≡ s.due

  pub runs_nothing : (n : ℕ) (s : Setting) (b : Before) → Runs n n s b []
  runs_nothing n s b = record { clean = clean_nothing n b; alike = alike_same n s b; others = refl; destination = refl; due = refl }

  pub then_all-append : (s : Setting) (b : Before) (xs ys : List Bind) → then_all s b (xs ++ ys) ≡ then_all (behind_all s xs) (then_all s b xs) ys
  then_all-append s b xs ys = ap (next_all core.table b) (met_all-append core.table s xs ys) ∙ next_append core.table b (met_all core.table s xs) (met_all core.table (behind_all s xs) ys)

  pub runs_then : (n k m : ℕ) (s : Setting) (b : Before) (xs ys : List Bind) → Runs n k s b xs → Runs k m (behind_all s xs) (then_all s b xs) ys → n ≤ k → k ≤ m → Runs n m s b (xs ++ ys)
  runs_then n k m s b xs ys p q lo hi =
      let es = behind_all-append s xs ys in
      let eb = then_all-append s b xs ys in
      record {
        clean = subst (Clean n m b) (sym (met_all-append core.table s xs ys)) (clean_then n k k m b (met_all core.table s xs) (met_all core.table (behind_all s xs) ys) p.clean q.clean lo hi);
        alike = subst (λ (z : Setting). Alike n s z b (then_all s b (xs ++ ys))) (sym es)
            (subst (λ (z : Before). Alike n s (behind_all (behind_all s xs) ys) b z) (sym eb) (alike_more p.alike q.alike lo));
        others = ap (λ (z : Setting). z.others) es ∙ q.others ∙ p.others;
        destination = ap (λ (z : Setting). z.destination) es ∙ q.destination ∙ p.destination;
        due = ap (λ (z : Setting). z.due) es ∙ q.due ∙ p.due;
      }

  -- A line behind bindings.
  pub line_then : (n k m : ℕ) (s : Setting) (b : Before) (bs : List Bind) (t : Term) → Runs n k s b bs → Clean k m (then_all s b bs) (met core.table (behind_all s bs) t) → n ≤ k → k ≤ m → Clean n m b (met core.table s (prepend bs t))
  line_then n k m s b bs t p q lo hi = subst (Clean n m b) (sym (met-prepend core.table s bs t)) (clean_then n k k m b (met_all core.table s bs) (met core.table (behind_all s bs) t) p.clean q lo hi)

  pub ready_behind : (n k m : ℕ) (known : typing.Scope) (sc : Scope) (s : Setting) (b : Before) (bs : List Bind) → Ready n m known sc s b → Runs n k s b bs → n ≤ k → Ready k m known sc (behind_all s bs) (then_all s b bs)
  ready_behind n k m known sc s b bs r p le = record {
    names = λ x ty e. p.alike.can (atom_at sc x) ty (at_fit n sc x r.fits) (r.names x ty e);
    fits = scope_more n k sc le r.fits;
    new = λ x lo hi. p.clean.above x lo ∙ r.new x (omega (arith, le, lo)) hi;
    uncased = λ x lo. p.clean.uncased x lo ∙ r.uncased x (omega (arith, le, lo));
    apart = λ x lo hi. ap (λ z. is_among z x) p.others ∙ r.apart x (omega (arith, le, lo)) hi;
  }

  -- What an expression becomes breaks no rule.

  pub record LineBuilt (n : ℕ) (l : Lined) (s : Setting) (b : Before) : Type 0 where
    pub clean : Clean n l.fresh b (met core.table s l.term)

  pub record AtomBuilt (n : ℕ) (x : Atomed) (ty : Ty) (s : Setting) (b : Before) : Type 0 where
    pub runs : Runs n x.fresh s b x.binds
    pub can : CanUse (behind_all s x.binds) (then_all s b x.binds) x.atom ty

  pub record SeveralBuilt (n : ℕ) (r : Several) (ts : List Ty) (s : Setting) (b : Before) : Type 0 where
    pub runs : Runs n r.fresh s b r.binds
    pub can : CanUseAll (behind_all s r.binds) (then_all s b r.binds) r.atoms ts

  -- A line in result place, wherever it stands.
  abbrev pub LineOk : ToLine → Results Ty → typing.Scope → Scope → Type 0
  LineOk line given known sc = (n m : ℕ) (s : Setting) (b : Before) → Ready n m known sc s b → (line sc n).fresh ≤ m → PlaceFor given s → LineBuilt n (line sc n) s b

  -- The whole term of a side: there a scalar call may stand by itself.
  abbrev pub SideOk : ToLine → Ty → typing.Scope → Scope → Type 0
  SideOk line ty known sc = (n m : ℕ) (s : Setting) (b : Before) → Ready n m known sc s b → (line sc n).fresh ≤ m → PlaceFor (results.One ty) s → s.whole ≡ is_scalar ty → LineBuilt n (line sc n) s b

  abbrev pub AtomOk : ToAtom → Ty → typing.Scope → Scope → Type 0
  AtomOk atom ty known sc = (n m : ℕ) (s : Setting) (b : Before) → Ready n m known sc s b → (atom sc n).fresh ≤ m → AtomBuilt n (atom sc n) ty s b

  module _ (functions : List FunctionTree) where
    -- What an expression becomes, that gives a thing of a type or parts of several: it has the type, uses rising variables, and breaks no rule.
    pub record CodeBuilt (c : Code) (given : Results Ty) (known : typing.Scope) (sc : Scope) : Type 0 where
      pub order : CodeOrdered (record { table = core.table; functions = functions }) c sc
      pub line_type : (n : ℕ) → (c.line sc n).ty ≡ one_type given
      pub side_type : (n : ℕ) → (c.side sc n).ty ≡ one_type given
      pub atom_type : (n : ℕ) → (c.atom sc n).ty ≡ one_type given
      pub bound_type : (n : ℕ) → (c.bound sc n).ty ≡ one_type given
      pub line : LineOk c.line given known sc
      pub side : OfOne (λ ty. SideOk c.side ty known sc) given
      pub atom : OfOne (λ ty. AtomOk c.atom ty known sc) given
      pub bound : OfOne (λ ty. AtomOk c.bound ty known sc) given

    -- Arguments of these types, as many as there are.
    abbrev pub AllBuilt : List Code → List Ty → typing.Scope → Scope → Type 0
    AllBuilt [] [] known sc = Unit {0}
    AllBuilt [] (t ∷ ts) known sc = ⊥
    AllBuilt (c ∷ cs) [] known sc = ⊥
    AllBuilt (c ∷ cs) (t ∷ ts) known sc = CodeBuilt c (results.One t) known sc × AllBuilt cs ts known sc
