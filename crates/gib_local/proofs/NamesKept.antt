-- Names of scopes: which are found, and which stay.
use Rattle.std.proofs.Common.{◌≡◌, ℕ, zero, suc, ◌+◌, ◌-◌, ◌<◌, ◌≤◌, Bool, true, false, cond, eqb, List, [], ◌∷◌, take, drop, get_or, length, Option, Some, None, Ok, refl, sym, ap, ap₂, ◌∙◌, subst, arith}
use Rattle.std.specs.Prelude.{is_some}
use Rattle.std.proofs.lemmas.List.{length-drop, drop-drop}
use Rattle.gib_syntax.specs.declared.tree.Ident.{Ident}
use Rattle.gib_syntax.specs.declared.tree.Parameter.{Parameter}
use Rattle.gib_syntax.specs.Declarations.{number_of, place_of, next_place}
use Rattle.gib_check.specs.declared.fault.TypeFault.{TypeFault}
use Rattle.gib_check.specs.Answers.{IsFaultOf}
use Rattle.gib_check.specs.Faults.{and_then}
use Rattle.gib_check.proofs.Loops.{passed_on, along}
use Rattle.gib_check.proofs.RowLists.{rest-is}
use Rattle.gib_check.specs.InScope.{ScopeOf, newest}
use Rattle.gib_local.specs.Knowing.{names_in, IsKept}
use Rattle.gib_local.specs.Naming.{Names, After', bound, all_bound, with_variable, with_names}

one_found : (b : Bool) (n : ℕ) (o p : Option ℕ) → is_some o ≡ is_some p → is_some (cond b (Some n) o) ≡ is_some (cond b (Some 0) (next_place p))
one_found true n o p e = refl
one_found false n o None e = e
one_found false n o (Some m) e = e

-- A name is found in a scope exactly where it is one of the scope's names.
pub found_too : (s : ScopeOf ℕ) (x : ℕ) → is_some (newest s x) ≡ is_some (place_of (names_in s) x)
found_too [] x = refl
found_too (b ∷ s) x = one_found (eqb b.0 x) b.1 (newest s x) (place_of (names_in s) x) (found_too s x)

pub as_many_names : (s : ScopeOf ℕ) → length (names_in s) ≡ length s
as_many_names [] = refl
as_many_names (b ∷ s) = ap suc (as_many_names s)

pub names_dropped : (n : ℕ) (s : ScopeOf ℕ) → names_in (drop n s) ≡ drop n (names_in s)
names_dropped zero s = refl
names_dropped (suc n) [] = refl
names_dropped (suc n) (b ∷ s) = names_dropped n s

-- The oldest names of a list are those of a list in between.
pub oldest_too : (old between new : List ℕ) → drop (length new - length between) new ≡ between → drop (length between - length old) between ≡ old → drop (length new - length old) new ≡ old
oldest_too old between new e f =
    let n : length between ≡ length new - (length new - length between) = sym (ap length e) ∙ length-drop (length new - length between) new in
    let m : length old ≡ length between - (length between - length old) = sym (ap length f) ∙ length-drop (length between - length old) between in
    let k : length new - length old ≡ (length new - length between) + (length between - length old) = omega (arith, n, m) in
    ap (λ z. drop z new) k ∙ sym (drop-drop (length between - length old) (length new - length between) new) ∙ ap (drop (length between - length old)) e ∙ f

all_oldest : (l : List ℕ) → drop (length l - length l) l ≡ l
all_oldest l = let e : length l - length l ≡ 0 = omega arith in ap (λ n. drop n l) e

one_newer : (x : ℕ) (l : List ℕ) → drop (length (x ∷ l) - length l) (x ∷ l) ≡ l
one_newer x l = let e : suc (length l) - length l ≡ 1 = omega arith in ap (λ n. drop n (x ∷ l)) e

-- What is in scope stays; one more variable; one more place; what stays of what stays.
pub kept_whole : (s : Names) → IsKept s s
kept_whole s = record { variables = all_oldest s.variables; places = all_oldest s.places }

pub kept_variable : (x : ℕ) (s : Names) → IsKept s (record s { variables = x ∷ s.variables })
kept_variable x s = record { variables = one_newer x s.variables; places = all_oldest s.places }

pub kept_place : (x : ℕ) (s : Names) → IsKept s (record s { places = x ∷ s.places })
kept_place x s = record { variables = all_oldest s.variables; places = one_newer x s.places }

pub kept_further : (old between new : Names) → IsKept old between → IsKept between new → IsKept old new
kept_further old between new h g = record {
  variables = oldest_too old.variables between.variables new.variables g.variables h.variables;
  places = oldest_too old.places between.places new.places g.places h.places;
}

-- Names that are kept are what is left of more names.
pub left : (old between new : Names) (n m : ℕ) → IsKept old between → n ≡ length old.variables → m ≡ length old.places → new.variables ≡ drop (length between.variables - n) between.variables → new.places ≡ drop (length between.places - m) between.places → new ≡ old
left old between new n m h en em ev ep =
    ap₂ (λ (vs ps : List ℕ). record { variables = vs; places = ps })
    (ev ∙ ap (λ z. drop (length between.variables - z) between.variables) en ∙ h.variables)
    (ep ∙ ap (λ z. drop (length between.places - z) between.places) em ∙ h.places)

-- Some of the variables of an arm were bound.
pub record BoundSoFar (start now : After') (variables rest : List Ident) : Type 0 where
  pub read : all_bound variables start.names start.counts ≡ all_bound rest now.names now.counts
  pub kept : drop (length now.names.variables - length start.names.variables) now.names.variables ≡ start.names.variables
  pub places : now.names.places ≡ start.names.places

pub bound_start : (start : After') (variables : List Ident) → BoundSoFar start start variables variables
bound_start start variables = record { read = refl; kept = all_oldest start.names.variables; places = refl }

bound_more : (start now newer : After') (variables rest : List Ident) (x : Ident) → BoundSoFar start now variables (x ∷ rest) → bound now.names.variables now.counts x ≡ Ok newer.counts → newer.names ≡ with_variable x now.names → BoundSoFar start newer variables rest
bound_more start now newer variables rest x h e es =
    let ev : newer.names.variables ≡ number_of x ∷ now.names.variables = ap (λ (s : Names). s.variables) es in
    record {
      read = h.read ∙ ap (λ z. and_then z (λ m. all_bound rest (with_variable x now.names) m)) e ∙ ap (λ (s : Names). all_bound rest s newer.counts) (sym es);
      kept = oldest_too start.names.variables now.names.variables newer.names.variables
          (ap (λ z. drop (length z - length now.names.variables) z) ev ∙ one_newer (number_of x) now.names.variables) h.kept;
      places = ap (λ (s : Names). s.places) es ∙ h.places;
    }

pub bound_next : (start now newer : After') (variables rest : List Ident) (d : Ident) → 1 ≤ length rest → BoundSoFar start now variables rest → bound now.names.variables now.counts (get_or rest 0 d) ≡ Ok newer.counts → newer.names ≡ with_variable (get_or rest 0 d) now.names → BoundSoFar start newer variables (take (length rest - 1) (drop 1 rest))
bound_next start now newer variables [] d l h e es = absurd (omega (arith, l))
bound_next start now newer variables (x ∷ rest) d l h e es =
    subst (λ z. BoundSoFar start newer variables z) (sym (rest-is x rest)) (bound_more start now newer variables rest x h e es)

pub bound_fails : (start now : After') (variables rest : List Ident) (d : Ident) (e : TypeFault) → 1 ≤ length rest → BoundSoFar start now variables rest → IsFaultOf e (bound now.names.variables now.counts (get_or rest 0 d)) → IsFaultOf e (all_bound variables start.names start.counts)
bound_fails start now variables [] d e l h f = absurd (omega (arith, l))
bound_fails start now variables (x ∷ rest) d e l h f = along e _ _ h.read (passed_on e _ _ f)

pub bound_stops : (start now : After') (variables rest : List Ident) → length rest < 1 → BoundSoFar start now variables rest → all_bound variables start.names start.counts ≡ Ok now
bound_stops start now variables [] l h = h.read
bound_stops start now variables (x ∷ rest) l h = absurd (omega (arith, l))

-- Some of the parameters came into scope.
pub record EnteredSoFar (start now : After') (parameters rest : List Parameter) : Type 0 where
  pub variables : with_names parameters start.names.variables ≡ with_names rest now.names.variables
  pub places : now.names.places ≡ start.names.places
  pub counts : now.counts ≡ start.counts

pub entered_start : (start : After') (parameters : List Parameter) → EnteredSoFar start start parameters parameters
entered_start start parameters = record { variables = refl; places = refl; counts = refl }

pub entered_next : (start now newer : After') (parameters rest : List Parameter) (d : Parameter) → 1 ≤ length rest → EnteredSoFar start now parameters rest → newer.names ≡ with_variable (get_or rest 0 d).name now.names → newer.counts ≡ now.counts → EnteredSoFar start newer parameters (take (length rest - 1) (drop 1 rest))
entered_next start now newer parameters [] d l h es en = absurd (omega (arith, l))
entered_next start now newer parameters (q ∷ rest) d l h es en =
    subst (λ z. EnteredSoFar start newer parameters z) (sym (rest-is q rest))
    (record {
      variables = h.variables ∙ ap (λ (s : Names). with_names rest s.variables) (sym es);
      places = ap (λ (s : Names). s.places) es ∙ h.places;
      counts = en ∙ h.counts;
    })

pub entered_stops : (start now : After') (parameters rest : List Parameter) → length rest < 1 → EnteredSoFar start now parameters rest → now.names ≡ record { variables = with_names parameters start.names.variables; places = start.names.places }
entered_stops start now parameters [] l h = ap₂ (λ (vs ps : List ℕ). record { variables = vs; places = ps }) (sym h.variables) h.places
entered_stops start now parameters (q ∷ rest) l h = absurd (omega (arith, l))
