-- Lines that branch, and lines behind a binding, break no rule.
use Rattle.std.proofs.Common.{◌≡◌, ℕ, ◌+◌, ◌≤◌, Bool, true, false, not, ◌==◌, if◌then◌else◌, List, [], ◌∷◌, Some, None, refl, sym, ap, ◌∙◌, subst, arith}
use Rattle.std.proofs.lemmas.Option.{same_Some}
use Rattle.gib_types.specs.declared.table.Ty.{Ty}
use Rattle.gib_types.specs.declared.table.Ty.TheVariants.{Truth}
use Rattle.gib_syntax.specs.declared.tree.Ident.{Ident}
use Rattle.gib_syntax.specs.Declarations.{number_of}
use Rattle.gib_syntax.specs.Tree.{FunctionTree}
use Rattle.gib_syntax.specs.Results as results
use Rattle.gib_syntax.specs.Results.{Results}
use Rattle.gib_syntax.specs.Typing as typing
use Rattle.gib_syntax.specs.Typing.{one_type}
use Rattle.gib_core.specs.declared.atom.Atom.{Atom}
use Rattle.gib_core.specs.declared.atom.Atom.TheVariants as atomic
use Rattle.gib_core.specs.Tree.{IfTerm, var, variables_from, CoreTree}
use Rattle.gib_core.specs.Inferring.{Scope, slot, Code, as_atoms, let_line, if_line, with_fields, atom_at, type_at}
use Rattle.gib_core.specs.Met.{Setting, Met, IfLine, known, in_branch, met}
use Rattle.gib_core.specs.Rules.{Before, is_among, type_of, least, rules, next_all}
use Rattle.gib_core.specs.Reachable.{all_reached}
use Rattle.gib_core.specs.Ordered.{IsFit}
use Rattle.gib_infer.proofs.Fits.{scope_more, at_fit}
use Rattle.gib_infer.proofs.Makes.{least_three, can_have}
use Rattle.gib_infer.proofs.Rising.{ScopeKept, can_kept}
use Rattle.gib_infer.proofs.Ready.{CanUse, CanUseAll, Ready, PlaceFor, NamesTyped, Clean, clean_nothing, clean_then, then_all, line_then, ready_behind, LineOk, CodeBuilt}
use Rattle.gib_core.proofs.Along.{behind_all}

-- Names in scope.

names_bound : (x : Ident) (t t' : Ty) (at : Atom) (known : typing.Scope) (sc : Scope) (s : Setting) (b : Before) → CanUse s b at t
    → ((y : ℕ) (ty : Ty) → typing.type_in known y ≡ Some ty → CanUse s b (atom_at sc y) ty)
    → (y : ℕ) (ty : Ty) → typing.type_in (typing.bound x t known) y ≡ Some ty → CanUse s b (atom_at (slot x at t' ∷ sc) y) ty
names_bound x t t' at known sc s b can names y ty e = here (number_of x == y) e
  where
    here : (c : Bool) → (if c then Some t else typing.type_in known y) ≡ Some ty → CanUse s b (if c then at else atom_at sc y) ty
    here true e = subst (CanUse s b at) (same_Some t ty e) can
    here false e = names y ty e

pub ready_bound : (n m : ℕ) (x : Ident) (t t' : Ty) (at : Atom) (known : typing.Scope) (sc : Scope) (s : Setting) (b : Before) → Ready n m known sc s b → IsFit n at → CanUse s b at t
    → Ready n m (typing.bound x t known) (slot x at t' ∷ sc) s b
ready_bound n m x t t' at known sc s b r fit can = record {
  names = names_bound x t t' at known sc s b can r.names;
  fits = (fit, r.fits);
  new = r.new;
  uncased = r.uncased;
  apart = r.apart;
}

pub names_typed_bound : (x : Ident) (t t' : Ty) (at : Atom) (known : typing.Scope) (sc : Scope) → t' ≡ t → NamesTyped known sc → NamesTyped (typing.bound x t known) (slot x at t' ∷ sc)
names_typed_bound x t t' at known sc same h = record { types = λ y ty e. here y ty (number_of x == y) e }
  where
    here : (y : ℕ) (ty : Ty) (c : Bool) → (if c then Some t else typing.type_in known y) ≡ Some ty → (if c then t' else type_at sc y) ≡ ty
    here y ty true e = same ∙ same_Some t ty e
    here y ty false e = h.types y ty e

pub names_typed_fields : (xs : List Ident) (types : List Ty) (known inner : typing.Scope) (sc : Scope) (n : ℕ) → typing.BindsAll known xs types inner → NamesTyped known sc → NamesTyped inner (with_fields xs types n sc)
names_typed_fields [] [] known inner sc n e h = subst (λ (k : typing.Scope). NamesTyped k sc) (sym e) h
names_typed_fields [] (t ∷ types) known inner sc n e h = absurd e
names_typed_fields (x ∷ xs) [] known inner sc n e h = absurd e
names_typed_fields (x ∷ xs) (t ∷ types) known inner sc n e h =
    names_typed_fields xs types (typing.bound x t known) inner (slot x (var n) t ∷ sc) (n + 1) e.1 (names_typed_bound x t t (var n) known sc refl h)

-- The names of fields.
pub names_fields : (xs : List Ident) (types : List Ty) (known inner : typing.Scope) (sc : Scope) (n : ℕ) (s : Setting) (b : Before) → typing.BindsAll known xs types inner
    → CanUseAll s b (as_atoms (variables_from n xs)) types
    → ((y : ℕ) (ty : Ty) → typing.type_in known y ≡ Some ty → CanUse s b (atom_at sc y) ty)
    → (y : ℕ) (ty : Ty) → typing.type_in inner y ≡ Some ty → CanUse s b (atom_at (with_fields xs types n sc) y) ty
names_fields [] [] known inner sc n s b e can names = subst (λ (k : typing.Scope). (y : ℕ) (ty : Ty) → typing.type_in k y ≡ Some ty → CanUse s b (atom_at sc y) ty) (sym e) names
names_fields [] (t ∷ types) known inner sc n s b e can names = absurd e
names_fields (x ∷ xs) [] known inner sc n s b e can names = absurd e
names_fields (x ∷ xs) (t ∷ types) known inner sc n s b e can names =
    names_fields xs types (typing.bound x t known) inner (slot x (var n) t ∷ sc) (n + 1) s b e.1 can.1 (names_bound x t t (var n) known sc s b can.0 names)

module _ (core : CoreTree) where
  pub type_of_below : (n k : ℕ) (b : Before) (ms : List Met) (x : Atom) → Clean core n k b ms → IsFit n x → type_of (next_all core.table b ms) x ≡ type_of b x
  type_of_below n k b ms (atomic.Variable y) c h = c.below y h
  type_of_below n k b ms (atomic.Whole z) c h = refl
  type_of_below n k b ms (atomic.Truth t) c h = refl

  -- Where more stands before, and what could be used is in scope still.
  pub ready_after : (n k m : ℕ) (known : typing.Scope) (sc : Scope) (s new : Setting) (b : Before) (ms : List Met) → ScopeKept s new → new.others ≡ s.others → Ready n m known sc s b → Clean core n k b ms → n ≤ k
      → Ready k m known sc new (next_all core.table b ms)
  ready_after n k m known sc s new b ms es eo r c le = record {
    names = λ x ty e. can_kept s new b (next_all core.table b ms) (atom_at sc x) ty es eo (type_of_below n k b ms (atom_at sc x) c (at_fit n sc x r.fits)) (r.names x ty e);
    fits = scope_more n k sc le r.fits;
    new = λ x lo hi. c.above x lo ∙ r.new x (omega (arith, le, lo)) hi;
    uncased = λ x lo. c.uncased x lo ∙ r.uncased x (omega (arith, le, lo));
    apart = λ x lo hi. ap (λ z. is_among z x) eo ∙ r.apart x (omega (arith, le, lo)) hi;
  }

  module _ (functions : List FunctionTree) where
    -- A `let`.
    pub let_ok : (x : Ident) (c d : Code) (t : Ty) (given : Results Ty) (known : typing.Scope) (sc : Scope) → CodeBuilt core functions c (results.One t) known sc
        → ((at : Atom) (t' : Ty) → t' ≡ t → CodeBuilt core functions d given (typing.bound x t known) (slot x at t' ∷ sc))
        → LineOk core (let_line x c.bound d.line) given known sc
    let_ok x c d t given known sc hc hd n m s b ready le place =
        let l = c.bound sc n in
        let a = hc.order.bound n ready.fits in
        let body = hd l.atom l.ty (hc.bound_type n) in
        let sc' : Scope = slot x l.atom l.ty ∷ sc in
        let r = d.line sc' l.fresh in
        let up = a.grows in
        let o = body.order.line l.fresh (a.fit, scope_more n l.fresh sc up ready.fits) in
        let up' = o.grows in
        let h = hc.bound n m s b ready (omega arith) in
        let s1 = behind_all s l.binds in
        let b1 = then_all core s b l.binds in
        let r1 = ready_behind core n l.fresh m known sc s b l.binds ready h.runs up in
        let q = body.line l.fresh m s1 b1 (ready_bound l.fresh m x t l.ty l.atom known sc s1 b1 r1 a.fit h.can) le (record { destination = h.runs.destination ∙ place.destination; due = h.runs.due ∙ place.due }) in
        record { clean = line_then core n l.fresh r.fresh s b l.binds r.term h.runs q.clean up up' }

    pub let_type : (x : Ident) (c d : Code) (t : Ty) (given : Results Ty) (known : typing.Scope) (sc : Scope) → CodeBuilt core functions c (results.One t) known sc
        → ((at : Atom) (t' : Ty) → t' ≡ t → CodeBuilt core functions d given (typing.bound x t known) (slot x at t' ∷ sc))
        → (n : ℕ) → (let_line x c.bound d.line sc n).ty ≡ one_type given
    let_type x c d t given known sc hc hd n = let l = c.bound sc n in (hd l.atom l.ty (hc.bound_type n)).line_type l.fresh

    -- An `if`.
    if_least : (s : Setting) (b : Before) (x : Atom) → CanUse s b x Truth → least (rules core b (all_reached s) (IfLine x)) ≡ None
    if_least s b x h = least_three 4 8 9 h.other (ap not h.usable) (ap not (can_have s b x Truth Truth h refl))

    pub if_ok : (c d e : Code) (given : Results Ty) (known : typing.Scope) (sc : Scope) → CodeBuilt core functions c (results.One Truth) known sc → CodeBuilt core functions d given known sc
        → CodeBuilt core functions e given known sc → LineOk core (if_line c.atom d.line e.line) given known sc
    if_ok c d e given known sc hc hd he n m s b ready le place =
        let x = c.atom sc n in
        let a = hc.order.atom n ready.fits in
        let up = a.grows in
        let l = d.line sc x.fresh in
        let ol = hd.order.line x.fresh (scope_more n x.fresh sc up ready.fits) in
        let up1 = ol.grows in
        let r = e.line sc l.fresh in
        let o = he.order.line l.fresh (scope_more n l.fresh sc (omega arith) ready.fits) in
        let up2 = o.grows in
        let h = hc.atom n m s b ready (omega arith) in
        let s1 = behind_all s x.binds in
        let b1 = then_all core s b x.binds in
        let r1 = ready_behind core n x.fresh m known sc s b x.binds ready h.runs up in
        let inner = in_branch s1 in
        let place' : PlaceFor given inner = record { destination = h.runs.destination ∙ place.destination; due = h.runs.due ∙ place.due } in
        let ready1 = ready_after x.fresh x.fresh m known sc s1 inner b1 [] (λ y f. f) refl r1 (clean_nothing core x.fresh b1) (omega arith) in
        let p = hd.line x.fresh m inner b1 ready1 (omega arith) place' in
        let lines = met core.table inner l.term in
        let ready2 = ready_after x.fresh l.fresh m known sc inner inner b1 lines (λ y f. f) refl ready1 p.clean up1 in
        let q = he.line l.fresh m inner (next_all core.table b1 lines) ready2 le place' in
        let both = clean_then core x.fresh l.fresh l.fresh r.fresh b1 lines (met core.table inner r.term) p.clean q.clean up1 up2 in
        let line : Clean core x.fresh r.fresh b1 (met core.table s1 (IfTerm x.atom l.term r.term)) = record {
          reachable = (if_least s1 b1 x.atom h.can, both.reachable);
          below = both.below;
          above = both.above;
          uncased = both.uncased;
        } in
        record { clean = line_then core n x.fresh r.fresh s b x.binds (IfTerm x.atom l.term r.term) h.runs line up (omega arith) }
