-- Branches of a case.
use Rattle.std.proofs.Common.{◌≡◌, ℕ, zero, suc, ◌+◌, ◌-◌, ◌<◌, ◌≤◌, List, [], ◌∷◌, ◌++◌, length, Option, Some, None, refl, sym, ap, ◌∙◌, subst, arith, take}
use Rattle.std.specs.Prelude.{Result, IfOk}
use Rattle.std.specs.Option.{option_or, unwrap_or}
use Rattle.gib_base.specs.declared.Span.{Span}
use Rattle.gib_types.specs.declared.table.Ty.{Ty}
use Rattle.gib_types.specs.declared.table.Ty.TheVariants.{Whole}
use Rattle.gib_types.specs.declared.table.ConId.{ConId}
use Rattle.gib_types.specs.Table.{fields_at, owner_at}
use Rattle.gib_syntax.specs.declared.exprs.Arm.{Arm}
use Rattle.gib_syntax.specs.declared.exprs.Node.{Node as Expr}
use Rattle.gib_syntax.specs.declared.tree.Ident.{Ident}
use Rattle.gib_syntax.specs.Tree.{Expression, Case}
use Rattle.gib_syntax.specs.Arena.{tree_of, ArmsBelow, arms_from, case_from}
use Rattle.gib_syntax.specs.Parts.{Parts}
use Rattle.gib_syntax.specs.Declarations.{number_of}
use Rattle.gib_core.specs.declared.atom.Atom.{Atom}
use Rattle.gib_core.specs.declared.atom.Variable.{Variable}
use Rattle.gib_core.specs.declared.node.TermId.{TermId}
use Rattle.gib_core.specs.declared.node.Branch.{Branch}
use Rattle.gib_core.specs.declared.node.Node.{Node}
use Rattle.gib_core.specs.Tree.{Term, CaseTerm, Branches, NoBranch, BranchThen}
use Rattle.gib_core.specs.Arena.{Grows, branches_from, term_of}
use Rattle.gib_core.specs.Tree.{variables_from}
use Rattle.gib_core.specs.Inferring.{Scope, Lined, Branched, infer, infer_arms, of_line, case_line, branch_of, branches_of, arm_for, atom_at, constructors_of, numbers_from, first_constructor, with_fields}
use Rattle.gib_infer.specs.declared.work.Work.{Work}
use Rattle.gib_infer.specs.Made.{scope_of, globals_in, code_at, arm_at, arms_at, arm_line, join, MakesLine, MakesBranch, BindsFields, BranchesSoFar}
use Rattle.gib_core.proofs.Fronting.{branches_below_more, branches_below_push, branches_same, grows_more, grows_none}
use Rattle.gib_infer.proofs.Making.{keeps_more}

arms-each : (parts : Parts) (exprs : List Expr) (arm : Arm) (arms : List Arm) → infer_arms (globals_in parts) (arms_from (tree_of exprs) arm arms) ≡ arms_at parts exprs (arm ∷ arms)
arms-each parts exprs arm [] = refl
arms-each parts exprs arm (next ∷ arms) = ap (λ z. arm_at parts exprs arm ∷ z) (arms-each parts exprs next arms)

-- What a case becomes.
pub case-same : (parts : Parts) (exprs : List Expr) (p : Span) (x : Ident) (arms : List Arm) (id : ℕ) → ArmsBelow arms id → infer (globals_in parts) (case_from (tree_of exprs) arms (Case p x)) ≡ of_line (case_line (globals_in parts).table x (arms_at parts exprs arms))
case-same parts exprs p x [] id below = absurd below
case-same parts exprs p x (arm ∷ arms) id below = ap (λ z. of_line (case_line (globals_in parts).table x z)) (arms-each parts exprs arm arms)

pub case_opened : (parts : Parts) (exprs : List Expr) (tree : Expression) (p : Span) (x : Ident) (arms now : List Arm) (id : ℕ) (sc : Scope) (n : ℕ) → tree ≡ case_from (tree_of exprs) arms (Case p x) → ArmsBelow arms id → now ≡ arms → case_line (globals_in parts).table x (arms_at parts exprs now) sc n ≡ (infer (globals_in parts) tree).line sc n
case_opened parts exprs tree p x arms now id sc n et below en =
    (λ i. case_line (globals_in parts).table x (arms_at parts exprs (en i)) sc n)
    ∙ sym (λ i. (case-same parts exprs p x arms id below i).line sc n)
    ∙ sym (ap (λ (z : Expression). (infer (globals_in parts) z).line sc n) et)

pub lines_same : {E : Type 0} (old new : Work) (o : Result (TermId × Ty) E) (l m : Lined) → l ≡ m → IfOk o (λ r. MakesLine old new r.0 r.1 l) → IfOk o (λ r. MakesLine old new r.0 r.1 m)
lines_same old new o l m e h = subst (λ (z : Lined). IfOk o (λ r. MakesLine old new r.0 r.1 z)) e h

-- The branch of an arm.
pub branch_made : (parts : Parts) (exprs : List Expr) (arm : Arm) (k : ConId) (w0 w1 w2 w3 : Work) (types : List Ty) (xs : List Variable) (m : ℕ) (b : Branch) (of : Ty) → types ≡ fields_at (globals_in parts).table k.0 → BindsFields w0 w1 arm.variables.items types xs → MakesLine w1 w2 b.term of ((code_at parts exprs arm.body.0).line (scope_of w1.scope.items) w1.fresh) → m ≡ length w0.scope.items → w3.scope.items ≡ take m w2.scope.items → w3.terms ≡ w2.terms → w3.fresh ≡ w2.fresh → b.constructor ≡ k → b.variables.items ≡ xs → MakesBranch w0 w3 b of parts exprs arm k
branch_made parts exprs arm k w0 w1 w2 w3 types xs m b of et hb h em es3 et3 ef3 ek ev =
    let names = arm.variables.items in
    let sc = scope_of w0.scope.items in
    let l = arm_line parts exprs arm k.0 sc w0.fresh in
    let same : (code_at parts exprs arm.body.0).line (scope_of w1.scope.items) w1.fresh ≡ l =
    (λ i. (code_at parts exprs arm.body.0).line ((hb.scope ∙ ap (λ z. with_fields names z w0.fresh sc) et) i) (hb.fresh i)) in
    let k2 : MakesLine w1 w2 b.term of l = subst (λ (z : Lined). MakesLine w1 w2 b.term of z) same h in
    let g : Grows w0.terms w3.terms = rw et3 (subst (λ (z : List Node). Grows z w2.terms) hb.terms k2.keeps.grows) in
    record {
      keeps = record { grows = g; scope = es3 ∙ (λ i. take (em i) (k2.keeps.scope i)) ∙ hb.kept };
      inside = rw et3 k2.inside;
      constructor = ek;
      variables = ev ∙ hb.variables;
      term = ap (λ (z : List Node). term_of z b.term.0) et3 ∙ k2.term;
      ty = k2.ty;
      fresh = ef3 ∙ k2.fresh;
    }

join-last : (f : ℕ → Term) (bs : List Branch) (b : Branch) (rest : Branches) → join (branches_from f (bs ++ b ∷ [])) rest ≡ join (branches_from f bs) (BranchThen b.constructor b.variables.items (f b.term.0) rest)
join-last f [] b rest = refl
join-last f (x ∷ bs) b rest = ap (BranchThen x.constructor x.variables.items (f x.term.0)) (join-last f bs b rest)

join-none : (bs : Branches) → join bs NoBranch ≡ bs
join-none NoBranch = refl
join-none (BranchThen k xs t bs) = ap (BranchThen k xs t) (join-none bs)

or-some : (o : Option Ty) (t d : Ty) → unwrap_or (option_or o (Some t)) d ≡ unwrap_or o t
or-some None t d = refl
or-some (Some s) t d = refl

or-none : (o : Option Ty) → option_or o None ≡ o
or-none None = refl
or-none (Some s) = refl

-- A constructor without an arm.
pub no_branch : (parts : Parts) (exprs : List Expr) (arms : List Arm) (start now : Work) (bs : List Branch) (of : Option Ty) (k : ℕ) (ks : List ℕ) (all : Branched) → arm_for (arms_at parts exprs arms) k ≡ None → BranchesSoFar parts exprs arms start now bs of (k ∷ ks) all → BranchesSoFar parts exprs arms start now bs (option_or of None) ks all
no_branch parts exprs arms start now bs of k ks all e h =
    let g = globals_in parts in
    let sc = scope_of start.scope.items in
    let rest : ℕ → Branched = λ n. branches_of g.table ks (arms_at parts exprs arms) sc n in
    let same : rest now.fresh ≡ branches_of g.table (k ∷ ks) (arms_at parts exprs arms) sc now.fresh = sym (ap (λ o. branch_of g.table k o sc now.fresh rest) e) in
    record {
      keeps = h.keeps;
      inside = h.inside;
      branches = ap (λ (z : Branched). join (branches_from (term_of now.terms) bs) z.branches) same ∙ h.branches;
      fresh = ap (λ (z : Branched). z.fresh) same ∙ h.fresh;
      ty = (λ i. unwrap_or (or-none of i) (same i).ty) ∙ h.ty;
    }

-- One more branch.
pub one_branch : (parts : Parts) (exprs : List Expr) (arms : List Arm) (arm : Arm) (start now newer : Work) (bs more : List Branch) (b : Branch) (of : Option Ty) (found : Ty) (k : ConId) (ks : List ℕ) (all : Branched) → arm_for (arms_at parts exprs arms) k.0 ≡ Some (arm_at parts exprs arm) → MakesBranch now newer b found parts exprs arm k → more ≡ bs ++ b ∷ [] → BranchesSoFar parts exprs arms start now bs of (k.0 ∷ ks) all → BranchesSoFar parts exprs arms start newer more (option_or of (Some found)) ks all
one_branch parts exprs arms arm start now newer bs more b of found k ks all e m em h =
    let g = globals_in parts in
    let sc = scope_of start.scope.items in
    let l = arm_line parts exprs arm k.0 sc now.fresh in
    let at_start : arm_line parts exprs arm k.0 (scope_of now.scope.items) now.fresh ≡ l = (λ i. arm_line parts exprs arm k.0 (scope_of (h.keeps.scope i)) now.fresh) in
    let rest : ℕ → Branched = λ n. branches_of g.table ks (arms_at parts exprs arms) sc n in
    let f = term_of newer.terms in
    let old = branches_of g.table (k.0 ∷ ks) (arms_at parts exprs arms) sc now.fresh in
    let new = branch_of g.table k.0 (Some (arm_at parts exprs arm)) sc now.fresh rest in
    let same : new ≡ old = sym (ap (λ o. branch_of g.table k.0 o sc now.fresh rest) e) in
    let fresh : newer.fresh ≡ l.fresh = m.fresh ∙ ap (λ (z : Lined). z.fresh) at_start in
    let term : f b.term.0 ≡ l.term = m.term ∙ ap (λ (z : Lined). z.term) at_start in
    let ty : found ≡ l.ty = m.ty ∙ ap (λ (z : Lined). z.ty) at_start in
    let xs = variables_from now.fresh arm.variables.items in
    record {
      keeps = keeps_more start now newer h.keeps m.keeps;
      inside = rw em (branches_below_push (length newer.terms) bs b (branches_below_more (length now.terms) (length newer.terms) bs m.keeps.grows.longer h.inside) m.inside);
      branches =
          (λ i. join (branches_from f (em i)) (rest (fresh i)).branches)
          ∙ join-last f bs b (rest l.fresh).branches
          ∙ (λ i. join (branches_same now.terms newer.terms bs m.keeps.grows h.inside i) (BranchThen (m.constructor i) (m.variables i) (term i) (rest l.fresh).branches))
          ∙ ap (λ (z : Branched). join (branches_from (term_of now.terms) bs) z.branches) same
          ∙ h.branches;
      fresh = (λ i. (rest (fresh i)).fresh) ∙ ap (λ (z : Branched). z.fresh) same ∙ h.fresh;
      ty = or-some of found (rest newer.fresh).ty ∙ (λ i. unwrap_or of (ty i)) ∙ ap (λ (z : Branched). unwrap_or of z.ty) same ∙ h.ty;
    }

-- All branches of a case.
abbrev pub all_branches : Parts → List Expr → List Arm → Work → Branched
all_branches parts exprs arms start =
    let table = (globals_in parts).table in
    branches_of table (constructors_of table (owner_at table (first_constructor (arms_at parts exprs arms)))) (arms_at parts exprs arms) (scope_of start.scope.items) start.fresh

-- The branches so far, and the constructors that are left.
pub record CaseSoFar (parts : Parts) (exprs : List Expr) (arms : List Arm) (start now : Work) (bs : List Branch) (of : Option Ty) (next left : ℕ) : Type 0 where
  pub so_far : BranchesSoFar parts exprs arms start now bs of (numbers_from next left) (all_branches parts exprs arms start)
  pub few : next + left ≤ 200

pub case_start : (parts : Parts) (exprs : List Expr) (arms : List Arm) (start : Work) (bs : List Branch) (k owner next left : ℕ) → bs ≡ [] → k ≡ first_constructor (arms_at parts exprs arms) → owner ≡ owner_at (globals_in parts).table k → numbers_from next left ≡ constructors_of (globals_in parts).table owner → next + left ≤ 200 → CaseSoFar parts exprs arms start start bs None next left
case_start parts exprs arms start bs k owner next left eb ek eo en few =
    let table = (globals_in parts).table in
    let same : branches_of table (numbers_from next left) (arms_at parts exprs arms) (scope_of start.scope.items) start.fresh ≡ all_branches parts exprs arms start =
    (λ i. branches_of table ((en ∙ ap (constructors_of table) (eo ∙ ap (owner_at table) ek)) i) (arms_at parts exprs arms) (scope_of start.scope.items) start.fresh) in
    record {
      so_far = record {
        keeps = record { grows = grows_none start.terms; scope = refl };
        inside = rw eb tt;
        branches = (λ i. join (branches_from (term_of start.terms) (eb i)) (same i).branches);
        fresh = ap (λ (z : Branched). z.fresh) same;
        ty = ap (λ (z : Branched). z.ty) same;
      };
      few = few;
    }

numbers-next : (next left : ℕ) → 0 < left → numbers_from next left ≡ next ∷ numbers_from (next + 1) (left - 1)
numbers-next next zero lt = absurd (omega (arith, lt))
numbers-next next (suc left) lt = (let e : suc next ≡ next + 1 = omega arith in let d : left ≡ suc left - 1 = omega arith in (λ i. next ∷ numbers_from (e i) (d i)))

pub case_next : (parts : Parts) (exprs : List Expr) (arms : List Arm) (start now newer : Work) (bs more : List Branch) (of made next_of : Option Ty) (next left : ℕ) → 0 < left → next_of ≡ option_or of made → CaseSoFar parts exprs arms start now bs of next left → ((start' : Work) (of' : Option Ty) (ks : List ℕ) (all : Branched) → BranchesSoFar parts exprs arms start' now bs of' (next ∷ ks) all → BranchesSoFar parts exprs arms start' newer more (option_or of' made) ks all) → CaseSoFar parts exprs arms start newer more next_of (next + 1) (left - 1)
case_next parts exprs arms start now newer bs more of made next_of next left lt eo h step = record {
  so_far = rw eo (step start of (numbers_from (next + 1) (left - 1)) (all_branches parts exprs arms start) (subst (λ ks. BranchesSoFar parts exprs arms start now bs of ks (all_branches parts exprs arms start)) (numbers-next next left lt) h.so_far));
  few = (let q = h.few in omega (arith, q, lt));
}

numbers-end : (next left : ℕ) → left ≤ 0 → numbers_from next left ≡ []
numbers-end next zero le = refl
numbers-end next (suc left) le = absurd (omega (arith, le))

pub case_end : (parts : Parts) (exprs : List Expr) (arms : List Arm) (x : Ident) (start now newer : Work) (bs : List Branch) (subject : Atom) (of : Option Ty) (got : Ty) (next left : ℕ) (id : TermId) → left ≤ 0 → got ≡ unwrap_or of Whole → CaseSoFar parts exprs arms start now bs of next left → subject ≡ atom_at (scope_of start.scope.items) (number_of x) → newer.scope.items ≡ now.scope.items → newer.fresh ≡ now.fresh → Grows now.terms newer.terms → id.0 < length newer.terms → term_of newer.terms id.0 ≡ CaseTerm subject (branches_from (term_of now.terms) bs) → MakesLine start newer id got (case_line (globals_in parts).table x (arms_at parts exprs arms) (scope_of start.scope.items) start.fresh)
case_end parts exprs arms x start now newer bs subject of got next left id le eg h ex es ef g lt et =
    let k = subst (λ ks. BranchesSoFar parts exprs arms start now bs of ks (all_branches parts exprs arms start)) (numbers-end next left le) h.so_far in
    let f = term_of now.terms in
    record {
      keeps = record { grows = grows_more start.terms now.terms newer.terms k.keeps.grows g; scope = es ∙ k.keeps.scope };
      inside = lt;
      term = et ∙ (λ i. CaseTerm (ex i) ((sym (join-none (branches_from f bs)) ∙ k.branches) i));
      ty = eg ∙ k.ty;
      fresh = ef ∙ k.fresh;
    }
