-- What is counted, one after another.
use Rattle.std.proofs.Common.{◌≡◌, ℕ, suc, ◌+◌, ◌-◌, ◌<◌, ◌≤◌, Bool, true, false, cond, List, [], ◌∷◌, take, drop, get_or, map, length, Option, Some, None, refl, sym, ap, ap₂, ◌∙◌, subst, arith}
use Rattle.std.specs.List.{AllByRecursion}
use Rattle.gib_check.proofs.RowLists.{rest-is}
use Rattle.gib_local.specs.declared.counting.Tally.{Tally}
use Rattle.gib_local_parse.specs.declared.lines.LineArm.{LineArm}
use Rattle.gib_local_parse.specs.declared.text.FunctionLines.{FunctionLines}
use Rattle.gib_base.specs.declared.Span.{Span}
use Rattle.gib_syntax.specs.declared.tree.Ident.{Ident}
use Rattle.gib_syntax.specs.declared.tree.TypeName.{TypeName}
use Rattle.gib_local.specs.Building.{Program, con, is_flat}
use Rattle.gib_local.specs.Counting.{made_terms, terms, binding_terms, bound_terms, unlike, unlike_binding, unlike_bound, unlike_in, arms_terms, unlike_arms, or_later}
use Rattle.gib_local.specs.CountingSteps.{Adds, Goes, GoesOver, program_in}
use Rattle.gib_local_parse.specs.LineArena.{ArmsBelow, IsArmBelow, arms_from, tree_of}
use Rattle.gib_local_parse.specs.ReadingTerms.{arms_text}
use Rattle.gib_local_parse.specs.TextParts.{TextParts, IsFunctionIn, function_text}
use Rattle.gib_local_parse.specs.Tree.{Line, In, Given, Pointed, Called, Made, Cased, Chosen, Binding, ParIn, Bound, Be, Arms, FunctionText}
use Rattle.gib_local_parse.specs.declared.tree.Mark.{Mark}
use Rattle.gib_local_parse.specs.declared.tree.Operand.{Operand}

later_none : (o : Option ℕ) → o ≡ or_later o None
later_none None = refl
later_none (Some n) = refl

later_later : (a b c : Option ℕ) → or_later (or_later a b) c ≡ or_later a (or_later b c)
later_later None b c = refl
later_later (Some n) b c = refl

-- So many terms, and nothing was found.
pub adds_leaf : (old new : Tally) (n : ℕ) → new.terms ≡ old.terms + n → new.unlike ≡ old.unlike → Adds old new n None
adds_leaf old new n et eu = record { terms = et; unlike = eu ∙ later_none old.unlike }

pub adds_none : (old : Tally) → Adds old old 0 None
adds_none old = record { terms = omega arith; unlike = later_none old.unlike }

-- Some terms, and some behind them.
pub adds_then : (old between new : Tally) (n m : ℕ) (o : Option ℕ) (g : ℕ → Option ℕ) → Adds old between n o → Adds between new m (g between.terms) → Adds old new (n + m) (or_later o (g (old.terms + n)))
adds_then old between new n m o g h k = record {
  terms = (let a = h.terms in let b = k.terms in omega (arith, a, b));
  unlike = k.unlike ∙ ap₂ (λ (a : Option ℕ) (i : ℕ). or_later a (g i)) h.unlike h.terms ∙ later_later old.unlike o (g (old.terms + n));
}

-- One term, and some behind it.
pub adds_one : (old between new : Tally) (m : ℕ) (g : ℕ → Option ℕ) → between.terms ≡ old.terms + 1 → between.unlike ≡ old.unlike → Adds between new m (g between.terms) → Adds old new (suc m) (g (suc old.terms))
adds_one old between new m g et eu k = record {
  terms = (let b = k.terms in omega (arith, et, b));
  unlike = k.unlike ∙ ap₂ (λ (a : Option ℕ) (i : ℕ). or_later a (g i)) eu (let e : between.terms ≡ suc old.terms = omega (arith, et) in e);
}

-- ---- an operation

pub unlike_found : (b : Bool) (old between new : Tally) → b ≡ false → old.unlike ≡ None → between.terms ≡ old.terms → between.unlike ≡ Some old.terms → new.terms ≡ between.terms + 1 → new.unlike ≡ between.unlike → Adds old new 1 (cond b None (Some old.terms))
unlike_found true old between new e eo et eu nt nu = absurd cc
unlike_found false old between new e eo et eu nt nu = record {
  terms = omega (arith, et, nt);
  unlike = nu ∙ eu ∙ sym (ap (λ (o : Option ℕ). or_later o (Some old.terms)) eo);
}

-- ---- arms

-- The terms of arms, and what is found in them.
abbrev pub each_terms : Program → (ℕ → Line) → List LineArm → ℕ
each_terms p f [] = 0
each_terms p f (arm ∷ arms) = terms p (f arm.line.0) + each_terms p f arms

abbrev pub each_unlike : Program → (ℕ → Line) → List LineArm → ℕ → Option ℕ
each_unlike p f [] n = None
each_unlike p f (arm ∷ arms) n = or_later (unlike p (f arm.line.0) n) (each_unlike p f arms (n + terms p (f arm.line.0)))

arms_are_terms : (p : Program) (f : ℕ → Line) (arm : LineArm) (arms : List LineArm) → arms_terms p (arms_from f arm arms) ≡ each_terms p f (arm ∷ arms)
arms_are_terms p f arm [] = omega arith
arms_are_terms p f arm (next ∷ arms) = ap (λ n. terms p (f arm.line.0) + n) (arms_are_terms p f next arms)

arms_are_unlike : (p : Program) (f : ℕ → Line) (arm : LineArm) (arms : List LineArm) (n : ℕ) → unlike_arms p (arms_from f arm arms) n ≡ each_unlike p f (arm ∷ arms) n
arms_are_unlike p f arm [] n = later_none (unlike p (f arm.line.0) n)
arms_are_unlike p f arm (next ∷ arms) n = ap (or_later (unlike p (f arm.line.0) n)) (arms_are_unlike p f next arms (n + terms p (f arm.line.0)))

-- Some of the arms were counted.
pub record ArmsCounted (p : Program) (f : ℕ → Line) (id : ℕ) (start now : Tally) (arms rest : List LineArm) : Type 0 where
  pub below : AllByRecursion (IsArmBelow id) rest
  pub terms : start.terms + arms_terms p (arms_text f arms) ≡ now.terms + each_terms p f rest
  pub unlike : or_later start.unlike (unlike_arms p (arms_text f arms) start.terms) ≡ or_later now.unlike (each_unlike p f rest now.terms)

pub arms_begin : (p : Program) (f : ℕ → Line) (id : ℕ) (start : Tally) (arms : List LineArm) → ArmsBelow arms id → ArmsCounted p f id start start arms arms
arms_begin p f id start [] h = elim h [ ]
arms_begin p f id start (arm ∷ arms) h = record {
  below = h;
  terms = ap (λ n. start.terms + n) (arms_are_terms p f arm arms);
  unlike = ap (or_later start.unlike) (arms_are_unlike p f arm arms start.terms);
}

module _ (p : Program) (f : ℕ → Line) (id : ℕ) (start now : Tally) (arms : List LineArm) where
  arms_on : (newer : Tally) (arm : LineArm) (rest : List LineArm) → ArmsCounted p f id start now arms (arm ∷ rest) → Goes p (f arm.line.0) now newer → ArmsCounted p f id start newer arms rest
  arms_on newer arm rest h g = record {
    below = h.below.1;
    terms = (let a = h.terms in let b = g.terms in omega (arith, a, b));
    unlike = h.unlike
        ∙ sym (later_later now.unlike (unlike p (f arm.line.0) now.terms) (each_unlike p f rest (now.terms + terms p (f arm.line.0))))
        ∙ ap₂ (λ (o : Option ℕ) (n : ℕ). or_later o (each_unlike p f rest n)) (sym g.unlike) (sym g.terms);
  }

  pub arms_goes_on : (newer : Tally) (rest : List LineArm) (x : LineArm) → 1 ≤ length rest → ArmsCounted p f id start now arms rest → x ≡ get_or rest 0 x → Goes p (f x.line.0) now newer → ArmsCounted p f id start newer arms (take (length rest - 1) (drop 1 rest))
  arms_goes_on newer [] x l h q g = absurd (omega (arith, l))
  arms_goes_on newer (arm ∷ rest) x l h q g =
      subst (λ z. ArmsCounted p f id start newer arms z) (sym (rest-is arm rest))
      (arms_on newer arm rest h (subst (λ (z : LineArm). Goes p (f z.line.0) now newer) q g))

  pub arm_inside : (rest : List LineArm) (x : LineArm) → 1 ≤ length rest → ArmsCounted p f id start now arms rest → x ≡ get_or rest 0 x → x.line.0 < id
  arm_inside [] x l h q = absurd (omega (arith, l))
  arm_inside (arm ∷ rest) x l h q = subst (λ (z : LineArm). z.line.0 < id) (sym q) h.below.0

  pub arms_counted : (rest : List LineArm) → length rest < 1 → ArmsCounted p f id start now arms rest → Adds start now (arms_terms p (arms_text f arms)) (unlike_arms p (arms_text f arms) start.terms)
  arms_counted [] l h = record { terms = (let a = h.terms in omega (arith, a)); unlike = later_none now.unlike ∙ sym h.unlike }
  arms_counted (arm ∷ rest) l h = absurd (omega (arith, l))

-- ---- bodies

-- Some of the bodies were counted.
pub record BodiesCounted (parts : TextParts) (start now : Tally) (functions rest : List FunctionLines) : Type 0 where
  pub inside : AllByRecursion (IsFunctionIn (length parts.lines)) rest
  pub by : (main : Line) → or_later start.unlike (unlike_in (program_in parts) (map (function_text (tree_of parts.lines)) functions) main start.terms) ≡ or_later now.unlike (unlike_in (program_in parts) (map (function_text (tree_of parts.lines)) rest) main now.terms)

pub bodies_begin : (parts : TextParts) (start : Tally) (functions : List FunctionLines) → AllByRecursion (IsFunctionIn (length parts.lines)) functions → BodiesCounted parts start start functions functions
bodies_begin parts start functions i = record { inside = i; by = λ main. refl }

module _ (parts : TextParts) (start now : Tally) (functions : List FunctionLines) where
  bodies_on : (newer : Tally) (x : FunctionLines) (rest : List FunctionLines) → BodiesCounted parts start now functions (x ∷ rest) → Goes (program_in parts) (tree_of parts.lines x.body.0) now newer → BodiesCounted parts start newer functions rest
  bodies_on newer x rest h g = record {
    inside = h.inside.1;
    by = λ main.
        h.by main
        ∙ sym (later_later now.unlike (unlike (program_in parts) (tree_of parts.lines x.body.0) now.terms) (unlike_in (program_in parts) (map (function_text (tree_of parts.lines)) rest) main (now.terms + terms (program_in parts) (tree_of parts.lines x.body.0))))
        ∙ ap₂ (λ (o : Option ℕ) (n : ℕ). or_later o (unlike_in (program_in parts) (map (function_text (tree_of parts.lines)) rest) main n)) (sym g.unlike) (sym g.terms);
  }

  pub bodies_go_on : (newer : Tally) (rest : List FunctionLines) (x : FunctionLines) → 1 ≤ length rest → BodiesCounted parts start now functions rest → x ≡ get_or rest 0 x → Goes (program_in parts) (tree_of parts.lines x.body.0) now newer → BodiesCounted parts start newer functions (take (length rest - 1) (drop 1 rest))
  bodies_go_on newer [] x l h q g = absurd (omega (arith, l))
  bodies_go_on newer (f ∷ rest) x l h q g =
      subst (λ z. BodiesCounted parts start newer functions z) (sym (rest-is f rest))
      (bodies_on newer f rest h (subst (λ (z : FunctionLines). Goes (program_in parts) (tree_of parts.lines z.body.0) now newer) q g))

  pub counted_inside : (rest : List FunctionLines) (x : FunctionLines) → 1 ≤ length rest → BodiesCounted parts start now functions rest → x ≡ get_or rest 0 x → x.body.0 < length parts.lines
  counted_inside [] x l h q = absurd (omega (arith, l))
  counted_inside (f ∷ rest) x l h q = subst (λ (z : FunctionLines). z.body.0 < length parts.lines) (sym q) h.inside.0

  pub bodies_counted : (rest : List FunctionLines) → length rest < 1 → BodiesCounted parts start now functions rest → GoesOver (program_in parts) (map (function_text (tree_of parts.lines)) functions) start now
  bodies_counted [] l h = record { by = h.by }
  bodies_counted (f ∷ rest) l h = absurd (omega (arith, l))

-- What is found in all bodies, main's last.
pub all_counted : (p : Program) (fs : List FunctionText) (main : Line) (start between new : Tally) → start.terms ≡ 0 → start.unlike ≡ None → GoesOver p fs start between → Goes p main between new → new.unlike ≡ unlike_in p fs main 0
all_counted p fs main start between new et eu h g =
    g.unlike ∙ sym (h.by main) ∙ ap₂ (λ (o : Option ℕ) (n : ℕ). or_later o (unlike_in p fs main n)) eu et

-- ---- lines, by what they are

module _ (p : Program) (t : Line) (old new : Tally) where
  pub given_goes : (at : Span) (x : Operand) → t ≡ Given at x → new.terms ≡ old.terms + 1 → new.unlike ≡ old.unlike → Goes p t old new
  given_goes at x e et eu = subst (λ z. Goes p z old new) (sym e) (adds_leaf old new 1 et eu)

  pub pointed_goes : (at : Span) (x : Ident) (m : Mark) → t ≡ Pointed at x m → new.terms ≡ old.terms + 1 → new.unlike ≡ old.unlike → Goes p t old new
  pointed_goes at x m e et eu = subst (λ z. Goes p z old new) (sym e) (adds_leaf old new 1 et eu)

  pub called_goes : (f : Ident) (xs : List Operand) (m : Option Mark) → t ≡ Called f xs m → new.terms ≡ old.terms + 1 → new.unlike ≡ old.unlike → Goes p t old new
  called_goes f xs m e et eu = subst (λ z. Goes p z old new) (sym e) (adds_leaf old new 1 et eu)

  pub made_goes : (k : Ident) (m : Mark) (xs : List Operand) → t ≡ Made k m xs → new.terms ≡ old.terms + made_terms (is_flat p.table (con p.table k)) → new.unlike ≡ old.unlike → Goes p t old new
  made_goes k m xs e et eu = subst (λ z. Goes p z old new) (sym e) (adds_leaf old new (made_terms (is_flat p.table (con p.table k))) et eu)

  pub in_goes : (between : Tally) (s : Span) (b : Binding) (u : Line) → t ≡ In s b u → Adds old between (binding_terms p b) (unlike_binding p b old.terms) → Goes p u between new → Goes p t old new
  in_goes between s b u e h k = subst (λ z. Goes p z old new) (sym e) (adds_then old between new (binding_terms p b) (terms p u) (unlike_binding p b old.terms) (unlike p u) h k)

  pub case_goes : (between : Tally) (s : Span) (x : Ident) (arms : Arms) → t ≡ Cased s x arms → between.terms ≡ old.terms + 1 → between.unlike ≡ old.unlike → Adds between new (arms_terms p arms) (unlike_arms p arms between.terms) → Goes p t old new
  case_goes between s x arms e et eu k = subst (λ z. Goes p z old new) (sym e) (adds_one old between new (arms_terms p arms) (unlike_arms p arms) et eu k)

  pub if_goes : (one between : Tally) (s : Span) (x : Operand) (u v : Line) → t ≡ Chosen s x u v → one.terms ≡ old.terms + 1 → one.unlike ≡ old.unlike → Goes p u one between → Goes p v between new → Goes p t old new
  if_goes one between s x u v e et eu h k =
      subst (λ z. Goes p z old new) (sym e)
      (adds_one old one new (terms p u + terms p v) (λ n. or_later (unlike p u n) (unlike p v (n + terms p u))) et eu
      (adds_then one between new (terms p u) (terms p v) (unlike p u one.terms) (unlike p v) h k))

-- ---- bindings

pub bound_goes : (p : Program) (x : Ident) (w : TypeName) (at : Option Mark) (u : Line) (old one new : Tally) → one.terms ≡ old.terms + 1 → one.unlike ≡ old.unlike → Goes p u one new → Adds old new (bound_terms p (Be x w at u)) (unlike_bound p (Be x w at u) old.terms)
bound_goes p x w at u old one new et eu k = adds_one old one new (terms p u) (unlike p u) et eu k

pub par_goes : (p : Program) (l r : Bound) (g : Option (Ident × Ident)) (old one between new : Tally) → one.terms ≡ old.terms + 1 → one.unlike ≡ old.unlike → Adds one between (bound_terms p l) (unlike_bound p l one.terms) → Adds between new (bound_terms p r) (unlike_bound p r between.terms) → Adds old new (binding_terms p (ParIn l g r)) (unlike_binding p (ParIn l g r) old.terms)
par_goes p l r g old one between new et eu h k =
    adds_one old one new (bound_terms p l + bound_terms p r) (λ n. or_later (unlike_bound p l n) (unlike_bound p r (n + bound_terms p l))) et eu
    (adds_then one between new (bound_terms p l) (bound_terms p r) (unlike_bound p l one.terms) (unlike_bound p r) h k)
