-- One body behind others.
use Rattle.std.proofs.Common.{false, ◌≡◌, ℕ, ◌+◌, ◌-◌, ◌≤◌, List, [], ◌∷◌, ◌++◌, map, None, refl, sym, ap, ◌∙◌, subst, arith, take, drop, get_or, length, reverse}
use Rattle.std.proofs.Math.Seq.{take-length}
use Rattle.std.specs.List.{AllByRecursion}
use Rattle.gib_core.specs.declared.program.CoreFunction.{CoreFunction}
use Rattle.gib_core.specs.Tree.{CoreTree, Term, FunctionTerm}
use Rattle.gib_core.specs.declared.program.CoreMain.{CoreMain}
use Rattle.gib_core.specs.Arena.{term_of}
use Rattle.gib_core.specs.Parts.{Parts, IsFunctionInside, core_of, function_term}
use Rattle.gib_syntax.specs.Results as results
use Rattle.gib_syntax.specs.Typing.{one_type}
use Rattle.gib_core.specs.Met.{Body, met, met_body, bodies, opening, result_place}
use Rattle.gib_core.specs.Rules.{Broken, or_else, broken_from, broken_in, before_body, first_broken}
use Rattle.gib_loccheck.specs.declared.state.Walk.{Walk}
use Rattle.gib_loccheck.specs.declared.target.Target.{Target}
use Rattle.gib_loccheck.specs.declared.fault.LocFault.{LocFault}
use Rattle.gib_loccheck.specs.declared.fault.LocFault.TheVariants as fault
use Rattle.gib_loccheck.specs.Views.{before_of, setting_of, at_line, destination_of}
use Rattle.gib_loccheck.specs.Judging.{Says, Passes, Blames}
use Rattle.gib_loccheck.specs.Bodies.{Pass, Blame, Opens, body_of, bodies_of}

-- The walk stands before these functions, and those before them pass.
pub record FunctionsSoFar (core : CoreTree) (first now : ℕ) (f : ℕ → Term) (functions left : List CoreFunction) (terms : ℕ) : Type 0 where
  pub all : (rest : List Body) → broken_in core first (bodies_of f functions ++ rest) ≡ broken_in core now (bodies_of f left ++ rest)
  pub inside : AllByRecursion (IsFunctionInside terms) left

opened_before : (a b : Walk) (body : Body) → Opens a b body.parameters → before_of b ≡ before_body body
opened_before a b body o = (λ i. record { bound = o.bound i; cased = reverse (o.cased i) })

opened_setting : (a b : Walk) (target : Target) (body : Body) → Opens a b body.parameters
    → destination_of target.destination ≡ result_place body.result → target.due ≡ one_type body.result → target.whole ≡ false → at_line (setting_of b target) ≡ opening body
opened_setting a b target body o d e w = (λ i. record { destination = d i; due = e i; scope = o.scope i; others = reverse (o.others i); whole = w i; calls = [] })

module _ (core : CoreTree) where
  lines_of_body : (a b : Walk) (target : Target) (body : Body) → Opens a b body.parameters
      → destination_of target.destination ≡ result_place body.result → target.due ≡ one_type body.result → target.whole ≡ false
      → broken_from core b.place (before_of b) (met core.table (at_line (setting_of b target)) body.term) ≡ broken_from core a.place (before_body body) (met_body core.table body)
  lines_of_body a b target body o d e w = (λ i. broken_from core (o.place i) (opened_before a b body o i) (met core.table (opened_setting a b target body o d e w i) body.term))

  pub body_passes : (a b c : Walk) (target : Target) (body : Body) → Opens a b body.parameters
      → destination_of target.destination ≡ result_place body.result → target.due ≡ one_type body.result → target.whole ≡ false
      → Passes core b c (met core.table (at_line (setting_of b target)) body.term) → Pass core a.place c.place (body ∷ [])
  body_passes a b c target body o d e w p =
      let none = sym (lines_of_body a b target body o d e w) ∙ p.unbroken in
      let place : c.place ≡ a.place + length (met_body core.table body) = p.place ∙ (λ i. o.place i + length (met core.table (opened_setting a b target body o d e w i) body.term)) in
      record {
        unbroken = λ rest. ap (λ z. or_else z (broken_in core (a.place + length (met_body core.table body)) rest)) none ∙ ap (λ (n : ℕ). broken_in core n rest) (sym place);
      }

  says_first : (e : LocFault) (x y : Broken) → Says e x → Says e (or_else x y)
  says_first fault.Memory x y h = tt {0}
  says_first (fault.Rule r p) x y h = ap (λ z. or_else z y) h

  pub body_blamed : (e : LocFault) (a b : Walk) (target : Target) (body : Body) → Opens a b body.parameters
      → destination_of target.destination ≡ result_place body.result → target.due ≡ one_type body.result → target.whole ≡ false
      → Blames core b (met core.table (at_line (setting_of b target)) body.term) e → Blame core a.place (body ∷ []) e
  body_blamed e a b target body o d i w h =
      λ rest. says_first e (broken_from core a.place (before_body body) (met_body core.table body)) (broken_in core (a.place + length (met_body core.table body)) rest)
      (subst (λ (z : Broken). Says e z) (lines_of_body a b target body o d i w) h)

  rest_of : (b : CoreFunction) (left : List CoreFunction) → take (length (b ∷ left) - 1) left ≡ left
  rest_of b left = ap (λ (n : ℕ). take n left) (omega arith) ∙ take-length left

  pub functions_next : (first now next : ℕ) (f : ℕ → Term) (functions left : List CoreFunction) (terms : ℕ) (d : CoreFunction) → 1 ≤ length left → d ≡ get_or left 0 d
      → FunctionsSoFar core first now f functions left terms → Pass core now next (body_of f d ∷ [])
      → FunctionsSoFar core first next f functions (take (length left - 1) (drop 1 left)) terms
  functions_next first now next f functions [] terms d long at so p = absurd (omega (arith, long))
  functions_next first now next f functions (g ∷ left) terms d long at so p =
      let p' = subst (λ (z : CoreFunction). Pass core now next (body_of f z ∷ [])) at p in
      subst (λ (z : List CoreFunction). FunctionsSoFar core first next f functions z terms) (sym (rest_of g left))
      (record { all = λ rest. so.all rest ∙ p'.unbroken (bodies_of f left ++ rest); inside = so.inside.1 })

  pub functions_blamed : (e : LocFault) (first now : ℕ) (f : ℕ → Term) (functions left : List CoreFunction) (terms : ℕ) (d : CoreFunction) → 1 ≤ length left → d ≡ get_or left 0 d
      → FunctionsSoFar core first now f functions left terms → Blame core now (body_of f d ∷ []) e → Blame core first (bodies_of f functions) e
  functions_blamed e first now f functions [] terms d long at so h = absurd (omega (arith, long))
  functions_blamed e first now f functions (g ∷ left) terms d long at so h =
      let h' = subst (λ (z : CoreFunction). Blame core now (body_of f z ∷ []) e) at h in
      λ rest. subst (λ (z : Broken). Says e z) (sym (so.all rest)) (h' (bodies_of f left ++ rest))

-- The body of main.
abbrev pub main_body : (ℕ → Term) → CoreMain → Body
main_body f m = record { parameters = m.parameter ∷ []; result = results.One m.result; term = f m.body.0 }

bodies_known : (f : ℕ → Term) (ds : List CoreFunction) (ms : List Body)
    → map (λ (g : FunctionTerm). record { parameters = g.parameters; result = g.result; term = g.body }) (map (function_term f) ds) ++ ms ≡ bodies_of f ds ++ ms
bodies_known f [] ms = refl
bodies_known f (d ∷ ds) ms = ap (λ z. body_of f d ∷ z) (bodies_known f ds ms)

core_bodies : (parts : Parts) (ds : List CoreFunction) (m : CoreMain) → ds ≡ parts.functions → m ≡ parts.main
    → bodies (core_of parts) ≡ bodies_of (term_of parts.terms) ds ++ main_body (term_of parts.terms) m ∷ []
core_bodies parts ds m same main =
    let f = term_of parts.terms in
    bodies_known f parts.functions (main_body f parts.main ∷ []) ∙ (λ i. bodies_of f (sym same i) ++ main_body f (sym main i) ∷ [])

-- Functions that pass leave what main breaks first.
behind_functions : (parts : Parts) (ds : List CoreFunction) (m : CoreMain) (next : ℕ) → ds ≡ parts.functions → m ≡ parts.main
    → Pass (core_of parts) 0 next (bodies_of (term_of parts.terms) ds)
    → first_broken (core_of parts) ≡ broken_in (core_of parts) next (main_body (term_of parts.terms) m ∷ [])
behind_functions parts ds m next same main p = ap (broken_in (core_of parts) 0) (core_bodies parts ds m same main) ∙ p.unbroken (main_body (term_of parts.terms) m ∷ [])

pub core_passes : (parts : Parts) (ds : List CoreFunction) (m : CoreMain) (next last : ℕ) → ds ≡ parts.functions → m ≡ parts.main
    → Pass (core_of parts) 0 next (bodies_of (term_of parts.terms) ds) → Pass (core_of parts) next last (main_body (term_of parts.terms) m ∷ [])
    → first_broken (core_of parts) ≡ None
core_passes parts ds m next last same main p q = behind_functions parts ds m next same main p ∙ q.unbroken []

pub core_blamed_main : (e : LocFault) (parts : Parts) (ds : List CoreFunction) (m : CoreMain) (next : ℕ) → ds ≡ parts.functions → m ≡ parts.main
    → Pass (core_of parts) 0 next (bodies_of (term_of parts.terms) ds) → Blame (core_of parts) next (main_body (term_of parts.terms) m ∷ []) e
    → Says e (first_broken (core_of parts))
core_blamed_main e parts ds m next same main p h = subst (λ (z : Broken). Says e z) (sym (behind_functions parts ds m next same main p)) (h [])

pub core_blamed_functions : (e : LocFault) (parts : Parts) (ds : List CoreFunction) → ds ≡ parts.functions
    → Blame (core_of parts) 0 (bodies_of (term_of parts.terms) ds) e → Says e (first_broken (core_of parts))
core_blamed_functions e parts ds same h =
    let m = parts.main in
    subst (λ (z : List Body). Says e (broken_in (core_of parts) 0 z)) (sym (core_bodies parts ds m same refl)) (h (main_body (term_of parts.terms) m ∷ []))
