-- Each body of a core that meets the build rules fits.
use Rattle.std.proofs.Common.{◌≡◌, ℕ, zero, suc, ◌+◌, ◌<◌, ◌≤◌, ◌==◌, Bool, true, false, ◌||◌, if◌then◌else◌, List, [], ◌∷◌, ◌++◌, map, length, Some, refl, sym, ap, ◌∙◌, subst, arith}
use Rattle.std.proofs.lemmas.Bool.{ne_eqb, eqb-true}
use Rattle.std.proofs.lemmas.Option.{same_Some}
use Rattle.std.specs.List.{AllByRecursion}
use Rattle.gib_types.specs.declared.table.Ty.{Ty}
use Rattle.gib_types.specs.declared.table.Ty.TheVariants.{Whole, Truth, Tree}
use Rattle.gib_types.specs.Table.{IsTable}
use Rattle.gib_core.specs.declared.scope.Known.{Known}
use Rattle.gib_syntax.specs.Results as results
use Rattle.gib_syntax.specs.Results.{Results}
use Rattle.gib_syntax.specs.Typing.{one_type}
use Rattle.gib_core.specs.Tree.{FunctionTerm, CoreTree}
use Rattle.gib_core.specs.Meaning.{function_at}
use Rattle.gib_core.specs.Inferring.{numbers_from}
use Rattle.gib_core.specs.Numbering.{binders, IsNumbered, AreNumbered}
use Rattle.gib_core.specs.Met.{Body, reached, with_parameters, result_place, opening}
use Rattle.gib_core.specs.Rules.{Before, is_bound, type_bound, bound_too, bind_parameters, before_body, IsBuilt, AreBuilt}
use Rattle.gib_core.specs.Fits.{Sort, Absent, Scalar, Placed, Scope, put, tree_type, dest_of, param_sort, body_scope, Line, Needs, AtEnd, none_of, new_line, body_needs, Fits, FunctionFits, OwnFits, MainFits, AllFit, EachFits}
use Rattle.gib_core.specs.Ending.{Within, within_function, within_main}
use Rattle.gib_core.proofs.Owing.{Owes, owes_body, owes_main, owes_own, tells_new}
use Rattle.gib_core.specs.Literals.{LiteralsFit, AllLiteralsFit}
use Rattle.gib_core.proofs.Later.{later_new, its_type}
use Rattle.gib_core.proofs.Vars.{named, Tracked, Vars, vars_on, vars_put, known_as, put_there, put_elsewhere}
use Rattle.gib_core.proofs.Dests.{IsDest}
use Rattle.gib_core.proofs.Entering.{AllBelow}
use Rattle.gib_core.proofs.Fitted.{is_part}
use Rattle.gib_core.proofs.Builds.{term_fits}

numbers_below : (n a count : ℕ) → a + count ≤ n → AllBelow n (numbers_from a count)
numbers_below n a zero le = tt
numbers_below n a (suc count) le = (omega (arith, le), numbers_below n (suc a) count (omega (arith, le)))

-- Parameters get their sorts one after another.

puts : ℕ → List Ty → Scope → Scope
puts i [] sc = sc
puts i (t ∷ ts) sc = puts (suc i) ts (put sc i (param_sort t))

param_or : List Ty → ℕ → Sort → Sort
param_or [] y s = s
param_or (t ∷ ts) zero s = param_sort t
param_or (t ∷ ts) (suc y) s = param_or ts y s

other_place : (sc : Scope) (x y : ℕ) (i : Sort) → (y ≡ x → ⊥) → put sc x i y ≡ sc y
other_place sc x y i ne = put_elsewhere sc x y i (ne_eqb y x ne)

puts_before : (ts : List Ty) (i y : ℕ) (sc : Scope) → y < i → puts i ts sc y ≡ sc y
unfolding puts
puts_before [] i y sc lt = refl
puts_before (t ∷ ts) i y sc lt = puts_before ts (suc i) y (put sc i (param_sort t)) (omega (arith, lt)) ∙ other_place sc i y (param_sort t) (λ e. absurd (omega (arith, lt, e)))

puts_at : (ts : List Ty) (i y z : ℕ) (sc : Scope) → z ≡ i + y → puts i ts sc z ≡ param_or ts y (sc z)
unfolding puts param_or
puts_at [] i y z sc e = refl
puts_at (t ∷ ts) i zero z sc e =
    let at : z ≡ i = omega (arith, e) in
    puts_before ts (suc i) z (put sc i (param_sort t)) (omega (arith, at)) ∙ ap (put sc i (param_sort t)) at ∙ put_there sc i (param_sort t)
puts_at (t ∷ ts) i (suc y) z sc e =
    let apart : z ≡ i → ⊥ = λ f. absurd (omega (arith, e, f)) in
    puts_at ts (suc i) y z (put sc i (param_sort t)) (omega (arith, e)) ∙ ap (param_or ts y) (other_place sc i z (param_sort t) apart)

scope_at : (n : ℕ) (ts : List Ty) (y : ℕ) → length ts ≤ n → body_scope n ts y ≡ param_or ts y (body_scope n [] y)
unfolding param_or
scope_at zero [] y le = refl
scope_at zero (t ∷ ts) y le = absurd (omega (arith, le))
scope_at (suc n) [] y le = refl
scope_at (suc n) (t ∷ ts) zero le = refl
scope_at (suc n) (t ∷ ts) (suc y) le = scope_at n ts y (omega (arith, le))

empty_scope : (n y : ℕ) → y < n → body_scope n [] y ≡ Absent
empty_scope zero y lt = absurd (omega (arith, lt))
empty_scope (suc n) zero lt = refl
empty_scope (suc n) (suc y) lt = empty_scope n y (omega (arith, lt))

vars_same : (n : ℕ) (b : Before) (ks : List Known) (sc tc : Scope) → ((y : ℕ) → tc y ≡ sc y) → Vars n b ks sc → Vars n b ks tc
vars_same n b ks sc tc e v = record {
  new = λ y no lt. e y ∙ v.new y no lt;
  knows = λ y k f. known_as b sc tc y k.reached k.behind (e y) (v.knows y k f);
}

param_own : (b : Before) (sc : Scope) (x : ℕ) (ty : Ty) → type_bound b.bound (named x) ≡ Some ty → Tracked b (put sc x (param_sort ty)) x ty
param_own b sc x Whole e = record { typed = e; usable = put_there sc x (Scalar Whole) }
param_own b sc x Truth e = record { typed = e; usable = put_there sc x (Scalar Truth) }
param_own b sc x (Tree t) e = (let there = put_there sc x (Placed t.0) in record { typed = e; usable = (ap tree_type there, λ ne. there) })

neither_bound : (i j : ℕ) (p : Bool) → (i ≡ j → ⊥) → p ≡ false → i == j || p ≡ false
neither_bound i j p ne e = ap (λ q. q || p) (ne_eqb i j ne) ∙ e

add_parameters : (n : ℕ) (ts : List Ty) (i : ℕ) (b : Before) (ks : List Known) (sc : Scope) → Vars n b ks sc → ((j : ℕ) → i ≤ j → is_bound b.bound (named j) ≡ false) → i + length ts ≤ n
    → Vars n (record { bound = bind_parameters i ts b.bound; cased = b.cased }) (with_parameters i ts ks) (puts i ts sc)
unfolding puts
add_parameters n [] i b ks sc v free le = v
add_parameters n (t ∷ ts) i b ks sc v free le =
    let c : Before = record { bound = bound_too (named i) t b.bound; cased = b.cased } in
    let new = free i (omega arith) in
    let absent = v.new i new (omega (arith, le)) in
    let one = vars_put n c ks sc (reached (named i)) (param_sort t) absent (t, param_own c sc i t (its_type b.bound (named i) t)) (vars_on n b c ks sc (later_new b (named i) t new) v) in
    add_parameters n ts (suc i) c (reached (named i) ∷ ks) (put sc i (param_sort t)) one
    (λ j lt. neither_bound i j (is_bound b.bound (named j)) (λ e. absurd (omega (arith, lt, e))) (free j (omega (arith, lt)))) (omega (arith, le))

parameters_vars : (n : ℕ) (ts : List Ty) → length ts ≤ n → Vars n (record { bound = bind_parameters 0 ts []; cased = [] }) (with_parameters 0 ts []) (body_scope n ts)
parameters_vars n ts le =
    let none_yet : Before = record { bound = []; cased = [] } in
    let first : Vars n none_yet [] (body_scope n []) = record { new = λ y e lt. empty_scope n y lt; knows = λ y k e. absurd cc } in
    let all = add_parameters n ts 0 none_yet [] (body_scope n []) first (λ j le. refl) (omega (arith, le)) in
    vars_same n (record { bound = bind_parameters 0 ts []; cased = [] }) (with_parameters 0 ts []) (puts 0 ts (body_scope n [])) (body_scope n ts)
    (λ y. scope_at n ts y le ∙ sym (puts_at ts 0 y y (body_scope n []) (omega arith))) all

opening_dest : (core : CoreTree) (b : Before) (sc : Scope) (r : Results Ty) → IsDest core.table b sc (result_place r) (one_type r) (dest_of r)
opening_dest core b sc (results.One Whole) = (refl, refl)
opening_dest core b sc (results.One Truth) = (refl, refl)
opening_dest core b sc (results.One (Tree t)) = (t, refl, refl)
opening_dest core b sc (results.Several tys) = refl

-- A body fits, with a slot for each variable.
abbrev BodyFits : CoreTree → Needs → Body → Line → Type 0
BodyFits core ns b ln = Fits core ns b.term (body_scope (length b.parameters + length (binders b.term)) b.parameters) (dest_of b.result) ln

body_fits : (core : CoreTree) (ns : Needs) (b : Body) (w : Within) → w.par ≡ false → Owes core ns b.term (new_line w) → IsTable core.table → IsNumbered b → LiteralsFit b.term → IsBuilt core b → BodyFits core ns b (new_line w)
body_fits core ns b w np owes is num lits built =
    let n = length b.parameters + length (binders b.term) in
    let sc = body_scope n b.parameters in
    let below = subst (λ xs. AllBelow n xs) (sym num) (numbers_below n (length b.parameters) (length (binders b.term)) (omega arith)) in
    term_fits core n is ns b.term (before_body b) (opening b) sc (dest_of b.result) (new_line w) owes (tells_new core (opening b) w refl (λ e. np)) (is_part (opening b) b.term refl) below lits
    (parameters_vars n b.parameters (omega arith)) (opening_dest core (before_body b) sc b.result) built

-- The bodies of functions, and then main's.
abbrev body_of : FunctionTerm → Body
body_of g = record { parameters = g.parameters; result = g.result; term = g.body }

abbrev main_body : CoreTree → Body
main_body core = record { parameters = core.main.parameter ∷ []; result = results.One core.main.result; term = core.main.body }

abbrev function_bodies : CoreTree → List FunctionTerm → List Body
function_bodies core gs = map (λ (g : FunctionTerm). record { parameters = g.parameters; result = g.result; term = g.body }) gs ++ main_body core ∷ []

abbrev function_fits : CoreTree → ℕ → FunctionTerm → Type 0
function_fits core f g = FunctionFits core f g (length g.parameters + length (binders g.body))

-- The body of a function that its name leads to.
functions_fit : (core : CoreTree) (f : ℕ) (gs : List FunctionTerm) → IsTable core.table → AllByRecursion IsNumbered (function_bodies core gs) → AllByRecursion (λ (b : Body). LiteralsFit b.term) (function_bodies core gs)
    → AllByRecursion (IsBuilt core) (function_bodies core gs) → (g : FunctionTerm) → function_at gs f ≡ Some g → Owes core (body_needs core f) g.body (new_line (within_function core g)) → function_fits core f g
functions_fit core f [] is num lits built g e owes = absurd cc
functions_fit core f (h ∷ gs) is num lits built g e owes = go (h.name.0 == f) e (λ found. functions_fit core f gs is num.1 lits.1 built.1 g found owes)
  where
    go : (same : Bool) → (if same then Some h else function_at gs f) ≡ Some g → (function_at gs f ≡ Some g → function_fits core f g) → function_fits core f g
    go true found rest =
        let same = same_Some h g found in
        let own : Owes core (body_needs core f) h.body (new_line (within_function core h)) = subst (λ (k : FunctionTerm). Owes core (body_needs core f) k.body (new_line (within_function core k))) (sym same) owes in
        subst (function_fits core f) same (record { fits = body_fits core (body_needs core f) (body_of h) (within_function core h) refl own is num.0 lits.0 built.0; enough = omega arith })
    go false found rest = rest found

name_of : (gs : List FunctionTerm) (f : ℕ) (g : FunctionTerm) → function_at gs f ≡ Some g → g.name.0 ≡ f
name_of [] f g e = absurd cc
name_of (h ∷ gs) f g e = go (h.name.0 == f) refl e (λ found. name_of gs f g found)
  where
    go : (same : Bool) → (h.name.0 == f) ≡ same → (if same then Some h else function_at gs f) ≡ Some g → (function_at gs f ≡ Some g → g.name.0 ≡ f) → g.name.0 ≡ f
    go true q found rest = ap (λ (k : FunctionTerm). k.name.0) (sym (same_Some h g found)) ∙ eqb-true h.name.0 f q
    go false q found rest = rest found

main_fits : (core : CoreTree) (gs : List FunctionTerm) → IsTable core.table → AllByRecursion IsNumbered (function_bodies core gs) → AllByRecursion (λ (b : Body). LiteralsFit b.term) (function_bodies core gs)
    → AllByRecursion (IsBuilt core) (function_bodies core gs) → MainFits core (1 + length (binders core.main.body))
main_fits core [] is num lits built = record { fits = body_fits core (AtEnd none_of) (main_body core) (within_main core) refl (owes_main core) is num.0 lits.0 built.0 }
main_fits core (h ∷ gs) is num lits built = main_fits core gs is num.1 lits.1 built.1

pub built_fits : (core : CoreTree) → IsTable core.table → AreNumbered core → AllLiteralsFit core → AreBuilt core → AllFit core
built_fits core is num lits built = record {
  table = is;
  functions = λ g f e. functions_fit core f core.functions is num lits built g e (owes_body core f g e (name_of core.functions f g e));
  main = main_fits core core.functions is num lits built;
}

each_of : (core : CoreTree) (gs : List FunctionTerm) → IsTable core.table → AllByRecursion IsNumbered (function_bodies core gs) → AllByRecursion (λ (b : Body). LiteralsFit b.term) (function_bodies core gs)
    → AllByRecursion (IsBuilt core) (function_bodies core gs) → AllByRecursion (λ (g : FunctionTerm). OwnFits core g (length g.parameters + length (binders g.body))) gs
each_of core [] is num lits built = tt
each_of core (h ∷ gs) is num lits built = (
  record { fits = body_fits core (AtEnd none_of) (body_of h) (within_function core h) refl (owes_own core h) is num.0 lits.0 built.0; enough = omega arith },
  each_of core gs is num.1 lits.1 built.1,
)

pub each_fits : (core : CoreTree) → IsTable core.table → AreNumbered core → AllLiteralsFit core → AreBuilt core → EachFits core
each_fits core is num lits built = each_of core core.functions is num lits built
