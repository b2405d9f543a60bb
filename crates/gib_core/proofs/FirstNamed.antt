-- The functions of names.
use Rattle.std.proofs.Common.{◌≡◌, ℕ, zero, suc, ◌+◌, ◌-◌, ◌<◌, ◌≤◌, Bool, true, false, cond, List, [], ◌∷◌, map, Option, Some, None, refl, sym, ap, subst, ◌∙◌, drop, length, get_or, arith}
use Rattle.std.specs.Prelude.{◌==◌, slice_get, if◌then◌else◌}
use Rattle.gib_core.specs.declared.program.CoreFunction.{CoreFunction}
use Rattle.gib_core.specs.Tree.{Term, FunctionTerm}
use Rattle.gib_core.specs.Meaning.{function_at}
use Rattle.std.specs.List.{AllByRecursion}
use Rattle.std.proofs.lemmas.Option.{same_Some}
use Rattle.gib_core.specs.Parts.{IsFunctionInside, function_term}
use Rattle.gib_core.specs.NamedFunctions.{entry_at, at_place, first_named}

placed : (functions : List CoreFunction) (place : ℕ) (d : CoreFunction) (o : Option ℕ) (p : Option CoreFunction) (b : Bool)
    → slice_get functions place ≡ Some d → at_place functions o ≡ p → at_place functions (cond b (Some place) o) ≡ cond b (Some d) p
placed functions place d o p true e h = e
placed functions place d o p false e h = h

-- One more function, in front of those that have their places.
pub index_step : (functions : List CoreFunction) (place : ℕ) (d : CoreFunction) (old new : List (Option ℕ)) → slice_get functions place ≡ Some d → drop place functions ≡ d ∷ drop (place + 1) functions
    → ((name : ℕ) → entry_at new name ≡ (if d.name.0 == name then Some place else entry_at old name))
    → ((name : ℕ) → at_place functions (entry_at old name) ≡ first_named (drop (place + 1) functions) name)
    → (name : ℕ) → at_place functions (entry_at new name) ≡ first_named (drop place functions) name
index_step functions place d old new e split put so name =
    ap (at_place functions) (put name)
    ∙ placed functions place d (entry_at old name) (first_named (drop (place + 1) functions) name) (d.name.0 == name) e (so name)
    ∙ sym (ap (λ (ds : List CoreFunction). first_named ds name) split)

front : (ds : List CoreFunction) (i : ℕ) (d : CoreFunction) → i < length ds → d ≡ get_or ds i d → (slice_get ds i ≡ Some d) × (drop i ds ≡ d ∷ drop (suc i) ds)
front [] i d lt e = absurd (omega (arith, lt))
front (x ∷ ds) zero d lt e = (ap (λ (z : CoreFunction). Some z) (sym e), ap (λ (z : CoreFunction). z ∷ ds) (sym e))
front (x ∷ ds) (suc i) d lt e = front ds i d (omega (arith, lt)) e

pub index_next : (functions : List CoreFunction) (next : ℕ) (d : CoreFunction) (old new : List (Option ℕ)) → next ≤ length functions → 0 < next → d ≡ get_or functions (next - 1) d
    → ((name : ℕ) → entry_at new name ≡ (if (get_or functions (next - 1) d).name.0 == name then Some (next - 1) else entry_at old name))
    → ((name : ℕ) → at_place functions (entry_at old name) ≡ first_named (drop next functions) name)
    → (name : ℕ) → at_place functions (entry_at new name) ≡ first_named (drop (next - 1) functions) name
index_next functions next d old new le more at put so =
    let f = front functions (next - 1) d (omega (arith, le, more)) at in
    let after : suc (next - 1) ≡ next - 1 + 1 = omega arith in
    let back : next ≡ next - 1 + 1 = omega (arith, more) in
    index_step functions (next - 1) d old new f.0 (f.1 ∙ ap (λ (n : ℕ). d ∷ drop n functions) after)
    (λ name. put name ∙ ap (λ (z : CoreFunction). if z.name.0 == name then Some (next - 1) else entry_at old name) (sym at))
    (λ name. so name ∙ ap (λ (n : ℕ). first_named (drop n functions) name) back)

none_by : (f : ℕ → Term) (d : CoreFunction) (b : Bool) (p : Option CoreFunction) (q : Option FunctionTerm) → (p ≡ None → q ≡ None) → cond b (Some d) p ≡ None → cond b (Some (function_term f d)) q ≡ None
none_by f d true p q h e = absurd cc
none_by f d false p q h e = h e

pub none_named : (f : ℕ → Term) (ds : List CoreFunction) (name : ℕ) → first_named ds name ≡ None → function_at (map (function_term f) ds) name ≡ None
none_named f [] name e = refl
none_named f (d ∷ ds) name e = none_by f d (d.name.0 == name) (first_named ds name) (function_at (map (function_term f) ds) name) (none_named f ds name) e

some_by : (f : ℕ → Term) (d g : CoreFunction) (b : Bool) (p : Option CoreFunction) (q : Option FunctionTerm) → (p ≡ Some g → q ≡ Some (function_term f g)) → cond b (Some d) p ≡ Some g
    → cond b (Some (function_term f d)) q ≡ Some (function_term f g)
some_by f d g true p q h e = ap (λ (z : CoreFunction). Some (function_term f z)) (same_Some d g e)
some_by f d g false p q h e = h e

pub some_named : (f : ℕ → Term) (ds : List CoreFunction) (name : ℕ) (g : CoreFunction) → first_named ds name ≡ Some g → function_at (map (function_term f) ds) name ≡ Some (function_term f g)
some_named f [] name g e = absurd cc
some_named f (d ∷ ds) name g e = some_by f d g (d.name.0 == name) (first_named ds name) (function_at (map (function_term f) ds) name) (some_named f ds name g) e

inside_by : (n : ℕ) (d g : CoreFunction) (b : Bool) (p : Option CoreFunction) → IsFunctionInside n d → (p ≡ Some g → IsFunctionInside n g) → cond b (Some d) p ≡ Some g → g.body.0 < n
inside_by n d g true p i h e = subst (IsFunctionInside n) (same_Some d g e) i
inside_by n d g false p i h e = h e

pub named_inside : (n : ℕ) (ds : List CoreFunction) (name : ℕ) (g : CoreFunction) → first_named ds name ≡ Some g → AllByRecursion (IsFunctionInside n) ds → g.body.0 < n
named_inside n [] name g e h = absurd cc
named_inside n (d ∷ ds) name g e h = inside_by n d g (d.name.0 == name) (first_named ds name) h.0 (λ q. named_inside n ds name g q h.1) e
