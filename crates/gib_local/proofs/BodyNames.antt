-- The names of bodies, in the order of the text.
use Rattle.std.proofs.Common.{◌≡◌, ℕ, ◌-◌, ◌<◌, ◌≤◌, List, [], ◌∷◌, take, drop, get_or, map, length, Ok, Err, refl, sym, ap, ◌∙◌, subst, arith}
use Rattle.std.specs.List.{AllByRecursion}
use Rattle.gib_syntax.specs.declared.tree.Ident.{Ident}
use Rattle.gib_check.specs.declared.fault.TypeFault.{TypeFault}
use Rattle.gib_check.specs.declared.fault.TypeFault.TheVariants as t
use Rattle.gib_check.specs.Answers.{IsFaultOf}
use Rattle.gib_check.specs.Faults.{Checked, and_then}
use Rattle.gib_check.proofs.Loops.{passed_on, along}
use Rattle.gib_check.proofs.RowLists.{rest-is}
use Rattle.gib_local_parse.specs.declared.text.FunctionLines.{FunctionLines}
use Rattle.gib_local_parse.specs.LineArena.{tree_of}
use Rattle.gib_local_parse.specs.TextParts.{TextParts, IsFunctionIn, function_text}
use Rattle.gib_local.specs.Knowing.{declared_of, body, HasFew}
use Rattle.gib_local.specs.Naming.{check_body, check_bodies, new}

-- Some of the bodies were looked at.
pub record BodiesSoFar (parts : TextParts) (functions rest : List FunctionLines) : Type 0 where
  pub inside : AllByRecursion (IsFunctionIn (length parts.lines)) rest
  pub few : AllByRecursion HasFew rest
  pub read : check_bodies (declared_of parts) (map (function_text (tree_of parts.lines)) functions) ≡ check_bodies (declared_of parts) (map (function_text (tree_of parts.lines)) rest)

pub bodies_start : (parts : TextParts) (functions : List FunctionLines) → AllByRecursion (IsFunctionIn (length parts.lines)) functions → AllByRecursion HasFew functions → BodiesSoFar parts functions functions
bodies_start parts functions i f = record { inside = i; few = f; read = refl }

-- A body goes on as its names are found.
body_then : {A B : Type 0} (c : Checked A) (go : Checked B) → and_then (and_then c (λ _. Ok (tt {0}))) (λ _. go) ≡ and_then c (λ _. go)
body_then (Ok x) go = refl
body_then (Err e) go = refl

module _ (parts : TextParts) (functions : List FunctionLines) where
  -- A body of the text.
  abbrev pub body_in : FunctionLines → Checked (Unit {0})
  body_in x = body (declared_of parts) x.parameters.items x.place (tree_of parts.lines x.body.0)

  bodies_from : (x : FunctionLines) (rest : List FunctionLines) → BodiesSoFar parts functions (x ∷ rest) → check_bodies (declared_of parts) (map (function_text (tree_of parts.lines)) functions) ≡ and_then (body_in x) (λ _. check_bodies (declared_of parts) (map (function_text (tree_of parts.lines)) rest))
  bodies_from x rest h = h.read ∙ sym (body_then (check_body (declared_of parts) x.parameters.items x.place (tree_of parts.lines x.body.0)) (check_bodies (declared_of parts) (map (function_text (tree_of parts.lines)) rest)))

  pub bodies_next : (rest : List FunctionLines) (x : FunctionLines) → 1 ≤ length rest → BodiesSoFar parts functions rest → x ≡ get_or rest 0 x → body_in x ≡ Ok (tt {0}) → BodiesSoFar parts functions (take (length rest - 1) (drop 1 rest))
  bodies_next [] x l h q e = absurd (omega (arith, l))
  bodies_next (f ∷ rest) x l h q e =
      subst (λ z. BodiesSoFar parts functions z) (sym (rest-is f rest))
      (record {
        inside = h.inside.1;
        few = h.few.1;
        read = bodies_from f rest h ∙ ap (λ z. and_then z (λ _. check_bodies (declared_of parts) (map (function_text (tree_of parts.lines)) rest))) (subst (λ (z : FunctionLines). body_in z ≡ Ok (tt {0})) q e);
      })

  pub bodies_fail : (rest : List FunctionLines) (x : FunctionLines) (e : TypeFault) → 1 ≤ length rest → BodiesSoFar parts functions rest → x ≡ get_or rest 0 x → IsFaultOf e (body_in x) → IsFaultOf e (check_bodies (declared_of parts) (map (function_text (tree_of parts.lines)) functions))
  bodies_fail [] x e l h q g = absurd (omega (arith, l))
  bodies_fail (f ∷ rest) x e l h q g = along e _ _ (bodies_from f rest h) (passed_on e _ _ (subst (λ (z : FunctionLines). IsFaultOf e (body_in z)) q g))

  pub body_inside : (rest : List FunctionLines) (x : FunctionLines) → 1 ≤ length rest → BodiesSoFar parts functions rest → x ≡ get_or rest 0 x → x.body.0 < length parts.lines
  body_inside [] x l h q = absurd (omega (arith, l))
  body_inside (f ∷ rest) x l h q = subst (λ (z : FunctionLines). z.body.0 < length parts.lines) (sym q) h.inside.0

  pub body_few : (rest : List FunctionLines) (x : FunctionLines) → 1 ≤ length rest → BodiesSoFar parts functions rest → x ≡ get_or rest 0 x → length x.parameters.items ≤ 200
  body_few [] x l h q = absurd (omega (arith, l))
  body_few (f ∷ rest) x l h q = subst (λ (z : FunctionLines). length z.parameters.items ≤ 200) (sym q) h.few.0

  pub bodies_stop : (rest : List FunctionLines) → length rest < 1 → BodiesSoFar parts functions rest → check_bodies (declared_of parts) (map (function_text (tree_of parts.lines)) functions) ≡ Ok (tt {0})
  bodies_stop [] l h = h.read
  bodies_stop (f ∷ rest) l h = absurd (omega (arith, l))

-- The first name is new.
pub first_is_new : (e : TypeFault) (places : List ℕ) (x : Ident) (c : Checked (Unit {0})) → places ≡ [] → IsFaultOf e (new places x) → IsFaultOf e c
first_is_new t.Memory places x c q h = tt
first_is_new (t.Broken fault) places x c q h = absurd (let clash = sym (ap (λ l. new l x) q) ∙ h in cc)
