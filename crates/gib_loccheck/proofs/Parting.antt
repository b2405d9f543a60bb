-- Several variables, tuples, and the packed parts of a tuple, one after another.
use Rattle.std.proofs.Common.{◌≡◌, ℕ, zero, suc, ◌+◌, ◌-◌, ◌≤◌, ◌<◌, true, false, List, [], ◌∷◌, ◌++◌, refl, sym, ap, ◌∙◌, subst, arith, take, drop, get_or, length, append_assoc}
use Rattle.std.specs.Prelude.{Bool, nat_lt, ◌&&◌, ◌==◌, Result}
use Rattle.std.specs.List.{AllByRecursion}
use Rattle.std.proofs.Math.Seq.{take-length}
use Rattle.std.proofs.Common.{leb}
use Rattle.std.proofs.Math.Bool.{and-true}
use Rattle.std.proofs.lemmas.Bool.{lt-ltb, le-ltb, leb-true, leb-false}
use Rattle.gib_types.specs.declared.table.Ty.{Ty}
use Rattle.gib_types.specs.declared.table.Ty.TheVariants.{Whole}
use Rattle.gib_types.specs.Table.{tree_types, first_type, further_types}
use Rattle.gib_core.specs.declared.atom.Atom.{Atom}
use Rattle.gib_core.specs.declared.node.TermId.{TermId}
use Rattle.gib_core.specs.Tree.{CoreTree, Term, Tuple, PartThen, parts_count, variables_from}
use Rattle.gib_core.specs.Arena.{IsPartBelow, parts_from}
use Rattle.gib_core.specs.Rules.{are_several}
use Rattle.gib_core.proofs.Facts.{itself}
use Rattle.gib_core.specs.Met.{Setting, Met, TupleLine, PartLine, met, met_parts, in_part}
use Rattle.gib_loccheck.specs.declared.state.Walk.{Walk}
use Rattle.gib_loccheck.specs.declared.target.Target.{Target}
use Rattle.gib_loccheck.specs.declared.fault.LocFault.{LocFault}
use Rattle.gib_loccheck.specs.Views.{setting_of, at_line}
use Rattle.gib_loccheck.specs.Judging.{one, Passes, Blames, Kept, Checks, part_lines}
use Rattle.gib_loccheck.proofs.Judges.{passes_then, checks_then, blames_front, blames_back, setting-kept, kept_then}

-- As many variables as there are types.
many_variables : (n : ℕ) (ts : List Ty) → length (variables_from n ts) ≡ length ts
many_variables n [] = refl
many_variables n (t ∷ ts) = ap suc (many_variables (n + 1) ts)

within_eight : (k : ℕ) → leb k 8 ≡ nat_lt k 9
within_eight k = go (leb k 8) refl
  where
    go : (b : Bool) → leb k 8 ≡ b → leb k 8 ≡ nat_lt k 9
    go true e = e ∙ sym (lt-ltb k 9 (let l = leb-true k 8 e in omega (arith, l)))
    go false e = e ∙ sym (le-ltb k 9 (let l = leb-false k 8 e in omega (arith, l)))

as_many : (n : ℕ) (ts : List Ty) → are_several (variables_from n ts) ts ≡ (nat_lt 1 (length ts) && nat_lt (length ts) 9)
as_many n ts =
    let k = length ts in
    let several = λ (m : ℕ). nat_lt 1 m && nat_lt m 9 in
    (λ i. several (many_variables n ts i) && many_variables n ts i == k) ∙ ap (λ (b : Bool). several k && b) (itself k) ∙ and-true (several k)

-- From two to eight variables are several.
pub many_several : (n : ℕ) (ts : List Ty) → nat_lt 1 (length ts) ≡ true → leb (length ts) 8 ≡ are_several (variables_from n ts) ts
many_several n ts e = within_eight (length ts) ∙ ap (λ (b : Bool). b && nat_lt (length ts) 9) (sym e) ∙ sym (as_many n ts)

pub few_several : (n : ℕ) (ts : List Ty) → nat_lt 1 (length ts) ≡ false → nat_lt 1 (length ts) ≡ are_several (variables_from n ts) ts
few_several n ts e = e ∙ ap (λ (b : Bool). b && nat_lt (length ts) 9) (sym e) ∙ sym (as_many n ts)

parts_counted : (f : ℕ → Term) (ts : List TermId) → parts_count (parts_from f ts) ≡ length ts
parts_counted f [] = refl
parts_counted f (t ∷ ts) = ap suc (parts_counted f ts)

-- The type of the next part.
next_first : (ts : List Ty) (n : ℕ) → first_type (drop n ts) ≡ get_or ts n Whole
next_first [] zero = refl
next_first [] (suc n) = refl
next_first (t ∷ ts) zero = refl
next_first (t ∷ ts) (suc n) = next_first ts n

next_further : (ts : List Ty) (n : ℕ) → further_types (drop n ts) ≡ drop (suc n) ts
next_further [] zero = refl
next_further [] (suc n) = refl
next_further (t ∷ ts) zero = refl
next_further (t ∷ ts) (suc n) = next_further ts n

-- The walk stands before these parts, and those before them pass.
pub record PartsSoFar (core : CoreTree) (old now : Walk) (target : Target) (f : ℕ → Term) (types : List Ty) (parts left : List TermId) (place whole : ℕ) : Type 0 where
  pub lines : List Met
  pub all : met_parts core.table (setting_of old target) types (parts_from f parts) ≡ lines ++ met_parts core.table (setting_of old target) (drop place types) (parts_from f left)
  pub passes : Passes core old now lines
  pub kept : Kept old now
  pub below : AllByRecursion (IsPartBelow whole) left
  pub count : place + length left ≡ length parts

module _ (core : CoreTree) where
  -- A tuple: its line, and its parts.
  pub tuple_checks : (a b c : Walk) (target : Target) (f : ℕ → Term) (types : List Ty) (scalars : List Atom) (parts : List TermId) (r : Result (Unit {0}) LocFault)
      → Passes core a b (one (setting_of a target) (TupleLine types scalars (length parts))) → Kept a b
      → Checks core b c (met_parts core.table (setting_of b target) (tree_types types) (parts_from f parts)) r
      → Checks core a c (met core.table (setting_of a target) (Tuple types scalars (parts_from f parts))) r
  tuple_checks a b c target f types scalars parts r p k q =
      let s = setting_of a target in
      let p' = subst (λ (n : ℕ). Passes core a b (one s (TupleLine types scalars n))) (sym (parts_counted f parts)) p in
      let q' = subst (λ (z : Setting). Checks core b c (met_parts core.table z (tree_types types) (parts_from f parts)) r) (setting-kept a b target k) q in
      checks_then core a b c (one s (TupleLine types scalars (parts_count (parts_from f parts)))) (met_parts core.table s (tree_types types) (parts_from f parts)) r p' k q'

  pub tuple_blames : (e : LocFault) (a : Walk) (s : Setting) (f : ℕ → Term) (types : List Ty) (scalars : List Atom) (parts : List TermId)
      → Blames core a (one s (TupleLine types scalars (length parts))) e → Blames core a (met core.table s (Tuple types scalars (parts_from f parts))) e
  tuple_blames e a s f types scalars parts h =
      let h' = subst (λ (n : ℕ). Blames core a (one s (TupleLine types scalars n)) e) (sym (parts_counted f parts)) h in
      blames_front core e a (one s (TupleLine types scalars (parts_count (parts_from f parts)))) (met_parts core.table s (tree_types types) (parts_from f parts)) h'

  -- A part: its line, and its term.
  part_met : (a b : Walk) (target inner : Target) (ty : Ty) → Kept a b → at_line (setting_of b inner) ≡ in_part (setting_of b target) ty → at_line (setting_of b inner) ≡ in_part (setting_of a target) ty
  part_met a b target inner ty k e = e ∙ ap (λ (s : Setting). in_part s ty) (setting-kept a b target k)

  pub part_checks : (a b c : Walk) (target inner : Target) (ty : Ty) (t : Term) (r : Result (Unit {0}) LocFault)
      → Passes core a b (one (setting_of a target) PartLine) × Kept a b → at_line (setting_of b inner) ≡ in_part (setting_of b target) ty
      → Checks core b c (met core.table (at_line (setting_of b inner)) t) r → Checks core a c (part_lines core.table (setting_of a target) ty t) r
  part_checks a b c target inner ty t r p e q =
      let s = setting_of a target in
      let q' = subst (λ (z : Setting). Checks core b c (met core.table z t) r) (part_met a b target inner ty p.1 e) q in
      checks_then core a b c (one s PartLine) (met core.table (in_part s ty) t) r p.0 p.1 q'

  pub part_blames : (e : LocFault) (a : Walk) (s : Setting) (ty : Ty) (t : Term) → Blames core a (one s PartLine) e → Blames core a (part_lines core.table s ty t) e
  part_blames e a s ty t h = blames_front core e a (one s PartLine) (met core.table (in_part s ty) t) h

  -- One more part.
  next_lines : (s : Setting) (types : List Ty) (place : ℕ) (ty : Ty) (t : Term) (f : ℕ → Term) (after : List TermId) → ty ≡ get_or types place Whole
      → met_parts core.table s (drop place types) (PartThen t (parts_from f after)) ≡ part_lines core.table s ty t ++ met_parts core.table s (drop (suc place) types) (parts_from f after)
  next_lines s types place ty t f after e =
      (λ i. part_lines core.table s ((next_first types place ∙ sym e) i) t ++ met_parts core.table s (next_further types place i) (parts_from f after))

  parts_step : (a b c : Walk) (target : Target) (f : ℕ → Term) (types : List Ty) (parts : List TermId) (place whole : ℕ) (part : TermId) (after : List TermId) (ty : Ty) → ty ≡ get_or types place Whole
      → PartsSoFar core a b target f types parts (part ∷ after) place whole
      → Passes core b c (part_lines core.table (setting_of b target) ty (f part.0)) → Kept b c
      → PartsSoFar core a c target f types parts after (place + 1) whole
  parts_step a b c target f types parts place whole part after ty e so p k =
      let s = setting_of a target in
      let ms = part_lines core.table s ty (f part.0) in
      let p' = subst (λ (z : Setting). Passes core b c (part_lines core.table z ty (f part.0))) (setting-kept a b target so.kept) p in
      let one_on : suc place ≡ place + 1 = omega arith in
      let lines = ap (λ (z : List Met). so.lines ++ z) (next_lines s types place ty (f part.0) f after e)
      ∙ ap (λ (n : ℕ). so.lines ++ (ms ++ met_parts core.table s (drop n types) (parts_from f after))) one_on in
      record {
        lines = so.lines ++ ms;
        all = so.all ∙ lines ∙ sym (append_assoc so.lines ms (met_parts core.table s (drop (place + 1) types) (parts_from f after)));
        passes = passes_then core a b c so.lines ms so.passes p';
        kept = kept_then a b c so.kept k;
        below = so.below.1;
        count = omega (arith, so.count);
      }

  rest_of : (t : TermId) (left : List TermId) → take (length (t ∷ left) - 1) left ≡ left
  rest_of t left = ap (λ (n : ℕ). take n left) (omega arith) ∙ take-length left

  pub parts_next : (a b c : Walk) (target : Target) (f : ℕ → Term) (types : List Ty) (parts left : List TermId) (place whole : ℕ) (d : TermId) (ty : Ty) → 1 ≤ length left → ty ≡ get_or types place Whole
      → PartsSoFar core a b target f types parts left place whole
      → Passes core b c (part_lines core.table (setting_of b target) ty (f (get_or left 0 d).0)) → Kept b c
      → PartsSoFar core a c target f types parts (take (length left - 1) (drop 1 left)) (place + 1) whole
  parts_next a b c target f types parts [] place whole d ty long e so p k = absurd (omega (arith, long))
  parts_next a b c target f types parts (first ∷ left) place whole d ty long e so p k =
      subst (λ (z : List TermId). PartsSoFar core a c target f types parts z (place + 1) whole) (sym (rest_of first left)) (parts_step a b c target f types parts place whole first left ty e so p k)

  pub parts_blame : (e : LocFault) (a b : Walk) (target : Target) (f : ℕ → Term) (types : List Ty) (parts left : List TermId) (place whole : ℕ) (d : TermId) (ty : Ty) → 1 ≤ length left → ty ≡ get_or types place Whole
      → PartsSoFar core a b target f types parts left place whole
      → Blames core b (part_lines core.table (setting_of b target) ty (f (get_or left 0 d).0)) e
      → Blames core a (met_parts core.table (setting_of a target) types (parts_from f parts)) e
  parts_blame e a b target f types parts [] place whole d ty long i so h = absurd (omega (arith, long))
  parts_blame e a b target f types parts (first ∷ left) place whole d ty long i so h =
      let s = setting_of a target in
      let ms = part_lines core.table s ty (f first.0) in
      let rest = met_parts core.table s (drop (suc place) types) (parts_from f left) in
      let h2 = subst (λ (z : Setting). Blames core b (part_lines core.table z ty (f first.0)) e) (setting-kept a b target so.kept) h in
      let h3 = blames_front core e b ms rest h2 in
      let all = so.all ∙ ap (λ (z : List Met). so.lines ++ z) (next_lines s types place ty (f first.0) f left i) in
      subst (λ (z : List Met). Blames core a z e) (sym all) (blames_back core e a b so.lines (ms ++ rest) so.passes h3)
