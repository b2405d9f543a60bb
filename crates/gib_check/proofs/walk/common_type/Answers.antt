use Rattle.std.proofs.Common.{◌≡◌, ◌≤◌, List, [], ◌∷◌, length, get_or, Ok, sym, ap, ◌∙◌, arith}
use Rattle.gib_types.specs.Form.{Form, WholeForm}
use Rattle.gib_syntax.specs.Results.{Results, One}
use Rattle.gib_check.specs.declared.fault.TypeFault.{TypeFault}
use Rattle.gib_check.specs.declared.rules.Part.{Part}
use Rattle.gib_check.specs.Answers.{IsFaultOf}
use Rattle.gib_check.specs.Faults.{and_then, all_of, first_type}
use Rattle.gib_check.specs.Judging.{Judging, forms_given, parts_in}
use Rattle.gib_check.proofs.Loops.{passed_on, along}

common_none : (fs : Judging) (parts : List Part) (t : Results Form) → length parts ≤ 0 → t ≡ One WholeForm → and_then (all_of (first_type (parts_in fs parts)) (parts_in fs parts)) (λ _. Ok (first_type (parts_in fs parts))) ≡ Ok t
common_none fs [] t l h = ap Ok (sym h)
common_none fs (q ∷ rest) t l h = absurd (omega (arith, l))

common_ok : (fs : Judging) (parts : List Part) (d p : Part) → 1 ≤ length parts → p ≡ get_or parts 0 d → all_of (forms_given fs p.ty) (parts_in fs parts) ≡ Ok (tt {0}) → and_then (all_of (first_type (parts_in fs parts)) (parts_in fs parts)) (λ _. Ok (first_type (parts_in fs parts))) ≡ Ok (forms_given fs p.ty)
common_ok fs [] d p l e h = absurd (omega (arith, l))
common_ok fs (q ∷ rest) d p l e h =
    ap (λ (z : Part). and_then (all_of (forms_given fs z.ty) (parts_in fs (q ∷ rest))) (λ _. Ok (forms_given fs z.ty))) (sym e)
    ∙ ap (λ a. and_then a (λ _. Ok (forms_given fs p.ty))) h

common_err : (fs : Judging) (parts : List Part) (d p : Part) (f : TypeFault) → 1 ≤ length parts → p ≡ get_or parts 0 d → IsFaultOf f (all_of (forms_given fs p.ty) (parts_in fs parts)) → IsFaultOf f (and_then (all_of (first_type (parts_in fs parts)) (parts_in fs parts)) (λ _. Ok (first_type (parts_in fs parts))))
common_err fs [] d p f l e h = absurd (omega (arith, l))
common_err fs (q ∷ rest) d p f l e h =
    along f _ _ (ap (λ (z : Part). and_then (all_of (forms_given fs z.ty) (parts_in fs (q ∷ rest))) (λ _. Ok (forms_given fs z.ty))) (sym e))
    (passed_on f _ _ h)
