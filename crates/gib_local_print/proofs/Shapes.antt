-- What the last passes do to the form of a core, and to its text.
use Rattle.std.proofs.Common.{◌≡◌, ℕ, Bool, true, false, if◌then◌else◌, List, [], ◌∷◌, map, Some, refl, ◌∙◌}
use Rattle.gib_types.specs.Table.{Table}
use Rattle.gib_syntax.specs.Tree.{DataTree}
use Rattle.gib_syntax.specs.Results as results
use Rattle.gib_core.specs.declared.atom.Variable.{Variable}
use Rattle.gib_core.specs.declared.atom.Access.TheVariants.{Offset, Skip, End}
use Rattle.gib_core.specs.declared.atom.AccessMode.{AccessMode}
use Rattle.gib_core.specs.declared.atom.AccessMode.TheVariants.{Skips, Offsets, Ends}
use Rattle.gib_core.specs.Tree.{Term, Then, Write, Point, CallTerm, Give, CaseTerm, IfTerm, Tuple, PartTerms, NoPart, PartThen, Past, One, Both, Prim, Reach, Side, On, Several, Branches, NoBranch, BranchThen, prepend, FunctionTerm, CoreTree}
use Rattle.gib_core.specs.declared.atom.Ended.{Ended}
use Rattle.gib_core.specs.Reaching.{Later, uses, uses_any, bind_uses, ends_now, not_now, skips_from, offsets_from, untold_from, reaches, laters, in_par, packed_variables, reach, reach_side, reach_parts, reach_branches}
use Rattle.gib_core.specs.Walk.{map_branches, as_it_is, with_body}
use Rattle.gib_core.specs.Marking.{mark_one, mark, mark_core}
use Rattle.gib_core.specs.Met.{Destination, stands_too, result_place}
use Rattle.gib_local_parse.specs.Tree.{In, Cased, Chosen, LetIn, Be}
use Rattle.gib_local.specs.Building.{is_flat}
use Rattle.gib_local_print.specs.Printing.{Naming, nowhere, named, type_text, con_text, atom_name, operand, side_mark, side_place, side_number, are_fields, before, open_text, no_text, par_text, arms_text, arms_or, text_of, bind_text, branches_text, function_text, local_of}
use Rattle.gib_local_print.specs.HasText.{IsBranch}
use Rattle.gib_local_print.specs.HasShape.{IsWrite}
use Rattle.gib_local_print.specs.HasForm.{FillsNext, IsFilledSo, HasForm, SideForm, PartsForm, BranchesForm}

-- ---- to reach fields keeps the form

module _ (tb : Table) (es : List Ended) where
  ends_form : (used : Variable → Bool) (fs : List Later) (u : Term) → HasForm FillsNext tb u → HasForm FillsNext tb (prepend (ends_now used fs) u)
  ends_form used [] u h = h
  ends_form used (f ∷ fs) u h = by (used f.field) (ends_form used fs u h)
    where
      by : (b : Bool) → HasForm FillsNext tb (prepend (ends_now used fs) u) → HasForm FillsNext tb (prepend (if b then Reach f.field (End f.before) ∷ ends_now used fs else ends_now used fs) u)
      by true e = (tt, e)
      by false e = e

  -- To reach a field is no use of it.
  ends_use : (used : Variable → Bool) (fs : List Later) (u : Term) (y : Variable) → uses (prepend (ends_now used fs) u) y ≡ uses u y
  ends_use used [] u y = refl
  ends_use used (f ∷ fs) u y = by (used f.field) (ends_use used fs u y)
    where
      by : (b : Bool) → uses (prepend (ends_now used fs) u) y ≡ uses u y → uses (prepend (if b then Reach f.field (End f.before) ∷ ends_now used fs else ends_now used fs) u) y ≡ uses u y
      by true e = e
      by false e = e

  ends_fill : (u : Term) (fs : List Later) → FillsNext u → FillsNext (prepend (ends_now (uses u) fs) u)
  ends_fill u [] h = h
  ends_fill u (f ∷ fs) h = by (uses u f.field) refl (ends_fill u fs h)
    where
      by : (b : Bool) → uses u f.field ≡ b → FillsNext (prepend (ends_now (uses u) fs) u) → FillsNext (prepend (if b then Reach f.field (End f.before) ∷ ends_now (uses u) fs else ends_now (uses u) fs) u)
      by true e h = (ends_use (uses u) fs u f.field ∙ e, h)
      by false e h = h

  filled_kept : (mode : AccessMode) (f : Bool) (fs : List Later) (t : Term) → IsFilledSo IsWrite f t → IsFilledSo FillsNext f (reach mode tb es fs t)
  filled_kept mode false fs t h = tt
  filled_kept mode true fs (Write g k ss ps) h = ends_fill (Write g k ss ps) fs tt
  filled_kept mode true fs (Then b t) h = absurd h
  filled_kept mode true fs (Point x) h = absurd h
  filled_kept mode true fs (CallTerm f xs) h = absurd h
  filled_kept mode true fs (Give x) h = absurd h
  filled_kept mode true fs (CaseTerm x bs) h = absurd h
  filled_kept mode true fs (IfTerm x t u) h = absurd h
  filled_kept mode true fs (Tuple ts ss ps) h = absurd h

  branch_kept : (mode : AccessMode) (bs : Branches) → IsBranch bs → IsBranch (reach_branches mode tb es bs)
  branch_kept mode NoBranch h = absurd h
  branch_kept mode (BranchThen k xs t bs) h = tt

  skips_form : (t u : Term) (z : Variable) (ys : List Variable) → HasForm FillsNext tb u → HasForm FillsNext tb (prepend (skips_from t z ys) u)
  skips_form t u z [] h = h
  skips_form t u z (y ∷ ys) h = by (uses_any t (y ∷ ys)) (skips_form t u y ys h)
    where
      by : (b : Bool) → HasForm FillsNext tb (prepend (skips_from t y ys) u) → HasForm FillsNext tb (prepend (if b then Reach y (Skip z) ∷ skips_from t y ys else []) u)
      by true e = (tt, e)
      by false e = h

  offsets_form : (t u : Term) (ys : List Variable) → HasForm FillsNext tb u → HasForm FillsNext tb (prepend (offsets_from t ys) u)
  offsets_form t u [] h = h
  offsets_form t u (y ∷ ys) h = by (uses t y) (offsets_form t u ys h)
    where
      by : (b : Bool) → HasForm FillsNext tb (prepend (offsets_from t ys) u) → HasForm FillsNext tb (prepend (if b then Reach y Offset ∷ offsets_from t ys else offsets_from t ys) u)
      by true e = (tt, e)
      by false e = e

  reaches_form : (m : AccessMode) (t u : Term) (xs : List Variable) → HasForm FillsNext tb u → HasForm FillsNext tb (prepend (reaches m es t xs) u)
  reaches_form Skips t u [] h = h
  reaches_form Offsets t u [] h = h
  reaches_form Ends t u [] h = h
  reaches_form Skips t u (z ∷ ys) h = skips_form t u z ys h
  reaches_form Offsets t u (z ∷ ys) h = offsets_form t u ys h
  reaches_form Ends t u (z ∷ ys) h = offsets_form t u (untold_from es t z ys) h

  mutual
    form_kept : (t : Term) (mode : AccessMode) (fs : List Later) → HasForm IsWrite tb t → HasForm FillsNext tb (reach mode tb es fs t)
    form_kept (Then (Past h k) rest) mode fs e =
        let left : List Later = not_now (bind_uses (Past h k)) fs in
        ends_form (bind_uses (Past h k)) fs (Then (Past h k) (reach mode tb es left rest)) (filled_kept mode (is_flat tb k) left rest e.0, form_kept rest mode left e.1)
    form_kept (Then (One s) rest) mode fs e =
        let left : List Later = not_now (bind_uses (One s)) fs in
        ends_form (bind_uses (One s)) fs (Then (One (reach_side mode tb es s)) (reach mode tb es left rest)) (side_kept s mode e.0, form_kept rest mode left e.1)
    form_kept (Then (Both fork l r) rest) mode fs e =
        let left : List Later = not_now (bind_uses (Both fork l r)) fs in
        let inner : AccessMode = in_par mode in
        ends_form (bind_uses (Both fork l r)) fs (Then (Both fork (reach_side inner tb es l) (reach_side inner tb es r)) (reach mode tb es left rest))
        ((e.0.0, side_kept l inner e.0.1, side_kept r inner e.0.2), form_kept rest mode left e.1)
    form_kept (Then (Prim x f y z) rest) mode fs e =
        let left : List Later = not_now (bind_uses (Prim x f y z)) fs in
        ends_form (bind_uses (Prim x f y z)) fs (Then (Prim x f y z) (reach mode tb es left rest)) (tt, form_kept rest mode left e.1)
    form_kept (Then (Reach y by) rest) mode fs e =
        let left : List Later = not_now (bind_uses (Reach y by)) fs in
        ends_form (bind_uses (Reach y by)) fs (Then (Reach y by) (reach mode tb es left rest)) (tt, form_kept rest mode left e.1)
    form_kept (Write h k ss ps) mode fs e = ends_form (uses (Write h k ss ps)) fs (Write h k ss ps) tt
    form_kept (Point x) mode fs e = ends_form (uses (Point x)) fs (Point x) tt
    form_kept (CallTerm f xs) mode fs e = ends_form (uses (CallTerm f xs)) fs (CallTerm f xs) tt
    form_kept (Give x) mode fs e = ends_form (uses (Give x)) fs (Give x) tt
    form_kept (CaseTerm x bs) mode fs e = ends_form (uses (CaseTerm x bs)) fs (CaseTerm x (reach_branches mode tb es bs)) (branch_kept mode bs e.0, branches_kept bs mode e.1)
    form_kept (IfTerm x t u) mode fs e = ends_form (uses (IfTerm x t u)) fs (IfTerm x (reach mode tb es [] t) (reach mode tb es [] u)) (form_kept t mode [] e.0, form_kept u mode [] e.1)
    form_kept (Tuple ts ss ps) mode fs e = ends_form (uses (Tuple ts ss ps)) fs (Tuple ts ss (reach_parts mode tb es ps)) (parts_kept ps mode e)

    side_kept : (s : Side) (mode : AccessMode) → SideForm IsWrite tb s → SideForm FillsNext tb (reach_side mode tb es s)
    side_kept (On kind x t u) mode e = form_kept u mode [] e
    side_kept (Several xs ts u) mode e = form_kept u mode [] e

    parts_kept : (ps : PartTerms) (mode : AccessMode) → PartsForm IsWrite tb ps → PartsForm FillsNext tb (reach_parts mode tb es ps)
    parts_kept NoPart mode e = tt
    parts_kept (PartThen u ps) mode e = (form_kept u mode [] e.0, parts_kept ps mode e.1)

    branches_kept : (bs : Branches) (mode : AccessMode) → BranchesForm IsWrite tb bs → BranchesForm FillsNext tb (reach_branches mode tb es bs)
    branches_kept NoBranch mode e = tt
    branches_kept (BranchThen k xs t bs) mode e =
        let ps = packed_variables tb k xs in
        (reaches_form mode t (reach mode tb es (laters mode es t ps) t) ps (form_kept t mode (laters mode es t ps) e.0), branches_kept bs mode e.1)

pub reach_form : (mode : AccessMode) (tb : Table) (es : List Ended) (t : Term) → HasForm IsWrite tb t → HasForm FillsNext tb (reach mode tb es [] t)
reach_form mode tb es t h = form_kept tb es t mode [] h

-- ---- marks have no text

module _ (nm : Naming) (tb : Table) where
  mutual
    pub text_marked : (t : Term) (d : Destination) (at : ℕ) → text_of nm tb (mark t) d at ≡ text_of nm tb t d at
    text_marked (Then (Past h k) rest) d at = λ i. open_text (is_flat tb k) nm at h (con_text tb k) (text_marked rest (Rattle.gib_core.specs.Met.Open h k []) at i)
    text_marked (Then (One (On k x t u)) rest) d at =
        λ i. before nm d k x.0 (In nowhere (LetIn (Be (named nm x) (type_text tb t) (side_mark nm k (side_number d k x.0)) (text_marked u (side_place k) (side_number d k x.0) i))) (text_marked rest (stands_too k x d) at i))
    text_marked (Then (Both fork (On k x t u) (On j y s w)) rest) d at =
        λ i. par_text (are_fields k j) nm d k x.0 j y.0 (λ n. Be (named nm x) (type_text tb t) (side_mark nm k n) (text_marked u (side_place k) n i)) (λ n. Be (named nm y) (type_text tb s) (side_mark nm j n) (text_marked w (side_place j) n i))
        (text_marked rest (stands_too j y (stands_too k x d)) at i)
    text_marked (Then (One (Several ys ts u)) rest) d at = λ i. no_text nm at (text_marked rest d at i)
    text_marked (Then (Both fork (On k x t u) (Several ys ts w)) rest) d at = λ i. no_text nm at (text_marked rest (stands_too k x d) at i)
    text_marked (Then (Both fork (Several ys ts u) (On j y s w)) rest) d at = λ i. no_text nm at (text_marked rest (stands_too j y d) at i)
    text_marked (Then (Both fork (Several ys ts u) (Several zs qs w)) rest) d at = λ i. no_text nm at (text_marked rest d at i)
    text_marked (Then (Prim x f y z) rest) d at = λ i. bind_text nm tb (Prim x f y z) d at (text_marked rest d at i)
    text_marked (Then (Reach y by) rest) d at = λ i. bind_text nm tb (Reach y by) d at (text_marked rest d at i)
    text_marked (Write h k ss ps) d at = refl
    text_marked (Point x) d at = refl
    text_marked (CallTerm f xs) d at = refl
    text_marked (Give x) d at = refl
    text_marked (CaseTerm x bs) d at = λ i. Cased nowhere (atom_name nm x) (arms_or (branches_marked bs d at i))
    text_marked (IfTerm x t u) d at = λ i. Chosen nowhere (operand nm x) (text_marked t d at i) (text_marked u d at i)
    text_marked (Tuple ts ss ps) d at = refl

    branches_marked : (bs : Branches) (d : Destination) (at : ℕ) → branches_text nm tb (map_branches mark_one as_it_is bs) d at ≡ branches_text nm tb bs d at
    branches_marked NoBranch d at = refl
    branches_marked (BranchThen k xs t bs) d at = λ i. Some (arms_text (con_text tb k) (map (named nm) xs) (text_marked t d at i) (branches_marked bs d at i))

functions_marked : (nm : Naming) (tb : Table) (fs : List FunctionTerm) → map (function_text nm tb) (map (with_body (λ b. mark b.term)) fs) ≡ map (function_text nm tb) fs
functions_marked nm tb [] = refl
functions_marked nm tb (f ∷ fs) = λ i. record (function_text nm tb f) { body = text_marked nm tb f.body (result_place f.result) 0 i } ∷ functions_marked nm tb fs i

-- A core has the text that it has with its marks.
pub core_marked : (nm : Naming) (datas : List DataTree) (core : CoreTree) → local_of nm datas (mark_core core) ≡ local_of nm datas core
core_marked nm datas core = λ i. record (local_of nm datas core) {
  functions = functions_marked nm core.table core.functions i;
  main = record (local_of nm datas core).main { body = text_marked nm core.table core.main.body (result_place (results.One core.main.result)) 0 i };
}
