-- The code of a line: that of its bindings in front of that of its end.
use Rattle.std.proofs.Common.{◌≡◌, ℕ, List, [], ◌∷◌, ◌++◌, ◌-◌, ◌+◌, ◌≤◌, refl, sym, ap, ◌∙◌, drop, length, arith, length-append}
use Rattle.std.proofs.lemmas.List.{append_assoc}
use Rattle.std.proofs.Math.Seq.{drop-append_seam}
use Rattle.gib_types.specs.declared.table.Ty.{Ty}
use Rattle.gib_types.specs.declared.table.Ty.TheVariants as ty
use Rattle.gib_code.specs.Instruction.{Instruction}
use Rattle.gib_core.specs.declared.atom.Variable.{Variable}
use Rattle.gib_core.specs.declared.atom.Atom.{Atom}
use Rattle.gib_core.specs.declared.node.Node.{Node}
use Rattle.gib_core.specs.declared.node.Binding.{Binding}
use Rattle.gib_core.specs.Tree.{Term, Then, Write, Point, CallTerm, Give, CaseTerm, IfTerm, Tuple, Bind, CoreTree, prepend}
use Rattle.gib_core.specs.Arena.{IsLine, term_of, binds_from}
use Rattle.gib_base.specs.declared.name.Name.{Name}
use Rattle.gib_core.specs.Ending.{Within}
use Rattle.gib_core.specs.Low.{Field, End, IsNoCall, further_fields, with_fields}
use Rattle.gib_lower.specs.Lowering.{lowered, lowered_bind, call_or}

-- Bindings, and then the rest.
abbrev pub lowered_binds : CoreTree → Within → List Field → List Bind → List Instruction → List Instruction
lowered_binds core w fs [] rest = rest
lowered_binds core w fs (b ∷ bs) rest = lowered_bind core w fs b (lowered_binds core w fs bs rest)

lowered_prepend : (core : CoreTree) (w : Within) (fs : List Field) (bs : List Bind) (t : Term) (e : End) (rest : List Instruction) → lowered core w fs (prepend bs t) e rest ≡ lowered_binds core w fs bs (lowered core w fs t e rest)
lowered_prepend core w fs [] t e rest = refl
lowered_prepend core w fs (b ∷ bs) t e rest = ap (lowered_bind core w fs b) (lowered_prepend core w fs bs t e rest)

-- A line has its code, once none of its bindings is left that does not stand before its end.
pub lowered_line : (core : CoreTree) (w : Within) (fs : List Field) (nodes : List Node) (id last i : ℕ) (bindings : List Binding) (e : End) (old behind new : List Instruction) → IsLine nodes id bindings last → i ≡ 0
    → behind ≡ lowered core w fs (term_of nodes last) e old → new ≡ lowered_binds core w fs (binds_from (term_of nodes) (drop i bindings)) behind
    → new ≡ lowered core w fs (term_of nodes id) e old
lowered_line core w fs nodes id last i bindings e old behind new line none_left ends front =
    let f = term_of nodes in
    let bs = binds_from f bindings in
    front
    ∙ ap (λ (k : ℕ). lowered_binds core w fs (binds_from f (drop k bindings)) behind) none_left
    ∙ ap (lowered_binds core w fs bs) ends
    ∙ sym (lowered_prepend core w fs bs (f last) e old)
    ∙ ap (λ (t : Term). lowered core w fs t e old) (sym line.term)

-- A term that is no call has its own code.
pub no_call : (t : Term) (call : Name → List Atom → List Instruction) (other : List Instruction) → IsNoCall t → call_or t call other ≡ other
no_call (Then b t) call other h = refl
no_call (Write k c ss ps) call other h = refl
no_call (Point x) call other h = refl
no_call (CallTerm g xs) call other h = absurd h
no_call (Give x) call other h = refl
no_call (CaseTerm x bs) call other h = refl
no_call (IfTerm x t u) call other h = refl
no_call (Tuple tys ss ps) call other h = refl

-- The fields of an arm come before the others.

record Before (new old : List Field) : Type 0 where
  more : List Field
  is : new ≡ more ++ old

one_before : (new old : List Field) (f : Field) → Before new (f ∷ old) → Before new old
one_before new old f b = record { more = b.more ++ f ∷ []; is = b.is ∙ sym (append_assoc b.more (f ∷ []) old) }

further_before : (x p : ℕ) (ts : List Ty) (ys : List Variable) (fs : List Field) → Before (further_fields x p ts ys fs) fs
further_before x p [] ys fs = record { more = []; is = refl }
further_before x p (ty.Whole ∷ ts) [] fs = record { more = []; is = refl }
further_before x p (ty.Truth ∷ ts) [] fs = record { more = []; is = refl }
further_before x p (ty.Tree t ∷ ts) [] fs = record { more = []; is = refl }
further_before x p (ty.Whole ∷ ts) (y ∷ ys) fs = further_before x p ts ys fs
further_before x p (ty.Truth ∷ ts) (y ∷ ys) fs = further_before x p ts ys fs
further_before x p (ty.Tree t ∷ ts) (y ∷ ys) fs =
    let f : Field = record { variable = y.0; tree = x; place = p } in
    one_before (further_fields x (p + 8) ts ys (f ∷ fs)) fs f (further_before x (p + 8) ts ys (f ∷ fs))

fields_before : (x : ℕ) (ts : List Ty) (ys : List Variable) (fs : List Field) → Before (with_fields x ts ys fs) fs
fields_before x [] ys fs = record { more = []; is = refl }
fields_before x (ty.Whole ∷ ts) [] fs = record { more = []; is = refl }
fields_before x (ty.Truth ∷ ts) [] fs = record { more = []; is = refl }
fields_before x (ty.Tree t ∷ ts) [] fs = record { more = []; is = refl }
fields_before x (ty.Whole ∷ ts) (y ∷ ys) fs = fields_before x ts ys fs
fields_before x (ty.Truth ∷ ts) (y ∷ ys) fs = fields_before x ts ys fs
fields_before x (ty.Tree t ∷ ts) (y ∷ ys) fs = further_before x 1 ts ys fs

cut_off : (new old : List Field) → Before new old → drop (length new - length old) new ≡ old
cut_off new old b =
    let e : length new ≡ length b.more + length old = ap length b.is ∙ length-append b.more old in
    let n : length new - length old ≡ length b.more = omega (arith, e) in
    ap (λ k. drop k new) n ∙ ap (drop (length b.more)) b.is ∙ drop-append_seam b.more old

-- Behind an arm the fields are again what they were.
pub arm_left : (x : ℕ) (ts : List Ty) (ys : List Variable) (fs : List Field) → drop (length (with_fields x ts ys fs) - length fs) (with_fields x ts ys fs) ≡ fs
arm_left x ts ys fs = cut_off (with_fields x ts ys fs) fs (fields_before x ts ys fs)

-- More fields are in scope, not fewer.
pub arm_longer : (x : ℕ) (ts : List Ty) (ys : List Variable) (fs : List Field) → length fs ≤ length (with_fields x ts ys fs)
arm_longer x ts ys fs =
    let b = fields_before x ts ys fs in
    let e : length (with_fields x ts ys fs) ≡ length b.more + length fs = ap length b.is ∙ length-append b.more fs in
    omega (arith, e)
