-- Arguments, calls and constructors.
use Rattle.std.proofs.Common.{◌≡◌, ℕ, ◌+◌, ◌-◌, ◌<◌, ◌≤◌, Bool, true, false, List, Option, Some, None, [], ◌∷◌, ◌++◌, length, map, refl, sym, ap, ◌∙◌, subst, arith, append_assoc, take, drop, get_or}
use Rattle.std.specs.Option.{unwrap_or}
use Rattle.std.proofs.lemmas.List.{append-nil}
use Rattle.gib_base.specs.declared.name.Name.{Name}
use Rattle.gib_types.specs.declared.table.Ty.{Ty}
use Rattle.gib_types.specs.declared.table.Ty.TheVariants.{Whole, Truth, Tree}
use Rattle.gib_types.specs.declared.table.ConId.{ConId}
use Rattle.gib_types.specs.Table.{fields_at, owner_at}
use Rattle.gib_syntax.specs.declared.exprs.ExprId.{ExprId}
use Rattle.gib_syntax.specs.declared.exprs.Node.{Node as Expr}
use Rattle.gib_syntax.specs.declared.tree.Ident.{Ident}
use Rattle.gib_syntax.specs.Tree.{Call, Make}
use Rattle.gib_syntax.specs.Arena.{tree_of, arguments_from}
use Rattle.gib_syntax.specs.Parts.{Parts}
use Rattle.gib_syntax.specs.Results as results
use Rattle.gib_syntax.specs.Results.{Results}
use Rattle.gib_syntax.specs.Declarations.{number_of, function_named}
use Rattle.gib_syntax.specs.Meaning.{at_fields}
use Rattle.gib_core.specs.declared.atom.Variable.{Variable}
use Rattle.gib_core.specs.declared.atom.Atom.{Atom}
use Rattle.gib_core.specs.declared.atom.Atom.TheVariants as a
use Rattle.gib_core.specs.declared.node.TermId.{TermId}
use Rattle.gib_core.specs.declared.node.Binding.{Binding}
use Rattle.gib_core.specs.declared.node.Binding.TheVariants as b
use Rattle.gib_core.specs.declared.node.BoundSide.TheVariants as sides
use Rattle.gib_core.specs.Tree.{Write, Past, prepend}
use Rattle.gib_core.specs.Arena.{binds_from, term_of}
use Rattle.gib_core.specs.Tree.{variables_from}
use Rattle.gib_core.specs.Inferring.{Scope, Lined, Atomed, Several, Code, infer, infer_all, several, boxed, call_code, call_atom, make_from, make_line, con_named, gives_type, pointed_fields, as_atoms}
use Rattle.gib_infer.specs.declared.work.Work.{Work}
use Rattle.gib_infer.specs.Made.{scope_of, globals_in, code_at, codes_at, AreBelow, AreBindingsBelow, Keeps, MakesLine, MakesAtom, MakesAtoms, pending, plain_atoms, one_of, scalar_one, ended_call, side_call}
use Rattle.gib_infer.proofs.Making.{next_of, keeps_more, boxed_made, line_after, atom_after}
use Rattle.gib_check.proofs.RowLists.{rest-is}

-- ---- arguments

-- Some arguments are atoms; with the rest they are all.
pub record ArgumentsSoFar (parts : Parts) (exprs : List Expr) (id : ℕ) (old new : Work) (before after : List Binding) (ids left : List ExprId) (xs : List Atom) : Type 0 where
  pub keeps : Keeps old new
  pub below : AreBelow id left
  pub inside : AreBindingsBelow (length new.terms) after
  pub binds : binds_from (term_of new.terms) after ++ (several (codes_at parts exprs left) (scope_of old.scope.items) new.fresh).binds ≡ binds_from (term_of old.terms) before ++ (several (codes_at parts exprs ids) (scope_of old.scope.items) old.fresh).binds
  pub atoms : xs ++ (several (codes_at parts exprs left) (scope_of old.scope.items) new.fresh).atoms ≡ (several (codes_at parts exprs ids) (scope_of old.scope.items) old.fresh).atoms
  pub fresh : (several (codes_at parts exprs left) (scope_of old.scope.items) new.fresh).fresh ≡ (several (codes_at parts exprs ids) (scope_of old.scope.items) old.fresh).fresh

pub arguments_next : (parts : Parts) (exprs : List Expr) (id : ℕ) (old now newer : Work) (before out more : List Binding) (ids left : List ExprId) (d : ExprId) (xs ys : List Atom) (x : Atom) (of : Ty) → 1 ≤ length left → ArgumentsSoFar parts exprs id old now before out ids left xs → MakesAtom now newer out more x of ((code_at parts exprs (get_or left 0 d).0).atom (scope_of now.scope.items) now.fresh) → ys ≡ xs ++ x ∷ [] → ArgumentsSoFar parts exprs id old newer before more ids (take (length left - 1) (drop 1 left)) ys
arguments_next parts exprs id old now newer before out more ids [] d xs ys x of le h m ey = absurd (omega (arith, le))
arguments_next parts exprs id old now newer before out more ids (i ∷ left) d xs ys x of le h m ey =
    let sc = scope_of old.scope.items in
    let made = (code_at parts exprs i.0).atom sc now.fresh in
    let k : MakesAtom now newer out more x of made = subst (λ (z : Atomed). MakesAtom now newer out more x of z) (λ j. (code_at parts exprs i.0).atom (scope_of (h.keeps.scope j)) now.fresh) m in
    let r : ℕ → Several = λ n. several (codes_at parts exprs left) sc n in
    let so_far : ArgumentsSoFar parts exprs id old newer before more ids left ys = record {
      keeps = keeps_more old now newer h.keeps k.keeps;
      below = h.below.1;
      inside = k.inside;
      binds = (λ j. k.binds j ++ (r (k.fresh j)).binds) ∙ append_assoc (binds_from (term_of now.terms) out) made.binds (r made.fresh).binds ∙ h.binds;
      atoms = (λ j. (ey ∙ (λ l. xs ++ k.atom l ∷ [])) j ++ (r (k.fresh j)).atoms) ∙ append_assoc xs (made.atom ∷ []) (r made.fresh).atoms ∙ h.atoms;
      fresh = (λ j. (r (k.fresh j)).fresh) ∙ h.fresh;
    } in
    subst (λ z. ArgumentsSoFar parts exprs id old newer before more ids z ys) (sym (rest-is i left)) so_far

pub arguments_end : (parts : Parts) (exprs : List Expr) (id : ℕ) (old new : Work) (before after : List Binding) (ids left : List ExprId) (xs : List Atom) → length left < 1 → ArgumentsSoFar parts exprs id old new before after ids left xs → MakesAtoms old new before after xs (several (codes_at parts exprs ids) (scope_of old.scope.items) old.fresh)
arguments_end parts exprs id old new before after ids [] xs lt h = record {
  keeps = h.keeps;
  inside = h.inside;
  binds = sym (append-nil (binds_from (term_of new.terms) after)) ∙ h.binds;
  atoms = sym (append-nil xs) ∙ h.atoms;
  fresh = h.fresh;
}
arguments_end parts exprs id old new before after ids (i ∷ left) xs lt h = absurd (omega (arith, lt))

-- ---- calls

pub codes-each : (parts : Parts) (exprs : List Expr) (ids : List ExprId) → infer_all (globals_in parts) (arguments_from (tree_of exprs) ids) ≡ codes_at parts exprs ids
codes-each parts exprs [] = refl
codes-each parts exprs (x ∷ ids) = ap (λ z. code_at parts exprs x.0 ∷ z) (codes-each parts exprs ids)

-- The type that a call gives; of several parts there is none.
abbrev pub type_of_call : Parts → Ident → Option Ty
type_of_call parts f = one_of (gives_type (globals_in parts).table (function_named (globals_in parts).functions (number_of f)))

-- A call by what it gives, behind its arguments.
call-as : (parts : Parts) (exprs : List Expr) (f : Ident) (ids : List ExprId) → call_code (gives_type (globals_in parts).table (function_named (globals_in parts).functions (number_of f))) f.name (codes_at parts exprs ids) ≡ infer (globals_in parts) (Call f (arguments_from (tree_of exprs) ids))
call-as parts exprs f ids = (λ i. call_code (gives_type (globals_in parts).table (function_named (globals_in parts).functions (number_of f))) f.name (sym (codes-each parts exprs ids) i))

ended-same : (of : Results Ty) (f : Name) (cs : List Code) (sc : Scope) (n : ℕ) → ended_call (one_of of) f (several cs sc n) ≡ (call_code of f cs).line sc n
ended-same (results.One Whole) f cs sc n = refl
ended-same (results.One Truth) f cs sc n = refl
ended-same (results.One (Tree t)) f cs sc n = refl
ended-same (results.Several ts) f cs sc n = refl

sides-same : (of : Results Ty) (f : Name) (cs : List Code) (sc : Scope) (n : ℕ) → side_call (one_of of) f (several cs sc n) ≡ (call_code of f cs).side sc n
sides-same (results.One Whole) f cs sc n = refl
sides-same (results.One Truth) f cs sc n = refl
sides-same (results.One (Tree t)) f cs sc n = refl
sides-same (results.Several ts) f cs sc n = refl

scalars-same : (of : Results Ty) (ty : Ty) (f : Name) (cs : List Code) (sc : Scope) (n : ℕ) → scalar_one (one_of of) ≡ Some ty → call_atom ty f (several cs sc n) ≡ (call_code of f cs).atom sc n
scalars-same (results.One Whole) ty f cs sc n e = ap (λ z. call_atom z f (several cs sc n)) (sym (ap (λ z. unwrap_or z Whole) e))
scalars-same (results.One Truth) ty f cs sc n e = ap (λ z. call_atom z f (several cs sc n)) (sym (ap (λ z. unwrap_or z Whole) e))
scalars-same (results.One (Tree t)) ty f cs sc n e = absurd cc
scalars-same (results.Several ts) ty f cs sc n e = absurd cc

regions-same : (of : Results Ty) (f : Name) (cs : List Code) (sc : Scope) (n : ℕ) → scalar_one (one_of of) ≡ None → boxed (call_code of f cs).line sc n ≡ (call_code of f cs).atom sc n
regions-same (results.One Whole) f cs sc n e = absurd cc
regions-same (results.One Truth) f cs sc n e = absurd cc
regions-same (results.One (Tree t)) f cs sc n e = refl
regions-same (results.Several ts) f cs sc n e = refl

pub call_line_made : (parts : Parts) (exprs : List Expr) (f : Ident) (ids : List ExprId) (given : Option Ty) (of : Ty) (w0 w1 w2 : Work) (before out : List Binding) (xs : List Atom) (id : TermId) → given ≡ type_of_call parts f → of ≡ unwrap_or given Whole → before ≡ [] → MakesAtoms w0 w1 before out xs (several (codes_at parts exprs ids) (scope_of w0.scope.items) w0.fresh) → MakesLine w1 w2 id (unwrap_or given Whole) (ended_call given f.name (pending w1 out xs)) → MakesLine w0 w2 id of ((infer (globals_in parts) (Call f (arguments_from (tree_of exprs) ids))).line (scope_of w0.scope.items) w0.fresh)
call_line_made parts exprs f ids given of w0 w1 w2 before out xs id e eo eb h m =
    let sc = scope_of w0.scope.items in
    let cs = codes_at parts exprs ids in
    rw eo (subst (λ (z : Lined). MakesLine w0 w2 id (unwrap_or given Whole) z) (ap (λ z. ended_call z f.name (several cs sc w0.fresh)) e ∙ ended-same (gives_type (globals_in parts).table (function_named (globals_in parts).functions (number_of f))) f.name cs sc w0.fresh ∙ (λ i. (call-as parts exprs f ids i).line sc w0.fresh))
    (line_after w0 w1 w2 before out xs (several cs sc w0.fresh) id (unwrap_or given Whole) (ended_call given f.name) eb h m))

pub call_side_made : (parts : Parts) (exprs : List Expr) (f : Ident) (ids : List ExprId) (given : Option Ty) (of : Ty) (w0 w1 w2 : Work) (before out : List Binding) (xs : List Atom) (id : TermId) → given ≡ type_of_call parts f → of ≡ unwrap_or given Whole → before ≡ [] → MakesAtoms w0 w1 before out xs (several (codes_at parts exprs ids) (scope_of w0.scope.items) w0.fresh) → MakesLine w1 w2 id (unwrap_or given Whole) (side_call given f.name (pending w1 out xs)) → MakesLine w0 w2 id of ((infer (globals_in parts) (Call f (arguments_from (tree_of exprs) ids))).side (scope_of w0.scope.items) w0.fresh)
call_side_made parts exprs f ids given of w0 w1 w2 before out xs id e eo eb h m =
    let sc = scope_of w0.scope.items in
    let cs = codes_at parts exprs ids in
    rw eo (subst (λ (z : Lined). MakesLine w0 w2 id (unwrap_or given Whole) z) (ap (λ z. side_call z f.name (several cs sc w0.fresh)) e ∙ sides-same (gives_type (globals_in parts).table (function_named (globals_in parts).functions (number_of f))) f.name cs sc w0.fresh ∙ (λ i. (call-as parts exprs f ids i).side sc w0.fresh))
    (line_after w0 w1 w2 before out xs (several cs sc w0.fresh) id (unwrap_or given Whole) (side_call given f.name) eb h m))

pub scalar_call_made : (parts : Parts) (exprs : List Expr) (f : Ident) (ids : List ExprId) (of : Ty) (given : Option Ty) (w0 w1 w2 : Work) (b0 b1 b2 : List Binding) (xs : List Atom) (x : Atom) → given ≡ type_of_call parts f → scalar_one given ≡ Some of → MakesAtoms w0 w1 b0 b1 xs (several (codes_at parts exprs ids) (scope_of w0.scope.items) w0.fresh) → MakesAtom w1 w2 b1 b2 x of (call_atom of f.name (plain_atoms w1 xs)) → MakesAtom w0 w2 b0 b2 x of ((infer (globals_in parts) (Call f (arguments_from (tree_of exprs) ids))).atom (scope_of w0.scope.items) w0.fresh)
scalar_call_made parts exprs f ids of given w0 w1 w2 b0 b1 b2 xs x e scalar h m =
    let sc = scope_of w0.scope.items in
    let cs = codes_at parts exprs ids in
    subst (λ (z : Atomed). MakesAtom w0 w2 b0 b2 x of z) (scalars-same (gives_type (globals_in parts).table (function_named (globals_in parts).functions (number_of f))) of f.name cs sc w0.fresh (ap scalar_one (sym e) ∙ scalar) ∙ (λ i. (call-as parts exprs f ids i).atom sc w0.fresh))
    (atom_after w0 w1 w2 b0 b1 b2 xs (several cs sc w0.fresh) x of (λ ys n. call_atom of f.name (record { fresh = n; binds = []; atoms = ys })) h m)

pub region_call_made : (parts : Parts) (exprs : List Expr) (f : Ident) (ids : List ExprId) (given : Option Ty) (of : Ty) (w0 w1 w2 : Work) (before after : List Binding) (x : Variable) (at : TermId) → given ≡ type_of_call parts f → scalar_one given ≡ None → x.0 ≡ w0.fresh → w1 ≡ next_of w0 → AreBindingsBelow (length w0.terms) before → MakesLine w1 w2 at of ((infer (globals_in parts) (Call f (arguments_from (tree_of exprs) ids))).line (scope_of w1.scope.items) w1.fresh) → after ≡ before ++ b.One (sides.One (record { kind = Rattle.gib_core.specs.Inferring.kind_of of; variable = x; ty = of; term = at })) ∷ [] → MakesAtom w0 w2 before after (a.Variable x) of ((infer (globals_in parts) (Call f (arguments_from (tree_of exprs) ids))).atom (scope_of w0.scope.items) w0.fresh)
region_call_made parts exprs f ids given of w0 w1 w2 before after x at e scalar ex em below h ea =
    let sc = scope_of w0.scope.items in
    let cs = codes_at parts exprs ids in
    let same = call-as parts exprs f ids in
    subst (λ (z : Atomed). MakesAtom w0 w2 before after (a.Variable x) of z)
    ((λ i. boxed (sym same i).line sc w0.fresh) ∙ regions-same (gives_type (globals_in parts).table (function_named (globals_in parts).functions (number_of f))) f.name cs sc w0.fresh (ap scalar_one (sym e) ∙ scalar) ∙ (λ i. (same i).atom sc w0.fresh))
    (boxed_made w0 w1 w2 before after x at of (infer (globals_in parts) (Call f (arguments_from (tree_of exprs) ids))).line ex em below h ea)

-- ---- constructors

pub at_fields-map : {A B : Type 0} (f : A → B) (scalars : Bool) (types : List Ty) (xs : List A) → map f (at_fields scalars types xs) ≡ at_fields scalars types (map f xs)
at_fields-map f scalars [] xs = refl
at_fields-map f scalars (t ∷ ts) [] = refl
at_fields-map f true (Whole ∷ ts) (x ∷ xs) = ap (λ z. f x ∷ z) (at_fields-map f true ts xs)
at_fields-map f true (Truth ∷ ts) (x ∷ xs) = ap (λ z. f x ∷ z) (at_fields-map f true ts xs)
at_fields-map f true (Tree t ∷ ts) (x ∷ xs) = at_fields-map f true ts xs
at_fields-map f false (Whole ∷ ts) (x ∷ xs) = at_fields-map f false ts xs
at_fields-map f false (Truth ∷ ts) (x ∷ xs) = at_fields-map f false ts xs
at_fields-map f false (Tree t ∷ ts) (x ∷ xs) = ap (λ z. f x ∷ z) (at_fields-map f false ts xs)

below_at : (id : ℕ) (scalars : Bool) (types : List Ty) (ids : List ExprId) → AreBelow id ids → AreBelow id (at_fields scalars types ids)
below_at id scalars [] ids h = tt
below_at id scalars (t ∷ ts) [] h = tt
below_at id true (Whole ∷ ts) (x ∷ xs) h = (h.0, below_at id true ts xs h.1)
below_at id true (Truth ∷ ts) (x ∷ xs) h = (h.0, below_at id true ts xs h.1)
below_at id true (Tree t ∷ ts) (x ∷ xs) h = below_at id true ts xs h.1
below_at id false (Whole ∷ ts) (x ∷ xs) h = below_at id false ts xs h.1
below_at id false (Truth ∷ ts) (x ∷ xs) h = below_at id false ts xs h.1
below_at id false (Tree t ∷ ts) (x ∷ xs) h = (h.0, below_at id false ts xs h.1)

pub selected_below : (id : ℕ) (scalars : Bool) (types : List Ty) (ids picked : List ExprId) → picked ≡ at_fields scalars types ids → AreBelow id ids → AreBelow id picked
selected_below id scalars types ids picked e h = subst (AreBelow id) (sym e) (below_at id scalars types ids h)

make-same : (ty : Ty) (k : ConId) (types : List Ty) (ss ps : Several) → make_from ty k types (record { fresh = ps.fresh; binds = ss.binds ++ ps.binds; atoms = ss.atoms }) (record { fresh = ps.fresh; binds = []; atoms = ps.atoms }) ≡ make_from ty k types ss ps
make-same ty k types ss ps = (λ i. record {
  fresh = ps.fresh + 1 + length ps.atoms;
  term = prepend (append_assoc ss.binds ps.binds (Past (record { 0 = ps.fresh }) k ∷ pointed_fields (ps.fresh + 1) types ps.atoms) i) (Write (record { 0 = ps.fresh }) k ss.atoms (as_atoms (variables_from (ps.fresh + 1) ps.atoms)));
  ty = ty;
})

pub make_made : (parts : Parts) (exprs : List Expr) (name : Ident) (ids scalar_ids packed_ids : List ExprId) (k : ConId) (types packed_types : List Ty) (owner : ℕ) (w0 w1 w2 w3 : Work) (b0 b1 b2 : List Binding) (xs ys zs : List Atom) (id : TermId) →
    k.0 ≡ con_named (globals_in parts) name → types ≡ fields_at (globals_in parts).table k.0 → owner ≡ owner_at (globals_in parts).table k.0 →
    scalar_ids ≡ at_fields true types ids → packed_ids ≡ at_fields false types ids → packed_types ≡ at_fields false types types → b0 ≡ [] → zs ≡ ys →
    MakesAtoms w0 w1 b0 b1 xs (several (codes_at parts exprs scalar_ids) (scope_of w0.scope.items) w0.fresh) →
    MakesAtoms w1 w2 b1 b2 ys (several (codes_at parts exprs packed_ids) (scope_of w1.scope.items) w1.fresh) →
    MakesLine w2 w3 id (Tree (record { 0 = owner })) (make_from (Tree (record { 0 = owner })) k packed_types (pending w2 b2 xs) (plain_atoms w2 zs)) →
    MakesLine w0 w3 id (Tree (record { 0 = owner })) ((infer (globals_in parts) (Make name (arguments_from (tree_of exprs) ids))).line (scope_of w0.scope.items) w0.fresh)
make_made parts exprs name ids scalar_ids packed_ids k types packed_types owner w0 w1 w2 w3 b0 b1 b2 xs ys zs id ek et eo es ep eq eb ez h1 h2 m =
    let g = globals_in parts in
    let sc = scope_of w0.scope.items in
    let cs = codes_at parts exprs ids in
    let code : ExprId → Code = λ i. code_at parts exprs i.0 in
    let ss = several (at_fields true types cs) sc w0.fresh in
    let ps = several (at_fields false types cs) sc ss.fresh in
    let e1 : several (codes_at parts exprs scalar_ids) sc w0.fresh ≡ ss = (λ i. several ((ap (codes_at parts exprs) es ∙ at_fields-map code true types ids) i) sc w0.fresh) in
    let k1 : MakesAtoms w0 w1 b0 b1 xs ss = subst (λ (z : Several). MakesAtoms w0 w1 b0 b1 xs z) e1 h1 in
    let e2 : several (codes_at parts exprs packed_ids) (scope_of w1.scope.items) w1.fresh ≡ ps = (λ i. several ((ap (codes_at parts exprs) ep ∙ at_fields-map code false types ids) i) (scope_of (k1.keeps.scope i)) (k1.fresh i)) in
    let k2 : MakesAtoms w1 w2 b1 b2 ys ps = subst (λ (z : Several). MakesAtoms w1 w2 b1 b2 ys z) e2 h2 in
    let ty : Ty = Tree (record { 0 = owner }) in
    let same_one : pending w2 b2 xs ≡ record { fresh = ps.fresh; binds = ss.binds ++ ps.binds; atoms = ss.atoms } =
    (λ i. record { fresh = k2.fresh i; binds = (k2.binds ∙ ap (λ z. z ++ ps.binds) (k1.binds ∙ ap (λ z. binds_from (term_of w0.terms) z ++ ss.binds) eb)) i; atoms = k1.atoms i }) in
    let same_two : plain_atoms w2 zs ≡ record { fresh = ps.fresh; binds = []; atoms = ps.atoms } = (λ i. record { fresh = k2.fresh i; binds = []; atoms = (ez ∙ k2.atoms) i }) in
    let con : k ≡ record { 0 = con_named g name } = (λ i. record { 0 = ek i }) in
    let to_source : make_from ty k (at_fields false types types) ss ps ≡ (infer g (Make name (arguments_from (tree_of exprs) ids))).line sc w0.fresh =
    (λ i. let ts = et i in let s = several (at_fields true ts cs) sc w0.fresh in make_from (Tree (record { 0 = eo i })) k (at_fields false ts ts) s (several (at_fields false ts cs) sc s.fresh))
    ∙ (λ i. make_line g.table (con i) (sym (codes-each parts exprs ids) i) sc w0.fresh) in
    let same : make_from ty k packed_types (pending w2 b2 xs) (plain_atoms w2 zs) ≡ (infer g (Make name (arguments_from (tree_of exprs) ids))).line sc w0.fresh =
    (λ i. make_from ty k (eq i) (same_one i) (same_two i)) ∙ make-same ty k (at_fields false types types) ss ps ∙ to_source in
    let m' : MakesLine w2 w3 id ty ((infer g (Make name (arguments_from (tree_of exprs) ids))).line sc w0.fresh) = subst (λ (z : Lined). MakesLine w2 w3 id ty z) same m in
    record { keeps = keeps_more w0 w1 w3 k1.keeps (keeps_more w1 w2 w3 k2.keeps m'.keeps); inside = m'.inside; term = m'.term; ty = m'.ty; fresh = m'.fresh }
