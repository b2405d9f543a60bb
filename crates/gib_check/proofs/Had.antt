-- The type that an expression has comes from where it is said to come from.
use Rattle.std.proofs.Common.{◌≡◌, Bool, true, false, cond, eqb, List, [], ◌∷◌, map, Option, Some, None, refl, sym, ap, ◌∙◌, subst}
use Rattle.std.proofs.lemmas.Bool.{eqb-true}
use Rattle.gib_types.specs.declared.table.Ty.{Ty}
use Rattle.gib_types.specs.declared.table.Ty.TheVariants.{Whole, Truth, Tree}
use Rattle.gib_types.specs.Table.{Table, owner_at, fields_at}
use Rattle.gib_syntax.specs.declared.tree.Ident.{Ident}
use Rattle.gib_syntax.specs.Tree.{Expression, Arms, Var, Num, Bit, Paren, Op, Call, Make, Let, Par, If, Case, Tuple, LetSeveral, ParSeveral, LastArm, NextArm, FunctionTree}
use Rattle.gib_syntax.specs.Results.{One, Several}
use Rattle.gib_syntax.specs.Declarations.{number_of, type_of_name, function_named}
use Rattle.gib_syntax.specs.Typing.{Globals, Scope, type_in, IsNew, bound, BindsAll, names_of, types_of, one_type, result_types, Has, HaveArms}
use Rattle.gib_types.specs.Operators.{operator_type}
use Rattle.gib_check.specs.declared.origin.TypeOrigin.{TypeOrigin}
use Rattle.gib_check.specs.declared.origin.TypeOrigin.TheVariants.{Fixed, Variable}
use Rattle.gib_check.specs.Origins.{fields_if}
use Rattle.gib_check.specs.Origins.{type_from, outside, outside_arm, result_if, made_type, origin, origin_first}

-- Outside of a binding whose variable's type comes from there.
from_let : (scope : Scope) (x : Ident) (s t : Ty) (a o : TypeOrigin) → type_from scope a ≡ Some s → type_from (bound x s scope) o ≡ Some t → type_from scope (outside x a o) ≡ Some t
from_let scope x s t a (Fixed u) ea eo = eo
from_let scope x s t a (Variable y) ea eo = go (eqb (number_of x) y.0) eo where
  go : (b : Bool) → cond b (Some s) (type_in scope y.0) ≡ Some t → type_from scope (cond b a (Variable y)) ≡ Some t
  go true e = ea ∙ e
  go false e = e

-- What comes from the scope comes from it with one more variable, which is new.
from_more : (scope : Scope) (x : Ident) (s t : Ty) (o : TypeOrigin) → IsNew scope x → type_from scope o ≡ Some t → type_from (bound x s scope) o ≡ Some t
from_more scope x s t (Fixed u) new e = e
from_more scope x s t (Variable y) new e = go (eqb (number_of x) y.0) refl where
  go : (b : Bool) → eqb (number_of x) y.0 ≡ b → cond b (Some s) (type_in scope y.0) ≡ Some t
  go true q =
      let absent : type_in scope y.0 ≡ None = subst (λ z. type_in scope z ≡ None) (eqb-true (number_of x) y.0 q) new in
      absurd (let clash = sym absent ∙ e in cc)
  go false q = e

-- Outside of an arm.
from_arm : (scope inner : Scope) (xs : List Ident) (ts : List Ty) (t : Ty) (o : TypeOrigin) → BindsAll scope xs ts inner → type_from inner o ≡ Some t → type_from scope (outside_arm xs ts o) ≡ Some t
from_arm scope inner [] [] t o b e = subst (λ z. type_from z o ≡ Some t) b e
from_arm scope inner [] (u ∷ ts) t o b e = elim b [ ]
from_arm scope inner (x ∷ xs) [] t o b e = elim b [ ]
from_arm scope inner (x ∷ xs) (u ∷ ts) t o b e = from_let scope x u t (Fixed u) (outside_arm xs ts o) refl (from_arm (bound x u scope) inner xs ts t o b.1 e)

result_is : (table : Table) (p : Option FunctionTree) (h : FunctionTree) (t : Ty) → p ≡ Some h → One t ≡ result_types table h → result_if table p ≡ t
result_is table p h t e q = ap (λ z. result_if table z) e ∙ sym (ap one_type q)

one_is : (t u : Ty) → One t ≡ One u → t ≡ u
one_is t u e = ap one_type e

no_parts : (t : Ty) (ts : List Ty) → One t ≡ Several ts → ⊥
no_parts t ts e = cc

mutual
  -- The type of an expression that gives one thing comes from there.
  pub had_from : (g : Globals) (scope : Scope) (e : Expression) (t : Ty) → Has g scope e (One t) → type_from scope (origin g e) ≡ Some t
  had_from g scope (Var x) t h = h.2 ∙ ap Some (sym (one_is t h.0 h.1))
  had_from g scope (Num p n) t h = ap Some (sym (one_is t Whole h))
  had_from g scope (Bit p b) t h = ap Some (sym (one_is t Truth h))
  had_from g scope (Paren p e) t h = had_from g scope e t h
  had_from g scope (Op p f a b) t h = ap Some (sym (one_is t (operator_type f) h.0))
  had_from g scope (Call f xs) t h = ap Some (result_is g.table (function_named g.functions (number_of f)) h.0 t h.1 h.2)
  had_from g scope (Make k xs) t h = ap Some (ap (λ z. made_type g.table z) h.1 ∙ sym (one_is t (Tree (record { 0 = owner_at g.table h.0 })) h.2))
  had_from g scope (Let p x a b) t h = from_let scope x h.0 t (origin g a) (origin g b) (had_from g scope a h.0 h.1) (had_from g (bound x h.0 scope) b t h.3)
  had_from g scope (Par p x a y b c) t h =
      from_let scope x h.0 t (origin g a) (outside y (origin g b) (origin g c)) (had_from g scope a h.0 h.2)
      (from_let (bound x h.0 scope) y h.1 t (origin g b) (origin g c) (from_more scope x h.0 h.1 (origin g b) h.4 (had_from g scope b h.1 h.3))
      (had_from g (bound y h.1 (bound x h.0 scope)) c t h.6))
  had_from g scope (If p a b c) t h = had_from g scope b t h.1
  had_from g scope (Case p x arms) t h = had_first g scope arms t h.3
  had_from g scope (Tuple p as' xs) t h = absurd (no_parts t (map (type_of_name g.table.types) as') h.0)
  had_from g scope (LetSeveral p qs a b) t h = from_arm scope h.0 (names_of qs) (types_of g.table.types qs) t (origin g b) h.3 (had_from g h.0 b t h.4)
  had_from g scope (ParSeveral p qs a rs b c) t h =
      from_arm scope h.0 (names_of qs) (types_of g.table.types qs) t (outside_arm (names_of rs) (types_of g.table.types rs) (origin g c)) h.6
      (from_arm h.0 h.1 (names_of rs) (types_of g.table.types rs) t (origin g c) h.7 (had_from g h.1 c t h.8))

  had_first : (g : Globals) (scope : Scope) (arms : Arms) (t : Ty) → HaveArms g scope arms (One t) → type_from scope (origin_first g arms) ≡ Some t
  had_first g scope (LastArm k xs e) t h =
      subst (λ z. type_from scope (outside_arm xs z (origin g e)) ≡ Some t) (sym (ap (λ z. fields_if g.table z) h.2))
      (from_arm scope h.1 xs (fields_at g.table h.0) t (origin g e) h.3 (had_from g h.1 e t h.4))
  had_first g scope (NextArm k xs e arms) t h =
      subst (λ z. type_from scope (outside_arm xs z (origin g e)) ≡ Some t) (sym (ap (λ z. fields_if g.table z) h.0.2))
      (from_arm scope h.0.1 xs (fields_at g.table h.0.0) t (origin g e) h.0.3 (had_from g h.0.1 e t h.0.4))
