-- What was read, as facts.
use Rattle.std.proofs.Common.{◌≡◌, suc, Bool, true, false, List, ◌∷◌, length, Ok, Err, refl, sym, ap, subst}
use Rattle.gib_base.specs.declared.token.Sign.{Sign}
use Rattle.gib_base.specs.declared.token.Token.{Token}
use Rattle.gib_base.specs.declared.token.Token.TheVariants as t
use Rattle.gib_syntax.specs.declared.tree.Ident.{Ident}
use Rattle.gib_syntax.specs.Spelling.{Places, IsAt}
use Rattle.gib_reads.specs.Readers.{Fault, At, Read, Reader, then_at, same, want_if, want, named, var_at, con_at}
use Rattle.gib_reads.proofs.Signs.{same_is}

abbrev pub done : {A : Type 0} → A → List Token → Read A
done a rest = Ok (a, rest)

abbrev pub failed : {A : Type 0} → Fault → Read A
failed f = Err f

-- What is read is so.
pub record Holds {A : Type 0} (r : Read A) (P : A → List Token → Type 0) : Type 0 where
  pub by : (a : A) (rest : List Token) → r ≡ done a rest → P a rest

abbrev pair : {A : Type 0} → A → List Token → A × List Token
pair a rest = (a, rest)

abbrev given : {A : Type 0} → A × List Token → Read A
given x = Ok x

ok_is : {A : Type 0} (x y : A × List Token) → given x ≡ given y → x ≡ y
ok_is x y e = cc

pub holds_ok : {A : Type 0} {P : A → List Token → Type 0} (a : A) (rest : List Token) → P a rest → Holds (done a rest) P
holds_ok {A = A} {P = P} a rest p = record { by = go } where
  go : (b : A) (left : List Token) → done a rest ≡ done b left → P b left
  go b left e =
      let whole = ok_is (pair a rest) (pair b left) e in
      let x : a ≡ b = ap (λ (z : A × List Token). z.0) whole in
      let y : rest ≡ left = ap (λ (z : A × List Token). z.1) whole in
      subst (λ (l : List Token). P b l) y (subst (λ (v : A). P v rest) x p)

pub holds_err : {A : Type 0} {P : A → List Token → Type 0} (f : Fault) → Holds (failed {A = A} f) P
holds_err {A = A} {P = P} f = record { by = go } where
  go : (b : A) (left : List Token) → failed f ≡ done b left → P b left
  go b left e = absurd cc

then_ok : {A B : Type 0} (r : Read A) (f : A → Reader B) (b : B) (left : List Token) → then_at r f ≡ done b left
    → (a : A) × (rest : List Token) × (r ≡ done a rest) × (f a rest ≡ done b left)
then_ok (Ok x) f b left e = (x.0, x.1, refl, e)
then_ok (Err d) f b left e = absurd cc

pub then_holds : {A B : Type 0} {r : Read A} {f : A → Reader B} {P : A → List Token → Type 0} {Q : B → List Token → Type 0} → Holds r P
    → ((a : A) (rest : List Token) → P a rest → Holds (f a rest) Q) → Holds (then_at r f) Q
then_holds {r = r} {f = f} h k = record { by = λ b left e. let o = then_ok r f b left e in (k o.0 o.1 (h.by o.0 o.1 o.2)).by b left o.3 }

want_from : (a b : Sign) (ts : List Token) (v : Bool) → same a b ≡ v → Holds (want_if v ts) (λ _ rest. t.Sign b ∷ ts ≡ t.Sign a ∷ rest)
want_from a b ts true e = holds_ok (tt {0}) ts (ap (λ c. t.Sign c ∷ ts) (sym (same_is a b e)))
want_from a b ts false e = holds_err (At (suc (length ts)))

pub want_holds : (a : Sign) (ts : List Token) → Holds (want a ts) (λ _ rest. ts ≡ t.Sign a ∷ rest)
want_holds a (t.Sign b ∷ ts) = want_from a b ts (same a b) refl
want_holds a ts = holds_err (At (length ts))

-- A name is spelled so, and stands there.
pub record IsVar (at : Places) (ts : List Token) (x : Ident) (rest : List Token) : Type 0 where
  pub spelled : ts ≡ t.Variable x.name ∷ rest
  pub placed : IsAt at x rest

pub record IsCon (at : Places) (ts : List Token) (x : Ident) (rest : List Token) : Type 0 where
  pub spelled : ts ≡ t.Constructor x.name ∷ rest
  pub placed : IsAt at x rest

pub var_holds : (at : Places) (ts : List Token) → Holds (var_at at ts) (IsVar at ts)
var_holds at (t.Variable x ∷ ts) = holds_ok (named at x ts) ts (record { spelled = refl; placed = refl })
var_holds at ts = holds_err (At (length ts))

pub con_holds : (at : Places) (ts : List Token) → Holds (con_at at ts) (IsCon at ts)
con_holds at (t.Constructor x ∷ ts) = holds_ok (named at x ts) ts (record { spelled = refl; placed = refl })
con_holds at ts = holds_err (At (length ts))

pub then_ext : {A B : Type 0} (r : Read A) (f g : A → Reader B) → ((a : A) (rest : List Token) → r ≡ done a rest → f a rest ≡ g a rest)
    → then_at r f ≡ then_at r g
then_ext (Ok x) f g h = h x.0 x.1 refl
then_ext (Err e) f g h = refl
