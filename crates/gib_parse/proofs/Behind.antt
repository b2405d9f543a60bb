-- What stands behind a sign, read as one: a chain of readers by signs and what is behind them.
use Rattle.std.proofs.Common.{◌≡◌, List, Ok, Err, refl, ◌∙◌}
use Rattle.gib_base.specs.declared.Span.{Span}
use Rattle.gib_base.specs.declared.token.Sign.{Sign}
use Rattle.gib_base.specs.declared.token.Sign.TheVariants as s
use Rattle.gib_base.specs.declared.token.Token.{Token}
use Rattle.gib_syntax.specs.declared.tree.Ident.{Ident}
use Rattle.gib_syntax.specs.GenericTree.{GenericExpression, GenericLet, GenericPar, GenericIf}
use Rattle.gib_syntax.specs.Spelling.{Places}
use Rattle.gib_parse.specs.Reading.{Any, BoundTree, Parts, Read, Reader, then_at, want, names_bound_at, binding_at, bind_at, par_at, if_at}
use Rattle.gib_parse.specs.Parsing.{behind_at, second_at}
use Rattle.gib_reads.proofs.Tools.{then_ext}

-- A chain of readers is one however it is taken apart.
chain_is : {A B C : Type 0} (r : Read A) (f : A → Reader B) (k : B → Reader C) → then_at r (λ a ts. then_at (f a ts) k) ≡ then_at (then_at r f) k
chain_is (Ok x) f k = refl
chain_is (Err e) f k = refl

behind_is : {A B : Type 0} (a : Sign) (p : Reader A) (k : A → Reader B) (ts : List Token) → then_at (want a ts) (λ _ ts. then_at (p ts) k) ≡ then_at (behind_at a p ts) k
behind_is a p k ts = chain_is (want a ts) (λ _ ts. p ts) k

abbrev binding_end : List Ident → GenericExpression → Reader BoundTree
binding_end xs a ts = Ok (record { names = xs; value = a }, ts)

pub binding_is : (at : Places) (p : Reader GenericExpression) (ts : List Token) → binding_at at p ts ≡ then_at (names_bound_at at ts) (λ xs ts. then_at (behind_at s.Equals p ts) (binding_end xs))
unfolding binding_at
binding_is at p ts =
    then_ext (names_bound_at at ts) (λ xs ts. then_at (want s.Equals ts) (λ _ ts. then_at (p ts) (binding_end xs))) (λ xs ts. then_at (behind_at s.Equals p ts) (binding_end xs))
    (λ xs ts e. behind_is s.Equals p (binding_end xs) ts)

abbrev let_end : Span → BoundTree → GenericExpression → Reader GenericExpression
let_end p x b ts = Ok (GenericLet p x.names x.value b, ts)

pub bind_is : (at : Places) (sub : Parts) (p : Span) (ts : List Token) → bind_at at sub p ts ≡ then_at (binding_at at (sub Any) ts) (λ x ts. then_at (behind_at s.In (sub Any) ts) (let_end p x))
unfolding bind_at
bind_is at sub p ts =
    then_ext (binding_at at (sub Any) ts) (λ x ts. then_at (want s.In ts) (λ _ ts. then_at (sub Any ts) (let_end p x))) (λ x ts. then_at (behind_at s.In (sub Any) ts) (let_end p x))
    (λ x ts e. behind_is s.In (sub Any) (let_end p x) ts)

abbrev par_end : Span → BoundTree → BoundTree → GenericExpression → Reader GenericExpression
par_end p x y c ts = Ok (GenericPar p x.names x.value y.names y.value c, ts)

-- Behind both bindings: their body.
abbrev par_body : Parts → Span → BoundTree → BoundTree → Reader GenericExpression
par_body sub p x y ts = then_at (behind_at s.In (sub Any) ts) (par_end p x y)

par_body_is : (sub : Parts) (p : Span) (x y : BoundTree) (ts : List Token) → then_at (want s.In ts) (λ _ ts. then_at (sub Any ts) (par_end p x y)) ≡ par_body sub p x y ts
par_body_is sub p x y ts = behind_is s.In (sub Any) (par_end p x y) ts

pub par_is : (at : Places) (sub : Parts) (p : Span) (ts : List Token) → par_at at sub p ts ≡ then_at (binding_at at (sub Any) ts) (λ x ts. then_at (second_at at (sub Any) ts) (par_body sub p x))
unfolding par_at
par_is at sub p ts =
    then_ext (binding_at at (sub Any) ts)
    (λ x ts. then_at (want s.And ts) (λ _ ts. then_at (binding_at at (sub Any) ts) (λ y ts. then_at (want s.In ts) (λ _ ts. then_at (sub Any ts) (par_end p x y)))))
    (λ x ts. then_at (second_at at (sub Any) ts) (par_body sub p x))
    (λ x ts e. behind_is s.And (binding_at at (sub Any)) (λ y ts. then_at (want s.In ts) (λ _ ts. then_at (sub Any ts) (par_end p x y))) ts
    ∙ then_ext (second_at at (sub Any) ts) (λ y ts. then_at (want s.In ts) (λ _ ts. then_at (sub Any ts) (par_end p x y))) (par_body sub p x)
    (λ y ts e. par_body_is sub p x y ts))

abbrev if_end : Span → GenericExpression → GenericExpression → GenericExpression → Reader GenericExpression
if_end p a b c ts = Ok (GenericIf p a b c, ts)

-- Behind the second part of an `if`: the third one.
abbrev if_else : Parts → Span → GenericExpression → GenericExpression → Reader GenericExpression
if_else sub p a b ts = then_at (behind_at s.Else (sub Any) ts) (if_end p a b)

pub if_is : (sub : Parts) (p : Span) (ts : List Token) → if_at sub p ts ≡ then_at (sub Any ts) (λ a ts. then_at (behind_at s.Then (sub Any) ts) (if_else sub p a))
unfolding if_at
if_is sub p ts =
    then_ext (sub Any ts)
    (λ a ts. then_at (want s.Then ts) (λ _ ts. then_at (sub Any ts) (λ b ts. then_at (want s.Else ts) (λ _ ts. then_at (sub Any ts) (if_end p a b)))))
    (λ a ts. then_at (behind_at s.Then (sub Any) ts) (if_else sub p a))
    (λ a ts e. behind_is s.Then (sub Any) (λ b ts. then_at (want s.Else ts) (λ _ ts. then_at (sub Any ts) (if_end p a b))) ts
    ∙ then_ext (behind_at s.Then (sub Any) ts) (λ b ts. then_at (want s.Else ts) (λ _ ts. then_at (sub Any ts) (if_end p a b))) (if_else sub p a)
    (λ b ts e. behind_is s.Else (sub Any) (if_end p a b) ts))
