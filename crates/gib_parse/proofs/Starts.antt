-- The variables of a binding are read; what a rest may begin with.
use Rattle.std.proofs.Common.{◌≡◌, ℕ, suc, ◌<◌, ◌^◌, Bool, true, false, List, [], ◌∷◌, ◌++◌, length, Ok, refl, ap, ◌∙◌, Option, Some}
use Rattle.std.proofs.lemmas.Bool.{lt-ltb}
use Rattle.gib_base.specs.declared.token.Sign.{Sign}
use Rattle.gib_base.specs.declared.token.Sign.TheVariants as s
use Rattle.gib_base.specs.declared.token.Token.{Token}
use Rattle.gib_base.specs.declared.token.Token.TheVariants as t
use Rattle.gib_syntax.specs.declared.tree.Ident.{Ident}
use Rattle.gib_types.specs.declared.operator.Operator.{Operator}
use Rattle.gib_syntax.specs.GenericTree.{GenericExpression, GenericVar, GenericNum, GenericBit, GenericParen, GenericOp, GenericCall, GenericMake, GenericLet, GenericPar, GenericIf, GenericCase, GenericTuple}
use Rattle.gib_syntax.specs.GenericFine.{is_generic_application, is_generic_atom, IsGenericFine}
use Rattle.gib_syntax.specs.Spelling.{Places, spell, spell_variables, spell_further_names, spell_names, spell_operator, spell_bit, sign_of}
use Rattle.gib_parse.specs.Reading.{Mode, Any, App, Atom, Read, then_at, want, named, var_at, next_is, many, is_variable, is_sign, starts_atom, starts_expression, starts, next_name_at, several_names_at, one_name_at, names_bound_at, operator_of}
use Rattle.gib_reads.proofs.Tools.{done}
use Rattle.gib_reads.proofs.Signs.{operator_back}
use Rattle.gib_reads.proofs.Many.{many_none, many_is, var_shrinks}
use Rattle.gib_parse.proofs.ExpressionLaws.{IsMode, atom_is_application}
use Rattle.gib_parse.proofs.WholeLaws.{next_name_shrinks}
use Rattle.gib_parse.proofs.Settle.{settle_name, settle_names, settle_further_names, settle_bound}
use Rattle.gib_parse.proofs.WrittenComes.{goes_on}
use Rattle.gib_parse.proofs.Come.{Comes, Came, then_last, Steps, many_comes}

-- ---- variables

pub variables_come : (at : Places) (xs : List Ident) (a : Sign) (rest : List Token) → many is_variable (var_at at) (spell_variables xs (t.Sign a ∷ rest)) ≡ done (settle_names at xs (t.Sign a ∷ rest)) (t.Sign a ∷ rest)
variables_come at [] a rest = many_none is_variable (var_at at) (t.Sign a ∷ rest) refl
variables_come at (x ∷ xs) a rest =
    let after = spell_variables xs (t.Sign a ∷ rest) in
    many_is is_variable (var_at at) (var_shrinks at) (t.Variable x.name ∷ after)
    ∙ ap (λ (r : Read (List Ident)). then_at r (λ more ts. Ok (named at x.name after ∷ more, ts))) (variables_come at xs a rest)

-- ---- the variables of a binding

further_names_step : (at : Places) (xs : List Ident) (rest : List Token) → Steps [] (is_sign s.Comma) (next_name_at at) (spell_further_names xs (t.Sign s.Close ∷ rest)) (settle_further_names at xs (t.Sign s.Close ∷ rest)) (t.Sign s.Close ∷ rest)
unfolding next_name_at
further_names_step at [] rest = (refl, refl, refl)
further_names_step at (x ∷ xs) rest = (spell_further_names xs (t.Sign s.Close ∷ rest), [], [], refl, Came refl refl, further_names_step at xs rest, refl)

several_names_come : (at : Places) (x y : Ident) (ys : List Ident) (rest : List Token) → Comes [] (names_bound_at at (spell_names (x ∷ y ∷ ys) rest)) (settle_bound at (x ∷ y ∷ ys) rest) rest
unfolding several_names_at next_name_at
several_names_come at x y ys rest =
    let x' = settle_name at x (spell_further_names (y ∷ ys) (t.Sign s.Close ∷ rest)) in
    let y' = settle_name at y (spell_further_names ys (t.Sign s.Close ∷ rest)) in
    then_last (λ ys ts. then_at (want s.Close ts) (λ _ ts. Ok (x' ∷ y' ∷ ys, ts))) (settle_bound at (x ∷ y ∷ ys) rest) rest
    (many_comes [] (is_sign s.Comma) (next_name_at at) (next_name_shrinks at) (settle_further_names at ys (t.Sign s.Close ∷ rest)) (spell_further_names ys (t.Sign s.Close ∷ rest)) (t.Sign s.Close ∷ rest) (further_names_step at ys rest)) refl

pub names_bound_come : (at : Places) (xs : List Ident) (rest : List Token) → (xs ≡ [] → ⊥) → Comes [] (names_bound_at at (spell_names xs rest)) (settle_bound at xs rest) rest
unfolding one_name_at
names_bound_come at [] rest some = absurd (some refl)
names_bound_come at (x ∷ []) rest some = Came refl refl
names_bound_come at (x ∷ y ∷ ys) rest some = several_names_come at x y ys rest

-- ---- what a rest may begin with

abbrev pub Ends : Mode → List Token → Type 0
Ends Any rest = next_is goes_on rest ≡ false
Ends App rest = next_is goes_on rest ≡ false
Ends Atom rest = next_is (is_sign s.OpenBracket) rest ≡ false

bit_starts : (b : Bool) (rest : List Token) → next_is starts_atom (spell_bit b rest) ≡ true
bit_starts true rest = refl
bit_starts false rest = refl

bit_begins : (b : Bool) (rest : List Token) → next_is starts_expression (spell_bit b rest) ≡ true
bit_begins true rest = refl
bit_begins false rest = refl

application_starts : (e : GenericExpression) (rest : List Token) → IsGenericFine e → is_generic_application e ≡ true → next_is starts_atom (spell e rest) ≡ true
application_starts (GenericVar x) rest f i = refl
application_starts (GenericNum p n) rest f i = lt-ltb n (2 ^ 63) f
application_starts (GenericBit p b) rest f i = bit_starts b rest
application_starts (GenericParen p e) rest f i = refl
application_starts (GenericOp p g a b) rest f i = refl
application_starts (GenericCall g ws xs) rest f i = refl
application_starts (GenericMake k ws xs) rest f i = refl
application_starts (GenericLet p xs a b) rest f i = absurd cc
application_starts (GenericPar p xs a ys b c) rest f i = absurd cc
application_starts (GenericIf p a b c) rest f i = absurd cc
application_starts (GenericCase p x arms) rest f i = absurd cc
application_starts (GenericTuple p xs) rest f i = absurd cc

pub atom_starts : (e : GenericExpression) (rest : List Token) → IsGenericFine e → is_generic_atom e ≡ true → next_is starts_atom (spell e rest) ≡ true
atom_starts e rest f i = application_starts e rest f (atom_is_application e i)

expression_starts : (e : GenericExpression) (rest : List Token) → IsGenericFine e → next_is starts_expression (spell e rest) ≡ true
expression_starts (GenericVar x) rest f = refl
expression_starts (GenericNum p n) rest f = lt-ltb n (2 ^ 63) f
expression_starts (GenericBit p b) rest f = bit_begins b rest
expression_starts (GenericParen p e) rest f = refl
expression_starts (GenericOp p g a b) rest f = refl
expression_starts (GenericCall g ws xs) rest f = refl
expression_starts (GenericMake k ws xs) rest f = refl
expression_starts (GenericLet p xs a b) rest f = refl
expression_starts (GenericPar p xs a ys b c) rest f = refl
expression_starts (GenericIf p a b c) rest f = refl
expression_starts (GenericCase p x arms) rest f = refl
expression_starts (GenericTuple p xs) rest f = refl

pub mode_starts : (m : Mode) (e : GenericExpression) (rest : List Token) → IsGenericFine e → IsMode m e → next_is (starts m) (spell e rest) ≡ true
mode_starts Any e rest f i = expression_starts e rest f
mode_starts App e rest f i = application_starts e rest f i
mode_starts Atom e rest f i = atom_starts e rest f i

sign_ends : (a : Sign) (f : Operator) → operator_of a ≡ Some f → goes_on (t.Sign a) ≡ false
sign_ends s.True f e = absurd cc
sign_ends s.False f e = absurd cc
sign_ends s.Open f e = absurd cc
sign_ends s.OpenBracket f e = absurd cc
sign_ends a f e = refl

pub operator_ends : (f : Operator) (rest : List Token) → next_is goes_on (spell_operator f rest) ≡ false
operator_ends f rest = sign_ends (sign_of f) f (operator_back f)

pub some_stand : (starts : Token → Bool) (ts : List Token) → next_is starts ts ≡ true → (k : ℕ) × (length ts ≡ suc k)
some_stand starts [] e = absurd cc
some_stand starts (c ∷ ts) e = (length ts, refl)
