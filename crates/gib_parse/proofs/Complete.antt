-- What is spelled so is read, where the levels serve.
use Rattle.std.proofs.Common.{◌≡◌, ◌≢◌, ℕ, zero, suc, ◌<◌, ◌^◌, Bool, true, false, List, [], ◌∷◌, ◌++◌, length, Ok, Err, refl, ap, ◌∙◌, subst, Option, Some}
use Rattle.std.proofs.lemmas.Bool.{lt-ltb}
use Rattle.gib_base.specs.declared.Span.{Span}
use Rattle.gib_base.specs.declared.token.Sign.{Sign}
use Rattle.gib_base.specs.declared.token.Sign.TheVariants as s
use Rattle.gib_base.specs.declared.token.Token.{Token}
use Rattle.gib_base.specs.declared.token.Token.TheVariants as t
use Rattle.gib_syntax.specs.declared.tree.Ident.{Ident}
use Rattle.gib_types.specs.declared.operator.Operator.{Operator}
use Rattle.gib_syntax.specs.GenericTree.{GenericExpression, GenericArguments, GenericArms, GenericVar, GenericNum, GenericBit, GenericParen, GenericOp, GenericCall, GenericMake, GenericLet, GenericPar, GenericIf, GenericCase, GenericTuple, GenericNoArgument, GenericArgument, GenericLastArm, GenericNextArm}
use Rattle.gib_syntax.specs.GenericFine.{is_generic_application, IsGenericFine, AreGenericFine, AreGenericParts, HasGenericFine}
use Rattle.gib_syntax.specs.Spelling.{Places, spell, spell_arguments, spell_further_parts, spell_arms, spell_variables, spell_names, spell_operator, spell_bit, spell_written, spell_type_arguments, sign_of}
use Rattle.gib_parse.specs.Reading.{Nested, Mode, Any, App, Atom, Read, Reader, Parts, then_at, want, before, next_is, many_step, many, is_sign, is_literal, literal_at, starts_atom, starts, ArmTree, arms_of, arm_at, next_arm_at, arms_at, arguments_of, arguments_at, BoundTree, binding_at, bind_at, par_at, let_at, if_at, case_at, side_at, close_at, open_at, next_part_at, tuple_at, close_any_at, open_any_at, type_arguments_at, call, called_at, variable_at, make_at, constant_at, atom_at, app_at, any_at, no_level, parse, operator_of, operation_at}
use Rattle.gib_reads.proofs.Tools.{done, failed}
use Rattle.gib_reads.proofs.Signs.{operator_back}
use Rattle.gib_reads.proofs.Many.{Shrinks, many_none, many_is}
use Rattle.gib_parse.proofs.ExpressionLaws.{IsMode}
use Rattle.gib_parse.proofs.WholeLaws.{parse_shrinks, next_shrinks, next_part_shrinks}
use Rattle.gib_parse.proofs.Settle.{settle, settle_arguments, settle_arms, settle_name, settle_names, settle_bound, settle_parts, settle_type, settle_written, settled_application}
use Rattle.gib_parse.proofs.WrittenComes.{goes_on, ends_parts, atom_no_bracket, type_arguments_none, type_arguments_come}
use Rattle.gib_syntax.specs.Forms.{WrittenType, WrittenTypes, NoType, MoreTypes}
use Rattle.gib_parse.specs.Nesting.{below, below_arguments, below_parts, below_arms}
use Rattle.gib_parse.proofs.Come.{Comes, Came, Sank, then_comes, then_last, comes_at, Steps, many_comes}
use Rattle.gib_parse.proofs.Starts.{Ends, atom_starts, mode_starts, names_bound_come, operator_ends, some_stand, variables_come}

-- ---- arguments

arguments_none : (p : Reader GenericExpression) (ts : List Token) → next_is starts_atom ts ≡ false → arguments_at p ts ≡ done GenericNoArgument ts
unfolding arguments_at
arguments_none p ts e = ap (λ (r : Read (List GenericExpression)). then_at r (λ xs ts. Ok (arguments_of xs, ts))) (many_none starts_atom p ts e)

abbrev pub as_arguments : Read (List GenericExpression) → Read GenericArguments
as_arguments r = then_at r (λ xs ts. Ok (arguments_of xs, ts))

regroup_rest : (a : GenericExpression) (r : Read (List GenericExpression)) → as_arguments (then_at r (λ more ts. Ok (a ∷ more, ts))) ≡ then_at (as_arguments r) (λ xs ts. Ok (GenericArgument a xs, ts))
regroup_rest a (Ok x) = refl
regroup_rest a (Err e) = refl

regroup : (r : Read GenericExpression) (q : Reader (List GenericExpression)) → as_arguments (then_at r (λ a ts. then_at (q ts) (λ more ts. Ok (a ∷ more, ts)))) ≡ then_at r (λ a ts. then_at (as_arguments (q ts)) (λ xs ts. Ok (GenericArgument a xs, ts)))
regroup (Ok x) q = regroup_rest x.0 (q x.1)
regroup (Err e) q = refl

pub argument_and_more : (p : Reader GenericExpression) → Shrinks p → (ts : List Token) → next_is starts_atom ts ≡ true → arguments_at p ts ≡ then_at (p ts) (λ a ts. then_at (arguments_at p ts) (λ xs ts. Ok (GenericArgument a xs, ts)))
unfolding arguments_at
argument_and_more p sh ts e =
    ap as_arguments (many_is starts_atom p sh ts ∙ ap (λ v. many_step v p (many starts_atom p) ts) e)
    ∙ regroup (p ts) (many starts_atom p)

-- ---- arms

abbrev as_arms : ArmTree → Read (List ArmTree) → Read GenericArms
as_arms arm r = then_at r (λ arms ts. Ok (arms_of arm arms, ts))

abbrev with_arm : ArmTree → Read GenericArms → Read GenericArms
with_arm arm r = then_at r (λ arms ts. Ok (GenericNextArm arm.constructor arm.variables arm.body arms, ts))

regroup_arms_rest : (arm next : ArmTree) (r : Read (List ArmTree)) → as_arms arm (then_at r (λ more ts. Ok (next ∷ more, ts))) ≡ with_arm arm (as_arms next r)
regroup_arms_rest arm next (Ok x) = refl
regroup_arms_rest arm next (Err e) = refl

regroup_arms : (arm : ArmTree) (r : Read ArmTree) (q : Reader (List ArmTree)) → as_arms arm (then_at r (λ next ts. then_at (q ts) (λ more ts. Ok (next ∷ more, ts)))) ≡ with_arm arm (then_at r (λ next ts. as_arms next (q ts)))
regroup_arms arm (Ok x) q = regroup_arms_rest arm x.0 (q x.1)
regroup_arms arm (Err e) q = refl

arms_more : (at : Places) (n : ℕ) (arm : ArmTree) (ts : List Token) → as_arms arm (many (is_sign s.Semicolon) (next_arm_at at (parse at n Any)) (t.Sign s.Semicolon ∷ ts)) ≡ with_arm arm (arms_at at (parse at n Any) ts)
unfolding arms_at next_arm_at
arms_more at n arm ts =
    ap (as_arms arm) (many_is (is_sign s.Semicolon) (next_arm_at at (parse at n Any)) (next_shrinks at n) (t.Sign s.Semicolon ∷ ts))
    ∙ regroup_arms arm (arm_at at (parse at n Any) ts) (many (is_sign s.Semicolon) (next_arm_at at (parse at n Any)))

arm_comes : (at : Places) (n : ℕ) (k : Ident) (xs : List Ident) (e : GenericExpression) (ts rest : List Token) (D : List ℕ) → Comes D (parse at n Any ts) e rest
    → Comes D (arm_at at (parse at n Any) (t.Constructor k.name ∷ spell_variables xs (t.Sign s.Arrow ∷ ts))) (record { constructor = settle_name at k (spell_variables xs (t.Sign s.Arrow ∷ ts)); variables = settle_names at xs (t.Sign s.Arrow ∷ ts); body = e }) rest
unfolding arm_at
arm_comes at n k xs e ts rest D c =
    let name = settle_name at k (spell_variables xs (t.Sign s.Arrow ∷ ts)) in
    comes_at (ap (λ (r : Read (List Ident)). then_at r (λ xs ts. then_at (want s.Arrow ts) (λ _ ts. then_at (parse at n Any ts) (λ e ts. done (let arm : ArmTree = record { constructor = name; variables = xs; body = e } in arm) ts)))) (variables_come at xs s.Arrow ts))
    (then_last (λ e left. done (let arm : ArmTree = record { constructor = name; variables = settle_names at xs (t.Sign s.Arrow ∷ ts); body = e } in arm) left) (record { constructor = name; variables = settle_names at xs (t.Sign s.Arrow ∷ ts); body = e }) rest c refl)

arms_is : (at : Places) (n : ℕ) (ts : List Token) → arms_at at (parse at n Any) ts ≡ then_at (arm_at at (parse at n Any) ts) (λ arm left. as_arms arm (many (is_sign s.Semicolon) (next_arm_at at (parse at n Any)) left))
unfolding arms_at
arms_is at n ts = refl

arms_last : (at : Places) (n : ℕ) (k : Ident) (xs : List Ident) (e : GenericExpression) (ts rest : List Token) (D : List ℕ) → Comes D (parse at n Any ts) e (t.Sign s.CloseBrace ∷ rest)
    → Comes D (arms_at at (parse at n Any) (t.Constructor k.name ∷ spell_variables xs (t.Sign s.Arrow ∷ ts))) (GenericLastArm (settle_name at k (spell_variables xs (t.Sign s.Arrow ∷ ts))) (settle_names at xs (t.Sign s.Arrow ∷ ts)) e) (t.Sign s.CloseBrace ∷ rest)
unfolding arms_at
arms_last at n k xs e ts rest D c =
    let arm : ArmTree = record { constructor = settle_name at k (spell_variables xs (t.Sign s.Arrow ∷ ts)); variables = settle_names at xs (t.Sign s.Arrow ∷ ts); body = e } in
    then_last (λ arm left. as_arms arm (many (is_sign s.Semicolon) (next_arm_at at (parse at n Any)) left)) (arms_of arm []) (t.Sign s.CloseBrace ∷ rest) (arm_comes at n k xs e ts (t.Sign s.CloseBrace ∷ rest) D c)
    (ap (as_arms arm) (many_none (is_sign s.Semicolon) (next_arm_at at (parse at n Any)) (t.Sign s.CloseBrace ∷ rest) refl))

arms_next : (at : Places) (n : ℕ) (k : Ident) (xs : List Ident) (e : GenericExpression) (arms : GenericArms) (ts after rest : List Token) (D E : List ℕ) → Comes D (parse at n Any ts) e (t.Sign s.Semicolon ∷ after) → Comes E (arms_at at (parse at n Any) after) arms rest
    → Comes (D ++ E) (arms_at at (parse at n Any) (t.Constructor k.name ∷ spell_variables xs (t.Sign s.Arrow ∷ ts))) (GenericNextArm (settle_name at k (spell_variables xs (t.Sign s.Arrow ∷ ts))) (settle_names at xs (t.Sign s.Arrow ∷ ts)) e arms) rest
arms_next at n k xs e arms ts after rest D E c d =
    let arm : ArmTree = record { constructor = settle_name at k (spell_variables xs (t.Sign s.Arrow ∷ ts)); variables = settle_names at xs (t.Sign s.Arrow ∷ ts); body = e } in
    comes_at (arms_is at n (t.Constructor k.name ∷ spell_variables xs (t.Sign s.Arrow ∷ ts)))
    (then_comes (λ arm left. as_arms arm (many (is_sign s.Semicolon) (next_arm_at at (parse at n Any)) left)) (GenericNextArm arm.constructor arm.variables arm.body arms) rest (arm_comes at n k xs e ts (t.Sign s.Semicolon ∷ after) D c)
    (comes_at (arms_more at n arm after) (then_last (λ arms left. Ok (GenericNextArm arm.constructor arm.variables arm.body arms, left)) (GenericNextArm arm.constructor arm.variables arm.body arms) rest d refl)))

-- ---- the expressions

-- Behind a variable and its type arguments.
variable_comes : (at : Places) (n : ℕ) (f : Ident) (ts mid : List Token) (ws : WrittenTypes) (e : GenericExpression) (rest : List Token) (D : List ℕ) → type_arguments_at at ts ≡ done ws mid
    → Comes D (called_at (parse at n) (settle_name at f ts) ws mid) e rest → Comes D (app_at at (parse at n) (t.Variable f.name ∷ ts)) e rest
unfolding variable_at
variable_comes at n f ts mid ws e rest D q c =
    let name = settle_name at f ts in
    comes_at (ap (λ (r : Read WrittenTypes). then_at r (λ ws ts. called_at (parse at n) name ws ts)) q) c

call_comes : (at : Places) (n : ℕ) (f : Ident) (ts : List Token) (xs : GenericArguments) (rest : List Token) (e : GenericExpression) (D : List ℕ) → next_is (is_sign s.OpenBracket) ts ≡ false → call (settle_name at f ts) xs ≡ e
    → Comes D (arguments_at (parse at n Atom) ts) xs rest → Comes D (app_at at (parse at n) (t.Variable f.name ∷ ts)) e rest
unfolding called_at
call_comes at n f ts xs rest e D none same c =
    let name = settle_name at f ts in
    variable_comes at n f ts ts NoType e rest D (type_arguments_none at ts none)
    (then_last (λ xs left. Ok (call name xs, left)) e rest c (ap (λ (v : GenericExpression). done v rest) same))

-- A call with type arguments.
typed_call_comes : (at : Places) (n : ℕ) (f : Ident) (w : WrittenType) (ws : WrittenTypes) (a : GenericExpression) (xs : GenericArguments) (ts mid after rest : List Token) (D E : List ℕ) → type_arguments_at at ts ≡ done (MoreTypes w ws) mid
    → Comes D (parse at n Atom mid) a after → Comes E (arguments_at (parse at n Atom) after) xs rest → Comes (D ++ E) (app_at at (parse at n) (t.Variable f.name ∷ ts)) (GenericCall (settle_name at f ts) (MoreTypes w ws) (GenericArgument a xs)) rest
unfolding called_at
typed_call_comes at n f w ws a xs ts mid after rest D E q c d =
    let name = settle_name at f ts in
    let e = GenericCall name (MoreTypes w ws) (GenericArgument a xs) in
    variable_comes at n f ts mid (MoreTypes w ws) e rest (D ++ E) q
    (then_comes (λ a ts. then_at (arguments_at (parse at n Atom) ts) (λ xs ts. Ok (GenericCall name (MoreTypes w ws) (GenericArgument a xs), ts))) e rest c
    (then_last (λ xs ts. Ok (GenericCall name (MoreTypes w ws) (GenericArgument a xs), ts)) e rest d refl))

make_comes : (at : Places) (n : ℕ) (k : Ident) (ts mid : List Token) (ws : WrittenTypes) (xs : GenericArguments) (rest : List Token) (D : List ℕ) → type_arguments_at at ts ≡ done ws mid → Comes D (arguments_at (parse at n Atom) mid) xs rest
    → Comes D (app_at at (parse at n) (t.Constructor k.name ∷ ts)) (GenericMake (settle_name at k ts) ws xs) rest
unfolding make_at
make_comes at n k ts mid ws xs rest D q c =
    let name = settle_name at k ts in
    comes_at (ap (λ (r : Read WrittenTypes). then_at r (λ ws ts. then_at (arguments_at (parse at n Atom) ts) (λ xs ts. Ok (GenericMake name ws xs, ts)))) q)
    (then_last (λ xs ts. Ok (GenericMake name ws xs, ts)) (GenericMake name ws xs) rest c refl)

constant_comes : (at : Places) (n : ℕ) (k : Ident) (ts rest : List Token) (ws : WrittenTypes) → type_arguments_at at ts ≡ done ws rest → atom_at at (parse at n) (t.Constructor k.name ∷ ts) ≡ done (GenericMake (settle_name at k ts) ws GenericNoArgument) rest
unfolding constant_at
constant_comes at n k ts rest ws q = let name = settle_name at k ts in ap (λ (r : Read WrittenTypes). then_at r (λ ws ts. Ok (GenericMake name ws GenericNoArgument, ts))) q

-- No bracket begins the arguments, where none begins what follows.
plain_arguments : (xs : GenericArguments) (rest : List Token) → AreGenericFine xs → next_is goes_on rest ≡ false → next_is (is_sign s.OpenBracket) (spell_arguments xs rest) ≡ false
plain_arguments GenericNoArgument rest f e = (ends_parts rest e).0
plain_arguments (GenericArgument a xs) rest f e = atom_no_bracket (spell a (spell_arguments xs rest)) (atom_starts a (spell_arguments xs rest) f.0 f.1)

more_comes : (at : Places) (n : ℕ) (a : GenericExpression) (xs : GenericArguments) (ts after rest : List Token) (D E : List ℕ) → next_is starts_atom ts ≡ true → Comes D (parse at n Atom ts) a after → Comes E (arguments_at (parse at n Atom) after) xs rest → Comes (D ++ E) (arguments_at (parse at n Atom) ts) (GenericArgument a xs) rest
more_comes at n a xs ts after rest D E e c d =
    comes_at (argument_and_more (parse at n Atom) (parse_shrinks at n Atom) ts e)
    (then_comes (λ a ts. then_at (arguments_at (parse at n Atom) ts) (λ xs ts. Ok (GenericArgument a xs, ts))) (GenericArgument a xs) rest c (then_last (λ xs ts. Ok (GenericArgument a xs, ts)) (GenericArgument a xs) rest d refl))

paren_comes : (at : Places) (n : ℕ) (p : Span) (e : GenericExpression) (ts rest : List Token) (D : List ℕ) → Comes D (parse at n Any ts) e (t.Sign s.Close ∷ rest) → Comes D (open_at (parse at n) p ts) (GenericParen p e) rest
unfolding open_at
paren_comes at n p e ts rest D c = then_last (close_at (parse at n) p) (GenericParen p e) rest c refl

close_sign : (sub : Parts) (p : Span) (e : GenericExpression) (a : Sign) (f : Operator) (ts : List Token) → operator_of a ≡ Some f → close_at sub p e (t.Sign a ∷ ts) ≡ side_at (is_generic_application e) sub p f e ts
close_sign sub p e s.Close f ts i = absurd cc
close_sign sub p e a f ts i = ap (λ g. operation_at g sub p e ts) i

close_operator : (sub : Parts) (p : Span) (e : GenericExpression) (f : Operator) (ts : List Token) → close_at sub p e (spell_operator f ts) ≡ side_at (is_generic_application e) sub p f e ts
close_operator sub p e f ts = close_sign sub p e (sign_of f) f ts (operator_back f)

op_comes : (at : Places) (n : ℕ) (p : Span) (f : Operator) (a b : GenericExpression) (ts after rest : List Token) (D E : List ℕ) → is_generic_application a ≡ true → Comes D (parse at n Any ts) a (spell_operator f after) → Comes E (parse at n App after) b (t.Sign s.Close ∷ rest) → Comes (D ++ E) (open_at (parse at n) p ts) (GenericOp p f a b) rest
unfolding open_at
op_comes at n p f a b ts after rest D E e c d =
    then_comes (close_at (parse at n) p) (GenericOp p f a b) rest c
    (comes_at (close_operator (parse at n) p a f after ∙ ap (λ v. side_at v (parse at n) p f a after) e) (then_last (λ b ts. then_at (want s.Close ts) (λ _ ts. Ok (GenericOp p f a b, ts))) (GenericOp p f a b) rest d refl))

binding_comes : (at : Places) (n : ℕ) (xs : List Ident) (a : GenericExpression) (ts rest : List Token) (D : List ℕ) → xs ≢ [] → Comes D (parse at n Any ts) a rest
    → Comes D (binding_at at (parse at n Any) (spell_names xs (t.Sign s.Equals ∷ ts))) (record { names = settle_bound at xs (t.Sign s.Equals ∷ ts); value = a }) rest
unfolding binding_at
binding_comes at n xs a ts rest D some c =
    let ys = settle_bound at xs (t.Sign s.Equals ∷ ts) in
    let whole : BoundTree = record { names = ys; value = a } in
    then_comes (λ xs ts. then_at (want s.Equals ts) (λ _ ts. then_at (parse at n Any ts) (λ a ts. done (let x : BoundTree = record { names = xs; value = a } in x) ts))) whole rest (names_bound_come at xs (t.Sign s.Equals ∷ ts) some)
    (then_last (λ a ts. done (let x : BoundTree = record { names = ys; value = a } in x) ts) whole rest c refl)

let_comes : (at : Places) (n : ℕ) (p : Span) (xs : List Ident) (a b : GenericExpression) (ts after rest : List Token) (D E : List ℕ) → xs ≢ [] → Comes D (parse at n Any ts) a (t.Sign s.In ∷ after) → Comes E (parse at n Any after) b rest
    → Comes (D ++ E) (bind_at at (parse at n) p (spell_names xs (t.Sign s.Equals ∷ ts))) (GenericLet p (settle_bound at xs (t.Sign s.Equals ∷ ts)) a b) rest
unfolding bind_at
let_comes at n p xs a b ts after rest D E some c d =
    let ys = settle_bound at xs (t.Sign s.Equals ∷ ts) in
    then_comes (λ x ts. then_at (want s.In ts) (λ _ ts. then_at (parse at n Any ts) (λ b ts. Ok (GenericLet p x.names x.value b, ts)))) (GenericLet p ys a b) rest (binding_comes at n xs a ts (t.Sign s.In ∷ after) D some c)
    (then_last (λ b ts. Ok (GenericLet p ys a b, ts)) (GenericLet p ys a b) rest d refl)

par_comes : (at : Places) (n : ℕ) (p : Span) (xs ys : List Ident) (a b c : GenericExpression) (ts behind after rest : List Token) (D E F : List ℕ) → xs ≢ [] → ys ≢ []
    → Comes D (parse at n Any ts) a (t.Sign s.And ∷ spell_names ys (t.Sign s.Equals ∷ behind)) → Comes E (parse at n Any behind) b (t.Sign s.In ∷ after) → Comes F (parse at n Any after) c rest
    → Comes (D ++ (E ++ F)) (par_at at (parse at n) p (spell_names xs (t.Sign s.Equals ∷ ts))) (GenericPar p (settle_bound at xs (t.Sign s.Equals ∷ ts)) a (settle_bound at ys (t.Sign s.Equals ∷ behind)) b c) rest
unfolding par_at
par_comes at n p xs ys a b c ts behind after rest D E F some further ca cb cc' =
    let xs' = settle_bound at xs (t.Sign s.Equals ∷ ts) in
    let ys' = settle_bound at ys (t.Sign s.Equals ∷ behind) in
    let whole = GenericPar p xs' a ys' b c in
    then_comes (λ x ts. then_at (want s.And ts) (λ _ ts. then_at (binding_at at (parse at n Any) ts) (λ y ts. then_at (want s.In ts) (λ _ ts. then_at (parse at n Any ts) (λ c ts. Ok (GenericPar p x.names x.value y.names y.value c, ts)))))) whole rest
    (binding_comes at n xs a ts (t.Sign s.And ∷ spell_names ys (t.Sign s.Equals ∷ behind)) D some ca)
    (then_comes (λ y ts. then_at (want s.In ts) (λ _ ts. then_at (parse at n Any ts) (λ c ts. Ok (GenericPar p xs' a y.names y.value c, ts)))) whole rest (binding_comes at n ys b behind (t.Sign s.In ∷ after) E further cb)
    (then_last (λ c ts. Ok (GenericPar p xs' a ys' b c, ts)) whole rest cc' refl))

-- ---- where any expression may stand

paren_any_comes : (at : Places) (n : ℕ) (p : Span) (e : GenericExpression) (ts rest : List Token) (D : List ℕ) → Comes D (parse at n Any ts) e (t.Sign s.Close ∷ rest) → Comes D (open_any_at (parse at n) p ts) (GenericParen p e) rest
unfolding open_any_at
paren_any_comes at n p e ts rest D c = then_last (close_any_at (parse at n) p) (GenericParen p e) rest c refl

close_any_sign : (sub : Parts) (p : Span) (e : GenericExpression) (a : Sign) (f : Operator) (ts : List Token) → operator_of a ≡ Some f → close_any_at sub p e (t.Sign a ∷ ts) ≡ side_at (is_generic_application e) sub p f e ts
close_any_sign sub p e s.Comma f ts i = absurd cc
close_any_sign sub p e a f ts i = close_sign sub p e a f ts i

close_any_operator : (sub : Parts) (p : Span) (e : GenericExpression) (f : Operator) (ts : List Token) → close_any_at sub p e (spell_operator f ts) ≡ side_at (is_generic_application e) sub p f e ts
close_any_operator sub p e f ts = close_any_sign sub p e (sign_of f) f ts (operator_back f)

op_any_comes : (at : Places) (n : ℕ) (p : Span) (f : Operator) (a b : GenericExpression) (ts after rest : List Token) (D E : List ℕ) → is_generic_application a ≡ true → Comes D (parse at n Any ts) a (spell_operator f after) → Comes E (parse at n App after) b (t.Sign s.Close ∷ rest) → Comes (D ++ E) (open_any_at (parse at n) p ts) (GenericOp p f a b) rest
unfolding open_any_at
op_any_comes at n p f a b ts after rest D E e c d =
    then_comes (close_any_at (parse at n) p) (GenericOp p f a b) rest c
    (comes_at (close_any_operator (parse at n) p a f after ∙ ap (λ v. side_at v (parse at n) p f a after) e) (then_last (λ b ts. then_at (want s.Close ts) (λ _ ts. Ok (GenericOp p f a b, ts))) (GenericOp p f a b) rest d refl))

-- The parts of a tuple, as a list.
abbrev pub parts_list : Places → GenericArguments → List Token → List GenericExpression
parts_list at GenericNoArgument rest = []
parts_list at (GenericArgument a xs) rest = settle at a (spell_further_parts xs rest) ∷ parts_list at xs rest

parts_are : (at : Places) (xs : GenericArguments) (rest : List Token) → arguments_of (parts_list at xs rest) ≡ settle_parts at xs rest
parts_are at GenericNoArgument rest = refl
parts_are at (GenericArgument a xs) rest = ap (GenericArgument (settle at a (spell_further_parts xs rest))) (parts_are at xs rest)

tuple_comes : (at : Places) (n : ℕ) (p : Span) (a b : GenericExpression) (xs : List GenericExpression) (ts behind more rest : List Token) (D E F : List ℕ) → Comes D (parse at n Any ts) a (t.Sign s.Comma ∷ behind) → Comes E (parse at n Any behind) b more
    → Comes F (many (is_sign s.Comma) (next_part_at (parse at n Any)) more) xs (t.Sign s.Close ∷ rest) → Comes (D ++ (E ++ F)) (open_any_at (parse at n) p ts) (GenericTuple p (arguments_of (a ∷ b ∷ xs))) rest
unfolding open_any_at tuple_at next_part_at
tuple_comes at n p a b xs ts behind more rest D E F c d e =
    let whole = GenericTuple p (arguments_of (a ∷ b ∷ xs)) in
    then_comes (close_any_at (parse at n) p) whole rest c
    (then_comes (λ b ts. then_at (many (is_sign s.Comma) (next_part_at (parse at n Any)) ts) (λ xs ts. then_at (want s.Close ts) (λ _ ts. Ok (GenericTuple p (arguments_of (a ∷ b ∷ xs)), ts)))) whole rest d
    (then_last (λ xs ts. then_at (want s.Close ts) (λ _ ts. Ok (GenericTuple p (arguments_of (a ∷ b ∷ xs)), ts))) whole rest e refl))

if_comes : (at : Places) (n : ℕ) (p : Span) (a b c : GenericExpression) (ts behind after rest : List Token) (D E F : List ℕ) → Comes D (parse at n Any ts) a (t.Sign s.Then ∷ behind) → Comes E (parse at n Any behind) b (t.Sign s.Else ∷ after) → Comes F (parse at n Any after) c rest
    → Comes (D ++ (E ++ F)) (if_at (parse at n) p ts) (GenericIf p a b c) rest
unfolding if_at
if_comes at n p a b c ts behind after rest D E F ca cb cc' =
    then_comes (λ a ts. then_at (want s.Then ts) (λ _ ts. then_at (parse at n Any ts) (λ b ts. then_at (want s.Else ts) (λ _ ts. then_at (parse at n Any ts) (λ c ts. Ok (GenericIf p a b c, ts)))))) (GenericIf p a b c) rest ca
    (then_comes (λ b ts. then_at (want s.Else ts) (λ _ ts. then_at (parse at n Any ts) (λ c ts. Ok (GenericIf p a b c, ts)))) (GenericIf p a b c) rest cb
    (then_last (λ c ts. Ok (GenericIf p a b c, ts)) (GenericIf p a b c) rest cc' refl))

case_comes : (at : Places) (n : ℕ) (p : Span) (x : Ident) (arms : GenericArms) (ts rest : List Token) (D : List ℕ) → Comes D (arms_at at (parse at n Any) ts) arms (t.Sign s.CloseBrace ∷ rest)
    → Comes D (case_at at (parse at n) p (t.Variable x.name ∷ t.Sign s.Of ∷ t.Sign s.OpenBrace ∷ ts)) (GenericCase p (settle_name at x (t.Sign s.Of ∷ t.Sign s.OpenBrace ∷ ts)) arms) rest
unfolding case_at
case_comes at n p x arms ts rest D c =
    let y = settle_name at x (t.Sign s.Of ∷ t.Sign s.OpenBrace ∷ ts) in
    then_last (λ arms ts. then_at (want s.CloseBrace ts) (λ _ ts. Ok (GenericCase p y arms, ts))) (GenericCase p y arms) rest c refl

part_comes : (at : Places) (n : ℕ) (a : GenericExpression) (ts rest : List Token) (D : List ℕ) → Comes D (parse at n Any ts) a rest → Comes D (next_part_at (parse at n Any) (t.Sign s.Comma ∷ ts)) a rest
unfolding next_part_at
part_comes at n a ts rest D c = c

-- Behind a part stands a comma or the end.
parts_end : (xs : GenericArguments) (rest : List Token) → next_is goes_on (spell_further_parts xs (t.Sign s.Close ∷ rest)) ≡ false
parts_end GenericNoArgument rest = refl
parts_end (GenericArgument a xs) rest = refl

as_tree : {met : List ℕ} {r : Read GenericExpression} {a b : GenericExpression} {rest : List Token} → a ≡ b → Comes met r a rest → Comes met r b rest
as_tree {met = met} {r = r} {rest = rest} e c = subst (λ (x : GenericExpression). Comes met r x rest) e c

-- Behind `let` no variable is `par`.
let_binds : (at : Places) (sub : Parts) (p : Span) (xs : List Ident) (ts : List Token) → xs ≢ [] → let_at at sub p (spell_names xs ts) ≡ bind_at at sub p (spell_names xs ts)
let_binds at sub p [] ts some = absurd (some refl)
let_binds at sub p (x ∷ []) ts some = refl
let_binds at sub p (x ∷ y ∷ ys) ts some = refl

literal_comes : (at : Places) (n : ℕ) (rest : List Token) → n < 2 ^ 63 → Comes [] (literal_at (is_literal n) (before at rest) n rest) (GenericNum (before at rest) n) rest
literal_comes at n rest lt = Came (ap (λ v. literal_at v (before at rest) n rest) (lt-ltb n (2 ^ 63) lt)) refl

bit_any : (at : Places) (n : ℕ) (b : Bool) (rest : List Token) → any_at at (parse at n) (spell_bit b rest) ≡ done (GenericBit (before at rest) b) rest
bit_any at n true rest = refl
bit_any at n false rest = refl

bit_app : (at : Places) (n : ℕ) (b : Bool) (rest : List Token) → app_at at (parse at n) (spell_bit b rest) ≡ done (GenericBit (before at rest) b) rest
bit_app at n true rest = refl
bit_app at n false rest = refl

bit_atom : (at : Places) (n : ℕ) (b : Bool) (rest : List Token) → atom_at at (parse at n) (spell_bit b rest) ≡ done (GenericBit (before at rest) b) rest
bit_atom at n true rest = refl
bit_atom at n false rest = refl

mutual
  unfolding parse

  -- The tree comes, with the spans of its tokens.
  pub complete : (at : Places) (e : GenericExpression) (n : ℕ) (m : Mode) (rest : List Token) → IsGenericFine e → IsMode m e → Ends m rest → Comes (below n e rest) (parse at n m (spell e rest)) (settle at e rest) rest
  complete at e zero m rest f i en =
      let st = mode_starts m e rest f i in
      let some = some_stand (starts m) (spell e rest) st in
      Sank some.0 [] (ap (λ v. no_level v (spell e rest)) st ∙ ap (λ (k : ℕ). failed (Nested k)) some.1) (ap (λ (k : ℕ). k ∷ []) some.1)
  complete at (GenericVar x) (suc n) Any rest f i en =
      call_comes at n x rest GenericNoArgument rest (GenericVar (settle_name at x rest)) _ (ends_parts rest en).0 refl (Came (arguments_none (parse at n Atom) rest (ends_parts rest en).1) refl)
  complete at (GenericVar x) (suc n) App rest f i en =
      call_comes at n x rest GenericNoArgument rest (GenericVar (settle_name at x rest)) _ (ends_parts rest en).0 refl (Came (arguments_none (parse at n Atom) rest (ends_parts rest en).1) refl)
  complete at (GenericVar x) (suc n) Atom rest f i en = Came refl refl
  complete at (GenericNum p v) (suc n) Any rest f i en = literal_comes at v rest f
  complete at (GenericNum p v) (suc n) App rest f i en = literal_comes at v rest f
  complete at (GenericNum p v) (suc n) Atom rest f i en = literal_comes at v rest f
  complete at (GenericBit p b) (suc n) Any rest f i en = Came (bit_any at n b rest) refl
  complete at (GenericBit p b) (suc n) App rest f i en = Came (bit_app at n b rest) refl
  complete at (GenericBit p b) (suc n) Atom rest f i en = Came (bit_atom at n b rest) refl
  complete at (GenericParen p e) (suc n) Any rest f i en = paren_any_comes at n (at (length (spell (GenericParen p e) rest))) (settle at e (t.Sign s.Close ∷ rest)) (spell e (t.Sign s.Close ∷ rest)) rest _ ((complete at e n Any (t.Sign s.Close ∷ rest) f tt refl))
  complete at (GenericParen p e) (suc n) App rest f i en = paren_comes at n (at (length (spell (GenericParen p e) rest))) (settle at e (t.Sign s.Close ∷ rest)) (spell e (t.Sign s.Close ∷ rest)) rest _ ((complete at e n Any (t.Sign s.Close ∷ rest) f tt refl))
  complete at (GenericParen p e) (suc n) Atom rest f i en = paren_comes at n (at (length (spell (GenericParen p e) rest))) (settle at e (t.Sign s.Close ∷ rest)) (spell e (t.Sign s.Close ∷ rest)) rest _ ((complete at e n Any (t.Sign s.Close ∷ rest) f tt refl))
  complete at (GenericOp p g a b) (suc n) Any rest f i en = op_any_comes at n (at (length (spell (GenericOp p g a b) rest))) g (settle at a (spell_operator g (spell b (t.Sign s.Close ∷ rest)))) (settle at b (t.Sign s.Close ∷ rest)) (spell a (spell_operator g (spell b (t.Sign s.Close ∷ rest)))) (spell b (t.Sign s.Close ∷ rest)) rest _ _ (settled_application at a (spell_operator g (spell b (t.Sign s.Close ∷ rest))) ∙ f.2)
      ((complete at a n Any (spell_operator g (spell b (t.Sign s.Close ∷ rest))) f.0 tt (operator_ends g (spell b (t.Sign s.Close ∷ rest))))) ((complete at b n App (t.Sign s.Close ∷ rest) f.1 f.3 refl))
  complete at (GenericOp p g a b) (suc n) App rest f i en = op_comes at n (at (length (spell (GenericOp p g a b) rest))) g (settle at a (spell_operator g (spell b (t.Sign s.Close ∷ rest)))) (settle at b (t.Sign s.Close ∷ rest)) (spell a (spell_operator g (spell b (t.Sign s.Close ∷ rest)))) (spell b (t.Sign s.Close ∷ rest)) rest _ _ (settled_application at a (spell_operator g (spell b (t.Sign s.Close ∷ rest))) ∙ f.2)
      ((complete at a n Any (spell_operator g (spell b (t.Sign s.Close ∷ rest))) f.0 tt (operator_ends g (spell b (t.Sign s.Close ∷ rest))))) ((complete at b n App (t.Sign s.Close ∷ rest) f.1 f.3 refl))
  complete at (GenericOp p g a b) (suc n) Atom rest f i en = op_comes at n (at (length (spell (GenericOp p g a b) rest))) g (settle at a (spell_operator g (spell b (t.Sign s.Close ∷ rest)))) (settle at b (t.Sign s.Close ∷ rest)) (spell a (spell_operator g (spell b (t.Sign s.Close ∷ rest)))) (spell b (t.Sign s.Close ∷ rest)) rest _ _ (settled_application at a (spell_operator g (spell b (t.Sign s.Close ∷ rest))) ∙ f.2)
      ((complete at a n Any (spell_operator g (spell b (t.Sign s.Close ∷ rest))) f.0 tt (operator_ends g (spell b (t.Sign s.Close ∷ rest))))) ((complete at b n App (t.Sign s.Close ∷ rest) f.1 f.3 refl))
  complete at (GenericCall g ws GenericNoArgument) (suc n) m rest f i en = absurd f
  complete at (GenericCall g NoType (GenericArgument a xs)) (suc n) Any rest f i en =
      call_comes at n g (spell_arguments (GenericArgument a xs) rest) (settle_arguments at (GenericArgument a xs) rest) rest _ _ (plain_arguments (GenericArgument a xs) rest f en) refl (complete_arguments at (GenericArgument a xs) n rest f en)
  complete at (GenericCall g (MoreTypes w ws) (GenericArgument a xs)) (suc n) Any rest f i en =
      let here = spell_arguments (GenericArgument a xs) rest in
      typed_call_comes at n g (settle_type at w (spell_written ws (t.Sign s.CloseBracket ∷ here))) (settle_written at ws (t.Sign s.CloseBracket ∷ here)) (settle at a (spell_arguments xs rest)) (settle_arguments at xs rest)
      (spell_type_arguments (MoreTypes w ws) here) here (spell_arguments xs rest) rest _ _ (type_arguments_come at (MoreTypes w ws) here (plain_arguments (GenericArgument a xs) rest f en))
      (complete at a n Atom (spell_arguments xs rest) f.0 f.1 (plain_arguments xs rest f.2 en)) (complete_arguments at xs n rest f.2 en)
  complete at (GenericCall g NoType (GenericArgument a xs)) (suc n) App rest f i en =
      call_comes at n g (spell_arguments (GenericArgument a xs) rest) (settle_arguments at (GenericArgument a xs) rest) rest _ _ (plain_arguments (GenericArgument a xs) rest f en) refl (complete_arguments at (GenericArgument a xs) n rest f en)
  complete at (GenericCall g (MoreTypes w ws) (GenericArgument a xs)) (suc n) App rest f i en =
      let here = spell_arguments (GenericArgument a xs) rest in
      typed_call_comes at n g (settle_type at w (spell_written ws (t.Sign s.CloseBracket ∷ here))) (settle_written at ws (t.Sign s.CloseBracket ∷ here)) (settle at a (spell_arguments xs rest)) (settle_arguments at xs rest)
      (spell_type_arguments (MoreTypes w ws) here) here (spell_arguments xs rest) rest _ _ (type_arguments_come at (MoreTypes w ws) here (plain_arguments (GenericArgument a xs) rest f en))
      (complete at a n Atom (spell_arguments xs rest) f.0 f.1 (plain_arguments xs rest f.2 en)) (complete_arguments at xs n rest f.2 en)
  complete at (GenericCall g ws (GenericArgument a xs)) (suc n) Atom rest f i en = absurd cc
  complete at (GenericMake k ws xs) (suc n) Any rest f i en =
      make_comes at n k (spell_type_arguments ws (spell_arguments xs rest)) (spell_arguments xs rest) (settle_written at ws (t.Sign s.CloseBracket ∷ spell_arguments xs rest)) (settle_arguments at xs rest) rest _
      (type_arguments_come at ws (spell_arguments xs rest) (plain_arguments xs rest f en)) (complete_arguments at xs n rest f en)
  complete at (GenericMake k ws xs) (suc n) App rest f i en =
      make_comes at n k (spell_type_arguments ws (spell_arguments xs rest)) (spell_arguments xs rest) (settle_written at ws (t.Sign s.CloseBracket ∷ spell_arguments xs rest)) (settle_arguments at xs rest) rest _
      (type_arguments_come at ws (spell_arguments xs rest) (plain_arguments xs rest f en)) (complete_arguments at xs n rest f en)
  complete at (GenericMake k ws GenericNoArgument) (suc n) Atom rest f i en = Came (constant_comes at n k (spell_type_arguments ws rest) rest (settle_written at ws (t.Sign s.CloseBracket ∷ rest)) (type_arguments_come at ws rest en)) refl
  complete at (GenericMake k ws (GenericArgument a xs)) (suc n) Atom rest f i en = absurd cc
  complete at (GenericLet p xs a b) (suc n) Any rest f i en =
      let whole = at (length (spell (GenericLet p xs a b) rest)) in
      let after = t.Sign s.In ∷ spell b rest in
      comes_at (let_binds at (parse at n) whole xs (t.Sign s.Equals ∷ spell a after) f.0)
      (let_comes at n whole xs (settle at a after) (settle at b rest) (spell a after) (spell b rest) rest _ _ f.0 (complete at a n Any after f.1 tt refl) (complete at b n Any rest f.2 tt en))
  complete at (GenericLet p xs a b) (suc n) App rest f i en = absurd cc
  complete at (GenericLet p xs a b) (suc n) Atom rest f i en = absurd cc
  complete at (GenericPar p xs a ys b c) (suc n) Any rest f i en =
      let whole = at (length (spell (GenericPar p xs a ys b c) rest)) in
      let last = t.Sign s.In ∷ spell c rest in
      let after = t.Sign s.And ∷ spell_names ys (t.Sign s.Equals ∷ spell b last) in
      par_comes at n whole xs ys (settle at a after) (settle at b last) (settle at c rest) (spell a after) (spell b last) (spell c rest) rest _ _ _ f.0 f.1
      (complete at a n Any after f.2 tt refl) (complete at b n Any last f.3 tt refl) (complete at c n Any rest f.4 tt en)
  complete at (GenericPar p xs a ys b c) (suc n) App rest f i en = absurd cc
  complete at (GenericPar p xs a ys b c) (suc n) Atom rest f i en = absurd cc
  complete at (GenericIf p a b c) (suc n) Any rest f i en = if_comes at n (at (length (spell (GenericIf p a b c) rest))) (settle at a (t.Sign s.Then ∷ spell b (t.Sign s.Else ∷ spell c rest))) (settle at b (t.Sign s.Else ∷ spell c rest)) (settle at c rest) (spell a (t.Sign s.Then ∷ spell b (t.Sign s.Else ∷ spell c rest))) (spell b (t.Sign s.Else ∷ spell c rest)) (spell c rest) rest _ _ _
      ((complete at a n Any (t.Sign s.Then ∷ spell b (t.Sign s.Else ∷ spell c rest)) f.0 tt refl)) ((complete at b n Any (t.Sign s.Else ∷ spell c rest) f.1 tt refl)) ((complete at c n Any rest f.2 tt en))
  complete at (GenericIf p a b c) (suc n) App rest f i en = absurd cc
  complete at (GenericIf p a b c) (suc n) Atom rest f i en = absurd cc
  complete at (GenericCase p x arms) (suc n) Any rest f i en = case_comes at n (at (length (spell (GenericCase p x arms) rest))) x (settle_arms at arms (t.Sign s.CloseBrace ∷ rest)) (spell_arms arms (t.Sign s.CloseBrace ∷ rest)) rest _ ((complete_arms at arms n rest f))
  complete at (GenericCase p x arms) (suc n) App rest f i en = absurd cc
  complete at (GenericCase p x arms) (suc n) Atom rest f i en = absurd cc
  complete at (GenericTuple p GenericNoArgument) (suc n) m rest f i en = absurd f
  complete at (GenericTuple p (GenericArgument a GenericNoArgument)) (suc n) m rest f i en = absurd f
  complete at (GenericTuple p (GenericArgument a (GenericArgument b xs))) (suc n) Any rest f i en =
      let last = t.Sign s.Close ∷ rest in
      let more = spell_further_parts xs last in
      let behind = spell b more in
      let whole = at (length (spell (GenericTuple p (GenericArgument a (GenericArgument b xs))) rest)) in
      let a' = settle at a (t.Sign s.Comma ∷ behind) in
      let b' = settle at b more in
      as_tree (ap (λ (as' : GenericArguments). GenericTuple whole (GenericArgument a' (GenericArgument b' as'))) (parts_are at xs last))
      (tuple_comes at n whole a' b' (parts_list at xs last) (spell a (t.Sign s.Comma ∷ behind)) behind more rest _ _ _ (complete at a n Any (t.Sign s.Comma ∷ behind) f.0 tt refl) (complete at b n Any more f.1.0 tt (parts_end xs rest))
      (many_comes (below_parts n xs last) (is_sign s.Comma) (next_part_at (parse at n Any)) (next_part_shrinks at n) (parts_list at xs last) more last (complete_parts at xs n rest f.1.1)))
  complete at (GenericTuple p (GenericArgument a (GenericArgument b xs))) (suc n) App rest f i en = absurd cc
  complete at (GenericTuple p (GenericArgument a (GenericArgument b xs))) (suc n) Atom rest f i en = absurd cc

  complete_parts : (at : Places) (xs : GenericArguments) (n : ℕ) (rest : List Token) → AreGenericParts xs → Steps (below_parts n xs (t.Sign s.Close ∷ rest)) (is_sign s.Comma) (next_part_at (parse at n Any)) (spell_further_parts xs (t.Sign s.Close ∷ rest)) (parts_list at xs (t.Sign s.Close ∷ rest)) (t.Sign s.Close ∷ rest)
  complete_parts at GenericNoArgument n rest f = (refl, refl, refl)
  complete_parts at (GenericArgument a xs) n rest f =
      let last = t.Sign s.Close ∷ rest in (
        spell_further_parts xs last,
        below n a (spell_further_parts xs last),
        below_parts n xs last,
        refl,
        part_comes at n (settle at a (spell_further_parts xs last)) (spell a (spell_further_parts xs last)) (spell_further_parts xs last) _ (complete at a n Any (spell_further_parts xs last) f.0 tt (parts_end xs rest)),
        complete_parts at xs n rest f.1,
        refl,
      )

  complete_arguments : (at : Places) (xs : GenericArguments) (n : ℕ) (rest : List Token) → AreGenericFine xs → next_is goes_on rest ≡ false → Comes (below_arguments n xs rest) (arguments_at (parse at n Atom) (spell_arguments xs rest)) (settle_arguments at xs rest) rest
  complete_arguments at GenericNoArgument n rest f en = Came (arguments_none (parse at n Atom) rest (ends_parts rest en).1) refl
  complete_arguments at (GenericArgument a xs) n rest f en =
      more_comes at n (settle at a (spell_arguments xs rest)) (settle_arguments at xs rest) (spell a (spell_arguments xs rest)) (spell_arguments xs rest) rest _ _ (atom_starts a (spell_arguments xs rest) f.0 f.1)
      (complete at a n Atom (spell_arguments xs rest) f.0 f.1 (plain_arguments xs rest f.2 en)) ((complete_arguments at xs n rest f.2 en))

  complete_arms : (at : Places) (arms : GenericArms) (n : ℕ) (rest : List Token) → HasGenericFine arms → Comes (below_arms n arms (t.Sign s.CloseBrace ∷ rest)) (arms_at at (parse at n Any) (spell_arms arms (t.Sign s.CloseBrace ∷ rest))) (settle_arms at arms (t.Sign s.CloseBrace ∷ rest)) (t.Sign s.CloseBrace ∷ rest)
  complete_arms at (GenericLastArm k xs e) n rest f = arms_last at n k xs (settle at e (t.Sign s.CloseBrace ∷ rest)) (spell e (t.Sign s.CloseBrace ∷ rest)) rest _ (complete at e n Any (t.Sign s.CloseBrace ∷ rest) f tt refl)
  complete_arms at (GenericNextArm k xs e arms) n rest f =
      arms_next at n k xs (settle at e (t.Sign s.Semicolon ∷ spell_arms arms (t.Sign s.CloseBrace ∷ rest))) (settle_arms at arms (t.Sign s.CloseBrace ∷ rest)) (spell e (t.Sign s.Semicolon ∷ spell_arms arms (t.Sign s.CloseBrace ∷ rest))) (spell_arms arms (t.Sign s.CloseBrace ∷ rest)) (t.Sign s.CloseBrace ∷ rest) _ _
      ((complete at e n Any (t.Sign s.Semicolon ∷ spell_arms arms (t.Sign s.CloseBrace ∷ rest)) f.0 tt refl)) ((complete_arms at arms n rest f.1))
