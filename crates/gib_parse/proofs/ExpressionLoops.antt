-- Arguments and arms, as far as they were read.
use Rattle.std.proofs.Common.{◌≡◌, ℕ, zero, suc, ◌-◌, ◌<◌, ◌≤◌, true, false, List, [], ◌∷◌, ◌++◌, length, map, take, drop, slice_index_or, Ok, Err, refl, sym, ap, ◌∙◌, subst, arith, length-append}
use Rattle.std.specs.List.{AllByRecursion}
use Rattle.std.proofs.lemmas.List.{take_all}
use Rattle.gib_base.specs.declared.token.Sign.{Sign}
use Rattle.gib_base.specs.declared.token.Sign.TheVariants as s
use Rattle.gib_base.specs.declared.token.Token.{Token}
use Rattle.gib_syntax.specs.declared.exprs.ExprId.{ExprId}
use Rattle.gib_syntax.specs.declared.exprs.Arm as code
use Rattle.gib_syntax.specs.declared.tree.Ident.{Ident}
use Rattle.gib_syntax.specs.GenericTree.{GenericExpression, GenericArguments, GenericArms, GenericCall, GenericCase, GenericTuple, GenericNoArgument, GenericArgument, GenericLastArm, GenericNextArm}
use Rattle.gib_syntax.specs.Spelling.{Places}
use Rattle.gib_syntax.specs.GenericArena.{Arena, Grows, ArmsBelow, tree_of, arguments_from, arms_from, nothing}
use Rattle.gib_reads.specs.declared.stop.Stop.{Stop}
use Rattle.gib_reads.specs.declared.stop.Stop.TheVariants as stop
use Rattle.gib_base.specs.declared.Span.{Span}
use Rattle.gib_parse.specs.Reading.{Parts, var_at, want, case_at, Read, Reader, Any, Atom, then_at, next_is, is_sign, starts_atom, many, parse, ArmTree, arms_of, arguments_of, arm_at, next_arm_at, arms_at, arguments_at, call, called_at, At, before, literal_at, no_level, atom_at, close_at, next_part_at, tuple_at, operation_at, operator_of}
use Rattle.gib_parse.specs.Parsing.{Fails, AllStand, IsExpressionIn, ReadsArms, arm_tree, arms_tree, call_tree}
use Rattle.gib_syntax.specs.Forms.{WrittenType, WrittenTypes, NoType, MoreTypes}
use Rattle.gib_base.specs.declared.token.Token.TheVariants as t
use Rattle.gib_parse.proofs.Complete.{argument_and_more, as_arguments}
use Rattle.gib_reads.proofs.Tools.{done, failed}
use Rattle.gib_parse.proofs.WholeLaws.{parse_shrinks, next_shrinks, next_part_shrinks}
use Rattle.gib_reads.proofs.SoFar.{one_and_more, none_yet, first_one, first_fails, all_read, one_fails, shorter}
use Rattle.gib_reads.proofs.PartsSoFar.{PartsSoFar, parts_more, seen}
use Rattle.gib_parse.proofs.PartsSoFar.{grows_none, grows_more, parts_stand}

-- ---- arguments

abbrev pub id_tree : Arena → ExprId → GenericExpression
id_tree a id = tree_of a id.0

pub id_stays : (old new : Arena) (id : ExprId) → Grows old new → IsExpressionIn old id → IsExpressionIn new id × (id_tree new id ≡ id_tree old id)
id_stays old new id g h = (let l = g.longer in omega arith, g.same id.0 h)

abbrev pub ArgumentsSoFar : Arena → Arena → Places → ℕ → List Token → List Token → List ExprId → Type 0
ArgumentsSoFar old new at level tokens rest ids =
    PartsSoFar grows_more IsExpressionIn id_tree id_stays old new (many starts_atom (parse at level Atom) tokens) starts_atom (parse at level Atom) rest ids

pub arguments_start : (a : Arena) (at : Places) (level : ℕ) (tokens : List Token) → ArgumentsSoFar a a at level tokens tokens []
arguments_start a at level tokens = record { grows = grows_none a; inside = tt; read = none_yet starts_atom (parse at level Atom) tokens }

pub arguments_more : (old new newer : Arena) (at : Places) (level : ℕ) (tokens rest after : List Token) (ids : List ExprId) (id : ExprId) → ArgumentsSoFar old new at level tokens rest ids → next_is starts_atom rest ≡ true → Grows new newer → IsExpressionIn newer id → parse at level Atom rest ≡ done (tree_of newer id.0) after → ArgumentsSoFar old newer at level tokens after (ids ++ id ∷ [])
arguments_more old new newer at level tokens rest after ids id so e g lt r =
    parts_more grows_more IsExpressionIn id_tree id_stays old new newer (many starts_atom (parse at level Atom) tokens) starts_atom (parse at level Atom) (parse_shrinks at level Atom) rest after ids id so e g lt r

abbrev trees : Arena → List ExprId → List GenericExpression
trees a ids = seen grows_more IsExpressionIn id_tree id_stays a ids

arguments_seen : (a : Arena) (ids : List ExprId) → arguments_of (trees a ids) ≡ arguments_from (tree_of a) ids
arguments_seen a [] = refl
arguments_seen a (id ∷ ids) = ap (GenericArgument (tree_of a id.0)) (arguments_seen a ids)

pub arguments_done : (old new : Arena) (at : Places) (level : ℕ) (tokens rest : List Token) (ids : List ExprId) → ArgumentsSoFar old new at level tokens rest ids → next_is starts_atom rest ≡ false → arguments_at (parse at level Atom) tokens ≡ done (arguments_from (tree_of new) ids) rest
unfolding arguments_at
arguments_done old new at level tokens rest ids so e =
    ap as_arguments (all_read (many starts_atom (parse at level Atom) tokens) starts_atom (parse at level Atom) rest (trees new ids) so.read e)
    ∙ ap (λ (xs : GenericArguments). done xs rest) (arguments_seen new ids)

as_fails : (r : Read (List GenericExpression)) (e : Stop) → Fails e r → Fails e (as_arguments r)
as_fails r stop.Memory f = tt
as_fails r (stop.At k) f = ap as_arguments f
as_fails r (stop.Nested k) f = ap as_arguments f

pub arguments_fail : (old new : Arena) (at : Places) (level : ℕ) (tokens rest : List Token) (ids : List ExprId) (e : Stop) → ArgumentsSoFar old new at level tokens rest ids → next_is starts_atom rest ≡ true → Fails e (parse at level Atom rest) → Fails e (arguments_at (parse at level Atom) tokens)
unfolding arguments_at
arguments_fail old new at level tokens rest ids e so b f =
    as_fails (many starts_atom (parse at level Atom) tokens) e
    (one_fails (many starts_atom (parse at level Atom) tokens) starts_atom (parse at level Atom) (parse_shrinks at level Atom) rest (trees new ids) e so.read b f)

pub arguments_shorter : (at : Places) (level : ℕ) (rest after : List Token) (a : GenericExpression) → parse at level Atom rest ≡ done a after → length after < length rest
arguments_shorter at level rest after a e = shorter (parse at level Atom) (parse_shrinks at level Atom) rest after a e

-- ---- further parts of a tuple

abbrev pub all_further : Places → ℕ → List Token → Read (List GenericExpression)
all_further at level tokens = many (is_sign s.Comma) (next_part_at (parse at level Any)) tokens

abbrev pub FurtherSoFar : Arena → Arena → Places → ℕ → List Token → List Token → List ExprId → Type 0
FurtherSoFar old new at level tokens rest ids = PartsSoFar grows_more IsExpressionIn id_tree id_stays old new (all_further at level tokens) (is_sign s.Comma) (next_part_at (parse at level Any)) rest ids

pub further_start : (a : Arena) (at : Places) (level : ℕ) (tokens : List Token) → FurtherSoFar a a at level tokens tokens []
further_start a at level tokens = record { grows = grows_none a; inside = tt; read = none_yet (is_sign s.Comma) (next_part_at (parse at level Any)) tokens }

pub further_more : (old new newer : Arena) (at : Places) (level : ℕ) (tokens rest after : List Token) (ids : List ExprId) (id : ExprId) → FurtherSoFar old new at level tokens rest ids → next_is (is_sign s.Comma) rest ≡ true → Grows new newer → IsExpressionIn newer id → next_part_at (parse at level Any) rest ≡ done (tree_of newer id.0) after → FurtherSoFar old newer at level tokens after (ids ++ id ∷ [])
further_more old new newer at level tokens rest after ids id so e g lt r =
    parts_more grows_more IsExpressionIn id_tree id_stays old new newer (all_further at level tokens) (is_sign s.Comma) (next_part_at (parse at level Any)) (next_part_shrinks at level) rest after ids id so e g lt r

pub further_done : (old new : Arena) (at : Places) (level : ℕ) (tokens rest : List Token) (ids : List ExprId) → FurtherSoFar old new at level tokens rest ids → next_is (is_sign s.Comma) rest ≡ false → all_further at level tokens ≡ done (map (id_tree new) ids) rest
further_done old new at level tokens rest ids so e = all_read (all_further at level tokens) (is_sign s.Comma) (next_part_at (parse at level Any)) rest (trees new ids) so.read e

pub further_fail : (old new : Arena) (at : Places) (level : ℕ) (tokens rest : List Token) (ids : List ExprId) (e : Stop) → FurtherSoFar old new at level tokens rest ids → next_is (is_sign s.Comma) rest ≡ true → Fails e (next_part_at (parse at level Any) rest) → Fails e (all_further at level tokens)
further_fail old new at level tokens rest ids e so b f = one_fails (all_further at level tokens) (is_sign s.Comma) (next_part_at (parse at level Any)) (next_part_shrinks at level) rest (trees new ids) e so.read b f

pub further_shorter : (at : Places) (level : ℕ) (rest after : List Token) (a : GenericExpression) → next_part_at (parse at level Any) rest ≡ done a after → length after < length rest
further_shorter at level rest after a e = shorter (next_part_at (parse at level Any)) (next_part_shrinks at level) rest after a e

pub further_stand : (old new : Arena) (at : Places) (level : ℕ) (tokens rest : List Token) (ids : List ExprId) → FurtherSoFar old new at level tokens rest ids → AllStand IsExpressionIn old new ids
further_stand old new at level tokens rest ids so = parts_stand IsExpressionIn id_tree id_stays old new (all_further at level tokens) (is_sign s.Comma) (next_part_at (parse at level Any)) rest ids so

-- A tuple is read: its first part stands since before.
pub tuple_done : (old mid new newest : Arena) (at : Places) (level : ℕ) (p : Span) (t0 t1 t2 t3 : List Token) (first second : ExprId) (further all : List ExprId) (id : ExprId) → next_part_at (parse at level Any) t0 ≡ done (tree_of mid second.0) t1 → all_further at level t1 ≡ done (map (id_tree new) further) t2
    → want s.Close t2 ≡ done (tt {0}) t3 → IsExpressionIn old first → IsExpressionIn mid second → Grows old mid → Grows mid new → all ≡ first ∷ second ∷ further → tree_of newest id.0 ≡ GenericTuple p (arguments_from (tree_of new) all)
    → tuple_at (parse at level) p (tree_of old first.0) t0 ≡ done (tree_of newest id.0) t3
unfolding tuple_at
tuple_done old mid new newest at level p t0 t1 t2 t3 first second further all id e1 e2 e3 h1 h2 g k made tree =
    let read1 : next_part_at (parse at level Any) t0 ≡ done (tree_of new second.0) t1 = e1 ∙ ap (λ (x : GenericExpression). done x t1) (sym (id_stays mid new second k h2).1) in
    let same : tree_of old first.0 ≡ tree_of new first.0 = sym (id_stays old new first (grows_more old mid new g k) h1).1 in
    let read : tuple_at (parse at level) p (tree_of old first.0) t0 ≡ done (GenericTuple p (arguments_of (tree_of old first.0 ∷ tree_of new second.0 ∷ trees new further))) t3 = rw (read1, e2, e3) refl in
    let parts : arguments_of (tree_of old first.0 ∷ tree_of new second.0 ∷ trees new further) ≡ arguments_from (tree_of new) all =
    ap (λ (e : GenericExpression). GenericArgument e (arguments_of (tree_of new second.0 ∷ trees new further))) same ∙ arguments_seen new (first ∷ second ∷ further) ∙ ap (arguments_from (tree_of new)) (sym made) in
    read ∙ ap (λ (xs : GenericArguments). done (GenericTuple p xs) t3) parts ∙ ap (λ (e : GenericExpression). done e t3) (sym tree)

pub tuple_below : (old mid new : Arena) (first second : ExprId) (further all : List ExprId) → IsExpressionIn old first → IsExpressionIn mid second → AllByRecursion (IsExpressionIn new) further → Grows old mid → Grows mid new → all ≡ first ∷ second ∷ further → AllByRecursion (IsExpressionIn new) all
tuple_below old mid new first second further all h1 h2 h g k made =
    subst (λ (l : List ExprId). AllByRecursion (IsExpressionIn new) l) (sym made) ((id_stays old new first (grows_more old mid new g k) h1).0, ((id_stays mid new second k h2).0, h))

-- ---- arms

abbrev pub IsArmIn : Arena → code.Arm → Type 0
IsArmIn a arm = arm.body.0 < length a.nodes

abbrev pub arm_in : Arena → code.Arm → ArmTree
arm_in a arm = arm_tree (tree_of a) arm

pub arm_stays : (old new : Arena) (arm : code.Arm) → Grows old new → IsArmIn old arm → IsArmIn new arm × (arm_in new arm ≡ arm_in old arm)
arm_stays old new arm g h =
    (let l = g.longer in omega arith, ap (λ (e : GenericExpression). let made : ArmTree = record { constructor = arm.constructor; variables = arm.variables.items; body = e } in made) (g.same arm.body.0 h))

abbrev pub all_arms : Places → ℕ → List Token → Read (List ArmTree)
all_arms at level tokens = one_and_more (arm_at at (parse at level Any)) (is_sign s.Semicolon) (next_arm_at at (parse at level Any)) tokens

pub record ArmsSoFar (old new : Arena) (at : Places) (level : ℕ) (tokens rest : List Token) (arms : List code.Arm) : Type 0 where
  pub some : 0 < length arms
  pub parts : PartsSoFar grows_more IsArmIn arm_in arm_stays old new (all_arms at level tokens) (is_sign s.Semicolon) (next_arm_at at (parse at level Any)) rest arms

pub arms_start : (old new : Arena) (at : Places) (level : ℕ) (tokens rest : List Token) (arm : code.Arm) → Grows old new → IsArmIn new arm → arm_at at (parse at level Any) tokens ≡ done (arm_tree (tree_of new) arm) rest → ArmsSoFar old new at level tokens rest (arm ∷ [])
arms_start old new at level tokens rest arm g lt e = record {
  some = omega arith;
  parts = record {
    grows = g;
    inside = (lt, tt);
    read = first_one (arm_at at (parse at level Any)) (is_sign s.Semicolon) (next_arm_at at (parse at level Any)) tokens rest (arm_tree (tree_of new) arm) e;
  };
}

pub arms_more : (old new newer : Arena) (at : Places) (level : ℕ) (tokens rest after : List Token) (arms : List code.Arm) (arm : code.Arm) → ArmsSoFar old new at level tokens rest arms → next_is (is_sign s.Semicolon) rest ≡ true → Grows new newer → IsArmIn newer arm → next_arm_at at (parse at level Any) rest ≡ done (arm_tree (tree_of newer) arm) after → ArmsSoFar old newer at level tokens after (arms ++ arm ∷ [])
arms_more old new newer at level tokens rest after arms arm so e g lt r = record {
  some = (let l = length-append arms (arm ∷ []) in omega arith);
  parts = parts_more grows_more IsArmIn arm_in arm_stays old new newer (all_arms at level tokens) (is_sign s.Semicolon) (next_arm_at at (parse at level Any)) (next_shrinks at level) rest after arms arm so.parts e g lt r;
}

abbrev arm_trees : Arena → List code.Arm → List ArmTree
arm_trees a arms = seen grows_more IsArmIn arm_in arm_stays a arms

arms_seen : (a : Arena) (arm : code.Arm) (arms : List code.Arm) → arms_of (arm_in a arm) (arm_trees a arms) ≡ arms_from (tree_of a) arm arms
arms_seen a arm [] = refl
arms_seen a arm (next ∷ arms) = ap (GenericNextArm arm.constructor arm.variables.items (tree_of a arm.body.0)) (arms_seen a next arms)

abbrev arms_of_all : List ArmTree → GenericArms
arms_of_all [] = GenericLastArm (record { name = record { 0 = 0 }; span = record { start = 0; end = 0 } }) [] nothing
arms_of_all (arm ∷ arms) = arms_of arm arms

all_seen : (a : Arena) (arms : List code.Arm) → arms_of_all (arm_trees a arms) ≡ arms_tree (tree_of a) arms
all_seen a [] = refl
all_seen a (arm ∷ arms) = arms_seen a arm arms

abbrev as_arms : Read (List ArmTree) → Read GenericArms
as_arms r = then_at r (λ arms ts. Ok (arms_of_all arms, ts))

more_arms : (arm : ArmTree) (r : Read (List ArmTree)) → then_at r (λ arms ts. Ok (arms_of arm arms, ts)) ≡ as_arms (then_at r (λ arms ts. Ok (arm ∷ arms, ts)))
more_arms arm (Ok x) = refl
more_arms arm (Err f) = refl

arms_split : (r : Read ArmTree) (m : Reader (List ArmTree)) → then_at r (λ arm ts. then_at (m ts) (λ arms ts. Ok (arms_of arm arms, ts))) ≡ as_arms (then_at r (λ arm ts. then_at (m ts) (λ arms ts. Ok (arm ∷ arms, ts))))
arms_split (Ok x) m = more_arms x.0 (m x.1)
arms_split (Err f) m = refl

arms_are : (at : Places) (level : ℕ) (tokens : List Token) → arms_at at (parse at level Any) tokens ≡ as_arms (all_arms at level tokens)
unfolding arms_at
arms_are at level tokens = arms_split (arm_at at (parse at level Any) tokens) (many (is_sign s.Semicolon) (next_arm_at at (parse at level Any)))

pub arms_done : (old new : Arena) (at : Places) (level : ℕ) (tokens rest : List Token) (arms : List code.Arm) → ArmsSoFar old new at level tokens rest arms → next_is (is_sign s.Semicolon) rest ≡ false → arms_at at (parse at level Any) tokens ≡ done (arms_tree (tree_of new) arms) rest
arms_done old new at level tokens rest arms so e =
    arms_are at level tokens
    ∙ ap as_arms (all_read (all_arms at level tokens) (is_sign s.Semicolon) (next_arm_at at (parse at level Any)) rest (arm_trees new arms) so.parts.read e)
    ∙ ap (λ (xs : GenericArms). done xs rest) (all_seen new arms)

as_arms_fails : (r : Read (List ArmTree)) (e : Stop) → Fails e r → Fails e (as_arms r)
as_arms_fails r stop.Memory f = tt
as_arms_fails r (stop.At k) f = ap as_arms f
as_arms_fails r (stop.Nested k) f = ap as_arms f

all_arms_fail : (at : Places) (level : ℕ) (tokens : List Token) (e : Stop) → Fails e (all_arms at level tokens) → Fails e (arms_at at (parse at level Any) tokens)
all_arms_fail at level tokens e f = subst (λ (r : Read GenericArms). Fails e r) (sym (arms_are at level tokens)) (as_arms_fails (all_arms at level tokens) e f)

pub first_arm_fails : (at : Places) (level : ℕ) (tokens : List Token) (e : Stop) → Fails e (arm_at at (parse at level Any) tokens) → Fails e (arms_at at (parse at level Any) tokens)
first_arm_fails at level tokens e f = all_arms_fail at level tokens e (first_fails (arm_at at (parse at level Any)) (is_sign s.Semicolon) (next_arm_at at (parse at level Any)) tokens e f)

pub arms_fail : (old new : Arena) (at : Places) (level : ℕ) (tokens rest : List Token) (arms : List code.Arm) (e : Stop) → ArmsSoFar old new at level tokens rest arms → next_is (is_sign s.Semicolon) rest ≡ true → Fails e (next_arm_at at (parse at level Any) rest) → Fails e (arms_at at (parse at level Any) tokens)
arms_fail old new at level tokens rest arms e so b f =
    all_arms_fail at level tokens e (one_fails (all_arms at level tokens) (is_sign s.Semicolon) (next_arm_at at (parse at level Any)) (next_shrinks at level) rest (arm_trees new arms) e so.parts.read b f)

pub arms_shorter : (at : Places) (level : ℕ) (rest after : List Token) (arm : ArmTree) → next_arm_at at (parse at level Any) rest ≡ done arm after → length after < length rest
arms_shorter at level rest after arm e = shorter (next_arm_at at (parse at level Any)) (next_shrinks at level) rest after arm e

within_arms : (n : ℕ) (arms : List code.Arm) → 0 < length arms → AllByRecursion (λ (arm : code.Arm). arm.body.0 < n) arms → ArmsBelow arms n
within_arms n [] lt h = absurd (omega arith)
within_arms n (arm ∷ arms) lt h = (h.0, h.1)

pub arms_inside : (old new : Arena) (at : Places) (level : ℕ) (tokens rest : List Token) (arms : List code.Arm) → ArmsSoFar old new at level tokens rest arms → ReadsArms old new arms
arms_inside old new at level tokens rest arms so = record { grows = so.parts.grows; inside = within_arms (length new.nodes) arms so.some so.parts.inside }

-- A case of arms that stand inside.
pub case_is : (f : ℕ → GenericExpression) (arms : List code.Arm) (n : ℕ) (make : GenericArms → GenericExpression) → ArmsBelow arms n → Rattle.gib_syntax.specs.GenericArena.case_from f arms make ≡ make (arms_tree f arms)
case_is f [] n make h = absurd h
case_is f (arm ∷ arms) n make h = refl

-- With an argument at least it is a call.
pub call_is : (f : ℕ → GenericExpression) (x : Ident) (ws : WrittenTypes) (ids : List ExprId) → (length ids ≡ 0 → ⊥) → GenericCall x ws (arguments_from f ids) ≡ call_tree x ws (arguments_from f ids)
call_is f x ws [] ne = absurd (ne refl)
call_is f x ws (id ∷ ids) ne = refl

abbrev pub called_with : Ident → WrittenTypes → Read GenericArguments → Read GenericExpression
called_with x ws r = then_at r (λ xs ts. Ok (call_tree x ws xs, ts))

-- A variable with its type arguments, where an argument begins if there are some.
called_lone : (at : Places) (level : ℕ) (x : Ident) (r : Read GenericArguments) → then_at r (λ xs ts. Ok (call x xs, ts)) ≡ called_with x NoType r
called_lone at level x (Ok y) = ap (λ (e : GenericExpression). done e y.1) (lone x y.0) where
  lone : (x : Ident) (xs : GenericArguments) → call x xs ≡ call_tree x NoType xs
  lone x GenericNoArgument = refl
  lone x (GenericArgument a xs) = refl
called_lone at level x (Err f) = refl

called_rest : (x : Ident) (w : WrittenType) (ws : WrittenTypes) (a : GenericExpression) (r : Read GenericArguments) → then_at r (λ xs ts. Ok (GenericCall x (MoreTypes w ws) (GenericArgument a xs), ts)) ≡ called_with x (MoreTypes w ws) (then_at r (λ xs ts. Ok (GenericArgument a xs, ts)))
called_rest x w ws a (Ok y) = refl
called_rest x w ws a (Err f) = refl

called_first : (x : Ident) (w : WrittenType) (ws : WrittenTypes) (r : Read GenericExpression) (q : Reader GenericArguments)
    → then_at r (λ a ts. then_at (q ts) (λ xs ts. Ok (GenericCall x (MoreTypes w ws) (GenericArgument a xs), ts))) ≡ called_with x (MoreTypes w ws) (then_at r (λ a ts. then_at (q ts) (λ xs ts. Ok (GenericArgument a xs, ts))))
called_first x w ws (Ok y) q = called_rest x w ws y.0 (q y.1)
called_first x w ws (Err f) q = refl

-- No argument is due, or one begins.
abbrev pub MayCall : WrittenTypes → List Token → Type 0
MayCall NoType ts = Unit {0}
MayCall (MoreTypes w ws) ts = next_is starts_atom ts ≡ true

pub called_is : (at : Places) (level : ℕ) (x : Ident) (ws : WrittenTypes) (ts : List Token) → MayCall ws ts → called_at (parse at level) x ws ts ≡ called_with x ws (arguments_at (parse at level Atom) ts)
unfolding called_at
called_is at level x NoType ts m = called_lone at level x (arguments_at (parse at level Atom) ts)
called_is at level x (MoreTypes w ws) ts m =
    called_first x w ws (parse at level Atom ts) (arguments_at (parse at level Atom)) ∙ sym (ap (called_with x (MoreTypes w ws)) (argument_and_more (parse at level Atom) (parse_shrinks at level Atom) ts m))

-- No argument begins where one is due.
atom_needs : (at : Places) (level : ℕ) (c : Token) (ts : List Token) → starts_atom c ≡ false → atom_at at (parse at level) (c ∷ ts) ≡ failed (At (suc (length ts)))
atom_needs at level (t.Variable x) ts e = absurd cc
atom_needs at level (t.Constructor x) ts e = absurd cc
atom_needs at level (t.Number v) ts e = ap (λ b. literal_at b (before at ts) v ts) e
atom_needs at level (t.Sign s.True) ts e = absurd cc
atom_needs at level (t.Sign s.False) ts e = absurd cc
atom_needs at level (t.Sign s.Open) ts e = absurd cc
atom_needs at level (t.Sign g) ts e = refl

argument_needs : (at : Places) (level : ℕ) (ts : List Token) → next_is starts_atom ts ≡ false → parse at level Atom ts ≡ failed (At (length ts))
unfolding parse
argument_needs at zero ts e = ap (λ v. no_level v ts) e
argument_needs at (suc level) [] e = refl
argument_needs at (suc level) (c ∷ ts) e = atom_needs at level c ts e

pub called_needs : (at : Places) (level : ℕ) (x : Ident) (w : WrittenType) (ws : WrittenTypes) (ts : List Token) → next_is starts_atom ts ≡ false → called_at (parse at level) x (MoreTypes w ws) ts ≡ failed (At (length ts))
unfolding called_at
called_needs at level x w ws ts e = ap (λ (r : Read GenericExpression). then_at r (λ a ts. then_at (arguments_at (parse at level Atom) ts) (λ xs ts. Ok (GenericCall x (MoreTypes w ws) (GenericArgument a xs), ts)))) (argument_needs at level ts e)

pub case_done : (at : Places) (sub : Parts) (p : Span) (t0 t1 t2 t3 t4 t5 : List Token) (x : Ident) (arms : GenericArms) → var_at at t0 ≡ done x t1 → want s.Of t1 ≡ done (tt {0}) t2 → want s.OpenBrace t2 ≡ done (tt {0}) t3 → arms_at at (sub Any) t3 ≡ done arms t4 → want s.CloseBrace t4 ≡ done (tt {0}) t5 → case_at at sub p t0 ≡ done (GenericCase p x arms) t5
unfolding case_at
case_done at sub p t0 t1 t2 t3 t4 t5 x arms e1 e2 e3 e4 e5 = rw (e1, e2, e3, e4, e5) refl

-- Another sign than a closing parenthesis is an operator's, or is refused.
close_other : (sub : Parts) (p : Span) (e : GenericExpression) (a : Sign) (ts : List Token) → (a ≡ s.Close → ⊥) → close_at sub p e (t.Sign a ∷ ts) ≡ operation_at (operator_of a) sub p e ts
close_other sub p e s.Close ts ne = absurd (ne refl)
close_other sub p e a ts ne = refl

pub close_behind : (sub : Parts) (p : Span) (e : GenericExpression) (ts : List Token) (d : Token) (a : Sign) → 1 ≤ length ts → slice_index_or ts 0 d ≡ t.Sign a → (a ≡ s.Close → ⊥) → close_at sub p e ts ≡ operation_at (operator_of a) sub p e (take (length ts - 1) (drop 1 ts))
close_behind sub p e [] d a le h ne = absurd (omega (arith, le))
close_behind sub p e (x ∷ ts) d a le h ne =
    ap (λ (y : Token). close_at sub p e (y ∷ ts)) h ∙ close_other sub p e a ts ne
    ∙ ap (operation_at (operator_of a) sub p e) (sym (take_all (length (x ∷ ts) - 1) ts (omega arith)))
