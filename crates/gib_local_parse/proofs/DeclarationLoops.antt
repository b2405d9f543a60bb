-- Declarations, as far as they were read.
use Rattle.std.proofs.Common.{◌≡◌, ◌<◌, true, false, List, [], ◌∷◌, ◌++◌, map, length, refl, sym, subst, arith}
use Rattle.std.proofs.lemmas.List.{map-append}
use Rattle.std.specs.List.{AllByRecursion}
use Rattle.gib_base.specs.declared.token.Sign.TheVariants as s
use Rattle.gib_base.specs.declared.token.Token.{Token}
use Rattle.gib_syntax.specs.declared.tree.Ident.{Ident}
use Rattle.gib_syntax.specs.declared.tree.TypeName.{TypeName}
use Rattle.gib_syntax.specs.declared.tree.Parameter.{Parameter}
use Rattle.gib_syntax.specs.declared.tree.ConstructorDecl.{ConstructorDecl}
use Rattle.gib_syntax.specs.declared.tree.DataDecl.{DataDecl}
use Rattle.gib_syntax.specs.Parts.{constructor_tree, data_tree}
use Rattle.gib_syntax.specs.Tree.{ConstructorTree, DataTree}
use Rattle.gib_syntax.specs.Spelling.{Places}
use Rattle.gib_reads.specs.declared.stop.Stop.{Stop}
use Rattle.gib_reads.specs.Readers.{Read, con_at, next_is, is_sign, many}
use Rattle.gib_reads.specs.Answers.{Fails}
use Rattle.gib_reads.proofs.Tools.{done}
use Rattle.gib_reads.proofs.SoFar.{SoFar, none_yet, one_more, one_and_more, first_one, first_fails, all_read, one_fails, shorter}
use Rattle.gib_local_parse.specs.declared.lines.LineNode.{LineNode}
use Rattle.gib_local_parse.specs.declared.text.FunctionLines.{FunctionLines}
use Rattle.gib_local_parse.specs.Tree.{FunctionText, MainText}
use Rattle.gib_local_parse.specs.Grammar.{type_at}
use Rattle.gib_local_parse.specs.Texts.{starts_type, is_constructor, constructor_at, alternative_at, constructors_at, data_at, listed_at, offsets_at, parameter_at, parameters_at, function_at, main_at, text_at}
use Rattle.gib_local_parse.specs.LineArena.{Grows, tree_of}
use Rattle.gib_local_parse.specs.TextParts.{IsFunctionIn, ReadsFunctions, function_text}
use Rattle.gib_local_parse.proofs.WholeLaws.{type_shrinks, con_shrinks, alternative_shrinks, data_shrinks, parameter_shrinks, function_shrinks}
use Rattle.gib_reads.proofs.PartsSoFar.{PartsSoFar, parts_more, seen, seen_same, within_more}
use Rattle.gib_local_parse.proofs.ArmLoops.{grows_none, grows_more}

-- ---- types

abbrev pub all_types : Places → List Token → Read (List TypeName)
all_types at tokens = many starts_type (type_at at) tokens

abbrev pub TypesSoFar : Places → List Token → List Token → List TypeName → Type 0
TypesSoFar at tokens rest xs = SoFar (all_types at tokens) starts_type (type_at at) rest (xs)

pub types_start : (at : Places) (tokens : List Token) → TypesSoFar at tokens tokens []
types_start at tokens = none_yet starts_type (type_at at) tokens

pub types_more : (at : Places) (tokens rest after : List Token) (xs : List TypeName) (x : TypeName) → TypesSoFar at tokens rest xs → next_is starts_type rest ≡ true → type_at at rest ≡ done (x) after → TypesSoFar at tokens after (xs ++ x ∷ [])
types_more at tokens rest after xs x so e r = one_more (all_types at tokens) starts_type (type_at at) (type_shrinks at) rest after (xs) (x) so e r

pub types_done : (at : Places) (tokens rest : List Token) (xs : List TypeName) → TypesSoFar at tokens rest xs → next_is starts_type rest ≡ false → all_types at tokens ≡ done (xs) rest
types_done at tokens rest xs so e = all_read (all_types at tokens) starts_type (type_at at) rest (xs) so e

pub types_fail : (at : Places) (tokens rest : List Token) (xs : List TypeName) (e : Stop) → TypesSoFar at tokens rest xs → next_is starts_type rest ≡ true → Fails e (type_at at rest) → Fails e (all_types at tokens)
types_fail at tokens rest xs e so b f = one_fails (all_types at tokens) starts_type (type_at at) (type_shrinks at) rest (xs) e so b f

pub types_shorter : (at : Places) (rest after : List Token) (x : TypeName) → type_at at rest ≡ done x after → length after < length rest
types_shorter at rest after x e = shorter (type_at at) (type_shrinks at) rest after x e

-- ---- listed

abbrev pub all_listed : Places → List Token → Read (List Ident)
all_listed at tokens = one_and_more (con_at at) is_constructor (con_at at) tokens

abbrev pub ListedSoFar : Places → List Token → List Token → List Ident → Type 0
ListedSoFar at tokens rest xs = SoFar (all_listed at tokens) is_constructor (con_at at) rest (xs)

pub listed_start : (at : Places) (tokens rest : List Token) (x : Ident) → con_at at tokens ≡ done (x) rest → ListedSoFar at tokens rest (x ∷ [])
listed_start at tokens rest x e = first_one (con_at at) is_constructor (con_at at) tokens rest (x) e

pub first_listed_one_fails : (at : Places) (tokens : List Token) (e : Stop) → Fails e (con_at at tokens) → Fails e (listed_at at tokens)
unfolding listed_at
first_listed_one_fails at tokens e f = first_fails (con_at at) is_constructor (con_at at) tokens e f

pub listed_more : (at : Places) (tokens rest after : List Token) (xs : List Ident) (x : Ident) → ListedSoFar at tokens rest xs → next_is is_constructor rest ≡ true → con_at at rest ≡ done (x) after → ListedSoFar at tokens after (xs ++ x ∷ [])
listed_more at tokens rest after xs x so e r = one_more (all_listed at tokens) is_constructor (con_at at) (con_shrinks at) rest after (xs) (x) so e r

pub listed_done : (at : Places) (tokens rest : List Token) (xs : List Ident) → ListedSoFar at tokens rest xs → next_is is_constructor rest ≡ false → listed_at at tokens ≡ done (xs) rest
unfolding listed_at
listed_done at tokens rest xs so e = all_read (all_listed at tokens) is_constructor (con_at at) rest (xs) so e

pub listed_fail : (at : Places) (tokens rest : List Token) (xs : List Ident) (e : Stop) → ListedSoFar at tokens rest xs → next_is is_constructor rest ≡ true → Fails e (con_at at rest) → Fails e (listed_at at tokens)
unfolding listed_at
listed_fail at tokens rest xs e so b f = one_fails (all_listed at tokens) is_constructor (con_at at) (con_shrinks at) rest (xs) e so b f

pub listed_shorter : (at : Places) (rest after : List Token) (x : Ident) → con_at at rest ≡ done x after → length after < length rest
listed_shorter at rest after x e = shorter (con_at at) (con_shrinks at) rest after x e

-- ---- constructors

abbrev pub all_constructors : Places → List Token → Read (List ConstructorTree)
all_constructors at tokens = one_and_more (constructor_at at) (is_sign s.Bar) (alternative_at at) tokens

abbrev pub ConstructorsSoFar : Places → List Token → List Token → List ConstructorDecl → Type 0
ConstructorsSoFar at tokens rest xs = SoFar (all_constructors at tokens) (is_sign s.Bar) (alternative_at at) rest (map constructor_tree xs)

pub constructors_start : (at : Places) (tokens rest : List Token) (x : ConstructorDecl) → constructor_at at tokens ≡ done (constructor_tree x) rest → ConstructorsSoFar at tokens rest (x ∷ [])
constructors_start at tokens rest x e = first_one (constructor_at at) (is_sign s.Bar) (alternative_at at) tokens rest (constructor_tree x) e

pub first_constructor_fails : (at : Places) (tokens : List Token) (e : Stop) → Fails e (constructor_at at tokens) → Fails e (constructors_at at tokens)
unfolding constructors_at
first_constructor_fails at tokens e f = first_fails (constructor_at at) (is_sign s.Bar) (alternative_at at) tokens e f

pub constructors_more : (at : Places) (tokens rest after : List Token) (xs : List ConstructorDecl) (x : ConstructorDecl) → ConstructorsSoFar at tokens rest xs → next_is (is_sign s.Bar) rest ≡ true → alternative_at at rest ≡ done (constructor_tree x) after → ConstructorsSoFar at tokens after (xs ++ x ∷ [])
constructors_more at tokens rest after xs x so e r = subst (λ (l : List ConstructorTree). SoFar (all_constructors at tokens) (is_sign s.Bar) (alternative_at at) after l) (sym (map-append constructor_tree xs (x ∷ []))) (one_more (all_constructors at tokens) (is_sign s.Bar) (alternative_at at) (alternative_shrinks at) rest after (map constructor_tree xs) (constructor_tree x) so e r)

pub constructors_done : (at : Places) (tokens rest : List Token) (xs : List ConstructorDecl) → ConstructorsSoFar at tokens rest xs → next_is (is_sign s.Bar) rest ≡ false → constructors_at at tokens ≡ done (map constructor_tree xs) rest
unfolding constructors_at
constructors_done at tokens rest xs so e = all_read (all_constructors at tokens) (is_sign s.Bar) (alternative_at at) rest (map constructor_tree xs) so e

pub constructors_fail : (at : Places) (tokens rest : List Token) (xs : List ConstructorDecl) (e : Stop) → ConstructorsSoFar at tokens rest xs → next_is (is_sign s.Bar) rest ≡ true → Fails e (alternative_at at rest) → Fails e (constructors_at at tokens)
unfolding constructors_at
constructors_fail at tokens rest xs e so b f = one_fails (all_constructors at tokens) (is_sign s.Bar) (alternative_at at) (alternative_shrinks at) rest (map constructor_tree xs) e so b f

pub constructors_shorter : (at : Places) (rest after : List Token) (x : ConstructorTree) → alternative_at at rest ≡ done x after → length after < length rest
constructors_shorter at rest after x e = shorter (alternative_at at) (alternative_shrinks at) rest after x e

-- ---- datas

abbrev pub all_datas : Places → List Token → Read (List DataTree)
all_datas at tokens = many (is_sign s.Data) (data_at at) tokens

abbrev pub DatasSoFar : Places → List Token → List Token → List DataDecl → Type 0
DatasSoFar at tokens rest xs = SoFar (all_datas at tokens) (is_sign s.Data) (data_at at) rest (map data_tree xs)

pub datas_start : (at : Places) (tokens : List Token) → DatasSoFar at tokens tokens []
datas_start at tokens = none_yet (is_sign s.Data) (data_at at) tokens

pub datas_more : (at : Places) (tokens rest after : List Token) (xs : List DataDecl) (x : DataDecl) → DatasSoFar at tokens rest xs → next_is (is_sign s.Data) rest ≡ true → data_at at rest ≡ done (data_tree x) after → DatasSoFar at tokens after (xs ++ x ∷ [])
datas_more at tokens rest after xs x so e r = subst (λ (l : List DataTree). SoFar (all_datas at tokens) (is_sign s.Data) (data_at at) after l) (sym (map-append data_tree xs (x ∷ []))) (one_more (all_datas at tokens) (is_sign s.Data) (data_at at) (data_shrinks at) rest after (map data_tree xs) (data_tree x) so e r)

pub datas_done : (at : Places) (tokens rest : List Token) (xs : List DataDecl) → DatasSoFar at tokens rest xs → next_is (is_sign s.Data) rest ≡ false → all_datas at tokens ≡ done (map data_tree xs) rest
datas_done at tokens rest xs so e = all_read (all_datas at tokens) (is_sign s.Data) (data_at at) rest (map data_tree xs) so e

pub datas_fail : (at : Places) (tokens rest : List Token) (xs : List DataDecl) (e : Stop) → DatasSoFar at tokens rest xs → next_is (is_sign s.Data) rest ≡ true → Fails e (data_at at rest) → Fails e (all_datas at tokens)
datas_fail at tokens rest xs e so b f = one_fails (all_datas at tokens) (is_sign s.Data) (data_at at) (data_shrinks at) rest (map data_tree xs) e so b f

pub datas_shorter : (at : Places) (rest after : List Token) (x : DataTree) → data_at at rest ≡ done x after → length after < length rest
datas_shorter at rest after x e = shorter (data_at at) (data_shrinks at) rest after x e

-- ---- parameters

abbrev pub all_parameters : Places → List Token → Read (List Parameter)
all_parameters at tokens = one_and_more (parameter_at at) (is_sign s.Open) (parameter_at at) tokens

abbrev pub ParametersSoFar : Places → List Token → List Token → List Parameter → Type 0
ParametersSoFar at tokens rest xs = SoFar (all_parameters at tokens) (is_sign s.Open) (parameter_at at) rest (xs)

pub parameters_start : (at : Places) (tokens rest : List Token) (x : Parameter) → parameter_at at tokens ≡ done (x) rest → ParametersSoFar at tokens rest (x ∷ [])
parameters_start at tokens rest x e = first_one (parameter_at at) (is_sign s.Open) (parameter_at at) tokens rest (x) e

pub first_parameter_fails : (at : Places) (tokens : List Token) (e : Stop) → Fails e (parameter_at at tokens) → Fails e (parameters_at at tokens)
unfolding parameters_at
first_parameter_fails at tokens e f = first_fails (parameter_at at) (is_sign s.Open) (parameter_at at) tokens e f

pub parameters_more : (at : Places) (tokens rest after : List Token) (xs : List Parameter) (x : Parameter) → ParametersSoFar at tokens rest xs → next_is (is_sign s.Open) rest ≡ true → parameter_at at rest ≡ done (x) after → ParametersSoFar at tokens after (xs ++ x ∷ [])
parameters_more at tokens rest after xs x so e r = one_more (all_parameters at tokens) (is_sign s.Open) (parameter_at at) (parameter_shrinks at) rest after (xs) (x) so e r

pub parameters_done : (at : Places) (tokens rest : List Token) (xs : List Parameter) → ParametersSoFar at tokens rest xs → next_is (is_sign s.Open) rest ≡ false → parameters_at at tokens ≡ done (xs) rest
unfolding parameters_at
parameters_done at tokens rest xs so e = all_read (all_parameters at tokens) (is_sign s.Open) (parameter_at at) rest (xs) so e

pub parameters_fail : (at : Places) (tokens rest : List Token) (xs : List Parameter) (e : Stop) → ParametersSoFar at tokens rest xs → next_is (is_sign s.Open) rest ≡ true → Fails e (parameter_at at rest) → Fails e (parameters_at at tokens)
unfolding parameters_at
parameters_fail at tokens rest xs e so b f = one_fails (all_parameters at tokens) (is_sign s.Open) (parameter_at at) (parameter_shrinks at) rest (xs) e so b f

pub parameters_shorter : (at : Places) (rest after : List Token) (x : Parameter) → parameter_at at rest ≡ done x after → length after < length rest
parameters_shorter at rest after x e = shorter (parameter_at at) (parameter_shrinks at) rest after x e

-- ---- functions, whose bodies stand in an arena

abbrev pub IsFunctionAt : List LineNode → FunctionLines → Type 0
IsFunctionAt a f = IsFunctionIn (length a) f

abbrev pub function_here : List LineNode → FunctionLines → FunctionText
function_here a f = function_text (tree_of a) f

pub function_stays : (old new : List LineNode) (f : FunctionLines) → Grows old new → IsFunctionAt old f → IsFunctionAt new f × (function_here new f ≡ function_here old f)
function_stays old new f g h =
    (let l = g.longer in omega (arith, l, h), (λ k. record { name = f.name; parameters = f.parameters.items; result = f.result; place = f.place; body = g.same f.body.0 h k }))

abbrev pub all_functions : Places → List Token → Read (List FunctionText)
all_functions at tokens = many (is_sign s.Fun) (function_at at) tokens

abbrev pub FunctionsSoFar : List LineNode → List LineNode → Places → List Token → List Token → List FunctionLines → Type 0
FunctionsSoFar old new at tokens rest xs = PartsSoFar grows_more IsFunctionAt function_here function_stays old new (all_functions at tokens) (is_sign s.Fun) (function_at at) rest xs

pub functions_start : (a : List LineNode) (at : Places) (tokens : List Token) → FunctionsSoFar a a at tokens tokens []
functions_start a at tokens = record { grows = grows_none a; inside = tt; read = none_yet (is_sign s.Fun) (function_at at) tokens }

pub functions_more : (old new newer : List LineNode) (at : Places) (tokens rest after : List Token) (xs : List FunctionLines) (x : FunctionLines) → FunctionsSoFar old new at tokens rest xs → next_is (is_sign s.Fun) rest ≡ true → Grows new newer → IsFunctionAt newer x → function_at at rest ≡ done (function_here newer x) after
    → FunctionsSoFar old newer at tokens after (xs ++ x ∷ [])
functions_more old new newer at tokens rest after xs x so e g i r =
    parts_more grows_more IsFunctionAt function_here function_stays old new newer (all_functions at tokens) (is_sign s.Fun) (function_at at) (function_shrinks at) rest after xs x so e g i r

pub functions_done : (old new : List LineNode) (at : Places) (tokens rest : List Token) (xs : List FunctionLines) → FunctionsSoFar old new at tokens rest xs → next_is (is_sign s.Fun) rest ≡ false → all_functions at tokens ≡ done (map (function_here new) xs) rest
functions_done old new at tokens rest xs so e = all_read (all_functions at tokens) (is_sign s.Fun) (function_at at) rest (seen grows_more IsFunctionAt function_here function_stays new xs) so.read e

pub functions_fail : (old new : List LineNode) (at : Places) (tokens rest : List Token) (xs : List FunctionLines) (e : Stop) → FunctionsSoFar old new at tokens rest xs → next_is (is_sign s.Fun) rest ≡ true → Fails e (function_at at rest) → Fails e (all_functions at tokens)
functions_fail old new at tokens rest xs e so b f = one_fails (all_functions at tokens) (is_sign s.Fun) (function_at at) (function_shrinks at) rest (seen grows_more IsFunctionAt function_here function_stays new xs) e so.read b f

pub functions_shorter : (at : Places) (rest after : List Token) (x : FunctionText) → function_at at rest ≡ done x after → length after < length rest
functions_shorter at rest after x e = shorter (function_at at) (function_shrinks at) rest after x e

pub functions_stand : (old new : List LineNode) (at : Places) (tokens rest : List Token) (xs : List FunctionLines) → FunctionsSoFar old new at tokens rest xs → ReadsFunctions old new xs
functions_stand old new at tokens rest xs so = record { grows = so.grows; inside = so.inside }

-- ---- whole texts

pub functions_stay : (old new : List LineNode) (fs : List FunctionLines) → AllByRecursion (IsFunctionIn (length old)) fs → Grows old new → map (function_text (tree_of new)) fs ≡ map (function_text (tree_of old)) fs
functions_stay old new fs h g = seen_same grows_more IsFunctionAt function_here function_stays old new fs g h

pub functions_stay_inside : (old new : List LineNode) (fs : List FunctionLines) → AllByRecursion (IsFunctionIn (length old)) fs → Grows old new → AllByRecursion (IsFunctionIn (length new)) fs
functions_stay_inside old new fs h g = within_more grows_more IsFunctionAt function_here function_stays old new fs g h

pub text_done : (at : Places) (t0 t1 t2 t3 t4 : List Token) (ds : List DataTree) (ks : List Ident) (fs : List FunctionText) (m : MainText) → many (is_sign s.Data) (data_at at) t0 ≡ done ds t1 → offsets_at at t1 ≡ done ks t2 → many (is_sign s.Fun) (function_at at) t2 ≡ done fs t3 → main_at at t3 ≡ done m t4
    → text_at at t0 ≡ done (record { datas = ds; offsets = ks; functions = fs; main = m }) t4
unfolding text_at
text_done at t0 t1 t2 t3 t4 ds ks fs m e1 e2 e3 e4 = rw (e1, e2, e3, e4) refl
