-- How whole LoCal texts are spelled as tokens, and how tokens are read.
use Rattle.std.specs.Prelude.{ℕ, Bool, true, false, List, [], ◌∷◌, length, Option, Result, Ok, Err}
use Rattle.gib_base.specs.declared.token.Sign.TheVariants as s
use Rattle.gib_base.specs.declared.token.Token.{Token}
use Rattle.gib_base.specs.declared.token.Token.TheVariants as t
use Rattle.gib_syntax.specs.declared.tree.Ident.{Ident}
use Rattle.gib_syntax.specs.declared.tree.TypeName.{TypeName}
use Rattle.gib_syntax.specs.declared.tree.Parameter.{Parameter}
use Rattle.gib_syntax.specs.Tree.{ConstructorTree, DataTree}
use Rattle.gib_syntax.specs.Spelling.{Places}
use Rattle.gib_reads.specs.Readers.{At, Read, Reader, then_at, want, var_at, con_at, many, is_sign}
use Rattle.gib_local_parse.specs.Tree.{Mark, Line, FunctionText, MainText, LocalTree}
use Rattle.gib_local_parse.specs.Grammar.{lower, upper, type_word, spell_option, spell_line, type_at, option_at, parse}

-- ---- spelling

-- Things one after another.
abbrev pub spell_list : {A : Type 0} → (A → List Token → List Token) → List A → List Token → List Token
spell_list spell [] rest = rest
spell_list spell (x ∷ xs) rest = spell x (spell_list spell xs rest)

-- A type.
abbrev pub spell_type : TypeName → List Token → List Token
spell_type w rest = type_word w ∷ rest

-- A constructor's name.
abbrev pub spell_con : Ident → List Token → List Token
spell_con k rest = upper k ∷ rest

-- A constructor with the types of its fields.
abbrev pub spell_constructor : ConstructorTree → List Token → List Token
spell_constructor c rest = upper c.name ∷ spell_list spell_type c.fields rest

-- A further constructor, behind a bar.
abbrev pub spell_alternative : ConstructorTree → List Token → List Token
spell_alternative c rest = t.Sign s.Bar ∷ spell_constructor c rest

-- The constructors of a data declaration, with bars between them.
abbrev pub spell_constructors : List ConstructorTree → List Token → List Token
spell_constructors [] rest = rest
spell_constructors (c ∷ cs) rest = spell_constructor c (spell_list spell_alternative cs rest)

-- A data declaration.
abbrev pub spell_data : DataTree → List Token → List Token
spell_data d rest = t.Sign s.Data ∷ upper d.name ∷ t.Sign s.Equals ∷ spell_constructors d.constructors (t.Sign s.Semicolon ∷ rest)

-- The constructors whose heads store offsets, where there are some.
abbrev pub spell_offsets : List Ident → List Token → List Token
spell_offsets [] rest = rest
spell_offsets (k ∷ ks) rest = t.Sign s.Offsets ∷ upper k ∷ spell_list spell_con ks (t.Sign s.Semicolon ∷ rest)

-- A parameter with its type, in parentheses.
abbrev pub spell_parameter : Parameter → List Token → List Token
spell_parameter q rest = t.Sign s.Open ∷ lower q.name ∷ t.Sign s.Colon ∷ type_word q.ty ∷ t.Sign s.Close ∷ rest

-- A result with its place, and a body.
abbrev pub spell_body : TypeName → Option Mark → Line → List Token → List Token
spell_body w place u rest = t.Sign s.Colon ∷ type_word w ∷ spell_option place (t.Sign s.Equals ∷ spell_line u (t.Sign s.Semicolon ∷ rest))

-- A function.
abbrev pub spell_function : FunctionText → List Token → List Token
spell_function f rest = t.Sign s.Fun ∷ lower f.name ∷ spell_list spell_parameter f.parameters (spell_body f.result f.place f.body rest)

-- The main function.
abbrev pub spell_main : MainText → List Token → List Token
spell_main m rest = t.Sign s.Main ∷ spell_parameter m.parameter (spell_body m.result m.place m.body rest)

-- A whole text.
abbrev pub spell_text : LocalTree → List Token → List Token
spell_text x rest = spell_list spell_data x.datas (spell_offsets x.offsets (spell_list spell_function x.functions (spell_main x.main rest)))

-- ---- reading

-- Whether a token begins a type.
abbrev pub starts_type : Token → Bool
starts_type (t.Sign s.Int) = true
starts_type (t.Sign s.Bool) = true
starts_type (t.Constructor k) = true
starts_type x = false

-- Whether a token is a name that begins with an upper-case letter.
abbrev pub is_constructor : Token → Bool
is_constructor (t.Constructor k) = true
is_constructor x = false

-- A constructor with the types of its fields.
unfoldable pub constructor_at : Places → Reader ConstructorTree
constructor_at at ws = then_at (con_at at ws) (λ k ws. then_at (many starts_type (type_at at) ws) (λ fields ws. Ok (record { name = k; fields = fields }, ws)))

-- A further constructor.
unfoldable pub alternative_at : Places → Reader ConstructorTree
alternative_at at ws = then_at (want s.Bar ws) (λ _ ws. constructor_at at ws)

-- Constructors, with a bar between two.
unfoldable pub constructors_at : Places → Reader (List ConstructorTree)
constructors_at at ws = then_at (constructor_at at ws) (λ c ws. then_at (many (is_sign s.Bar) (alternative_at at) ws) (λ cs ws. Ok (c ∷ cs, ws)))

-- A data declaration.
unfoldable pub data_at : Places → Reader DataTree
data_at at ws =
    then_at (want s.Data ws) (λ _ ws. then_at (con_at at ws) (λ k ws. then_at (want s.Equals ws) (λ _ ws. then_at (constructors_at at ws) (λ cs ws. then_at (want s.Semicolon ws) (λ _ ws.
    Ok (record { name = k; constructors = cs }, ws))))))

-- Constructors, one at least.
unfoldable pub listed_at : Places → Reader (List Ident)
listed_at at ws = then_at (con_at at ws) (λ k ws. then_at (many is_constructor (con_at at) ws) (λ ks ws. Ok (k ∷ ks, ws)))

-- The constructors whose heads store offsets, where some are listed.
abbrev pub offsets_at : Places → Reader (List Ident)
offsets_at at (t.Sign s.Offsets ∷ ws) = then_at (listed_at at ws) (λ ks ws. then_at (want s.Semicolon ws) (λ _ ws. Ok (ks, ws)))
offsets_at at ws = Ok ([], ws)

-- A parameter in its parentheses.
unfoldable pub parameter_at : Places → Reader Parameter
parameter_at at ws =
    then_at (want s.Open ws) (λ _ ws. then_at (var_at at ws) (λ x ws. then_at (want s.Colon ws) (λ _ ws. then_at (type_at at ws) (λ w ws. then_at (want s.Close ws) (λ _ ws.
    Ok (record { name = x; ty = w }, ws))))))

-- Parameters, one at least.
unfoldable pub parameters_at : Places → Reader (List Parameter)
parameters_at at ws = then_at (parameter_at at ws) (λ q ws. then_at (many (is_sign s.Open) (parameter_at at) ws) (λ qs ws. Ok (q ∷ qs, ws)))

-- A result with its place, and a body.
pub record BodyText : Type 0 where
  pub result : TypeName
  pub place : Option Mark
  pub line : Line

-- A result with its place, and a body whose term is read so.
abbrev pub body_of : Places → Reader Line → Reader BodyText
body_of at sub ws =
    then_at (want s.Colon ws) (λ _ ws. then_at (type_at at ws) (λ w ws. then_at (option_at at ws) (λ m ws. then_at (want s.Equals ws) (λ _ ws.
    then_at (sub ws) (λ u ws. then_at (want s.Semicolon ws) (λ _ ws. Ok (record { result = w; place = m; line = u }, ws)))))))

-- Terms may be nested in 200 levels.
unfoldable pub body_at : Places → Reader BodyText
body_at at ws = body_of at (parse at 200) ws

-- A function, whose result and body are read so.
abbrev pub function_of : Places → Reader BodyText → Reader FunctionText
function_of at body ws =
    then_at (want s.Fun ws) (λ _ ws. then_at (var_at at ws) (λ f ws. then_at (parameters_at at ws) (λ qs ws. then_at (body ws) (λ b ws.
    Ok (record { name = f; parameters = qs; result = b.result; place = b.place; body = b.line }, ws)))))

-- A function.
unfoldable pub function_at : Places → Reader FunctionText
function_at at ws = function_of at (body_at at) ws

-- Main, whose result and body are read so.
abbrev pub main_of : Places → Reader BodyText → Reader MainText
main_of at body ws =
    then_at (want s.Main ws) (λ _ ws. then_at (parameter_at at ws) (λ q ws. then_at (body ws) (λ b ws.
    Ok (record { parameter = q; result = b.result; place = b.place; body = b.line }, ws))))

-- Main.
unfoldable pub main_at : Places → Reader MainText
main_at at ws = main_of at (body_at at) ws

-- A text, whose functions and main are read so, and what stands behind it.
abbrev pub text_by : Places → Reader FunctionText → Reader MainText → Reader LocalTree
text_by at function main ws =
    then_at (many (is_sign s.Data) (data_at at) ws) (λ ds ws. then_at (offsets_at at ws) (λ ks ws. then_at (many (is_sign s.Fun) function ws) (λ fs ws.
    then_at (main ws) (λ m ws. Ok (record { datas = ds; offsets = ks; functions = fs; main = m }, ws)))))

-- A text, and what stands behind it.
unfoldable pub text_at : Places → Reader LocalTree
text_at at ws = text_by at (function_at at) (main_at at) ws

-- Nothing stands behind.
abbrev pub ended : {A : Type 0} → A → Reader A
ended x [] = Ok (x, [])
ended x (w ∷ ws) = Err (At (length (w ∷ ws)))

-- A whole text.
unfoldable pub whole_text : Places → Reader LocalTree
whole_text at ws = then_at (text_at at ws) ended

-- A whole text, in so many levels.
unfoldable pub whole_in : ℕ → Places → Reader LocalTree
whole_in n at ws = then_at (text_by at (function_of at (body_of at (parse at n))) (main_of at (body_of at (parse at n))) ws) ended
