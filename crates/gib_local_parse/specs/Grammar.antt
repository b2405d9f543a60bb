-- How the terms of LoCal text are spelled as tokens, and how tokens are read.
use Rattle.std.specs.Prelude.{ℕ, zero, suc, ◌^◌, nat_lt, Bool, true, false, if◌then◌else◌, List, [], ◌∷◌, length, Option, Some, None, Result, Ok, Err}
use Rattle.gib_base.specs.declared.name.Name.{Name}
use Rattle.gib_base.specs.declared.Span.{Span}
use Rattle.gib_base.specs.declared.token.Sign.{Sign}
use Rattle.gib_base.specs.declared.token.Sign.TheVariants as s
use Rattle.gib_base.specs.declared.token.Token.{Token}
use Rattle.gib_base.specs.declared.token.Token.TheVariants as t
use Rattle.gib_syntax.specs.declared.tree.Ident.{Ident}
use Rattle.gib_syntax.specs.declared.tree.TypeName.{TypeName}
use Rattle.gib_syntax.specs.declared.tree.TypeName.TheVariants as ty
use Rattle.gib_types.specs.declared.operator.Operator.{Operator}
use Rattle.gib_syntax.specs.Spelling.{Places, sign_of}
use Rattle.gib_reads.specs.Readers.{At, Nested, Read, Reader, then_at, want, before, named, var_at, con_at, next_is, many, is_variable, is_sign, operator_of}
use Rattle.gib_local_parse.specs.Tree.{Mark, Operand, Named, Number, Bit, Location, Start, Plus, After, Way, ByOffset, BySkip, ByEnd, Line, In, Given, Pointed, Called, Made, Cased, Chosen, Binding, NewRegion, NewPlace, LetIn, ParIn, PrimIn, ReachIn, Bound, Be, Arms, LastArm, NextArm}

-- A sign of the language.
abbrev pub sign : Sign → Token
sign a = t.Sign a

-- A name that begins with a lower-case letter.
abbrev pub lower : Ident → Token
lower x = t.Variable x.name

-- A name that begins with an upper-case letter.
abbrev pub upper : Ident → Token
upper k = t.Constructor k.name

-- ---- spelling

-- An `@` with its name.
abbrev pub spell_mark : Mark → List Token → List Token
spell_mark m rest = t.Sign s.At ∷ lower m.name ∷ rest

-- An `@` with its name, where there is one.
abbrev pub spell_option : Option Mark → List Token → List Token
spell_option None rest = rest
spell_option (Some m) rest = spell_mark m rest

-- The word of a truth value.
abbrev pub bit_word : Bool → Token
bit_word true = sign s.True
bit_word false = sign s.False

-- The word of an operand.
abbrev pub operand_word : Operand → Token
operand_word (Named x) = lower x
operand_word (Number p n) = t.Number n
operand_word (Bit p b) = bit_word b

-- Operands, one behind another.
abbrev pub spell_operands : List Operand → List Token → List Token
spell_operands [] rest = rest
spell_operands (x ∷ xs) rest = operand_word x ∷ spell_operands xs rest

-- Names, one behind another.
abbrev pub spell_names : List Ident → List Token → List Token
spell_names [] rest = rest
spell_names (x ∷ xs) rest = lower x ∷ spell_names xs rest

-- The word of a type.
abbrev pub type_word : TypeName → Token
type_word (ty.Whole p) = sign s.Int
type_word (ty.Truth p) = sign s.Bool
type_word (ty.Declared x) = upper x

-- The sign of an operator.
abbrev pub operator_word : Operator → Token
operator_word f = sign (sign_of f)

-- The start of a region, behind the head of a constructor, or behind a variable.
abbrev pub spell_location : Location → List Token → List Token
spell_location (Start r) rest = t.Sign s.Start ∷ lower r ∷ rest
spell_location (Plus d k) rest = lower d ∷ sign s.Plus ∷ upper k ∷ rest
spell_location (After x) rest = t.Sign s.After ∷ lower x ∷ rest

-- How a field is reached.
abbrev pub spell_way : Way → List Token → List Token
spell_way ByOffset rest = t.Sign s.Offset ∷ rest
spell_way (BySkip z) rest = t.Sign s.Skip ∷ lower z ∷ rest
spell_way (ByEnd z) rest = t.Sign s.End ∷ lower z ∷ rest

-- The name of the place between two sides, where it has one.
abbrev pub spell_between : Option (Ident × Ident) → List Token → List Token
spell_between None rest = rest
spell_between (Some (l, x)) rest = t.Sign s.LetLocation ∷ lower l ∷ sign s.Equals ∷ t.Sign s.After ∷ lower x ∷ sign s.In ∷ rest

abbrev mutual
  pub spell_line : Line → List Token → List Token
  spell_line (In p b u) rest = spell_binding b (sign s.In ∷ spell_line u rest)
  spell_line (Given p x) rest = t.Sign s.Give ∷ operand_word x ∷ rest
  spell_line (Pointed p x at) rest = t.Sign s.Point ∷ lower x ∷ spell_mark at rest
  spell_line (Called f xs at) rest = lower f ∷ spell_operands xs (spell_option at rest)
  spell_line (Made k at xs) rest = upper k ∷ spell_mark at (spell_operands xs rest)
  spell_line (Cased p x arms) rest = sign s.Case ∷ lower x ∷ sign s.Of ∷ sign s.OpenBrace ∷ spell_arms arms (sign s.CloseBrace ∷ rest)
  spell_line (Chosen p x u v) rest = sign s.If ∷ operand_word x ∷ sign s.Then ∷ spell_line u (sign s.Else ∷ spell_line v rest)

  pub spell_binding : Binding → List Token → List Token
  spell_binding (NewRegion r) rest = t.Sign s.LetRegion ∷ lower r ∷ rest
  spell_binding (NewPlace l q) rest = t.Sign s.LetLocation ∷ lower l ∷ sign s.Equals ∷ spell_location q rest
  spell_binding (LetIn b) rest = sign s.Let ∷ spell_bound b rest
  spell_binding (ParIn l m r) rest = sign s.Let ∷ sign s.Par ∷ spell_bound l (sign s.And ∷ spell_between m (spell_bound r rest))
  spell_binding (PrimIn x w y f z) rest = sign s.Let ∷ lower x ∷ sign s.Colon ∷ type_word w ∷ sign s.Equals ∷ sign s.Open ∷ operand_word y ∷ operator_word f ∷ operand_word z ∷ sign s.Close ∷ rest
  spell_binding (ReachIn y way) rest = t.Sign s.Reach ∷ lower y ∷ t.Sign s.By ∷ spell_way way rest

  pub spell_bound : Bound → List Token → List Token
  spell_bound (Be x w at u) rest = lower x ∷ sign s.Colon ∷ type_word w ∷ spell_option at (sign s.Equals ∷ spell_line u rest)

  pub spell_arms : Arms → List Token → List Token
  spell_arms (LastArm k xs u) rest = upper k ∷ spell_names xs (sign s.Arrow ∷ spell_line u rest)
  spell_arms (NextArm k xs u arms) rest = upper k ∷ spell_names xs (sign s.Arrow ∷ spell_line u (sign s.Semicolon ∷ spell_arms arms rest))

-- ---- reading

-- A type: of a declared one the name.
abbrev pub type_at : Places → Reader TypeName
type_at at (t.Sign s.Int ∷ ws) = Ok (ty.Whole (before at ws), ws)
type_at at (t.Sign s.Bool ∷ ws) = Ok (ty.Truth (before at ws), ws)
type_at at (t.Constructor k ∷ ws) = Ok (ty.Declared (named at k ws), ws)
type_at at ws = Err (At (length ws))

-- Whether a number is one of the language.
abbrev pub literal_at : Bool → Span → ℕ → Reader Operand
literal_at true p n ws = Ok (Number p n, ws)
literal_at false p n ws = Err (At (suc (length ws)))

-- A name, a number or a truth value.
abbrev pub operand_at : Places → Reader Operand
operand_at at (t.Variable x ∷ ws) = Ok (Named (named at x ws), ws)
operand_at at (t.Number n ∷ ws) = literal_at (nat_lt n (2 ^ 63)) (before at ws) n ws
operand_at at (t.Sign s.True ∷ ws) = Ok (Bit (before at ws) true, ws)
operand_at at (t.Sign s.False ∷ ws) = Ok (Bit (before at ws) false, ws)
operand_at at ws = Err (At (length ws))

-- Whether a token begins an operand.
abbrev pub starts_operand : Token → Bool
starts_operand (t.Variable x) = true
starts_operand (t.Number n) = true
starts_operand (t.Sign s.True) = true
starts_operand (t.Sign s.False) = true
starts_operand x = false

-- Operands, as long as one begins.
abbrev pub operands_at : Places → Reader (List Operand)
operands_at at ws = many starts_operand (operand_at at) ws

-- Names, as long as one begins.
abbrev pub names_at : Places → Reader (List Ident)
names_at at ws = many is_variable (var_at at) ws

-- Behind an `@`, whose span this is.
abbrev pub mark_from : Places → Span → Reader Mark
mark_from at p ws = then_at (var_at at ws) (λ x ws. Ok (record { sign = p; name = x }, ws))

-- An `@` with its name.
abbrev pub mark_at : Places → Reader Mark
mark_at at (t.Sign s.At ∷ ws) = mark_from at (before at ws) ws
mark_at at ws = Err (At (length ws))

-- An `@` with its name, where one begins.
abbrev pub option_at : Places → Reader (Option Mark)
option_at at (t.Sign s.At ∷ ws) = then_at (mark_from at (before at ws) ws) (λ m ws. Ok (Some m, ws))
option_at at ws = Ok (None, ws)

-- Behind a constructor's head at a location.
abbrev pub head_at : Places → Reader Location
head_at at ws = then_at (var_at at ws) (λ d ws. then_at (want s.Plus ws) (λ _ ws. then_at (con_at at ws) (λ k ws. Ok (Plus d k, ws))))

-- A location by its first word.
abbrev pub location_at : Places → Reader Location
location_at at (t.Sign s.Start ∷ ws) = then_at (var_at at ws) (λ r ws. Ok (Start r, ws))
location_at at (t.Sign s.After ∷ ws) = then_at (var_at at ws) (λ x ws. Ok (After x, ws))
location_at at ws = head_at at ws

-- How a field is reached.
abbrev pub way_at : Places → Reader Way
way_at at (t.Sign s.Offset ∷ ws) = Ok (ByOffset, ws)
way_at at (t.Sign s.Skip ∷ ws) = then_at (var_at at ws) (λ z ws. Ok (BySkip z, ws))
way_at at (t.Sign s.End ∷ ws) = then_at (var_at at ws) (λ z ws. Ok (ByEnd z, ws))
way_at at ws = Err (At (length ws))

-- An operator was found.
abbrev pub operator_found : Option Operator → Reader Operator
operator_found (Some f) ws = Ok (f, ws)
operator_found None ws = Err (At (suc (length ws)))

-- The sign of an operator.
abbrev pub operator_at : Reader Operator
operator_at (t.Sign a ∷ ws) = operator_found (operator_of a) ws
operator_at ws = Err (At (length ws))

-- Behind `letloc` between two sides.
abbrev pub place_between_at : Places → Reader (Ident × Ident)
place_between_at at ws =
    then_at (var_at at ws) (λ l ws. then_at (want s.Equals ws) (λ _ ws. then_at (want s.After ws) (λ _ ws. then_at (var_at at ws) (λ x ws. then_at (want s.In ws) (λ _ ws. Ok ((l, x), ws))))))

-- A place's name between two sides, where one begins.
abbrev pub between_at : Places → Reader (Option (Ident × Ident))
between_at at (t.Sign s.LetLocation ∷ ws) = then_at (place_between_at at ws) (λ names ws. Ok (Some names, ws))
between_at at ws = Ok (None, ws)

-- Behind the colon of a side: its type, its place, and its term.
abbrev pub bound_from : Places → Reader Line → Ident → TypeName → Reader Bound
bound_from at sub x w ws = then_at (option_at at ws) (λ m ws. then_at (want s.Equals ws) (λ _ ws. then_at (sub ws) (λ u ws. Ok (Be x w m u, ws))))

-- A side: a variable, its type, and what it is bound to.
abbrev pub bound_at : Places → Reader Line → Reader Bound
bound_at at sub ws = then_at (var_at at ws) (λ x ws. then_at (want s.Colon ws) (λ _ ws. then_at (type_at at ws) (λ w ws. bound_from at sub x w ws)))

-- Behind the opening parenthesis of an operation.
abbrev pub prim_at : Places → Ident → TypeName → Reader Binding
prim_at at x w ws =
    then_at (operand_at at ws) (λ y ws. then_at (operator_at ws) (λ f ws. then_at (operand_at at ws) (λ z ws. then_at (want s.Close ws) (λ _ ws. Ok (PrimIn x w y f z, ws)))))

-- A side as a binding.
abbrev pub side_in_at : Places → Reader Line → Ident → TypeName → Reader Binding
side_in_at at sub x w ws = then_at (bound_from at sub x w ws) (λ b ws. Ok (LetIn b, ws))

-- Behind the type of a `let`: an operation, or a side.
abbrev pub let_from : Places → Reader Line → Ident → TypeName → Reader Binding
let_from at sub x w (t.Sign s.Equals ∷ t.Sign s.Open ∷ ws) = prim_at at x w ws
let_from at sub x w ws = side_in_at at sub x w ws

-- Behind `let par`.
abbrev pub par_at : Places → Reader Line → Reader Binding
par_at at sub ws =
    then_at (bound_at at sub ws) (λ l ws. then_at (want s.And ws) (λ _ ws. then_at (between_at at ws) (λ m ws. then_at (bound_at at sub ws) (λ r ws. Ok (ParIn l m r, ws)))))

-- Behind `let`, where it is not two sides.
abbrev pub one_at : Places → Reader Line → Reader Binding
one_at at sub ws = then_at (var_at at ws) (λ x ws. then_at (want s.Colon ws) (λ _ ws. then_at (type_at at ws) (λ w ws. let_from at sub x w ws)))

-- Behind `let`.
abbrev pub let_at : Places → Reader Line → Reader Binding
let_at at sub (t.Sign s.Par ∷ ws) = par_at at sub ws
let_at at sub ws = one_at at sub ws

-- A binding, `in`, and the rest of its line.
abbrev pub in_at : Reader Line → Span → Read Binding → Read Line
in_at sub p b = then_at b (λ b ws. then_at (want s.In ws) (λ _ ws. then_at (sub ws) (λ u ws. Ok (In p b u, ws))))

-- An arm of a case.
pub record ArmText : Type 0 where
  pub constructor : Ident
  pub variables : List Ident
  pub line : Line

-- The arms of a case, from the first and the further ones.
abbrev pub arms_of : ArmText → List ArmText → Arms
arms_of arm [] = LastArm arm.constructor arm.variables arm.line
arms_of arm (next ∷ arms) = NextArm arm.constructor arm.variables arm.line (arms_of next arms)

-- A constructor with its variables, an arrow and a term.
unfoldable pub arm_at : Places → Reader Line → Reader ArmText
arm_at at sub ws =
    then_at (con_at at ws) (λ k ws. then_at (names_at at ws) (λ xs ws. then_at (want s.Arrow ws) (λ _ ws. then_at (sub ws) (λ u ws.
    Ok (record { constructor = k; variables = xs; line = u }, ws)))))

-- A further arm.
unfoldable pub next_arm_at : Places → Reader Line → Reader ArmText
next_arm_at at sub ws = then_at (want s.Semicolon ws) (λ _ ws. arm_at at sub ws)

-- Arms, with a semicolon between two.
unfoldable pub arms_at : Places → Reader Line → Reader Arms
arms_at at sub ws = then_at (arm_at at sub ws) (λ arm ws. then_at (many (is_sign s.Semicolon) (next_arm_at at sub) ws) (λ arms ws. Ok (arms_of arm arms, ws)))

-- Behind `letregion`.
abbrev pub region_at : Places → Reader Binding
region_at at ws = then_at (var_at at ws) (λ r ws. Ok (NewRegion r, ws))

-- Behind `letloc`.
abbrev pub new_place_at : Places → Reader Binding
new_place_at at ws = then_at (var_at at ws) (λ l ws. then_at (want s.Equals ws) (λ _ ws. then_at (location_at at ws) (λ q ws. Ok (NewPlace l q, ws))))

-- Behind `reach`.
abbrev pub reach_at : Places → Reader Binding
reach_at at ws = then_at (var_at at ws) (λ y ws. then_at (want s.By ws) (λ _ ws. then_at (way_at at ws) (λ q ws. Ok (ReachIn y q, ws))))

-- A binding by its first word.
abbrev pub binding_at : Places → Reader Line → Reader Binding
binding_at at sub (t.Sign s.LetRegion ∷ ws) = region_at at ws
binding_at at sub (t.Sign s.LetLocation ∷ ws) = new_place_at at ws
binding_at at sub (t.Sign s.Reach ∷ ws) = reach_at at ws
binding_at at sub (t.Sign s.Let ∷ ws) = let_at at sub ws
binding_at at sub ws = Err (At (length ws))

-- Behind `give`, whose span this is.
abbrev pub give_at : Places → Span → Reader Line
give_at at p ws = then_at (operand_at at ws) (λ x left. Ok (Given p x, left))

-- Behind `point`.
abbrev pub point_at : Places → Span → Reader Line
point_at at p ws = then_at (var_at at ws) (λ x left. then_at (mark_at at left) (λ m left. Ok (Pointed p x m, left)))

-- A call: one operand at least.
abbrev pub call_at : Places → Ident → Reader Line
call_at at f ws = then_at (operand_at at ws) (λ x ws. then_at (operands_at at ws) (λ xs ws. then_at (option_at at ws) (λ m ws. Ok (Called f (x ∷ xs) m, ws))))

-- Behind a constructor.
abbrev pub make_at : Places → Ident → Reader Line
make_at at k ws = then_at (mark_at at ws) (λ m left. then_at (operands_at at left) (λ xs left. Ok (Made k m xs, left)))

-- Behind `case`.
abbrev pub case_at : Places → Reader Line → Span → Reader Line
case_at at sub p ws =
    then_at (var_at at ws) (λ x left. then_at (want s.Of left) (λ _ left. then_at (want s.OpenBrace left) (λ _ left. then_at (arms_at at sub left) (λ arms left. then_at (want s.CloseBrace left) (λ _ left. Ok (Cased p x arms, left))))))

-- Behind `if`.
abbrev pub if_at : Places → Reader Line → Span → Reader Line
if_at at sub p ws =
    then_at (operand_at at ws) (λ x left. then_at (want s.Then left) (λ _ left. then_at (sub left) (λ u left. then_at (want s.Else left) (λ _ left. then_at (sub left) (λ v left. Ok (Chosen p x u v, left))))))

-- A term, whose parts are read so.
abbrev pub line_at : Places → Reader Line → Reader Line
line_at at sub (t.Sign s.LetRegion ∷ ws) = in_at sub (before at ws) (region_at at ws)
line_at at sub (t.Sign s.LetLocation ∷ ws) = in_at sub (before at ws) (new_place_at at ws)
line_at at sub (t.Sign s.Reach ∷ ws) = in_at sub (before at ws) (reach_at at ws)
line_at at sub (t.Sign s.Let ∷ ws) = in_at sub (before at ws) (let_at at sub ws)
line_at at sub (t.Sign s.Give ∷ ws) = give_at at (before at ws) ws
line_at at sub (t.Sign s.Point ∷ ws) = point_at at (before at ws) ws
line_at at sub (t.Variable f ∷ ws) = call_at at (named at f ws) ws
line_at at sub (t.Constructor k ∷ ws) = make_at at (named at k ws) ws
line_at at sub (t.Sign s.Case ∷ ws) = case_at at sub (before at ws) ws
line_at at sub (t.Sign s.If ∷ ws) = if_at at sub (before at ws) ws
line_at at sub ws = Err (At (length ws))

-- Whether a token begins a term.
abbrev pub starts_term : Token → Bool
starts_term (t.Sign s.LetRegion) = true
starts_term (t.Sign s.LetLocation) = true
starts_term (t.Sign s.Reach) = true
starts_term (t.Sign s.Give) = true
starts_term (t.Sign s.Point) = true
starts_term (t.Sign s.Let) = true
starts_term (t.Sign s.Case) = true
starts_term (t.Sign s.If) = true
starts_term (t.Variable x) = true
starts_term (t.Constructor k) = true
starts_term x = false

-- Where no level is left: too deep if a term begins here, else the token is at fault.
abbrev pub no_level : Bool → List Token → Read Line
no_level true ws = Err (Nested (length ws))
no_level false ws = Err (At (length ws))

-- A term in so many levels.
unfoldable pub parse : Places → ℕ → Reader Line
parse at zero ws = no_level (next_is starts_term ws) ws
parse at (suc n) ws = line_at at (parse at n) ws
