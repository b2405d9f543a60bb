-- Texts that stand where their tokens stand.
use Rattle.std.specs.Prelude.{ℕ, List, [], ◌∷◌, Option}
use Rattle.gib_base.specs.declared.token.Sign.TheVariants as s
use Rattle.gib_base.specs.declared.token.Token.{Token}
use Rattle.gib_base.specs.declared.token.Token.TheVariants as t
use Rattle.gib_syntax.specs.declared.tree.Ident.{Ident}
use Rattle.gib_syntax.specs.declared.tree.TypeName.{TypeName}
use Rattle.gib_syntax.specs.declared.tree.Parameter.{Parameter}
use Rattle.gib_syntax.specs.Tree.{ConstructorTree, DataTree}
use Rattle.gib_syntax.specs.Spelling.{Places}
use Rattle.gib_local_parse.specs.Tree.{Mark, Line, FunctionText, MainText, LocalTree}
use Rattle.gib_local_parse.specs.Grammar.{type_word, spell_option, spell_line}
use Rattle.gib_local_parse.specs.Placed.{IsAt, TypeAt, OptionAt, LineAt}
use Rattle.gib_local_parse.specs.Texts.{spell_list, spell_type, spell_con, spell_constructor, spell_alternative, spell_constructors, spell_data, spell_offsets, spell_parameter, spell_body, spell_function, spell_main}

-- Things one after another, each before those behind it.
abbrev pub ListAt : {A : Type 0} → (A → List Token → List Token) → (A → List Token → Type 0) → List A → List Token → Type 0
ListAt spell Stands [] rest = Unit {0}
ListAt spell Stands (x ∷ xs) rest = Stands x (spell_list spell xs rest) × ListAt spell Stands xs rest

-- A constructor with its fields stands before these tokens.
abbrev pub ConstructorAt : Places → ConstructorTree → List Token → Type 0
ConstructorAt at c rest = IsAt at c.name (spell_list spell_type c.fields rest) × ListAt spell_type (TypeAt at) c.fields rest

-- A data declaration has a constructor at least.
abbrev pub ConstructorsAt : Places → List ConstructorTree → List Token → Type 0
ConstructorsAt at [] rest = ⊥
ConstructorsAt at (c ∷ cs) rest = ConstructorAt at c (spell_list spell_alternative cs rest) × ListAt spell_alternative (ConstructorAt at) cs rest

-- A data declaration stands before these tokens.
abbrev pub DataAt : Places → DataTree → List Token → Type 0
DataAt at d rest = IsAt at d.name (t.Sign s.Equals ∷ spell_constructors d.constructors (t.Sign s.Semicolon ∷ rest)) × ConstructorsAt at d.constructors (t.Sign s.Semicolon ∷ rest)

-- The constructors that store offsets do, where there are some.
abbrev pub OffsetsAt : Places → List Ident → List Token → Type 0
OffsetsAt at [] rest = Unit {0}
OffsetsAt at (k ∷ ks) rest = IsAt at k (spell_list spell_con ks (t.Sign s.Semicolon ∷ rest)) × ListAt spell_con (IsAt at) ks (t.Sign s.Semicolon ∷ rest)

-- A parameter does, with its type.
abbrev pub ParameterAt : Places → Parameter → List Token → Type 0
ParameterAt at q rest = IsAt at q.name (t.Sign s.Colon ∷ type_word q.ty ∷ t.Sign s.Close ∷ rest) × TypeAt at q.ty (t.Sign s.Close ∷ rest)

-- A function has a parameter at least.
abbrev pub ParametersAt : Places → List Parameter → List Token → Type 0
ParametersAt at [] rest = ⊥
ParametersAt at (q ∷ qs) rest = ParameterAt at q (spell_list spell_parameter qs rest) × ListAt spell_parameter (ParameterAt at) qs rest

-- A result with its place, and a body in so many levels.
abbrev pub BodyIn : ℕ → Places → TypeName → Option Mark → Line → List Token → Type 0
BodyIn n at w place u rest =
    TypeAt at w (spell_option place (t.Sign s.Equals ∷ spell_line u (t.Sign s.Semicolon ∷ rest)))
    × OptionAt at place (t.Sign s.Equals ∷ spell_line u (t.Sign s.Semicolon ∷ rest))
    × LineAt at u n (t.Sign s.Semicolon ∷ rest)

-- A function does: its name, its parameters, its result and body.
abbrev pub FunctionIn : ℕ → Places → FunctionText → List Token → Type 0
FunctionIn n at f rest =
    IsAt at f.name (spell_list spell_parameter f.parameters (spell_body f.result f.place f.body rest))
    × ParametersAt at f.parameters (spell_body f.result f.place f.body rest)
    × BodyIn n at f.result f.place f.body rest

-- Main does: its parameter, its result and body.
abbrev pub MainIn : ℕ → Places → MainText → List Token → Type 0
MainIn n at m rest = ParameterAt at m.parameter (spell_body m.result m.place m.body rest) × BodyIn n at m.result m.place m.body rest

-- A text that stands before these tokens, in so many levels.
pub record TextIn (n : ℕ) (at : Places) (x : LocalTree) (rest : List Token) : Type 0 where
  pub datas : ListAt spell_data (DataAt at) x.datas (spell_offsets x.offsets (spell_list spell_function x.functions (spell_main x.main rest)))
  pub offsets : OffsetsAt at x.offsets (spell_list spell_function x.functions (spell_main x.main rest))
  pub functions : ListAt spell_function (FunctionIn n at) x.functions (spell_main x.main rest)
  pub main : MainIn n at x.main rest

-- In 200 levels.
abbrev pub TextAt : Places → LocalTree → List Token → Type 0
TextAt at x rest = TextIn 200 at x rest
