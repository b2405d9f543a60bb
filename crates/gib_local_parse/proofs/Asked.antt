-- What the grammar asks of terms and texts in so many levels, wherever they stand.
use Rattle.std.proofs.Common.{◌≢◌, ◌<◌, ◌^◌, ℕ, zero, suc, List, [], ◌∷◌, Option}
use Rattle.std.specs.List.{AllByRecursion}
use Rattle.gib_base.specs.declared.token.Token.{Token}
use Rattle.gib_base.specs.declared.token.Token.TheVariants as t
use Rattle.gib_base.specs.declared.token.Sign.TheVariants as s
use Rattle.gib_syntax.specs.declared.tree.Parameter.{Parameter}
use Rattle.gib_syntax.specs.Fine.{HasConstructor}
use Rattle.gib_syntax.specs.Tree.{ConstructorTree, DataTree}
use Rattle.gib_syntax.specs.Spelling.{Places}
use Rattle.gib_reads.proofs.Laws.{fine_all}
use Rattle.gib_local_parse.specs.Tree.{Mark, Operand, Named, Number, Bit, Line, In, Given, Pointed, Called, Made, Cased, Chosen, Binding, NewRegion, NewPlace, LetIn, ParIn, PrimIn, ReachIn, Bound, Be, Arms, LastArm, NextArm, FunctionText, MainText, LocalTree}
use Rattle.gib_local_parse.specs.Grammar.{sign, spell_line, spell_bound, spell_between, spell_option, spell_arms}
use Rattle.gib_local_parse.specs.Placed.{OperandAt, OperandsAt, ArgumentsAt, OnLevel, LineAt, BindingAt, BoundAt, ArmsAt}
use Rattle.gib_local_parse.specs.Texts.{spell_list, spell_data, spell_offsets, spell_parameter, spell_body, spell_function, spell_main}
use Rattle.gib_local_parse.specs.PlacedTexts.{ListAt, ConstructorsAt, DataAt, ParametersAt, FunctionIn, TextIn}

-- A number is below the bound of literals.
abbrev pub IsSmall : Operand → Type 0
IsSmall (Named x) = Unit {0}
IsSmall (Number p n) = n < 2 ^ 63
IsSmall (Bit p b) = Unit {0}

abbrev pub AreSmall : List Operand → Type 0
AreSmall xs = fine_all IsSmall xs

-- A call has one operand at least.
abbrev pub AreArguments : List Operand → Type 0
AreArguments [] = ⊥
AreArguments (x ∷ xs) = IsSmall x × AreSmall xs

abbrev mutual
  -- A term of so many levels.
  pub LineIn : Line → ℕ → Type 0
  LineIn (In p b u) n = OnLevel n (λ n. BindingIn b n × LineIn u n)
  LineIn (Given p x) n = OnLevel n (λ n. IsSmall x)
  LineIn (Pointed p x m) n = OnLevel n (λ n. Unit {0})
  LineIn (Called f xs m) n = OnLevel n (λ n. AreArguments xs)
  LineIn (Made k m xs) n = OnLevel n (λ n. AreSmall xs)
  LineIn (Cased p x arms) n = OnLevel n (λ n. ArmsIn arms n)
  LineIn (Chosen p x u v) n = OnLevel n (λ n. IsSmall x × LineIn u n × LineIn v n)

  pub BindingIn : Binding → ℕ → Type 0
  BindingIn (NewRegion r) n = Unit {0}
  BindingIn (NewPlace l q) n = Unit {0}
  BindingIn (LetIn b) n = BoundIn b n
  BindingIn (ParIn l m r) n = BoundIn l n × BoundIn r n
  BindingIn (PrimIn x a y f z) n = IsSmall y × IsSmall z
  BindingIn (ReachIn y q) n = Unit {0}

  pub BoundIn : Bound → ℕ → Type 0
  BoundIn (Be x a m u) n = LineIn u n

  pub ArmsIn : Arms → ℕ → Type 0
  ArmsIn (LastArm k xs u) n = LineIn u n
  ArmsIn (NextArm k xs u arms) n = LineIn u n × ArmsIn arms n

-- A function has a parameter, and a body of so many levels.
abbrev pub IsFunction : ℕ → FunctionText → Type 0
IsFunction n f = (f.parameters ≢ []) × LineIn f.body n

-- A text of so many levels.
pub record IsText (n : ℕ) (x : LocalTree) : Type 0 where
  pub datas : AllByRecursion HasConstructor x.datas
  pub functions : AllByRecursion (IsFunction n) x.functions
  pub main : LineIn x.main.body n

-- ---- what stands somewhere is so

operand_asked : (at : Places) (x : Operand) (rest : List Token) → OperandAt at x rest → IsSmall x
operand_asked at (Named x) rest h = tt
operand_asked at (Number p n) rest h = h.1
operand_asked at (Bit p b) rest h = tt

operands_asked : (at : Places) (xs : List Operand) (rest : List Token) → OperandsAt at xs rest → AreSmall xs
operands_asked at [] rest h = tt
operands_asked at (x ∷ xs) rest h = (operand_asked at x _ h.0, operands_asked at xs rest h.1)

arguments_asked : (at : Places) (xs : List Operand) (rest : List Token) → ArgumentsAt at xs rest → AreArguments xs
arguments_asked at [] rest h = absurd h
arguments_asked at (x ∷ xs) rest h = operands_asked at (x ∷ xs) rest h

mutual
  pub line_asked : (at : Places) (u : Line) (n : ℕ) (rest : List Token) → LineAt at u n rest → LineIn u n
  line_asked at (In p b u) zero rest h = absurd h
  line_asked at (In p b u) (suc n) rest h = (binding_asked at b n _ h.1, line_asked at u n rest h.2)
  line_asked at (Given p x) zero rest h = absurd h
  line_asked at (Given p x) (suc n) rest h = operand_asked at x rest h.1
  line_asked at (Pointed p x m) zero rest h = absurd h
  line_asked at (Pointed p x m) (suc n) rest h = tt
  line_asked at (Called f xs m) zero rest h = absurd h
  line_asked at (Called f xs m) (suc n) rest h = arguments_asked at xs _ h.1
  line_asked at (Made k m xs) zero rest h = absurd h
  line_asked at (Made k m xs) (suc n) rest h = operands_asked at xs rest h.2
  line_asked at (Cased p x arms) zero rest h = absurd h
  line_asked at (Cased p x arms) (suc n) rest h = arms_asked at arms n _ h.2
  line_asked at (Chosen p x u v) zero rest h = absurd h
  line_asked at (Chosen p x u v) (suc n) rest h = (operand_asked at x _ h.1, line_asked at u n _ h.2, line_asked at v n rest h.3)

  binding_asked : (at : Places) (b : Binding) (n : ℕ) (rest : List Token) → BindingAt at b n rest → BindingIn b n
  binding_asked at (NewRegion r) n rest h = tt
  binding_asked at (NewPlace l q) n rest h = tt
  binding_asked at (LetIn b) n rest h = bound_asked at b n rest h
  binding_asked at (ParIn l m r) n rest h = (bound_asked at l n _ h.0, bound_asked at r n rest h.2)
  binding_asked at (PrimIn x a y f z) n rest h = (operand_asked at y _ h.2, operand_asked at z _ h.3)
  binding_asked at (ReachIn y q) n rest h = tt

  bound_asked : (at : Places) (b : Bound) (n : ℕ) (rest : List Token) → BoundAt at b n rest → BoundIn b n
  bound_asked at (Be x a m u) n rest h = line_asked at u n rest h.3

  arms_asked : (at : Places) (arms : Arms) (n : ℕ) (rest : List Token) → ArmsAt at arms n rest → ArmsIn arms n
  arms_asked at (LastArm k xs u) n rest h = line_asked at u n rest h.2
  arms_asked at (NextArm k xs u arms) n rest h = (line_asked at u n _ h.2, arms_asked at arms n rest h.3)

some_constructors : (at : Places) (cs : List ConstructorTree) (rest : List Token) → ConstructorsAt at cs rest → cs ≢ []
some_constructors at [] rest h = absurd h
some_constructors at (c ∷ cs) rest h = λ e. cc

datas_asked : (at : Places) (ds : List DataTree) (rest : List Token) → ListAt spell_data (DataAt at) ds rest → AllByRecursion HasConstructor ds
datas_asked at [] rest h = tt
datas_asked at (d ∷ ds) rest h = (some_constructors at d.constructors _ h.0.1, datas_asked at ds rest h.1)

some_parameters : (at : Places) (qs : List Parameter) (rest : List Token) → ParametersAt at qs rest → qs ≢ []
some_parameters at [] rest h = absurd h
some_parameters at (q ∷ qs) rest h = λ e. cc

functions_asked : (n : ℕ) (at : Places) (fs : List FunctionText) (rest : List Token) → ListAt spell_function (FunctionIn n at) fs rest
    → AllByRecursion (IsFunction n) fs
functions_asked n at [] rest h = tt
functions_asked n at (f ∷ fs) rest h = ((some_parameters at f.parameters _ h.0.1, line_asked at f.body n _ h.0.2.2), functions_asked n at fs rest h.1)

pub text_asked : (n : ℕ) (at : Places) (x : LocalTree) (rest : List Token) → TextIn n at x rest → IsText n x
text_asked n at x rest h = record {
  datas = datas_asked at x.datas _ h.datas;
  functions = functions_asked n at x.functions _ h.functions;
  main = line_asked at x.main.body n _ h.main.1.2;
}
