-- What is spelled goes on, a word that may not stand there is refused by what stands before it, and all that stands can be ended.
use Rattle.std.proofs.Common.{◌≡◌, ℕ, suc, ◌==◌, true, false, List, [], ◌∷◌, ◌++◌, length, Option, Some, None, refl, sym, ap, ◌∙◌}
use Rattle.std.specs.Prelude.{is_some}
use Rattle.gib_base.specs.declared.token.Sign.TheVariants as s
use Rattle.gib_syntax.specs.declared.tree.Ident.{Ident}
use Rattle.gib_syntax.specs.declared.tree.TypeName.{TypeName}
use Rattle.gib_syntax.specs.declared.tree.TypeName.TheVariants as ty
use Rattle.gib_types.specs.declared.operator.Operator.{Operator}
use Rattle.gib_local_parse.specs.Tree.{Mark, Operand, Named, Number, Bit, Location, Start, Plus, After, Way, ByOffset, BySkip, ByEnd, Line, In, Given, Pointed, Called, Made, Cased, Chosen, NewRegion, NewPlace, LetIn, ParIn, PrimIn, ReachIn, Be, Arms, LastArm, NextArm}
use Rattle.gib_base.specs.declared.token.Token.{Token}
use Rattle.gib_base.specs.declared.token.Token.TheVariants as t
use Rattle.gib_reads.specs.Readers.{number_of}
use Rattle.gib_reads.proofs.Signs.{operator_back}
use Rattle.gib_local_parse.specs.Grammar.{starts_operand, sign, lower, operand_word, operator_word, type_word, spell_mark, spell_option, spell_operands, spell_names, spell_location, spell_way, spell_between, spell_line, spell_bound, spell_arms}
use Rattle.gib_local_parse.specs.Stepping.{One, TypeS, OperandS, OperatorS, OperandsS, NamesS, OptionS, LocationS, WayS, BetweenS, LetS, LetRestS, LetEqualsS, MoreArmsS, TermS, Stack, number, a_name, a_con, bound_symbols, advance, or_skip, Goes, Stands, Fails, goes_on, run, HasOperands, ArmsHave, when}

-- ---- a refused word is refused whatever follows

fails_by : (ws more : List Token) (w : Token) (o : Option Stack) → ((k : Stack) → run (ws ++ w ∷ []) k ≡ Fails 1 → run (ws ++ w ∷ more) k ≡ Fails (suc (length more)))
    → goes_on (run (ws ++ w ∷ [])) (suc (length (ws ++ w ∷ []))) o ≡ Fails 1 → goes_on (run (ws ++ w ∷ more)) (suc (length (ws ++ w ∷ more))) o ≡ Fails (suc (length more))
fails_by ws more w (Some k) h e = h k e
fails_by [] more w None h e = absurd (long 0 e)
  where
    left_of : Goes → ℕ
    left_of (Stands k) = 0
    left_of (Fails n) = n

    long : (n : ℕ) → Fails (suc (suc n)) ≡ Fails 1 → ⊥
    long n e = let f : suc (suc n) ≡ 1 = ap left_of e in absurd cc
fails_by (v ∷ vs) more w None h e = absurd (long (length (vs ++ w ∷ [])) e)
  where
    left_of : Goes → ℕ
    left_of (Stands k) = 0
    left_of (Fails n) = n

    long : (n : ℕ) → Fails (suc (suc n)) ≡ Fails 1 → ⊥
    long n e = let f : suc (suc n) ≡ 1 = ap left_of e in absurd cc

one_word : (w : Token) (more : List Token) (o : Option Stack) → goes_on (run []) 1 o ≡ Fails 1 → goes_on (run more) (suc (length more)) o ≡ Fails (suc (length more))
one_word w more None e = refl
one_word w more (Some k) e = absurd cc

pub fails_whatever : (ws more : List Token) (w : Token) (k : Stack) → run (ws ++ w ∷ []) k ≡ Fails 1 → run (ws ++ w ∷ more) k ≡ Fails (suc (length more))
fails_whatever [] more w k e = one_word w more (advance k w) e
fails_whatever (v ∷ vs) more w k e = fails_by vs more w (advance k v) (fails_whatever vs more w) e

-- ---- what is spelled goes on

-- A word that is no operand and no `@`.
pub record Stops (w : Token) : Type 0 where
  pub operand : starts_operand w ≡ false
  pub mark : (number_of s.At == number w) ≡ false

operand_goes : (x : Operand) (ws : List Token) (k : Stack) → run (operand_word x ∷ ws) (OperandS ∷ k) ≡ run ws k
operand_goes (Named x) ws k = refl
operand_goes (Number p n) ws k = refl
operand_goes (Bit p true) ws k = refl
operand_goes (Bit p false) ws k = refl

operands_go : (xs : List Operand) (rest : List Token) (k : Stack) → run (spell_operands xs rest) (OperandsS ∷ k) ≡ run rest (OperandsS ∷ k)
operands_go [] rest k = refl
operands_go (Named x ∷ xs) rest k = operands_go xs rest k
operands_go (Number p n ∷ xs) rest k = operands_go xs rest k
operands_go (Bit p true ∷ xs) rest k = operands_go xs rest k
operands_go (Bit p false ∷ xs) rest k = operands_go xs rest k

operands_end : (w : Token) (ws : List Token) (k : Stack) → starts_operand w ≡ false → run (w ∷ ws) (OperandsS ∷ k) ≡ run (w ∷ ws) k
operands_end w ws k e = ap (λ b. goes_on (run ws) (suc (length ws)) (or_skip b (OperandsS ∷ k) (advance k w))) e

option_goes : (m : Option Mark) (w : Token) (ws : List Token) (k : Stack) → (number_of s.At == number w) ≡ false → run (spell_option m (w ∷ ws)) (OptionS ∷ k) ≡ run (w ∷ ws) k
option_goes None w ws k e = ap (λ b. goes_on (run ws) (suc (length ws)) (or_skip b (One a_name ∷ k) (advance k w))) e
option_goes (Some m) w ws k e = refl

names_go : (xs : List Ident) (ws : List Token) (k : Stack) → run (spell_names xs (sign s.Arrow ∷ ws)) (NamesS ∷ One (sign s.Arrow) ∷ k) ≡ run ws k
names_go [] ws k = refl
names_go (x ∷ xs) ws k = names_go xs ws k

type_goes : (a : TypeName) (ws : List Token) (k : Stack) → run (type_word a ∷ ws) (TypeS ∷ k) ≡ run ws k
type_goes (ty.Whole p) ws k = refl
type_goes (ty.Truth p) ws k = refl
type_goes (ty.Declared x) ws k = refl

operator_goes : (f : Operator) (ws : List Token) (k : Stack) → run (operator_word f ∷ ws) (OperatorS ∷ k) ≡ run ws k
operator_goes f ws k = ap (λ (v : Option Operator). goes_on (run ws) (suc (length ws)) (when (is_some v) k)) (operator_back f)

location_goes : (q : Location) (ws : List Token) (k : Stack) → run (spell_location q ws) (LocationS ∷ k) ≡ run ws k
location_goes (Start r) ws k = refl
location_goes (Plus d c) ws k = refl
location_goes (After x) ws k = refl

way_goes : (q : Way) (ws : List Token) (k : Stack) → run (spell_way q ws) (WayS ∷ k) ≡ run ws k
way_goes ByOffset ws k = refl
way_goes (BySkip z) ws k = refl
way_goes (ByEnd z) ws k = refl

call_goes : (xs : List Operand) (m : Option Mark) (w : Token) (ws : List Token) (k : Stack) → Stops w → run (spell_operands xs (spell_option m (w ∷ ws))) (OperandsS ∷ OptionS ∷ k) ≡ run (w ∷ ws) k
call_goes xs None w ws k e = operands_go xs (w ∷ ws) (OptionS ∷ k) ∙ (operands_end w ws (OptionS ∷ k) e.operand ∙ option_goes None w ws k e.mark)
call_goes xs (Some m) w ws k e = operands_go xs (spell_mark m (w ∷ ws)) (OptionS ∷ k)

-- Behind `=` a term goes on as any other.
term_first : (u : Line) (rest : List Token) (k : Stack) → run (spell_line u rest) (LetEqualsS ∷ k) ≡ run (spell_line u rest) (TermS ∷ k)
term_first (In p (NewRegion r) u) rest k = refl
term_first (In p (NewPlace l q) u) rest k = refl
term_first (In p (LetIn b) u) rest k = refl
term_first (In p (ParIn l m r) u) rest k = refl
term_first (In p (PrimIn y v a f b) u) rest k = refl
term_first (In p (ReachIn y q) u) rest k = refl
term_first (Given p y) rest k = refl
term_first (Pointed p y m) rest k = refl
term_first (Called f xs m) rest k = refl
term_first (Made c m xs) rest k = refl
term_first (Cased p y arms) rest k = refl
term_first (Chosen p y u v) rest k = refl

-- The term goes on to what stands behind it.
abbrev TermGoes : Line → Type 0
TermGoes u = (w : Token) (ws : List Token) (k : Stack) → Stops w → HasOperands u → run (spell_line u (w ∷ ws)) (TermS ∷ k) ≡ run (w ∷ ws) k

stop : (a : Token) → starts_operand a ≡ false → (number_of s.At == number a) ≡ false → Stops a
stop a e f = record { operand = e; mark = f }

bound_goes : (x : Ident) (a : TypeName) (m : Option Mark) (u : Line) (w : Token) (ws : List Token) (k : Stack) → TermGoes u → Stops w → HasOperands u → run (spell_bound (Be x a m u) (w ∷ ws)) (bound_symbols k) ≡ run (w ∷ ws) k
bound_goes x a m u w ws k h e o =
    type_goes a (spell_option m (sign s.Equals ∷ spell_line u (w ∷ ws))) (OptionS ∷ One (sign s.Equals) ∷ TermS ∷ k)
    ∙ (option_goes m (sign s.Equals) (spell_line u (w ∷ ws)) (One (sign s.Equals) ∷ TermS ∷ k) refl ∙ h w ws k e o)

rest_goes : (m : Option Mark) (u : Line) (w : Token) (ws : List Token) (k : Stack) → TermGoes u → Stops w → HasOperands u → run (spell_option m (sign s.Equals ∷ spell_line u (w ∷ ws))) (LetRestS ∷ k) ≡ run (w ∷ ws) k
rest_goes None u w ws k h e o = term_first u (w ∷ ws) k ∙ h w ws k e o
rest_goes (Some m) u w ws k h e o = h w ws k e o

between_goes : (m : Option (Ident × Ident)) (y : Ident) (z : TypeName) (on : Option Mark) (v : Line) (rest : List Token) (k : Stack) → run (spell_between m (spell_bound (Be y z on v) rest)) (BetweenS ∷ bound_symbols k) ≡ run (spell_bound (Be y z on v) rest) (bound_symbols k)
between_goes None y z on v rest k = refl
between_goes (Some (l, x)) y z on v rest k = refl

prim_goes : (x : Ident) (a : TypeName) (y : Operand) (f : Operator) (z : Operand) (ws : List Token) (k : Stack)
    → run (lower x ∷ sign s.Colon ∷ type_word a ∷ sign s.Equals ∷ sign s.Open ∷ operand_word y ∷ operator_word f ∷ operand_word z ∷ sign s.Close ∷ ws) (LetS ∷ k) ≡ run ws k
prim_goes x a y f z ws k =
    let w3 : List Token = operand_word z ∷ sign s.Close ∷ ws in
    type_goes a (sign s.Equals ∷ sign s.Open ∷ operand_word y ∷ operator_word f ∷ w3) (LetRestS ∷ k)
    ∙ (operand_goes y (operator_word f ∷ w3) (OperatorS ∷ OperandS ∷ One (sign s.Close) ∷ k) ∙ (operator_goes f w3 (OperandS ∷ One (sign s.Close) ∷ k) ∙ operand_goes z (sign s.Close ∷ ws) (One (sign s.Close) ∷ k)))

mutual
  pub term_goes : (u : Line) → TermGoes u
  term_goes (In p (NewRegion r) u) w ws k e o = term_goes u w ws k e o.1
  term_goes (In p (NewPlace l q) u) w ws k e o = location_goes q (sign s.In ∷ spell_line u (w ∷ ws)) (One (sign s.In) ∷ TermS ∷ k) ∙ term_goes u w ws k e o.1
  term_goes (In p (LetIn (Be x a m v)) u) w ws k e o =
      type_goes a (spell_option m (sign s.Equals ∷ spell_line v (sign s.In ∷ spell_line u (w ∷ ws)))) (LetRestS ∷ One (sign s.In) ∷ TermS ∷ k)
      ∙ (rest_goes m v (sign s.In) (spell_line u (w ∷ ws)) (One (sign s.In) ∷ TermS ∷ k) (term_goes v) (stop (sign s.In) refl refl) o.0 ∙ term_goes u w ws k e o.1)
  term_goes (In p (ParIn (Be x a i v) m (Be y z on q)) u) w ws k e o =
      let after : Stack = One (sign s.In) ∷ TermS ∷ k in
      let left : List Token = sign s.In ∷ spell_line u (w ∷ ws) in
      bound_goes x a i v (sign s.And) (spell_between m (spell_bound (Be y z on q) left)) (One (sign s.And) ∷ BetweenS ∷ bound_symbols after) (term_goes v) (stop (sign s.And) refl refl) o.0.0
      ∙ (between_goes m y z on q left after
      ∙ (bound_goes y z on q (sign s.In) (spell_line u (w ∷ ws)) after (term_goes q) (stop (sign s.In) refl refl) o.0.1 ∙ term_goes u w ws k e o.1))
  term_goes (In p (PrimIn x a y f z) u) w ws k e o = prim_goes x a y f z (sign s.In ∷ spell_line u (w ∷ ws)) (One (sign s.In) ∷ TermS ∷ k) ∙ term_goes u w ws k e o.1
  term_goes (In p (ReachIn y q) u) w ws k e o = way_goes q (sign s.In ∷ spell_line u (w ∷ ws)) (One (sign s.In) ∷ TermS ∷ k) ∙ term_goes u w ws k e o.1
  term_goes (Given p x) w ws k e o = operand_goes x (w ∷ ws) k
  term_goes (Pointed p x m) w ws k e o = refl
  term_goes (Called f [] m) w ws k e o = absurd o
  term_goes (Called f (x ∷ xs) m) w ws k e o = operand_goes x (spell_operands xs (spell_option m (w ∷ ws))) (OperandsS ∷ OptionS ∷ k) ∙ call_goes xs m w ws k e
  term_goes (Made c m xs) w ws k e o = operands_go xs (w ∷ ws) k ∙ operands_end w ws k e.operand
  term_goes (Cased p x arms) w ws k e o = arms_go arms (w ∷ ws) k o
  term_goes (Chosen p x u v) w ws k e o =
      operand_goes x (sign s.Then ∷ spell_line u (sign s.Else ∷ spell_line v (w ∷ ws))) (One (sign s.Then) ∷ TermS ∷ One (sign s.Else) ∷ TermS ∷ k)
      ∙ (term_goes u (sign s.Else) (spell_line v (w ∷ ws)) (One (sign s.Else) ∷ TermS ∷ k) (stop (sign s.Else) refl refl) o.0 ∙ term_goes v w ws k e o.1)

  arms_go : (arms : Arms) (rest : List Token) (k : Stack) → ArmsHave arms
      → run (spell_arms arms (sign s.CloseBrace ∷ rest)) (One a_con ∷ NamesS ∷ One (sign s.Arrow) ∷ TermS ∷ MoreArmsS ∷ One (sign s.CloseBrace) ∷ k) ≡ run rest k
  arms_go (LastArm c xs u) rest k o =
      let after : Stack = MoreArmsS ∷ One (sign s.CloseBrace) ∷ k in
      names_go xs (spell_line u (sign s.CloseBrace ∷ rest)) (TermS ∷ after) ∙ term_goes u (sign s.CloseBrace) rest after (stop (sign s.CloseBrace) refl refl) o
  arms_go (NextArm c xs u arms) rest k o =
      let after : Stack = MoreArmsS ∷ One (sign s.CloseBrace) ∷ k in
      let left : List Token = spell_arms arms (sign s.CloseBrace ∷ rest) in
      names_go xs (spell_line u (sign s.Semicolon ∷ left)) (TermS ∷ after) ∙ (term_goes u (sign s.Semicolon) left after (stop (sign s.Semicolon) refl refl) o.0 ∙ arms_go arms rest k o.1)

-- Where a word is refused, no term before a semicolon begins with the words up to and including it.
pub none_begins : (ws more : List Token) (w : Token) (u : Line) → run (ws ++ w ∷ []) (TermS ∷ One (sign s.Semicolon) ∷ []) ≡ Fails 1 → HasOperands u → spell_line u (sign s.Semicolon ∷ []) ≡ ws ++ w ∷ more → ⊥
none_begins ws more w u e o same =
    let k : Stack = TermS ∷ One (sign s.Semicolon) ∷ [] in
    stands [] (suc (length more))
    (sym (term_goes u (sign s.Semicolon) [] (One (sign s.Semicolon) ∷ []) (stop (sign s.Semicolon) refl refl) o) ∙ (ap (λ l. run l k) same ∙ fails_whatever ws more w k e))
  where
    is_fault : Goes → ℕ
    is_fault (Stands k) = 0
    is_fault (Fails n) = 1

    stands : (k : Stack) (n : ℕ) → Stands k ≡ Fails n → ⊥
    stands k n e = let f : 0 ≡ suc 0 = ap is_fault e in absurd cc
