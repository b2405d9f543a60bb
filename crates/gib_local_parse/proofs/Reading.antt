-- What is spelled so is read.
use Rattle.std.proofs.Common.{◌≡◌, ℕ, zero, suc, ◌≤◌, ◌^◌, Bool, true, false, List, [], ◌∷◌, length, Option, Some, None, Ok, refl, sym, ap, ◌∙◌, arith}
use Rattle.std.proofs.lemmas.Bool.{lt-ltb}
use Rattle.gib_base.specs.declared.Span.{Span}
use Rattle.gib_base.specs.declared.token.Sign.TheVariants as s
use Rattle.gib_syntax.specs.declared.tree.Ident.{Ident}
use Rattle.gib_syntax.specs.declared.tree.TypeName.{TypeName}
use Rattle.gib_syntax.specs.declared.tree.TypeName.TheVariants as ty
use Rattle.gib_types.specs.declared.operator.Operator.{Operator}
use Rattle.gib_local_parse.specs.Tree.{Mark, Operand, Named, Number, Bit, Location, Start, Plus, After, Way, ByOffset, BySkip, ByEnd, Line, In, Given, Pointed, Called, Made, Cased, Chosen, Binding, NewRegion, NewPlace, LetIn, ParIn, PrimIn, ReachIn, Bound, Be, Arms, LastArm, NextArm}
use Rattle.gib_base.specs.declared.token.Token.{Token}
use Rattle.gib_base.specs.declared.token.Token.TheVariants as t
use Rattle.gib_reads.specs.Readers.{Read, Reader, before, then_at, named, want, next_is, many, many_at, many_step, is_variable, is_sign, var_at}
use Rattle.gib_syntax.specs.Spelling.{Places}
use Rattle.gib_reads.proofs.Tools.{done}
use Rattle.gib_reads.proofs.Signs.{operator_back}
use Rattle.gib_reads.proofs.Local.{ok_parts}
use Rattle.gib_local_parse.specs.Grammar.{ArmText, starts_operand, arms_of, arm_at, next_arm_at, sign, lower, upper, operand_word, operator_word, type_word, spell_mark, spell_option, spell_operands, spell_names, spell_location, spell_way, spell_between, spell_line, spell_binding, spell_bound, spell_arms, type_at, literal_at, operand_at, operands_at, names_at, mark_at, option_at, location_at, way_at, operator_at, between_at, bound_from, bound_at, let_from, let_at, in_at, arms_at, call_at, parse, operator_found}
use Rattle.gib_local_parse.specs.Placed.{IsAt, MarkAt, OptionAt, OperandAt, OperandsAt, NamesAt, TypeAt, LocationAt, WayAt, BetweenAt, ArgumentsAt, Follows, LineAt, BindingAt, BoundAt, ArmsAt}

pub name_back : (at : Places) (x : Ident) (ws : List Token) → IsAt at x ws → named at x.name ws ≡ x
name_back at x ws e = λ i. record { name = x.name; span = sym e i }

mark_back : (at : Places) (m : Mark) (rest : List Token) → MarkAt at m rest → mark_at at (spell_mark m rest) ≡ done m rest
mark_back at m rest e = λ i. done (record { sign = sym e.0 i; name = name_back at m.name rest e.1 i }) rest

pub option_back : (at : Places) (m : Option Mark) (rest : List Token) → OptionAt at m rest → option_at at rest ≡ done None rest → option_at at (spell_option m rest) ≡ done m rest
option_back at None rest e h = h
option_back at (Some m) rest e h = λ i. done (Some (record { sign = sym e.0 i; name = name_back at m.name rest e.1 i })) rest

pub type_back : (at : Places) (w : TypeName) (ws : List Token) → TypeAt at w ws → type_at at (type_word w ∷ ws) ≡ done w ws
type_back at (ty.Whole p) ws e = λ i. done (ty.Whole (sym e i)) ws
type_back at (ty.Truth p) ws e = λ i. done (ty.Truth (sym e i)) ws
type_back at (ty.Declared x) ws e = λ i. done (ty.Declared (name_back at x ws e i)) ws

operand_back : (at : Places) (x : Operand) (ws : List Token) → OperandAt at x ws → operand_at at (operand_word x ∷ ws) ≡ done x ws
operand_back at (Named x) ws e = λ i. done (Named (name_back at x ws e i)) ws
operand_back at (Number p n) ws e = ap (λ b. literal_at b (before at ws) n ws) (lt-ltb n (2 ^ 63) e.1) ∙ (λ i. done (Number (sym e.0 i) n) ws)
operand_back at (Bit p true) ws e = λ i. done (Bit (sym e i) true) ws
operand_back at (Bit p false) ws e = λ i. done (Bit (sym e i) false) ws

-- Nothing more begins.
pub no_more : {A : Type 0} (k : ℕ) (starts : Token → Bool) (p : Reader A) (rest : List Token) → next_is starts rest ≡ false → many_at k starts p rest ≡ done [] rest
unfolding many_at
no_more zero starts p rest e = refl
no_more (suc k) starts p rest e = ap (λ v. many_step v p (many_at k starts p) rest) e

operand_starts : (x : Operand) → starts_operand (operand_word x) ≡ true
operand_starts (Named x) = refl
operand_starts (Number p n) = refl
operand_starts (Bit p true) = refl
operand_starts (Bit p false) = refl

operands_from : (at : Places) (xs : List Operand) (rest : List Token) → OperandsAt at xs rest → next_is starts_operand rest ≡ false → (k : ℕ) → length xs ≤ k → many_at k starts_operand (operand_at at) (spell_operands xs rest) ≡ done xs rest
unfolding many_at
operands_from at [] rest e h k le = no_more k starts_operand (operand_at at) rest h
operands_from at (x ∷ xs) rest e h zero le = absurd (omega (arith, le))
operands_from at (x ∷ xs) rest e h (suc k) le =
    let ws : List Token = spell_operands xs rest in
    let more : Reader (List Operand) = many_at k starts_operand (operand_at at) in
    ap (λ v. many_step v (operand_at at) more (operand_word x ∷ ws)) (operand_starts x)
    ∙ (ap (λ (z : Read Operand). then_at z (λ x ts. then_at (more ts) (λ xs ts. Ok (x ∷ xs, ts)))) (operand_back at x ws e.0)
    ∙ ap (λ (z : Read (List Operand)). then_at z (λ xs ts. Ok (x ∷ xs, ts))) (operands_from at xs rest e.1 h k (omega (arith, le))))

operands_enough : (xs : List Operand) (rest : List Token) → length xs ≤ length (spell_operands xs rest)
operands_enough [] rest = omega arith
operands_enough (x ∷ xs) rest = (let a = operands_enough xs rest in omega (arith, a))

operands_back : (at : Places) (xs : List Operand) (rest : List Token) → OperandsAt at xs rest → next_is starts_operand rest ≡ false → operands_at at (spell_operands xs rest) ≡ done xs rest
unfolding many
operands_back at xs rest e h = operands_from at xs rest e h (length (spell_operands xs rest)) (operands_enough xs rest)

names_from : (at : Places) (xs : List Ident) (ws : List Token) → NamesAt at xs (sign s.Arrow ∷ ws) → (k : ℕ) → length xs ≤ k → many_at k is_variable (var_at at) (spell_names xs (sign s.Arrow ∷ ws)) ≡ done xs (sign s.Arrow ∷ ws)
unfolding many_at
names_from at [] ws e k le = no_more k is_variable (var_at at) (sign s.Arrow ∷ ws) refl
names_from at (x ∷ xs) ws e zero le = absurd (omega (arith, le))
names_from at (x ∷ xs) ws e (suc k) le =
    let left : List Token = spell_names xs (sign s.Arrow ∷ ws) in
    ap (λ (z : Read (List Ident)). then_at z (λ xs ts. Ok (named at x.name left ∷ xs, ts))) (names_from at xs ws e.1 k (omega (arith, le)))
    ∙ (λ i. done (name_back at x left e.0 i ∷ xs) (sign s.Arrow ∷ ws))

names_enough : (xs : List Ident) (rest : List Token) → length xs ≤ length (spell_names xs rest)
names_enough [] rest = omega arith
names_enough (x ∷ xs) rest = (let a = names_enough xs rest in omega (arith, a))

names_back : (at : Places) (xs : List Ident) (ws : List Token) → NamesAt at xs (sign s.Arrow ∷ ws) → names_at at (spell_names xs (sign s.Arrow ∷ ws)) ≡ done xs (sign s.Arrow ∷ ws)
unfolding many
names_back at xs ws e = names_from at xs ws e (length (spell_names xs (sign s.Arrow ∷ ws))) (names_enough xs (sign s.Arrow ∷ ws))

location_back : (at : Places) (q : Location) (ws : List Token) → LocationAt at q ws → location_at at (spell_location q ws) ≡ done q ws
location_back at (Start r) ws e = λ i. done (Start (name_back at r ws e i)) ws
location_back at (Plus d k) ws e = λ i. done (Plus (name_back at d (sign s.Plus ∷ upper k ∷ ws) e.0 i) (name_back at k ws e.1 i)) ws
location_back at (After x) ws e = λ i. done (After (name_back at x ws e i)) ws

way_back : (at : Places) (q : Way) (ws : List Token) → WayAt at q ws → way_at at (spell_way q ws) ≡ done q ws
way_back at ByOffset ws e = refl
way_back at (BySkip z) ws e = λ i. done (BySkip (name_back at z ws e i)) ws
way_back at (ByEnd z) ws e = λ i. done (ByEnd (name_back at z ws e i)) ws

operator_word_back : (f : Operator) (ws : List Token) → operator_at (operator_word f ∷ ws) ≡ done f ws
operator_word_back f ws = ap (λ (v : Option Operator). operator_found v ws) (operator_back f)

-- ---- lengths

option_long : (m : Option Mark) (rest : List Token) → length rest ≤ length (spell_option m rest)
option_long None rest = omega arith
option_long (Some m) rest = omega arith

operands_long : (xs : List Operand) (rest : List Token) → length rest ≤ length (spell_operands xs rest)
operands_long [] rest = omega arith
operands_long (x ∷ xs) rest = (let a = operands_long xs rest in omega (arith, a))

names_long : (xs : List Ident) (rest : List Token) → length rest ≤ length (spell_names xs rest)
names_long [] rest = omega arith
names_long (x ∷ xs) rest = (let a = names_long xs rest in omega (arith, a))

mutual
  pub line_long : (u : Line) (rest : List Token) → length rest ≤ length (spell_line u rest)
  line_long (In p b u) rest = (let a = line_long u rest in let c = binding_long b (sign s.In ∷ spell_line u rest) in omega (arith, a, c))
  line_long (Given p x) rest = omega arith
  line_long (Pointed p x m) rest = omega arith
  line_long (Called f xs m) rest = (let a = option_long m rest in let c = operands_long xs (spell_option m rest) in omega (arith, a, c))
  line_long (Made k m xs) rest = (let c = operands_long xs rest in omega (arith, c))
  line_long (Cased p x arms) rest = (let a = arms_long arms (sign s.CloseBrace ∷ rest) in omega (arith, a))
  line_long (Chosen p x u v) rest = (let a = line_long u (sign s.Else ∷ spell_line v rest) in let c = line_long v rest in omega (arith, a, c))

  binding_long : (b : Binding) (rest : List Token) → length rest ≤ length (spell_binding b rest)
  binding_long (NewRegion r) rest = omega arith
  binding_long (NewPlace l (Start r)) rest = omega arith
  binding_long (NewPlace l (Plus d k)) rest = omega arith
  binding_long (NewPlace l (After x)) rest = omega arith
  binding_long (LetIn b) rest = (let a = bound_long b rest in omega (arith, a))
  binding_long (ParIn l None r) rest = (let a = bound_long r rest in let c = bound_long l (sign s.And ∷ spell_bound r rest) in omega (arith, a, c))
  binding_long (ParIn l (Some (p, x)) r) rest = (let a = bound_long r rest in let c = bound_long l (sign s.And ∷ spell_between (Some (p, x)) (spell_bound r rest)) in omega (arith, a, c))
  binding_long (PrimIn x w y f z) rest = omega arith
  binding_long (ReachIn y ByOffset) rest = omega arith
  binding_long (ReachIn y (BySkip z)) rest = omega arith
  binding_long (ReachIn y (ByEnd z)) rest = omega arith

  bound_long : (b : Bound) (rest : List Token) → length rest ≤ length (spell_bound b rest)
  bound_long (Be x w m u) rest = (let a = line_long u rest in let c = option_long m (sign s.Equals ∷ spell_line u rest) in omega (arith, a, c))

  arms_long : (arms : Arms) (rest : List Token) → length rest ≤ length (spell_arms arms rest)
  arms_long (LastArm k xs u) rest = (let a = line_long u rest in let c = names_long xs (sign s.Arrow ∷ spell_line u rest) in omega (arith, a, c))
  arms_long (NextArm k xs u arms) rest =
      let a = arms_long arms rest in
      let c = line_long u (sign s.Semicolon ∷ spell_arms arms rest) in
      let d = names_long xs (sign s.Arrow ∷ spell_line u (sign s.Semicolon ∷ spell_arms arms rest)) in
      omega (arith, a, c, d)

abbrev count : Arms → ℕ
count (LastArm k xs u) = 1
count (NextArm k xs u arms) = suc (count arms)

arms_enough : (arms : Arms) (rest : List Token) → count arms ≤ length (spell_arms arms rest)
arms_enough (LastArm k xs u) rest = omega arith
arms_enough (NextArm k xs u arms) rest =
    let a = arms_enough arms rest in
    let c = line_long u (sign s.Semicolon ∷ spell_arms arms rest) in
    let d = names_long xs (sign s.Arrow ∷ spell_line u (sign s.Semicolon ∷ spell_arms arms rest)) in
    omega (arith, a, c, d)

-- ---- sides and bindings, whose terms are read

bound_from_back : (at : Places) (sub : Reader Line) (x : Ident) (w : TypeName) (m : Option Mark) (u : Line) (rest : List Token) → OptionAt at m (sign s.Equals ∷ spell_line u rest) → sub (spell_line u rest) ≡ done u rest
    → bound_from at sub x w (spell_option m (sign s.Equals ∷ spell_line u rest)) ≡ done (Be x w m u) rest
bound_from_back at sub x w m u rest e h =
    ap (λ (z : Read (Option Mark)). then_at z (λ m ws. then_at (want s.Equals ws) (λ _ ws. then_at (sub ws) (λ u ws. Ok (Be x w m u, ws))))) (option_back at m (sign s.Equals ∷ spell_line u rest) e refl)
    ∙ ap (λ (z : Read Line). then_at z (λ u ws. Ok (Be x w m u, ws))) h

bound_back : (at : Places) (sub : Reader Line) (x : Ident) (w : TypeName) (m : Option Mark) (u : Line) (n : ℕ) (rest : List Token) → BoundAt at (Be x w m u) n rest → sub (spell_line u rest) ≡ done u rest
    → bound_at at sub (spell_bound (Be x w m u) rest) ≡ done (Be x w m u) rest
bound_back at sub x w m u n rest e h =
    let ws : List Token = spell_option m (sign s.Equals ∷ spell_line u rest) in
    let y : Ident = named at x.name (sign s.Colon ∷ type_word w ∷ ws) in
    ap (λ (z : Read TypeName). then_at z (λ w ws. bound_from at sub y w ws)) (type_back at w ws e.1)
    ∙ (ap (λ (i : Ident). bound_from at sub i w ws) (name_back at x (sign s.Colon ∷ type_word w ∷ ws) e.0) ∙ bound_from_back at sub x w m u rest e.2 h)

-- No term begins with a parenthesis.
no_open : (at : Places) (sub : Reader Line) (x : Ident) (w : TypeName) (m : Option Mark) (u : Line) (rest : List Token)
    → let_from at sub x w (spell_option m (sign s.Equals ∷ spell_line u rest)) ≡ then_at (bound_from at sub x w (spell_option m (sign s.Equals ∷ spell_line u rest))) (λ b ws. Ok (LetIn b, ws))
no_open at sub x w (Some m) u rest = refl
no_open at sub x w None (In p (NewRegion r) u) rest = refl
no_open at sub x w None (In p (NewPlace l q) u) rest = refl
no_open at sub x w None (In p (LetIn b) u) rest = refl
no_open at sub x w None (In p (ParIn l m r) u) rest = refl
no_open at sub x w None (In p (PrimIn y v a f b) u) rest = refl
no_open at sub x w None (In p (ReachIn y q) u) rest = refl
no_open at sub x w None (Given p y) rest = refl
no_open at sub x w None (Pointed p y m) rest = refl
no_open at sub x w None (Called f xs m) rest = refl
no_open at sub x w None (Made k m xs) rest = refl
no_open at sub x w None (Cased p y arms) rest = refl
no_open at sub x w None (Chosen p y u v) rest = refl

let_back : (at : Places) (sub : Reader Line) (x : Ident) (w : TypeName) (m : Option Mark) (u : Line) (n : ℕ) (rest : List Token) → BoundAt at (Be x w m u) n rest → sub (spell_line u rest) ≡ done u rest
    → let_at at sub (spell_bound (Be x w m u) rest) ≡ done (LetIn (Be x w m u)) rest
let_back at sub x w m u n rest e h =
    let ws : List Token = spell_option m (sign s.Equals ∷ spell_line u rest) in
    let y : Ident = named at x.name (sign s.Colon ∷ type_word w ∷ ws) in
    ap (λ (z : Read TypeName). then_at z (λ w ws. let_from at sub y w ws)) (type_back at w ws e.1)
    ∙ (ap (λ (i : Ident). let_from at sub i w ws) (name_back at x (sign s.Colon ∷ type_word w ∷ ws) e.0)
    ∙ (no_open at sub x w m u rest ∙ ap (λ (z : Read Bound). then_at z (λ b ws. Ok (LetIn b, ws))) (bound_from_back at sub x w m u rest e.2 h)))

between_back : (at : Places) (m : Option (Ident × Ident)) (y : Ident) (z : TypeName) (on : Option Mark) (v : Line) (rest : List Token) → BetweenAt at m (spell_bound (Be y z on v) rest)
    → between_at at (spell_between m (spell_bound (Be y z on v) rest)) ≡ done m (spell_bound (Be y z on v) rest)
between_back at None y z on v rest e = refl
between_back at (Some (l, x)) y z on v rest e =
    let ws : List Token = spell_bound (Be y z on v) rest in
    λ i. done (Some (name_back at l (sign s.Equals ∷ t.Sign s.After ∷ lower x ∷ sign s.In ∷ ws) e.0 i, name_back at x (sign s.In ∷ ws) e.1 i)) ws

par_back : (at : Places) (sub : Reader Line) (x : Ident) (w : TypeName) (o : Option Mark) (u : Line) (m : Option (Ident × Ident)) (y : Ident) (z : TypeName) (on : Option Mark) (v : Line) (n : ℕ) (rest : List Token)
    → BindingAt at (ParIn (Be x w o u) m (Be y z on v)) n rest → sub (spell_line u (sign s.And ∷ spell_between m (spell_bound (Be y z on v) rest))) ≡ done u (sign s.And ∷ spell_between m (spell_bound (Be y z on v) rest)) → sub (spell_line v rest) ≡ done v rest
    → let_at at sub (sign s.Par ∷ spell_bound (Be x w o u) (sign s.And ∷ spell_between m (spell_bound (Be y z on v) rest))) ≡ done (ParIn (Be x w o u) m (Be y z on v)) rest
par_back at sub x w o u m y z on v n rest e hu hv =
    let l : Bound = Be x w o u in
    let r : Bound = Be y z on v in
    let mid : List Token = spell_between m (spell_bound r rest) in
    ap (λ (q : Read Bound). then_at q (λ l ws. then_at (want s.And ws) (λ _ ws. then_at (between_at at ws) (λ m ws. then_at (bound_at at sub ws) (λ r ws. Ok (ParIn l m r, ws)))))) (bound_back at sub x w o u n (sign s.And ∷ mid) e.0 hu)
    ∙ (ap (λ (q : Read (Option (Ident × Ident))). then_at q (λ m ws. then_at (bound_at at sub ws) (λ r ws. Ok (ParIn l m r, ws)))) (between_back at m y z on v rest e.1)
    ∙ ap (λ (q : Read Bound). then_at q (λ r ws. Ok (ParIn l m r, ws))) (bound_back at sub y z on v n rest e.2 hv))

prim_back : (at : Places) (sub : Reader Line) (x : Ident) (w : TypeName) (y : Operand) (f : Operator) (z : Operand) (n : ℕ) (rest : List Token) → BindingAt at (PrimIn x w y f z) n rest
    → let_at at sub (lower x ∷ sign s.Colon ∷ type_word w ∷ sign s.Equals ∷ sign s.Open ∷ operand_word y ∷ operator_word f ∷ operand_word z ∷ sign s.Close ∷ rest) ≡ done (PrimIn x w y f z) rest
prim_back at sub x w y f z n rest e =
    let w3 : List Token = operator_word f ∷ operand_word z ∷ sign s.Close ∷ rest in
    let w2 : List Token = sign s.Equals ∷ sign s.Open ∷ operand_word y ∷ w3 in
    let i : Ident = named at x.name (sign s.Colon ∷ type_word w ∷ w2) in
    ap (λ (q : Read TypeName). then_at q (λ w ws. let_from at sub i w ws)) (type_back at w w2 e.1)
    ∙ (ap (λ (q : Read Operand). then_at q (λ y ws. then_at (operator_at ws) (λ f ws. then_at (operand_at at ws) (λ z ws. then_at (want s.Close ws) (λ _ ws. Ok (PrimIn i w y f z, ws)))))) (operand_back at y w3 e.2)
    ∙ (ap (λ (q : Read Operator). then_at q (λ f ws. then_at (operand_at at ws) (λ z ws. then_at (want s.Close ws) (λ _ ws. Ok (PrimIn i w y f z, ws))))) (operator_word_back f (operand_word z ∷ sign s.Close ∷ rest))
    ∙ (ap (λ (q : Read Operand). then_at q (λ z ws. then_at (want s.Close ws) (λ _ ws. Ok (PrimIn i w y f z, ws)))) (operand_back at z (sign s.Close ∷ rest) e.3)
    ∙ (λ j. done (PrimIn (name_back at x (sign s.Colon ∷ type_word w ∷ w2) e.0 j) w y f z) rest))))

in_back : (sub : Reader Line) (p q : Span) (rb : Read Binding) (b : Binding) (u : Line) (rest : List Token) → rb ≡ done b (sign s.In ∷ spell_line u rest) → sub (spell_line u rest) ≡ done u rest → q ≡ p → in_at sub p rb ≡ done (In q b u) rest
in_back sub p q rb b u rest e h f =
    ap (λ (z : Read Binding). in_at sub p z) e ∙ (ap (λ (z : Read Line). then_at z (λ u ws. Ok (In p b u, ws))) h ∙ (λ i. done (In (sym f i) b u) rest))

call_back : (at : Places) (f : Ident) (xs : List Operand) (m : Option Mark) (rest : List Token) → Follows at rest → IsAt at f (spell_operands xs (spell_option m rest)) → ArgumentsAt at xs (spell_option m rest) → OptionAt at m rest
    → call_at at (named at f.name (spell_operands xs (spell_option m rest))) (spell_operands xs (spell_option m rest)) ≡ done (Called f xs m) rest
call_back at f [] m rest e n a o = absurd a
call_back at f (x ∷ xs) m rest e n a o =
    let left : List Token = spell_option m rest in
    let g : Ident = named at f.name (operand_word x ∷ spell_operands xs left) in
    ap (λ (z : Read Operand). then_at z (λ x ws. then_at (operands_at at ws) (λ xs ws. then_at (option_at at ws) (λ m ws. Ok (Called g (x ∷ xs) m, ws))))) (operand_back at x (spell_operands xs left) a.0)
    ∙ (ap (λ (z : Read (List Operand)). then_at z (λ xs ws. then_at (option_at at ws) (λ m ws. Ok (Called g (x ∷ xs) m, ws)))) (operands_back at xs left a.1 (stop m))
    ∙ (ap (λ (z : Read (Option Mark)). then_at z (λ m ws. Ok (Called g (x ∷ xs) m, ws))) (option_back at m rest o e.mark)
    ∙ (λ i. done (Called (name_back at f (operand_word x ∷ spell_operands xs left) n i) (x ∷ xs) m) rest)))
  where
    stop : (m : Option Mark) → next_is starts_operand (spell_option m rest) ≡ false
    stop None = e.operands
    stop (Some k) = refl

-- ---- terms

abbrev Reads : Places → Line → Type 0
Reads at u = (n : ℕ) (rest : List Token) → Follows at rest → LineAt at u n rest → parse at n (spell_line u rest) ≡ done u rest

-- The first of arms, and the others.
abbrev first_arm : Arms → ArmText
first_arm (LastArm k xs u) = record { constructor = k; variables = xs; line = u }
first_arm (NextArm k xs u arms) = record { constructor = k; variables = xs; line = u }

abbrev further_arms : Arms → List ArmText
further_arms (LastArm k xs u) = []
further_arms (NextArm k xs u arms) = first_arm arms ∷ further_arms arms

arms_are : (arms : Arms) → arms_of (first_arm arms) (further_arms arms) ≡ arms
arms_are (LastArm k xs u) = refl
arms_are (NextArm k xs u arms) = ap (NextArm k xs u) (arms_are arms)

-- What stands behind the first arm.
abbrev behind_first : Arms → List Token → List Token
behind_first (LastArm k xs u) rest = rest
behind_first (NextArm k xs u arms) rest = sign s.Semicolon ∷ spell_arms arms rest

arms_count : (arms : Arms) → count arms ≡ suc (length (further_arms arms))
arms_count (LastArm k xs u) = refl
arms_count (NextArm k xs u arms) = ap suc (arms_count arms)

further_enough : (arms : Arms) (rest : List Token) → length (further_arms arms) ≤ length (behind_first arms rest)
further_enough (LastArm k xs u) rest = omega arith
further_enough (NextArm k xs u arms) rest = (let a = arms_enough arms rest in let c = arms_count arms in omega (arith, a, c))

-- Arms are read before a closing brace.
record ReadsArms (at : Places) (arms : Arms) : Type 0 where
  first : (n : ℕ) (rest : List Token) → ArmsAt at arms n (sign s.CloseBrace ∷ rest) → arm_at at (parse at n) (spell_arms arms (sign s.CloseBrace ∷ rest)) ≡ done (first_arm arms) (behind_first arms (sign s.CloseBrace ∷ rest))
  further : (n : ℕ) (rest : List Token) → ArmsAt at arms n (sign s.CloseBrace ∷ rest) → (k : ℕ) → length (further_arms arms) ≤ k
      → many_at k (is_sign s.Semicolon) (next_arm_at at (parse at n)) (behind_first arms (sign s.CloseBrace ∷ rest)) ≡ done (further_arms arms) (sign s.CloseBrace ∷ rest)

arm_back : (at : Places) (sub : Reader Line) (k : Ident) (xs : List Ident) (u : Line) (left : List Token) → IsAt at k (spell_names xs (sign s.Arrow ∷ spell_line u left)) → NamesAt at xs (sign s.Arrow ∷ spell_line u left) → sub (spell_line u left) ≡ done u left
    → arm_at at sub (upper k ∷ spell_names xs (sign s.Arrow ∷ spell_line u left)) ≡ done (record { constructor = k; variables = xs; line = u }) left
unfolding arm_at
arm_back at sub k xs u left e f h =
    let ws : List Token = spell_line u left in
    let i : Ident = named at k.name (spell_names xs (sign s.Arrow ∷ ws)) in
    let arm : Ident → List Ident → Line → ArmText = λ k xs u. record { constructor = k; variables = xs; line = u } in
    ap (λ (z : Read (List Ident)). then_at z (λ xs ws. then_at (want s.Arrow ws) (λ _ ws. then_at (sub ws) (λ u ws. Ok (arm i xs u, ws))))) (names_back at xs ws f)
    ∙ (ap (λ (z : Read Line). then_at z (λ u ws. Ok (arm i xs u, ws))) h
    ∙ (λ j. done (arm (name_back at k (spell_names xs (sign s.Arrow ∷ ws)) e j) xs u) left))

last_back : (at : Places) (k : Ident) (xs : List Ident) (u : Line) → Reads at u → ReadsArms at (LastArm k xs u)
last_back at k xs u h = record {
  first = λ n rest e. arm_back at (parse at n) k xs u (sign s.CloseBrace ∷ rest) e.0 e.1 (h n (sign s.CloseBrace ∷ rest) (record { operands = refl; mark = refl }) e.2);
  further = λ n rest e fuel le. no_more fuel (is_sign s.Semicolon) (next_arm_at at (parse at n)) (sign s.CloseBrace ∷ rest) refl;
}

next_back : (at : Places) (k : Ident) (xs : List Ident) (u : Line) (arms : Arms) → Reads at u → ReadsArms at arms → ReadsArms at (NextArm k xs u arms)
unfolding many_at next_arm_at
next_back at k xs u arms h more = record { first = here; further = others }
  where
    here : (n : ℕ) (rest : List Token) → ArmsAt at (NextArm k xs u arms) n (sign s.CloseBrace ∷ rest) → arm_at at (parse at n) (spell_arms (NextArm k xs u arms) (sign s.CloseBrace ∷ rest)) ≡ done (first_arm (NextArm k xs u arms)) (sign s.Semicolon ∷ spell_arms arms (sign s.CloseBrace ∷ rest))
    here n rest e =
        let mid : List Token = sign s.Semicolon ∷ spell_arms arms (sign s.CloseBrace ∷ rest) in
        arm_back at (parse at n) k xs u mid e.0 e.1 (h n mid (record { operands = refl; mark = refl }) e.2)

    others : (n : ℕ) (rest : List Token) → ArmsAt at (NextArm k xs u arms) n (sign s.CloseBrace ∷ rest) → (fuel : ℕ) → suc (length (further_arms arms)) ≤ fuel
        → many_at fuel (is_sign s.Semicolon) (next_arm_at at (parse at n)) (sign s.Semicolon ∷ spell_arms arms (sign s.CloseBrace ∷ rest)) ≡ done (first_arm arms ∷ further_arms arms) (sign s.CloseBrace ∷ rest)
    others n rest e zero le = absurd (omega (arith, le))
    others n rest e (suc fuel) le =
        let left : Reader (List ArmText) = many_at fuel (is_sign s.Semicolon) (next_arm_at at (parse at n)) in
        ap (λ (z : Read ArmText). then_at z (λ a ts. then_at (left ts) (λ arms ts. Ok (a ∷ arms, ts)))) (more.first n rest e.3)
        ∙ ap (λ (z : Read (List ArmText)). then_at z (λ others ts. Ok (first_arm arms ∷ others, ts))) (more.further n rest e.3 fuel (omega (arith, le)))

arms_read : (at : Places) (arms : Arms) → ReadsArms at arms → (n : ℕ) (rest : List Token) → ArmsAt at arms n (sign s.CloseBrace ∷ rest) → arms_at at (parse at n) (spell_arms arms (sign s.CloseBrace ∷ rest)) ≡ done arms (sign s.CloseBrace ∷ rest)
unfolding arms_at many
arms_read at arms h n rest e =
    let end : List Token = sign s.CloseBrace ∷ rest in
    let more : Reader (List ArmText) = many (is_sign s.Semicolon) (next_arm_at at (parse at n)) in
    ap (λ (z : Read ArmText). then_at z (λ arm ws. then_at (more ws) (λ arms ws. Ok (arms_of arm arms, ws)))) (h.first n rest e)
    ∙ (ap (λ (z : Read (List ArmText)). then_at z (λ others ws. Ok (arms_of (first_arm arms) others, ws))) (h.further n rest e (length (behind_first arms end)) (further_enough arms end))
    ∙ ap (λ (x : Arms). done x end) (arms_are arms))

cased_back : (at : Places) (p : Span) (x : Ident) (arms : Arms) → ReadsArms at arms → Reads at (Cased p x arms)
unfolding parse
cased_back at p x arms h zero rest e l = absurd l
cased_back at p x arms h (suc n) rest e l =
    let left : List Token = spell_arms arms (sign s.CloseBrace ∷ rest) in
    let ws : List Token = sign s.Of ∷ sign s.OpenBrace ∷ left in
    let i : Ident = named at x.name ws in
    ap (λ (z : Read Arms). then_at z (λ arms left. then_at (want s.CloseBrace left) (λ _ left. Ok (Cased (before at (lower x ∷ ws)) i arms, left)))) (arms_read at arms h n rest l.2)
    ∙ (λ j. done (Cased (sym l.0 j) (name_back at x ws l.1 j) arms) rest)

chosen_back : (at : Places) (p : Span) (x : Operand) (u v : Line) → Reads at u → Reads at v → Reads at (Chosen p x u v)
unfolding parse
chosen_back at p x u v hu hv zero rest e l = absurd l
chosen_back at p x u v hu hv (suc n) rest e l =
    let w2 : List Token = sign s.Else ∷ spell_line v rest in
    let w1 : List Token = sign s.Then ∷ spell_line u w2 in
    let q : Span = before at (operand_word x ∷ w1) in
    let sub : Reader Line = parse at n in
    ap (λ (z : Read Operand). then_at z (λ x left. then_at (want s.Then left) (λ _ left. then_at (sub left) (λ u left. then_at (want s.Else left) (λ _ left. then_at (sub left) (λ v left. Ok (Chosen q x u v, left))))))) (operand_back at x w1 l.1)
    ∙ (ap (λ (z : Read Line). then_at z (λ u left. then_at (want s.Else left) (λ _ left. then_at (sub left) (λ v left. Ok (Chosen q x u v, left))))) (hu n w2 (record { operands = refl; mark = refl }) l.2)
    ∙ (ap (λ (z : Read Line). then_at z (λ v left. Ok (Chosen q x u v, left))) (hv n rest e l.3)
    ∙ (λ j. done (Chosen (sym l.0 j) x u v) rest)))

made_back : (at : Places) (k : Ident) (m : Mark) (xs : List Operand) → Reads at (Made k m xs)
unfolding parse
made_back at k m xs zero rest e l = absurd l
made_back at k m xs (suc n) rest e l =
    let ws : List Token = spell_operands xs rest in
    let i : Ident = named at k.name (spell_mark m ws) in
    ap (λ (z : Read Mark). then_at z (λ m left. then_at (operands_at at left) (λ xs left. Ok (Made i m xs, left)))) (mark_back at m ws l.1)
    ∙ (ap (λ (z : Read (List Operand)). then_at z (λ xs left. Ok (Made i m xs, left))) (operands_back at xs rest l.2 e.operands)
    ∙ (λ j. done (Made (name_back at k (spell_mark m ws) l.0 j) m xs) rest))

mutual
  unfolding parse

  pub line_back : (at : Places) (u : Line) → Reads at u
  line_back at (In p b u) zero rest e l = absurd l
  line_back at (In p (NewRegion r) u) (suc n) rest e l =
      let ws : List Token = sign s.In ∷ spell_line u rest in
      in_back (parse at n) (before at (lower r ∷ ws)) p (done (NewRegion (named at r.name ws)) ws) (NewRegion r) u rest (λ i. done (NewRegion (name_back at r ws l.1 i)) ws) (line_back at u n rest e l.2) l.0
  line_back at (In p (NewPlace x q) u) (suc n) rest e l =
      let ws : List Token = sign s.In ∷ spell_line u rest in
      let w1 : List Token = sign s.Equals ∷ spell_location q ws in
      let i : Ident = named at x.name w1 in
      in_back (parse at n) (before at (lower x ∷ w1)) p (then_at (location_at at (spell_location q ws)) (λ q ws. Ok (NewPlace i q, ws))) (NewPlace x q) u rest
      (ap (λ (z : Read Location). then_at z (λ q ws. Ok (NewPlace i q, ws))) (location_back at q ws l.1.1) ∙ (λ j. done (NewPlace (name_back at x w1 l.1.0 j) q) ws))
      (line_back at u n rest e l.2) l.0
  line_back at (In p (LetIn (Be x w m v)) u) (suc n) rest e l =
      let ws : List Token = sign s.In ∷ spell_line u rest in
      in_back (parse at n) (before at (spell_bound (Be x w m v) ws)) p (let_at at (parse at n) (spell_bound (Be x w m v) ws)) (LetIn (Be x w m v)) u rest
      (let_back at (parse at n) x w m v n ws l.1 (line_back at v n ws (record { operands = refl; mark = refl }) l.1.3)) (line_back at u n rest e l.2) l.0
  line_back at (In p (ParIn (Be x w o v) m (Be y z on q)) u) (suc n) rest e l =
      let ws : List Token = sign s.In ∷ spell_line u rest in
      let r : Bound = Be y z on q in
      let mid : List Token = sign s.And ∷ spell_between m (spell_bound r ws) in
      in_back (parse at n) (before at (sign s.Par ∷ spell_bound (Be x w o v) mid)) p (let_at at (parse at n) (sign s.Par ∷ spell_bound (Be x w o v) mid)) (ParIn (Be x w o v) m r) u rest
      (par_back at (parse at n) x w o v m y z on q n ws l.1 (line_back at v n mid (record { operands = refl; mark = refl }) l.1.0.3) (line_back at q n ws (record { operands = refl; mark = refl }) l.1.2.3))
      (line_back at u n rest e l.2) l.0
  line_back at (In p (PrimIn x w y f z) u) (suc n) rest e l =
      let ws : List Token = sign s.In ∷ spell_line u rest in
      let w1 : List Token = lower x ∷ sign s.Colon ∷ type_word w ∷ sign s.Equals ∷ sign s.Open ∷ operand_word y ∷ operator_word f ∷ operand_word z ∷ sign s.Close ∷ ws in
      in_back (parse at n) (before at w1) p (let_at at (parse at n) w1) (PrimIn x w y f z) u rest (prim_back at (parse at n) x w y f z n ws l.1) (line_back at u n rest e l.2) l.0
  line_back at (In p (ReachIn y q) u) (suc n) rest e l =
      let ws : List Token = sign s.In ∷ spell_line u rest in
      let w1 : List Token = t.Sign s.By ∷ spell_way q ws in
      let i : Ident = named at y.name w1 in
      in_back (parse at n) (before at (lower y ∷ w1)) p (then_at (way_at at (spell_way q ws)) (λ q ws. Ok (ReachIn i q, ws))) (ReachIn y q) u rest
      (ap (λ (z : Read Way). then_at z (λ q ws. Ok (ReachIn i q, ws))) (way_back at q ws l.1.1) ∙ (λ j. done (ReachIn (name_back at y w1 l.1.0 j) q) ws))
      (line_back at u n rest e l.2) l.0
  line_back at (Given p x) zero rest e l = absurd l
  line_back at (Given p x) (suc n) rest e l =
      ap (λ (z : Read Operand). then_at z (λ x left. Ok (Given (before at (operand_word x ∷ rest)) x, left))) (operand_back at x rest l.1) ∙ (λ i. done (Given (sym l.0 i) x) rest)
  line_back at (Pointed p x m) zero rest e l = absurd l
  line_back at (Pointed p x m) (suc n) rest e l =
      let ws : List Token = spell_mark m rest in
      let i : Ident = named at x.name ws in
      ap (λ (z : Read Mark). then_at z (λ m left. Ok (Pointed (before at (lower x ∷ ws)) i m, left))) (mark_back at m rest l.2) ∙ (λ j. done (Pointed (sym l.0 j) (name_back at x ws l.1 j) m) rest)
  line_back at (Called f xs m) zero rest e l = absurd l
  line_back at (Called f xs m) (suc n) rest e l = call_back at f xs m rest e l.0 l.1 l.2
  line_back at (Made k m xs) n rest e l = made_back at k m xs n rest e l
  line_back at (Cased p x arms) n rest e l = cased_back at p x arms (arms_back at arms) n rest e l
  line_back at (Chosen p x u v) n rest e l = chosen_back at p x u v (line_back at u) (line_back at v) n rest e l

  arms_back : (at : Places) (arms : Arms) → ReadsArms at arms
  arms_back at (LastArm k xs u) = last_back at k xs u (line_back at u)
  arms_back at (NextArm k xs u arms) = next_back at k xs u arms (line_back at u) (arms_back at arms)

-- Words spell one term at most that stands where they stand.
pub one_line : (at : Places) (u v : Line) (n : ℕ) (rest : List Token) → Follows at rest → LineAt at u n rest → LineAt at v n rest → spell_line u rest ≡ spell_line v rest → u ≡ v
one_line at u v n rest e l k same = (ok_parts u v rest rest (sym (line_back at u n rest e l) ∙ (ap (λ ws. parse at n ws) same ∙ line_back at v n rest e k))).0
