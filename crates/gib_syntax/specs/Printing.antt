-- Parts of programs as tokens, in the groups in which they are printed.
use Rattle.std.specs.Prelude.{ℕ, List, [], ◌∷◌}
use Rattle.gib_base.specs.declared.token.Sign.TheVariants as s
use Rattle.gib_base.specs.declared.token.Token.{Token}
use Rattle.gib_base.specs.declared.token.Token.TheVariants as t
use Rattle.gib_syntax.specs.declared.tree.Ident.{Ident}
use Rattle.gib_syntax.specs.declared.exprs.Arm.{Arm}
use Rattle.gib_syntax.specs.declared.generic.GenericNode.{GenericNode as Node}
use Rattle.gib_syntax.specs.declared.generic.GenericNode.TheVariants as n
use Rattle.gib_syntax.specs.GenericTree.{GenericExpression}
use Rattle.gib_syntax.specs.Spelling.{spell, spell_variables, spell_arms}
use Rattle.gib_syntax.specs.GenericArena.{arms_from}

-- One arm.
abbrev pub spell_arm : (ℕ → GenericExpression) → Arm → List Token → List Token
spell_arm f arm rest = t.Constructor arm.constructor.name ∷ spell_variables arm.variables.items (t.Sign s.Arrow ∷ spell (f arm.body.0) rest)

-- Further arms, each behind a semicolon.
abbrev pub spell_further : (ℕ → GenericExpression) → List Arm → List Token → List Token
spell_further f [] rest = rest
spell_further f (arm ∷ arms) rest = t.Sign s.Semicolon ∷ spell_arm f arm (spell_further f arms rest)

-- All arms of a case.
abbrev pub spell_all_arms : (ℕ → GenericExpression) → List Arm → List Token → List Token
spell_all_arms f [] rest = rest
spell_all_arms f (arm ∷ arms) rest = spell_arms (arms_from f arm arms) rest

-- A case of these arms.
abbrev pub spell_case : (ℕ → GenericExpression) → Ident → List Arm → List Token → List Token
spell_case f x arms rest = t.Sign s.Case ∷ t.Variable x.name ∷ t.Sign s.Of ∷ t.Sign s.OpenBrace ∷ spell_all_arms f arms (t.Sign s.CloseBrace ∷ rest)

-- The expression binds names, alone or in parallel.
abbrev pub Binds : Node → Type 0
Binds (n.Let p xs a b) = Unit {0}
Binds (n.LetPar p l r b) = Unit {0}
Binds node = ⊥

-- The expression goes on by what a value is.
abbrev pub Chooses : Node → Type 0
Chooses (n.If p a b c) = Unit {0}
Chooses (n.Case p x arms) = Unit {0}
Chooses node = ⊥
