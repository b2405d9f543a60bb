-- The literals of a core are numbers of 64 bits.
use Rattle.std.specs.Prelude.{FitsSigned}
use Rattle.std.specs.Int.{w64}
use Rattle.std.specs.List.{AllByRecursion}
use Rattle.gib_core.specs.declared.atom.Atom.{Atom}
use Rattle.gib_core.specs.declared.atom.Atom.TheVariants as a
use Rattle.gib_core.specs.declared.node.Binding.{Binding}
use Rattle.gib_core.specs.declared.node.Binding.TheVariants as b
use Rattle.gib_core.specs.declared.node.Node.{Node}
use Rattle.gib_core.specs.declared.node.Node.TheVariants as n
use Rattle.gib_core.specs.Tree.{Term, CoreTree}
use Rattle.gib_core.specs.Met.{PrimLine, WriteLine, CallLine, GiveLine, TupleLine, Body, bodies}
use Rattle.gib_core.specs.Walk.{Entry, AtLine, Each}

-- An atom that is a number has 64 bits.
abbrev pub LiteralFits : Atom → Type 0
LiteralFits (a.Variable x) = Unit {0}
LiteralFits (a.Whole z) = FitsSigned w64 z
LiteralFits (a.Truth b) = Unit {0}

-- The numbers of an entry have 64 bits.
abbrev pub EntryLiterals : Entry → Type 0
EntryLiterals (AtLine (PrimLine x f y z)) = LiteralFits y × LiteralFits z
EntryLiterals (AtLine (WriteLine h k ss ps)) = AllByRecursion LiteralFits ss
EntryLiterals (AtLine (CallLine f xs)) = AllByRecursion LiteralFits xs
EntryLiterals (AtLine (GiveLine x)) = LiteralFits x
EntryLiterals (AtLine (TupleLine tys ss packed)) = AllByRecursion LiteralFits ss
EntryLiterals l = Unit {0}

-- The numbers of a term have 64 bits.
abbrev pub LiteralsFit : Term → Type 0
LiteralsFit t = Each EntryLiterals t

-- The literals of each body fit.
abbrev pub AllLiteralsFit : CoreTree → Type 0
AllLiteralsFit core = AllByRecursion (λ (b : Body). LiteralsFit b.term) (bodies core)

-- The literals of a binding itself, without those of its terms, are numbers of 64 bits.
abbrev pub BindingLiterals : Binding → Type 0
BindingLiterals (b.Past h k) = Unit {0}
BindingLiterals (b.One s) = Unit {0}
BindingLiterals (b.Par fork l r) = Unit {0}
BindingLiterals (b.Prim x f y z) = LiteralFits y × LiteralFits z
BindingLiterals (b.Reach y by) = Unit {0}

-- The literals of a node itself are numbers of 64 bits.
abbrev pub NodeLiterals : Node → Type 0
NodeLiterals (n.Then binding rest) = BindingLiterals binding
NodeLiterals (n.Write h k ss ps) = AllByRecursion LiteralFits ss.items
NodeLiterals (n.Point x) = Unit {0}
NodeLiterals (n.Call f xs) = AllByRecursion LiteralFits xs.items
NodeLiterals (n.Give x) = LiteralFits x
NodeLiterals (n.Case x branches) = Unit {0}
NodeLiterals (n.If x t u) = Unit {0}
NodeLiterals (n.Tuple tys ss ps) = AllByRecursion LiteralFits ss.items
