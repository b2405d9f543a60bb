-- What a term says of variables, in the order of the text: which it binds, and which atoms it uses.
use Rattle.std.specs.Prelude.{ℕ, ◌+◌, List, [], ◌∷◌, ◌++◌, map}
use Rattle.gib_core.specs.declared.atom.Atom.{Atom}
use Rattle.gib_core.specs.declared.atom.Variable.{Variable}
use Rattle.gib_core.specs.Tree.{Term}
use Rattle.gib_core.specs.Met.{PastLine, SideLine, PrimLine, WriteLine, PointLine, CallLine, GiveLine, CaseLine, IfLine, SeveralLine, TupleLine}
use Rattle.gib_core.specs.Walk.{Entry, AtLine, AtArm, walk}
use Rattle.gib_core.specs.declared.mentions.Mention.{Mention}
use Rattle.gib_core.specs.declared.mentions.Mention.TheVariants.{Bound, Used}
use Rattle.gib_core.specs.Counting.{count_atom}

-- Variables that are bound.
abbrev pub all_bound : List Variable → List Mention
all_bound xs = map (λ (x : Variable). Bound x) xs

-- Atoms that are used.
abbrev pub all_used : List Atom → List Mention
all_used xs = map (λ (x : Atom). Used x) xs

-- What an entry says. A head is bound too; to reach says nothing.
abbrev pub says : Entry → List Mention
says (AtLine (PastLine h k)) = Bound h ∷ []
says (AtLine (SideLine kind x ty)) = Bound x ∷ []
says (AtLine (PrimLine x f y z)) = Bound x ∷ Used y ∷ Used z ∷ []
says (AtLine (WriteLine h k ss ps)) = all_used ss ++ all_used ps
says (AtLine (PointLine x)) = Used x ∷ []
says (AtLine (CallLine f xs)) = all_used xs
says (AtLine (GiveLine x)) = Used x ∷ []
says (AtLine (CaseLine x arms)) = Used x ∷ []
says (AtLine (IfLine x)) = Used x ∷ []
says (AtLine (SeveralLine xs tys)) = all_bound xs
says (AtLine (TupleLine tys ss packed)) = all_used ss
says (AtArm k xs) = all_bound xs
says l = []

-- What a term says, itself and in the terms that are nested in it.
abbrev pub mentions : Term → List Mention
mentions t = walk (◌++◌) [] says t

-- The number of the variable that is bound.
abbrev pub binder : Mention → List ℕ
binder (Bound x) = x.0 ∷ []
binder (Used y) = []

-- The numbers of the variables that are bound.
abbrev pub binders_in : List Mention → List ℕ
binders_in [] = []
binders_in (m ∷ ms) = binder m ++ binders_in ms

-- How often a variable is used.
abbrev pub use_of : Mention → Variable → ℕ
use_of (Bound y) x = 0
use_of (Used y) x = count_atom x y

-- How often a variable is used in all.
abbrev pub uses_in : List Mention → Variable → ℕ
uses_in [] x = 0
uses_in (m ∷ ms) x = use_of m x + uses_in ms x
