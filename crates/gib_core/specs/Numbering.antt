-- The numbers of variables: they count in the order in which the text binds them.
use Rattle.std.specs.Prelude.{◌≡◌, ℕ, List, [], ◌∷◌, ◌++◌, map, length}
use Rattle.std.specs.List.{AllByRecursion}
use Rattle.gib_core.specs.declared.atom.Variable.{Variable}
use Rattle.gib_core.specs.Tree.{Term, Bind, Side, PartTerms, Branches, CoreTree}
use Rattle.gib_types.specs.Table.{numbers_from}
use Rattle.gib_core.specs.Met.{PastLine, SideLine, PrimLine, SeveralLine, Body, bodies}
use Rattle.gib_core.specs.Walk.{Entry, AtLine, AtArm, walk, walk_bind, walk_side, walk_parts, walk_branches}

-- The numbers of the variables that an entry binds. A head is bound too; to reach binds none.
abbrev pub numbers_in : Entry → List ℕ
numbers_in (AtLine (PastLine h k)) = h.0 ∷ []
numbers_in (AtLine (SideLine kind x ty)) = x.0 ∷ []
numbers_in (AtLine (PrimLine x f y z)) = x.0 ∷ []
numbers_in (AtLine (SeveralLine xs tys)) = map (λ (x : Variable). x.0) xs
numbers_in (AtArm k xs) = map (λ (x : Variable). x.0) xs
numbers_in l = []

-- The numbers of the variables that a term binds, in the order of the text; those of a binding, of a side, of parts, of branches.
abbrev pub binders : Term → List ℕ
binders t = walk (◌++◌) [] numbers_in t

-- The numbers that a binding binds.
abbrev pub bind_binders : Bind → List ℕ
bind_binders b = walk_bind (◌++◌) [] numbers_in b

-- The numbers that a side binds, its own first.
abbrev pub side_binders : Side → List ℕ
side_binders s = walk_side (◌++◌) [] numbers_in s

-- The numbers that parts bind.
abbrev pub part_binders : PartTerms → List ℕ
part_binders ps = walk_parts (◌++◌) [] numbers_in ps

-- The numbers that branches bind.
abbrev pub branch_binders : Branches → List ℕ
branch_binders bs = walk_branches (◌++◌) [] numbers_in bs

-- The parameters of a body are its first variables, from 0 on; the others follow in the order of the text.
abbrev pub IsNumbered : Body → Type 0
IsNumbered b = binders b.term ≡ numbers_from (length b.parameters) (length (binders b.term))

-- The variables of each body are numbered in the order of the text.
abbrev pub AreNumbered : CoreTree → Type 0
AreNumbered core = AllByRecursion IsNumbered (bodies core)
