-- Which arms read offsets that heads store.
use Rattle.std.specs.Prelude.{Bool, true, false, ◌||◌, if◌then◌else◌, List, [], ◌∷◌, ◌++◌}
use Rattle.std.specs.List.{flat_map}
use Rattle.gib_types.specs.declared.table.ConId.{ConId}
use Rattle.gib_core.specs.declared.atom.Access.TheVariants.{Offset, Skip, End}
use Rattle.gib_core.specs.Tree.{Term, Then, Write, Point, CallTerm, Give, CaseTerm, IfTerm, Tuple, PartTerms, NoPart, PartThen, Bind, Past, One, Both, Prim, Reach, Side, On, Several, Branches, NoBranch, BranchThen, FunctionTerm, CoreTree}

-- A binding reads an offset.
abbrev pub is_by_offset : Bind → Bool
is_by_offset (Past h k) = false
is_by_offset (One s) = false
is_by_offset (Both fork l r) = false
is_by_offset (Prim x f y z) = false
is_by_offset (Reach y Offset) = true
is_by_offset (Reach y (Skip z)) = false
is_by_offset (Reach y (End z)) = false

-- One of the bindings of a line does.
abbrev pub line_reads : Term → Bool
line_reads (Then b t) = is_by_offset b || line_reads t
line_reads (Write h k ss ps) = false
line_reads (Point x) = false
line_reads (CallTerm f xs) = false
line_reads (Give x) = false
line_reads (CaseTerm x bs) = false
line_reads (IfTerm x t u) = false
line_reads (Tuple tys ss ps) = false

abbrev mutual
  -- The constructors of arms in whose own line an offset is read, in the order of the text, each as often as it has such an arm.
  pub read_in : Term → List ConId
  read_in (Then b t) = bind_read b ++ read_in t
  read_in (Write h k ss ps) = []
  read_in (Point x) = []
  read_in (CallTerm f xs) = []
  read_in (Give x) = []
  read_in (CaseTerm x bs) = branch_read bs
  read_in (IfTerm x t u) = read_in t ++ read_in u
  read_in (Tuple tys ss ps) = parts_read ps

  -- Those in a binding.
  pub bind_read : Bind → List ConId
  bind_read (Past h k) = []
  bind_read (One s) = side_read s
  bind_read (Both fork l r) = side_read l ++ side_read r
  bind_read (Prim x f y z) = []
  bind_read (Reach y by) = []

  -- Those in a side's term.
  pub side_read : Side → List ConId
  side_read (On kind x ty t) = read_in t
  side_read (Several xs tys t) = read_in t

  -- Those in the terms of parts.
  pub parts_read : PartTerms → List ConId
  parts_read NoPart = []
  parts_read (PartThen t ps) = read_in t ++ parts_read ps

  -- Those of branches, and in them.
  pub branch_read : Branches → List ConId
  branch_read NoBranch = []
  branch_read (BranchThen k xs t rest) = (if line_reads t then k ∷ [] else []) ++ (read_in t ++ branch_read rest)

-- Those of a core.
abbrev pub read_core : CoreTree → List ConId
read_core core = flat_map (λ (f : FunctionTerm). read_in f.body) core.functions ++ read_in core.main.body
