-- The places of the arms of a `case`.
use Rattle.std.specs.Prelude.{ℕ, ◌-◌, ◌==◌, nat_lt, Bool, false, if◌then◌else◌, List, [], ◌∷◌, Option, Some, None}
use Rattle.gib_types.specs.Table.{Table}
use Rattle.gib_syntax.specs.declared.exprs.Arm.{Arm}
use Rattle.gib_syntax.specs.Tree.{Expression, Var, Num, Bit, Paren, Op, Call, Make, Let, Par, If, Case, Tuple, LetSeveral, ParSeveral}
use Rattle.gib_syntax.specs.Declarations.{number_of, next_place, constructor_named}
use Rattle.gib_syntax.specs.Typing.{arm_names}
use Rattle.gib_check.specs.declared.arm_index.ArmIndex.{ArmIndex}
use Rattle.gib_check.specs.Entries.{entry_at}

-- The constructor is there and has this number.
abbrev pub is_number : Option ℕ → ℕ → Bool
is_number None con = false
is_number (Some c) con = c == con

-- The place of the first of these names that is the name of this constructor.
abbrev pub place_named : Table → List ℕ → ℕ → Option ℕ
place_named table [] con = None
place_named table (k ∷ ks) con = if is_number (constructor_named table k) con then Some 0 else next_place (place_named table ks con)

-- The names of the constructors of the arms of a `case`, in the order of the text; of another expression none.
abbrev pub case_names : Expression → List ℕ
case_names (Var x) = []
case_names (Num p n) = []
case_names (Bit p b) = []
case_names (Paren p e) = []
case_names (Op p f a b) = []
case_names (Call f xs) = []
case_names (Make k xs) = []
case_names (Let p x a b) = []
case_names (Par p x a y b c) = []
case_names (If p a b c) = []
case_names (Case p x arms) = arm_names arms
case_names (Tuple p as' xs) = []
case_names (LetSeveral p qs a b) = []
case_names (ParSeveral p qs a rs b c) = []

-- The name of an arm's constructor.
abbrev pub arm_name : Arm → ℕ
arm_name arm = number_of arm.constructor

-- What an index says of a constructor, where its places begin at a lowest one.
abbrev pub place_above : ℕ → List (Option ℕ) → ℕ → Option ℕ
place_above lowest places con = if nat_lt con lowest then None else entry_at places (con - lowest)

-- What an index says of a constructor.
abbrev pub place_in : ArmIndex → ℕ → Option ℕ
place_in index con = place_above index.lowest index.places con
