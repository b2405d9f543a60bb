-- Families of instructions, by what they are for.
use Rattle.gib_code.specs.Instruction as i
use Rattle.gib_code.specs.Instruction.{Instruction}

-- What an instruction is for.
pub data Family : Type 0 where
  -- a slot is set from others, from a head or from an address
  Setting : Family
  -- a value is put into a region
  Putting : Family
  -- the code goes on at a label
  Jumping : Family
  -- a call begins or ends
  Calling : Family
  -- a side begins or ends
  Forking : Family
  -- where the value of a variable ends
  Telling : Family
  -- a part of a result is put, given or taken
  Parting : Family

-- The family of an instruction.
abbrev pub family_of : Instruction → Family
family_of (i.Move d s) = Setting
family_of (i.Operate d f s t) = Setting
family_of (i.Jump l) = Jumping
family_of (i.Unless s l) = Jumping
family_of (i.Switch x arms) = Jumping
family_of (i.Whole d x p) = Setting
family_of (i.Truth d x p) = Setting
family_of (i.First d x p) = Setting
family_of (i.Offset d x p) = Setting
family_of (i.Skip d y) = Setting
family_of (i.Begin d) = Putting
family_of i.Done = Putting
family_of (i.Here d) = Putting
family_of (i.Past h k) = Putting
family_of (i.Fill h k ss ps) = Putting
family_of (i.Point x) = Putting
family_of (i.Call f ss) = Calling
family_of (i.CallScalar d f ss) = Calling
family_of i.Return = Calling
family_of (i.Give s) = Calling
family_of (i.Fork r j kind xs result) = Forking
family_of i.Join = Forking
family_of i.Back = Forking
family_of (i.Got z k) = Telling
family_of (i.OverEnd x y) = Telling
family_of (i.LeafEnd x k) = Telling
family_of (i.EndOf d z) = Telling
family_of (i.Into n k) = Parting
family_of (i.Out n k) = Parting
family_of (i.GiveParts ss) = Parting
family_of (i.Part d n) = Parting
