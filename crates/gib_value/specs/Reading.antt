-- How a value text is read: token by token, where the first token that can't stand is refused.
use Rattle.std.specs.Prelude.{◌≡◌, ◌≤◌, ◌<◌, ◌⊎◌, ℕ, ◌+◌, ◌-◌, ℤ, map, FitsSigned, List, [], ◌∷◌, ◌++◌, length, take, drop, Bool, true, ◌||◌, ◌==◌, if◌then◌else◌, Some, Result, Ok, Err}
use Rattle.std.specs.Int.{w64}
use Rattle.std.specs.List.{prefix_len, list_all, AllByRecursion}
use Rattle.std.proofs.Common.{inl, inr}
use Rattle.std.specs.Char.{is_ascii_digit, is_ascii_alphabetic}
use Rattle.std.specs.Fmt.{signed_decimal}
use Rattle.gib_base.specs.Piece.{is_name_byte}
use Rattle.gib_types.specs.declared.table.TyId.{TyId}
use Rattle.gib_types.specs.declared.table.ConId.{ConId}
use Rattle.gib_types.specs.declared.table.Ty.{Ty}
use Rattle.gib_types.specs.declared.table.Ty.TheVariants.{Whole, Truth, Tree}
use Rattle.gib_types.specs.Table.{Table, con_at, fields_at}
use Rattle.gib_types.specs.Tree.{Datum, whole, truth, con, none, data_of, HasType}
use Rattle.gib_value.specs.Due.{Due, Value, Name, Space, Close}
use Rattle.gib_value.specs.declared.fault.TextFault.{TextFault}
use Rattle.gib_value.specs.declared.fault.TextFault.TheVariants as fault
use Rattle.gib_value.specs.declared.node.Node.{Node}
use Rattle.gib_value.specs.declared.node.Node.TheVariants as node
use Rattle.gib_value.specs.Heap.{value_of, IsWithin}
use Rattle.gib_value.specs.Text.{truth_text, con_text, text, AreHeld}

-- A word: a letter, and then letters, digits and `_`.
abbrev pub IsWord : List ℕ → Type 0
IsWord [] = ⊥
IsWord (b ∷ rest) = (is_ascii_alphabetic b ≡ true) × (list_all is_name_byte rest ≡ true)

-- The names of all constructors are words.
abbrev pub AreWords : Table → List (List ℕ) → Type 0
AreWords table names = (k : ℕ) → k < length table.rows → IsWord (con_text table names k)

-- Constructors of one type have different names.
abbrev pub AreApart : Table → List (List ℕ) → Type 0
AreApart table names = (t k j : ℕ) → con_at table t k ≡ Some k → con_at table t j ≡ Some j → con_text table names k ≡ con_text table names j → k ≡ j

-- The names of all constructors are held, and those of one type are different.
pub record AreTold (table : Table) (names : List (List ℕ)) : Type 0 where
  pub held : AreHeld table names
  pub apart : AreApart table names

-- The length of the token at the front: a word, a number with or without a `-` (45), a parenthesis (40, 41)
-- or a space (32). It is 0 where no token begins.
abbrev pub token_len : List ℕ → ℕ
token_len [] = 0
token_len (b ∷ rest) =
    if is_ascii_alphabetic b then 1 + prefix_len is_name_byte rest
    else (if is_ascii_digit b || b == 45 then 1 + prefix_len is_ascii_digit rest
    else (if b == 40 || b == 41 || b == 32 then 1
    else 0))

-- The token at the front.
abbrev pub first_token : List ℕ → List ℕ
first_token bytes = take (token_len bytes) bytes

-- The bytes are these tokens, each as long as can be, and then the rest.
abbrev pub Cut : List ℕ → List (List ℕ) → List ℕ → Type 0
Cut bytes [] rest = bytes ≡ rest
Cut bytes (token ∷ tokens) rest = (0 < token_len bytes) × (token ≡ first_token bytes) × Cut (drop (token_len bytes) bytes) tokens rest

-- What is wanted after a constructor's name: each field after a space, and the closing parenthesis.
abbrev pub fields_wanted : ConId → List Ty → List Due
fields_wanted k [] = Close k ∷ []
fields_wanted k (t ∷ ts) = Space ∷ Value t ∷ fields_wanted k ts

-- The token is the name of a constructor of the type without fields, and nothing more is wanted.
pub record IsBare (table : Table) (names : List (List ℕ)) (t : TyId) (token : List ℕ) (more : List Due) : Type 0 where
  pub con : ConId
  pub own : con_at table t.0 con.0 ≡ Some con.0
  pub bare : length (fields_at table con.0) ≡ 0
  pub is : token ≡ con_text table names con.0
  pub after : more ≡ []

-- The token opens a constructor of the type, which has one with fields; then its name is wanted.
pub record IsOpening (table : Table) (t : TyId) (token : List ℕ) (more : List Due) : Type 0 where
  pub con : ConId
  pub own : con_at table t.0 con.0 ≡ Some con.0
  pub some : 0 < length (fields_at table con.0)
  pub is : token ≡ 40 ∷ []
  pub after : more ≡ Name t ∷ []

-- The token is the name of a constructor of the type with fields, which are wanted then.
pub record IsFull (table : Table) (names : List (List ℕ)) (t : TyId) (token : List ℕ) (more : List Due) : Type 0 where
  pub con : ConId
  pub own : con_at table t.0 con.0 ≡ Some con.0
  pub some : 0 < length (fields_at table con.0)
  pub is : token ≡ con_text table names con.0
  pub after : more ≡ fields_wanted con (fields_at table con.0)

-- The token is the text of a number, and nothing more is wanted.
pub record IsNumber (token : List ℕ) (more : List Due) : Type 0 where
  pub z : ℤ
  pub fits : FitsSigned w64 z
  pub is : token ≡ signed_decimal z
  pub after : more ≡ []

-- The token is a truth value, and nothing more is wanted.
pub record IsTruth (token : List ℕ) (more : List Due) : Type 0 where
  pub b : Bool
  pub is : token ≡ truth_text b
  pub after : more ≡ []

-- The token can stand where this is wanted, and then more is wanted in its place.
abbrev pub CanStand : Table → List (List ℕ) → Due → List ℕ → List Due → Type 0
CanStand table names Space token more = (token ≡ 32 ∷ []) × (more ≡ [])
CanStand table names (Close k) token more = (token ≡ 41 ∷ []) × (more ≡ [])
CanStand table names (Value Whole) token more = IsNumber token more
CanStand table names (Value Truth) token more = IsTruth token more
CanStand table names (Value (Tree t)) token more = IsBare table names t token more ⊎ IsOpening table t token more
CanStand table names (Name t) token more = IsFull table names t token more

-- All these tokens can stand where these are wanted, and then those are wanted.
abbrev pub Stand : Table → List (List ℕ) → List Due → List (List ℕ) → List Due → Type 0
Stand table names wanted [] after = wanted ≡ after
Stand table names [] (token ∷ tokens) after = ⊥
Stand table names (w ∷ wanted) (token ∷ tokens) after = (more : List Due) × CanStand table names w token more × Stand table names (more ++ wanted) tokens after

-- What stands here can't: nothing is wanted and the text goes on, or no token stands here that can.
abbrev pub IsStuck : Table → List (List ℕ) → List Due → List ℕ → Type 0
IsStuck table names [] rest = rest ≡ [] → ⊥
IsStuck table names (w ∷ wanted) rest = 0 < token_len rest → (more : List Due) → CanStand table names w (first_token rest) more → ⊥

-- All tokens before the place can stand in a text of the type, and what stands at the place can't.
pub record IsRefusedAt (table : Table) (names : List (List ℕ)) (ty : Ty) (bytes : List ℕ) (place : ℕ) : Type 0 where
  pub within : place ≤ length bytes
  pub tokens : List (List ℕ)
  pub wanted : List Due
  pub cut : Cut bytes tokens (drop place bytes)
  pub stand : Stand table names (Value ty ∷ []) tokens wanted
  pub stuck : IsStuck table names wanted (drop place bytes)

-- The bytes are the text of the value, which is of the type.
pub record IsTextOf (table : Table) (names : List (List ℕ)) (ty : Ty) (v : Datum) (bytes : List ℕ) : Type 0 where
  pub typed : HasType table v ty
  pub is : bytes ≡ text table names v

-- What reading answers.
abbrev pub ReadsTo : Table → List (List ℕ) → Ty → List ℕ → Result Datum TextFault → Type 0
ReadsTo table names ty bytes (Ok v) = IsTextOf table names ty v bytes
ReadsTo table names ty bytes (Err fault.Memory) = Unit {0}
ReadsTo table names ty bytes (Err (fault.At place)) = IsRefusedAt table names ty bytes place

-- The type has a constructor with fields.
pub record HasFull (table : Table) (t : TyId) : Type 0 where
  pub con : ConId
  pub own : con_at table t.0 con.0 ≡ Some con.0
  pub some : 0 < length (fields_at table con.0)

-- A constructor takes the last of these values as its fields.
abbrev pub closed : ℕ → ℕ → List Datum → List Datum
closed k count vs = take (length vs - count) vs ++ con k (data_of (drop (length vs - count) vs)) ∷ []

-- The values with those that a token adds.
abbrev pub values_after : (table : Table) (names : List (List ℕ)) (w : Due) (token : List ℕ) (more : List Due) → CanStand table names w token more → List Datum → List Datum
values_after table names Space token more can vs = vs
values_after table names (Close k) token more can vs = closed k.0 (length (fields_at table k.0)) vs
values_after table names (Value Whole) token more can vs = vs ++ whole can.z ∷ []
values_after table names (Value Truth) token more can vs = vs ++ truth can.b ∷ []
values_after table names (Value (Tree t)) token more (inl bare) vs = vs ++ con bare.con.0 none ∷ []
values_after table names (Value (Tree t)) token more (inr opening) vs = vs
values_after table names (Name t) token more can vs = vs

-- The token can stand; what it leaves wanted is put before what was wanted after it, and the values that it
-- adds after those before it. All values stand in the heap.
pub record Steps (table : Table) (names : List (List ℕ)) (w : Due) (token : List ℕ) (heap later : List Datum) (done next : List Node) (wanted left : List Due) : Type 0 where
  pub more : List Due
  pub can : CanStand table names w token more
  pub goes_on : left ≡ more ++ wanted
  pub values : map (value_of later) next ≡ values_after table names w token more can (map (value_of heap) done)
  pub held : AllByRecursion (IsWithin (length later)) next

-- The token can't stand where this is wanted.
abbrev pub Refuses : Table → List (List ℕ) → Due → List ℕ → Type 0
Refuses table names w token = (more : List Due) → CanStand table names w token more → ⊥

-- The token is the whole text of a value of the type, and the node is this value.
abbrev pub IsLeaf : Table → List (List ℕ) → Ty → List ℕ → Node → Type 0
IsLeaf table names Whole token n = (z : ℤ) × FitsSigned w64 z × (token ≡ signed_decimal z) × (n ≡ node.Whole z)
IsLeaf table names Truth token n = (b : Bool) × (token ≡ truth_text b) × (n ≡ node.Truth b)
IsLeaf table names (Tree t) token n = (k : ConId) × (con_at table t.0 k.0 ≡ Some k.0) × (length (fields_at table k.0) ≡ 0) × (token ≡ con_text table names k.0) × (n ≡ node.Con k 0 0)

-- The token opens a constructor of the type, which has one with fields.
abbrev pub Opens : Table → Ty → List ℕ → TyId → Type 0
Opens table Whole token t = ⊥
Opens table Truth token t = ⊥
Opens table (Tree own) token t = (own ≡ t) × (token ≡ 40 ∷ []) × HasFull table t

-- There are values for the fields of a constructor that ends here.
abbrev pub IsReady : Table → Due → ℕ → Type 0
IsReady table (Value ty) count = Unit {0}
IsReady table (Name t) count = Unit {0}
IsReady table Space count = Unit {0}
IsReady table (Close k) count = (k.0 < length table.rows) × (length (fields_at table k.0) ≤ count)
