-- What the copied program has, for each thing that was asked for.
use Rattle.std.specs.Prelude.{◌≡◌, ℕ, List, map, slice_get, Some}
use Rattle.std.specs.List.{AllByRecursion}
use Rattle.gib_types.specs.declared.table.Ty.{Ty}
use Rattle.gib_types.specs.declared.table.Ty.TheVariants.{Tree}
use Rattle.gib_types.specs.Table.{con_at, owner_at, fields_at}
use Rattle.gib_types.specs.Tree.{Datum, whole, truth, con, Data, none, more}
use Rattle.gib_syntax.specs.Declarations.{number_of, constructor_named, function_named}
use Rattle.gib_syntax.specs.Typing.{Globals, Scope}
use Rattle.gib_syntax.specs.Meaning.{Outcome, Gives, Stops, Environment}
use Rattle.gib_syntax.specs.Forms.{Form, Forms, WholeForm, TruthForm, VariableForm, DataForm, NoForm, MoreForms, Meant, formed_all, assign}
use Rattle.gib_syntax.specs.GenericTree.{GenericExpression, GenericArguments, GenericArms, GenericVar, GenericNum, GenericBit, GenericParen, GenericOp, GenericCall, GenericMake, GenericLet, GenericPar, GenericIf, GenericCase, GenericTuple, GenericNoArgument, GenericArgument, GenericLastArm, GenericNextArm, GenericFunctionTree, GenericRow, GenericGlobals, place_named, generic_named}
use Rattle.gib_syntax.specs.Results.{Results, One, Several, list_results}
use Rattle.gib_syntax.specs.GenericTyping.{FormScope, form_in, field_forms, parameter_forms, result_forms}
use Rattle.gib_mono.specs.Copying.{Naming, plain_type, owner_named, copy_function}

-- A type or a function with a list of types.
pub record Item : Type 0 where
  pub name : ℕ
  pub types : Forms

-- It is one of these.
abbrev pub IsItem : List Item → ℕ → Forms → Type 0
IsItem items x ts = (i : ℕ) × (slice_get items i ≡ Some (record { name = x; types = ts }))

abbrev mutual
  -- The type has no variable, and all declared types in it are among these.
  pub IsHere : List Item → Form → Type 0
  IsHere types WholeForm = Unit {0}
  IsHere types TruthForm = Unit {0}
  IsHere types (VariableForm x) = ⊥
  IsHere types (DataForm t ts) = IsItem types t ts × AreHere types ts

  -- So it is of each of these types.
  pub AreHere : List Item → Forms → Type 0
  AreHere types NoForm = Unit {0}
  AreHere types (MoreForms f fs) = IsHere types f × AreHere types fs

-- A program and its copy: the types and functions that were asked for, what the copy declares, and the constructor that each
-- copied one is a copy of.
pub record Setting : Type 0 where
  pub from : GenericGlobals
  pub naming : Naming
  pub to : Globals
  pub base : ℕ → ℕ
  pub types : List Item
  pub functions : List Item

-- A type of the copy.
abbrev pub plain : Setting → Form → Ty
plain s f = plain_type s.naming s.to.table.types f

-- The copy of a constructor: its number, its type, its fields.
pub record IsCopyOf (s : Setting) (c : ℕ) (row : GenericRow) (ts : Forms) (k d : ℕ) : Type 0 where
  pub named : constructor_named s.to.table (s.naming.constructors k ts) ≡ Some d
  pub shown : s.base d ≡ c
  pub owner : Tree (record { 0 = owner_at s.to.table d }) ≡ plain s (DataForm row.owner ts)
  pub fields : fields_at s.to.table d ≡ map (plain s) (field_forms row ts)

abbrev mutual
  -- All uses in an expression are among the types and functions that were asked for.
  pub IsAsked : Setting → Meant → GenericExpression → Type 0
  IsAsked s m (GenericVar x) = Unit {0}
  IsAsked s m (GenericNum p n) = Unit {0}
  IsAsked s m (GenericBit p b) = Unit {0}
  IsAsked s m (GenericParen p e) = IsAsked s m e
  IsAsked s m (GenericOp p f a b) = IsAsked s m a × IsAsked s m b
  IsAsked s m (GenericCall f ws xs) = IsItem s.functions (number_of f) (formed_all m ws) × AreHere s.types (formed_all m ws) × AreAsked s m xs
  IsAsked s m (GenericMake k ws xs) = IsItem s.types (owner_named s.from.rows (place_named s.from.rows (number_of k))) (formed_all m ws) × AreHere s.types (formed_all m ws) × AreAsked s m xs
  IsAsked s m (GenericLet p xs a b) = IsAsked s m a × IsAsked s m b
  IsAsked s m (GenericPar p xs a ys b c) = IsAsked s m a × IsAsked s m b × IsAsked s m c
  IsAsked s m (GenericIf p a b c) = IsAsked s m a × IsAsked s m b × IsAsked s m c
  IsAsked s m (GenericCase p x arms) = ArmsAsked s m arms
  IsAsked s m (GenericTuple p xs) = AreAsked s m xs

  -- So it is in all arguments.
  pub AreAsked : Setting → Meant → GenericArguments → Type 0
  AreAsked s m GenericNoArgument = Unit {0}
  AreAsked s m (GenericArgument a xs) = IsAsked s m a × AreAsked s m xs

  -- So it is in all arms.
  pub ArmsAsked : Setting → Meant → GenericArms → Type 0
  ArmsAsked s m (GenericLastArm k xs e) = IsAsked s m e
  ArmsAsked s m (GenericNextArm k xs e arms) = IsAsked s m e × ArmsAsked s m arms

-- Each type and function that was asked for has its copy.
pub record IsCopied (s : Setting) : Type 0 where
  pub constructors : (k c : ℕ) (row : GenericRow) (ts : Forms) → place_named s.from.rows k ≡ Some c → slice_get s.from.rows c ≡ Some row
      → IsItem s.types row.owner ts → (d : ℕ) × IsCopyOf s c row ts k d
  -- a constructor of a copied type is the copy of one of the type
  pub only : (t : ℕ) (ts : Forms) (i d : ℕ) → IsItem s.types t ts → plain s (DataForm t ts) ≡ Tree (record { 0 = i }) → con_at s.to.table i d ≡ Some d
      → (k c : ℕ) × (row : GenericRow) × (place_named s.from.rows k ≡ Some c) × (slice_get s.from.rows c ≡ Some row) × (row.owner ≡ t) × (row.name ≡ k) × (constructor_named s.to.table (s.naming.constructors k ts) ≡ Some d)
  pub declared : (t : ℕ) (ts : Forms) → IsItem s.types t ts → (i : ℕ) × (plain s (DataForm t ts) ≡ Tree (record { 0 = i }))
  pub fields_here : (c : ℕ) (row : GenericRow) (ts : Forms) → slice_get s.from.rows c ≡ Some row → IsItem s.types row.owner ts
      → AllByRecursion (IsHere s.types) (field_forms row ts)
  pub functions : (x : ℕ) (h : GenericFunctionTree) (ts : Forms) → generic_named s.from.functions x ≡ Some h → IsItem s.functions x ts
      → function_named s.to.functions (s.naming.functions x ts) ≡ Some (copy_function s.from s.naming h ts)
  pub parameters_here : (x : ℕ) (h : GenericFunctionTree) (ts : Forms) → generic_named s.from.functions x ≡ Some h → IsItem s.functions x ts
      → AllByRecursion (IsHere s.types) (parameter_forms h ts)
  pub results_here : (x : ℕ) (h : GenericFunctionTree) (ts : Forms) → generic_named s.from.functions x ≡ Some h → IsItem s.functions x ts
      → AllByRecursion (IsHere s.types) (list_results (result_forms h ts))
  pub bodies_asked : (x : ℕ) (h : GenericFunctionTree) (ts : Forms) → generic_named s.from.functions x ≡ Some h → IsItem s.functions x ts
      → IsAsked s (assign h.variables ts) h.body

-- The types of variables are here.
abbrev pub ScopeHere : Setting → FormScope → Type 0
ScopeHere s scope = (x : ℕ) (f : Form) → form_in scope x ≡ Some f → IsHere s.types f

-- A scope in the copy.
abbrev pub plain_scope : Setting → FormScope → Scope
plain_scope s scope = map (λ (b : ℕ × Form). (b.0, plain s b.1)) scope

abbrev mutual
  -- A value of the copy as one of the program: each constructor by the one that it is a copy of.
  pub shown : (ℕ → ℕ) → Datum → Datum
  shown base (whole z) = whole z
  shown base (truth b) = truth b
  shown base (con k vs) = con (base k) (shown_all base vs)

  -- So for all parts.
  pub shown_all : (ℕ → ℕ) → Data → Data
  shown_all base none = none
  shown_all base (more v vs) = more (shown base v) (shown_all base vs)

-- What an expression gives, as what it gives in the program: parts are shown one by one, and the list of them is no constructor.
abbrev pub shown_results : {A : Type 0} → (ℕ → ℕ) → Results A → Datum → Datum
shown_results base (One t) v = shown base v
shown_results base (Several ts) (con k vs) = con k (shown_all base vs)
shown_results base (Several ts) (whole z) = whole z
shown_results base (Several ts) (truth b) = truth b

-- An outcome of the copy as one of the program.
abbrev pub shown_outcome : (ℕ → ℕ) → Outcome → Outcome
shown_outcome base (Gives v) = Gives (shown base v)
shown_outcome base (Stops why) = Stops why

-- An outcome of the copy as one of the program, of an expression that gives one thing or several parts.
abbrev pub shown_given : {A : Type 0} → (ℕ → ℕ) → Results A → Outcome → Outcome
shown_given base r (Gives v) = Gives (shown_results base r v)
shown_given base r (Stops why) = Stops why

-- An environment of the copy as one of the program.
abbrev pub shown_environment : (ℕ → ℕ) → Environment → Environment
shown_environment base env = map (λ (b : ℕ × Datum). (b.0, shown base b.1)) env
