-- Copies as the code keeps them: declarations by their places, types by their numbers.
use Rattle.std.specs.Prelude.{◌≡◌, ℕ, ◌+◌, nat_lt, ◌==◌, ◌&&◌, Bool, true, false, List, [], ◌∷◌, length, Option, Some, slice_get, Result, Ok, Err}
use Rattle.std.specs.List.{list_any}
use Rattle.gib_base.specs.declared.Span.{Span}
use Rattle.gib_syntax.specs.Declarations.{number_of}
use Rattle.gib_types.specs.declared.types.TypeId.{TypeId}
use Rattle.gib_mono.specs.declared.found.CopyKey.{CopyKey}
use Rattle.gib_mono.specs.declared.found.CopyKey.TheVariants as k
use Rattle.gib_mono.specs.declared.found.MonoFault.{MonoFault}
use Rattle.gib_mono.specs.declared.found.MonoFault.TheVariants as m
use Rattle.gib_types.specs.Types.{forms_at, AreBelow}
use Rattle.gib_syntax.specs.Forms.{Form}
use Rattle.gib_syntax.specs.GenericTree.{GenericDataTree, GenericFunctionTree, GenericGlobals}
use Rattle.gib_mono.specs.Walk.{Copy, data_asked, function_asked, constructors_in, functions_in}

-- What is kept.
pub record Kept : Type 0 where
  pub keys : List CopyKey
  pub constructors : ℕ
  pub functions : ℕ

-- The copy that a key stands for; none where there is no such declaration.
abbrev pub copy_from : GenericGlobals → List Form → CopyKey → Option Copy
copy_from g fs (k.Data i is) = data_asked (slice_get g.datas i) (forms_at fs is.items)
copy_from g fs (k.Function i is) = function_asked (slice_get g.functions i) (forms_at fs is.items)

-- The numbers of its types are below a number.
abbrev pub KeyBelow : ℕ → CopyKey → Type 0
KeyBelow n (k.Data i is) = AreBelow n is.items
KeyBelow n (k.Function i is) = AreBelow n is.items

-- Declarations of one kind have different names.
pub record AreDeclarations (g : GenericGlobals) : Type 0 where
  pub datas : (i j : ℕ) (d e : GenericDataTree) → slice_get g.datas i ≡ Some d → slice_get g.datas j ≡ Some e → number_of d.name ≡ number_of e.name → i ≡ j
  pub functions : (i j : ℕ) (f h : GenericFunctionTree) → slice_get g.functions i ≡ Some f → slice_get g.functions j ≡ Some h → number_of f.name ≡ number_of h.name → i ≡ j

-- Keys stand for these copies.
abbrev pub AreCopies : GenericGlobals → List Form → List CopyKey → List Copy → Type 0
AreCopies g fs [] [] = Unit {0}
AreCopies g fs [] (c ∷ cs) = ⊥
AreCopies g fs (k ∷ ks) [] = ⊥
AreCopies g fs (k ∷ ks) (c ∷ cs) = (copy_from g fs k ≡ Some c) × KeyBelow (length fs) k × AreCopies g fs ks cs

-- What is kept are these copies.
pub record IsFound (g : GenericGlobals) (fs : List Form) (kept : Kept) (found : List Copy) : Type 0 where
  pub copies : AreCopies g fs kept.keys found
  pub constructors : kept.constructors ≡ constructors_in found
  pub functions : kept.functions ≡ functions_in found

-- The key's copy is kept, or is over a limit, or memory is wanting.
abbrev pub Adds : GenericGlobals → List Form → Result (Unit {0}) MonoFault → Kept → Result (List Copy) Span → Type 0
Adds g fs (Ok u) kept r = (next : List Copy) × (r ≡ Ok next) × IsFound g fs kept next
Adds g fs (Err m.Memory) kept r = Unit {0}
Adds g fs (Err (m.Limit span)) kept r = r ≡ Err span

-- Keys are equal where their places and the numbers of their types are.
abbrev pub same_ids : List TypeId → List TypeId → Bool
same_ids [] [] = true
same_ids [] (j ∷ js) = false
same_ids (i ∷ is) [] = false
same_ids (i ∷ is) (j ∷ js) = (i.0 == j.0) && same_ids is js

-- The same declaration at the same numbers.
abbrev pub same_key : CopyKey → CopyKey → Bool
same_key (k.Data i is) (k.Data j js) = (i == j) && same_ids is.items js.items
same_key (k.Data i is) (k.Function j js) = false
same_key (k.Function i is) (k.Data j js) = false
same_key (k.Function i is) (k.Function j js) = (i == j) && same_ids is.items js.items

-- The key is none of these.
abbrev pub IsNewKey : List CopyKey → CopyKey → Type 0
IsNewKey ks key = list_any (same_key key) ks ≡ false

-- What a key's copy adds to the counts, where its type has so many constructors.
abbrev pub types_by : CopyKey → ℕ → ℕ
types_by (k.Data i is) n = n
types_by (k.Function i is) n = 0

-- How many functions a key adds.
abbrev pub functions_by : CopyKey → ℕ
functions_by (k.Data i is) = 0
functions_by (k.Function i is) = 1

-- There is room for so many more.
abbrev pub has_room : Kept → ℕ → ℕ → Bool
has_room kept n m = nat_lt (kept.constructors + n) 201 && nat_lt (kept.functions + m) 1001

-- Keys of the same declaration with the same types.
abbrev pub AreAlike : CopyKey → CopyKey → Type 0
AreAlike (k.Data i is) (k.Data j js) = (i ≡ j) × (is.items ≡ js.items)
AreAlike (k.Data i is) (k.Function j js) = ⊥
AreAlike (k.Function i is) (k.Data j js) = ⊥
AreAlike (k.Function i is) (k.Function j js) = (i ≡ j) × (is.items ≡ js.items)
