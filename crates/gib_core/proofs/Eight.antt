-- The first ones of eight types or codes.
use Rattle.std.proofs.Common.{◌≡◌, ℕ, zero, suc, ◌<◌, ◌≤◌, List, [], ◌∷◌, length, take, map, get_or, Some, None, refl, sym, ap, ◌∙◌, arith}
use Rattle.std.proofs.lemmas.List.{take-map, length-map, map_push, take_more_set}
use Rattle.std.specs.Prelude.{◌+◌, ◌-◌, ◌++◌, slice_get, slice_set}
use Rattle.gib_types.specs.declared.table.Ty.{Ty}
use Rattle.gib_types.specs.declared.table.Ty.TheVariants.{Whole, Truth, Tree}
use Rattle.gib_types.specs.declared.table.TyId.{TyId}
use Rattle.gib_core.specs.PartTypes.{type_of_code}

-- The code of a declared type.
pub tree_coded : (ty : TyId) (c : ℕ) → c ≡ ty.0 + 2 → type_of_code c ≡ Tree ty
tree_coded ty c e = let s : ty.0 + 2 ≡ suc (suc ty.0) = omega arith in ap type_of_code (e ∙ s)

pub tree_behind : (c : ℕ) → 2 ≤ c → Tree (record { 0 = c - 2 }) ≡ type_of_code c
tree_behind c h = let e : c ≡ suc (suc (c - 2)) = omega (arith, h) in sym (ap type_of_code e)

pub whole_code : (c : ℕ) → c ≡ 0 → Whole ≡ type_of_code c
whole_code c e = sym (ap type_of_code e)

pub truth_code : (c : ℕ) → c ≡ 1 → Truth ≡ type_of_code c
truth_code c e = sym (ap type_of_code e)

-- How many there are.
take_long : {X : Type 0} (xs : List X) (c : ℕ) → c ≤ length xs → length (take c xs) ≡ c
take_long xs zero h = refl
take_long [] (suc c) h = absurd (omega (arith, h))
take_long (x ∷ xs) (suc c) h = ap suc (take_long xs c (omega (arith, h)))

pub taken_all : {X : Type 0} (xs : List X) (c : ℕ) → length xs ≤ c → xs ≡ take c xs
taken_all [] zero h = refl
taken_all [] (suc c) h = refl
taken_all (x ∷ xs) zero h = absurd (omega (arith, h))
taken_all (x ∷ xs) (suc c) h = ap (λ z. x ∷ z) (taken_all xs c (omega (arith, h)))

pub count_less : (cs : List ℕ) (c : ℕ) → length cs ≡ 8 → c < 8 → c ≡ length (map type_of_code (take c cs))
count_less cs c e h = sym (length-map (take c cs) type_of_code ∙ take_long cs c (omega (arith, e, h)))

pub count_all : (cs : List ℕ) (c : ℕ) → length cs ≡ 8 → 8 ≤ c → 8 ≡ length (map type_of_code (take c cs))
count_all cs c e h = sym (length-map (take c cs) type_of_code ∙ ap length (sym (taken_all cs c (omega (arith, e, h)))) ∙ e)

-- The one at a place.
pub within_all : (cs : List ℕ) (c i : ℕ) → i < length (map type_of_code (take c cs)) → i < length cs
within_all cs zero i h = absurd (omega (arith, h))
within_all [] (suc c) i h = absurd (omega (arith, h))
within_all (x ∷ cs) (suc c) zero h = omega arith
within_all (x ∷ cs) (suc c) (suc i) h = let g = within_all cs c i (omega (arith, h)) in omega (arith, g)

pub type_there : (cs : List ℕ) (c i d : ℕ) → i < length (map type_of_code (take c cs)) → slice_get (map type_of_code (take c cs)) i ≡ Some (type_of_code (get_or cs i d))
type_there cs zero i d h = absurd (omega (arith, h))
type_there [] (suc c) i d h = absurd (omega (arith, h))
type_there (x ∷ cs) (suc c) zero d h = refl
type_there (x ∷ cs) (suc c) (suc i) d h = type_there cs c i d (omega (arith, h))

pub type_past : (ts : List Ty) (i : ℕ) → length ts ≤ i → slice_get ts i ≡ None
type_past [] i h = refl
type_past (t ∷ ts) zero h = absurd (omega (arith, h))
type_past (t ∷ ts) (suc i) h = type_past ts i (omega (arith, h))

-- One more type, behind the first ones.
pub pushed_code : (cs : List ℕ) (c x : ℕ) (t : Ty)
    → c < length cs → type_of_code x ≡ t → map type_of_code (take (c + 1) (slice_set cs c x)) ≡ map type_of_code (take c cs) ++ t ∷ []
pushed_code cs c x t h e = ap (map type_of_code) (take_more_set cs c x h) ∙ map_push type_of_code (take c cs) x ∙ ap (λ u. map type_of_code (take c cs) ++ u ∷ []) e

-- The types of all eight codes.
all_codes : (cs : List ℕ) → length cs ≡ 8
    → type_of_code (get_or cs 0 0) ∷ type_of_code (get_or cs 1 0) ∷ type_of_code (get_or cs 2 0) ∷ type_of_code (get_or cs 3 0)
    ∷ type_of_code (get_or cs 4 0) ∷ type_of_code (get_or cs 5 0) ∷ type_of_code (get_or cs 6 0) ∷ type_of_code (get_or cs 7 0) ∷ []
    ≡ map type_of_code cs
all_codes [] l = absurd (omega (arith, l))
all_codes (a ∷ []) l = absurd (omega (arith, l))
all_codes (a ∷ b ∷ []) l = absurd (omega (arith, l))
all_codes (a ∷ b ∷ c ∷ []) l = absurd (omega (arith, l))
all_codes (a ∷ b ∷ c ∷ d ∷ []) l = absurd (omega (arith, l))
all_codes (a ∷ b ∷ c ∷ d ∷ e ∷ []) l = absurd (omega (arith, l))
all_codes (a ∷ b ∷ c ∷ d ∷ e ∷ f ∷ []) l = absurd (omega (arith, l))
all_codes (a ∷ b ∷ c ∷ d ∷ e ∷ f ∷ g ∷ []) l = absurd (omega (arith, l))
all_codes (a ∷ b ∷ c ∷ d ∷ e ∷ f ∷ g ∷ h ∷ []) l = refl
all_codes (a ∷ b ∷ c ∷ d ∷ e ∷ f ∷ g ∷ h ∷ i ∷ more) l = absurd (omega (arith, l))

pub unpacked_all : (cs : List ℕ) (n : ℕ) (s t u v w x y z : Ty) → length cs ≡ 8
    → s ≡ type_of_code (get_or cs 0 0) → t ≡ type_of_code (get_or cs 1 0) → u ≡ type_of_code (get_or cs 2 0) → v ≡ type_of_code (get_or cs 3 0)
    → w ≡ type_of_code (get_or cs 4 0) → x ≡ type_of_code (get_or cs 5 0) → y ≡ type_of_code (get_or cs 6 0) → z ≡ type_of_code (get_or cs 7 0)
    → take n (s ∷ t ∷ u ∷ v ∷ w ∷ x ∷ y ∷ z ∷ []) ≡ map type_of_code (take n cs)
unpacked_all cs n s t u v w x y z l a b c d e f g h =
    ap (take n) ((λ i. a i ∷ b i ∷ c i ∷ d i ∷ e i ∷ f i ∷ g i ∷ h i ∷ []) ∙ all_codes cs l) ∙ take-map type_of_code n cs
