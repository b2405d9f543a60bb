-- Several variables come into scope, each with a part's type.
use Rattle.std.proofs.Common.{◌≡◌, ℕ, List, [], ◌∷◌, Some, ap}
use Rattle.gib_types.specs.declared.table.Ty.{Ty}
use Rattle.gib_types.specs.declared.table.Ty.TheVariants.{Whole, Truth, Tree}
use Rattle.gib_core.specs.Inferring.{first_type, further_types}
use Rattle.gib_core.specs.declared.atom.Variable.{Variable}
use Rattle.gib_core.specs.declared.scope.Known.{Known}
use Rattle.gib_core.specs.Met.{reached, with_variables}
use Rattle.gib_core.specs.Rules.{Before, type_bound}
use Rattle.gib_core.specs.Fits.{Scalar, Held, Placed, Scope, put, tree_type, AreNew, param_sort, bound_scope, hold_all}
use Rattle.gib_core.proofs.Later.{HaveTypes, typed_bound}
use Rattle.gib_core.proofs.Vars.{Tracked, Vars, vars_hold, vars_scope, tracked_put, put_there}
use Rattle.gib_core.proofs.Dests.{Keeps}
use Rattle.gib_core.proofs.Entering.{new_put}

-- Each of the variables can be used at its type.
abbrev pub AllTracked : Before → Scope → List Variable → List Ty → Type 0
AllTracked b sc [] tys = Unit {0}
AllTracked b sc (x ∷ xs) tys = Tracked b sc x.0 (first_type tys) × AllTracked b sc xs (further_types tys)

pub tracked_on : (b c : Before) (sc tc : Scope) (xs : List Variable) (tys : List Ty) → Keeps b sc c tc → AllTracked b sc xs tys → AllTracked c tc xs tys
tracked_on b c sc tc [] tys keep h = tt
tracked_on b c sc tc (x ∷ xs) tys keep h = (keep x.0 (first_type tys) h.0, tracked_on b c sc tc xs (further_types tys) keep h.1)

-- They come into scope.
pub vars_all : (n : ℕ) (b : Before) (ks : List Known) (sc : Scope) (xs : List Variable) (tys : List Ty) → AllTracked b sc xs tys → Vars n b ks sc → Vars n b (with_variables xs ks) sc
vars_all n b ks sc [] tys h v = v
vars_all n b ks sc (x ∷ xs) tys h v = vars_all n b (reached x ∷ ks) sc xs (further_types tys) h.1 (vars_scope n b ks sc (reached x) (first_type tys, h.0) v)

-- Their values are being made.
pub hold_vars : (n : ℕ) (b : Before) (ks : List Known) (tys : List Ty) (xs : List Variable) (sc : Scope) → AreNew sc tys xs → HaveTypes xs tys b.bound → Vars n b ks sc → Vars n b ks (hold_all xs sc)
hold_vars n b ks [] [] sc new types v = v
hold_vars n b ks [] (y ∷ ys) sc new types v = absurd new
hold_vars n b ks (t ∷ ts) [] sc new types v = v
hold_vars n b ks (t ∷ ts) (y ∷ ys) sc new types v = hold_vars n b ks ts ys (put sc y.0 Held) new.1 types.1 (vars_hold n b ks sc y.0 Held new.0 (typed_bound b.bound y t types.0) v)

-- Their values are there.
pub record BoundAll (n : ℕ) (b : Before) (ks : List Known) (tys : List Ty) (xs : List Variable) (sc tc : Scope) : Type 0 where
  pub vars : Vars n b ks tc
  pub keep : Keeps b sc b tc
  pub own : AllTracked b tc xs tys

part_own : (b : Before) (sc : Scope) (x : Variable) (t : Ty) → type_bound b.bound x ≡ Some t → Tracked b (put sc x.0 (param_sort t)) x.0 t
part_own b sc x Whole e = record { typed = e; usable = put_there sc x.0 (Scalar Whole) }
part_own b sc x Truth e = record { typed = e; usable = put_there sc x.0 (Scalar Truth) }
part_own b sc x (Tree t) e = let there = put_there sc x.0 (Placed t.0) in record { typed = e; usable = (ap tree_type there, λ no. there) }

pub bound_vars : (n : ℕ) (b : Before) (ks : List Known) (tys : List Ty) (xs : List Variable) (sc : Scope) → AreNew sc tys xs → HaveTypes xs tys b.bound → Vars n b ks sc → BoundAll n b ks tys xs sc (bound_scope tys xs sc)
bound_vars n b ks [] [] sc new types v = record { vars = v; keep = λ y ty k. k; own = tt }
bound_vars n b ks [] (y ∷ ys) sc new types v = absurd new
bound_vars n b ks (t ∷ ts) [] sc new types v = absurd new
bound_vars n b ks (t ∷ ts) (y ∷ ys) sc new types v =
    let i = param_sort t in
    let tc = put sc y.0 i in
    let rest = bound_vars n b ks ts ys tc (new_put ts ys sc y.0 i new.1) types.1 (vars_hold n b ks sc y.0 i new.0 (typed_bound b.bound y t types.0) v) in
    record {
      vars = rest.vars;
      keep = λ z ty k. rest.keep z ty (tracked_put b sc y.0 z i ty new.0 k);
      own = (rest.keep y.0 t (part_own b sc y t types.0), rest.own);
    }
