-- A core that meets the build rules has a text that makes it.
use Rattle.std.proofs.Common.{◌≡◌, ℕ, suc, ◌+◌, ◌<◌, List, [], ◌∷◌, ◌++◌, map, length, Ok, refl, sym, ap, subst, arith}
use Rattle.std.specs.List.{AllByRecursion}
use Rattle.gib_types.specs.declared.table.Ty.{Ty}
use Rattle.gib_types.specs.declared.table.Ty.TheVariants.{Whole, Truth, Tree}
use Rattle.gib_types.specs.Table.{Table, IsTable, IsTyBelow}
use Rattle.gib_syntax.specs.Tree.{DataTree}
use Rattle.gib_syntax.specs.Results as results
use Rattle.gib_syntax.specs.Results.{Results}
use Rattle.gib_core.specs.Parts.{AreDeclared, IsResultDeclared}
use Rattle.gib_syntax.specs.Declarations.{table_of_program}
use Rattle.gib_core.specs.declared.scope.Known.{Known}
use Rattle.gib_core.specs.Tree.{FunctionTerm, CoreTree}
use Rattle.gib_core.specs.Numbering.{binders, IsNumbered, AreNumbered}
use Rattle.gib_core.specs.TypesNamed.{TypesDeclared, SignaturesDeclared, AllTypesDeclared}
use Rattle.gib_core.specs.Met.{Body, opening, reached, with_parameters, result_place}
use Rattle.gib_core.specs.Rules.{IsBuilt, AreBuilt, before_body}
use Rattle.gib_core.specs.Ordered.{IsFound, IsNaturalTerm, AreNatural}
use Rattle.gib_local.specs.Building.{build_core, declared}
use Rattle.gib_local_print.specs.Printing.{Naming, Apart, local_of}
use Rattle.gib_local_print.specs.HasText.{IsWritten, IsResultWritten, scope_from, HasResult, HasCore, program_of, with_ends}
use Rattle.gib_local_print.specs.HasShape.{IsOne, HasShape, AreShaped}
use Rattle.gib_local_print.proofs.Written.{written}
use Rattle.gib_core.proofs.Runs.{Runs, number_runs}
use Rattle.gib_local_print.proofs.Built.{Covers, covers_more, IsDue, Premises, term_text}
use Rattle.gib_local_print.proofs.Formed.{last_so}
use Rattle.gib_local_print.proofs.Returned.{core_back}

parameters_cover : (i : ℕ) (ts : List Ty) (xs : List ℕ) (ks : List Known) → Covers xs ks → Covers (scope_from i ts xs) (with_parameters i ts ks)
parameters_cover i [] xs ks h = h
parameters_cover i (t ∷ ts) xs ks h =
    let e : suc i ≡ i + 1 = omega arith in
    subst (λ k. Covers (scope_from k ts (i ∷ xs)) (with_parameters (suc i) ts (reached (record { 0 = i }) ∷ ks))) e
    (parameters_cover (suc i) ts (i ∷ xs) (reached (record { 0 = i }) ∷ ks) (covers_more i xs (reached (record { 0 = i })) ks refl h))

result_due : (tb : Table) (t : Ty) → IsDue tb (result_place (results.One t)) t
result_due tb Whole = refl
result_due tb Truth = refl
result_due tb (Tree t) = refl

all_written : (tb : Table) → IsTable tb → (ts : List Ty) → AllByRecursion (IsTyBelow (length tb.types)) ts → AllByRecursion (IsWritten tb) ts
all_written tb is [] h = tt
all_written tb is (t ∷ ts) h = (written tb is t h.0, all_written tb is ts h.1)

module _ (nm : Naming) (core : CoreTree) (ok : Premises core) where
  body_has : (b : Body) → 0 < length b.parameters → AllByRecursion (IsTyBelow (length core.table.types)) b.parameters → IsResultDeclared (length core.table.types) b.result → IsOne b.result → IsNumbered b → IsNaturalTerm b.term → HasShape core.table b.term
      → TypesDeclared (length core.table.types) b.term → IsBuilt core b → HasResult (program_of nm core) b.parameters b.result b.term
  body_has b some ps r one num nat sh ty built = by b.result r one refl
    where
      by : (given : Results Ty) → IsResultDeclared (length core.table.types) given → IsOne given → given ≡ b.result → HasResult (program_of nm core) b.parameters given b.term
      by (results.Several ts) r one same = absurd one
      by (results.One t) r one same =
          let n = length b.parameters in
          let count = length (binders b.term) in
          let none : Covers [] [] = record { inside = λ x k e. absurd cc } in
          let whole : Body = record { parameters = b.parameters; result = results.One t; term = b.term } in
          let built' : IsBuilt core whole = subst (λ (g : Results Ty). IsBuilt core (record { parameters = b.parameters; result = g; term = b.term })) (sym same) built in
          record {
            some = some;
            next = n + count;
            term = term_text nm core ok b.term (before_body whole) (opening whole) (scope_from 0 b.parameters []) n (n + count) (subst (λ xs. Runs n xs (n + count)) (sym num) (number_runs n count)) nat sh ty
                (result_due core.table t) (parameters_cover 0 b.parameters [] [] none) built';
            parameters_written = all_written core.table ok.is_table b.parameters ps;
            result_written = written core.table ok.is_table t r;
          }

abbrev body_of : FunctionTerm → Body
body_of f = record { parameters = f.parameters; result = f.result; term = f.body }

functions_have : (nm : Naming) (core : CoreTree) (ok : Premises core) (fs : List FunctionTerm) (m : Body) → AllByRecursion (λ (f : FunctionTerm). 0 < length f.parameters) fs
    → AllByRecursion (λ (f : FunctionTerm). AreDeclared (length core.table.types) f.parameters f.result) fs → AllByRecursion (λ (f : FunctionTerm). IsOne f.result) fs
    → AllByRecursion IsNumbered (map body_of fs ++ m ∷ []) → AllByRecursion (λ (b : Body). IsNaturalTerm b.term) (map body_of fs ++ m ∷ []) → AllByRecursion (λ (b : Body). HasShape core.table b.term) (map body_of fs ++ m ∷ [])
    → AllByRecursion (λ (b : Body). TypesDeclared (length core.table.types) b.term) (map body_of fs ++ m ∷ []) → AllByRecursion (IsBuilt core) (map body_of fs ++ m ∷ [])
    → AllByRecursion (λ (f : FunctionTerm). HasResult (program_of nm core) f.parameters f.result f.body) fs
functions_have nm core ok [] m some sg one num nat sh ty built = tt
functions_have nm core ok (f ∷ fs) m some sg one num nat sh ty built =
    (body_has nm core ok (body_of f) some.0 sg.0.0 sg.0.1 one.0 num.0 nat.0 sh.0 ty.0 built.0, functions_have nm core ok fs m some.1 sg.1 one.1 num.1 nat.1 sh.1 ty.1 built.1)

one_written : (core : CoreTree) → IsTable core.table → (r : Results Ty) → IsResultDeclared (length core.table.types) r → IsOne r → IsResultWritten core.table r
one_written core is (results.One t) h one = written core.table is t h
one_written core is (results.Several ts) h one = absurd one

results_written : (core : CoreTree) → IsTable core.table → (fs : List FunctionTerm) → AllByRecursion (λ (f : FunctionTerm). AreDeclared (length core.table.types) f.parameters f.result) fs
    → AllByRecursion (λ (f : FunctionTerm). IsOne f.result) fs → AllByRecursion (λ (g : FunctionTerm). IsResultWritten core.table g.result) fs
results_written core is [] h one = tt
results_written core is (f ∷ fs) h one = (one_written core is f.result h.0.1 one.0, results_written core is fs h.1 one.1)

-- Such a core has a text.
pub built_has_text : (nm : Naming) (datas : List DataTree) (core : CoreTree) → IsTable core.table → table_of_program (declared (local_of nm datas core)) ≡ core.table → SignaturesDeclared core → AllTypesDeclared core → AreNumbered core → AreNatural core → AreShaped core
    → AllByRecursion (IsFound core.table) core.offsets → AreBuilt core → HasCore nm datas core
built_has_text nm datas core is tb sg ty num nat sh off built =
    let ok : Premises core = record { is_table = is; results = results_written core is core.functions sg.functions sh.single } in
    let m : Body = record { parameters = core.main.parameter ∷ []; result = results.One core.main.result; term = core.main.body } in
    let bs : List Body = map body_of core.functions in
    record {
      table = tb;
      functions = functions_have nm core ok core.functions m sh.parameters sg.functions sh.single num nat sh.bodies ty built;
      main = body_has nm core ok m (omega arith) sg.main.0 sg.main.1 tt (last_so IsNumbered bs m num) (last_so (λ (b : Body). IsNaturalTerm b.term) bs m nat) (last_so (λ (b : Body). HasShape core.table b.term) bs m sh.bodies)
          (last_so (λ (b : Body). TypesDeclared (length core.table.types) b.term) bs m ty) (last_so (IsBuilt core) bs m built);
      offsets = off;
    }

-- Its text makes it.
pub built_is_made : (nm : Naming) (datas : List DataTree) (core : CoreTree) → Apart nm → IsTable core.table → table_of_program (declared (local_of nm datas core)) ≡ core.table → SignaturesDeclared core → AllTypesDeclared core → AreNumbered core → AreNatural core → AreShaped core
    → AllByRecursion (IsFound core.table) core.offsets → AreBuilt core → build_core (local_of nm datas core) ≡ Ok (with_ends core)
built_is_made nm datas core ap is tb sg ty num nat sh off built = core_back nm datas core ap (built_has_text nm datas core is tb sg ty num nat sh off built)
