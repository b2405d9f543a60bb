-- Declarations stay as the arena grows.
use Rattle.std.proofs.Common.{◌≡◌, List, [], map, refl, ap, arith}
use Rattle.std.specs.List.{AllByRecursion}
use Rattle.gib_base.specs.declared.token.Sign.TheVariants as s
use Rattle.gib_base.specs.declared.token.Token.{Token}
use Rattle.gib_syntax.specs.declared.program.GenericConstructor.{GenericConstructor}
use Rattle.gib_syntax.specs.declared.program.GenericData.{GenericData}
use Rattle.gib_syntax.specs.declared.program.GenericFunction.{GenericFunction}
use Rattle.gib_syntax.specs.declared.program.GenericParameter.{GenericParameter}
use Rattle.gib_syntax.specs.declared.written.Word.{Word}
use Rattle.gib_syntax.specs.declared.written.Run.{Run}
use Rattle.gib_syntax.specs.declared.written.ResultRuns.{ResultRuns}
use Rattle.gib_syntax.specs.declared.written.ResultRuns.TheVariants as result
use Rattle.gib_syntax.specs.Results.{Results, One, Several}
use Rattle.gib_syntax.specs.Forms.{WrittenType}
use Rattle.gib_syntax.specs.Words.{stack_of, first_type, type_in}
use Rattle.gib_syntax.specs.GenericTree.{GenericConstructorTree, GenericDataTree, GenericParameterTree, GenericFunctionTree, GenericMainTree}
use Rattle.gib_syntax.specs.Spelling.{Places}
use Rattle.gib_syntax.specs.GenericArena.{Arena, Grows}
use Rattle.gib_syntax.specs.GenericParts.{IsFunctionInside, constructor_in, data_in, parameter_in, results_in, function_in}
use Rattle.gib_syntax.proofs.GenericLayers.{type_run_grows, types_run_grows}
use Rattle.gib_parse.specs.Reading.{Any, is_sign, many, parse, data_at, function_at, main_at, program_at}
use Rattle.gib_parse.specs.Parsing.{IsTypeIn, AreResultsIn, IsConstructorIn, IsDataIn, IsParameterIn}
use Rattle.gib_reads.proofs.Tools.{done}
use Rattle.gib_reads.proofs.PartsSoFar.{seen_same, within_more}
use Rattle.gib_parse.proofs.PartsSoFar.{grows_more}

-- ---- each stays as the arena grows

abbrev constructor_here : Arena → GenericConstructor → GenericConstructorTree
constructor_here a c = constructor_in a.words c

pub constructor_stays : (old new : Arena) (c : GenericConstructor) → Grows old new → IsConstructorIn old c → IsConstructorIn new c × (constructor_here new c ≡ constructor_here old c)
constructor_stays old new c g h =
    (types_run_grows old new c.fields g h, ap (λ (ws : List Word). let made : GenericConstructorTree = record { name = c.name; fields = stack_of ws } in made) (g.runs c.fields h.0).1)

abbrev data_here : Arena → GenericData → GenericDataTree
data_here a d = data_in a.words d

pub data_stays : (old new : Arena) (d : GenericData) → Grows old new → IsDataIn old d → IsDataIn new d × (data_here new d ≡ data_here old d)
data_stays old new d g h = (
  within_more grows_more IsConstructorIn constructor_here constructor_stays old new d.constructors.items g h,
  ap (λ (cs : List GenericConstructorTree). let made : GenericDataTree = record { name = d.name; variables = d.variables.items; constructors = cs } in made) (seen_same grows_more IsConstructorIn constructor_here constructor_stays old new d.constructors.items g h),
)

abbrev parameter_here : Arena → GenericParameter → GenericParameterTree
parameter_here a q = parameter_in a.words q

pub parameter_stays : (old new : Arena) (q : GenericParameter) → Grows old new → IsParameterIn old q → IsParameterIn new q × (parameter_here new q ≡ parameter_here old q)
parameter_stays old new q g h =
    (type_run_grows old new q.ty g h, ap (λ (ws : List Word). let made : GenericParameterTree = record { name = q.name; ty = first_type (stack_of ws) } in made) (g.runs q.ty h.0).1)

abbrev type_here : Arena → Run → WrittenType
type_here a run = type_in a.words run

pub type_stays : (old new : Arena) (run : Run) → Grows old new → IsTypeIn old run → IsTypeIn new run × (type_here new run ≡ type_here old run)
type_stays old new run g h = (type_run_grows old new run g h, ap (λ (ws : List Word). first_type (stack_of ws)) (g.runs run h.0).1)

abbrev results_here : Arena → ResultRuns → Results WrittenType
results_here a r = results_in a.words r

pub results_stay : (old new : Arena) (r : ResultRuns) → Grows old new → AreResultsIn old r → AreResultsIn new r × (results_here new r ≡ results_here old r)
results_stay old new (result.One run) g h = let o = type_stays old new run g h in (o.0, ap (λ (x : WrittenType). One x) o.1)
results_stay old new (result.Several runs) g h = (
  within_more grows_more IsTypeIn type_here type_stays old new runs.items g h,
  ap (λ (xs : List WrittenType). Several xs) (seen_same grows_more IsTypeIn type_here type_stays old new runs.items g h),
)

pub function_stays : (old new : Arena) (f : GenericFunction) → Grows old new → IsFunctionInside old f → IsFunctionInside new f × (function_in new f ≡ function_in old f)
function_stays old new f g h =
    let qs = f.parameters.items in
    let types = seen_same grows_more IsParameterIn parameter_here parameter_stays old new qs g h.0 in
    let results = results_stay old new f.result g h.1 in
    let body = g.same f.body.0 h.2 in (
      (within_more grows_more IsParameterIn parameter_here parameter_stays old new qs g h.0, results.0, let l = g.longer in let m = h.2 in omega arith),
      (λ k. record { name = f.name; variables = f.variables.items; parameters = types k; result = results.1 k; body = body k }),
    )

-- ---- the whole

-- Declarations stay the same trees, and stand inside, as the arena grows.
pub types_stay : (old new : Arena) (runs : List Run) → AllByRecursion (IsTypeIn old) runs → Grows old new → map (type_here new) runs ≡ map (type_here old) runs
types_stay old new runs h g = seen_same grows_more IsTypeIn type_here type_stays old new runs g h

pub types_stay_inside : (old new : Arena) (runs : List Run) → AllByRecursion (IsTypeIn old) runs → Grows old new → AllByRecursion (IsTypeIn new) runs
types_stay_inside old new runs h g = within_more grows_more IsTypeIn type_here type_stays old new runs g h

pub datas_stay : (old new : Arena) (ds : List GenericData) → AllByRecursion (IsDataIn old) ds → Grows old new → map (data_here new) ds ≡ map (data_here old) ds
datas_stay old new ds h g = seen_same grows_more IsDataIn data_here data_stays old new ds g h

pub datas_stay_inside : (old new : Arena) (ds : List GenericData) → AllByRecursion (IsDataIn old) ds → Grows old new → AllByRecursion (IsDataIn new) ds
datas_stay_inside old new ds h g = within_more grows_more IsDataIn data_here data_stays old new ds g h

pub parameters_stay : (old new : Arena) (qs : List GenericParameter) → AllByRecursion (IsParameterIn old) qs → Grows old new → map (parameter_here new) qs ≡ map (parameter_here old) qs
parameters_stay old new qs h g = seen_same grows_more IsParameterIn parameter_here parameter_stays old new qs g h

pub parameters_stay_inside : (old new : Arena) (qs : List GenericParameter) → AllByRecursion (IsParameterIn old) qs → Grows old new → AllByRecursion (IsParameterIn new) qs
parameters_stay_inside old new qs h g = within_more grows_more IsParameterIn parameter_here parameter_stays old new qs g h

pub functions_stay : (old new : Arena) (fs : List GenericFunction) → AllByRecursion (IsFunctionInside old) fs → Grows old new → map (function_in new) fs ≡ map (function_in old) fs
functions_stay old new fs h g = seen_same grows_more IsFunctionInside function_in function_stays old new fs g h

pub functions_stay_inside : (old new : Arena) (fs : List GenericFunction) → AllByRecursion (IsFunctionInside old) fs → Grows old new → AllByRecursion (IsFunctionInside new) fs
functions_stay_inside old new fs h g = within_more grows_more IsFunctionInside function_in function_stays old new fs g h

pub program_done : (at : Places) (tokens t1 t2 t3 : List Token) (ds : List GenericDataTree) (fs : List GenericFunctionTree) (m : GenericMainTree) → many (is_sign s.Data) (data_at at) tokens ≡ done ds t1 → many (is_sign s.Fun) (function_at at (parse at 200 Any)) t1 ≡ done fs t2 → main_at at (parse at 200 Any) t2 ≡ done m t3 → program_at at (parse at 200 Any) tokens ≡ done (record { datas = ds; functions = fs; main = m }) t3
unfolding program_at
program_done at tokens t1 t2 t3 ds fs m e1 e2 e3 = rw (e1, e2, e3) refl
