-- What the builder leaves of bodies and of whole texts.
use Rattle.std.specs.Prelude.{◌≡◌, ℕ, ◌<◌, List, [], ◌∷◌, length, map, Option, Result, Ok, Err}
use Rattle.std.specs.Global.{Vec}
use Rattle.std.specs.List.{AllByRecursion}
use Rattle.gib_syntax.specs.declared.tree.Ident.{Ident}
use Rattle.gib_syntax.specs.declared.tree.Parameter.{Parameter}
use Rattle.gib_syntax.specs.declared.tree.TypeName.{TypeName}
use Rattle.gib_syntax.specs.Declarations.{type_of_name}
use Rattle.gib_core.specs.declared.node.TermId.{TermId}
use Rattle.gib_core.specs.declared.program.CoreFunction.{CoreFunction}
use Rattle.gib_core.specs.declared.program.CoreMain.{CoreMain}
use Rattle.gib_core.specs.declared.program.CoreResult.TheVariants as given
use Rattle.gib_core.specs.Arena.{Grows, term_of}
use Rattle.gib_core.specs.Met.{Empty, Nowhere}
use Rattle.gib_core.specs.Parts.{IsDeclared, AreDeclared, IsFunctionInside, function_term, main_term}
use Rattle.gib_core.specs.Tree.{FunctionTerm, MainTerm}
use Rattle.gib_local.specs.declared.builder.Builder.{Builder}
use Rattle.gib_local.specs.declared.build_fault.BuildFault.{BuildFault}
use Rattle.gib_local_parse.specs.Tree.{Line, FunctionText, MainText}
use Rattle.gib_local_parse.specs.declared.tree.Mark.{Mark}
use Rattle.gib_local.specs.Building.{AtResult, IsPlace, Around, Placed, Program, Termed, build, build_body, no_mark, with_mark, with_place, type_start, types_of}
use Rattle.gib_local.specs.Builds.{Fails, passed_of}

-- The name of a parameter.
abbrev pub name_of : Parameter → Ident
name_of q = q.name

-- What the body of a scalar is met with, where parameters are in scope.
abbrev pub scalar_around : Builder → Around
scalar_around b = record { variables = b.variables; places = b.places; destination = Nowhere; at = AtResult }

-- What a body is met with whose result is packed, with the name of its place.
abbrev pub packed_around : Builder → Mark → Around
packed_around b m = record { variables = b.variables; places = with_place m.name (IsPlace AtResult) b.places; destination = Empty; at = AtResult }

-- A body where parameters are in scope.
abbrev pub scalar_body : Program → Builder → Option Mark → Line → Placed Termed
scalar_body p b at line = no_mark at (build p line (scalar_around b) (passed_of b))

-- The same of a packed result, which has to name its place.
abbrev pub packed_body : Program → Builder → TypeName → Option Mark → Line → Placed Termed
packed_body p b w at line = with_mark at (type_start w) (λ m. build p line (packed_around b m) (passed_of b))

-- The term of a body was built.
pub record PutsBody (old new : Builder) (id : TermId) (r : Placed Termed) : Type 0 where
  pub is : r ≡ Ok (record { term = term_of new.terms id.0; passed = passed_of new })
  pub grows : Grows old.terms new.terms
  pub inside : id.0 < length new.terms

-- What building a body answers, beside what its text means.
abbrev pub BuildsBody : Builder → Builder → Result TermId BuildFault → Placed Termed → Type 0
BuildsBody old new (Ok id) r = PutsBody old new id r
BuildsBody old new (Err e) r = Fails e r

-- A function was built; its types are declared.
pub record PutsFunction (old new : Builder) (p : Program) (made : CoreFunction) (t : FunctionText) : Type 0 where
  pub grows : Grows old.terms new.terms
  pub inside : made.body.0 < length new.terms
  pub is : build_body p t.parameters t.result t.place t.body ≡ Ok (record { term = term_of new.terms made.body.0; passed = passed_of new })
  pub name : made.name ≡ t.name.name
  pub parameters : made.parameters.items ≡ types_of p.table.types t.parameters
  pub result : made.result ≡ given.One (type_of_name p.table.types t.result)

-- What building a function answers, beside what its text means.
abbrev pub BuildsFunction : Builder → Builder → Program → Result CoreFunction BuildFault → FunctionText → Type 0
BuildsFunction old new p (Ok made) t = PutsFunction old new p made t
BuildsFunction old new p (Err e) t = Fails e (build_body p t.parameters t.result t.place t.body)

-- Functions were built.
pub record PutsFunctions (old new : Builder) (p : Program) (made : List CoreFunction) (r : Placed (List FunctionTerm)) : Type 0 where
  pub grows : Grows old.terms new.terms
  pub inside : AllByRecursion (IsFunctionInside (length new.terms)) made
  pub declared : AllByRecursion (IsDeclared (length p.table.types)) made
  pub is : r ≡ Ok (map (function_term (term_of new.terms)) made)

-- What building functions answers, beside what their texts mean.
abbrev pub BuildsFunctions : Builder → Builder → Program → Result (Vec CoreFunction) BuildFault → Placed (List FunctionTerm) → Type 0
BuildsFunctions old new p (Ok made) r = PutsFunctions old new p made.items r
BuildsFunctions old new p (Err e) r = Fails e r

-- Main was built.
pub record PutsMain (old new : Builder) (p : Program) (made : CoreMain) (t : MainText) : Type 0 where
  pub grows : Grows old.terms new.terms
  pub inside : made.body.0 < length new.terms
  pub is : build_body p (t.parameter ∷ []) t.result t.place t.body ≡ Ok (record { term = term_of new.terms made.body.0; passed = passed_of new })
  pub parameter : made.parameter ≡ type_of_name p.table.types t.parameter.ty
  pub result : made.result ≡ type_of_name p.table.types t.result

-- What building main answers, beside what its text means.
abbrev pub BuildsMain : Builder → Builder → Program → Result CoreMain BuildFault → MainText → Type 0
BuildsMain old new p (Ok made) t = PutsMain old new p made t
BuildsMain old new p (Err e) t = Fails e (build_body p (t.parameter ∷ []) t.result t.place t.body)
