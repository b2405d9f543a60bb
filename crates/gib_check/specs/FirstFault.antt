-- The first rule that a program breaks: types and constructors, field types, heads of functions, bodies;
-- each in the order of the text, main behind the functions.
use Rattle.std.specs.Prelude.{◌≡◌, ℕ, ◌+◌, nat_lt, is_none, List, [], ◌∷◌, ◌++◌, length, slice_get, Option, Some, None, Ok, Err}
use Rattle.gib_syntax.specs.declared.tree.Ident.{Ident}
use Rattle.gib_syntax.specs.Declarations.{number_of, place_of}
use Rattle.gib_syntax.specs.Results.{Results, One, Several, map_results}
use Rattle.gib_syntax.specs.Forms.{WrittenType, written_place, formed}
use Rattle.gib_syntax.specs.GenericTree.{GenericExpression, GenericConstructorTree, GenericDataTree, GenericParameterTree, GenericFunctionTree, GenericProgramTree, GenericGlobals, globals_of_generic}
use Rattle.gib_syntax.specs.GenericTyping.{FormScope, form_bound, opaque, variable_numbers, generic_expressions, generic_bindings}
use Rattle.gib_check.specs.declared.counts.Counts.{Counts}
use Rattle.gib_check.specs.declared.fault.Fault.{Fault}
use Rattle.gib_check.specs.declared.fault.Kind.TheVariants as kind
use Rattle.gib_check.specs.Faults.{Checked, and_then, allowed, known, place, wanted, standing_of, infer}

-- Counts behind an expression: its expressions and its variables were added.
pub record IsCountedOn (before : Counts) (e : GenericExpression) (after : Counts) : Type 0 where
  pub expressions : after.expressions ≡ before.expressions + generic_expressions e
  pub variables : after.variables ≡ before.variables + generic_bindings e

-- `Twice`: a name that is none of the names before it.
abbrev pub new_name : List ℕ → Ident → Checked (Unit {0})
new_name names x = allowed (is_none (place_of names (number_of x))) kind.Twice x.span (tt {0})

-- `Limit`: fewer than so many names stand before this one.
abbrev pub fewer : ℕ → List ℕ → Ident → Checked (Unit {0})
fewer most names x = allowed (nat_lt (length names) most) kind.Limit x.span (tt {0})

-- Type variables behind those of these names: `Twice`, then `Limit` at the ninth.
abbrev pub check_variables : List ℕ → List Ident → Checked (Unit {0})
check_variables names [] = Ok (tt {0})
check_variables names (v ∷ vs) =
    and_then (new_name names v)
    (λ _. and_then (fewer 8 names v)
    (λ _. check_variables (names ++ number_of v ∷ []) vs))

-- `Limit`: there is no ninth field; the fault is at its type.
abbrev pub no_ninth : Option WrittenType → Checked (Unit {0})
no_ninth None = Ok (tt {0})
no_ninth (Some ninth) = Err (record { kind = kind.Limit; span = written_place ninth })

-- `Limit`: at most eight fields.
abbrev pub few_fields : List WrittenType → Checked (Unit {0})
few_fields fields = no_ninth (slice_get fields 8)

-- The constructors of a type behind those of these names; gives the names with theirs.
abbrev pub check_constructors : List ℕ → List GenericConstructorTree → Checked (List ℕ)
check_constructors names [] = Ok names
check_constructors names (c ∷ cs) =
    and_then (fewer 200 names c.name)
    (λ _. and_then (new_name names c.name)
    (λ _. and_then (few_fields c.fields)
    (λ _. check_constructors (names ++ number_of c.name ∷ []) cs)))

-- Types, their variables and constructors, behind those of these names.
abbrev pub check_datas : List ℕ → List ℕ → List GenericDataTree → Checked (Unit {0})
check_datas types constructors [] = Ok (tt {0})
check_datas types constructors (d ∷ ds) =
    and_then (new_name types d.name)
    (λ _. and_then (check_variables [] d.variables)
    (λ _. and_then (check_constructors constructors d.constructors)
    (λ names. check_datas (types ++ number_of d.name ∷ []) names ds)))

-- Types in the order of the text, each with its names.
abbrev pub check_types : List GenericDataTree → List ℕ → List WrittenType → Checked (Unit {0})
check_types datas vars [] = Ok (tt {0})
check_types datas vars (w ∷ ws) = and_then (known datas vars w) (λ _. check_types datas vars ws)

-- Field types of constructors, in the order of the text.
abbrev pub check_constructor_fields : List GenericDataTree → List ℕ → List GenericConstructorTree → Checked (Unit {0})
check_constructor_fields datas vars [] = Ok (tt {0})
check_constructor_fields datas vars (c ∷ cs) = and_then (check_types datas vars c.fields) (λ _. check_constructor_fields datas vars cs)

-- Field types of declared types, in the order of the text, each in the scope of the declaration's type variables.
abbrev pub check_fields : List GenericDataTree → List GenericDataTree → Checked (Unit {0})
check_fields datas [] = Ok (tt {0})
check_fields datas (d ∷ ds) = and_then (check_constructor_fields datas (variable_numbers d.variables) d.constructors) (λ _. check_fields datas ds)

-- Parameters behind those of these names: the name of each (`Twice`, then `Limit` past 200), then its type.
abbrev pub check_parameters : List GenericDataTree → List ℕ → List ℕ → List GenericParameterTree → Checked (Unit {0})
check_parameters datas vars names [] = Ok (tt {0})
check_parameters datas vars names (q ∷ qs) =
    and_then (new_name names q.name)
    (λ _. and_then (fewer 200 names q.name)
    (λ _. and_then (known datas vars q.ty)
    (λ _. check_parameters datas vars (names ++ number_of q.name ∷ []) qs)))

-- The types of parts behind so many, each with its names: `Limit` at the ninth.
abbrev pub check_parts : List GenericDataTree → List ℕ → ℕ → List WrittenType → Checked (Unit {0})
check_parts datas vars i [] = Ok (tt {0})
check_parts datas vars i (w ∷ ws) =
    and_then (allowed (nat_lt i 8) kind.Limit (written_place w) (tt {0}))
    (λ _. and_then (known datas vars w)
    (λ _. check_parts datas vars (i + 1) ws))

-- What a function gives: its type, or those of the parts.
abbrev pub check_results : List GenericDataTree → List ℕ → Results WrittenType → Checked (Unit {0})
check_results datas vars (One w) = known datas vars w
check_results datas vars (Several ws) = check_parts datas vars 0 ws

-- The type variables, the parameters and what a function gives, or main.
abbrev pub check_head : List GenericDataTree → List Ident → List GenericParameterTree → Results WrittenType → Checked (Unit {0})
check_head datas variables parameters result =
    and_then (check_variables [] variables)
    (λ _. and_then (check_parameters datas (variable_numbers variables) [] parameters)
    (λ _. check_results datas (variable_numbers variables) result))

-- Heads of functions behind those of these names.
abbrev pub check_heads : List GenericDataTree → List ℕ → List GenericFunctionTree → Checked (Unit {0})
check_heads datas names [] = Ok (tt {0})
check_heads datas names (f ∷ fs) =
    and_then (fewer 1000 names f.name)
    (λ _. and_then (new_name names f.name)
    (λ _. and_then (check_head datas f.variables f.parameters f.result)
    (λ _. check_heads datas (names ++ number_of f.name ∷ []) fs)))

-- The scope of parameters, put before one.
abbrev pub with_parameters : List GenericParameterTree → FormScope → FormScope
with_parameters [] scope = scope
with_parameters (q ∷ qs) scope = with_parameters qs (form_bound q.name (formed opaque q.ty) scope)

-- Before an expression of a body: its parameters were met.
abbrev pub parameters_met : List GenericParameterTree → Counts
parameters_met parameters = record { variables = length parameters; expressions = 0 }

-- A body, in the scope of its parameters: its own rules, then its type against the result's, or those of the parts.
abbrev pub check_body : GenericGlobals → List Ident → List GenericParameterTree → Results WrittenType → GenericExpression → Checked (Unit {0})
check_body g variables parameters result body =
    and_then (infer g (variable_numbers variables) opaque (standing_of (map_results (formed opaque) result)) (with_parameters parameters []) (parameters_met parameters) body)
    (λ r. wanted (map_results (formed opaque) result) (record { ty = r.0; place = place body }))

-- Bodies of functions, in the order of the text.
abbrev pub check_bodies : GenericGlobals → List GenericFunctionTree → Checked (Unit {0})
check_bodies g [] = Ok (tt {0})
check_bodies g (f ∷ fs) = and_then (check_body g f.variables f.parameters f.result f.body) (λ _. check_bodies g fs)

-- The rules of declarations, in their order.
unfoldable pub check_declarations : GenericProgramTree → Checked (Unit {0})
check_declarations p =
    and_then (check_datas [] [] p.datas)
    (λ _. and_then (check_fields p.datas p.datas)
    (λ _. and_then (check_heads p.datas [] p.functions)
    (λ _. check_head p.datas [] (p.main.parameter ∷ []) (One p.main.result))))

-- All rules, in their order.
unfoldable pub check_program : GenericProgramTree → Checked (Unit {0})
check_program p =
    and_then (check_declarations p)
    (λ _. and_then (check_bodies (globals_of_generic p) p.functions)
    (λ _. check_body (globals_of_generic p) [] (p.main.parameter ∷ []) (One p.main.result) p.main.body))

-- The fault, where a rule is broken.
abbrev pub fault_in : Checked (Unit {0}) → Option Fault
fault_in (Ok x) = None
fault_in (Err fault) = Some fault

-- The first broken rule, where there is one.
abbrev pub first_fault : GenericProgramTree → Option Fault
first_fault p = fault_in (check_program p)
