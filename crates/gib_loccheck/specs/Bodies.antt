-- What the walk over bodies answers.
use Rattle.std.specs.Prelude.{◌≡◌, ℕ, List, [], ◌++◌, map, reverse}
use Rattle.gib_types.specs.declared.table.Ty.{Ty}
use Rattle.gib_core.specs.declared.program.CoreFunction.{CoreFunction}
use Rattle.gib_core.specs.Tree.{CoreTree, Term}
use Rattle.gib_core.specs.Met.{Body, with_parameters}
use Rattle.gib_core.specs.Parts.{results_of}
use Rattle.gib_core.specs.Rules.{broken_in, bind_parameters}
use Rattle.gib_loccheck.specs.declared.state.Walk.{Walk}
use Rattle.gib_loccheck.specs.declared.fault.LocFault.{LocFault}
use Rattle.gib_loccheck.specs.Judging.{Says}

-- The body of a function, where numbers have these terms.
abbrev pub body_of : (ℕ → Term) → CoreFunction → Body
body_of f d = record { parameters = d.parameters.items; result = results_of d.result; term = f d.body.0 }

-- The bodies of functions, where numbers have these terms.
abbrev pub bodies_of : (ℕ → Term) → List CoreFunction → List Body
bodies_of f functions = map (body_of f) functions

-- The bodies break no rule, where their first term has one number and the first term behind them another: the
-- first broken rule is that of what follows.
pub record Pass (core : CoreTree) (first next : ℕ) (bodies : List Body) : Type 0 where
  pub unbroken : (rest : List Body) → broken_in core first (bodies ++ rest) ≡ broken_in core next rest

-- A refusal for a rule names the first one that the bodies break, whatever follows.
abbrev pub Blame : CoreTree → ℕ → List Body → LocFault → Type 0
Blame core first bodies e = (rest : List Body) → Says e (broken_in core first (bodies ++ rest))

-- The walk stands before a body with these parameters, and its place is the same.
pub record Opens (old new : Walk) (parameters : List Ty) : Type 0 where
  pub bound : reverse new.bound.items ≡ bind_parameters 0 parameters []
  pub scope : reverse new.scope.items ≡ with_parameters 0 parameters []
  pub cased : new.cased.items ≡ []
  pub others : new.others.items ≡ []
  pub place : new.place ≡ old.place
