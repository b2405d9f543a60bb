-- What the builder leaves.
use Rattle.std.specs.Prelude.{◌≡◌, ℕ, ◌+◌, ◌<◌, List, [], ◌∷◌, ◌++◌, Bool, true, false, length, map, Option, Some, None, Result, Ok, Err}
use Rattle.std.specs.Global.{Vec}
use Rattle.std.specs.List.{AllByRecursion}
use Rattle.gib_base.specs.declared.Span.{Span}
use Rattle.gib_types.specs.Table.{Table}
use Rattle.gib_types.specs.declared.table.ConId.{ConId}
use Rattle.gib_syntax.specs.declared.tree.Ident.{Ident}
use Rattle.gib_syntax.specs.declared.tree.TypeName.{TypeName}
use Rattle.gib_syntax.specs.Declarations.{number_of}
use Rattle.gib_core.specs.declared.atom.Atom.{Atom}
use Rattle.gib_core.specs.declared.atom.Kind.{Kind}
use Rattle.gib_core.specs.declared.node.Binding.{Binding as CoreBinding}
use Rattle.gib_core.specs.declared.node.Branch.{Branch}
use Rattle.gib_core.specs.declared.node.BoundTerm.{BoundTerm}
use Rattle.gib_core.specs.declared.node.BoundSide.TheVariants as side_of
use Rattle.gib_core.specs.declared.node.TermId.{TermId}
use Rattle.gib_core.specs.declared.atom.Variable.{Variable}
use Rattle.gib_core.specs.declared.node.Node.{Node}
use Rattle.gib_core.specs.Arena.{Grows, Makes, IsBindingBelow, IsBranchBelow, term_of, bind_from, side_from, branches_from}
use Rattle.gib_core.specs.Tree.{Term, Then, Bind, Past, variables_from}
pub use Rattle.gib_loccheck.specs.Views.{destination_of}
use Rattle.gib_local.specs.declared.destination.Goal.{Goal}
use Rattle.gib_local.specs.declared.builder.Builder.{Builder}
use Rattle.gib_local.specs.declared.build_fault.BuildFault.{BuildFault}
use Rattle.gib_local.specs.declared.build_fault.BuildFault.TheVariants as f
use Rattle.gib_local_parse.specs.declared.tree.Mark.{Mark}
use Rattle.gib_local_parse.specs.TextParts.{TextParts, text_of}
use Rattle.gib_local.specs.Building.{Place, Around, Passed, Placed, Program, Termed, Stepped, Sided, Branched, program, meant, place_meant, kind_at, next_place, no_mark, with_mark, aims, type_start, with_variables, write, numbered_on, if_due, is_open_at, head_of}

-- What a term is met with.
abbrev pub around_of : Builder → Goal → Around
around_of b g = record { variables = b.variables; places = b.places; destination = destination_of g.destination; at = g.at }

-- What goes on through the text.
abbrev pub passed_of : Builder → Passed
passed_of b = record { fresh = b.fresh; unused = b.unused }

-- The text round its bodies.
abbrev pub program_in : TextParts → Program
program_in parts = program (text_of parts)

-- A refusal is that of the rules, unless memory ran out.
abbrev pub Fails : {A : Type 0} → BuildFault → Placed A → Type 0
Fails f.Memory r = Unit {0}
Fails (f.Place p) r = r ≡ Err p

-- The answer, in this view, is what the rules give, unless memory ran out.
abbrev pub Gives : {A B : Type 0} → (A → B) → Result A BuildFault → Placed B → Type 0
Gives view (Ok x) r = r ≡ Ok (view x)
Gives view (Err e) r = Fails e r

-- A span that no rule of places looks at.
abbrev pub nowhere : Span
nowhere = record { start = 0; end = 0 }

-- What is due of the `@` of a call.
abbrev pub call_due : Bool → Around → Ident → Option Mark → Placed (Unit {0})
call_due true h f at = no_mark at (Ok (tt {0}))
call_due false h f at = with_mark at f.span.start (λ m. aims h m (Ok (tt {0})))

-- A head that is reserved and filled at once.
abbrev pub reserved : Table → Passed → ConId → List Atom → Placed Termed
reserved tb v k xs = Ok (record { term = Then (Past (record { 0 = v.fresh }) k) (write tb (record { 0 = v.fresh }) k xs); passed = numbered_on 1 v })

-- The open head is filled, where it is that of the constructor.
abbrev pub filled_due : Table → Around → Passed → ConId → Mark → List Atom → Placed Termed
filled_due tb h v k at xs = if_due (is_open_at k h.destination) at.name.span.start (Ok (record { term = write tb (head_of h.destination) k xs; passed = v }))

-- How a value is put and where, if it may be.
abbrev pub kind_due : ℕ → Option Kind → Place → Placed (Kind × Place)
kind_due p None q = Err p
kind_due p (Some kind) q = Ok (kind, q)

-- How the value of a packed side is put, and where.
abbrev pub side_due : Table → Around → Passed → TypeName → Option Mark → Placed (Kind × Place)
side_due tb h v w at =
    with_mark at (type_start w) (λ m.
    kind_due m.name.span.start (kind_at (next_place tb h.destination) v.unused (meant h.places (number_of m.name))) (place_meant (meant h.places (number_of m.name))))

-- The terms that were there stay, and the same is in scope.
pub record Stays (old new : Builder) : Type 0 where
  pub grows : Grows old.terms new.terms
  pub variables : new.variables ≡ old.variables
  pub places : new.places ≡ old.places

-- A node was put, and nothing else changed.
pub record PutsNode (old new : Builder) (id : TermId) (node : Node) : Type 0 where
  pub is : new ≡ record old { terms = new.terms }
  pub makes : Makes old.terms new.terms id.0 node

-- Names came into scope, each with a new variable.
abbrev pub Enters : Builder → Builder → List Ident → Type 0
Enters old new names = new ≡ record old { variables = with_variables old.fresh names old.variables; fresh = old.fresh + length names }

-- New variables came into scope.
pub record BindsAll (old new : Builder) (names : List Ident) (xs : List Variable) : Type 0 where
  pub is : Enters old new names
  pub variables : xs ≡ variables_from old.fresh names

-- A term was put, and nothing else changed.
pub record PutsTerm (old new : Builder) (id : TermId) (t : Term) : Type 0 where
  pub is : new ≡ record old { terms = new.terms }
  pub grows : Grows old.terms new.terms
  pub inside : id.0 < length new.terms
  pub term : term_of new.terms id.0 ≡ t

-- A term was put: it is this one.
pub record Puts (old new : Builder) (id : TermId) (r : Placed Termed) : Type 0 where
  pub is : r ≡ Ok (record { term = term_of new.terms id.0; passed = passed_of new })
  pub stays : Stays old new
  pub inside : id.0 < length new.terms

-- A term is what the rules make, or the refusal is theirs.
abbrev pub Builds : Builder → Builder → Result TermId BuildFault → Placed Termed → Type 0
Builds old new (Ok id) r = Puts old new id r
Builds old new (Err e) r = Fails e r

-- A list stands behind others.
pub record Fronts {A : Type 0} (old new : List A) : Type 0 where
  pub more : List A
  pub is : new ≡ more ++ old

-- The bindings of a step, one at most.
abbrev pub binds_of : List Node → Option CoreBinding → List Bind
binds_of terms None = []
binds_of terms (Some binding) = bind_from (term_of terms) binding ∷ []

-- The terms of a step have smaller numbers.
abbrev pub IsStepBelow : ℕ → Option CoreBinding → Type 0
IsStepBelow n None = Unit {0}
IsStepBelow n (Some binding) = IsBindingBelow n binding

-- A binding was built; what it binds is in scope.
pub record Opens (old new : Builder) (goal : Goal) (o : Option CoreBinding) (r : Placed Stepped) : Type 0 where
  pub is : r ≡ Ok (record { binds = binds_of new.terms o; around = around_of new goal; passed = passed_of new })
  pub grows : Grows old.terms new.terms
  pub below : IsStepBelow (length new.terms) o
  pub variables : Fronts old.variables new.variables
  pub places : Fronts old.places new.places

-- A binding is what the rules make, or the refusal is theirs.
abbrev pub Steps : Builder → Builder → Goal → Result (Option CoreBinding) BuildFault → Placed Stepped → Type 0
Steps old new goal (Ok o) r = Opens old new goal o r
Steps old new goal (Err e) r = Fails e r

-- A side was built, with the next variable; the place is the same behind it.
pub record Binds (old new : Builder) (before after : Goal) (s : BoundTerm) (r : Placed Sided) : Type 0 where
  pub is : r ≡ Ok (record { side = side_from (term_of new.terms) (side_of.One s); destination = destination_of after.destination; passed = passed_of new })
  pub stays : Stays old new
  pub inside : s.term.0 < length new.terms
  pub variable : s.variable.0 ≡ old.fresh
  pub at : after.at ≡ before.at

-- A side is what the rules make, or the refusal is theirs.
abbrev pub BuildsSide : Builder → Builder → Goal → Goal → Result BoundTerm BuildFault → Placed Sided → Type 0
BuildsSide old new before after (Ok s) r = Binds old new before after s r
BuildsSide old new before after (Err e) r = Fails e r

-- Between two sides a place got a name, or none did.
pub record NamesBetween (old new : Builder) (goal : Goal) (r : Placed Around) : Type 0 where
  pub is : r ≡ Ok (around_of new goal)
  pub same : new ≡ record old { places = new.places }
  pub places : Fronts old.places new.places

-- What is answered between two sides, beside what is met behind.
abbrev pub BuildsBetween : Builder → Builder → Goal → Result (Unit {0}) BuildFault → Placed Around → Type 0
BuildsBetween old new goal (Ok x) r = NamesBetween old new goal r
BuildsBetween old new goal (Err e) r = Fails e r

-- Branches were built.
pub record Forks (old new : Builder) (branches : List Branch) (r : Placed Branched) : Type 0 where
  pub is : r ≡ Ok (record { branches = branches_from (term_of new.terms) branches; passed = passed_of new })
  pub stays : Stays old new
  pub inside : AllByRecursion (IsBranchBelow (length new.terms)) branches

-- Branches are what the rules make, or the refusal is theirs.
abbrev pub BuildsArms : Builder → Builder → Result (Vec Branch) BuildFault → Placed Branched → Type 0
BuildsArms old new (Ok v) r = Forks old new v.items r
BuildsArms old new (Err e) r = Fails e r

-- A branch is what the rules make of an arm alone, or the refusal is theirs.
abbrev pub BuildsBranch : Builder → Builder → Result Branch BuildFault → Placed Branched → Type 0
BuildsBranch old new (Ok b) r = Forks old new (b ∷ []) r
BuildsBranch old new (Err e) r = Fails e r
