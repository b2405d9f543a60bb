-- The literals of terms, from those of nodes.
use Rattle.std.proofs.Common.{◌≡◌, ℕ, ◌<◌, ◌+◌, List, [], ◌∷◌, ◌++◌, map, length, Some, sym, subst, arith, ⊎_elim}
use Rattle.std.specs.List.{AllByRecursion}
use Rattle.std.proofs.str.Laws.{order}
use Rattle.gib_core.specs.declared.node.Binding.{Binding}
use Rattle.gib_core.specs.declared.node.Binding.TheVariants as b
use Rattle.gib_core.specs.declared.node.Branch.{Branch}
use Rattle.gib_core.specs.declared.node.TermId.{TermId}
use Rattle.gib_core.specs.declared.node.BoundSide.{BoundSide}
use Rattle.gib_core.specs.declared.node.BoundSide.TheVariants as s
use Rattle.gib_syntax.specs.Results as results
use Rattle.gib_core.specs.declared.node.Node.{Node}
use Rattle.gib_core.specs.declared.node.Node.TheVariants as n
use Rattle.gib_core.specs.declared.program.CoreFunction.{CoreFunction}
use Rattle.gib_core.specs.Tree.{Term, FunctionTerm}
use Rattle.gib_core.specs.Arena.{IsBindingBelow, IsBranchBelow, IsPartBelow, PartsBelow, Opens, term_in, side_from, bind_from, parts_from, branches_from, layer, term_of}
use Rattle.gib_core.specs.Parts.{Parts, AreInside, IsFunctionInside, function_term, core_of}
use Rattle.gib_core.specs.Met.{Body}
use Rattle.gib_core.specs.Walk.{EachInBind, EachInSide, EachInParts, EachInBranches}
use Rattle.gib_core.specs.Literals.{LiteralsFit, EntryLiterals, AllLiteralsFit, BindingLiterals, NodeLiterals}

Fit : (ℕ → Term) → ℕ → Type 0
Fit f id = (other : ℕ) → other < id → LiteralsFit (f other)

side_fits : (f : ℕ → Term) (id : ℕ) (x : BoundSide) → Fit f id → (term_in x).0 < id → EachInSide EntryLiterals (side_from f x)
unfolding Fit
side_fits f id (s.One x) fit below = (tt, fit x.term.0 below)
side_fits f id (s.Several x) fit below = (tt, fit x.term.0 below)

binding_fits : (f : ℕ → Term) (id : ℕ) (x : Binding) → Fit f id → IsBindingBelow id x → BindingLiterals x → EachInBind EntryLiterals (bind_from f x)
unfolding Fit
binding_fits f id (b.Past h k) fit below l = tt
binding_fits f id (b.One x) fit below l = side_fits f id x fit below
binding_fits f id (b.Par fork x y) fit below l = (tt, (side_fits f id x fit below.0, side_fits f id y fit below.1))
binding_fits f id (b.Prim x g y z) fit below l = l
binding_fits f id (b.Reach y by) fit below l = tt

branches_fit : (f : ℕ → Term) (id : ℕ) (bs : List Branch) → Fit f id → AllByRecursion (IsBranchBelow id) bs → EachInBranches EntryLiterals (branches_from f bs)
unfolding Fit
branches_fit f id [] fit below = tt
branches_fit f id (x ∷ bs) fit below = (tt, (fit x.term.0 below.0, branches_fit f id bs fit below.1))

parts_fit : (f : ℕ → Term) (id : ℕ) (ts : List TermId) → Fit f id → AllByRecursion (IsPartBelow id) ts → EachInParts EntryLiterals (parts_from f ts)
unfolding Fit
parts_fit f id [] fit below = tt
parts_fit f id (t ∷ ts) fit below = (tt, (fit t.0 below.0, parts_fit f id ts fit below.1))

node_fits : (f : ℕ → Term) (id : ℕ) (x : Node) → Fit f id → PartsBelow x id → NodeLiterals x → LiteralsFit (layer f (Some x))
unfolding Fit
node_fits f id (n.Then x rest) fit below l = (binding_fits f id x fit below.0 l, fit rest.0 below.1)
node_fits f id (n.Write h k ss ps) fit below l = l
node_fits f id (n.Point x) fit below l = tt
node_fits f id (n.Call g xs) fit below l = l
node_fits f id (n.Give x) fit below l = l
node_fits f id (n.Case x bs) fit below l = (tt, branches_fit f id bs.items fit below)
node_fits f id (n.If x t u) fit below l = (tt, (fit t.0 below.0, fit u.0 below.1))
node_fits f id (n.Tuple tys ss ps) fit below l = (l, parts_fit f id ps.items fit below)

pub next_fits : (nodes : List Node) (id next : ℕ) (x : Node) → ((other : ℕ) → other < id → LiteralsFit (term_of nodes other)) → Opens nodes id x → NodeLiterals x → next ≡ id + 1
    → (other : ℕ) → other < next → LiteralsFit (term_of nodes other)
unfolding Fit
next_fits nodes id next x fit opens l e other lt =
    ⊎_elim
    (λ less. fit other less)
    (λ le.
    let same : id ≡ other = omega (arith, lt, le, e) in
    subst (λ m. LiteralsFit (term_of nodes m)) same (subst LiteralsFit (sym opens.0) (node_fits (term_of nodes) id x fit opens.1 l)))
    (order other id)

functions_fit : (f : ℕ → Term) (count : ℕ) (ds : List CoreFunction) (rest : List Body) → Fit f count → AllByRecursion (IsFunctionInside count) ds → AllByRecursion (λ (b : Body). LiteralsFit b.term) rest
    → AllByRecursion (λ (b : Body). LiteralsFit b.term) (map (λ (g : FunctionTerm). record { parameters = g.parameters; result = g.result; term = g.body }) (map (function_term f) ds) ++ rest)
unfolding Fit
functions_fit f count [] rest fit inside r = r
functions_fit f count (d ∷ ds) rest fit inside r = (fit d.body.0 inside.0, functions_fit f count ds rest fit inside.1 r)

pub core_fits : (parts : Parts) → AreInside parts → ((id : ℕ) → id < length parts.terms → LiteralsFit (term_of parts.terms id)) → AllLiteralsFit (core_of parts)
unfolding Fit
core_fits parts inside fit =
    let main : Body = record { parameters = parts.main.parameter ∷ []; result = results.One parts.main.result; term = term_of parts.terms parts.main.body.0 } in
    functions_fit (term_of parts.terms) (length parts.terms) parts.functions (main ∷ []) fit inside.functions (fit parts.main.body.0 inside.main, tt)
