-- A line, up to a binding: so far none tells the end of a variable.
use Rattle.std.proofs.Common.{◌≡◌, ℕ, ◌<◌, ◌≤◌, true, ◌||◌, List, length, Some, sym, ap, ◌∙◌}
use Rattle.gib_types.specs.Row.{Table}
use Rattle.gib_core.specs.declared.atom.Variable.{Variable}
use Rattle.gib_core.specs.declared.node.Binding.{Binding}
use Rattle.gib_core.specs.declared.node.Node.{Node}
use Rattle.gib_core.specs.Tree.{Term, Then}
use Rattle.gib_core.specs.Arena.{Opens, bind_from, layer, term_of}
use Rattle.gib_core.specs.Ending.{Ended, is_telling, is_known}

pub record KnownSoFar (table : Table) (es : List Ended) (z : Variable) (terms : List Node) (id last : ℕ) (node : Node) : Type 0 where
  pub within : last ≤ id
  pub inside : last < length terms
  pub opens : Opens terms last node
  pub same : is_known table es (term_of terms id) z ≡ is_known table es (term_of terms last) z

pub known_here : (table : Table) (es : List Ended) (z : Variable) (terms : List Node) (id last : ℕ) (binding : Binding) (rest : ℕ) (node : Node) → KnownSoFar table es z terms id last node
    → ((f : ℕ → Term) → layer f (Some node) ≡ Then (bind_from f binding) (f rest)) → is_telling es (bind_from (term_of terms) binding) z ≡ true → true ≡ is_known table es (term_of terms id) z
known_here table es z terms id last binding rest node h is yes' =
    sym (h.same ∙ ap (λ (t : Term). is_known table es t z) (h.opens.0 ∙ is (term_of terms)) ∙ ap (λ a. a || is_known table es (term_of terms rest) z) yes')
