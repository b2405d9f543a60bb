-- A line, up to a binding: so far none uses a variable.
use Rattle.std.proofs.Common.{◌≡◌, ℕ, ◌<◌, ◌≤◌, true, ◌||◌, List, length, Some, sym, ap, ◌∙◌}
use Rattle.gib_core.specs.declared.atom.Variable.{Variable}
use Rattle.gib_core.specs.declared.node.Binding.{Binding}
use Rattle.gib_core.specs.declared.node.Node.{Node}
use Rattle.gib_core.specs.Tree.{Term, Then}
use Rattle.gib_core.specs.Arena.{Opens, bind_from, layer, term_of}
use Rattle.gib_core.specs.Reaching.{uses, bind_uses}

pub record UsesSoFar (x : Variable) (terms : List Node) (id last : ℕ) (node : Node) : Type 0 where
  pub within : last ≤ id
  pub inside : last < length terms
  pub opens : Opens terms last node
  pub same : uses (term_of terms id) x ≡ uses (term_of terms last) x

pub used_here : (x : Variable) (terms : List Node) (id last : ℕ) (binding : Binding) (rest : ℕ) (node : Node) → UsesSoFar x terms id last node → ((f : ℕ → Term) → layer f (Some node) ≡ Then (bind_from f binding) (f rest))
    → bind_uses (bind_from (term_of terms) binding) x ≡ true → true ≡ uses (term_of terms id) x
used_here x terms id last binding rest node h is yes' =
    sym (h.same ∙ ap (λ (t : Term). uses t x) (h.opens.0 ∙ is (term_of terms)) ∙ ap (λ a. a || uses (term_of terms rest) x) yes')
