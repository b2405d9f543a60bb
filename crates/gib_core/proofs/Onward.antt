-- To reach fields binds and cases nothing: the same stands behind a term as before.
use Rattle.std.proofs.Common.{◌≡◌, List, refl, sym, ◌∙◌}
use Rattle.gib_types.specs.Table.{Table}
use Rattle.gib_core.specs.declared.atom.Variable.{Variable}
use Rattle.gib_core.specs.declared.atom.AccessMode.{AccessMode}
use Rattle.gib_core.specs.Tree.{Term, Bind, Side, prepend}
use Rattle.gib_core.specs.Met.{Setting, met, met_bind, met_side}
use Rattle.gib_core.specs.Reaching.{Later, reaches, reach, reach_bind, reach_side}
use Rattle.gib_core.specs.Ending.{Ended}
use Rattle.gib_core.specs.Rules.{Before, next_all}
use Rattle.gib_core.proofs.After.{in_turn, step, after_is, bind_after, side_after}
use Rattle.gib_core.proofs.PastReaches.{reach_walk, bind_walk, side_walk, arm_walk}

module _ (tb : Table) (es : List Ended) where
  pub next_same : (m : AccessMode) (fs : List Later) (t : Term) (s s' : Setting) (b : Before) → next_all tb b (met tb s' (reach m tb es fs t)) ≡ next_all tb b (met tb s t)
  next_same m fs t s s' b = after_is tb (reach m tb es fs t) s' b ∙ (λ i. reach_walk in_turn (λ c. c) (step tb) (λ y by f. refl) tb es m fs t i b) ∙ sym (after_is tb t s b)

  -- with the fields of an arm reached before it
  pub arm_next : (m : AccessMode) (fs : List Later) (t : Term) (ps : List Variable) (s s' : Setting) (b : Before) → next_all tb b (met tb s' (prepend (reaches m es t ps) (reach m tb es fs t))) ≡ next_all tb b (met tb s t)
  arm_next m fs t ps s s' b =
      after_is tb (prepend (reaches m es t ps) (reach m tb es fs t)) s' b ∙ (λ i. arm_walk in_turn (λ c. c) (step tb) (λ y by f. refl) tb es m fs t ps i b) ∙ sym (after_is tb t s b)

  pub bind_next : (m : AccessMode) (bind : Bind) (s s' : Setting) (b : Before) → next_all tb b (met_bind tb s' (reach_bind m tb es bind)) ≡ next_all tb b (met_bind tb s bind)
  bind_next m bind s s' b = bind_after tb (reach_bind m tb es bind) s' b ∙ (λ i. bind_walk in_turn (λ c. c) (step tb) (λ y by f. refl) tb es m bind i b) ∙ sym (bind_after tb bind s b)

  pub side_next : (m : AccessMode) (side : Side) (s s' : Setting) (b : Before) → next_all tb b (met_side tb s' (reach_side m tb es side)) ≡ next_all tb b (met_side tb s side)
  side_next m side s s' b = side_after tb (reach_side m tb es side) s' b ∙ (λ i. side_walk in_turn (λ c. c) (step tb) (λ y by f. refl) tb es m side i b) ∙ sym (side_after tb side s b)
