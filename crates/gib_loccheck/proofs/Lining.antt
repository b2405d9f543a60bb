-- The bindings of a line, one after another, and its end.
use Rattle.std.proofs.Common.{◌≡◌, ℕ, ◌<◌, ◌≤◌, List, [], ◌++◌, map, reverse, Some, sym, ap, ◌∙◌, subst, length, take, append_assoc, arith}
use Rattle.std.proofs.lemmas.List.{append-nil}
use Rattle.std.proofs.Math.Seq.{take-append_seam}
use Rattle.gib_core.specs.declared.scope.Known.{Known}
use Rattle.gib_core.specs.declared.node.Node.{Node}
use Rattle.gib_core.specs.declared.node.Node.TheVariants as n
use Rattle.gib_core.specs.declared.node.Binding.{Binding}
use Rattle.gib_core.specs.declared.node.TermId.{TermId}
use Rattle.gib_core.specs.Tree.{CoreTree, Then}
use Rattle.gib_core.specs.Arena.{Opens, PartsBelow, IsBindingBelow, term_of, bind_from, layer}
use Rattle.gib_core.specs.Met.{Setting, Met, met, met_bind, behind}
use Rattle.gib_loccheck.specs.declared.state.Walk.{Walk}
use Rattle.gib_loccheck.specs.declared.target.Target.{Target}
use Rattle.gib_loccheck.specs.declared.fault.LocFault.{LocFault}
use Rattle.gib_loccheck.specs.Views.{setting_of, at_line, call_of}
use Rattle.gib_loccheck.specs.Judging.{Passes, Blames, Kept, Binds, Stays}
use Rattle.gib_loccheck.proofs.Judges.{passes_then, passes_none, blames_front, blames_back, stays_passes, stays_same}

-- The walk stands before the term of a number in a line, and the bindings before it pass.
pub record LineSoFar (core : CoreTree) (terms : List Node) (old now : Walk) (target inner : Target) (id rest : ℕ) (node : Node) : Type 0 where
  pub lines : List Met
  pub all : met core.table (at_line (setting_of old target)) (term_of terms id) ≡ lines ++ met core.table (setting_of now inner) (term_of terms rest)
  pub passes : Passes core old now lines
  pub more : List Known
  pub scope : now.scope.items ≡ old.scope.items ++ more
  pub others : now.others.items ≡ old.others.items
  pub opens : Opens terms rest node
  pub inside : rest < length terms
  pub within : rest ≤ id

-- What stands below a binding.
pub below_then : (terms : List Node) (rest : ℕ) (node : Node) (b : Binding) (after : TermId) → Opens terms rest node → node ≡ n.Then b after → IsBindingBelow rest b × (after.0 < rest)
below_then terms rest node b after o is = subst (λ (z : Node). PartsBelow z rest) is o.1

opened : (terms : List Node) (rest : ℕ) (node : Node) (b : Binding) (after : TermId) → Opens terms rest node → node ≡ n.Then b after → term_of terms rest ≡ Then (bind_from (term_of terms) b) (term_of terms after.0)
opened terms rest node b after o is = o.0 ∙ ap (λ (z : Node). layer (term_of terms) (Some z)) is

module _ (core : CoreTree) (terms : List Node) where
  pub line_next : (old now next : Walk) (target inner behind_it : Target) (id rest : ℕ) (node new : Node) (b : Binding) (after : TermId)
      → LineSoFar core terms old now target inner id rest node → node ≡ n.Then b after
      → Passes core now next (met_bind core.table (setting_of now inner) (bind_from (term_of terms) b)) → Binds now next behind_it (behind (setting_of now inner) (bind_from (term_of terms) b))
      → Opens terms after.0 new → LineSoFar core terms old next target behind_it id after.0 new
  line_next old now next target inner behind_it id rest node new b after so is p h o =
      let s = setting_of now inner in
      let bd = bind_from (term_of terms) b in
      let ms = met_bind core.table s bd in
      let low = below_then terms rest node b after so.opens is in
      let tail : met core.table s (term_of terms rest) ≡ ms ++ met core.table (setting_of next behind_it) (term_of terms after.0) =
      ap (met core.table s) (opened terms rest node b after so.opens is) ∙ ap (λ (z : Setting). ms ++ met core.table z (term_of terms after.0)) (sym h.setting) in
      record {
        lines = so.lines ++ ms;
        all = so.all ∙ ap (λ (z : List Met). so.lines ++ z) tail ∙ sym (append_assoc so.lines ms (met core.table (setting_of next behind_it) (term_of terms after.0)));
        passes = passes_then core old now next so.lines ms so.passes p;
        more = so.more ++ h.more;
        scope = h.scope ∙ ap (λ (z : List Known). z ++ h.more) so.scope ∙ append_assoc old.scope.items so.more h.more;
        others = h.others ∙ so.others;
        opens = o;
        inside = omega (arith, low.1, so.inside);
        within = omega (arith, low.1, so.within);
      }

  pub line_blame : (e : LocFault) (old now : Walk) (target inner : Target) (id rest : ℕ) (node : Node) (b : Binding) (after : TermId)
      → LineSoFar core terms old now target inner id rest node → node ≡ n.Then b after
      → Blames core now (met_bind core.table (setting_of now inner) (bind_from (term_of terms) b)) e → Blames core old (met core.table (at_line (setting_of old target)) (term_of terms id)) e
  line_blame e old now target inner id rest node b after so is h =
      let s = setting_of now inner in
      let bd = bind_from (term_of terms) b in
      let ms = met_bind core.table s bd in
      let tail = met core.table (behind s bd) (term_of terms after.0) in
      let split : met core.table s (term_of terms rest) ≡ ms ++ tail = ap (met core.table s) (opened terms rest node b after so.opens is) in
      subst (λ (z : List Met). Blames core old z e) (sym (so.all ∙ ap (λ (z : List Met). so.lines ++ z) split))
      (blames_back core e old now so.lines (ms ++ tail) so.passes (blames_front core e now ms tail h))

  pub line_passes : (old now next last : Walk) (target inner : Target) (id rest : ℕ) (node : Node)
      → LineSoFar core terms old now target inner id rest node → Passes core now next (met core.table (setting_of now inner) (term_of terms rest)) → Stays next last
      → Passes core old last (met core.table (at_line (setting_of old target)) (term_of terms id))
  line_passes old now next last target inner id rest node so p s =
      let ms = met core.table (setting_of now inner) (term_of terms rest) in
      let q = stays_passes core old old next last (so.lines ++ ms) (stays_same old) (passes_then core old now next so.lines ms so.passes p) s in
      subst (λ (z : List Met). Passes core old last z) (sym so.all) q

  pub line_blame_end : (e : LocFault) (old now : Walk) (target inner : Target) (id rest : ℕ) (node : Node)
      → LineSoFar core terms old now target inner id rest node → Blames core now (met core.table (setting_of now inner) (term_of terms rest)) e
      → Blames core old (met core.table (at_line (setting_of old target)) (term_of terms id)) e
  line_blame_end e old now target inner id rest node so h =
      subst (λ (z : List Met). Blames core old z e) (sym so.all) (blames_back core e old now so.lines (met core.table (setting_of now inner) (term_of terms rest)) so.passes h)

  -- A line begins with no call before it.
  pub line_first : (old now : Walk) (target : Target) (id : ℕ) (node : Node) → Opens terms id node → id < length terms → now.calls.items ≡ [] → now.scope.items ≡ old.scope.items → now.others.items ≡ old.others.items → Stays old now
      → LineSoFar core terms old now target target id id node
  line_first old now target id node o inside none scope others stays = record {
    lines = [];
    all = ap (λ (s : Setting). met core.table s (term_of terms id)) (λ i. record { destination = (setting_of old target).destination; due = target.due; scope = reverse (sym scope i); others = reverse (sym others i); whole = target.whole; calls = reverse (map call_of (sym none i)) });
    passes = stays_passes core old old old now [] (stays_same old) (passes_none core old) stays;
    more = [];
    scope = scope ∙ sym (append-nil old.scope.items);
    others = others;
    opens = o;
    inside = inside;
    within = omega arith;
  }

  pub line_kept : (old now next last : Walk) (target inner : Target) (id rest : ℕ) (node : Node) (outer : ℕ)
      → LineSoFar core terms old now target inner id rest node → Kept now next → outer ≡ length old.scope.items → last.scope.items ≡ take outer next.scope.items → last.others.items ≡ next.others.items → last.calls.items ≡ old.calls.items
      → Kept old last
  line_kept old now next last target inner id rest node outer so k len cut same calls = record {
    scope = cut ∙ (λ i. take (len i) (k.scope i)) ∙ ap (λ (z : List Known). take (length old.scope.items) z) so.scope ∙ take-append_seam old.scope.items so.more;
    others = same ∙ k.others ∙ so.others;
    calls = calls;
  }
