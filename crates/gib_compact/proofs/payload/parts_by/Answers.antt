use Rattle.std.proofs.Common.{◌≡◌, ◌≤◌, ◌<◌, ℕ, List, length, sym, subst}
use Rattle.std.specs.Prelude.{Result, IfOk}
use Rattle.std.specs.Global.{Vec}
use Rattle.gib_compact.specs.Gathered.{gathered, with_head}
use Rattle.gib_compact.specs.declared.fault.CompactFault.{CompactFault}
use Rattle.gib_compact.proofs.RootLemmas.{root_whole, root_truth, root_tree}
use Rattle.gib_compact.proofs.payload.parts_by.Goals as goal

-- it is the file of these bytes, and they are no more than so many
abbrev Are : List ℕ → ℕ → Result (Vec (Vec ℕ)) CompactFault → List ℕ → Type 0
Are description most r bytes = IfOk r (λ parts. (gathered parts.items ≡ with_head description (length bytes) bytes) × (length bytes ≤ most))

pub tree_by-requires-clause-value : goal.tree_by-requires-clause-value
tree_by-requires-clause-value g c κs within =
    let r = c.requires.stands in
    let m = root_tree c.in-At.is r.2 in
    (m.t, r.1, m.end, m.stands)

pub returns-in-Whole-clause-out : goal.returns-in-Whole-clause-out
returns-in-Whole-clause-out g c = λ ty v st. subst (Are c.args.description.now c.args.packing.most c.whole_file.result) (sym (root_whole c.in-Whole.is st)) c.whole_file.ensures.out

pub returns-in-Whole-clause-long : goal.returns-in-Whole-clause-long
returns-in-Whole-clause-long g c = λ ty v st e. subst (λ (x : List ℕ). c.args.packing.most < length x) (sym (root_whole c.in-Whole.is st)) (c.whole_file.ensures.long e)

pub returns-in-Truth-clause-out : goal.returns-in-Truth-clause-out
returns-in-Truth-clause-out g c = λ ty v st. subst (Are c.args.description.now c.args.packing.most c.truth_file.result) (sym (root_truth c.in-Truth.is st)) c.truth_file.ensures.out

pub returns-in-At-clause-out : goal.returns-in-At-clause-out
returns-in-At-clause-out g c = λ ty v st.
    let m = root_tree c.in-At.is st in
    subst (Are c.args.description.now c.args.packing.most c.tree_by.result.0) (sym m.bytes) (c.tree_by.ensures.out m.t v m.end m.stands)

pub returns-in-At-clause-long : goal.returns-in-At-clause-long
returns-in-At-clause-long g c = λ ty v st e.
    let m = root_tree c.in-At.is st in
    subst (λ (x : List ℕ). c.args.packing.most < length x) (sym m.bytes) (c.tree_by.ensures.long m.t v m.end m.stands e)
