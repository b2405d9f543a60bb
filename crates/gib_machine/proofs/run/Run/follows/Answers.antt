use Rattle.std.proofs.Common.{◌≡◌, ℕ, ◌+◌, ◌%◌, ◌<◌, ◌^◌, refl, sym, ap, subst, ◌∙◌, arith}
use Rattle.std.specs.Int.{w64, from_le_bytes}
use Rattle.gib_mem.specs.Memory.{Memory, AreKnown, Holds, Reads}
use Rattle.gib_machine.specs.State.{State, Ready, slide, slot, told}
use Rattle.gib_machine.specs.Running.{with_run}
use Rattle.gib_machine.specs.Going.{Walks, stands}
use Rattle.gib_machine.proofs.Follows.{led}
use Rattle.gib_machine.proofs.Wholes.{one_word, two_words, words_of}
use Rattle.gib_machine.proofs.run.Run.follows.Goals as goal

pub get_word-target-requires : goal.get_word-target-requires
get_word-target-requires g c =
    let v : Memory = g.M.Mem.view c.args.mem.now in
    let q = c.requires.goes in
    let r = (led c.args.code.now (with_run q.0 c.args.self.now) v c.args.tree c.args.arms.now refl c.requires.here c.requires.tag q.1).read in
    subst (λ (a : ℕ). AreKnown v.cells (a + 1) 8) (sym c.slot-at.ensures) (r.bytes, r.holds, r.long)

pub byte_at-tag-requires : goal.byte_at-tag-requires
byte_at-tag-requires g c =
    let v : Memory = g.M.Mem.view c.args.mem.now in
    let q = c.requires.goes in
    let n = c.get_word-target.result in
    let l = led c.args.code.now (with_run q.0 c.args.self.now) v c.args.tree c.args.arms.now refl c.requires.here c.requires.tag q.1 in
    let h = c.get_word-target.ensures.value l.read.bytes (subst (λ (a : ℕ). Holds v.cells (a + 1) l.read.bytes) (sym c.slot-at.ensures) l.read.holds) l.read.long in
    subst (λ (w : Memory). AreKnown w.cells n 1) (sym c.get_word-target.ensures.same) (l.known n h (let z : n < 2 ^ 64 = omega arith in z))

pub returns-then-tag-ge-INDIRECTION-clause-walks : goal.returns-then-tag-ge-INDIRECTION-clause-walks
returns-then-tag-ge-INDIRECTION-clause-walks g c = λ m k.
    subst (λ (w : Memory). Walks c.args.code.now (with_run m c.args.self.now) (g.M.Mem.view c.args.mem.now) 0 (with_run m c.args.self.now) w) (sym (c.byte_at-tag.ensures.same ∙ c.get_word-target.ensures.same)) stands

pub returns-then-at-eq0-clause-walks : goal.returns-then-at-eq0-clause-walks
returns-then-at-eq0-clause-walks g c = λ m k.
    let v : Memory = g.M.Mem.view c.args.mem.now in
    let x = c.args.tree in
    let r : State = c.args.self.now in
    let s : State = with_run m r in
    let a = slot r.words x in
    let n = c.get_word-target.result in
    let t = c.byte_at-tag.result in
    let l = led c.args.code.now s v x c.args.arms.now refl c.requires.here c.requires.tag k in
    let h = c.get_word-target.ensures.value l.read.bytes (subst (λ (q : ℕ). Holds v.cells (q + 1) l.read.bytes) (sym c.slot-at.ensures) l.read.holds) l.read.long in
    let b = subst (λ (w : Memory). Reads w.cells n 1 t) c.get_word-target.ensures.same c.byte_at-tag.ensures.value in
    let small = c.if-tag-ge-INDIRECTION.false in
    let w = l.walks n t c.label_of.result h (let z : n < 2 ^ 64 = omega arith in z) b (omega (arith, small)) (sym c.label_of.ensures) in
    let e = ap (λ (q : State). with_run m q) (c.comes_to.ensures ∙ ap (λ (q : State). record q { words = slide q.words x n; ip = c.label_of.result; doing = Ready }) c.passes.ensures
    ∙ ap (λ (q : ℕ). record r { words = slide (told r.words x (q + 9)) x n; ip = c.label_of.result; doing = Ready }) c.slot-at.ensures) in
    let d = one_word ((a + 1) % 8) (ap (λ (q : ℕ). (q + 1) % 8) (sym c.slot-at.ensures) ∙ c.if-at-eq0.true) in
    subst (λ (u : Memory). Walks c.args.code.now s v 3 (with_run m c.comes_to.new.self) u) (sym (c.byte_at-tag.ensures.same ∙ c.get_word-target.ensures.same))
    (subst (λ (u : State). Walks c.args.code.now s v 3 u v) (sym e) (subst (λ (q : ℕ). Walks c.args.code.now s v (1 + q + 1) (record s { words = slide (told r.words x (a + 9)) x n; ip = c.label_of.result; doing = Ready }) v) d w))

pub returns-else-at-eq0-clause-walks : goal.returns-else-at-eq0-clause-walks
returns-else-at-eq0-clause-walks g c = λ m k.
    let v : Memory = g.M.Mem.view c.args.mem.now in
    let x = c.args.tree in
    let r : State = c.args.self.now in
    let s : State = with_run m r in
    let a = slot r.words x in
    let n = c.get_word-target.result in
    let t = c.byte_at-tag.result in
    let l = led c.args.code.now s v x c.args.arms.now refl c.requires.here c.requires.tag k in
    let h = c.get_word-target.ensures.value l.read.bytes (subst (λ (q : ℕ). Holds v.cells (q + 1) l.read.bytes) (sym c.slot-at.ensures) l.read.holds) l.read.long in
    let b = subst (λ (w : Memory). Reads w.cells n 1 t) c.get_word-target.ensures.same c.byte_at-tag.ensures.value in
    let small = c.if-tag-ge-INDIRECTION.false in
    let w = l.walks n t c.label_of.result h (let z : n < 2 ^ 64 = omega arith in z) b (omega (arith, small)) (sym c.label_of.ensures) in
    let e = ap (λ (q : State). with_run m q) (c.comes_to.ensures ∙ ap (λ (q : State). record q { words = slide q.words x n; ip = c.label_of.result; doing = Ready }) c.passes.ensures
    ∙ ap (λ (q : ℕ). record r { words = slide (told r.words x (q + 9)) x n; ip = c.label_of.result; doing = Ready }) c.slot-at.ensures) in
    let d = two_words ((a + 1) % 8) (λ (z : (a + 1) % 8 ≡ 0). c.if-at-eq0.false (ap (λ (q : ℕ). (q + 1) % 8) c.slot-at.ensures ∙ z)) in
    subst (λ (u : Memory). Walks c.args.code.now s v 4 (with_run m c.comes_to.new.self) u) (sym (c.byte_at-tag.ensures.same ∙ c.get_word-target.ensures.same))
    (subst (λ (u : State). Walks c.args.code.now s v 4 u v) (sym e) (subst (λ (q : ℕ). Walks c.args.code.now s v (1 + q + 1) (record s { words = slide (told r.words x (a + 9)) x n; ip = c.label_of.result; doing = Ready }) v) d w))
