use Rattle.std.proofs.Common.{◌≡◌, ◌≤◌, ◌+◌, ◌++◌, ◌∷◌, [], ℕ, List, take, drop, get_or, sym, ap, subst, ◌∙◌, arith, append_assoc}
use Rattle.std.proofs.Math.Seq.{take-add}
use Rattle.std.proofs.lemmas.List.{take_more}
use Rattle.gib_mem.specs.Memory.{Memory, Holds}
use Rattle.gib_packed.proofs.HoldsLemmas.{Holds-same, same_byte}
use Rattle.gib_packed.proofs.HoldsAt.{Holds-at}
use Rattle.gib_packed.proofs.WalkLemmas.{known_below}
use Rattle.gib_compact.proofs.LeftLemmas.{eight}
use Rattle.gib_compact.proofs.write.write_run.Goals as goal

-- the next eight bytes, in the memory as it was
pub get_word-word-requires : goal.get_word-word-requires
get_word-word-requires g c =
    let r = c.requires in
    let e = eight c.args.at r.0 c.words.i (omega (arith, r.2, c.words-test.true, c.words.invariant.within)) r.1 r.3 in
    (take 8 (drop c.words.i r.0), subst (λ (m : Memory). Holds m.cells (c.args.at + c.words.i) (take 8 (drop c.words.i r.0))) (sym c.words.invariant.same) e.holds, e.long)

pub words-preserved : goal.words-preserved
words-preserved g c =
    let r = c.requires in
    let i = c.words.i in
    let lt : i + 8 ≤ c.args.count = omega (arith, c.words-test.true, c.words.invariant.within) in
    let one = eight c.args.at r.0 i (omega (arith, r.2, lt)) r.1 r.3 in
    let m = g.M.Mem.view c.args.mem.now in
    let first = get_or (take 8 (drop i r.0)) 0 0 in
    let here = Holds-at one.holds 0 (omega (arith, one.long)) in
    let low = (known_below m (g.met.M.Mem.bounded c.args.mem.now)).below (c.args.at + i + 0) first here in
    record {
      same = c.get_word-word.ensures.same ∙ c.words.invariant.same;
      within = omega (arith, lt);
      small = λ h. omega (arith, low);
      out = λ bytes h e.
          let same : bytes ≡ r.0 = Holds-same h r.1 (e ∙ sym r.2) in
          let word = c.get_word-word.ensures.value (take 8 (drop i r.0)) (subst (λ (m : Memory). Holds m.cells (c.args.at + i) (take 8 (drop i r.0))) (sym c.words.invariant.same) one.holds) one.long in
          let items = c.to_le_bytes.ensures ∙ one.is c.get_word-word.result word in
          c.in_ok-extend_from_slice.ensures.items
          ∙ ap (λ (x : List ℕ). c.words.out.items ++ x) items
          ∙ ap (λ (x : List ℕ). x ++ take 8 (drop i r.0)) (c.words.invariant.out bytes h e)
          ∙ append_assoc c.args.out.now.items (take i bytes) (take 8 (drop i r.0))
          ∙ ap (λ (x : List ℕ). c.args.out.now.items ++ (take i bytes ++ take 8 (drop i x))) (sym same)
          ∙ ap (λ (x : List ℕ). c.args.out.now.items ++ x) (sym (take-add i 8 bytes));
    }

pub bytes-init : goal.bytes-init
bytes-init g c = let w = c.words.invariant in record { same = w.same; within = w.within; small = w.small; out = w.out }

pub get-requires : goal.get-requires
get-requires g c =
    let r = c.requires in
    (get_or r.0 c.bytes.i 0, ap (λ (m : Memory). m.cells (c.args.at + c.bytes.i)) c.bytes.invariant.same ∙ Holds-at r.1 c.bytes.i (omega (arith, r.2, c.bytes-test.true)))

pub bytes-preserved : goal.bytes-preserved
bytes-preserved g c = record {
  same = c.get.ensures.same ∙ c.bytes.invariant.same;
  within = omega (arith, c.bytes-test.true);
  small = λ h. omega (arith, c.get.ensures.below);
  out = λ bytes h e.
      let lt = c.bytes-test.true in
      let s = (g.M.Mem.view c.args.mem.now).cells in
      let here = same_byte s (c.args.at + c.bytes.i) _ _ (sym (ap (λ (m : Memory). m.cells (c.args.at + c.bytes.i)) c.bytes.invariant.same) ∙ c.get.ensures.value) (Holds-at h c.bytes.i (omega (arith, lt, e))) in
      let more = take_more bytes c.bytes.i 0 (omega (arith, lt, e)) in
      c.in_ok-push.ensures.items
      ∙ ap (λ (x : List ℕ). x ++ c.get.result ∷ []) (c.bytes.invariant.out bytes h e)
      ∙ append_assoc c.args.out.now.items (take c.bytes.i bytes) (c.get.result ∷ [])
      ∙ ap (λ (x : ℕ). c.args.out.now.items ++ (take c.bytes.i bytes ++ x ∷ [])) here
      ∙ ap (λ (x : List ℕ). c.args.out.now.items ++ x) (sym more);
}
