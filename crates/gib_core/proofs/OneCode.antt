-- A core has one code: each term's code ends at one label, and has one list of instructions.
use Rattle.std.proofs.Common.{◌≡◌, ℕ, suc, ◌+◌, ◌<◌, ◌≤◌, Bool, true, false, nat_lt, List, [], ◌∷◌, ◌++◌, length, slice_get, Option, refl, sym, ap, subst, ◌∙◌, arith}
use Rattle.std.proofs.lemmas.Bool.Decides.{nat_tests}
use Rattle.std.proofs.lemmas.Option.{same_Some}
use Rattle.gib_base.specs.declared.name.Name.{Name}
use Rattle.gib_code.specs.declared.instruction.AnswerType.{AnswerType}
use Rattle.gib_types.specs.Layout.{LaidOut}
use Rattle.gib_types.specs.Table.{fields_at}
use Rattle.gib_code.specs.declared.instruction.Arm.{Arm}
use Rattle.gib_code.specs.declared.instruction.Entry.{Entry}
use Rattle.gib_code.specs.declared.instruction.Operand.{Operand}
use Rattle.gib_code.specs.Instruction.{Instruction, Fill, Point, Call, Unless, Switch, Fork, Join, Back, Done, LeafEnd, Jump, Out}
use Rattle.gib_code.specs.Program.{CodeTree, IsAt, AreAt, none, one_more}
use Rattle.gib_core.specs.Low as low
use Rattle.gib_core.specs.Low.{Low, LowParts, LowArms, LowBind, LowSide, LowFunctions, IsLowered, LeafAt, End, Returns, To, ToParts, Over, Field, laid_of, slot_of, slots_of, operand, operands, function_number, side_kind, side_slots, side_type, giving, ending, moves, giving_parts, takes_parts, call_ending, done_all, packed_slots, scalar_slots, gots, arm_end, arm_overs, with_fields}
use Rattle.gib_core.specs.Ending.{Within, within_par}
use Rattle.gib_core.specs.declared.atom.Variable.{Variable}
use Rattle.gib_types.specs.declared.table.ConId.{ConId}
use Rattle.gib_core.specs.Tree as t
use Rattle.gib_core.specs.Tree.{Term, CoreTree, Side, FunctionTerm}

-- Where the code ends.

-- Both ends return, once the same ends were told, or both go to a label, with the same slots for parts.
abbrev Alike : End → End → Type 0
Alike (Returns os) (Returns ps) = os ≡ ps
Alike (Returns os) (To l d) = ⊥
Alike (To l d) (Returns os) = ⊥
Alike (To l d) (To m f) = Unit {0}
Alike (Returns os) (ToParts l ds) = ⊥
Alike (To l d) (ToParts m ds) = ⊥
Alike (ToParts l ds) (Returns os) = ⊥
Alike (ToParts l ds) (To m f) = ⊥
Alike (ToParts l ds) (ToParts m fs) = ds ≡ fs

alike_itself : (e : End) → Alike e e
alike_itself (Returns os) = refl
alike_itself (To l d) = tt
alike_itself (ToParts l ds) = refl

alike_arm : (w : Within) (core : CoreTree) (x : ℕ) (c : ConId) (ys : List Variable) (u : Term) (e f : End) → Alike e f → Alike (arm_end w core x c ys u e) (arm_end w core x c ys u f)
alike_arm w core x c ys u (Returns os) (Returns ps) h = ap (arm_overs w core x c ys u) h
alike_arm w core x c ys u (Returns os) (To l d) h = absurd h
alike_arm w core x c ys u (To l d) (Returns os) h = absurd h
alike_arm w core x c ys u (To l d) (To m f) h = tt
alike_arm w core x c ys u (Returns os) (ToParts l ds) h = absurd h
alike_arm w core x c ys u (To l d) (ToParts m ds) h = absurd h
alike_arm w core x c ys u (ToParts l ds) (Returns os) h = absurd h
alike_arm w core x c ys u (ToParts l ds) (To m f) h = absurd h
alike_arm w core x c ys u (ToParts l ds) (ToParts m fs) h = h

behind_long : (is js ks : List Instruction) → length js ≡ length ks → length (is ++ js) ≡ length (is ++ ks)
behind_long [] js ks h = h
behind_long (i ∷ is) js ks h = ap suc (behind_long is js ks h)

giving_length : (o : Operand) (e f : End) → Alike e f → length (giving o e) ≡ length (giving o f)
giving_length o (Returns os) (Returns ps) h = ap (λ (qs : List Over). length (giving o (Returns qs))) h
giving_length o (To l d) (To m f) h = refl
giving_length o (ToParts l ds) (ToParts m fs) h = refl
giving_length o (Returns os) (To l d) h = absurd h
giving_length o (Returns os) (ToParts l ds) h = absurd h
giving_length o (To l d) (Returns os) h = absurd h
giving_length o (To l d) (ToParts m ds) h = absurd h
giving_length o (ToParts l ds) (Returns os) h = absurd h
giving_length o (ToParts l ds) (To m f) h = absurd h

ending_long : (e f : End) → Alike e f → length (ending e) ≡ length (ending f)
ending_long (Returns os) (Returns ps) h = ap (λ (qs : List Over). length (ending (Returns qs))) h
ending_long (To l d) (To m f) h = refl
ending_long (ToParts l ds) (ToParts m fs) h = refl
ending_long (Returns os) (To l d) h = absurd h
ending_long (Returns os) (ToParts l ds) h = absurd h
ending_long (To l d) (Returns os) h = absurd h
ending_long (To l d) (ToParts m ds) h = absurd h
ending_long (ToParts l ds) (Returns os) h = absurd h
ending_long (ToParts l ds) (To m f) h = absurd h

calling_long : (e f : End) → Alike e f → length (call_ending e) ≡ length (call_ending f)
calling_long (Returns os) (Returns ps) h = ap (λ (qs : List Over). length (call_ending (Returns qs))) h
calling_long (To l d) (To m f) h = refl
calling_long (ToParts l ds) (ToParts m fs) h = ap (λ (qs : List ℕ). length (call_ending (ToParts l qs))) h ∙ behind_long (takes_parts 0 fs) (Jump l ∷ []) (Jump m ∷ []) refl
calling_long (Returns os) (To l d) h = absurd h
calling_long (Returns os) (ToParts l ds) h = absurd h
calling_long (To l d) (Returns os) h = absurd h
calling_long (To l d) (ToParts m ds) h = absurd h
calling_long (ToParts l ds) (Returns os) h = absurd h
calling_long (ToParts l ds) (To m f) h = absurd h

parts_long : (ss : List Operand) (e f : End) → Alike e f → length (giving_parts ss e) ≡ length (giving_parts ss f)
parts_long ss (Returns os) (Returns ps) h = ap (λ (qs : List Over). length (giving_parts ss (Returns qs))) h
parts_long ss (To l d) (To m f) h = refl
parts_long ss (ToParts l ds) (ToParts m fs) h = ap (λ (qs : List ℕ). length (giving_parts ss (ToParts l qs))) h ∙ behind_long (moves fs ss) (Jump l ∷ []) (Jump m ∷ []) refl
parts_long ss (Returns os) (To l d) h = absurd h
parts_long ss (Returns os) (ToParts l ds) h = absurd h
parts_long ss (To l d) (Returns os) h = absurd h
parts_long ss (To l d) (ToParts m ds) h = absurd h
parts_long ss (ToParts l ds) (Returns os) h = absurd h
parts_long ss (ToParts l ds) (To m f) h = absurd h

ending_length : (i : Instruction) (is : List Instruction) (e f : End) → Alike e f → length (i ∷ is ++ ending e) ≡ length (i ∷ is ++ ending f)
ending_length i is e f h = ap suc (behind_long is (ending e) (ending f) (ending_long e f h))

calling_length : (i : Instruction) (is : List Instruction) (e f : End) → Alike e f → length (i ∷ is ++ call_ending e) ≡ length (i ∷ is ++ call_ending f)
calling_length i is e f h = ap suc (behind_long is (call_ending e) (call_ending f) (calling_long e f h))

list_end : {code : CodeTree} {a z : ℕ} {is : List Instruction} → AreAt code a is z → z ≡ a + length is
list_end none = omega arith
list_end (one_more at rest) = let h = list_end rest in omega (arith, h)

same_end : {r s : CodeTree} {a z z' : ℕ} {is js : List Instruction} → AreAt r a is z → AreAt s a js z' → length is ≡ length js → z ≡ z'
same_end p q e = let h = list_end p in let g = list_end q in omega (arith, h, g, e)

leaf_ends : {r s : CodeTree} {must : Bool} {x size many m m' n n' : ℕ} → LeafAt r must x size many m n → LeafAt s must x size many m' n' → m ≡ m' → n ≡ n'
leaf_ends (low.no_leaf f) (low.no_leaf g) e = e
leaf_ends (low.no_leaf f) (low.leaf m n at) e = absurd (f m n)
leaf_ends (low.leaf m n at) (low.no_leaf f) e = absurd (f m n)
leaf_ends (low.leaf m n at) (low.leaf m' n' at') e = ap (λ (k : ℕ). k + 1) e

module _ (core : CoreTree) (r s : CodeTree) where
  mutual
    term_ends : {wi : Within} {fs : List Field} {a z z' : ℕ} {u : Term} {e e' : End} → Low core r wi fs a u e z → Low core s wi fs a u e' z' → Alike e e' → z ≡ z'
    term_ends (low.write {h = v} {c = c} {ss = ss} {ps = ps} {e = e} p) (low.write {e = e'} q) k = same_end p q (ending_length (Fill v.0 c.0 (operands ss) (slots_of ps)) [] e e' k)
    term_ends (low.point {x = x} {e = e} p) (low.point {e = e'} q) k = same_end p q (ending_length (Point (slot_of x)) [] e e' k)
    term_ends (low.call {w = wi} {f = f} {xs = xs} {e = e} p) (low.call {e = e'} q) k = same_end p q (calling_length (Call (function_number core.functions f.0) (operands xs)) (gots wi core f.0 xs) e e' k)
    term_ends (low.give {x = w} {e = e} p) (low.give {e = e'} q) k = same_end p q (giving_length (operand w) e e' k)
    term_ends (low.branch {w = wi} {fs = fs} {v = v} at lu lv) (low.branch {z = z'} {e = e'} at' lu' lv') k =
        term_ends lv (subst (λ (n : ℕ). Low core s wi fs n v e' z') (sym (term_ends lu lu' k)) lv') k
    term_ends (low.case at la) (low.case at' la') k = (arms_end la la' k).0
    term_ends (low.binding {w = wi} {fs = fs} {u = u} lb lu) (low.binding {z = z'} {e = e'} lb' lu') k =
        term_ends lu (subst (λ (n : ℕ). Low core s wi fs n u e' z') (sym (bind_ends lb lb')) lu') k
    term_ends (low.tuple {ss = ss} {e = e} lp ar) (low.tuple {z = z'} {e = e'} lp' ar') k =
        same_end ar (subst (λ (n : ℕ). AreAt s n (giving_parts (operands ss) e') z') (sym (parts_end lp lp')) ar') (parts_long (operands ss) e e' k)

    parts_end : {wi : Within} {fs : List Field} {a i k z z' : ℕ} {ps : t.PartTerms} → LowParts core r wi fs a i k ps z → LowParts core s wi fs a i k ps z' → z ≡ z'
    parts_end low.no_part low.no_part = refl
    parts_end (low.part {w = wi} {fs = fs} {i = i} {k = k} {ps = ps} at lt out rest) (low.part {z = z'} at' lt' out' rest') =
        parts_end rest (subst (λ (n : ℕ). LowParts core s wi fs (n + 1) (suc i) k ps z') (sym (term_ends lt lt' tt)) rest')

    arms_end : {wi : Within} {fs : List Field} {w a z z' : ℕ} {arms arms' : List Arm} {bs : t.Branches} {e e' : End} → LowArms core r wi fs w a arms bs e z → LowArms core s wi fs w a arms' bs e' z' → Alike e e' → (z ≡ z') × (arms ≡ arms')
    arms_end low.no_arm low.no_arm k = (refl, refl)
    arms_end (low.arm {w = wi} {fs = fs} {x = w} {a = a} {c = c} {ys = ys} {u = u} {bs = bs} {e = e} op lf lo rest) (low.arm {l = l'} {z = z'} {arms = arms'} {e = e'} op' lf' lo' rest') k =
        let em = leaf_ends lf lf' (same_end op op' refl) in
        let el = term_ends lo (subst (λ (n : ℕ). Low core s wi (with_fields w (fields_at core.table c.0) ys fs) n u (arm_end wi core w c ys u e') l') (sym em) lo') (alike_arm wi core w c ys u e e' k) in
        let er = arms_end rest (subst (λ (n : ℕ). LowArms core s wi fs w n arms' bs e' z') (sym el) rest') k in
        (er.0, ap (λ (q : List Arm). record { constructor = c.0; label = a } ∷ q) er.1)

    bind_ends : {wi : Within} {fs : List Field} {a z z' : ℕ} {b : t.Bind} → LowBind core r wi fs a b z → LowBind core s wi fs a b z' → z ≡ z'
    bind_ends (low.past at) (low.past at') = refl
    bind_ends (low.one ls) (low.one ls') = side_ends ls ls'
    bind_ends (low.in_turn {w = wi} {fs = fs} {r = v} ll lr) (low.in_turn {z = z'} ll' lr') = side_ends lr (subst (λ (n : ℕ). LowSide core s (within_par wi) fs n v z') (sym (side_ends ll ll')) lr')
    bind_ends (low.forked {w = wi} {fs = fs} {r = v} at ll ej lr eb) (low.forked {z = z'} at' ll' ej' lr' eb') =
        ap (λ (n : ℕ). n + 1) (side_ends lr (subst (λ (n : ℕ). LowSide core s (within_par wi) fs (n + 1) v z') (sym (side_ends ll ll')) lr'))
    bind_ends (low.prim at) (low.prim at') = refl
    bind_ends (low.reach at) (low.reach at') = refl

    side_ends : {wi : Within} {fs : List Field} {a z z' : ℕ} {d : Side} → LowSide core r wi fs a d z → LowSide core s wi fs a d z' → z ≡ z'
    side_ends (low.here at lt) (low.here at' lt') = term_ends lt lt' tt
    side_ends (low.region at lt dn) (low.region at' lt' dn') = ap (λ (n : ℕ). n + 1) (term_ends lt lt' tt)
    side_ends (low.scalar_call at) (low.scalar_call at') = same_end at at' refl
    side_ends (low.scalar_call at) (low.scalar nc lt') = absurd nc
    side_ends (low.scalar nc lt) (low.scalar_call at') = absurd nc
    side_ends (low.scalar nc lt) (low.scalar nc' lt') = term_ends lt lt' tt
    side_ends (low.several {w = wi} {fs = fs} {xs = xs} {tys = tys} {u = u} bg lt dn) (low.several {l = l'} {z = z'} bg' lt' dn') =
        let el = term_ends lt (subst (λ (n : ℕ). Low core s wi fs n u (ToParts l' (scalar_slots tys xs)) l') (sym (same_end bg bg' refl)) lt') refl in
        same_end dn (subst (λ (n : ℕ). AreAt s n (done_all (packed_slots tys xs)) z') (sym el) dn') refl

-- What stands there.

-- The same instructions stand from a label up to another one.
record Same (r s : CodeTree) (a z : ℕ) : Type 0 where
  pub same : (q : ℕ) → a ≤ q → q < z → slice_get r.instructions q ≡ slice_get s.instructions q

same_none : {r s : CodeTree} {a : ℕ} → Same r s a a
same_none = record { same = λ q x y. absurd (omega (arith, x, y)) }

same_join : {r s : CodeTree} {a m z : ℕ} → Same r s a m → Same r s m z → Same r s a z
same_join {r} {s} {a} {m} {z} f g = record { same = λ q x y. go q x y (nat_lt q m) refl }
  where
    go : (q : ℕ) → a ≤ q → q < z → (b : Bool) → nat_lt q m ≡ b → slice_get r.instructions q ≡ slice_get s.instructions q
    go q x y true e = f.same q x (grind (arith, nat_tests))
    go q x y false e = g.same q (grind (arith, nat_tests)) y

same_one : {r s : CodeTree} {a : ℕ} {i : Instruction} → IsAt r a i → IsAt s a i → Same r s a (a + 1)
same_one {r} {s} {a} at at' = record {
  same = λ q x y.
      let e : q ≡ a = omega (arith, x, y) in
      ap (λ (n : ℕ). slice_get r.instructions n) e ∙ at ∙ sym at' ∙ ap (λ (n : ℕ). slice_get s.instructions n) (sym e);
}

same_list : {r s : CodeTree} {a z z' : ℕ} {is : List Instruction} → AreAt r a is z → AreAt s a is z' → Same r s a z
same_list none none = same_none
same_list (one_more at rest) (one_more at' rest') = same_join (same_one at at') (same_list rest rest')

leaf_same : {r s : CodeTree} {must : Bool} {x size many m m' n n' : ℕ} → LeafAt r must x size many m n → LeafAt s must x size many m' n' → m ≡ m' → Same r s m n
leaf_same (low.no_leaf f) (low.no_leaf g) e = same_none
leaf_same (low.no_leaf f) (low.leaf m n at) e = absurd (f m n)
leaf_same (low.leaf m n at) (low.no_leaf f) e = absurd (f m n)
leaf_same {s = s} {x = x} {size = size} (low.leaf m n at) (low.leaf m' n' at') e = same_one at (subst (λ (k : ℕ). IsAt s k (LeafEnd x size)) (sym e) at')

module _ (core : CoreTree) (r s : CodeTree) where
  mutual
    term_same : {wi : Within} {fs : List Field} {a z z' : ℕ} {u : Term} {e : End} → Low core r wi fs a u e z → Low core s wi fs a u e z' → Same r s a z
    term_same (low.write p) (low.write q) = same_list p q
    term_same (low.point p) (low.point q) = same_list p q
    term_same (low.call p) (low.call q) = same_list p q
    term_same (low.give p) (low.give q) = same_list p q
    term_same (low.branch {w = wi} {fs = fs} {a = a} {x = w} {v = v} {e = e} at lu lv) (low.branch {z = z'} at' lu' lv') =
        let el = term_ends core r s lu lu' (alike_itself e) in
        same_join (same_one at (subst (λ (n : ℕ). IsAt s a (Unless (operand w) n)) (sym el) at'))
        (same_join (term_same lu lu') (term_same lv (subst (λ (n : ℕ). Low core s wi fs n v e z') (sym el) lv')))
    term_same (low.case {a = a} {x = w} {e = e} at la) (low.case at' la') =
        same_join (same_one at (subst (λ (q : List Arm). IsAt s a (Switch (slot_of w) q)) (sym (arms_end core r s la la' (alike_itself e)).1) at')) (arms_same la la')
    term_same (low.binding {w = wi} {fs = fs} {u = u} {e = e} lb lu) (low.binding {z = z'} lb' lu') =
        same_join (bind_same lb lb') (term_same lu (subst (λ (n : ℕ). Low core s wi fs n u e z') (sym (bind_ends core r s lb lb')) lu'))
    term_same (low.tuple {ss = ss} {e = e} lp ar) (low.tuple {z = z'} lp' ar') =
        same_join (parts_same lp lp') (same_list ar (subst (λ (n : ℕ). AreAt s n (giving_parts (operands ss) e) z') (sym (parts_end core r s lp lp')) ar'))

    parts_same : {wi : Within} {fs : List Field} {a i k z z' : ℕ} {ps : t.PartTerms} → LowParts core r wi fs a i k ps z → LowParts core s wi fs a i k ps z' → Same r s a z
    parts_same low.no_part low.no_part = same_none
    parts_same (low.part {w = wi} {fs = fs} {a = a} {i = i} {k = k} {u = u} {ps = ps} at lt out rest) (low.part {m = m'} {z = z'} at' lt' out' rest') =
        let em = term_ends core r s lt lt' tt in
        same_join (same_one at at') (same_join (term_same lt (subst (λ (n : ℕ). Low core s wi fs (a + 1) u (To n 0) m') (sym em) lt'))
        (same_join (same_one out (subst (λ (n : ℕ). IsAt s n (Out i k)) (sym em) out')) (parts_same rest (subst (λ (n : ℕ). LowParts core s wi fs (n + 1) (suc i) k ps z') (sym em) rest'))))

    arms_same : {wi : Within} {fs : List Field} {w a z z' : ℕ} {arms arms' : List Arm} {bs : t.Branches} {e : End} → LowArms core r wi fs w a arms bs e z → LowArms core s wi fs w a arms' bs e z' → Same r s a z
    arms_same low.no_arm low.no_arm = same_none
    arms_same (low.arm {w = wi} {fs = fs} {x = w} {c = c} {ys = ys} {u = u} {bs = bs} {e = e} op lf lo rest) (low.arm {l = l'} {z = z'} {arms = arms'} op' lf' lo' rest') =
        let em = same_end op op' refl in
        let lo'' = subst (λ (n : ℕ). Low core s wi (with_fields w (fields_at core.table c.0) ys fs) n u (arm_end wi core w c ys u e) l') (sym (leaf_ends lf lf' em)) lo' in
        let el = term_ends core r s lo lo'' (alike_itself (arm_end wi core w c ys u e)) in
        same_join (same_list op op') (same_join (leaf_same lf lf' em) (same_join (term_same lo lo'') (arms_same rest (subst (λ (n : ℕ). LowArms core s wi fs w n arms' bs e z') (sym el) rest'))))

    bind_same : {wi : Within} {fs : List Field} {a z z' : ℕ} {b : t.Bind} → LowBind core r wi fs a b z → LowBind core s wi fs a b z' → Same r s a z
    bind_same (low.past at) (low.past at') = same_one at at'
    bind_same (low.one ls) (low.one ls') = side_same ls ls'
    bind_same (low.in_turn {w = wi} {fs = fs} {r = v} ll lr) (low.in_turn {z = z'} ll' lr') =
        same_join (side_same ll ll') (side_same lr (subst (λ (n : ℕ). LowSide core s (within_par wi) fs n v z') (sym (side_ends core r s ll ll')) lr'))
    bind_same (low.forked {w = wi} {fs = fs} {a = a} {m = m} {z = z} {r = v} at ll ej lr eb) (low.forked {m = m'} {z = z'} at' ll' ej' lr' eb') =
        let em = side_ends core r s ll ll' in
        let lr'' = subst (λ (n : ℕ). LowSide core s (within_par wi) fs (n + 1) v z') (sym em) lr' in
        let ez = side_ends core r s lr lr'' in
        let at'' = subst (λ (n : ℕ). IsAt s a (Fork (n + 1) (z + 1) (side_kind v) (side_slots v) (side_type v))) (sym em) (subst (λ (n : ℕ). IsAt s a (Fork (m' + 1) (n + 1) (side_kind v) (side_slots v) (side_type v))) (sym ez) at') in
        same_join (same_one at at'') (same_join (side_same ll ll') (same_join (same_one ej (subst (λ (n : ℕ). IsAt s n Join) (sym em) ej'))
        (same_join (side_same lr lr'') (same_one eb (subst (λ (n : ℕ). IsAt s n Back) (sym ez) eb')))))
    bind_same (low.prim at) (low.prim at') = same_one at at'
    bind_same (low.reach at) (low.reach at') = same_one at at'

    side_same : {wi : Within} {fs : List Field} {a z z' : ℕ} {d : Side} → LowSide core r wi fs a d z → LowSide core s wi fs a d z' → Same r s a z
    side_same (low.here {w = wi} {fs = fs} {a = a} {u = u} at lt) (low.here {z = z'} at' lt') =
        same_join (same_one at at') (term_same lt (subst (λ (n : ℕ). Low core s wi fs (a + 1) u (To n 0) z') (sym (term_ends core r s lt lt' tt)) lt'))
    side_same (low.region {w = wi} {fs = fs} {a = a} {u = u} at lt dn) (low.region {z = z'} at' lt' dn') =
        let ez = term_ends core r s lt lt' tt in
        same_join (same_one at at') (same_join (term_same lt (subst (λ (n : ℕ). Low core s wi fs (a + 1) u (To n 0) z') (sym ez) lt')) (same_one dn (subst (λ (n : ℕ). IsAt s n Done) (sym ez) dn')))
    side_same (low.scalar_call at) (low.scalar_call at') = same_list at at'
    side_same (low.scalar_call at) (low.scalar nc lt') = absurd nc
    side_same (low.scalar nc lt) (low.scalar_call at') = absurd nc
    side_same (low.scalar {w = wi} {fs = fs} {a = a} {x = v} {u = u} nc lt) (low.scalar {z = z'} nc' lt') =
        term_same lt (subst (λ (n : ℕ). Low core s wi fs a u (To n v.0) z') (sym (term_ends core r s lt lt' tt)) lt')
    side_same (low.several {w = wi} {fs = fs} {b = b} {xs = xs} {tys = tys} {u = u} bg lt dn) (low.several {l = l'} {z = z'} bg' lt' dn') =
        let begun = subst (λ (n : ℕ). Low core s wi fs n u (ToParts l' (scalar_slots tys xs)) l') (sym (same_end bg bg' refl)) lt' in
        let el = term_ends core r s lt begun refl in
        same_join (same_list bg bg') (same_join (term_same lt (subst (λ (n : ℕ). Low core s wi fs b u (ToParts n (scalar_slots tys xs)) l') (sym el) begun))
        (same_list dn (subst (λ (n : ℕ). AreAt s n (done_all (packed_slots tys xs)) z') (sym el) dn')))

-- The functions.

same_entry : (d e : Entry) → d.name ≡ e.name → d.start ≡ e.start → d.slots ≡ e.slots → d.result ≡ e.result → d ≡ e
same_entry d e name start slots result =
    ap (λ (n : Option Name). record { name = n; start = d.start; slots = d.slots; result = d.result }) name
    ∙ ap (λ (n : ℕ). record { name = e.name; start = n; slots = d.slots; result = d.result }) start
    ∙ ap (λ (n : ℕ). record { name = e.name; start = e.start; slots = n; result = d.result }) slots
    ∙ ap (λ (q : AnswerType). record { name = e.name; start = e.start; slots = e.slots; result = q }) result

functions_same : (core : CoreTree) (r s : CodeTree) (a : ℕ) (gs : List FunctionTerm) (es es' : List Entry) → LowFunctions core r a gs es → LowFunctions core s a gs es'
    → Same r s a (length r.instructions) × (length r.instructions ≡ length s.instructions) × (es ≡ es')
functions_same core r s a _ _ _ (low.main {e = e} name result start slots body) (low.main {e = e'} name' result' start' slots' body') = (
  term_same core r s body body',
  term_ends core r s body body' refl,
  ap (λ (q : Entry). q ∷ []) (same_entry e e' (name ∙ sym name') (start ∙ sym start') (slots ∙ sym slots') (result ∙ sym result')),
)
functions_same core r s a _ _ _ (low.function {z = z} {g = g} {gs = gs} {e = e} {es = es} name result start slots body rest) (low.function {e = e'} {es = es'} name' result' start' slots' body' rest') =
    let ez = term_ends core r s body body' refl in
    let h = functions_same core r s z gs es es' rest (subst (λ (n : ℕ). LowFunctions core s n gs es') (sym ez) rest') in (
      same_join (term_same core r s body body') h.0,
      h.1,
      ap (λ (q : Entry). q ∷ es) (same_entry e e' (name ∙ sym name') (start ∙ sym start') (slots ∙ sym slots') (result ∙ sym result')) ∙ ap (λ (q : List Entry). e' ∷ q) h.2,
    )

lists_same : (is js : List Instruction) → length is ≡ length js → ((q : ℕ) → q < length is → slice_get is q ≡ slice_get js q) → is ≡ js
lists_same [] [] e f = refl
lists_same [] (j ∷ js) e f = absurd (omega (arith, e))
lists_same (i ∷ is) [] e f = absurd (omega (arith, e))
lists_same (i ∷ is) (j ∷ js) e f =
    ap (λ (q : Instruction). q ∷ is) (same_Some _ _ (f 0 (omega arith)))
    ∙ ap (λ (qs : List Instruction). j ∷ qs) (lists_same is js (omega (arith, e)) (λ q l. f (suc q) (omega (arith, l))))

pub one_code : (core : CoreTree) (r s : CodeTree) → IsLowered core r → IsLowered core s → r ≡ s
one_code core r s x y =
    let h = functions_same core r s 0 core.functions r.functions s.functions x.functions y.functions in
    ap (λ (l : LaidOut). record { laid = l; instructions = r.instructions; functions = r.functions }) (x.laid ∙ sym y.laid)
    ∙ ap (λ (is : List Instruction). record { laid = s.laid; instructions = is; functions = r.functions }) (lists_same r.instructions s.instructions h.1 (λ q l. h.0.same q (omega arith) l))
    ∙ ap (λ (es : List Entry). record { laid = s.laid; instructions = s.instructions; functions = es }) h.2
