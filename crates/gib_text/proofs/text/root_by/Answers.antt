use Rattle.std.proofs.Common.{◌≡◌, ◌++◌, ◌∷◌, [], ℕ, List, ap, sym, subst, refl, ◌∙◌}
use Rattle.std.specs.Prelude.{FitsSigned, Result, Ok, IfOk}
use Rattle.std.specs.Global.{Vec}
use Rattle.std.specs.declared.alloc.AllocError.{AllocError}
use Rattle.std.specs.Fmt.{signed_decimal}
use Rattle.std.specs.Int.{w64}
use Rattle.std.proofs.lemmas.Int.{to_z-of_z}
use Rattle.std.proofs.lemmas.Result.{IfOk-weaker}
use Rattle.gib_mem.specs.Memory.{Store}
use Rattle.gib_types.specs.Layout.{LaidOut}
use Rattle.gib_compact.proofs.BackLemmas.{back_on}
use Rattle.gib_print.specs.Cut.{Cut}
use Rattle.gib_print.specs.declared.item.Item.{Item}
use Rattle.gib_print.proofs.RootLemmas.{whole_text, truth_is_text, tree_stands, tree_decodes}
use Rattle.gib_text.proofs.text.root_by.Goals as goal

-- the items that came are those bytes
cut_of : {laid : LaidOut} {names : List (List ℕ)} {s : Store} {r : Result (Vec Item) AllocError} {items : Vec Item} {xs : List Item} {bytes : List ℕ} → r ≡ Ok items → xs ≡ items.items
    → IfOk r (λ i. Cut laid names s i.items bytes) → Cut laid names s xs bytes
cut_of {laid = laid} {names = names} {s = s} {bytes = bytes} is e cut =
    subst (λ (ys : List Item). Cut laid names s ys bytes) (sym e) (subst (λ (q : Result (Vec Item) AllocError). IfOk q (λ i. Cut laid names s i.items bytes)) is cut)

pub returns-in-Whole-clause-text : goal.returns-in-Whole-clause-text
returns-in-Whole-clause-text g c = λ ty v st.
    let fits : FitsSigned w64 c.in-Whole.z = search in
    let kept = to_z-of_z w64 c.in-Whole.z fits in
    c.alone.ensures _ (IfOk-weaker c.whole_line.result _ _ (λ line is. is ∙ ap (λ (x : List ℕ). x ++ 10 ∷ []) (whole_text c.args.sharing.printing.names.now.short c.in-Whole.z _ st c.in-Whole.is (ap signed_decimal kept))) c.whole_line.ensures)

pub returns-in-Truth-clause-text : goal.returns-in-Truth-clause-text
returns-in-Truth-clause-text g c = λ ty v st.
    c.alone-in-Truth.ensures _ (IfOk-weaker c.truth_line.result _ _ (λ line is. is ∙ ap (λ (x : List ℕ). x ++ 10 ∷ []) (truth_is_text c.args.sharing.printing.names.now.short c.in-Truth.b _ st c.in-Truth.is refl)) c.truth_line.ensures)

pub cut_alone-items-requires-clause-value : goal.cut_alone-items-requires-clause-value
cut_alone-items-requires-clause-value g c = tree_decodes _ c.requires.stands.2 c.in-At.is

pub texts_by-requires-clause-cut : goal.texts_by-requires-clause-cut
texts_by-requires-clause-cut g c κs within =
    let r = tree_stands _ c.requires.stands.2 c.in-At.is in
    (_, cut_of c.in-Ok.is c.deref.ensures.value (c.cut_alone-items.ensures.cut r.0 c.requires.stands.1 r.1 r.2))

pub returns-in-Ok-clause-text : goal.returns-in-Ok-clause-text
returns-in-Ok-clause-text g c = λ ty v st.
    let r = tree_stands _ st c.in-At.is in
    c.texts_by.ensures.text _ (cut_of c.in-Ok.is c.deref.ensures.value (c.cut_alone-items.ensures.cut r.0 v r.1 r.2))

pub returns-in-Ok-clause-back : goal.returns-in-Ok-clause-back
returns-in-Ok-clause-back g c = back_on c.args.sharing.arena.now c.args.pass c.cut_alone-items.result.1 c.texts_by.result.1 c.cut_alone-items.ensures.back c.texts_by.ensures.back
