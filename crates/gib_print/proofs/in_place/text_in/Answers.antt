use Rattle.std.proofs.Common.{◌≡◌, ◌++◌, ◌∷◌, [], ◌∙◌, ℕ, List, length, refl, sym, ap, subst, subst₂}
use Rattle.std.specs.Prelude.{ℤ}
use Rattle.std.specs.Fmt.{signed_decimal}
use Rattle.std.specs.Int.{w64, cast_signed, cast_unsigned}
use Rattle.std.proofs.lemmas.Int.{to_z-of_z}
use Rattle.std.proofs.lemmas.Result.{IfOk-weaker}
use Rattle.gib_types.specs.declared.table.Ty.{Ty}
use Rattle.gib_types.specs.declared.table.Ty.TheVariants as ty
use Rattle.gib_types.specs.Layout.{LaidOut}
use Rattle.gib_types.specs.Table.{IsTable}
use Rattle.gib_types.specs.Tree.{Datum}
use Rattle.gib_file.specs.Packed.{Packed, number, bit}
use Rattle.gib_mem.specs.Memory.{Store, Holds, byte}
use Rattle.gib_packed.specs.Decoding.{Dec}
use Rattle.gib_packed.specs.Stands.{a_whole, a_truth}
use Rattle.gib_value.specs.Text.{text, AreHeld}
use Rattle.gib_print.proofs.InPlaceLemmas.{tree_lies, whole_lies, truth_lies, truth_is}
use Rattle.gib_print.specs.InPlace.{cells_of, packed_layout}
use Rattle.gib_print.proofs.RootLemmas.{whole_text, truth_is_text}
use Rattle.gib_print.proofs.in_place.text_in.Goals as goal

pub whole_at-requires : goal.whole_at-requires
whole_at-requires g c =
    let s = c.args.survey.now in
    let p = c.payload-packed.ensures.packed in
    let w = whole_lies s.table s.bytes p.0 (subst (λ (t : Ty). Packed s.table t p.0 s.bytes) (sym c.ty.ensures ∙ c.in-Whole.is) p.1) in
    (w.0, w.1, subst (λ (cells : Store). Holds cells 0 (number w.0)) (sym c.requires.cells) w.2)

pub truth_at-requires : goal.truth_at-requires
truth_at-requires g c =
    let s = c.args.survey.now in
    let p = c.payload-packed.ensures.packed in
    let w = truth_lies s.table s.bytes p.0 (subst (λ (t : Ty). Packed s.table t p.0 s.bytes) (sym c.ty.ensures ∙ c.in-Truth.is) p.1) in
    (w.0, subst (λ (cells : Store). cells 0 ≡ byte (bit w.0)) (sym c.requires.cells) w.1)

pub returns-in-Whole : goal.returns-in-Whole
returns-in-Whole g c =
    let s = c.args.survey.now in
    let names = c.args.names.now.short in
    let laid : LaidOut = packed_layout s.table in
    IfOk-weaker c.line_of.result _ _ (λ line is v p.
    let w = whole_lies s.table s.bytes v (subst (λ (t : Ty). Packed s.table t v s.bytes) (sym c.ty.ensures ∙ c.in-Whole.is) p) in
    let number = ap (λ (x : ℤ). cast_signed w64 (cast_unsigned w64 x)) (c.whole_at.ensures.value w.0 w.1 (subst (λ (cells : Store). Holds cells 0 (number w.0)) (sym c.requires.cells) w.2)) ∙ to_z-of_z w64 w.0 w.1 in
    let word = c.as_bytes.ensures.value ∙ c.format.ensures.text ∙ ap signed_decimal number in
    is ∙ ap (λ (x : List ℕ). x ++ (10 ∷ [])) (whole_text {laid = laid} {s = cells_of s.bytes} names w.0 c.as_bytes.result.now (a_whole w.1) refl word ∙ ap (text s.table names) (sym w.3))) c.line_of.ensures

pub returns-in-Truth : goal.returns-in-Truth
returns-in-Truth g c =
    let s = c.args.survey.now in
    let names = c.args.names.now.short in
    let laid : LaidOut = packed_layout s.table in
    IfOk-weaker c.line_of-in-Truth.result _ _ (λ line is v p.
    let here = subst (λ (cells : Store). cells 0 ≡ byte (bit c.truth_at.result)) c.requires.cells c.truth_at.ensures.value in
    let w = truth_is s.table s.bytes v c.truth_at.result (subst (λ (t : Ty). Packed s.table t v s.bytes) (sym c.ty.ensures ∙ c.in-Truth.is) p) here in
    is ∙ ap (λ (x : List ℕ). x ++ (10 ∷ [])) (truth_is_text {laid = laid} {s = cells_of s.bytes} names c.truth_at.result c.truth_word.result.now a_truth refl c.truth_word.ensures ∙ ap (text s.table names) (sym w))) c.line_of-in-Truth.ensures

-- the value stands in its payload, by the layouts of the table
abbrev At : LaidOut → Store → (t : ℕ) → Datum → (z : ℕ) → Type 0
At laid cells t v z = Dec laid cells 0 t v z

pub keep_text-requires-clause-names : goal.keep_text-requires-clause-names
keep_text-requires-clause-names g c = subst (λ (laid : LaidOut). AreHeld laid.table c.args.names.now.short) (sym c.requires.layouts) c.requires.names

pub keep_text-requires-clause-value : goal.keep_text-requires-clause-value
keep_text-requires-clause-value g c =
    let s = c.args.survey.now in
    let t = c.in-Tree.field-0 in
    let p = c.payload-packed.ensures.packed in
    let rules = subst (λ (laid : LaidOut). IsTable laid.table) c.requires.layouts c.rules.ensures.table in
    let d = tree_lies s.table rules s.bytes t p.0 (subst (λ (x : Ty). Packed s.table x p.0 s.bytes) (sym c.ty.ensures ∙ c.in-Tree.is) p.1) in
    (t.0, p.0, length s.bytes, subst₂ (λ (laid : LaidOut) (cells : Store). At laid cells t.0 p.0 (length s.bytes)) (sym c.requires.layouts) (sym c.requires.cells) d)

pub returns-in-Some : goal.returns-in-Some
returns-in-Some g c = λ v p.
    let s = c.args.survey.now in
    let t = c.in-Tree.field-0 in
    let rules = subst (λ (laid : LaidOut). IsTable laid.table) c.requires.layouts c.rules.ensures.table in
    let d = tree_lies s.table rules s.bytes t v (subst (λ (x : Ty). Packed s.table x v s.bytes) (sym c.ty.ensures ∙ c.in-Tree.is) p) in
    let there = subst₂ (λ (laid : LaidOut) (cells : Store). At laid cells t.0 v (length s.bytes)) (sym c.requires.layouts) (sym c.requires.cells) d in
    subst (λ (laid : LaidOut). c.in-Some.text.items ≡ text laid.table c.args.names.now.short v ++ (10 ∷ [])) c.requires.layouts (c.in-Some.ensures.text t.0 v (length s.bytes) there)
