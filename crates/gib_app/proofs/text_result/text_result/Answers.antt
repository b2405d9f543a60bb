use Rattle.std.proofs.Common.{◌≡◌, ◌∙◌, ◌++◌, ◌∷◌, [], ℕ, List, sym, ap, subst, IfOk}
use Rattle.gib_types.specs.Layout.{LaidOut}
use Rattle.gib_types.specs.Table.{Table}
use Rattle.gib_value.specs.Text.{text, AreHeld}
use Rattle.gib_packed.specs.Stands.{Stands}
use Rattle.gib_code.specs.Program.{CodeTree}
use Rattle.gib_syntax.specs.Declarations.{output_type}
use Rattle.gib_app.specs.MachineRun.{cells_of}
use Rattle.gib_app.proofs.text_result.text_result.Goals as goal

pub text_by-text-requires-clause-names : goal.text_by-text-requires-clause-names
text_by-text-requires-clause-names g c κs within =
    let value = c.args.value in
    let e = c.layouts.ensures ∙ ap (λ (x : CodeTree). x.laid) c.code.ensures.value in
    subst (λ (l : LaidOut). AreHeld l.table value.names.short) (sym e) c.requires.names

pub text_by-text-requires-clause-stands : goal.text_by-text-requires-clause-stands
text_by-text-requires-clause-stands g c κs within =
    let value = c.args.value in
    let r = c.requires.stands in
    let e = c.layouts.ensures ∙ ap (λ (x : CodeTree). x.laid) c.code.ensures.value in
    (output_type r.program, r.meant.result, subst (λ (l : LaidOut). Stands l (cells_of value.ran.memory) value.ran.root (output_type r.program) r.meant.result) (sym e) r.meant.stands)

pub returns-clause-text : goal.returns-clause-text
returns-clause-text g c = λ p depth input s.
    let value = c.args.value in
    let e = c.layouts.ensures ∙ ap (λ (x : CodeTree). x.laid) c.code.ensures.value in
    let P : LaidOut → Type 0 = λ l. Stands l (cells_of value.ran.memory) value.ran.root (output_type p) s.result → IfOk c.text_by-text.result.0 (λ out. out.items ≡ text l.table value.names.short s.result ++ 10 ∷ []) in
    subst (λ (t : Table). IfOk c.text_by-text.result.0 (λ out. out.items ≡ text t value.names.short s.result ++ 10 ∷ [])) s.table (subst P e (c.text_by-text.ensures.text (output_type p) s.result) s.stands)
