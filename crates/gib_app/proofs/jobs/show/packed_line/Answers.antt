use Rattle.std.proofs.Common.{◌≡◌, ◌++◌, ◌∷◌, [], List, ℕ, sym, subst}
use Rattle.gib_types.specs.Table.{Table}
use Rattle.gib_value.specs.Text.{text, AreHeld}
use Rattle.gib_app.proofs.jobs.show.packed_line.Goals as goal

pub packed_text-requires : goal.packed_text-requires
packed_text-requires c = record { names = subst (λ (t : Table). AreHeld t c.args.compiled.now.names.short) (sym c.in-Ok.ensures.table) c.requires.ready.held }

pub returns-in-Ok-packed_text-clause-output : goal.returns-in-Ok-packed_text-clause-output
returns-in-Ok-packed_text-clause-output c =
    let p = c.payload-packed.ensures.packed in (
      p.0,
      record { short = c.requires.short; file = c.in-Ok.ensures.file p.0 p.1 },
      subst (λ (t : Table). c.in-Ok-packed_text.text.items ≡ text t c.args.compiled.now.names.short p.0 ++ (10 ∷ [])) c.in-Ok.ensures.table (c.in-Ok-packed_text.ensures p.0 p.1),
    )
