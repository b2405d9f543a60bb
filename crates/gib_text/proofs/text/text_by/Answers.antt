use Rattle.std.proofs.Common.{ap, sym, subst, ◌∙◌}
use Rattle.gib_mem.specs.Memory.{Memory}
use Rattle.gib_packed.specs.Stands.{Stands}
use Rattle.gib_text.proofs.text.text_by.Goals as goal

pub returns-clause-free : goal.returns-clause-free
returns-clause-free g c = λ q f.
    ap (λ (m : Memory). m.cells q) c.of_parts.ensures ∙ c.root_by-texts.ensures.back.free q (ap (λ (m : Memory). m.cells q) c.into_parts-arena.ensures.shows ∙ f)

pub returns-clause-text : goal.returns-clause-text
returns-clause-text g c = λ ty v st.
    let there = subst (λ (m : Memory). Stands c.args.printing.layouts.now m.cells c.args.root ty v) (sym c.into_parts-arena.ensures.shows) st in
    c.joined.ensures _ (c.root_by-texts.ensures.text ty v there)
