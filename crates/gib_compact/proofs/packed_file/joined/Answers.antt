use Rattle.std.proofs.Common.{◌≡◌, ◌≤◌, ℕ, length, ap, subst, Err, ◌∙◌}
use Rattle.std.specs.Prelude.{Result, IfOk}
use Rattle.std.specs.Global.{Vec}
use Rattle.gib_compact.specs.Gathered.{gathered, with_head}
use Rattle.gib_compact.specs.declared.fault.CompactFault.{CompactFault}
use Rattle.gib_compact.specs.declared.fault.CompactFault.TheVariants.{Long}
use Rattle.gib_compact.proofs.packed_file.joined.Goals as goal

pub returns-in-Ok-gather-clause-out : goal.returns-in-Ok-gather-clause-out
returns-in-Ok-gather-clause-out c = λ description payload most h.
    let k = subst (λ (r : Result (Vec (Vec ℕ)) CompactFault). IfOk r (λ parts. (gathered parts.items ≡ with_head description (length payload) payload) × (length payload ≤ most))) c.in-Ok.is h in
    (c.in-Ok-gather.ensures ∙ k.0, k.1)

pub returns-in-Err-clause-long : goal.returns-in-Err-clause-long
returns-in-Err-clause-long c = λ e.
    let same : c.in-Err.fault ≡ Long = cc in
    c.in-Err.is ∙ ap (λ (x : CompactFault). Err x) same
