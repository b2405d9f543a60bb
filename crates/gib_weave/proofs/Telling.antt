-- The instructions that tell a variable where it ends, and the one that reaches a field there.
use Rattle.std.proofs.Common.{ℕ, ◌+◌, sym, subst}
use Rattle.gib_syntax.specs.Meaning.{value_in}
use Rattle.gib_mem.specs.Memory.{Store}
use Rattle.gib_core.specs.declared.atom.Variable.{Variable}
use Rattle.gib_core.specs.declared.atom.Access.TheVariants as by
use Rattle.gib_core.specs.Tree.{Term, Then, Reach, CoreTree}
use Rattle.gib_code.specs.Instruction as i
use Rattle.gib_code.specs.Program.{CodeTree, IsAt}
use Rattle.gib_core.specs.Fits.{Sort}
use Rattle.gib_machine.specs.State.{slot, end_at, State, sets}
use Rattle.gib_weave.specs.EndWords.{EndWord}
use Rattle.gib_weave.specs.Environment.{Ctx, IsField, Has}
use Rattle.gib_weave.specs.Continuing.{IsCode, Kont, end_of}
use Rattle.gib_weave.specs.Owing.{Owed}
use Rattle.gib_weave.specs.Paying.{Share}
use Rattle.gib_weave.specs.Places.{Owned}
use Rattle.gib_weave.specs.Sound.{AtTerm, Safe, Moves, silent}
use Rattle.gib_weave.proofs.Tolds.{tree_end}
use Rattle.gib_weave.proofs.Arms.{reached}
use Rattle.gib_weave.proofs.EndWords.{end_is_place}
use Rattle.gib_weave.proofs.Ends.{step_is}

module _ (core : CoreTree) (code : CodeTree) (owed : Owed) (own : Owned) (sh : Share) where
  -- `end y z`: y, the field behind z, is reached where z ends
  pub does_end : {s : Store} {m : State} {c : Ctx} {k : Kont} (y z : Variable) (u : Term) → IsAt code m.ip (i.EndOf y.0 z.0) → IsCode core code c.line.within c.scope (m.ip + 1) u (end_of c.line.overs k)
      → AtTerm core code owed own sh s m (Then (Reach y (by.End z)) u) c k → Moves core code owed own sh s m
  does_end {s} {m} {c} {k} y z u e lu at =
      silent (step_is code m (i.EndOf y.0 z.0) at.ready e)
      (subst (λ (r : ℕ). Safe core code owed own sh s (sets m y.0 r)) (sym (end_is_place f z_end (at.line.matches.vars.told z.0 at.fits.8).some)) over)
    where
      f : IsField code.laid s c at.fits.0 z.0 at.fits.1 at.fits.2 at.fits.3 (value_in c.env y.0) (c.pl y.0)
      f = subst (λ (so : Sort). Has code.laid s c so (slot m.words y.0) (value_in c.env y.0) (c.pl y.0) (c.hd y.0)) at.fits.5 (at.line.matches.vars.has y.0)

      z_end : EndWord code.laid s at.fits.4 (c.pl z.0) (slot m.words z.0) (end_at m.words z.0) (value_in c.env z.0)
      z_end = tree_end code.laid s (c.scope z.0) at.fits.4 (slot m.words z.0) (end_at m.words z.0) (value_in c.env z.0) (c.pl z.0) at.fits.6 (at.line.matches.vars.ends z.0)

      over : Safe core code owed own sh s (sets m y.0 (c.pl y.0))
      over = reached core code owed own sh y (by.End z) u at.fits.0 z.0 at.fits.1 at.fits.2 at.fits.3 at.fits.5 at lu at.fits.7
