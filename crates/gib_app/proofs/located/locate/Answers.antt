use Rattle.std.proofs.Common.{◌≡◌, ◌∙◌, sym, ap, subst}
use Rattle.gib_base.specs.declared.token.Dialect.TheVariants as dialect
use Rattle.gib_types.specs.Table.{Table, IsTable}
use Rattle.gib_core.specs.Parts.{core_of}
use Rattle.gib_core.specs.Parts.{Parts}
use Rattle.gib_core.specs.TypesNamed.{SignaturesDeclared}
use Rattle.gib_app.specs.declared.stop.Stop.{Stop}
use Rattle.gib_app.specs.Located.{IsLocatedStop}
use Rattle.gib_app.specs.PassFaults.{local_stop}
use Rattle.gib_app.proofs.LocatedLaws.{Facts, Laws, local_refused, written_of}
use Rattle.gib_app.proofs.located.locate.Goals as goal

pub returns-in-Err-clause-refused : goal.returns-in-Err-clause-refused
returns-in-Err-clause-refused c =
    let laws : Laws = record { nothing = c.one_refusal_in.ensures.nothing dialect.Located; one = c.one_refusal_in.ensures.one dialect.Located; lexed = c.one_reading_in.ensures dialect.Located; answered = c.texts_are_answered.ensures } in
    let P : Stop → Type 0 = IsLocatedStop c.args.source.now in
    subst P (sym c.of_local.ensures) (local_refused laws c.args.source.now c.in-Err.fault c.in-Err.ensures.refused)

pub returns-in-Err-clause-only : goal.returns-in-Err-clause-only
returns-in-Err-clause-only c = λ names p is. c.of_local.ensures ∙ ap local_stop (c.in-Err.ensures.only is.core is.local is.built)

pub returns-clause-written : goal.returns-clause-written
returns-clause-written c =
    let facts : Facts = record {
      unbroken_built = c.built_is_unbroken.ensures;
      marked_run = c.marking_keeps.ensures.run;
      marked_numbered = c.marking_keeps.ensures.numbered;
      numbered = c.made_is_numbered.ensures;
      table = c.made_has_types.ensures.table;
      types = c.made_has_types.ensures.types;
      means = c.made_means.ensures;
      writable = c.same_again_in.ensures.writable dialect.Located;
    } in
    let made = c.in-Ok.ensures.made in
    let same = c.core-whole.ensures.value in
    let T : Table → Type 0 = IsTable in
    let D : Parts → Type 0 = λ x. SignaturesDeclared (core_of x) in
    written_of facts c.args.source.now made.0 made.1 made.2 (core_of c.in-Ok.located.core) c.in-Ok.located.names _ made.3 made.4 c.new.ensures
    (subst T (c.types.ensures ∙ ap (λ (x : Parts). x.table) same) c.rules.ensures) (subst D same c.types_declared.ensures)
