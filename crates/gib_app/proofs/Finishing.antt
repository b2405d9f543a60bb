-- From what a source left to what is made of a plan's files.
use Rattle.std.proofs.Common.{◌≡◌, refl, sym, subst, ℕ, List, Some}
use Rattle.gib_base.specs.Texts.{TextsView}
use Rattle.gib_base.specs.declared.token.Dialect.{Dialect}
use Rattle.gib_base.specs.declared.token.Dialect.TheVariants as dialect
use Rattle.gib_edge.specs.Views.{ShelfView}
use Rattle.gib_syntax.specs.Parts.{program_of}
use Rattle.gib_core.specs.Numbering.{AreNumbered}
use Rattle.gib_core.specs.Parts.{core_of}
use Rattle.gib_app.specs.declared.compile.Compiled.{Compiled}
use Rattle.gib_app.specs.declared.located.LocatedCore.{LocatedCore}
use Rattle.gib_app.specs.declared.made.Made.{Made}
use Rattle.gib_app.specs.declared.make.Taken.{Taken}
use Rattle.gib_app.specs.declared.make.Taken.TheVariants as taken
use Rattle.gib_app.specs.declared.stop.Stop.{Stop}
use Rattle.gib_app.specs.Calls.{read_calls}
use Rattle.gib_app.specs.Causes.{OnSource}
use Rattle.gib_app.specs.Formats.{dialect_of, inputs_of}
use Rattle.gib_app.specs.FromSource.{StandsFor, IsTaken, IsFinished}
use Rattle.gib_app.specs.Jobs.{DoesAll}
use Rattle.gib_app.specs.Kept.{EndsByBoth, file_of, packed_of}
use Rattle.gib_app.specs.Located.{IsWritten}
use Rattle.gib_app.specs.MachineRun.{RunsFor}
use Rattle.gib_app.specs.Performing.{IsDone, IsOfRun}
use Rattle.gib_words.specs.Plan.{Plan}
use Rattle.gib_app.specs.Readings.{HasRead}
use Rattle.gib_app.specs.Remains.{ComesOfRun}
use Rattle.gib_app.specs.Rows.{row}
use Rattle.gib_app.specs.Running.{Program, IsProgram, IsProgramIn, sourced}
use Rattle.gib_app.specs.Stops.{IsInputsStop, IsMakeStop, IsReady}
use Rattle.gib_app.proofs.Making.{in_dialect, inputs_stop, on_both}
use Rattle.gib_app.proofs.Told.{held_before}

-- What bytes of a source leave.

pub compiled_taken : (c : Compiled) (source : List ℕ) → IsProgram source c.names (program_of c.typed) → IsReady (program_of c.typed) c.names → IsTaken dialect.Source (taken.Program c) source
compiled_taken c source is ready = record {
  program = sourced (program_of c.typed);
  names = c.names;
  is_program = (is, refl);
  stands = record { program = refl; texts = refl; ready = ready };
}

pub written_taken : (l : LocatedCore) (source : List ℕ) → IsWritten source (core_of l.core) l.names → IsTaken dialect.Located (taken.Core l) source
written_taken l source is = record {
  program = is.program;
  names = l.names;
  is_program = is.is_program;
  stands = record { core = is.located; texts = refl; runs = is.runs; numbered = is.numbered };
}

-- What stands for a program is of one of two kinds, by its dialect.

pub program_source : (d : Dialect) (c : Compiled) (p : Program) (names : TextsView) → StandsFor d (taken.Program c) p names → d ≡ dialect.Source
program_source dialect.Source c p names h = refl
program_source dialect.Located c p names h = absurd h

pub core_located : (d : Dialect) (l : LocatedCore) (p : Program) (names : TextsView) → StandsFor d (taken.Core l) p names → d ≡ dialect.Located
core_located dialect.Source l p names h = absurd h
core_located dialect.Located l p names h = refl

pub program_ready : (d : Dialect) (c : Compiled) (p : Program) (names : TextsView) → StandsFor d (taken.Program c) p names → IsReady (program_of c.typed) c.names
program_ready dialect.Source c p names h = h.ready
program_ready dialect.Located c p names h = absurd h

pub core_numbered : (d : Dialect) (l : LocatedCore) (p : Program) (names : TextsView) → StandsFor d (taken.Core l) p names → AreNumbered (core_of l.core)
core_numbered dialect.Source l p names h = absurd h
core_numbered dialect.Located l p names h = h.numbered

pub by_program : (d : Dialect) (c : Compiled) (p : Program) (names : TextsView) (Q : Program → TextsView → Type 0) → StandsFor d (taken.Program c) p names → Q (sourced (program_of c.typed)) c.names → Q p names
by_program dialect.Source c p names Q h q = subst (λ (x : Program). Q x names) (sym h.program) (subst (λ (ns : TextsView). Q (sourced (program_of c.typed)) ns) (sym h.texts) q)
by_program dialect.Located c p names Q h q = absurd h

pub by_core : (d : Dialect) (l : LocatedCore) (p : Program) (names : TextsView) (Q : TextsView → Type 0) → StandsFor d (taken.Core l) p names
    → (p.located ≡ Some (core_of l.core) → RunsFor (core_of l.core) p.tree l.names → Q l.names) → Q names
by_core dialect.Source l p names Q h q = absurd h
by_core dialect.Located l p names Q h q = subst Q (sym h.texts) (q h.core h.runs)

-- What is made of what a source left is made of the plan's files.

module _ (before : ShelfView) (r : Plan) (dl : Dialect) (e : dialect_of r.job ≡ dl) (left : Taken) (on : OnSource before.kept r.source (IsTaken dl left)) where
  own_stands : StandsFor (dialect_of r.job) left on.holds.program on.holds.names
  own_stands = let S : Dialect → Type 0 = λ d. StandsFor d left on.holds.program on.holds.names in subst S (sym e) on.holds.stands

  own_source : OnSource before.kept r.source (λ source. IsProgramIn (dialect_of r.job) source on.holds.names on.holds.program)
  own_source =
      in_dialect before.kept r r.source on.holds.program on.holds.names dl e (record { source = on.source; source_held = on.source_held; holds = on.holds.is_program })

  pub taken_stands : (p : Program) × (names : TextsView) × StandsFor (dialect_of r.job) left p names
  taken_stands = (on.holds.program, on.holds.names, own_stands)

  pub all_done : (mid : ShelfView) → ((name : List ℕ) → mid.kept name ≡ before.kept name) → (made : Made)
      → ((p : Program) (names : TextsView) → StandsFor (dialect_of r.job) left p names → IsFinished mid.kept r p names made) → IsDone before.kept r (file_of made) (packed_of made) made.end
  all_done mid same made h =
      let f = h on.holds.program on.holds.names own_stands in
      on_both before.kept r r.source on.holds.program on.holds.names f.given (λ q ns given. EndsByBoth (file_of made) (packed_of made) made.end (DoesAll r.job r.options q ns given)) refl own_source
      (held_before before.kept mid.kept (inputs_of r) f.given same f.given_held) f.done

  pub all_comes : (mid : ShelfView) → ((name : List ℕ) → mid.kept name ≡ before.kept name) → (made : Made)
      → ((p : Program) (names : TextsView) → StandsFor (dialect_of r.job) left p names → IsFinished mid.kept r p names made) → IsOfRun before.kept r (file_of made) made.end
  all_comes mid same made h =
      let f = h on.holds.program on.holds.names own_stands in
      on_both before.kept r r.source on.holds.program on.holds.names f.given (λ q ns given. ComesOfRun (row r.job) q ns r.options given.second (file_of made) made.end) refl own_source
      (held_before before.kept mid.kept (inputs_of r) f.given same f.given_held) f.comes

  pub all_stops : (mid now : ShelfView) → HasRead before mid (read_calls r.source 1048576) → (stop : Stop)
      → ((p : Program) (names : TextsView) → StandsFor (dialect_of r.job) left p names → IsInputsStop mid now r p names stop) → IsMakeStop before now r stop
  all_stops mid now read stop h =
      inputs_stop before mid now r r.source on.holds.program on.holds.names refl read.same read.reads own_source stop (h on.holds.program on.holds.names own_stands)
