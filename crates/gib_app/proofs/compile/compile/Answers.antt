use Rattle.std.proofs.Common.{ℕ, List, length, sym, ap, subst}
use Rattle.gib_syntax.specs.GenericParts.{generic_program_of}
use Rattle.gib_syntax.specs.Parts.{program_of}
use Rattle.gib_mono.specs.Naming.{AreNamedBelow}
use Rattle.gib_lex.proofs.Differ.{lexed_names}
use Rattle.gib_app.specs.Running.{IsCopy}
use Rattle.gib_app.proofs.Copied.{copy_ready}
use Rattle.gib_app.proofs.Held.{named_below}
use Rattle.gib_app.proofs.compile.compile.Goals as goal

pub copied-requires : goal.copied-requires
copied-requires c =
    let B : List (List ℕ) → Type 0 = λ ns. AreNamedBelow (length ns) (generic_program_of c.in-Ok-typed.generic) in
    record {
      below = subst B (sym c.into_names.ensures) (named_below c.args.source.now c.in-Ok.tokens (generic_program_of c.in-Ok-typed.generic) c.in-Ok-typed.ensures.spelled);
      typed = c.program-typed.ensures.typed;
      fine = c.in-Ok-typed.ensures.spelled.derived.fine.datas;
    }

pub returns-in-Ok-copied-clause-ready : goal.returns-in-Ok-copied-clause-ready
returns-in-Ok-copied-clause-ready c =
    let l = c.in-Ok.tokens in
    let g = generic_program_of c.in-Ok-typed.generic in
    let C : List (List ℕ) → Type 0 = λ ns. IsCopy g ns (program_of c.in-Ok-copied.compiled.typed) c.in-Ok-copied.compiled.names in
    copy_ready c.args.source.now l g (program_of c.in-Ok-copied.compiled.typed) c.in-Ok-copied.compiled.names c.in-Ok-typed.ensures.spelled c.program-typed.ensures.typed
    (lexed_names c.args.source.now l c.in-Ok-typed.ensures.spelled.is_lexed c.in-Ok-typed.ensures.spelled.few_names)
    (subst C c.into_names.ensures c.in-Ok-copied.ensures.copy)
