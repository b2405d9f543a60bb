use Rattle.std.proofs.Common.{List, Ok, Err, IfErr, MatchResult, IfOk, ◌≡◌, refl, sym, subst}
use Rattle.gib_base.specs.declared.Span.{Span}
use Rattle.gib_syntax.specs.GenericParts.{generic_program_of}
use Rattle.gib_syntax.specs.GenericTyping.{IsTypedGeneric}
use Rattle.gib_syntax.specs.Parts.{program_of}
use Rattle.gib_mono.specs.Bare.{IsPlainProgram}
use Rattle.gib_mono.specs.Entries.{items_of}
use Rattle.gib_mono.specs.Limits.{IsLimitOf, IsMemory, IsMemoryOr}
use Rattle.gib_mono.specs.Naming.{AreNamedBelow, entries, naming_of}
use Rattle.gib_mono.specs.Walk.{Copy, copies_of, copied_program}
use Rattle.gib_mono.proofs.Ending.{plain_copied, plain_within}
use Rattle.gib_mono.proofs.program_copy.mono.Goals as goal

pub copy_generic-requires-clause-typed : goal.copy_generic-requires-clause-typed
copy_generic-requires-clause-typed c = subst (λ q. IsTypedGeneric (generic_program_of q)) (sym c.into_program-program.ensures.value) c.into_program-program.ensures.typed

pub copy_generic-requires-clause-below : goal.copy_generic-requires-clause-below
copy_generic-requires-clause-below c = subst (λ q. AreNamedBelow c.args.base (generic_program_of q)) (sym c.into_program-program.ensures.value) c.requires.below

pub returns-then-not-is_plain-clause-copied : goal.returns-then-not-is_plain-clause-copied
returns-then-not-is_plain-clause-copied c =
    subst (λ q. IfOk c.copy_generic.result (λ m. (found : List Copy) × (copies_of (generic_program_of q) ≡ Ok found) × (program_of m.typed ≡ copied_program (generic_program_of q) (naming_of c.args.base (entries found)) found) × (items_of m.copies ≡ entries found)))
    c.into_program-program.ensures.value c.copy_generic.ensures.copied

pub returns-then-not-is_plain-clause-limit : goal.returns-then-not-is_plain-clause-limit
returns-then-not-is_plain-clause-limit c = subst (λ q. IfErr c.copy_generic.result (IsLimitOf (copies_of (generic_program_of q)))) c.into_program-program.ensures.value c.copy_generic.ensures.limit

pub returns-then-not-is_plain-clause-only : goal.returns-then-not-is_plain-clause-only
returns-then-not-is_plain-clause-only c =
    subst (λ q. (found : List Copy) → copies_of (generic_program_of q) ≡ Ok found → IfErr c.copy_generic.result IsMemory) c.into_program-program.ensures.value c.copy_generic.ensures.only

pub returns-then-not-is_plain-clause-told : goal.returns-then-not-is_plain-clause-told
returns-then-not-is_plain-clause-told c =
    subst (λ q. (span : Span) → copies_of (generic_program_of q) ≡ Err span → MatchResult c.copy_generic.result (λ _. ⊥) (IsMemoryOr span)) c.into_program-program.ensures.value c.copy_generic.ensures.told

pub copy_plain-requires-clause-typed : goal.copy_plain-requires-clause-typed
copy_plain-requires-clause-typed c = subst (λ q. IsTypedGeneric (generic_program_of q)) (sym c.into_program-program.ensures.value) c.into_program-program.ensures.typed

pub copy_plain-requires-clause-plain : goal.copy_plain-requires-clause-plain
copy_plain-requires-clause-plain c = c.if-not-is_plain.ensures.plain refl

pub copy_plain-requires-clause-below : goal.copy_plain-requires-clause-below
copy_plain-requires-clause-below c = (c.args.base, subst (λ q. AreNamedBelow c.args.base (generic_program_of q)) (sym c.into_program-program.ensures.value) c.requires.below)

pub returns-in-Ok-clause-copied : goal.returns-in-Ok-clause-copied
returns-in-Ok-clause-copied c =
    let e = c.into_program-program.ensures.value in
    let plain : IsPlainProgram (generic_program_of c.args.generic) = subst (λ q. IsPlainProgram (generic_program_of q)) e (c.if-not-is_plain.ensures.plain refl) in
    let made = subst (λ q. (program_of c.in-Ok.mono.typed ≡ Rattle.gib_mono.specs.Bare.bare_program (generic_program_of q)) × (items_of c.in-Ok.mono.copies ≡ entries (Rattle.gib_mono.specs.Walk.plain_copies (generic_program_of q)))) e c.in-Ok.ensures in
    let h = plain_copied (generic_program_of c.args.generic) c.args.base (program_of c.in-Ok.mono.typed) (items_of c.in-Ok.mono.copies) c.into_program-program.ensures.typed plain made.0 made.1 in
    (h.found, h.are, h.program, h.names_are)

pub returns-in-Ok-clause-told : goal.returns-in-Ok-clause-told
returns-in-Ok-clause-told c =
    let e = c.into_program-program.ensures.value in
    let plain : IsPlainProgram (generic_program_of c.args.generic) = subst (λ q. IsPlainProgram (generic_program_of q)) e (c.if-not-is_plain.ensures.plain refl) in
    λ span over. plain_within (generic_program_of c.args.generic) span c.into_program-program.ensures.typed plain over

pub copy_plain-requires-clause-single : goal.copy_plain-requires-clause-single
copy_plain-requires-clause-single c = c.if-not-is_plain.ensures.single refl
