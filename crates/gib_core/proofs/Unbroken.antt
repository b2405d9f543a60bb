-- A core meets the build rules exactly where none is the first broken one.
use Rattle.std.proofs.Common.{◌≡◌, ◌↔◌, ℕ, ◌+◌, List, [], ◌∷◌, Option, Some, None, refl, length, ap, ◌∙◌}
use Rattle.std.specs.List.{AllByRecursion}
use Rattle.gib_core.specs.Tree.{CoreTree}
use Rattle.gib_core.specs.Met.{Met, Body, bodies, met_body}
use Rattle.gib_core.specs.Rules.{Before, Broken, or_later, or_else, least, rules, next, broken_from, broken_in, before_body, first_broken, LinesAreBuilt, IsBuilt, AreBuilt}

or_later_none : (o : Option ℕ) (place : ℕ) (later : Broken) → or_later o place later ≡ None → (o ≡ None) × (later ≡ None)
or_later_none None place later e = (refl, e)
or_later_none (Some rule) place later e = absurd cc

or_else_none : (o later : Broken) → or_else o later ≡ None → (o ≡ None) × (later ≡ None)
or_else_none None later e = (refl, e)
or_else_none (Some found) later e = absurd cc

pub unbroken_lines : (core : CoreTree) (place : ℕ) (b : Before) (ms : List Met) → broken_from core place b ms ≡ None → LinesAreBuilt core b ms
unbroken_lines core place b [] e = tt {0}
unbroken_lines core place b (m ∷ ms) e =
    let h = or_later_none (least (rules core b m.with m.line)) place (broken_from core (place + 1) (next core.table b m.line) ms) e in
    (h.0, unbroken_lines core (place + 1) (next core.table b m.line) ms h.1)

pub built_lines : (core : CoreTree) (place : ℕ) (b : Before) (ms : List Met) → LinesAreBuilt core b ms → broken_from core place b ms ≡ None
built_lines core place b [] h = refl
built_lines core place b (m ∷ ms) h =
    ap (λ o. or_later o place (broken_from core (place + 1) (next core.table b m.line) ms)) h.0
    ∙ built_lines core (place + 1) (next core.table b m.line) ms h.1

unbroken_bodies : (core : CoreTree) (place : ℕ) (bs : List Body) → broken_in core place bs ≡ None → AllByRecursion (IsBuilt core) bs
unbroken_bodies core place [] e = tt {0}
unbroken_bodies core place (b ∷ bs) e =
    let ms = met_body core.table b in
    let h = or_else_none (broken_from core place (before_body b) ms) (broken_in core (place + length ms) bs) e in
    (unbroken_lines core place (before_body b) ms h.0, unbroken_bodies core (place + length ms) bs h.1)

built_bodies : (core : CoreTree) (place : ℕ) (bs : List Body) → AllByRecursion (IsBuilt core) bs → broken_in core place bs ≡ None
built_bodies core place [] h = refl
built_bodies core place (b ∷ bs) h =
    let ms = met_body core.table b in
    ap (λ o. or_else o (broken_in core (place + length ms) bs)) (built_lines core place (before_body b) ms h.0)
    ∙ built_bodies core (place + length ms) bs h.1

pub unbroken : (core : CoreTree) → (first_broken core ≡ None) ↔ AreBuilt core
unbroken core = (unbroken_bodies core 0 (bodies core), built_bodies core 0 (bodies core))
