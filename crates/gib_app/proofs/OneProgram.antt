-- A source is one program, by the laws of its readers.
use Rattle.gib_base.specs.Texts.{TextsView, plain_texts}
use Rattle.std.proofs.Common.{◌≡◌, ◌∙◌, ap, ap₂, ℕ, List, [], length, Option, Some, subst, sym, subst₂, Ok, Result}
use Rattle.gib_base.specs.Lexed.{Lexed, IsLexed, IsLexedIn}
use Rattle.gib_base.specs.declared.token.Dialect.{Dialect}
use Rattle.gib_base.specs.declared.token.Dialect.TheVariants as dialect
use Rattle.gib_core.specs.Erasing.{erase_core}
use Rattle.gib_core.specs.Marking.{mark_core}
use Rattle.gib_core.specs.Tree.{CoreTree}
use Rattle.gib_local.specs.Building.{Placed, build_core}
use Rattle.gib_local_parse.specs.PlacedTexts.{TextAt}
use Rattle.gib_local_parse.specs.Texts.{spell_text}
use Rattle.gib_local_parse.specs.Tree.{LocalTree}
use Rattle.gib_base.specs.declared.token.Token.{Token}
use Rattle.gib_base.specs.declared.Span.{Span}
use Rattle.gib_syntax.specs.GenericTree.{GenericProgramTree}
use Rattle.gib_syntax.specs.Source.{Spells}
use Rattle.gib_mono.specs.Walk.{Copy, copies_of, copied_program}
use Rattle.gib_mono.specs.Naming.{entries, naming_of}
use Rattle.gib_mono.specs.Showing.{short_texts, long_texts}
use Rattle.gib_syntax.specs.Tree.{ProgramTree}
use Rattle.gib_syntax.specs.Spelling.{Places, Derives, IsPlacedProgram, places_of}
use Rattle.gib_app.specs.Running.{IsCopy, IsProgram, IsLocated, IsProgramIn, Program}
use Rattle.gib_app.specs.Causes.{OnProgram}
use Rattle.gib_app.proofs.Replays.{OneValue}

-- The laws that make a program and an input one

pub record Laws : Type 0 where
  pub lexed : (bytes : List ℕ) (l m : Lexed) → IsLexed bytes l → IsLexed bytes m → l ≡ m
  pub parsed : (at : Places) (tokens : List Token) (p q : GenericProgramTree) → Derives tokens p → Derives tokens q → IsPlacedProgram at p → IsPlacedProgram at q → p ≡ q
  pub located : (d : Dialect) (bytes : List ℕ) (l m : Lexed) → IsLexedIn d bytes l → IsLexedIn d bytes m → l ≡ m
  pub texts : (at : Places) (t u : LocalTree) → TextAt at t [] → TextAt at u [] → spell_text t [] ≡ spell_text u [] → t ≡ u
  pub filed : OneValue

same_lexed : Laws → (source : List ℕ) (l m : Lexed) (p q : GenericProgramTree) → Spells source l p → Spells source m q → l ≡ m
same_lexed laws source l m p q h k = laws.lexed source l m h.is_lexed k.is_lexed

same_spelled : Laws → (source : List ℕ) (l m : Lexed) (p q : GenericProgramTree) → Spells source l p → Spells source m q → p ≡ q
same_spelled laws source l m p q h k =
    let e = same_lexed laws source m l q p k h in
    let D : Lexed → Type 0 = λ x. Derives x.tokens q in
    let A : Lexed → Type 0 = λ x. IsPlacedProgram (places_of x.spans) q in
    laws.parsed (places_of l.spans) l.tokens p q h.derived (subst D e k.derived) h.placed (subst A e k.placed)

found_once : (r : Result (List Copy) Span) (a b : List Copy) → r ≡ Ok a → r ≡ Ok b → a ≡ b
found_once r a b e f = let both = sym e ∙ f in cc

-- a program has one copy, with one kind of texts
one_copy : (g : GenericProgramTree) (ns : List (List ℕ)) (p q : ProgramTree) (t u : TextsView) → IsCopy g ns p t → IsCopy g ns q u → (p ≡ q) × (t ≡ u)
one_copy g ns p q t u h k =
    let e = found_once (copies_of g) h.found k.found h.within k.within in
    let P : List Copy → ProgramTree = λ x. copied_program g (naming_of (length ns) (entries x)) x in
    let T : List Copy → TextsView = λ x. record { short = short_texts ns (entries x); long = long_texts ns (entries x) } in
    (h.is ∙ ap P e ∙ sym k.is, h.shown ∙ ap T e ∙ sym k.shown)

-- a source is one program
same_sourced : Laws → (source : List ℕ) (t u : TextsView) (p q : ProgramTree) → IsProgram source t p → IsProgram source u q → (p ≡ q) × (t ≡ u)
same_sourced laws source t u p q h k =
    let el = same_lexed laws source k.lexed h.lexed k.generic h.generic k.spelled h.spelled in
    let eg = same_spelled laws source k.lexed h.lexed k.generic h.generic k.spelled h.spelled in
    let C : GenericProgramTree → Lexed → Type 0 = λ g l. IsCopy g l.names q u in
    one_copy h.generic h.lexed.names p q t u h.copy (subst₂ C eg el k.copy)

-- and one that writes its places out makes one core
made_once : (r : Placed CoreTree) (c d : CoreTree) → r ≡ Ok c → r ≡ Ok d → c ≡ d
made_once r c d e f = let both = sym e ∙ f in cc

same_located : Laws → (source : List ℕ) (t u : TextsView) (p q : Program) → IsLocated source t p → IsLocated source u q → (p ≡ q) × (t ≡ u)
same_located laws source t u p q h k =
    let l = h.local in
    let m = k.local in
    let el = laws.located dialect.Located source m.lexed l.lexed m.is_lexed l.is_lexed in
    let S : Lexed → Type 0 = λ x. spell_text m.tree [] ≡ x.tokens in
    let A : Lexed → Type 0 = λ x. TextAt (places_of x.spans) m.tree [] in
    let et = laws.texts (places_of l.lexed.spans) m.tree l.tree (subst A el m.placed) l.placed (subst S el m.spelled ∙ sym l.spelled) in
    let ec = made_once (build_core l.tree) k.core h.core (ap build_core (sym et) ∙ m.made) l.made in
    let P : LocalTree → CoreTree → Program = λ x c. record { tree = erase_core x.datas c; located = Some (mark_core c) } in
    let N : Lexed → TextsView = λ x. plain_texts x.names in
    (h.is ∙ ap₂ P (sym et) (sym ec) ∙ sym k.is, h.shown ∙ ap N (sym el) ∙ sym k.shown)

same_parts_of : (p q : Program) → p.tree ≡ q.tree → p.located ≡ q.located → p ≡ q
same_parts_of p q e f = ap₂ (λ t (c : Option CoreTree). record { tree = t; located = c }) e f

same_both : Laws → (d : Dialect) (source : List ℕ) (t u : TextsView) (p q : Program) → IsProgramIn d source t p → IsProgramIn d source u q → (p ≡ q) × (t ≡ u)
same_both laws dialect.Source source t u p q h k = let both = same_sourced laws source t u p.tree q.tree h.0 k.0 in (same_parts_of p q both.0 (h.1 ∙ sym k.1), both.1)
same_both laws dialect.Located source t u p q h k = same_located laws source t u p q h k

same_program : Laws → (d : Dialect) (source : List ℕ) (t u : TextsView) (p q : Program) → IsProgramIn d source t p → IsProgramIn d source u q → p ≡ q
same_program laws d source t u p q h k = (same_both laws d source t u p q h k).0

same_texts : Laws → (d : Dialect) (source : List ℕ) (t u : TextsView) (p q : Program) → IsProgramIn d source t p → IsProgramIn d source u q → t ≡ u
same_texts laws d source t u p q h k = (same_both laws d source t u p q h k).1

-- what holds of the program of a source, and what else holds of it, hold of one
pub together : Laws → (d : Dialect) (source : List ℕ) (P Q : Program → TextsView → Type 0) → OnProgram d source P → OnProgram d source Q → (p : Program) × (names : TextsView) × P p names × Q p names
together laws d source P Q a b =
    let et = same_texts laws d source b.texts a.texts b.program a.program b.is_program a.is_program in
    let ep = same_program laws d source b.texts a.texts b.program a.program b.is_program a.is_program in
    let L : TextsView → Type 0 = λ x. Q b.program x in
    let R : Program → Type 0 = λ x. Q x a.texts in
    (a.program, a.texts, a.holds, subst R ep (subst L et b.holds))

-- both hold of the program of a source
pub joined : Laws → (d : Dialect) (source : List ℕ) (P Q : Program → TextsView → Type 0) → OnProgram d source P → OnProgram d source Q → OnProgram d source (λ p names. P p names × Q p names)
joined laws d source P Q a b =
    let et = same_texts laws d source b.texts a.texts b.program a.program b.is_program a.is_program in
    let ep = same_program laws d source b.texts a.texts b.program a.program b.is_program a.is_program in
    let L : TextsView → Type 0 = λ x. Q b.program x in
    let R : Program → Type 0 = λ x. Q x a.texts in
    record { texts = a.texts; program = a.program; is_program = a.is_program; holds = (a.holds, subst R ep (subst L et b.holds)) }
