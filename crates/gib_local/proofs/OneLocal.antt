-- A text makes one core at most, and it is answered to it.
use Rattle.std.proofs.Common.{◌≡◌, ◌≤◌, ℕ, List, [], length, Result, Ok, Err, refl, sym, ap, ◌∙◌, subst, Some, None, Option}
use Rattle.gib_base.specs.declared.token.Token.{Token}
use Rattle.gib_base.specs.declared.token.Dialect.{Dialect}
use Rattle.gib_base.specs.declared.token.Dialect.TheVariants.{Located}
use Rattle.gib_base.specs.Lexed.{Lexed, IsLexedIn}
use Rattle.gib_syntax.specs.Spelling.{Places, places_of}
use Rattle.gib_reads.specs.Readers.{Read}
use Rattle.gib_core.specs.Tree.{CoreTree}
use Rattle.gib_core.specs.Marking.{mark_core}
use Rattle.gib_core.specs.Rules.{Broken}
use Rattle.gib_local_parse.specs.Tree.{LocalTree}
use Rattle.gib_local_parse.specs.Texts.{spell_text, whole_text}
use Rattle.gib_local_parse.specs.PlacedTexts.{TextAt}
use Rattle.gib_local.specs.Naming.{check_text}
use Rattle.gib_local.specs.Building.{Placed, build_core}
use Rattle.gib_local.specs.Counting.{broken_text}
use Rattle.gib_check.specs.Faults.{Checked}
use Rattle.gib_local.specs.Local.{Local, Refusal, judged, placed, named, read, answer}
use Rattle.gib_reads.proofs.Tools.{done}
use Rattle.gib_local_parse.proofs.TextsRead.{one_text, whole_back}
use Rattle.gib_local_parse.proofs.WholeLaws.{read_sound}

abbrev found : CoreTree → Placed CoreTree
found c = Ok c

same_core : (c d : CoreTree) → found c ≡ found d → c ≡ d
same_core c d e = cc

-- A text is lexed in one way at most.
abbrev pub OneReading : Type 0
OneReading = (dialect : Dialect) (bytes : List ℕ) (l m : Lexed) → IsLexedIn dialect bytes l → IsLexedIn dialect bytes m → l ≡ m

-- Bytes make one core at most.
pub one_local : OneReading → (bytes : List ℕ) (c d : CoreTree) → Local bytes c → Local bytes d → c ≡ d
one_local one bytes c d h k =
    let e : k.lexed ≡ h.lexed = one Located bytes k.lexed h.lexed k.is_lexed h.is_lexed in
    let stands : TextAt (places_of h.lexed.spans) k.tree [] = subst (λ (l : Lexed). TextAt (places_of l.spans) k.tree []) e k.placed in
    let spells : spell_text k.tree [] ≡ h.lexed.tokens = k.spelled ∙ ap (λ (l : Lexed). l.tokens) e in
    let same : h.tree ≡ k.tree = one_text (places_of h.lexed.spans) h.tree k.tree h.placed stands (h.spelled ∙ sym spells) in
    same_core c d (sym h.made ∙ ap build_core same ∙ k.made)

-- To a text that breaks no build rule its core is answered, with its pars marked.
pub text_is_answered : (bytes : List ℕ) (core : CoreTree) (h : Local bytes core) → broken_text h.tree core ≡ None → answer (places_of h.lexed.spans) h.lexed.tokens ≡ Ok (mark_core core)
text_is_answered bytes core h e =
    let at : Places = places_of h.lexed.spans in
    ap (λ ws. answer at ws) (sym h.spelled)
    ∙ (ap (λ (r : Read LocalTree). read r) (whole_back at h.tree h.placed)
    ∙ (ap (λ (r : Checked (Unit {0})). named h.tree r) h.named
    ∙ (ap (λ (r : Placed CoreTree). placed h.tree r) h.made
    ∙ ap (λ o. judged core o) e)))

-- ---- what is answered is of a text

abbrev told : CoreTree → Result CoreTree Refusal
told c = Ok c

judged_ok : (core marked : CoreTree) (o : Broken) → judged core o ≡ told marked → (o ≡ None) × (marked ≡ mark_core core)
judged_ok core marked None e = (refl, cc)
judged_ok core marked (Some broken) e = absurd cc

placed_ok : (t : LocalTree) (r : Placed CoreTree) (marked : CoreTree) → placed t r ≡ told marked → (core : CoreTree) × (r ≡ found core) × (broken_text t core ≡ None) × (marked ≡ mark_core core)
placed_ok t (Ok core) marked e = let h = judged_ok core marked (broken_text t core) e in (core, refl, h.0, h.1)
placed_ok t (Err place) marked e = absurd cc

named_ok : (t : LocalTree) (r : Checked (Unit {0})) (marked : CoreTree) → named t r ≡ told marked → (r ≡ Ok tt) × (placed t (build_core t) ≡ told marked)
named_ok t (Ok x) marked e = (refl, e)
named_ok t (Err fault) marked e = absurd cc

read_ok : (r : Read LocalTree) (marked : CoreTree) → read r ≡ told marked → (t : LocalTree) × (rest : List Token) × (r ≡ done t rest) × (named t (check_text t) ≡ told marked)
read_ok (Ok x) marked e = (x.0, x.1, refl, e)
read_ok (Err fault) marked e = absurd cc

-- What is answered to the tokens of bytes is the marked core of a text of these bytes that breaks no build rule.
pub answered : (bytes : List ℕ) (lexed : Lexed) (marked : CoreTree) → IsLexedIn Located bytes lexed → length bytes ≤ 1048576 → length lexed.names ≤ 65535 → answer (places_of lexed.spans) lexed.tokens ≡ Ok marked
    → (core : CoreTree) × (h : Local bytes core) × (broken_text h.tree core ≡ None) × (marked ≡ mark_core core) × (h.lexed ≡ lexed)
answered bytes lexed marked is_lexed short few e =
    let at : Places = places_of lexed.spans in
    let r = read_ok (whole_text at lexed.tokens) marked e in
    let stands = read_sound at lexed.tokens r.0 r.1 r.2 in
    let n = named_ok r.0 (check_text r.0) marked r.3 in
    let p = placed_ok r.0 (build_core r.0) marked n.1 in
    (p.0, record { lexed = lexed; is_lexed = is_lexed; short = short; few_names = few; tree = r.0; spelled = stands.0; placed = stands.1; named = n.0; made = p.1 }, p.2, p.3, refl)
