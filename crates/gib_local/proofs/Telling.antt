-- What `local` answers, by what its stages answer.
use Rattle.std.proofs.Common.{◌≡◌, ◌≤◌, ℕ, List, [], length, Some, None, Ok, Err, refl, sym, ap, ◌∙◌, subst}
use Rattle.std.specs.Prelude.{Result}
use Rattle.gib_base.specs.Lexed.{Lexed, IsLexedIn}
use Rattle.gib_base.specs.declared.token.Dialect.TheVariants.{Located}
use Rattle.gib_syntax.specs.Spelling.{Places, places_of}
use Rattle.gib_lex.specs.declared.fault.LexFault.{LexFault}
use Rattle.gib_lex.specs.declared.fault.LexFault.TheVariants as lexing
use Rattle.gib_lex.specs.Refused.{IsRefusedIn}
use Rattle.gib_reads.specs.declared.fault.ParseFault.{ParseFault}
use Rattle.gib_reads.specs.declared.fault.ParseFault.TheVariants as parsing
use Rattle.gib_reads.specs.declared.stop.Stop.{Stop}
use Rattle.gib_reads.specs.declared.stop.Stop.TheVariants as stop
use Rattle.gib_reads.specs.Faults.{fault_of, place_of}
use Rattle.gib_reads.specs.Answers.{Fails}
use Rattle.gib_reads.specs.Readers as reading
use Rattle.gib_core.specs.Parts.{Parts, core_of}
use Rattle.gib_core.specs.Marking.{mark_core}
use Rattle.gib_core.specs.Rules.{Broken}
use Rattle.gib_core.specs.Tree.{CoreTree}
use Rattle.gib_local.specs.declared.fault.LocalFault.{LocalFault}
use Rattle.gib_local.specs.declared.fault.LocalFault.TheVariants as f
use Rattle.gib_local_parse.specs.Tree.{LocalTree}
use Rattle.gib_local.specs.Building.{Placed, build_core}
use Rattle.gib_local.specs.Counting.{broken_text}
use Rattle.gib_local.specs.Local.{Local, Refusal, Unread, Breaks, answer, judged, read}
use Rattle.gib_local_parse.specs.Texts.{whole_text}
use Rattle.gib_local_parse.proofs.WholeLaws.{first_blamed}
use Rattle.gib_local.specs.Judged.{Answers, AreTokensOf, Blames, IsDeep, IsUnlexed, IsUnread, Judges, Refuses}
use Rattle.gib_local.specs.LocalFaults.{IsLocalFault}

pub judges_for : (result : Result Parts LocalFault) (r s : Result CoreTree Refusal) → r ≡ s → Judges result s → Judges result r
judges_for result r s e h = subst (λ x. Judges result x) (sym e) h

pub judged_done : (core marked : CoreTree) (b : Broken) → b ≡ None → marked ≡ mark_core core → judged core b ≡ Ok marked
judged_done core marked b e m = ap (judged core) e ∙ ap (λ k. Ok k) (sym m)

pub judged_broken : (core : CoreTree) (b : Broken) (rule term : ℕ) → b ≡ Some (rule, term) → judged core b ≡ Err (Breaks rule term)
judged_broken core b rule term e = ap (judged core) e

-- The core of a text that was read, or its refusal, is what is answered to its tokens.
pub answers_of : (l : Lexed) (result : Result Parts LocalFault) (r : Result CoreTree Refusal) → answer (places_of l.spans) l.tokens ≡ r → Judges result r → Answers l result
answers_of l (Ok core) r e h = e ∙ h
answers_of l (Err f.Memory) r e h = tt
answers_of l (Err f.Long) r e h = h
answers_of l (Err (f.At place)) r e h = h
answers_of l (Err (f.Big place)) r e h = h
answers_of l (Err f.Many) r e h = h
answers_of l (Err (f.Syntax place)) r e h = absurd h
answers_of l (Err (f.Nested place)) r e h = absurd h
answers_of l (Err (f.Broken fault)) r e h = e ∙ h
answers_of l (Err (f.Place place)) r e h = e ∙ h
answers_of l (Err (f.Rule n term)) r e h = e ∙ h

pub unread : (l : Lexed) (s : Stop) (e : ParseFault) (place : ℕ) → e ≡ fault_of l.spans l.len s → Fails s (whole_text (places_of l.spans) l.tokens) → e ≡ parsing.At place → IsUnread l place
unread l stop.Memory e place q h i = absurd (let k : parsing.Memory ≡ parsing.At place = sym q ∙ i in cc)
unread l (stop.At left) e place q h i =
    let k : parsing.At (place_of l left) ≡ parsing.At place = sym q ∙ i in
    record { left = left; is = ap read h; first = first_blamed (places_of l.spans) l.tokens left h; here = (let m : place_of l left ≡ place = cc in sym m) }
unread l (stop.Nested left) e place q h i = absurd (let k : parsing.Nested (place_of l left) ≡ parsing.At place = sym q ∙ i in cc)

pub deep : (l : Lexed) (s : Stop) (e : ParseFault) (place : ℕ) → e ≡ fault_of l.spans l.len s → Fails s (whole_text (places_of l.spans) l.tokens) → e ≡ parsing.Nested place → IsDeep l place
deep l stop.Memory e place q h i = absurd (let k : parsing.Memory ≡ parsing.Nested place = sym q ∙ i in cc)
deep l (stop.At left) e place q h i = absurd (let k : parsing.At (place_of l left) ≡ parsing.Nested place = sym q ∙ i in cc)
deep l (stop.Nested left) e place q h i =
    let k : parsing.Nested (place_of l left) ≡ parsing.Nested place = sym q ∙ i in
    record { left = left; is = ap read h; here = (let m : place_of l left ≡ place = cc in sym m) }

-- Bytes without tokens are refused for this.
pub unlexed : (bytes : List ℕ) (e : LocalFault) → IsUnlexed bytes e → IsLocalFault bytes e
unlexed bytes f.Memory h = tt
unlexed bytes f.Long h = h
unlexed bytes (f.At place) h = h
unlexed bytes (f.Big place) h = h
unlexed bytes f.Many h = h
unlexed bytes (f.Syntax place) h = absurd h
unlexed bytes (f.Nested place) h = absurd h
unlexed bytes (f.Broken fault) h = absurd h
unlexed bytes (f.Place place) h = absurd h
unlexed bytes (f.Rule n term) h = absurd h

-- Bytes whose tokens are refused are refused for this.
pub refused_bytes : (bytes : List ℕ) (l : Lexed) (e : LocalFault) → AreTokensOf bytes l → Refuses l e → IsLocalFault bytes e
refused_bytes bytes l f.Memory t h = tt
refused_bytes bytes l f.Long t h = absurd h
refused_bytes bytes l (f.At place) t h = absurd h
refused_bytes bytes l (f.Big place) t h = absurd h
refused_bytes bytes l f.Many t h = absurd h
refused_bytes bytes l (f.Syntax place) t h = record { lexed = l; left = h.left; answered = record { is_lexed = t.is; short = t.short; few_names = t.few_names; refused = h.is }; first = h.first; here = h.here }
refused_bytes bytes l (f.Nested place) t h = record { lexed = l; left = h.left; answered = record { is_lexed = t.is; short = t.short; few_names = t.few_names; refused = h.is }; here = h.here }
refused_bytes bytes l (f.Broken fault) t h = (l, record { is_lexed = t.is; short = t.short; few_names = t.few_names; refused = h })
refused_bytes bytes l (f.Place place) t h = (l, record { is_lexed = t.is; short = t.short; few_names = t.few_names; refused = h })
refused_bytes bytes l (f.Rule n term) t h = (l, record { is_lexed = t.is; short = t.short; few_names = t.few_names; refused = h })

-- Tokens that a core is answered to are refused for want of memory alone.
pub only_memory : (l : Lexed) (e : LocalFault) (marked : CoreTree) → answer (places_of l.spans) l.tokens ≡ Ok marked → Refuses l e → e ≡ f.Memory
only_memory l f.Memory marked a h = refl
only_memory l f.Long marked a h = absurd h
only_memory l (f.At place) marked a h = absurd h
only_memory l (f.Big place) marked a h = absurd h
only_memory l f.Many marked a h = absurd h
only_memory l (f.Syntax place) marked a h = absurd (let k : Ok marked ≡ Err (Unread (reading.At h.left)) = sym a ∙ h.is in cc)
only_memory l (f.Nested place) marked a h = absurd (let k : Ok marked ≡ Err (Unread (reading.Nested h.left)) = sym a ∙ h.is in cc)
only_memory l (f.Broken fault) marked a h = absurd (let k = sym a ∙ h in cc)
only_memory l (f.Place place) marked a h = absurd (let k = sym a ∙ h in cc)
only_memory l (f.Rule n term) marked a h = absurd (let k = sym a ∙ h in cc)

-- Bytes of a text are not refused by their tokens but for want of memory.
pub only_unlexed : ((bytes : List ℕ) (fault : LexFault) (l : Lexed) → IsRefusedIn Located bytes fault → IsLexedIn Located bytes l → length bytes ≤ 1048576 → length l.names ≤ 65535 → ⊥)
    → (bytes : List ℕ) (e : LocalFault) (core : CoreTree) → Local bytes core → IsUnlexed bytes e → e ≡ f.Memory
only_unlexed nothing bytes f.Memory core l h = refl
only_unlexed nothing bytes f.Long core l h = absurd (nothing bytes lexing.Long l.lexed h l.is_lexed l.short l.few_names)
only_unlexed nothing bytes (f.At place) core l h = absurd (nothing bytes (lexing.At place) l.lexed h l.is_lexed l.short l.few_names)
only_unlexed nothing bytes (f.Big place) core l h = absurd (nothing bytes (lexing.Big place) l.lexed h l.is_lexed l.short l.few_names)
only_unlexed nothing bytes f.Many core l h = absurd (nothing bytes lexing.Many l.lexed h l.is_lexed l.short l.few_names)
only_unlexed nothing bytes (f.Syntax place) core l h = absurd h
only_unlexed nothing bytes (f.Nested place) core l h = absurd h
only_unlexed nothing bytes (f.Broken fault) core l h = absurd h
only_unlexed nothing bytes (f.Place place) core l h = absurd h
only_unlexed nothing bytes (f.Rule n term) core l h = absurd h

-- Nor are its tokens.
pub only_answered : ((bytes : List ℕ) (l m : Lexed) → IsLexedIn Located bytes l → IsLexedIn Located bytes m → l ≡ m)
    → (bytes : List ℕ) (t : Lexed) (e : LocalFault) (core : CoreTree) (l : Local bytes core) → answer (places_of l.lexed.spans) l.lexed.tokens ≡ Ok (mark_core core) → AreTokensOf bytes t → Refuses t e → e ≡ f.Memory
only_answered one bytes t e core l a are h =
    only_memory t e (mark_core core) (subst (λ (x : Lexed). answer (places_of x.spans) x.tokens ≡ Ok (mark_core core)) (one bytes l.lexed t l.is_lexed are.is) a) h
