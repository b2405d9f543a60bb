-- What reading a journal finds.
use Rattle.std.proofs.Common.{◌≡◌, ◌⊎◌, inl, inr, ℕ, ◌+◌, List, [], ◌∷◌, ◌++◌, true, ◌&&◌, length, map, sym, refl, ap, ◌∙◌, subst, append_assoc, arith, Result, Ok, Err}
use Rattle.std.specs.Prelude.{codes, MatchResult}
use Rattle.std.specs.List.{flat_map}
use Rattle.std.proofs.lemmas.List.{length-map, append-nil}
use Rattle.std.proofs.lemmas.Bool.{and_parts}
use Rattle.gib_types.specs.declared.access.FieldAccess.TheVariants.{Ends}
use Rattle.gib_locked.specs.Cuts.{IsCut, lacks}
use Rattle.gib_locked.specs.declared.journal.Journal.{Journal}
use Rattle.gib_locked.specs.declared.journal.Line.{Line}
use Rattle.gib_locked.specs.declared.journal_fault.JournalFault.{JournalFault}
use Rattle.gib_locked.specs.declared.journal_fault.JournalFault.TheVariants as fault
use Rattle.gib_locked.specs.declared.settings.Settings.{Settings}
use Rattle.gib_locked.specs.Lines.{are_lines, first_may_follow, is_line}
use Rattle.gib_locked.specs.JournalText.{events_text, fed, journal_text, line_text, lines_text, settings_text}
use Rattle.gib_locked.specs.JournalReading.{CanStand, IsBehindAt, IsRefusedAt, IsStuckAt, ReadsTo, EventsReadTo}
use Rattle.gib_locked.proofs.LineTexts.{halves, has_lacks}
use Rattle.gib_locked.proofs.JournalLines.{AreLines, comes_next, events_are_one, front_are, front_may, journal_are, no_end, no_more, rest_of, settings_are_one, settings_lacks}

abbrev least : Settings
least = record { depth = 1; chunks = 16; fork = 0; access = Ends; within = refl }

abbrev head : List (List ℕ) → List ℕ
head [] = []
head (x ∷ xs) = x

abbrev tail : List (List ℕ) → List (List ℕ)
tail [] = []
tail (x ∷ xs) = xs

abbrev title : List ℕ
title = codes "gibj 3"

none_can : CanStand []
none_can = record { settings = least; lines = []; more = lines_text least []; are = refl; begin = refl }

title_can : CanStand (title ∷ [])
title_can = record { settings = least; lines = []; more = settings_text least ∷ events_text []; are = refl; begin = refl }

no_list : {A : Type 0} (x : A) (xs : List A) → x ∷ xs ≡ [] → ⊥
no_list x xs e = omega (arith, ap length e)

pub no_first : (text : List ℕ) → lacks 10 text ≡ true → IsRefusedAt text 1
no_first text none = record {
  before = [];
  rest = text;
  cut = refl;
  number_is = refl;
  can = none_can;
  cannot = λ s ls next more behind are eq is. has_lacks 10 next behind (subst (λ xs. lacks 10 xs ≡ true) is none);
  not_all = λ s ls are eq is. no_list _ _ eq;
}

pub other_first : (text front rest : List ℕ) → IsCut 10 text front rest → (front ≡ title → ⊥) → IsRefusedAt text 1
other_first text front rest c other = record {
  before = [];
  rest = text;
  cut = refl;
  number_is = refl;
  can = none_can;
  cannot = λ s ls next more behind are eq is. other ((halves 10 front title rest behind c.without refl (sym c.text_is ∙ (is ∙ ap (λ x. x ++ 10 ∷ behind) (sym (ap head eq))))).0);
  not_all = λ s ls are eq is. no_list _ _ eq;
}

title_cut : (text front rest : List ℕ) → IsCut 10 text front rest → front ≡ title → text ≡ flat_map fed (title ∷ []) ++ rest
title_cut text front rest c e = c.text_is ∙ ap (λ x. x ++ 10 ∷ rest) e

pub no_second : (text front rest : List ℕ) → IsCut 10 text front rest → front ≡ title → lacks 10 rest ≡ true → IsRefusedAt text 2
no_second text front rest c e none = record {
  before = title ∷ [];
  rest = rest;
  cut = title_cut text front rest c e;
  number_is = refl;
  can = title_can;
  cannot = λ s ls next more behind are eq is. has_lacks 10 next behind (subst (λ xs. lacks 10 xs ≡ true) is none);
  not_all = λ s ls are eq is. no_list _ _ (ap tail eq);
}

pub other_second : (text front rest line more : List ℕ) → IsCut 10 text front rest → front ≡ title → IsCut 10 rest line more → ((s : Settings) → line ≡ settings_text s → ⊥) → IsRefusedAt text 2
other_second text front rest line more c e d other = record {
  before = title ∷ [];
  rest = rest;
  cut = title_cut text front rest c e;
  number_is = refl;
  can = title_can;
  cannot = λ s ls next others behind are eq is. other s ((halves 10 line (settings_text s) more behind d.without (settings_lacks s) (sym d.text_is ∙ (is ∙ ap (λ x. x ++ 10 ∷ behind) (sym (ap head (ap tail eq)))))).0);
  not_all = λ s ls are eq is. no_list _ _ (ap tail eq);
}

-- The first two lines, and the text of those behind.
both_cut : (text front rest line more : List ℕ) (s : Settings) → IsCut 10 text front rest → front ≡ title → IsCut 10 rest line more → line ≡ settings_text s → text ≡ fed title ++ (fed (settings_text s) ++ more)
both_cut text front rest line more s c e d is = title_cut text front rest c e ∙ ap (λ r. fed title ++ r) (d.text_is ∙ (ap (λ x. x ++ 10 ∷ more) is ∙ sym (append_assoc (settings_text s) (10 ∷ []) more)))

pub whole_read : (text front rest line more : List ℕ) (s : Settings) (ls : List Line) → IsCut 10 text front rest → front ≡ title → IsCut 10 rest line more → line ≡ settings_text s → more ≡ flat_map fed (events_text ls) → text ≡ journal_text s ls
whole_read text front rest line more s ls c e d is all = both_cut text front rest line more s c e d is ∙ ap (λ r. fed title ++ (fed (settings_text s) ++ r)) all

same_begin : (s t : Settings) (ls : List Line) (before more : List (List ℕ)) → lines_text t ls ≡ (title ∷ settings_text s ∷ before) ++ more → events_text ls ≡ before ++ more
same_begin s t ls before more e = ap tail (ap tail e)

joined : (s : Settings) (before : List (List ℕ)) (text more behind : List ℕ) → text ≡ fed title ++ (fed (settings_text s) ++ more) → more ≡ flat_map fed before ++ behind → text ≡ flat_map fed (title ∷ settings_text s ∷ before) ++ behind
joined s before text more behind e is = e ∙ (ap (λ r. fed title ++ (fed (settings_text s) ++ r)) is ∙ ap (λ r. fed title ++ r) (sym (append_assoc (fed (settings_text s)) (flat_map fed before) behind)))

rest_are : (l : Line) (ls : List Line) → are_lines (l ∷ ls) ≡ true → are_lines ls ≡ true
rest_are l ls h = (and_parts (first_may_follow l ls) (are_lines ls) (and_parts (is_line l) (first_may_follow l ls && are_lines ls) h).1).1

stuck : (text more : List ℕ) (s : Settings) (n : ℕ) → text ≡ fed title ++ (fed (settings_text s) ++ more) → IsStuckAt more n → IsRefusedAt text n
stuck text more s n e h = record {
  before = title ∷ settings_text s ∷ map line_text h.lines;
  rest = h.rest;
  cut = joined s (map line_text h.lines) text more h.rest e h.cut;
  number_is = h.number_is ∙ omega (arith, length-map h.lines line_text);
  can = record { settings = s; lines = h.lines; more = codes "end" ∷ []; are = h.are; begin = refl };
  cannot = λ t ls next others behind are eq is. next_is t ls next others behind are (comes_next h.lines ls next others h.are are (same_begin s t ls (map line_text h.lines) (next ∷ others) eq)) is;
  not_all = λ t ls are eq is. ends_not ls h.lines h.are are (ap tail (ap tail eq));
}
  where
    next_is : (t : Settings) (ls : List Line) (next : List ℕ) (others : List (List ℕ)) (behind : List ℕ) → are_lines ls ≡ true → ((next ≡ codes "end") × (others ≡ [])) ⊎ ((k : Line) × (js : List Line) × (ls ≡ h.lines ++ k ∷ js) × (next ≡ line_text k)) → h.rest ≡ next ++ 10 ∷ behind → ⊥
    next_is t ls next others behind are (inl x) is = h.not_last behind (is ∙ ap (λ y. y ++ 10 ∷ behind) x.0)
    next_is t ls next others behind are (inr (k, js, eq, line)) is = h.not_event k behind (front_may h.lines js k (subst (λ ks. are_lines ks ≡ true) eq are)) (is ∙ ap (λ y. y ++ 10 ∷ behind) line)

    ends_not : (ls ks : List Line) → are_lines ks ≡ true → are_lines ls ≡ true → events_text ls ≡ map line_text ks → ⊥
    ends_not [] [] f g e = no_list _ _ e
    ends_not [] (k ∷ ks) f g e = no_end k (ap head e)
    ends_not (l ∷ ls) [] f g e = no_list _ _ e
    ends_not (l ∷ ls) (k ∷ ks) f g e = ends_not ls ks (rest_are k ks f) (rest_are l ls g) (ap tail e)

behind_last : (text more : List ℕ) (s : Settings) (n : ℕ) → text ≡ fed title ++ (fed (settings_text s) ++ more) → IsBehindAt more n → IsRefusedAt text n
behind_last text more s n e h = record {
  before = lines_text s h.lines;
  rest = h.rest;
  cut = joined s (events_text h.lines) text more h.rest e h.cut;
  number_is = h.number_is ∙ count h.lines;
  can = record { settings = s; lines = h.lines; more = []; are = h.are; begin = sym (append-nil (lines_text s h.lines)) };
  cannot = λ t ls next others behind are eq is. over (comes_next h.lines ls (codes "end") (next ∷ others) h.are are (same_begin s t ls (events_text h.lines) (next ∷ others) eq ∙ append_assoc (map line_text h.lines) (codes "end" ∷ []) (next ∷ others)));
  not_all = λ t ls are eq is. h.some is;
}
  where
    count : (ls : List Line) → length ls + 4 ≡ length (lines_text s ls) + 1
    count [] = refl
    count (l ∷ ls) = omega (arith, count ls)

    over : {ls : List Line} {next : List ℕ} {others : List (List ℕ)} → ((codes "end" ≡ codes "end") × (next ∷ others ≡ [])) ⊎ ((k : Line) × (js : List Line) × (ls ≡ h.lines ++ k ∷ js) × (codes "end" ≡ line_text k)) → ⊥
    over (inl x) = no_list _ _ x.1
    over (inr (k, js, eq, line)) = no_end k line

pub behind_refused : (text front rest line more : List ℕ) (s : Settings) (f : JournalFault) → IsCut 10 text front rest → front ≡ title → IsCut 10 rest line more → line ≡ settings_text s → EventsReadTo more (Err f) → ReadsTo text (Err f)
behind_refused text front rest line more s fault.Memory c e d is h = tt
behind_refused text front rest line more s (fault.Line n) c e d is (inl h) = stuck text more s n (both_cut text front rest line more s c e d is) h
behind_refused text front rest line more s (fault.Line n) c e d is (inr h) = behind_last text more s n (both_cut text front rest line more s c e d is) h

-- A text that is a journal's is not refused.
pub never : (text : List ℕ) (n : ℕ) (s : Settings) (ls : List Line) → are_lines ls ≡ true → text ≡ journal_text s ls → IsRefusedAt text n → ⊥
never text n s ls are is h = go (rest_of h.before (lines_text s ls) h.rest (front_are h.before h.can.more (subst AreLines h.can.begin (journal_are h.can.settings h.can.lines h.can.are))) (journal_are s ls are) (sym h.cut ∙ is))
  where
    go : Rattle.gib_locked.proofs.JournalLines.Rest h.before (lines_text s ls) h.rest → ⊥
    go r = by r.more r.lines_are r.rest_is
      where
        by : (more : List (List ℕ)) → lines_text s ls ≡ h.before ++ more → h.rest ≡ flat_map fed more → ⊥
        by [] e f = h.not_all s ls are (e ∙ append-nil h.before) f
        by (next ∷ more) e f = h.cannot s ls next more (flat_map fed more) are e (f ∙ append_assoc next (10 ∷ []) (flat_map fed more))

-- One text, one journal.
pub text_is_one : (s t : Settings) (ls ks : List Line) → are_lines ls ≡ true → are_lines ks ≡ true → journal_text s ls ≡ journal_text t ks → (s ≡ t) × (ls ≡ ks)
text_is_one s t ls ks f g e =
    let r = rest_of (lines_text s ls) (lines_text t ks) [] (journal_are s ls f) (journal_are t ks g) (append-nil (journal_text s ls) ∙ e) in
    let same : lines_text t ks ≡ lines_text s ls = r.lines_are ∙ (ap (λ m. lines_text s ls ++ m) (no_more r.more r.rest_is) ∙ append-nil (lines_text s ls)) in
    (settings_are_one s t (sym (ap head (ap tail same))), events_are_one ls ks f g (sym (ap tail (ap tail same))))

pub read_whole : (text : List ℕ) (r : Result Journal JournalFault) → ReadsTo text r → (s : Settings) (ls : List Line) → are_lines ls ≡ true → text ≡ journal_text s ls → MatchResult r (λ j. (j.settings ≡ s) × (j.lines.all.items ≡ ls)) (λ e. e ≡ fault.Memory)
read_whole text (Ok j) h s ls are is = text_is_one j.settings s j.lines.all.items ls j.lines.are are (sym h ∙ is)
read_whole text (Err fault.Memory) h s ls are is = refl
read_whole text (Err (fault.Line n)) h s ls are is = absurd (never text n s ls are is h)
