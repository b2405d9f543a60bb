-- A parse of a simple command that has no fault takes the words.
use Rattle.std.proofs.Common.{◌≡◌, ◌∙◌, ◌+◌, ◌&&◌, ◌||◌, ◌==◌, ℕ, Bool, cond, codes, true, false, not, zero, suc, refl, sym, ap, ap₂, arith, List, [], ◌∷◌, length, min, Option, Some, None, is_some, true≢false, nat_lt, le-leb, ltb-false, eqb-true}
use Rattle.std.proofs.lemmas.Bool.{or_parts}
use Rattle.std.specs.Prelude.{slice_get, nat_le, find}
use Rattle.std.specs.List.{list_all, list_any}
use Rattle.std.specs.Option.{option_map_or}
use Rattle.std.specs.Str.{bytes_eq, chars}
use Rattle.clap.specs.Lexer.{long_of, short_of}
use Rattle.clap.specs.ValueTests.{accepts}
use Rattle.clap.specs.Matches.{count_text}
use Rattle.clap.specs.Facts.{explicit_source, parser_of_value, unwrap_or_range}
use Rattle.clap.specs.Walk.{Held, Names, Row, Rule, Step, Text, Waiting, Walk, action_of, answers_to, arg_by_id, arg_by_index, arg_by_long, arg_by_short}
use Rattle.clap.specs.Walk.{attached_value, count_of, finished, has_row, is_pending, most_values, nothing_held, reacted, settled, subcommand_met, takes_several, takes_values, values_or_missing, walk, walk_from, walked, word_met}
use Rattle.clap.specs.Walk.{next, trailing, subcommand, value}
use Rattle.clap.specs.Simple.{App, Shape, argument_words, built, entered, is_simple, label_of, names_of}
use Rattle.clap.specs.Takes.{action_passes, bundle_step_passes, count_passes, default_passes, entered_passes, flag_word_passes, flags_pass, is_given, is_valid, level_passes, long_passes, option_passes, other_passes, positional_passes, react_passes, set_passes, settle_passes, short_passes, step_passes, takes, turn_passes, use_passes, values_pass, walk_passes, word_passes, built_takes}
use Rattle.clap.specs.Kinds.{Kinds, check_kinds, or_else, range_kinds}
use Rattle.clap.specs.Faults.{action_fault, built_fault, bundle_step_fault, check_fault, count_fault, entered_fault, fault_of, flag_word_fault, flags_fault, level_fault, long_fault, option_fault, other_fault, positional_fault, react_fault, set_fault, settle_fault, short_fault, step_fault, stray_fault, turn_fault, use_fault, walk_fault, word_fault, values_fault, has_free_rules}
use Rattle.clap.proofs.WalkLemmas.{both}
use Rattle.clap.specs.declared.builder.action.ArgAction.{ArgAction}
use Rattle.clap.specs.declared.builder.action.ArgAction.TheVariants as action
use Rattle.clap.specs.declared.error.kind.ErrorKind.{ErrorKind}
use Rattle.clap.specs.declared.error.kind.ErrorKind.TheVariants as kind

-- Where there is no fault, the test passes.
abbrev Agrees : Kinds → Bool → Type 0
Agrees kinds passes = kinds ≡ [] → passes ≡ true

abbrev is_empty_list : Kinds → Bool
is_empty_list [] = true
is_empty_list (k ∷ ks) = false

some_kind : {X : Type 0} (k : ErrorKind) (ks : Kinds) → k ∷ ks ≡ [] → X
some_kind k ks e = absurd (true≢false (sym (ap is_empty_list e)))

-- ---- Ways to combine

in_turn : (k l : Kinds) (b c : Bool) → Agrees k b → Agrees l c → Agrees (or_else k l) (b && c)
in_turn [] l b c p q e = ap₂ (λ x y. x && y) (p refl) (q e)
in_turn (k ∷ ks) l b c p q e = some_kind k ks e

by_test : (t : Bool) (k l : Kinds) (b c : Bool) → Agrees k b → Agrees l c → Agrees (cond t k l) (cond t b c)
by_test true k l b c p q e = p e
by_test false k l b c p q e = q e

or_test : (t : Bool) (k : Kinds) (b : Bool) → Agrees k b → Agrees (cond t [] k) (t || b)
or_test true k b p e = refl
or_test false k b p e = p e

by_value : {X : Type 0} (f : X → Kinds) (g : X → Bool) (o : Option X) → ((x : X) → Agrees (f x) (g x)) → Agrees (option_map_or f o []) (option_map_or g o true)
by_value f g None p e = refl
by_value f g (Some x) p e = p x e

accepted : (b : Bool) (k : ErrorKind) → Agrees (cond b [] (k ∷ [])) b
accepted true k e = refl
accepted false k e = some_kind k [] e

-- ---- One use of an argument

values_agree : (a : Rule) (vs : List Text) → Agrees (values_fault a vs) (values_pass a vs)
values_agree a [] = λ e. refl
values_agree a (v ∷ vs) = in_turn _ _ _ _ (accepted (accepts a.ignore_case (parser_of_value a.parser) v) _) (values_agree a vs)

repeats : (has again : Bool) (k : ErrorKind) → Agrees (cond (has && not again) (k ∷ []) []) (not has || again)
repeats true true k e = refl
repeats true false k e = some_kind k [] e
repeats false again k e = refl

set_agrees : (again : Bool) (a : Rule) (vs : List Text) (rows : List Row) → Agrees (set_fault again a vs rows) (set_passes again a vs rows)
set_agrees again a vs rows = in_turn _ _ _ _ (repeats (has_row a.id rows) again _) (values_agree a vs)

count_agrees : (a : Rule) (vs : List Text) (rows : List Row) → Agrees (count_fault a vs rows) (count_passes a vs rows)
count_agrees a [] rows = accepted (accepts a.ignore_case (parser_of_value a.parser) (count_text (min (count_of a.id rows + 1) 255))) _
count_agrees a (v ∷ vs) rows = values_agree a (v ∷ vs)

action_agrees : (x : ArgAction) (again : Bool) (a : Rule) (vs : List Text) (rows : List Row) → Agrees (action_fault x again a vs rows) (action_passes x again a vs rows)
action_agrees action.Set again a vs rows = set_agrees again a vs rows
action_agrees action.SetTrue again a vs rows = set_agrees again a vs rows
action_agrees action.SetFalse again a vs rows = set_agrees again a vs rows
action_agrees action.Append again a vs rows = values_agree a vs
action_agrees action.Count again a vs rows = count_agrees a vs rows
action_agrees action.Help again a vs rows = some_kind _ _
action_agrees action.HelpShort again a vs rows = some_kind _ _
action_agrees action.HelpLong again a vs rows = some_kind _ _
action_agrees action.Version again a vs rows = some_kind _ _

range_agrees : (least most n : ℕ) → Agrees (range_kinds least most n) (nat_le least n && nat_le n most)
range_agrees least most n e = go (nat_lt 0 least && n == 0) (least == most) (least == n) (nat_lt n least) (nat_lt most n) kind.InvalidValue kind.WrongNumberOfValues kind.TooFewValues kind.TooManyValues refl refl refl refl e
  where
    go : (none same exact few many : Bool) (i j k l : ErrorKind) → (least == most) ≡ same → (least == n) ≡ exact → nat_lt n least ≡ few → nat_lt most n ≡ many
        → cond none (i ∷ []) (cond same (cond exact [] (j ∷ [])) (cond few (k ∷ []) (cond many (l ∷ []) []))) ≡ []
        → (nat_le least n && nat_le n most) ≡ true
    go true same exact few many i j k l s x f m none = some_kind _ _ none
    go false true true few many i j k l s x f m none =
        let a : least ≡ most = eqb-true _ _ s in
        let b : least ≡ n = eqb-true _ _ x in
        ap₂ (λ p q. p && q) (le-leb least n (omega arith)) (le-leb n most (omega arith))
    go false true false few many i j k l s x f m none = some_kind _ _ none
    go false false exact true many i j k l s x f m none = some_kind _ _ none
    go false false exact false true i j k l s x f m none = some_kind _ _ none
    go false false exact false false i j k l s x f m none = ap₂ (λ p q. p && q) (le-leb least n (ltb-false _ _ f)) (le-leb n most (ltb-false _ _ m))

and_assoc : (a b c : Bool) → ((a && b) && c) ≡ (a && (b && c))
and_assoc true b c = refl
and_assoc false b c = refl

use_agrees : (again : Bool) (a : Rule) (vs : List Text) (rows : List Row) → Agrees (use_fault again a vs rows) (use_passes again a vs rows)
use_agrees again a vs rows e =
    sym (and_assoc (nat_le (unwrap_or_range a.range).start_inclusive (length vs)) (nat_le (length vs) (most_values a)) _)
    ∙ in_turn _ _ _ _ (range_agrees (unwrap_or_range a.range).start_inclusive (most_values a) (length vs))
    (action_agrees (action_of a) again a (values_or_missing a vs) rows) e

-- ---- The walk

settle_agrees : (c : List Rule) (again : Bool) (h : Held) → Agrees (settle_fault c again h) (settle_passes c again h)
settle_agrees c again h = by_value _ _ h.pending (λ p. by_value _ _ (arg_by_id c p.0) (λ a. use_agrees again a p.1 h.rows))

react_agrees : (c : List Rule) (again : Bool) (a : Rule) (vs : List Text) (h : Held) → Agrees (react_fault c again a vs h) (react_passes c again a vs h)
react_agrees c again a vs h = in_turn _ _ _ _ (settle_agrees c again h) (use_agrees again a vs (settled c h).rows)

option_agrees : (c : List Rule) (again : Bool) (a : Rule) (v : Option Text) (h : Held) → Agrees (option_fault c again a v h) (option_passes c again a v h)
option_agrees c again a (Some v) h = react_agrees c again a (v ∷ []) h
option_agrees c again a None h = settle_agrees c again h

flag_agrees : (c : List Rule) (again : Bool) (a : Rule) (v : Option Text) (h : Held) (k : ErrorKind)
    → Agrees (cond (is_some v) (k ∷ []) (react_fault c again a [] h)) (not (is_some v) && react_passes c again a [] h)
flag_agrees c again a (Some v) h k = some_kind k []
flag_agrees c again a None h k = react_agrees c again a [] h

long_agrees : (c : List Rule) (again : Bool) (a : Option Rule) (v : Option Text) (h : Held) → Agrees (long_fault c again a v h) (long_passes c again a v h)
long_agrees c again None v h = some_kind _ _
long_agrees c again (Some a) v h = by_test (takes_values a) _ _ _ _ (option_agrees c again a v h) (flag_agrees c again a v h _)

short_agrees : (c : List Rule) (again : Bool) (a : Option Rule) (rest : Text) (h : Held) (k : Held → Kinds) (b : Held → Bool) → ((x : Held) → Agrees (k x) (b x))
    → Agrees (short_fault c again a rest h k) (short_passes c again a rest h b)
short_agrees c again None rest h k b p = some_kind _ _
short_agrees c again (Some a) rest h k b p = by_test (takes_values a) _ _ _ _ (option_agrees c again a (attached_value rest) h)
    (in_turn _ _ _ _ (react_agrees c again a [] h) (p (reacted c a [] h)))

step_agrees : (c : List Rule) (again : Bool) (x : Option ℕ) (flags : Text) (skip : ℕ) (h : Held) (k : Text → ℕ → Held → Kinds) (b : Text → ℕ → Held → Bool)
    → ((rest : Text) (n : ℕ) (y : Held) → Agrees (k rest n y) (b rest n y))
    → Agrees (bundle_step_fault c again x flags skip h k) (bundle_step_passes c again x flags skip h b)
step_agrees c again None flags skip h k b p = λ e. refl
step_agrees c again (Some x) flags zero h k b p = short_agrees c again (arg_by_short c x) _ h _ _ (p _ 0)
step_agrees c again (Some x) flags (suc skip) h k b p = p _ skip h

flags_agree : (c : List Rule) (again : Bool) (n : ℕ) (flags : Text) (skip : ℕ) (h : Held) → Agrees (flags_fault c again n flags skip h) (flags_pass c again n flags skip h)
unfolding flags_fault flags_pass
flags_agree c again zero flags skip h = λ e. refl
flags_agree c again (suc n) flags skip h = step_agrees c again (slice_get (chars flags) 0) flags skip h _ _ (flags_agree c again n)

flag_word_agrees : (c : List Rule) (again : Bool) (p : Option (Text × Option Text)) (word : Text) (h : Held)
    → Agrees (flag_word_fault c again p word h) (flag_word_passes c again p word h)
flag_word_agrees c again (Some p) word h = long_agrees c again (arg_by_long c p.0) p.1 h
flag_word_agrees c again None word h = by_value _ _ (short_of word) (λ flags. flags_agree c again (length flags) flags h.skip (record h { skip = 0 }))

helps : (is_help disabled : Bool) (k l : ErrorKind) → Agrees (cond (is_help && not disabled) (k ∷ l ∷ []) []) (not is_help || disabled)
helps true true k l e = refl
helps true false k l e = some_kind _ _ e
helps false disabled k l e = refl

other_agrees : (s : Shape) (name : Option Text) (word : Text) (h : Held) → Agrees (other_fault s name word h) (other_passes s name word h)
other_agrees s (Some name) word h = helps (bytes_eq name (codes "help")) s.disable_help_subcommand _ _
other_agrees s None word h = or_test (bytes_eq word (45 ∷ 45 ∷ [])) _ _ (flag_word_agrees s.rules s.args_override_self (long_of word) word h)

word_agrees : (s : Shape) (names : Names) (is_trailing : Bool) (waiting : Waiting) (word : Text) (h : Held)
    → Agrees (word_fault s names is_trailing waiting word h) (word_passes s names is_trailing waiting word h)
word_agrees s names is_trailing waiting word h = or_test is_trailing _ _ (other_agrees s (subcommand_met names waiting word) word h)

positional_agrees : (c : List Rule) (again : Bool) (a : Rule) (h : Held) → Agrees (positional_fault c again a h) (positional_passes c again a h)
positional_agrees c again a h = or_test (is_pending a h.pending && takes_several a) _ _ (settle_agrees c again h)

strays : (is_leaf : Bool) (j k l : ErrorKind) → Agrees (cond is_leaf (j ∷ []) (k ∷ l ∷ [])) false
strays true j k l e = some_kind _ _ e
strays false j k l e = some_kind _ _ e

value_agrees : (s : Shape) (h : Held) (a : Option Rule)
    → Agrees (option_map_or (λ x. positional_fault s.rules s.args_override_self x h) a (stray_fault s))
    (option_map_or (λ x. positional_passes s.rules s.args_override_self x h) a false)
value_agrees s h None = strays s.is_leaf _ _ _
value_agrees s h (Some a) = positional_agrees s.rules s.args_override_self a h

taken_step : (s : Shape) (position : ℕ) (h : Held) (x : Step) → Agrees (step_fault s position h x) (step_passes s position h x)
taken_step s position h (next waiting) = λ e. refl
taken_step s position h (trailing n) = λ e. refl
taken_step s position h (subcommand name) = λ e. refl
taken_step s position h value = value_agrees s h (arg_by_index s.rules position)

turn_agrees : (s : Shape) (names : Names) (w : Walk) (word : Text) → Agrees (turn_fault s names w word) (turn_passes s names w word)
turn_agrees s names w word =
    let met = word_met s.rules names w.is_trailing w.waiting w.position word w.held in
    or_test (is_some w.stopped) _ _ (in_turn _ _ _ _ (word_agrees s names w.is_trailing w.waiting word w.held) (taken_step s w.position met.0 met.1))

walk_agrees : (s : Shape) (names : Names) (w : Walk) (words : List Text) → Agrees (walk_fault s names w words) (walk_passes s names w words)
unfolding walk_fault walk_passes
walk_agrees s names w [] = λ e. refl
walk_agrees s names w (word ∷ rest) = in_turn _ _ _ _ (turn_agrees s names w word) (walk_agrees s names (walked s.rules names w word) rest)

-- ---- After the walk

parts : (k l : Kinds) → or_else k l ≡ [] → (k ≡ []) × (l ≡ [])
parts [] l e = (refl, e)
parts (k ∷ ks) l e = some_kind k ks e

none_wanted : (a b c : Bool) → check_kinds a b c ≡ [] → (a ≡ false) × (b ≡ false) × (c ≡ false)
none_wanted true b c e = some_kind _ _ e
none_wanted false true c e = some_kind _ _ e
none_wanted false false true e = some_kind _ _ e
none_wanted false false false e = (refl, refl, refl)

help_given : (has wants used : Bool) → (not has && (wants && not used)) ≡ false → (not wants || (has || used)) ≡ true
help_given true true used e = refl
help_given true false used e = refl
help_given false true true e = refl
help_given false true false e = absurd (true≢false e)
help_given false false used e = refl

command_given : (has wants : Bool) → (not has && wants) ≡ false → (not wants || has) ≡ true
command_given true true e = refl
command_given true false e = refl
command_given false true e = absurd (true≢false e)
command_given false false e = refl

one_given : (required given : Bool) → (required && not given) ≡ false → (not required || given) ≡ true
one_given true true e = refl
one_given true false e = absurd (true≢false e)
one_given false given e = refl

all_given : (rows : List Row) (xs : List Rule) → list_any (λ a. a.required && not (is_given a.id rows)) xs ≡ false
    → list_all (λ a. not a.required || is_given a.id rows) xs ≡ true
all_given rows [] e = refl
all_given rows (a ∷ rest) e =
    let both = or_parts (a.required && not (is_given a.id rows)) _ e in
    ap₂ (λ x y. x && y) (one_given a.required (is_given a.id rows) both.0) (all_given rows rest both.1)

arguments_given : (spared missing given : Bool) → (missing ≡ false → given ≡ true) → (not spared && missing) ≡ false → (spared || given) ≡ true
arguments_given true missing given h e = refl
arguments_given false missing given h e = h e

valid_agrees : (s : Shape) (rows : List Row) (has : Bool) → has_free_rules s ≡ true → Agrees (check_fault s rows has) (is_valid s rows has)
valid_agrees s rows has free e =
    let wanted = none_wanted _ _ _ e in
    ap₂ (λ x y. x && y) (help_given has s.arg_required_else_help (list_any (λ r. explicit_source r.source) rows) wanted.0)
    (ap₂ (λ x y. x && y) (command_given has s.subcommand_required wanted.1)
    (ap₂ (λ x y. x && y) free (arguments_given (s.subcommand_negates_reqs && has) _ _ (all_given rows s.rules) wanted.2)))

-- Each default passes its parser, and no argument has a rule on another.
abbrev pub is_regular : Shape → Bool
is_regular s = list_all default_passes s.rules && has_free_rules s

level_agrees : (s : Shape) (names : Names) (h : Held) (words : List Text) (has : Bool) (below : Kinds) → is_regular s ≡ true
    → level_fault s names h words has below ≡ [] → (below ≡ []) × (level_passes s names h words has ≡ true)
level_agrees s names h words has below regular e =
    let end = (walk s.rules names h words).held in
    let walked_well = parts (walk_fault s names (walk_from h) words) _ e in
    let below_well = parts below _ walked_well.1 in
    let settled_well = parts (settle_fault s.rules s.args_override_self end) _ below_well.1 in
    let filled_well = parts _ (check_fault s (finished s.rules end) has) settled_well.1 in
    let is = both (list_all default_passes s.rules) _ regular in (
      below_well.0,
      ap₂ (λ x y. x && y) (walk_agrees s names (walk_from h) words walked_well.0)
          (ap₂ (λ x y. x && y) (settle_agrees s.rules s.args_override_self end settled_well.0)
          (ap₂ (λ x y. x && y) is.0 (valid_agrees s (finished s.rules end) has is.1 filled_well.1))),
    )

none_found : {X : Type 0} (x : X) → ◌≡◌ {A = Option X} None (Some x) → ⊥
none_found x e = true≢false (sym (ap is_some e))

passes_if_found : {X : Type 0} (p q : X → Bool) (xs : List X) (x : X) → find p xs ≡ Some x → list_all q xs ≡ true → q x ≡ true
passes_if_found p q [] x found all = absurd (none_found x found)
passes_if_found p q (y ∷ ys) x found all = go (p y) found (λ e. passes_if_found p q ys x e (both (q y) _ all).1)
  where
    go : (b : Bool) → cond b (Some y) (find p ys) ≡ Some x → (find p ys ≡ Some x → q x ≡ true) → q x ≡ true
    go true e rest =
        let same : y ≡ x = cc in
        ap q (sym same) ∙ (both (q y) _ all).0
    go false e rest = rest e

entered_agrees : (a : App) (stop : Option (Text × List Text)) → list_all is_regular a.subs ≡ true → Agrees (entered_fault a stop) (entered_passes a stop)
entered_agrees a None regular = λ e. refl
entered_agrees a (Some p) regular = go (find (λ s. answers_to p.0 (label_of s)) a.subs) refl
  where
    go : (o : Option Shape) → find (λ s. answers_to p.0 (label_of s)) a.subs ≡ o
        → Agrees (option_map_or (λ s. level_fault s [] nothing_held p.1 false []) o []) (option_map_or (λ s. level_passes s [] nothing_held p.1 false) o true)
    go None found = λ e. refl
    go (Some s) found = λ e. (level_agrees s [] nothing_held p.1 false [] (passes_if_found (λ s. answers_to p.0 (label_of s)) is_regular a.subs s found regular) e).1

built_agrees : (a : App) (h : Held) (words : List Text) → is_regular a.top ≡ true → list_all is_regular a.subs ≡ true → Agrees (built_fault a h words) (built_takes a h words)
built_agrees a h words top subs e =
    let stop = (walk a.top.rules (names_of a) h words).stopped in
    let level = level_agrees a.top (names_of a) h words (is_some (entered a stop)) (entered_fault a stop) top e in
    ap₂ (λ x y. x && y) (entered_agrees a stop subs level.0) level.1

-- A simple command whose arguments are regular takes the words at which it has no fault.
pub takes_without_fault : (a : App) (words : List Text) → is_simple a ≡ true → is_regular (built a).top ≡ true → list_all is_regular (built a).subs ≡ true
    → fault_of a words ≡ [] → takes a words ≡ true
takes_without_fault a words simple top subs e = ap₂ (λ x y. x && y) simple (built_agrees (built a) nothing_held (argument_words a words) top subs e)
