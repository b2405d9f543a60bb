-- Where a parse takes the words, each argument that has a value has one that passed.
use Rattle.std.proofs.Common.{◌≡◌, ◌∙◌, ◌<◌, ◌≤◌, ◌+◌, ◌&&◌, ◌||◌, ℕ, Bool, cond, true, false, not, zero, suc, refl, sym, ap, ap₂, arith, List, [], ◌∷◌, ◌++◌, length, drop, Option, Some, None, is_some, true≢false, eqb-true, leb-true}
use Rattle.std.specs.Prelude.{find, fold, nat_le, encode_utf8, slice_get}
use Rattle.std.specs.List.{AllByRecursion, list_all}
use Rattle.std.specs.Option.{option_map_or}
use Rattle.std.specs.Str.{bytes_eq, chars}
use Rattle.std.proofs.lemmas.List.{length-append}
use Rattle.std.proofs.lemmas.Slice.Eq.{bytes_eq-Decides}
use Rattle.std.proofs.lemmas.List.Folds.{list_all-append}
use Rattle.clap.specs.Lexer.{long_of, short_of}
use Rattle.clap.specs.Facts.{unwrap_or_range}
use Rattle.clap.specs.Walk.{Held, Names, Outcome, Row, Rule, Step, Text, Waiting, Walk, action_of, after_flag, after_step, arg_by_id, arg_by_index, arg_by_long, arg_by_short, at_row, attached_value}
use Rattle.clap.specs.Walk.{bundle, bundle_met, bundle_step, done, default_rows, flag_met, has_long, has_row, has_short, idle, is_empty, is_pending, long_met, long_or_other, more_values, most_values, next, nothing_held, option, option_met, option_word, plain, plain_word, positional, positional_held, pushed}
use Rattle.clap.specs.Walk.{reacted, reading_by, refused, rows_after, settled, settled_rows, short_met, short_or_plain, subcommand, subcommand_met, subcommand_or_other, takes_several, takes_values, to_positional, trailing, used, used_as, used_by_id, value, values_or_missing, waits, walk, walk_from, walked, walked_from, with_default, with_values, without, word_met}
use Rattle.clap.specs.Takes.{action_passes, bundle_passes, bundle_step_passes, default_passes, flag_word_passes, flags_pass, level_passes, long_passes, option_passes, other_passes, positional_passes, react_passes, settle_passes, short_passes, step_passes, turn_passes, use_passes, value_passes, values_pass, walk_passes, word_passes}
use Rattle.clap.specs.Values.{is_request}
use Rattle.clap.specs.Simple.{Shape}
use Rattle.clap.specs.declared.parser.matches.ValueSource.{ValueSource}
use Rattle.clap.specs.declared.parser.matches.ValueSource.TheVariants.{CommandLine, DefaultValue}
use Rattle.clap.specs.declared.builder.action.ArgAction.{ArgAction}
use Rattle.clap.specs.declared.builder.action.ArgAction.TheVariants as action
use Rattle.clap.proofs.WalkLemmas.{both}

-- The action sets values or a flag.
abbrev sets : ArgAction → Bool
sets action.Set = true
sets action.SetTrue = true
sets action.SetFalse = true
sets _ = false

-- Each use of the argument has a value.
abbrev pub is_valued : Rule → Bool
is_valued a = nat_le 1 (unwrap_or_range a.range).start_inclusive

-- The argument is that of its id, and sets what it has.
abbrev pub Known : List Rule → Rule → Type 0
Known c a = (arg_by_id c a.id ≡ Some a) × (sets (action_of a) ≡ true)

-- What a row of an argument with values has.
abbrev pub Filled : List Rule → Row → Type 0
Filled c r = (a : Rule) → arg_by_id c r.id ≡ Some a → is_valued a ≡ true
    → (0 < length r.values) × (values_pass a r.values ≡ true) × (r.reading ≡ reading_by a)

abbrev pub AllFilled : List Rule → List Row → Type 0
AllFilled c = AllByRecursion (Filled c)

-- ---- Rows

joined : {X : Type 0} (P : X → Type 0) (xs ys : List X) → AllByRecursion P xs → AllByRecursion P ys → AllByRecursion P (xs ++ ys)
joined P [] ys p q = q
joined P (x ∷ xs) ys p q = (p.0, joined P xs ys p.1 q)

at_row_filled : (c : List Rule) (id : Text) (change : Row → List Row) (missing rows : List Row)
    → ((r : Row) → bytes_eq r.id id ≡ true → Filled c r → AllFilled c (change r)) → AllFilled c missing → AllFilled c rows
    → AllFilled c (at_row id change missing rows)
at_row_filled c id change missing [] changed new all = new
at_row_filled c id change missing (r ∷ rs) changed new all = go (bytes_eq r.id id) refl (at_row_filled c id change missing rs changed new all.1)
  where
    go : (b : Bool) → bytes_eq r.id id ≡ b → AllFilled c (at_row id change missing rs) → AllFilled c (cond b (change r ++ rs) (r ∷ at_row id change missing rs))
    go true e rest = joined (Filled c) (change r) rs (changed r e all.0) all.1
    go false e rest = (all.0, rest)

without_filled : (c : List Rule) (id : Text) (rows : List Row) → AllFilled c rows → AllFilled c (without id rows)
without_filled c id rows all = at_row_filled c id (λ _. []) [] rows (λ r e f. tt) tt all

same_rule : (a b : Rule) (o : Option Rule) → o ≡ Some a → o ≡ Some b → a ≡ b
same_rule a b o p q = cc

-- Values that pass fill the row of their argument.
with_values_filled : (c : List Rule) (a : Rule) (s : ValueSource) (values : List Text) (rows : List Row) → arg_by_id c a.id ≡ Some a
    → (is_valued a ≡ true → (0 < length values) × (values_pass a values ≡ true)) → AllFilled c rows → AllFilled c (with_values a.id (reading_by a) s values rows)
with_values_filled c a s values rows known fills all = at_row_filled c a.id (more_values s values) _ rows changed (new, tt) all
  where
    changed : (r : Row) → bytes_eq r.id a.id ≡ true → Filled c r → AllFilled c (more_values s values r)
    changed r same filled = (
      λ x at valued.
          let id : r.id ≡ a.id = (bytes_eq-Decides r.id a.id).0 same in
          let is : x ≡ a = same_rule x a (arg_by_id c r.id) at (ap (arg_by_id c) id ∙ known) in
          let old = filled x at valued in
          let added = fills (ap is_valued (sym is) ∙ valued) in
          let counted : length (r.values ++ values) ≡ length r.values + length values = length-append r.values values in
          (omega arith, list_all-append (value_passes x) r.values values ∙ ap₂ (λ p q. p && q) old.1 (ap (λ (y : Rule). values_pass y values) is ∙ added.1), old.2),
      tt,
    )

    new : Filled c (record { id = a.id; values = values; count = None; source = Some s; reading = reading_by a })
    new x at valued =
        let is : x ≡ a = same_rule x a (arg_by_id c a.id) at known in
        let added = fills (ap is_valued (sym is) ∙ valued) in
        (added.0, ap (λ (y : Rule). values_pass y values) is ∙ added.1, ap reading_by (sym is))

given_values : (a : Rule) (vs : List Text) → 0 < length vs → values_or_missing a vs ≡ vs
given_values a [] some = absurd (omega arith)
given_values a (v ∷ vs) some = refl

-- A use that passes leaves filled rows.
used_filled : (c : List Rule) (again : Bool) (a : Rule) (vs : List Text) (rows : List Row) → Known c a → use_passes again a vs rows ≡ true → AllFilled c rows
    → AllFilled c (used a vs rows)
used_filled c again a vs rows known passes all =
    let range = both (nat_le (unwrap_or_range a.range).start_inclusive (length vs)) _ passes in
    let acts = both (nat_le (length vs) (most_values a)) _ range.1 in
    go (action_of a) known.1 acts.1 (fills range.0)
  where
    fills : nat_le (unwrap_or_range a.range).start_inclusive (length vs) ≡ true → values_pass a (values_or_missing a vs) ≡ true → is_valued a ≡ true
        → (0 < length (values_or_missing a vs)) × (values_pass a (values_or_missing a vs) ≡ true)
    fills range good valued =
        let one : 1 ≤ (unwrap_or_range a.range).start_inclusive = leb-true _ _ valued in
        let enough : (unwrap_or_range a.range).start_inclusive ≤ length vs = leb-true _ _ range in
        let some : 0 < length vs = omega arith in
        (rw (given_values a vs some) some, good)

    set : action_passes action.Set again a (values_or_missing a vs) rows ≡ true
        → (values_pass a (values_or_missing a vs) ≡ true → is_valued a ≡ true → (0 < length (values_or_missing a vs)) × (values_pass a (values_or_missing a vs) ≡ true))
        → AllFilled c (with_values a.id (reading_by a) CommandLine (values_or_missing a vs) (without a.id rows))
    set good fill = with_values_filled c a CommandLine (values_or_missing a vs) (without a.id rows) known.0
        (fill (both (not (has_row a.id rows) || again) _ good).1) (without_filled c a.id rows all)

    go : (x : ArgAction) → sets x ≡ true → action_passes x again a (values_or_missing a vs) rows ≡ true
        → (values_pass a (values_or_missing a vs) ≡ true → is_valued a ≡ true → (0 < length (values_or_missing a vs)) × (values_pass a (values_or_missing a vs) ≡ true))
        → AllFilled c (used_as x a.id (reading_by a) (values_or_missing a vs) rows)
    go action.Set is good fill = set good fill
    go action.SetTrue is good fill = set good fill
    go action.SetFalse is good fill = set good fill
    go action.Append is good fill = absurd (true≢false (sym is))
    go action.Count is good fill = absurd (true≢false (sym is))
    go action.Help is good fill = absurd (true≢false (sym is))
    go action.HelpShort is good fill = absurd (true≢false (sym is))
    go action.HelpLong is good fill = absurd (true≢false (sym is))
    go action.Version is good fill = absurd (true≢false (sym is))

-- What a search finds among the arguments is known.
abbrev pub AllKnown : List Rule → Type 0
AllKnown c = (p : Rule → Bool) (a : Rule) → find p c ≡ Some a → Known c a

-- ---- The walk

module _ (c : List Rule) (again : Bool) (known : AllKnown c) where
  abbrev Fine : Held → Type 0
  Fine h = AllFilled c h.rows

  settled_filled : (h : Held) → settle_passes c again h ≡ true → Fine h → Fine (settled c h)
  settled_filled h passes all = go h.pending h.rows passes all
    where
      by_rule : (o : Option Rule) (vs : List Text) (rows : List Row) → ((a : Rule) → o ≡ Some a → Known c a)
          → option_map_or (λ a. use_passes again a vs rows) o true ≡ true → AllFilled c rows → AllFilled c (used_by_id o vs rows)
      by_rule None vs rows is good filled = filled
      by_rule (Some a) vs rows is good filled = used_filled c again a vs rows (is a refl) good filled

      go : (p : Option (Text × List Text)) (rows : List Row) → option_map_or (λ q. option_map_or (λ a. use_passes again a q.1 rows) (arg_by_id c q.0) true) p true ≡ true
          → AllFilled c rows → AllFilled c (settled_rows c p rows)
      go None rows good filled = filled
      go (Some q) rows good filled = by_rule (arg_by_id c q.0) q.1 rows (λ a is. known (λ x. bytes_eq x.id q.0) a is) good filled

  reacted_filled : (a : Rule) (vs : List Text) (h : Held) → Known c a → react_passes c again a vs h ≡ true → Fine h → Fine (reacted c a vs h)
  reacted_filled a vs h is passes all =
      let steps = both (settle_passes c again h) _ passes in
      used_filled c again a vs (settled c h).rows is steps.1 (settled_filled h steps.0 all)

  option_filled : (a : Rule) (v : Option Text) (h : Held) → Known c a → option_passes c again a v h ≡ true → Fine h → Fine (option_met c a v h).0
  option_filled a (Some v) h is passes all = reacted_filled a (v ∷ []) h is passes all
  option_filled a None h is passes all = settled_filled h passes all

  flag_filled : (a : Rule) (v : Option Text) (h : Held) → Known c a → (not (is_some v) && react_passes c again a [] h) ≡ true → Fine h → Fine (flag_met c a v h).0
  flag_filled a (Some v) h is passes all = all
  flag_filled a None h is passes all = reacted_filled a [] h is passes all

  long_filled : (o : Option Rule) (v : Option Text) (h : Held) → ((a : Rule) → o ≡ Some a → Known c a) → long_passes c again o v h ≡ true → Fine h
      → Fine (long_met c o v h).0
  long_filled None v h is passes all = all
  long_filled (Some a) v h is passes all = go (takes_values a) passes
    where
      go : (b : Bool) → cond b (option_passes c again a v h) (not (is_some v) && react_passes c again a [] h) ≡ true → Fine (cond b (option_met c a v h) (flag_met c a v h)).0
      go true good = option_filled a v h (is a refl) good all
      go false good = flag_filled a v h (is a refl) good all

  short_filled : (o : Option Rule) (rest : Text) (h : Held) (after : Held → Held × Outcome) (test : Held → Bool) → ((a : Rule) → o ≡ Some a → Known c a)
      → ((x : Held) → test x ≡ true → Fine x → Fine (after x).0) → short_passes c again o rest h test ≡ true → Fine h → Fine (short_met c o rest h after).0
  short_filled None rest h after test is keeps passes all = all
  short_filled (Some a) rest h after test is keeps passes all = go (takes_values a) passes
    where
      go : (b : Bool) → cond b (option_passes c again a (attached_value rest) h) (react_passes c again a [] h && test (reacted c a [] h)) ≡ true
          → Fine (cond b (option_met c a (attached_value rest) h) (after (reacted c a [] h))).0
      go true good = option_filled a (attached_value rest) h (is a refl) good all
      go false good =
          let steps = both (react_passes c again a [] h) _ good in
          keeps (reacted c a [] h) steps.1 (reacted_filled a [] h (is a refl) steps.0 all)

  step_filled : (x : Option ℕ) (flags : Text) (skip : ℕ) (so_far : Outcome) (h : Held) (after : Text → ℕ → Outcome → Held → Held × Outcome) (test : Text → ℕ → Held → Bool)
      → ((t : Text) (n : ℕ) (o : Outcome) (y : Held) → test t n y ≡ true → Fine y → Fine (after t n o y).0)
      → bundle_step_passes c again x flags skip h test ≡ true → Fine h → Fine (bundle_step c x flags skip so_far h after).0
  step_filled None flags skip so_far h after test keeps passes all = all
  step_filled (Some x) flags zero so_far h after test keeps passes all =
      let rest = drop (length (encode_utf8 x)) flags in
      short_filled (arg_by_short c x) rest h (after rest 0 done) (test rest 0) (λ a is. known (λ y. not (is_some y.index) && has_short y x) a is) (keeps rest 0 done) passes all
  step_filled (Some x) flags (suc skip) so_far h after test keeps passes all = keeps _ skip so_far h passes all

  bundle_filled : (k : ℕ) (flags : Text) (skip : ℕ) (so_far : Outcome) (h : Held) → flags_pass c again k flags skip h ≡ true → Fine h → Fine (bundle_met c k flags skip so_far h).0
  unfolding flags_pass bundle_met
  bundle_filled zero flags skip so_far h passes all = all
  bundle_filled (suc k) flags skip so_far h passes all =
      step_filled (slice_get (chars flags) 0) flags skip so_far h (bundle_met c k) (flags_pass c again k) (bundle_filled k) passes all

  option_word_filled : (o : Option Rule) (id word : Text) (h : Held) → Fine h → Fine (option_word o id word h).0
  option_word_filled None id word h all = all
  option_word_filled (Some a) id word h all = all

  plain_word_filled : (waiting : Waiting) (word : Text) (h : Held) → Fine h → Fine (plain_word c waiting word h).0
  plain_word_filled idle word h all = all
  plain_word_filled (option id) word h all = option_word_filled (arg_by_id c id) id word h all
  plain_word_filled positional word h all = all

  after_flag_filled : (waiting : Waiting) (word : Text) (h : Held) (o : Outcome) → Fine h → Fine (after_flag c waiting word h o).0
  after_flag_filled waiting word h done all = all
  after_flag_filled waiting word h (waits id) all = all
  after_flag_filled waiting word h plain all = plain_word_filled waiting word h all
  after_flag_filled waiting word h refused all = plain_word_filled waiting word h all

  short_word_filled : (waiting : Waiting) (word : Text) (o : Option Text) (h : Held) → option_map_or (λ flags. bundle_passes c again flags h) o true ≡ true → Fine h
      → Fine (short_or_plain c waiting word o h).0
  short_word_filled waiting word None h passes all = plain_word_filled waiting word h all
  short_word_filled waiting word (Some flags) h passes all =
      after_flag_filled waiting word (bundle c flags h).0 (bundle c flags h).1 (bundle_filled (length flags) flags h.skip plain (record h { skip = 0 }) passes all)

  flag_word_filled : (waiting : Waiting) (word : Text) (p : Option (Text × Option Text)) (h : Held) → flag_word_passes c again p word h ≡ true → Fine h
      → Fine (long_or_other c waiting word p h).0
  flag_word_filled waiting word (Some p) h passes all =
      let met = long_met c (arg_by_long c p.0) p.1 h in
      after_flag_filled waiting word met.0 met.1
      (long_filled (arg_by_long c p.0) p.1 h (λ a is. known (λ y. not (is_some y.index) && has_long y p.0) a is) passes all)
  flag_word_filled waiting word None h passes all = short_word_filled waiting word (short_of word) h passes all

some_values : (v : Text) (vs : List Text) (rest : Bool) → (is_empty (v ∷ vs) || rest) ≡ true → rest ≡ true
some_values v vs rest e = go (is_empty (v ∷ vs)) refl e
  where
    go : (b : Bool) → is_empty (v ∷ vs) ≡ b → (b || rest) ≡ true → rest ≡ true
    go true is good = absurd (omega (arith, eqb-true _ _ is))
    go false is good = good

module _ (s : Shape) (known : AllKnown s.rules) where
  abbrev Good : Held → Type 0
  Good h = AllFilled s.rules h.rows

  other_filled : (name : Option Text) (waiting : Waiting) (position : ℕ) (word : Text) (h : Held) → other_passes s name word h ≡ true → Good h
      → Good (subcommand_or_other s.rules name waiting position word h).0
  other_filled (Some name) waiting position word h passes all = all
  other_filled None waiting position word h passes all = go (bytes_eq word (45 ∷ 45 ∷ [])) passes
    where
      go : (b : Bool) → (b || flag_word_passes s.rules s.args_override_self (long_of word) word h) ≡ true
          → Good (cond b (h, trailing position) (long_or_other s.rules waiting word (long_of word) h)).0
      go true good = all
      go false good = flag_word_filled s.rules s.args_override_self known waiting word (long_of word) h good all

  word_filled : (names : Names) (is_trailing : Bool) (waiting : Waiting) (position : ℕ) (word : Text) (h : Held)
      → word_passes s names is_trailing waiting word h ≡ true → Good h → Good (word_met s.rules names is_trailing waiting position word h).0
  word_filled names true waiting position word h passes all = all
  word_filled names false waiting position word h passes all = other_filled (subcommand_met names waiting word) waiting position word h passes all

  positional_filled : (a : Rule) (word : Text) (h : Held) → positional_passes s.rules s.args_override_self a h ≡ true → Good h → Good (positional_held s.rules a word h)
  positional_filled a word h passes all = go (is_pending a h.pending && takes_several a) passes
    where
      go : (b : Bool) → (b || settle_passes s.rules s.args_override_self h) ≡ true → Good (pushed a.id word (cond b h (settled s.rules h)))
      go true good = all
      go false good = settled_filled s.rules s.args_override_self known h good all

  to_positional_filled : (o : Option Rule) (word : Text) (w : Walk) (h : Held)
      → option_map_or (λ a. positional_passes s.rules s.args_override_self a h) o false ≡ true → Good h → Good (to_positional s.rules o word w h).held
  to_positional_filled None word w h passes all = all
  to_positional_filled (Some a) word w h passes all = positional_filled a word h passes all

  after_step_filled : (word : Text) (w : Walk) (h : Held) (x : Step) → step_passes s w.position h x ≡ true → Good h → Good (after_step s.rules word w h x).held
  after_step_filled word w h (next waiting) passes all = all
  after_step_filled word w h (trailing position) passes all = all
  after_step_filled word w h (subcommand name) passes all = all
  after_step_filled word w h value passes all = to_positional_filled (arg_by_index s.rules w.position) word w h passes all

  walked_filled : (names : Names) (w : Walk) (word : Text) → turn_passes s names w word ≡ true → Good w.held → Good (walked s.rules names w word).held
  unfolding walked
  walked_filled names w word passes all = go w.stopped passes
    where
      met : Held × Step
      met = word_met s.rules names w.is_trailing w.waiting w.position word w.held

      go : (o : Option (Text × List Text)) → (is_some o || (word_passes s names w.is_trailing w.waiting word w.held && step_passes s w.position met.0 met.1)) ≡ true
          → Good (walked_from s.rules names o w word).held
      go (Some p) good = all
      go None good =
          let steps = both (word_passes s names w.is_trailing w.waiting word w.held) _ good in
          after_step_filled word w met.0 met.1 steps.1 (word_filled names w.is_trailing w.waiting w.position word w.held steps.0 all)

  walk_filled : (names : Names) (words : List Text) (w : Walk) → walk_passes s names w words ≡ true → Good w.held → Good (fold (walked s.rules names) w words).held
  unfolding walk_passes
  walk_filled names [] w passes all = all
  walk_filled names (word ∷ rest) w passes all =
      let steps = both (turn_passes s names w word) _ passes in
      walk_filled names rest (walked s.rules names w word) steps.1 (walked_filled names w word steps.0 all)

  default_filled : (a : Rule) (rows : List Row) → Known s.rules a → default_passes a ≡ true → AllFilled s.rules rows → AllFilled s.rules (with_default rows a)
  default_filled a rows is passes all = go (has_row a.id rows)
    where
      values : (vs : List Text) → (is_empty vs || (not (is_request (action_of a)) && values_pass a vs)) ≡ true → AllFilled s.rules (default_rows a.id (reading_by a) vs rows)
      values [] good = all
      values (v ∷ vs) good =
          let pass = (both (not (is_request (action_of a))) _ (some_values v vs _ good)).1 in
          with_values_filled s.rules a DefaultValue (v ∷ vs) rows is.0 (λ valued. (omega arith, pass)) all

      go : (b : Bool) → AllFilled s.rules (cond b rows (default_rows a.id (reading_by a) a.defaults rows))
      go true = all
      go false = values a.defaults passes

  defaults_filled : (xs : List Rule) (rows : List Row) → AllByRecursion (Known s.rules) xs → list_all default_passes xs ≡ true → AllFilled s.rules rows
      → AllFilled s.rules (fold with_default rows xs)
  defaults_filled [] rows is passes all = all
  defaults_filled (a ∷ xs) rows is passes all =
      let steps = both (default_passes a) _ passes in
      defaults_filled xs (with_default rows a) is.1 steps.1 (default_filled a rows is.0 steps.0 all)

  -- A level that passes leaves its rows filled.
  pub level_filled : (words : List Text) → AllByRecursion (Known s.rules) s.rules → level_passes s [] nothing_held words false ≡ true → AllFilled s.rules (rows_after s.rules [] words)
  level_filled words is passes =
      let end = (walk s.rules [] nothing_held words).held in
      let steps = both (walk_passes s [] (walk_from nothing_held) words) _ passes in
      let rest = both (settle_passes s.rules s.args_override_self end) _ steps.1 in
      let last = both (list_all default_passes s.rules) _ rest.1 in
      defaults_filled s.rules (settled s.rules end).rows is last.0
      (settled_filled s.rules s.args_override_self known end rest.0 (walk_filled [] words (walk_from nothing_held) steps.0 tt))
