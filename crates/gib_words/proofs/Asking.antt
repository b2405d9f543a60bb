-- Words that the commands take ask for something: each value of the plan is there.
use Rattle.std.proofs.Common.{◌≡◌, ◌∙◌, ◌<◌, ◌||◌, Bool, cond, codes, true, false, not, refl, sym, ap, arith, List, [], ◌∷◌, length, Option, Some, None, is_some, option_map, true≢false, subst}
use Rattle.std.specs.Prelude.{⊤, find, option_and_then, slice_get}
use Rattle.std.specs.List.{AllByRecursion, list_all, list_any}
use Rattle.std.specs.Option.{option_map_or}
use Rattle.std.specs.Str.{bytes_eq}
use Rattle.std.proofs.lemmas.Slice.Eq.{bytes_eq-Decides}
use Rattle.clap.specs.Facts.{explicit_source}
use Rattle.clap.specs.Walk.{Row, Rule, Text, arg_by_id, nothing_held, rows_after, walk, walk_from, finished}
use Rattle.clap.specs.Simple.{Shape, built_leaf, entered, inherited, marked_built, with_leaf_noted}
use Rattle.clap.specs.Takes.{default_passes, is_given, level_passes, settle_passes, walk_passes}
use Rattle.clap.proofs.WalkLemmas.{both}
use Rattle.gib_words.specs.declared.plan.Job.{Job}
use Rattle.gib_words.specs.Plan.{Named}
use Rattle.gib_words.specs.Words.{Target, NoTarget, AtPlace, ByOption, Form, app_for, command_set, file_of, gen_app, made_requested, planned, requested, file_in, target_in, with_value, word_of}
use Rattle.gib_words.proofs.Filling.{AllFilled, AllKnown, Filled, Known, is_valued, level_filled}

-- ---- Rows

pub found_in : {X : Type 0} (P : X → Type 0) (p : X → Bool) (xs : List X) (x : X) → AllByRecursion P xs → find p xs ≡ Some x → P x × (p x ≡ true)
found_in P p [] x all e = absurd (true≢false (sym (ap is_some e)))
found_in P p (y ∷ ys) x all e = go (p y) refl e (found_in P p ys x all.1)
  where
    go : (b : Bool) → p y ≡ b → cond b (Some y) (find p ys) ≡ Some x → (find p ys ≡ Some x → P x × (p x ≡ true)) → P x × (p x ≡ true)
    go true is found rest =
        let same : y ≡ x = cc in
        (subst P same all.0, ap p (sym same) ∙ is)
    go false is found rest = rest found

first_there : (vs : List Text) → 0 < length vs → is_some (slice_get vs 0) ≡ true
first_there [] some = absurd (omega arith)
first_there (v ∷ vs) some = refl

word_there : (c : List Rule) (rows : List Row) (id : Text) (a : Rule) → AllFilled c rows → arg_by_id c id ≡ Some a → is_valued a ≡ true
    → is_given id rows ≡ true → is_some (word_of id rows) ≡ true
word_there c rows id a all is valued given = go (find (λ r. bytes_eq r.id id) rows) refl given
  where
    go : (o : Option Row) → find (λ r. bytes_eq r.id id) rows ≡ o → option_map_or (λ (r : Row). explicit_source r.source) o false ≡ true
        → is_some (option_and_then (λ (r : Row). slice_get r.values 0) o) ≡ true
    go None e given = absurd (true≢false (sym given))
    go (Some r) e given =
        let row = found_in (Filled c) (λ x. bytes_eq x.id id) rows r all e in
        let same : r.id ≡ id = (bytes_eq-Decides r.id id).0 row.1 in
        first_there r.values (row.0 a (ap (arg_by_id c) same ∙ is) valued).0

-- ---- Plans

mapped : {X Y : Type 0} (f : X → Y) (o : Option X) → is_some o ≡ true → is_some (option_map f o) ≡ true
mapped f None e = e
mapped f (Some x) e = refl

joined : {X Y : Type 0} (f : Option (X → Y)) (o : Option X) → is_some f ≡ true → is_some o ≡ true → is_some (with_value f o) ≡ true
joined None o e p = e
joined (Some f) o e p = mapped f o p

-- ---- Levels of words

-- What a command takes asks for something.
abbrev pub Asks : Shape → Type 0
Asks s = (words : List Text) → level_passes s [] nothing_held words false ≡ true → is_some (requested s.name (rows_after s.rules [] words)) ≡ true

-- A command as it is built.
abbrev pub built_form : Form → Shape
built_form form = built_leaf (inherited (with_leaf_noted (marked_built command_set.top)) (app_for form).top)

-- The command whose files are made, as it is built.
abbrev pub built_gen : Shape
built_gen = built_leaf (inherited (with_leaf_noted (marked_built command_set.top)) gen_app.top)

-- What is required is given.
required_given : (s : Shape) (words : List Text) → s.subcommand_negates_reqs ≡ false → level_passes s [] nothing_held words false ≡ true
    → list_all (λ a. not a.required || is_given a.id (rows_after s.rules [] words)) s.rules ≡ true
required_given s words strict passes =
    let end = (walk s.rules [] nothing_held words).held in
    let rows = finished s.rules end in
    let steps = both (walk_passes s [] (walk_from nothing_held) words) _ passes in
    let rest = both (settle_passes s.rules s.args_override_self end) _ steps.1 in
    let last = both (list_all default_passes s.rules) _ rest.1 in
    let helped = both (not s.arg_required_else_help || (false || list_any (λ r. explicit_source r.source) rows)) _ last.1 in
    let entered = both (not s.subcommand_required || false) _ helped.1 in
    let free = both (list_all (λ (a : Rule). a.is_free) s.rules) _ entered.1 in
    rw strict at free.1

pub all_known : (c : List Rule) → AllByRecursion (Known c) c → AllKnown c
all_known c all p a e = (found_in (Known c) p c a all e).0

-- The word of a place is there: its argument is one of the level's, has a value, and has to be there.
abbrev pub Reads : Shape → Text → Type 0
Reads s id = (a : Rule) × (arg_by_id s.rules id ≡ Some a) × (is_valued a ≡ true) × (a.required ≡ true)

-- The same of a file that is written, where a place names it.
abbrev pub MayWrite : Shape → Target → Type 0
MayWrite s NoTarget = ⊤
MayWrite s (AtPlace id) = Reads s id
MayWrite s (ByOption id) = ⊤

-- The same, where there is such a place.
abbrev pub MayRead : Shape → Option Text → Type 0
MayRead s None = ⊤
MayRead s (Some id) = Reads s id

all_pass : {X : Type 0} (p : X → Bool) (xs : List X) → list_all p xs ≡ true → AllByRecursion (λ x. p x ≡ true) xs
all_pass p [] e = tt
all_pass p (x ∷ xs) e = let steps = both (p x) _ e in (steps.0, all_pass p xs steps.1)

module _ (s : Shape) (words : List Text) (is : AllByRecursion (Known s.rules) s.rules) (strict : s.subcommand_negates_reqs ≡ false) (passes : level_passes s [] nothing_held words false ≡ true) where
  abbrev rows : List Row
  rows = rows_after s.rules [] words

  read_there : (id : Text) → Reads s id → is_some (word_of id rows) ≡ true
  read_there id r =
      let a = r.0 in
      let given = all_pass (λ (x : Rule). not x.required || is_given x.id rows) s.rules (required_given s words strict passes) in
      let found = found_in (λ (x : Rule). (not x.required || is_given x.id rows) ≡ true) (λ x. bytes_eq x.id id) s.rules a given r.1 in
      let named : a.id ≡ id = (bytes_eq-Decides a.id id).0 found.1 in
      let there : is_given id rows ≡ true = ap (λ (t : Text). is_given t rows) (sym named) ∙ (rw r.3 at found.0) in
      word_there s.rules rows id a (level_filled s (all_known s.rules is) words is passes) r.1 r.2 there

  source_there : (id : Text) → Reads s id → is_some (file_of id rows) ≡ true
  source_there id reads = mapped Named (word_of id rows) (read_there id reads)

  file_there : (o : Option Text) → MayRead s o → is_some (file_in o rows) ≡ true
  file_there None reads = refl
  file_there (Some id) reads = mapped Some (file_of id rows) (source_there id reads)

  target_there : (t : Target) → MayWrite s t → is_some (target_in t rows) ≡ true
  target_there NoTarget reads = refl
  target_there (AtPlace id) reads = mapped Some (word_of id rows) (read_there id reads)
  target_there (ByOption id) reads = refl

  -- One lemma for all forms.
  pub plan_there : (job : Job) (second third : Option Text) (target : Target) (pack : Option Text) → Reads s (codes "source") → MayRead s second → MayRead s third → MayWrite s target → is_some (planned job second third target pack rows) ≡ true
  plan_there job second third target pack source other further written =
      let first = mapped _ (file_of (codes "source") rows) (source_there (codes "source") source) in
      let both = joined _ (file_in second rows) first (file_there second other) in
      joined _ (target_in target rows) (joined _ (file_in third rows) both (file_there third further)) (target_there target written)

  -- The same where the files are made.
  pub made_there : Reads s (codes "source") → Reads s (codes "input") → is_some (made_requested rows) ≡ true
  made_there source input = joined _ (word_of (codes "input") rows) (mapped _ (word_of (codes "source") rows) (read_there (codes "source") source)) (read_there (codes "input") input)
