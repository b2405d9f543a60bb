-- The job of a plan that words ask for makes the files that the plan names. A new command has a line in it.
use Rattle.std.proofs.Common.{◌≡◌, ◌∙◌, Bool, cond, codes, true, false, refl, sym, ap, List, [], ◌∷◌, Option, Some, None, is_some, option_map, true≢false, subst, ℕ, ◌++◌, option_to_list, ap₂}
use Rattle.std.specs.Prelude.{⊤, find, option_and_then}
use Rattle.std.specs.Str.{bytes_eq}
use Rattle.clap.specs.Walk.{Row, Text}
use Rattle.clap.specs.Simple.{entered, subcommand_of}
use Rattle.clap.specs.Takes.{takes}
use Rattle.gib_words.specs.declared.plan.Job.{Job}
use Rattle.gib_words.specs.declared.plan.Job.TheVariants.{Run, Plain, Check, Core, Code, Pack, Show, Trace, Replay, Local}
use Rattle.gib_words.specs.Words.{Target, NoTarget, AtPlace, ByOption, Form, command_set, file_of, made_requested, planned, requested, file_in, target_in, with_value, word_of, local_form, pack_form, replay_form, show_form, trace_form, asked, made_plan, options_of, pack_in, forms, read_requested}
use Rattle.gib_words.specs.declared.plan.Options.{Options}
use Rattle.gib_words.specs.Plan.{Document, Plan}
use Rattle.gib_app.specs.Rows.{ForFiles, ForJournal, Evaluates, PacksValue, FollowsJournal, row, Row as JobRow}
use Rattle.gib_app.specs.Jobs.{packs_of}

-- A job of this row makes a file where it ends with a text.
abbrev pub MakesFile : JobRow → Options → Type 0
MakesFile (Evaluates ForFiles) o = o.image ≡ true
MakesFile (Evaluates ForJournal) o = ⊤
MakesFile PacksValue o = ⊤
MakesFile FollowsJournal o = o.image ≡ true
MakesFile other o = ⊥

-- Where the plan names a file, its job makes one; and it has a name for the packed file of its result where that is asked for, and nowhere
-- else.
pub record Fits (r : Plan) : Type 0 where
  pub makes : (name : List ℕ) → r.target ≡ Some name → MakesFile (row r.job) r.options
  pub packs : packs_of (row r.job) r.options ≡ is_some r.pack

-- ---- What the matches of a command ask for

pub none_is_some : {X Y : Type 0} (x : X) → None ≡ Some x → Y
none_is_some x e = absurd (true≢false (sym (ap is_some e)))

parts : (f : Option Document) (s w : Option (Option Document)) (t : Option (Option Text)) (pack : Option Text) (job : Job) (o : Options) (r : Plan)
    → with_value (with_value (with_value (option_map (λ d e g u. record { first = []; source = d; inputs = option_to_list e ++ option_to_list g; target = u; pack = pack; job = job; options = o }) f) s) w) t ≡ Some r
    → (r.job ≡ job) × (r.options ≡ o) × (t ≡ Some r.target) × (r.pack ≡ pack)
parts None s w t pack job o r e = none_is_some r e
parts (Some d) None w t pack job o r e = none_is_some r e
parts (Some d) (Some x) None t pack job o r e = none_is_some r e
parts (Some d) (Some x) (Some y) None pack job o r e = none_is_some r e
parts (Some d) (Some x) (Some y) (Some u) pack job o r e =
    let made : Plan = record { first = []; source = d; inputs = option_to_list x ++ option_to_list y; target = u; pack = pack; job = job; options = o } in
    let same : r ≡ made = cc in
    (ap (λ (q : Plan). q.job) same, ap (λ (q : Plan). q.options) same, ap (λ (q : Plan). Some q.target) (sym same), ap (λ (q : Plan). q.pack) same)

plan_parts : (job : Job) (second third : Option Text) (target : Target) (pack : Option Text) (rows : List Row) (r : Plan) → planned job second third target pack rows ≡ Some r
    → (r.job ≡ job) × (r.options ≡ options_of rows) × (target_in target rows ≡ Some r.target) × (r.pack ≡ pack_in pack rows)
plan_parts job second third target pack rows r e =
    parts (file_of (codes "source") rows) (file_in second rows) (file_in third rows) (target_in target rows) (pack_in pack rows) job (options_of rows) r e

-- What a command's matches ask for fits.
abbrev FormFits : Form → Type 0
FormFits form = (rows : List Row) (r : Plan) → planned form.job form.second form.third form.target form.pack rows ≡ Some r → Fits r

some_is : {X : Type 0} (x y : X) → Some x ≡ Some y → x ≡ y
some_is x y e = cc

-- The packed file of a result is asked for by an option, where a command has it.
abbrev PacksWith : Job → Option Text → Type 0
PacksWith job pack = (rows : List Row) → packs_of (row job) (options_of rows) ≡ is_some (pack_in pack rows)

packs_so : (job : Job) (pack : Option Text) → PacksWith job pack → (rows : List Row) (r : Plan) → r.job ≡ job → r.options ≡ options_of rows → r.pack ≡ pack_in pack rows → packs_of (row r.job) r.options ≡ is_some r.pack
packs_so job pack so rows r is options named = ap₂ (λ (j : Job) (o : Options). packs_of (row j) o) is options ∙ so rows ∙ sym (ap is_some named)

without_target : (job : Job) (second : Option Text) → PacksWith job None → (rows : List Row) (r : Plan) → planned job second None NoTarget None rows ≡ Some r → Fits r
without_target job second so rows r e =
    let is = plan_parts job second None NoTarget None rows r e in
    record { makes = λ name named. none_is_some name (some_is None r.target is.2 ∙ named); packs = packs_so job None so rows r is.0 is.1 is.3 }

-- The job makes a file where an image is asked for.
abbrev MakesImageFile : Job → Type 0
MakesImageFile job = (o : Options) → o.image ≡ true → MakesFile (row job) o

imaged_fits : (job : Job) (second third pack : Option Text) → PacksWith job pack → MakesImageFile job → (rows : List Row) (r : Plan) → planned job second third (ByOption (codes "image")) pack rows ≡ Some r → Fits r
imaged_fits job second third pack so makes rows r e =
    let is = plan_parts job second third (ByOption (codes "image")) pack rows r e in
    let word : (name : List ℕ) → r.target ≡ Some name → word_of (codes "image") rows ≡ Some name = λ name named. some_is (word_of (codes "image") rows) r.target is.2 ∙ named in
    record {
      makes = λ name named. subst (λ (j : Job). MakesFile (row j) r.options) (sym is.0) (makes r.options (ap (λ (o : Options). o.image) is.1 ∙ ap is_some (word name named)));
      packs = packs_so job pack so rows r is.0 is.1 is.3;
    }

-- The job makes a file always.
abbrev MakesAlways : Job → Type 0
MakesAlways job = (o : Options) → MakesFile (row job) o

always_fits : (job : Job) (second third : Option Text) (target : Target) → PacksWith job None → MakesAlways job → (rows : List Row) (r : Plan) → planned job second third target None rows ≡ Some r → Fits r
always_fits job second third target so makes rows r e =
    let is = plan_parts job second third target None rows r e in
    record { makes = λ name named. subst (λ (j : Job). MakesFile (row j) r.options) (sym is.0) (makes r.options); packs = packs_so job None so rows r is.0 is.1 is.3 }

-- That is so of each of these commands.
abbrev AllFit : List Form → Type 0
AllFit [] = ⊤
AllFit (form ∷ rest) = FormFits form × AllFit rest

fitting : (p : Form → Bool) (all : List Form) (form : Form) → AllFit all → find p all ≡ Some form → FormFits form
fitting p [] form fit e = absurd (true≢false (sym (ap is_some e)))
fitting p (first ∷ rest) form fit e = go (p first) refl e (fitting p rest form fit.1)
  where
    go : (b : Bool) → p first ≡ b → cond b (Some first) (find p rest) ≡ Some form → (find p rest ≡ Some form → FormFits form) → FormFits form
    go true is found next = let same : first ≡ form = cc in subst FormFits same fit.0
    go false is found next = next found

all_fit : AllFit forms
all_fit =
    let input : Option Text = Some (codes "input") in
    let none' : (rows : List Row) → ◌≡◌ {A = Bool} false false = λ rows. refl in
    let last : AllFit (trace_form ∷ replay_form ∷ local_form ∷ []) =
    (always_fits Trace input None (AtPlace (codes "journal")) none' (λ o. tt), (imaged_fits Replay input (Some (codes "journal")) None none' (λ o on. on), (without_target Local input none', tt))) in
    let texts : AllFit (pack_form ∷ show_form ∷ trace_form ∷ replay_form ∷ local_form ∷ []) =
    (always_fits Pack (Some (codes "text")) None (AtPlace (codes "target")) none' (λ o. tt), (without_target Show (Some (codes "file")) none', last)) in
    (imaged_fits Run input None (Some (codes "pack")) (λ rows. refl) (λ o on. on), (without_target Plain input none', (without_target Check None none', (without_target Core None none', (without_target Code None none', texts)))))

-- ---- What words ask for

made_fits : (source input : Option Text) (o : Options) (r : Plan) → with_value (option_map (made_plan o) source) input ≡ Some r → Fits r
made_fits None input o r e = none_is_some r e
made_fits (Some source) None o r e = none_is_some r e
made_fits (Some source) (Some input) o r e =
    let same : made_plan o source input ≡ r = some_is (made_plan o source input) r e in
    record {
      makes = λ name named. none_is_some name (ap (λ (q : Plan). q.target) same ∙ named);
      packs = ap (λ (q : Plan). packs_of (row q.job) q.options) (sym same) ∙ ap (λ (q : Plan). is_some q.pack) same;
    }

read_fits : (name : Text) (rows : List Row) (r : Plan) → read_requested name rows ≡ Some r → Fits r
read_fits name rows r e = go (find (λ form. bytes_eq form.name name) forms) refl e
  where
    go : (o : Option Form) → find (λ form. bytes_eq form.name name) forms ≡ o → option_and_then (λ (form : Form). planned form.job form.second form.third form.target form.pack rows) o ≡ Some r → Fits r
    go None found is = none_is_some r is
    go (Some form) found is = fitting (λ x. bytes_eq x.name name) forms form all_fit found rows r is

requested_fits : (name : Text) (rows : List Row) (r : Plan) → requested name rows ≡ Some r → Fits r
requested_fits name rows r e = go (bytes_eq (codes "gen") name) refl e
  where
    go : (b : Bool) → bytes_eq (codes "gen") name ≡ b → cond b (made_requested rows) (read_requested name rows) ≡ Some r → Fits r
    go true is e = made_fits (word_of (codes "source") rows) (word_of (codes "input") rows) (options_of rows) r e
    go false is e = read_fits name rows r e

command_fits : (taken : Bool) (entered : Option (Text × List Row)) (r : Plan) → cond taken (option_and_then (λ e. requested e.0 e.1) entered) None ≡ Some r → Fits r
command_fits false entered r e = none_is_some r e
command_fits true None r e = none_is_some r e
command_fits true (Some entered) r e = requested_fits entered.0 entered.1 r e

sample_fits : (r : Plan) → asked [] ≡ Some r → Fits r
sample_fits r e = record {
  makes = λ name named. none_is_some name (ap (option_and_then (λ (q : Plan). q.target)) e ∙ named);
  packs = sym (some_is false (packs_of (row r.job) r.options) (ap (option_map (λ (q : Plan). packs_of (row q.job) q.options)) e)) ∙ ap is_some (some_is None r.pack (ap (option_map (λ (q : Plan). q.pack)) e));
}

pub asked_fits : (words : List Text) (r : Plan) → asked words ≡ Some r → Fits r
asked_fits [] r e = sample_fits r e
asked_fits (program ∷ []) r e = sample_fits r e
asked_fits (program ∷ word ∷ further) r e = command_fits (takes command_set (program ∷ word ∷ further)) (subcommand_of command_set (program ∷ word ∷ further)) r e
