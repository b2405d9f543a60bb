-- What each command asks for: each value of its plan is there, and its numbers are within their ranges. A new command has a line in both.
use Rattle.std.proofs.Common.{◌≡◌, ◌||◌, Bool, cond, codes, true, false, not, refl, sym, arith, List, [], ◌∷◌, Option, Some, None, is_some, option_map, true≢false, subst, ℕ, ◌++◌, option_to_list, MatchOption}
use Rattle.std.specs.Prelude.{⊤, find, option_and_then}
use Rattle.std.specs.List.{AllByRecursion, list_all, list_any}
use Rattle.std.specs.Option.{option_map_or}
use Rattle.clap.specs.Facts.{explicit_source}
use Rattle.clap.specs.Walk.{Names, Row, Text, nothing_held, rows_after, stop_after, walk, walk_from, finished, answers_to}
use Rattle.clap.specs.Simple.{App, rows_at, Shape, argument_words, built, entered, is_simple, label_of, names_of, subcommand_of}
use Rattle.clap.specs.Takes.{built_takes, default_passes, entered_passes, level_passes, settle_passes, takes, walk_passes}
use Rattle.clap.proofs.OnLiterals.{clap_on_literals}
use Rattle.clap.proofs.WalkLemmas.{both}
use Rattle.gib_words.specs.declared.plan.Job.{Job}
use Rattle.gib_words.specs.declared.plan.Job.TheVariants.{Run, Plain, Check, Core, Code, Pack, Show, Trace, Replay, Local}
use Rattle.gib_words.specs.Words.{Target, NoTarget, AtPlace, ByOption, asked_by_command, command_set, file_of, made_requested, planned, requested, file_in, target_in, with_value, word_of, check_form, code_form, core_form, local_form, pack_form, plain_form, replay_form, run_form, show_form, trace_form, asked, made_plan, options_of, pack_in, usual}
use Rattle.gib_words.proofs.Filling.{Known}
use Rattle.gib_words.specs.Plan.{Document, Plan}
use Rattle.gib_words.specs.Ranges.{AreInRange, AreOfRun, AreOfMade}
use Rattle.gib_words.proofs.Asking.{Asks, built_form, built_gen, found_in, made_there, plan_there}
use Rattle.gib_words.proofs.Ranges.{byte_within, number_within, run_within}

-- ---- Each value of the plan is there

run_asks : Asks (built_form run_form)
unfolding clap_on_literals
run_asks words passes = plan_there (built_form run_form) words ((refl, refl), ((refl, refl), ((refl, refl), ((refl, refl), ((refl, refl), ((refl, refl), ((refl, refl), ((refl, refl), ((refl, refl), tt))))))))) refl passes Run (Some (codes "input")) None (ByOption (codes "image")) (Some (codes "pack")) (_, refl, refl, refl) (_, refl, refl, refl) tt tt

plain_asks : Asks (built_form plain_form)
unfolding clap_on_literals
plain_asks words passes = plan_there (built_form plain_form) words ((refl, refl), ((refl, refl), ((refl, refl), tt))) refl passes Plain (Some (codes "input")) None NoTarget None (_, refl, refl, refl) (_, refl, refl, refl) tt tt

check_asks : Asks (built_form check_form)
unfolding clap_on_literals
check_asks words passes = plan_there (built_form check_form) words ((refl, refl), tt) refl passes Check None None NoTarget None (_, refl, refl, refl) tt tt tt

core_asks : Asks (built_form core_form)
unfolding clap_on_literals
core_asks words passes = plan_there (built_form core_form) words ((refl, refl), ((refl, refl), ((refl, refl), tt))) refl passes Core None None NoTarget None (_, refl, refl, refl) tt tt tt

code_asks : Asks (built_form code_form)
unfolding clap_on_literals
code_asks words passes = plan_there (built_form code_form) words ((refl, refl), ((refl, refl), tt)) refl passes Code None None NoTarget None (_, refl, refl, refl) tt tt tt

pack_asks : Asks (built_form pack_form)
unfolding clap_on_literals
pack_asks words passes = plan_there (built_form pack_form) words ((refl, refl), ((refl, refl), ((refl, refl), ((refl, refl), ((refl, refl), tt))))) refl passes Pack (Some (codes "text")) None (AtPlace (codes "target")) None (_, refl, refl, refl) (_, refl, refl, refl) tt (_, refl, refl, refl)

show_asks : Asks (built_form show_form)
unfolding clap_on_literals
show_asks words passes = plan_there (built_form show_form) words ((refl, refl), ((refl, refl), ((refl, refl), tt))) refl passes Show (Some (codes "file")) None NoTarget None (_, refl, refl, refl) (_, refl, refl, refl) tt tt

trace_asks : Asks (built_form trace_form)
unfolding clap_on_literals
trace_asks words passes = plan_there (built_form trace_form) words ((refl, refl), ((refl, refl), ((refl, refl), ((refl, refl), ((refl, refl), ((refl, refl), ((refl, refl), ((refl, refl), tt)))))))) refl passes Trace (Some (codes "input")) None (AtPlace (codes "journal")) None (_, refl, refl, refl) (_, refl, refl, refl) tt (_, refl, refl, refl)

replay_asks : Asks (built_form replay_form)
unfolding clap_on_literals
replay_asks words passes = plan_there (built_form replay_form) words ((refl, refl), ((refl, refl), ((refl, refl), ((refl, refl), tt)))) refl passes Replay (Some (codes "input")) (Some (codes "journal")) (ByOption (codes "image")) None (_, refl, refl, refl) (_, refl, refl, refl) (_, refl, refl, refl) tt

local_asks : Asks (built_form local_form)
unfolding clap_on_literals
local_asks words passes = plan_there (built_form local_form) words ((refl, refl), ((refl, refl), ((refl, refl), ((refl, refl), ((refl, refl), ((refl, refl), tt)))))) refl passes Local (Some (codes "input")) None NoTarget None (_, refl, refl, refl) (_, refl, refl, refl) tt tt

gen_asks : Asks built_gen
unfolding clap_on_literals
gen_asks words passes =
    made_there built_gen words ((refl, refl), ((refl, refl), ((refl, refl), ((refl, refl), ((refl, refl), ((refl, refl), ((refl, refl), ((refl, refl), ((refl, refl), tt))))))))) refl passes (_, refl, refl, refl) (_, refl, refl, refl)

all_ask : AllByRecursion Asks (built command_set).subs
unfolding clap_on_literals
all_ask = (run_asks, (plain_asks, (check_asks, (core_asks, (code_asks, (pack_asks, (show_asks, (trace_asks, (replay_asks, (local_asks, (gen_asks, tt)))))))))))

needs_command : (built command_set).top.subcommand_required ≡ true
unfolding clap_on_literals
needs_command = refl

-- What the commands take asks for something.
entered_asks : (a : App) (stop : Option (Text × List Text)) → AllByRecursion Asks a.subs → entered_passes a stop ≡ true → is_some (entered a stop) ≡ true
    → is_some (option_and_then (λ e. requested e.0 e.1) (entered a stop)) ≡ true
entered_asks a None asks passes some = absurd (true≢false (sym some))
entered_asks a (Some p) asks passes some = go (find (λ s. answers_to p.0 (label_of s)) a.subs) refl passes some
  where
    go : (o : Option Shape) → find (λ s. answers_to p.0 (label_of s)) a.subs ≡ o → option_map_or (λ s. level_passes s [] nothing_held p.1 false) o true ≡ true
        → is_some (option_map (λ s. rows_at s p.1) o) ≡ true → is_some (option_and_then (λ e. requested e.0 e.1) (option_map (λ s. rows_at s p.1) o)) ≡ true
    go None e passes some = absurd (true≢false (sym some))
    go (Some s) e passes some = (found_in Asks (λ s. answers_to p.0 (label_of s)) a.subs s asks e).0 p.1 passes

command_there : (s : Shape) (names : Names) (words : List Text) (has : Bool) → s.subcommand_required ≡ true → level_passes s names nothing_held words has ≡ true → has ≡ true
command_there s names words has wants passes =
    let end = (walk s.rules names nothing_held words).held in
    let rows = finished s.rules end in
    let steps = both (walk_passes s names (walk_from nothing_held) words) _ passes in
    let rest = both (settle_passes s.rules s.args_override_self end) _ steps.1 in
    let last = both (list_all default_passes s.rules) _ rest.1 in
    let helped = both (not s.arg_required_else_help || (has || list_any (λ r. explicit_source r.source) rows)) _ last.1 in
    rw wants at (both (not s.subcommand_required || has) _ helped.1).0

built_asks : (a : App) (words : List Text) → a.top.subcommand_required ≡ true → AllByRecursion Asks a.subs → built_takes a nothing_held words ≡ true
    → is_some (option_and_then (λ e. requested e.0 e.1) (entered a (stop_after a.top.rules (names_of a) words))) ≡ true
built_asks a words wants asks passes =
    let stop = stop_after a.top.rules (names_of a) words in
    let steps = both (entered_passes a stop) _ passes in
    entered_asks a stop asks steps.0 (command_there a.top (names_of a) words (is_some (entered a stop)) wants steps.1)

pub asks_where_taken : (words : List Text) → is_some (asked_by_command words) ≡ takes command_set words
asks_where_taken words = go (takes command_set words) refl
  where
    go : (b : Bool) → takes command_set words ≡ b → is_some (cond b (option_and_then (λ e. requested e.0 e.1) (subcommand_of command_set words)) None) ≡ b
    go false e = refl
    go true e = built_asks (built command_set) (argument_words command_set words) needs_command all_ask (both (is_simple command_set) _ e).1

-- ---- Numbers are within their ranges

abbrev InRange : Plan → Type 0
InRange plan = AreInRange plan.job plan.options

planned_within : (job : Job) (second third : Option Text) (target : Target) (pack : Option Text) (rows : List Row) → AreInRange job (options_of rows) → MatchOption (planned job second third target pack rows) ⊤ InRange
planned_within job second third target pack rows h = go (file_of (codes "source") rows) (file_in second rows) (file_in third rows) (target_in target rows)
  where
    go : (s : Option Document) (t w : Option (Option Document)) (u : Option (Option Text))
        → MatchOption (with_value (with_value (with_value (option_map (λ s t w u. record { first = []; source = s; inputs = option_to_list t ++ option_to_list w; target = u; pack = pack_in pack rows; job = job; options = options_of rows }) s) t) w) u) ⊤ InRange
    go None t w u = tt
    go (Some s) None w u = tt
    go (Some s) (Some t) None u = tt
    go (Some s) (Some t) (Some w) None = tt
    go (Some s) (Some t) (Some w) (Some u) = h

made_within : (rows : List Row) → AreOfMade (options_of rows) → MatchOption (made_requested rows) ⊤ InRange
made_within rows h = go (word_of (codes "source") rows) (word_of (codes "input") rows)
  where
    go : (s i : Option Text) → MatchOption (with_value (option_map (made_plan (options_of rows)) s) i) ⊤ InRange
    go None i = tt
    go (Some s) None = tt
    go (Some s) (Some i) = h

-- What a command takes is in range.
abbrev Keeps : Shape → Type 0
Keeps s = (words : List Text) → level_passes s [] nothing_held words false ≡ true → MatchOption (requested s.name (rows_after s.rules [] words)) ⊤ InRange

run_keeps : Keeps (built_form run_form)
unfolding clap_on_literals
run_keeps words passes =
    planned_within Run (Some (codes "input")) None (ByOption (codes "image")) (Some (codes "pack")) (rows_after (built_form run_form).rules [] words)
    (run_within (built_form run_form) words ((refl, refl), ((refl, refl), ((refl, refl), ((refl, refl), ((refl, refl), ((refl, refl), ((refl, refl), ((refl, refl), ((refl, refl), tt))))))))) passes (_, refl, refl, refl) (_, refl, refl, refl) (_, refl, refl, refl) (_, refl, refl, refl))

plain_keeps : Keeps (built_form plain_form)
unfolding clap_on_literals
plain_keeps words passes =
    planned_within Plain (Some (codes "input")) None NoTarget None (rows_after (built_form plain_form).rules [] words)
    (number_within (built_form plain_form) words ((refl, refl), ((refl, refl), ((refl, refl), tt))) passes (codes "depth") 1 1000000 10000 (_, refl, refl, refl) (omega arith, omega arith))

check_keeps : Keeps (built_form check_form)
unfolding clap_on_literals
check_keeps words passes = planned_within Check None None NoTarget None (rows_after (built_form check_form).rules [] words) tt

core_keeps : Keeps (built_form core_form)
unfolding clap_on_literals
core_keeps words passes =
    planned_within Core None None NoTarget None (rows_after (built_form core_form).rules [] words)
    (number_within (built_form core_form) words ((refl, refl), ((refl, refl), ((refl, refl), tt))) passes (codes "pass") 1 4 4 (_, refl, refl, refl) (omega arith, omega arith))

code_keeps : Keeps (built_form code_form)
unfolding clap_on_literals
code_keeps words passes = planned_within Code None None NoTarget None (rows_after (built_form code_form).rules [] words) tt

pack_keeps : Keeps (built_form pack_form)
unfolding clap_on_literals
pack_keeps words passes = planned_within Pack (Some (codes "text")) None (AtPlace (codes "target")) None (rows_after (built_form pack_form).rules [] words) tt

show_keeps : Keeps (built_form show_form)
unfolding clap_on_literals
show_keeps words passes = planned_within Show (Some (codes "file")) None NoTarget None (rows_after (built_form show_form).rules [] words) tt

trace_keeps : Keeps (built_form trace_form)
unfolding clap_on_literals
trace_keeps words passes =
    planned_within Trace (Some (codes "input")) None (AtPlace (codes "journal")) None (rows_after (built_form trace_form).rules [] words)
    (run_within (built_form trace_form) words ((refl, refl), ((refl, refl), ((refl, refl), ((refl, refl), ((refl, refl), ((refl, refl), ((refl, refl), ((refl, refl), tt)))))))) passes (_, refl, refl, refl) (_, refl, refl, refl) (_, refl, refl, refl) (_, refl, refl, refl))

replay_keeps : Keeps (built_form replay_form)
unfolding clap_on_literals
replay_keeps words passes = planned_within Replay (Some (codes "input")) (Some (codes "journal")) (ByOption (codes "image")) None (rows_after (built_form replay_form).rules [] words) tt

local_keeps : Keeps (built_form local_form)
unfolding clap_on_literals
local_keeps words passes =
    planned_within Local (Some (codes "input")) None NoTarget None (rows_after (built_form local_form).rules [] words)
    (run_within (built_form local_form) words ((refl, refl), ((refl, refl), ((refl, refl), ((refl, refl), ((refl, refl), ((refl, refl), tt)))))) passes (_, refl, refl, refl) (_, refl, refl, refl) (_, refl, refl, refl) (_, refl, refl, refl))

gen_known : AllByRecursion (Known built_gen.rules) built_gen.rules
unfolding clap_on_literals
gen_known = ((refl, refl), ((refl, refl), ((refl, refl), ((refl, refl), ((refl, refl), ((refl, refl), ((refl, refl), ((refl, refl), ((refl, refl), tt)))))))))

gen_keeps : Keeps built_gen
unfolding clap_on_literals
gen_keeps words passes =
    made_within (rows_after built_gen.rules [] words) (record {
      run = run_within built_gen words gen_known passes (_, refl, refl, refl) (_, refl, refl, refl) (_, refl, refl, refl) (_, refl, refl, refl);
      number_most = (number_within built_gen words gen_known passes (codes "number") 0 2147483647 0 (_, refl, refl, refl) (omega arith, omega arith)).1;
      levels_most = (byte_within built_gen words gen_known passes (codes "levels") 0 18 0 (_, refl, refl, refl) (omega arith, omega arith)).1;
    })

all_keep : AllByRecursion Keeps (built command_set).subs
unfolding clap_on_literals
all_keep = (run_keeps, (plain_keeps, (check_keeps, (core_keeps, (code_keeps, (pack_keeps, (show_keeps, (trace_keeps, (replay_keeps, (local_keeps, (gen_keeps, tt)))))))))))

entered_within : (a : App) (stop : Option (Text × List Text)) → AllByRecursion Keeps a.subs → entered_passes a stop ≡ true → MatchOption (option_and_then (λ e. requested e.0 e.1) (entered a stop)) ⊤ InRange
entered_within a None keeps passes = tt
entered_within a (Some p) keeps passes = go (find (λ s. answers_to p.0 (label_of s)) a.subs) refl passes
  where
    go : (o : Option Shape) → find (λ s. answers_to p.0 (label_of s)) a.subs ≡ o → option_map_or (λ s. level_passes s [] nothing_held p.1 false) o true ≡ true
        → MatchOption (option_and_then (λ e. requested e.0 e.1) (option_map (λ s. rows_at s p.1) o)) ⊤ InRange
    go None e good = tt
    go (Some s) e good = (found_in Keeps (λ x. answers_to p.0 (label_of x)) a.subs s keeps e).0 p.1 good

command_within : (words : List Text) → MatchOption (asked_by_command words) ⊤ InRange
command_within words = go (takes command_set words) refl
  where
    go : (b : Bool) → takes command_set words ≡ b → MatchOption (cond b (option_and_then (λ e. requested e.0 e.1) (subcommand_of command_set words)) None) ⊤ InRange
    go false e = tt
    go true e =
        let a = built command_set in
        let told = argument_words command_set words in
        let stop = stop_after a.top.rules (names_of a) told in
        entered_within a stop all_keep (both (entered_passes a stop) _ (both (is_simple command_set) _ e).1).0

usual_within : AreOfRun usual
usual_within = record {
  workers_least = omega arith;
  workers_most = omega arith;
  depth_least = omega arith;
  depth_most = omega arith;
  chunks_least = omega arith;
  chunks_most = omega arith;
  fork_most = omega arith;
}

asked_within : (words : List (List ℕ)) → MatchOption (asked words) ⊤ InRange
asked_within [] = usual_within
asked_within (program ∷ []) = usual_within
asked_within (program ∷ word ∷ further) = command_within (program ∷ word ∷ further)

pub in_range : (words : List (List ℕ)) (plan : Plan) → asked words ≡ Some plan → AreInRange plan.job plan.options
in_range words plan e = let Q : Option Plan → Type 0 = λ x. MatchOption x ⊤ InRange in subst Q e (asked_within words)
