-- What the words of a command line ask for.
use Rattle.std.specs.Prelude.{ℕ, ◌%◌, nat_lt, Bool, true, false, if◌then◌else◌, List, [], ◌∷◌, ◌++◌, map, fold, codes}
use Rattle.std.specs.Prelude.{Option, Some, None, is_some, option_map, option_and_then, option_to_list, find}
use Rattle.std.specs.String.{string_bytes}
use Rattle.std.specs.declared.string.String.{String}
use Rattle.std.specs.declared.alloc.Global.{Global}
use Rattle.std.specs.Option.{option_map_or}
use Rattle.std.specs.Str.{bytes_eq}
use Rattle.std.specs.Str.Parse.{digits_value, without_leading_plus}
use Rattle.clap.specs.ValueTests.{is_unsigned_in}
use Rattle.clap.specs.Walk.{Row, Rule, Text, first_of, one_of}
use Rattle.clap.specs.Simple.{App, new_app, new_rule, on_top, subcommand_of, with_rule, with_subcommand}
use Rattle.clap.specs.Takes.{takes}
use Rattle.clap.specs.declared.builder.action.ArgAction.TheVariants.{SetTrue}
use Rattle.clap.specs.declared.builder.value_parser.ValueParser.TheVariants.{Unsigned}
use Rattle.gib_types.specs.declared.access.FieldAccess.{FieldAccess}
use Rattle.gib_types.specs.declared.access.FieldAccess.TheVariants.{Ends, Skips}
use Rattle.gib_words.specs.declared.plan.Job.{Job}
use Rattle.gib_words.specs.declared.plan.Job.TheVariants.{Run, Plain, Check, Core, Code, Pack, Show, Gen, Trace, Replay, Local}
use Rattle.gib_words.specs.declared.plan.Options.{Options}
use Rattle.gib_words.specs.Plan.{Document, BuiltIn, Named, Write, Plan}
use Rattle.gib_gen.specs.Made.{source_text, grown}
use Rattle.gib_gen.specs.Made.{file_of as packed_tree_file}
use Rattle.gib_words.specs.Sample.{sample_source, sample_input}

-- The bytes of the words.
abbrev pub bytes_of : List (String Global) → List (List ℕ)
bytes_of words = map string_bytes words

-- ---- Arguments

-- A word by its place, which has to be there.
abbrev pub positional : Text → Rule
positional id = record (new_rule id) { required = true }

-- `--name WORD` or `--name=WORD`. It may be left out.
abbrev pub word : Text → Rule
word name = record (new_rule name) { long = Some name }

-- `--name N` or `--name=N`, where N is a number from `least` to `most`. It may be left out.
abbrev pub number : Text → ℕ → ℕ → Rule
number name least most = record (new_rule name) { long = Some name; parser = Some (Unsigned least most) }

-- How deep calls may go.
abbrev pub depth : Rule
depth = number (codes "depth") 1 1000000

-- How many chunks of memory a run may draw.
abbrev pub chunks : Rule
chunks = number (codes "chunks") 16 65536

-- How many workers run.
abbrev pub workers : Rule
workers = number (codes "workers") 1 64

-- How many forks may be nested.
abbrev pub fork : Rule
fork = number (codes "fork") 0 64

-- After which pass.
abbrev pub pass : Rule
pass = number (codes "pass") 1 4

-- Under which name the image of region memory is written.
abbrev pub image : Rule
image = word (codes "image")

-- Under which name the packed file of the result is written.
abbrev pub pack : Rule
pack = word (codes "pack")

-- A number from `least` to `most` by its place, which has to be there.
abbrev pub numeral : Text → ℕ → ℕ → Rule
numeral id least most = record (positional id) { parser = Some (Unsigned least most) }

-- `--name`, which may be left out.
abbrev pub flag : Text → Rule
flag name = record (new_rule name) { long = Some name; action = Some SetTrue }

-- Whether fields are reached from the end of the field before them.
abbrev pub skips : Rule
skips = flag (codes "skips")

-- Whether what is packed is a packed file.
abbrev pub from : Rule
from = flag (codes "from")

-- Whether a packed file of version 1 is written.
abbrev pub v1 : Rule
v1 = flag (codes "v1")

-- ---- Their values

-- The word at a place.
abbrev pub word_of : Text → List Row → Option Text
word_of = first_of

-- The file that the word at a place names.
abbrev pub file_of : Text → List Row → Option Document
file_of id rows = option_map Named (word_of id rows)

-- The number that digits write, where 32 bits hold it. A plus may stand before them.
abbrev pub number_in : Text → Option ℕ
number_in text = if is_unsigned_in 0 4294967295 text then Some (digits_value 10 (without_leading_plus text)) else None

-- The number of an option.
abbrev pub number_of : Text → List Row → Option ℕ
number_of id rows = option_and_then number_in (one_of id rows)

-- The number of an option, or what stands where it is left out.
abbrev pub number_or : Text → ℕ → List Row → ℕ
number_or id default rows = option_map_or (λ n. n) (number_of id rows) default

-- A number that 8 bits hold.
abbrev pub byte_of : ℕ → Option ℕ
byte_of n = if nat_lt n 256 then Some n else None

-- The same where 8 bits hold it.
abbrev pub byte_or : Text → ℕ → List Row → ℕ
byte_or id default rows = option_map_or (λ n. n) (option_and_then byte_of (number_of id rows)) default

-- Whether a flag is given.
abbrev pub flag_of : Text → List Row → Bool
flag_of id rows = option_map_or (λ value. bytes_eq value (codes "true")) (word_of id rows) false

-- How fields are reached, by whether the flag is given.
abbrev pub access_of : List Row → FieldAccess
access_of rows = if flag_of (codes "skips") rows then Skips else Ends

-- The options where none is given.
abbrev pub usual : Options
usual = record {
  workers = 1;
  depth = 10000;
  chunks = 1024;
  fork = 4;
  pass = 4;
  image = false;
  packs = false;
  access = Ends;
  number = 0;
  levels = 0;
  repacks = false;
  first_version = false;
}

-- All options.
abbrev pub options_of : List Row → Options
options_of rows = record {
  workers = number_or (codes "workers") usual.workers rows;
  depth = number_or (codes "depth") usual.depth rows;
  chunks = number_or (codes "chunks") usual.chunks rows;
  fork = number_or (codes "fork") usual.fork rows;
  pass = number_or (codes "pass") usual.pass rows;
  image = is_some (word_of (codes "image") rows);
  packs = is_some (word_of (codes "pack") rows);
  access = access_of rows;
  number = number_or (codes "number") usual.number rows;
  levels = byte_or (codes "levels") usual.levels rows;
  repacks = flag_of (codes "from") rows;
  first_version = flag_of (codes "v1") rows;
}

-- One more value of a plan, where it is there.
abbrev pub with_value : {X Y : Type 0} → Option (X → Y) → Option X → Option Y
with_value None value = None
with_value (Some rest) value = option_map rest value

-- The file at a place, where a command has one there.
abbrev pub file_in : Option Text → List Row → Option (Option Document)
file_in None rows = Some None
file_in (Some id) rows = option_map Some (file_of id rows)

-- What names the file that a command writes: nothing, since there is none; the word of a place; or an option, which may be
-- left out.
pub data Target : Type 0 where
  NoTarget : Target
  AtPlace : Text → Target
  ByOption : Text → Target

-- The name of the file that is written, where there is one.
abbrev pub target_in : Target → List Row → Option (Option Text)
target_in NoTarget rows = Some None
target_in (AtPlace id) rows = option_map Some (word_of id rows)
target_in (ByOption id) rows = Some (word_of id rows)

-- The name under which the packed file of a result is written: that of an option, where a command has it. It may be left out.
abbrev pub pack_in : Option Text → List Row → Option Text
pack_in None rows = None
pack_in (Some id) rows = word_of id rows

-- ---- What is made

-- The text of the program that is made of a number.
abbrev pub made_source : ℕ → List ℕ
made_source number = source_text (number % 1000)

-- The packed file of the tree of so many levels that grows from a number.
abbrev pub made_input : ℕ → ℕ → List ℕ
made_input number levels = packed_tree_file (grown levels number).tree

-- The writes of both, under these names.
abbrev pub first_writes : Options → Text → Text → List Write
first_writes options source input =
    record { name = source; bytes = made_source options.number } ∷ record { name = input; bytes = made_input options.number options.levels } ∷ []

-- To make both, to write them, and to run what was made.
abbrev pub made_plan : Options → Text → Text → Plan
made_plan options source input = record {
  first = first_writes options source input;
  source = BuiltIn (made_source options.number);
  inputs = BuiltIn (made_input options.number options.levels) ∷ [];
  target = None;
  pack = None;
  job = Gen;
  options = options;
}

-- ---- Commands

-- A command: its name, its arguments behind the source (the second file, the third, the file that is written, options), which option
-- names the packed file of its result, if one does, and its job.
pub record Form : Type 0 where
  pub name : Text
  pub second : Option Text
  pub third : Option Text
  pub target : Target
  pub pack : Option Text
  pub options : List Rule
  pub job : Job

-- A word by its place, where there is one.
abbrev pub place_of : Option Text → List Rule
place_of None = []
place_of (Some id) = positional id ∷ []

-- The same of what names a file.
abbrev pub target_place : Target → List Rule
target_place NoTarget = []
target_place (AtPlace id) = positional id ∷ []
target_place (ByOption id) = []

-- All arguments of a command.
abbrev pub arguments_of : Form → List Rule
arguments_of form = positional (codes "source") ∷ (place_of form.second ++ (place_of form.third ++ (target_place form.target ++ form.options)))

-- What a command asks for.
abbrev pub planned : Job → (second third : Option Text) → Target → (pack : Option Text) → List Row → Option Plan
planned job second third target pack rows =
    with_value (with_value (with_value
    (option_map (λ s t w u. record {
      first = [];
      source = s;
      inputs = option_to_list t ++ option_to_list w;
      target = u;
      pack = pack_in pack rows;
      job = job;
      options = options_of rows;
    })
    (file_of (codes "source") rows))
    (file_in second rows)) (file_in third rows)) (target_in target rows)

-- A command on a source alone, without options.
abbrev pub on_source : Text → Job → Form
on_source name job = record { name = name; second = None; third = None; target = NoTarget; pack = None; options = []; job = job }

-- A command on a source and a second file, which is named so.
abbrev pub on_both : Text → Text → Job → Form
on_both name second job = record (on_source name job) { second = Some second }

-- `run SOURCE INPUT [--workers N] [--depth N] [--chunks N] [--fork N] [--skips] [--image FILE] [--pack FILE]`.
abbrev pub run_form : Form
run_form = record (on_both (codes "run") (codes "input") Run) {
  target = ByOption (codes "image");
  pack = Some (codes "pack");
  options = workers ∷ depth ∷ chunks ∷ fork ∷ skips ∷ image ∷ pack ∷ [];
}

-- `plain SOURCE INPUT [--depth N]`.
abbrev pub plain_form : Form
plain_form = record (on_both (codes "plain") (codes "input") Plain) { options = depth ∷ [] }

-- `check SOURCE`.
abbrev pub check_form : Form
check_form = on_source (codes "check") Check

-- `core SOURCE [--pass P] [--skips]`.
abbrev pub core_form : Form
core_form = record (on_source (codes "core") Core) { options = pass ∷ skips ∷ [] }

-- `code SOURCE [--skips]`.
abbrev pub code_form : Form
code_form = record (on_source (codes "code") Code) { options = skips ∷ [] }

-- `pack SOURCE TEXT TARGET [--from] [--v1]`: with `--from` TEXT is a packed file.
abbrev pub pack_form : Form
pack_form = record (on_both (codes "pack") (codes "text") Pack) { target = AtPlace (codes "target"); options = from ∷ v1 ∷ [] }

-- `show SOURCE FILE [--skips]`.
abbrev pub show_form : Form
show_form = record (on_both (codes "show") (codes "file") Show) { options = skips ∷ [] }

-- `trace SOURCE INPUT JOURNAL [--workers N] [--depth N] [--chunks N] [--fork N] [--skips]`: the journal is written.
abbrev pub trace_form : Form
trace_form = record (on_both (codes "trace") (codes "input") Trace) {
  target = AtPlace (codes "journal");
  options = workers ∷ depth ∷ chunks ∷ fork ∷ skips ∷ [];
}

-- `replay SOURCE INPUT JOURNAL [--image FILE]`.
abbrev pub replay_form : Form
replay_form = record (on_both (codes "replay") (codes "input") Replay) {
  third = Some (codes "journal");
  target = ByOption (codes "image");
  options = image ∷ [];
}

-- `local SOURCE INPUT [--workers N] [--depth N] [--chunks N] [--fork N]`: the source writes its places out.
abbrev pub local_form : Form
local_form = record (on_both (codes "local") (codes "input") Local) { options = workers ∷ depth ∷ chunks ∷ fork ∷ [] }

-- `gen NUMBER LEVELS SOURCE INPUT [--workers N] [--depth N] [--chunks N] [--fork N] [--skips]`: both files are made.
abbrev pub gen_arguments : List Rule
gen_arguments =
    numeral (codes "number") 0 2147483647 ∷ numeral (codes "levels") 0 18 ∷ positional (codes "source") ∷ positional (codes "input") ∷ workers ∷ depth ∷ chunks
    ∷ fork ∷ skips ∷ []

-- All commands whose files are read.
abbrev pub forms : List Form
forms = run_form ∷ plain_form ∷ check_form ∷ core_form ∷ code_form ∷ pack_form ∷ show_form ∷ trace_form ∷ replay_form ∷ local_form ∷ []

-- A command as clap sees it.
abbrev pub app_for : Form → App
app_for form = fold with_rule (new_app form.name) (arguments_of form)

-- The command whose files are made, as clap sees it.
abbrev pub gen_app : App
gen_app = fold with_rule (new_app (codes "gen")) gen_arguments

-- The program before its commands: one of them has to be there, and nothing asks for help.
abbrev pub bare_program : App
bare_program = on_top (λ s. record s { disable_help_flag = true; disable_help_subcommand = true; subcommand_required = true })
    (new_app (codes "gib"))

-- The program with its commands.
abbrev pub command_set : App
command_set = with_subcommand (fold (λ app form. with_subcommand app (app_for form).top) bare_program forms) gen_app.top

-- ---- What words ask for

-- The product's own program on its own input.
abbrev pub sample : Plan
sample = record { first = []; source = BuiltIn sample_source; inputs = BuiltIn sample_input ∷ []; target = None; pack = None; job = Run; options = usual }

-- Whether words are taken, the program's name first: at most one, or those that clap takes.
abbrev pub taken : List Text → Bool
taken [] = true
taken (program ∷ []) = true
taken (program ∷ word ∷ further) = takes command_set (program ∷ word ∷ further)

-- What the matches of `gen` ask for.
abbrev pub made_requested : List Row → Option Plan
made_requested rows = with_value (option_map (made_plan (options_of rows)) (word_of (codes "source") rows)) (word_of (codes "input") rows)

-- What the matches of a command whose files are read ask for, by its name.
abbrev pub read_requested : Text → List Row → Option Plan
read_requested name rows =
    option_and_then (λ form. planned form.job form.second form.third form.target form.pack rows) (find (λ form. bytes_eq form.name name) forms)

-- What the matches of a command, by its name, ask for.
abbrev pub requested : Text → List Row → Option Plan
requested name rows = if bytes_eq (codes "gen") name then made_requested rows else read_requested name rows

-- What the command among the words asks for, the program's name first, where clap takes them.
abbrev pub asked_by_command : List Text → Option Plan
asked_by_command words =
    if takes command_set words then option_and_then (λ entered. requested entered.0 entered.1) (subcommand_of command_set words) else None

-- What words ask for, the program's name first: the sample where there is no other word.
abbrev pub asked : List (List ℕ) → Option Plan
asked [] = Some sample
asked (program ∷ []) = Some sample
asked (program ∷ word ∷ further) = asked_by_command (program ∷ word ∷ further)
