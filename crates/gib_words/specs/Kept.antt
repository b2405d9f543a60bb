-- What the code keeps of a plan.
use Rattle.std.specs.Prelude.{List, [], ◌∷◌, Option, None, Some, option_map, option_to_list}
use Rattle.gib_words.specs.declared.matches.Target.{Target as KeptTarget}
use Rattle.gib_words.specs.declared.matches.Target.TheVariants as target
use Rattle.gib_words.specs.declared.plan.Document.{Document as KeptDocument}
use Rattle.gib_words.specs.declared.plan.Document.TheVariants as document
use Rattle.gib_words.specs.declared.plan.MadeNames.{MadeNames}
use Rattle.gib_words.specs.declared.plan.Options.{Options}
use Rattle.gib_words.specs.declared.plan.Plan.{Plan as KeptPlan}
use Rattle.gib_words.specs.Plan.{Document, BuiltIn, Named, Write, Plan}
use Rattle.gib_words.specs.Words.{Target, NoTarget, AtPlace, ByOption, made_source, made_input, first_writes}

-- The document.
abbrev pub document_of : KeptDocument → Document
document_of (document.BuiltIn bytes) = BuiltIn bytes.now
document_of (document.Named name) = Named name.now
document_of (document.MadeSource number) = BuiltIn (made_source number)
document_of (document.MadeInput number levels) = BuiltIn (made_input number levels)

-- The writes of a source and an input that are made, where they have names.
abbrev pub first_of : Options → Option MadeNames → List Write
first_of options None = []
first_of options (Some names) = first_writes options names.source.now names.input.now

-- The inputs that are read: a third file only behind a second one.
abbrev pub inputs_with : (second third : Option Document) → List Document
inputs_with None third = []
inputs_with (Some document) third = document ∷ option_to_list third

-- What names the file that is written.
abbrev pub target_of : KeptTarget → Target
target_of target.Nothing = NoTarget
target_of (target.AtPlace id) = AtPlace id.now
target_of (target.ByOption id) = ByOption id.now

-- The plan.
abbrev pub plan_of : KeptPlan → Plan
plan_of plan = record {
  first = first_of plan.options plan.first;
  source = document_of plan.source;
  inputs = inputs_with (option_map document_of plan.second) (option_map document_of plan.third);
  target = option_map (λ name. name.now) plan.target;
  pack = option_map (λ name. name.now) plan.pack;
  job = plan.job;
  options = plan.options;
}
