-- What the code answers, as an outcome of the meaning.
use Rattle.gib_plain.specs.declared.outcome.Outcome.{Outcome}
use Rattle.gib_plain.specs.declared.outcome.Outcome.TheVariants.{Gives as GivesValue, NoValue}
use Rattle.gib_syntax.specs.Meaning.{Outcome as Meant, Gives, Stops}

-- What an outcome says.
abbrev pub told : Outcome → Meant
told (GivesValue v) = Gives v
told (NoValue why) = Stops why
