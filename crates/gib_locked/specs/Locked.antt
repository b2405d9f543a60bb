-- What a run over the lock answers.
use Rattle.std.specs.Prelude.{◌≡◌}
use Rattle.gib_weave.specs.Woven.{WeaveParts}
use Rattle.gib_locked.specs.Run.{Leads, HasEnded, IsFull}
use Rattle.gib_locked.specs.declared.settings.Settings.{Settings}
use Rattle.gib_locked.specs.declared.runner.Locked.{Locked}
use Rattle.gib_locked.specs.declared.runner.Locked.TheVariants.{Ended, Full, Memory}

-- Of a weave and settings: the journal leads from it to the weave that is handed back, whose root has ended, or which is full; it has
-- the settings that were handed in.
abbrev pub IsAnswerOf : WeaveParts → Settings → Locked → Type 0
IsAnswerOf start settings (Ended w j) = Leads start j.lines.all.items w × HasEnded w × (j.settings ≡ settings)
IsAnswerOf start settings (Full w j) = Leads start j.lines.all.items w × IsFull w × (j.settings ≡ settings)
IsAnswerOf start settings Memory = Unit {0}
