-- A result with its place and a body, as they were read.
use Rattle.std.specs.Prelude.{ℕ}
use Rattle.gib_local_parse.specs.declared.declarations.Body.{Body}
use Rattle.gib_local_parse.specs.Tree.{Line}
use Rattle.gib_local_parse.specs.Texts.{BodyText}

-- The text of a body that was read, with its line by its number.
abbrev pub body_text : (ℕ → Line) → Body → BodyText
body_text f b = record { result = b.result; place = b.place; line = f b.line.0 }
