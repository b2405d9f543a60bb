-- The names of a binding as they are kept.
use Rattle.std.specs.Prelude.{List, [], ◌∷◌}
use Rattle.gib_syntax.specs.declared.tree.Ident.{Ident}
use Rattle.gib_syntax.specs.declared.names.Kept.{Kept}
use Rattle.gib_syntax.specs.declared.names.Kept.TheVariants as n

-- All of them, in their order.
abbrev pub kept_names : Kept → List Ident
kept_names (n.One x) = x ∷ []
kept_names (n.Several xs) = xs.items
