use Rattle.std.proofs.Common.{List, length, sym, subst}
use Rattle.gib_syntax.specs.GenericParts.{generic_program_of}
use Rattle.gib_mono.specs.Copied.{Item}
use Rattle.gib_mono.specs.Naming.{AreItemsBelow}
use Rattle.gib_mono.proofs.Below.{copies_below}
use Rattle.gib_app.proofs.compile.copied.Goals as goal

pub texts-requires : goal.texts-requires
texts-requires c =
    let k = c.in-Ok.ensures.copied in
    let B : List Item → Type 0 = AreItemsBelow (length c.args.names) in
    subst B (sym k.3) (copies_below (generic_program_of c.args.generic) (length c.args.names) k.0 c.requires.below c.requires.typed c.requires.fine k.1)
