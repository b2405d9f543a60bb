-- More types leave what a context says.
use Rattle.std.proofs.Common.{◌≡◌, ◌≤◌, List, length, ap, subst}
use Rattle.gib_types.specs.declared.types.TypeId.{TypeId}
use Rattle.gib_types.specs.declared.types.TypeNode.{TypeNode}
use Rattle.gib_types.specs.Form.{Meant}
use Rattle.gib_types.specs.Types.{forms_of, forms_at, GrowsTo}
use Rattle.gib_syntax.specs.declared.tree.Ident.{Ident}
use Rattle.gib_syntax.specs.declared.written.Word.{Word}
use Rattle.gib_syntax.specs.Forms.{assign}
use Rattle.gib_mono.specs.declared.reading.Reading.{Reading}
use Rattle.gib_mono.specs.Contexts.{Known, IsKnown, meaning, Keeps, ReadsIn}
use Rattle.gib_mono.specs.Reading.{HasRead}
use Rattle.gib_mono.proofs.Read.{forms_grow}
use Rattle.gib_check.proofs.Growing.{below_more}

-- with these types in place of those before
abbrev pub with_types : Known → List TypeNode → Known
with_types k ns = record { types = ns; variables = k.variables; meant = k.meant }

pub known_more : (k : Known) (ns : List TypeNode) → IsKnown k → length k.types ≤ length ns → IsKnown (with_types k ns)
known_more k ns h l = record { meant = below_more (length k.types) (length ns) k.meant l h.meant }

pub keeps_more : (k : Known) (ns : List TypeNode) → IsKnown k → GrowsTo (forms_of k.types) (forms_of ns) → length k.types ≤ length ns → Keeps k (with_types k ns)
keeps_more k ns h g l = record { grows = g; longer = l; meaning = ap (assign k.variables) (forms_grow k.types ns k.meant g h.meant) }

pub reads_here : (k : Known) (ns : List TypeNode) (n : Meant) (words : List Word) (r : Reading) → IsKnown k → HasRead k.types ns n words r → ReadsIn k (with_types k ns) n words r
reads_here k ns n words r h read = record { keeps = keeps_more k ns h read.grows read.longer; below = read.below; types = read.types; uses = read.uses }

-- the same, where the parts of a context are named apart from it
pub reads_view : (inside k : Known) (ns : List TypeNode) (vs : List Ident) (ms : List TypeId) (words : List Word) (r : Reading) → inside ≡ k → IsKnown inside → vs ≡ inside.variables → ms ≡ inside.meant
    → HasRead inside.types ns (assign vs (forms_at (forms_of inside.types) ms)) words r → ReadsIn k (with_types inside ns) (meaning k) words r
reads_view inside k ns vs ms words r e h v m read =
    subst (λ q. ReadsIn q (with_types inside ns) (meaning q) words r) e
    (reads_here inside ns (meaning inside) words r h (subst (λ q. HasRead inside.types ns (assign q (forms_at (forms_of inside.types) inside.meant)) words r) v (subst (λ q. HasRead inside.types ns (assign vs (forms_at (forms_of inside.types) q)) words r) m read)))
