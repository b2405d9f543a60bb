-- Whether a line has a call that tells an end: one of its bindings, or its end.
use Rattle.std.proofs.Common.{◌≡◌, ℕ, Bool, ◌||◌, List, [], ◌∷◌, drop, refl, sym, ap, ◌∙◌}
use Rattle.gib_core.specs.declared.atom.Ended.{Ended}
use Rattle.gib_core.specs.declared.node.Node.{Node}
use Rattle.gib_core.specs.declared.node.Binding.{Binding}
use Rattle.gib_core.specs.Tree.{Term, Bind, prepend}
use Rattle.gib_core.specs.Arena.{IsLine, term_of, binds_from}
use Rattle.gib_core.specs.Ending.{has_telling, bind_telling}

-- A binding has, or what follows them.
abbrev pub binds_tell : List Ended → List Bind → Bool → Bool
binds_tell es [] b = b
binds_tell es (x ∷ xs) b = bind_telling es x || binds_tell es xs b

telling_prepend : (es : List Ended) (bs : List Bind) (t : Term) → has_telling es (prepend bs t) ≡ binds_tell es bs (has_telling es t)
telling_prepend es [] t = refl
telling_prepend es (b ∷ bs) t = ap (λ (c : Bool). bind_telling es b || c) (telling_prepend es bs t)

pub telling_line : (es : List Ended) (nodes : List Node) (id last i : ℕ) (bindings : List Binding) (before now : Bool) → IsLine nodes id bindings last → i ≡ 0
    → before ≡ has_telling es (term_of nodes last) → now ≡ binds_tell es (binds_from (term_of nodes) (drop i bindings)) before → now ≡ has_telling es (term_of nodes id)
telling_line es nodes id last i bindings before now line none_left ends front =
    let f = term_of nodes in
    let bs = binds_from f bindings in
    front
    ∙ ap (λ (k : ℕ). binds_tell es (binds_from f (drop k bindings)) before) none_left
    ∙ ap (binds_tell es bs) ends
    ∙ sym (telling_prepend es bs (f last))
    ∙ ap (has_telling es) (sym line.term)
