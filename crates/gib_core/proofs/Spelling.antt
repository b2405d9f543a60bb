-- The pieces of a line: those of its bindings, and then those of its end.
use Rattle.std.proofs.Common.{◌≡◌, ◌≤◌, ℕ, ◌+◌, ◌-◌, List, [], ◌∷◌, length, refl, sym, ap, ◌∙◌, drop, arith}
use Rattle.gib_core.specs.declared.node.Node.{Node}
use Rattle.gib_core.specs.declared.node.Binding.{Binding}
use Rattle.gib_core.specs.declared.piece.Piece.{Piece}
use Rattle.gib_core.specs.declared.piece.Piece.TheVariants as p
use Rattle.gib_core.specs.Tree.{Term, Bind, prepend, variables_from}
use Rattle.gib_core.specs.Ending.{Ended}
use Rattle.gib_core.specs.Arena.{IsLine, term_of, binds_from}
use Rattle.gib_core.specs.CoreText.{spell_term, spell_bind, spell_variables}
use Rattle.gib_core.proofs.Listed.{variables_more}

-- The pieces of bindings on a level, and then the rest.
abbrev pub spell_binds : List Ended → ℕ → List Bind → List Piece → List Piece
spell_binds es d [] rest = rest
spell_binds es d (b ∷ bs) rest = spell_bind es d b (spell_binds es d bs rest)

spell_prepend : (es : List Ended) (d : ℕ) (bs : List Bind) (t : Term) (rest : List Piece) → spell_term es d (prepend bs t) rest ≡ spell_binds es d bs (spell_term es d t rest)
spell_prepend es d [] t rest = refl
spell_prepend es d (b ∷ bs) t rest = ap (spell_bind es d b) (spell_prepend es d bs t rest)

-- A line is spelled, once none of its bindings is left that is not spelled before its end.
pub spell_line : (es : List Ended) (nodes : List Node) (d id last i : ℕ) (bindings : List Binding) (old behind new : List Piece) → IsLine nodes id bindings last → i ≡ 0
    → behind ≡ spell_term es d (term_of nodes last) old → new ≡ spell_binds es d (binds_from (term_of nodes) (drop i bindings)) behind
    → new ≡ spell_term es d (term_of nodes id) old
spell_line es nodes d id last i bindings old behind new line none_left ends front =
    let f = term_of nodes in
    let bs = binds_from f bindings in
    front
    ∙ ap (λ (k : ℕ). spell_binds es d (binds_from f (drop k bindings)) behind) none_left
    ∙ ap (spell_binds es d bs) ends
    ∙ sym (spell_prepend es d bs (f last) old)
    ∙ ap (λ (t : Term). spell_term es d t old) (sym line.term)

-- One more variable in front of those that stand one behind another.
pub variables_before : {A : Type 0} (xs : List A) (first i number : ℕ) (rest now new : List Piece) → 1 ≤ i → i ≤ length xs → number ≡ first + (i - 1)
    → now ≡ spell_variables (variables_from (first + i) (drop i xs)) rest → new ≡ p.Variable (record { 0 = number }) ∷ now
    → new ≡ spell_variables (variables_from (first + (i - 1)) (drop (i - 1) xs)) rest
variables_before xs first i number rest now new some all e h put =
    let there : first + (i - 1) + 1 ≡ first + i = omega arith in
    let back : i - 1 + 1 ≡ i = omega arith in
    let left = variables_more xs (i - 1) (first + (i - 1)) (omega arith) ∙ (λ k. record { 0 = sym e k } ∷ variables_from (there k) (drop (back k) xs)) in
    put ∙ ap (λ l. p.Variable (record { 0 = number }) ∷ l) h ∙ sym (ap (λ l. spell_variables l rest) left)
