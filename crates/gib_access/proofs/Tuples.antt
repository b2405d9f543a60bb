-- The parts of a tuple.
use Rattle.std.proofs.Common.{◌≡◌, ℕ, ◌+◌, ◌≤◌, List, [], ◌∷◌, ◌++◌, length, drop, get_or, reverse, sym, ap, ◌∙◌, subst, arith}
use Rattle.std.proofs.lemmas.List.{drop_more}
use Rattle.gib_core.specs.declared.node.TermId.{TermId}
use Rattle.gib_core.specs.Tree.{Term, PartThen}
use Rattle.gib_core.specs.Arena.{term_of, parts_from}
use Rattle.gib_core.specs.Reaching.{uses, parts_use, offsets_in, part_offsets}
use Rattle.gib_access.specs.declared.work.Work.{Work}
use Rattle.gib_access.specs.Made.{Way, ReachesTerm, ReachesParts}
use Rattle.gib_core.proofs.Fronting.{parts_below_more}
use Rattle.gib_core.specs.ArenaLaws.{parts_same_below}
use Rattle.gib_access.proofs.Walking.{walked_then}
use Rattle.gib_access.proofs.Arms.{reverse-push}

one-part : (w : Way) (f : ℕ → Term) (old now new : Work) (made t : TermId) (done ts : List TermId) → ReachesParts w old now done (parts_from f ts) → ReachesTerm w [] now new made (f t.0) → ReachesParts w old new (made ∷ done) (parts_from f (t ∷ ts))
one-part w f old now new made t done ts h p =
    let rest = parts_from f ts in
    record {
      walked = walked_then old now new (parts_use rest) (uses (f t.0)) (part_offsets w.mode w.table w.ended rest) (offsets_in w.mode w.table w.ended (f t.0)) h.walked p.walked;
      inside = (p.inside, parts_below_more (length now.terms) (length new.terms) done p.walked.grows.longer h.inside);
      are = (λ i. PartThen (p.is i) ((parts_same_below (term_of new.terms) (term_of now.terms) (length now.terms) done h.inside p.walked.grows.same ∙ h.are) i));
    }

-- One more part, before the others.
pub parts_next : (w : Way) (f : ℕ → Term) (old now new : Work) (made t d : TermId) (done more ts : List TermId) (i j : ℕ) → j ≡ i + 1 → j ≤ length ts → t ≡ get_or ts i d → more ≡ done ++ made ∷ []
    → ReachesParts w old now (reverse done) (parts_from f (drop j ts)) → ReachesTerm w [] now new made (f t.0) → ReachesParts w old new (reverse more) (parts_from f (drop i ts))
parts_next w f old now new made t d done more ts i j ej le et em h p =
    let rest = drop (i + 1) ts in
    let h' : ReachesParts w old now (reverse done) (parts_from f rest) = subst (λ n. ReachesParts w old now (reverse done) (parts_from f (drop n ts))) ej h in
    let both = one-part w f old now new made t (reverse done) rest h' p in
    let left : drop i ts ≡ t ∷ rest = drop_more ts i d (omega (arith, ej, le)) ∙ ap (λ (z : TermId). z ∷ rest) (sym et) in
    subst (λ z. ReachesParts w old new z (parts_from f (drop i ts))) (sym (reverse-push done more made em)) (subst (λ z. ReachesParts w old new (made ∷ reverse done) (parts_from f z)) (sym left) both)
