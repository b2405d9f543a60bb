-- To reach fields keeps that variables are numbered in the order of the text: it binds nothing.
use Rattle.std.proofs.Common.{◌≡◌, ℕ, List, [], ◌++◌, length, refl, sym, subst}
use Rattle.gib_core.specs.declared.atom.AccessMode.{AccessMode}
use Rattle.gib_core.specs.Tree.{Term, CoreTree}
use Rattle.gib_core.specs.Inferring.{numbers_from}
use Rattle.gib_core.specs.Met.{Body}
use Rattle.gib_core.specs.Numbering.{numbers_in, binders, IsNumbered, AreNumbered}
use Rattle.gib_core.specs.Reaching.{offsets_by, tells_ends, ended_by, reach, reach_core}
use Rattle.gib_core.proofs.PastReaches.{reach_walk}
use Rattle.gib_core.proofs.Remade.{remade_so}

pub reach_numbered : (mode : AccessMode) (core : CoreTree) → AreNumbered core → AreNumbered (reach_core mode core)
reach_numbered mode core h =
    let es = ended_by mode core in
    let same : (t : Term) → binders (reach mode core.table es [] t) ≡ binders t = λ t. reach_walk (◌++◌) [] numbers_in (λ y by ns. refl) core.table es mode [] t in
    remade_so (λ (b : Body). reach mode core.table es [] b.term) (offsets_by mode core) (tells_ends mode) IsNumbered IsNumbered
    (λ b n. subst (λ (l : List ℕ). l ≡ numbers_from (length b.parameters) (length l)) (sym (same b.term)) n) core h
