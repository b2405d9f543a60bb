-- To mark pars changes neither what is left of a core, nor its meaning, nor how its lines are met.
use Rattle.std.proofs.Common.{◌≡◌, ℕ, Bool, List, [], ◌++◌, length, refl, sym, subst}
use Rattle.std.specs.List.{AllByRecursion}
use Rattle.gib_types.specs.Tree.{Datum}
use Rattle.gib_syntax.specs.Tree.{DataTree}
use Rattle.gib_core.specs.Tree.{Term, Bind, Past, One, Both, Prim, Reach, Side, variables_from, CoreTree}
use Rattle.gib_core.specs.Meaning.{bind, run, core_calls, core_run}
use Rattle.gib_core.specs.Erasing.{erase, erase_bind, erase_core}
use Rattle.gib_core.specs.Inferring.{numbers_from}
use Rattle.gib_core.specs.Numbering.{numbers_in, binders, bind_binders, IsNumbered, AreNumbered}
use Rattle.gib_core.specs.Ending.{is_telling}
use Rattle.gib_core.specs.Met.{behind, met_bind, Body, bodies, opening}
use Rattle.gib_core.specs.Rules.{AreBuilt}
use Rattle.gib_core.specs.Walk.{as_it_is}
use Rattle.gib_core.specs.Marking.{mark_one, mark, mark_core}
use Rattle.gib_core.proofs.Walks.{Keeps, map_keeps}
use Rattle.gib_core.proofs.Maps.{map_mean, map_erased, map_met, map_known}
use Rattle.gib_core.proofs.Remade.{all_of, MeansSame, KnowsSame, remade_so, remade_erased, remade_calls, remade_run, remade_ended, remade_built}

-- What looks at no mark is the same of a binding that is marked anew.
same_one : {A : Type 0} (F : Bind → A) → ((old new : Bool) (l r : Side) → F (Both new l r) ≡ F (Both old l r)) → (b : Bind) → F (mark_one b) ≡ F b
same_one F e (Past h k) = refl
same_one F e (One s) = refl
same_one F e (Both fork l r) = e fork _ l r
same_one F e (Prim x f y z) = refl
same_one F e (Reach y by) = refl

-- The body, marked.
abbrev marked : Body → Term
marked b = mark b.term

pub core_erased : (datas : List DataTree) (c : CoreTree) → erase_core datas (mark_core c) ≡ erase_core datas c
core_erased datas c =
    let one = map_erased c.table mark_one as_it_is (λ b sub k. same_one (λ x. erase_bind c.table sub x k) (λ old new l r. refl) b) (λ s t sub. refl) (λ kind t. refl) in
    remade_erased marked c.offsets c.marked datas c (all_of (λ (b : Body). erase c.table [] (marked b) ≡ erase c.table [] b.term) (λ b. one b.term []) (bodies c))

all_mean : (c : CoreTree) → AllByRecursion (MeansSame c.table marked) (bodies c)
all_mean c =
    all_of (MeansSame c.table marked) (λ b call vs. map_mean c.table call mark_one as_it_is (λ x e. same_one (λ y. run c.table call y e) (λ old new l r. refl) x) (λ s t e. refl) b.term (bind (variables_from 0 b.parameters) vs [])) (bodies c)

pub calls_marked : (c : CoreTree) (n : ℕ) → core_calls (mark_core c) n ≡ core_calls c n
calls_marked c n = remade_calls marked c.offsets c.marked c (all_mean c) n

pub run_marked : (c : CoreTree) (depth : ℕ) (v : Datum) → core_run (mark_core c) depth v ≡ core_run c depth v
run_marked c depth v = remade_run marked c.offsets c.marked c (all_mean c) depth v

mark_binders : (t : Term) → binders (mark t) ≡ binders t
mark_binders t =
    let keeps : Keeps (◌++◌) [] numbers_in mark_one as_it_is = record { bound = same_one bind_binders (λ old new l r. refl); nested = λ s u. refl } in
    map_keeps (◌++◌) [] numbers_in mark_one as_it_is keeps t

pub core_numbered : (core : CoreTree) → AreNumbered core → AreNumbered (mark_core core)
core_numbered core h =
    remade_so marked core.offsets core.marked IsNumbered IsNumbered (λ b n. subst (λ (l : List ℕ). l ≡ numbers_from (length b.parameters) (length l)) (sym (mark_binders b.term)) n) core h

all_known : (c : CoreTree) → AllByRecursion (KnowsSame c.table marked) (bodies c)
all_known c =
    all_of (KnowsSame c.table marked)
    (λ b es z. map_known c.table es mark_one as_it_is (λ x y. same_one (λ w. is_telling es w y) (λ old new l r. refl) x) (λ t y. refl) (λ s t y. refl) b.term z) (bodies c)

pub core_built : (core : CoreTree) → AreBuilt core → AreBuilt (mark_core core)
core_built core h =
    let one = map_met core.table mark_one as_it_is (λ b s. same_one (met_bind core.table s) (λ old new l r. refl) b) (λ b s. same_one (behind s) (λ old new l r. refl) b) (λ p t s. refl) (λ t cs. refl) in
    remade_built marked core (remade_ended marked core.offsets core.marked core (all_known core)) (λ b. one b.term (opening b)) h
