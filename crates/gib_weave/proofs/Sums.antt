-- A run by ends: its core, which is marked, has the parameter of its function as the ended one, fits, and has that code; the run's
-- journals are legal.
use Rattle.std.proofs.Common.{◌≡◌, ℕ, zero, suc, ◌+◌, ◌<◌, Bool, true, false, List, [], ◌∷◌, Option, Some, None, slice_get, length, pos, cond, eqb, refl, subst, arith}
use Rattle.std.proofs.lemmas.Bool.{eqb-true, false≢true, or_right}
use Rattle.std.proofs.lemmas.Option.{none-some}
use Rattle.gib_types.specs.declared.table.Ty.TheVariants.{Whole}
use Rattle.gib_types.specs.Table.{Row, IsTable, IsRow, con_at}
use Rattle.gib_core.specs.declared.atom.Ended.{Ended}
use Rattle.gib_core.specs.Tree.{NoBranch, BranchThen, FunctionTerm}
use Rattle.gib_core.specs.Meaning.{function_at}
use Rattle.gib_core.specs.Numbering.{binders}
use Rattle.gib_core.specs.Ending.{ended, has_ended, within_function, within_main}
use Rattle.gib_core.specs.Low as low
use Rattle.gib_core.specs.Low.{IsLowered}
use Rattle.gib_syntax.specs.Results as results
use Rattle.gib_core.specs.Fits.{AtEnd, AtHead, Fits, FunctionFits, AllFit, arm_line, arm_scope, body_scope, body_needs, dest_of, finally, has_branch, new_line, none_of, put}
use Rattle.gib_code.specs.declared.answer.Answer.TheVariants as answer
use Rattle.gib_code.specs.Program.{none, one_more}
use Rattle.gib_machine.specs.State.{end_at}
use Rattle.gib_weave.specs.Example.{v, k}
use Rattle.gib_weave.specs.Weave as ev
use Rattle.gib_weave.specs.Weave.{Weave, Finish, Legal, ended_task, task, none as over, more}
use Rattle.gib_weave.specs.Worked.{table, tree}
use Rattle.gib_weave.specs.Summing.{core, code, sum_term, leaf_arm, node_arm, start, journal}
use Rattle.gib_weave.proofs.Ends.{or_none}
use Rattle.gib_weave.proofs.Journals.{on, steps_are}
use Rattle.gib_weave.proofs.Row.{steps}

-- The table.

record Fact (con : ℕ) (r : Row) : Type 0 where
  name : r.name ≡ con + 1
  owner : r.owner ≡ 0
  fine : IsRow 1 r

given : (con : ℕ) (r s : Row) → Some r ≡ Some s → Fact con r → Fact con s
given con r s e f = let same : r ≡ s = cc in subst (Fact con) same f

fact : (con : ℕ) (r : Row) → slice_get table.rows con ≡ Some r → Fact con r
fact zero r e = given 0 _ r e (record { name = refl; owner = refl; fine = record { owned = omega arith; few = omega arith; known = (tt, tt) } })
fact (suc zero) r e = given 1 _ r e (record { name = refl; owner = refl; fine = record { owned = omega arith; few = omega arith; known = (omega arith, (omega arith, tt)) } })
fact (suc (suc con)) r e = absurd cc

type_name : (ty name : ℕ) → slice_get table.types ty ≡ Some name → name ≡ ty
type_name zero name e = cc
type_name (suc ty) name e = absurd cc

inhabited : (ty : ℕ) → ty < 1 → (con : ℕ) × con_at table ty con ≡ Some con
inhabited zero lt = (0, refl)
inhabited (suc ty) lt = absurd (omega arith)

rules : IsTable table
rules = record {
  few = omega arith;
  rows = λ con r e. (fact con r e).fine;
  types_differ = λ i j name a b. omega (arith, type_name i name a, type_name j name b);
  names_differ = λ i j r s a b e. (let f = fact i r a in let g = fact j s b in omega (arith, f.name, g.name, e));
  together = λ i j r s a b le. (let f = fact i r a in let g = fact j s b in omega (arith, f.owner, g.owner));
  inhabited = inhabited;
}

-- The ended parameter.

pub ended_is : ended core ≡ record { function = 0; place = 0 } ∷ []
ended_is = refl

zero_alone : (q : ℕ) → eqb 0 (suc q) ≡ true → ⊥
zero_alone q e = let z : 0 ≡ suc q = eqb-true 0 (suc q) e in absurd (omega (arith, z))

not_other : (q : ℕ) → has_ended (ended core) 0 (suc q) ≡ true → ⊥
not_other q e = zero_alone q (or_none (eqb 0 (suc q)) (subst (λ (es : List Ended). has_ended es 0 (suc q) ≡ true) ended_is e))

told_zero : (f : ℕ → Bool) (q : ℕ) → has_ended (ended core) 0 q ≡ true → finally f (record { tree = 0; field = 3 } ∷ []) q ≡ true
told_zero f zero e = or_right (f 0) true refl
told_zero f (suc q) e = absurd (not_other q e)

-- The core fits.

covers : (c : ℕ) → con_at table 0 c ≡ Some c → has_branch (BranchThen (k 0) (v 1 ∷ []) leaf_arm (BranchThen (k 1) (v 2 ∷ v 3 ∷ []) node_arm NoBranch)) c ≡ true
covers zero e = refl
covers (suc zero) e = refl
covers (suc (suc c)) e = absurd cc

sum_fits : Fits core (body_needs core 0) sum_term.body (body_scope 7 (tree ∷ [])) (dest_of (results.One Whole)) (new_line (within_function core sum_term))
sum_fits = (0, record { variable = v 0; atom = refl; sort = refl }, covers, ((refl, tt), (Whole, refl, refl, refl, (tt, leaf)), ((refl, (refl, tt)), node, tt)))
  where
    leaf : (q : ℕ) → has_ended (ended core) 0 q ≡ true → finally (arm_line core 0 (k 0) (v 1 ∷ []) leaf_arm (new_line (within_function core sum_term))).told [] q ≡ true
    leaf zero e = refl
    leaf (suc q) e = absurd (not_other q e)

    node : Fits core (body_needs core 0) node_arm (arm_scope 0 1 1 None (tree ∷ tree ∷ []) (v 2 ∷ v 3 ∷ []) (put (body_scope 7 (tree ∷ [])) 0 (AtHead 0))) (dest_of (results.One Whole)) (arm_line core 0 (k 1) (v 2 ∷ v 3 ∷ []) node_arm (new_line (within_function core sum_term)))
    node = (
      refl,
      refl,
      record { function = sum_term; named = refl; result = refl; arguments = (refl, tt) },
      (
        0,
        0,
        1,
        1,
        0,
        refl,
        refl,
        (
          refl,
          refl,
          record { function = sum_term; named = refl; result = refl; arguments = (refl, tt) },
          (refl, refl, refl, (Whole, refl, refl, refl, ((refl, tt), told_zero _))),
        ),
        refl,
      ),
    )

pub sum_all_fits : AllFit core
sum_all_fits = record { table = rules; functions = each; main = record { fits = main } }
  where
    found : (g : FunctionTerm) → ◌≡◌ {A = Option FunctionTerm} (Some sum_term) (Some g) → FunctionFits core 0 g (length g.parameters + length (binders g.body))
    found g e = let same : sum_term ≡ g = cc in
        subst (λ (h : FunctionTerm). FunctionFits core 0 h (length h.parameters + length (binders h.body))) same (record { fits = sum_fits; enough = omega arith })

    by_name : (g : FunctionTerm) (f : ℕ) (b : Bool) → eqb 0 f ≡ b → cond b (Some sum_term) None ≡ Some g → FunctionFits core f g (length g.parameters + length (binders g.body))
    by_name g f true h e = subst (λ (n : ℕ). FunctionFits core n g (length g.parameters + length (binders g.body))) (eqb-true 0 f h) (found g e)
    by_name g f false h e = absurd (none-some _ e)

    each : (g : FunctionTerm) (f : ℕ) → function_at core.functions f ≡ Some g → FunctionFits core f g (length g.parameters + length (binders g.body))
    each g f e = by_name g f (eqb 0 f) refl e

    main : Fits core (AtEnd none_of) core.main.body (body_scope 2 (tree ∷ [])) (dest_of (results.One Whole)) (new_line (within_main core))
    main = (refl, refl, record { function = sum_term; named = refl; result = refl; arguments = (refl, tt) }, (Whole, refl, refl, refl, (tt, λ q e. absurd (false≢true e))))

-- Its code.

pub sum_lowered : IsLowered core code
sum_lowered = record {
  laid = refl;
  functions = low.function refl refl refl refl
      (low.case {arms = record { constructor = 0; label = 1 } ∷ record { constructor = 1; label = 4 } ∷ []} refl
      (low.arm (one_more refl none) (low.leaf refl refl refl) (low.give (one_more refl none))
      (low.arm (one_more refl none) (low.no_leaf (λ a b. absurd cc))
      (low.binding (low.one (low.scalar_call (one_more refl (one_more refl none)))) (low.binding (low.reach refl) (low.binding (low.one (low.scalar_call (one_more refl (one_more refl none)))) (low.binding (low.prim refl) (low.give (one_more refl (one_more refl none)))))))
      low.no_arm)))
      (low.main refl refl refl refl (low.binding (low.one (low.scalar_call (one_more refl (one_more refl none)))) (low.give (one_more refl none))));
}

-- Its runs.

abbrev once : Weave
once = steps code 0 23 (start 0)

abbrev pub once_end : Weave
once_end = record { memory = once.memory; tasks = ended_task (answer.Whole (pos 3)) ∷ [] }

pub once_is_legal : Legal code (start 0) (journal 23) once_end
once_is_legal =
    steps_are code 0 23 (start 0) once_end (Finish 0 ∷ []) refl
    (more {w' = once_end} (ev.finishes {i = 0} {a = answer.Whole (pos 3)} (on refl refl) refl) over)

-- the whole tree's end came back to main
pub once_told : end_at (task (steps code 0 22 (start 0)).tasks 0).state.words 0 ≡ 19
once_told = refl

abbrev twice : Weave
twice = steps code 0 59 (start 19)

abbrev pub twice_end : Weave
twice_end = record { memory = twice.memory; tasks = ended_task (answer.Whole (pos 6)) ∷ [] }

pub twice_is_legal : Legal code (start 19) (journal 59) twice_end
twice_is_legal =
    steps_are code 0 59 (start 19) twice_end (Finish 0 ∷ []) refl
    (more {w' = twice_end} (ev.finishes {i = 0} {a = answer.Whole (pos 6)} (on refl refl) refl) over)

-- a field that is an indirection ends behind it
pub twice_told : end_at (task (steps code 0 58 (start 19)).tasks 0).state.words 0 ≡ 38
twice_told = refl
