-- The example is lowered, and fits.
use Rattle.std.proofs.Common.{◌≡◌, ℕ, zero, suc, true, [], ◌∷◌, Some, None, pos, FitsSigned, refl, arith}
use Rattle.gib_types.specs.Table.{con_at}
use Rattle.gib_packed.specs.Example.{table}
use Rattle.gib_packed.proofs.Examples.{rules}
use Rattle.gib_core.specs.Tree.{var}
use Rattle.gib_code.specs.Program.{none, one_more}
use Rattle.gib_core.specs.Low as low
use Rattle.gib_core.specs.Low.{IsLowered, Low, Returns}
use Rattle.gib_core.specs.Ending.{within_main}
use Rattle.gib_syntax.specs.Results as results
use Rattle.gib_core.specs.Fits.{AtEnd, Line, new_line, arm_line, none_of, put, AtHead, Empty, Fits, AllFit, AreNew, arm_scope, has_branch, body_scope, dest_of, IsTree}
use Rattle.gib_types.specs.declared.table.Ty.TheVariants.{Whole, Truth}
use Rattle.std.specs.Int.{w64}
use Rattle.std.proofs.lemmas.Option.{none-some}
use Rattle.std.proofs.lemmas.Bool.{false≢true}
use Rattle.gib_weave.specs.Example.{core, code, body, nil_arm, cons_arm, node_arm, tree, v, k}

covers : (j : ℕ) → con_at table 0 j ≡ Some j → has_branch (Rattle.gib_core.specs.Tree.BranchThen (k 0) [] nil_arm (Rattle.gib_core.specs.Tree.BranchThen (k 1) (v 2 ∷ v 3 ∷ []) cons_arm (Rattle.gib_core.specs.Tree.BranchThen (k 2) (v 7 ∷ v 8 ∷ v 9 ∷ v 10 ∷ []) node_arm Rattle.gib_core.specs.Tree.NoBranch))) j ≡ true
covers zero e = refl
covers (suc zero) e = refl
covers (suc (suc zero)) e = refl
covers (suc (suc (suc j))) e = absurd cc

one_fits : FitsSigned w64 (pos 1)
one_fits = omega arith

abbrev is_tree : IsTree (body_scope 14 (tree ∷ [])) (var 0) 0
is_tree = record { variable = v 0; atom = refl; sort = refl }

abbrev main_new : Line
main_new = new_line (within_main core)

body_fits : Fits core (AtEnd none_of) body (body_scope 14 (tree ∷ [])) (dest_of (results.One tree)) main_new
body_fits = (0, is_tree, covers, (tt, nil_fits, (cons_new, cons_fits, (node_new, node_fits, tt))))
  where
    nil_fits : Fits core (AtEnd none_of) nil_arm (arm_scope 0 0 1 None [] [] (put (body_scope 14 (tree ∷ [])) 0 (AtHead 0))) (Empty 0) (arm_line core 0 (k 0) [] nil_arm main_new)
    nil_fits = (0, refl, refl, refl, (0, [], refl, refl, tt, tt, (tt, λ q e. absurd (false≢true e))))

    cons_new : AreNew (put (body_scope 14 (tree ∷ [])) 0 (AtHead 0)) (Whole ∷ tree ∷ []) (v 2 ∷ v 3 ∷ [])
    cons_new = (refl, (refl, tt))

    cons_fits : Fits core (AtEnd none_of) cons_arm (arm_scope 0 1 1 None (Whole ∷ tree ∷ []) (v 2 ∷ v 3 ∷ []) (put (body_scope 14 (tree ∷ [])) 0 (AtHead 0))) (Empty 0) (arm_line core 0 (k 1) (v 2 ∷ v 3 ∷ []) cons_arm main_new)
    cons_fits = (refl, refl, one_fits, (0, refl, refl, refl, (0, refl, refl, refl, (0, refl, record { variable = v 3; atom = refl; sort = refl }, (λ q e. absurd (false≢true e))), (0, 6 ∷ [], refl, refl, (refl, tt), tt, (tt, λ q e. absurd (false≢true e))))))

    node_new : AreNew (put (body_scope 14 (tree ∷ [])) 0 (AtHead 0)) (Truth ∷ tree ∷ Whole ∷ tree ∷ []) (v 7 ∷ v 8 ∷ v 9 ∷ v 10 ∷ [])
    node_new = (refl, (refl, (refl, (refl, tt))))

    node_fits : Fits core (AtEnd none_of) node_arm (arm_scope 0 2 1 None (Truth ∷ tree ∷ Whole ∷ tree ∷ []) (v 7 ∷ v 8 ∷ v 9 ∷ v 10 ∷ []) (put (body_scope 14 (tree ∷ [])) 0 (AtHead 0))) (Empty 0) (arm_line core 0 (k 2) (v 7 ∷ v 8 ∷ v 9 ∷ v 10 ∷ []) node_arm main_new)
    node_fits = (
      0,
      8,
      0,
      2,
      1,
      refl,
      refl,
      (
        0,
        refl,
        refl,
        refl,
        (
          refl,
          (0, refl, refl, (0, refl, record { variable = v 8; atom = refl; sort = refl }, (λ q e. absurd (false≢true e)))),
          (
            0,
            refl,
            refl,
            refl,
            (0, refl, record { variable = v 10; atom = refl; sort = refl }, (λ q e. absurd (false≢true e))),
            (
              0,
              refl,
              refl,
              refl,
              (0, refl, record { variable = v 8; atom = refl; sort = refl }, (λ q e. absurd (false≢true e))),
              (0, 12 ∷ 13 ∷ [], refl, refl, (refl, (refl, tt)), ((0, refl), tt), (tt, λ q e. absurd (false≢true e))),
            ),
          ),
        ),
      ),
    )

pub example_fits : AllFit core
example_fits = record { table = rules; functions = λ g f e. absurd (none-some _ e); main = record { fits = body_fits } }

nil_low : Low core code (within_main core) [] 1 nil_arm (Returns []) 4
nil_low = low.binding (low.past refl) (low.write (one_more refl (one_more refl none)))

pub example_lowered : IsLowered core code
example_lowered = record {
  laid = refl;
  functions = low.main refl refl refl refl (low.case {arms = record { constructor = 0; label = 1 } ∷ record { constructor = 1; label = 4 } ∷ record { constructor = 2; label = 13 } ∷ []} refl
      (low.arm none (low.no_leaf (λ e. absurd (false≢true e))) nil_low
      (low.arm (one_more refl (one_more refl none)) (low.no_leaf (λ e. absurd (false≢true e)))
      (low.binding (low.prim refl) (low.binding (low.past refl) (low.binding (low.one (low.here refl (low.point (one_more refl (one_more refl none))))) (low.write (one_more refl (one_more refl none))))))
      (low.arm (one_more refl (one_more refl (one_more refl none))) (low.no_leaf (λ e. absurd (false≢true e)))
      (low.binding (low.reach refl) (low.binding (low.past refl) (low.binding (low.forked refl (low.here refl (low.point (one_more refl (one_more refl none)))) refl (low.here refl (low.point (one_more refl (one_more refl none)))) refl) (low.write (one_more refl (one_more refl none))))))
      low.no_arm))));
}
