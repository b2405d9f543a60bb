-- The program that is made is typed.
use Rattle.std.proofs.Common.{◌≡◌, ℕ, zero, suc, ◌+◌, ◌≤◌, List, [], ◌∷◌, length, map, refl, sym, subst, arith}
use Rattle.std.specs.Prelude.{Option, Some}
use Rattle.gib_types.specs.declared.table.Ty.{Ty}
use Rattle.gib_types.specs.declared.table.Ty.TheVariants.{Whole}
use Rattle.gib_types.specs.Table.{Table, con_at, name_at}
use Rattle.gib_syntax.specs.declared.tree.Parameter.{Parameter}
use Rattle.gib_syntax.specs.Tree.{FunctionTree, ProgramTree}
use Rattle.gib_syntax.specs.Results.{One}
use Rattle.gib_syntax.specs.Spelling.{Places}
use Rattle.gib_syntax.specs.Declarations.{place_of, table_of_program}
use Rattle.gib_syntax.specs.Typing.{Globals, globals_of, Scope, Has, Covers, IsTypedFunction, IsTypedProgram, expressions, bindings}
use Rattle.gib_gen.specs.NumberTree.{tree_type}
use Rattle.gib_gen.proofs.Program.{work, main_tree, leaf_arm, node_arm, program}

-- A number that is computed to be another one is at most what that one is.
at_most : (n m most : ℕ) → n ≡ m → m ≤ most → n ≤ most
at_most n m most e h = subst (λ (k : ℕ). k ≤ most) (sym e) h

module _ (at : Places) (k : ℕ) where
  abbrev g : Globals
  g = globals_of (program at k)

  -- The parameter `t` is in scope, which both functions have.
  abbrev scope : Scope
  scope = (4, tree_type) ∷ []

  each : (c : ℕ) → con_at g.table 0 c ≡ Some c → (i : ℕ) × (place_of (1 ∷ (2 ∷ [])) (name_at g.table c) ≡ Some i)
  each zero e = (0, refl)
  each (suc zero) e = (1, refl)
  each (suc (suc c)) e = absurd cc

  covered : Covers g.table 0 (1 ∷ (2 ∷ []))
  covered = record { own = ((0, refl, refl), ((1, refl, refl), tt)); each = each; once = (refl, (refl, tt)) }

  leaf_typed : Has g ((5, Whole) ∷ scope) (leaf_arm at k) (One tree_type)
  leaf_typed = (0, refl, refl, ((refl, (refl, (Whole, refl, refl), refl), refl), tt))

  node_typed : Has g ((7, tree_type) ∷ ((6, tree_type) ∷ scope)) (node_arm at) (One tree_type)
  node_typed = (
    tree_type,
    tree_type,
    (work at k, refl, refl, ((tree_type, refl, refl), tt)),
    (work at k, refl, refl, ((tree_type, refl, refl), tt)),
    refl,
    refl,
    (1, refl, refl, ((tree_type, refl, refl), ((tree_type, refl, refl), tt))),
  )

  work_typed : IsTypedFunction g (work at k).parameters (work at k).result (work at k).body
  work_typed = record {
    known = ((tree_type, refl), tt);
    known_result = (tree_type, refl);
    scope = scope;
    bound = (refl, refl);
    typed = (record { 0 = 0 }, refl, covered, ((0, (5, Whole) ∷ scope, refl, (refl, refl), leaf_typed), (1, (7, tree_type) ∷ ((6, tree_type) ∷ scope), refl, (refl, (refl, refl)), node_typed)));
    few_variables = at_most _ 6 200 refl (omega arith);
    few_expressions = at_most _ 15 2000 refl (omega arith);
  }

  main_typed : IsTypedFunction g ((main_tree at).parameter ∷ []) (One (main_tree at).result) (main_tree at).body
  main_typed = record {
    known = ((tree_type, refl), tt);
    known_result = (tree_type, refl);
    scope = scope;
    bound = (refl, refl);
    typed = (work at k, refl, refl, ((tree_type, refl, refl), tt));
    few_variables = at_most _ 1 200 refl (omega arith);
    few_expressions = at_most _ 2 2000 refl (omega arith);
  }

  pub typed : IsTypedProgram (program at k)
  typed = record {
    types_differ = (refl, tt);
    constructors_differ = (refl, (refl, tt));
    few_constructors = at_most _ 2 200 refl (omega arith);
    fields = (((at_most _ 1 8 refl (omega arith), ((Whole, refl), tt)), ((at_most _ 2 8 refl (omega arith), ((tree_type, refl), ((tree_type, refl), tt))), tt)), tt);
    functions_differ = (refl, tt);
    few_functions = at_most _ 1 1000 refl (omega arith);
    functions = (work_typed, tt);
    main = main_typed;
  }
