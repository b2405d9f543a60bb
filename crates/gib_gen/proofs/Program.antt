-- The program that is made: its tree, with the places of its tokens.
use Rattle.std.proofs.Common.{◌≡◌, ℕ, ◌<◌, ◌≤◌, ◌^◌, ◌∙◌, List, [], ◌∷◌, ◌++◌, map, refl, sym, ap, subst, arith, append_assoc}
use Rattle.std.specs.Prelude.{codes}
use Rattle.std.specs.Fmt.{decimal}
use Rattle.std.specs.List.{AllByRecursion}
use Rattle.std.proofs.lemmas.Fmt.{decimal_digit}
use Rattle.gib_base.specs.declared.token.Dialect.TheVariants as dialect
use Rattle.gib_base.specs.declared.token.Piece.TheVariants as kinds
use Rattle.gib_base.specs.Spelling.{tokens_text}
use Rattle.gib_base.specs.Printing.{IsNameOf, IsWritable, names_used, renumbered}
use Rattle.gib_syntax.specs.declared.tree.Ident.{Ident}
use Rattle.gib_syntax.specs.declared.tree.TypeName.TheVariants as ty
use Rattle.gib_types.specs.declared.operator.Operator.TheVariants as o
use Rattle.gib_syntax.specs.Tree.{Expression, Var, Num, Op, Call, Make, Par, Case, NoArgument, Argument, LastArm, NextArm, DataTree, FunctionTree, MainTree, ProgramTree}
use Rattle.gib_syntax.specs.Plain.{generic_of}
use Rattle.gib_syntax.specs.Results.{One}
use Rattle.gib_syntax.specs.GenericFine.{IsGenericFineProgram}
use Rattle.gib_syntax.specs.Spelling.{Places, spell_program, IsPlacedProgram, levels_program}
use Rattle.gib_gen.specs.Made.{front, source_text}

-- The names in the order of first use.
abbrev pub names : List (List ℕ)
names = codes "Tree" ∷ codes "Leaf" ∷ codes "Node" ∷ codes "work" ∷ codes "t" ∷ codes "n" ∷ codes "l" ∷ codes "r" ∷ codes "a" ∷ codes "b" ∷ []

-- A name at the token from which so many are left.
abbrev name_at : Places → ℕ → ℕ → Ident
name_at at number left = record { name = record { 0 = number }; span = at left }

abbrev data_tree : Places → DataTree
data_tree at =
    let x = name_at at in
    record { name = x 0 70; constructors = record { name = x 1 68; fields = ty.Whole (at 67) ∷ [] } ∷ record { name = x 2 65; fields = ty.Declared (x 0 64) ∷ ty.Declared (x 0 63) ∷ [] } ∷ [] }

abbrev pub leaf_arm : Places → ℕ → Expression
leaf_arm at k =
    let x = name_at at in
    Make (x 1 44) (Argument (Op (at 43) o.Add (Op (at 42) o.Multiply (Var (x 5 41)) (Num (at 39) 3)) (Num (at 36) k)) NoArgument)

abbrev pub node_arm : Places → Expression
node_arm at =
    let x = name_at at in
    Par (at 29) (x 8 27) (Call (x 3 25) (Argument (Var (x 6 24)) NoArgument)) (x 9 22) (Call (x 3 20) (Argument (Var (x 7 19)) NoArgument))
    (Make (x 2 17) (Argument (Var (x 8 16)) (Argument (Var (x 9 15)) NoArgument)))

abbrev pub work : Places → ℕ → FunctionTree
work at k =
    let x = name_at at in
    record {
      name = x 3 60;
      parameters = record { name = x 4 58; ty = ty.Declared (x 0 56) } ∷ [];
      result = One (ty.Declared (x 0 53));
      body = Case (at 51) (x 4 50) (NextArm (x 1 47) (x 5 46 ∷ []) (leaf_arm at k) (LastArm (x 2 33) (x 6 32 ∷ x 7 31 ∷ []) (node_arm at)));
    }

abbrev pub main_tree : Places → MainTree
main_tree at =
    let x = name_at at in
    record { parameter = record { name = x 4 10; ty = ty.Declared (x 0 8) }; result = ty.Declared (x 0 5); body = Call (x 3 3) (Argument (Var (x 4 2)) NoArgument) }

abbrev pub program : Places → ℕ → ProgramTree
program at k = record { datas = data_tree at ∷ []; functions = work at k ∷ []; main = main_tree at }

pub placed : (at : Places) (k : ℕ) → IsPlacedProgram at (generic_of (program at k))
placed at k = record {
  datas = ((refl, tt, ((refl, (refl, tt)), ((refl, ((refl, refl), ((refl, refl), tt))), tt))), tt);
  functions = (
    (
      refl,
      tt,
      ((refl, (refl, refl)), tt),
      (
        (refl, refl),
        (
          refl,
          refl,
          (
            refl,
            (refl, tt),
            (refl, tt, ((refl, (refl, refl, refl), refl), tt)),
            (refl, (refl, (refl, tt)), (refl, refl, (refl, tt, (refl, tt)), refl, (refl, tt, (refl, tt)), (refl, tt, (refl, (refl, tt))))),
          ),
        ),
      ),
    ),
    tt,
  );
  main = ((refl, (refl, refl)), ((refl, refl), (refl, tt, (refl, tt))));
}

three : 3 < 2 ^ 63
three = omega arith

pub fine : (at : Places) (k : ℕ) → k < 2 ^ 63 → IsGenericFineProgram (generic_of (program at k))
fine at k h = record {
  datas = ((λ e. absurd cc), tt);
  functions = (((λ e. absurd cc), ((((tt, three, refl, refl), h, refl, refl), refl, tt), ((λ e. absurd cc), (λ e. absurd cc), (tt, refl, tt), (tt, refl, tt), (tt, refl, (tt, refl, tt)))), tt), tt);
  main = (tt, refl, tt);
}

pub shallow : (at : Places) (k : ℕ) → levels_program (generic_of (program at k)) ≤ 200
shallow at k =
    let five : levels_program (generic_of (program at k)) ≡ 5 = refl in
    subst (λ (n : ℕ). n ≤ 200) (sym five) (omega arith)

a_Tree : IsNameOf dialect.Source names kinds.Constructor 0
a_Tree = record { text = codes "Tree"; held = refl; whole = refl; is_so = refl }

a_Leaf : IsNameOf dialect.Source names kinds.Constructor 1
a_Leaf = record { text = codes "Leaf"; held = refl; whole = refl; is_so = refl }

a_Node : IsNameOf dialect.Source names kinds.Constructor 2
a_Node = record { text = codes "Node"; held = refl; whole = refl; is_so = refl }

v_work : IsNameOf dialect.Source names kinds.Variable 3
v_work = record { text = codes "work"; held = refl; whole = refl; is_so = refl }

v_t : IsNameOf dialect.Source names kinds.Variable 4
v_t = record { text = codes "t"; held = refl; whole = refl; is_so = refl }

v_n : IsNameOf dialect.Source names kinds.Variable 5
v_n = record { text = codes "n"; held = refl; whole = refl; is_so = refl }

v_l : IsNameOf dialect.Source names kinds.Variable 6
v_l = record { text = codes "l"; held = refl; whole = refl; is_so = refl }

v_r : IsNameOf dialect.Source names kinds.Variable 7
v_r = record { text = codes "r"; held = refl; whole = refl; is_so = refl }

v_a : IsNameOf dialect.Source names kinds.Variable 8
v_a = record { text = codes "a"; held = refl; whole = refl; is_so = refl }

v_b : IsNameOf dialect.Source names kinds.Variable 9
v_b = record { text = codes "b"; held = refl; whole = refl; is_so = refl }

pub writable : (at : Places) (k : ℕ) → k < 2 ^ 63 → AllByRecursion (IsWritable names) (spell_program (generic_of (program at k)) [])
writable at k h = (refl, (a_Tree, (refl, (a_Leaf, (refl, (refl, (a_Node, (a_Tree, (a_Tree, (refl, (refl, (v_work, (refl, (v_t, (refl, (a_Tree, (refl, (refl, (a_Tree, (refl, (refl, (v_t, (refl, (refl, (a_Leaf, (v_n, (refl, (a_Leaf, (refl, (refl, (v_n, (refl, (three, (refl, (refl, (h, (refl, (refl, (a_Node, (v_l, (v_r, (refl, (refl, (refl, (v_a, (refl, (v_work, (v_l, (refl, (v_b, (refl, (v_work, (v_r, (refl, (a_Node, (v_a, (v_b, (refl, (refl, (refl, (refl, (v_t, (refl, (a_Tree, (refl, (refl, (a_Tree, (refl, (v_work, (v_t, (refl, tt)))))))))))))))))))))))))))))))))))))))))))))))))))))))))))))))))))))))

pub used : (at : Places) (k : ℕ) → names_used names (spell_program (generic_of (program at k)) []) ≡ names
used at k = refl

pub same : (at : Places) (k : ℕ) → map (renumbered names names) (spell_program (generic_of (program at k)) []) ≡ spell_program (generic_of (program at k)) []
same at k = refl

abbrev short_front : List ℕ
short_front = codes "data Tree = Leaf Int | Node Tree Tree ; fun work ( t : Tree ) : Tree = case t of { Leaf n -> Leaf ( ( n * "

abbrev short_back : List ℕ
short_back = codes " ) ; Node l r -> let par a = work l and b = work r in Node a b } ; main ( t : Tree ) : Tree = work t ;"

pub printed : (at : Places) (k : ℕ) → tokens_text names (spell_program (generic_of (program at k)) []) ++ 10 ∷ [] ≡ source_text k
printed at k =
    let written : tokens_text names (spell_program (generic_of (program at k)) []) ≡ short_front ++ (decimal 3 ++ (codes " ) + " ++ (decimal k ++ short_back))) = refl in
    let three : short_front ++ (decimal 3 ++ (codes " ) + " ++ (decimal k ++ short_back))) ≡ front ++ (decimal k ++ short_back) =
    ap (λ (l : List ℕ). short_front ++ (l ++ (codes " ) + " ++ (decimal k ++ short_back)))) (decimal_digit 3 (omega arith)) in
    ap (λ (l : List ℕ). l ++ 10 ∷ []) (written ∙ three)
    ∙ append_assoc front (decimal k ++ short_back) (10 ∷ []) ∙ ap (λ (l : List ℕ). front ++ l) (append_assoc (decimal k) short_back (10 ∷ []))
