-- New variables that come into scope one after another.
use Rattle.std.proofs.Common.{◌≡◌, ℕ, ◌+◌, ◌-◌, ◌<◌, ◌≤◌, List, [], ◌∷◌, ◌++◌, length, map, take, drop, get_or, refl, sym, ap, ◌∙◌, subst, arith, append_assoc}
use Rattle.std.proofs.lemmas.List.{append-nil}
use Rattle.gib_syntax.specs.declared.tree.Ident.{Ident}
use Rattle.gib_syntax.specs.declared.tree.Parameter.{Parameter}
use Rattle.gib_core.specs.declared.atom.Variable.{Variable}
use Rattle.gib_core.specs.Tree.{variables_from}
use Rattle.gib_check.proofs.RowLists.{rest-is}
use Rattle.gib_local.specs.declared.builder.Builder.{Builder}
use Rattle.gib_local.specs.Building.{with_variable, with_variables}
use Rattle.gib_local.specs.Builds.{BindsAll, Enters}
use Rattle.gib_local.specs.Bodied.{name_of}

-- A name comes into scope with the next number.
pub bind_is : (old mid new : Builder) (x : Ident) (n : ℕ) → n ≡ old.fresh → mid ≡ record old { fresh = old.fresh + 1 } → new ≡ record mid { variables = with_variable x n mid.variables }
    → new ≡ record old { variables = with_variable x old.fresh old.variables; fresh = old.fresh + 1 }
bind_is old mid new x n en em e =
    e ∙ ap (λ (m : Builder). record m { variables = with_variable x n m.variables }) em ∙ (λ i. record old { fresh = old.fresh + 1; variables = with_variable x (en i) old.variables })

-- Some names are in scope; with those that are left they are all.
abbrev pub EntersSoFar : Builder → Builder → List Ident → List Ident → Type 0
EntersSoFar old now names rest =
    record now { variables = with_variables now.fresh rest now.variables; fresh = now.fresh + length rest } ≡ record old { variables = with_variables old.fresh names old.variables; fresh = old.fresh + length names }

enters_next : (old now new : Builder) (names rest : List Ident) (a : Ident) → EntersSoFar old now names (a ∷ rest) → new ≡ record now { variables = with_variable a now.fresh now.variables; fresh = now.fresh + 1 }
    → EntersSoFar old new names rest
enters_next old now new names rest a h e =
    let count : (now.fresh + 1) + length rest ≡ now.fresh + length (a ∷ rest) = omega arith in
    ap (λ (m : Builder). record m { variables = with_variables m.fresh rest m.variables; fresh = m.fresh + length rest }) e
    ∙ ap (λ n. record now { variables = with_variables (now.fresh + 1) rest (with_variable a now.fresh now.variables); fresh = n }) count
    ∙ h

enters_end : (old now : Builder) (names : List Ident) → EntersSoFar old now names [] → Enters old now names
enters_end old now names h = (let n : now.fresh ≡ now.fresh + 0 = omega arith in ap (λ k. record now { fresh = k }) n) ∙ h

-- ---- names, with their variables

-- Some names are bound; with those that are left they are all.
pub record BindsSoFar (old now : Builder) (names rest : List Ident) (xs : List Variable) : Type 0 where
  pub is : EntersSoFar old now names rest
  pub variables : xs ++ variables_from now.fresh rest ≡ variables_from old.fresh names

pub binds_begin : (old : Builder) (names : List Ident) (xs : List Variable) → xs ≡ [] → BindsSoFar old old names names xs
binds_begin old names xs e = record { is = refl; variables = ap (λ l. l ++ variables_from old.fresh names) e }

pub binds_next : (old now new : Builder) (names rest : List Ident) (e : Ident) (xs ys : List Variable) (x : Variable) → 1 ≤ length rest → BindsSoFar old now names rest xs → x.0 ≡ now.fresh
    → new ≡ record now { variables = with_variable (get_or rest 0 e) now.fresh now.variables; fresh = now.fresh + 1 } → ys ≡ xs ++ x ∷ [] → BindsSoFar old new names (take (length rest - 1) (drop 1 rest)) ys
binds_next old now new names [] e xs ys x le h ex en ey = absurd (omega (arith, le))
binds_next old now new names (a ∷ rest) e xs ys x le h ex en ey =
    let same : x ≡ record { 0 = now.fresh } = (λ i. record { 0 = ex i }) in
    let fresh : new.fresh ≡ now.fresh + 1 = ap (λ (m : Builder). m.fresh) en in
    subst (λ l. BindsSoFar old new names l ys) (sym (rest-is a rest)) (record {
      is = enters_next old now new names rest a h.is en;
      variables =
          ap (λ n. ys ++ variables_from n rest) fresh
          ∙ ap (λ l. l ++ variables_from (now.fresh + 1) rest) (ey ∙ ap (λ (y : Variable). xs ++ y ∷ []) same)
          ∙ append_assoc xs (record { 0 = now.fresh } ∷ []) (variables_from (now.fresh + 1) rest)
          ∙ h.variables;
    })

pub binds_end : (old now : Builder) (names rest : List Ident) (xs : List Variable) → length rest < 1 → BindsSoFar old now names rest xs → BindsAll old now names xs
binds_end old now names [] xs lt h = record { is = enters_end old now names h.is; variables = sym (append-nil xs) ∙ h.variables }
binds_end old now names (a ∷ rest) xs lt h = absurd (omega (arith, lt))

-- ---- parameters

pub parameters_next : (old now new : Builder) (names : List Ident) (rest : List Parameter) (e : Parameter) → 1 ≤ length rest → EntersSoFar old now names (map name_of rest)
    → new ≡ record now { variables = with_variable (name_of (get_or rest 0 e)) now.fresh now.variables; fresh = now.fresh + 1 } → EntersSoFar old new names (map name_of (take (length rest - 1) (drop 1 rest)))
parameters_next old now new names [] e le h en = absurd (omega (arith, le))
parameters_next old now new names (a ∷ rest) e le h en =
    subst (λ l. EntersSoFar old new names (map name_of l)) (sym (rest-is a rest)) (enters_next old now new names (map name_of rest) a.name h en)

pub parameters_end : (old now : Builder) (names : List Ident) (rest : List Parameter) → length rest < 1 → EntersSoFar old now names (map name_of rest) → Enters old now names
parameters_end old now names [] lt h = enters_end old now names h
parameters_end old now names (a ∷ rest) lt h = absurd (omega (arith, lt))
