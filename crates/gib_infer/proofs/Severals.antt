-- Several parts break no rule: tuples, and lines behind what binds names to an expression.
use Rattle.std.proofs.Common.{◌≡◌, ℕ, suc, ◌+◌, ◌<◌, ◌≤◌, true, false, not, ◌&&◌, List, [], ◌∷◌, map, length, None, refl, sym, ap, ◌∙◌, subst, arith}
use Rattle.std.proofs.lemmas.Bool.{eq-eqb, lt-ltb}
use Rattle.gib_types.specs.declared.table.Ty.{Ty}
use Rattle.gib_types.specs.declared.table.Ty.TheVariants.{Whole, Truth, Tree}
use Rattle.gib_types.specs.Table.{scalar_types, tree_types}
use Rattle.gib_syntax.specs.declared.tree.Ident.{Ident}
use Rattle.gib_syntax.specs.Tree.{FunctionTree}
use Rattle.gib_syntax.specs.Results as results
use Rattle.gib_syntax.specs.Results.{Results, as_results}
use Rattle.gib_syntax.specs.Meaning.{is_scalar, at_fields}
use Rattle.gib_syntax.specs.Typing as typing
use Rattle.gib_syntax.specs.Typing.{one_type}
use Rattle.gib_core.specs.declared.atom.Variable.{Variable}
use Rattle.gib_core.specs.declared.atom.Atom.{Atom}
use Rattle.gib_core.specs.Tree.{Tuple, parts_count, One, Both, variables_of, variables_from, CoreTree}
use Rattle.gib_core.specs.Tree as tree
use Rattle.gib_core.specs.Inferring.{Scope, slot, Code, kind_of, with_fields, several, part_lines, tuple_line, Bounded, bound_side, several_line, sides_line, as_atoms, atom_at}
use Rattle.gib_core.specs.Met.{Setting, Destination, Empty, SideLine, SeveralLine, TupleLine, known, with_variables, stands_too, stands_behind, in_side, in_several, in_part, behind, behind_side, left_of, right_of, met, met_bind, met_side, met_parts, result_place}
use Rattle.gib_core.specs.Rules.{Before, type_bound, is_reached, is_in_parts, are_declared, are_parts, are_several, bind_fields, least, rules, next, next_all}
use Rattle.gib_core.specs.Reachable.{as_reached, all_reached}
use Rattle.gib_core.proofs.Along.{next_append, behind_all}
use Rattle.gib_infer.proofs.Fits.{ScopeFits, scope_more, at_fit, fields_within, variables_length}
use Rattle.gib_infer.proofs.Ordered.{parts_long}
use Rattle.gib_infer.proofs.Ready.{CanUseAll, Ready, PlaceFor, Clean, clean_nothing, clean_then, then_all, line_then, ready_behind, LineOk, CodeBuilt, AllBuilt}
use Rattle.gib_infer.proofs.Sides.{AreFrom, AreBefore, ready_left, ready_right, alike_scope, side_clean, side_type, ready_inside, place_inside, whole_inside}
use Rattle.gib_infer.proofs.Rising.{rising_variables, fields_outside, fields_over, none_bound, variables_keep, variables_reach, fields_can}
use Rattle.gib_infer.proofs.Makes.{least_two, least_four, all_apart, all_can, all_have, place_same, same_types-refl, several_fits, several_ok, tree_fields, scalar_fields, built_fields}
use Rattle.gib_infer.proofs.Branching.{names_fields, ready_after}

-- The destination is the same behind one name: it is no field.
kind_stays : (ty : Ty) (x : Variable) (d : Destination) → stands_too (kind_of ty) x d ≡ d
kind_stays Whole x d = refl
kind_stays Truth x d = refl
kind_stays (Tree t) x d = refl

-- Variables from a number on.

from_number : {A : Type 0} (k n : ℕ) (xs : List A) → k ≤ n → AreFrom k (variables_from n xs)
from_number k n [] le = tt
from_number k n (x ∷ xs) le = (le, from_number k (n + 1) xs (omega (arith, le)))

before_number : {A : Type 0} (k n : ℕ) (xs : List A) → n + length xs ≤ k → AreBefore k (variables_from n xs)
before_number k n [] le = tt
before_number k n (x ∷ xs) le = (omega arith, before_number k (n + 1) xs (omega arith))

-- Names of fields or parts come into scope.
entered : (known inner : typing.Scope) (xs : List Ident) (types : List Ty) (n k m : ℕ) (sc : Scope) (s : Setting) (b : Before) → typing.BindsAll known xs types inner → Ready k m known sc s b → n + length xs ≤ k
    → CanUseAll s b (as_atoms (variables_from n xs)) types → Ready k m inner (with_fields xs types n sc) s b
entered known inner xs types n k m sc s b binds ready le can = record {
  names = names_fields xs types known inner sc n s b binds can ready.names;
  fits = fields_within n k xs types sc le ready.fits;
  new = ready.new;
  uncased = ready.uncased;
  apart = ready.apart;
}

module _ (core : CoreTree) (functions : List FunctionTree) where
  abbrev g : typing.Globals
  g = record { table = core.table; functions = functions }

  -- A tuple.

  -- The types of packed parts.
  abbrev AreTrees : List Ty → Type 0
  AreTrees [] = Unit {0}
  AreTrees (t ∷ ts) = (result_place (results.One t) ≡ Empty) × AreTrees ts

  trees_are : (ts : List Ty) → AreTrees (at_fields false ts ts)
  trees_are [] = tt
  trees_are (Whole ∷ ts) = trees_are ts
  trees_are (Truth ∷ ts) = trees_are ts
  trees_are (Tree t ∷ ts) = (refl, trees_are ts)

  built_long : (cs : List Code) (ts : List Ty) (known : typing.Scope) (sc : Scope) → AllBuilt core functions cs ts known sc → length cs ≡ length ts
  built_long [] [] known sc h = refl
  built_long [] (t ∷ ts) known sc h = absurd h
  built_long (c ∷ cs) [] known sc h = absurd h
  built_long (c ∷ cs) (t ∷ ts) known sc h = ap suc (built_long cs ts known sc h.1)

  parts_grow : (cs : List Code) (ts : List Ty) (known : typing.Scope) (sc : Scope) → AllBuilt core functions cs ts known sc → (n : ℕ) → ScopeFits n sc → n ≤ (part_lines cs sc n).fresh
  parts_grow [] [] known sc h n fits = omega arith
  parts_grow [] (t ∷ ts) known sc h n fits = absurd h
  parts_grow (c ∷ cs) [] known sc h n fits = absurd h
  parts_grow (c ∷ cs) (t ∷ ts) known sc h n fits =
      let l = c.line sc n in
      let up = (h.0.order.line n fits).grows in
      let up' = parts_grow cs ts known sc h.1 l.fresh (scope_more n l.fresh sc up fits) in
      omega (arith, up, up')

  -- A part is at a place of its own.
  ready_part : (n m : ℕ) (ty : Ty) (known : typing.Scope) (sc : Scope) (s : Setting) (b : Before) → Ready n m known sc s b → Ready n m known sc (in_part s ty) b
  ready_part n m ty known sc s b ready = record {
    names = λ x t e. (alike_scope n s (in_part s ty) b b refl (λ y lt. refl) (λ y lt. refl)).can (atom_at sc x) t (at_fit n sc x ready.fits) (ready.names x t e);
    fits = ready.fits;
    new = ready.new;
    uncased = ready.uncased;
    apart = ready.apart;
  }

  parts_ok : (cs : List Code) (ts : List Ty) (known : typing.Scope) (sc : Scope) → AreTrees ts → AllBuilt core functions cs ts known sc → (n m : ℕ) (s : Setting) (b : Before) → Ready n m known sc s b
      → (part_lines cs sc n).fresh ≤ m → Clean core n (part_lines cs sc n).fresh b (met_parts core.table s ts (part_lines cs sc n).parts)
  parts_ok [] [] known sc trees h n m s b ready le = clean_nothing core n b
  parts_ok [] (t ∷ ts) known sc trees h n m s b ready le = absurd h
  parts_ok (c ∷ cs) [] known sc trees h n m s b ready le = absurd h
  parts_ok (c ∷ cs) (t ∷ ts) known sc trees h n m s b ready le =
      let l = c.line sc n in
      let up = (h.0.order.line n ready.fits).grows in
      let inside = in_part s t in
      let ps = part_lines cs sc l.fresh in
      let up' = parts_grow cs ts known sc h.1 l.fresh (scope_more n l.fresh sc up ready.fits) in
      let p = h.0.line n m inside b (ready_part n m t known sc s b ready) (omega (arith, up', le)) (record { destination = sym trees.0; due = refl }) in
      let lines = met core.table inside l.term in
      let ready' = ready_after core n l.fresh m known sc s s b lines (λ y e. e) refl ready p.clean up in
      let rest = parts_ok cs ts known sc trees.1 h.1 l.fresh m s (next_all core.table b lines) ready' le in
      let all = clean_then core n l.fresh l.fresh ps.fresh b lines (met_parts core.table s ts ps.parts) p.clean rest up up' in
      record { reachable = (refl, all.reachable); below = all.below; above = all.above; uncased = all.uncased }

  tuple_least : (types : List Ty) (ss : List Atom) (packed : ℕ) (s : Setting) (b : Before) → are_declared core.table types ≡ true → packed ≡ length (tree_types types) → PlaceFor (results.Several types) s
      → CanUseAll s b ss (scalar_types types) → least (rules core b (all_reached s) (TupleLine types ss packed)) ≡ None
  tuple_least types ss packed s b declared count place can =
      let us = scalar_types types in
      let parts : are_parts core.table b s.destination types ss packed ≡ true =
      ap (λ d. are_parts core.table b d types ss packed) place.destination
      ∙ (λ i. same_types-refl core functions types i && (declared i && (all_have s b ss us can i && eq-eqb packed (length (tree_types types)) count i))) in
      least_four 4 8 9 10 (all_apart s b ss us can) (ap not (all_can s b ss us can)) (ap not parts) (ap (λ d. not (is_in_parts d)) place.destination)

  pub tuple_ok : (types : List Ty) (cs : List Code) (known : typing.Scope) (sc : Scope) → are_declared core.table types ≡ true → AllBuilt core functions cs types known sc
      → LineOk core (tuple_line types cs) (results.Several types) known sc
  tuple_ok types cs known sc declared built n m s b ready le place =
      let ts = at_fields true types types in
      let us = at_fields false types types in
      let scalars = built_fields core functions true cs types known sc built in
      let packed = built_fields core functions false cs types known sc built in
      let ss = several (at_fields true types cs) sc n in
      let o = several_fits core functions (at_fields true types cs) ts known sc scalars n ready.fits in
      let up = o.grows in
      let ps = part_lines (at_fields false types cs) sc ss.fresh in
      let up' = parts_grow (at_fields false types cs) us known sc packed ss.fresh (scope_more n ss.fresh sc up ready.fits) in
      let p = several_ok core functions (at_fields true types cs) ts known sc scalars n m s b ready (omega (arith, up', le)) in
      let s1 = behind_all s ss.binds in
      let b1 = then_all core s b ss.binds in
      let ready1 = ready_behind core n ss.fresh m known sc s b ss.binds ready p.runs up in
      let place1 = place_same (results.Several types) s s1 p.runs.destination p.runs.due place in
      let can : CanUseAll s1 b1 ss.atoms (scalar_types types) = subst (CanUseAll s1 b1 ss.atoms) (scalar_fields core functions types) p.can in
      let count : parts_count ps.parts ≡ length (tree_types types) =
      parts_long g (at_fields false types cs) sc ss.fresh ∙ built_long (at_fields false types cs) us known sc packed ∙ ap length (tree_fields core functions types) in
      let q : Clean core ss.fresh ps.fresh b1 (met_parts core.table s1 (tree_types types) ps.parts) =
      subst (λ (zs : List Ty). Clean core ss.fresh ps.fresh b1 (met_parts core.table s1 zs ps.parts)) (tree_fields core functions types)
      (parts_ok (at_fields false types cs) us known sc (trees_are types) packed ss.fresh m s1 b1 ready1 le) in
      let last : Clean core ss.fresh ps.fresh b1 (met core.table s1 (Tuple types ss.atoms ps.parts)) = record {
        reachable = (tuple_least types ss.atoms (parts_count ps.parts) s1 b1 declared count place1 can, q.reachable);
        below = q.below;
        above = q.above;
        uncased = q.uncased;
      } in
      record { clean = line_then core n ss.fresh ps.fresh s b ss.binds (Tuple types ss.atoms ps.parts) p.runs last up up' }

  -- Names that are bound to an expression.

  -- The variables of the side are those of the names, and its names stand before those of a scope.
  record SideShape (xs : List Ident) (n : ℕ) (l : Bounded) : Type 0 where
    up : n + length xs ≤ l.fresh
    variables : variables_of l.side ≡ variables_from n xs
    stays : (d : Destination) → stands_behind l.side d ≡ d

  bound_shape : (xs : List Ident) (types : List Ty) (c : Code) (known : typing.Scope) (sc : Scope) → 1 ≤ length xs → length types ≡ length xs → CodeBuilt core functions c (as_results types) known sc
      → (n : ℕ) → ScopeFits n sc → (outer : Scope) → SideShape xs n (bound_side xs types c sc n outer)
  bound_shape [] types c known sc some long h n fits outer = absurd (omega (arith, some))
  bound_shape (x ∷ []) types c known sc some long h n fits outer =
      let l = c.side sc (n + 1) in
      let up = (h.order.side (n + 1) (scope_more n (n + 1) sc (omega arith) fits)).grows in
      record { up = omega arith; variables = refl; stays = kind_stays l.ty (record { 0 = n }) }
  bound_shape (x ∷ y ∷ xs) types c known sc some long h n fits outer =
      let start = n + length (x ∷ y ∷ xs) in
      record { up = (h.order.line start (scope_more n start sc (omega arith) fits)).grows; variables = refl; stays = λ d. refl }

  bound_scope : (xs : List Ident) (types : List Ty) (c : Code) (known : typing.Scope) (sc : Scope) → length types ≡ length xs → CodeBuilt core functions c (as_results types) known sc
      → (n : ℕ) (outer : Scope) → (bound_side xs types c sc n outer).scope ≡ with_fields xs types n outer
  bound_scope [] types c known sc long h n outer = refl
  bound_scope (x ∷ []) [] c known sc long h n outer = absurd cc
  bound_scope (x ∷ []) (t ∷ []) c known sc long h n outer = (λ i. slot x (tree.var n) (h.side_type (n + 1) i) ∷ outer)
  bound_scope (x ∷ []) (t ∷ u ∷ types) c known sc long h n outer = absurd (omega (arith, long))
  bound_scope (x ∷ y ∷ xs) types c known sc long h n outer = refl

  -- The side breaks no rule, and binds its variables with their types.
  record SideBuilt (xs : List Ident) (types : List Ty) (n : ℕ) (l : Bounded) (s : Setting) (b : Before) : Type 0 where
    clean : Clean core n l.fresh b (met_side core.table s l.side)
    typed : (y : Variable) → n ≤ y.0 → y.0 < n + length xs → type_bound (next_all core.table b (met_side core.table s l.side)).bound y ≡ type_bound (bind_fields (variables_from n xs) types []) y

  -- One name.
  one_built : (x : Ident) (t : Ty) (c : Code) (known : typing.Scope) (sc : Scope) → CodeBuilt core functions c (results.One t) known sc → (n m : ℕ) (s : Setting) (b : Before) (outer : Scope) → Ready n m known sc s b
      → (bound_side (x ∷ []) (t ∷ []) c sc n outer).fresh ≤ m → SideBuilt (x ∷ []) (t ∷ []) n (bound_side (x ∷ []) (t ∷ []) c sc n outer) s b
  one_built x t c known sc h n m s b outer ready le =
      let l = c.side sc (n + 1) in
      let up = (h.order.side (n + 1) (scope_more n (n + 1) sc (omega arith) ready.fits)).grows in
      let of = h.side_type (n + 1) in
      let v : Variable = record { 0 = n } in
      let inside = in_side core.table s (kind_of l.ty) l.ty in
      let head = next core.table b (SideLine (kind_of l.ty) v l.ty) in
      let p = h.side (n + 1) m inside head (ready_inside core n m l.ty known sc s b ready) le (subst (λ (z : Ty). PlaceFor (results.One z) inside) of (place_inside core s l.ty)) (whole_inside core s l.ty ∙ ap is_scalar of) in
      record {
        clean = side_clean core n m l.fresh l.ty l.term known sc s b ready (omega arith) (omega arith) p.clean;
        typed = λ y lo hi. p.clean.below y hi ∙ (λ i. type_bound (bind_fields (v ∷ []) (of i ∷ []) b.bound) y) ∙ fields_over (v ∷ []) (t ∷ []) b.bound [] y (ready.new y lo (omega arith));
      }

  several_least : (xs : List Ident) (types : List Ty) (n m : ℕ) (s : Setting) (b : Before) → 2 ≤ length xs → length xs ≤ 8 → length types ≡ length xs → n + length xs ≤ m
      → ((y : Variable) → n ≤ y.0 → y.0 < m → type_bound b.bound y ≡ None) → least (rules core b (all_reached s) (SeveralLine (variables_from n xs) types)) ≡ None
  several_least xs types n m s b more few long le new =
      let vs = variables_from n xs in
      let count = variables_length n xs in
      let are : are_several vs types ≡ true =
      (λ i. (lt-ltb 1 (length vs) (omega arith) i && lt-ltb (length vs) 9 (omega arith) i) && eq-eqb (length vs) (length types) (count ∙ sym long) i) in
      least_two 8 11 (none_bound n (n + length xs) vs [] b.bound (rising_variables n (n + length xs) xs (omega arith)) (λ y lo hi. new y lo (omega arith)) (λ y lo. refl)) (ap not are)

  -- Inside the term of several variables all is ready, behind them.
  several_inside : (xs : List Ident) (types : List Ty) (n m : ℕ) (known : typing.Scope) (sc : Scope) (s : Setting) (b : Before) → Ready n m known sc s b
      → Ready (n + length xs) m known sc (in_several s types) (next core.table b (SeveralLine (variables_from n xs) types))
  several_inside xs types n m known sc s b ready =
      let start = n + length xs in
      let vs = variables_from n xs in
      let rises = rising_variables n start xs (omega arith) in
      let head = next core.table b (SeveralLine vs types) in
      record {
        names = λ x t e. (alike_scope n s (in_several s types) b head refl (λ y lt. refl) (λ y lt. fields_outside n start vs types b.bound y rises (λ z lo hi f. omega (arith, lt, lo, f)))).can (atom_at sc x) t (at_fit n sc x ready.fits) (ready.names x t e);
        fits = scope_more n start sc (omega arith) ready.fits;
        new = λ y lo hi. fields_outside n start vs types b.bound y rises (λ z low high f. omega (arith, lo, high, f)) ∙ ready.new y (omega arith) hi;
        uncased = λ y lo. ready.uncased y (omega arith);
        apart = λ y lo hi. ready.apart y (omega arith) hi;
      }

  -- Several names.
  many_built : (xs : List Ident) (types : List Ty) (c : Code) (known : typing.Scope) (sc : Scope) → 2 ≤ length xs → length xs ≤ 8 → length types ≡ length xs → CodeBuilt core functions c (results.Several types) known sc
      → (n m : ℕ) (s : Setting) (b : Before) (outer : Scope) → Ready n m known sc s b → (c.line sc (n + length xs)).fresh ≤ m
      → SideBuilt xs types n (record { fresh = (c.line sc (n + length xs)).fresh; side = tree.Several (variables_from n xs) types (c.line sc (n + length xs)).term; scope = with_fields xs types n outer }) s b
  many_built xs types c known sc more few long h n m s b outer ready le =
      let start = n + length xs in
      let vs = variables_from n xs in
      let l = c.line sc start in
      let up = (h.order.line start (scope_more n start sc (omega arith) ready.fits)).grows in
      let rises = rising_variables n start xs (omega arith) in
      let inside = in_several s types in
      let p = h.line start m inside (next core.table b (SeveralLine vs types)) (several_inside xs types n m known sc s b ready) le (record { destination = refl; due = refl }) in
      record {
        clean = record {
          reachable = (several_least xs types n m s b more few long (omega arith) ready.new, p.clean.reachable);
          below = λ y lt. p.clean.below y (omega arith) ∙ fields_outside n start vs types b.bound y rises (λ z lo hi f. omega (arith, lt, lo, f));
          above = λ y le'. p.clean.above y le' ∙ fields_outside n start vs types b.bound y rises (λ z lo hi f. omega (arith, le', hi, f, up));
          uncased = λ y le'. p.clean.uncased y le';
        };
        typed = λ y lo hi. p.clean.below y hi ∙ fields_over vs types b.bound [] y (ready.new y lo (omega arith));
      }

  bound_built : (xs : List Ident) (types : List Ty) (c : Code) (known : typing.Scope) (sc : Scope) → 1 ≤ length xs → length xs ≤ 8 → length types ≡ length xs → CodeBuilt core functions c (as_results types) known sc
      → (n m : ℕ) (s : Setting) (b : Before) (outer : Scope) → Ready n m known sc s b → (bound_side xs types c sc n outer).fresh ≤ m → SideBuilt xs types n (bound_side xs types c sc n outer) s b
  bound_built [] types c known sc some few long h n m s b outer ready le = absurd (omega (arith, some))
  bound_built (x ∷ []) [] c known sc some few long h n m s b outer ready le = absurd cc
  bound_built (x ∷ []) (t ∷ []) c known sc some few long h n m s b outer ready le = one_built x t c known sc h n m s b outer ready le
  bound_built (x ∷ []) (t ∷ u ∷ types) c known sc some few long h n m s b outer ready le = absurd (omega (arith, long))
  bound_built (x ∷ y ∷ xs) [] c known sc some few long h n m s b outer ready le = absurd cc
  bound_built (x ∷ y ∷ xs) (t ∷ []) c known sc some few long h n m s b outer ready le = absurd (omega (arith, long))
  bound_built (x ∷ y ∷ xs) (t ∷ u ∷ types) c known sc some few long h n m s b outer ready le = many_built (x ∷ y ∷ xs) (t ∷ u ∷ types) c known sc (omega arith) few long h n m s b outer ready le

  -- What typing says of names that are bound, and what the code that they are bound to is.
  pub record NamesBound (known inner : typing.Scope) (xs : List Ident) (types : List Ty) (c : Code) (outer : typing.Scope) (sc : Scope) : Type 0 where
    pub some : 1 ≤ length xs
    pub few : length xs ≤ 8
    pub long : length types ≡ length xs
    pub binds : typing.BindsAll known xs types inner
    pub code : CodeBuilt core functions c (as_results types) outer sc

  -- A `let` of several names.
  pub several_line_ok : (xs : List Ident) (types : List Ty) (c d : Code) (given : Results Ty) (outside inner : typing.Scope) (sc : Scope) → NamesBound outside inner xs types c outside sc
      → ((k : ℕ) → CodeBuilt core functions d given inner (with_fields xs types k sc)) → LineOk core (several_line xs types c d.line) given outside sc
  several_line_ok xs types c d given outside inner sc hc hd n m s b ready le place =
      let l = bound_side xs types c sc n sc in
      let shape = bound_shape xs types c outside sc hc.some hc.long hc.code n ready.fits sc in
      let up = shape.up in
      let same = bound_scope xs types c outside sc hc.long hc.code n sc in
      let body : CodeBuilt core functions d given inner l.scope = subst (CodeBuilt core functions d given inner) (sym same) (hd n) in
      let fits : ScopeFits l.fresh l.scope = subst (ScopeFits l.fresh) (sym same) (fields_within n l.fresh xs types sc up (scope_more n l.fresh sc (omega arith) ready.fits)) in
      let r = d.line l.scope l.fresh in
      let up' = (body.order.line l.fresh fits).grows in
      let side = bound_built xs types c outside sc hc.some hc.few hc.long hc.code n m s b sc ready (omega (arith, up', le)) in
      let s1 = behind s (One l.side) in
      let lines = met_side core.table s l.side in
      let b1 = next_all core.table b lines in
      let base = ready_after core n l.fresh m outside sc s s1 b lines (variables_keep (variables_of l.side) s.scope) refl ready side.clean (omega arith) in
      let reach : (y : Variable) → n ≤ y.0 → y.0 < n + length xs → is_reached (known (map as_reached s1.scope) y) ≡ true =
      λ y lo hi. subst (λ (vs : List Variable). is_reached (known (map as_reached (with_variables vs s.scope)) y) ≡ true) (sym shape.variables) (variables_reach xs n s.scope y lo hi) in
      let can = fields_can xs types n s1 b1 [] hc.long reach side.typed (λ y lo hi. ready.apart y lo (omega (arith, hi, up, up', le))) in
      let ready' = entered outside inner xs types n l.fresh m sc s1 b1 hc.binds base up can in
      let place' : PlaceFor given s1 = record { destination = shape.stays s.destination ∙ place.destination; due = place.due } in
      let q = body.line l.fresh m s1 b1 (subst (λ (z : Scope). Ready l.fresh m inner z s1 b1) (sym same) ready') le place' in
      record { clean = clean_then core n l.fresh l.fresh r.fresh b lines (met core.table s1 r.term) side.clean q.clean (omega arith) up' }

  pub several_line_type : (xs : List Ident) (types : List Ty) (c d : Code) (given : Results Ty) (known inner : typing.Scope) (sc : Scope) → NamesBound known inner xs types c known sc
      → ((k : ℕ) → CodeBuilt core functions d given inner (with_fields xs types k sc)) → (n : ℕ) → (several_line xs types c d.line sc n).ty ≡ one_type given
  several_line_type xs types c d given known inner sc hc hd n =
      let l = bound_side xs types c sc n sc in
      let body : CodeBuilt core functions d given inner l.scope = subst (CodeBuilt core functions d given inner) (sym (bound_scope xs types c known sc hc.long hc.code n sc)) (hd n) in
      body.line_type l.fresh

  -- A `let par`, with one name or several on each side.
  both_scope : (xs ys : List Ident) (types other : List Ty) (c d : Code) (known : typing.Scope) (sc : Scope) → length types ≡ length xs → length other ≡ length ys → CodeBuilt core functions c (as_results types) known sc
      → CodeBuilt core functions d (as_results other) known sc → (n k : ℕ) → (bound_side ys other d sc k (bound_side xs types c sc n sc).scope).scope ≡ with_fields ys other k (with_fields xs types n sc)
  both_scope xs ys types other c d known sc long long' hc hd n k =
      bound_scope ys other d known sc long' hd k (bound_side xs types c sc n sc).scope ∙ ap (with_fields ys other k) (bound_scope xs types c known sc long hc n sc)

  pub sides_line_ok : (xs ys : List Ident) (types other : List Ty) (c d e : Code) (given : Results Ty) (outside middle inner : typing.Scope) (sc : Scope) → NamesBound outside middle xs types c outside sc
      → NamesBound middle inner ys other d outside sc → ((j k : ℕ) → CodeBuilt core functions e given inner (with_fields ys other k (with_fields xs types j sc)))
      → LineOk core (sides_line xs types c ys other d e.line) given outside sc
  sides_line_ok xs ys types other c d e given outside middle inner sc hc hd he n m s b ready le place =
      let l = bound_side xs types c sc n sc in
      let left = bound_shape xs types c outside sc hc.some hc.long hc.code n ready.fits sc in
      let up = left.up in
      let k = l.fresh in
      let r = bound_side ys other d sc k l.scope in
      let right = bound_shape ys other d outside sc hd.some hd.long hd.code k (scope_more n k sc (omega arith) ready.fits) l.scope in
      let up' = right.up in
      let j = r.fresh in
      let same = both_scope xs ys types other c d outside sc hc.long hd.long hc.code hd.code n k in
      let body : CodeBuilt core functions e given inner r.scope = subst (CodeBuilt core functions e given inner) (sym same) (he n k) in
      let fits : ScopeFits j r.scope = subst (ScopeFits j) (sym same) (fields_within k j ys other (with_fields xs types n sc) up' (fields_within n j xs types sc (omega arith) (scope_more n j sc (omega arith) ready.fits))) in
      let t = e.line r.scope j in
      let up'' = (body.order.line j fits).grows in
      let some = hc.some in
      let sl = left_of s r.side in
      let ready_l = ready_left n m k outside sc s b r.side (subst (AreFrom k) (sym right.variables) (from_number k k ys (omega arith))) ready (omega arith) (omega (arith, up', up'', le)) in
      let p = bound_built xs types c outside sc hc.some hc.few hc.long hc.code n k sl b sc ready_l (omega arith) in
      let lines = met_side core.table sl l.side in
      let b1 = next_all core.table b lines in
      let sr = right_of s l.side in
      let ready_r = ready_right n m k outside sc s b b1 l.side (subst (AreFrom n) (sym left.variables) (from_number n n xs (omega arith))) (subst (AreBefore k) (sym left.variables) (before_number k n xs up)) ready (omega arith)
      p.clean.below p.clean.above p.clean.uncased in
      let q = bound_built ys other d outside sc hd.some hd.few hd.long hd.code k m sr b1 l.scope ready_r (omega (arith, up'', le)) in
      let more = met_side core.table sr r.side in
      let both = clean_then core n k k j b lines more p.clean q.clean (omega arith) (omega arith) in
      let bind = Both false l.side r.side in
      let all = met_bind core.table s bind in
      let clean : Clean core n j b all = record { reachable = (refl, both.reachable); below = both.below; above = both.above; uncased = both.uncased } in
      let s1 = behind_side s l.side in
      let s2 = behind s bind in
      let b2 = next_all core.table b all in
      let last = next_append core.table b lines more in
      let base = ready_after core n j m outside sc s s2 b all (λ y f. variables_keep (variables_of r.side) s1.scope y (variables_keep (variables_of l.side) s.scope y f)) refl ready clean (omega arith) in
      let reach : (y : Variable) → n ≤ y.0 → y.0 < n + length xs → is_reached (known (map as_reached s1.scope) y) ≡ true =
      λ y lo hi. subst (λ (vs : List Variable). is_reached (known (map as_reached (with_variables vs s.scope)) y) ≡ true) (sym left.variables) (variables_reach xs n s.scope y lo hi) in
      let reach' : (y : Variable) → k ≤ y.0 → y.0 < k + length ys → is_reached (known (map as_reached s2.scope) y) ≡ true =
      λ y lo hi. subst (λ (vs : List Variable). is_reached (known (map as_reached (with_variables vs s1.scope)) y) ≡ true) (sym right.variables) (variables_reach ys k s1.scope y lo hi) in
      let can = fields_can xs types n s2 b2 [] hc.long (λ y lo hi. variables_keep (variables_of r.side) s1.scope y (reach y lo hi))
      (λ y lo hi. ap (λ (z : Before). type_bound z.bound y) last ∙ q.clean.below y (omega (arith, hi, up)) ∙ p.typed y lo hi) (λ y lo hi. ready.apart y lo (omega (arith, hi, up, up', up'', le))) in
      let can' = fields_can ys other k s2 b2 [] hd.long reach' (λ y lo hi. ap (λ (z : Before). type_bound z.bound y) last ∙ q.typed y lo hi)
      (λ y lo hi. ready.apart y (omega (arith, lo, up)) (omega (arith, hi, up', up'', le))) in
      let ready1 = entered outside middle xs types n j m sc s2 b2 hc.binds base (omega arith) can in
      let ready2 = entered middle inner ys other k j m (with_fields xs types n sc) s2 b2 hd.binds ready1 up' can' in
      let place' : PlaceFor given s2 = record { destination = right.stays s1.destination ∙ left.stays s.destination ∙ place.destination; due = place.due } in
      let rest = body.line j m s2 b2 (subst (λ (z : Scope). Ready j m inner z s2 b2) (sym same) ready2) le place' in
      record { clean = clean_then core n j j t.fresh b all (met core.table s2 t.term) clean rest.clean (omega arith) up'' }

  pub sides_line_type : (xs ys : List Ident) (types other : List Ty) (c d e : Code) (given : Results Ty) (known middle inner : typing.Scope) (sc : Scope) → NamesBound known middle xs types c known sc
      → NamesBound middle inner ys other d known sc → ((j k : ℕ) → CodeBuilt core functions e given inner (with_fields ys other k (with_fields xs types j sc)))
      → (n : ℕ) → (sides_line xs types c ys other d e.line sc n).ty ≡ one_type given
  sides_line_type xs ys types other c d e given known middle inner sc hc hd he n =
      let l = bound_side xs types c sc n sc in
      let r = bound_side ys other d sc l.fresh l.scope in
      let same = both_scope xs ys types other c d known sc hc.long hd.long hc.code hd.code n l.fresh in
      let body : CodeBuilt core functions e given inner r.scope = subst (CodeBuilt core functions e given inner) (sym same) (he n l.fresh) in
      body.line_type r.fresh
