-- The values of a program without type parameters are those of its copy.
use Rattle.std.proofs.Common.{◌≡◌, ℕ, zero, suc, ◌<◌, List, [], ◌∷◌, ◌++◌, map, length, Some, refl, sym, ap, ap₂, ◌∙◌, subst, arith}
use Rattle.std.specs.Prelude.{slice_get}
use Rattle.std.specs.List.{AllByRecursion}
use Rattle.std.proofs.lemmas.List.{map-append, length-map}
use Rattle.gib_types.specs.declared.table.Ty.{Ty}
use Rattle.gib_types.specs.declared.table.Ty.TheVariants.{Whole, Truth, Tree}
use Rattle.gib_types.specs.Table.{Row, Table, fields_at, if_owned}
use Rattle.gib_types.specs.Tree.{Datum, whole, truth, con, Data, none, more, HasType, HaveTypes}
use Rattle.gib_syntax.specs.declared.tree.Ident.{Ident}
use Rattle.gib_syntax.specs.Declarations.{AreDifferent, number_of, place_of, table_of_program, input_type, output_type, type_names}
use Rattle.gib_syntax.specs.Meaning.{Outcome, Gives, Stops, run, OutcomeHas}
use Rattle.gib_syntax.specs.Tree.{DataTree, FunctionTree, ProgramTree}
use Rattle.gib_syntax.specs.Fine.{IsFineProgram}
use Rattle.gib_syntax.specs.Typing.{IsTypedProgram}
use Rattle.gib_syntax.specs.Plain.{generic_data, generic_function, generic_of}
use Rattle.gib_syntax.proofs.Soundness.{place_found, run_has}
use Rattle.gib_syntax.specs.Forms.{NoForm}
use Rattle.gib_syntax.specs.GenericFine.{IsGenericFineProgram}
use Rattle.gib_syntax.specs.GenericMeaning.{run_generic}
use Rattle.gib_syntax.specs.GenericTree.{GenericConstructorTree, GenericDataTree, GenericFunctionTree, GenericProgramTree, GenericRow, row_of, rows_of, place_named}
use Rattle.gib_syntax.specs.GenericTyping.{IsTypedGeneric}
use Rattle.gib_mono.specs.Bare.{IsPlainData, IsPlainFunction, IsPlainProgram, bare_program}
use Rattle.gib_mono.specs.Copied.{Item, shown, shown_all, shown_outcome}
use Rattle.gib_mono.specs.Copying.{Naming, IsPlainNaming}
use Rattle.gib_mono.specs.Walk.{DataCopy, datas_in, plain_data, plain_datas, plain_function, plain_functions, plain_copies, copied_program, Made, made_of, made_from, or_zero, base_at, base_of}
use Rattle.gib_mono.proofs.Bared.{bare_copy}
use Rattle.gib_mono.proofs.Here.{map_found}
use Rattle.gib_mono.proofs.OwnMeaning.{same_names}
use Rattle.gib_mono.proofs.Tables.{made_row, rows_made}
use Rattle.gib_mono.proofs.Theorem.{copied_fine, copied_runs, copied_typed}
use Rattle.gib_mono.proofs.Whole.{IsSet}

own_copy : GenericDataTree → DataCopy
own_copy d = record { decl = d; types = NoForm }

datas_own : (ds : List GenericDataTree) (fs : List GenericFunctionTree) → AllByRecursion IsPlainData ds → AllByRecursion IsPlainFunction fs → datas_in (plain_datas ds ++ plain_functions fs) ≡ map own_copy ds
unfolding own_copy
datas_own [] [] h k = refl
datas_own [] (f ∷ fs) h k = subst (λ (vs : List Ident). datas_in (plain_function f vs (plain_functions fs)) ≡ []) (sym k.0) (datas_own [] fs h k.1)
datas_own (d ∷ ds) fs h k = subst (λ (vs : List Ident). datas_in (plain_data d vs (plain_datas ds) ++ plain_functions fs) ≡ map own_copy (d ∷ ds)) (sym h.0) (ap (λ (cs : List DataCopy). own_copy d ∷ cs) (datas_own ds fs h.1 k))

abbrev made_name : Made → ℕ
made_name m = number_of m.constructor.name

abbrev row_number : GenericRow → ℕ
row_number r = r.name

names_one : (n : ℕ) (c : DataCopy) (d : GenericDataTree) (ks : List GenericConstructorTree) → map made_name (map (made_of n c) ks) ≡ map row_number (map (row_of d) ks)
names_one n c d [] = refl
names_one n c d (k ∷ ks) = ap (λ l. number_of k.name ∷ l) (names_one n c d ks)

names_same : (n : ℕ) (ds : List GenericDataTree) → map made_name (made_from n (map own_copy ds)) ≡ map row_number (rows_of ds)
unfolding own_copy
names_same n [] = refl
names_same n (d ∷ ds) =
    map-append made_name (map (made_of n (own_copy d)) d.constructors) (made_from (suc n) (map own_copy ds))
    ∙ ap₂ (λ (a b : List ℕ). a ++ b) (names_one n (own_copy d) d d.constructors) (names_same (suc n) ds)
    ∙ sym (map-append row_number (map (row_of d) d.constructors) (rows_of ds))

there : (xs : List ℕ) (i : ℕ) → i < length xs → (x : ℕ) × (slice_get xs i ≡ Some x)
there [] i l = absurd (omega (arith, l))
there (x ∷ xs) zero l = (x, refl)
there (x ∷ xs) (suc i) l = there xs i (omega (arith, l))

-- Each constructor of the copy has the number of its own.
number_alone : (p : GenericProgramTree) (d : ℕ) → AreDifferent (map row_number (rows_of p.datas)) → AllByRecursion IsPlainData p.datas → AllByRecursion IsPlainFunction p.functions → d < length (rows_of p.datas) → base_of (rows_of p.datas) (plain_copies p) d ≡ d
number_alone p d differ datas functions l =
    let names = map row_number (rows_of p.datas) in
    let same : map made_name (made_from 0 (datas_in (plain_copies p))) ≡ names = ap (λ cs. map made_name (made_from 0 cs)) (datas_own p.datas p.functions datas functions) ∙ names_same 0 p.datas in
    let e = length-map (rows_of p.datas) row_number in
    let x = there names d (omega (arith, l, e)) in
    let m = map_found Made ℕ made_name (made_from 0 (datas_in (plain_copies p))) d x.0 (ap (λ ns. slice_get ns d) same ∙ x.1) in
    let placed : place_of names x.0 ≡ Some d = place_found names x.0 d differ x.1 in
    ap (base_at (rows_of p.datas)) m.1 ∙ ap (λ n. or_zero (place_named (rows_of p.datas) n)) (sym m.2) ∙ ap or_zero placed

pub number_own : (p : GenericProgramTree) (d : ℕ) → IsTypedGeneric p → IsPlainProgram p → d < length (rows_of p.datas) → base_of (rows_of p.datas) (plain_copies p) d ≡ d
number_own p d typed plain l = number_alone p d typed.constructors_differ plain.datas plain.functions l

-- Values

below_rows : (rows : List Row) (t k : ℕ) → if_owned t k (slice_get rows k) ≡ Some k → k < length rows
below_rows rows t k e = by rows k e where
  by : (rows : List Row) (j : ℕ) → if_owned t k (slice_get rows j) ≡ Some k → j < length rows
  by [] j e = absurd cc
  by (r ∷ rows) zero e = omega arith
  by (r ∷ rows) (suc j) e = step (by rows j e) where
    step : j < length rows → suc j < suc (length rows)
    step l = omega (arith, l)

mutual
  value_own : (table : Table) (base : ℕ → ℕ) → ((k : ℕ) → k < length table.rows → base k ≡ k) → (v : Datum) (t : Ty) → HasType table v t → shown base v ≡ v
  value_own table base own (whole z) t h = refl
  value_own table base own (truth b) t h = refl
  value_own table base own (con k vs) Whole h = absurd h
  value_own table base own (con k vs) Truth h = absurd h
  value_own table base own (con k vs) (Tree t) h = ap₂ con (own k (below_rows table.rows t.0 k h.0)) (values_own table base own vs (fields_at table k) h.1)

  values_own : (table : Table) (base : ℕ → ℕ) → ((k : ℕ) → k < length table.rows → base k ≡ k) → (vs : Data) (ts : List Ty) → HaveTypes table vs ts → shown_all base vs ≡ vs
  values_own table base own none ts h = refl
  values_own table base own (more v vs) [] h = absurd h
  values_own table base own (more v vs) (t ∷ ts) h = ap₂ more (value_own table base own v t h.0) (values_own table base own vs ts h.1)

rows_many : (p : GenericProgramTree) (nm : Naming) → IsPlainNaming nm → IsTypedGeneric p → IsPlainProgram p → length (table_of_program (bare_program p)).rows ≡ length (rows_of p.datas)
rows_many p nm own typed plain =
    ap (λ q. length (table_of_program q).rows) (sym (bare_copy p nm own typed plain))
    ∙ ap (λ (rows : List Row). length rows) (rows_made nm (type_names (copied_program p nm (plain_copies p))) 0 (datas_in (plain_copies p)))
    ∙ length-map (made_from 0 (datas_in (plain_copies p))) (made_row nm (type_names (copied_program p nm (plain_copies p))))
    ∙ sym (length-map (made_from 0 (datas_in (plain_copies p))) made_name)
    ∙ ap (λ (ns : List ℕ). length ns) (ap (λ cs. map made_name (made_from 0 cs)) (datas_own p.datas p.functions plain.datas plain.functions) ∙ names_same 0 p.datas)
    ∙ length-map (rows_of p.datas) row_number

pub typed_own : (p : GenericProgramTree) (nm : Naming) (v : Datum) (t : Ty) → IsPlainNaming nm → IsTypedGeneric p → IsPlainProgram p → HasType (table_of_program (bare_program p)) v t → shown (base_of (rows_of p.datas) (plain_copies p)) v ≡ v
typed_own p nm v t own typed plain h =
    value_own (table_of_program (bare_program p)) (base_of (rows_of p.datas) (plain_copies p)) (λ k l. number_own p k typed plain (let e = rows_many p nm own typed plain in omega (arith, l, e))) v t h

outcome_own : (p : GenericProgramTree) (nm : Naming) (o : Outcome) (t : Ty) → IsPlainNaming nm → IsTypedGeneric p → IsPlainProgram p → OutcomeHas (table_of_program (bare_program p)) t o → shown_outcome (base_of (rows_of p.datas) (plain_copies p)) o ≡ o
outcome_own p nm (Gives v) t own typed plain h = ap Gives (typed_own p nm v t own typed plain h)
outcome_own p nm (Stops why) t own typed plain h = refl

-- The program means what its copy means.
pub run_own : (p : GenericProgramTree) (nm : Naming) (names : List Item) (depth : ℕ) (v : Datum) → IsPlainNaming nm → IsGenericFineProgram p → IsTypedGeneric p → IsPlainProgram p → IsSet p nm names (plain_copies p)
    → HasType (table_of_program (bare_program p)) v (input_type (bare_program p)) → run_generic p depth v ≡ run (bare_program p) depth v
run_own p nm names depth v own fine typed plain is h =
    let base = base_of (rows_of p.datas) (plain_copies p) in
    let same = bare_copy p nm own typed plain in
    let bare_fine : IsFineProgram (bare_program p) = subst IsFineProgram same (copied_fine p nm names (plain_copies p) fine is) in
    let bare_typed : IsTypedProgram (bare_program p) = subst IsTypedProgram same (copied_typed p nm names (plain_copies p) is) in
    ap (run_generic p depth) (sym (typed_own p nm v (input_type (bare_program p)) own typed plain h))
    ∙ sym (copied_runs p nm names (plain_copies p) depth v fine is (subst (λ q. HasType (table_of_program q) v (input_type q)) (sym same) h))
    ∙ ap (λ q. shown_outcome base (run q depth v)) same
    ∙ outcome_own p nm (run (bare_program p) depth v) (output_type (bare_program p)) own typed plain (run_has (bare_program p) depth v bare_fine bare_typed h)

-- A program of the language without type parameters

datas_none : (ds : List DataTree) → AllByRecursion IsPlainData (map generic_data ds)
datas_none [] = tt {0}
datas_none (d ∷ ds) = (refl, datas_none ds)

functions_none : (fs : List FunctionTree) → AllByRecursion IsPlainFunction (map generic_function fs)
functions_none [] = tt {0}
functions_none (f ∷ fs) = (refl, functions_none fs)

pub plain_own : (p : ProgramTree) (v : Datum) (t : Ty) → IsTypedProgram p → HasType (table_of_program p) v t → shown (base_of (rows_of (generic_of p).datas) (plain_copies (generic_of p))) v ≡ v
plain_own p v t typed h =
    let q = generic_of p in
    let names = same_names p in
    let count : length (table_of_program p).rows ≡ length (rows_of q.datas) =
    sym (length-map (table_of_program p).rows (λ (r : Row). r.name)) ∙ ap (λ (ns : List ℕ). length ns) (sym names) ∙ length-map (rows_of q.datas) row_number in
    value_own (table_of_program p) (base_of (rows_of q.datas) (plain_copies q)) (λ k l. number_alone q k (subst AreDifferent (sym names) typed.constructors_differ) (datas_none p.datas) (functions_none p.functions) (omega (arith, l, count))) v t h

-- Texts

pub text_own : (names others : List (List ℕ)) (x : ℕ) → x < length names → slice_get (names ++ others) x ≡ slice_get names x
text_own [] others x l = absurd (omega (arith, l))
text_own (n ∷ names) others zero l = refl
text_own (n ∷ names) others (suc x) l = text_own names others x (omega (arith, l))
