-- The copied program, from its copied declarations.
use Rattle.std.proofs.Common.{◌≡◌, ℕ, List, [], ◌∷◌, length, map, Ok, Err, refl, sym, ap, ap₂, ◌∙◌, subst}
use Rattle.std.specs.List.{AllByRecursion}
use Rattle.gib_base.specs.declared.Span.{Span}
use Rattle.gib_types.specs.Form.{Forms}
use Rattle.gib_types.specs.Types.{forms_of}
use Rattle.gib_syntax.specs.declared.tree.DataDecl.{DataDecl}
use Rattle.gib_syntax.specs.declared.tree.FunctionDecl.{FunctionDecl}
use Rattle.gib_syntax.specs.declared.tree.MainDecl.{MainDecl}
use Rattle.gib_syntax.specs.Tree.{DataTree, FunctionTree, MainTree, ProgramTree}
use Rattle.gib_syntax.specs.Arena.{tree_of}
use Rattle.gib_syntax.specs.Fine.{HasConstructor}
use Rattle.gib_syntax.specs.Parts.{AreInside, program_of, data_tree, function_tree, IsFunctionInside}
use Rattle.gib_syntax.specs.Typing.{IsTypedProgram}
use Rattle.gib_syntax.specs.GenericFine.{HasGenericConstructor}
use Rattle.gib_syntax.specs.GenericParts.{GenericParts, generic_program_of}
use Rattle.gib_syntax.specs.GenericTree.{GenericConstructorTree, GenericGlobals, GenericProgramTree}
use Rattle.gib_syntax.specs.GenericTyping.{IsTypedGeneric}
use Rattle.gib_mono.specs.declared.copier.Copier.{Copier}
use Rattle.gib_mono.specs.declared.find.Asked.{Asked}
use Rattle.gib_mono.specs.declared.found.CopyKey.{CopyKey}
use Rattle.gib_mono.specs.Closed.{IsDeclared}
use Rattle.gib_mono.specs.Bare.{IsPlainProgram, bare_program}
use Rattle.gib_mono.specs.Copied.{Item}
use Rattle.gib_mono.specs.Copying.{IsPlainNaming, Naming, copy_data, copy_function, copy_constructor}
use Rattle.gib_mono.specs.Contexts.{forms as forms_met}
use Rattle.gib_mono.specs.Declaring.{copies_from, AreKeysInside, Enters, CopiesMain, Declares, Finds}
use Rattle.gib_mono.specs.Made.{naming}
use Rattle.gib_mono.specs.Naming.{entries, listed_entries, naming_of, with_entries, AreNamedBelow}
use Rattle.gib_mono.specs.Scenes.{Scenery, forms, names_in}
use Rattle.gib_mono.specs.Sources.{globals_in}
use Rattle.gib_mono.specs.Walk.{Copy, DataOf, FunctionOf, DataCopy, FunctionCopy, datas_in, function_copies, plain_copies, copies_of, copied_program}
use Rattle.gib_mono.proofs.Bared.{bare_copy, bare_walk}
use Rattle.gib_mono.proofs.Below.{copies_below}
use Rattle.gib_mono.proofs.Copies.{copies_closed}
use Rattle.gib_mono.proofs.Named.{keys_inside, keys_copies}
use Rattle.gib_mono.proofs.Names.{named}
use Rattle.gib_mono.proofs.Theorem.{set_made, copied_typed}
use Rattle.gib_mono.proofs.Declarations.{functions_stay, functions_same}
use Rattle.gib_check.proofs.Growing.{many}

pub keys_there : (p : GenericParts) (asked : Asked) (s : Copier) (keys : List CopyKey) → keys ≡ asked.found.keys → s.scene.types ≡ asked.context.types → Finds p asked → AreKeysInside (globals_in p) (length s.scene.types) keys
keys_there p asked s keys e t h =
    subst (λ ns. AreKeysInside (globals_in p) (length ns) keys) (sym t)
    (subst (λ ks. AreKeysInside (globals_in p) (length asked.context.types) ks) (sym e)
    (subst (λ n. AreKeysInside (globals_in p) n asked.found.keys) (many asked.context.types) (keys_inside (globals_in p) (forms_met asked.context) asked.found.keys h.copies h.kept.copies)))

pub keys_found : (p : GenericParts) (asked : Asked) (s : Copier) (keys : List CopyKey) → keys ≡ asked.found.keys → s.scene.types ≡ asked.context.types → (h : Finds p asked) → copies_from (globals_in p) (forms s.scene) keys ≡ h.copies
keys_found p asked s keys e t h = ap₂ (λ ns ks. copies_from (globals_in p) (forms_of ns) ks) t e ∙ keys_copies (globals_in p) (forms_met asked.context) asked.found.keys h.copies h.kept.copies

-- each copied type has a constructor

copied_constructors : (nm : Naming) (ts : Forms) (m : _) (cs : List GenericConstructorTree) → (cs ≡ [] → ⊥) → map (copy_constructor nm m ts) cs ≡ [] → ⊥
copied_constructors nm ts m [] h e = h refl
copied_constructors nm ts m (c ∷ cs) h e = cc

have_constructors : (g : GenericGlobals) (nm : Naming) (cs : List Copy) → AllByRecursion (IsDeclared g) cs → AllByRecursion HasConstructor (map (λ (c : DataCopy). copy_data nm c.decl c.types) (datas_in cs))
have_constructors g nm [] h = tt
have_constructors g nm (DataOf d ts ∷ cs) h = (copied_constructors nm ts _ d.constructors h.0.1, have_constructors g nm cs h.1)
have_constructors g nm (FunctionOf f ts ∷ cs) h = have_constructors g nm cs h.1

-- all that the end needs
pub record Ends (p : GenericParts) (base : ℕ) (s : Copier) (ds : List DataDecl) (fs : List FunctionDecl) (main : MainDecl) : Type 0 where
  pub found : List Copy
  pub are : copies_of (generic_program_of p) ≡ Ok found
  pub program : program_of (record { exprs = s.exprs; data_decls = ds; functions = fs; main = main }) ≡ copied_program (generic_program_of p) (naming_of base (entries found)) found
  pub inside : AreInside (record { exprs = s.exprs; data_decls = ds; functions = fs; main = main })
  pub typed : IsTypedProgram (program_of (record { exprs = s.exprs; data_decls = ds; functions = fs; main = main }))
  pub names : names_in s.scene ≡ entries found

pub ends : (p : GenericParts) (asked : Asked) (base : ℕ) (s0 s1 s2 s3 : Copier) (keys ks : List CopyKey) (ds : List DataDecl) (fs : List FunctionDecl) (main : MainDecl) → Finds p asked → AreNamedBelow base (generic_program_of p) → IsTypedGeneric (generic_program_of p)
    → AllByRecursion HasGenericConstructor (generic_program_of p).datas → s0.scene ≡ record { types = asked.context.types; variables = []; meant = []; scope = []; entries = [] } → s0.base ≡ base → keys ≡ asked.found.keys → ks ≡ asked.found.keys
    → Enters s0 s1 (with_entries (names_in s0.scene) (listed_entries (copies_from (globals_in p) (forms s0.scene) keys))) → Declares (globals_in p) s1 s2 [] [] ds fs (copies_from (globals_in p) (forms s1.scene) ks) → CopiesMain (globals_in p) s2 s3 main (generic_program_of p).main
    → Ends p base s3 ds fs main
ends p asked base s0 s1 s2 s3 keys ks ds fs main finds below typed fine start at e e' enters h m =
    let g = globals_in p in
    let found = finds.copies in
    let types0 : s0.scene.types ≡ asked.context.types = ap (λ (k : Scenery). k.types) start in
    let found0 : copies_from g (forms s0.scene) keys ≡ found = keys_found p asked s0 keys e types0 finds in
    let found1 : copies_from g (forms s1.scene) ks ≡ found = keys_found p asked s1 ks e' (enters.types ∙ types0) finds in
    let names1 : names_in s1.scene ≡ entries found = enters.names ∙ ap₂ (λ is cs. with_entries is (listed_entries cs)) (ap names_in start) found0 in
    let nm : naming s1 ≡ naming_of base (entries found) = ap₂ naming_of (enters.base ∙ at) names1 in
    let nm2 : naming s2 ≡ naming_of base (entries found) = ap₂ naming_of (h.goes.base ∙ enters.base ∙ at) (h.goes.names ∙ names1) in
    let closed = copies_closed (generic_program_of p) found fine typed finds.are in
    let datas : map data_tree ds ≡ map (λ (c : DataCopy). copy_data (naming_of base (entries found)) c.decl c.types) (datas_in found) = ap (map data_tree) h.datas ∙ h.datas_are ∙ ap₂ (λ n cs. map (λ (c : DataCopy). copy_data n c.decl c.types) (datas_in cs)) nm found1 in
    let functions : map (function_tree (tree_of s3.exprs)) fs ≡ map (λ (c : FunctionCopy). copy_function g (naming_of base (entries found)) c.function c.types) (function_copies found) =
    ap (map (function_tree (tree_of s3.exprs))) h.functions ∙ functions_same s2.exprs s3.exprs h.more_functions m.goes.puts h.inside ∙ h.functions_are
    ∙ ap₂ (λ n cs. map (λ (c : FunctionCopy). copy_function g n c.function c.types) (function_copies cs)) nm found1 in
    let main_is = m.is ∙ ap (λ n. Rattle.gib_mono.specs.Copying.copy_main g n (generic_program_of p).main) nm2 in
    let whole = same₃ (λ (a : List DataTree) (b : List FunctionTree) (c : MainTree). record { datas = a; functions = b; main = c }) datas functions main_is in
    record {
      found = found;
      are = finds.are;
      program = whole;
      inside = record {
        functions = subst (AllByRecursion (IsFunctionInside (length s3.exprs))) (sym h.functions) (functions_stay s2.exprs s3.exprs h.more_functions m.goes.puts h.inside);
        main = m.inside;
        constructors = subst (AllByRecursion HasConstructor) (sym datas) (have_constructors g (naming_of base (entries found)) found closed.0.good.declared);
      };
      typed = subst IsTypedProgram (sym whole) (copied_typed (generic_program_of p) (naming_of base (entries found)) (entries found) found
          (set_made (generic_program_of p) (naming_of base (entries found)) (entries found) found fine typed finds.are (named found base (copies_below (generic_program_of p) base found below typed fine finds.are))));
      names = m.goes.names ∙ h.goes.names ∙ names1;
    } where
      same₃ : {A B C D : Type 0} (f : A → B → C → D) {x y : A} {u v : B} {s t : C} → x ≡ y → u ≡ v → s ≡ t → f x u s ≡ f y v t
      same₃ f {x} {y} {u} {v} {s} {t} e g h = ap (λ a. f a u s) e ∙ ap (λ b. f y b s) g ∙ ap (f y v) h

-- a program without type parameters is its own copy

own_naming : (base : ℕ) (names : List Item) → IsPlainNaming (naming_of base names)
own_naming base names = record { types = λ x. refl; constructors = λ x. refl; functions = λ x. refl }

pub plain_typed : (p : GenericProgramTree) (base : ℕ) → AreNamedBelow base p → IsTypedGeneric p → AllByRecursion HasGenericConstructor p.datas → IsPlainProgram p → IsTypedProgram (bare_program p)
plain_typed p base below typed fine plain =
    let found = plain_copies p in
    let names = entries found in
    let are = bare_walk p typed plain in
    subst IsTypedProgram (bare_copy p (naming_of base names) (own_naming base names) typed plain)
    (copied_typed p (naming_of base names) names found (set_made p (naming_of base names) names found fine typed are (named found base (copies_below p base found below typed fine are))))

-- what the copy of a program is
pub record IsCopied (p : GenericProgramTree) (base : ℕ) (made : ProgramTree) (names : List Item) : Type 0 where
  pub found : List Copy
  pub are : copies_of p ≡ Ok found
  pub program : made ≡ copied_program p (naming_of base (entries found)) found
  pub names_are : names ≡ entries found

pub plain_copied : (p : GenericProgramTree) (base : ℕ) (made : ProgramTree) (names : List Item) → IsTypedGeneric p → IsPlainProgram p → made ≡ bare_program p → names ≡ entries (plain_copies p) → IsCopied p base made names
plain_copied p base made names typed plain e n = record {
  found = plain_copies p;
  are = bare_walk p typed plain;
  program = e ∙ sym (bare_copy p (naming_of base (entries (plain_copies p))) (own_naming base (entries (plain_copies p))) typed plain);
  names_are = n;
}

-- no use of a plain program is over a limit
pub plain_within : (p : GenericProgramTree) (span : Span) → IsTypedGeneric p → IsPlainProgram p → copies_of p ≡ Err span → ⊥
plain_within p span typed plain e = let same : Ok (plain_copies p) ≡ Err span = sym (bare_walk p typed plain) ∙ e in absurd cc
