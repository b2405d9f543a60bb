-- Copied declarations, from their copied parts.
use Rattle.std.proofs.Common.{◌≡◌, ℕ, ◌<◌, ◌≤◌, List, [], ◌∷◌, ◌++◌, length, map, slice_get, get_or, Option, Some, None, refl, sym, ap, ap₂, ◌∙◌, arith, subst, append-nil, append_assoc}
use Rattle.std.specs.List.{AllByRecursion}
use Rattle.std.specs.Global.{Vec}
use Rattle.std.proofs.lemmas.Option.{same_Some}
use Rattle.std.proofs.lemmas.List.{map-append}
use Rattle.gib_base.specs.declared.Span.{Span}
use Rattle.gib_types.specs.declared.types.TypeId.{TypeId}
use Rattle.gib_types.specs.Form.{Form, Forms, NoForm, Meant}
use Rattle.gib_types.specs.Types.{form_at, forms_at, AreBelow, GrowsTo}
use Rattle.gib_syntax.specs.declared.exprs.Node.{Node}
use Rattle.gib_syntax.specs.declared.tree.Ident.{Ident}
use Rattle.gib_syntax.specs.declared.tree.TypeName.{TypeName}
use Rattle.gib_syntax.specs.declared.tree.Parameter.{Parameter}
use Rattle.gib_syntax.specs.declared.exprs.ExprId.{ExprId}
use Rattle.gib_syntax.specs.declared.tree.ResultTypes.{ResultTypes}
use Rattle.gib_syntax.specs.declared.tree.ResultTypes.TheVariants as result
use Rattle.gib_syntax.specs.Results.{Results, One, Several, map_results}
use Rattle.gib_syntax.specs.declared.tree.ConstructorDecl.{ConstructorDecl}
use Rattle.gib_syntax.specs.declared.tree.DataDecl.{DataDecl}
use Rattle.gib_syntax.specs.declared.tree.FunctionDecl.{FunctionDecl}
use Rattle.gib_syntax.specs.declared.written.Word.{Word}
use Rattle.gib_syntax.specs.declared.written.Run.{Run}
use Rattle.gib_syntax.specs.declared.program.GenericConstructor.{GenericConstructor}
use Rattle.gib_syntax.specs.declared.program.GenericData.{GenericData}
use Rattle.gib_syntax.specs.declared.program.GenericFunction.{GenericFunction}
use Rattle.gib_syntax.specs.declared.program.GenericParameter.{GenericParameter}
use Rattle.gib_syntax.specs.declared.program.GenericMain.{GenericMain}
use Rattle.gib_syntax.specs.Tree.{ConstructorTree, DataTree, FunctionTree, Expression}
use Rattle.gib_syntax.specs.Arena.{tree_of, Grows}
use Rattle.gib_syntax.specs.Declarations.{number_of}
use Rattle.gib_syntax.specs.Parts.{constructor_tree, data_tree, results_tree, function_tree, IsFunctionInside}
use Rattle.gib_syntax.specs.Forms.{WrittenType, formed, written_place, assign}
use Rattle.gib_syntax.specs.Words.{stack_of, first_type, run_words, type_in}
use Rattle.gib_syntax.specs.GenericArena.{tree_of as generic_of}
use Rattle.gib_syntax.specs.GenericParts.{GenericParts, constructor_in, data_in, function_in, parameter_in, results_in, main_in, generic_program_of}
use Rattle.gib_syntax.specs.GenericTree.{GenericExpression, GenericDataTree, GenericFunctionTree, GenericParameterTree, GenericGlobals}
use Rattle.gib_syntax.specs.GenericTyping.{FormScope, form_bound}
use Rattle.gib_mono.specs.declared.copier.Copier.{Copier}
use Rattle.gib_mono.specs.declared.copier.Copied.{Copied}
use Rattle.gib_mono.specs.declared.declaring.CopiedParts.{CopiedParts}
use Rattle.gib_mono.specs.declared.declaring.Written.{Written}
use Rattle.gib_mono.specs.declared.found.CopyKey.{CopyKey}
use Rattle.gib_mono.specs.declared.found.CopyKey.TheVariants as k
use Rattle.gib_mono.specs.declared.reading.Reading.{Reading}
use Rattle.gib_mono.specs.Copying.{Naming, renamed, name_of_form, copy, copy_written, copy_constructor, copy_data, copy_parameter, copy_function, copy_main}
use Rattle.gib_mono.specs.Declaring.{copies_with, copies_from, IsKeyInside, AreKeysInside, first_span, named_forms, WritesAll, Writes, WritesResults, CopiesConstructors, Goes, CopiesData, CopiesParameters, CopiesParts, CopiesFunction, CopiesMain, Declares, parameters_bound}
use Rattle.gib_mono.specs.Found.{copy_from}
use Rattle.gib_mono.specs.Made.{naming, Stays, Meets, Binds, Copies, first_form}
use Rattle.gib_mono.specs.Naming.{naming_of, number_with}
use Rattle.gib_mono.specs.Reading.{listed}
use Rattle.gib_mono.specs.Scenes.{Scenery, forms, meaning, scope_in, names_in, Keeps, ReadsIn}
use Rattle.gib_mono.specs.Sources.{globals_in}
use Rattle.gib_mono.specs.Walk.{Copy, DataOf, FunctionOf, DataCopy, FunctionCopy, data_asked, function_asked, datas_in, function_copies}
use Rattle.gib_mono.proofs.Making.{stays_same, stays_on, parts_same, parts_on, grows_same, grows_on as nodes_grow_on, naming_stays, types_below}
use Rattle.gib_mono.proofs.Meeting.{with_scene, scene_stays, first_formed}
use Rattle.gib_mono.proofs.Read.{grows_none, grows_on, forms_grow, ap₃}
use Rattle.gib_check.proofs.Growing.{below_more}
use Rattle.gib_check.proofs.RowRules.{get_map}

-- types

pub record NamesSoFar (s : Copier) (places : List Span) (types : List TypeId) (spans : List Span) (left : List TypeId) (names : List TypeName) : Type 0 where
  pub below : AreBelow (length s.scene.types) left
  pub is : names ++ named_forms (naming s) spans (listed (forms s.scene) left) ≡ named_forms (naming s) places (listed (forms s.scene) types)

pub names_start : (s : Copier) (places : List Span) (types : List TypeId) (names : List TypeName) → names ≡ [] → AreBelow (length s.scene.types) types → NamesSoFar s places types places types names
names_start s places types names e h = rw e (record { below = h; is = refl })

pub names_next : (s : Copier) (places : List Span) (types : List TypeId) (spans spans_after : List Span) (left left_after : List TypeId) (names more : List TypeName) (p : Span) (t : TypeId) (name : TypeName) → spans ≡ p ∷ spans_after → left ≡ t ∷ left_after → NamesSoFar s places types spans left names
    → name ≡ name_of_form (naming s) p (form_at (forms s.scene) t.0) → more ≡ names ++ name ∷ [] → NamesSoFar s places types spans_after left_after more
names_next s places types spans spans_after left left_after names more p t name e f h n m = record {
  below = (subst (AreBelow (length s.scene.types)) f h.below).1;
  is = ap (λ l. l ++ named_forms (naming s) spans_after (listed (forms s.scene) left_after)) (m ∙ ap (λ x. names ++ x ∷ []) n)
      ∙ append_assoc names (name_of_form (naming s) p (form_at (forms s.scene) t.0) ∷ []) (named_forms (naming s) spans_after (listed (forms s.scene) left_after))
      ∙ ap₂ (λ ps ts. names ++ named_forms (naming s) ps (listed (forms s.scene) ts)) (sym e) (sym f) ∙ h.is;
}

pub name_below : (s : Copier) (places : List Span) (types : List TypeId) (spans : List Span) (left left_after : List TypeId) (names : List TypeName) (t : TypeId) → left ≡ t ∷ left_after → NamesSoFar s places types spans left names → t.0 < length s.scene.types
name_below s places types spans left left_after names t f h = (subst (AreBelow (length s.scene.types)) f h.below).0

pub names_end : (s : Copier) (places : List Span) (types : List TypeId) (spans : List Span) (left : List TypeId) (names : List TypeName) → spans ≡ [] → NamesSoFar s places types spans left names → names ≡ named_forms (naming s) places (listed (forms s.scene) types)
names_end s places types spans left names e h = sym (append-nil names) ∙ ap (λ ps. names ++ named_forms (naming s) ps (listed (forms s.scene) left)) (sym e) ∙ h.is

no_names : (nm : Naming) (ps : List Span) → named_forms nm ps [] ≡ []
no_names nm [] = refl
no_names nm (p ∷ ps) = refl

pub names_stop : (s : Copier) (places : List Span) (types : List TypeId) (spans : List Span) (left : List TypeId) (names : List TypeName) → left ≡ [] → NamesSoFar s places types spans left names → names ≡ named_forms (naming s) places (listed (forms s.scene) types)
names_stop s places types spans left names e h = sym (append-nil names) ∙ ap (λ l. names ++ l) (sym (no_names (naming s) spans)) ∙ ap (λ ts. names ++ named_forms (naming s) spans (listed (forms s.scene) ts)) (sym e) ∙ h.is

all_written : (nm : Naming) (m : Meant) (st : List WrittenType) → named_forms nm (map written_place st) (map (formed m) st) ≡ map (copy_written nm m) st
all_written nm m [] = refl
all_written nm m (w ∷ st) = ap (λ l. name_of_form nm (written_place w) (formed m w) ∷ l) (all_written nm m st)

naming_scene : (s : Copier) (k : Scenery) → Keeps s.scene k → naming (with_scene s k) ≡ naming s
naming_scene s k h = ap (naming_of s.base) h.names

pub types_written : (s : Copier) (k : Scenery) (words : List Word) (r : Reading) (places : List Span) (types : List TypeId) (names : List TypeName) → ReadsIn s.scene k (meaning s.scene) words r → places ≡ r.places → types ≡ r.types
    → names ≡ named_forms (naming (with_scene s k)) places (listed (forms k) types) → WritesAll s (with_scene s k) names (map (copy_written (naming s) (meaning s.scene)) (stack_of words))
types_written s k words r places types names read e f is = record {
  stays = scene_stays s k read.keeps;
  is = is ∙ ap₃ named_forms (naming_scene s k read.keeps) (e ∙ read.places) (ap (listed (forms k)) f ∙ read.types) ∙ all_written (naming s) (meaning s.scene) (stack_of words);
}

first_written : (st : List WrittenType) → first_span (map written_place st) ≡ written_place (first_type st)
first_written [] = refl
first_written (w ∷ st) = refl

pub type_written : (s0 s2 : Copier) (k : Scenery) (words : List Word) (r : Reading) (span : Span) (ty : TypeId) (name : TypeName) → ReadsIn s0.scene k (meaning s0.scene) words r → span ≡ first_span r.places → Meets (with_scene s0 k) s2 ty (first_form (listed (forms k) r.types))
    → name ≡ name_of_form (naming s2) span (form_at (forms s2.scene) ty.0) → Writes s0 s2 (record { name = name; ty = ty }) (first_type (stack_of words))
type_written s0 s2 k words r span ty name read at m is =
    let stays = stays_on s0 (with_scene s0 k) s2 (scene_stays s0 k read.keeps) m.stays in
    let form = m.form ∙ ap first_form read.types ∙ first_formed (meaning s0.scene) (stack_of words) in
    record { stays = stays; below = m.below; form = form; name = is ∙ ap₃ name_of_form (naming_stays s0 s2 stays) (at ∙ ap first_span read.places ∙ first_written (stack_of words)) form }

-- constructors

pub constructor_made : (words : List Word) (s0 s1 : Copier) (c : GenericConstructor) (ids : List TypeId) (text : List Word) (x : Ident) (fields : Vec TypeName) → text ≡ run_words words c.fields
    → x ≡ renamed c.name (number_with s0.base (names_in s0.scene) (number_of c.name) (forms_at (forms s0.scene) ids)) → WritesAll s0 s1 fields.items (map (copy_written (naming s0) (meaning s0.scene)) (stack_of text))
    → CopiesConstructors s0 s1 (constructor_tree (record { name = x; fields = fields }) ∷ []) (forms_at (forms s0.scene) ids) (constructor_in words c ∷ [])
constructor_made words s0 s1 c ids text x fields e n h = record {
  stays = h.stays;
  is = ap₂ (λ (y : Ident) (fs : List TypeName). record { name = y; fields = fs } ∷ []) n (h.is ∙ ap (λ t. map (copy_written (naming s0) (meaning s0.scene)) (stack_of t)) e);
}

pub record ConstructorsSoFar (words : List Word) (old now : Copier) (ids : List TypeId) (made : List ConstructorDecl) (rest all : List GenericConstructor) : Type 0 where
  pub stays : Stays old now
  pub below : AreBelow (length old.scene.types) ids
  pub is : map constructor_tree made ++ map (copy_constructor (naming old) (meaning old.scene) (forms_at (forms old.scene) ids)) (map (constructor_in words) rest)
      ≡ map (copy_constructor (naming old) (meaning old.scene) (forms_at (forms old.scene) ids)) (map (constructor_in words) all)

pub constructors_start : (words : List Word) (s : Copier) (ids : List TypeId) (made : List ConstructorDecl) (all : List GenericConstructor) → made ≡ [] → AreBelow (length s.scene.types) ids → ConstructorsSoFar words s s ids made all all
constructors_start words s ids made all e h = rw e (record { stays = stays_same s; below = h; is = refl })

head_is : {A : Type 0} (x y : A) → x ∷ [] ≡ y ∷ [] → x ≡ y
head_is x y e = cc

pub constructors_next : (words : List Word) (old now new : Copier) (ids : List TypeId) (made more : List ConstructorDecl) (rest after all : List GenericConstructor) (k : GenericConstructor) (c : ConstructorDecl) → rest ≡ k ∷ after → ConstructorsSoFar words old now ids made rest all
    → CopiesConstructors now new (constructor_tree c ∷ []) (forms_at (forms now.scene) ids) (constructor_in words k ∷ []) → more ≡ made ++ c ∷ [] → ConstructorsSoFar words old new ids more after all
constructors_next words old now new ids made more rest after all k c e h one m =
    let ts = forms_at (forms old.scene) ids in
    let f = copy_constructor (naming old) (meaning old.scene) ts in
    let same : forms_at (forms now.scene) ids ≡ ts = forms_grow old.scene.types now.scene.types ids h.stays.keeps.grows h.below in
    let here : constructor_tree c ≡ f (constructor_in words k) =
    head_is (constructor_tree c) (copy_constructor (naming now) (meaning now.scene) (forms_at (forms now.scene) ids) (constructor_in words k)) one.is
    ∙ ap₃ (λ nm q us. copy_constructor nm q us (constructor_in words k)) (naming_stays old now h.stays) h.stays.keeps.meaning same in
    record {
      stays = stays_on old now new h.stays one.stays;
      below = h.below;
      is = ap (λ l. map constructor_tree l ++ map f (map (constructor_in words) after)) m ∙ ap (λ l. l ++ map f (map (constructor_in words) after)) (map-append constructor_tree made (c ∷ []))
          ∙ append_assoc (map constructor_tree made) (constructor_tree c ∷ []) (map f (map (constructor_in words) after)) ∙ ap (λ x. map constructor_tree made ++ x ∷ map f (map (constructor_in words) after)) here
          ∙ ap (λ l. map constructor_tree made ++ map f (map (constructor_in words) l)) (sym e) ∙ h.is;
    }

pub constructors_below : (words : List Word) (old now : Copier) (ids : List TypeId) (made : List ConstructorDecl) (rest all : List GenericConstructor) → ConstructorsSoFar words old now ids made rest all → AreBelow (length now.scene.types) ids
constructors_below words old now ids made rest all h = types_below old now ids ids h.stays refl h.below

pub constructors_end : (words : List Word) (old now : Copier) (ids : List TypeId) (made : List ConstructorDecl) (rest all : List GenericConstructor) → rest ≡ [] → ConstructorsSoFar words old now ids made rest all
    → CopiesConstructors old now (map constructor_tree made) (forms_at (forms old.scene) ids) (map (constructor_in words) all)
constructors_end words old now ids made rest all e h = record {
  stays = h.stays;
  is = sym (append-nil (map constructor_tree made)) ∙ ap (λ l. map constructor_tree made ++ map (copy_constructor (naming old) (meaning old.scene) (forms_at (forms old.scene) ids)) (map (constructor_in words) l)) (sym e) ∙ h.is;
}

-- with other type variables

abbrev pub entered : Copier → List Ident → List TypeId → Copier
entered s variables meant = with_scene s (record { types = s.scene.types; variables = variables; meant = meant; scope = []; entries = s.scene.entries })

pub goes_same : (s : Copier) → Goes s s
goes_same s = record { grows = grows_none (forms s.scene); longer = omega arith; names = refl; base = refl; puts = grows_same s.exprs }

pub goes_on : (a b c : Copier) → Goes a b → Goes b c → Goes a c
goes_on a b c h k = record {
  grows = grows_on a.scene.types b.scene.types c.scene.types h.grows k.grows;
  longer = (let l = h.longer in let m = k.longer in omega (arith, l, m));
  names = k.names ∙ h.names;
  base = k.base ∙ h.base;
  puts = nodes_grow_on a.exprs b.exprs c.exprs h.puts k.puts;
}

stays_goes : (a b : Copier) → Stays a b → Goes a b
stays_goes a b h = record { grows = h.keeps.grows; longer = h.keeps.longer; names = h.keeps.names; base = h.base; puts = h.grows }

binds_goes : (a b : Copier) (sc : FormScope) → Binds a b sc → Goes a b
binds_goes a b sc h = record { grows = h.grows; longer = h.longer; names = h.names; base = h.base; puts = h.puts }

naming_goes : (a b : Copier) → Goes a b → naming b ≡ naming a
naming_goes a b h = ap₂ naming_of h.base h.names

from_entered : (s s2 : Copier) (k : Scenery) (variables : List Ident) (meant : List TypeId) → k ≡ record { types = s.scene.types; variables = variables; meant = meant; scope = []; entries = s.scene.entries } → Goes (with_scene s k) s2 → Goes s s2
from_entered s s2 k variables meant e h = let g = subst (λ q. Goes (with_scene s q) s2) e h in record { grows = g.grows; longer = g.longer; names = g.names; base = g.base; puts = g.puts }

pub data_made : (p : GenericParts) (s0 s2 : Copier) (k : Scenery) (place : ℕ) (decl : GenericData) (d : GenericDataTree) (ids meant : List TypeId) (variables : List Ident) (cs : List GenericConstructor) (x : Ident) (made : Vec ConstructorDecl) → slice_get (globals_in p).datas place ≡ Some d
    → slice_get p.datas place ≡ Some decl → variables ≡ decl.variables.items → meant ≡ ids → cs ≡ decl.constructors.items → x ≡ renamed decl.name (number_with s0.base (names_in s0.scene) (number_of decl.name) (forms_at (forms s0.scene) ids))
    → k ≡ record { types = s0.scene.types; variables = variables; meant = meant; scope = []; entries = s0.scene.entries }
    → CopiesConstructors (with_scene s0 k) s2 (map constructor_tree made.items) (forms_at (forms k) ids) (map (constructor_in p.exprs.words) cs) → CopiesData s0 s2 (record { name = x; constructors = made }) d (forms_at (forms s0.scene) ids)
data_made p s0 s2 k place decl d ids meant variables cs x made there at vs ms es n e h =
    let is : data_in p.exprs.words decl ≡ d = same_Some (data_in p.exprs.words decl) d (sym (get_map (data_in p.exprs.words) p.datas place decl at) ∙ there) in
    let ts = forms_at (forms s0.scene) ids in
    let inner : map constructor_tree made.items ≡ map (copy_constructor (naming s0) (assign decl.variables.items ts) ts) (map (constructor_in p.exprs.words) decl.constructors.items) =
    h.is ∙ ap (λ (q : Scenery). map (copy_constructor (naming (with_scene s0 q)) (meaning q) (forms_at (forms q) ids)) (map (constructor_in p.exprs.words) cs)) e
    ∙ ap₃ (λ v m l. map (copy_constructor (naming s0) (assign v (forms_at (forms s0.scene) m)) ts) (map (constructor_in p.exprs.words) l)) vs ms es in
    record {
      goes = from_entered s0 s2 k variables meant e (stays_goes (with_scene s0 k) s2 h.stays);
      is = ap₂ (λ (y : Ident) (l : List ConstructorTree). record { name = y; constructors = l }) n inner ∙ ap (λ (y : GenericDataTree). copy_data (naming s0) y ts) is;
    }

-- parameters

pub record ParametersSoFar (words : List Word) (old now : Copier) (made : List Parameter) (rest all : List GenericParameter) : Type 0 where
  pub inner : FormScope
  pub binds : Binds old now inner
  pub bound : parameters_bound (meaning old.scene) (map (parameter_in words) rest) inner ≡ parameters_bound (meaning old.scene) (map (parameter_in words) all) (scope_in old.scene)
  pub is : made ++ map (copy_parameter (naming old) (meaning old.scene)) (map (parameter_in words) rest) ≡ map (copy_parameter (naming old) (meaning old.scene)) (map (parameter_in words) all)

pub parameters_start : (words : List Word) (s : Copier) (made : List Parameter) (all : List GenericParameter) → made ≡ [] → ParametersSoFar words s s made all all
parameters_start words s made all e = rw e (record {
  inner = scope_in s.scene;
  binds = record { puts = grows_same s.exprs; parts = parts_same s s refl; base = refl; grows = grows_none (forms s.scene); longer = omega arith; meaning = refl; names = refl; scope = refl; more = []; kept = sym (append-nil s.scene.scope) };
  bound = refl;
  is = refl;
})

bind_after : (old now mid new : Copier) (inner : FormScope) (x : Ident) (t : TypeId) (f : Form) → Binds old now inner → Stays now mid → form_at (forms mid.scene) t.0 ≡ f → Binds mid new (form_bound x (form_at (forms mid.scene) t.0) (scope_in mid.scene)) → Binds old new (form_bound x f inner)
bind_after old now mid new inner x t f h s form b = record {
  puts = nodes_grow_on old.exprs now.exprs new.exprs h.puts (nodes_grow_on now.exprs mid.exprs new.exprs s.grows b.puts);
  parts = parts_on old now new h.parts (parts_on now mid new s.parts b.parts);
  base = b.base ∙ s.base ∙ h.base;
  grows = grows_on old.scene.types now.scene.types new.scene.types h.grows (grows_on now.scene.types mid.scene.types new.scene.types s.keeps.grows b.grows);
  longer = (let l = h.longer in let m = s.keeps.longer in let q = b.longer in omega (arith, l, m, q));
  meaning = b.meaning ∙ s.keeps.meaning ∙ h.meaning;
  names = b.names ∙ s.keeps.names ∙ h.names;
  scope = b.scope ∙ ap₂ (λ g sc. form_bound x g sc) form (s.keeps.scope ∙ h.scope);
  more = h.more ++ b.more;
  kept = b.kept ∙ ap (λ l. l ++ b.more) (s.keeps.kept ∙ h.kept) ∙ append_assoc old.scene.scope h.more b.more;
}

pub parameters_next : (words : List Word) (old now mid new : Copier) (made more : List Parameter) (rest after all : List GenericParameter) (q : GenericParameter) (text : List Word) (w : Written) → rest ≡ q ∷ after → text ≡ run_words words q.ty → ParametersSoFar words old now made rest all
    → Writes now mid w (first_type (stack_of text)) → Binds mid new (form_bound q.name (form_at (forms mid.scene) w.ty.0) (scope_in mid.scene)) → more ≡ made ++ record { name = q.name; ty = w.name } ∷ [] → ParametersSoFar words old new more after all
parameters_next words old now mid new made more rest after all q text w e f h one b m =
    let nm = naming_goes old now (binds_goes old now h.inner h.binds) in
    let sure : first_type (stack_of text) ≡ type_in words q.ty = ap (λ t. first_type (stack_of t)) f in
    let form : form_at (forms mid.scene) w.ty.0 ≡ formed (meaning old.scene) (type_in words q.ty) = one.form ∙ ap₂ formed h.binds.meaning sure in
    let name : w.name ≡ copy_written (naming old) (meaning old.scene) (type_in words q.ty) = one.name ∙ ap₃ copy_written nm h.binds.meaning sure in
    let g = copy_parameter (naming old) (meaning old.scene) in
    record {
      inner = form_bound q.name (formed (meaning old.scene) (type_in words q.ty)) h.inner;
      binds = bind_after old now mid new h.inner q.name w.ty (formed (meaning old.scene) (type_in words q.ty)) h.binds one.stays form b;
      bound = ap (λ l. parameters_bound (meaning old.scene) (map (parameter_in words) l) h.inner) (sym e) ∙ h.bound;
      is = ap (λ l. l ++ map g (map (parameter_in words) after)) (m ∙ ap (λ (t : TypeName). made ++ record { name = q.name; ty = t } ∷ []) name)
          ∙ append_assoc made (g (parameter_in words q) ∷ []) (map g (map (parameter_in words) after)) ∙ ap (λ l. made ++ map g (map (parameter_in words) l)) (sym e) ∙ h.is;
    }

pub parameters_end : (words : List Word) (old now : Copier) (made : List Parameter) (rest all : List GenericParameter) → rest ≡ [] → ParametersSoFar words old now made rest all → CopiesParameters old now made (map (parameter_in words) all)
parameters_end words old now made rest all e h = record {
  binds = subst (Binds old now) (ap (λ l. parameters_bound (meaning old.scene) (map (parameter_in words) l) h.inner) (sym e) ∙ h.bound) h.binds;
  is = sym (append-nil made) ∙ ap (λ l. made ++ map (copy_parameter (naming old) (meaning old.scene)) (map (parameter_in words) l)) (sym e) ∙ h.is;
}

-- types of what is given

pub one_written : (words : List Word) (old new : Copier) (text : List Word) (run : Run) (w : Written) → text ≡ run_words words run → Writes old new w (first_type (stack_of text)) → WritesResults old new (result.One w.name) (One (type_in words run))
one_written words old new text run w f h = record { stays = h.stays; is = ap One (h.name ∙ ap (copy_written (naming old) (meaning old.scene)) (ap (λ t. first_type (stack_of t)) f)) }

pub record WrittenSoFar (words : List Word) (old now : Copier) (made : List TypeName) (rest all : List Run) : Type 0 where
  pub stays : Stays old now
  pub is : made ++ map (copy_written (naming old) (meaning old.scene)) (map (type_in words) rest) ≡ map (copy_written (naming old) (meaning old.scene)) (map (type_in words) all)

pub written_start : (words : List Word) (s : Copier) (made : List TypeName) (all : List Run) → made ≡ [] → WrittenSoFar words s s made all all
written_start words s made all e = record { stays = stays_same s; is = ap (λ l. l ++ map (copy_written (naming s) (meaning s.scene)) (map (type_in words) all)) e }

pub written_next : (words : List Word) (old now mid : Copier) (made more : List TypeName) (rest after all : List Run) (run : Run) (text : List Word) (w : Written) → rest ≡ run ∷ after → text ≡ run_words words run → WrittenSoFar words old now made rest all
    → Writes now mid w (first_type (stack_of text)) → more ≡ made ++ w.name ∷ [] → WrittenSoFar words old mid more after all
written_next words old now mid made more rest after all run text w e f h one m =
    let g = copy_written (naming old) (meaning old.scene) in
    let name : w.name ≡ g (type_in words run) = one.name ∙ ap₃ copy_written (naming_stays old now h.stays) h.stays.keeps.meaning (ap (λ t. first_type (stack_of t)) f) in
    record {
      stays = stays_on old now mid h.stays one.stays;
      is = ap (λ l. l ++ map g (map (type_in words) after)) (m ∙ ap (λ (t : TypeName). made ++ t ∷ []) name)
          ∙ append_assoc made (g (type_in words run) ∷ []) (map g (map (type_in words) after)) ∙ ap (λ l. made ++ map g (map (type_in words) l)) (sym e) ∙ h.is;
    }

pub written_end : (words : List Word) (old now : Copier) (made : List TypeName) (rest all : List Run) → rest ≡ [] → WrittenSoFar words old now made rest all → WritesAll old now made (map (copy_written (naming old) (meaning old.scene)) (map (type_in words) all))
written_end words old now made rest all e h = record {
  stays = h.stays;
  is = sym (append-nil made) ∙ ap (λ l. made ++ map (copy_written (naming old) (meaning old.scene)) (map (type_in words) l)) (sym e) ∙ h.is;
}

pub several_written : (old new : Copier) (names : Vec TypeName) (ws : List WrittenType) → WritesAll old new names.items (map (copy_written (naming old) (meaning old.scene)) ws) → WritesResults old new (result.Several names) (Several ws)
several_written old new names ws h = record { stays = h.stays; is = ap Several h.is }

-- functions

pub parts_made : (g : GenericGlobals) (s0 s1 s2 s3 : Copier) (ps : Vec Parameter) (qs : List GenericParameterTree) (types : ResultTypes) (gives : Results WrittenType) (c : Copied) (e : GenericExpression) → CopiesParameters s0 s1 ps.items qs
    → WritesResults s1 s2 types gives → Copies g s2 s3 c e → CopiesParts g s0 s3 (record { parameters = ps; result = types; body = c.expr }) qs gives e
parts_made g s0 s1 s2 s3 ps qs types gives c e h one body =
    let to1 = binds_goes s0 s1 (parameters_bound (meaning s0.scene) qs (scope_in s0.scene)) h.binds in
    let to2 = goes_on s0 s1 s2 to1 (stays_goes s1 s2 one.stays) in
    record {
      goes = goes_on s0 s2 s3 to2 (stays_goes s2 s3 body.stays);
      parameters = h.is;
      result = one.is ∙ ap₂ (λ nm m. map_results (copy_written nm m) gives) (naming_goes s0 s1 to1) h.binds.meaning;
      inside = body.inside;
      body = body.expr ∙ ap₃ (λ nm m sc. copy g nm m sc e) (naming_goes s0 s2 to2) (one.stays.keeps.meaning ∙ h.binds.meaning) (one.stays.keeps.scope ∙ h.binds.scope);
    }

pub function_made : (p : GenericParts) (s0 s2 : Copier) (k : Scenery) (place : ℕ) (decl : GenericFunction) (f : GenericFunctionTree) (ids meant : List TypeId) (variables : List Ident) (qs : List GenericParameter) (x : Ident) (c : CopiedParts) → slice_get (globals_in p).functions place ≡ Some f
    → slice_get p.functions place ≡ Some decl → variables ≡ decl.variables.items → meant ≡ ids → qs ≡ decl.parameters.items → x ≡ renamed decl.name (number_with s0.base (names_in s0.scene) (number_of decl.name) (forms_at (forms s0.scene) ids))
    → k ≡ record { types = s0.scene.types; variables = variables; meant = meant; scope = []; entries = s0.scene.entries }
    → CopiesParts (globals_in p) (with_scene s0 k) s2 c (map (parameter_in p.exprs.words) qs) (results_in p.exprs.words decl.result) (generic_of p.exprs decl.body.0)
    → CopiesFunction (globals_in p) s0 s2 (record { name = x; parameters = c.parameters; result = c.result; body = c.body }) f (forms_at (forms s0.scene) ids)
function_made p s0 s2 k place decl f ids meant variables qs x c there at vs ms es n e h =
    let is : function_in p.exprs decl ≡ f = same_Some (function_in p.exprs decl) f (sym (get_map (function_in p.exprs) p.functions place decl at) ∙ there) in
    let ts = forms_at (forms s0.scene) ids in
    let m = assign decl.variables.items ts in
    let tree = map (parameter_in p.exprs.words) decl.parameters.items in
    let ps : c.parameters.items ≡ map (copy_parameter (naming s0) m) tree =
    h.parameters ∙ ap (λ (q : Scenery). map (copy_parameter (naming (with_scene s0 q)) (meaning q)) (map (parameter_in p.exprs.words) qs)) e
    ∙ ap₃ (λ v l r. map (copy_parameter (naming s0) (assign v (forms_at (forms s0.scene) l))) (map (parameter_in p.exprs.words) r)) vs ms es in
    let r : results_tree c.result ≡ map_results (copy_written (naming s0) m) (results_in p.exprs.words decl.result) =
    h.result ∙ ap (λ (q : Scenery). map_results (copy_written (naming (with_scene s0 q)) (meaning q)) (results_in p.exprs.words decl.result)) e
    ∙ ap₂ (λ v l. map_results (copy_written (naming s0) (assign v (forms_at (forms s0.scene) l))) (results_in p.exprs.words decl.result)) vs ms in
    let b : tree_of s2.exprs c.body.0 ≡ copy (globals_in p) (naming s0) m (parameters_bound m tree []) (generic_of p.exprs decl.body.0) =
    h.body ∙ ap (λ (q : Scenery). copy (globals_in p) (naming (with_scene s0 q)) (meaning q) (parameters_bound (meaning q) (map (parameter_in p.exprs.words) qs) (scope_in q)) (generic_of p.exprs decl.body.0)) e
    ∙ ap₃ (λ v l r. copy (globals_in p) (naming s0) (assign v (forms_at (forms s0.scene) l)) (parameters_bound (assign v (forms_at (forms s0.scene) l)) (map (parameter_in p.exprs.words) r) []) (generic_of p.exprs decl.body.0)) vs ms es in
    record {
      goes = from_entered s0 s2 k variables meant e h.goes;
      inside = h.inside;
      is = ap₃ (λ (y : Ident) (l : List Parameter) (t : Results TypeName). record { name = y; parameters = l; result = t; body = tree_of s2.exprs c.body.0 }) n ps r
          ∙ ap (λ (z : Expression). record {
            name = renamed decl.name (number_with s0.base (names_in s0.scene) (number_of decl.name) ts);
            parameters = map (copy_parameter (naming s0) m) tree;
            result = map_results (copy_written (naming s0) m) (results_in p.exprs.words decl.result);
            body = z;
          }) b
          ∙ ap (λ (y : GenericFunctionTree). copy_function (globals_in p) (naming s0) y ts) is;
    }

one_is : (a b : TypeName) → One a ≡ One b → a ≡ b
one_is a b e = cc

pub main_made : (p : GenericParts) (s0 s2 : Copier) (k : Scenery) (variables : List Ident) (meant : List TypeId) (main : GenericMain) (qs : List GenericParameter) (made : Vec Parameter) (name : TypeName) (body : ExprId) (ps : List Parameter) (d : Parameter) → variables ≡ [] → meant ≡ [] → main ≡ p.main → qs ≡ main.parameter ∷ []
    → k ≡ record { types = s0.scene.types; variables = variables; meant = meant; scope = []; entries = s0.scene.entries }
    → CopiesParts (globals_in p) (with_scene s0 k) s2 (record { parameters = made; result = result.One name; body = body }) (map (parameter_in p.exprs.words) qs) (One (type_in p.exprs.words main.result)) (generic_of p.exprs main.body.0) → ps ≡ made.items
    → CopiesMain (globals_in p) s0 s2 (record { parameter = get_or ps 0 d; result = name; body = body }) (generic_program_of p).main
main_made p s0 s2 k variables meant main qs made name body listed_ones d vs ms mm es e h same =
    let words = p.exprs.words in
    let m = assign [] NoForm in
    let q = parameter_in words main.parameter in
    let meant_is : assign variables (forms_at (forms s0.scene) meant) ≡ m = ap₂ (λ v l. assign v (forms_at (forms s0.scene) l)) vs ms in
    let ps : made.items ≡ copy_parameter (naming s0) m q ∷ [] =
    h.parameters ∙ ap (λ (z : Scenery). map (copy_parameter (naming (with_scene s0 z)) (meaning z)) (map (parameter_in words) qs)) e
    ∙ ap₂ (λ z r. map (copy_parameter (naming s0) z) (map (parameter_in words) r)) meant_is es in
    let r : name ≡ copy_written (naming s0) m (type_in words main.result) =
    one_is name (copy_written (naming (with_scene s0 k)) (meaning k) (type_in words main.result)) h.result ∙ ap (λ (z : Scenery). copy_written (naming (with_scene s0 z)) (meaning z) (type_in words main.result)) e ∙ ap (λ z. copy_written (naming s0) z (type_in words main.result)) meant_is in
    let b : tree_of s2.exprs body.0 ≡ copy (globals_in p) (naming s0) m (parameters_bound m (q ∷ []) []) (generic_of p.exprs main.body.0) =
    h.body ∙ ap (λ (z : Scenery). copy (globals_in p) (naming (with_scene s0 z)) (meaning z) (parameters_bound (meaning z) (map (parameter_in words) qs) (scope_in z)) (generic_of p.exprs main.body.0)) e
    ∙ ap₂ (λ z r. copy (globals_in p) (naming s0) z (parameters_bound z (map (parameter_in words) r) []) (generic_of p.exprs main.body.0)) meant_is es in
    record {
      goes = from_entered s0 s2 k variables meant e h.goes;
      inside = h.inside;
      is = ap₃ (λ (y : Parameter) (t : TypeName) (z : Expression). record { parameter = y; result = t; body = z }) (ap (λ (l : List Parameter). get_or l 0 d) (same ∙ ps)) r b
          ∙ ap (λ (z : GenericMain). copy_main (globals_in p) (naming s0) (main_in p.exprs z)) mm;
    }

-- all of them

pub data_declared : (g : GenericGlobals) (s0 s1 : Copier) (ds more : List DataDecl) (fs : List FunctionDecl) (c : DataDecl) (d : GenericDataTree) (ts : Forms) (cs : List Copy) → CopiesData s0 s1 c d ts → more ≡ ds ++ c ∷ [] → cs ≡ DataOf d ts ∷ [] → Declares g s0 s1 ds fs more fs cs
data_declared g s0 s1 ds more fs c d ts cs h m e = subst (Declares g s0 s1 ds fs more fs) (sym e) (record {
  goes = h.goes;
  more_datas = c ∷ [];
  datas = m;
  datas_are = ap (λ x. x ∷ []) h.is;
  more_functions = [];
  functions = sym (append-nil fs);
  inside = tt;
  functions_are = refl;
})

pub function_declared : (g : GenericGlobals) (s0 s1 : Copier) (ds : List DataDecl) (fs more : List FunctionDecl) (c : FunctionDecl) (f : GenericFunctionTree) (ts : Forms) (cs : List Copy) → CopiesFunction g s0 s1 c f ts → more ≡ fs ++ c ∷ [] → cs ≡ FunctionOf f ts ∷ [] → Declares g s0 s1 ds fs ds more cs
function_declared g s0 s1 ds fs more c f ts cs h m e = subst (Declares g s0 s1 ds fs ds more) (sym e) (record {
  goes = h.goes;
  more_datas = [];
  datas = sym (append-nil ds);
  datas_are = refl;
  more_functions = c ∷ [];
  functions = m;
  inside = (h.inside, tt);
  functions_are = ap (λ x. x ∷ []) h.is;
})

pub functions_stay : (xs ys : List Node) (fs : List FunctionDecl) → Grows xs ys → AllByRecursion (IsFunctionInside (length xs)) fs → AllByRecursion (IsFunctionInside (length ys)) fs
functions_stay xs ys [] g h = tt
functions_stay xs ys (f ∷ fs) g h = ((let l = h.0 in let m = g.longer in omega (arith, l, m)), functions_stay xs ys fs g h.1)

pub functions_same : (xs ys : List Node) (fs : List FunctionDecl) → Grows xs ys → AllByRecursion (IsFunctionInside (length xs)) fs → map (function_tree (tree_of ys)) fs ≡ map (function_tree (tree_of xs)) fs
functions_same xs ys [] g h = refl
functions_same xs ys (f ∷ fs) g h =
    ap₂ (λ (x : FunctionTree) (l : List FunctionTree). x ∷ l) (ap (λ (b : Expression). record { name = f.name; parameters = f.parameters.items; result = results_tree f.result; body = b }) (g.same f.body.0 h.0)) (functions_same xs ys fs g h.1)

functions_both : (n : ℕ) (xs ys : List FunctionDecl) → AllByRecursion (IsFunctionInside n) xs → AllByRecursion (IsFunctionInside n) ys → AllByRecursion (IsFunctionInside n) (xs ++ ys)
functions_both n [] ys h k = k
functions_both n (x ∷ xs) ys h k = (h.0, functions_both n xs ys h.1 k)

datas_both : (xs ys : List Copy) → datas_in (xs ++ ys) ≡ datas_in xs ++ datas_in ys
datas_both [] ys = refl
datas_both (DataOf d ts ∷ xs) ys = ap (λ l. record { decl = d; types = ts } ∷ l) (datas_both xs ys)
datas_both (FunctionOf f ts ∷ xs) ys = datas_both xs ys

copies_both : (xs ys : List Copy) → function_copies (xs ++ ys) ≡ function_copies xs ++ function_copies ys
copies_both [] ys = refl
copies_both (DataOf d ts ∷ xs) ys = copies_both xs ys
copies_both (FunctionOf f ts ∷ xs) ys = ap (λ l. record { function = f; types = ts } ∷ l) (copies_both xs ys)

declares_on : (g : GenericGlobals) (a b c : Copier) (ds es us : List DataDecl) (fs hs vs : List FunctionDecl) (xs ys : List Copy) → Declares g a b ds fs es hs xs → Declares g b c es hs us vs ys → Declares g a c ds fs us vs (xs ++ ys)
declares_on g a b c ds es us fs hs vs xs ys h k =
    let nm = naming_goes a b h.goes in
    record {
      goes = goes_on a b c h.goes k.goes;
      more_datas = h.more_datas ++ k.more_datas;
      datas = k.datas ∙ ap (λ l. l ++ k.more_datas) h.datas ∙ append_assoc ds h.more_datas k.more_datas;
      datas_are = map-append data_tree h.more_datas k.more_datas ∙ ap₂ (λ (l r : List DataTree). l ++ r) h.datas_are (k.datas_are ∙ ap (λ n. map (λ (q : DataCopy). copy_data n q.decl q.types) (datas_in ys)) nm)
          ∙ sym (ap (map (λ (q : DataCopy). copy_data (naming a) q.decl q.types)) (datas_both xs ys) ∙ map-append (λ (q : DataCopy). copy_data (naming a) q.decl q.types) (datas_in xs) (datas_in ys));
      more_functions = h.more_functions ++ k.more_functions;
      functions = k.functions ∙ ap (λ l. l ++ k.more_functions) h.functions ∙ append_assoc fs h.more_functions k.more_functions;
      inside = functions_both (length c.exprs) h.more_functions k.more_functions (functions_stay b.exprs c.exprs h.more_functions k.goes.puts h.inside) k.inside;
      functions_are = map-append (function_tree (tree_of c.exprs)) h.more_functions k.more_functions
          ∙ ap₂ (λ (l r : List FunctionTree). l ++ r) (functions_same b.exprs c.exprs h.more_functions k.goes.puts h.inside ∙ h.functions_are) (k.functions_are ∙ ap (λ n. map (λ (q : FunctionCopy). copy_function g n q.function q.types) (function_copies ys)) nm)
          ∙ sym (ap (map (λ (q : FunctionCopy). copy_function g (naming a) q.function q.types)) (copies_both xs ys) ∙ map-append (λ (q : FunctionCopy). copy_function g (naming a) q.function q.types) (function_copies xs) (function_copies ys));
    }

copies_last : (g : GenericGlobals) (fs : List Form) (keys : List CopyKey) (key : CopyKey) → copies_from g fs (keys ++ key ∷ []) ≡ copies_from g fs keys ++ copies_from g fs (key ∷ [])
copies_last g fs [] key = refl
copies_last g fs (x ∷ keys) key = by (copy_from g fs x) (copies_last g fs keys key) where
  by : (o : Option Copy) → copies_from g fs (keys ++ key ∷ []) ≡ copies_from g fs keys ++ copies_from g fs (key ∷ []) → copies_with o (copies_from g fs (keys ++ key ∷ [])) ≡ copies_with o (copies_from g fs keys) ++ copies_from g fs (key ∷ [])
  by None h = h
  by (Some c) h = ap (λ l. c ∷ l) h

pub record DeclaredSoFar (g : GenericGlobals) (old now : Copier) (keys rest : List CopyKey) (ds : List DataDecl) (fs : List FunctionDecl) : Type 0 where
  pub front : List CopyKey
  pub whole : front ++ rest ≡ keys
  pub inside : AreKeysInside g (length old.scene.types) rest
  pub is : Declares g old now [] [] ds fs (copies_from g (forms old.scene) front)

pub declared_start : (g : GenericGlobals) (s : Copier) (keys : List CopyKey) (ds : List DataDecl) (fs : List FunctionDecl) → ds ≡ [] → fs ≡ [] → AreKeysInside g (length s.scene.types) keys → DeclaredSoFar g s s keys keys ds fs
declared_start g s keys ds fs e f h = rw (e, f) (record {
  front = [];
  whole = refl;
  inside = h;
  is = record { goes = goes_same s; more_datas = []; datas = refl; datas_are = refl; more_functions = []; functions = refl; inside = tt; functions_are = refl };
})

key_later : (g : GenericGlobals) (old new : Copier) (key : CopyKey) → GrowsTo (forms old.scene) (forms new.scene) → IsKeyInside g (length old.scene.types) key → copies_from g (forms new.scene) (key ∷ []) ≡ copies_from g (forms old.scene) (key ∷ [])
key_later g old new (k.Data i is) h l = ap (λ ts. copies_with (data_asked (slice_get g.datas i) ts) []) (forms_grow old.scene.types new.scene.types is.items h l.1)
key_later g old new (k.Function i is) h l = ap (λ ts. copies_with (function_asked (slice_get g.functions i) ts) []) (forms_grow old.scene.types new.scene.types is.items h l.1)

key_more : (g : GenericGlobals) (m n : ℕ) (key : CopyKey) → m ≤ n → IsKeyInside g m key → IsKeyInside g n key
key_more g m n (k.Data i is) l h = (h.0, below_more m n is.items l h.1)
key_more g m n (k.Function i is) l h = (h.0, below_more m n is.items l h.1)

pub declared_next : (g : GenericGlobals) (old now new : Copier) (keys rest after : List CopyKey) (ds es : List DataDecl) (fs hs : List FunctionDecl) (key : CopyKey) → rest ≡ key ∷ after → DeclaredSoFar g old now keys rest ds fs → Declares g now new ds fs es hs (copies_from g (forms now.scene) (key ∷ []))
    → DeclaredSoFar g old new keys after es hs
declared_next g old now new keys rest after ds es fs hs key e h one =
    let here = subst (AreKeysInside g (length old.scene.types)) e h.inside in
    let step = subst (Declares g now new ds fs es hs) (key_later g old now key h.is.goes.grows here.0) one in
    record {
      front = h.front ++ key ∷ [];
      whole = append_assoc h.front (key ∷ []) after ∙ ap (λ l. h.front ++ l) (sym e) ∙ h.whole;
      inside = here.1;
      is = subst (Declares g old new [] [] es hs) (sym (copies_last g (forms old.scene) h.front key)) (declares_on g old now new [] ds es [] fs hs (copies_from g (forms old.scene) h.front) (copies_from g (forms old.scene) (key ∷ [])) h.is step);
    }

pub declared_inside : (g : GenericGlobals) (old now : Copier) (keys rest after : List CopyKey) (ds : List DataDecl) (fs : List FunctionDecl) (key : CopyKey) → rest ≡ key ∷ after → DeclaredSoFar g old now keys rest ds fs → IsKeyInside g (length now.scene.types) key
declared_inside g old now keys rest after ds fs key e h = key_more g (length old.scene.types) (length now.scene.types) key h.is.goes.longer (subst (AreKeysInside g (length old.scene.types)) e h.inside).0

pub declared_end : (g : GenericGlobals) (old now : Copier) (keys rest : List CopyKey) (ds : List DataDecl) (fs : List FunctionDecl) → rest ≡ [] → DeclaredSoFar g old now keys rest ds fs → Declares g old now [] [] ds fs (copies_from g (forms old.scene) keys)
declared_end g old now keys rest ds fs e h = subst (λ l. Declares g old now [] [] ds fs (copies_from g (forms old.scene) l)) (sym (append-nil h.front) ∙ ap (λ l. h.front ++ l) (sym e) ∙ h.whole) h.is
