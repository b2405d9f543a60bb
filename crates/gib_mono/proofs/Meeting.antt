-- Types that are met and variables that come into scope.
use Rattle.std.proofs.Common.{◌≡◌, ℕ, zero, suc, ◌<◌, List, [], ◌∷◌, ◌++◌, length, map, slice_get, get_or, Option, Some, None, refl, sym, ap, ap₂, ◌∙◌, arith, subst, append_assoc}
use Rattle.std.specs.Global.{Vec}
use Rattle.std.proofs.lemmas.List.{append-nil, length-map}
use Rattle.std.proofs.lemmas.Option.{same_Some, slice_get_within}
use Rattle.gib_types.specs.declared.types.TypeId.{TypeId}
use Rattle.gib_types.specs.Form.{Form, Forms, Meant, WholeForm}
use Rattle.gib_types.specs.Types.{form_at, forms_of, AreBelow, GrowsTo}
use Rattle.gib_syntax.specs.declared.tree.Ident.{Ident}
use Rattle.gib_syntax.specs.declared.written.Word.{Word}
use Rattle.gib_syntax.specs.declared.written.Run.{Run}
use Rattle.gib_syntax.specs.declared.written.ResultRuns.TheVariants as result
use Rattle.gib_syntax.specs.Results.{One, Several, map_results}
use Rattle.gib_check.specs.declared.rules.ResultIds.{ResultIds}
use Rattle.gib_check.specs.declared.rules.ResultIds.TheVariants as ids
use Rattle.gib_syntax.specs.declared.program.GenericConstructor.{GenericConstructor}
use Rattle.gib_syntax.specs.declared.program.GenericData.{GenericData}
use Rattle.gib_syntax.specs.declared.program.GenericFunction.{GenericFunction}
use Rattle.gib_syntax.specs.Declarations.{number_of, place_of}
use Rattle.gib_syntax.specs.Forms.{WrittenType, formed, assign}
use Rattle.gib_syntax.specs.Words.{stack_of, first_type, run_words, type_in}
use Rattle.gib_syntax.specs.GenericParts.{GenericParts, function_in, results_in, data_in, constructor_in}
use Rattle.gib_syntax.specs.GenericTree.{GenericFunctionTree, GenericDataTree, GenericConstructorTree, GenericRow, generic_named, place_named}
use Rattle.gib_syntax.specs.GenericTyping.{FormScope, form_bound}
use Rattle.gib_syntax.specs.declared.written.ResultRuns.{ResultRuns}
use Rattle.gib_mono.specs.declared.copier.Copier.{Copier}
use Rattle.gib_check.specs.declared.named.RowDecl.{RowDecl}
use Rattle.gib_check.specs.NameViews.{row_in, variables_at}
use Rattle.gib_check.specs.Faults.{row_at, row_named}
use Rattle.gib_mono.specs.declared.reading.Reading.{Reading}
use Rattle.gib_mono.specs.Copying.{results_at, forms_named, bind_forms, forms_at as row_forms}
use Rattle.gib_mono.specs.Made.{Stays, Meets, MeetsAll, Gives, Binds, first_form}
use Rattle.gib_mono.specs.Reading.{listed}
use Rattle.gib_mono.specs.Scenes.{Scenery, forms, scope_in, Keeps, ReadsIn}
use Rattle.gib_mono.specs.Sources.{globals_in}
use Rattle.gib_mono.proofs.InScene.{scope_last}
use Rattle.gib_mono.proofs.Making.{stays_same, stays_on, parts_same, parts_on, grows_same, grows_on as nodes_grow_on}
use Rattle.gib_mono.proofs.Read.{grows_none, listed_grow}
use Rattle.gib_check.proofs.Growing.{below_more}
use Rattle.gib_check.proofs.RowRules.{get_map}
use Rattle.gib_check.proofs.Singles.{listed_push, below_push}

abbrev pub with_scene : Copier → Scenery → Copier
with_scene s k = record { alloc = s.alloc; scene = k; parts = s.parts; base = s.base; exprs = s.exprs }

pub scene_stays : (s : Copier) (k : Scenery) → Keeps s.scene k → Stays s (with_scene s k)
scene_stays s k h = record { keeps = h; parts = parts_same s (with_scene s k) refl; base = refl; grows = (stays_same s).grows }

-- results

pub first_formed : (m : Meant) (st : List WrittenType) → first_form (map (formed m) st) ≡ formed m (first_type st)
first_formed m [] = refl
first_formed m (w ∷ st) = refl

pub at_met : (s0 s2 : Copier) (k : Scenery) (id : TypeId) (vs : List Ident) (ts : Forms) (words : List Word) (r : Reading) → ReadsIn s0.scene k (assign vs ts) words r → Meets (with_scene s0 k) s2 id (first_form (listed (forms k) r.types)) → Meets s0 s2 id (formed (assign vs ts) (first_type (stack_of words)))
at_met s0 s2 k id vs ts words r read m = record {
  stays = stays_on s0 (with_scene s0 k) s2 (scene_stays s0 k read.keeps) m.stays;
  below = m.below;
  form = m.form ∙ ap first_form read.types ∙ first_formed (assign vs ts) (stack_of words);
}

found_result : (p : GenericParts) (place f : ℕ) (h : GenericFunctionTree) (decl : GenericFunction) (ts : Forms) → slice_get (globals_in p).functions place ≡ Some h → generic_named (globals_in p).functions f ≡ Some h → slice_get p.functions place ≡ Some decl
    → map_results (formed (assign decl.variables.items ts)) (results_in p.exprs.words decl.result) ≡ results_at (generic_named (globals_in p).functions f) ts
found_result p place f h decl ts there named at =
    let is : function_in p.exprs decl ≡ h = same_Some (function_in p.exprs decl) h (sym (get_map (function_in p.exprs) p.functions place decl at) ∙ there) in
    ap (λ o. results_at o ts) (ap Some is ∙ sym named)

pub one_given : (words : List Word) (m : Meant) (s0 s2 : Copier) (id : TypeId) (r : ResultRuns) (run : Run) (text : List Word) → r ≡ result.One run → text ≡ run_words words run → Meets s0 s2 id (formed m (first_type (stack_of text)))
    → Gives s0 s2 (ids.One id) (map_results (formed m) (results_in words r))
one_given words m s0 s2 id r run text e w h = record {
  stays = h.stays;
  met = h.below;
  forms = ap One (h.form ∙ ap (λ ws. formed m (first_type (stack_of ws))) w) ∙ ap (λ q. map_results (formed m) (results_in words q)) (sym e);
}

pub parts_put : (m : Meant) (s0 s1 s2 : Copier) (given : ResultIds) (types us : List TypeId) (ws : List WrittenType) → MeetsAll s0 s1 types (map (formed m) ws) → us ≡ types → Gives s1 s2 given (Several (listed (forms s1.scene) us))
    → Gives s0 s2 given (Several (map (formed m) ws))
parts_put m s0 s1 s2 given types us ws h u o = record {
  stays = stays_on s0 s1 s2 h.stays o.stays;
  met = o.met;
  forms = o.forms ∙ ap Several (ap (listed (forms s1.scene)) u ∙ h.forms);
}

pub parts_given : (words : List Word) (m : Meant) (s0 s2 : Copier) (given : ResultIds) (r : ResultRuns) (runs : Vec Run) (rs : List Run) → r ≡ result.Several runs → rs ≡ runs.items → Gives s0 s2 given (Several (map (formed m) (map (type_in words) rs)))
    → Gives s0 s2 given (map_results (formed m) (results_in words r))
parts_given words m s0 s2 given r runs rs e w h = record {
  stays = h.stays;
  met = h.met;
  forms = h.forms ∙ ap (λ q. Several (map (formed m) (map (type_in words) q))) w ∙ ap (λ q. map_results (formed m) (results_in words q)) (sym e);
}

pub result_met : (p : GenericParts) (s0 s2 : Copier) (given : ResultIds) (place f : ℕ) (h : GenericFunctionTree) (decl : GenericFunction) (vs : List Ident) (ts : Forms) (r : ResultRuns) → slice_get (globals_in p).functions place ≡ Some h
    → generic_named (globals_in p).functions f ≡ Some h → slice_get p.functions place ≡ Some decl → vs ≡ decl.variables.items → r ≡ decl.result → Gives s0 s2 given (map_results (formed (assign vs ts)) (results_in p.exprs.words r))
    → Gives s0 s2 given (results_at (generic_named (globals_in p).functions f) ts)
result_met p s0 s2 given place f h decl vs ts r there named at v e g = record {
  stays = g.stays;
  met = g.met;
  forms = g.forms ∙ ap₂ (λ l q. map_results (formed (assign l ts)) (results_in p.exprs.words q)) v e ∙ found_result p place f h decl ts there named at;
}

pub no_result : (p : GenericParts) (s0 s1 : Copier) (id : TypeId) (f : ℕ) (ts : Forms) → generic_named (globals_in p).functions f ≡ None → Meets s0 s1 id WholeForm → Gives s0 s1 (ids.One id) (results_at (generic_named (globals_in p).functions f) ts)
no_result p s0 s1 id f ts e m = record { stays = m.stays; met = m.below; forms = ap One m.form ∙ ap (λ o. results_at o ts) (sym e) }

-- types of parts, one after the other
pub record PartsMet (words : List Word) (m : Meant) (old now : Copier) (ids : List TypeId) (rest all : List Run) : Type 0 where
  pub stays : Stays old now
  pub below : AreBelow (length now.scene.types) ids
  pub forms : listed (forms now.scene) ids ++ map (formed m) (map (type_in words) rest) ≡ map (formed m) (map (type_in words) all)

pub parts_start : (words : List Word) (m : Meant) (s : Copier) (ids : List TypeId) (all : List Run) → ids ≡ [] → PartsMet words m s s ids all all
parts_start words m s ids all e = rw e (record { stays = stays_same s; below = tt; forms = refl })

pub parts_next : (words : List Word) (m : Meant) (old now new : Copier) (ids more : List TypeId) (rest after all : List Run) (run : Run) (text : List Word) (t : TypeId) → rest ≡ run ∷ after → text ≡ run_words words run → PartsMet words m old now ids rest all
    → Meets now new t (formed m (first_type (stack_of text))) → more ≡ ids ++ t ∷ [] → PartsMet words m old new more after all
parts_next words m old now new ids more rest after all run text t e f h one p = record {
  stays = stays_on old now new h.stays one.stays;
  below = subst (AreBelow (length new.scene.types)) (sym p) (below_push (length new.scene.types) ids t (below_more (length now.scene.types) (length new.scene.types) ids one.stays.keeps.longer h.below) one.below);
  forms = ap (λ l. l ++ map (formed m) (map (type_in words) after))
      (ap (listed (forms new.scene)) p ∙ listed_push (forms new.scene) ids t
      ∙ ap₂ (λ (l : List Form) (u : Form). l ++ u ∷ []) (listed_grow now.scene.types new.scene.types ids one.stays.keeps.grows h.below) (one.form ∙ ap (λ ws. formed m (first_type (stack_of ws))) f))
      ∙ append_assoc (listed (forms now.scene) ids) (formed m (type_in words run) ∷ []) (map (formed m) (map (type_in words) after))
      ∙ ap (λ l. listed (forms now.scene) ids ++ map (formed m) (map (type_in words) l)) (sym e) ∙ h.forms;
}

pub parts_end : (words : List Word) (m : Meant) (old now : Copier) (ids : List TypeId) (rest all : List Run) → rest ≡ [] → PartsMet words m old now ids rest all → MeetsAll old now ids (map (formed m) (map (type_in words) all))
parts_end words m old now ids rest all e h = record {
  stays = h.stays;
  below = h.below;
  forms = sym (append-nil (listed (forms now.scene) ids)) ∙ ap (λ l. listed (forms now.scene) ids ++ map (formed m) (map (type_in words) l)) (sym e) ∙ h.forms;
}

-- fields

fields_of : (rows : List GenericRow) (o : Option ℕ) (ts : Forms) → row_forms (row_at rows o) ts ≡ forms_named rows o ts
fields_of rows None ts = refl
fields_of rows (Some c) ts = refl

pub no_fields : (p : GenericParts) (s : Copier) (ids : List TypeId) (x : ℕ) (ts : Forms) → ids ≡ [] → None ≡ row_named (globals_in p).rows x → MeetsAll s s ids (forms_named (globals_in p).rows (place_named (globals_in p).rows x) ts)
no_fields p s ids x ts e none =
    rw e (record { stays = stays_same s; below = tt; forms = ap (λ o. row_forms o ts) none ∙ fields_of (globals_in p).rows (place_named (globals_in p).rows x) ts })

-- so where the constructor was looked up, and the types were taken out of a stack
pub row_met : (p : GenericParts) (s0 : Copier) (k : Scenery) (row : RowDecl) (x : ℕ) (vs : List Ident) (ts : Forms) (words : List Word) (r : Reading) (ids : List TypeId) → Some (row_in p row) ≡ row_named (globals_in p).rows x
    → vs ≡ variables_at p.datas row.declaration → words ≡ run_words p.exprs.words row.fields → ReadsIn s0.scene k (assign vs ts) words r → ids ≡ r.types
    → MeetsAll s0 (with_scene s0 k) ids (forms_named (globals_in p).rows (place_named (globals_in p).rows x) ts)
row_met p s0 k row x vs ts words r ids at v w read out =
    subst (λ l. MeetsAll s0 (with_scene s0 k) l (forms_named (globals_in p).rows (place_named (globals_in p).rows x) ts)) (sym out)
    (record {
      stays = scene_stays s0 k read.keeps;
      below = read.below.0;
      forms = read.types ∙ ap₂ (λ l ws. map (formed (assign l ts)) (stack_of ws)) v w ∙ ap (λ o. row_forms o ts) at ∙ fields_of (globals_in p).rows (place_named (globals_in p).rows x) ts;
    })

-- variables in scope

pub bound : (s : Copier) (x : Ident) (ty : TypeId) (k : Scenery) → k ≡ record s.scene { scope = s.scene.scope ++ record { name = number_of x; ty = ty } ∷ [] } → Binds s (with_scene s k) (form_bound x (form_at (forms s.scene) ty.0) (scope_in s.scene))
bound s x ty k e = rw e (record {
  puts = grows_same s.exprs;
  parts = record { more = []; is = sym (append-nil s.parts.items) };
  base = refl;
  grows = grows_none (forms s.scene);
  longer = omega arith;
  meaning = refl;
  names = refl;
  scope = scope_last (forms s.scene) s.scene.scope (record { name = number_of x; ty = ty });
  more = record { name = number_of x; ty = ty } ∷ [];
  kept = refl;
})

pub record BoundSoFar (old now : Copier) (names : List Ident) (left : List TypeId) (whole : FormScope) : Type 0 where
  pub scope : FormScope
  pub binds : Binds old now scope
  pub same : now.scene.types ≡ old.scene.types
  pub below : AreBelow (length old.scene.types) left
  pub is : bind_forms names (listed (forms old.scene) left) scope ≡ whole

pub bound_start : (s : Copier) (names : List Ident) (left : List TypeId) → AreBelow (length s.scene.types) left → BoundSoFar s s names left (bind_forms names (listed (forms s.scene) left) (scope_in s.scene))
bound_start s names left h = record {
  scope = scope_in s.scene;
  binds = record { puts = grows_same s.exprs; parts = parts_same s s refl; base = refl; grows = grows_none (forms s.scene); longer = omega arith; meaning = refl; names = refl; scope = refl; more = []; kept = sym (append-nil s.scene.scope) };
  same = refl;
  below = h;
  is = refl;
}

pub bound_next : (old now new : Copier) (names after : List Ident) (left rest : List TypeId) (whole : FormScope) (x : Ident) (t : TypeId) → names ≡ x ∷ after → left ≡ t ∷ rest → BoundSoFar old now names left whole
    → Binds now new (form_bound x (form_at (forms now.scene) t.0) (scope_in now.scene)) → new.scene.types ≡ now.scene.types → BoundSoFar old new after rest whole
bound_next old now new names after left rest whole x t e f h one same = record {
  scope = form_bound x (form_at (forms old.scene) t.0) h.scope;
  binds = record {
    puts = nodes_grow_on old.exprs now.exprs new.exprs h.binds.puts one.puts;
    parts = parts_on old now new h.binds.parts one.parts;
    base = one.base ∙ h.binds.base;
    grows = subst (λ ns. GrowsTo (forms old.scene) (forms_of ns)) (sym (same ∙ h.same)) (grows_none (forms old.scene));
    longer = (let l = h.binds.longer in let m = one.longer in omega (arith, l, m));
    meaning = one.meaning ∙ h.binds.meaning;
    names = one.names ∙ h.binds.names;
    scope = one.scope ∙ ap₂ (λ g sc. form_bound x g sc) (ap (λ ns. form_at (forms_of ns) t.0) h.same) h.binds.scope;
    more = h.binds.more ++ one.more;
    kept = one.kept ∙ ap (λ l. l ++ one.more) h.binds.kept ∙ append_assoc old.scene.scope h.binds.more one.more;
  };
  same = same ∙ h.same;
  below = (subst (AreBelow (length old.scene.types)) f h.below).1;
  is = sym (ap₂ (λ l r. bind_forms l (listed (forms old.scene) r) h.scope) e f) ∙ h.is;
}

pub bound_below : (old now : Copier) (names : List Ident) (left rest : List TypeId) (whole : FormScope) (t : TypeId) → left ≡ t ∷ rest → BoundSoFar old now names left whole → t.0 < length now.scene.types
bound_below old now names left rest whole t f h = subst (λ ns. t.0 < length ns) (sym h.same) (subst (AreBelow (length old.scene.types)) f h.below).0

nothing_left : (names : List Ident) (sc : FormScope) → bind_forms names [] sc ≡ sc
nothing_left [] sc = refl
nothing_left (x ∷ names) sc = refl

pub bound_end : (old now : Copier) (names : List Ident) (left : List TypeId) (whole : FormScope) → names ≡ [] → BoundSoFar old now names left whole → Binds old now whole
bound_end old now names left whole e h = subst (Binds old now) (sym (ap (λ l. bind_forms l (listed (forms old.scene) left) h.scope) e) ∙ h.is) h.binds

pub bound_stop : (old now : Copier) (names : List Ident) (left : List TypeId) (whole : FormScope) → left ≡ [] → BoundSoFar old now names left whole → Binds old now whole
bound_stop old now names left whole e h = subst (Binds old now) (sym (ap (λ l. bind_forms names (listed (forms old.scene) l) h.scope) e ∙ nothing_left names h.scope) ∙ h.is) h.binds

pub fields_bound : (s0 s1 s2 : Copier) (variables : List Ident) (ids us : List TypeId) (fields : List Form) → MeetsAll s0 s1 ids fields → us ≡ ids → Binds s1 s2 (bind_forms variables (listed (forms s1.scene) us) (scope_in s1.scene))
    → Binds s0 s2 (bind_forms variables fields (scope_in s0.scene))
fields_bound s0 s1 s2 variables ids us fields m e b = record {
  puts = nodes_grow_on s0.exprs s1.exprs s2.exprs m.stays.grows b.puts;
  parts = parts_on s0 s1 s2 m.stays.parts b.parts;
  base = b.base ∙ m.stays.base;
  grows = Rattle.gib_mono.proofs.Read.grows_on s0.scene.types s1.scene.types s2.scene.types m.stays.keeps.grows b.grows;
  longer = (let l = b.longer in let k = m.stays.keeps.longer in omega (arith, l, k));
  meaning = b.meaning ∙ m.stays.keeps.meaning;
  names = b.names ∙ m.stays.keeps.names;
  scope = b.scope ∙ ap₂ (λ fs sc. bind_forms variables fs sc) (ap (listed (forms s1.scene)) e ∙ m.forms) m.stays.keeps.scope;
  more = b.more;
  kept = b.kept ∙ ap (λ l. l ++ b.more) m.stays.keeps.kept;
}
