-- What the loops of the walk keep.
use Rattle.std.proofs.Common.{◌≡◌, ℕ, suc, ◌+◌, ◌<◌, ◌≤◌, ◌-◌, ◌⊎◌, inl, inr, List, [], ◌∷◌, ◌++◌, take, drop, get_or, length, map, arith, Ok, Err, refl, sym, ap, ap₂, ◌∙◌, subst, append_assoc}
use Rattle.std.proofs.lemmas.List.{append-nil, length-append}
use Rattle.std.proofs.Math.Seq.{drop-append_seam}
use Rattle.std.specs.List.{AllByRecursion}
use Rattle.gib_types.specs.declared.types.TypeId.{TypeId}
use Rattle.gib_types.specs.declared.types.TypeNode.{TypeNode}
use Rattle.gib_types.specs.Form.{Form, Forms, Meant}
use Rattle.gib_types.specs.Types.{form_at, forms_at, forms_of, AreBelow}
use Rattle.gib_syntax.specs.declared.exprs.ExprId.{ExprId}
use Rattle.gib_syntax.specs.declared.exprs.Arm.{Arm}
use Rattle.gib_syntax.specs.declared.tree.Ident.{Ident}
use Rattle.gib_syntax.specs.declared.written.Run.{Run}
use Rattle.gib_syntax.specs.declared.written.Word.{Word}
use Rattle.gib_syntax.specs.Results.{Results}
use Rattle.gib_syntax.specs.Words.{type_in}
use Rattle.gib_syntax.specs.Forms.{formed, assign}
use Rattle.gib_syntax.specs.GenericTree.{GenericExpression}
use Rattle.gib_syntax.specs.GenericTyping.{FormScope, form_bound, variable_numbers, opaque}
use Rattle.gib_syntax.specs.GenericArena.{IsArmBelow, arguments_from}
use Rattle.gib_syntax.specs.GenericParts.{GenericParts}
use Rattle.gib_check.specs.declared.counts.Counts.{Counts}
use Rattle.gib_check.specs.declared.fault.TypeFault.{TypeFault}
use Rattle.gib_check.specs.declared.fault.TypeFault.TheVariants as t
use Rattle.gib_check.specs.declared.rules.Part.{Part}
use Rattle.gib_check.specs.declared.rules.ResultIds.{ResultIds}
use Rattle.gib_check.specs.declared.standing.Standing.{Standing}
use Rattle.gib_check.specs.declared.standing.Standing.TheVariants.{NoTuple}
use Rattle.gib_check.specs.declared.reading.Meaning.{Meaning}
use Rattle.gib_check.specs.declared.reading.Meaning.TheVariants as meaning
use Rattle.gib_check.specs.Answers.{IsFaultOf}
use Rattle.gib_check.specs.Faults.{Checked, and_then, FormPart, place, new_variable, bind_all, part_variable, bind_parts, infer, infer_all, infer_arm}
use Rattle.gib_check.specs.NameViews.{generic_globals, generic_tree}
use Rattle.gib_check.specs.Judging.{Judging, forms, in_scope, Grows, Keeps, Advances, Met, AllMet, listed, forms_given, AreMet, meant_by, IsMeaningBelow, part_in, parts_in, ArePartsMet, infer_each_arm}
use Rattle.gib_check.proofs.Growing.{forms_grow, below_more, advances_none, advances_on, parts_stay, parts_grow, parts_push, parts_met_push}
use Rattle.gib_check.proofs.RowLists.{rest-is}

-- Parts put before those that follow.
abbrev pub behind : List FormPart → Checked (List FormPart × Counts) → Checked (List FormPart × Counts)
behind done r = and_then r (λ x. Ok (done ++ x.0, x.1))

behind-none : (r : Checked (List FormPart × Counts)) → r ≡ behind [] r
behind-none (Ok x) = refl
behind-none (Err e) = refl

behind-more : (done : List FormPart) (part : FormPart) (r : Checked (List FormPart × Counts)) → behind done (and_then r (λ x. Ok (part ∷ x.0, x.1))) ≡ behind (done ++ part ∷ []) r
behind-more done part (Ok x) = ap (λ (z : List FormPart). Ok (z, x.1)) (sym (append_assoc done (part ∷ []) x.0))
behind-more done part (Err e) = refl

-- A fault is passed on.
pub passed_on : {A B : Type 0} (e : TypeFault) (c : Checked A) (go : A → Checked B) → IsFaultOf e c → IsFaultOf e (and_then c go)
passed_on t.Memory c go h = tt
passed_on (t.Broken fault) c go h = ap (λ z. and_then z go) h

pub along : {B : Type 0} (e : TypeFault) (c d : Checked B) → c ≡ d → IsFaultOf e d → IsFaultOf e c
along t.Memory c d q h = tt
along (t.Broken fault) c d q h = q ∙ h

-- What follows an answer.
pub behind_ok : {A B : Type 0} (c : Checked A) (go : A → Checked B) (x : A) → c ≡ Ok x → and_then c go ≡ go x
behind_ok c go x e = ap (λ z. and_then z go) e

pub fault_after : {A B : Type 0} (e : TypeFault) (c : Checked A) (go : A → Checked B) (x : A) → c ≡ Ok x → IsFaultOf e (go x) → IsFaultOf e (and_then c go)
fault_after e c go x q h = along e (and_then c go) (go x) (behind_ok c go x q) h

-- What stands behind what was added.
pub added_kept : (added now start : FormScope) → now ≡ added ++ start → drop (length now - length start) now ≡ start
added_kept added now start e =
    let n : length now - length start ≡ length added = (let l = ap (λ (z : FormScope). length z) e in omega (arith, l, length-append added start)) in
    ap (λ k. drop k now) n ∙ ap (drop (length added)) e ∙ drop-append_seam added start

-- Some of the variables were bound.
pub record BindsSoFar (start now : Judging) (variables names : List Ident) (fields ids : List TypeId) : Type 0 where
  pub added : FormScope
  pub scope : in_scope now ≡ added ++ in_scope start
  pub types : now.types ≡ start.types
  pub parts : now.parts ≡ start.parts
  pub below : AreBelow (length start.types) ids
  pub read : bind_all (in_scope start) start.counts variables (listed (forms start) fields) ≡ bind_all (in_scope now) now.counts names (listed (forms start) ids)

pub binds_start : (start : Judging) (variables : List Ident) (fields : List TypeId) → AreBelow (length start.types) fields → BindsSoFar start start variables variables fields fields
binds_start start variables fields h = record { added = []; scope = refl; types = refl; parts = refl; below = h; read = refl }

binds_more : (start now newer : Judging) (variables after : List Ident) (name : Ident) (fields later : List TypeId) (ty : TypeId) → BindsSoFar start now variables (name ∷ after) fields (ty ∷ later) → new_variable (in_scope now) now.counts name ≡ Ok newer.counts → in_scope newer ≡ form_bound name (form_at (forms now) ty.0) (in_scope now) → newer.types ≡ now.types → newer.parts ≡ now.parts → BindsSoFar start newer variables after fields later
binds_more start now newer variables after name fields later ty h e es et ep =
    let same : form_at (forms now) ty.0 ≡ form_at (forms start) ty.0 = ap (λ ns. form_at (forms_of ns) ty.0) h.types in
    let es' : in_scope newer ≡ form_bound name (form_at (forms start) ty.0) (in_scope now) = es ∙ ap (λ f. form_bound name f (in_scope now)) same in
    record {
      added = (name.name.0, form_at (forms start) ty.0) ∷ h.added;
      scope = es' ∙ ap (λ (z : FormScope). (name.name.0, form_at (forms start) ty.0) ∷ z) h.scope;
      types = et ∙ h.types;
      parts = ep ∙ h.parts;
      below = h.below.1;
      read = h.read ∙ ap (λ z. and_then z (λ m. bind_all (form_bound name (form_at (forms start) ty.0) (in_scope now)) m after (listed (forms start) later))) e
          ∙ ap (λ z. bind_all z newer.counts after (listed (forms start) later)) (sym es');
    }

pub binds_kept : (start now : Judging) (variables names : List Ident) (fields ids : List TypeId) → BindsSoFar start now variables names fields ids → drop (length (in_scope now) - length (in_scope start)) (in_scope now) ≡ in_scope start
binds_kept start now variables names fields ids h = added_kept h.added (in_scope now) (in_scope start) h.scope

-- The next variable, where there are a name and a field left.
pub binds_next : (start now newer : Judging) (variables names : List Ident) (fields ids : List TypeId) (d : Ident) (e : TypeId) → 1 ≤ length names → 1 ≤ length ids → BindsSoFar start now variables names fields ids → new_variable (in_scope now) now.counts (get_or names 0 d) ≡ Ok newer.counts → in_scope newer ≡ form_bound (get_or names 0 d) (form_at (forms now) (get_or ids 0 e).0) (in_scope now) → newer.types ≡ now.types → newer.parts ≡ now.parts → BindsSoFar start newer variables (take (length names - 1) (drop 1 names)) fields (take (length ids - 1) (drop 1 ids))
binds_next start now newer variables [] fields ids d e ln lf h q es et ep = absurd (omega (arith, ln))
binds_next start now newer variables (x ∷ names) fields [] d e ln lf h q es et ep = absurd (omega (arith, lf))
binds_next start now newer variables (x ∷ names) fields (i ∷ ids) d e ln lf h q es et ep =
    subst (λ z. BindsSoFar start newer variables z fields (take (length (i ∷ ids) - 1) ids)) (sym (rest-is x names))
    (subst (λ z. BindsSoFar start newer variables names fields z) (sym (rest-is i ids))
    (binds_more start now newer variables names x fields ids i h q es et ep))

pub bind_below : (start now : Judging) (variables names : List Ident) (fields ids : List TypeId) (e : TypeId) → 1 ≤ length ids → BindsSoFar start now variables names fields ids → (get_or ids 0 e).0 < length now.types
bind_below start now variables names fields [] e l h = absurd (omega (arith, l))
bind_below start now variables names fields (i ∷ ids) e l h = subst (λ ns. i.0 < length ns) (sym h.types) h.below.0

-- Some of the variables for parts were bound.
pub record PartsSoFar (start now : Judging) (variables names : List Ident) (due ids : List TypeId) (before : ℕ) : Type 0 where
  pub added : FormScope
  pub scope : in_scope now ≡ added ++ in_scope start
  pub types : now.types ≡ start.types
  pub parts : now.parts ≡ start.parts
  pub below : AreBelow (length start.types) ids
  pub read : bind_parts 0 (in_scope start) start.counts variables (listed (forms start) due) ≡ bind_parts before (in_scope now) now.counts names (listed (forms start) ids)

pub parts_start : (start : Judging) (variables : List Ident) (types : List TypeId) → AreBelow (length start.types) types → PartsSoFar start start variables variables types types 0
parts_start start variables types h = record { added = []; scope = refl; types = refl; parts = refl; below = h; read = refl }

-- The next variable, where there are a name and a type left.
pub parts_next : (start now newer : Judging) (variables names : List Ident) (types ids : List TypeId) (before : ℕ) (d : Ident) (e : TypeId) → 1 ≤ length names → 1 ≤ length ids → PartsSoFar start now variables names types ids before → part_variable before (in_scope now) now.counts (get_or names 0 d) ≡ Ok newer.counts → in_scope newer ≡ form_bound (get_or names 0 d) (form_at (forms now) (get_or ids 0 e).0) (in_scope now) → newer.types ≡ now.types → newer.parts ≡ now.parts → PartsSoFar start newer variables (take (length names - 1) (drop 1 names)) types (take (length ids - 1) (drop 1 ids)) (before + 1)
parts_next start now newer variables [] types ids before d e ln lf h q es et ep = absurd (omega (arith, ln))
parts_next start now newer variables (x ∷ names) types [] before d e ln lf h q es et ep = absurd (omega (arith, lf))
parts_next start now newer variables (x ∷ names) types (i ∷ ids) before d e ln lf h q es et ep =
    let same : form_at (forms now) i.0 ≡ form_at (forms start) i.0 = ap (λ ns. form_at (forms_of ns) i.0) h.types in
    let es' : in_scope newer ≡ form_bound x (form_at (forms start) i.0) (in_scope now) = es ∙ ap (λ f. form_bound x f (in_scope now)) same in
    let up : suc before ≡ before + 1 = omega arith in
    subst (λ z. PartsSoFar start newer variables z types (take (length (i ∷ ids) - 1) ids) (before + 1)) (sym (rest-is x names))
    (subst (λ z. PartsSoFar start newer variables names types z (before + 1)) (sym (rest-is i ids))
    (record {
      added = (x.name.0, form_at (forms start) i.0) ∷ h.added;
      scope = es' ∙ ap (λ (z : FormScope). (x.name.0, form_at (forms start) i.0) ∷ z) h.scope;
      types = et ∙ h.types;
      parts = ep ∙ h.parts;
      below = h.below.1;
      read = h.read ∙ ap (λ z. and_then z (λ m. bind_parts (suc before) (form_bound x (form_at (forms start) i.0) (in_scope now)) m names (listed (forms start) ids))) q
          ∙ ap₂ (λ (k : ℕ) (z : FormScope). bind_parts k z newer.counts names (listed (forms start) ids)) up (sym es');
    }))

pub part_below : (start now : Judging) (variables names : List Ident) (types ids : List TypeId) (before : ℕ) (e : TypeId) → 1 ≤ length ids → PartsSoFar start now variables names types ids before → (get_or ids 0 e).0 < length now.types
part_below start now variables names types [] before e l h = absurd (omega (arith, l))
part_below start now variables names types (i ∷ ids) before e l h = subst (λ ns. i.0 < length ns) (sym h.types) h.below.0

pub parts_fail : (start now : Judging) (variables names : List Ident) (types ids : List TypeId) (before : ℕ) (d : Ident) (e : TypeFault) → 1 ≤ length names → 1 ≤ length ids → PartsSoFar start now variables names types ids before → IsFaultOf e (part_variable before (in_scope now) now.counts (get_or names 0 d)) → IsFaultOf e (bind_parts 0 (in_scope start) start.counts variables (listed (forms start) types))
parts_fail start now variables [] types ids before d e ln li h f = absurd (omega (arith, ln))
parts_fail start now variables (x ∷ names) types [] before d e ln li h f = absurd (omega (arith, li))
parts_fail start now variables (x ∷ names) types (i ∷ ids) before d e ln li h f = along e _ _ h.read (passed_on e _ _ f)

pub parts_end : (start now : Judging) (variables names : List Ident) (types ids : List TypeId) (before : ℕ) → (length names < 1) ⊎ (length ids < 1) → PartsSoFar start now variables names types ids before → bind_parts 0 (in_scope start) start.counts variables (listed (forms start) types) ≡ Ok (in_scope now, now.counts)
parts_end start now variables [] types ids before l h = h.read
parts_end start now variables (x ∷ names) types [] before l h = h.read
parts_end start now variables (x ∷ names) types (i ∷ ids) before (inl l) h = absurd (omega (arith, l))
parts_end start now variables (x ∷ names) types (i ∷ ids) before (inr l) h = absurd (omega (arith, l))

pub binds_fails : (start now : Judging) (variables names : List Ident) (fields ids : List TypeId) (d : Ident) (e : TypeFault) → 1 ≤ length names → 1 ≤ length ids → BindsSoFar start now variables names fields ids → IsFaultOf e (new_variable (in_scope now) now.counts (get_or names 0 d)) → IsFaultOf e (bind_all (in_scope start) start.counts variables (listed (forms start) fields))
binds_fails start now variables [] fields ids d e ln li h f = absurd (omega (arith, ln))
binds_fails start now variables (x ∷ names) fields [] d e ln li h f = absurd (omega (arith, li))
binds_fails start now variables (x ∷ names) fields (i ∷ ids) d e ln li h f = along e _ _ h.read (passed_on e _ _ f)

-- A meaning stays where more types are met.
pub meaning_more : (b c : ℕ) (m : Meaning) → b ≤ c → IsMeaningBelow b m → IsMeaningBelow c m
meaning_more b c meaning.Opaque l h = tt
meaning_more b c (meaning.Given vs is) l h = below_more b c is.items l h

pub meaning_grows : (old new : List TypeNode) (m : Meaning) → Grows old new → IsMeaningBelow (length old) m → meant_by (forms_of new) m ≡ meant_by (forms_of old) m
meaning_grows old new meaning.Opaque g h = refl
meaning_grows old new (meaning.Given vs is) g h = ap (assign vs.items) (forms_grow old new is.items g h)

-- Types that runs spell, one after another.
abbrev pub run_meant : List Word → Meant → Run → Form
run_meant words m run = formed m (type_in words run)

pub record RunsSoFar (words : List Word) (start now : Judging) (m : Meaning) (runs rest : List Run) (ids : List TypeId) : Type 0 where
  pub keeps : Keeps start now
  pub below : AreBelow (length now.types) ids
  pub meaning : IsMeaningBelow (length start.types) m
  pub types : listed (forms now) ids ++ map (run_meant words (meant_by (forms start) m)) rest ≡ map (run_meant words (meant_by (forms start) m)) runs

-- Some of the arguments were looked at.
pub record ArgumentsSoFar (parts : GenericParts) (variables : List Ident) (id : ℕ) (start now : Judging) (ids rest : List ExprId) (done : List Part) : Type 0 where
  pub below : AllByRecursion (λ (a : ExprId). a.0 < id) rest
  pub scope : in_scope now ≡ in_scope start
  pub met : AllMet start now done
  pub read : infer_all (generic_globals parts) (variable_numbers variables) opaque (in_scope start) start.counts (arguments_from (generic_tree parts) ids) ≡ behind (parts_in now done) (infer_all (generic_globals parts) (variable_numbers variables) opaque (in_scope start) now.counts (arguments_from (generic_tree parts) rest))

pub all_met_none : (s : Judging) → AllMet s s []
all_met_none s = record { advances = advances_none s; here = tt }

-- One more part.
pub all_met_more : (old now new : Judging) (done more : List Part) (ty : ResultIds) (part : Part) → AllMet old now done → Met now new ty → part.ty ≡ ty → more ≡ done ++ part ∷ [] → AllMet old new more
all_met_more old now new done more ty part h m e em = record {
  advances = advances_on old now new h.advances m.advances;
  here = subst (ArePartsMet new) (sym em) (parts_met_push new done part (parts_stay now new done m.advances h.here) (subst (AreMet new) (sym e) m.here));
}

pub done_more : (now new : Judging) (done more : List Part) (ty : ResultIds) (part : Part) (at : Rattle.gib_base.specs.declared.Span.Span) → Advances now new → ArePartsMet now done → part ≡ record { ty = ty; place = at } → more ≡ done ++ part ∷ [] → parts_in new more ≡ parts_in now done ++ record { ty = forms_given new ty; place = at } ∷ []
done_more now new done more ty part at g h e em =
    ap (parts_in new) em ∙ parts_push new done part ∙ ap₂ (λ (xs : List FormPart) (p : Part). xs ++ part_in new p ∷ []) (parts_grow now new done g h) e

pub arguments_start : (parts : GenericParts) (variables : List Ident) (id : ℕ) (start : Judging) (ids : List ExprId) → AllByRecursion (λ (a : ExprId). a.0 < id) ids → ArgumentsSoFar parts variables id start start ids ids []
arguments_start parts variables id start ids h = record { below = h; scope = refl; met = all_met_none start; read = behind-none (infer_all (generic_globals parts) (variable_numbers variables) opaque (in_scope start) start.counts (arguments_from (generic_tree parts) ids)) }

module _ (parts : GenericParts) (variables : List Ident) where
  abbrev types_of : FormScope → Counts → GenericExpression → Checked (Results Form × Counts)
  types_of scope n e = infer (generic_globals parts) (variable_numbers variables) opaque NoTuple scope n e

  abbrev all_types_of : FormScope → Counts → List ExprId → Checked (List FormPart × Counts)
  all_types_of scope n ids = infer_all (generic_globals parts) (variable_numbers variables) opaque scope n (arguments_from (generic_tree parts) ids)

  abbrev argument_step : FormScope → ExprId → List ExprId → Results Form × Counts → Checked (List FormPart × Counts)
  argument_step scope first after x = and_then (all_types_of scope x.1 after) (λ r. Ok (record { ty = x.0; place = place (generic_tree parts first.0) } ∷ r.0, r.1))

  next_argument : (id : ℕ) (start now : Judging) (ids after : List ExprId) (first : ExprId) (done : List Part) → ArgumentsSoFar parts variables id start now ids (first ∷ after) done → (c : Checked (Results Form × Counts)) → types_of (in_scope now) now.counts (generic_tree parts first.0) ≡ c → all_types_of (in_scope start) start.counts ids ≡ behind (parts_in now done) (and_then c (argument_step (in_scope start) first after))
  next_argument id start now ids after first done h c e =
      h.read ∙ ap (λ z. behind (parts_in now done) (and_then z (argument_step (in_scope start) first after)))
      (ap (λ z. types_of z now.counts (generic_tree parts first.0)) (sym h.scope) ∙ e)

  arguments_more : (id : ℕ) (start now newer : Judging) (ids after : List ExprId) (first : ExprId) (done more : List Part) (ty : ResultIds) (part : Part) → ArgumentsSoFar parts variables id start now ids (first ∷ after) done → types_of (in_scope now) now.counts (generic_tree parts first.0) ≡ Ok (forms_given newer ty, newer.counts) → in_scope newer ≡ in_scope now → Met now newer ty → part ≡ record { ty = ty; place = place (generic_tree parts first.0) } → more ≡ done ++ part ∷ [] → ArgumentsSoFar parts variables id start newer ids after more
  arguments_more id start now newer ids after first done more ty part h e es m ep em = record {
    below = h.below.1;
    scope = es ∙ h.scope;
    met = all_met_more start now newer done more ty part h.met m (ap (λ (p : Part). p.ty) ep) em;
    read = next_argument id start now ids after first done h (Ok (forms_given newer ty, newer.counts)) e
        ∙ behind-more (parts_in now done) (record { ty = forms_given newer ty; place = place (generic_tree parts first.0) }) (all_types_of (in_scope start) newer.counts after)
        ∙ ap (λ z. behind z (all_types_of (in_scope start) newer.counts after)) (sym (done_more now newer done more ty part (place (generic_tree parts first.0)) m.advances h.met.here ep em));
  }

  pub arguments_next : (id : ℕ) (start now newer : Judging) (ids rest : List ExprId) (d : ExprId) (done more : List Part) (ty : ResultIds) (part : Part) → 1 ≤ length rest → ArgumentsSoFar parts variables id start now ids rest done → types_of (in_scope now) now.counts (generic_tree parts (get_or rest 0 d).0) ≡ Ok (forms_given newer ty, newer.counts) → in_scope newer ≡ in_scope now → Met now newer ty → part ≡ record { ty = ty; place = place (generic_tree parts (get_or rest 0 d).0) } → more ≡ done ++ part ∷ [] → ArgumentsSoFar parts variables id start newer ids (take (length rest - 1) (drop 1 rest)) more
  arguments_next id start now newer ids [] d done more ty part l h e es m ep em = absurd (omega (arith, l))
  arguments_next id start now newer ids (x ∷ rest) d done more ty part l h e es m ep em =
      subst (λ z. ArgumentsSoFar parts variables id start newer ids z more) (sym (rest-is x rest))
      (arguments_more id start now newer ids rest x done more ty part h e es m ep em)

  pub arguments_stops : (id : ℕ) (start now : Judging) (ids rest : List ExprId) (done : List Part) → length rest < 1 → ArgumentsSoFar parts variables id start now ids rest done → all_types_of (in_scope start) start.counts ids ≡ Ok (parts_in now done, now.counts)
  arguments_stops id start now ids [] done l h = h.read ∙ ap (λ (z : List FormPart). Ok (z, now.counts)) (append-nil (parts_in now done))
  arguments_stops id start now ids (x ∷ rest) done l h = absurd (omega (arith, l))

  pub arguments_fails : (id : ℕ) (start now : Judging) (ids rest : List ExprId) (d : ExprId) (done : List Part) (e : TypeFault) → 1 ≤ length rest → ArgumentsSoFar parts variables id start now ids rest done → IsFaultOf e (types_of (in_scope now) now.counts (generic_tree parts (get_or rest 0 d).0)) → IsFaultOf e (all_types_of (in_scope start) start.counts ids)
  arguments_fails id start now ids [] d done e l h f = absurd (omega (arith, l))
  arguments_fails id start now ids (x ∷ rest) d done e l h f =
      along e _ _ (next_argument id start now ids rest x done h (types_of (in_scope now) now.counts (generic_tree parts x.0)) refl)
      (passed_on e _ _ (passed_on e _ _ f))

-- Some of the arms were looked at.
pub record ArmsSoFar (parts : GenericParts) (variables : List Ident) (st : Standing) (id : ℕ) (start now : Judging) (types : List TypeId) (arms rest : List Arm) (done : List Part) : Type 0 where
  pub below : AllByRecursion (IsArmBelow id) rest
  pub types_below : AreBelow (length start.types) types
  pub scope : in_scope now ≡ in_scope start
  pub met : AllMet start now done
  pub read : infer_each_arm (generic_globals parts) (variable_numbers variables) st (forms_at (forms start) types) (generic_tree parts) (in_scope start) start.counts arms ≡ behind (parts_in now done) (infer_each_arm (generic_globals parts) (variable_numbers variables) st (forms_at (forms start) types) (generic_tree parts) (in_scope start) now.counts rest)

pub arms_start : (parts : GenericParts) (variables : List Ident) (st : Standing) (id : ℕ) (start : Judging) (types : List TypeId) (arms : List Arm) → AllByRecursion (IsArmBelow id) arms → AreBelow (length start.types) types → ArmsSoFar parts variables st id start start types arms arms []
arms_start parts variables st id start types arms h b = record { below = h; types_below = b; scope = refl; met = all_met_none start; read = behind-none (infer_each_arm (generic_globals parts) (variable_numbers variables) st (forms_at (forms start) types) (generic_tree parts) (in_scope start) start.counts arms) }

module _ (parts : GenericParts) (variables : List Ident) (st : Standing) where
  -- What an arm is.
  abbrev pub arm_in : Forms → FormScope → Counts → Arm → Checked (Results Form × Counts)
  arm_in ts scope n arm = infer_arm (generic_globals parts).rows ts scope n arm.constructor arm.variables.items (λ inner m. infer (generic_globals parts) (variable_numbers variables) opaque st inner m (generic_tree parts arm.body.0))

  abbrev each_arm : Forms → FormScope → Counts → List Arm → Checked (List FormPart × Counts)
  each_arm ts scope n arms = infer_each_arm (generic_globals parts) (variable_numbers variables) st ts (generic_tree parts) scope n arms

  abbrev arm_step : Forms → FormScope → Arm → List Arm → Results Form × Counts → Checked (List FormPart × Counts)
  arm_step ts scope first after x = and_then (each_arm ts scope x.1 after) (λ r. Ok (record { ty = x.0; place = place (generic_tree parts first.body.0) } ∷ r.0, r.1))

  next_arm : (id : ℕ) (start now : Judging) (types : List TypeId) (arms after : List Arm) (first : Arm) (done : List Part) → ArmsSoFar parts variables st id start now types arms (first ∷ after) done → (c : Checked (Results Form × Counts)) → arm_in (forms_at (forms now) types) (in_scope now) now.counts first ≡ c → each_arm (forms_at (forms start) types) (in_scope start) start.counts arms ≡ behind (parts_in now done) (and_then c (arm_step (forms_at (forms start) types) (in_scope start) first after))
  next_arm id start now types arms after first done h c e =
      let same : forms_at (forms now) types ≡ forms_at (forms start) types = forms_grow start.types now.types types h.met.advances.types h.types_below in
      h.read ∙ ap (λ z. behind (parts_in now done) (and_then z (arm_step (forms_at (forms start) types) (in_scope start) first after)))
      (ap₂ (λ (s : FormScope) (ts : Forms). arm_in ts s now.counts first) (sym h.scope) (sym same) ∙ e)

  arms_more : (id : ℕ) (start now newer : Judging) (types : List TypeId) (arms after : List Arm) (first : Arm) (done more : List Part) (ty : ResultIds) (part : Part) → ArmsSoFar parts variables st id start now types arms (first ∷ after) done → arm_in (forms_at (forms now) types) (in_scope now) now.counts first ≡ Ok (forms_given newer ty, newer.counts) → in_scope newer ≡ in_scope now → Met now newer ty → part ≡ record { ty = ty; place = place (generic_tree parts first.body.0) } → more ≡ done ++ part ∷ [] → ArmsSoFar parts variables st id start newer types arms after more
  arms_more id start now newer types arms after first done more ty part h e es m ep em = record {
    below = h.below.1;
    types_below = h.types_below;
    scope = es ∙ h.scope;
    met = all_met_more start now newer done more ty part h.met m (ap (λ (p : Part). p.ty) ep) em;
    read = next_arm id start now types arms after first done h (Ok (forms_given newer ty, newer.counts)) e
        ∙ behind-more (parts_in now done) (record { ty = forms_given newer ty; place = place (generic_tree parts first.body.0) }) (each_arm (forms_at (forms start) types) (in_scope start) newer.counts after)
        ∙ ap (λ z. behind z (each_arm (forms_at (forms start) types) (in_scope start) newer.counts after)) (sym (done_more now newer done more ty part (place (generic_tree parts first.body.0)) m.advances h.met.here ep em));
  }

  pub arms_next : (id : ℕ) (start now newer : Judging) (types : List TypeId) (arms rest : List Arm) (first : Arm) (done more : List Part) (ty : ResultIds) (part : Part) → 1 ≤ length rest → first ≡ get_or rest 0 first → ArmsSoFar parts variables st id start now types arms rest done → arm_in (forms_at (forms now) types) (in_scope now) now.counts first ≡ Ok (forms_given newer ty, newer.counts) → in_scope newer ≡ in_scope now → Met now newer ty → part ≡ record { ty = ty; place = place (generic_tree parts first.body.0) } → more ≡ done ++ part ∷ [] → ArmsSoFar parts variables st id start newer types arms (take (length rest - 1) (drop 1 rest)) more
  arms_next id start now newer types arms [] first done more ty part l q h e es m ep em = absurd (omega (arith, l))
  arms_next id start now newer types arms (x ∷ rest) first done more ty part l q h e es m ep em =
      subst (λ z. ArmsSoFar parts variables st id start newer types arms z more) (sym (rest-is x rest))
      (arms_more id start now newer types arms rest first done more ty part (subst (λ z. ArmsSoFar parts variables st id start now types arms (z ∷ rest) done) (sym q) h) e es m ep em)

  pub arms_stops : (id : ℕ) (start now : Judging) (types : List TypeId) (arms rest : List Arm) (done : List Part) → length rest < 1 → ArmsSoFar parts variables st id start now types arms rest done → each_arm (forms_at (forms start) types) (in_scope start) start.counts arms ≡ Ok (parts_in now done, now.counts)
  arms_stops id start now types arms [] done l h = h.read ∙ ap (λ (z : List FormPart). Ok (z, now.counts)) (append-nil (parts_in now done))
  arms_stops id start now types arms (x ∷ rest) done l h = absurd (omega (arith, l))

  pub arms_fails : (id : ℕ) (start now : Judging) (types : List TypeId) (arms rest : List Arm) (first : Arm) (done : List Part) (e : TypeFault) → 1 ≤ length rest → first ≡ get_or rest 0 first → ArmsSoFar parts variables st id start now types arms rest done → IsFaultOf e (arm_in (forms_at (forms now) types) (in_scope now) now.counts first) → IsFaultOf e (each_arm (forms_at (forms start) types) (in_scope start) start.counts arms)
  arms_fails id start now types arms [] first done e l q h f = absurd (omega (arith, l))
  arms_fails id start now types arms (x ∷ rest) first done e l q h f =
      along e _ _ (next_arm id start now types arms rest first done (subst (λ z. ArmsSoFar parts variables st id start now types arms (z ∷ rest) done) (sym q) h) (arm_in (forms_at (forms now) types) (in_scope now) now.counts first) refl)
      (passed_on e _ _ (passed_on e _ _ f))
