-- The answers of calls, constructors and arms.
use Rattle.std.proofs.Common.{◌≡◌, ℕ, ◌<◌, ◌-◌, List, ◌∷◌, ◌++◌, append_assoc, drop, length, Ok, Err, refl, sym, ap, ap₂, ◌∙◌, subst, map}
use Rattle.gib_base.specs.declared.Span.{Span}
use Rattle.gib_types.specs.declared.types.TypeId.{TypeId}
use Rattle.gib_types.specs.declared.types.TypeNode.{TypeNode}
use Rattle.gib_types.specs.declared.types.TypeNode.TheVariants as node
use Rattle.gib_types.specs.Form.{Form, Forms, DataForm}
use Rattle.gib_types.specs.Types.{form_at, forms_at, form_from, AreBelow, ArgumentsBelow}
use Rattle.gib_syntax.specs.declared.tree.Ident.{Ident}
use Rattle.gib_syntax.specs.declared.exprs.ExprId.{ExprId}
use Rattle.gib_syntax.specs.declared.program.GenericParameter.{GenericParameter}
use Rattle.gib_syntax.specs.declared.written.Word.{Word}
use Rattle.gib_syntax.specs.Declarations.{number_of}
use Rattle.gib_syntax.specs.Forms.{WrittenType, WrittenTypes, formed, formed_all, assign}
use Rattle.gib_syntax.specs.Results.{Results, One, map_results}
use Rattle.gib_syntax.specs.GenericTree.{GenericParameterTree, GenericExpression, GenericFunctionTree, GenericRow, GenericGlobals}
use Rattle.gib_syntax.specs.GenericTyping.{FormScope, variable_numbers, opaque, field_forms, parameter_forms, result_forms}
use Rattle.gib_syntax.specs.GenericParts.{GenericParts, parameter_in}
use Rattle.gib_syntax.specs.GenericArena.{arguments_from}
use Rattle.gib_syntax.specs.Forms.{Meant}
use Rattle.std.proofs.lemmas.List.{length-map}
use Rattle.gib_check.specs.declared.counts.Counts.{Counts}
use Rattle.gib_check.specs.declared.fault.TypeFault.{TypeFault}
use Rattle.gib_check.specs.declared.fault.TypeFault.TheVariants as t
use Rattle.gib_check.specs.Answers.{IsFaultOf}
use Rattle.gib_check.specs.Faults.{Checked, and_then, FormPart, one_more, infer, infer_all, infer_arm, infer_case, infer_variable, infer_literal, row_named, fields_if, bind_all, variable, declared_type, ArmHead, head_names, all_declared, covered, all_counted, all_of, all_wanted, use_fits, called, made, first_type}
use Rattle.gib_check.specs.NameViews.{generic_globals, generic_tree}
use Rattle.gib_check.specs.Judging.{Judging, forms, in_scope, Grows, Keeps, Advances, forms_given, AreMet, IsClosed, meant_by, IsMeaningBelow}
use Rattle.gib_check.proofs.Growing.{forms_grow, given_grows}
use Rattle.gib_check.specs.declared.rules.ResultIds.{ResultIds}
use Rattle.gib_check.specs.declared.standing.Standing.{Standing}
use Rattle.gib_check.specs.declared.reading.Meaning.{Meaning}
use Rattle.gib_check.proofs.Loops.{passed_on, along, added_kept, meaning_grows}
use Rattle.gib_check.proofs.Walking.{Counted}

abbrev pub answer_of : Results Form → Counts → Checked (Results Form × Counts)
answer_of f n = Ok (f, n)

abbrev pub answer : Judging → ResultIds → Checked (Results Form × Counts)
answer s ty = Ok (forms_given s ty, s.counts)

-- A state with the same types and counts gives the same answer.
pub same_answer : (before after : Judging) (ty : ResultIds) → Advances before after → AreMet before ty → after.counts ≡ before.counts → answer before ty ≡ answer after ty
same_answer before after ty g h q = ap₂ answer_of (sym (given_grows before after ty g h)) (sym q)

-- What a call knows of its types.
pub given_types : (s2 s3 : Judging) (ids : List TypeId) (ws : WrittenTypes) → forms_at (forms s2) ids ≡ formed_all opaque ws → Grows s2.types s3.types → AreBelow (length s2.types) ids → forms_at (forms s3) ids ≡ formed_all opaque ws
given_types s2 s3 ids ws e g h = forms_grow s2.types s3.types ids g h ∙ e

pub mapped_length : (words : List Word) (n : ℕ) (ps : List GenericParameter) → n ≡ length ps → n ≡ length (map (parameter_in words) ps)
mapped_length words n ps q = q ∙ sym (length-map ps (parameter_in words))

-- Arguments are judged alike where only types were met in between.
pub results_moved : (parts : GenericParts) (variables : List Ident) (s0 s1 s2 : Judging) (ids : List ExprId) → Keeps s1 s2 → in_scope s1 ≡ in_scope s0 → infer_all (generic_globals parts) (variable_numbers variables) opaque (in_scope s0) s1.counts (arguments_from (generic_tree parts) ids) ≡ infer_all (generic_globals parts) (variable_numbers variables) opaque (in_scope s2) s2.counts (arguments_from (generic_tree parts) ids)
results_moved parts variables s0 s1 s2 ids k h =
    ap₂ (λ (s : FormScope) (n : Counts). infer_all (generic_globals parts) (variable_numbers variables) opaque s n (arguments_from (generic_tree parts) ids)) (sym (k.scope ∙ h)) (sym k.counts)

-- So where one more expression was counted.
pub results_same : (parts : GenericParts) (variables : List Ident) (s0 s1 : Judging) (ids : List ExprId) → in_scope s1 ≡ in_scope s0 → infer_all (generic_globals parts) (variable_numbers variables) opaque (in_scope s0) s1.counts (arguments_from (generic_tree parts) ids) ≡ infer_all (generic_globals parts) (variable_numbers variables) opaque (in_scope s1) s1.counts (arguments_from (generic_tree parts) ids)
results_same parts variables s0 s1 ids h = ap (λ (s : FormScope). infer_all (generic_globals parts) (variable_numbers variables) opaque s s1.counts (arguments_from (generic_tree parts) ids)) (sym h)

-- The types of a function's parameters, by what its variables stand for.
pub parameters_are : (words : List Word) (ps qs : List GenericParameter) (vs : List Ident) (m : Meant) (ts us : Forms) → qs ≡ ps → m ≡ assign vs ts → ts ≡ us → map (λ (q : GenericParameterTree). formed m q.ty) (map (parameter_in words) qs) ≡ map (λ (q : GenericParameterTree). formed (assign vs us) q.ty) (map (parameter_in words) ps)
parameters_are words ps qs vs m ts us q e f =
    ap₂ (λ (n : Meant) (l : List GenericParameter). map (λ (q : GenericParameterTree). formed n q.ty) (map (parameter_in words) l)) (e ∙ ap (assign vs) f) q

pub meant_later : (s3 s4 : Judging) (m : Meaning) (vs ws : List Ident) (is js : List TypeId) (us : Forms) → meant_by (forms s3) m ≡ assign ws (forms_at (forms s3) js) → ws ≡ vs → js ≡ is → forms_at (forms s3) is ≡ us → Grows s3.types s4.types → IsMeaningBelow (length s3.types) m → meant_by (forms s4) m ≡ assign vs us
meant_later s3 s4 m vs ws is js us e w j f g b =
    meaning_grows s3.types s4.types m g b ∙ e
    ∙ ap₂ (λ (xs : List Ident) (ks : List TypeId). assign xs (forms_at (forms s3) ks)) w j
    ∙ ap (assign vs) f

-- What a function gives, by what was met of it.
pub called_by : (h : GenericFunctionTree) (ts : Forms) (ps qs : List FormPart) (due : List Form) → qs ≡ ps → due ≡ parameter_forms h ts → called h ts ps ≡ and_then (all_wanted qs due) (λ _. Ok (result_forms h ts))
called_by h ts ps qs due e d = ap₂ (λ (xs : List FormPart) (fs : List Form). and_then (all_wanted xs fs) (λ _. Ok (result_forms h ts))) (sym e) (sym d)

pub called_ok : (h : GenericFunctionTree) (ts : Forms) (ps qs : List FormPart) (due : List Form) → qs ≡ ps → due ≡ parameter_forms h ts → all_wanted qs due ≡ Ok (tt {0}) → called h ts ps ≡ Ok (result_forms h ts)
called_ok h ts ps qs due e d w = called_by h ts ps qs due e d ∙ ap (λ z. and_then z (λ _. Ok (result_forms h ts))) w

pub results_are : (s : Judging) (ty : ResultIds) (m n : Meant) (w : Results WrittenType) → forms_given s ty ≡ map_results (formed m) w → m ≡ n → map_results (formed n) w ≡ forms_given s ty
results_are s ty m n w e q = sym (e ∙ ap (λ (k : Meant). map_results (formed k) w) q)

-- So for a constructor.
pub made_by : (row : GenericRow) (ts : Forms) (ps qs : List FormPart) (due : List Form) → qs ≡ ps → due ≡ field_forms row ts → made row ts ps ≡ and_then (all_wanted qs due) (λ _. Ok (One (DataForm row.owner ts)))
made_by row ts ps qs due e d = ap₂ (λ (xs : List FormPart) (fs : List Form). and_then (all_wanted xs fs) (λ _. Ok (One (DataForm row.owner ts)))) (sym e) (sym d)

pub made_ok : (row : GenericRow) (ts : Forms) (ps qs : List FormPart) (due : List Form) → qs ≡ ps → due ≡ field_forms row ts → all_wanted qs due ≡ Ok (tt {0}) → made row ts ps ≡ Ok (One (DataForm row.owner ts))
made_ok row ts ps qs due e d w = made_by row ts ps qs due e d ∙ ap (λ z. and_then z (λ _. Ok (One (DataForm row.owner ts)))) w

-- What is asked of a use, by other numbers that are the same.
pub fits_as : (P : Checked (Unit {0}) → Type 0) (g : GenericGlobals) (vars : List ℕ) (x : Ident) (ws : WrittenTypes) (count n k due wanted : ℕ) → n ≡ due → k ≡ wanted → P (use_fits g vars x ws count n k) → P (use_fits g vars x ws count due wanted)
fits_as P g vars x ws count n k due wanted e d h = subst (λ z. P (use_fits g vars x ws count due z)) d (subst (λ z. P (use_fits g vars x ws count z k)) e h)

-- An arm.
module _ (parts : GenericParts) (variables : List Ident) (st : Standing) (ts : Forms) (k : Ident) (xs : List Ident) (e : GenericExpression) where
  abbrev pub arm_of : FormScope → Counts → Checked (Results Form × Counts)
  arm_of scope n = infer_arm (generic_globals parts).rows ts scope n k xs (λ inner m. infer (generic_globals parts) (variable_numbers variables) opaque st inner m e)

  abbrev arm_go : FormScope × Counts → Checked (Results Form × Counts)
  arm_go inner = infer (generic_globals parts) (variable_numbers variables) opaque st inner.0 inner.1 e

  arm_same : (s0 s1 : Judging) (vs : List Ident) (gs : List Form) → Keeps s0 s1 → vs ≡ xs → gs ≡ fields_if (row_named (generic_globals parts).rows (number_of k)) ts → bind_all (in_scope s0) s0.counts xs (fields_if (row_named (generic_globals parts).rows (number_of k)) ts) ≡ bind_all (in_scope s1) s1.counts vs gs
  arm_same s0 s1 vs gs h v g = (λ i. bind_all (sym h.scope i) (sym h.counts i) (sym v i) (sym g i))

  pub arm_fails : (f : TypeFault) (s0 s1 : Judging) (vs : List Ident) (gs : List Form) → Keeps s0 s1 → vs ≡ xs → gs ≡ fields_if (row_named (generic_globals parts).rows (number_of k)) ts → IsFaultOf f (bind_all (in_scope s1) s1.counts vs gs) → IsFaultOf f (arm_of (in_scope s0) s0.counts)
  arm_fails f s0 s1 vs gs h v g q = passed_on f (bind_all (in_scope s0) s0.counts xs (fields_if (row_named (generic_globals parts).rows (number_of k)) ts)) arm_go (along f _ _ (arm_same s0 s1 vs gs h v g) q)

  pub arm_is : (s0 s1 s2 : Judging) (vs : List Ident) (gs : List Form) → Keeps s0 s1 → vs ≡ xs → gs ≡ fields_if (row_named (generic_globals parts).rows (number_of k)) ts → bind_all (in_scope s1) s1.counts vs gs ≡ Ok (in_scope s2, s2.counts) → arm_of (in_scope s0) s0.counts ≡ infer (generic_globals parts) (variable_numbers variables) opaque st (in_scope s2) s2.counts e
  arm_is s0 s1 s2 vs gs h v g q = ap (λ z. and_then z arm_go) (arm_same s0 s1 vs gs h v g ∙ q)

-- What is left of a scope behind the variables of an arm.
pub arm_dropped : (old inner now : FormScope) (len : ℕ) → drop (length inner - length old) inner ≡ old → len ≡ length old → now ≡ drop (length inner - len) inner → now ≡ old
arm_dropped old inner now len d l e = e ∙ ap (λ n. drop (length inner - n) inner) l ∙ d

-- So behind the variables of a binding of parts, and of two.
pub parts_dropped : (old inner now added : FormScope) (len : ℕ) → inner ≡ added ++ old → len ≡ length old → now ≡ drop (length inner - len) inner → now ≡ old
parts_dropped old inner now added len d l e = e ∙ ap (λ n. drop (length inner - n) inner) l ∙ added_kept added inner old d

pub both_added : (old mid inner first second : FormScope) → mid ≡ first ++ old → inner ≡ second ++ mid → inner ≡ (second ++ first) ++ old
both_added old mid inner first second e f = f ∙ ap (λ z. second ++ z) e ∙ sym (append_assoc second first old)

abbrev refused_form : Rattle.gib_check.specs.declared.fault.Fault.Fault → Checked (Results Form)
refused_form d = Err d

abbrev refused_pair : Rattle.gib_check.specs.declared.fault.Fault.Fault → Checked (Results Form × Counts)
refused_pair d = Err d

-- An answer with counts.
pub ok_with : (c : Checked (Unit {0})) (f v : Results Form) (n : Counts) → and_then c (λ _. Ok f) ≡ Ok v → and_then {B = Results Form × Counts} c (λ _. Ok (f, n)) ≡ Ok (v, n)
ok_with (Ok u) f v n q = let same : f ≡ v = cc in ap (λ z. Ok (z, n)) same
ok_with (Err e) f v n q = absurd cc

pub fault_with : (e : TypeFault) (c : Checked (Unit {0})) (f : Results Form) (n : Counts) → IsFaultOf e (and_then c (λ _. Ok f)) → IsFaultOf {B = Results Form × Counts} e (and_then c (λ _. Ok (f, n)))
fault_with t.Memory c f n q = tt
fault_with (t.Broken g) (Ok u) f n q = absurd cc
fault_with (t.Broken g) (Err d) f n q = q_of d g q where
  q_of : (d g : Rattle.gib_check.specs.declared.fault.Fault.Fault) → refused_form d ≡ Err g → refused_pair d ≡ Err g
  q_of d g e = let same : d ≡ g = cc in ap (λ z. Err z) same

-- A variable, and a literal.
pub variable_fails : (e : TypeFault) (s0 s1 : Judging) (x : Ident) → one_more s0.counts x.span ≡ Ok s1.counts → in_scope s1 ≡ in_scope s0 → IsFaultOf e (variable (in_scope s1) x) → IsFaultOf e (infer_variable (in_scope s0) s0.counts x)
variable_fails e s0 s1 x o k h =
    along e _ _ (ap (λ z. and_then z (λ m. and_then (variable (in_scope s0) x) (λ t. Ok (One t, m)))) o ∙ ap (λ s. and_then (variable s x) (λ t. Ok (One t, s1.counts))) (sym k)) (passed_on e _ _ h)

pub variable_ok : (s0 s1 : Judging) (x : Ident) (f : Form) → one_more s0.counts x.span ≡ Ok s1.counts → in_scope s1 ≡ in_scope s0 → variable (in_scope s1) x ≡ Ok f → infer_variable (in_scope s0) s0.counts x ≡ Ok (One f, s1.counts)
variable_ok s0 s1 x f o k h =
    ap (λ z. and_then z (λ m. and_then (variable (in_scope s0) x) (λ t. Ok (One t, m)))) o ∙ ap (λ s. and_then (variable s x) (λ t. Ok (One t, s1.counts))) (sym k) ∙ ap (λ z. and_then z (λ t. Ok (One t, s1.counts))) h

pub closed_below : (b : ℕ) (n : TypeNode) → IsClosed n → ArgumentsBelow b n
closed_below b node.Whole h = tt
closed_below b node.Truth h = tt
closed_below b (node.Variable x) h = absurd h
closed_below b (node.Data x is) h = absurd h

closed_form : (fs gs : List Form) (n : TypeNode) → IsClosed n → form_from fs n ≡ form_from gs n
closed_form fs gs node.Whole h = refl
closed_form fs gs node.Truth h = refl
closed_form fs gs (node.Variable x) h = absurd h
closed_form fs gs (node.Data x is) h = absurd h

pub literal_ok : (s0 s1 s2 : Judging) (at : Span) (fs : List Form) (n : TypeNode) (id : TypeId) → IsClosed n → one_more s0.counts at ≡ Ok s1.counts → form_at (forms s2) id.0 ≡ form_from (forms s1) n → s2.counts ≡ s1.counts → infer_literal s0.counts at (form_from fs n) ≡ Ok (One (form_at (forms s2) id.0), s2.counts)
literal_ok s0 s1 s2 at fs n id h o m k =
    ap (λ z. and_then z (λ q. Ok (One (form_from fs n), q))) o ∙ ap₂ (λ (f : Form) (q : Counts). Ok (One f, q)) (closed_form fs (forms s1) n h ∙ sym m) (sym k)

-- A case.
module _ (parts : GenericParts) (variables : List Ident) (rows : List GenericRow) (p : Span) (x : Ident) (hs : List ArmHead) (results : Forms → Counts → Checked (List FormPart × Counts)) where
  abbrev pub case_of : FormScope → Counts → Checked (Results Form × Counts)
  case_of scope n = infer_case rows scope n p x hs results

  abbrev case_end : List FormPart × Counts → Checked (Results Form × Counts)
  case_end r = and_then (all_of (first_type r.0) r.0) (λ _. Ok (first_type r.0, r.1))

  abbrev case_arms : Counts → ℕ × Forms → Checked (Results Form × Counts)
  case_arms n t =
      and_then (all_declared rows hs)
      (λ _. and_then (covered rows t.0 (head_names hs) p)
      (λ _. and_then (all_counted rows hs)
      (λ _. and_then (results t.1 n) case_end)))

  case_variable : (s0 s1 : Judging) → Counted parts variables s0 s1 p → case_of (in_scope s0) s0.counts ≡ and_then (variable (in_scope s1) x) (λ s. and_then (declared_type s x) (case_arms s1.counts))
  case_variable s0 s1 o =
      ap (λ z. and_then z (λ n. and_then (variable (in_scope s0) x) (λ s. and_then (declared_type s x) (case_arms n)))) o.read
      ∙ ap (λ s. and_then (variable s x) (λ s. and_then (declared_type s x) (case_arms s1.counts))) (sym o.kept)

  pub case_unknown : (e : TypeFault) (s0 s1 : Judging) → Counted parts variables s0 s1 p → IsFaultOf e (variable (in_scope s1) x) → IsFaultOf e (case_of (in_scope s0) s0.counts)
  case_unknown e s0 s1 o h = along e _ _ (case_variable s0 s1 o) (passed_on e _ _ h)

  case_typed : (s0 s1 : Judging) (f : Form) → Counted parts variables s0 s1 p → variable (in_scope s1) x ≡ Ok f → case_of (in_scope s0) s0.counts ≡ and_then (declared_type f x) (case_arms s1.counts)
  case_typed s0 s1 f o h = case_variable s0 s1 o ∙ ap (λ z. and_then z (λ s. and_then (declared_type s x) (case_arms s1.counts))) h

  pub case_shape : (e : TypeFault) (s0 s1 : Judging) (f : Form) → Counted parts variables s0 s1 p → variable (in_scope s1) x ≡ Ok f → IsFaultOf e (declared_type f x) → IsFaultOf e (case_of (in_scope s0) s0.counts)
  case_shape e s0 s1 f o h q = along e _ _ (case_typed s0 s1 f o h) (passed_on e _ _ q)

  case_declared : (s0 s1 : Judging) (f : Form) (t : ℕ × Forms) → Counted parts variables s0 s1 p → variable (in_scope s1) x ≡ Ok f → declared_type f x ≡ Ok t → case_of (in_scope s0) s0.counts ≡ case_arms s1.counts t
  case_declared s0 s1 f t o h q = case_typed s0 s1 f o h ∙ ap (λ z. and_then z (case_arms s1.counts)) q

  pub case_missing : (e : TypeFault) (s0 s1 : Judging) (f : Form) (t : ℕ × Forms) → Counted parts variables s0 s1 p → variable (in_scope s1) x ≡ Ok f → declared_type f x ≡ Ok t → IsFaultOf e (all_declared rows hs) → IsFaultOf e (case_of (in_scope s0) s0.counts)
  case_missing e s0 s1 f t o h q k = along e _ _ (case_declared s0 s1 f t o h q) (passed_on e _ _ k)

  case_all : (s0 s1 : Judging) (f : Form) (t : ℕ × Forms) → Counted parts variables s0 s1 p → variable (in_scope s1) x ≡ Ok f → declared_type f x ≡ Ok t → all_declared rows hs ≡ Ok (tt {0}) → case_of (in_scope s0) s0.counts ≡ and_then (covered rows t.0 (head_names hs) p) (λ _. and_then (all_counted rows hs) (λ _. and_then (results t.1 s1.counts) case_end))
  case_all s0 s1 f t o h q k = case_declared s0 s1 f t o h q ∙ ap (λ z. and_then z (λ _. and_then (covered rows t.0 (head_names hs) p) (λ _. and_then (all_counted rows hs) (λ _. and_then (results t.1 s1.counts) case_end)))) k

  pub case_uncovered : (e : TypeFault) (s0 s1 : Judging) (f : Form) (t : ℕ × Forms) → Counted parts variables s0 s1 p → variable (in_scope s1) x ≡ Ok f → declared_type f x ≡ Ok t → all_declared rows hs ≡ Ok (tt {0}) → IsFaultOf e (covered rows t.0 (head_names hs) p) → IsFaultOf e (case_of (in_scope s0) s0.counts)
  case_uncovered e s0 s1 f t o h q k m = along e _ _ (case_all s0 s1 f t o h q k) (passed_on e _ _ m)

  case_covered : (s0 s1 : Judging) (f : Form) (t : ℕ × Forms) → Counted parts variables s0 s1 p → variable (in_scope s1) x ≡ Ok f → declared_type f x ≡ Ok t → all_declared rows hs ≡ Ok (tt {0}) → covered rows t.0 (head_names hs) p ≡ Ok (tt {0}) → case_of (in_scope s0) s0.counts ≡ and_then (all_counted rows hs) (λ _. and_then (results t.1 s1.counts) case_end)
  case_covered s0 s1 f t o h q k m = case_all s0 s1 f t o h q k ∙ ap (λ z. and_then z (λ _. and_then (all_counted rows hs) (λ _. and_then (results t.1 s1.counts) case_end))) m

  pub case_count : (e : TypeFault) (s0 s1 : Judging) (f : Form) (t : ℕ × Forms) → Counted parts variables s0 s1 p → variable (in_scope s1) x ≡ Ok f → declared_type f x ≡ Ok t → all_declared rows hs ≡ Ok (tt {0}) → covered rows t.0 (head_names hs) p ≡ Ok (tt {0}) → IsFaultOf e (all_counted rows hs) → IsFaultOf e (case_of (in_scope s0) s0.counts)
  case_count e s0 s1 f t o h q k m n = along e _ _ (case_covered s0 s1 f t o h q k m) (passed_on e _ _ n)

  case_results : (s0 s1 : Judging) (f : Form) (t : ℕ × Forms) → Counted parts variables s0 s1 p → variable (in_scope s1) x ≡ Ok f → declared_type f x ≡ Ok t → all_declared rows hs ≡ Ok (tt {0}) → covered rows t.0 (head_names hs) p ≡ Ok (tt {0}) → all_counted rows hs ≡ Ok (tt {0}) → case_of (in_scope s0) s0.counts ≡ and_then (results t.1 s1.counts) case_end
  case_results s0 s1 f t o h q k m n = case_covered s0 s1 f t o h q k m ∙ ap (λ z. and_then z (λ _. and_then (results t.1 s1.counts) case_end)) n

  pub case_parts : (e : TypeFault) (s0 s1 : Judging) (f : Form) (t : ℕ × Forms) → Counted parts variables s0 s1 p → variable (in_scope s1) x ≡ Ok f → declared_type f x ≡ Ok t → all_declared rows hs ≡ Ok (tt {0}) → covered rows t.0 (head_names hs) p ≡ Ok (tt {0}) → all_counted rows hs ≡ Ok (tt {0}) → IsFaultOf e (results t.1 s1.counts) → IsFaultOf e (case_of (in_scope s0) s0.counts)
  case_parts e s0 s1 f t o h q k m n r = along e _ _ (case_results s0 s1 f t o h q k m n) (passed_on e _ _ r)

  pub case_ends : (s0 s1 : Judging) (f : Form) (t : ℕ × Forms) (ps : List FormPart) (c : Counts) → Counted parts variables s0 s1 p → variable (in_scope s1) x ≡ Ok f → declared_type f x ≡ Ok t → all_declared rows hs ≡ Ok (tt {0}) → covered rows t.0 (head_names hs) p ≡ Ok (tt {0}) → all_counted rows hs ≡ Ok (tt {0}) → results t.1 s1.counts ≡ Ok (ps, c) → case_of (in_scope s0) s0.counts ≡ and_then (all_of (first_type ps) ps) (λ _. Ok (first_type ps, c))
  case_ends s0 s1 f t ps c o h q k m n r = case_results s0 s1 f t o h q k m n ∙ ap (λ z. and_then z case_end) r
