-- Types at uses.
use Rattle.std.proofs.Common.{◌≡◌, ℕ, ◌-◌, ◌<◌, ◌≤◌, List, [], ◌∷◌, ◌++◌, map, length, take, drop, get_or, Option, Some, None, Ok, refl, sym, ap, ap₂, ◌∙◌, subst, arith, append_assoc}
use Rattle.std.proofs.lemmas.List.{append-nil}
use Rattle.gib_types.specs.declared.types.TypeId.{TypeId}
use Rattle.gib_types.specs.declared.types.TypeNode.{TypeNode}
use Rattle.gib_types.specs.Form.{Form, Forms, Meant}
use Rattle.gib_types.specs.Types.{form_at, forms_at, forms_of, AreBelow}
use Rattle.gib_syntax.specs.declared.tree.Ident.{Ident}
use Rattle.gib_syntax.specs.declared.written.Run.{Run}
use Rattle.gib_syntax.specs.declared.written.Word.{Word}
use Rattle.gib_syntax.specs.Results.{One}
use Rattle.gib_syntax.specs.declared.program.GenericParameter.{GenericParameter}
use Rattle.gib_syntax.specs.Forms.{formed, formed_all, count_written, assign}
use Rattle.gib_syntax.specs.Words.{run_words, stack_of, all_types, type_in, first_type}
use Rattle.gib_syntax.specs.GenericTree.{GenericRow, GenericParameterTree}
use Rattle.gib_syntax.specs.GenericTyping.{field_forms}
use Rattle.gib_syntax.specs.GenericParts.{GenericParts, parameter_in}
use Rattle.gib_check.specs.declared.named.RowDecl.{RowDecl}
use Rattle.gib_check.specs.declared.fault.TypeFault.{TypeFault}
use Rattle.gib_check.specs.declared.reading.Meaning.{Meaning}
use Rattle.gib_check.specs.Answers.{IsFaultOf}
use Rattle.gib_check.specs.Faults.{Checked, and_then, as_many, row_named, fields_if}
use Rattle.gib_check.specs.NameViews.{variables_at, row_in, row_option}
use Rattle.gib_check.specs.Judging.{Judging, forms, Keeps, Meets, Reads, listed, meant_by, IsMeaningBelow}
use Rattle.gib_check.proofs.Growing.{grows_none, grows_on, listed_grow, below_more}
use Rattle.gib_check.proofs.Read.{all_read, read_count}
use Rattle.gib_check.proofs.Loops.{passed_on, along, meaning_more, meaning_grows, RunsSoFar, run_meant}
use Rattle.gib_check.proofs.RowLists.{rest-is}
use Rattle.gib_check.proofs.Singles.{listed_push, below_push}

-- Type arguments: their number, then their names.
pub count_fails : (e : TypeFault) (n m due : ℕ) (at : Ident) (rest : Checked (Unit {0})) → n ≡ m → IsFaultOf e (as_many n due at) → IsFaultOf e (and_then (as_many m due at) (λ _. rest))
count_fails e n m due at rest q h = along e _ _ (ap (λ k. and_then (as_many k due at) (λ _. rest)) (sym q)) (passed_on e _ _ h)

pub names_follow : (n m due : ℕ) (at : Ident) (rest : Checked (Unit {0})) → n ≡ m → as_many n due at ≡ Ok (tt {0}) → and_then (as_many m due at) (λ _. rest) ≡ rest
names_follow n m due at rest q h = ap (λ k. and_then (as_many k due at) (λ _. rest)) (sym q) ∙ ap (λ z. and_then z (λ _. rest)) h

pub names_fail : (e : TypeFault) (n m due : ℕ) (at : Ident) (rest : Checked (Unit {0})) → n ≡ m → as_many n due at ≡ Ok (tt {0}) → IsFaultOf e rest → IsFaultOf e (and_then (as_many m due at) (λ _. rest))
names_fail e n m due at rest q h f = along e _ _ (names_follow n m due at rest q h) f

-- What was read, of the words of a run.
pub run_read : (old new : List TypeNode) (m : Meant) (words all : List Word) (ids : List TypeId) → Reads old new m words ids → words ≡ all → forms_at (forms_of new) ids ≡ formed_all m (all_types (stack_of all))
run_read old new m words all ids r e = all_read (forms_of new) m ids (stack_of all) (r.types ∙ ap (λ ws. map (formed m) (stack_of ws)) e)

pub run_count : (old new : List TypeNode) (m : Meant) (words all : List Word) (ids : List TypeId) → Reads old new m words ids → words ≡ all → length ids ≡ count_written (all_types (stack_of all))
run_count old new m words all ids r e = read_count (forms_of new) m ids (stack_of all) (r.types ∙ ap (λ ws. map (formed m) (stack_of ws)) e)

-- The fields of a row.
pub row_read : (parts : GenericParts) (row : RowDecl) (old new : List TypeNode) (m : Meant) (words : List Word) (ids types : List TypeId) → Reads old new m words ids → words ≡ run_words parts.exprs.words row.fields → m ≡ assign (variables_at parts.datas row.declaration) (forms_at (forms_of old) types) → listed (forms_of new) ids ≡ field_forms (row_in parts row) (forms_at (forms_of old) types)
row_read parts row old new m words ids types r e q = r.types ∙ ap₂ (λ (n : Meant) (ws : List Word). map (formed n) (stack_of ws)) q e

pub named_read : (parts : GenericParts) (rows : List GenericRow) (k : ℕ) (row : RowDecl) (o : Option RowDecl) (fs : List Form) (ts : Forms) → o ≡ Some row → row_option parts o ≡ row_named rows k → fs ≡ field_forms (row_in parts row) ts → fs ≡ fields_if (row_named rows k) ts
named_read parts rows k row o fs ts e q h = h ∙ ap (λ (z : Option GenericRow). fields_if z ts) (sym (ap (row_option parts) e) ∙ q)

pub none_named : (parts : GenericParts) (rows : List GenericRow) (k : ℕ) (o : Option RowDecl) (ts : Forms) → o ≡ None → row_option parts o ≡ row_named rows k → [] ≡ fields_if (row_named rows k) ts
none_named parts rows k o ts e q = ap (λ (z : Option GenericRow). fields_if z ts) (sym (ap (row_option parts) e) ∙ q)

-- Types that runs spell, one after another.
pub runs_start : (words : List Word) (start : Judging) (m : Meaning) (runs : List Run) → IsMeaningBelow (length start.types) m → RunsSoFar words start start m runs runs []
runs_start words start m runs h = record { keeps = record { grows = grows_none start.types; parts = refl; scope = refl; counts = refl }; below = tt; meaning = h; types = refl }

pub runs_meaning : (words : List Word) (start now : Judging) (m : Meaning) (runs rest : List Run) (ids : List TypeId) → RunsSoFar words start now m runs rest ids → IsMeaningBelow (length now.types) m
runs_meaning words start now m runs rest ids h = meaning_more (length start.types) (length now.types) m h.keeps.grows.longer h.meaning

runs_more : (words : List Word) (start now newer : Judging) (m : Meaning) (runs after : List Run) (run : Run) (ids more : List TypeId) (id : TypeId) → RunsSoFar words start now m runs (run ∷ after) ids → Meets now.types newer.types id (formed (meant_by (forms now) m) (type_in words run)) → Keeps now newer → more ≡ ids ++ id ∷ [] → RunsSoFar words start newer m runs after more
runs_more words start now newer m runs after run ids more id h met k e =
    let same : meant_by (forms now) m ≡ meant_by (forms start) m = meaning_grows start.types now.types m h.keeps.grows h.meaning in
    let rest : List Form = map (run_meant words (meant_by (forms start) m)) after in
    record {
      keeps = record { grows = grows_on start.types now.types newer.types h.keeps.grows met.grows; parts = k.parts ∙ h.keeps.parts; scope = k.scope ∙ h.keeps.scope; counts = k.counts ∙ h.keeps.counts };
      below = subst (AreBelow (length newer.types)) (sym e) (below_push (length newer.types) ids id (below_more (length now.types) (length newer.types) ids met.grows.longer h.below) met.below);
      meaning = h.meaning;
      types = ap (λ l. listed (forms newer) l ++ rest) e ∙ ap (λ l. l ++ rest) (listed_push (forms newer) ids id)
          ∙ append_assoc (listed (forms newer) ids) (form_at (forms newer) id.0 ∷ []) rest
          ∙ ap₂ (λ (l : List Form) (f : Form). l ++ f ∷ rest) (listed_grow now.types newer.types ids met.grows h.below) (met.form ∙ ap (λ n. formed n (type_in words run)) same)
          ∙ h.types;
    }

pub runs_next : (words : List Word) (start now newer : Judging) (m : Meaning) (runs rest : List Run) (d : Run) (spelled : List Word) (ids more : List TypeId) (id : TypeId) → 1 ≤ length rest → RunsSoFar words start now m runs rest ids → spelled ≡ run_words words (get_or rest 0 d) → Meets now.types newer.types id (formed (meant_by (forms now) m) (first_type (stack_of spelled))) → Keeps now newer → more ≡ ids ++ id ∷ [] → RunsSoFar words start newer m runs (take (length rest - 1) (drop 1 rest)) more
runs_next words start now newer m runs [] d spelled ids more id l h w met k e = absurd (omega (arith, l))
runs_next words start now newer m runs (run ∷ rest) d spelled ids more id l h w met k e =
    subst (λ z. RunsSoFar words start newer m runs z more) (sym (rest-is run rest))
    (runs_more words start now newer m runs rest run ids more id h (subst (λ ws. Meets now.types newer.types id (formed (meant_by (forms now) m) (first_type (stack_of ws)))) w met) k e)

pub runs_end : (words : List Word) (start now : Judging) (m : Meaning) (runs rest : List Run) (ids : List TypeId) → length rest < 1 → RunsSoFar words start now m runs rest ids → listed (forms now) ids ≡ map (formed (meant_by (forms start) m)) (map (type_in words) runs)
runs_end words start now m runs [] ids l h = sym (append-nil (listed (forms now) ids)) ∙ h.types ∙ go runs where
  go : (rs : List Run) → map (run_meant words (meant_by (forms start) m)) rs ≡ map (formed (meant_by (forms start) m)) (map (type_in words) rs)
  go [] = refl
  go (run ∷ rs) = ap (λ l. formed (meant_by (forms start) m) (type_in words run) ∷ l) (go rs)
runs_end words start now m runs (run ∷ rest) ids l h = absurd (omega (arith, l))

-- So for the types of parameters.
abbrev pub parameter_run : GenericParameter → Run
parameter_run q = q.ty

abbrev parameter_meant : Meant → GenericParameterTree → Form
parameter_meant m q = formed m q.ty

pub parameters_next : (words : List Word) (start now newer : Judging) (m : Meaning) (runs : List Run) (rest : List GenericParameter) (d : GenericParameter) (spelled : List Word) (ids more : List TypeId) (id : TypeId) → 1 ≤ length rest → RunsSoFar words start now m runs (map parameter_run rest) ids → spelled ≡ run_words words (get_or rest 0 d).ty → Meets now.types newer.types id (formed (meant_by (forms now) m) (first_type (stack_of spelled))) → Keeps now newer → more ≡ ids ++ id ∷ [] → RunsSoFar words start newer m runs (map parameter_run (take (length rest - 1) (drop 1 rest))) more
parameters_next words start now newer m runs [] d spelled ids more id l h w met k e = absurd (omega (arith, l))
parameters_next words start now newer m runs (q ∷ rest) d spelled ids more id l h w met k e =
    subst (λ z. RunsSoFar words start newer m runs (map parameter_run z) more) (sym (rest-is q rest))
    (runs_more words start now newer m runs (map parameter_run rest) q.ty ids more id h (subst (λ ws. Meets now.types newer.types id (formed (meant_by (forms now) m) (first_type (stack_of ws)))) w met) k e)

pub parameters_end : (words : List Word) (start now : Judging) (m : Meaning) (parameters rest : List GenericParameter) (ids : List TypeId) → length rest < 1 → RunsSoFar words start now m (map parameter_run parameters) (map parameter_run rest) ids → listed (forms now) ids ≡ map (parameter_meant (meant_by (forms start) m)) (map (parameter_in words) parameters)
parameters_end words start now m parameters [] ids l h = sym (append-nil (listed (forms now) ids)) ∙ h.types ∙ go parameters where
  go : (qs : List GenericParameter) → map (run_meant words (meant_by (forms start) m)) (map parameter_run qs) ≡ map (parameter_meant (meant_by (forms start) m)) (map (parameter_in words) qs)
  go [] = refl
  go (q ∷ qs) = ap (λ l. formed (meant_by (forms start) m) (type_in words q.ty) ∷ l) (go qs)
parameters_end words start now m parameters (q ∷ rest) ids l h = absurd (omega (arith, l))

-- What a function gives: one type that was read, or several, whose numbers were put.
pub one_given : (words : List Word) (new : Judging) (m : Meant) (run : Run) (spelled : List Word) (id : TypeId) → form_at (forms new) id.0 ≡ formed m (first_type (stack_of spelled)) → spelled ≡ run_words words run → One (form_at (forms new) id.0) ≡ One (formed m (type_in words run))
one_given words new m run spelled id e w = ap One (e ∙ ap (λ ws. formed m (first_type (stack_of ws))) w)
