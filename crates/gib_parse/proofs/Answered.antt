-- What the parser answers, by what reading gives.
use Rattle.std.proofs.Common.{◌≡◌, ℕ, ◌≤◌, List, [], Result, Ok, Err, refl, sym, ap, ◌∙◌, subst, ◌⊎◌, inl, inr}
use Rattle.std.specs.Prelude.{IfOk, IfErr}
use Rattle.gib_base.specs.declared.Span.{Span}
use Rattle.gib_base.specs.declared.token.Token.{Token}
use Rattle.gib_base.specs.Lexed.{Lexed}
use Rattle.gib_syntax.specs.GenericTree.{GenericProgramTree}
use Rattle.gib_syntax.specs.Spelling.{places_of, Derives, IsPlacedProgram, levels_program}
use Rattle.gib_syntax.specs.GenericParts.{GenericParts, generic_program_of}
use Rattle.gib_reads.specs.declared.fault.ParseFault.{ParseFault}
use Rattle.gib_reads.specs.declared.fault.ParseFault.TheVariants as fault
use Rattle.gib_reads.specs.declared.stop.Stop.{Stop}
use Rattle.gib_reads.specs.declared.stop.Stop.TheVariants as stop
use Rattle.gib_parse.specs.Reading.{Fault, At, Nested, Read, whole}
use Rattle.gib_parse.specs.Parsing.{Fails}
use Rattle.gib_parse.specs.Answers.{read_of, AnswersRead, AnswersOnly, AnswersFault, fault_of}
use Rattle.gib_parse.specs.Blaming.{place_of, IsBlamedAt, IsTooDeepAt}
use Rattle.gib_reads.proofs.Tools.{done, failed}
use Rattle.gib_reads.proofs.Local.{Refused, Deep}
use Rattle.gib_parse.proofs.WholeLaws.{whole_begun}
use Rattle.gib_parse.proofs.OneFault.{one_blamed, one_too_deep, not_both, not_blamed, not_too_deep}
use Rattle.gib_parse.proofs.Sunk.{whole_begun_with, whole_sinks, whole_floats}
use Rattle.gib_parse.proofs.Whole.{whole_reads, derived_is_read, placed_is_read, whole_blames, whole_deepens, whole_within}

-- ---- exactly what is read

pub found_read : (l : Lexed) (p : GenericParts) → read_of l ≡ done (generic_program_of p) [] → AnswersRead l (Ok p)
found_read l p e = e

pub stopped_read : (l : Lexed) (stop : Stop) → Fails stop (read_of l) → AnswersRead l (Err (fault_of l.spans l.len stop))
stopped_read l stop.Memory f = tt
stopped_read l (stop.At left) f = record { left = left; read = f; here = refl }
stopped_read l (stop.Nested left) f = record { left = left; read = f; here = refl }

-- ---- and so

pub found : (l : Lexed) (r : Result GenericParts ParseFault) → AnswersRead l r → IfOk r (λ p. Derives l.tokens (generic_program_of p))
found l (Ok p) a = (whole_reads 200 (places_of l.spans) l.tokens (generic_program_of p) [] a).derived
found l (Err e) a = tt

pub placed : (l : Lexed) (r : Result GenericParts ParseFault) → AnswersRead l r → IfOk r (λ p. IsPlacedProgram (places_of l.spans) (generic_program_of p))
placed l (Ok p) a = (whole_reads 200 (places_of l.spans) l.tokens (generic_program_of p) [] a).placed
placed l (Err e) a = tt

pub levels : (l : Lexed) (r : Result GenericParts ParseFault) → AnswersRead l r → IfOk r (λ p. levels_program (generic_program_of p) ≤ 200)
levels l (Ok p) a = (whole_reads 200 (places_of l.spans) l.tokens (generic_program_of p) [] a).level
levels l (Err e) a = tt

no_fault : (p : GenericProgramTree) (r : Read GenericProgramTree) (f : Fault) → r ≡ failed f → r ≡ done p [] → ⊥
no_fault p r f e d = absurd (let x = sym e ∙ d in cc)

same_program : (p g : GenericProgramTree) (r : Read GenericProgramTree) → r ≡ done p [] → r ≡ done g [] → p ≡ g
same_program p g r e d = ok_is p g (sym e ∙ d) where
  ok_is : (a b : GenericProgramTree) → done a [] ≡ done b [] → a ≡ b
  ok_is a b e = go (a, []) (b, []) e where
    go : (x y : GenericProgramTree × List Token) → done x.0 x.1 ≡ done y.0 y.1 → x.0 ≡ y.0
    go x y e = ap (λ (z : GenericProgramTree × List Token). z.0) (whole_pair x y e) where
      whole_pair : (x y : GenericProgramTree × List Token) → done x.0 x.1 ≡ done y.0 y.1 → x ≡ y
      whole_pair x y e = cc

pub accepted : (l : Lexed) (r : Result GenericParts ParseFault) → AnswersRead l r → (g : GenericProgramTree) → Derives l.tokens g → levels_program g ≤ 200 → IfErr r (λ e. e ≡ fault.Memory)
accepted l (Ok p) a g d le = tt
accepted l (Err fault.Memory) a g d le = refl
accepted l (Err (fault.At place)) a g d le = absurd (no_fault _ (read_of l) (At a.left) a.read (derived_is_read 200 (places_of l.spans) l.tokens g d le))
accepted l (Err (fault.Nested place)) a g d le = absurd (no_fault _ (read_of l) (Nested a.left) a.read (derived_is_read 200 (places_of l.spans) l.tokens g d le))

pub only : (l : Lexed) (r : Result GenericParts ParseFault) → AnswersRead l r → (g : GenericProgramTree) → Derives l.tokens g → levels_program g ≤ 200 → IsPlacedProgram (places_of l.spans) g → AnswersOnly r g
only l (Ok p) a g d le h = same_program (generic_program_of p) g (read_of l) a (placed_is_read 200 (places_of l.spans) l.tokens g d h le)
only l (Err fault.Memory) a g d le h = tt
only l (Err (fault.At place)) a g d le h = no_fault g (read_of l) (At a.left) a.read (placed_is_read 200 (places_of l.spans) l.tokens g d h le)
only l (Err (fault.Nested place)) a g d le h = no_fault g (read_of l) (Nested a.left) a.read (placed_is_read 200 (places_of l.spans) l.tokens g d h le)

pub blamed : (l : Lexed) (place : ℕ) → AnswersRead l (Err (fault.At place)) → IsBlamedAt l place
blamed l place a = record {
  left = a.left;
  within = whole_within 200 (places_of l.spans) Refused l.tokens a.left a.read;
  blamed = whole_blames 200 (places_of l.spans) l.tokens a.left a.read;
  first = whole_begun (places_of l.spans) 200 l.tokens a.left a.read;
  floats = whole_floats 200 (places_of l.spans) l.tokens a.left a.read;
  here = a.here;
}

pub too_deep : (l : Lexed) (place : ℕ) → AnswersRead l (Err (fault.Nested place)) → IsTooDeepAt l place
too_deep l place a = record {
  left = a.left;
  within = whole_within 200 (places_of l.spans) Deep l.tokens a.left a.read;
  deep = whole_deepens (places_of l.spans) l.tokens a.left a.read;
  begun = whole_begun_with 200 (places_of l.spans) l.tokens a.left a.read;
  sinks = whole_sinks (places_of l.spans) l.tokens a.left a.read;
  here = a.here;
}

-- ---- exactly what is refused

pub blamed_answer : (l : Lexed) (r : Result GenericParts ParseFault) → AnswersRead l r → (place : ℕ) → IsBlamedAt l place → AnswersFault r (fault.At place)
blamed_answer l (Ok p) a place h = not_blamed l place (generic_program_of p) (found l (Ok p) a) h
blamed_answer l (Err fault.Memory) a place h = tt
blamed_answer l (Err (fault.At other)) a place h = ap (λ (n : ℕ). fault.At n) (one_blamed l other place (blamed l other a) h)
blamed_answer l (Err (fault.Nested other)) a place h = absurd (not_both l place other h (too_deep l other a))

pub too_deep_answer : (l : Lexed) (r : Result GenericParts ParseFault) → AnswersRead l r → (place : ℕ) → IsTooDeepAt l place → AnswersFault r (fault.Nested place)
too_deep_answer l (Ok p) a place h = not_too_deep l place (generic_program_of p) (found l (Ok p) a) (levels l (Ok p) a) h
too_deep_answer l (Err fault.Memory) a place h = tt
too_deep_answer l (Err (fault.At other)) a place h = absurd (not_both l other place (blamed l other a) h)
too_deep_answer l (Err (fault.Nested other)) a place h = ap (λ (n : ℕ). fault.Nested n) (one_too_deep l other place (too_deep l other a) h)

-- Tokens that spell no program of 200 levels have a fault.
pub has_fault : (l : Lexed) → ((p : GenericProgramTree) → Derives l.tokens p → levels_program p ≤ 200 → ⊥) → (place : ℕ) × (IsBlamedAt l place ⊎ IsTooDeepAt l place)
has_fault l none_fits = go (read_of l) refl where
  go : (r : Read GenericProgramTree) → read_of l ≡ r → (place : ℕ) × (IsBlamedAt l place ⊎ IsTooDeepAt l place)
  go (Ok x) e = let w = whole_reads 200 (places_of l.spans) l.tokens x.0 x.1 e in absurd (none_fits x.0 w.derived w.level)
  go (Err (At left)) e = (place_of l left, inl (blamed l (place_of l left) (record { left = left; read = e; here = refl })))
  go (Err (Nested left)) e = (place_of l left, inr (too_deep l (place_of l left) (record { left = left; read = e; here = refl })))

-- ---- the same, of what the code sees

pub read_ok : (l : Lexed) (spans : List Span) (tokens : List Token) (p : GenericParts) → spans ≡ l.spans → tokens ≡ l.tokens → whole (places_of spans) tokens ≡ done (generic_program_of p) [] → AnswersRead l (Ok p)
read_ok l spans tokens p e f w =
    ap (λ (s : List Span). whole (places_of s) l.tokens) (sym e) ∙ ap (λ (t : List Token). whole (places_of spans) t) (sym f) ∙ w

same_fails : {A : Type 0} (r q : Read A) (stop : Stop) → q ≡ r → Fails stop q → Fails stop r
same_fails {A = A} r q stop e f = subst (λ (x : Read A). Fails stop x) e f

pub read_err : (l : Lexed) (spans again : List Span) (tokens : List Token) (len : ℕ) (stop : Stop) (f : ParseFault) → spans ≡ l.spans → again ≡ l.spans → tokens ≡ l.tokens → len ≡ l.len → f ≡ fault_of again len stop → Fails stop (whole (places_of spans) tokens) → AnswersRead l (Err f)
read_err l spans again tokens len stop f e1 e2 e3 e4 e5 w =
    let is : whole (places_of spans) tokens ≡ read_of l = ap (λ (s : List Span). whole (places_of s) tokens) e1 ∙ ap (λ (t : List Token). whole (places_of l.spans) t) e3 in
    let same : f ≡ fault_of l.spans l.len stop = e5 ∙ ap (λ (s : List Span). fault_of s len stop) e2 ∙ ap (λ (n : ℕ). fault_of l.spans n stop) e4 in
    subst (λ (g : ParseFault). AnswersRead l (Err g)) (sym same) (stopped_read l stop (same_fails (read_of l) (whole (places_of spans) tokens) stop is w))

pub blamed_where : (l : Lexed) (f : ParseFault) (place : ℕ) → f ≡ fault.At place → AnswersRead l (Err f) → IsBlamedAt l place
blamed_where l f place e a = blamed l place (subst (λ (g : ParseFault). AnswersRead l (Err g)) e a)

pub too_deep_where : (l : Lexed) (f : ParseFault) (place : ℕ) → f ≡ fault.Nested place → AnswersRead l (Err f) → IsTooDeepAt l place
too_deep_where l f place e a = too_deep l place (subst (λ (g : ParseFault). AnswersRead l (Err g)) e a)
