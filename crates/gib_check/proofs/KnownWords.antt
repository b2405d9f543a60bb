-- The names of written types, word by word.
use Rattle.std.proofs.Common.{◌≡◌, ℕ, List, [], ◌∷◌, ◌++◌, length, Ok, Err, refl, sym, ap, ◌∙◌, append_assoc, append-nil}
use Rattle.gib_syntax.specs.declared.written.Word.{Word}
use Rattle.gib_syntax.specs.Declarations.{number_of}
use Rattle.gib_syntax.specs.Forms.{WrittenType, WrittenTypes, WholeAt, TruthAt, VariableAt, DataAt, NoType, MoreTypes, count_written}
use Rattle.gib_syntax.specs.Words.{words_of, words_in, stack_of, all_types, first_type}
use Rattle.gib_syntax.specs.GenericTree.{GenericDataTree, data_named}
use Rattle.gib_syntax.proofs.Reading.{read_one, read_all}
use Rattle.gib_check.specs.declared.fault.Kind.TheVariants as kind
use Rattle.gib_check.specs.Faults.{Checked, and_then, found, as_many, known, all_known}
use Rattle.gib_check.specs.FirstFault.{check_types}
use Rattle.gib_check.specs.Knowing.{known_words}

pub then_then : {A B C : Type 0} (c : Checked A) (f : A → Checked B) (g : B → Checked C) → and_then (and_then c f) g ≡ and_then c (λ x. and_then (f x) g)
then_then (Ok x) f g = refl
then_then (Err e) f g = refl

pub then_same : {A B : Type 0} (c : Checked A) (f g : A → Checked B) → ((x : A) → f x ≡ g x) → and_then c f ≡ and_then c g
then_same (Ok x) f g h = h x
then_same (Err e) f g h = refl

unit_then : (c : Checked (Unit {0})) → and_then c (λ _. Ok (tt {0})) ≡ c
unit_then (Ok u) = refl
unit_then (Err e) = refl

mutual
  one_known : (datas : List GenericDataTree) (vars : List ℕ) (x : WrittenType) (rest : List Word) → known_words datas vars (words_of x ++ rest) ≡ and_then (known datas vars x) (λ _. known_words datas vars rest)
  one_known datas vars (WholeAt p) rest = refl
  one_known datas vars (TruthAt p) rest = refl
  one_known datas vars (VariableAt x) rest = refl
  one_known datas vars (DataAt p x ws) rest =
      then_then (found (data_named datas (number_of x)) kind.Unknown x.span) (λ d. as_many (count_written ws) (length d.variables) x) (λ _. known_words datas vars (words_in ws ++ rest))
      ∙ then_same (found (data_named datas (number_of x)) kind.Unknown x.span)
      (λ d. and_then (as_many (count_written ws) (length d.variables) x) (λ _. known_words datas vars (words_in ws ++ rest)))
      (λ d. and_then (and_then (as_many (count_written ws) (length d.variables) x) (λ _. all_known datas vars ws)) (λ _. known_words datas vars rest))
      (λ d. then_same (as_many (count_written ws) (length d.variables) x) (λ _. known_words datas vars (words_in ws ++ rest)) (λ _. and_then (all_known datas vars ws) (λ _. known_words datas vars rest)) (λ _. some_known datas vars ws rest)
      ∙ sym (then_then (as_many (count_written ws) (length d.variables) x) (λ _. all_known datas vars ws) (λ _. known_words datas vars rest)))
      ∙ sym (then_then (found (data_named datas (number_of x)) kind.Unknown x.span) (λ d. and_then (as_many (count_written ws) (length d.variables) x) (λ _. all_known datas vars ws)) (λ _. known_words datas vars rest))

  some_known : (datas : List GenericDataTree) (vars : List ℕ) (xs : WrittenTypes) (rest : List Word) → known_words datas vars (words_in xs ++ rest) ≡ and_then (all_known datas vars xs) (λ _. known_words datas vars rest)
  some_known datas vars NoType rest = refl
  some_known datas vars (MoreTypes x xs) rest =
      ap (known_words datas vars) (append_assoc (words_of x) (words_in xs) rest)
      ∙ one_known datas vars x (words_in xs ++ rest)
      ∙ then_same (known datas vars x) (λ _. known_words datas vars (words_in xs ++ rest)) (λ _. and_then (all_known datas vars xs) (λ _. known_words datas vars rest)) (λ _. some_known datas vars xs rest)
      ∙ sym (then_then (known datas vars x) (λ _. all_known datas vars xs) (λ _. known_words datas vars rest))

-- The words of one type, and of several.
pub type_known : (datas : List GenericDataTree) (vars : List ℕ) (words : List Word) (x : WrittenType) → words ≡ words_of x → known_words datas vars words ≡ known datas vars (first_type (stack_of words))
type_known datas vars words x e =
    ap (known_words datas vars) (e ∙ sym (append-nil (words_of x))) ∙ one_known datas vars x [] ∙ unit_then (known datas vars x) ∙ ap (known datas vars) (sym (ap (λ ws. first_type (stack_of ws)) e ∙ read_one x))

pub types_known : (datas : List GenericDataTree) (vars : List ℕ) (words : List Word) (xs : WrittenTypes) → words ≡ words_in xs → known_words datas vars words ≡ all_known datas vars (all_types (stack_of words))
types_known datas vars words xs e =
    ap (known_words datas vars) (e ∙ sym (append-nil (words_in xs))) ∙ some_known datas vars xs [] ∙ unit_then (all_known datas vars xs) ∙ ap (all_known datas vars) (sym (ap (λ ws. all_types (stack_of ws)) e ∙ read_all xs))

pub each_known : (datas : List GenericDataTree) (vars : List ℕ) (st : List WrittenType) → all_known datas vars (all_types st) ≡ check_types datas vars st
each_known datas vars [] = refl
each_known datas vars (x ∷ st) = then_same (known datas vars x) (λ _. all_known datas vars (all_types st)) (λ _. check_types datas vars st) (λ _. each_known datas vars st)
