-- The words of a type read back as the type.
use Rattle.std.proofs.Common.{◌≡◌, List, [], ◌∷◌, ◌++◌, refl, sym, ap, ap₂, ◌∙◌}
use Rattle.gib_syntax.specs.declared.written.Word.{Word}
use Rattle.gib_syntax.specs.declared.written.Word.TheVariants as w
use Rattle.gib_syntax.specs.Words.{taken, left, read_word, stack_of, all_types, first_type, words_of, words_in}
use Rattle.gib_syntax.specs.Forms.{WrittenType, WrittenTypes, WholeAt, TruthAt, VariableAt, DataAt, NoType, MoreTypes, count_written}

unfoldable pub onto : WrittenTypes → List WrittenType → List WrittenType
onto NoType st = st
onto (MoreTypes x xs) st = x ∷ onto xs st

taken_onto : (xs : WrittenTypes) (st : List WrittenType) → taken (count_written xs) (onto xs st) ≡ xs
unfolding onto
taken_onto NoType st = refl
taken_onto (MoreTypes x xs) st = ap (MoreTypes x) (taken_onto xs st)

left_onto : (xs : WrittenTypes) (st : List WrittenType) → left (count_written xs) (onto xs st) ≡ st
unfolding onto
left_onto NoType st = refl
left_onto (MoreTypes x xs) st = left_onto xs st

all_onto : (xs : WrittenTypes) → all_types (onto xs []) ≡ xs
unfolding onto
all_onto NoType = refl
all_onto (MoreTypes x xs) = ap (MoreTypes x) (all_onto xs)

append_append : (xs ys zs : List Word) → (xs ++ ys) ++ zs ≡ xs ++ (ys ++ zs)
append_append [] ys zs = refl
append_append (x ∷ xs) ys zs = ap (λ l. x ∷ l) (append_append xs ys zs)

append_nil : (xs : List Word) → xs ++ [] ≡ xs
append_nil [] = refl
append_nil (x ∷ xs) = ap (λ l. x ∷ l) (append_nil xs)

mutual
  unfolding onto

  read_onto : (x : WrittenType) (rest : List Word) → stack_of (words_of x ++ rest) ≡ x ∷ stack_of rest
  read_onto (WholeAt p) rest = refl
  read_onto (TruthAt p) rest = refl
  read_onto (VariableAt x) rest = refl
  read_onto (DataAt p x xs) rest =
      ap (read_word (w.Data p x (count_written xs))) (read_all_onto xs rest)
      ∙ ap₂ (λ (a : WrittenTypes) (b : List WrittenType). DataAt p x a ∷ b) (taken_onto xs (stack_of rest)) (left_onto xs (stack_of rest))

  read_all_onto : (xs : WrittenTypes) (rest : List Word) → stack_of (words_in xs ++ rest) ≡ onto xs (stack_of rest)
  read_all_onto NoType rest = refl
  read_all_onto (MoreTypes x xs) rest =
      ap stack_of (append_append (words_of x) (words_in xs) rest) ∙ read_onto x (words_in xs ++ rest) ∙ ap (λ st. x ∷ st) (read_all_onto xs rest)

pub read_one : (x : WrittenType) → first_type (stack_of (words_of x)) ≡ x
read_one x = ap (λ l. first_type (stack_of l)) (sym (append_nil (words_of x))) ∙ ap first_type (read_onto x [])

pub read_all : (xs : WrittenTypes) → all_types (stack_of (words_in xs)) ≡ xs
read_all xs = ap (λ l. all_types (stack_of l)) (sym (append_nil (words_in xs))) ∙ ap all_types (read_all_onto xs []) ∙ all_onto xs

pub read_stack : (x : WrittenType) → stack_of (words_of x) ≡ x ∷ []
read_stack x = ap stack_of (sym (append_nil (words_of x))) ∙ read_onto x []

onto_listed : (xs : List WrittenType) → onto (all_types xs) [] ≡ xs
unfolding onto
onto_listed [] = refl
onto_listed (x ∷ xs) = ap (λ l. x ∷ l) (onto_listed xs)

-- The words of listed types read back as the list.
pub read_list : (xs : List WrittenType) → stack_of (words_in (all_types xs)) ≡ xs
read_list xs = ap stack_of (sym (append_nil (words_in (all_types xs)))) ∙ read_all_onto (all_types xs) [] ∙ onto_listed xs

pub stack_listed : (xs : WrittenTypes) → stack_of (words_in xs) ≡ onto xs []
stack_listed xs = ap stack_of (sym (append_nil (words_in xs))) ∙ read_all_onto xs []
