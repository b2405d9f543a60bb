-- The tokens of types are what they are spelled as.
use Rattle.std.proofs.Common.{◌≡◌, ℕ, zero, suc, ◌<◌, ◌≤◌, ◌-◌, arith, List, [], ◌∷◌, ◌++◌, length, refl, sym, ap, ◌∙◌, append_assoc}
use Rattle.std.proofs.lemmas.List.{append-nil}
use Rattle.gib_base.specs.declared.token.Sign.TheVariants as s
use Rattle.gib_base.specs.declared.name.Name.{Name}
use Rattle.gib_base.specs.declared.token.Token.{Token}
use Rattle.gib_base.specs.declared.token.Token.TheVariants as t
use Rattle.gib_syntax.specs.declared.written.Word.{Word}
use Rattle.gib_syntax.specs.Forms.{WrittenType, WrittenTypes, WholeAt, TruthAt, VariableAt, DataAt, NoType, MoreTypes, count_written}
use Rattle.gib_syntax.specs.Words.{words_of, words_in}
use Rattle.gib_syntax.specs.Spelling.{spell_type, spell_written}
use Rattle.gib_syntax.specs.Spelling.{spell_types, spell_type_arguments}
use Rattle.gib_syntax.specs.Words.{stack_of, all_types, first_type}
use Rattle.gib_syntax.proofs.Reading.{read_one, read_all, onto, stack_listed}
use Rattle.gib_syntax.specs.TypeTokens.{TypesSpelled, unspelled, closed, declared, all_spelled}

-- What follows the tokens of an argument and of those behind it stands behind them all, as it does for each part.
both_front : (a : WrittenType) (xs : WrittenTypes) (rest : List Token) → ((l : List Token) → spell_type a l ≡ spell_type a [] ++ l) → spell_written xs rest ≡ spell_written xs [] ++ rest
    → spell_type a (spell_written xs rest) ≡ spell_type a (spell_written xs []) ++ rest
both_front a xs rest one all =
    one (spell_written xs rest) ∙ ap (λ (l : List Token). spell_type a [] ++ l) all ∙ sym (append_assoc (spell_type a []) (spell_written xs []) rest)
    ∙ ap (λ (l : List Token). l ++ rest) (sym (one (spell_written xs [])))

-- So it does behind the parenthesis that closes them.
closing_front : (a : WrittenType) (xs : WrittenTypes) (rest : List Token) → ((l : List Token) → spell_type a l ≡ spell_type a [] ++ l) → ((l : List Token) → spell_written xs l ≡ spell_written xs [] ++ l)
    → spell_type a (spell_written xs (t.Sign s.Close ∷ rest)) ≡ spell_type a (spell_written xs (t.Sign s.Close ∷ [])) ++ rest
closing_front a xs rest one all =
    both_front a xs (t.Sign s.Close ∷ rest) one (all (t.Sign s.Close ∷ rest)) ∙ sym (append_assoc (spell_type a (spell_written xs [])) (t.Sign s.Close ∷ []) rest)
    ∙ ap (λ (l : List Token). l ++ rest) (sym (both_front a xs (t.Sign s.Close ∷ []) one (all (t.Sign s.Close ∷ []))))

-- What follows a type's tokens stands behind them.
mutual
  type_front : (x : WrittenType) (rest : List Token) → spell_type x rest ≡ spell_type x [] ++ rest
  type_front (WholeAt p) rest = refl
  type_front (TruthAt p) rest = refl
  type_front (VariableAt x) rest = refl
  type_front (DataAt p x NoType) rest = refl
  type_front (DataAt p x (MoreTypes a xs)) rest =
      ap (λ (l : List Token). t.Sign s.Open ∷ t.Constructor x.name ∷ l) (closing_front a xs rest (λ l. type_front a l) (λ l. written_front xs l))

  written_front : (xs : WrittenTypes) (rest : List Token) → spell_written xs rest ≡ spell_written xs [] ++ rest
  written_front NoType rest = refl
  written_front (MoreTypes a xs) rest = both_front a xs rest (λ l. type_front a l) (written_front xs rest)

-- An argument and those behind it, of a type that is closed behind them.
arguments_printed : (a : WrittenType) (xs : WrittenTypes) (ts : List Token) (ds : List ℕ) (rest : List Word)
    → all_spelled (record { tokens = ts; due = suc (count_written xs) ∷ ds }) (words_of a ++ (words_in xs ++ rest)) ≡ all_spelled (closed (ts ++ spell_type a []) (suc (count_written xs) ∷ ds)) (words_in xs ++ rest)
    → all_spelled (closed (ts ++ spell_type a []) (suc (count_written xs) ∷ ds)) (words_in xs ++ rest) ≡ all_spelled (closed ((ts ++ spell_type a []) ++ spell_written xs (t.Sign s.Close ∷ [])) ds) rest
    → all_spelled (record { tokens = ts; due = suc (count_written xs) ∷ ds }) (words_in (MoreTypes a xs) ++ rest) ≡ all_spelled (closed (ts ++ spell_written (MoreTypes a xs) (t.Sign s.Close ∷ [])) ds) rest
arguments_printed a xs ts ds rest one all =
    let last : List Token = t.Sign s.Close ∷ [] in
    ap (all_spelled (record { tokens = ts; due = suc (count_written xs) ∷ ds })) (append_assoc (words_of a) (words_in xs) rest)
    ∙ one ∙ all
    ∙ ap (λ (l : List Token). all_spelled (closed l ds) rest) (append_assoc ts (spell_type a []) (spell_written xs last) ∙ ap (λ (l : List Token). ts ++ l) (sym (type_front a (spell_written xs last))))

mutual
  -- The words of a type, where these follow.
  one_printed : (x : WrittenType) (ts : List Token) (ds : List ℕ) (rest : List Word) → all_spelled (record { tokens = ts; due = ds }) (words_of x ++ rest) ≡ all_spelled (closed (ts ++ spell_type x []) ds) rest
  one_printed (WholeAt p) ts ds rest = refl
  one_printed (TruthAt p) ts ds rest = refl
  one_printed (VariableAt x) ts ds rest = refl
  one_printed (DataAt p x NoType) ts ds rest = refl
  one_printed (DataAt p x (MoreTypes a xs)) ts ds rest =
      let front : List Token = t.Sign s.Open ∷ t.Constructor x.name ∷ [] in
      let here : (ts ++ t.Sign s.Open ∷ []) ++ t.Constructor x.name ∷ [] ≡ ts ++ front = append_assoc ts (t.Sign s.Open ∷ []) (t.Constructor x.name ∷ []) in
      ap (λ (l : List Token). all_spelled (record { tokens = l; due = suc (count_written xs) ∷ ds }) (words_in (MoreTypes a xs) ++ rest)) here
      ∙ arguments_printed a xs (ts ++ front) ds rest (one_printed a (ts ++ front) (suc (count_written xs) ∷ ds) (words_in xs ++ rest)) (within_printed xs ((ts ++ front) ++ spell_type a []) ds rest)
      ∙ ap (λ (l : List Token). all_spelled (closed l ds) rest) (append_assoc ts front (spell_written (MoreTypes a xs) (t.Sign s.Close ∷ [])))

  -- The words of the arguments behind one that has ended.
  within_printed : (xs : WrittenTypes) (ts : List Token) (ds : List ℕ) (rest : List Word)
      → all_spelled (closed ts (suc (count_written xs) ∷ ds)) (words_in xs ++ rest) ≡ all_spelled (closed (ts ++ spell_written xs (t.Sign s.Close ∷ [])) ds) rest
  within_printed NoType ts ds rest = refl
  within_printed (MoreTypes a xs) ts ds rest =
      arguments_printed a xs ts ds rest (one_printed a ts (suc (count_written xs) ∷ ds) (words_in xs ++ rest)) (within_printed xs (ts ++ spell_type a []) ds rest)

printed_from : (xs : WrittenTypes) (ts : List Token) → all_spelled (record { tokens = ts; due = [] }) (words_in xs) ≡ record { tokens = ts ++ spell_written xs []; due = [] }
printed_from NoType ts = ap (λ (l : List Token). let p : TypesSpelled = record { tokens = l; due = [] } in p) (sym (append-nil ts))
printed_from (MoreTypes a xs) ts =
    one_printed a ts [] (words_in xs) ∙ printed_from xs (ts ++ spell_type a [])
    ∙ ap (λ (l : List Token). let p : TypesSpelled = record { tokens = l; due = [] } in p) (append_assoc ts (spell_type a []) (spell_written xs []) ∙ ap (λ (l : List Token). ts ++ l) (sym (type_front a (spell_written xs []))))

-- All words of types.
pub types_printed : (xs : WrittenTypes) (rest : List Token) → (all_spelled unspelled (words_in xs)).tokens ++ rest ≡ spell_written xs rest
types_printed xs rest = ap (λ (p : TypesSpelled). p.tokens ++ rest) (printed_from xs []) ∙ sym (written_front xs rest)

-- ---- closing

closed_last : (ts : List Token) (n : ℕ) (ds : List ℕ) → n ≤ 1 → closed ts (n ∷ ds) ≡ closed (ts ++ t.Sign s.Close ∷ []) ds
closed_last ts zero ds le = refl
closed_last ts (suc zero) ds le = refl
closed_last ts (suc (suc n)) ds le = absurd (omega (arith, le))

closed_more : (ts : List Token) (n : ℕ) (ds : List ℕ) → 1 < n → closed ts (n ∷ ds) ≡ record { tokens = ts; due = (n - 1) ∷ ds }
closed_more ts zero ds lt = absurd (omega (arith, lt))
closed_more ts (suc zero) ds lt = absurd (omega (arith, lt))
closed_more ts (suc (suc n)) ds lt = let e : suc n ≡ suc (suc n) - 1 = omega arith in (λ i. record { tokens = ts; due = e i ∷ ds })

pub close_goes : (old mid new : TypesSpelled) (ts : List Token) (ds : List ℕ) (n : ℕ) → closed old.tokens old.due ≡ closed ts ds → old.due ≡ n ∷ mid.due → mid.tokens ≡ old.tokens → n ≤ 1 → new ≡ record { tokens = mid.tokens ++ t.Sign s.Close ∷ []; due = mid.due }
    → closed new.tokens new.due ≡ closed ts ds
close_goes old mid new ts ds n kept due same le is =
    ap (λ (p : TypesSpelled). closed p.tokens p.due) is ∙ sym (closed_last mid.tokens n mid.due le) ∙ (λ i. closed (same i) (sym due i)) ∙ kept

pub close_keeps : (old mid : TypesSpelled) (ts : List Token) (ds : List ℕ) (n : ℕ) → closed old.tokens old.due ≡ closed ts ds → old.due ≡ n ∷ mid.due → mid.tokens ≡ old.tokens → 1 < n → (record { tokens = mid.tokens; due = (n - 1) ∷ mid.due }) ≡ closed ts ds
close_keeps old mid ts ds n kept due same lt = sym (closed_more mid.tokens n mid.due lt) ∙ (λ i. closed (same i) (sym due i)) ∙ kept

pub close_ends : (old new : TypesSpelled) (ts : List Token) (ds : List ℕ) → closed old.tokens old.due ≡ closed ts ds → old.due ≡ [] → new ≡ old → new ≡ closed ts ds
close_ends old new ts ds kept none is =
    let same : closed old.tokens old.due ≡ old = (λ i. closed old.tokens (none i)) ∙ (λ i. record { tokens = old.tokens; due = sym none i }) in
    is ∙ sym same ∙ kept

pub declared_opens : (old one two : TypesSpelled) (k : Name) (n : ℕ) → (n ≡ 0 → ⊥) → one ≡ record { tokens = old.tokens ++ t.Sign s.Open ∷ []; due = old.due } → two ≡ record { tokens = one.tokens ++ t.Constructor k ∷ []; due = one.due }
    → (record { tokens = two.tokens; due = n ∷ two.due }) ≡ declared old k n
declared_opens old one two k zero ne first second = absurd (ne refl)
declared_opens old one two k (suc n) ne first second =
    (λ i. record { tokens = (second i).tokens; due = suc n ∷ (second i).due }) ∙ (λ i. record { tokens = (first i).tokens ++ t.Constructor k ∷ []; due = suc n ∷ (first i).due })

-- ---- runs

onto_spelled : (xs : WrittenTypes) (rest : List Token) → spell_types (onto xs []) rest ≡ spell_written xs rest
unfolding onto
onto_spelled NoType rest = refl
onto_spelled (MoreTypes x xs) rest = ap (spell_type x) (onto_spelled xs rest)

pub run_types : (ws : List Word) (xs : WrittenTypes) (rest : List Token) → ws ≡ words_in xs → spell_written xs rest ≡ spell_types (stack_of ws) rest
run_types ws xs rest e = sym (onto_spelled xs rest) ∙ ap (λ l. spell_types l rest) (sym (ap stack_of e ∙ stack_listed xs))

pub run_type : (ws : List Word) (x : WrittenType) (rest : List Token) → ws ≡ words_of x → spell_written (MoreTypes x NoType) rest ≡ spell_type (first_type (stack_of ws)) rest
run_type ws x rest e = ap (λ (y : WrittenType). spell_type y rest) (sym (ap (λ l. first_type (stack_of l)) e ∙ read_one x))

pub one_run : (ws : List Word) (x : WrittenType) → ws ≡ words_of x → ws ≡ words_in (MoreTypes x NoType)
one_run ws x e = e ∙ sym (append-nil (words_of x))

pub no_arguments : (ws : List Word) (rest : List Token) → ws ≡ [] → rest ≡ spell_type_arguments (all_types (stack_of ws)) rest
no_arguments ws rest e = ap (λ l. spell_type_arguments (all_types (stack_of l)) rest) (sym e)

pub none_printed : (ws : List Word) (rest : List Token) → length ws ≡ 0 → rest ≡ spell_type_arguments (all_types (stack_of ws)) rest
none_printed [] rest e = no_arguments [] rest refl
none_printed (x ∷ ws) rest e = absurd (omega (arith, e))

in_brackets : (xs : WrittenTypes) (rest : List Token) → (xs ≡ NoType → ⊥) → t.Sign s.OpenBracket ∷ spell_written xs (t.Sign s.CloseBracket ∷ rest) ≡ spell_type_arguments xs rest
in_brackets NoType rest ne = absurd (ne refl)
in_brackets (MoreTypes x xs) rest ne = refl

pub some_arguments : (ws : List Word) (xs : WrittenTypes) (rest : List Token) → ws ≡ words_in xs → (ws ≡ [] → ⊥) → t.Sign s.OpenBracket ∷ spell_written xs (t.Sign s.CloseBracket ∷ rest) ≡ spell_type_arguments (all_types (stack_of ws)) rest
some_arguments ws xs rest e ne =
    in_brackets xs rest (λ z. ne (e ∙ ap words_in z)) ∙ ap (λ (l : WrittenTypes). spell_type_arguments l rest) (sym (ap (λ l. all_types (stack_of l)) e ∙ read_all xs))
