-- Types that are spelled so are read.
use Rattle.std.proofs.Common.{◌≡◌, Bool, true, false, ◌||◌, List, [], ◌∷◌, ◌++◌, length, Ok, refl, sym, ap, ◌∙◌, true≢false, append_assoc}
use Rattle.std.proofs.lemmas.List.{append-nil}
use Rattle.std.proofs.lemmas.Bool.{or_parts}
use Rattle.gib_base.specs.declared.Span.{Span}
use Rattle.gib_base.specs.declared.token.Sign.{Sign}
use Rattle.gib_base.specs.declared.token.Sign.TheVariants as s
use Rattle.gib_base.specs.declared.token.Token.{Token}
use Rattle.gib_base.specs.declared.token.Token.TheVariants as t
use Rattle.gib_syntax.specs.declared.tree.Ident.{Ident}
use Rattle.gib_syntax.specs.Forms.{WrittenType, WrittenTypes, WholeAt, TruthAt, VariableAt, DataAt, NoType, MoreTypes}
use Rattle.gib_syntax.specs.Words.{all_types}
use Rattle.gib_syntax.specs.Spelling.{Places, spell_type, spell_written, spell_type_arguments}
use Rattle.gib_parse.specs.Reading.{Read, then_at, same, next_is, many_step, many, is_sign, starts_type, starts_atom, want, Opened, inside, type_at, bracket_at, type_arguments_at}
use Rattle.gib_reads.proofs.Signs.{same_is}
use Rattle.gib_reads.proofs.Tools.{done}
use Rattle.gib_reads.proofs.Many.{many_none, many_is}
use Rattle.gib_parse.proofs.WholeLaws.{type_shrinks}
use Rattle.gib_parse.proofs.Settle.{settle_name, settle_type, settle_written}

abbrev pub listed : WrittenTypes → List WrittenType
listed NoType = []
listed (MoreTypes w ws) = w ∷ listed ws

pub listed_all : (ws : WrittenTypes) → all_types (listed ws) ≡ ws
listed_all NoType = refl
listed_all (MoreTypes w ws) = ap (MoreTypes w) (listed_all ws)

-- ---- within parentheses

mutual
  argument_comes : (at : Places) (w : WrittenType) (p : Span) (k : Ident) (xs : List WrittenType) (os : List Opened) (rest : List Token) → inside at p k xs os (spell_type w rest) ≡ inside at p k (xs ++ settle_type at w rest ∷ []) os rest
  argument_comes at (WholeAt q) p k xs os rest = refl
  argument_comes at (TruthAt q) p k xs os rest = refl
  argument_comes at (VariableAt x) p k xs os rest = refl
  argument_comes at (DataAt q x NoType) p k xs os rest = refl
  argument_comes at (DataAt q x (MoreTypes w ws)) p k xs os rest =
      let here = spell_written ws (t.Sign s.Close ∷ rest) in
      let whole = at (length (spell_type (DataAt q x (MoreTypes w ws)) rest)) in
      let name = settle_name at x (spell_type w here) in
      let o : Opened = record { place = p; name = k; arguments = xs } in
      let first = settle_type at w here in
      let more = settle_written at ws (t.Sign s.Close ∷ rest) in
      argument_comes at w whole name [] (o ∷ os) here
      ∙ arguments_come at ws whole name (first ∷ []) (o ∷ os) rest
      ∙ ap (λ (as' : WrittenTypes). inside at p k (xs ++ DataAt whole name (MoreTypes first as') ∷ []) os rest) (listed_all more)

  arguments_come : (at : Places) (ws : WrittenTypes) (p : Span) (k : Ident) (xs : List WrittenType) (os : List Opened) (rest : List Token)
      → inside at p k xs os (spell_written ws (t.Sign s.Close ∷ rest)) ≡ inside at p k (xs ++ listed (settle_written at ws (t.Sign s.Close ∷ rest))) os (t.Sign s.Close ∷ rest)
  arguments_come at NoType p k xs os rest = ap (λ (l : List WrittenType). inside at p k l os (t.Sign s.Close ∷ rest)) (sym (append-nil xs))
  arguments_come at (MoreTypes w ws) p k xs os rest =
      let here = spell_written ws (t.Sign s.Close ∷ rest) in
      let first = settle_type at w here in
      argument_comes at w p k xs os here
      ∙ arguments_come at ws p k (xs ++ first ∷ []) os rest
      ∙ ap (λ (l : List WrittenType). inside at p k l os (t.Sign s.Close ∷ rest)) (append_assoc xs (first ∷ []) (listed (settle_written at ws (t.Sign s.Close ∷ rest))))

-- ---- types

pub type_comes : (at : Places) (w : WrittenType) (rest : List Token) → type_at at (spell_type w rest) ≡ done (settle_type at w rest) rest
type_comes at (WholeAt q) rest = refl
type_comes at (TruthAt q) rest = refl
type_comes at (VariableAt x) rest = refl
type_comes at (DataAt q x NoType) rest = refl
type_comes at (DataAt q x (MoreTypes w ws)) rest =
    let here = spell_written ws (t.Sign s.Close ∷ rest) in
    let whole = at (length (spell_type (DataAt q x (MoreTypes w ws)) rest)) in
    let name = settle_name at x (spell_type w here) in
    let first = settle_type at w here in
    let more = settle_written at ws (t.Sign s.Close ∷ rest) in
    argument_comes at w whole name [] [] here
    ∙ arguments_come at ws whole name (first ∷ []) [] rest
    ∙ ap (λ (as' : WrittenTypes). done (DataAt whole name (MoreTypes first as')) rest) (listed_all more)

pub type_begins : (w : WrittenType) (rest : List Token) → next_is starts_type (spell_type w rest) ≡ true
type_begins (WholeAt q) rest = refl
type_begins (TruthAt q) rest = refl
type_begins (VariableAt x) rest = refl
type_begins (DataAt q x NoType) rest = refl
type_begins (DataAt q x (MoreTypes w ws)) rest = refl

-- ---- type arguments

written_come : (at : Places) (ws : WrittenTypes) (rest : List Token) → next_is starts_type rest ≡ false → many starts_type (type_at at) (spell_written ws rest) ≡ done (listed (settle_written at ws rest)) rest
written_come at NoType rest e = many_none starts_type (type_at at) rest e
written_come at (MoreTypes w ws) rest e =
    let here = spell_written ws rest in
    many_is starts_type (type_at at) (type_shrinks at) (spell_type w here)
    ∙ ap (λ (v : Bool). many_step v (type_at at) (many starts_type (type_at at)) (spell_type w here)) (type_begins w here)
    ∙ ap (λ (r : Read WrittenType). then_at r (λ a ts. then_at (many starts_type (type_at at) ts) (λ more ts. Ok (a ∷ more, ts)))) (type_comes at w here)
    ∙ ap (λ (r : Read (List WrittenType)). then_at r (λ more ts. Ok (settle_type at w here ∷ more, ts))) (written_come at ws rest e)

pub type_arguments_none : (at : Places) (rest : List Token) → next_is (is_sign s.OpenBracket) rest ≡ false → type_arguments_at at rest ≡ done NoType rest
type_arguments_none at (t.Sign s.OpenBracket ∷ rest) e = absurd cc
type_arguments_none at rest e = refl

bracket_comes : (at : Places) (w : WrittenType) (ws : WrittenTypes) (rest : List Token) → bracket_at at (spell_type w (spell_written ws (t.Sign s.CloseBracket ∷ rest))) ≡ done (settle_written at (MoreTypes w ws) (t.Sign s.CloseBracket ∷ rest)) rest
unfolding bracket_at
bracket_comes at w ws rest =
    let here = spell_written ws (t.Sign s.CloseBracket ∷ rest) in
    let first = settle_type at w here in
    ap (λ (r : Read WrittenType). then_at r (λ x ts. then_at (many starts_type (type_at at) ts) (λ xs ts. then_at (want s.CloseBracket ts) (λ _ ts. Ok (all_types (x ∷ xs), ts))))) (type_comes at w here)
    ∙ ap (λ (r : Read (List WrittenType)). then_at r (λ xs ts. then_at (want s.CloseBracket ts) (λ _ ts. Ok (all_types (first ∷ xs), ts)))) (written_come at ws (t.Sign s.CloseBracket ∷ rest) refl)
    ∙ ap (λ (as' : WrittenTypes). done (MoreTypes first as') rest) (listed_all (settle_written at ws (t.Sign s.CloseBracket ∷ rest)))

pub type_arguments_come : (at : Places) (ws : WrittenTypes) (rest : List Token) → next_is (is_sign s.OpenBracket) rest ≡ false → type_arguments_at at (spell_type_arguments ws rest) ≡ done (settle_written at ws (t.Sign s.CloseBracket ∷ rest)) rest
type_arguments_come at NoType rest e = type_arguments_none at rest e
type_arguments_come at (MoreTypes w ws) rest e = bracket_comes at w ws rest

-- ---- what may follow

-- Whether an expression would go on with the token: type arguments begin, or an argument does.
abbrev pub goes_on : Token → Bool
goes_on c = is_sign s.OpenBracket c || starts_atom c

pub ends_parts : (rest : List Token) → next_is goes_on rest ≡ false → (next_is (is_sign s.OpenBracket) rest ≡ false) × (next_is starts_atom rest ≡ false)
ends_parts [] e = (refl, refl)
ends_parts (c ∷ rest) e = or_parts (is_sign s.OpenBracket c) (starts_atom c) e

no_bracket_sign : (b : Sign) (v : Bool) → same s.OpenBracket b ≡ v → starts_atom (t.Sign b) ≡ true → same s.OpenBracket b ≡ false
no_bracket_sign b false f e = f
no_bracket_sign b true f e =
    let is : s.OpenBracket ≡ b = same_is s.OpenBracket b f in
    absurd (true≢false (sym e ∙ ap (λ (c : Sign). starts_atom (t.Sign c)) (sym is)))

-- No bracket begins an argument.
no_bracket : (c : Token) → starts_atom c ≡ true → is_sign s.OpenBracket c ≡ false
no_bracket (t.Variable x) e = refl
no_bracket (t.Constructor x) e = refl
no_bracket (t.Number x) e = refl
no_bracket (t.Sign b) e = no_bracket_sign b (same s.OpenBracket b) refl e

pub atom_no_bracket : (ts : List Token) → next_is starts_atom ts ≡ true → next_is (is_sign s.OpenBracket) ts ≡ false
atom_no_bracket [] e = refl
atom_no_bracket (c ∷ ts) e = no_bracket c e
