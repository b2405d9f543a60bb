-- What reading the whole tells.
use Rattle.std.proofs.Common.{◌≡◌, ℕ, zero, suc, ◌+◌, ◌<◌, ◌≤◌, ◌-◌, max, List, [], ◌∷◌, ◌++◌, length, take, refl, sym, ap, ◌∙◌, subst, arith, length-append, append_assoc, ◌⊎◌, inl, inr}
use Rattle.std.proofs.lemmas.List.{take_at}
use Rattle.std.proofs.lemmas.Bool.{cases_lt}
use Rattle.gib_base.specs.Lexed.{Lexed}
use Rattle.gib_base.specs.declared.token.Dialect.TheVariants as dialect
use Rattle.gib_base.specs.declared.token.Token.{Token}
use Rattle.gib_base.specs.declared.token.Token.TheVariants as t
use Rattle.gib_syntax.specs.GenericTree.{GenericProgramTree}
use Rattle.gib_syntax.specs.Source.{Spells}
use Rattle.gib_syntax.specs.Spelling.{Places, places_of, IsPlacedProgram, levels_program, Derives, Blames}
use Rattle.gib_lex.proofs.Cuts.{one_reading}
use Rattle.gib_parse.specs.Reading.{At, Nested, Read, whole_in}
use Rattle.gib_parse.specs.Nesting.{below_program}
use Rattle.gib_parse.specs.Blaming.{Deepens, IsFirst}
use Rattle.gib_reads.proofs.Tools.{done, failed}
use Rattle.gib_parse.proofs.Nested.{flat_program}
use Rattle.gib_parse.proofs.Come.{Comes, Came, Sank, comes_at}
use Rattle.gib_reads.proofs.Local.{Kind, Refused, Deep, fault, nested_is}
use Rattle.gib_reads.proofs.Cuts.{moved, moved_is, Splits, split_at, front_of}
use Rattle.gib_parse.proofs.WholeLaws.{IsWhole, whole_sound, whole_local}
use Rattle.gib_parse.proofs.ProgramSettle.{settle_program, program_stays}
use Rattle.gib_parse.proofs.ProgramComplete.{whole_comes}

-- ---- what is read

pub whole_reads : (l : ℕ) (at : Places) (ts : List Token) (g : GenericProgramTree) (rest : List Token) → whole_in l at ts ≡ done g rest → IsWhole l at ts g rest
whole_reads l at ts g rest e = (whole_sound l at ts).by g rest e

-- ---- what is a program

pub derived_comes : (l : ℕ) (at : Places) (ts : List Token) (g : GenericProgramTree) → Derives ts g → Comes (below_program l g) (whole_in l at ts) (settle_program at g) []
derived_comes l at ts g d = comes_at (ap (whole_in l at) d.spelled) (whole_comes at l g d.fine)

came : {A : Type 0} {met : List ℕ} {r : Read A} {a : A} {rest : List Token} → Comes met r a rest → length met ≡ 0 → r ≡ done a rest
came (Came e m) none = e
came (Sank k others e m) none = absurd (omega (arith, ap length m))

pub derived_is_read : (l : ℕ) (at : Places) (ts : List Token) (g : GenericProgramTree) → Derives ts g → levels_program g ≤ l → whole_in l at ts ≡ done (settle_program at g) []
derived_is_read l at ts g d le = came (derived_comes l at ts g d) (flat_program l g le)

pub placed_is_read : (l : ℕ) (at : Places) (ts : List Token) (g : GenericProgramTree) → Derives ts g → IsPlacedProgram at g → levels_program g ≤ l → whole_in l at ts ≡ done g []
placed_is_read l at ts g d p le =
    let nothing : List Token = [] in
    derived_is_read l at ts g d le ∙ ap (λ (q : GenericProgramTree). done q nothing) (program_stays at g p)

done_is : {A : Type 0} (a b : A) (l m : List Token) → done a l ≡ done b m → a ≡ b
done_is {A = A} a b l m e = ap (λ (x : A × List Token). x.0) (both (a, l) (b, m) e) where
  both : (x y : A × List Token) → done x.0 x.1 ≡ done y.0 y.1 → x ≡ y
  both x y e = cc

pub one_program_lem : (at : Places) (tokens : List Token) (p q : GenericProgramTree) → Derives tokens p → Derives tokens q → IsPlacedProgram at p → IsPlacedProgram at q → p ≡ q
one_program_lem at tokens p q dp dq pp pq =
    let l = max (levels_program p) (levels_program q) in
    let nothing : List Token = [] in
    done_is p q nothing nothing (sym (placed_is_read l at tokens p dp pp (omega arith)) ∙ placed_is_read l at tokens q dq pq (omega arith))

-- A text is lexed in one way, and its tokens spell one program.
pub one_text_lem : (text : List ℕ) (l m : Lexed) (p q : GenericProgramTree) → Spells text l p → Spells text m q → (l ≡ m) × (p ≡ q)
one_text_lem text l m p q sp sq =
    let e : l ≡ m = one_reading dialect.Source text l m sp.is_lexed sq.is_lexed in
    let d : Derives l.tokens q = subst (λ (x : Lexed). Derives x.tokens q) (sym e) sq.derived in
    let placed : IsPlacedProgram (places_of l.spans) q = subst (λ (x : Lexed). IsPlacedProgram (places_of x.spans) q) (sym e) sq.placed in
    (e, one_program_lem (places_of l.spans) l.tokens p q sp.derived d sp.placed placed)

-- ---- what is refused

-- What a fault tells of what a program has past the last level.
abbrev Means : Kind → ℕ → List ℕ → Type 0
Means Refused k met = ⊥
Means Deep k met = IsFirst k met

came_fails : {A : Type 0} (c : Kind) (k : ℕ) (a : A) (rest : List Token) → done a rest ≡ failed (fault c k) → ⊥
came_fails Refused k a rest e = cc
came_fails Deep k a rest e = cc

nested_refused : {A : Type 0} (j k : ℕ) → failed {A = A} (Nested j) ≡ failed (At k) → ⊥
nested_refused j k e = cc

means : {A : Type 0} {met : List ℕ} {r : Read A} {a : A} {rest : List Token} (c : Kind) (k : ℕ) → Comes met r a rest → r ≡ failed (fault c k) → Means c k met
means {a = a} {rest = rest} c k (Came e m) f = absurd (came_fails c k a rest (sym e ∙ f))
means {A = A} Refused k (Sank j others e m) f = absurd (nested_refused {A = A} (suc j) k (sym e ∙ f))
means {A = A} Deep k (Sank j others e m) f = subst (λ (l : List ℕ). IsFirst k l) (sym m) (nested_is {A = A} (suc j) k (sym e ∙ f))

fault_here : (l : ℕ) (at : Places) (c : Kind) (front : List Token) (tok : Token) (xs more : List Token) → whole_in l at (front ++ tok ∷ xs) ≡ failed (fault c (suc (length xs))) → (g : GenericProgramTree) → Derives (front ++ tok ∷ more) g → Means c (suc (length more)) (below_program l g)
fault_here l at c front tok xs more e g d =
    let at' = moved at xs more in
    let there = (whole_local tok xs more at at' (moved_is at xs more) l (front ++ tok ∷ xs)).bad_same (front ++ tok ∷ more) (record { front = front; here = refl; there = refl }) c e in
    means c (suc (length more)) (derived_comes l at' (front ++ tok ∷ more) g d) there

fault_split : (l : ℕ) (at : Places) (c : Kind) (k : ℕ) (ts : List Token) → whole_in l at ts ≡ failed (fault c (suc k)) → Splits ts k → (g : GenericProgramTree) (more : List Token) → Derives (take (length ts - k) ts ++ more) g → Means c (suc (length more)) (below_program l g)
fault_split l at c k ts e r g more d =
    let front = r.0 in let tok = r.1 in let xs = r.2 in
    let here : whole_in l at (front ++ tok ∷ xs) ≡ failed (fault c (suc (length xs))) = ap (whole_in l at) (sym r.3) ∙ e ∙ ap (λ (n : ℕ). failed (fault c (suc n))) (sym r.4) in
    let P : List Token → ℕ → Type 0 = λ v n. Derives (take (length v - n) v ++ more) g in
    let d1 : P (front ++ tok ∷ xs) k = subst (λ (v : List Token). P v k) r.3 d in
    let d2 : P (front ++ tok ∷ xs) (length xs) = subst (λ (n : ℕ). P (front ++ tok ∷ xs) n) (sym r.4) d1 in
    fault_here l at c front tok xs more here g (subst (λ (v : List Token). Derives v g) (front_of front tok xs more) d2)

same_places : (at : Places) (k : ℕ) → let none : List Token = [] in at (k + length none) ≡ at (k + length none)
same_places at k = refl

-- A fault stands at a token, or behind the last one.
pub whole_within : (l : ℕ) (at : Places) (c : Kind) (ts : List Token) (k : ℕ) → whole_in l at ts ≡ failed (fault c k) → k ≤ length ts
whole_within l at c ts k e = (whole_local (t.Number 0) [] [] at at (same_places at) l ts).bad_within c k e

pub whole_blames : (l : ℕ) (at : Places) (ts : List Token) (k : ℕ) → whole_in l at ts ≡ failed (At k) → Blames ts k
whole_blames l at ts zero e = λ g d. means Refused 0 (derived_comes l at ts g d) e
whole_blames l at ts (suc k) e = λ g more d. fault_split l at Refused k ts e (split_at ts k (let le = whole_within l at Refused ts (suc k) e in omega arith)) g more d

first_some : (k : ℕ) (met : List ℕ) → IsFirst k met → 0 < length met
first_some k [] f = absurd f
first_some k (first ∷ more) f = omega arith

-- Where some expression stands below n levels, there are more of them.
pub deep_program : (n k : ℕ) (p : GenericProgramTree) → IsFirst k (below_program n p) → n < levels_program p
deep_program n k p f = go (cases_lt n (levels_program p)) where
  go : (n < levels_program p) ⊎ (levels_program p ≤ n) → n < levels_program p
  go (inl lt) = lt
  go (inr le) = let some = first_some k (below_program n p) f in let none = flat_program n p le in absurd (omega arith)

-- In each program that begins so, the token begins the first expression past the last level.
pub whole_deep : (l : ℕ) (at : Places) (ts : List Token) (k : ℕ) → whole_in l at ts ≡ failed (Nested (suc k)) → (g : GenericProgramTree) (more : List Token) → Derives (take (length ts - k) ts ++ more) g → IsFirst (suc (length more)) (below_program l g)
whole_deep l at ts k e g more d = fault_split l at Deep k ts e (split_at ts k (let le = whole_within l at Deep ts (suc k) e in omega arith)) g more d

pub whole_deepens : (at : Places) (ts : List Token) (k : ℕ) → whole_in 200 at ts ≡ failed (Nested k) → Deepens ts k
whole_deepens at ts zero e = λ g d. deep_program 200 0 g (means Deep 0 (derived_comes 200 at ts g d) e)
whole_deepens at ts (suc k) e = λ g more d. deep_program 200 (suc (length more)) g (whole_deep 200 at ts k e g more d)
