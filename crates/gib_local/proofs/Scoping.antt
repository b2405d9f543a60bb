-- What the scopes of the builder say in the words of the rules.
use Rattle.std.proofs.Common.{◌≡◌, ℕ, zero, suc, ◌+◌, ◌-◌, ◌<◌, ◌≤◌, Bool, true, false, cond, eqb, ◌||◌, List, [], ◌∷◌, ◌++◌, length, map, take, drop, reverse, get_or, Option, Some, None, refl, sym, ap, ◌∙◌, arith, append_assoc}
use Rattle.std.specs.Prelude.{◌==◌, unwrap_or}
use Rattle.std.specs.List.{list_any}
use Rattle.std.proofs.lemmas.List.{append-nil, reverse-append}
use Rattle.std.proofs.Math.Seq.{take-length}
use Rattle.gib_core.specs.declared.atom.Atom.{Atom}
use Rattle.gib_core.specs.declared.atom.Variable.{Variable}
use Rattle.gib_local_parse.specs.declared.tree.Operand.{Operand}
use Rattle.gib_check.specs.InScope.{newest}
use Rattle.gib_local.specs.Building.{Place, AtNext, behind_last, VariableName, is_in, variable_at, without}

-- variables

number_out : (c : Bool) (m : ℕ) (o : Option ℕ) → cond c m (unwrap_or o 0) ≡ unwrap_or (cond c (Some m) o) 0
number_out true m o = refl
number_out false m o = refl

variable_found : (vs : List VariableName) (x : ℕ) → variable_at vs x ≡ unwrap_or (newest vs x) 0
variable_found [] x = refl
variable_found (b ∷ vs) x = ap (λ n. cond (eqb b.0 x) b.1 n) (variable_found vs x) ∙ number_out (eqb b.0 x) b.1 (newest vs x)

-- The variable that is found, or none.
pub variable_is : (vs : List VariableName) (x : ℕ) (o : Option ℕ) → o ≡ newest vs x → unwrap_or o 0 ≡ variable_at vs x
variable_is vs x o e = ap (λ p. unwrap_or p 0) e ∙ sym (variable_found vs x)

-- regions that are not used yet

in_next : (c r : Bool) → (c || r) ≡ cond c true r
in_next true r = refl
in_next false r = refl

pub search_in : (xs : List ℕ) (x : ℕ) → list_any (λ (y : ℕ). y == x) xs ≡ is_in xs x
search_in [] x = refl
search_in (y ∷ ys) x = ap (λ b. (y == x) || b) (search_in ys x) ∙ in_next (y == x) (is_in ys x)

without_next : (c : Bool) (y : ℕ) (xs ys : List ℕ) → cond c xs (y ∷ xs) ++ ys ≡ cond c (xs ++ ys) (y ∷ (xs ++ ys))
without_next true y xs ys = refl
without_next false y xs ys = refl

without_append : (n : ℕ) (xs ys : List ℕ) → without n (xs ++ ys) ≡ without n xs ++ without n ys
without_append n [] ys = refl
without_append n (x ∷ xs) ys = ap (λ l. cond (x == n) l (x ∷ l)) (without_append n xs ys) ∙ sym (without_next (x == n) x (without n xs) (without n ys))

reverse_one : (c : Bool) (y : ℕ) (xs ys : List ℕ) → reverse xs ≡ ys → reverse (cond c xs (y ∷ xs)) ≡ ys ++ cond c [] (y ∷ [])
reverse_one true y xs ys h = h ∙ sym (append-nil ys)
reverse_one false y xs ys h = reverse-append (y ∷ []) xs ∙ ap (λ l. l ++ y ∷ []) h

pub without_reverse : (n : ℕ) (xs : List ℕ) → reverse (without n xs) ≡ without n (reverse xs)
without_reverse n [] = refl
without_reverse n (y ∷ ys) =
    reverse_one (y == n) y (without n ys) (without n (reverse ys)) (without_reverse n ys)
    ∙ sym (without_append n (reverse ys) (y ∷ []))
    ∙ ap (without n) (sym (reverse-append (y ∷ []) ys))

-- the last variable that stands

pub last_is : (p : Place) (xs : List Variable) (n : ℕ) (d : Variable) → n + 1 ≡ length xs → AtNext (get_or xs n d).0 ≡ behind_last p xs
last_is p [] n d e = absurd (omega (arith, e))
last_is p (x ∷ []) zero d e = refl
last_is p (x ∷ []) (suc n) d e = absurd (omega (arith, e))
last_is p (x ∷ y ∷ xs) zero d e = absurd (omega (arith, e))
last_is p (x ∷ y ∷ xs) (suc n) d e = last_is (AtNext x.0) (y ∷ xs) n d (omega (arith, e))

-- atoms of operands

pub atoms_next : (f : Operand → Atom) (values rest : List Operand) (d : Operand) (xs ys : List Atom) (x : Atom) → 1 ≤ length rest → xs ++ map f rest ≡ map f values → x ≡ f (get_or rest 0 d) → ys ≡ xs ++ x ∷ [] → ys ++ map f (take (length rest - 1) (drop 1 rest)) ≡ map f values
atoms_next f values [] d xs ys x le h e k = absurd (omega (arith, le))
atoms_next f values (v ∷ rest) d xs ys x le h e k =
    let tail : take (length (v ∷ rest) - 1) rest ≡ rest = (let n : length (v ∷ rest) - 1 ≡ length rest = omega arith in ap (λ m. take m rest) n) ∙ take-length rest in
    ap (λ l. ys ++ map f l) tail ∙ ap (λ l. l ++ map f rest) k ∙ append_assoc xs (x ∷ []) (map f rest) ∙ ap (λ a. xs ++ a ∷ map f rest) e ∙ h

pub atoms_end : (f : Operand → Atom) (values rest : List Operand) (xs : List Atom) → length rest < 1 → xs ++ map f rest ≡ map f values → xs ≡ map f values
atoms_end f values [] xs lt h = sym (append-nil xs) ∙ h
atoms_end f values (v ∷ rest) xs lt h = absurd (omega (arith, lt))
