-- What the check of a body keeps.
use Rattle.std.proofs.Common.{◌≡◌, ℕ, zero, suc, ◌+◌, ◌-◌, ◌<◌, ◌≤◌, Bool, true, false, cond, eqb, ltb, List, [], ◌∷◌, ◌++◌, drop, length, Option, Some, None, Ok, Err, refl, sym, ap, ◌∙◌, subst}
use Rattle.std.proofs.lemmas.List.{length-map}
use Rattle.std.specs.Prelude.{is_some, is_none, Result, OnOk, OnErr}
use Rattle.std.proofs.lemmas.Bool.{lt-ltb, le-ltb}
use Rattle.gib_types.specs.declared.types.TypeId.{TypeId}
use Rattle.gib_types.specs.declared.types.TypeNode.{TypeNode}
use Rattle.gib_types.specs.Form.{Form}
use Rattle.gib_types.specs.Types.{form_at, forms_of, AreBelow}
use Rattle.gib_syntax.specs.declared.tree.Ident.{Ident}
use Rattle.gib_syntax.specs.Declarations.{number_of}
use Rattle.gib_syntax.specs.GenericTyping.{FormScope, form_in, form_bound}
use Rattle.gib_check.specs.declared.counts.Counts.{Counts}
use Rattle.gib_check.specs.declared.fault.Kind.TheVariants as kind
use Rattle.gib_check.specs.Faults.{and_then, allowed, found, unbound, variable, counted, new_variable, part_variable}
use Rattle.gib_check.specs.Judging.{IdScope, id_in, IsScopeBelow, form_of_bound, scope_forms, Judging, forms, in_scope, listed, forms_given, Grows, Keeps, Met}
use Rattle.gib_check.specs.declared.rules.ResultIds.TheVariants as ids
use Rattle.gib_syntax.specs.Results.{Several}
use Rattle.gib_check.proofs.Growing.{scope_grows, given_put, parts_put}

-- The state that is made of these.
abbrev pub judging : List TypeNode → List TypeId → IdScope → Counts → Judging
judging types parts scope counts = record { types = types; parts = parts; scope = scope; counts = counts }

pub put_keeps : (old : Judging) (types new : List TypeNode) (parts : List TypeId) (scope : IdScope) (counts : Counts) → judging types parts scope counts ≡ old → Grows types new → IsScopeBelow (length types) scope → Keeps old (judging new parts scope counts)
put_keeps old types new parts scope counts e g h = subst (λ z. Keeps z (judging new parts scope counts)) e (record { grows = g; parts = refl; scope = scope_grows types new scope g h; counts = refl })

-- A type of a variable, by its number.
abbrev id_form : List Form → Option TypeId → Option Form
id_form fs None = None
id_form fs (Some i) = Some (form_at fs i.0)

id_cond : (fs : List Form) (b : Bool) (i : TypeId) (o : Option TypeId) → id_form fs (cond b (Some i) o) ≡ cond b (Some (form_at fs i.0)) (id_form fs o)
id_cond fs true i o = refl
id_cond fs false i o = refl

pub form_of_id : (fs : List Form) (scope : IdScope) (x : ℕ) → form_in (scope_forms fs scope) x ≡ id_form fs (id_in scope x)
form_of_id fs [] x = refl
form_of_id fs (b ∷ scope) x = ap (cond (eqb b.0 x) (Some (form_at fs b.1.0))) (form_of_id fs scope x) ∙ sym (id_cond fs (eqb b.0 x) b.1 (id_in scope x))

pub variable_found : (fs : List Form) (scope : IdScope) (x : Ident) (o : Option TypeId) (i : TypeId) → o ≡ id_in scope (number_of x) → o ≡ Some i → variable (scope_forms fs scope) x ≡ Ok (form_at fs i.0)
variable_found fs scope x o i e q = ap (λ z. found z kind.Unknown x.span) (form_of_id fs scope (number_of x) ∙ ap (id_form fs) (sym e ∙ q))

pub variable_missing : (fs : List Form) (scope : IdScope) (x : Ident) (o : Option TypeId) → o ≡ id_in scope (number_of x) → o ≡ None → variable (scope_forms fs scope) x ≡ Err (record { kind = kind.Unknown; span = x.span })
variable_missing fs scope x o e q = ap (λ z. found z kind.Unknown x.span) (form_of_id fs scope (number_of x) ∙ ap (id_form fs) (sym e ∙ q))

pub id_below : (n : ℕ) (scope : IdScope) (x : ℕ) (i : TypeId) → IsScopeBelow n scope → id_in scope x ≡ Some i → i.0 < n
id_below n [] x i h e = absurd cc
id_below n (b ∷ scope) x i h e = go (eqb b.0 x) e (λ q. id_below n scope x i h.1 q) where
  go : (c : Bool) → cond c (Some b.1) (id_in scope x) ≡ Some i → (id_in scope x ≡ Some i → i.0 < n) → i.0 < n
  go true q f = let same : b.1 ≡ i = cc in subst (λ (z : TypeId). z.0 < n) same h.0
  go false q f = f q

pub forms_drop : (fs : List Form) (n : ℕ) (scope : IdScope) → scope_forms fs (drop n scope) ≡ drop n (scope_forms fs scope)
forms_drop fs zero scope = refl
forms_drop fs (suc n) [] = refl
forms_drop fs (suc n) (b ∷ scope) = forms_drop fs n scope

pub scope_long : (fs : List Form) (scope : IdScope) → length (scope_forms fs scope) ≡ length scope
scope_long fs scope = length-map scope (form_of_bound fs)

-- As the code finds a variable.
pub type_found : (s : Judging) (types : List TypeNode) (parts : List TypeId) (scope : IdScope) (counts : Counts) (x : Ident) (o : Option TypeId) (i : TypeId) → judging types parts scope counts ≡ s → o ≡ id_in scope (number_of x) → o ≡ Some i → variable (in_scope s) x ≡ Ok (form_at (forms s) i.0)
type_found s types parts scope counts x o i e q r = subst (λ z. variable (in_scope z) x ≡ Ok (form_at (forms z) i.0)) e (variable_found (forms_of types) scope x o i q r)

pub type_below : (s : Judging) (types : List TypeNode) (parts : List TypeId) (scope : IdScope) (counts : Counts) (x : ℕ) (o : Option TypeId) (i : TypeId) → judging types parts scope counts ≡ s → IsScopeBelow (length types) scope → o ≡ id_in scope x → o ≡ Some i → i.0 < length s.types
type_below s types parts scope counts x o i e h q r = subst (λ (z : Judging). i.0 < length z.types) e (id_below (length types) scope x i h (sym q ∙ r))

pub type_missing : (s : Judging) (types : List TypeNode) (parts : List TypeId) (scope : IdScope) (counts : Counts) (x : Ident) (o : Option TypeId) → judging types parts scope counts ≡ s → o ≡ id_in scope (number_of x) → o ≡ None → variable (in_scope s) x ≡ Err (record { kind = kind.Unknown; span = x.span })
type_missing s types parts scope counts x o e q r = subst (λ z. variable (in_scope z) x ≡ Err (record { kind = kind.Unknown; span = x.span })) e (variable_missing (forms_of types) scope x o q r)

-- Whether a name is in scope.
pub name_twice : (s : Judging) (types : List TypeNode) (parts : List TypeId) (scope : IdScope) (counts : Counts) (x : Ident) (o : Option TypeId) (i : TypeId) → judging types parts scope counts ≡ s → o ≡ id_in scope (number_of x) → o ≡ Some i → unbound (in_scope s) x ≡ Err (record { kind = kind.Twice; span = x.span })
name_twice s types parts scope counts x o i e q r =
    subst (λ z. unbound (in_scope z) x ≡ Err (record { kind = kind.Twice; span = x.span })) e
    (ap (λ z. allowed (is_none z) kind.Twice x.span (tt {0})) (form_of_id (forms_of types) scope (number_of x) ∙ ap (id_form (forms_of types)) (sym q ∙ r)))

pub name_new : (s : Judging) (types : List TypeNode) (parts : List TypeId) (scope : IdScope) (counts : Counts) (x : Ident) (o : Option TypeId) → judging types parts scope counts ≡ s → o ≡ id_in scope (number_of x) → o ≡ None → unbound (in_scope s) x ≡ Ok (tt {0})
name_new s types parts scope counts x o e q r =
    subst (λ z. unbound (in_scope z) x ≡ Ok (tt {0})) e
    (ap (λ z. allowed (is_none z) kind.Twice x.span (tt {0})) (form_of_id (forms_of types) scope (number_of x) ∙ ap (id_form (forms_of types)) (sym q ∙ r)))

-- One of the variables of a binding of parts.
pub part_new : (i : ℕ) (scope : FormScope) (n : Counts) (x : Ident) → i < 8 → part_variable i scope n x ≡ new_variable scope n x
part_new i scope n x l = ap (λ b. and_then (unbound scope x) (λ _. and_then (allowed b kind.Limit x.span (tt {0})) (λ _. counted n x))) (lt-ltb i 8 l)

-- Types of parts were put.
pub put_given : (old : Judging) (types : List TypeNode) (parts new is : List TypeId) (scope : IdScope) (counts : Counts) (start count : ℕ) → judging types parts scope counts ≡ old → start ≡ length parts → count ≡ length is → new ≡ parts ++ is → forms_given (judging types new scope counts) (ids.Several start count) ≡ Several (listed (forms old) is)
put_given old types parts new is scope counts start count e s c p =
    subst (λ z. forms_given (judging types new scope counts) (ids.Several start count) ≡ Several (listed (forms z) is)) e
    (given_put (judging types parts scope counts) (judging types new scope counts) is start count s c p refl)

pub put_met : (old : Judging) (types : List TypeNode) (parts new is : List TypeId) (scope : IdScope) (counts : Counts) (start count : ℕ) → judging types parts scope counts ≡ old → start ≡ length parts → count ≡ length is → new ≡ parts ++ is → AreBelow (length old.types) is → Met old (judging types new scope counts) (ids.Several start count)
put_met old types parts new is scope counts start count e s c p h =
    subst (λ (z : Judging). AreBelow (length z.types) is → Met z (judging types new scope counts) (ids.Several start count)) e
    (λ k. parts_put (judging types parts scope counts) (judging types new scope counts) is start count s c p refl k) h

-- Of a call as the last expression.
pub either_way : {A E : Type 0} {P Q C : Type 0} (r : Result A E) → OnOk r P → OnErr r Q → (P → C) → (Q → C) → C
either_way (Ok x) h k f g = f h
either_way (Err e) h k f g = g k

pub state_long : (s : Judging) (types : List TypeNode) (parts : List TypeId) (scope : IdScope) (counts : Counts) (n : ℕ) → judging types parts scope counts ≡ s → n ≡ length scope → n ≡ length (in_scope s)
state_long s types parts scope counts n e h = subst (λ z. n ≡ length (in_scope z)) e (h ∙ sym (scope_long (forms_of types) scope))

pub entered : (s : Judging) (types : List TypeNode) (parts : List TypeId) (scope new : IdScope) (counts : Counts) (x : Ident) (ty : TypeId) → judging types parts scope counts ≡ s → new ≡ (number_of x, ty) ∷ scope → in_scope (judging types parts new counts) ≡ form_bound x (form_at (forms s) ty.0) (in_scope s)
entered s types parts scope new counts x ty e h = subst (λ z. in_scope (judging types parts new counts) ≡ form_bound x (form_at (forms z) ty.0) (in_scope z)) e (ap (scope_forms (forms_of types)) h)

pub entered_below : (n : ℕ) (scope new : IdScope) (x : ℕ) (ty : TypeId) → IsScopeBelow n scope → ty.0 < n → new ≡ (x, ty) ∷ scope → IsScopeBelow n new
entered_below n scope new x ty h l e = subst (IsScopeBelow n) (sym e) (l, h)

pub same_below : (n : ℕ) (scope new : IdScope) → IsScopeBelow n scope → new ≡ scope → IsScopeBelow n new
same_below n scope new h e = subst (IsScopeBelow n) (sym e) h

pub cut_scope : (s : Judging) (types : List TypeNode) (parts : List TypeId) (scope new : IdScope) (counts : Counts) (len : ℕ) → judging types parts scope counts ≡ s → new ≡ drop (length scope - len) scope → in_scope (judging types parts new counts) ≡ drop (length (in_scope s) - len) (in_scope s)
cut_scope s types parts scope new counts len e h =
    subst (λ z. in_scope (judging types parts new counts) ≡ drop (length (in_scope z) - len) (in_scope z)) e
    (ap (scope_forms (forms_of types)) h ∙ forms_drop (forms_of types) (length scope - len) scope ∙ ap (λ k. drop (k - len) (scope_forms (forms_of types) scope)) (sym (scope_long (forms_of types) scope)))

pub size_is : (s : Judging) (types : List TypeNode) (parts : List TypeId) (scope : IdScope) (counts : Counts) → judging types parts scope counts ≡ s → length s.types ≡ length types
size_is s types parts scope counts e = sym (ap (λ (z : Judging). length z.types) e)

-- What is left of a scope is below what the scope was.
pub below_drop : (n k : ℕ) (scope : IdScope) → IsScopeBelow n scope → IsScopeBelow n (drop k scope)
below_drop n zero scope h = h
below_drop n (suc k) [] h = tt
below_drop n (suc k) (b ∷ scope) h = below_drop n k scope h.1
