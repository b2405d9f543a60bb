-- What is in scope, as the code keeps it and as the rules see it.
use Rattle.std.proofs.Common.{◌≡◌, ℕ, ◌+◌, ◌-◌, ◌<◌, ◌≤◌, Bool, true, false, ltb, drop, length, Option, Some, None, Ok, Err, refl, sym, ap, ◌∙◌, subst}
use Rattle.std.proofs.lemmas.Bool.{lt-ltb, le-ltb}
use Rattle.std.specs.Prelude.{is_some, is_none, Result, OnOk}
use Rattle.gib_syntax.specs.declared.tree.Ident.{Ident}
use Rattle.gib_syntax.specs.Declarations.{number_of, place_of}
use Rattle.gib_check.specs.declared.counts.Counts.{Counts}
use Rattle.gib_check.specs.declared.fault.Kind.TheVariants as kind
use Rattle.gib_check.specs.Faults.{and_then, allowed, counted}
use Rattle.gib_check.specs.InScope.{ScopeOf, newest}
use Rattle.gib_local.specs.Knowing.{names_in}
use Rattle.gib_local.specs.Naming.{After', new, old, bound}
use Rattle.gib_local.proofs.NamesKept.{found_too, as_many_names, names_dropped}

-- Scopes and counts, as the rules see them.
abbrev pub seen : ScopeOf ℕ → ScopeOf ℕ → Counts → After'
seen vs ps n = record { names = record { variables = names_in vs; places = names_in ps }; counts = n }

there : (vs : ScopeOf ℕ) (x : ℕ) (o : Option ℕ) (b : Bool) → o ≡ newest vs x → is_some o ≡ b → is_some (place_of (names_in vs) x) ≡ b
there vs x o b q r = sym (found_too vs x) ∙ ap is_some (sym q) ∙ r

none_of_some : (o : Option ℕ) → is_some o ≡ true → is_none o ≡ false
none_of_some None e = absurd cc
none_of_some (Some n) e = refl

none_of_none : (o : Option ℕ) → is_some o ≡ false → is_none o ≡ true
none_of_none None e = refl
none_of_none (Some n) e = absurd cc

some_true : (o : Option ℕ) (i : ℕ) → o ≡ Some i → is_some o ≡ true
some_true o i e = ap is_some e

none_false : (o : Option ℕ) → o ≡ None → is_some o ≡ false
none_false o e = ap is_some e

twice : (vs : ScopeOf ℕ) (x : Ident) (o : Option ℕ) → o ≡ newest vs (number_of x) → is_some o ≡ true → new (names_in vs) x ≡ Err (record { kind = kind.Twice; span = x.span })
twice vs x o q r = ap (λ b. allowed b kind.Twice x.span (tt {0})) (none_of_some (place_of (names_in vs) (number_of x)) (there vs (number_of x) o true q r))

fresh : (vs : ScopeOf ℕ) (x : Ident) (o : Option ℕ) → o ≡ newest vs (number_of x) → is_some o ≡ false → new (names_in vs) x ≡ Ok (tt {0})
fresh vs x o q r = ap (λ b. allowed b kind.Twice x.span (tt {0})) (none_of_none (place_of (names_in vs) (number_of x)) (there vs (number_of x) o false q r))

known_name : (vs : ScopeOf ℕ) (x : Ident) (o : Option ℕ) → o ≡ newest vs (number_of x) → is_some o ≡ true → old (names_in vs) x ≡ Ok (tt {0})
known_name vs x o q r = ap (λ b. allowed b kind.Unknown x.span (tt {0})) (there vs (number_of x) o true q r)

unknown_name : (vs : ScopeOf ℕ) (x : Ident) (o : Option ℕ) → o ≡ newest vs (number_of x) → is_some o ≡ false → old (names_in vs) x ≡ Err (record { kind = kind.Unknown; span = x.span })
unknown_name vs x o q r = ap (λ b. allowed b kind.Unknown x.span (tt {0})) (there vs (number_of x) o false q r)

module _ (s : After') (vs ps : ScopeOf ℕ) (n : Counts) (e : seen vs ps n ≡ s) where
  -- A variable that is bound.
  pub bound_twice : (x : Ident) (o : Option ℕ) → o ≡ newest vs (number_of x) → is_some o ≡ true → bound s.names.variables s.counts x ≡ Err (record { kind = kind.Twice; span = x.span })
  bound_twice x o q r = subst (λ (z : After'). bound z.names.variables z.counts x ≡ Err (record { kind = kind.Twice; span = x.span })) e (ap (λ z. and_then z (λ _. counted n x)) (twice vs x o q r))

  pub bound_limit : (x : Ident) (o : Option ℕ) → o ≡ newest vs (number_of x) → is_some o ≡ false → 200 ≤ n.variables → bound s.names.variables s.counts x ≡ Err (record { kind = kind.Limit; span = x.span })
  bound_limit x o q r l =
      subst (λ (z : After'). bound z.names.variables z.counts x ≡ Err (record { kind = kind.Limit; span = x.span })) e
      (ap (λ z. and_then z (λ _. counted n x)) (fresh vs x o q r) ∙ ap (λ b. allowed b kind.Limit x.span (record n { variables = n.variables + 1 })) (le-ltb n.variables 200 l))

  pub bound_counted : (x : Ident) (o : Option ℕ) → o ≡ newest vs (number_of x) → is_some o ≡ false → n.variables < 200 → bound s.names.variables s.counts x ≡ Ok (record n { variables = n.variables + 1 })
  bound_counted x o q r l =
      subst (λ (z : After'). bound z.names.variables z.counts x ≡ Ok (record n { variables = n.variables + 1 })) e
      (ap (λ z. and_then z (λ _. counted n x)) (fresh vs x o q r) ∙ ap (λ b. allowed b kind.Limit x.span (record n { variables = n.variables + 1 })) (lt-ltb n.variables 200 l))

  -- A place's name.
  pub place_twice : (x : Ident) (o : Option ℕ) (i : ℕ) → o ≡ newest ps (number_of x) → o ≡ Some i → new s.names.places x ≡ Err (record { kind = kind.Twice; span = x.span })
  place_twice x o i q r = subst (λ (z : After'). new z.names.places x ≡ Err (record { kind = kind.Twice; span = x.span })) e (twice ps x o q (some_true o i r))

  pub place_fresh : (x : Ident) (o : Option ℕ) → o ≡ newest ps (number_of x) → o ≡ None → new s.names.places x ≡ Ok (tt {0})
  place_fresh x o q r = subst (λ (z : After'). new z.names.places x ≡ Ok (tt {0})) e (fresh ps x o q (none_false o r))

  -- A variable's name.
  pub variable_there : (x : Ident) (o : Option ℕ) (i : ℕ) → o ≡ newest vs (number_of x) → o ≡ Some i → old s.names.variables x ≡ Ok (tt {0})
  variable_there x o i q r = subst (λ (z : After'). old z.names.variables x ≡ Ok (tt {0})) e (known_name vs x o q (some_true o i r))

  pub variable_missing : (x : Ident) (o : Option ℕ) → o ≡ newest vs (number_of x) → o ≡ None → old s.names.variables x ≡ Err (record { kind = kind.Unknown; span = x.span })
  variable_missing x o q r = subst (λ (z : After'). old z.names.variables x ≡ Err (record { kind = kind.Unknown; span = x.span })) e (unknown_name vs x o q (none_false o r))

  -- How many names are in scope.
  pub many_variables : (k : ℕ) → k ≡ length vs → k ≡ length s.names.variables
  many_variables k q = subst (λ (z : After'). k ≡ length z.names.variables) e (q ∙ sym (as_many_names vs))

  pub many_places : (k : ℕ) → k ≡ length ps → k ≡ length s.names.places
  many_places k q = subst (λ (z : After'). k ≡ length z.names.places) e (q ∙ sym (as_many_names ps))

  -- The oldest names are kept.
  pub variables_cut : (k : ℕ) (new : ScopeOf ℕ) → new ≡ drop (length vs - k) vs → names_in new ≡ drop (length s.names.variables - k) s.names.variables
  variables_cut k new q =
      subst (λ (z : After'). names_in new ≡ drop (length z.names.variables - k) z.names.variables) e
      (ap names_in q ∙ names_dropped (length vs - k) vs ∙ ap (λ m. drop (m - k) (names_in vs)) (sym (as_many_names vs)))

  pub places_cut : (k : ℕ) (new : ScopeOf ℕ) → new ≡ drop (length ps - k) ps → names_in new ≡ drop (length s.names.places - k) s.names.places
  places_cut k new q =
      subst (λ (z : After'). names_in new ≡ drop (length z.names.places - k) z.names.places) e
      (ap names_in q ∙ names_dropped (length ps - k) ps ∙ ap (λ m. drop (m - k) (names_in ps)) (sym (as_many_names ps)))

-- Of a call as the last expression.
pub on_any : {A E : Type 0} {P : Type 0} (r : Result A E) → P → OnOk r P
on_any (Ok x) p = p
on_any (Err e) p = tt
