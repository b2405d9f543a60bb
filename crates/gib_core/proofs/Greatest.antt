-- The ended parameters are the greatest set that stays as it is.
use Rattle.std.proofs.Common.{◌≡◌, ℕ, zero, suc, ◌==◌, ◌||◌, ◌&&◌, Bool, true, false, cond, List, [], ◌∷◌, filter, Option, Some, None, refl, sym, ap, ◌∙◌}
use Rattle.std.proofs.lemmas.Bool.{eqb-true, false≢true}
use Rattle.gib_types.specs.Table.{Table, fields_at}
use Rattle.gib_core.specs.declared.atom.Variable.{Variable}
use Rattle.gib_core.specs.declared.atom.Atom.{Atom}
use Rattle.gib_core.specs.Tree.{Term, Then, Write, Point, CallTerm, Give, CaseTerm, IfTerm, Tuple, Bind, Past, One, Both, Prim, Reach, On, Several, Branches, NoBranch, BranchThen, FunctionTerm, CoreTree}
use Rattle.gib_core.specs.Meaning.{function_at}
use Rattle.gib_core.specs.Reaching.{is_variable}
use Rattle.gib_core.specs.Ending.{Ended, has_ended, call_ends, tells, is_telling, is_known, all_known, lasts_known, if_some, last_packed, known_in, stays_ended, narrowed, settled}

or_grows : (a a' b b' : Bool) → (a ≡ true → a' ≡ true) → (b ≡ true → b' ≡ true) → (a || b) ≡ true → (a' || b') ≡ true
or_grows true a' b b' f g h = ap (λ (q : Bool). q || b') (f refl)
or_grows false true b b' f g h = refl
or_grows false false b b' f g h = g h

and_grows : (a a' b b' : Bool) → (a ≡ true → a' ≡ true) → (b ≡ true → b' ≡ true) → (a && b) ≡ true → (a' && b') ≡ true
and_grows true a' b b' f g h = ap (λ (q : Bool). q && b') (f refl) ∙ g h
and_grows false a' b b' f g h = absurd (false≢true h)

-- the first set is part of the second one
pub record Part (es fs : List Ended) : Type 0 where
  pub has : (f k : ℕ) → has_ended es f k ≡ true → has_ended fs f k ≡ true

call_grows : (es fs : List Ended) → Part es fs → (f k : ℕ) (xs : List Atom) (z : Variable) → call_ends es f k xs z ≡ true → call_ends fs f k xs z ≡ true
call_grows es fs p f k [] z h = h
call_grows es fs p f k (x ∷ xs) z h =
    or_grows (is_variable z x && has_ended es f k) (is_variable z x && has_ended fs f k) (call_ends es f (suc k) xs z) (call_ends fs f (suc k) xs z)
    (and_grows (is_variable z x) (is_variable z x) (has_ended es f k) (has_ended fs f k) (λ q. q) (p.has f k)) (call_grows es fs p f (suc k) xs z) h

tells_grow : (es fs : List Ended) → Part es fs → (t : Term) (z : Variable) → tells es t z ≡ true → tells fs t z ≡ true
tells_grow es fs p (Then b u) z h = h
tells_grow es fs p (Write x k ss ps) z h = h
tells_grow es fs p (Point x) z h = h
tells_grow es fs p (CallTerm f xs) z h = call_grows es fs p f.0 0 xs z h
tells_grow es fs p (Give x) z h = h
tells_grow es fs p (CaseTerm x bs) z h = h
tells_grow es fs p (IfTerm x t u) z h = h
tells_grow es fs p (Tuple tys ss ps) z h = h

telling_grows : (es fs : List Ended) → Part es fs → (b : Bind) (z : Variable) → is_telling es b z ≡ true → is_telling fs b z ≡ true
telling_grows es fs p (Past h' k) z h = h
telling_grows es fs p (One (On kind x ty t)) z h = tells_grow es fs p t z h
telling_grows es fs p (One (Several xs tys t)) z h = h
telling_grows es fs p (Both fork l r) z h = h
telling_grows es fs p (Prim x f v w) z h = h
telling_grows es fs p (Reach y by) z h = h

some_grows : (o : Option Variable) (f g : Variable → Bool) → ((y : Variable) → f y ≡ true → g y ≡ true) → if_some o f ≡ true → if_some o g ≡ true
some_grows None f g i h = h
some_grows (Some y) f g i h = i y h

mutual
  known_grows : (table : Table) (es fs : List Ended) → Part es fs → (t : Term) (z : Variable) → is_known table es t z ≡ true → is_known table fs t z ≡ true
  known_grows table es fs p (Then b u) z h = or_grows (is_telling es b z) (is_telling fs b z) (is_known table es u z) (is_known table fs u z) (telling_grows es fs p b z) (known_grows table es fs p u z) h
  known_grows table es fs p (Write x k ss ps) z h = h
  known_grows table es fs p (Point x) z h = h
  known_grows table es fs p (CallTerm f xs) z h = call_grows es fs p f.0 0 xs z h
  known_grows table es fs p (Give x) z h = h
  known_grows table es fs p (CaseTerm x bs) z h =
      or_grows (all_known table es bs z) (all_known table fs bs z) (is_variable z x && lasts_known table es bs) (is_variable z x && lasts_known table fs bs) (all_grow table es fs p bs z)
      (and_grows (is_variable z x) (is_variable z x) (lasts_known table es bs) (lasts_known table fs bs) (λ q. q) (lasts_grow table es fs p bs)) h
  known_grows table es fs p (IfTerm x t u) z h = and_grows (is_known table es t z) (is_known table fs t z) (is_known table es u z) (is_known table fs u z) (known_grows table es fs p t z) (known_grows table es fs p u z) h
  known_grows table es fs p (Tuple tys ss ps) z h = h

  all_grow : (table : Table) (es fs : List Ended) → Part es fs → (bs : Branches) (z : Variable) → all_known table es bs z ≡ true → all_known table fs bs z ≡ true
  all_grow table es fs p NoBranch z h = h
  all_grow table es fs p (BranchThen k xs t bs) z h = and_grows (is_known table es t z) (is_known table fs t z) (all_known table es bs z) (all_known table fs bs z) (known_grows table es fs p t z) (all_grow table es fs p bs z) h

  lasts_grow : (table : Table) (es fs : List Ended) → Part es fs → (bs : Branches) → lasts_known table es bs ≡ true → lasts_known table fs bs ≡ true
  lasts_grow table es fs p NoBranch h = h
  lasts_grow table es fs p (BranchThen k xs t bs) h =
      let o = last_packed None (fields_at table k.0) xs in
      and_grows (if_some o (λ y. is_known table es t y)) (if_some o (λ y. is_known table fs t y)) (lasts_known table es bs) (lasts_known table fs bs)
      (some_grows o (λ y. is_known table es t y) (λ y. is_known table fs t y) (λ y i. known_grows table es fs p t y i)) (lasts_grow table es fs p bs) h

in_grows : (table : Table) (es fs : List Ended) → Part es fs → (k : ℕ) (o : Option FunctionTerm) → known_in table es k o ≡ true → known_in table fs k o ≡ true
in_grows table es fs p k None h = h
in_grows table es fs p k (Some g) h = known_grows table es fs p g.body (record { 0 = k }) h

-- what the test keeps stays among them
filter_has : (test : Ended → Bool) (es : List Ended) (f k : ℕ) → test (record { function = f; place = k }) ≡ true → has_ended es f k ≡ true → has_ended (filter test es) f k ≡ true
filter_has test [] f k t h = h
filter_has test (e ∷ es) f k t h = go (test e) refl (e.function == f) (e.place == k) refl refl h (λ i. filter_has test es f k t i)
  where
    go : (b : Bool) → test e ≡ b → (x y : Bool) → (e.function == f) ≡ x → (e.place == k) ≡ y → ((x && y) || has_ended es f k) ≡ true → (has_ended es f k ≡ true → has_ended (filter test es) f k ≡ true)
        → has_ended (cond b (e ∷ filter test es) (filter test es)) f k ≡ true
    go true c true true p q i r = ap (λ (z : Bool). (z && (e.place == k)) || has_ended (filter test es) f k) p ∙ ap (λ (z : Bool). (true && z) || has_ended (filter test es) f k) q
    go true c true false p q i r = ap (λ (z : Bool). (z && (e.place == k)) || has_ended (filter test es) f k) p ∙ ap (λ (z : Bool). (true && z) || has_ended (filter test es) f k) q ∙ r i
    go true c false y p q i r = ap (λ (z : Bool). (z && (e.place == k)) || has_ended (filter test es) f k) p ∙ r i
    go false c true true p q i r =
        let same : record { function = f; place = k } ≡ e = λ j. record { function = sym (eqb-true e.function f p) j; place = sym (eqb-true e.place k q) j } in
        absurd (false≢true (sym c ∙ ap test (sym same) ∙ t))
    go false c true false p q i r = r i
    go false c false y p q i r = r i

-- a set that stays as it is
pub record IsStable (core : CoreTree) (ts : List Ended) : Type 0 where
  pub stays : (f k : ℕ) → has_ended ts f k ≡ true → stays_ended core ts (record { function = f; place = k }) ≡ true

narrowed_has : (core : CoreTree) (ts es : List Ended) → IsStable core ts → Part ts es → Part ts (narrowed core es)
narrowed_has core ts es s p = record { has = λ f k h. filter_has (stays_ended core es) es f k (in_grows core.table ts es p k (function_at core.functions f) (s.stays f k h)) (p.has f k h) }

-- is part of what any of them settles to that it is part of
pub greatest : (core : CoreTree) (ts : List Ended) → IsStable core ts → (n : ℕ) (es : List Ended) → Part ts es → Part ts (settled core n es)
greatest core ts s zero es p = p
greatest core ts s (suc n) es p = greatest core ts s n (narrowed core es) (narrowed_has core ts es s p)
