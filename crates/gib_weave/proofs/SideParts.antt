-- Sides of several variables: what they owe, what is known of their variables, and what they answer.
use Rattle.std.proofs.Common.{◌≡◌, ◌≤◌, ℕ, zero, suc, pos, List, [], ◌∷◌, length, map, arith, refl, sym, ap, subst, ◌∙◌}
use Rattle.gib_types.specs.declared.table.Ty.{Ty}
use Rattle.gib_types.specs.declared.table.Ty.TheVariants.{Whole, Truth, Tree}
use Rattle.gib_types.specs.Layout.{LaidOut}
use Rattle.gib_types.specs.Tree.{Datum, whole, data_of, list_of}
use Rattle.gib_syntax.specs.Meaning.{Environment, Outcome, Gives, Stops, Reason, parts, tuple, value_in, with_value}
use Rattle.gib_mem.specs.Memory.{Store}
use Rattle.gib_core.specs.declared.atom.Variable.{Variable}
use Rattle.gib_core.specs.Meaning.{bind, bind_side}
use Rattle.gib_core.specs.Tree.{Side, On, Several, CoreTree}
use Rattle.gib_core.specs.Fits.{Scope, Sort, Held, AreNew, bound_scope, param_sort, put}
use Rattle.gib_machine.specs.State.{Slots, eight, frame_words, slot}
use Rattle.gib_weave.specs.Bound.{AreBound, values_for, values_of}
use Rattle.gib_weave.specs.Environment.{Ctx, Has, HasAll, StandsAt}
use Rattle.gib_weave.specs.Owing.{side_gives, side_owes}
use Rattle.gib_weave.specs.Sound.{PartsAnswer}
use Rattle.gib_weave.proofs.Basics.{put-same, put-other}
use Rattle.gib_weave.proofs.Move.{bound-same, bound-other, held, not_there, put_held}

-- a variable that is not among new ones keeps its value
kept : (sc : Scope) (tys : List Ty) (xs : List Variable) (vs : List Datum) (env : Environment) (x : ℕ) → sc x ≡ Held → AreNew sc tys xs → value_in (bind xs vs env) x ≡ value_in env x
kept sc [] [] vs env x h n = refl
kept sc [] (y ∷ xs) vs env x h n = absurd n
kept sc (ty ∷ tys) [] vs env x h n = absurd n
kept sc (ty ∷ tys) (y ∷ xs) [] env x h n = kept (put sc y.0 Held) tys xs [] ((y.0, whole (pos 0)) ∷ env) x (put_held sc y.0 x h) n.1 ∙ bound-other env y.0 (whole (pos 0)) x (held sc y.0 x h (not_there sc y.0 n.0))
kept sc (ty ∷ tys) (y ∷ xs) (v ∷ vs) env x h n = kept (put sc y.0 Held) tys xs vs ((y.0, v) ∷ env) x (put_held sc y.0 x h) n.1 ∙ bound-other env y.0 v x (held sc y.0 x h (not_there sc y.0 n.0))

-- New variables have the values that they got.
pub values_bound : (sc : Scope) (tys : List Ty) (xs : List Variable) (vs : List Datum) (env : Environment) → AreNew sc tys xs → values_of (bind xs vs env) xs ≡ values_for xs vs
values_bound sc [] [] vs env n = refl
values_bound sc [] (x ∷ xs) vs env n = absurd n
values_bound sc (ty ∷ tys) [] vs env n = absurd n
values_bound sc (ty ∷ tys) (x ∷ xs) [] env n =
    ap (λ (q : Datum). q ∷ values_of (bind xs [] ((x.0, whole (pos 0)) ∷ env)) xs) (kept (put sc x.0 Held) tys xs [] ((x.0, whole (pos 0)) ∷ env) x.0 (put-same sc x.0 Held) n.1 ∙ bound-same env x.0 (whole (pos 0)))
    ∙ ap (λ (qs : List Datum). whole (pos 0) ∷ qs) (values_bound (put sc x.0 Held) tys xs [] ((x.0, whole (pos 0)) ∷ env) n.1)
values_bound sc (ty ∷ tys) (x ∷ xs) (v ∷ vs) env n =
    ap (λ (q : Datum). q ∷ values_of (bind xs vs ((x.0, v) ∷ env)) xs) (kept (put sc x.0 Held) tys xs vs ((x.0, v) ∷ env) x.0 (put-same sc x.0 Held) n.1 ∙ bound-same env x.0 v)
    ∙ ap (λ (qs : List Datum). v ∷ qs) (values_bound (put sc x.0 Held) tys xs vs ((x.0, v) ∷ env) n.1)

-- The values that variables got bind them as the parts do.
pub bind_values : (xs : List Variable) (vs : List Datum) (env : Environment) → bind xs (values_for xs vs) env ≡ bind xs vs env
bind_values [] vs env = refl
bind_values (x ∷ xs) [] env = bind_values xs [] ((x.0, whole (pos 0)) ∷ env)
bind_values (x ∷ xs) (v ∷ vs) env = bind_values xs vs ((x.0, v) ∷ env)

-- The parts of a part list.
pub list_data : (vs : List Datum) → list_of (data_of vs) ≡ vs
list_data [] = refl
list_data (v ∷ vs) = ap (λ (ws : List Datum). v ∷ ws) (list_data vs)

-- A line goes on with what a side owes as with what its term gives.
pub owed_goes_on : (core : CoreTree) (n : ℕ) (s : Side) (env : Environment) (go : Environment → Outcome) → with_value (side_owes core n s env) (λ v. go (bind_side s v env)) ≡ with_value (side_gives core n s env) (λ v. go (bind_side s v env))
owed_goes_on core n (On kind x ty t) env go = refl
owed_goes_on core n (Several xs tys t) env go = of (side_gives core n (Several xs tys t) env)
  where
    of : (o : Outcome) → with_value (with_value o (λ v. Gives (tuple (values_for xs (parts v))))) (λ v. go (bind xs (parts v) env)) ≡ with_value o (λ v. go (bind xs (parts v) env))
    of (Stops why) = refl
    of (Gives v) = ap (λ (vs : List Datum). go (bind xs vs env)) (list_data (values_for xs (parts v))) ∙ ap go (bind_values xs (parts v) env)

-- Where values are owed, they bind the variables as what the term gives; where none is, it gives none.
pub owed_binds : (xs : List Variable) (o : Outcome) (vs : List Datum) (env : Environment) → with_value o (λ v. Gives (tuple (values_for xs (parts v)))) ≡ Gives (tuple vs) → (v : Datum) × (o ≡ Gives v) × (bind xs (parts v) env ≡ bind xs vs env)
owed_binds xs (Stops why) vs env e = absurd cc
owed_binds xs (Gives v) vs env e =
    let same : values_for xs (parts v) ≡ vs = sym (list_data (values_for xs (parts v))) ∙ ap (λ (o : Outcome). parts (given o)) e ∙ list_data vs in
    (v, refl, sym (bind_values xs (parts v) env) ∙ ap (λ (qs : List Datum). bind xs qs env) same)
  where
    given : Outcome → Datum
    given (Gives v) = v
    given (Stops why) = whole (pos 0)

pub owes_none : (xs : List Variable) (o : Outcome) (why : Reason) → with_value o (λ v. Gives (tuple (values_for xs (parts v)))) ≡ Stops why → o ≡ Stops why
owes_none xs (Stops q) why e = e
owes_none xs (Gives v) why e = absurd cc

-- a variable that is not among new ones keeps its sort
sort_kept : (sc known : Scope) (tys : List Ty) (xs : List Variable) (x : ℕ) → sc x ≡ Held → AreNew sc tys xs → bound_scope tys xs known x ≡ known x
sort_kept sc known [] [] x h n = refl
sort_kept sc known [] (y ∷ xs) x h n = absurd n
sort_kept sc known (ty ∷ tys) [] x h n = absurd n
sort_kept sc known (ty ∷ tys) (y ∷ xs) x h n = sort_kept (put sc y.0 Held) (put known y.0 (param_sort ty)) tys xs x (put_held sc y.0 x h) n.1 ∙ put-other known y.0 x (param_sort ty) (held sc y.0 x h (not_there sc y.0 n.0))

-- New variables are bound to values of their types.
pub are_bound : (sc known : Scope) (tys : List Ty) (xs : List Variable) → AreNew sc tys xs → AreBound (bound_scope tys xs known) tys xs
are_bound sc known [] [] n = tt
are_bound sc known [] (x ∷ xs) n = absurd n
are_bound sc known (ty ∷ tys) [] n = absurd n
are_bound sc known (ty ∷ tys) (x ∷ xs) n =
    (sort_kept (put sc x.0 Held) (put known x.0 (param_sort ty)) tys xs x.0 (put-same sc x.0 Held) n.1 ∙ put-same known x.0 (param_sort ty), are_bound (put sc x.0 Held) (put known x.0 (param_sort ty)) tys xs n.1)

-- The end of the side: the words of its variables are the answer.
pub side_words : (laid : LaidOut) (s : Store) (sl : Slots) (c : Ctx) → HasAll laid s sl c → (tys : List Ty) (xs : List Variable) → AreBound c.scope tys xs → PartsAnswer laid s tys (map (λ (x : Variable). slot sl x.0) xs) (values_of c.env xs)
side_words laid s sl c h [] [] b = tt
side_words laid s sl c h [] (x ∷ xs) b = absurd b
side_words laid s sl c h (ty ∷ tys) [] b = absurd b
side_words laid s sl c h (Whole ∷ tys) (x ∷ xs) b = (subst (λ (so : Sort). Has laid s c so (slot sl x.0) (value_in c.env x.0) (c.pl x.0) (c.hd x.0)) b.0 (h.has x.0), side_words laid s sl c h tys xs b.1)
side_words laid s sl c h (Truth ∷ tys) (x ∷ xs) b = (subst (λ (so : Sort). Has laid s c so (slot sl x.0) (value_in c.env x.0) (c.pl x.0) (c.hd x.0)) b.0 (h.has x.0), side_words laid s sl c h tys xs b.1)
side_words laid s sl c h (Tree t ∷ tys) (x ∷ xs) b =
    let p = subst (λ (so : Sort). Has laid s c so (slot sl x.0) (value_in c.env x.0) (c.pl x.0) (c.hd x.0)) b.0 (h.has x.0) in
    (subst (λ (q : ℕ). StandsAt laid s t.0 q (value_in c.env x.0)) (sym p.same) p.stands, side_words laid s sl c h tys xs b.1)

-- The words of variables are those of their slots.
pub words_of : (sl : Slots) (xs : List Variable) → map (slot sl) (map (λ (x : Variable). x.0) xs) ≡ map (λ (x : Variable). slot sl x.0) xs
words_of sl [] = refl
words_of sl (x ∷ xs) = ap (λ (ws : List ℕ). slot sl x.0 ∷ ws) (words_of sl xs)

parts_of_words : (laid : LaidOut) (s : Store) (n : ℕ) (tys : List Ty) (ws : List ℕ) (vs : List Datum) → length tys ≤ n → PartsAnswer laid s tys ws vs → PartsAnswer laid s tys (frame_words n ws) vs
parts_of_words laid s n [] ws [] le h = tt
parts_of_words laid s n [] ws (v ∷ vs) le h = absurd h
parts_of_words laid s n (ty ∷ tys) [] vs le h = absurd h
parts_of_words laid s n (ty ∷ tys) (w ∷ ws) [] le h = absurd h
parts_of_words laid s zero (ty ∷ tys) (w ∷ ws) (v ∷ vs) le h = absurd (omega (arith, le))
parts_of_words laid s (suc n) (ty ∷ tys) (w ∷ ws) (v ∷ vs) le h = (h.0, parts_of_words laid s n tys ws vs (omega (arith, le)) h.1)

-- So are the eight words.
pub eight_answer : (laid : LaidOut) (s : Store) (tys : List Ty) (ws : List ℕ) (vs : List Datum) → length tys ≤ 8 → PartsAnswer laid s tys ws vs → PartsAnswer laid s tys (eight ws) vs
eight_answer laid s tys ws vs le h = parts_of_words laid s 8 tys ws vs le h
