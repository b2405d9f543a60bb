-- A constructor's arguments, evaluated in turn, give what the meaning says.
use Rattle.std.proofs.Common.{◌≡◌, suc, ◌+◌, ◌<◌, List, [], ◌∷◌, ◌++◌, Bool, true, false, map, length, take, drop, refl, sym, ap, ◌∙◌, arith, append_assoc, length-append}
use Rattle.std.proofs.lemmas.List.{map-append, drop-map, take_at, drop_at, take-map, length-map}
use Rattle.std.specs.List.{AllByRecursion}
use Rattle.gib_types.specs.declared.table.Ty.{Ty}
use Rattle.gib_types.specs.declared.table.Ty.TheVariants.{Whole, Truth, Tree}
use Rattle.gib_types.specs.Table.{at_fields}
use Rattle.gib_types.specs.Tree.{Datum}
use Rattle.gib_syntax.specs.Meaning.{Outcome, Gives, Stops, with_values, with_fields}
use Rattle.gib_plain.specs.Turns.{in_turn, put_back, scalars_among, in_place}
use Rattle.gib_value.proofs.HeapLemmas.{All-take, All-drop}

-- ---- what is done with each argument

map_at : {X Y : Type 0} (g : X → Y) (b : Bool) (ts : List Ty) (xs : List X) → map g (at_fields b ts xs) ≡ at_fields b ts (map g xs)
map_at g b [] xs = refl
map_at g b (t ∷ ts) [] = refl
map_at g true (Whole ∷ ts) (x ∷ xs) = ap (λ zs. g x ∷ zs) (map_at g true ts xs)
map_at g true (Truth ∷ ts) (x ∷ xs) = ap (λ zs. g x ∷ zs) (map_at g true ts xs)
map_at g true (Tree t ∷ ts) (x ∷ xs) = map_at g true ts xs
map_at g false (Whole ∷ ts) (x ∷ xs) = map_at g false ts xs
map_at g false (Truth ∷ ts) (x ∷ xs) = map_at g false ts xs
map_at g false (Tree t ∷ ts) (x ∷ xs) = ap (λ zs. g x ∷ zs) (map_at g false ts xs)

pub map_turn : {X Y : Type 0} (g : X → Y) (ts : List Ty) (xs : List X) → map g (in_turn ts xs) ≡ in_turn ts (map g xs)
map_turn g ts xs =
    map-append g (at_fields true ts xs) (at_fields false ts xs ++ drop (length ts) xs)
    ∙ ap (λ zs. map g (at_fields true ts xs) ++ zs) (map-append g (at_fields false ts xs) (drop (length ts) xs))
    ∙ ap (λ zs. zs ++ (map g (at_fields false ts xs) ++ map g (drop (length ts) xs))) (map_at g true ts xs)
    ∙ ap (λ zs. at_fields true ts (map g xs) ++ (zs ++ map g (drop (length ts) xs))) (map_at g false ts xs)
    ∙ ap (λ zs. at_fields true ts (map g xs) ++ (at_fields false ts (map g xs) ++ zs)) (sym (drop-map g (length ts) xs))

-- ---- the values of outcomes

abbrev AllGive : List Outcome → Type 0
AllGive [] = Unit {0}
AllGive (Stops why ∷ os) = ⊥
AllGive (Gives v ∷ os) = AllGive os

abbrev values : List Outcome → List Datum
values [] = []
values (Stops why ∷ os) = values os
values (Gives v ∷ os) = v ∷ values os

give_both : (xs ys : List Outcome) → AllGive (xs ++ ys) → AllGive xs × AllGive ys
give_both [] ys h = (tt, h)
give_both (Stops why ∷ xs) ys h = absurd h
give_both (Gives v ∷ xs) ys h = give_both xs ys h

values_append : (xs ys : List Outcome) → values (xs ++ ys) ≡ values xs ++ values ys
values_append [] ys = refl
values_append (Stops why ∷ xs) ys = values_append xs ys
values_append (Gives v ∷ xs) ys = ap (λ vs. v ∷ vs) (values_append xs ys)

values_many : (os : List Outcome) → AllGive os → length (values os) ≡ length os
values_many [] h = refl
values_many (Stops why ∷ os) h = absurd h
values_many (Gives v ∷ os) h = ap suc (values_many os h)

-- Where all give values, only these count.
given : (os : List Outcome) (g h : List Datum → Outcome) → (AllGive os → g (values os) ≡ h (values os)) → with_values os g ≡ with_values os h
given [] g h e = e tt
given (Stops why ∷ os) g h e = refl
given (Gives v ∷ os) g h e = given os (λ vs. g (v ∷ vs)) (λ vs. h (v ∷ vs)) e

-- There are as many values as outcomes.
as_many : (os : List Outcome) (g h : List Datum → Outcome) → ((vs : List Datum) → length vs ≡ length os → g vs ≡ h vs) → with_values os g ≡ with_values os h
as_many [] g h e = e [] refl
as_many (Stops why ∷ os) g h e = refl
as_many (Gives v ∷ os) g h e = as_many os (λ vs. g (v ∷ vs)) (λ vs. h (v ∷ vs)) (λ vs l. e (v ∷ vs) (ap suc l))

with_append : (xs ys : List Outcome) (go : List Datum → Outcome) → with_values (xs ++ ys) go ≡ with_values xs (λ us. with_values ys (λ ws. go (us ++ ws)))
with_append [] ys go = refl
with_append (Stops why ∷ xs) ys go = refl
with_append (Gives v ∷ xs) ys go = with_append xs ys (λ vs. go (v ∷ vs))

-- ---- arguments at fields that give values

back_none : (ts : List Ty) → put_back ts [] [] ≡ let none_left : List Datum = [] in none_left
back_none [] = refl
back_none (Whole ∷ ts) = back_none ts
back_none (Truth ∷ ts) = back_none ts
back_none (Tree t ∷ ts) = back_none ts

fields_give : (ts : List Ty) (os : List Outcome) (go : List Datum → Outcome) → AllGive (at_fields true ts os) → AllGive (at_fields false ts os) → with_values os go ≡ with_values (drop (length ts) os) (λ ws. go (put_back ts (values (at_fields true ts os)) (values (at_fields false ts os) ++ ws)))
fields_give [] os go h k = refl
fields_give (t ∷ ts) [] go h k = ap go (sym (back_none (t ∷ ts)))
fields_give (Whole ∷ ts) (Stops why ∷ os) go h k = absurd h
fields_give (Truth ∷ ts) (Stops why ∷ os) go h k = absurd h
fields_give (Tree t ∷ ts) (Stops why ∷ os) go h k = absurd k
fields_give (Whole ∷ ts) (Gives v ∷ os) go h k = fields_give ts os (λ vs. go (v ∷ vs)) h k
fields_give (Truth ∷ ts) (Gives v ∷ os) go h k = fields_give ts os (λ vs. go (v ∷ vs)) h k
fields_give (Tree t ∷ ts) (Gives v ∷ os) go h k = fields_give ts os (λ vs. go (v ∷ vs)) h k

-- ---- where the scalars end

scalars_many : {X : Type 0} (ts : List Ty) (xs : List X) → scalars_among ts (length xs) ≡ length (at_fields true ts xs)
scalars_many [] [] = refl
scalars_many [] (x ∷ xs) = refl
scalars_many (t ∷ ts) [] = refl
scalars_many (Whole ∷ ts) (x ∷ xs) = ap suc (scalars_many ts xs)
scalars_many (Truth ∷ ts) (x ∷ xs) = ap suc (scalars_many ts xs)
scalars_many (Tree t ∷ ts) (x ∷ xs) = scalars_many ts xs

all_many : {X : Type 0} (ts : List Ty) (xs : List X) → length (at_fields true ts xs) + (length (at_fields false ts xs) + length (drop (length ts) xs)) ≡ length xs
all_many [] xs = omega arith
all_many (t ∷ ts) [] = refl
all_many (Whole ∷ ts) (x ∷ xs) = omega (arith, all_many ts xs)
all_many (Truth ∷ ts) (x ∷ xs) = omega (arith, all_many ts xs)
all_many (Tree t ∷ ts) (x ∷ xs) = omega (arith, all_many ts xs)

placed : (ts : List Ty) (xs ys : List Datum) → scalars_among ts (length (xs ++ ys)) ≡ length xs → put_back ts xs ys ≡ in_place ts (xs ++ ys)
placed ts xs ys e =
    let n = scalars_among ts (length (xs ++ ys)) in
    ap (λ zs. put_back ts zs ys) (sym (take_at xs ys n (sym e)))
    ∙ ap (put_back ts (take n (xs ++ ys))) (sym (drop_at xs ys n (sym e)))

-- ---- the order of the meaning

values_in_place : (ts : List Ty) (os : List Outcome) (go : List Datum → Outcome) → AllGive (at_fields true ts os ++ at_fields false ts os) → with_values os go ≡ with_values (drop (length ts) os) (λ ws. go (in_place ts (values (at_fields true ts os ++ at_fields false ts os) ++ ws)))
values_in_place ts os go h =
    let ss = at_fields true ts os in
    let ps = at_fields false ts os in
    let rs = drop (length ts) os in
    let g = give_both ss ps h in
    fields_give ts os go g.0 g.1
    ∙ as_many rs (λ ws. go (put_back ts (values ss) (values ps ++ ws))) (λ ws. go (in_place ts (values (ss ++ ps) ++ ws))) (λ ws l.
    let all : length (values ss ++ (values ps ++ ws)) ≡ length os = omega (arith, length-append (values ss) (values ps ++ ws), length-append (values ps) ws, values_many ss g.0, values_many ps g.1, l, all_many ts os) in
    ap go (placed ts (values ss) (values ps ++ ws) (ap (scalars_among ts) all ∙ scalars_many ts os ∙ sym (values_many ss g.0))
    ∙ ap (in_place ts) (sym (append_assoc (values ss) (values ps) ws) ∙ ap (λ zs. zs ++ ws) (sym (values_append ss ps)))))

-- The first argument in turn that has no value tells why, whatever the reasons are.
pub fields_in_turn : (ts : List Ty) (os : List Outcome) (go : List Datum → Outcome) → with_fields ts os go ≡ with_values (in_turn ts os) (λ vs. go (in_place ts vs))
fields_in_turn ts os go =
    let ss = at_fields true ts os in
    let ps = at_fields false ts os in
    let rs = drop (length ts) os in
    given (ss ++ ps) (λ vs. with_values os go) (λ vs. with_values rs (λ ws. go (in_place ts (vs ++ ws)))) (values_in_place ts os go)
    ∙ sym (with_append (ss ++ ps) rs (λ vs. go (in_place ts vs)))
    ∙ ap (λ xs. with_values xs (λ vs. go (in_place ts vs))) (append_assoc ss ps rs)

-- ---- what is put in place

back_map : {X Y : Type 0} (g : X → Y) (ts : List Ty) (xs ys : List X) → map g (put_back ts xs ys) ≡ put_back ts (map g xs) (map g ys)
back_map g [] xs ys = refl
back_map g (Whole ∷ ts) [] ys = back_map g ts [] ys
back_map g (Whole ∷ ts) (x ∷ xs) ys = ap (λ zs. g x ∷ zs) (back_map g ts xs ys)
back_map g (Truth ∷ ts) [] ys = back_map g ts [] ys
back_map g (Truth ∷ ts) (x ∷ xs) ys = ap (λ zs. g x ∷ zs) (back_map g ts xs ys)
back_map g (Tree t ∷ ts) xs [] = back_map g ts xs []
back_map g (Tree t ∷ ts) xs (y ∷ ys) = ap (λ zs. g y ∷ zs) (back_map g ts xs ys)

pub place_map : {X Y : Type 0} (g : X → Y) (ts : List Ty) (xs : List X) → map g (in_place ts xs) ≡ in_place ts (map g xs)
place_map g ts xs =
    let n = scalars_among ts (length xs) in
    back_map g ts (take n xs) (drop n xs)
    ∙ ap (λ zs. put_back ts zs (map g (drop n xs))) (sym (take-map g n xs))
    ∙ ap (put_back ts (take n (map g xs))) (sym (drop-map g n xs))
    ∙ ap (λ k. put_back ts (take (scalars_among ts k) (map g xs)) (drop (scalars_among ts k) (map g xs))) (sym (length-map xs g))

back_all : {X : Type 0} (P : X → Type 0) (ts : List Ty) (xs ys : List X) → AllByRecursion P xs → AllByRecursion P ys → AllByRecursion P (put_back ts xs ys)
back_all P [] xs ys h k = k
back_all P (Whole ∷ ts) [] ys h k = back_all P ts [] ys h k
back_all P (Whole ∷ ts) (x ∷ xs) ys h k = (h.0, back_all P ts xs ys h.1 k)
back_all P (Truth ∷ ts) [] ys h k = back_all P ts [] ys h k
back_all P (Truth ∷ ts) (x ∷ xs) ys h k = (h.0, back_all P ts xs ys h.1 k)
back_all P (Tree t ∷ ts) xs [] h k = back_all P ts xs [] h k
back_all P (Tree t ∷ ts) xs (y ∷ ys) h k = (k.0, back_all P ts xs ys h k.1)

pub place_all : {X : Type 0} (P : X → Type 0) (ts : List Ty) (xs : List X) → AllByRecursion P xs → AllByRecursion P (in_place ts xs)
place_all P ts xs h = back_all P ts (take (scalars_among ts (length xs)) xs) (drop (scalars_among ts (length xs)) xs) (All-take P (scalars_among ts (length xs)) xs h) (All-drop P (scalars_among ts (length xs)) xs h)

-- ---- nothing is left

pub none_at : {X : Type 0} (b : Bool) (ts : List Ty) (xs : List X) → length xs < 1 → length (at_fields b ts xs) ≡ 0
none_at b [] xs lt = refl
none_at b (t ∷ ts) [] lt = refl
none_at b (t ∷ ts) (x ∷ xs) lt = absurd (omega (arith, lt))
