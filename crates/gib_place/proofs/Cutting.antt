-- Where a binding is placed.
use Rattle.std.proofs.Common.{◌≡◌, ℕ, zero, suc, ◌+◌, ◌-◌, ◌<◌, ◌≤◌, Bool, true, false, not, ◌&&◌, ◌||◌, ◌==◌, if◌then◌else◌, List, [], ◌∷◌, ◌++◌, length, take, drop, get_or, Option, Some, None, refl, sym, ap, ◌∙◌, arith}
use Rattle.std.specs.List.{list_any}
use Rattle.std.proofs.lemmas.List.{drop_more, drop_all, append-nil, take_more, append_assoc, take_rest}
use Rattle.std.proofs.lemmas.Bool.{eq-eqb, both_ways}
use Rattle.gib_core.specs.declared.atom.Variable.{Variable}
use Rattle.gib_core.specs.declared.atom.Atom.{Atom}
use Rattle.gib_core.specs.declared.atom.Atom.TheVariants as a
use Rattle.gib_core.specs.declared.atom.Kind.TheVariants.{Here, Region, Scalar}
use Rattle.gib_core.specs.declared.node.BoundTerm.{BoundTerm}
use Rattle.gib_core.specs.declared.node.BoundSide.{BoundSide}
use Rattle.gib_core.specs.declared.node.BoundSide.TheVariants as o
use Rattle.gib_core.specs.declared.node.Binding.TheVariants as b
use Rattle.gib_core.specs.Tree.{Term, Side, On, One, Both, variables_of}
use Rattle.gib_core.specs.Arena.{side_from}
use Rattle.gib_core.specs.Reaching.{is_variable}
use Rattle.gib_place.specs.declared.field.Field.{Field}
use Rattle.gib_place.specs.declared.line.Spot.{Spot}
use Rattle.gib_place.specs.declared.line.Taken.{Taken}
use Rattle.gib_place.specs.Late.{Seen, side_variables, is_late_or}
use Rattle.gib_place.specs.Placing.{Cut, before_cut, cut_at, is_one, are_there, are_none, place_at, place_side, place_one, place_right, place_too, place_both, place_bind}
use Rattle.gib_place.specs.Filled.{cut_from, taken, side_at, side_placed, placed_at, bind_placed, AreLate}
use Rattle.gib_core.specs.Rules.{is_among}
use Rattle.gib_core.proofs.Along.{among_append}

-- The rest of a list, as slices have it.
pub tail_is : {A : Type 0} (xs : List A) (p q : ℕ) → p ≤ length xs → q ≡ p → take (length xs - p) (drop p xs) ≡ drop q xs
tail_is xs p q le e = take_rest xs p ∙ ap (λ n. drop n xs) (sym e)

-- More fields before a cut.
abbrev behind_all : List Field → Option Cut → Option Cut
behind_all fs None = None
behind_all fs (Some c) = Some (record { before = fs ++ c.before; behind = c.behind })

-- No field before a place points to the variable.
pub record CutBehind (x : Variable) (fields : List Field) (i : ℕ) : Type 0 where
  pub cut : cut_at x fields ≡ behind_all (take i fields) (cut_at x (drop i fields))

nothing_first : (c : Option Cut) → c ≡ behind_all [] c
nothing_first None = refl
nothing_first (Some c) = refl

pub cut_start : (x : Variable) (fields : List Field) → CutBehind x fields 0
cut_start x fields = record { cut = nothing_first (cut_at x fields) }

one_further : (fs : List Field) (f : Field) (c : Option Cut) → behind_all fs (before_cut f c) ≡ behind_all (fs ++ f ∷ []) c
one_further fs f None = refl
one_further fs f (Some c) = λ i. Some (record { before = sym (append_assoc fs (f ∷ []) c.before) i; behind = c.behind })

pub cut_next : (x : Variable) (fields : List Field) (i : ℕ) (f d : Field) → CutBehind x fields i → i < length fields → f ≡ get_or fields i d → is_variable x f.target ≡ false → CutBehind x fields (i + 1)
cut_next x fields i f d h lt ef e = record {
  cut =
      let left : drop i fields ≡ f ∷ drop (i + 1) fields = drop_more fields i d lt ∙ ap (λ (z : Field). z ∷ drop (i + 1) fields) (sym ef) in
      let more : take (i + 1) fields ≡ take i fields ++ f ∷ [] = take_more fields i d lt ∙ ap (λ (z : Field). take i fields ++ z ∷ []) (sym ef) in
      h.cut
      ∙ ap (λ l. behind_all (take i fields) (cut_at x l)) left
      ∙ ap (λ (b : Bool). behind_all (take i fields) (if b then Some (record { before = []; behind = drop (i + 1) fields }) else before_cut f (cut_at x (drop (i + 1) fields)))) e
      ∙ one_further (take i fields) f (cut_at x (drop (i + 1) fields))
      ∙ ap (λ l. behind_all l (cut_at x (drop (i + 1) fields))) (sym more);
}

pub cut_found : (x : Variable) (fields : List Field) (i : ℕ) (f d : Field) → CutBehind x fields i → i < length fields → f ≡ get_or fields i d → is_variable x f.target ≡ true → cut_at x fields ≡ cut_from fields (Some i)
cut_found x fields i f d h lt ef e =
    let left : drop i fields ≡ f ∷ drop (i + 1) fields = drop_more fields i d lt ∙ ap (λ (z : Field). z ∷ drop (i + 1) fields) (sym ef) in
    let next : i + 1 ≡ suc i = omega arith in
    h.cut
    ∙ ap (λ l. behind_all (take i fields) (cut_at x l)) left
    ∙ ap (λ (b : Bool). behind_all (take i fields) (if b then Some (record { before = []; behind = drop (i + 1) fields }) else before_cut f (cut_at x (drop (i + 1) fields)))) e
    ∙ (λ k. Some (record { before = append-nil (take i fields) k; behind = drop (next k) fields }))

pub cut_missed : (x : Variable) (fields : List Field) (i : ℕ) → CutBehind x fields i → length fields ≤ i → cut_at x fields ≡ None
cut_missed x fields i h le = h.cut ∙ ap (λ l. behind_all (take i fields) (cut_at x l)) (drop_all i fields le)

-- A region at the field that points to it.
pub cut_taken : (f : ℕ → Term) (may : List Field → Bool) (s made : BoundTerm) (fields : List Field) (i : ℕ) → cut_at s.variable fields ≡ cut_from fields (Some i) → made ≡ record s { kind = Here }
    → place_at may s.variable s.ty (f s.term.0) (cut_at s.variable fields) ≡ side_at f may fields (Some (record { place = i; side = made }))
cut_taken f may s made fields i ec em =
    ap (place_at may s.variable s.ty (f s.term.0)) ec
    ∙ (λ k. if may (take i fields) then Some (record { before = take i fields; side = side_from f (o.One (sym em k)); left = drop (suc i) fields }) else None)

pub cut_untaken : (f : ℕ → Term) (may : List Field → Bool) (s : BoundTerm) (fields : List Field) → cut_at s.variable fields ≡ None → place_at may s.variable s.ty (f s.term.0) (cut_at s.variable fields) ≡ None
cut_untaken f may s fields ec = ap (place_at may s.variable s.ty (f s.term.0)) ec

-- A region that is used once is placed at its field, any other side is not.
pub side_once : (once : Variable → Bool) (f : ℕ → Term) (may : List Field → Bool) (s : BoundTerm) (fields : List Field) (t : Option Taken) → s.kind ≡ Region → once s.variable ≡ true
    → place_at may s.variable s.ty (f s.term.0) (cut_at s.variable fields) ≡ side_at f may fields t → place_side once may (side_from f (o.One s)) fields ≡ side_at f may fields t
side_once once f may s fields t ek eo ec =
    ap (λ k. place_side once may (On k s.variable s.ty (f s.term.0)) fields) ek
    ∙ ap (λ (b : Bool). if b then place_at may s.variable s.ty (f s.term.0) (cut_at s.variable fields) else None) eo
    ∙ ec

pub side_twice : (once : Variable → Bool) (f : ℕ → Term) (may : List Field → Bool) (s : BoundTerm) (fields : List Field) → s.kind ≡ Region → once s.variable ≡ false → place_side once may (side_from f (o.One s)) fields ≡ None
side_twice once f may s fields ek eo =
    ap (λ k. place_side once may (On k s.variable s.ty (f s.term.0)) fields) ek
    ∙ ap (λ (b : Bool). if b then place_at may s.variable s.ty (f s.term.0) (cut_at s.variable fields) else None) eo

pub side_stays_here : (once : Variable → Bool) (f : ℕ → Term) (may : List Field → Bool) (s : BoundTerm) (fields : List Field) → s.kind ≡ Here → place_side once may (side_from f (o.One s)) fields ≡ None
side_stays_here once f may s fields ek = ap (λ k. place_side once may (On k s.variable s.ty (f s.term.0)) fields) ek

pub side_stays_scalar : (once : Variable → Bool) (f : ℕ → Term) (may : List Field → Bool) (s : BoundTerm) (fields : List Field) → s.kind ≡ Scalar → place_side once may (side_from f (o.One s)) fields ≡ None
side_stays_scalar once f may s fields ek = ap (λ k. place_side once may (On k s.variable s.ty (f s.term.0)) fields) ek

pub side_is : (once : Variable → Bool) (f : ℕ → Term) (may : List Field → Bool) (s : BoundSide) (one : BoundTerm) (fields : List Field) (t : Option Taken) → s ≡ o.One one
    → place_side once may (side_from f (o.One one)) fields ≡ side_at f may fields t → place_side once may (side_from f s) fields ≡ side_at f may fields t
side_is once f may s one fields t e h = ap (λ z. place_side once may (side_from f z) fields) e ∙ h

-- The fields that are there are those of which none is late.
abbrev late_test : Seen → ℕ → Option BoundSide → List Field → Bool
late_test seen moment also fs = not (list_any (λ (g : Field). is_late_or seen moment also g.target) fs)

abbrev with_also : Option BoundSide → List Variable → List Variable
with_also None late = late
with_also (Some s) late = side_variables s ++ late

one_late : (seen : Seen) (moment : ℕ) (late : List Variable) (also : Option BoundSide) (y : Atom) → AreLate seen moment late → is_one (with_also also late) y ≡ is_late_or seen moment also y
one_late seen moment late also (a.Whole z) h = refl
one_late seen moment late also (a.Truth b) h = refl
one_late seen moment late None (a.Variable y) h = h y
one_late seen moment late (Some s) (a.Variable y) h = among_append (side_variables s) late y ∙ ap (λ (b : Bool). is_among (side_variables s) y || b) (h y)

not_or : (p q : Bool) → not p && not q ≡ not (p || q)
not_or true q = refl
not_or false q = refl

there_late : (seen : Seen) (moment : ℕ) (late : List Variable) (also : Option BoundSide) (fs : List Field) → AreLate seen moment late → are_there (with_also also late) fs ≡ late_test seen moment also fs
there_late seen moment late also [] h = refl
there_late seen moment late also (f ∷ fs) h =
    (λ i. not (one_late seen moment late also f.target h i) && there_late seen moment late also fs h i)
    ∙ not_or (is_late_or seen moment also f.target) (list_any (λ (g : Field). is_late_or seen moment also g.target) fs)

there_by : (once : Variable → Bool) (seen : Seen) (moment : ℕ) (late : List Variable) (also : Option BoundSide) (s : Side) (fields : List Field) → AreLate seen moment late → place_side once (are_there (with_also also late)) s fields ≡ place_side once (late_test seen moment also) s fields
there_by once seen moment late also s fields h = λ i. place_side once (λ fs. there_late seen moment late also fs h i) s fields

-- A side binds its variables, whatever its term is.
pub same_variables : (f : ℕ → Term) (s : BoundSide) → variables_of (side_from f s) ≡ side_variables s
same_variables f (o.One x) = refl
same_variables f (o.Several x) = refl

there_beside : (once : Variable → Bool) (seen : Seen) (moment : ℕ) (f : ℕ → Term) (late : List Variable) (other : BoundSide) (s : Side) (fields : List Field) → AreLate seen moment late
    → place_side once (are_there (variables_of (side_from f other) ++ late)) s fields ≡ place_side once (late_test seen moment (Some other)) s fields
there_beside once seen moment f late other s fields h =
    ap (λ xs. place_side once (are_there (xs ++ late)) s fields) (same_variables f other) ∙ there_by once seen moment late (Some other) s fields h

-- The fields before the target may be put, or not.
pub free_found : (f : ℕ → Term) (may : List Field → Bool) (fields : List Field) (t : Taken) → may (take t.place fields) ≡ true → side_at f may fields (Some t) ≡ side_placed f fields (Some t)
free_found f may fields t e = ap (λ (b : Bool). if b then Some (taken f fields t) else None) e

pub free_late : (f : ℕ → Term) (may : List Field → Bool) (fields : List Field) (t : Taken) → may (take t.place fields) ≡ false → side_at f may fields (Some t) ≡ None
free_late f may fields t e = ap (λ (b : Bool). if b then Some (taken f fields t) else None) e

-- A binding of one side.
pub one_placed : (once : Variable → Bool) (seen : Seen) (moment : ℕ) (f : ℕ → Term) (late : List Variable) (s : BoundSide) (fields : List Field) (t : Taken) (u : ℕ) → AreLate seen moment late → u ≡ t.place + 1
    → place_side once (late_test seen moment None) (side_from f s) fields ≡ side_placed f fields (Some t)
    → place_bind once late (One (side_from f s)) fields ≡ bind_placed f fields (Some (record { before = t.place; binding = b.One (o.One t.side); first = t.side.variable; second = None; used = u }))
one_placed once seen moment f late s fields t u h eu e =
    ap place_one (there_by once seen moment late None (side_from f s) fields h ∙ e)
    ∙ (let same : suc t.place ≡ u = omega arith in λ k. Some (record { before = take t.place fields; bind = One (side_from f (o.One t.side)); standing = t.side.variable ∷ []; left = drop (same k) fields }))

pub one_stays : (once : Variable → Bool) (seen : Seen) (moment : ℕ) (f : ℕ → Term) (late : List Variable) (s : BoundSide) (fields : List Field) → AreLate seen moment late
    → place_side once (late_test seen moment None) (side_from f s) fields ≡ None
    → place_bind once late (One (side_from f s)) fields ≡ None
one_stays once seen moment f late s fields h e = ap place_one (there_by once seen moment late None (side_from f s) fields h ∙ e)

-- The right side of a par whose left side is placed.
pub first_taken : (f : ℕ → Term) (fields : List Field) (t : Taken) → t.place ≡ 0 → side_at f are_none fields (Some t) ≡ side_placed f fields (Some t)
first_taken f fields t e = ap (λ n. if are_none (take n fields) then Some (taken f fields t) else None) e

pub first_missed : (f : ℕ → Term) (fields : List Field) (t : Taken) → t.place < length fields → (t.place == 0) ≡ false → side_at f are_none fields (Some t) ≡ None
first_missed f [] t lt e = absurd (omega arith)
first_missed f (g ∷ fields) t lt e = go t.place refl
  where
    go : (n : ℕ) → t.place ≡ n → (if are_none (take t.place (g ∷ fields)) then Some (taken f (g ∷ fields) t) else None) ≡ None
    go zero h = absurd (both_ways (t.place == 0) e (eq-eqb t.place 0 h))
    go (suc n) h = ap (λ m. if are_none (take m (g ∷ fields)) then Some (taken f (g ∷ fields) t) else None) h

drop_two : {A : Type 0} (xs : List A) (n : ℕ) → drop 1 (drop n xs) ≡ drop (suc n) xs
drop_two [] zero = refl
drop_two [] (suc n) = refl
drop_two (x ∷ xs) zero = refl
drop_two (x ∷ xs) (suc n) = drop_two xs n

pub both_placed : (once : Variable → Bool) (f : ℕ → Term) (fork : Bool) (r : BoundSide) (fields : List Field) (t v : Taken) (u : ℕ) → u ≡ t.place + 2 → v.place ≡ 0
    → place_side once are_none (side_from f r) (drop (suc t.place) fields) ≡ side_placed f (drop (suc t.place) fields) (Some v)
    → place_too fork (side_from f r) (taken f fields t) (place_side once are_none (side_from f r) (drop (suc t.place) fields))
    ≡ placed_at f fields (record { before = t.place; binding = b.Par fork (o.One t.side) (o.One v.side); first = t.side.variable; second = Some v.side.variable; used = u })
both_placed once f fork r fields t v u eu ev e =
    let two : suc (suc t.place) ≡ u = omega arith in
    ap (place_too fork (side_from f r) (taken f fields t)) e
    ∙ (λ k. record {
      before = take t.place fields;
      bind = Both fork (side_from f (o.One t.side)) (side_from f (o.One v.side));
      standing = t.side.variable ∷ v.side.variable ∷ [];
      left = (ap (λ n. drop (suc n) (drop (suc t.place) fields)) ev ∙ drop_two fields (suc t.place) ∙ ap (λ n. drop n fields) two) k;
    })

pub left_placed : (once : Variable → Bool) (f : ℕ → Term) (fork : Bool) (r : BoundSide) (fields : List Field) (t : Taken) (u : ℕ) → u ≡ t.place + 1
    → place_side once are_none (side_from f r) (drop (suc t.place) fields) ≡ None
    → place_too fork (side_from f r) (taken f fields t) (place_side once are_none (side_from f r) (drop (suc t.place) fields))
    ≡ placed_at f fields (record { before = t.place; binding = b.Par fork (o.One t.side) r; first = t.side.variable; second = None; used = u })
left_placed once f fork r fields t u eu e =
    ap (place_too fork (side_from f r) (taken f fields t)) e
    ∙ (let same : suc t.place ≡ u = omega arith in λ k. record { before = take t.place fields; bind = Both fork (side_from f (o.One t.side)) (side_from f r); standing = t.side.variable ∷ []; left = drop (same k) fields })

-- A par.
pub par_left : (once : Variable → Bool) (seen : Seen) (moment : ℕ) (f : ℕ → Term) (late : List Variable) (fork : Bool) (l r : BoundSide) (fields : List Field) (t : Taken) (s : Spot) → AreLate seen moment late
    → place_side once (late_test seen moment (Some r)) (side_from f l) fields ≡ side_placed f fields (Some t)
    → place_too fork (side_from f r) (taken f fields t) (place_side once are_none (side_from f r) (drop (suc t.place) fields)) ≡ placed_at f fields s
    → place_bind once late (Both fork (side_from f l) (side_from f r)) fields ≡ bind_placed f fields (Some s)
par_left once seen moment f late fork l r fields t s h e p =
    ap (place_both once late fork (side_from f l) (side_from f r) fields) (there_beside once seen moment f late r (side_from f l) fields h ∙ e)
    ∙ (λ k. Some (p k))

pub par_right : (once : Variable → Bool) (seen : Seen) (moment : ℕ) (f : ℕ → Term) (late : List Variable) (fork : Bool) (l r : BoundSide) (fields : List Field) (s : Option Spot) → AreLate seen moment late
    → place_side once (late_test seen moment (Some r)) (side_from f l) fields ≡ None
    → place_right fork (side_from f l) (place_side once (are_there (variables_of (side_from f l) ++ late)) (side_from f r) fields) ≡ bind_placed f fields s
    → place_bind once late (Both fork (side_from f l) (side_from f r)) fields ≡ bind_placed f fields s
par_right once seen moment f late fork l r fields s h e p =
    ap (place_both once late fork (side_from f l) (side_from f r) fields) (there_beside once seen moment f late r (side_from f l) fields h ∙ e) ∙ p

-- The right side of a par whose left side stays.
pub right_placed : (once : Variable → Bool) (seen : Seen) (moment : ℕ) (f : ℕ → Term) (late : List Variable) (fork : Bool) (l r : BoundSide) (fields : List Field) (t : Taken) (u : ℕ) → AreLate seen moment late → u ≡ t.place + 1
    → place_side once (late_test seen moment (Some l)) (side_from f r) fields ≡ side_placed f fields (Some t)
    → place_right fork (side_from f l) (place_side once (are_there (variables_of (side_from f l) ++ late)) (side_from f r) fields)
    ≡ bind_placed f fields (Some (record { before = t.place; binding = b.Par fork l (o.One t.side); first = t.side.variable; second = None; used = u }))
right_placed once seen moment f late fork l r fields t u h eu e =
    ap (place_right fork (side_from f l)) (there_beside once seen moment f late l (side_from f r) fields h ∙ e)
    ∙ (let same : suc t.place ≡ u = omega arith in λ k. Some (record { before = take t.place fields; bind = Both fork (side_from f l) (side_from f (o.One t.side)); standing = t.side.variable ∷ []; left = drop (same k) fields }))

pub right_stays : (once : Variable → Bool) (seen : Seen) (moment : ℕ) (f : ℕ → Term) (late : List Variable) (fork : Bool) (l r : BoundSide) (fields : List Field) → AreLate seen moment late
    → place_side once (late_test seen moment (Some l)) (side_from f r) fields ≡ None
    → place_right fork (side_from f l) (place_side once (are_there (variables_of (side_from f l) ++ late)) (side_from f r) fields) ≡ None
right_stays once seen moment f late fork l r fields h e = ap (place_right fork (side_from f l)) (there_beside once seen moment f late l (side_from f r) fields h ∙ e)
