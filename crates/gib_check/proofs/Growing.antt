-- More types: numbers stand for what they stood for.
use Rattle.std.proofs.Common.{◌≡◌, ℕ, zero, suc, ◌+◌, ◌<◌, ◌≤◌, List, [], ◌∷◌, ◌++◌, length, take, drop, refl, sym, ap, ap₂, ◌∙◌, subst, arith, append_assoc}
use Rattle.std.proofs.lemmas.List.{append-nil, length-append}
use Rattle.std.proofs.Math.Seq.{drop-append_seam, take-length}
use Rattle.gib_types.specs.declared.types.TypeId.{TypeId}
use Rattle.gib_types.specs.declared.types.TypeNode.{TypeNode}
use Rattle.gib_types.specs.Form.{Form, Forms, NoForm, MoreForms, WholeForm}
use Rattle.gib_types.specs.Types.{form_at, forms_at, forms_of, forms_onto, form_from, AreBelow}
use Rattle.gib_types.proofs.Once.{forms_more, length_last}
use Rattle.gib_syntax.specs.Results.{Results, One, Several}
use Rattle.gib_syntax.specs.GenericTyping.{FormScope}
use Rattle.gib_check.specs.declared.rules.Part.{Part}
use Rattle.gib_check.specs.declared.rules.ResultIds.{ResultIds}
use Rattle.gib_check.specs.declared.rules.ResultIds.TheVariants as ids
use Rattle.gib_check.specs.Faults.{FormPart}
use Rattle.gib_check.specs.Judging.{Judging, IdScope, IsScopeBelow, scope_forms, forms, Grows, Keeps, Advances, Met, listed, run_of, forms_given, AreMet, part_in, parts_in, ArePartsMet}

many_onto : (fs : List Form) (ns : List TypeNode) → length (forms_onto fs ns) ≡ length fs + length ns
many_onto fs [] = omega arith
many_onto fs (n ∷ ns) = let e = many_onto (fs ++ form_from fs n ∷ []) ns in let f = length_last fs (form_from fs n) in omega (arith, e, f)

pub many : (ns : List TypeNode) → length (forms_of ns) ≡ length ns
many ns = many_onto [] ns ∙ (omega arith)

pub grows_none : (ns : List TypeNode) → Grows ns ns
grows_none ns = record { grows = record { more = []; is = sym (nil (forms_of ns)) }; longer = omega arith } where
  nil : (xs : List Form) → xs ++ [] ≡ xs
  nil [] = refl
  nil (x ∷ xs) = ap (λ l. x ∷ l) (nil xs)

pub grows_on : (old mid new : List TypeNode) → Grows old mid → Grows mid new → Grows old new
grows_on old mid new g h = record {
  grows = record { more = g.grows.more ++ h.grows.more; is = h.grows.is ∙ ap (λ l. l ++ h.grows.more) g.grows.is ∙ assoc (forms_of old) g.grows.more h.grows.more };
  longer = (let k = g.longer in let l = h.longer in omega (arith, k, l));
} where
  assoc : (xs ys zs : List Form) → (xs ++ ys) ++ zs ≡ xs ++ (ys ++ zs)
  assoc [] ys zs = refl
  assoc (x ∷ xs) ys zs = ap (λ l. x ∷ l) (assoc xs ys zs)

pub forms_grow : (old new : List TypeNode) (is : List TypeId) → Grows old new → AreBelow (length old) is → forms_at (forms_of new) is ≡ forms_at (forms_of old) is
forms_grow old new is g h =
    ap (λ fs. forms_at fs is) g.grows.is ∙ forms_more (forms_of old) g.grows.more (length old) is h (let e = many old in omega (arith, e))

first_of : Forms → Form
first_of NoForm = WholeForm
first_of (MoreForms f fs) = f

pub form_grows : (old new : List TypeNode) (i : ℕ) → Grows old new → i < length old → form_at (forms_of new) i ≡ form_at (forms_of old) i
unfolding first_of
form_grows old new i g l = ap first_of (forms_grow old new (record { 0 = i } ∷ []) g (l, tt))

pub listed_grow : (old new : List TypeNode) (is : List TypeId) → Grows old new → AreBelow (length old) is → listed (forms_of new) is ≡ listed (forms_of old) is
listed_grow old new [] g h = refl
listed_grow old new (i ∷ is) g h = ap₂ (λ (f : Form) (fs : List Form). f ∷ fs) (form_grows old new i.0 g h.0) (listed_grow old new is g h.1)

pub below_more : (b c : ℕ) (is : List TypeId) → b ≤ c → AreBelow b is → AreBelow c is
below_more b c [] l h = tt
below_more b c (i ∷ is) l h = ((let k = h.0 in omega (arith, k, l)), below_more b c is l h.1)

pub scope_more : (b c : ℕ) (scope : IdScope) → b ≤ c → IsScopeBelow b scope → IsScopeBelow c scope
scope_more b c [] l h = tt
scope_more b c (v ∷ scope) l h = ((let k = h.0 in omega (arith, k, l)), scope_more b c scope l h.1)

pub scope_grows : (old new : List TypeNode) (scope : IdScope) → Grows old new → IsScopeBelow (length old) scope → scope_forms (forms_of new) scope ≡ scope_forms (forms_of old) scope
scope_grows old new [] g h = refl
scope_grows old new (v ∷ scope) g h = ap₂ (λ (f : Form) (fs : FormScope). (v.0, f) ∷ fs) (form_grows old new v.1.0 g h.0) (scope_grows old new scope g h.1)

-- More was met, step by step.
pub advances_none : (s : Judging) → Advances s s
advances_none s = record { types = grows_none s.types; more = []; parts = sym (append-nil s.parts) }

pub advances_on : (old mid new : Judging) → Advances old mid → Advances mid new → Advances old new
advances_on old mid new g h = record {
  types = grows_on old.types mid.types new.types g.types h.types;
  more = g.more ++ h.more;
  parts = h.parts ∙ ap (λ l. l ++ h.more) g.parts ∙ append_assoc old.parts g.more h.more;
}

pub keeps_advance : (old new : Judging) → Keeps old new → Advances old new
keeps_advance old new k = record { types = k.grows; more = []; parts = k.parts ∙ sym (append-nil old.parts) }

pub same_advance : (old new : Judging) → new.types ≡ old.types → new.parts ≡ old.parts → Advances old new
same_advance old new e p = record { types = subst (Grows old.types) (sym e) (grows_none old.types); more = []; parts = p ∙ sym (append-nil old.parts) }

-- A run of parts stays.
pub take_more : (n : ℕ) (xs ys : List TypeId) → n ≤ length xs → take n (xs ++ ys) ≡ take n xs
take_more zero xs ys l = refl
take_more (suc n) [] ys l = absurd (omega (arith, l))
take_more (suc n) (x ∷ xs) ys l = ap (λ z. x ∷ z) (take_more n xs ys (omega (arith, l)))

pub run_more : (start count : ℕ) (xs ys : List TypeId) → start + count ≤ length xs → take count (drop start (xs ++ ys)) ≡ take count (drop start xs)
run_more zero count xs ys l = take_more count xs ys (omega (arith, l))
run_more (suc start) count [] ys l = absurd (omega (arith, l))
run_more (suc start) count (x ∷ xs) ys l = run_more start count xs ys (omega (arith, l))

run_stays : (old new : Judging) (start count : ℕ) → Advances old new → start + count ≤ length old.parts → run_of new start count ≡ run_of old start count
run_stays old new start count g l = ap (λ (ps : List TypeId). take count (drop start ps)) g.parts ∙ run_more start count old.parts g.more l

-- What an expression gives stays.
pub given_grows : (old new : Judging) (r : ResultIds) → Advances old new → AreMet old r → forms_given new r ≡ forms_given old r
given_grows old new (ids.One id) g h = ap One (form_grows old.types new.types id.0 g.types h)
given_grows old new (ids.Several start count) g h =
    ap Several (ap (listed (forms new)) (run_stays old new start count g h.0) ∙ listed_grow old.types new.types (run_of old start count) g.types h.1)

pub met_stays : (old new : Judging) (r : ResultIds) → Advances old new → AreMet old r → AreMet new r
met_stays old new (ids.One id) g h = let l = g.types.longer in omega (arith, h, l)
met_stays old new (ids.Several start count) g h = (
  (let k = h.0 in let e = ap (λ (l : List TypeId). length l) g.parts in let f = length-append old.parts g.more in omega (arith, k, e, f)),
  subst (AreBelow (length new.types)) (sym (run_stays old new start count g h.0)) (below_more (length old.types) (length new.types) (run_of old start count) g.types.longer h.1),
)

pub parts_stay : (old new : Judging) (parts : List Part) → Advances old new → ArePartsMet old parts → ArePartsMet new parts
parts_stay old new [] g h = tt
parts_stay old new (part ∷ parts) g h = (met_stays old new part.ty g h.0, parts_stay old new parts g h.1)

pub parts_grow : (old new : Judging) (parts : List Part) → Advances old new → ArePartsMet old parts → parts_in new parts ≡ parts_in old parts
parts_grow old new [] g h = refl
parts_grow old new (part ∷ parts) g h =
    ap₂ (λ (r : Results Form) (ps : List FormPart). record { ty = r; place = part.place } ∷ ps) (given_grows old new part.ty g h.0) (parts_grow old new parts g h.1)

pub parts_push : (s : Judging) (parts : List Part) (part : Part) → parts_in s (parts ++ part ∷ []) ≡ parts_in s parts ++ part_in s part ∷ []
parts_push s [] part = refl
parts_push s (p ∷ parts) part = ap (λ l. part_in s p ∷ l) (parts_push s parts part)

pub parts_met_push : (s : Judging) (parts : List Part) (part : Part) → ArePartsMet s parts → AreMet s part.ty → ArePartsMet s (parts ++ part ∷ [])
parts_met_push s [] part h l = (l, tt)
parts_met_push s (p ∷ parts) part h l = (h.0, parts_met_push s parts part h.1 l)

-- A run that was put.
pub run_put : (old new : Judging) (is : List TypeId) (start count : ℕ) → start ≡ length old.parts → count ≡ length is → new.parts ≡ old.parts ++ is → run_of new start count ≡ is
run_put old new is start count s c e =
    ap₂ (λ (a b : ℕ). take b (drop a new.parts)) s c
    ∙ ap (λ (ps : List TypeId). take (length is) (drop (length old.parts) ps)) e
    ∙ ap (take (length is)) (drop-append_seam old.parts is) ∙ take-length is

pub given_put : (old new : Judging) (is : List TypeId) (start count : ℕ) → start ≡ length old.parts → count ≡ length is → new.parts ≡ old.parts ++ is → new.types ≡ old.types → forms_given new (ids.Several start count) ≡ Several (listed (forms old) is)
given_put old new is start count s c e t = ap Several (ap (listed (forms new)) (run_put old new is start count s c e) ∙ ap (λ ns. listed (forms_of ns) is) t)

pub parts_put : (old new : Judging) (is : List TypeId) (start count : ℕ) → start ≡ length old.parts → count ≡ length is → new.parts ≡ old.parts ++ is → new.types ≡ old.types → AreBelow (length old.types) is → Met old new (ids.Several start count)
parts_put old new is start count s c e t h = record {
  advances = record { types = subst (Grows old.types) (sym t) (grows_none old.types); more = is; parts = e };
  here = (
    (let l = ap (λ (ps : List TypeId). length ps) e in let f = length-append old.parts is in omega (arith, s, c, l, f)),
    subst (AreBelow (length new.types)) (sym (run_put old new is start count s c e)) (subst (λ ns. AreBelow (length ns) is) (sym t) h),
  );
}
