-- Items that are added at an end, in turn.
use Rattle.std.proofs.Common.{◌≡◌, ◌∙◌, refl, ℕ, zero, suc, List, [], ◌∷◌, ◌++◌, length, take, Option, Some, None, IfSome, Result, Ok, Err, OnOk, OnErr, subst, sym, ap, append_assoc, codes}
use Rattle.std.proofs.lemmas.List.{append-nil}
use Rattle.std.proofs.Math.Seq.{take-length}
use Rattle.gib_edge.specs.Causes.{HasCause, Appends, AppendsPart}
use Rattle.std.specs.Option.{option_map_or}
use Rattle.gib_edge.specs.Views.{Call, WriteOf, SinkView}
use Rattle.gib_words.specs.Plan.{Plan}
use Rattle.gib_words.specs.Words.{asked}
use Rattle.gib_app.specs.Calls.{write_calls, calls_of, calls_asked}
use Rattle.gib_app.specs.Lines.{IsPut, line}

-- the front of a list is one of a longer list
front_of : {X : Type 0} (n : ℕ) (xs ys : List X) → (m : ℕ) × (take n xs ≡ take m (xs ++ ys))
front_of zero xs ys = (0, refl)
front_of (suc n) [] ys = (0, refl)
front_of (suc n) (x ∷ xs) ys = let r = front_of n xs ys in (suc r.0, ap (λ zs. x ∷ zs) r.1)

-- a list with a front of what follows is a front of both
front_after : {X : Type 0} (xs : List X) (n : ℕ) (ys : List X) → (m : ℕ) × (xs ++ take n ys ≡ take m (xs ++ ys))
front_after [] n ys = (n, refl)
front_after (x ∷ xs) n ys = let r = front_after xs n ys in (suc r.0, ap (λ zs. x ∷ zs) r.1)

pub added_none : {X : Type 0} (o : Option (List X)) → Appends o o []
added_none None = tt {0}
added_none (Some l) = ap Some (sym (append-nil l))

pub added_some : {X : Type 0} (o : Option (List X)) (xs : List X) → AppendsPart o o xs
added_some None xs = tt {0}
added_some (Some l) xs = (0, ap Some (sym (append-nil l)))

pub added_whole : {X : Type 0} (a b : Option (List X)) (xs : List X) → Appends a b xs → AppendsPart a b xs
added_whole None b xs h = tt {0}
added_whole (Some l) b xs h = (length xs, h ∙ ap (λ ys. Some (l ++ ys)) (sym (take-length xs)))

pub added_two : {X : Type 0} (a b c : Option (List X)) (xs ys : List X) → Appends a b xs → Appends b c ys → Appends a c (xs ++ ys)
added_two {X} None b c xs ys h k = tt {0}
added_two {X} (Some l) b c xs ys h k =
    let P : Option (List X) → Type 0 = λ o. IfSome o (λ before. c ≡ Some (before ++ ys)) in
    subst P h k ∙ ap Some (append_assoc l xs ys)

pub added_front : {X : Type 0} (a b : Option (List X)) (xs ys : List X) → AppendsPart a b xs → AppendsPart a b (xs ++ ys)
added_front None b xs ys h = tt {0}
added_front (Some l) b xs ys h = let m = front_of h.0 xs ys in (m.0, h.1 ∙ ap (λ zs. Some (l ++ zs)) m.1)

pub added_part : {X : Type 0} (a b c : Option (List X)) (xs ys : List X) → Appends a b xs → AppendsPart b c ys → AppendsPart a c (xs ++ ys)
added_part {X} None b c xs ys h k = tt {0}
added_part {X} (Some l) b c xs ys h k =
    let P : Option (List X) → Type 0 = λ o. IfSome o (λ before. (n : ℕ) × (c ≡ Some (before ++ take n ys))) in
    let q = subst P h k in
    let m = front_after xs q.0 ys in
    (m.0, q.1 ∙ ap Some (append_assoc l xs (take q.0 ys) ∙ ap (λ zs. l ++ zs) m.1))

pub not_empty : (xs : List ℕ) (y : ℕ) → xs ++ y ∷ [] ≡ [] → ⊥
not_empty [] y e = cc
not_empty (x ∷ xs) y e = cc

some_said : (said : List ℕ) → line said ≡ [] → ⊥
some_said said e = not_empty (codes "gib: " ++ said) 10 e

pub is_put : {T E : Type 0} (r : Result T E) (before now : SinkView) (said : List ℕ) → OnOk r (Appends before.taken now.taken (line said)) → OnErr r (AppendsPart before.taken now.taken (line said)) →
    HasCause before.faults now.faults r → IsPut before now (line said)
is_put (Ok x) before now said ok part cause = record { later = cause.later; none = λ e. absurd (some_said said e); whole = λ quiet. ok; part = added_whole before.taken now.taken (line said) ok }
is_put (Err e) before now said ok part cause = record { later = cause.later; none = λ e. absurd (some_said said e); whole = λ quiet. absurd (quiet cause.failed); part = part }

-- The calls of a request, by its parts

pub write_none : (a : Option (List Call)) (o : Option (List ℕ)) → AppendsPart a a (write_calls o)
write_none a o = added_some a (write_calls o)

pub write_whole : (a b : Option (List Call)) (o : Option (List ℕ)) (name : List ℕ) → o ≡ Some name → Appends a b (WriteOf name ∷ []) → AppendsPart a b (write_calls o)
write_whole a b o name e h = let P : Option (List ℕ) → Type 0 = λ x. AppendsPart a b (write_calls x) in subst P (sym e) (added_whole a b (WriteOf name ∷ []) h)

pub write_part : (a b : Option (List Call)) (o : Option (List ℕ)) (name : List ℕ) → o ≡ Some name → AppendsPart a b (WriteOf name ∷ []) → AppendsPart a b (write_calls o)
write_part a b o name e h = let P : Option (List ℕ) → Type 0 = λ x. AppendsPart a b (write_calls x) in subst P (sym e) h

pub calls_are_asked : (words : List (List ℕ)) (r : Plan) (a b : Option (List Call)) → asked words ≡ Some r → AppendsPart a b (calls_of r) → AppendsPart a b (calls_asked words)
calls_are_asked words r a b e h = let P : Option Plan → Type 0 = λ o. AppendsPart a b (option_map_or calls_of o []) in subst P (sym e) h
