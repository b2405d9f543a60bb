-- The walk over expressions.
use Rattle.std.proofs.Common.{◌≡◌, ℕ, ◌-◌, ◌<◌, ◌≤◌, List, [], ◌∷◌, ◌++◌, length, take, drop, get_or, true, false, Some, refl, sym, ap, ◌∙◌, arith, subst, append-nil}
use Rattle.std.proofs.Math.Seq.{take-length}
use Rattle.std.specs.List.{AllByRecursion}
use Rattle.gib_base.specs.declared.Span.{Span}
use Rattle.gib_types.specs.Form.{Meant}
use Rattle.gib_syntax.specs.declared.exprs.ExprId.{ExprId}
use Rattle.gib_syntax.specs.declared.exprs.Arm.{Arm}
use Rattle.gib_syntax.specs.declared.tree.Ident.{Ident}
use Rattle.gib_syntax.specs.GenericArena.{ArmsBelow, IsArmBelow, arguments_from, arms_from, case_from, layer, Opens, tree_of}
use Rattle.gib_syntax.specs.GenericTree.{GenericExpression, GenericCase, GenericCall, GenericMake, place_named}
use Rattle.gib_syntax.specs.GenericParts.{GenericParts}
use Rattle.gib_mono.specs.declared.search.Search.{Search}
use Rattle.gib_mono.specs.Walk.{Ask, asks, all_asks, arm_asks, writtens_asks}
use Rattle.gib_mono.specs.Sources.{globals_in, asks_in}
use Rattle.gib_mono.specs.Searching.{Asks}
use Rattle.gib_syntax.specs.declared.generic.GenericNode.{GenericNode}
use Rattle.gib_syntax.specs.declared.written.Run.{Run}
use Rattle.gib_syntax.specs.declared.written.Word.{Word}
use Rattle.gib_syntax.specs.Declarations.{number_of}
use Rattle.gib_syntax.specs.Forms.{formed_all}
use Rattle.gib_syntax.specs.Words.{run_words, stack_of, all_types, types_in}
use Rattle.gib_mono.specs.Copying.{owner_named}
use Rattle.gib_mono.proofs.Seeking.{AskedSoFar, asked_start, asked_next, asked_end, asks_same, asks_both}

-- what is left behind the first item
pub rest_is : {A : Type 0} (x : A) (xs : List A) → take (length (x ∷ xs) - 1) (drop 1 (x ∷ xs)) ≡ xs
rest_is x xs = let e : length (x ∷ xs) - 1 ≡ length xs = omega arith in ap (λ n. take n xs) e ∙ take-length xs

-- a list that is not empty
pub split_is : {A : Type 0} (xs : List A) (d : A) → 1 ≤ length xs → xs ≡ get_or xs 0 d ∷ take (length xs - 1) (drop 1 xs)
split_is [] d l = absurd (omega (arith, l))
split_is (x ∷ xs) d l = ap (λ l. x ∷ l) (sym (rest_is x xs))

pub empty_is : {A : Type 0} (xs : List A) → length xs < 1 → xs ≡ []
empty_is [] l = refl
empty_is (x ∷ xs) l = absurd (omega (arith, l))

abbrev pub rest_asks : GenericParts → List ExprId → Meant → List Ask
rest_asks p ids n = all_asks (globals_in p).rows n (arguments_from (tree_of p.exprs) ids)

-- arguments

pub record ArgumentsAsked (p : GenericParts) (id : ℕ) (old now : Search) (ids rest : List ExprId) : Type 0 where
  pub asked : AskedSoFar (globals_in p) old now (rest_asks p ids) (rest_asks p rest)
  pub below : AllByRecursion (λ (a : ExprId). a.0 < id) rest

pub arguments_start : (p : GenericParts) (id : ℕ) (old : Search) (ids : List ExprId) → AllByRecursion (λ (a : ExprId). a.0 < id) ids → ArgumentsAsked p id old old ids ids
arguments_start p id old ids h = record { asked = asked_start (globals_in p) old (rest_asks p ids); below = h }

pub arguments_next : (p : GenericParts) (id : ℕ) (old now new : Search) (ids rest after : List ExprId) (a : ExprId) → rest ≡ a ∷ after → ArgumentsAsked p id old now ids rest → Asks (globals_in p) now new (asks_in p a.0) → ArgumentsAsked p id old new ids after
arguments_next p id old now new ids rest after a e h one = record {
  asked = asked_next (globals_in p) old now new (rest_asks p ids) (rest_asks p rest) (rest_asks p after) (asks_in p a.0) h.asked (λ n. ap (λ l. rest_asks p l n) e) one;
  below = (subst (AllByRecursion (λ (b : ExprId). b.0 < id)) e h.below).1;
}

pub arguments_end : (p : GenericParts) (id : ℕ) (old now : Search) (ids rest : List ExprId) → rest ≡ [] → ArgumentsAsked p id old now ids rest → Asks (globals_in p) old now (rest_asks p ids)
arguments_end p id old now ids rest e h = asked_end (globals_in p) old now (rest_asks p ids) (rest_asks p rest) h.asked (λ n. ap (λ l. rest_asks p l n) e)

-- arms

abbrev pub each_arm : GenericParts → List Arm → Meant → List Ask
each_arm p [] n = []
each_arm p (arm ∷ arms) n = asks_in p arm.body.0 n ++ each_arm p arms n

arms_are : (p : GenericParts) (arm : Arm) (arms : List Arm) (n : Meant) → each_arm p (arm ∷ arms) n ≡ arm_asks (globals_in p).rows n (arms_from (tree_of p.exprs) arm arms)
arms_are p arm [] n = append-nil (asks_in p arm.body.0 n)
arms_are p arm (next ∷ arms) n = ap (λ l. asks_in p arm.body.0 n ++ l) (arms_are p next arms n)

pub record ArmsAsked (p : GenericParts) (id : ℕ) (old now : Search) (arms rest : List Arm) : Type 0 where
  pub asked : AskedSoFar (globals_in p) old now (each_arm p arms) (each_arm p rest)
  pub below : AllByRecursion (IsArmBelow id) rest

all_below : (id : ℕ) (arms : List Arm) → ArmsBelow arms id → AllByRecursion (IsArmBelow id) arms
all_below id [] h = absurd h
all_below id (arm ∷ arms) h = h

pub arms_start : (p : GenericParts) (id : ℕ) (old : Search) (arms : List Arm) → ArmsBelow arms id → ArmsAsked p id old old arms arms
arms_start p id old arms h = record { asked = asked_start (globals_in p) old (each_arm p arms); below = all_below id arms h }

pub arms_next : (p : GenericParts) (id : ℕ) (old now new : Search) (arms rest after : List Arm) (a : Arm) → rest ≡ a ∷ after → ArmsAsked p id old now arms rest → Asks (globals_in p) now new (asks_in p a.body.0) → ArmsAsked p id old new arms after
arms_next p id old now new arms rest after a e h one = record {
  asked = asked_next (globals_in p) old now new (each_arm p arms) (each_arm p rest) (each_arm p after) (asks_in p a.body.0) h.asked (λ n. ap (λ l. each_arm p l n) e) one;
  below = (subst (AllByRecursion (IsArmBelow id)) e h.below).1;
}

pub arms_end : (p : GenericParts) (id : ℕ) (old now : Search) (arms rest : List Arm) (span : Span) (x : Ident) → ArmsBelow arms id → rest ≡ [] → ArmsAsked p id old now arms rest
    → Asks (globals_in p) old now (λ n. asks (globals_in p).rows n (case_from (tree_of p.exprs) arms (GenericCase span x)))
arms_end p id old now [] rest span x h e so_far = absurd h
arms_end p id old now (arm ∷ arms) rest span x h e so_far =
    asks_same (globals_in p) old now (each_arm p (arm ∷ arms)) _ (arms_are p arm arms) (asked_end (globals_in p) old now (each_arm p (arm ∷ arms)) (each_arm p rest) so_far.asked (λ n. ap (λ l. each_arm p l n) e))

-- calls and constructors

pub called_asked : (p : GenericParts) (old mid new : Search) (f : Ident) (run : Run) (words : List Word) (ids : List ExprId) → words ≡ run_words p.exprs.words run
    → Asks (globals_in p) old mid (λ n. record { function = true; name = number_of f; types = formed_all n (all_types (stack_of words)); span = f.span } ∷ writtens_asks n (all_types (stack_of words))) → Asks (globals_in p) mid new (rest_asks p ids)
    → Asks (globals_in p) old new (λ n. asks (globals_in p).rows n (GenericCall f (types_in p.exprs.words run) (arguments_from (tree_of p.exprs) ids)))
called_asked p old mid new f run words ids e a b =
    asks_both (globals_in p) old mid new (λ n. record { function = true; name = number_of f; types = formed_all n (types_in p.exprs.words run); span = f.span } ∷ writtens_asks n (types_in p.exprs.words run)) (rest_asks p ids)
    (subst (λ ws. Asks (globals_in p) old mid (λ n. record { function = true; name = number_of f; types = formed_all n (all_types (stack_of ws)); span = f.span } ∷ writtens_asks n (all_types (stack_of ws)))) e a) b

pub made_asked : (p : GenericParts) (old mid new : Search) (k : Ident) (run : Run) (words : List Word) (ids : List ExprId) → words ≡ run_words p.exprs.words run
    → Asks (globals_in p) old mid (λ n. record { function = false; name = owner_named (globals_in p).rows (place_named (globals_in p).rows (number_of k)); types = formed_all n (all_types (stack_of words)); span = k.span } ∷ writtens_asks n (all_types (stack_of words)))
    → Asks (globals_in p) mid new (rest_asks p ids) → Asks (globals_in p) old new (λ n. asks (globals_in p).rows n (GenericMake k (types_in p.exprs.words run) (arguments_from (tree_of p.exprs) ids)))
made_asked p old mid new k run words ids e a b =
    asks_both (globals_in p) old mid new (λ n. record { function = false; name = owner_named (globals_in p).rows (place_named (globals_in p).rows (number_of k)); types = formed_all n (types_in p.exprs.words run); span = k.span } ∷ writtens_asks n (types_in p.exprs.words run)) (rest_asks p ids)
    (subst (λ ws. Asks (globals_in p) old mid (λ n. record { function = false; name = owner_named (globals_in p).rows (place_named (globals_in p).rows (number_of k)); types = formed_all n (all_types (stack_of ws)); span = k.span } ∷ writtens_asks n (all_types (stack_of ws)))) e a) b

-- an expression asks what its node asks
pub opened_asks : (p : GenericParts) (old new : Search) (id : ℕ) (e : GenericExpression) → tree_of p.exprs id ≡ e → Asks (globals_in p) old new (λ n. asks (globals_in p).rows n e) → Asks (globals_in p) old new (asks_in p id)
opened_asks p old new id e h a = subst (λ t. Asks (globals_in p) old new (λ n. asks (globals_in p).rows n t)) (sym h) a

pub opened_node : (p : GenericParts) (id : ℕ) (node other : GenericNode) → Opens p.exprs id node → node ≡ other → tree_of p.exprs id ≡ layer p.exprs.words (tree_of p.exprs) (Some other)
opened_node p id node other h e = h.0 ∙ ap (λ z. layer p.exprs.words (tree_of p.exprs) (Some z)) e
