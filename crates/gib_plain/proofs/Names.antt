-- What names and parts of a program are.
use Rattle.std.proofs.Common.{◌≡◌, ℕ, zero, suc, ◌+◌, ◌<◌, ◌≤◌, inl, inr, Bool, cond, List, [], ◌∷◌, Option, Some, map, length, drop, take, get_or, refl, sym, ap, subst, ◌∙◌, arith}
use Rattle.std.specs.Prelude.{slice_get, MatchOption}
use Rattle.std.proofs.lemmas.Bool.{eq-eqb}
use Rattle.std.proofs.lemmas.Bool.Decides.{eqb_tells}
use Rattle.std.proofs.lemmas.List.{take_more, drop-append-le, length-take-le}
use Rattle.gib_types.specs.declared.table.Ty.{Ty}
use Rattle.gib_types.specs.Tree.{Datum}
use Rattle.gib_syntax.specs.declared.exprs.ExprId.{ExprId}
use Rattle.gib_syntax.specs.declared.exprs.Node.{Node}
use Rattle.gib_syntax.specs.Tree.{Expression}
use Rattle.gib_syntax.specs.Arena.{arguments_from, layer, tree_of}
use Rattle.gib_syntax.specs.Meaning.{Environment, value_in}
use Rattle.gib_value.specs.Heap.{value_of}
use Rattle.gib_plain.specs.declared.stack.Binding.{Binding}
use Rattle.gib_plain.specs.Stacks.{env_of}
use Rattle.gib_plain.specs.Running.{expressions_of}
use Rattle.gib_plain.specs.Turns.{in_turn}
use Rattle.gib_plain.proofs.InTurn.{map_turn}
use Rattle.gib_plain.proofs.Stacks.{env_over-append}

-- ---- parts

pub args-at : (f : ℕ → Expression) (is : List ExprId) (k : ℕ) (d : ExprId) → k < length is → drop k (expressions_of (arguments_from f is)) ≡ f ((get_or is k d).0) ∷ drop (k + 1) (expressions_of (arguments_from f is))
args-at f [] k d lt = absurd (omega arith)
args-at f (i ∷ is) zero d lt = ap (λ n. f i.0 ∷ drop n (expressions_of (arguments_from f (i ∷ is)))) (let e : suc zero ≡ zero + 1 = omega arith in e)
args-at f (i ∷ is) (suc k) d lt =
    args-at f is k d (omega arith)
    ∙ ap (λ n. f ((get_or is k d).0) ∷ drop n (expressions_of (arguments_from f (i ∷ is)))) (let e : suc (k + 1) ≡ suc k + 1 = omega arith in e)

pub args-past : (f : ℕ → Expression) (is : List ExprId) (k : ℕ) → length is ≤ k → drop k (expressions_of (arguments_from f is)) ≡ []
args-past f [] zero le = refl
args-past f [] (suc k) le = refl
args-past f (i ∷ is) zero le = absurd (omega arith)
args-past f (i ∷ is) (suc k) le = args-past f is k (omega arith)

args_map : (f : ℕ → Expression) (is : List ExprId) → expressions_of (arguments_from f is) ≡ map (λ (i : ExprId). f i.0) is
args_map f [] = refl
args_map f (i ∷ is) = ap (λ es. f i.0 ∷ es) (args_map f is)

found_here : {X : Type 0} (g : X → Expression) (xs : List X) (k : ℕ) → MatchOption (slice_get xs k) (drop k (map g xs) ≡ []) (λ x. drop k (map g xs) ≡ g x ∷ drop (k + 1) (map g xs))
found_here g [] zero = refl
found_here g [] (suc k) = refl
found_here g (x ∷ xs) zero = ap (λ n. g x ∷ drop n (map g (x ∷ xs))) (let e : suc zero ≡ zero + 1 = omega arith in e)
found_here g (x ∷ xs) (suc k) =
    subst (λ n. MatchOption (slice_get xs k) (drop k (map g xs) ≡ []) (λ y. drop k (map g xs) ≡ g y ∷ drop n (map g (x ∷ xs)))) (let e : suc (k + 1) ≡ suc k + 1 = omega arith in e) (found_here g xs k)

-- the argument that comes at a place in turn
pub found_turn : (f : ℕ → Expression) (ts : List Ty) (is : List ExprId) (k : ℕ) (r : Option ExprId) → r ≡ slice_get (in_turn ts is) k → MatchOption r (drop k (in_turn ts (expressions_of (arguments_from f is))) ≡ []) (λ i. drop k (in_turn ts (expressions_of (arguments_from f is))) ≡ f i.0 ∷ drop (k + 1) (in_turn ts (expressions_of (arguments_from f is))))
found_turn f ts is k r e =
    let g : ExprId → Expression = λ i. f i.0 in
    let same : in_turn ts (expressions_of (arguments_from f is)) ≡ map g (in_turn ts is) = ap (in_turn ts) (args_map f is) ∙ sym (map_turn g ts is) in
    subst (λ es. MatchOption r (drop k es ≡ []) (λ (i : ExprId). drop k es ≡ f i.0 ∷ drop (k + 1) es)) (sym same)
    (subst (λ (o : Option ExprId). MatchOption o (drop k (map g (in_turn ts is)) ≡ []) (λ i. drop k (map g (in_turn ts is)) ≡ g i ∷ drop (k + 1) (map g (in_turn ts is)))) (sym e) (found_here g (in_turn ts is) k))

-- ---- variables

-- the variables up to a place, and the one there
pub newest-at : (heap : List Datum) (vars : List Binding) (base i : ℕ) (d : Binding) → base ≤ i → i < length vars → env_of heap (drop base (take (i + 1) vars)) ≡ (((get_or vars i d).name.0, value_of heap (get_or vars i d).value) ∷ env_of heap (drop base (take i vars)))
newest-at heap vars base i d le lt =
    let b = get_or vars i d in
    ap (λ bs. env_of heap (drop base bs)) (take_more vars i d lt)
    ∙ ap (env_of heap) (drop-append-le base (take i vars) (b ∷ []) (omega (arith, length-take-le i vars (omega arith))))
    ∙ env_over-append heap (drop base (take i vars)) (b ∷ []) []

pub found-newest : (env : Environment) (name : ℕ) (v : Datum) (x : ℕ) → name ≡ x → value_in ((name, v) ∷ env) x ≡ v
found-newest env name v x e = rw (eq-eqb name x e) refl

pub not-newest : (env : Environment) (name : ℕ) (v : Datum) (x : ℕ) → (name ≡ x → ⊥) → value_in ((name, v) ∷ env) x ≡ value_in env x
not-newest env name v x e = elim (eqb_tells name x) [ inl h ↦ absurd (e h.1) | inr h ↦ ap (λ (b : Bool). cond b v (value_in env x)) h.0 ]

-- ---- what a node tells of its tree

pub opened : (nodes ns : List Node) (id : ℕ) (n m : Node) → ns ≡ nodes → tree_of ns id ≡ layer (tree_of ns) (Some n) → n ≡ m → tree_of nodes id ≡ layer (tree_of nodes) (Some m)
opened nodes ns id n m en e em = subst (λ (ks : List Node). tree_of ks id ≡ layer (tree_of ks) (Some m)) en (e ∙ ap (λ (k : Node). layer (tree_of ns) (Some k)) em)
