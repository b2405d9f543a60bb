-- What the walk that lists mentions leaves behind.
use Rattle.std.proofs.Common.{◌≡◌, ℕ, zero, suc, ◌+◌, ◌<◌, ◌≤◌, List, [], ◌∷◌, ◌++◌, map, length, drop, get_or, refl, sym, ap, ◌∙◌, subst, arith}
use Rattle.std.specs.List.{AllByRecursion}
use Rattle.std.proofs.lemmas.List.{append-nil, append_assoc, drop_more, drop_all}
use Rattle.gib_core.specs.declared.node.Binding.{Binding}
use Rattle.gib_core.specs.declared.node.Branch.{Branch}
use Rattle.gib_core.specs.declared.node.Node.{Node}
use Rattle.gib_core.specs.declared.node.TermId.{TermId}
use Rattle.gib_core.specs.declared.atom.Variable.{Variable}
use Rattle.gib_core.specs.Tree.{Term, variables_from, prepend}
use Rattle.gib_core.specs.Arena.{IsBindingBelow, IsLine, term_of, bind_from, binds_from, parts_from, branches_from}
use Rattle.gib_core.specs.declared.mentions.Mention.{Mention}
use Rattle.gib_core.specs.declared.mentions.Mention.TheVariants.{Bound}
use Rattle.gib_core.specs.Walk.{walk_bind, walk_parts, walk_branches}
use Rattle.gib_core.specs.Mentioned.{all_bound, mentions, says, binder, binders_in}

all_at : {A : Type 0} (P : A → Type 0) (xs : List A) (i : ℕ) (d : A) → AllByRecursion P xs → i < length xs → P (get_or xs i d)
all_at P [] i d h lt = absurd (omega arith)
all_at P (x ∷ xs) zero d h lt = h.0
all_at P (x ∷ xs) (suc i) d h lt = all_at P xs i d h.1 (omega arith)

-- What was listed, and what a line says from a binding on, make what the term says.
pub record LineListed (terms : List Node) (id : ℕ) (bindings : List Binding) (i : ℕ) (old now : List Mention) : Type 0 where
  pub within : i ≤ length bindings
  pub below : AllByRecursion (IsBindingBelow id) bindings
  pub listed : (last : ℕ) → IsLine terms id bindings last → now ++ mentions (prepend (binds_from (term_of terms) (drop i bindings)) (term_of terms last)) ≡ old ++ mentions (term_of terms id)

pub listed_start : (terms : List Node) (id last : ℕ) (bindings : List Binding) (old : List Mention) → IsLine terms id bindings last → LineListed terms id bindings 0 old old
listed_start terms id last bindings old l = record { within = omega arith; below = l.below; listed = λ z m. ap (λ t. old ++ mentions t) (sym m.term) }

pub listed_below : (terms : List Node) (id : ℕ) (bindings : List Binding) (i : ℕ) (old now : List Mention) (binding d : Binding) → LineListed terms id bindings i old now → i < length bindings → binding ≡ get_or bindings i d → IsBindingBelow id binding
listed_below terms id bindings i old now binding d h lt e = subst (IsBindingBelow id) (sym e) (all_at (IsBindingBelow id) bindings i d h.below lt)

pub listed_next : (terms : List Node) (id : ℕ) (bindings : List Binding) (i : ℕ) (old now new : List Mention) (binding d : Binding) → LineListed terms id bindings i old now → i < length bindings → binding ≡ get_or bindings i d → new ≡ now ++ walk_bind (◌++◌) [] says (bind_from (term_of terms) binding) → LineListed terms id bindings (i + 1) old new
listed_next terms id bindings i old now new binding d h lt e a =
    let left : drop i bindings ≡ binding ∷ drop (i + 1) bindings = drop_more bindings i d lt ∙ ap (λ (z : Binding). z ∷ drop (i + 1) bindings) (sym e) in
    let own = walk_bind (◌++◌) [] says (bind_from (term_of terms) binding) in
    record {
      within = omega arith;
      below = h.below;
      listed = λ z m.
          let rest = mentions (prepend (binds_from (term_of terms) (drop (i + 1) bindings)) (term_of terms z)) in
          ap (λ l. l ++ rest) a ∙ (append_assoc now own rest ∙ (sym (ap (λ bs. now ++ mentions (prepend (binds_from (term_of terms) bs) (term_of terms z))) left) ∙ h.listed z m));
    }

pub listed_end : (terms : List Node) (id last : ℕ) (bindings : List Binding) (i : ℕ) (old now new : List Mention) → LineListed terms id bindings i old now → length bindings ≤ i → IsLine terms id bindings last → new ≡ now ++ mentions (term_of terms last) → new ≡ old ++ mentions (term_of terms id)
listed_end terms id last bindings i old now new h le l a =
    a ∙ (ap (λ bs. now ++ mentions (prepend (binds_from (term_of terms) bs) (term_of terms last))) (sym (drop_all i bindings le)) ∙ h.listed last l)

-- Items that are listed one after another, each as a mention.
pub items_next : {A : Type 0} (f : A → Mention) (xs : List A) (i : ℕ) (x d : A) (old now new : List Mention) → i < length xs → x ≡ get_or xs i d → now ++ map f (drop i xs) ≡ old ++ map f xs → new ≡ now ++ f x ∷ [] → new ++ map f (drop (i + 1) xs) ≡ old ++ map f xs
items_next {A} f xs i x d old now new lt e h a =
    let left : drop i xs ≡ x ∷ drop (i + 1) xs = drop_more xs i d lt ∙ ap (λ (z : A). z ∷ drop (i + 1) xs) (sym e) in
    let rest = map f (drop (i + 1) xs) in
    ap (λ l. l ++ rest) a ∙ (append_assoc now (f x ∷ []) rest ∙ (sym (ap (λ l. now ++ map f l) left) ∙ h))

pub items_end : {A : Type 0} (f : A → Mention) (xs : List A) (i : ℕ) (old now : List Mention) → length xs ≤ i → now ++ map f (drop i xs) ≡ old ++ map f xs → now ≡ old ++ map f xs
items_end f xs i old now le h = sym (append-nil now) ∙ (ap (λ l. now ++ map f l) (sym (drop_all i xs le)) ∙ h)

-- Variables one behind another, a variable for each item.
pub variables_more : {A : Type 0} (xs : List A) (i n : ℕ) → i < length xs → variables_from n (drop i xs) ≡ record { 0 = n } ∷ variables_from (n + 1) (drop (i + 1) xs)
variables_more [] i n lt = absurd (omega arith)
variables_more (x ∷ xs) zero n lt = refl
variables_more (x ∷ xs) (suc i) n lt =
    let e : suc (i + 1) ≡ suc i + 1 = omega arith in
    variables_more xs i n (omega arith) ∙ ap (λ k. record { 0 = n } ∷ variables_from (n + 1) (drop k (x ∷ xs))) e

pub variables_next : {A : Type 0} (xs : List A) (first i number : ℕ) (old now new : List Mention) → i < length xs → number ≡ first + i
    → now ++ all_bound (variables_from (first + i) (drop i xs)) ≡ old ++ all_bound (variables_from first xs)
    → new ≡ now ++ Bound (record { 0 = number }) ∷ [] → new ++ all_bound (variables_from (first + (i + 1)) (drop (i + 1) xs)) ≡ old ++ all_bound (variables_from first xs)
variables_next xs first i number old now new lt e h a =
    let rest = all_bound (variables_from (first + (i + 1)) (drop (i + 1) xs)) in
    let there : first + i + 1 ≡ first + (i + 1) = omega arith in
    let left : variables_from (first + i) (drop i xs) ≡ record { 0 = number } ∷ variables_from (first + (i + 1)) (drop (i + 1) xs) =
    variables_more xs i (first + i) lt ∙ (λ k. record { 0 = sym e k } ∷ variables_from (there k) (drop (i + 1) xs)) in
    ap (λ l. l ++ rest) a ∙ (append_assoc now (Bound (record { 0 = number }) ∷ []) rest ∙ (sym (ap (λ l. now ++ all_bound l) left) ∙ h))

pub variables_start : {A : Type 0} (xs : List A) (first : ℕ) (old : List Mention) → old ++ all_bound (variables_from (first + 0) (drop 0 xs)) ≡ old ++ all_bound (variables_from first xs)
variables_start xs first old = let e : first + 0 ≡ first = omega arith in ap (λ n. old ++ all_bound (variables_from n xs)) e

pub variables_end : {A : Type 0} (xs : List A) (first i : ℕ) (old now : List Mention) → length xs ≤ i
    → now ++ all_bound (variables_from (first + i) (drop i xs)) ≡ old ++ all_bound (variables_from first xs) → now ≡ old ++ all_bound (variables_from first xs)
variables_end xs first i old now le h = sym (append-nil now) ∙ (ap (λ l. now ++ all_bound (variables_from (first + i) l)) (sym (drop_all i xs le)) ∙ h)

-- Parts that are listed one after another.
pub parts_next : (f : ℕ → Term) (ts : List TermId) (i : ℕ) (t d : TermId) (old now new : List Mention) → i < length ts → t ≡ get_or ts i d → now ++ walk_parts (◌++◌) [] says (parts_from f (drop i ts)) ≡ old ++ walk_parts (◌++◌) [] says (parts_from f ts)
    → new ≡ now ++ mentions (f t.0) → new ++ walk_parts (◌++◌) [] says (parts_from f (drop (i + 1) ts)) ≡ old ++ walk_parts (◌++◌) [] says (parts_from f ts)
parts_next f ts i t d old now new lt e h a =
    let left : drop i ts ≡ t ∷ drop (i + 1) ts = drop_more ts i d lt ∙ ap (λ (z : TermId). z ∷ drop (i + 1) ts) (sym e) in
    let rest = walk_parts (◌++◌) [] says (parts_from f (drop (i + 1) ts)) in
    ap (λ l. l ++ rest) a ∙ (append_assoc now (mentions (f t.0)) rest ∙ (sym (ap (λ l. now ++ walk_parts (◌++◌) [] says (parts_from f l)) left) ∙ h))

pub parts_end : (f : ℕ → Term) (ts : List TermId) (i : ℕ) (old now : List Mention) → length ts ≤ i → now ++ walk_parts (◌++◌) [] says (parts_from f (drop i ts)) ≡ old ++ walk_parts (◌++◌) [] says (parts_from f ts) → now ≡ old ++ walk_parts (◌++◌) [] says (parts_from f ts)
parts_end f ts i old now le h = sym (append-nil now) ∙ (ap (λ l. now ++ walk_parts (◌++◌) [] says (parts_from f l)) (sym (drop_all i ts le)) ∙ h)

pub branches_next : (f : ℕ → Term) (bs : List Branch) (i : ℕ) (b d : Branch) (old now new : List Mention) → i < length bs → b ≡ get_or bs i d → now ++ walk_branches (◌++◌) [] says (branches_from f (drop i bs)) ≡ old ++ walk_branches (◌++◌) [] says (branches_from f bs)
    → new ≡ now ++ (all_bound b.variables.items ++ mentions (f b.term.0)) → new ++ walk_branches (◌++◌) [] says (branches_from f (drop (i + 1) bs)) ≡ old ++ walk_branches (◌++◌) [] says (branches_from f bs)
branches_next f bs i b d old now new lt e h a =
    let left : drop i bs ≡ b ∷ drop (i + 1) bs = drop_more bs i d lt ∙ ap (λ (z : Branch). z ∷ drop (i + 1) bs) (sym e) in
    let xs = all_bound b.variables.items in
    let ys = mentions (f b.term.0) in
    let rest = walk_branches (◌++◌) [] says (branches_from f (drop (i + 1) bs)) in
    ap (λ l. l ++ rest) a
    ∙ (append_assoc now (xs ++ ys) rest
    ∙ (ap (λ l. now ++ l) (append_assoc xs ys rest)
    ∙ (sym (ap (λ l. now ++ walk_branches (◌++◌) [] says (branches_from f l)) left) ∙ h)))

pub branches_end : (f : ℕ → Term) (bs : List Branch) (i : ℕ) (old now : List Mention) → length bs ≤ i → now ++ walk_branches (◌++◌) [] says (branches_from f (drop i bs)) ≡ old ++ walk_branches (◌++◌) [] says (branches_from f bs) → now ≡ old ++ walk_branches (◌++◌) [] says (branches_from f bs)
branches_end f bs i old now le h = sym (append-nil now) ∙ (ap (λ l. now ++ walk_branches (◌++◌) [] says (branches_from f l)) (sym (drop_all i bs le)) ∙ h)

pub one_then : (old mid new : List Mention) (xs ys : List Mention) → mid ≡ old ++ xs → new ≡ mid ++ ys → new ≡ old ++ (xs ++ ys)
one_then old mid new xs ys e f = f ∙ (ap (λ l. l ++ ys) e ∙ append_assoc old xs ys)

pub none_listed : (old : List Mention) → old ≡ old ++ []
none_listed old = sym (append-nil old)

-- Variables that are bound, one after another.
pub none_bound : (old : List ℕ) → old ≡ old ++ []
none_bound old = sym (append-nil old)

pub binders_next : (ms : List Mention) (i : ℕ) (m d : Mention) (old now new : List ℕ) → i < length ms → m ≡ get_or ms i d → now ++ binders_in (drop i ms) ≡ old ++ binders_in ms → new ≡ now ++ binder m → new ++ binders_in (drop (i + 1) ms) ≡ old ++ binders_in ms
binders_next ms i m d old now new lt e h a =
    let left : drop i ms ≡ m ∷ drop (i + 1) ms = drop_more ms i d lt ∙ ap (λ (z : Mention). z ∷ drop (i + 1) ms) (sym e) in
    let rest = binders_in (drop (i + 1) ms) in
    ap (λ l. l ++ rest) a ∙ (append_assoc now (binder m) rest ∙ (sym (ap (λ l. now ++ binders_in l) left) ∙ h))

pub binders_end : (ms : List Mention) (i : ℕ) (old now : List ℕ) → length ms ≤ i → now ++ binders_in (drop i ms) ≡ old ++ binders_in ms → now ≡ old ++ binders_in ms
binders_end ms i old now le h = sym (append-nil now) ∙ (ap (λ l. now ++ binders_in l) (sym (drop_all i ms le)) ∙ h)
