-- Branches and parts that are copied one after another.
use Rattle.std.proofs.Common.{◌≡◌, ℕ, ◌+◌, Bool, List, [], ◌∷◌, ◌++◌, map, length, drop, get_or, reverse, ◌≤◌, Vec, Global, refl, sym, ap, ◌∙◌, subst, arith, ⊎_elim}
use Rattle.gib_core.specs.declared.node.Branch.{Branch}
use Rattle.std.proofs.str.Laws.{order}
use Rattle.std.proofs.lemmas.List.{drop_more, reverse-append}
use Rattle.gib_core.specs.declared.node.BoundTerm.{BoundTerm}
use Rattle.gib_core.specs.declared.node.BoundParts.{BoundParts}
use Rattle.gib_core.specs.declared.node.BoundSide.{BoundSide}
use Rattle.gib_core.specs.declared.node.BoundSide.TheVariants as s
use Rattle.gib_core.specs.declared.node.Binding.{Binding}
use Rattle.gib_core.specs.declared.node.Binding.TheVariants as b
use Rattle.gib_core.specs.declared.part_types.PartTypes.{PartTypes}
use Rattle.gib_core.specs.PartTypes.{types_in}
use Rattle.gib_core.specs.declared.atom.Variable.{Variable}
use Rattle.gib_core.specs.declared.node.TermId.{TermId}
use Rattle.gib_core.specs.declared.node.Node.TheVariants as n
use Rattle.gib_core.specs.declared.atom.Atom.{Atom}
use Rattle.gib_core.specs.declared.node.Node.{Node}
use Rattle.gib_core.specs.Tree.{Then, CaseTerm, Tuple, PartThen, One, Both, On, Several, BranchThen, variables_from}
use Rattle.gib_core.specs.Arena.{term_in, term_of, Opens, Makes}
use Rattle.gib_place.specs.Renaming.{Renaming, rename_variable, rename_atom, rename}
use Rattle.gib_place.specs.Numbering.{place_in}
use Rattle.gib_place.specs.Shifting.{SideShifted, BindingShifted, PartsShifted, BranchShifted, BranchesShifted, NodeShifted, Copies}

pub shifted_none : (r : Renaming) (base : ℕ) → BranchesShifted r base [] []
shifted_none r base = record { below = λ id h. tt; are = λ id f g h s. refl }

pub shifted_first : (r : Renaming) (base : ℕ) (x y : Branch) (xs ys : List Branch) → BranchShifted r base x y → BranchesShifted r base xs ys → BranchesShifted r base (x ∷ xs) (y ∷ ys)
shifted_first r base x y xs ys h k = record {
  below = λ id b. (let e = h.term in let l = b.0 in omega arith, k.below id b.1);
  are = λ id f g b s. λ i. BranchThen (h.constructor i) (h.variables i) ((ap g h.term ∙ s x.term.0 b.0) i) (k.are id f g b.1 s i);
}

reverse-push : (done more : List Branch) (y : Branch) → more ≡ done ++ y ∷ [] → reverse more ≡ y ∷ reverse done
reverse-push done more y e = ap reverse e ∙ reverse-append done (y ∷ [])

pub branches_next : (r : Renaming) (base : ℕ) (done more bs : List Branch) (made b d : Branch) (i j : ℕ) → j ≡ i + 1 → j ≤ length bs → b ≡ get_or bs i d → more ≡ done ++ made ∷ [] → BranchesShifted r base (drop j bs) (reverse done) → BranchShifted r base b made → BranchesShifted r base (drop i bs) (reverse more)
branches_next r base done more bs made b d i j ej le eb em h p =
    let rest = drop (i + 1) bs in
    let h' : BranchesShifted r base rest (reverse done) = subst (λ n. BranchesShifted r base (drop n bs) (reverse done)) ej h in
    let left : drop i bs ≡ b ∷ rest = drop_more bs i d (omega (arith, ej, le)) ∙ ap (λ (z : Branch). z ∷ rest) (sym eb) in
    subst (λ z. BranchesShifted r base (drop i bs) z) (sym (reverse-push done more made em)) (subst (λ z. BranchesShifted r base z (made ∷ reverse done)) (sym left) (shifted_first r base b made rest (reverse done) p h'))

-- Parts.
pub parts_shifted_none : (base : ℕ) → PartsShifted base [] []
parts_shifted_none base = record { below = λ id h. tt; are = λ r id f g h s. refl }

part_first : (base : ℕ) (x y : TermId) (xs ys : List TermId) → y.0 ≡ base + x.0 → PartsShifted base xs ys → PartsShifted base (x ∷ xs) (y ∷ ys)
part_first base x y xs ys e k = record {
  below = λ id b. (let l = b.0 in omega arith, k.below id b.1);
  are = λ r id f g b s. λ i. PartThen ((ap g e ∙ s x.0 b.0) i) (k.are r id f g b.1 s i);
}

pub parts_shifted_next : (base : ℕ) (done more ts : List TermId) (made t d : TermId) (i j : ℕ) → j ≡ i + 1 → j ≤ length ts → t ≡ get_or ts i d → more ≡ done ++ made ∷ [] → PartsShifted base (drop j ts) (reverse done) → made.0 ≡ base + t.0 → PartsShifted base (drop i ts) (reverse more)
parts_shifted_next base done more ts made t d i j ej le et em h p =
    let rest = drop (i + 1) ts in
    let h' : PartsShifted base rest (reverse done) = subst (λ n. PartsShifted base (drop n ts) (reverse done)) ej h in
    let left : drop i ts ≡ t ∷ rest = drop_more ts i d (omega (arith, ej, le)) ∙ ap (λ (z : TermId). z ∷ rest) (sym et) in
    subst (λ z. PartsShifted base (drop i ts) z) (sym (ap reverse em ∙ reverse-append done (made ∷ []))) (subst (λ z. PartsShifted base z (made ∷ reverse done)) (sym left) (part_first base t made rest (reverse done) p h'))

pub tuple_shifted : (r : Renaming) (base : ℕ) (tys : PartTypes) (ss zs : Vec Atom Global) (ps qs : Vec TermId Global) → zs.items ≡ map (rename_atom r) ss.items → PartsShifted base ps.items qs.items → NodeShifted r base (n.Tuple tys ss ps) (n.Tuple tys zs qs)
tuple_shifted r base tys ss zs ps qs e h = record {
  below = λ id b. h.below id b;
  is = λ id f g b s. λ i. Tuple (types_in tys) (e i) (h.are r id f g b s i);
}

-- Sides, in a binding.
pub one_shifted : (r : Renaming) (base : ℕ) (x y : BoundSide) → SideShifted r base x y → BindingShifted r base (b.One x) (b.One y)
one_shifted r base x y h = record {
  below = λ id l. (let e = h.term in omega arith);
  is = λ id f g l s. ap One (h.is f g (s (term_in x).0 l));
}

pub par_shifted : (r : Renaming) (base : ℕ) (fork : Bool) (x y z w : BoundSide) → SideShifted r base x y → SideShifted r base z w → BindingShifted r base (b.Par fork x z) (b.Par fork y w)
par_shifted r base fork x y z w h k = record {
  below = λ id l. (let e = h.term in let p = l.0 in omega arith, let e = k.term in let p = l.1 in omega arith);
  is = λ id f g l s. λ i. Both fork (h.is f g (s (term_in x).0 l.0) i) (k.is f g (s (term_in z).0 l.1) i);
}

pub side_shifted : (r : Renaming) (base : ℕ) (x : BoundTerm) (y : Variable) (t : TermId) → y ≡ rename_variable r x.variable → t.0 ≡ base + x.term.0 → SideShifted r base (s.One x) (s.One (record x { variable = y; term = t }))
side_shifted r base x y t ey et = record { term = et; is = λ f g e. λ i. On x.kind (ey i) x.ty ((ap g et ∙ e) i) }

pub several_shifted : (r : Renaming) (base : ℕ) (x : BoundParts) (y : Variable) (t : TermId) → variables_from y.0 (types_in x.types) ≡ map (rename_variable r) (variables_from x.first.0 (types_in x.types)) → t.0 ≡ base + x.term.0
    → SideShifted r base (s.Several x) (s.Several (record x { first = y; term = t }))
several_shifted r base x y t ey et = record { term = et; is = λ f g e. λ i. Several (ey i) (types_in x.types) ((ap g et ∙ e) i) }

pub then_shifted : (r : Renaming) (base : ℕ) (x y : Binding) (t u : TermId) → BindingShifted r base x y → u.0 ≡ base + t.0 → NodeShifted r base (n.Then x t) (n.Then y u)
then_shifted r base x y t u h e = record {
  below = λ id b. (h.below id b.0, let l = b.1 in omega arith);
  is = λ id f g b s. λ i. Then (h.is id f g b.0 s i) ((ap g e ∙ s t.0 b.1) i);
}

pub case_shifted : (r : Renaming) (base : ℕ) (x y : Atom) (bs cs : Vec Branch Global) → y ≡ rename_atom r x → BranchesShifted r base bs.items cs.items → NodeShifted r base (n.Case x bs) (n.Case y cs)
case_shifted r base x y bs cs e h = record {
  below = λ id b. h.below id b;
  is = λ id f g b s. λ i. CaseTerm (e i) (h.are id f g b s i);
}

-- One more node is copied, where a node that is put stands right behind the others.
pub copies_next : (xs : List ℕ) (terms old now new : List Node) (i id : ℕ) (node made : Node) → Copies xs terms i old now → Opens terms i node → NodeShifted (place_in xs) (length old) node made → Makes now new id made → id ≡ length now → length new ≡ length now + 1 → Copies xs terms (i + 1) old new
copies_next xs terms old now new i id node made c o h m place long = record {
  grows = record {
    longer = (let p = c.grows.longer in let q = m.grows.longer in omega arith);
    same = λ a lt. m.grows.same a (let p = c.grows.longer in omega arith) ∙ c.grows.same a lt;
  };
  long = (let p = c.long in omega arith);
  are = λ a lt. ⊎_elim
      (λ less. m.grows.same (length old + a) (let p = c.long in omega arith) ∙ c.are a less)
      (λ more.
      let is : a ≡ i = omega arith in
      let at : length old + a ≡ id = (let p = c.long in omega arith) in
      ap (term_of new) at
      ∙ (m.term
      ∙ (h.is i (term_of terms) (term_of now) o.1 (λ b l. c.are b l)
      ∙ (sym (ap (rename (place_in xs)) o.0) ∙ ap (λ k. rename (place_in xs) (term_of terms k)) (sym is)))))
      (order a i);
}
