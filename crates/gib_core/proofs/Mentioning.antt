-- What a term says of variables tells what it binds, and how often it uses each variable.
use Rattle.std.proofs.Common.{◌≡◌, ◌+◌, List, [], ◌∷◌, ◌++◌, map, refl, sym, ap, ◌∙◌, arith}
use Rattle.std.proofs.lemmas.List.{append_assoc}
use Rattle.gib_core.specs.declared.atom.Variable.{Variable}
use Rattle.gib_core.specs.declared.atom.Atom.{Atom}
use Rattle.gib_core.specs.Tree.{Term}
use Rattle.gib_core.specs.Met.{PastLine, SideLine, ParLine, PrimLine, ReachLine, WriteLine, PointLine, CallLine, GiveLine, CaseLine, IfLine, SeveralLine, TupleLine, PartLine}
use Rattle.gib_core.specs.Walk.{Entry, AtLine, AtArm}
use Rattle.gib_core.proofs.Walks.{walk_of}
use Rattle.gib_core.specs.Numbering.{numbers_in, binders}
use Rattle.gib_core.specs.declared.mentions.Mention.{Mention}
use Rattle.gib_core.specs.Counting.{count_atom, count_in, entry_counts, count}
use Rattle.gib_core.specs.Mentioned.{all_bound, all_used, says, mentions, binder, binders_in, uses_in}

pub binders_append : (xs ys : List Mention) → binders_in (xs ++ ys) ≡ binders_in xs ++ binders_in ys
binders_append [] ys = refl
binders_append (m ∷ xs) ys = ap (λ l. binder m ++ l) (binders_append xs ys) ∙ sym (append_assoc (binder m) (binders_in xs) (binders_in ys))

pub uses_append : (xs ys : List Mention) (x : Variable) → uses_in (xs ++ ys) x ≡ uses_in xs x + uses_in ys x
uses_append [] ys x = omega arith
uses_append (m ∷ xs) ys x = let e = uses_append xs ys x in omega arith

atoms_bind : (xs : List Atom) → binders_in (all_used xs) ≡ []
atoms_bind [] = refl
atoms_bind (y ∷ ys) = atoms_bind ys

atoms_use : (xs : List Atom) (x : Variable) → uses_in (all_used xs) x ≡ count_in x xs
atoms_use [] x = refl
atoms_use (y ∷ ys) x = ap (λ n. count_atom x y + n) (atoms_use ys x)

variables_bind : (xs : List Variable) → binders_in (all_bound xs) ≡ map (λ (x : Variable). x.0) xs
variables_bind [] = refl
variables_bind (y ∷ ys) = ap (λ l. y.0 ∷ l) (variables_bind ys)

variables_use : (xs : List Variable) (x : Variable) → uses_in (all_bound xs) x ≡ 0
variables_use [] x = refl
variables_use (y ∷ ys) x = let e = variables_use ys x in omega arith

-- What an entry says tells what it binds, and how often it uses a variable.
entry_binds : (l : Entry) → binders_in (says l) ≡ numbers_in l
entry_binds (AtLine (PastLine h k)) = refl
entry_binds (AtLine (SideLine kind x ty)) = refl
entry_binds (AtLine ParLine) = refl
entry_binds (AtLine (PrimLine x f y z)) = refl
entry_binds (AtLine (ReachLine y by)) = refl
entry_binds (AtLine (WriteLine h k ss ps)) = binders_append (all_used ss) (all_used ps) ∙ (λ i. atoms_bind ss i ++ atoms_bind ps i)
entry_binds (AtLine (PointLine x)) = refl
entry_binds (AtLine (CallLine f xs)) = atoms_bind xs
entry_binds (AtLine (GiveLine x)) = refl
entry_binds (AtLine (CaseLine x arms)) = refl
entry_binds (AtLine (IfLine x)) = refl
entry_binds (AtLine (SeveralLine xs tys)) = variables_bind xs
entry_binds (AtLine (TupleLine tys ss packed)) = atoms_bind ss
entry_binds (AtLine PartLine) = refl
entry_binds (AtArm k xs) = variables_bind xs

entry_use : (x : Variable) (l : Entry) → uses_in (says l) x ≡ entry_counts x l
entry_use x (AtLine (PastLine h k)) = refl
entry_use x (AtLine (SideLine kind y ty)) = refl
entry_use x (AtLine ParLine) = refl
entry_use x (AtLine (PrimLine y f v w)) = omega arith
entry_use x (AtLine (ReachLine y by)) = refl
entry_use x (AtLine (WriteLine h k ss ps)) = uses_append (all_used ss) (all_used ps) x ∙ (λ i. atoms_use ss x i + atoms_use ps x i)
entry_use x (AtLine (PointLine y)) = omega arith
entry_use x (AtLine (CallLine f ys)) = atoms_use ys x
entry_use x (AtLine (GiveLine y)) = omega arith
entry_use x (AtLine (CaseLine y arms)) = omega arith
entry_use x (AtLine (IfLine y)) = omega arith
entry_use x (AtLine (SeveralLine xs tys)) = variables_use xs x
entry_use x (AtLine (TupleLine tys ss packed)) = atoms_use ss x
entry_use x (AtLine PartLine) = refl
entry_use x (AtArm k xs) = variables_use xs x

pub term_binds : (t : Term) → binders_in (mentions t) ≡ binders t
term_binds t = walk_of binders_in (◌++◌) [] says (◌++◌) [] numbers_in refl binders_append entry_binds t

pub term_uses : (t : Term) (x : Variable) → uses_in (mentions t) x ≡ count t x
term_uses t x = walk_of (λ ms. uses_in ms x) (◌++◌) [] says (◌+◌) 0 (entry_counts x) refl (λ ms ns. uses_append ms ns x) (entry_use x) t
