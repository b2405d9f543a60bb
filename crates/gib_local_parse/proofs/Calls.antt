-- Calls, cases and lines as they are read.
use Rattle.std.proofs.Common.{◌≡◌, ℕ, zero, suc, ◌-◌, ◌<◌, ◌≤◌, List, [], ◌∷◌, ◌++◌, length, Option, Result, Ok, Err, IfOk, refl, sym, ap, ◌∙◌, subst, arith}
use Rattle.gib_base.specs.declared.Span.{Span}
use Rattle.gib_base.specs.declared.token.Sign.TheVariants as s
use Rattle.gib_base.specs.declared.token.Token.{Token}
use Rattle.gib_syntax.specs.declared.tree.Ident.{Ident}
use Rattle.gib_syntax.specs.declared.tree.TypeName.{TypeName}
use Rattle.gib_syntax.specs.Spelling.{Places}
use Rattle.gib_reads.specs.declared.stop.Stop.{Stop}
use Rattle.gib_reads.specs.declared.stop.Stop.TheVariants as stop
use Rattle.gib_reads.specs.Readers.{Read, Reader, then_at, want, var_at, con_at, next_is}
use Rattle.gib_reads.specs.Answers.{Fails, with_front}
use Rattle.gib_reads.proofs.Tools.{done}
use Rattle.gib_local_parse.specs.declared.lines.BindingNode.{BindingNode}
use Rattle.gib_local_parse.specs.declared.lines.BindingNode.TheVariants as b
use Rattle.gib_local_parse.specs.declared.lines.LineNode.{LineNode}
use Rattle.gib_local_parse.specs.Tree.{Mark, Operand, Line, In, Called, Cased, Chosen, Arms, Binding, LetIn, ParIn, Bound, Be}
use Rattle.gib_local_parse.specs.Grammar.{type_at, let_from, one_at, operand_at, operands_at, option_at, arm_at, arms_at, between_at, bound_at, bound_from, call_at, case_at, if_at, in_at, line_at, names_at, par_at, starts_term, no_level, parse}
use Rattle.gib_local_parse.specs.LineArena.{BindingBelow, Grows, binding_from, tree_of}
use Rattle.gib_local_parse.specs.ReadingTerms.{ReadsBinding}

-- ---- calls

then_fails : {A B : Type 0} (r : Read A) (g : A → Reader B) (e : Stop) → Fails e r → Fails e (then_at r g)
then_fails r g stop.Memory f = tt
then_fails {A = A} r g (stop.At k) f = ap (λ (z : Read A). then_at z g) f
then_fails {A = A} r g (stop.Nested k) f = ap (λ (z : Read A). then_at z g) f

-- What stands behind one that was read first.
front_then : {A B : Type 0} (r : Read (List A)) (x : A) (g : List A → Reader B) → then_at r (λ xs ts. g (x ∷ xs) ts) ≡ then_at (with_front (x ∷ []) r) g
front_then (Ok y) x g = refl
front_then (Err f) x g = refl

module _ (at : Places) (f : Ident) (t0 t1 : List Token) (x : Operand) (e1 : operand_at at t0 ≡ done x t1) where
  abbrev called : List Operand → Reader Line
  called all ws = then_at (option_at at ws) (λ m ws. Ok (Called f all m, ws))

  call_from : call_at at f t0 ≡ then_at (with_front (x ∷ []) (operands_at at t1)) called
  call_from = ap (λ (z : Read Operand). then_at z (λ x ws. then_at (operands_at at ws) (λ xs ws. then_at (option_at at ws) (λ m ws. Ok (Called f (x ∷ xs) m, ws))))) e1 ∙ front_then (operands_at at t1) x called

  pub call_done : (t2 t3 : List Token) (all : List Operand) (m : Option Mark) → with_front (x ∷ []) (operands_at at t1) ≡ done all t2 → option_at at t2 ≡ done m t3 → call_at at f t0 ≡ done (Called f all m) t3
  call_done t2 t3 all m e2 e3 =
      call_from ∙ ap (λ (z : Read (List Operand)). then_at z called) e2 ∙ ap (λ (z : Read (Option Mark)). then_at z (λ m ws. Ok (Called f all m, ws))) e3

  -- The further operands are at fault.
  pub call_fails : (e : Stop) → Fails e (with_front (x ∷ []) (operands_at at t1)) → Fails e (call_at at f t0)
  call_fails e h = subst (λ (r : Read Line). Fails e r) (sym call_from) (then_fails (with_front (x ∷ []) (operands_at at t1)) called e h)

  -- The place is.
  pub call_mark_fails : (t2 : List Token) (all : List Operand) (e : Stop) → with_front (x ∷ []) (operands_at at t1) ≡ done all t2 → Fails e (option_at at t2) → Fails e (call_at at f t0)
  call_mark_fails t2 all e e2 h =
      subst (λ (r : Read Line). Fails e r) (sym (call_from ∙ ap (λ (z : Read (List Operand)). then_at z called) e2)) (then_fails (option_at at t2) (λ m ws. Ok (Called f all m, ws)) e h)

-- ---- cases

pub case_done : (at : Places) (sub : Reader Line) (p : Span) (t0 t1 t2 t3 t4 t5 : List Token) (x : Ident) (arms : Arms) → var_at at t0 ≡ done x t1 → want s.Of t1 ≡ done (tt {0}) t2 → want s.OpenBrace t2 ≡ done (tt {0}) t3 → arms_at at sub t3 ≡ done arms t4 → want s.CloseBrace t4 ≡ done (tt {0}) t5
    → case_at at sub p t0 ≡ done (Cased p x arms) t5
case_done at sub p t0 t1 t2 t3 t4 t5 x arms e1 e2 e3 e4 e5 = rw (e1, e2, e3, e4, e5) refl

-- ---- bindings, as the arena grows

pub binding_below : (c : BindingNode) (n m : ℕ) → n ≤ m → BindingBelow c n → BindingBelow c m
binding_below (b.NewRegion r) n m le h = tt
binding_below (b.NewPlace l q) n m le h = tt
binding_below (b.Let side) n m le h = omega (arith, le, h)
binding_below (b.Par l k r) n m le h = (let a = h.0 in omega (arith, le, a), let a = h.1 in omega (arith, le, a))
binding_below (b.Operation x w y f z) n m le h = tt
binding_below (b.Reach y way) n m le h = tt

pub binding_stays : (old new : List LineNode) (c : BindingNode) → Grows old new → BindingBelow c (length old) → binding_from (tree_of new) c ≡ binding_from (tree_of old) c
binding_stays old new (b.NewRegion r) g h = refl
binding_stays old new (b.NewPlace l q) g h = refl
binding_stays old new (b.Let side) g h = (λ k. LetIn (Be side.name side.ty side.mark (g.same side.line.0 h k)))
binding_stays old new (b.Par l m r) g h = (λ k. ParIn (Be l.name l.ty l.mark (g.same l.line.0 h.0 k)) m (Be r.name r.ty r.mark (g.same r.line.0 h.1 k)))
binding_stays old new (b.Operation x w y f z) g h = refl
binding_stays old new (b.Reach y way) g h = refl

-- A binding without terms of its own stands, whatever the arena.
pub plain_stands : {X : Type 0} (old : List LineNode) (r : Result (BindingNode × X) Stop) → Grows old old → ((n : ℕ) → IfOk r (λ x. BindingBelow x.0 n)) → IfOk r (λ x. ReadsBinding old old x.0)
plain_stands old (Ok x) g h = record { grows = g; inside = h (length old) }
plain_stands old (Err e) g h = tt

-- Behind `let` and a variable with its type.
pub one_is : (at : Places) (sub : Reader Line) (t0 t1 t2 t3 : List Token) (x : Ident) (w : TypeName) → var_at at t0 ≡ done x t1 → want s.Colon t1 ≡ done (tt {0}) t2 → type_at at t2 ≡ done w t3
    → one_at at sub t0 ≡ let_from at sub x w t3
one_is at sub t0 t1 t2 t3 x w e1 e2 e3 = rw (e1, e2, e3) refl

-- Behind the type of a side: its place, and its term.
pub bound_done : (at : Places) (sub : Reader Line) (x : Ident) (w : TypeName) (t0 t1 t2 t3 : List Token) (m : Option Mark) (u : Line) → option_at at t0 ≡ done m t1 → want s.Equals t1 ≡ done (tt {0}) t2 → sub t2 ≡ done u t3
    → bound_from at sub x w t0 ≡ done (Be x w m u) t3
bound_done at sub x w t0 t1 t2 t3 m u e1 e2 e3 = rw (e1, e2, e3) refl

-- Two sides.
pub par_done : (at : Places) (sub : Reader Line) (t0 t1 t2 t3 t4 : List Token) (l r : Bound) (m : Option (Ident × Ident)) → bound_at at sub t0 ≡ done l t1 → want s.And t1 ≡ done (tt {0}) t2 → between_at at t2 ≡ done m t3 → bound_at at sub t3 ≡ done r t4
    → par_at at sub t0 ≡ done (ParIn l m r) t4
par_done at sub t0 t1 t2 t3 t4 l r m e1 e2 e3 e4 = rw (e1, e2, e3, e4) refl

-- An `if`, behind its sign.
module _ (at : Places) (sub : Reader Line) (p : Span) where
  pub if_done : (t0 t1 t2 t3 t4 t5 : List Token) (x : Operand) (u v : Line) → operand_at at t0 ≡ done x t1 → want s.Then t1 ≡ done (tt {0}) t2 → sub t2 ≡ done u t3 → want s.Else t3 ≡ done (tt {0}) t4 → sub t4 ≡ done v t5
      → if_at at sub p t0 ≡ done (Chosen p x u v) t5
  if_done t0 t1 t2 t3 t4 t5 x u v e1 e2 e3 e4 e5 = rw (e1, e2, e3, e4, e5) refl

-- An arm.
pub arm_done : (at : Places) (sub : Reader Line) (t0 t1 t2 t3 t4 : List Token) (k : Ident) (xs : List Ident) (u : Line) → con_at at t0 ≡ done k t1 → names_at at t1 ≡ done xs t2 → want s.Arrow t2 ≡ done (tt {0}) t3 → sub t3 ≡ done u t4
    → arm_at at sub t0 ≡ done (record { constructor = k; variables = xs; line = u }) t4
unfolding arm_at
arm_done at sub t0 t1 t2 t3 t4 k xs u e1 e2 e3 e4 = rw (e1, e2, e3, e4) refl

-- A binding's line.
pub line_done : (sub : Reader Line) (p : Span) (d : Binding) (u : Line) (t0 t1 t2 : List Token) → want s.In t0 ≡ done (tt {0}) t1 → sub t1 ≡ done u t2 → in_at sub p (done d t0) ≡ done (In p d u) t2
line_done sub p d u t0 t1 t2 e1 e2 = rw (e1, e2) refl

-- ---- levels

pub parse_some : (at : Places) (n : ℕ) (ts : List Token) → (n ≡ 0 → ⊥) → parse at n ts ≡ line_at at (parse at (n - 1)) ts
unfolding parse
parse_some at zero ts ne = absurd (ne refl)
parse_some at (suc n) ts ne = let e : n ≡ suc n - 1 = omega arith in ap (λ m. line_at at (parse at m) ts) e

pub parse_none : (at : Places) (n : ℕ) (ts : List Token) → n ≡ 0 → parse at n ts ≡ no_level (next_is starts_term ts) ts
unfolding parse
parse_none at zero ts e = refl
parse_none at (suc n) ts e = absurd (omega arith)
