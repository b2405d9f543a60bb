-- The names of lines, as the code goes over them.
use Rattle.std.proofs.Common.{◌≡◌, ℕ, List, [], ◌∷◌, length, Option, Some, None, Ok, Err, refl, sym, ap, ap₂, ◌∙◌}
use Rattle.gib_types.specs.Table.{fields_at}
use Rattle.gib_base.specs.declared.Span.{Span}
use Rattle.gib_syntax.specs.declared.tree.Ident.{Ident}
use Rattle.gib_syntax.specs.declared.tree.TypeName.{TypeName}
use Rattle.gib_syntax.specs.Declarations.{number_of}
use Rattle.gib_syntax.specs.Tree.{FunctionTree}
use Rattle.gib_check.specs.declared.counts.Counts.{Counts}
use Rattle.gib_check.specs.declared.fault.TypeFault.{TypeFault}
use Rattle.gib_check.specs.Answers.{IsFaultOf}
use Rattle.gib_check.specs.Faults.{Checked, and_then, one_more}
use Rattle.gib_check.proofs.Loops.{passed_on, along}
use Rattle.gib_check.proofs.KnownWords.{then_same, then_then}
use Rattle.gib_local_parse.specs.declared.lines.LineArm.{LineArm}
use Rattle.gib_local_parse.specs.Tree.{Line, In, Called, Made, Cased, Chosen, Binding, ParIn, Be, Arms}
use Rattle.gib_local_parse.specs.declared.tree.Mark.{Mark}
use Rattle.gib_local_parse.specs.declared.tree.Operand.{Operand}
use Rattle.gib_local_parse.specs.LineArena.{ArmsBelow, arms_from, case_from}
use Rattle.gib_local_parse.specs.ReadingTerms.{arms_text}
use Rattle.gib_local.specs.Knowing.{called, made, side}
use Rattle.gib_local.specs.Naming.{Names, Declared, After', after, as_many, bound, constructor, function, known, new, old, operand, operands, between_names, with_place, with_variable, check_line, check_binding, check_arms}

-- A call, and a constructor's value.
pub line_called : (d : Declared) (f : Ident) (xs : List Operand) (at : Option Mark) (s : Names) (n : Counts) → check_line d (Called f xs at) s n ≡ called d s n f xs
line_called d f xs at s n =
    then_same (one_more n f.span) _ _
    (λ m. sym (then_then (function d.functions f) (λ (g : FunctionTree). as_many (length xs) (length g.parameters) f) (λ _. and_then (operands s.variables xs) (λ _. Ok m))))

pub line_made : (d : Declared) (k : Ident) (at : Mark) (xs : List Operand) (s : Names) (n : Counts) → check_line d (Made k at xs) s n ≡ made d s n k xs
line_made d k at xs s n =
    then_same (one_more n k.span) _ _
    (λ m. sym (then_then (constructor d.table k) (λ c. as_many (length xs) (length (fields_at d.table c)) k) (λ _. and_then (operands s.variables xs) (λ _. Ok m))))

-- A case of arms.
pub line_cased : (f : ℕ → Line) (p : Span) (x : Ident) (arms : List LineArm) (id : ℕ) → ArmsBelow arms id → case_from f arms (Cased p x) ≡ Cased p x (arms_text f arms)
line_cased f p x [] id h = elim h [ ]
line_cased f p x (arm ∷ arms) id h = refl

-- ---- a binding, and the rest of its line

module _ (d : Declared) (p : Span) (b : Binding) (u : Line) (start one : After') (e1 : one_more start.counts p ≡ Ok one.counts) (s1 : one.names ≡ start.names) where
  in_one : check_line d (In p b u) start.names start.counts ≡ and_then (check_binding d b one.names one.counts) (λ r. check_line d u r.names r.counts)
  in_one =
      ap (λ z. and_then z (λ m. and_then (check_binding d b start.names m) (λ r. check_line d u r.names r.counts))) e1
      ∙ ap (λ s. and_then (check_binding d b s one.counts) (λ r. check_line d u r.names r.counts)) (sym s1)

  pub in_binding_fails : (e : TypeFault) → IsFaultOf e (check_binding d b one.names one.counts) → IsFaultOf e (check_line d (In p b u) start.names start.counts)
  in_binding_fails e f = along e _ _ in_one (passed_on e _ _ f)

  pub in_rest : (two : After') → check_binding d b one.names one.counts ≡ Ok two → check_line d (In p b u) start.names start.counts ≡ check_line d u two.names two.counts
  in_rest two e2 = in_one ∙ ap (λ z. and_then z (λ (r : After'). check_line d u r.names r.counts)) e2

  pub in_rest_fails : (two : After') (e : TypeFault) → check_binding d b one.names one.counts ≡ Ok two → IsFaultOf e (check_line d u two.names two.counts) → IsFaultOf e (check_line d (In p b u) start.names start.counts)
  in_rest_fails two e e2 f = along e _ _ (in_rest two e2) f

-- The first rule of a chain fails.
pub one_fails : {A : Type 0} (n : Counts) (p : Span) (go : Counts → Checked A) (e : TypeFault) → IsFaultOf e (one_more n p) → IsFaultOf e (and_then (one_more n p) go)
one_fails n p go e f = passed_on e _ _ f

-- ---- a case

module _ (d : Declared) (p : Span) (x : Ident) (arms : Arms) (start one : After') (e1 : one_more start.counts p ≡ Ok one.counts) (s1 : one.names ≡ start.names) where
  case_one : check_line d (Cased p x arms) start.names start.counts ≡ and_then (old one.names.variables x) (λ _. check_arms d arms one.names one.counts)
  case_one =
      ap (λ z. and_then z (λ m. and_then (old start.names.variables x) (λ _. check_arms d arms start.names m))) e1
      ∙ ap (λ (s : Names). and_then (old s.variables x) (λ _. check_arms d arms s one.counts)) (sym s1)

  pub case_variable_fails : (e : TypeFault) → IsFaultOf e (old one.names.variables x) → IsFaultOf e (check_line d (Cased p x arms) start.names start.counts)
  case_variable_fails e f = along e _ _ case_one (passed_on e _ _ f)

  pub case_arms : old one.names.variables x ≡ Ok (tt {0}) → check_line d (Cased p x arms) start.names start.counts ≡ check_arms d arms one.names one.counts
  case_arms e2 = case_one ∙ ap (λ z. and_then z (λ _. check_arms d arms one.names one.counts)) e2

-- ---- an if

module _ (d : Declared) (p : Span) (x : Operand) (t u : Line) (start one : After') (e1 : one_more start.counts p ≡ Ok one.counts) (s1 : one.names ≡ start.names) where
  if_one : check_line d (Chosen p x t u) start.names start.counts ≡ and_then (operand one.names.variables x) (λ _. and_then (check_line d t one.names one.counts) (λ o. check_line d u one.names o))
  if_one =
      ap (λ z. and_then z (λ m. and_then (operand start.names.variables x) (λ _. and_then (check_line d t start.names m) (λ o. check_line d u start.names o)))) e1
      ∙ ap (λ (s : Names). and_then (operand s.variables x) (λ _. and_then (check_line d t s one.counts) (λ o. check_line d u s o))) (sym s1)

  pub if_operand_fails : (e : TypeFault) → IsFaultOf e (operand one.names.variables x) → IsFaultOf e (check_line d (Chosen p x t u) start.names start.counts)
  if_operand_fails e f = along e _ _ if_one (passed_on e _ _ f)

  if_two : operand one.names.variables x ≡ Ok (tt {0}) → check_line d (Chosen p x t u) start.names start.counts ≡ and_then (check_line d t one.names one.counts) (λ o. check_line d u one.names o)
  if_two e2 = if_one ∙ ap (λ z. and_then z (λ _. and_then (check_line d t one.names one.counts) (λ o. check_line d u one.names o))) e2

  pub if_first_fails : (e : TypeFault) → operand one.names.variables x ≡ Ok (tt {0}) → IsFaultOf e (check_line d t one.names one.counts) → IsFaultOf e (check_line d (Chosen p x t u) start.names start.counts)
  if_first_fails e e2 f = along e _ _ (if_two e2) (passed_on e _ _ f)

  pub if_second : (two : After') → operand one.names.variables x ≡ Ok (tt {0}) → check_line d t one.names one.counts ≡ Ok two.counts → two.names ≡ one.names → check_line d (Chosen p x t u) start.names start.counts ≡ check_line d u two.names two.counts
  if_second two e2 e3 s2 =
      if_two e2 ∙ ap (λ z. and_then z (λ o. check_line d u one.names o)) e3 ∙ ap (λ s. check_line d u s two.counts) (sym s2)

-- ---- two sides

between_variables : (s r : Names) (x : Ident) (g : Option (Ident × Ident)) → between_names s x g ≡ Ok r → r.variables ≡ s.variables
between_variables s r x None e = (let same : s ≡ r = cc in ap (λ (z : Names). z.variables) (sym same))
between_variables s r x (Some (l, y)) e = go (new s.places l) (old (number_of x ∷ s.variables) y) e where
  go : (c k : Checked (Unit {0})) → and_then c (λ _. and_then k (λ _. Ok (with_place l s))) ≡ Ok r → r.variables ≡ s.variables
  go (Ok i) (Ok j) q = (let same : with_place l s ≡ r = cc in ap (λ (z : Names). z.variables) (sym same))
  go (Ok i) (Err f) q = absurd cc
  go (Err f) k q = absurd cc

module _ (d : Declared) (x : Ident) (w : TypeName) (at : Option Mark) (t : Line) (g : Option (Ident × Ident)) (y : Ident) (z : TypeName) (on : Option Mark) (u : Line) where
  -- What is read of two sides, each side by its own rule.
  abbrev last : Names → Counts → Checked After'
  last s e = Ok (after (with_variable y (with_variable x s)) e)

  abbrev fifth : Names → Names → Counts → Checked After'
  fifth s r q = and_then (side d r q z u) (λ e. last s e)

  abbrev fourth : Names → Names → Counts → Checked After'
  fourth s r o = and_then (bound (number_of x ∷ s.variables) o y) (λ q. fifth s r q)

  abbrev third : Names → Counts → Checked After'
  third s o = and_then (between_names s x g) (λ r. fourth s r o)

  abbrev second : Names → Counts → Checked After'
  second s m = and_then (side d s m w t) (λ o. third s o)

  par_is : (s : Names) (n : Counts) → check_binding d (ParIn (Be x w at t) g (Be y z on u)) s n ≡ and_then (bound s.variables n x) (λ m. second s m)
  par_is s n =
      then_same (bound s.variables n x) _ _ (λ m.
      then_same (known d.table.types w) _ _ (λ _. then_same (check_line d t s m) _ _ (λ o. then_same (between_names s x g) _ _ (λ r. then_same (bound (number_of x ∷ s.variables) o y) _ _
      (λ q. sym (then_then (known d.table.types z) (λ _. check_line d u r q) (λ e. last s e))))))
      ∙ sym (then_then (known d.table.types w) (λ _. check_line d t s m) (λ o. third s o)))

  module _ (start one : After') (e1 : bound start.names.variables start.counts x ≡ Ok one.counts) (s1 : one.names ≡ start.names) where
    par_one : check_binding d (ParIn (Be x w at t) g (Be y z on u)) start.names start.counts ≡ second one.names one.counts
    par_one = par_is start.names start.counts ∙ ap (λ c. and_then c (λ m. second start.names m)) e1 ∙ ap (λ s. second s one.counts) (sym s1)

    pub par_left_fails : (e : TypeFault) → IsFaultOf e (side d one.names one.counts w t) → IsFaultOf e (check_binding d (ParIn (Be x w at t) g (Be y z on u)) start.names start.counts)
    par_left_fails e f = along e _ _ par_one (passed_on e _ _ f)

    module _ (two : After') (e2 : side d one.names one.counts w t ≡ Ok two.counts) (s2 : two.names ≡ one.names) where
      par_two : check_binding d (ParIn (Be x w at t) g (Be y z on u)) start.names start.counts ≡ third two.names two.counts
      par_two = par_one ∙ ap (λ c. and_then c (λ o. third one.names o)) e2 ∙ ap (λ s. third s two.counts) (sym s2)

      pub par_between_fails : (e : TypeFault) → IsFaultOf e (between_names two.names x g) → IsFaultOf e (check_binding d (ParIn (Be x w at t) g (Be y z on u)) start.names start.counts)
      par_between_fails e f = along e _ _ par_two (passed_on e _ _ f)

      module _ (three : After') (e3 : between_names two.names x g ≡ Ok three.names) (n3 : three.counts ≡ two.counts) where
        par_three : check_binding d (ParIn (Be x w at t) g (Be y z on u)) start.names start.counts ≡ and_then (bound (number_of x ∷ three.names.variables) three.counts y) (λ q. fifth two.names three.names q)
        par_three =
            par_two ∙ ap (λ c. and_then c (λ r. fourth two.names r two.counts)) e3
            ∙ ap₂ (λ (vs : List ℕ) (o : Counts). and_then (bound (number_of x ∷ vs) o y) (λ q. fifth two.names three.names q)) (sym (between_variables two.names three.names x g e3)) (sym n3)

        pub par_bound_fails : (e : TypeFault) → IsFaultOf e (bound (number_of x ∷ three.names.variables) three.counts y) → IsFaultOf e (check_binding d (ParIn (Be x w at t) g (Be y z on u)) start.names start.counts)
        par_bound_fails e f = along e _ _ par_three (passed_on e _ _ f)

        module _ (four : After') (e4 : bound (number_of x ∷ three.names.variables) three.counts y ≡ Ok four.counts) (s4 : four.names ≡ three.names) where
          par_four : check_binding d (ParIn (Be x w at t) g (Be y z on u)) start.names start.counts ≡ fifth two.names four.names four.counts
          par_four = par_three ∙ ap (λ c. and_then c (λ q. fifth two.names three.names q)) e4 ∙ ap (λ r. fifth two.names r four.counts) (sym s4)

          pub par_right_fails : (e : TypeFault) → IsFaultOf e (side d four.names four.counts z u) → IsFaultOf e (check_binding d (ParIn (Be x w at t) g (Be y z on u)) start.names start.counts)
          par_right_fails e f = along e _ _ par_four (passed_on e _ _ f)

          pub par_whole : (five new : After') → side d four.names four.counts z u ≡ Ok five.counts → new.names ≡ with_variable y (with_variable x two.names) → new.counts ≡ five.counts → check_binding d (ParIn (Be x w at t) g (Be y z on u)) start.names start.counts ≡ Ok new
          par_whole five new e5 sn nn =
              par_four ∙ ap (λ c. and_then c (λ e. last two.names e)) e5
              ∙ ap₂ (λ (s : Names) (n : Counts). Ok (after s n)) (sym sn) (sym nn)

-- ---- lines as the code finds them

pub call_opened : (d : Declared) (s : Names) (n : Counts) (t : Line) (f : Ident) (xs items : List Operand) (m : Option Mark) → t ≡ Called f items m → xs ≡ items → check_line d t s n ≡ called d s n f xs
call_opened d s n t f xs items m e q = ap (λ z. check_line d z s n) e ∙ line_called d f items m s n ∙ ap (called d s n f) (sym q)

pub make_opened : (d : Declared) (s : Names) (n : Counts) (t : Line) (k : Ident) (xs items : List Operand) (m : Mark) → t ≡ Made k m items → xs ≡ items → check_line d t s n ≡ made d s n k xs
make_opened d s n t k xs items m e q = ap (λ z. check_line d z s n) e ∙ line_made d k m items s n ∙ ap (made d s n k) (sym q)

pub case_opened : (d : Declared) (f : ℕ → Line) (s : Names) (n : Counts) (t : Line) (p : Span) (x : Ident) (xs items : List LineArm) (id : ℕ) → t ≡ case_from f items (Cased p x) → xs ≡ items → ArmsBelow items id → check_line d t s n ≡ check_line d (Cased p x (arms_text f xs)) s n
case_opened d f s n t p x xs items id e q h =
    ap (λ z. check_line d z s n) (e ∙ line_cased f p x items id h) ∙ ap (λ z. check_line d (Cased p x (arms_text f z)) s n) (sym q)
