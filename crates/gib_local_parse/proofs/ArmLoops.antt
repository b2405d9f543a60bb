-- Arms, as far as they were read.
use Rattle.std.proofs.Common.{◌≡◌, ℕ, ◌<◌, ◌≤◌, Bool, true, false, List, [], ◌∷◌, ◌++◌, map, length, Ok, Err, refl, sym, ap, ◌∙◌, subst, arith, length-append}
use Rattle.std.specs.List.{AllByRecursion}
use Rattle.gib_base.specs.declared.token.Sign.TheVariants as s
use Rattle.gib_base.specs.declared.token.Token.{Token}
use Rattle.gib_syntax.specs.Spelling.{Places}
use Rattle.gib_reads.specs.declared.stop.Stop.{Stop}
use Rattle.gib_reads.specs.declared.stop.Stop.TheVariants as stop
use Rattle.gib_reads.specs.Readers.{Read, Reader, then_at, next_is, is_sign, many}
use Rattle.gib_reads.specs.Answers.{Fails}
use Rattle.gib_reads.proofs.Tools.{done}
use Rattle.gib_reads.proofs.PartsSoFar.{PartsSoFar, parts_more, seen}
use Rattle.gib_reads.proofs.SoFar.{one_and_more, first_one, first_fails, all_read, one_fails, shorter}
use Rattle.gib_local_parse.specs.declared.lines.LineArm.{LineArm}
use Rattle.gib_local_parse.specs.declared.lines.LineNode.{LineNode}
use Rattle.gib_local_parse.specs.Tree.{Line, Arms, LastArm, NextArm}
use Rattle.gib_local_parse.specs.Grammar.{ArmText, arms_of, arm_at, next_arm_at, arms_at, parse}
use Rattle.gib_local_parse.specs.LineArena.{ArmsBelow, Grows, arms_from, case_from, nothing, tree_of}
use Rattle.gib_local_parse.specs.ReadingTerms.{ReadsArms, arm_text, arms_text}
use Rattle.gib_local_parse.proofs.WholeLaws.{next_shrinks}

pub grows_none : (a : List LineNode) → Grows a a
grows_none a = record { longer = omega arith; same = λ id lt. refl }

pub grows_more : (a b c : List LineNode) → Grows a b → Grows b c → Grows a c
grows_more a b c p q = record {
  longer = (let l = p.longer in let m = q.longer in omega arith);
  same = λ id lt. (let l = p.longer in q.same id (omega arith)) ∙ p.same id lt;
}

-- ---- arms

abbrev pub IsArmIn : List LineNode → LineArm → Type 0
IsArmIn a arm = arm.line.0 < length a

abbrev pub arm_in : List LineNode → LineArm → ArmText
arm_in a arm = arm_text (tree_of a) arm

pub arm_stays : (old new : List LineNode) (arm : LineArm) → Grows old new → IsArmIn old arm → IsArmIn new arm × (arm_in new arm ≡ arm_in old arm)
arm_stays old new arm g h =
    (let l = g.longer in omega arith, ap (λ (e : Line). let made : ArmText = record { constructor = arm.constructor; variables = arm.variables.items; line = e } in made) (g.same arm.line.0 h))

abbrev pub all_arms : Places → ℕ → List Token → Read (List ArmText)
all_arms at level tokens = one_and_more (arm_at at (parse at level)) (is_sign s.Semicolon) (next_arm_at at (parse at level)) tokens

pub record ArmsSoFar (old new : List LineNode) (at : Places) (level : ℕ) (tokens rest : List Token) (arms : List LineArm) : Type 0 where
  pub some : 0 < length arms
  pub parts : PartsSoFar grows_more IsArmIn arm_in arm_stays old new (all_arms at level tokens) (is_sign s.Semicolon) (next_arm_at at (parse at level)) rest arms

pub arms_start : (old new : List LineNode) (at : Places) (level : ℕ) (tokens rest : List Token) (arm : LineArm) → Grows old new → IsArmIn new arm → arm_at at (parse at level) tokens ≡ done (arm_text (tree_of new) arm) rest → ArmsSoFar old new at level tokens rest (arm ∷ [])
arms_start old new at level tokens rest arm g lt e = record {
  some = omega arith;
  parts = record {
    grows = g;
    inside = (lt, tt);
    read = first_one (arm_at at (parse at level)) (is_sign s.Semicolon) (next_arm_at at (parse at level)) tokens rest (arm_text (tree_of new) arm) e;
  };
}

pub arms_more : (old new newer : List LineNode) (at : Places) (level : ℕ) (tokens rest after : List Token) (arms : List LineArm) (arm : LineArm) → ArmsSoFar old new at level tokens rest arms → next_is (is_sign s.Semicolon) rest ≡ true → Grows new newer → IsArmIn newer arm → next_arm_at at (parse at level) rest ≡ done (arm_text (tree_of newer) arm) after → ArmsSoFar old newer at level tokens after (arms ++ arm ∷ [])
arms_more old new newer at level tokens rest after arms arm so e g lt r = record {
  some = (let l = length-append arms (arm ∷ []) in omega arith);
  parts = parts_more grows_more IsArmIn arm_in arm_stays old new newer (all_arms at level tokens) (is_sign s.Semicolon) (next_arm_at at (parse at level)) (next_shrinks at level) rest after arms arm so.parts e g lt r;
}

abbrev arms_there : List LineNode → List LineArm → List ArmText
arms_there a arms = seen grows_more IsArmIn arm_in arm_stays a arms

arms_seen : (a : List LineNode) (arm : LineArm) (arms : List LineArm) → arms_of (arm_in a arm) (arms_there a arms) ≡ arms_from (tree_of a) arm arms
arms_seen a arm [] = refl
arms_seen a arm (next ∷ arms) = ap (NextArm arm.constructor arm.variables.items (tree_of a arm.line.0)) (arms_seen a next arms)

abbrev arms_of_all : List ArmText → Arms
arms_of_all [] = LastArm (record { name = record { 0 = 0 }; span = record { start = 0; end = 0 } }) [] nothing
arms_of_all (arm ∷ arms) = arms_of arm arms

all_seen : (a : List LineNode) (arms : List LineArm) → arms_of_all (arms_there a arms) ≡ arms_text (tree_of a) arms
all_seen a [] = refl
all_seen a (arm ∷ arms) = arms_seen a arm arms

abbrev as_arms : Read (List ArmText) → Read Arms
as_arms r = then_at r (λ arms ts. Ok (arms_of_all arms, ts))

more_arms : (arm : ArmText) (r : Read (List ArmText)) → then_at r (λ arms ts. Ok (arms_of arm arms, ts)) ≡ as_arms (then_at r (λ arms ts. Ok (arm ∷ arms, ts)))
more_arms arm (Ok x) = refl
more_arms arm (Err f) = refl

arms_split : (r : Read ArmText) (m : Reader (List ArmText)) → then_at r (λ arm ts. then_at (m ts) (λ arms ts. Ok (arms_of arm arms, ts))) ≡ as_arms (then_at r (λ arm ts. then_at (m ts) (λ arms ts. Ok (arm ∷ arms, ts))))
arms_split (Ok x) m = more_arms x.0 (m x.1)
arms_split (Err f) m = refl

arms_are : (at : Places) (level : ℕ) (tokens : List Token) → arms_at at (parse at level) tokens ≡ as_arms (all_arms at level tokens)
unfolding arms_at
arms_are at level tokens = arms_split (arm_at at (parse at level) tokens) (many (is_sign s.Semicolon) (next_arm_at at (parse at level)))

pub arms_done : (old new : List LineNode) (at : Places) (level : ℕ) (tokens rest : List Token) (arms : List LineArm) → ArmsSoFar old new at level tokens rest arms → next_is (is_sign s.Semicolon) rest ≡ false → arms_at at (parse at level) tokens ≡ done (arms_text (tree_of new) arms) rest
arms_done old new at level tokens rest arms so e =
    arms_are at level tokens
    ∙ ap as_arms (all_read (all_arms at level tokens) (is_sign s.Semicolon) (next_arm_at at (parse at level)) rest (arms_there new arms) so.parts.read e)
    ∙ ap (λ (xs : Arms). done xs rest) (all_seen new arms)

as_arms_fails : (r : Read (List ArmText)) (e : Stop) → Fails e r → Fails e (as_arms r)
as_arms_fails r stop.Memory f = tt
as_arms_fails r (stop.At k) f = ap as_arms f
as_arms_fails r (stop.Nested k) f = ap as_arms f

all_arms_fail : (at : Places) (level : ℕ) (tokens : List Token) (e : Stop) → Fails e (all_arms at level tokens) → Fails e (arms_at at (parse at level) tokens)
all_arms_fail at level tokens e f = subst (λ (r : Read Arms). Fails e r) (sym (arms_are at level tokens)) (as_arms_fails (all_arms at level tokens) e f)

pub first_arm_fails : (at : Places) (level : ℕ) (tokens : List Token) (e : Stop) → Fails e (arm_at at (parse at level) tokens) → Fails e (arms_at at (parse at level) tokens)
first_arm_fails at level tokens e f = all_arms_fail at level tokens e (first_fails (arm_at at (parse at level)) (is_sign s.Semicolon) (next_arm_at at (parse at level)) tokens e f)

pub arms_fail : (old new : List LineNode) (at : Places) (level : ℕ) (tokens rest : List Token) (arms : List LineArm) (e : Stop) → ArmsSoFar old new at level tokens rest arms → next_is (is_sign s.Semicolon) rest ≡ true → Fails e (next_arm_at at (parse at level) rest) → Fails e (arms_at at (parse at level) tokens)
arms_fail old new at level tokens rest arms e so b f =
    all_arms_fail at level tokens e (one_fails (all_arms at level tokens) (is_sign s.Semicolon) (next_arm_at at (parse at level)) (next_shrinks at level) rest (arms_there new arms) e so.parts.read b f)

pub arms_shorter : (at : Places) (level : ℕ) (rest after : List Token) (arm : ArmText) → next_arm_at at (parse at level) rest ≡ done arm after → length after < length rest
arms_shorter at level rest after arm e = shorter (next_arm_at at (parse at level)) (next_shrinks at level) rest after arm e

within_arms : (n : ℕ) (arms : List LineArm) → 0 < length arms → AllByRecursion (λ (arm : LineArm). arm.line.0 < n) arms → ArmsBelow arms n
within_arms n [] lt h = absurd (omega arith)
within_arms n (arm ∷ arms) lt h = (h.0, h.1)

pub arms_inside : (old new : List LineNode) (at : Places) (level : ℕ) (tokens rest : List Token) (arms : List LineArm) → ArmsSoFar old new at level tokens rest arms → ReadsArms old new arms
arms_inside old new at level tokens rest arms so = record { grows = so.parts.grows; inside = within_arms (length new) arms so.some so.parts.inside }

-- A case of arms that stand inside.
pub case_is : (f : ℕ → Line) (arms : List LineArm) (n : ℕ) (make : Arms → Line) → ArmsBelow arms n → case_from f arms make ≡ make (arms_text f arms)
case_is f [] n make h = absurd h
case_is f (arm ∷ arms) n make h = refl
