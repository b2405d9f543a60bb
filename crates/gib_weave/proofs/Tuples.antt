-- Packed parts go into their regions, one after another.
use Rattle.std.proofs.Common.{◌≡◌, ℕ, suc, ◌+◌, ◌-◌, ◌<◌, List, [], ◌∷◌, ◌++◌, length, drop, map, append_assoc, refl, sym, ap, subst, ◌∙◌, arith}
use Rattle.std.proofs.lemmas.Bool.{or_left, or_right}
use Rattle.std.proofs.lemmas.List.{length-drop}
use Rattle.gib_types.specs.declared.table.Ty.{Ty}
use Rattle.gib_types.specs.Table.{scalar_types}
use Rattle.gib_types.specs.Tree.{Datum}
use Rattle.gib_syntax.specs.Meaning.{Environment, Outcome, Gives, Stops, tuple, with_value, with_values}
use Rattle.gib_mem.specs.Memory.{Store}
use Rattle.gib_core.specs.declared.atom.Atom.{Atom}
use Rattle.gib_core.specs.Tree.{Term, Tuple, PartTerms, PartThen, CoreTree}
use Rattle.gib_core.specs.Meaning.{mean_parts, merge, core_calls, value}
use Rattle.gib_core.specs.Cost.{Cost, plus, cost_parts, cost_with, call_costs}
use Rattle.gib_code.specs.Instruction.{Into, Out}
use Rattle.gib_code.specs.Program.{CodeTree, IsAt}
use Rattle.gib_core.specs.Low.{To}
use Rattle.gib_core.specs.Fits.{Dest, Empty, InParts, Inner, AtomsFit, Fits, PartsFit, cased, parts_cased, loosen, new_line, none_of, packed_due}
use Rattle.gib_machine.specs.State.{State, Ready, Open as OpenRegion, pull, sink}
use Rattle.gib_weave.specs.Groups.{nth, unused, Group}
use Rattle.gib_weave.specs.Environment.{Ctx}
use Rattle.gib_weave.specs.Continuing.{given_of, Plain, Fills, Kont, KPart, end_of, IsCode, PartsCode}
use Rattle.gib_weave.specs.Owing.{Owed, resume, rest_means, means, costs}
use Rattle.gib_weave.specs.Paying.{Share, Counted, AtMost, cost_after, left_costs, later_costs}
use Rattle.gib_weave.specs.Places.{Owned, HaveRoom, rest_covers}
use Rattle.gib_weave.specs.Stacks.{Stack}
use Rattle.gib_weave.specs.Sound.{counts, AtRest, AtTerm, at_term, Safe, rests, Moves, silent}
use Rattle.gib_weave.proofs.Counts.{Paid, goes_on_counted}
use Rattle.gib_weave.proofs.Sorts.{rest_code_loosen, given_keeps}
use Rattle.gib_weave.proofs.Places.{Apart-less}
use Rattle.gib_weave.proofs.Lines.{own_line, HasAll-own, loosened, keeps_loosened, goes_loosen, HasAll-loosen, all_under_loosen, under_scalar, all_calm_less, calm_loosened, resume-with}
use Rattle.gib_weave.proofs.Reordered.{pull_counted, pull_covers, pull_room, pulled, put_back, without}
use Rattle.gib_weave.proofs.Filling.{drop_next, holds_fresh}
use Rattle.gib_weave.proofs.Ends.{step_is}

with_values_same : (os : List Outcome) (go go' : List Datum → Outcome) → ((vs : List Datum) → go vs ≡ go' vs) → with_values os go ≡ with_values os go'
with_values_same [] go go' e = e []
with_values_same (Stops why ∷ os) go go' e = refl
with_values_same (Gives v ∷ os) go go' e = with_values_same os (λ vs. go (v ∷ vs)) (λ vs. go' (v ∷ vs)) (λ vs. e (v ∷ vs))

is_unused : (r : OpenRegion) → r.cur ≡ r.start → unused r ≡ r
is_unused r e = ap (λ (c : ℕ). region r.start c) (sym e)
  where
    region : ℕ → ℕ → OpenRegion
    region a c = record { start = a; cur = c }

module _ (core : CoreTree) (n i : ℕ) (tys : List Ty) (ss : List Atom) (vs : List Datum) (u : Term) (ps : PartTerms) (env : Environment) (k : Kont) where
  others : (v : Datum) → rest_means core n (Fills (suc i) tys ss (vs ++ v ∷ []) ps) env ≡ with_values (mean_parts core.table (core_calls core n) ps env) (λ ws. Gives (tuple (merge tys (map (value env) ss) (vs ++ v ∷ ws))))
  others v = with_values_same (mean_parts core.table (core_calls core n) ps env) _ _ (λ ws. ap (λ (zs : List Datum). Gives (tuple (merge tys (map (value env) ss) zs))) (append_assoc vs (v ∷ []) ws))

  -- a part, and then the others
  part_means : rest_means core n (Fills i tys ss vs (PartThen u ps)) env ≡ with_value (means core n u env) (λ v. rest_means core n (Fills (suc i) tys ss (vs ++ v ∷ []) ps) env)
  part_means = go (means core n u env)
    where
      go : (o : Outcome) → with_values (o ∷ mean_parts core.table (core_calls core n) ps env) (λ ws. Gives (tuple (merge tys (map (value env) ss) (vs ++ ws)))) ≡ with_value o (λ v. rest_means core n (Fills (suc i) tys ss (vs ++ v ∷ []) ps) env)
      go (Stops why) = refl
      go (Gives v) = sym (others v)

  part_owes : resume core n k (rest_means core n (Fills i tys ss vs (PartThen u ps)) env) ≡ with_value (means core n u env) (λ v. resume core n k (rest_means core n (Fills (suc i) tys ss (vs ++ v ∷ []) ps) env))
  part_owes = ap (resume core n k) part_means ∙ resume-with core n k (means core n u env) (λ v. rest_means core n (Fills (suc i) tys ss (vs ++ v ∷ []) ps) env)

  part_costs : (lv : ℕ) → AtMost (plus (costs core n lv u env) (cost_after (means core n u env) (λ v. left_costs core n lv (Fills (suc i) tys ss (vs ++ v ∷ []) ps) env k))) (left_costs core n lv (Fills i tys ss vs (PartThen u ps)) env k)
  part_costs lv = go (means core n u env)
    where
      left : Cost
      left = cost_parts core.table (core_calls core n) (call_costs core n) lv ps env

      go : (o : Outcome) → AtMost (plus (costs core n lv u env) (cost_after o (λ v. left_costs core n lv (Fills (suc i) tys ss (vs ++ v ∷ []) ps) env k)))
          (plus (plus (costs core n lv u env) (cost_with o left)) (later_costs core n lv k (with_values (o ∷ mean_parts core.table (core_calls core n) ps env) (λ ws. Gives (tuple (merge tys (map (value env) ss) (vs ++ ws)))))))
      go (Stops why) = record { regions = omega arith; items = omega arith }
      go (Gives v) =
          let e = ap (λ (o : Outcome). later_costs core n lv k o) (others v) in
          let r = ap (λ (c : Cost). c.regions) e in
          let t = ap (λ (c : Cost). c.items) e in
          record { regions = omega (arith, r); items = omega (arith, t) }

module _ (core : CoreTree) (code : CodeTree) (owed : Owed) (own : Owned) (sh : Share) {s : Store} {m : State} {c : Ctx} {k : Kont} where
  -- Parts are the packed ones, and then the scalar ones.
  pub tuple_at : (tys : List Ty) (ss : List Atom) (ps : PartTerms) → PartsCode core code c.line.within c.scope m.ip 0 tys ss ps (end_of c.line.overs k) → AtTerm core code owed own sh s m (Tuple tys ss ps) c k → AtRest core code owed own sh s m (Fills 0 tys ss [] ps) c k
  tuple_at tys ss ps low at = record {
    ready = at.ready;
    low = low;
    fits = (at.fits.0, refl, at.fits.1, at.fits.2);
    line = at.line;
    group = at.group;
    memory = at.memory;
    ties = at.ties;
    owes = at.owes;
    counted = at.counted;
    room = record { free = at.room.free; narrow = at.room.narrow; nests = at.room.nests; all_room = at.room.all_room };
  }

  -- A part begins in its region.
  pub does_into : (i : ℕ) (tys : List Ty) (ss : List Atom) (vs : List Datum) (u : Term) (ps : PartTerms) (l : ℕ) → IsAt code m.ip (Into i (length (packed_due tys))) → IsCode core code c.line.within c.scope (m.ip + 1) u (To l 0) → IsAt code l (Out i (length (packed_due tys)))
      → PartsCode core code c.line.within c.scope (l + 1) (suc i) tys ss ps (end_of c.line.overs k) → AtRest core code owed own sh s m (Fills i tys ss vs (PartThen u ps)) c k → Moves core code owed own sh s m
  does_into i tys ss vs u ps l into low out behind at = go (drop i (packed_due tys)) refl
    where
      go : (ds : List ℕ) → drop i (packed_due tys) ≡ ds → Moves core code owed own sh s m
      go [] e = absurd (subst (λ (z : List ℕ). PartsFit core c.line.within (PartThen u ps) z c.scope (λ sc. AtomsFit sc ss (scalar_types tys))) e at.fits.2)
      go (t ∷ ds) e =
          let fit : Fits core (Inner none_of) u c.scope (Empty t) (new_line c.line.within) × PartsFit core c.line.within ps ds (loosen (cased u) c.scope) (λ sc. AtomsFit sc ss (scalar_types tys)) =
          subst (λ (z : List ℕ). PartsFit core c.line.within (PartThen u ps) z c.scope (λ sc. AtomsFit sc ss (scalar_types tys))) e at.fits.2 in
          let others_due : drop (suc i) (packed_due tys) ≡ ds = drop_next i (packed_due tys) t ds e in
          let j = length (packed_due tys) - 1 - i in
          let from = ap (λ (z : List ℕ). length z) e in
          let dropped = length-drop i (packed_due tys) in
          let newer : length ds ≡ j = omega (arith, from, dropped) in
          let group : Group code.laid s (InParts tys) vs m.regions = subst (λ (d : Dest). Group code.laid s d vs m.regions) at.fits.0 at.group in
          let long = group.0 in
          let inside : j < length m.regions = omega (arith, from, dropped, long) in
          let r = nth j m.regions in
          let rest = without j m.regions in
          let fresh : r.cur ≡ r.start = subst (λ (z : ℕ). (nth z m.regions).cur ≡ (nth z m.regions).start) newer (holds_fresh code.laid s m.regions (packed_due tys) vs t ds (ap (λ (z : ℕ). drop z (packed_due tys)) at.fits.1 ∙ e) group.1) in
          let same : sink j (unused r ∷ rest) ≡ m.regions = ap (λ (q : OpenRegion). sink j (q ∷ rest)) (is_unused r fresh) ∙ put_back j m.regions inside in
          let order = pulled j m.regions inside in
          let line = own_line c.line.within c (Empty t) r.start in
          let k' = KPart l i t tys ss vs ps (loosened (cased u) c) k in
          let left = left_costs core m.depth m.level (Plain u) c.env k' in
          let paid : Paid (pull j m.regions) left sh 0 = pull_counted j m.regions left sh (goes_on_counted (part_costs core m.depth i tys ss vs u ps c.env k m.level) at.counted) in
          silent (step_is code m (Into i (length (packed_due tys))) at.ready into)
          (counts paid.spends (subst (λ (z : List OpenRegion). Safe core code owed own paid.share s (record m { ip = m.ip + 1; regions = z; doing = Ready })) (sym order) (rests (at_term {u = Plain u} {c = line} {k = k'} record {
            ready = refl;
            group = tt;
            low = low;
            fits = fit.0;
            line = record {
              kind = refl;
              matches = record { vars = HasAll-own c.line.within (Empty t) r.start at.line.matches.vars; dest = sym fresh };
              stack = (
                refl,
                out,
                record {
                  low = rest_code_loosen core code c.line.within c.scope (l + 1) (Fills (suc i) tys ss vs ps) (end_of c.line.overs k) (cased u) behind;
                  fits = subst (λ (z : List ℕ). PartsFit core c.line.within ps z (loosen (cased u) c.scope) (λ sc. AtomsFit sc ss (scalar_types tys))) (sym others_due) fit.1;
                  meets = at.fits.3;
                  dest = at.fits.0;
                  many = at.fits.1;
                  vars = HasAll-loosen (cased u) at.line.matches.vars;
                  under = all_under_loosen c.scope c.env k (cased u) at.line.under;
                  given = given_keeps c (loosened (cased u) c) 0 (given_of k) (keeps_loosened (cased u) c) (λ y. goes_loosen (cased u y) (c.scope y)) at.line.given;
                  calm = all_calm_less (parts_cased (PartThen u ps)) (parts_cased ps) k (λ y h. or_right (cased u y) (parts_cased ps y) h) at.line.calm;
                  kind = at.line.kind;
                  free = at.room.free;
                  narrow = let h = at.room.narrow in omega (arith, h);
                },
                e ∙ ap (λ (z : List ℕ). t ∷ z) (sym others_due),
                subst (λ (z : List OpenRegion). Group code.laid s (InParts tys) vs z) (sym same) group,
                subst (λ (z : List OpenRegion). Stack core code s k m.words m.frames c.front z) (sym same) at.line.stack,
              );
              under = (under_scalar (cased u) c, at.line.under);
              given = at.line.given;
              calm = (calm_loosened (cased u) c, all_calm_less (parts_cased (PartThen u ps)) (cased u) k (λ y h. or_left (cased u y) (parts_cased ps y) h) at.line.calm);
            };
            memory = record {
              places = Apart-less at.memory.places (λ q. let g = pull_covers j m.regions q in let f = ap (λ (z : List OpenRegion). rest_covers z q) order in omega (arith, g, f));
              rooms = subst HaveRoom order (pull_room j m.regions at.memory.rooms);
              tail_rooms = at.memory.tail_rooms;
              small = at.memory.small;
            };
            ties = at.ties;
            owes = sym (part_owes core m.depth i tys ss vs u ps c.env k) ∙ at.owes;
            counted = subst (λ (z : List OpenRegion). Counted z left paid.share) order paid.counted;
            room = record { free = tt; narrow = let h = at.room.narrow in omega (arith, h); nests = let h = at.room.nests in omega (arith, h); all_room = (let h = at.room.nests in omega (arith, h), at.room.all_room) };
          }))))
