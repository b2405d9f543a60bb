-- The root starts sound, and lowered bodies are as the law wants them.
use Rattle.std.proofs.Common.{◌≡◌, ℕ, zero, suc, ◌+◌, ◌*◌, ◌<◌, ◌≤◌, true, false, cond, List, [], ◌∷◌, length, Option, Some, None, refl, sym, ap, subst, ◌∙◌, arith}
use Rattle.std.proofs.lemmas.Bool.{false≢true, true≢false}
use Rattle.std.proofs.lemmas.Option.{none-some, same_Some}
use Rattle.gib_types.specs.declared.table.Ty.{Ty}
use Rattle.gib_types.specs.declared.table.Ty.TheVariants.{Whole, Truth, Tree}
use Rattle.gib_types.specs.Table.{IsTable}
use Rattle.gib_types.specs.Layout.{LaidOut}
use Rattle.gib_types.specs.Tree.{Datum}
use Rattle.gib_syntax.specs.Meaning.{is_scalar, value_in}
use Rattle.gib_mem.specs.Memory.{Store, open_chunk}
use Rattle.gib_region.specs.Region.{rest}
use Rattle.gib_core.specs.Tree.{CoreTree, FunctionTerm}
use Rattle.gib_core.specs.Numbering.{binders}
use Rattle.gib_core.specs.Meaning.{function_at, core_run}
use Rattle.gib_code.specs.declared.instruction.Entry.{Entry}
use Rattle.gib_code.specs.Program.{CodeTree}
use Rattle.gib_core.specs.Low as low
use Rattle.gib_core.specs.Low.{Low, LowFunctions, IsLowered, Returns, function_number, Field as StoredField}
use Rattle.gib_machine.specs.State.{times, nesting, widest, Slots, slot, Open as OpenRegion, State, eight, Opening, latest, cursor, frame, Doing, Ready}
use Rattle.gib_machine.specs.Machine.{begins, start_at, slots_at}
use Rattle.gib_core.specs.Cost.{Cost, plus, one_region}
use Rattle.gib_weave.proofs.Counts.{goes_on_counted, same_most, Paid, tail_counted, chunk_counted}
use Rattle.gib_core.specs.Ending.{Within, within_function, within_main}
use Rattle.gib_core.specs.Fits.{AtEnd, new_line, body_needs, none_of, Dest, dest_of, param_sort, body_scope, AllFit}
use Rattle.gib_weave.specs.Environment.{Ctx, Has, HasAll, IsDest}
use Rattle.gib_weave.specs.Continuing.{Plain, KEnd, Agrees}
use Rattle.gib_weave.specs.Paying.{Share, AtMost, Counted, left_costs, region_of}
use Rattle.gib_weave.specs.Places.{within, Owned, tail_covers, TailsHaveRoom, IsSmall, Apart}
use Rattle.gib_weave.specs.Stacks.{IsRoot}
use Rattle.gib_weave.specs.Sound.{counts, at_term, Safe, rests, moves, silent, draws, InMemory}
use Rattle.gib_weave.specs.Starting.{AreBodies, IsMain, IsArgument, first_doing, root_start}
use Rattle.gib_weave.proofs.Basics.{by_test}
use Rattle.gib_syntax.specs.Results as results
use Rattle.gib_code.specs.declared.instruction.AnswerType.TheVariants as of
use Rattle.gib_weave.proofs.Groups.{result_group}
use Rattle.gib_weave.proofs.Sorts.{is_field}
use Rattle.gib_weave.proofs.Places.{Apart-less, Apart-open, open-grows, open-small, SplitsAt, splits}
use Rattle.gib_weave.proofs.Grow.{StandsAt-grows}
use Rattle.gib_weave.proofs.Binds.{result_dest, result_type, no_result_cover}
use Rattle.gib_weave.proofs.CallFrames.{body_end, no_slot, nothing_bound}
use Rattle.gib_weave.proofs.Nests.{nests_within}
use Rattle.gib_weave.proofs.Ends.{heads_less}
use Rattle.gib_weave.proofs.Comes.{no_field}
use Rattle.gib_machine.proofs.Windows.{words_long}

-- No field is in scope where a body begins.

body_field : (n : ℕ) (ps : List Ty) (y : ℕ) → is_field (body_scope n ps y) ≡ false
body_field zero ps y = refl
body_field (suc n) [] zero = refl
body_field (suc n) [] (suc y) = body_field n [] y
body_field (suc n) (p ∷ ps) zero = no_field p
body_field (suc n) (p ∷ ps) (suc y) = body_field n ps y

no_fields : (fs : List StoredField) (n : ℕ) (ps : List Ty) → Agrees fs (body_scope n ps)
no_fields fs n ps = record { agrees = λ y t z x k p e. absurd (true≢false (sym (ap is_field e) ∙ body_field n ps y)) }

-- The code of a function of a name.

pub record Found (core : CoreTree) (code : CodeTree) (es : List Entry) (i : ℕ) (g : FunctionTerm) : Type 0 where
  pub until : ℕ
  pub slots : slots_at es i ≡ length g.parameters + length (binders g.body)
  pub low : Low core code (within_function core g) [] (start_at es i) g.body (Returns []) until

found : (core : CoreTree) (code : CodeTree) (a : ℕ) (gs : List FunctionTerm) (es : List Entry) → LowFunctions core code a gs es → (f : ℕ) (g : FunctionTerm) → function_at gs f ≡ Some g → Found core code es (function_number gs f) g
found core code a _ _ (low.main nm rs st sl lo) f g e = absurd (none-some _ e)
found core code a _ _ (low.function {z = z} {g = h} {gs = gs} {e = e} {es = es} nm rs st sl lo later) f g eq =
    by_test h.name.0 f (λ b. cond b (Some h) (function_at gs f) ≡ Some g → Found core code (e ∷ es) (cond b 0 (suc (function_number gs f))) g)
    (λ q r. subst (λ (k : FunctionTerm). Found core code (e ∷ es) 0 k) (same_Some _ _ r) (record { until = z; slots = sl; low = subst (λ (n : ℕ). Low core code (within_function core h) [] n h.body (Returns []) z) (sym st) lo }))
    (λ q r. let i = found core code z gs es later f g r in record { until = i.until; slots = i.slots; low = i.low })
    eq

record MainFound (core : CoreTree) (code : CodeTree) (es : List Entry) (i : ℕ) : Type 0 where
  pub until : ℕ
  pub slots : slots_at es i ≡ 1 + length (binders core.main.body)
  pub low : Low core code (within_main core) [] (start_at es i) core.main.body (Returns []) until

main_found : (core : CoreTree) (code : CodeTree) (a : ℕ) (gs : List FunctionTerm) (es : List Entry) → LowFunctions core code a gs es → MainFound core code es (length gs)
main_found core code a _ _ (low.main nm rs st sl lo) = record { until = length code.instructions; slots = sl; low = subst (λ (n : ℕ). Low core code (within_main core) [] n core.main.body (Returns []) (length code.instructions)) (sym st) lo }
main_found core code a _ _ (low.function {z = z} {gs = gs} {es = es} nm rs st sl lo later) = let i = main_found core code z gs es later in record { until = i.until; slots = i.slots; low = i.low }

pub lowered_bodies : (core : CoreTree) (code : CodeTree) → IsLowered core code → AllFit core → AreBodies core code
lowered_bodies core code lo fit = record {
  laid = lo.laid;
  table = subst (λ (q : LaidOut). IsTable q.table) (sym lo.laid) fit.table;
  bodies = λ f g e.
      let i = found core code 0 core.functions code.functions lo.functions f g e in
      let ft = fit.functions g f e in
      let n = slots_at code.functions (function_number core.functions f) in
      record {
        low = record { fields = []; until = i.until; low = i.low; agree = no_fields [] n g.parameters };
        fits = subst (λ (m : ℕ). Rattle.gib_core.specs.Fits.Fits core (body_needs core f) g.body (body_scope m g.parameters) (dest_of g.result) (new_line (within_function core g))) (sym i.slots) ft.fits;
        enough = subst (λ (m : ℕ). length g.parameters ≤ m) (sym i.slots) ft.enough;
        nests = nests_within core code (within_function core g) [] _ g.body (Returns []) i.until i.low;
      };
}

pub lowered_main : (core : CoreTree) (code : CodeTree) → IsLowered core code → AllFit core → IsMain core code
lowered_main core code lo fit =
    let i = main_found core code 0 core.functions code.functions lo.functions in
    let n = slots_at code.functions (length core.functions) in
    record {
      low = record { fields = []; until = i.until; low = i.low; agree = no_fields [] n (core.main.parameter ∷ []) };
      fits = subst (λ (m : ℕ). Rattle.gib_core.specs.Fits.Fits core (AtEnd none_of) core.main.body (body_scope m (core.main.parameter ∷ [])) (dest_of (results.One core.main.result)) (new_line (within_main core))) (sym i.slots) fit.main.fits;
      nests = nests_within core code (within_main core) [] _ core.main.body (Returns []) i.until i.low;
    }

-- The root.

argument_has : (laid : LaidOut) (s : Store) (c : Ctx) (p : Ty) (w : ℕ) (v : Datum) → IsArgument laid s p w v → Has laid s c (param_sort p) w v w 0
argument_has laid s c Whole w v h = h
argument_has laid s c Truth w v h = h
argument_has laid s c (Tree t) w v h = record { same = refl; stands = h }

argument_grows : (laid : LaidOut) (s r : Store) (p : Ty) (w : ℕ) (v : Datum) → Rattle.gib_mem.specs.Memory.Grows s r → IsArgument laid s p w v → IsArgument laid r p w v
argument_grows laid s r Whole w v g h = h
argument_grows laid s r Truth w v g h = h
argument_grows laid s r (Tree t) w v g h = StandsAt-grows g h

abbrev main_line : Within → ℕ → Ty → ℕ → Datum → Dest → ℕ → Ctx
main_line wi n p w v d a = record { scope = body_scope n (p ∷ []); env = (0, v) ∷ []; pl = λ y. slot (frame n (w ∷ [])) y; hd = λ y. 0; dest = d; front = a; head = 0; line = new_line wi }

main_has : (laid : LaidOut) (s : Store) (c : Ctx) (n : ℕ) (p : Ty) (w : ℕ) (v : Datum) (y : ℕ) → IsArgument laid s p w v → Has laid s c (body_scope n (p ∷ []) y) (slot (frame n (w ∷ [])) y) (value_in ((0, v) ∷ []) y) (slot (frame n (w ∷ [])) y) 0
main_has laid s c zero p w v y h = tt
main_has laid s c (suc n) p w v zero h = argument_has laid s c p w v h
main_has laid s c (suc n) p w v (suc y) h = nothing_bound laid s c n y (slot (frame n []) y) (slot (frame n []) y) 0 _

main_vars : (wi : Within) (laid : LaidOut) (s : Store) (n : ℕ) (p : Ty) (w : ℕ) (v : Datum) (d : Dest) (a : ℕ) → IsArgument laid s p w v → HasAll laid s (frame n (w ∷ [])) (main_line wi n p w v d a)
main_vars wi laid s n p w v d a h = record { has = λ y. main_has laid s (main_line wi n p w v d a) n p w v y h; wide = λ y g. subst (λ (q : ℕ). y < q) (sym (words_long n (w ∷ []))) (no_slot n (p ∷ []) y g); ends = λ y. body_end laid s n (p ∷ []) y (w ∷ []) _; even = words_long n [] ∙ sym (words_long n (w ∷ [])); told = λ q e. absurd (false≢true e); closes = tt }

root_of : (ty : Ty) (a : ℕ) → IsRoot ty a (record { start = a; cur = a } ∷ [])
root_of Whole a = tt
root_of Truth a = tt
root_of (Tree t) a = refl

-- The root between two instructions, or where it opens its region.
abbrev root_at : CoreTree → CodeTree → (w depth level rm : ℕ) → List OpenRegion → List ℕ → Doing → State
root_at core code w depth level rm rs tails d = record { ip = start_at code.functions (length core.functions); words = frame (slots_at code.functions (length core.functions)) (w ∷ []); frames = []; depth = depth; level = level; pars = []; side = []; regions = rs; tails = tails; room = rm; width = widest code.functions; gave = []; result = of.One core.main.result; parts = eight []; doing = d }

module _ (core : CoreTree) (code : CodeTree) (main : IsMain core code) (w depth level : ℕ) (v : Datum) where
  -- main's body is next
  begun : {own : Owned} {s : Store} {sh : Share} (rm : ℕ) (rs : List OpenRegion) (tails : List ℕ) (a : ℕ) → IsArgument code.laid s core.main.parameter w v → IsRoot core.main.result a rs → IsDest code.laid s (frame (slots_at code.functions (length core.functions)) (w ∷ [])) (main_line (within_main core) (slots_at code.functions (length core.functions)) core.main.parameter w v (dest_of (results.One core.main.result)) a) (dest_of (results.One core.main.result)) (cursor rs)
      → InMemory own s (λ q. 0) rs tails → times (suc depth) (nesting code) ≤ rm → Counted rs (left_costs core depth level (Plain core.main.body) ((0, v) ∷ []) (KEnd core.main.result)) sh
      → Safe core code (record { ty = results.One core.main.result; all = core_run core depth v; sides = [] }) own sh s (root_at core code w depth level rm rs tails Ready)
  begun {s = s} rm rs tails a arg ro de memory le counted =
      let n = slots_at code.functions (length core.functions) in
      let c = main_line (within_main core) n core.main.parameter w v (dest_of (results.One core.main.result)) a in
      rests (at_term {u = Plain core.main.body} {c = c} {k = KEnd core.main.result} record {
        ready = refl;
        group = result_group code.laid s core.main.result [] rs;
        low = main.low;
        fits = main.fits;
        line = record { kind = result_type (results.One core.main.result); matches = record { vars = main_vars (within_main core) code.laid s n core.main.parameter w v (dest_of (results.One core.main.result)) a arg; dest = de }; stack = ro; under = tt; given = tt; calm = tt };
        memory = heads_less (λ q. let i = no_result_cover code.laid c.head (results.One core.main.result) (KEnd core.main.result) q in omega (arith, i)) memory;
        ties = record { sides = refl; pars = refl; side = refl; result = refl; type = refl };
        owes = refl;
        counted = counted;
        room = record { free = tt; narrow = main.nests; nests = let h = main.nests in omega (arith, h, le); all_room = tt };
      })

-- before main's body: its region is due, where its result is packed
abbrev pub root_costs : CoreTree → (depth level : ℕ) → Datum → Ty → Cost
root_costs core depth level v u = plus (region_of u) (left_costs core depth level (Plain core.main.body) ((0, v) ∷ []) (KEnd core.main.result))

due_region : (t : Ty) → first_doing t ≡ Opening → region_of t ≡ one_region
due_region Whole f = absurd cc
due_region Truth f = absurd cc
due_region (Tree t) f = refl

dearer : (core : CoreTree) (depth level : ℕ) (v : Datum) (t : Ty) → core.main.result ≡ t → first_doing t ≡ Opening
    → AtMost (plus one_region (left_costs core depth level (Plain core.main.body) ((0, v) ∷ []) (KEnd core.main.result))) (root_costs core depth level v core.main.result)
dearer core depth level v t e f = same_most _ _ (ap (λ (c : Cost). plus c (left_costs core depth level (Plain core.main.body) ((0, v) ∷ []) (KEnd core.main.result))) (sym (ap region_of e ∙ due_region t f)))

pub root_starts : (core : CoreTree) (code : CodeTree) → IsMain core code → (own : Owned) (s : Store) (w depth level : ℕ) (v : Datum) (tails : List ℕ) → IsArgument code.laid s core.main.parameter w v → TailsHaveRoom tails → Apart own s (tail_covers tails) → IsSmall s → (sh : Share) → Counted [] (root_costs core depth level v core.main.result) sh
    → Safe core code (record { ty = results.One core.main.result; all = core_run core depth v; sides = [] }) own sh s (root_start core code w depth level tails)
root_starts core code main own s w depth level v tails arg tr ap9 sm sh counted = go core.main.result refl
  where
    from_ty : Ty → State
    from_ty u = root_at core code w depth level (suc (times (suc depth) (nesting code))) [] tails (first_doing u)

    scalar_root : (u : Ty) (a : ℕ) → is_scalar u ≡ true → IsRoot u a []
    scalar_root Whole a h = tt
    scalar_root Truth a h = tt
    scalar_root (Tree t) a h = absurd cc

    scalar_dest : (laid : LaidOut) (sl : Slots) (c : Ctx) (u : Ty) → is_scalar u ≡ true → IsDest laid s sl c (dest_of (results.One u)) 0
    scalar_dest laid sl c Whole h = tt
    scalar_dest laid sl c Truth h = tt
    scalar_dest laid sl c (Tree t) h = absurd cc

    scalar : (u : Ty) → core.main.result ≡ u → is_scalar u ≡ true → Safe core code (record { ty = results.One core.main.result; all = core_run core depth v; sides = [] }) own sh s (root_at core code w depth level (suc (times (suc depth) (nesting code))) [] tails Ready)
    scalar u e h = begun core code main w depth level v (suc (times (suc depth) (nesting code))) [] tails 0 arg (scalar_root core.main.result 0 (ap is_scalar e ∙ h)) (scalar_dest code.laid _ _ core.main.result (ap is_scalar e ∙ h)) (record { places = Apart-less ap9 (λ q. omega arith); rooms = tt; tail_rooms = tr; small = sm }) (omega arith) (goes_on_counted (record { regions = omega arith; items = omega arith }) counted)

    left : Cost
    left = left_costs core depth level (Plain core.main.body) ((0, v) ∷ []) (KEnd core.main.result)

    in_chunk : (t : Ty) → core.main.result ≡ t → first_doing t ≡ Opening → (d : ℕ) → Paid (record { start = 4096 * d; cur = 4096 * d } ∷ []) (left_costs core depth level (Plain core.main.body) ((0, v) ∷ []) (KEnd core.main.result)) sh 1
    in_chunk t e f d = chunk_counted (record { start = 4096 * d; cur = 4096 * d }) [] (root_costs core depth level v core.main.result) left sh d refl (dearer core depth level v t e f) counted

    in_tail : (t : Ty) → core.main.result ≡ t → first_doing t ≡ Opening → (a : ℕ) → Paid (record { start = a; cur = a } ∷ []) (left_costs core depth level (Plain core.main.body) ((0, v) ∷ []) (KEnd core.main.result)) sh 0
    in_tail t e f a = tail_counted (record { start = a; cur = a }) [] (root_costs core depth level v core.main.result) left sh (dearer core depth level v t e f) counted

    packed : (o : Option (List ℕ × ℕ)) → latest tails ≡ o → SplitsAt tails o → (t : Ty) → core.main.result ≡ t → first_doing t ≡ Opening → Safe core code (record { ty = results.One core.main.result; all = core_run core depth v; sides = [] }) own sh s (root_at core code w depth level (suc (times (suc depth) (nesting code))) [] tails Opening)
    packed None q h t e f =
        moves (draws (λ d. (in_chunk t e f d).share) (ap (begins (root_at core code w depth level (times (suc depth) (nesting code)) [] tails Opening) (λ t a. t)) q)
        (λ d new. (in_chunk t e f d).spends)
        (λ d new. begun core code main w depth level v (times (suc depth) (nesting code)) (record { start = 4096 * d; cur = 4096 * d } ∷ []) [] (4096 * d) (argument_grows code.laid s (open_chunk s d) core.main.parameter w v (open-grows s d new) arg)
        (root_of core.main.result (4096 * d)) (result_dest code.laid (open_chunk s d) _ _ (results.One core.main.result) (4096 * d) refl)
        (record {
          places = Apart-open d new ap9 (λ q. let i : rest (4096 * d) ≡ 4096 = omega arith in let j = ap (λ (z : ℕ). within (4096 * d) z q) i in omega (arith, j));
          rooms = (omega arith, tt);
          tail_rooms = tt;
          small = open-small s d new sm;
        })
        (omega arith) (in_chunk t e f d).counted))
    packed (Some p) q h t e f =
        let ro = h.rooms tr in
        moves (silent (ap (begins (root_at core code w depth level (times (suc depth) (nesting code)) [] tails Opening) (λ t a. t)) q)
        (counts (in_tail t e f p.1).spends (begun core code main w depth level v (times (suc depth) (nesting code)) (record { start = p.1; cur = p.1 } ∷ []) p.0 p.1 arg
        (root_of core.main.result p.1) (result_dest code.laid s _ _ (results.One core.main.result) p.1 refl)
        (record { places = Apart-less ap9 (λ q. let i = h.covers q in omega (arith, i)); rooms = (ro.1, tt); tail_rooms = ro.0; small = sm })
        (omega arith) (in_tail t e f p.1).counted)))

    go : (u : Ty) → core.main.result ≡ u → Safe core code (record { ty = results.One core.main.result; all = core_run core depth v; sides = [] }) own sh s (root_start core code w depth level tails)
    go Whole e = subst (λ (z : Ty). Safe core code (record { ty = results.One core.main.result; all = core_run core depth v; sides = [] }) own sh s (from_ty z)) (sym e) (scalar Whole e refl)
    go Truth e = subst (λ (z : Ty). Safe core code (record { ty = results.One core.main.result; all = core_run core depth v; sides = [] }) own sh s (from_ty z)) (sym e) (scalar Truth e refl)
    go (Tree t) e = subst (λ (z : Ty). Safe core code (record { ty = results.One core.main.result; all = core_run core depth v; sides = [] }) own sh s (from_ty z)) (sym e) (packed (latest tails) refl (splits tails) (Tree t) e refl)
