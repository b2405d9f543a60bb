-- From the parts of making to the whole.
use Rattle.gib_base.specs.Texts.{TextsView}
use Rattle.std.proofs.Common.{◌≡◌, ◌∙◌, Bool, refl, ap, ℕ, ◌<◌, ◌≤◌, List, [], ◌∷◌, length, Option, Some, None, MatchOption, option_map, option_to_list, subst, sym, ◌⊎◌, inl, inr, arith}
use Rattle.std.specs.Option.{option_map_or}
use Rattle.gib_edge.specs.Causes.{Rose}
use Rattle.gib_edge.specs.Views.{ShelfView}
use Rattle.gib_types.specs.declared.table.Ty.{Ty}
use Rattle.gib_types.specs.Table.{Table}
use Rattle.gib_types.specs.Tree.{Datum}
use Rattle.gib_file.specs.Framed.{File}
use Rattle.gib_file.specs.Packed.{Packed as IsPackedIn}
use Rattle.gib_syntax.specs.Declarations.{table_of_program, input_type}
use Rattle.gib_base.specs.declared.token.Dialect.{Dialect}
use Rattle.gib_base.specs.declared.token.Dialect.TheVariants as dialect
use Rattle.gib_app.specs.Cores.{layouts_asked}
use Rattle.gib_app.specs.declared.input_fault.InputFault.{InputFault}
use Rattle.gib_app.specs.declared.input_fault.InputFault.TheVariants as input
use Rattle.gib_app.specs.declared.source_fault.SourceFault.TheVariants as source
use Rattle.gib_app.specs.declared.stop.Stop.{Stop}
use Rattle.gib_app.specs.declared.stop.Stop.TheVariants.{Source, Input}
use Rattle.gib_app.specs.declared.inputs.Input.{Input as KeptInput}
use Rattle.gib_words.specs.Kept.{document_of}
use Rattle.gib_app.specs.Kept.{input_of}
use Rattle.gib_words.specs.declared.plan.Options.{Options}
use Rattle.gib_app.specs.declared.inputs.Format.{Format}
use Rattle.gib_app.specs.declared.inputs.Format.TheVariants.{Packed, Packable, Shown, Journaled}
use Rattle.gib_app.specs.Rows.{Row, Says, Evaluates, PacksValue, ShowsFile, FollowsJournal, row}
use Rattle.gib_words.specs.Plan.{Document, BuiltIn, Named, Plan, Files, Contents}
use Rattle.gib_app.specs.Running.{Program, IsProgramIn, IsInput, IsSourceIn, IsNoProgram, IsNoProgramIn}
use Rattle.gib_app.specs.SourceFaults.{IsSourceFaultIn}
use Rattle.gib_app.specs.InputFaults.{IsInputFault, IsReplayFault}
use Rattle.gib_app.specs.Formats.{dialect_of, format_by, format_of, inputs_of, limit_of, limits_of, most_of, with_limits, Accepts, Refuses}
use Rattle.gib_app.specs.Formats.{Input as PlanInput}
use Rattle.gib_app.specs.Causes.{Holds, AreFurther, AreGiven, AreReached, OnSource, OnBoth, OnReached, IsUnread, AreUnread, FailsToRead, TakesFirst, first_of, further_of}
use Rattle.gib_app.specs.Stops.{IsCompileStop, IsReadStop, IsSourceStop, IsInputStop, IsLongFurther, IsFurtherStop, IsInputsStop, IsPackedStop, IsRunStop, FailsTo, IsMakeStop, IsStop, IsLongInput}
use Rattle.gib_app.specs.FromSource.{IsTakingStop}
use Rattle.gib_app.specs.Located.{IsLocatedStop}
use Rattle.gib_app.specs.Writes.{at_reading}
use Rattle.gib_app.proofs.Told.{document_before, further_before, held_before}
use Rattle.gib_app.proofs.Doing.{AcceptsBy, RefusesBy, shown_short}
use Rattle.gib_app.proofs.Refusals.{run_stop}
use Rattle.gib_app.proofs.StopMaps.{never, stays, stops_map}

-- what holds of the compiled program and the inputs holds of the plan's files
pub on_both : (kept : Files) (r : Plan) (d : Document) (p : Program) (names : TextsView) (given : Contents) (P : Program → TextsView → Contents → Type 0) → d ≡ r.source →
    OnSource kept d (λ source. IsProgramIn (dialect_of r.job) source names p) → AreGiven kept (inputs_of r) given → P p names given → OnBoth kept r P
on_both kept r d p names given P e on held h =
    let H : Document → Type 0 = λ x. Holds kept x on.source in
    record {
      source = on.source;
      given = given;
      source_held = subst H e on.source_held;
      given_held = held;
      holds = record { texts = names; program = p; is_program = on.holds; holds = h };
    }

source_here : (kept : Files) (r : Plan) (d : Document) (p : Program) (names : TextsView) → d ≡ r.source → OnSource kept d (λ source. IsProgramIn (dialect_of r.job) source names p) → OnSource kept r.source (IsSourceIn (dialect_of r.job))
source_here kept r d p names e on =
    let H : Document → Type 0 = λ x. Holds kept x on.source in
    record { source = on.source; source_held = subst H e on.source_held; holds = (names, p, on.holds) }

-- inputs that are given are reached
pub reached_all : (kept : Files) (p : Program) (names : TextsView) (is : List PlanInput) (given : Contents) → AreGiven kept is given → AreReached kept p names is given
reached_all kept p names [] given h = h
reached_all kept p names (i ∷ is) given h = (h.0, λ taken. h.1)

-- the first one is, where it is refused
reached_first : {names : TextsView} (kept : Files) (p : Program) (is : List PlanInput) (first : List ℕ) → (((v : Datum) × IsInput p.tree names v first) → ⊥) → AreGiven kept (first_of is) (record { second = first; further = [] }) →
    AreReached kept p names is (record { second = first; further = [] })
reached_first kept p [] first not' h = h
reached_first kept p (i ∷ is) first not' h = (h.0, λ taken. absurd (not' taken))

-- the first one and those behind it
joined : (kept : Files) (is : List PlanInput) (first : List ℕ) (further : List (List ℕ)) → AreGiven kept (first_of is) (record { second = first; further = [] }) → AreFurther kept (further_of is) further →
    AreGiven kept is (record { second = first; further = further })
joined kept [] first further h k = (h.0, k)
joined kept (i ∷ is) first further h k = (h.0, k)

-- they are read one after the other
pub inputs_given : (kept mid : Files) (is : List PlanInput) (first : List ℕ) (further : List (List ℕ)) → ((name : List ℕ) → mid name ≡ kept name) → AreGiven kept (first_of is) (record { second = first; further = [] }) →
    AreFurther mid (further_of is) further → AreGiven kept is (record { second = first; further = further })
inputs_given kept mid is first further same h k = joined kept is first further h (further_before kept mid (further_of is) further same k)

pub on_reached : (kept : Files) (r : Plan) (d : Document) (p : Program) (names : TextsView) (given : Contents) (P : Program → TextsView → Contents → Type 0) → d ≡ r.source →
    OnSource kept d (λ source. IsProgramIn (dialect_of r.job) source names p) → AreReached kept p names (inputs_of r) given → P p names given → OnReached kept r P
on_reached kept r d p names given P e on reached h =
    let H : Document → Type 0 = λ x. Holds kept x on.source in
    record {
      source = on.source;
      given = given;
      source_held = subst H e on.source_held;
      holds = record { texts = names; program = p; is_program = on.holds; holds = (reached, h) };
    }

-- the dialect of a job is told
pub in_dialect : (kept : Files) (r : Plan) (d : Document) (p : Program) (names : TextsView) (dl : Dialect) → dialect_of r.job ≡ dl → OnSource kept d (λ source. IsProgramIn dl source names p)
    → OnSource kept d (λ source. IsProgramIn (dialect_of r.job) source names p)
in_dialect kept r d p names dl e on = let P : Dialect → Type 0 = λ x. OnSource kept d (λ source. IsProgramIn x source names p) in subst P (sym e) on

pub stop_in : (before now : ShelfView) (r : Plan) (d : Document) (stop : Stop) (dl : Dialect) → dialect_of r.job ≡ dl → IsSourceStop dl before now d stop → IsSourceStop (dialect_of r.job) before now d stop
stop_in before now r d stop dl e h = let P : Dialect → Type 0 = λ x. IsSourceStop x before now d stop in subst P (sym e) h

-- why a source is not read, or not compiled

pub read_source : (dl : Dialect) (before now : ShelfView) (d : Document) (stop : Stop) → IsReadStop before now d stop → IsSourceStop dl before now d stop
read_source dl before now d stop h = stops_map _ _ _ _ _ _ _ _ _ _ stop h (never _) (stays _) (never _) (never _) (never _)

-- a source is no program in its dialect where it spells none
pub none_in : (source : List ℕ) → IsNoProgram source → IsNoProgramIn dialect.Source source
none_in source h texts p is = h texts p.tree is.0

compile_source : (before now : ShelfView) (d : Document) (source : List ℕ) → Holds before.kept d source → (stop : Stop) → IsCompileStop source stop → IsSourceStop dialect.Source before now d stop
compile_source before now d source held stop h = stops_map _ _ _ _ _ _ _ _ _ _ stop h (λ fault c. record { source = source; source_held = held; holds = (c.0, none_in source c.1) }) (never _) (never _) (never _) (never _)

locate_source : (before now : ShelfView) (d : Document) (source : List ℕ) → Holds before.kept d source → (stop : Stop) → IsLocatedStop source stop → IsSourceStop dialect.Located before now d stop
locate_source before now d source held stop h = stops_map _ _ _ _ _ _ _ _ _ _ stop h (λ fault c. record { source = source; source_held = held; holds = c }) (never _) (never _) (never _) (never _)

pub taking_source : (dl : Dialect) (before now : ShelfView) (d : Document) (source : List ℕ) → Holds before.kept d source → (stop : Stop) → IsTakingStop dl source stop → IsSourceStop dl before now d stop
taking_source dialect.Source before now d source held stop h = compile_source before now d source held stop h
taking_source dialect.Located before now d source held stop h = locate_source before now d source held stop h

-- a source with too many bytes is no program
pub long_source : (dl : Dialect) (before now : ShelfView) (d : Document) → OnSource before.kept d (λ bytes. 1048576 < length bytes) → IsSourceStop dl before now d (Source source.Long)
long_source dialect.Source before now d on = record {
  source = on.source;
  source_held = on.source_held;
  holds = (on.holds, λ texts p is. let short = is.0.spelled.short in let many = on.holds in omega (arith, short, many));
}
long_source dialect.Located before now d on = record {
  source = on.source;
  source_held = on.source_held;
  holds = (on.holds, λ texts p is. let short = is.local.short in let many = on.holds in omega (arith, short, many));
}

-- what is found where nothing is
pub found_none : {V : Type 0} (o : Option V) (A : Type 0) (B : V → Type 0) → o ≡ None → MatchOption o A B → A
found_none None A B e h = h
found_none (Some x) A B e h = cc

pub found_some : {V : Type 0} (o : Option V) (x : V) (A : Type 0) (B : V → Type 0) → o ≡ Some x → MatchOption o A B → B x
found_some None x A B e h = cc
found_some {V} (Some y) x A B e h = let same : y ≡ x = cc in subst B same h

-- The first input, or none

module _ (o : Option KeptInput) (r : Plan) (same : option_to_list (option_map input_of o) ≡ first_of (inputs_of r)) where
  one_input : (i : KeptInput) → o ≡ Some i → input_of i ∷ [] ≡ first_of (inputs_of r)
  one_input i e = let Q : Option KeptInput → Type 0 = λ x. option_to_list (option_map input_of x) ≡ first_of (inputs_of r) in subst Q e same

  pub held_none : (kept : Files) (bytes : List ℕ) → o ≡ None → bytes ≡ [] → AreGiven kept (first_of (inputs_of r)) (record { second = bytes; further = [] })
  held_none kept bytes e empty =
      let Q : Option KeptInput → Type 0 = λ x. option_to_list (option_map input_of x) ≡ first_of (inputs_of r) in
      let P : List PlanInput → Type 0 = λ is. AreGiven kept is (record { second = bytes; further = [] }) in
      subst P (subst Q e same) (empty, refl)

  pub held_one : (kept : Files) (i : KeptInput) (bytes : List ℕ) → o ≡ Some i → Holds kept (document_of i.document) bytes → AreGiven kept (first_of (inputs_of r)) (record { second = bytes; further = [] })
  held_one kept i bytes e h =
      let P : List PlanInput → Type 0 = λ is. AreGiven kept is (record { second = bytes; further = [] }) in
      subst P (one_input i e) (h, refl)

  pub long_input : (before now : ShelfView) (i : KeptInput) → o ≡ Some i → i.most ≡ most_of r.job → OnSource before.kept (document_of i.document) (λ bytes. i.most < length bytes) →
      IsInputStop before now r (Input (input.Long i.most))
  long_input before now i e most on = record {
    is = ap (λ n. input.Long n) most;
    given = record { second = on.source; further = [] };
    given_held = held_one before.kept i on.source e on.source_held;
    many = let M : ℕ → Type 0 = λ n. n < length on.source in subst M most on.holds;
  }

  -- why it is not read
  pub read_input_stop : (before now : ShelfView) (i : KeptInput) → o ≡ Some i → (stop : Stop) → IsReadStop before now (document_of i.document) stop → IsInputStop before now r stop
  read_input_stop before now i e stop h =
      stops_map _ _ _ _ _ _ _ _ _ _ stop h (never _) (λ name c. let P : List PlanInput → Type 0 = λ is. AreUnread before now is name in subst P (one_input i e) (inl c)) (never _) (never _) (never _)

-- The input behind it, or none

-- a replay alone has one
pub only_first : (most : ℕ) (documents : List Document) → further_of (with_limits (most ∷ []) documents) ≡ []
only_first most [] = refl
only_first most (d ∷ documents) = refl

follows : (r : Row) (documents : List Document) → (further_of (with_limits (option_map_or limits_of (format_by r) []) documents) ≡ [] → ⊥) → r ≡ FollowsJournal
follows (Says said) documents some = absurd (some refl)
follows (Evaluates way) documents some = absurd (some (only_first 16777216 documents))
follows PacksValue documents some = absurd (some (only_first 16777216 documents))
follows ShowsFile documents some = absurd (some (only_first 268435480 documents))
follows FollowsJournal documents some = refl

module _ (o : Option KeptInput) (r : Plan) (same : option_to_list (option_map input_of o) ≡ further_of (inputs_of r)) where
  one_further : (i : KeptInput) → o ≡ Some i → input_of i ∷ [] ≡ further_of (inputs_of r)
  one_further i e = let Q : Option KeptInput → Type 0 = λ x. option_to_list (option_map input_of x) ≡ further_of (inputs_of r) in subst Q e same

  replays : (i : KeptInput) → o ≡ Some i → row r.job ≡ FollowsJournal
  replays i e = follows (row r.job) r.inputs (λ none'. let same = one_further i e ∙ none' in cc)

  pub further_none : (kept : Files) → o ≡ None → AreFurther kept (further_of (inputs_of r)) []
  further_none kept e =
      let Q : Option KeptInput → Type 0 = λ x. option_to_list (option_map input_of x) ≡ further_of (inputs_of r) in
      let P : List PlanInput → Type 0 = λ is. AreFurther kept is [] in
      subst P (subst Q e same) refl

  pub further_one : (kept : Files) (i : KeptInput) (bytes : List ℕ) → o ≡ Some i → Holds kept (document_of i.document) bytes → AreFurther kept (further_of (inputs_of r)) (bytes ∷ [])
  further_one kept i bytes e h = let P : List PlanInput → Type 0 = λ is. AreFurther kept is (bytes ∷ []) in subst P (one_further i e) (h, refl)

  -- the first one has no more bytes than a packed file
  first_short : (i : KeptInput) → o ≡ Some i → (first : List ℕ) → length first ≤ most_of r.job → length first ≤ 16777216
  first_short i e first few = let P : Row → Type 0 = λ x. length first ≤ option_map_or limit_of (format_by x) 0 in subst P (replays i e) few

  -- it was looked over, and is a packed file
  pub first_taken : {names : TextsView} (i : KeptInput) → o ≡ Some i → (p : Program) (first : List ℕ) (table : Table) (ty : Ty) (payload : List ℕ) → length first ≤ most_of r.job → ((v : Datum) × IsPackedIn table ty v payload) →
      ((v : Datum) → IsPackedIn table ty v payload → File (table_of_program p.tree) names.long (input_type p.tree) v first) → (v : Datum) × IsInput p.tree names v first
  first_taken i e p first table ty payload few packed file = (packed.0, record { short = first_short i e first few; file = file packed.0 packed.1 })

  pub long_further : {names : TextsView} (before now : ShelfView) (i : KeptInput) → o ≡ Some i → i.most ≡ 16777216 → (p : Program) (first : List ℕ) → ((v : Datum) × IsInput p.tree names v first) →
      OnSource before.kept (document_of i.document) (λ bytes. i.most < length bytes) → IsFurtherStop before now r p names first (Input (input.Long i.most))
  long_further before now i e most p first taken on = inr (record {
    is = ap (λ n. input.Long n) most;
    taken = taken;
    bytes = on.source;
    held = further_one before.kept i on.source e on.source_held;
    many = let M : ℕ → Type 0 = λ n. n < length on.source in subst M most on.holds;
  })

  -- why it is not read: the first one is refused
  refused_first : (before now : ShelfView) (i : KeptInput) → o ≡ Some i → (p : Program) (names : TextsView) (first : List ℕ) (stop : Stop) → IsRunStop p.tree names first stop → IsFurtherStop before now r p names first stop
  refused_first before now i e p names first stop h = stops_map _ _ _ _ _ _ _ _ _ _ stop h (never _) (never _) (λ fault c. inl (replays i e, c.0, c.1)) (never _) (never _)

  pub unsurveyed : (before now : ShelfView) (i : KeptInput) → o ≡ Some i → (p : Program) (names : TextsView) (first : List ℕ) (stop : Stop) → length first ≤ most_of r.job →
      IsPackedStop (table_of_program p.tree) names.long (input_type p.tree) first stop → IsFurtherStop before now r p names first stop
  unsurveyed before now i e p names first stop few h = refused_first before now i e p names first stop (run_stop p.tree names first (first_short i e first few) stop h)

  -- or its own file is not read
  pub read_further_stop : {names : TextsView} (before now : ShelfView) (i : KeptInput) → o ≡ Some i → (p : Program) (first : List ℕ) → ((v : Datum) × IsInput p.tree names v first) → (stop : Stop) →
      IsReadStop before now (document_of i.document) stop → IsFurtherStop before now r p names first stop
  read_further_stop before now i e p first taken stop h =
      stops_map _ _ _ _ _ _ _ _ _ _ stop h (never _) (λ name c. let P : List PlanInput → Type 0 = λ is. AreUnread before now is name in (subst P (one_further i e) (inl c), taken)) (never _) (never _) (never _)

-- counts that stayed in the first part

unread_before : (before mid now : ShelfView) (d : Document) (name : List ℕ) → ((file : List ℕ) → mid.reads file ≡ before.reads file) → IsUnread mid now d name → IsUnread before now d name
unread_before before mid now (BuiltIn bytes) name e h = h
unread_before before mid now (Named file) name e h =
    let P : ℕ → Type 0 = λ n. Rose n (now.reads name) in (h.0, subst P (e name) h.1)

inputs_unread_before : (before mid now : ShelfView) (is : List PlanInput) (name : List ℕ) → ((file : List ℕ) → mid.reads file ≡ before.reads file) → AreUnread mid now is name → AreUnread before now is name
inputs_unread_before before mid now [] name e h = h
inputs_unread_before before mid now (i ∷ is) name e (inl h) = inl (unread_before before mid now i.document name e h)
inputs_unread_before before mid now (i ∷ is) name e (inr h) = inr (inputs_unread_before before mid now is name e h)

-- Why inputs are not read

-- a first input that is too long is refused, and what is behind it is not reached

record IsLongFirst (kept : Files) (format : Option Format) (options : Options) (documents : List Document) (p : Program) (names : TextsView) (given : Contents) : Type 0 where
  reached : AreReached kept p names (with_limits (option_map_or limits_of format []) documents) given
  refused : RefusesBy format options p names given (input.Long (option_map_or limit_of format 0))
  not_accepted : AcceptsBy format options p names given → ⊥

long_reached : (kept : Files) (p : Program) (names : TextsView) (most : ℕ) (limits : List ℕ) (documents : List Document) (given : Contents) → 16777216 ≤ most → most < length given.second →
    AreGiven kept (first_of (with_limits (most ∷ limits) documents)) given → AreReached kept p names (with_limits (most ∷ limits) documents) given
long_reached kept p names most limits [] given room many h = h
long_reached kept p names most limits (d ∷ documents) given room many h = (h.0, λ taken. let short = taken.1.short in absurd (omega (arith, room, many, short)))

module _ (kept : Files) (options : Options) (documents : List Document) (p : Program) (names : TextsView) (given : Contents) where
  long_packed : (most : ℕ) → 16777216 ≤ most → most < length given.second → (v : Datum) → IsInput p.tree names v given.second → ⊥
  long_packed most room many v is = let short = is.short in omega (arith, room, many, short)

  long_first : (format : Option Format) → AreGiven kept (first_of (with_limits (option_map_or limits_of format []) documents)) given → option_map_or limit_of format 0 < length given.second →
      IsLongFirst kept format options documents p names given
  long_first None h many = absurd (omega (arith, many, ap length h.0))
  long_first (Some Packed) h many = record {
    reached = long_reached kept p names 16777216 [] documents given (omega arith) many h;
    refused = (refl, many);
    not_accepted = λ a. long_packed 16777216 (omega arith) many a.0 a.1;
  }
  long_first (Some Packable) h many = record {
    reached = long_reached kept p names 16777216 [] documents given (omega arith) many h;
    refused = (refl, inl many);
    not_accepted = λ a. let short = a.1.short in absurd (omega (arith, many, short));
  }
  long_first (Some Shown) h many = record {
    reached = long_reached kept p names 268435480 [] documents given (omega arith) many h;
    refused = inl (refl, many);
    not_accepted = λ a. let short = shown_short p.tree (layouts_asked options p.tree) a.0 given.second a.1 in absurd (omega (arith, many, short));
  }
  long_first (Some Journaled) h many = record {
    reached = long_reached kept p names 16777216 (16777216 ∷ []) documents given (omega arith) many h;
    refused = inl (refl, many);
    not_accepted = λ a. long_packed 16777216 (omega arith) many a.value a.is_input;
  }

pub first_stops : (before now : ShelfView) (r : Plan) (p : Program) (names : TextsView) (stop : Stop) → IsInputStop before now r stop → IsInputsStop before now r p names stop
first_stops before now r p names stop h = stops_map _ _ _ _ _ _ _ _ _ _ stop h (never _) (λ name c. inl c) refused (never _) (never _)
  where
    refused : (fault : InputFault) → IsLongInput before.kept r fault → IsInputsStop before now r p names (Input fault)
    refused fault c =
        let long = long_first before.kept r.options r.inputs p names c.given (format_of r.job) c.given_held c.many in
        let P : InputFault → Type 0 = λ f. Refuses r.job r.options p names c.given f in
        (c.given, long.reached, subst P (sym c.is) long.refused, long.not_accepted)

-- a replay whose first input is refused
replay_fault : (p : Program) (names : TextsView) (first journal : List ℕ) (fault : InputFault) → IsInputFault p.tree names first fault → IsReplayFault p.tree names first journal fault
replay_fault p names first journal (input.Long most) h = inl h
replay_fault p names first journal (input.Packed fault) h = h
replay_fault p names first journal (input.Image fault) h = h
replay_fault p names first journal (input.Text place) h = h
replay_fault p names first journal (input.Journal fault) h = absurd h

module _ (before mid now : ShelfView) (r : Plan) (p : Program) (names : TextsView) (first : List ℕ)
    (same : (name : List ℕ) → mid.kept name ≡ before.kept name) (reads : (name : List ℕ) → mid.reads name ≡ before.reads name)
    (held : AreGiven before.kept (first_of (inputs_of r)) (record { second = first; further = [] })) where
  refused_there : (fault : InputFault) → (row r.job ≡ FollowsJournal) × IsInputFault p.tree names first fault × (((v : Datum) × IsInput p.tree names v first) → ⊥) → IsInputsStop before now r p names (Input fault)
  refused_there fault h =
      let given : Contents = record { second = first; further = [] } in
      let R : Row → Type 0 = λ x. RefusesBy (format_by x) r.options p names given fault × (AcceptsBy (format_by x) r.options p names given → ⊥) in
      let refused = subst R (sym h.0) (replay_fault p names first [] fault h.1, λ a. h.2 (a.value, a.is_input)) in
      (given, reached_first {names = names} before.kept p (inputs_of r) first h.2 held, refused.0, refused.1)

  long_there : (fault : InputFault) → IsLongFurther mid.kept r p names first fault → IsInputsStop before now r p names (Input fault)
  long_there fault h =
      let given : Contents = record { second = first; further = h.bytes ∷ [] } in
      let behind = further_before before.kept mid.kept (further_of (inputs_of r)) (h.bytes ∷ []) same h.held in
      let F : List PlanInput → Type 0 = λ is. AreFurther before.kept is (h.bytes ∷ []) in
      let replay = follows (row r.job) r.inputs (λ none'. let same = subst F none' behind in cc) in
      let R : Row → Type 0 = λ x. RefusesBy (format_by x) r.options p names given fault × (AcceptsBy (format_by x) r.options p names given → ⊥) in
      let L : InputFault → Type 0 = λ f. IsReplayFault p.tree names first h.bytes f in
      let many = h.many in
      let refused = subst R (sym replay) (subst L (sym h.is) (inr (h.taken, refl, many)), λ a. let short = a.is_journal.short in absurd (omega (arith, many, short))) in
      (given, reached_all before.kept p names (inputs_of r) given (joined before.kept (inputs_of r) first (h.bytes ∷ []) held behind), refused.0, refused.1)

  pub further_stops : (stop : Stop) → IsFurtherStop mid now r p names first stop → IsInputsStop before now r p names stop
  further_stops stop h = stops_map _ _ _ _ _ _ _ _ _ _ stop h (never _) unread refused (never _) (never _)
    where
      unread : (name : List ℕ) → AreUnread mid now (further_of (inputs_of r)) name × ((v : Datum) × IsInput p.tree names v first)
          → AreUnread before now (first_of (inputs_of r)) name ⊎ (AreUnread before now (further_of (inputs_of r)) name × ((given : Contents) × AreGiven before.kept (first_of (inputs_of r)) given × ((v : Datum) × IsInput p.tree names v given.second)))
      unread name c = inr (inputs_unread_before before mid now (further_of (inputs_of r)) name reads c.0, (record { second = first; further = [] }, held, c.1))

      refused : (fault : InputFault) → ((row r.job ≡ FollowsJournal) × IsInputFault p.tree names first fault × (((v : Datum) × IsInput p.tree names v first) → ⊥)) ⊎ IsLongFurther mid.kept r p names first fault
          → IsInputsStop before now r p names (Input fault)
      refused fault (inl c) = refused_there fault c
      refused fault (inr c) = long_there fault c

-- what a job does not make of its inputs
pub inputs_refused : (before now : ShelfView) (r : Plan) (p : Program) (names : TextsView) (given : Contents) → AreGiven before.kept (inputs_of r) given → (stop : Stop) → FailsTo r.job r.options p names given stop → IsInputsStop before now r p names stop
inputs_refused before now r p names given held stop h =
    stops_map _ _ _ _ _ _ _ _ _ _ stop h (never _) (never _) (λ fault c. (given, reached_all before.kept p names (inputs_of r) given held, c.0, c.1)) (never _) (never _)

-- a stop at the source is one of the request
pub source_stop : (before now : ShelfView) (r : Plan) (d : Document) → d ≡ r.source → (stop : Stop) → IsSourceStop (dialect_of r.job) before now d stop → IsMakeStop before now r stop
source_stop before now r d e stop h =
    stops_map _ _ _ _ _ _ _ _ _ _ stop h
    (λ fault c. let P : Document → Type 0 = λ x. OnSource before.kept x (λ bytes. IsSourceFaultIn (dialect_of r.job) bytes fault × IsNoProgramIn (dialect_of r.job) bytes) in subst P e c)
    (λ name c. let P : Document → Type 0 = λ x. IsUnread before now x name in inl (subst P e c)) (never _) (never _) (never _)

-- what the inputs are in a later view, they are in the one before
reached_before : (kept now : Files) (p : Program) (names : TextsView) (is : List PlanInput) (given : Contents) → ((name : List ℕ) → now name ≡ kept name) → AreReached now p names is given → AreReached kept p names is given
reached_before kept now p names [] given e h = h
reached_before kept now p names (i ∷ is) given e h = (document_before kept now i.document given.second e h.0, λ taken. further_before kept now is given.further e (h.1 taken))

takes_first : (kept mid : Files) (r : Plan) (d : Document) (p : Program) (names : TextsView) → d ≡ r.source → ((name : List ℕ) → mid name ≡ kept name) → OnSource kept d (λ source. IsProgramIn (dialect_of r.job) source names p) →
    ((given : Contents) × AreGiven mid (first_of (inputs_of r)) given × ((v : Datum) × IsInput p.tree names v given.second)) → TakesFirst kept r
takes_first kept mid r d p names e same on h =
    let H : Document → Type 0 = λ x. Holds kept x on.source in
    record {
      source = on.source;
      given = h.0;
      source_held = subst H e on.source_held;
      given_held = held_before kept mid (first_of (inputs_of r)) h.0 same h.1;
      holds = record { texts = names; program = p; is_program = on.holds; holds = h.2 };
    }

module _ (before mid now : ShelfView) (r : Plan) (d : Document) (p : Program) (names : TextsView) (e : d ≡ r.source)
    (same : (name : List ℕ) → mid.kept name ≡ before.kept name) (reads : (name : List ℕ) → mid.reads name ≡ before.reads name) (on : OnSource before.kept d (λ source. IsProgramIn (dialect_of r.job) source names p)) where
  pub inputs_stop : (stop : Stop) → IsInputsStop mid now r p names stop → IsMakeStop before now r stop
  inputs_stop stop h = stops_map _ _ _ _ _ _ _ _ _ _ stop h (never _) unread refused (never _) (never _)
    where
      unread : (name : List ℕ) → AreUnread mid now (first_of (inputs_of r)) name
          ⊎ (AreUnread mid now (further_of (inputs_of r)) name × ((given : Contents) × AreGiven mid.kept (first_of (inputs_of r)) given × ((v : Datum) × IsInput p.tree names v given.second))) → FailsToRead before.kept before now r name
      unread name (inl c) = inr (inl (inputs_unread_before before mid now (first_of (inputs_of r)) name reads c, source_here before.kept r d p names e on))
      unread name (inr c) = inr (inr (inputs_unread_before before mid now (further_of (inputs_of r)) name reads c.0, takes_first before.kept mid.kept r d p names e same on c.1))

      refused : (fault : InputFault) → ((given : Contents) × AreReached mid.kept p names (inputs_of r) given × Refuses r.job r.options p names given fault × (Accepts r.job r.options p names given → ⊥))
          → OnReached before.kept r (λ q ns given. Refuses r.job r.options q ns given fault × (Accepts r.job r.options q ns given → ⊥))
      refused fault c =
          on_reached before.kept r d p names c.0 (λ q ns given. Refuses r.job r.options q ns given fault × (Accepts r.job r.options q ns given → ⊥)) e on
          (reached_before before.kept mid.kept p names (inputs_of r) c.0 same c.1) (c.2, c.3)

-- What is made of files, and why it is not, after the first writes

source_from : (kept start : Files) (d : Document) (P : List ℕ → Type 0) → ((name : List ℕ) → start name ≡ kept name) → OnSource start d P → OnSource kept d P
source_from kept start d P e on = record { source = on.source; source_held = document_before kept start d on.source e on.source_held; holds = on.holds }

pub both_from : (kept start : Files) (r : Plan) (P : Program → TextsView → Contents → Type 0) → ((name : List ℕ) → start name ≡ kept name) → OnBoth start r P → OnBoth kept r P
both_from kept start r P e on = record {
  source = on.source;
  given = on.given;
  source_held = document_before kept start r.source on.source e on.source_held;
  given_held = held_before kept start (inputs_of r) on.given e on.given_held;
  holds = on.holds;
}

reached_from : (kept start : Files) (r : Plan) (P : Program → TextsView → Contents → Type 0) → ((name : List ℕ) → start name ≡ kept name) → OnReached start r P → OnReached kept r P
reached_from kept start r P e on = record {
  source = on.source;
  given = on.given;
  source_held = document_before kept start r.source on.source e on.source_held;
  holds = record {
    texts = on.holds.texts;
    program = on.holds.program;
    is_program = on.holds.is_program;
    holds = (reached_before kept start on.holds.program on.holds.texts (inputs_of r) on.given e on.holds.holds.0, on.holds.holds.1);
  };
}

takes_from : (kept start : Files) (r : Plan) → ((name : List ℕ) → start name ≡ kept name) → TakesFirst start r → TakesFirst kept r
takes_from kept start r e on = record {
  source = on.source;
  given = on.given;
  source_held = document_before kept start r.source on.source e on.source_held;
  given_held = held_before kept start (first_of (inputs_of r)) on.given e on.given_held;
  holds = on.holds;
}

module _ (tells : Bool) (before start now : ShelfView) (r : Plan) (same : (name : List ℕ) → start.kept name ≡ at_reading tells before.kept r name) (reads : (name : List ℕ) → start.reads name ≡ before.reads name) where
  fails_from : (name : List ℕ) → FailsToRead start.kept start now r name → FailsToRead (at_reading tells before.kept r) before now r name
  fails_from name (inl h) = inl (unread_before before start now r.source name reads h)
  fails_from name (inr (inl h)) = inr (inl (inputs_unread_before before start now (first_of (inputs_of r)) name reads h.0, source_from (at_reading tells before.kept r) start.kept r.source (IsSourceIn (dialect_of r.job)) same h.1))
  fails_from name (inr (inr h)) = inr (inr (inputs_unread_before before start now (further_of (inputs_of r)) name reads h.0, takes_from (at_reading tells before.kept r) start.kept r same h.1))

  pub make_stop : (stop : Stop) → IsMakeStop start now r stop → IsStop tells before now r stop
  make_stop stop h =
      stops_map _ _ _ _ _ _ _ _ _ _ stop h
      (λ fault c. source_from (at_reading tells before.kept r) start.kept r.source (λ bytes. IsSourceFaultIn (dialect_of r.job) bytes fault × IsNoProgramIn (dialect_of r.job) bytes) same c) fails_from
      (λ fault c. reached_from (at_reading tells before.kept r) start.kept r (λ p names given. Refuses r.job r.options p names given fault × (Accepts r.job r.options p names given → ⊥)) same c) (never _) (never _)
