-- What reads leave, one after another.
use Rattle.std.proofs.lemmas.List.{append-nil}
use Rattle.std.proofs.Common.{◌≡◌, ◌∙◌, refl, sym, ap, subst, List, [], ◌∷◌, ◌++◌, Option, Some, None, option_map, option_to_list, arith}
use Rattle.gib_edge.specs.Views.{Call, ShelfView}
use Rattle.gib_app.specs.declared.inputs.Input.{Input as KeptInput}
use Rattle.gib_app.specs.declared.stop.Stop.{Stop}
use Rattle.gib_app.specs.Calls.{read_calls, input_calls}
use Rattle.gib_app.specs.Causes.{first_of, further_of}
use Rattle.gib_app.specs.Formats.{Input}
use Rattle.gib_words.specs.Kept.{document_of}
use Rattle.gib_app.specs.Kept.{input_of}
use Rattle.gib_app.specs.Readings.{HasRead, HasStopped}
use Rattle.gib_app.proofs.Calling.{added_none, added_some, added_whole, added_two, added_front, added_part}

pub none_read : (s : ShelfView) → HasRead s s []
none_read s = record { same = λ name. refl; reads = λ name. refl; writes = λ name. refl; called = added_none s.calls }

pub none_begun : (s : ShelfView) (calls : List Call) (stop : Stop) → HasStopped s s calls stop
none_begun s calls stop = record {
  same = λ name. refl;
  later = λ name. omega arith;
  reads = λ other name. refl;
  writes = λ name. refl;
  once = added_some s.calls calls;
}

module _ (before now : ShelfView) (calls : List Call) where
  -- all was read, and then the call stopped
  pub stopped_behind : (stop : Stop) → HasRead before now calls → HasStopped before now calls stop
  stopped_behind stop h = record {
    same = h.same;
    later = λ name. let e = h.reads name in omega (arith, e);
    reads = λ other name. h.reads name;
    writes = h.writes;
    once = added_whole before.calls now.calls calls h.called;
  }

  pub stopped_in_front : (rest : List Call) (stop : Stop) → HasStopped before now calls stop → HasStopped before now (calls ++ rest) stop
  stopped_in_front rest stop h = record { same = h.same; later = h.later; reads = h.reads; writes = h.writes; once = added_front before.calls now.calls calls rest h.once }

module _ (before mid now : ShelfView) (xs ys : List Call) (h : HasRead before mid xs) where
  pub both_read : HasRead mid now ys → HasRead before now (xs ++ ys)
  both_read k = record {
    same = λ name. k.same name ∙ h.same name;
    reads = λ name. k.reads name ∙ h.reads name;
    writes = λ name. k.writes name ∙ h.writes name;
    called = added_two before.calls mid.calls now.calls xs ys h.called k.called;
  }

  pub stopped_next : (stop : Stop) → HasStopped mid now ys stop → HasStopped before now (xs ++ ys) stop
  stopped_next stop k = record {
    same = λ name. k.same name ∙ h.same name;
    later = λ name. let e = h.reads name in let f = k.later name in omega (arith, e, f);
    reads = λ other name. k.reads other name ∙ h.reads name;
    writes = λ name. k.writes name ∙ h.writes name;
    once = added_part before.calls mid.calls now.calls xs ys h.called k.once;
  }

-- The inputs are the first one and those behind it.
pub calls_parts : (is : List Input) → input_calls (first_of is) ++ input_calls (further_of is) ≡ input_calls is
calls_parts [] = refl
calls_parts (i ∷ rest) = ap (λ calls. calls ++ input_calls rest) (append-nil (read_calls i.document i.most))

module _ (before mid now : ShelfView) (is : List Input) where
  pub inputs_read : HasRead before mid (input_calls (first_of is)) → HasRead mid now (input_calls (further_of is)) → HasRead before now (input_calls is)
  inputs_read h k = let P : List Call → Type 0 = HasRead before now in subst P (calls_parts is) (both_read before mid now (input_calls (first_of is)) (input_calls (further_of is)) h k)

  pub first_stopped : (stop : Stop) → HasStopped before mid (input_calls (first_of is)) stop → HasStopped before mid (input_calls is) stop
  first_stopped stop h =
      let P : List Call → Type 0 = λ calls. HasStopped before mid calls stop in subst P (calls_parts is) (stopped_in_front before mid (input_calls (first_of is)) (input_calls (further_of is)) stop h)

  pub further_stopped : (stop : Stop) → HasRead before mid (input_calls (first_of is)) → HasStopped mid now (input_calls (further_of is)) stop → HasStopped before now (input_calls is) stop
  further_stopped stop h k =
      let P : List Call → Type 0 = λ calls. HasStopped before now calls stop in subst P (calls_parts is) (stopped_next before mid now (input_calls (first_of is)) (input_calls (further_of is)) h stop k)

-- The reads of the one input that there is, or none.
module _ (o : Option KeptInput) (is : List Input) (same : option_to_list (option_map input_of o) ≡ is) where
  pub none_there : (s : ShelfView) → o ≡ None → HasRead s s (input_calls is)
  none_there s e =
      let Q : Option KeptInput → Type 0 = λ x. option_to_list (option_map input_of x) ≡ is in
      let P : List Input → Type 0 = λ x. HasRead s s (input_calls x) in
      subst P (subst Q e same) (none_read s)

  calls_are : (i : KeptInput) → o ≡ Some i → read_calls (document_of i.document) i.most ≡ input_calls is
  calls_are i e =
      let Q : Option KeptInput → Type 0 = λ x. option_to_list (option_map input_of x) ≡ is in
      sym (append-nil (read_calls (document_of i.document) i.most)) ∙ ap input_calls (subst Q e same)

  pub one_read : (before now : ShelfView) (i : KeptInput) → o ≡ Some i → HasRead before now (read_calls (document_of i.document) i.most) → HasRead before now (input_calls is)
  one_read before now i e h = let P : List Call → Type 0 = HasRead before now in subst P (calls_are i e) h

  pub one_stopped : (before now : ShelfView) (i : KeptInput) (stop : Stop) → o ≡ Some i → HasStopped before now (read_calls (document_of i.document) i.most) stop → HasStopped before now (input_calls is) stop
  one_stopped before now i stop e h = let P : List Call → Type 0 = λ calls. HasStopped before now calls stop in subst P (calls_are i e) h
