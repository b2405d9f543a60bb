-- What counts of faults tell of how a script ended.
use Rattle.std.proofs.Common.{◌≡◌, ◌∙◌, refl, sym, ap, subst, ℕ, ◌≤◌, List, Bool, Result, inl, inr, arith}
use Rattle.gib_edge.specs.Views.{Call, ReadOf, WriteOf, ShelfView, SinkView}
use Rattle.gib_script.specs.Script.{Script, Return, Fail, Choose, Read, Write, Put, Halt, World, LostCall, Follows}
use Rattle.gib_script.specs.Shapes.{IsCounted}

module _ {E X : Type 0} where
  same_counted : (w v : World) (r : Result X (Halt E)) → v ≡ w → IsCounted w v r
  same_counted w v r e =
      subst (λ (a : World). IsCounted w a r) (sym e)
      (record {
        reads_later = λ name. omega arith;
        writes_later = λ name. omega arith;
        out_later = omega arith;
        reads = λ h name. refl;
        writes = λ h name. refl;
        faults = λ h. refl;
      })

  -- a call that succeeded raised none
  still_then : (w m v : World) (r : Result X (Halt E)) → ((name : List ℕ) → m.shelf.reads name ≡ w.shelf.reads name) → ((name : List ℕ) → m.shelf.writes name ≡ w.shelf.writes name)
      → m.out.faults ≡ w.out.faults → IsCounted m v r → IsCounted w v r
  still_then w m v r reads writes faults k = record {
    reads_later = λ name. let L : ℕ → Type 0 = λ n. n ≤ v.shelf.reads name in subst L (reads name) (k.reads_later name);
    writes_later = λ name. let L : ℕ → Type 0 = λ n. n ≤ v.shelf.writes name in subst L (writes name) (k.writes_later name);
    out_later = let L : ℕ → Type 0 = λ n. n ≤ v.out.faults in subst L faults k.out_later;
    reads = λ h name. k.reads h name ∙ reads name;
    writes = λ h name. k.writes h name ∙ writes name;
    faults = λ h. k.faults h ∙ faults;
  }

  lost_counted : (w v : World) (r : Result X (Halt E)) (call : Call) → v.out ≡ w.out → LostCall w.shelf v.shelf call → IsCounted w v r
  lost_counted w v r call out h = record {
    reads_later = λ name. let e = h.reads name in omega (arith, e);
    writes_later = λ name. let e = h.writes name in omega (arith, e);
    out_later = let e = ap (λ (o : SinkView). o.faults) out in omega (arith, e);
    reads = λ other name. h.reads name;
    writes = λ other name. h.writes name;
    faults = λ other. ap (λ (o : SinkView). o.faults) out;
  }

  pub counted : (tells : Bool) (s : Script E X) (w v : World) (r : Result X (Halt E)) → Follows tells s w v r → IsCounted w v r
  counted tells (Return x) w v r h = same_counted w v r h.0
  counted tells (Fail e) w v r h = same_counted w v r h.0
  counted tells (Choose A P k) w v r (inl h) = same_counted w v r h.0
  counted tells (Choose A P k) w v r (inr h) = counted tells (k h.0) w v r h.2
  counted tells (Read name most k) w v r (inl (out, inl h)) = record {
    reads_later = h.1.later;
    writes_later = λ other. let e = h.1.writes other in omega (arith, e);
    out_later = let e = ap (λ (o : SinkView). o.faults) out in omega (arith, e);
    reads = λ other. absurd (other name h.0);
    writes = λ other. h.1.writes;
    faults = λ other. ap (λ (o : SinkView). o.faults) out;
  }
  counted tells (Read name most k) w v r (inl (out, inr h)) = lost_counted w v r (ReadOf name most) out h.1
  counted tells (Read name most k) w v r (inr h) =
      let m : World = record { shelf = h.0; out = w.out } in still_then w m v r h.2.reads h.2.writes refl (counted tells (k h.1) m v r h.3)
  counted tells (Write name bytes k) w v r (inl (out, inl h)) = record {
    reads_later = λ other. let e = h.1.reads other in omega (arith, e);
    writes_later = h.1.later;
    out_later = let e = ap (λ (o : SinkView). o.faults) out in omega (arith, e);
    reads = λ other. h.1.reads;
    writes = λ other. absurd (other name h.0);
    faults = λ other. ap (λ (o : SinkView). o.faults) out;
  }
  counted tells (Write name bytes k) w v r (inl (out, inr h)) = lost_counted w v r (WriteOf name) out h.1
  counted tells (Write name bytes k) w v r (inr h) =
      let m : World = record { shelf = h.0; out = w.out } in still_then w m v r h.1.reads h.1.writes refl (counted tells k m v r h.2)
  counted tells (Put bytes k) w v r (inl h) = record {
    reads_later = λ other. let e = ap (λ (o : ShelfView). o.reads other) h.0 in omega (arith, e);
    writes_later = λ other. let e = ap (λ (o : ShelfView). o.writes other) h.0 in omega (arith, e);
    out_later = h.2.later;
    reads = λ not' other. ap (λ (o : ShelfView). o.reads other) h.0;
    writes = λ not' other. ap (λ (o : ShelfView). o.writes other) h.0;
    faults = λ other. absurd (other h.1);
  }
  counted tells (Put bytes k) w v r (inr h) =
      let m : World = record { shelf = w.shelf; out = h.0 } in still_then w m v r (λ name. refl) (λ name. refl) h.1.quiet (counted tells k m v r h.2)
