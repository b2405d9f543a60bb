use Rattle.std.proofs.Common.{ℕ, List, Some, Ok, Err, subst}
use Rattle.gib_edge.specs.Causes.{Appends, AppendsPart}
use Rattle.gib_edge.specs.Views.{SinkView}
use Rattle.gib_script.specs.Script.{NoPut, DidPut, MissedPut}
use Rattle.gib_words.specs.Words.{bytes_of}
use Rattle.gib_located.specs.LocatedSource.{HasCoreText, IsFault}
use Rattle.gib_located.specs.LocatedScript.{halt_for}
use Rattle.gib_located.proofs.Faults.{fault_ends}
use Rattle.gib_located.proofs.Scripted.{world, unnamed, unread, answered, no_text, text_put, text_unput}
use Rattle.gib_located.proofs.located.call.Goals as goal

pub returns-in_default-clause-follows : goal.returns-in_default-clause-follows
returns-in_default-clause-follows g c =
    unnamed g.S.Shelf.tells (bytes_of c.args.words.now) (world (g.S.Shelf.view c.args.shelf.now) (g.O.Sink.view c.args.out.now)) c.in_default.ensures

pub returns-in-Err-clause-follows : goal.returns-in-Err-clause-follows
returns-in-Err-clause-follows g c =
    unread g.S.Shelf.tells (bytes_of c.args.words.now) c.in-Some.ensures.0 c.in-Some.name.now
    (g.S.Shelf.view c.args.shelf.now)
    (g.S.Shelf.view c.read_source.new.shelf)
    (g.O.Sink.view c.args.out.now)
    (halt_for c.in-Err.fault) c.in-Some.ensures.1 c.in-Err.ensures.follows

pub returns-in-Err-text_of-clause-fault : goal.returns-in-Err-text_of-clause-fault
returns-in-Err-text_of-clause-fault g c =
    fault_ends (bytes_of c.args.words.now) c.in-Ok.source.items
    (g.S.Shelf.view c.args.shelf.now)
    (g.S.Shelf.view c.read_source.new.shelf)
    (g.O.Sink.view c.args.out.now)
    (record { program = c.in-Some.ensures.0; name = c.in-Some.name.now; words_are = c.in-Some.ensures.1; held = c.in-Ok.ensures.bytes })
    c.in-Err-text_of.fault
    (subst (λ (source : List ℕ). IsFault source c.in-Err-text_of.fault) c.deref.ensures.value c.in-Err-text_of.ensures.fault)

pub returns-in-Err-text_of-clause-follows : goal.returns-in-Err-text_of-clause-follows
returns-in-Err-text_of-clause-follows g c =
    let mid = g.S.Shelf.view c.read_source.new.shelf in
    let out = g.O.Sink.view c.args.out.now in
    answered g.S.Shelf.tells (bytes_of c.args.words.now) c.in-Some.ensures.0 c.in-Some.name.now (g.S.Shelf.view c.args.shelf.now) mid out c.in-Ok.source.items
    (world mid out)
    (Err (halt_for c.in-Err-text_of.fault)) c.in-Some.ensures.1 c.in-Ok.ensures.follows
    (no_text g.S.Shelf.tells c.in-Ok.source.items (world mid out) c.in-Err-text_of.fault
    (subst (λ (source : List ℕ). IsFault source c.in-Err-text_of.fault) c.deref.ensures.value c.in-Err-text_of.ensures.fault))

pub returns-in-Ok-put_bytes-clause-printed : goal.returns-in-Ok-put_bytes-clause-printed
returns-in-Ok-put_bytes-clause-printed g c =
    let did : DidPut (g.O.Sink.view c.args.out.now) (g.O.Sink.view c.put_bytes.new.out) c.deref-2.result.now = c.in-Ok-put_bytes.ensures in
    record {
      source = c.in-Ok.source.items;
      read = record { program = c.in-Some.ensures.0; name = c.in-Some.name.now; words_are = c.in-Some.ensures.1; held = c.in-Ok.ensures.bytes };
      text = c.in-Ok-text_of.text.items;
      has_text = subst (λ (source : List ℕ). HasCoreText source (Some c.in-Ok-text_of.text.items)) c.deref.ensures.value c.in-Ok-text_of.ensures.text;
      put = subst (λ (bytes : List ℕ). Appends (g.O.Sink.view c.args.out.now).taken (g.O.Sink.view c.put_bytes.new.out).taken bytes) c.deref-2.ensures.value did.taken;
    }

pub returns-in-Ok-put_bytes-clause-follows : goal.returns-in-Ok-put_bytes-clause-follows
returns-in-Ok-put_bytes-clause-follows g c =
    let mid = g.S.Shelf.view c.read_source.new.shelf in
    let a : SinkView = g.O.Sink.view c.args.out.now in
    let b : SinkView = g.O.Sink.view c.put_bytes.new.out in
    let did : DidPut a b c.deref-2.result.now = c.in-Ok-put_bytes.ensures in
    answered g.S.Shelf.tells (bytes_of c.args.words.now) c.in-Some.ensures.0 c.in-Some.name.now (g.S.Shelf.view c.args.shelf.now) mid a c.in-Ok.source.items (world mid b) (Ok (tt {0}))
    c.in-Some.ensures.1 c.in-Ok.ensures.follows
    (text_put g.S.Shelf.tells c.in-Ok.source.items c.in-Ok-text_of.text.items mid a b
    (subst (λ (source : List ℕ). HasCoreText source (Some c.in-Ok-text_of.text.items)) c.deref.ensures.value c.in-Ok-text_of.ensures.text)
    (subst (λ (bytes : List ℕ). DidPut a b bytes) c.deref-2.ensures.value did))

pub returns-clause-fault : goal.returns-clause-fault
returns-clause-fault g c =
    let missed : MissedPut (g.O.Sink.view c.args.out.now) (g.O.Sink.view c.put_bytes.new.out) c.deref-2.result.now = c.in-Err-put_bytes.ensures in
    record {
      source = c.in-Ok.source.items;
      read = record { program = c.in-Some.ensures.0; name = c.in-Some.name.now; words_are = c.in-Some.ensures.1; held = c.in-Ok.ensures.bytes };
      text = c.in-Ok-text_of.text.items;
      has_text = subst (λ (source : List ℕ). HasCoreText source (Some c.in-Ok-text_of.text.items)) c.deref.ensures.value c.in-Ok-text_of.ensures.text;
      put = subst (λ (bytes : List ℕ). AppendsPart (g.O.Sink.view c.args.out.now).taken (g.O.Sink.view c.put_bytes.new.out).taken bytes) c.deref-2.ensures.value missed.taken;
      rose = missed.rose;
    }

pub returns-clause-follows : goal.returns-clause-follows
returns-clause-follows g c =
    let mid = g.S.Shelf.view c.read_source.new.shelf in
    let a : SinkView = g.O.Sink.view c.args.out.now in
    let b : SinkView = g.O.Sink.view c.put_bytes.new.out in
    let missed : MissedPut a b c.deref-2.result.now = c.in-Err-put_bytes.ensures in
    answered g.S.Shelf.tells (bytes_of c.args.words.now) c.in-Some.ensures.0 c.in-Some.name.now (g.S.Shelf.view c.args.shelf.now) mid a c.in-Ok.source.items (world mid b) (Err NoPut)
    c.in-Some.ensures.1 c.in-Ok.ensures.follows
    (text_unput g.S.Shelf.tells c.in-Ok.source.items c.in-Ok-text_of.text.items mid a b
    (subst (λ (source : List ℕ). HasCoreText source (Some c.in-Ok-text_of.text.items)) c.deref.ensures.value c.in-Ok-text_of.ensures.text)
    (subst (λ (bytes : List ℕ). MissedPut a b bytes) c.deref-2.ensures.value missed))
