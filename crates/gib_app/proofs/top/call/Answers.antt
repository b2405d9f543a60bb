use Rattle.std.proofs.Common.{◌≡◌, List, ℕ, length, Option, Some, None, Err, MatchOption, ap, subst}
use Rattle.gib_print.specs.declared.fault.PrintFault.{PrintFault}
use Rattle.gib_edge.specs.Causes.{Appends, AppendsPart, PutsPieces, PutsSomePieces}
use Rattle.gib_app.specs.declared.made.End.{End as KeptEnd}
use Rattle.gib_words.specs.declared.plan.Plan.{Plan as KeptPlan}
use Rattle.gib_words.specs.Words.{asked, bytes_of}
use Rattle.gib_words.specs.Kept.{plan_of}
use Rattle.gib_script.specs.Script.{World}
use Rattle.gib_app.specs.Performing.{IsPerformed}
use Rattle.gib_app.proofs.Answering.{no_memory, not_taken, unperformed, valueless, text_put, text_unput, value_put, value_unput, value_not_put}
use Rattle.gib_app.proofs.top.call.Goals as goal

-- ---- The words

pub returns-in-Err-clause-stop : goal.returns-in-Err-clause-stop
returns-in-Err-clause-stop g c = no_memory g.S.Shelf.tells (bytes_of c.args.words.now) (record { shelf = g.S.Shelf.view c.args.shelf.now; out = g.O.Sink.view c.args.out.now })

pub returns-in_default-clause-stop : goal.returns-in_default-clause-stop
returns-in_default-clause-stop g c =
    let words = bytes_of c.args.words.now in
    let M : Option KeptPlan → Type 0 = λ o. MatchOption o (asked words ≡ None) (λ r. asked words ≡ Some (plan_of r)) in
    not_taken g.S.Shelf.tells words (record { shelf = g.S.Shelf.view c.args.shelf.now; out = g.O.Sink.view c.args.out.now }) (subst M c.in_default.is c.in-Ok.ensures)

pub perform-requires-clause-asked : goal.perform-requires-clause-asked
perform-requires-clause-asked g c κs within =
    let words = bytes_of c.args.words.now in
    let M : Option KeptPlan → Type 0 = λ o. MatchOption o (asked words ≡ None) (λ r. asked words ≡ Some (plan_of r)) in
    (words, subst M c.in-Some.is c.in-Ok.ensures)

-- ---- A text

pub returns-in-Ok-put_all-clause-done : goal.returns-in-Ok-put_all-clause-done
returns-in-Ok-put_all-clause-done g c =
    let words = bytes_of c.args.words.now in
    let M : Option KeptPlan → Type 0 = λ o. MatchOption o (asked words ≡ None) (λ r. asked words ≡ Some (plan_of r)) in
    let is = subst M c.in-Some.is c.in-Ok.ensures in
    let tells = g.S.Shelf.tells in
    let r = plan_of c.in-Some.plan in
    let before = g.S.Shelf.view c.args.shelf.now in
    let now' = g.S.Shelf.view c.perform.new.shelf in
    let a = g.O.Sink.view c.args.out.now in
    let b = g.O.Sink.view c.put_all.new.out in
    let w : World = record { shelf = before; out = a } in
    let v : World = record { shelf = now'; out = b } in
    let D : KeptEnd → Type 0 = IsPerformed tells before now' r in
    let T : List ℕ → Type 0 = λ bytes. Appends a.taken b.taken bytes × PutsPieces a b (length bytes) in
    let put = subst T c.deref.ensures.value (c.in-Ok-put_all.ensures.ok, c.in-Ok-put_all.ensures.pieces) in
    text_put tells words r is w v _ c.in-Ok-Prints.text.items (λ file packed P h. h) (subst D c.in-Ok-Prints.field-0-is c.in-Ok-Prints.ensures.done) put.0 put.1 c.in-Ok-put_all.ensures.cause.quiet

pub returns-in-Ok-Prints-clause-stop : goal.returns-in-Ok-Prints-clause-stop
returns-in-Ok-Prints-clause-stop g c =
    let words = bytes_of c.args.words.now in
    let M : Option KeptPlan → Type 0 = λ o. MatchOption o (asked words ≡ None) (λ r. asked words ≡ Some (plan_of r)) in
    let is = subst M c.in-Some.is c.in-Ok.ensures in
    let tells = g.S.Shelf.tells in
    let r = plan_of c.in-Some.plan in
    let before = g.S.Shelf.view c.args.shelf.now in
    let now' = g.S.Shelf.view c.perform.new.shelf in
    let a = g.O.Sink.view c.args.out.now in
    let b = g.O.Sink.view c.put_all.new.out in
    let w : World = record { shelf = before; out = a } in
    let v : World = record { shelf = now'; out = b } in
    let D : KeptEnd → Type 0 = IsPerformed tells before now' r in
    let T : List ℕ → Type 0 = λ bytes. AppendsPart a.taken b.taken bytes × PutsSomePieces a b (length bytes) in
    let put = subst T c.deref.ensures.value (c.in-Err-put_all.ensures.part, c.in-Err-put_all.ensures.some) in
    text_unput tells words r is w v _ c.in-Ok-Prints.text.items (λ file packed P h. h) (subst D c.in-Ok-Prints.field-0-is c.in-Ok-Prints.ensures.done) put.0 put.1 c.in-Err-put_all.ensures.cause.failed

-- ---- A value in region memory

pub returns-in-Ok-put_value-clause-done : goal.returns-in-Ok-put_value-clause-done
returns-in-Ok-put_value-clause-done g c =
    let words = bytes_of c.args.words.now in
    let M : Option KeptPlan → Type 0 = λ o. MatchOption o (asked words ≡ None) (λ r. asked words ≡ Some (plan_of r)) in
    let is = subst M c.in-Some.is c.in-Ok.ensures in
    let tells = g.S.Shelf.tells in
    let r = plan_of c.in-Some.plan in
    let before = g.S.Shelf.view c.args.shelf.now in
    let now' = g.S.Shelf.view c.perform.new.shelf in
    let a = g.O.Sink.view c.args.out.now in
    let b = g.O.Sink.view c.put_value.new.out in
    let w : World = record { shelf = before; out = a } in
    let v : World = record { shelf = now'; out = b } in
    let D : KeptEnd → Type 0 = IsPerformed tells before now' r in
    value_put tells words r is w v c.in-Ok-Value.value (subst D c.in-Ok-Value.field-0-is c.in-Ok-Value.ensures.done) c.in-Ok-put_value.ensures.done (c.in-Ok-put_value.ensures.quiet (λ failed. cc))

pub returns-in-Err-Write-clause-stop : goal.returns-in-Err-Write-clause-stop
returns-in-Err-Write-clause-stop g c =
    let words = bytes_of c.args.words.now in
    let M : Option KeptPlan → Type 0 = λ o. MatchOption o (asked words ≡ None) (λ r. asked words ≡ Some (plan_of r)) in
    let is = subst M c.in-Some.is c.in-Ok.ensures in
    let tells = g.S.Shelf.tells in
    let r = plan_of c.in-Some.plan in
    let before = g.S.Shelf.view c.args.shelf.now in
    let now' = g.S.Shelf.view c.perform.new.shelf in
    let a = g.O.Sink.view c.args.out.now in
    let b = g.O.Sink.view c.put_value.new.out in
    let w : World = record { shelf = before; out = a } in
    let v : World = record { shelf = now'; out = b } in
    let D : KeptEnd → Type 0 = IsPerformed tells before now' r in
    let failed = ap (λ (f : PrintFault). Err f) c.in-Err-Write.field-0-is in
    value_unput tells words r is w v c.in-Ok-Value.value (subst D c.in-Ok-Value.field-0-is c.in-Ok-Value.ensures.done) (λ text t. c.in-Err-Write.ensures.part text t failed) (c.in-Err-Write.ensures.cause failed)

pub returns-in-Ok-Value-clause-stop : goal.returns-in-Ok-Value-clause-stop
returns-in-Ok-Value-clause-stop g c =
    let words = bytes_of c.args.words.now in
    let M : Option KeptPlan → Type 0 = λ o. MatchOption o (asked words ≡ None) (λ r. asked words ≡ Some (plan_of r)) in
    let is = subst M c.in-Some.is c.in-Ok.ensures in
    let tells = g.S.Shelf.tells in
    let r = plan_of c.in-Some.plan in
    let before = g.S.Shelf.view c.args.shelf.now in
    let now' = g.S.Shelf.view c.perform.new.shelf in
    let a = g.O.Sink.view c.args.out.now in
    let b = g.O.Sink.view c.put_value.new.out in
    let w : World = record { shelf = before; out = a } in
    let v : World = record { shelf = now'; out = b } in
    let D : KeptEnd → Type 0 = IsPerformed tells before now' r in
    let failed = ap (λ (f : PrintFault). Err f) c.in-Err-Memory.field-0-is in
    value_not_put tells words r is w v c.in-Ok-Value.value (subst D c.in-Ok-Value.field-0-is c.in-Ok-Value.ensures.done) (c.in-Err-Memory.ensures.still failed)

-- ---- No value, or another stop

pub returns-in-Ok-NoValue-clause-stop : goal.returns-in-Ok-NoValue-clause-stop
returns-in-Ok-NoValue-clause-stop g c =
    let words = bytes_of c.args.words.now in
    let M : Option KeptPlan → Type 0 = λ o. MatchOption o (asked words ≡ None) (λ r. asked words ≡ Some (plan_of r)) in
    let is = subst M c.in-Some.is c.in-Ok.ensures in
    let tells = g.S.Shelf.tells in
    let r = plan_of c.in-Some.plan in
    let before = g.S.Shelf.view c.args.shelf.now in
    let now' = g.S.Shelf.view c.perform.new.shelf in
    let a = g.O.Sink.view c.args.out.now in
    let D : KeptEnd → Type 0 = IsPerformed tells before now' r in
    valueless tells words r is before now' a c.in-Ok-NoValue.reason (subst D c.in-Ok-NoValue.field-0-is c.in-Ok-NoValue.ensures.done)

pub returns-clause-stop : goal.returns-clause-stop
returns-clause-stop g c =
    let words = bytes_of c.args.words.now in
    let M : Option KeptPlan → Type 0 = λ o. MatchOption o (asked words ≡ None) (λ r. asked words ≡ Some (plan_of r)) in
    let is = subst M c.in-Some.is c.in-Ok.ensures in
    let tells = g.S.Shelf.tells in
    let r = plan_of c.in-Some.plan in
    let before = g.S.Shelf.view c.args.shelf.now in
    let now' = g.S.Shelf.view c.perform.new.shelf in
    let a = g.O.Sink.view c.args.out.now in
    unperformed tells words r is before now' a c.in-Err-perform.stop c.in-Err-perform.ensures.stop
