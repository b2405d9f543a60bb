use Rattle.std.proofs.Common.{sym, subst, List, ℕ, length, Result, Ok, Err, OnOk}
use Rattle.gib_edge.specs.Causes.{Appends, AppendsPart, PutsPieces, PutsSomePieces}
use Rattle.gib_app.proofs.printing.put_value.Goals as goal

both_ok : {T E : Type 0} (A B : Type 0) (r : Result T E) → OnOk r A → OnOk r B → OnOk r (A × B)
both_ok A B (Ok x) a b = (a, b)
both_ok A B (Err y) a b = tt

pub returns-clause-done : goal.returns-clause-done
returns-clause-done g c = λ text t.
    let a = g.O.Sink.view c.args.out.now in
    let b = g.O.Sink.view c.print_ran.new.out in
    let W : List ℕ → Type 0 = λ bytes. OnOk c.print_ran.result (Appends a.taken b.taken bytes × PutsPieces a b (length bytes)) in
    subst W (sym t.is_text) (both_ok _ _ c.print_ran.result (c.print_ran.ensures.done t.program t.depth t.input t.stands) (c.print_ran.ensures.pieces t.program t.depth t.input t.stands))

pub returns-clause-part : goal.returns-clause-part
returns-clause-part g c = λ text t failed.
    let a = g.O.Sink.view c.args.out.now in
    let b = g.O.Sink.view c.print_ran.new.out in
    let W : List ℕ → Type 0 = λ bytes. AppendsPart a.taken b.taken bytes × PutsSomePieces a b (length bytes) in
    subst W (sym t.is_text) (c.print_ran.ensures.part t.program t.depth t.input t.stands failed, c.print_ran.ensures.some t.program t.depth t.input t.stands failed)

pub print_ran-requires-clause-stands : goal.print_ran-requires-clause-stands
print_ran-requires-clause-stands g c = let t = c.requires.1 in record { program = t.program; depth = t.depth; input = t.input; meant = t.stands }
