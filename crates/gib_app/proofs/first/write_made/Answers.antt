use Rattle.std.proofs.Common.{◌∙◌, subst, List, [], ◌∷◌, ℕ}
use Rattle.gib_app.specs.FirstWrites.{HasWritten, HasStuck}
use Rattle.gib_words.specs.Words.{made_source, made_input}
use Rattle.gib_app.proofs.FirstWriting.{then_stuck, first_stuck}
use Rattle.gib_app.proofs.first.write_made.Goals as goal

-- src/first.rt
pub returns-in-Err-write_named-clause-stuck : goal.returns-in-Err-write_named-clause-stuck
returns-in-Err-write_named-clause-stuck g c =
    let before = g.S.Shelf.view c.args.shelf.now in
    let now = g.S.Shelf.view c.write_named.new.shelf in
    let o = c.args.options in
    let stop = c.in-Err-write_named.stop in
    let S : List ℕ → Type 0 = λ bytes. HasStuck g.S.Shelf.tells before now (record { name = c.args.names.source.now; bytes = bytes } ∷ []) stop in
    first_stuck g.S.Shelf.tells before now (record { name = c.args.names.source.now; bytes = made_source o.number }) (record { name = c.args.names.input.now; bytes = made_input o.number o.levels } ∷ []) stop
    (subst S (c.deref.ensures.value ∙ c.in-Ok.ensures.source) c.in-Err-write_named.ensures.stuck)

pub returns-clause-stuck : goal.returns-clause-stuck
returns-clause-stuck g c =
    let before = g.S.Shelf.view c.args.shelf.now in
    let mid = g.S.Shelf.view c.write_named.new.shelf in
    let now = g.S.Shelf.view c.write_named-2.new.shelf in
    let o = c.args.options in
    let stop = c.in-Err-write_named-2.stop in
    let W : List ℕ → Type 0 = λ bytes. HasWritten g.S.Shelf.tells before mid (record { name = c.args.names.source.now; bytes = bytes } ∷ []) in
    let S : List ℕ → Type 0 = λ bytes. HasStuck g.S.Shelf.tells mid now (record { name = c.args.names.input.now; bytes = bytes } ∷ []) stop in
    then_stuck g.S.Shelf.tells before mid now (record { name = c.args.names.source.now; bytes = made_source o.number }) (record { name = c.args.names.input.now; bytes = made_input o.number o.levels } ∷ []) stop
    (subst W (c.deref.ensures.value ∙ c.in-Ok.ensures.source) c.in-Ok-write_named.ensures.written) (subst S (c.deref-2.ensures.value ∙ c.in-Ok.ensures.input) c.in-Err-write_named-2.ensures.stuck)
