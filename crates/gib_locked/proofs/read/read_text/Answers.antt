use Rattle.std.proofs.Common.{◌≡◌, rules}
use Rattle.std.specs.Prelude.{codes}
use Rattle.gib_locked.proofs.ReadJournal.{no_first, other_first, no_second, other_second, whole_read, behind_refused}
use Rattle.gib_locked.proofs.read.read_text.Goals as goal

pub returns-in_default : goal.returns-in_default
returns-in_default c = no_first c.args.text.now c.in_default.ensures

pub returns-then-ne : goal.returns-then-ne
returns-then-ne c =
    let other : c.in-Some.first.front.now ≡ codes "gibj 3" → ⊥ = search rules in
    other_first c.args.text.now c.in-Some.first.front.now c.in-Some.first.rest.now c.in-Some.ensures other

pub returns-in_default-cut : goal.returns-in_default-cut
returns-in_default-cut c =
    let e : c.in-Some.first.front.now ≡ codes "gibj 3" = search rules in
    no_second c.args.text.now c.in-Some.first.front.now c.in-Some.first.rest.now c.in-Some.ensures e c.in_default-cut.ensures

pub returns-in_default-read_settings : goal.returns-in_default-read_settings
returns-in_default-read_settings c =
    let e : c.in-Some.first.front.now ≡ codes "gibj 3" = search rules in
    other_second c.args.text.now c.in-Some.first.front.now c.in-Some.first.rest.now c.in-Some-cut.second.front.now c.in-Some-cut.second.rest.now c.in-Some.ensures e c.in-Some-cut.ensures c.in_default-read_settings.ensures

pub returns-in-Ok : goal.returns-in-Ok
returns-in-Ok c =
    let e : c.in-Some.first.front.now ≡ codes "gibj 3" = search rules in
    whole_read c.args.text.now c.in-Some.first.front.now c.in-Some.first.rest.now c.in-Some-cut.second.front.now c.in-Some-cut.second.rest.now c.in-Some-read_settings.settings c.in-Ok.lines.all.items c.in-Some.ensures e c.in-Some-cut.ensures c.in-Some-read_settings.ensures c.in-Ok.ensures

pub returns-in-Err : goal.returns-in-Err
returns-in-Err c =
    let e : c.in-Some.first.front.now ≡ codes "gibj 3" = search rules in
    behind_refused c.args.text.now c.in-Some.first.front.now c.in-Some.first.rest.now c.in-Some-cut.second.front.now c.in-Some-cut.second.rest.now c.in-Some-read_settings.settings c.in-Err.fault c.in-Some.ensures e c.in-Some-cut.ensures c.in-Some-read_settings.ensures c.in-Err.ensures
