-- What words ask to be traced has settings, and what settings say of chunks.
use Rattle.std.proofs.Common.{◌≡◌, ◌≤◌, ℕ, true, refl, subst, List, Some}
use Rattle.std.specs.Prelude.{nat_le}
use Rattle.std.proofs.lemmas.Bool.{le-leb, leb-true}
use Rattle.clap.proofs.WalkLemmas.{both}
use Rattle.gib_locked.specs.Limits.{are_settings}
use Rattle.gib_words.specs.declared.plan.Options.{Options}
use Rattle.gib_words.specs.declared.plan.Job.{Job}
use Rattle.gib_words.specs.declared.plan.Job.TheVariants.{Trace}
use Rattle.gib_words.specs.Plan.{Plan}
use Rattle.gib_words.specs.Words.{asked}
use Rattle.gib_words.specs.Ranges.{AreInRange, AreOfRun}
use Rattle.gib_words.proofs.Forms.{in_range}

-- A run by workers has settings.
pub run_settings : (o : Options) → AreOfRun o → are_settings o.depth o.chunks o.fork ≡ true
run_settings o run = rw (le-leb _ _ run.depth_least, le-leb _ _ run.depth_most, le-leb _ _ run.chunks_least, le-leb _ _ run.chunks_most, le-leb _ _ run.fork_most) refl

-- The settings of a journal have no more chunks than an image may have.
pub few_chunks : (depth chunks fork : ℕ) → are_settings depth chunks fork ≡ true → chunks ≤ 65536
few_chunks depth chunks fork e =
    let rest = (both (nat_le 1 depth) _ e).1 in
    let more = (both (nat_le depth 1000000) _ rest).1 in
    let last = (both (nat_le 16 chunks) _ more).1 in
    leb-true _ _ (both (nat_le chunks 65536) _ last).0

-- Where words ask for a trace, it has settings.
pub have_settings : (words : List (List ℕ)) (plan : Plan) → asked words ≡ Some plan → plan.job ≡ Trace → are_settings plan.options.depth plan.options.chunks plan.options.fork ≡ true
have_settings words plan e is =
    let J : Job → Type 0 = λ job. AreInRange job plan.options in
    run_settings plan.options (subst J is (in_range words plan e))
