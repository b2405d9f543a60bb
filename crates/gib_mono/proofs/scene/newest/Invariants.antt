use Rattle.std.proofs.Common.{◌≡◌, ◌≤◌, List, [], length, take}
use Rattle.gib_types.specs.Form.{Form}
use Rattle.gib_syntax.specs.GenericTyping.{form_in}
use Rattle.gib_mono.specs.Scenes.{scope_onto}
use Rattle.gib_mono.proofs.scene.newest.Given as goal

abbrev pub invariant-from_last : goal.invariant-from_last
invariant-from_last l = (l.at ≤ length l.scope) × ((fs : List Form) → form_in (scope_onto fs (take l.at l.scope) []) l.name.0 ≡ form_in (scope_onto fs l.scope []) l.name.0)

abbrev pub decreases-from_last : goal.decreases-from_last
decreases-from_last l = l.at
