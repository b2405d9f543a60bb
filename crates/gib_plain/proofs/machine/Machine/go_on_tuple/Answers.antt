use Rattle.std.proofs.Common.{◌≡◌, ◌+◌, [], ◌∷◌, ◌∙◌, ap, sym, refl, length, drop, ℕ, List}
use Rattle.gib_syntax.specs.declared.exprs.ExprId.{ExprId}
use Rattle.gib_syntax.specs.Tree.{Expression, Tuple}
use Rattle.gib_syntax.specs.Arena.{tree_of, arguments_from}
use Rattle.gib_syntax.specs.Meaning.{tuple}
use Rattle.gib_syntax.specs.Parts.{program_of}
use Rattle.gib_syntax.specs.Declarations.{table_of_program}
use Rattle.gib_plain.specs.Turns.{in_place}
use Rattle.gib_plain.specs.Running.{State, Waiting, Entering, Leaving, code_of, first_parts, types_in}
use Rattle.gib_plain.proofs.Steps.{came_all, came_next, came_value, match_none, match_some, on_ok}
use Rattle.gib_plain.proofs.machine.Machine.go_on_tuple.Goals as goal

pub returns-in-Some : goal.returns-in-Some
returns-in-Some c = λ fs f span r t is.
    let s = c.args.self.now in
    let tree = tree_of c.args.typed.now.exprs in
    let table = table_of_program (program_of c.args.typed.now) in
    let ps : List Expression = first_parts table (Tuple span c.args.types.now (arguments_from tree c.args.parts.now)) in
    let i = c.in-Some.next.0 in
    let ahead : drop (length f.finished) (first_parts table (tree f.id)) ≡ drop c.args.at ps = ap (λ (e : Expression). drop (length f.finished) (first_parts table e)) is ∙ ap (λ (n : ℕ). drop n ps) t in
    let behind : tree i ∷ drop (length f.finished + 1) (first_parts table (tree f.id)) ≡ tree i ∷ drop (c.args.at + 1) ps = ap (λ (e : Expression). tree i ∷ drop (length f.finished + 1) (first_parts table e)) is ∙ ap (λ (n : ℕ). tree i ∷ drop (n + 1) ps) t in
    let found : drop c.args.at ps ≡ tree i ∷ drop (c.args.at + 1) ps = match_some (drop c.args.at ps ≡ []) (λ (j : ExprId). drop c.args.at ps ≡ tree j.0 ∷ drop (c.args.at + 1) ps) c.in_ok-part.part c.in-Some.next (c.in_ok-part.ensures tree) c.in-Some.is in
    let entered = c.enter_next.ensures ∙ ap (λ (u : State). record u { doing = Entering i }) c.self.view_is ∙ ap (λ (fr : List Waiting). record s { frames = fr; doing = Entering i }) r.frames in
    came_next (code_of c.args.typed.now) c.enter_next.new.self fs f s.left s.env i entered r.left r.env (ahead ∙ found ∙ sym behind)

pub returns-in-None : goal.returns-in-None
returns-in-None c =
    on_ok c.build_tuple.result
    (λ h. λ fs f span r t is.
    let s = c.args.self.now in
    let tree = tree_of c.args.typed.now.exprs in
    let table = table_of_program (program_of c.args.typed.now) in
    let made : Expression = Tuple span c.args.types.now (arguments_from tree c.args.parts.now) in
    let value = tuple (in_place (types_in table c.args.types.now) f.finished) in
    let ahead : drop (length f.finished) (first_parts table (tree f.id)) ≡ drop c.args.at (first_parts table made) = ap (λ (e : Expression). drop (length f.finished) (first_parts table e)) is ∙ ap (λ (n : ℕ). drop n (first_parts table made)) t in
    let none = match_none (drop c.args.at (first_parts table made) ≡ []) (λ (j : ExprId). drop c.args.at (first_parts table made) ≡ tree j.0 ∷ drop (c.args.at + 1) (first_parts table made)) c.in_ok-part.part (c.in_ok-part.ensures tree) c.in-None.is in
    let built = h fs f (ap (λ (u : State). u.frames) c.self.view_is ∙ r.frames) ∙ ap (λ (u : State). record u { frames = fs; doing = Leaving value }) c.self.view_is in
    came_all (code_of c.args.typed.now) c.build_tuple.new.self fs f (ahead ∙ none)
    (came_value (code_of c.args.typed.now) c.build_tuple.new.self fs f made s.left s.env value built is refl))
    c.build_tuple.ensures
