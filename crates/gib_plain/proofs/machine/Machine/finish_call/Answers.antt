use Rattle.std.proofs.Common.{◌≡◌, ◌-◌, ◌∙◌, [], ap, sym, refl, List, Some}
use Rattle.gib_base.specs.declared.name.Name.{Name}
use Rattle.gib_syntax.specs.declared.tree.Parameter.{Parameter}
use Rattle.gib_syntax.specs.Tree.{Call}
use Rattle.gib_syntax.specs.Arena.{tree_of}
use Rattle.gib_syntax.specs.Parts.{program_of, function_tree}
use Rattle.gib_syntax.specs.Declarations.{number_of, function_named}
use Rattle.gib_syntax.specs.Meaning.{bind, names_of}
use Rattle.gib_plain.specs.Running.{State, Entering, code_of}
use Rattle.gib_plain.proofs.Steps.{came_too_deep, came_call, on_ok}
use Rattle.gib_plain.proofs.machine.Machine.finish_call.Goals as goal

pub returns-then-self-eq0 : goal.returns-then-self-eq0
returns-then-self-eq0 c = λ fs f xs ident r tree same.
    let s = c.args.self.now in
    came_too_deep (code_of c.args.typed.now) c.end.new.self s.frames fs f (Call ident xs) (number_of ident) s.left s.env c.end.ensures tree (λ a env vs. refl) (sym r.left ∙ sym (ap (λ (t : State). t.left) c.self.view_is) ∙ c.if-self-eq0.true)

pub returns-in-Some : goal.returns-in-Some
returns-in-Some c =
    on_ok c.call.result
    (λ h. λ fs f xs ident r tree same.
    let s = c.args.self.now in
    let p = c.args.typed.now in
    let d = c.in-Some.function.now in
    let found : function_named (program_of p).functions (number_of ident) ≡ Some (function_tree (tree_of p.exprs) d) = ap (λ (n : Name). function_named (program_of p).functions n.0) same ∙ c.in-Some.ensures in
    came_call (code_of p) c.call.new.self fs f (Call ident xs) (number_of ident) s.left d.body.0 (function_tree (tree_of p.exprs) d)
    (h fs f r.frames ∙ ap (λ (ps : List Parameter). let t : State = record { frames = fs; left = s.left - 1; env = bind (names_of ps) f.finished []; doing = Entering d.body.0 } in t) c.deref.ensures.value)
    tree (λ a env vs. refl) (λ a env vs. refl) r.left (λ z. c.if-self-eq0.false (ap (λ (t : State). t.left) c.self.view_is ∙ z)) found refl)
    c.call.ensures
