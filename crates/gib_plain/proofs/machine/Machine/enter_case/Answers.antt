use Rattle.std.proofs.Common.{◌≡◌, ◌∙◌, ap, sym, subst, ℕ, List}
use Rattle.gib_base.specs.declared.name.Name.{Name}
use Rattle.gib_syntax.specs.declared.tree.Ident.{Ident}
use Rattle.gib_syntax.specs.Declarations.{number_of}
use Rattle.gib_syntax.specs.Meaning.{value_in, bind, parts}
use Rattle.gib_plain.specs.Running.{IsScalar, IsMadeBy, code_of, Entering}
use Rattle.gib_plain.proofs.Steps.{goes_scalar, goes_no_arm, goes_arm, on_ok}
use Rattle.gib_plain.proofs.machine.Machine.enter_case.Goals as goal

pub returns-in-None : goal.returns-in-None
returns-in-None c = λ span x here tree same below.
    let s = c.args.self.now in
    let name : c.args.name.0 ≡ number_of x = sym (ap (λ (n : Name). n.0) same) in
    goes_scalar (code_of c.args.typed.now) s c.leave_whole.new.self c.args.id.0 span x c.args.arms.now here tree below (subst (λ (n : ℕ). IsScalar (value_in s.env n)) name c.in-None.ensures) c.leave_whole.ensures

pub returns-in-None-arm : goal.returns-in-None-arm
returns-in-None-arm c = λ span x here tree same below.
    let s = c.args.self.now in
    let name : c.args.name.0 ≡ number_of x = sym (ap (λ (n : Name). n.0) same) in
    goes_no_arm (code_of c.args.typed.now) s c.leave_whole-in-None-arm.new.self c.args.id.0 c.in-Some.con.0 span x c.args.arms.now here tree below (subst (λ (n : ℕ). IsMadeBy c.in-Some.con.0 (value_in s.env n)) name c.in-Some.ensures) (c.in-None-arm.ensures span x tree) c.leave_whole-in-None-arm.ensures

pub returns-in-Some-arm : goal.returns-in-Some-arm
returns-in-Some-arm c =
    on_ok c.open.result
    (λ is. λ span x here tree same below.
    let s = c.args.self.now in
    let name : c.args.name.0 ≡ number_of x = sym (ap (λ (n : Name). n.0) same) in
    goes_arm (code_of c.args.typed.now) s c.open.new.self c.args.id.0 c.in-Some.con.0 span x c.args.arms.now c.in-Some-arm.arm.now here tree below (subst (λ (n : ℕ). IsMadeBy c.in-Some.con.0 (value_in s.env n)) name c.in-Some.ensures) (c.in-Some-arm.ensures span x tree)
    (is ∙ ap (λ (xs : List Ident). record s { env = bind xs (parts (value_in s.env c.args.name.0)) s.env; doing = Entering c.in-Some-arm.arm.now.body.0 }) c.deref.ensures.value
    ∙ ap (λ (n : ℕ). record s { env = bind c.in-Some-arm.arm.now.variables.items (parts (value_in s.env n)) s.env; doing = Entering c.in-Some-arm.arm.now.body.0 }) name))
    c.open.ensures
