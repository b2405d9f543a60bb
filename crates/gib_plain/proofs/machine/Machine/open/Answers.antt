use Rattle.std.proofs.Common.{◌≡◌, refl, ◌∙◌, ap, sym, drop, length, map, List}
use Rattle.gib_types.specs.Tree.{Datum}
use Rattle.gib_value.specs.Heap.{value_of}
use Rattle.gib_syntax.specs.Meaning.{Environment, bind, parts, value_in}
use Rattle.gib_plain.specs.declared.stack.Binding.{Binding}
use Rattle.gib_plain.specs.Running.{State}
use Rattle.gib_plain.specs.Stacks.{env_of}
use Rattle.gib_plain.proofs.Stacks.{bindings-within}
use Rattle.gib_plain.proofs.Moves.{held_more, more_vars, env_bound, bind-none, list-data, state_eq}
use Rattle.gib_plain.proofs.machine.Machine.open.Goals as goal

pub fields-requires : goal.fields-requires
fields-requires c = c.in-Con.ensures.within (length c.self.inside.heap) (rw c.deref.ensures.value c.self.invariant.held.vars_within)

pub returns-in-Whole : goal.returns-in-Whole
returns-in-Whole c =
    let m = c.self.inside in
    let here : env_of m.heap (drop m.base m.vars.items) ≡ c.args.self.now.env = ap (λ (s : State). s.env) c.self.view_is in
    let v = c.in-Whole.ensures.value m.heap ∙ ap (λ (bs : List Binding). value_in (env_of m.heap (drop m.base bs)) c.args.name.0) c.deref.ensures.value ∙ ap (λ (e : Environment). value_in e c.args.name.0) here in
    state_eq _ _ _ _ _ _ _ _ (ap (λ (s : State). s.frames) c.self.view_is) (ap (λ (s : State). s.left) c.self.view_is) (here ∙ sym (bind-none c.args.variables.now c.args.self.now.env) ∙ ap (λ (d : Datum). bind c.args.variables.now (parts d) c.args.self.now.env) v) refl

pub returns-in-Truth : goal.returns-in-Truth
returns-in-Truth c =
    let m = c.self.inside in
    let here : env_of m.heap (drop m.base m.vars.items) ≡ c.args.self.now.env = ap (λ (s : State). s.env) c.self.view_is in
    let v = c.in-Truth.ensures.value m.heap ∙ ap (λ (bs : List Binding). value_in (env_of m.heap (drop m.base bs)) c.args.name.0) c.deref.ensures.value ∙ ap (λ (e : Environment). value_in e c.args.name.0) here in
    state_eq _ _ _ _ _ _ _ _ (ap (λ (s : State). s.frames) c.self.view_is) (ap (λ (s : State). s.left) c.self.view_is) (here ∙ sym (bind-none c.args.variables.now c.args.self.now.env) ∙ ap (λ (d : Datum). bind c.args.variables.now (parts d) c.args.self.now.env) v) refl

pub invariant_of-self-in-Con : goal.invariant_of-self-in-Con
invariant_of-self-in-Con c =
    let m = c.self.inside in
    record { held = rw c.in_ok-push_bindings-in-Con.ensures (held_more _ _ _ _ _ _ c.self.invariant.held (bindings-within (length m.heap) c.args.variables.now c.fields.result.now c.fields.ensures.within)); next = tt }

pub returns-in_ok-push_bindings-in-Con : goal.returns-in_ok-push_bindings-in-Con
returns-in_ok-push_bindings-in-Con c =
    let m = c.self.inside in
    let here : env_of m.heap (drop m.base m.vars.items) ≡ c.args.self.now.env = ap (λ (s : State). s.env) c.self.view_is in
    let v = c.in-Con.ensures.value m.heap ∙ ap (λ (bs : List Binding). value_in (env_of m.heap (drop m.base bs)) c.args.name.0) c.deref.ensures.value ∙ ap (λ (e : Environment). value_in e c.args.name.0) here in
    let fields : map (value_of m.heap) c.fields.result.now ≡ parts (value_in c.args.self.now.env c.args.name.0) = c.fields.ensures.values ∙ sym (list-data _) ∙ ap parts v in
    let env = env_bound m.heap m.vars.items c.args.variables.now c.fields.result.now m.base c.self.invariant.held.base_in ∙ ap (λ (vs : List Datum). bind c.args.variables.now vs (env_of m.heap (drop m.base m.vars.items))) fields ∙ ap (bind c.args.variables.now (parts (value_in c.args.self.now.env c.args.name.0))) here in
    state_eq _ _ _ _ _ _ _ _ (rw c.in_ok-push_bindings-in-Con.ensures (more_vars _ _ _ _ _ _ c.self.invariant.held ∙ ap (λ (s : State). s.frames) c.self.view_is)) (ap (λ (s : State). s.left) c.self.view_is) (rw c.in_ok-push_bindings-in-Con.ensures env) refl
