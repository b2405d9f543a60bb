use Rattle.std.proofs.Common.{◌≡◌, ◌+◌, ◌++◌, ◌∷◌, [], ap, ap₂, sym, subst, ◌∙◌}
use Rattle.gib_mono.specs.Walk.{add_few}
use Rattle.gib_mono.specs.Found.{Kept, IsNewKey, types_by, functions_by, has_room}
use Rattle.gib_mono.proofs.Keys.{new_last, found_push, found_same, few_is}
use Rattle.gib_mono.proofs.found.Found.push.Goals as goal

kept_keys : (c : goal.After-self-2-1) → c.insert_full.new.self.keys ≡ c.args.self.now.keys ++ c.args.key ∷ []
kept_keys c =
    let same = ap (λ (v : Kept). v.keys) c.self.view_is in
    c.in-Ok.ensures.keys ∙ new_last c.self.inside.keys.keys c.args.key (subst (λ ks. IsNewKey ks c.args.key) (sym same) c.requires.new) ∙ ap (λ ks. ks ++ c.args.key ∷ []) same

pub returns : goal.returns
returns c = λ g fs found d p e f h. (
  found ++ d ∷ [],
  ap (add_few found d c.args.span) (few_is g fs c.args.self.now found c.args.key d c.args.constructors p e f h ∙ ap₂ (has_room c.args.self.now) (sym c.types_by-of_type.ensures.count) (sym c.functions_by-of_function.ensures.count) ∙ sym c.if-not-has_room.ensures),
  found_same g fs (found ++ d ∷ []) (c.args.self.now.keys ++ c.args.key ∷ []) c.insert_full.new.self.keys
      (c.args.self.now.constructors + types_by c.args.key c.args.constructors) (c.self.inside.constructors + c.types_by-of_type.result)
      (c.args.self.now.functions + functions_by c.args.key) (c.self.inside.functions + c.functions_by-of_function.result)
      (kept_keys c)
      (ap₂ (λ x y. x + y) (ap (λ (v : Kept). v.constructors) c.self.view_is) c.types_by-of_type.ensures.count)
      (ap₂ (λ x y. x + y) (ap (λ (v : Kept). v.functions) c.self.view_is) c.functions_by-of_function.ensures.count)
      (found_push g fs c.args.self.now found c.args.key d c.args.constructors p e f h),
)

pub returns-then-not-has_room : goal.returns-then-not-has_room
returns-then-not-has_room c = λ g fs found d p e f h.
    ap (add_few found d c.args.span) (few_is g fs c.args.self.now found c.args.key d c.args.constructors p e f h ∙ ap₂ (has_room c.args.self.now) (sym c.types_by-of_type.ensures.count) (sym c.functions_by-of_function.ensures.count) ∙ sym c.if-not-has_room.ensures)
