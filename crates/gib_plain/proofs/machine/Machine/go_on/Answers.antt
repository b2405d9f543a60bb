use Rattle.std.proofs.Common.{◌≡◌, ◌+◌, [], ◌∷◌, ◌∙◌, ap, sym, subst, length, drop, ℕ, List}
use Rattle.gib_syntax.specs.declared.exprs.ExprId.{ExprId}
use Rattle.gib_syntax.specs.Arena.{tree_of}
use Rattle.gib_syntax.specs.Parts.{program_of}
use Rattle.gib_syntax.specs.Declarations.{table_of_program}
use Rattle.gib_plain.specs.declared.lookup.Next.{Next}
use Rattle.gib_plain.specs.Running.{Waiting, Entering, IsNext, code_of, first_parts}
use Rattle.gib_plain.proofs.Steps.{came_all, came_next, match_none, match_some, on_ok}
use Rattle.gib_plain.proofs.machine.Machine.go_on.Goals as goal

pub returns-in-Tuple : goal.returns-in-Tuple
returns-in-Tuple c =
    on_ok c.go_on_tuple.result
    (λ h. λ fs f r.
    let tree = tree_of c.args.typed.now.exprs in
    let t = c.in-Some.ensures fs f r.frames in
    let is = subst (λ (n : Next). IsNext tree (table_of_program (program_of c.args.typed.now)) (tree c.in-Some.id.0) c.in-Some.at n) c.in-Tuple.is c.next_part.ensures in
    h fs f is.0 r t.1 (ap tree t.0 ∙ is.1))
    c.go_on_tuple.ensures

pub returns-in-Some-found : goal.returns-in-Some-found
returns-in-Some-found c = λ fs f r.
    let s = c.args.self.now in
    let tree = tree_of c.args.typed.now.exprs in
    let table = table_of_program (program_of c.args.typed.now) in
    let i = c.in-Some-found.next.0 in
    let t = c.in-Some.ensures fs f r.frames in
    let is = subst (λ (n : Next). IsNext tree table (tree c.in-Some.id.0) c.in-Some.at n) c.in-Part.is c.next_part.ensures in
    let ahead : drop (length f.finished) (first_parts table (tree f.id)) ≡ drop c.in-Some.at (first_parts table (tree c.in-Some.id.0)) = ap (λ (n : ℕ). drop n (first_parts table (tree f.id))) t.1 ∙ ap (λ (j : ℕ). drop c.in-Some.at (first_parts table (tree j))) t.0 in
    let behind : tree i ∷ drop (length f.finished + 1) (first_parts table (tree f.id)) ≡ tree i ∷ drop (c.in-Some.at + 1) (first_parts table (tree c.in-Some.id.0)) = ap (λ (n : ℕ). tree i ∷ drop (n + 1) (first_parts table (tree f.id))) t.1 ∙ ap (λ (j : ℕ). tree i ∷ drop (c.in-Some.at + 1) (first_parts table (tree j))) t.0 in
    let found : drop c.in-Some.at (first_parts table (tree c.in-Some.id.0)) ≡ tree i ∷ drop (c.in-Some.at + 1) (first_parts table (tree c.in-Some.id.0)) = match_some (drop c.in-Some.at (first_parts table (tree c.in-Some.id.0)) ≡ []) (λ (j : ExprId). drop c.in-Some.at (first_parts table (tree c.in-Some.id.0)) ≡ tree j.0 ∷ drop (c.in-Some.at + 1) (first_parts table (tree c.in-Some.id.0))) c.in-Part.found c.in-Some-found.next is c.in-Some-found.is in
    came_next (code_of c.args.typed.now) c.enter_next.new.self fs f s.left s.env i (c.enter_next.ensures ∙ ap (λ (fr : List Waiting). record s { frames = fr; doing = Entering i }) r.frames) r.left r.env (ahead ∙ found ∙ sym behind)

pub returns-in-None : goal.returns-in-None
returns-in-None c =
    on_ok c.finish.result
    (λ h. λ fs f r.
    let tree = tree_of c.args.typed.now.exprs in
    let table = table_of_program (program_of c.args.typed.now) in
    let t = c.in-Some.ensures fs f r.frames in
    let is = subst (λ (n : Next). IsNext tree table (tree c.in-Some.id.0) c.in-Some.at n) c.in-Part.is c.next_part.ensures in
    let ahead : drop (length f.finished) (first_parts table (tree f.id)) ≡ drop c.in-Some.at (first_parts table (tree c.in-Some.id.0)) = ap (λ (n : ℕ). drop n (first_parts table (tree f.id))) t.1 ∙ ap (λ (j : ℕ). drop c.in-Some.at (first_parts table (tree j))) t.0 in
    came_all (code_of c.args.typed.now) c.finish.new.self fs f (ahead ∙ match_none (drop c.in-Some.at (first_parts table (tree c.in-Some.id.0)) ≡ []) (λ (j : ExprId). drop c.in-Some.at (first_parts table (tree c.in-Some.id.0)) ≡ tree j.0 ∷ drop (c.in-Some.at + 1) (first_parts table (tree c.in-Some.id.0))) c.in-Part.found is c.in-None.is)
    (h fs f r t.0))
    c.finish.ensures
