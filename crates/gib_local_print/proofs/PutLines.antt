-- The tokens of a line: those of its bindings, and then those of its end.
use Rattle.std.proofs.Common.{◌≡◌, ◌≤◌, ℕ, zero, suc, Bool, true, false, List, [], ◌∷◌, map, length, drop, get_or, refl, sym, ap, ap₂, ◌∙◌, arith}
use Rattle.gib_base.specs.declared.token.Sign.TheVariants as s
use Rattle.gib_base.specs.declared.token.Token.{Token}
use Rattle.gib_types.specs.Table.{Table}
use Rattle.gib_syntax.specs.declared.tree.Ident.{Ident}
use Rattle.gib_core.specs.declared.atom.Variable.{Variable}
use Rattle.gib_core.specs.declared.atom.Kind.{Kind}
use Rattle.gib_core.specs.declared.atom.Kind.TheVariants.{Here, Region, Scalar}
use Rattle.gib_core.specs.declared.node.Node.{Node}
use Rattle.gib_core.specs.declared.node.Binding.{Binding}
use Rattle.gib_core.specs.declared.node.Branch.{Branch}
use Rattle.gib_core.specs.Tree.{Term, Bind, Past, One, Both, Prim, Reach, On, Several, prepend}
use Rattle.gib_core.specs.Arena.{IsLine, term_of, binds_from, branches_from}
use Rattle.gib_core.specs.Met.{Destination, Nowhere, Empty, Open, InParts}
use Rattle.gib_loccheck.specs.declared.destination.Destination.{Destination as Stored}
use Rattle.gib_local_parse.specs.Tree.{Line}
use Rattle.gib_local.specs.Building.{is_flat}
use Rattle.gib_local.specs.Builds.{destination_of}
use Rattle.gib_local_print.specs.Printing.{Naming, con_text, before, open_text, behind_bind, bind_text, text_of, branches_text, arms_or}
use Rattle.gib_local_parse.specs.Grammar.{sign, spell_line, spell_arms}
use Rattle.gib_local_print.specs.LineTokens.{put_before, put_room, put_bind, put_binds, put_branch, put_further, before_each, behind_all}

before_put : (nm : Naming) (d : Destination) (k : Kind) (x : ℕ) (u : Line) (rest : List Token) → put_before nm d k x (spell_line u rest) ≡ spell_line (before nm d k x u) rest
before_put nm Nowhere Here x u rest = refl
before_put nm Empty Here x u rest = refl
before_put nm (InParts ts) Here x u rest = refl
before_put nm (Open h c []) Here x u rest = refl
before_put nm (Open h c (y ∷ ys)) Here x u rest = refl
before_put nm d Region x u rest = refl
before_put nm d Scalar x u rest = refl

room_put : (flat : Bool) (nm : Naming) (at : ℕ) (h : Variable) (k : Ident) (u : Line) (rest : List Token) → put_room flat nm at h k (spell_line u rest) ≡ spell_line (open_text flat nm at h k u) rest
room_put true nm at h k u rest = refl
room_put false nm at h k u rest = refl

bind_put : (nm : Naming) (tb : Table) (b : Bind) (d : Destination) (at : ℕ) (u : Line) (rest : List Token) → put_bind nm tb b d at (spell_line u rest) ≡ spell_line (bind_text nm tb b d at u) rest
bind_put nm tb (Past h k) d at u rest = room_put (is_flat tb k) nm at h (con_text tb k) u rest
bind_put nm tb (One (On k x t w)) d at u rest = before_put nm d k x.0 _ rest
bind_put nm tb (One (Several xs ts w)) d at u rest = refl
bind_put nm tb (Both fork (On Here x t v) (On Here y q w)) d at u rest = before_put nm d Here x.0 _ rest
bind_put nm tb (Both fork (On Here x t v) (On Region y q w)) d at u rest = before_put nm d Here x.0 _ rest
bind_put nm tb (Both fork (On Here x t v) (On Scalar y q w)) d at u rest = before_put nm d Here x.0 _ rest
bind_put nm tb (Both fork (On Region x t v) (On j y q w)) d at u rest = ap (put_before nm d Region x.0) (before_put nm d j y.0 _ rest)
bind_put nm tb (Both fork (On Scalar x t v) (On j y q w)) d at u rest = before_put nm d j y.0 _ rest
bind_put nm tb (Both fork (On k x t v) (Several ys ts w)) d at u rest = refl
bind_put nm tb (Both fork (Several xs ts v) r) d at u rest = refl
bind_put nm tb (Prim x f y z) d at u rest = refl
bind_put nm tb (Reach y by) d at u rest = refl

binds_put : (nm : Naming) (tb : Table) (bs : List Bind) (d : Destination) (at : ℕ) (t : Term) (rest : List Token)
    → put_binds nm tb bs (before_each d bs) at (spell_line (text_of nm tb t (behind_all d bs) at) rest) ≡ spell_line (text_of nm tb (prepend bs t) d at) rest
binds_put nm tb [] d at t rest = refl
binds_put nm tb (b ∷ bs) d at t rest = ap (put_bind nm tb b d at) (binds_put nm tb bs (behind_bind d b) at t rest) ∙ bind_put nm tb b d at (text_of nm tb (prepend bs t) (behind_bind d b) at) rest

-- A line is put, once none of its bindings is left that is not put before its end.
pub line_put : (nm : Naming) (tb : Table) (nodes : List Node) (d copied last_d : Destination) (at id last i : ℕ) (bindings seen : List Binding) (ds : List Stored) (old behind new : List Token) → IsLine nodes id bindings last → i ≡ 0
    → copied ≡ d → seen ≡ bindings → map destination_of ds ≡ before_each copied (binds_from (term_of nodes) seen) → last_d ≡ behind_all copied (binds_from (term_of nodes) seen)
    → behind ≡ spell_line (text_of nm tb (term_of nodes last) last_d at) old → new ≡ put_binds nm tb (binds_from (term_of nodes) (drop i bindings)) (map destination_of (drop i ds)) at behind
    → new ≡ spell_line (text_of nm tb (term_of nodes id) d at) old
line_put nm tb nodes d copied last_d at id last i bindings seen ds old behind new line none_left same_d same_bindings each all_behind ends front =
    let f = term_of nodes in
    let bs = binds_from f bindings in
    let befores : map destination_of ds ≡ before_each d bs = each ∙ ap₂ (λ (x : Destination) (xs : List Binding). before_each x (binds_from f xs)) same_d same_bindings in
    let behinds : last_d ≡ behind_all d bs = all_behind ∙ ap₂ (λ (x : Destination) (xs : List Binding). behind_all x (binds_from f xs)) same_d same_bindings in
    front
    ∙ ap (λ (k : ℕ). put_binds nm tb (binds_from f (drop k bindings)) (map destination_of (drop k ds)) at behind) none_left
    ∙ ap (λ (xs : List Destination). put_binds nm tb bs xs at behind) befores
    ∙ ap (put_binds nm tb bs (before_each d bs) at) (ends ∙ ap (λ (x : Destination). spell_line (text_of nm tb (f last) x at) old) behinds)
    ∙ binds_put nm tb bs d at (f last) old
    ∙ ap (λ (t : Term). spell_line (text_of nm tb t d at) old) (sym line.term)

-- ---- branches

branches_put : (nm : Naming) (tb : Table) (f : ℕ → Term) (branch : Branch) (branches : List Branch) (d : Destination) (at : ℕ) (rest : List Token)
    → put_branch nm tb f branch d at (put_further nm tb f branches d at rest) ≡ spell_arms (arms_or (branches_text nm tb (branches_from f (branch ∷ branches)) d at)) rest
branches_put nm tb f branch [] d at rest = refl
branches_put nm tb f branch (next ∷ branches) d at rest = ap (λ (l : List Token). put_branch nm tb f branch d at (sign s.Semicolon ∷ l)) (branches_put nm tb f next branches d at rest)

-- The first branch before the further ones, where the loop stopped at the second one.
pub all_branches_put : (nm : Naming) (tb : Table) (f : ℕ → Term) (branches : List Branch) (n : ℕ) (first : Branch) (d : Destination) (at : ℕ) (rest : List Token) → 1 ≤ n → n ≤ length branches → n ≤ 1 → first ≡ get_or branches 0 first
    → put_branch nm tb f first d at (put_further nm tb f (drop n branches) d at rest) ≡ spell_arms (arms_or (branches_text nm tb (branches_from f branches) d at)) rest
all_branches_put nm tb f [] n first d at rest le inside stopped e = absurd (omega arith)
all_branches_put nm tb f (branch ∷ branches) zero first d at rest le inside stopped e = absurd (omega arith)
all_branches_put nm tb f (branch ∷ branches) (suc zero) first d at rest le inside stopped e = ap (λ (b : Branch). put_branch nm tb f b d at (put_further nm tb f branches d at rest)) e ∙ branches_put nm tb f branch branches d at rest
all_branches_put nm tb f (branch ∷ branches) (suc (suc n)) first d at rest le inside stopped e = absurd (omega arith)
