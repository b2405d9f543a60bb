-- The declarations of a text, as the builder keeps them.
use Rattle.std.proofs.Common.{◌≡◌, ℕ, ◌<◌, ◌≤◌, ◌-◌, Bool, true, false, cond, eqb, List, [], ◌∷◌, length, map, take, drop, get_or, refl, sym, ap, ap₂, ◌∙◌, subst, arith}
use Rattle.std.proofs.Math.Seq.{take-length}
use Rattle.std.proofs.lemmas.Bool.{eqb-true, eq-eqb}
use Rattle.gib_types.specs.Table.{is_scalar}
use Rattle.gib_syntax.specs.declared.tree.DataDecl.{DataDecl}
use Rattle.gib_syntax.specs.Declarations.{type_of_name}
use Rattle.gib_check.proofs.Making.{table_from}
use Rattle.gib_local_parse.specs.declared.text.FunctionLines.{FunctionLines}
use Rattle.gib_local_parse.specs.Tree.{Line}
use Rattle.gib_local_parse.specs.TextParts.{TextParts, function_text}
use Rattle.gib_local.specs.Building.{gives_scalar}
use Rattle.gib_local.specs.Knowing.{declared_of}

-- The table that is made of a text's names and declarations.
pub table_is : (inner parts : TextParts) (types : List ℕ) (ds : List DataDecl) → inner ≡ parts → types ≡ (declared_of inner).table.types → ds ≡ inner.datas → table_from types ds ≡ (declared_of parts).table
table_is inner parts types ds same t d = ap₂ (λ ts l. table_from ts l) t d ∙ ap (λ (p : TextParts). (declared_of p).table) same

-- Functions before the one of a name.
pub scalar_next : (g : ℕ → Line) (types : List ℕ) (rest : List FunctionLines) (one : FunctionLines) (x : ℕ) (all : Bool) → 1 ≤ length rest → one ≡ get_or rest 0 one → (one.name.name.0 ≡ x → ⊥)
    → gives_scalar (map (function_text g) rest) types x ≡ all → gives_scalar (map (function_text g) (take (length rest - 1) (drop 1 rest))) types x ≡ all
scalar_next g types [] one x all le at no_name h = absurd (omega (arith, le))
scalar_next g types (f ∷ rest) one x all le at no_name h =
    let tail : take (length (f ∷ rest) - 1) rest ≡ rest = (let n : length (f ∷ rest) - 1 ≡ length rest = omega arith in ap (λ k. take k rest) n) ∙ take-length rest in
    ap (λ (l : List FunctionLines). gives_scalar (map (function_text g) l) types x) tail ∙ other (eqb f.name.name.0 x) refl ∙ h where
      other : (b : Bool) → eqb f.name.name.0 x ≡ b → gives_scalar (map (function_text g) rest) types x ≡ cond (eqb f.name.name.0 x) (is_scalar (type_of_name types f.result)) (gives_scalar (map (function_text g) rest) types x)
      other true e = absurd (no_name (ap (λ (k : FunctionLines). k.name.name.0) at ∙ eqb-true f.name.name.0 x e))
      other false e = sym (ap (λ c. cond c (is_scalar (type_of_name types f.result)) (gives_scalar (map (function_text g) rest) types x)) e)

pub scalar_here : (g : ℕ → Line) (types : List ℕ) (rest : List FunctionLines) (one : FunctionLines) (x : ℕ) (all : Bool) → 1 ≤ length rest → one ≡ get_or rest 0 one → one.name.name.0 ≡ x
    → gives_scalar (map (function_text g) rest) types x ≡ all → is_scalar (type_of_name types one.result) ≡ all
scalar_here g types [] one x all le at e h = absurd (omega (arith, le))
scalar_here g types (f ∷ rest) one x all le at e h =
    let same : eqb f.name.name.0 x ≡ true = eq-eqb f.name.name.0 x (ap (λ (k : FunctionLines). k.name.name.0) (sym at) ∙ e) in
    ap (λ (k : FunctionLines). is_scalar (type_of_name types k.result)) at ∙ sym (ap (λ c. cond c (is_scalar (type_of_name types f.result)) (gives_scalar (map (function_text g) rest) types x)) same) ∙ h

pub scalar_end : (g : ℕ → Line) (types : List ℕ) (rest : List FunctionLines) (x : ℕ) (all : Bool) → length rest < 1 → gives_scalar (map (function_text g) rest) types x ≡ all → true ≡ all
scalar_end g types [] x all lt h = h
scalar_end g types (f ∷ rest) x all lt h = absurd (omega (arith, lt))
