-- The code of each function, found by its name.
use Rattle.std.proofs.Common.{◌≡◌, ℕ, suc, ◌==◌, Bool, true, false, if◌then◌else◌, List, [], ◌∷◌, length, Some, refl, sym, subst}
use Rattle.std.proofs.lemmas.Option.{same_Some}
use Rattle.gib_code.specs.declared.instruction.Entry.{Entry}
use Rattle.gib_code.specs.Program.{CodeTree}
use Rattle.gib_core.specs.Tree.{FunctionTerm, CoreTree}
use Rattle.gib_core.specs.Meaning.{function_at}
use Rattle.gib_core.specs.Low.{Low, Returns, LowFunctions, IsLowered, HasCode, HasMain, function_number}
use Rattle.gib_core.specs.Ending.{within_function, within_main}
use Rattle.gib_core.specs.Low as low

by_name : (core : CoreTree) (code : CodeTree) (g h : FunctionTerm) (gs : List FunctionTerm) (e : Entry) (es : List Entry) (f : ℕ) (same : Bool) → HasCode core code (e ∷ es) 0 g
    → (function_at gs f ≡ Some h → HasCode core code es (function_number gs f) h) → (if same then Some g else function_at gs f) ≡ Some h
    → HasCode core code (e ∷ es) (if same then 0 else suc (function_number gs f)) h
by_name core code g h gs e es f true own rest is = subst (λ k. HasCode core code (e ∷ es) 0 k) (same_Some g h is) own
by_name core code g h gs e es f false own rest is = (let k = rest is in record { entry = k.entry; at = k.at; slots = k.slots; result = k.result; until = k.until; low = k.low })

has_code : (core : CoreTree) (code : CodeTree) (a : ℕ) (gs : List FunctionTerm) (es : List Entry) → LowFunctions core code a gs es → (f : ℕ) (h : FunctionTerm) → function_at gs f ≡ Some h → HasCode core code es (function_number gs f) h
has_code core code a [] es l f h is = absurd cc
has_code core code a (g ∷ gs) es (low.function {z = z} {e = e} {es = es'} name result start slots body rest) f h is =
    by_name core code g h gs e es' f (g.name.0 == f) (record { entry = e; at = refl; slots = slots; result = result; until = z; low = subst (λ m. Low core code (within_function core g) [] m g.body (Returns []) z) (sym start) body })
    (λ found. has_code core code z gs es' rest f h found) is

pub function_has_code : (core : CoreTree) (code : CodeTree) (f : ℕ) (g : FunctionTerm) → IsLowered core code → function_at core.functions f ≡ Some g → HasCode core code code.functions (function_number core.functions f) g
function_has_code core code f g is found = has_code core code 0 core.functions code.functions is.functions f g found

main_after : (core : CoreTree) (code : CodeTree) (e : Entry) (es : List Entry) (n : ℕ) → HasMain core code es n → HasMain core code (e ∷ es) (suc n)
main_after core code e es n k = record { entry = k.entry; at = k.at; slots = k.slots; result = k.result; low = k.low }

has_main : (core : CoreTree) (code : CodeTree) (a : ℕ) (gs : List FunctionTerm) (es : List Entry) → LowFunctions core code a gs es → HasMain core code es (length gs)
has_main core code a [] es (low.main {e = e} name result start slots body) =
    record { entry = e; at = refl; slots = slots; result = result; low = subst (λ m. Low core code (within_main core) [] m core.main.body (Returns []) (length code.instructions)) (sym start) body }
has_main core code a (g ∷ gs) es (low.function {z = z} {e = e} {es = es'} name result start slots body rest) = main_after core code e es' (length gs) (has_main core code z gs es' rest)

pub main_has_code : (core : CoreTree) (code : CodeTree) → IsLowered core code → HasMain core code code.functions (length core.functions)
main_has_code core code is = has_main core code 0 core.functions code.functions is.functions
