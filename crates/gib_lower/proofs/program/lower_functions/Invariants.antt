use Rattle.std.proofs.Common.{◌≡◌, ◌≤◌, [], length, map, reverse, drop}
use Rattle.gib_core.specs.Arena.{term_of}
use Rattle.gib_core.specs.Parts.{core_of, function_term}
use Rattle.gib_lower.specs.Lowering.{lowered_functions, begun}
use Rattle.gib_lower.proofs.program.lower_functions.Given as goal

abbrev pub invariant-functions : goal.invariant-functions
invariant-functions l = record {
  within : l.i ≤ length l.functions;
  are : l.functions ≡ l.source.functions;
  outside : l.out.fields ≡ [];
  none : l.out.overs ≡ [];
  code : l.out.code ≡ lowered_functions (core_of l.source) (map (function_term (term_of l.source.terms)) (drop l.i l.functions));
  entries : reverse l.entries.items ≡ begun (core_of l.source) (map (function_term (term_of l.source.terms)) (drop l.i l.functions));
}

abbrev pub decreases-functions : goal.decreases-functions
decreases-functions l = l.i
