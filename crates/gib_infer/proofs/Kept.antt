-- What a core that was made means, with its places and once they are left out.
use Rattle.std.proofs.Common.{◌≡◌, ℕ, Ok, Err, sym, ap, ◌∙◌, subst}
use Rattle.std.specs.Prelude.{Result, IfOk}
use Rattle.gib_types.specs.Table.{Table, IsTable}
use Rattle.gib_types.specs.Tree.{Datum}
use Rattle.gib_syntax.specs.Tree.{ProgramTree}
use Rattle.gib_syntax.specs.Declarations.{table_of_program}
use Rattle.gib_syntax.specs.Typing.{IsTypedProgram}
use Rattle.gib_syntax.specs.Meaning.{calls, run}
use Rattle.gib_core.specs.Parts.{Parts, core_of}
use Rattle.gib_core.specs.Meaning.{core_calls, core_run}
use Rattle.gib_core.specs.Erasing.{erase_core}
use Rattle.gib_core.specs.Inferring.{infer_program}
use Rattle.gib_core.specs.Numbering.{AreNumbered}
use Rattle.gib_core.specs.Reachable.{AreReachable}

pub kept_calls : {E : Type 0} (p : ProgramTree) (table : Table) (o : Result Parts E) → table ≡ table_of_program p → IsTable table → IsTypedProgram p → ((q : ProgramTree) → IsTable (table_of_program q) → IsTypedProgram q → (n : ℕ) → calls (erase_core q.datas (infer_program q)) n ≡ calls q n) → IfOk o (λ core. core_of core ≡ infer_program p) → IfOk o (λ core. (n : ℕ) → calls (erase_core p.datas (core_of core)) n ≡ calls p n)
kept_calls p table (Ok core) et is typed law e = λ n. ap (λ z. calls (erase_core p.datas z) n) e ∙ law p (subst IsTable et is) typed n
kept_calls p table (Err x) et is typed law e = tt

pub kept_run : {E : Type 0} (p : ProgramTree) (table : Table) (o : Result Parts E) → table ≡ table_of_program p → IsTable table → IsTypedProgram p → ((q : ProgramTree) → IsTable (table_of_program q) → IsTypedProgram q → (depth : ℕ) (v : Datum) → run (erase_core q.datas (infer_program q)) depth v ≡ run q depth v) → IfOk o (λ core. core_of core ≡ infer_program p) → IfOk o (λ core. (depth : ℕ) (v : Datum) → run (erase_core p.datas (core_of core)) depth v ≡ run p depth v)
kept_run p table (Ok core) et is typed law e = λ depth v. ap (λ z. run (erase_core p.datas z) depth v) e ∙ law p (subst IsTable et is) typed depth v
kept_run p table (Err x) et is typed law e = tt

pub kept_reachable : {E : Type 0} (p : ProgramTree) (table : Table) (o : Result Parts E) → table ≡ table_of_program p → IsTable table → IsTypedProgram p → ((q : ProgramTree) → IsTable (table_of_program q) → IsTypedProgram q → AreReachable (infer_program q)) → IfOk o (λ core. core_of core ≡ infer_program p) → IfOk o (λ core. AreReachable (core_of core))
kept_reachable p table (Ok core) et is typed law e = subst AreReachable (sym e) (law p (subst IsTable et is) typed)
kept_reachable p table (Err x) et is typed law e = tt

pub kept_numbered : {E : Type 0} (p : ProgramTree) (o : Result Parts E) → ((q : ProgramTree) → AreNumbered (infer_program q)) → IfOk o (λ core. core_of core ≡ infer_program p) → IfOk o (λ core. AreNumbered (core_of core))
kept_numbered p (Ok core) law e = subst AreNumbered (sym e) (law p)
kept_numbered p (Err x) law e = tt

pub kept_meaning : {E : Type 0} (p : ProgramTree) (table : Table) (o : Result Parts E) → table ≡ table_of_program p → IsTable table → IsTypedProgram p → ((q : ProgramTree) → IsTable (table_of_program q) → IsTypedProgram q → (n : ℕ) → core_calls (infer_program q) n ≡ calls q n) → IfOk o (λ core. core_of core ≡ infer_program p) → IfOk o (λ core. (n : ℕ) → core_calls (core_of core) n ≡ calls p n)
kept_meaning p table (Ok core) et is typed law e = λ n. ap (λ z. core_calls z n) e ∙ law p (subst IsTable et is) typed n
kept_meaning p table (Err x) et is typed law e = tt

pub kept_main : {E : Type 0} (p : ProgramTree) (table : Table) (o : Result Parts E) → table ≡ table_of_program p → IsTable table → IsTypedProgram p → ((q : ProgramTree) → IsTable (table_of_program q) → IsTypedProgram q → (depth : ℕ) (v : Datum) → core_run (infer_program q) depth v ≡ run q depth v) → IfOk o (λ core. core_of core ≡ infer_program p) → IfOk o (λ core. (depth : ℕ) (v : Datum) → core_run (core_of core) depth v ≡ run p depth v)
kept_main p table (Ok core) et is typed law e = λ depth v. ap (λ z. core_run z depth v) e ∙ law p (subst IsTable et is) typed depth v
kept_main p table (Err x) et is typed law e = tt
