-- What is made is a typed program and its packed input.
use Rattle.std.proofs.Common.{◌≡◌, ℕ, zero, suc, pos, ◌+◌, ◌*◌, ◌<◌, ◌≤◌, ◌^◌, List, [], ◌++◌, length, map, refl, sym, ap, ◌∙◌, subst, arith, length-append}
use Rattle.std.specs.Fmt.{decimal}
use Rattle.std.proofs.lemmas.Fmt.{length-decimal-le}
use Rattle.std.proofs.Math.Nat.{mod-lt, pow-suc}
use Rattle.std.proofs.Math.Pow.{pow_mono}
use Rattle.std.specs.Prelude.{FitsSigned}
use Rattle.std.specs.Int.{w64}
use Rattle.gib_base.specs.Lexed.{Lexed, IsLexed}
use Rattle.gib_base.specs.Spelling.{tokens_text}
use Rattle.gib_base.specs.Printing.{renumbered}
use Rattle.gib_lex.proofs.Again.{read_again}
use Rattle.gib_types.specs.Tree.{Datum, whole, truth, con, none, more, HasType}
use Rattle.gib_syntax.specs.Spelling.{spell_program, places_of}
use Rattle.gib_syntax.specs.Source.{Spells}
use Rattle.gib_syntax.specs.Plain.{generic_of}
use Rattle.gib_syntax.specs.Declarations.{table_of_program, input_type}
use Rattle.gib_gen.specs.Made.{front, back, source_text, next, grown, packed_tree, file_of, IsProgramWith}
use Rattle.gib_gen.specs.NumberTree.{NumberTree, Leaf, Node, value_of, tree_type}
use Rattle.gib_gen.proofs.Growing.{node_bytes}
use Rattle.gib_gen.proofs.Program.{names, program, placed, fine, shallow, writable, used, same, printed}
use Rattle.gib_gen.proofs.ProgramTyped.{typed}
use Rattle.gib_gen.proofs.Feed.{fed_lexed}
use Rattle.gib_gen.proofs.Works.{works, is_deep}

next_fits : (x : ℕ) → FitsSigned w64 (pos (next x))
next_fits x = let lt : next x < 2 ^ 31 = mod-lt (1103515245 * x + 12345) (omega arith) in omega (arith, lt)

grown_typed : (at : _) (k levels x : ℕ) → HasType (table_of_program (program at k)) (value_of (grown levels x).tree) (input_type (program at k))
grown_typed at k zero x = (refl, (next_fits x, tt))
grown_typed at k (suc levels) x = (refl, (grown_typed at k levels x, (grown_typed at k levels (grown levels x).last, tt)))

-- A value of the type is a leaf with a number or a node of two of them.
trees_alone : (at : _) (k : ℕ) (v : Datum) → HasType (table_of_program (program at k)) v tree_type → (u : NumberTree) × (v ≡ value_of u)
trees_alone at k (whole z) h = absurd h
trees_alone at k (truth b) h = absurd h
trees_alone at k (con zero none) h = absurd h.1
trees_alone at k (con zero (more (whole z) none)) h = (Leaf z, refl)
trees_alone at k (con zero (more (whole z) (more w vs))) h = absurd h.1.1
trees_alone at k (con zero (more (truth b) vs)) h = absurd h.1.0
trees_alone at k (con zero (more (con c ws) vs)) h = absurd h.1.0
trees_alone at k (con (suc zero) none) h = absurd h.1
trees_alone at k (con (suc zero) (more v none)) h = absurd h.1.1
trees_alone at k (con (suc zero) (more v (more w none))) h =
    let left = trees_alone at k v h.1.0 in
    let right = trees_alone at k w h.1.1.0 in
    (Node left.0 right.0, λ i. con 1 (more (left.1 i) (more (right.1 i) none)))
trees_alone at k (con (suc zero) (more v (more w (more x vs)))) h = absurd h.1.1.1
trees_alone at k (con (suc (suc c)) vs) h = absurd cc

-- Ten bytes a leaf, one byte too many.
grown_long : (levels x : ℕ) → length (packed_tree (grown levels x).tree) + 1 ≡ 10 * 2 ^ levels
grown_long zero x = refl
grown_long (suc levels) x =
    let y = (grown levels x).last in
    let a = packed_tree (grown levels x).tree in
    let b = packed_tree (grown levels y).tree in
    let both : length (a ++ b) ≡ length a + length b = length-append a b in
    let bytes : length (packed_tree (grown (suc levels) x).tree) ≡ suc (length (a ++ b)) = ap length (node_bytes (grown levels x).tree (grown levels y).tree) in
    let twice : 2 ^ suc levels ≡ 2 ^ levels * 2 = pow-suc 2 levels in
    omega (arith, both, bytes, twice, grown_long levels x, grown_long levels y)

grown_short : (levels x : ℕ) → levels ≤ 18 → length (packed_tree (grown levels x).tree) < 2 ^ 64
grown_short levels x le = let few : 2 ^ levels ≤ 2 ^ 18 = pow_mono le in omega (arith, few, grown_long levels x)

short : (k : ℕ) → k < 1000 → length (source_text k) ≤ 1048576
short k lt =
    let digits : length (decimal k) ≤ 3 = length-decimal-le 3 k (omega arith) lt (omega (arith, lt)) in
    omega (arith, digits, length-append front (decimal k ++ back), length-append (decimal k) back)

module _ (k : ℕ) (lt : k < 1000) where
  made_spells : (l : Lexed) × Spells (source_text k) l (generic_of (program (places_of l.spans) k))
  made_spells =
      let large : k < 2 ^ 63 = omega (arith, lt) in
      let tokens = spell_program (generic_of (program (places_of []) k)) [] in
      let text = tokens_text names tokens in
      let r = read_again names tokens (writable (places_of []) k large) in
      let named : r.0.names ≡ names = r.1.used ∙ used (places_of []) k in
      let read : r.0.tokens ≡ tokens = r.1.same ∙ ap (λ (ns : List (List ℕ)). map (renumbered names ns) tokens) named ∙ same (places_of []) k in
      let l : Lexed = record { names = r.0.names; tokens = r.0.tokens; spans = r.0.spans; len = length text + 1 } in (
        l,
        record {
          is_lexed = subst (λ (bytes : List ℕ). IsLexed bytes l) (printed (places_of []) k) (fed_lexed text r.0 r.1.lexed);
          derived = record { fine = fine (places_of l.spans) k large; spelled = read };
          placed = placed (places_of l.spans) k;
          short = short k lt;
          few_names = subst (λ (ns : List (List ℕ)). length ns ≤ 65535) (sym named) (omega arith);
          shallow = shallow (places_of l.spans) k;
        },
      )

pub made_is_program : (k levels number : ℕ) → k < 1000 → levels ≤ 18 → IsProgramWith k (source_text k) (file_of (grown levels number).tree) (grown levels number).tree
made_is_program k levels number lt le =
    let m = made_spells k lt in
    let at = places_of m.0.spans in
    record {
      lexed = m.0;
      program = program at k;
      spells = m.1;
      typed = typed at k;
      file = (grown_typed at k levels number, (grown_short levels number le, refl));
      takes = refl;
      gives = refl;
      trees = trees_alone at k;
      works = works at k;
      ends = is_deep at k;
    }
