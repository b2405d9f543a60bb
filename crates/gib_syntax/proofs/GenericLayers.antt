-- What an arena tells of nodes, as the trees of expressions with the words of their types.
use Rattle.std.proofs.Common.{◌≡◌, ℕ, zero, suc, ◌-◌, ◌+◌, ◌≤◌, List, [], ◌∷◌, Option, Some, None, refl, sym, ap, ◌∙◌, subst, arith, ◌++◌, length, take, drop, min, ⊎_elim, length-append}
use Rattle.std.proofs.str.Laws.{order}
use Rattle.std.proofs.lemmas.List.{take-append-le, drop-append-le, length-drop, take_all}
use Rattle.std.proofs.Math.Seq.{drop-append_seam}
use Rattle.std.proofs.Math.ListN.{drop_of_length-le}
use Rattle.std.specs.Prelude.{slice_get}
use Rattle.gib_nodes.specs.Nodes.{IsPut, tree_at}
use Rattle.gib_nodes.specs.Nodes as arena
use Rattle.gib_nodes.proofs.Layers as layers
use Rattle.gib_syntax.specs.declared.generic.GenericNode.{GenericNode as Node}
use Rattle.gib_syntax.specs.declared.generic.GenericNode.TheVariants as n
use Rattle.gib_syntax.specs.declared.written.Word.{Word}
use Rattle.gib_syntax.specs.declared.written.Run.{Run}
use Rattle.gib_syntax.specs.GenericTree.{GenericExpression as Expression, GenericCall, GenericMake}
use Rattle.gib_syntax.specs.Words.{run_words, stack_of, all_types, IsRunIn, IsTypesRun, IsTypeRun}
use Rattle.gib_syntax.specs.GenericArena.{Arena, PartsBelow, IsRunWithin, IsArena, arguments_from, layer, layer_of, nothing_of, tree_of, Opens, Grows, Makes}
use Rattle.gib_syntax.specs.GenericLaws.{layer_same_if, layer_of_same_if}

-- A node is the same layer over more words.
layer_words : (old new : List Word) (f : ℕ → Expression) (node : Node) → ((run : Run) → IsRunIn old run → run_words new run ≡ run_words old run) → IsRunWithin node old → layer new f (Some node) ≡ layer old f (Some node)
layer_words old new f (n.Variable x) runs h = refl
layer_words old new f (n.Whole p v) runs h = refl
layer_words old new f (n.Truth p b) runs h = refl
layer_words old new f (n.Paren p a) runs h = refl
layer_words old new f (n.Operation p o a b) runs h = refl
layer_words old new f (n.Call x ws v) runs h = ap (λ ys. GenericCall x (all_types (stack_of ys)) (arguments_from f v.items)) (runs ws h.0)
layer_words old new f (n.Make x ws v) runs h = ap (λ ys. GenericMake x (all_types (stack_of ys)) (arguments_from f v.items)) (runs ws h.0)
layer_words old new f (n.Let p xs a b) runs h = refl
layer_words old new f (n.LetPar p l r b) runs h = refl
layer_words old new f (n.If p a b c) runs h = refl
layer_words old new f (n.Case p x arms) runs h = refl
layer_words old new f (n.Tuple p xs) runs h = refl

-- The node of a number tells its tree.
pub tree_of-node : (a : Arena) (id : ℕ) (node : Node) → IsArena a → slice_get a.nodes id ≡ Some node → tree_of a id ≡ layer a.words (tree_of a) (Some node)
unfolding tree_of
tree_of-node a id node all e = ap (λ t. t a.words) (layers.tree_of-node Node (List Word → Expression) PartsBelow nothing_of layer_of layer_of_same_if a.nodes id node (record { below = all.below }) e)

-- Runs of words stay where more words follow.
pub run_front : (words more : List Word) (run : Run) → IsRunIn words run → run_words (words ++ more) run ≡ run_words words run
run_front words more run h =
    let first : drop run.start (words ++ more) ≡ drop run.start words ++ more = drop-append-le run.start words more (omega (arith, h.0, h.1)) in
    let len = length-drop run.start words in
    ap (take (run.end - run.start)) first ∙ take-append-le (run.end - run.start) (drop run.start words) more (omega (arith, h.0, h.1, len))

layer_longer : (old new : List Word) (f : ℕ → Expression) (o : Option Node) → ((run : Run) → IsRunIn old run → run_words new run ≡ run_words old run) → ((node : Node) → o ≡ Some node → IsRunWithin node old) → layer new f o ≡ layer old f o
layer_longer old new f None runs within = refl
layer_longer old new f (Some node) runs within = layer_words old new f node runs (within node refl)

words_at : (ns : List Node) (old new : List Word) → IsArena (record { words = old; nodes = ns }) → ((run : Run) → IsRunIn old run → run_words new run ≡ run_words old run) → (k id : ℕ) → tree_at nothing_of layer_of k ns id new ≡ tree_at nothing_of layer_of k ns id old
unfolding tree_at
words_at ns old new all runs zero id = refl
words_at ns old new all runs (suc k) id =
    layer_longer old new (λ b. tree_at nothing_of layer_of k ns b new) (slice_get ns id) runs (all.within id)
    ∙ layer_same_if old (λ b. tree_at nothing_of layer_of k ns b new) (λ b. tree_at nothing_of layer_of k ns b old) id (slice_get ns id) (all.below id) (λ b lt. words_at ns old new all runs k b)

-- Trees stay where more words follow.
words_tree : (ns : List Node) (old new : List Word) → IsArena (record { words = old; nodes = ns }) → ((run : Run) → IsRunIn old run → run_words new run ≡ run_words old run) → (id : ℕ) → tree_of (record { words = new; nodes = ns }) id ≡ tree_of (record { words = old; nodes = ns }) id
unfolding tree_of arena.tree_of
words_tree ns old new all runs id = words_at ns old new all runs (suc id) id

-- More words.
abbrev with_words : Arena → List Word → Arena
with_words a more = record { words = a.words ++ more; nodes = a.nodes }

-- A run of types stays one where more words follow.
run_longer : (words more : List Word) (run : Run) → IsRunIn words run → IsRunIn (words ++ more) run
run_longer words more run h = let len = length-append words more in (h.0, omega (arith, h.1, len))

within_longer : (words more : List Word) (node : Node) → IsRunWithin node words → IsRunWithin node (words ++ more)
within_longer words more (n.Variable x) h = h
within_longer words more (n.Whole p v) h = h
within_longer words more (n.Truth p b) h = h
within_longer words more (n.Paren p a) h = h
within_longer words more (n.Operation p o a b) h = h
within_longer words more (n.Call x ws v) h = (run_longer words more ws h.0, h.1, run_front words more ws h.0 ∙ h.2)
within_longer words more (n.Make x ws v) h = (run_longer words more ws h.0, h.1, run_front words more ws h.0 ∙ h.2)
within_longer words more (n.Let p xs a b) h = h
within_longer words more (n.LetPar p l r b) h = h
within_longer words more (n.If p a b c) h = h
within_longer words more (n.Case p x arms) h = h
within_longer words more (n.Tuple p xs) h = h

pub words_arena : (a : Arena) (more : List Word) → IsArena a → IsArena (with_words a more)
words_arena a more all = record { below = all.below; within = λ id node e. within_longer a.words more node (all.within id node e) }

pub words_grow : (a : Arena) (more : List Word) → IsArena a → Grows a (with_words a more)
words_grow a more all =
    let len = length-append a.words more in
    record {
      longer = omega arith;
      same = λ id lt. words_tree a.nodes a.words (a.words ++ more) all (λ run h. run_front a.words more run h) id;
      runs = λ run h. (run_longer a.words more run h, run_front a.words more run h);
    }

-- The new words are those of their run.
pub new_run : (words more : List Word) (start end : ℕ) → start ≡ length words → end ≡ length words + length more → run_words (words ++ more) (record { start = start; end = end }) ≡ more
new_run words more start end is ends =
    let behind : drop start (words ++ more) ≡ more = ap (λ k. drop k (words ++ more)) is ∙ drop-append_seam words more in
    ap (take (end - start)) behind ∙ take_all (end - start) more (omega (arith, is, ends))

-- A run that is cut at the last word has the same words.
pub cut_run : (words : List Word) (start end a b : ℕ) → b ≡ min end (length words) → a ≡ min start b → take (b - a) (drop a words) ≡ take (end - start) (drop start words)
cut_run words start end a b ib ia =
    ⊎_elim
    (λ lt.
    ⊎_elim
    (λ low. let here : a ≡ start = omega (arith, ib, ia) in
    let len = length-drop start words in
    let all : length (drop start words) ≤ b - a = omega (arith, ib, ia, len) in
    let more : length (drop start words) ≤ end - start = omega (arith, ib, ia, len) in
    ap (λ k. take (b - a) (drop k words)) here ∙ take_all (b - a) (drop start words) all ∙ sym (take_all (end - start) (drop start words) more))
    (λ high.
    let none : b - a ≡ 0 = omega (arith, ib, ia) in
    ap (λ k. take k (drop a words)) none ∙ sym (take_none (end - start) start words high))
    (order start (suc (length words))))
    (λ le.
    let ends : b ≡ end = omega (arith, ib) in
    ⊎_elim
    (λ low. let here : a ≡ start = omega (arith, ia, ends) in
    (λ k. take (ends k - here k) (drop (here k) words)))
    (λ high.
    let none : b - a ≡ 0 = omega (arith, ia, ends) in
    let zero_len : end - start ≡ 0 = omega arith in
    ap (λ k. take k (drop a words)) none ∙ sym (ap (λ k. take k (drop start words)) zero_len))
    (order start (suc end)))
    (order (length words) end)
  where
    take_none : (k start : ℕ) (words : List Word) → suc (length words) ≤ start → take k (drop start words) ≡ []
    take_none k start words high =
        let gone : drop start words ≡ [] = drop_of_length-le words (omega arith) in
        ap (take k) gone ∙ take_all k [] (omega arith)

-- The same, of what a clause sees.
pub opens_view : (a v : Arena) (id : ℕ) (node : Node) → a ≡ v → arena.tree_of nothing_of layer_of a.nodes id ≡ layer_of (arena.tree_of nothing_of layer_of a.nodes) (Some node) → PartsBelow node id → Opens v id node
unfolding tree_of
opens_view a v id node e opens below =
    (subst (λ (l : Arena). arena.tree_of nothing_of layer_of l.nodes id l.words ≡ layer l.words (λ b. arena.tree_of nothing_of layer_of l.nodes b l.words) (Some node)) e (ap (λ t. t a.words) opens), below)

pub put_view : (a v new : Arena) (id : ℕ) (node : Node) → a ≡ v → IsPut nothing_of layer_of a.nodes new.nodes id node → new.words ≡ a.words → Makes v new id node
unfolding tree_of
put_view a v new id node e put same =
    let Q : Arena → Type 0 = λ l. Makes l new id node in
    let longer = ap length put.nodes in
    let len = length-append a.nodes (node ∷ []) in
    subst Q e (record {
      grows = record {
        longer = omega (arith, longer, len);
        same = λ b lt. (λ k. put.same b lt k (same k));
        runs = λ run h. (subst (λ ws. IsRunIn ws run) (sym same) h, ap (λ ws. run_words ws run) same);
      };
      inside = omega (arith, put.place, longer, len);
      tree = (λ k. put.tree k (same k));
    })

pub grow_view : (a v new : Arena) (more : List Word) → a ≡ v → IsArena a → new ≡ with_words a more → Grows v new
grow_view a v new more e all made =
    let Q : Arena → Type 0 = λ l. Grows l new in
    subst Q e (subst (Grows a) (sym made) (words_grow a more all))

-- What was read of a node of the arena.
pub within_view : (a v : Arena) (id : ℕ) (node : Node) → a ≡ v → IsArena a → slice_get a.nodes id ≡ Some node → IsRunWithin node v.words
within_view a v id node e all found =
    let P : Arena → Type 0 = λ l. IsRunWithin node l.words in
    subst P e (all.within id node found)

-- Runs of types stay such where the arena grows, with the same types.
pub types_run_grows : (old new : Arena) (run : Run) → Grows old new → IsTypesRun old.words run → IsTypesRun new.words run
types_run_grows old new run g h = let r = g.runs run h.0 in (r.0, h.1, r.1 ∙ h.2)

pub type_run_grows : (old new : Arena) (run : Run) → Grows old new → IsTypeRun old.words run → IsTypeRun new.words run
type_run_grows old new run g h = let r = g.runs run h.0 in (r.0, h.1, r.1 ∙ h.2)

pub put_keeps : (a v new : Arena) (node : Node) → a ≡ v → IsArena a → PartsBelow node (length v.nodes) → IsRunWithin node v.words → new ≡ record { words = a.words; nodes = a.nodes ++ node ∷ [] } → IsArena new
put_keeps a v new node e all below within made =
    let P : Arena → Type 0 = λ l. PartsBelow node (length l.nodes) in
    let R : Arena → Type 0 = λ l. IsRunWithin node l.words in
    subst IsArena (sym made) (record {
      below = layers.put_each PartsBelow a.nodes node all.below (subst P (sym e) below);
      within = layers.put_each (λ x _. IsRunWithin x a.words) a.nodes node all.within (subst R (sym e) within);
    })

pub words_keep : (a new : Arena) (more : List Word) → IsArena a → new ≡ with_words a more → IsArena new
words_keep a new more all made = subst IsArena (sym made) (words_arena a more all)
