-- Uses that are asked for, one after another.
use Rattle.std.proofs.Common.{◌≡◌, ℕ, Bool, true, false, List, [], ◌∷◌, ◌++◌, length, map, Some, None, refl, sym, ap, ap₂, ◌∙◌, subst, append_assoc, append-nil}
use Rattle.std.specs.Prelude.{Result, Ok, Err, Option}
use Rattle.gib_base.specs.declared.Span.{Span}
use Rattle.gib_types.specs.declared.types.TypeId.{TypeId}
use Rattle.gib_types.specs.Form.{Form, Forms, Meant, has_long}
use Rattle.gib_types.specs.Types.{form_at, forms_at, AreOnce, GrowsTo}
use Rattle.gib_syntax.specs.Forms.{formed, formed_all, WrittenType}
use Rattle.gib_syntax.specs.Words.{all_types, stack_of}
use Rattle.gib_syntax.specs.GenericTree.{GenericGlobals}
use Rattle.gib_mono.specs.declared.found.CopyKey.{CopyKey}
use Rattle.gib_mono.specs.declared.found.MonoFault.{MonoFault}
use Rattle.gib_mono.specs.declared.found.MonoFault.TheVariants as m
use Rattle.gib_mono.specs.declared.reading.Use.{Use}
use Rattle.gib_mono.specs.declared.search.Search.{Search}
use Rattle.gib_mono.specs.Walk.{Ask, Copy, asked, add_new, add_short, add_ask, add_asks, is_found, constructors_in, with_found, written_asks, writtens_asks, types_asks}
use Rattle.gib_mono.specs.Found.{Kept, AreDeclarations, copy_from, KeyBelow, IsFound, Adds}
use Rattle.gib_mono.specs.Contexts.{forms, meaning, ReadsIn}
use Rattle.gib_mono.specs.Reading.{use_ask, listed, AreUsesBelow}
use Rattle.gib_mono.specs.Searching.{Reached, IsAt, AddsKey, AsksOne, AsksUses, Asks}
use Rattle.gib_mono.proofs.Keys.{found_grows}
use Rattle.gib_mono.proofs.Steps.{with_with, with_same, asks_append}

pub reached_same : (g : GenericGlobals) (fs : List Form) (kept : Kept) (limit : Option Span) (r s : Result (List Copy) Span) → r ≡ s → Reached g fs kept limit r → Reached g fs kept limit s
reached_same g fs kept limit r s e h = subst (Reached g fs kept limit) e h

-- more types leave what was reached
pub reached_grows : (g : GenericGlobals) (fs new : List Form) (kept : Kept) (limit : Option Span) (r : Result (List Copy) Span) → GrowsTo fs new → Reached g fs kept limit r → Reached g new kept limit r
reached_grows g fs new kept None r e h = (h.0, h.1, found_grows g fs new kept h.0 e h.2)
reached_grows g fs new kept (Some s) r e h = h

-- after a limit nothing is asked for
pub reached_over : (g : GenericGlobals) (fs : List Form) (kept : Kept) (s : Span) (r : Result (List Copy) Span) (go : List Copy → Result (List Copy) Span) → Reached g fs kept (Some s) r → Reached g fs kept (Some s) (with_found r go)
reached_over g fs kept s r go h = ap (λ q. with_found q go) h

pub reached_stops : (g : GenericGlobals) (fs : List Form) (kept : Kept) (limit : Option Span) (r : Result (List Copy) Span) (go : List Copy → Result (List Copy) Span) → (s : Span) → limit ≡ Some s → Reached g fs kept limit r → Reached g fs kept limit (with_found r go)
reached_stops g fs kept None r go s e h = absurd cc
reached_stops g fs kept (Some q) r go s e h = ap (λ p. with_found p go) h

-- one step from copies so far
pub reached_step : (g : GenericGlobals) (fs : List Form) (old new : Kept) (limit : Option Span) (r : Result (List Copy) Span) (go : List Copy → Result (List Copy) Span) → Reached g fs old None r
    → ((found : List Copy) → IsFound g fs old found → Reached g fs new limit (go found)) → Reached g fs new limit (with_found r go)
reached_step g fs old new limit r go h step = subst (λ q. Reached g fs new limit (with_found q go)) (sym h.1) (step h.0 h.2)

-- a fault of `add` becomes the limit

pub adds_on : (g : GenericGlobals) (fs : List Form) (u : Unit {0}) (new : Kept) (r : Result (List Copy) Span) → Adds g fs (Ok u) new r → Reached g fs new None r
adds_on g fs u new r h = h

pub adds_over : (g : GenericGlobals) (fs : List Form) (s : Span) (new kept : Kept) (r : Result (List Copy) Span) → Adds g fs (Err (m.Limit s)) new r → Reached g fs kept (Some s) r
adds_over g fs s new kept r h = h

-- one use

pub one_over : (g : GenericGlobals) (fs : List Form) (old kept : Kept) (a : Ask) (span : Span) (r : Result (List Copy) Span) → a.span ≡ span → has_long a.types ≡ true → Reached g fs old None r → Reached g fs kept (Some span) (with_found r (λ found. add_ask g found a))
one_over g fs old kept a span r e long h =
    ap (λ q. with_found q (λ found. add_ask g found a)) h.1 ∙ ap (add_short h.0 (asked g a.function a.name a.types) a.span) long ∙ ap Err e

pub one_unknown : (g : GenericGlobals) (fs : List Form) (old : Kept) (a : Ask) (r : Result (List Copy) Span) → asked g a.function a.name a.types ≡ None → has_long a.types ≡ false → Reached g fs old None r → Reached g fs old None (with_found r (λ found. add_ask g found a))
one_unknown g fs old a r none short h =
    (h.0, ap (λ q. with_found q (λ found. add_ask g found a)) h.1 ∙ ap (add_short h.0 (asked g a.function a.name a.types) a.span) short ∙ ap (λ o. add_short h.0 o a.span false) none, h.2)

pub one_added : (g : GenericGlobals) (fs : List Form) (old new : Kept) (limit : Option Span) (a : Ask) (c : Copy) (span : Span) (r : Result (List Copy) Span) → asked g a.function a.name a.types ≡ Some c → has_long a.types ≡ false → a.span ≡ span
    → ((found : List Copy) → IsFound g fs old found → Reached g fs new limit (add_new found c span (is_found found c))) → Reached g fs old None r → Reached g fs new limit (with_found r (λ found. add_ask g found a))
one_added g fs old new limit a c span r some short e step h = reached_step g fs old new limit r (λ found. add_ask g found a) h
    (λ found is. subst (Reached g fs new limit) (sym (ap (add_short found (asked g a.function a.name a.types) a.span) short ∙ ap (λ o. add_short found o a.span false) some ∙ ap (λ s. add_new found c s (is_found found c)) e)) (step found is))

-- several uses

pub asks_then : (g : GenericGlobals) (r : Result (List Copy) Span) (xs ys : List Ask) → with_found (with_found r (λ found. add_asks g found xs)) (λ found. add_asks g found ys) ≡ with_found r (λ found. add_asks g found (xs ++ ys))
asks_then g r xs ys = sym (with_with r (λ found. add_asks g found xs) (λ found. add_asks g found ys)) ∙ with_same r (λ next. with_found (add_asks g next xs) (λ found. add_asks g found ys)) (λ found. add_asks g found (xs ++ ys)) (λ next. sym (asks_append g next xs ys))

pub asks_nothing : (g : GenericGlobals) (r : Result (List Copy) Span) → r ≡ with_found r (λ found. add_asks g found [])
asks_nothing g (Ok found) = refl
asks_nothing g (Err s) = refl

pub ask_then : (g : GenericGlobals) (r : Result (List Copy) Span) (a : Ask) (ys : List Ask) → with_found (with_found r (λ found. add_ask g found a)) (λ found. add_asks g found ys) ≡ with_found r (λ found. add_asks g found (a ∷ ys))
ask_then g r a ys = sym (with_with r (λ found. add_ask g found a) (λ found. add_asks g found ys))

-- uses that were read

pub record UsesSoFar (g : GenericGlobals) (old now : Search) (all left : List Use) : Type 0 where
  pub context : now.context ≡ old.context
  pub at : (r : Result (List Copy) Span) → IsAt g old r → (q : Result (List Copy) Span) × IsAt g now q × (with_found q (λ found. add_asks g found (map (use_ask (forms old.context)) left)) ≡ with_found r (λ found. add_asks g found (map (use_ask (forms old.context)) all)))
  pub below : AreUsesBelow (length now.context.types) left

pub uses_start : (g : GenericGlobals) (old : Search) (all : List Use) → AreUsesBelow (length old.context.types) all → UsesSoFar g old old all all
uses_start g old all h = record { context = refl; at = λ r at. (r, at, refl); below = h }

pub uses_next : (g : GenericGlobals) (old now new : Search) (all before left : List Use) (u : Use) → UsesSoFar g old now all before → before ≡ u ∷ left → AsksOne g now new (use_ask (forms now.context) u) → UsesSoFar g old new all left
uses_next g old now new all before left u h e one =
    let below = subst (AreUsesBelow (length now.context.types)) e h.below in
    record {
      context = one.context ∙ h.context;
      at = λ r at. let q = h.at r at in (
        with_found q.0 (λ found. add_ask g found (use_ask (forms old.context) u)),
        subst (λ k. IsAt g new (with_found q.0 (λ found. add_ask g found (use_ask (forms k) u)))) h.context (one.at q.0 q.1),
        ask_then g q.0 (use_ask (forms old.context) u) (map (use_ask (forms old.context)) left) ∙ ap (λ us. with_found q.0 (λ found. add_asks g found (map (use_ask (forms old.context)) us))) (sym e) ∙ q.2,
      );
      below = subst (λ k. AreUsesBelow (length k.types) left) (sym one.context) below.1;
    }

pub uses_end : (g : GenericGlobals) (old now : Search) (all left : List Use) → UsesSoFar g old now all left → left ≡ [] → AsksUses g old now all
uses_end g old now all left h e = record {
  context = h.context;
  at = λ r at. let q = h.at r at in
      subst (IsAt g now) (asks_nothing g q.0 ∙ ap (λ us. with_found q.0 (λ found. add_asks g found (map (use_ask (forms old.context)) us))) (sym e) ∙ q.2) q.1;
}

-- words that were read and asked for

pub types_asked : (g : GenericGlobals) (old read new : Search) (words : List _) (r : _) → ReadsIn old.context read.context (meaning old.context) words r → read.found ≡ old.found → read.limit ≡ old.limit → AsksUses g read new r.uses → Asks g old new (λ n. types_asks n (stack_of words))
types_asked g old read new words r reads same_found same_limit uses = record {
  on = λ n q stands. record {
    meaning = ap meaning uses.context ∙ reads.keeps.meaning ∙ stands.meaning;
    at = subst (λ as'. IsAt g new (with_found q (λ found. add_asks g found as'))) (reads.uses ∙ ap (λ k. types_asks k (stack_of words)) stands.meaning)
        (uses.at q (subst (λ l. Reached g (forms read.context) read.found l q) (sym same_limit) (subst (λ f. Reached g (forms read.context) f old.limit q) (sym same_found) (reached_grows g (forms old.context) (forms read.context) old.found old.limit q reads.keeps.grows stands.at))));
  };
}

-- types that were read, as types of a use

all_formed : (m : Meant) (fs : List Form) (is : List TypeId) (st : List WrittenType) → listed fs is ≡ map (formed m) st → forms_at fs is ≡ formed_all m (all_types st)
all_formed m fs [] [] e = refl
all_formed m fs [] (x ∷ st) e = absurd cc
all_formed m fs (i ∷ is) [] e = absurd cc
all_formed m fs (i ∷ is) (x ∷ st) e =
    ap₂ Rattle.gib_types.specs.Form.MoreForms (head_same (form_at fs i.0) (formed m x) (listed fs is) (map (formed m) st) e) (all_formed m fs is st (tail_same (form_at fs i.0) (formed m x) (listed fs is) (map (formed m) st) e)) where
      head_same : (a b : Form) (as' bs : List Form) → a ∷ as' ≡ b ∷ bs → a ≡ b
      head_same a b as' bs h = cc

      tail_same : (a b : Form) (as' bs : List Form) → a ∷ as' ≡ b ∷ bs → as' ≡ bs
      tail_same a b as' bs h = cc

pub types_read : (m : Meant) (fs : List Form) (is : List TypeId) (st : List WrittenType) → listed fs is ≡ map (formed m) st → forms_at fs is ≡ formed_all m (all_types st)
types_read m fs is st e = all_formed m fs is st e

asks_all : (m : Meant) (st : List WrittenType) → types_asks m st ≡ writtens_asks m (all_types st)
asks_all m [] = refl
asks_all m (x ∷ st) = ap (λ l. written_asks m x ++ l) (asks_all m st)

-- a name with the types behind it

pub named_asked : (g : GenericGlobals) (old read asked new : Search) (words : List _) (r : _) (function : Bool) (name : ℕ) (span : Span) (types : List TypeId) → ReadsIn old.context read.context (meaning old.context) words r → read.found ≡ old.found → read.limit ≡ old.limit
    → types ≡ r.types → AsksOne g read asked (record { function = function; name = name; types = forms_at (forms read.context) types; span = span }) → AsksUses g asked new r.uses
    → Asks g old new (λ n. record { function = function; name = name; types = formed_all n (all_types (stack_of words)); span = span } ∷ writtens_asks n (all_types (stack_of words)))
named_asked g old read asked new words r function name span types reads same_found same_limit e one uses = record {
  on = λ n q stands.
      let from = subst (λ l. Reached g (forms read.context) read.found l q) (sym same_limit) (subst (λ f. Reached g (forms read.context) f old.limit q) (sym same_found) (reached_grows g (forms old.context) (forms read.context) old.found old.limit q reads.keeps.grows stands.at)) in
      let a : Ask = record { function = function; name = name; types = forms_at (forms read.context) types; span = span } in
      let ts : forms_at (forms read.context) types ≡ formed_all n (all_types (stack_of words)) = ap (forms_at (forms read.context)) e ∙ types_read (meaning old.context) (forms read.context) r.types (stack_of words) reads.types ∙ ap (λ k. formed_all k (all_types (stack_of words))) stands.meaning in
      let us : map (use_ask (forms asked.context)) r.uses ≡ writtens_asks n (all_types (stack_of words)) = ap (λ k. map (use_ask (forms k)) r.uses) one.context ∙ reads.uses ∙ ap (λ k. types_asks k (stack_of words)) stands.meaning ∙ asks_all n (stack_of words) in
      record {
        meaning = ap meaning (uses.context ∙ one.context) ∙ reads.keeps.meaning ∙ stands.meaning;
        at = subst (IsAt g new) (ask_then g q a (map (use_ask (forms asked.context)) r.uses)
            ∙ ap₂ (λ (z : Forms) (l : List Ask). with_found q (λ found. add_asks g found (record { function = function; name = name; types = z; span = span } ∷ l))) ts us)
            (uses.at (with_found q (λ found. add_ask g found a)) (one.at q from));
      };
}

-- steps of the walk

pub asks_both : (g : GenericGlobals) (old mid new : Search) (xs ys : Meant → List Ask) → Asks g old mid xs → Asks g mid new ys → Asks g old new (λ n. xs n ++ ys n)
asks_both g old mid new xs ys a b = record {
  on = λ n q stands.
      let last = b.on n (with_found q (λ found. add_asks g found (xs n))) (a.on n q stands) in
      record { meaning = last.meaning; at = subst (IsAt g new) (asks_then g q (xs n) (ys n)) last.at };
}

pub asks_none : (g : GenericGlobals) (s : Search) → Asks g s s (λ n. [])
asks_none g s = record { on = λ n q stands. record { meaning = stands.meaning; at = subst (IsAt g s) (asks_nothing g q) stands.at } }

pub asks_same : (g : GenericGlobals) (old new : Search) (xs ys : Meant → List Ask) → ((n : Meant) → xs n ≡ ys n) → Asks g old new xs → Asks g old new ys
asks_same g old new xs ys e a = record {
  on = λ n q stands. let last = a.on n q stands in record { meaning = last.meaning; at = subst (λ as'. IsAt g new (with_found q (λ found. add_asks g found as'))) (e n) last.at };
}

pub record AskedSoFar (g : GenericGlobals) (old now : Search) (all left : Meant → List Ask) : Type 0 where
  pub done' : Meant → List Ask
  pub asks : Asks g old now done'
  pub whole : (n : Meant) → done' n ++ left n ≡ all n

pub asked_start : (g : GenericGlobals) (old : Search) (all : Meant → List Ask) → AskedSoFar g old old all all
asked_start g old all = record { done' = λ n. []; asks = asks_none g old; whole = λ n. refl }

pub asked_next : (g : GenericGlobals) (old now new : Search) (all before left xs : Meant → List Ask) → AskedSoFar g old now all before → ((n : Meant) → before n ≡ xs n ++ left n) → Asks g now new xs → AskedSoFar g old new all left
asked_next g old now new all before left xs h e a = record {
  done' = λ n. h.done' n ++ xs n;
  asks = asks_both g old now new h.done' xs h.asks a;
  whole = λ n. append_assoc (h.done' n) (xs n) (left n) ∙ ap (λ l. h.done' n ++ l) (sym (e n)) ∙ h.whole n;
}

pub asked_end : (g : GenericGlobals) (old now : Search) (all left : Meant → List Ask) → AskedSoFar g old now all left → ((n : Meant) → left n ≡ []) → Asks g old now all
asked_end g old now all left h e = asks_same g old now h.done' all (λ n. sym (append-nil (h.done' n)) ∙ ap (λ l. h.done' n ++ l) (sym (e n)) ∙ h.whole n) h.asks

-- a key that was added is a use

pub none_is : {A : Type 0} (o : Option A) → Rattle.std.specs.Prelude.is_some o ≡ false → o ≡ None
none_is None e = refl
none_is (Some x) e = absurd cc

pub if_ok : {A E : Type 0} (P Q : A → Type 0) (r : Result A E) → ((x : A) → P x → Q x) → Rattle.std.specs.Prelude.IfOk r P → Rattle.std.specs.Prelude.IfOk r Q
if_ok P Q (Ok x) f h = f x h
if_ok P Q (Err e) f h = h

pub key_asked : (g : GenericGlobals) (old new : Search) (key : CopyKey) (constructors : ℕ) (span : Span) (a : Ask) (c : Copy) → AreDeclarations g → AreOnce (forms old.context) → KeyBelow (length (forms old.context)) key
    → copy_from g (forms old.context) key ≡ Some c → asked g a.function a.name a.types ≡ Some c → constructors_in (c ∷ []) ≡ constructors → has_long a.types ≡ false → a.span ≡ span → old.limit ≡ None → AddsKey old new key constructors span → AsksOne g old new a
key_asked g old new key constructors span a c decls once below is asks count short place on adds = record {
  context = adds.context;
  at = λ r at. subst (λ q. Reached g (forms q) new.found new.limit (with_found r (λ found. add_ask g found a))) (sym adds.context)
      (one_added g (forms old.context) old.found new.found new.limit a c span r asks short place
      (λ found kept. subst (λ q. Reached g (forms q) new.found new.limit (add_new found c span (is_found found c))) adds.context (adds.added g found c decls once below is count kept))
      (subst (λ l. Reached g (forms old.context) old.found l r) on at));
}

pub err_added : (g : GenericGlobals) (fs : List Form) (new kept : Kept) (r : Result (List Copy) Span) (f : MonoFault) (place : Span) → f ≡ m.Limit place → Adds g fs (Err f) new r → Reached g fs kept (Some place) r
err_added g fs new kept r f place e h = subst (λ q. Adds g fs (Err q) new r) e h
