-- Uses one after another.
use Rattle.std.proofs.Common.{◌≡◌, List, [], ◌∷◌, ◌++◌, refl, sym, ap, ◌∙◌, subst}
use Rattle.std.specs.Prelude.{Result, Ok, Err}
use Rattle.gib_base.specs.declared.Span.{Span}
use Rattle.gib_mono.specs.declared.found.MonoFault.{MonoFault}
use Rattle.gib_mono.specs.declared.found.MonoFault.TheVariants as m
use Rattle.gib_mono.specs.Found.{Kept, IsFound, Adds}
use Rattle.gib_syntax.specs.Forms.{Form}
use Rattle.gib_syntax.specs.GenericTree.{GenericGlobals}
use Rattle.gib_mono.specs.Walk.{Ask, Copy, add_ask, add_asks, with_found}

pub goes_on : (g : GenericGlobals) (fs new : List Form) (kept after : Kept) (u : Unit {0}) (result : Result (Unit {0}) MonoFault) (r : Result (List Copy) Span) (go : List Copy → Result (List Copy) Span)
    → Adds g fs (Ok u) kept r → ((next : List Copy) → IsFound g fs kept next → Adds g new result after (go next)) → Adds g new result after (with_found r go)
goes_on g fs new kept after u result r go a h = subst (λ s. Adds g new result after (with_found s go)) (sym a.1) (h a.0 a.2)

pub ends : (g : GenericGlobals) (fs : List Form) (kept : Kept) (e : MonoFault) (r : Result (List Copy) Span) (go : List Copy → Result (List Copy) Span) → Adds g fs (Err e) kept r → Adds g fs (Err e) kept (with_found r go)
ends g fs kept m.Memory r go a = tt
ends g fs kept (m.Limit span) r go a = ap (λ s. with_found s go) a

pub with_with : (r : Result (List Copy) Span) (f h : List Copy → Result (List Copy) Span) → with_found r (λ next. with_found (f next) h) ≡ with_found (with_found r f) h
with_with (Ok found) f h = refl
with_with (Err span) f h = refl

pub with_same : (r : Result (List Copy) Span) (f h : List Copy → Result (List Copy) Span) → ((next : List Copy) → f next ≡ h next) → with_found r f ≡ with_found r h
with_same (Ok found) f h e = e found
with_same (Err span) f h e = refl

pub asks_append : (g : GenericGlobals) (found : List Copy) (as' bs : List Ask) → add_asks g found (as' ++ bs) ≡ with_found (add_asks g found as') (λ next. add_asks g next bs)
asks_append g found [] bs = refl
asks_append g found (a ∷ as') bs =
    with_same (add_ask g found a) (λ next. add_asks g next (as' ++ bs)) (λ next. with_found (add_asks g next as') (λ last. add_asks g last bs)) (λ next. asks_append g next as' bs)
    ∙ with_with (add_ask g found a) (λ next. add_asks g next as') (λ last. add_asks g last bs)
