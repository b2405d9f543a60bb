use Rattle.std.proofs.Common.{◌≡◌, ◌<◌, Some, length, slice_get, refl, sym, ap, ◌∙◌, subst}
use Rattle.gib_mono.specs.declared.found.CopyKey.TheVariants as k
use Rattle.gib_mono.specs.Found.{Kept, AreAlike}
use Rattle.gib_mono.proofs.Sourcing.{there_is}
use Rattle.gib_mono.proofs.found.Found.copy_key.Goals as goal

pub returns-in_ok-types-in-Data : goal.returns-in_ok-types-in-Data
returns-in_ok-types-in-Data c =
    let s : c.as_slice.result.now ≡ c.args.self.now.keys = c.as_slice.ensures.keys ∙ ap (λ (q : Kept). q.keys) c.self.view_is in (
      c.index-as_slice-place.result,
      subst (λ ks. slice_get ks c.args.place ≡ Some c.index-as_slice-place.result) s (there_is c.as_slice.result.now c.args.place c.index-as_slice-place.result (subst (λ ks. c.args.place < length ks) (sym s) c.requires) c.index-as_slice-place.is),
      subst (λ q. AreAlike q (k.Data c.in-Data.declared c.in_ok-types-in-Data.types)) (sym c.in-Data.is) (refl, sym (c.in_ok-types-in-Data.ensures.items ∙ c.deref.ensures.value)),
    )

pub returns-in_ok-types-in-Function : goal.returns-in_ok-types-in-Function
returns-in_ok-types-in-Function c =
    let s : c.as_slice.result.now ≡ c.args.self.now.keys = c.as_slice.ensures.keys ∙ ap (λ (q : Kept). q.keys) c.self.view_is in (
      c.index-as_slice-place.result,
      subst (λ ks. slice_get ks c.args.place ≡ Some c.index-as_slice-place.result) s (there_is c.as_slice.result.now c.args.place c.index-as_slice-place.result (subst (λ ks. c.args.place < length ks) (sym s) c.requires) c.index-as_slice-place.is),
      subst (λ q. AreAlike q (k.Function c.in-Function.declared c.in_ok-types-in-Function.types)) (sym c.in-Function.is) (refl, sym (c.in_ok-types-in-Function.ensures.items ∙ c.deref-in-Function.ensures.value)),
    )
