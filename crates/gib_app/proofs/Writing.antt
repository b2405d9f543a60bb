-- What names hold after writes.
use Rattle.std.proofs.Math.Seq.{take-length}
use Rattle.std.proofs.Common.{◌≡◌, ◌≢◌, ◌∙◌, refl, sym, subst, ap, ℕ, zero, suc, List, [], ◌∷◌, length, take, Bool, true, false, cond, ◌++◌, Option, Some, None, bytes_eq, true≢false}
use Rattle.std.proofs.lemmas.Slice.Eq.{bytes_eq-Decides}
use Rattle.gib_edge.specs.Causes.{told}
use Rattle.gib_edge.specs.Views.{Held}
use Rattle.gib_app.specs.declared.status.Status.{Status}
use Rattle.gib_app.specs.declared.status.Status.TheVariants as status
use Rattle.gib_app.specs.declared.made.Reason.{Reason}
use Rattle.gib_app.specs.declared.made.Reason.TheVariants.{Meant, Full, Long}
use Rattle.gib_app.specs.declared.stop.Stop.TheVariants.{NoValue as Stopped}
use Rattle.gib_words.specs.Plan.{Write, Files}
use Rattle.gib_app.specs.Writes.{with_write, after, AreMade, writes_of}
use Rattle.gib_app.specs.Ending.{StaysAfter}
use Rattle.gib_app.specs.Stopping.{answer_for}

-- Files that are the same before writes are the same after them.

pub after_same : (tells : Bool) (f g : Files) (writes : List Write) → ((name : List ℕ) → g name ≡ f name) → (name : List ℕ) → after tells g writes name ≡ after tells f writes name
after_same tells f g [] e name = e name
after_same tells f g (w ∷ ws) e name =
    after_same tells (with_write tells f w) (with_write tells g w) ws (λ other. ap (λ (h : Held). cond (bytes_eq w.name other) (told tells w.bytes) h) (e other)) name

pub made_from : (tells : Bool) (f g now : Files) (writes : List Write) → ((name : List ℕ) → g name ≡ f name) → AreMade tells g now writes → AreMade tells f now writes
made_from tells f g now writes e h = λ name. h name ∙ after_same tells f g writes e name

pub stays_from : (tells : Bool) (first : List Write) (f g now : Files) (end' : Status) → ((name : List ℕ) → g name ≡ f name) → StaysAfter tells first g now end' → StaysAfter tells first f now end'
stays_from tells first f g now status.Done e h = h
stays_from tells first f g now status.Source e h = made_from tells f g now first e h
stays_from tells first f g now status.Usage e h = made_from tells f g now first e h
stays_from tells first f g now (status.NoValue x) e h = h
stays_from tells first f g now status.Full e h = h
stays_from tells first f g now status.Memory e h = (h.0, made_from tells f g now (take h.0 first) e h.1)
stays_from tells first f g now status.ReadFault e h = made_from tells f g now first e h
stays_from tells first f g now status.WriteFault e h = h
stays_from tells first f g now status.Input e h = made_from tells f g now first e h
stays_from tells first f g now status.Long e h = h

-- Where all of the first writes were made and nothing else, that stays.
pub all_stay : (tells : Bool) (first : List Write) (before now : Files) (end' : Status) → AreMade tells before now first → StaysAfter tells first before now end'
all_stay tells first before now status.Done h = tt
all_stay tells first before now status.Source h = h
all_stay tells first before now status.Usage h = h
all_stay tells first before now (status.NoValue x) h = tt
all_stay tells first before now status.Full h = tt
all_stay tells first before now status.Memory h = (length first, let P : List Write → Type 0 = AreMade tells before now in subst P (sym (take-length first)) h)
all_stay tells first before now status.ReadFault h = h
all_stay tells first before now status.WriteFault h = tt
all_stay tells first before now status.Input h = h
all_stay tells first before now status.Long h = tt

-- what was written first, and then nothing else
pub first_stay : (tells : Bool) (before mid now : Files) (first : List Write) (end' : Status) → AreMade tells before mid first → StaysAfter tells [] mid now end' → StaysAfter tells first before now end'
first_stay tells before mid now first status.Done h k = tt
first_stay tells before mid now first status.Source h k = λ name. k name ∙ h name
first_stay tells before mid now first status.Usage h k = λ name. k name ∙ h name
first_stay tells before mid now first (status.NoValue x) h k = tt
first_stay tells before mid now first status.Full h k = tt
first_stay tells before mid now first status.Memory h k =
    let P : List Write → Type 0 = AreMade tells before now in
    (length first, subst P (sym (take-length first)) (λ name. kept k.0 k.1 name ∙ h name))
  where
    kept : (n : ℕ) → AreMade tells mid now (take n []) → (name : List ℕ) → now name ≡ mid name
    kept zero made = made
    kept (suc n) made = made
first_stay tells before mid now first status.ReadFault h k = λ name. k name ∙ h name
first_stay tells before mid now first status.WriteFault h k = tt
first_stay tells before mid now first status.Input h k = λ name. k name ∙ h name
first_stay tells before mid now first status.Long h k = tt

-- Where there is no value, its cause says what was written.
pub valueless_stay : (tells : Bool) (first : List Write) (before now : Files) (reason : Reason) → StaysAfter tells first before now (answer_for (Stopped reason)).status
valueless_stay tells first before now (Meant x) = tt
valueless_stay tells first before now Full = tt
valueless_stay tells first before now Long = tt

-- One write.

with_one : (tells : Bool) (kept now : Files) (w : Write) → now w.name ≡ told tells w.bytes → ((other : List ℕ) → other ≢ w.name → now other ≡ kept other) → (name : List ℕ) → now name ≡ with_write tells kept w name
with_one tells kept now w here others name = go (bytes_eq w.name name) refl
  where
    go : (b : Bool) → bytes_eq w.name name ≡ b → now name ≡ cond b (told tells w.bytes) (kept name)
    go true e = let same = (bytes_eq-Decides w.name name).0 e in subst (λ (n : List ℕ). now n ≡ told tells w.bytes) same here
    go false e = others name (λ same. true≢false (sym ((bytes_eq-Decides w.name name).1 (sym same)) ∙ e))

pub write_made : (tells : Bool) (kept now : Files) (file target : Option (List ℕ)) (name bytes : List ℕ) → target ≡ Some name → file ≡ Some bytes → now name ≡ told tells bytes
    → ((other : List ℕ) → other ≢ name → now other ≡ kept other) → AreMade tells kept now (writes_of file target)
write_made tells kept now file target name bytes named made here others =
    let P : Option (List ℕ) → Type 0 = λ t. AreMade tells kept now (writes_of file t) in
    let Q : Option (List ℕ) → Type 0 = λ f. AreMade tells kept now (writes_of f (Some name)) in
    subst P (sym named) (subst Q (sym made) (with_one tells kept now (record { name = name; bytes = bytes }) here others))

pub no_target_made : (tells : Bool) (kept : Files) (file target : Option (List ℕ)) → target ≡ None → AreMade tells kept kept (writes_of file target)
no_target_made tells kept None target e = λ name. refl
no_target_made tells kept (Some bytes) None e = λ name. refl
no_target_made tells kept (Some bytes) (Some other) e = cc

pub no_file_made : (tells : Bool) (kept now : Files) (file target : Option (List ℕ)) → file ≡ None → ((name : List ℕ) → now name ≡ kept name) → AreMade tells kept now (writes_of file target)
no_file_made tells kept now file target e same = let P : Option (List ℕ) → Type 0 = λ f. AreMade tells kept now (writes_of f target) in subst P (sym e) same

pub made_no_file : (tells : Bool) (kept now : Files) (file target : Option (List ℕ)) → file ≡ None → AreMade tells kept now (writes_of file target) → (name : List ℕ) → now name ≡ kept name
made_no_file tells kept now file target e h = let P : Option (List ℕ) → Type 0 = λ f. AreMade tells kept now (writes_of f target) in subst P e h

pub written_here : (tells : Bool) (kept now : Files) (name bytes : List ℕ) → AreMade tells kept now (record { name = name; bytes = bytes } ∷ []) → now name ≡ told tells bytes
written_here tells kept now name bytes h = h name ∙ ap (λ (b : Bool). cond b (told tells bytes) (kept name)) ((bytes_eq-Decides name name).1 refl)

-- The last of several writes stands.
pub written_last : (tells : Bool) (kept now : Files) (writes : List Write) (name bytes : List ℕ) → AreMade tells kept now (writes ++ record { name = name; bytes = bytes } ∷ []) → now name ≡ told tells bytes
written_last tells kept now writes name bytes h = h name ∙ go writes kept
  where
    go : (ws : List Write) (f : Files) → after tells f (ws ++ record { name = name; bytes = bytes } ∷ []) name ≡ told tells bytes
    go [] f = ap (λ (b : Bool). cond b (told tells bytes) (f name)) ((bytes_eq-Decides name name).1 refl)
    go (w ∷ ws) f = go ws (with_write tells f w)
